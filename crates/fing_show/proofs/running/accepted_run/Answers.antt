use Rattle.fing_show.proofs.running.accepted_run.Goals as goal

pub show_steps-requires : goal.show_steps-requires
show_steps-requires c = (_, c.requires)
