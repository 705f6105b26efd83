use Rattle.elab_rules.proofs.Given.{ok-map}
use Rattle.fing_show.specs.Inner.Heads.{ShowsProgram}
use Rattle.fing_show.specs.Inner.Judged.{JudgesProgram}
use Rattle.fing_show.specs.Inner.Ran.{RunsProgram, budget_of}
use Rattle.fing_show.proofs.Headed.{both, shown-refused}
use Rattle.fing_show.proofs.Ran.{without-meaning}
use Rattle.fing_show.proofs.Verdicts.{no-meaning}
use Rattle.fing_show.proofs.showing.show_program.Goals as goal

pub returns-in_ok-shown-in-Ok-clause-verdict : goal.returns-in_ok-shown-in-Ok-clause-verdict
returns-in_ok-shown-in-Ok-clause-verdict c = JudgesProgram.meant c.in-Ok.ensures.means

pub returns-in_ok-shown-in-Ok-clause-end : goal.returns-in_ok-shown-in-Ok-clause-end
returns-in_ok-shown-in-Ok-clause-end c = RunsProgram.meant c.in-Ok.ensures.means c.in_ok-shown-in-Ok.ensures.end

pub returns-in-Err-clause-verdict : goal.returns-in-Err-clause-verdict
returns-in-Err-clause-verdict c =
    ok-map c.show_refusal.result c.show_refusal.ensures.verdict (λ s p. no-meaning c.args.program c.in-Err.refusal s.verdict c.in-Err.ensures.refused p.0)

pub returns-in-Err-clause-end : goal.returns-in-Err-clause-end
returns-in-Err-clause-end c =
    ok-map c.show_refusal.result c.show_refusal.ensures.verdict
    (λ s p. without-meaning c.args.program (budget_of c.args.given.view) c.in-Err.refusal s.verdict s.end p.0 p.1)

pub returns-in_ok-shown-in-Ok-clause-page : goal.returns-in_ok-shown-in-Ok-clause-page
returns-in_ok-shown-in-Ok-clause-page c = ShowsProgram.meant c.in-Ok.ensures.means c.in_ok-shown-in-Ok.ensures.page

pub returns-in-Err-clause-page : goal.returns-in-Err-clause-page
returns-in-Err-clause-page c =
    ok-map c.show_refusal.result (both _ _ c.show_refusal.result c.show_refusal.ensures.verdict c.show_refusal.ensures.page)
    (λ s p. shown-refused c.args.program c.args.given.view c.in-Err.refusal s.verdict s.text.items c.in-Err.ensures.refused p.0.0 p.1)
