use Rattle.show_paper.proofs.LevelLaws.{level-names-differ}
use Rattle.show_paper.proofs.names.level_names_differ.Goals as goal

pub returns : goal.returns
returns c = level-names-differ
