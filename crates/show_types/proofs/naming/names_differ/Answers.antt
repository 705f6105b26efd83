use Rattle.show_types.proofs.NamingLaws.{names-differ}
use Rattle.show_types.proofs.naming.names_differ.Goals as goal

pub returns : goal.returns
returns c = names-differ
