use Rattle.sig_rules.proofs.NameKeys.{key-new}
use Rattle.sig_rules.proofs.name_set.NameSet.contains.Goals as goal

pub returns : goal.returns
returns c = rw (c.contains.ensures, ← c.self.view_is) (key-new c.self.inside.names.keys c.args.name.now)
