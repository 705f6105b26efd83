use Rattle.omega_kinds.specs.View.{kind_tree}
use Rattle.sig_definitions.specs.Signatures.Sig.{Abs}
use Rattle.sig_judgments.specs.SigRules.{AbstractGives}
use Rattle.sig_rules.proofs.Declared.{given-by}
use Rattle.sig_rules.proofs.declarations.decl_of.Goals as goal

pub returns : goal.returns
returns c =
    given-by _ _ (λ (x : Abs). AbstractGives c.args.name.now (kind_tree c.args.kind.now) x) c.one_part.ensures (rw (c.in_ok-one_kind.ensures, c.in_ok-part.ensures, c.in_ok-variable.ensures, c.in_ok-share.ensures) AbstractGives.abstract)
