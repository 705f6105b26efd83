use Rattle.omega_kinds.specs.View.{kind_tree}
use Rattle.sig_definitions.specs.Signatures.Sig.{Abs}
use Rattle.sig_judgments.specs.SigRules.{TypeGives}
use Rattle.sig_rules.proofs.Declared.{given-by}
use Rattle.sig_rules.proofs.declarations.decl_is.Goals as goal

pub returns : goal.returns
returns c =
    let ty = c.args.ty.now in
    given-by _ _ (λ (x : Abs). TypeGives c.args.name.now ty.ty (kind_tree ty.kind) x) c.one_part.ensures (rw (c.new.ensures, c.in_ok-part.ensures, c.in_ok-share.ensures, c.in_ok-share-2.ensures) TypeGives.type)
