use Rattle.sig_definitions.specs.Signatures.Sig.{Abs}
use Rattle.sig_judgments.specs.SigRules.{SignatureGives}
use Rattle.sig_rules.proofs.Declared.{given-by}
use Rattle.sig_rules.proofs.declarations.decl_meta.Goals as goal

pub returns : goal.returns
returns c =
    given-by _ _ (λ (x : Abs). SignatureGives c.args.name.now c.args.sig.now x) c.one_part.ensures (rw (c.new.ensures, c.in_ok-part.ensures, c.in_ok-share.ensures) SignatureGives.signature)
