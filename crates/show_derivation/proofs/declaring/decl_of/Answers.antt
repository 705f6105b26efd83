use Rattle.omega_kinds.specs.View.{kind_tree}
use Rattle.sig_definitions.specs.Env.{Env}
use Rattle.sig_definitions.specs.Signatures.Sig.{Abs}
use Rattle.fing_syntax.specs.Inner.Leaves.{spelled}
use Rattle.fing_syntax.specs.Phrase.{Span, DeclAt, DeclTyOf}
use Rattle.sig_judgments.specs.SigRules.{AbstractGives}
use Rattle.elab_judgments.specs.Judgments.Meaning.{DeclMeans}
use Rattle.elab_rules.proofs.Given.{ok-map}
use Rattle.show_derivation.proofs.declaring.decl_of.Goals as goal

pub returns : goal.returns
returns c =
    let means : (x : Abs) → AbstractGives c.args.name.now.name (kind_tree c.args.kind.now) x → (g : Env) (at : Span) → DeclMeans g (DeclAt at (DeclTyOf (spelled c.args.name.now) (kind_tree c.args.kind.now))) x = λ x p g at. DeclMeans.decl_of p in
    ok-map _ c.abstract_rule.ensures.given means
