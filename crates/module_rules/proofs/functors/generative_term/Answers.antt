use Rattle.std.proofs.Common.{◌≡◌, List}
use Rattle.std.proofs.lemmas.Result.{IfOk-weaker}
use Rattle.omega_kinds.specs.Kind.{Kind}
use Rattle.omega_kinds.specs.declared.label.Label.TheVariants as label
use Rattle.omega_terms.specs.PartTerms.{one_field}
use Rattle.omega_terms.specs.Shorthands.{ty_lam_over}
use Rattle.omega_terms.specs.Term.{Term}
use Rattle.sig_definitions.specs.Packing.{Packed}
use Rattle.sig_definitions.specs.Signatures.Encoding.{enc}
use Rattle.sig_laws.specs.Good.{KindedModule}
use Rattle.semantic_sigs.specs.Inner.Made.{module_of}
use Rattle.semantic_sigs.specs.Inner.View.{kinds_of, body_of}
use Rattle.module_rules.proofs.Made.{generative-term}
use Rattle.module_rules.proofs.functors.generative_term.Goals as goal

pub returns : goal.returns
returns c =
    let x = c.args.param.now in
    let m = module_of c.args.body.now in
    IfOk-weaker _ _ (λ (e : Term). (d : Term) × ((ctx : List Kind) → KindedModule ctx m → Packed ctx m d) × (e ≡ ty_lam_over (kinds_of x) (Term.Lam (enc (body_of x)) (one_field label.Gen d))))
    (λ e q. (c.in_ok-packed.packed, c.in_ok-packed.ensures, generative-term (kinds_of x) c.kinds.result.now c.body.result.now (body_of x) c.in_ok-from.from c.in_ok-packed.packed c.in_ok-result.result c.in_ok-function.function e c.in_ok-result.ensures c.in_ok-from.ensures c.body.ensures c.in_ok-function.ensures q c.kinds.ensures)) c.ty_lam_over.ensures
