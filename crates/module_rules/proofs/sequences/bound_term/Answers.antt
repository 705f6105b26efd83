use Rattle.std.proofs.Common.{◌≡◌, List}
use Rattle.std.proofs.lemmas.Result.{IfOk-weaker}
use Rattle.omega_kinds.specs.Kind.{Kind}
use Rattle.omega_types.specs.Binders.{extend, puts, NormalForms}
use Rattle.omega_types.specs.Ty.{Ty}
use Rattle.omega_terms.specs.Instance.{Instance}
use Rattle.omega_terms.specs.Shorthands.{let_in}
use Rattle.omega_terms.specs.Term.{Term}
use Rattle.sig_definitions.specs.Signatures.Alike.{IsSigAt, NormalAbs}
use Rattle.sig_definitions.specs.Signatures.Encoding.{enc}
use Rattle.sig_definitions.specs.Signatures.Sig.{Sig}
use Rattle.sig_laws.specs.Good.{NormalTerm}
use Rattle.semantic_sigs.specs.Inner.View.{body_of, kinds_of}
use Rattle.module_rules.proofs.Made.{bound-given}
use Rattle.module_rules.proofs.sequences.bound_term.Goals as goal

pub returns : goal.returns
returns c =
    let a = c.args.first.now in
    let rest = c.args.rest.now in
    IfOk-weaker _ _ (λ (e : Term). (n : Sig) × (d : Term)
    × ((ctx : List Kind) → NormalAbs ctx a.sig → NormalForms ctx a.types (kinds_of a.sig) a.types → IsSigAt ctx (body_of a.sig) a.types n)
    × ((ctx ks : List Kind) → NormalTerm (extend ctx ks) rest → NormalForms ctx a.types ks a.types → Instance (extend ctx ks) ctx (puts a.types Ty.Var) rest d)
    × (e ≡ let_in (enc n) a.term d))
    (λ e q. bound-given a.sig a.types c.items.result.now c.items-2.result.now a.term c.in_ok-term.term rest c.in_ok-body.body e c.in_ok-at.at c.in_ok-from.from c.items.ensures c.items-2.ensures c.in_ok-at.ensures.normal c.in_ok-from.ensures c.in_ok-body.ensures c.in_ok-term.ensures q) c.let_in.ensures
