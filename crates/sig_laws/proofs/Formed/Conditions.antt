-- What well-formedness of the two sides says of the parts that subtyping compares.
-- Main results: right-functor, left-functor, explicit-right.
use Rattle.omega_terms.specs.Term.{Term}
use Rattle.sig_definitions.specs.Matching.Subtyping.{Match}
use Rattle.omega_types.proofs.BinderPuts.{forms-types, types-kinds}
use Rattle.std.specs.Prelude.{List, []}
use Rattle.omega_kinds.specs.Kind.{Kind}
use Rattle.omega_kinds.specs.declared.effect.Effect.{Effect}
use Rattle.omega_kinds.specs.declared.effect.Effect.TheVariants.{Pure, Impure}
use Rattle.omega_kinds.specs.Name.{Name}
use Rattle.omega_types.specs.Ty.{Ty}
use Rattle.omega_types.specs.Binders.{extend, past, puts, OfKinds}
use Rattle.sig_definitions.specs.Signatures.Sig.{Sig, Abs, SigRow, HasField, here, there}
use Rattle.sig_definitions.specs.Signatures.SigSubst.{raise_abs, sig_at, abs_at_under}
use Rattle.sig_definitions.specs.Signatures.Alike.{NormalSigForm, NormalAbsForm}
use Rattle.sig_definitions.specs.Explicit.WellFormed.{EachRooted, WellFormed, WellFormedRow, WellFormedAbs, ExplicitResults, ExplicitResultsRow, Explicit, abs, explicit, in_str, in_pure, in_impure, in_end, in_more}
use Rattle.sig_laws.proofs.Algebra.AlikeLaws.{form-conv_sig, form-conv_abs}
use Rattle.sig_laws.proofs.Formed.WellFormedLaws.{well_formed-substitute, well_formed-conv, well_formed_abs-substitute, well_formed_abs-conv, explicit_results-substitute, explicit_results-conv, explicit-rename}
use Rattle.sig_laws.proofs.Algebra.Instances.{at-substitutes, under-at-substitutes}
use Rattle.sig_laws.specs.Good.{OkSig, OkRow}
use Rattle.omega_types.proofs.BinderLaws.{past-maps}

-- a signature that stands on the right
abbrev pub IsRight : List Kind → Sig → Type 0
IsRight ctx s = WellFormed ctx s × ExplicitResults ctx s

-- the result of a functor that stands on the right
pub data RightResult (ctx : List Kind) : Effect → Abs → Type 0 where
  pure : {r : Sig} → WellFormed ctx r → ExplicitResults ctx r → RightResult ctx Pure (Abs.Ex [] r)
  impure : {x : Abs} → Explicit ctx x → RightResult ctx Impure x

-- a functor on the right has an ordered explicit parameter and a result that may stand on the right
pub right-functor : {ctx js : List Kind} {d : Effect} {t : Sig} {z : Abs} → WellFormed ctx (Sig.Fun d js t z) → ExplicitResults ctx (Sig.Fun d js t z) → Explicit ctx (Abs.Ex js t) × RightResult (extend ctx js) d z
right-functor (WellFormed.pure x w) (in_pure r) = (x, RightResult.pure w r)
right-functor (WellFormed.impure x w) (in_impure r) = (x, RightResult.impure r)

-- a functor on the left has an ordered explicit parameter and a well formed result
pub left-functor : {ctx ks : List Kind} {e : Effect} {s : Sig} {x : Abs} → WellFormed ctx (Sig.Fun e ks s x) → Explicit ctx (Abs.Ex ks s) × WellFormedAbs (extend ctx ks) x
left-functor (WellFormed.pure x w) = (x, abs w)
left-functor (WellFormed.impure x w) = (x, w)

-- the body of an ordered explicit signature may stand on the right
pub explicit-right : {ctx ks : List Kind} {t : Sig} → Explicit ctx (Abs.Ex ks t) → IsRight (extend ctx ks) t
explicit-right (explicit w r e) = (w, r)

-- each hidden type of an ordered explicit signature has a root path
pub explicit-roots : {ctx ks : List Kind} {t : Sig} → Explicit ctx (Abs.Ex ks t) → EachRooted ctx ks t
explicit-roots (explicit w r e) = e

-- the body of a well formed signature is well formed
pub abs-body : {ctx ks : List Kind} {t : Sig} → WellFormedAbs ctx (Abs.Ex ks t) → WellFormed (extend ctx ks) t
abs-body (abs w) = w

-- an ordered explicit signature is well formed
pub explicit-abs : {ctx : List Kind} {x : Abs} → Explicit ctx x → WellFormedAbs ctx x
explicit-abs (explicit w r e) = abs w

-- a well formed signature part is ordered explicit
pub meta-explicit : {ctx : List Kind} {x : Abs} → WellFormed ctx (Sig.Meta x) → Explicit ctx x
meta-explicit (WellFormed.meta x) = x

-- the fields of a well formed structure are well formed
pub str-fields : {ctx : List Kind} {fs : SigRow} → WellFormed ctx (Sig.Str fs) → WellFormedRow ctx fs
str-fields (WellFormed.str r w) = w

-- a structure whose functor results are ordered explicit has such fields
pub str-results : {ctx : List Kind} {fs : SigRow} → ExplicitResults ctx (Sig.Str fs) → ExplicitResultsRow ctx fs
str-results (in_str r) = r

-- a structure that is well formed and normal has such fields
pub structure-row : {ctx : List Kind} {fs : SigRow} → OkSig ctx (Sig.Str fs) → OkRow ctx fs
structure-row h = (str-fields h.0, h.1)

-- well formed fields: the first one, and the others
pub row-first : {ctx : List Kind} {l : Name} {s : Sig} {fs : SigRow} → WellFormedRow ctx (SigRow.More l s fs) → WellFormed ctx s × WellFormedRow ctx fs
row-first (WellFormedRow.more s fs) = (s, fs)

-- fields of ordered explicit functor results: the first one, and the others
pub results-first : {ctx : List Kind} {l : Name} {s : Sig} {fs : SigRow} → ExplicitResultsRow ctx (SigRow.More l s fs) → ExplicitResults ctx s × ExplicitResultsRow ctx fs
results-first (in_more s fs) = (s, fs)

-- each field of a well formed structure is well formed
pub row-field : {ctx : List Kind} {fs : SigRow} {l : Name} {s : Sig} → WellFormedRow ctx fs → HasField fs l s → WellFormed ctx s
row-field WellFormedRow.end h = elim h [ ]
row-field (WellFormedRow.more w ws) here = w
row-field (WellFormedRow.more w ws) (there n h) = row-field ws h

-- each field of a structure of ordered explicit functor results is of such results
pub results-field : {ctx : List Kind} {fs : SigRow} {l : Name} {s : Sig} → ExplicitResultsRow ctx fs → HasField fs l s → ExplicitResults ctx s
results-field in_end h = elim h [ ]
results-field (in_more w ws) here = w
results-field (in_more w ws) (there n h) = results-field ws h

-- the other parameter, under the binders
pub param-raised : {ctx ks : List Kind} {s : Sig} (js : List Kind) → Explicit ctx (Abs.Ex ks s) → Explicit (extend ctx js) (raise_abs js (Abs.Ex ks s))
param-raised {ctx} js x = explicit-rename (past js) (past-maps js ctx) x

-- an ordered explicit signature stays so when it is raised past binders
pub abs-raised : {ctx : List Kind} {x : Abs} (js : List Kind) → Explicit ctx x → Explicit (extend ctx js) (raise_abs js x)
abs-raised {ctx} js x = explicit-rename (past js) (past-maps js ctx) x

-- the right side at types for its variables
pub right-at : {ctx ks : List Kind} {t r : Sig} {ts : List Ty} → Explicit ctx (Abs.Ex ks t) → OfKinds ctx ts ks → NormalSigForm ctx (sig_at ts t) r → IsRight ctx r
right-at {ctx} {ks} {t} {r} {ts} x h f =
    let w = explicit-right x in
    let c = form-conv_sig f in
    (well_formed-conv (well_formed-substitute (puts ts Ty.Var) (at-substitutes h) w.0) c, explicit_results-conv (explicit_results-substitute (puts ts Ty.Var) (at-substitutes h) w.1) c)

-- the left result at the types of the parameter's match
pub left-at : {ks : List Kind} {x y : Abs} {ts : List Ty} (ctx js : List Kind) → WellFormedAbs (extend ctx ks) x → OfKinds (extend ctx js) ts ks → NormalAbsForm (extend ctx js) (abs_at_under js ts x) y → WellFormedAbs (extend ctx js) y
left-at {ks} {x} {y} {ts} ctx js w h f = well_formed_abs-conv (well_formed_abs-substitute (puts ts (λ i. Ty.Var (past js i))) (under-at-substitutes ctx js h) w) (form-conv_abs f)

-- the types of a match have the kinds of the variables
pub match-kinds : {ctx : List Kind} {s t : Sig} {ks : List Kind} {ts : List Ty} {f : Term} → Match ctx s (Abs.Ex ks t) ts f → OfKinds ctx ts ks
match-kinds (Match.at g n r f) = types-kinds (forms-types n)
