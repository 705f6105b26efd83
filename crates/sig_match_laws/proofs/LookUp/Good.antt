-- What the two sides of a match are to be: well formed and normal, and on the right ordered explicit.
-- Main results: good-param, good-left_result, good-right_result, good-at.
use Rattle.std.specs.Prelude.{List, []}
use Rattle.omega_kinds.specs.Kind.{Kind}
use Rattle.omega_kinds.specs.declared.effect.Effect.{Effect}
use Rattle.omega_kinds.specs.declared.effect.Effect.TheVariants.{Pure, Impure}
use Rattle.omega_kinds.specs.Name.{Name}
use Rattle.omega_types.specs.Ty.{Ty}
use Rattle.omega_types.specs.Binders.{extend, past, OfKinds}
use Rattle.sig_definitions.specs.Signatures.Sig.{Sig, Abs, SigRow, HasField}
use Rattle.sig_definitions.specs.Signatures.SigSubst.{raise_abs, sig_at, abs_at_under}
use Rattle.sig_definitions.specs.Signatures.Alike.{NormalSigForm, NormalAbsForm, NormalAbs}
use Rattle.sig_definitions.specs.Explicit.WellFormed.{WellFormed, WellFormedRow, ExplicitResults, Explicit, abs, in_str, in_more}
use Rattle.sig_laws.proofs.Algebra.AlikeLaws.{form_sig-normal, form_abs-normal, normal_abs-rename}
use Rattle.sig_laws.proofs.Formed.Conditions.{IsRight, RightResult, right-functor, left-functor, explicit-right, abs-body, meta-explicit, str-fields, str-results, row-field, results-field, param-raised, abs-raised, right-at, left-at}
use Rattle.sig_laws.proofs.Algebra.PathLaws.{field-normal}
use Rattle.omega_types.proofs.BinderLaws.{past-maps}
use Rattle.sig_laws.specs.Good.{OkSig, OkAbs, OkRight}
use Rattle.sig_match_laws.specs.MatchClaims.{IsRightSig}

-- the result of a functor on the right that is of normal types
abbrev pub GoodResult : List Kind → Effect → Abs → Type 0
GoodResult ctx d z = RightResult ctx d z × NormalAbs ctx z

-- the parameter of a functor on the left, raised, may stand on the right
pub good-param : {ctx ks : List Kind} {e : Effect} {s : Sig} {x : Abs} (js : List Kind) → OkSig ctx (Sig.Fun e ks s x) → OkRight (extend ctx js) (raise_abs js (Abs.Ex ks s))
good-param {ctx} {ks} {e} {s} {x} js g = (param-raised js (left-functor g.0).0, normal_abs-rename (past js) (past-maps js ctx) (Abs.Ex ks s) g.1.0)

-- the result of a functor on the left, at types of the parameter's kinds, is good
pub good-left_result : {ks : List Kind} {e : Effect} {s : Sig} {x y : Abs} {ts : List Ty} (ctx js : List Kind) → OkSig ctx (Sig.Fun e ks s x) → OfKinds (extend ctx js) ts ks → NormalAbsForm (extend ctx js) (abs_at_under js ts x) y → OkAbs (extend ctx js) y
good-left_result ctx js g h f = (left-at ctx js (left-functor g.0).1 h f, form_abs-normal f)

-- the parameter of a functor on the right is good
pub good-right_param : {ctx js : List Kind} {d : Effect} {t : Sig} {z : Abs} → IsRightSig ctx (Sig.Fun d js t z) → OkSig (extend ctx js) t
good-right_param g = ((explicit-right (right-functor g.0.0 g.0.1).0).0, g.1.0)

-- the result of a functor on the right may stand on the right
pub good-right_result : {ctx js : List Kind} {d : Effect} {t : Sig} {z : Abs} → IsRightSig ctx (Sig.Fun d js t z) → GoodResult (extend ctx js) d z
good-right_result g = ((right-functor g.0.0 g.0.1).1, g.1.1)

-- the body of a pure functor's result on the right may stand on the right
pub good-pure : {ctx : List Kind} {r : Sig} → GoodResult ctx Pure (Abs.Ex [] r) → IsRightSig ctx r
good-pure g = (go g.0, g.1)
  where
    go : {ctx : List Kind} {r : Sig} → RightResult ctx Pure (Abs.Ex [] r) → IsRight ctx r
    go (RightResult.pure w v) = (w, v)

-- the result of an impure functor on the right may stand on the right
pub good-impure : {ctx : List Kind} {z : Abs} → GoodResult ctx Impure z → OkRight ctx z
good-impure g = (go g.0, g.1)
  where
    go : {ctx : List Kind} {z : Abs} → RightResult ctx Impure z → Explicit ctx z
    go (RightResult.impure w) = w

-- the body of a good signature that hides types is good
pub good-body : {ctx ks : List Kind} {s : Sig} → OkAbs ctx (Abs.Ex ks s) → OkSig (extend ctx ks) s
good-body g = (abs-body g.0, g.1)

-- the body of a right side at types of its kinds may stand on the right
pub good-at : {ctx ks : List Kind} {t r : Sig} {ts : List Ty} → OkRight ctx (Abs.Ex ks t) → OfKinds ctx ts ks → NormalSigForm ctx (sig_at ts t) r → IsRightSig ctx r
good-at g h f = (right-at g.0 h f, form_sig-normal f)

-- a right side, raised past binders, may stand on the right
pub good-raised : {ctx : List Kind} {x : Abs} (js : List Kind) → OkRight ctx x → OkRight (extend ctx js) (raise_abs js x)
good-raised {ctx} {x} js g = (abs-raised js g.0, normal_abs-rename (past js) (past-maps js ctx) x g.1)

-- each field of a good structure is good
pub good-left_field : {ctx : List Kind} {fs : SigRow} {l : Name} {s : Sig} → OkSig ctx (Sig.Str fs) → HasField fs l s → OkSig ctx s
good-left_field {ctx} g h = (row-field (str-fields g.0) h, field-normal ctx g.1 h)

-- each field of a structure on the right may stand on the right
pub good-right_field : {ctx : List Kind} {fs : SigRow} {l : Name} {s : Sig} → IsRightSig ctx (Sig.Str fs) → HasField fs l s → IsRightSig ctx s
good-right_field {ctx} g h = ((row-field (str-fields g.0.0) h, results-field (str-results g.0.1) h), field-normal ctx g.1 h)

-- a good signature part may stand on the right
pub good-meta : {ctx : List Kind} {x : Abs} → OkSig ctx (Sig.Meta x) → OkRight ctx x
good-meta g = (meta-explicit g.0, g.1)

-- a right side is good on the left too
pub explicit-left : {ctx : List Kind} {x : Abs} → OkRight ctx x → OkAbs ctx x
explicit-left {x = Abs.Ex ks s} g = (abs (explicit-right g.0).0, g.1)

-- the fields after the first of a structure on the right may stand on the right
pub good-rest : {ctx : List Kind} {l : Name} {t : Sig} {gs : SigRow} → IsRightSig ctx (Sig.Str (SigRow.More l t gs)) → IsRightSig ctx (Sig.Str gs)
good-rest g = ((rest-of g.0.0, rest-results g.0.1), g.1.1)
  where
    rest-of : {ctx : List Kind} {l : Name} {t : Sig} {gs : SigRow} → WellFormed ctx (Sig.Str (SigRow.More l t gs)) → WellFormed ctx (Sig.Str gs)
    rest-of (WellFormed.str r (WellFormedRow.more w ws)) = WellFormed.str r.1 ws

    rest-results : {ctx : List Kind} {l : Name} {t : Sig} {gs : SigRow} → ExplicitResults ctx (Sig.Str (SigRow.More l t gs)) → ExplicitResults ctx (Sig.Str gs)
    rest-results (in_str (in_more w ws)) = in_str ws
