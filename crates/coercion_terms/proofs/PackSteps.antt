-- The coercions to signatures that hide types are those of the rules.
-- Main results: match-made, abs-made, match-typed, abs-typed.
use Rattle.std.specs.Prelude.{ℕ, zero, List, [], ◌∷◌, ◌≡◌}
use Rattle.std.proofs.Math.Path.{sym, ◌∙◌, ap, subst}
use Rattle.omega_types.specs.Ty.{Ty}
use Rattle.omega_types.specs.Binders.{extend, raise, ex_over}
use Rattle.omega_types.proofs.BinderPuts.{forms-kinds}
use Rattle.omega_terms.specs.Term.{Term}
use Rattle.omega_terms.specs.Typing.{HasType}
use Rattle.omega_terms.specs.Coercions.{MatchPart, AbsPart}
use Rattle.omega_terms.proofs.CoercionRows.{match_part_typed, abs_part_typed}
use Rattle.omega_shorthands.specs.Inner.Packed.{pack_up, opened}
use Rattle.omega_shorthands.proofs.PackSteps.{packs_filled, opens_opened}
use Rattle.coercion_terms.specs.Inner.Rows.{IsMatchPart, IsAbsPart, HasMatchType, HasAbsType}

-- the coercion of a match is a function that packs the types, as the code puts it together
pub match-exact : (from : Ty) (ts : List Ty) (f : Term) (to : Ty) (body e : Term) → body ≡ pack_up ts (Term.Call f (Term.Var zero)) to → e ≡ Term.Lam from body → e ≡ Term.Lam from (pack_up ts (Term.Call f (Term.Var zero)) to)
match-exact from ts f to body e eb ee = ee ∙ ap (Term.Lam from) eb

-- the coercion from a signature that hides types opens these first, as the code puts it together
pub abs-exact : (from : Ty) (count : ℕ) (ts : List Ty) (f : Term) (to : Ty) (body whole e : Term) → body ≡ pack_up ts (Term.Call f (Term.Var zero)) to → whole ≡ opened count (Term.Var zero) from body → e ≡ Term.Lam from whole → e ≡ Term.Lam from (opened count (Term.Var zero) from (pack_up ts (Term.Call f (Term.Var zero)) to))
abs-exact from count ts f to body whole e eb ew ee = ee ∙ ap (Term.Lam from) (ew ∙ ap (opened count (Term.Var zero) from) eb)

-- the coercion of a match, put together so, is that of the rule
pub match-made : (from : Ty) (ts : List Ty) (f : Term) (to : Ty) (body e : Term) → body ≡ pack_up ts (Term.Call f (Term.Var zero)) to → e ≡ Term.Lam from body → IsMatchPart from ts f to e
match-made from ts f to body e eb ee ctx fills =
    subst (MatchPart ctx from ts f to) (sym (ee ∙ ap (Term.Lam from) eb)) (MatchPart.made (packs_filled ctx ts (Term.Call f (Term.Var zero)) to fills))

-- the coercion from a signature that hides types, put together so, is that of the rule
pub abs-made : (from : Ty) (count : ℕ) (ts : List Ty) (f : Term) (to : Ty) (body whole e : Term) → body ≡ pack_up ts (Term.Call f (Term.Var zero)) to → whole ≡ opened count (Term.Var zero) from body → e ≡ Term.Lam from whole → IsAbsPart from count ts f to e
abs-made from count ts f to body whole e eb ew ee ctx ks len fills =
    subst (AbsPart ctx from ks ts f to) (sym (ee ∙ ap (Term.Lam from) (ew ∙ (ap (opened count (Term.Var zero) from) eb ∙ opens_opened ks count (Term.Var zero) from (pack_up ts (Term.Call f (Term.Var zero)) to) len)))) (AbsPart.made (packs_filled ctx ts (Term.Call f (Term.Var zero)) to fills))

-- the coercion of a match is typed
pub match-typed : (from : Ty) (ts : List Ty) (f : Term) (to : Ty) (e : Term) → IsMatchPart from ts f to e → HasMatchType from ts f to e
match-typed from ts f to e made ctx ks t eq n ns hf ht h =
    subst (λ u. HasType ctx [] e (Ty.Arrow from u)) (sym eq) (match_part_typed ctx ks from t ts f e hf ht (forms-kinds ns) h (subst (λ u. MatchPart ctx from ts f u e) eq (made ctx (ks, t, eq, n, ns))))

-- the coercion from a signature that hides types is typed
pub abs-typed : (from : Ty) (count : ℕ) (ts : List Ty) (f : Term) (to : Ty) (e : Term) → IsAbsPart from count ts f to e → HasAbsType from count ts f to e
abs-typed from count ts f to e made ctx ks js k s t len ef et fills o hs ht h =
    let inner = extend ctx (k ∷ ks) in
    let p = subst (λ u. AbsPart inner from (k ∷ ks) ts f u e) et (made inner (k ∷ ks) len fills) in
    let q = subst (λ u. AbsPart inner u (k ∷ ks) ts f (raise (k ∷ ks) (ex_over js t)) e) ef p in
    subst (λ u. HasType ctx [] e (Ty.Arrow u (ex_over js t))) (sym ef) (abs_part_typed ctx ks js k s t ts f e hs ht o h q)
