-- The sides of the worked matches are good ones.
-- Main results: left_t, left_int, left_nothing.
use Rattle.std.specs.Prelude.{[], ◌∷◌, ◌≡◌}
use Rattle.std.proofs.Common.{subst, sym}
use Rattle.omega_kinds.specs.Kind.{Kind}
use Rattle.omega_types.specs.Kinding.{here}
use Rattle.omega_types.specs.Kinding.HasKind.{k_var, k_int}
use Rattle.omega_types.specs.Normality.{n_int, n_neutral, n_var}
use Rattle.sig_definitions.specs.Env.{Env, kinds}
use Rattle.sig_definitions.specs.Signatures.Sig.{Sig, Abs}
use Rattle.sig_definitions.specs.Explicit.WellFormed.{WellFormed, WellFormedRow, WellFormedAbs, explicit, in_str, in_more, in_typ, in_end}
use Rattle.sig_match_laws.specs.Examples.{with_int, with_nothing, hides_t}
use Rattle.sig_match_laws.proofs.ExampleProofs.{body_t, roots_t}
use Rattle.sig_laws.specs.Good.{OkSig, OkAbs, OkRight}

well_t : WellFormed (Kind.Star ∷ []) body_t
well_t = WellFormed.str (tt, tt) (WellFormedRow.more (WellFormed.typ (k_var here)) WellFormedRow.end)

right : OkRight [] hides_t
right = (explicit well_t (in_str (in_more in_typ in_end)) roots_t, (n_neutral (n_var here), tt))

left : OkAbs [] hides_t
left = (WellFormedAbs.abs well_t, (n_neutral (n_var here), tt))

-- the signature that hides a type t may stand on the right
pub right_t : (g : Env) (x : Abs) → g ≡ [] → x ≡ hides_t → OkRight (kinds g) x
right_t g x e f = subst (λ h. OkRight (kinds h) x) (sym e) (subst (λ y. OkRight [] y) (sym f) right)

-- the signature that hides a type t is good
pub left_t : (g : Env) (x : Abs) → g ≡ [] → x ≡ hides_t → OkAbs (kinds g) x
left_t g x e f = subst (λ h. OkAbs (kinds h) x) (sym e) (subst (λ y. OkAbs [] y) (sym f) left)

-- the structure with t as Int is good
pub left_int : (g : Env) (s : Sig) → g ≡ [] → s ≡ with_int → OkSig (kinds g) s
left_int g s e f = subst (λ h. OkSig (kinds h) s) (sym e) (subst (λ r. OkSig [] r) (sym f) (WellFormed.str (tt, tt) (WellFormedRow.more (WellFormed.typ k_int) WellFormedRow.end), (n_int, tt)))

-- the empty structure is good
pub left_nothing : (g : Env) (s : Sig) → g ≡ [] → s ≡ with_nothing → OkSig (kinds g) s
left_nothing g s e f = subst (λ h. OkSig (kinds h) s) (sym e) (subst (λ r. OkSig [] r) (sym f) (WellFormed.str tt WellFormedRow.end, tt))
