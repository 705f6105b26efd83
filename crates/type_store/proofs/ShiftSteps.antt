-- What a shift does at each form of a numbered type.
-- Main results: shift-under, row-shifted, var-stays.
use Rattle.std.proofs.Common.{◌≡◌, ℕ, suc, ◌+◌, ◌<◌, ◌≤◌, List, [], ◌∷◌, length, refl, sym, ap, ◌∙◌, arith}
use Rattle.omega_types.specs.Fields.{row}
use Rattle.omega_types.specs.Index.{bump, shift}
use Rattle.omega_types.specs.Substitution.{rename, rename_row}
use Rattle.omega_types.specs.Ty.{Ty, Row, lift}
use Rattle.omega_types.proofs.Single.{bump-below}
use Rattle.omega_types.proofs.Steps.{bump-past, shift-still}
use Rattle.omega_types.proofs.Unchanged.{shift-unchanged}
use Rattle.type_store.specs.Shape.{Parts}
use Rattle.type_store.specs.Trees.{at, row_at, Holds}
use Rattle.type_store.proofs.MapSteps.{mapped_pairs}
use Rattle.type_store.proofs.TreeLaws.{begins-itself, begins-then, part-below}

-- variables, and the body of a binder

-- a shift leaves a variable alone whose index is below the one where it begins
pub shift-var_below : (by from i : ℕ) → i < from → shift by from (Ty.Var i) ≡ Ty.Var i
shift-var_below by from i h = ap Ty.Var (bump-below by from i h)

-- a shift adds its distance to a variable whose index is at or above the one where it begins
pub shift-var_above : (by from i : ℕ) → from ≤ i → shift by from (Ty.Var i) ≡ Ty.Var (i + by)
shift-var_above by from i h = ap Ty.Var (bump-past by from i h)

-- below one more binder a shift begins one index later
pub shift-under : (by from : ℕ) (b : Ty) → rename (lift (bump by from)) b ≡ shift by (from + 1) b
shift-under by from b = let next : suc from ≡ from + 1 = omega arith in ap (λ n. shift by n b) next

-- the parts of a record, each shifted
pub row-shifted : (by from : ℕ) (ts : List Ty) (parts : Parts) → row (mapped_pairs (shift by from) ts parts) ≡ rename_row (bump by from) (row_at ts parts)
row-shifted by from ts [] = refl
row-shifted by from ts (x ∷ xs) = ap (Row.More x.0 (shift by from (at ts x.1))) (row-shifted by from ts xs)

-- a variable whose index is below the one where a shift begins is where it was
pub var-stays : (ts : List Ty) (n by from i : ℕ) → n < length ts → at ts n ≡ Ty.Var i → i < from → Holds ts n (shift by from (Ty.Var i))
var-stays ts n by from i w e h = record { within = w; value = e ∙ sym (shift-var_below by from i h) }

-- a type that stays is where it was
pub stays : (ts : List Ty) (n by from : ℕ) → n < length ts → shift by from (at ts n) ≡ at ts n → Holds ts n (shift by from (at ts n))
stays ts n by from w e = record { within = w; value = sym e }

pub ruleset shift_steps = (begins-itself, begins-then, shift-var_below, shift-var_above, row-shifted, part-below, stays, var-stays, shift-still, shift-unchanged)
