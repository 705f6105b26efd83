-- What the normaliser does at a variable.
-- Main results: row-normal.
use Rattle.std.proofs.Common.{◌≡◌, ℕ, zero, suc, List, [], ◌∷◌, ◌<◌, length, take, get_or, slice_get, unwrap_or, refl, sym, ap}
use Rattle.omega_kinds.specs.Kind.{Kind}
use Rattle.omega_kinds.specs.declared.label.Label.{Label}
use Rattle.omega_types.specs.Ty.{Ty, Row}
use Rattle.omega_types.specs.Fields.{Pairs, row, Rises, MayFollow}
use Rattle.omega_types.specs.Index.{shift}
use Rattle.omega_types.specs.Normaliser.{kind_at, normal, normal_row}
use Rattle.omega_types.specs.Substitution.{rename}
use Rattle.omega_types.proofs.Single.{shift-suc}
use Rattle.omega_types.proofs.Steps.{map_parts, may_follow-at}

pub kind_at-get : (ctx : List Kind) (i : ℕ) → kind_at ctx i ≡ unwrap_or (slice_get ctx i) Kind.Star
kind_at-get [] i = refl
kind_at-get (k ∷ ctx) zero = refl
kind_at-get (k ∷ ctx) (suc i) = kind_at-get ctx i

pub weakened : (t : Ty) → rename suc t ≡ shift 1 0 t
weakened t = sym (shift-suc t)

-- the normal forms of a list of fields are those of their row
pub row-normal : (ctx : List Kind) (xs : Pairs) → row (map_parts (normal ctx) xs) ≡ normal_row ctx (row xs)
row-normal ctx [] = refl
row-normal ctx (x ∷ xs) = ap (Row.More x.0 (normal ctx x.1)) (row-normal ctx xs)

-- the label of the field at a place may follow the fields before it, whatever their parts have become
pub may_follow-there : (f : Ty → Ty) (found xs : Pairs) (i : ℕ) (x : Label × Ty) (l : Label) → found ≡ map_parts f (take i xs) → l ≡ x.0 → x ≡ get_or xs i x → i < length xs → Rises xs → MayFollow found l
may_follow-there f found xs i x l e g h p r =
    let m : MayFollow (map_parts f (take i xs)) (get_or xs i x).0 = may_follow-at f xs i x p r in
    rw (e, g, h) m

pub ruleset normal_steps = (kind_at-get, weakened, row-normal, may_follow-at)
