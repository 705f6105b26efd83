-- Fields in rising order, and the parts of a record or a sum one after another.
-- Main results: rises-push.
use Rattle.std.proofs.Common.{List, [], ◌∷◌, ◌++◌}
use Rattle.omega_kinds.specs.declared.label.Label.{Label}
use Rattle.omega_types.specs.Fields.{Rises, MayFollow}

-- fields in rising order, and one more whose label may follow, are in rising order
pub rises-push : {T : Type 0} (xs : List (Label × T)) (x : Label × T) → Rises xs → MayFollow xs x.0 → Rises (xs ++ x ∷ [])
rises-push [] x r m = tt
rises-push (y ∷ []) x r m = (m, tt)
rises-push (y ∷ z ∷ xs) x r m = (r.0, rises-push (z ∷ xs) x r.1 m)
