-- Fields in rising order.
-- Main results: rises-push.
use Rattle.std.proofs.Common.{List, [], ◌∷◌, ◌++◌}
use Rattle.omega_kinds.specs.Name.{Name}
use Rattle.semantic_sigs.specs.Inner.Fields.{Rises, MayFollow}

-- fields in rising order, and one more whose name may follow, are in rising order
pub rises-push : {T : Type 0} (xs : List (Name × T)) (x : Name × T) → Rises xs → MayFollow xs x.0 → Rises (xs ++ x ∷ [])
rises-push [] x r m = tt
rises-push (y ∷ []) x r m = (m, tt)
rises-push (y ∷ z ∷ xs) x r m = (r.0, rises-push (z ∷ xs) x r.1 m)
