-- The same row is made of as many fields.
-- Main results: row-length.
use Rattle.std.proofs.Common.{◌≡◌, [], ◌∷◌, length, refl}
use Rattle.omega_types.specs.Fields.{Pairs, row}

-- lists of fields that make the same row have the same length
pub row-length : (xs ys : Pairs) → row xs ≡ row ys → length xs ≡ length ys
row-length [] [] e = refl
row-length [] (y ∷ ys) e = cc
row-length (x ∷ xs) [] e = cc
row-length (x ∷ xs) (y ∷ ys) e = let rest : row xs ≡ row ys = cc in let h = row-length xs ys rest in cc
