-- Signatures are the same where their parts are.
-- Main results: row-length.
use Rattle.std.proofs.Common.{◌≡◌, ◌↔◌, [], ◌∷◌, length, refl}
use Rattle.sig_definitions.specs.Signatures.Sig.{Abs}
use Rattle.semantic_sigs.specs.Inner.Fields.{SigPairs, sig_row}
use Rattle.semantic_sigs.specs.Inner.View.{body_of, kinds_of}

-- the same structures have as many fields
pub row-length : (xs ys : SigPairs) → sig_row xs ≡ sig_row ys → length xs ≡ length ys
row-length [] [] e = refl
row-length [] (y ∷ ys) e = cc
row-length (x ∷ xs) [] e = cc
row-length (x ∷ xs) (y ∷ ys) e = let rest : sig_row xs ≡ sig_row ys = cc in let h = row-length xs ys rest in cc

pub abs-same : (x y : Abs) → (x ≡ y) ↔ ((kinds_of x ≡ kinds_of y) × (body_of x ≡ body_of y))
abs-same (Abs.Ex ks s) (Abs.Ex js t) = (λ e. (cc, cc), λ h. λ i. Abs.Ex (h.0 i) (h.1 i))
