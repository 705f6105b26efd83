-- The height of one more field.
-- Main results: sig_pairs_height-push.
use Rattle.std.proofs.Common.{◌≤◌, max, [], ◌∷◌, ◌++◌, arith}
use Rattle.omega_kinds.specs.Name.{Name}
use Rattle.sig_definitions.specs.Signatures.Sig.{Sig}
use Rattle.semantic_sigs.specs.Inner.Fields.{SigPairs}
use Rattle.semantic_sigs.specs.Inner.Height.{sig_height, sig_pairs_height}

-- with one more field, the height is at most the greater of the old one and that of the field
pub sig_pairs_height-push : (xs : SigPairs) (x : Name × Sig) → sig_pairs_height (xs ++ x ∷ []) ≤ max (sig_pairs_height xs) (sig_height x.1)
sig_pairs_height-push [] x = omega arith
sig_pairs_height-push (y ∷ ys) x = omega (arith, sig_pairs_height-push ys x)
