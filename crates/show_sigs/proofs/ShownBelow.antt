-- Each field that is shown is smaller than the structure that has it.
-- Main results: shown_below.
use Rattle.std.proofs.Common.{ℕ, zero, suc, ◌<◌, List, [], ◌∷◌, length, get_or, All, arith}
use Rattle.std.specs.Borrow.{Bor}
use Rattle.omega_kinds.specs.Name.{Name}
use Rattle.sig_definitions.specs.Signatures.Sig.{Sig}
use Rattle.semantic_sigs.specs.Inner.Fields.{SigPairs}
use Rattle.semantic_sigs.specs.Inner.Size.{sig_nodes, sig_pairs_nodes}
use Rattle.show_order.specs.Inner.Arranged.{IsArranged}
use Rattle.show_order.proofs.ShownLaws.{shown_all}

below : (fields : SigPairs) (k : ℕ) (d : Name × Sig) → k < length fields → sig_nodes (get_or fields k d).1 < sig_pairs_nodes fields
below [] k d lt = absurd (omega (arith, lt))
below (f ∷ fields) zero d lt = omega arith
below (f ∷ fields) (suc k) d lt = omega (arith, below fields k d (omega (arith, lt)))

-- the signature of each field that is shown has fewer nodes than all fields together
pub shown_below : (names : List Name) (fields : SigPairs) (shown : List (Bor (Name × Sig))) → IsArranged names fields shown → All (λ f. sig_nodes f.now.1 < sig_pairs_nodes fields) shown
shown_below names fields shown a = shown_all (λ f. sig_nodes f.1 < sig_pairs_nodes fields) names fields shown a (below fields)
