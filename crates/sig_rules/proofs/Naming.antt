-- The names of fields, tried one after the other.
-- Main results: is-old, one-passed.
use Rattle.std.proofs.Common.{◌≡◌, ℕ, ◌+◌, ◌<◌, List, length, get_or, drop, sym, subst}
use Rattle.omega_kinds.specs.Name.{Name}
use Rattle.semantic_sigs.specs.Inner.Fields.{SigPairs, sig_row}
use Rattle.semantic_sigs.proofs.PartSteps.{left-more}
use Rattle.sig_definitions.specs.Signatures.RecordOrder.{AreNew, FirstOld, IsNew, here, there}
use Rattle.sig_definitions.specs.Signatures.Sig.{Sig}

-- what holds of the fields that are left holds of all
abbrev pub Passes : List Name → SigPairs → SigPairs → Type 0
Passes before rest all = (AreNew (sig_row rest) before → AreNew (sig_row all) before) × ((l : Name) → FirstOld (sig_row rest) before l → FirstOld (sig_row all) before l)

-- the first of the fields at hand that is not new is the first old one
pub is-old : (before : List Name) (fields : SigPairs) (i : ℕ) (x : Name × Sig) → i < length fields → x ≡ get_or fields i x → (IsNew x.0 before → ⊥) → Passes before (drop i fields) fields → FirstOld (sig_row fields) before x.0
is-old before fields i x lt e n p = p.1 x.0 (subst (λ (xs : SigPairs). FirstOld (sig_row xs) before x.0) (sym (left-more fields i x lt e)) (here n))

-- a field of a new name is passed
pub one-passed : (before : List Name) (fields : SigPairs) (i : ℕ) (x : Name × Sig) → i < length fields → x ≡ get_or fields i x → IsNew x.0 before → Passes before (drop i fields) fields → Passes before (drop (i + 1) fields) fields
one-passed before fields i x lt e n p =
    let f = left-more fields i x lt e in
    (λ a. p.0 (subst (λ (xs : SigPairs). AreNew (sig_row xs) before) (sym f) (n, a)), λ l o. p.1 l (subst (λ (xs : SigPairs). FirstOld (sig_row xs) before l) (sym f) (there n o)))
