-- A slice as its first item and the rest.
-- Main results: empty, first-rest.
use Rattle.std.proofs.Common.{◌≡◌, ◌-◌, ◌<◌, ◌≤◌, List, [], ◌∷◌, length, get_or, take, drop, refl, sym, ap, ◌∙◌, arith}
use Rattle.sig_rules.proofs.Lists.{tail-slice}
use Rattle.semantic_sigs.proofs.PartSteps.{left-more}

-- a list of less than one item is empty
pub empty : {A : Type 0} (xs : List A) → length xs < 1 → xs ≡ []
empty [] h = refl
empty (x ∷ xs) h = absurd (omega arith)

-- what is left after the first item
abbrev pub rest-of : {A : Type 0} → List A → List A
rest-of xs = take (length xs - 1) (drop 1 xs)

-- a list of at least one item is its first item and the rest
pub first-rest : {A : Type 0} (xs : List A) (x : A) → 1 ≤ length xs → x ≡ get_or xs 0 x → xs ≡ x ∷ rest-of xs
first-rest xs x h e = left-more xs 0 x (omega arith) e ∙ ap (λ ys. x ∷ ys) (sym (tail-slice xs 1 (length xs - 1) (omega arith)))
