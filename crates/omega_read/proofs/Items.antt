-- Items of bytes, as far as a loop has come.
-- Main results: drop_here.
use Rattle.std.proofs.Common.{◌≡◌, ℕ, zero, suc, ◌+◌, ◌-◌, ◌<◌, ◌≤◌, true, false, List, [], ◌∷◌, ◌++◌, length, get_or, take, drop, refl, sym, ap, ◌∙◌, append_assoc, arith, add-one}
use Rattle.std.proofs.Math.Seq.{drop-cons}
use Rattle.std.proofs.lemmas.List.{take_all}
use Rattle.omega_spelling.specs.Refusals.{Place, goes_on, after, is_wide, wide_from, zeroed_item, zeroed_from}

-- the bytes from a place on are the one there and those after it
pub drop_here : (bs : List ℕ) (i d : ℕ) → i < length bs → drop i bs ≡ get_or bs i d ∷ drop (i + 1) bs
drop_here bs i d lt = rw add-one (drop-cons bs i d lt)

drop_out : (bs : List ℕ) (i : ℕ) → length bs ≤ i → drop i bs ≡ []
drop_out [] zero le = refl
drop_out [] (suc i) le = refl
drop_out (b ∷ bs) zero le = absurd (omega arith)
drop_out (b ∷ bs) (suc i) le = drop_out bs i (omega arith)

-- the bytes from one place up to another
abbrev pub part : ℕ → ℕ → List ℕ → List ℕ
part start i bs = take (i - start) (drop start bs)

take_more : (bs : List ℕ) (i d : ℕ) → i < length bs → take (i + 1) bs ≡ take i bs ++ get_or bs i d ∷ []
take_more [] i d lt = absurd (omega arith)
take_more (b ∷ bs) zero d lt = refl
take_more (b ∷ bs) (suc i) d lt = let e : suc i + 1 ≡ suc (i + 1) = omega arith in rw e (ap (λ (w : List ℕ). b ∷ w) (take_more bs i d (omega arith)))

part_more : (bs : List ℕ) (start i d : ℕ) → start ≤ i → i < length bs → part start (i + 1) bs ≡ part start i bs ++ get_or bs i d ∷ []
part_more [] start i d le lt = absurd (omega arith)
part_more (b ∷ bs) zero i d le lt =
    let x : i + 1 - 0 ≡ i + 1 = omega arith in
    let y : i - 0 ≡ i = omega arith in
    rw (x, y) (take_more (b ∷ bs) i d lt)
part_more (b ∷ bs) (suc start) zero d le lt = absurd (omega arith)
part_more (b ∷ bs) (suc start) (suc i) d le lt =
    let x : suc i + 1 - suc start ≡ i + 1 - start = omega arith in
    let y : suc i - suc start ≡ i - start = omega arith in
    rw (x, y) (part_more bs start i d (omega arith) (omega arith))

part_none : (bs : List ℕ) (i : ℕ) → part i i bs ≡ []
part_none bs i = let e : i - i ≡ 0 = omega arith in rw e refl

length_drop : (bs : List ℕ) (start i : ℕ) → length bs ≤ i → length (drop start bs) ≤ i - start
length_drop [] zero i le = omega arith
length_drop [] (suc start) i le = omega arith
length_drop (b ∷ bs) zero i le = omega (arith, le)
length_drop (b ∷ bs) (suc start) zero le = absurd (omega arith)
length_drop (b ∷ bs) (suc start) (suc i) le =
    let y : suc i - suc start ≡ i - start = omega arith in
    rw y (length_drop bs start i (omega arith))

part_all : (bs : List ℕ) (start i : ℕ) → length bs ≤ i → part start i bs ≡ drop start bs
part_all bs start i le = take_all (i - start) (drop start bs) (length_drop bs start i le)

-- ---- numbers that are too wide

pub wide_goes : (p : Place) (bs : List ℕ) (start i d : ℕ) → start ≤ i → i < length bs → goes_on p (get_or bs i d) ≡ true
    → wide_from p (part start i bs) (drop i bs) ≡ wide_from p (part start (i + 1) bs) (drop (i + 1) bs)
wide_goes p bs start i d le lt goes = rw (drop_here bs i d lt, goes, part_more bs start i d le lt) refl

pub wide_past : (p : Place) (bs : List ℕ) (start i d : ℕ) → i < length bs → goes_on p (get_or bs i d) ≡ false → is_wide (part start i bs) ≡ false
    → wide_from p (part start i bs) (drop i bs) ≡ wide_from (after p (get_or bs i d)) (part (i + 1) (i + 1) bs) (drop (i + 1) bs)
wide_past p bs start i d lt goes narrow = rw (drop_here bs i d lt, goes, narrow, part_none bs (i + 1)) refl

pub wide_found : (p : Place) (bs : List ℕ) (start i d : ℕ) → i < length bs → goes_on p (get_or bs i d) ≡ false → is_wide (part start i bs) ≡ true
    → wide_from p (part start i bs) (drop i bs) ≡ true
wide_found p bs start i d lt goes wide = rw (drop_here bs i d lt, goes, wide) refl

pub wide_last : (p : Place) (bs : List ℕ) (start i : ℕ) → length bs ≤ i → wide_from p (part start i bs) (drop i bs) ≡ is_wide (drop start bs)
wide_last p bs start i le = rw (drop_out bs i le, part_all bs start i le) refl

pub ruleset wides = (wide_goes, wide_past, wide_found, wide_last)

-- ---- numbers that are replaced by 0

pub zeros_go : (out total : List ℕ) (p : Place) (bs : List ℕ) (start i d : ℕ) → start ≤ i → i < length bs → goes_on p (get_or bs i d) ≡ true
    → out ++ zeroed_from p (part start i bs) (drop i bs) ≡ total → out ++ zeroed_from p (part start (i + 1) bs) (drop (i + 1) bs) ≡ total
zeros_go out total p bs start i d le lt goes so_far =
    let one : zeroed_from p (part start i bs) (drop i bs) ≡ zeroed_from p (part start (i + 1) bs) (drop (i + 1) bs) = rw (drop_here bs i d lt, goes, part_more bs start i d le lt) refl in
    sym (ap (λ (w : List ℕ). out ++ w) one) ∙ so_far

pub zeros_past : (out total : List ℕ) (p : Place) (bs : List ℕ) (start i d : ℕ) → i < length bs → goes_on p (get_or bs i d) ≡ false
    → out ++ zeroed_from p (part start i bs) (drop i bs) ≡ total
    → ((out ++ zeroed_item (part start i bs)) ++ get_or bs i d ∷ []) ++ zeroed_from (after p (get_or bs i d)) (part (i + 1) (i + 1) bs) (drop (i + 1) bs) ≡ total
zeros_past out total p bs start i d lt goes so_far =
    let one : zeroed_from p (part start i bs) (drop i bs) ≡ zeroed_item (part start i bs) ++ (get_or bs i d ∷ zeroed_from (after p (get_or bs i d)) (part (i + 1) (i + 1) bs) (drop (i + 1) bs)) =
    rw (drop_here bs i d lt, goes, part_none bs (i + 1)) refl in
    group out (zeroed_item (part start i bs)) (get_or bs i d) (zeroed_from (after p (get_or bs i d)) (part (i + 1) (i + 1) bs) (drop (i + 1) bs))
    ∙ sym (ap (λ (w : List ℕ). out ++ w) one) ∙ so_far
  where
    group : (a b : List ℕ) (x : ℕ) (c : List ℕ) → ((a ++ b) ++ x ∷ []) ++ c ≡ a ++ (b ++ (x ∷ c))
    group a b x c = simp append_assoc

pub zeros_last : (out total : List ℕ) (p : Place) (bs : List ℕ) (start i : ℕ) → length bs ≤ i → out ++ zeroed_from p (part start i bs) (drop i bs) ≡ total → out ++ zeroed_item (drop start bs) ≡ total
zeros_last out total p bs start i le so_far =
    let one : zeroed_from p (part start i bs) (drop i bs) ≡ zeroed_item (drop start bs) = rw (drop_out bs i le, part_all bs start i le) refl in
    sym (ap (λ (w : List ℕ). out ++ w) one) ∙ so_far

pub ruleset zeros = (zeros_go, zeros_past, zeros_last)
