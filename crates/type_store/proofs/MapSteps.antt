-- The parts of a record or a sum, each changed by one function of types, one after another.
-- Main results: part-step, parts-end.
use Rattle.std.proofs.Common.{◌≡◌, ℕ, ◌+◌, ◌<◌, List, [], ◌∷◌, ◌++◌, length, map, take, get_or, sym, ap, ◌∙◌, subst, arith}
use Rattle.std.proofs.lemmas.List.{length-map, get_or-map}
use Rattle.std.proofs.Math.Seq.{take-length}
use Rattle.omega_kinds.specs.declared.label.Label.{Label}
use Rattle.omega_types.specs.Fields.{Pairs, row, Rises}
use Rattle.omega_types.specs.Ty.{Ty, Row}
use Rattle.type_store.specs.Shape.{Parts}
use Rattle.type_store.specs.Trees.{at, Begins, Holds, MakesParts}
use Rattle.type_store.proofs.TreeLaws.{begins-then, begins-at}
use Rattle.type_store.proofs.StoreSteps.{parts-push}

-- the labels of a record with its parts changed
abbrev pub mapped_pairs : (Ty → Ty) → List Ty → Parts → Pairs
mapped_pairs f ts parts = map (λ x. (x.0, f (at ts x.1))) parts

rises-mapped : (f : Ty → Ty) (ts : List Ty) (parts : Parts) → Rises parts → Rises (mapped_pairs f ts parts)
rises-mapped f ts [] r = tt
rises-mapped f ts (x ∷ []) r = tt
rises-mapped f ts (x ∷ y ∷ xs) r = (r.0, rises-mapped f ts (y ∷ xs) r.1)

-- one more part was changed
pub part-step : (f : Ty → Ty) (old ts us : List Ty) (parts : Parts) (done more : Parts) (i : ℕ) (x : Label × ℕ) (l : Label) (n : ℕ)
    → Begins old ts → MakesParts ts done (row (take i (mapped_pairs f old parts))) → Begins ts us → Holds us n (f (at ts x.1)) → x.1 < length old
    → l ≡ x.0 → x ≡ get_or parts i x → i < length parts → Rises parts → more ≡ done ++ (l, n) ∷ []
    → Begins old us × MakesParts us more (row (take (i + 1) (mapped_pairs f old parts)))
part-step f old ts us parts done more i x l n b made grows h low e g w r is =
    let pair : Label × ℕ → Label × Ty = λ y. (y.0, f (at old y.1)) in
    let there : pair x ≡ get_or (mapped_pairs f old parts) i (pair x) = ap pair g ∙ sym (get_or-map pair parts i x (pair x) w) in
    let w' : i < length (mapped_pairs f old parts) = let m : length (map pair parts) ≡ length parts = length-map parts pair in omega (arith, m, w) in
    let h' : Holds us n (f (at old x.1)) = subst (λ t. Holds us n (f t)) (begins-at old ts x.1 b low) h in (
      begins-then old ts us b grows,
      subst (λ p. MakesParts us p (row (take (i + 1) (mapped_pairs f old parts)))) (sym is)
          (parts-push ts us done (mapped_pairs f old parts) i l n (pair x) made grows h' e there w' (rises-mapped f old parts r)),
    )

-- each part was changed
pub parts-end : (f : Ty → Ty) (old us : List Ty) (parts done : Parts) (r : Row) (i : ℕ) → row (mapped_pairs f old parts) ≡ r
    → MakesParts us done (row (take i (mapped_pairs f old parts))) → i ≡ length parts
    → MakesParts us done r
parts-end f old us parts done r i law h w =
    let pair : Label × ℕ → Label × Ty = λ x. (x.0, f (at old x.1)) in
    let m : i ≡ length (map pair parts) = w ∙ sym (length-map parts pair) in
    let e : take i (map pair parts) ≡ map pair parts = ap (λ n. take n (map pair parts)) m ∙ take-length (map pair parts) in
    subst (MakesParts us done) (ap row e ∙ law) h
