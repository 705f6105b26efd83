-- The generated program of a size, line by line.
use Rattle.std.specs.Prelude.{ℕ, zero, suc, List, [], ◌∷◌, ◌++◌, codes, decimal, flat_map}

-- pieces of text, one after the other
abbrev pub joined : List (List ℕ) → List ℕ
joined = flat_map (λ (t : List ℕ). t)

abbrev pub opening : List ℕ
opening = joined (
    codes "signature S = sig type t val v : t val f : t -> Int end\n"
    ∷ codes "module F = fun (X : S) => struct type t = X.t val v = X.v val f = fun (x : X.t) => X.f x + 1 end :> S\n"
    ∷ codes "module M0 = struct type t = Int val v = 0 val f = fun (x : Int) => x end :> S\n"
    ∷ [])

-- the lines of a number
abbrev pub sealed : ℕ → List ℕ
sealed i = joined (
    codes "module M" ∷ decimal i ∷ codes " = F M0\n"
    ∷ codes "val p" ∷ decimal i ∷ codes " = pack M" ∷ decimal i ∷ codes " : S\n"
    ∷ codes "val r" ∷ decimal i ∷ codes " = M" ∷ decimal i ∷ codes ".f M" ∷ decimal i ∷ codes ".v\n"
    ∷ [])

-- those of so many numbers from one on
abbrev pub sealed_from : (first count : ℕ) → List ℕ
sealed_from i zero = []
sealed_from i (suc n) = sealed i ++ sealed_from (suc i) n

abbrev pub closing : List ℕ
closing = joined (codes "module Q = unpack p1 : S\n" ∷ codes "val q = Q.f Q.v\n" ∷ [])

abbrev pub source_text : ℕ → List ℕ
source_text size = opening ++ sealed_from 1 size ++ closing
