-- Which variable of binders an index is.
-- Main results: own-second, past-injective.
use Rattle.std.specs.Prelude.{ℕ, ◌+◌, ◌-◌, ◌<◌, List, ◌++◌, ◌≡◌, ◌⊎◌, length}
use mathlib.Core.Logic.{inl, inr}
use Rattle.std.proofs.Common.{arith}
use Rattle.std.proofs.Math.Decide.{dec_lt}
use Rattle.omega_kinds.specs.Kind.{Kind}
use Rattle.omega_types.specs.Binders.{past, own}
use Rattle.sig_laws.proofs.Algebra.BinderLaws.{past-length}
use Rattle.std.proofs.lemmas.List.{length-append}

-- a variable of the first binders is seen past the others
pub own-first : (ks js : List Kind) (i : ℕ) → i < length ks → own (ks ++ js) i ≡ past js (own ks i)
own-first ks js i h = let e = length-append ks js in let g = past-length js (own ks i) in omega arith

-- the index of a number in the second of two lists of binders is that in this list
pub own-second : (ks js : List Kind) (i : ℕ) → own (ks ++ js) (length ks + i) ≡ own js i
own-second ks js i = let e = length-append ks js in omega arith

-- a number of one of the first binders, or of the others
pub split-number : (ks js : List Kind) (i : ℕ) → i < length (ks ++ js) → (i < length ks) ⊎ ((j : ℕ) × (i ≡ length ks + j) × (j < length js))
split-number ks js i h = go (dec_lt i (length ks))
  where
    go : Dec (i < length ks) → (i < length ks) ⊎ ((j : ℕ) × (i ≡ length ks + j) × (j < length js))
    go (yes e) = inl e
    go (no e) = let g = length-append ks js in inr (i - length ks, omega arith, omega arith)

-- indexes that are the same past binders are the same
pub past-injective : (ks : List Kind) (i j : ℕ) → past ks i ≡ past ks j → i ≡ j
past-injective ks i j e = let a = past-length ks i in let b = past-length ks j in omega arith

-- an index of the binders is none from outside
pub not-past : (ks : List Kind) (i j : ℕ) → i < length ks → i ≡ past ks j → ⊥
not-past ks i j h e = let a = past-length ks j in omega (arith, h, e, a)

-- the index of a binder's variable is one of the binders
pub own-below : (ks : List Kind) (i : ℕ) → i < length ks → own ks i < length ks
own-below ks i h = omega (arith, h)
