-- The least root paths of all hidden types.
use Rattle.std.specs.Prelude.{ℕ, List, ◌≡◌, Option, Some, None, slice_get}
use Rattle.omega_kinds.specs.Kind.{Kind}
use Rattle.sig_definitions.specs.Explicit.RootPath.{RootPath, LeastRoot}
use Rattle.sig_definitions.specs.Explicit.SigPath.{SigPath}
use Rattle.sig_definitions.specs.Signatures.Sig.{Sig, Abs}

-- the least root path of a hidden type, or that it has none
abbrev pub IsRoot : (ctx ks : List Kind) (s : Sig) (number : ℕ) → Option SigPath → Type 0
IsRoot ctx ks s number (Some p) = LeastRoot ctx ks s number p
IsRoot ctx ks s number None = (p : SigPath) → RootPath ctx ks s number p → ⊥

-- what stands at a place of the list is that of the hidden type of this number
abbrev pub AreRoots : (ctx : List Kind) (x : Abs) → List (Option SigPath) → Type 0
AreRoots ctx (Abs.Ex ks s) found = (number : ℕ) (o : Option SigPath) → slice_get found number ≡ Some o → IsRoot ctx ks s number o
