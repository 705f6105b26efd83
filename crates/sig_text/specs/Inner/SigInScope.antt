-- Signatures whose type variables are in scope, and have levels that are numbers of 64 bits.
use Rattle.std.specs.Prelude.{ℕ, ◌+◌, ◌^◌, ◌<◌, length}
use Rattle.omega_terms.specs.InScope.{TyInScope}
use Rattle.sig_definitions.specs.Signatures.Sig.{Sig, Abs, SigRow}

-- a signature with n type variables in scope; below each list of binders the number in scope has 64 bits too
abbrev mutual
  pub SigInScope : ℕ → Sig → Type 0
  SigInScope n (Sig.Val t) = TyInScope n t
  SigInScope n (Sig.Typ t k) = TyInScope n t
  SigInScope n (Sig.Meta x) = AbsInScope n x
  SigInScope n (Sig.Str fs) = SigRowInScope n fs
  SigInScope n (Sig.Fun e ks s x) = (n + length ks < 2 ^ 64) × SigInScope (n + length ks) s × AbsInScope (n + length ks) x

  pub AbsInScope : ℕ → Abs → Type 0
  AbsInScope n (Abs.Ex ks s) = (n + length ks < 2 ^ 64) × SigInScope (n + length ks) s

  pub SigRowInScope : ℕ → SigRow → Type 0
  SigRowInScope n SigRow.End = Unit {0}
  SigRowInScope n (SigRow.More l s rest) = SigInScope n s × SigRowInScope n rest
