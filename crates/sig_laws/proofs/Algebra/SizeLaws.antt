-- Sizes are kept by renaming, substitution and likeness, and parts are smaller.
-- Main results: size-substitute, field-size.
use Rattle.std.specs.Prelude.{ℕ, suc, ◌+◌, ◌≤◌, ◌≡◌, List, []}
use Rattle.std.proofs.Common.{arith}
use Rattle.std.proofs.Math.Path.{refl, ap, ap₂, sym}
use Rattle.omega_kinds.specs.Kind.{Kind}
use Rattle.omega_kinds.specs.Name.{Name}
use Rattle.omega_types.specs.Ty.{Ty}
use Rattle.sig_definitions.specs.Signatures.Sig.{Sig, Abs, SigRow, HasField, here, there}
use Rattle.sig_definitions.specs.Signatures.SigSubst.{rename_abs, substitute_sig, substitute_abs}
use Rattle.sig_definitions.specs.Signatures.Alike.{Between, AlikeSig, AlikeAbs, AlikeRow, val, typ, meta, str, fun, ex, end, more}
use Rattle.sig_definitions.specs.Signatures.SigSize.{size, size_abs, size_row}
use Rattle.sig_laws.proofs.Algebra.AlikeLaws.{alike-substitute, alike_abs-substitute, alike_abs-rename}

mutual
  -- signatures that are alike have one size
  pub size-alike : {R : Between} {ctx : List Kind} {s t : Sig} → AlikeSig R ctx s t → size s ≡ size t
  size-alike (val r) = refl
  size-alike (typ r) = refl
  size-alike (meta x) = ap suc (size_abs-alike x)
  size-alike (str fs) = ap suc (size_row-alike fs)
  size-alike (fun s x) = ap₂ (λ a b. suc (a + b)) (size-alike s) (size_abs-alike x)

  -- signatures that hide types and are alike have one size
  pub size_abs-alike : {R : Between} {ctx : List Kind} {x y : Abs} → AlikeAbs R ctx x y → size_abs x ≡ size_abs y
  size_abs-alike (ex s) = ap suc (size-alike s)

  pub size_row-alike : {R : Between} {ctx : List Kind} {fs gs : SigRow} → AlikeRow R ctx fs gs → size_row fs ≡ size_row gs
  size_row-alike end = refl
  size_row-alike (more s fs) = ap₂ ◌+◌ (size-alike s) (size_row-alike fs)

-- a substitution keeps the size of a signature
pub size-substitute : (f : ℕ → Ty) (s : Sig) → size (substitute_sig f s) ≡ size s
size-substitute f s = sym (size-alike (alike-substitute [] f s))

-- a substitution keeps the size of a signature that hides types
pub size_abs-substitute : (f : ℕ → Ty) (x : Abs) → size_abs (substitute_abs f x) ≡ size_abs x
size_abs-substitute f x = sym (size_abs-alike (alike_abs-substitute [] f x))

-- a renaming keeps the size of a signature that hides types
pub size_abs-rename : (r : ℕ → ℕ) (x : Abs) → size_abs (rename_abs r x) ≡ size_abs x
size_abs-rename r x = sym (size_abs-alike (alike_abs-rename [] r x))

-- a field is at most as large as the fields together
pub field-size : {fs : SigRow} {l : Name} {s : Sig} → HasField fs l s → size s ≤ size_row fs
field-size here = omega arith
field-size (there n h) = let g = field-size h in omega arith
