-- Root paths: where a hidden type of a signature can be found again
-- (explicit signatures in Rossberg, Russo, Dreyer, F-ing modules, section 5; through results of pure functors here).
use Rattle.std.specs.Prelude.{ℕ, List, ◌≤◌, ◌<◌, length}
use Rattle.omega_kinds.specs.Kind.{Kind}
use Rattle.omega_types.specs.Ty.{Ty}
use Rattle.omega_types.specs.Conversion.{Conv}
use Rattle.omega_types.specs.Binders.{extend, past, own, applied}
use Rattle.sig_definitions.specs.Signatures.Sig.{Sig}
use Rattle.sig_definitions.specs.Signatures.SigMentions.{Avoids}
use Rattle.sig_definitions.specs.Explicit.SigPath.{SigPath, PathBefore, PartAt, ParamOn}

-- Rooted ctx s i p: the part at p is the type variable i, applied to exactly the variables of the functors on p
pub data Rooted (ctx : List Kind) (s : Sig) (i : ℕ) (p : SigPath) : Type 0 where
  at : {bs : List Kind} {t : Ty} {k : Kind}
      → PartAt s p bs (Sig.Typ t k)
      → Conv (extend ctx bs) t (applied bs (Ty.Var i)) k
      → Rooted ctx s i p

-- no functor parameter on the path mentions the type variable i
abbrev pub ParamsAvoid : List Kind → Sig → SigPath → ℕ → Type 0
ParamsAvoid ctx s p i = (ds ks : List Kind) (t : Sig) → ParamOn s p ds ks t → Avoids (extend (extend ctx ds) ks) t (past ks (past ds i))

-- RootOf ctx s i p: the type variable i is rooted at p, and the functor parameters on p mention neither it nor a variable
-- inside of it
pub data RootOf (ctx : List Kind) (s : Sig) (i : ℕ) (p : SigPath) : Type 0 where
  root_of : Rooted ctx s i p
      → ((j : ℕ) → j ≤ i → ParamsAvoid ctx s p j)
      → RootOf ctx s i p

-- RootPath ctx ks s number p: the signature that hides ks in s hides a variable of this number, and p is a root path of it;
-- so the functor parameters on p mention, of the hidden variables, only those before it
pub data RootPath (ctx ks : List Kind) (s : Sig) (number : ℕ) (p : SigPath) : Type 0 where
  root_path : number < length ks
      → RootOf (extend ctx ks) s (own ks number) p
      → RootPath ctx ks s number p

-- the least root path of a variable
pub data LeastRoot (ctx ks : List Kind) (s : Sig) (number : ℕ) (p : SigPath) : Type 0 where
  least : RootPath ctx ks s number p
      → ((q : SigPath) → RootPath ctx ks s number q → PathBefore q p → ⊥)
      → LeastRoot ctx ks s number p
