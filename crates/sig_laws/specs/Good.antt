-- What is good: signatures, environments, names found in them, and modules.
use Rattle.std.specs.Prelude.{List, [], ◌∷◌, ◌≡◌, Some}
use Rattle.omega_kinds.specs.Kind.{Kind}
use Rattle.omega_kinds.specs.declared.effect.Effect.{Effect}
use Rattle.omega_kinds.specs.declared.effect.Effect.TheVariants.{Pure, Impure}
use Rattle.omega_kinds.specs.Name.{Name}
use Rattle.omega_types.specs.Ty.{Ty}
use Rattle.omega_types.specs.Normality.{Normal}
use Rattle.omega_types.specs.Binders.{NormalForms}
use Rattle.omega_terms.specs.Term.{Term}
use Rattle.omega_terms.specs.Instance.{Instance}
use Rattle.sig_definitions.specs.Signatures.Sig.{Sig, Abs, SigRow, NoField, Module, made}
use Rattle.sig_definitions.specs.Signatures.Alike.{NormalSig, NormalAbs, NormalSigRow}
use Rattle.sig_definitions.specs.Explicit.WellFormed.{WellFormed, WellFormedRow, WellFormedAbs, Explicit}
use Rattle.sig_definitions.specs.Env.{Env, Entry, kinds, find}
use Rattle.sig_definitions.specs.Signatures.RecordOrder.{NamesRise}

-- well formed, and of normal types
abbrev pub OkSig : List Kind → Sig → Type 0
OkSig ctx s = WellFormed ctx s × NormalSig ctx s

abbrev pub OkRow : List Kind → SigRow → Type 0
OkRow ctx fs = WellFormedRow ctx fs × NormalSigRow ctx fs

abbrev pub OkAbs : List Kind → Abs → Type 0
OkAbs ctx x = WellFormedAbs ctx x × NormalAbs ctx x

-- ordered explicit, and of normal types
abbrev pub OkRight : List Kind → Abs → Type 0
OkRight ctx x = Explicit ctx x × NormalAbs ctx x

-- each entry is good in those outside it
abbrev pub OkEntry : Env → Entry → Type 0
OkEntry g (Entry.TypeVar k) = Unit {0}
OkEntry g (Entry.Named x s) = OkSig (kinds g) s
OkEntry g (Entry.Value x t) = Normal (kinds g) t Kind.Star
OkEntry (Entry.TypeVar k ∷ g) (Entry.TypeParam x) = Unit {0}
OkEntry g (Entry.TypeParam x) = ⊥

abbrev pub OkEnv : Env → Type 0
OkEnv [] = Unit {0}
OkEnv (entry ∷ g) = OkEntry g entry × OkEnv g

-- the names are found in the environment
abbrev pub Found : Env → Name → Type 0
Found g l = (o : Sig × Term) × (find g l ≡ Some o)

abbrev pub Bound : Env → List Name → Type 0
Bound g [] = Unit {0}
Bound g (l ∷ ls) = Found g l × Bound g ls

-- the names of a structure so far: found in the environment, and in rising order
abbrev pub Names : Env → List Name → Type 0
Names g ls = Bound g ls × NamesRise ls

-- a pure module keeps normal types of the kinds that its signature hides, an impure one keeps none
abbrev pub Fits : List Kind → Effect → List Ty → List Kind → Type 0
Fits ctx Pure ts ks = NormalForms ctx ts ks ts
Fits ctx Impure ts ks = ts ≡ []

-- each type in the term is normal where it stands
abbrev pub NormalTerm : List Kind → Term → Type 0
NormalTerm ctx e = Instance ctx ctx Ty.Var e e

abbrev pub OkModule : List Kind → Module → Type 0
OkModule ctx (made f (Abs.Ex ks s) ts e) = OkAbs ctx (Abs.Ex ks s) × Fits ctx f ts ks × NormalTerm ctx e

-- the names of each structure in a signature differ
abbrev mutual
  pub Distinct : Sig → Type 0
  Distinct (Sig.Val t) = Unit {0}
  Distinct (Sig.Typ t k) = Unit {0}
  Distinct (Sig.Meta x) = DistinctAbs x
  Distinct (Sig.Str fs) = DistinctRow fs
  Distinct (Sig.Fun f ks s x) = Distinct s × DistinctAbs x

  pub DistinctAbs : Abs → Type 0
  DistinctAbs (Abs.Ex ks s) = Distinct s

  pub DistinctRow : SigRow → Type 0
  DistinctRow SigRow.End = Unit {0}
  DistinctRow (SigRow.More l s rest) = NoField l rest × Distinct s × DistinctRow rest

-- of normal types, which have their kinds, and of names that differ
abbrev pub KindedAbs : List Kind → Abs → Type 0
KindedAbs ctx x = DistinctAbs x × NormalAbs ctx x

-- a module whose types are normal and have their kinds
abbrev pub KindedModule : List Kind → Module → Type 0
KindedModule ctx (made f (Abs.Ex ks s) ts e) = KindedAbs ctx (Abs.Ex ks s) × Fits ctx f ts ks × NormalTerm ctx e
