-- Types put in for the hidden ones of a right side: those found, and any types for the rest.
use Rattle.std.specs.Prelude.{ℕ, List, [], ◌∷◌, ◌≡◌, Option, Some, None, length}
use Rattle.omega_kinds.specs.Kind.{Kind}
use Rattle.omega_types.specs.Ty.{Ty}
use Rattle.omega_types.specs.Binders.{extend, NormalForms}
use Rattle.sig_definitions.specs.Signatures.Sig.{Sig, Abs}
use Rattle.sig_definitions.specs.Signatures.SigSubst.{abs_at_under}
use Rattle.sig_definitions.specs.Signatures.Alike.{NormalSig, NormalAbs, NormalAbsForm, IsSigAt}

-- a closed normal type of each kind
abbrev pub any_type : Kind → Ty
any_type Kind.Star = Ty.Int
any_type (Kind.Arrow k l) = Ty.Lam k (any_type l)

-- for each kind the type that is found, and any type after the last one
abbrev pub filled : List Kind → List Ty → List Ty
filled [] ts = []
filled (k ∷ ks) [] = any_type k ∷ filled ks []
filled (k ∷ ks) (t ∷ ts) = t ∷ filled ks ts

-- a type, and any type of the kind where there is none
abbrev pub or_any : Kind → Option Ty → Ty
or_any k None = any_type k
or_any k (Some t) = t

-- normal types of these kinds
abbrev pub AreNormal : List Kind → List Ty → List Kind → Type 0
AreNormal ctx ts ks = NormalForms ctx ts ks ts

-- types may be put in for the variables of a signature
abbrev pub MayPut : List Kind → Sig → List Ty → Type 0
MayPut ks s ts = (ctx : List Kind) × NormalSig (extend ctx ks) s × AreNormal ctx ts ks

abbrev pub EachPut : List Kind → Sig → List Ty → Sig → Type 0
EachPut ks s ts n = (ctx : List Kind) → NormalSig (extend ctx ks) s → AreNormal ctx ts ks → IsSigAt ctx s ts n

-- types under further variables may be put in for those of a functor's result
abbrev pub MayPutUnder : ℕ → List Kind → Abs → List Ty → Type 0
MayPutUnder by ks x ts = (ctx js : List Kind) × (length js ≡ by) × NormalAbs (extend ctx ks) x × AreNormal (extend ctx js) ts ks

abbrev pub EachPutUnder : ℕ → List Kind → Abs → List Ty → Abs → Type 0
EachPutUnder by ks x ts y = (ctx js : List Kind) → length js ≡ by → NormalAbs (extend ctx ks) x → AreNormal (extend ctx js) ts ks → NormalAbsForm (extend ctx js) (abs_at_under js ts x) y
