-- Signatures of one shape whose types are related place by place, and normal signatures.
use Rattle.std.specs.Prelude.{List}
use Rattle.omega_kinds.specs.Kind.{Kind}
use Rattle.omega_kinds.specs.declared.effect.Effect.{Effect}
use Rattle.omega_kinds.specs.Name.{Name}
use Rattle.omega_types.specs.Ty.{Ty}
use Rattle.omega_types.specs.Conversion.{Conv}
use Rattle.omega_types.specs.Normality.{Normal}
use Rattle.omega_types.specs.Normalises.{NormalForm}
use Rattle.omega_types.specs.Binders.{extend}
use Rattle.sig_definitions.specs.Signatures.Sig.{Sig, Abs, SigRow}
use Rattle.sig_definitions.specs.Signatures.SigSubst.{sig_at, abs_at}

-- a relation between types of a kind in a context
abbrev pub Between : Type 1
Between = List Kind → Ty → Kind → Ty → Type 0

-- the same shape, labels, kinds and effects, and related types
mutual
  pub data AlikeSig (R : Between) : List Kind → Sig → Sig → Type 0 where
    val : {ctx : List Kind} {t u : Ty} → R ctx t Kind.Star u → AlikeSig R ctx (Sig.Val t) (Sig.Val u)
    typ : {ctx : List Kind} {t u : Ty} {k : Kind} → R ctx t k u → AlikeSig R ctx (Sig.Typ t k) (Sig.Typ u k)
    meta : {ctx : List Kind} {x y : Abs} → AlikeAbs R ctx x y → AlikeSig R ctx (Sig.Meta x) (Sig.Meta y)
    str : {ctx : List Kind} {fs gs : SigRow} → AlikeRow R ctx fs gs → AlikeSig R ctx (Sig.Str fs) (Sig.Str gs)
    fun : {ctx ks : List Kind} {e : Effect} {s t : Sig} {x y : Abs}
        → AlikeSig R (extend ctx ks) s t
        → AlikeAbs R (extend ctx ks) x y
        → AlikeSig R ctx (Sig.Fun e ks s x) (Sig.Fun e ks t y)

  pub data AlikeAbs (R : Between) : List Kind → Abs → Abs → Type 0 where
    ex : {ctx ks : List Kind} {s t : Sig} → AlikeSig R (extend ctx ks) s t → AlikeAbs R ctx (Abs.Ex ks s) (Abs.Ex ks t)

  pub data AlikeRow (R : Between) : List Kind → SigRow → SigRow → Type 0 where
    end : {ctx : List Kind} → AlikeRow R ctx SigRow.End SigRow.End
    more : {ctx : List Kind} {l : Name} {s t : Sig} {fs gs : SigRow} → AlikeSig R ctx s t → AlikeRow R ctx fs gs → AlikeRow R ctx (SigRow.More l s fs) (SigRow.More l t gs)

-- convertible signatures have convertible types at the same places
abbrev pub ConvBetween : Between
ConvBetween ctx t k u = Conv ctx t u k

abbrev pub ConvSig : List Kind → Sig → Sig → Type 0
ConvSig = AlikeSig ConvBetween

abbrev pub ConvAbs : List Kind → Abs → Abs → Type 0
ConvAbs = AlikeAbs ConvBetween

-- the normal form of a signature has the normal form of each type
abbrev pub NormalSigForm : List Kind → Sig → Sig → Type 0
NormalSigForm = AlikeSig NormalForm

abbrev pub NormalAbsForm : List Kind → Abs → Abs → Type 0
NormalAbsForm = AlikeAbs NormalForm

-- n is the normal form of s with the types ts put in for its variables, the first for the outermost
abbrev pub IsSigAt : List Kind → Sig → List Ty → Sig → Type 0
IsSigAt ctx s ts n = NormalSigForm ctx (sig_at ts s) n

abbrev pub IsAbsAt : List Kind → Abs → List Ty → Abs → Type 0
IsAbsAt ctx x ts y = NormalAbsForm ctx (abs_at ts x) y

-- every type inside is normal where it stands
abbrev mutual
  pub NormalSig : List Kind → Sig → Type 0
  NormalSig ctx (Sig.Val t) = Normal ctx t Kind.Star
  NormalSig ctx (Sig.Typ t k) = Normal ctx t k
  NormalSig ctx (Sig.Meta x) = NormalAbs ctx x
  NormalSig ctx (Sig.Str fs) = NormalSigRow ctx fs
  NormalSig ctx (Sig.Fun e ks s x) = NormalSig (extend ctx ks) s × NormalAbs (extend ctx ks) x

  pub NormalAbs : List Kind → Abs → Type 0
  NormalAbs ctx (Abs.Ex ks s) = NormalSig (extend ctx ks) s

  pub NormalSigRow : List Kind → SigRow → Type 0
  NormalSigRow ctx SigRow.End = Unit {0}
  NormalSigRow ctx (SigRow.More l s rest) = NormalSig ctx s × NormalSigRow ctx rest
