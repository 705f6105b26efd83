-- The two conditions on root paths: all signatures inside hide types of the same root paths, in whatever order; and the
-- parameters of pure functors hide them in one order. One relation says either or both.
use Rattle.std.specs.Prelude.{ℕ, List, [], ◌<◌, ◌≢◌, length}
use Rattle.omega_kinds.specs.Kind.{Kind}
use Rattle.omega_kinds.specs.declared.effect.Effect.{Effect}
use Rattle.omega_kinds.specs.declared.effect.Effect.TheVariants.{Pure, Impure}
use Rattle.omega_kinds.specs.Name.{Name}
use Rattle.omega_types.specs.Ty.{Ty}
use Rattle.omega_types.specs.Binders.{extend, own}
use Rattle.sig_definitions.specs.Signatures.Sig.{Sig, Abs, SigRow, HasField}
use Rattle.sig_definitions.specs.Explicit.SigPath.{SigPath}
use Rattle.sig_definitions.specs.Explicit.RootPath.{Rooted}

-- some variable of the binders is rooted at the path
abbrev pub RootsIn : List Kind → List Kind → Sig → SigPath → Type 0
RootsIn ctx ks s p = (i : ℕ) × (i < length ks) × Rooted (extend ctx ks) s (own ks i) p

-- the variable that is rooted at a path has the same number on the other side
abbrev pub SameNumbers : (ctx ks : List Kind) → Sig → (other js : List Kind) → Sig → Type 0
SameNumbers ctx ks s other js t = (i : ℕ) (p : SigPath) → i < length ks → Rooted (extend ctx ks) s (own ks i) p → (i < length js) × Rooted (extend other js) t (own js i) p

-- of what two signatures hide, each in its own context
abbrev pub Condition : Type 1
Condition = (ctx ks : List Kind) → Sig → (other js : List Kind) → Sig → Type 0

abbrev pub SameRoots : Condition
SameRoots ctx ks s other js t = ((p : SigPath) → RootsIn ctx ks s p → RootsIn other js t p) × ((p : SigPath) → RootsIn other js t p → RootsIn ctx ks s p)

abbrev pub OneOrder : Condition
OneOrder ctx ks s other js t = SameNumbers ctx ks s other js t × SameNumbers other js t ctx ks s

abbrev pub Anything : Condition
Anything ctx ks s other js t = Unit {0}

mutual
  -- one signature stands in ctx, the other one in other; the first condition is on the parameters of pure functors, the
  -- second one on whatever else hides types
  pub data EachAbs (Param Hidden : Condition) : (ctx other : List Kind) → Abs → Abs → Type 0 where
    ex : {ctx other ks js : List Kind} {s t : Sig} → Hidden ctx ks s other js t → EachSig Param Hidden (extend ctx ks) (extend other js) s t → EachAbs Param Hidden ctx other (Abs.Ex ks s) (Abs.Ex js t)

  pub data EachSig (Param Hidden : Condition) : (ctx other : List Kind) → Sig → Sig → Type 0 where
    val : {ctx other : List Kind} {t u : Ty} → EachSig Param Hidden ctx other (Sig.Val t) (Sig.Val u)
    typ : {ctx other : List Kind} {t u : Ty} {k j : Kind} → EachSig Param Hidden ctx other (Sig.Typ t k) (Sig.Typ u j)
    meta : {ctx other : List Kind} {x y : Abs} → EachAbs Param Hidden ctx other x y → EachSig Param Hidden ctx other (Sig.Meta x) (Sig.Meta y)
    str : {ctx other : List Kind} {fs gs : SigRow} → ((l : Name) (s t : Sig) → HasField fs l s → HasField gs l t → EachSig Param Hidden ctx other s t) → EachSig Param Hidden ctx other (Sig.Str fs) (Sig.Str gs)
    pure : {ctx other ks js : List Kind} {s t r q : Sig} → Param ctx ks s other js t → EachSig Param Hidden (extend ctx ks) (extend other js) s t → EachSig Param Hidden (extend ctx ks) (extend other js) r q → EachSig Param Hidden ctx other (Sig.Fun Pure ks s (Abs.Ex [] r)) (Sig.Fun Pure js t (Abs.Ex [] q))
    impure : {ctx other ks js : List Kind} {s t : Sig} {x y : Abs} → EachAbs Param Hidden ctx other (Abs.Ex ks s) (Abs.Ex js t) → EachAbs Param Hidden (extend ctx ks) (extend other js) x y → EachSig Param Hidden ctx other (Sig.Fun Impure ks s x) (Sig.Fun Impure js t y)
    mixed : {ctx other ks js : List Kind} {e d : Effect} {s t : Sig} {x y : Abs} → e ≢ d → EachSig Param Hidden ctx other (Sig.Fun e ks s x) (Sig.Fun d js t y)

-- both conditions: the parameters of pure functors hide types of the same root paths in one order, whatever else hides
-- types hides those of the same root paths
abbrev pub SameAbs : (ctx other : List Kind) → Abs → Abs → Type 0
SameAbs = EachAbs OneOrder SameRoots

abbrev pub SameSig : (ctx other : List Kind) → Sig → Sig → Type 0
SameSig = EachSig OneOrder SameRoots
