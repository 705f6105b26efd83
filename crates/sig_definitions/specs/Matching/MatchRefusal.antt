-- How matching and subtyping are refused, at the first place that fails. The reasons and their order are own.
use Rattle.std.specs.Prelude.{ℕ, List, [], ◌∷◌, ◌≡◌, ◌≢◌, ◌<◌, length}
use Rattle.omega_kinds.specs.Kind.{Kind}
use Rattle.omega_kinds.specs.declared.effect.Effect.{Effect}
use Rattle.omega_kinds.specs.declared.effect.Effect.TheVariants.{Pure, Impure}
use Rattle.omega_kinds.specs.Name.{Name}
use Rattle.omega_types.specs.Ty.{Ty}
use Rattle.omega_types.specs.Binders.{extend}
use Rattle.omega_terms.specs.Term.{Term}
use Rattle.sig_definitions.specs.Signatures.Sig.{Sig, Abs, SigRow, HasField, NoField}
use Rattle.sig_definitions.specs.Signatures.SigSubst.{raise_abs, abs_at_under}
use Rattle.sig_definitions.specs.Signatures.Alike.{NormalAbsForm, IsSigAt}
use Rattle.sig_definitions.specs.Explicit.SigPath.{SigPath, Item}
use Rattle.sig_definitions.specs.Explicit.RootPath.{LeastRoot}
use Rattle.sig_definitions.specs.Matching.Subtyping.{Sub, SubAbs, Match}
use Rattle.sig_definitions.specs.Matching.LookUp.{FoundAt, Looked}

-- why two parts clash: another form, no part on the left, an impure functor for a pure one, or other types
pub data Why : Type 0 where
  Form Missing Effects : Why
  Types : (left right : Ty) → Why

-- the variable of a number is not found along its root path, or the parts at a path clash, where so many type
-- variables are in scope
pub data MatchRefusal : Type 0 where
  NoRoot : (number : ℕ) (path : SigPath) → MatchRefusal
  Clash : (variables : ℕ) (path : SigPath) (why : Why) → MatchRefusal

-- a refusal from inside a part
abbrev pub within : Item → MatchRefusal → MatchRefusal
within a (NoRoot n p) = NoRoot n (a ∷ p)
within a (Clash n p why) = Clash n (a ∷ p) why

-- a clash at this very place
abbrev pub clash : List Kind → Why → MatchRefusal
clash ctx why = Clash (length ctx) [] why

-- the form of a signature
pub data SigForm : Type 0 where
  value type signature structure functor : SigForm

abbrev pub form : Sig → SigForm
form (Sig.Val t) = value
form (Sig.Typ t k) = type
form (Sig.Meta x) = signature
form (Sig.Str fs) = structure
form (Sig.Fun e ks s x) = functor

-- a functor of the first effect may stand for one of the second: always but for an impure one in place of a pure one
abbrev pub MayStandFor : Effect → Effect → Type 0
MayStandFor Impure Pure = ⊥
MayStandFor e d = Unit {0}

mutual
  -- all variables are looked up in order before any part is compared
  pub data RefusesMatch : List Kind → Sig → Abs → MatchRefusal → Type 0 where
    no_root : {ctx ks : List Kind} {s r : Sig} {ts : List Ty} {p : SigPath}
        → Looked ctx s ks r ts
        → length ts < length ks
        → LeastRoot ctx ks r (length ts) p
        → ((t : Ty) → FoundAt ctx s ks r ts t → ⊥)
        → RefusesMatch ctx s (Abs.Ex ks r) (NoRoot (length ts) p)
    inside : {ctx ks : List Kind} {s r n : Sig} {ts : List Ty} {refusal : MatchRefusal}
        → Looked ctx s ks r ts
        → length ts ≡ length ks
        → IsSigAt ctx r ts n
        → RefusesSub ctx s n refusal
        → RefusesMatch ctx s (Abs.Ex ks r) refusal

  pub data RefusesSub : List Kind → Sig → Sig → MatchRefusal → Type 0 where
    forms : {ctx : List Kind} {s t : Sig} → form s ≢ form t → RefusesSub ctx s t (clash ctx Form)
    values : {ctx : List Kind} {t u : Ty} → t ≢ u → RefusesSub ctx (Sig.Val t) (Sig.Val u) (clash ctx (Types t u))
    types : {ctx : List Kind} {t u : Ty} {k j : Kind} → ((t ≡ u) × (k ≡ j) → ⊥) → RefusesSub ctx (Sig.Typ t k) (Sig.Typ u j) (clash ctx (Types t u))
    -- a signature part: from left to right first
    meta_first : {ctx : List Kind} {x y : Abs} {refusal : MatchRefusal}
        → RefusesSubAbs ctx x y refusal
        → RefusesSub ctx (Sig.Meta x) (Sig.Meta y) (within Item.Meta refusal)
    meta_second : {ctx : List Kind} {x y : Abs} {f : Term} {refusal : MatchRefusal}
        → SubAbs ctx x y f
        → RefusesSubAbs ctx y x refusal
        → RefusesSub ctx (Sig.Meta x) (Sig.Meta y) (within Item.Meta refusal)
    structures : {ctx : List Kind} {fs gs : SigRow} {refusal : MatchRefusal}
        → RefusesFields ctx fs gs refusal
        → RefusesSub ctx (Sig.Str fs) (Sig.Str gs) refusal
    -- a functor: the effect, the parameter, the result
    effects : {ctx ks js : List Kind} {s t : Sig} {x z : Abs} → RefusesSub ctx (Sig.Fun Impure ks s x) (Sig.Fun Pure js t z) (clash ctx Effects)
    params : {ctx ks js : List Kind} {e d : Effect} {s t : Sig} {x z : Abs} {refusal : MatchRefusal}
        → MayStandFor e d
        → RefusesMatch (extend ctx js) t (raise_abs js (Abs.Ex ks s)) refusal
        → RefusesSub ctx (Sig.Fun e ks s x) (Sig.Fun d js t z) (within Item.Arg refusal)
    results : {ctx ks js : List Kind} {e d : Effect} {s t : Sig} {x y z : Abs} {ts : List Ty} {f : Term} {refusal : MatchRefusal}
        → MayStandFor e d
        → Match (extend ctx js) t (raise_abs js (Abs.Ex ks s)) ts f
        → NormalAbsForm (extend ctx js) (abs_at_under js ts x) y
        → RefusesResult (extend ctx js) e d y z refusal
        → RefusesSub ctx (Sig.Fun e ks s x) (Sig.Fun d js t z) (within Item.Res refusal)

  -- the right side's fields in order
  pub data RefusesFields : List Kind → SigRow → SigRow → MatchRefusal → Type 0 where
    missing : {ctx : List Kind} {fs gs : SigRow} {l : Name} {t : Sig}
        → NoField l fs
        → RefusesFields ctx fs (SigRow.More l t gs) (within (Item.Part l) (clash ctx Missing))
    at_field : {ctx : List Kind} {fs gs : SigRow} {l : Name} {s t : Sig} {refusal : MatchRefusal}
        → HasField fs l s
        → RefusesSub ctx s t refusal
        → RefusesFields ctx fs (SigRow.More l t gs) (within (Item.Part l) refusal)
    later : {ctx : List Kind} {fs gs : SigRow} {l : Name} {s t : Sig} {f : Term} {refusal : MatchRefusal}
        → HasField fs l s
        → Sub ctx s t f
        → RefusesFields ctx fs gs refusal
        → RefusesFields ctx fs (SigRow.More l t gs) refusal

  pub data RefusesResult : List Kind → Effect → Effect → Abs → Abs → MatchRefusal → Type 0 where
    both_pure : {ctx : List Kind} {s t : Sig} {refusal : MatchRefusal}
        → RefusesSub ctx s t refusal
        → RefusesResult ctx Pure Pure (Abs.Ex [] s) (Abs.Ex [] t) refusal
    to_impure : {ctx : List Kind} {e : Effect} {x y : Abs} {refusal : MatchRefusal}
        → RefusesSubAbs ctx x y refusal
        → RefusesResult ctx e Impure x y refusal

  pub data RefusesSubAbs : List Kind → Abs → Abs → MatchRefusal → Type 0 where
    plain : {ctx : List Kind} {s : Sig} {y : Abs} {refusal : MatchRefusal}
        → RefusesMatch ctx s y refusal
        → RefusesSubAbs ctx (Abs.Ex [] s) y refusal
    hidden : {ctx ks : List Kind} {k : Kind} {s : Sig} {y : Abs} {refusal : MatchRefusal}
        → RefusesMatch (extend ctx (k ∷ ks)) s (raise_abs (k ∷ ks) y) refusal
        → RefusesSubAbs ctx (Abs.Ex (k ∷ ks) s) y refusal
