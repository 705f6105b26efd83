-- Looking up the hidden types of a right side in a left side, along their root paths
-- (the lookup of Rossberg, Russo, Dreyer, F-ing modules, section 5, here through pure functors too).
use Rattle.std.specs.Prelude.{List, [], ◌∷◌, ◌++◌, length}
use Rattle.omega_kinds.specs.Kind.{Kind}
use Rattle.omega_kinds.specs.declared.effect.Effect.TheVariants.{Pure}
use Rattle.omega_kinds.specs.Name.{Name}
use Rattle.omega_types.specs.Ty.{Ty}
use Rattle.omega_types.specs.Binders.{extend, lam_over, OfKinds}
use Rattle.omega_terms.specs.Term.{Term}
use Rattle.sig_definitions.specs.Signatures.Sig.{Sig, Abs, SigRow, HasField}
use Rattle.sig_definitions.specs.Signatures.SigSubst.{raise_abs, sig_at_under}
use Rattle.sig_definitions.specs.Signatures.Alike.{NormalSigForm, IsSigAt}
use Rattle.sig_definitions.specs.Explicit.SigPath.{SigPath, Item}
use Rattle.sig_definitions.specs.Explicit.RootPath.{LeastRoot}
use Rattle.sig_definitions.specs.Matching.Subtyping.{Match}

-- Found ctx s p r t: at the path p of the right side r the left side s holds the type t
pub data Found : List Kind → Sig → SigPath → Sig → Ty → Type 0 where
  -- a type part of the kind that the right side has
  end : {ctx : List Kind} {t u : Ty} {k : Kind} → Found ctx (Sig.Typ t k) [] (Sig.Typ u k) t
  field : {ctx : List Kind} {fs gs : SigRow} {l : Name} {s r : Sig} {p : SigPath} {t : Ty}
      → HasField fs l s
      → HasField gs l r
      → Found ctx s p r t
      → Found ctx (Sig.Str fs) (Item.Part l ∷ p) (Sig.Str gs) t
  -- the right parameter is matched against the left one, and the left result is taken at the types of that match
  result : {ctx ks js : List Kind} {a b s r y : Sig} {p : SigPath} {ts : List Ty} {f : Term} {t : Ty}
      → Match (extend ctx js) b (raise_abs js (Abs.Ex ks a)) ts f
      → NormalSigForm (extend ctx js) (sig_at_under js ts s) y
      → Found (extend ctx js) y p r t
      → Found ctx (Sig.Fun Pure ks a (Abs.Ex [] s)) (Item.Res ∷ p) (Sig.Fun Pure js b (Abs.Ex [] r)) (lam_over js t)

-- n is the right side with these types put in for its first variables, and any types for the others
pub data PutFirst (ctx ks : List Kind) (r : Sig) (ts : List Ty) (n : Sig) : Type 0 where
  put : (others : List Ty)
      → OfKinds ctx (ts ++ others) ks
      → IsSigAt ctx r (ts ++ others) n
      → PutFirst ctx ks r ts n

-- FoundAt ctx s ks r before t: t is found for the variable after those that have the types before; no parameter on its
-- least root path mentions that variable or those after it, so that any types may stand for them
pub data FoundAt (ctx : List Kind) (s : Sig) (ks : List Kind) (r : Sig) (before : List Ty) (t : Ty) : Type 0 where
  found_at : {p : SigPath} {n : Sig}
      → LeastRoot ctx ks r (length before) p
      → PutFirst ctx ks r before n
      → Found ctx s p n t
      → FoundAt ctx s ks r before t

-- types are found for further variables, one after the other
pub data FoundAfter (ctx : List Kind) (s : Sig) (ks : List Kind) (r : Sig) : (before more : List Ty) → Type 0 where
  none : {before : List Ty} → FoundAfter ctx s ks r before []
  next : {before more : List Ty} {t : Ty}
      → FoundAt ctx s ks r before t
      → FoundAfter ctx s ks r (before ++ (t ∷ [])) more
      → FoundAfter ctx s ks r before (t ∷ more)

-- the types found for the first variables
abbrev pub Looked : List Kind → Sig → List Kind → Sig → List Ty → Type 0
Looked ctx s ks r ts = FoundAfter ctx s ks r [] ts
