-- The rules of modules, one relation for the conclusion of each, and one for its refusals, over premises that are already
-- elaborated (Rossberg, Russo, Dreyer, F-ing modules, section 4). A rule's conditions are tried in order. Projections,
-- sequences, finished structures and paths have their relations in files of their own.
use Rattle.std.specs.Prelude.{List, [], ◌≡◌, ◌≢◌, Some, None}
use Rattle.omega_kinds.specs.Kind.{Kind}
use Rattle.omega_kinds.specs.declared.label.Label.{Label}
use Rattle.omega_kinds.specs.declared.effect.Effect.{Effect}
use Rattle.omega_kinds.specs.declared.effect.Effect.TheVariants.{Pure, Impure}
use Rattle.omega_kinds.specs.Name.{Name}
use Rattle.omega_types.specs.Ty.{Ty}
use Rattle.omega_types.specs.Binders.{extend}
use Rattle.omega_terms.specs.Term.{Term}
use Rattle.omega_terms.specs.Shorthands.{insts, ty_lam_over}
use Rattle.omega_terms.specs.Coercions.{result_label}
use Rattle.omega_terms.specs.PartTerms.{one_field, value_term, type_term, sig_term}
use Rattle.sig_definitions.specs.Signatures.Sig.{Sig, Abs, SigRow, HasField, Module, made}
use Rattle.sig_definitions.specs.Signatures.Alike.{IsAbsAt}
use Rattle.sig_definitions.specs.Signatures.Encoding.{enc, enc_abs}
use Rattle.sig_definitions.specs.Env.{Env, find}
use Rattle.sig_definitions.specs.Packing.{Packed}
use Rattle.module_judgments.specs.PathUse.{Outside, SigOutside}
use Rattle.module_judgments.specs.Sequence.{Seq, field_lets}
use Rattle.module_judgments.specs.ModWhy.{ModWhy, Unbound, NoPart, NotStructure, NotFunctor, WrongPath, Escapes}

-- X
pub data NamedGives (g : Env) : Name → Module → Type 0 where
  named : {l : Name} {s : Sig} {e : Term}
      → find g l ≡ Some (s, e)
      → NamedGives g l (made Pure (Abs.Ex [] s) [] e)

pub data NamedRefuses (g : Env) : Name → ModWhy → Type 0 where
  unbound : {l : Name}
      → find g l ≡ None
      → NamedRefuses g l (Unbound l)

-- M.X; the conclusion is Projected
pub data ProjectRefuses : Module → Name → ModWhy → Type 0 where
  no_structure : {f : Effect} {ks : List Kind} {s : Sig} {ts : List Ty} {e : Term} {l : Name}
      → ((fs : SigRow) → s ≢ Sig.Str fs)
      → ProjectRefuses (made f (Abs.Ex ks s) ts e) l NotStructure
  no_part : {f : Effect} {ks : List Kind} {fs : SigRow} {ts : List Ty} {e : Term} {l : Name}
      → ((s : Sig) → HasField fs l s → ⊥)
      → ProjectRefuses (made f (Abs.Ex ks (Sig.Str fs)) ts e) l (NoPart l)

-- a path as a type; the conclusion is TypeOfPath
pub data TypePathRefuses (ctx : List Kind) : Module → ModWhy → Type 0 where
  no_type : {f : Effect} {ks : List Kind} {s : Sig} {ts : List Ty} {e : Term}
      → ((t : Ty) (k : Kind) → s ≢ Sig.Typ t k)
      → TypePathRefuses ctx (made f (Abs.Ex ks s) ts e) WrongPath
  escapes : {f : Effect} {ks : List Kind} {t : Ty} {k : Kind} {ts : List Ty} {e : Term}
      → ((n : Ty) → Outside ctx ks t k n → ⊥)
      → TypePathRefuses ctx (made f (Abs.Ex ks (Sig.Typ t k)) ts e) Escapes

-- a path as a value; the conclusion is ValueOfPath
pub data ValuePathRefuses (ctx : List Kind) : Module → ModWhy → Type 0 where
  no_value : {f : Effect} {ks : List Kind} {s : Sig} {ts : List Ty} {e : Term}
      → ((t : Ty) → s ≢ Sig.Val t)
      → ValuePathRefuses ctx (made f (Abs.Ex ks s) ts e) WrongPath
  escapes : {f : Effect} {ks : List Kind} {t : Ty} {ts : List Ty} {e : Term}
      → ((n : Ty) → Outside ctx ks t Kind.Star n → ⊥)
      → ValuePathRefuses ctx (made f (Abs.Ex ks (Sig.Val t)) ts e) Escapes

-- a path as a signature; the conclusion is SigOfPath
pub data SigPathRefuses (ctx : List Kind) : Module → ModWhy → Type 0 where
  no_signature : {f : Effect} {ks : List Kind} {s : Sig} {ts : List Ty} {e : Term}
      → ((x : Abs) → s ≢ Sig.Meta x)
      → SigPathRefuses ctx (made f (Abs.Ex ks s) ts e) WrongPath
  escapes : {f : Effect} {ks : List Kind} {x : Abs} {ts : List Ty} {e : Term}
      → ((n : Abs) → SigOutside ctx ks x n → ⊥)
      → SigPathRefuses ctx (made f (Abs.Ex ks (Sig.Meta x)) ts e) Escapes

-- gen (X : S) => M, and fun (X : S) => M where M is impure; M under the hidden types of S and X; never refused
pub data GenerativeGives (ctx ks : List Kind) (s : Sig) : Module → Module → Type 0 where
  generative : {f : Effect} {y : Abs} {ts : List Ty} {e d : Term}
      → Packed (extend ctx ks) (made f y ts e) d
      → GenerativeGives ctx ks s (made f y ts e) (made Pure (Abs.Ex [] (Sig.Fun Impure ks s y)) [] (ty_lam_over ks (Term.Lam (enc s) (one_field Label.Gen d))))

-- the parts of a functor's signature: its effect, its parameter, and its result under the parameter's hidden types
pub data PartsGive : Sig → Effect → (param result : Abs) → Type 0 where
  parts : {f : Effect} {ks : List Kind} {s : Sig} {y : Abs} → PartsGive (Sig.Fun f ks s y) f (Abs.Ex ks s) y

pub data FunctorRefuses : Sig → ModWhy → Type 0 where
  no_functor : {s : Sig}
      → ((f : Effect) (ks : List Kind) (t : Sig) (x : Abs) → s ≢ Sig.Fun f ks t x)
      → FunctorRefuses s NotFunctor

-- X1 X2, at the types and by the coercion of a match of X2 against the parameter; refused where X1 is no functor
pub data ApplyGives (ctx : List Kind) : (functor : Sig) (term : Term) (types : List Ty) (coercion arg : Term) → Module → Type 0 where
  apply : {f : Effect} {ks : List Kind} {s : Sig} {y w : Abs} {ts : List Ty} {c d e : Term}
      → IsAbsAt ctx y ts w
      → ApplyGives ctx (Sig.Fun f ks s y) d ts c e (made f w [] (Term.Get (Term.Call (insts d ts) (Term.Call c e)) (result_label f)))

-- X :> S, at the types and by the coercion of a match of X against S; never refused
pub data SealGives : (term : Term) (target : Abs) (types : List Ty) (coercion : Term) → Module → Type 0 where
  seal : {e c : Term} {y : Abs} {ts : List Ty} → SealGives e y ts c (made Pure y ts (Term.Call c e))

-- val X = E, type X = T, signature X = S; never refused
pub data ValueGives : (ty : Ty) (term : Term) → Module → Type 0 where
  value : {t : Ty} {e : Term} → ValueGives t e (made Pure (Abs.Ex [] (Sig.Val t)) [] (value_term e))

pub data TypeGives : (ty : Ty) (kind : Kind) → Module → Type 0 where
  type : {t : Ty} {k : Kind} → TypeGives t k (made Pure (Abs.Ex [] (Sig.Typ t k)) [] (type_term t k))

pub data SignatureGives : Abs → Module → Type 0 where
  signature : {x : Abs} → SignatureGives x (made Pure (Abs.Ex [] (Sig.Meta x)) [] (sig_term (enc_abs x)))

-- include M and the rest, which stands under the hidden types of M, a hidden name and then the fields of M, in whose place
-- lets come
pub data IncludeGives (ctx : List Kind) : Module → Module → Module → Type 0 where
  include : {f h : Effect} {ks : List Kind} {fs : SigRow} {ts us : List Ty} {e d : Term} {y : Abs} {whole : Module}
      → Seq ctx (made f (Abs.Ex ks (Sig.Str fs)) ts e) (made h y us (field_lets 0 fs d)) whole
      → IncludeGives ctx (made f (Abs.Ex ks (Sig.Str fs)) ts e) (made h y us d) whole

pub data IncludeRefuses : Module → ModWhy → Type 0 where
  no_structure : {f : Effect} {ks : List Kind} {s : Sig} {ts : List Ty} {e : Term}
      → ((fs : SigRow) → s ≢ Sig.Str fs)
      → IncludeRefuses (made f (Abs.Ex ks s) ts e) NotStructure
