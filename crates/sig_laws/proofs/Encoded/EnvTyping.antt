-- What is found for a name in a good environment is a good signature and a term of its encoding.
-- Main results: find-good, good-with_module, good-named_fields.
use Rattle.std.specs.Prelude.{zero, suc, List, [], ◌∷◌, ◌≡◌, Bool, true, false, cond, Option, Some, None}
use Rattle.std.proofs.Math.Path.{refl, sym, subst}
use Rattle.omega_kinds.specs.Kind.{Kind}
use Rattle.omega_kinds.specs.declared.label.Label.{Label}
use Rattle.omega_kinds.specs.Name.{Name, same_name}
use Rattle.omega_types.specs.Ty.{Ty}
use Rattle.omega_types.specs.Kinding.{here}
use Rattle.omega_types.specs.Normality.{Normal}
use Rattle.omega_types.specs.Normality.Neutral.{n_var, n_apply}
use Rattle.omega_types.specs.Binders.{extend}
use Rattle.omega_types.proofs.Preservation.{maps-suc, normal-rename}
use Rattle.omega_types.proofs.Hereditary.{eta-normal}
use Rattle.omega_terms.specs.Term.{Term}
use Rattle.omega_terms.specs.Typing.{At}
use Rattle.omega_terms.specs.PartTerms.{value_term, type_term}
use Rattle.omega_types.specs.Normality.Normal.{n_neutral}
use Rattle.omega_terms.proofs.NormalTyping.{Typed, TypedFields, cast, typed-under, typed-vars, AllNormal, all-shift}
use Rattle.omega_terms.proofs.NormalInstance.{shifts}
use Rattle.sig_definitions.specs.Signatures.Sig.{Sig, SigRow}
use Rattle.sig_definitions.specs.Signatures.Alike.{NormalSigRow}
use Rattle.sig_definitions.specs.Signatures.Encoding.{one_part, shown_type, enc}
use Rattle.sig_definitions.specs.Env.{Entry, Env, kinds, types, past_type, past_term, type_param, find, type_vars, with_module, named_fields}
use Rattle.sig_laws.proofs.Encoded.EncodingTyping.{Good, good-rename, good-normal, ShapeRow}
use Rattle.sig_laws.proofs.Encoded.EncodingLaws.{enc-rename}
use Rattle.sig_laws.proofs.Algebra.FormLaws.{kinds-type_vars}

abbrev pub GoodEntry : Env → Entry → Type 0
GoodEntry g (Entry.TypeVar k) = Unit {0}
GoodEntry g (Entry.Named x s) = Good (kinds g) s
GoodEntry g (Entry.Value x t) = Normal (kinds g) t Kind.Star
GoodEntry (Entry.TypeVar k ∷ g) (Entry.TypeParam x) = Unit {0}
GoodEntry g (Entry.TypeParam x) = ⊥

-- each entry of an environment is good in those outside it
abbrev pub GoodEnv : Env → Type 0
GoodEnv [] = Unit {0}
GoodEnv (entry ∷ g) = GoodEntry g entry × GoodEnv g

-- the term variables of a good environment have normal types
pub env-normal : (g : Env) → GoodEnv g → AllNormal (kinds g) (types g)
env-normal [] h = tt
env-normal (Entry.TypeVar k ∷ g) h = all-shift (kinds g) k (types g) (env-normal g h.1)
env-normal (Entry.Named x s ∷ g) h = (good-normal h.0, env-normal g h.1)
env-normal (Entry.Value x t ∷ g) h = (h.0, env-normal g h.1)
env-normal (Entry.TypeParam x ∷ g) h = env-normal g h.1

-- a type part shown by its term
pub type_term-typed : {ctx : List Kind} {vars : List Ty} {t : Ty} {k : Kind} → Normal ctx t k → Typed ctx vars (type_term t k) (one_part Label.Typ (shown_type t k))
type_term-typed {ctx} {k = k} n =
    let u = n_neutral (n_apply (n_var here) (normal-rename suc (maps-suc (Kind.Arrow k Kind.Star) ctx) n)) in
    Typed.fields (TypedFields.more (Typed.ty_lam (Typed.lam u (Typed.var At.here))) tt TypedFields.end)

-- looking up

abbrev pub GoodFound : Env → Option (Sig × Term) → Type 0
GoodFound g None = Unit {0}
GoodFound g (Some r) = Good (kinds g) r.0 × Typed (kinds g) (types g) r.1 (enc r.0)

found-type : (g : Env) (k : Kind) (o : Option (Sig × Term)) → GoodFound g o → GoodFound (Entry.TypeVar k ∷ g) (past_type o)
found-type g k None h = tt
found-type g k (Some r) h = (good-rename suc (maps-suc k (kinds g)) h.0, cast (sym (enc-rename suc r.0)) (typed-under k h.1))

found-named : (g : Env) (x : Name) (s : Sig) (o : Option (Sig × Term)) → GoodFound g o → GoodFound (Entry.Named x s ∷ g) (past_term o)
found-named g x s None h = tt
found-named g x s (Some r) h = (h.0, typed-vars suc (λ n u a. At.there a) h.1)

found-value : (g : Env) (x : Name) (t : Ty) (o : Option (Sig × Term)) → GoodFound g o → GoodFound (Entry.Value x t ∷ g) (past_term o)
found-value g x t None h = tt
found-value g x t (Some r) h = (h.0, typed-vars suc (λ n u a. At.there a) h.1)

found-param : (g : Env) (k : Kind) (x : Name) (o : Option (Sig × Term)) → GoodFound (Entry.TypeVar k ∷ g) o → GoodFound (Entry.TypeParam x ∷ Entry.TypeVar k ∷ g) o
found-param g k x None h = tt
found-param g k x (Some r) h = h

found-cond : (g : Env) (b : Bool) (o p : Option (Sig × Term)) → GoodFound g o → GoodFound g p → GoodFound g (cond b o p)
found-cond g true o p h i = h
found-cond g false o p h i = i

pub good-found : (g : Env) (x : Name) → GoodEnv g → GoodFound g (find g x)
good-found [] x h = tt
good-found (Entry.TypeVar k ∷ g) x h = found-type g k (find g x) (good-found g x h.1)
good-found (Entry.Named y s ∷ g) x h = found-cond (Entry.Named y s ∷ g) (same_name x y) (Some (s, Term.Var zero)) (past_term (find g x)) (h.0, Typed.var At.here) (found-named g y s (find g x) (good-found g x h.1))
good-found (Entry.Value y t ∷ g) x h = found-cond (Entry.Value y t ∷ g) (same_name x y) (Some (Sig.Val t, value_term (Term.Var zero))) (past_term (find g x)) (record { normal = h.0; shape = tt }, Typed.fields (TypedFields.more (Typed.var At.here) tt TypedFields.end)) (found-value g y t (find g x) (good-found g x h.1))
good-found (Entry.TypeParam y ∷ Entry.TypeVar k ∷ g) x h =
    let a = (eta-normal k (n_var {ctx = k ∷ kinds g} here)).0 in
    found-cond (Entry.TypeParam y ∷ Entry.TypeVar k ∷ g) (same_name x y) (Some (type_param k)) (find (Entry.TypeVar k ∷ g) x) (record { normal = a; shape = tt }, type_term-typed a) (found-param g k y (find (Entry.TypeVar k ∷ g) x) (good-found (Entry.TypeVar k ∷ g) x h.1))
good-found (Entry.TypeParam y ∷ []) x h = elim (h.0) [ ]
good-found (Entry.TypeParam y ∷ Entry.Named z s ∷ g) x h = elim (h.0) [ ]
good-found (Entry.TypeParam y ∷ Entry.Value z t ∷ g) x h = elim (h.0) [ ]
good-found (Entry.TypeParam y ∷ Entry.TypeParam z ∷ g) x h = elim (h.0) [ ]

-- what is found for a name in a good environment is a good signature with a term of its encoding
pub find-good : {s : Sig} {e : Term} (g : Env) (x : Name) → GoodEnv g → find g x ≡ Some (s, e) → Good (kinds g) s × Typed (kinds g) (types g) e (enc s)
find-good g x h e = subst (λ o. GoodFound g o) e (good-found g x h)

-- environments under more entries

-- further type variables shift the types of the term variables
pub types-type_vars : (g : Env) (ks : List Kind) → types (type_vars g ks) ≡ shifts ks (types g)
types-type_vars g [] = refl
types-type_vars g (k ∷ ks) = types-type_vars (Entry.TypeVar k ∷ g) ks

-- further type variables keep an environment good
pub good-type_vars : (g : Env) (ks : List Kind) → GoodEnv g → GoodEnv (type_vars g ks)
good-type_vars g [] h = h
good-type_vars g (k ∷ ks) h = good-type_vars (Entry.TypeVar k ∷ g) ks (tt, h)

-- a good environment with a module of a good signature is good
pub good-with_module : {s : Sig} (g : Env) (ks : List Kind) (x : Name) → GoodEnv g → Good (extend (kinds g) ks) s → GoodEnv (with_module g ks x s)
good-with_module {s} g ks x h i = (subst (λ c. Good c s) (sym (kinds-type_vars g ks)) i, good-type_vars g ks h)

-- fields added as modules leave the type variables of an environment as they are
pub kinds-named_fields : (g : Env) (fs : SigRow) → kinds (named_fields g fs) ≡ kinds g
kinds-named_fields g SigRow.End = refl
kinds-named_fields g (SigRow.More l s rest) = kinds-named_fields (Entry.Named l s ∷ g) rest

-- the types of term variables with those of fields, each an encoding
abbrev pub field_vars : SigRow → List Ty → List Ty
field_vars SigRow.End vars = vars
field_vars (SigRow.More l s rest) vars = field_vars rest (enc s ∷ vars)

-- fields added as modules add the encodings of their signatures to the types of the term variables
pub types-named_fields : (g : Env) (fs : SigRow) → types (named_fields g fs) ≡ field_vars fs (types g)
types-named_fields g SigRow.End = refl
types-named_fields g (SigRow.More l s rest) = types-named_fields (Entry.Named l s ∷ g) rest

-- a good environment with the fields of a good structure is good
pub good-named_fields : (g : Env) (fs : SigRow) → GoodEnv g → NormalSigRow (kinds g) fs → ShapeRow fs → GoodEnv (named_fields g fs)
good-named_fields g SigRow.End h n i = h
good-named_fields g (SigRow.More l s rest) h n i = good-named_fields (Entry.Named l s ∷ g) rest (record { normal = n.0; shape = i.1 }, h) n.1 i.2
