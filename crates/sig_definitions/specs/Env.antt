-- Environments of elaboration (Rossberg, Russo, Dreyer, F-ing modules, section 4). The first entry is the innermost, as in
-- all contexts here.
use Rattle.std.specs.Prelude.{zero, suc, List, [], ◌∷◌, cond, Option, Some, None}
use Rattle.omega_kinds.specs.Kind.{Kind}
use Rattle.omega_kinds.specs.Name.{Name, same_name}
use Rattle.omega_types.specs.Ty.{Ty}
use Rattle.omega_types.specs.Kinding.{HasKind}
use Rattle.omega_types.specs.EtaLong.{eta}
use Rattle.omega_terms.specs.Term.{Term}
use Rattle.omega_terms.specs.TermSubst.{ren_term, same_index}
use Rattle.omega_terms.specs.Typing.{shift_all}
use Rattle.omega_terms.specs.PartTerms.{value_term, type_term}
use Rattle.sig_definitions.specs.Signatures.Sig.{Sig, SigRow}
use Rattle.sig_definitions.specs.Signatures.SigSubst.{rename_sig}
use Rattle.sig_definitions.specs.Signatures.Encoding.{enc}
use Rattle.sig_definitions.specs.Explicit.WellFormed.{WellFormed}

-- a type variable, a named module with its term variable, a value parameter with its term variable, or a name for
-- the type variable of the entry just outside
pub data Entry : Type 0 where
  TypeVar : (kind : Kind) → Entry
  Named : (name : Name) (sig : Sig) → Entry
  Value : (name : Name) (type : Ty) → Entry
  TypeParam : (name : Name) → Entry

abbrev pub Env : Type 0
Env = List Entry

-- the kinds of its type variables
abbrev pub kinds : Env → List Kind
kinds [] = []
kinds (Entry.TypeVar k ∷ g) = k ∷ kinds g
kinds (Entry.Named x s ∷ g) = kinds g
kinds (Entry.Value x t ∷ g) = kinds g
kinds (Entry.TypeParam x ∷ g) = kinds g

-- the types of its term variables
abbrev pub types : Env → List Ty
types [] = []
types (Entry.TypeVar k ∷ g) = shift_all (types g)
types (Entry.Named x s ∷ g) = enc s ∷ types g
types (Entry.Value x t ∷ g) = t ∷ types g
types (Entry.TypeParam x ∷ g) = types g

-- what is found, seen past one more type variable, or past one more term variable
abbrev pub past_type : Option (Sig × Term) → Option (Sig × Term)
past_type None = None
past_type (Some r) = Some (rename_sig suc r.0, ren_term suc same_index r.1)

abbrev pub past_term : Option (Sig × Term) → Option (Sig × Term)
past_term None = None
past_term (Some r) = Some (r.0, ren_term same_index suc r.1)

-- the kind of the innermost entry, a type variable where it is asked for
abbrev pub first_kind : Env → Kind
first_kind (Entry.TypeVar k ∷ g) = k
first_kind g = Kind.Star

-- the signature and the term of a type parameter, the type variable being the innermost one
abbrev pub type_param : Kind → Sig × Term
type_param k = let a = eta k (Ty.Var zero) in (Sig.Typ a k, type_term a k)

-- the innermost entry of the name: its signature and its term
abbrev pub find : Env → Name → Option (Sig × Term)
find [] x = None
find (Entry.TypeVar k ∷ g) x = past_type (find g x)
find (Entry.Named y s ∷ g) x = cond (same_name x y) (Some (s, Term.Var zero)) (past_term (find g x))
find (Entry.Value y t ∷ g) x = cond (same_name x y) (Some (Sig.Val t, value_term (Term.Var zero))) (past_term (find g x))
find (Entry.TypeParam y ∷ g) x = cond (same_name x y) (Some (type_param (first_kind g))) (find g x)

-- more type variables, the first being the outermost
abbrev pub type_vars : Env → List Kind → Env
type_vars g [] = g
type_vars g (k ∷ ks) = type_vars (Entry.TypeVar k ∷ g) ks

-- a module of a name, after the types that its signature hides
abbrev pub with_module : Env → List Kind → Name → Sig → Env
with_module g ks x s = Entry.Named x s ∷ type_vars g ks

-- each field as a module of its name, in order
abbrev pub named_fields : Env → SigRow → Env
named_fields g SigRow.End = g
named_fields g (SigRow.More l s rest) = named_fields (Entry.Named l s ∷ g) rest

-- each entry is well formed in those outside it
abbrev pub IsGoodEntry : Env → Entry → Type 0
IsGoodEntry g (Entry.TypeVar k) = Unit {0}
IsGoodEntry g (Entry.Named x s) = WellFormed (kinds g) s
IsGoodEntry g (Entry.Value x t) = HasKind (kinds g) t Kind.Star
IsGoodEntry (Entry.TypeVar k ∷ g) (Entry.TypeParam x) = Unit {0}
IsGoodEntry g (Entry.TypeParam x) = ⊥

abbrev pub IsGoodEnv : Env → Type 0
IsGoodEnv [] = Unit {0}
IsGoodEnv (entry ∷ g) = IsGoodEntry g entry × IsGoodEnv g
