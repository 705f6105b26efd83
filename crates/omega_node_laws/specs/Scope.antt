-- What the checker keeps at a place of a term: the types that have numbers, and the variables in scope. A term variable,
-- the innermost last, has the number of its type where it was bound, and how many type variables were in scope there.
use Rattle.std.specs.Prelude.{◌≡◌, ℕ, ◌+◌, ◌-◌, ◌≤◌, ◌<◌, List, [], ◌∷◌, ◌++◌, All, Option, Some, None, length, map, reverse, take, refl, Bool as Truth, true, if◌then◌else◌}
use Rattle.std.specs.Option.{option_map}
use Rattle.std.specs.Coded.{Coded, code_by, coded×, coded_ℕ, coded_list}
use Rattle.omega_kinds.specs.Inner.Code.{kind_code}
use Rattle.omega_kinds.specs.Kind.{Kind}
use Rattle.omega_kinds.specs.View.{kind_tree}
use Rattle.omega_kinds.specs.declared.kind.Kind.{Kind as SharedKind}
use Rattle.omega_types.specs.Fields.{Rises}
use Rattle.omega_types.specs.Inner.Code.{ty_code}
use Rattle.omega_types.specs.Index.{shift}
use Rattle.omega_types.specs.Ty.{Ty, Row}
use Rattle.omega_terms.specs.Term.{Term, TermRow}
use Rattle.type_store.specs.Numbers.{NumberOf}
use Rattle.type_store.specs.Shape.{Parts}
use Rattle.type_store.specs.Trees.{Begins, Holds, ArePartsBelow, at, row_at}
use Rattle.omega_node_laws.specs.Found.{and_then, call_type, if_sum, let_type, normal_at, of_package, synth_branches, synth_in}
use Rattle.omega_node_laws.specs.SameTy.{same_ty}
use Rattle.omega_node_laws.specs.Held.{Has, IsParameter, Held, HeldBranches}

-- `kinds` are those of the type variables in scope, the innermost first, and `depth` is how many there are
pub record Scope : Type 0 where
  pub types : List Ty
  pub kinds : List Kind
  pub depth : ℕ
  pub vars : List (ℕ × ℕ)

abbrev pub scope_code : Coded Scope
scope_code =
    code_by ((List Ty × List Kind) × (ℕ × List (ℕ × ℕ))) (coded× (coded× (coded_list ty_code) (coded_list kind_code)) (coded× coded_ℕ (coded_list (coded× coded_ℕ coded_ℕ)))) (λ s. ((s.types, s.kinds), (s.depth, s.vars)))
    (λ p. record { types = p.0.0; kinds = p.0.1; depth = p.1.0; vars = p.1.1 }) (λ _. refl)

-- each variable's number is below n, and it was bound under no more type variables than these
pub record AreBound (n depth : ℕ) (vars : List (ℕ × ℕ)) : Type 0 where
  pub numbers : All (λ x. x.0 < n) vars
  pub depths : All (λ x. x.1 ≤ depth) vars

-- the type of a variable under so many type variables
abbrev pub type_under : List Ty → ℕ → ℕ × ℕ → Ty
type_under ts depth x = shift (depth - x.1) 0 (at ts x.0)

-- the types of the variables, each under all type variables in scope, as the definitions have them: the innermost first
unfoldable pub types_of : Scope → List Ty
types_of s = reverse (map (type_under s.types s.depth) s.vars)

-- a number, where there is one, is that of a type
abbrev pub IsIn : List Ty → Option ℕ → Type 0
IsIn ts None = Unit {0}
IsIn ts (Some n) = n < length ts

-- the type at a number, where there is one
abbrev pub type_at : List Ty → Option ℕ → Option Ty
type_at ts None = None
type_at ts (Some n) = Some (at ts n)

-- ---- one more variable, and one less

-- the variables stay as they are, and so do the numbers of the types
pub record Grows (old new : Scope) : Type 0 where
  pub begins : Begins old.types new.types
  pub same_types : types_of new ≡ types_of old
  pub same_kinds : new.kinds ≡ old.kinds
  pub same_depth : new.depth ≡ old.depth
  pub same_vars : new.vars ≡ old.vars

-- one more term variable, of the type at a number
pub record IsWithVar (old new : Scope) (n : ℕ) : Type 0 where
  pub same_types : new.types ≡ old.types
  pub bound : AreBound (length old.types) old.depth old.vars
  pub same_kinds : new.kinds ≡ old.kinds
  pub same_depth : new.depth ≡ old.depth
  pub more_vars : new.vars ≡ old.vars ++ (n, old.depth) ∷ []

-- one less
pub record IsWithoutVar (old new : Scope) : Type 0 where
  pub same_types : new.types ≡ old.types
  pub same_kinds : new.kinds ≡ old.kinds
  pub same_depth : new.depth ≡ old.depth
  pub less_vars : new.vars ≡ take (length old.vars - 1) old.vars

-- one more type variable
pub record IsWithType (old new : Scope) (k : Kind) : Type 0 where
  pub same_types : new.types ≡ old.types
  pub bound : AreBound (length old.types) old.depth old.vars
  pub more_kinds : new.kinds ≡ k ∷ old.kinds
  pub more_depth : new.depth ≡ old.depth + 1
  pub same_vars : new.vars ≡ old.vars

-- one less, where no term variable was bound under it
pub record IsLastType (s : Scope) : Type 0 where
  pub kind : Kind
  pub kinds : List Kind
  pub some_kinds : s.kinds ≡ kind ∷ kinds
  pub some_depth : 0 < s.depth
  pub bound : All (λ x. x.1 ≤ s.depth - 1) s.vars

pub record IsWithoutType (old new : Scope) : Type 0 where
  pub same_types : new.types ≡ old.types
  pub less_kinds : (k : Kind) (ks : List Kind) → old.kinds ≡ k ∷ ks → new.kinds ≡ ks
  pub less_depth : new.depth ≡ old.depth - 1
  pub same_vars : new.vars ≡ old.vars

-- ---- what a call gives

-- the type of the argument of a function that is called at once, from the type that is written there
abbrev pub parameter_type : List Kind → Ty → Ty → Option Ty
parameter_type ctx t u = if same_ty t u then Some u else normal_at ctx t Kind.Star

-- the number of a type
pub record Makes (old new : Scope) (n : ℕ) (t : Ty) : Type 0 where
  pub grows : Grows old new
  pub holds : Holds new.types n t

-- the number of a type, where there is one
pub record Finds (old new : Scope) (number : Option ℕ) (t : Option Ty) : Type 0 where
  pub grows : Grows old new
  pub is_number : NumberOf new.types number t

-- the number of a term's type in these contexts, where it has one. Then the types of all its nodes have numbers
pub record Synthesises (old new : Scope) (kinds : List Kind) (vars : List Ty) (e : Term) (number : Option ℕ) : Type 0 where
  pub grows : Grows old new
  pub is_number : NumberOf new.types number (synth_in kinds vars e)
  pub held : (n : ℕ) → number ≡ Some n → Held new.types kinds vars e

-- the same of a function, from the number of its argument's type
pub record FindsFunction (old new : Scope) (from : ℕ) (e : Term) (number : Option ℕ) : Type 0 where
  pub grows : Grows old new
  pub is_number : NumberOf new.types number (option_map (Ty.Arrow (at old.types from)) (synth_in old.kinds (at old.types from ∷ types_of old) e))
  pub held : (n : ℕ) → number ≡ Some n → Held new.types old.kinds (at old.types from ∷ types_of old) e

-- the same of a function that is called at once, at an argument of the type at a number
pub record FindsLet (old new : Scope) (t : Ty) (e : Term) (arg : ℕ) (number : Option ℕ) : Type 0 where
  pub grows : Grows old new
  pub is_number : NumberOf new.types number (let_type (normal_at old.kinds t Kind.Star) t (λ n. synth_in old.kinds (n ∷ types_of old) e) (Some (at old.types arg)))
  pub held : (m : ℕ) → number ≡ Some m → (n : Ty) × IsParameter (normal_at old.kinds t Kind.Star) (Some (at old.types arg)) t n × Has new.types (option_map (Ty.Arrow n) (synth_in old.kinds (n ∷ types_of old) e)) × Held new.types old.kinds (n ∷ types_of old) e

-- the same of a call of any other function
pub record FindsCall (old new : Scope) (f : Term) (arg : ℕ) (number : Option ℕ) : Type 0 where
  pub grows : Grows old new
  pub is_number : NumberOf new.types number (call_type (synth_in old.kinds (types_of old) f) (Some (at old.types arg)))
  pub held : (n : ℕ) → number ≡ Some n → Held new.types old.kinds (types_of old) f

-- the kind and the number of what a package type hides and has, where it is one
abbrev pub IsPackage : List Ty → Option ℕ → Option (SharedKind × ℕ) → Type 0
IsPackage ts o None = (f : Kind → Ty → Option Ty) → and_then (type_at ts o) (λ s. of_package s f) ≡ None
IsPackage ts o (Some x) = (x.1 < length ts) × (type_at ts o ≡ Some (Ty.Ex (kind_tree x.0) (at ts x.1)))

-- the labels and numbers of a sum type, where it is one
abbrev pub IsSum : List Ty → ℕ → Option Parts → Type 0
IsSum ts n None = (t : Ty) (f : Row → Truth) → if_sum (at ts n) t f ≡ None
IsSum ts n (Some parts) = ArePartsBelow (length ts) parts × Rises parts × (at ts n ≡ Ty.Sum (row_at ts parts))

-- whether the branches have the labels of a sum, one by one, and each has the type. Then the types of all their nodes have
-- numbers
pub record FindsBranches (old new : Scope) (row : TermRow) (sum : Row) (t : Ty) (pass : Truth) : Type 0 where
  pub grows : Grows old new
  pub value : pass ≡ synth_branches old.kinds (types_of old) row sum t
  pub held : pass ≡ true → HeldBranches new.types old.kinds (types_of old) row sum
