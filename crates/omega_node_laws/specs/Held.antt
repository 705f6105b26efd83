-- That a list has the type that is found for each node of a term. A checker establishes it while it walks the term.
--
-- It speaks of the types that are found, in normal form, in contexts of normal types; NodeTypes speaks of those that the
-- typing rules give. Of (call (fn int x0) 3) the list has int, which is the type of the whole, of the argument and of the
-- variable, and (-> int int), that of the function, although `synth_in` needs no type of the function there.
use Rattle.std.specs.Prelude.{◌≡◌, ℕ, List, ◌∷◌, Option, Some}
use Rattle.std.specs.Option.{option_map}
use Rattle.omega_kinds.specs.Kind.{Kind}
use Rattle.omega_types.specs.Ty.{Ty, Row}
use Rattle.omega_terms.specs.Term.{Term, TermRow}
use Rattle.omega_terms.specs.Typing.{shift_all}
use Rattle.type_store.specs.Numbers.{NumberOf}
use Rattle.omega_node_laws.specs.Found.{normal_at, synth_in}

-- there is a type, and the list has it
pub record Has (ts : List Ty) (o : Option Ty) : Type 0 where
  pub number : ℕ
  pub is_number : NumberOf ts (Some number) o

-- the type of the argument of a function that is called at once: the normal form of the type that is written there, or
-- that type itself, where it is the type of what the function is called with
pub data IsParameter (o p : Option Ty) (t : Ty) : Ty → Type 0 where
  normal : {n : Ty} → o ≡ Some n → IsParameter o p t n
  argument : p ≡ Some t → IsParameter o p t t

abbrev mutual
  -- the list has the type of the term, and the same holds of each term in it, in the contexts in which its type is found
  pub Held : List Ty → List Kind → List Ty → Term → Type 0
  Held ts ctx vars (Term.Lam t e) = Has ts (synth_in ctx vars (Term.Lam t e)) × ((n : Ty) × (normal_at ctx t Kind.Star ≡ Some n) × Held ts ctx (n ∷ vars) e)
  Held ts ctx vars (Term.Call (Term.Lam t e) a) =
      Has ts (synth_in ctx vars (Term.Call (Term.Lam t e) a)) × (Held ts ctx vars a × ((n : Ty) × IsParameter (normal_at ctx t Kind.Star) (synth_in ctx vars a) t n × Has ts (option_map (Ty.Arrow n) (synth_in ctx (n ∷ vars) e)) × Held ts ctx (n ∷ vars) e))
  Held ts ctx vars (Term.Call f a) = Has ts (synth_in ctx vars (Term.Call f a)) × (Held ts ctx vars a × Held ts ctx vars f)
  Held ts ctx vars (Term.TyLam k e) = Has ts (synth_in ctx vars (Term.TyLam k e)) × Held ts (k ∷ ctx) (shift_all vars) e
  Held ts ctx vars (Term.Inst e t) = Has ts (synth_in ctx vars (Term.Inst e t)) × Held ts ctx vars e
  Held ts ctx vars (Term.Fields row) = Has ts (synth_in ctx vars (Term.Fields row)) × HeldFields ts ctx vars row
  Held ts ctx vars (Term.Get e l) = Has ts (synth_in ctx vars (Term.Get e l)) × Held ts ctx vars e
  Held ts ctx vars (Term.Pack t e u) = Has ts (synth_in ctx vars (Term.Pack t e u)) × Held ts ctx vars e
  Held ts ctx vars (Term.Unpack p e) =
      Has ts (synth_in ctx vars (Term.Unpack p e)) × (Held ts ctx vars p × ((k : Kind) × (b : Ty) × (synth_in ctx vars p ≡ Some (Ty.Ex k b)) × Held ts (k ∷ ctx) (b ∷ shift_all vars) e))
  Held ts ctx vars (Term.If a b c) = Has ts (synth_in ctx vars (Term.If a b c)) × (Held ts ctx vars a × Held ts ctx vars b × Held ts ctx vars c)
  Held ts ctx vars (Term.Arith op a b) = Has ts (synth_in ctx vars (Term.Arith op a b)) × (Held ts ctx vars a × Held ts ctx vars b)
  Held ts ctx vars (Term.Fix t u e) =
      Has ts (synth_in ctx vars (Term.Fix t u e)) × ((n : Ty) × (m : Ty) × (normal_at ctx t Kind.Star ≡ Some n) × (normal_at ctx u Kind.Star ≡ Some m) × Held ts ctx (n ∷ (Ty.Arrow n m ∷ vars)) e)
  Held ts ctx vars (Term.Inj l e t) = Has ts (synth_in ctx vars (Term.Inj l e t)) × Held ts ctx vars e
  Held ts ctx vars (Term.Case e t row) =
      Has ts (synth_in ctx vars (Term.Case e t row)) × (Held ts ctx vars e × ((r : Row) × (synth_in ctx vars e ≡ Some (Ty.Sum r)) × HeldBranches ts ctx vars row r))
  Held ts ctx vars (Term.Roll e t) = Has ts (synth_in ctx vars (Term.Roll e t)) × Held ts ctx vars e
  Held ts ctx vars (Term.Unroll e) = Has ts (synth_in ctx vars (Term.Unroll e)) × Held ts ctx vars e
  Held ts ctx vars e = Has ts (synth_in ctx vars e)

  -- the same of each field
  pub HeldFields : List Ty → List Kind → List Ty → TermRow → Type 0
  HeldFields ts ctx vars TermRow.End = Unit {0}
  HeldFields ts ctx vars (TermRow.More l e rest) = Held ts ctx vars e × HeldFields ts ctx vars rest

  -- the same of each branch, under a variable of the type that the sum has for it
  pub HeldBranches : List Ty → List Kind → List Ty → TermRow → Row → Type 0
  HeldBranches ts ctx vars (TermRow.More l e rest) (Row.More m u r) = Held ts ctx (u ∷ vars) e × HeldBranches ts ctx vars rest r
  HeldBranches ts ctx vars _ _ = Unit {0}
