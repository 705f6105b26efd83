-- What each function of the synthesis needs of the calls before it.
-- Main results: synth-in, find-in, var-done.
use Rattle.std.proofs.Common.{◌≡◌, ℕ, ◌<◌, List, Option, Some, slice_get, length, sym, ap, ◌∙◌, subst, arith}
use Rattle.omega_kinds.specs.Kind.{Kind}
use Rattle.omega_types.specs.Ty.{Ty}
use Rattle.omega_terms.specs.Term.{Term}
use Rattle.type_store.specs.Shape.{Shape, Parts}
use Rattle.type_store.specs.Trees.{IsBelow, at, tree_at}
use Rattle.type_store.proofs.TreeLaws.{parts_below-more}
use Rattle.omega_node_laws.specs.Found.{synth_in}
use Rattle.omega_node_laws.specs.Scope.{Scope, types_of, IsIn, IsSum, Grows, Finds, Synthesises}
use Rattle.omega_node_laws.proofs.ScopeSteps.{number-in, in-more}
use Rattle.omega_node_laws.proofs.SynthSteps.{has-number}

-- ---- numbers are those of types

-- a number that is synthesised is that of a type in the list
pub synth-in : {a b : Scope} {ks : List Kind} {vs : List Ty} {e : Term} (o : Option ℕ) → Synthesises a b ks vs e o → IsIn b.types o
synth-in {b = b} {ks = ks} {vs = vs} {e = e} o s = number-in b.types o (synth_in ks vs e) s.is_number

-- a number that is found is that of a type in the list
pub find-in : {a b : Scope} {t : Option Ty} (o : Option ℕ) → Finds a b o t → IsIn b.types o
find-in {b = b} {t = t} o s = number-in b.types o t s.is_number

-- a number in the list is less than its length
pub is-some : (ts : List Ty) (o : Option ℕ) (n : ℕ) → o ≡ Some n → IsIn ts o → n < length ts
is-some ts o n e h = subst (IsIn ts) e h

-- a number stays below the length as the list grows
pub below-grows : {a b : Scope} (n : ℕ) → Grows a b → n < length a.types → n < length b.types
below-grows {a} {b} n g h = in-more a.types b.types (Some n) g.begins h

-- ---- leaves

-- what is synthesised for a term is so for an equal one
pub cast : {z c : Scope} {ks : List Kind} {vs : List Ty} {d e : Term} {o : Option ℕ} → d ≡ e → Synthesises z c ks vs d o → Synthesises z c ks vs e o
cast {z} {c} {ks} {vs} {o = o} p s = subst (λ e. Synthesises z c ks vs e o) p s

-- the type of a term variable is the one that the context has
pub var-done : {z c : Scope} {i : ℕ} {o : Option ℕ} → Finds z c o (slice_get (types_of z) i) → Synthesises z c z.kinds (types_of z) (Term.Var i) o
var-done {z} {c} {i} {o} f = record {
  grows = f.grows;
  is_number = f.is_number;
  held = (λ n p. has-number c.types o (slice_get (types_of z) i) n f.is_number p);
}

-- ---- sums

-- the parts of a sum, from the form of its type
pub sum-of : (ts : List Ty) (n : ℕ) (s : Shape) (parts copy : Parts) → n < length ts → s ≡ Shape.Sum parts → copy ≡ parts → IsBelow n s → tree_at ts s ≡ at ts n
    → IsSum ts n (Some copy)
sum-of ts n s parts copy h e c b v =
    let below = subst (IsBelow n) e b in
    let same = parts_below-more n (length ts) parts (omega (arith, h)) below.0 in
    subst (λ ps. IsSum ts n (Some ps)) (sym c) (same, below.1, sym v ∙ ap (tree_at ts) e)
