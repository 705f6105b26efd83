-- What a checker on numbers establishes of a term from what it established of the parts, one law for each form.
--
-- `z` is the scope at the start, `c` the one at the end, and the others stand between calls. For example `GetStep`: the part
-- was synthesised and has the number o or none; the type at o has at the label the field's type, whose number is p; then p
-- is the number of the type of the whole, and the types of all nodes of the whole have numbers.
use Rattle.std.specs.Prelude.{◌≡◌, ℕ, ◌<◌, [], ◌∷◌, List, Option, Some, true, length, ℤ, Bool as Truth}
use Rattle.std.specs.Option.{option_map}
use Rattle.omega_kinds.specs.Kind.{Kind}
use Rattle.omega_kinds.specs.View.{kind_tree}
use Rattle.omega_kinds.specs.declared.kind.Kind.{Kind as SharedKind}
use Rattle.omega_kinds.specs.declared.label.Label.{Label}
use Rattle.omega_types.specs.Ty.{Ty, Row}
use Rattle.omega_types.specs.Fields.{Rises}
use Rattle.omega_terms.specs.Fields.{TermPairs, term_row}
use Rattle.omega_terms.specs.declared.op.Op.{Op}
use Rattle.omega_terms.specs.Term.{Term, TermRow}
use Rattle.omega_terms.specs.Typing.{shift_all}
use Rattle.type_store.specs.Numbers.{NumberOf}
use Rattle.type_store.specs.Shape.{Parts}
use Rattle.type_store.specs.Trees.{at, row_at}
use Rattle.omega_node_laws.specs.Found.{call_type, get_type, if_type, inj_type, inst_type, is_found, lowered, normal_at, op_type, pack_type, roll_type, synth_in, target_type, unroll_type}
use Rattle.omega_node_laws.specs.Scope.{Scope, types_of, type_at, Grows, Makes, Finds, Synthesises, FindsFunction, FindsBranches, IsPackage, IsSum, parameter_type}

-- a term is synthesised in the variables of the scope
abbrev pub Here : Scope → Scope → Term → Option ℕ → Type 0
Here old new e o = Synthesises old new old.kinds (types_of old) e o

-- the normal form of a type that is written in the term
abbrev pub Named : Scope → Scope → Ty → Option ℕ → Type 0
Named old new t o = Finds old new o (normal_at old.kinds t Kind.Star)

-- a variable, a number, a truth value or a string
pub data IsLeaf : Term → Type 0 where
  var : {i : ℕ} → IsLeaf (Term.Var i)
  int : {z : ℤ} → IsLeaf (Term.Int z)
  bool : {b : Truth} → IsLeaf (Term.Bool b)
  text : {bytes : List ℕ} → IsLeaf (Term.Text bytes)

abbrev pub LeafStep : Type 0
LeafStep = (z c : Scope) (e : Term) (t : Ty) (n : ℕ) → IsLeaf e → synth_in z.kinds (types_of z) e ≡ Some t → Makes z c n t → Here z c e (Some n)

-- the body of a function under an argument of the type at a number
abbrev pub FunctionStep : Type 0
FunctionStep = (a b c : Scope) (e : Term) (f : ℕ) (o p : Option ℕ) → f < length a.types → Synthesises a b a.kinds (at a.types f ∷ types_of a) e o → Finds b c p (option_map (Ty.Arrow (at b.types f)) (type_at b.types o)) → FindsFunction a c f e p

abbrev pub LamStep : Type 0
LamStep = (z a c : Scope) (t : Ty) (e : Term) (f : ℕ) (o p : Option ℕ) → Named z a t o → o ≡ Some f → FindsFunction a c f e p → Here z c (Term.Lam t e) p

-- a function that is called at once, and any other one
abbrev pub LetStep : Type 0
LetStep =
    (z x y c : Scope) (t : Ty) (e a : Term) (n f : ℕ) (o q p r : Option ℕ) → Here z x a o → o ≡ Some n → n < length x.types → Finds x y q (parameter_type x.kinds t (at x.types n)) → q ≡ Some f → FindsFunction y c f e p → NumberOf c.types r (call_type (type_at c.types p) (Some (at c.types n))) →
    Here z c (Term.Call (Term.Lam t e) a) r

abbrev pub CallStep : Type 0
CallStep =
    (z x c : Scope) (f a : Term) (n : ℕ) (o p r : Option ℕ) → ((t : Ty) (e : Term) → f ≡ Term.Lam t e → ⊥) → Here z x a o → o ≡ Some n → n < length x.types → Here x c f p → NumberOf c.types r (call_type (type_at c.types p) (Some (at c.types n))) →
    Here z c (Term.Call f a) r

abbrev pub TyLamStep : Type 0
TyLamStep = (z y c : Scope) (k : Kind) (e : Term) (o p : Option ℕ) → Synthesises z y (k ∷ z.kinds) (shift_all (types_of z)) e o → Finds y c p (option_map (Ty.All k) (type_at y.types o)) → Here z c (Term.TyLam k e) p

abbrev pub InstStep : Type 0
InstStep = (z y c : Scope) (e : Term) (t : Ty) (o p : Option ℕ) → Here z y e o → Finds y c p (inst_type y.kinds (type_at y.types o) t) → Here z c (Term.Inst e t) p

-- the fields of a record are synthesised one after the other, and each type has a number
pub data FindsFields : Scope → Scope → TermPairs → Parts → Type 0 where
  none : {s : Scope} → FindsFields s s [] []
  more : {a b c : Scope} {l : Label} {e : Term} {n : ℕ} {xs : TermPairs} {parts : Parts} → Here a b e (Some n) → FindsFields b c xs parts → FindsFields a c ((l, e) ∷ xs) ((l, n) ∷ parts)

abbrev pub FieldsStep : Type 0
FieldsStep = (z y c : Scope) (xs : TermPairs) (parts : Parts) (n : ℕ) → FindsFields z y xs parts → Rises xs → Makes y c n (Ty.Fields (row_at y.types parts)) → Here z c (Term.Fields (term_row xs)) (Some n)

abbrev pub GetStep : Type 0
GetStep = (z y c : Scope) (e : Term) (l : Label) (o p : Option ℕ) → Here z y e o → Grows y c → NumberOf c.types p (get_type (type_at y.types o) l) → Here z c (Term.Get e l) p

abbrev pub PackStep : Type 0
PackStep =
    (z x c : Scope) (t u : Ty) (e : Term) (b : ℕ) (o r : Option ℕ) → Here z x e o → o ≡ Some b → Finds x c r (pack_type x.kinds t (target_type x.kinds t u (Some (at x.types b))) (Some (at x.types b))) →
    Here z c (Term.Pack t e u) r

abbrev pub UnpackStep : Type 0
UnpackStep =
    (z x y c : Scope) (p e : Term) (k : SharedKind) (b : ℕ) (o q r : Option ℕ) → Here z x p o → IsPackage x.types o (Some (k, b)) → Synthesises x y (kind_tree k ∷ x.kinds) (at x.types b ∷ shift_all (types_of x)) e q → Finds y c r (lowered (type_at y.types q)) →
    Here z c (Term.Unpack p e) r

abbrev pub IfStep : Type 0
IfStep =
    (z a b y c : Scope) (e f g : Term) (o p q r : Option ℕ) → Here z a e o → Here a b f p → Here b y g q → Finds y c r (if_type (type_at y.types o) (type_at y.types p) (type_at y.types q)) →
    Here z c (Term.If e f g) r

abbrev pub ArithStep : Type 0
ArithStep = (z b y c : Scope) (op : Op) (e f : Term) (o p r : Option ℕ) → Here z b e o → Here b y f p → Finds y c r (op_type op (type_at y.types o) (type_at y.types p)) → Here z c (Term.Arith op e f) r

-- the body has the result's type under the argument and the function itself
abbrev pub FixStep : Type 0
FixStep =
    (z x y w c : Scope) (t u : Ty) (e : Term) (f g h : ℕ) (o p r : Option ℕ) → Named z x t o → o ≡ Some f → Named x y u p → p ≡ Some g → f < length x.types → g < length y.types → Makes y w h (Ty.Arrow (at y.types f) (at y.types g)) →
    Synthesises w c w.kinds (at w.types f ∷ (at w.types h ∷ types_of w)) e r → true ≡ is_found (at c.types g) (type_at c.types r) → Here z c (Term.Fix t u e) (Some h)

abbrev pub InjStep : Type 0
InjStep = (z x y c : Scope) (l : Label) (e : Term) (t : Ty) (m o p : Option ℕ) → Named z x t m → Here x y e o → Grows y c → NumberOf c.types p (inj_type l (type_at y.types m) (type_at y.types o)) → Here z c (Term.Inj l e t) p

abbrev pub CaseStep : Type 0
CaseStep =
    (z x y c : Scope) (e : Term) (t : Ty) (row : TermRow) (n m : ℕ) (parts : Parts) (o p : Option ℕ) → Named z x t o → Here x y e p → o ≡ Some n → p ≡ Some m → n < length x.types → IsSum y.types m (Some parts) → FindsBranches y c row (row_at y.types parts) (at y.types n) true →
    Here z c (Term.Case e t row) (Some n)

-- no branches pass, and one more passes before others that do
abbrev pub NoBranchStep : Type 0
NoBranchStep = (z : Scope) (t : Ty) → FindsBranches z z TermRow.End Row.End t true

abbrev pub BranchStep : Type 0
BranchStep =
    (a b c : Scope) (l : Label) (e : Term) (rest : TermRow) (u t : Ty) (r : Row) (n : ℕ) → Synthesises a b a.kinds (u ∷ types_of a) e (Some n) → at b.types n ≡ t → FindsBranches b c rest r t true → FindsBranches a c (TermRow.More l e rest) (Row.More l u r) t true

abbrev pub RollStep : Type 0
RollStep = (z x y c : Scope) (e : Term) (t : Ty) (m o p : Option ℕ) → Named z x t m → Here x y e o → Finds y c p (roll_type (type_at y.types m) (type_at y.types o)) → Here z c (Term.Roll e t) p

abbrev pub UnrollStep : Type 0
UnrollStep = (z y c : Scope) (e : Term) (o p : Option ℕ) → Here z y e o → Finds y c p (unroll_type (type_at y.types o)) → Here z c (Term.Unroll e) p
