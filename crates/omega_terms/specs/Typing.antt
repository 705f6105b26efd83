-- Typing: one rule for each form, and the rule of conversion (Pierce, "Types and Programming Languages", chapters 11, 20, 23, 24 and 30).
-- The innermost type variable's kind is the first of ctx, the innermost term variable's type the first of vars.
use Rattle.std.specs.Prelude.{ℕ, zero, suc, List, [], ◌∷◌, ◌≢◌, Bool, ℤ}
use Rattle.omega_kinds.specs.Kind.{Kind}
use Rattle.omega_kinds.specs.declared.label.Label.{Label}
use Rattle.omega_types.specs.Ty.{Ty, Row}
use Rattle.omega_types.specs.Substitution.{rename, substitute, instantiate}
use Rattle.omega_types.specs.Kinding.{HasKind, Fresh}
use Rattle.omega_types.specs.Conversion.{Conv}
use Rattle.omega_terms.specs.declared.op.Op.{Op}
use Rattle.omega_terms.specs.Term.{Term, TermRow}

-- the item of the list at the index, the innermost variable being the first item
pub data At {A : Type 0} : List A → ℕ → A → Type 0 where
  here : {xs : List A} {x : A} → At (x ∷ xs) zero x
  there : {xs : List A} {n : ℕ} {x y : A} → At xs n x → At (y ∷ xs) (suc n) x

-- the types under one more type variable
abbrev pub shift_all : List Ty → List Ty
shift_all [] = []
shift_all (t ∷ ts) = rename suc t ∷ shift_all ts

-- the row has the type at the label
pub data HasPart : Row → Label → Ty → Type 0 where
  here : {l : Label} {t : Ty} {r : Row} → HasPart (Row.More l t r) l t
  there : {l m : Label} {t u : Ty} {r : Row} → l ≢ m → HasPart r l t → HasPart (Row.More m u r) l t

abbrev pub result_type : Op → Ty
result_type Op.Less = Ty.Bool
result_type Op.Equal = Ty.Bool
result_type _ = Ty.Int

mutual
  pub data HasType : List Kind → List Ty → Term → Ty → Type 0 where
    var : {ctx : List Kind} {vars : List Ty} {n : ℕ} {t : Ty} → At vars n t → HasType ctx vars (Term.Var n) t
    int : {ctx : List Kind} {vars : List Ty} {z : ℤ} → HasType ctx vars (Term.Int z) Ty.Int
    bool : {ctx : List Kind} {vars : List Ty} {b : Bool} → HasType ctx vars (Term.Bool b) Ty.Bool
    text : {ctx : List Kind} {vars : List Ty} {s : List ℕ} → HasType ctx vars (Term.Text s) Ty.Text
    lam : {ctx : List Kind} {vars : List Ty} {t u : Ty} {e : Term} → HasKind ctx t Kind.Star → HasType ctx (t ∷ vars) e u → HasType ctx vars (Term.Lam t e) (Ty.Arrow t u)
    call : {ctx : List Kind} {vars : List Ty} {t u : Ty} {f a : Term} → HasType ctx vars f (Ty.Arrow t u) → HasType ctx vars a t → HasType ctx vars (Term.Call f a) u
    ty_lam : {ctx : List Kind} {vars : List Ty} {k : Kind} {e : Term} {t : Ty} → HasType (k ∷ ctx) (shift_all vars) e t → HasType ctx vars (Term.TyLam k e) (Ty.All k t)
    inst : {ctx : List Kind} {vars : List Ty} {k : Kind} {e : Term} {t body : Ty} → HasType ctx vars e (Ty.All k body) → HasKind ctx t k → HasType ctx vars (Term.Inst e t) (instantiate body t)
    fields : {ctx : List Kind} {vars : List Ty} {f : TermRow} {r : Row} → FieldsHave ctx vars f r → HasType ctx vars (Term.Fields f) (Ty.Fields r)
    get : {ctx : List Kind} {vars : List Ty} {e : Term} {r : Row} {l : Label} {t : Ty} → HasType ctx vars e (Ty.Fields r) → HasPart r l t → HasType ctx vars (Term.Get e l) t
    pack : {ctx : List Kind} {vars : List Ty} {k : Kind} {e : Term} {t u body : Ty} → Conv ctx u (Ty.Ex k body) Kind.Star → HasKind ctx t k → HasType ctx vars e (instantiate body t) → HasType ctx vars (Term.Pack t e u) u
    unpack : {ctx : List Kind} {vars : List Ty} {k : Kind} {p e : Term} {t body : Ty} → HasType ctx vars p (Ty.Ex k body) → HasType (k ∷ ctx) (body ∷ shift_all vars) e (rename suc t) → HasType ctx vars (Term.Unpack p e) t
    if_ : {ctx : List Kind} {vars : List Ty} {a b c : Term} {t : Ty} → HasType ctx vars a Ty.Bool → HasType ctx vars b t → HasType ctx vars c t → HasType ctx vars (Term.If a b c) t
    arith : {ctx : List Kind} {vars : List Ty} {o : Op} {a b : Term} → HasType ctx vars a Ty.Int → HasType ctx vars b Ty.Int → HasType ctx vars (Term.Arith o a b) (result_type o)
    fix : {ctx : List Kind} {vars : List Ty} {t u : Ty} {e : Term} → HasKind ctx t Kind.Star → HasKind ctx u Kind.Star → HasType ctx (t ∷ (Ty.Arrow t u ∷ vars)) e u → HasType ctx vars (Term.Fix t u e) (Ty.Arrow t u)
    inj : {ctx : List Kind} {vars : List Ty} {l : Label} {e : Term} {t u : Ty} {r : Row} → Conv ctx t (Ty.Sum r) Kind.Star → HasPart r l u → HasType ctx vars e u → HasType ctx vars (Term.Inj l e t) t
    case : {ctx : List Kind} {vars : List Ty} {e : Term} {t : Ty} {r : Row} {f : TermRow} → HasType ctx vars e (Ty.Sum r) → HasKind ctx t Kind.Star → BranchesHave ctx vars f r t → HasType ctx vars (Term.Case e t f) t
    roll : {ctx : List Kind} {vars : List Ty} {e : Term} {t body : Ty} → Conv ctx t (Ty.Mu body) Kind.Star → HasType ctx vars e (instantiate body (Ty.Mu body)) → HasType ctx vars (Term.Roll e t) t
    unroll : {ctx : List Kind} {vars : List Ty} {e : Term} {body : Ty} → HasType ctx vars e (Ty.Mu body) → HasType ctx vars (Term.Unroll e) (instantiate body (Ty.Mu body))
    conv : {ctx : List Kind} {vars : List Ty} {e : Term} {t u : Ty} → HasType ctx vars e t → Conv ctx t u Kind.Star → HasType ctx vars e u

  -- the fields have the types of the row, label by label, and the labels are distinct
  pub data FieldsHave : List Kind → List Ty → TermRow → Row → Type 0 where
    end : {ctx : List Kind} {vars : List Ty} → FieldsHave ctx vars TermRow.End Row.End
    more : {ctx : List Kind} {vars : List Ty} {l : Label} {e : Term} {t : Ty} {f : TermRow} {r : Row} → HasType ctx vars e t → Fresh l r → FieldsHave ctx vars f r → FieldsHave ctx vars (TermRow.More l e f) (Row.More l t r)

  -- the branches have the type t, each under a variable of its label's type in the row, label by label
  pub data BranchesHave : List Kind → List Ty → TermRow → Row → Ty → Type 0 where
    none : {ctx : List Kind} {vars : List Ty} {t : Ty} → BranchesHave ctx vars TermRow.End Row.End t
    branch : {ctx : List Kind} {vars : List Ty} {l : Label} {e : Term} {t u : Ty} {f : TermRow} {r : Row} → HasType ctx (u ∷ vars) e t → BranchesHave ctx vars f r t → BranchesHave ctx vars (TermRow.More l e f) (Row.More l u r) t

-- each term variable's type has kind *
abbrev pub GoodVars : List Kind → List Ty → Type 0
GoodVars ctx vars = (n : ℕ) (t : Ty) → At vars n t → HasKind ctx t Kind.Star

-- q renames the type variables; r leads each term variable to one of its type, renamed
abbrev pub RenVars : List Ty → List Ty → (ℕ → ℕ) → (ℕ → ℕ) → Type 0
RenVars from to q r = (n : ℕ) (t : Ty) → At from n t → At to (r n) (rename q t)

-- s replaces the type variables; w gives each term variable a term of its type, replaced
abbrev pub SubVars : List Ty → List Kind → List Ty → (ℕ → Ty) → (ℕ → Term) → Type 0
SubVars from ctx to s w = (n : ℕ) (t : Ty) → At from n t → HasType ctx to (w n) (substitute s t)

-- a record type with any number of `some` round it
abbrev pub IsPackedRecord : Ty → Type 0
IsPackedRecord (Ty.Fields r) = Unit {0}
IsPackedRecord (Ty.Ex k b) = IsPackedRecord b
IsPackedRecord _ = ⊥
