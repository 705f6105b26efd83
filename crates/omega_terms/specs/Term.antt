-- Terms of System Fω, as plain trees. Type variables and term variables are counted apart.
use Rattle.std.specs.Prelude.{ℕ, List, Bool as Truth, ℤ}
use Rattle.omega_kinds.specs.Kind.{Kind}
use Rattle.omega_kinds.specs.declared.label.Label.{Label}
use Rattle.omega_types.specs.Ty.{Ty}
use Rattle.omega_terms.specs.declared.op.Op.{Op}

mutual
  pub data Term : Type 0 where
    Var : (index : ℕ) → Term
    Int : (value : ℤ) → Term
    Bool : (value : Truth) → Term
    Text : (bytes : List ℕ) → Term
    Lam : (from : Ty) (body : Term) → Term
    Call : (function arg : Term) → Term
    TyLam : (kind : Kind) (body : Term) → Term
    Inst : (function : Term) (arg : Ty) → Term
    Fields : (fields : TermRow) → Term
    Get : (whole : Term) (label : Label) → Term
    Pack : (hidden : Ty) (body : Term) (target : Ty) → Term
    Unpack : (packed body : Term) → Term
    If : (test yes no : Term) → Term
    Arith : (op : Op) (left right : Term) → Term
    Fix : (from to : Ty) (body : Term) → Term
    Inj : (label : Label) (part : Term) (whole : Ty) → Term
    Case : (whole : Term) (result : Ty) (branches : TermRow) → Term
    Roll : (part : Term) (whole : Ty) → Term
    Unroll : (whole : Term) → Term

  pub data TermRow : Type 0 where
    End : TermRow
    More : (label : Label) (part : Term) (rest : TermRow) → TermRow
