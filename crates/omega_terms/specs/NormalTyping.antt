-- Typing with normal types throughout: one rule for each form, and no rule of conversion.
use Rattle.std.specs.Prelude.{ℕ, suc, List, [], ◌∷◌, Bool, ℤ}
use Rattle.omega_kinds.specs.Kind.{Kind}
use Rattle.omega_kinds.specs.declared.label.Label.{Label}
use Rattle.omega_types.specs.Ty.{Ty, Row}
use Rattle.omega_types.specs.Substitution.{rename, instantiate}
use Rattle.omega_types.specs.Kinding.{Fresh}
use Rattle.omega_types.specs.Normality.{Normal}
use Rattle.omega_types.specs.Normalises.{NormalForm}
use Rattle.omega_terms.specs.declared.op.Op.{Op}
use Rattle.omega_terms.specs.Term.{Term, TermRow}
use Rattle.omega_terms.specs.Typing.{At, HasPart, shift_all, result_type}

mutual
  pub data Typed : List Kind → List Ty → Term → Ty → Type 0 where
    var : {ctx : List Kind} {vars : List Ty} {n : ℕ} {t : Ty} → At vars n t → Typed ctx vars (Term.Var n) t
    int : {ctx : List Kind} {vars : List Ty} {z : ℤ} → Typed ctx vars (Term.Int z) Ty.Int
    bool : {ctx : List Kind} {vars : List Ty} {b : Bool} → Typed ctx vars (Term.Bool b) Ty.Bool
    text : {ctx : List Kind} {vars : List Ty} {s : List ℕ} → Typed ctx vars (Term.Text s) Ty.Text
    lam : {ctx : List Kind} {vars : List Ty} {t u : Ty} {e : Term} → Normal ctx t Kind.Star → Typed ctx (t ∷ vars) e u → Typed ctx vars (Term.Lam t e) (Ty.Arrow t u)
    call : {ctx : List Kind} {vars : List Ty} {t u : Ty} {f a : Term} → Typed ctx vars f (Ty.Arrow t u) → Typed ctx vars a t → Typed ctx vars (Term.Call f a) u
    ty_lam : {ctx : List Kind} {vars : List Ty} {k : Kind} {e : Term} {t : Ty} → Typed (k ∷ ctx) (shift_all vars) e t → Typed ctx vars (Term.TyLam k e) (Ty.All k t)
    inst : {ctx : List Kind} {vars : List Ty} {k : Kind} {e : Term} {t n body : Ty} → Typed ctx vars e (Ty.All k body) → Normal ctx t k → NormalForm ctx (instantiate body t) Kind.Star n → Typed ctx vars (Term.Inst e t) n
    fields : {ctx : List Kind} {vars : List Ty} {f : TermRow} {r : Row} → TypedFields ctx vars f r → Typed ctx vars (Term.Fields f) (Ty.Fields r)
    get : {ctx : List Kind} {vars : List Ty} {e : Term} {r : Row} {l : Label} {t : Ty} → Typed ctx vars e (Ty.Fields r) → HasPart r l t → Typed ctx vars (Term.Get e l) t
    pack : {ctx : List Kind} {vars : List Ty} {k : Kind} {e : Term} {t n body : Ty} → Normal ctx (Ty.Ex k body) Kind.Star → Normal ctx t k → NormalForm ctx (instantiate body t) Kind.Star n → Typed ctx vars e n → Typed ctx vars (Term.Pack t e (Ty.Ex k body)) (Ty.Ex k body)
    unpack : {ctx : List Kind} {vars : List Ty} {k : Kind} {p e : Term} {t body : Ty} → Typed ctx vars p (Ty.Ex k body) → Normal ctx t Kind.Star → Typed (k ∷ ctx) (body ∷ shift_all vars) e (rename suc t) → Typed ctx vars (Term.Unpack p e) t
    if_ : {ctx : List Kind} {vars : List Ty} {a b c : Term} {t : Ty} → Typed ctx vars a Ty.Bool → Typed ctx vars b t → Typed ctx vars c t → Typed ctx vars (Term.If a b c) t
    arith : {ctx : List Kind} {vars : List Ty} {o : Op} {a b : Term} → Typed ctx vars a Ty.Int → Typed ctx vars b Ty.Int → Typed ctx vars (Term.Arith o a b) (result_type o)
    fix : {ctx : List Kind} {vars : List Ty} {t u : Ty} {e : Term} → Normal ctx t Kind.Star → Normal ctx u Kind.Star → Typed ctx (t ∷ (Ty.Arrow t u ∷ vars)) e u → Typed ctx vars (Term.Fix t u e) (Ty.Arrow t u)
    inj : {ctx : List Kind} {vars : List Ty} {l : Label} {e : Term} {u : Ty} {r : Row} → Normal ctx (Ty.Sum r) Kind.Star → HasPart r l u → Typed ctx vars e u → Typed ctx vars (Term.Inj l e (Ty.Sum r)) (Ty.Sum r)
    case : {ctx : List Kind} {vars : List Ty} {e : Term} {t : Ty} {r : Row} {f : TermRow} → Typed ctx vars e (Ty.Sum r) → Normal ctx t Kind.Star → TypedBranches ctx vars f r t → Typed ctx vars (Term.Case e t f) t
    roll : {ctx : List Kind} {vars : List Ty} {e : Term} {n body : Ty} → Normal ctx (Ty.Mu body) Kind.Star → NormalForm ctx (instantiate body (Ty.Mu body)) Kind.Star n → Typed ctx vars e n → Typed ctx vars (Term.Roll e (Ty.Mu body)) (Ty.Mu body)
    unroll : {ctx : List Kind} {vars : List Ty} {e : Term} {n body : Ty} → Typed ctx vars e (Ty.Mu body) → NormalForm ctx (instantiate body (Ty.Mu body)) Kind.Star n → Typed ctx vars (Term.Unroll e) n

  pub data TypedFields : List Kind → List Ty → TermRow → Row → Type 0 where
    end : {ctx : List Kind} {vars : List Ty} → TypedFields ctx vars TermRow.End Row.End
    more : {ctx : List Kind} {vars : List Ty} {l : Label} {e : Term} {t : Ty} {f : TermRow} {r : Row} → Typed ctx vars e t → Fresh l r → TypedFields ctx vars f r → TypedFields ctx vars (TermRow.More l e f) (Row.More l t r)

  pub data TypedBranches : List Kind → List Ty → TermRow → Row → Ty → Type 0 where
    none : {ctx : List Kind} {vars : List Ty} {t : Ty} → TypedBranches ctx vars TermRow.End Row.End t
    branch : {ctx : List Kind} {vars : List Ty} {l : Label} {e : Term} {t u : Ty} {f : TermRow} {r : Row} → Typed ctx (u ∷ vars) e t → TypedBranches ctx vars f r t → TypedBranches ctx vars (TermRow.More l e f) (Row.More l u r) t

-- each of the types is normal, of kind *
abbrev pub AllNormal : List Kind → List Ty → Type 0
AllNormal ctx [] = Unit {0}
AllNormal ctx (t ∷ ts) = Normal ctx t Kind.Star × AllNormal ctx ts
