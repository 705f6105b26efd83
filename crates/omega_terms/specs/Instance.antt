-- A term with types put in, each type in normal form.
use Rattle.std.specs.Prelude.{ℕ, List, ◌∷◌, Bool, ℤ}
use Rattle.omega_kinds.specs.Kind.{Kind}
use Rattle.omega_kinds.specs.declared.label.Label.{Label}
use Rattle.omega_types.specs.Ty.{Ty}
use Rattle.omega_types.specs.Substitution.{substitute, under}
use Rattle.omega_types.specs.Normality.{Normal}
use Rattle.omega_types.specs.Normalises.{NormalForm}
use Rattle.omega_terms.specs.declared.op.Op.{Op}
use Rattle.omega_terms.specs.Term.{Term, TermRow}

-- n is the normal form of the normal type t with s put in; s leads from one context to another
pub data TyInstance (from to : List Kind) (s : ℕ → Ty) (t : Ty) (k : Kind) (n : Ty) : Type 0 where
  made : Normal from t k → NormalForm to (substitute s t) k n → TyInstance from to s t k n

-- the same for each type in a term; the kind of a type variable that an open binds is not written in the term
mutual
  pub data Instance : (from to : List Kind) → (ℕ → Ty) → Term → Term → Type 0 where
    var : {from to : List Kind} {s : ℕ → Ty} {n : ℕ} → Instance from to s (Term.Var n) (Term.Var n)
    int : {from to : List Kind} {s : ℕ → Ty} {z : ℤ} → Instance from to s (Term.Int z) (Term.Int z)
    bool : {from to : List Kind} {s : ℕ → Ty} {b : Bool} → Instance from to s (Term.Bool b) (Term.Bool b)
    text : {from to : List Kind} {s : ℕ → Ty} {x : List ℕ} → Instance from to s (Term.Text x) (Term.Text x)
    lam : {from to : List Kind} {s : ℕ → Ty} {t n : Ty} {e d : Term} → TyInstance from to s t Kind.Star n → Instance from to s e d → Instance from to s (Term.Lam t e) (Term.Lam n d)
    call : {from to : List Kind} {s : ℕ → Ty} {f g a b : Term} → Instance from to s f g → Instance from to s a b → Instance from to s (Term.Call f a) (Term.Call g b)
    ty_lam : {from to : List Kind} {s : ℕ → Ty} {k : Kind} {e d : Term} → Instance (k ∷ from) (k ∷ to) (under s) e d → Instance from to s (Term.TyLam k e) (Term.TyLam k d)
    inst : {from to : List Kind} {s : ℕ → Ty} {k : Kind} {t n : Ty} {e d : Term} → Instance from to s e d → TyInstance from to s t k n → Instance from to s (Term.Inst e t) (Term.Inst d n)
    fields : {from to : List Kind} {s : ℕ → Ty} {f g : TermRow} → Instances from to s f g → Instance from to s (Term.Fields f) (Term.Fields g)
    get : {from to : List Kind} {s : ℕ → Ty} {e d : Term} {l : Label} → Instance from to s e d → Instance from to s (Term.Get e l) (Term.Get d l)
    pack : {from to : List Kind} {s : ℕ → Ty} {k : Kind} {t n u v : Ty} {e d : Term} → TyInstance from to s t k n → Instance from to s e d → TyInstance from to s u Kind.Star v → Instance from to s (Term.Pack t e u) (Term.Pack n d v)
    unpack : {from to : List Kind} {s : ℕ → Ty} {p q e d : Term} (k : Kind) → Instance from to s p q → Instance (k ∷ from) (k ∷ to) (under s) e d → Instance from to s (Term.Unpack p e) (Term.Unpack q d)
    if_ : {from to : List Kind} {s : ℕ → Ty} {a b c x y z : Term} → Instance from to s a x → Instance from to s b y → Instance from to s c z → Instance from to s (Term.If a b c) (Term.If x y z)
    arith : {from to : List Kind} {s : ℕ → Ty} {o : Op} {a b x y : Term} → Instance from to s a x → Instance from to s b y → Instance from to s (Term.Arith o a b) (Term.Arith o x y)
    fix : {from to : List Kind} {s : ℕ → Ty} {t n u v : Ty} {e d : Term} → TyInstance from to s t Kind.Star n → TyInstance from to s u Kind.Star v → Instance from to s e d → Instance from to s (Term.Fix t u e) (Term.Fix n v d)
    inj : {from to : List Kind} {s : ℕ → Ty} {l : Label} {e d : Term} {t n : Ty} → Instance from to s e d → TyInstance from to s t Kind.Star n → Instance from to s (Term.Inj l e t) (Term.Inj l d n)
    case : {from to : List Kind} {s : ℕ → Ty} {e d : Term} {t n : Ty} {f g : TermRow} → Instance from to s e d → TyInstance from to s t Kind.Star n → Instances from to s f g → Instance from to s (Term.Case e t f) (Term.Case d n g)
    roll : {from to : List Kind} {s : ℕ → Ty} {e d : Term} {t n : Ty} → Instance from to s e d → TyInstance from to s t Kind.Star n → Instance from to s (Term.Roll e t) (Term.Roll d n)
    unroll : {from to : List Kind} {s : ℕ → Ty} {e d : Term} → Instance from to s e d → Instance from to s (Term.Unroll e) (Term.Unroll d)

  pub data Instances : (from to : List Kind) → (ℕ → Ty) → TermRow → TermRow → Type 0 where
    end : {from to : List Kind} {s : ℕ → Ty} → Instances from to s TermRow.End TermRow.End
    more : {from to : List Kind} {s : ℕ → Ty} {l : Label} {e d : Term} {f g : TermRow} → Instance from to s e d → Instances from to s f g → Instances from to s (TermRow.More l e f) (TermRow.More l d g)
