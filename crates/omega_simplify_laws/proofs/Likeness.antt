-- A term is like another where it differs from it only by steps that it still has to do: calls of functions that give
-- their argument back, and parts taken out of records of values. The number bounds from above the weight of what it
-- has to do outside functions; what stands under a binder weighs nothing.
use Rattle.std.specs.Prelude.{ℕ, zero, ◌+◌, ◌<◌, ◌≤◌, List, Bool as Truth, ℤ}
use Rattle.omega_kinds.specs.Kind.{Kind}
use Rattle.omega_kinds.specs.declared.label.Label.{Label}
use Rattle.omega_types.specs.Ty.{Ty, Row}
use Rattle.omega_terms.specs.declared.op.Op.{Op}
use Rattle.omega_terms.specs.Term.{Term, TermRow}
use Rattle.omega_terms.specs.Steps.{AreValues, HasField}
use Rattle.omega_simplify_laws.proofs.Flat.{parts_of}

mutual
  -- a term is like another one: calls of functions that give their argument back are left out, at a weight
  pub data Like : ℕ → Term → Term → Type 0 where
    var : {n i : ℕ} → Like n (Term.Var i) (Term.Var i)
    int : {n : ℕ} {z : ℤ} → Like n (Term.Int z) (Term.Int z)
    bool : {n : ℕ} {b : Truth} → Like n (Term.Bool b) (Term.Bool b)
    text : {n : ℕ} {s : List ℕ} → Like n (Term.Text s) (Term.Text s)
    lam : {n k : ℕ} {t : Ty} {e d : Term} → Like k e d → Like n (Term.Lam t e) (Term.Lam t d)
    call : {n i j : ℕ} {f g a b : Term} → Like i f g → Like j a b → i + j ≤ n → Like n (Term.Call f a) (Term.Call g b)
    ty_lam : {n j : ℕ} {k : Kind} {e d : Term} → Like j e d → Like n (Term.TyLam k e) (Term.TyLam k d)
    inst : {n : ℕ} {e d : Term} {t : Ty} → Like n e d → Like n (Term.Inst e t) (Term.Inst d t)
    fields : {n : ℕ} {f g : TermRow} → AreLike n f g → Like n (Term.Fields f) (Term.Fields g)
    get : {n i : ℕ} {e d : Term} {l : Label} → Like i e d → i < n → Like n (Term.Get e l) (Term.Get d l)
    pack : {n : ℕ} {t u : Ty} {e d : Term} → Like n e d → Like n (Term.Pack t e u) (Term.Pack t d u)
    unpack : {n k : ℕ} {p q e d : Term} → Like n p q → Like k e d → Like n (Term.Unpack p e) (Term.Unpack q d)
    if_ : {n j k : ℕ} {a b c x y z : Term} → Like n a x → Like j b y → Like k c z → Like n (Term.If a b c) (Term.If x y z)
    arith : {n i j : ℕ} {o : Op} {a b x y : Term} → Like i a x → Like j b y → i + j ≤ n → Like n (Term.Arith o a b) (Term.Arith o x y)
    fix : {n k : ℕ} {t u : Ty} {e d : Term} → Like k e d → Like n (Term.Fix t u e) (Term.Fix t u d)
    inj : {n : ℕ} {l : Label} {e d : Term} {t : Ty} → Like n e d → Like n (Term.Inj l e t) (Term.Inj l d t)
    case : {n k : ℕ} {e d : Term} {t : Ty} {f g : TermRow} → Like n e d → AreLike k f g → Like n (Term.Case e t f) (Term.Case d t g)
    roll : {n : ℕ} {e d : Term} {t : Ty} → Like n e d → Like n (Term.Roll e t) (Term.Roll d t)
    unroll : {n : ℕ} {e d : Term} → Like n e d → Like n (Term.Unroll e) (Term.Unroll d)
    -- the call of a function that gives its argument back is still to be done
    drop : {n i j : ℕ} {f a b : Term} → GivesBack i f → Like j a b → i + j < n → Like n (Term.Call f a) b
    -- a value is still to be taken out of a record
    part : {n i : ℕ} {e d : Term} {l : Label} {g : TermRow} → Like i e (Term.Fields g) → AreValues g → HasField g l d → i < n → Like n (Term.Get e l) d

  -- fields are like others, label by label
  pub data AreLike : ℕ → TermRow → TermRow → Type 0 where
    end : {n : ℕ} → AreLike n TermRow.End TermRow.End
    more : {n i j : ℕ} {l : Label} {e d : Term} {f g : TermRow} → Like i e d → AreLike j f g → i + j ≤ n → AreLike n (TermRow.More l e f) (TermRow.More l d g)

  -- the term comes to a function that gives its argument back, or builds a record of its parts
  pub data GivesBack : ℕ → Term → Type 0 where
    whole : {k : ℕ} {t : Ty} {b : Term} → Like k b (Term.Var zero) → GivesBack k (Term.Lam t b)
    parts : {k : ℕ} {r : Row} {b : Term} → Like k b (Term.Fields (parts_of (Term.Var zero) r)) → GivesBack k (Term.Lam (Ty.Fields r) b)
    chain : {k i j : ℕ} {f a : Term} → GivesBack i f → GivesBack j a → i + j < k → GivesBack k (Term.Call f a)
