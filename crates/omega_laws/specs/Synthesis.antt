-- Synthesis of one type for each term, in normal form: what a checker computes.
use Rattle.std.specs.Prelude.{ℕ, suc, List, ◌∷◌, ◌≡◌, ◌↔◌, Bool, ℤ}
use Rattle.omega_kinds.specs.Kind.{Kind}
use Rattle.omega_kinds.specs.declared.label.Label.{Label}
use Rattle.omega_types.specs.Ty.{Ty, Row}
use Rattle.omega_types.specs.Substitution.{rename, instantiate}
use Rattle.omega_types.specs.Kinding.{HasKind, Fresh}
use Rattle.omega_types.specs.Normaliser.{normal}
use Rattle.omega_terms.specs.declared.op.Op.{Op}
use Rattle.omega_terms.specs.Term.{Term, TermRow}
use Rattle.omega_terms.specs.Typing.{At, HasPart, HasType, GoodVars, shift_all, result_type}

mutual
  pub data Synth : List Kind → List Ty → Term → Ty → Type 0 where
    var : {ctx : List Kind} {vars : List Ty} {n : ℕ} {t : Ty} → At vars n t → Synth ctx vars (Term.Var n) (normal ctx t)
    int : {ctx : List Kind} {vars : List Ty} {z : ℤ} → Synth ctx vars (Term.Int z) Ty.Int
    bool : {ctx : List Kind} {vars : List Ty} {b : Bool} → Synth ctx vars (Term.Bool b) Ty.Bool
    text : {ctx : List Kind} {vars : List Ty} {s : List ℕ} → Synth ctx vars (Term.Text s) Ty.Text
    lam : {ctx : List Kind} {vars : List Ty} {t u : Ty} {e : Term} → HasKind ctx t Kind.Star → Synth ctx (t ∷ vars) e u → Synth ctx vars (Term.Lam t e) (Ty.Arrow (normal ctx t) u)
    call : {ctx : List Kind} {vars : List Ty} {t u : Ty} {f a : Term} → Synth ctx vars f (Ty.Arrow t u) → Synth ctx vars a t → Synth ctx vars (Term.Call f a) u
    ty_lam : {ctx : List Kind} {vars : List Ty} {k : Kind} {e : Term} {t : Ty} → Synth (k ∷ ctx) (shift_all vars) e t → Synth ctx vars (Term.TyLam k e) (Ty.All k t)
    inst : {ctx : List Kind} {vars : List Ty} {k : Kind} {e : Term} {t body : Ty} → Synth ctx vars e (Ty.All k body) → HasKind ctx t k → Synth ctx vars (Term.Inst e t) (normal ctx (instantiate body t))
    fields : {ctx : List Kind} {vars : List Ty} {f : TermRow} {r : Row} → SynthFields ctx vars f r → Synth ctx vars (Term.Fields f) (Ty.Fields r)
    get : {ctx : List Kind} {vars : List Ty} {e : Term} {r : Row} {l : Label} {t : Ty} → Synth ctx vars e (Ty.Fields r) → HasPart r l t → Synth ctx vars (Term.Get e l) t
    pack : {ctx : List Kind} {vars : List Ty} {k : Kind} {e : Term} {t u body : Ty} → HasKind ctx u Kind.Star → normal ctx u ≡ Ty.Ex k body → HasKind ctx t k → Synth ctx vars e (normal ctx (instantiate body t)) → Synth ctx vars (Term.Pack t e u) (normal ctx u)
    unpack : {ctx : List Kind} {vars : List Ty} {k : Kind} {p e : Term} {t body : Ty} → Synth ctx vars p (Ty.Ex k body) → Synth (k ∷ ctx) (body ∷ shift_all vars) e (rename suc t) → Synth ctx vars (Term.Unpack p e) t
    if_ : {ctx : List Kind} {vars : List Ty} {a b c : Term} {t : Ty} → Synth ctx vars a Ty.Bool → Synth ctx vars b t → Synth ctx vars c t → Synth ctx vars (Term.If a b c) t
    arith : {ctx : List Kind} {vars : List Ty} {o : Op} {a b : Term} → Synth ctx vars a Ty.Int → Synth ctx vars b Ty.Int → Synth ctx vars (Term.Arith o a b) (result_type o)
    fix : {ctx : List Kind} {vars : List Ty} {t u : Ty} {e : Term} → HasKind ctx t Kind.Star → HasKind ctx u Kind.Star → Synth ctx (t ∷ (Ty.Arrow t u ∷ vars)) e (normal ctx u) → Synth ctx vars (Term.Fix t u e) (Ty.Arrow (normal ctx t) (normal ctx u))
    inj : {ctx : List Kind} {vars : List Ty} {l : Label} {e : Term} {t u : Ty} {r : Row} → HasKind ctx t Kind.Star → normal ctx t ≡ Ty.Sum r → HasPart r l u → Synth ctx vars e u → Synth ctx vars (Term.Inj l e t) (normal ctx t)
    case : {ctx : List Kind} {vars : List Ty} {e : Term} {t : Ty} {r : Row} {f : TermRow} → Synth ctx vars e (Ty.Sum r) → HasKind ctx t Kind.Star → SynthBranches ctx vars f r (normal ctx t) → Synth ctx vars (Term.Case e t f) (normal ctx t)
    roll : {ctx : List Kind} {vars : List Ty} {e : Term} {t body : Ty} → HasKind ctx t Kind.Star → normal ctx t ≡ Ty.Mu body → Synth ctx vars e (normal ctx (instantiate body (Ty.Mu body))) → Synth ctx vars (Term.Roll e t) (normal ctx t)
    unroll : {ctx : List Kind} {vars : List Ty} {e : Term} {body : Ty} → Synth ctx vars e (Ty.Mu body) → Synth ctx vars (Term.Unroll e) (normal ctx (instantiate body (Ty.Mu body)))

  pub data SynthFields : List Kind → List Ty → TermRow → Row → Type 0 where
    end : {ctx : List Kind} {vars : List Ty} → SynthFields ctx vars TermRow.End Row.End
    more : {ctx : List Kind} {vars : List Ty} {l : Label} {e : Term} {t : Ty} {f : TermRow} {r : Row} → Synth ctx vars e t → Fresh l r → SynthFields ctx vars f r → SynthFields ctx vars (TermRow.More l e f) (Row.More l t r)

  pub data SynthBranches : List Kind → List Ty → TermRow → Row → Ty → Type 0 where
    none : {ctx : List Kind} {vars : List Ty} {t : Ty} → SynthBranches ctx vars TermRow.End Row.End t
    branch : {ctx : List Kind} {vars : List Ty} {l : Label} {e : Term} {t u : Ty} {f : TermRow} {r : Row} → Synth ctx (u ∷ vars) e t → SynthBranches ctx vars f r t → SynthBranches ctx vars (TermRow.More l e f) (Row.More l u r) t

-- a term has a type exactly where that type's normal form is synthesised
abbrev pub SynthesisIsExact : Type 0
SynthesisIsExact = (ctx : List Kind) (vars : List Ty) (e : Term) (t : Ty) → GoodVars ctx vars → HasType ctx vars e t ↔ (HasKind ctx t Kind.Star × Synth ctx vars e (normal ctx t))

-- one type is synthesised
abbrev pub OneTypeIsSynthesised : Type 0
OneTypeIsSynthesised = (ctx : List Kind) (vars : List Ty) (e : Term) (s t : Ty) → GoodVars ctx vars → Synth ctx vars e s → Synth ctx vars e t → s ≡ t
