-- A term of normal types, with normal types put in, is the instance of the definitions.
-- Main results: instance_given, instance_at_none.
use Rattle.std.specs.Prelude.{ℕ, List, [], ◌∷◌, ◌≡◌, length}
use Rattle.std.proofs.Common.{arith}
use Rattle.std.proofs.Math.Path.{sym, subst}
use Rattle.omega_kinds.specs.Kind.{Kind}
use Rattle.omega_types.specs.Ty.{Ty}
use Rattle.omega_types.specs.Binders.{extend, puts, NormalForms}
use Rattle.omega_terms.specs.Term.{Term, TermRow}
use Rattle.omega_terms.specs.Instance.{TyInstance, Instance, Instances}
use Rattle.sig_laws.specs.Good.{NormalTerm}
use Rattle.semantic_sigs.specs.Inner.Changes.{Head, ty_in, putting}
use Rattle.semantic_sigs.proofs.HeadLaws.{Good, good-under, in-normal, good-puts, good-vars}
use Rattle.omega_terms.specs.Inner.Walk.{walked}
use Rattle.sig_instances.specs.Inner.TermChanges.{term_in, fields_in}
use Rattle.sig_instances.proofs.InstanceSteps.{filling, staying, walk-fills}

type-given : {from mid other : List Kind} {s v : ℕ → Ty} {h : ℕ → Head} {t n : Ty} {k : Kind} → Good from other s h → TyInstance from mid v t k n → TyInstance from other s t k (ty_in h t)
type-given g (TyInstance.made normal form) = TyInstance.made normal (in-normal g normal)

mutual
  given : {from mid other : List Kind} {s v : ℕ → Ty} {h : ℕ → Head} {e d : Term} → Good from other s h → Instance from mid v e d → Instance from other s e (term_in h e)
  given g Instance.var = Instance.var
  given g Instance.int = Instance.int
  given g Instance.bool = Instance.bool
  given g Instance.text = Instance.text
  given g (Instance.lam t e) = Instance.lam (type-given g t) (given g e)
  given g (Instance.call f a) = Instance.call (given g f) (given g a)
  given g (Instance.ty_lam {k = k} e) = Instance.ty_lam (given (good-under k g) e)
  given g (Instance.inst e t) = Instance.inst (given g e) (type-given g t)
  given g (Instance.fields row) = Instance.fields (row-given g row)
  given g (Instance.get e) = Instance.get (given g e)
  given g (Instance.pack t e u) = Instance.pack (type-given g t) (given g e) (type-given g u)
  given g (Instance.unpack k p e) = Instance.unpack k (given g p) (given (good-under k g) e)
  given g (Instance.if_ a b c) = Instance.if_ (given g a) (given g b) (given g c)
  given g (Instance.arith a b) = Instance.arith (given g a) (given g b)
  given g (Instance.fix t u e) = Instance.fix (type-given g t) (type-given g u) (given g e)
  given g (Instance.inj e t) = Instance.inj (given g e) (type-given g t)
  given g (Instance.case e t row) = Instance.case (given g e) (type-given g t) (row-given g row)
  given g (Instance.roll e t) = Instance.roll (given g e) (type-given g t)
  given g (Instance.unroll e) = Instance.unroll (given g e)

  row-given : {from mid other : List Kind} {s v : ℕ → Ty} {h : ℕ → Head} {f g : TermRow} → Good from other s h → Instances from mid v f g → Instances from other s f (fields_in h f)
  row-given g Instances.end = Instances.end
  row-given g (Instances.more e rest) = Instances.more (given g e) (row-given g rest)

pub instance_given : (ts : List Ty) (e : Term) (ctx ks : List Kind) → NormalTerm (extend ctx ks) e → NormalForms ctx ts ks ts → Instance (extend ctx ks) ctx (puts ts Ty.Var) e (walked (filling (putting ts)) staying 0 0 e)
instance_given ts e ctx ks n ns = subst (Instance (extend ctx ks) ctx (puts ts Ty.Var) e) (sym (walk-fills (putting ts) 0 0 e)) (given (good-puts ns (good-vars ctx)) n)

-- with no types put in, a term of normal types stays as it is
pub instance_at_none : (ts : List Ty) (e d : Term) → length ts ≡ 0 → d ≡ e → (ctx ks : List Kind) → NormalTerm (extend ctx ks) e → NormalForms ctx ts ks ts → Instance (extend ctx ks) ctx (puts ts Ty.Var) e d
instance_at_none [] e d l h ctx [] n ns = subst (Instance ctx ctx Ty.Var e) (sym h) n
instance_at_none [] e d l h ctx (k ∷ ks) n ns = elim ns [ ]
instance_at_none (t ∷ ts) e d l h ctx ks n ns = absurd (omega (arith, l))
