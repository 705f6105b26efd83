-- Operators, functions and operands applied one after the other.
-- Main results: type-normal, exp-normal, applied-normal, called-normal, instance-normal.
use Rattle.std.proofs.Common.{◌≡◌, List, sym, subst}
use Rattle.omega_kinds.specs.Kind.{Kind}
use Rattle.omega_types.specs.Ty.{Ty}
use Rattle.omega_types.specs.Normality.{Normal}
use Rattle.omega_types.specs.Normality.Normal.{n_arrow, n_neutral}
use Rattle.omega_terms.specs.Term.{Term}
use Rattle.sig_definitions.specs.Env.{Env, kinds}
use Rattle.sig_laws.specs.Good.{OkEnv}
use Rattle.fing_syntax.specs.Phrase.{Span, TyEx, TyExs, Exp, OpExps, Args}
use Rattle.core_judgments.specs.TypeRules.{AppliedGives}
use Rattle.core_judgments.specs.ExpRules.{CallGives, InstanceGives}
use Rattle.elab_judgments.specs.Judgments.Meaning.{TyMeans, ExpMeans}
use Rattle.elab_judgments.specs.Refusals.Task.{type_args, operands, args}
use Rattle.elab_laws.proofs.Kept.{type_ok, exp_ok}
use Rattle.fing_refusals.specs.declared.refusal.Refusal.{Refusal as CodeRefusal}
use Rattle.elab_rules.specs.Inner.Answered.{RefusedAs}

-- what stands before, at its place

-- type arguments are refused so where the environment and the place are as before
pub type_args-at : {g h : Env} {at p : Span} {t : Ty} {k : Kind} {rest : TyExs} {e : CodeRefusal} → h ≡ g → at ≡ p → RefusedAs h (type_args at t k rest) e → RefusedAs g (type_args p t k rest) e
type_args-at {g} {at = at} {t = t} {k = k} {rest = rest} {e = e} s q r = subst (λ p. RefusedAs g (type_args p t k rest) e) q (subst (λ x. RefusedAs x (type_args at t k rest) e) s r)

-- operators with their operands are refused so where the environment and the place are as before
pub operands-at : {g h : Env} {at p : Span} {t : Ty} {d : Term} {rest : OpExps} {e : CodeRefusal} → h ≡ g → at ≡ p → RefusedAs h (operands at t d rest) e → RefusedAs g (operands p t d rest) e
operands-at {g} {at = at} {t = t} {d = d} {rest = rest} {e = e} s q r = subst (λ p. RefusedAs g (operands p t d rest) e) q (subst (λ x. RefusedAs x (operands at t d rest) e) s r)

-- arguments are refused so where the environment and the place are as before
pub args-at : {g h : Env} {at p : Span} {t : Ty} {d : Term} {rest : Args} {e : CodeRefusal} → h ≡ g → at ≡ p → RefusedAs h (args at t d rest) e → RefusedAs g (args p t d rest) e
args-at {g} {at = at} {t = t} {d = d} {rest = rest} {e = e} s q r = subst (λ p. RefusedAs g (args p t d rest) e) q (subst (λ x. RefusedAs x (args at t d rest) e) s r)

-- normal types

-- the type that a type phrase means is normal
pub type-normal : {g h : Env} {a : TyEx} {t : Ty} {k : Kind} → h ≡ g → OkEnv g → TyMeans g a t k → Normal (kinds h) t k
type-normal {g} {a = a} {t = t} {k = k} s o m = subst (λ x. Normal (kinds x) t k) (sym s) (type_ok g a t k o m)

-- the type of an expression is normal
pub exp-normal : {g h : Env} {a : Exp} {t : Ty} {d : Term} → h ≡ g → OkEnv g → ExpMeans g a t d → Normal (kinds h) t Kind.Star
exp-normal {g} {a = a} {t = t} {d = d} s o m = subst (λ x. Normal (kinds x) t Kind.Star) (sym s) (exp_ok g a t d o m)

-- an operator applied to a type gives a normal type
pub applied-normal : {ctx : List Kind} {t u v : Ty} {k j l : Kind} → AppliedGives ctx t k u j v l → Normal ctx v l
applied-normal (AppliedGives.applied n) = n.0

normal-to : {ctx : List Kind} {t u : Ty} → Normal ctx (Ty.Arrow t u) Kind.Star → Normal ctx u Kind.Star
normal-to (n_arrow p q) = q
normal-to (n_neutral h) = elim h [ ]

-- the call of a function of a normal type has a normal type
pub called-normal : {ctx : List Kind} {f t u : Ty} {c d e : Term} → Normal ctx f Kind.Star → CallGives f c t d u e → Normal ctx u Kind.Star
called-normal n CallGives.call = normal-to n

-- an instance at a type has a normal type
pub instance-normal : {ctx : List Kind} {f t u : Ty} {k : Kind} {c e : Term} → InstanceGives ctx f c t k u e → Normal ctx u Kind.Star
instance-normal (InstanceGives.instance n) = n.0

-- an environment that is as before is good if it was
pub env-in : {g h : Env} → h ≡ g → OkEnv g → OkEnv h
env-in s o = subst OkEnv (sym s) o

-- a type that was normal is normal where the environment is as before
pub normal-in : {g h : Env} {t : Ty} {k : Kind} → h ≡ g → Normal (kinds g) t k → Normal (kinds h) t k
normal-in {t = t} {k = k} s n = subst (λ x. Normal (kinds x) t k) (sym s) n
