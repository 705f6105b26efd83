-- Where an expression is refused, what stands before that place being derived.
-- Main results: exp_path-use, exp_lam-rule, exp_if-rule, arg-rule, exp_get-rule, exp_pack-match.
use Rattle.std.proofs.Common.{◌≡◌, inl, inr, List, [], ◌∷◌, Some, refl}
use Rattle.omega_kinds.specs.Kind.{Kind}
use Rattle.omega_kinds.specs.Name.{Name}
use Rattle.omega_types.specs.Ty.{Ty, Row}
use Rattle.omega_terms.specs.Term.{Term}
use Rattle.sig_definitions.specs.Env.{Env, Value, kinds, find}
use Rattle.sig_definitions.specs.Signatures.Sig.{Module, Sig, Abs}
use Rattle.sig_definitions.specs.Signatures.RecordOrder.{IsNew}
use Rattle.sig_definitions.specs.QuantifierOrder.{Norm}
use Rattle.fing_syntax.specs.Phrase.{Span, SpanName, Mod, SigEx, TyEx, Exp, ExpAt, PathExp, ExpLam, ExpTyLam, ExpFix, ExpIf, ExpOps, ExpApply, ExpFields, ExpGet, ExpPack, Op, OpExps, MoreOps, Args, MoreArgs, ArgExp, ArgTy, FieldExps, MoreFieldExps}
use Rattle.fing_syntax.specs.Place.{name_of, name_span, ty_span, exp_span, sig_span, up_to}
use Rattle.refusal_reasons.specs.Refusal.{NotArrow, NotAll, NotRecord, Differ, DuplicateField}
use Rattle.core_judgments.specs.ExpRules.{FieldExp, FunctionRefuses, CallGives, CallRefuses, InstanceGives, InstanceRefuses, GetRefuses, IfRefuses, OperationGives, OperationRefuses, FixRefuses, RecordRefuses}
use Rattle.module_judgments.specs.ModRules.{ValuePathRefuses, NamedRefuses}
use Rattle.elab_judgments.specs.Operators.{with_type, omega_op}
use Rattle.elab_judgments.specs.Judgments.Meaning.{TyMeans, ExpMeans, FieldExpsMean, SigMeans, ModMeans}
use Rattle.elab_judgments.specs.Refusals.Refusal.{of_core, of_mod}
use Rattle.elab_judgments.specs.Refusals.Task.{a_type, an_exp, operands, args, fields, a_mod, a_sig}
use Rattle.fing_refusals.specs.declared.refusal.Refusal.{Refusal as CodeRefusal}
use Rattle.elab_rules.specs.Inner.Answered.{RefusedAs, ByRule, ByTest, ByMatch, NoValueType}
use Rattle.elab_rules.proofs.Standing.{within, fails, tested, valued, unmatched}

-- a path

-- an expression that is a path is refused where its module is
pub exp_path-module : {g : Env} {at : Span} {m : Mod} {e : CodeRefusal}
    → RefusedAs g (a_mod m) e
    → RefusedAs g (an_exp (ExpAt at (PathExp m))) e
exp_path-module h = within (inl (refl, refl)) h

-- an expression that is a path is refused where the module is no value
pub exp_path-use : {g : Env} {at : Span} {m : Mod} {M : Module} {e : CodeRefusal}
    → ModMeans g m M
    → ByRule of_mod g at (ValuePathRefuses (kinds g) M) e
    → RefusedAs g (an_exp (ExpAt at (PathExp m))) e
exp_path-use {M = M} p h = fails (λ r q. (M, p, inl q)) h

-- functions

-- a function is refused where its parameter's type is no type of values
pub exp_lam-param : {g : Env} {at : Span} {b : Exp} {x : SpanName} {ta : TyEx} {e : CodeRefusal}
    → NoValueType g ta e
    → RefusedAs g (an_exp (ExpAt at (ExpLam x ta b))) e
exp_lam-param h = valued (inl (refl, refl)) (λ t k r p q. ((t, k), p, inl q)) h

-- a function is refused where its body is
pub exp_lam-body : {g : Env} {at : Span} {b : Exp} {x : SpanName} {ta : TyEx} {t : Ty} {e : CodeRefusal}
    → TyMeans g ta t Kind.Star
    → RefusedAs (Value (name_of x) t ∷ g) (an_exp b) e
    → RefusedAs g (an_exp (ExpAt at (ExpLam x ta b))) e
exp_lam-body {t = t} p h = within (inr ((t, Kind.Star), p, (tt, refl, inl (refl, refl)))) h

-- a function is refused by the rule of functions
pub exp_lam-rule : {g : Env} {at : Span} {b : Exp} {x : SpanName} {ta : TyEx} {t u : Ty} {d : Term} {e : CodeRefusal}
    → TyMeans g ta t Kind.Star
    → ExpMeans (Value (name_of x) t ∷ g) b u d
    → ByRule of_core g (ty_span ta) (FunctionRefuses t Kind.Star) e
    → RefusedAs g (an_exp (ExpAt at (ExpLam x ta b))) e
exp_lam-rule {t = t} {u = u} {d = d} p q h = fails (λ r w. ((t, Kind.Star), p, inr (tt, refl, ((u, d), q, inl w)))) h

-- a type function is refused where its body is
pub exp_ty_lam-body : {g : Env} {at : Span} {b : Exp} {x : SpanName} {k : Kind} {e : CodeRefusal}
    → RefusedAs (with_type g k (name_of x)) (an_exp b) e
    → RefusedAs g (an_exp (ExpAt at (ExpTyLam x k b))) e
exp_ty_lam-body h = within (inl (refl, refl)) h

-- recursive functions

-- a recursive function is refused where its parameter's type is no type of values
pub exp_fix-param : {g : Env} {at : Span} {c : Exp} {x f : SpanName} {ta tb : TyEx} {e : CodeRefusal}
    → NoValueType g ta e
    → RefusedAs g (an_exp (ExpAt at (ExpFix f x ta tb c))) e
exp_fix-param h = valued (inl (refl, refl)) (λ t k r p q. ((t, k), p, inl q)) h

-- a recursive function is refused where its result's type is no type of values
pub exp_fix-result : {g : Env} {at : Span} {c : Exp} {x f : SpanName} {ta tb : TyEx} {t : Ty} {e : CodeRefusal}
    → TyMeans g ta t Kind.Star
    → NoValueType g tb e
    → RefusedAs g (an_exp (ExpAt at (ExpFix f x ta tb c))) e
exp_fix-result {t = t} p h = valued (inr ((t, Kind.Star), p, (tt, refl, inl (refl, refl)))) (λ u k r q w. ((t, Kind.Star), p, inr (tt, refl, ((u, k), q, inl w)))) h

-- a recursive function is refused where its body is
pub exp_fix-body : {g : Env} {at : Span} {c : Exp} {x f : SpanName} {ta tb : TyEx} {t u : Ty} {e : CodeRefusal}
    → TyMeans g ta t Kind.Star
    → TyMeans g tb u Kind.Star
    → RefusedAs (Value (name_of x) t ∷ Value (name_of f) (Ty.Arrow t u) ∷ g) (an_exp c) e
    → RefusedAs g (an_exp (ExpAt at (ExpFix f x ta tb c))) e
exp_fix-body {t = t} {u = u} p q h = within (inr ((t, Kind.Star), p, (tt, refl, inr ((u, Kind.Star), q, (tt, refl, inl (refl, refl)))))) h

-- a recursive function is refused by its rule, at the body
pub exp_fix-rule : {g : Env} {at : Span} {c : Exp} {x f : SpanName} {ta tb : TyEx} {t u v : Ty} {d : Term} {e : CodeRefusal}
    → TyMeans g ta t Kind.Star
    → TyMeans g tb u Kind.Star
    → ExpMeans (Value (name_of x) t ∷ Value (name_of f) (Ty.Arrow t u) ∷ g) c v d
    → ByRule of_core g (exp_span c) (FixRefuses t Kind.Star u Kind.Star v) e
    → RefusedAs g (an_exp (ExpAt at (ExpFix f x ta tb c))) e
exp_fix-rule {t = t} {u = u} {v = v} {d = d} p q l h = fails (λ r w. ((t, Kind.Star), p, inr (tt, refl, ((u, Kind.Star), q, inr (tt, refl, ((v, d), l, inl w)))))) h

-- a choice

-- a conditional is refused where its test is
pub exp_if-test : {g : Env} {at : Span} {a b c : Exp} {e : CodeRefusal}
    → RefusedAs g (an_exp a) e
    → RefusedAs g (an_exp (ExpAt at (ExpIf a b c))) e
exp_if-test h = within (inl (refl, refl)) h

-- a conditional is refused where the test is of another type than Bool
pub exp_if-test_type : {g : Env} {at : Span} {a b c : Exp} {t : Ty} {d : Term} {e : CodeRefusal}
    → ExpMeans g a t d
    → ByTest g (exp_span a) (t ≡ Ty.Bool → ⊥) (Differ t Ty.Bool) e
    → RefusedAs g (an_exp (ExpAt at (ExpIf a b c))) e
exp_if-test_type {t = t} {d = d} p h = tested (λ r w. ((t, d), p, inl w)) h

-- a conditional is refused where its first branch is
pub exp_if-yes : {g : Env} {at : Span} {a b c : Exp} {t : Ty} {d : Term} {e : CodeRefusal}
    → ExpMeans g a t d
    → t ≡ Ty.Bool
    → RefusedAs g (an_exp b) e
    → RefusedAs g (an_exp (ExpAt at (ExpIf a b c))) e
exp_if-yes {t = t} {d = d} p q h = within (inr ((t, d), p, (tt, q, inl (refl, refl)))) h

-- a conditional is refused where its second branch is
pub exp_if-no : {g : Env} {at : Span} {a b c : Exp} {t u : Ty} {d d1 : Term} {e : CodeRefusal}
    → ExpMeans g a t d
    → t ≡ Ty.Bool
    → ExpMeans g b u d1
    → RefusedAs g (an_exp c) e
    → RefusedAs g (an_exp (ExpAt at (ExpIf a b c))) e
exp_if-no {t = t} {u = u} {d = d} {d1 = d1} p q l h = within (inr ((t, d), p, (tt, q, inr ((u, d1), l, inl (refl, refl))))) h

-- a conditional is refused by its rule, at the first branch
pub exp_if-rule : {g : Env} {at : Span} {a b c : Exp} {t u v : Ty} {d d1 d2 : Term} {e : CodeRefusal}
    → ExpMeans g a t d
    → t ≡ Ty.Bool
    → ExpMeans g b u d1
    → ExpMeans g c v d2
    → ByRule of_core g (exp_span b) (IfRefuses t u v) e
    → RefusedAs g (an_exp (ExpAt at (ExpIf a b c))) e
exp_if-rule {t = t} {u = u} {v = v} {d = d} {d1 = d1} {d2 = d2} p q l o h = fails (λ r w. ((t, d), p, inr (tt, q, ((u, d1), l, ((v, d2), o, inl w))))) h

-- operators

-- an expression with operators is refused where its first operand is
pub exp_ops-first : {g : Env} {at : Span} {a : Exp} {ops : OpExps} {e : CodeRefusal}
    → RefusedAs g (an_exp a) e
    → RefusedAs g (an_exp (ExpAt at (ExpOps a ops))) e
exp_ops-first h = within (inl (refl, refl)) h

-- an expression with operators is refused where its operators and the operands after the first are
pub exp_ops-rest : {g : Env} {at : Span} {a : Exp} {ops : OpExps} {t : Ty} {d : Term} {e : CodeRefusal}
    → ExpMeans g a t d
    → RefusedAs g (operands (exp_span a) t d ops) e
    → RefusedAs g (an_exp (ExpAt at (ExpOps a ops))) e
exp_ops-rest {t = t} {d = d} p h = within (inr ((t, d), p, inl (refl, refl))) h

-- operators are refused where their left operand is of another type than Int
pub operand-left : {g : Env} {at : Span} {b : Exp} {op : Op} {ops : OpExps} {t : Ty} {d : Term} {e : CodeRefusal}
    → ByTest g at (t ≡ Ty.Int → ⊥) (Differ t Ty.Int) e
    → RefusedAs g (operands at t d (MoreOps op b ops)) e
operand-left h = tested (λ r w. inl w) h

-- operators are refused where the next operand is
pub operand-right : {g : Env} {at : Span} {b : Exp} {op : Op} {ops : OpExps} {t : Ty} {d : Term} {e : CodeRefusal}
    → t ≡ Ty.Int
    → RefusedAs g (an_exp b) e
    → RefusedAs g (operands at t d (MoreOps op b ops)) e
operand-right q h = within (tt, q, inl (refl, refl)) h

-- operators are refused by the rule of operations, at the right operand
pub operand-rule : {g : Env} {at : Span} {b : Exp} {op : Op} {ops : OpExps} {t u : Ty} {d d1 : Term} {e : CodeRefusal}
    → t ≡ Ty.Int
    → ExpMeans g b u d1
    → ByRule of_core g (exp_span b) (OperationRefuses t u) e
    → RefusedAs g (operands at t d (MoreOps op b ops)) e
operand-rule {u = u} {d1 = d1} q p h = fails (λ r w. inr (tt, q, ((u, d1), p, inl w))) h

-- operators are refused where those after the first are
pub operand-later : {g : Env} {at : Span} {b : Exp} {op : Op} {ops : OpExps} {t u v : Ty} {d d1 d2 : Term} {e : CodeRefusal}
    → t ≡ Ty.Int
    → ExpMeans g b u d1
    → OperationGives (omega_op op) t d u d1 v d2
    → RefusedAs g (operands (up_to at (exp_span b)) v d2 ops) e
    → RefusedAs g (operands at t d (MoreOps op b ops)) e
operand-later {u = u} {v = v} {d1 = d1} {d2 = d2} q p l h = within (tt, q, inr ((u, d1), p, ((v, d2), l, inl (refl, refl)))) h

-- arguments

-- an application is refused where its function is
pub exp_apply-function : {g : Env} {at : Span} {a : Exp} {rest : Args} {e : CodeRefusal}
    → RefusedAs g (an_exp a) e
    → RefusedAs g (an_exp (ExpAt at (ExpApply a rest))) e
exp_apply-function h = within (inl (refl, refl)) h

-- an application is refused where its arguments are
pub exp_apply-args : {g : Env} {at : Span} {a : Exp} {rest : Args} {t : Ty} {d : Term} {e : CodeRefusal}
    → ExpMeans g a t d
    → RefusedAs g (args (exp_span a) t d rest) e
    → RefusedAs g (an_exp (ExpAt at (ExpApply a rest))) e
exp_apply-args {t = t} {d = d} p h = within (inr ((t, d), p, inl (refl, refl))) h

-- arguments are refused where what they are given to is of no function type
pub arg-no_arrow : {g : Env} {at : Span} {b : Exp} {rest : Args} {t : Ty} {d : Term} {e : CodeRefusal}
    → ByTest g at ((p : Ty × Ty) → t ≡ Ty.Arrow p.0 p.1 → ⊥) (NotArrow t) e
    → RefusedAs g (args at t d (MoreArgs (ArgExp b) rest)) e
arg-no_arrow h = tested (λ r w. inl w) h

-- arguments are refused where the first one is
pub arg-value : {g : Env} {at : Span} {b : Exp} {rest : Args} {t v n : Ty} {d : Term} {e : CodeRefusal}
    → t ≡ Ty.Arrow v n
    → RefusedAs g (an_exp b) e
    → RefusedAs g (args at t d (MoreArgs (ArgExp b) rest)) e
arg-value {v = v} {n = n} o h = within ((v, n), o, inl (refl, refl)) h

-- arguments are refused by the rule of calls, at the first one
pub arg-rule : {g : Env} {at : Span} {b : Exp} {rest : Args} {t u v n : Ty} {d d1 : Term} {e : CodeRefusal}
    → t ≡ Ty.Arrow v n
    → ExpMeans g b u d1
    → ByRule of_core g (exp_span b) (CallRefuses t u) e
    → RefusedAs g (args at t d (MoreArgs (ArgExp b) rest)) e
arg-rule {u = u} {v = v} {n = n} {d1 = d1} o p h = fails (λ r w. inr ((v, n), o, ((u, d1), p, inl w))) h

-- arguments are refused where those after the first are
pub arg-later : {g : Env} {at : Span} {b : Exp} {rest : Args} {t u v n : Ty} {d d1 d2 : Term} {w1 : Ty} {e : CodeRefusal}
    → t ≡ Ty.Arrow v n
    → ExpMeans g b u d1
    → CallGives t d u d1 w1 d2
    → RefusedAs g (args (up_to at (exp_span b)) w1 d2 rest) e
    → RefusedAs g (args at t d (MoreArgs (ArgExp b) rest)) e
arg-later {u = u} {v = v} {n = n} {d1 = d1} {d2 = d2} {w1 = w1} o p q h = within ((v, n), o, inr ((u, d1), p, ((w1, d2), q, inl (refl, refl)))) h

-- a type argument is refused where what it is given to is of no universally quantified type
pub ty_arg-no_all : {g : Env} {at place : Span} {ta : TyEx} {rest : Args} {t : Ty} {d : Term} {e : CodeRefusal}
    → ByTest g at ((p : Kind × Ty) → t ≡ Ty.All p.0 p.1 → ⊥) (NotAll t) e
    → RefusedAs g (args at t d (MoreArgs (ArgTy ta place) rest)) e
ty_arg-no_all h = tested (λ r w. inl w) h

-- a type argument is refused where its type phrase is
pub ty_arg-type : {g : Env} {at place : Span} {ta : TyEx} {i : Kind} {rest : Args} {t n : Ty} {d : Term} {e : CodeRefusal}
    → t ≡ Ty.All i n
    → RefusedAs g (a_type ta) e
    → RefusedAs g (args at t d (MoreArgs (ArgTy ta place) rest)) e
ty_arg-type {i = i} {n = n} o h = within ((i, n), o, inl (refl, refl)) h

-- a type argument is refused by the rule of instances
pub ty_arg-rule : {g : Env} {at place : Span} {ta : TyEx} {k i : Kind} {rest : Args} {t u n : Ty} {d : Term} {e : CodeRefusal}
    → t ≡ Ty.All i n
    → TyMeans g ta u k
    → ByRule of_core g (ty_span ta) (InstanceRefuses t u k) e
    → RefusedAs g (args at t d (MoreArgs (ArgTy ta place) rest)) e
ty_arg-rule {k = k} {i = i} {u = u} {n = n} o p h = fails (λ r w. inr ((i, n), o, ((u, k), p, inl w))) h

-- arguments that begin with a type argument are refused where those after it are
pub ty_arg-later : {g : Env} {at place : Span} {ta : TyEx} {k i : Kind} {rest : Args} {t u n : Ty} {d d2 : Term} {w1 : Ty} {e : CodeRefusal}
    → t ≡ Ty.All i n
    → TyMeans g ta u k
    → InstanceGives (kinds g) t d u k w1 d2
    → RefusedAs g (args (up_to at place) w1 d2 rest) e
    → RefusedAs g (args at t d (MoreArgs (ArgTy ta place) rest)) e
ty_arg-later {k = k} {i = i} {u = u} {n = n} {d2 = d2} {w1 = w1} o p q h = within ((i, n), o, inr ((u, k), p, ((w1, d2), q, inl (refl, refl)))) h

-- a record and its fields

-- a record is refused where its fields are
pub exp_fields-parts : {g : Env} {at : Span} {fs : FieldExps} {e : CodeRefusal}
    → RefusedAs g (fields [] fs) e
    → RefusedAs g (an_exp (ExpAt at (ExpFields fs))) e
exp_fields-parts h = within (inl (refl, refl)) h

-- a record is refused by the rule of records
pub exp_fields-rule : {g : Env} {at : Span} {fs : FieldExps} {parts : List FieldExp} {e : CodeRefusal}
    → FieldExpsMean g [] fs parts
    → ByRule of_core g at (RecordRefuses [] parts) e
    → RefusedAs g (an_exp (ExpAt at (ExpFields fs))) e
exp_fields-rule {parts = parts} p h = fails (λ r w. (parts, p, inl w)) h

-- fields are refused where the first one's name is one of those before
pub exp_field-again : {g : Env} {a : Exp} {x : SpanName} {fs : FieldExps} {before : List Name} {e : CodeRefusal}
    → ByTest g (name_span x) (IsNew (name_of x) before → ⊥) (DuplicateField (name_of x)) e
    → RefusedAs g (fields before (MoreFieldExps x a fs)) e
exp_field-again h = tested (λ r w. inl w) h

-- fields are refused where the first one's value is
pub exp_field-value : {g : Env} {a : Exp} {x : SpanName} {fs : FieldExps} {before : List Name} {e : CodeRefusal}
    → IsNew (name_of x) before
    → RefusedAs g (an_exp a) e
    → RefusedAs g (fields before (MoreFieldExps x a fs)) e
exp_field-value o h = within (tt, o, inl (refl, refl)) h

-- fields are refused where those after the first are
pub exp_field-later : {g : Env} {a : Exp} {x : SpanName} {fs : FieldExps} {before : List Name} {t : Ty} {d : Term} {e : CodeRefusal}
    → IsNew (name_of x) before
    → ExpMeans g a t d
    → RefusedAs g (fields (name_of x ∷ before) fs) e
    → RefusedAs g (fields before (MoreFieldExps x a fs)) e
exp_field-later {t = t} {d = d} o p h = within (tt, o, inr ((t, d), p, inl (refl, refl))) h

-- a field of a record

-- the selection of a field is refused where its record is
pub exp_get-record : {g : Env} {at : Span} {a : Exp} {x : SpanName} {e : CodeRefusal}
    → RefusedAs g (an_exp a) e
    → RefusedAs g (an_exp (ExpAt at (ExpGet a x))) e
exp_get-record h = within (inl (refl, refl)) h

-- the selection of a field is refused where this is of no record type
pub exp_get-no_record : {g : Env} {at : Span} {a : Exp} {x : SpanName} {t : Ty} {d : Term} {e : CodeRefusal}
    → ExpMeans g a t d
    → ByTest g (exp_span a) ((r : Row) → t ≡ Ty.Fields r → ⊥) (NotRecord t) e
    → RefusedAs g (an_exp (ExpAt at (ExpGet a x))) e
exp_get-no_record {t = t} {d = d} p h = tested (λ r w. ((t, d), p, inl w)) h

-- the selection of a field is refused by its rule, at the name
pub exp_get-rule : {g : Env} {at : Span} {a : Exp} {x : SpanName} {row : Row} {t : Ty} {d : Term} {e : CodeRefusal}
    → ExpMeans g a t d
    → t ≡ Ty.Fields row
    → ByRule of_core g (name_span x) (GetRefuses t (name_of x)) e
    → RefusedAs g (an_exp (ExpAt at (ExpGet a x))) e
exp_get-rule {row = row} {t = t} {d = d} p o h = fails (λ r w. ((t, d), p, inr (row, o, inl w))) h

-- a module packed

-- a package is refused where the name of its module is
pub exp_pack-name : {g : Env} {at : Span} {x : SpanName} {s : SigEx} {e : CodeRefusal}
    → ByRule of_mod g (name_span x) (NamedRefuses g (name_of x)) e
    → RefusedAs g (an_exp (ExpAt at (ExpPack x s))) e
exp_pack-name h = fails (λ r q. inl q) h

-- a package is refused where its signature is
pub exp_pack-sig : {g : Env} {at : Span} {x : SpanName} {s : SigEx} {w : Sig} {d : Term} {e : CodeRefusal}
    → find g (name_of x) ≡ Some (w, d)
    → RefusedAs g (a_sig s) e
    → RefusedAs g (an_exp (ExpAt at (ExpPack x s))) e
exp_pack-sig {w = w} {d = d} p h = within ((w, d), p, inl (refl, refl)) h

-- a package is refused where its module does not match the norm of the signature
pub exp_pack-match : {g : Env} {at : Span} {x : SpanName} {s : SigEx} {y z : Abs} {w : Sig} {d : Term} {e : CodeRefusal}
    → find g (name_of x) ≡ Some (w, d)
    → SigMeans g s y
    → Norm (kinds g) y z
    → ByMatch g (sig_span s) w z e
    → RefusedAs g (an_exp (ExpAt at (ExpPack x s))) e
exp_pack-match {y = y} {z = z} {w = w} {d = d} p q l h = unmatched (λ r o. inr ((w, d), p, (y, q, inr (z, l, inl o)))) h
