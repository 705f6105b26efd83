-- Where an injection, a case, a rolled value or an unrolled one is refused, what stands before that place being derived.
-- Main results: exp_inj-rule, exp_case-rule, branch-later, exp_roll-rule, exp_unroll-rule.
use Rattle.std.proofs.Common.{◌≡◌, inl, inr, List, [], ◌∷◌, refl}
use Rattle.omega_kinds.specs.Kind.{Kind}
use Rattle.omega_kinds.specs.Name.{Name}
use Rattle.omega_types.specs.Ty.{Ty, Row}
use Rattle.omega_terms.specs.Term.{Term}
use Rattle.sig_definitions.specs.Env.{Env, Value}
use Rattle.sig_definitions.specs.Signatures.RecordOrder.{IsNew}
use Rattle.fing_syntax.specs.Phrase.{Span, SpanName, TyEx, Exp, ExpAt, ExpInj, ExpCase, ExpRoll, ExpUnroll, Branches, MoreBranches}
use Rattle.fing_syntax.specs.Place.{name_of, name_span, ty_span, exp_span}
use Rattle.refusal_reasons.specs.Refusal.{Refusal, Differ, DuplicateField}
use Rattle.core_judgments.specs.DataRules.{UnrollRefuses}
use Rattle.core_judgments.specs.ExpRules.{FieldExp, SumGives, SumRefuses, LabelGives, LabelRefuses, CaseRefuses}
use Rattle.elab_judgments.specs.Judgments.Meaning.{TyMeans, ExpMeans, BranchesMean}
use Rattle.elab_judgments.specs.Refusals.Refusal.{of_core, of_data}
use Rattle.elab_judgments.specs.Refusals.Rule.{Fails}
use Rattle.elab_judgments.specs.Refusals.Steps.{steps}
use Rattle.elab_judgments.specs.Refusals.Task.{an_exp, branches}
use Rattle.fing_refusals.specs.declared.refusal.Refusal.{Refusal as CodeRefusal}
use Rattle.elab_rules.specs.Inner.Answered.{RefusedAs, ByRule, ByTest, NoValueType, ByInjection, InjectionRefused, ByRoll, RollRefused}
use Rattle.elab_rules.proofs.Standing.{within, fails, tested, valued, injected, rolled}

-- an injection

-- an injection is refused where its value is
pub exp_inj-value : {g : Env} {at : Span} {x : SpanName} {a : Exp} {b : TyEx} {e : CodeRefusal}
    → RefusedAs g (an_exp a) e
    → RefusedAs g (an_exp (ExpAt at (ExpInj x a b))) e
exp_inj-value h = within (inl (refl, refl)) h

-- an injection is refused where its type is no type of values
pub exp_inj-type : {g : Env} {at : Span} {x : SpanName} {a : Exp} {b : TyEx} {t : Ty} {d : Term} {e : CodeRefusal}
    → ExpMeans g a t d
    → NoValueType g b e
    → RefusedAs g (an_exp (ExpAt at (ExpInj x a b))) e
exp_inj-type {t = t} {d = d} p h = valued (inr ((t, d), p, inl (refl, refl))) (λ u k r q w. ((t, d), p, ((u, k), q, inl w))) h

-- an injection is refused by the rule of injections
pub exp_inj-rule : {g : Env} {at : Span} {x : SpanName} {a : Exp} {b : TyEx} {t u : Ty} {d : Term} {e : CodeRefusal}
    → ExpMeans g a t d
    → TyMeans g b u Kind.Star
    → ByInjection g x (exp_span a) t (ty_span b) u e
    → RefusedAs g (an_exp (ExpAt at (ExpInj x a b))) e
exp_inj-rule {g} {at} {x} {a} {b} {t} {u} {d} p q h = injected go h
  where
    go : (r : Refusal) → InjectionRefused g x (exp_span a) t (ty_span b) u r → Fails (steps g (an_exp (ExpAt at (ExpInj x a b)))) r
    go r (inl w) = ((t, d), p, ((u, Kind.Star), q, inr (tt, refl, inl w)))
    go r (inr (row, s, inl w)) = ((t, d), p, ((u, Kind.Star), q, inr (tt, refl, inr (row, s, inl w))))
    go r (inr (row, s, inr (v, l, w))) = ((t, d), p, ((u, Kind.Star), q, inr (tt, refl, inr (row, s, inr (v, l, inl w)))))

-- a case and its branches

-- a case is refused where what it takes apart is
pub exp_case-whole : {g : Env} {at : Span} {a : Exp} {b : TyEx} {rest : Branches} {e : CodeRefusal}
    → RefusedAs g (an_exp a) e
    → RefusedAs g (an_exp (ExpAt at (ExpCase a b rest))) e
exp_case-whole h = within (inl (refl, refl)) h

-- a case is refused where this is of no sum type
pub exp_case-no_sum : {g : Env} {at : Span} {a : Exp} {b : TyEx} {rest : Branches} {t : Ty} {d : Term} {e : CodeRefusal}
    → ExpMeans g a t d
    → ByRule of_core g (exp_span a) (SumRefuses t) e
    → RefusedAs g (an_exp (ExpAt at (ExpCase a b rest))) e
exp_case-no_sum {t = t} {d = d} p h = fails (λ r w. ((t, d), p, inl w)) h

-- a case is refused where its result's type is no type of values
pub exp_case-type : {g : Env} {at : Span} {a : Exp} {b : TyEx} {rest : Branches} {t : Ty} {row : Row} {d : Term} {e : CodeRefusal}
    → ExpMeans g a t d
    → SumGives t row
    → NoValueType g b e
    → RefusedAs g (an_exp (ExpAt at (ExpCase a b rest))) e
exp_case-type {t = t} {row = row} {d = d} p s h = valued (inr ((t, d), p, (row, s, inl (refl, refl)))) (λ u k r q w. ((t, d), p, inr (row, s, ((u, k), q, inl w)))) h

-- a case is refused where its branches are
pub exp_case-branches : {g : Env} {at : Span} {a : Exp} {b : TyEx} {rest : Branches} {t u : Ty} {row : Row} {d : Term} {e : CodeRefusal}
    → ExpMeans g a t d
    → SumGives t row
    → TyMeans g b u Kind.Star
    → RefusedAs g (branches t u [] rest) e
    → RefusedAs g (an_exp (ExpAt at (ExpCase a b rest))) e
exp_case-branches {t = t} {u = u} {row = row} {d = d} p s q h = within (inr ((t, d), p, (row, s, inr ((u, Kind.Star), q, (tt, refl, inl (refl, refl)))))) h

-- a case is refused by the rule of cases
pub exp_case-rule : {g : Env} {at : Span} {a : Exp} {b : TyEx} {rest : Branches} {parts : List FieldExp} {t u : Ty} {row : Row} {d : Term} {e : CodeRefusal}
    → ExpMeans g a t d
    → SumGives t row
    → TyMeans g b u Kind.Star
    → BranchesMean g t u [] rest parts
    → ByRule of_core g at (CaseRefuses t u Kind.Star parts) e
    → RefusedAs g (an_exp (ExpAt at (ExpCase a b rest))) e
exp_case-rule {parts = parts} {t = t} {u = u} {row = row} {d = d} p s q m h =
    fails (λ r w. ((t, d), p, inr (row, s, ((u, Kind.Star), q, inr (tt, refl, (parts, m, inl w)))))) h

-- branches are refused where the first one's label is one of those before
pub branch-again : {g : Env} {w t : Ty} {x y : SpanName} {a : Exp} {rest : Branches} {before : List Name} {e : CodeRefusal}
    → ByTest g (name_span x) (IsNew (name_of x) before → ⊥) (DuplicateField (name_of x)) e
    → RefusedAs g (branches w t before (MoreBranches x y a rest)) e
branch-again h = tested (λ r q. inl q) h

-- branches are refused where the sum lacks the first one's label
pub branch-no_label : {g : Env} {w t : Ty} {x y : SpanName} {a : Exp} {rest : Branches} {before : List Name} {e : CodeRefusal}
    → IsNew (name_of x) before
    → ByRule of_core g (name_span x) (LabelRefuses w (name_of x)) e
    → RefusedAs g (branches w t before (MoreBranches x y a rest)) e
branch-no_label n h = fails (λ r q. inr (tt, n, inl q)) h

-- branches are refused where the first one's body is
pub branch-body : {g : Env} {w t u : Ty} {x y : SpanName} {a : Exp} {rest : Branches} {before : List Name} {e : CodeRefusal}
    → IsNew (name_of x) before
    → LabelGives w (name_of x) u
    → RefusedAs (Value (name_of y) u ∷ g) (an_exp a) e
    → RefusedAs g (branches w t before (MoreBranches x y a rest)) e
branch-body {u = u} n l h = within (tt, n, (u, l, inl (refl, refl))) h

-- branches are refused where the first one's body is of another type than the result
pub branch-type : {g : Env} {w t u v : Ty} {d : Term} {x y : SpanName} {a : Exp} {rest : Branches} {before : List Name} {e : CodeRefusal}
    → IsNew (name_of x) before
    → LabelGives w (name_of x) u
    → ExpMeans (Value (name_of y) u ∷ g) a v d
    → ByTest g (exp_span a) (v ≡ t → ⊥) (Differ v t) e
    → RefusedAs g (branches w t before (MoreBranches x y a rest)) e
branch-type {u = u} {v = v} {d = d} n l m h = tested (λ r q. inr (tt, n, inr (u, l, ((v, d), m, inl q)))) h

-- branches are refused where those after the first are
pub branch-later : {g : Env} {w t u v : Ty} {d : Term} {x y : SpanName} {a : Exp} {rest : Branches} {before : List Name} {e : CodeRefusal}
    → IsNew (name_of x) before
    → LabelGives w (name_of x) u
    → ExpMeans (Value (name_of y) u ∷ g) a v d
    → v ≡ t
    → RefusedAs g (branches w t (name_of x ∷ before) rest) e
    → RefusedAs g (branches w t before (MoreBranches x y a rest)) e
branch-later {u = u} {v = v} {d = d} n l m s h = within (tt, n, (u, l, inr ((v, d), m, (tt, s, inl (refl, refl))))) h

-- a rolled value

-- a rolled value is refused where its value is
pub exp_roll-value : {g : Env} {at : Span} {a : Exp} {b : TyEx} {e : CodeRefusal}
    → RefusedAs g (an_exp a) e
    → RefusedAs g (an_exp (ExpAt at (ExpRoll a b))) e
exp_roll-value h = within (inl (refl, refl)) h

-- a rolled value is refused where its type is no type of values
pub exp_roll-type : {g : Env} {at : Span} {a : Exp} {b : TyEx} {t : Ty} {d : Term} {e : CodeRefusal}
    → ExpMeans g a t d
    → NoValueType g b e
    → RefusedAs g (an_exp (ExpAt at (ExpRoll a b))) e
exp_roll-type {t = t} {d = d} p h = valued (inr ((t, d), p, inl (refl, refl))) (λ u k r q w. ((t, d), p, ((u, k), q, inl w))) h

-- a rolled value is refused by the rule of rolled values
pub exp_roll-rule : {g : Env} {at : Span} {a : Exp} {b : TyEx} {t u : Ty} {d : Term} {e : CodeRefusal}
    → ExpMeans g a t d
    → TyMeans g b u Kind.Star
    → ByRoll g (exp_span a) t (ty_span b) u e
    → RefusedAs g (an_exp (ExpAt at (ExpRoll a b))) e
exp_roll-rule {g} {at} {a} {b} {t} {u} {d} p q h = rolled go h
  where
    go : (r : Refusal) → RollRefused g (exp_span a) t (ty_span b) u r → Fails (steps g (an_exp (ExpAt at (ExpRoll a b)))) r
    go r (inl w) = ((t, d), p, ((u, Kind.Star), q, inr (tt, refl, inl w)))
    go r (inr (body, s, w)) = ((t, d), p, ((u, Kind.Star), q, inr (tt, refl, inr (body, s, inl w))))

-- an unrolled value

-- an unrolled value is refused where its value is
pub exp_unroll-value : {g : Env} {at : Span} {a : Exp} {e : CodeRefusal}
    → RefusedAs g (an_exp a) e
    → RefusedAs g (an_exp (ExpAt at (ExpUnroll a))) e
exp_unroll-value h = within (inl (refl, refl)) h

-- an unrolled value is refused by the rule of unrolled values
pub exp_unroll-rule : {g : Env} {at : Span} {a : Exp} {t : Ty} {d : Term} {e : CodeRefusal}
    → ExpMeans g a t d
    → ByRule of_data g (exp_span a) (UnrollRefuses t) e
    → RefusedAs g (an_exp (ExpAt at (ExpUnroll a))) e
exp_unroll-rule {t = t} {d = d} p h = fails (λ r w. ((t, d), p, inl w)) h
