-- The steps of a function that gives its argument back, until it is written out.
-- Main results: given_step.
use Rattle.std.proofs.Common.{ℕ, zero, suc, ◌+◌, ◌<◌, arith}
use Rattle.omega_types.specs.Ty.{Ty}
use Rattle.omega_terms.specs.Term.{Term}
use Rattle.omega_terms.specs.TermSubst.{first_term}
use Rattle.omega_terms.specs.Steps.{IsValue, Step, put_arg}
use Rattle.omega_laws.proofs.Common.{Form, Canon}
use Rattle.omega_simplify_laws.proofs.Flat.{parts_of}
use Rattle.omega_simplify_laws.proofs.Likeness.{Like, GivesBack}
use Rattle.omega_simplify_laws.proofs.Algebra.{LikeTerms, first_like, sub_gives_back}
use Rattle.omega_simplify_laws.proofs.Values.{field_value}
use Rattle.omega_simplify_laws.proofs.TypedParts.{IsTyped, call_function_typed, call_arg_typed, arg_typed, record_canon}

-- it gives its argument back at a lower weight
pub record GivesLess (n : ℕ) (f : Term) : Type 0 where
  pub weight : ℕ
  pub gives : GivesBack weight f
  pub less : weight < n

no_var_value : {i : ℕ} → IsValue (Term.Var i) → ⊥
no_var_value v = elim v [ ]

no_call_value : {f a : Term} → IsValue (Term.Call f a) → ⊥
no_call_value v = elim v [ ]

-- once it is written out it is like a flat function, at no weight
pub record FlatLike (v : Term) : Type 0 where
  pub term : Term
  pub like : (n : ℕ) → Like n v term

given_value : {j : ℕ} {v : Term} → GivesBack j v → IsValue v → FlatLike v
given_value (GivesBack.whole {t = t} p) v = record { term = Term.Lam t (Term.Var zero); like = λ n. Like.lam p }
given_value (GivesBack.parts {r = r} p) v = record { term = Term.Lam (Ty.Fields r) (Term.Fields (parts_of (Term.Var zero) r)); like = λ n. Like.lam p }
given_value (GivesBack.chain g h l) v = absurd (no_call_value v)

-- a body that comes to its own variable, with such a function put in
put_given : {i j : ℕ} {b v : Term} (w : ℕ → Term) → LikeTerms (first_term v Term.Var) w → Like i b (Term.Var zero) → GivesBack j v →
    GivesLess (suc (i + j)) (put_arg v b)
put_given {j = j} w t Like.var g = record { weight = j; gives = g; less = omega arith }
put_given {j = j} w t (Like.drop {i = k} h p l) g =
    let r = put_given w t p g in
    let g = sub_gives_back Ty.Var (first_term _ Term.Var) w t h in
    record { weight = suc (k + r.weight); gives = GivesBack.chain g r.gives (omega arith); less = let m = r.less in omega arith }
put_given w t (Like.part p us y k) g = absurd (no_var_value (field_value us y))

no_record : {j : ℕ} {v : Term} → GivesBack j v → IsValue v → Canon Form.a_record v → ⊥
no_record (GivesBack.whole p) v c = elim c [ ]
no_record (GivesBack.parts p) v c = elim c [ ]
no_record (GivesBack.chain g h l) v c = elim c [ ]

lam_given : {n i j : ℕ} {t : Ty} {b v : Term} → GivesBack i (Term.Lam t b) → GivesBack j v → IsValue v → IsTyped (Term.Call (Term.Lam t b) v) →
    i + j < n → GivesLess n (put_arg v b)
lam_given (GivesBack.whole p) h v ty l =
    let f = given_value h v in
    let r = put_given (first_term f.term Term.Var) (first_like f.like) p h in
    record { weight = r.weight; gives = r.gives; less = let m = r.less in omega arith }
lam_given (GivesBack.parts p) h v ty l = absurd (no_record h v (record_canon (arg_typed ty) v))

no_fix : {i : ℕ} {t u : Ty} {e : Term} → GivesBack i (Term.Fix t u e) → ⊥
no_fix g = elim g [ ]

-- a step of a function that gives its argument back leaves one that does so in less
pub given_step : {n : ℕ} {f c : Term} → GivesBack n f → IsTyped f → Step f c → GivesLess n c
given_step (GivesBack.whole p) ty s = elim s [ ]
given_step (GivesBack.parts p) ty s = elim s [ ]
given_step (GivesBack.chain {j = j} g h l) ty (Step.call_function s) =
    let r = given_step g (call_function_typed ty) s in
    record { weight = suc (r.weight + j); gives = GivesBack.chain r.gives h (omega arith); less = let m = r.less in omega arith }
given_step (GivesBack.chain {i = i} g h l) ty (Step.call_arg v s) =
    let r = given_step h (call_arg_typed ty) s in
    record { weight = suc (i + r.weight); gives = GivesBack.chain g r.gives (omega arith); less = let m = r.less in omega arith }
given_step (GivesBack.chain g h l) ty (Step.call_lam v) = lam_given g h v ty l
given_step (GivesBack.chain g h l) ty (Step.call_fix v) = absurd (no_fix g)
