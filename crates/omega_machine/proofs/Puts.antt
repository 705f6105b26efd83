-- The substitutions of a step, as the operations on one index.
-- Main results: put-arg, put-ty.
use Rattle.std.proofs.Common.{◌≡◌, ℕ, zero, suc, refl, ap, ◌∙◌}
use Rattle.std.proofs.Math.Path.{fun_ext}
use Rattle.omega_types.specs.Ty.{Ty}
use Rattle.omega_types.specs.Substitution.{single}
use Rattle.omega_types.specs.Index.{put}
use Rattle.omega_types.proofs.Algebra.{substitute-id}
use Rattle.omega_terms.specs.Term.{Term}
use Rattle.omega_terms.specs.TermSubst.{sub_term, ren_term, first_term, put_at, put_term, put_type, shift_term, same_index}
use Rattle.omega_terms.specs.Steps.{put_arg, put_fix, put_ty, put_both}
use Rattle.omega_terms.proofs.OneIndex.{shift-one_term}
use Rattle.omega_machine.proofs.TermAlgebra.{sub_term-vars, sub_ren_term, two_sub_term}

at-first : (a : Term) (n : ℕ) → put_at 0 a n ≡ first_term a Term.Var n
at-first a zero = refl
at-first a (suc n) = refl

put-first : (t : Ty) (n : ℕ) → put 0 t n ≡ single t n
put-first t zero = refl
put-first t (suc n) = refl

-- putting an argument into a function's body is the substitution for index 0
pub put-arg : (a e : Term) → put_term e 0 a ≡ put_arg a e
put-arg a e = ap (λ w. sub_term Ty.Var w e) (fun_ext (at-first a))

-- putting a type into a type function's body is the substitution for index 0
pub put-ty : (t : Ty) (e : Term) → put_type e 0 t ≡ put_ty t e
put-ty t e = ap (λ s. sub_term s Term.Var e) (fun_ext (put-first t))

-- the type is put in first, and then the value
pub put-both : (t : Ty) (v e : Term) → put_term (put_type e 0 t) 0 v ≡ put_both t v e
put-both t v e =
    put-arg v (put_type e 0 t) ∙
    (ap (put_arg v) (put-ty t e) ∙
    two_sub_term Ty.Var (first_term v Term.Var) (single t) Term.Var (single t) (first_term v Term.Var) (λ n. substitute-id (single t n)) (λ n. refl) e)

under-function : (a f : Term) (n : ℕ) → sub_term Ty.Var (first_term f Term.Var) (first_term (ren_term same_index suc a) Term.Var n) ≡ first_term a (first_term f Term.Var) n
under-function a f zero =
    sub_ren_term Ty.Var (first_term f Term.Var) same_index suc Ty.Var Term.Var (λ m. refl) (λ m. refl) a ∙ sub_term-vars Ty.Var Term.Var (λ m. refl) (λ m. refl) a
under-function a f (suc n) = refl

-- the argument is put in first, past the function, and then the function
pub put-fix : (a f e : Term) → put_term (put_term e 0 (shift_term a 0 1)) 0 f ≡ put_fix a f e
put-fix a f e =
    put-arg f (put_term e 0 (shift_term a 0 1)) ∙
    (ap (put_arg f) (put-arg (shift_term a 0 1) e ∙ ap (λ x. put_arg x e) (shift-one_term a)) ∙
    two_sub_term Ty.Var (first_term f Term.Var) Ty.Var (first_term (ren_term same_index suc a) Term.Var) Ty.Var (first_term a (first_term f Term.Var)) (λ n. refl) (under-function a f) e)
