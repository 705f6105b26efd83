-- What the code puts in is what the step gives.
-- Main results: lam-step, fix-step, open-step, arith-step, choose-step, unroll-step.
use Rattle.std.proofs.Common.{◌≡◌, refl, sym, ap, ap₂, ◌∙◌, subst, Bool as Truth, true, false, ℤ}
use Rattle.omega_types.specs.Ty.{Ty}
use Rattle.omega_types.specs.declared.tree.Ty.{Ty as TyHandle}
use Rattle.omega_kinds.specs.declared.kind.Kind.{Kind as KindHandle}
use Rattle.omega_kinds.specs.declared.label.Label.{Label}
use Rattle.omega_terms.specs.declared.tree.Term.{Term as TermHandle}
use Rattle.omega_terms.specs.declared.tree.TermFields.{TermFields}
use Rattle.omega_terms.specs.declared.tree.TermNode.{TermNode}
use Rattle.omega_terms.specs.declared.tree.TermNode.TheVariants as node
use Rattle.omega_terms.specs.declared.op.Op.{Op}
use Rattle.omega_terms.specs.Fields.{TermPairs, term_row}
use Rattle.omega_terms.specs.Term.{Term, TermRow}
use Rattle.omega_terms.specs.TermSubst.{put_term, put_type, shift_term}
use Rattle.omega_terms.specs.Steps.{IsValue, HasField, Step, Faults, Answer, Fault, compute}
use Rattle.omega_terms.specs.Inner.View.{term_of}
use Rattle.omega_machine.specs.Inner.Contexts.{result_of, branches_of, case_of}
use Rattle.omega_machine.specs.Inner.Moves.{IsTyped}
use Rattle.omega_machine.proofs.Puts.{put-arg, put-ty, put-both, put-fix}
use Rattle.omega_machine.proofs.Canonical.{fields-values, body-value, injected-value, rolled-value, value-at, has-field, has-branch}

-- the term that a node of a known form makes
pub is-form : (n m : TermNode) (e : Term) → n ≡ m → term_of n ≡ e → e ≡ term_of m
is-form n m e p q = sym q ∙ ap term_of p

-- the call of a function steps to its body with the argument put in
pub lam-step : (n : TermNode) (t : TyHandle) (b : TermHandle) (f a e : Term) → n ≡ node.Lam t b → term_of n ≡ f → IsValue a → e ≡ put_term b 0 a → Step (Term.Call f a) e
lam-step n t b f a e p q v h =
    subst (λ x. Step (Term.Call x a) e) (sym (is-form n (node.Lam t b) f p q)) (subst (Step (Term.Call (Term.Lam t b) a)) (sym (h ∙ put-arg a b)) (Step.call_lam v))

-- the call of a recursive function steps to its body with the argument and the function put in
pub fix-step : (n : TermNode) (t u : TyHandle) (b : TermHandle) (f a shifted filled e : Term) → n ≡ node.Fix t u b → term_of n ≡ f → IsValue a → shifted ≡ shift_term a 0 1 → filled ≡ put_term b 0 shifted → e ≡ put_term filled 0 f → Step (Term.Call f a) e
fix-step n t u b f a shifted filled e p q v s g h =
    let is = is-form n (node.Fix t u b) f p q in
    let put = h ∙ (ap₂ (λ x y. put_term x 0 y) (g ∙ ap (put_term b 0) s) is ∙ put-fix a (Term.Fix t u b) b) in
    subst (λ x. Step (Term.Call x a) e) (sym is) (subst (Step (Term.Call (Term.Fix t u b) a)) (sym put) (Step.call_fix v))

-- a type function at a type steps to its body with the type put in
pub inst-step : (n : TermNode) (k : KindHandle) (b : TermHandle) (f : Term) (t : Ty) (e : Term) → n ≡ node.TyLam k b → term_of n ≡ f → e ≡ put_type b 0 t → Step (Term.Inst f t) e
inst-step n k b f t e p q h =
    subst (λ x. Step (Term.Inst x t) e) (sym (is-form n (node.TyLam k b) f p q)) (subst (Step (Term.Inst (term_of (node.TyLam k b)) t)) (sym (h ∙ put-ty t b)) Step.inst_ty_lam)

-- an opened package steps to the body with its type and its value put in
pub open-step : (n : TermNode) (t u : TyHandle) (v : TermHandle) (d b filled e : Term) → n ≡ node.Pack t v u → term_of n ≡ d → IsValue d → filled ≡ put_type b 0 t → e ≡ put_term filled 0 v → Step (Term.Unpack d b) e
open-step n t u v d b filled e p q w g h =
    let is = is-form n (node.Pack t v u) d p q in
    subst (λ x. Step (Term.Unpack x b) e) (sym is) (subst (Step (Term.Unpack (Term.Pack t v u) b)) (sym (h ∙ (ap (λ x. put_term x 0 v) g ∙ put-both t v b))) (Step.unpack_pack (body-value (subst IsValue is w))))

-- a conditional on true steps to its first branch
pub if-step-true : (n : TermNode) (t : Truth) (a b c : Term) → n ≡ node.Bool t → term_of n ≡ a → t ≡ true → Step (Term.If a b c) b
if-step-true n t a b c p q h = subst (λ x. Step (Term.If x b c) b) (sym (is-form n (node.Bool t) a p q ∙ ap Term.Bool h)) Step.if_true

-- a conditional on false steps to its second branch
pub if-step-false : (n : TermNode) (t : Truth) (a b c : Term) → n ≡ node.Bool t → term_of n ≡ a → t ≡ false → Step (Term.If a b c) c
if-step-false n t a b c p q h = subst (λ x. Step (Term.If x b c) c) (sym (is-form n (node.Bool t) a p q ∙ ap Term.Bool h)) Step.if_false

both-numbers : (n m : TermNode) (y z : ℤ) (o : Op) (a b : Term) → n ≡ node.Int y → term_of n ≡ a → m ≡ node.Int z → term_of m ≡ b → Term.Arith o a b ≡ Term.Arith o (Term.Int y) (Term.Int z)
both-numbers n m y z o a b p q r s = ap₂ (Term.Arith o) (is-form n (node.Int y) a p q) (is-form m (node.Int z) b r s)

-- an operation on two numbers steps to what it gives
pub arith-step : (n m : TermNode) (y z : ℤ) (o : Op) (a b e d : Term) → n ≡ node.Int y → term_of n ≡ a → m ≡ node.Int z → term_of m ≡ b → compute o y z ≡ Answer.gives d → e ≡ d → Step (Term.Arith o a b) e
arith-step n m y z o a b e d p q r s h g =
    subst (λ x. Step x e) (sym (both-numbers n m y z o a b p q r s)) (Step.arith (h ∙ ap Answer.gives (sym g)))

-- an operation on two numbers that fails is a fault
pub arith-fault : (n m : TermNode) (y z : ℤ) (o : Op) (a b : Term) (x : Fault) → n ≡ node.Int y → term_of n ≡ a → m ≡ node.Int z → term_of m ≡ b → compute o y z ≡ Answer.fails x → Faults (Term.Arith o a b) x
arith-fault n m y z o a b x p q r s h =
    subst (λ w. Faults w x) (sym (both-numbers n m y z o a b p q r s)) (Faults.arith h)

-- ---- the part of a record

record-is : (n : TermNode) (f : TermPairs) (whole : Term) → n ≡ node.Fields f → term_of n ≡ whole → whole ≡ Term.Fields (term_row f)
record-is n f whole p q = is-form n (node.Fields f) whole p q

-- the selection of a field steps to the field, which is a value
pub get-step : (n : TermNode) (f xs : TermPairs) (whole : Term) (l : Label) (d e : Term) → n ≡ node.Fields f → term_of n ≡ whole → xs ≡ f → IsValue whole → HasField (term_row xs) l d → e ≡ d → Step (Term.Get whole l) e × IsValue e
get-step n f xs whole l d e p q r v h g =
    let is = record-is n f whole p q ∙ ap (λ ys. Term.Fields (term_row ys)) (sym r) in
    let vs = fields-values (subst IsValue is v) in
    (subst (λ x. Step (Term.Get x l) e) (sym is) (subst (Step (Term.Get (Term.Fields (term_row xs)) l)) (sym g) (Step.get_fields vs h)), subst IsValue (sym g) (value-at vs h))

-- a typed selection finds its field
pub get-field : (n : TermNode) (f xs : TermPairs) (whole : Term) (l : Label) → n ≡ node.Fields f → term_of n ≡ whole → xs ≡ f → IsValue whole → IsTyped (Term.Get whole l) → (e : Term) × HasField (term_row xs) l e
get-field n f xs whole l p q r v h =
    let is = record-is n f whole p q ∙ ap (λ ys. Term.Fields (term_row ys)) (sym r) in
    has-field (term_row xs) l (fields-values (subst IsValue is v)) (subst (λ x. IsTyped (Term.Get x l)) is h)

-- ---- the branch of a case, and what is rolled

injection-is : (n : TermNode) (l : Label) (v : TermHandle) (u : TyHandle) (injection : Term) → n ≡ node.Inj l v u → term_of n ≡ injection → injection ≡ Term.Inj l v u
injection-is n l v u injection p q = is-form n (node.Inj l v u) injection p q

case-is : (m : TermNode) (d : TermHandle) (t : TyHandle) (f : TermPairs) (whole : Term) → m ≡ node.Case d t f → term_of m ≡ whole → whole ≡ Term.Case d t (term_row f)
case-is m d t f whole p q = is-form m (node.Case d t f) whole p q

-- a case of an injection steps to the branch of its label with the value put in
pub choose-step : (n m : TermNode) (l : Label) (v : TermHandle) (u : TyHandle) (d : TermHandle) (t : TyHandle) (f : TermPairs) (whole injection b e : Term) → n ≡ node.Inj l v u → term_of n ≡ injection → m ≡ node.Case d t f → term_of m ≡ whole → IsValue injection → HasField (term_row f) l b → e ≡ put_term b 0 v → Step (case_of whole injection) e
choose-step n m l v u d t f whole injection b e p q r s w h g =
    let at = injection-is n l v u injection p q in
    let is = case-is m d t f whole r s in
    let step : Step (Term.Case (Term.Inj l v u) t (term_row f)) e =
    subst (Step (Term.Case (Term.Inj l v u) t (term_row f))) (sym (g ∙ put-arg v b)) (Step.case_inj (injected-value (subst IsValue at w)) h) in
    subst (λ x. Step (case_of x injection) e) (sym is) (subst (λ x. Step (Term.Case x t (term_row f)) e) (sym at) step)

-- the case of the injection, by the form of the injection
injected-case : (n : TermNode) (l : Label) (v : TermHandle) (u : TyHandle) (whole injection : Term) → n ≡ node.Inj l v u → term_of n ≡ injection → IsValue injection → IsTyped (case_of whole injection) → (b : Term) × HasField (branches_of whole) l b
injected-case n l v u whole injection p q w h =
    let at = injection-is n l v u injection p q in
    has-branch l v (result_of whole) u (branches_of whole) (injected-value (subst IsValue at w)) (subst (λ x. IsTyped (case_of whole x)) at h)

-- a typed case has a branch of the label
pub choose-branch : (n m : TermNode) (l : Label) (v : TermHandle) (u : TyHandle) (d : TermHandle) (t : TyHandle) (f : TermPairs) (whole injection : Term) → n ≡ node.Inj l v u → term_of n ≡ injection → m ≡ node.Case d t f → term_of m ≡ whole → IsValue injection → IsTyped (case_of whole injection) → (b : Term) × HasField (term_row f) l b
choose-branch n m l v u d t f whole injection p q r s w h =
    subst (λ x. (b : Term) × HasField (branches_of x) l b) (case-is m d t f whole r s) (injected-case n l v u whole injection p q w h)

no-branches : (m : TermNode) → ((d : TermHandle) (t : TyHandle) (f : TermFields) → m ≡ node.Case d t f → ⊥) → branches_of (term_of m) ≡ TermRow.End
no-branches (node.Case d t f) h = absurd (h d t f refl)
no-branches _ h = refl

-- what takes an injection apart is a case
pub no-case : (n m : TermNode) (l : Label) (v : TermHandle) (u : TyHandle) (whole injection : Term) → n ≡ node.Inj l v u → term_of n ≡ injection → term_of m ≡ whole → IsValue injection → IsTyped (case_of whole injection) → ((d : TermHandle) (t : TyHandle) (f : TermFields) → m ≡ node.Case d t f → ⊥) → ⊥
no-case n m l v u whole injection p q s w h k =
    let none : branches_of whole ≡ TermRow.End = ap branches_of (sym s) ∙ no-branches m k in
    let b = subst (λ x. (b : Term) × HasField x l b) none (injected-case n l v u whole injection p q w h) in
    elim b.1 [ ]

-- an unrolled value steps to what is inside, which is a value
pub unroll-step : (n : TermNode) (v : TermHandle) (u : TyHandle) (rolled e : Term) → n ≡ node.Roll v u → term_of n ≡ rolled → IsValue rolled → e ≡ v → Step (Term.Unroll rolled) e × IsValue e
unroll-step n v u rolled e p q w g =
    let is = is-form n (node.Roll v u) rolled p q in
    let value = rolled-value (subst IsValue is w) in
    (subst (λ x. Step (Term.Unroll x) e) (sym is) (subst (Step (Term.Unroll (Term.Roll v u))) (sym g) (Step.unroll_roll value)), subst IsValue (sym g) value)
