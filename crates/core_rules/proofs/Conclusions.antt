-- From the conditions of a rule to its conclusion, and from one that fails to the refusal.
-- Main results: applied-given, call-given, instance-given, get-given, if-given, operation-given.
use Rattle.std.proofs.Common.{◌≡◌, ◌≢◌, List, ◌∷◌, zero, Option, Some, None, MatchOption, Result, Ok, Err, IfErr, IfOk, IfSome, IsErrAnd, refl, sym, ap, ◌∙◌, subst, subst₂}
use Rattle.std.proofs.lemmas.Result.{err_from_is_err_and}
use Rattle.omega_kinds.specs.Kind.{Kind}
use Rattle.omega_kinds.specs.Name.{Name}
use Rattle.omega_kinds.specs.declared.label.Label.{Label}
use Rattle.omega_types.specs.Ty.{Ty, Row}
use Rattle.omega_types.specs.Conversion.{Conv}
use Rattle.omega_types.specs.Conversion.Conv.{c_trans, c_beta}
use Rattle.omega_types.specs.Normality.{Normal}
use Rattle.omega_types.specs.Normality.Normal.{n_lam}
use Rattle.omega_types.specs.Normalises.{NormalForm}
use Rattle.omega_types.specs.Normaliser.{beta, hsubst}
use Rattle.omega_types.specs.Substitution.{instantiate}
use Rattle.omega_types.specs.Index.{i_here}
use Rattle.omega_types.proofs.Hereditary.{hsubst-gives}
use Rattle.omega_types.proofs.Preservation.{normal-kind}
use Rattle.omega_types.proofs.Single.{substitute_at-zero}
use Rattle.omega_terms.specs.declared.op.Op.{Op}
use Rattle.omega_terms.specs.Term.{Term}
use Rattle.omega_terms.specs.Typing.{HasPart, result_type}
use Rattle.omega_terms.proofs.NormalTyping.{normal-all}
use Rattle.core_judgments.specs.CoreWhy.{CoreWhy, Differ, KindDiffer, NoField}
use Rattle.core_judgments.specs.ExpRules.{CallGives, CallRefuses, InstanceGives, InstanceRefuses, GetGives, GetRefuses, IfGives, IfRefuses, OperationGives, OperationRefuses}
use Rattle.core_judgments.specs.TypeRules.{AppliedGives, AppliedRefuses}
use Rattle.core_rules.specs.declared.refusal.CoreRefusal.{CoreRefusal}
use Rattle.core_rules.specs.Inner.Plain.{plain_why}

some-weaker : (o : Option CoreWhy) (P Q : CoreWhy → Type 0) → ((w : CoreWhy) → P w → Q w) → IfSome o P → IfSome o Q
some-weaker None P Q f h = tt
some-weaker (Some w) P Q f h = f w h

-- the exit at a condition that fails
pub exit : {T : Type 0} (F : Type 0) (w : CoreWhy) (Q : CoreWhy → Type 0) → (F → Q w) → (r : Result T CoreRefusal) (e : CoreRefusal) → IsErrAnd r (λ y. y ≡ e) → IfSome (plain_why e) (λ why. F × (why ≡ w)) → IfErr r (λ y. IfSome (plain_why y) Q)
exit {T} F w Q f r e out h =
    let p = err_from_is_err_and r out in
    let P : Result T CoreRefusal → Type 0 = λ s. IfErr s (λ y. IfSome (plain_why y) Q) in
    subst P (sym p.1) (subst (λ y. IfSome (plain_why y) Q) (sym p.2) (some-weaker (plain_why e) (λ why. F × (why ≡ w)) Q (λ why g. subst Q (sym g.1) (f g.0)) h))

-- the exit at a call that is refused by this rule, or by a part of it
pub passed : {T : Type 0} (P Q : CoreWhy → Type 0) → ((w : CoreWhy) → P w → Q w) → (r : Result T CoreRefusal) (e : CoreRefusal) → IsErrAnd r (λ y. y ≡ e) → IfSome (plain_why e) P → IfErr r (λ y. IfSome (plain_why y) Q)
passed {T} P Q f r e out h =
    let p = err_from_is_err_and r out in
    let R : Result T CoreRefusal → Type 0 = λ s. IfErr s (λ y. IfSome (plain_why y) Q) in
    subst R (sym p.1) (subst (λ y. IfSome (plain_why y) Q) (sym p.2) (some-weaker (plain_why e) P Q f h))

-- a last call's answer
-- what holds of what a call gives, if it gives something, may be weakened
pub given-more : {T E : Type 0} (P Q : T → Type 0) → ((x : T) → P x → Q x) → (r : Result T E) → IfOk r P → IfOk r Q
given-more P Q f (Ok x) h = f x h
given-more P Q f (Err e) h = tt

-- what a refusal says, if there is one, may be weakened
pub refused-more : {T : Type 0} (P Q : CoreWhy → Type 0) → ((w : CoreWhy) → P w → Q w) → (r : Result T CoreRefusal) → IfErr r (λ e. IfSome (plain_why e) P) → IfErr r (λ e. IfSome (plain_why e) Q)
refused-more P Q f (Ok x) h = tt
refused-more P Q f (Err e) h = some-weaker (plain_why e) P Q f h

-- what holds of both parts that a last call gives
pub both-given : {T E A B : Type 0} (f : T → A) (g : T → B) (Q : A → B → Type 0) (r : Result T E) (a : A) (b : B) → IfOk r (λ x. f x ≡ a) → IfOk r (λ x. g x ≡ b) → Q a b → IfOk r (λ x. Q (f x) (g x))
both-given f g Q (Ok x) a b e h q = subst₂ Q (sym e) (sym h) q
both-given f g Q (Err w) a b e h q = tt

-- a normal operator at a normal argument
pub beta-gives : {ctx : List Kind} {f a : Ty} {k j : Kind} → Normal ctx f (Kind.Arrow k j) → Normal ctx a k → NormalForm ctx (Ty.Apply f a) j (beta f a)
beta-gives {ctx} {a = a} {k = k} {j = j} (n_lam {b = b} n) m =
    let h = hsubst-gives ctx (k ∷ ctx) zero a b k j i_here m n in
    (h.0, c_trans (c_beta (normal-kind n) (normal-kind m)) (subst (λ s. Conv ctx s (hsubst k zero a b) j) (substitute_at-zero a b) h.1))

-- the body of a normal quantified type at a normal argument
pub instance-gives : {ctx : List Kind} {k : Kind} {u t : Ty} → Normal ctx (Ty.All k u) Kind.Star → Normal ctx t k → NormalForm ctx (instantiate u t) Kind.Star (hsubst k zero t u)
instance-gives {ctx} {k} {u} {t} n m =
    subst (λ s. NormalForm ctx s Kind.Star (hsubst k zero t u)) (substitute_at-zero t u) (hsubst-gives ctx (k ∷ ctx) zero t u k Kind.Star i_here m (normal-all n))

-- an argument of another kind
pub applied-kind : (t u : Ty) (k j l m a b : Kind) → k ≡ Kind.Arrow m j → l ≢ m → a ≡ l → b ≡ m → AppliedRefuses t k u l (KindDiffer a b)
applied-kind t u k j l m a b e n p q = rw (e, p, q) (AppliedRefuses.arg_kind n)

-- an operator at an argument of its kind gives the hereditary substitution
pub applied-given : (ctx : List Kind) (t u v : Ty) (k j l m : Kind) → k ≡ Kind.Arrow m j → l ≡ m → (i : Kind) → i ≡ j → v ≡ beta t u → Normal ctx t k → Normal ctx u l → AppliedGives ctx t k u l v i
applied-given ctx t u v k j l m e p i q r n o =
    rw (e, p, q, r) (AppliedGives.applied (beta-gives (subst (Normal ctx t) e n) (subst (Normal ctx u) p o)))

-- calls: p is the type that the function takes
pub call-differs : (f v t u p : Ty) → f ≡ Ty.Arrow t u → p ≡ t → v ≢ p → CallRefuses f v (Differ v p)
call-differs f v t u p e q n = rw (e, q) (CallRefuses.arg_type (λ h. n (h ∙ sym q)))

-- the call of a function at an argument of its type has the type of its result
pub call-given : (f v t u p w : Ty) (d a x : Term) → f ≡ Ty.Arrow t u → p ≡ t → v ≡ p → w ≡ u → x ≡ Term.Call d a → CallGives f d v a w x
call-given f v t u p w d a x e q r is ix = rw (e, r ∙ q, is, ix) CallGives.call

-- instances
-- an instance at a type of another kind than the quantifier's is refused
pub instance-kind : (f t u : Ty) (k j a b : Kind) → f ≡ Ty.All k u → j ≢ k → a ≡ j → b ≡ k → InstanceRefuses f t j (KindDiffer a b)
instance-kind f t u k j a b e n p q = rw (e, p, q) (InstanceRefuses.arg_kind n)

-- a term of a universally quantified type, at a type of its kind, has the type of the body at it
pub instance-given : (ctx : List Kind) (f t u p v : Ty) (k j : Kind) (d x : Term) → f ≡ Ty.All k u → p ≡ u → j ≡ k → v ≡ hsubst k zero t p → x ≡ Term.Inst d t → Normal ctx f Kind.Star → Normal ctx t j → InstanceGives ctx f d t j v x
instance-given ctx f t u p v k j d x e q r is ix n m =
    rw (e, r, is ∙ ap (hsubst k zero t) q, ix) (InstanceGives.instance (instance-gives (subst (λ s. Normal ctx s Kind.Star) e n) (subst (Normal ctx t) r m)))

-- fields
-- of an option that is no value, the case of none holds
pub none-case : (o : Option Ty) (P : Type 0) (Q : Ty → Type 0) → ((t : Ty) → o ≡ Some t → ⊥) → MatchOption o P Q → P
none-case None P Q n h = h
none-case (Some t) P Q n h = absurd (n t refl)

-- of an option that is a value, the case of the value holds
pub some-case : (o : Option Ty) (P : Type 0) (Q : Ty → Type 0) (t : Ty) → o ≡ Some t → MatchOption o P Q → Q t
some-case o P Q t e h = subst (λ x. MatchOption x P Q) e h

-- the selection of a name that the record lacks is refused
pub get-missing : (w : Ty) (r : Row) (l n : Name) → w ≡ Ty.Fields r → n ≡ l → ((t : Ty) → HasPart r (Label.Name l) t → ⊥) → GetRefuses w l (NoField n)
get-missing w r l n e q h = rw (e, q) (GetRefuses.no_field h)

-- the selection of a field gives the field of its type
pub get-given : (w t : Ty) (r : Row) (l : Name) (d x : Term) → w ≡ Ty.Fields r → HasPart r (Label.Name l) t → x ≡ Term.Get d (Label.Name l) → GetGives w d l t x
get-given w t r l d x e h ix = rw (e, ix) (GetGives.get h)

-- choices: p is the type of a test
pub test-differs : (t u v p : Ty) → p ≡ Ty.Bool → t ≢ p → IfRefuses t u v (Differ t p)
test-differs t u v p e n = rw (e) (IfRefuses.test_type (λ h. n (h ∙ sym e)))

-- branches of different types are refused
pub branches-differ : (t u v p : Ty) → p ≡ Ty.Bool → t ≡ p → u ≢ v → IfRefuses t u v (Differ u v)
branches-differ t u v p e q n = rw (q ∙ e) (IfRefuses.branches n)

-- a conditional on a truth value, with branches of one type, has this type
pub if-given : (t u v p : Ty) (d a b x : Term) → p ≡ Ty.Bool → t ≡ p → u ≡ v → x ≡ Term.If d a b → IfGives t d u a v b u x
if-given t u v p d a b x e q r ix = rw (q ∙ e, r, ix) IfGives.if_

-- operations: p is the type of an operand
pub left-differs : (t u p : Ty) → p ≡ Ty.Int → t ≢ p → OperationRefuses t u (Differ t p)
left-differs t u p e n = rw (e) (OperationRefuses.left_type (λ h. n (h ∙ sym e)))

-- a right operand that is no integer is refused
pub right-differs : (t u p : Ty) → p ≡ Ty.Int → t ≡ p → u ≢ p → OperationRefuses t u (Differ u p)
right-differs t u p e q n = rw (q ∙ e, e) (OperationRefuses.right_type (λ h. n (h ∙ sym e)))

-- an operation on two integers has the type of its results
pub operation-given : (o : Op) (t u p v : Ty) (d a x : Term) → p ≡ Ty.Int → t ≡ p → u ≡ p → v ≡ result_type o → x ≡ Term.Arith o d a → OperationGives o t d u a v x
operation-given o t u p v d a x e q r is ix = rw (q ∙ e, r ∙ e, is, ix) OperationGives.operation
