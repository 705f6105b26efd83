-- What single declarations give, and the exit at a condition that fails.
-- Main results: module-given, generative-given.
use Rattle.std.proofs.Common.{◌≡◌, List, [], Option, Some, None, Result, Ok, Err, IfErr, IfOk, IfSome, IsErrAnd, sym, ◌∙◌, subst}
use Rattle.std.proofs.lemmas.Result.{err_from_is_err_and}
use Rattle.omega_kinds.specs.Kind.{Kind}
use Rattle.omega_kinds.specs.Name.{Name}
use Rattle.omega_kinds.specs.declared.effect.Effect.TheVariants.{Impure}
use Rattle.semantic_sigs.specs.Inner.View.{body_of, kinds_of}
use Rattle.sig_definitions.specs.Signatures.Sig.{Abs, Sig}
use Rattle.sig_judgments.specs.SigRules.{GenerativeGives, ModuleGives, one_part}
use Rattle.sig_judgments.specs.SigWhy.{SigWhy}
use Rattle.sig_rules.specs.declared.refusal.SigRefusal.{SigRefusal}
use Rattle.sig_rules.specs.Inner.Plain.{plain_why}

-- what holds of the value that a last call gives
pub given-by : {T E : Type 0} (r : Result T E) (x : T) (Q : T → Type 0) → IfOk r (λ y. y ≡ x) → Q x → IfOk r Q
given-by (Ok y) x Q e q = subst Q (sym e) q
given-by (Err w) x Q e q = tt

some-weaker : (o : Option SigWhy) (P Q : SigWhy → Type 0) → ((w : SigWhy) → P w → Q w) → IfSome o P → IfSome o Q
some-weaker None P Q f h = tt
some-weaker (Some w) P Q f h = f w h

-- a condition that fails, with its reason, is a refusal
pub exit : {T : Type 0} (F : Type 0) (w : SigWhy) (Q : SigWhy → Type 0) → (F → Q w) → (r : Result T SigRefusal) (e : SigRefusal) → IsErrAnd r (λ y. y ≡ e) → IfSome (plain_why e) (λ why. F × (why ≡ w)) → IfErr r (λ y. IfSome (plain_why y) Q)
exit {T} F w Q f r e out h =
    let p = err_from_is_err_and r out in
    let P : Result T SigRefusal → Type 0 = λ s. IfErr s (λ y. IfSome (plain_why y) Q) in
    subst P (sym p.1) (subst (λ y. IfSome (plain_why y) Q) (sym p.2) (some-weaker (plain_why e) (λ why. F × (why ≡ w)) Q (λ why g. subst Q (sym g.1) (f g.0)) h))

module-by : (l : Name) (x z : Abs) → z ≡ Abs.Ex (kinds_of x) (one_part l (body_of x)) → ModuleGives l x z
module-by l (Abs.Ex ks s) z e = subst (ModuleGives l (Abs.Ex ks s)) (sym e) ModuleGives.module_

-- the declaration of a module gives the structure of its signature, which hides the same types
pub module-given : (l : Name) (x z : Abs) (ks : List Kind) (s : Sig) → ks ≡ kinds_of x → s ≡ body_of x → z ≡ Abs.Ex ks (one_part l s) → ModuleGives l x z
module-given l x z ks s ek es e = module-by l x z (e ∙ (λ i. Abs.Ex (ek i) (one_part l (es i))))

generative-by : (x y z : Abs) → z ≡ Abs.Ex [] (Sig.Fun Impure (kinds_of x) (body_of x) y) → GenerativeGives x y z
generative-by (Abs.Ex ks s) y z e = subst (GenerativeGives (Abs.Ex ks s) y) (sym e) GenerativeGives.generative

-- a generative functor signature is made of its parameter and its result
pub generative-given : (x y z t : Abs) (ks ls : List Kind) (s f : Sig) → ks ≡ kinds_of x → s ≡ body_of x → t ≡ y → f ≡ Sig.Fun Impure ks s t → ls ≡ [] → z ≡ Abs.Ex ls f → GenerativeGives x y z
generative-given x y z t ks ls s f ek es et ef el e = generative-by x y z (e ∙ (λ i. Abs.Ex (el i) ((ef ∙ (λ j. Sig.Fun Impure (ek j) (es j) (et j))) i)))
