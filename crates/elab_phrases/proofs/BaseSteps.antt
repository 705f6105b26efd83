-- Types and expressions of one word.
-- Main results: int-means, int_exp-means.
use Rattle.std.proofs.Common.{◌≡◌, Result, IfOk, sym, ap, ◌∙◌, subst}
use Rattle.std.proofs.lemmas.Result.{IfOk-weaker}
use Rattle.std.specs.Prelude.{ℤ, Bool}
use Rattle.omega_kinds.specs.Name.{Name}
use Rattle.omega_kinds.specs.View.{kind_tree}
use Rattle.sig_definitions.specs.Env.{Env}
use Rattle.semantic_sigs.specs.declared.made.Kinded.{Kinded}
use Rattle.semantic_sigs.specs.declared.made.Typed.{Typed}
use Rattle.fing_text.specs.declared.span.Span.{Span as SpanAt}
use Rattle.fing_syntax.specs.Phrase.{TyEx, Exp}
use Rattle.fing_syntax.specs.Inner.View.{ty_of, exp_of}
use Rattle.fing_syntax.specs.declared.tree.TyWhat.{TyWhat as TyExNode}
use Rattle.fing_syntax.specs.declared.tree.TyWhat.TheVariants as ty_what_in
use Rattle.fing_syntax.specs.declared.tree.ExpWhat.{ExpWhat as ExpNode}
use Rattle.fing_syntax.specs.declared.tree.ExpWhat.TheVariants as exp_what_in
use Rattle.core_judgments.specs.TypeRules.{Base, BaseGives}
use Rattle.core_judgments.specs.ExpRules.{Literal, LiteralGives}
use Rattle.elab_judgments.specs.Judgments.Meaning.{TyMeans, ExpMeans}
use Rattle.fing_refusals.specs.declared.refusal.Refusal.{Refusal as CodeRefusal}

base-means : (g : Env) (s : SpanAt) (v w : TyExNode) (b : Base) (a : TyEx) (r : Result Kinded CodeRefusal)
    → ((o : Kinded) → BaseGives b o.ty (kind_tree o.kind) → TyMeans g (ty_of s v) o.ty (kind_tree o.kind))
    → ty_of s w ≡ a → w ≡ v
    → IfOk r (λ o. BaseGives b o.ty (kind_tree o.kind)) → IfOk r (λ o. TyMeans g a o.ty (kind_tree o.kind))
base-means g s v w b a r f e i h =
    let p : ty_of s v ≡ a = sym (ap (ty_of s) i) ∙ e in
    IfOk-weaker r (λ o. BaseGives b o.ty (kind_tree o.kind)) (λ o. TyMeans g a o.ty (kind_tree o.kind)) (λ o q. subst (λ x. TyMeans g x o.ty (kind_tree o.kind)) p (f o q)) h

-- the type phrase for integers means their type
pub int-means : (g : Env) (s : SpanAt) (w : TyExNode) (a : TyEx) (r : Result Kinded CodeRefusal) → ty_of s w ≡ a → w ≡ ty_what_in.Int
    → IfOk r (λ o. BaseGives Base.Int o.ty (kind_tree o.kind)) → IfOk r (λ o. TyMeans g a o.ty (kind_tree o.kind))
int-means g s w a r e i h = base-means g s ty_what_in.Int w Base.Int a r (λ o q. TyMeans.ty_int q) e i h

-- the type phrase for truth values means their type
pub bool-means : (g : Env) (s : SpanAt) (w : TyExNode) (a : TyEx) (r : Result Kinded CodeRefusal) → ty_of s w ≡ a → w ≡ ty_what_in.Bool
    → IfOk r (λ o. BaseGives Base.Bool o.ty (kind_tree o.kind)) → IfOk r (λ o. TyMeans g a o.ty (kind_tree o.kind))
bool-means g s w a r e i h = base-means g s ty_what_in.Bool w Base.Bool a r (λ o q. TyMeans.ty_bool q) e i h

-- the type phrase for texts means their type
pub text-means : (g : Env) (s : SpanAt) (w : TyExNode) (a : TyEx) (r : Result Kinded CodeRefusal) → ty_of s w ≡ a → w ≡ ty_what_in.Text
    → IfOk r (λ o. BaseGives Base.Text o.ty (kind_tree o.kind)) → IfOk r (λ o. TyMeans g a o.ty (kind_tree o.kind))
text-means g s w a r e i h = base-means g s ty_what_in.Text w Base.Text a r (λ o q. TyMeans.ty_text q) e i h

literal-means : (g : Env) (s : SpanAt) (v w : ExpNode) (b : Literal) (a : Exp) (r : Result Typed CodeRefusal)
    → ((o : Typed) → LiteralGives b o.ty o.term → ExpMeans g (exp_of s v) o.ty o.term)
    → exp_of s w ≡ a → w ≡ v
    → IfOk r (λ o. LiteralGives b o.ty o.term) → IfOk r (λ o. ExpMeans g a o.ty o.term)
literal-means g s v w b a r f e i h =
    let p : exp_of s v ≡ a = sym (ap (exp_of s) i) ∙ e in
    IfOk-weaker r (λ o. LiteralGives b o.ty o.term) (λ o. ExpMeans g a o.ty o.term) (λ o q. subst (λ x. ExpMeans g x o.ty o.term) p (f o q)) h

-- a number as an expression means the literal
pub int_exp-means : (g : Env) (s : SpanAt) (w : ExpNode) (a : Exp) (r : Result Typed CodeRefusal) (z y : ℤ) → exp_of s w ≡ a → w ≡ exp_what_in.Int z → y ≡ z
    → IfOk r (λ o. LiteralGives (Literal.Int y) o.ty o.term) → IfOk r (λ o. ExpMeans g a o.ty o.term)
int_exp-means g s w a r z y e i q h = literal-means g s (exp_what_in.Int z) w (Literal.Int z) a r (λ o q. ExpMeans.exp_int q) e i (subst (λ n. IfOk r (λ o. LiteralGives (Literal.Int n) o.ty o.term)) q h)

-- a truth value as an expression means the literal
pub bool_exp-means : (g : Env) (s : SpanAt) (w : ExpNode) (a : Exp) (r : Result Typed CodeRefusal) (b : Bool) → exp_of s w ≡ a → w ≡ exp_what_in.Bool b
    → IfOk r (λ o. LiteralGives (Literal.Bool b) o.ty o.term) → IfOk r (λ o. ExpMeans g a o.ty o.term)
bool_exp-means g s w a r b e i h = literal-means g s (exp_what_in.Bool b) w (Literal.Bool b) a r (λ o q. ExpMeans.exp_bool q) e i h

-- a text as an expression means the literal
pub text_exp-means : (g : Env) (s : SpanAt) (w : ExpNode) (a : Exp) (r : Result Typed CodeRefusal) (l m : Name) → exp_of s w ≡ a → w ≡ exp_what_in.Text l → m ≡ l
    → IfOk r (λ o. LiteralGives (Literal.Text m) o.ty o.term) → IfOk r (λ o. ExpMeans g a o.ty o.term)
text_exp-means g s w a r l m e i q h = literal-means g s (exp_what_in.Text l) w (Literal.Text l) a r (λ o q. ExpMeans.exp_text q) e i (subst (λ n. IfOk r (λ o. LiteralGives (Literal.Text n) o.ty o.term)) q h)
