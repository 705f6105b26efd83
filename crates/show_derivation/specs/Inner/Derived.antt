-- What a line of a derivation says of a place: it is derived for a phrase there, in an environment in which every entry is good.
use Rattle.std.specs.Prelude.{List, ◌≡◌}
use Rattle.omega_kinds.specs.Name.{Name}
use Rattle.omega_kinds.specs.View.{kind_tree}
use Rattle.omega_kinds.specs.declared.effect.Effect.{Effect}
use Rattle.omega_kinds.specs.declared.kind.Kind.{Kind}
use Rattle.omega_types.specs.Ty.{Ty}
use Rattle.omega_terms.specs.Term.{Term}
use Rattle.sig_definitions.specs.Env.{Env}
use Rattle.sig_definitions.specs.Signatures.Sig.{Abs, made}
use Rattle.sig_laws.specs.Good.{OkEnv}
use Rattle.fing_syntax.specs.Inner.Leaves.{place}
use Rattle.fing_syntax.specs.Phrase.{Span, Bind, BindAt, Decl, DeclAt, Exp, Mod, SigEx, TyEx}
use Rattle.fing_syntax.specs.Place.{exp_span, mod_span, sig_span, ty_span}
use Rattle.fing_text.specs.declared.span.Span.{Span as SpanAt}
use Rattle.show_paper.specs.declared.conclusions.Conclusion.{Conclusion}
use Rattle.show_paper.specs.declared.conclusions.Conclusion.TheVariants as conclusion
use Rattle.elab_judgments.specs.Judgments.Meaning.{TyMeans, ExpMeans, SigMeans, DeclMeans, ModMeans, BindMeans}

abbrev pub bind_place : Bind → Span
bind_place (BindAt at what) = at

abbrev pub decl_place : Decl → Span
decl_place (DeclAt at what) = at

pub data IsDerived : SpanAt → Conclusion → Type 0 where
  type : {g : Env} {at : SpanAt} {t : Ty} {k : Kind} (p : TyEx) → OkEnv g → place at ≡ ty_span p → TyMeans g p t (kind_tree k) → IsDerived at (conclusion.Type t k)
  value : {g : Env} {at : SpanAt} {t : Ty} {e : Term} (p : Exp) → OkEnv g → place at ≡ exp_span p → ExpMeans g p t e → IsDerived at (conclusion.Value t)
  signature : {g : Env} {at : SpanAt} {x : Abs} (p : SigEx) → OkEnv g → place at ≡ sig_span p → SigMeans g p x → IsDerived at (conclusion.Signature x)
  declaration : {g : Env} {at : SpanAt} {x : Abs} (p : Decl) → OkEnv g → place at ≡ decl_place p → DeclMeans g p x → IsDerived at (conclusion.Signature x)
  module_ : {g : Env} {at : SpanAt} {f : Effect} {x : Abs} {ts : List Ty} {e : Term} (p : Mod) → OkEnv g → place at ≡ mod_span p → ModMeans g p (made f x ts e) → IsDerived at (conclusion.Module f x)
  binding : {g : Env} {at : SpanAt} {l : Name} {f : Effect} {x : Abs} {ts : List Ty} {e : Term} (p : Bind) → OkEnv g → place at ≡ bind_place p → BindMeans g p l (made f x ts e) → IsDerived at (conclusion.Binding l f x)
