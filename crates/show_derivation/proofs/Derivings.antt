-- What is derived, in the terms in which the code has it: of a phrase p at a place, with what it is.
use Rattle.std.proofs.Common.{◌≡◌, List, ap}
use Rattle.omega_kinds.specs.Name.{Name}
use Rattle.omega_kinds.specs.View.{kind_tree}
use Rattle.omega_kinds.specs.declared.effect.Effect.{Effect}
use Rattle.omega_kinds.specs.declared.kind.Kind.{Kind}
use Rattle.omega_types.specs.Ty.{Ty}
use Rattle.omega_terms.specs.Term.{Term}
use Rattle.sig_definitions.specs.Env.{Env}
use Rattle.sig_definitions.specs.Signatures.Sig.{Abs, made}
use Rattle.sig_laws.specs.Good.{OkEnv}
use Rattle.fing_syntax.specs.Inner.View.{bind_of, decl_of, exp_of, mod_of, sig_of, ty_of}
use Rattle.fing_syntax.specs.declared.tree.BindWhat.{BindWhat}
use Rattle.fing_syntax.specs.declared.tree.DeclWhat.{DeclWhat}
use Rattle.fing_syntax.specs.declared.tree.ExpWhat.{ExpWhat}
use Rattle.fing_syntax.specs.declared.tree.ModWhat.{ModWhat}
use Rattle.fing_syntax.specs.declared.tree.SigWhat.{SigWhat}
use Rattle.fing_syntax.specs.declared.tree.TyWhat.{TyWhat}
use Rattle.fing_syntax.specs.Phrase.{Bind, Decl, Exp, Mod, SigEx, TyEx}
use Rattle.fing_syntax.specs.Place.{exp_span, mod_span, sig_span, ty_span}
use Rattle.fing_text.specs.declared.span.Span.{Span as SpanAt}
use Rattle.show_paper.specs.declared.conclusions.Conclusion.TheVariants as conclusion
use Rattle.elab_judgments.specs.Judgments.Meaning.{TyMeans, ExpMeans, SigMeans, DeclMeans, ModMeans, BindMeans}
use Rattle.show_derivation.specs.Inner.Derived.{IsDerived, bind_place, decl_place}

pub derived-type : {g : Env} {at : SpanAt} (w : TyWhat) {p : TyEx} {t : Ty} {k : Kind} → ty_of at w ≡ p → OkEnv g → TyMeans g p t (kind_tree k) → ∥ IsDerived at (conclusion.Type t k) ∥₁
derived-type w {p = p} v o m = ∣ IsDerived.type p o (ap ty_span v) m ∣₁

pub derived-value : {g : Env} {at : SpanAt} (w : ExpWhat) {p : Exp} {t : Ty} {e : Term} → exp_of at w ≡ p → OkEnv g → ExpMeans g p t e → ∥ IsDerived at (conclusion.Value t) ∥₁
derived-value w {p = p} v o m = ∣ IsDerived.value p o (ap exp_span v) m ∣₁

pub derived-signature : {g : Env} {at : SpanAt} (w : SigWhat) {p : SigEx} {x : Abs} → sig_of at w ≡ p → OkEnv g → SigMeans g p x → ∥ IsDerived at (conclusion.Signature x) ∥₁
derived-signature w {p = p} v o m = ∣ IsDerived.signature p o (ap sig_span v) m ∣₁

pub derived-declaration : {g : Env} {at : SpanAt} (w : DeclWhat) {p : Decl} {x : Abs} → decl_of at w ≡ p → OkEnv g → DeclMeans g p x → ∥ IsDerived at (conclusion.Signature x) ∥₁
derived-declaration w {p = p} v o m = ∣ IsDerived.declaration p o (ap decl_place v) m ∣₁

pub derived-module : {g : Env} {at : SpanAt} (w : ModWhat) {p : Mod} {f : Effect} {x : Abs} {ts : List Ty} {e : Term} → mod_of at w ≡ p → OkEnv g → ModMeans g p (made f x ts e) → ∥ IsDerived at (conclusion.Module f x) ∥₁
derived-module w {p = p} v o m = ∣ IsDerived.module_ p o (ap mod_span v) m ∣₁

pub derived-binding : {g : Env} {at : SpanAt} (w : BindWhat) {p : Bind} {l : Name} {f : Effect} {x : Abs} {ts : List Ty} {e : Term} → bind_of at w ≡ p → OkEnv g → BindMeans g p l (made f x ts e) → ∥ IsDerived at (conclusion.Binding l f x) ∥₁
derived-binding w {p = p} v o m = ∣ IsDerived.binding p o (ap bind_place v) m ∣₁

pub ruleset derived = (derived-type, derived-value, derived-signature, derived-declaration, derived-module, derived-binding)
