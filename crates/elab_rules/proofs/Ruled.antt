-- The rules of modules, as the code calls them.
-- Main results: match-forms, apply-forms, placed-clash.
use Rattle.std.proofs.Common.{◌≡◌, ℕ, List, Some, refl, subst, ap}
use Rattle.omega_kinds.specs.Kind.{Kind}
use Rattle.omega_kinds.specs.Name.{Name}
use Rattle.omega_kinds.specs.declared.effect.Effect.{Effect}
use Rattle.omega_types.specs.Binders.{NormalForms}
use Rattle.omega_types.proofs.BinderPuts.{forms-normal}
use Rattle.omega_types.specs.Ty.{Ty}
use Rattle.omega_terms.specs.Term.{Term}
use Rattle.sig_definitions.specs.Env.{Env, find}
use Rattle.sig_definitions.specs.Explicit.SigPath.{SigPath}
use Rattle.sig_definitions.specs.Matching.MatchRefusal.{MatchRefusal}
use Rattle.sig_definitions.specs.Matching.Subtyping.{Match}
use Rattle.sig_definitions.specs.Signatures.Sig.{made, Sig, SigRow, Abs}
use Rattle.semantic_sigs.specs.Inner.View.{body_of, kinds_of}
use Rattle.semantic_sigs.specs.declared.made.Why.{Why as CodeWhy}
use Rattle.semantic_sigs.specs.declared.made.Why.TheVariants as clash
use Rattle.sig_match.specs.Inner.Refusals.{plain_why}
use Rattle.module_judgments.specs.ModRules.{FunctorRefuses, IncludeRefuses, NamedGives, PartsGive}
use Rattle.module_judgments.specs.ModWhy.{ModWhy}
use Rattle.refusal_reasons.specs.Refusal.{ElabWhy, Refuse}
use Rattle.fing_syntax.specs.Inner.Leaves.{place}
use Rattle.fing_text.specs.declared.span.Span.{Span as SpanAt}
use Rattle.fing_refusals.specs.Inner.Plain.{plain_clash}
use Rattle.fing_refusals.specs.declared.refusal.ElabWhy.TheVariants as reason
use Rattle.elab_rules.specs.Inner.Modules.{MatchPlaced}

-- a name that gives a module is found with the body of its signature and its term
pub named-found : {g : Env} {l : Name} {f : Effect} {y : Abs} {ts : List Ty} {d : Term} → NamedGives g l (made f y ts d) → find g l ≡ Some (body_of y, d)
named-found (NamedGives.named p) = p

-- applications

-- the types that a match finds are normal and have the kinds of the right side
pub match-forms : {ctx : List Kind} {s : Sig} {y : Abs} {ts : List Ty} {c : Term} → Match ctx s y ts c → NormalForms ctx ts (kinds_of y) ts
match-forms (Match.at g n r f) = forms-normal n

param-kinds : {s : Sig} {f h : Effect} {ks : List Kind} {t : Sig} {param result y : Abs} → PartsGive s f param result → s ≡ Sig.Fun h ks t y → kinds_of param ≡ ks
param-kinds PartsGive.parts e = cc

-- the types at which a functor is applied are normal and have the kinds of its parameter
pub apply-forms : {ctx : List Kind} {s left : Sig} {f : Effect} {param result : Abs} {ts : List Ty} {c : Term} → PartsGive s f param result → Match ctx left param ts c
    → (h : Effect) (ks : List Kind) (t : Sig) (y : Abs) → s ≡ Sig.Fun h ks t y → NormalForms ctx ts ks ts
apply-forms {ctx} {ts = ts} p m h ks t y e = subst (λ ks. NormalForms ctx ts ks ts) (param-kinds p e) (match-forms m)

-- a signature that has the parts of a functor is not refused as a functor
pub parts-functor : {s : Sig} {f : Effect} {param result : Abs} → PartsGive s f param result → (why : ModWhy) → FunctorRefuses s why → ⊥
parts-functor PartsGive.parts why (FunctorRefuses.no_functor h) = h _ _ _ _ refl

-- what is included

-- a module that is a structure is not refused by the rule of includes
pub is-structure : (f : Effect) (x : Abs) (ts : List Ty) (e : Term) (fs : SigRow) → body_of x ≡ Sig.Str fs → (why : ModWhy) → IncludeRefuses (made f x ts e) why → ⊥
is-structure f (Abs.Ex ks s) ts e fs is why (IncludeRefuses.no_structure h) = h fs is

-- a clash

same-clash : (w : CodeWhy) → plain_clash w ≡ plain_why w
same-clash clash.Form = refl
same-clash clash.Missing = refl
same-clash clash.Effect = refl
same-clash (clash.Types t u) = refl

-- a clash of matching, placed in the environment, is the code's refusal with the same path and reason
pub placed-clash : {g : Env} (at : SpanAt) (n : ℕ) (p : SigPath) (w : CodeWhy) → MatchPlaced g (place at) (Some (MatchRefusal.Clash n p (plain_why w))) (record { at = at; types = n; why = reason.Clash p w })
placed-clash at n p w = record { stands = (MatchRefusal.Clash n p (plain_why w), refl, ap (λ v. Refuse (place at) n (ElabWhy.Clash p v)) (same-clash w)) }
