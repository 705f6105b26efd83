-- What a derivation of subtyping or matching is made of, by the forms of the two sides.
-- Main results: sub-view, match-view, abs-view.
use Rattle.omega_terms.proofs.InstanceLaws.{packs-same}
use Rattle.std.specs.Prelude.{List, [], ◌∷◌, ◌≡◌}
use Rattle.std.proofs.Math.Path.{refl, ap}
use Rattle.omega_kinds.specs.Kind.{Kind}
use Rattle.omega_kinds.specs.declared.label.Label.{Label}
use Rattle.omega_kinds.specs.declared.effect.Effect.{Effect}
use Rattle.omega_kinds.specs.declared.effect.Effect.TheVariants.{Pure, Impure}
use Rattle.omega_kinds.specs.Name.{Name}
use Rattle.omega_types.specs.Ty.{Ty}
use Rattle.omega_types.specs.Binders.{extend, raise}
use Rattle.omega_terms.specs.Term.{Term, TermRow}
use Rattle.omega_terms.specs.Shorthands.{opens}
use Rattle.omega_terms.specs.Coercions.{same_part, meta_part, fields_part, functor_part, MatchPart, AbsPart}
use Rattle.sig_definitions.specs.Signatures.Sig.{Sig, Abs, SigRow, HasField, here, there}
use Rattle.sig_definitions.specs.Signatures.SigSubst.{raise_abs, sig_at, abs_at_under}
use Rattle.sig_definitions.specs.Signatures.Alike.{ConvSig, NormalSigForm, NormalAbsForm}
use Rattle.sig_definitions.specs.Signatures.Encoding.{enc, enc_abs}
use Rattle.sig_definitions.specs.Matching.Subtyping.{Sub, SubFields, SubResult, SubAbs, Match}
use Rattle.omega_types.proofs.BinderPuts.{NormalTypes, forms-types}
use Rattle.sig_laws.proofs.Algebra.Instances.{guess-form}

abbrev pub SubView : List Kind → Sig → Sig → Term → Type 0
SubView ctx (Sig.Val t) (Sig.Val u) f = (t ≡ u) × (f ≡ same_part (enc (Sig.Val t)))
SubView ctx (Sig.Typ t k) (Sig.Typ u j) f = (t ≡ u) × (k ≡ j) × (f ≡ same_part (enc (Sig.Typ t k)))
SubView ctx (Sig.Meta x) (Sig.Meta y) f = (g h : Term) × SubAbs ctx x y g × SubAbs ctx y x h × (f ≡ meta_part (enc (Sig.Meta x)) (enc_abs y))
SubView ctx (Sig.Str fs) (Sig.Str gs) f = (parts : TermRow) × SubFields ctx fs gs parts × (f ≡ fields_part (enc (Sig.Str fs)) parts)
SubView ctx (Sig.Fun e ks s x) (Sig.Fun d js t z) f = (ts : List Ty) × (g h : Term) × (y : Abs) × Match (extend ctx js) t (raise_abs js (Abs.Ex ks s)) ts g × NormalAbsForm (extend ctx js) (abs_at_under js ts x) y × SubResult (extend ctx js) e d y z h × (f ≡ functor_part (enc (Sig.Fun e ks s x)) e d js (enc t) ts g h)
SubView ctx _ _ f = ⊥

-- a derivation of subtyping, by the forms of the two sides
pub sub-view : {ctx : List Kind} {s r : Sig} {f : Term} → Sub ctx s r f → SubView ctx s r f
sub-view Sub.val = (refl, refl)
sub-view Sub.typ = (refl, refl, refl)
sub-view (Sub.meta {f = f} {g = g} a b) = (f, g, a, b, refl)
sub-view (Sub.str {parts = parts} a) = (parts, a, refl)
sub-view (Sub.fun {y = y} {ts = ts} {f = f} {g = g} m n r) = (ts, f, g, y, m, n, r, refl)

abbrev pub FieldsView : List Kind → SigRow → SigRow → TermRow → Type 0
FieldsView ctx fs SigRow.End parts = parts ≡ TermRow.End
FieldsView ctx fs (SigRow.More l t gs) parts = (s : Sig) × (f : Term) × (rest : TermRow) × HasField fs l s × Sub ctx s t f × SubFields ctx fs gs rest × (parts ≡ TermRow.More (Label.Name l) f rest)

-- a derivation of subtyping between fields, by the first field on the right
pub fields-view : {ctx : List Kind} {fs gs : SigRow} {parts : TermRow} → SubFields ctx fs gs parts → FieldsView ctx fs gs parts
fields-view SubFields.end = refl
fields-view (SubFields.more {s = s} {f = f} {parts = parts} h a rest) = (s, f, parts, h, a, rest, refl)

abbrev pub ResultView : List Kind → Effect → Effect → Abs → Abs → Term → Type 0
ResultView ctx e Impure x y g = SubAbs ctx x y g
ResultView ctx Pure Pure (Abs.Ex [] s) (Abs.Ex [] t) g = Sub ctx s t g
ResultView ctx _ _ x y g = ⊥

-- a derivation of subtyping between results of functors, by their effects
pub result-view : {ctx : List Kind} {e d : Effect} {x y : Abs} {g : Term} → SubResult ctx e d x y g → ResultView ctx e d x y g
result-view (SubResult.both_pure a) = a
result-view (SubResult.to_impure a) = a

abbrev pub AbsView : List Kind → Abs → Abs → Term → Type 0
AbsView ctx (Abs.Ex [] s) y g = (ts : List Ty) × (f : Term) × Match ctx s y ts f × MatchPart ctx (enc s) ts f (enc_abs y) g
AbsView ctx (Abs.Ex (k ∷ ks) s) y g = (ts : List Ty) × (f : Term) × Match (extend ctx (k ∷ ks)) s (raise_abs (k ∷ ks) y) ts f × AbsPart (extend ctx (k ∷ ks)) (enc_abs (Abs.Ex (k ∷ ks) s)) (k ∷ ks) ts f (raise (k ∷ ks) (enc_abs y)) g

-- a derivation of subtyping between signatures that hide types, by whether the left one hides any
pub abs-view : {ctx : List Kind} {x y : Abs} {g : Term} → SubAbs ctx x y g → AbsView ctx x y g
abs-view (SubAbs.plain {ts = ts} {f = f} m p) = (ts, f, m, p)
abs-view (SubAbs.hidden {ts = ts} {f = f} m p) = (ts, f, m, p)

-- the types of a match are normal, and stand for what was guessed
abbrev pub Matched : List Kind → Sig → List Kind → Sig → List Ty → Term → Type 0
Matched ctx s ks t ts f = (r : Sig) × NormalTypes ctx ts ks × NormalSigForm ctx (sig_at ts t) r × Sub ctx s r f

-- a match is types that are normal and of the right kinds, with the coercion to the body at them
pub match-view : {ctx ks : List Kind} {s t : Sig} {ts : List Ty} {f : Term} → ConvSig (extend ctx ks) t t → Match ctx s (Abs.Ex ks t) ts f → Matched ctx s ks t ts f
match-view c (Match.at {r = r} of forms n a) = (r, forms-types forms, guess-form forms c n, a)

-- a field of the right side stands on the left as well
pub fields-at : {ctx : List Kind} {fs gs : SigRow} {parts : TermRow} {l : Name} {t : Sig} → SubFields ctx fs gs parts → HasField gs l t → (s : Sig) × (f : Term) × HasField fs l s × Sub ctx s t f
fields-at SubFields.end h = elim h [ ]
fields-at (SubFields.more {s = s} {f = f} g a rest) here = (s, f, g, a)
fields-at (SubFields.more g a rest) (there n h) = fields-at rest h

-- the function of a match, and of a match of abstracted signatures, is the only one

-- a match gives at most one coercion that packs its types
pub match_part-unique : {ctx : List Kind} {from to : Ty} {ts : List Ty} {f g : Term} → MatchPart ctx from ts f to g → (h : Term) → MatchPart ctx from ts f to h → g ≡ h
match_part-unique {ctx} {from} {to} {ts} {f} (MatchPart.made {e = e} p) _ (MatchPart.made {e = d} q) = ap (Term.Lam from) (packs-same p q)

-- a match under opened types gives at most one coercion that opens them and packs its own
pub abs_part-unique : {inner ks : List Kind} {from to : Ty} {ts : List Ty} {f g : Term} → AbsPart inner from ks ts f to g → (h : Term) → AbsPart inner from ks ts f to h → g ≡ h
abs_part-unique {inner} {ks} {from} {to} {ts} {f} (AbsPart.made {e = e} p) _ (AbsPart.made {e = d} q) = ap (λ c. Term.Lam from (opens ks (Term.Var 0) from c)) (packs-same p q)
