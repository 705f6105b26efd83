-- Subtyping, form by form.
-- Main results: functor-same, fields-same, meta-same, abs-same, match-ok, match-no.
use Rattle.std.proofs.Common.{◌≡◌, ◌≢◌, ℕ, zero, suc, ◌+◌, ◌<◌, ◌≤◌, List, [], ◌∷◌, ◌++◌, length, get_or, take, drop, Option, Some, Ok, refl, sym, ap, ap₂, ◌∙◌, subst, arith}
use Rattle.std.proofs.Math.Seq.{drop-cons}
use Rattle.omega_kinds.specs.Kind.{Kind}
use Rattle.omega_kinds.specs.Name.{Name}
use Rattle.omega_kinds.specs.declared.label.Label.{Label}
use Rattle.omega_kinds.specs.declared.effect.Effect.{Effect}
use Rattle.omega_kinds.specs.declared.effect.Effect.TheVariants.{Pure, Impure}
use Rattle.omega_types.specs.Ty.{Ty}
use Rattle.omega_types.specs.Binders.{extend, past}
use Rattle.omega_types.proofs.BinderPuts.{forms-kinds, types-forms}
use Rattle.omega_terms.specs.Coercions.{same_part, meta_part, fields_part, functor_part, MatchPart, AbsPart}
use Rattle.omega_terms.specs.Fields.{term_row, TermPairs}
use Rattle.omega_terms.specs.Term.{Term}
use Rattle.sig_definitions.specs.Signatures.Alike.{AlikeAbs, NormalAbsForm, IsSigAt}
use Rattle.sig_definitions.specs.Signatures.Encoding.{enc, enc_abs}
use Rattle.sig_definitions.specs.Signatures.Sig.{Sig, Abs, SigRow, HasField, here}
use Rattle.sig_definitions.specs.Signatures.SigSize.{size, size_abs, size_row}
use Rattle.sig_definitions.specs.Signatures.SigSubst.{raise_abs, abs_at_under}
use Rattle.sig_definitions.specs.Explicit.SigPath.{Item}
use Rattle.sig_definitions.specs.Explicit.WellFormed.{WellFormed}
use Rattle.sig_definitions.specs.Matching.LookUp.{Looked}
use Rattle.sig_definitions.specs.Matching.MatchRefusal.{MatchRefusal, Why, Form, Effects, Types, Clash, clash, MayStandFor, RefusesMatch, RefusesSub, RefusesSubAbs, RefusesFields, RefusesResult}
use Rattle.sig_definitions.specs.Matching.Subtyping.{Sub, SubFields, SubResult, SubAbs, Match}
use Rattle.sig_laws.proofs.Algebra.Instances.{kinds-length}
use Rattle.sig_match_laws.specs.MatchClaims.{IsRightSig}
use Rattle.sig_match_laws.proofs.LookUp.Good.{good-at, good-meta, explicit-left, good-rest, good-right_field, good-param, good-left_result, good-right_param, good-right_result, good-pure, good-impure, good-body, good-raised}
use Rattle.sig_match_laws.proofs.OneMatch.Views.{match-view}
use Rattle.sig_laws.proofs.Formed.WellFormedLaws.{explicit-body}
use Rattle.sig_laws.proofs.Encoded.EncodingLaws.{enc_abs-normal, enc_abs-rename}
use Rattle.sig_laws.proofs.Algebra.SigAlgebra.{rename_abs-id}
use Rattle.sig_laws.proofs.Formed.Conditions.{match-kinds}
use Rattle.semantic_sigs.specs.Inner.Fields.{SigPairs, sig_row, Rises}
use Rattle.omega_types.specs.Fields.{MayFollow}
use Rattle.semantic_sigs.specs.Inner.View.{kinds_of, body_of}
use Rattle.sig_match.specs.Inner.Put.{AreNormal, MayPut, EachPut}
use Rattle.sig_match.specs.Inner.Coerced.{IsAbsCoercion}
use Rattle.omega_shorthands.specs.Inner.Packed.{Fills}
use Rattle.sig_match.specs.Inner.Refusals.{Gives, Holds, inside}
use Rattle.sig_match.specs.Inner.Outcomes.{ResultSides, ResultGives, ResultHolds}
use Rattle.sig_match.proofs.Given.{holds-given, holds-map, holds-within}
use Rattle.sig_laws.specs.Good.{OkSig, OkAbs, OkRight}

-- clashes

-- a clash that the code answers holds if it does in the context
pub clashed : (P : MatchRefusal → Type 0) (ctx : List Kind) (depth : ℕ) (why : Why) (o : Option MatchRefusal) → length ctx ≡ depth → o ≡ Some (Clash depth [] why) → P (clash ctx why) → Holds P o
clashed P ctx depth why o e g p = subst (Holds P) (sym (g ∙ ap (λ n. Some (Clash n [] why)) (sym e))) p

-- a clash that the code gives, or nothing, holds if it does in the context
pub clash-given : (P : MatchRefusal → Type 0) (ctx : List Kind) (depth : ℕ) (why : Why) (o : Option MatchRefusal) → length ctx ≡ depth → Gives (Some (Clash depth [] why)) o → P (clash ctx why) → Holds P o
clash-given P ctx depth why o e g p = holds-given P (Some (Clash depth [] why)) o g (subst (λ n. P (Clash n [] why)) e p)

-- a value against what is no value is refused as a clash of forms
pub value-form : (ctx : List Kind) (t : Ty) (r : Sig) → ((u : Ty) → r ≡ Sig.Val u → ⊥) → RefusesSub ctx (Sig.Val t) r (clash ctx Form)
value-form ctx t (Sig.Val u) h = absurd (h u refl)
value-form ctx t (Sig.Typ u k) h = RefusesSub.forms (λ e. cc)
value-form ctx t (Sig.Meta x) h = RefusesSub.forms (λ e. cc)
value-form ctx t (Sig.Str fs) h = RefusesSub.forms (λ e. cc)
value-form ctx t (Sig.Fun e ks s x) h = RefusesSub.forms (λ e. cc)

-- a type against what is no type is refused as a clash of forms
pub type-form : (ctx : List Kind) (t : Ty) (k : Kind) (r : Sig) → ((u : Ty) (j : Kind) → r ≡ Sig.Typ u j → ⊥) → RefusesSub ctx (Sig.Typ t k) r (clash ctx Form)
type-form ctx t k (Sig.Val u) h = RefusesSub.forms (λ e. cc)
type-form ctx t k (Sig.Typ u j) h = absurd (h u j refl)
type-form ctx t k (Sig.Meta x) h = RefusesSub.forms (λ e. cc)
type-form ctx t k (Sig.Str fs) h = RefusesSub.forms (λ e. cc)
type-form ctx t k (Sig.Fun e ks s x) h = RefusesSub.forms (λ e. cc)

-- a signature part against what is none is refused as a clash of forms
pub meta-form : (ctx : List Kind) (x : Abs) (r : Sig) → ((y : Abs) → r ≡ Sig.Meta y → ⊥) → RefusesSub ctx (Sig.Meta x) r (clash ctx Form)
meta-form ctx x (Sig.Val u) h = RefusesSub.forms (λ e. cc)
meta-form ctx x (Sig.Typ u j) h = RefusesSub.forms (λ e. cc)
meta-form ctx x (Sig.Meta y) h = absurd (h y refl)
meta-form ctx x (Sig.Str fs) h = RefusesSub.forms (λ e. cc)
meta-form ctx x (Sig.Fun e ks s y) h = RefusesSub.forms (λ e. cc)

-- a structure against what is none is refused as a clash of forms
pub fields-form : (ctx : List Kind) (fs : SigRow) (r : Sig) → ((gs : SigRow) → r ≡ Sig.Str gs → ⊥) → RefusesSub ctx (Sig.Str fs) r (clash ctx Form)
fields-form ctx fs (Sig.Val u) h = RefusesSub.forms (λ e. cc)
fields-form ctx fs (Sig.Typ u j) h = RefusesSub.forms (λ e. cc)
fields-form ctx fs (Sig.Meta y) h = RefusesSub.forms (λ e. cc)
fields-form ctx fs (Sig.Str gs) h = absurd (h gs refl)
fields-form ctx fs (Sig.Fun e ks s y) h = RefusesSub.forms (λ e. cc)

-- a functor against what is none is refused as a clash of forms
pub functor-form : (ctx : List Kind) (e : Effect) (ks : List Kind) (s : Sig) (x : Abs) (r : Sig) → ((d : Effect) (js : List Kind) (t : Sig) (z : Abs) → r ≡ Sig.Fun d js t z → ⊥) → RefusesSub ctx (Sig.Fun e ks s x) r (clash ctx Form)
functor-form ctx e ks s x (Sig.Val u) h = RefusesSub.forms (λ e. cc)
functor-form ctx e ks s x (Sig.Typ u j) h = RefusesSub.forms (λ e. cc)
functor-form ctx e ks s x (Sig.Meta y) h = RefusesSub.forms (λ e. cc)
functor-form ctx e ks s x (Sig.Str gs) h = RefusesSub.forms (λ e. cc)
functor-form ctx e ks s x (Sig.Fun d js t z) h = absurd (h d js t z refl)

-- values and types

-- values of one type are in order, by the identity
pub value-same : (ctx : List Kind) (t u : Ty) (r : Sig) (from : Ty) (f : Term) → from ≡ enc (Sig.Val t) → r ≡ Sig.Val u → t ≡ u → f ≡ same_part from → Sub ctx (Sig.Val t) r f
value-same ctx t u r from f ef er e eg = subst (λ z. Sub ctx (Sig.Val t) z f) (sym (er ∙ ap Sig.Val (sym e))) (subst (Sub ctx (Sig.Val t) (Sig.Val t)) (sym (eg ∙ ap same_part ef)) Sub.val)

-- values of different types are refused as a clash of these
pub value-differs : (ctx : List Kind) (t u : Ty) (r : Sig) → r ≡ Sig.Val u → t ≢ u → RefusesSub ctx (Sig.Val t) r (clash ctx (Types t u))
value-differs ctx t u r er n = subst (λ z. RefusesSub ctx (Sig.Val t) z (clash ctx (Types t u))) (sym er) (RefusesSub.values n)

-- types that are the same, of one kind, are in order, by the identity
pub type-same : (ctx : List Kind) (t u : Ty) (k j : Kind) (r : Sig) (from : Ty) (f : Term) → from ≡ enc (Sig.Typ t k) → r ≡ Sig.Typ u j → t ≡ u → k ≡ j → f ≡ same_part from → Sub ctx (Sig.Typ t k) r f
type-same ctx t u k j r from f ef er e g eg = subst (λ z. Sub ctx (Sig.Typ t k) z f) (sym (er ∙ ap₂ Sig.Typ (sym e) (sym g))) (subst (Sub ctx (Sig.Typ t k) (Sig.Typ t k)) (sym (eg ∙ ap same_part ef)) Sub.typ)

-- types that differ, or their kinds, are refused as a clash of these
pub type-differs : (ctx : List Kind) (t u : Ty) (k j : Kind) (r : Sig) → r ≡ Sig.Typ u j → ((t ≡ u) × (k ≡ j) → ⊥) → RefusesSub ctx (Sig.Typ t k) r (clash ctx (Types t u))
type-differs ctx t u k j r er n = subst (λ z. RefusesSub ctx (Sig.Typ t k) z (clash ctx (Types t u))) (sym er) (RefusesSub.types n)

-- signature parts

-- signature parts may be compared from left to right
pub meta-there : {ctx : List Kind} {x y : Abs} → OkSig ctx (Sig.Meta x) → IsRightSig ctx (Sig.Meta y) → OkAbs ctx x × OkRight ctx y
meta-there w v = (explicit-left (good-meta w), good-meta (v.0.0, v.1))

-- signature parts may be compared from right to left
pub meta-back : {ctx : List Kind} {x y : Abs} → OkSig ctx (Sig.Meta x) → IsRightSig ctx (Sig.Meta y) → OkAbs ctx y × OkRight ctx x
meta-back w v = (explicit-left (good-meta (v.0.0, v.1)), good-meta w)

-- signature parts are in order if both comparisons are
pub meta-same : (ctx : List Kind) (x y : Abs) (f g e : Term) (from to : Ty) → from ≡ enc (Sig.Meta x) → to ≡ enc_abs y → SubAbs ctx x y f → SubAbs ctx y x g → e ≡ meta_part from to → Sub ctx (Sig.Meta x) (Sig.Meta y) e
meta-same ctx x y f g e from to ef et a b ee = subst (Sub ctx (Sig.Meta x) (Sig.Meta y)) (sym (ee ∙ ap₂ meta_part ef et)) (Sub.meta a b)

-- fields

next-index : (i : ℕ) → i + 1 ≡ suc i
next-index i = omega arith

row-at : (xs : SigPairs) (i : ℕ) (x : Name × Sig) → i < length xs → x ≡ get_or xs i x → sig_row (drop i xs) ≡ SigRow.More x.0 x.1 (sig_row (drop (i + 1) xs))
row-at xs i x lt e = ap sig_row (drop-cons xs i x lt) ∙ ap₂ (λ y n. SigRow.More y.0 y.1 (sig_row (drop n xs))) (sym e) (sym (next-index i))

pub rest-right : {ctx : List Kind} (xs : SigPairs) (i : ℕ) → IsRightSig ctx (Sig.Str (sig_row xs)) → IsRightSig ctx (Sig.Str (sig_row (drop i xs)))
rest-right [] zero v = v
rest-right [] (suc i) v = v
rest-right (x ∷ xs) zero v = v
rest-right (x ∷ xs) (suc i) v = rest-right xs i (good-rest v)

-- each field of a right structure may stand on the right
pub item-right : {ctx : List Kind} (xs : SigPairs) (i : ℕ) (x : Name × Sig) → i < length xs → x ≡ get_or xs i x → IsRightSig ctx (Sig.Str (sig_row xs)) → IsRightSig ctx x.1
item-right {ctx} xs i x lt e v = good-right_field (subst (λ r. IsRightSig ctx (Sig.Str r)) (row-at xs i x lt e) (rest-right xs i v)) here

-- a field of a list is at most as large as all of them
pub item-size : (xs : SigPairs) (i : ℕ) (x : Name × Sig) → i < length xs → x ≡ get_or xs i x → size x.1 ≤ size_row (sig_row xs)
item-size [] i x lt e = absurd (omega (arith, lt))
item-size (y ∷ xs) zero x lt e = let s = ap (λ z. size z.1) e in omega (arith, s)
item-size (y ∷ xs) (suc i) x lt e = let s = item-size xs i x (omega (arith, lt)) e in omega (arith, s)

-- what a field comes to, for the fields from it on

-- a refusal of a field is one of the fields from it on
pub field-refused : (ctx : List Kind) (fs : SigRow) (xs : SigPairs) (i : ℕ) (x : Name × Sig) (o : Option MatchRefusal) → i < length xs → x ≡ get_or xs i x → ((gs : SigRow) → Holds (RefusesFields ctx fs (SigRow.More x.0 x.1 gs)) o) → Holds (RefusesFields ctx fs (sig_row (drop i xs))) o
field-refused ctx fs xs i x o lt e h = subst (λ r. Holds (RefusesFields ctx fs r) o) (sym (row-at xs i x lt e)) (h (sig_row (drop (i + 1) xs)))

-- fields are refused as those after a field that is in order
pub field-later : (ctx : List Kind) (fs : SigRow) (xs : SigPairs) (i : ℕ) (x : Name × Sig) (f : Term) (q : MatchRefusal) → i < length xs → x ≡ get_or xs i x → (s : Sig) × HasField fs x.0 s × Sub ctx s x.1 f → RefusesFields ctx fs (sig_row (drop (i + 1) xs)) q → RefusesFields ctx fs (sig_row (drop i xs)) q
field-later ctx fs xs i x f q lt e z r = subst (λ w. RefusesFields ctx fs w q) (sym (row-at xs i x lt e)) (RefusesFields.later z.1 z.2 r)

-- the coercions of the fields so far, under their names

-- for each right field the coercion of the left field of its name
pub data Parts (ctx : List Kind) (fs : SigRow) : SigPairs → TermPairs → Type 0 where
  none : Parts ctx fs [] []
  more : {x : Name × Sig} {xs : SigPairs} {ps : TermPairs} {s : Sig} {f : Term} → HasField fs x.0 s → Sub ctx s x.1 f → Parts ctx fs xs ps → Parts ctx fs (x ∷ xs) ((Label.Name x.0, f) ∷ ps)

parts-last : {ctx : List Kind} {fs : SigRow} {xs : SigPairs} {ps : TermPairs} {s : Sig} {f : Term} (x : Name × Sig) → HasField fs x.0 s → Sub ctx s x.1 f → Parts ctx fs xs ps → Parts ctx fs (xs ++ (x ∷ [])) (ps ++ ((Label.Name x.0, f) ∷ []))
parts-last x h d Parts.none = Parts.more h d Parts.none
parts-last x h d (Parts.more g e r) = Parts.more g e (parts-last x h d r)

pub parts-all : {ctx : List Kind} {fs : SigRow} {xs : SigPairs} {ps : TermPairs} → Parts ctx fs xs ps → SubFields ctx fs (sig_row xs) (term_row ps)
parts-all Parts.none = SubFields.end
parts-all (Parts.more h d r) = SubFields.more h d (parts-all r)

take-next : (xs : SigPairs) (i : ℕ) (x : Name × Sig) → i < length xs → x ≡ get_or xs i x → take i xs ++ (x ∷ []) ≡ take (suc i) xs
take-next [] i x lt e = absurd (omega (arith, lt))
take-next (y ∷ xs) zero x lt e = ap (λ z. z ∷ []) e
take-next (y ∷ xs) (suc i) x lt e = ap (◌∷◌ y) (take-next xs i x (omega (arith, lt)) e)

-- with one more field in order, there is one more coercion
pub parts-next : (ctx : List Kind) (fs : SigRow) (xs : SigPairs) (ps done : TermPairs) (i : ℕ) (x : Name × Sig) (l : Name) (f : Term) → i < length xs → x ≡ get_or xs i x → l ≡ x.0 → done ≡ ps ++ ((Label.Name l, f) ∷ []) → (s : Sig) × HasField fs x.0 s × Sub ctx s x.1 f → Parts ctx fs (take i xs) ps → Parts ctx fs (take (i + 1) xs) done
parts-next ctx fs xs ps done i x l f lt e el ed z r =
    subst (Parts ctx fs (take (i + 1) xs)) (sym (ed ∙ ap (λ m. ps ++ ((Label.Name m, f) ∷ [])) el)) (subst (λ ys. Parts ctx fs ys (ps ++ ((Label.Name x.0, f) ∷ []))) (take-next xs i x lt e ∙ ap (λ n. take n xs) (sym (next-index i))) (parts-last x z.1 z.2 r))

-- coercions have the names of the fields, one by one
pub data Labelled : SigPairs → TermPairs → Type 0 where
  none : Labelled [] []
  more : (x : Name × Sig) (f : Term) {xs : SigPairs} {ps : TermPairs} → Labelled xs ps → Labelled (x ∷ xs) ((Label.Name x.0, f) ∷ ps)

-- the empty list of coercions has the names of the empty list of fields
pub labelled-none : (xs : SigPairs) → Labelled (take 0 xs) []
labelled-none [] = Labelled.none
labelled-none (x ∷ xs) = Labelled.none

labelled-last : {xs : SigPairs} {ps : TermPairs} (x : Name × Sig) (f : Term) → Labelled xs ps → Labelled (xs ++ (x ∷ [])) (ps ++ ((Label.Name x.0, f) ∷ []))
labelled-last x f Labelled.none = Labelled.more x f Labelled.none
labelled-last x f (Labelled.more y g r) = Labelled.more y g (labelled-last x f r)

-- with one more coercion of a field's name, coercions are labelled by one more field
pub labelled-next : (xs : SigPairs) (ps done : TermPairs) (i : ℕ) (x : Name × Sig) (l : Name) (f : Term) → i < length xs → x ≡ get_or xs i x → l ≡ x.0 → done ≡ ps ++ ((Label.Name l, f) ∷ []) → Labelled (take i xs) ps → Labelled (take (i + 1) xs) done
labelled-next xs ps done i x l f lt e el ed r =
    subst (Labelled (take (i + 1) xs)) (sym (ed ∙ ap (λ m. ps ++ ((Label.Name m, f) ∷ [])) el)) (subst (λ ys. Labelled ys (ps ++ ((Label.Name x.0, f) ∷ []))) (take-next xs i x lt e ∙ ap (λ n. take n xs) (sym (next-index i))) (labelled-last x f r))

follows : (xs : SigPairs) (i : ℕ) (d : Name × Sig) (ps : TermPairs) → Labelled (take i xs) ps → i < length xs → Rises xs → MayFollow ps (Label.Name (get_or xs i d).0)
follows [] i d ps l lt r = absurd (omega (arith, lt))
follows (x ∷ xs) zero d _ Labelled.none lt r = tt
follows (x ∷ []) (suc i) d ps l lt r = absurd (omega (arith, lt))
follows (x ∷ y ∷ xs) (suc zero) d _ (Labelled.more z f Labelled.none) lt r = r.0
follows (x ∷ y ∷ xs) (suc (suc i)) d _ (Labelled.more z f (Labelled.more w g l)) lt r = follows (y ∷ xs) (suc i) d _ (Labelled.more w g l) (omega (arith, lt)) r.1

-- the next field's name may follow the labels of the coercions so far
pub label-follows : (xs : SigPairs) (i : ℕ) (x : Name × Sig) (l : Name) (ps : TermPairs) → i < length xs → x ≡ get_or xs i x → l ≡ x.0 → Rises xs → Labelled (take i xs) ps → MayFollow ps (Label.Name l)
label-follows xs i x l ps lt e el r done = subst (λ m. MayFollow ps (Label.Name m)) (sym (el ∙ ap (λ (y : Name × Sig). y.0) e)) (follows xs i x ps done lt r)

take-all : (xs : SigPairs) (i : ℕ) → length xs ≤ i → take i xs ≡ xs
take-all [] zero le = refl
take-all [] (suc i) le = refl
take-all (x ∷ xs) zero le = absurd (omega (arith, le))
take-all (x ∷ xs) (suc i) le = ap (◌∷◌ x) (take-all xs i (omega (arith, le)))

-- structures are in order by the coercions of all right fields
pub fields-same : (ctx : List Kind) (fs : SigRow) (xs : SigPairs) (ps : TermPairs) (i : ℕ) (from : Ty) (e : Term) → length xs ≤ i → from ≡ enc (Sig.Str fs) → e ≡ fields_part from (term_row ps) → Parts ctx fs (take i xs) ps → Sub ctx (Sig.Str fs) (Sig.Str (sig_row xs)) e
fields-same ctx fs xs ps i from e le ef ee r = subst (Sub ctx (Sig.Str fs) (Sig.Str (sig_row xs))) (sym (ee ∙ ap (λ u. fields_part u (term_row ps)) ef)) (Sub.str (parts-all (subst (λ ys. Parts ctx fs ys ps) (take-all xs i le) r)))

-- functors

-- the right parameter may be matched against the left one, raised
pub param-sides : {ctx ks js : List Kind} {e d : Effect} {s t : Sig} {x z : Abs} → OkSig ctx (Sig.Fun e ks s x) → IsRightSig ctx (Sig.Fun d js t z) → OkSig (extend ctx js) t × OkRight (extend ctx js) (raise_abs js (Abs.Ex ks s))
param-sides {js = js} w v = (good-right_param v, good-param js w)

-- which sides the results have
pub result_sides : {ctx ks js : List Kind} (e d : Effect) {s t : Sig} {x y z : Abs} {ts : List Ty} {f : Term} → ((e ≡ Impure) × (d ≡ Pure) → ⊥) → OkSig ctx (Sig.Fun e ks s x) → IsRightSig ctx (Sig.Fun d js t z) → Match (extend ctx js) t (raise_abs js (Abs.Ex ks s)) ts f → NormalAbsForm (extend ctx js) (abs_at_under js ts x) y → ResultSides (extend ctx js) d y z
result_sides {ctx} {ks} {js} e Impure h w v m n = (good-left_result ctx js w (match-kinds m) n, good-impure (good-right_result v))
result_sides Impure Pure h w v m n = absurd (h (refl, refl))
result_sides {ctx} {ks} {js} Pure Pure {s} {t} {x} {y} {z} {ts} h w v m n = go w.0 w v.0.0 v n
  where
    go : {x y z : Abs} → WellFormed ctx (Sig.Fun Pure ks s x) → OkSig ctx (Sig.Fun Pure ks s x) → WellFormed ctx (Sig.Fun Pure js t z) → IsRightSig ctx (Sig.Fun Pure js t z) → NormalAbsForm (extend ctx js) (abs_at_under js ts x) y → OkSig (extend ctx js) (body_of y) × IsRightSig (extend ctx js) (body_of z)
    go (WellFormed.pure a b) w (WellFormed.pure c q) v (AlikeAbs.ex n) = (good-body (good-left_result ctx js w (match-kinds m) (AlikeAbs.ex n)), good-pure (good-right_result v))

may : (e d : Effect) → ((e ≡ Impure) × (d ≡ Pure) → ⊥) → MayStandFor e d
may Impure Pure h = absurd (h (refl, refl))
may Impure Impure h = tt
may Pure d h = tt

result-ok : {ctx ks js : List Kind} (e d : Effect) {s t : Sig} {x y z : Abs} (ts : List Ty) {g : Term} → ((e ≡ Impure) × (d ≡ Pure) → ⊥) → OkSig ctx (Sig.Fun e ks s x) → IsRightSig ctx (Sig.Fun d js t z) → NormalAbsForm (extend ctx js) (abs_at_under js ts x) y → ResultGives (extend ctx js) d y z (Ok g) → SubResult (extend ctx js) e d y z g
result-ok e Impure ts h w v n k = SubResult.to_impure k
result-ok Impure Pure ts h w v n k = absurd (h (refl, refl))
result-ok {ctx} {ks} {js} Pure Pure {s} {t} {x} {y} {z} ts {g} h w v n k = go w.0 v.0.0 n k
  where
    go : {x y z : Abs} → WellFormed ctx (Sig.Fun Pure ks s x) → WellFormed ctx (Sig.Fun Pure js t z) → NormalAbsForm (extend ctx js) (abs_at_under js ts x) y → Sub (extend ctx js) (body_of y) (body_of z) g → SubResult (extend ctx js) Pure Pure y z g
    go (WellFormed.pure a b) (WellFormed.pure c q) (AlikeAbs.ex n) k = SubResult.both_pure k

result-no : {ctx ks js : List Kind} (e d : Effect) {s t : Sig} {x y z : Abs} (ts : List Ty) (o : Option MatchRefusal) → ((e ≡ Impure) × (d ≡ Pure) → ⊥) → OkSig ctx (Sig.Fun e ks s x) → IsRightSig ctx (Sig.Fun d js t z) → NormalAbsForm (extend ctx js) (abs_at_under js ts x) y → ResultHolds (extend ctx js) d y z o → Holds (RefusesResult (extend ctx js) e d y z) o
result-no e Impure ts o h w v n k = holds-map (RefusesSubAbs _ _ _) (RefusesResult _ e Impure _ _) o (λ q r. RefusesResult.to_impure r) k
result-no Impure Pure ts o h w v n k = absurd (h (refl, refl))
result-no {ctx} {ks} {js} Pure Pure {s} {t} {x} {y} {z} ts o h w v n k = go w.0 v.0.0 n k
  where
    go : {x y z : Abs} → WellFormed ctx (Sig.Fun Pure ks s x) → WellFormed ctx (Sig.Fun Pure js t z) → NormalAbsForm (extend ctx js) (abs_at_under js ts x) y → Holds (RefusesSub (extend ctx js) (body_of y) (body_of z)) o → Holds (RefusesResult (extend ctx js) Pure Pure y z) o
    go {z = Abs.Ex [] r} (WellFormed.pure a b) (WellFormed.pure c q) (AlikeAbs.ex {t = t} n) k = holds-map (RefusesSub (extend ctx js) t r) (RefusesResult (extend ctx js) Pure Pure (Abs.Ex [] t) (Abs.Ex [] r)) o (λ q r. RefusesResult.both_pure r) k
    go {z = Abs.Ex (j ∷ js) r} a c n k = elim c [ ]

-- an impure functor for a pure one is refused as a clash of effects
pub effects-clash : (ctx ks js : List Kind) (e d : Effect) (s t : Sig) (x z : Abs) → (e ≡ Impure) × (d ≡ Pure) → RefusesSub ctx (Sig.Fun e ks s x) (Sig.Fun d js t z) (clash ctx Effects)
effects-clash ctx ks js e d s t x z h = subst (λ a. RefusesSub ctx (Sig.Fun a ks s x) (Sig.Fun d js t z) (clash ctx Effects)) (sym h.0) (subst (λ a. RefusesSub ctx (Sig.Fun Impure ks s x) (Sig.Fun a js t z) (clash ctx Effects)) (sym h.1) RefusesSub.effects)

-- functors are refused, inside of the parameter, as the match of the parameters
pub param-no : (ctx ks js : List Kind) (e d : Effect) (s t : Sig) (x z : Abs) (o given : Option MatchRefusal) → ((e ≡ Impure) × (d ≡ Pure) → ⊥) → Gives (inside Item.Arg o) given → Holds (RefusesMatch (extend ctx js) t (raise_abs js (Abs.Ex ks s))) o → Holds (RefusesSub ctx (Sig.Fun e ks s x) (Sig.Fun d js t z)) given
param-no ctx ks js e d s t x z o given h g k = holds-within (RefusesMatch (extend ctx js) t (raise_abs js (Abs.Ex ks s))) (RefusesSub ctx (Sig.Fun e ks s x) (Sig.Fun d js t z)) Item.Arg o given g (λ q r. RefusesSub.params (may e d h) r) k

-- functors are refused, inside of the result, as the comparison of the results
pub outer-no : (ctx ks js : List Kind) (e d : Effect) (s t : Sig) (x y z : Abs) (ts : List Ty) (f : Term) (o given : Option MatchRefusal) → ((e ≡ Impure) × (d ≡ Pure) → ⊥) → OkSig ctx (Sig.Fun e ks s x) → IsRightSig ctx (Sig.Fun d js t z) → Match (extend ctx js) t (raise_abs js (Abs.Ex ks s)) ts f → NormalAbsForm (extend ctx js) (abs_at_under js ts x) y → Gives (inside Item.Res o) given → ResultHolds (extend ctx js) d y z o → Holds (RefusesSub ctx (Sig.Fun e ks s x) (Sig.Fun d js t z)) given
outer-no ctx ks js e d s t x y z ts f o given h w v m n g k =
    holds-within (RefusesResult (extend ctx js) e d y z) (RefusesSub ctx (Sig.Fun e ks s x) (Sig.Fun d js t z)) Item.Res o given g (λ q r. RefusesSub.results (may e d h) m n r) (result-no e d ts o h w v n k)

-- functors are in order by the match of the parameters and the coercion of the results
pub functor-same : (ctx ks js : List Kind) (e d : Effect) (s t : Sig) (x y z : Abs) (ts : List Ty) (f g : Term) (from : Ty) (c : Term) → ((e ≡ Impure) × (d ≡ Pure) → ⊥) → OkSig ctx (Sig.Fun e ks s x) → IsRightSig ctx (Sig.Fun d js t z) → Match (extend ctx js) t (raise_abs js (Abs.Ex ks s)) ts f → NormalAbsForm (extend ctx js) (abs_at_under js ts x) y → ResultGives (extend ctx js) d y z (Ok g) → from ≡ enc (Sig.Fun e ks s x) → c ≡ functor_part from e d js (enc t) ts f g → Sub ctx (Sig.Fun e ks s x) (Sig.Fun d js t z) c
functor-same ctx ks js e d s t x y z ts f g from c h w v m n k ef ec =
    subst (Sub ctx (Sig.Fun e ks s x) (Sig.Fun d js t z)) (sym (ec ∙ ap (λ u. functor_part u e d js (enc t) ts f g) ef)) (Sub.fun m n (result-ok e d ts h w v n k))

-- signatures that may hide types

pub encoded-fills : {ctx : List Kind} {s : Sig} (y : Abs) {ts : List Ty} {f : Term} → OkRight ctx y → Match ctx s y ts f → Fills ctx ts (enc_abs y)
encoded-fills (Abs.Ex ks r) v m = (ks, enc r, refl, enc_abs-normal v.0 v.1, types-forms (match-view (explicit-body v.0) m).1)

-- the bodies of signatures that hide types may be matched under the left types
pub abs-under : {ctx : List Kind} (x y : Abs) → OkAbs ctx x → OkRight ctx y → OkSig (extend ctx (kinds_of x)) (body_of x) × OkRight (extend ctx (kinds_of x)) (raise_abs (kinds_of x) y)
abs-under (Abs.Ex ks s) y w v = (good-body w, good-raised ks v)

-- signatures that hide types are in order by the match under the left types, which opens these and packs the right ones
pub abs-same : (ctx : List Kind) (x y : Abs) (ts : List Ty) (f c : Term) → OkRight ctx y → OkRight (extend ctx (kinds_of x)) (raise_abs (kinds_of x) y) → Match (extend ctx (kinds_of x)) (body_of x) (raise_abs (kinds_of x) y) ts f → IsAbsCoercion x ts f (enc_abs (raise_abs (kinds_of x) y)) c → SubAbs ctx x y c
abs-same ctx (Abs.Ex [] s) y ts f c v u m k =
    let e : raise_abs [] y ≡ y = rename_abs-id y in
    let n = subst (λ z. Match ctx s z ts f) e m in
    SubAbs.plain n (subst (λ z. MatchPart ctx (enc s) ts f (enc_abs z) c) e (k ctx (encoded-fills (raise_abs [] y) u m)))
abs-same ctx (Abs.Ex (j ∷ ks) s) y ts f c v u m k =
    SubAbs.hidden m (subst (λ t. AbsPart (extend ctx (j ∷ ks)) (enc_abs (Abs.Ex (j ∷ ks) s)) (j ∷ ks) ts f t c) (enc_abs-rename (past (j ∷ ks)) y) (k (extend ctx (j ∷ ks)) (encoded-fills (raise_abs (j ∷ ks) y) u m)))

-- signatures that hide types are refused as the match under the left types
pub abs-no : (ctx : List Kind) (x y : Abs) (o : Option MatchRefusal) → Holds (RefusesMatch (extend ctx (kinds_of x)) (body_of x) (raise_abs (kinds_of x) y)) o → Holds (RefusesSubAbs ctx x y) o
abs-no ctx (Abs.Ex [] s) y o h = holds-map (RefusesMatch ctx s (raise_abs [] y)) (RefusesSubAbs ctx (Abs.Ex [] s) y) o (λ q r. RefusesSubAbs.plain (subst (λ z. RefusesMatch ctx s z q) (rename_abs-id y) r)) h
abs-no ctx (Abs.Ex (k ∷ ks) s) y o h = holds-map (RefusesMatch (extend ctx (k ∷ ks)) s (raise_abs (k ∷ ks) y)) (RefusesSubAbs ctx (Abs.Ex (k ∷ ks) s) y) o (λ q r. RefusesSubAbs.hidden r) h

-- matching, when all types are found

-- normal types of the right side's kinds may be put in for its hidden types
pub match-put : (depth : ℕ) (s : Sig) (x : Abs) {ctx : List Kind} {ts : List Ty} → OkRight ctx x → AreNormal ctx ts (kinds_of x) → MayPut (kinds_of x) (body_of x) ts
match-put depth s (Abs.Ex ks r) {ctx} v a = (ctx, v.1, a)

-- what the code puts in is the right side's body at the types
pub match-at : (ctx : List Kind) (x : Abs) (ts : List Ty) (n : Sig) → OkRight ctx x → AreNormal ctx ts (kinds_of x) → EachPut (kinds_of x) (body_of x) ts n → IsSigAt ctx (body_of x) ts n
match-at ctx (Abs.Ex ks r) ts n v a k = k ctx v.1 a

-- the right side's body at normal types may stand on the right
pub match-right : (ctx : List Kind) (x : Abs) (ts : List Ty) (n : Sig) → OkRight ctx x → AreNormal ctx ts (kinds_of x) → IsSigAt ctx (body_of x) ts n → IsRightSig ctx n
match-right ctx (Abs.Ex ks r) ts n v a f = good-at v (forms-kinds a) f

-- a match is types of the right kinds with the coercion to the body at them
pub match-ok : (ctx : List Kind) (s : Sig) (x : Abs) (ts : List Ty) (n : Sig) (f : Term) → AreNormal ctx ts (kinds_of x) → IsSigAt ctx (body_of x) ts n → Sub ctx s n f → Match ctx s x ts f
match-ok ctx s (Abs.Ex ks r) ts n f a e d = Match.at (forms-kinds a) a e d

-- matching is refused as the comparison with the body at the types that were looked up
pub match-no : (ctx : List Kind) (s : Sig) (x : Abs) (ts : List Ty) (n : Sig) (o : Option MatchRefusal) → Looked ctx s (kinds_of x) (body_of x) ts → AreNormal ctx ts (kinds_of x) → IsSigAt ctx (body_of x) ts n → Holds (RefusesSub ctx s n) o → Holds (RefusesMatch ctx s x) o
match-no ctx s (Abs.Ex ks r) ts n o l a e h = holds-map (RefusesSub ctx s n) (RefusesMatch ctx s (Abs.Ex ks r)) o (λ q d. RefusesMatch.inside l (kinds-length (forms-kinds a)) e d) h

-- a signature that hides types is larger by one than its body
pub abs-size : (x : Abs) → size_abs x ≡ suc (size (body_of x))
abs-size (Abs.Ex ks r) = refl
