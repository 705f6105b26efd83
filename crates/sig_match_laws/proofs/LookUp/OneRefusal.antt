-- At most one refusal.
-- Main results: sub-refusal, abs-one, match-one.
use Rattle.std.specs.Prelude.{◌<◌, List, [], ◌∷◌, ◌≡◌, ◌≢◌, ◌⊎◌, length}
use Rattle.std.proofs.Math.Logic.{inl, inr}
use Rattle.std.proofs.Math.Path.{refl, sym, ◌∙◌, ap, ap₂, subst}
use Rattle.omega_kinds.specs.Kind.{Kind}
use Rattle.omega_kinds.specs.declared.effect.Effect.{Effect}
use Rattle.omega_kinds.specs.declared.effect.Effect.TheVariants.{Pure, Impure}
use Rattle.omega_kinds.specs.Name.{Name}
use Rattle.omega_types.specs.Ty.{Ty}
use Rattle.omega_types.specs.Binders.{extend}
use Rattle.omega_terms.specs.Term.{Term}
use Rattle.sig_definitions.specs.Signatures.Sig.{Sig, Abs, SigRow, HasField, NoField, here}
use Rattle.sig_definitions.specs.Signatures.SigSubst.{raise_abs, sig_at, abs_at_under}
use Rattle.sig_definitions.specs.Signatures.Alike.{NormalSigForm, NormalAbsForm}
use Rattle.sig_definitions.specs.Explicit.SigPath.{SigPath, Item}
use Rattle.sig_definitions.specs.Explicit.RootPath.{LeastRoot}
use Rattle.sig_definitions.specs.Matching.Subtyping.{Sub, SubAbs, Match}
use Rattle.sig_laws.proofs.Algebra.AlikeLaws.{form_sig-unique, form_abs-unique}
use Rattle.sig_definitions.specs.Matching.LookUp.{FoundAt, Looked}
use Rattle.sig_definitions.specs.Matching.MatchRefusal.{Form, Missing, Effects, Types, MatchRefusal, NoRoot, within, clash, form, MayStandFor, RefusesMatch, RefusesSub, RefusesFields, RefusesResult, RefusesSubAbs}
use Rattle.sig_laws.proofs.Formed.Conditions.{match-kinds}
use Rattle.sig_match_laws.proofs.OneMatch.Unique.{match-unique}
use Rattle.sig_match_laws.proofs.LookUp.Good.{GoodResult, good-param, good-left_result, good-right_param, good-right_result, good-pure, good-impure, good-body, good-at, good-raised, good-left_field, good-right_field, good-meta, good-rest, explicit-left}
use Rattle.sig_match_laws.proofs.LookUp.FoundKinds.{looked-normal}
use Rattle.sig_match_laws.proofs.LookUp.Refused.{looked-full, looked-same, looked-stops, sub-excluded, abs-excluded, match-excluded}
use Rattle.omega_types.proofs.BinderPuts.{types-kinds}
use Rattle.sig_laws.proofs.Algebra.PathLaws.{one-field, no-field}
use Rattle.sig_laws.proofs.Algebra.Paths.{one_least}
use Rattle.sig_laws.specs.Good.{OkSig, OkAbs, OkRight}
use Rattle.sig_match_laws.specs.MatchClaims.{IsRightSig}

-- what a refusal is, by the forms of the two sides

abbrev pub FunctorView : List Kind → (e d : Effect) (ks js : List Kind) (s t : Sig) (x z : Abs) → MatchRefusal → Type 0
FunctorView ctx e d ks js s t x z q =
    ((MayStandFor e d → ⊥) × (q ≡ clash ctx Effects)) ⊎
    (((r : MatchRefusal) × (q ≡ within Item.Arg r) × MayStandFor e d × RefusesMatch (extend ctx js) t (raise_abs js (Abs.Ex ks s)) r) ⊎
    ((r : MatchRefusal) × (q ≡ within Item.Res r) × MayStandFor e d × (ts : List Ty) × (f : Term) × (y : Abs) × Match (extend ctx js) t (raise_abs js (Abs.Ex ks s)) ts f × NormalAbsForm (extend ctx js) (abs_at_under js ts x) y × RefusesResult (extend ctx js) e d y z r))

abbrev pub RefusalView : List Kind → Sig → Sig → MatchRefusal → Type 0
RefusalView ctx (Sig.Val t) (Sig.Val u) q = q ≡ clash ctx (Types t u)
RefusalView ctx (Sig.Typ t k) (Sig.Typ u j) q = q ≡ clash ctx (Types t u)
RefusalView ctx (Sig.Meta x) (Sig.Meta y) q = (r : MatchRefusal) × (q ≡ within Item.Meta r) × (RefusesSubAbs ctx x y r ⊎ ((f : Term) × SubAbs ctx x y f × RefusesSubAbs ctx y x r))
RefusalView ctx (Sig.Str fs) (Sig.Str gs) q = RefusesFields ctx fs gs q
RefusalView ctx (Sig.Fun e ks s x) (Sig.Fun d js t z) q = FunctorView ctx e d ks js s t x z q
RefusalView ctx _ _ q = q ≡ clash ctx Form

other-forms : (ctx : List Kind) (s r : Sig) → form s ≢ form r → RefusalView ctx s r (clash ctx Form)
other-forms ctx (Sig.Val t) (Sig.Val u) n = absurd (n refl)
other-forms ctx (Sig.Typ t k) (Sig.Typ u j) n = absurd (n refl)
other-forms ctx (Sig.Meta x) (Sig.Meta y) n = absurd (n refl)
other-forms ctx (Sig.Str fs) (Sig.Str gs) n = absurd (n refl)
other-forms ctx (Sig.Fun e ks s x) (Sig.Fun d js t z) n = absurd (n refl)
other-forms ctx _ _ n = refl

only-forms : (ctx : List Kind) (s r : Sig) (q : MatchRefusal) → form s ≢ form r → RefusalView ctx s r q → q ≡ clash ctx Form
only-forms ctx (Sig.Val t) (Sig.Val u) q n v = absurd (n refl)
only-forms ctx (Sig.Typ t k) (Sig.Typ u j) q n v = absurd (n refl)
only-forms ctx (Sig.Meta x) (Sig.Meta y) q n v = absurd (n refl)
only-forms ctx (Sig.Str fs) (Sig.Str gs) q n v = absurd (n refl)
only-forms ctx (Sig.Fun e ks s x) (Sig.Fun d js t z) q n v = absurd (n refl)
only-forms ctx _ _ q n v = v

pub refusal-view : {ctx : List Kind} {s r : Sig} {q : MatchRefusal} → RefusesSub ctx s r q → RefusalView ctx s r q
refusal-view (RefusesSub.forms {ctx = ctx} {s = s} {t = r} n) = other-forms ctx s r n
refusal-view (RefusesSub.values n) = refl
refusal-view (RefusesSub.types n) = refl
refusal-view (RefusesSub.meta_first {refusal = r} a) = (r, refl, inl a)
refusal-view (RefusesSub.meta_second {f = f} {refusal = r} b a) = (r, refl, inr (f, b, a))
refusal-view (RefusesSub.structures a) = a
refusal-view RefusesSub.effects = inl (λ a. a, refl)
refusal-view (RefusesSub.params {refusal = r} a m) = inr (inl (r, refl, a, m))
refusal-view (RefusesSub.results {y = y} {ts = ts} {f = f} {refusal = r} a m n h) = inr (inr (r, refl, a, ts, f, y, m, n, h))

abbrev FieldsRefusal : List Kind → SigRow → SigRow → MatchRefusal → Type 0
FieldsRefusal ctx fs SigRow.End q = ⊥
FieldsRefusal ctx fs (SigRow.More l t gs) q =
    (NoField l fs × (q ≡ within (Item.Part l) (clash ctx Missing))) ⊎
    (((s : Sig) × (r : MatchRefusal) × HasField fs l s × RefusesSub ctx s t r × (q ≡ within (Item.Part l) r)) ⊎
    ((s : Sig) × (f : Term) × HasField fs l s × Sub ctx s t f × RefusesFields ctx fs gs q))

fields-refusal : {ctx : List Kind} {fs gs : SigRow} {q : MatchRefusal} → RefusesFields ctx fs gs q → FieldsRefusal ctx fs gs q
fields-refusal (RefusesFields.missing n) = inl (n, refl)
fields-refusal (RefusesFields.at_field {s = s} {refusal = r} h a) = inr (inl (s, r, h, a, refl))
fields-refusal (RefusesFields.later {s = s} {f = f} h a r) = inr (inr (s, f, h, a, r))

abbrev ResultRefusal : List Kind → Effect → Effect → Abs → Abs → MatchRefusal → Type 0
ResultRefusal ctx e Impure x y q = RefusesSubAbs ctx x y q
ResultRefusal ctx Pure Pure (Abs.Ex [] s) (Abs.Ex [] t) q = RefusesSub ctx s t q
ResultRefusal ctx _ _ x y q = ⊥

result-refusal : {ctx : List Kind} {e d : Effect} {x y : Abs} {q : MatchRefusal} → RefusesResult ctx e d x y q → ResultRefusal ctx e d x y q
result-refusal (RefusesResult.both_pure a) = a
result-refusal (RefusesResult.to_impure a) = a

abbrev AbsRefusal : List Kind → Abs → Abs → MatchRefusal → Type 0
AbsRefusal ctx (Abs.Ex [] s) y q = RefusesMatch ctx s y q
AbsRefusal ctx (Abs.Ex (k ∷ ks) s) y q = RefusesMatch (extend ctx (k ∷ ks)) s (raise_abs (k ∷ ks) y) q

abs-refusal : {ctx : List Kind} {x y : Abs} {q : MatchRefusal} → RefusesSubAbs ctx x y q → AbsRefusal ctx x y q
abs-refusal (RefusesSubAbs.plain r) = r
abs-refusal (RefusesSubAbs.hidden r) = r

data MatchView (ctx : List Kind) (s : Sig) (ks : List Kind) (r : Sig) (q : MatchRefusal) : Type 0 where
  stopped : {ts : List Ty} {p : SigPath} → Looked ctx s ks r ts → length ts < length ks → LeastRoot ctx ks r (length ts) p → ((t : Ty) → FoundAt ctx s ks r ts t → ⊥) → q ≡ NoRoot (length ts) p → MatchView ctx s ks r q
  whole : {ts : List Ty} {n : Sig} → Looked ctx s ks r ts → length ts ≡ length ks → NormalSigForm ctx (sig_at ts r) n → RefusesSub ctx s n q → MatchView ctx s ks r q

match-refusal : {ctx ks : List Kind} {s r : Sig} {q : MatchRefusal} → RefusesMatch ctx s (Abs.Ex ks r) q → MatchView ctx s ks r q
match-refusal (RefusesMatch.no_root l lt root stop) = stopped l lt root stop refl
match-refusal (RefusesMatch.inside l e n d) = whole l e n d

-- one refusal, from what the parts have

meta_first-by : {ctx : List Kind} {x y : Abs} {p : MatchRefusal} → ((r : MatchRefusal) → RefusesSubAbs ctx x y r → p ≡ r) → ((f : Term) → SubAbs ctx x y f → ⊥) → (r : MatchRefusal) → RefusesSubAbs ctx x y r ⊎ ((f : Term) × SubAbs ctx x y f × RefusesSubAbs ctx y x r) → p ≡ r
meta_first-by one none r (inl b) = one r b
meta_first-by one none r (inr c) = absurd (none c.0 c.1)

meta_second-by : {ctx : List Kind} {x y : Abs} {p : MatchRefusal} → ((r : MatchRefusal) → RefusesSubAbs ctx y x r → p ≡ r) → ((r : MatchRefusal) → RefusesSubAbs ctx x y r → ⊥) → (r : MatchRefusal) → RefusesSubAbs ctx x y r ⊎ ((f : Term) × SubAbs ctx x y f × RefusesSubAbs ctx y x r) → p ≡ r
meta_second-by one none r (inl b) = absurd (none r b)
meta_second-by one none r (inr c) = one r c.2

effects-by : (ctx ks js : List Kind) (s t : Sig) (x z : Abs) {q : MatchRefusal} → FunctorView ctx Impure Pure ks js s t x z q → clash ctx Effects ≡ q
effects-by ctx ks js s t x z (inl v) = sym v.1
effects-by ctx ks js s t x z (inr (inl v)) = absurd v.2
effects-by ctx ks js s t x z (inr (inr v)) = absurd v.2

params-by : (ctx ks js : List Kind) {e d : Effect} (s t : Sig) (x z : Abs) {p q : MatchRefusal} → MayStandFor e d
    → ((r : MatchRefusal) → RefusesMatch (extend ctx js) t (raise_abs js (Abs.Ex ks s)) r → p ≡ r)
    → ((ts : List Ty) (f : Term) → Match (extend ctx js) t (raise_abs js (Abs.Ex ks s)) ts f → ⊥)
    → FunctorView ctx e d ks js s t x z q → within Item.Arg p ≡ q
params-by ctx ks js s t x z a one none (inl v) = absurd (v.0 a)
params-by ctx ks js s t x z a one none (inr (inl v)) = ap (within Item.Arg) (one v.0 v.3) ∙ sym v.1
params-by ctx ks js s t x z a one none (inr (inr v)) = absurd (none v.3 v.4 v.6)

results-by : (ctx ks js : List Kind) {e d : Effect} (s t : Sig) (x z : Abs) {p q : MatchRefusal} → MayStandFor e d
    → ((ts : List Ty) (f : Term) (y : Abs) → Match (extend ctx js) t (raise_abs js (Abs.Ex ks s)) ts f → NormalAbsForm (extend ctx js) (abs_at_under js ts x) y → (r : MatchRefusal) → RefusesResult (extend ctx js) e d y z r → p ≡ r)
    → ((r : MatchRefusal) → RefusesMatch (extend ctx js) t (raise_abs js (Abs.Ex ks s)) r → ⊥)
    → FunctorView ctx e d ks js s t x z q → within Item.Res p ≡ q
results-by ctx ks js s t x z a one none (inl v) = absurd (v.0 a)
results-by ctx ks js s t x z a one none (inr (inl v)) = absurd (none v.0 v.3)
results-by ctx ks js s t x z a one none (inr (inr v)) = ap (within Item.Res) (one v.3 v.4 v.5 v.6 v.7 v.0 v.8) ∙ sym v.1

missing-by : {ctx : List Kind} {fs gs : SigRow} {l : Name} {t : Sig} {q : MatchRefusal} → NoField l fs → FieldsRefusal ctx fs (SigRow.More l t gs) q → within (Item.Part l) (clash ctx Missing) ≡ q
missing-by n (inl v) = sym v.1
missing-by n (inr (inl v)) = absurd (no-field _ n v.2)
missing-by n (inr (inr v)) = absurd (no-field _ n v.2)

at_field-by : {ctx : List Kind} {fs gs : SigRow} {l : Name} {s t : Sig} {p q : MatchRefusal} → HasField fs l s → ((r : MatchRefusal) → RefusesSub ctx s t r → p ≡ r) → ((f : Term) → Sub ctx s t f → ⊥) → FieldsRefusal ctx fs (SigRow.More l t gs) q → within (Item.Part l) p ≡ q
at_field-by h one none (inl v) = absurd (no-field _ v.0 h)
at_field-by {ctx} {l = l} {t = t} h one none (inr (inl v)) = ap (within (Item.Part l)) (one v.1 (subst (λ o. RefusesSub ctx o t v.1) (one-field v.2 h refl) v.3)) ∙ sym v.4
at_field-by {ctx} {t = t} h one none (inr (inr v)) = absurd (none v.1 (subst (λ o. Sub ctx o t v.1) (one-field v.2 h refl) v.3))

later-by : {ctx : List Kind} {fs gs : SigRow} {l : Name} {s t : Sig} {p q : MatchRefusal} → HasField fs l s → ((r : MatchRefusal) → RefusesFields ctx fs gs r → p ≡ r) → ((r : MatchRefusal) → RefusesSub ctx s t r → ⊥) → FieldsRefusal ctx fs (SigRow.More l t gs) q → p ≡ q
later-by h one none (inl v) = absurd (no-field _ v.0 h)
later-by {ctx} {t = t} h one none (inr (inl v)) = absurd (none v.1 (subst (λ o. RefusesSub ctx o t v.1) (one-field v.2 h refl) v.3))
later-by {q = q} h one none (inr (inr v)) = one q v.4

no_root-by : {ctx ks : List Kind} {s r : Sig} {ts : List Ty} {p : SigPath} {q : MatchRefusal} → OkSig ctx s → OkRight ctx (Abs.Ex ks r) → Looked ctx s ks r ts → length ts < length ks → LeastRoot ctx ks r (length ts) p → ((t : Ty) → FoundAt ctx s ks r ts t → ⊥) → MatchView ctx s ks r q → NoRoot (length ts) p ≡ q
no_root-by {ctx} {ks} {s} {r} {ts} {p} w v l lt root stop (stopped {ts = us} {p = p'} m lt' root' stop' e) =
    let g : ts ≡ us = looked-stops w v l lt stop m lt' stop' in
    let h : length us ≡ length ts = ap length (sym g) in
    ap₂ NoRoot (sym h) (one_least root (subst (λ n. LeastRoot ctx ks r n p') h root')) ∙ sym e
no_root-by w v l lt root stop (whole m e nf d) = absurd (looked-full w v m e l lt stop)

inside-by : {ctx ks : List Kind} {s r n : Sig} {ts : List Ty} {p q : MatchRefusal} → OkSig ctx s → OkRight ctx (Abs.Ex ks r) → Looked ctx s ks r ts → length ts ≡ length ks → NormalSigForm ctx (sig_at ts r) n → ((q : MatchRefusal) → RefusesSub ctx s n q → p ≡ q) → MatchView ctx s ks r q → p ≡ q
inside-by w v l lt nf one (stopped m lt' root' stop' e) = absurd (looked-full w v l lt m lt' stop')
inside-by {ctx} {ks} {s} {r} {n} {ts} {q = q} w v l lt nf one (whole {ts = us} {n = m} l' e nf' d) =
    let g : us ≡ ts = looked-same w v l' e l lt in
    let h : m ≡ n = form_sig-unique (subst (λ z. NormalSigForm ctx (sig_at z r) m) g nf') nf in
    one q (subst (λ z. RefusesSub ctx s z q) h d)

mutual
  -- subtyping has at most one refusal
  pub sub-refusal : {ctx : List Kind} {s r : Sig} {p : MatchRefusal} → RefusesSub ctx s r p → OkSig ctx s → IsRightSig ctx r → (q : MatchRefusal) → RefusesSub ctx s r q → p ≡ q
  sub-refusal (RefusesSub.forms {ctx = ctx} {s = s} {t = r} n) w v q d = sym (only-forms ctx s r q n (refusal-view d))
  sub-refusal (RefusesSub.values n) w v q d = sym (refusal-view d)
  sub-refusal (RefusesSub.types n) w v q d = sym (refusal-view d)
  sub-refusal (RefusesSub.meta_first a) w v q d =
      let z = refusal-view d in
      let wx = good-meta w in
      let vy = good-meta (v.0.0, v.1) in
      ap (within Item.Meta) (meta_first-by (λ r b. abs-one a (explicit-left wx) vy r b) (abs-excluded a (explicit-left wx) vy) z.0 z.2) ∙ sym z.1
  sub-refusal (RefusesSub.meta_second {f = f} b a) w v q d =
      let z = refusal-view d in
      let wx = good-meta w in
      let vy = good-meta (v.0.0, v.1) in
      ap (within Item.Meta) (meta_second-by (λ r c. abs-one a (explicit-left vy) wx r c) (λ r c. abs-excluded c (explicit-left wx) vy f b) z.0 z.2) ∙ sym z.1
  sub-refusal (RefusesSub.structures a) w v q d = fields-one a w v q (refusal-view d)
  sub-refusal (RefusesSub.effects {ctx = ctx} {ks = ks} {js = js} {s = s} {t = t} {x = x} {z = z}) w v q d = effects-by ctx ks js s t x z (refusal-view d)
  sub-refusal (RefusesSub.params {ctx = ctx} {ks = ks} {js = js} {s = s} {t = t} {x = x} {z = z} a m) w v q d =
      params-by ctx ks js s t x z a (λ r b. match-one m (good-right_param v) (good-param js w) r b) (match-excluded m (good-right_param v) (good-param js w)) (refusal-view d)
  sub-refusal (RefusesSub.results {ctx = ctx} {ks = ks} {js = js} {e = e} {d = d} {s = s} {t = t} {x = x} {y = y} {z = z} {ts = ts} {f = f} a m n h) w v q dd =
      results-by ctx ks js s t x z a
      (λ us g o m' n' r b.
      let u = match-unique m (good-right_param v).0 (good-param js w).0 us g m' in
      let yy = form_abs-unique (subst (λ us. NormalAbsForm (extend ctx js) (abs_at_under js us x) o) (sym u.0) n') n in
      result-one h (good-left_result ctx js w (match-kinds m) n) (good-right_result v) r (subst (λ i. RefusesResult (extend ctx js) e d i z r) yy b))
      (λ r b. match-excluded b (good-right_param v) (good-param js w) ts f m)
      (refusal-view dd)

  pub fields-one : {ctx : List Kind} {fs gs : SigRow} {p : MatchRefusal} → RefusesFields ctx fs gs p → OkSig ctx (Sig.Str fs) → IsRightSig ctx (Sig.Str gs) → (q : MatchRefusal) → RefusesFields ctx fs gs q → p ≡ q
  fields-one (RefusesFields.missing n) w v q d = missing-by n (fields-refusal d)
  fields-one (RefusesFields.at_field h a) w v q d =
      at_field-by h (λ r b. sub-refusal a (good-left_field w h) (good-right_field v here) r b) (sub-excluded a (good-left_field w h) (good-right_field v here)) (fields-refusal d)
  fields-one (RefusesFields.later {f = f} h a r) w v q d =
      later-by h (λ o b. fields-one r w (good-rest v) o b) (λ o b. sub-excluded b (good-left_field w h) (good-right_field v here) f a) (fields-refusal d)

  pub result-one : {ctx : List Kind} {e d : Effect} {x z : Abs} {p : MatchRefusal} → RefusesResult ctx e d x z p → OkAbs ctx x → GoodResult ctx d z → (q : MatchRefusal) → RefusesResult ctx e d x z q → p ≡ q
  result-one (RefusesResult.both_pure a) w v q d = sub-refusal a (good-body w) (good-pure v) q (result-refusal d)
  result-one (RefusesResult.to_impure a) w v q d = abs-one a w (good-impure v) q (result-refusal d)

  -- subtyping between signatures that hide types has at most one refusal
  pub abs-one : {ctx : List Kind} {x y : Abs} {p : MatchRefusal} → RefusesSubAbs ctx x y p → OkAbs ctx x → OkRight ctx y → (q : MatchRefusal) → RefusesSubAbs ctx x y q → p ≡ q
  abs-one (RefusesSubAbs.plain a) w v q d = match-one a (good-body w) v q (abs-refusal d)
  abs-one (RefusesSubAbs.hidden {ks = ks} {k = k} a) w v q d = match-one a (good-body w) (good-raised (k ∷ ks) v) q (abs-refusal d)

  -- a match has at most one refusal
  pub match-one : {ctx : List Kind} {s : Sig} {x : Abs} {p : MatchRefusal} → RefusesMatch ctx s x p → OkSig ctx s → OkRight ctx x → (q : MatchRefusal) → RefusesMatch ctx s x q → p ≡ q
  match-one (RefusesMatch.no_root l lt root stop) w v q d = no_root-by w v l lt root stop (match-refusal d)
  match-one (RefusesMatch.inside l e nf a) w v q d = inside-by w v l e nf (λ r b. sub-refusal a w (good-at v (types-kinds (looked-normal w v l e)) nf) r b) (match-refusal d)
