-- A refusal excludes a derivation, and there is at most one.
-- Main results: looked-same, looked-stops, sub-excluded, match-excluded.
use Rattle.std.specs.Prelude.{◌<◌, List, [], ◌∷◌, ◌≡◌, length}
use Rattle.std.proofs.Common.{arith}
use Rattle.std.proofs.Math.Path.{refl, sym, ap, subst}
use Rattle.omega_kinds.specs.Kind.{Kind}
use Rattle.omega_kinds.specs.declared.effect.Effect.{Effect}
use Rattle.omega_types.specs.Ty.{Ty}
use Rattle.omega_types.specs.Binders.{extend, OfKinds}
use Rattle.omega_terms.specs.Term.{Term, TermRow}
use Rattle.sig_definitions.specs.Signatures.Sig.{Sig, Abs, SigRow, here}
use Rattle.sig_definitions.specs.Signatures.SigSubst.{sig_at, abs_at_under}
use Rattle.sig_definitions.specs.Signatures.Alike.{NormalSigForm, NormalAbsForm}
use Rattle.sig_definitions.specs.Matching.Subtyping.{Sub, SubFields, SubResult, SubAbs, Match}
use Rattle.sig_laws.proofs.Algebra.AlikeLaws.{form_sig-unique, form_abs-unique}
use Rattle.sig_laws.proofs.Algebra.Instances.{kinds-length}
use Rattle.sig_definitions.specs.Matching.LookUp.{FoundAt, Looked}
use Rattle.sig_definitions.specs.Matching.MatchRefusal.{MatchRefusal, form, RefusesMatch, RefusesSub, RefusesFields, RefusesResult, RefusesSubAbs}
use Rattle.sig_match_laws.proofs.OneMatch.Views.{sub-view, fields-view, result-view, abs-view, match-view}
use Rattle.sig_laws.proofs.Formed.Conditions.{match-kinds}
use Rattle.sig_match_laws.proofs.OneMatch.Unique.{match-unique}
use Rattle.sig_match_laws.proofs.LookUp.Good.{GoodResult, good-param, good-left_result, good-right_param, good-right_result, good-pure, good-impure, good-body, good-at, good-raised, good-left_field, good-right_field, good-meta, good-rest, explicit-left}
use Rattle.sig_match_laws.proofs.LookUp.LookUpLaws.{match-looked, Compared, same, shorter, longer, compared}
use Rattle.sig_laws.proofs.Formed.WellFormedLaws.{explicit-body}
use Rattle.sig_laws.proofs.Algebra.PathLaws.{one-field, no-field}
use Rattle.sig_laws.specs.Good.{OkSig, OkAbs, OkRight}
use Rattle.sig_match_laws.specs.MatchClaims.{IsRightSig}

sub-form : {ctx : List Kind} {s r : Sig} {f : Term} → Sub ctx s r f → form s ≡ form r
sub-form Sub.val = refl
sub-form Sub.typ = refl
sub-form (Sub.meta a b) = refl
sub-form (Sub.str a) = refl
sub-form (Sub.fun m n r) = refl

-- a full list and one that cannot go on
pub looked-full : {ctx ks : List Kind} {s r : Sig} {ts us : List Ty} → OkSig ctx s → OkRight ctx (Abs.Ex ks r) → Looked ctx s ks r ts → length ts ≡ length ks → Looked ctx s ks r us → length us < length ks → ((t : Ty) → FoundAt ctx s ks r us t → ⊥) → ⊥
looked-full {ctx} {ks} {s} {r} {ts} {us} w v a e b lt stop = go (compared [] w v (omega (arith, e)) (omega (arith, lt)) a b)
  where
    go : Compared ctx s ks r [] ts us → ⊥
    go (same d) = let g = ap length d in omega (arith, e, lt, g)
    go (shorter t l f) = omega (arith, e, lt, l)
    go (longer t l f) = stop t f

-- types that are looked up for all hidden types are the only ones
pub looked-same : {ctx ks : List Kind} {s r : Sig} {ts us : List Ty} → OkSig ctx s → OkRight ctx (Abs.Ex ks r) → Looked ctx s ks r ts → length ts ≡ length ks → Looked ctx s ks r us → length us ≡ length ks → ts ≡ us
looked-same {ctx} {ks} {s} {r} {ts} {us} w v a e b g = go (compared [] w v (omega (arith, e)) (omega (arith, g)) a b)
  where
    go : Compared ctx s ks r [] ts us → ts ≡ us
    go (same d) = d
    go (shorter t l f) = absurd (omega (arith, e, g, l))
    go (longer t l f) = absurd (omega (arith, e, g, l))

-- looking up stops at one hidden type only
pub looked-stops : {ctx ks : List Kind} {s r : Sig} {ts us : List Ty} → OkSig ctx s → OkRight ctx (Abs.Ex ks r) → Looked ctx s ks r ts → length ts < length ks → ((t : Ty) → FoundAt ctx s ks r ts t → ⊥) → Looked ctx s ks r us → length us < length ks → ((t : Ty) → FoundAt ctx s ks r us t → ⊥) → ts ≡ us
looked-stops {ctx} {ks} {s} {r} {ts} {us} w v a e p b g q = go (compared [] w v (omega (arith, e)) (omega (arith, g)) a b)
  where
    go : Compared ctx s ks r [] ts us → ts ≡ us
    go (same d) = d
    go (shorter t l f) = absurd (p t f)
    go (longer t l f) = absurd (q t f)

mutual
  -- a refusal of subtyping excludes a coercion
  pub sub-excluded : {ctx : List Kind} {s r : Sig} {q : MatchRefusal} → RefusesSub ctx s r q → OkSig ctx s → IsRightSig ctx r → (f : Term) → Sub ctx s r f → ⊥
  sub-excluded (RefusesSub.forms n) w v f d = n (sub-form d)
  sub-excluded (RefusesSub.values n) w v f d = n (sub-view d).0
  sub-excluded (RefusesSub.types n) w v f d = let q = sub-view d in n (q.0, q.1)
  sub-excluded (RefusesSub.meta_first r) w v f d = let q = sub-view d in abs-excluded r (explicit-left (good-meta w)) (good-meta (v.0.0, v.1)) q.0 q.2
  sub-excluded (RefusesSub.meta_second a r) w v f d = let q = sub-view d in abs-excluded r (explicit-left (good-meta (v.0.0, v.1))) (good-meta w) q.1 q.3
  sub-excluded (RefusesSub.structures r) w v f d = let q = sub-view d in fields-excluded r w v q.0 q.1
  sub-excluded RefusesSub.effects w v f d = let q = sub-view d in result-view q.6
  sub-excluded (RefusesSub.params {js = js} m r) w v f d = let q = sub-view d in match-excluded r (good-right_param v) (good-param js w) q.0 q.1 q.4
  sub-excluded (RefusesSub.results {ctx = ctx} {js = js} {e = e} {d = d} {x = x} {z = z} a m n r) w v f dd =
      let q = sub-view dd in
      let u = match-unique m (good-right_param v).0 (good-param js w).0 q.0 q.1 q.4 in
      let y = form_abs-unique n (subst (λ us. NormalAbsForm (extend ctx js) (abs_at_under js us x) q.3) (sym u.0) q.5) in
      result-excluded r (good-left_result ctx js w (match-kinds m) n) (good-right_result v) q.2 (subst (λ o. SubResult (extend ctx js) e d o z q.2) (sym y) q.6)

  pub fields-excluded : {ctx : List Kind} {fs gs : SigRow} {q : MatchRefusal} → RefusesFields ctx fs gs q → OkSig ctx (Sig.Str fs) → IsRightSig ctx (Sig.Str gs) → (parts : TermRow) → SubFields ctx fs gs parts → ⊥
  fields-excluded (RefusesFields.missing n) w v parts d = no-field _ n (fields-view d).3
  fields-excluded {ctx} (RefusesFields.at_field {t = t} h r) w v parts d = let q = fields-view d in sub-excluded r (good-left_field w h) (good-right_field v here) q.1 (subst (λ o. Sub ctx o t q.1) (one-field q.3 h refl) q.4)
  fields-excluded (RefusesFields.later h a r) w v parts d = let q = fields-view d in fields-excluded r w (good-rest v) q.2 q.5

  pub result-excluded : {ctx : List Kind} {e d : Effect} {x z : Abs} {q : MatchRefusal} → RefusesResult ctx e d x z q → OkAbs ctx x → GoodResult ctx d z → (f : Term) → SubResult ctx e d x z f → ⊥
  result-excluded (RefusesResult.both_pure r) w v f a = sub-excluded r (good-body w) (good-pure v) f (result-view a)
  result-excluded (RefusesResult.to_impure r) w v f a = abs-excluded r w (good-impure v) f (result-view a)

  -- a refusal of subtyping between signatures that hide types excludes a coercion
  pub abs-excluded : {ctx : List Kind} {x y : Abs} {q : MatchRefusal} → RefusesSubAbs ctx x y q → OkAbs ctx x → OkRight ctx y → (f : Term) → SubAbs ctx x y f → ⊥
  abs-excluded (RefusesSubAbs.plain r) w v f a = let q = abs-view a in match-excluded r (good-body w) v q.0 q.1 q.2
  abs-excluded (RefusesSubAbs.hidden {ks = ks} {k = k} r) w v f a = let q = abs-view a in match-excluded r (good-body w) (good-raised (k ∷ ks) v) q.0 q.1 q.2

  -- a refusal of matching excludes a match
  pub match-excluded : {ctx : List Kind} {s : Sig} {x : Abs} {q : MatchRefusal} → RefusesMatch ctx s x q → OkSig ctx s → OkRight ctx x → (us : List Ty) (f : Term) → Match ctx s x us f → ⊥
  match-excluded (RefusesMatch.no_root l lt root stop) w v us f m = looked-full w v (match-looked v m) (kinds-length (match-kinds m)) l lt stop
  match-excluded (RefusesMatch.inside {ctx = ctx} {ks = ks} {s = s} {r = r} {n = n} {ts = ts} l e nf d) w v us f m =
      let q = match-view (explicit-body v.0) m in
      let g : us ≡ ts = looked-same w v (match-looked v m) (kinds-length (match-kinds m)) l e in
      let h : q.0 ≡ n = form_sig-unique (subst (λ z. NormalSigForm ctx (sig_at z r) q.0) g q.2) nf in
      sub-excluded d w (good-at v (subst (λ z. OfKinds ctx z ks) g (match-kinds m)) nf) f (subst (λ z. Sub ctx s z f) h q.3)
