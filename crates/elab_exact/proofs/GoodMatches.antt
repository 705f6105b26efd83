-- The types that a refusal of matching tells are normal where it tells them.
-- Main results: refused-match.
use Rattle.std.specs.Prelude.{List, ◌∷◌, ◌≡◌, length}
use Rattle.std.proofs.Math.Path.{refl}
use Rattle.omega_kinds.specs.Kind.{Kind}
use Rattle.omega_kinds.specs.declared.effect.Effect.{Effect}
use Rattle.sig_definitions.specs.Signatures.Sig.{Sig, Abs, SigRow, here}
use Rattle.sig_definitions.specs.Explicit.SigPath.{Item}
use Rattle.sig_definitions.specs.Env.{Env, kinds}
use Rattle.sig_definitions.specs.Matching.MatchRefusal.{MatchRefusal, NoRoot, Clash, within, RefusesMatch, RefusesSub, RefusesFields, RefusesResult, RefusesSubAbs}
use Rattle.sig_laws.proofs.Formed.Conditions.{match-kinds}
use Rattle.sig_match_laws.proofs.LookUp.Good.{GoodResult, good-param, good-left_result, good-right_param, good-right_result, good-pure, good-impure, good-body, good-at, good-raised, good-left_field, good-right_field, good-meta, good-rest, explicit-left}
use Rattle.sig_match_laws.proofs.LookUp.FoundKinds.{looked-normal}
use Rattle.omega_types.proofs.BinderPuts.{types-kinds}
use Rattle.fing_syntax.specs.Phrase.{Span}
use Rattle.refusal_reasons.specs.Good.{GoodClash, GoodRefusal}
use Rattle.elab_judgments.specs.Refusals.Refusal.{refuse_match}
use Rattle.sig_laws.specs.Good.{OkSig, OkAbs, OkRight}
use Rattle.sig_match_laws.specs.MatchClaims.{IsRightSig}

abbrev GoodMatch : MatchRefusal → Type 0
GoodMatch (NoRoot number path) = Unit {0}
GoodMatch (Clash variables path why) = (ctx : List Kind) × (length ctx ≡ variables) × GoodClash ctx why

within-good : (a : Item) (r : MatchRefusal) → GoodMatch r → GoodMatch (within a r)
within-good a (NoRoot number path) g = g
within-good a (Clash variables path why) g = g

mutual
  sub-good : {ctx : List Kind} {s r : Sig} {p : MatchRefusal} → RefusesSub ctx s r p → OkSig ctx s → IsRightSig ctx r → GoodMatch p
  sub-good (RefusesSub.forms {ctx = ctx} n) w v = (ctx, refl, tt)
  sub-good (RefusesSub.values {ctx = ctx} n) w v = (ctx, refl, ((Kind.Star, w.1), (Kind.Star, v.1)))
  sub-good (RefusesSub.types {ctx = ctx} {k = k} {j = j} n) w v = (ctx, refl, ((k, w.1), (j, v.1)))
  sub-good (RefusesSub.meta_first {refusal = q} a) w v = within-good Item.Meta q (abs-good a (explicit-left (good-meta w)) (good-meta (v.0.0, v.1)))
  sub-good (RefusesSub.meta_second {refusal = q} b a) w v = within-good Item.Meta q (abs-good a (explicit-left (good-meta (v.0.0, v.1))) (good-meta w))
  sub-good (RefusesSub.structures a) w v = fields-good a w v
  sub-good (RefusesSub.effects {ctx = ctx}) w v = (ctx, refl, tt)
  sub-good (RefusesSub.params {js = js} {refusal = q} a m) w v = within-good Item.Arg q (match-good m (good-right_param v) (good-param js w))
  sub-good (RefusesSub.results {ctx = ctx} {js = js} {refusal = q} a m n h) w v = within-good Item.Res q (result-good h (good-left_result ctx js w (match-kinds m) n) (good-right_result v))

  fields-good : {ctx : List Kind} {fs gs : SigRow} {p : MatchRefusal} → RefusesFields ctx fs gs p → OkSig ctx (Sig.Str fs) → IsRightSig ctx (Sig.Str gs) → GoodMatch p
  fields-good (RefusesFields.missing {ctx = ctx} n) w v = (ctx, refl, tt)
  fields-good (RefusesFields.at_field {l = l} {refusal = q} h a) w v = within-good (Item.Part l) q (sub-good a (good-left_field w h) (good-right_field v here))
  fields-good (RefusesFields.later h a r) w v = fields-good r w (good-rest v)

  result-good : {ctx : List Kind} {e d : Effect} {x z : Abs} {p : MatchRefusal} → RefusesResult ctx e d x z p → OkAbs ctx x → GoodResult ctx d z → GoodMatch p
  result-good (RefusesResult.both_pure a) w v = sub-good a (good-body w) (good-pure v)
  result-good (RefusesResult.to_impure a) w v = abs-good a w (good-impure v)

  abs-good : {ctx : List Kind} {x y : Abs} {p : MatchRefusal} → RefusesSubAbs ctx x y p → OkAbs ctx x → OkRight ctx y → GoodMatch p
  abs-good (RefusesSubAbs.plain a) w v = match-good a (good-body w) v
  abs-good (RefusesSubAbs.hidden {ks = ks} {k = k} a) w v = match-good a (good-body w) (good-raised (k ∷ ks) v)

  match-good : {ctx : List Kind} {s : Sig} {x : Abs} {p : MatchRefusal} → RefusesMatch ctx s x p → OkSig ctx s → OkRight ctx x → GoodMatch p
  match-good (RefusesMatch.no_root l lt root stop) w v = tt
  match-good (RefusesMatch.inside l e nf a) w v = sub-good a w (good-at v (types-kinds (looked-normal w v l e)) nf)

-- a refusal of matching, as one of elaboration
pub refused-match : (g : Env) (at : Span) (s : Sig) (y : Abs) (r : MatchRefusal) → OkSig (kinds g) s → OkRight (kinds g) y → RefusesMatch (kinds g) s y r → GoodRefusal (refuse_match g at r)
refused-match g at s y r w v m = put r (match-good m w v)
  where
    put : (r : MatchRefusal) → GoodMatch r → GoodRefusal (refuse_match g at r)
    put (NoRoot number path) k = (kinds g, refl, tt)
    put (Clash variables path why) k = k
