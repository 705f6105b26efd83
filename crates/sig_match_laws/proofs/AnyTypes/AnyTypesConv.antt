-- Matching on any types is closed under conversion, and follows from matching on normal types.
-- Main results: sub-conv, match-conv, any-match.
use Rattle.std.specs.Prelude.{List, ◌∷◌}
use Rattle.omega_kinds.specs.Kind.{Kind}
use Rattle.omega_kinds.specs.declared.effect.Effect.{Effect}
use Rattle.omega_types.specs.Ty.{Ty}
use Rattle.omega_types.specs.Conversion.Conv.{c_refl, c_sym, c_trans}
use Rattle.omega_types.specs.Binders.{extend, past, puts, OfKinds}
use Rattle.omega_types.proofs.Preservation.{normal-kind}
use Rattle.omega_terms.specs.Term.{Term, TermRow}
use Rattle.sig_definitions.specs.Signatures.Sig.{Sig, Abs, SigRow, here}
use Rattle.sig_definitions.specs.Signatures.SigSubst.{raise_abs, sig_at, abs_at_under}
use Rattle.sig_definitions.specs.Signatures.Alike.{AlikeRow, val, typ, meta, str, fun, ex, end, more, ConvBetween, ConvSig, ConvAbs}
use Rattle.sig_definitions.specs.Matching.Subtyping.{Sub, SubFields, SubResult, SubAbs, Match}
use Rattle.sig_laws.proofs.Algebra.AlikeLaws.{conv_sig-sym, conv_abs-sym, form-conv_sig, form-conv_abs, conv_sig-substitute, conv_abs-substitute, substitutes-convertible}
use Rattle.sig_laws.proofs.Algebra.Instances.{guess-form, at-substitutes, under-at-substitutes}
use Rattle.sig_laws.proofs.Algebra.PathLaws.{field-alike}
use Rattle.sig_laws.proofs.Formed.WellFormedLaws.{well_formed-kinds, explicit-kinds, explicit-body, conv_abs-rename}
use Rattle.sig_match_laws.specs.AnyTypes.{IsSub, AreSubs, IsSubResult, IsSubAbs, Matches}
use Rattle.sig_laws.proofs.Formed.Conditions.{RightResult, match-kinds}
use Rattle.sig_match_laws.proofs.LookUp.Good.{GoodResult, good-param, good-left_result, good-right_param, good-right_result, good-pure, good-impure, good-body, good-at, good-raised, good-left_field, good-right_field, good-meta, good-rest, explicit-left}
use Rattle.omega_types.proofs.BinderLaws.{past-maps}
use Rattle.omega_types.proofs.BinderPuts.{forms-types, types-kinds}
use Rattle.sig_laws.specs.Good.{OkSig, OkAbs, OkRight}
use Rattle.sig_match_laws.specs.MatchClaims.{IsRightSig}

-- conversion under renaming

-- conversion of signatures that hide types is kept by raising them past binders
pub conv_abs-raise : {x y : Abs} (ctx js : List Kind) → ConvAbs ctx x y → ConvAbs (extend ctx js) (raise_abs js x) (raise_abs js y)
conv_abs-raise ctx js c = conv_abs-rename (past js) (past-maps js ctx) c

pub conv-at : {ctx ks : List Kind} {t u : Sig} {ts : List Ty} → OfKinds ctx ts ks → ConvSig (extend ctx ks) t u → ConvSig ctx (sig_at ts t) (sig_at ts u)
conv-at {ts = ts} h c = conv_sig-substitute (puts ts Ty.Var) (puts ts Ty.Var) (substitutes-convertible (at-substitutes h)) c

pub conv-at_under : {ks : List Kind} {x y : Abs} {ts : List Ty} (ctx js : List Kind) → OfKinds (extend ctx js) ts ks → ConvAbs (extend ctx ks) x y → ConvAbs (extend ctx js) (abs_at_under js ts x) (abs_at_under js ts y)
conv-at_under {ts = ts} ctx js h c = conv_abs-substitute (puts ts (λ i. Ty.Var (past js i))) (puts ts (λ i. Ty.Var (past js i))) (substitutes-convertible (under-at-substitutes ctx js h)) c

-- the types at which signatures match have the kinds of the hidden ones
pub matches-kinds : {ctx ks : List Kind} {s t : Sig} {ts : List Ty} → Matches ctx s (Abs.Ex ks t) ts → OfKinds ctx ts ks
matches-kinds (Matches.at h d) = h

-- closed under conversion

mutual
  -- subtyping of signatures of any types is closed under conversion of both sides
  pub sub-conv : {ctx : List Kind} {s r : Sig} → IsSub ctx s r → {t q : Sig} → ConvSig ctx s t → ConvSig ctx r q → IsSub ctx t q
  sub-conv (IsSub.val e) (val c) (val d) = IsSub.val (c_trans (c_sym c) (c_trans e d))
  sub-conv (IsSub.typ e) (typ c) (typ d) = IsSub.typ (c_trans (c_sym c) (c_trans e d))
  sub-conv (IsSub.meta a b) (meta c) (meta d) = IsSub.meta (abs-conv a c d) (abs-conv b d c)
  sub-conv (IsSub.str a) (str c) (str d) = IsSub.str (fields-conv a c d)
  sub-conv (IsSub.fun {ctx = ctx} {ks = ks} {js = js} m r) (fun c cx) (fun d dz) =
      IsSub.fun (match-conv m d (conv_abs-raise ctx js (ex c))) (result-conv r (conv-at_under ctx js (matches-kinds m) cx) dz)

  pub fields-conv : {ctx : List Kind} {fs gs : SigRow} → AreSubs ctx fs gs → {hs is : SigRow} → AlikeRow ConvBetween ctx fs hs → AlikeRow ConvBetween ctx gs is → AreSubs ctx hs is
  fields-conv AreSubs.end c end = AreSubs.end
  fields-conv (AreSubs.more h a rest) c (more d ds) = let w = field-alike c h in AreSubs.more w.1 (sub-conv a w.2 d) (fields-conv rest c ds)

  pub result-conv : {ctx : List Kind} {e d : Effect} {x z : Abs} → IsSubResult ctx e d x z → {y w : Abs} → ConvAbs ctx x y → ConvAbs ctx z w → IsSubResult ctx e d y w
  result-conv (IsSubResult.both_pure a) (ex c) (ex d) = IsSubResult.both_pure (sub-conv a c d)
  result-conv (IsSubResult.to_impure a) c d = IsSubResult.to_impure (abs-conv a c d)

  -- subtyping of signatures that hide types is closed under conversion of both sides
  pub abs-conv : {ctx : List Kind} {x z : Abs} → IsSubAbs ctx x z → {y w : Abs} → ConvAbs ctx x y → ConvAbs ctx z w → IsSubAbs ctx y w
  abs-conv (IsSubAbs.plain m) (ex c) d = IsSubAbs.plain (match-conv m c d)
  abs-conv {ctx} (IsSubAbs.hidden {ks = ks} {k = k} m) (ex c) d = IsSubAbs.hidden (match-conv m c (conv_abs-raise ctx (k ∷ ks) d))

  -- matching of signatures of any types is closed under conversion of both sides
  pub match-conv : {ctx : List Kind} {s : Sig} {x : Abs} {ts : List Ty} → Matches ctx s x ts → {t : Sig} {y : Abs} → ConvSig ctx s t → ConvAbs ctx x y → Matches ctx t y ts
  match-conv (Matches.at h d) c (ex e) = Matches.at h (sub-conv d c (conv-at h e))

-- from matching on normal types

pub right-kinds : {ctx : List Kind} {d : Effect} {z : Abs} → RightResult ctx d z → ConvAbs ctx z z
right-kinds (RightResult.pure w v) = ex (well_formed-kinds w)
right-kinds (RightResult.impure x) = explicit-kinds x

mutual
  -- subtyping of normal signatures is subtyping of any
  pub any-sub : {ctx : List Kind} {s r : Sig} {f : Term} → Sub ctx s r f → OkSig ctx s → IsRightSig ctx r → IsSub ctx s r
  any-sub Sub.val w v = IsSub.val (c_refl (normal-kind w.1))
  any-sub Sub.typ w v = IsSub.typ (c_refl (normal-kind w.1))
  any-sub (Sub.meta a b) w v =
      let wx = good-meta w in
      let vy = good-meta (v.0.0, v.1) in
      IsSub.meta (any-abs a (explicit-left wx) vy) (any-abs b (explicit-left vy) wx)
  any-sub (Sub.str a) w v = IsSub.str (any-fields a w v)
  any-sub (Sub.fun {ctx = ctx} {js = js} m n r) w v = IsSub.fun (any-match m (good-right_param v) (good-param js w))
      (result-conv (any-result r (good-left_result ctx js w (match-kinds m) n) (good-right_result v)) (conv_abs-sym (form-conv_abs n)) (right-kinds (good-right_result v).0))

  pub any-fields : {ctx : List Kind} {fs gs : SigRow} {f : TermRow} → SubFields ctx fs gs f → OkSig ctx (Sig.Str fs) → IsRightSig ctx (Sig.Str gs) → AreSubs ctx fs gs
  any-fields SubFields.end w v = AreSubs.end
  any-fields (SubFields.more h a rest) w v = AreSubs.more h (any-sub a (good-left_field w h) (good-right_field v here)) (any-fields rest w (good-rest v))

  pub any-result : {ctx : List Kind} {e d : Effect} {x z : Abs} {f : Term} → SubResult ctx e d x z f → OkAbs ctx x → GoodResult ctx d z → IsSubResult ctx e d x z
  any-result (SubResult.both_pure a) w v = IsSubResult.both_pure (any-sub a (good-body w) (good-pure v))
  any-result (SubResult.to_impure a) w v = IsSubResult.to_impure (any-abs a w (good-impure v))

  -- subtyping of normal signatures that hide types is subtyping of any
  pub any-abs : {ctx : List Kind} {x y : Abs} {f : Term} → SubAbs ctx x y f → OkAbs ctx x → OkRight ctx y → IsSubAbs ctx x y
  any-abs (SubAbs.plain m p) w v = IsSubAbs.plain (any-match m (good-body w) v)
  any-abs (SubAbs.hidden {ks = ks} {k = k} m p) w v = IsSubAbs.hidden (any-match m (good-body w) (good-raised (k ∷ ks) v))

  -- a match of normal signatures is one of any
  pub any-match : {ctx : List Kind} {s : Sig} {x : Abs} {ts : List Ty} {f : Term} → Match ctx s x ts f → OkSig ctx s → OkRight ctx x → Matches ctx s x ts
  any-match (Match.at o forms n a) w v =
      let c = explicit-body v.0 in
      let h = types-kinds (forms-types forms) in
      let g = guess-form forms c n in
      Matches.at h (sub-conv (any-sub a w (good-at v h g)) (well_formed-kinds w.0) (conv_sig-sym (form-conv_sig g)))
