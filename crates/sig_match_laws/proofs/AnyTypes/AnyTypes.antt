-- Matching on any types gives matching on their normal forms.
-- Main results: matches_exactly, match_sig_finds, match_sig_matches.
use Rattle.std.specs.Prelude.{List, ◌∷◌, ◌≡◌}
use Rattle.std.proofs.Math.Path.{sym, subst}
use Rattle.omega_kinds.specs.Kind.{Kind}
use Rattle.omega_kinds.specs.declared.effect.Effect.{Effect}
use Rattle.omega_kinds.specs.Name.{Name}
use Rattle.omega_types.specs.Ty.{Ty}
use Rattle.omega_types.specs.Normaliser.{normal}
use Rattle.omega_types.specs.Binders.{extend, past, puts, OfKinds, NormalForms}
use Rattle.omega_types.proofs.Inverse.{same-normal}
use Rattle.omega_terms.specs.Term.{Term, TermRow}
use Rattle.omega_terms.specs.Coercions.{same_part}
use Rattle.sig_definitions.specs.Signatures.Sig.{Sig, Abs, SigRow, HasField, here, there}
use Rattle.sig_definitions.specs.Signatures.SigSubst.{raise_abs, sig_at, abs_at_under}
use Rattle.sig_laws.specs.NormalSig.{normal_sig, normal_abs, normal_sig_row}
use Rattle.sig_definitions.specs.Signatures.Alike.{ConvSig, ConvAbs, NormalSigForm, NormalAbsForm}
use Rattle.sig_definitions.specs.Explicit.WellFormed.{WellFormed, WellFormedRow, WellFormedAbs, ExplicitResultsRow, Explicit}
use Rattle.sig_definitions.specs.Signatures.Encoding.{enc}
use Rattle.sig_definitions.specs.Matching.Subtyping.{Sub, SubFields, SubResult, SubAbs, Match}
use Rattle.sig_laws.proofs.Algebra.AlikeLaws.{conv_sig-sym, conv_abs-sym, form-conv_sig, form-conv_abs, conv-form_sig, conv-form_abs, conv_sig-gives, conv_abs-gives, form_abs-same, form_sig-normal, form_abs-normal, normal_abs-rename, normal_abs-form, conv_sig-substitute, conv_abs-substitute, substitutes-convertible}
use Rattle.sig_laws.proofs.Algebra.Instances.{normals_of, past-substitutes, at-substitutes, under-at-substitutes}
use Rattle.sig_laws.proofs.Formed.WellFormedLaws.{well_formed-kinds, well_formed_abs-kinds, well_formed-conv, well_formed-substitute, explicit-kinds, explicit-conv, explicit_results-substitute, well_formed_abs-substitute, explicit-body}
use Rattle.sig_match_laws.specs.AnyTypes.{IsSub, AreSubs, IsSubResult, IsSubAbs, Matches, MatchesExactly, MatchSigFinds, MatchSigMatches}
use Rattle.sig_match_laws.specs.MatchFunction.{Outcome}
use Rattle.sig_laws.proofs.Formed.Conditions.{IsRight, RightResult, right-functor, left-functor, explicit-right, abs-body, explicit-abs, meta-explicit, str-fields, str-results, row-first, results-first, row-field, param-raised, abs-raised}
use Rattle.sig_match_laws.proofs.Function.LookSound.{match_ok}
use Rattle.sig_match_laws.proofs.Function.FunctionSound.{AbsOk, abs_ok, plain-ok, hidden-ok}
use Rattle.sig_match_laws.proofs.Theorems.{match_sig_gives}
use Rattle.sig_match_laws.proofs.AnyTypes.AnyTypesConv.{conv_abs-raise, matches-kinds, sub-conv, match-conv, any-match}
use Rattle.omega_types.proofs.BinderLaws.{past-maps}
use Rattle.omega_types.proofs.BinderPuts.{forms-given, forms-types, types-forms, types-kinds, puts-convertible, vars-convertible}
use Rattle.sig_laws.specs.Good.{OkSig, OkRight}

-- normal forms of raised signatures

pub raise-normal : {x : Abs} (ctx js : List Kind) → ConvAbs ctx x x → normal_abs (extend ctx js) (raise_abs js x) ≡ raise_abs js (normal_abs ctx x)
raise-normal {x} ctx js c =
    let f = conv_abs-gives c in
    sym (form_abs-same (conv-form_abs (conv_abs-raise ctx js (form-conv_abs f)) (normal_abs-form (extend ctx js) (raise_abs js (normal_abs ctx x)) (normal_abs-rename (past js) (past-maps js ctx) (normal_abs ctx x) (form_abs-normal f)))))

-- the normal form of an ordered explicit signature may stand on the right
pub good-normal_abs : {ctx : List Kind} {x : Abs} → Explicit ctx x → OkRight ctx (normal_abs ctx x)
good-normal_abs v = let f = conv_abs-gives (explicit-kinds v) in (explicit-conv v (form-conv_abs f), form_abs-normal f)

-- the types of a match may be replaced by their normal forms, and the right side by its

at-normal : {ctx ks : List Kind} {t : Sig} {ts ns : List Ty} → ConvSig (extend ctx ks) t t → NormalForms ctx ts ks ns → OfKinds ctx ts ks → NormalSigForm ctx (sig_at ns (normal_sig (extend ctx ks) t)) (normal_sig ctx (sig_at ts t))
at-normal {ctx} {ks} {t} {ts} {ns} c fs h =
    let n = form-conv_sig (conv_sig-gives c) in
    let e = conv_sig-substitute (puts ts Ty.Var) (puts ns Ty.Var) (puts-convertible fs (vars-convertible ctx)) n in
    conv-form_sig (conv_sig-sym e) (conv_sig-gives e)

at_under-normal : {ks : List Kind} {x : Abs} {ts ns : List Ty} (ctx js : List Kind) → ConvAbs (extend ctx ks) x x → NormalForms (extend ctx js) ts ks ns → NormalAbsForm (extend ctx js) (abs_at_under js ns (normal_abs (extend ctx ks) x)) (normal_abs (extend ctx js) (abs_at_under js ts x))
at_under-normal {ks} {x} {ts} {ns} ctx js c fs =
    let n = form-conv_abs (conv_abs-gives c) in
    let e = conv_abs-substitute (puts ts (λ i. Ty.Var (past js i))) (puts ns (λ i. Ty.Var (past js i))) (puts-convertible fs (substitutes-convertible (past-substitutes js ctx))) n in
    conv-form_abs (conv_abs-sym e) (conv_abs-gives e)

field-normal : (ctx : List Kind) {fs : SigRow} {l : Name} {s : Sig} → HasField fs l s → HasField (normal_sig_row ctx fs) l (normal_sig ctx s)
field-normal ctx here = here
field-normal ctx (there n h) = there n (field-normal ctx h)

abs-of : {ctx : List Kind} {x y : Abs} {f : Term} → AbsOk ctx x y (Outcome.coerced f) → SubAbs ctx x y f
abs-of (abs_ok d) = d

at-right : {ctx ks : List Kind} {t : Sig} {ts : List Ty} → Explicit ctx (Abs.Ex ks t) → OfKinds ctx ts ks → IsRight ctx (sig_at ts t)
at-right {ts = ts} v h = let w = explicit-right v in (well_formed-substitute (puts ts Ty.Var) (at-substitutes h) w.0, explicit_results-substitute (puts ts Ty.Var) (at-substitutes h) w.1)

mutual
  -- signatures of any types in subtyping have normal forms in subtyping, by a coercion
  pub to-sub : {ctx : List Kind} {s r : Sig} → IsSub ctx s r → WellFormed ctx s → IsRight ctx r → (f : Term) × Sub ctx (normal_sig ctx s) (normal_sig ctx r) f
  to-sub {ctx} (IsSub.val {t = t} c) w v = (same_part (enc (Sig.Val (normal ctx t))), subst (λ u. Sub ctx (Sig.Val (normal ctx t)) (Sig.Val u) (same_part (enc (Sig.Val (normal ctx t))))) (same-normal c) Sub.val)
  to-sub {ctx} (IsSub.typ {t = t} {k = k} c) w v = (same_part (enc (Sig.Typ (normal ctx t) k)), subst (λ u. Sub ctx (Sig.Typ (normal ctx t) k) (Sig.Typ u k) (same_part (enc (Sig.Typ (normal ctx t) k)))) (same-normal c) Sub.typ)
  to-sub (IsSub.meta a b) w v =
      let wx = meta-explicit w in
      let vy = meta-explicit v.0 in
      (_, Sub.meta (to-abs a (explicit-abs wx) vy).1 (to-abs b (explicit-abs vy) wx).1)
  to-sub (IsSub.str a) w v = (_, Sub.str (to-fields a (str-fields w) (str-fields v.0) (str-results v.1)).1)
  to-sub (IsSub.fun {ctx = ctx} {ks = ks} {js = js} {s = s} {t = t} {x = x} {ts = ts} m r) w v =
      let left = left-functor w in
      let right = right-functor v.0 v.1 in
      let fs = normals_of (matches-kinds m) in
      let p = to-match m fs.1 (explicit-right right.0).0 (param-raised js left.0) in
      let q = subst (λ y. Match (extend ctx js) (normal_sig (extend ctx js) t) y fs.0 p.0) (raise-normal ctx js (explicit-kinds left.0)) p.1 in (
        _,
        Sub.fun q (at_under-normal ctx js (well_formed_abs-kinds left.1) fs.1)
            (to-result r (well_formed_abs-substitute (puts ts (λ i. Ty.Var (past js i))) (under-at-substitutes ctx js (matches-kinds m)) left.1) right.1).1,
      )

  pub to-fields : {ctx : List Kind} {fs gs : SigRow} → AreSubs ctx fs gs → WellFormedRow ctx fs → WellFormedRow ctx gs → ExplicitResultsRow ctx gs → (f : TermRow) × SubFields ctx (normal_sig_row ctx fs) (normal_sig_row ctx gs) f
  to-fields AreSubs.end w v r = (_, SubFields.end)
  to-fields {ctx} (AreSubs.more h a rest) w v r =
      (_, SubFields.more (field-normal ctx h) (to-sub a (row-field w h) ((row-first v).0, (results-first r).0)).1 (to-fields rest w (row-first v).1 (results-first r).1).1)

  pub to-result : {ctx : List Kind} {e d : Effect} {x z : Abs} → IsSubResult ctx e d x z → WellFormedAbs ctx x → RightResult ctx d z → (f : Term) × SubResult ctx e d (normal_abs ctx x) (normal_abs ctx z) f
  to-result (IsSubResult.both_pure a) w (RightResult.pure v r) = (_, SubResult.both_pure (to-sub a (abs-body w) (v, r)).1)
  to-result (IsSubResult.to_impure a) w (RightResult.impure v) = (_, SubResult.to_impure (to-abs a w v).1)

  -- signatures of any types that hide types in subtyping have normal forms in subtyping, by a coercion
  pub to-abs : {ctx : List Kind} {x y : Abs} → IsSubAbs ctx x y → WellFormedAbs ctx x → Explicit ctx y → (f : Term) × SubAbs ctx (normal_abs ctx x) (normal_abs ctx y) f
  to-abs {ctx} {y = Abs.Ex js r} (IsSubAbs.plain m) w v =
      let fs = normals_of (matches-kinds m) in
      (_, abs-of (plain-ok (normal_abs ctx (Abs.Ex js r)) (good-normal_abs v) (match_ok (to-match m fs.1 (abs-body w) v).1)))
  to-abs {ctx} {y = Abs.Ex js r} (IsSubAbs.hidden {ks = ks} {k = k} {s = s} m) w v =
      let fs = normals_of (matches-kinds m) in
      let p = to-match m fs.1 (abs-body w) (abs-raised (k ∷ ks) v) in
      let e = raise-normal ctx (k ∷ ks) (explicit-kinds v) in (
        _,
        abs-of (hidden-ok k ks (normal_abs ctx (Abs.Ex js r)) (subst (OkRight (extend ctx (k ∷ ks))) e (good-normal_abs (abs-raised (k ∷ ks) v)))
            (match_ok (subst (λ y. Match (extend ctx (k ∷ ks)) (normal_sig (extend ctx (k ∷ ks)) s) y fs.0 p.0) e p.1))),
      )

  pub to-match : {ctx ks : List Kind} {s t : Sig} {ts ns : List Ty} → Matches ctx s (Abs.Ex ks t) ts → NormalForms ctx ts ks ns → WellFormed ctx s → Explicit ctx (Abs.Ex ks t) → (f : Term) × Match ctx (normal_sig ctx s) (Abs.Ex ks (normal_sig (extend ctx ks) t)) ns f
  to-match (Matches.at h d) fs w v =
      let n = forms-types fs in
      (_, Match.at (types-kinds n) (types-forms n) (at-normal (explicit-body v) fs h) (to-sub d w (at-right v h)).1)

-- and back

from-normal : {ctx ks : List Kind} {s t : Sig} {ns : List Ty} {f : Term} → WellFormed ctx s → Explicit ctx (Abs.Ex ks t) → Match ctx (normal_sig ctx s) (Abs.Ex ks (normal_sig (extend ctx ks) t)) ns f → Matches ctx s (Abs.Ex ks t) ns
from-normal {ctx} {ks} {s} {t} w v m =
    let a = conv_sig-gives (well_formed-kinds w) in
    let b = conv_abs-gives (explicit-kinds v) in
    match-conv (any-match m (well_formed-conv w (form-conv_sig a), form_sig-normal a) (good-normal_abs v)) (conv_sig-sym (form-conv_sig a)) (conv_abs-sym (form-conv_abs b))

of-forms : {ctx ks : List Kind} {s t : Sig} {ts ns : List Ty} → ConvSig ctx s s → ConvSig (extend ctx ks) t t → NormalForms ctx ts ks ns → Matches ctx s (Abs.Ex ks t) ns → Matches ctx s (Abs.Ex ks t) ts
of-forms {ctx} {ts = ts} {ns = ns} c e fs (Matches.at h d) = Matches.at (forms-given fs)
    (sub-conv d c (conv_sig-sym (conv_sig-substitute (puts ts Ty.Var) (puts ns Ty.Var) (puts-convertible fs (vars-convertible ctx)) e)))

-- signatures match at some types exactly where their normal forms match at the normal forms of these
pub matches_exactly : MatchesExactly
matches_exactly ctx ks s t ts ns w v fs = (λ m. to-match m fs w v, λ q. of-forms (well_formed-kinds w) (explicit-body v) fs (from-normal w v q.1))

-- the normal form of a well formed signature is good
pub good-normal_sig : {ctx : List Kind} {s : Sig} → WellFormed ctx s → OkSig ctx (normal_sig ctx s)
good-normal_sig w = let f = conv_sig-gives (well_formed-kinds w) in (well_formed-conv w (form-conv_sig f), form_sig-normal f)

-- the function answers with types where some types match, and these are their normal forms
pub match_sig_finds : MatchSigFinds
match_sig_finds ctx ks s t ts w v m =
    let fs = normals_of (matches-kinds m) in
    let p = to-match m fs.1 w v in
    (fs.0, p.0, ((match_sig_gives ctx (normal_sig ctx s) (Abs.Ex ks (normal_sig (extend ctx ks) t)) (good-normal_sig w) (good-normal_abs v)).0 fs.0 p.0).1 p.1, fs.1)

-- the types with which the function answers match
pub match_sig_matches : MatchSigMatches
match_sig_matches ctx ks s t ns f w v e = from-normal w v (((match_sig_gives ctx (normal_sig ctx s) (Abs.Ex ks (normal_sig (extend ctx ks) t)) (good-normal_sig w) (good-normal_abs v)).0 ns f).0 e)
