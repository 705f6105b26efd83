-- At most one list of types and one coercion for a left and a right side.
-- Main results: match-unique, sub-unique.
use Rattle.sig_laws.proofs.Formed.Conditions.{match-kinds, IsRight, RightResult, right-functor, left-functor, explicit-right, explicit-roots, abs-body, str-fields, str-results, row-first, results-first, row-field, param-raised, abs-raised, right-at, left-at}
use Rattle.std.specs.Prelude.{◌<◌, List, [], ◌∷◌, ◌++◌, ◌≡◌, length}
use Rattle.std.proofs.Common.{arith}
use Rattle.std.proofs.Math.Path.{refl, sym, ◌∙◌, ap, ap₂, subst, subst₂}
use Rattle.std.proofs.lemmas.List.{length-append, append_assoc}
use Rattle.omega_kinds.specs.Kind.{Kind}
use Rattle.omega_kinds.specs.declared.label.Label.{Label}
use Rattle.omega_kinds.specs.declared.effect.Effect.{Effect}
use Rattle.omega_kinds.specs.declared.effect.Effect.TheVariants.{Pure}
use Rattle.omega_kinds.specs.Name.{Name}
use Rattle.omega_types.specs.Ty.{Ty}
use Rattle.omega_types.specs.Binders.{extend, lam_over, raise}
use Rattle.omega_terms.specs.Term.{Term, TermRow}
use Rattle.omega_terms.specs.Coercions.{fields_part, functor_part, MatchPart, AbsPart}
use Rattle.sig_definitions.specs.Signatures.Sig.{Sig, Abs, SigRow, HasField, here, there}
use Rattle.sig_definitions.specs.Signatures.SigSubst.{sig_at, abs_at_under}
use Rattle.sig_definitions.specs.Signatures.Alike.{NormalSigForm, NormalAbsForm}
use Rattle.sig_definitions.specs.Signatures.Encoding.{enc, enc_abs}
use Rattle.sig_definitions.specs.Explicit.SigPath.{SigPath}
use Rattle.sig_definitions.specs.Explicit.RootPath.{RootPath}
use Rattle.sig_definitions.specs.Explicit.WellFormed.{EachRooted, WellFormed, WellFormedRow, WellFormedAbs, ExplicitResultsRow, Explicit}
use Rattle.sig_definitions.specs.Matching.Subtyping.{Sub, SubFields, SubResult, SubAbs, Match}
use Rattle.sig_laws.proofs.Algebra.AlikeLaws.{form_sig-unique, form_abs-unique}
use Rattle.omega_types.proofs.BinderPuts.{NormalTypes, forms-types, types-kinds}
use Rattle.sig_laws.proofs.Algebra.Instances.{kinds-length, guess-form}
use Rattle.sig_match_laws.proofs.OneMatch.Views.{sub-view, fields-view, result-view, abs-view, match-view, fields-at, match_part-unique, abs_part-unique}
use Rattle.sig_match_laws.proofs.OneMatch.Agree.{Agree, type_shown, root-agreed}
use Rattle.sig_laws.proofs.Formed.WellFormedLaws.{explicit-body}
use Rattle.sig_laws.proofs.Algebra.PathLaws.{one-field}

-- the types are found at the root paths, one after the other

-- a list with one more item in front of the rest, regrouped
pub append-one : {A : Type 0} (before rest : List A) (t : A) → before ++ (t ∷ rest) ≡ (before ++ (t ∷ [])) ++ rest
append-one before rest t = sym (append_assoc before (t ∷ []) rest)

pub first_same : {ctx ks : List Kind} {s r q : Sig} {p : SigPath} {ts us : List Ty} (before rest others : List Ty) (t u : Ty)
    → ts ≡ before ++ (t ∷ rest) → us ≡ before ++ (u ∷ others)
    → NormalTypes ctx ts ks → NormalTypes ctx us ks
    → length before < length ks
    → RootPath ctx ks s (length before) p
    → NormalSigForm ctx (sig_at ts s) r → NormalSigForm ctx (sig_at us s) q
    → ((p : SigPath) (bs : List Kind) (a b : Ty) (k : Kind) → Agree r q p bs a b k → a ≡ b)
    → t ≡ u
first_same {p = p} before rest others t u e g n m lt root nr nq h =
    let w = root-agreed before (t ∷ rest) (u ∷ others) e g (types-kinds n) (types-kinds m) lt root nr nq in
    let z = w.5 in
    sym (type_shown w.0 before rest e n w.3 z.3) ∙ (ap (lam_over w.0) (h p w.0 z.0 z.1 w.2 z.2) ∙ type_shown w.0 before others g m w.3 z.4)

-- types before another one are fewer than the hidden types
pub length-below : {ctx ks : List Kind} {ts : List Ty} (before rest : List Ty) (t : Ty) → ts ≡ before ++ (t ∷ rest) → NormalTypes ctx ts ks → length before < length ks
length-below before rest t e n =
    let a = sym (kinds-length (types-kinds n)) ∙ (ap length e ∙ length-append before (t ∷ rest)) in
    omega arith

pub same_types : {ctx ks : List Kind} {s r q : Sig} {ts us : List Ty} (before rest others : List Ty)
    → ts ≡ before ++ rest → us ≡ before ++ others
    → NormalTypes ctx ts ks → NormalTypes ctx us ks
    → EachRooted ctx ks s
    → NormalSigForm ctx (sig_at ts s) r → NormalSigForm ctx (sig_at us s) q
    → ((p : SigPath) (bs : List Kind) (a b : Ty) (k : Kind) → Agree r q p bs a b k → a ≡ b)
    → rest ≡ others
same_types before [] [] e g n m roots nr nq h = refl
same_types before [] (u ∷ others) e g n m roots nr nq h =
    let a = kinds-length (types-kinds n) in
    let b = kinds-length (types-kinds m) in
    let c = ap length e ∙ length-append before [] in
    let d = ap length g ∙ length-append before (u ∷ others) in
    absurd (omega (arith, a, b, c, d))
same_types before (t ∷ rest) [] e g n m roots nr nq h =
    let a = kinds-length (types-kinds n) in
    let b = kinds-length (types-kinds m) in
    let c = ap length e ∙ length-append before (t ∷ rest) in
    let d = ap length g ∙ length-append before [] in
    absurd (omega (arith, a, b, c, d))
same_types before (t ∷ rest) (u ∷ others) e g n m roots nr nq h =
    let lt = length-below before rest t e n in
    let z = first_same before rest others t u e g n m lt (roots (length before) lt).1 nr nq h in
    ap₂ ◌∷◌ z (same_types (before ++ (t ∷ [])) rest others (e ∙ append-one before rest t) ((g ∙ ap (λ x. before ++ (x ∷ others)) (sym z)) ∙ append-one before others t) n m roots nr nq h)

-- the theorem, for one of the two derivations

mutual
  -- subtyping has at most one coercion
  pub sub-unique : {ctx : List Kind} {s r : Sig} {f : Term} → Sub ctx s r f → WellFormed ctx s → IsRight ctx r → (g : Term) → Sub ctx s r g → f ≡ g
  sub-unique Sub.val w v g d = sym (sub-view d).1
  sub-unique Sub.typ w v g d = sym (sub-view d).2
  sub-unique (Sub.meta a b) w v g d = sym (sub-view d).4
  sub-unique (Sub.str {fs = fs} a) w v g d =
      let q = sub-view d in
      ap (fields_part (enc (Sig.Str fs))) (fields-unique a (str-fields w) (str-fields v.0) (str-results v.1) q.0 q.1) ∙ sym q.2
  sub-unique (Sub.fun {ctx = ctx} {ks = ks} {js = js} {e = e} {d = d} {s = s} {t = t} {x = x} {y = y} {z = z} {ts = ts} {f = f} {g = g} m n r) w v h dd =
      let q = sub-view dd in
      let left = left-functor w in
      let right = right-functor v.0 v.1 in
      let u = match-unique m (explicit-right right.0).0 (param-raised js left.0) q.0 q.1 q.4 in
      let yy = form_abs-unique n (subst (λ us. NormalAbsForm (extend ctx js) (abs_at_under js us x) q.3) (sym u.0) q.5) in
      let gg = result-unique r (left-at ctx js left.1 (match-kinds m) n) right.1 q.2 (subst (λ o. SubResult (extend ctx js) e d o z q.2) (sym yy) q.6) in
      (λ i. functor_part (enc (Sig.Fun e ks s x)) e d js (enc t) (u.0 i) (u.1 i) (gg i)) ∙ sym q.7

  pub fields-unique : {ctx : List Kind} {fs gs : SigRow} {parts : TermRow} → SubFields ctx fs gs parts → WellFormedRow ctx fs → WellFormedRow ctx gs → ExplicitResultsRow ctx gs → (others : TermRow) → SubFields ctx fs gs others → parts ≡ others
  fields-unique SubFields.end w v r others d = sym (fields-view d)
  fields-unique (SubFields.more {ctx = ctx} {l = l} {t = t} h a rest) w v r others d =
      let q = fields-view d in
      let v1 = row-first v in
      let r1 = results-first r in
      let pf = sub-unique a (row-field w h) (v1.0, r1.0) q.1 (subst (λ o. Sub ctx o t q.1) (one-field q.3 h refl) q.4) in
      ap₂ (TermRow.More (Label.Name l)) pf (fields-unique rest w v1.1 r1.1 q.2 q.5) ∙ sym q.6

  pub result-unique : {ctx : List Kind} {e d : Effect} {x y : Abs} {f : Term} → SubResult ctx e d x y f → WellFormedAbs ctx x → RightResult ctx d y → (g : Term) → SubResult ctx e d x y g → f ≡ g
  result-unique (SubResult.both_pure a) w (RightResult.pure v r) g d = sub-unique a (abs-body w) (v, r) g (result-view d)
  result-unique (SubResult.to_impure a) w (RightResult.impure v) g d = abs-unique a w v g (result-view d)

  -- subtyping between signatures that hide types has at most one coercion
  pub abs-unique : {ctx : List Kind} {x y : Abs} {f : Term} → SubAbs ctx x y f → WellFormedAbs ctx x → Explicit ctx y → (g : Term) → SubAbs ctx x y g → f ≡ g
  abs-unique (SubAbs.plain {ctx = ctx} {s = s} {y = y} {ts = ts} {f = f} m p) w v g d =
      let q = abs-view d in
      let u = match-unique m (abs-body w) v q.0 q.1 q.2 in
      match_part-unique p g (subst₂ (λ us o. MatchPart ctx (enc s) us o (enc_abs y) g) (sym u.0) (sym u.1) q.3)
  abs-unique (SubAbs.hidden {ctx = ctx} {ks = ks} {k = k} {s = s} {y = y} {ts = ts} {f = f} m p) w v g d =
      let q = abs-view d in
      let u = match-unique m (abs-body w) (abs-raised (k ∷ ks) v) q.0 q.1 q.2 in
      abs_part-unique p g (subst₂ (λ us o. AbsPart (extend ctx (k ∷ ks)) (enc_abs (Abs.Ex (k ∷ ks) s)) (k ∷ ks) us o (raise (k ∷ ks) (enc_abs y)) g) (sym u.0) (sym u.1) q.3)

  -- a match has at most one list of types and one coercion
  pub match-unique : {ctx : List Kind} {s : Sig} {x : Abs} {ts : List Ty} {f : Term} → Match ctx s x ts f → WellFormed ctx s → Explicit ctx x → (us : List Ty) (g : Term) → Match ctx s x us g → (ts ≡ us) × (f ≡ g)
  match-unique (Match.at {ctx = ctx} {ks = ks} {s = s} {t = t} {r = r} {ts = ts} o forms n a) w v us g d =
      let c = explicit-body v in
      let q = match-view c d in
      let nr = guess-form forms c n in
      let right = right-at v (types-kinds (forms-types forms)) nr in
      let e = same_types [] ts us refl refl (forms-types forms) q.1 (explicit-roots v) nr q.2 (λ p bs a1 b1 k ag. sub-agree a w right ag g q.3) in
      let er : r ≡ q.0 = form_sig-unique nr (subst (λ z. NormalSigForm ctx (sig_at z t) q.0) (sym e) q.2) in
      (e, sub-unique a w right g (subst (λ z. Sub ctx s z g) (sym er) q.3))

  -- right sides that agree along a path have the same type at its end
  pub sub-agree : {ctx : List Kind} {s r q : Sig} {f : Term} {p : SigPath} {bs : List Kind} {t u : Ty} {k : Kind} → Sub ctx s r f → WellFormed ctx s → IsRight ctx r → Agree r q p bs t u k → (g : Term) → Sub ctx s q g → t ≡ u
  sub-agree Sub.val w v ag g d = elim ag [ ]
  sub-agree Sub.typ w v Agree.end g d = (sub-view d).0
  sub-agree (Sub.meta a b) w v ag g d = elim ag [ ]
  sub-agree (Sub.str a) w v (Agree.field h1 h2 ag) g d =
      let q = sub-view d in
      let z = fields-at q.1 h2 in
      fields-agree a (str-fields w) (str-fields v.0) (str-results v.1) h1 ag z.1 z.2 z.3
  sub-agree (Sub.fun {ctx = ctx} {ks = ks} {js = js} {e = e} {s = s} {x = x} {y = y} m n r) w v (Agree.result {q = b} ag) g dd =
      let q = sub-view dd in
      let left = left-functor w in
      let right = right-functor v.0 v.1 in
      let u = match-unique m (explicit-right right.0).0 (param-raised js left.0) q.0 q.1 q.4 in
      let yy = form_abs-unique n (subst (λ us. NormalAbsForm (extend ctx js) (abs_at_under js us x) q.3) (sym u.0) q.5) in
      result-agree r (left-at ctx js left.1 (match-kinds m) n) right.1 ag q.2 (subst (λ o. SubResult (extend ctx js) e Pure o (Abs.Ex [] b) q.2) (sym yy) q.6)

  pub fields-agree : {ctx : List Kind} {fs gs : SigRow} {parts : TermRow} {l : Name} {s r q : Sig} {p : SigPath} {bs : List Kind} {t u : Ty} {k : Kind} → SubFields ctx fs gs parts → WellFormedRow ctx fs → WellFormedRow ctx gs → ExplicitResultsRow ctx gs → HasField gs l r → Agree r q p bs t u k → (g : Term) → HasField fs l s → Sub ctx s q g → t ≡ u
  fields-agree SubFields.end w v r h ag g hs d = elim h [ ]
  fields-agree {ctx} {q = q} (SubFields.more h a rest) w v r here ag g hs d = sub-agree a (row-field w h) ((row-first v).0, (results-first r).0) ag g (subst (λ o. Sub ctx o q g) (one-field hs h refl) d)
  fields-agree (SubFields.more h a rest) w v r (there n h1) ag g hs d = fields-agree rest w (row-first v).1 (results-first r).1 h1 ag g hs d

  pub result-agree : {ctx : List Kind} {e : Effect} {x : Abs} {r q : Sig} {f : Term} {p : SigPath} {bs : List Kind} {t u : Ty} {k : Kind} → SubResult ctx e Pure x (Abs.Ex [] r) f → WellFormedAbs ctx x → RightResult ctx Pure (Abs.Ex [] r) → Agree r q p bs t u k → (g : Term) → SubResult ctx e Pure x (Abs.Ex [] q) g → t ≡ u
  result-agree (SubResult.both_pure a) w (RightResult.pure v r) ag g d = sub-agree a (abs-body w) (v, r) ag g (result-view d)
