-- The functions give derivations and refusals, so one of the two exists.
-- Main results: sub_sig-ok, sub_abs-ok, match_sig-ok.
use Rattle.std.specs.Prelude.{ℕ, zero, suc, ◌+◌, ◌<◌, List, [], ◌∷◌, ◌≡◌, Option, length}
use Rattle.std.proofs.Common.{arith}
use Rattle.std.proofs.Math.Path.{refl, sym, ◌∙◌, ap, subst}
use Rattle.omega_kinds.specs.Kind.{Kind, Kind-discrete}
use Rattle.omega_kinds.specs.declared.effect.Effect.{Effect}
use Rattle.omega_kinds.specs.declared.effect.Effect.TheVariants.{Pure, Impure}
use Rattle.omega_kinds.specs.Name.{Name}
use Rattle.omega_types.specs.Ty.{Ty}
use Rattle.omega_types.specs.Normality.{Normal}
use Rattle.omega_types.specs.Binders.{extend, past, puts, raise, ex_over}
use Rattle.omega_terms.specs.Term.{Term, TermRow}
use Rattle.omega_terms.specs.Shorthands.{Packs}
use Rattle.omega_terms.specs.Coercions.{same_part, meta_part, functor_part, MatchPart, AbsPart}
use Rattle.sig_definitions.specs.Signatures.Sig.{Sig, Abs, SigRow, HasField, here}
use Rattle.sig_definitions.specs.Signatures.SigSubst.{raise_abs, sig_at, sig_at_under, abs_at_under}
use Rattle.sig_definitions.specs.Signatures.SigSize.{size, size_abs, size_row}
use Rattle.sig_laws.specs.NormalSig.{normal_sig, normal_abs}
use Rattle.sig_definitions.specs.Signatures.Alike.{NormalSigForm, NormalAbsForm}
use Rattle.sig_definitions.specs.Signatures.Encoding.{enc, enc_abs}
use Rattle.sig_definitions.specs.Explicit.WellFormed.{WellFormed}
use Rattle.sig_definitions.specs.Matching.Subtyping.{Sub, SubFields, SubResult, SubAbs, Match}
use Rattle.sig_laws.proofs.Algebra.AlikeLaws.{conv_abs-gives, conv_abs-substitute, substitutes-convertible}
use Rattle.sig_laws.proofs.Encoded.EncodingLaws.{enc_abs-normal, enc_abs-rename}
use Rattle.omega_types.proofs.BinderPuts.{NormalTypes, types-forms, types-kinds, fits-length, types-fit}
use Rattle.sig_laws.proofs.Algebra.Instances.{under-at-substitutes}
use Rattle.sig_laws.proofs.Algebra.SizeLaws.{size-substitute, size_abs-substitute, size_abs-rename, size-alike, size_abs-alike, field-size}
use Rattle.sig_laws.proofs.Formed.WellFormedLaws.{well_formed_abs-kinds, explicit-body}
use Rattle.sig_definitions.specs.Matching.LookUp.{Looked}
use Rattle.sig_definitions.specs.Matching.MatchRefusal.{Types, MatchRefusal, NoRoot, clash, SigForm, form, MayStandFor, RefusesMatch, RefusesSub, RefusesFields, RefusesResult, RefusesSubAbs}
use Rattle.sig_laws.specs.Decide.{dec_ty}
use Rattle.sig_match_laws.specs.MatchFunction.{Outcome, FieldsOutcome, MatchOutcome, Lookings, SubFn, AbsFn, Fns, with_types, compare_all, match_step, pack_up, plain_up, hidden_up, abs_step, where_same, where_both_same, both_ways, part_then, field_then, fields_step, fields_up, result_up, param_up, sub_step, fns, sub_sig, sub_abs, match_sig}
use Rattle.sig_match_laws.proofs.OneMatch.Views.{match-view}
use Rattle.sig_laws.proofs.Formed.Conditions.{left-functor, match-kinds}
use Rattle.sig_match_laws.proofs.LookUp.Good.{good-param, good-left_result, good-right_param, good-right_result, good-pure, good-impure, good-body, good-at, good-raised, good-left_field, good-right_field, good-meta, good-rest, explicit-left}
use Rattle.sig_match_laws.proofs.Function.PackUp.{pack_up-packs}
use Rattle.sig_match_laws.proofs.Function.LookSound.{FieldOk, has, lacks, find_field-ok, MatchOk, match_ok, refusal_ok, MatchSound, at-form, LookingsOk, found_ok, stop_ok, look_all-ok}
use Rattle.sig_laws.specs.Good.{OkSig, OkAbs, OkRight}
use Rattle.sig_match_laws.specs.MatchClaims.{IsRightSig}

-- what an outcome is to be

-- an outcome of subtyping that is derived: a coercion or a refusal
pub data SubOk (ctx : List Kind) (s r : Sig) : Outcome → Type 0 where
  sub_ok : {f : Term} → Sub ctx s r f → SubOk ctx s r (Outcome.coerced f)
  sub_no : {q : MatchRefusal} → RefusesSub ctx s r q → SubOk ctx s r (Outcome.refused q)

-- an outcome of subtyping between signatures that hide types that is derived: a coercion or a refusal
pub data AbsOk (ctx : List Kind) (x y : Abs) : Outcome → Type 0 where
  abs_ok : {f : Term} → SubAbs ctx x y f → AbsOk ctx x y (Outcome.coerced f)
  abs_no : {q : MatchRefusal} → RefusesSubAbs ctx x y q → AbsOk ctx x y (Outcome.refused q)

data FieldsOk (ctx : List Kind) (fs gs : SigRow) : FieldsOutcome → Type 0 where
  fields_ok : {f : TermRow} → SubFields ctx fs gs f → FieldsOk ctx fs gs (FieldsOutcome.parts f)
  fields_no : {q : MatchRefusal} → RefusesFields ctx fs gs q → FieldsOk ctx fs gs (FieldsOutcome.refused q)

data ResultOk (ctx : List Kind) (e d : Effect) (x z : Abs) : Outcome → Type 0 where
  result_ok : {f : Term} → SubResult ctx e d x z f → ResultOk ctx e d x z (Outcome.coerced f)
  result_no : {q : MatchRefusal} → RefusesResult ctx e d x z q → ResultOk ctx e d x z (Outcome.refused q)

abbrev pub SubSound : SubFn → ℕ → Type 0
SubSound f n = (ctx : List Kind) (s r : Sig) → size s + size r < n → OkSig ctx s → IsRightSig ctx r → SubOk ctx s r (f ctx s r)

abbrev pub AbsSound : AbsFn → ℕ → Type 0
AbsSound f n = (ctx : List Kind) (x y : Abs) → size_abs x + size_abs y < n → OkAbs ctx x → OkRight ctx y → AbsOk ctx x y (f ctx x y)

-- the functions on signatures up to a size give what is derived
abbrev pub FnsSound : Fns → ℕ → Type 0
FnsSound F n = SubSound F.0 n × AbsSound F.1 n × MatchSound F.2 n

-- matching

with_types-ok : {ctx ks : List Kind} {s r n : Sig} {ts : List Ty} {o : Outcome} → Looked ctx s ks r ts → NormalTypes ctx ts ks → NormalSigForm ctx (sig_at ts r) n → length ts ≡ length ks → SubOk ctx s n o → MatchOk ctx s (Abs.Ex ks r) (with_types ts o)
with_types-ok l n f e (sub_ok d) = match_ok (Match.at (types-kinds n) (types-forms n) f d)
with_types-ok l n f e (sub_no q) = refusal_ok (RefusesMatch.inside l e f q)

compare_all-ok : {ctx ks : List Kind} {s r : Sig} {o : Lookings} (f : SubFn) (n : ℕ) → SubSound f n → size s + size r < n → OkSig ctx s → OkRight ctx (Abs.Ex ks r) → LookingsOk ctx s ks r [] o → MatchOk ctx s (Abs.Ex ks r) (compare_all f ctx s r o)
compare_all-ok {ctx} {ks} {s} {r} f n h lt w v (found_ok {ts = ts} {rest = rest} e l b) =
    let nf = at-form v (types-kinds b) in
    let sz = sym (size-alike nf) ∙ size-substitute (puts ts Ty.Var) r in
    with_types-ok (subst (Looked ctx s ks r) (sym e) l) b nf (fits-length (types-fit b)) (h ctx s (normal_sig ctx (sig_at ts r)) (omega (arith, lt, sz)) w (good-at v (types-kinds b) nf))
compare_all-ok {ctx} {ks} {s} {r} f n h lt w v (stop_ok {ts = ts} {p = p} e l g small root stop) =
    refusal_ok (subst (λ z. RefusesMatch ctx s (Abs.Ex ks r) (NoRoot z p)) (sym g) (RefusesMatch.no_root (subst (Looked ctx s ks r) (sym e) l) small root stop))

-- the step of matching is sound if the functions on smaller signatures are
pub match_step-ok : (F : Fns) (n : ℕ) → FnsSound F n → MatchSound (match_step F) (suc n)
match_step-ok F n h ctx s (Abs.Ex ks r) lt w v = compare_all-ok F.0 n h.0 (omega arith) w v (look_all-ok F.2 n h.2 ctx s ks r [] [] ks (omega arith) w v refl NormalTypes.none)

-- subtyping of abstract signatures

encoded-normal : {ctx ks : List Kind} {r : Sig} → OkRight ctx (Abs.Ex ks r) → Normal ctx (ex_over ks (enc r)) Kind.Star
encoded-normal v = enc_abs-normal v.0 v.1

-- a sound match gives a sound answer of subtyping for a left side that hides nothing
pub plain-ok : {ctx : List Kind} {s : Sig} (y : Abs) {o : MatchOutcome} → OkRight ctx y → MatchOk ctx s y o → AbsOk ctx (Abs.Ex [] s) y (plain_up (enc s) (enc_abs y) o)
plain-ok (Abs.Ex ks r) v (match_ok {ts = ts} {f = f} m) = abs_ok (SubAbs.plain m (MatchPart.made (pack_up-packs (Term.Call f (Term.Var zero)) (enc r) (types-of v m) (encoded-normal v))))
  where
    types-of : {ctx : List Kind} {s : Sig} → OkRight ctx (Abs.Ex ks r) → Match ctx s (Abs.Ex ks r) ts f → NormalTypes ctx ts ks
    types-of v m = (match-view (explicit-body v.0) m).1
plain-ok (Abs.Ex ks r) v (refusal_ok q) = abs_no (RefusesSubAbs.plain q)

-- a sound match under the left types gives a sound answer of subtyping for a left side that hides types
pub hidden-ok : {ctx : List Kind} {s : Sig} (k : Kind) (ks : List Kind) (y : Abs) {o : MatchOutcome} → OkRight (extend ctx (k ∷ ks)) (raise_abs (k ∷ ks) y) → MatchOk (extend ctx (k ∷ ks)) s (raise_abs (k ∷ ks) y) o → AbsOk ctx (Abs.Ex (k ∷ ks) s) y (hidden_up (enc_abs (Abs.Ex (k ∷ ks) s)) (k ∷ ks) (raise (k ∷ ks) (enc_abs y)) o)
hidden-ok {ctx} {s} k ks (Abs.Ex js r) v (match_ok {ts = ts} {f = f} m) =
    let p = pack_up-packs (Term.Call f (Term.Var zero)) _ (match-view (explicit-body v.0) m).1 (encoded-normal v) in
    abs_ok (SubAbs.hidden m (AbsPart.made (subst (λ u. Packs (extend ctx (k ∷ ks)) ts (Term.Call f (Term.Var zero)) u (pack_up ts (Term.Call f (Term.Var zero)) u)) (enc_abs-rename (past (k ∷ ks)) (Abs.Ex js r)) p)))
hidden-ok k ks (Abs.Ex js r) v (refusal_ok q) = abs_no (RefusesSubAbs.hidden q)

-- the step of subtyping between signatures that hide types is sound if the functions on smaller signatures are
pub abs_step-ok : (F : Fns) (n : ℕ) → FnsSound F n → AbsSound (abs_step F) (suc n)
abs_step-ok F n h ctx (Abs.Ex [] s) y lt w v = plain-ok y v (h.2 ctx s y (omega arith) (good-body w) v)
abs_step-ok F n h ctx (Abs.Ex (k ∷ ks) s) y lt w v =
    let e = size_abs-rename (past (k ∷ ks)) y in
    hidden-ok k ks y (good-raised (k ∷ ks) v) (h.2 (extend ctx (k ∷ ks)) s (raise_abs (k ∷ ks) y) (omega (arith, lt, e)) (good-body w) (good-raised (k ∷ ks) v))

-- subtyping

value-ok : {ctx : List Kind} {t u : Ty} (d : Dec (t ≡ u)) → SubOk ctx (Sig.Val t) (Sig.Val u) (where_same d (same_part (enc (Sig.Val t))) (clash ctx (Types t u)))
value-ok {ctx} {t} {u} (yes e) = sub_ok (subst (λ x. Sub ctx (Sig.Val t) (Sig.Val x) (same_part (enc (Sig.Val t)))) e Sub.val)
value-ok (no n) = sub_no (RefusesSub.values n)

type-ok : {ctx : List Kind} {t u : Ty} {k j : Kind} (d : Dec (t ≡ u)) (c : Dec (k ≡ j)) → SubOk ctx (Sig.Typ t k) (Sig.Typ u j) (where_both_same d c (same_part (enc (Sig.Typ t k))) (clash ctx (Types t u)))
type-ok {ctx} {t} {u} {k} {j} (yes e) (yes g) = sub_ok (go e g)
  where
    go : {u : Ty} {j : Kind} → t ≡ u → k ≡ j → Sub ctx (Sig.Typ t k) (Sig.Typ u j) (same_part (enc (Sig.Typ t k)))
    go {u} {j} e g = subst (λ x. Sub ctx (Sig.Typ t k) (Sig.Typ x j) (same_part (enc (Sig.Typ t k)))) e (subst (λ i. Sub ctx (Sig.Typ t k) (Sig.Typ t i) (same_part (enc (Sig.Typ t k)))) g Sub.typ)
type-ok (yes e) (no n) = sub_no (RefusesSub.types (λ q. n q.1))
type-ok (no n) c = sub_no (RefusesSub.types (λ q. n q.0))

both_ways-ok : {ctx : List Kind} {x y : Abs} {o p : Outcome} → AbsOk ctx x y o → AbsOk ctx y x p → SubOk ctx (Sig.Meta x) (Sig.Meta y) (both_ways (meta_part (enc (Sig.Meta x)) (enc_abs y)) o p)
both_ways-ok (abs_no q) c = sub_no (RefusesSub.meta_first q)
both_ways-ok (abs_ok a) (abs_no q) = sub_no (RefusesSub.meta_second a q)
both_ways-ok (abs_ok a) (abs_ok b) = sub_ok (Sub.meta a b)

part_then-ok : {ctx : List Kind} {fs gs : SigRow} {l : Name} {s t : Sig} {o : Outcome} {p : FieldsOutcome} → HasField fs l s → SubOk ctx s t o → FieldsOk ctx fs gs p → FieldsOk ctx fs (SigRow.More l t gs) (part_then l o p)
part_then-ok h (sub_no q) c = fields_no (RefusesFields.at_field h q)
part_then-ok h (sub_ok d) (fields_no q) = fields_no (RefusesFields.later h d q)
part_then-ok h (sub_ok d) (fields_ok c) = fields_ok (SubFields.more h d c)

field_then-ok : {ctx : List Kind} {fs gs : SigRow} {l : Name} {t : Sig} {a : Option Sig} {p : FieldsOutcome} (f : SubFn) → FieldOk fs l a → ((s : Sig) → HasField fs l s → SubOk ctx s t (f ctx s t)) → FieldsOk ctx fs gs p → FieldsOk ctx fs (SigRow.More l t gs) (field_then f ctx l a t p)
field_then-ok f (lacks n) k c = fields_no (RefusesFields.missing n)
field_then-ok f (has {s = s} h) k c = part_then-ok h (k s h) c

fields_step-ok : (f : SubFn) (n : ℕ) → SubSound f n → (ctx : List Kind) (fs gs : SigRow) → size_row fs + size_row gs < n → OkSig ctx (Sig.Str fs) → IsRightSig ctx (Sig.Str gs) → FieldsOk ctx fs gs (fields_step f ctx fs gs)
fields_step-ok f n h ctx fs SigRow.End lt w v = fields_ok SubFields.end
fields_step-ok f n h ctx fs (SigRow.More l t gs) lt w v =
    field_then-ok f (find_field-ok l fs) (λ s g. let e = field-size g in h ctx s t (omega (arith, lt, e)) (good-left_field w g) (good-right_field v here)) (fields_step-ok f n h ctx fs gs (omega arith) w (good-rest v))

fields_up-ok : {ctx : List Kind} {fs gs : SigRow} {o : FieldsOutcome} → FieldsOk ctx fs gs o → SubOk ctx (Sig.Str fs) (Sig.Str gs) (fields_up (enc (Sig.Str fs)) o)
fields_up-ok (fields_ok d) = sub_ok (Sub.str d)
fields_up-ok (fields_no q) = sub_no (RefusesSub.structures q)

to_impure-ok : {ctx : List Kind} {e : Effect} {x z : Abs} {o : Outcome} → AbsOk ctx x z o → ResultOk ctx e Impure x z o
to_impure-ok (abs_ok a) = result_ok (SubResult.to_impure a)
to_impure-ok (abs_no q) = result_no (RefusesResult.to_impure q)

both_pure-ok : {ctx : List Kind} {s t : Sig} {o : Outcome} → SubOk ctx s t o → ResultOk ctx Pure Pure (Abs.Ex [] s) (Abs.Ex [] t) o
both_pure-ok (sub_ok a) = result_ok (SubResult.both_pure a)
both_pure-ok (sub_no q) = result_no (RefusesResult.both_pure q)

result_up-ok : {ctx ks js : List Kind} {e d : Effect} {s t : Sig} {x y z : Abs} {ts : List Ty} {f : Term} {o : Outcome} → MayStandFor e d → Match (extend ctx js) t (raise_abs js (Abs.Ex ks s)) ts f → NormalAbsForm (extend ctx js) (abs_at_under js ts x) y → ResultOk (extend ctx js) e d y z o → SubOk ctx (Sig.Fun e ks s x) (Sig.Fun d js t z) (result_up (λ g. functor_part (enc (Sig.Fun e ks s x)) e d js (enc t) ts f g) o)
result_up-ok a m n (result_ok r) = sub_ok (Sub.fun m n r)
result_up-ok a m n (result_no q) = sub_no (RefusesSub.results a m n q)

param_up-ok : {ctx ks js : List Kind} {e d : Effect} {s t : Sig} {x z : Abs} {o : MatchOutcome} (k : List Ty → Term → Outcome) → MayStandFor e d → MatchOk (extend ctx js) t (raise_abs js (Abs.Ex ks s)) o
    → ((ts : List Ty) (f : Term) → Match (extend ctx js) t (raise_abs js (Abs.Ex ks s)) ts f → SubOk ctx (Sig.Fun e ks s x) (Sig.Fun d js t z) (k ts f))
    → SubOk ctx (Sig.Fun e ks s x) (Sig.Fun d js t z) (param_up k o)
param_up-ok k a (refusal_ok q) h = sub_no (RefusesSub.params a q)
param_up-ok k a (match_ok {ts = ts} {f = f} m) h = h ts f m

-- the left result at the types of the parameter's match
left-form : {ctx ks : List Kind} (js : List Kind) {e : Effect} {s t : Sig} {x : Abs} {ts : List Ty} {g : Term} → OkSig ctx (Sig.Fun e ks s x) → Match (extend ctx js) t (raise_abs js (Abs.Ex ks s)) ts g → NormalAbsForm (extend ctx js) (abs_at_under js ts x) (normal_abs (extend ctx js) (abs_at_under js ts x))
left-form {ctx} {ks} js {e} {s} {t} {x} {ts} w m =
    let f = puts ts (λ i. Ty.Var (past js i)) in
    conv_abs-gives (conv_abs-substitute f f (substitutes-convertible (under-at-substitutes ctx js (match-kinds m))) (well_formed_abs-kinds (left-functor w.0).1))

to_impure-step : (F : Fns) (n : ℕ) → FnsSound F n → (ctx : List Kind) (e : Effect) (ks js : List Kind) (s t : Sig) (x z : Abs) → (size s + size_abs x) + (size t + size_abs z) < n → MayStandFor e Impure → OkSig ctx (Sig.Fun e ks s x) → IsRightSig ctx (Sig.Fun Impure js t z)
    → SubOk ctx (Sig.Fun e ks s x) (Sig.Fun Impure js t z)
    (param_up (λ ts f. result_up (λ g. functor_part (enc (Sig.Fun e ks s x)) e Impure js (enc t) ts f g) (F.1 (extend ctx js) (normal_abs (extend ctx js) (abs_at_under js ts x)) z))
    (F.2 (extend ctx js) t (raise_abs js (Abs.Ex ks s))))
to_impure-step F n h ctx e ks js s t (Abs.Ex is c) z lt a w v =
    param_up-ok _ a (let g = size_abs-rename (past js) (Abs.Ex ks s) in h.2 (extend ctx js) t (raise_abs js (Abs.Ex ks s)) (omega (arith, lt, g)) (good-right_param v) (good-param js w))
    (λ ts f m.
    let nf = left-form js w m in
    let g = sym (size_abs-alike nf) ∙ size_abs-substitute (puts ts (λ i. Ty.Var (past js i))) (Abs.Ex is c) in
    result_up-ok a m nf (to_impure-ok (h.1 (extend ctx js) (normal_abs (extend ctx js) (abs_at_under js ts (Abs.Ex is c))) z (omega (arith, lt, g)) (good-left_result ctx js w (match-kinds m) nf) (good-impure (good-right_result v)))))

both_pure-step : (F : Fns) (n : ℕ) → FnsSound F n → (ctx : List Kind) (ks js : List Kind) (s t a b : Sig) → (size s + suc (size a)) + (size t + suc (size b)) < n → OkSig ctx (Sig.Fun Pure ks s (Abs.Ex [] a)) → IsRightSig ctx (Sig.Fun Pure js t (Abs.Ex [] b))
    → SubOk ctx (Sig.Fun Pure ks s (Abs.Ex [] a)) (Sig.Fun Pure js t (Abs.Ex [] b))
    (param_up (λ ts f. result_up (λ g. functor_part (enc (Sig.Fun Pure ks s (Abs.Ex [] a))) Pure Pure js (enc t) ts f g) (F.0 (extend ctx js) (normal_sig (extend ctx js) (sig_at_under js ts a)) b))
    (F.2 (extend ctx js) t (raise_abs js (Abs.Ex ks s))))
both_pure-step F n h ctx ks js s t a b lt w v =
    param_up-ok _ tt (let g = size_abs-rename (past js) (Abs.Ex ks s) in h.2 (extend ctx js) t (raise_abs js (Abs.Ex ks s)) (omega (arith, lt, g)) (good-right_param v) (good-param js w))
    (λ ts f m.
    let nf = left-form js w m in
    let g = sym (size_abs-alike nf) ∙ size_abs-substitute (puts ts (λ i. Ty.Var (past js i))) (Abs.Ex [] a) in
    result_up-ok tt m nf (both_pure-ok (h.0 (extend ctx js) (normal_sig (extend ctx js) (sig_at_under js ts a)) b (omega (arith, lt, g)) (good-body (good-left_result ctx js w (match-kinds m) nf)) (good-pure (good-right_result v)))))

abbrev form_number : SigForm → ℕ
form_number SigForm.value = 0
form_number SigForm.type = 1
form_number SigForm.signature = 2
form_number SigForm.structure = 3
form_number SigForm.functor = 4

pure-hides : {ctx ks more : List Kind} {k : Kind} {s r : Sig} → WellFormed ctx (Sig.Fun Pure ks s (Abs.Ex (k ∷ more) r)) → ⊥
pure-hides h = elim h [ ]

-- the step of subtyping is sound if the functions on smaller signatures are
pub sub_step-ok : (F : Fns) (n : ℕ) → FnsSound F n → SubSound (sub_step F) (suc n)
sub_step-ok F n h ctx (Sig.Val t) (Sig.Val u) lt w v = value-ok (dec_ty t u)
sub_step-ok F n h ctx (Sig.Typ t k) (Sig.Typ u j) lt w v = type-ok (dec_ty t u) (Kind-discrete k j)
sub_step-ok F n h ctx (Sig.Meta x) (Sig.Meta y) lt w v =
    let wx = good-meta w in
    let vy = good-meta (v.0.0, v.1) in
    both_ways-ok (h.1 ctx x y (omega arith) (explicit-left wx) vy) (h.1 ctx y x (omega arith) (explicit-left vy) wx)
sub_step-ok F n h ctx (Sig.Str fs) (Sig.Str gs) lt w v = fields_up-ok (fields_step-ok F.0 n h.0 ctx fs gs (omega arith) w v)
sub_step-ok F n h ctx (Sig.Fun Pure ks s (Abs.Ex [] a)) (Sig.Fun Pure js t (Abs.Ex [] b)) lt w v = both_pure-step F n h ctx ks js s t a b (omega arith) w v
sub_step-ok F n h ctx (Sig.Fun Pure ks s (Abs.Ex (k ∷ more) a)) (Sig.Fun Pure js t z) lt w v = absurd (pure-hides w.0)
sub_step-ok F n h ctx (Sig.Fun Pure ks s (Abs.Ex [] a)) (Sig.Fun Pure js t (Abs.Ex (k ∷ more) b)) lt w v = absurd (pure-hides v.0.0)
sub_step-ok F n h ctx (Sig.Fun Pure ks s x) (Sig.Fun Impure js t z) lt w v = to_impure-step F n h ctx Pure ks js s t x z (omega arith) tt w v
sub_step-ok F n h ctx (Sig.Fun Impure ks s x) (Sig.Fun Impure js t z) lt w v = to_impure-step F n h ctx Impure ks js s t x z (omega arith) tt w v
sub_step-ok F n h ctx (Sig.Fun Impure ks s x) (Sig.Fun Pure js t z) lt w v = sub_no RefusesSub.effects
sub_step-ok F n h ctx s r lt w v = sub_no (RefusesSub.forms (λ e. other_form e))
  where
    other_form : form s ≡ form r → ⊥
    other_form e = let g = ap form_number e in omega (arith, g)

-- the functions for signatures up to a size

pub fns-ok : (n : ℕ) → FnsSound (fns n) n
fns-ok zero = (λ ctx s r lt w v. absurd (omega (arith, lt)), λ ctx x y lt w v. absurd (omega (arith, lt)), λ ctx s x lt w v. absurd (omega (arith, lt)))
fns-ok (suc n) = let h = fns-ok n in (sub_step-ok (fns n) n h, abs_step-ok (fns n) n h, match_step-ok (fns n) n h)

-- the function of subtyping gives a coercion that is derived, or a refusal that is
pub sub_sig-ok : (ctx : List Kind) (s r : Sig) → OkSig ctx s → IsRightSig ctx r → SubOk ctx s r (sub_sig ctx s r)
sub_sig-ok ctx s r w v = (fns-ok (suc (size s + size r))).0 ctx s r (omega arith) w v

-- the function of subtyping between signatures that hide types gives a coercion or a refusal that is derived
pub sub_abs-ok : (ctx : List Kind) (x y : Abs) → OkAbs ctx x → OkRight ctx y → AbsOk ctx x y (sub_abs ctx x y)
sub_abs-ok ctx x y w v = (fns-ok (suc (size_abs x + size_abs y))).1 ctx x y (omega arith) w v

-- the function of matching gives types and a coercion that are derived, or a refusal that is
pub match_sig-ok : (ctx : List Kind) (s : Sig) (x : Abs) → OkSig ctx s → OkRight ctx x → MatchOk ctx s x (match_sig ctx s x)
match_sig-ok ctx s x w v = (fns-ok (suc (size s + size_abs x))).2 ctx s x (omega arith) w v
