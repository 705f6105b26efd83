-- The theorems.
-- Main results: one_match, match_is_looked_up, match_or_refusal, not_both, one_refusal, match_sig_gives.
use Rattle.std.specs.Prelude.{ℕ, ◌+◌, List, ◌≡◌, ◌⊎◌}
use Rattle.std.proofs.Math.Logic.{inl, inr}
use Rattle.std.proofs.Common.{arith}
use Rattle.std.proofs.Math.Path.{ap, ap₂, subst, sym}
use Rattle.omega_kinds.specs.Kind.{Kind}
use Rattle.omega_types.specs.Ty.{Ty}
use Rattle.omega_terms.specs.Term.{Term}
use Rattle.sig_definitions.specs.Signatures.Sig.{Sig, Abs}
use Rattle.sig_definitions.specs.Signatures.SigSize.{size, size_abs}
use Rattle.sig_definitions.specs.Matching.Subtyping.{Sub, SubAbs, Match}
use Rattle.sig_definitions.specs.Matching.MatchRefusal.{MatchRefusal, RefusesMatch, RefusesSub, RefusesSubAbs}
use Rattle.sig_match_laws.specs.MatchFunction.{Outcome, MatchOutcome, match_sig, sub_sig, sub_abs}
use Rattle.sig_match_laws.specs.MatchClaims.{OneMatch, OneSub, OneSubAbs, SearchGives, MatchIsLookedUp, OneFound, MatchOrRefusal, SubOrRefusal, SubAbsOrRefusal, NotBoth, OneMatchOrRefusal, OneRefusal, SubNotBoth, SubAbsNotBoth, OneSubRefusal, OneSubAbsRefusal, MatchSigGives, SubSigGives, SubAbsGives, MatchSigStep, SubSigStep, SubAbsStep, IsRightSig}
use Rattle.sig_match_laws.proofs.OneMatch.Unique.{sub-unique, abs-unique, match-unique}
use Rattle.sig_match_laws.proofs.LookUp.Roots.{least_root-gives}
use Rattle.sig_match_laws.proofs.LookUp.LookUpLaws.{match-looked, found_at-unique}
use Rattle.sig_match_laws.proofs.LookUp.Refused.{sub-excluded, abs-excluded, match-excluded}
use Rattle.sig_match_laws.proofs.LookUp.OneRefusal.{sub-refusal, abs-one, match-one}
use Rattle.sig_match_laws.proofs.Function.LookSound.{MatchOk, match_ok, refusal_ok}
use Rattle.sig_match_laws.proofs.Function.FunctionSound.{SubOk, sub_ok, sub_no, AbsOk, abs_ok, abs_no, FnsSound, sub_sig-ok, sub_abs-ok, match_sig-ok, sub_step-ok, abs_step-ok, match_step-ok}
use Rattle.sig_laws.specs.Good.{OkSig, OkAbs, OkRight}
use Rattle.sig_definitions.specs.Verdict.{Verdict, holds, refuses}

-- a match has at most one list of types and one coercion
pub one_match : OneMatch
one_match ctx s x ts us f g w v m n = match-unique m w v us g n

-- subtyping has at most one coercion
pub one_sub : OneSub
one_sub ctx s r f g w v q d c = sub-unique d w (v, q) g c

-- subtyping between signatures that hide types has at most one coercion
pub one_sub_abs : OneSubAbs
one_sub_abs ctx x y f g w v d c = abs-unique d w v g c

-- the search finds a path exactly if it is the least root path
pub search_gives : SearchGives
search_gives ctx ks s number p w n lt = least_root-gives w n lt p

-- the types of a match are those that are looked up along root paths
pub match_is_looked_up : MatchIsLookedUp
match_is_looked_up ctx ks s r ts f v m = match-looked v m

-- at most one type is found for a hidden type
pub one_found : OneFound
one_found ctx ks s r before t u w v lt f g = found_at-unique before w v lt f g

-- from outcomes

match-or : {ctx : List Kind} {s : Sig} {x : Abs} {o : MatchOutcome} → MatchOk ctx s x o → ((ts : List Ty) × (f : Term) × Match ctx s x ts f) ⊎ ((q : MatchRefusal) × RefusesMatch ctx s x q)
match-or (match_ok {ts = ts} {f = f} m) = inl (ts, f, m)
match-or (refusal_ok {q = q} r) = inr (q, r)

sub-or : {ctx : List Kind} {s r : Sig} {o : Outcome} → SubOk ctx s r o → ((f : Term) × Sub ctx s r f) ⊎ ((q : MatchRefusal) × RefusesSub ctx s r q)
sub-or (sub_ok {f = f} d) = inl (f, d)
sub-or (sub_no {q = q} d) = inr (q, d)

abs-or : {ctx : List Kind} {x y : Abs} {o : Outcome} → AbsOk ctx x y o → ((f : Term) × SubAbs ctx x y f) ⊎ ((q : MatchRefusal) × RefusesSubAbs ctx x y q)
abs-or (abs_ok {f = f} d) = inl (f, d)
abs-or (abs_no {q = q} d) = inr (q, d)

-- there is a match or a refusal of it
pub match_or_refusal : MatchOrRefusal
match_or_refusal ctx s x w v = match-or (match_sig-ok ctx s x w v)

-- there is a coercion of subtyping or a refusal of it
pub sub_or_refusal : SubOrRefusal
sub_or_refusal ctx s r w v = sub-or (sub_sig-ok ctx s r w v)

-- there is a coercion of subtyping between signatures that hide types or a refusal of it
pub sub_abs_or_refusal : SubAbsOrRefusal
sub_abs_or_refusal ctx x y w v = abs-or (sub_abs-ok ctx x y w v)

-- a match and a refusal of it exclude each other
pub not_both : NotBoth
not_both ctx s x ts f q w v m r = match-excluded r w v ts f m

-- a match has at most one refusal
pub one_refusal : OneRefusal
one_refusal ctx s x p q w v a b = match-one a w v q b

-- a coercion of subtyping and a refusal of it exclude each other
pub sub_not_both : SubNotBoth
sub_not_both ctx s r f q w v d a = sub-excluded a w v f d

-- a coercion of subtyping between signatures that hide types and a refusal of it exclude each other
pub sub_abs_not_both : SubAbsNotBoth
sub_abs_not_both ctx x y f q w v d a = abs-excluded a w v f d

-- subtyping has at most one refusal
pub one_sub_refusal : OneSubRefusal
one_sub_refusal ctx s r p q w v a b = sub-refusal a w v q b

-- subtyping between signatures that hide types has at most one refusal
pub one_sub_abs_refusal : OneSubAbsRefusal
one_sub_abs_refusal ctx x y p q w v a b = abs-one a w v q b

-- what each outcome means

abbrev MatchMeans : List Kind → Sig → Abs → MatchOutcome → Type 0
MatchMeans ctx s x (MatchOutcome.matched ts f) = Match ctx s x ts f
MatchMeans ctx s x (MatchOutcome.refused q) = RefusesMatch ctx s x q

match-means : {ctx : List Kind} {s : Sig} {x : Abs} {o : MatchOutcome} → MatchOk ctx s x o → MatchMeans ctx s x o
match-means (match_ok m) = m
match-means (refusal_ok r) = r

match-back : {ctx : List Kind} {s : Sig} {x : Abs} {o p : MatchOutcome} → OkSig ctx s → OkRight ctx x → MatchOk ctx s x o → MatchOk ctx s x p → o ≡ p
match-back w v (match_ok m) (match_ok {ts = us} {f = g} n) = let e = match-unique m w.0 v.0 us g n in ap₂ MatchOutcome.matched e.0 e.1
match-back w v (match_ok {ts = ts} {f = f} m) (refusal_ok r) = absurd (match-excluded r w v ts f m)
match-back w v (refusal_ok r) (match_ok {ts = ts} {f = f} m) = absurd (match-excluded r w v ts f m)
match-back w v (refusal_ok r) (refusal_ok {q = q} z) = ap MatchOutcome.refused (match-one r w v q z)

-- the function of matching gives exactly what is derived
pub match_sig_gives : MatchSigGives
match_sig_gives ctx s x w v = (
  (λ ts f. (λ e. subst (MatchMeans ctx s x) e (match-means (match_sig-ok ctx s x w v)), λ m. match-back w v (match_sig-ok ctx s x w v) (match_ok m))),
  (λ q. (λ e. subst (MatchMeans ctx s x) e (match-means (match_sig-ok ctx s x w v)), λ r. match-back w v (match_sig-ok ctx s x w v) (refusal_ok r))),
)

abbrev SubMeans : List Kind → Sig → Sig → Outcome → Type 0
SubMeans ctx s r (Outcome.coerced f) = Sub ctx s r f
SubMeans ctx s r (Outcome.refused q) = RefusesSub ctx s r q

sub-means : {ctx : List Kind} {s r : Sig} {o : Outcome} → SubOk ctx s r o → SubMeans ctx s r o
sub-means (sub_ok d) = d
sub-means (sub_no d) = d

sub-back : {ctx : List Kind} {s r : Sig} {o p : Outcome} → OkSig ctx s → IsRightSig ctx r → SubOk ctx s r o → SubOk ctx s r p → o ≡ p
sub-back w v (sub_ok d) (sub_ok {f = g} c) = ap Outcome.coerced (sub-unique d w.0 v.0 g c)
sub-back w v (sub_ok {f = f} d) (sub_no r) = absurd (sub-excluded r w v f d)
sub-back w v (sub_no r) (sub_ok {f = f} d) = absurd (sub-excluded r w v f d)
sub-back w v (sub_no r) (sub_no {q = q} z) = ap Outcome.refused (sub-refusal r w v q z)

-- the function of subtyping gives exactly what is derived
pub sub_sig_gives : SubSigGives
sub_sig_gives ctx s r w v = (
  (λ f. (λ e. subst (SubMeans ctx s r) e (sub-means (sub_sig-ok ctx s r w v)), λ m. sub-back w v (sub_sig-ok ctx s r w v) (sub_ok m))),
  (λ q. (λ e. subst (SubMeans ctx s r) e (sub-means (sub_sig-ok ctx s r w v)), λ z. sub-back w v (sub_sig-ok ctx s r w v) (sub_no z))),
)

abbrev AbsMeans : List Kind → Abs → Abs → Outcome → Type 0
AbsMeans ctx x y (Outcome.coerced f) = SubAbs ctx x y f
AbsMeans ctx x y (Outcome.refused q) = RefusesSubAbs ctx x y q

abs-means : {ctx : List Kind} {x y : Abs} {o : Outcome} → AbsOk ctx x y o → AbsMeans ctx x y o
abs-means (abs_ok d) = d
abs-means (abs_no d) = d

abs-back : {ctx : List Kind} {x y : Abs} {o p : Outcome} → OkAbs ctx x → OkRight ctx y → AbsOk ctx x y o → AbsOk ctx x y p → o ≡ p
abs-back w v (abs_ok d) (abs_ok {f = g} c) = ap Outcome.coerced (abs-unique d w.0 v.0 g c)
abs-back w v (abs_ok {f = f} d) (abs_no r) = absurd (abs-excluded r w v f d)
abs-back w v (abs_no r) (abs_ok {f = f} d) = absurd (abs-excluded r w v f d)
abs-back w v (abs_no r) (abs_no {q = q} z) = ap Outcome.refused (abs-one r w v q z)

-- the function of subtyping between signatures that hide types gives exactly what is derived
pub sub_abs_gives : SubAbsGives
sub_abs_gives ctx x y w v = (
  (λ f. (λ e. subst (AbsMeans ctx x y) e (abs-means (sub_abs-ok ctx x y w v)), λ m. abs-back w v (sub_abs-ok ctx x y w v) (abs_ok m))),
  (λ q. (λ e. subst (AbsMeans ctx x y) e (abs-means (sub_abs-ok ctx x y w v)), λ z. abs-back w v (sub_abs-ok ctx x y w v) (abs_no z))),
)

-- the functions are right for signatures of all sizes, so they can be called by themselves

whole : (n : ℕ) → FnsSound (sub_sig, sub_abs, match_sig) n
whole n = (λ ctx s r lt w v. sub_sig-ok ctx s r w v, λ ctx x y lt w v. sub_abs-ok ctx x y w v, λ ctx s x lt w v. match_sig-ok ctx s x w v)

-- the function of matching is one step of itself and of the functions of subtyping
pub match_sig_step : MatchSigStep
match_sig_step ctx s x w v = let n = size s + size_abs x in match-back w v (match_sig-ok ctx s x w v) (match_step-ok (sub_sig, sub_abs, match_sig) n (whole n) ctx s x (omega arith) w v)

-- the function of subtyping is one step of itself, of that for hidden types and of that of matching
pub sub_sig_step : SubSigStep
sub_sig_step ctx s r w v = let n = size s + size r in sub-back w v (sub_sig-ok ctx s r w v) (sub_step-ok (sub_sig, sub_abs, match_sig) n (whole n) ctx s r (omega arith) w v)

-- the function of subtyping between signatures that hide types is one step of itself and of the other two
pub sub_abs_step : SubAbsStep
sub_abs_step ctx x y w v = let n = size_abs x + size_abs y in abs-back w v (sub_abs-ok ctx x y w v) (abs_step-ok (sub_sig, sub_abs, match_sig) n (whole n) ctx x y (omega arith) w v)

-- exactly one match or exactly one refusal
pub match-verdict : OneMatchOrRefusal
match-verdict ctx s x h w = go (match_or_refusal ctx s x h w)
  where
    go : ((ts : List Ty) × (f : Term) × Match ctx s x ts f) ⊎ ((r : MatchRefusal) × RefusesMatch ctx s x r) → Verdict (λ (o : List Ty × Term). Match ctx s x o.0 o.1) (RefusesMatch ctx s x)
    go (inl m) = holds (m.0, m.1) m.2 (λ o n. let e = match-unique n h.0 w.0 m.0 m.1 m.2 in (λ i. (e.0 i, e.1 i))) (λ r q. not_both ctx s x m.0 m.1 r h w m.2 q)
    go (inr r) = refuses r.0 r.1 (λ q n. sym (one_refusal ctx s x r.0 q h w r.1 n)) (λ o m. not_both ctx s x o.0 o.1 r.0 h w m r.1)
