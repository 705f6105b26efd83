-- An answer that holds is the only one.
-- Main results: only-match, only-sub_abs.
use Rattle.std.proofs.Common.{List, Option, Some, None, Result, Ok, Err, sym}
use Rattle.omega_kinds.specs.Kind.{Kind}
use Rattle.omega_terms.specs.Term.{Term}
use Rattle.sig_definitions.specs.Signatures.Sig.{Sig, Abs}
use Rattle.sig_definitions.specs.Matching.MatchRefusal.{MatchRefusal, RefusesMatch, RefusesSubAbs}
use Rattle.sig_match_laws.proofs.OneMatch.Unique.{match-unique, abs-unique}
use Rattle.sig_match_laws.proofs.LookUp.Refused.{match-excluded, abs-excluded}
use Rattle.sig_match_laws.proofs.LookUp.OneRefusal.{match-one, abs-one}
use Rattle.sig_match.specs.declared.refusal.Matched.{Matched}
use Rattle.sig_match.specs.declared.refusal.MatchRefusal.{MatchRefusal as CodeRefusal}
use Rattle.sig_match.specs.Inner.Refusals.{Holds, plain_refusal}
use Rattle.sig_match.specs.Inner.Outcomes.{MatchGives, SubAbsGives}
use Rattle.sig_match.specs.Inner.Exact.{NoMatch, OnlyMatch, NoSubAbs, OnlySubAbs}
use Rattle.sig_laws.specs.Good.{OkSig, OkAbs, OkRight}

no-match : (ctx : List Kind) (s : Sig) (x : Abs) (o : Option MatchRefusal) → OkSig ctx s → OkRight ctx x → Holds (RefusesMatch ctx s x) o → NoMatch ctx s x o
no-match ctx s x None w v h = tt
no-match ctx s x (Some q) w v h = (λ ts f m. match-excluded h w v ts f m, λ p r. sym (match-one h w v p r))

-- an answer of matching is the only one: one match, or one refusal
pub only-match : (ctx : List Kind) (s : Sig) (x : Abs) (o : Result Matched CodeRefusal) → OkSig ctx s → OkRight ctx x → MatchGives ctx s x o → OnlyMatch ctx s x o
only-match ctx s x (Ok m) w v h = (λ ts f k. let e = match-unique h w.0 v.0 ts f k in (sym e.0, sym e.1), λ q r. match-excluded r w v m.types m.coercion h)
only-match ctx s x (Err e) w v h = no-match ctx s x (plain_refusal e) w v h

no-sub_abs : (ctx : List Kind) (x y : Abs) (o : Option MatchRefusal) → OkAbs ctx x → OkRight ctx y → Holds (RefusesSubAbs ctx x y) o → NoSubAbs ctx x y o
no-sub_abs ctx x y None w v h = tt
no-sub_abs ctx x y (Some q) w v h = (λ f d. abs-excluded h w v f d, λ p r. sym (abs-one h w v p r))

-- an answer of subtyping between signatures that hide types is the only one: one coercion, or one refusal
pub only-sub_abs : (ctx : List Kind) (x y : Abs) (o : Result Term CodeRefusal) → OkAbs ctx x → OkRight ctx y → SubAbsGives ctx x y o → OnlySubAbs ctx x y o
only-sub_abs ctx x y (Ok g) w v h = (λ f d. sym (abs-unique h w.0 v.0 f d), λ q r. abs-excluded r w v g h)
only-sub_abs ctx x y (Err e) w v h = no-sub_abs ctx x y (plain_refusal e) w v h
