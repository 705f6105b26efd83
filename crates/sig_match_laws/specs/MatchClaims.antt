-- What is proved of matching.
use Rattle.std.specs.Prelude.{ℕ, List, ◌≡◌, ◌<◌, ◌⊎◌, ◌↔◌, ◌++◌, Some, None, length}
use Rattle.omega_kinds.specs.Kind.{Kind}
use Rattle.omega_types.specs.Ty.{Ty}
use Rattle.omega_types.specs.Binders.{extend, OfKinds}
use Rattle.omega_terms.specs.Term.{Term}
use Rattle.sig_definitions.specs.Signatures.Sig.{Sig, Abs}
use Rattle.sig_definitions.specs.Signatures.Alike.{NormalSig}
use Rattle.sig_laws.specs.NormalSig.{normal_sig}
use Rattle.sig_definitions.specs.Signatures.SigSubst.{sig_at}
use Rattle.sig_definitions.specs.Explicit.SigPath.{SigPath}
use Rattle.sig_definitions.specs.Explicit.RootPath.{LeastRoot}
use Rattle.sig_definitions.specs.Explicit.WellFormed.{WellFormed, WellFormedAbs, ExplicitResults, Explicit}
use Rattle.sig_definitions.specs.Matching.Subtyping.{Sub, SubAbs, Match}
use Rattle.sig_definitions.specs.Matching.LookUp.{Found, FoundAt, Looked}
use Rattle.sig_definitions.specs.Matching.MatchRefusal.{MatchRefusal, RefusesMatch, RefusesSub, RefusesSubAbs}
use Rattle.sig_match_laws.specs.RootSearch.{least_root}
use Rattle.sig_match_laws.specs.MatchFunction.{Outcome, MatchOutcome, match_step, MatchFn, look, sub_step, abs_step, match_sig, sub_sig, sub_abs}
use Rattle.sig_laws.specs.Good.{OkSig, OkAbs, OkRight}
use Rattle.sig_definitions.specs.Verdict.{Verdict}

-- a right side is a well formed signature of normal types, in which the results of impure functors are ordered explicit too
abbrev pub IsRightSig : List Kind → Sig → Type 0
IsRightSig ctx r = (WellFormed ctx r × ExplicitResults ctx r) × NormalSig ctx r

-- the types and the coercion are the only ones
abbrev pub OneMatch : Type 0
OneMatch = (ctx : List Kind) (s : Sig) (x : Abs) (ts us : List Ty) (f g : Term) → WellFormed ctx s → Explicit ctx x → Match ctx s x ts f → Match ctx s x us g → (ts ≡ us) × (f ≡ g)

abbrev pub OneSub : Type 0
OneSub = (ctx : List Kind) (s r : Sig) (f g : Term) → WellFormed ctx s → WellFormed ctx r → ExplicitResults ctx r → Sub ctx s r f → Sub ctx s r g → f ≡ g

abbrev pub OneSubAbs : Type 0
OneSubAbs = (ctx : List Kind) (x y : Abs) (f g : Term) → WellFormedAbs ctx x → Explicit ctx y → SubAbs ctx x y f → SubAbs ctx x y g → f ≡ g

-- a root path is least at one place only, and the search finds it
abbrev pub SearchGives : Type 0
SearchGives = (ctx ks : List Kind) (s : Sig) (number : ℕ) (p : SigPath) → WellFormed (extend ctx ks) s → NormalSig (extend ctx ks) s → number < length ks → (least_root ctx ks s number ≡ Some p) ↔ LeastRoot ctx ks s number p

-- each variable's type is looked up, and nothing else is found for it
abbrev pub MatchIsLookedUp : Type 0
MatchIsLookedUp = (ctx ks : List Kind) (s r : Sig) (ts : List Ty) (f : Term) → OkRight ctx (Abs.Ex ks r) → Match ctx s (Abs.Ex ks r) ts f → Looked ctx s ks r ts

abbrev pub OneFound : Type 0
OneFound = (ctx ks : List Kind) (s r : Sig) (before : List Ty) (t u : Ty) → OkSig ctx s → OkRight ctx (Abs.Ex ks r) → length before < length ks → FoundAt ctx s ks r before t → FoundAt ctx s ks r before u → t ≡ u

-- a match or a refusal exists, not both, and one at most
abbrev pub MatchOrRefusal : Type 0
MatchOrRefusal = (ctx : List Kind) (s : Sig) (x : Abs) → OkSig ctx s → OkRight ctx x → ((ts : List Ty) × (f : Term) × Match ctx s x ts f) ⊎ ((q : MatchRefusal) × RefusesMatch ctx s x q)

abbrev pub SubOrRefusal : Type 0
SubOrRefusal = (ctx : List Kind) (s r : Sig) → OkSig ctx s → IsRightSig ctx r → ((f : Term) × Sub ctx s r f) ⊎ ((q : MatchRefusal) × RefusesSub ctx s r q)

abbrev pub SubAbsOrRefusal : Type 0
SubAbsOrRefusal = (ctx : List Kind) (x y : Abs) → OkAbs ctx x → OkRight ctx y → ((f : Term) × SubAbs ctx x y f) ⊎ ((q : MatchRefusal) × RefusesSubAbs ctx x y q)

-- so exactly one match or exactly one refusal
abbrev pub OneMatchOrRefusal : Type 0
OneMatchOrRefusal = (ctx : List Kind) (s : Sig) (x : Abs) → OkSig ctx s → OkRight ctx x
    → Verdict (λ (o : List Ty × Term). Match ctx s x o.0 o.1) (RefusesMatch ctx s x)

abbrev pub NotBoth : Type 0
NotBoth = (ctx : List Kind) (s : Sig) (x : Abs) (ts : List Ty) (f : Term) (q : MatchRefusal) → OkSig ctx s → OkRight ctx x → Match ctx s x ts f → RefusesMatch ctx s x q → ⊥

abbrev pub OneRefusal : Type 0
OneRefusal = (ctx : List Kind) (s : Sig) (x : Abs) (p q : MatchRefusal) → OkSig ctx s → OkRight ctx x → RefusesMatch ctx s x p → RefusesMatch ctx s x q → p ≡ q

-- the same for subtyping of signatures, and of signatures with hidden types
abbrev pub SubNotBoth : Type 0
SubNotBoth = (ctx : List Kind) (s r : Sig) (f : Term) (q : MatchRefusal) → OkSig ctx s → IsRightSig ctx r → Sub ctx s r f → RefusesSub ctx s r q → ⊥

abbrev pub SubAbsNotBoth : Type 0
SubAbsNotBoth = (ctx : List Kind) (x y : Abs) (f : Term) (q : MatchRefusal) → OkAbs ctx x → OkRight ctx y → SubAbs ctx x y f → RefusesSubAbs ctx x y q → ⊥

abbrev pub OneSubRefusal : Type 0
OneSubRefusal = (ctx : List Kind) (s r : Sig) (p q : MatchRefusal) → OkSig ctx s → IsRightSig ctx r → RefusesSub ctx s r p → RefusesSub ctx s r q → p ≡ q

abbrev pub OneSubAbsRefusal : Type 0
OneSubAbsRefusal = (ctx : List Kind) (x y : Abs) (p q : MatchRefusal) → OkAbs ctx x → OkRight ctx y → RefusesSubAbs ctx x y p → RefusesSubAbs ctx x y q → p ≡ q

-- the functions give just these
abbrev pub MatchSigGives : Type 0
MatchSigGives = (ctx : List Kind) (s : Sig) (x : Abs) → OkSig ctx s → OkRight ctx x
    → ((ts : List Ty) (f : Term) → (match_sig ctx s x ≡ MatchOutcome.matched ts f) ↔ Match ctx s x ts f)
    × ((q : MatchRefusal) → (match_sig ctx s x ≡ MatchOutcome.refused q) ↔ RefusesMatch ctx s x q)

abbrev pub SubSigGives : Type 0
SubSigGives = (ctx : List Kind) (s r : Sig) → OkSig ctx s → IsRightSig ctx r
    → ((f : Term) → (sub_sig ctx s r ≡ Outcome.coerced f) ↔ Sub ctx s r f)
    × ((q : MatchRefusal) → (sub_sig ctx s r ≡ Outcome.refused q) ↔ RefusesSub ctx s r q)

abbrev pub SubAbsGives : Type 0
SubAbsGives = (ctx : List Kind) (x y : Abs) → OkAbs ctx x → OkRight ctx y
    → ((f : Term) → (sub_abs ctx x y ≡ Outcome.coerced f) ↔ SubAbs ctx x y f)
    × ((q : MatchRefusal) → (sub_abs ctx x y ≡ Outcome.refused q) ↔ RefusesSubAbs ctx x y q)

-- the functions call one another as a program does
abbrev pub MatchSigStep : Type 0
MatchSigStep = (ctx : List Kind) (s : Sig) (x : Abs) → OkSig ctx s → OkRight ctx x → match_sig ctx s x ≡ match_step (sub_sig, sub_abs, match_sig) ctx s x

abbrev pub SubSigStep : Type 0
SubSigStep = (ctx : List Kind) (s r : Sig) → OkSig ctx s → IsRightSig ctx r → sub_sig ctx s r ≡ sub_step (sub_sig, sub_abs, match_sig) ctx s r

abbrev pub SubAbsStep : Type 0
SubAbsStep = (ctx : List Kind) (x y : Abs) → OkAbs ctx x → OkRight ctx y → sub_abs ctx x y ≡ abs_step (sub_sig, sub_abs, match_sig) ctx x y

-- looking up along a path, as a function
abbrev pub LookGives : Type 0
LookGives = (ctx : List Kind) (s : Sig) (p : SigPath) (r : Sig) → OkSig ctx s → IsRightSig ctx r
    → ((t : Ty) → (look match_sig ctx s p r ≡ Some t) ↔ Found ctx s p r t)
    × ((look match_sig ctx s p r ≡ None) ↔ ((t : Ty) → Found ctx s p r t → ⊥))

-- what is put in for a variable and for those after it makes no difference at its root path: looking up makes the same calls
abbrev pub LaterTypesDoNotMatter : Type 0
LaterTypesDoNotMatter = (m : MatchFn) (ctx ks : List Kind) (s r : Sig) (p : SigPath) (before rest others : List Ty) → OkRight ctx (Abs.Ex ks r) → length before < length ks
    → LeastRoot ctx ks r (length before) p → OfKinds ctx (before ++ rest) ks → OfKinds ctx (before ++ others) ks
    → look m ctx s p (normal_sig ctx (sig_at (before ++ rest) r)) ≡ look m ctx s p (normal_sig ctx (sig_at (before ++ others) r))
