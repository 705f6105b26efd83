-- That an answer is the only one: what matches is not refused, what is refused does not match, and there is one of either.
use Rattle.std.specs.Prelude.{List, ◌≡◌, Option, Some, None, Result, Ok, Err}
use Rattle.omega_kinds.specs.Kind.{Kind}
use Rattle.omega_types.specs.Ty.{Ty}
use Rattle.omega_terms.specs.Term.{Term}
use Rattle.sig_definitions.specs.Signatures.Sig.{Sig, Abs}
use Rattle.sig_definitions.specs.Matching.Subtyping.{SubAbs, Match}
use Rattle.sig_definitions.specs.Matching.MatchRefusal.{MatchRefusal, RefusesMatch, RefusesSubAbs}
use Rattle.sig_match.specs.declared.refusal.Matched.{Matched}
use Rattle.sig_match.specs.declared.refusal.MatchRefusal.{MatchRefusal as CodeRefusal}
use Rattle.sig_match.specs.Inner.Refusals.{plain_refusal}

abbrev pub NoMatch : List Kind → Sig → Abs → Option MatchRefusal → Type 0
NoMatch ctx s x None = Unit {0}
NoMatch ctx s x (Some q) = ((ts : List Ty) (f : Term) → Match ctx s x ts f → ⊥) × ((p : MatchRefusal) → RefusesMatch ctx s x p → p ≡ q)

abbrev pub OnlyMatch : List Kind → Sig → Abs → Result Matched CodeRefusal → Type 0
OnlyMatch ctx s x (Ok m) = ((ts : List Ty) (f : Term) → Match ctx s x ts f → (ts ≡ m.types) × (f ≡ m.coercion)) × ((q : MatchRefusal) → RefusesMatch ctx s x q → ⊥)
OnlyMatch ctx s x (Err e) = NoMatch ctx s x (plain_refusal e)

abbrev pub NoSubAbs : List Kind → Abs → Abs → Option MatchRefusal → Type 0
NoSubAbs ctx x y None = Unit {0}
NoSubAbs ctx x y (Some q) = ((f : Term) → SubAbs ctx x y f → ⊥) × ((p : MatchRefusal) → RefusesSubAbs ctx x y p → p ≡ q)

abbrev pub OnlySubAbs : List Kind → Abs → Abs → Result Term CodeRefusal → Type 0
OnlySubAbs ctx x y (Ok g) = ((f : Term) → SubAbs ctx x y f → f ≡ g) × ((q : MatchRefusal) → RefusesSubAbs ctx x y q → ⊥)
OnlySubAbs ctx x y (Err e) = NoSubAbs ctx x y (plain_refusal e)
