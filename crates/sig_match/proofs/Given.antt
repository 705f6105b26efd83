-- Refusals that hold, and those from inside a part.
-- Main results: holds-given, holds-map, holds-within.
use Rattle.std.proofs.Common.{◌≡◌, Option, Some, None, subst}
use Rattle.sig_definitions.specs.Explicit.SigPath.{Item}
use Rattle.sig_definitions.specs.Matching.MatchRefusal.{MatchRefusal, within}
use Rattle.sig_match.specs.Inner.Refusals.{inside, Gives, Holds}

-- what holds of the expected refusal holds of the given one
pub holds-given : (P : MatchRefusal → Type 0) (expected given : Option MatchRefusal) → Gives expected given → Holds P expected → Holds P given
holds-given P expected None g h = tt
holds-given P expected (Some q) g h = subst (Holds P) g h

-- what holds of a refusal, if there is one, may be weakened
pub holds-map : (P Q : MatchRefusal → Type 0) (o : Option MatchRefusal) → ((q : MatchRefusal) → P q → Q q) → Holds P o → Holds Q o
holds-map P Q None f h = tt
holds-map P Q (Some q) f h = f q h

-- what holds of a refusal inside of a part holds of the given one from inside it
pub holds-within : (P Q : MatchRefusal → Type 0) (a : Item) (o given : Option MatchRefusal) → Gives (inside a o) given → ((q : MatchRefusal) → P q → Q (within a q)) → Holds P o → Holds Q given
holds-within P Q a None None g f h = tt
holds-within P Q a None (Some q) g f h = absurd (let e : None ≡ Some q = g in cc)
holds-within P Q a (Some p) given g f h = holds-given Q (Some (within a p)) given g (f p h)
