-- Refusals whose types are normal, and of the kind of types of values where they come from expressions, in a context of
-- as many type variables as the refusal tells.
use Rattle.std.specs.Prelude.{List, ◌≡◌, length}
use Rattle.omega_kinds.specs.Kind.{Kind}
use Rattle.omega_types.specs.Normality.{Normal}
use Rattle.sig_definitions.specs.Matching.MatchRefusal.{Why}
use Rattle.refusal_reasons.specs.Refusal.{Refusal, Refuse, ElabWhy}

-- the types of parts that clash have kinds
abbrev pub GoodClash : List Kind → Why → Type 0
GoodClash ctx (Why.Types t u) = ((k : Kind) × Normal ctx t k) × ((j : Kind) × Normal ctx u j)
GoodClash ctx _ = Unit {0}

abbrev pub GoodWhy : List Kind → ElabWhy → Type 0
GoodWhy ctx (ElabWhy.Clash path why) = GoodClash ctx why
GoodWhy ctx (ElabWhy.NotArrow t) = Normal ctx t Kind.Star
GoodWhy ctx (ElabWhy.NotAll t) = Normal ctx t Kind.Star
GoodWhy ctx (ElabWhy.NotRecord t) = Normal ctx t Kind.Star
GoodWhy ctx (ElabWhy.NotSum t) = Normal ctx t Kind.Star
GoodWhy ctx (ElabWhy.NotData t) = Normal ctx t Kind.Star
GoodWhy ctx (ElabWhy.Differ t u) = Normal ctx t Kind.Star × Normal ctx u Kind.Star
GoodWhy ctx _ = Unit {0}

abbrev pub GoodRefusal : Refusal → Type 0
GoodRefusal (Refuse at variables why) = (ctx : List Kind) × (length ctx ≡ variables) × GoodWhy ctx why
