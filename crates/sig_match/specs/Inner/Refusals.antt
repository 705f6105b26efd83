-- What the code's refusals are seen as: plain refusals, and nothing when memory is out.
use Rattle.std.specs.Prelude.{◌≡◌, Option, Some, None}
use Rattle.sig_definitions.specs.Explicit.SigPath.{Item}
use Rattle.sig_definitions.specs.Matching.MatchRefusal.{MatchRefusal, Why, within}
use Rattle.semantic_sigs.specs.declared.made.Why.{Why as CodeWhy}
use Rattle.semantic_sigs.specs.declared.made.Why.TheVariants as reason
use Rattle.sig_match.specs.declared.refusal.MatchRefusal.{MatchRefusal as CodeRefusal}
use Rattle.sig_match.specs.declared.refusal.MatchRefusal.TheVariants as refusal

abbrev pub plain_why : CodeWhy → Why
plain_why reason.Form = Why.Form
plain_why reason.Missing = Why.Missing
plain_why reason.Effect = Why.Effects
plain_why (reason.Types t u) = Why.Types t u

abbrev pub plain_refusal : CodeRefusal → Option MatchRefusal
plain_refusal (refusal.NoRoot number path) = Some (MatchRefusal.NoRoot number path)
plain_refusal (refusal.Clash variables path why) = Some (MatchRefusal.Clash variables path (plain_why why))
plain_refusal refusal.Mem = None

-- what the code answers when memory is out
abbrev pub want_of_memory : CodeRefusal
want_of_memory = refusal.Mem

-- a refusal from inside a part
abbrev pub inside : Item → Option MatchRefusal → Option MatchRefusal
inside a None = None
inside a (Some q) = Some (within a q)

-- the code gives what is expected, or nothing
abbrev pub Gives : (expected given : Option MatchRefusal) → Type 0
Gives expected None = Unit {0}
Gives expected (Some q) = expected ≡ Some q

-- a refusal, where there is one, is one that holds
abbrev pub Holds : (MatchRefusal → Type 0) → Option MatchRefusal → Type 0
Holds P None = Unit {0}
Holds P (Some q) = P q
