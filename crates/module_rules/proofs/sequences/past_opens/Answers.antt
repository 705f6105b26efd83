use Rattle.std.proofs.Common.{◌≡◌, List, length}
use Rattle.std.proofs.lemmas.Result.{IfOk-weaker}
use Rattle.omega_kinds.specs.Kind.{Kind}
use Rattle.omega_terms.specs.Term.{Term}
use Rattle.module_judgments.specs.Sequence.{past_opens}
use Rattle.module_rules.proofs.PastOpens.{past-few, past-several}
use Rattle.module_rules.proofs.sequences.past_opens.Goals as goal

pub returns-then-count-lt2 : goal.returns-then-count-lt2
returns-then-count-lt2 c = λ ks len. past-few ks c.args.count c.args.term c.if-count-lt2.true len

pub returns : goal.returns
returns c =
    IfOk-weaker _ _ (λ (e : Term). (ks : List Kind) → length ks ≡ c.args.count → e ≡ past_opens ks c.args.term)
    (λ e q ks len. past-several ks c.args.count c.args.term c.in_ok-shifted.shifted c.in_ok-own.own e c.if-count-lt2.false c.in_ok-shifted.ensures c.in_ok-own.ensures q len) c.put_term.ensures
