use Rattle.std.proofs.Common.{refl, rules}
use Rattle.std.proofs.lemmas.List.Sorted.{IsNonDecreasingBy-from_sort_by_key}
use Rattle.show_order.specs.Inner.Places.{rank}
use Rattle.show_order.proofs.PlaceLaws.{arranged}
use Rattle.show_order.proofs.order.sorted.Goals as goal

pub returns : goal.returns
returns g c =
    arranged _ _ _ _ refl c.in_ok-sort_by_key.ensures.permutation (IsNonDecreasingBy-from_sort_by_key (λ f. rank c.args.declared.now f.now.0) _ c.in_ok-sort_by_key.ensures.sorted (λ a r q k. search rules))
