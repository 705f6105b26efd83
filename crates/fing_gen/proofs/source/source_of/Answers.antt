use Rattle.std.proofs.Common.{◌≡◌, ◌++◌, ap, ◌∙◌, arith}
use Rattle.std.proofs.lemmas.List.{append_assoc}
use Rattle.fing_gen.specs.Source.{opening, sealed_from, closing}
use Rattle.fing_gen.proofs.source.source_of.Goals as goal

pub returns : goal.returns
returns c =
    let ended : c.loop-before.before ≡ c.args.size = omega (arith, c.loop-before-test.false, c.loop-before.auto.before-end) in
    c.in_ok-extend_from_slice-2.ensures.items ∙ (ap (λ text. text ++ closing) c.loop-before.invariant ∙ (append_assoc opening (sealed_from 1 c.loop-before.before) closing ∙ ap (λ n. opening ++ sealed_from 1 n ++ closing) ended))
