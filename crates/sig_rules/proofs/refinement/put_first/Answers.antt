use Rattle.std.proofs.Common.{◌≡◌, ◌-◌, ◌∷◌, length, take, drop, map, ap, ◌∙◌, arith}
use Rattle.std.proofs.lemmas.Result.{IfOk-weaker}
use Rattle.omega_kinds.specs.View.{kind_tree}
use Rattle.omega_types.specs.Binders.{vars}
use Rattle.omega_types.specs.Index.{shift}
use Rattle.sig_definitions.specs.Signatures.Sig.{Sig}
use Rattle.sig_rules.specs.Inner.Hidden.{PutFirst}
use Rattle.sig_rules.proofs.Putting.{put-first-by}
use Rattle.sig_rules.proofs.Lists.{tail-slice}
use Rattle.sig_rules.proofs.refinement.put_first.Goals as goal

pub returns : goal.returns
returns c =
    let kinds = c.args.kinds.now in
    let later : take (length kinds - 1) (drop 1 kinds) ≡ drop 1 kinds = tail-slice kinds 1 (length kinds - 1) (omega arith) in
    let raised = shift c.args.others 0 c.args.ty.now in
    IfOk-weaker _ _ (λ (s : Sig). PutFirst (map kind_tree kinds) c.args.body.now raised s)
    (λ s e. put-first-by kinds c.args.body.now s raised c.in_ok-raised.raised c.in_ok-whole.whole c.in_ok-types.types c.items.result.now c.requires c.in_ok-whole.ensures c.in_ok-raised.ensures.value (c.in_ok-types.ensures ∙ ap (λ ks. c.in_ok-raised.raised ∷ vars (map kind_tree ks)) later) c.items.ensures e) c.instantiate.ensures.normal
