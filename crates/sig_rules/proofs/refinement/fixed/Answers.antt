use Rattle.std.proofs.Common.{◌≡◌, ◌+◌, ◌-◌, length, take, drop, refl, arith}
use Rattle.std.proofs.lemmas.Result.{IfOk-weaker}
use Rattle.sig_definitions.specs.Signatures.Sig.{Abs}
use Rattle.sig_rules.specs.Inner.Hidden.{Fixed}
use Rattle.sig_rules.proofs.Fixing.{fixed-found}
use Rattle.sig_rules.proofs.Lists.{tail-slice}
use Rattle.sig_rules.proofs.refinement.fixed.Goals as goal

pub returns : goal.returns
returns c =
    let kinds = c.items-kinds.result.now in
    let p = c.args.place in
    let from : take (length kinds - p) (drop p kinds) ≡ drop p kinds = tail-slice kinds p (length kinds - p) (omega arith) in
    let later : take (length kinds - (p + 1)) (drop (p + 1) kinds) ≡ drop (p + 1) kinds = tail-slice kinds (p + 1) (length kinds - (p + 1)) (omega arith) in
    IfOk-weaker _ _ (λ (x : Abs). Fixed c.args.sig.now p c.args.ty.now x)
    (λ x e. fixed-found c.args.sig.now c.body.result.now c.kinds.result.now kinds (take p kinds) (take (length kinds - p) (drop p kinds)) (take (length kinds - (p + 1)) (drop (p + 1) kinds)) p c.args.ty.now c.in_ok-body.body c.in_ok-left.left x c.requires c.items-kinds.ensures c.kinds.ensures c.body.ensures refl from later c.in_ok-body.ensures c.in_ok-left.ensures e) c.make.ensures
