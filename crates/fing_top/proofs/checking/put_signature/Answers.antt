use Rattle.std.proofs.Common.{◌∙◌}
use Rattle.fing_top.proofs.Scopes.{closed-signature}
use Rattle.fing_top.proofs.checking.put_signature.Goals as goal

pub put_elab-requires : goal.put_elab-requires
put_elab-requires g c =
    closed-signature c.args.found.now.sig c.ty.result.now c.extent.result.height c.extent-2.result.height c.requires.normal (c.ty.ensures.ty ∙ c.requires.encoded)
    c.extent.ensures.height c.extent.ensures.high c.extent-2.ensures.height c.extent-2.ensures.high
