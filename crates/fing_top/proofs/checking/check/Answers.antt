use Rattle.std.proofs.Common.{refl}
use Rattle.sig_text.specs.SigText.{elab_text}
use Rattle.fing_top.specs.Reply.{ProgramReplies, TellsSignature}
use Rattle.fing_words.specs.declared.command_line.CommandLine.TheVariants as command
use Rattle.fing_top.specs.declared.status.Status.TheVariants as status
use Rattle.fing_top.proofs.Answering.{told, wrote_reply}
use Rattle.fing_top.proofs.Scopes.{compiled-normal}
use Rattle.fing_top.proofs.checking.check.Goals as goal

pub put_signature-wrote-requires-clause-normal : goal.put_signature-wrote-requires-clause-normal
put_signature-wrote-requires-clause-normal g c = compiled-normal c.args.bytes.now c.in-Ok.found c.in-Ok.ensures.compiled

pub put_signature-wrote-requires-clause-encoded : goal.put_signature-wrote-requires-clause-encoded
put_signature-wrote-requires-clause-encoded g c = c.in-Ok.ensures.compiled.ty

pub returns-in-Ok : goal.returns-in-Ok
returns-in-Ok g c =
    let found = c.in-Ok.found in
    wrote_reply command.Check c.args.bytes.now status.Ok _ _ _ _ c.put_signature-wrote.result c.status_of.result tt
    (told TellsSignature c.args.bytes.now found status.Ok (elab_text found.effect found.sig) c.in-Ok.ensures.compiled refl) refl c.put_signature-wrote.ensures c.status_of.ensures

pub returns-in-Err : goal.returns-in-Err
returns-in-Err g c =
    wrote_reply command.Check c.args.bytes.now status.Refused _ _ _ _ c.write_line.result c.status_of-in-Err.result tt
    (ProgramReplies.refuses (c.in-Err.ensures.refused (c.if-has_short_line.ensures refl))) refl c.write_line.ensures c.status_of-in-Err.ensures
