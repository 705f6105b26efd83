use Rattle.sig_definitions.specs.Matching.MatchRefusal.{RefusesSub, Why}
use Rattle.sig_definitions.specs.Signatures.Sig.{Sig}
use Rattle.sig_match.specs.Inner.Refusals.{plain_refusal}
use Rattle.sig_match.proofs.SubSteps.{clashed, clash-given, value-form, value-same, value-differs}
use Rattle.sig_match.proofs.matching.sub_value.Goals as goal

pub returns-in_default : goal.returns-in_default
returns-in_default c = λ ctx l. clashed (RefusesSub ctx (Sig.Val c.args.ty.now) c.args.right.now) ctx c.args.depth Why.Form (plain_refusal c.clash.result) l c.clash.ensures (value-form ctx c.args.ty.now c.args.right.now c.in_default.ensures)

pub returns-in_ok-same_part : goal.returns-in_ok-same_part
returns-in_ok-same_part c = λ ctx l. value-same ctx c.args.ty.now c.in-Some.other.now c.args.right.now c.args.from.now c.in_ok-same_part.field-0 c.requires c.in-Some.ensures (c.same.ensures.tree.0 c.if-same.true) c.in_ok-same_part.ensures.value

pub returns-else-same : goal.returns-else-same
returns-else-same c = λ ctx l. clash-given (RefusesSub ctx (Sig.Val c.args.ty.now) c.args.right.now) ctx c.args.depth (Why.Types c.args.ty.now c.in-Some.other.now) (plain_refusal c.differ.result) l c.differ.ensures (value-differs ctx c.args.ty.now c.in-Some.other.now c.args.right.now c.in-Some.ensures (λ e. let t = c.same.ensures.tree.1 e in let f = c.if-same.false in cc))
