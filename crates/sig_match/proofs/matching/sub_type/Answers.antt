use Rattle.sig_definitions.specs.Matching.MatchRefusal.{RefusesSub, Why}
use Rattle.sig_definitions.specs.Signatures.Sig.{Sig}
use Rattle.omega_kinds.specs.View.{kind_tree}
use Rattle.sig_match.specs.Inner.Refusals.{plain_refusal}
use Rattle.sig_match.proofs.SubSteps.{clashed, clash-given, type-form, type-same, type-differs}
use Rattle.sig_match.proofs.matching.sub_type.Goals as goal

pub returns-in_default : goal.returns-in_default
returns-in_default c = λ ctx l. clashed (RefusesSub ctx (Sig.Typ c.args.ty.now (kind_tree c.args.kind.now)) c.args.right.now) ctx c.args.depth Why.Form (plain_refusal c.clash.result) l c.clash.ensures (type-form ctx c.args.ty.now (kind_tree c.args.kind.now) c.args.right.now c.in_default.ensures)

pub returns-in_ok-same_part : goal.returns-in_ok-same_part
returns-in_ok-same_part c =
    let e = c.alike.ensures.0 c.if-alike.true in
    λ ctx l. type-same ctx c.args.ty.now c.in-Some.other.0.now (kind_tree c.args.kind.now) (kind_tree c.in-Some.other.1.now) c.args.right.now c.args.from.now c.in_ok-same_part.field-0 c.requires c.in-Some.ensures e.0 e.1 c.in_ok-same_part.ensures.value

pub returns-else-alike : goal.returns-else-alike
returns-else-alike c = λ ctx l. clash-given (RefusesSub ctx (Sig.Typ c.args.ty.now (kind_tree c.args.kind.now)) c.args.right.now) ctx c.args.depth (Why.Types c.args.ty.now c.in-Some.other.0.now) (plain_refusal c.differ.result) l c.differ.ensures (type-differs ctx c.args.ty.now c.in-Some.other.0.now (kind_tree c.args.kind.now) (kind_tree c.in-Some.other.1.now) c.args.right.now c.in-Some.ensures (λ e. let t = c.alike.ensures.1 e in let f = c.if-alike.false in cc))
