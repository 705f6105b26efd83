use Rattle.std.proofs.Common.{◌≡◌, [], sym, subst, Option, Result, MatchOption, IfErr}
use Rattle.std.proofs.lemmas.Result.{err_from_is_err_and}
use Rattle.omega_terms.specs.Typing.{HasType}
use Rattle.omega_checker.specs.Judgment.{Judgment}
use Rattle.fing_top.specs.declared.verifying.Unverified.{Unverified}
use Rattle.fing_top.specs.Inner.Verdict.{verdict_line, HasLine}
use Rattle.fing_top.specs.Reply.{refused, VerifyReplies}
use Rattle.fing_top.proofs.Answering.{unread_replied, well_replied, ill_replied}
use Rattle.fing_top.proofs.verifying.verified.Goals as goal

pub returns-in_err-ty-clause-refused : goal.returns-in_err-ty-clause-refused
returns-in_err-ty-clause-refused c =
    let exit = err_from_is_err_and c.from_residual.result c.from_residual.ensures.1 in
    let Q : Unverified → Type 0 = λ why. HasLine why → VerifyReplies c.args.bytes.now (refused (verdict_line why)) in
    let P : Result Judgment Unverified → Type 0 = λ r. IfErr r Q in
    subst P (sym exit.1) (subst Q (sym exit.2) (unread_replied c.args.bytes.now c.in_err-ty.field-0.0 c.in_err-ty.ensures.answer))

pub returns-in-Some-clause-accepted : goal.returns-in-Some-clause-accepted
returns-in-Some-clause-accepted c =
    let t = c.in_ok-ty.ty in
    let e = c.in_ok-ty.term in
    let found = subst (λ (o : Option Judgment). MatchOption o (HasType [] [] e t → ⊥) (λ j. (j.term ≡ e) × (j.ty ≡ t) × HasType [] [] e t)) c.in-Some.is c.in_ok-checked.ensures in
    well_replied c.args.bytes.now t e c.in-Some.checked c.in_ok-ty.ensures.answer found.0 found.1 found.2

pub returns-in-None-clause-refused : goal.returns-in-None-clause-refused
returns-in-None-clause-refused c =
    let t = c.in_ok-ty.ty in
    let e = c.in_ok-ty.term in
    let found = subst (λ (o : Option Judgment). MatchOption o (HasType [] [] e t → ⊥) (λ j. (j.term ≡ e) × (j.ty ≡ t) × HasType [] [] e t)) c.in-None.is c.in_ok-checked.ensures in
    λ _. ill_replied c.args.bytes.now t e c.in_ok-ty.ensures.answer found
