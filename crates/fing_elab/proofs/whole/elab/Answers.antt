use Rattle.std.proofs.Common.{ap, ◌∙◌}
use Rattle.semantic_sigs.specs.Inner.Made.{module_of}
use Rattle.fing_syntax.specs.Inner.View.{binds as binds_of}
use Rattle.elab_judgments.specs.Judgments.Meaning.{BindsMean}
use Rattle.elab_judgments.specs.Refusals.Task.{binds}
use Rattle.fing_refusals.specs.Inner.Plain.{Says}
use Rattle.elab_rules.specs.Inner.Answered.{RefusedAs}
use Rattle.elab_rules.proofs.Given.{exit}
use Rattle.fing_elab.specs.Inner.Exactly.{IsRefused}
use Rattle.fing_elab.proofs.Programs.{entered, good, legible, meaning, typed, refused}
use Rattle.fing_elab.proofs.whole.elab.Goals as goal

pub returns-in_err-found-clause-refused : goal.returns-in_err-found-clause-refused
returns-in_err-found-clause-refused c =
    let e = c.in_err-found.field-0.0 in
    let same = ap binds_of c.deref.ensures.value ∙ c.program.view_is in
    exit (λ e. Says e (IsRefused c.args.program.now)) c.from_residual.result e c.from_residual.ensures.1
    (refused c.args.program.now e (entered (λ g ns bs. RefusedAs g (binds ns bs) e) c.new-env.ensures c.new.ensures same c.in_err-found.ensures.refused))

pub whole_of-requires : goal.whole_of-requires
whole_of-requires c =
    let m = module_of c.in_ok-found.found in
    let same = ap binds_of c.deref.ensures.value ∙ c.program.view_is in
    good c.args.program.now m (entered (λ g ns bs. BindsMean g ns bs m) c.new-env.ensures c.new.ensures same c.in_ok-found.ensures.given)

pub returns-clause-means : goal.returns-clause-means
returns-clause-means c =
    let m = module_of c.in_ok-found.found in
    let same = ap binds_of c.deref.ensures.value ∙ c.program.view_is in
    meaning c.args.program.now _ (entered (λ g ns bs. BindsMean g ns bs m) c.new-env.ensures c.new.ensures same c.in_ok-found.ensures.given) c.in_ok-whole.ensures

pub returns-clause-typed : goal.returns-clause-typed
returns-clause-typed c =
    let m = module_of c.in_ok-found.found in
    let same = ap binds_of c.deref.ensures.value ∙ c.program.view_is in
    typed c.args.program.now _ (entered (λ g ns bs. BindsMean g ns bs m) c.new-env.ensures c.new.ensures same c.in_ok-found.ensures.given) c.in_ok-whole.ensures

pub returns-clause-spelled : goal.returns-clause-spelled
returns-clause-spelled c =
    let m = module_of c.in_ok-found.found in
    let same = ap binds_of c.deref.ensures.value ∙ c.program.view_is in
    legible c.args.program.now _ (entered (λ g ns bs. BindsMean g ns bs m) c.new-env.ensures c.new.ensures same c.in_ok-found.ensures.given) c.in_ok-whole.ensures
