use Rattle.std.proofs.Common.{◌≡◌, IfOk, rules, arith}
use Rattle.std.proofs.lemmas.Grind.{common_steps}
use Rattle.std.proofs.lemmas.Result.{IfOk-weaker}
use Rattle.omega_terms.specs.Coercions.{fields_part}
use Rattle.omega_terms.specs.Fields.{term_row}
use Rattle.coercion_terms.proofs.RowSteps.{fields-typed}
use Rattle.coercion_terms.proofs.parts.fields_part.Goals as goal

pub returns-clause-typed : goal.returns-clause-typed
returns-clause-typed c =
    let value : IfOk c.make-2.result (λ e. e ≡ fields_part c.args.from.now (term_row c.args.fields)) = first_of (search rules, grind (arith, common_steps)) in
    IfOk-weaker _ _ _ (λ e q. fields-typed c.args.from.now (term_row c.args.fields) e q) value
