use Rattle.std.proofs.Common.{◌+◌, sym, ap, ◌∙◌, arith}
use Rattle.type_normal.proofs.LeastSteps.{lesser-first}
use Rattle.semantic_sigs.specs.Inner.Fields.{sig_row}
use Rattle.semantic_sigs.specs.Inner.Least.{least_sig_row}
use Rattle.semantic_sigs.proofs.LeastLaws.{least-closed_sig, least-closed_abs}
use Rattle.semantic_sigs.proofs.mentioning.+least.Goals as goal

pub least_abs_under-returns-then-saturating_sub-from : goal.least_abs_under-returns-then-saturating_sub-from
least_abs_under-returns-then-saturating_sub-from t c =
    least-closed_abs c.args.abs.now (c.args.count + c.args.from) (omega (arith, c.bound.ensures, c.saturating_sub.ensures, c.if-saturating_sub-from.true))

pub least_under-returns-then-saturating_sub-from : goal.least_under-returns-then-saturating_sub-from
least_under-returns-then-saturating_sub-from t c =
    least-closed_sig c.args.sig.now (c.args.count + c.args.from) (omega (arith, c.bound.ensures, c.saturating_sub.ensures, c.if-saturating_sub-from.true))

pub least_in_sig_fields-returns-then-is_first : goal.least_in_sig_fields-returns-then-is_first
least_in_sig_fields-returns-then-is_first t c =
    sym (lesser-first c.loop-field.least _ (sym c.is_first.ensures ∙ c.if-is_first.true)) ∙ (c.loop-field.invariant.0 ∙ ap (λ xs. least_sig_row c.args.from (sig_row xs)) c.items-field-items.ensures.value)
