use Rattle.std.proofs.Common.{sym, ◌∙◌, ap, subst}
use Rattle.std.proofs.lemmas.Result.{IfOk-weaker}
use Rattle.std.proofs.Common.{◌*◌, ◌+◌}
use Rattle.omega_terms.specs.Inner.View.{term_of}
use Rattle.omega_terms.specs.Inner.Size.{pairs_size}
use Rattle.omega_machine.specs.Inner.Contexts.{with_done, left}
use Rattle.omega_machine.specs.Inner.Moves.{Begun, Moves}
use Rattle.omega_machine.proofs.Canonical.{no-variable}
use Rattle.omega_machine.proofs.Moved.{first-begun, enter-fields}
use Rattle.omega_machine.proofs.refocus.enter.Goals as goal

pub next_field-requires : goal.next_field-requires
next_field-requires c =
    subst (Begun c.in_ok-share-in-Fields.field-0) (sym c.new.ensures) (first-begun c.node.result.now _ c.args.term.now _ c.in-Fields.is c.node.ensures c.in_ok-share-in-Fields.ensures)

pub unreachable-requires : goal.unreachable-requires
unreachable-requires c = no-variable c.args.term.now _ (ap term_of (sym c.in-Var.is) ∙ c.node.ensures) c.requires

pub returns-in_ok-share-in-Fields : goal.returns-in_ok-share-in-Fields
returns-in_ok-share-in-Fields c =
    IfOk-weaker _ _ _ (λ m h. enter-fields c.node.result.now _ c.args.term.now _ m c.in-Fields.is c.node.ensures c.in_ok-share-in-Fields.ensures (subst (λ ds. Moves (with_done c.in_ok-share-in-Fields.field-0 ds) (3 * pairs_size (left c.in_ok-share-in-Fields.field-0 ds) + 1) m) c.new.ensures h)) c.next_field.ensures
