use Rattle.std.proofs.Common.{[], arith, rules}
use Rattle.elab_rules.proofs.Given.{exit}
use Rattle.semantic_sigs.specs.Inner.Made.{module_of}
use Rattle.unit_laws.specs.Derived.{FirstRefused}
use Rattle.unit_laws.specs.Units.{program_of}
use Rattle.fing_top.specs.Inner.Compiled.{IsRefused}
use Rattle.fing_top.specs.Meaning.{separate_units}
use Rattle.fing_top.proofs.Answering.{meaning_refused}
use Rattle.fing_top.proofs.Separate.{first_refused, fits, is_linked, kinded_link, none_differs, typed_link}
use Rattle.fing_top.proofs.linking.linked.Goals as goal

pub returns-in_err-made-clause-refused : goal.returns-in_err-made-clause-refused
returns-in_err-made-clause-refused c =
    exit (IsRefused separate_units c.args.bytes.now) c.from_residual-in_err-made.result _ c.from_residual-in_err-made.ensures.1
    (meaning_refused (FirstRefused [] c.in_ok-units.units) separate_units c.args.bytes.now (program_of c.in_ok-units.units) c.in_err-made.field-0.0
    c.in_ok-units.ensures.spelled (first_refused c.in_ok-units.units) (search rules))

pub join-requires-clause-own : goal.join-requires-clause-own
join-requires-clause-own c = none_differs c.in_ok-made.ensures.means

pub join-requires-clause-good : goal.join-requires-clause-good
join-requires-clause-good c = fits c.in_ok-made.ensures.means

pub confirm-requires : goal.confirm-requires
confirm-requires c =
    let m = c.in_ok-module.module in
    let packs = c.in_ok-whole.ensures [] (kinded_link (module_of m) c.in_ok-made.ensures.means c.in_ok-module.ensures) in
    rw c.in_ok-sig.ensures (typed_link m.effect m.sig m.types m.term c.in_ok-whole.whole c.in_ok-made.ensures.means c.in_ok-module.ensures packs)

pub returns-clause-confirmed : goal.returns-clause-confirmed
returns-clause-confirmed c =
    let m = c.in_ok-module.module in
    let packs = c.in_ok-whole.ensures [] (kinded_link (module_of m) c.in_ok-made.ensures.means c.in_ok-module.ensures) in
    is_linked c.args.bytes.now m.effect m.sig m.types m.term c.in_ok-whole.whole _ (search rules) c.in_ok-made.ensures.means c.in_ok-module.ensures packs
    (rw c.in_ok-sig.ensures at c.in_ok-confirm.ensures)
