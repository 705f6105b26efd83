use Rattle.std.proofs.lemmas.Bool.{eqb-true}
use Rattle.std.proofs.Common.{length, sym}
use Rattle.type_store.proofs.HintSteps.{whole-row}
use Rattle.type_store.proofs.types.Types.is_whole.Goals as goal

pub returns-then-alike-count : goal.returns-then-alike-count
returns-then-alike-count c =
    λ h. whole-row c.args.self.now c.args.hint c.args.fields.now c.items-count.result.now c.parts.result.now c.args.alike c.requires.alike
    (sym c.items-count.ensures.value) c.if-alike-count.true (eqb-true (length c.parts.result.now) (length c.items-count.result.now) h) c.parts.ensures.value
