use Rattle.std.proofs.Common.{w64, arith}
use Rattle.std.proofs.lemmas.Int.{to_z-of_z}
use Rattle.omega_terms.specs.Steps.{IsValue}
use Rattle.omega_machine.proofs.Numbers.{added, subtracted, multiplied, divided, remaindered, less-is, equal-is}
use Rattle.omega_machine.proofs.arithmetic.compute.Goals as goal

pub returns-in-Add : goal.returns-in-Add
returns-in-Add c =
    added c.args.op c.args.left c.args.right _ _ c.checked_add.result c.in_range.result c.in-Add.is (to_z-of_z w64 c.args.left c.ranges.left) (to_z-of_z w64 c.args.right c.ranges.right) c.checked_add.ensures c.in_range.ensures

pub returns-in-Sub : goal.returns-in-Sub
returns-in-Sub c =
    subtracted c.args.op c.args.left c.args.right _ _ c.checked_sub.result c.in_range-in-Sub.result c.in-Sub.is (to_z-of_z w64 c.args.left c.ranges.left) (to_z-of_z w64 c.args.right c.ranges.right) c.checked_sub.ensures c.in_range-in-Sub.ensures

pub returns-in-Mul : goal.returns-in-Mul
returns-in-Mul c =
    multiplied c.args.op c.args.left c.args.right _ _ c.checked_mul.result c.in_range-in-Mul.result c.in-Mul.is (to_z-of_z w64 c.args.left c.ranges.left) (to_z-of_z w64 c.args.right c.ranges.right) c.checked_mul.ensures c.in_range-in-Mul.ensures

pub returns-in-Div-2 : goal.returns-in-Div-2
returns-in-Div-2 c =
    divided c.args.op c.args.left c.args.right _ _ c.checked_div.result c.in_range-in-Div-2.result c.in-Div-2.is (to_z-of_z w64 c.args.left c.ranges.left) (to_z-of_z w64 c.args.right c.ranges.right) (let h = c.if-right-eq0.false in omega arith) c.checked_div.ensures c.in_range-in-Div-2.ensures

pub returns-in-Rem-2 : goal.returns-in-Rem-2
returns-in-Rem-2 c =
    remaindered c.args.op c.args.left c.args.right _ _ c.checked_rem.result c.in_range-in-Rem-2.result c.in-Rem-2.is (to_z-of_z w64 c.args.left c.ranges.left) (to_z-of_z w64 c.args.right c.ranges.right) (let h = c.if-right-eq0-2.false in omega arith) c.checked_rem.ensures c.in_range-in-Rem-2.ensures

pub returns-in-Less : goal.returns-in-Less
returns-in-Less c =
    (less-is c.args.op c.args.left c.args.right _ _ c.in-Less.is (to_z-of_z w64 c.args.left c.ranges.left) (to_z-of_z w64 c.args.right c.ranges.right), IsValue.bool)

pub returns-in-Equal : goal.returns-in-Equal
returns-in-Equal c = (equal-is c.args.op c.args.left c.args.right c.in-Equal.is c.ranges.left c.ranges.right, IsValue.bool)
