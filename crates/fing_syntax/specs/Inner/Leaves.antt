-- What names, places and operators are seen as.
use Rattle.fing_text.specs.declared.span.Span.{Span as SpanAt}
use Rattle.fing_syntax.specs.declared.leaf.SpanName.{SpanName as NameAt}
use Rattle.fing_syntax.specs.declared.leaf.Op.{Op as OpIn}
use Rattle.fing_syntax.specs.declared.leaf.Op.TheVariants as op
use Rattle.fing_syntax.specs.Phrase.{Span, Bytes, SpanName, Spelled, Op, Add, Sub, Mul, Div, Rem, Less, Equal}

abbrev pub place : SpanAt → Span
place s = Bytes s.from s.to

abbrev pub spelled : NameAt → SpanName
spelled n = Spelled n.name (place n.span)

abbrev pub op_of : OpIn → Op
op_of op.Add = Add
op_of op.Sub = Sub
op_of op.Mul = Mul
op_of op.Div = Div
op_of op.Rem = Rem
op_of op.Less = Less
op_of op.Equal = Equal
