use Rattle.std.proofs.Common.{◌*◌, ◌+◌, take}
use Rattle.std.specs.Prelude.{flat_map}
use Rattle.fing_text.specs.Writes.{Grew}
use Rattle.omega_kinds.specs.View.{kind_tree}
use Rattle.omega_types.specs.Fields.{row}
use Rattle.omega_terms.specs.Fields.{term_row}
use Rattle.omega_write.specs.Inner.Pieces.{piece_text}
use Rattle.omega_write.proofs.Sizes.{kind_size, ty_size, row_size, term_size, term_row_size, weight, weights}
use Rattle.omega_write.proofs.Loops.{ty_field_text, term_field_text}
use Rattle.omega_write.proofs.trees.+trees.Given as goal

abbrev pub decreases-write_kind : goal.decreases-write_kind
decreases-write_kind g l = 8 * kind_size (kind_tree l.kind.now)

abbrev pub decreases-write_two_kinds : goal.decreases-write_two_kinds
decreases-write_two_kinds g l = 8 * (kind_size (kind_tree l.from.now) + kind_size (kind_tree l.to.now)) + 7

abbrev pub decreases-write_type : goal.decreases-write_type
decreases-write_type g l = 8 * ty_size l.ty.now

abbrev pub decreases-write_two_types : goal.decreases-write_two_types
decreases-write_two_types g l = 8 * (ty_size l.first.now + ty_size l.second.now) + 7

abbrev pub decreases-write_row : goal.decreases-write_row
decreases-write_row g l = 8 * row_size (row l.fields.now) + 7

abbrev pub decreases-write_bound : goal.decreases-write_bound
decreases-write_bound g l = 8 * (kind_size (kind_tree l.kind.now) + ty_size l.body.now) + 7

abbrev pub decreases-write_recursive : goal.decreases-write_recursive
decreases-write_recursive g l = 8 * ty_size l.b.now + 7

abbrev pub decreases-write_ty_fields : goal.decreases-write_ty_fields
decreases-write_ty_fields g l = 8 * row_size (row l.fields.now)

abbrev pub decreases-write_expression : goal.decreases-write_expression
decreases-write_expression g l = 8 * term_size l.term.now

abbrev pub decreases-write_two_terms : goal.decreases-write_two_terms
decreases-write_two_terms g l = 8 * (term_size l.first.now + term_size l.second.now) + 7

abbrev pub decreases-write_at_type : goal.decreases-write_at_type
decreases-write_at_type g l = 8 * (term_size l.e.now + ty_size l.t.now) + 7

abbrev pub decreases-write_function : goal.decreases-write_function
decreases-write_function g l = 8 * (ty_size l.t.now + term_size l.e.now) + 7

abbrev pub decreases-write_type_function : goal.decreases-write_type_function
decreases-write_type_function g l = 8 * (kind_size (kind_tree l.k.now) + term_size l.e.now) + 7

abbrev pub decreases-write_record : goal.decreases-write_record
decreases-write_record g l = 8 * term_row_size (term_row l.fields.now) + 7

abbrev pub decreases-write_get : goal.decreases-write_get
decreases-write_get g l = 8 * term_size l.e.now + 7

abbrev pub decreases-write_package : goal.decreases-write_package
decreases-write_package g l = 8 * (ty_size l.t.now + term_size l.e.now + ty_size l.u.now) + 7

abbrev pub decreases-write_opened : goal.decreases-write_opened
decreases-write_opened g l = 8 * (term_size l.p.now + term_size l.e.now) + 7

abbrev pub decreases-write_choice : goal.decreases-write_choice
decreases-write_choice g l = 8 * (term_size l.a.now + term_size l.b.now + term_size l.c.now) + 7

abbrev pub decreases-write_fix : goal.decreases-write_fix
decreases-write_fix g l = 8 * (ty_size l.t.now + ty_size l.u.now + term_size l.e.now) + 7

abbrev pub decreases-write_injected : goal.decreases-write_injected
decreases-write_injected g l = 8 * (term_size l.e.now + ty_size l.t.now) + 7

abbrev pub decreases-write_case : goal.decreases-write_case
decreases-write_case g l = 8 * (term_size l.e.now + ty_size l.t.now + term_row_size (term_row l.branches.now)) + 7

abbrev pub decreases-write_unrolled : goal.decreases-write_unrolled
decreases-write_unrolled g l = 8 * term_size l.e.now + 7

abbrev pub decreases-write_term_fields : goal.decreases-write_term_fields
decreases-write_term_fields g l = 8 * term_row_size (term_row l.fields.now)

abbrev pub decreases-write_variable : goal.decreases-write_variable
decreases-write_variable g l = 2

abbrev pub decreases-write_quoted : goal.decreases-write_quoted
decreases-write_quoted g l = 2

abbrev pub decreases-write_one : goal.decreases-write_one
decreases-write_one g l = weight l.part + 2

abbrev pub decreases-write_field : goal.decreases-write_field
decreases-write_field g l = weight l.part + 3

abbrev pub decreases-write_two : goal.decreases-write_two
decreases-write_two g l = weight l.first + weight l.second + 2

abbrev pub decreases-write_three : goal.decreases-write_three
decreases-write_three g l = weight l.first + weight l.second + weight l.third + 2

abbrev pub decreases-write_pieces : goal.decreases-write_pieces
decreases-write_pieces g l = weights l.pieces.now + 1

abbrev pub decreases-write_piece : goal.decreases-write_piece
decreases-write_piece g l = weight l.piece.now

abbrev pub invariant-write_ty_fields-loop-field : goal.invariant-write_ty_fields-loop-field
invariant-write_ty_fields-loop-field g l =
    Grew (g.K.Sink.told l.initial.sink) (g.K.Sink.told l.sink) (flat_map (ty_field_text l.types) (take l.field-index l.field-items))

abbrev pub invariant-write_term_fields-loop-field : goal.invariant-write_term_fields-loop-field
invariant-write_term_fields-loop-field g l =
    Grew (g.K.Sink.told l.initial.sink) (g.K.Sink.told l.sink) (flat_map (term_field_text l.here.types l.here.terms) (take l.field-index l.field-items))

abbrev pub invariant-write_pieces-loop-piece : goal.invariant-write_pieces-loop-piece
invariant-write_pieces-loop-piece g l =
    Grew (g.K.Sink.told l.initial.sink) (g.K.Sink.told l.sink) (flat_map piece_text (take l.piece-index l.pieces))
