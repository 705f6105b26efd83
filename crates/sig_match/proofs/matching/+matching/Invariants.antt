use Rattle.std.proofs.Common.{◌≡◌, ◌+◌, ◌*◌, length, take}
use Rattle.sig_definitions.specs.Signatures.SigSize.{size, size_abs, size_row}
use Rattle.semantic_sigs.specs.Inner.Fields.{sig_row}
use Rattle.sig_match.specs.Inner.Made.{AllHold}
use Rattle.sig_match.proofs.CallSteps.{EachFirst, EachParts}
use Rattle.sig_match.proofs.SubSteps.{Labelled}
use Rattle.sig_match.proofs.matching.+matching.Given as goal

abbrev pub decreases-match_in : goal.decreases-match_in
decreases-match_in l = 16 * (size l.left.now + size_abs l.right.now) + 8

abbrev pub decreases-look_all : goal.decreases-look_all
decreases-look_all l = 16 * (size l.left.now + size_abs l.right.now) + 7

abbrev pub decreases-look_root : goal.decreases-look_root
decreases-look_root l = 16 * (size l.left.now + size_abs l.right.now) + 6

abbrev pub decreases-look : goal.decreases-look
decreases-look l = 16 * (size l.left.now + size l.right.now.body.now) + 7

abbrev pub decreases-look_step : goal.decreases-look_step
decreases-look_step l = 16 * (size l.left.now + size l.right.now.body.now) + 6

abbrev pub decreases-look_part : goal.decreases-look_part
decreases-look_part l = 16 * (size l.left.now + size l.right.now.body.now) + 5

abbrev pub decreases-look_result : goal.decreases-look_result
decreases-look_result l = 16 * (size l.left.now + size l.right.now) + 5

abbrev pub decreases-look_target : goal.decreases-look_target
decreases-look_target l = 16 * (size l.left.now.param.now + size_abs l.left.now.target.now + size l.right.now.param.now + size_abs l.right.now.target.now + 2) + 4

abbrev pub decreases-target_at : goal.decreases-target_at
decreases-target_at l = 16 * (size l.right.now.param.now + size l.left.now.param.now + 1) + 9

abbrev pub decreases-sub_sig : goal.decreases-sub_sig
decreases-sub_sig l = 16 * (size l.left.now + size l.right.now) + 5

abbrev pub decreases-sub_meta : goal.decreases-sub_meta
decreases-sub_meta l = 16 * (size_abs l.left.now + size_abs l.right.now + 2) + 4

abbrev pub decreases-sub_back : goal.decreases-sub_back
decreases-sub_back l = 16 * (size_abs l.left.now + size_abs l.right.now + 2) + 3

abbrev pub decreases-sub_fields : goal.decreases-sub_fields
decreases-sub_fields l = 16 * (size_row (sig_row l.left.now) + size_row (sig_row l.right.now) + 2) + 4

abbrev pub decreases-sub_field : goal.decreases-sub_field
decreases-sub_field l = 16 * (size_row (sig_row l.left.now) + size l.right.now + 1) + 6

abbrev pub decreases-sub_functor : goal.decreases-sub_functor
decreases-sub_functor l = 16 * (size l.left.now.param.now + size_abs l.left.now.target.now + size l.right.now.param.now + size_abs l.right.now.target.now + 2) + 4

abbrev pub decreases-sub_target : goal.decreases-sub_target
decreases-sub_target l = 16 * (size l.left.now.param.now + size_abs l.left.now.target.now + size l.right.now.param.now + size_abs l.right.now.target.now + 2) + 3

abbrev pub decreases-sub_result : goal.decreases-sub_result
decreases-sub_result l = 16 * (size_abs l.left.now + size_abs l.right.now) + 7

abbrev pub decreases-sub_abs_in : goal.decreases-sub_abs_in
decreases-sub_abs_in l = 16 * (size_abs l.left.now + size_abs l.right.now) + 6

abbrev pub invariant-look_all-loop-root : goal.invariant-look_all-loop-root
invariant-look_all-loop-root l =
    AllHold l.made.items × (length l.found ≡ l.root-index) × EachFirst l.depth l.left l.right l.found

abbrev pub invariant-sub_fields-loop-field : goal.invariant-sub_fields-loop-field
invariant-sub_fields-loop-field l =
    Labelled (take l.field-index l.field-items) l.parts × EachParts l.depth l.field-items (sig_row l.left) l.field-index l.parts
