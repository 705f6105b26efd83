use Rattle.std.proofs.Common.{◌≡◌, ◌≤◌, map, drop}
use Rattle.semantic_sigs.specs.Inner.Fields.{sig_row}
use Rattle.semantic_sigs.specs.Inner.Items.{item_of}
use Rattle.semantic_sigs.specs.Inner.Size.{sig_pairs_nodes}
use Rattle.sig_roots.specs.Inner.Seek.{seek_row}
use Rattle.sig_roots.proofs.WalkLaws.{gone}
use Rattle.sig_roots.proofs.walk.Walk.+visit.Given as goal

abbrev pub invariant-visit_fields-loop-field : goal.invariant-visit_fields-loop-field
invariant-visit_fields-loop-field l =
    let steps = map item_of l.initial.self.steps.items in
    (l.self.steps.items ≡ l.initial.self.steps.items)
    × (gone steps l.bar (λ own. seek_row own l.depth (sig_row (drop l.field-index l.field-items))) l.self.found.items ≡ gone steps l.bar (λ own. seek_row own l.depth (sig_row l.field-items)) l.initial.self.found.items)
    × (sig_pairs_nodes (drop l.field-index l.field-items) ≤ sig_pairs_nodes l.field-items)
