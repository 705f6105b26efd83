-- What the code's changes are seen as.
use Rattle.std.specs.Prelude.{ℕ}
use Rattle.semantic_sigs.specs.declared.heads.Change.{Change}
use Rattle.semantic_sigs.specs.declared.heads.Change.TheVariants as change
use Rattle.semantic_sigs.specs.Inner.Changes.{Head, raising, lowering, putting, moving}

-- what a change makes of an index outside all binders
abbrev pub change_of : Change → ℕ → Head
change_of (change.Raise by) = raising by
change_of (change.Lower by) = lowering by
change_of (change.Put types) = putting types.now
change_of (change.Move places) = moving places.now
