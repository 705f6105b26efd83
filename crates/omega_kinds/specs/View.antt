-- The plain tree of a kind, and the extent that it keeps.
use Rattle.std.specs.Prelude.{ℕ}
use Rattle.omega_kinds.specs.declared.kind.Kind.{Kind as SharedKind}
use Rattle.omega_kinds.specs.declared.kind.Kind.TheVariants.{Star as SharedStar, Arrow' as SharedArrow}
use Rattle.omega_kinds.specs.Kind.{Kind, Star, Arrow}

abbrev pub kind_tree : SharedKind → Kind
kind_tree SharedStar = Star
kind_tree (SharedArrow p a q b h) = Arrow (kind_tree a) (kind_tree b)

-- how many arrows stand inside one another, as the kind says
abbrev pub height_kept : SharedKind → ℕ
height_kept SharedStar = 0
height_kept (SharedArrow p a q b e) = e.height

-- how many arrows stand in it, as the kind says
abbrev pub size_kept : SharedKind → ℕ
size_kept SharedStar = 0
size_kept (SharedArrow p a q b e) = e.size
