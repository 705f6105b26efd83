-- What the code's part of a type is seen as, and what comes in for variables.
use Rattle.std.specs.Prelude.{ℕ}
use Rattle.omega_kinds.specs.View.{kind_tree}
use Rattle.type_normal.specs.Inner.Heads.{Head, stands, came, came_at, one_head, putting}
use Rattle.type_normal.specs.declared.placing.Coming.{Coming}
use Rattle.type_normal.specs.declared.placing.Coming.TheVariants as coming
use Rattle.type_normal.specs.declared.placing.Placed.{Placed}
use Rattle.type_normal.specs.declared.placing.Placed.TheVariants as placed

abbrev pub head_of : Placed → Head
head_of (placed.Stands t) = stands t
head_of (placed.Came t) = came t
head_of (placed.CameAt t k) = came_at t (kind_tree k)

-- what each variable becomes
abbrev pub coming_of : Coming → ℕ → Head
coming_of (coming.One i t k) = one_head (kind_tree k.now) i t.now
coming_of (coming.Many ts) = putting ts.now

-- the first variable that changes
abbrev pub first_of : Coming → ℕ
first_of (coming.One i t k) = i
first_of (coming.Many ts) = 0
