-- Renamings of the free variables below binders.
use Rattle.std.specs.Prelude.{ℕ, zero, suc, ◌-◌, List, Option}
use Rattle.omega_types.specs.Substitution.{rename}
use Rattle.omega_types.specs.Ty.{Ty, lift}
use Rattle.type_normal.specs.Inner.Moved.{moved}

-- what an index becomes below so many binders
abbrev pub lifted : (depth : ℕ) → (ℕ → ℕ) → ℕ → ℕ
lifted zero r = r
lifted (suc depth) r = lift (lifted depth r)

-- each index that is at least from less by as much, but no less than from
abbrev pub lower_from : (by from : ℕ) → Ty → Ty
lower_from by from t = rename (lifted from (λ i. i - by)) t

-- new indexes for the variables from outside so many binders
abbrev pub renumbered : List (Option ℕ) → (depth : ℕ) → Ty → Ty
renumbered places depth t = rename (lifted depth (moved places)) t
