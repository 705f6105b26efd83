-- Kinds, as plain trees. (Labels and effects are plain as the code declares them.)
use Rattle.std.specs.Prelude.{Bool, true, false, ◌&&◌}

-- the kind of types, and the kind of operators from one kind to another
pub data Kind : Type 0 where
  Star : Kind
  Arrow : (from to : Kind) → Kind
  deriving Discrete as Kind-discrete
  deriving IsSet as Kind-set

-- whether two kinds are the same tree
abbrev pub kind_eq : Kind → Kind → Bool
kind_eq Star Star = true
kind_eq Star (Arrow c d) = false
kind_eq (Arrow a b) Star = false
kind_eq (Arrow a b) (Arrow c d) = kind_eq a c && kind_eq b d
