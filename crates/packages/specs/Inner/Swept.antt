-- Variables taken in one walk, as turns take them one after the other.
use Rattle.std.specs.Prelude.{ℕ, ◌≡◌, List, Option}
use Rattle.omega_kinds.specs.Kind.{Kind}
use Rattle.packages.specs.Inner.First.{Places, or_first}
use Rattle.packages.specs.Inner.Turns.{turns_by}
use Rattle.packages.specs.declared.sweeping.Sweep.{Sweep}

-- turns by a finder, from where a walk stands
abbrev pub turns_from : List Kind → (Places → Option ℕ) → Sweep → List Kind × Places
turns_from ks find w = turns_by ks find w.left w.order.kinds w.order.places.items

-- where turns seek first here and then elsewhere, what is found here is taken, and elsewhere is left
pub record Sweeps (ks : List Kind) (here : Places → Option ℕ) (old new : Sweep) : Type 0 where
  pub same : (elsewhere : Places → Option ℕ) → turns_from ks (λ ps. or_first (here ps) (elsewhere ps)) old ≡ turns_from ks elsewhere new
