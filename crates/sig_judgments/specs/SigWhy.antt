-- Why a rule of signatures or of declarations is refused.
use Rattle.omega_kinds.specs.Kind.{Kind}
use Rattle.omega_kinds.specs.Name.{Name}
use Rattle.sig_definitions.specs.Explicit.SigPath.{SigPath}

pub data SigWhy : Type 0 where
  -- the part at the path is no hidden type of the signature's own
  NotAbstract : (path : SigPath) → SigWhy
  -- the path leaves the structures at this name
  NoPart : (name : Name) → SigWhy
  -- a declaration's label is declared before
  Duplicate : (name : Name) → SigWhy
  KindDiffer : (found needed : Kind) → SigWhy
  -- what is included is no structure
  NotStructure : SigWhy
