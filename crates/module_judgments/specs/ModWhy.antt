-- Why a rule of modules is refused.
use Rattle.omega_kinds.specs.Name.{Name}

pub data ModWhy : Type 0 where
  Unbound : (name : Name) → ModWhy
  -- the structure has no such part
  NoPart : (name : Name) → ModWhy
  NotStructure : ModWhy
  NotFunctor : ModWhy
  -- a path has another form than its position needs
  WrongPath : ModWhy
  -- its form is right, and what it stands for mentions a hidden type
  Escapes : ModWhy
