-- What the code's rests come to.
use Rattle.std.specs.Prelude.{List, map, reverse}
use Rattle.omega_kinds.specs.Kind.{Kind}
use Rattle.sig_definitions.specs.Signatures.Sig.{Module}
use Rattle.semantic_sigs.specs.Inner.Made.{module_of}
use Rattle.module_rests.specs.Inner.Folded.{Folded}
use Rattle.module_rests.specs.declared.rests.Rest.{Rest}

-- a rest comes to what the rule of a sequence makes of its bindings and its last module
abbrev pub Comes : List Kind → Rest → Module → Type 0
Comes ctx r whole = Folded ctx (map module_of (reverse r.steps.items)) (module_of r.last) whole
