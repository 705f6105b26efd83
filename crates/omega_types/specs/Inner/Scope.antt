-- A context of the code, whose innermost variable comes last, as the definitions have it, the innermost first.
use Rattle.std.specs.Prelude.{List, map, reverse}
use Rattle.omega_kinds.specs.Kind.{Kind}
use Rattle.omega_kinds.specs.declared.kind.Kind.{Kind as SharedKind}
use Rattle.omega_kinds.specs.View.{kind_tree}

abbrev pub scope_of : List SharedKind → List Kind
scope_of ctx = reverse (map kind_tree ctx)
