-- What holds of the types of a term's nodes, as the contracts say it.
use Rattle.std.specs.Prelude.{List, [], map}
use Rattle.omega_kinds.specs.Kind.{Kind}
use Rattle.omega_types.specs.Ty.{Ty}
use Rattle.omega_types.specs.Normaliser.{normal}
use Rattle.omega_terms.specs.Term.{Term}
use Rattle.omega_terms.specs.Typing.{HasType, GoodVars}
use Rattle.type_store.specs.Trees.{Begins}
use Rattle.omega_node_laws.specs.Held.{Held}
use Rattle.omega_node_laws.specs.NodeTypes.{HoldsNodeTypes}

-- what a list holds, a list that begins with it holds too
abbrev pub HeldGrows : Type 0
HeldGrows = (ts us : List Ty) (ctx : List Kind) (vars : List Ty) (e : Term) → Begins ts us → Held ts ctx vars e → Held us ctx vars e

-- where the types that are found are held, for a term that has a type, the list has the type of each of its nodes
abbrev pub NodesHeld : Type 0
NodesHeld = (ts : List Ty) (ctx : List Kind) (vars : List Ty) (e : Term) (t : Ty) → GoodVars ctx vars → HasType ctx vars e t → Held ts ctx (map (normal ctx) vars) e → HoldsNodeTypes ts ctx vars e

-- the same of a closed term
abbrev pub ClosedNodesHeld : Type 0
ClosedNodesHeld = (ts : List Ty) (e : Term) (t : Ty) → HasType [] [] e t → Held ts [] [] e → HoldsNodeTypes ts [] [] e
