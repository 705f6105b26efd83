-- What `gen` counts, and the line that tells it.
use Rattle.std.specs.Prelude.{ℕ, suc, ◌-◌, ◌^◌, min, List, [], ◌∷◌, codes, decimal, flat_map}
use Rattle.omega_terms.specs.Nodes.{nodes}
use Rattle.omega_terms.specs.Term.{Term}
use Rattle.fing_syntax.specs.Phrase.{Binds as Program, NoBinds, MoreBinds}

-- the steps that `gen` may take
abbrev pub most_steps : ℕ
most_steps = 10000000

-- the number of bindings of a program, without those inside them
abbrev pub bind_count : Program → ℕ
bind_count NoBinds = 0
bind_count (MoreBinds first rest) = suc (bind_count rest)

-- the number of nodes of a term without its types, or the greatest number of 64 bits where there are more
abbrev pub node_count : Term → ℕ
node_count e = min (nodes e) (2 ^ 64 - 1)

-- the line of so many bindings, nodes and steps
abbrev pub counts_line : (bindings nodes steps : ℕ) → List ℕ
counts_line b n s = flat_map (λ (t : List ℕ). t) (
    codes "bindings " ∷ decimal b
    ∷ codes " nodes " ∷ decimal n
    ∷ codes " steps " ∷ decimal s
    ∷ codes "\n" ∷ [])
