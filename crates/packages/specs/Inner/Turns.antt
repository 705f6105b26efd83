-- The variables of a signature, taken one after the other.
use Rattle.std.specs.Prelude.{ℕ, zero, suc, List, [], ◌∷◌, ◌++◌, Option, Some, None, map, set}
use Rattle.omega_kinds.specs.Kind.{Kind}
use Rattle.omega_types.specs.Binders.{own}
use Rattle.omega_types.specs.Normaliser.{kind_at}
use Rattle.sig_definitions.specs.Signatures.Sig.{Sig}
use Rattle.packages.specs.Inner.First.{Places, first}

-- none is taken
abbrev pub untaken : List Kind → Places
untaken ks = map (λ k. None) ks

-- what a turn leaves where no variable is found, and else what comes after the one that is found
abbrev pub turn : List Kind → Places → (ℕ → List Kind × Places) → Option ℕ → List Kind × Places
turn taken ps after None = (taken, ps)
turn taken ps after (Some i) = after i

-- the kinds in the order of taking, and the new indexes, after so many further turns, of which each takes what is found
abbrev pub turns_by : List Kind → (Places → Option ℕ) → (left : ℕ) → List Kind → Places → List Kind × Places
turns_by ks find zero taken ps = (taken, ps)
turns_by ks find (suc left) taken ps = turn taken ps (λ i. turns_by ks find left (taken ++ kind_at ks (own ks i) ∷ []) (set ps i (Some left))) (find ps)

-- the same for the first variable on the way through a signature
abbrev pub turns : List Kind → Sig → (left : ℕ) → List Kind → Places → List Kind × Places
turns ks s = turns_by ks (λ ps. first ps zero s)
