-- Fields of structures in the order of their names.
use Rattle.std.specs.Prelude.{List, [], ◌∷◌, cond}
use Rattle.omega_kinds.specs.Name.{Name, same_name}
use Rattle.omega_kinds.specs.LabelOrder.{name_before}
use Rattle.sig_definitions.specs.Signatures.Sig.{Sig, SigRow}

-- a field more, before the first one of a later name
abbrev pub insert_field : Name → Sig → SigRow → SigRow
insert_field l s SigRow.End = SigRow.More l s SigRow.End
insert_field l s (SigRow.More m t rest) = cond (name_before l m) (SigRow.More l s (SigRow.More m t rest)) (SigRow.More m t (insert_field l s rest))

-- the fields of both
abbrev pub merge : SigRow → SigRow → SigRow
merge SigRow.End gs = gs
merge (SigRow.More l s fs) gs = insert_field l s (merge fs gs)

-- a name more in a set of names, which is a list in their order
abbrev pub with_name : Name → List Name → List Name
with_name l [] = l ∷ []
with_name l (m ∷ ms) = cond (same_name l m) (m ∷ ms) (cond (name_before l m) (l ∷ m ∷ ms) (m ∷ with_name l ms))

-- these names in their order, once each
abbrev pub in_order : List Name → List Name
in_order [] = []
in_order (l ∷ ls) = with_name l (in_order ls)

abbrev pub with_names : SigRow → List Name → List Name
with_names SigRow.End names = names
with_names (SigRow.More l s fs) names = with_names fs (with_name l names)
