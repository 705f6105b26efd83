-- Fields of record types and of record terms in the order of their labels, and names that are new.
use Rattle.std.specs.Prelude.{List, [], ◌∷◌, cond, ◌≢◌, IsTrue}
use Rattle.omega_kinds.specs.declared.label.Label.{Label}
use Rattle.omega_kinds.specs.Name.{Name}
use Rattle.omega_kinds.specs.LabelOrder.{label_before, name_before}
use Rattle.omega_types.specs.Ty.{Ty, Row}
use Rattle.omega_terms.specs.Term.{Term, TermRow}
use Rattle.sig_definitions.specs.Signatures.Sig.{Sig, SigRow}

-- a field more, before the first one of a later label
abbrev pub insert_part : Label → Ty → Row → Row
insert_part l t Row.End = Row.More l t Row.End
insert_part l t (Row.More m u rest) = cond (label_before l m) (Row.More l t (Row.More m u rest)) (Row.More m u (insert_part l t rest))

abbrev pub insert_term : Label → Term → TermRow → TermRow
insert_term l e TermRow.End = TermRow.More l e TermRow.End
insert_term l e (TermRow.More m d rest) = cond (label_before l m) (TermRow.More l e (TermRow.More m d rest)) (TermRow.More m d (insert_term l e rest))

-- the name is none of these
abbrev pub IsNew : Name → List Name → Type 0
IsNew l [] = Unit {0}
IsNew l (m ∷ ms) = (l ≢ m) × IsNew l ms

-- the fields' names are none of these
abbrev pub AreNew : SigRow → List Name → Type 0
AreNew SigRow.End names = Unit {0}
AreNew (SigRow.More l s rest) names = IsNew l names × AreNew rest names

-- the first of the fields' names that is one of these
pub data FirstOld : SigRow → List Name → Name → Type 0 where
  here : {l : Name} {s : Sig} {rest : SigRow} {names : List Name} → (IsNew l names → ⊥) → FirstOld (SigRow.More l s rest) names l
  there : {l m : Name} {s : Sig} {rest : SigRow} {names : List Name} → IsNew m names → FirstOld rest names l → FirstOld (SigRow.More m s rest) names l

-- names in strictly rising order
abbrev pub BeforeNames : Name → List Name → Type 0
BeforeNames l [] = Unit {0}
BeforeNames l (m ∷ ms) = IsTrue (name_before l m) × BeforeNames l ms

abbrev pub NamesRise : List Name → Type 0
NamesRise [] = Unit {0}
NamesRise (l ∷ ls) = BeforeNames l ls × NamesRise ls
