-- The lines of refusals.
use Rattle.std.specs.Prelude.{ℕ, List, [], ◌∷◌, Option, Some, None, codes, decimal}
use Rattle.omega_kinds.specs.Text.{◌then◌}
use Rattle.omega_types.specs.Ty.{Ty}
use Rattle.omega_terms.specs.KindText.{kind_text}
use Rattle.omega_terms.specs.TypeText.{ty_text}
use Rattle.sig_definitions.specs.Explicit.SigPath.{Item, SigPath}
use Rattle.sig_definitions.specs.Matching.MatchRefusal.{Why}
use Rattle.fing_syntax.specs.Phrase.{Span, Bytes}
use Rattle.refusal_reasons.specs.Refusal.{ElabWhy, Refusal, Refuse}

-- ---- paths

-- a name is spelled by its own bytes
abbrev pub item_text : Item → List ℕ
item_text (Item.Part name) = name
item_text Item.Arg = codes "(arg)"
item_text Item.Res = codes "(res)"
item_text Item.Meta = codes "(sig)"

-- each further step has a dot before it
abbrev pub more_items_text : List Item → List ℕ
more_items_text [] = []
more_items_text (a ∷ p) = codes "." then item_text a then more_items_text p

abbrev pub item_list_text : Item → List Item → List ℕ
item_list_text a p = item_text a then more_items_text p

-- the steps with dots between them; the path of no steps is a dot
abbrev pub path_text : SigPath → List ℕ
path_text [] = codes "."
path_text (a ∷ p) = item_list_text a p

-- ---- reasons

-- two types with n type variables in scope, the one that was found and the one that was needed
abbrev pub two_types_text : ℕ → (found needed : Ty) → List ℕ
two_types_text n found needed = ty_text n found then codes " " then ty_text n needed

abbrev pub clash_text : ℕ → Why → List ℕ
clash_text n Why.Form = codes "Form"
clash_text n Why.Missing = codes "Missing"
clash_text n Why.Effects = codes "Effect"
clash_text n (Why.Types t u) = codes "Types " then two_types_text n t u

-- a reason, with n type variables in scope
abbrev pub reason_text : ℕ → ElabWhy → List ℕ
reason_text n (ElabWhy.Unbound name) = codes "Unbound " then name
reason_text n ElabWhy.NotStructure = codes "NotStructure"
reason_text n (ElabWhy.NoPart name) = codes "NoPart " then name
reason_text n ElabWhy.NotFunctor = codes "NotFunctor"
reason_text n ElabWhy.WrongPath = codes "WrongPath"
reason_text n ElabWhy.Escapes = codes "Escapes"
reason_text n (ElabWhy.NoRoot number p) = codes "NoRoot " then decimal number then codes " " then path_text p
reason_text n (ElabWhy.Clash p why) = codes "Clash " then path_text p then codes " " then clash_text n why
reason_text n (ElabWhy.NotArrow t) = codes "NotArrow " then ty_text n t
reason_text n (ElabWhy.NotAll t) = codes "NotAll " then ty_text n t
reason_text n (ElabWhy.NotRecord t) = codes "NotRecord " then ty_text n t
reason_text n (ElabWhy.NotSum t) = codes "NotSum " then ty_text n t
reason_text n (ElabWhy.NotData t) = codes "NotData " then ty_text n t
reason_text n (ElabWhy.NoField name) = codes "NoField " then name
reason_text n (ElabWhy.NoBranch name) = codes "NoBranch " then name
reason_text n (ElabWhy.Differ t u) = codes "Differ " then two_types_text n t u
reason_text n (ElabWhy.KindDiffer k j) = codes "KindDiffer " then kind_text k then codes " " then kind_text j
reason_text n ElabWhy.NotOperator = codes "NotOperator"
reason_text n (ElabWhy.DuplicateField name) = codes "DuplicateField " then name
reason_text n (ElabWhy.Duplicate name) = codes "Duplicate " then name
reason_text n (ElabWhy.NotAbstract p) = codes "NotAbstract " then path_text p

-- ---- lines

-- what a line begins with: the offsets of the first byte and of the one after the last
abbrev pub front_text : Span → List ℕ
front_text (Bytes first past) = codes "refused " then decimal first then codes "-" then decimal past then codes " "

abbrev pub line : Refusal → List ℕ
line (Refuse at n why) = front_text at then reason_text n why then codes "\n"

-- out of memory has no line
abbrev pub line_of : Option Refusal → List ℕ
line_of (Some refusal) = line refusal
line_of None = []
