-- What the code's parts of trees stand for.
use Rattle.std.specs.Prelude.{map}
use Rattle.omega_kinds.specs.View.{kind_tree}
use Rattle.fing_syntax.specs.Inner.Leaves.{place, spelled}
use Rattle.parse_grammar.specs.Parts as plain
use Rattle.parse_grammar.specs.Parts.{Kinded, Open, Is, Has, Sealed, Shown, OfValue, OfType}
use Rattle.parse_forms.specs.declared.part.KindPart.{KindPart}
use Rattle.parse_forms.specs.declared.part.TypeTail.{TypeTail}
use Rattle.parse_forms.specs.declared.part.TypeTail.TheVariants as a_tail
use Rattle.parse_forms.specs.declared.part.Where.{Where}
use Rattle.parse_forms.specs.declared.part.Ascription.{Ascription}
use Rattle.parse_forms.specs.declared.part.Ascription.TheVariants as an_ascription
use Rattle.parse_forms.specs.declared.part.Abstraction.{Abstraction}
use Rattle.parse_forms.specs.declared.part.Abstraction.TheVariants as an_abstraction

abbrev pub kind_in : KindPart → Kinded
kind_in k = record { kind = kind_tree k.kind; last = place k.last }

abbrev pub tail_in : TypeTail → plain.TypeTail
tail_in a_tail.Open = Open
tail_in (a_tail.Is t) = Is t
tail_in (a_tail.Has k) = Has (kind_in k)

abbrev pub where_in : Where → plain.Where
where_in w = record { first = spelled w.first; rest = map spelled w.rest.items; ty = w.ty }

abbrev pub ascription_in : Ascription → plain.Ascription
ascription_in (an_ascription.Sealed g) = Sealed g
ascription_in (an_ascription.Shown g) = Shown g

abbrev pub abstraction_in : Abstraction → plain.Abstraction
abstraction_in (an_abstraction.Value x t e) = OfValue (spelled x) t e
abstraction_in (an_abstraction.Type x k e) = OfType (spelled x) (kind_tree k) e
