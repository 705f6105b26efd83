-- Separate units `module X : S = struct .. end` and what their nodes are seen as. Units are own.
use Rattle.std.specs.Prelude.{◌≡◌, List, []}
use base.Stored.{Gv, gcons}
use denote.Struct.Codes.{itself}
use Rattle.std.specs.Coded.{Coded, code_by, coded_list}
use Rattle.omega_kinds.specs.Name.{Name}
use Rattle.fing_text.specs.declared.span.Span.{Span as SpanAt}
use Rattle.fing_syntax.specs.Inner.Code.{stored_span, restored_span, span_again, stored_name, restored_name, name_again, stored_sig, restored_sig, sig_again, stored_mod, restored_mod, mod_again, no_sig, no_mod}
use Rattle.fing_syntax.specs.Inner.Leaves.{place}
use Rattle.fing_syntax.specs.Phrase.{Span, Bytes, SpanName, Spelled, Mod, SigEx}

-- the place of the whole unit, its name where it stands, its signature, and its body from `struct` to `end`
pub data UnitTree : Type 0 where
  UnitAt : (span : Span) (name : SpanName) (sig : SigEx) (body : Mod) → UnitTree

abbrev pub unit_of : SpanAt → Name → SpanAt → SigEx → Mod → UnitTree
unit_of s x a g m = UnitAt (place s) (Spelled x (place a)) g m

abbrev pub stored_unit : UnitTree → Gv
stored_unit (UnitAt s x g m) = gcons (stored_span s) (gcons (stored_name x) (gcons (stored_sig g) (stored_mod m)))

abbrev pub restored_unit : Gv → UnitTree
restored_unit (gcons s (gcons x (gcons g m))) = UnitAt (restored_span s) (restored_name x) (restored_sig g) (restored_mod m)
restored_unit _ = UnitAt (Bytes 0 0) (Spelled [] (Bytes 0 0)) no_sig no_mod

pub unit_again : (u : UnitTree) → restored_unit (stored_unit u) ≡ u
unit_again (UnitAt s x g m) = λ i. UnitAt (span_again s i) (name_again x i) (sig_again g i) (mod_again m i)

abbrev pub unit_code : Coded UnitTree
unit_code = code_by Gv itself stored_unit restored_unit unit_again

abbrev pub units_code : Coded (List UnitTree)
units_code = coded_list unit_code
