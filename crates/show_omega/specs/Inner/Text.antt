-- What a text in memory tells, to which Omega text is written.
use Rattle.std.specs.Prelude.{Some}
use Rattle.fing_text.specs.Told.{Told}
use Rattle.show_omega.specs.declared.emission.Text.{Text}

abbrev pub text_told : Text → Told
text_told t = record { bytes = Some t.bytes.items; faults = t.faults }
