-- How a closed type and a closed term are spelled together, as one text of three lines.
use Rattle.std.specs.Prelude.{ℕ, List, codes}
use Rattle.omega_kinds.specs.Text.{◌then◌}
use Rattle.omega_types.specs.Ty.{Ty}
use Rattle.omega_terms.specs.declared.version.Version.{Version}
use Rattle.omega_terms.specs.Term.{Term}
use Rattle.omega_terms.specs.TypeText.{ty_text}
use Rattle.omega_terms.specs.TermText.{term_text}

-- the first line and its end
abbrev pub version_line : Version → List ℕ
version_line Version.First = codes "omega 1\n"
version_line Version.Second = codes "omega 2\n"

-- the text in a version
abbrev pub version_text : Version → Ty → Term → List ℕ
version_text v t e = version_line v then ty_text 0 t then codes "\n" then term_text 0 0 e then codes "\n"

-- the text as it is written: in the second version
abbrev pub omega_text : Ty → Term → List ℕ
omega_text t e = version_text Version.Second t e
