-- How kinds and labels are spelled.
use Rattle.std.specs.Prelude.{ℕ, List, codes}
use Rattle.omega_kinds.specs.Text.{◌then◌}
use Rattle.omega_kinds.specs.Kind.{Kind}
use Rattle.omega_kinds.specs.declared.label.Label.{Label}

abbrev pub kind_text : Kind → List ℕ
kind_text Kind.Star = codes "*"
kind_text (Kind.Arrow a b) = codes "(> " then kind_text a then codes " " then kind_text b then codes ")"

-- a name is spelled by its own bytes
abbrev pub label_text : Label → List ℕ
label_text Label.Val = codes ".val"
label_text Label.Typ = codes ".typ"
label_text Label.Sig = codes ".sig"
label_text Label.App = codes ".app"
label_text Label.Gen = codes ".gen"
label_text (Label.Name bytes) = bytes
