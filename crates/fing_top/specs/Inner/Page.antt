-- What the page tells, on which a reply is gathered.
use Rattle.std.specs.Prelude.{Some}
use Rattle.fing_text.specs.Told.{Told}
use Rattle.fing_top.specs.declared.pages.Page.{Page}

abbrev pub page_told : Page → Told
page_told p = record { bytes = Some p.bytes.items; faults = p.faults }
