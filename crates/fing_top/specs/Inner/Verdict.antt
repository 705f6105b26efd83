-- The lines of what `verify` refuses.
use Rattle.std.specs.Prelude.{ℕ, List, [], codes}
use Rattle.omega_read.specs.declared.whole.ReadRefusal.{ReadRefusal}
use Rattle.omega_read.specs.declared.whole.ReadRefusal.TheVariants as read
use Rattle.omega_spelling.specs.Refused.{IsVersion, IsTooDeep, IsWide, IsNotOmega}
use Rattle.fing_top.specs.declared.verifying.Unverified.{Unverified}
use Rattle.fing_top.specs.declared.verifying.Unverified.TheVariants.{NotOmega, Version, Wide, TooDeep, IllTyped, Mem}
use Rattle.fing_top.specs.Reply.{text_line}

-- why bytes that are not read are not verified
abbrev pub unread : ReadRefusal → Unverified
unread read.NotOmega = NotOmega
unread read.Version = Version
unread read.Wide = Wide
unread read.TooDeep = TooDeep
unread read.Mem = Mem

-- the line of a refusal; want of memory has none
abbrev pub verdict_line : Unverified → List ℕ
verdict_line NotOmega = text_line IsNotOmega
verdict_line Version = text_line IsVersion
verdict_line Wide = text_line IsWide
verdict_line TooDeep = text_line IsTooDeep
verdict_line IllTyped = codes "refused IllTyped\n"
verdict_line Mem = []

abbrev pub HasLine : Unverified → Type 0
HasLine Mem = ⊥
HasLine _ = Unit {0}
