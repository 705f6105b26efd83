-- What comes behind a byte of a text.
use Rattle.std.specs.Prelude.{List, [], ℕ, Option, Some, None, true, false}
use Rattle.omega_spelling.specs.TermReading.{chars_at, with_byte}
use Rattle.omega_read.specs.declared.texts.Char.{Char}
use Rattle.omega_read.specs.declared.texts.Char.TheVariants.{End, Escape, Byte, Bad}

abbrev pub after_char : Char → List ℕ → Option (List ℕ × List ℕ)
after_char End rest = Some ([], rest)
after_char Escape rest = chars_at true rest
after_char (Byte b) rest = with_byte b (chars_at false rest)
after_char Bad rest = None
