-- Texts in pieces.
use Rattle.std.specs.Prelude.{List, ℕ, ◌++◌}

-- One text and then another. It does not compute, so that a text keeps the pieces that it is made of.
infixr 10 ◌then◌
unfoldable pub ◌then◌ : List ℕ → List ℕ → List ℕ
a then b = a ++ b
