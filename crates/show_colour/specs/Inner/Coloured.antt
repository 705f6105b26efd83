-- A page in colour: the page with signs of colour between its bytes.
use Rattle.std.specs.Prelude.{ℕ, List, [], ◌∷◌, ◌++◌}
use Rattle.show_colour.specs.declared.style.Style.{Style}
use Rattle.show_colour.specs.declared.style.Style.TheVariants as style

-- the sign by which a terminal goes over to a style: an escape, a bracket, numbers with a semicolon between them, and an m
abbrev pub sign : Style → List ℕ
sign style.Plain = 27 ∷ 91 ∷ 48 ∷ 109 ∷ []
sign style.Error = 27 ∷ 91 ∷ 49 ∷ 59 ∷ 51 ∷ 49 ∷ 109 ∷ []
sign style.Frame = 27 ∷ 91 ∷ 49 ∷ 59 ∷ 51 ∷ 52 ∷ 109 ∷ []
sign style.Note = 27 ∷ 91 ∷ 49 ∷ 59 ∷ 51 ∷ 54 ∷ 109 ∷ []

-- what is shown is the page, with signs between its bytes
pub data IsColoured : (page shown : List ℕ) → Type 0 where
  none : IsColoured [] []
  byte : {page shown : List ℕ} (b : ℕ) → IsColoured page shown → IsColoured (b ∷ page) (b ∷ shown)
  signed : {page shown : List ℕ} (s : Style) → IsColoured page shown → IsColoured page (sign s ++ shown)
