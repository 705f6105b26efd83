-- Pages in colour grow piece by piece.
-- Main results: plain, styled.
use Rattle.std.proofs.Common.{ℕ, List, [], ◌∷◌, ◌++◌, sym, subst, ◌∙◌}
use Rattle.std.proofs.lemmas.List.{append_assoc, append-nil}
use Rattle.show_colour.specs.Inner.Coloured.{IsColoured, sign}
use Rattle.show_colour.specs.declared.style.Style.{Style}
use Rattle.show_colour.specs.declared.style.Style.TheVariants as style

-- one page behind another
joined : {p q s t : List ℕ} → IsColoured p s → IsColoured q t → IsColoured (p ++ q) (s ++ t)
joined IsColoured.none b = b
joined (IsColoured.byte x a) b = IsColoured.byte x (joined a b)
joined {q = q} {t = t} (IsColoured.signed {page = p} {shown = s} look a) b =
    subst (λ l. IsColoured (p ++ q) l) (sym (append_assoc (sign look) s t)) (IsColoured.signed look (joined a b))

-- a text without signs
bare : (text : List ℕ) → IsColoured text text
bare [] = IsColoured.none
bare (b ∷ text) = IsColoured.byte b (bare text)

-- a text without signs behind a page
pub plain : (page shown text : List ℕ) → IsColoured page shown → IsColoured (page ++ text) (shown ++ text)
plain page shown text a = joined a (bare text)

-- a text in a style behind a page
pub styled : (page shown text : List ℕ) (look : Style) → IsColoured page shown → IsColoured (page ++ text) (((shown ++ sign look) ++ text) ++ sign style.Plain)
styled page shown text look a =
    let end = sign style.Plain in
    let whole = joined a (IsColoured.signed look (joined (bare text) (IsColoured.signed style.Plain IsColoured.none))) in
    let same = sym (append_assoc (shown ++ sign look) text end ∙ append_assoc shown (sign look) (text ++ end)) in
    subst (λ l. IsColoured (page ++ l) (((shown ++ sign look) ++ text) ++ end)) (append-nil text)
    (subst (λ l. IsColoured (page ++ (text ++ [])) l) same whole)
