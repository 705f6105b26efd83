-- A token is the wanted one where their numbers are equal.
-- Main results: same_number.
use Rattle.std.proofs.Common.{◌≡◌, ◌∙◌, ap, refl, sym, Bool, true, false, eqb, eqb-true, eq-eqb}
use Rattle.parse_grammar.specs.Grammar.{Terminal, a_keyword, a_mark, a_name, a_number, a_text}
use Rattle.parse_grammar.specs.Tables.{number_of}
use Rattle.parse_grammar.specs.Inner.View.{terminal_in}
use Rattle.parse_grammar.specs.declared.grammar.Terminal.{Terminal as TerminalIn}
use Rattle.parse_grammar.specs.declared.grammar.Terminal.TheVariants.{Word, Mark, Name, Number, Text}
use Rattle.parse_grammar.proofs.Checks.{same_terminal}

abbrev back : Terminal → TerminalIn
back (a_keyword w) = Word w
back (a_mark m) = Mark m
back a_name = Name
back a_number = Number
back a_text = Text

and_back : (t : TerminalIn) → back (terminal_in t) ≡ t
and_back (Word w) = refl
and_back (Mark m) = refl
and_back Name = refl
and_back Number = refl
and_back Text = refl

same_view : (t u : TerminalIn) → terminal_in t ≡ terminal_in u → t ≡ u
same_view t u e = sym (and_back t) ∙ ap back e ∙ and_back u

-- the code's test for equal terminals is that of their numbers
pub same_number : (b : Bool) (t u : TerminalIn) → (b ≡ true → t ≡ u) → (b ≡ false → t ≡ u → ⊥) → b ≡ eqb (number_of (terminal_in t)) (number_of (terminal_in u))
same_number true t u same apart = sym (eq-eqb (number_of (terminal_in t)) (number_of (terminal_in u)) (ap (λ x. number_of (terminal_in x)) (same refl)))
same_number false t u same apart = go (eqb (number_of (terminal_in t)) (number_of (terminal_in u))) refl
  where
    go : (x : Bool) → eqb (number_of (terminal_in t)) (number_of (terminal_in u)) ≡ x → false ≡ x
    go false e = refl
    go true e = absurd (apart refl (same_view t u (same_terminal (terminal_in t) (terminal_in u) (eqb-true (number_of (terminal_in t)) (number_of (terminal_in u)) e))))
