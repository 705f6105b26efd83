use Rattle.std.proofs.Common.{◌≡◌, ℕ, List, ◌++◌, rules, sym, ap, subst, ◌∙◌}
use Rattle.show_colour.specs.Inner.Coloured.{IsColoured, sign}
use Rattle.show_colour.specs.declared.style.Style.TheVariants as style
use Rattle.show_colour.proofs.Parts.{styled}
use Rattle.show_colour.proofs.colouring.put_styled.Goals as goal

pub returns : goal.returns
returns c = λ page a.
    let one : c.extend_from_slice.new.self.items ≡ c.args.shown.now.items ++ sign c.args.style = search rules in
    let two : c.extend_from_slice-2.new.self.items ≡ c.extend_from_slice.new.self.items ++ c.args.text.now = search rules in
    let three : c.extend_from_slice-3.new.self.items ≡ c.extend_from_slice-2.new.self.items ++ sign style.Plain = search rules in
    let whole = three ∙ ap (λ (l : List ℕ). l ++ sign style.Plain) (two ∙ ap (λ (l : List ℕ). l ++ c.args.text.now) one) in
    subst (λ l. IsColoured (page ++ c.args.text.now) l) (sym whole) (styled page c.args.shown.now.items c.args.text.now c.args.style a)
