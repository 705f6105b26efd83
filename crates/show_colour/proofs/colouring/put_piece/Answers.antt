use Rattle.std.proofs.Common.{◌≡◌, ◌++◌, rules, sym, subst}
use Rattle.show_colour.specs.Inner.Coloured.{IsColoured}
use Rattle.show_colour.proofs.Parts.{plain}
use Rattle.show_colour.proofs.colouring.put_piece.Goals as goal

pub returns : goal.returns
returns c = λ page a.
    let one : c.extend_from_slice.new.self.items ≡ c.args.shown.now.items ++ c.args.text.now = search rules in
    subst (λ l. IsColoured (page ++ c.args.text.now) l) (sym one) (plain page c.args.shown.now.items c.args.text.now a)
