use Rattle.std.proofs.Common.{◌≡◌, ℕ, List, [], ◌++◌, length, arith, rules, refl, sym, ap, subst, ◌∙◌}
use Rattle.std.proofs.lemmas.List.{append_assoc, append-nil, nil_from_length}
use Rattle.show_colour.specs.Inner.Coloured.{IsColoured}
use Rattle.show_colour.proofs.colouring.coloured.Goals as goal

pub loop-rest-init : goal.loop-rest-init
loop-rest-init c = ([], refl, subst (λ (l : List ℕ). IsColoured [] l) (sym c.new-shown.ensures.items) IsColoured.none)

pub loop-rest-smaller : goal.loop-rest-smaller
loop-rest-smaller c = omega (arith, c.split_at.ensures.back_len, c.line_length.ensures.some)

pub loop-rest-preserved : goal.loop-rest-preserved
loop-rest-preserved c =
    let before = c.loop-rest.invariant in
    let line = c.split_at.result.0.now in
    let all = append_assoc before.0 line c.split_at.result.1.now ∙ ap (λ (l : List ℕ). before.0 ++ l) (sym c.split_at.ensures.by_index.0) ∙ before.1 in
    (before.0 ++ line, all, c.in_ok-put_line.ensures before.0 before.2)

pub returns : goal.returns
returns c =
    let before = c.loop-rest.invariant in
    let short : length c.loop-rest.rest.now ≡ 0 = search rules in
    let all = sym (append-nil before.0) ∙ ap (λ (l : List ℕ). before.0 ++ l) (sym (nil_from_length c.loop-rest.rest.now short)) ∙ before.1 in
    subst (λ l. IsColoured l c.loop-rest.shown.items) all before.2
