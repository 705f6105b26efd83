use Rattle.std.proofs.Common.{◌≡◌, ℕ, Option, IfOk, ap, sym, ◌∙◌, subst}
use Rattle.semantic_sigs.specs.Inner.View.{sig_of}
use Rattle.packages.proofs.Steps.{first-barred, first-through, first-impure}
use Rattle.packages.proofs.first.+first.Goals as goal

pub first-returns-then-is_barred : goal.first-returns-then-is_barred
first-returns-then-is_barred t c =
    first-barred c.args.places.now c.args.depth c.in_ok-inner-in-Pure.inner c.in-Fun.effect c.in-Fun.kinds c.in-Fun.param c.args.sig.now c.in-Fun.result (sym c.node.ensures ∙ ap sig_of c.in-Fun.is) c.in-Pure.is c.in_ok-inner-in-Pure.ensures (sym c.is_barred.ensures ∙ c.if-is_barred.true)

pub first-returns-else-is_barred : goal.first-returns-else-is_barred
first-returns-else-is_barred t c =
    subst (λ (u : Option ℕ). IfOk c.first.result (λ found. found ≡ u))
    (first-through c.args.places.now c.args.depth c.in_ok-inner-in-Pure.inner c.in-Fun.effect c.in-Fun.kinds c.in-Fun.param c.body.result.now c.args.sig.now c.in-Fun.result (sym c.node.ensures ∙ ap sig_of c.in-Fun.is) c.in-Pure.is c.in_ok-inner-in-Pure.ensures (sym c.is_barred.ensures ∙ c.if-is_barred.false) c.body.ensures)
    c.first.ensures

pub first-returns-in-Impure : goal.first-returns-in-Impure
first-returns-in-Impure t c =
    first-impure c.args.places.now c.args.depth c.in-Fun.effect c.in-Fun.kinds c.in-Fun.param c.args.sig.now c.in-Fun.result (sym c.node.ensures ∙ ap sig_of c.in-Fun.is) c.in-Impure.is
