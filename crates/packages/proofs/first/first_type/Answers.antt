use Rattle.std.proofs.Common.{sym, ◌∙◌}
use Rattle.sig_roots.specs.Inner.Rooted.{rooted}
use Rattle.packages.proofs.Steps.{type-found, type-taken}
use Rattle.packages.proofs.first.first_type.Goals as goal

pub returns-in-Some : goal.returns-in-Some
returns-in-Some c =
    type-found c.args.places.now (rooted c.args.depth c.args.ty.now) c.in-Some.index (sym c.in_ok-index.ensures ∙ c.in-Some.is) (c.is_untaken.ensures.0 c.if-is_untaken.true)

pub returns-in_default : goal.returns-in_default
returns-in_default c =
    type-taken c.args.places.now (rooted c.args.depth c.args.ty.now) c.in-Some.index (sym c.in_ok-index.ensures ∙ c.in-Some.is) (λ e. let t = c.is_untaken.ensures.1 e in let f = c.if-is_untaken.false in cc)
