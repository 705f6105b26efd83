use Rattle.std.proofs.Common.{◌≡◌, IfOk, sym, ap, ◌∙◌, subst}
use Rattle.omega_types.specs.Ty.{Ty}
use Rattle.semantic_sigs.specs.Inner.Change.{change_of}
use Rattle.semantic_sigs.specs.Inner.Changes.{sunk, ty_in}
use Rattle.semantic_sigs.proofs.HeadLaws.{ty-raised, ty-lowered, ty-moved}
use Rattle.semantic_sigs.proofs.heads.change_ty.Goals as goal

pub returns-in-Raise : goal.returns-in-Raise
returns-in-Raise c =
    let e = ap (λ h. ty_in (sunk c.args.depth (change_of h)) c.args.ty.now) c.in-Raise.is ∙ ty-raised c.in-Raise.by c.args.depth c.args.ty.now in
    subst (λ (u : Ty). IfOk c.raise.result (λ t. t ≡ u)) (sym e) c.raise.ensures.value

pub returns-in-Lower : goal.returns-in-Lower
returns-in-Lower c =
    let e = ap (λ h. ty_in (sunk c.args.depth (change_of h)) c.args.ty.now) c.in-Lower.is ∙ ty-lowered c.in-Lower.by c.args.depth c.args.ty.now in
    subst (λ (u : Ty). IfOk c.lower_from.result (λ t. t ≡ u)) (sym e) c.lower_from.ensures

pub returns-in-Move : goal.returns-in-Move
returns-in-Move c =
    let e = ap (λ h. ty_in (sunk c.args.depth (change_of h)) c.args.ty.now) c.in-Move.is ∙ ty-moved c.in-Move.places.now c.args.depth c.args.ty.now in
    subst (λ (u : Ty). IfOk c.renumber.result (λ t. t ≡ u)) (sym e) c.renumber.ensures
