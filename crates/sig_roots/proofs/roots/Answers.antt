use Rattle.std.proofs.Common.{List, [], length, map, reverse, Option, None, sym, ap, ap₂, ◌∙◌, subst}
use Rattle.std.proofs.lemmas.List.{length-reverse}
use Rattle.omega_kinds.specs.Kind.{Kind}
use Rattle.sig_definitions.specs.Explicit.SigPath.{SigPath}
use Rattle.semantic_sigs.specs.Inner.Items.{item_of}
use Rattle.semantic_sigs.specs.Inner.View.{kinds_of}
use Rattle.sig_roots.specs.Inner.Roots.{AreRoots}
use Rattle.sig_roots.specs.Inner.Seek.{unless_barred, seek, behind, merged}
use Rattle.sig_roots.proofs.WalkLaws.{found-length, roots-found, roots-value}
use Rattle.sig_roots.proofs.roots.Goals as goal

pub returns-clause-value : goal.returns-clause-value
returns-clause-value c =
    let found = c.into_found-found.ensures ∙ (c.in_ok-visit.ensures.found ∙ ap₂ (λ steps before. merged (λ own. behind (map item_of steps) (unless_barred None own (seek own 0 c.body.result.now))) before) c.in_ok-walk.ensures.0 (c.in_ok-walk.ensures.1 ∙ ap (λ (ks : List Kind). map {A = Kind} {B = Option SigPath} (λ k. None) ks) c.kinds.ensures)) in
    c.reverse.ensures.items ∙ ap reverse (roots-value c.args.abs.now c.body.result.now c.into_found-found.result.items c.body.ensures found)

pub returns-clause-count : goal.returns-clause-count
returns-clause-count c =
    let found = c.into_found-found.ensures ∙ (c.in_ok-visit.ensures.found ∙ ap₂ (λ steps before. merged (λ own. behind (map item_of steps) (unless_barred None own (seek own 0 c.body.result.now))) before) c.in_ok-walk.ensures.0 (c.in_ok-walk.ensures.1 ∙ ap (λ (ks : List Kind). map {A = Kind} {B = Option SigPath} (λ k. None) ks) c.kinds.ensures)) in
    ap length c.reverse.ensures.items ∙ (length-reverse c.into_found-found.result.items ∙ found-length (λ own. behind [] (unless_barred None own (seek own 0 c.body.result.now))) (kinds_of c.args.abs.now) c.into_found-found.result.items found)

pub returns-clause-roots : goal.returns-clause-roots
returns-clause-roots c = λ ctx well normal.
    let found = c.into_found-found.ensures ∙ (c.in_ok-visit.ensures.found ∙ ap₂ (λ steps before. merged (λ own. behind (map item_of steps) (unless_barred None own (seek own 0 c.body.result.now))) before) c.in_ok-walk.ensures.0 (c.in_ok-walk.ensures.1 ∙ ap (λ (ks : List Kind). map {A = Kind} {B = Option SigPath} (λ k. None) ks) c.kinds.ensures)) in
    subst (AreRoots ctx c.args.abs.now) (sym c.reverse.ensures.items) (roots-found c.args.abs.now c.body.result.now c.into_found-found.result.items c.body.ensures found ctx well normal)
