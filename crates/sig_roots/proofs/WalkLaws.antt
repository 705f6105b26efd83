-- The steps of the walk: what is found at each form of signature.
-- Main results: roots-found, fields-step, result-step.
use Rattle.std.specs.Prelude.{ℕ, suc, ◌+◌, ◌-◌, ◌<◌, ◌≤◌, ◌≡◌, List, [], ◌∷◌, ◌++◌, length, map, reverse, take, drop, Option, Some, None, nat_eq, true, false, Bool as Truth, slice_get}
use Rattle.std.proofs.Common.{arith, get_or, drop-cons}
use Rattle.std.proofs.lemmas.Bool.Decides.{nat_tests}
use Rattle.std.proofs.lemmas.List.{length-append, length-map, map-append, at_drop_all}
use Rattle.std.proofs.Math.Seq.{take-append_seam}
use Rattle.std.proofs.Math.Path.{refl, sym, ap, ap₂, ◌∙◌, subst}
use Rattle.omega_kinds.specs.Kind.{Kind}
use Rattle.omega_kinds.specs.Name.{Name}
use Rattle.omega_types.specs.Binders.{own as own_of}
use Rattle.sig_definitions.specs.Signatures.Sig.{Sig, Abs}
use Rattle.sig_definitions.specs.Signatures.Alike.{NormalAbs}
use Rattle.sig_definitions.specs.Explicit.SigPath.{SigPath, Item}
use Rattle.sig_definitions.specs.Explicit.WellFormed.{WellFormedAbs}
use Rattle.semantic_sigs.specs.Inner.Fields.{SigPairs, sig_row}
use Rattle.semantic_sigs.specs.Inner.Items.{item_of}
use Rattle.semantic_sigs.specs.declared.path.Item.{Item as CodeItem}
use Rattle.semantic_sigs.specs.Inner.View.{kinds_of, body_of}
use Rattle.sig_match_laws.specs.RootSearch.{after, or_else}
use Rattle.sig_roots.specs.Inner.Roots.{IsRoot, AreRoots}
use Rattle.sig_roots.specs.Inner.Seek.{is_open, unless_barred, ends, seek, seek_abs, seek_row, behind, merged}
use Rattle.sig_roots.proofs.MergeLaws.{Found, merged-same, merged-twice, length-merged, walk-after, walk-either, walk-none, start-get, reversed-get}
use Rattle.sig_roots.proofs.SeekLaws.{seek-root}

-- what the walk makes of a part: the search below a bar, behind these steps
abbrev pub gone : (steps : SigPath) (bar : Option ℕ) → (ℕ → Option SigPath) → Found → Found
gone steps bar f before = merged (λ own. behind steps (unless_barred bar own (f own))) before

pub gone-same : (steps : SigPath) (bar : Option ℕ) (f g : ℕ → Option SigPath) (before : Found) → ((own : ℕ) → f own ≡ g own) → gone steps bar f before ≡ gone steps bar g before
gone-same steps bar f g before h = merged-same (λ own. behind steps (unless_barred bar own (f own))) (λ own. behind steps (unless_barred bar own (g own))) before (λ own. ap (λ o. behind steps (unless_barred bar own o)) (h own))

pub gone-after : (steps : SigPath) (a : Item) (bar : Option ℕ) (f : ℕ → Option SigPath) (before : Found) → gone (steps ++ a ∷ []) bar f before ≡ gone steps bar (λ own. after a (f own)) before
gone-after steps a bar f before = merged-same (λ own. behind (steps ++ a ∷ []) (unless_barred bar own (f own))) (λ own. behind steps (unless_barred bar own (after a (f own)))) before (λ own. walk-after steps a bar own (f own))

pub gone-twice : (steps : SigPath) (bar : Option ℕ) (f g : ℕ → Option SigPath) (before : Found) → gone steps bar g (gone steps bar f before) ≡ gone steps bar (λ own. or_else (f own) (g own)) before
gone-twice steps bar f g before =
    merged-twice (λ own. behind steps (unless_barred bar own (f own))) (λ own. behind steps (unless_barred bar own (g own))) before
    ∙ merged-same (λ own. or_else (behind steps (unless_barred bar own (f own))) (behind steps (unless_barred bar own (g own)))) (λ own. behind steps (unless_barred bar own (or_else (f own) (g own)))) before (λ own. walk-either steps bar own (f own) (g own))

-- a functor

pub result-gone : (steps inner : SigPath) (bar : Option ℕ) (x : Abs) (body : Sig) (depth : ℕ) (before now : Found) → inner ≡ steps ++ Item.Res ∷ [] → body ≡ body_of x
    → now ≡ gone inner bar (λ own. seek own depth body) before → now ≡ gone steps bar (λ own. after Item.Res (seek_abs own depth x)) before
result-gone steps inner bar (Abs.Ex ks s) body depth before now ei eb h =
    h ∙ (ap₂ (λ p t. gone p bar (λ own. seek own depth t) before) ei eb ∙ gone-after steps Item.Res bar (λ own. seek own depth s) before)

-- the fields

pub fields-gone : (steps inner : SigPath) (bar : Option ℕ) (depth : ℕ) (xs : SigPairs) (i : ℕ) (x : Name × Sig) (before now whole : Found) → i < length xs → x ≡ get_or xs i x → inner ≡ steps ++ Item.Part x.0 ∷ []
    → now ≡ gone inner bar (λ own. seek own depth x.1) before
    → gone steps bar (λ own. seek_row own depth (sig_row (drop i xs))) before ≡ whole
    → gone steps bar (λ own. seek_row own depth (sig_row (drop (i + 1) xs))) now ≡ whole
fields-gone steps inner bar depth xs i x before now whole lt ex ei h w =
    let one : now ≡ gone steps bar (λ own. after (Item.Part x.0) (seek own depth x.1)) before = h ∙ (ap (λ p. gone p bar (λ own. seek own depth x.1) before) ei ∙ gone-after steps (Item.Part x.0) bar (λ own. seek own depth x.1) before) in
    let rest = λ (own : ℕ). seek_row own depth (sig_row (drop (i + 1) xs)) in
    ap (gone steps bar rest) one
    ∙ (gone-twice steps bar (λ own. after (Item.Part x.0) (seek own depth x.1)) rest before
    ∙ (ap (λ ys. gone steps bar (λ own. seek_row own depth (sig_row ys)) before) (sym first) ∙ w))
  where
    first : drop i xs ≡ x ∷ drop (i + 1) xs
    first = let e : suc i ≡ i + 1 = omega arith in drop-cons xs i x lt ∙ ap₂ ◌∷◌ (sym ex) (ap (λ n. drop n xs) e)

-- a type

-- at a type that is a barred variable the walk finds nothing
pub type-barred : (steps : SigPath) (bar : Option ℕ) (found : Option ℕ) (own : ℕ) (before now : Found) → found ≡ Some own → is_open own bar ≡ false → now ≡ before → now ≡ gone steps bar (λ other. ends found other) before
type-barred steps bar found own before now e o h =
    h ∙ (walk-none steps bar before ∙ (gone-same-none ∙ ap (λ f. gone steps bar (λ other. ends f other) before) (sym e)))
  where
    each : (other : ℕ) (t : Truth) → nat_eq own other ≡ t → unless_barred bar other None ≡ unless_barred bar other (ends (Some own) other)
    each other true q =
        let same : own ≡ other = grind (arith, nat_tests) in
        let shut : is_open other bar ≡ false = subst (λ n. is_open n bar ≡ false) same o in
        rw shut refl
    each other false q = let none : ends (Some own) other ≡ None = rw q refl in ap (unless_barred bar other) (sym none)

    gone-same-none : gone steps bar (λ other. None) before ≡ gone steps bar (λ other. ends (Some own) other) before
    gone-same-none = merged-same (λ other. behind steps (unless_barred bar other None)) (λ other. behind steps (unless_barred bar other (ends (Some own) other))) before (λ other. ap (behind steps) (each other (nat_eq own other) refl))

-- at a type that is no variable of the binders the walk finds nothing
pub type-none : (steps : SigPath) (bar : Option ℕ) (found : Option ℕ) (before now : Found) → found ≡ None → now ≡ before → now ≡ gone steps bar (λ other. ends found other) before
type-none steps bar found before now e h = h ∙ (walk-none steps bar before ∙ ap (λ f. gone steps bar (λ other. ends f other) before) (sym e))

-- signatures that the walk does not enter
pub sig-none : (steps : SigPath) (bar : Option ℕ) (depth : ℕ) (sig other : Sig) (before : Found) → sig ≡ other → ((own : ℕ) → seek own depth other ≡ None) → before ≡ gone steps bar (λ own. seek own depth sig) before
sig-none steps bar depth sig other before e h = walk-none steps bar before ∙ gone-same steps bar (λ own. None) (λ own. seek own depth sig) before (λ own. sym (ap (seek own depth) e ∙ h own))

-- the last step is taken away

pub popped : {A : Type 0} (steps before now : List A) (a : A) → before ≡ steps ++ a ∷ [] → now ≡ take (length before - 1) before → now ≡ steps
popped steps before now a e h =
    let n : length before - 1 ≡ length steps = omega (arith, ap length e ∙ length-append steps (a ∷ [])) in
    h ∙ (ap₂ take n e ∙ take-append_seam steps (a ∷ []))

pub pushed : (steps before : List CodeItem) (step : CodeItem) (a : Item) → before ≡ steps ++ step ∷ [] → item_of step ≡ a → map item_of before ≡ map item_of steps ++ a ∷ []
pushed steps before step a e i = ap (map item_of) e ∙ (map-append item_of steps (step ∷ []) ∙ ap (λ x. map item_of steps ++ x ∷ []) i)

-- the steps of the code

-- the walk goes through one more field, and what it will have found at the end stays the same
pub fields-step : (start steps entered left now : List CodeItem) (step : CodeItem) (bar : Option ℕ) (depth : ℕ) (xs : SigPairs) (i : ℕ) (x : Name × Sig) (before found whole : Found)
    → steps ≡ start → entered ≡ steps ++ step ∷ [] → item_of step ≡ Item.Part x.0 → left ≡ entered → now ≡ take (length left - 1) left
    → i < length xs → x ≡ get_or xs i x
    → found ≡ gone (map item_of entered) bar (λ own. seek own depth x.1) before
    → gone (map item_of start) bar (λ own. seek_row own depth (sig_row (drop i xs))) before ≡ whole
    → (now ≡ start) × (gone (map item_of start) bar (λ own. seek_row own depth (sig_row (drop (i + 1) xs))) found ≡ whole)
fields-step start steps entered left now step bar depth xs i x before found whole es en ei el er lt ex h w =
    let inner : entered ≡ start ++ step ∷ [] = en ∙ ap (λ p. p ++ step ∷ []) es in
    (popped start left now step (el ∙ inner) er, fields-gone (map item_of start) (map item_of entered) bar depth xs i x before found whole lt ex (pushed start entered step (Item.Part x.0) inner ei) h w)

-- when all fields are walked through, the walk has found what there is in the structure
pub fields-end : (steps : SigPath) (bar : Option ℕ) (depth : ℕ) (xs fields : SigPairs) (i : ℕ) (before found : Found) → length xs ≤ i → xs ≡ fields
    → gone steps bar (λ own. seek_row own depth (sig_row (drop i xs))) found ≡ gone steps bar (λ own. seek_row own depth (sig_row xs)) before
    → found ≡ gone steps bar (λ own. seek_row own depth (sig_row fields)) before
fields-end steps bar depth xs fields i before found le e h =
    walk-none steps bar found ∙ (sym (at_drop_all (λ ys. gone steps bar (λ own. seek_row own depth (sig_row ys)) found) xs i le) ∙ (h ∙ ap (λ ys. gone steps bar (λ own. seek_row own depth (sig_row ys)) before) e))

-- the walk through a functor's result finds what there is behind it
pub result-step : (start entered left now : List CodeItem) (step : CodeItem) (bar : Option ℕ) (depth : ℕ) (x : Abs) (body : Sig) (before found : Found)
    → entered ≡ start ++ step ∷ [] → item_of step ≡ Item.Res → left ≡ entered → now ≡ take (length left - 1) left → body ≡ body_of x
    → found ≡ gone (map item_of entered) bar (λ own. seek own depth body) before
    → (now ≡ start) × (found ≡ gone (map item_of start) bar (λ own. after Item.Res (seek_abs own depth x)) before)
result-step start entered left now step bar depth x body before found en ei el er eb h =
    (popped start left now step (el ∙ en) er, result-gone (map item_of start) (map item_of entered) bar x body depth before found (pushed start entered step Item.Res en ei) eb h)

-- the end

behind-start : (o : Option SigPath) → behind [] o ≡ o
behind-start None = refl
behind-start (Some p) = refl

-- as many paths are kept as there are hidden types
pub found-length : (f : ℕ → Option SigPath) (ks : List Kind) (found : Found) → found ≡ merged f (map (λ k. None) ks) → length found ≡ length ks
found-length f ks found e = ap length e ∙ (length-merged f (map (λ k. None) ks) ∙ length-map ks (λ k. None))

-- what the walk has found of a signature that hides types are the least root paths of these
pub roots-found : (x : Abs) (body : Sig) (found : Found) → body ≡ body_of x → found ≡ gone [] None (λ own. seek own 0 body) (map (λ k. None) (kinds_of x))
    → (ctx : List Kind) → WellFormedAbs ctx x → NormalAbs ctx x → AreRoots ctx x (reverse found)
roots-found (Abs.Ex ks s) body found eb e ctx (WellFormedAbs.abs h) n = each
  where
    each : (number : ℕ) (o : Option SigPath) → slice_get (reverse found) number ≡ Some o → IsRoot ctx ks s number o
    each number o g =
        let l = found-length (λ own. behind [] (unless_barred None own (seek own 0 body))) ks found e in
        let q = reversed-get found number o g in
        let lt : number < length ks = omega (arith, q.0, l) in
        let place : length found - suc number ≡ own_of ks number = ap (λ n. n - suc number) l in
        let at : slice_get (merged (λ own. behind [] (unless_barred None own (seek own 0 body))) (map (λ k. None) ks)) (own_of ks number) ≡ Some o = ap₂ slice_get (sym e) (sym place) ∙ q.1 in
        let p = start-get (λ own. behind [] (unless_barred None own (seek own 0 body))) ks (own_of ks number) o at in
        let is : seek (own_of ks number) 0 s ≡ o = ap (seek (own_of ks number) 0) (sym eb) ∙ (sym (behind-start (seek (own_of ks number) 0 body)) ∙ p.1) in
        subst (IsRoot ctx ks s number) is (seek-root ctx ks s number h n lt)

-- what the walk has found is, of each hidden type, what is sought in the body
pub roots-value : (x : Abs) (body : Sig) (found : Found) → body ≡ body_of x → found ≡ gone [] None (λ own. seek own 0 body) (map (λ k. None) (kinds_of x)) → found ≡ merged (λ own. seek own 0 (body_of x)) (map (λ k. None) (kinds_of x))
roots-value x body found eb e =
    e ∙ (merged-same (λ own. behind [] (unless_barred None own (seek own 0 body))) (λ own. seek own 0 body) (map (λ k. None) (kinds_of x)) (λ own. behind-start (seek own 0 body)) ∙ ap (λ s. merged (λ own. seek own 0 s) (map (λ k. None) (kinds_of x))) eb)
