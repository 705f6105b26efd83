-- The steps of the code's loops and calls.
-- Main results: abs-ordered, impure-normed, pure-normed.
use Rattle.std.specs.Prelude.{ℕ, zero, suc, ◌+◌, ◌-◌, ◌<◌, ◌≤◌, ◌≡◌, ◌↔◌, List, [], ◌∷◌, ◌++◌, length, map, drop, set, slice_get, Option, Some, None, Bool, true, false, ◌||◌, IsTrue}
use Rattle.std.proofs.Common.{get_or, arith}
use Rattle.std.proofs.Math.Path.{refl, sym, ap, ap₂, ◌∙◌, subst}
use Rattle.std.proofs.Math.Seq.{drop-cons}
use Rattle.omega_kinds.specs.Kind.{Kind}
use Rattle.omega_kinds.specs.Name.{Name}
use Rattle.omega_kinds.specs.View.{kind_tree}
use Rattle.omega_kinds.specs.declared.kind.Kind.{Kind as SharedKind}
use Rattle.omega_kinds.specs.declared.effect.Effect.{Effect}
use Rattle.omega_kinds.specs.declared.effect.Effect.TheVariants.{Pure, Impure}
use Rattle.omega_types.specs.Binders.{own}
use Rattle.omega_types.specs.Normaliser.{kind_at}
use Rattle.sig_definitions.specs.Signatures.Sig.{Sig, Abs, SigRow}
use Rattle.sig_definitions.specs.Signatures.SigSubst.{rename_sig, rename_abs}
use Rattle.sig_definitions.specs.Signatures.SigMentions.{MentionsSig}
use Rattle.sig_laws.specs.Decide.{decided, dec_mentions_sig}
use Rattle.semantic_sigs.specs.Inner.Bound.{bound_sig}
use Rattle.semantic_sigs.specs.Inner.Fields.{SigPairs, sig_row}
use Rattle.semantic_sigs.specs.Inner.View.{kinds_of, body_of}
use Rattle.semantic_sigs.proofs.MentionSteps.{sig_mention-below}
use Rattle.semantic_sigs.proofs.SigSteps.{map_sigs, name_follows-at}
use Rattle.semantic_sigs.proofs.PartSteps.{row-at}
use Rattle.packages.specs.Inner.First.{Places, is_untaken, blocks, barred, if_untaken, first, first_row, or_first}
use Rattle.packages.specs.Inner.Normed.{in_order, functor_in_order, normed_sig, normed_abs, normed_row}
use Rattle.type_normal.specs.Inner.Moved.{moved}
use Rattle.packages.specs.Inner.Turns.{turns, turn, untaken}
use Rattle.packages.proofs.TurnLaws.{untaken-within}

next-index : (i : ℕ) → i + 1 ≡ suc i
next-index i = omega arith

-- the fields of a structure, brought to norm one by one, are the row in norm
pub row-normed : (xs : SigPairs) → sig_row (map_sigs normed_sig xs) ≡ normed_row (sig_row xs)
row-normed [] = refl
row-normed (x ∷ xs) = ap (SigRow.More x.0 (normed_sig x.1)) (row-normed xs)

-- parameters that mention a variable

blocks-beyond : (o : Option ℕ) (i : ℕ) (s : Sig) → bound_sig s ≤ i → blocks o i s ≡ false
blocks-beyond (Some j) i s le = refl
blocks-beyond None i s le = go (dec_mentions_sig i s)
  where
    go : (d : Dec (MentionsSig i s)) → decided d ≡ false
    go (yes m) = absurd (let h = sig_mention-below i s m in omega (arith, h, le))
    go (no h) = refl

barred-beyond : (ps : Places) (i : ℕ) (s : Sig) → bound_sig s ≤ i → barred ps i s ≡ false
barred-beyond [] i s le = refl
barred-beyond (o ∷ ps) i s le = ap₂ ◌||◌ (blocks-beyond o i s le) (barred-beyond ps (suc i) s (omega arith))

barred-at : (ps : Places) (i n : ℕ) (s : Sig) (place : Option ℕ) → i < length ps → place ≡ get_or ps i place → barred (drop i ps) n s ≡ (blocks place n s || barred (drop (i + 1) ps) (suc n) s)
barred-at ps i n s place lt ep =
    ap (λ l. barred l n s) (drop-cons ps i place lt ∙ ap (λ m. get_or ps i place ∷ drop m ps) (sym (next-index i)))
    ∙ ap (λ o. blocks o n s || barred (drop (i + 1) ps) (suc n) s) (sym ep)

-- a signature whose variables are all below an index mentions no variable that is not taken from there on
pub barred-none : (ps : Places) (i n bound : ℕ) (s : Sig) (whole : Bool) → bound ≡ bound_sig s → bound ≤ n → barred (drop i ps) n s ≡ whole → false ≡ whole
barred-none ps i n bound s whole eb le e = sym (barred-beyond (drop i ps) n s (omega (arith, eb, le))) ∙ e

pub barred-here : (ps : Places) (i n : ℕ) (s : Sig) (place : Option ℕ) (found whole : Bool) → i < length ps → place ≡ get_or ps i place → found ≡ blocks place n s → found ≡ true → barred (drop i ps) n s ≡ whole → true ≡ whole
barred-here ps i n s place found whole lt ep ef et e =
    sym (barred-at ps i n s place lt ep ∙ ap (λ b. b || barred (drop (i + 1) ps) (suc n) s) (sym ef ∙ et)) ∙ e

pub barred-later : (ps : Places) (i n : ℕ) (s : Sig) (place : Option ℕ) (found whole : Bool) → i < length ps → place ≡ get_or ps i place → found ≡ blocks place n s → found ≡ false → barred (drop i ps) n s ≡ whole → barred (drop (i + 1) ps) (n + 1) s ≡ whole
barred-later ps i n s place found whole lt ep ef et e =
    ap (λ m. barred (drop (i + 1) ps) m s) (next-index n)
    ∙ (sym (barred-at ps i n s place lt ep ∙ ap (λ b. b || barred (drop (i + 1) ps) (suc n) s) (sym ef ∙ et)) ∙ e)

pub barred-end : (ps : Places) (i n : ℕ) (s : Sig) (whole : Bool) → length ps ≤ i → barred (drop i ps) n s ≡ whole → false ≡ whole
barred-end ps i n s whole le e = sym (ap (λ l. barred l n s) (all ps i le)) ∙ e
  where
    all : (ps : Places) (i : ℕ) → length ps ≤ i → drop i ps ≡ []
    all [] zero le = refl
    all [] (suc i) le = refl
    all (x ∷ ps) zero le = absurd (omega (arith, le))
    all (x ∷ ps) (suc i) le = all ps i (omega arith)

decided-is : (r : Bool) (i : ℕ) (s : Sig) → IsTrue r ↔ MentionsSig i s → r ≡ decided (dec_mentions_sig i s)
decided-is r i s h = go r (dec_mentions_sig i s) h
  where
    go : (r : Bool) (d : Dec (MentionsSig i s)) → IsTrue r ↔ MentionsSig i s → r ≡ decided d
    go true (yes m) h = refl
    go true (no g) h = absurd (g (h.0 refl))
    go false (yes m) h = absurd (let t = h.1 m in cc)
    go false (no g) h = refl

pub blocks-is : (o : Option ℕ) (r : Bool) (i : ℕ) (s : Sig) → o ≡ None → IsTrue r ↔ MentionsSig i s → r ≡ blocks o i s
blocks-is o r i s e h = decided-is r i s h ∙ sym (ap (λ p. blocks p i s) e)

pub blocks-not : (o : Option ℕ) (j i : ℕ) (s : Sig) → o ≡ Some j → false ≡ blocks o i s
blocks-not o j i s e = sym (ap (λ p. blocks p i s) e)

-- the fields of a structure

-- what is found first in the fields from a place on is in the one there, or else in those after it
pub first-at : (ps : Places) (depth : ℕ) (xs : SigPairs) (i : ℕ) (x : Name × Sig) → i < length xs → x ≡ get_or xs i x → first_row ps depth (sig_row (drop i xs)) ≡ or_first (first ps depth x.1) (first_row ps depth (sig_row (drop (i + 1) xs)))
first-at ps depth xs i x lt e = ap (first_row ps depth) (row-at xs i x lt) ∙ ap (λ y. or_first (first ps depth y.1) (first_row ps depth (sig_row (drop (i + 1) xs)))) (sym e)

pub first-here : (ps : Places) (depth : ℕ) (xs : SigPairs) (i : ℕ) (x : Name × Sig) (index : ℕ) (found whole : Option ℕ) → i < length xs → x ≡ get_or xs i x → found ≡ first ps depth x.1 → found ≡ Some index → first_row ps depth (sig_row (drop i xs)) ≡ whole → Some index ≡ whole
first-here ps depth xs i x index found whole lt ex ef es e =
    sym (first-at ps depth xs i x lt ex ∙ ap (λ o. or_first o (first_row ps depth (sig_row (drop (i + 1) xs)))) (sym ef ∙ es)) ∙ e

pub first-later : (ps : Places) (depth : ℕ) (xs : SigPairs) (i : ℕ) (x : Name × Sig) (found whole : Option ℕ) → i < length xs → x ≡ get_or xs i x → found ≡ first ps depth x.1 → found ≡ None → first_row ps depth (sig_row (drop i xs)) ≡ whole → first_row ps depth (sig_row (drop (i + 1) xs)) ≡ whole
first-later ps depth xs i x found whole lt ex ef es e =
    sym (first-at ps depth xs i x lt ex ∙ ap (λ o. or_first o (first_row ps depth (sig_row (drop (i + 1) xs)))) (sym ef ∙ es)) ∙ e

pub first-end : (ps : Places) (depth : ℕ) (xs : SigPairs) (i : ℕ) (whole : Option ℕ) → length xs ≤ i → first_row ps depth (sig_row (drop i xs)) ≡ whole → None ≡ whole
first-end ps depth xs i whole le e = sym (ap (λ l. first_row ps depth (sig_row l)) (all xs i le)) ∙ e
  where
    all : (xs : SigPairs) (i : ℕ) → length xs ≤ i → drop i xs ≡ []
    all [] zero le = refl
    all [] (suc i) le = refl
    all (x ∷ xs) zero le = absurd (omega (arith, le))
    all (x ∷ xs) (suc i) le = all xs i (omega arith)

-- what is found is not taken yet

-- a variable that is found untaken is untaken
pub untaken-is : (ps : Places) (o : Option ℕ) (i : ℕ) → if_untaken ps o ≡ Some i → is_untaken ps i ≡ true
untaken-is ps None i e = absurd (cc)
untaken-is ps (Some j) i e = go (is_untaken ps j) refl
  where
    go : (b : Bool) → is_untaken ps j ≡ b → is_untaken ps i ≡ true
    go true f = let g : if_untaken ps (Some j) ≡ Some j = rw f refl in let h : Some j ≡ Some i = sym g ∙ e in subst (λ n. is_untaken ps n ≡ true) (cc) f
    go false f = absurd (let g : if_untaken ps (Some j) ≡ None = rw f refl in cc)

mutual
  first-untaken : (ps : Places) (depth : ℕ) (s : Sig) (i : ℕ) → first ps depth s ≡ Some i → is_untaken ps i ≡ true
  first-untaken ps depth (Sig.Val t) i e = absurd (cc)
  first-untaken ps depth (Sig.Meta x) i e = absurd (cc)
  first-untaken ps depth (Sig.Typ t k) i e = untaken-is ps _ i e
  first-untaken ps depth (Sig.Str fs) i e = row-untaken ps depth fs i e
  first-untaken ps depth (Sig.Fun Impure ks s x) i e = absurd (cc)
  first-untaken ps depth (Sig.Fun Pure ks s (Abs.Ex js r)) i e = go (barred ps (length ks + depth) s) refl (first-untaken ps (length ks + depth) r i)
    where
      go : (b : Bool) → barred ps (length ks + depth) s ≡ b → (first ps (length ks + depth) r ≡ Some i → is_untaken ps i ≡ true) → is_untaken ps i ≡ true
      go true f h = absurd (let g : first ps depth (Sig.Fun Pure ks s (Abs.Ex js r)) ≡ None = rw f refl in cc)
      go false f h = let g : first ps depth (Sig.Fun Pure ks s (Abs.Ex js r)) ≡ first ps (length ks + depth) r = rw f refl in h (sym g ∙ e)

  row-untaken : (ps : Places) (depth : ℕ) (fs : SigRow) (i : ℕ) → first_row ps depth fs ≡ Some i → is_untaken ps i ≡ true
  row-untaken ps depth SigRow.End i e = absurd (cc)
  row-untaken ps depth (SigRow.More l s rest) i e = go (first ps depth s) refl (first-untaken ps depth s i) (row-untaken ps depth rest i)
    where
      go : (o : Option ℕ) → first ps depth s ≡ o → (first ps depth s ≡ Some i → is_untaken ps i ≡ true) → (first_row ps depth rest ≡ Some i → is_untaken ps i ≡ true) → is_untaken ps i ≡ true
      go None f h g = g (sym (ap (λ o. or_first o (first_row ps depth rest)) f) ∙ e)
      go (Some j) f h g = h (f ∙ (sym (ap (λ o. or_first o (first_row ps depth rest)) f) ∙ e))

pub found-within : (ps qs : Places) (s : Sig) (i n : ℕ) (found : Option ℕ) → length ps ≡ n → qs ≡ ps → found ≡ first qs zero s → found ≡ Some i → i < n
found-within ps qs s i n found e eq ef es = let h = untaken-within qs i (first-untaken qs zero s i (sym ef ∙ es)) in let l = ap length eq in omega (arith, h, e, l)

-- a turn

kind-get : (items : List SharedKind) (n : ℕ) (d : SharedKind) → n < length items → kind_at (map kind_tree items) n ≡ kind_tree (get_or items n d)
kind-get [] n d lt = absurd (omega (arith, lt))
kind-get (k ∷ items) zero d lt = refl
kind-get (k ∷ items) (suc n) d lt = kind-get items n d (omega (arith, lt))

-- the kind of a variable that is taken is pushed at the end of the new kinds
pub push-taken : (ks old new : List Kind) (items : List SharedKind) (index : ℕ) (kind shared : SharedKind) → map kind_tree items ≡ ks → index < length ks → kind ≡ get_or items (length items - 1 - index) kind → kind_tree shared ≡ kind_tree kind → new ≡ old ++ (kind_tree shared ∷ []) → new ≡ old ++ (kind_at ks (own ks index) ∷ [])
push-taken ks old new items index kind shared ei lt ek es en = en ∙ ap (λ k. old ++ (k ∷ [])) taken
  where
    count : (items : List SharedKind) → length (map kind_tree items) ≡ length items
    count [] = refl
    count (k ∷ items) = ap suc (count items)

    same : length items ≡ length ks
    same = sym (count items) ∙ ap length ei

    place : length items - 1 - index ≡ own ks index
    place = let e = same in omega (arith, e, lt)

    taken : kind_tree shared ≡ kind_at ks (own ks index)
    taken = es ∙ (ap kind_tree ek ∙ (sym (kind-get items (length items - 1 - index) kind (let e = same in omega (arith, e, lt))) ∙ ap₂ kind_at ei place))

-- what comes after a variable is found
abbrev pub next : List Kind → Sig → ℕ → List Kind → Places → ℕ → List Kind × Places
next ks s left taken ps i = turns ks s left (taken ++ kind_at ks (own ks i) ∷ []) (set ps i (Some left))

less : (n : ℕ) → suc n - 1 ≡ n
less n = omega arith

pub turn-next : (ks taken grown : List Kind) (s : Sig) (ps qs more : Places) (left index : ℕ) (found : Option ℕ) (whole : List Kind × Places) → 0 < left → turns ks s left taken ps ≡ whole → qs ≡ ps → found ≡ first qs zero s → found ≡ Some index
    → grown ≡ taken ++ (kind_at ks (own ks index) ∷ []) → more ≡ set ps index (Some (left - 1)) → turns ks s (left - 1) grown more ≡ whole
turn-next ks taken grown s ps qs more zero index found whole lt e eq ef es eg em = absurd (omega (arith, lt))
turn-next ks taken grown s ps qs more (suc left) index found whole lt e eq ef es eg em =
    ap (λ l. turns ks s l grown more) (less left)
    ∙ (ap₂ (turns ks s left) eg (em ∙ ap (λ l. set ps index (Some l)) (less left))
    ∙ (sym (ap (turn taken ps (next ks s left taken ps)) (ap (λ p. first p zero s) (sym eq) ∙ (sym ef ∙ es))) ∙ e))

pub turn-none : (ks taken : List Kind) (s : Sig) (ps qs : Places) (left : ℕ) (found : Option ℕ) (whole : List Kind × Places) → 0 < left → turns ks s left taken ps ≡ whole → qs ≡ ps → found ≡ first qs zero s → found ≡ None → (taken, ps) ≡ whole
turn-none ks taken s ps qs zero found whole lt e eq ef es = absurd (omega (arith, lt))
turn-none ks taken s ps qs (suc left) found whole lt e eq ef es = sym (ap (turn taken ps (next ks s left taken ps)) (ap (λ p. first p zero s) (sym eq) ∙ (sym ef ∙ es))) ∙ e

pub turn-end : (ks taken : List Kind) (s : Sig) (ps : Places) (left : ℕ) (whole : List Kind × Places) → left ≤ zero → turns ks s left taken ps ≡ whole → (taken, ps) ≡ whole
turn-end ks taken s ps zero whole z e = e
turn-end ks taken s ps (suc left) whole z e = absurd (omega (arith, z))

-- what is in order

-- a signature that hides types, its variables brought in order by turns, is its norm
pub abs-ordered : (x y : Abs) (s t u : Sig) (ks js : List Kind) (ps qs : Places) → s ≡ body_of x → ks ≡ kinds_of x → t ≡ normed_sig s → (js, ps) ≡ turns ks t (length ks) [] (untaken ks) → qs ≡ ps → u ≡ rename_sig (moved qs) t → y ≡ Abs.Ex js u → y ≡ normed_abs x
abs-ordered (Abs.Ex is r) y s t u ks js ps qs es ek et eo eq eu ey =
    ey ∙ (ap₂ Abs.Ex (ap (λ o. o.0) eo) (eu ∙ (ap (λ p. rename_sig (moved p) t) eq ∙ ap (λ o. rename_sig (moved o.1) t) eo)) ∙ ap₂ in_order ek (et ∙ ap normed_sig es))

-- an impure functor, its variables brought in order by turns, is the functor in order
pub functor-ordered : (ks js : List Kind) (t u f : Sig) (y z : Abs) (ps qs : Places) → (js, ps) ≡ turns ks t (length ks) [] (untaken ks) → qs ≡ ps → u ≡ rename_sig (moved qs) t → z ≡ rename_abs (moved qs) y → f ≡ Sig.Fun Impure js u z → f ≡ functor_in_order ks t y
functor-ordered ks js t u f y z ps qs eo eq eu ez ef =
    ef ∙ made (ap (λ o. o.0) eo) (eu ∙ (ap (λ p. rename_sig (moved p) t) eq ∙ ap (λ o. rename_sig (moved o.1) t) eo)) (ez ∙ (ap (λ p. rename_abs (moved p) y) eq ∙ ap (λ o. rename_abs (moved o.1) y) eo))
  where
    made : {js is : List Kind} {u v : Sig} {z w : Abs} → js ≡ is → u ≡ v → z ≡ w → Path Sig (Sig.Fun Impure js u z) (Sig.Fun Impure is v w)
    made p q r i = Sig.Fun Impure (p i) (q i) (r i)

-- an impure functor's norm is that of its parameter and its result, brought in order
pub impure-normed : (e : Effect) (ks : List Kind) (s t sig f : Sig) (x y : Abs) → sig ≡ Sig.Fun e ks s x → e ≡ Impure → t ≡ normed_sig s → y ≡ normed_abs x → f ≡ functor_in_order ks t y → f ≡ normed_sig sig
impure-normed e ks s t sig f x y es ee et ey ef =
    ef ∙ (ap₂ (functor_in_order ks) et ey ∙ sym (ap normed_sig (es ∙ ap (λ o. Sig.Fun o ks s x) ee)))

-- a pure functor's norm is that of its parameter and its result, its variables in their order
pub pure-normed : (e : Effect) (ks : List Kind) (s t r u sig f : Sig) (x : Abs) → sig ≡ Sig.Fun e ks s x → e ≡ Pure → t ≡ normed_sig s → r ≡ body_of x → u ≡ normed_sig r → f ≡ Sig.Fun Pure ks t (Abs.Ex (kinds_of x) u) → f ≡ normed_sig sig
pure-normed e ks s t r u sig f (Abs.Ex js b) es ee et er eu ef =
    ef ∙ (ap₂ (λ t u. Sig.Fun Pure ks t (Abs.Ex js u)) et (eu ∙ ap normed_sig er) ∙ sym (ap normed_sig (es ∙ ap (λ o. Sig.Fun o ks s (Abs.Ex js b)) ee)))

-- places that are read

untaken-get : (ps : Places) (i : ℕ) → slice_get ps i ≡ Some None → is_untaken ps i ≡ true
untaken-get [] i e = absurd (cc)
untaken-get (None ∷ ps) zero e = refl
untaken-get (Some j ∷ ps) zero e = absurd (cc)
untaken-get (None ∷ ps) (suc i) e = untaken-get ps i e
untaken-get (Some j ∷ ps) (suc i) e = untaken-get ps i e

taken-get : (ps : Places) (i : ℕ) → (slice_get ps i ≡ Some None → ⊥) → is_untaken ps i ≡ false
taken-get [] i h = refl
taken-get (None ∷ ps) zero h = absurd (h refl)
taken-get (Some j ∷ ps) zero h = refl
taken-get (None ∷ ps) (suc i) h = taken-get ps i h
taken-get (Some j ∷ ps) (suc i) h = taken-get ps i h

-- a type that is a variable not yet taken is found
pub type-found : (ps : Places) (found : Option ℕ) (i : ℕ) → found ≡ Some i → slice_get ps i ≡ Some None → Some i ≡ if_untaken ps found
type-found ps found i e u = let t = untaken-get ps i u in sym (ap (if_untaken ps) e ∙ (let g : if_untaken ps (Some i) ≡ Some i = rw t refl in g))

-- a type that is a variable taken already is not found
pub type-taken : (ps : Places) (found : Option ℕ) (i : ℕ) → found ≡ Some i → (slice_get ps i ≡ Some None → ⊥) → None ≡ if_untaken ps found
type-taken ps found i e h = let t = taken-get ps i h in sym (ap (if_untaken ps) e ∙ (let g : if_untaken ps (Some i) ≡ None = rw t refl in g))

-- the functors on the way

-- nothing is found through a pure functor whose parameter mentions a variable that is not taken
pub first-barred : (ps : Places) (depth inner : ℕ) (e : Effect) (ks : List Kind) (s sig : Sig) (x : Abs) → sig ≡ Sig.Fun e ks s x → e ≡ Pure → inner ≡ length ks + depth → barred ps inner s ≡ true → None ≡ first ps depth sig
first-barred ps depth inner e ks s sig x es ee ei b =
    let t : barred ps (length ks + depth) s ≡ true = subst (λ n. barred ps n s ≡ true) ei b in
    let g : first ps depth (Sig.Fun Pure ks s x) ≡ None = rw t refl in
    sym (ap (first ps depth) (es ∙ ap (λ o. Sig.Fun o ks s x) ee) ∙ g)

-- through another pure functor is found what is found in its result
pub first-through : (ps : Places) (depth inner : ℕ) (e : Effect) (ks : List Kind) (s body sig : Sig) (x : Abs) → sig ≡ Sig.Fun e ks s x → e ≡ Pure → inner ≡ length ks + depth → barred ps inner s ≡ false → body ≡ body_of x → first ps inner body ≡ first ps depth sig
first-through ps depth inner e ks s body sig (Abs.Ex js r) es ee ei b eb =
    let t : barred ps (length ks + depth) s ≡ false = subst (λ n. barred ps n s ≡ false) ei b in
    let g : first ps depth (Sig.Fun Pure ks s (Abs.Ex js r)) ≡ first ps (length ks + depth) r = rw t refl in
    ap₂ (first ps) ei eb ∙ sym (ap (first ps depth) (es ∙ ap (λ o. Sig.Fun o ks s (Abs.Ex js r)) ee) ∙ g)

-- nothing is found through an impure functor
pub first-impure : (ps : Places) (depth : ℕ) (e : Effect) (ks : List Kind) (s sig : Sig) (x : Abs) → sig ≡ Sig.Fun e ks s x → e ≡ Impure → None ≡ first ps depth sig
first-impure ps depth e ks s sig x es ee = sym (ap (first ps depth) (es ∙ ap (λ o. Sig.Fun o ks s x) ee))

pub ruleset norm_steps = (row-normed, name_follows-at)

pub ruleset barred_steps = (barred-none, barred-here, barred-later, barred-end)

pub ruleset block_steps = (blocks-is, blocks-not)

pub ruleset field_steps = (first-here, first-later, first-end)

pub ruleset turn_steps = (turn-next, turn-none, turn-end, found-within)
