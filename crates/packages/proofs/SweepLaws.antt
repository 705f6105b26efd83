-- A walk takes what turns would take one after the other.
-- Main results: sweeps-str, sweeps-pure, swept-all.
use Rattle.std.specs.Prelude.{ℕ, zero, suc, ◌+◌, ◌-◌, ◌<◌, ◌≤◌, ◌≡◌, ◌++◌, List, [], ◌∷◌, length, drop, set, Option, Some, None, Bool, true, false, ◌||◌, if◌then◌else◌}
use Rattle.std.proofs.Common.{get_or, arith, Result, Ok, Err, OnOk}
use Rattle.std.proofs.Math.Path.{refl, sym, ap, ap₂, ◌∙◌, subst}
use Rattle.omega_kinds.specs.Kind.{Kind}
use Rattle.omega_kinds.specs.Name.{Name}
use Rattle.omega_kinds.specs.declared.effect.Effect.{Effect}
use Rattle.omega_kinds.specs.declared.effect.Effect.TheVariants.{Pure, Impure}
use Rattle.omega_types.specs.Binders.{own}
use Rattle.omega_types.specs.Normaliser.{kind_at}
use Rattle.omega_types.specs.Ty.{Ty}
use Rattle.sig_definitions.specs.Signatures.Sig.{Sig, Abs, SigRow}
use Rattle.semantic_sigs.specs.Inner.Fields.{SigPairs, sig_row}
use Rattle.semantic_sigs.specs.Inner.View.{body_of}
use Rattle.sig_roots.specs.Inner.Rooted.{rooted}
use Rattle.packages.specs.Inner.First.{Places, is_untaken, blocks, barred, if_untaken, first_type, first, first_abs, first_row, or_first}
use Rattle.packages.specs.Inner.Swept.{Sweeps, turns_from}
use Rattle.packages.specs.Inner.Turns.{turn, turns, turns_by, untaken}
use Rattle.packages.specs.declared.ordering.Order.{Order}
use Rattle.packages.specs.declared.sweeping.Sweep.{Sweep}
use Rattle.packages.proofs.Steps.{first-at, untaken-is}
use Rattle.packages.proofs.TurnLaws.{untaken-within}

-- what is found here, and else elsewhere
abbrev pub both : (Places → Option ℕ) → (Places → Option ℕ) → Places → Option ℕ
both find elsewhere ps = or_first (find ps) (elsewhere ps)

-- turns by finders that agree wherever turns come

turn-same : (taken : List Kind) (ps : Places) (a b : ℕ → List Kind × Places) → ((i : ℕ) → a i ≡ b i) → (o : Option ℕ) → turn taken ps a o ≡ turn taken ps b o
turn-same taken ps a b h None = refl
turn-same taken ps a b h (Some i) = h i

turns-same : (Q : Places → Type 0) (ks : List Kind) (f g : Places → Option ℕ)
    → ((ps : Places) (i n : ℕ) → Q ps → Q (set ps i (Some n)))
    → ((ps : Places) → Q ps → f ps ≡ g ps)
    → (left : ℕ) (taken : List Kind) (ps : Places) → Q ps → turns_by ks f left taken ps ≡ turns_by ks g left taken ps
turns-same Q ks f g kept same zero taken ps q = refl
turns-same Q ks f g kept same (suc left) taken ps q =
    turn-same taken ps (λ i. turns_by ks f left (taken ++ kind_at ks (own ks i) ∷ []) (set ps i (Some left))) (λ i. turns_by ks g left (taken ++ kind_at ks (own ks i) ∷ []) (set ps i (Some left)))
    (λ i. turns-same Q ks f g kept same left (taken ++ kind_at ks (own ks i) ∷ []) (set ps i (Some left)) (kept ps i left q)) (f ps)
    ∙ ap (turn taken ps (λ i. turns_by ks g left (taken ++ kind_at ks (own ks i) ∷ []) (set ps i (Some left)))) (same ps q)

turns-everywhere : (ks : List Kind) (f g : Places → Option ℕ) → ((ps : Places) → f ps ≡ g ps) → (left : ℕ) (taken : List Kind) (ps : Places) → turns_by ks f left taken ps ≡ turns_by ks g left taken ps
turns-everywhere ks f g same left taken ps = turns-same (λ ps. Unit {0}) ks f g (λ ps i n q. tt) (λ ps q. same ps) left taken ps tt

-- what is taken stays so

taken-stays : (ps : Places) (j n i : ℕ) → is_untaken ps i ≡ false → is_untaken (set ps j (Some n)) i ≡ false
taken-stays [] j n i e = e
taken-stays (o ∷ ps) zero n zero e = refl
taken-stays (None ∷ ps) zero n (suc i) e = e
taken-stays (Some m ∷ ps) zero n (suc i) e = e
taken-stays (None ∷ ps) (suc j) n zero e = e
taken-stays (Some m ∷ ps) (suc j) n zero e = refl
taken-stays (None ∷ ps) (suc j) n (suc i) e = taken-stays ps j n i e
taken-stays (Some m ∷ ps) (suc j) n (suc i) e = taken-stays ps j n i e

taken-now : (ps : Places) (i n : ℕ) → is_untaken (set ps i (Some n)) i ≡ false
taken-now [] i n = refl
taken-now (o ∷ ps) zero n = refl
taken-now (None ∷ ps) (suc i) n = taken-now ps i n
taken-now (Some m ∷ ps) (suc i) n = taken-now ps i n

neither : (a b : Bool) → (a || b) ≡ false → (a ≡ false) × (b ≡ false)
neither true b e = absurd cc
neither false b e = (refl, e)

way-stays : (ps : Places) (j n index : ℕ) (s : Sig) → barred ps index s ≡ false → barred (set ps j (Some n)) index s ≡ false
way-stays [] j n index s e = e
way-stays (o ∷ ps) zero n index s e = (neither (blocks o index s) (barred ps (suc index) s) e).1
way-stays (o ∷ ps) (suc j) n index s e =
    let p = neither (blocks o index s) (barred ps (suc index) s) e in
    ap (λ b. b || barred (set ps j (Some n)) (suc index) s) p.0 ∙ way-stays ps j n (suc index) s p.1

-- a type

none-untaken : (b : Bool) (i : ℕ) → (if b then Some i else None) ≡ None → b ≡ false
none-untaken true i e = absurd cc
none-untaken false i e = refl

passed : (ks : List Kind) (o : Option ℕ) (elsewhere : Places → Option ℕ) (left : ℕ) (taken : List Kind) (ps : Places) → if_untaken ps o ≡ None
    → turns_by ks (both (λ ps. if_untaken ps o) elsewhere) left taken ps ≡ turns_by ks elsewhere left taken ps
passed ks None elsewhere left taken ps e = turns-everywhere ks (both (λ ps. if_untaken ps None) elsewhere) elsewhere (λ ps. refl) left taken ps
passed ks (Some i) elsewhere left taken ps e =
    turns-same (λ ps. is_untaken ps i ≡ false) ks (both (λ ps. if_untaken ps (Some i)) elsewhere) elsewhere (λ ps j n q. taken-stays ps j n i q)
    (λ ps q. ap (λ b. or_first (if b then Some i else None) (elsewhere ps)) q) left taken ps (none-untaken (is_untaken ps i) i e)

some-untaken : (ps : Places) (o : Option ℕ) (i : ℕ) → if_untaken ps o ≡ Some i → o ≡ Some i
some-untaken ps None i e = absurd cc
some-untaken ps (Some j) i e = go (is_untaken ps j) e
  where
    go : (b : Bool) → (if b then Some j else None) ≡ Some i → Some j ≡ Some i
    go true e = e
    go false e = absurd cc

took : (ks : List Kind) (o : Option ℕ) (elsewhere : Places → Option ℕ) (left : ℕ) (taken : List Kind) (ps : Places) (i : ℕ) → if_untaken ps o ≡ Some i
    → turns_by ks (both (λ ps. if_untaken ps o) elsewhere) (suc left) taken ps ≡ turns_by ks elsewhere left (taken ++ kind_at ks (own ks i) ∷ []) (set ps i (Some left))
took ks o elsewhere left taken ps i e =
    ap (λ f. turn taken ps (λ j. turns_by ks (both (λ ps. if_untaken ps o) elsewhere) left (taken ++ kind_at ks (own ks j) ∷ []) (set ps j (Some left))) (or_first f (elsewhere ps))) e
    ∙ passed ks o elsewhere left (taken ++ kind_at ks (own ks i) ∷ []) (set ps i (Some left)) none
  where
    none : if_untaken (set ps i (Some left)) o ≡ None
    none = ap (if_untaken (set ps i (Some left))) (some-untaken ps o i e) ∙ ap (λ b. if b then Some i else None) (taken-now ps i left)

-- the functors on the way

pub way-open : (ks js : List Kind) (depth : ℕ) (p : Sig) (x : Abs) (elsewhere : Places → Option ℕ) (left : ℕ) (taken : List Kind) (ps : Places) → barred ps (length js + depth) p ≡ false
    → turns_by ks (both (λ ps. first ps depth (Sig.Fun Pure js p x)) elsewhere) left taken ps ≡ turns_by ks (both (λ ps. first_abs ps (length js + depth) x) elsewhere) left taken ps
way-open ks js depth p x elsewhere left taken ps h =
    turns-same (λ ps. barred ps (length js + depth) p ≡ false) ks (both (λ ps. first ps depth (Sig.Fun Pure js p x)) elsewhere) (both (λ ps. first_abs ps (length js + depth) x) elsewhere)
    (λ ps j n q. way-stays ps j n (length js + depth) p q)
    (λ ps q. ap (λ b. or_first (if b then None else first_abs ps (length js + depth) x) (elsewhere ps)) q) left taken ps h

-- what a walk does, form by form

-- the walk through a type part takes what it takes of the type
pub sweeps-typ : {ks : List Kind} (depth : ℕ) (u : Ty) {sig : Sig} {t : Ty} {k : Kind} {old new : Sweep} → sig ≡ Sig.Typ t k → u ≡ t → Sweeps ks (λ ps. first_type ps depth u) old new → Sweeps ks (λ ps. first ps depth sig) old new
sweeps-typ {ks} depth u {t = t} {old = old} {new = new} e eu h =
    let here : Sweeps ks (λ ps. first_type ps depth t) old new = subst (λ t. Sweeps ks (λ ps. first_type ps depth t) old new) eu h in
    subst (λ s. Sweeps ks (λ ps. first ps depth s) old new) (sym e) (record { same = here.same })

-- the walk through a structure takes what it takes of the fields
pub sweeps-str : {ks : List Kind} (depth : ℕ) {sig : Sig} {fs : SigRow} {old new : Sweep} → sig ≡ Sig.Str fs → Sweeps ks (λ ps. first_row ps depth fs) old new → Sweeps ks (λ ps. first ps depth sig) old new
sweeps-str {ks} depth {old = old} {new = new} e h = subst (λ s. Sweeps ks (λ ps. first ps depth s) old new) (sym e) (record { same = h.same })

sweeps-nothing : {ks : List Kind} {here : Places → Option ℕ} {w : Sweep} → ((ps : Places) → here ps ≡ None) → Sweeps ks here w w
sweeps-nothing {ks} {here} {w} h = record { same = λ elsewhere. turns-everywhere ks (both here elsewhere) elsewhere (λ ps. ap (λ o. or_first o (elsewhere ps)) (h ps)) w.left w.order.kinds w.order.places.items }

-- the walk through a value takes nothing
pub sweeps-val : {ks : List Kind} (depth : ℕ) {sig : Sig} {t : Ty} {w : Sweep} → sig ≡ Sig.Val t → Sweeps ks (λ ps. first ps depth sig) w w
sweeps-val depth e = sweeps-nothing (λ ps. ap (first ps depth) e)

-- the walk through a signature part takes nothing
pub sweeps-meta : {ks : List Kind} (depth : ℕ) {sig : Sig} {x : Abs} {w : Sweep} → sig ≡ Sig.Meta x → Sweeps ks (λ ps. first ps depth sig) w w
sweeps-meta depth e = sweeps-nothing (λ ps. ap (first ps depth) e)

-- the walk through an impure functor takes nothing
pub sweeps-impure : {ks js : List Kind} (depth : ℕ) {f : Effect} {sig p : Sig} {x : Abs} {w : Sweep} → sig ≡ Sig.Fun f js p x → f ≡ Impure → Sweeps ks (λ ps. first ps depth sig) w w
sweeps-impure {js = js} depth {p = p} {x} e ef = sweeps-nothing (λ ps. ap (first ps depth) (e ∙ ap (λ g. Sig.Fun g js p x) ef))

-- the walk through a pure functor takes what it takes of its result, if the parameter bars nothing
pub sweeps-pure : {ks js : List Kind} (depth : ℕ) {inner : ℕ} {f : Effect} {sig p body : Sig} {x : Abs} {old new : Sweep} → sig ≡ Sig.Fun f js p x → f ≡ Pure → inner ≡ length js + depth → body ≡ body_of x
    → barred old.order.places.items inner p ≡ false → Sweeps ks (λ ps. first ps inner body) old new → Sweeps ks (λ ps. first ps depth sig) old new
sweeps-pure {ks} {js} depth {inner} {f} {sig} {p} {body} {x = Abs.Ex is r} {old} {new} e ef ei eb h s =
    let open-way : barred old.order.places.items (length js + depth) p ≡ false = subst (λ n. barred old.order.places.items n p ≡ false) ei h in
    let inside : Sweeps ks (λ ps. first ps (length js + depth) r) old new = subst (λ n. Sweeps ks (λ ps. first ps n r) old new) ei (subst (λ b. Sweeps ks (λ ps. first ps inner b) old new) eb s) in
    subst (λ t. Sweeps ks (λ ps. first ps depth t) old new) (sym (e ∙ ap (λ g. Sig.Fun g js p (Abs.Ex is r)) ef))
    (record { same = λ elsewhere. way-open ks js depth p (Abs.Ex is r) elsewhere old.left old.order.kinds old.order.places.items open-way ∙ inside.same elsewhere })

-- a type

-- the walk through a type without an untaken root takes nothing
pub sweeps-rootless : {ks : List Kind} (depth : ℕ) (t : Ty) {w : Sweep} → first_type w.order.places.items depth t ≡ None → Sweeps ks (λ ps. first_type ps depth t) w w
sweeps-rootless {ks} depth t {w} e = record { same = λ elsewhere. passed ks (rooted depth t) elsewhere w.left w.order.kinds w.order.places.items e }

pub sweeps-over : {ks : List Kind} {here : Places → Option ℕ} {w : Sweep} → w.left ≡ zero → Sweeps ks here w w
sweeps-over {ks} {here} {w} e = record { same = λ elsewhere. ap (λ n. turns_by ks (both here elsewhere) n w.order.kinds w.order.places.items) e ∙ sym (ap (λ n. turns_by ks elsewhere n w.order.kinds w.order.places.items) e) }

pub sweeps-took : {ks : List Kind} (depth : ℕ) (t : Ty) {index : ℕ} {old new : Sweep} → first_type old.order.places.items depth t ≡ Some index → old.left ≡ suc new.left
    → new.order.kinds ≡ old.order.kinds ++ kind_at ks (own ks index) ∷ [] → new.order.places.items ≡ set old.order.places.items index (Some new.left) → Sweeps ks (λ ps. first_type ps depth t) old new
sweeps-took {ks} depth t {index} {old} {new} e el ek ep = record {
  same = λ elsewhere. ap (λ n. turns_by ks (both (λ ps. first_type ps depth t) elsewhere) n old.order.kinds old.order.places.items) el
      ∙ (took ks (rooted depth t) elsewhere new.left old.order.kinds old.order.places.items index e
      ∙ sym (ap₂ (turns_by ks elsewhere new.left) ek ep));
}

-- what is taken, with a turn less
pub sweeps-next : {ks : List Kind} (depth : ℕ) (t : Ty) {index : ℕ} {old : Sweep} {taken : Order} → first_type old.order.places.items depth t ≡ Some index → (old.left ≡ zero → ⊥)
    → taken.kinds ≡ old.order.kinds ++ kind_at ks (own ks index) ∷ [] → taken.places.items ≡ set old.order.places.items index (Some (old.left - 1)) → Sweeps ks (λ ps. first_type ps depth t) old (record { order = taken; left = old.left - 1 })
sweeps-next depth t e n ek ep = sweeps-took depth t e (omega (arith, n)) ek ep

-- what two answers say where a call succeeds, put together
pub on-both : {T E A B C : Type 0} (r : Result T E) → OnOk r A → OnOk r B → (A → B → C) → OnOk r C
on-both (Ok x) a b f = f a b
on-both (Err e) a b f = tt

-- a variable that is found is one of the binders
pub took-within : (depth : ℕ) (t : Ty) (ps : Places) {index count : ℕ} → first_type ps depth t ≡ Some index → length ps ≡ count → index < count
took-within depth t ps {index} e el = let h = untaken-within ps index (untaken-is ps (rooted depth t) index e) in omega (arith, h, el)

-- the parts of a structure

or_first-apart : (a b c : Option ℕ) → or_first (or_first a b) c ≡ or_first a (or_first b c)
or_first-apart None b c = refl
or_first-apart (Some i) b c = refl

-- a walk came to the field of this number
pub record CameTo (ks : List Kind) (depth : ℕ) (xs : SigPairs) (i : ℕ) (old now : Sweep) : Type 0 where
  pub same : (elsewhere : Places → Option ℕ) → turns_from ks (both (λ ps. first_row ps depth (sig_row xs)) elsewhere) old ≡ turns_from ks (both (λ ps. first_row ps depth (sig_row (drop i xs))) elsewhere) now

pub came-first : {ks : List Kind} {depth : ℕ} {xs : SigPairs} {w : Sweep} → CameTo ks depth xs zero w w
came-first = record { same = λ elsewhere. refl }

pub came-next : {ks : List Kind} {depth : ℕ} {xs : SigPairs} {i : ℕ} {old mid now : Sweep} (x : Name × Sig) → i < length xs → x ≡ get_or xs i x → CameTo ks depth xs i old mid → Sweeps ks (λ ps. first ps depth x.1) mid now → CameTo ks depth xs (i + 1) old now
came-next {ks} {depth} {xs} {i} {old} {mid} {now} x lt e c s = record {
  same = λ elsewhere.
      let rest : Places → Option ℕ = λ ps. first_row ps depth (sig_row (drop (i + 1) xs)) in
      c.same elsewhere
      ∙ (turns-everywhere ks (both (λ ps. first_row ps depth (sig_row (drop i xs))) elsewhere) (both (λ ps. first ps depth x.1) (both rest elsewhere))
      (λ ps. ap (λ o. or_first o (elsewhere ps)) (first-at ps depth xs i x lt e) ∙ or_first-apart (first ps depth x.1) (rest ps) (elsewhere ps)) mid.left mid.order.kinds mid.order.places.items
      ∙ s.same (both rest elsewhere));
}

-- a walk that has come to the end of the fields has taken what it takes of them
pub came-last : {ks : List Kind} {depth : ℕ} {xs : SigPairs} {i : ℕ} {old now : Sweep} → length xs ≤ i → CameTo ks depth xs i old now → Sweeps ks (λ ps. first_row ps depth (sig_row xs)) old now
came-last {ks} {depth} {xs} {i} {old} {now} le c = record {
  same = λ elsewhere.
      c.same elsewhere
      ∙ turns-everywhere ks (both (λ ps. first_row ps depth (sig_row (drop i xs))) elsewhere) elsewhere (λ ps. ap (λ (ys : SigPairs). or_first (first_row ps depth (sig_row ys)) (elsewhere ps)) (none xs i le)) now.left now.order.kinds now.order.places.items;
}
  where
    none : (xs : SigPairs) (i : ℕ) → length xs ≤ i → drop i xs ≡ []
    none [] zero le = refl
    none [] (suc i) le = refl
    none (x ∷ xs) zero le = absurd (omega (arith, le))
    none (x ∷ xs) (suc i) le = none xs i (omega (arith, le))

-- the whole

nowhere : (o : Option ℕ) → or_first o None ≡ o
nowhere None = refl
nowhere (Some i) = refl

no-turns : (ks : List Kind) (left : ℕ) (taken : List Kind) (ps : Places) → turns_by ks (λ ps. None) left taken ps ≡ (taken, ps)
no-turns ks zero taken ps = refl
no-turns ks (suc left) taken ps = refl

-- a walk through the whole signature takes all that the turns take
pub swept-all : {ks : List Kind} (s : Sig) {old new : Sweep} → old.left ≡ length ks → old.order.kinds ≡ [] → old.order.places.items ≡ untaken ks → Sweeps ks (λ ps. first ps zero s) old new
    → (new.order.kinds, new.order.places.items) ≡ turns ks s (length ks) [] (untaken ks)
swept-all {ks} s {old} {new} el ek ep h =
    sym (no-turns ks new.left new.order.kinds new.order.places.items)
    ∙ (sym (h.same (λ ps. None))
    ∙ (turns-everywhere ks (both (λ ps. first ps zero s) (λ ps. None)) (λ ps. first ps zero s) (λ ps. nowhere (first ps zero s)) old.left old.order.kinds old.order.places.items
    ∙ (ap (λ n. turns ks s n old.order.kinds old.order.places.items) el ∙ ap₂ (turns ks s (length ks)) ek ep)))
