-- The variables that are taken turn by turn are in the order of the definition.
-- Main results: untaken-within.
use Rattle.std.specs.Prelude.{ℕ, zero, suc, ◌+◌, ◌-◌, ◌<◌, ◌≤◌, ◌≡◌, ◌≢◌, ◌↔◌, List, [], ◌∷◌, ◌++◌, ◌⊎◌, length, map, set, Option, Some, None, Bool, true, false}
use mathlib.Core.Logic.{inl, inr}
use Rattle.std.proofs.Common.{arith, append_assoc, append-nil}
use Rattle.std.proofs.lemmas.List.{length-map, length-set}
use Rattle.std.proofs.Math.Decide.{ℕ_discrete, dec_lt}
use Rattle.std.proofs.Math.Path.{refl, sym, ap, ◌∙◌, subst}
use Rattle.omega_kinds.specs.Kind.{Kind}
use Rattle.omega_types.specs.Ty.{Ty}
use Rattle.omega_types.specs.Normaliser.{kind_at}
use Rattle.omega_types.specs.Binders.{extend, past, own}
use Rattle.omega_types.proofs.BinderLaws.{spread}
use Rattle.sig_definitions.specs.Signatures.Sig.{Sig}
use Rattle.sig_definitions.specs.Signatures.Alike.{NormalSig}
use Rattle.sig_definitions.specs.Explicit.SigPath.{SigPath}
use Rattle.sig_definitions.specs.Explicit.RootPath.{Rooted, ParamsAvoid, RootPath, root_path, root_of}
use Rattle.sig_definitions.specs.Explicit.WellFormed.{EachRooted, WellFormed}
use Rattle.sig_definitions.specs.QuantifierOrder.{IsNoneOf, Untaken, Counts, counts, Taking, done, next, NewOrder, reordered, place, renumber}
use Rattle.sig_laws.proofs.Algebra.BinderLaws.{past-length}
use Rattle.sig_laws.proofs.Algebra.Own.{split_index}
use Rattle.sig_explicit_laws.proofs.Positions.{own-below}
use Rattle.sig_norm_laws.proofs.Orders.OrderExists.{LeastBelow, least_below}
use Rattle.sig_norm_laws.proofs.Orders.Orders.{place-same, place-other, own-own, renumber-below, renumber-past}
use Rattle.packages.specs.Inner.First.{Places, is_untaken, first}
use Rattle.type_normal.specs.Inner.Moved.{moved, or_stays, place_in}
use Rattle.packages.specs.Inner.Turns.{turns, turn, untaken}
use Rattle.packages.specs.Inner.Normed.{order}
use Rattle.packages.proofs.Taken.{Takes, Outcome, outcome}
use Rattle.sig_laws.proofs.Formed.Shows.{Shows, rooted-shows, shows-rooted}

-- places

-- a variable that is untaken is one of the binders
pub untaken-within : (ps : Places) (i : ℕ) → is_untaken ps i ≡ true → i < length ps
untaken-within [] i e = absurd (cc)
untaken-within (None ∷ ps) zero e = omega arith
untaken-within (Some j ∷ ps) zero e = omega arith
untaken-within (None ∷ ps) (suc i) e = let h = untaken-within ps i e in omega (arith, h)
untaken-within (Some j ∷ ps) (suc i) e = let h = untaken-within ps i e in omega (arith, h)

untaken-set_same : (ps : Places) (i x : ℕ) → is_untaken (set ps i (Some x)) i ≡ true → ⊥
untaken-set_same [] i x e = cc
untaken-set_same (o ∷ ps) zero x e = cc
untaken-set_same (None ∷ ps) (suc i) x e = untaken-set_same ps i x e
untaken-set_same (Some j ∷ ps) (suc i) x e = untaken-set_same ps i x e

untaken-set_other : (ps : Places) (i j : ℕ) (o : Option ℕ) → j ≢ i → is_untaken (set ps i o) j ≡ is_untaken ps j
untaken-set_other [] i j o h = refl
untaken-set_other (x ∷ ps) zero zero o h = absurd (h refl)
untaken-set_other (None ∷ ps) zero (suc j) None h = refl
untaken-set_other (None ∷ ps) zero (suc j) (Some y) h = refl
untaken-set_other (Some x ∷ ps) zero (suc j) None h = refl
untaken-set_other (Some x ∷ ps) zero (suc j) (Some y) h = refl
untaken-set_other (None ∷ ps) (suc i) zero o h = refl
untaken-set_other (Some x ∷ ps) (suc i) zero o h = refl
untaken-set_other (None ∷ ps) (suc i) (suc j) o h = untaken-set_other ps i j o (λ e. h (ap suc e))
untaken-set_other (Some x ∷ ps) (suc i) (suc j) o h = untaken-set_other ps i j o (λ e. h (ap suc e))

place-set_same : (ps : Places) (i : ℕ) (o : Option ℕ) → i < length ps → place_in (set ps i o) i ≡ o
place-set_same [] i o lt = absurd (omega (arith, lt))
place-set_same (x ∷ ps) zero o lt = refl
place-set_same (x ∷ ps) (suc i) o lt = place-set_same ps i o (omega (arith, lt))

place-set_other : (ps : Places) (i j : ℕ) (o : Option ℕ) → j ≢ i → place_in (set ps i o) j ≡ place_in ps j
place-set_other [] i j o h = refl
place-set_other (x ∷ ps) zero zero o h = absurd (h refl)
place-set_other (x ∷ ps) zero (suc j) o h = refl
place-set_other (x ∷ ps) (suc i) zero o h = refl
place-set_other (x ∷ ps) (suc i) (suc j) o h = place-set_other ps i j o (λ e. h (ap suc e))

-- how many are not taken
abbrev count : Places → ℕ
count [] = zero
count (None ∷ ps) = suc (count ps)
count (Some j ∷ ps) = count ps

count-set : (ps : Places) (i x : ℕ) → is_untaken ps i ≡ true → count ps ≡ suc (count (set ps i (Some x)))
count-set [] i x e = absurd (cc)
count-set (None ∷ ps) zero x e = refl
count-set (Some j ∷ ps) zero x e = absurd (cc)
count-set (None ∷ ps) (suc i) x e = ap suc (count-set ps i x e)
count-set (Some j ∷ ps) (suc i) x e = count-set ps i x e

count-zero : (ps : Places) (i : ℕ) → count ps ≡ zero → is_untaken ps i ≡ true → ⊥
count-zero [] i z e = cc
count-zero (None ∷ ps) i z e = omega (arith, z)
count-zero (Some j ∷ ps) zero z e = cc
count-zero (Some j ∷ ps) (suc i) z e = count-zero ps i z e

-- none is taken at first

start-count : (ks : List Kind) → count (untaken ks) ≡ length ks
start-count [] = refl
start-count (k ∷ ks) = ap suc (start-count ks)

start-untaken : (ks : List Kind) (i : ℕ) → i < length ks → is_untaken (untaken ks) i ≡ true
start-untaken [] i lt = absurd (omega (arith, lt))
start-untaken (k ∷ ks) zero lt = refl
start-untaken (k ∷ ks) (suc i) lt = start-untaken ks i (omega (arith, lt))

start-place : (ks : List Kind) (i : ℕ) → place_in (untaken ks) i ≡ None
start-place [] i = refl
start-place (k ∷ ks) zero = refl
start-place (k ∷ ks) (suc i) = start-place ks i

-- the variables without a place are those of the numbers that are not taken
abbrev Agree : List Kind → Places → List ℕ → Type 0
Agree ks ps taken = (length ps ≡ length ks) × ((v : ℕ) → v < length ks → is_untaken ps (own ks v) ≡ true ↔ IsNoneOf v taken)

same-own : (ks : List Kind) (v i : ℕ) → v < length ks → i < length ks → own ks v ≡ i → v ≡ own ks i
same-own ks v i lv li e = omega (arith, lv, li, e)

agree-start : (ks : List Kind) → Agree ks (untaken ks) []
agree-start ks = (length-map ks (λ k. None), λ v lt. (λ e. tt, λ h. start-untaken ks (own ks v) (own-below ks v lt)))

agree-next : (ks : List Kind) (ps : Places) (taken : List ℕ) (i x : ℕ) → Agree ks ps taken → i < length ks → Agree ks (set ps i (Some x)) (own ks i ∷ taken)
agree-next ks ps taken i x a li = (length-set ps i (Some x) ∙ a.0, λ v lv. (to v lv, from v lv))
  where
    to : (v : ℕ) → v < length ks → is_untaken (set ps i (Some x)) (own ks v) ≡ true → IsNoneOf v (own ks i ∷ taken)
    to v lv e = go (ℕ_discrete (own ks v) i)
      where
        go : Dec (own ks v ≡ i) → IsNoneOf v (own ks i ∷ taken)
        go (yes f) = absurd (untaken-set_same ps i x (subst (λ n. is_untaken (set ps i (Some x)) n ≡ true) f e))
        go (no f) = ((λ g. f (ap (own ks) g ∙ own-own ks i li)), (a.1 v lv).0 (sym (untaken-set_other ps i (own ks v) (Some x) f) ∙ e))

    from : (v : ℕ) → v < length ks → IsNoneOf v (own ks i ∷ taken) → is_untaken (set ps i (Some x)) (own ks v) ≡ true
    from v lv h = untaken-set_other ps i (own ks v) (Some x) (λ e. h.0 (same-own ks v i lv li e)) ∙ (a.1 v lv).1 h.1

-- what the definition takes

from-zero : (i : ℕ) → zero + i ≡ i
from-zero i = omega arith

shows-zero : {c : List Kind} {s : Sig} {i : ℕ} {p : SigPath} → Rooted c s i p → Shows c s (spread (zero + i) zero zero) p
shows-zero {c} {s} {i} {p} r = subst (λ n. Shows c s (Ty.Var n) p) (sym (from-zero i)) (rooted-shows r)

takes-counts : {ctx : List Kind} (ks : List Kind) (s : Sig) (ps : Places) (taken : List ℕ) (i : ℕ) (p : SigPath) → Agree ks ps taken → Takes (extend ctx ks) ps zero s i p → Counts ctx ks s taken (own ks i) p
takes-counts {ctx} ks s ps taken i p a w =
    let li : i < length ks = let h = untaken-within ps i w.0 in omega (arith, h, a.0) in
    let back : own ks (own ks i) ≡ i = own-own ks i li in
    let lv = own-below ks i li in
    counts (lv, (a.1 (own ks i) lv).0 (ap (is_untaken ps) back ∙ w.0))
    (subst (λ n. Rooted (extend ctx ks) s n p) (sym back) (shows-rooted (ap Ty.Var (from-zero i)) w.1))
    (λ j u. subst (ParamsAvoid (extend ctx ks) s p) (from-zero (own ks j)) (w.2 (own ks j) ((a.1 j u.0).1 u.1)))

counts-takes : {ctx : List Kind} (ks : List Kind) (s : Sig) (ps : Places) (taken : List ℕ) (v : ℕ) (p : SigPath) → Agree ks ps taken → Counts ctx ks s taken v p → Takes (extend ctx ks) ps zero s (own ks v) p
counts-takes {ctx} ks s ps taken v p a (counts u r h) = ((a.1 v u.0).1 u.1, shows-zero r, λ j e. avoid j e)
  where
    avoid : (j : ℕ) → is_untaken ps j ≡ true → ParamsAvoid (extend ctx ks) s p (zero + j)
    avoid j e =
        let lj : j < length ks = let g = untaken-within ps j e in omega (arith, g, a.0) in
        let back = own-own ks j lj in
        let lv = own-below ks j lj in
        subst (ParamsAvoid (extend ctx ks) s p) (back ∙ sym (from-zero j)) (h (own ks j) (lv, (a.1 (own ks j) lv).0 (ap (is_untaken ps) back ∙ e)))

-- nothing is found only where all are taken

bool_dec : (b : Bool) → Dec (b ≡ true)
bool_dec true = yes refl
bool_dec false = no (λ e. cc)

root-takes : {ctx : List Kind} (ks : List Kind) (s : Sig) (ps : Places) (v : ℕ) (p : SigPath) → length ps ≡ length ks → is_untaken ps (own ks v) ≡ true → ((i : ℕ) → i < v → is_untaken ps (own ks i) ≡ true → ⊥) → RootPath ctx ks s v p → Takes (extend ctx ks) ps zero s (own ks v) p
root-takes {ctx} ks s ps v p len u h (root_path lt (root_of r a)) = (u, shows-zero r, λ j e. subst (ParamsAvoid (extend ctx ks) s p) (sym (from-zero j)) (a j (upto j e (dec_lt (own ks v) j))))
  where
    upto : (j : ℕ) → is_untaken ps j ≡ true → Dec (own ks v < j) → j ≤ own ks v
    upto j e (no g) = omega (arith, g)
    upto j e (yes g) =
        let lj : j < length ks = let w = untaken-within ps j e in omega (arith, w, len) in
        absurd (h (own ks j) (omega (arith, g, lj, lt)) (ap (is_untaken ps) (own-own ks j lj) ∙ e))

none-left : {ctx : List Kind} (ks : List Kind) (s : Sig) (ps : Places) (taken : List ℕ) → Agree ks ps taken → EachRooted ctx ks s → Outcome (extend ctx ks) ps zero s None → (j : ℕ) → Untaken ks taken j → ⊥
none-left {ctx} ks s ps taken a r o j u = go (least_below (length ks) (λ v. is_untaken ps (own ks v) ≡ true) (λ v. bool_dec (is_untaken ps (own ks v))))
  where
    go : LeastBelow (length ks) (λ v. is_untaken ps (own ks v) ≡ true) → ⊥
    go (LeastBelow.none g) = g j u.0 ((a.1 j u.0).1 u.1)
    go (LeastBelow.found v lt w g) = let q = r v lt in o (own ks v) q.0 (root-takes ks s ps v q.0 a.0 w g q.1)

-- turn by turn

abbrev Gives : (ctx ks : List Kind) (s : Sig) (left : ℕ) (kinds : List Kind) (ps : Places) (taken : List ℕ) → List Kind × Places → Type 0
Gives ctx ks s left kinds ps taken r =
    (order : List ℕ) × Taking ctx ks s taken order × (r.0 ≡ kinds ++ map (kind_at ks) order)
    × ((v : ℕ) → v < length ks → IsNoneOf v taken → place_in r.1 (own ks v) ≡ Some (left - suc (place order v)))
    × ((i : ℕ) → (is_untaken ps i ≡ true → ⊥) → place_in r.1 i ≡ place_in ps i)

gives-done : (ctx ks : List Kind) (s : Sig) (left : ℕ) (kinds : List Kind) (ps : Places) (taken : List ℕ) → ((j : ℕ) → Untaken ks taken j → ⊥) → Gives ctx ks s left kinds ps taken (kinds, ps)
gives-done ctx ks s left kinds ps taken h = ([], done h, sym (append-nil kinds), λ v lv n. absurd (h v (lv, n)), λ i n. refl)

gives-next : (ctx ks : List Kind) (s : Sig) (left : ℕ) (kinds : List Kind) (ps : Places) (taken : List ℕ) (i : ℕ) (r : List Kind × Places) → Agree ks ps taken → Outcome (extend ctx ks) ps zero s (Some i)
    → Gives ctx ks s left (kinds ++ (kind_at ks (own ks i) ∷ [])) (set ps i (Some left)) (own ks i ∷ taken) r
    → Gives ctx ks s (suc left) kinds ps taken r
gives-next ctx ks s left kinds ps taken i r a (p, w, least) (order, t, ek, placed, kept) = (
  own ks i ∷ order,
  next (takes-counts ks s ps taken i p a w) (λ j q c b. least (own ks j) q (counts-takes ks s ps taken j q a c) b) t,
  ek ∙ append_assoc kinds (kind_at ks (own ks i) ∷ []) (map (kind_at ks) order),
  place_of,
  others,
)
  where
    li : i < length ks
    li = let h = untaken-within ps i w.0 in omega (arith, h, a.0)

    here : place_in r.1 i ≡ Some left
    here = kept i (untaken-set_same ps i left) ∙ place-set_same ps i (Some left) (untaken-within ps i w.0)

    place_of : (v : ℕ) → v < length ks → IsNoneOf v taken → place_in r.1 (own ks v) ≡ Some (suc left - suc (place (own ks i ∷ order) v))
    place_of v lv n = go (ℕ_discrete v (own ks i))
      where
        go : Dec (v ≡ own ks i) → place_in r.1 (own ks v) ≡ Some (suc left - suc (place (own ks i ∷ order) v))
        go (yes e) =
            let z : place (own ks i ∷ order) v ≡ zero = ap (place (own ks i ∷ order)) e ∙ place-same (own ks i) order in
            ap (place_in r.1) (ap (own ks) e ∙ own-own ks i li) ∙ (here ∙ ap Some (omega (arith, z)))
        go (no f) =
            let z : place (own ks i ∷ order) v ≡ suc (place order v) = place-other (own ks i) v order f in
            placed v lv (f, n) ∙ ap Some (omega (arith, z))

    others : (x : ℕ) → (is_untaken ps x ≡ true → ⊥) → place_in r.1 x ≡ place_in ps x
    others x n =
        let d : x ≢ i = λ e. n (ap (is_untaken ps) e ∙ w.0) in
        kept x (λ e. n (sym (untaken-set_other ps i x (Some left) d) ∙ e)) ∙ place-set_other ps i x (Some left) d

module _ (ctx ks : List Kind) (s : Sig) (formed : WellFormed (extend ctx ks) s) (normal : NormalSig (extend ctx ks) s) (rooted : EachRooted ctx ks s) where
  turns-give : (left : ℕ) (kinds : List Kind) (ps : Places) (taken : List ℕ) → Agree ks ps taken → count ps ≡ left → Gives ctx ks s left kinds ps taken (turns ks s left kinds ps)
  turns-give zero kinds ps taken a e = gives-done ctx ks s zero kinds ps taken (λ j u. count-zero ps (own ks j) e ((a.1 j u.0).1 u.1))
  turns-give (suc left) kinds ps taken a e = go (first ps zero s) (outcome ps zero s formed normal) (λ js qs is b f. turns-give left js qs is b f)
    where
      go : (o : Option ℕ) → Outcome (extend ctx ks) ps zero s o
          → ((js : List Kind) (qs : Places) (is : List ℕ) → Agree ks qs is → count qs ≡ left → Gives ctx ks s left js qs is (turns ks s left js qs))
          → Gives ctx ks s (suc left) kinds ps taken (turn kinds ps (λ i. turns ks s left (kinds ++ kind_at ks (own ks i) ∷ []) (set ps i (Some left))) o)
      go None o h = gives-done ctx ks s (suc left) kinds ps taken (none-left ks s ps taken a rooted o)
      go (Some i) o h =
          let u = o.1.0 in
          let li : i < length ks = let w = untaken-within ps i u in omega (arith, w, a.0) in
          let c = count-set ps i left u in
          gives-next ctx ks s left kinds ps taken i (turns ks s left (kinds ++ (kind_at ks (own ks i) ∷ [])) (set ps i (Some left))) a o
          (h (kinds ++ (kind_at ks (own ks i) ∷ [])) (set ps i (Some left)) (own ks i ∷ taken) (agree-next ks ps taken i left a li) (omega (arith, c, e)))

  -- the new order, its kinds, and what becomes of each index
  pub in-new-order : (o : List ℕ) × NewOrder ctx ks s o × ((order ks s).0 ≡ reordered ks o) × ((i : ℕ) → moved (order ks s).1 i ≡ renumber ks o i)
  in-new-order =
      let g = turns-give (length ks) [] (untaken ks) [] (agree-start ks) (start-count ks) in
      (g.0, g.1, g.2, λ i. index g.0 g.3 g.4 i (split_index ks i))
    where
      index : (o : List ℕ) → ((v : ℕ) → v < length ks → IsNoneOf v [] → place_in (order ks s).1 (own ks v) ≡ Some (length ks - suc (place o v)))
          → ((i : ℕ) → (is_untaken (untaken ks) i ≡ true → ⊥) → place_in (order ks s).1 i ≡ place_in (untaken ks) i)
          → (i : ℕ) → (i < length ks) ⊎ ((j : ℕ) × (i ≡ past ks j)) → moved (order ks s).1 i ≡ renumber ks o i
      index o placed kept i (inl lt) =
          ap (or_stays i) (ap (place_in (order ks s).1) (sym (own-own ks i lt)) ∙ placed (own ks i) (own-below ks i lt) tt) ∙ sym (renumber-below ks o i lt)
      index o placed kept i (inr (j, e)) =
          let beyond : is_untaken (untaken ks) i ≡ true → ⊥ = λ u. let h = untaken-within (untaken ks) i u in let l : length (untaken ks) ≡ length ks = length-map ks (λ k. None) in let p = past-length ks j in omega (arith, h, l, p, e) in
          ap (or_stays i) (kept i beyond ∙ start-place ks i) ∙ (e ∙ (sym (renumber-past ks o j) ∙ ap (renumber ks o) (sym e)))
