-- Records and cases: their parts one after another, and functions that call themselves.
-- Main results: fix-done, fields-done, branches-done, case-done.
use Rattle.std.proofs.Common.{◌≡◌, ℕ, zero, suc, ◌+◌, ◌<◌, ◌≤◌, List, [], ◌∷◌, ◌++◌, Option, Some, None, Bool as Truth, true, false, if◌then◌else◌, length}
use Rattle.std.proofs.Common.{get_or, take, drop, map, refl, sym, ap, ap₂, ◌∙◌, subst, arith}
use Rattle.std.proofs.lemmas.List.{drop_all, take_all}
use Rattle.std.proofs.Math.Seq.{take-suc}
use Rattle.std.specs.Option.{option_map}
use Rattle.omega_kinds.specs.Kind.{Kind}
use Rattle.omega_kinds.specs.LabelOrder.{LabelBefore}
use Rattle.omega_kinds.specs.declared.label.Label.{Label}
use Rattle.omega_types.specs.Fields.{Pairs, Rises, row}
use Rattle.omega_types.specs.Ty.{Ty, Row}
use Rattle.omega_terms.specs.Fields.{TermPairs, term_row}
use Rattle.omega_terms.specs.Term.{Term, TermRow}
use Rattle.type_store.specs.Inner.ShapeLaws.{no}
use Rattle.type_store.specs.Numbers.{NumberOf}
use Rattle.type_store.specs.Shape.{Parts}
use Rattle.type_store.specs.Trees.{ArePartsBelow, Begins, Holds, at, row_at}
use Rattle.type_store.proofs.TreeLaws.{begins-at, begins-itself, begins-length, begins-then, parts_below-more}
use Rattle.omega_node_laws.specs.Found.{and_then, case_type, fix_type, if_sum, is_found, normal_at, synth_in, synth_row, synth_branches}
use Rattle.omega_node_laws.specs.Held.{Held, HeldFields, HeldBranches}
use Rattle.omega_node_laws.specs.Scope.{Scope, types_of, type_at, Grows, Makes, Finds, Synthesises, FindsBranches, IsSum}
use Rattle.omega_node_laws.proofs.BinderSteps.{no-number, nothing}
use Rattle.omega_node_laws.proofs.FieldLoop.{row_after, found-more, found-none, found-all, left-more, parts-more, record-type, branches-length, passes}
use Rattle.omega_node_laws.proofs.FieldLoop.{branch-passes, label-differs, branch-fails, all-pass}
use Rattle.omega_node_laws.proofs.HeldMore.{number-more, held-more, fields-more}
use Rattle.omega_node_laws.proofs.Inverted.{fix-yes, is_found-yes}
use Rattle.omega_node_laws.proofs.ScopeSteps.{in-more, number-in, type-some, grows-itself, grows-then}
use Rattle.omega_node_laws.proofs.SynthSteps.{moved, at-number, held-some, with-parts}

-- ---- a function that calls itself

when-found : (n m : Ty) (o : Option Ty) (b : Truth) → b ≡ is_found m o → fix_type n m o ≡ (if b then Some (Ty.Arrow n m) else None)
when-found n m None b e = ap (λ c. if c then Some (Ty.Arrow n m) else None) (sym e)
when-found n m (Some s) b e = ap (λ c. if c then Some (Ty.Arrow n m) else None) (sym e)

module _ (z x y w c : Scope) (t u : Ty) (e : Term) (o p r : Option ℕ) (f g h : ℕ)
    (a : Finds z x o (normal_at z.kinds t Kind.Star)) (ao : o ≡ Some f) (b : Finds x y p (normal_at x.kinds u Kind.Star)) (bo : p ≡ Some g)
    (l : f < length x.types) (k : g < length y.types) (m : Makes y w h (Ty.Arrow (at y.types f) (at y.types g)))
    (s : Synthesises w c w.kinds (at w.types f ∷ (at w.types h ∷ types_of w)) e r) where
  abbrev from : Ty
  from = at x.types f

  abbrev to : Ty
  to = at y.types g

  abbrev whole : List Ty
  whole = from ∷ (Ty.Arrow from to ∷ types_of z)

  zw : Grows z w
  zw = grows-then (grows-then a.grows b.grows) m.grows

  from-is : normal_at z.kinds t Kind.Star ≡ Some from
  from-is = type-some x.types o (normal_at z.kinds t Kind.Star) f a.is_number ao

  to-is : normal_at z.kinds u Kind.Star ≡ Some to
  to-is = ap (λ q. normal_at q u Kind.Star) (sym a.grows.same_kinds) ∙ type-some y.types p (normal_at x.kinds u Kind.Star) g b.is_number bo

  first : at w.types f ≡ from
  first = begins-at x.types w.types f (grows-then b.grows m.grows).begins l

  second : at w.types h ≡ Ty.Arrow from to
  second = m.holds.value ∙ ap (λ q. Ty.Arrow q to) (begins-at x.types y.types f b.grows.begins l)

  vars-are : at w.types f ∷ (at w.types h ∷ types_of w) ≡ whole
  vars-are = λ i. first i ∷ (second i ∷ zw.same_types i)

  inner : synth_in w.kinds (at w.types f ∷ (at w.types h ∷ types_of w)) e ≡ synth_in z.kinds whole e
  inner = ap₂ (λ q v. synth_in q v e) zw.same_kinds vars-are

  term-is : synth_in z.kinds (types_of z) (Term.Fix t u e) ≡ fix_type from to (synth_in z.kinds whole e)
  term-is =
      ap (λ q. and_then q (λ n. and_then (normal_at z.kinds u Kind.Star) (λ v. fix_type n v (synth_in z.kinds (n ∷ (Ty.Arrow n v ∷ types_of z)) e)))) from-is ∙
      ap (λ q. and_then q (λ v. fix_type from v (synth_in z.kinds (from ∷ (Ty.Arrow from v ∷ types_of z)) e))) to-is

  found-is : (v : Truth) → v ≡ is_found (at c.types g) (type_at c.types r) → v ≡ is_found to (synth_in z.kinds whole e)
  found-is v q = q ∙ ap₂ is_found (begins-at y.types c.types g (grows-then m.grows s.grows).begins k) (at-number s ∙ inner)

  -- a recursive function whose body has the type of its result has the function type
  pub fix-done : true ≡ is_found (at c.types g) (type_at c.types r) → Synthesises z c z.kinds (types_of z) (Term.Fix t u e) (Some h)
  fix-done q =
      let v = when-found from to (synth_in z.kinds whole e) true (found-is true q) in
      let hold = begins-at w.types c.types h s.grows.begins m.holds.within ∙ second in
      let here : NumberOf w.types (Some h) (Some (at w.types h)) = record { within = m.holds.within; value = refl } in
      let number : NumberOf c.types (Some h) (synth_in z.kinds (types_of z) (Term.Fix t u e)) =
      subst (NumberOf c.types (Some h)) (sym (term-is ∙ v))
      (subst (Holds c.types h) second (number-more w.types c.types (Some h) (Some (at w.types h)) s.grows.begins here)) in
      record {
        grows = grows-then zw s.grows;
        is_number = number;
        held = with-parts _ number (λ d j. (
          from,
          to,
          from-is,
          to-is,
          subst (λ v. Held c.types z.kinds v e) vars-are
              (subst (λ q. Held c.types q (at w.types f ∷ (at w.types h ∷ types_of w)) e) zw.same_kinds
              (held-some to s (inner ∙ (fix-yes from to (synth_in z.kinds whole e) d (sym term-is ∙ j)).0))),
        ));
      }

  -- a recursive function whose body has another type has none
  pub fix-fails : false ≡ is_found (at c.types g) (type_at c.types r) → Synthesises z c z.kinds (types_of z) (Term.Fix t u e) None
  fix-fails q = nothing (grows-then zw s.grows) (term-is ∙ when-found from to (synth_in z.kinds whole e) false (found-is false q))

-- ---- a case

module _ (z x y : Scope) (t : Ty) (e : Term) (row : TermRow) (o p : Option ℕ) (a : Finds z x o (normal_at z.kinds t Kind.Star))
    (s : Synthesises x y x.kinds (types_of x) e p) where
  inside : Synthesises z y z.kinds (types_of z) e p
  inside = moved a.grows s (grows-itself y)

  abbrev F : Row → Ty → Truth
  F = synth_branches z.kinds (types_of z) row

  module _ (n m : ℕ) (ao : o ≡ Some n) (so : p ≡ Some m) (l : n < length x.types) where
    target : normal_at z.kinds t Kind.Star ≡ Some (at y.types n)
    target = type-some x.types o (normal_at z.kinds t Kind.Star) n a.is_number ao ∙ ap Some (sym (begins-at x.types y.types n s.grows.begins l))

    sum : synth_in z.kinds (types_of z) e ≡ Some (at y.types m)
    sum = type-some y.types p (synth_in z.kinds (types_of z) e) m inside.is_number so

    type-is : synth_in z.kinds (types_of z) (Term.Case e t row) ≡ if_sum (at y.types m) (at y.types n) (λ r. F r (at y.types n))
    type-is = ap₂ (λ q v. case_type q v F) sum target

    -- a case on what has no sum type has none
    pub case-no-sum : IsSum y.types m None → Synthesises z y z.kinds (types_of z) (Term.Case e t row) None
    case-no-sum f = nothing inside.grows (type-is ∙ f (at y.types n) (λ r. F r (at y.types n)))

    module _ (c : Scope) (parts : Parts) (pass : Truth) (k : IsSum y.types m (Some parts))
        (b : FindsBranches y c row (row_at y.types parts) (at y.types n) pass) where
      abbrev R : Row
      R = row_at y.types parts

      same : synth_branches y.kinds (types_of y) row R (at y.types n) ≡ F R (at y.types n)
      same = ap₂ (λ q v. synth_branches q v row R (at y.types n)) inside.grows.same_kinds inside.grows.same_types

      result : synth_in z.kinds (types_of z) (Term.Case e t row) ≡ (if pass then Some (at y.types n) else None)
      result =
          type-is ∙ (ap (λ q. if_sum q (at y.types n) (λ r. F r (at y.types n))) k.2 ∙ ap (λ q. if q then Some (at y.types n) else None) (sym (b.value ∙ same)))

      -- a case whose branches do not pass has none
      pub case-fails : pass ≡ false → Synthesises z c z.kinds (types_of z) (Term.Case e t row) None
      case-fails q = nothing (grows-then inside.grows b.grows) (result ∙ ap (λ v. if v then Some (at y.types n) else None) q)

      -- a case whose branches pass has the type that is written
      pub case-done : pass ≡ true → Synthesises z c z.kinds (types_of z) (Term.Case e t row) (Some n)
      case-done q =
          let within = in-more x.types y.types (Some n) s.grows.begins l in
          let here : NumberOf y.types (Some n) (Some (at y.types n)) = record { within = within; value = refl } in
          let number : NumberOf c.types (Some n) (synth_in z.kinds (types_of z) (Term.Case e t row)) =
          subst (NumberOf c.types (Some n)) (sym (result ∙ ap (λ v. if v then Some (at y.types n) else None) q))
          (number-more y.types c.types (Some n) (Some (at y.types n)) b.grows.begins here) in
          record {
            grows = grows-then inside.grows b.grows;
            is_number = number;
            held = with-parts _ number (λ d j. (
              held-more y.types c.types b.grows.begins z.kinds (types_of z) e (held-some _ inside sum),
              (
                R,
                sum ∙ ap Some k.2,
                subst (λ v. HeldBranches c.types v (types_of z) row R) inside.grows.same_kinds
                    (subst (λ v. HeldBranches c.types y.kinds v row R) inside.grows.same_types (b.held q)),
              ),
            ));
          }

-- ---- the fields of a record, one after another

-- the labels and types of numbered parts
abbrev pub pairs_at : List Ty → Parts → Pairs
pairs_at ts [] = []
pairs_at ts (x ∷ xs) = (x.0, at ts x.1) ∷ pairs_at ts xs

row-pairs : (ts : List Ty) (parts : Parts) → row (pairs_at ts parts) ≡ row_at ts parts
row-pairs ts [] = refl
row-pairs ts (x ∷ xs) = ap (Row.More x.0 (at ts x.1)) (row-pairs ts xs)

pairs-more : (ts us : List Ty) (parts : Parts) → Begins ts us → ArePartsBelow (length ts) parts → pairs_at us parts ≡ pairs_at ts parts
pairs-more ts us [] b h = refl
pairs-more ts us (x ∷ xs) b h = λ i. (x.0, begins-at ts us x.1 b h.0 i) ∷ pairs-more ts us xs b h.1 i

pairs-push : (ts : List Ty) (parts : Parts) (l : Label) (n : ℕ) → pairs_at ts (parts ++ (l, n) ∷ []) ≡ pairs_at ts parts ++ (l, at ts n) ∷ []
pairs-push ts [] l n = refl
pairs-push ts (x ∷ xs) l n = ap (λ ys. (x.0, at ts x.1) ∷ ys) (pairs-push ts xs l n)

below-push : (m : ℕ) (parts : Parts) (l : Label) (n : ℕ) → ArePartsBelow m parts → n < m → ArePartsBelow m (parts ++ (l, n) ∷ [])
below-push m [] l n h k = (k, tt)
below-push m (x ∷ xs) l n h k = (h.0, below-push m xs l n h.1 k)

labels-push : {A : Type 0} (xs : List (Label × A)) (x : Label × A) → map (λ y. y.0) (xs ++ x ∷ []) ≡ map (λ y. y.0) xs ++ x.0 ∷ []
labels-push [] x = refl
labels-push (y ∷ xs) x = ap (λ ys. y.0 ∷ ys) (labels-push xs x)

one-more : {A : Type 0} (xs : List A) (i : ℕ) (x : A) → x ≡ get_or xs i x → i < length xs → take (i + 1) xs ≡ take i xs ++ x ∷ []
one-more xs i x e h = ap (λ n. take n xs) (next i) ∙ (take-suc xs i x h ∙ ap (λ y. take i xs ++ y ∷ []) (sym e))
  where
    next : (n : ℕ) → n + 1 ≡ suc n
    next n = omega arith

rises-labels : (ws : Parts) (zs : TermPairs) → map (λ x. x.0) ws ≡ map (λ x. x.0) zs → Rises zs → Rises ws
rises-labels [] zs e r = tt
rises-labels (w ∷ []) zs e r = tt
rises-labels (w ∷ v ∷ ws) [] e r = absurd (let f : w.0 ∷ (v.0 ∷ map (λ x. x.0) ws) ≡ [] → ⊥ = λ p. cc in f e)
rises-labels (w ∷ v ∷ ws) (z ∷ []) e r = absurd (let f : w.0 ∷ (v.0 ∷ map (λ x. x.0) ws) ≡ z.0 ∷ [] → ⊥ = λ p. cc in f e)
rises-labels (w ∷ v ∷ ws) (z ∷ y ∷ zs) e r =
    let first : w.0 ≡ z.0 = cc in
    let second : v.0 ≡ y.0 = cc in
    let rest : v.0 ∷ map (λ x. x.0) ws ≡ y.0 ∷ map (λ x. x.0) zs = cc in
    (subst (λ k. LabelBefore k v.0) (sym first) (subst (LabelBefore z.0) (sym second) r.0), rises-labels (v ∷ ws) (y ∷ zs) rest r.1)

-- the fields before a place have their types
pub record FieldsSoFar (old now : Scope) (xs : TermPairs) (parts : Parts) (i : ℕ) : Type 0 where
  pub grows : Grows old now
  pub below : ArePartsBelow (length now.types) parts
  pub labels : map (λ x. x.0) parts ≡ map (λ x. x.0) (take i xs)
  pub found : option_map (row_after (pairs_at now.types parts)) (synth_row old.kinds (types_of old) (term_row (drop i xs)))
      ≡ synth_row old.kinds (types_of old) (term_row xs)
  pub held : (ts : List Ty) → Begins now.types ts → HeldFields ts old.kinds (types_of old) (term_row (drop i xs))
      → HeldFields ts old.kinds (types_of old) (term_row xs)

module _ (old now : Scope) (xs : TermPairs) (parts : Parts) (i : ℕ) (f : FieldsSoFar old now xs parts i) where
  module _ (new : Scope) (x : Label × Term) (o : Option ℕ) (s : Synthesises now new now.kinds (types_of now) x.1 o) (at-x : x ≡ get_or xs i x)
      (w : i < length xs) where
    here : Synthesises old new old.kinds (types_of old) x.1 o
    here = moved f.grows s (grows-itself new)

    -- a record with a field that has no type has none
    pub fields-none : ((n : ℕ) → o ≡ Some n → ⊥) → (ys : TermPairs) → Rises xs → xs ≡ ys
        → Synthesises old new old.kinds (types_of old) (Term.Fields (term_row ys)) None
    fields-none g ys r e =
        let none =
        found-none old.kinds (types_of old) i xs (pairs_at now.types parts) x (synth_row old.kinds (types_of old) (term_row xs)) f.found w at-x
        (sym (no-number new.types o (synth_in old.kinds (types_of old) x.1) g here.is_number)) in
        nothing here.grows (sym (record-type None (synth_row old.kinds (types_of old) (term_row ys)) xs ys r e
        (none ∙ ap (λ zs. synth_row old.kinds (types_of old) (term_row zs)) e)))

    -- one more field has its number, and the fields so far are one more
    pub fields-step : (n : ℕ) (l : Label) (more : Parts) → o ≡ Some n → l ≡ x.0 → more ≡ parts ++ (l, n) ∷ [] → FieldsSoFar old new xs more (i + 1)
    fields-step n l more on lx m =
        let b = s.grows.begins in
        let t = type-some new.types o (synth_in old.kinds (types_of old) x.1) n here.is_number on in
        let within =
        number-in new.types (Some n) (Some (at new.types n))
        (subst (NumberOf new.types (Some n)) t (subst (λ p. NumberOf new.types p (synth_in old.kinds (types_of old) x.1)) on here.is_number)) in
        record {
          grows = here.grows;
          below =
              subst (ArePartsBelow (length new.types)) (sym m)
              (below-push (length new.types) parts l n
              (parts_below-more (length now.types) (length new.types) parts (begins-length now.types new.types b) f.below) within);
          labels =
              ap (map (λ y. y.0)) m ∙ (labels-push parts (l, n) ∙
              (ap₂ (λ ks k. ks ++ k ∷ []) f.labels lx ∙ (sym (labels-push (take i xs) x) ∙ ap (map (λ y. y.0)) (sym (one-more xs i x at-x w)))));
          found =
              found-more old.kinds (types_of old) i xs (pairs_at now.types parts) (pairs_at new.types more) x l (at new.types n)
              (synth_row old.kinds (types_of old) (term_row xs)) f.found w at-x lx (sym t)
              (ap (pairs_at new.types) m ∙ (pairs-push new.types parts l n ∙
              ap (λ ys. ys ++ (l, at new.types n) ∷ []) (pairs-more now.types new.types parts b f.below)));
          held =
              (λ ts c h. f.held ts (begins-then now.types new.types ts b c)
              (subst (HeldFields ts old.kinds (types_of old)) (sym (left-more i xs x w at-x))
              (held-more new.types ts c old.kinds (types_of old) x.1 (here.held n on), h)));
        }

  -- all fields have their types
  pub fields-below : Rises xs → length xs ≤ i → ArePartsBelow (length now.types) parts × Rises parts
  fields-below r h = (f.below, rises-labels parts xs (f.labels ∙ ap (map (λ x. x.0)) (take_all i xs h)) r)

  -- when all fields have their numbers, the record has the type of these
  pub fields-done : (new : Scope) (n : ℕ) (ys : TermPairs) → Rises xs → xs ≡ ys → length xs ≤ i → Makes now new n (Ty.Fields (row_at now.types parts))
      → Synthesises old new old.kinds (types_of old) (Term.Fields (term_row ys)) (Some n)
  fields-done new n ys r e h m =
      let S = synth_row old.kinds (types_of old) in
      let all = found-all old.kinds (types_of old) i xs (pairs_at now.types parts) (S (term_row xs)) f.found h in
      let t = record-type (Some (row (pairs_at now.types parts))) (S (term_row ys)) xs ys r e (all ∙ ap (λ zs. S (term_row zs)) e) in
      let number : NumberOf new.types (Some n) (synth_in old.kinds (types_of old) (Term.Fields (term_row ys))) =
      subst (NumberOf new.types (Some n)) (ap (λ q. Some (Ty.Fields q)) (sym (row-pairs now.types parts)) ∙ t) m.holds in
      let left : HeldFields now.types old.kinds (types_of old) (term_row (drop i xs)) =
      subst (λ zs. HeldFields now.types old.kinds (types_of old) (term_row zs)) (sym (drop_all i xs h)) tt in
      record {
        grows = grows-then f.grows m.grows;
        is_number = number;
        held =
            with-parts _ number (λ u q. fields-more now.types new.types m.grows.begins old.kinds (types_of old) (term_row ys)
            (subst (λ zs. HeldFields now.types old.kinds (types_of old) (term_row zs)) e (f.held now.types (begins-itself now.types) left)));
      }

-- ---- the branches, one after another

-- the branches before a place pass
pub record BranchesSoFar (old now : Scope) (xs : TermPairs) (parts : Parts) (target : ℕ) (i : ℕ) : Type 0 where
  pub grows : Grows old now
  pub value : synth_branches old.kinds (types_of old) (term_row (drop i xs)) (row (drop i (pairs_at old.types parts))) (at old.types target)
      ≡ synth_branches old.kinds (types_of old) (term_row xs) (row (pairs_at old.types parts)) (at old.types target)
  pub held : (ts : List Ty) → Begins now.types ts → HeldBranches ts old.kinds (types_of old) (term_row (drop i xs)) (row (drop i (pairs_at old.types parts)))
      → HeldBranches ts old.kinds (types_of old) (term_row xs) (row (pairs_at old.types parts))

pairs-length : (ts : List Ty) (parts : Parts) → length (pairs_at ts parts) ≡ length parts
pairs-length ts [] = refl
pairs-length ts (x ∷ xs) = ap suc (pairs-length ts xs)

pairs-get : (ts : List Ty) (parts : Parts) (i : ℕ) (x : Label × ℕ) → x ≡ get_or parts i x → i < length parts
    → (x.0, at ts x.1) ≡ get_or (pairs_at ts parts) i (x.0, at ts x.1)
pairs-get ts [] i x e h = absurd (omega (arith, h))
pairs-get ts (y ∷ ys) zero x e h = ap (λ z. (z.0, at ts z.1)) e
pairs-get ts (y ∷ ys) (suc i) x e h = pairs-get ts ys i x e (omega (arith, h))

-- branches of another number than the sum's labels do not pass
pub branches-differ : (s : Scope) (xs : TermPairs) (parts : Parts) (ys : TermPairs) (target : ℕ) → xs ≡ ys → (length xs ≡ length parts → ⊥)
    → FindsBranches s s (term_row ys) (row_at s.types parts) (at s.types target) false
branches-differ s xs parts ys wanted e d =
    record {
      grows = grows-itself s;
      value =
          branches-length s.kinds (types_of s) (at s.types wanted) xs (pairs_at s.types parts) (λ p. d (p ∙ pairs-length s.types parts)) ∙
          ap₂ (λ p q. synth_branches s.kinds (types_of s) (term_row p) q (at s.types wanted)) e (row-pairs s.types parts);
      held = (λ p. no p);
    }

module _ (old now : Scope) (xs : TermPairs) (parts : Parts) (target i : ℕ) (f : BranchesSoFar old now xs parts target i) where
  abbrev W : Truth
  W = synth_branches old.kinds (types_of old) (term_row xs) (row (pairs_at old.types parts)) (at old.types target)

  fails : (new : Scope) (ys : TermPairs) → xs ≡ ys → Grows old new → false ≡ W
      → FindsBranches old new (term_row ys) (row_at old.types parts) (at old.types target) false
  fails new ys e g h =
      record {
        grows = g;
        value = h ∙ ap₂ (λ p q. synth_branches old.kinds (types_of old) (term_row p) q (at old.types target)) e (row-pairs old.types parts);
        held = (λ p. no p);
      }

  -- when all branches have passed, they pass together
  pub branches-done : (ys : TermPairs) → xs ≡ ys → length xs ≡ length parts → length parts ≤ i
      → FindsBranches old now (term_row ys) (row_at old.types parts) (at old.types target) true
  branches-done ys e l h =
      let q = pairs-length old.types parts in
      let none : drop i xs ≡ [] = drop_all i xs (subst (λ m. m ≤ i) (sym l) h) in
      record {
        grows = f.grows;
        value =
            all-pass old.kinds (types_of old) (at old.types target) i xs (pairs_at old.types parts) W (l ∙ sym q) (subst (λ m. m ≤ i) (sym q) h) f.value ∙
            ap₂ (λ p q. synth_branches old.kinds (types_of old) (term_row p) q (at old.types target)) e (row-pairs old.types parts);
        held =
            (λ p. subst (λ zs. HeldBranches now.types old.kinds (types_of old) (term_row zs) (row_at old.types parts)) e
            (subst (HeldBranches now.types old.kinds (types_of old) (term_row xs)) (row-pairs old.types parts)
            (f.held now.types (begins-itself now.types)
            (subst (λ zs. HeldBranches now.types old.kinds (types_of old) (term_row zs) (row (drop i (pairs_at old.types parts)))) (sym none) tt))));
      }

  module _ (x : Label × Term) (y : Label × ℕ) (w : i < length xs) (v : i < length parts) (at-x : x ≡ get_or xs i x) (at-y : y ≡ get_or parts i y) where
    abbrev T : Ty
    T = at old.types y.1

    long : i < length (pairs_at old.types parts)
    long = subst (λ m. i < m) (sym (pairs-length old.types parts)) v

    at-pair : (y.0, T) ≡ get_or (pairs_at old.types parts) i (y.0, T)
    at-pair = pairs-get old.types parts i y at-y v

    -- branches of which the next has another label than the sum do not pass
    pub branch-label : (ys : TermPairs) → xs ≡ ys → (x.0 ≡ y.0 → ⊥) → FindsBranches old now (term_row ys) (row_at old.types parts) (at old.types target) false
    branch-label ys e d =
        fails now ys e f.grows (label-differs old.kinds (types_of old) (at old.types target) i xs (pairs_at old.types parts) x
        (y.0, T) W w long at-x at-pair f.value d)

    module _ (new : Scope) (o : Option ℕ) (below : y.1 < length old.types) (goal : target < length old.types)
        (s : Synthesises now new now.kinds (at now.types y.1 ∷ types_of now) x.1 o) where
      body-is : synth_in now.kinds (at now.types y.1 ∷ types_of now) x.1 ≡ synth_in old.kinds (T ∷ types_of old) x.1
      body-is =
          ap₂ (λ k v. synth_in k v x.1) f.grows.same_kinds (ap₂ (λ t v. t ∷ v) (begins-at old.types now.types y.1 f.grows.begins below) f.grows.same_types)

      grown : Grows old new
      grown = grows-then f.grows s.grows

      pass-is : (b : Truth) → b ≡ is_found (at new.types target) (type_at new.types o) → b ≡ passes old.kinds (types_of old) (at old.types target) x (y.0, T)
      pass-is b h = h ∙ ap₂ is_found (begins-at old.types new.types target grown.begins goal) (at-number s ∙ body-is)

      -- branches of which the next has another type than the result do not pass
      pub branch-other : (ys : TermPairs) → xs ≡ ys → false ≡ is_found (at new.types target) (type_at new.types o)
          → FindsBranches old new (term_row ys) (row_at old.types parts) (at old.types target) false
      branch-other ys e h =
          fails new ys e grown (branch-fails old.kinds (types_of old) (at old.types target) i xs (pairs_at old.types parts) x
          (y.0, T) W w long at-x at-pair f.value (pass-is false h))

      -- one more branch has the next label and the type
      pub branch-step : x.0 ≡ y.0 → true ≡ is_found (at new.types target) (type_at new.types o) → BranchesSoFar old new xs parts target (i + 1)
      branch-step l h =
          let p = pass-is true h in
          let found = is_found-yes (at old.types target) (synth_in old.kinds (T ∷ types_of old) x.1) (sym p) in
          record {
            grows = grown;
            value = branch-passes old.kinds (types_of old) (at old.types target) i xs (pairs_at old.types parts) x (y.0, T) W w long at-x at-pair f.value l p;
            held = (λ ts b h. f.held ts (begins-then now.types new.types ts s.grows.begins b)
                (subst (HeldBranches ts old.kinds (types_of old) (term_row (drop i xs))) (sym (parts-more i (pairs_at old.types parts) (y.0, T) long at-pair))
                (subst (λ r. HeldBranches ts old.kinds (types_of old) r (Row.More y.0 T (row (drop (i + 1) (pairs_at old.types parts)))))
                (sym (left-more i xs x w at-x))
                (held-more new.types ts b old.kinds (T ∷ types_of old) x.1 (here (held-some (at old.types target) s (body-is ∙ found))), h))));
          }
        where
          here : Held new.types now.kinds (at now.types y.1 ∷ types_of now) x.1 → Held new.types old.kinds (T ∷ types_of old) x.1
          here h =
              subst (λ k. Held new.types k (T ∷ types_of old) x.1) f.grows.same_kinds
              (subst (λ v. Held new.types now.kinds v x.1) (ap₂ (λ t v. t ∷ v) (begins-at old.types now.types y.1 f.grows.begins below) f.grows.same_types) h)
