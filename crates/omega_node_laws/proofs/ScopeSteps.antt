-- What stays as a scope grows, and what a binder takes is what it gave.
-- Main results: number-in, at-more, grows-then, wrapped, var-at.
use Rattle.std.proofs.Common.{◌≡◌, ℕ, zero, suc, ◌+◌, ◌-◌, ◌<◌, ◌≤◌, List, [], ◌∷◌, ◌++◌, Option, Some, None, All, length, map, reverse, take, slice_get}
use Rattle.std.proofs.Common.{get_or, IsTrue, ◌↔◌, Bool as Truth, refl, sym, ap, ap₂, ◌∙◌, subst, arith, true, if◌then◌else◌, false}
use Rattle.std.proofs.lemmas.List.{reverse-append, map-append, length-append, length-map, length-reverse, get_or-map, get_or-reverse}
use Rattle.std.proofs.lemmas.Option.{slice_get_past}
use Rattle.std.proofs.Math.Seq.{take-append_seam}
use Rattle.omega_kinds.specs.Kind.{Kind}
use Rattle.omega_types.specs.Index.{shift}
use Rattle.omega_types.specs.Normaliser.{hsubst}
use Rattle.omega_types.specs.Ty.{Ty}
use Rattle.omega_types.proofs.Single.{shift-zero, shift-shift}
use Rattle.omega_terms.specs.Typing.{shift_all}
use Rattle.type_store.specs.Numbers.{NumberOf}
use Rattle.type_store.specs.Trees.{Begins, Holds, at}
use Rattle.type_store.proofs.TreeLaws.{begins-itself, begins-then, begins-length, begins-at}
use Rattle.omega_node_laws.specs.Scope.{Scope, AreBound, type_under, types_of, IsIn, type_at, Grows, IsWithVar, IsWithoutVar, IsWithType, IsWithoutType, Makes}
use Rattle.omega_node_laws.specs.Scope.{Finds}
use Rattle.omega_node_laws.specs.Found.{if_same}
use Rattle.omega_node_laws.specs.SameTy.{same_ty}
use Rattle.omega_node_laws.proofs.ForCode.{raised-vars}
use Rattle.omega_node_laws.proofs.Inverted.{none-some}
use Rattle.omega_node_laws.proofs.Trees.{test-is}

-- ---- numbers that may be missing

-- the number of a type is one of the list
pub number-in : (ts : List Ty) (o : Option ℕ) (t : Option Ty) → NumberOf ts o t → IsIn ts o
number-in ts None None h = tt
number-in ts None (Some t) h = tt
number-in ts (Some n) None h = absurd h
number-in ts (Some n) (Some t) h = h.within

-- the type at its number is the type
pub number-at : (ts : List Ty) (o : Option ℕ) (t : Option Ty) → NumberOf ts o t → type_at ts o ≡ t
number-at ts None None h = refl
number-at ts None (Some t) h = absurd h
number-at ts (Some n) None h = absurd h
number-at ts (Some n) (Some t) h = ap Some h.value

-- a number in a list is one in a longer list
pub in-more : (ts us : List Ty) (o : Option ℕ) → Begins ts us → IsIn ts o → IsIn us o
in-more ts us None b h = tt
in-more ts us (Some n) b h = omega (arith, begins-length ts us b)

-- the type at a number stays the same in a longer list
pub at-more : (ts us : List Ty) (o : Option ℕ) → Begins ts us → IsIn ts o → type_at us o ≡ type_at ts o
at-more ts us None b h = refl
at-more ts us (Some n) b h = ap Some (begins-at ts us n b h)

-- where there is a type, it has a number
pub number-some : (ts : List Ty) (o : Option ℕ) (t : Option Ty) (u : Ty) → NumberOf ts o t → t ≡ Some u → (n : ℕ) × (o ≡ Some n)
number-some ts None None u h e = none-some e
number-some ts None (Some t) u h e = absurd h
number-some ts (Some n) t u h e = (n, refl)

-- where there is a number, there is the type at it
pub type-some : (ts : List Ty) (o : Option ℕ) (t : Option Ty) (n : ℕ) → NumberOf ts o t → o ≡ Some n → t ≡ Some (at ts n)
type-some ts o t n h e = sym (number-at ts o t h) ∙ ap (type_at ts) e

-- ---- the types of the variables, as the list of types grows

under-more : (ts us : List Ty) (d : ℕ) (xs : List (ℕ × ℕ)) → Begins ts us → All (λ x. x.0 < length ts) xs → map (type_under us d) xs ≡ map (type_under ts d) xs
under-more ts us d [] b h = refl
under-more ts us d (x ∷ xs) b h =
    ap₂ (λ t rest. t ∷ rest) (ap (shift (d - x.1) 0) (begins-at ts us x.0 b (h zero x (omega arith))))
    (under-more ts us d xs b (λ k y l. h (suc k) y (omega (arith, l))))

same-scope : (s r : Scope) → s.depth ≡ r.depth → s.vars ≡ r.vars → s.types ≡ r.types → types_of s ≡ types_of r
unfolding types_of
same-scope s r d v t = λ i. reverse (map (type_under (t i) (d i)) (v i))

more-types : (s : Scope) (us : List Ty) → Begins s.types us → All (λ x. x.0 < length s.types) s.vars
    → types_of (record { types = us; kinds = s.kinds; depth = s.depth; vars = s.vars }) ≡ types_of s
unfolding types_of
more-types s us b h = ap reverse (under-more s.types us s.depth s.vars b h)

-- more types, and the same variables
pub grows-of : {old new : Scope} → Begins old.types new.types → All (λ x. x.0 < length old.types) old.vars → new.kinds ≡ old.kinds → new.depth ≡ old.depth
    → new.vars ≡ old.vars → Grows old new
grows-of {old} {new} b h k d v =
    record {
      begins = b;
      same_types = same-scope new (record { types = new.types; kinds = old.kinds; depth = old.depth; vars = old.vars }) d v refl ∙ more-types old new.types b h;
      same_kinds = k;
      same_depth = d;
      same_vars = v;
    }

-- a scope has grown from itself
pub grows-itself : (s : Scope) → Grows s s
grows-itself s = record { begins = begins-itself s.types; same_types = refl; same_kinds = refl; same_depth = refl; same_vars = refl }

-- what has grown from a scope that has grown has grown
pub grows-then : {a b c : Scope} → Grows a b → Grows b c → Grows a c
grows-then {a} {b} {c} g h =
    record {
      begins = begins-then a.types b.types c.types g.begins h.begins;
      same_types = h.same_types ∙ g.same_types;
      same_kinds = h.same_kinds ∙ g.same_kinds;
      same_depth = h.same_depth ∙ g.same_depth;
      same_vars = h.same_vars ∙ g.same_vars;
    }

-- ---- a binder

under-none : (ts : List Ty) (d n : ℕ) → type_under ts d (n, d) ≡ at ts n
under-none ts d n = ap (λ m. shift m 0 (at ts n)) (none d) ∙ shift-zero 0 (at ts n)
  where
    none : (m : ℕ) → m - m ≡ 0
    none m = omega arith

types-var : (s : Scope) (n : ℕ)
    → types_of (record { types = s.types; kinds = s.kinds; depth = s.depth; vars = s.vars ++ (n, s.depth) ∷ [] }) ≡ at s.types n ∷ types_of s
unfolding types_of
types-var s n =
    ap reverse (map-append (type_under s.types s.depth) s.vars ((n, s.depth) ∷ [])) ∙
    (reverse-append (map (type_under s.types s.depth) s.vars) (type_under s.types s.depth (n, s.depth) ∷ []) ∙
    ap (λ u. u ∷ reverse (map (type_under s.types s.depth) s.vars)) (under-none s.types s.depth n))

-- one more term variable stands before the types of the others
pub with-var-types : {old new : Scope} {n : ℕ} → IsWithVar old new n → types_of new ≡ at old.types n ∷ types_of old
with-var-types {old} {new} {n} w =
    let whole : Scope = record { types = old.types; kinds = old.kinds; depth = old.depth; vars = old.vars ++ (n, old.depth) ∷ [] } in
    same-scope new whole w.same_depth w.more_vars w.same_types ∙ types-var old n

last-off : {A : Type 0} (xs : List A) (x : A) → take (length (xs ++ x ∷ []) - 1) (xs ++ x ∷ []) ≡ xs
last-off xs x = ap (λ n. take n (xs ++ x ∷ [])) (less (length xs) (length (xs ++ x ∷ [])) (length-append xs (x ∷ []))) ∙ take-append_seam xs (x ∷ [])
  where
    less : (m n : ℕ) → n ≡ m + 1 → n - 1 ≡ m
    less m n e = omega arith

-- a variable came, types were found, and the variable went
pub var-back : {a b c d : Scope} {n : ℕ} → IsWithVar a b n → Grows b c → IsWithoutVar c d → Grows a d
var-back {a} {b} {c} {d} {n} w g o =
    grows-of {old = a} {new = d} (subst (Begins a.types) (sym o.same_types) (subst (λ ts. Begins ts c.types) w.same_types g.begins)) w.bound.numbers
    (o.same_kinds ∙ (g.same_kinds ∙ w.same_kinds)) (o.same_depth ∙ (g.same_depth ∙ w.same_depth))
    (o.less_vars ∙ (ap (λ xs. take (length xs - 1) xs) (g.same_vars ∙ w.more_vars) ∙ last-off a.vars (n, a.depth)))

under-one : (ts : List Ty) (d : ℕ) (x : ℕ × ℕ) → x.1 ≤ d → type_under ts (d + 1) x ≡ shift 1 0 (type_under ts d x)
under-one ts d x h = sym (shift-shift 1 (d - x.1) 0 (at ts x.0) ∙ ap (λ n. shift n 0 (at ts x.0)) (more d x.1 h))
  where
    more : (m n : ℕ) → n ≤ m → 1 + (m - n) ≡ m + 1 - n
    more m n h = omega (arith, h)

map-under : (ts : List Ty) (d : ℕ) (xs : List (ℕ × ℕ)) → All (λ x. x.1 ≤ d) xs → map (type_under ts (d + 1)) xs ≡ map (shift 1 0) (map (type_under ts d) xs)
map-under ts d [] h = refl
map-under ts d (x ∷ xs) h = ap₂ (λ t rest. t ∷ rest) (under-one ts d x (h zero x (omega arith))) (map-under ts d xs (λ k y l. h (suc k) y (omega (arith, l))))

types-type : (s : Scope) (ks : List Kind) → All (λ x. x.1 ≤ s.depth) s.vars
    → types_of (record { types = s.types; kinds = ks; depth = s.depth + 1; vars = s.vars }) ≡ shift_all (types_of s)
unfolding types_of
types-type s ks h = ap reverse (map-under s.types s.depth s.vars h) ∙ raised-vars (map (type_under s.types s.depth) s.vars)

-- one more type variable shifts the types of the term variables
pub with-type-types : {old new : Scope} {k : Kind} → IsWithType old new k → types_of new ≡ shift_all (types_of old)
with-type-types {old} {new} {k} w =
    let whole : Scope = record { types = old.types; kinds = new.kinds; depth = old.depth + 1; vars = old.vars } in
    same-scope new whole w.more_depth w.same_vars w.same_types ∙ types-type old new.kinds w.bound.depths

-- a type variable came, types were found, and the variable went
pub type-back : {a b c d : Scope} {k : Kind} → IsWithType a b k → Grows b c → IsWithoutType c d → Grows a d
type-back {a} {b} {c} {d} {k} w g o =
    grows-of {old = a} {new = d} (subst (Begins a.types) (sym o.same_types) (subst (λ ts. Begins ts c.types) w.same_types g.begins)) w.bound.numbers
    (o.less_kinds k a.kinds (g.same_kinds ∙ w.more_kinds))
    (o.less_depth ∙ (ap (λ n. n - 1) (g.same_depth ∙ w.more_depth) ∙ back a.depth)) (o.same_vars ∙ (g.same_vars ∙ w.same_vars))
  where
    back : (n : ℕ) → n + 1 - 1 ≡ n
    back n = omega arith

-- ---- for the code, whose scope is seen as `s`

-- a type made in the list of a scope is made in the scope
pub wrapped : {s : Scope} (f : List Ty → Ty) (ts us : List Ty) (ks : List Kind) (d : ℕ) (xs : List (ℕ × ℕ)) (n : ℕ)
    → record { types = ts; kinds = ks; depth = d; vars = xs } ≡ s → AreBound (length ts) d xs → Begins ts us → Holds us n (f ts)
    → Makes s (record { types = us; kinds = ks; depth = d; vars = xs }) n (f s.types)
wrapped f ts us ks d xs n e h b k =
    let old : Scope = record { types = ts; kinds = ks; depth = d; vars = xs } in
    let new : Scope = record { types = us; kinds = ks; depth = d; vars = xs } in
    let grown : Grows old new = grows-of {old = old} {new = new} b h.numbers refl refl refl in
    subst (λ s. Makes s new n (f s.types)) e (record { grows = grown; holds = k })

-- a type found in the list of a scope is found in the scope
pub wrapped-find : {s : Scope} (f : Scope → Option Ty) (ts us : List Ty) (ks : List Kind) (d : ℕ) (xs : List (ℕ × ℕ)) (o : Option ℕ)
    → record { types = ts; kinds = ks; depth = d; vars = xs } ≡ s → AreBound (length ts) d xs → Begins ts us
    → NumberOf us o (f (record { types = ts; kinds = ks; depth = d; vars = xs })) → Finds s (record { types = us; kinds = ks; depth = d; vars = xs }) o (f s)
wrapped-find f ts us ks d xs o e h b k =
    let old : Scope = record { types = ts; kinds = ks; depth = d; vars = xs } in
    let new : Scope = record { types = us; kinds = ks; depth = d; vars = xs } in
    let grown : Grows old new = grows-of {old = old} {new = new} b h.numbers refl refl refl in
    subst (λ s. Finds s new o (f s)) e (record { grows = grown; is_number = k })

-- where there is no type, none is found, and the scope stays
pub found-none : {s : Scope} (t : Option Ty) → t ≡ None → Finds s s None t
found-none {s} None e = record { grows = grows-itself s; is_number = tt }
found-none {s} (Some t) e = none-some (sym e)

tree-of : (b : Truth) (s t : Ty) → (IsTrue b ↔ s ≡ t) → b ≡ same_ty t s
tree-of b s t h = test-is b t s (λ p. sym (h.0 p), λ p. h.1 (sym p))

-- the test of the list for a type is the test for sameness
pub tree-test : {s : Scope} (ts : List Ty) (ks : List Kind) (d : ℕ) (xs : List (ℕ × ℕ)) (n : ℕ) (t : Ty) (b : Truth)
    → record { types = ts; kinds = ks; depth = d; vars = xs } ≡ s → (IsTrue b ↔ at ts n ≡ t) → b ≡ same_ty t (at s.types n)
tree-test ts ks d xs n t b e h = subst (λ s. b ≡ same_ty t (at s.types n)) e (tree-of b (at ts n) t h)

-- the test of the list for two numbers is the test for sameness of their types
pub same-test : {s : Scope} (ts : List Ty) (ks : List Kind) (d : ℕ) (xs : List (ℕ × ℕ)) (m n : ℕ) (b : Truth)
    → record { types = ts; kinds = ks; depth = d; vars = xs } ≡ s → (IsTrue b ↔ at ts m ≡ at ts n) → b ≡ same_ty (at s.types m) (at s.types n)
same-test ts ks d xs m n b e h = subst (λ s. b ≡ same_ty (at s.types m) (at s.types n)) e (test-is b (at ts m) (at ts n) h)

-- the test of the list for a type put in is the test for sameness
pub filled-test : {s : Scope} (ts : List Ty) (ks : List Kind) (d : ℕ) (xs : List (ℕ × ℕ)) (inner hidden whole : ℕ) (b : Truth)
    → record { types = ts; kinds = ks; depth = d; vars = xs } ≡ s
    → (IsTrue b ↔ hsubst Kind.Star 0 (at ts hidden) (at ts inner) ≡ at ts whole)
    → b ≡ same_ty (hsubst Kind.Star 0 (at s.types hidden) (at s.types inner)) (at s.types whole)
filled-test ts ks d xs inner hidden whole b e h =
    subst (λ s. b ≡ same_ty (hsubst Kind.Star 0 (at s.types hidden) (at s.types inner)) (at s.types whole)) e
    (test-is b (hsubst Kind.Star 0 (at ts hidden) (at ts inner)) (at ts whole) h)

-- the test of the numbers is the one of the types that were put
packed-test : {a b c : Scope} (k : Kind) (h i body : ℕ) (hidden inner : Ty) (t : Truth) → k ≡ Kind.Star → body < length a.types → Makes a b h hidden
    → Makes b c i inner
    → t ≡ same_ty (hsubst Kind.Star 0 (at c.types h) (at c.types i)) (at c.types body) → same_ty (hsubst k 0 hidden inner) (at a.types body) ≡ t
packed-test {a} {b} {c} k h i body hidden inner t star w m l test =
    let x : hidden ≡ at c.types h = sym (begins-at b.types c.types h l.grows.begins m.holds.within ∙ m.holds.value) in
    let y : inner ≡ at c.types i = sym l.holds.value in
    let z : at a.types body ≡ at c.types body = sym (begins-at a.types c.types body (begins-then a.types b.types c.types m.grows.begins l.grows.begins) w) in
    (λ o. same_ty (hsubst (star o) 0 (x o) (y o)) (z o)) ∙ sym test

-- a package whose body is what stands below the binder, with the hidden type put in
pub packed-finds : {a b c d : Scope} (j k : Kind) (h i n body : ℕ) (hidden inner : Ty) (t : Truth) → k ≡ Kind.Star → j ≡ k → body < length a.types
    → Makes a b h hidden → Makes b c i inner
    → t ≡ same_ty (hsubst Kind.Star 0 (at c.types h) (at c.types i)) (at c.types body) → t ≡ true → Makes c d n (Ty.Ex j (at c.types i))
    → Finds a d (Some n) (if_same (Ty.Ex k inner) (Some (hsubst k 0 hidden inner)) (Some (at a.types body)))
packed-finds {a} {b} {c} {d} j k h i n body hidden inner t star same w m l test holds made = record {
  grows = grows-then (grows-then m.grows l.grows) made.grows;
  is_number =
      subst (λ p. NumberOf d.types (Some n) (if p then Some (Ty.Ex k inner) else None)) (sym (packed-test k h i body hidden inner t star w m l test ∙ holds))
      (record { within = made.holds.within; value = made.holds.value ∙ (λ o. Ty.Ex (same o) (l.holds.value o)) });
}

-- and one whose body is not
pub packed-none : {a b c : Scope} (k : Kind) (h i body : ℕ) (hidden inner : Ty) (t : Truth) → k ≡ Kind.Star → body < length a.types → Makes a b h hidden
    → Makes b c i inner
    → t ≡ same_ty (hsubst Kind.Star 0 (at c.types h) (at c.types i)) (at c.types body) → t ≡ false
    → Finds a c None (if_same (Ty.Ex k inner) (Some (hsubst k 0 hidden inner)) (Some (at a.types body)))
packed-none {a} {b} {c} k h i body hidden inner t star w m l test fails = record {
  grows = grows-then m.grows l.grows;
  is_number =
      subst (λ p. NumberOf c.types None (if p then Some (Ty.Ex k inner) else None)) (sym (packed-test k h i body hidden inner t star w m l test ∙ fails)) tt;
}

-- ---- a variable that is used

place : {A : Type 0} (xs : List A) (i : ℕ) (x : A) → i < length xs → x ≡ get_or xs i x → Some x ≡ slice_get xs i
place [] i x h e = absurd (omega (arith, h))
place (y ∷ xs) zero x h e = ap Some e
place (y ∷ xs) (suc i) x h e = place xs i x (omega (arith, h)) e

-- a term variable has the type that the scope notes, seen past the type variables since
pub var-at : (s : Scope) (i : ℕ) (x : ℕ × ℕ) → i < length s.vars → x ≡ get_or s.vars (length s.vars - 1 - i) x
    → Some (type_under s.types s.depth x) ≡ slice_get (types_of s) i
unfolding types_of
var-at s i x h at-x =
    let g = type_under s.types s.depth in
    let t = g x in
    let ts = map g s.vars in
    let n = length-map s.vars g in
    let inside : i < length ts = subst (λ m. i < m) (sym n) h in
    let q =
    get_or-reverse ts i t inside ∙ (ap (λ m. get_or ts (m - 1 - i) t) n ∙
    (get_or-map g s.vars (length s.vars - 1 - i) x t (omega (arith, h)) ∙ ap g (sym at-x))) in
    place (reverse ts) i t (subst (λ m. i < m) (sym (length-reverse ts)) inside) (sym q)

-- an index past the variables of a scope has no type
pub no-var : (s : Scope) (i : ℕ) → length s.vars ≤ i → slice_get (types_of s) i ≡ None
unfolding types_of
no-var s i h =
    let ts = map (type_under s.types s.depth) s.vars in
    slice_get_past (reverse ts) i (subst (λ m. m ≤ i) (sym (length-reverse ts ∙ length-map s.vars (type_under s.types s.depth))) h)
