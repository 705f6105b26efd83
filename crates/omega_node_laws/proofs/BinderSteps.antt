-- The type of each form of term that binds or has several parts, from the types of its parts.
-- Main results: lam-done, ty_lam-done, pack-done, unpack-done, call-let, call-applied.
use Rattle.std.proofs.Common.{◌≡◌, ℕ, ◌<◌, List, ◌∷◌, Option, Some, None, Bool as Truth, true, false, if◌then◌else◌, length, refl, sym, ap, ap₂, ◌∙◌, subst}
use Rattle.std.proofs.lemmas.Option.{same_Some}
use Rattle.std.specs.Option.{option_map}
use Rattle.omega_kinds.specs.Kind.{Kind}
use Rattle.omega_kinds.specs.View.{kind_tree}
use Rattle.omega_kinds.specs.declared.kind.Kind.{Kind as SharedKind}
use Rattle.omega_types.specs.Ty.{Ty}
use Rattle.omega_terms.specs.declared.op.Op.{Op}
use Rattle.omega_terms.specs.Term.{Term}
use Rattle.omega_terms.specs.Typing.{shift_all}
use Rattle.type_store.specs.Numbers.{NumberOf}
use Rattle.type_store.specs.Trees.{at}
use Rattle.type_store.proofs.TreeLaws.{begins-at}
use Rattle.omega_node_laws.specs.Found.{and_then, normal_at, call_type, let_type, pack_type, lowered, of_package, if_type, op_type, synth_in, target_type}
use Rattle.omega_node_laws.specs.Held.{Has, IsParameter, Held}
use Rattle.omega_node_laws.specs.SameTy.{same_ty}
use Rattle.omega_node_laws.specs.Scope.{Scope, types_of, type_at, Grows, IsWithVar, IsWithoutVar, IsWithType, IsWithoutType, Finds, Synthesises, FindsFunction}
use Rattle.omega_node_laws.specs.Scope.{FindsLet, FindsCall, IsPackage, parameter_type}
use Rattle.omega_node_laws.proofs.HeldMore.{held-more}
use Rattle.omega_node_laws.proofs.Inverted.{none-some, map-yes, call-yes, pack-yes, lowered-yes, if_type-yes, op-yes}
use Rattle.omega_node_laws.proofs.ScopeSteps.{number-in, number-at, number-some, type-some, at-more, grows-itself, grows-then, var-back, type-back}
use Rattle.omega_node_laws.proofs.ScopeSteps.{with-var-types, with-type-types}
use Rattle.omega_node_laws.proofs.SynthSteps.{moved, at-number, held-some, with-parts, has-number}
use Rattle.omega_node_laws.proofs.Trees.{same_ty-self, same_ty-yes}

-- a number that is missing is that of no type
pub no-number : (ts : List Ty) (o : Option ℕ) (t : Option Ty) → ((n : ℕ) → o ≡ Some n → ⊥) → NumberOf ts o t → t ≡ None
no-number ts None None f h = refl
no-number ts None (Some t) f h = absurd h
no-number ts (Some n) t f h = absurd (f n refl)

-- no number stands for no type
pub none-number : (ts : List Ty) (t : Option Ty) → t ≡ None → NumberOf ts None t
none-number ts None e = tt
none-number ts (Some t) e = none-some (sym e)

-- a term whose type is not found has none, and nothing is held of it
pub nothing : {z c : Scope} {ks : List Kind} {vs : List Ty} {e : Term} → Grows z c → synth_in ks vs e ≡ None → Synthesises z c ks vs e None
nothing {z} {c} {ks} {vs} {e} g h = record {
  grows = g;
  is_number = none-number c.types (synth_in ks vs e) h;
  held = (λ n p. none-some p);
}

-- ---- under a variable

-- a term below one more term variable, whose scope is left again, is synthesised in the context with it
pub bound-done : {a b c d : Scope} {n : ℕ} {e : Term} {o : Option ℕ} → IsWithVar a b n → Synthesises b c b.kinds (types_of b) e o → IsWithoutVar c d
    → Synthesises a d a.kinds (at a.types n ∷ types_of a) e o
bound-done {a} {b} {c} {d} {n} {e} {o} w s r =
    let vs = with-var-types w in
    let ts = sym r.same_types in
    record {
      grows = var-back w s.grows r;
      is_number =
          subst (λ us. NumberOf us o (synth_in a.kinds (at a.types n ∷ types_of a) e)) ts
          (subst (NumberOf c.types o) (ap₂ (λ k v. synth_in k v e) w.same_kinds vs) s.is_number);
      held =
          (λ m p. subst (λ us. Held us a.kinds (at a.types n ∷ types_of a) e) ts
          (subst (λ k. Held c.types k (at a.types n ∷ types_of a) e) w.same_kinds (subst (λ v. Held c.types b.kinds v e) vs (s.held m p))));
    }

-- a term below one more type variable, whose scope is left again, is synthesised in the context with it
pub under-type-done : {a b c d : Scope} {k : Kind} {e : Term} {o : Option ℕ} → IsWithType a b k → Synthesises b c b.kinds (types_of b) e o → IsWithoutType c d
    → Synthesises a d (k ∷ a.kinds) (shift_all (types_of a)) e o
under-type-done {a} {b} {c} {d} {k} {e} {o} w s r =
    let vs = with-type-types w in
    let ts = sym r.same_types in
    record {
      grows = type-back w s.grows r;
      is_number =
          subst (λ us. NumberOf us o (synth_in (k ∷ a.kinds) (shift_all (types_of a)) e)) ts
          (subst (NumberOf c.types o) (ap₂ (λ k v. synth_in k v e) w.more_kinds vs) s.is_number);
      held =
          (λ m p. subst (λ us. Held us (k ∷ a.kinds) (shift_all (types_of a)) e) ts
          (subst (λ k. Held c.types k (shift_all (types_of a)) e) w.more_kinds (subst (λ v. Held c.types b.kinds v e) vs (s.held m p))));
    }

-- an opened package binds a type and a term
pub opened-done : {a b c d : Scope} {k : Kind} (n : ℕ) {e : Term} {o : Option ℕ} → IsWithType a b k → Synthesises b c b.kinds (at b.types n ∷ types_of b) e o
    → IsWithoutType c d → Synthesises a d (k ∷ a.kinds) (at a.types n ∷ shift_all (types_of a)) e o
opened-done {a} {b} {c} {d} {k} n {e} {o} w s r =
    let vs = ap₂ (λ us v. at us n ∷ v) w.same_types (with-type-types w) in
    let ts = sym r.same_types in
    record {
      grows = type-back w s.grows r;
      is_number =
          subst (λ us. NumberOf us o (synth_in (k ∷ a.kinds) (at a.types n ∷ shift_all (types_of a)) e)) ts
          (subst (NumberOf c.types o) (ap₂ (λ k v. synth_in k v e) w.more_kinds vs) s.is_number);
      held =
          (λ m p. subst (λ us. Held us (k ∷ a.kinds) (at a.types n ∷ shift_all (types_of a)) e) ts
          (subst (λ k. Held c.types k (at a.types n ∷ shift_all (types_of a)) e) w.more_kinds (subst (λ v. Held c.types b.kinds v e) vs (s.held m p))));
    }

-- a function that calls itself binds itself and its argument
pub recursive-done : {a b c d : Scope} {w : ℕ} (n : ℕ) {e : Term} {o : Option ℕ} → IsWithVar a b w → Synthesises b c b.kinds (at b.types n ∷ types_of b) e o
    → IsWithoutVar c d → Synthesises a d a.kinds (at a.types n ∷ (at a.types w ∷ types_of a)) e o
recursive-done {a} {b} {c} {d} {w} n {e} {o} i s r =
    let vs = ap₂ (λ us v. at us n ∷ v) i.same_types (with-var-types i) in
    let ts = sym r.same_types in
    let all = at a.types n ∷ (at a.types w ∷ types_of a) in
    record {
      grows = var-back i s.grows r;
      is_number =
          subst (λ us. NumberOf us o (synth_in a.kinds all e)) ts (subst (NumberOf c.types o) (ap₂ (λ k v. synth_in k v e) i.same_kinds vs) s.is_number);
      held =
          (λ m p. subst (λ us. Held us a.kinds all e) ts
          (subst (λ k. Held c.types k all e) i.same_kinds (subst (λ v. Held c.types b.kinds v e) vs (s.held m p))));
    }

-- ---- functions

-- the type of a function, from that of its body at the type of its argument
pub function-done : {a b c : Scope} {f : ℕ} {e : Term} {o p : Option ℕ} → f < length a.types → Synthesises a b a.kinds (at a.types f ∷ types_of a) e o
    → Finds b c p (option_map (Ty.Arrow (at b.types f)) (type_at b.types o)) → FindsFunction a c f e p
function-done {a} {b} {c} {f} {e} {o} {p} l s h =
    let t = synth_in a.kinds (at a.types f ∷ types_of a) e in
    let n = subst (NumberOf c.types p) (ap₂ (λ u q. option_map (Ty.Arrow u) q) (begins-at a.types b.types f s.grows.begins l) (at-number s)) h.is_number in
    record {
      grows = grows-then s.grows h.grows;
      is_number = n;
      held = (λ m q. held-more b.types c.types h.grows.begins a.kinds (at a.types f ∷ types_of a) e
          (let r = map-yes (Ty.Arrow (at a.types f)) t (at c.types m) (type-some c.types p (option_map (Ty.Arrow (at a.types f)) t) m n q) in
          held-some r.0 s r.1));
    }

-- the type of a function term, where the type of its argument is normal
pub lam-done : {z a c : Scope} {t : Ty} {e : Term} {f : ℕ} {o p : Option ℕ} → Finds z a o (normal_at z.kinds t Kind.Star) → o ≡ Some f → FindsFunction a c f e p
    → Synthesises z c z.kinds (types_of z) (Term.Lam t e) p
lam-done {z} {a} {c} {t} {e} {f} {o} {p} h i s =
    let ks = h.grows.same_kinds in
    let vs = h.grows.same_types in
    let n = type-some a.types o (normal_at z.kinds t Kind.Star) f h.is_number i in
    let F = λ (q : Option Ty). and_then q (λ m. option_map (Ty.Arrow m) (synth_in z.kinds (m ∷ types_of z) e)) in
    let number =
    subst (NumberOf c.types p) (ap₂ (λ k v. option_map (Ty.Arrow (at a.types f)) (synth_in k (at a.types f ∷ v) e)) ks vs ∙ sym (ap F n)) s.is_number in
    record {
      grows = grows-then h.grows s.grows;
      is_number = number;
      held = (λ m q. (
        has-number c.types p (synth_in z.kinds (types_of z) (Term.Lam t e)) m number q,
        (
          at a.types f,
          n,
          subst (λ k. Held c.types k (at a.types f ∷ types_of z) e) ks (subst (λ v. Held c.types a.kinds (at a.types f ∷ v) e) vs (s.held m q)),
        ),
      ));
    }

-- ---- a function from types

-- the type of a type function, from that of its body
pub ty_lam-done : {z y c : Scope} {k : Kind} {e : Term} {o p : Option ℕ} → Synthesises z y (k ∷ z.kinds) (shift_all (types_of z)) e o
    → Finds y c p (option_map (Ty.All k) (type_at y.types o)) → Synthesises z c z.kinds (types_of z) (Term.TyLam k e) p
ty_lam-done {z} {y} {c} {k} {e} {o} {p} s h =
    let t = synth_in (k ∷ z.kinds) (shift_all (types_of z)) e in
    let n = subst (NumberOf c.types p) (ap (option_map (Ty.All k)) (at-number s)) h.is_number in
    record {
      grows = grows-then s.grows h.grows;
      is_number = n;
      held =
          with-parts _ n (λ u q. held-more y.types c.types h.grows.begins (k ∷ z.kinds) (shift_all (types_of z)) e
          (let r = map-yes (Ty.All k) t u q in held-some r.0 s r.1));
    }

-- ---- a choice and a computation

-- the type of a conditional, from those of its test and its branches
pub if-done : {z a b y c : Scope} {e f g : Term} {o p q r : Option ℕ} → Synthesises z a z.kinds (types_of z) e o → Synthesises a b a.kinds (types_of a) f p
    → Synthesises b y b.kinds (types_of b) g q → Finds y c r (if_type (type_at y.types o) (type_at y.types p) (type_at y.types q))
    → Synthesises z c z.kinds (types_of z) (Term.If e f g) r
if-done {z} {a} {b} {y} {c} {e} {f} {g} {o} {p} {q} {r} s t u h =
    let zb = grows-then s.grows t.grows in
    let zy = grows-then zb u.grows in
    let x1 = at-more a.types y.types o (grows-then t.grows u.grows).begins (number-in a.types o (synth_in z.kinds (types_of z) e) s.is_number) ∙ at-number s in
    let m2 = moved s.grows t u.grows in
    let x2 = at-number m2 in
    let x3 = at-number (moved zb u (grows-itself y)) in
    let yy = grows-itself y in
    let m3 = moved zb u yy in
    let S = synth_in z.kinds (types_of z) in
    let n = subst (NumberOf c.types r) (λ i. if_type (x1 i) (x2 i) (x3 i)) h.is_number in
    record {
      grows = grows-then zy h.grows;
      is_number = n;
      held = with-parts _ n (λ v w. let d = if_type-yes (S e) (S f) (S g) v w in
          let up = h.grows.begins in (
            held-more a.types c.types (grows-then (grows-then t.grows u.grows) h.grows).begins z.kinds (types_of z) e (held-some Ty.Bool s d.0),
            held-more y.types c.types up z.kinds (types_of z) f (held-some v m2 d.1),
            held-more y.types c.types up z.kinds (types_of z) g (held-some v m3 d.2),
          ));
    }

-- the type of an operation, from those of its operands
pub arith-done : {z b y c : Scope} {op : Op} {e f : Term} {o p r : Option ℕ} → Synthesises z b z.kinds (types_of z) e o
    → Synthesises b y b.kinds (types_of b) f p → Finds y c r (op_type op (type_at y.types o) (type_at y.types p))
    → Synthesises z c z.kinds (types_of z) (Term.Arith op e f) r
arith-done {z} {b} {y} {c} {op} {e} {f} {o} {p} {r} s u h =
    let zy = grows-then s.grows u.grows in
    let x1 = at-more b.types y.types o u.grows.begins (number-in b.types o (synth_in z.kinds (types_of z) e) s.is_number) ∙ at-number s in
    let m2 = moved s.grows u (grows-itself y) in
    let S = synth_in z.kinds (types_of z) in
    let n = subst (NumberOf c.types r) (ap₂ (op_type op) x1 (at-number m2)) h.is_number in
    record {
      grows = grows-then zy h.grows;
      is_number = n;
      held = with-parts _ n (λ v w. let d = op-yes op (S e) (S f) v w in (
        held-more b.types c.types (grows-then u.grows h.grows).begins z.kinds (types_of z) e (held-some Ty.Int s d.0),
        held-more y.types c.types h.grows.begins z.kinds (types_of z) f (held-some Ty.Int m2 d.1),
      ));
    }

-- ---- a package

-- the type of a package, from that of what is packed
pub pack-done : {z x c : Scope} {t u : Ty} {e : Term} {o r : Option ℕ} {b : ℕ} → Synthesises z x z.kinds (types_of z) e o → o ≡ Some b
    → Finds x c r (pack_type x.kinds t (target_type x.kinds t u (Some (at x.types b))) (Some (at x.types b)))
    → Synthesises z c z.kinds (types_of z) (Term.Pack t e u) r
pack-done {z} {x} {c} {t} {u} {e} {o} {r} {b} s i h =
    let S = synth_in z.kinds (types_of z) e in
    let ks = s.grows.same_kinds in
    let body = sym (type-some x.types o S b s.is_number i) in
    let n = subst (NumberOf c.types r) (λ i. pack_type (ks i) t (target_type (ks i) t u (body i)) (body i)) h.is_number in
    record {
      grows = grows-then s.grows h.grows;
      is_number = n;
      held =
          with-parts _ n (λ v w. held-more x.types c.types h.grows.begins z.kinds (types_of z) e
          (let d = pack-yes z.kinds t (target_type z.kinds t u S) S v w in held-some _ s d.4));
    }

-- ---- an opened package

-- opening what has no package type has no type
pub unpack-none : {z c : Scope} {p e : Term} {o : Option ℕ} → Synthesises z c z.kinds (types_of z) p o → IsPackage c.types o None
    → Synthesises z c z.kinds (types_of z) (Term.Unpack p e) None
unpack-none {z} {c} {p} {e} {o} s f =
    let F = λ (k : Kind) (b : Ty). lowered (synth_in (k ∷ z.kinds) (b ∷ shift_all (types_of z)) e) in
    nothing s.grows (ap (λ q. and_then q (λ t. of_package t F)) (sym (at-number s)) ∙ f F)

-- the type of an opened package, from that of the body, seen from outside of the hidden type
pub unpack-done : {z x y c : Scope} {p e : Term} {o q r : Option ℕ} (k : SharedKind) (b : ℕ) → Synthesises z x z.kinds (types_of z) p o
    → IsPackage x.types o (Some (k, b)) → Synthesises x y (kind_tree k ∷ x.kinds) (at x.types b ∷ shift_all (types_of x)) e q
    → Finds y c r (lowered (type_at y.types q))
    → Synthesises z c z.kinds (types_of z) (Term.Unpack p e) r
unpack-done {z} {x} {y} {c} {p} {e} {o} {q} {r} k b s f u h =
    let S = synth_in z.kinds (types_of z) p in
    let F = λ (k : Kind) (b : Ty). lowered (synth_in (k ∷ z.kinds) (b ∷ shift_all (types_of z)) e) in
    let ks = ap (λ l. kind_tree k ∷ l) s.grows.same_kinds in
    let vs = ap (λ l. at x.types b ∷ shift_all l) s.grows.same_types in
    let is = sym (at-number s) ∙ f.1 in
    let inner = synth_in (kind_tree k ∷ z.kinds) (at x.types b ∷ shift_all (types_of z)) e in
    let same = ap₂ (λ l v. synth_in l v e) ks vs in
    let n = subst (NumberOf c.types r) (ap lowered (at-number u ∙ same) ∙ sym (ap (λ t. and_then t (λ w. of_package w F)) is)) h.is_number in
    record {
      grows = grows-then s.grows (grows-then u.grows h.grows);
      is_number = n;
      held = (λ m w. (
        has-number c.types r (synth_in z.kinds (types_of z) (Term.Unpack p e)) m n w,
        (
          held-more x.types c.types (grows-then u.grows h.grows).begins z.kinds (types_of z) p (held-some _ s is),
          (
            kind_tree k,
            at x.types b,
            is,
            (let low = lowered-yes (synth_in (kind_tree k ∷ x.kinds) (at x.types b ∷ shift_all (types_of x)) e) (at c.types m)
                (ap lowered (sym (at-number u)) ∙ type-some c.types r (lowered (type_at y.types q)) m h.is_number w) in
                let held = held-more y.types c.types h.grows.begins (kind_tree k ∷ x.kinds) (at x.types b ∷ shift_all (types_of x)) e (held-some _ u low) in
                subst (λ l. Held c.types l (at x.types b ∷ shift_all (types_of z)) e) ks (subst (λ v. Held c.types (kind_tree k ∷ x.kinds) v e) vs held)),
          ),
        ),
      ));
    }

-- ---- calls

called-same : (u : Ty) (o : Option Ty) → call_type (option_map (Ty.Arrow u) o) (Some u) ≡ o
called-same u None = refl
called-same u (Some t) = ap (λ b. if b then Some t else None) (same_ty-self u)

call-some : (u : Ty) (n : Ty) (o : Option Ty) (t : Ty) → call_type (option_map (Ty.Arrow n) o) (Some u) ≡ Some t → (r : Ty) × (o ≡ Some r)
call-some u n None t e = none-some e
call-some u n (Some r) t e = (r, refl)

let-cases-of : (o : Option Ty) (t u n : Ty) (f : Ty → Option Ty) (b : Truth) → same_ty t u ≡ b → (if b then Some u else o) ≡ Some n
    → (let_type o t f (Some u) ≡ call_type (option_map (Ty.Arrow n) (f n)) (Some u)) × IsParameter o (Some u) t n
let-cases-of o t u n f true e p =
    let s = same_ty-yes t u e in
    let m : u ≡ n = same_Some _ _ p in (
      ap (λ b. if b then f u else call_type (and_then o (λ n. option_map (Ty.Arrow n) (f n))) (Some u)) e ∙
          (sym (called-same u (f u)) ∙ ap (λ w. call_type (option_map (Ty.Arrow w) (f w)) (Some u)) m),
      subst (IsParameter o (Some u) t) (s ∙ m) (IsParameter.argument (ap Some (sym s))),
    )
let-cases-of o t u n f false e p = (
  ap (λ b. if b then f u else call_type (and_then o (λ n. option_map (Ty.Arrow n) (f n))) (Some u)) e ∙
      ap (λ q. call_type (and_then q (λ n. option_map (Ty.Arrow n) (f n))) (Some u)) p,
  IsParameter.normal p,
)

-- the type of a function that is called at once, from those of the function and of its argument
pub let-done : {z x c : Scope} {t : Ty} {e : Term} {a f : ℕ} {o p r : Option ℕ} → a < length z.types → Finds z x o (parameter_type z.kinds t (at z.types a))
    → o ≡ Some f → FindsFunction x c f e p → NumberOf c.types r (call_type (type_at c.types p) (Some (at c.types a)))
    → FindsLet z c t e a r
let-done {z} {x} {c} {t} {e} {a} {f} {o} {p} {r} l h i s k =
    let u = at z.types a in
    let N = normal_at z.kinds t Kind.Star in
    let G = λ (n : Ty). synth_in z.kinds (n ∷ types_of z) e in
    let ks = h.grows.same_kinds in
    let vs = h.grows.same_types in
    let n = at x.types f in
    let d = let-cases-of N t u n G (same_ty t u) refl (type-some x.types o (parameter_type z.kinds t u) f h.is_number i) in
    let same = ap₂ (λ l v. synth_in l (n ∷ v) e) ks vs in
    let function = subst (NumberOf c.types p) (ap (option_map (Ty.Arrow n)) same) s.is_number in
    let arg = begins-at z.types c.types a (grows-then h.grows s.grows).begins l in
    let number = subst (NumberOf c.types r) (ap₂ (λ q w. call_type q (Some w)) (number-at c.types p (option_map (Ty.Arrow n) (G n)) function) arg) k in
    record {
      grows = grows-then h.grows s.grows;
      is_number = subst (NumberOf c.types r) (sym d.0) number;
      held = (λ m q.
          let v = call-some u n (G n) (at c.types m) (type-some c.types r (call_type (option_map (Ty.Arrow n) (G n)) (Some u)) m number q) in
          let y = number-some c.types p (option_map (Ty.Arrow n) (G n)) (Ty.Arrow n v.0) function (ap (option_map (Ty.Arrow n)) v.1) in (
            n,
            d.1,
            has-number c.types p (option_map (Ty.Arrow n) (G n)) y.0 function y.1,
            subst (λ k. Held c.types k (n ∷ types_of z) e) ks (subst (λ v. Held c.types x.kinds (n ∷ v) e) vs (s.held y.0 y.1)),
          ));
    }

-- the type of another call, from those of the function and of its argument
pub applied-done : {z c : Scope} {f : Term} {a : ℕ} {o r : Option ℕ} → a < length z.types → Synthesises z c z.kinds (types_of z) f o
    → NumberOf c.types r (call_type (type_at c.types o) (Some (at c.types a))) → FindsCall z c f a r
applied-done {z} {c} {f} {a} {o} {r} l s k =
    let S = synth_in z.kinds (types_of z) f in
    let n = subst (NumberOf c.types r) (ap₂ (λ q w. call_type q (Some w)) (at-number s) (begins-at z.types c.types a s.grows.begins l)) k in
    record {
      grows = s.grows;
      is_number = n;
      held =
          (λ m q. let d = call-yes S (Some (at z.types a)) (at c.types m) (type-some c.types r (call_type S (Some (at z.types a))) m n q) in held-some _ s d.1);
    }

call-without : (o : Option Ty) → call_type o None ≡ None
call-without None = refl
call-without (Some f) = refl

call-none-of : (ks : List Kind) (vs : List Ty) (f a : Term) → synth_in ks vs a ≡ None → synth_in ks vs (Term.Call f a) ≡ None
call-none-of ks vs (Term.Lam t e) a h = ap (let_type (normal_at ks t Kind.Star) t (λ n. synth_in ks (n ∷ vs) e)) h
call-none-of ks vs f a h = ap (call_type (synth_in ks vs f)) h ∙ call-without (synth_in ks vs f)

-- a call whose argument has no type has none
pub call-none : {z c : Scope} {f a : Term} {o : Option ℕ} → Synthesises z c z.kinds (types_of z) a o → ((n : ℕ) → o ≡ Some n → ⊥)
    → Synthesises z c z.kinds (types_of z) (Term.Call f a) None
call-none {z} {c} {f} {a} {o} s h =
    nothing s.grows (call-none-of z.kinds (types_of z) f a (no-number c.types o (synth_in z.kinds (types_of z) a) h s.is_number))

-- the type of the argument, from its number
argument : {z x : Scope} {a : Term} {o : Option ℕ} {n : ℕ} → Synthesises z x z.kinds (types_of z) a o → o ≡ Some n
    → Some (at x.types n) ≡ synth_in z.kinds (types_of z) a
argument {z} {x} {a} {o} {n} s i = sym (type-some x.types o (synth_in z.kinds (types_of z) a) n s.is_number i)

-- the type of a call of a function term, as one that is called at once
pub call-let : {z x c : Scope} {f a e : Term} {t : Ty} {o r : Option ℕ} {n : ℕ} → f ≡ Term.Lam t e → Synthesises z x z.kinds (types_of z) a o → o ≡ Some n
    → FindsLet x c t e n r → Synthesises z c z.kinds (types_of z) (Term.Call f a) r
call-let {z} {x} {c} {f} {a} {e} {t} {o} {r} {n} g s i h = subst (λ d. Synthesises z c z.kinds (types_of z) (Term.Call d a) r) (sym g) done
  where
    ks : x.kinds ≡ z.kinds
    ks = s.grows.same_kinds

    vs : types_of x ≡ types_of z
    vs = s.grows.same_types

    arg : Some (at x.types n) ≡ synth_in z.kinds (types_of z) a
    arg = argument s i

    number : NumberOf c.types r (synth_in z.kinds (types_of z) (Term.Call (Term.Lam t e) a))
    number = subst (NumberOf c.types r) (λ j. let_type (normal_at (ks j) t Kind.Star) t (λ m. synth_in (ks j) (m ∷ vs j) e) (arg j)) h.is_number

    done : Synthesises z c z.kinds (types_of z) (Term.Call (Term.Lam t e) a) r
    done =
        record {
          grows = grows-then s.grows h.grows;
          is_number = number;
          held = (λ m q.
              let d = h.held m q in (
                has-number c.types r (synth_in z.kinds (types_of z) (Term.Call (Term.Lam t e) a)) m number q,
                (
                  held-more x.types c.types h.grows.begins z.kinds (types_of z) a (s.held n i),
                  (
                    d.0,
                    subst (λ w. IsParameter (normal_at z.kinds t Kind.Star) w t d.0) arg
                        (subst (λ k. IsParameter (normal_at k t Kind.Star) (Some (at x.types n)) t d.0) ks d.1),
                    subst (λ w. Has c.types (option_map (Ty.Arrow d.0) w)) (ap₂ (λ k v. synth_in k (d.0 ∷ v) e) ks vs) d.2,
                    subst (λ k. Held c.types k (d.0 ∷ types_of z) e) ks (subst (λ v. Held c.types x.kinds (d.0 ∷ v) e) vs d.3),
                  ),
                ),
              ));
        }

held-call : (ts : List Ty) (ks : List Kind) (vs : List Ty) (f a : Term) → ((t : Ty) (e : Term) → f ≡ Term.Lam t e → ⊥) → Has ts (synth_in ks vs (Term.Call f a))
    → Held ts ks vs a → Held ts ks vs f → Held ts ks vs (Term.Call f a)
held-call ts ks vs (Term.Lam t e) a n h i j = absurd (n t e refl)
held-call ts ks vs f a n h i j = (h, (i, j))

type-call : (ks : List Kind) (vs : List Ty) (f a : Term) → ((t : Ty) (e : Term) → f ≡ Term.Lam t e → ⊥)
    → call_type (synth_in ks vs f) (synth_in ks vs a) ≡ synth_in ks vs (Term.Call f a)
type-call ks vs (Term.Lam t e) a n = absurd (n t e refl)
type-call ks vs f a n = refl

-- the type of a call of any other function
pub call-applied : {z x c : Scope} {f a : Term} {o r : Option ℕ} {n : ℕ} → ((t : Ty) (e : Term) → f ≡ Term.Lam t e → ⊥)
    → Synthesises z x z.kinds (types_of z) a o → o ≡ Some n → FindsCall x c f n r → Synthesises z c z.kinds (types_of z) (Term.Call f a) r
call-applied {z} {x} {c} {f} {a} {o} {r} {n} g s i h =
    let ks = s.grows.same_kinds in
    let vs = s.grows.same_types in
    let number =
    subst (NumberOf c.types r) (ap₂ call_type (ap₂ (λ k v. synth_in k v f) ks vs) (argument s i) ∙ type-call z.kinds (types_of z) f a g) h.is_number in
    record {
      grows = grows-then s.grows h.grows;
      is_number = number;
      held =
          (λ m q. held-call c.types z.kinds (types_of z) f a g (has-number c.types r (synth_in z.kinds (types_of z) (Term.Call f a)) m number q)
          (held-more x.types c.types h.grows.begins z.kinds (types_of z) a (s.held n i))
          (subst (λ k. Held c.types k (types_of z) f) ks (subst (λ v. Held c.types x.kinds v f) vs (h.held m q))));
    }
