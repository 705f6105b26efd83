-- The type of each form of term, from the types of its parts.
-- Main results: has-number.
use Rattle.std.proofs.Common.{◌≡◌, ℕ, List, Option, Some, ap, ap₂, subst}
use Rattle.omega_kinds.specs.Kind.{Kind}
use Rattle.omega_kinds.specs.declared.label.Label.{Label}
use Rattle.omega_types.specs.Ty.{Ty}
use Rattle.omega_terms.specs.Term.{Term}
use Rattle.type_store.specs.Numbers.{NumberOf}
use Rattle.type_store.specs.Trees.{at}
use Rattle.omega_node_laws.specs.Found.{normal_at, inst_type, get_type, inj_type, roll_type, unroll_type, synth_in}
use Rattle.omega_node_laws.specs.Held.{Has, Held}
use Rattle.omega_node_laws.specs.Scope.{Scope, types_of, type_at, Grows, Finds, Synthesises}
use Rattle.omega_node_laws.proofs.HeldMore.{number-more, held-more}
use Rattle.omega_node_laws.proofs.Inverted.{inst-yes, get-yes, inj-yes, roll-yes, unroll-yes}
use Rattle.omega_node_laws.proofs.ScopeSteps.{number-at, number-some, type-some, grows-then}

-- ---- a term that was synthesised in a part of the way

-- where a type has a number, the list has the type
pub has-number : (ts : List Ty) (o : Option ℕ) (s : Option Ty) (n : ℕ) → NumberOf ts o s → o ≡ Some n → Has ts s
has-number ts o s n h e = record { number = n; is_number = subst (λ p. NumberOf ts p s) e h }

-- seen from an earlier scope to a later one
pub moved : {z a b c : Scope} {e : Term} {o : Option ℕ} → Grows z a → Synthesises a b a.kinds (types_of a) e o → Grows b c
    → Synthesises z c z.kinds (types_of z) e o
moved {z} {a} {b} {c} {e} {o} g s h =
    let ks = g.same_kinds in
    let vs = g.same_types in
    record {
      grows = grows-then g (grows-then s.grows h);
      is_number =
          subst (NumberOf c.types o) (ap₂ (λ k v. synth_in k v e) ks vs) (number-more b.types c.types o (synth_in a.kinds (types_of a) e) h.begins s.is_number);
      held =
          (λ n p. subst (λ k. Held c.types k (types_of z) e) ks
          (subst (λ v. Held c.types a.kinds v e) vs (held-more b.types c.types h.begins a.kinds (types_of a) e (s.held n p))));
    }

-- the type that the number stands for
pub at-number : {a b : Scope} {ks : List Kind} {vs : List Ty} {e : Term} {o : Option ℕ} → Synthesises a b ks vs e o → type_at b.types o ≡ synth_in ks vs e
at-number {a} {b} {ks} {vs} {e} {o} s = number-at b.types o (synth_in ks vs e) s.is_number

-- what is held, where there is a type
pub held-some : {a b : Scope} {ks : List Kind} {vs : List Ty} {e : Term} {o : Option ℕ} (t : Ty) → Synthesises a b ks vs e o → synth_in ks vs e ≡ Some t
    → Held b.types ks vs e
held-some {a} {b} {ks} {vs} {e} {o} t s p = let n = number-some b.types o (synth_in ks vs e) t s.is_number p in s.held n.0 n.1

-- what holds where there is a type, of a term with a number
pub with-parts : {c : List Ty} {o : Option ℕ} {s : Option Ty} (P : Type 0) → NumberOf c o s → ((t : Ty) → s ≡ Some t → P) → (n : ℕ) → o ≡ Some n → Has c s × P
with-parts {c} {o} {s} P h f n e = (has-number c o s n h e, f (at c n) (type-some c o s n h e))

-- ---- one part

module _ (z y c : Scope) (e : Term) (o p : Option ℕ) (s : Synthesises z y z.kinds (types_of z) e o) where
  later : Grows y c → Held y.types z.kinds (types_of z) e → Held c.types z.kinds (types_of z) e
  later g h = held-more y.types c.types g.begins z.kinds (types_of z) e h

  -- the type of an instance, from that of the term
  pub inst-done : (t : Ty) → Finds y c p (inst_type y.kinds (type_at y.types o) t) → Synthesises z c z.kinds (types_of z) (Term.Inst e t) p
  inst-done t f =
      let n = subst (NumberOf c.types p) (ap₂ (λ k q. inst_type k q t) s.grows.same_kinds (at-number s)) f.is_number in
      record {
        grows = grows-then s.grows f.grows;
        is_number = n;
        held = with-parts _ n (λ u q. later f.grows (let r = inst-yes z.kinds (synth_in z.kinds (types_of z) e) t u q in held-some (Ty.All r.0 r.1) s r.2));
      }

  -- the type of a selection, from that of the record
  pub get-done : (l : Label) → Grows y c → NumberOf c.types p (get_type (type_at y.types o) l) → Synthesises z c z.kinds (types_of z) (Term.Get e l) p
  get-done l g f =
      let n = subst (NumberOf c.types p) (ap (λ q. get_type q l) (at-number s)) f in
      record {
        grows = grows-then s.grows g;
        is_number = n;
        held = with-parts _ n (λ u q. later g (let r = get-yes (synth_in z.kinds (types_of z) e) l u q in held-some (Ty.Fields r.0) s r.1));
      }

  -- the type of an unrolled value, from that of the value
  pub unroll-done : Finds y c p (unroll_type (type_at y.types o)) → Synthesises z c z.kinds (types_of z) (Term.Unroll e) p
  unroll-done f =
      let n = subst (NumberOf c.types p) (ap unroll_type (at-number s)) f.is_number in
      record {
        grows = grows-then s.grows f.grows;
        is_number = n;
        held = with-parts _ n (λ u q. later f.grows (let r = unroll-yes (synth_in z.kinds (types_of z) e) u q in held-some (Ty.Mu r.0) s r.1));
      }

-- ---- a named type and one part

module _ (z x y c : Scope) (e : Term) (t : Ty) (m o p : Option ℕ) (a : Finds z x m (normal_at z.kinds t Kind.Star))
    (b : Synthesises x y x.kinds (types_of x) e o) where
  part : Synthesises z y z.kinds (types_of z) e o
  part = record {
    grows = grows-then a.grows b.grows;
    is_number = subst (NumberOf y.types o) (ap₂ (λ k v. synth_in k v e) a.grows.same_kinds (a.grows.same_types)) b.is_number;
    held = (λ n q. subst (λ k. Held y.types k (types_of z) e) a.grows.same_kinds (subst (λ v. Held y.types x.kinds v e) (a.grows.same_types) (b.held n q)));
  }

  named : type_at y.types m ≡ normal_at z.kinds t Kind.Star
  named = number-at y.types m (normal_at z.kinds t Kind.Star) (number-more x.types y.types m (normal_at z.kinds t Kind.Star) b.grows.begins a.is_number)

  -- the type of an injection, from that of its value and the one that is written
  pub inj-done : (l : Label) → Grows y c → NumberOf c.types p (inj_type l (type_at y.types m) (type_at y.types o))
      → Synthesises z c z.kinds (types_of z) (Term.Inj l e t) p
  inj-done l g f =
      let n = subst (NumberOf c.types p) (ap₂ (inj_type l) named (at-number part)) f in
      record {
        grows = grows-then part.grows g;
        is_number = n;
        held =
            with-parts _ n (λ u q. held-more y.types c.types g.begins z.kinds (types_of z) e
            (let r = inj-yes l (normal_at z.kinds t Kind.Star) (synth_in z.kinds (types_of z) e) u q in held-some r.1 part r.4));
      }

  -- the type of a rolled value, from that of its value and the one that is written
  pub roll-done : Finds y c p (roll_type (type_at y.types m) (type_at y.types o)) → Synthesises z c z.kinds (types_of z) (Term.Roll e t) p
  roll-done f =
      let n = subst (NumberOf c.types p) (ap₂ roll_type named (at-number part)) f.is_number in
      record {
        grows = grows-then part.grows f.grows;
        is_number = n;
        held =
            with-parts _ n (λ u q. held-more y.types c.types f.grows.begins z.kinds (types_of z) e
            (let r = roll-yes (normal_at z.kinds t Kind.Star) (synth_in z.kinds (types_of z) e) u q in held-some _ part r.2));
      }
