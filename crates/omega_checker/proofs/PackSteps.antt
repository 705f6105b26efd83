-- The type of a package, from whether its target hides a type in what is packed.
-- Main results: packed-tested, packed-likely, no-hidden, no-put, no-package.
use Rattle.std.proofs.Common.{◌≡◌, ℕ, zero, ◌<◌, List, Option, Some, None, Bool as Truth, true, false, if◌then◌else◌, length, refl, sym, ap, ◌∙◌, subst}
use Rattle.omega_kinds.specs.Kind.{Kind}
use Rattle.omega_types.specs.Ty.{Ty}
use Rattle.omega_types.specs.Inner.View.{ty_of}
use Rattle.omega_types.specs.Normaliser.{hsubst}
use Rattle.omega_kinds.specs.declared.kind.Kind.TheVariants.{Star as SharedStar, Arrow' as SharedArrow}
use Rattle.omega_types.specs.declared.tree.Ty.{Ty as SharedTy}
use Rattle.omega_types.specs.declared.tree.TyNode.{TyNode}
use Rattle.omega_types.specs.declared.tree.TyNode.TheVariants as node
use Rattle.type_store.specs.Numbers.{NumberOf}
use Rattle.type_store.specs.Trees.{at}
use Rattle.type_store.proofs.TreeLaws.{begins-at}
use Rattle.omega_node_laws.specs.Found.{if_same, is_put, is_target, normal_at, pack_type, put_normal, target_type}
use Rattle.omega_node_laws.specs.SameTy.{same_ty}
use Rattle.omega_node_laws.specs.Scope.{Scope, Grows, Finds}
use Rattle.omega_node_laws.proofs.ScopeSteps.{grows-then}

-- a target that does not hide the type in what is packed is tested
packed-so : (ctx : List Kind) (t u : Ty) (o : Option Ty) → is_target ctx t u o ≡ false
    → pack_type ctx t (normal_at ctx u Kind.Star) o ≡ pack_type ctx t (target_type ctx t u o) o
packed-so ctx t u o e = ap (λ b. pack_type ctx t (if b then Some u else normal_at ctx u Kind.Star) o) (sym e)

-- so it is in a scope with more types
pub packed-tested : (a b c : Scope) (t u : Ty) (body : ℕ) (o : Option ℕ) → Grows a b → body < length a.types
    → is_target a.kinds t u (Some (at a.types body)) ≡ false
    → Finds b c o (pack_type b.kinds t (normal_at b.kinds u Kind.Star) (Some (at b.types body)))
    → Finds a c o (pack_type a.kinds t (target_type a.kinds t u (Some (at a.types body))) (Some (at a.types body)))
packed-tested a b c t u body o g w e h =
    let ks = g.same_kinds in
    let s = begins-at a.types b.types body g.begins w in
    record {
      grows = grows-then g h.grows;
      is_number =
          subst (NumberOf c.types o)
          ((λ i. pack_type (ks i) t (normal_at (ks i) u Kind.Star) (Some (s i))) ∙ packed-so a.kinds t u (Some (at a.types body)) e) h.is_number;
    }

-- a type that hides one which is not of kind * is no target
pub no-hidden : (ctx : List Kind) (t u b : Ty) (o : Option Ty) (n : Option Ty) → u ≡ Ty.Ex Kind.Star b → n ≡ normal_at ctx t Kind.Star
    → ((m : Ty) → n ≡ Some m → ⊥) → is_target ctx t u o ≡ false
no-hidden ctx t u b o None e f h = ap (λ v. is_target ctx t v o) e ∙ ap (λ m. is_put m b o) (sym f)
no-hidden ctx t u b o (Some m) e f h = absurd (h m refl)

differs : (ts : List Ty) (t s v : Ty) → NumberOf ts None (if_same t (Some v) (Some s)) → same_ty v s ≡ false
differs ts t s v h = go (same_ty v s) refl h
  where
    go : (b : Truth) → same_ty v s ≡ b → NumberOf ts None (if b then Some t else None) → same_ty v s ≡ false
    go true e k = absurd k
    go false e k = e

-- a type whose body, with the hidden type put in, is not the type of what is packed is no target
pub no-put : (a c : Scope) (t u b n : Ty) (body : ℕ) → u ≡ Ty.Ex Kind.Star b → Some n ≡ normal_at a.kinds t Kind.Star
    → Finds a c None (if_same (Ty.Ex Kind.Star b) (Some (hsubst Kind.Star zero n b)) (Some (at a.types body)))
    → is_target a.kinds t u (Some (at a.types body)) ≡ false
no-put a c t u b n body e f h =
    ap (λ v. is_target a.kinds t v (Some (at a.types body))) e ∙ (ap (λ m. is_put m b (Some (at a.types body))) (sym f) ∙
    differs c.types (Ty.Ex Kind.Star b) (at a.types body) (hsubst Kind.Star zero n b) h.is_number)

likely : (ctx : List Kind) (ts : List Ty) (t b n s : Ty) (m : ℕ) → Some n ≡ normal_at ctx t Kind.Star
    → NumberOf ts (Some m) (if_same (Ty.Ex Kind.Star b) (Some (hsubst Kind.Star zero n b)) (Some s))
    → NumberOf ts (Some m) (pack_type ctx t (target_type ctx t (Ty.Ex Kind.Star b) (Some s)) (Some s))
likely ctx ts t b n s m f h = go (same_ty x s) refl h
  where
    x : Ty
    x = hsubst Kind.Star zero n b

    u : Ty
    u = Ty.Ex Kind.Star b

    go : (y : Truth) → same_ty x s ≡ y → NumberOf ts (Some m) (if y then Some u else None)
        → NumberOf ts (Some m) (pack_type ctx t (target_type ctx t u (Some s)) (Some s))
    go true e k =
        let target : target_type ctx t u (Some s) ≡ Some u =
        ap (λ o. if is_put o b (Some s) then Some u else normal_at ctx u Kind.Star) (sym f) ∙
        ap (λ y. if y then Some u else normal_at ctx u Kind.Star) e in
        let body : pack_type ctx t (Some u) (Some s) ≡ Some u =
        ap (λ o. if_same u (put_normal Kind.Star b o) (Some s)) (sym f) ∙ ap (λ y. if y then Some u else None) e in
        subst (NumberOf ts (Some m)) (sym (ap (λ o. pack_type ctx t o (Some s)) target ∙ body)) k
    go false e k = absurd k

-- a target of which what is packed has the body with the hidden type put in is the type of the package
pub packed-likely : (a c : Scope) (t u b n : Ty) (body m : ℕ) → u ≡ Ty.Ex Kind.Star b → Some n ≡ normal_at a.kinds t Kind.Star
    → Finds a c (Some m) (if_same (Ty.Ex Kind.Star b) (Some (hsubst Kind.Star zero n b)) (Some (at a.types body)))
    → Finds a c (Some m) (pack_type a.kinds t (target_type a.kinds t u (Some (at a.types body))) (Some (at a.types body)))
packed-likely a c t u b n body m e f h =
    record {
      grows = h.grows;
      is_number =
          subst (λ v. NumberOf c.types (Some m) (pack_type a.kinds t (target_type a.kinds t v (Some (at a.types body))) (Some (at a.types body)))) (sym e)
          (likely a.kinds c.types t b n (at a.types body) m f h.is_number);
    }

-- another type than one that hides a type of kind * is no target
pub no-package : (ctx : List Kind) (t : Ty) (o : Option Ty) (n : TyNode) → ((b : SharedTy) → n ≡ node.Ex SharedStar b → ⊥) → is_target ctx t (ty_of n) o ≡ false
no-package ctx t o (node.Ex SharedStar b) h = absurd (h b refl)
no-package ctx t o (node.Ex (SharedArrow p a q b e) c) h = refl
no-package ctx t o _ h = refl
