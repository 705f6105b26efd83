-- The algebra of renaming and substitution on terms: two in a row are one.
-- Main results: sub_ren_term, two_sub_term.
use Rattle.std.proofs.Common.{◌≡◌, ℕ, zero, suc, refl, sym, ap, ◌∙◌}
use Rattle.std.proofs.Math.Path.{fun_ext}
use Rattle.omega_kinds.specs.declared.label.Label.{Label}
use Rattle.omega_types.specs.Ty.{Ty, lift}
use Rattle.omega_types.specs.Substitution.{rename, substitute, under}
use Rattle.omega_types.proofs.Algebra.{rename-rename, substitute-rename, rename-substitute, substitute-substitute, substitute-id}
use Rattle.omega_terms.specs.declared.op.Op.{Op}
use Rattle.omega_terms.specs.Term.{Term, TermRow}
use Rattle.omega_terms.specs.TermSubst.{ren_term, ren_fields, sub_term, sub_fields, up_term, under_type, same_index}

-- ---- types, with the whole named and equal at each index

two_ren : (q p x : ℕ → ℕ) → ((n : ℕ) → q (p n) ≡ x n) → (t : Ty) → rename q (rename p t) ≡ rename x t
two_ren q p x h t = rename-rename q p t ∙ ap (λ f. rename f t) (fun_ext h)

sub_ren : (s : ℕ → Ty) (q : ℕ → ℕ) (x : ℕ → Ty) → ((n : ℕ) → s (q n) ≡ x n) → (t : Ty) → substitute s (rename q t) ≡ substitute x t
sub_ren s q x h t = substitute-rename s q t ∙ ap (λ f. substitute f t) (fun_ext h)

ren_sub : (q : ℕ → ℕ) (s x : ℕ → Ty) → ((n : ℕ) → rename q (s n) ≡ x n) → (t : Ty) → rename q (substitute s t) ≡ substitute x t
ren_sub q s x h t = rename-substitute q s t ∙ ap (λ f. substitute f t) (fun_ext h)

two_sub : (s p x : ℕ → Ty) → ((n : ℕ) → substitute s (p n) ≡ x n) → (t : Ty) → substitute s (substitute p t) ≡ substitute x t
two_sub s p x h t = substitute-substitute s p t ∙ ap (λ f. substitute f t) (fun_ext h)

sub_vars : (s : ℕ → Ty) → ((n : ℕ) → s n ≡ Ty.Var n) → (t : Ty) → substitute s t ≡ t
sub_vars s h t = ap (λ f. substitute f t) (fun_ext h) ∙ substitute-id t

lift_lift : (q p x : ℕ → ℕ) → ((n : ℕ) → q (p n) ≡ x n) → (n : ℕ) → lift q (lift p n) ≡ lift x n
lift_lift q p x h zero = refl
lift_lift q p x h (suc n) = ap suc (h n)

under_lift : (s : ℕ → Ty) (q : ℕ → ℕ) (x : ℕ → Ty) → ((n : ℕ) → s (q n) ≡ x n) → (n : ℕ) → under s (lift q n) ≡ under x n
under_lift s q x h zero = refl
under_lift s q x h (suc n) = ap (rename suc) (h n)

lift_under : (q : ℕ → ℕ) (s x : ℕ → Ty) → ((n : ℕ) → rename q (s n) ≡ x n) → (n : ℕ) → rename (lift q) (under s n) ≡ under x n
lift_under q s x h zero = refl
lift_under q s x h (suc n) =
    rename-rename (lift q) suc (s n) ∙ (sym (rename-rename suc q (s n)) ∙ ap (rename suc) (h n))

under_under : (s p x : ℕ → Ty) → ((n : ℕ) → substitute s (p n) ≡ x n) → (n : ℕ) → substitute (under s) (under p n) ≡ under x n
under_under s p x h zero = refl
under_under s p x h (suc n) =
    substitute-rename (under s) suc (p n) ∙ (sym (rename-substitute suc s (p n)) ∙ ap (rename suc) (h n))

under_vars : (s : ℕ → Ty) → ((n : ℕ) → s n ≡ Ty.Var n) → (n : ℕ) → under s n ≡ Ty.Var n
under_vars s h zero = refl
under_vars s h (suc n) = ap (rename suc) (h n)

-- ---- the forms

call_ : {a b c d : Term} → a ≡ c → b ≡ d → Term.Call a b ≡ Term.Call c d
call_ e h = λ i. Term.Call (e i) (h i)

lam_ : {t u : Ty} {b d : Term} → t ≡ u → b ≡ d → Term.Lam t b ≡ Term.Lam u d
lam_ e h = λ i. Term.Lam (e i) (h i)

inst_ : {t u : Ty} {b d : Term} → b ≡ d → t ≡ u → Term.Inst b t ≡ Term.Inst d u
inst_ e h = λ i. Term.Inst (e i) (h i)

pack_ : {t u v w : Ty} {b d : Term} → t ≡ v → b ≡ d → u ≡ w → Term.Pack t b u ≡ Term.Pack v d w
pack_ e h g = λ i. Term.Pack (e i) (h i) (g i)

unpack_ : {a b c d : Term} → a ≡ c → b ≡ d → Term.Unpack a b ≡ Term.Unpack c d
unpack_ e h = λ i. Term.Unpack (e i) (h i)

if_same : {a b c d e f : Term} → a ≡ d → b ≡ e → c ≡ f → Term.If a b c ≡ Term.If d e f
if_same e h g = λ i. Term.If (e i) (h i) (g i)

arith_ : (o : Op) {a b c d : Term} → a ≡ c → b ≡ d → Term.Arith o a b ≡ Term.Arith o c d
arith_ o e h = λ i. Term.Arith o (e i) (h i)

fix_ : {t u v w : Ty} {b d : Term} → t ≡ v → u ≡ w → b ≡ d → Term.Fix t u b ≡ Term.Fix v w d
fix_ e h g = λ i. Term.Fix (e i) (h i) (g i)

inj_ : (l : Label) {t u : Ty} {b d : Term} → b ≡ d → t ≡ u → Term.Inj l b t ≡ Term.Inj l d u
inj_ l e h = λ i. Term.Inj l (e i) (h i)

case_ : {t u : Ty} {a b : Term} {f g : TermRow} → a ≡ b → t ≡ u → f ≡ g → Term.Case a t f ≡ Term.Case b u g
case_ e h g = λ i. Term.Case (e i) (h i) (g i)

roll_ : {t u : Ty} {b d : Term} → b ≡ d → t ≡ u → Term.Roll b t ≡ Term.Roll d u
roll_ e h = λ i. Term.Roll (e i) (h i)

field_ : (l : Label) {a b : Term} {f g : TermRow} → a ≡ b → f ≡ g → TermRow.More l a f ≡ TermRow.More l b g
field_ l e h = λ i. TermRow.More l (e i) (h i)

-- ---- each variable for itself

up_term-vars : (w : ℕ → Term) → ((n : ℕ) → w n ≡ Term.Var n) → (n : ℕ) → up_term w n ≡ Term.Var n
up_term-vars w h zero = refl
up_term-vars w h (suc n) = ap (ren_term same_index suc) (h n)

under_type-vars : (w : ℕ → Term) → ((n : ℕ) → w n ≡ Term.Var n) → (n : ℕ) → under_type w n ≡ Term.Var n
under_type-vars w h n = ap (ren_term suc same_index) (h n)

mutual
  -- putting each variable for itself changes nothing
  pub sub_term-vars : (s : ℕ → Ty) (w : ℕ → Term) → ((n : ℕ) → s n ≡ Ty.Var n) → ((n : ℕ) → w n ≡ Term.Var n) → (e : Term) → sub_term s w e ≡ e
  sub_term-vars s w p h (Term.Var n) = h n
  sub_term-vars s w p h (Term.Int z) = refl
  sub_term-vars s w p h (Term.Bool b) = refl
  sub_term-vars s w p h (Term.Text x) = refl
  sub_term-vars s w p h (Term.Lam t e) = lam_ (sub_vars s p t) (sub_term-vars s (up_term w) p (up_term-vars w h) e)
  sub_term-vars s w p h (Term.Call f a) = call_ (sub_term-vars s w p h f) (sub_term-vars s w p h a)
  sub_term-vars s w p h (Term.TyLam k e) = ap (Term.TyLam k) (sub_term-vars (under s) (under_type w) (under_vars s p) (under_type-vars w h) e)
  sub_term-vars s w p h (Term.Inst e t) = inst_ (sub_term-vars s w p h e) (sub_vars s p t)
  sub_term-vars s w p h (Term.Fields f) = ap Term.Fields (sub_fields-vars s w p h f)
  sub_term-vars s w p h (Term.Get e l) = ap (λ x. Term.Get x l) (sub_term-vars s w p h e)
  sub_term-vars s w p h (Term.Pack t e u) = pack_ (sub_vars s p t) (sub_term-vars s w p h e) (sub_vars s p u)
  sub_term-vars s w p h (Term.Unpack q e) =
      unpack_ (sub_term-vars s w p h q) (sub_term-vars (under s) (up_term (under_type w)) (under_vars s p) (up_term-vars (under_type w) (under_type-vars w h)) e)
  sub_term-vars s w p h (Term.If a b c) = if_same (sub_term-vars s w p h a) (sub_term-vars s w p h b) (sub_term-vars s w p h c)
  sub_term-vars s w p h (Term.Arith o a b) = arith_ o (sub_term-vars s w p h a) (sub_term-vars s w p h b)
  sub_term-vars s w p h (Term.Fix t u e) =
      fix_ (sub_vars s p t) (sub_vars s p u) (sub_term-vars s (up_term (up_term w)) p (up_term-vars (up_term w) (up_term-vars w h)) e)
  sub_term-vars s w p h (Term.Inj l e t) = inj_ l (sub_term-vars s w p h e) (sub_vars s p t)
  sub_term-vars s w p h (Term.Case e t f) =
      case_ (sub_term-vars s w p h e) (sub_vars s p t) (sub_fields-vars s (up_term w) p (up_term-vars w h) f)
  sub_term-vars s w p h (Term.Roll e t) = roll_ (sub_term-vars s w p h e) (sub_vars s p t)
  sub_term-vars s w p h (Term.Unroll e) = ap Term.Unroll (sub_term-vars s w p h e)

  sub_fields-vars : (s : ℕ → Ty) (w : ℕ → Term) → ((n : ℕ) → s n ≡ Ty.Var n) → ((n : ℕ) → w n ≡ Term.Var n) → (e : TermRow) → sub_fields s w e ≡ e
  sub_fields-vars s w p h TermRow.End = refl
  sub_fields-vars s w p h (TermRow.More l e f) = field_ l (sub_term-vars s w p h e) (sub_fields-vars s w p h f)

-- ---- two renamings

mutual
  two_ren_term : (q r q2 r2 q3 r3 : ℕ → ℕ) → ((n : ℕ) → q (q2 n) ≡ q3 n) → ((n : ℕ) → r (r2 n) ≡ r3 n) → (e : Term) → ren_term q r (ren_term q2 r2 e) ≡ ren_term q3 r3 e
  two_ren_term q r q2 r2 q3 r3 h g (Term.Var n) = ap Term.Var (g n)
  two_ren_term q r q2 r2 q3 r3 h g (Term.Int z) = refl
  two_ren_term q r q2 r2 q3 r3 h g (Term.Bool b) = refl
  two_ren_term q r q2 r2 q3 r3 h g (Term.Text y) = refl
  two_ren_term q r q2 r2 q3 r3 h g (Term.Lam t e) = lam_ (two_ren q q2 q3 h t) (two_ren_term q (lift r) q2 (lift r2) q3 (lift r3) h (lift_lift r r2 r3 g) e)
  two_ren_term q r q2 r2 q3 r3 h g (Term.Call f a) = call_ (two_ren_term q r q2 r2 q3 r3 h g f) (two_ren_term q r q2 r2 q3 r3 h g a)
  two_ren_term q r q2 r2 q3 r3 h g (Term.TyLam k e) = ap (Term.TyLam k) (two_ren_term (lift q) r (lift q2) r2 (lift q3) r3 (lift_lift q q2 q3 h) g e)
  two_ren_term q r q2 r2 q3 r3 h g (Term.Inst e t) = inst_ (two_ren_term q r q2 r2 q3 r3 h g e) (two_ren q q2 q3 h t)
  two_ren_term q r q2 r2 q3 r3 h g (Term.Fields f) = ap Term.Fields (two_ren_fields q r q2 r2 q3 r3 h g f)
  two_ren_term q r q2 r2 q3 r3 h g (Term.Get e l) = ap (λ y. Term.Get y l) (two_ren_term q r q2 r2 q3 r3 h g e)
  two_ren_term q r q2 r2 q3 r3 h g (Term.Pack t e u) = pack_ (two_ren q q2 q3 h t) (two_ren_term q r q2 r2 q3 r3 h g e) (two_ren q q2 q3 h u)
  two_ren_term q r q2 r2 q3 r3 h g (Term.Unpack b e) =
      unpack_ (two_ren_term q r q2 r2 q3 r3 h g b) (two_ren_term (lift q) (lift r) (lift q2) (lift r2) (lift q3) (lift r3) (lift_lift q q2 q3 h) (lift_lift r r2 r3 g) e)
  two_ren_term q r q2 r2 q3 r3 h g (Term.If a b c) = if_same (two_ren_term q r q2 r2 q3 r3 h g a) (two_ren_term q r q2 r2 q3 r3 h g b) (two_ren_term q r q2 r2 q3 r3 h g c)
  two_ren_term q r q2 r2 q3 r3 h g (Term.Arith o a b) = arith_ o (two_ren_term q r q2 r2 q3 r3 h g a) (two_ren_term q r q2 r2 q3 r3 h g b)
  two_ren_term q r q2 r2 q3 r3 h g (Term.Fix t u e) =
      fix_ (two_ren q q2 q3 h t) (two_ren q q2 q3 h u) (two_ren_term q (lift (lift r)) q2 (lift (lift r2)) q3 (lift (lift r3)) h (lift_lift (lift r) (lift r2) (lift r3) (lift_lift r r2 r3 g)) e)
  two_ren_term q r q2 r2 q3 r3 h g (Term.Inj l e t) = inj_ l (two_ren_term q r q2 r2 q3 r3 h g e) (two_ren q q2 q3 h t)
  two_ren_term q r q2 r2 q3 r3 h g (Term.Case e t f) =
      case_ (two_ren_term q r q2 r2 q3 r3 h g e) (two_ren q q2 q3 h t) (two_ren_fields q (lift r) q2 (lift r2) q3 (lift r3) h (lift_lift r r2 r3 g) f)
  two_ren_term q r q2 r2 q3 r3 h g (Term.Roll e t) = roll_ (two_ren_term q r q2 r2 q3 r3 h g e) (two_ren q q2 q3 h t)
  two_ren_term q r q2 r2 q3 r3 h g (Term.Unroll e) = ap Term.Unroll (two_ren_term q r q2 r2 q3 r3 h g e)

  two_ren_fields : (q r q2 r2 q3 r3 : ℕ → ℕ) → ((n : ℕ) → q (q2 n) ≡ q3 n) → ((n : ℕ) → r (r2 n) ≡ r3 n) → (e : TermRow) → ren_fields q r (ren_fields q2 r2 e) ≡ ren_fields q3 r3 e
  two_ren_fields q r q2 r2 q3 r3 h g TermRow.End = refl
  two_ren_fields q r q2 r2 q3 r3 h g (TermRow.More l e f) = field_ l (two_ren_term q r q2 r2 q3 r3 h g e) (two_ren_fields q r q2 r2 q3 r3 h g f)

-- ---- a substitution after a renaming

up_term-lift : (w : ℕ → Term) (r : ℕ → ℕ) (v : ℕ → Term) → ((n : ℕ) → w (r n) ≡ v n) → (n : ℕ) → up_term w (lift r n) ≡ up_term v n
up_term-lift w r v g zero = refl
up_term-lift w r v g (suc n) = ap (ren_term same_index suc) (g n)

under_type-ren : (w : ℕ → Term) (r : ℕ → ℕ) (v : ℕ → Term) → ((n : ℕ) → w (r n) ≡ v n) → (n : ℕ) → under_type w (r n) ≡ under_type v n
under_type-ren w r v g n = ap (ren_term suc same_index) (g n)

mutual
  -- a renaming and then a substitution of a term compose
  pub sub_ren_term : (s : ℕ → Ty) (w : ℕ → Term) (q r : ℕ → ℕ) (p : ℕ → Ty) (v : ℕ → Term) → ((n : ℕ) → s (q n) ≡ p n) → ((n : ℕ) → w (r n) ≡ v n) → (e : Term) → sub_term s w (ren_term q r e) ≡ sub_term p v e
  sub_ren_term s w q r p v h g (Term.Var n) = g n
  sub_ren_term s w q r p v h g (Term.Int z) = refl
  sub_ren_term s w q r p v h g (Term.Bool b) = refl
  sub_ren_term s w q r p v h g (Term.Text y) = refl
  sub_ren_term s w q r p v h g (Term.Lam t e) = lam_ (sub_ren s q p h t) (sub_ren_term s (up_term w) q (lift r) p (up_term v) h (up_term-lift w r v g) e)
  sub_ren_term s w q r p v h g (Term.Call f a) = call_ (sub_ren_term s w q r p v h g f) (sub_ren_term s w q r p v h g a)
  sub_ren_term s w q r p v h g (Term.TyLam k e) = ap (Term.TyLam k) (sub_ren_term (under s) (under_type w) (lift q) r (under p) (under_type v) (under_lift s q p h) (under_type-ren w r v g) e)
  sub_ren_term s w q r p v h g (Term.Inst e t) = inst_ (sub_ren_term s w q r p v h g e) (sub_ren s q p h t)
  sub_ren_term s w q r p v h g (Term.Fields f) = ap Term.Fields (sub_ren_fields s w q r p v h g f)
  sub_ren_term s w q r p v h g (Term.Get e l) = ap (λ y. Term.Get y l) (sub_ren_term s w q r p v h g e)
  sub_ren_term s w q r p v h g (Term.Pack t e u) = pack_ (sub_ren s q p h t) (sub_ren_term s w q r p v h g e) (sub_ren s q p h u)
  sub_ren_term s w q r p v h g (Term.Unpack b e) =
      unpack_ (sub_ren_term s w q r p v h g b) (sub_ren_term (under s) (up_term (under_type w)) (lift q) (lift r) (under p) (up_term (under_type v)) (under_lift s q p h) (up_term-lift (under_type w) r (under_type v) (under_type-ren w r v g)) e)
  sub_ren_term s w q r p v h g (Term.If a b c) = if_same (sub_ren_term s w q r p v h g a) (sub_ren_term s w q r p v h g b) (sub_ren_term s w q r p v h g c)
  sub_ren_term s w q r p v h g (Term.Arith o a b) = arith_ o (sub_ren_term s w q r p v h g a) (sub_ren_term s w q r p v h g b)
  sub_ren_term s w q r p v h g (Term.Fix t u e) =
      fix_ (sub_ren s q p h t) (sub_ren s q p h u) (sub_ren_term s (up_term (up_term w)) q (lift (lift r)) p (up_term (up_term v)) h (up_term-lift (up_term w) (lift r) (up_term v) (up_term-lift w r v g)) e)
  sub_ren_term s w q r p v h g (Term.Inj l e t) = inj_ l (sub_ren_term s w q r p v h g e) (sub_ren s q p h t)
  sub_ren_term s w q r p v h g (Term.Case e t f) =
      case_ (sub_ren_term s w q r p v h g e) (sub_ren s q p h t) (sub_ren_fields s (up_term w) q (lift r) p (up_term v) h (up_term-lift w r v g) f)
  sub_ren_term s w q r p v h g (Term.Roll e t) = roll_ (sub_ren_term s w q r p v h g e) (sub_ren s q p h t)
  sub_ren_term s w q r p v h g (Term.Unroll e) = ap Term.Unroll (sub_ren_term s w q r p v h g e)

  sub_ren_fields : (s : ℕ → Ty) (w : ℕ → Term) (q r : ℕ → ℕ) (p : ℕ → Ty) (v : ℕ → Term) → ((n : ℕ) → s (q n) ≡ p n) → ((n : ℕ) → w (r n) ≡ v n) → (e : TermRow) → sub_fields s w (ren_fields q r e) ≡ sub_fields p v e
  sub_ren_fields s w q r p v h g TermRow.End = refl
  sub_ren_fields s w q r p v h g (TermRow.More l e f) = field_ l (sub_ren_term s w q r p v h g e) (sub_ren_fields s w q r p v h g f)

-- ---- a renaming after a substitution

-- shifting goes before a renaming under a binder, or after it
ren_under : (q r : ℕ → ℕ) (e : Term) → ren_term (lift q) r (ren_term suc same_index e) ≡ ren_term suc same_index (ren_term q r e)
ren_under q r e =
    two_ren_term (lift q) r suc same_index (λ n. suc (q n)) r (λ n. refl) (λ n. refl) e ∙ sym (two_ren_term suc same_index q r (λ n. suc (q n)) r (λ n. refl) (λ n. refl) e)

ren_below : (q r : ℕ → ℕ) (e : Term) → ren_term q (lift r) (ren_term same_index suc e) ≡ ren_term same_index suc (ren_term q r e)
ren_below q r e =
    two_ren_term q (lift r) same_index suc q (λ n. suc (r n)) (λ n. refl) (λ n. refl) e ∙ sym (two_ren_term same_index suc q r q (λ n. suc (r n)) (λ n. refl) (λ n. refl) e)

lift_up_term : (q r : ℕ → ℕ) (w v : ℕ → Term) → ((n : ℕ) → ren_term q r (w n) ≡ v n) → (n : ℕ) → ren_term q (lift r) (up_term w n) ≡ up_term v n
lift_up_term q r w v g zero = refl
lift_up_term q r w v g (suc n) = ren_below q r (w n) ∙ ap (ren_term same_index suc) (g n)

lift_under_type : (q r : ℕ → ℕ) (w v : ℕ → Term) → ((n : ℕ) → ren_term q r (w n) ≡ v n) → (n : ℕ) → ren_term (lift q) r (under_type w n) ≡ under_type v n
lift_under_type q r w v g n = ren_under q r (w n) ∙ ap (ren_term suc same_index) (g n)

mutual
  ren_sub_term : (q r : ℕ → ℕ) (s : ℕ → Ty) (w : ℕ → Term) (p : ℕ → Ty) (v : ℕ → Term) → ((n : ℕ) → rename q (s n) ≡ p n) → ((n : ℕ) → ren_term q r (w n) ≡ v n) → (e : Term) → ren_term q r (sub_term s w e) ≡ sub_term p v e
  ren_sub_term q r s w p v h g (Term.Var n) = g n
  ren_sub_term q r s w p v h g (Term.Int z) = refl
  ren_sub_term q r s w p v h g (Term.Bool b) = refl
  ren_sub_term q r s w p v h g (Term.Text y) = refl
  ren_sub_term q r s w p v h g (Term.Lam t e) = lam_ (ren_sub q s p h t) (ren_sub_term q (lift r) s (up_term w) p (up_term v) h (lift_up_term q r w v g) e)
  ren_sub_term q r s w p v h g (Term.Call f a) = call_ (ren_sub_term q r s w p v h g f) (ren_sub_term q r s w p v h g a)
  ren_sub_term q r s w p v h g (Term.TyLam k e) = ap (Term.TyLam k) (ren_sub_term (lift q) r (under s) (under_type w) (under p) (under_type v) (lift_under q s p h) (lift_under_type q r w v g) e)
  ren_sub_term q r s w p v h g (Term.Inst e t) = inst_ (ren_sub_term q r s w p v h g e) (ren_sub q s p h t)
  ren_sub_term q r s w p v h g (Term.Fields f) = ap Term.Fields (ren_sub_fields q r s w p v h g f)
  ren_sub_term q r s w p v h g (Term.Get e l) = ap (λ y. Term.Get y l) (ren_sub_term q r s w p v h g e)
  ren_sub_term q r s w p v h g (Term.Pack t e u) = pack_ (ren_sub q s p h t) (ren_sub_term q r s w p v h g e) (ren_sub q s p h u)
  ren_sub_term q r s w p v h g (Term.Unpack b e) =
      unpack_ (ren_sub_term q r s w p v h g b) (ren_sub_term (lift q) (lift r) (under s) (up_term (under_type w)) (under p) (up_term (under_type v)) (lift_under q s p h) (lift_up_term (lift q) r (under_type w) (under_type v) (lift_under_type q r w v g)) e)
  ren_sub_term q r s w p v h g (Term.If a b c) = if_same (ren_sub_term q r s w p v h g a) (ren_sub_term q r s w p v h g b) (ren_sub_term q r s w p v h g c)
  ren_sub_term q r s w p v h g (Term.Arith o a b) = arith_ o (ren_sub_term q r s w p v h g a) (ren_sub_term q r s w p v h g b)
  ren_sub_term q r s w p v h g (Term.Fix t u e) =
      fix_ (ren_sub q s p h t) (ren_sub q s p h u) (ren_sub_term q (lift (lift r)) s (up_term (up_term w)) p (up_term (up_term v)) h (lift_up_term q (lift r) (up_term w) (up_term v) (lift_up_term q r w v g)) e)
  ren_sub_term q r s w p v h g (Term.Inj l e t) = inj_ l (ren_sub_term q r s w p v h g e) (ren_sub q s p h t)
  ren_sub_term q r s w p v h g (Term.Case e t f) =
      case_ (ren_sub_term q r s w p v h g e) (ren_sub q s p h t) (ren_sub_fields q (lift r) s (up_term w) p (up_term v) h (lift_up_term q r w v g) f)
  ren_sub_term q r s w p v h g (Term.Roll e t) = roll_ (ren_sub_term q r s w p v h g e) (ren_sub q s p h t)
  ren_sub_term q r s w p v h g (Term.Unroll e) = ap Term.Unroll (ren_sub_term q r s w p v h g e)

  ren_sub_fields : (q r : ℕ → ℕ) (s : ℕ → Ty) (w : ℕ → Term) (p : ℕ → Ty) (v : ℕ → Term) → ((n : ℕ) → rename q (s n) ≡ p n) → ((n : ℕ) → ren_term q r (w n) ≡ v n) → (e : TermRow) → ren_fields q r (sub_fields s w e) ≡ sub_fields p v e
  ren_sub_fields q r s w p v h g TermRow.End = refl
  ren_sub_fields q r s w p v h g (TermRow.More l e f) = field_ l (ren_sub_term q r s w p v h g e) (ren_sub_fields q r s w p v h g f)

-- ---- two substitutions

sub_under : (s : ℕ → Ty) (w : ℕ → Term) (e : Term) → sub_term (under s) (under_type w) (ren_term suc same_index e) ≡ ren_term suc same_index (sub_term s w e)
sub_under s w e =
    sub_ren_term (under s) (under_type w) suc same_index (λ n. rename suc (s n)) (under_type w) (λ n. refl) (λ n. refl) e ∙ sym (ren_sub_term suc same_index s w (λ n. rename suc (s n)) (under_type w) (λ n. refl) (λ n. refl) e)

ren_same : (t : Ty) → rename same_index t ≡ t
ren_same t = sym (substitute-id (rename same_index t)) ∙ (sub_ren Ty.Var same_index Ty.Var (λ n. refl) t ∙ substitute-id t)

sub_below : (s : ℕ → Ty) (w : ℕ → Term) (e : Term) → sub_term s (up_term w) (ren_term same_index suc e) ≡ ren_term same_index suc (sub_term s w e)
sub_below s w e =
    sub_ren_term s (up_term w) same_index suc s (λ n. ren_term same_index suc (w n)) (λ n. refl) (λ n. refl) e ∙ sym (ren_sub_term same_index suc s w s (λ n. ren_term same_index suc (w n)) (λ n. ren_same (s n)) (λ n. refl) e)

up_up_term : (s : ℕ → Ty) (w v u : ℕ → Term) → ((n : ℕ) → sub_term s w (v n) ≡ u n) → (n : ℕ) → sub_term s (up_term w) (up_term v n) ≡ up_term u n
up_up_term s w v u g zero = refl
up_up_term s w v u g (suc n) = sub_below s w (v n) ∙ ap (ren_term same_index suc) (g n)

under_under_type : (s : ℕ → Ty) (w v u : ℕ → Term) → ((n : ℕ) → sub_term s w (v n) ≡ u n) → (n : ℕ) → sub_term (under s) (under_type w) (under_type v n) ≡ under_type u n
under_under_type s w v u g n = sub_under s w (v n) ∙ ap (ren_term suc same_index) (g n)

mutual
  -- substitutions of a term compose
  pub two_sub_term : (s : ℕ → Ty) (w : ℕ → Term) (p : ℕ → Ty) (v : ℕ → Term) (x : ℕ → Ty) (u : ℕ → Term) → ((n : ℕ) → substitute s (p n) ≡ x n) → ((n : ℕ) → sub_term s w (v n) ≡ u n) → (e : Term) → sub_term s w (sub_term p v e) ≡ sub_term x u e
  two_sub_term s w p v x u h g (Term.Var n) = g n
  two_sub_term s w p v x u h g (Term.Int z) = refl
  two_sub_term s w p v x u h g (Term.Bool b) = refl
  two_sub_term s w p v x u h g (Term.Text y) = refl
  two_sub_term s w p v x u h g (Term.Lam t e) = lam_ (two_sub s p x h t) (two_sub_term s (up_term w) p (up_term v) x (up_term u) h (up_up_term s w v u g) e)
  two_sub_term s w p v x u h g (Term.Call f a) = call_ (two_sub_term s w p v x u h g f) (two_sub_term s w p v x u h g a)
  two_sub_term s w p v x u h g (Term.TyLam k e) = ap (Term.TyLam k) (two_sub_term (under s) (under_type w) (under p) (under_type v) (under x) (under_type u) (under_under s p x h) (under_under_type s w v u g) e)
  two_sub_term s w p v x u h g (Term.Inst e t) = inst_ (two_sub_term s w p v x u h g e) (two_sub s p x h t)
  two_sub_term s w p v x u h g (Term.Fields f) = ap Term.Fields (two_sub_fields s w p v x u h g f)
  two_sub_term s w p v x u h g (Term.Get e l) = ap (λ y. Term.Get y l) (two_sub_term s w p v x u h g e)
  two_sub_term s w p v x u h g (Term.Pack t e r) = pack_ (two_sub s p x h t) (two_sub_term s w p v x u h g e) (two_sub s p x h r)
  two_sub_term s w p v x u h g (Term.Unpack b e) =
      unpack_ (two_sub_term s w p v x u h g b) (two_sub_term (under s) (up_term (under_type w)) (under p) (up_term (under_type v)) (under x) (up_term (under_type u)) (under_under s p x h) (up_up_term (under s) (under_type w) (under_type v) (under_type u) (under_under_type s w v u g)) e)
  two_sub_term s w p v x u h g (Term.If a b c) = if_same (two_sub_term s w p v x u h g a) (two_sub_term s w p v x u h g b) (two_sub_term s w p v x u h g c)
  two_sub_term s w p v x u h g (Term.Arith o a b) = arith_ o (two_sub_term s w p v x u h g a) (two_sub_term s w p v x u h g b)
  two_sub_term s w p v x u h g (Term.Fix t r e) =
      fix_ (two_sub s p x h t) (two_sub s p x h r) (two_sub_term s (up_term (up_term w)) p (up_term (up_term v)) x (up_term (up_term u)) h (up_up_term s (up_term w) (up_term v) (up_term u) (up_up_term s w v u g)) e)
  two_sub_term s w p v x u h g (Term.Inj l e t) = inj_ l (two_sub_term s w p v x u h g e) (two_sub s p x h t)
  two_sub_term s w p v x u h g (Term.Case e t f) =
      case_ (two_sub_term s w p v x u h g e) (two_sub s p x h t) (two_sub_fields s (up_term w) p (up_term v) x (up_term u) h (up_up_term s w v u g) f)
  two_sub_term s w p v x u h g (Term.Roll e t) = roll_ (two_sub_term s w p v x u h g e) (two_sub s p x h t)
  two_sub_term s w p v x u h g (Term.Unroll e) = ap Term.Unroll (two_sub_term s w p v x u h g e)

  two_sub_fields : (s : ℕ → Ty) (w : ℕ → Term) (p : ℕ → Ty) (v : ℕ → Term) (x : ℕ → Ty) (u : ℕ → Term) → ((n : ℕ) → substitute s (p n) ≡ x n) → ((n : ℕ) → sub_term s w (v n) ≡ u n) → (e : TermRow) → sub_fields s w (sub_fields p v e) ≡ sub_fields x u e
  two_sub_fields s w p v x u h g TermRow.End = refl
  two_sub_fields s w p v x u h g (TermRow.More l e f) = field_ l (two_sub_term s w p v x u h g e) (two_sub_fields s w p v x u h g f)
