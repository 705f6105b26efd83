-- Renaming and substitution keep kinds, normality and conversion, and convertible types have the kind.
-- Main results: kind-rename, kind-substitute, conv-rename, conv-kinds, normal-kind.
use Rattle.std.specs.Prelude.{ℕ, zero, suc, List, ◌∷◌}
use Rattle.std.proofs.Math.Path.{sym, subst}
use Rattle.omega_kinds.specs.Kind.{Kind}
use Rattle.omega_kinds.specs.declared.label.Label.{Label}
use Rattle.omega_types.specs.Ty.{Ty, Row, lift}
use Rattle.omega_types.specs.Substitution.{rename, rename_row, substitute, substitute_row, under, single}
use Rattle.omega_types.specs.Kinding.{Lookup, HasKind, HasKinds, Fresh, here, there}
use Rattle.omega_types.specs.Kinding.HasKind.{k_var, k_int, k_bool, k_text, k_arrow, k_fields, k_sum, k_all, k_ex, k_mu, k_lam, k_apply}
use Rattle.omega_types.specs.Kinding.HasKinds.{k_end, k_more}
use Rattle.omega_types.specs.Conversion.{Conv, Convs}
use Rattle.omega_types.specs.Conversion.Conv.{c_refl, c_sym, c_trans, c_beta, c_eta, c_arrow, c_fields, c_sum, c_all, c_ex, c_mu, c_lam, c_apply}
use Rattle.omega_types.specs.Conversion.Convs.{c_end, c_more}
use Rattle.omega_types.specs.Normality.{Normal, Normals, Neutral}
use Rattle.omega_types.specs.Normality.Normal.{n_lam, n_int, n_bool, n_text, n_arrow, n_fields, n_sum, n_all, n_ex, n_mu, n_neutral}
use Rattle.omega_types.specs.Normality.Normals.{n_end, n_more}
use Rattle.omega_types.specs.Normality.Neutral.{n_var, n_apply}
use Rattle.omega_types.specs.Normalises.{Maps}
use Rattle.omega_types.proofs.Algebra.{rename-instantiate, rename-weaken, substitute-instantiate, substitute-weaken}

-- renaming

-- weakening keeps kinds
pub maps-suc : (l : Kind) (ctx : List Kind) → Maps ctx (l ∷ ctx) suc
maps-suc l ctx i k x = there x

-- a renaming that keeps kinds keeps them below one more binder
pub lift-maps : {ctx other : List Kind} {r : ℕ → ℕ} (l : Kind) → Maps ctx other r → Maps (l ∷ ctx) (l ∷ other) (lift r)
lift-maps l h _ _ here = here
lift-maps l h _ _ (there {k = k} {i = i} x) = there (h i k x)

-- a label that is none of a row's is none of the renamed row's
pub fresh-rename : (r : ℕ → ℕ) (l : Label) (row : Row) → Fresh l row → Fresh l (rename_row r row)
fresh-rename r l Row.End f = tt
fresh-rename r l (Row.More m t rest) f = (f.0, fresh-rename r l rest f.1)

mutual
  -- renaming keeps kinds
  pub kind-rename : {ctx other : List Kind} {t : Ty} {k : Kind} (r : ℕ → ℕ) → Maps ctx other r → HasKind ctx t k → HasKind other (rename r t) k
  kind-rename r h (k_var {i = i} {k = k} x) = k_var (h i k x)
  kind-rename r h k_int = k_int
  kind-rename r h k_bool = k_bool
  kind-rename r h k_text = k_text
  kind-rename r h (k_arrow a b) = k_arrow (kind-rename r h a) (kind-rename r h b)
  kind-rename r h (k_fields row) = k_fields (kinds-rename r h row)
  kind-rename r h (k_sum row) = k_sum (kinds-rename r h row)
  kind-rename r h (k_all {k = k} b) = k_all (kind-rename (lift r) (lift-maps k h) b)
  kind-rename r h (k_ex {k = k} b) = k_ex (kind-rename (lift r) (lift-maps k h) b)
  kind-rename r h (k_mu b) = k_mu (kind-rename (lift r) (lift-maps Kind.Star h) b)
  kind-rename r h (k_lam {k = k} b) = k_lam (kind-rename (lift r) (lift-maps k h) b)
  kind-rename r h (k_apply f a) = k_apply (kind-rename r h f) (kind-rename r h a)

  pub kinds-rename : {ctx other : List Kind} {row : Row} (r : ℕ → ℕ) → Maps ctx other r → HasKinds ctx row → HasKinds other (rename_row r row)
  kinds-rename r h k_end = k_end
  kinds-rename r h (k_more {l = l} {rest = rest} f t ts) = k_more (fresh-rename r l rest f) (kind-rename r h t) (kinds-rename r h ts)

mutual
  -- renaming keeps types normal
  pub normal-rename : {ctx other : List Kind} {t : Ty} {k : Kind} (r : ℕ → ℕ) → Maps ctx other r → Normal ctx t k → Normal other (rename r t) k
  normal-rename r h (n_lam {k = k} b) = n_lam (normal-rename (lift r) (lift-maps k h) b)
  normal-rename r h n_int = n_int
  normal-rename r h n_bool = n_bool
  normal-rename r h n_text = n_text
  normal-rename r h (n_arrow a b) = n_arrow (normal-rename r h a) (normal-rename r h b)
  normal-rename r h (n_fields row) = n_fields (normals-rename r h row)
  normal-rename r h (n_sum row) = n_sum (normals-rename r h row)
  normal-rename r h (n_all {k = k} b) = n_all (normal-rename (lift r) (lift-maps k h) b)
  normal-rename r h (n_ex {k = k} b) = n_ex (normal-rename (lift r) (lift-maps k h) b)
  normal-rename r h (n_mu b) = n_mu (normal-rename (lift r) (lift-maps Kind.Star h) b)
  normal-rename r h (n_neutral n) = n_neutral (neutral-rename r h n)

  pub normals-rename : {ctx other : List Kind} {row : Row} (r : ℕ → ℕ) → Maps ctx other r → Normals ctx row → Normals other (rename_row r row)
  normals-rename r h n_end = n_end
  normals-rename r h (n_more {l = l} {rest = rest} f t ts) = n_more (fresh-rename r l rest f) (normal-rename r h t) (normals-rename r h ts)

  -- renaming keeps types neutral
  pub neutral-rename : {ctx other : List Kind} {t : Ty} {k : Kind} (r : ℕ → ℕ) → Maps ctx other r → Neutral ctx t k → Neutral other (rename r t) k
  neutral-rename r h (n_var {i = i} {k = k} x) = n_var (h i k x)
  neutral-rename r h (n_apply n a) = n_apply (neutral-rename r h n) (normal-rename r h a)

mutual
  -- renaming keeps conversion
  pub conv-rename : {ctx other : List Kind} {s t : Ty} {k : Kind} (r : ℕ → ℕ) → Maps ctx other r → Conv ctx s t k → Conv other (rename r s) (rename r t) k
  conv-rename r h (c_refl t) = c_refl (kind-rename r h t)
  conv-rename r h (c_sym c) = c_sym (conv-rename r h c)
  conv-rename r h (c_trans c d) = c_trans (conv-rename r h c) (conv-rename r h d)
  conv-rename {other = other} r h (c_beta {k = k} {l = l} {b = b} {a = a} hb ha) = subst (λ u. Conv other (rename r (Ty.Apply (Ty.Lam k b) a)) u l) (sym (rename-instantiate r b a)) (c_beta (kind-rename (lift r) (lift-maps k h) hb) (kind-rename r h ha))
  conv-rename {other = other} r h (c_eta {k = k} {l = l} {t = t} ht) = subst (λ u. Conv other (Ty.Lam k (Ty.Apply u (Ty.Var zero))) (rename r t) (Kind.Arrow k l)) (sym (rename-weaken r t)) (c_eta (kind-rename r h ht))
  conv-rename r h (c_arrow c d) = c_arrow (conv-rename r h c) (conv-rename r h d)
  conv-rename r h (c_fields c) = c_fields (convs-rename r h c)
  conv-rename r h (c_sum c) = c_sum (convs-rename r h c)
  conv-rename r h (c_all {k = k} c) = c_all (conv-rename (lift r) (lift-maps k h) c)
  conv-rename r h (c_ex {k = k} c) = c_ex (conv-rename (lift r) (lift-maps k h) c)
  conv-rename r h (c_mu c) = c_mu (conv-rename (lift r) (lift-maps Kind.Star h) c)
  conv-rename r h (c_lam {k = k} c) = c_lam (conv-rename (lift r) (lift-maps k h) c)
  conv-rename r h (c_apply c d) = c_apply (conv-rename r h c) (conv-rename r h d)

  pub convs-rename : {ctx other : List Kind} {row row' : Row} (r : ℕ → ℕ) → Maps ctx other r → Convs ctx row row' → Convs other (rename_row r row) (rename_row r row')
  convs-rename r h c_end = c_end
  convs-rename r h (c_more {l = l} {rest = rest} {other = other} f g c d) = c_more (fresh-rename r l rest f) (fresh-rename r l other g) (conv-rename r h c) (convs-rename r h d)

-- substitution

-- each variable of a context is put to a type of its kind
abbrev pub Substitutes : List Kind → List Kind → (ℕ → Ty) → Type 0
Substitutes ctx other s = (i : ℕ) (k : Kind) → Lookup ctx i k → HasKind other (s i) k

-- a substitution of types of the right kinds is one below one more binder
pub under-substitutes : {ctx other : List Kind} {s : ℕ → Ty} (l : Kind) → Substitutes ctx other s → Substitutes (l ∷ ctx) (l ∷ other) (under s)
under-substitutes l h _ _ here = k_var here
under-substitutes {other = other} l h _ _ (there {k = k} {i = i} x) = kind-rename suc (maps-suc l other) (h i k x)

-- the substitution of one argument of the right kind gives types of the right kinds
pub single-substitutes : {ctx : List Kind} {a : Ty} {l : Kind} → HasKind ctx a l → Substitutes (l ∷ ctx) ctx (single a)
single-substitutes ha _ _ here = ha
single-substitutes ha _ _ (there x) = k_var x

-- a label that is none of a row's is none of the substituted row's
pub fresh-substitute : (s : ℕ → Ty) (l : Label) (row : Row) → Fresh l row → Fresh l (substitute_row s row)
fresh-substitute s l Row.End f = tt
fresh-substitute s l (Row.More m t rest) f = (f.0, fresh-substitute s l rest f.1)

mutual
  -- a substitution of types of the right kinds keeps kinds
  pub kind-substitute : {ctx other : List Kind} {t : Ty} {k : Kind} (s : ℕ → Ty) → Substitutes ctx other s → HasKind ctx t k → HasKind other (substitute s t) k
  kind-substitute s h (k_var {i = i} {k = k} x) = h i k x
  kind-substitute s h k_int = k_int
  kind-substitute s h k_bool = k_bool
  kind-substitute s h k_text = k_text
  kind-substitute s h (k_arrow a b) = k_arrow (kind-substitute s h a) (kind-substitute s h b)
  kind-substitute s h (k_fields row) = k_fields (kinds-substitute s h row)
  kind-substitute s h (k_sum row) = k_sum (kinds-substitute s h row)
  kind-substitute s h (k_all {k = k} b) = k_all (kind-substitute (under s) (under-substitutes k h) b)
  kind-substitute s h (k_ex {k = k} b) = k_ex (kind-substitute (under s) (under-substitutes k h) b)
  kind-substitute s h (k_mu b) = k_mu (kind-substitute (under s) (under-substitutes Kind.Star h) b)
  kind-substitute s h (k_lam {k = k} b) = k_lam (kind-substitute (under s) (under-substitutes k h) b)
  kind-substitute s h (k_apply f a) = k_apply (kind-substitute s h f) (kind-substitute s h a)

  pub kinds-substitute : {ctx other : List Kind} {row : Row} (s : ℕ → Ty) → Substitutes ctx other s → HasKinds ctx row → HasKinds other (substitute_row s row)
  kinds-substitute s h k_end = k_end
  kinds-substitute s h (k_more {l = l} {rest = rest} f t ts) = k_more (fresh-substitute s l rest f) (kind-substitute s h t) (kinds-substitute s h ts)

-- kinds of convertible and of normal types

mutual
  -- convertible types have the kind at which they are convertible
  pub conv-kinds : {ctx : List Kind} {s t : Ty} {k : Kind} → Conv ctx s t k → HasKind ctx s k × HasKind ctx t k
  conv-kinds (c_refl h) = (h, h)
  conv-kinds (c_sym c) = let h = conv-kinds c in (h.1, h.0)
  conv-kinds (c_trans c d) = ((conv-kinds c).0, (conv-kinds d).1)
  conv-kinds (c_beta {a = a} hb ha) = (k_apply (k_lam hb) ha, kind-substitute (single a) (single-substitutes ha) hb)
  conv-kinds (c_eta {ctx = ctx} {k = k} ht) = (k_lam (k_apply (kind-rename suc (maps-suc k ctx) ht) (k_var here)), ht)
  conv-kinds (c_arrow c d) = let g = conv-kinds c in let h = conv-kinds d in (k_arrow g.0 h.0, k_arrow g.1 h.1)
  conv-kinds (c_fields c) = let h = convs-kinds c in (k_fields h.0, k_fields h.1)
  conv-kinds (c_sum c) = let h = convs-kinds c in (k_sum h.0, k_sum h.1)
  conv-kinds (c_all c) = let h = conv-kinds c in (k_all h.0, k_all h.1)
  conv-kinds (c_ex c) = let h = conv-kinds c in (k_ex h.0, k_ex h.1)
  conv-kinds (c_mu c) = let h = conv-kinds c in (k_mu h.0, k_mu h.1)
  conv-kinds (c_lam c) = let h = conv-kinds c in (k_lam h.0, k_lam h.1)
  conv-kinds (c_apply c d) = let g = conv-kinds c in let h = conv-kinds d in (k_apply g.0 h.0, k_apply g.1 h.1)

  pub convs-kinds : {ctx : List Kind} {row other : Row} → Convs ctx row other → HasKinds ctx row × HasKinds ctx other
  convs-kinds c_end = (k_end, k_end)
  convs-kinds (c_more f g c d) = let p = conv-kinds c in let q = convs-kinds d in (k_more f p.0 q.0, k_more g p.1 q.1)

mutual
  -- a normal type has its kind
  pub normal-kind : {ctx : List Kind} {t : Ty} {k : Kind} → Normal ctx t k → HasKind ctx t k
  normal-kind (n_lam b) = k_lam (normal-kind b)
  normal-kind n_int = k_int
  normal-kind n_bool = k_bool
  normal-kind n_text = k_text
  normal-kind (n_arrow a b) = k_arrow (normal-kind a) (normal-kind b)
  normal-kind (n_fields row) = k_fields (normals-kinds row)
  normal-kind (n_sum row) = k_sum (normals-kinds row)
  normal-kind (n_all b) = k_all (normal-kind b)
  normal-kind (n_ex b) = k_ex (normal-kind b)
  normal-kind (n_mu b) = k_mu (normal-kind b)
  normal-kind (n_neutral n) = neutral-kind n

  pub normals-kinds : {ctx : List Kind} {row : Row} → Normals ctx row → HasKinds ctx row
  normals-kinds n_end = k_end
  normals-kinds (n_more f t ts) = k_more f (normal-kind t) (normals-kinds ts)

  -- a neutral type has its kind
  pub neutral-kind : {ctx : List Kind} {t : Ty} {k : Kind} → Neutral ctx t k → HasKind ctx t k
  neutral-kind (n_var x) = k_var x
  neutral-kind (n_apply n a) = k_apply (neutral-kind n) (normal-kind a)

-- conversion goes with substitution

mutual
  -- a substitution of types of the right kinds keeps conversion
  pub conv-substitute : {ctx other : List Kind} {t u : Ty} {k : Kind} (s : ℕ → Ty) → Substitutes ctx other s → Conv ctx t u k → Conv other (substitute s t) (substitute s u) k
  conv-substitute s h (c_refl t) = c_refl (kind-substitute s h t)
  conv-substitute s h (c_sym c) = c_sym (conv-substitute s h c)
  conv-substitute s h (c_trans c d) = c_trans (conv-substitute s h c) (conv-substitute s h d)
  conv-substitute {other = other} s h (c_beta {k = k} {l = l} {b = b} {a = a} hb ha) = subst (λ u. Conv other (substitute s (Ty.Apply (Ty.Lam k b) a)) u l) (sym (substitute-instantiate s b a)) (c_beta (kind-substitute (under s) (under-substitutes k h) hb) (kind-substitute s h ha))
  conv-substitute {other = other} s h (c_eta {k = k} {l = l} {t = t} ht) = subst (λ u. Conv other (Ty.Lam k (Ty.Apply u (Ty.Var zero))) (substitute s t) (Kind.Arrow k l)) (sym (substitute-weaken s t)) (c_eta (kind-substitute s h ht))
  conv-substitute s h (c_arrow c d) = c_arrow (conv-substitute s h c) (conv-substitute s h d)
  conv-substitute s h (c_fields c) = c_fields (convs-substitute s h c)
  conv-substitute s h (c_sum c) = c_sum (convs-substitute s h c)
  conv-substitute s h (c_all {k = k} c) = c_all (conv-substitute (under s) (under-substitutes k h) c)
  conv-substitute s h (c_ex {k = k} c) = c_ex (conv-substitute (under s) (under-substitutes k h) c)
  conv-substitute s h (c_mu c) = c_mu (conv-substitute (under s) (under-substitutes Kind.Star h) c)
  conv-substitute s h (c_lam {k = k} c) = c_lam (conv-substitute (under s) (under-substitutes k h) c)
  conv-substitute s h (c_apply c d) = c_apply (conv-substitute s h c) (conv-substitute s h d)

  pub convs-substitute : {ctx other : List Kind} {row row' : Row} (s : ℕ → Ty) → Substitutes ctx other s → Convs ctx row row' → Convs other (substitute_row s row) (substitute_row s row')
  convs-substitute s h c_end = c_end
  convs-substitute s h (c_more {l = l} {rest = rest} {other = other} f g c d) = c_more (fresh-substitute s l rest f) (fresh-substitute s l other g) (conv-substitute s h c) (convs-substitute s h d)

-- convertible substitutions give convertible types

-- two substitutions give each variable convertible types of its kind
abbrev pub Convertible : List Kind → List Kind → (ℕ → Ty) → (ℕ → Ty) → Type 0
Convertible ctx other s q = (i : ℕ) (k : Kind) → Lookup ctx i k → Conv other (s i) (q i) k

-- convertible substitutions are convertible below one more binder
pub under-convertible : {ctx other : List Kind} {s q : ℕ → Ty} (l : Kind) → Convertible ctx other s q → Convertible (l ∷ ctx) (l ∷ other) (under s) (under q)
under-convertible l h _ _ here = c_refl (k_var here)
under-convertible {other = other} l h _ _ (there {k = k} {i = i} x) = conv-rename suc (maps-suc l other) (h i k x)

mutual
  -- convertible substitutions in one type give convertible types
  pub substitute-convertible : {ctx other : List Kind} {t : Ty} {k : Kind} (s q : ℕ → Ty) → Convertible ctx other s q → HasKind ctx t k → Conv other (substitute s t) (substitute q t) k
  substitute-convertible s q h (k_var {i = i} {k = k} x) = h i k x
  substitute-convertible s q h k_int = c_refl k_int
  substitute-convertible s q h k_bool = c_refl k_bool
  substitute-convertible s q h k_text = c_refl k_text
  substitute-convertible s q h (k_arrow a b) = c_arrow (substitute-convertible s q h a) (substitute-convertible s q h b)
  substitute-convertible s q h (k_fields row) = c_fields (substitute_row-convertible s q h row)
  substitute-convertible s q h (k_sum row) = c_sum (substitute_row-convertible s q h row)
  substitute-convertible s q h (k_all {k = k} b) = c_all (substitute-convertible (under s) (under q) (under-convertible k h) b)
  substitute-convertible s q h (k_ex {k = k} b) = c_ex (substitute-convertible (under s) (under q) (under-convertible k h) b)
  substitute-convertible s q h (k_mu b) = c_mu (substitute-convertible (under s) (under q) (under-convertible Kind.Star h) b)
  substitute-convertible s q h (k_lam {k = k} b) = c_lam (substitute-convertible (under s) (under q) (under-convertible k h) b)
  substitute-convertible s q h (k_apply f a) = c_apply (substitute-convertible s q h f) (substitute-convertible s q h a)

  pub substitute_row-convertible : {ctx other : List Kind} {row : Row} (s q : ℕ → Ty) → Convertible ctx other s q → HasKinds ctx row → Convs other (substitute_row s row) (substitute_row q row)
  substitute_row-convertible s q h k_end = c_end
  substitute_row-convertible s q h (k_more {l = l} {rest = rest} f t ts) = c_more (fresh-substitute s l rest f) (fresh-substitute q l rest f) (substitute-convertible s q h t) (substitute_row-convertible s q h ts)
