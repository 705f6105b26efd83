-- Packs and opens as they are built are those of the definitions.
-- Main results: packs_filled, opens_opened.
use Rattle.std.specs.Prelude.{ℕ, zero, suc, ◌-◌, ◌<◌, ◌≤◌, List, [], ◌∷◌, ◌≡◌, length, map, take}
use Rattle.std.proofs.Common.{get_or, arith}
use Rattle.std.proofs.Math.Path.{refl, sym, ◌∙◌, ap, ap₂, subst}
use Rattle.omega_kinds.specs.Kind.{Kind}
use Rattle.omega_kinds.specs.View.{kind_tree}
use Rattle.omega_kinds.specs.declared.kind.Kind.{Kind as SharedKind}
use Rattle.omega_types.specs.Ty.{Ty}
use Rattle.omega_types.specs.Index.{i_here}
use Rattle.omega_types.specs.Normality.{Normal}
use Rattle.omega_types.specs.Normaliser.{hsubst}
use Rattle.omega_types.specs.Normalises.{NormalForm}
use Rattle.omega_types.specs.Binders.{ex_over}
use Rattle.omega_types.proofs.Single.{substitute_at-zero}
use Rattle.omega_types.proofs.Hereditary.{hsubst-gives}
use Rattle.omega_types.proofs.BinderPuts.{NormalTypes, forms-types, ex_over-hsubst}
use Rattle.omega_types.proofs.BinderPuts.NormalTypes.{none, next}
use Rattle.omega_terms.specs.Term.{Term}
use Rattle.omega_terms.specs.Shorthands.{Packs, opens_after, opens, ty_lam_over}
use Rattle.omega_terms.proofs.NormalTyping.{normal-ex}
use Rattle.omega_shorthands.specs.Inner.Packed.{pack_up, opened_times, opened, Fills}

pack_up-packs : {ctx : List Kind} {ts : List Ty} {ks : List Kind} (e : Term) (b : Ty) → NormalTypes ctx ts ks → Normal ctx (ex_over ks b) Kind.Star → Packs ctx ts e (ex_over ks b) (pack_up ts e (ex_over ks b))
pack_up-packs e b none n = Packs.none
pack_up-packs {ctx} e b (next {t = t} {ts = ts} {k = k} {ks = ks} m ms) n =
    let q = ex_over-hsubst k zero t ks b in
    let f = hsubst-gives ctx (k ∷ ctx) zero t (ex_over ks b) k Kind.Star i_here m (normal-ex n) in
    let r = subst (λ u. Packs ctx ts e u (pack_up ts e u)) (sym q.1) (pack_up-packs e q.0 ms (subst (λ u. Normal ctx u Kind.Star) q.1 f.0)) in
    Packs.next (subst (λ u. NormalForm ctx u Kind.Star (hsubst k zero t (ex_over ks b))) (substitute_at-zero t (ex_over ks b)) f) r

-- types that fill the quantifiers of a type are packed into a term
pub packs_filled : (ctx : List Kind) (ts : List Ty) (e : Term) (to : Ty) → Fills ctx ts to → Packs ctx ts e to (pack_up ts e to)
packs_filled ctx ts e to (ks, t, eq, n, ns) =
    subst (λ u. Packs ctx ts e u (pack_up ts e u)) (sym eq) (pack_up-packs e t (forms-types ns) (subst (λ u. Normal ctx u Kind.Star) eq n))

after-times : (ks : List Kind) (body : Term) → opened_times (length ks) body ≡ opens_after ks body
after-times [] body = refl
after-times (k ∷ ks) body = ap (Term.Unpack (Term.Var zero)) (after-times ks body)

-- opening as many times as there are kinds is opening them
pub opens_opened : (ks : List Kind) (count : ℕ) (e : Term) (from : Ty) (body : Term) → length ks ≡ count → opened count e from body ≡ opens ks e from body
opens_opened ks count e from body len = ap (λ n. opened n e from body) (sym len) ∙ at ks
  where
    at : (js : List Kind) → opened (length js) e from body ≡ opens js e from body
    at [] = refl
    at (k ∷ js) = ap (Term.Unpack e) (after-times js body)

-- a package that is opened, and then its inside, once less than there are kinds, is opened
pub opened-after : (ks : List Kind) (count : ℕ) (e : Term) (from : Ty) (body inner whole : Term) → (count ≡ 0 → ⊥) → length ks ≡ count → inner ≡ opened_times (count - 1) body → whole ≡ Term.Unpack e inner → whole ≡ opens ks e from body
opened-after [] count e from body inner whole some len ei ew = absurd (some (sym len))
opened-after (k ∷ ks) count e from body inner whole some len ei ew =
    ew ∙ ap (Term.Unpack e) (ei ∙ (ap (λ n. opened_times n body) (rest ks count len) ∙ after-times ks body))
  where
    rest : (ks : List Kind) (count : ℕ) → length (k ∷ ks) ≡ count → count - 1 ≡ length ks
    rest ks count e = omega (arith, e)

-- one open more

commute : (n : ℕ) (body : Term) → Term.Unpack (Term.Var zero) (opened_times n body) ≡ opened_times n (Term.Unpack (Term.Var zero) body)
commute zero body = refl
commute (suc n) body = ap (Term.Unpack (Term.Var zero)) (commute n body)

-- one more opening is put around the term, and the whole stays the one to come
pub opened-next : (left : ℕ) (term grown whole : Term) → 0 < left → opened_times left term ≡ whole → grown ≡ Term.Unpack (Term.Var zero) term → opened_times (left - 1) grown ≡ whole
opened-next zero term grown whole lt e en = absurd (omega (arith, lt))
opened-next (suc n) term grown whole lt e en = ap₂ opened_times (less n) en ∙ (sym (commute n term) ∙ e)
  where
    less : (n : ℕ) → suc n - 1 ≡ n
    less n = omega arith

-- one type function more

lam-take : (kinds : List SharedKind) (n : ℕ) (d : SharedKind) (e : Term) → n < length kinds → ty_lam_over (map kind_tree (take (suc n) kinds)) e ≡ ty_lam_over (map kind_tree (take n kinds)) (Term.TyLam (kind_tree (get_or kinds n d)) e)
lam-take [] n d e lt = absurd (omega (arith, lt))
lam-take (k ∷ kinds) zero d e lt = refl
lam-take (k ∷ kinds) (suc n) d e lt = ap (Term.TyLam (kind_tree k)) (lam-take kinds n d e (omega arith))

-- one more type abstraction is put around the term, and the whole stays the one to come
pub lam-next : (kinds : List SharedKind) (left : ℕ) (kind shared : SharedKind) (term grown whole : Term) → 0 < left → left ≤ length kinds → ty_lam_over (map kind_tree (take left kinds)) term ≡ whole → kind ≡ get_or kinds (left - 1) kind → kind_tree shared ≡ kind_tree kind → grown ≡ Term.TyLam (kind_tree shared) term → ty_lam_over (map kind_tree (take (left - 1) kinds)) grown ≡ whole
lam-next kinds zero kind shared term grown whole lt le e ek es en = absurd (omega (arith, lt))
lam-next kinds (suc n) kind shared term grown whole lt le e ek es en =
    ap₂ (λ m u. ty_lam_over (map kind_tree (take m kinds)) u) (less n) (en ∙ ap (λ k. Term.TyLam k term) (es ∙ (ap kind_tree ek ∙ ap (λ m. kind_tree (get_or kinds m kind)) (less n)))) ∙ (sym (lam-take kinds n kind term (omega arith)) ∙ e)
  where
    less : (n : ℕ) → suc n - 1 ≡ n
    less n = omega arith
