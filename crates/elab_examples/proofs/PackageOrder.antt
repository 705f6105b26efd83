-- The order of the quantifiers of two signatures with the same fields.
-- Main results: order-t-u, order-u-t.
use Rattle.std.specs.Prelude.{ℕ, zero, suc, List, [], ◌∷◌, ◌≡◌, ◌≢◌, ◌<◌, IsTrue}
use Rattle.std.proofs.Common.{arith}
use Rattle.std.proofs.Math.Path.{refl, sym, subst}
use Rattle.std.proofs.lemmas.Bool.{false≢true}
use Rattle.omega_kinds.specs.Kind.{Kind}
use Rattle.omega_kinds.specs.Name.{Name}
use Rattle.omega_kinds.specs.LabelOrder.{name_before}
use Rattle.omega_types.specs.Ty.{Ty}
use Rattle.omega_types.specs.Kinding.{Lookup, here, there}
use Rattle.omega_types.specs.Kinding.HasKind.{k_var}
use Rattle.omega_types.specs.Conversion.{Conv}
use Rattle.omega_types.specs.Conversion.Conv.{c_refl}
use Rattle.omega_types.specs.Binders.{extend, own, applied}
use Rattle.sig_norm_laws.proofs.Orders.Heads.{one-variable}
use Rattle.sig_definitions.specs.Signatures.Sig.{Sig, SigRow, HasField}
use Rattle.sig_definitions.specs.Explicit.SigPath.{SigPath, Item, PartAt, ParamOn, PathBefore, ItemBefore}
use Rattle.sig_definitions.specs.Explicit.RootPath.{Rooted, ParamsAvoid}
use Rattle.sig_definitions.specs.QuantifierOrder.{Counts, Taking, NewOrder}
use Rattle.elab_examples.specs.Rows.{t, x}
use Rattle.elab_examples.specs.PackageRow.{u, two}
use Rattle.elab_examples.proofs.Parts.{differ}

-- the structures of t, u and x, a and b being the indexes of t and u
abbrev pub fields_of : ℕ → ℕ → SigRow
fields_of a b = SigRow.More t (Sig.Typ (Ty.Var a) Kind.Star) (SigRow.More u (Sig.Typ (Ty.Var b) Kind.Star) (SigRow.More x (Sig.Val (Ty.Var a)) SigRow.End))

pub no-params-at-end : {s q : Sig} {ds ks : List Kind} → ParamOn s [] ds ks q → ⊥
no-params-at-end p = elim p [ ]

-- a path of one name goes through no functor's parameter
pub no-params : {fs : SigRow} {l : Name} {q : Sig} {ds ks : List Kind} → ParamOn (Sig.Str fs) (Item.Part l ∷ []) ds ks q → ⊥
no-params (ParamOn.field h p) = no-params-at-end p

params : (ctx : List Kind) (fs : SigRow) (l : Name) (i : ℕ) → ParamsAvoid ctx (Sig.Str fs) (Item.Part l ∷ []) i
params ctx fs l i ds ks q p = absurd (no-params p)

-- an empty structure has no field
pub no-field-of-end : {l : Name} {s : Sig} → HasField SigRow.End l s → ⊥
no-field-of-end h = elim h [ ]

-- no field of these is before t, and only t before u
no-field-before-t : {a b : ℕ} {l : Name} {s : Sig} → HasField (fields_of a b) l s → IsTrue (name_before l t) → ⊥
no-field-before-t HasField.here e = false≢true e
no-field-before-t (HasField.there d HasField.here) e = false≢true e
no-field-before-t (HasField.there d (HasField.there f HasField.here)) e = false≢true e
no-field-before-t (HasField.there d (HasField.there f (HasField.there g h))) e = no-field-of-end h

only-t-before-u : {a b : ℕ} {l : Name} {s : Sig} → HasField (fields_of a b) l s → IsTrue (name_before l u) → s ≡ Sig.Typ (Ty.Var a) Kind.Star
only-t-before-u HasField.here e = refl
only-t-before-u (HasField.there d HasField.here) e = absurd (false≢true e)
only-t-before-u (HasField.there d (HasField.there f HasField.here)) e = absurd (false≢true e)
only-t-before-u (HasField.there d (HasField.there f (HasField.there g h))) e = absurd (no-field-of-end h)

-- a structure is no type part
not-at-end : {fs : SigRow} {bs : List Kind} {v : Ty} {k : Kind} → PartAt (Sig.Str fs) [] bs (Sig.Typ v k) → ⊥
not-at-end p = elim p [ ]

no-path-before-t : {a b : ℕ} {q : SigPath} {bs : List Kind} {v : Ty} {k : Kind} → PartAt (Sig.Str (fields_of a b)) q bs (Sig.Typ v k) → PathBefore q (Item.Part t ∷ []) → ⊥
no-path-before-t p PathBefore.begins = not-at-end p
no-path-before-t (PartAt.field h p) (PathBefore.first (ItemBefore.by_name e)) = no-field-before-t h e
no-path-before-t p (PathBefore.later e) = elim e [ ]

-- what the paths into a type part lead to
at-part : {s : Sig} {v w : Ty} {q : SigPath} {bs : List Kind} {k j : Kind} → s ≡ Sig.Typ v j → PartAt s q bs (Sig.Typ w k) → (bs ≡ []) × (w ≡ v)
at-part e PartAt.end = (refl, (cc))
at-part e (PartAt.field h p) = absurd (cc)
at-part e (PartAt.result p) = absurd (cc)

before-u : {a b : ℕ} {q : SigPath} {bs : List Kind} {w : Ty} {k : Kind} → PartAt (Sig.Str (fields_of a b)) q bs (Sig.Typ w k) → PathBefore q (Item.Part u ∷ []) → (bs ≡ []) × (w ≡ Ty.Var a)
before-u p PathBefore.begins = absurd (not-at-end p)
before-u (PartAt.field h p) (PathBefore.first (ItemBefore.by_name e)) = at-part (only-t-before-u h e) p
before-u p (PathBefore.later e) = elim e [ ]

rooted-var : (ctx : List Kind) {bs : List Kind} {w : Ty} {k : Kind} {a i : ℕ} → (bs ≡ []) × (w ≡ Ty.Var a) → Conv (extend ctx bs) w (applied bs (Ty.Var i)) k → a ≡ i
rooted-var ctx {w = w} {k = k} {i = i} e c = one-variable (subst (λ z. Conv ctx z (Ty.Var i) k) e.1 (subst (λ z. Conv (extend ctx z) w (applied z (Ty.Var i)) k) e.0 c))

-- t's variable is taken first, then u's
pub order-of : (ctx : List Kind) (i j : ℕ) → i < 2 → j < 2 → i ≢ j → ((m : ℕ) → m < 2 → m ≢ j → m ≢ i → ⊥) → Lookup (extend ctx two) (own two i) Kind.Star → Lookup (extend ctx two) (own two j) Kind.Star → NewOrder ctx two (Sig.Str (fields_of (own two i) (own two j))) (i ∷ j ∷ [])
order-of ctx i j hi hj d all li lj =
    Taking.next
    (Counts.counts (hi, tt) (Rooted.at (PartAt.field HasField.here PartAt.end) (c_refl (k_var li))) (λ m h. params (extend ctx two) fs t (own two m)))
    first-least
    (Taking.next
    (Counts.counts (hj, ((λ e. d (sym e)), tt)) (Rooted.at (PartAt.field (HasField.there (differ refl) HasField.here) PartAt.end) (c_refl (k_var lj))) (λ m h. params (extend ctx two) fs u (own two m)))
    second-least
    (Taking.done (λ m h. all m h.0 h.1.0 h.1.1.0)))
  where
    fs : SigRow
    fs = fields_of (own two i) (own two j)

    first-least : (m : ℕ) (q : SigPath) → Counts ctx two (Sig.Str (fields_of (own two i) (own two j))) [] m q → PathBefore q (Item.Part t ∷ []) → ⊥
    first-least m q (Counts.counts h (Rooted.at p c) a) b = no-path-before-t p b

    second-least : (m : ℕ) (q : SigPath) → Counts ctx two (Sig.Str (fields_of (own two i) (own two j))) (i ∷ []) m q → PathBefore q (Item.Part u ∷ []) → ⊥
    second-least m q (Counts.counts h (Rooted.at p c) a) b = let e = rooted-var (extend ctx two) (before-u p b) c in let k = h.0 in h.1.0 (omega (arith, e, k, hi))

none-left : (m : ℕ) → m < 2 → m ≢ 1 → m ≢ 0 → ⊥
none-left zero h a b = b refl
none-left (suc zero) h a b = a refl
none-left (suc (suc m)) h a b = omega (arith, h)

-- the order of the signature that declares t first is as declared
pub order-t-u : (ctx : List Kind) → NewOrder ctx two (Sig.Str (fields_of 1 0)) (0 ∷ 1 ∷ [])
order-t-u ctx = order-of ctx 0 1 (omega arith) (omega arith) (λ e. omega (arith, e)) none-left (there here) here

-- the order of the signature that declares u first has t, its second type, first
pub order-u-t : (ctx : List Kind) → NewOrder ctx two (Sig.Str (fields_of 0 1)) (1 ∷ 0 ∷ [])
order-u-t ctx = order-of ctx 1 0 (omega arith) (omega arith) (λ e. omega (arith, e)) (λ m h a b. none-left m h b a) here (there here)
