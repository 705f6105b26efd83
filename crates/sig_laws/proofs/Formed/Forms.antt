-- Conditions that are decided, with the one value that they have.
-- Main results: part-at, field-at, new_dec.
use Rattle.std.specs.Prelude.{List, [], ◌∷◌, ◌≡◌, ◌≢◌, ◌⊎◌}
use Rattle.std.proofs.Common.{inl, inr}
use Rattle.std.proofs.Math.Path.{refl, sym, subst}
use Rattle.omega_kinds.specs.Kind.{Kind, Kind-discrete}
use Rattle.omega_kinds.specs.declared.label.Label.{Label}
use Rattle.omega_kinds.specs.declared.effect.Effect.{Effect}
use Rattle.omega_kinds.specs.declared.effect.Effect.TheVariants.{Pure, Impure}
use Rattle.omega_kinds.specs.Name.{Name}
use Rattle.omega_types.specs.Ty.{Ty, Row}
use Rattle.omega_terms.specs.Typing.{HasPart}
use Rattle.sig_definitions.specs.Signatures.Sig.{Sig, Abs, SigRow, HasField, Sig-discrete, Abs-discrete}
use Rattle.sig_definitions.specs.Signatures.RecordOrder.{IsNew, AreNew, FirstOld}
use Rattle.sig_definitions.specs.Verdict.{One, Perhaps, one, none}
use Rattle.omega_kinds.proofs.NameLaws.{dec_label, dec_name}
use Rattle.sig_laws.specs.Decide.{dec_ty}

-- equality

effect_dec : (e f : Effect) → Dec (e ≡ f)
effect_dec Pure Pure = yes refl
effect_dec Impure Impure = yes refl
effect_dec Pure Impure = no (λ p. pure-impure p)
  where
    pure-impure : Pure ≡ Impure → ⊥
    pure-impure p = cc
effect_dec Impure Pure = no (λ p. impure-pure p)
  where
    impure-pure : Impure ≡ Pure → ⊥
    impure-pure p = cc

kinds_dec : (xs ys : List Kind) → Dec (xs ≡ ys)
kinds_dec [] [] = yes refl
kinds_dec [] (y ∷ ys) = no (λ p. end-more p)
  where
    end-more : [] ≡ (y ∷ ys) → ⊥
    end-more p = cc
kinds_dec (x ∷ xs) [] = no (λ p. more-end p)
  where
    more-end : (x ∷ xs) ≡ [] → ⊥
    more-end p = cc
kinds_dec (x ∷ xs) (y ∷ ys) = go (Kind-discrete x y) (kinds_dec xs ys)
  where
    tails : (x ∷ xs) ≡ (y ∷ ys) → xs ≡ ys
    tails p = cc

    heads : (x ∷ xs) ≡ (y ∷ ys) → x ≡ y
    heads p = cc

    go : Dec (x ≡ y) → Dec (xs ≡ ys) → Dec ((x ∷ xs) ≡ (y ∷ ys))
    go (yes p) (yes q) = yes (λ i. p i ∷ q i)
    go (no n) d = no (λ p. n (heads p))
    go (yes p) (no n) = no (λ p. n (tails p))

-- whether two signatures that hide types are the same is decided
pub abs_dec : (x y : Abs) → Dec (x ≡ y)
abs_dec = Abs-discrete dec_ty Kind-discrete effect_dec kinds_dec dec_name

-- whether two signatures are the same is decided
pub sig_dec : (x y : Sig) → Dec (x ≡ y)
sig_dec = Sig-discrete dec_ty Kind-discrete effect_dec kinds_dec dec_name

-- forms

-- a pair is what its two parts say
pub pair-same : {A B : Type 0} {a : A} {b : B} (p : A × B) → p.0 ≡ a → p.1 ≡ b → p ≡ (a, b)
pair-same p x y = λ i. (x i, y i)

-- a kind is a function kind, of exactly one pair of kinds, or it is none
pub kind-arrow : (k : Kind) → Perhaps (λ (p : Kind × Kind). k ≡ Kind.Arrow p.0 p.1)
kind-arrow Kind.Star = none (λ p e. cc)
kind-arrow (Kind.Arrow a b) = one (a, b) refl (λ p e. pair-same p (cc) (cc))

-- a type is a function type, of exactly one pair of types, or it is none
pub type-arrow : (t : Ty) → Perhaps (λ (p : Ty × Ty). t ≡ Ty.Arrow p.0 p.1)
type-arrow (Ty.Arrow a b) = one (a, b) refl (λ p e. pair-same p (cc) (cc))
type-arrow (Ty.Var n) = none (λ p e. cc)
type-arrow Ty.Int = none (λ p e. cc)
type-arrow Ty.Bool = none (λ p e. cc)
type-arrow Ty.Text = none (λ p e. cc)
type-arrow (Ty.Fields row) = none (λ p e. cc)
type-arrow (Ty.Sum row) = none (λ p e. cc)
type-arrow (Ty.All k b) = none (λ p e. cc)
type-arrow (Ty.Ex k b) = none (λ p e. cc)
type-arrow (Ty.Mu b) = none (λ p e. cc)
type-arrow (Ty.Lam k b) = none (λ p e. cc)
type-arrow (Ty.Apply a b) = none (λ p e. cc)

-- a type is universally quantified, with exactly one kind and body, or it is not
pub type-all : (t : Ty) → Perhaps (λ (p : Kind × Ty). t ≡ Ty.All p.0 p.1)
type-all (Ty.All a b) = one (a, b) refl (λ p e. pair-same p (cc) (cc))
type-all (Ty.Var n) = none (λ p e. cc)
type-all Ty.Int = none (λ p e. cc)
type-all Ty.Bool = none (λ p e. cc)
type-all Ty.Text = none (λ p e. cc)
type-all (Ty.Fields row) = none (λ p e. cc)
type-all (Ty.Sum row) = none (λ p e. cc)
type-all (Ty.Arrow a b) = none (λ p e. cc)
type-all (Ty.Ex k b) = none (λ p e. cc)
type-all (Ty.Mu b) = none (λ p e. cc)
type-all (Ty.Lam k b) = none (λ p e. cc)
type-all (Ty.Apply a b) = none (λ p e. cc)

-- a type is a record type, of exactly one row, or it is none
pub type-record : (t : Ty) → Perhaps (λ row. t ≡ Ty.Fields row)
type-record (Ty.Fields row) = one row refl (λ p e. cc)
type-record (Ty.Sum row) = none (λ p e. cc)
type-record (Ty.Var n) = none (λ p e. cc)
type-record Ty.Int = none (λ p e. cc)
type-record Ty.Bool = none (λ p e. cc)
type-record Ty.Text = none (λ p e. cc)
type-record (Ty.Arrow a b) = none (λ p e. cc)
type-record (Ty.All k b) = none (λ p e. cc)
type-record (Ty.Ex k b) = none (λ p e. cc)
type-record (Ty.Mu b) = none (λ p e. cc)
type-record (Ty.Lam k b) = none (λ p e. cc)
type-record (Ty.Apply a b) = none (λ p e. cc)

-- a signature is that of a value, of exactly one type, or it is not
pub sig-value : (s : Sig) → Perhaps (λ t. s ≡ Sig.Val t)
sig-value (Sig.Val t) = one t refl (λ p e. cc)
sig-value (Sig.Typ t k) = none (λ p e. cc)
sig-value (Sig.Meta x) = none (λ p e. cc)
sig-value (Sig.Str fs) = none (λ p e. cc)
sig-value (Sig.Fun e ks s x) = none (λ p q. cc)

-- a signature is that of a type, with exactly one type and kind, or it is not
pub sig-type : (s : Sig) → Perhaps (λ (p : Ty × Kind). s ≡ Sig.Typ p.0 p.1)
sig-type (Sig.Typ t k) = one (t, k) refl (λ p e. pair-same p (cc) (cc))
sig-type (Sig.Val t) = none (λ p e. cc)
sig-type (Sig.Meta x) = none (λ p e. cc)
sig-type (Sig.Str fs) = none (λ p e. cc)
sig-type (Sig.Fun e ks s x) = none (λ p q. cc)

-- a signature is a signature part, of exactly one signature, or it is not
pub sig-meta : (s : Sig) → Perhaps (λ x. s ≡ Sig.Meta x)
sig-meta (Sig.Meta x) = one x refl (λ p e. cc)
sig-meta (Sig.Val t) = none (λ p e. cc)
sig-meta (Sig.Typ t k) = none (λ p e. cc)
sig-meta (Sig.Str fs) = none (λ p e. cc)
sig-meta (Sig.Fun e ks s x) = none (λ p q. cc)

-- a signature is a structure, of exactly one list of fields, or it is not
pub sig-structure : (s : Sig) → Perhaps (λ fs. s ≡ Sig.Str fs)
sig-structure (Sig.Str fs) = one fs refl (λ p e. cc)
sig-structure (Sig.Val t) = none (λ p e. cc)
sig-structure (Sig.Typ t k) = none (λ p e. cc)
sig-structure (Sig.Meta x) = none (λ p e. cc)
sig-structure (Sig.Fun e ks s x) = none (λ p q. cc)

four-same : {f : Effect} {ks : List Kind} {s : Sig} {y : Abs} (p : Effect × List Kind × Sig × Abs) → p.0 ≡ f → p.1 ≡ ks → p.2 ≡ s → p.3 ≡ y → p ≡ (f, ks, s, y)
four-same p a b c d = λ i. (a i, b i, c i, d i)

-- a signature is a functor, of exactly one effect, kinds, parameter and result, or it is not
pub sig-functor : (s : Sig) → Perhaps (λ (p : Effect × List Kind × Sig × Abs). s ≡ Sig.Fun p.0 p.1 p.2 p.3)
sig-functor (Sig.Fun f ks s y) = one (f, ks, s, y) refl (λ p e. four-same p (cc) (cc) (cc) (cc))
sig-functor (Sig.Val t) = none (λ p e. cc)
sig-functor (Sig.Typ t k) = none (λ p e. cc)
sig-functor (Sig.Meta x) = none (λ p e. cc)
sig-functor (Sig.Str fs) = none (λ p e. cc)

-- fields

-- a row has exactly one part at a label, or none
pub part-at : (row : Row) (l : Label) → Perhaps (λ t. HasPart row l t)
part-at Row.End l = none (λ t h. elim h [ ])
part-at (Row.More m u rest) l = go (dec_label l m) (part-at rest l)
  where
    other : (l : Label) (t : Ty) → l ≢ m → HasPart (Row.More m u rest) l t → HasPart rest l t
    other l t n HasPart.here = absurd (n refl)
    other l t n (HasPart.there d h) = h

    same : (l : Label) → l ≡ m → (t : Ty) → HasPart (Row.More m u rest) l t → t ≡ u
    same l e t HasPart.here = refl
    same l e t (HasPart.there d h) = absurd (d e)

    go : Dec (l ≡ m) → Perhaps (λ t. HasPart rest l t) → Perhaps (λ t. HasPart (Row.More m u rest) l t)
    go (yes e) p = one u (subst (λ l. HasPart (Row.More m u rest) l u) (sym e) HasPart.here) (λ t h. same l e t h)
    go (no n) (one t h only) = one t (HasPart.there n h) (λ q g. only q (other l q n g))
    go (no n) (none never) = none (λ t h. never t (other l t n h))

-- a structure has exactly one field of a name, or none
pub field-at : (fs : SigRow) (l : Name) → Perhaps (λ t. HasField fs l t)
field-at SigRow.End l = none (λ t h. elim h [ ])
field-at (SigRow.More m u rest) l = go (dec_name l m) (field-at rest l)
  where
    other : (l : Name) (t : Sig) → l ≢ m → HasField (SigRow.More m u rest) l t → HasField rest l t
    other l t n HasField.here = absurd (n refl)
    other l t n (HasField.there d h) = h

    same : (l : Name) → l ≡ m → (t : Sig) → HasField (SigRow.More m u rest) l t → t ≡ u
    same l e t HasField.here = refl
    same l e t (HasField.there d h) = absurd (d e)

    go : Dec (l ≡ m) → Perhaps (λ t. HasField rest l t) → Perhaps (λ t. HasField (SigRow.More m u rest) l t)
    go (yes e) p = one u (subst (λ l. HasField (SigRow.More m u rest) l u) (sym e) HasField.here) (λ t h. same l e t h)
    go (no n) (one t h only) = one t (HasField.there n h) (λ q g. only q (other l q n g))
    go (no n) (none never) = none (λ t h. never t (other l t n h))

-- new names

-- whether a name is new is decided
pub new_dec : (l : Name) (ms : List Name) → Dec (IsNew l ms)
new_dec l [] = yes tt
new_dec l (m ∷ ms) = go (dec_name l m) (new_dec l ms)
  where
    go : Dec (l ≡ m) → Dec (IsNew l ms) → Dec (IsNew l (m ∷ ms))
    go (yes p) d = no (λ h. h.0 p)
    go (no n) (yes h) = yes (n, h)
    go (no n) (no f) = no (λ h. f h.1)

-- either all are new, or there is a first one that is not
pub new-or-old : (fs : SigRow) (names : List Name) → AreNew fs names ⊎ One (λ l. FirstOld fs names l)
new-or-old SigRow.End names = inl tt
new-or-old (SigRow.More m s rest) names = go (new_dec m names) (new-or-old rest names)
  where
    first : (IsNew m names → ⊥) → (l : Name) → FirstOld (SigRow.More m s rest) names l → l ≡ m
    first f l (FirstOld.here g) = refl
    first f l (FirstOld.there n h) = absurd (f n)

    later : IsNew m names → (l : Name) → FirstOld (SigRow.More m s rest) names l → FirstOld rest names l
    later n l (FirstOld.here g) = absurd (g n)
    later n l (FirstOld.there q h) = h

    go : Dec (IsNew m names) → AreNew rest names ⊎ One (λ l. FirstOld rest names l) → AreNew (SigRow.More m s rest) names ⊎ One (λ l. FirstOld (SigRow.More m s rest) names l)
    go (no f) o = inr (m, FirstOld.here f, first f)
    go (yes n) (inl h) = inl (n, h)
    go (yes n) (inr o) = inr (o.0, FirstOld.there n o.1, λ l h. o.2 l (later n l h))

-- fields whose names are all new have no first name that is old
pub new-not_old : {fs : SigRow} {names : List Name} {l : Name} → AreNew fs names → FirstOld fs names l → ⊥
new-not_old h (FirstOld.here f) = f h.0
new-not_old h (FirstOld.there n g) = new-not_old h.1 g
