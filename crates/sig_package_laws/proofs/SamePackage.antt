-- Signatures that match each other and have the same rooted paths have one norm.
-- Main results: rename-field.
use Rattle.std.specs.Prelude.{ℕ, ◌<◌, List, [], ◌∷◌, ◌≡◌, ◌≢◌, ◌⊎◌, length}
use mathlib.Core.Logic.{inl, inr}
use Rattle.std.proofs.Common.{arith}
use Rattle.std.proofs.Math.Path.{refl, sym, ◌∙◌, ap, ap₂, subst, subst₂, fun_ext}
use Rattle.omega_kinds.specs.Kind.{Kind}
use Rattle.omega_kinds.specs.declared.effect.Effect.{Effect}
use Rattle.omega_kinds.specs.declared.effect.Effect.TheVariants.{Pure, Impure}
use Rattle.omega_kinds.specs.Name.{Name}
use Rattle.omega_types.specs.Ty.{Ty}
use Rattle.omega_types.specs.Conversion.{Conv}
use Rattle.omega_types.specs.Conversion.Conv.{c_sym, c_trans}
use Rattle.omega_types.specs.Binders.{extend, past, own, lifts, puts, OfKinds, NormalForms}
use Rattle.omega_types.proofs.Preservation.{Convertible}
use Rattle.omega_terms.specs.Term.{Term, TermRow}
use Rattle.sig_definitions.specs.Signatures.Sig.{Sig, Abs, SigRow, HasField, here, there}
use Rattle.sig_definitions.specs.Signatures.SigSubst.{rename_sig, rename_abs, rename_sig_row, substitute_sig, sig_at, raise_abs, abs_at_under}
use Rattle.sig_definitions.specs.Signatures.Alike.{ConvSig, NormalSigForm, NormalAbsForm, NormalSig, NormalAbs, NormalSigRow}
use Rattle.sig_definitions.specs.Explicit.SigPath.{SigPath, PartAt}
use Rattle.sig_definitions.specs.Explicit.RootPath.{Rooted}
use Rattle.sig_definitions.specs.Matching.Subtyping.{Sub, SubFields, SubResult, SubAbs, Match}
use Rattle.sig_definitions.specs.QuantifierOrder.{NewOrder, reordered, renumber, NormSig, Norm, NormRow}
use Rattle.sig_definitions.specs.Explicit.WellFormed.{BeforeAll, Rising, WellFormed, WellFormedRow, ExplicitResults, ExplicitResultsRow, Explicit, explicit, in_pure, in_impure, in_str}
use Rattle.sig_laws.proofs.Algebra.BinderLaws.{lifts-past, lifts-id}
use Rattle.sig_laws.proofs.Algebra.SigAlgebra.{rename-rename_sig, rename-rename_abs, rename_sig-id, rename_abs-id}
use Rattle.sig_laws.proofs.Algebra.AlikeLaws.{form-conv_sig, normal_sig-rename, normal_abs-rename, substitutes-convertible}
use Rattle.sig_laws.proofs.Algebra.Own.{split_index}
use Rattle.sig_laws.proofs.Algebra.Instances.{past-substitutes}
use Rattle.sig_laws.proofs.Formed.WellFormedLaws.{well_formed-kinds, explicit-kinds, well_formed-rename, explicit_results-rename, explicit-rename, before_all-field}
use Rattle.sig_package_laws.specs.Conditions.{SameNumbers, EachAbs, EachSig, SameAbs, SameSig}
use Rattle.omega_kinds.proofs.NameLaws.{name-irreflexive, name-transitive}
use Rattle.omega_types.specs.Normaliser.{kind_at}
use Rattle.sig_norm_laws.proofs.Orders.OrderUnique.{one-rooted, same-own}
use Rattle.sig_explicit_laws.proofs.Liftings.{lifts-below}
use Rattle.sig_norm_laws.proofs.Norm.NormRenamed.{Undone, undone-lifts, norm-renamed, norm_abs-renamed}
use Rattle.sig_norm_laws.proofs.Orders.Aligned.{Agree, Aligned, common, sig_at-under, aligned-instance, form-kinds, parts_agree, same-hidden, same-body, same-kinds, plain-form}
use Rattle.sig_package_laws.proofs.SameLaws.{same-flip, same_abs-flip, same-renamed, same_abs-renamed, own-renamed, same-aligned, field-renamed}
use Rattle.sig_norm_laws.proofs.Norm.Shuffles.{Paired, paired-turned, shuffle, shuffle-below, shuffle-own, shuffle-past, past-same, shuffle-maps, undone-shuffle, reordered-same, renumbered_sig-same, renumbered_abs-same}
use Rattle.sig_package_laws.proofs.Pairs.{Linked, Placed, Pairs, pairs, pair, placed-shuffle, placed_sig, placed_abs}
use Rattle.sig_norm_laws.proofs.Orders.OrderExists.{field-split}
use Rattle.sig_laws.proofs.Formed.Conditions.{results-first, row-first}
use Rattle.sig_laws.proofs.Algebra.PathLaws.{one-field}
use Rattle.omega_types.proofs.BinderPuts.{puts-substitutes, puts-convertible, kinds-fit}
use Rattle.sig_laws.proofs.Formed.WellFormedShape.{after-differs}
use Rattle.sig_laws.proofs.Formed.Shows.{rooted-shows, shows-substitute, shows-alike}
use Rattle.sig_laws.proofs.Formed.RootNumbers.{rooted-of}

-- normal and well formed, and ordered explicit where a right side is

abbrev pub Good : List Kind → Sig → Type 0
Good ctx s = NormalSig ctx s × WellFormed ctx s × ExplicitResults ctx s

abbrev pub GoodAbs : List Kind → Abs → Type 0
GoodAbs ctx x = NormalAbs ctx x × Explicit ctx x

good-renamed : {ctx other : List Kind} {s : Sig} (r q : ℕ → ℕ) → Undone ctx other r q → Good ctx s → Good other (rename_sig r s)
good-renamed {s = s} r q u g = (normal_sig-rename r u.there s g.0, well_formed-rename r u.there g.1, explicit_results-rename r u.there g.2)

good_abs-renamed : {ctx other : List Kind} {x : Abs} (r q : ℕ → ℕ) → Undone ctx other r q → GoodAbs ctx x → GoodAbs other (rename_abs r x)
good_abs-renamed {x = x} r q u g = (normal_abs-rename r u.there x g.0, explicit-rename r u.there g.1)

body-good : {ctx ks : List Kind} {s : Sig} → GoodAbs ctx (Abs.Ex ks s) → Good (extend ctx ks) s
body-good (n, explicit w r e) = (n, w, r)

undone-then : {a b c : List Kind} {r q f g : ℕ → ℕ} → Undone a b r q → Undone b c f g → Undone a c (λ i. f (r i)) (λ i. q (g i))
undone-then {r = r} {q = q} {f = f} {g = g} u v = record {
  there = λ i k x. v.there (r i) k (u.there i k x);
  back = λ i k x. u.back (g i) k (v.back i k x);
  back_there = λ i. ap q (v.back_there (r i)) ∙ u.back_there i;
  there_back = λ i. ap f (u.there_back (g i)) ∙ v.there_back i;
}

-- from under js to under ks, by q from outside, and back to under js
pub shuffle-across : {ks js : List Kind} {to from : ℕ → ℕ} → Paired ks js to from → (q : ℕ → ℕ) (x : ℕ) → shuffle js ks from (lifts ks q (shuffle ks js to x)) ≡ lifts js q x
shuffle-across {ks} {js} {to} {from} p q x = go (split_index js x)
  where
    go : (x < length js) ⊎ ((j : ℕ) × (x ≡ past js j)) → shuffle js ks from (lifts ks q (shuffle ks js to x)) ≡ lifts js q x
    go (inl h) =
        let lv : own js x < length js = omega (arith, h) in
        let b = p.to_below (own js x) lv in
        let e = shuffle-below ks js to x h in
        let o : own js (own js x) ≡ x = omega (arith, h) in
        ap (λ n. shuffle js ks from (lifts ks q n)) e ∙
        (ap (shuffle js ks from) (lifts-below ks q (own ks (to (own js x))) (omega (arith, b))) ∙
        (shuffle-own js ks from (to (own js x)) b ∙
        (ap (own js) (p.from_to (own js x) lv) ∙ (o ∙ sym (lifts-below js q x h)))))
    go (inr (j, e)) =
        ap (λ n. shuffle js ks from (lifts ks q (shuffle ks js to n))) e ∙
        (ap (λ n. shuffle js ks from (lifts ks q n)) (shuffle-past ks js to j ∙ past-same p j) ∙
        (ap (shuffle js ks from) (lifts-past ks q j) ∙
        (shuffle-past js ks from (q j) ∙ (sym (past-same p (q j)) ∙ sym (ap (lifts js q) e ∙ lifts-past js q j)))))

pub across_sig : {ks js : List Kind} {to from : ℕ → ℕ} → Paired ks js to from → (q : ℕ → ℕ) (t : Sig) → rename_sig (λ i. shuffle js ks from (lifts ks q i)) (rename_sig (shuffle ks js to) t) ≡ rename_sig (lifts js q) t
across_sig {ks} {js} {to} {from} p q t = rename-rename_sig (λ i. shuffle js ks from (lifts ks q i)) (shuffle ks js to) t ∙ ap (λ f. rename_sig f t) (fun_ext (shuffle-across p q))

pub across_abs : {ks js : List Kind} {to from : ℕ → ℕ} → Paired ks js to from → (q : ℕ → ℕ) (t : Abs) → rename_abs (λ i. shuffle js ks from (lifts ks q i)) (rename_abs (shuffle ks js to) t) ≡ rename_abs (lifts js q) t
across_abs {ks} {js} {to} {from} p q t = rename-rename_abs (λ i. shuffle js ks from (lifts ks q i)) (shuffle ks js to) t ∙ ap (λ f. rename_abs f t) (fun_ext (shuffle-across p q))

-- a match places each variable of the right side, where parts at one path agree
placed-by : (ctx ks js : List Kind) (s t r : Sig) (guess : List Ty) → OfKinds (extend ctx js) guess ks → NormalSigForm (extend ctx js) (sig_at guess (rename_sig (lifts ks (past js)) s)) r
    → ((p : SigPath) (bs cs : List Kind) (t' u : Ty) (k j : Kind) → PartAt t p bs (Sig.Typ t' k) → PartAt r p cs (Sig.Typ u j) → Agree (extend ctx js) bs cs t' u k j)
    → Placed ctx js t ctx ks s (puts guess (λ n. Ty.Var (past js n)))
placed-by ctx ks js s t r guess o f h i j li lj l = common (h l.0) l.1 (shows-alike (shows-substitute (puts guess (λ n. Ty.Var (past js n))) (puts-substitutes o (past-substitutes js ctx)) (rooted-shows l.2))
    (subst (λ z. ConvSig (extend ctx js) z r) (sig_at-under ks js guess s (kinds-fit o)) (form-conv_sig f)))

root-of : {ctx ks : List Kind} {s : Sig} {i : ℕ} → Explicit ctx (Abs.Ex ks s) → i < length ks → (p : SigPath) × Rooted (extend ctx ks) s (own ks i) p
root-of {ctx} {ks} {s} {i} (explicit w r e) lt = ((e i lt).0, rooted-of (e i lt).1)

linked-right : (ctx ks js : List Kind) (s t : Sig) → SameAbs ctx ctx (Abs.Ex ks s) (Abs.Ex js t) → Explicit ctx (Abs.Ex js t) → (j : ℕ) → j < length js → (i : ℕ) × (i < length ks) × Linked ctx ks s ctx js t i j
linked-right ctx ks js s t (EachAbs.ex (f, g) a) e j lt = let x = root-of e lt in let w = g x.0 (j, lt, x.1) in (w.0, w.1, (x.0, w.2, x.1))

linked-left : (ctx ks js : List Kind) (s t : Sig) → SameAbs ctx ctx (Abs.Ex ks s) (Abs.Ex js t) → Explicit ctx (Abs.Ex ks s) → (i : ℕ) → i < length ks → (j : ℕ) × (j < length js) × Linked ctx ks s ctx js t i j
linked-left ctx ks js s t (EachAbs.ex (f, g) a) e i lt = let x = root-of e lt in let w = f x.0 (i, lt, x.1) in (w.0, w.1, (x.0, x.1, w.2))

bodies : {ctx other ks js : List Kind} {s t : Sig} → SameAbs ctx other (Abs.Ex ks s) (Abs.Ex js t) → SameSig (extend ctx ks) (extend other js) s t
bodies (EachAbs.ex h a) = a

-- what matching both ways says of two lists of binders
pub data Result (ctx second ks js : List Kind) (s t n m : Sig) (ts us : List Ty) : Type 0 where
  result : (to from : ℕ → ℕ) → Paired ks js to from → ((j : ℕ) → j < length js → Linked ctx ks s ctx js t (to j) j)
      → n ≡ rename_sig (shuffle ks js to) m
      → Convertible (extend ctx js) (extend ctx ks) (puts ts (λ n. Ty.Var (past ks n))) (λ n. Ty.Var (shuffle ks js to n))
      → Convertible (extend second ks) (extend second js) (puts us (λ n. Ty.Var (past js n))) (λ n. Ty.Var (shuffle js ks from n))
      → Result ctx second ks js s t n m ts us

-- what is needed of the right side, seen from the left one
pub data Ready (ctx : List Kind) (s t n m : Sig) : Type 0 where
  ready : {second : List Kind} {q r : ℕ → ℕ} {g : Term} → Undone ctx second q r → Sub second (rename_sig q t) (rename_sig q s) g → SameSig ctx ctx s t → Good ctx s → Good ctx t → NormSig ctx s n → NormSig ctx t m → Ready ctx s t n m

pub data ReadyAbs (ctx : List Kind) (x y n m : Abs) : Type 0 where
  ready : {second : List Kind} {q r : ℕ → ℕ} {g : Term} → Undone ctx second q r → SubAbs second (rename_abs q y) (rename_abs q x) g → SameAbs ctx ctx x y → GoodAbs ctx x → GoodAbs ctx y → Norm ctx x n → Norm ctx y m → ReadyAbs ctx x y n m

-- the step from a match and the match back, but for the recursion
pair-step : (ctx second ks js : List Kind) (s t n m r : Sig) (q q' : ℕ → ℕ) (guess ts : List Ty) {us : List Ty} {g : Term}
    → OfKinds (extend ctx ks) guess js → NormalForms (extend ctx ks) guess js ts → NormalSigForm (extend ctx ks) (sig_at guess (rename_sig (lifts js (past ks)) t)) r
    → ((p : SigPath) (bs cs : List Kind) (t' u : Ty) (k j : Kind) → PartAt s p bs (Sig.Typ t' k) → PartAt r p cs (Sig.Typ u j) → Agree (extend ctx ks) bs cs t' u k j)
    → Undone ctx second q q'
    → Match (extend second js) (rename_sig (lifts js q) t) (Abs.Ex ks (rename_sig (lifts ks (past js)) (rename_sig (lifts ks q) s))) us g
    → SameAbs ctx ctx (Abs.Ex ks s) (Abs.Ex js t) → GoodAbs ctx (Abs.Ex ks s) → GoodAbs ctx (Abs.Ex js t) → NormSig (extend ctx ks) s n → NormSig (extend ctx js) t m
    → ((k : Sig) → Ready (extend ctx ks) s r n k → n ≡ k)
    → Result ctx second ks js s t n m ts us
pair-step ctx second ks js s t n m r q q' guess ts {us} o nf f h u (Match.at {r = r2} {guess = guess2} {f = e2} o2 nf2 f2 sub2) same gs gt a b ih =
    go (pair ctx ks s ctx js t (extend second js) (puts guess (λ n. Ty.Var (past ks n))) (puts guess2 (λ n. Ty.Var (past js n)))
    (linked-right ctx ks js s t same gt.1) (linked-left ctx ks js s t same gs.1)
    (puts-substitutes o (past-substitutes ks ctx)) put back)
  where
    put : Placed ctx ks s ctx js t (puts guess (λ n. Ty.Var (past ks n)))
    put = placed-by ctx js ks t s r guess o f h

    s2 : Sig
    s2 = rename_sig (lifts ks q) s

    t2 : Sig
    t2 = rename_sig (lifts js q) t

    same2 : SameAbs second second (Abs.Ex js (rename_sig (lifts js q) t)) (Abs.Ex ks (rename_sig (lifts ks q) s))
    same2 = same_abs-renamed q q' u (same_abs-flip (same_abs-renamed q q' u same))

    good-s2 : GoodAbs second (Abs.Ex ks (rename_sig (lifts ks q) s))
    good-s2 = good_abs-renamed q q' u gs

    good-t2 : GoodAbs second (Abs.Ex js (rename_sig (lifts js q) t))
    good-t2 = good_abs-renamed q q' u gt

    al2 : Aligned (extend second js) (extend second js) (rename_sig (lifts js q) t) r2
    al2 = aligned-instance second ks js (rename_sig (lifts ks q) s) (rename_sig (lifts js q) t) r2 guess2 o2 f2 (same-aligned (bodies same2) (body-good good-t2).1 (body-good good-s2).1)

    put2 : Placed second js (rename_sig (lifts js q) t) second ks (rename_sig (lifts ks q) s) (puts guess2 (λ n. Ty.Var (past js n)))
    put2 = placed-by second ks js (rename_sig (lifts ks q) s) (rename_sig (lifts js q) t) r2 guess2 o2 f2
        (λ p bs cs t' w k j x y. parts_agree sub2 al2 (well_formed-kinds (body-good good-t2).1) (form-kinds f2) x y refl)

    back : (i j : ℕ) → i < length ks → j < length js → Linked ctx ks s ctx js t i j → (k : Kind) × Conv (extend second js) (Ty.Var (own js j)) (puts guess2 (λ n. Ty.Var (past js n)) (own ks i)) k
    back i j li lj l = put2 j i lj li (l.0, own-renamed ctx second js q q' u j l.0 lj l.2, own-renamed ctx second ks q q' u i l.0 li l.1)

    go : Pairs ctx ks s ctx js t → Result ctx second ks js s t n m ts us
    go (pairs to from p l1 l2) = result to from p l1 (ih (rename_sig (shuffle ks js to) m) again)
        (λ i k x. c_trans (c_sym (puts-convertible nf (substitutes-convertible (past-substitutes ks ctx)) i k x)) (conv1 i k x))
        (λ i k x. c_trans (c_sym (puts-convertible nf2 (substitutes-convertible (past-substitutes js second)) i k x)) (conv2 i k x))
      where
        conv1 : Convertible (extend ctx js) (extend ctx ks) (puts guess (λ n. Ty.Var (past ks n))) (λ n. Ty.Var (shuffle ks js to n))
        conv1 = placed-shuffle ctx ks js to from guess p o (λ j lt. put (to j) j (p.to_below j lt) lt (l1 j lt))

        conv2 : Convertible (extend second ks) (extend second js) (puts guess2 (λ n. Ty.Var (past js n))) (λ n. Ty.Var (shuffle js ks from n))
        conv2 = placed-shuffle second js ks from to guess2 (paired-turned p) o2 (λ i lt. back i (from i) lt (p.from_below i lt) (l2 i lt))

        r-is : r ≡ rename_sig (shuffle ks js to) t
        r-is = placed_sig (puts guess (λ n. Ty.Var (past ks n))) (shuffle ks js to) conv1 (shuffle-maps p ctx) (body-good gt).0 (well_formed-kinds (body-good gt).1)
            (subst (λ z. NormalSigForm (extend ctx ks) z r) (sig_at-under js ks guess t (kinds-fit o)) f)

        r2-is : r2 ≡ rename_sig (λ i. shuffle js ks from (lifts ks q i)) s
        r2-is = placed_sig (puts guess2 (λ n. Ty.Var (past js n))) (shuffle js ks from) conv2 (shuffle-maps (paired-turned p) second) (body-good good-s2).0 (well_formed-kinds (body-good good-s2).1)
            (subst (λ z. NormalSigForm (extend second js) z r2) (sig_at-under ks js guess2 (rename_sig (lifts ks q) s) (kinds-fit o2)) f2) ∙ rename-rename_sig (shuffle js ks from) (lifts ks q) s

        v : Undone (extend ctx js) (extend ctx ks) (shuffle ks js to) (shuffle js ks from)
        v = undone-shuffle p ctx

        again : Ready (extend ctx ks) s r n (rename_sig (shuffle ks js to) m)
        again = subst (λ z. Ready (extend ctx ks) s z n (rename_sig (shuffle ks js to) m)) (sym r-is)
            (Ready.ready (undone-then (undone-lifts ks u) (undone-shuffle (paired-turned p) second))
            (subst₂ (λ z w. Sub (extend second js) z w e2) (sym (across_sig p q t)) r2-is sub2)
            (same-renamed (shuffle ks js to) (shuffle js ks from) v (bodies same))
            (body-good gs) (good-renamed (shuffle ks js to) (shuffle js ks from) v (body-good gt)) a (norm-renamed (shuffle ks js to) (shuffle js ks from) v b))

-- inversions of what is given the other way

pub data MetaParts (ctx : List Kind) (x y : Abs) : Type 0 where
  parts : {f g : Term} → SubAbs ctx x y f → SubAbs ctx y x g → MetaParts ctx x y

meta-parts : {ctx : List Kind} {x y : Abs} {f : Term} → Sub ctx (Sig.Meta x) (Sig.Meta y) f → MetaParts ctx x y
meta-parts (Sub.meta a b) = parts a b

pub data FunParts (ctx ks js : List Kind) (e d : Effect) (s t : Sig) (x z : Abs) : Type 0 where
  parts : {ts : List Ty} {y : Abs} {f g : Term} → Match (extend ctx js) t (raise_abs js (Abs.Ex ks s)) ts f → NormalAbsForm (extend ctx js) (abs_at_under js ts x) y → SubResult (extend ctx js) e d y z g → FunParts ctx ks js e d s t x z

fun-parts : {ctx ks js : List Kind} {e d : Effect} {s t : Sig} {x z : Abs} {f : Term} → Sub ctx (Sig.Fun e ks s x) (Sig.Fun d js t z) f → FunParts ctx ks js e d s t x z
fun-parts (Sub.fun m n r) = parts m n r

pub data Found (ctx js : List Kind) (t : Sig) (y : Abs) : Type 0 where
  found : {us : List Ty} {g : Term} → Match (extend ctx js) t (raise_abs js y) us g → Found ctx js t y

past-none : (x : Abs) → raise_abs [] x ≡ x
past-none x = rename_abs-id x

abs-match : {ctx js : List Kind} {t : Sig} {y : Abs} {f : Term} → SubAbs ctx (Abs.Ex js t) y f → Found ctx js t y
abs-match {ctx} {t = t} {y = y} (SubAbs.plain {ts = ts} {f = f} m p) = found (subst (λ z. Match ctx t z ts f) (sym (past-none y)) m)
abs-match (SubAbs.hidden m p) = found m

pub data FieldSub (ctx : List Kind) (fs : SigRow) (l : Name) (t : Sig) : Type 0 where
  field_sub : {s : Sig} {f : Term} → HasField fs l s → Sub ctx s t f → FieldSub ctx fs l t

field-sub : {ctx : List Kind} {fs gs : SigRow} {parts : TermRow} {l : Name} {t : Sig} → SubFields ctx fs gs parts → HasField gs l t → FieldSub ctx fs l t
field-sub SubFields.end h = elim h [ ]
field-sub (SubFields.more hf sub rest) here = field_sub hf sub
field-sub (SubFields.more hf sub rest) (there n h) = field-sub rest h

str-fields : {ctx : List Kind} {fs gs : SigRow} {f : Term} {l : Name} {t : Sig} → Sub ctx (Sig.Str fs) (Sig.Str gs) f → HasField gs l t → FieldSub ctx fs l t
str-fields (Sub.str p) h = field-sub p h

-- fields

-- the field of a name, after a renaming in all fields
pub rename-field : (r : ℕ → ℕ) {fs : SigRow} {l : Name} {s : Sig} → HasField fs l s → HasField (rename_sig_row r fs) l (rename_sig r s)
rename-field r here = here
rename-field r (there n h) = there n (rename-field r h)

-- what is needed of the two rows: each field of the rest on the left has one of its name on the right, and back
pub record RowReady (ctx : List Kind) (whole all fs gs : SigRow) (second : List Kind) (q r : ℕ → ℕ) : Type 0 where
  pub undone : Undone ctx second q r
  pub back : (l : Name) (s : Sig) → HasField fs l s → (t : Sig) × (g : Term) × HasField gs l t × Sub second (rename_sig q t) (rename_sig q s) g
  pub keeps : (l : Name) (s t : Sig) → HasField gs l t → HasField whole l s → HasField fs l s
  pub same : (l : Name) (s t : Sig) → HasField whole l s → HasField all l t → SameSig ctx ctx s t
  pub inside : (l : Name) (t : Sig) → HasField gs l t → HasField all l t
  pub left_in : (l : Name) (s : Sig) → HasField fs l s → HasField whole l s

abbrev pub GoodRow : List Kind → SigRow → Type 0
GoodRow ctx fs = NormalSigRow ctx fs × Rising fs × WellFormedRow ctx fs × ExplicitResultsRow ctx fs

-- one field of each
first-name : {ctx : List Kind} {whole all fs gs : SigRow} {l m : Name} {s t : Sig} {second : List Kind} {q r : ℕ → ℕ} {s' : Sig} → RowReady ctx whole all (SigRow.More l s fs) (SigRow.More m t gs) second q r → BeforeAll l fs → BeforeAll m gs → HasField whole m s' → l ≡ m
first-name {whole = whole} {fs = fs} {gs = gs} {l = l} {m = m} {s = s} {t = t} {s' = s'} o bl bm hf = go (field-split (o.back l s here).2) (field-split (o.keeps m s' t here hf))
  where
    go : ((l ≡ m) × ((o.back l s here).0 ≡ t)) ⊎ HasField gs l (o.back l s here).0 → ((m ≡ l) × (s' ≡ s)) ⊎ HasField fs m s' → l ≡ m
    go (inl e) f = e.0
    go (inr h) (inl e) = sym e.0
    go (inr h) (inr g) = absurd (name-irreflexive l (name-transitive l m l (before_all-field l m bl g) (before_all-field m l bm h)))

rest-ready : {ctx : List Kind} {whole all fs gs : SigRow} {l m : Name} {s t : Sig} {second : List Kind} {q r : ℕ → ℕ} → RowReady ctx whole all (SigRow.More l s fs) (SigRow.More m t gs) second q r → BeforeAll l fs → BeforeAll m gs → l ≡ m → RowReady ctx whole all fs gs second q r
rest-ready {whole = whole} {all = all} {fs = fs} {gs = gs} {l = l} {m = m} {s = s} {t = t} {second = second} {q = q} o bl bm e = record {
  undone = o.undone;
  back = λ k z h. let d = after-differs l k bl h in let w = o.back k z (there d h) in (w.0, w.1, tail k w.0 (λ f. d (f ∙ sym e)) (field-split w.2), w.3);
  keeps = λ k z w h g. let d = after-differs m k bm h in tail-left k z (λ f. d (f ∙ e)) (field-split (o.keeps k z w (there d h) g));
  same = o.same;
  inside = λ k w h. o.inside k w (there (after-differs m k bm h) h);
  left_in = λ k z h. o.left_in k z (there (after-differs l k bl h) h);
}
  where
    tail : (k : Name) (w : Sig) → k ≢ m → ((k ≡ m) × (w ≡ t)) ⊎ HasField gs k w → HasField gs k w
    tail k w d (inl f) = absurd (d f.0)
    tail k w d (inr h) = h

    tail-left : (k : Name) (z : Sig) → k ≢ l → ((k ≡ l) × (z ≡ s)) ⊎ HasField fs k z → HasField fs k z
    tail-left k z d (inl f) = absurd (d f.0)
    tail-left k z d (inr h) = h

-- parts of good signatures

good-meta : {ctx : List Kind} {x : Abs} → Good ctx (Sig.Meta x) → GoodAbs ctx x
good-meta (n, WellFormed.meta e, r) = (n, e)

good-param : {ctx ks : List Kind} {e : Effect} {s : Sig} {x : Abs} → Good ctx (Sig.Fun e ks s x) → GoodAbs ctx (Abs.Ex ks s)
good-param (n, WellFormed.pure h w, r) = (n.0, h)
good-param (n, WellFormed.impure h w, r) = (n.0, h)

good-impure : {ctx ks : List Kind} {s : Sig} {x : Abs} → Good ctx (Sig.Fun Impure ks s x) → GoodAbs (extend ctx ks) x
good-impure (n, w, in_impure e) = (n.1, e)

good-pure : {ctx ks : List Kind} {s r : Sig} → Good ctx (Sig.Fun Pure ks s (Abs.Ex [] r)) → Good (extend ctx ks) r
good-pure (n, WellFormed.pure h w, in_pure r) = (n.1, w, r)

good-fields : {ctx : List Kind} {fs : SigRow} → Good ctx (Sig.Str fs) → GoodRow ctx fs
good-fields (n, WellFormed.str r w, in_str x) = (n, r, w, x)

row-ready : {ctx : List Kind} {fs gs : SigRow} {second : List Kind} {q r : ℕ → ℕ} {g : Term} → Undone ctx second q r → Sub second (Sig.Str (rename_sig_row q gs)) (Sig.Str (rename_sig_row q fs)) g → ((l : Name) (s t : Sig) → HasField fs l s → HasField gs l t → SameSig ctx ctx s t) → RowReady ctx fs gs fs gs second q r
row-ready {fs = fs} {gs = gs} {second = second} {q = q} u d h = record {
  undone = u;
  back = λ l s f. go l s (str-fields d (rename-field q f));
  keeps = λ l s t f g. g;
  same = h;
  inside = λ l t f. f;
  left_in = λ l s f. f;
}
  where
    go : (l : Name) (s : Sig) → FieldSub second (rename_sig_row q gs) l (rename_sig q s) → (t : Sig) × (g : Term) × HasField gs l t × Sub second (rename_sig q t) (rename_sig q s) g
    go l s (field_sub {f = f} h sub) = let w = field-renamed q gs h in (w.0, f, w.1, subst (λ z. Sub second z (rename_sig q s) f) w.2 sub)

ready-meta : {ctx second : List Kind} {x y n m : Abs} {q r : ℕ → ℕ} → Undone ctx second q r → MetaParts second (rename_abs q y) (rename_abs q x) → SameAbs ctx ctx x y → GoodAbs ctx x → GoodAbs ctx y → Norm ctx x n → Norm ctx y m → ReadyAbs ctx x y n m
ready-meta u (parts a b) same gx gy nx ny = ReadyAbs.ready u a same gx gy nx ny

-- the end of each case

abs-finish : (ctx second ks js : List Kind) (s t n m : Sig) {ts : List Ty} {order old : List ℕ} {t2 : Sig} {y2 : Abs}
    → Found second js t2 y2
    → ((us : List Ty) (g : Term) → Match (extend second js) t2 (raise_abs js y2) us g → Result ctx second ks js s t n m ts us)
    → NewOrder ctx ks n order → NewOrder ctx js m old
    → Path Abs (Abs.Ex (reordered ks order) (rename_sig (renumber ks order) n)) (Abs.Ex (reordered js old) (rename_sig (renumber js old) m))
abs-finish ctx second ks js s t n m {ts} {order} {old} (found {us = us} {g = g} d) ih o w = go (ih us g d)
  where
    go : {us : List Ty} → Result ctx second ks js s t n m ts us → Path Abs (Abs.Ex (reordered ks order) (rename_sig (renumber ks order) n)) (Abs.Ex (reordered js old) (rename_sig (renumber js old) m))
    go (result to from p l e a b) =
        let x = reordered-same ctx ks js to from p m n e o w in
        ap₂ Abs.Ex x.1 (ap (rename_sig (renumber ks order)) e ∙ renumbered_sig-same ctx ks js to from p m w x.0 m)

no-mixed : {ctx ks js : List Kind} {e : Effect} {s t : Sig} {x z : Abs} → e ≢ Impure → FunParts ctx ks js Impure e s t x z → ⊥
no-mixed h (parts m n (SubResult.to_impure a)) = h refl

impure-finish : (ctx second ks js : List Kind) (p p' np mp : Sig) (x y z nx nz : Abs) (q r : ℕ → ℕ) {ts : List Ty} {o1 o2 : List ℕ}
    → FunParts second js ks Impure Impure (rename_sig (lifts js q) p') (rename_sig (lifts ks q) p) (rename_abs (lifts js q) z) (rename_abs (lifts ks q) x)
    → NormalAbsForm (extend ctx js) (abs_at_under js ts x) y
    → ((us : List Ty) (g : Term) → Match (extend second ks) (rename_sig (lifts ks q) p) (raise_abs ks (Abs.Ex js (rename_sig (lifts js q) p'))) us g → Result ctx second js ks p' p mp np ts us)
    → ((n m : Abs) → ReadyAbs (extend ctx js) y z n m → n ≡ m)
    → Undone ctx second q r → SameAbs (extend ctx ks) (extend ctx js) x z → GoodAbs (extend ctx ks) x → GoodAbs (extend ctx js) z
    → NewOrder ctx ks np o1 → NewOrder ctx js mp o2 → Norm (extend ctx ks) x nx → Norm (extend ctx js) z nz
    → Path Sig (Sig.Fun Impure (reordered ks o1) (rename_sig (renumber ks o1) np) (rename_abs (renumber ks o1) nx)) (Sig.Fun Impure (reordered js o2) (rename_sig (renumber js o2) mp) (rename_abs (renumber js o2) nz))
impure-finish ctx second ks js p p' np mp x y z nx nz q r {ts} {o1} {o2} (parts {ts = us} {y = z1} {f = g} dm dn (SubResult.to_impure {g = a2} da)) nf ihp ihw u same gx gz n1 n2 hx hz = go (ihp us g dm)
  where
    gz2 : GoodAbs (extend second js) (rename_abs (lifts js q) z)
    gz2 = good_abs-renamed (lifts js q) (lifts js r) (undone-lifts js u) gz

    go : Result ctx second js ks p' p mp np ts us → Path Sig (Sig.Fun Impure (reordered ks o1) (rename_sig (renumber ks o1) np) (rename_abs (renumber ks o1) nx)) (Sig.Fun Impure (reordered js o2) (rename_sig (renumber js o2) mp) (rename_abs (renumber js o2) nz))
    go (result to from w l e c1 c2) =
        let m = shuffle js ks to in
        let v = undone-shuffle w ctx in
        let y-is : y ≡ rename_abs m x = placed_abs (puts ts (λ n. Ty.Var (past js n))) m c1 (shuffle-maps w ctx) gx.0 (explicit-kinds gx.1) nf in
        let z-is : z1 ≡ rename_abs (λ i. shuffle ks js from (lifts js q i)) z =
        placed_abs (puts us (λ n. Ty.Var (past ks n))) (shuffle ks js from) c2 (shuffle-maps (paired-turned w) second) gz2.0 (explicit-kinds gz2.1) dn ∙ rename-rename_abs (shuffle ks js from) (lifts js q) z in
        let back : SubAbs (extend second ks) (rename_abs (λ i. shuffle ks js from (lifts js q i)) z) (rename_abs (λ i. shuffle ks js from (lifts js q i)) (rename_abs m x)) a2 =
        subst₂ (λ b c. SubAbs (extend second ks) b c a2) z-is (sym (across_abs w q x)) da in
        let again : ReadyAbs (extend ctx js) (rename_abs m x) z (rename_abs m nx) nz =
        ReadyAbs.ready (undone-then (undone-lifts js u) (undone-shuffle (paired-turned w) second)) back
        (same_abs-flip (same_abs-renamed m (shuffle ks js from) v (same_abs-flip same)))
        (good_abs-renamed m (shuffle ks js from) v gx) gz (norm_abs-renamed m (shuffle ks js from) v hx) hz in
        let f : rename_abs m nx ≡ nz = ihw (rename_abs m nx) nz (subst (λ b. ReadyAbs (extend ctx js) b z (rename_abs m nx) nz) (sym y-is) again) in
        let k = reordered-same ctx js ks to from w np mp e n2 n1 in
        let left : rename_sig (renumber ks o1) np ≡ rename_sig (renumber js o2) mp = sym (ap (rename_sig (renumber js o2)) e ∙ renumbered_sig-same ctx js ks to from w np n1 k.0 np) in
        let right : rename_abs (renumber ks o1) nx ≡ rename_abs (renumber js o2) nz = sym (ap (rename_abs (renumber js o2)) (sym f) ∙ renumbered_abs-same ctx js ks to from w np n1 k.0 nx) in
        same-fun Impure (sym k.1) left right
      where
        same-fun : (e : Effect) {ks js : List Kind} {s t : Sig} {x y : Abs} → ks ≡ js → s ≡ t → x ≡ y → Path Sig (Sig.Fun e ks s x) (Sig.Fun e js t y)
        same-fun e a b c i = Sig.Fun e (a i) (b i) (c i)

same-numbers : {ctx ks js : List Kind} {s t : Sig} → SameNumbers ctx ks s ctx js t → SameNumbers ctx js t ctx ks s → SameSig (extend ctx ks) (extend ctx js) s t → SameAbs ctx ctx (Abs.Ex ks s) (Abs.Ex js t)
same-numbers n m a = EachAbs.ex (λ p x. let w = n x.0 p x.1 x.2 in (x.0, w.0, w.1), λ p x. let w = m x.0 p x.1 x.2 in (x.0, w.0, w.1)) a

pure-finish : (ctx second ks js : List Kind) (p p' np mp b b1 b' nb mb : Sig) (q r : ℕ → ℕ) {ts : List Ty}
    → FunParts second js ks Pure Pure (rename_sig (lifts js q) p') (rename_sig (lifts ks q) p) (Abs.Ex [] (rename_sig (lifts js q) b')) (Abs.Ex [] (rename_sig (lifts ks q) b))
    → NormalSigForm (extend ctx js) (substitute_sig (puts ts (λ n. Ty.Var (past js n))) b) b1
    → ((us : List Ty) (g : Term) → Match (extend second ks) (rename_sig (lifts ks q) p) (raise_abs ks (Abs.Ex js (rename_sig (lifts js q) p'))) us g → Result ctx second js ks p' p mp np ts us)
    → ((n m : Sig) → Ready (extend ctx js) b1 b' n m → n ≡ m)
    → Undone ctx second q r → SameNumbers ctx js p' ctx ks p → SameSig (extend ctx ks) (extend ctx js) b b' → Good (extend ctx ks) b → Good (extend ctx js) b'
    → NormSig (extend ctx ks) b nb → NormSig (extend ctx js) b' mb
    → Path Sig (Sig.Fun Pure ks np (Abs.Ex [] nb)) (Sig.Fun Pure js mp (Abs.Ex [] mb))
pure-finish ctx second ks js p p' np mp b b1 b' nb mb q r {ts} (parts {ts = us} {f = g} dm dn (SubResult.both_pure {s = z1} {g = a2} da)) nf ihp ihw u nums same gb gb' hb hb' = go (ihp us g dm)
  where
    gb2 : Good (extend second js) (rename_sig (lifts js q) b')
    gb2 = good-renamed (lifts js q) (lifts js r) (undone-lifts js u) gb'

    go : Result ctx second js ks p' p mp np ts us → Path Sig (Sig.Fun Pure ks np (Abs.Ex [] nb)) (Sig.Fun Pure js mp (Abs.Ex [] mb))
    go (result to from w l e c1 c2) =
        let m = shuffle js ks to in
        let v = undone-shuffle w ctx in
        let b-is : b1 ≡ rename_sig m b = placed_sig (puts ts (λ n. Ty.Var (past js n))) m c1 (shuffle-maps w ctx) gb.0 (well_formed-kinds gb.1) nf in
        let z-is : z1 ≡ rename_sig (λ i. shuffle ks js from (lifts js q i)) b' =
        placed_sig (puts us (λ n. Ty.Var (past ks n))) (shuffle ks js from) c2 (shuffle-maps (paired-turned w) second) gb2.0 (well_formed-kinds gb2.1) (plain-form dn) ∙ rename-rename_sig (shuffle ks js from) (lifts js q) b' in
        let back : Sub (extend second ks) (rename_sig (λ i. shuffle ks js from (lifts js q i)) b') (rename_sig (λ i. shuffle ks js from (lifts js q i)) (rename_sig m b)) a2 =
        subst₂ (λ x y. Sub (extend second ks) x y a2) z-is (sym (across_sig w q b)) da in
        let again : Ready (extend ctx js) (rename_sig m b) b' (rename_sig m nb) mb =
        Ready.ready (undone-then (undone-lifts js u) (undone-shuffle (paired-turned w) second)) back
        (same-flip (same-renamed m (shuffle ks js from) v (same-flip same)))
        (good-renamed m (shuffle ks js from) v gb) gb' (norm-renamed m (shuffle ks js from) v hb) hb' in
        let f : rename_sig m nb ≡ mb = ihw (rename_sig m nb) mb (subst (λ x. Ready (extend ctx js) x b' (rename_sig m nb) mb) (sym b-is) again) in
        let i : m ≡ (λ n. n) = still to from w l in
        let k : ks ≡ js = same-kinds ks js (sym w.same_length) (λ n lt. sym (ap (kind_at js) (sym (fixed-number to from w l n lt)) ∙ w.same_kinds n lt)) in
        same-fun k (sym (e ∙ (ap (λ h. rename_sig h np) i ∙ rename_sig-id np))) (sym (ap (λ h. rename_sig h nb) i ∙ rename_sig-id nb) ∙ f)
      where
        same-fun : {ks js : List Kind} {s t r q : Sig} → ks ≡ js → s ≡ t → r ≡ q → Path Sig (Sig.Fun Pure ks s (Abs.Ex [] r)) (Sig.Fun Pure js t (Abs.Ex [] q))
        same-fun a b c i = Sig.Fun Pure (a i) (b i) (Abs.Ex [] (c i))

        fixed-number : (to from : ℕ → ℕ) → Paired js ks to from → ((j : ℕ) → j < length ks → Linked ctx js p' ctx ks p (to j) j) → (j : ℕ) → j < length ks → to j ≡ j
        fixed-number to from w l j lt =
            let x = l j lt in
            let y = nums (to j) x.0 (w.to_below j lt) x.1 in
            same-own (length ks) (to j) j y.0 lt (one-rooted y.1 x.2 refl)

        still : (to from : ℕ → ℕ) → Paired js ks to from → ((j : ℕ) → j < length ks → Linked ctx js p' ctx ks p (to j) j) → shuffle js ks to ≡ (λ n. n)
        still to from w l = fun_ext (λ i. each i (split_index ks i))
          where
            each : (i : ℕ) → (i < length ks) ⊎ ((j : ℕ) × (i ≡ past ks j)) → shuffle js ks to i ≡ i
            each i (inl h) =
                let lv : own ks i < length ks = omega (arith, h) in
                let n = w.same_length in
                shuffle-below js ks to i h ∙ (ap (own js) (fixed-number to from w l (own ks i) lv) ∙ omega arith)
            each i (inr (j, f)) = ap (shuffle js ks to) f ∙ (shuffle-past js ks to j ∙ sym f)

same-more : {l m : Name} {s t : Sig} {fs gs : SigRow} → l ≡ m → s ≡ t → fs ≡ gs → Path SigRow (SigRow.More l s fs) (SigRow.More m t gs)
same-more a b c i = SigRow.More (a i) (b i) (c i)

good-first : {ctx : List Kind} {l : Name} {s : Sig} {fs : SigRow} → GoodRow ctx (SigRow.More l s fs) → Good ctx s
good-first g = (g.0.0, (row-first g.2).0, (results-first g.3).0)

good-rest : {ctx : List Kind} {l : Name} {s : Sig} {fs : SigRow} → GoodRow ctx (SigRow.More l s fs) → GoodRow ctx fs
good-rest g = (g.0.1, g.1.1, (row-first g.2).1, (results-first g.3).1)

field-ready : {ctx : List Kind} {whole all fs gs : SigRow} {l m : Name} {s t n k : Sig} {second : List Kind} {q r : ℕ → ℕ} {s' : Sig} → RowReady ctx whole all (SigRow.More l s fs) (SigRow.More m t gs) second q r → l ≡ m → s' ≡ s → GoodRow ctx (SigRow.More l s fs) → GoodRow ctx (SigRow.More m t gs) → NormSig ctx s n → NormSig ctx t k → Ready ctx s' t n k
field-ready {ctx} {all = all} {l = l} {m = m} {s = s} {t = t} {n = n} {k = k} {second = second} {q = q} o e f gf gg a c =
    let b = o.back l s here in
    let t-is : b.0 ≡ t = one-field b.2 here e in
    subst (λ z. Ready ctx z t n k) (sym f)
    (Ready.ready o.undone (subst (λ z. Sub second (rename_sig q z) (rename_sig q s) b.1) t-is b.3)
    (o.same l s t (o.left_in l s here) (subst (λ x. HasField all x t) (sym e) (o.inside m t here)))
    (good-first gf) (good-first gg) a c)

-- the same order of the recursion as of the subtyping
mutual
  pub sub_same : {ctx : List Kind} {s t n m : Sig} {f : Term} → Sub ctx s t f → Ready ctx s t n m → n ≡ m
  sub_same Sub.val (Ready.ready u d h gs gt NormSig.val NormSig.val) = refl
  sub_same Sub.typ (Ready.ready u d h gs gt NormSig.typ NormSig.typ) = refl
  sub_same (Sub.meta a b) (Ready.ready u d (EachSig.meta h) gs gt (NormSig.meta x) (NormSig.meta y)) = ap Sig.Meta (abs_same a (ready-meta u (meta-parts d) h (good-meta gs) (good-meta gt) x y))
  sub_same (Sub.str p) (Ready.ready u d (EachSig.str h) gs gt (NormSig.str a) (NormSig.str b)) = ap Sig.Str (fields_same p (row-ready u d h) (good-fields gs) (good-fields gt) a b)
  sub_same {ctx} (Sub.fun {ks = ks} {js = js} {s = p} {t = p'} m nf (SubResult.both_pure {s = b1} {t = b'} w)) (Ready.ready {second = second} {q = q} {r = r} u d (EachSig.pure {r = b} (k, l) sa sb) gs gt (NormSig.pure {t = np} {q = nb} a1 a2) (NormSig.pure {t = mp} {q = mb} c1 c2)) =
      pure-finish ctx second ks js p p' np mp b b1 b' nb mb q r (fun-parts d) (plain-form nf)
      (λ us g e. pair_same m ctx second js ks p mp np q r refl refl u e (same-numbers l k (same-flip sa)) (good-param gt) (good-param gs) c1 a1)
      (λ n m z. sub_same w z) u l sb (good-pure gs) (good-pure gt) a2 c2
  sub_same (Sub.fun m nf (SubResult.both_pure w)) (Ready.ready u d (EachSig.mixed h) gs gt a b) = absurd (h refl)
  sub_same {ctx} (Sub.fun {ks = ks} {js = js} {s = p} {t = p'} {x = x} {z = z} m nf (SubResult.to_impure {x = y} w)) (Ready.ready {second = second} {q = q} {r = r} u d (EachSig.impure sa sx) gs gt (NormSig.impure {t = np} {y = nx} a1 o1 x1) (NormSig.impure {t = mp} {y = nz} c1 o2 x2)) =
      impure-finish ctx second ks js p p' np mp x y z nx nz q r (fun-parts d) nf
      (λ us g e. pair_same m ctx second js ks p mp np q r refl refl u e (same_abs-flip sa) (good-param gt) (good-param gs) c1 a1)
      (λ n m v. abs_same w v) u sx (good-impure gs) (good-impure gt) o1 o2 x1 x2
  sub_same (Sub.fun m nf (SubResult.to_impure w)) (Ready.ready u d (EachSig.mixed h) gs gt a b) = absurd (no-mixed h (fun-parts d))

  fields_same : {ctx : List Kind} {whole all fs gs ns ms : SigRow} {parts : TermRow} {second : List Kind} {q r : ℕ → ℕ} → SubFields ctx whole gs parts → RowReady ctx whole all fs gs second q r → GoodRow ctx fs → GoodRow ctx gs → NormRow ctx fs ns → NormRow ctx gs ms → ns ≡ ms
  fields_same SubFields.end o gf gg NormRow.end NormRow.end = refl
  fields_same SubFields.end o gf gg (NormRow.more {l = l} {s = s} a rest) NormRow.end = let w = (o.back l s here).2 in elim w [ ]
  fields_same (SubFields.more {l = m} {s = s} {t = t} hf sub p) o gf gg NormRow.end (NormRow.more c cs) = let w = o.keeps m s t here hf in elim w [ ]
  fields_same (SubFields.more {l = m} {s = s'} {t = t} hf sub p) o gf gg (NormRow.more {l = l} {s = s} a rest) (NormRow.more c cs) =
      let e = first-name o gf.1.0 gg.1.0 hf in
      let f = one-field hf (o.left_in l s here) (sym e) in
      same-more e (sub_same sub (field-ready o e f gf gg a c)) (fields_same p (rest-ready o gf.1.0 gg.1.0 e) (good-rest gf) (good-rest gg) rest cs)

  pub abs_same : {ctx : List Kind} {x y n m : Abs} {f : Term} → SubAbs ctx x y f → ReadyAbs ctx x y n m → n ≡ m
  abs_same {ctx} (SubAbs.plain {s = s} m p) (ReadyAbs.ready {second = second} {q = q} {r = r} u d h gx gy (Norm.ex {t = n} a o) (Norm.ex {ks = js} {s = t} {t = k} b w)) =
      abs-finish ctx second [] js s t n k (abs-match d) (λ us g e. pair_same m ctx second [] js t n k q r refl (ap (Abs.Ex js) (sym (ap (λ f. rename_sig f t) (lifts-id js) ∙ rename_sig-id t))) u e h gx gy a b) o w
  abs_same {ctx} (SubAbs.hidden {ks = ks} {k = i} {s = s} m p) (ReadyAbs.ready {second = second} {q = q} {r = r} u d h gx gy (Norm.ex {t = n} a o) (Norm.ex {ks = js} {s = t} {t = k} b w)) =
      abs-finish ctx second (i ∷ ks) js s t n k (abs-match d) (λ us g e. pair_same m ctx second (i ∷ ks) js t n k q r refl refl u e h gx gy a b) o w

  pair_same : {inner : List Kind} {s : Sig} {y : Abs} {ts : List Ty} {f : Term} → Match inner s y ts f → (ctx second ks js : List Kind) (t n m : Sig) (q q' : ℕ → ℕ) {us : List Ty} {g : Term} → inner ≡ extend ctx ks → y ≡ Abs.Ex js (rename_sig (lifts js (past ks)) t) → Undone ctx second q q'
      → Match (extend second js) (rename_sig (lifts js q) t) (Abs.Ex ks (rename_sig (lifts ks (past js)) (rename_sig (lifts ks q) s))) us g
      → SameAbs ctx ctx (Abs.Ex ks s) (Abs.Ex js t) → GoodAbs ctx (Abs.Ex ks s) → GoodAbs ctx (Abs.Ex js t) → NormSig (extend ctx ks) s n → NormSig (extend ctx js) t m → Result ctx second ks js s t n m ts us
  pair_same {s = s} {ts = ts} (Match.at {r = r} {guess = guess} o nf f sub) ctx second ks js t n m q q' e g u d h gs gt a b =
      let o' : OfKinds (extend ctx ks) guess js = subst₂ (λ z w. OfKinds z guess w) e (same-hidden g) o in
      let n' : NormalForms (extend ctx ks) guess js ts = subst₂ (λ z w. NormalForms z guess w ts) e (same-hidden g) nf in
      let f' : NormalSigForm (extend ctx ks) (sig_at guess (rename_sig (lifts js (past ks)) t)) r = subst₂ (λ z w. NormalSigForm z (sig_at guess w) r) e (same-body g) f in
      let al : Aligned (extend ctx ks) (extend ctx ks) s r = aligned-instance ctx js ks t s r guess o' f' (same-aligned (bodies h) (body-good gs).1 (body-good gt).1) in
      pair-step ctx second ks js s t n m r q q' guess ts o' n' f'
      (λ p bs cs t' w k j x y. subst (λ z. Agree z bs cs t' w k j) e (parts_agree sub (subst (λ z. Aligned z z s r) (sym e) al) (subst (λ z. ConvSig z s s) (sym e) (well_formed-kinds (body-good gs).1)) (subst (λ z. ConvSig z r r) (sym e) (form-kinds f')) x y refl))
      u d h gs gt a b
      (λ k z. sub_same sub (subst (λ c. Ready c s r n k) (sym e) z))

nothing-done : (ctx : List Kind) → Undone ctx ctx (λ i. i) (λ i. i)
nothing-done ctx = record { there = λ i k x. x; back = λ i k x. x; back_there = λ i. refl; there_back = λ i. refl }

-- signatures that match each other and have the same rooted paths have one norm
pub same_package : {ctx : List Kind} {x y n m : Abs} {f g : Term} → NormalAbs ctx x → NormalAbs ctx y → Explicit ctx x → Explicit ctx y → SubAbs ctx x y f → SubAbs ctx y x g → SameAbs ctx ctx x y → Norm ctx x n → Norm ctx y m → n ≡ m
same_package {ctx} {x} {y} {g = g} nx ny gx gy a b same hx hy = abs_same a (ReadyAbs.ready (nothing-done ctx) (subst₂ (λ z w. SubAbs ctx z w g) (sym (rename_abs-id y)) (sym (rename_abs-id x)) b) same (nx, gx) (ny, gy) hx hy)
