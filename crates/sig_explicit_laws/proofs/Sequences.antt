-- Declarations one after the other are ordered explicit.
-- Main results: sequence_explicit.
use Rattle.std.specs.Prelude.{ℕ, ◌+◌, ◌<◌, ◌≤◌, List, ◌++◌, ◌≡◌, ◌⊎◌, length}
use mathlib.Core.Logic.{inl, inr}
use Rattle.std.proofs.Common.{arith}
use Rattle.std.proofs.Math.Path.{sym, ◌∙◌, ap, subst}
use Rattle.omega_kinds.specs.Kind.{Kind}
use Rattle.omega_types.specs.Ty.{Ty}
use Rattle.omega_types.specs.Binders.{extend, past, own}
use Rattle.sig_definitions.specs.Signatures.Sig.{Sig, Abs, SigRow}
use Rattle.sig_definitions.specs.Signatures.SigSubst.{rename_sig, raise_sig_row}
use Rattle.sig_definitions.specs.Signatures.Alike.{ConvSig}
use Rattle.sig_definitions.specs.Explicit.SigPath.{SigPath}
use Rattle.sig_definitions.specs.Explicit.RootPath.{Rooted, ParamsAvoid, RootPath, root_path, root_of}
use Rattle.sig_laws.proofs.Formed.RootNumbers.{own_falls, by_numbers}
use Rattle.sig_definitions.specs.Signatures.FieldOrder.{merge}
use Rattle.sig_definitions.specs.Explicit.WellFormed.{Rising, EachRooted, WellFormed, WellFormedRow, ExplicitResults, Explicit, explicit, in_str}
use Rattle.sig_laws.proofs.Algebra.BinderLaws.{extend-append}
use Rattle.sig_laws.proofs.Algebra.SigAlgebra.{substitute-vars_sig}
use Rattle.sig_laws.proofs.Formed.WellFormedLaws.{well_formed-kinds, well_formed-rename, explicit_results-rename, maps-substitutes}
use Rattle.sig_explicit_laws.proofs.Moves.{params-moved, FieldsIn, shows-grown, params-grown, rooted-renamed}
use Rattle.sig_explicit_laws.proofs.Fields.{Apart, none, next, merge-rising, merge-left, merge-right, merge-well_formed, merge-results}
use Rattle.sig_explicit_laws.proofs.Positions.{own-first, own-second, split-number, past-injective, not-past, own-below}
use Rattle.omega_types.proofs.BinderLaws.{past-maps}
use Rattle.sig_laws.specs.Decide.{in_var}
use Rattle.sig_laws.proofs.Formed.Conditions.{str-results}
use Rattle.std.proofs.lemmas.List.{length-append}
use Rattle.sig_laws.proofs.Formed.Shows.{rooted-shows, shows-rooted}

pub params-raised : (ctx js : List Kind) (s : Sig) (p : SigPath) (i : ℕ) → ConvSig ctx s s → ParamsAvoid ctx s p i → ParamsAvoid (extend ctx js) (rename_sig (past js) s) p (past js i)
params-raised ctx js s p i w a = subst (λ z. ParamsAvoid (extend ctx js) z p (past js i)) (substitute-vars_sig (past js) s)
    (params-moved s p (past js i) (λ j. Ty.Var (past js j)) (maps-substitutes (past-maps js ctx)) w (λ j m. subst (ParamsAvoid ctx s p) (past-injective js i j (in_var m)) a))

-- what is raised past binders mentions none of their variables
pub params-fresh : (ctx js : List Kind) (s : Sig) (p : SigPath) (i : ℕ) → ConvSig ctx s s → i < length js → ParamsAvoid (extend ctx js) (rename_sig (past js) s) p i
params-fresh ctx js s p i w h = subst (λ z. ParamsAvoid (extend ctx js) z p i) (substitute-vars_sig (past js) s)
    (params-moved s p i (λ j. Ty.Var (past js j)) (maps-substitutes (past-maps js ctx)) w (λ j m. absurd (not-past js i j h (in_var m))))

-- the fields of a well formed structure rise, and are well formed
pub row-of : {ctx : List Kind} {fs : SigRow} → WellFormed ctx (Sig.Str fs) → Rising fs × WellFormedRow ctx fs
row-of (WellFormed.str r w) = (r, w)

apart-raised : (js : List Kind) {fs gs : SigRow} → Apart fs gs → Apart (raise_sig_row js fs) gs
apart-raised js none = none
apart-raised js (next n a) = next n (apart-raised js a)

pub sequence_well_formed : (ctx ks js : List Kind) (fs gs : SigRow) → WellFormed (extend ctx ks) (Sig.Str fs) → WellFormed (extend (extend ctx ks) js) (Sig.Str gs) → Apart fs gs → WellFormed (extend ctx (ks ++ js)) (Sig.Str (merge (raise_sig_row js fs) gs))
sequence_well_formed ctx ks js fs gs w v a =
    let w' = row-of (well_formed-rename (past js) (past-maps js (extend ctx ks)) w) in
    let v' = row-of v in
    subst (λ c. WellFormed c (Sig.Str (merge (raise_sig_row js fs) gs))) (sym (extend-append ks js ctx))
    (WellFormed.str (merge-rising (raise_sig_row js fs) gs (apart-raised js a) w'.0 v'.0) (merge-well_formed w'.1 v'.1))

-- declarations of different names, one after the other, are ordered explicit if each is
pub sequence_explicit : (ctx ks js : List Kind) (fs gs : SigRow) → Explicit ctx (Abs.Ex ks (Sig.Str fs)) → Explicit (extend ctx ks) (Abs.Ex js (Sig.Str gs)) → Apart fs gs → Explicit ctx (Abs.Ex (ks ++ js) (Sig.Str (merge (raise_sig_row js fs) gs)))
sequence_explicit ctx ks js fs gs (explicit w r h) (explicit v q g) a = explicit
    (sequence_well_formed ctx ks js fs gs w v a)
    (subst (λ c. ExplicitResults c (Sig.Str (merge (raise_sig_row js fs) gs))) (sym (extend-append ks js ctx))
    (in_str (merge-results (str-results (explicit_results-rename (past js) (past-maps js (extend ctx ks)) r)) (str-results q))))
    each
  where
    all : SigRow
    all = merge (raise_sig_row js fs) gs

    inner : List Kind
    inner = extend (extend ctx ks) js

    left : FieldsIn (raise_sig_row js fs) (merge (raise_sig_row js fs) gs)
    left = merge-left (raise_sig_row js fs) gs (apart-raised js a) (row-of (well_formed-rename (past js) (past-maps js (extend ctx ks)) w)).0

    right : FieldsIn gs (merge (raise_sig_row js fs) gs)
    right = merge-right (raise_sig_row js fs) gs (apart-raised js a)

    -- the root path of a number in the joint signature
    made : (i : ℕ) (p : SigPath) → i < length (ks ++ js) → Rooted (extend (extend ctx ks) js) (Sig.Str (merge (raise_sig_row js fs) gs)) (own (ks ++ js) i) p → ((j : ℕ) → i ≤ j → j < length (ks ++ js) → ParamsAvoid (extend (extend ctx ks) js) (Sig.Str (merge (raise_sig_row js fs) gs)) p (own (ks ++ js) j)) → RootPath ctx (ks ++ js) (Sig.Str (merge (raise_sig_row js fs) gs)) i p
    made i p b x y = by_numbers b
        (subst (λ c. Rooted c (Sig.Str (merge (raise_sig_row js fs) gs)) (own (ks ++ js) i) p) (sym (extend-append ks js ctx)) x)
        (λ j le lt. subst (λ c. ParamsAvoid c (Sig.Str (merge (raise_sig_row js fs) gs)) p (own (ks ++ js) j)) (sym (extend-append ks js ctx)) (y j le lt))

    first : (i : ℕ) (p : SigPath) → i < length ks → RootPath ctx ks (Sig.Str fs) i p → RootPath ctx (ks ++ js) (Sig.Str (merge (raise_sig_row js fs) gs)) i p
    first i p e (root_path b (root_of x y)) =
        let shown = rooted-shows (rooted-renamed (past js) (past-maps js (extend ctx ks)) x) in
        made i p (let q = length-append ks js in omega (arith, q, e))
        (shows-rooted (ap Ty.Var (sym (own-first ks js i e))) (shows-grown left shown))
        (λ j le lt. params-grown (own (ks ++ js) j) left shown (avoid j le (split-number ks js j lt)))
      where
        avoid : (j : ℕ) → i ≤ j → (j < length ks) ⊎ ((n : ℕ) × (j ≡ length ks + n) × (n < length js)) → ParamsAvoid (extend (extend ctx ks) js) (Sig.Str (raise_sig_row js fs)) p (own (ks ++ js) j)
        avoid j le (inl lt) = subst (ParamsAvoid (extend (extend ctx ks) js) (Sig.Str (raise_sig_row js fs)) p) (sym (own-first ks js j lt)) (params-raised (extend ctx ks) js (Sig.Str fs) p (own ks j) (well_formed-kinds w) (y (own ks j) (own_falls ks i j le)))
        avoid j le (inr (n, f, lt)) = subst (ParamsAvoid (extend (extend ctx ks) js) (Sig.Str (raise_sig_row js fs)) p) (sym (ap (own (ks ++ js)) f ∙ own-second ks js n)) (params-fresh (extend ctx ks) js (Sig.Str fs) p (own js n) (well_formed-kinds w) (own-below js n lt))

    second : (n : ℕ) (p : SigPath) → RootPath (extend ctx ks) js (Sig.Str gs) n p → RootPath ctx (ks ++ js) (Sig.Str (merge (raise_sig_row js fs) gs)) (length ks + n) p
    second n p (root_path b (root_of x y)) =
        let shown = rooted-shows x in
        made (length ks + n) p (let q = length-append ks js in omega (arith, q, b))
        (shows-rooted (ap Ty.Var (sym (own-second ks js n))) (shows-grown right shown))
        (λ j le lt. params-grown (own (ks ++ js) j) right shown (avoid j le (split-number ks js j lt)))
      where
        avoid : (j : ℕ) → length ks + n ≤ j → (j < length ks) ⊎ ((m : ℕ) × (j ≡ length ks + m) × (m < length js)) → ParamsAvoid (extend (extend ctx ks) js) (Sig.Str gs) p (own (ks ++ js) j)
        avoid j le (inl lt) = absurd (omega (arith, le, lt))
        avoid j le (inr (m, f, lt)) = subst (ParamsAvoid (extend (extend ctx ks) js) (Sig.Str gs) p) (sym (ap (own (ks ++ js)) f ∙ own-second ks js m)) (y (own js m) (own_falls js n m (omega (arith, le, f))))

    each : EachRooted ctx (ks ++ js) (Sig.Str (merge (raise_sig_row js fs) gs))
    each i lt = go (split-number ks js i lt)
      where
        go : (i < length ks) ⊎ ((n : ℕ) × (i ≡ length ks + n) × (n < length js)) → (p : SigPath) × RootPath ctx (ks ++ js) (Sig.Str (merge (raise_sig_row js fs) gs)) i p
        go (inl e) = let b = h i e in (b.0, first i b.0 e b.1)
        go (inr (n, f, e)) = let b = g n e in (b.0, subst (λ z. RootPath ctx (ks ++ js) (Sig.Str (merge (raise_sig_row js fs) gs)) z b.0) (sym f) (second n b.0 b.1))
