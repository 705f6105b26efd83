-- Well-formedness, ordered explicitness and root paths are kept by substitution and by conversion.
-- Main results: root-substitute, well_formed-substitute, explicit-substitute, well_formed-conv.
use Rattle.std.specs.Prelude.{ℕ, List, ◌≡◌, ◌≤◌, ◌<◌, length, []}
use Rattle.std.proofs.Common.{arith}
use Rattle.std.proofs.Math.Path.{refl, sym, ◌∙◌, ap, subst, subst₂}
use Rattle.omega_kinds.specs.Kind.{Kind}
use Rattle.omega_kinds.specs.Name.{Name}
use Rattle.omega_types.specs.Ty.{Ty}
use Rattle.omega_types.specs.Kinding.HasKind.{k_var}
use Rattle.omega_types.specs.Conversion.Conv.{c_refl}
use Rattle.omega_types.specs.Mentions.{Mentions}
use Rattle.omega_types.specs.Normalises.{Maps}
use Rattle.omega_types.specs.Binders.{extend, past, unders, own}
use Rattle.omega_types.proofs.Preservation.{Substitutes, conv-kinds, kind-substitute}
use Rattle.sig_definitions.specs.Signatures.Sig.{Sig, Abs, SigRow, HasField, here, there}
use Rattle.sig_definitions.specs.Signatures.SigSubst.{rename_sig, rename_abs, substitute_sig, substitute_abs, substitute_sig_row}
use Rattle.sig_definitions.specs.Signatures.Alike.{Between, AlikeRow, val, typ, meta, str, fun, ex, end, more, ConvBetween, ConvSig, ConvAbs}
use Rattle.sig_definitions.specs.Signatures.SigMentions.{Avoids, by_normal_form}
use Rattle.sig_definitions.specs.Explicit.SigPath.{SigPath}
use Rattle.sig_definitions.specs.Explicit.RootPath.{ParamsAvoid, RootPath, root_path, root_of}
use Rattle.sig_definitions.specs.Explicit.WellFormed.{BeforeAll, Rising, WellFormed, WellFormedRow, WellFormedAbs, ExplicitResults, ExplicitResultsRow, Explicit, abs, explicit, in_val, in_typ, in_meta, in_str, in_pure, in_impure, in_end, in_more}
use Rattle.sig_laws.proofs.Algebra.SigAlgebra.{substitute-vars_sig, substitute-vars_abs}
use Rattle.sig_laws.proofs.Algebra.AlikeLaws.{conv_sig-sym, conv_sig-trans, form-conv_sig, conv-form_sig, conv_sig-substitute, substitutes-convertible, conv_abs-substitute, alike_row-substitute}
use Rattle.sig_laws.proofs.Algebra.SigMention.{mentions-unders}
use Rattle.sig_laws.proofs.Algebra.PathLaws.{param-alike, param-back}
use Rattle.sig_laws.proofs.Algebra.Own.{unders-below, own_mention}
use Rattle.omega_types.proofs.BinderPuts.{unders-substitutes}
use Rattle.sig_laws.proofs.Algebra.Names.{NameBefore}
use Rattle.sig_laws.proofs.Formed.Shows.{rooted-shows, shows-rooted, shows-substitute, shows-alike, avoids-moved}

-- the types of a well formed signature have their kinds

mutual
  -- a well formed signature is well kinded, that is convertible to itself
  pub well_formed-kinds : {ctx : List Kind} {s : Sig} → WellFormed ctx s → ConvSig ctx s s
  well_formed-kinds (WellFormed.val h) = val (c_refl h)
  well_formed-kinds (WellFormed.typ h) = typ (c_refl h)
  well_formed-kinds (WellFormed.meta x) = meta (explicit-kinds x)
  well_formed-kinds (WellFormed.str r fs) = str (well_formed_row-kinds fs)
  well_formed-kinds (WellFormed.pure x r) = fun (explicit-body x) (ex (well_formed-kinds r))
  well_formed-kinds (WellFormed.impure x y) = fun (explicit-body x) (well_formed_abs-kinds y)

  pub well_formed_row-kinds : {ctx : List Kind} {fs : SigRow} → WellFormedRow ctx fs → AlikeRow ConvBetween ctx fs fs
  well_formed_row-kinds WellFormedRow.end = end
  well_formed_row-kinds (WellFormedRow.more s fs) = more (well_formed-kinds s) (well_formed_row-kinds fs)

  -- a well formed signature that hides types is well kinded
  pub well_formed_abs-kinds : {ctx : List Kind} {x : Abs} → WellFormedAbs ctx x → ConvAbs ctx x x
  well_formed_abs-kinds (abs s) = ex (well_formed-kinds s)

  -- an ordered explicit signature is well kinded
  pub explicit-kinds : {ctx : List Kind} {x : Abs} → Explicit ctx x → ConvAbs ctx x x
  explicit-kinds (explicit w r h) = ex (well_formed-kinds w)

  -- the body of an ordered explicit signature is well kinded
  pub explicit-body : {ctx ks : List Kind} {s : Sig} → Explicit ctx (Abs.Ex ks s) → ConvSig (extend ctx ks) s s
  explicit-body (explicit w r h) = well_formed-kinds w

-- root paths

-- a signature avoids a variable if one convertible to it does
pub avoids-alike : {ctx : List Kind} {s t : Sig} {i : ℕ} → ConvSig ctx t s → Avoids ctx s i → Avoids ctx t i
avoids-alike c (by_normal_form f m) = by_normal_form (conv-form_sig c f) m

pub root-alike : {ctx ks : List Kind} {s t : Sig} {number : ℕ} {p : SigPath} → ConvSig (extend ctx ks) s t → RootPath ctx ks s number p → RootPath ctx ks t number p
root-alike {ctx} {ks} {s} {t} {number} {p} c (root_path b (root_of r h)) = root_path b (root_of (shows-rooted refl (shows-alike (rooted-shows r) c)) avoid)
  where
    avoid : (j : ℕ) → j ≤ own ks number → ParamsAvoid (extend ctx ks) t p j
    avoid j le ds js q on = let w = param-alike (extend ctx ks) on (conv_sig-sym c) in avoids-alike w.2 (h j le ds js w.0 w.1)

-- if a variable comes only from one that a signature avoids, the substituted signature avoids it
pub avoids-substitute : {ctx other : List Kind} (s : Sig) (i v : ℕ) (f : ℕ → Ty) → Substitutes ctx other f → ((j : ℕ) → Mentions v (f j) → j ≡ i) → Avoids ctx s i → Avoids other (substitute_sig f s) v
avoids-substitute {ctx} s i v f h own (by_normal_form a m) =
    let c = form-conv_sig a in
    avoids-moved s v f h (conv_sig-trans c (conv_sig-sym c)) (λ j q. subst (Avoids ctx s) (sym (own j q)) (by_normal_form a m))

-- a substitution from outside keeps the root paths of hidden types
pub root-substitute : {ctx other ks : List Kind} {s : Sig} {number : ℕ} {p : SigPath} (f : ℕ → Ty) → Substitutes ctx other f → number < length ks → RootPath ctx ks s number p → RootPath other ks (substitute_sig (unders ks f) s) number p
root-substitute {ctx} {other} {ks} {s} {number} {p} f h lt (root_path b (root_of r a)) =
    root_path b (root_of (shows-rooted (unders-below ks f (own ks number) (own-below number lt)) (shows-substitute (unders ks f) (unders-substitutes ks h) (rooted-shows r))) avoid)
  where
    own-below : (j : ℕ) → j < length ks → own ks j < length ks
    own-below j e = omega (arith, e)

    inner-below : (j : ℕ) → j ≤ own ks number → j < length ks
    inner-below j e = omega (arith, e, lt)

    avoid : (j : ℕ) → j ≤ own ks number → ParamsAvoid (extend other ks) (substitute_sig (unders ks f) s) p j
    avoid j le ds js q on =
        let w = param-back (unders ks f) s p on in
        subst (λ z. Avoids (extend (extend (extend other ks) ds) js) z (past js (past ds j))) (sym w.2)
        (avoids-substitute w.0 (past js (past ds j)) (past js (past ds j)) (unders js (unders ds (unders ks f)))
        (unders-substitutes js (unders-substitutes ds (unders-substitutes ks h))) only (a j le ds js w.0 w.1))
      where
        only : (i : ℕ) → Mentions (past js (past ds j)) (unders js (unders ds (unders ks f)) i) → i ≡ past js (past ds j)
        only i m =
            let q1 = mentions-unders js (unders ds (unders ks f)) (λ z. i ≡ z) (past ds j) (i, refl, m) in
            let q2 = mentions-unders ds (unders ks f) (λ z. q1.0 ≡ z) j (q1.0, refl, q1.2) in
            let e3 = own_mention ks f j q2.0 (inner-below j le) q2.2 in
            q1.1 ∙ ap (past js) (q2.1 ∙ ap (past ds) e3)

-- names

-- a name before all of the fields is before the name of each
pub before_all-field : (l m : Name) {q : Sig} {fs : SigRow} → BeforeAll l fs → HasField fs m q → NameBefore l m
before_all-field l m h here = h.0
before_all-field l m h (there n g) = before_all-field l m h.1 g

pub before_all-alike : {R : Between} {ctx : List Kind} {fs gs : SigRow} (l : Name) → AlikeRow R ctx fs gs → BeforeAll l fs → BeforeAll l gs
before_all-alike l end h = tt
before_all-alike l (more a rest) h = (h.0, before_all-alike l rest h.1)

pub rising-alike : {R : Between} {ctx : List Kind} {fs gs : SigRow} → AlikeRow R ctx fs gs → Rising fs → Rising gs
rising-alike end h = tt
rising-alike (more {l = l} a rest) h = (before_all-alike l rest h.0, rising-alike rest h.1)

-- substitution keeps well-formedness

mutual
  -- a substitution keeps signatures well formed
  pub well_formed-substitute : {ctx other : List Kind} {s : Sig} (f : ℕ → Ty) → Substitutes ctx other f → WellFormed ctx s → WellFormed other (substitute_sig f s)
  well_formed-substitute f h (WellFormed.val t) = WellFormed.val (kind-substitute f h t)
  well_formed-substitute f h (WellFormed.typ t) = WellFormed.typ (kind-substitute f h t)
  well_formed-substitute f h (WellFormed.meta x) = WellFormed.meta (explicit-substitute f h x)
  well_formed-substitute f h (WellFormed.str {fs = fs} r w) = WellFormed.str (rising-alike (alike_row-substitute [] f fs) r) (well_formed_row-substitute f h w)
  well_formed-substitute f h (WellFormed.pure {ks = ks} x r) = WellFormed.pure (explicit-substitute f h x) (well_formed-substitute (unders ks f) (unders-substitutes ks h) r)
  well_formed-substitute f h (WellFormed.impure {ks = ks} x y) = WellFormed.impure (explicit-substitute f h x) (well_formed_abs-substitute (unders ks f) (unders-substitutes ks h) y)

  pub well_formed_row-substitute : {ctx other : List Kind} {fs : SigRow} (f : ℕ → Ty) → Substitutes ctx other f → WellFormedRow ctx fs → WellFormedRow other (substitute_sig_row f fs)
  well_formed_row-substitute f h WellFormedRow.end = WellFormedRow.end
  well_formed_row-substitute f h (WellFormedRow.more s fs) = WellFormedRow.more (well_formed-substitute f h s) (well_formed_row-substitute f h fs)

  -- a substitution keeps signatures that hide types well formed
  pub well_formed_abs-substitute : {ctx other : List Kind} {x : Abs} (f : ℕ → Ty) → Substitutes ctx other f → WellFormedAbs ctx x → WellFormedAbs other (substitute_abs f x)
  well_formed_abs-substitute f h (abs {ks = ks} s) = abs (well_formed-substitute (unders ks f) (unders-substitutes ks h) s)

  -- a substitution keeps the results of functors ordered explicit
  pub explicit_results-substitute : {ctx other : List Kind} {s : Sig} (f : ℕ → Ty) → Substitutes ctx other f → ExplicitResults ctx s → ExplicitResults other (substitute_sig f s)
  explicit_results-substitute f h in_val = in_val
  explicit_results-substitute f h in_typ = in_typ
  explicit_results-substitute f h in_meta = in_meta
  explicit_results-substitute f h (in_str r) = in_str (explicit_results_row-substitute f h r)
  explicit_results-substitute f h (in_pure {ks = ks} r) = in_pure (explicit_results-substitute (unders ks f) (unders-substitutes ks h) r)
  explicit_results-substitute f h (in_impure {ks = ks} x) = in_impure (explicit-substitute (unders ks f) (unders-substitutes ks h) x)

  pub explicit_results_row-substitute : {ctx other : List Kind} {fs : SigRow} (f : ℕ → Ty) → Substitutes ctx other f → ExplicitResultsRow ctx fs → ExplicitResultsRow other (substitute_sig_row f fs)
  explicit_results_row-substitute f h in_end = in_end
  explicit_results_row-substitute f h (in_more s fs) = in_more (explicit_results-substitute f h s) (explicit_results_row-substitute f h fs)

  -- a substitution keeps signatures ordered explicit
  pub explicit-substitute : {ctx other : List Kind} {x : Abs} (f : ℕ → Ty) → Substitutes ctx other f → Explicit ctx x → Explicit other (substitute_abs f x)
  explicit-substitute f h (explicit {ks = ks} w r e) = explicit
      (well_formed-substitute (unders ks f) (unders-substitutes ks h) w)
      (explicit_results-substitute (unders ks f) (unders-substitutes ks h) r)
      (λ number lt. let q = e number lt in (q.0, root-substitute f h lt q.1))

-- conversion keeps it

mutual
  -- conversion keeps signatures well formed
  pub well_formed-conv : {ctx : List Kind} {s t : Sig} → WellFormed ctx s → ConvSig ctx s t → WellFormed ctx t
  well_formed-conv (WellFormed.val h) (val c) = WellFormed.val (conv-kinds c).1
  well_formed-conv (WellFormed.typ h) (typ c) = WellFormed.typ (conv-kinds c).1
  well_formed-conv (WellFormed.meta x) (meta c) = WellFormed.meta (explicit-conv x c)
  well_formed-conv (WellFormed.str r w) (str c) = WellFormed.str (rising-alike c r) (well_formed_row-conv w c)
  well_formed-conv (WellFormed.pure x r) (fun c (ex d)) = WellFormed.pure (explicit-conv x (ex c)) (well_formed-conv r d)
  well_formed-conv (WellFormed.impure x y) (fun c d) = WellFormed.impure (explicit-conv x (ex c)) (well_formed_abs-conv y d)

  pub well_formed_row-conv : {ctx : List Kind} {fs gs : SigRow} → WellFormedRow ctx fs → AlikeRow ConvBetween ctx fs gs → WellFormedRow ctx gs
  well_formed_row-conv WellFormedRow.end end = WellFormedRow.end
  well_formed_row-conv (WellFormedRow.more s fs) (more c d) = WellFormedRow.more (well_formed-conv s c) (well_formed_row-conv fs d)

  -- conversion keeps signatures that hide types well formed
  pub well_formed_abs-conv : {ctx : List Kind} {x y : Abs} → WellFormedAbs ctx x → ConvAbs ctx x y → WellFormedAbs ctx y
  well_formed_abs-conv (abs s) (ex c) = abs (well_formed-conv s c)

  -- conversion keeps the results of functors ordered explicit
  pub explicit_results-conv : {ctx : List Kind} {s t : Sig} → ExplicitResults ctx s → ConvSig ctx s t → ExplicitResults ctx t
  explicit_results-conv in_val (val c) = in_val
  explicit_results-conv in_typ (typ c) = in_typ
  explicit_results-conv in_meta (meta c) = in_meta
  explicit_results-conv (in_str r) (str c) = in_str (explicit_results_row-conv r c)
  explicit_results-conv (in_pure r) (fun c (ex d)) = in_pure (explicit_results-conv r d)
  explicit_results-conv (in_impure x) (fun c d) = in_impure (explicit-conv x d)

  pub explicit_results_row-conv : {ctx : List Kind} {fs gs : SigRow} → ExplicitResultsRow ctx fs → AlikeRow ConvBetween ctx fs gs → ExplicitResultsRow ctx gs
  explicit_results_row-conv in_end end = in_end
  explicit_results_row-conv (in_more s fs) (more c d) = in_more (explicit_results-conv s c) (explicit_results_row-conv fs d)

  -- conversion keeps signatures ordered explicit
  pub explicit-conv : {ctx : List Kind} {x y : Abs} → Explicit ctx x → ConvAbs ctx x y → Explicit ctx y
  explicit-conv (explicit w r e) (ex c) = explicit (well_formed-conv w c) (explicit_results-conv r c) (λ number lt. let q = e number lt in (q.0, root-alike c q.1))

-- renaming is a substitution of variables

-- a renaming that keeps kinds puts each variable to a type of its kind
pub maps-substitutes : {ctx other : List Kind} {r : ℕ → ℕ} → Maps ctx other r → Substitutes ctx other (λ i. Ty.Var (r i))
maps-substitutes h i k x = k_var (h i k x)

-- renaming keeps conversion of signatures
pub conv_sig-rename : {ctx other : List Kind} {s t : Sig} (r : ℕ → ℕ) → Maps ctx other r → ConvSig ctx s t → ConvSig other (rename_sig r s) (rename_sig r t)
conv_sig-rename {other = other} {s = s} {t = t} r h c =
    subst₂ (ConvSig other) (substitute-vars_sig r s) (substitute-vars_sig r t) (conv_sig-substitute (λ i. Ty.Var (r i)) (λ i. Ty.Var (r i)) (substitutes-convertible (maps-substitutes h)) c)

-- renaming keeps conversion of signatures that hide types
pub conv_abs-rename : {ctx other : List Kind} {s t : Abs} (r : ℕ → ℕ) → Maps ctx other r → ConvAbs ctx s t → ConvAbs other (rename_abs r s) (rename_abs r t)
conv_abs-rename {other = other} {s = s} {t = t} r h c =
    subst₂ (ConvAbs other) (substitute-vars_abs r s) (substitute-vars_abs r t) (conv_abs-substitute (λ i. Ty.Var (r i)) (λ i. Ty.Var (r i)) (substitutes-convertible (maps-substitutes h)) c)

-- renaming keeps signatures well formed
pub well_formed-rename : {ctx other : List Kind} {s : Sig} (r : ℕ → ℕ) → Maps ctx other r → WellFormed ctx s → WellFormed other (rename_sig r s)
well_formed-rename {ctx} {other} {s} r h w = subst (WellFormed other) (substitute-vars_sig r s) (well_formed-substitute (λ i. Ty.Var (r i)) (maps-substitutes h) w)

-- renaming keeps the results of functors ordered explicit
pub explicit_results-rename : {ctx other : List Kind} {s : Sig} (r : ℕ → ℕ) → Maps ctx other r → ExplicitResults ctx s → ExplicitResults other (rename_sig r s)
explicit_results-rename {ctx} {other} {s} r h w = subst (ExplicitResults other) (substitute-vars_sig r s) (explicit_results-substitute (λ i. Ty.Var (r i)) (maps-substitutes h) w)

-- renaming keeps signatures ordered explicit
pub explicit-rename : {ctx other : List Kind} {x : Abs} (r : ℕ → ℕ) → Maps ctx other r → Explicit ctx x → Explicit other (rename_abs r x)
explicit-rename {ctx} {other} {x} r h w = subst (Explicit other) (substitute-vars_abs r x) (explicit-substitute (λ i. Ty.Var (r i)) (maps-substitutes h) w)
