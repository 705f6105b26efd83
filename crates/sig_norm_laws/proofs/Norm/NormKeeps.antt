-- Norm keeps signatures well formed and ordered explicit.
-- Main results: root-norm.
use Rattle.std.specs.Prelude.{ℕ, suc, ◌-◌, ◌<◌, ◌≤◌, List, [], ◌≡◌, ◌⊎◌, length}
use mathlib.Core.Logic.{inl, inr}
use Rattle.std.proofs.Common.{arith}
use Rattle.std.proofs.Math.Path.{sym, ◌∙◌, ap, subst}
use Rattle.omega_kinds.specs.Kind.{Kind}
use Rattle.omega_kinds.specs.declared.effect.Effect.TheVariants.{Pure, Impure}
use Rattle.omega_kinds.specs.Name.{Name}
use Rattle.omega_types.specs.Ty.{Ty}
use Rattle.omega_types.specs.Normalises.{Maps}
use Rattle.omega_types.specs.Binders.{extend, past, own, lifts}
use Rattle.sig_definitions.specs.Signatures.Sig.{Sig, Abs, SigRow, HasField, here, there}
use Rattle.sig_definitions.specs.Signatures.SigSubst.{rename_sig, rename_abs}
use Rattle.sig_definitions.specs.Signatures.Alike.{AlikeRow, val, typ, meta, str, fun, ex, end, more, ConvBetween, ConvSig, ConvAbs}
use Rattle.sig_definitions.specs.Signatures.SigMentions.{MentionsSig, MentionsAbs, MentionsRow, Avoids, by_normal_form}
use Rattle.sig_definitions.specs.Explicit.SigPath.{SigPath, PartAt, ParamOn}
use Rattle.sig_definitions.specs.Explicit.RootPath.{Rooted, at, ParamsAvoid, RootPath, root_path, root_of}
use Rattle.sig_laws.proofs.Formed.RootNumbers.{by_numbers}
use Rattle.sig_definitions.specs.QuantifierOrder.{NewOrder, reordered, renumber, NormSig, Norm, NormRow}
use Rattle.sig_definitions.specs.Explicit.WellFormed.{BeforeAll, Rising, WellFormed, WellFormedRow, WellFormedAbs, ExplicitResults, ExplicitResultsRow, Explicit, abs, explicit, in_meta, in_str, in_pure, in_impure, in_more}
use Rattle.sig_laws.proofs.Algebra.BinderLaws.{past-length, extend-append}
use Rattle.sig_laws.proofs.Algebra.SigAlgebra.{substitute-vars_sig, substitute-vars_abs}
use Rattle.sig_laws.proofs.Algebra.AlikeLaws.{conv_sig-sym, conv_sig-trans, form-conv_sig, form_sig-normal, conv_sig-gives}
use Rattle.sig_laws.proofs.Algebra.SigMention.{mentions_sig-substitute, mentions_abs-substitute, unmentioned_sig}
use Rattle.sig_laws.proofs.Formed.WellFormedLaws.{well_formed-kinds, well_formed-rename, explicit_results-rename, explicit-rename, maps-substitutes, conv_sig-rename, conv_abs-rename}
use Rattle.sig_laws.proofs.Algebra.Own.{split_index}
use Rattle.sig_explicit_laws.proofs.Moves.{params-moved}
use Rattle.sig_norm_laws.proofs.Orders.Orders.{nth, place-nth, nth-untaken, Stage, stage, stages, reordered-length, renumber-own, renumber-below, renumber-only, renumber-past}
use Rattle.sig_laws.proofs.Formed.NormGood.{order-length, reorder-maps}
use Rattle.omega_types.proofs.BinderPuts.{lifts-maps}
use Rattle.sig_laws.specs.Decide.{in_var}
use Rattle.sig_laws.proofs.Formed.Shows.{rooted-shows, shows-rooted, shows-substitute}

-- renamed signatures

pub mentions_sig-rename : (r : ℕ → ℕ) (s : Sig) (v : ℕ) → MentionsSig v (rename_sig r s) → (j : ℕ) × MentionsSig j s × (r j ≡ v)
mentions_sig-rename r s v m = let q = mentions_sig-substitute (λ i. Ty.Var (r i)) s v (subst (MentionsSig v) (sym (substitute-vars_sig r s)) m) in (q.0, q.1, sym (in_var q.2))

pub mentions_abs-rename : (r : ℕ → ℕ) (s : Abs) (v : ℕ) → MentionsAbs v (rename_abs r s) → (j : ℕ) × MentionsAbs j s × (r j ≡ v)
mentions_abs-rename r s v m = let q = mentions_abs-substitute (λ i. Ty.Var (r i)) s v (subst (MentionsAbs v) (sym (substitute-vars_abs r s)) m) in (q.0, q.1, sym (in_var q.2))

pub well_formed_abs-rename : {ctx other : List Kind} {x : Abs} (r : ℕ → ℕ) → Maps ctx other r → WellFormedAbs ctx x → WellFormedAbs other (rename_abs r x)
well_formed_abs-rename r h (abs {ks = ks} w) = abs (well_formed-rename (lifts ks r) (lifts-maps ks h) w)

-- an index that becomes one from outside comes from outside
pub renumber-back : {ctx ks : List Kind} {s : Sig} {order : List ℕ} → NewOrder ctx ks s order → (x i : ℕ) → renumber ks order x ≡ past (reordered ks order) i → x ≡ past ks i
renumber-back {ks = ks} {order = order} t x i e = go (split_index ks x)
  where
    same : past (reordered ks order) i ≡ past ks i
    same = let m = reordered-length t in let p = past-length ks i in let q = past-length (reordered ks order) i in omega arith

    go : (x < length ks) ⊎ ((j : ℕ) × (x ≡ past ks j)) → x ≡ past ks i
    go (inl h) = let p = past-length ks i in let f = sym (renumber-below ks order x h) ∙ (e ∙ same) in absurd (omega (arith, p, f, h))
    go (inr (j, f)) = f ∙ (sym (renumber-past ks order j) ∙ (ap (renumber ks order) (sym f) ∙ (e ∙ same)))

-- a signature with its quantifiers in their order is ordered explicit
pub reorder : {ctx ks : List Kind} {s : Sig} {order : List ℕ} → NewOrder ctx ks s order → WellFormed (extend ctx ks) s → ExplicitResults (extend ctx ks) s → Explicit ctx (Abs.Ex (reordered ks order) (rename_sig (renumber ks order) s))
reorder {ctx} {ks} {s} {order} t w r = explicit
    (well_formed-rename (renumber ks order) (reorder-maps t ctx) w)
    (explicit_results-rename (renumber ks order) (reorder-maps t ctx) r)
    (λ k lt. root k (bound k lt) (stages k t (bound k lt)))
  where
    bound : (k : ℕ) → k < length (reordered ks order) → k < length order
    bound k lt = let m = reordered-length t in let l = order-length t in omega (arith, m, l, lt)

    own-new : (k : ℕ) → k < length order → renumber ks order (own ks (nth order k)) ≡ own (reordered ks order) k
    own-new k lt = renumber-own ks order (nth order k) (nth-untaken k t lt).0 ∙ (ap (own ks) (place-nth k t lt) ∙ sym (ap (λ n. n - suc k) (reordered-length t)))

    root : (k : ℕ) → k < length order → Stage ctx ks s order k → (p : SigPath) × RootPath ctx (reordered ks order) (rename_sig (renumber ks order) s) k p
    root k lt (stage {p = p} x a) = (p, by_numbers (let m = reordered-length t in let l = order-length t in omega (arith, m, l, lt)) rooted avoid)
      where
        rooted : Rooted (extend ctx (reordered ks order)) (rename_sig (renumber ks order) s) (own (reordered ks order) k) p
        rooted = subst (λ z. Rooted (extend ctx (reordered ks order)) z (own (reordered ks order) k) p) (substitute-vars_sig (renumber ks order) s)
            (shows-rooted (ap Ty.Var (own-new k lt)) (shows-substitute (λ i. Ty.Var (renumber ks order i)) (maps-substitutes (reorder-maps t ctx)) (rooted-shows x)))

        avoid : (j : ℕ) → k ≤ j → j < length (reordered ks order) → ParamsAvoid (extend ctx (reordered ks order)) (rename_sig (renumber ks order) s) p (own (reordered ks order) j)
        avoid j le f = subst (λ z. ParamsAvoid (extend ctx (reordered ks order)) z p (own (reordered ks order) j)) (substitute-vars_sig (renumber ks order) s)
            (params-moved s p (own (reordered ks order) j) (λ i. Ty.Var (renumber ks order i)) (maps-substitutes (reorder-maps t ctx)) (well_formed-kinds w)
            (λ z m. subst (ParamsAvoid (extend ctx ks) s p) (sym (renumber-only t j (bound j f) z (sym (in_var m) ∙ ap (λ n. n - suc j) (reordered-length t)))) (a j le (bound j f))))

-- the types in what norm gives are those of the signature

pub data Like (ctx : List Kind) (t s : Sig) : Type 0 where
  like : (u : Sig) → ConvSig ctx t u → ((i : ℕ) → MentionsSig i u → MentionsSig i s) → Like ctx t s

pub data LikeAbs (ctx : List Kind) (t s : Abs) : Type 0 where
  like : (u : Abs) → ConvAbs ctx t u → ((i : ℕ) → MentionsAbs i u → MentionsAbs i s) → LikeAbs ctx t s

pub data LikeRow (ctx : List Kind) (t s : SigRow) : Type 0 where
  like : (u : SigRow) → AlikeRow ConvBetween ctx t u → ((i : ℕ) → MentionsRow i u → MentionsRow i s) → LikeRow ctx t s

like-meta : {ctx : List Kind} {y x : Abs} → LikeAbs ctx y x → Like ctx (Sig.Meta y) (Sig.Meta x)
like-meta (LikeAbs.like u c m) = Like.like (Sig.Meta u) (meta c) m

like-str : {ctx : List Kind} {gs fs : SigRow} → LikeRow ctx gs fs → Like ctx (Sig.Str gs) (Sig.Str fs)
like-str (LikeRow.like u c m) = Like.like (Sig.Str u) (str c) m

like-more : {ctx : List Kind} {l : Name} {t s : Sig} {gs fs : SigRow} → Like ctx t s → LikeRow ctx gs fs → LikeRow ctx (SigRow.More l t gs) (SigRow.More l s fs)
like-more {l = l} {s = s} {fs = fs} (Like.like u c m) (LikeRow.like us cs ms) = LikeRow.like (SigRow.More l u us) (more c cs) go
  where
    go : (i : ℕ) → MentionsRow i (SigRow.More l u us) → MentionsRow i (SigRow.More l s fs)
    go i (inl q) = inl (m i q)
    go i (inr q) = inr (ms i q)

like-pure : {ctx ks : List Kind} {t s q r : Sig} → Like (extend ctx ks) t s → Like (extend ctx ks) q r → Like ctx (Sig.Fun Pure ks t (Abs.Ex [] q)) (Sig.Fun Pure ks s (Abs.Ex [] r))
like-pure {ks = ks} {s = s} {r = r} (Like.like u c m) (Like.like v d n) = Like.like (Sig.Fun Pure ks u (Abs.Ex [] v)) (fun c (ex d)) go
  where
    go : (i : ℕ) → MentionsSig i (Sig.Fun Pure ks u (Abs.Ex [] v)) → MentionsSig i (Sig.Fun Pure ks s (Abs.Ex [] r))
    go i (inl q) = inl (m (past ks i) q)
    go i (inr q) = inr (n (past ks i) q)

like-reordered : {ctx ks : List Kind} {t s : Sig} {order : List ℕ} → NewOrder ctx ks t order → Like (extend ctx ks) t s → LikeAbs ctx (Abs.Ex (reordered ks order) (rename_sig (renumber ks order) t)) (Abs.Ex ks s)
like-reordered {ctx} {ks} {t} {s} {order} o (Like.like u c m) = LikeAbs.like (Abs.Ex (reordered ks order) (rename_sig (renumber ks order) u)) (ex (conv_sig-rename (renumber ks order) (reorder-maps o ctx) c)) go
  where
    go : (i : ℕ) → MentionsSig (past (reordered ks order) i) (rename_sig (renumber ks order) u) → MentionsSig (past ks i) s
    go i q = let w = mentions_sig-rename (renumber ks order) u (past (reordered ks order) i) q in m (past ks i) (subst (λ j. MentionsSig j u) (renumber-back o w.0 i w.2) w.1)

like-impure : {ctx ks : List Kind} {t s : Sig} {y x : Abs} {order : List ℕ} → NewOrder ctx ks t order → Like (extend ctx ks) t s → LikeAbs (extend ctx ks) y x → Like ctx (Sig.Fun Impure (reordered ks order) (rename_sig (renumber ks order) t) (rename_abs (renumber ks order) y)) (Sig.Fun Impure ks s x)
like-impure {ctx} {ks} {t} {s} {y} {x} {order} o (Like.like u c m) (LikeAbs.like v d n) =
    Like.like (Sig.Fun Impure (reordered ks order) (rename_sig (renumber ks order) u) (rename_abs (renumber ks order) v)) (fun (conv_sig-rename (renumber ks order) (reorder-maps o ctx) c) (conv_abs-rename (renumber ks order) (reorder-maps o ctx) d)) go
  where
    go : (i : ℕ) → MentionsSig i (Sig.Fun Impure (reordered ks order) (rename_sig (renumber ks order) u) (rename_abs (renumber ks order) v)) → MentionsSig i (Sig.Fun Impure ks s x)
    go i (inl q) = let w = mentions_sig-rename (renumber ks order) u (past (reordered ks order) i) q in inl (m (past ks i) (subst (λ j. MentionsSig j u) (renumber-back o w.0 i w.2) w.1))
    go i (inr q) = let w = mentions_abs-rename (renumber ks order) v (past (reordered ks order) i) q in inr (n (past ks i) (subst (λ j. MentionsAbs j v) (renumber-back o w.0 i w.2) w.1))

mutual
  pub norm-like : {ctx : List Kind} {s t r : Sig} → NormSig ctx s t → ConvSig ctx s r → Like ctx t r
  norm-like NormSig.val (val {u = u} c) = Like.like (Sig.Val u) (val c) (λ i m. m)
  norm-like NormSig.typ (typ {u = u} {k = k} c) = Like.like (Sig.Typ u k) (typ c) (λ i m. m)
  norm-like (NormSig.meta x) (meta c) = like-meta (norm_abs-like x c)
  norm-like (NormSig.str fs) (str c) = like-str (norm_row-like fs c)
  norm-like (NormSig.pure a b) (fun c (ex d)) = like-pure (norm-like a c) (norm-like b d)
  norm-like (NormSig.impure a o x) (fun c d) = like-impure o (norm-like a c) (norm_abs-like x d)

  pub norm_abs-like : {ctx : List Kind} {x y z : Abs} → Norm ctx x y → ConvAbs ctx x z → LikeAbs ctx y z
  norm_abs-like (Norm.ex a o) (ex c) = like-reordered o (norm-like a c)

  pub norm_row-like : {ctx : List Kind} {fs gs hs : SigRow} → NormRow ctx fs gs → AlikeRow ConvBetween ctx fs hs → LikeRow ctx gs hs
  norm_row-like NormRow.end end = LikeRow.like SigRow.End end (λ i m. m)
  norm_row-like (NormRow.more a rest) (more c cs) = like-more (norm-like a c) (norm_row-like rest cs)

pub avoids-norm : {ctx : List Kind} {s t : Sig} (i : ℕ) → NormSig ctx s t → Avoids ctx s i → Avoids ctx t i
avoids-norm {ctx} {s} {t} i n (by_normal_form {n = m} f h) = go (norm-like n (form-conv_sig f))
  where
    go : Like ctx t m → Avoids ctx t i
    go (Like.like u c w) = let g = conv_sig-gives c in by_normal_form g (unmentioned_sig i (conv_sig-trans (conv_sig-sym c) (form-conv_sig g)) (form_sig-normal g) (λ q. h (w i q)))

-- parts and parameters of what norm gives

field-norm : {ctx : List Kind} {fs gs : SigRow} {l : Name} {s : Sig} → NormRow ctx fs gs → HasField fs l s → (t : Sig) × HasField gs l t × NormSig ctx s t
field-norm NormRow.end h = elim h [ ]
field-norm (NormRow.more {t = t} a rest) here = (t, here, a)
field-norm (NormRow.more a rest) (there d h) = let q = field-norm rest h in (q.0, there d q.1, q.2)

field-norm-back : {ctx : List Kind} {fs gs : SigRow} {l : Name} {t : Sig} → NormRow ctx fs gs → HasField gs l t → (s : Sig) × HasField fs l s × NormSig ctx s t
field-norm-back NormRow.end h = elim h [ ]
field-norm-back (NormRow.more {s = s} a rest) here = (s, here, a)
field-norm-back (NormRow.more a rest) (there d h) = let q = field-norm-back rest h in (q.0, there d q.1, q.2)

pub part-norm : (ctx : List Kind) {s t : Sig} {p : SigPath} {bs : List Kind} {u : Ty} {k : Kind} → PartAt s p bs (Sig.Typ u k) → NormSig ctx s t → PartAt t p bs (Sig.Typ u k)
part-norm ctx PartAt.end NormSig.typ = PartAt.end
part-norm ctx (PartAt.field h x) (NormSig.str fs) = let g = field-norm fs h in PartAt.field g.1 (part-norm ctx x g.2)
part-norm ctx (PartAt.result {ks = ks} x) (NormSig.pure a b) = PartAt.result (part-norm (extend ctx ks) x b)

pub param-norm-back : (ctx : List Kind) {s t q : Sig} {p : SigPath} {ds js : List Kind} → NormSig ctx s t → ParamOn t p ds js q → (r : Sig) × ParamOn s p ds js r × NormSig (extend (extend ctx ds) js) r q
param-norm-back ctx NormSig.val on = elim on [ ]
param-norm-back ctx NormSig.typ on = elim on [ ]
param-norm-back ctx (NormSig.meta x) on = elim on [ ]
param-norm-back ctx (NormSig.impure a o x) on = elim on [ ]
param-norm-back ctx (NormSig.str fs) (ParamOn.field h on) = let g = field-norm-back fs h in let w = param-norm-back ctx g.2 on in (w.0, ParamOn.field g.1 w.1, w.2)
param-norm-back ctx (NormSig.pure {s = s} a b) ParamOn.here = (s, ParamOn.here, a)
param-norm-back ctx {q = q} (NormSig.pure {ks = ks} a b) (ParamOn.result {ds = ds} {js = js} on) = let w = param-norm-back (extend ctx ks) b on in (w.0, ParamOn.result w.1, subst (λ c. NormSig (extend c js) w.0 q) (sym (extend-append ks ds ctx)) w.2)

-- norm keeps the root paths of hidden types
pub root-norm : {ctx ks : List Kind} {s t : Sig} {i : ℕ} {p : SigPath} → NormSig (extend ctx ks) s t → RootPath ctx ks s i p → RootPath ctx ks t i p
root-norm {ctx} {ks} {s} {t} {i} {p} n (root_path b (root_of (at x c) a)) = root_path b (root_of (at (part-norm (extend ctx ks) x n) c)
    (λ j le ds js q on. let w = param-norm-back (extend ctx ks) n on in avoids-norm (past js (past ds j)) w.2 (a j le ds js w.0 w.1)))

before_all-norm : {ctx : List Kind} {fs gs : SigRow} (l : Name) → NormRow ctx fs gs → BeforeAll l fs → BeforeAll l gs
before_all-norm l NormRow.end h = tt
before_all-norm l (NormRow.more a rest) h = (h.0, before_all-norm l rest h.1)

rising-norm : {ctx : List Kind} {fs gs : SigRow} → NormRow ctx fs gs → Rising fs → Rising gs
rising-norm NormRow.end h = tt
rising-norm (NormRow.more {l = l} a rest) h = (before_all-norm l rest h.0, rising-norm rest h.1)

mutual
  -- norm keeps signatures well formed
  pub norm-well_formed : {ctx : List Kind} {s t : Sig} → NormSig ctx s t → WellFormed ctx s → WellFormed ctx t
  norm-well_formed NormSig.val w = w
  norm-well_formed NormSig.typ w = w
  norm-well_formed (NormSig.meta x) (WellFormed.meta e) = WellFormed.meta (norm_abs-explicit x e)
  norm-well_formed (NormSig.str fs) (WellFormed.str r w) = WellFormed.str (rising-norm fs r) (norm_row-well_formed fs w)
  norm-well_formed (NormSig.pure a b) (WellFormed.pure (explicit w r e) v) = WellFormed.pure (explicit (norm-well_formed a w) (norm-results a r) (λ i lt. let q = e i lt in (q.0, root-norm a q.1))) (norm-well_formed b v)
  norm-well_formed {ctx} (NormSig.impure {ks = ks} {order = order} a o x) (WellFormed.impure (explicit w r e) v) =
      WellFormed.impure (reorder o (norm-well_formed a w) (norm-results a r)) (well_formed_abs-rename (renumber ks order) (reorder-maps o ctx) (norm_abs-well_formed x v))

  pub norm_row-well_formed : {ctx : List Kind} {fs gs : SigRow} → NormRow ctx fs gs → WellFormedRow ctx fs → WellFormedRow ctx gs
  norm_row-well_formed NormRow.end w = w
  norm_row-well_formed (NormRow.more a rest) (WellFormedRow.more w ws) = WellFormedRow.more (norm-well_formed a w) (norm_row-well_formed rest ws)

  pub norm_abs-well_formed : {ctx : List Kind} {x y : Abs} → Norm ctx x y → WellFormedAbs ctx x → WellFormedAbs ctx y
  norm_abs-well_formed {ctx} (Norm.ex {ks = ks} {order = order} a o) (abs w) = abs (well_formed-rename (renumber ks order) (reorder-maps o ctx) (norm-well_formed a w))

  pub norm-results : {ctx : List Kind} {s t : Sig} → NormSig ctx s t → ExplicitResults ctx s → ExplicitResults ctx t
  norm-results NormSig.val r = r
  norm-results NormSig.typ r = r
  norm-results (NormSig.meta x) r = in_meta
  norm-results (NormSig.str fs) (in_str r) = in_str (norm_row-results fs r)
  norm-results (NormSig.pure a b) (in_pure r) = in_pure (norm-results b r)
  norm-results {ctx} (NormSig.impure {ks = ks} {order = order} a o x) (in_impure e) = in_impure (explicit-rename (renumber ks order) (reorder-maps o ctx) (norm_abs-explicit x e))

  pub norm_row-results : {ctx : List Kind} {fs gs : SigRow} → NormRow ctx fs gs → ExplicitResultsRow ctx fs → ExplicitResultsRow ctx gs
  norm_row-results NormRow.end r = r
  norm_row-results (NormRow.more a rest) (in_more r rs) = in_more (norm-results a r) (norm_row-results rest rs)

  -- norm keeps signatures that hide types ordered explicit
  pub norm_abs-explicit : {ctx : List Kind} {x y : Abs} → Norm ctx x y → Explicit ctx x → Explicit ctx y
  norm_abs-explicit (Norm.ex a o) (explicit w r e) = reorder o (norm-well_formed a w) (norm-results a r)
