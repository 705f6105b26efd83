-- The type that is found is the normal form of each type that the rules give, and there is none where they give none.
-- Main results: complete, typed, untyped, unkinded, differs.
use Rattle.std.proofs.Common.{◌≡◌, ℕ, zero, suc, List, [], ◌∷◌, Option, Some, None, Bool as Truth, true, false, if◌then◌else◌, not, ◌&&◌, map, slice_get, refl}
use Rattle.std.proofs.Common.{sym, ap, ap₂, ◌∙◌, subst}
use Rattle.std.proofs.lemmas.Bool.{and_parts, and_from}
use Rattle.std.proofs.lemmas.Option.{same_Some}
use Rattle.std.specs.Option.{option_map}
use Rattle.std.specs.Ordering.{is_eq}
use Rattle.omega_kinds.specs.Kind.{Kind}
use Rattle.omega_kinds.specs.LabelOrder.{label_cmp}
use Rattle.omega_kinds.specs.declared.label.Label.{Label}
use Rattle.omega_kinds.proofs.LabelLaws.{label-yes, label-self}
use Rattle.omega_types.specs.Ty.{Ty, Row}
use Rattle.omega_types.specs.Index.{i_here, shift}
use Rattle.omega_types.specs.Kinding.{HasKind, HasKinds, Fresh}
use Rattle.omega_types.specs.Kinding.HasKind.{k_arrow}
use Rattle.omega_types.specs.Normality.{Normal}
use Rattle.omega_types.specs.Normaliser.{normal, normal_row, hsubst}
use Rattle.omega_types.specs.Substitution.{rename, substitute, instantiate}
use Rattle.omega_types.specs.Mentions.{lower}
use Rattle.omega_types.proofs.Inverse.{ex-kinds, all-kinds, sum-kinds, mu-kinds}
use Rattle.omega_types.proofs.LawProofs.{normal_of_substitute}
use Rattle.omega_types.proofs.Single.{put-zero, shift-suc}
use Rattle.type_store.specs.Inner.ShapeLaws.{no}
use Rattle.type_store.proofs.LowerSteps.{lowered-raised, raised-misses}
use Rattle.type_store.proofs.PartSteps.{tops}
use Rattle.omega_terms.specs.Term.{Term, TermRow}
use Rattle.omega_terms.specs.Typing.{At, HasType, GoodVars, shift_all}
use Rattle.omega_terms.proofs.NormalTyping.{shift-at}
use Rattle.omega_terms.proofs.TypingLaws.{good-none, good-more, good-shift, type-kind}
use Rattle.omega_laws.specs.Synthesis.{Synth, SynthFields, SynthBranches}
use Rattle.omega_laws.proofs.Synthesised.{sound, exact, synth-normal, synth_cast, revar, same_cons, same_refl, nf_nf, nf_kind, nf_shifted, all_body}
use Rattle.omega_node_laws.specs.Found.{and_then, normal_at, put_normal, call_type, let_type, inst_type, get_type, if_same, pack_type, lowered, of_package}
use Rattle.omega_node_laws.specs.Found.{if_type, op_type, fix_type, inj_type, case_type, is_found, unfolded, roll_type, unroll_type, more_type, is_new}
use Rattle.omega_node_laws.specs.Found.{labels_differ, synth_in, synth_row, synth_branches, target_type}
use Rattle.omega_node_laws.specs.SameTy.{same_ty}
use Rattle.omega_node_laws.proofs.PutBack.{normal-type, target-normal}
use Rattle.omega_node_laws.proofs.Trees.{same_ty-yes, same_ty-self}
use Rattle.omega_node_laws.proofs.Inverted.{if-yes, and_then-yes, map-yes, normal_at-yes, normal_at-of, call-yes, let-cases, inst-yes, part_at-of, get-yes}
use Rattle.omega_node_laws.proofs.Inverted.{pack-yes, package-yes, lowered-yes, if_type-yes, op-yes, fix-yes, inj-yes, case-yes, is_found-yes, roll-yes}
use Rattle.omega_node_laws.proofs.Inverted.{unroll-yes, more-yes, get-at}

-- ---- normal types in the context

abbrev NormalVars : List Kind → List Ty → Type 0
NormalVars ctx vars = (n : ℕ) (t : Ty) → At vars n t → normal ctx t ≡ t

normal-more : {ctx : List Kind} {vars : List Ty} {t : Ty} → normal ctx t ≡ t → NormalVars ctx vars → NormalVars ctx (t ∷ vars)
normal-more e f zero t At.here = e
normal-more e f (suc n) t (At.there h) = f n t h

normal-shift : {ctx : List Kind} (vars : List Ty) (k : Kind) → GoodVars ctx vars → NormalVars ctx vars → NormalVars (k ∷ ctx) (shift_all vars)
normal-shift {ctx} vars k g f n t h =
    let a = shift-at vars h in
    subst (λ u. normal (k ∷ ctx) u ≡ u) a.is (nf_shifted k (g n a.ty a.at) ∙ ap (rename suc) (f n a.ty a.at))

-- existential types are the same only if their bodies are
pub ex-body : {j k : Kind} {b c : Ty} → Ty.Ex j b ≡ Ty.Ex k c → b ≡ c
ex-body p = cc

-- the body of a binder with a type put in
filled : {ctx : List Kind} {k : Kind} {t b : Ty} → HasKind ctx t k → HasKind (k ∷ ctx) b Kind.Star → normal (k ∷ ctx) b ≡ b
    → hsubst k zero (normal ctx t) b ≡ normal ctx (instantiate b t)
filled {ctx} {k} {t} {b} h i e =
    sym (ap (λ s. normal ctx (substitute s b)) (sym (put-zero t)) ∙
    (normal_of_substitute ctx (k ∷ ctx) zero t b k Kind.Star i_here h i ∙ ap (hsubst k zero (normal ctx t)) e))

mu-body : {b c : Ty} → Ty.Mu b ≡ Ty.Mu c → b ≡ c
mu-body p = cc

-- sums are the same only if their rows are
pub sum-row : {r q : Row} → Ty.Sum r ≡ Ty.Sum q → r ≡ q
sum-row p = cc

-- a normal recursive type put into its body
unfolds : {ctx : List Kind} {b : Ty} → HasKind ctx (Ty.Mu b) Kind.Star → normal ctx (Ty.Mu b) ≡ Ty.Mu b → unfolded b ≡ normal ctx (instantiate b (Ty.Mu b))
unfolds {ctx} {b} h e = ap (λ s. hsubst Kind.Star zero s b) (sym e) ∙ filled h (mu-kinds h) (mu-body e)

-- the normal form of a type is normal where it is named
nf-named : {ctx : List Kind} {t n : Ty} → HasKind ctx t Kind.Star → normal ctx t ≡ n → HasKind ctx n Kind.Star × (normal ctx n ≡ n)
nf-named {ctx} h e = (subst (λ s. HasKind ctx s Kind.Star) e (nf_kind h), ap (normal ctx) (sym e) ∙ (nf_nf h ∙ e))

-- the type at the first label of a row of types of kind *
first-kind : {ctx : List Kind} {l : Label} {t : Ty} {r : Row} → HasKinds ctx (Row.More l t r) → HasKind ctx t Kind.Star
first-kind (HasKinds.k_more f k rest) = k

rest-kinds : {ctx : List Kind} {l : Label} {t : Ty} {r : Row} → HasKinds ctx (Row.More l t r) → HasKinds ctx r
rest-kinds (HasKinds.k_more f k rest) = rest

-- ---- labels

new-fresh : (l : Label) (ctx : List Kind) (vars : List Ty) (f : TermRow) (r : Row) → is_new l f ≡ true → synth_row ctx vars f ≡ Some r → Fresh l r
new-fresh l ctx vars TermRow.End r e h = subst (Fresh l) (same_Some _ _ h) tt
new-fresh l ctx vars (TermRow.More m d f) r e h =
    let p = and_parts (not (is_eq (label_cmp l m))) (is_new l f) e in
    let q = more-yes m (synth_in ctx vars d) (synth_row ctx vars f) r h in
    subst (Fresh l) q.4 (λ s. differ (is_eq (label_cmp l m)) p.0 (ap (λ k. is_eq (label_cmp l k)) (sym s) ∙ label-self l), new-fresh l ctx vars f q.1 p.1 q.3)
  where
    differ : (b : Truth) → not b ≡ true → b ≡ true → ⊥
    differ true e f = no e
    differ false e f = no f

fresh-new : (l : Label) {ctx : List Kind} {vars : List Ty} {f : TermRow} {r : Row} → SynthFields ctx vars f r → Fresh l r → is_new l f ≡ true
fresh-new l SynthFields.end h = refl
fresh-new l (SynthFields.more {l = m} {f = f} d i rest) h =
    and_from (not (is_eq (label_cmp l m))) (is_new l f) (differ (is_eq (label_cmp l m)) refl) (fresh-new l rest h.1)
  where
    differ : (b : Truth) → is_eq (label_cmp l m) ≡ b → not b ≡ true
    differ true e = absurd (h.0 (label-yes l m e))
    differ false e = refl

-- ---- what is found is synthesised

mutual
  pub found-sound : (e : Term) (ctx : List Kind) (vars : List Ty) (t : Ty) → GoodVars ctx vars → NormalVars ctx vars → synth_in ctx vars e ≡ Some t
      → Synth ctx vars e t
  found-sound (Term.Var n) ctx vars t g f h = let a = get-at vars n t h in synth_cast (f n t a) (Synth.var a)
  found-sound (Term.Int z) ctx vars t g f h = synth_cast (same_Some _ _ h) Synth.int
  found-sound (Term.Bool b) ctx vars t g f h = synth_cast (same_Some _ _ h) Synth.bool
  found-sound (Term.Text s) ctx vars t g f h = synth_cast (same_Some _ _ h) Synth.text
  found-sound (Term.Lam a e) ctx vars t g f h =
      let p = and_then-yes (normal_at ctx a Kind.Star) (λ n. option_map (Ty.Arrow n) (synth_in ctx (n ∷ vars) e)) t h in
      let q = normal_at-yes ctx a Kind.Star p.0 p.1 in
      let r = map-yes (Ty.Arrow p.0) (synth_in ctx (p.0 ∷ vars) e) t p.2 in
      let k = subst (λ u. HasKind ctx u Kind.Star) q.1 (nf_kind q.0) in
      let m = ap (normal ctx) (sym q.1) ∙ nf_nf q.0 in
      let i = found-sound e ctx (p.0 ∷ vars) r.0 (good-more k g) (normal-more (m ∙ q.1) f) r.1 in
      synth_cast (ap (λ u. Ty.Arrow u r.0) q.1 ∙ r.2) (Synth.lam q.0 (revar (a ∷ vars) (good-more k g) (good-more q.0 g) (same_cons m (same_refl ctx vars)) i))
  found-sound (Term.Call (Term.Lam b e) a) ctx vars t g f h =
      let-cases (normal_at ctx b Kind.Star) b (λ n. synth_in ctx (n ∷ vars) e) (synth_in ctx vars a) t h
      (λ u p s q.
      let i = found-sound a ctx vars u g f p in
      let n = synth-normal g i in
      let k = type-kind g (sound g i) in
      let j = found-sound e ctx (u ∷ vars) t (good-more k g) (normal-more n f) q in
      Synth.call (subst (λ w. Synth ctx vars (Term.Lam w e) (Ty.Arrow u t)) (sym s) (synth_cast (ap (λ w. Ty.Arrow w t) n) (Synth.lam k j))) i)
      (λ u p q.
      let r = call-yes (synth_in ctx vars (Term.Lam b e)) (Some u) t q in
      Synth.call (found-sound (Term.Lam b e) ctx vars (Ty.Arrow r.0 t) g f r.1) (found-sound a ctx vars r.0 g f (p ∙ r.2)))
  found-sound (Term.Call d a) ctx vars t g f h =
      let p = call-yes (synth_in ctx vars d) (synth_in ctx vars a) t h in
      Synth.call (found-sound d ctx vars (Ty.Arrow p.0 t) g f p.1) (found-sound a ctx vars p.0 g f p.2)
  found-sound (Term.TyLam k e) ctx vars t g f h =
      let p = map-yes (Ty.All k) (synth_in (k ∷ ctx) (shift_all vars) e) t h in
      synth_cast p.2 (Synth.ty_lam (found-sound e (k ∷ ctx) (shift_all vars) p.0 (good-shift vars k g) (normal-shift vars k g f) p.1))
  found-sound (Term.Inst e a) ctx vars t g f h =
      let p = inst-yes ctx (synth_in ctx vars e) a t h in
      let i = found-sound e ctx vars (Ty.All p.0 p.1) g f p.2 in
      synth_cast (sym (filled p.3 (all-kinds (type-kind g (sound g i))) (all_body (synth-normal g i))) ∙ p.4) (Synth.inst i p.3)
  found-sound (Term.Fields row) ctx vars t g f h =
      let p = if-yes (labels_differ row) (option_map Ty.Fields (synth_row ctx vars row)) t h in
      let q = map-yes Ty.Fields (synth_row ctx vars row) t p.1 in
      synth_cast q.2 (Synth.fields (row-sound row ctx vars q.0 g f p.0 q.1))
  found-sound (Term.Get e l) ctx vars t g f h =
      let p = get-yes (synth_in ctx vars e) l t h in Synth.get (found-sound e ctx vars (Ty.Fields p.0) g f p.1) p.2
  found-sound (Term.Pack a e u) ctx vars t g f h =
      let o = synth_in ctx vars e in
      let tested = target-normal ctx a u o (λ s r. let i = found-sound e ctx vars s g f r in normal-type (type-kind g (sound g i)) (synth-normal g i)) in
      let p = pack-yes ctx a (normal_at ctx u Kind.Star) o t (ap (λ n. pack_type ctx a n o) (sym tested) ∙ h) in
      let q = normal_at-yes ctx u Kind.Star (Ty.Ex p.0 p.1) p.2 in
      let k = ex-kinds (subst (λ v. HasKind ctx v Kind.Star) q.1 (nf_kind q.0)) in
      let n = ex-body (ap (normal ctx) (sym q.1) ∙ (nf_nf q.0 ∙ q.1)) in
      let i = found-sound e ctx vars (hsubst p.0 zero (normal ctx a) p.1) g f p.4 in
      synth_cast (q.1 ∙ p.5) (Synth.pack q.0 q.1 p.3 (synth_cast (filled p.3 k n) i))
  found-sound (Term.Unpack d e) ctx vars t g f h =
      let p = and_then-yes (synth_in ctx vars d) (λ s. of_package s (λ k b. lowered (synth_in (k ∷ ctx) (b ∷ shift_all vars) e))) t h in
      let q = package-yes p.0 (λ k b. lowered (synth_in (k ∷ ctx) (b ∷ shift_all vars) e)) t p.2 in
      let i = found-sound d ctx vars (Ty.Ex q.0 q.1) g f (p.1 ∙ ap Some q.2) in
      let k = ex-kinds (type-kind g (sound g i)) in
      let r = lowered-yes (synth_in (q.0 ∷ ctx) (q.1 ∷ shift_all vars) e) t q.3 in
      Synth.unpack i (found-sound e (q.0 ∷ ctx) (q.1 ∷ shift_all vars) (rename suc t) (good-more k (good-shift vars q.0 g))
      (normal-more (ex-body (synth-normal g i)) (normal-shift vars q.0 g f)) r)
  found-sound (Term.If a b c) ctx vars t g f h =
      let p = if_type-yes (synth_in ctx vars a) (synth_in ctx vars b) (synth_in ctx vars c) t h in
      Synth.if_ (found-sound a ctx vars Ty.Bool g f p.0) (found-sound b ctx vars t g f p.1) (found-sound c ctx vars t g f p.2)
  found-sound (Term.Arith o a b) ctx vars t g f h =
      let p = op-yes o (synth_in ctx vars a) (synth_in ctx vars b) t h in
      synth_cast p.2 (Synth.arith (found-sound a ctx vars Ty.Int g f p.0) (found-sound b ctx vars Ty.Int g f p.1))
  found-sound (Term.Fix a u e) ctx vars t g f h =
      let p =
      and_then-yes (normal_at ctx a Kind.Star)
      (λ n. and_then (normal_at ctx u Kind.Star) (λ m. fix_type n m (synth_in ctx (n ∷ (Ty.Arrow n m ∷ vars)) e))) t h in
      let q = and_then-yes (normal_at ctx u Kind.Star) (λ m. fix_type p.0 m (synth_in ctx (p.0 ∷ (Ty.Arrow p.0 m ∷ vars)) e)) t p.2 in
      let x = normal_at-yes ctx a Kind.Star p.0 p.1 in
      let y = normal_at-yes ctx u Kind.Star q.0 q.1 in
      let z = fix-yes p.0 q.0 (synth_in ctx (p.0 ∷ (Ty.Arrow p.0 q.0 ∷ vars)) e) t q.2 in
      let k = subst (λ v. HasKind ctx v Kind.Star) x.1 (nf_kind x.0) in
      let j = subst (λ v. HasKind ctx v Kind.Star) y.1 (nf_kind y.0) in
      let m = ap (normal ctx) (sym x.1) ∙ nf_nf x.0 in
      let n = ap (normal ctx) (sym y.1) ∙ nf_nf y.0 in
      let i =
      found-sound e ctx (p.0 ∷ (Ty.Arrow p.0 q.0 ∷ vars)) q.0 (good-more k (good-more (k_arrow k j) g))
      (normal-more (m ∙ x.1) (normal-more (ap₂ Ty.Arrow (m ∙ x.1) (n ∙ y.1)) f)) z.0 in
      synth_cast (ap₂ Ty.Arrow x.1 y.1 ∙ z.1)
      (Synth.fix x.0 y.0 (synth_cast (sym y.1)
      (revar (a ∷ (Ty.Arrow a u ∷ vars)) (good-more k (good-more (k_arrow k j) g)) (good-more x.0 (good-more (k_arrow x.0 y.0) g))
      (same_cons m (same_cons (ap₂ Ty.Arrow m n) (same_refl ctx vars))) i)))
  found-sound (Term.Inj l e u) ctx vars t g f h =
      let p = inj-yes l (normal_at ctx u Kind.Star) (synth_in ctx vars e) t h in
      let q = normal_at-yes ctx u Kind.Star (Ty.Sum p.0) p.2 in
      synth_cast (q.1 ∙ p.5) (Synth.inj q.0 q.1 p.3 (found-sound e ctx vars p.1 g f p.4))
  found-sound (Term.Case e u row) ctx vars t g f h =
      let p = case-yes (synth_in ctx vars e) (normal_at ctx u Kind.Star) (synth_branches ctx vars row) t h in
      let q = normal_at-yes ctx u Kind.Star t p.2 in
      let i = found-sound e ctx vars (Ty.Sum p.0) g f p.1 in
      let k = sum-kinds (type-kind g (sound g i)) in
      synth_cast q.1 (Synth.case i q.0 (branches-sound row ctx vars p.0 (normal ctx u) g f k (sum-row (synth-normal g i))
      (subst (λ n. synth_branches ctx vars row p.0 n ≡ true) (sym q.1) p.3)))
  found-sound (Term.Roll e u) ctx vars t g f h =
      let p = roll-yes (normal_at ctx u Kind.Star) (synth_in ctx vars e) t h in
      let q = normal_at-yes ctx u Kind.Star (Ty.Mu p.0) p.1 in
      let n = nf-named q.0 q.1 in
      synth_cast (q.1 ∙ p.3) (Synth.roll q.0 q.1 (synth_cast (unfolds n.0 n.1) (found-sound e ctx vars (unfolded p.0) g f p.2)))
  found-sound (Term.Unroll e) ctx vars t g f h =
      let p = unroll-yes (synth_in ctx vars e) t h in
      let i = found-sound e ctx vars (Ty.Mu p.0) g f p.1 in
      synth_cast (sym (unfolds (type-kind g (sound g i)) (synth-normal g i)) ∙ p.2) (Synth.unroll i)

  row-sound : (row : TermRow) (ctx : List Kind) (vars : List Ty) (r : Row) → GoodVars ctx vars → NormalVars ctx vars → labels_differ row ≡ true
      → synth_row ctx vars row ≡ Some r → SynthFields ctx vars row r
  row-sound TermRow.End ctx vars r g f d h = subst (SynthFields ctx vars TermRow.End) (same_Some _ _ h) SynthFields.end
  row-sound (TermRow.More l e rest) ctx vars r g f d h =
      let p = more-yes l (synth_in ctx vars e) (synth_row ctx vars rest) r h in
      let q = and_parts (is_new l rest) (labels_differ rest) d in
      subst (SynthFields ctx vars (TermRow.More l e rest)) p.4
      (SynthFields.more (found-sound e ctx vars p.0 g f p.2) (new-fresh l ctx vars rest p.1 q.0 p.3) (row-sound rest ctx vars p.1 g f q.1 p.3))

  branches-sound : (row : TermRow) (ctx : List Kind) (vars : List Ty) (r : Row) (t : Ty) → GoodVars ctx vars → NormalVars ctx vars → HasKinds ctx r
      → normal_row ctx r ≡ r → synth_branches ctx vars row r t ≡ true → SynthBranches ctx vars row r t
  branches-sound TermRow.End ctx vars Row.End t g f k n h = SynthBranches.none
  branches-sound TermRow.End ctx vars (Row.More m u r) t g f k n h = no h
  branches-sound (TermRow.More l e rest) ctx vars Row.End t g f k n h = no h
  branches-sound (TermRow.More l e rest) ctx vars (Row.More m u r) t g f k n h =
      let p = and_parts (is_eq (label_cmp l m)) (is_found t (synth_in ctx (u ∷ vars) e) && synth_branches ctx vars rest r t) h in
      let q = and_parts (is_found t (synth_in ctx (u ∷ vars) e)) (synth_branches ctx vars rest r t) p.1 in
      let i = found-sound e ctx (u ∷ vars) t (good-more (first-kind k) g) (normal-more (tops n).1 f) (is_found-yes t (synth_in ctx (u ∷ vars) e) q.0) in
      subst (λ j. SynthBranches ctx vars (TermRow.More l e rest) (Row.More j u r) t) (label-yes l m p.0)
      (SynthBranches.branch i (branches-sound rest ctx vars r t g f (rest-kinds k) (tops n).2 q.1))

-- ---- what is synthesised is found

-- the types of the variables can be raised below one more type variable before or after their normal forms are taken
pub normals-shift : {ctx : List Kind} (vars : List Ty) (k : Kind) → GoodVars ctx vars
    → shift_all (map (normal ctx) vars) ≡ map (normal (k ∷ ctx)) (shift_all vars)
normals-shift [] k g = refl
normals-shift {ctx} (t ∷ vars) k g =
    ap₂ (λ u us. u ∷ us) (sym (nf_shifted k (g zero t At.here))) (normals-shift vars k (λ n u h. g (suc n) u (At.there h)))

at-normal : (ctx : List Kind) {vars : List Ty} {n : ℕ} {t : Ty} → At vars n t → slice_get (map (normal ctx) vars) n ≡ Some (normal ctx t)
at-normal ctx At.here = refl
at-normal ctx (At.there h) = at-normal ctx h

when-same : (t : Ty) (o : Option Ty) → (if same_ty t t then o else None) ≡ o
when-same t o = ap (λ b. if b then o else None) (same_ty-self t)

either-way : {o p r : Option Ty} (b : Truth) → o ≡ r → p ≡ r → (if b then o else p) ≡ r
either-way true e f = e
either-way false e f = f

arrow-parts : {a b c d : Ty} → Ty.Arrow a b ≡ Ty.Arrow c d → (a ≡ c) × (b ≡ d)
arrow-parts p = (cc, cc)

-- a function and its argument, whether it is called at once or not
call-found : (ctx : List Kind) (vars : List Ty) (d a : Term) (t u : Ty) → synth_in ctx vars d ≡ Some (Ty.Arrow t u) → synth_in ctx vars a ≡ Some t
    → synth_in ctx vars (Term.Call d a) ≡ Some u
call-found ctx vars (Term.Lam b e) a t u p q =
    let x = and_then-yes (normal_at ctx b Kind.Star) (λ n. option_map (Ty.Arrow n) (synth_in ctx (n ∷ vars) e)) (Ty.Arrow t u) p in
    let y = map-yes (Ty.Arrow x.0) (synth_in ctx (x.0 ∷ vars) e) (Ty.Arrow t u) x.2 in
    let parts = arrow-parts y.2 in
    ap (let_type (normal_at ctx b Kind.Star) b (λ n. synth_in ctx (n ∷ vars) e)) q ∙
    either-way (same_ty b t) (ap (λ n. synth_in ctx (n ∷ vars) e) (sym parts.0) ∙ (y.1 ∙ ap Some parts.1))
    (ap (λ o. call_type o (Some t)) p ∙ when-same t (Some u))
call-found ctx vars d a t u p q = ap₂ call_type p q ∙ when-same t (Some u)

put-found : {ctx : List Kind} {k : Kind} {t b : Ty} → HasKind ctx t k → HasKind (k ∷ ctx) b Kind.Star → normal (k ∷ ctx) b ≡ b
    → put_normal k b (normal_at ctx t k) ≡ Some (normal ctx (instantiate b t))
put-found {k = k} {b = b} h i e = ap (put_normal k b) (normal_at-of h) ∙ ap Some (filled h i e)

labels-complete : {ctx : List Kind} {vars : List Ty} {f : TermRow} {r : Row} → SynthFields ctx vars f r → labels_differ f ≡ true
labels-complete SynthFields.end = refl
labels-complete (SynthFields.more {l = l} {f = f} h d i) = and_from (is_new l f) (labels_differ f) (fresh-new l i d) (labels-complete i)

-- a raised type is found outside of the binder
lowered-shift : (t : Ty) → lowered (Some (rename suc t)) ≡ Some t
lowered-shift t =
    ap (λ s. lowered (Some s)) (sym (shift-suc t)) ∙
    (ap (λ b. if b then None else Some (lower 1 (shift 1 0 t))) (raised-misses t) ∙ ap Some (lowered-raised t))

mutual
  -- each type that is synthesised is found, with the types of the variables in normal form
  pub complete : {ctx : List Kind} {vars : List Ty} {e : Term} {t : Ty} → GoodVars ctx vars → Synth ctx vars e t
      → synth_in ctx (map (normal ctx) vars) e ≡ Some t
  complete {ctx} g (Synth.var h) = at-normal ctx h
  complete g Synth.int = refl
  complete g Synth.bool = refl
  complete g Synth.text = refl
  complete {ctx} {vars} g (Synth.lam {t = t} {e = e} k h) =
      ap (λ o. and_then o (λ n. option_map (Ty.Arrow n) (synth_in ctx (n ∷ map (normal ctx) vars) e))) (normal_at-of k) ∙
      ap (option_map (Ty.Arrow (normal ctx t))) (complete (good-more k g) h)
  complete {ctx} {vars} g (Synth.call {t = t} {u = u} {f = d} {a = a} h i) = call-found ctx (map (normal ctx) vars) d a t u (complete g h) (complete g i)
  complete {ctx} {vars} g (Synth.ty_lam {k = k} {e = e} h) =
      ap (option_map (Ty.All k)) (ap (λ vs. synth_in (k ∷ ctx) vs e) (normals-shift vars k g) ∙ complete (good-shift vars k g) h)
  complete {ctx} g (Synth.inst {t = t} h k) =
      ap (λ o. inst_type ctx o t) (complete g h) ∙ put-found k (all-kinds (type-kind g (sound g h))) (all_body (synth-normal g h))
  complete {ctx} {vars} g (Synth.fields {f = f} h) =
      ap₂ (λ b o. if b then option_map Ty.Fields o else None) (labels-complete h) (row-complete g h)
  complete g (Synth.get {l = l} h p) = ap (λ o. get_type o l) (complete g h) ∙ part_at-of p
  complete {ctx} g (Synth.pack {k = k} {t = t} {u = u} {body = b} h p i j) =
      let m = ex-kinds (subst (λ v. HasKind ctx v Kind.Star) p (nf_kind h)) in
      let n = ex-body (ap (normal ctx) (sym p) ∙ (nf_nf h ∙ p)) in
      let s = normal ctx (instantiate b t) in
      let tested = target-normal ctx t u (Some s) (λ v q. subst (λ w. Normal ctx w Kind.Star) (same_Some _ _ q) (normal-type (type-kind g (sound g j)) (synth-normal g j))) in
      (λ x. pack_type ctx t (target_type ctx t u (complete g j x)) (complete g j x)) ∙
      (ap (λ o. pack_type ctx t o (Some s)) (tested ∙ (normal_at-of h ∙ ap Some p)) ∙
      (ap (λ o. if_same (Ty.Ex k b) o (Some (normal ctx (instantiate b t)))) (put-found i m n) ∙
      (when-same (normal ctx (instantiate b t)) (Some (Ty.Ex k b)) ∙ ap Some (sym p))))
  complete {ctx} {vars} g (Synth.unpack {k = k} {e = e} {t = t} {body = b} h i) =
      let m = ex-kinds (type-kind g (sound g h)) in
      ap (λ o. and_then o (λ s. of_package s (λ j c. lowered (synth_in (j ∷ ctx) (c ∷ shift_all (map (normal ctx) vars)) e)))) (complete g h) ∙
      (ap lowered (ap₂ (λ c vs. synth_in (k ∷ ctx) (c ∷ vs) e) (sym (ex-body (synth-normal g h))) (normals-shift vars k g) ∙
      complete (good-more m (good-shift vars k g)) i) ∙ lowered-shift t)
  complete g (Synth.if_ {t = t} h i j) =
      (λ x. if_type (complete g h x) (complete g i x) (complete g j x)) ∙ when-same t (Some t)
  complete g (Synth.arith {o = o} h i) = ap₂ (op_type o) (complete g h) (complete g i)
  complete {ctx} {vars} g (Synth.fix {t = t} {u = u} {e = e} k j h) =
      ap (λ o. and_then o (λ n. and_then (normal_at ctx u Kind.Star) (λ m. fix_type n m (synth_in ctx (n ∷ (Ty.Arrow n m ∷ map (normal ctx) vars)) e))))
      (normal_at-of k) ∙
      (ap (λ o. and_then o (λ m. fix_type (normal ctx t) m (synth_in ctx (normal ctx t ∷ (Ty.Arrow (normal ctx t) m ∷ map (normal ctx) vars)) e)))
      (normal_at-of j) ∙
      (ap (fix_type (normal ctx t) (normal ctx u)) (complete (good-more k (good-more (k_arrow k j) g)) h) ∙
      when-same (normal ctx u) (Some (Ty.Arrow (normal ctx t) (normal ctx u)))))
  complete {ctx} g (Synth.inj {l = l} {t = t} {u = u} {r = r} k p q h) =
      ap₂ (inj_type l) (normal_at-of k ∙ ap Some p) (complete g h) ∙
      (ap (λ o. if_same (Ty.Sum r) o (Some u)) (part_at-of q) ∙ (when-same u (Some (Ty.Sum r)) ∙ ap Some (sym p)))
  complete {ctx} {vars} g (Synth.case {t = t} {r = r} {f = f} h k b) =
      ap₂ (λ o p. case_type o p (synth_branches ctx (map (normal ctx) vars) f)) (complete g h) (normal_at-of k) ∙
      ap (λ y. if y then Some (normal ctx t) else None) (branches-complete g (sum-kinds (type-kind g (sound g h))) (sum-row (synth-normal g h)) b)
  complete {ctx} g (Synth.roll {t = t} {body = b} k p h) =
      let n = nf-named k p in
      let s = normal ctx (instantiate b (Ty.Mu b)) in
      ap₂ roll_type (normal_at-of k ∙ ap Some p) (complete g h) ∙
      (ap (λ u. if_same (Ty.Mu b) (Some u) (Some s)) (unfolds n.0 n.1) ∙ (when-same s (Some (Ty.Mu b)) ∙ ap Some (sym p)))
  complete g (Synth.unroll h) =
      ap unroll_type (complete g h) ∙ ap Some (unfolds (type-kind g (sound g h)) (synth-normal g h))

  row-complete : {ctx : List Kind} {vars : List Ty} {f : TermRow} {r : Row} → GoodVars ctx vars → SynthFields ctx vars f r
      → synth_row ctx (map (normal ctx) vars) f ≡ Some r
  row-complete g SynthFields.end = refl
  row-complete g (SynthFields.more {l = l} h d i) = ap₂ (more_type l) (complete g h) (row-complete g i)

  branches-complete : {ctx : List Kind} {vars : List Ty} {f : TermRow} {r : Row} {t : Ty} → GoodVars ctx vars → HasKinds ctx r → normal_row ctx r ≡ r
      → SynthBranches ctx vars f r t → synth_branches ctx (map (normal ctx) vars) f r t ≡ true
  branches-complete g k n SynthBranches.none = refl
  branches-complete {ctx} {vars} g k n (SynthBranches.branch {l = l} {e = e} {t = t} {u = u} {f = f} {r = r} h i) =
      let vs = map (normal ctx) vars in
      let found = ap (λ s. synth_in ctx (s ∷ vs) e) (sym (tops n).1) ∙ complete (good-more (first-kind k) g) h in
      and_from (is_eq (label_cmp l l)) (is_found t (synth_in ctx (u ∷ vs) e) && synth_branches ctx vs f r t) (label-self l)
      (and_from (is_found t (synth_in ctx (u ∷ vs) e)) (synth_branches ctx vs f r t) (ap (is_found t) found ∙ same_ty-self t)
      (branches-complete g (rest-kinds k) (tops n).2 i))

-- ---- closed terms

nothing : {n : ℕ} {t : Ty} → At [] n t → ⊥
nothing h = elim h [ ]

-- the type that is found for a closed term is the normal form of each of its types
pub found-of : {e : Term} {t : Ty} → HasType [] [] e t → (normal_at [] t Kind.Star ≡ Some (normal [] t)) × (synth_in [] [] e ≡ Some (normal [] t))
found-of h = let p = (exact (good-none [])).0 h in (normal_at-of p.0, complete (good-none []) p.1)

-- a closed term has no type of which no normal form of kind * is found
pub unkinded : (e : Term) (t : Ty) (o : Option Ty) → ((n : Ty) → o ≡ Some n → ⊥) → o ≡ normal_at [] t Kind.Star → HasType [] [] e t → ⊥
unkinded e t o f p h = f (normal [] t) (p ∙ (found-of h).0)

-- a closed term for which no type is found has none
pub untyped : (e : Term) (t : Ty) (o : Option Ty) → ((n : Ty) → o ≡ Some n → ⊥) → o ≡ synth_in [] [] e → HasType [] [] e t → ⊥
untyped e t o f p h = f (normal [] t) (p ∙ (found-of h).1)

-- a closed term has no type whose normal form is not the type that is found
pub differs : (e : Term) (t s n : Ty) → Some n ≡ normal_at [] t Kind.Star → Some s ≡ synth_in [] [] e → same_ty s n ≡ false → HasType [] [] e t → ⊥
differs e t s n p q d h =
    let a = same_Some _ _ (p ∙ (found-of h).0) in
    let b = same_Some _ _ (q ∙ (found-of h).1) in
    no (sym d ∙ (ap (same_ty s) (a ∙ sym b) ∙ same_ty-self s))

-- a closed term has each type whose normal form is the type that is found
pub typed : (e : Term) (t s n : Ty) → Some n ≡ normal_at [] t Kind.Star → Some s ≡ synth_in [] [] e → same_ty s n ≡ true → HasType [] [] e t
typed e t s n p q d =
    let k = normal_at-yes [] t Kind.Star n (sym p) in
    let i = found-sound e [] [] s (good-none []) (λ m u h. absurd (nothing h)) (sym q) in
    (exact (good-none [])).1 (k.0, synth_cast (same_ty-yes s n d ∙ sym k.1) i)
