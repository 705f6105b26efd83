-- Fields of modules, the fields of a finished structure, and sequences exist, and there is only one of each.
-- Main results: projected-kinded, collected-one, seq-one.
use Rattle.std.specs.Prelude.{ℕ, zero, suc, List, [], ◌∷◌, ◌++◌, ◌≡◌, map, Some}
use Rattle.std.proofs.Math.Path.{refl, sym, subst, ap, ◌∙◌}
use Rattle.omega_kinds.specs.Kind.{Kind}
use Rattle.omega_kinds.specs.declared.label.Label.{Label}
use Rattle.omega_kinds.specs.declared.effect.Effect.{Effect}
use Rattle.omega_kinds.specs.declared.effect.Effect.TheVariants.{Pure, Impure}
use Rattle.omega_kinds.specs.Name.{Name}
use Rattle.omega_types.specs.Ty.{Ty}
use Rattle.omega_types.specs.Normality.{Normal}
use Rattle.omega_types.specs.Substitution.{substitute}
use Rattle.omega_types.specs.Binders.{extend, raise, vars, puts, ex_over, NormalForms}
use Rattle.omega_types.proofs.Preservation.{Substitutes}
use Rattle.omega_terms.specs.Term.{Term, TermRow}
use Rattle.omega_terms.specs.Shorthands.{Packs, let_in, opens}
use Rattle.omega_terms.specs.Instance.{Instance}
use Rattle.sig_premise_laws.proofs.Determined.{put_sig-one, packed-kinded}
use Rattle.sig_laws.proofs.Encoded.EncodingTyping.{distinct-normal, distinct_abs-normal, shape_abs-distinct}
use Rattle.sig_laws.proofs.Formed.WellFormedShape.{kinded, well_formed_abs-shape}
use Rattle.omega_terms.proofs.InstanceLaws.{type-self}
use Rattle.module_judgments.specs.Sequence.{field_lets}
use Rattle.sig_definitions.specs.Signatures.Sig.{Sig, Abs, SigRow, HasField, Module, made}
use Rattle.sig_definitions.specs.Signatures.SigSubst.{sig_at}
use Rattle.sig_definitions.specs.Signatures.Alike.{NormalSigRow, NormalSigForm}
use Rattle.sig_definitions.specs.Signatures.Encoding.{enc, enc_abs}
use Rattle.sig_definitions.specs.Packing.{Packed}
use Rattle.sig_definitions.specs.Env.{Env, find}
use Rattle.sig_laws.proofs.Algebra.Instances.{normals_of, at-substitutes}
use Rattle.sig_match_laws.proofs.AnyTypes.AnyTypesSubst.{kinds-substituted}
use Rattle.module_judgments.specs.Projection.{Projected}
use Rattle.module_judgments.specs.Sequence.{Seq, joined, past_opens, Collected}
use Rattle.sig_definitions.specs.Verdict.{One}
use Rattle.sig_laws.specs.Good.{Distinct, DistinctRow, KindedAbs, KindedModule, NormalTerm, OkAbs, OkModule, Bound}
use Rattle.omega_terms.proofs.InstanceLaws.{instance-one}
use Rattle.sig_premise_laws.proofs.Terms.{instance-total, forms-unique, repack-one}
use Rattle.sig_premise_laws.proofs.Environments.{some-same}
use Rattle.omega_types.proofs.BinderPuts.{forms-kinds, ex_over-append, ex_over-normal}
use Rattle.sig_laws.proofs.Algebra.PathLaws.{one-field, field-normal}

-- lets round a term of normal types
pub lets-normal : (ctx : List Kind) (i : ℕ) (fs : SigRow) (e : Term) → DistinctRow fs → NormalSigRow ctx fs → NormalTerm ctx e → NormalTerm ctx (field_lets i fs e)
lets-normal ctx i SigRow.End e d w n = n
lets-normal ctx i (SigRow.More l s rest) e d w n =
    Instance.call (Instance.lam (type-self (distinct-normal s d.1 w.0)) (lets-normal ctx (suc i) rest e d.2 w.1 n)) (Instance.get Instance.var)

distinct-field : {fs : SigRow} {l : Name} {s : Sig} → DistinctRow fs → HasField fs l s → Distinct s
distinct-field d HasField.here = d.1
distinct-field d (HasField.there n h) = distinct-field d.2 h

-- fields of modules
abbrev ProjectedView : List Kind → Effect → List Kind → SigRow → List Ty → Term → Name → Module → Type 0
ProjectedView ctx Pure ks fs ts e l N = (s : Sig) × HasField fs l s × (N ≡ made Pure (Abs.Ex ks s) ts (Term.Get e (Label.Name l)))
ProjectedView ctx Impure ks fs ts e l N = (s : Sig) × (d : Term) × HasField fs l s × Packs (extend ctx ks) (vars ks) (Term.Get (Term.Var zero) (Label.Name l)) (raise ks (enc_abs (Abs.Ex ks s))) d × (N ≡ made Impure (Abs.Ex ks s) [] (opens ks e (enc_abs (Abs.Ex ks (Sig.Str fs))) d))

projected-view : {ctx ks : List Kind} {f : Effect} {fs : SigRow} {ts : List Ty} {e : Term} {l : Name} {N : Module} → Projected ctx (made f (Abs.Ex ks (Sig.Str fs)) ts e) l N → ProjectedView ctx f ks fs ts e l N
projected-view (Projected.pure {s = s} h) = (s, h, refl)
projected-view (Projected.impure {s = s} {d = d} h p) = (s, d, h, p, refl)

-- a field of a pure structure has exactly one projection
pub projected-pure : (ctx ks : List Kind) (fs : SigRow) (ts : List Ty) (e : Term) (l : Name) (t : Sig) → HasField fs l t → One (Projected ctx (made Pure (Abs.Ex ks (Sig.Str fs)) ts e) l)
projected-pure ctx ks fs ts e l t h = (made Pure (Abs.Ex ks t) ts (Term.Get e (Label.Name l)), Projected.pure h, only)
  where
    only : (N : Module) → Projected ctx (made Pure (Abs.Ex ks (Sig.Str fs)) ts e) l N → N ≡ made Pure (Abs.Ex ks t) ts (Term.Get e (Label.Name l))
    only N p = let v = projected-view p in v.2 ∙ ap (λ s. made Pure (Abs.Ex ks s) ts (Term.Get e (Label.Name l))) (one-field v.1 h refl)

-- a field of a structure of normal types has exactly one projection
pub projected-kinded : (ctx ks : List Kind) (f : Effect) (fs : SigRow) (ts : List Ty) (e : Term) (l : Name) (t : Sig) → KindedAbs ctx (Abs.Ex ks (Sig.Str fs)) → HasField fs l t → One (Projected ctx (made f (Abs.Ex ks (Sig.Str fs)) ts e) l)
projected-kinded ctx ks Pure fs ts e l t w h = projected-pure ctx ks fs ts e l t h
projected-kinded ctx ks Impure fs ts e l t w h = (result t p.0, Projected.impure h p.1, only)
  where
    result : Sig → Term → Module
    result s d = made Impure (Abs.Ex ks s) [] (opens ks e (enc_abs (Abs.Ex ks (Sig.Str fs))) d)

    p : One (λ d. Packs (extend ctx ks) (vars ks) (Term.Get (Term.Var zero) (Label.Name l)) (raise ks (enc_abs (Abs.Ex ks t))) d)
    p = repack-one ctx ks (Term.Get (Term.Var zero) (Label.Name l)) (enc t) (distinct_abs-normal (Abs.Ex ks t) (distinct-field w.0 h) (field-normal (extend ctx ks) w.1 h))

    only : (N : Module) → Projected ctx (made Impure (Abs.Ex ks (Sig.Str fs)) ts e) l N → N ≡ result t p.0
    only N q =
        let v = projected-view q in
        let a : v.0 ≡ t = one-field v.2 h refl in
        let b : v.1 ≡ p.0 = p.2 v.1 (subst (λ s. Packs (extend ctx ks) (vars ks) (Term.Get (Term.Var zero) (Label.Name l)) (raise ks (enc_abs (Abs.Ex ks s))) v.1) a v.3) in
        v.4 ∙ (λ i. result (a i) (b i))

-- the fields of a finished structure
collected-view : {g : Env} {l : Name} {names : List Name} {fs : SigRow} {es : TermRow} → Collected g (l ∷ names) fs es → (s : Sig) × (e : Term) × (gs : SigRow) × (ds : TermRow) × (find g l ≡ Some (s, e)) × Collected g names gs ds × (fs ≡ SigRow.More l s gs) × (es ≡ TermRow.More (Label.Name l) e ds)
collected-view (Collected.next {s = s} {e = e} {fs = fs} {es = es} f c) = (s, e, fs, es, f, c, refl, refl)

collected-none : {g : Env} {fs : SigRow} {es : TermRow} → Collected g [] fs es → (fs ≡ SigRow.End) × (es ≡ TermRow.End)
collected-none Collected.none = (refl, refl)

-- names that are found are collected to exactly one structure
pub collected-one : (g : Env) (names : List Name) → Bound g names → One (λ (o : SigRow × TermRow). Collected g names o.0 o.1)
collected-one g [] b = ((SigRow.End, TermRow.End), Collected.none, λ o c. let v = collected-none c in (λ i. (v.0 i, v.1 i)))
collected-one g (l ∷ names) b = go (collected-one g names b.1)
  where
    go : One (λ (o : SigRow × TermRow). Collected g names o.0 o.1) → One (λ (o : SigRow × TermRow). Collected g (l ∷ names) o.0 o.1)
    go r = ((SigRow.More l b.0.0.0 r.0.0, TermRow.More (Label.Name l) b.0.0.1 r.0.1), Collected.next b.0.1 r.1, only)
      where
        only : (o : SigRow × TermRow) → Collected g (l ∷ names) o.0 o.1 → o ≡ (SigRow.More l b.0.0.0 r.0.0, TermRow.More (Label.Name l) b.0.0.1 r.0.1)
        only o c =
            let v = collected-view c in
            let a = some-same (sym v.4 ∙ b.0.1) in
            let d = r.2 (v.2, v.3) v.5 in
            let x = v.6 ∙ (λ i. SigRow.More l (a i).0 (d i).0) in
            let y = v.7 ∙ (λ i. TermRow.More (Label.Name l) (a i).1 (d i).1) in
            λ i. (x i, y i)

-- a binding and the rest, of which one is impure
abbrev ImpureView : List Kind → (f : Effect) (ks : List Kind) (s : Sig) (ts : List Ty) (e : Term) (h : Effect) (js : List Kind) (t : Sig) (us : List Ty) (d : Term) → Module → Type 0
ImpureView ctx f ks s ts e h js t us d N = (p q r : Term) × Packed ctx (made f (Abs.Ex ks s) ts e) p × Packed (extend ctx ks) (made h (Abs.Ex js t) us d) q × Packs (extend ctx ks) (vars ks) (past_opens ks q) (raise ks (enc_abs (Abs.Ex (ks ++ js) t))) r × (N ≡ made Impure (Abs.Ex (ks ++ js) t) [] (opens ks p (enc_abs (Abs.Ex ks s)) r))

-- a binding and the rest
abbrev SeqView : List Kind → (f : Effect) (ks : List Kind) (s : Sig) (ts : List Ty) (e : Term) (h : Effect) (js : List Kind) (t : Sig) (us : List Ty) (d : Term) → Module → Type 0
SeqView ctx Pure ks s ts e Pure js t us d N = (n : Sig) × (ns : List Ty) × (c : Term) × NormalSigForm ctx (sig_at ts s) n × NormalForms ctx (map (substitute (puts ts Ty.Var)) us) js ns × Instance (extend ctx ks) ctx (puts ts Ty.Var) d c × (N ≡ made Pure (Abs.Ex (ks ++ js) t) (ts ++ ns) (let_in (enc n) e c))
SeqView ctx f ks s ts e h js t us d N = ImpureView ctx f ks s ts e h js t us d N

seq-view : {ctx ks js : List Kind} {s t : Sig} {ts us : List Ty} {e d : Term} (f h : Effect) {N : Module} → Seq ctx (made f (Abs.Ex ks s) ts e) (made h (Abs.Ex js t) us d) N → SeqView ctx f ks s ts e h js t us d N
seq-view Pure Pure (Seq.both_pure {n = n} {ns = ns} {c = c} a b i) = (n, ns, c, a, b, i, refl)
seq-view Pure Pure (Seq.some_impure j p q r) = absurd (pure-not_impure j)
  where
    pure-not_impure : Pure ≡ Impure → ⊥
    pure-not_impure e = cc
seq-view _ _ (Seq.some_impure {p = p} {q = q} {r = r} j a b c) = (p, q, r, a, b, c, refl)

whole-normal : (ctx ks js : List Kind) (t : Sig) → KindedAbs (extend ctx ks) (Abs.Ex js t) → Normal ctx (ex_over ks (ex_over js (enc t))) Kind.Star
whole-normal ctx ks js t w = ex_over-normal ks (distinct_abs-normal (Abs.Ex js t) w.0 w.1)

seq-pure : (ctx ks : List Kind) (s : Sig) (ts : List Ty) (e : Term) (js : List Kind) (t : Sig) (us : List Ty) (d : Term) → KindedModule ctx (made Pure (Abs.Ex ks s) ts e) → KindedModule (extend ctx ks) (made Pure (Abs.Ex js t) us d) → One (Seq ctx (made Pure (Abs.Ex ks s) ts e) (made Pure (Abs.Ex js t) us d))
seq-pure ctx ks s ts e js t us d a b = (result n.0 ns.0 c.0, Seq.both_pure n.1 ns.1 c.1, only)
  where
    result : Sig → List Ty → Term → Module
    result n ns c = made Pure (Abs.Ex (ks ++ js) t) (ts ++ ns) (let_in (enc n) e c)

    put : Substitutes (extend ctx ks) ctx (puts ts Ty.Var)
    put = at-substitutes (forms-kinds a.1)

    n : One (NormalSigForm ctx (sig_at ts s))
    n = put_sig-one s put a.0.1

    ns : (ns : List Ty) × NormalForms ctx (map (substitute (puts ts Ty.Var)) us) js ns
    ns = normals_of (kinds-substituted (puts ts Ty.Var) put (forms-kinds b.1))

    c : (c : Term) × Instance (extend ctx ks) ctx (puts ts Ty.Var) d c
    c = instance-total ctx (puts ts Ty.Var) b.2 put

    only : (N : Module) → Seq ctx (made Pure (Abs.Ex ks s) ts e) (made Pure (Abs.Ex js t) us d) N → N ≡ result n.0 ns.0 c.0
    only N q =
        let v = seq-view Pure Pure q in
        let x = n.2 v.0 v.3 in
        let y = forms-unique ns.1 v.1 v.4 in
        let z = instance-one put v.5 c.1 in
        v.6 ∙ (λ i. result (x i) (y i) (z i))

seq-impure : (ctx ks : List Kind) (s : Sig) (ts : List Ty) (e : Term) (js : List Kind) (t : Sig) (us : List Ty) (d : Term) (f h : Effect) → joined f h ≡ Impure
    → ((N : Module) → Seq ctx (made f (Abs.Ex ks s) ts e) (made h (Abs.Ex js t) us d) N → ImpureView ctx f ks s ts e h js t us d N)
    → KindedModule ctx (made f (Abs.Ex ks s) ts e) → KindedModule (extend ctx ks) (made h (Abs.Ex js t) us d) → One (Seq ctx (made f (Abs.Ex ks s) ts e) (made h (Abs.Ex js t) us d))
seq-impure ctx ks s ts e js t us d f h j view a b = (result p.0 r.0, Seq.some_impure j p.1 q.1 r.1, only)
  where
    result : Term → Term → Module
    result p r = made Impure (Abs.Ex (ks ++ js) t) [] (opens ks p (enc_abs (Abs.Ex ks s)) r)

    p : One (Packed ctx (made f (Abs.Ex ks s) ts e))
    p = packed-kinded ctx (made f (Abs.Ex ks s) ts e) a

    q : One (Packed (extend ctx ks) (made h (Abs.Ex js t) us d))
    q = packed-kinded (extend ctx ks) (made h (Abs.Ex js t) us d) b

    r : One (λ r. Packs (extend ctx ks) (vars ks) (past_opens ks q.0) (raise ks (enc_abs (Abs.Ex (ks ++ js) t))) r)
    r = subst (λ u. One (λ r. Packs (extend ctx ks) (vars ks) (past_opens ks q.0) (raise ks u) r)) (sym (ex_over-append ks js (enc t))) (repack-one ctx ks (past_opens ks q.0) (ex_over js (enc t)) (whole-normal ctx ks js t b.0))

    only : (N : Module) → Seq ctx (made f (Abs.Ex ks s) ts e) (made h (Abs.Ex js t) us d) N → N ≡ result p.0 r.0
    only N m =
        let v = view N m in
        let x = p.2 v.0 v.3 in
        let y = q.2 v.1 v.4 in
        let z = r.2 v.2 (subst (λ c. Packs (extend ctx ks) (vars ks) (past_opens ks c) (raise ks (enc_abs (Abs.Ex (ks ++ js) t))) v.2) y v.5) in
        v.6 ∙ (λ i. result (x i) (z i))

-- a binding and a rest of normal types make exactly one row
pub seq-kinded : (ctx ks : List Kind) (f : Effect) (s : Sig) (ts : List Ty) (e : Term) (M : Module) → KindedModule ctx (made f (Abs.Ex ks s) ts e) → KindedModule (extend ctx ks) M → One (Seq ctx (made f (Abs.Ex ks s) ts e) M)
seq-kinded ctx ks Pure s ts e (made Pure (Abs.Ex js t) us d) a b = seq-pure ctx ks s ts e js t us d a b
seq-kinded ctx ks Pure s ts e (made Impure (Abs.Ex js t) us d) a b = seq-impure ctx ks s ts e js t us d Pure Impure refl (λ N m. seq-view Pure Impure m) a b
seq-kinded ctx ks Impure s ts e (made Pure (Abs.Ex js t) us d) a b = seq-impure ctx ks s ts e js t us d Impure Pure refl (λ N m. seq-view Impure Pure m) a b
seq-kinded ctx ks Impure s ts e (made Impure (Abs.Ex js t) us d) a b = seq-impure ctx ks s ts e js t us d Impure Impure refl (λ N m. seq-view Impure Impure m) a b

-- a field of a well formed structure has exactly one projection
pub projected-one : (ctx ks : List Kind) (f : Effect) (fs : SigRow) (ts : List Ty) (e : Term) (l : Name) (t : Sig) → OkAbs ctx (Abs.Ex ks (Sig.Str fs)) → HasField fs l t → One (Projected ctx (made f (Abs.Ex ks (Sig.Str fs)) ts e) l)
projected-one ctx ks f fs ts e l t w h = projected-kinded ctx ks f fs ts e l t (shape_abs-distinct (Abs.Ex ks (Sig.Str fs)) (well_formed_abs-shape w.0), w.1) h

-- a good binding and a good rest make exactly one row
pub seq-one : (ctx ks : List Kind) (f : Effect) (s : Sig) (ts : List Ty) (e : Term) (M : Module) → OkModule ctx (made f (Abs.Ex ks s) ts e) → OkModule (extend ctx ks) M → One (Seq ctx (made f (Abs.Ex ks s) ts e) M)
seq-one ctx ks f s ts e M a b = seq-kinded ctx ks f s ts e M (kinded ctx (made f (Abs.Ex ks s) ts e) a) (kinded (extend ctx ks) M b)
