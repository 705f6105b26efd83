-- Synthesis is exact: a term has a type just where its synthesised type is the type's normal form.
-- Main results: sound, complete, synth_one, exact.
use Rattle.std.specs.Prelude.{ℕ, zero, suc, List, ◌∷◌, ◌≡◌, ◌↔◌}
use Rattle.std.proofs.Math.Path.{refl, sym, ◌∙◌, ap, subst}
use Rattle.omega_kinds.specs.Kind.{Kind}
use Rattle.omega_kinds.specs.declared.label.Label.{Label}
use Rattle.omega_types.specs.Ty.{Ty, Row}
use Rattle.omega_types.specs.Substitution.{single}
use Rattle.omega_types.specs.Kinding.{HasKind, HasKinds, Fresh}
use Rattle.omega_types.specs.Kinding.HasKind.{k_arrow}
use Rattle.omega_types.specs.Kinding.HasKinds.{k_more}
use Rattle.omega_types.specs.Conversion.{Conv}
use Rattle.omega_types.specs.Conversion.Conv.{c_refl, c_sym, c_arrow}
use Rattle.omega_types.specs.Normaliser.{normal, normal_row}
use Rattle.omega_types.proofs.Preservation.{conv-kinds, kind-substitute, single-substitutes, maps-suc}
use Rattle.omega_types.proofs.Hereditary.{normal-gives}
use Rattle.omega_types.proofs.LawProofs.{normal_of_rename}
use Rattle.omega_types.proofs.Inverse.{same-normal, ex-kinds, all-kinds, fields-kinds, sum-kinds, mu-kinds}
use Rattle.omega_terms.specs.declared.op.Op.{Op}
use Rattle.omega_terms.specs.Term.{Term, TermRow}
use Rattle.omega_terms.specs.Typing.{At, HasType, FieldsHave, BranchesHave, HasPart, shift_all, result_type, GoodVars}
use Rattle.omega_terms.proofs.NormalTyping.{shift-at, at-shift}
use Rattle.omega_terms.proofs.TypingLaws.{good-more, good-shift, type-kind, types-kind, kind-unshift}
use Rattle.omega_laws.proofs.Common.{shift, put, put_shift, put_conv, unrolled, unrolled_conv}
use Rattle.omega_laws.proofs.Unique.{unique}
use Rattle.omega_laws.specs.Synthesis.{Synth, SynthFields, SynthBranches}

-- the laws of normal forms at kind *

abbrev each : (Ty → Ty) → Row → Row
each f Row.End = Row.End
each f (Row.More l t r) = Row.More l (f t) (each f r)

row-each : (ctx : List Kind) (r : Row) → normal_row ctx r ≡ each (normal ctx) r
row-each ctx Row.End = refl
row-each ctx (Row.More l t r) = ap (Row.More l (normal ctx t)) (row-each ctx r)

pub nf_is : {ctx : List Kind} {t : Ty} {k : Kind} → HasKind ctx t k → Conv ctx t (normal ctx t) k
nf_is h = (normal-gives h).1

nf_int : (ctx : List Kind) → normal ctx Ty.Int ≡ Ty.Int
nf_int ctx = refl

nf_bool : (ctx : List Kind) → normal ctx Ty.Bool ≡ Ty.Bool
nf_bool ctx = refl

nf_text : (ctx : List Kind) → normal ctx Ty.Text ≡ Ty.Text
nf_text ctx = refl

nf_arrow : {ctx : List Kind} {a b : Ty} → HasKind ctx (Ty.Arrow a b) Kind.Star → normal ctx (Ty.Arrow a b) ≡ Ty.Arrow (normal ctx a) (normal ctx b)
nf_arrow h = refl

nf_fields : {ctx : List Kind} {r : Row} → HasKinds ctx r → normal ctx (Ty.Fields r) ≡ Ty.Fields (each (normal ctx) r)
nf_fields {ctx} {r} h = ap Ty.Fields (row-each ctx r)

nf_sum : {ctx : List Kind} {r : Row} → HasKinds ctx r → normal ctx (Ty.Sum r) ≡ Ty.Sum (each (normal ctx) r)
nf_sum {ctx} {r} h = ap Ty.Sum (row-each ctx r)

nf_all : {ctx : List Kind} {k : Kind} {b : Ty} → HasKind (k ∷ ctx) b Kind.Star → normal ctx (Ty.All k b) ≡ Ty.All k (normal (k ∷ ctx) b)
nf_all h = refl

nf_ex : {ctx : List Kind} {k : Kind} {b : Ty} → HasKind (k ∷ ctx) b Kind.Star → normal ctx (Ty.Ex k b) ≡ Ty.Ex k (normal (k ∷ ctx) b)
nf_ex h = refl

nf_mu : {ctx : List Kind} {b : Ty} → HasKind (Kind.Star ∷ ctx) b Kind.Star → normal ctx (Ty.Mu b) ≡ Ty.Mu (normal (Kind.Star ∷ ctx) b)
nf_mu h = refl

-- normalising commutes with weakening
pub nf_shifted : {ctx : List Kind} {t : Ty} (k : Kind) → HasKind ctx t Kind.Star → normal (k ∷ ctx) (shift t) ≡ shift (normal ctx t)
nf_shifted {ctx} {t} k h = normal_of_rename ctx (k ∷ ctx) suc t Kind.Star (maps-suc k ctx) h

put_kind : {ctx : List Kind} {a b : Ty} {k j : Kind} → HasKind ctx a k → HasKind (k ∷ ctx) b j → HasKind ctx (put a b) j
put_kind {a = a} h i = kind-substitute (single a) (single-substitutes h) i

pub unrolled_kind : {ctx : List Kind} {b : Ty} → HasKind ctx (Ty.Mu b) Kind.Star → HasKind ctx (unrolled b) Kind.Star
unrolled_kind h = put_kind h (mu-kinds h)

each_fresh : (f : Ty → Ty) (l : Label) (r : Row) → Fresh l r → Fresh l (each f r)
each_fresh f l Row.End h = tt
each_fresh f l (Row.More m t r) h = (h.0, each_fresh f l r h.1)

each_part : {r : Row} {l : Label} {t : Ty} (f : Ty → Ty) → HasPart r l t → HasPart (each f r) l (f t)
each_part f HasPart.here = HasPart.here
each_part f (HasPart.there d p) = HasPart.there d (each_part f p)

pub shift_one : (s t : Ty) → shift s ≡ shift t → s ≡ t
shift_one s t p = sym (put_shift Ty.Int s) ∙ (ap (put Ty.Int) p ∙ put_shift Ty.Int t)

pub arrow_right : {a b c d : Ty} → Ty.Arrow a b ≡ Ty.Arrow c d → b ≡ d
arrow_right p = cc

-- equal universally quantified types have equal bodies
pub all_body : {j k : Kind} {b c : Ty} → Ty.All j b ≡ Ty.All k c → b ≡ c
all_body p = cc

pub fields_row : {r q : Row} → Ty.Fields r ≡ Ty.Fields q → r ≡ q
fields_row p = cc

first_part : {l m : Label} {t u : Ty} {r q : Row} → Row.More l t r ≡ Row.More m u q → t ≡ u
first_part p = cc

other_parts : {l m : Label} {t u : Ty} {r q : Row} → Row.More l t r ≡ Row.More m u q → r ≡ q
other_parts p = cc

part_same : {r : Row} {l : Label} {t : Ty} (f : Ty → Ty) → each f r ≡ r → HasPart r l t → f t ≡ t
part_same f p HasPart.here = first_part p
part_same f p (HasPart.there d h) = part_same f (other_parts p) h

-- ---- what is synthesised is a type

-- a synthesised type may be replaced by one that is equal to it
pub synth_cast : {ctx : List Kind} {vars : List Ty} {e : Term} {t u : Ty} → t ≡ u → Synth ctx vars e t → Synth ctx vars e u
synth_cast {ctx} {vars} {e} p h = subst (λ x. Synth ctx vars e x) p h

pack_type : {ctx : List Kind} {vars : List Ty} {k : Kind} {e : Term} {t u b : Ty} → HasKind ctx u Kind.Star → normal ctx u ≡ Ty.Ex k b → HasKind ctx t k → HasType ctx vars e (normal ctx (put t b)) → HasType ctx vars (Term.Pack t e u) (normal ctx u)
pack_type {ctx} {k = k} {t = t} {u = u} {b = b} h p i j =
    let c : Conv ctx u (Ty.Ex k b) Kind.Star = subst (λ x. Conv ctx u x Kind.Star) p (nf_is h) in
    HasType.conv (HasType.pack c i (HasType.conv j (c_sym (nf_is (put_kind i (ex-kinds (conv-kinds c).1)))))) (nf_is h)

inj_type : {ctx : List Kind} {vars : List Ty} {l : Label} {e : Term} {t u : Ty} {r : Row} → HasKind ctx t Kind.Star → normal ctx t ≡ Ty.Sum r → HasPart r l u → HasType ctx vars e u → HasType ctx vars (Term.Inj l e t) (normal ctx t)
inj_type {ctx} {t = t} h p q i = HasType.conv (HasType.inj (subst (λ x. Conv ctx t x Kind.Star) p (nf_is h)) q i) (nf_is h)

roll_type : {ctx : List Kind} {vars : List Ty} {e : Term} {t b : Ty} → HasKind ctx t Kind.Star → normal ctx t ≡ Ty.Mu b → HasType ctx vars e (normal ctx (unrolled b)) → HasType ctx vars (Term.Roll e t) (normal ctx t)
roll_type {ctx} {t = t} {b = b} h p i =
    let c : Conv ctx t (Ty.Mu b) Kind.Star = subst (λ x. Conv ctx t x Kind.Star) p (nf_is h) in
    HasType.conv (HasType.roll c (HasType.conv i (c_sym (nf_is (unrolled_kind (conv-kinds c).1))))) (nf_is h)

mutual
  -- a synthesised type is a type of the term
  pub sound : {ctx : List Kind} {vars : List Ty} {e : Term} {t : Ty} → GoodVars ctx vars → Synth ctx vars e t → HasType ctx vars e t
  sound g (Synth.var h) = HasType.conv (HasType.var h) (nf_is (g _ _ h))
  sound g Synth.int = HasType.int
  sound g Synth.bool = HasType.bool
  sound g Synth.text = HasType.text
  sound g (Synth.lam k h) =
      let i = sound (good-more k g) h in
      HasType.conv (HasType.lam k i) (c_arrow (nf_is k) (c_refl (type-kind (good-more k g) i)))
  sound g (Synth.call h i) = HasType.call (sound g h) (sound g i)
  sound {vars = vars} g (Synth.ty_lam {k = k} h) = HasType.ty_lam (sound (good-shift vars k g) h)
  sound g (Synth.inst h k) =
      let i = sound g h in
      HasType.conv (HasType.inst i k) (nf_is (put_kind k (all-kinds (type-kind g i))))
  sound g (Synth.fields h) = HasType.fields (sounds g h)
  sound g (Synth.get h p) = HasType.get (sound g h) p
  sound g (Synth.pack h p i j) = pack_type h p i (sound g j)
  sound {vars = vars} g (Synth.unpack {k = k} h i) =
      let j = sound g h in
      HasType.unpack j (sound (good-more (ex-kinds (type-kind g j)) (good-shift vars k g)) i)
  sound g (Synth.if_ h i j) = HasType.if_ (sound g h) (sound g i) (sound g j)
  sound g (Synth.arith h i) = HasType.arith (sound g h) (sound g i)
  sound g (Synth.fix {t = t} {u = u} k j h) =
      let i = sound (good-more k (good-more (k_arrow k j) g)) h in
      HasType.conv (HasType.fix k j (HasType.conv i (c_sym (nf_is j)))) (c_arrow (nf_is k) (nf_is j))
  sound g (Synth.inj h p q i) = inj_type h p q (sound g i)
  sound g (Synth.case h k b) =
      let i = sound g h in
      HasType.conv (HasType.case i k (sound_branches g (sum-kinds (type-kind g i)) (c_sym (nf_is k)) b)) (nf_is k)
  sound g (Synth.roll h p i) = roll_type h p (sound g i)
  sound g (Synth.unroll h) =
      let i = sound g h in
      HasType.conv (HasType.unroll i) (nf_is (unrolled_kind (type-kind g i)))

  pub sounds : {ctx : List Kind} {vars : List Ty} {f : TermRow} {r : Row} → GoodVars ctx vars → SynthFields ctx vars f r → FieldsHave ctx vars f r
  sounds g SynthFields.end = FieldsHave.end
  sounds g (SynthFields.more h d i) = FieldsHave.more (sound g h) d (sounds g i)

  sound_branches : {ctx : List Kind} {vars : List Ty} {f : TermRow} {r : Row} {t u : Ty} → GoodVars ctx vars → HasKinds ctx r → Conv ctx t u Kind.Star → SynthBranches ctx vars f r t → BranchesHave ctx vars f r u
  sound_branches g ks c SynthBranches.none = BranchesHave.none
  sound_branches g (k_more d k ks) c (SynthBranches.branch h b) = BranchesHave.branch (HasType.conv (sound (good-more k g) h) c) (sound_branches g ks c b)

-- ---- only the normal forms of the variables' types count

abbrev pub SameVars : List Kind → List Ty → List Ty → Type 0
SameVars ctx from to = (n : ℕ) (t : Ty) → At from n t → (u : Ty) × At to n u × (normal ctx t ≡ normal ctx u)

-- lists of types with the same normal forms, with one more such type each
pub same_cons : {ctx : List Kind} {from to : List Ty} {t u : Ty} → normal ctx t ≡ normal ctx u → SameVars ctx from to → SameVars ctx (t ∷ from) (u ∷ to)
same_cons {u = u} p f zero t At.here = (u, At.here, p)
same_cons p f (suc n) t (At.there h) = let r = f n t h in (r.0, At.there r.1, r.2)

same_shift : {ctx : List Kind} (from to : List Ty) (k : Kind) → GoodVars ctx from → GoodVars ctx to → SameVars ctx from to → SameVars (k ∷ ctx) (shift_all from) (shift_all to)
same_shift {ctx} from to k g i f n t h =
    let a = shift-at from h in
    let r = f n a.ty a.at in
    (shift r.0, at-shift r.1, sym (ap (normal (k ∷ ctx)) a.is) ∙ (nf_shifted k (g n a.ty a.at) ∙ (ap shift r.2 ∙ sym (nf_shifted k (i n r.0 r.1)))))

mutual
  -- what is synthesised stays so where the types of term variables have the same normal forms
  pub revar : {ctx : List Kind} {from : List Ty} {e : Term} {t : Ty} (to : List Ty) → GoodVars ctx from → GoodVars ctx to → SameVars ctx from to → Synth ctx from e t → Synth ctx to e t
  revar to g i f (Synth.var h) = let r = f _ _ h in synth_cast (sym r.2) (Synth.var r.1)
  revar to g i f Synth.int = Synth.int
  revar to g i f Synth.bool = Synth.bool
  revar to g i f Synth.text = Synth.text
  revar to g i f (Synth.lam {t = t} k h) = Synth.lam k (revar (t ∷ to) (good-more k g) (good-more k i) (same_cons refl f) h)
  revar to g i f (Synth.call h j) = Synth.call (revar to g i f h) (revar to g i f j)
  revar {from = from} to g i f (Synth.ty_lam {k = k} h) = Synth.ty_lam (revar (shift_all to) (good-shift from k g) (good-shift to k i) (same_shift from to k g i f) h)
  revar to g i f (Synth.inst h k) = Synth.inst (revar to g i f h) k
  revar to g i f (Synth.fields h) = Synth.fields (revars to g i f h)
  revar to g i f (Synth.get h p) = Synth.get (revar to g i f h) p
  revar to g i f (Synth.pack h p k j) = Synth.pack h p k (revar to g i f j)
  revar {from = from} to g i f (Synth.unpack {k = k} {body = b} h j) =
      let m = ex-kinds (type-kind g (sound g h)) in
      Synth.unpack (revar to g i f h)
      (revar (b ∷ shift_all to) (good-more m (good-shift from k g)) (good-more m (good-shift to k i)) (same_cons refl (same_shift from to k g i f)) j)
  revar to g i f (Synth.if_ h j k) = Synth.if_ (revar to g i f h) (revar to g i f j) (revar to g i f k)
  revar to g i f (Synth.arith h j) = Synth.arith (revar to g i f h) (revar to g i f j)
  revar to g i f (Synth.fix {t = t} {u = u} k j h) =
      let m = k_arrow k j in
      Synth.fix k j (revar (t ∷ (Ty.Arrow t u ∷ to)) (good-more k (good-more m g)) (good-more k (good-more m i)) (same_cons refl (same_cons refl f)) h)
  revar to g i f (Synth.inj h p q j) = Synth.inj h p q (revar to g i f j)
  revar to g i f (Synth.case h k b) = Synth.case (revar to g i f h) k (revar_branches to g i f (sum-kinds (type-kind g (sound g h))) b)
  revar to g i f (Synth.roll h p j) = Synth.roll h p (revar to g i f j)
  revar to g i f (Synth.unroll h) = Synth.unroll (revar to g i f h)

  revars : {ctx : List Kind} {from : List Ty} {e : TermRow} {t : Row} (to : List Ty) → GoodVars ctx from → GoodVars ctx to → SameVars ctx from to → SynthFields ctx from e t → SynthFields ctx to e t
  revars to g i f SynthFields.end = SynthFields.end
  revars to g i f (SynthFields.more h d j) = SynthFields.more (revar to g i f h) d (revars to g i f j)

  revar_branches : {ctx : List Kind} {from : List Ty} {e : TermRow} {r : Row} {t : Ty} (to : List Ty) → GoodVars ctx from → GoodVars ctx to → SameVars ctx from to → HasKinds ctx r → SynthBranches ctx from e r t → SynthBranches ctx to e r t
  revar_branches to g i f ks SynthBranches.none = SynthBranches.none
  revar_branches to g i f (k_more d k ks) (SynthBranches.branch {u = u} h b) =
      SynthBranches.branch (revar (u ∷ to) (good-more k g) (good-more k i) (same_cons refl f) h) (revar_branches to g i f ks b)

-- ---- each type's normal form is synthesised

-- the normal form of a normal form is itself
pub nf_nf : {ctx : List Kind} {t : Ty} → HasKind ctx t Kind.Star → normal ctx (normal ctx t) ≡ normal ctx t
nf_nf h = sym (same-normal (nf_is h))

-- the normal form of a type of kind * has kind *
pub nf_kind : {ctx : List Kind} {t : Ty} → HasKind ctx t Kind.Star → HasKind ctx (normal ctx t) Kind.Star
nf_kind h = (conv-kinds (nf_is h)).1

nf_put : {ctx : List Kind} {k : Kind} {a b : Ty} → HasKind ctx a k → HasKind (k ∷ ctx) b Kind.Star → normal ctx (put a b) ≡ normal ctx (put a (normal (k ∷ ctx) b))
nf_put h i = same-normal (put_conv h (nf_is i))

nf_unrolled : {ctx : List Kind} {b : Ty} → HasKind (Kind.Star ∷ ctx) b Kind.Star → normal ctx (unrolled b) ≡ normal ctx (unrolled (normal (Kind.Star ∷ ctx) b))
nf_unrolled h = same-normal (unrolled_conv (nf_is h))

nf_result : (ctx : List Kind) (o : Op) → result_type o ≡ normal ctx (result_type o)
nf_result ctx Op.Less = sym (nf_bool ctx)
nf_result ctx Op.Equal = sym (nf_bool ctx)
nf_result ctx _ = sym (nf_int ctx)

-- a list of types has the same normal forms as itself
pub same_refl : (ctx : List Kind) (vars : List Ty) → SameVars ctx vars vars
same_refl ctx vars n t h = (t, h, refl)

pack_synth : {ctx : List Kind} {vars : List Ty} {k : Kind} {e : Term} {t u b : Ty} → Conv ctx u (Ty.Ex k b) Kind.Star → HasKind ctx t k → Synth ctx vars e (normal ctx (put t b)) → Synth ctx vars (Term.Pack t e u) (normal ctx u)
pack_synth c k h =
    let m = ex-kinds (conv-kinds c).1 in
    Synth.pack (conv-kinds c).0 (same-normal c ∙ nf_ex m) k (synth_cast (nf_put k m) h)

unpack_synth : {ctx : List Kind} {vars : List Ty} {k : Kind} {p e : Term} {t b : Ty} → GoodVars ctx vars → HasKind (k ∷ ctx) b Kind.Star → HasKind ctx t Kind.Star → Synth ctx vars p (normal ctx (Ty.Ex k b)) → Synth (k ∷ ctx) (b ∷ shift_all vars) e (normal (k ∷ ctx) (shift t)) → Synth ctx vars (Term.Unpack p e) (normal ctx t)
unpack_synth {ctx} {vars} {k} {b = b} g m n h i =
    let g' = good-shift vars k g in
    Synth.unpack (synth_cast (nf_ex m) h)
    (synth_cast (nf_shifted k n)
    (revar (normal (k ∷ ctx) b ∷ shift_all vars) (good-more m g') (good-more (nf_kind m) g') (same_cons (sym (nf_nf m)) (same_refl (k ∷ ctx) (shift_all vars))) i))

inj_synth : {ctx : List Kind} {vars : List Ty} {l : Label} {e : Term} {t u : Ty} {r : Row} → Conv ctx t (Ty.Sum r) Kind.Star → HasPart r l u → Synth ctx vars e (normal ctx u) → Synth ctx vars (Term.Inj l e t) (normal ctx t)
inj_synth {ctx} c p h =
    let k = conv-kinds c in
    Synth.inj k.0 (same-normal c ∙ nf_sum (sum-kinds k.1)) (each_part (normal ctx) p) h

roll_synth : {ctx : List Kind} {vars : List Ty} {e : Term} {t b : Ty} → Conv ctx t (Ty.Mu b) Kind.Star → Synth ctx vars e (normal ctx (unrolled b)) → Synth ctx vars (Term.Roll e t) (normal ctx t)
roll_synth c h =
    let k = conv-kinds c in
    let m = mu-kinds k.1 in
    Synth.roll k.0 (same-normal c ∙ nf_mu m) (synth_cast (nf_unrolled m) h)

-- a variable's type may be replaced by its normal form
under_normal : {ctx : List Kind} {vars : List Ty} {e : Term} {t u : Ty} → GoodVars ctx vars → HasKind ctx u Kind.Star → Synth ctx (u ∷ vars) e t → Synth ctx (normal ctx u ∷ vars) e t
under_normal {ctx} {vars} {u = u} g k h = revar (normal ctx u ∷ vars) (good-more k g) (good-more (nf_kind k) g) (same_cons (sym (nf_nf k)) (same_refl ctx vars)) h

mutual
  pub complete : {ctx : List Kind} {vars : List Ty} {e : Term} {t : Ty} → GoodVars ctx vars → HasType ctx vars e t → Synth ctx vars e (normal ctx t)
  complete g (HasType.var h) = Synth.var h
  complete {ctx} g HasType.int = synth_cast (sym (nf_int ctx)) Synth.int
  complete {ctx} g HasType.bool = synth_cast (sym (nf_bool ctx)) Synth.bool
  complete {ctx} g HasType.text = synth_cast (sym (nf_text ctx)) Synth.text
  complete g (HasType.lam k h) =
      let g' = good-more k g in
      synth_cast (sym (nf_arrow (k_arrow k (type-kind g' h)))) (Synth.lam k (complete g' h))
  complete g (HasType.call h i) = Synth.call (synth_cast (nf_arrow (type-kind g h)) (complete g h)) (complete g i)
  complete {vars = vars} g (HasType.ty_lam {k = k} h) =
      let g' = good-shift vars k g in
      synth_cast (sym (nf_all (type-kind g' h))) (Synth.ty_lam (complete g' h))
  complete g (HasType.inst h k) =
      let m = all-kinds (type-kind g h) in
      synth_cast (sym (nf_put k m)) (Synth.inst (synth_cast (nf_all m) (complete g h)) k)
  complete g (HasType.fields h) = synth_cast (sym (nf_fields (types-kind g h))) (Synth.fields (completes g h))
  complete {ctx} g (HasType.get h p) = Synth.get (synth_cast (nf_fields (fields-kinds (type-kind g h))) (complete g h)) (each_part (normal ctx) p)
  complete g (HasType.pack c k h) = pack_synth c k (complete g h)
  complete {vars = vars} {t = t} g (HasType.unpack {k = k} h i) =
      let m = ex-kinds (type-kind g h) in
      let g' = good-more m (good-shift vars k g) in
      unpack_synth g m (kind-unshift {j = k} (type-kind g' i)) (complete g h) (complete g' i)
  complete {ctx} g (HasType.if_ h i j) = Synth.if_ (synth_cast (nf_bool ctx) (complete g h)) (complete g i) (complete g j)
  complete {ctx} g (HasType.arith {o = o} h i) = synth_cast (nf_result ctx o) (Synth.arith (synth_cast (nf_int ctx) (complete g h)) (synth_cast (nf_int ctx) (complete g i)))
  complete g (HasType.fix k j h) =
      let m = k_arrow k j in
      synth_cast (sym (nf_arrow m)) (Synth.fix k j (complete (good-more k (good-more m g)) h))
  complete g (HasType.inj c p h) = inj_synth c p (complete g h)
  complete g (HasType.case h k b) =
      let m = sum-kinds (type-kind g h) in
      Synth.case (synth_cast (nf_sum m) (complete g h)) k (complete_branches g m b)
  complete g (HasType.roll c h) = roll_synth c (complete g h)
  complete g (HasType.unroll h) =
      let m = mu-kinds (type-kind g h) in
      synth_cast (sym (nf_unrolled m)) (Synth.unroll (synth_cast (nf_mu m) (complete g h)))
  complete g (HasType.conv h c) = synth_cast (same-normal c) (complete g h)

  pub completes : {ctx : List Kind} {vars : List Ty} {f : TermRow} {r : Row} → GoodVars ctx vars → FieldsHave ctx vars f r → SynthFields ctx vars f (each (normal ctx) r)
  completes g FieldsHave.end = SynthFields.end
  completes {ctx} g (FieldsHave.more {l = l} {r = r} h d i) = SynthFields.more (complete g h) (each_fresh (normal ctx) l r d) (completes g i)

  complete_branches : {ctx : List Kind} {vars : List Ty} {f : TermRow} {r : Row} {t : Ty} → GoodVars ctx vars → HasKinds ctx r → BranchesHave ctx vars f r t → SynthBranches ctx vars f (each (normal ctx) r) (normal ctx t)
  complete_branches g ks BranchesHave.none = SynthBranches.none
  complete_branches g (k_more d k ks) (BranchesHave.branch h b) = SynthBranches.branch (under_normal g k (complete (good-more k g) h)) (complete_branches g ks b)

-- ---- what is synthesised is normal, so it is one type

mutual
  -- a synthesised type is normal
  pub synth-normal : {ctx : List Kind} {vars : List Ty} {e : Term} {t : Ty} → GoodVars ctx vars → Synth ctx vars e t → normal ctx t ≡ t
  synth-normal g (Synth.var h) = nf_nf (g _ _ h)
  synth-normal {ctx} g Synth.int = nf_int ctx
  synth-normal {ctx} g Synth.bool = nf_bool ctx
  synth-normal {ctx} g Synth.text = nf_text ctx
  synth-normal g (Synth.lam k h) =
      let g' = good-more k g in
      nf_arrow (k_arrow (nf_kind k) (type-kind g' (sound g' h))) ∙ (λ j. Ty.Arrow (nf_nf k j) (synth-normal g' h j))
  synth-normal g (Synth.call h i) = arrow_right (sym (nf_arrow (type-kind g (sound g h))) ∙ synth-normal g h)
  synth-normal {vars = vars} g (Synth.ty_lam {k = k} h) =
      let g' = good-shift vars k g in
      nf_all (type-kind g' (sound g' h)) ∙ ap (Ty.All k) (synth-normal g' h)
  synth-normal g (Synth.inst h k) = nf_nf (put_kind k (all-kinds (type-kind g (sound g h))))
  synth-normal g (Synth.fields h) = nf_fields (types-kind g (sounds g h)) ∙ ap Ty.Fields (normals g h)
  synth-normal {ctx} g (Synth.get h p) = part_same (normal ctx) (fields_row (sym (nf_fields (fields-kinds (type-kind g (sound g h)))) ∙ synth-normal g h)) p
  synth-normal g (Synth.pack h p k i) = nf_nf h
  synth-normal {ctx} {vars} {t = t} g (Synth.unpack {k = k} h i) =
      let g' = good-more (ex-kinds (type-kind g (sound g h))) (good-shift vars k g) in
      shift_one (normal ctx t) t (sym (nf_shifted k (kind-unshift {j = k} (type-kind g' (sound g' i)))) ∙ synth-normal g' i)
  synth-normal g (Synth.if_ h i j) = synth-normal g i
  synth-normal {ctx} g (Synth.arith {o = o} h i) = sym (nf_result ctx o)
  synth-normal g (Synth.fix k j h) = nf_arrow (k_arrow (nf_kind k) (nf_kind j)) ∙ (λ i. Ty.Arrow (nf_nf k i) (nf_nf j i))
  synth-normal g (Synth.inj h p q i) = nf_nf h
  synth-normal g (Synth.case h k b) = nf_nf k
  synth-normal g (Synth.roll h p i) = nf_nf h
  synth-normal g (Synth.unroll h) = nf_nf (unrolled_kind (type-kind g (sound g h)))

  normals : {ctx : List Kind} {vars : List Ty} {f : TermRow} {r : Row} → GoodVars ctx vars → SynthFields ctx vars f r → each (normal ctx) r ≡ r
  normals g SynthFields.end = refl
  normals g (SynthFields.more {l = l} h d i) = λ j. Row.More l (synth-normal g h j) (normals g i j)

-- a term has at most one synthesised type
pub synth_one : {ctx : List Kind} {vars : List Ty} {e : Term} {s t : Ty} → GoodVars ctx vars → Synth ctx vars e s → Synth ctx vars e t → s ≡ t
synth_one {ctx} {vars} {e} {s} {t} g h i = sym (synth-normal g h) ∙ (same-normal (unique e ctx vars s t g (sound g h) (sound g i)) ∙ synth-normal g i)

-- a term has a type of kind * just where that type's normal form is synthesised
pub exact : {ctx : List Kind} {vars : List Ty} {e : Term} {t : Ty} → GoodVars ctx vars → HasType ctx vars e t ↔ (HasKind ctx t Kind.Star × Synth ctx vars e (normal ctx t))
exact g = (λ h. (type-kind g h, complete g h), λ p. HasType.conv (sound g p.1) (c_sym (nf_is p.0)))
