-- What the walk finds: the first variable that can be taken, at the least path.
-- Main results: outcome.
use Rattle.std.specs.Prelude.{ℕ, zero, suc, ◌+◌, ◌≡◌, List, [], ◌∷◌, ◌++◌, ◌⊎◌, length, Option, Some, None, Bool, true, false, ◌||◌}
use mathlib.Core.Logic.{inl, inr}
use Rattle.std.proofs.Common.{arith}
use Rattle.std.proofs.Math.Path.{refl, sym, ap, ◌∙◌, subst, subst₂}
use Rattle.omega_kinds.specs.Kind.{Kind}
use Rattle.omega_kinds.specs.Name.{Name}
use Rattle.omega_kinds.specs.declared.effect.Effect.TheVariants.{Pure, Impure}
use Rattle.omega_kinds.proofs.NameLaws.{name-irreflexive, name-transitive}
use Rattle.omega_types.specs.Ty.{Ty}
use Rattle.omega_types.specs.Conversion.{Conv}
use Rattle.omega_types.specs.Normality.{Normal}
use Rattle.omega_types.specs.Binders.{extend, past, applied}
use Rattle.omega_types.proofs.Preservation.{conv-kinds, normal-kind}
use Rattle.omega_types.proofs.Inverse.{same-normal}
use Rattle.omega_types.proofs.LawProofs.{normal_of_normal}
use Rattle.omega_types.proofs.BinderLaws.{spread}
use Rattle.sig_definitions.specs.Signatures.Sig.{Sig, Abs, SigRow, HasField, here, there}
use Rattle.sig_definitions.specs.Signatures.Alike.{NormalSig, NormalSigRow}
use Rattle.sig_definitions.specs.Signatures.SigMentions.{MentionsSig, Avoids, by_normal_form}
use Rattle.sig_definitions.specs.Explicit.SigPath.{SigPath, Item, PathBefore, PartAt, ParamOn}
use Rattle.sig_definitions.specs.Explicit.RootPath.{ParamsAvoid}
use Rattle.sig_definitions.specs.Explicit.WellFormed.{BeforeAll, Rising, WellFormed, WellFormedRow}
use Rattle.sig_laws.specs.Decide.{decided, dec_mentions_sig}
use Rattle.sig_laws.proofs.Algebra.AlikeLaws.{normal_sig-form, avoided}
use Rattle.sig_laws.proofs.Algebra.BinderLaws.{extend-append, past-append, applied-append}
use Rattle.sig_laws.proofs.Algebra.PathLaws.{one-field}
use Rattle.sig_laws.proofs.Algebra.Names.{NameBefore}
use Rattle.sig_explicit_laws.proofs.Moves.{FieldsIn, shows-grown, params-grown}
use Rattle.sig_explicit_laws.proofs.Liftings.{shows-result, params-result}
use Rattle.sig_norm_laws.proofs.Orders.OrderExists.{field-split, part-opens, Opens}
use Rattle.sig_norm_laws.proofs.Orders.Decided.{param-enters}
use Rattle.sig_roots.specs.Inner.Rooted.{rooted}
use Rattle.sig_roots.proofs.RootedLaws.{rooted-conv, rooted-found}
use Rattle.semantic_sigs.proofs.LeastLaws.{past-from}
use Rattle.sig_roots.proofs.SeekLaws.{spread-past}
use Rattle.packages.specs.Inner.First.{Places, is_untaken, blocks, barred, if_untaken, first, first_row, first_type, or_first}
use Rattle.sig_laws.proofs.Formed.WellFormedLaws.{before_all-field}
use Rattle.sig_laws.proofs.Algebra.Paths.{before-cases, before-result}
use Rattle.sig_laws.proofs.Formed.Shows.{Shows, shows}

-- the variable is not taken yet and is rooted at the path, and no functor parameter on the path mentions one that is not
-- taken yet; all below so many variables of functors
abbrev pub Takes : List Kind → Places → ℕ → Sig → ℕ → SigPath → Type 0
Takes c ps depth s i p = (is_untaken ps i ≡ true) × Shows c s (spread (depth + i) zero depth) p × ((j : ℕ) → is_untaken ps j ≡ true → ParamsAvoid c s p (depth + j))

-- what it is that is found
abbrev pub Outcome : List Kind → Places → ℕ → Sig → Option ℕ → Type 0
Outcome c ps depth s None = (j : ℕ) (q : SigPath) → Takes c ps depth s j q → ⊥
Outcome c ps depth s (Some i) = (p : SigPath) × Takes c ps depth s i p × ((j : ℕ) (q : SigPath) → Takes c ps depth s j q → PathBefore q p → ⊥)

-- where a path to a type can go

shows-opens : {c : List Kind} {s : Sig} {u : Ty} {p : SigPath} → Shows c s u p → Opens s
shows-opens (shows x d) = part-opens x

-- types

data AtType (c : List Kind) (t : Ty) (k : Kind) (u : Ty) (p : SigPath) : Type 0 where
  at_type : p ≡ [] → Conv c t u k → AtType c t k u p

shows-type : {c : List Kind} {t u : Ty} {k : Kind} {p : SigPath} → Shows c (Sig.Typ t k) u p → AtType c t k u p
shows-type (shows PartAt.end d) = at_type refl d

conv-found : {c : List Kind} {t : Ty} {k : Kind} (depth i : ℕ) → Normal c t k → Conv c t (spread (depth + i) zero depth) k → rooted depth t ≡ Some i
conv-found {c} {t} {k} depth i n d = rooted-found depth i t (conv-kinds d).1 (sym (normal_of_normal c t k n) ∙ same-normal d)

no-params : (c : List Kind) (s : Sig) (j : ℕ) → ParamsAvoid c s [] j
no-params c s j ds ks t on = absurd (param-enters on)

before-end : {q : SigPath} → PathBefore q [] → ⊥
before-end b = elim b [ ]

untaken-found : (ps : Places) (o : Option ℕ) (i : ℕ) → if_untaken ps o ≡ Some i → (o ≡ Some i) × (is_untaken ps i ≡ true)
untaken-found ps None i e = absurd (cc)
untaken-found ps (Some j) i e = go (is_untaken ps j) refl
  where
    go : (b : Bool) → is_untaken ps j ≡ b → (Some j ≡ Some i) × (is_untaken ps i ≡ true)
    go true f = let g : if_untaken ps (Some j) ≡ Some j = rw f refl in let h : Some j ≡ Some i = sym g ∙ e in (h, subst (λ n. is_untaken ps n ≡ true) (cc) f)
    go false f = absurd (let g : if_untaken ps (Some j) ≡ None = rw f refl in cc)

untaken-none : (ps : Places) (o : Option ℕ) (i : ℕ) → if_untaken ps o ≡ None → o ≡ Some i → is_untaken ps i ≡ true → ⊥
untaken-none ps None i e f u = cc
untaken-none ps (Some j) i e f u =
    let g : j ≡ i = cc in
    let h : if_untaken ps (Some j) ≡ Some j = let u' : is_untaken ps j ≡ true = subst (λ n. is_untaken ps n ≡ true) (sym g) u in rw u' refl in
    cc

type-outcome : {c : List Kind} (ps : Places) (depth : ℕ) (t : Ty) (k : Kind) → Normal c t k → (o : Option ℕ) → first_type ps depth t ≡ o → Outcome c ps depth (Sig.Typ t k) o
type-outcome {c} ps depth t k n (Some i) e =
    let q = untaken-found ps (rooted depth t) i e in
    ([], (q.1, shows PartAt.end (rooted-conv depth i t q.0 (normal-kind n)), λ j u. no-params c (Sig.Typ t k) (depth + j)), λ j p w b. before-end b)
type-outcome {c} ps depth t k n None e = λ j p w. go j (shows-type w.1) w.0
  where
    go : (j : ℕ) {p : SigPath} → AtType c t k (spread (depth + j) zero depth) p → is_untaken ps j ≡ true → ⊥
    go j (at_type f d) u = untaken-none ps (rooted depth t) j e (conv-found depth j n d) u

-- structures

apart : (l m : Name) → NameBefore l m → l ≡ m → ⊥
apart l m b e = name-irreflexive l (subst (λ n. NameBefore l n) (sym e) b)

-- a path into a structure goes on in a field
data Inside (c : List Kind) (ps : Places) (depth : ℕ) (fs : SigRow) (j : ℕ) (q : SigPath) : Type 0 where
  inside : {m : Name} {t : Sig} {p : SigPath} → HasField fs m t → q ≡ Item.Part m ∷ p → Takes c ps depth t j p → Inside c ps depth fs j q

takes-inside : {c : List Kind} {ps : Places} {depth j : ℕ} {fs : SigRow} {q : SigPath} → Takes c ps depth (Sig.Str fs) j q → Inside c ps depth fs j q
takes-inside {c} {ps} {depth} {j} {fs} w = go w.1 w.2
  where
    go : {q : SigPath} → Shows c (Sig.Str fs) (spread (depth + j) zero depth) q → ((i : ℕ) → is_untaken ps i ≡ true → ParamsAvoid c (Sig.Str fs) q (depth + i)) → Inside c ps depth fs j q
    go (shows (PartAt.field {l = m} {s = t} {p = p} h x) d) a = inside h refl (w.0, shows x d, λ i u ds ks z on. a i u ds ks z (ParamOn.field h on))

takes-field : (c : List Kind) (ps : Places) (depth j : ℕ) {fs : SigRow} {m : Name} {t : Sig} {p : SigPath} → HasField fs m t → Takes c ps depth t j p → Takes c ps depth (Sig.Str fs) j (Item.Part m ∷ p)
takes-field c ps depth j {fs} {m} {t} {p} h w = (w.0, into w.1, avoid)
  where
    into : {u : Ty} → Shows c t u p → Shows c (Sig.Str fs) u (Item.Part m ∷ p)
    into (shows x d) = shows (PartAt.field h x) d

    avoid : (i : ℕ) → is_untaken ps i ≡ true → ParamsAvoid c (Sig.Str fs) (Item.Part m ∷ p) (depth + i)
    avoid i u ds ks z (ParamOn.field g on) = w.2 i u ds ks z (subst (λ y. ParamOn y p ds ks z) (one-field g h refl) on)

grown : {l : Name} {s : Sig} {rest : SigRow} → BeforeAll l rest → FieldsIn rest (SigRow.More l s rest)
grown {l} b m t h = there (λ e. apart l m (before_all-field l m b h) (sym e)) h

takes-grown : (c : List Kind) (ps : Places) (depth j : ℕ) {l : Name} {s : Sig} {rest : SigRow} {q : SigPath} → BeforeAll l rest → Takes c ps depth (Sig.Str rest) j q → Takes c ps depth (Sig.Str (SigRow.More l s rest)) j q
takes-grown c ps depth j b w = (w.0, shows-grown (grown b) w.1, λ i u. params-grown (depth + i) (grown b) w.1 (w.2 i u))

end-outcome : {c : List Kind} (ps : Places) (depth : ℕ) → Outcome c ps depth (Sig.Str SigRow.End) None
end-outcome {c} ps depth j q w = go (takes-inside w)
  where
    go : Inside c ps depth SigRow.End j q → ⊥
    go (inside h e t) = elim h [ ]

more-outcome : (c : List Kind) (ps : Places) (depth : ℕ) (l : Name) (s : Sig) (rest : SigRow) → BeforeAll l rest → (a b : Option ℕ) → Outcome c ps depth s a → Outcome c ps depth (Sig.Str rest) b → Outcome c ps depth (Sig.Str (SigRow.More l s rest)) (or_first a b)
more-outcome c ps depth l s rest r (Some i) b (p, w, h) g = (Item.Part l ∷ p, takes-field c ps depth i here w, λ j q v. none-before j (takes-inside v))
  where
    none-before : (j : ℕ) {q : SigPath} → Inside c ps depth (SigRow.More l s rest) j q → PathBefore q (Item.Part l ∷ p) → ⊥
    none-before j (inside {m = m} {t = t} {p = o} f e v) b = go (field-split f) (before-cases (subst (λ z. PathBefore z (Item.Part l ∷ p)) e b))
      where
        go : ((m ≡ l) × (t ≡ s)) ⊎ HasField rest m t → NameBefore m l ⊎ ((m ≡ l) × PathBefore o p) → ⊥
        go (inl f) (inl d) = apart m l d f.0
        go (inl f) (inr d) = h j o (subst (λ z. Takes c ps depth z j o) f.1 v) d.1
        go (inr f) (inl d) = name-irreflexive l (name-transitive l m l (before_all-field l m r f) d)
        go (inr f) (inr d) = apart l m (before_all-field l m r f) (sym d.0)
more-outcome c ps depth l s rest r None (Some i) h (p, w, g) = (p, takes-grown c ps depth i r w, λ j q v. none-before j (takes-inside v))
  where
    none-before : (j : ℕ) {q : SigPath} → Inside c ps depth (SigRow.More l s rest) j q → PathBefore q p → ⊥
    none-before j (inside {m = m} {t = t} {p = o} f e v) b = go (field-split f)
      where
        go : ((m ≡ l) × (t ≡ s)) ⊎ HasField rest m t → ⊥
        go (inl f) = h j o (subst (λ z. Takes c ps depth z j o) f.1 v)
        go (inr f) = g j (Item.Part m ∷ o) (takes-field c ps depth j f v) (subst (λ z. PathBefore z p) e b)
more-outcome c ps depth l s rest r None None h g = λ j q v. none j (takes-inside v)
  where
    none : (j : ℕ) {q : SigPath} → Inside c ps depth (SigRow.More l s rest) j q → ⊥
    none j (inside {m = m} {t = t} {p = o} f e v) = go (field-split f)
      where
        go : ((m ≡ l) × (t ≡ s)) ⊎ HasField rest m t → ⊥
        go (inl f) = h j o (subst (λ z. Takes c ps depth z j o) f.1 v)
        go (inr f) = g j (Item.Part m ∷ o) (takes-field c ps depth j f v)

-- functors

decided-yes : {A : Type 0} (d : Dec A) → decided d ≡ true → A
decided-yes (yes a) e = a
decided-yes (no h) e = absurd (cc)

decided-no : {A : Type 0} (d : Dec A) → decided d ≡ false → A → ⊥
decided-no (yes a) e b = cc
decided-no (no h) e b = h b

either-true : (a b : Bool) → (a || b) ≡ true → (a ≡ true) ⊎ (b ≡ true)
either-true true b e = inl refl
either-true false b e = inr e

either-false : (a b : Bool) → (a || b) ≡ false → (a ≡ false) × (b ≡ false)
either-false true b e = absurd (cc)
either-false false b e = (refl, e)

plus-zero : (i : ℕ) → i + zero ≡ i
plus-zero i = omega arith

plus-suc : (i j : ℕ) → suc i + j ≡ i + suc j
plus-suc i j = omega arith

blocks-yes : (o : Option ℕ) (i : ℕ) (s : Sig) → blocks o i s ≡ true → (o ≡ None) × MentionsSig i s
blocks-yes None i s e = (refl, decided-yes (dec_mentions_sig i s) e)
blocks-yes (Some j) i s e = absurd (cc)

pub barred-yes : (ps : Places) (i : ℕ) (s : Sig) → barred ps i s ≡ true → (j : ℕ) × (is_untaken ps j ≡ true) × MentionsSig (i + j) s
barred-yes [] i s e = absurd (cc)
barred-yes (o ∷ ps) i s e = go (either-true (blocks o i s) (barred ps (suc i) s) e) (barred-yes ps (suc i) s)
  where
    at-first : (o : Option ℕ) → o ≡ None → is_untaken (o ∷ ps) zero ≡ true
    at-first None f = refl
    at-first (Some j) f = absurd (cc)

    at-later : (o : Option ℕ) (j : ℕ) → is_untaken ps j ≡ true → is_untaken (o ∷ ps) (suc j) ≡ true
    at-later None j u = u
    at-later (Some x) j u = u

    go : (blocks o i s ≡ true) ⊎ (barred ps (suc i) s ≡ true) → (barred ps (suc i) s ≡ true → (j : ℕ) × (is_untaken ps j ≡ true) × MentionsSig (suc i + j) s) → (j : ℕ) × (is_untaken (o ∷ ps) j ≡ true) × MentionsSig (i + j) s
    go (inl f) h = let q = blocks-yes o i s f in (zero, at-first o q.0, subst (λ n. MentionsSig n s) (sym (plus-zero i)) q.1)
    go (inr f) h = let q = h f in (suc q.0, at-later o q.0 q.1, subst (λ n. MentionsSig n s) (plus-suc i q.0) q.2)

pub barred-no : (ps : Places) (i : ℕ) (s : Sig) → barred ps i s ≡ false → (j : ℕ) → is_untaken ps j ≡ true → MentionsSig (i + j) s → ⊥
barred-no [] i s e j u m = cc
barred-no (None ∷ ps) i s e zero u m = decided-no (dec_mentions_sig i s) (either-false (decided (dec_mentions_sig i s)) (barred ps (suc i) s) e).0 (subst (λ n. MentionsSig n s) (plus-zero i) m)
barred-no (Some o ∷ ps) i s e zero u m = cc
barred-no (None ∷ ps) i s e (suc j) u m = barred-no ps (suc i) s (either-false (blocks None i s) (barred ps (suc i) s) e).1 j u (subst (λ n. MentionsSig n s) (sym (plus-suc i j)) m)
barred-no (Some o ∷ ps) i s e (suc j) u m = barred-no ps (suc i) s (either-false (blocks (Some o) i s) (barred ps (suc i) s) e).1 j u (subst (λ n. MentionsSig n s) (sym (plus-suc i j)) m)

avoids-of : {c : List Kind} {s : Sig} {i : ℕ} → NormalSig c s → (MentionsSig i s → ⊥) → Avoids c s i
avoids-of {c} {s} n h = by_normal_form (normal_sig-form c s n) h

-- a path through a functor goes on in its result
data Through (c : List Kind) (ps : Places) (depth : ℕ) (ks : List Kind) (s r : Sig) (j : ℕ) (q : SigPath) : Type 0 where
  through : {p : SigPath} → q ≡ Item.Res ∷ p → ((i : ℕ) → is_untaken ps i ≡ true → Avoids (extend c ks) s (past ks (depth + i))) → Takes (extend c ks) ps (length ks + depth) r j p → Through c ps depth ks s r j q

takes-through : {c : List Kind} {ps : Places} {depth j : ℕ} {ks : List Kind} {s r : Sig} {q : SigPath} → Takes c ps depth (Sig.Fun Pure ks s (Abs.Ex [] r)) j q → Through c ps depth ks s r j q
takes-through {c} {ps} {depth} {j} {ks} {s} {r} w = go w.1 w.2
  where
    go : {q : SigPath} → Shows c (Sig.Fun Pure ks s (Abs.Ex [] r)) (spread (depth + j) zero depth) q → ((i : ℕ) → is_untaken ps i ≡ true → ParamsAvoid c (Sig.Fun Pure ks s (Abs.Ex [] r)) q (depth + i)) → Through c ps depth ks s r j q
    go (shows {t = t} {k = k} (PartAt.result {bs = bs} {p = p} x) d) a = through refl
        (λ i u. a i u [] ks s ParamOn.here) (
          w.0,
          shows x (subst₂ (λ z v. Conv z t v k) (extend-append ks bs c) (applied-append ks bs (spread (depth + j) zero depth) ∙ ap (applied bs) (sym (spread-past ks j depth))) d),
          λ i u ds js z on. subst₂ (λ y n. Avoids (extend y js) z (past js n)) (extend-append ks ds c) (past-append ks ds (depth + i) ∙ ap (past ds) (sym (past-from ks depth i))) (a i u (ks ++ ds) js z (ParamOn.result on)),
        )

takes-result : (c : List Kind) (ps : Places) (depth j : ℕ) {ks : List Kind} {s r : Sig} {p : SigPath} → ((i : ℕ) → is_untaken ps i ≡ true → Avoids (extend c ks) s (past ks (depth + i))) → Takes (extend c ks) ps (length ks + depth) r j p → Takes c ps depth (Sig.Fun Pure ks s (Abs.Ex [] r)) j (Item.Res ∷ p)
takes-result c ps depth j {ks} {s} {r} {p} h w = (
  w.0,
  shows-result c ks (subst (λ u. Shows (extend c ks) r u p) (spread-past ks j depth) w.1),
  λ i u. params-result c ks p (depth + i) (h i u) (subst (ParamsAvoid (extend c ks) r p) (past-from ks depth i) (w.2 i u)),
)

barred-outcome : {c : List Kind} (ps : Places) (depth : ℕ) (ks : List Kind) (s r : Sig) → NormalSig (extend c ks) s → barred ps (length ks + depth) s ≡ true → Outcome c ps depth (Sig.Fun Pure ks s (Abs.Ex [] r)) None
barred-outcome {c} ps depth ks s r n e j q w = go (takes-through w)
  where
    go : {q : SigPath} → Through c ps depth ks s r j q → ⊥
    go (through f a v) = let m = barred-yes ps (length ks + depth) s e in avoided n (a m.0 m.1) (subst (λ i. MentionsSig i s) (past-from ks depth m.0) m.2)

through-outcome : (c : List Kind) (ps : Places) (depth : ℕ) (ks : List Kind) (s r : Sig) → NormalSig (extend c ks) s → barred ps (length ks + depth) s ≡ false → (o : Option ℕ) → Outcome (extend c ks) ps (length ks + depth) r o → Outcome c ps depth (Sig.Fun Pure ks s (Abs.Ex [] r)) o
through-outcome c ps depth ks s r n e (Some i) (p, w, h) = (Item.Res ∷ p, takes-result c ps depth i avoided w, λ j q v. none-before j (takes-through v))
  where
    avoided : (i : ℕ) → is_untaken ps i ≡ true → Avoids (extend c ks) s (past ks (depth + i))
    avoided i u = avoids-of n (λ m. barred-no ps (length ks + depth) s e i u (subst (λ x. MentionsSig x s) (sym (past-from ks depth i)) m))

    none-before : (j : ℕ) {q : SigPath} → Through c ps depth ks s r j q → PathBefore q (Item.Res ∷ p) → ⊥
    none-before j (through {p = o} f a v) b = h j o v (before-result (subst (λ z. PathBefore z (Item.Res ∷ p)) f b))
through-outcome c ps depth ks s r n e None h = λ j q v. none j (takes-through v)
  where
    none : (j : ℕ) {q : SigPath} → Through c ps depth ks s r j q → ⊥
    none j (through {p = o} f a v) = h j o v

functor-outcome : (c : List Kind) (ps : Places) (depth : ℕ) (ks : List Kind) (s r : Sig) → NormalSig (extend c ks) s → Outcome (extend c ks) ps (length ks + depth) r (first ps (length ks + depth) r) → Outcome c ps depth (Sig.Fun Pure ks s (Abs.Ex [] r)) (first ps depth (Sig.Fun Pure ks s (Abs.Ex [] r)))
functor-outcome c ps depth ks s r n h = go (barred ps (length ks + depth) s) refl
  where
    go : (b : Bool) → barred ps (length ks + depth) s ≡ b → Outcome c ps depth (Sig.Fun Pure ks s (Abs.Ex [] r)) (first ps depth (Sig.Fun Pure ks s (Abs.Ex [] r)))
    go true e = subst (Outcome c ps depth (Sig.Fun Pure ks s (Abs.Ex [] r))) (sym (let g : first ps depth (Sig.Fun Pure ks s (Abs.Ex [] r)) ≡ None = rw e refl in g)) (barred-outcome ps depth ks s r n e)
    go false e = subst (Outcome c ps depth (Sig.Fun Pure ks s (Abs.Ex [] r))) (sym (let g : first ps depth (Sig.Fun Pure ks s (Abs.Ex [] r)) ≡ first ps (length ks + depth) r = rw e refl in g)) (through-outcome c ps depth ks s r n e (first ps (length ks + depth) r) h)

-- the whole

mutual
  -- what is found first on the way through a signature is the variable with the least path that counts, or nothing
  pub outcome : {c : List Kind} (ps : Places) (depth : ℕ) (s : Sig) → WellFormed c s → NormalSig c s → Outcome c ps depth s (first ps depth s)
  outcome ps depth (Sig.Val t) h n = λ j q w. shows-opens w.1
  outcome ps depth (Sig.Meta x) h n = λ j q w. shows-opens w.1
  outcome ps depth (Sig.Typ t k) h n = type-outcome ps depth t k n (first_type ps depth t) refl
  outcome ps depth (Sig.Str fs) (WellFormed.str r h) n = row-outcome ps depth fs r h n
  outcome ps depth (Sig.Fun Impure ks s x) h n = λ j q w. shows-opens w.1
  outcome {c} ps depth (Sig.Fun Pure ks s (Abs.Ex [] r)) (WellFormed.pure x h) n = functor-outcome c ps depth ks s r n.0 (outcome ps (length ks + depth) r h n.1)
  outcome ps depth (Sig.Fun Pure ks s (Abs.Ex (i ∷ is) r)) h n = elim h [ ]

  pub row-outcome : {c : List Kind} (ps : Places) (depth : ℕ) (fs : SigRow) → Rising fs → WellFormedRow c fs → NormalSigRow c fs → Outcome c ps depth (Sig.Str fs) (first_row ps depth fs)
  row-outcome ps depth SigRow.End r h n = end-outcome ps depth
  row-outcome {c} ps depth (SigRow.More l s rest) r (WellFormedRow.more h hs) n =
      more-outcome c ps depth l s rest r.0 (first ps depth s) (first_row ps depth rest) (outcome ps depth s h n.0) (row-outcome ps depth rest r.1 hs n.1)
