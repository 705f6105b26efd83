-- Each rule of sums and of cases has exactly one conclusion or exactly one refusal.
-- Main results: one_sum, one_label, one_injection, one_case.
use Rattle.std.specs.Prelude.{List, [], ◌∷◌, ◌≡◌, ◌≢◌, ◌⊎◌}
use Rattle.std.proofs.Common.{inl, inr}
use Rattle.std.proofs.Math.Path.{refl, sym, subst, ap, ◌∙◌}
use Rattle.omega_kinds.specs.Kind.{Kind, Kind-discrete}
use Rattle.omega_kinds.specs.declared.label.Label.{Label}
use Rattle.omega_kinds.specs.LabelOrder.{LabelBefore, spelling}
use Rattle.omega_kinds.specs.Name.{Name}
use Rattle.omega_kinds.proofs.LabelLaws.{irreflexive, transitive, total_order}
use Rattle.omega_kinds.proofs.NameLaws.{dec_label}
use Rattle.omega_types.specs.Ty.{Ty, Row}
use Rattle.omega_terms.specs.Term.{Term, TermRow}
use Rattle.omega_terms.specs.Typing.{HasPart}
use Rattle.sig_definitions.specs.Verdict.{Verdict, holds, refuses, Perhaps, one, none, One}
use Rattle.sig_definitions.specs.Signatures.RecordOrder.{IsNew}
use Rattle.sig_laws.specs.Decide.{dec_ty}
use Rattle.sig_laws.proofs.Formed.Forms.{new_dec, part-at, pair-same}
use Rattle.core_judgments.proofs.Equal.{equal}
use Rattle.core_judgments.specs.CoreWhy.{CoreWhy, NotSum, NoField, NoBranch, Differ, KindDiffer, DuplicateField, IsNoSum}
use Rattle.core_judgments.specs.ExpRules.{FieldExp, field, SumGives, SumRefuses, LabelGives, LabelRefuses, InjectionGives, InjectionRefuses, BranchesGive, BranchesRefuse, HasBranch, HasNoBranch, InOrder, LeastWithout, CaseGives, CaseRefuses}
use Rattle.core_judgments.specs.OneOutcome.{OneSum, OneLabel, OneInjection, OneCase}

sum-or-not : (f : Ty) → ((row : Row) × (f ≡ Ty.Sum row)) ⊎ IsNoSum f
sum-or-not (Ty.Sum r) = inl (r, refl)
sum-or-not _ = inr tt

-- sums

sum-only : {row : Row} (q : Row) → SumGives (Ty.Sum row) q → q ≡ row
sum-only _ SumGives.sum = refl

sum-never : {row : Row} {why : CoreWhy} → SumRefuses (Ty.Sum row) why → ⊥
sum-never (SumRefuses.no_sum n) = n

no_sum-same : {t : Ty} {why : CoreWhy} → SumRefuses t why → why ≡ NotSum t
no_sum-same (SumRefuses.no_sum n) = refl

no_sum-never : {t : Ty} {row : Row} → SumGives t row → IsNoSum t → ⊥
no_sum-never SumGives.sum n = n

-- the rule of sum types that are taken apart has exactly one conclusion or one refusal
pub one_sum : OneSum
one_sum t = go (sum-or-not t)
  where
    go : ((row : Row) × (t ≡ Ty.Sum row)) ⊎ IsNoSum t → Verdict (SumGives t) (SumRefuses t)
    go (inl p) = subst (λ t. Verdict (SumGives t) (SumRefuses t)) (sym p.1) (holds p.0 SumGives.sum sum-only (λ why r. sum-never r))
    go (inr n) = refuses (NotSum t) (SumRefuses.no_sum n) (λ q r. no_sum-same r) (λ o g. no_sum-never g n)

-- labels

label-view : {row : Row} {l : Name} {t : Ty} → LabelGives (Ty.Sum row) l t → HasPart row (Label.Name l) t
label-view (LabelGives.label h) = h

label-sum : {t u : Ty} {l : Name} → LabelGives t l u → IsNoSum t → ⊥
label-sum (LabelGives.label h) n = n

label-refused : {row : Row} {l : Name} {why : CoreWhy} → LabelRefuses (Ty.Sum row) l why → ((t : Ty) → HasPart row (Label.Name l) t → ⊥) × (why ≡ NoField l)
label-refused (LabelRefuses.no_sum n) = absurd n
label-refused (LabelRefuses.no_label n) = (n, refl)

label-no_sum : {t : Ty} {l : Name} {why : CoreWhy} → IsNoSum t → LabelRefuses t l why → why ≡ NotSum t
label-no_sum n (LabelRefuses.no_sum m) = refl
label-no_sum n (LabelRefuses.no_label m) = absurd n

-- the rule of labels has exactly one conclusion or one refusal
pub one_label : OneLabel
one_label t l = go (sum-or-not t)
  where
    at : (row : Row) → Perhaps (λ u. HasPart row (Label.Name l) u) → Verdict (LabelGives (Ty.Sum row) l) (LabelRefuses (Ty.Sum row) l)
    at row (one u h only) = holds u (LabelGives.label h) (λ o g. only o (label-view g)) (λ r q. (label-refused q).0 u h)
    at row (none n) = refuses (NoField l) (LabelRefuses.no_label n) (λ q r. (label-refused r).1) (λ o g. n o (label-view g))

    go : ((row : Row) × (t ≡ Ty.Sum row)) ⊎ IsNoSum t → Verdict (LabelGives t l) (LabelRefuses t l)
    go (inl p) = subst (λ t. Verdict (LabelGives t l) (LabelRefuses t l)) (sym p.1) (at p.0 (part-at p.0 (Label.Name l)))
    go (inr n) = refuses (NotSum t) (LabelRefuses.no_sum n) (λ q r. label-no_sum n r) (λ o g. label-sum g n)

-- injections

injection-view : {row : Row} {l : Name} {v : Ty} {e : Term} {k : Kind} (o : Ty × Term) → InjectionGives l v e (Ty.Sum row) k o.0 o.1 → HasPart row (Label.Name l) v × (o ≡ (Ty.Sum row, Term.Inj (Label.Name l) e (Ty.Sum row)))
injection-view _ (InjectionGives.injection h) = (h, refl)

injection-sum : {l : Name} {v t u : Ty} {e d : Term} {k : Kind} → InjectionGives l v e t k u d → IsNoSum t → ⊥
injection-sum (InjectionGives.injection h) n = n

injection-kind : {l : Name} {v t u : Ty} {e d : Term} {k : Kind} → InjectionGives l v e t k u d → k ≡ Kind.Star
injection-kind (InjectionGives.injection h) = refl

injection-other_kind : {l : Name} {v t : Ty} {k : Kind} {why : CoreWhy} → k ≢ Kind.Star → InjectionRefuses l v t k why → why ≡ KindDiffer k Kind.Star
injection-other_kind n (InjectionRefuses.target_kind m) = refl
injection-other_kind n (InjectionRefuses.no_sum m) = absurd (n refl)
injection-other_kind n (InjectionRefuses.no_label m) = absurd (n refl)
injection-other_kind n (InjectionRefuses.value_type h m) = absurd (n refl)

injection-no_sum : {l : Name} {v t : Ty} {why : CoreWhy} → IsNoSum t → InjectionRefuses l v t Kind.Star why → why ≡ NotSum t
injection-no_sum n (InjectionRefuses.target_kind m) = absurd (m refl)
injection-no_sum n (InjectionRefuses.no_sum m) = refl
injection-no_sum n (InjectionRefuses.no_label m) = absurd n
injection-no_sum n (InjectionRefuses.value_type h m) = absurd n

injection-refused : {row : Row} {l : Name} {v : Ty} {why : CoreWhy} → InjectionRefuses l v (Ty.Sum row) Kind.Star why → (((t : Ty) → HasPart row (Label.Name l) t → ⊥) × (why ≡ NoField l)) ⊎ ((t : Ty) × HasPart row (Label.Name l) t × (v ≢ t) × (why ≡ Differ v t))
injection-refused (InjectionRefuses.target_kind m) = absurd (m refl)
injection-refused (InjectionRefuses.no_sum m) = absurd m
injection-refused (InjectionRefuses.no_label m) = inl (m, refl)
injection-refused (InjectionRefuses.value_type {t = t} h m) = inr (t, h, m, refl)

-- the rule of injections has exactly one conclusion or one refusal
pub one_injection : OneInjection
one_injection l v e t k =
    equal (λ k (o : Ty × Term). InjectionGives l v e t k o.0 o.1) (InjectionRefuses l v t) (KindDiffer k Kind.Star) (Kind-discrete k Kind.Star) (λ i. go (sum-or-not t))
    InjectionRefuses.target_kind (λ n q r. injection-other_kind n r) (λ o g. injection-kind g)
  where
    of-part : (row : Row) (u : Ty) → HasPart row (Label.Name l) u → ((y : Ty) → HasPart row (Label.Name l) y → y ≡ u) → Verdict (λ (o : Ty × Term). InjectionGives l v e (Ty.Sum row) Kind.Star o.0 o.1) (InjectionRefuses l v (Ty.Sum row) Kind.Star)
    of-part row u h only =
        equal (λ v (o : Ty × Term). InjectionGives l v e (Ty.Sum row) Kind.Star o.0 o.1) (λ v. InjectionRefuses l v (Ty.Sum row) Kind.Star) (Differ v u) (dec_ty v u)
        (λ i. holds (Ty.Sum row, Term.Inj (Label.Name l) e (Ty.Sum row)) (InjectionGives.injection h) (λ o g. (injection-view o g).1) (λ r q. never (injection-refused q)))
        (λ n. InjectionRefuses.value_type h n) (λ n q r. differs (injection-refused r)) (λ o g. only v (injection-view o g).0)
      where
        never : {why : CoreWhy} → (((t : Ty) → HasPart row (Label.Name l) t → ⊥) × (why ≡ NoField l)) ⊎ ((t : Ty) × HasPart row (Label.Name l) t × (u ≢ t) × (why ≡ Differ u t)) → ⊥
        never (inl q) = q.0 u h
        never (inr q) = q.2 (sym (only q.0 q.1))

        differs : {w : Ty} {why : CoreWhy} → (((t : Ty) → HasPart row (Label.Name l) t → ⊥) × (why ≡ NoField l)) ⊎ ((t : Ty) × HasPart row (Label.Name l) t × (w ≢ t) × (why ≡ Differ w t)) → why ≡ Differ w u
        differs (inl q) = absurd (q.0 u h)
        differs {w} (inr q) = q.3 ∙ ap (Differ w) (only q.0 q.1)

    at : (row : Row) → Perhaps (λ u. HasPart row (Label.Name l) u) → Verdict (λ (o : Ty × Term). InjectionGives l v e (Ty.Sum row) Kind.Star o.0 o.1) (InjectionRefuses l v (Ty.Sum row) Kind.Star)
    at row (one u h only) = of-part row u h only
    at row (none n) = refuses (NoField l) (InjectionRefuses.no_label n) (λ q r. missing (injection-refused r)) (λ o g. n v (injection-view o g).0)
      where
        missing : {why : CoreWhy} → (((t : Ty) → HasPart row (Label.Name l) t → ⊥) × (why ≡ NoField l)) ⊎ ((t : Ty) × HasPart row (Label.Name l) t × (v ≢ t) × (why ≡ Differ v t)) → why ≡ NoField l
        missing (inl q) = q.1
        missing (inr q) = absurd (n q.0 q.1)

    go : ((row : Row) × (t ≡ Ty.Sum row)) ⊎ IsNoSum t → Verdict (λ (o : Ty × Term). InjectionGives l v e t Kind.Star o.0 o.1) (InjectionRefuses l v t Kind.Star)
    go (inl p) = subst (λ t. Verdict (λ (o : Ty × Term). InjectionGives l v e t Kind.Star o.0 o.1) (InjectionRefuses l v t Kind.Star)) (sym p.1) (at p.0 (part-at p.0 (Label.Name l)))
    go (inr n) = refuses (NotSum t) (InjectionRefuses.no_sum n) (λ q r. injection-no_sum n r) (λ o g. injection-sum g n)

-- branches

module _ {row : Row} {t : Ty} where
  branches-view : {before : List Name} {l : Name} {u : Ty} {e : Term} {rest : List FieldExp} → BranchesGive row t before (field l u e ∷ rest) → IsNew l before × (u ≡ t) × ((x : Ty) × HasPart row (Label.Name l) x) × BranchesGive row t (l ∷ before) rest
  branches-view (BranchesGive.next_branch {u = u} n p g) = (n, refl, (u, p), g)

  branches-end : {before : List Name} {why : CoreWhy} → BranchesRefuse row t before [] why → ⊥
  branches-end r = elim r [ ]

  branches-again : {before : List Name} {l : Name} {u : Ty} {e : Term} {rest : List FieldExp} {why : CoreWhy} → (IsNew l before → ⊥) → BranchesRefuse row t before (field l u e ∷ rest) why → why ≡ DuplicateField l
  branches-again n (BranchesRefuse.name_again m) = refl
  branches-again n (BranchesRefuse.no_label m h) = absurd (n m)
  branches-again n (BranchesRefuse.branch_type m h d) = absurd (n m)
  branches-again n (BranchesRefuse.later_branch m h r) = absurd (n m)

  branches-label : {before : List Name} {l : Name} {u : Ty} {e : Term} {rest : List FieldExp} {why : CoreWhy} → IsNew l before → ((x : Ty) → HasPart row (Label.Name l) x → ⊥) → BranchesRefuse row t before (field l u e ∷ rest) why → why ≡ NoField l
  branches-label h n (BranchesRefuse.name_again m) = absurd (m h)
  branches-label h n (BranchesRefuse.no_label m q) = refl
  branches-label h n (BranchesRefuse.branch_type {u = x} m q d) = absurd (n x q)
  branches-label h n (BranchesRefuse.later_branch {u = x} m q r) = absurd (n x q)

  branches-type : {before : List Name} {l : Name} {u x : Ty} {e : Term} {rest : List FieldExp} {why : CoreWhy} → IsNew l before → HasPart row (Label.Name l) x → u ≢ t → BranchesRefuse row t before (field l u e ∷ rest) why → why ≡ Differ u t
  branches-type h p n (BranchesRefuse.name_again m) = absurd (m h)
  branches-type {x = x} h p n (BranchesRefuse.no_label m q) = absurd (q x p)
  branches-type h p n (BranchesRefuse.branch_type m q d) = refl
  branches-type h p n (BranchesRefuse.later_branch m q r) = absurd (n refl)

  branches-later : {before : List Name} {l : Name} {u x : Ty} {e : Term} {rest : List FieldExp} {why : CoreWhy} → u ≡ t → IsNew l before → HasPart row (Label.Name l) x → BranchesRefuse row t before (field l u e ∷ rest) why → BranchesRefuse row t (l ∷ before) rest why
  branches-later i h p (BranchesRefuse.name_again m) = absurd (m h)
  branches-later {x = x} i h p (BranchesRefuse.no_label m q) = absurd (q x p)
  branches-later i h p (BranchesRefuse.branch_type m q d) = absurd (d i)
  branches-later i h p (BranchesRefuse.later_branch m q r) = r

one_branches : (row : Row) (t : Ty) (before : List Name) (branches : List FieldExp) → Verdict (λ (o : Unit {0}). BranchesGive row t before branches) (BranchesRefuse row t before branches)
one_branches row t before [] = holds tt BranchesGive.no_branches (λ o g. refl) (λ r q. branches-end q)
one_branches row t before (field l u e ∷ rest) = go (new_dec l before) (part-at row (Label.Name l)) (one_branches row t (l ∷ before) rest)
  where
    inner : {x : Ty} → IsNew l before → HasPart row (Label.Name l) x → Verdict (λ (o : Unit {0}). BranchesGive row t (l ∷ before) rest) (BranchesRefuse row t (l ∷ before) rest) → Verdict (λ (o : Unit {0}). BranchesGive row t before (field l t e ∷ rest)) (BranchesRefuse row t before (field l t e ∷ rest))
    inner h p (holds o g only never) = holds tt (BranchesGive.next_branch h p g) (λ q r. refl) (λ why q. never why (branches-later refl h p q))
    inner h p (refuses why q only never) = refuses why (BranchesRefuse.later_branch h p q) (λ w r. only w (branches-later refl h p r)) (λ o r. never o (branches-view r).3)

    go : Dec (IsNew l before) → Perhaps (λ x. HasPart row (Label.Name l) x) → Verdict (λ (o : Unit {0}). BranchesGive row t (l ∷ before) rest) (BranchesRefuse row t (l ∷ before) rest) → Verdict (λ (o : Unit {0}). BranchesGive row t before (field l u e ∷ rest)) (BranchesRefuse row t before (field l u e ∷ rest))
    go (no n) p later = refuses (DuplicateField l) (BranchesRefuse.name_again n) (λ q r. branches-again n r) (λ o g. n (branches-view g).0)
    go (yes h) (none n) later = refuses (NoField l) (BranchesRefuse.no_label h n) (λ q r. branches-label h n r) (λ o g. let v = branches-view g in n v.2.0 v.2.1)
    go (yes h) (one x p only) later =
        equal (λ u (o : Unit {0}). BranchesGive row t before (field l u e ∷ rest)) (λ u. BranchesRefuse row t before (field l u e ∷ rest)) (Differ u t) (dec_ty u t) (λ i. inner h p later)
        (λ n. BranchesRefuse.branch_type h p n) (λ n q r. branches-type h p n r) (λ o g. (branches-view g).1)

-- the branches in the order of the sum's labels, or the least label without one

pub branch-at : (branches : List FieldExp) (l : Label) → Perhaps (λ e. HasBranch branches l e)
branch-at [] l = none (λ e h. elim h [ ])
branch-at (field m t d ∷ rest) l = go (dec_label l (Label.Name m)) (branch-at rest l)
  where
    other : (l : Label) (e : Term) → l ≢ Label.Name m → HasBranch (field m t d ∷ rest) l e → HasBranch rest l e
    other l e n HasBranch.here = absurd (n refl)
    other l e n (HasBranch.there q h) = h

    same : (l : Label) → l ≡ Label.Name m → (e : Term) → HasBranch (field m t d ∷ rest) l e → e ≡ d
    same l q e HasBranch.here = refl
    same l q e (HasBranch.there n h) = absurd (n q)

    go : Dec (l ≡ Label.Name m) → Perhaps (λ e. HasBranch rest l e) → Perhaps (λ e. HasBranch (field m t d ∷ rest) l e)
    go (yes q) p = one d (subst (λ l. HasBranch (field m t d ∷ rest) l d) (sym q) HasBranch.here) (λ e h. same l q e h)
    go (no n) (one e h only) = one e (HasBranch.there n h) (λ d g. only d (other l d n g))
    go (no n) (none never) = none (λ e h. never e (other l e n h))

-- a part of a row is the first one or one of the others
pub part-cases : {m k : Label} {u t : Ty} {rest : Row} → HasPart (Row.More m u rest) k t → (k ≡ m) ⊎ HasPart rest k t
part-cases HasPart.here = inl refl
part-cases (HasPart.there n h) = inr h

module _ {branches : List FieldExp} where
  order-end : (es : TermRow) → InOrder branches Row.End es → es ≡ TermRow.End
  order-end _ InOrder.no_labels = refl

  order-view : {m : Label} {u : Ty} {rest : Row} {es : TermRow} → InOrder branches (Row.More m u rest) es → (q : Term × TermRow) × HasBranch branches m q.0 × InOrder branches rest q.1 × (es ≡ TermRow.More m q.0 q.1)
  order-view (InOrder.next_label {e = e} {es = es} b g) = ((e, es), b, g, refl)

  -- each of the labels has a branch
  pub each-has : {row : Row} {es : TermRow} {l : Label} {t : Ty} → InOrder branches row es → HasPart row l t → HasNoBranch branches l → ⊥
  each-has InOrder.no_labels h n = elim h [ ]
  each-has (InOrder.next_label {e = e} b g) HasPart.here n = n e b
  each-has (InOrder.next_label b g) (HasPart.there d h) n = each-has g h n

  least-same : {row : Row} {l m : Label} → LeastWithout branches row l → LeastWithout branches row m → l ≡ m
  least-same {row} {l} {m} a b = go (total_order l m)
    where
      go : (l ≡ m) ⊎ (LabelBefore l m ⊎ LabelBefore m l) → l ≡ m
      go (inl e) = e
      go (inr (inl h)) = absurd (b.least l a.of_sum.0 a.of_sum.1 a.without h)
      go (inr (inr h)) = absurd (a.least m b.of_sum.0 b.of_sum.1 b.without h)

  ordered : (row : Row) → One (InOrder branches row) ⊎ ((l : Label) × LeastWithout branches row l)
  ordered Row.End = inl (TermRow.End, InOrder.no_labels, order-end)
  ordered (Row.More m u rest) = go (branch-at branches m) (ordered rest)
    where
      later : (l : Label) → l ≢ m → LeastWithout branches rest l → ((k : Label) → k ≡ m → HasNoBranch branches k → LabelBefore k l → ⊥) → LeastWithout branches (Row.More m u rest) l
      later l n w first =
          record { of_sum = (w.of_sum.0, HasPart.there n w.of_sum.1); without = w.without; least = λ k t h b q. by k t b q (part-cases h) }
        where
          by : (k : Label) (t : Ty) → HasNoBranch branches k → LabelBefore k l → (k ≡ m) ⊎ HasPart rest k t → ⊥
          by k t b q (inl e) = first k e b q
          by k t b q (inr h) = w.least k t h b q

      first : HasNoBranch branches m → ((k : Label) (t : Ty) → HasPart rest k t → HasNoBranch branches k → LabelBefore k m → ⊥) → LeastWithout branches (Row.More m u rest) m
      first n others = record { of_sum = (u, HasPart.here); without = n; least = λ k t h b q. by k t b q (part-cases h) }
        where
          by : (k : Label) (t : Ty) → HasNoBranch branches k → LabelBefore k m → (k ≡ m) ⊎ HasPart rest k t → ⊥
          by k t b q (inl e) = irreflexive m (subst (λ k. LabelBefore k m) e q)
          by k t b q (inr h) = others k t h b q

      both : HasNoBranch branches m → (l : Label) → LeastWithout branches rest l → (m ≡ l) ⊎ (LabelBefore m l ⊎ LabelBefore l m) → (k : Label) × LeastWithout branches (Row.More m u rest) k
      both n l w (inl e) = (m, first n (λ k t h b q. w.least k t h b (subst (LabelBefore k) e q)))
      both n l w (inr (inl p)) = (m, first n (λ k t h b q. w.least k t h b (transitive k m l q p)))
      both n l w (inr (inr p)) = (l, later l (λ e. irreflexive m (subst (λ k. LabelBefore k m) e p)) w (λ k e b q. irreflexive l (transitive l m l p (subst (λ k. LabelBefore k l) e q))))

      go : Perhaps (λ e. HasBranch branches m e) → One (InOrder branches rest) ⊎ ((l : Label) × LeastWithout branches rest l) → One (InOrder branches (Row.More m u rest)) ⊎ ((l : Label) × LeastWithout branches (Row.More m u rest) l)
      go (one e h only) (inl (es, g, same)) = inl (TermRow.More m e es, InOrder.next_label h g, λ fs r. let v = order-view r in v.3 ∙ (ap (λ d. TermRow.More m d v.0.1) (only v.0.0 v.1) ∙ ap (TermRow.More m e) (same v.0.1 v.2)))
      go (one e h only) (inr (l, w)) = inr (l, later l (λ q. w.without e (subst (λ k. HasBranch branches k e) (sym q) h)) w (λ k q b p. b e (subst (λ k. HasBranch branches k e) (sym q) h)))
      go (none n) (inl (es, g, same)) = inr (m, first n (λ k t h b q. each-has g h b))
      go (none n) (inr (l, w)) = inr (both n l w (total_order m l))

-- cases

module _ {row : Row} {t : Ty} {branches : List FieldExp} where
  case-view : {e : Term} (o : Ty × Term) → CaseGives (Ty.Sum row) e t Kind.Star branches o.0 o.1 → BranchesGive row t [] branches × ((es : TermRow) × InOrder branches row es × (o.0 ≡ t) × (o.1 ≡ Term.Case e t es))
  case-view _ (CaseGives.case_ {es = es} b g) = (b, (es, g, refl, refl))

  case-refused : {why : CoreWhy} → CaseRefuses (Ty.Sum row) t Kind.Star branches why → BranchesRefuse row t [] branches why ⊎ (BranchesGive row t [] branches × ((l : Label) × LeastWithout branches row l × (why ≡ NoBranch (spelling l))))
  case-refused (CaseRefuses.no_sum n) = absurd n
  case-refused (CaseRefuses.result_kind n) = absurd (n refl)
  case-refused (CaseRefuses.branch r) = inl r
  case-refused (CaseRefuses.no_branch {l = l} g w) = inr (g, (l, w, refl))

  case-kind : {k : Kind} {e : Term} {u : Ty} {d : Term} → CaseGives (Ty.Sum row) e t k branches u d → k ≡ Kind.Star
  case-kind (CaseGives.case_ b g) = refl

  case-other_kind : {k : Kind} {why : CoreWhy} → k ≢ Kind.Star → CaseRefuses (Ty.Sum row) t k branches why → why ≡ KindDiffer k Kind.Star
  case-other_kind n (CaseRefuses.no_sum m) = absurd m
  case-other_kind n (CaseRefuses.result_kind m) = refl
  case-other_kind n (CaseRefuses.branch r) = absurd (n refl)
  case-other_kind n (CaseRefuses.no_branch g w) = absurd (n refl)

case-sum : {w t u : Ty} {e d : Term} {k : Kind} {branches : List FieldExp} → CaseGives w e t k branches u d → IsNoSum w → ⊥
case-sum (CaseGives.case_ b g) n = n

case-no_sum : {w t : Ty} {k : Kind} {branches : List FieldExp} {why : CoreWhy} → IsNoSum w → CaseRefuses w t k branches why → why ≡ NotSum w
case-no_sum n (CaseRefuses.no_sum m) = refl
case-no_sum n (CaseRefuses.result_kind m) = absurd n
case-no_sum n (CaseRefuses.branch r) = absurd n
case-no_sum n (CaseRefuses.no_branch g w) = absurd n

-- the rule of cases has exactly one conclusion or one refusal
pub one_case : OneCase
one_case w e t k branches = go (sum-or-not w)
  where
    Outcome : Ty → Kind → Type 0
    Outcome w k = Verdict (λ (o : Ty × Term). CaseGives w e t k branches o.0 o.1) (CaseRefuses w t k branches)

    labelled : (row : Row) → BranchesGive row t [] branches → ((why : CoreWhy) → BranchesRefuse row t [] branches why → ⊥) → One (InOrder branches row) ⊎ ((l : Label) × LeastWithout branches row l) → Outcome (Ty.Sum row) Kind.Star
    labelled row b never (inl (es, g, same)) = holds (t, Term.Case e t es) (CaseGives.case_ b g) (λ o r. let v = case-view o r in pair-same o v.1.2 (v.1.3 ∙ ap (Term.Case e t) (same v.1.0 v.1.1))) (λ why r. none-refused why (case-refused r))
      where
        none-refused : (why : CoreWhy) → BranchesRefuse row t [] branches why ⊎ (BranchesGive row t [] branches × ((l : Label) × LeastWithout branches row l × (why ≡ NoBranch (spelling l)))) → ⊥
        none-refused why (inl r) = never why r
        none-refused why (inr (h, (l, w, q))) = each-has g w.of_sum.1 w.without
    labelled row b never (inr (l, w)) = refuses (NoBranch (spelling l)) (CaseRefuses.no_branch b w) (λ why r. same why (case-refused r)) (λ o r. let v = case-view o r in each-has v.1.1 w.of_sum.1 w.without)
      where
        same : (why : CoreWhy) → BranchesRefuse row t [] branches why ⊎ (BranchesGive row t [] branches × ((m : Label) × LeastWithout branches row m × (why ≡ NoBranch (spelling m)))) → why ≡ NoBranch (spelling l)
        same why (inl r) = absurd (never why r)
        same why (inr (h, (m, x, q))) = q ∙ ap (λ k. NoBranch (spelling k)) (least-same x w)

    branched : (row : Row) → Verdict (λ (o : Unit {0}). BranchesGive row t [] branches) (BranchesRefuse row t [] branches) → Outcome (Ty.Sum row) Kind.Star
    branched row (holds o b only never) = labelled row b never (ordered row)
    branched row (refuses why q only never) = refuses why (CaseRefuses.branch q) (λ w r. same w (case-refused r)) (λ o r. never tt (case-view o r).0)
      where
        same : (w : CoreWhy) → BranchesRefuse row t [] branches w ⊎ (BranchesGive row t [] branches × ((l : Label) × LeastWithout branches row l × (w ≡ NoBranch (spelling l)))) → w ≡ why
        same w (inl r) = only w r
        same w (inr h) = absurd (never tt h.0)

    at : (row : Row) → Outcome (Ty.Sum row) k
    at row = equal (λ k (o : Ty × Term). CaseGives (Ty.Sum row) e t k branches o.0 o.1) (λ k. CaseRefuses (Ty.Sum row) t k branches) (KindDiffer k Kind.Star) (Kind-discrete k Kind.Star) (λ i. branched row (one_branches row t [] branches)) CaseRefuses.result_kind (λ n q r. case-other_kind n r) (λ o g. case-kind g)

    go : ((row : Row) × (w ≡ Ty.Sum row)) ⊎ IsNoSum w → Outcome w k
    go (inl p) = subst (λ w. Outcome w k) (sym p.1) (at p.0)
    go (inr n) = refuses (NotSum w) (CaseRefuses.no_sum n) (λ q r. case-no_sum n r) (λ o g. case-sum g n)
