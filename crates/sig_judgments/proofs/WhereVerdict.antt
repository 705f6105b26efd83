-- A signature with a hidden type fixed has exactly one conclusion or exactly one refusal.
-- Main results: one_where.
use Rattle.std.specs.Prelude.{List, [], ◌∷◌, ◌++◌, ◌≡◌, ◌≢◌, ◌⊎◌, map}
use Rattle.std.proofs.Common.{inl, inr}
use Rattle.std.proofs.Math.Path.{refl, sym, subst, ap, ◌∙◌}
use Rattle.omega_kinds.specs.Kind.{Kind, Kind-discrete}
use Rattle.omega_kinds.specs.Name.{Name}
use Rattle.omega_types.specs.Ty.{Ty}
use Rattle.omega_types.specs.Kinding.{HasKind}
use Rattle.omega_types.specs.Binders.{extend, unders, raise, front}
use Rattle.omega_types.proofs.Preservation.{normal-kind}
use Rattle.sig_definitions.specs.Signatures.Sig.{Sig, Abs}
use Rattle.sig_definitions.specs.Signatures.SigSubst.{substitute_sig}
use Rattle.sig_definitions.specs.Signatures.Alike.{NormalSig, NormalSigForm}
use Rattle.sig_definitions.specs.Explicit.SigPath.{Item}
use Rattle.sig_definitions.specs.Verdict.{Verdict, holds, refuses, One, Perhaps, one, none}
use Rattle.sig_judgments.specs.Refinement.{Leads, LeavesAt, Refined, own_part}
use Rattle.sig_judgments.specs.SigWhy.{SigWhy, NotAbstract, NoPart, KindDiffer}
use Rattle.sig_judgments.specs.SigRules.{WhereRefuses}
use Rattle.sig_judgments.specs.OneOutcome.{OneWhere}
use Rattle.sig_judgments.proofs.Paths.{leads, shows, Shows}
use Rattle.sig_judgments.proofs.Refining.{refined-one}

same-names : (names : List Name) → map (λ (m : Name). m) names ≡ names
same-names [] = refl
same-names (m ∷ names) = ap (◌∷◌ m) (same-names names)

abbrev refined_form : List Kind → List Kind → List Kind → Ty → Sig → Sig → Type 0
refined_form ctx before after u s n = NormalSigForm (extend ctx (before ++ after)) (substitute_sig (unders after (front (raise before u) Ty.Var)) s) n

refined-view : {ctx ks : List Kind} {s : Sig} {names : List Name} {u : Ty} {k : Kind} {y : Abs} → Refined ctx (Abs.Ex ks s) names u k y → (before after : List Kind) × (n : Sig) × (ks ≡ before ++ (k ∷ after)) × Leads s names (own_part k after) × refined_form ctx before after u s n × (y ≡ Abs.Ex (before ++ after) n)
refined-view (Refined.refined before after {n = n} e l f) = (before, after, n, e, l, f, refl)

abbrev Reason : List Kind → Sig → List Name → Kind → SigWhy → Type 0
Reason ks s names k why = ((l : Name) × LeavesAt (λ m. m) s names l × (why ≡ NoPart l))
    ⊎ (((q : Sig) × Leads s names q × ((o : List Kind × Kind × List Kind) → Shows ks q o → ⊥) × (why ≡ NotAbstract (map Item.Part names)))
    ⊎ ((o : List Kind × Kind × List Kind) × (ks ≡ o.0 ++ (o.1 ∷ o.2)) × Leads s names (own_part o.1 o.2) × (k ≢ o.1) × (why ≡ KindDiffer k o.1)))

reason : {ks : List Kind} {s : Sig} {names : List Name} {u : Ty} {k : Kind} {why : SigWhy} → WhereRefuses (Abs.Ex ks s) names u k why → Reason ks s names k why
reason (WhereRefuses.leaves {l = l} h) = inl (l, h, refl)
reason (WhereRefuses.not_own {q = q} h n) = inr (inl (q, h, (λ o e. n o.0 o.1 o.2 e.0 e.1), refl))
reason (WhereRefuses.kind before after {j = j} e h n) = inr (inr ((before, j, after), e, h, n, refl))

module _ (ctx ks : List Kind) (s : Sig) (names : List Name) (u : Ty) (k : Kind) (w : NormalSig (extend ctx ks) s) (h : HasKind ctx u k) where
  abbrev Outcome : Type 0
  Outcome = Verdict (Refined ctx (Abs.Ex ks s) names u k) (WhereRefuses (Abs.Ex ks s) names u k)

  -- the path leaves the structures
  at_leaving : (l : Name) → LeavesAt (λ m. m) s names l → ((m : Name) → LeavesAt (λ m. m) s names m → m ≡ l) → ((q : Sig) → Leads s names q → ⊥) → Outcome
  at_leaving l g only never = refuses (NoPart l) (WhereRefuses.leaves g) (λ why r. same why (reason r)) (λ y r. let v = refined-view r in never _ v.4)
    where
      same : (why : SigWhy) → Reason ks s names k why → why ≡ NoPart l
      same why (inl x) = x.2 ∙ ap NoPart (only x.0 x.1)
      same why (inr (inl x)) = absurd (never x.0 x.1)
      same why (inr (inr x)) = absurd (never _ x.2)

  -- the part is none of the own variables
  not_own : (q : Sig) → Leads s names q → ((p : Sig) → Leads s names p → p ≡ q) → ((l : Name) → LeavesAt (λ m. m) s names l → ⊥) → ((o : List Kind × Kind × List Kind) → Shows ks q o → ⊥) → Outcome
  not_own q g only never n = refuses (NotAbstract (map Item.Part names)) (WhereRefuses.not_own g (λ before j after e f. n (before, j, after) (e, f))) (λ why r. same why (reason r)) (λ y r. let v = refined-view r in n (v.0, k, v.1) (v.3, sym (only _ v.4)))
    where
      same : (why : SigWhy) → Reason ks s names k why → why ≡ NotAbstract (map Item.Part names)
      same why (inl x) = absurd (never x.0 x.1)
      same why (inr (inl x)) = x.3
      same why (inr (inr x)) = absurd (n x.0 (x.1, sym (only _ x.2)))

  -- the part is one of them
  own : (o : List Kind × Kind × List Kind) → ks ≡ o.0 ++ (o.1 ∷ o.2) → Leads s names (own_part o.1 o.2) → ((p : Sig) → Leads s names p → p ≡ own_part o.1 o.2) → ((l : Name) → LeavesAt (λ m. m) s names l → ⊥) → ((r : List Kind × Kind × List Kind) → Shows ks (own_part o.1 o.2) r → r ≡ o) → Dec (k ≡ o.1) → Outcome
  own o e g only never one_own (no n) = refuses (KindDiffer k o.1) (WhereRefuses.kind o.0 o.2 e g n) (λ why r. same why (reason r)) (λ y r. let v = refined-view r in n (ap (λ (z : List Kind × Kind × List Kind). z.1) (one_own (v.0, k, v.1) (v.3, sym (only _ v.4)))))
    where
      same : (why : SigWhy) → Reason ks s names k why → why ≡ KindDiffer k o.1
      same why (inl x) = absurd (never x.0 x.1)
      same why (inr (inl x)) = absurd (x.2 o (e, only x.0 x.1))
      same why (inr (inr x)) = x.4 ∙ ap (λ (z : List Kind × Kind × List Kind). KindDiffer k z.1) (one_own x.0 (x.1, sym (only _ x.2)))
  own o e g only never one_own (yes i) = holds (Abs.Ex (o.0 ++ o.2) n.0) (Refined.refined o.0 o.2 here_ks here_leads n.1) same (λ why r. none_left why (reason r))
    where
      here_ks : ks ≡ o.0 ++ (k ∷ o.2)
      here_ks = e ∙ ap (λ j. o.0 ++ (j ∷ o.2)) (sym i)

      here_leads : Leads s names (own_part k o.2)
      here_leads = subst (λ j. Leads s names (own_part j o.2)) (sym i) g

      n : One (λ n. refined_form ctx o.0 o.2 u s n)
      n = refined-one ctx o.0 o.2 ks k u s here_ks h w

      same : (y : Abs) → Refined ctx (Abs.Ex ks s) names u k y → y ≡ Abs.Ex (o.0 ++ o.2) n.0
      same y r =
          let v = refined-view r in
          let p = one_own (v.0, k, v.1) (v.3, sym (only _ v.4)) in
          let f = subst (λ (z : List Kind × Kind × List Kind). refined_form ctx z.0 z.2 u s v.2) p v.5 in
          v.6 ∙ (λ j. Abs.Ex ((p j).0 ++ (p j).2) (n.2 v.2 f j))

      none_left : (why : SigWhy) → Reason ks s names k why → ⊥
      none_left why (inl x) = never x.0 x.1
      none_left why (inr (inl x)) = x.2 o (e, only x.0 x.1)
      none_left why (inr (inr x)) = x.3 (i ∙ sym (ap (λ (z : List Kind × Kind × List Kind). z.1) (one_own x.0 (x.1, sym (only _ x.2)))))

  led : (q : Sig) → Leads s names q → ((p : Sig) → Leads s names p → p ≡ q) → ((l : Name) → LeavesAt (λ m. m) s names l → ⊥) → Perhaps (λ o. Shows ks q o) → Outcome
  led q g only never (none n) = not_own q g only never n
  led q g only never (one o e one_own) =
      own o e.0 (subst (λ q. Leads s names q) e.1 g) (λ p l. only p l ∙ e.1) never (λ r f. one_own r (f.0, e.1 ∙ f.1)) (Kind-discrete k o.1)

  decided : Verdict (λ q. Leads s names q) (λ l. LeavesAt (λ m. m) s names l) → Outcome
  decided (holds q g only never) = led q g only never (shows ks q)
  decided (refuses l g only never) = at_leaving l g only never

-- the rule of fixed types has exactly one conclusion or one refusal
pub one_where : OneWhere
one_where ctx (Abs.Ex ks s) names u k n h =
    decided ctx ks s names u k n (normal-kind h)
    (subst (λ ms. Verdict (λ q. Leads s ms q) (λ l. LeavesAt (λ m. m) s names l)) (same-names names) (leads (λ m. m) s names))
