-- Norm goes with renamings that can be undone.
-- Main results: norm-renamed, undone-sig, renumbered-sig.
use Rattle.std.specs.Prelude.{ℕ, ◌<◌, List, ◌≡◌, ◌⊎◌, length}
use mathlib.Core.Logic.{inl, inr}
use Rattle.std.proofs.Common.{arith}
use Rattle.std.proofs.Math.Path.{refl, sym, ◌∙◌, ap, subst, subst₂, fun_ext}
use Rattle.omega_kinds.specs.Kind.{Kind}
use Rattle.omega_kinds.specs.declared.effect.Effect.TheVariants.{Impure}
use Rattle.omega_types.specs.Ty.{Ty}
use Rattle.omega_types.specs.Mentions.{Mentions}
use Rattle.omega_types.specs.Normalises.{Maps}
use Rattle.omega_types.specs.Binders.{extend, past, own, lifts, unders}
use Rattle.sig_definitions.specs.Signatures.Sig.{Sig, Abs, SigRow}
use Rattle.sig_definitions.specs.Signatures.SigSubst.{rename_sig, rename_abs, rename_sig_row, substitute_sig}
use Rattle.sig_definitions.specs.Signatures.SigMentions.{Avoids}
use Rattle.sig_definitions.specs.Explicit.SigPath.{SigPath}
use Rattle.sig_definitions.specs.Explicit.RootPath.{Rooted, ParamsAvoid}
use Rattle.sig_definitions.specs.QuantifierOrder.{Counts, counts, Taking, done, next, NewOrder, reordered, renumber, NormSig, Norm, NormRow}
use Rattle.sig_laws.proofs.Algebra.BinderLaws.{lifts-lifts, lifts-id, lifts-past, past-length}
use Rattle.sig_laws.proofs.Algebra.SigAlgebra.{rename-rename_sig, rename-rename_abs, rename_sig-id, substitute-vars_sig}
use Rattle.sig_laws.proofs.Algebra.SigMention.{mentions-unders}
use Rattle.sig_laws.proofs.Algebra.PathLaws.{param-back}
use Rattle.sig_laws.proofs.Algebra.Own.{split_index}
use Rattle.sig_laws.proofs.Formed.WellFormedLaws.{maps-substitutes, avoids-substitute}
use Rattle.sig_explicit_laws.proofs.Moves.{rooted-renamed}
use Rattle.sig_explicit_laws.proofs.Positions.{own-below}
use Rattle.sig_explicit_laws.proofs.Liftings.{lifts-below}
use Rattle.sig_norm_laws.proofs.Orders.Orders.{reordered-length, renumber-below, renumber-past}
use Rattle.omega_types.proofs.BinderPuts.{lifts-maps, unders-substitutes}
use Rattle.sig_laws.specs.Decide.{in_var}

-- a renaming and the one that undoes it
pub record Undone (ctx other : List Kind) (r q : ℕ → ℕ) : Type 0 where
  pub there : Maps ctx other r
  pub back : Maps other ctx q
  pub back_there : (i : ℕ) → q (r i) ≡ i
  pub there_back : (i : ℕ) → r (q i) ≡ i

-- a renaming that undoes another one is undone by it
pub turned : {ctx other : List Kind} {r q : ℕ → ℕ} → Undone ctx other r q → Undone other ctx q r
turned u = record { there = u.back; back = u.there; back_there = u.there_back; there_back = u.back_there }

-- a renaming that can be undone can be undone under binders
pub undone-lifts : (ks : List Kind) {ctx other : List Kind} {r q : ℕ → ℕ} → Undone ctx other r q → Undone (extend ctx ks) (extend other ks) (lifts ks r) (lifts ks q)
undone-lifts ks {r = r} {q = q} u = record {
  there = lifts-maps ks u.there;
  back = lifts-maps ks u.back;
  back_there = λ i. ap (λ f. f i) (lifts-lifts ks q r ∙ (ap (lifts ks) (fun_ext u.back_there) ∙ lifts-id ks));
  there_back = λ i. ap (λ f. f i) (lifts-lifts ks r q ∙ (ap (lifts ks) (fun_ext u.there_back) ∙ lifts-id ks));
}

-- undoing a renaming of a signature gives the signature
pub undone-sig : {ctx other : List Kind} {r q : ℕ → ℕ} → Undone ctx other r q → (s : Sig) → rename_sig q (rename_sig r s) ≡ s
undone-sig {r = r} {q = q} u s = rename-rename_sig q r s ∙ (ap (λ f. rename_sig f s) (fun_ext u.back_there) ∙ rename_sig-id s)

-- the parameters on a path that avoid a variable avoid the renamed one after a renaming that can be undone
pub params-renamed : {ctx other : List Kind} {s : Sig} {p : SigPath} (i : ℕ) (r q : ℕ → ℕ) → Undone ctx other r q → ParamsAvoid ctx s p i → ParamsAvoid other (rename_sig r s) p (r i)
params-renamed {ctx} {other} {s} {p} i r q u a = subst (λ z. ParamsAvoid other z p (r i)) (substitute-vars_sig r s) moved
  where
    moved : ParamsAvoid other (substitute_sig (λ j. Ty.Var (r j)) s) p (r i)
    moved ds js t on =
        let w = param-back (λ j. Ty.Var (r j)) s p on in
        subst (λ z. Avoids (extend (extend other ds) js) z (past js (past ds (r i)))) (sym w.2)
        (avoids-substitute w.0 (past js (past ds i)) (past js (past ds (r i))) (unders js (unders ds (λ j. Ty.Var (r j))))
        (unders-substitutes js (unders-substitutes ds (maps-substitutes u.there))) only (a ds js w.0 w.1))
      where
        only : (j : ℕ) → Mentions (past js (past ds (r i))) (unders js (unders ds (λ j. Ty.Var (r j))) j) → j ≡ past js (past ds i)
        only j m =
            let q1 = mentions-unders js (unders ds (λ j. Ty.Var (r j))) (λ z. j ≡ z) (past ds (r i)) (j, refl, m) in
            let q2 = mentions-unders ds (λ j. Ty.Var (r j)) (λ z. q1.0 ≡ z) (r i) (q1.0, refl, q1.2) in
            let e : q2.0 ≡ i = sym (u.back_there q2.0) ∙ (ap q (sym (in_var q2.2)) ∙ u.back_there i) in
            q1.1 ∙ ap (past js) (q2.1 ∙ ap (past ds) e)

pub counts-renamed : {ctx other ks : List Kind} {s : Sig} {taken : List ℕ} {v : ℕ} {p : SigPath} (r q : ℕ → ℕ) → Undone ctx other r q → Counts ctx ks s taken v p → Counts other ks (rename_sig (lifts ks r) s) taken v p
counts-renamed {ctx} {other} {ks} {s} {taken} {v} {p} r q u (counts n x a) = counts n
    (subst (λ i. Rooted (extend other ks) (rename_sig (lifts ks r) s) i p) (lifts-below ks r (own ks v) (own-below ks v n.0)) (rooted-renamed (lifts ks r) (lifts-maps ks u.there) x))
    (λ j m. subst (ParamsAvoid (extend other ks) (rename_sig (lifts ks r) s) p) (lifts-below ks r (own ks j) (own-below ks j m.0)) (params-renamed (own ks j) (lifts ks r) (lifts ks q) (undone-lifts ks u) (a j m)))

pub taking-renamed : {ctx other ks : List Kind} {s : Sig} {taken order : List ℕ} (r q : ℕ → ℕ) → Undone ctx other r q → Taking ctx ks s taken order → Taking other ks (rename_sig (lifts ks r) s) taken order
taking-renamed r q u (done h) = done h
taking-renamed {ctx} {other} {ks} {s} {taken} r q u (next c g t) = next (counts-renamed r q u c)
    (λ j o d. g j o (subst (λ z. Counts ctx ks z taken j o) (undone-sig (undone-lifts ks u) s) (counts-renamed q r (turned u) d)))
    (taking-renamed r q u t)

-- renumbering the binders' variables goes with a renaming of those from outside
pub renumber-lifts : {ctx ks : List Kind} {s : Sig} {order : List ℕ} → NewOrder ctx ks s order → (r : ℕ → ℕ) (i : ℕ) → lifts (reordered ks order) r (renumber ks order i) ≡ renumber ks order (lifts ks r i)
renumber-lifts {ks = ks} {order = order} t r i = go (split_index ks i)
  where
    same : (j : ℕ) → past (reordered ks order) j ≡ past ks j
    same j = let m = reordered-length t in let p = past-length ks j in let q = past-length (reordered ks order) j in omega arith

    go : (i < length ks) ⊎ ((j : ℕ) × (i ≡ past ks j)) → lifts (reordered ks order) r (renumber ks order i) ≡ renumber ks order (lifts ks r i)
    go (inl h) =
        let b = renumber-below ks order i h in
        let m = reordered-length t in
        let lt : renumber ks order i < length (reordered ks order) = omega (arith, b, m, h) in
        lifts-below (reordered ks order) r (renumber ks order i) lt ∙ ap (renumber ks order) (sym (lifts-below ks r i h))
    go (inr (j, e)) =
        ap (λ n. lifts (reordered ks order) r (renumber ks order n)) e ∙
        (ap (lifts (reordered ks order) r) (renumber-past ks order j ∙ sym (same j)) ∙
        (lifts-past (reordered ks order) r j ∙ (same (r j) ∙ (sym (renumber-past ks order (r j)) ∙ ap (renumber ks order) (sym (ap (lifts ks r) e ∙ lifts-past ks r j))))))

-- renumbering commutes with a renaming from outside
pub renumbered-sig : {ctx ks : List Kind} {s : Sig} {order : List ℕ} → NewOrder ctx ks s order → (r : ℕ → ℕ) (t : Sig) → rename_sig (renumber ks order) (rename_sig (lifts ks r) t) ≡ rename_sig (lifts (reordered ks order) r) (rename_sig (renumber ks order) t)
renumbered-sig {ks = ks} {order = order} o r t = rename-rename_sig (renumber ks order) (lifts ks r) t ∙ (ap (λ f. rename_sig f t) (sym (fun_ext (renumber-lifts o r))) ∙ sym (rename-rename_sig (lifts (reordered ks order) r) (renumber ks order) t))

-- renumbering commutes with a renaming from outside, in signatures that hide types
pub renumbered-abs : {ctx ks : List Kind} {s : Sig} {order : List ℕ} → NewOrder ctx ks s order → (r : ℕ → ℕ) (t : Abs) → rename_abs (renumber ks order) (rename_abs (lifts ks r) t) ≡ rename_abs (lifts (reordered ks order) r) (rename_abs (renumber ks order) t)
renumbered-abs {ks = ks} {order = order} o r t = rename-rename_abs (renumber ks order) (lifts ks r) t ∙ (ap (λ f. rename_abs f t) (sym (fun_ext (renumber-lifts o r))) ∙ sym (rename-rename_abs (lifts (reordered ks order) r) (renumber ks order) t))

mutual
  -- norm commutes with a renaming that can be undone
  pub norm-renamed : {ctx other : List Kind} {s t : Sig} (r q : ℕ → ℕ) → Undone ctx other r q → NormSig ctx s t → NormSig other (rename_sig r s) (rename_sig r t)
  norm-renamed r q u NormSig.val = NormSig.val
  norm-renamed r q u NormSig.typ = NormSig.typ
  norm-renamed r q u (NormSig.meta x) = NormSig.meta (norm_abs-renamed r q u x)
  norm-renamed r q u (NormSig.str fs) = NormSig.str (norm_row-renamed r q u fs)
  norm-renamed r q u (NormSig.pure {ks = ks} a b) = NormSig.pure (norm-renamed (lifts ks r) (lifts ks q) (undone-lifts ks u) a) (norm-renamed (lifts ks r) (lifts ks q) (undone-lifts ks u) b)
  norm-renamed {other = other} r q u (NormSig.impure {ks = ks} {s = s} {t = t} {x = x} {y = y} {order = order} a o n) =
      subst₂ (λ z w. NormSig other (Sig.Fun Impure ks (rename_sig (lifts ks r) s) (rename_abs (lifts ks r) x)) (Sig.Fun Impure (reordered ks order) z w)) (renumbered-sig o r t) (renumbered-abs o r y)
      (NormSig.impure (norm-renamed (lifts ks r) (lifts ks q) (undone-lifts ks u) a) (taking-renamed r q u o) (norm_abs-renamed (lifts ks r) (lifts ks q) (undone-lifts ks u) n))

  -- norm of signatures that hide types commutes with a renaming that can be undone
  pub norm_abs-renamed : {ctx other : List Kind} {x y : Abs} (r q : ℕ → ℕ) → Undone ctx other r q → Norm ctx x y → Norm other (rename_abs r x) (rename_abs r y)
  norm_abs-renamed {other = other} r q u (Norm.ex {ks = ks} {s = s} {t = t} {order = order} a o) =
      subst (λ z. Norm other (Abs.Ex ks (rename_sig (lifts ks r) s)) (Abs.Ex (reordered ks order) z)) (renumbered-sig o r t)
      (Norm.ex (norm-renamed (lifts ks r) (lifts ks q) (undone-lifts ks u) a) (taking-renamed r q u o))

  pub norm_row-renamed : {ctx other : List Kind} {fs gs : SigRow} (r q : ℕ → ℕ) → Undone ctx other r q → NormRow ctx fs gs → NormRow other (rename_sig_row r fs) (rename_sig_row r gs)
  norm_row-renamed r q u NormRow.end = NormRow.end
  norm_row-renamed r q u (NormRow.more a rest) = NormRow.more (norm-renamed r q u a) (norm_row-renamed r q u rest)
