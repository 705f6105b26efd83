-- The simplified term keeps each type of the term.
-- Main results: kept.
use Rattle.std.proofs.Common.{◌≡◌, ◌≢◌, zero, refl, sym, List, ◌∷◌, Bool as Truth, true, false, cond}
use Rattle.omega_kinds.specs.Kind.{Kind}
use Rattle.omega_kinds.specs.declared.label.Label.{Label}
use Rattle.omega_types.specs.Ty.{Ty, Row}
use Rattle.omega_types.specs.Kinding.{HasKind, HasKinds, Fresh}
use Rattle.omega_types.specs.Kinding.HasKind.{k_arrow}
use Rattle.omega_types.specs.Kinding.HasKinds.{k_end, k_more}
use Rattle.omega_types.specs.Conversion.{Conv}
use Rattle.omega_types.specs.Conversion.Conv.{c_sym, c_trans}
use Rattle.omega_types.proofs.Inverse.{arrow_parts, ex-kinds, fields-kinds, sum-kinds}
use Rattle.omega_terms.specs.Term.{Term, TermRow}
use Rattle.omega_terms.specs.Typing.{At, HasType, FieldsHave, BranchesHave, HasPart, GoodVars}
use Rattle.omega_terms.proofs.TypingLaws.{good-more, good-shift, type-kind}
use Rattle.omega_laws.proofs.Unique.{Own, invert, unique}
use Rattle.omega_simplify_laws.specs.Simplified.{is_flat, call_of, simplified, simplified_row}
use Rattle.omega_simplify_laws.proofs.Flat.{Flat, flat, parts_of}

-- a row's label is not one that is fresh for it
not_fresh : (l : Label) (q : Row) {m : Label} {u : Ty} → Fresh l q → HasPart q m u → m ≢ l
not_fresh l Row.End d p = elim p [ ]
not_fresh l (Row.More k t q) d HasPart.here = λ e. d.0 (sym e)
not_fresh l (Row.More k t q) d (HasPart.there n p) = not_fresh l q d.1 p

-- the parts of a record have the types of its row
parts_have : {ctx : List Kind} {vars : List Ty} (r q : Row) → ((l : Label) (t : Ty) → HasPart q l t → HasPart r l t) → HasKinds ctx q →
    FieldsHave ctx (Ty.Fields r ∷ vars) (parts_of (Term.Var zero) q) q
parts_have r Row.End f k_end = FieldsHave.end
parts_have r (Row.More l t q) f (k_more d k ks) =
    FieldsHave.more (HasType.get (HasType.var At.here) (f l t HasPart.here)) d (parts_have r q (λ m u p. f m u (HasPart.there (not_fresh l q d p) p)) ks)

same_ends : {ctx : List Kind} {vars : List Ty} {g : Term} {s t u : Ty} → GoodVars ctx vars → HasType ctx vars g (Ty.Arrow s s) →
    HasType ctx vars g (Ty.Arrow t u) → Conv ctx t u Kind.Star
same_ends {ctx} {vars} {g} {s} {t} {u} good h i =
    let p : Conv ctx s t Kind.Star × Conv ctx s u Kind.Star = arrow_parts _ _ _ _ _ (unique g ctx vars (Ty.Arrow s s) (Ty.Arrow t u) good h i) in
    c_trans (c_sym p.0) p.1

own_lam_kind : {ctx : List Kind} {vars : List Ty} {s t : Ty} {b : Term} → Own ctx vars (Term.Lam s b) t → HasKind ctx s Kind.Star
own_lam_kind (Own.lam k h) = k

-- the argument's type of a flat function is its result's
pub flat_ends : {ctx : List Kind} {vars : List Ty} {g : Term} {t u : Ty} → GoodVars ctx vars → Flat g → HasType ctx vars g (Ty.Arrow t u) →
    Conv ctx t u Kind.Star
flat_ends good Flat.whole h = same_ends good (HasType.lam (own_lam_kind (invert good h).own) (HasType.var At.here)) h
flat_ends good (Flat.parts {r = r}) h =
    let k = own_lam_kind (invert good h).own in
    same_ends good (HasType.lam k (HasType.fields (parts_have r r (λ l t p. p) (fields-kinds k)))) h

call_type : {ctx : List Kind} {vars : List Ty} {t u : Ty} (f a : Term) → GoodVars ctx vars → HasType ctx vars f (Ty.Arrow t u) → HasType ctx vars a t →
    HasType ctx vars (call_of f a) u
call_type {ctx} {vars} {t} {u} f a good h i = by_test (is_flat f) refl
  where
    by_test : (b : Truth) → is_flat f ≡ b → HasType ctx vars (cond b a (Term.Call f a)) u
    by_test true e = HasType.conv i (flat_ends good (flat f e) h)
    by_test false e = HasType.call h i

mutual
  -- a simplified term has each type of the term
  pub kept : {ctx : List Kind} {vars : List Ty} {e : Term} {t : Ty} → GoodVars ctx vars → HasType ctx vars e t → HasType ctx vars (simplified e) t
  kept g (HasType.var h) = HasType.var h
  kept g HasType.int = HasType.int
  kept g HasType.bool = HasType.bool
  kept g HasType.text = HasType.text
  kept g (HasType.lam k h) = HasType.lam k (kept (good-more k g) h)
  kept g (HasType.call {f = f} {a = a} h i) = call_type (simplified f) (simplified a) g (kept g h) (kept g i)
  kept {vars = vars} g (HasType.ty_lam {k = k} h) = HasType.ty_lam (kept (good-shift vars k g) h)
  kept g (HasType.inst h k) = HasType.inst (kept g h) k
  kept g (HasType.fields h) = HasType.fields (kept_fields g h)
  kept g (HasType.get h p) = HasType.get (kept g h) p
  kept g (HasType.pack c k h) = HasType.pack c k (kept g h)
  kept {vars = vars} g (HasType.unpack {k = k} h i) = HasType.unpack (kept g h) (kept (good-more (ex-kinds (type-kind g h)) (good-shift vars k g)) i)
  kept g (HasType.if_ h i j) = HasType.if_ (kept g h) (kept g i) (kept g j)
  kept g (HasType.arith h i) = HasType.arith (kept g h) (kept g i)
  kept g (HasType.fix k j h) = HasType.fix k j (kept (good-more k (good-more (k_arrow k j) g)) h)
  kept g (HasType.inj c p h) = HasType.inj c p (kept g h)
  kept g (HasType.case h k b) = HasType.case (kept g h) k (kept_branches g (sum-kinds (type-kind g h)) b)
  kept g (HasType.roll c h) = HasType.roll c (kept g h)
  kept g (HasType.unroll h) = HasType.unroll (kept g h)
  kept g (HasType.conv h c) = HasType.conv (kept g h) c

  pub kept_fields : {ctx : List Kind} {vars : List Ty} {f : TermRow} {r : Row} → GoodVars ctx vars → FieldsHave ctx vars f r →
      FieldsHave ctx vars (simplified_row f) r
  kept_fields g FieldsHave.end = FieldsHave.end
  kept_fields g (FieldsHave.more h d i) = FieldsHave.more (kept g h) d (kept_fields g i)

  pub kept_branches : {ctx : List Kind} {vars : List Ty} {f : TermRow} {r : Row} {t : Ty} → GoodVars ctx vars → HasKinds ctx r →
      BranchesHave ctx vars f r t → BranchesHave ctx vars (simplified_row f) r t
  kept_branches g k_end BranchesHave.none = BranchesHave.none
  kept_branches g (k_more d k ks) (BranchesHave.branch h i) = BranchesHave.branch (kept (good-more k g) h) (kept_branches g ks i)
