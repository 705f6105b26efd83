-- Where a typed term's nodes have the types that are found for them, they have all their types in normal form.
-- Main results: nodes, closed-nodes.
use Rattle.std.proofs.Common.{◌≡◌, suc, List, [], ◌∷◌, Some, map, sym, ap, ◌∙◌, subst}
use Rattle.std.proofs.lemmas.Option.{same_Some}
use Rattle.std.specs.Option.{option_map}
use Rattle.omega_kinds.specs.Kind.{Kind}
use Rattle.omega_types.specs.Ty.{Ty, Row}
use Rattle.omega_types.specs.Kinding.{HasKind, HasKinds}
use Rattle.omega_types.specs.Kinding.HasKind.{k_arrow}
use Rattle.omega_types.specs.Normalises.{NormalForm}
use Rattle.omega_types.specs.Substitution.{rename}
use Rattle.omega_types.specs.Normaliser.{normal, normal_row}
use Rattle.omega_types.proofs.Inverse.{same-normal, ex-kinds, sum-kinds}
use Rattle.omega_types.proofs.LawProofs.{normal_of_normal}
use Rattle.omega_terms.specs.Term.{Term, TermRow}
use Rattle.omega_terms.specs.Typing.{HasType, GoodVars, shift_all}
use Rattle.omega_terms.proofs.TypingLaws.{good-none, good-more, good-shift}
use Rattle.omega_laws.specs.Synthesis.{Synth, SynthFields, SynthBranches}
use Rattle.omega_laws.proofs.Synthesised.{exact, synth_one, revar, same_cons, same_refl, nf_nf, nf_kind}
use Rattle.type_store.specs.Numbers.{NumberOf}
use Rattle.type_store.specs.Trees.{Holds}
use Rattle.omega_node_laws.specs.Found.{and_then, normal_at, synth_in}
use Rattle.omega_node_laws.specs.Held.{Has, IsParameter, Held, HeldFields, HeldBranches}
use Rattle.omega_node_laws.specs.NodeTypes.{HoldsType, HoldsNodeTypes, HoldsFieldTypes, HoldsBranchTypes}
use Rattle.omega_node_laws.proofs.Exact.{complete, ex-body, normals-shift, sum-row}
use Rattle.omega_node_laws.proofs.Inverted.{normal_at-of}

form-is : {ctx : List Kind} {t n : Ty} → NormalForm ctx t Kind.Star n → normal ctx t ≡ n
form-is {ctx} {t} {n} h = same-normal h.1 ∙ normal_of_normal ctx n Kind.Star h.0

kind-one : {j k : Kind} {b c : Ty} → Ty.Ex j b ≡ Ty.Ex k c → j ≡ k
kind-one p = cc

module _ (ts : List Ty) where
  holds-type : {ctx : List Kind} {vars : List Ty} {e : Term} → GoodVars ctx vars → Has ts (synth_in ctx (map (normal ctx) vars) e) → HoldsType ts ctx vars e
  holds-type {ctx} g h t n p q =
      let s = complete g ((exact g).0 p).1 in
      (h.number, subst (Holds ts h.number) (form-is q) (subst (NumberOf ts (Some h.number)) s h.is_number))

  -- the parameter of a function that is called at once is the normal form of its type
  parameter : {ctx : List Kind} {vars : List Ty} {a : Term} {t n : Ty} → GoodVars ctx vars → HasKind ctx t Kind.Star → Synth ctx vars a (normal ctx t)
      → IsParameter (normal_at ctx t Kind.Star) (synth_in ctx (map (normal ctx) vars) a) t n → n ≡ normal ctx t
  parameter g k i (IsParameter.normal p) = same_Some _ _ (sym p ∙ normal_at-of k)
  parameter g k i (IsParameter.argument p) = same_Some _ _ (sym p ∙ complete g i)

  function-has : (ctx : List Kind) (vars : List Ty) (t n : Ty) (e : Term) → HasKind ctx t Kind.Star → n ≡ normal ctx t
      → Has ts (option_map (Ty.Arrow n) (synth_in ctx (n ∷ vars) e)) → Has ts (synth_in ctx vars (Term.Lam t e))
  function-has ctx vars t n e k p h =
      subst (Has ts) (ap (λ m. option_map (Ty.Arrow m) (synth_in ctx (m ∷ vars) e)) p ∙
      sym (ap (λ o. and_then o (λ m. option_map (Ty.Arrow m) (synth_in ctx (m ∷ vars) e))) (normal_at-of k))) h

  mutual
    -- where the types that are found are held, the list has the type of each node of a typed term
    pub nodes : (e : Term) {ctx : List Kind} {vars : List Ty} {t : Ty} → GoodVars ctx vars → Synth ctx vars e t → Held ts ctx (map (normal ctx) vars) e
        → HoldsNodeTypes ts ctx vars e
    nodes (Term.Var n) g s h = holds-type g h
    nodes (Term.Int z) g s h = holds-type g h
    nodes (Term.Bool x) g s h = holds-type g h
    nodes (Term.Text x) g s h = holds-type g h
    nodes (Term.Lam t e) {ctx} {vars} g (Synth.lam k i) h = (
      holds-type g h.0,
      nodes e (good-more k g) i
          (subst (λ n. Held ts ctx (n ∷ map (normal ctx) vars) e) (same_Some _ _ (sym h.1.1 ∙ normal_at-of k)) h.1.2),
    )
    nodes (Term.Call (Term.Lam t e) a) {ctx} {vars} g (Synth.call (Synth.lam k i) j) h =
        let p = parameter g k j h.1.1.1 in (
          holds-type g h.0,
          (
            holds-type g (function-has ctx (map (normal ctx) vars) t h.1.1.0 e k p h.1.1.2),
            nodes e (good-more k g) i
                (subst (λ n. Held ts ctx (n ∷ map (normal ctx) vars) e) p h.1.1.3),
          ),
          nodes a g j h.1.0,
        )
    nodes (Term.Call f a) g (Synth.call i j) h = (holds-type g h.0, nodes f g i h.1.1, nodes a g j h.1.0)
    nodes (Term.TyLam k e) {ctx} {vars} g (Synth.ty_lam i) h =
        (holds-type g h.0, nodes e (good-shift vars k g) i (subst (λ vs. Held ts (k ∷ ctx) vs e) (normals-shift vars k g) h.1))
    nodes (Term.Inst e t) g (Synth.inst i k) h = (holds-type g h.0, nodes e g i h.1)
    nodes (Term.Fields row) g (Synth.fields i) h = (holds-type g h.0, field-nodes row g i h.1)
    nodes (Term.Get e l) g (Synth.get i p) h = (holds-type g h.0, nodes e g i h.1)
    nodes (Term.Pack t e u) g (Synth.pack k p j i) h = (holds-type g h.0, nodes e g i h.1)
    nodes (Term.Unpack p e) {ctx} {vars} g (Synth.unpack {k = l} {t = t} {body = d} i j) h = (
      holds-type g h.0,
      nodes p g i h.1.0,
      λ k b q.
          let x = (exact g).0 q in
          let s = synth_one g i x.1 in
          let f = same_Some _ _ (sym h.1.1.2 ∙ complete g x.1) in
          let n = ex-kinds x.0 in
          let good = good-shift vars k g in
          let body =
          subst (λ c. Synth (k ∷ ctx) (c ∷ shift_all vars) e (rename suc t)) (ex-body s)
          (subst (λ m. Synth (m ∷ ctx) (d ∷ shift_all vars) e (rename suc t)) (kind-one s) j) in
          nodes e (good-more n good) (revar (b ∷ shift_all vars) (good-more (nf_kind n) good) (good-more n good)
          (same_cons (nf_nf n) (same_refl (k ∷ ctx) (shift_all vars))) body)
          (subst (λ vs. Held ts (k ∷ ctx) (normal (k ∷ ctx) b ∷ vs) e) (normals-shift vars k g)
          (subst (λ c. Held ts (k ∷ ctx) (c ∷ shift_all (map (normal ctx) vars)) e) (ex-body f)
          (subst (λ l. Held ts (l ∷ ctx) (h.1.1.1 ∷ shift_all (map (normal ctx) vars)) e) (kind-one f) h.1.1.3))),
    )
    nodes (Term.If x y z) g (Synth.if_ i j k) h = (holds-type g h.0, nodes x g i h.1.0, nodes y g j h.1.1, nodes z g k h.1.2)
    nodes (Term.Arith o x y) g (Synth.arith i j) h = (holds-type g h.0, nodes x g i h.1.0, nodes y g j h.1.1)
    nodes (Term.Fix t u e) {ctx} {vars} g (Synth.fix k j i) h = (
      holds-type g h.0,
      nodes e (good-more k (good-more (k_arrow k j) g)) i
          (subst (λ m. Held ts ctx (normal ctx t ∷ (Ty.Arrow (normal ctx t) m ∷ map (normal ctx) vars)) e) (same_Some _ _ (sym h.1.3 ∙ normal_at-of j))
          (subst (λ n. Held ts ctx (n ∷ (Ty.Arrow n h.1.1 ∷ map (normal ctx) vars)) e) (same_Some _ _ (sym h.1.2 ∙ normal_at-of k)) h.1.4)),
    )
    nodes (Term.Inj l e t) g (Synth.inj k p q i) h = (holds-type g h.0, nodes e g i h.1)
    nodes (Term.Case e t row) {ctx} {vars} g (Synth.case i k b) h = (
      holds-type g h.0,
      nodes e g i h.1.0,
      λ r q.
          let x = (exact g).0 q in
          let f = same_Some _ _ (sym h.1.1.1 ∙ complete g x.1) in
          branch-nodes row r g (sum-kinds x.0) (subst (λ c. SynthBranches ctx vars row c (normal ctx t)) (sum-row (synth_one g i x.1)) b)
          (subst (HeldBranches ts ctx (map (normal ctx) vars) row) (sum-row f) h.1.1.2),
    )
    nodes (Term.Roll e t) g (Synth.roll k p i) h = (holds-type g h.0, nodes e g i h.1)
    nodes (Term.Unroll e) g (Synth.unroll i) h = (holds-type g h.0, nodes e g i h.1)

    field-nodes : (row : TermRow) {ctx : List Kind} {vars : List Ty} {r : Row} → GoodVars ctx vars → SynthFields ctx vars row r
        → HeldFields ts ctx (map (normal ctx) vars) row → HoldsFieldTypes ts ctx vars row
    field-nodes TermRow.End g s h = tt
    field-nodes (TermRow.More l e rest) g (SynthFields.more i d j) h = (nodes e g i h.0, field-nodes rest g j h.1)

    branch-nodes : (row : TermRow) (r : Row) {ctx : List Kind} {vars : List Ty} {t : Ty} → GoodVars ctx vars → HasKinds ctx r
        → SynthBranches ctx vars row (normal_row ctx r) t → HeldBranches ts ctx (map (normal ctx) vars) row (normal_row ctx r)
        → HoldsBranchTypes ts ctx vars row r
    branch-nodes TermRow.End r g k s h = tt
    branch-nodes (TermRow.More l e rest) Row.End g k s h = tt
    branch-nodes (TermRow.More l e rest) (Row.More m u r) {ctx} {vars} g (HasKinds.k_more d k ks) (SynthBranches.branch i j) h = (
      nodes e (good-more k g) (revar (u ∷ vars) (good-more (nf_kind k) g) (good-more k g) (same_cons (nf_nf k) (same_refl ctx vars)) i) h.0,
      branch-nodes
          rest r g ks j h.1,
    )

-- where the types of a closed typed term are held, the list has the type of each of its nodes
pub closed-nodes : (ts : List Ty) (e : Term) (t : Ty) → HasType [] [] e t → Held ts [] [] e → HoldsNodeTypes ts [] [] e
closed-nodes ts e t h k = nodes ts e (good-none []) ((exact (good-none [])).0 h).1 k
