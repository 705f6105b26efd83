-- What stands outside of hidden types, and what does not.
-- Main results: type-outside, sig-outside.
use Rattle.std.specs.Prelude.{ℕ, ◌+◌, ◌<◌, ◌≤◌, ◌++◌, List, [], ◌∷◌, ◌≡◌, length}
use Rattle.std.proofs.Common.{arith, append_assoc, length-append}
use Rattle.std.proofs.Math.Path.{refl, sym, subst, ap, ◌∙◌}
use Rattle.omega_kinds.specs.Kind.{Kind}
use Rattle.omega_types.specs.Ty.{Ty}
use Rattle.omega_types.specs.Normality.{Normal}
use Rattle.omega_types.specs.Conversion.{Conv}
use Rattle.omega_types.specs.Conversion.Conv.{c_refl, c_sym, c_trans}
use Rattle.omega_types.specs.Mentions.{Mentions, m_var}
use Rattle.omega_types.specs.Index.{bump, shift}
use Rattle.omega_types.specs.Binders.{extend, past, raise}
use Rattle.omega_types.proofs.BinderLaws.{past-maps}
use Rattle.omega_types.proofs.BinderPuts.{past-plus, its-form}
use Rattle.omega_types.proofs.Preservation.{normal-kind, normal-rename, conv-rename}
use Rattle.omega_types.proofs.Readback.{unique_normal_forms}
use Rattle.sig_definitions.specs.Signatures.Sig.{Abs}
use Rattle.sig_definitions.specs.Signatures.SigSubst.{rename_abs, raise_abs}
use Rattle.sig_definitions.specs.Signatures.SigMentions.{MentionsAbs}
use Rattle.sig_definitions.specs.Signatures.Alike.{NormalAbs, ConvAbs}
use Rattle.sig_laws.proofs.Algebra.SigMention.{mentions-rename, mentions_abs-substitute, unmentioned_abs}
use Rattle.sig_laws.proofs.Algebra.SigAlgebra.{substitute-vars_abs}
use Rattle.sig_laws.proofs.Algebra.AlikeLaws.{form-conv_abs, normal_abs-form}
use Rattle.module_judgments.specs.PathUse.{Outside, SigOutside}
use Rattle.module_rules.proofs.Packs.{bump-past, shift-raise}

-- the context under binders is theirs before the one outside
pub under-binders : (ks ctx : List Kind) → (inner : List Kind) × (length inner ≡ length ks) × (extend ctx ks ≡ inner ++ ctx)
under-binders [] ctx = ([], refl, refl)
under-binders (k ∷ ks) ctx =
    let r : (inner : List Kind) × (length inner ≡ length ks) × (extend (k ∷ ctx) ks ≡ inner ++ (k ∷ ctx)) = under-binders ks (k ∷ ctx) in
    let e : length r.0 ≡ length ks = r.1 in
    let a : length (r.0 ++ k ∷ []) ≡ length r.0 + 1 = length-append r.0 (k ∷ []) in
    (r.0 ++ (k ∷ []), omega (arith, a, e), r.2 ∙ sym (append_assoc r.0 (k ∷ []) ctx))

-- a type that is the shift of another is outside of the hidden types as that one
pub type-outside : (ctx ks : List Kind) (count : ℕ) (t n : Ty) (k : Kind) → length ks ≡ count → Normal (extend ctx ks) t k → shift count 0 n ≡ t → ((inner ctx : List Kind) (k : Kind) → length inner ≡ count → Normal (inner ++ ctx) t k → Normal ctx n k) → Outside ctx ks t k n
type-outside ctx ks count t n k len normal e lower =
    let u : (inner : List Kind) × (length inner ≡ length ks) × (extend ctx ks ≡ inner ++ ctx) = under-binders ks ctx in
    let m : Normal ctx n k = lower u.0 ctx k (u.1 ∙ len) (subst (λ c. Normal c t k) u.2 normal) in
    Outside.outside n (subst (λ x. Conv (extend ctx ks) x t k) (sym (sym (shift-raise ks count n len) ∙ e)) (c_refl (normal-kind normal))) (its-form m)

-- a type that mentions a hidden type is not outside of them
pub type-inside : (ctx ks : List Kind) (count : ℕ) (t : Ty) (k : Kind) → length ks ≡ count → Normal (extend ctx ks) t k → (i : ℕ) → i < count → Mentions i t → (n : Ty) → Outside ctx ks t k n → ⊥
type-inside ctx ks count t k len normal i lt m n (Outside.outside u c f) =
    let raised : Normal (extend ctx ks) (raise ks n) k = normal-rename (past ks) (past-maps ks ctx) f.0 in
    let same : raise ks n ≡ t = unique_normal_forms (extend ctx ks) (raise ks n) t k raised normal (c_trans (c_sym (conv-rename (past ks) (past-maps ks ctx) f.1)) c) in
    let q : (j : ℕ) × Mentions j n × (past ks j ≡ i) = mentions-rename (past ks) n i (subst (Mentions i) (sym same) m) in
    let p : past ks q.0 ≡ q.0 + length ks = past-plus ks q.0 in
    let e : past ks q.0 ≡ i = q.2 in
    absurd (omega (arith, p, e, lt, len))

-- the same for signatures

-- a signature that is the shift of another is outside of the hidden types as that one
pub sig-outside : (ctx ks : List Kind) (count : ℕ) (x n : Abs) → length ks ≡ count → NormalAbs (extend ctx ks) x → rename_abs (bump count 0) n ≡ x → ((inner ctx : List Kind) → length inner ≡ count → NormalAbs (inner ++ ctx) x → NormalAbs ctx n) → SigOutside ctx ks x n
sig-outside ctx ks count x n len normal e lower =
    let u : (inner : List Kind) × (length inner ≡ length ks) × (extend ctx ks ≡ inner ++ ctx) = under-binders ks ctx in
    let m : NormalAbs ctx n = lower u.0 ctx (u.1 ∙ len) (subst (λ c. NormalAbs c x) u.2 normal) in
    let same : raise_abs ks n ≡ x = ap (λ r. rename_abs r n) (sym (bump-past ks count len)) ∙ e in
    SigOutside.outside n (subst (λ w. ConvAbs (extend ctx ks) w x) (sym same) (form-conv_abs (normal_abs-form (extend ctx ks) x normal))) (normal_abs-form ctx n m)

var-at : (i j : ℕ) → Mentions i (Ty.Var j) → i ≡ j
var-at i _ m_var = refl

-- what is raised past binders mentions none of their variables
raised-past : (ks : List Kind) (y : Abs) (i : ℕ) → MentionsAbs i (raise_abs ks y) → length ks ≤ i
raised-past ks y i m =
    let q : (j : ℕ) × MentionsAbs j y × Mentions i (Ty.Var (past ks j)) = mentions_abs-substitute (λ j. Ty.Var (past ks j)) y i (subst (MentionsAbs i) (sym (substitute-vars_abs (past ks) y)) m) in
    let e : i ≡ past ks q.0 = var-at i (past ks q.0) q.2 in
    let p : past ks q.0 ≡ q.0 + length ks = past-plus ks q.0 in
    omega (arith, e, p)

-- a signature that mentions a hidden type is not outside of them
pub sig-inside : (ctx ks : List Kind) (count : ℕ) (x : Abs) → length ks ≡ count → NormalAbs (extend ctx ks) x → (i : ℕ) → i < count → MentionsAbs i x → (n : Abs) → SigOutside ctx ks x n → ⊥
sig-inside ctx ks count x len normal i lt m n (SigOutside.outside y c f) =
    unmentioned_abs i c normal (λ q. let le : length ks ≤ i = raised-past ks y i q in absurd (omega (arith, le, lt, len))) m
