-- Lowering a signature that does not mention the innermost variables.
-- Main results: lowered-raised, lowered-normal.
use Rattle.std.specs.Prelude.{ℕ, ◌+◌, ◌-◌, ◌<◌, ◌≤◌, List, [], ◌∷◌, ◌≡◌, ◌++◌, length}
use Rattle.std.proofs.Common.{arith}
use Rattle.std.proofs.Math.Decide.{dec_lt}
use Rattle.std.proofs.Math.Logic.{inl, inr}
use Rattle.std.proofs.Math.Path.{◌∙◌, sym, ap, subst}
use Rattle.omega_kinds.specs.Kind.{Kind}
use Rattle.omega_types.specs.Ty.{Ty, lift}
use Rattle.omega_types.specs.Binders.{extend, past, lifts}
use Rattle.omega_types.specs.Index.{bump}
use Rattle.omega_types.specs.Kinding.{Lookup}
use Rattle.omega_types.proofs.Lowering.{MapsAll, normal-mapped, lift-all, outer}
use Rattle.sig_definitions.specs.Signatures.Sig.{Sig, Abs, SigRow}
use Rattle.sig_definitions.specs.Signatures.SigMentions.{MentionsSig, MentionsAbs, MentionsRow}
use Rattle.sig_definitions.specs.Signatures.SigSubst.{rename_sig, rename_abs, rename_sig_row}
use Rattle.sig_definitions.specs.Signatures.Alike.{NormalSig, NormalAbs, NormalSigRow}
use Rattle.sig_laws.proofs.Algebra.SigAlgebra.{rename-rename_sig, substitute-vars_sig, substitute_sig-id}
use Rattle.sig_laws.proofs.Algebra.SigMention.{substitute_sig-agree}

lifts-all : (P : ℕ → Type 0) {ctx other : List Kind} {r : ℕ → ℕ} (ks : List Kind) → MapsAll (λ i. P (past ks i)) ctx other r → MapsAll P (extend ctx ks) (extend other ks) (lifts ks r)
lifts-all P [] h = h
lifts-all P {r = r} (k ∷ ks) h = lifts-all P {r = lift r} ks (lift-all (λ i. P (past ks i)) k h)

mutual
  sig-mapped : {ctx other : List Kind} (r : ℕ → ℕ) (s : Sig) → MapsAll (λ i. MentionsSig i s) ctx other r → NormalSig ctx s → NormalSig other (rename_sig r s)
  sig-mapped r (Sig.Val t) h n = normal-mapped r h n
  sig-mapped r (Sig.Typ t k) h n = normal-mapped r h n
  sig-mapped r (Sig.Meta x) h n = abs-mapped r x h n
  sig-mapped r (Sig.Str fs) h n = sig_row-mapped r fs h n
  sig-mapped r (Sig.Fun e ks s x) h n = (sig-mapped (lifts ks r) s (lifts-all (λ i. MentionsSig i s) ks (λ i j m. h i j (inl m))) n.0, abs-mapped (lifts ks r) x (lifts-all (λ i. MentionsAbs i x) ks (λ i j m. h i j (inr m))) n.1)

  abs-mapped : {ctx other : List Kind} (r : ℕ → ℕ) (x : Abs) → MapsAll (λ i. MentionsAbs i x) ctx other r → NormalAbs ctx x → NormalAbs other (rename_abs r x)
  abs-mapped r (Abs.Ex ks s) h n = sig-mapped (lifts ks r) s (lifts-all (λ i. MentionsSig i s) ks h) n

  sig_row-mapped : {ctx other : List Kind} (r : ℕ → ℕ) (fs : SigRow) → MapsAll (λ i. MentionsRow i fs) ctx other r → NormalSigRow ctx fs → NormalSigRow other (rename_sig_row r fs)
  sig_row-mapped r SigRow.End h n = n
  sig_row-mapped r (SigRow.More l s rest) h n = (sig-mapped r s (λ i j m. h i j (inl m)) n.0, sig_row-mapped r rest (λ i j m. h i j (inr m)) n.1)

at-least : (n i : ℕ) (P : Type 0) → (i < n → P → ⊥) → P → n ≤ i
at-least n i P h p = go (dec_lt i n)
  where
    go : Dec (i < n) → n ≤ i
    go (yes e) = absurd (h e p)
    go (no e) = omega arith

abbrev pub Unmentioned : ℕ → Sig → Type 0
Unmentioned by s = (i : ℕ) → i < by → MentionsSig i s → ⊥

-- a signature that does not mention the innermost variables, lowered and raised, is itself
pub lowered-raised : (by : ℕ) (given lowered : Sig) → lowered ≡ rename_sig (λ i. i - by) given → Unmentioned by given → rename_sig (bump by 0) lowered ≡ given
lowered-raised by s lowered e h =
    ap (rename_sig (bump by 0)) e ∙ (rename-rename_sig (bump by 0) (λ i. i - by) s ∙ (sym (substitute-vars_sig (λ i. by + (i - by)) s) ∙ (substitute_sig-agree (λ i. Ty.Var (by + (i - by))) Ty.Var s (λ i m. ap Ty.Var (back by i (at-least by i (MentionsSig i s) (h i) m))) ∙ substitute_sig-id s)))
  where
    back : (n i : ℕ) → n ≤ i → n + (i - n) ≡ i
    back n i e = omega arith

-- a normal signature that does not mention the innermost variables is normal when it is lowered
pub lowered-normal : (by : ℕ) (given lowered : Sig) → lowered ≡ rename_sig (λ i. i - by) given → (inner ctx : List Kind) → length inner ≡ by → NormalSig (inner ++ ctx) given → Unmentioned by given → NormalSig ctx lowered
lowered-normal by s lowered e inner ctx len n h =
    subst (NormalSig ctx) (sym e) (sig-mapped (λ i. i - by) s maps n)
  where
    maps : MapsAll (λ i. MentionsSig i s) (inner ++ ctx) ctx (λ i. i - by)
    maps i k m x = subst (λ l. Lookup ctx (i - l) k) len (outer inner ctx i k (subst (λ l. l ≤ i) (sym len) (at-least by i (MentionsSig i s) (h i) m)) x)
