-- Which indexes are mentioned, counted as the code counts them.
-- Main results: sig_mention-below, length-trees.
use Rattle.std.specs.Prelude.{ℕ, suc, ◌<◌, ◌≡◌, List, [], ◌∷◌, length, map}
use Rattle.std.proofs.Common.{arith}
use Rattle.std.proofs.Math.Logic.{inl, inr}
use Rattle.std.proofs.Math.Path.{refl, sym, ap}
use Rattle.omega_kinds.specs.Kind.{Kind}
use Rattle.omega_kinds.specs.View.{kind_tree}
use Rattle.omega_kinds.specs.declared.kind.Kind.{Kind as SharedKind}
use Rattle.omega_types.specs.Ty.{Ty, Row}
use Rattle.omega_types.specs.Inner.Bound.{bound_of, bound_row}
use Rattle.omega_types.specs.Binders.{past}
use Rattle.omega_types.specs.Mentions.{Mentions, Mentions_row, m_var, m_from, m_to, m_fields, m_sum, m_all, m_ex, m_mu, m_lam, m_operator, m_arg, m_part, m_rest}
use Rattle.sig_definitions.specs.Signatures.Sig.{Sig, Abs, SigRow}
use Rattle.sig_definitions.specs.Signatures.SigMentions.{MentionsSig, MentionsAbs, MentionsRow}
use Rattle.sig_laws.proofs.Algebra.BinderLaws.{past-length}
use Rattle.semantic_sigs.specs.Inner.Bound.{bound_sig, bound_abs, bound_sig_row}

mutual
  mention-below : (i : ℕ) (t : Ty) → Mentions i t → i < bound_of t
  mention-below i _ m_var = omega arith
  mention-below i _ (m_from {a = a} m) = omega (arith, mention-below i a m)
  mention-below i _ (m_to {b = b} m) = omega (arith, mention-below i b m)
  mention-below i _ (m_fields {row = row} m) = row_mention-below i row m
  mention-below i _ (m_sum {row = row} m) = row_mention-below i row m
  mention-below i _ (m_all {b = b} m) = omega (arith, mention-below (suc i) b m)
  mention-below i _ (m_ex {b = b} m) = omega (arith, mention-below (suc i) b m)
  mention-below i _ (m_mu {b = b} m) = omega (arith, mention-below (suc i) b m)
  mention-below i _ (m_lam {b = b} m) = omega (arith, mention-below (suc i) b m)
  mention-below i _ (m_operator {f = f} m) = omega (arith, mention-below i f m)
  mention-below i _ (m_arg {a = a} m) = omega (arith, mention-below i a m)

  row_mention-below : (i : ℕ) (row : Row) → Mentions_row i row → i < bound_row row
  row_mention-below i _ (m_part {t = t} m) = omega (arith, mention-below i t m)
  row_mention-below i _ (m_rest {rest = rest} m) = omega (arith, row_mention-below i rest m)

mutual
  -- an index that a signature mentions is below its bound
  pub sig_mention-below : (i : ℕ) (s : Sig) → MentionsSig i s → i < bound_sig s
  sig_mention-below i (Sig.Val t) m = mention-below i t m
  sig_mention-below i (Sig.Typ t k) m = mention-below i t m
  sig_mention-below i (Sig.Meta x) m = abs_mention-below i x m
  sig_mention-below i (Sig.Str fs) m = sig_row_mention-below i fs m
  sig_mention-below i (Sig.Fun e ks s x) (inl m) = omega (arith, sig_mention-below (past ks i) s m, past-length ks i)
  sig_mention-below i (Sig.Fun e ks s x) (inr m) = omega (arith, abs_mention-below (past ks i) x m, past-length ks i)

  -- an index that a signature that hides types mentions is below its bound
  pub abs_mention-below : (i : ℕ) (x : Abs) → MentionsAbs i x → i < bound_abs x
  abs_mention-below i (Abs.Ex ks s) m = omega (arith, sig_mention-below (past ks i) s m, past-length ks i)

  pub sig_row_mention-below : (i : ℕ) (fs : SigRow) → MentionsRow i fs → i < bound_sig_row fs
  sig_row_mention-below i SigRow.End m = absurd m
  sig_row_mention-below i (SigRow.More l s rest) (inl m) = omega (arith, sig_mention-below i s m)
  sig_row_mention-below i (SigRow.More l s rest) (inr m) = omega (arith, sig_row_mention-below i rest m)

-- a list of kinds has as many trees as kinds
pub length-trees : (items : List SharedKind) → length (map kind_tree items) ≡ length items
length-trees [] = refl
length-trees (k ∷ items) = ap suc (length-trees items)

-- a list of no kinds has no trees
pub no-kinds : (items : List SharedKind) (ks : List Kind) → map kind_tree items ≡ ks → length items ≡ 0 → ks ≡ []
no-kinds [] ks e l = sym e
no-kinds (k ∷ items) ks e l = absurd (omega (arith, l))
