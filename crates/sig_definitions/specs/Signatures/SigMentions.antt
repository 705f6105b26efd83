-- Which free type variables a signature mentions.
use Rattle.std.specs.Prelude.{ℕ, List, ◌⊎◌}
use Rattle.omega_kinds.specs.Kind.{Kind}
use Rattle.omega_types.specs.Mentions.{Mentions}
use Rattle.omega_types.specs.Binders.{past}
use Rattle.sig_definitions.specs.Signatures.Sig.{Sig, Abs, SigRow}
use Rattle.sig_definitions.specs.Signatures.Alike.{NormalSigForm}

abbrev mutual
  pub MentionsSig : ℕ → Sig → Type 0
  MentionsSig i (Sig.Val t) = Mentions i t
  MentionsSig i (Sig.Typ t k) = Mentions i t
  MentionsSig i (Sig.Meta x) = MentionsAbs i x
  MentionsSig i (Sig.Str fs) = MentionsRow i fs
  MentionsSig i (Sig.Fun e ks s x) = MentionsSig (past ks i) s ⊎ MentionsAbs (past ks i) x

  pub MentionsAbs : ℕ → Abs → Type 0
  MentionsAbs i (Abs.Ex ks s) = MentionsSig (past ks i) s

  pub MentionsRow : ℕ → SigRow → Type 0
  MentionsRow i SigRow.End = ⊥
  MentionsRow i (SigRow.More l s rest) = MentionsSig i s ⊎ MentionsRow i rest

-- the normal form of the signature does not mention the variable
pub data Avoids (ctx : List Kind) (s : Sig) (i : ℕ) : Type 0 where
  by_normal_form : {n : Sig} → NormalSigForm ctx s n → (MentionsSig i n → ⊥) → Avoids ctx s i
