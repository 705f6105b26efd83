-- How large a signature is, each field counted too.
use Rattle.std.specs.Prelude.{ℕ, ◌+◌}
use Rattle.sig_definitions.specs.Signatures.Sig.{Sig, Abs, SigRow}
use Rattle.semantic_sigs.specs.Inner.Fields.{SigPairs, sig_row}

abbrev mutual
  pub sig_nodes : Sig → ℕ
  sig_nodes (Sig.Val t) = 1
  sig_nodes (Sig.Typ t k) = 1
  sig_nodes (Sig.Meta x) = abs_nodes x + 1
  sig_nodes (Sig.Str fs) = sig_row_nodes fs + 1
  sig_nodes (Sig.Fun e ks s x) = sig_nodes s + abs_nodes x + 1

  pub abs_nodes : Abs → ℕ
  abs_nodes (Abs.Ex ks s) = sig_nodes s + 1

  pub sig_row_nodes : SigRow → ℕ
  sig_row_nodes SigRow.End = 0
  sig_row_nodes (SigRow.More l s rest) = sig_nodes s + sig_row_nodes rest + 1

abbrev pub sig_pairs_nodes : SigPairs → ℕ
sig_pairs_nodes xs = sig_row_nodes (sig_row xs)
