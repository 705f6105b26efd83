-- The first variable on the way through a signature that can be taken, in the order of paths.
use Rattle.std.specs.Prelude.{ℕ, zero, suc, ◌+◌, List, [], ◌∷◌, Bool, true, false, ◌||◌, Option, Some, None, length, if◌then◌else◌}
use Rattle.omega_kinds.specs.declared.effect.Effect.TheVariants.{Pure}
use Rattle.omega_types.specs.Ty.{Ty}
use Rattle.sig_definitions.specs.Signatures.Sig.{Sig, Abs, SigRow}
use Rattle.sig_laws.specs.Decide.{decided, dec_mentions_sig}
use Rattle.sig_roots.specs.Inner.Rooted.{rooted}

-- the new index of each variable, the innermost first; none where the variable is not taken yet
abbrev pub Places : Type 0
Places = List (Option ℕ)

abbrev pub is_untaken : Places → ℕ → Bool
is_untaken [] i = false
is_untaken (None ∷ ps) zero = true
is_untaken (Some j ∷ ps) zero = false
is_untaken (o ∷ ps) (suc i) = is_untaken ps i

-- whether a signature mentions the variable of this index, which is not taken yet
abbrev pub blocks : Option ℕ → (index : ℕ) → Sig → Bool
blocks None i s = decided (dec_mentions_sig i s)
blocks (Some j) i s = false

-- whether it mentions any that is not taken yet, the innermost one having this index there
abbrev pub barred : Places → (index : ℕ) → Sig → Bool
barred [] i s = false
barred (o ∷ ps) i s = blocks o i s || barred ps (suc i) s

abbrev pub if_untaken : Places → Option ℕ → Option ℕ
if_untaken ps None = None
if_untaken ps (Some i) = if is_untaken ps i then Some i else None

abbrev pub first_type : Places → (depth : ℕ) → Ty → Option ℕ
first_type ps depth t = if_untaken ps (rooted depth t)

abbrev pub or_first : Option ℕ → Option ℕ → Option ℕ
or_first None b = b
or_first (Some i) b = Some i

-- below so many variables of functors
abbrev mutual
  pub first : Places → (depth : ℕ) → Sig → Option ℕ
  first ps depth (Sig.Typ t k) = first_type ps depth t
  first ps depth (Sig.Str fs) = first_row ps depth fs
  first ps depth (Sig.Fun Pure ks s x) = if barred ps (length ks + depth) s then None else first_abs ps (length ks + depth) x
  first ps depth s = None

  pub first_abs : Places → (depth : ℕ) → Abs → Option ℕ
  first_abs ps depth (Abs.Ex ks s) = first ps depth s

  pub first_row : Places → (depth : ℕ) → SigRow → Option ℕ
  first_row ps depth SigRow.End = None
  first_row ps depth (SigRow.More l s rest) = or_first (first ps depth s) (first_row ps depth rest)
