-- The walk that finds the root paths of all hidden types at once, as it goes for each of them.
use Rattle.std.specs.Prelude.{ℕ, zero, suc, ◌+◌, List, [], ◌∷◌, ◌++◌, Bool, true, Option, Some, None, length, nat_lt, nat_eq, if◌then◌else◌}
use Rattle.omega_kinds.specs.declared.effect.Effect.TheVariants.{Pure}
use Rattle.sig_definitions.specs.Signatures.Sig.{Sig, Abs, SigRow}
use Rattle.sig_definitions.specs.Explicit.SigPath.{SigPath, Item}
use Rattle.sig_match_laws.specs.RootSearch.{after, or_else}
use Rattle.sig_roots.specs.Inner.Rooted.{rooted}
use Rattle.semantic_sigs.specs.Inner.Least.{least_sig}

-- `own` is the de Bruijn index of the hidden type's variable: that of the last hidden type is 0

-- whether no functor parameter mentions this type or a later one, the last one that one mentions being the bar
abbrev pub is_open : (own : ℕ) (bar : Option ℕ) → Bool
is_open own None = true
is_open own (Some bar) = nat_lt own bar

-- what is found for a type that is not barred
abbrev pub unless_barred : (bar : Option ℕ) (own : ℕ) → Option SigPath → Option SigPath
unless_barred bar own o = if is_open own bar then o else None

-- the path that ends here, where the type is this variable
abbrev pub ends : (found : Option ℕ) (own : ℕ) → Option SigPath
ends None own = None
ends (Some i) own = if nat_eq i own then Some [] else None

-- what is found for a variable below so many binders
abbrev mutual
  pub seek : (own depth : ℕ) → Sig → Option SigPath
  seek own depth (Sig.Typ t k) = ends (rooted depth t) own
  seek own depth (Sig.Str fs) = seek_row own depth fs
  seek own depth (Sig.Fun Pure ks s x) = unless_barred (least_sig (length ks + depth) s) own (after Item.Res (seek_abs own (length ks + depth) x))
  seek own depth s = None

  pub seek_abs : (own depth : ℕ) → Abs → Option SigPath
  seek_abs own depth (Abs.Ex ks s) = seek own depth s

  pub seek_row : (own depth : ℕ) → SigRow → Option SigPath
  seek_row own depth SigRow.End = None
  seek_row own depth (SigRow.More l s rest) = or_else (after (Item.Part l) (seek own depth s)) (seek_row own depth rest)

-- the whole of a path that goes on after some steps
abbrev pub behind : SigPath → Option SigPath → Option SigPath
behind steps None = None
behind steps (Some p) = Some (steps ++ p)

-- what was found before, and else what is found now
abbrev pub merged : (ℕ → Option SigPath) → List (Option SigPath) → List (Option SigPath)
merged now [] = []
merged now (o ∷ before) = or_else o (now zero) ∷ merged (λ own. now (suc own)) before
