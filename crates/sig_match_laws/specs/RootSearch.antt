-- The search for the least root path of a hidden variable.
use Rattle.std.specs.Prelude.{ℕ, List, [], ◌∷◌, Option, Some, None}
use Rattle.omega_kinds.specs.Kind.{Kind, Kind-discrete}
use Rattle.omega_kinds.specs.declared.effect.Effect.TheVariants.{Pure}
use Rattle.omega_types.specs.Ty.{Ty}
use Rattle.omega_types.specs.Normaliser.{normal, kind_at}
use Rattle.omega_types.specs.Binders.{extend, past, own, applied, arrow_over}
use Rattle.sig_definitions.specs.Signatures.Sig.{Sig, Abs, SigRow}
use Rattle.sig_definitions.specs.Signatures.SigMentions.{MentionsSig}
use Rattle.sig_definitions.specs.Explicit.SigPath.{SigPath, Item}
use Rattle.sig_laws.specs.Decide.{dec_ty, dec_none, dec_mentions_sig}

-- what is left of an operator's kind after an argument for each binder
abbrev pub kind_left : List Kind → Kind → Kind
kind_left [] j = j
kind_left (k ∷ ks) (Kind.Arrow a b) = kind_left ks b
kind_left (k ∷ ks) Kind.Star = Kind.Star

abbrev pub after : Item → Option SigPath → Option SigPath
after a None = None
after a (Some p) = Some (a ∷ p)

abbrev pub or_else : Option SigPath → Option SigPath → Option SigPath
or_else None q = q
or_else (Some p) q = Some p

-- the path if both tests hold
abbrev pub where_both : {A B : Type 0} → Dec A → Dec B → Option SigPath → Option SigPath
where_both (yes a) (yes b) p = p
where_both (yes a) (no b) p = None
where_both (no a) b p = None

-- o is the variable applied to the variables of the functors so far, j its kind, c the context there; no parameter may
-- mention w x for an x up to v
abbrev mutual
  pub find_root : (c : List Kind) (o : Ty) (j : Kind) (v : ℕ) (w : ℕ → ℕ) → Sig → Option SigPath
  find_root c o j v w (Sig.Typ t k) = where_both (Kind-discrete k j) (dec_ty t (normal c o)) (Some [])
  find_root c o j v w (Sig.Str fs) = find_root_row c o j v w fs
  find_root c o j v w (Sig.Fun Pure ks s (Abs.Ex [] r)) =
      where_both (Kind-discrete j (arrow_over ks (kind_left ks j)))
      (dec_none v (λ x. MentionsSig (past ks (w x)) s) (λ x. dec_mentions_sig (past ks (w x)) s))
      (after Item.Res (find_root (extend c ks) (applied ks o) (kind_left ks j) v (λ x. past ks (w x)) r))
  find_root c o j v w _ = None

  pub find_root_row : (c : List Kind) (o : Ty) (j : Kind) (v : ℕ) (w : ℕ → ℕ) → SigRow → Option SigPath
  find_root_row c o j v w SigRow.End = None
  find_root_row c o j v w (SigRow.More l s rest) = or_else (after (Item.Part l) (find_root c o j v w s)) (find_root_row c o j v w rest)

-- the least root path of the variable of a number
abbrev pub least_root : (ctx ks : List Kind) (s : Sig) (number : ℕ) → Option SigPath
least_root ctx ks s number = find_root (extend ctx ks) (Ty.Var (own ks number)) (kind_at (extend ctx ks) (own ks number)) (own ks number) (λ x. x) s
