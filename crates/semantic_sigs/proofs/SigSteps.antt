-- What a change of variables does at each form of signature, with indexes counted as the code counts them.
-- Main results: name_follows-at, sig_row-changed.
use Rattle.std.proofs.Common.{◌≡◌, ℕ, zero, suc, ◌+◌, ◌<◌, ◌≤◌, List, [], ◌∷◌, length, get_or, take, map, refl, ap, ap₂, ◌∙◌, arith}
use Rattle.omega_kinds.specs.Kind.{Kind}
use Rattle.omega_kinds.specs.Name.{Name}
use Rattle.sig_definitions.specs.Signatures.Sig.{Sig, Abs, SigRow}
use Rattle.semantic_sigs.specs.Inner.Bound.{bound_sig, bound_abs, bound_sig_row}
use Rattle.omega_types.specs.Ty.{Ty}
use Rattle.semantic_sigs.specs.Inner.Changes.{Head, stands, tree, under_head, sunk, sinks, sig_in, abs_in, sig_row_in}
use Rattle.semantic_sigs.specs.Inner.Fields.{SigPairs, sig_row, Rises, MayFollow}
use Rattle.type_normal.proofs.HeadSteps.{Keeps, sunk-below, sunk-still, under-keeps, head-unchanged, sinks-sunk}

pub sinks-keeps : (ks : List Kind) (n : ℕ) (h : ℕ → Head) → Keeps n h → Keeps (length ks + n) (sinks ks h)
sinks-keeps [] n h k i lt = k i (omega arith)
sinks-keeps (j ∷ ks) n h k i lt = sinks-keeps ks (suc n) (under_head h) (under-keeps n h k) i (omega arith)

mutual
  pub sig-unchanged : (n : ℕ) (h : ℕ → Head) (s : Sig) → Keeps n h → bound_sig s ≤ n → sig_in h s ≡ s
  sig-unchanged n h (Sig.Val t) k le = ap (λ p. Sig.Val (tree p)) (head-unchanged n h t k le)
  sig-unchanged n h (Sig.Typ t j) k le = ap (λ p. Sig.Typ (tree p) j) (head-unchanged n h t k le)
  sig-unchanged n h (Sig.Meta x) k le = ap Sig.Meta (abs-unchanged n h x k le)
  sig-unchanged n h (Sig.Str fs) k le = ap Sig.Str (sig_row-unchanged n h fs k le)
  sig-unchanged n h (Sig.Fun e ks s x) k le = ap₂ (Sig.Fun e ks) (sig-unchanged (length ks + n) (sinks ks h) s (sinks-keeps ks n h k) (omega arith)) (abs-unchanged (length ks + n) (sinks ks h) x (sinks-keeps ks n h k) (omega arith))

  pub abs-unchanged : (n : ℕ) (h : ℕ → Head) (x : Abs) → Keeps n h → bound_abs x ≤ n → abs_in h x ≡ x
  abs-unchanged n h (Abs.Ex ks s) k le = ap (Abs.Ex ks) (sig-unchanged (length ks + n) (sinks ks h) s (sinks-keeps ks n h k) (omega arith))

  pub sig_row-unchanged : (n : ℕ) (h : ℕ → Head) (fs : SigRow) → Keeps n h → bound_sig_row fs ≤ n → sig_row_in h fs ≡ fs
  sig_row-unchanged n h SigRow.End k le = refl
  sig_row-unchanged n h (SigRow.More l s rest) k le = ap₂ (SigRow.More l) (sig-unchanged n h s k (omega arith)) (sig_row-unchanged n h rest k (omega arith))

pub sig-closed : (depth : ℕ) (h : ℕ → Head) (s : Sig) → bound_sig s ≤ depth → sig_in (sunk depth h) s ≡ s
sig-closed depth h s le = sig-unchanged depth (sunk depth h) s (sunk-below depth h) le

pub abs-closed : (depth : ℕ) (h : ℕ → Head) (x : Abs) → bound_abs x ≤ depth → abs_in (sunk depth h) x ≡ x
abs-closed depth h x le = abs-unchanged depth (sunk depth h) x (sunk-below depth h) le

-- below the binders of a list
pub sig-sinks : (ks : List Kind) (depth : ℕ) (h : ℕ → Head) (s : Sig) → sig_in (sinks ks (sunk depth h)) s ≡ sig_in (sunk (length ks + depth) h) s
sig-sinks ks depth h s = ap (λ g. sig_in g s) (sinks-sunk ks depth h)

pub abs-sinks : (ks : List Kind) (depth : ℕ) (h : ℕ → Head) (x : Abs) → abs_in (sinks ks (sunk depth h)) x ≡ abs_in (sunk (length ks + depth) h) x
abs-sinks ks depth h x = ap (λ g. abs_in g x) (sinks-sunk ks depth h)

-- fields with each part changed

-- a change of each field of a structure
abbrev pub map_sigs : (Sig → Sig) → SigPairs → SigPairs
map_sigs f = map (λ x. (x.0, f x.1))

-- the name of the next field may follow those of the fields changed so far
pub name_follows-at : (f : Sig → Sig) (xs : SigPairs) (i : ℕ) (d : Name × Sig) → i < length xs → Rises xs → MayFollow (map_sigs f (take i xs)) (get_or xs i d).0
name_follows-at f [] i d p r = absurd (omega arith)
name_follows-at f (x ∷ xs) zero d p r = tt
name_follows-at f (x ∷ []) (suc i) d p r = absurd (omega arith)
name_follows-at f (x ∷ y ∷ xs) (suc zero) d p r = r.0
name_follows-at f (x ∷ y ∷ xs) (suc (suc i)) d p r = name_follows-at f (y ∷ xs) (suc i) d (omega arith) r.1

-- the fields of a structure, changed one by one, are the changed row
pub sig_row-changed : (h : ℕ → Head) (xs : SigPairs) → sig_row (map_sigs (sig_in h) xs) ≡ sig_row_in h (sig_row xs)
sig_row-changed h [] = refl
sig_row-changed h (x ∷ xs) = ap (SigRow.More x.0 (sig_in h x.1)) (sig_row-changed h xs)

pub ruleset sig_steps = (sig-closed, abs-closed, sig-sinks, abs-sinks, sig_row-changed, name_follows-at)

-- where each variable stays, nothing changes

pub sig-still : (depth : ℕ) (h : ℕ → Head) (s : Sig) → ((i : ℕ) → h i ≡ stands (Ty.Var i)) → sig_in (sunk depth h) s ≡ s
sig-still depth h s all = sig-unchanged (bound_sig s) (sunk depth h) s (λ i _. sunk-still depth h all i) (omega arith)

pub abs-still : (depth : ℕ) (h : ℕ → Head) (x : Abs) → ((i : ℕ) → h i ≡ stands (Ty.Var i)) → abs_in (sunk depth h) x ≡ x
abs-still depth h x all = abs-unchanged (bound_abs x) (sunk depth h) x (λ i _. sunk-still depth h all i) (omega arith)

pub ruleset still_steps = (sig-still, abs-still)
