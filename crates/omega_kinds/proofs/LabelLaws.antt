-- The order of labels is strict and total, and so is that of names.
-- Main results: label_total, label_exact, label_order.
use Rattle.std.specs.Prelude.{◌≡◌, ◌⊎◌, true}
use Rattle.std.proofs.Math.Logic.{inl, inr}
use Rattle.std.proofs.Math.Path.{refl, ap, sym, ◌∙◌}
use Rattle.std.proofs.lemmas.Bool.{false≢true}
use Rattle.std.proofs.lemmas.Cmp.{then_total, on_total, nat_cmp_total, nat_list_cmp_total, tied_itself}
use Rattle.std.proofs.lemmas.Map.Lookups.{CmpEqualImpliesEq, exact_bytes}
use Rattle.std.specs.Cmp.{IsTotalOrder}
use Rattle.std.specs.Ordering.{nat_cmp, is_eq, is_lt, ordering_then, ordering_reverse}
use Rattle.std.specs.declared.cmp.Ordering.{Ordering}
use Rattle.std.specs.declared.cmp.Ordering.TheVariants.{Less, Equal, Greater}
use Rattle.omega_kinds.specs.declared.label.Label.{Label}
use Rattle.omega_kinds.specs.declared.label.Label.TheVariants.{Val, Typ, Sig, App, Gen}
use Rattle.omega_kinds.specs.LabelOrder.{rank, spelling, name_cmp, label_cmp, LabelBefore, IsStrictTotalOrder}

-- the comparison of labels is a total order
pub label_total : IsTotalOrder label_cmp
label_total = then_total (on_total rank nat_cmp_total) (on_total spelling nat_list_cmp_total)

-- a comparison that passes the test for less is less
pub less_from_is_lt : (o : Ordering) → is_lt o ≡ true → o ≡ Less
less_from_is_lt Less e = refl
less_from_is_lt Equal e = absurd (false≢true e)
less_from_is_lt Greater e = absurd (false≢true e)

equal_from_then : (a b : Ordering) → ordering_then a b ≡ Equal → (a ≡ Equal) × (b ≡ Equal)
equal_from_then Less b e = absurd (cc)
equal_from_then Equal b e = (refl, e)
equal_from_then Greater b e = absurd (cc)

-- labels of one rank and one spelling are the same
by_rank : (l m : Label) → nat_cmp (rank l) (rank m) ≡ Equal → spelling l ≡ spelling m → l ≡ m
by_rank Val Val e f = refl
by_rank Typ Typ e f = refl
by_rank Sig Sig e f = refl
by_rank App App e f = refl
by_rank Gen Gen e f = refl
by_rank (Label.Name a) (Label.Name b) e f = ap Label.Name f
by_rank l m e f = absurd (cc)

-- labels that compare as equal are the same
pub label_exact : CmpEqualImpliesEq label_cmp
label_exact l m e = let both = equal_from_then (nat_cmp (rank l) (rank m)) (name_cmp (spelling l) (spelling m)) e in by_rank l m both.0 (exact_bytes (spelling l) (spelling m) both.1)

equal_from_is_eq : (o : Ordering) → is_eq o ≡ true → o ≡ Equal
equal_from_is_eq Less e = absurd (false≢true e)
equal_from_is_eq Equal e = refl
equal_from_is_eq Greater e = absurd (false≢true e)

-- labels that pass the test for equality are the same
pub label-yes : (l m : Label) → is_eq (label_cmp l m) ≡ true → l ≡ m
label-yes l m e = label_exact l m (equal_from_is_eq (label_cmp l m) e)

-- a label compares as equal to itself
pub label-self : (l : Label) → is_eq (label_cmp l l) ≡ true
label-self l = ap is_eq (tied_itself label_total l)

-- no label comes before itself
pub irreflexive : (l : Label) → LabelBefore l l → ⊥
irreflexive l h = absurd (false≢true (sym (ap is_lt (tied_itself label_total l)) ∙ h))

-- a label before one that comes before a third comes before the third
pub transitive : (l m n : Label) → LabelBefore l m → LabelBefore m n → LabelBefore l n
transitive l m n h k = ap is_lt (label_total.trans l m n (less_from_is_lt (label_cmp l m) h) (less_from_is_lt (label_cmp m n) k))

-- two labels are the same, or one comes before the other
pub total_order : (l m : Label) → (l ≡ m) ⊎ (LabelBefore l m ⊎ LabelBefore m l)
total_order l m = by (label_cmp l m) refl
  where
    by : (o : Ordering) → label_cmp l m ≡ o → (l ≡ m) ⊎ (LabelBefore l m ⊎ LabelBefore m l)
    by Less e = inr (inl (ap is_lt e))
    by Equal e = inl (label_exact l m e)
    by Greater e = inr (inr (ap is_lt (label_total.antisymm m l ∙ ap ordering_reverse e)))

-- the order of labels is strict and total
pub label_order : IsStrictTotalOrder
label_order = record { irreflexive = irreflexive; transitive = transitive; total = total_order }
