-- Terms that values are like.
-- Main results: field_value, field_like.
use Rattle.std.proofs.Common.{ℕ, arith}
use Rattle.omega_kinds.specs.declared.label.Label.{Label}
use Rattle.omega_terms.specs.Term.{Term, TermRow}
use Rattle.omega_terms.specs.Steps.{IsValue, AreValues, HasField}
use Rattle.omega_simplify_laws.proofs.Likeness.{Like, AreLike}

-- what a value is like is a value
mutual
  -- what a value is like is a value
  pub value_like : {n : ℕ} {v d : Term} → IsValue v → Like n v d → IsValue d
  value_like IsValue.int Like.int = IsValue.int
  value_like IsValue.bool Like.bool = IsValue.bool
  value_like IsValue.text Like.text = IsValue.text
  value_like IsValue.lam (Like.lam p) = IsValue.lam
  value_like IsValue.ty_lam (Like.ty_lam p) = IsValue.ty_lam
  value_like IsValue.fix (Like.fix p) = IsValue.fix
  value_like (IsValue.fields v) (Like.fields p) = IsValue.fields (values_like v p)
  value_like (IsValue.pack v) (Like.pack p) = IsValue.pack (value_like v p)
  value_like (IsValue.inj v) (Like.inj p) = IsValue.inj (value_like v p)
  value_like (IsValue.roll v) (Like.roll p) = IsValue.roll (value_like v p)

  -- what values are like are values
  pub values_like : {n : ℕ} {f g : TermRow} → AreValues f → AreLike n f g → AreValues g
  values_like AreValues.end AreLike.end = AreValues.end
  values_like (AreValues.more v w) (AreLike.more p q l) = AreValues.more (value_like v p) (values_like w q)

-- a value weighs nothing
mutual
  -- a value is like what it is like at any weight
  pub at_any : {n : ℕ} {v d : Term} (k : ℕ) → IsValue v → Like n v d → Like k v d
  at_any k IsValue.int Like.int = Like.int
  at_any k IsValue.bool Like.bool = Like.bool
  at_any k IsValue.text Like.text = Like.text
  at_any k IsValue.lam (Like.lam p) = Like.lam p
  at_any k IsValue.ty_lam (Like.ty_lam p) = Like.ty_lam p
  at_any k IsValue.fix (Like.fix p) = Like.fix p
  at_any k (IsValue.fields v) (Like.fields p) = Like.fields (all_at_any k v p)
  at_any k (IsValue.pack v) (Like.pack p) = Like.pack (at_any k v p)
  at_any k (IsValue.inj v) (Like.inj p) = Like.inj (at_any k v p)
  at_any k (IsValue.roll v) (Like.roll p) = Like.roll (at_any k v p)

  pub all_at_any : {n : ℕ} {f g : TermRow} (k : ℕ) → AreValues f → AreLike n f g → AreLike k f g
  all_at_any k AreValues.end AreLike.end = AreLike.end
  all_at_any k (AreValues.more v w) (AreLike.more p q l) = AreLike.more (at_any 0 v p) (all_at_any 0 w q) (omega arith)

-- the field of a label among values is a value
pub field_value : {f : TermRow} {l : Label} {e : Term} → AreValues f → HasField f l e → IsValue e
field_value AreValues.end x = elim x [ ]
field_value (AreValues.more v w) HasField.here = v
field_value (AreValues.more v w) (HasField.there d x) = field_value w x

-- the part that a record's part is like
pub record LikeField (g : TermRow) (l : Label) (e : Term) : Type 0 where
  pub term : Term
  pub weight : ℕ
  pub at : HasField g l term
  pub like : Like weight e term

-- the field of a label among fields is like that among fields which these are like
pub field_like : {n : ℕ} {f g : TermRow} {l : Label} {e : Term} → AreLike n f g → HasField f l e → LikeField g l e
field_like AreLike.end x = elim x [ ]
field_like (AreLike.more {i = i} {d = d} p q k) HasField.here = record { term = d; weight = i; at = HasField.here; like = p }
field_like (AreLike.more p q k) (HasField.there d x) =
    let r = field_like q x in
    record { term = r.term; weight = r.weight; at = HasField.there d r.at; like = r.like }
