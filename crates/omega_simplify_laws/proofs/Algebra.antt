-- Renaming and substitution keep likeness.
-- Main results: same_terms, first_like, two_like.
use Rattle.std.proofs.Common.{◌≡◌, ℕ, zero, suc, refl, ap, ◌∙◌, subst}
use Rattle.omega_kinds.specs.declared.label.Label.{Label}
use Rattle.omega_types.specs.Ty.{Ty, Row, lift}
use Rattle.omega_types.specs.Substitution.{rename_row, substitute_row, under}
use Rattle.omega_terms.specs.Term.{Term, TermRow}
use Rattle.omega_terms.specs.TermSubst.{ren_term, ren_fields, sub_term, sub_fields, up_term, under_type, same_index, first_term}
use Rattle.omega_terms.specs.Steps.{IsValue, AreValues, HasField}
use Rattle.omega_simplify_laws.proofs.Flat.{parts_of}
use Rattle.omega_simplify_laws.proofs.Likeness.{Like, AreLike, GivesBack}

-- ---- renaming

mutual
  ren_value : {v : Term} (q r : ℕ → ℕ) → IsValue v → IsValue (ren_term q r v)
  ren_value q r IsValue.int = IsValue.int
  ren_value q r IsValue.bool = IsValue.bool
  ren_value q r IsValue.text = IsValue.text
  ren_value q r IsValue.lam = IsValue.lam
  ren_value q r IsValue.ty_lam = IsValue.ty_lam
  ren_value q r IsValue.fix = IsValue.fix
  ren_value q r (IsValue.fields v) = IsValue.fields (ren_values q r v)
  ren_value q r (IsValue.pack v) = IsValue.pack (ren_value q r v)
  ren_value q r (IsValue.inj v) = IsValue.inj (ren_value q r v)
  ren_value q r (IsValue.roll v) = IsValue.roll (ren_value q r v)

  ren_values : {f : TermRow} (q r : ℕ → ℕ) → AreValues f → AreValues (ren_fields q r f)
  ren_values q r AreValues.end = AreValues.end
  ren_values q r (AreValues.more v w) = AreValues.more (ren_value q r v) (ren_values q r w)

ren_field : {f : TermRow} {l : Label} {e : Term} (q r : ℕ → ℕ) → HasField f l e → HasField (ren_fields q r f) l (ren_term q r e)
ren_field q r HasField.here = HasField.here
ren_field q r (HasField.there d x) = HasField.there d (ren_field q r x)

ren_parts : (q r : ℕ → ℕ) (e : Term) (row : Row) → ren_fields q r (parts_of e row) ≡ parts_of (ren_term q r e) (rename_row q row)
ren_parts q r e Row.End = refl
ren_parts q r e (Row.More l t row) = ap (TermRow.More l (Term.Get (ren_term q r e) l)) (ren_parts q r e row)

mutual
  pub ren_like : {n : ℕ} {e d : Term} (q r : ℕ → ℕ) → Like n e d → Like n (ren_term q r e) (ren_term q r d)
  ren_like q r Like.var = Like.var
  ren_like q r Like.int = Like.int
  ren_like q r Like.bool = Like.bool
  ren_like q r Like.text = Like.text
  ren_like q r (Like.lam p) = Like.lam (ren_like q (lift r) p)
  ren_like q r (Like.call p x l) = Like.call (ren_like q r p) (ren_like q r x) l
  ren_like q r (Like.ty_lam p) = Like.ty_lam (ren_like (lift q) r p)
  ren_like q r (Like.inst p) = Like.inst (ren_like q r p)
  ren_like q r (Like.fields p) = Like.fields (ren_are_like q r p)
  ren_like q r (Like.get p l) = Like.get (ren_like q r p) l
  ren_like q r (Like.pack p) = Like.pack (ren_like q r p)
  ren_like q r (Like.unpack p x) = Like.unpack (ren_like q r p) (ren_like (lift q) (lift r) x)
  ren_like q r (Like.if_ p x y) = Like.if_ (ren_like q r p) (ren_like q r x) (ren_like q r y)
  ren_like q r (Like.arith p x l) = Like.arith (ren_like q r p) (ren_like q r x) l
  ren_like q r (Like.fix p) = Like.fix (ren_like q (lift (lift r)) p)
  ren_like q r (Like.inj p) = Like.inj (ren_like q r p)
  ren_like q r (Like.case p x) = Like.case (ren_like q r p) (ren_are_like q (lift r) x)
  ren_like q r (Like.roll p) = Like.roll (ren_like q r p)
  ren_like q r (Like.unroll p) = Like.unroll (ren_like q r p)
  ren_like q r (Like.drop g p l) = Like.drop (ren_gives_back q r g) (ren_like q r p) l
  ren_like q r (Like.part p v x l) = Like.part (ren_like q r p) (ren_values q r v) (ren_field q r x) l

  pub ren_are_like : {n : ℕ} {f g : TermRow} (q r : ℕ → ℕ) → AreLike n f g → AreLike n (ren_fields q r f) (ren_fields q r g)
  ren_are_like q r AreLike.end = AreLike.end
  ren_are_like q r (AreLike.more p x l) = AreLike.more (ren_like q r p) (ren_are_like q r x) l

  pub ren_gives_back : {n : ℕ} {f : Term} (q r : ℕ → ℕ) → GivesBack n f → GivesBack n (ren_term q r f)
  ren_gives_back q r (GivesBack.whole p) = GivesBack.whole (ren_like q (lift r) p)
  ren_gives_back q r (GivesBack.parts {k = k} {r = row} {b = b} p) =
      GivesBack.parts (subst (λ x. Like k (ren_term q (lift r) b) (Term.Fields x)) (ren_parts q (lift r) (Term.Var zero) row) (ren_like q (lift r) p))
  ren_gives_back q r (GivesBack.chain g h l) = GivesBack.chain (ren_gives_back q r g) (ren_gives_back q r h) l

-- ---- substitution of terms that weigh nothing

mutual
  sub_value : {v : Term} (s : ℕ → Ty) (w : ℕ → Term) → IsValue v → IsValue (sub_term s w v)
  sub_value s w IsValue.int = IsValue.int
  sub_value s w IsValue.bool = IsValue.bool
  sub_value s w IsValue.text = IsValue.text
  sub_value s w IsValue.lam = IsValue.lam
  sub_value s w IsValue.ty_lam = IsValue.ty_lam
  sub_value s w IsValue.fix = IsValue.fix
  sub_value s w (IsValue.fields v) = IsValue.fields (sub_values s w v)
  sub_value s w (IsValue.pack v) = IsValue.pack (sub_value s w v)
  sub_value s w (IsValue.inj v) = IsValue.inj (sub_value s w v)
  sub_value s w (IsValue.roll v) = IsValue.roll (sub_value s w v)

  sub_values : {f : TermRow} (s : ℕ → Ty) (w : ℕ → Term) → AreValues f → AreValues (sub_fields s w f)
  sub_values s w AreValues.end = AreValues.end
  sub_values s w (AreValues.more v x) = AreValues.more (sub_value s w v) (sub_values s w x)

sub_field : {f : TermRow} {l : Label} {e : Term} (s : ℕ → Ty) (w : ℕ → Term) → HasField f l e → HasField (sub_fields s w f) l (sub_term s w e)
sub_field s w HasField.here = HasField.here
sub_field s w (HasField.there d x) = HasField.there d (sub_field s w x)

-- a substitution in the parts of a term is that in the term
pub sub_parts : (s : ℕ → Ty) (w : ℕ → Term) (e : Term) (row : Row) → sub_fields s w (parts_of e row) ≡ parts_of (sub_term s w e) row
sub_parts s w e Row.End = refl
sub_parts s w e (Row.More l t row) = ap (TermRow.More l (Term.Get (sub_term s w e) l)) (sub_parts s w e row)

parts_sub : (s : ℕ → Ty) (e : Term) (row : Row) → parts_of e row ≡ parts_of e (substitute_row s row)
parts_sub s e Row.End = refl
parts_sub s e (Row.More l t row) = ap (TermRow.More l (Term.Get e l)) (parts_sub s e row)

-- each term of the one is like that of the other, at no weight
abbrev pub LikeTerms : (ℕ → Term) → (ℕ → Term) → Type 0
LikeTerms w v = (i n : ℕ) → Like n (w i) (v i)

like_up : {w v : ℕ → Term} → LikeTerms w v → LikeTerms (up_term w) (up_term v)
like_up f zero n = Like.var
like_up f (suc i) n = ren_like same_index suc (f i n)

like_under : {w v : ℕ → Term} → LikeTerms w v → LikeTerms (under_type w) (under_type v)
like_under f i n = ren_like suc same_index (f i n)

-- the identity puts in like terms
pub same_terms : LikeTerms Term.Var Term.Var
same_terms i n = Like.var

-- terms that are alike, put in for the first variable, are like terms for all
pub first_like : {e d : Term} → ((n : ℕ) → Like n e d) → LikeTerms (first_term e Term.Var) (first_term d Term.Var)
first_like f zero n = f n
first_like f (suc i) n = Like.var

-- two pairs of like terms, put in for the first two variables, are like terms for all
pub two_like : {e d f g : Term} → ((n : ℕ) → Like n e d) → ((n : ℕ) → Like n f g) →
    LikeTerms (first_term e (first_term f Term.Var)) (first_term d (first_term g Term.Var))
two_like f g zero n = f n
two_like f g (suc i) n = first_like g i n

mutual
  -- substitutions of like terms keep likeness
  pub sub_like : {n : ℕ} {e d : Term} (s : ℕ → Ty) (w v : ℕ → Term) → LikeTerms w v → Like n e d → Like n (sub_term s w e) (sub_term s v d)
  sub_like {n} s w v f (Like.var {i = i}) = f i n
  sub_like s w v f Like.int = Like.int
  sub_like s w v f Like.bool = Like.bool
  sub_like s w v f Like.text = Like.text
  sub_like s w v f (Like.lam p) = Like.lam (sub_like s (up_term w) (up_term v) (like_up f) p)
  sub_like s w v f (Like.call p x l) = Like.call (sub_like s w v f p) (sub_like s w v f x) l
  sub_like s w v f (Like.ty_lam p) = Like.ty_lam (sub_like (under s) (under_type w) (under_type v) (like_under f) p)
  sub_like s w v f (Like.inst p) = Like.inst (sub_like s w v f p)
  sub_like s w v f (Like.fields p) = Like.fields (sub_are_like s w v f p)
  sub_like s w v f (Like.get p l) = Like.get (sub_like s w v f p) l
  sub_like s w v f (Like.pack p) = Like.pack (sub_like s w v f p)
  sub_like s w v f (Like.unpack p x) =
      Like.unpack (sub_like s w v f p) (sub_like (under s) (up_term (under_type w)) (up_term (under_type v)) (like_up (like_under f)) x)
  sub_like s w v f (Like.if_ p x y) = Like.if_ (sub_like s w v f p) (sub_like s w v f x) (sub_like s w v f y)
  sub_like s w v f (Like.arith p x l) = Like.arith (sub_like s w v f p) (sub_like s w v f x) l
  sub_like s w v f (Like.fix p) = Like.fix (sub_like s (up_term (up_term w)) (up_term (up_term v)) (like_up (like_up f)) p)
  sub_like s w v f (Like.inj p) = Like.inj (sub_like s w v f p)
  sub_like s w v f (Like.case p x) = Like.case (sub_like s w v f p) (sub_are_like s (up_term w) (up_term v) (like_up f) x)
  sub_like s w v f (Like.roll p) = Like.roll (sub_like s w v f p)
  sub_like s w v f (Like.unroll p) = Like.unroll (sub_like s w v f p)
  sub_like s w v f (Like.drop g p l) = Like.drop (sub_gives_back s w v f g) (sub_like s w v f p) l
  sub_like s w v f (Like.part p x y l) = Like.part (sub_like s w v f p) (sub_values s v x) (sub_field s v y) l

  pub sub_are_like : {n : ℕ} {e d : TermRow} (s : ℕ → Ty) (w v : ℕ → Term) → LikeTerms w v → AreLike n e d → AreLike n (sub_fields s w e) (sub_fields s v d)
  sub_are_like s w v f AreLike.end = AreLike.end
  sub_are_like s w v f (AreLike.more p x l) = AreLike.more (sub_like s w v f p) (sub_are_like s w v f x) l

  -- substitutions of like terms keep a function one that gives its argument back
  pub sub_gives_back : {n : ℕ} {e : Term} (s : ℕ → Ty) (w v : ℕ → Term) → LikeTerms w v → GivesBack n e → GivesBack n (sub_term s w e)
  sub_gives_back s w v f (GivesBack.whole p) = GivesBack.whole (sub_like s (up_term w) (up_term v) (like_up f) p)
  sub_gives_back s w v f (GivesBack.parts {k = k} {r = row} {b = b} p) =
      let is = sub_parts s (up_term v) (Term.Var zero) row ∙ parts_sub s (Term.Var zero) row in
      GivesBack.parts (subst (λ x. Like k (sub_term s (up_term w) b) (Term.Fields x)) is (sub_like s (up_term w) (up_term v) (like_up f) p))
  sub_gives_back s w v f (GivesBack.chain g h l) = GivesBack.chain (sub_gives_back s w v f g) (sub_gives_back s w v f h) l
