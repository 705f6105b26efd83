-- Kinds and types are read as they are written.
-- Main results: kind-reads, ty-reads.
use Rattle.std.proofs.Common.{◌≡◌, ℕ, zero, suc, ◌+◌, ◌-◌, ◌^◌, ◌<◌, ◌≤◌, true, cond, List, ◌∷◌, ◌++◌, length, Option, Some, None, refl, sym, ap, ◌∙◌, subst, append_assoc, arith}
use Rattle.std.specs.Prelude.{codes, decimal, nat_lt}
use Rattle.std.proofs.lemmas.Bool.Decides.{nat_tests}
use Rattle.std.proofs.lemmas.List.{length-append}
use Rattle.omega_kinds.specs.Text.{◌then◌}
use Rattle.omega_kinds.specs.declared.label.Label.{Label}
use Rattle.omega_kinds.specs.Kind.{Kind, Star, Arrow as ArrowKind}
use Rattle.omega_types.specs.Ty.{Ty, Row, Var, Int, Bool as BoolTy, Text, Arrow, Fields, Sum, All, Ex, Mu, Lam, Apply, End, More}
use Rattle.omega_terms.specs.declared.version.Version.{Version}
use Rattle.omega_terms.specs.declared.version.Version.TheVariants.{First, Second}
use Rattle.omega_terms.specs.KindText.{kind_text, label_text}
use Rattle.omega_terms.specs.TypeText.{ty_text, row_text}
use Rattle.omega_spelling.specs.Spelled.{LabelSpelled, TySpelled, RowSpelled, kind_deep, deep, deep_row}
use Rattle.omega_spelling.specs.Reading.{Reader, strip, one, two, number_at, label_at, kind_at, var_at, leaf_at, follows, field_at, fields_at, row_at, second_node_at, later_node_at, node_at, ty_at}
use Rattle.omega_spelling.proofs.Steps.{bind_ok, step, constant, some_is, if_ok, Ends, Reads, one-again, one-takes, two-again, two-takes}
use Rattle.omega_spelling.proofs.Numbers.{number-reads, test-below}
use Rattle.omega_spelling.proofs.Labels.{label-reads}

-- a number below a bound passes the test
pub below-test : (a b : ℕ) → a < b → nat_lt a b ≡ true
below-test a b lt = grind (arith, nat_tests)

-- ---- kinds

-- a kind is not too deep for the reader
abbrev pub KindFits : ℕ → Kind → Type 0
KindFits d k = kind_deep k ≤ d

-- nothing is not a value
pub none-some : {A Goal : Type 0} (y : A) → (let n : Option A = None in n) ≡ Some y → Goal
none-some y e = absurd cc

-- a form of two parts, in its text and in the text that a reader sees
pub built-is : (p a b rest : List ℕ) → (p then a then codes " " then b then codes ")") ++ rest ≡ p ++ (a ++ (32 ∷ (b ++ (41 ∷ rest))))
unfolding ◌then◌
built-is p a b rest = simp append_assoc

-- the text of two parts in parentheses, put together of what was read
pub built : (p a b rest bytes r : List ℕ) → bytes ≡ p ++ r → r ≡ a ++ (32 ∷ (b ++ (41 ∷ rest))) → bytes ≡ (p then a then codes " " then b then codes ")") ++ rest
built p a b rest bytes r e f = e ∙ ap (λ (w : List ℕ). p ++ w) f ∙ sym (built-is p a b rest)

kind-zero : Reads (kind_at 0) kind_text (KindFits 0)
unfolding kind_at strip
kind-zero = record {
  takes = λ bytes x rest e. constant kind_text (KindFits 0) Star (omega arith) bytes x rest None e (none-some (x, rest));
  again = kind-zero-again;
}
  where
    kind-zero-again : (x : Kind) (rest : List ℕ) → KindFits 0 x → Ends rest → kind_at 0 (kind_text x ++ rest) ≡ Some (x, rest)
    kind-zero-again Star rest ok ends = refl
    kind-zero-again (ArrowKind a b) rest ok ends = absurd (omega arith)

kind-step : (d : ℕ) → Reads (kind_at d) kind_text (KindFits d) → Reads (kind_at (suc d)) kind_text (KindFits (suc d))
unfolding kind_at strip
kind-step d reads = record {
  takes = λ bytes x rest e.
      constant kind_text (KindFits (suc d)) Star (omega arith) bytes x rest _ e (λ e1.
      step (codes "(> ") bytes (two ArrowKind (kind_at d) (kind_at d)) None (x, rest) e1
      (λ r parts is.
      let t = two-takes ArrowKind (kind_at d) (kind_at d) kind_text kind_text (KindFits d) (KindFits d) reads reads r x rest is in
      subst (λ (z : Kind). (bytes ≡ kind_text z ++ rest) × KindFits (suc d) z) (sym t.2) (built (codes "(> ") (kind_text t.0) (kind_text t.1) rest bytes r parts t.3, omega (arith, t.4, t.5)))
      (none-some (x, rest)));
  again = kind-again d reads;
}
  where
    kind-again : (d : ℕ) → Reads (kind_at d) kind_text (KindFits d) → (x : Kind) (rest : List ℕ) → KindFits (suc d) x → Ends rest → kind_at (suc d) (kind_text x ++ rest) ≡ Some (x, rest)
    kind-again d reads Star rest ok ends = refl
    kind-again d reads (ArrowKind a b) rest ok ends =
        subst (λ (w : List ℕ). kind_at (suc d) w ≡ Some (ArrowKind a b, rest)) (sym (built-is (codes "(> ") (kind_text a) (kind_text b) rest))
        (two-again ArrowKind (kind_at d) (kind_at d) kind_text kind_text (KindFits d) (KindFits d) reads reads a b rest (omega arith) (omega arith))

-- the reader of kinds takes just the texts of those that are not too deep for it
pub kind-reads : (d : ℕ) → Reads (kind_at d) kind_text (KindFits d)
kind-reads zero = kind-zero
kind-reads (suc d) = kind-step d (kind-reads d)

-- ---- fields, and variables

-- a field and those after it, regrouped as a reader takes them
pub field-is : (p a b c rest : List ℕ) → (p then a then codes " " then b then codes ")" then c) ++ rest ≡ p ++ (a ++ (32 ∷ (b ++ (41 ∷ (c ++ rest)))))
unfolding ◌then◌
field-is p a b c rest = simp append_assoc

-- one part in parentheses, regrouped as a reader takes it
pub closed-is : (p a rest : List ℕ) → (p then a then codes ")") ++ rest ≡ p ++ (a ++ (41 ∷ rest))
unfolding ◌then◌
closed-is p a rest = simp append_assoc

abbrev count : Row → ℕ
count End = 0
count (More l t r) = count r + 1

count-length : (n : ℕ) (r : Row) (rest : List ℕ) → count r < length (row_text n r ++ (41 ∷ rest))
count-length n End rest = omega arith
count-length n (More l t r) rest =
    let one = ap (λ (w : List ℕ). length w) (field-is (codes " (") (label_text l) (ty_text n t) (row_text n r) (41 ∷ rest)) in
    omega (arith, one, count-length n r rest, length-append (label_text l) (32 ∷ (ty_text n t ++ (41 ∷ (row_text n r ++ (41 ∷ rest))))), length-append (ty_text n t) (41 ∷ (row_text n r ++ (41 ∷ rest))))

var-again : (n i : ℕ) (rest : List ℕ) → i < n → n - (i + 1) < 2 ^ 64 → Ends rest → var_at n (decimal (n - (i + 1)) ++ rest) ≡ Some (Var i, rest)
unfolding var_at
var-again n i rest lt small ends =
    let k = n - (i + 1) in
    let back : n - (n - (i + 1) + 1) ≡ i = omega arith in
    rw (number-reads.again (n - (i + 1)) rest small ends, below-test (n - (i + 1)) n (omega arith)) (ap (λ (j : ℕ). Some (Var j, rest)) back)

-- ---- types that the first version does not have

later-is : (v : Version) (f : ℕ → Reader Ty) (n : ℕ) (bytes : List ℕ) (y : Ty × List ℕ) → later_node_at v f n bytes ≡ Some y → (v ≡ Second) × (second_node_at f n bytes ≡ Some y)
later-is First f n bytes y e = absurd cc
later-is Second f n bytes y e = (refl, e)

later-has : (v : Version) (f : ℕ → Reader Ty) (n : ℕ) (bytes : List ℕ) → v ≡ Second → later_node_at v f n bytes ≡ second_node_at f n bytes
later-has First f n bytes late = absurd cc
later-has Second f n bytes late = refl

-- ---- types of a version

module _ (v : Version) where
  -- a type has a spelling and is not too deep for the reader
  abbrev pub TyFits : ℕ → ℕ → Ty → Type 0
  TyFits d n t = TySpelled v n t × (deep t ≤ d)

  var-takes : (d n : ℕ) (bytes r : List ℕ) (x : Ty) (rest : List ℕ) → bytes ≡ codes "a" ++ r → var_at n r ≡ Some (x, rest) → (bytes ≡ ty_text n x ++ rest) × TyFits d n x
  unfolding var_at ◌then◌
  var-takes d n bytes r x rest parts e =
      let b = bind_ok (number_at r) (λ z. cond (nat_lt z.0 n) (Some (Var (n - (z.0 + 1)), z.1)) None) (x, rest) e in
      let k = b.0.0 in
      let t = if_ok (nat_lt k n) (Var (n - (k + 1)), b.0.1) (x, rest) b.2 in
      let below : k < n = test-below k n t.0 in
      let level : n - (n - (k + 1) + 1) ≡ k = omega arith in
      let m = number-reads.takes r k b.0.1 b.1 in
      let same : Var (n - (k + 1)) ≡ x = ap (λ (z : Ty × List ℕ). z.0) t.1 in
      let left : b.0.1 ≡ rest = ap (λ (z : Ty × List ℕ). z.1) t.1 in
      let text : r ≡ decimal (n - (n - (k + 1) + 1)) ++ rest = rw level (m.0 ∙ ap (λ (w : List ℕ). decimal k ++ w) left) in
      subst (λ (z : Ty). (bytes ≡ ty_text n z ++ rest) × TyFits d n z) same (parts ∙ ap (λ (w : List ℕ). 97 ∷ w) text, ((omega arith, rw level m.1), omega arith))

  leaf-takes : (d n : ℕ) (bytes : List ℕ) (x : Ty) (rest : List ℕ) → leaf_at n bytes ≡ Some (x, rest) → (bytes ≡ ty_text n x ++ rest) × TyFits d n x
  unfolding leaf_at
  leaf-takes d n bytes x rest e =
      step (codes "a") bytes (var_at n) _ (x, rest) e (λ r parts is. var-takes d n bytes r x rest parts is) (λ e1.
      constant (ty_text n) (TyFits d n) Int (tt, omega arith) bytes x rest _ e1 (λ e2.
      constant (ty_text n) (TyFits d n) BoolTy (tt, omega arith) bytes x rest _ e2 (λ e3.
      constant (ty_text n) (TyFits d n) Text (tt, omega arith) bytes x rest None e3 (none-some (x, rest)))))

  abbrev RowFits : ℕ → ℕ → Option Label → Row → Type 0
  RowFits d n last r = RowSpelled v n last r × (deep_row r ≤ d)

  one-field : (d n : ℕ) → Reads (ty_at v d n) (ty_text n) (TyFits d n) → (l : Label) (t : Ty) (rest : List ℕ) → LabelSpelled l → TyFits d n t
      → field_at (ty_at v d n) (label_text l ++ (32 ∷ (ty_text n t ++ (41 ∷ rest)))) ≡ Some ((l, t), rest)
  unfolding field_at
  one-field d n reads l t rest okl okt =
      two-again (λ (l : Label) (t : Ty). (l, t)) label_at (ty_at v d n) label_text (ty_text n) LabelSpelled (TyFits d n) label-reads reads l t rest okl okt

  fields-again : (d n : ℕ) → Reads (ty_at v d n) (ty_text n) (TyFits d n) → (k : ℕ) (last : Option Label) (r : Row) (rest : List ℕ) → RowFits d n last r → count r < k
      → fields_at End More (ty_at v d n) k last (row_text n r ++ (41 ∷ rest)) ≡ Some (r, rest)
  unfolding fields_at strip
  fields-again d n reads zero last r rest ok lt = absurd (omega arith)
  fields-again d n reads (suc k) last End rest ok lt = refl
  fields-again d n reads (suc k) last (More l t r) rest ok lt =
      subst (λ (w : List ℕ). fields_at End More (ty_at v d n) (suc k) last w ≡ Some (More l t r, rest)) (sym (field-is (codes " (") (label_text l) (ty_text n t) (row_text n r) (41 ∷ rest)))
      (rw (one-field d n reads l t (row_text n r ++ (41 ∷ rest)) ok.0.1 (ok.0.2, omega (arith, ok.1)), fields-again d n reads k (Some l) r rest (ok.0.3, omega (arith, ok.1)) (omega arith), ok.0.0) refl)

  fields-takes : (d n : ℕ) → Reads (ty_at v d n) (ty_text n) (TyFits d n) → (k : ℕ) (last : Option Label) (bytes : List ℕ) (r : Row) (rest : List ℕ) → fields_at End More (ty_at v d n) k last bytes ≡ Some (r, rest)
      → (bytes ≡ row_text n r ++ (41 ∷ rest)) × RowFits d n last r
  unfolding fields_at field_at
  fields-takes d n reads zero last bytes r rest e = absurd cc
  fields-takes d n reads (suc k) last bytes r rest e =
      step (codes " (") bytes _ _ (r, rest) e
      (λ b parts is.
      let x = bind_ok (field_at (ty_at v d n) b) _ (r, rest) is in
      let y = bind_ok (fields_at End More (ty_at v d n) k (Some x.0.0.0) x.0.1) _ (r, rest) x.2 in
      let z = if_ok (follows last x.0.0.0) (More x.0.0.0 x.0.0.1 y.0.0, y.0.1) (r, rest) y.2 in
      let f = two-takes (λ (l : Label) (t : Ty). (l, t)) label_at (ty_at v d n) label_text (ty_text n) LabelSpelled (TyFits d n) label-reads reads b x.0.0 x.0.1 x.1 in
      let g = fields-takes d n reads k (Some x.0.0.0) x.0.1 y.0.0 y.0.1 y.1 in
      more d n last bytes b x.0.0.0 x.0.0.1 y.0.0 x.0.1 y.0.1 r rest parts f.0 f.1 f.2 f.3 f.4 f.5 g z.0 z.1)
      (λ e1. step (codes ")") bytes (λ w. Some (End, w)) None (r, rest) e1
      (λ w parts is. let q = some_is (End, w) (r, rest) is in done d n last bytes w r rest parts q)
      (none-some (r, rest)))
    where
      done : (d n : ℕ) (last : Option Label) (bytes w : List ℕ) (r : Row) (rest : List ℕ) → bytes ≡ codes ")" ++ w → (let z : Row × List ℕ = (End, w) in z) ≡ (r, rest) → (bytes ≡ row_text n r ++ (41 ∷ rest)) × RowFits d n last r
      done d n last bytes w r rest parts q =
          let same : End ≡ r = ap (λ (z : Row × List ℕ). z.0) q in
          let left : w ≡ rest = ap (λ (z : Row × List ℕ). z.1) q in
          subst (λ (z : Row). (bytes ≡ row_text n z ++ (41 ∷ rest)) × RowFits d n last z) same (parts ∙ ap (λ (w : List ℕ). 41 ∷ w) left, (tt, omega arith))

      more : (d n : ℕ) (last : Option Label) (bytes b : List ℕ) (l : Label) (t : Ty) (s : Row) (after end : List ℕ) (r : Row) (rest : List ℕ) → bytes ≡ codes " (" ++ b
          → (m : Label) (u : Ty) → (let z : Label × Ty = (l, t) in z) ≡ (m, u) → b ≡ label_text m ++ (32 ∷ (ty_text n u ++ (41 ∷ after))) → LabelSpelled m → TyFits d n u
          → (after ≡ row_text n s ++ (41 ∷ end)) × RowFits d n (Some l) s → follows last l ≡ true → (let z : Row × List ℕ = (More l t s, end) in z) ≡ (r, rest)
          → (bytes ≡ row_text n r ++ (41 ∷ rest)) × RowFits d n last r
      more d n last bytes b l t s after end r rest parts m u pair text okm oku g rises q =
          let ml : m ≡ l = ap (λ (z : Label × Ty). z.0) (sym pair) in
          let ut : u ≡ t = ap (λ (z : Label × Ty). z.1) (sym pair) in
          let same : More l t s ≡ r = ap (λ (z : Row × List ℕ). z.0) q in
          let left : end ≡ rest = ap (λ (z : Row × List ℕ). z.1) q in
          let okl : LabelSpelled l = subst (λ (z : Label). LabelSpelled z) ml okm in
          let okt : TyFits d n t = subst (λ (z : Ty). TyFits d n z) ut oku in
          let tail : after ≡ row_text n s ++ (41 ∷ rest) = g.0 ∙ ap (λ (w : List ℕ). row_text n s ++ (41 ∷ w)) left in
          let text2 : b ≡ label_text l ++ (32 ∷ (ty_text n t ++ (41 ∷ (row_text n s ++ (41 ∷ rest))))) =
          text ∙ ap (λ (z : Label). label_text z ++ (32 ∷ (ty_text n u ++ (41 ∷ after)))) ml ∙ ap (λ (z : Ty). label_text l ++ (32 ∷ (ty_text n z ++ (41 ∷ after)))) ut ∙ ap (λ (w : List ℕ). label_text l ++ (32 ∷ (ty_text n t ++ (41 ∷ w)))) tail in
          subst (λ (z : Row). (bytes ≡ row_text n z ++ (41 ∷ rest)) × RowFits d n last z) same
          (parts ∙ ap (λ (w : List ℕ). codes " (" ++ w) text2 ∙ sym (field-is (codes " (") (label_text l) (ty_text n t) (row_text n s) (41 ∷ rest)), ((rises, okl, okt.0, g.1.0), omega (arith, okt.1, g.1.1)))

  row-again : (mk : Row → Ty) (d n : ℕ) → Reads (ty_at v d n) (ty_text n) (TyFits d n) → (r : Row) (rest : List ℕ) → RowFits d n None r → row_at mk (ty_at v d n) (row_text n r ++ (41 ∷ rest)) ≡ Some (mk r, rest)
  unfolding row_at
  row-again mk d n reads r rest ok =
      rw (fields-again d n reads (length (row_text n r ++ (41 ∷ rest))) None r rest ok (count-length n r rest)) refl

  -- a form of fields
  row-takes : (mk : Row → Ty) (d n : ℕ) (front bytes r : List ℕ) (x : Ty) (rest : List ℕ)
      → ((fields : Row) → ty_text n (mk fields) ≡ (front then row_text n fields then codes ")"))
      → ((fields : Row) → RowFits d n None fields → TyFits (suc d) n (mk fields))
      → Reads (ty_at v d n) (ty_text n) (TyFits d n) → bytes ≡ front ++ r → row_at mk (ty_at v d n) r ≡ Some (x, rest) → (bytes ≡ ty_text n x ++ rest) × TyFits (suc d) n x
  unfolding row_at
  row-takes mk d n front bytes r x rest text fits reads parts e =
      let b = bind_ok (fields_at End More (ty_at v d n) (length r) None r) (λ z. Some (mk z.0, z.1)) (x, rest) e in
      let q = some_is (mk b.0.0, b.0.1) (x, rest) b.2 in
      let f = fields-takes d n reads (length r) None r b.0.0 b.0.1 b.1 in
      let same : mk b.0.0 ≡ x = ap (λ (z : Ty × List ℕ). z.0) q in
      let left : b.0.1 ≡ rest = ap (λ (z : Ty × List ℕ). z.1) q in
      let inside : r ≡ row_text n b.0.0 ++ (41 ∷ rest) = f.0 ∙ ap (λ (w : List ℕ). row_text n b.0.0 ++ (41 ∷ w)) left in
      subst (λ (z : Ty). (bytes ≡ ty_text n z ++ rest) × TyFits (suc d) n z) same
      (parts ∙ ap (λ (w : List ℕ). front ++ w) inside ∙ sym (closed-is front (row_text n b.0.0) rest) ∙ ap (λ (w : List ℕ). w ++ rest) (sym (text b.0.0)), fits b.0.0 f.1)

  abbrev AllReads : ℕ → Type 0
  AllReads d = (n : ℕ) → Reads (ty_at v d n) (ty_text n) (TyFits d n)

  -- a form of a kind and a body
  binder-takes : (mk : Kind → Ty → Ty) (d n m : ℕ) (front bytes r : List ℕ) (x : Ty) (rest : List ℕ)
      → ((k : Kind) (b : Ty) → ty_text n (mk k b) ≡ (front then kind_text k then codes " " then ty_text m b then codes ")"))
      → ((k : Kind) (b : Ty) → KindFits d k → TyFits d m b → TyFits (suc d) n (mk k b))
      → AllReads d → bytes ≡ front ++ r → two mk (kind_at d) (ty_at v d m) r ≡ Some (x, rest) → (bytes ≡ ty_text n x ++ rest) × TyFits (suc d) n x
  binder-takes mk d n m front bytes r x rest text fits reads parts e =
      let t = two-takes mk (kind_at d) (ty_at v d m) kind_text (ty_text m) (KindFits d) (TyFits d m) (kind-reads d) (reads m) r x rest e in
      let k = t.0 in
      let b = t.1 in
      subst (λ (z : Ty). (bytes ≡ ty_text n z ++ rest) × TyFits (suc d) n z) (sym t.2)
      (built front (kind_text k) (ty_text m b) rest bytes r parts t.3 ∙ ap (λ (w : List ℕ). w ++ rest) (sym (text k b)), fits k b t.4 t.5)

  -- a form of two types
  pair-takes : (mk : Ty → Ty → Ty) (d n : ℕ) (front bytes r : List ℕ) (x : Ty) (rest : List ℕ)
      → ((a b : Ty) → ty_text n (mk a b) ≡ (front then ty_text n a then codes " " then ty_text n b then codes ")"))
      → ((a b : Ty) → TyFits d n a → TyFits d n b → TyFits (suc d) n (mk a b))
      → AllReads d → bytes ≡ front ++ r → two mk (ty_at v d n) (ty_at v d n) r ≡ Some (x, rest) → (bytes ≡ ty_text n x ++ rest) × TyFits (suc d) n x
  pair-takes mk d n front bytes r x rest text fits reads parts e =
      let t = two-takes mk (ty_at v d n) (ty_at v d n) (ty_text n) (ty_text n) (TyFits d n) (TyFits d n) (reads n) (reads n) r x rest e in
      subst (λ (z : Ty). (bytes ≡ ty_text n z ++ rest) × TyFits (suc d) n z) (sym t.2)
      (built front (ty_text n t.0) (ty_text n t.1) rest bytes r parts t.3 ∙ ap (λ (w : List ℕ). w ++ rest) (sym (text t.0 t.1)), fits t.0 t.1 t.4 t.5)

  -- a recursive type
  mu-takes : (d n : ℕ) (bytes r : List ℕ) (x : Ty) (rest : List ℕ) → AllReads d → v ≡ Second → bytes ≡ codes "(mu " ++ r → one Mu (ty_at v d (n + 1)) r ≡ Some (x, rest)
      → (bytes ≡ ty_text n x ++ rest) × TyFits (suc d) n x
  mu-takes d n bytes r x rest reads late parts e =
      let t = one-takes Mu (ty_at v d (n + 1)) (ty_text (n + 1)) (TyFits d (n + 1)) (reads (n + 1)) r x rest e in
      subst (λ (z : Ty). (bytes ≡ ty_text n z ++ rest) × TyFits (suc d) n z) (sym t.1)
      (parts ∙ ap (λ (w : List ℕ). codes "(mu " ++ w) t.2 ∙ sym (closed-is (codes "(mu ") (ty_text (n + 1) t.0) rest), ((late, t.3.0), omega (arith, t.3.1)))

  second-takes : (d n : ℕ) → AllReads d → (bytes r0 : List ℕ) (x : Ty) (rest : List ℕ) → bytes ≡ codes "(" ++ r0 → v ≡ Second → second_node_at (ty_at v d) n r0 ≡ Some (x, rest)
      → (bytes ≡ ty_text n x ++ rest) × TyFits (suc d) n x
  unfolding second_node_at
  second-takes d n reads bytes r0 x rest opened late e =
      step (codes "sum") r0 _ _ (x, rest) e (λ r p is. row-takes Sum d n (codes "(sum") bytes r x rest (λ f. refl) (λ f g. ((late, g.0), omega (arith, g.1))) (reads n) (opened ∙ ap (λ (w : List ℕ). 40 ∷ w) p) is) (λ e1.
      step (codes "mu ") r0 _ None (x, rest) e1 (λ r p is. mu-takes d n bytes r x rest reads late (opened ∙ ap (λ (w : List ℕ). 40 ∷ w) p) is)
      (none-some (x, rest)))

  node-takes : (d n : ℕ) → AllReads d → (bytes r0 : List ℕ) (x : Ty) (rest : List ℕ) → bytes ≡ codes "(" ++ r0 → node_at v (kind_at d) (ty_at v d) n r0 ≡ Some (x, rest)
      → (bytes ≡ ty_text n x ++ rest) × TyFits (suc d) n x
  unfolding node_at
  node-takes d n reads bytes r0 x rest opened e =
      step (codes "-> ") r0 _ _ (x, rest) e (λ r p is. pair-takes Arrow d n (codes "(-> ") bytes r x rest (λ a b. refl) (λ a b f g. ((f.0, g.0), omega (arith, f.1, g.1))) reads (opened ∙ ap (λ (w : List ℕ). 40 ∷ w) p) is) (λ e1.
      step (codes "rec") r0 _ _ (x, rest) e1 (λ r p is. row-takes Fields d n (codes "(rec") bytes r x rest (λ f. refl) (λ f g. (g.0, omega (arith, g.1))) (reads n) (opened ∙ ap (λ (w : List ℕ). 40 ∷ w) p) is) (λ e2.
      step (codes "all ") r0 _ _ (x, rest) e2 (λ r p is. binder-takes All d n (n + 1) (codes "(all ") bytes r x rest (λ k b. refl) (λ k b f g. (g.0, omega (arith, f, g.1))) reads (opened ∙ ap (λ (w : List ℕ). 40 ∷ w) p) is) (λ e3.
      step (codes "some ") r0 _ _ (x, rest) e3 (λ r p is. binder-takes Ex d n (n + 1) (codes "(some ") bytes r x rest (λ k b. refl) (λ k b f g. (g.0, omega (arith, f, g.1))) reads (opened ∙ ap (λ (w : List ℕ). 40 ∷ w) p) is) (λ e4.
      step (codes "lam ") r0 _ _ (x, rest) e4 (λ r p is. binder-takes Lam d n (n + 1) (codes "(lam ") bytes r x rest (λ k b. refl) (λ k b f g. (g.0, omega (arith, f, g.1))) reads (opened ∙ ap (λ (w : List ℕ). 40 ∷ w) p) is) (λ e5.
      step (codes "@ ") r0 _ _ (x, rest) e5 (λ r p is. pair-takes Apply d n (codes "(@ ") bytes r x rest (λ a b. refl) (λ a b f g. ((f.0, g.0), omega (arith, f.1, g.1))) reads (opened ∙ ap (λ (w : List ℕ). 40 ∷ w) p) is)
      (λ e6. let later = later-is v (ty_at v d) n r0 (x, rest) e6 in second-takes d n reads bytes r0 x rest opened later.0 later.1))))))

  ty-again : (d n : ℕ) → AllReads d → (x : Ty) (rest : List ℕ) → TyFits (suc d) n x → Ends rest → ty_at v (suc d) n (ty_text n x ++ rest) ≡ Some (x, rest)
  unfolding ty_at node_at second_node_at leaf_at strip ◌then◌
  ty-again d n reads (Var i) rest ok ends = var-again n i rest ok.0.0 ok.0.1 ends
  ty-again d n reads Int rest ok ends = refl
  ty-again d n reads BoolTy rest ok ends = refl
  ty-again d n reads Text rest ok ends = refl
  ty-again d n reads (Arrow a b) rest ok ends =
      subst (λ (w : List ℕ). ty_at v (suc d) n w ≡ Some (Arrow a b, rest)) (sym (built-is (codes "(-> ") (ty_text n a) (ty_text n b) rest))
      (two-again Arrow (ty_at v d n) (ty_at v d n) (ty_text n) (ty_text n) (TyFits d n) (TyFits d n) (reads n) (reads n) a b rest (ok.0.0, omega (arith, ok.1)) (ok.0.1, omega (arith, ok.1)))
  ty-again d n reads (Fields r) rest ok ends =
      subst (λ (w : List ℕ). ty_at v (suc d) n w ≡ Some (Fields r, rest)) (sym (closed-is (codes "(rec") (row_text n r) rest))
      (row-again Fields d n (reads n) r rest (ok.0, omega (arith, ok.1)))
  ty-again d n reads (Sum r) rest ok ends =
      subst (λ (w : List ℕ). ty_at v (suc d) n w ≡ Some (Sum r, rest)) (sym (closed-is (codes "(sum") (row_text n r) rest))
      (later-has v (ty_at v d) n (codes "sum" ++ (row_text n r ++ (41 ∷ rest))) ok.0.0 ∙ row-again Sum d n (reads n) r rest (ok.0.1, omega (arith, ok.1)))
  ty-again d n reads (Mu b) rest ok ends =
      subst (λ (w : List ℕ). ty_at v (suc d) n w ≡ Some (Mu b, rest)) (sym (closed-is (codes "(mu ") (ty_text (n + 1) b) rest))
      (later-has v (ty_at v d) n (codes "mu " ++ (ty_text (n + 1) b ++ (41 ∷ rest))) ok.0.0
      ∙ one-again Mu (ty_at v d (n + 1)) (ty_text (n + 1)) (TyFits d (n + 1)) (reads (n + 1)) b rest (ok.0.1, omega (arith, ok.1)))
  ty-again d n reads (All k b) rest ok ends =
      subst (λ (w : List ℕ). ty_at v (suc d) n w ≡ Some (All k b, rest)) (sym (built-is (codes "(all ") (kind_text k) (ty_text (n + 1) b) rest))
      (two-again All (kind_at d) (ty_at v d (n + 1)) kind_text (ty_text (n + 1)) (KindFits d) (TyFits d (n + 1)) (kind-reads d) (reads (n + 1)) k b rest (omega (arith, ok.1)) (ok.0, omega (arith, ok.1)))
  ty-again d n reads (Ex k b) rest ok ends =
      subst (λ (w : List ℕ). ty_at v (suc d) n w ≡ Some (Ex k b, rest)) (sym (built-is (codes "(some ") (kind_text k) (ty_text (n + 1) b) rest))
      (two-again Ex (kind_at d) (ty_at v d (n + 1)) kind_text (ty_text (n + 1)) (KindFits d) (TyFits d (n + 1)) (kind-reads d) (reads (n + 1)) k b rest (omega (arith, ok.1)) (ok.0, omega (arith, ok.1)))
  ty-again d n reads (Lam k b) rest ok ends =
      subst (λ (w : List ℕ). ty_at v (suc d) n w ≡ Some (Lam k b, rest)) (sym (built-is (codes "(lam ") (kind_text k) (ty_text (n + 1) b) rest))
      (two-again Lam (kind_at d) (ty_at v d (n + 1)) kind_text (ty_text (n + 1)) (KindFits d) (TyFits d (n + 1)) (kind-reads d) (reads (n + 1)) k b rest (omega (arith, ok.1)) (ok.0, omega (arith, ok.1)))
  ty-again d n reads (Apply a b) rest ok ends =
      subst (λ (w : List ℕ). ty_at v (suc d) n w ≡ Some (Apply a b, rest)) (sym (built-is (codes "(@ ") (ty_text n a) (ty_text n b) rest))
      (two-again Apply (ty_at v d n) (ty_at v d n) (ty_text n) (ty_text n) (TyFits d n) (TyFits d n) (reads n) (reads n) a b rest (ok.0.0, omega (arith, ok.1)) (ok.0.1, omega (arith, ok.1)))

  ty-takes : (d n : ℕ) → AllReads d → (bytes : List ℕ) (x : Ty) (rest : List ℕ) → ty_at v (suc d) n bytes ≡ Some (x, rest) → (bytes ≡ ty_text n x ++ rest) × TyFits (suc d) n x
  unfolding ty_at
  ty-takes d n reads bytes x rest e =
      step (codes "(") bytes (node_at v (kind_at d) (ty_at v d) n) (leaf_at n bytes) (x, rest) e
      (λ r p is. node-takes d n reads bytes r x rest p is)
      (λ e1. leaf-takes (suc d) n bytes x rest e1)

  leaf-again : (n : ℕ) (x : Ty) (rest : List ℕ) → TyFits 0 n x → Ends rest → ty_at v 0 n (ty_text n x ++ rest) ≡ Some (x, rest)
  unfolding ty_at leaf_at strip ◌then◌
  leaf-again n (Var i) rest ok ends = var-again n i rest ok.0.0 ok.0.1 ends
  leaf-again n Int rest ok ends = refl
  leaf-again n BoolTy rest ok ends = refl
  leaf-again n Text rest ok ends = refl
  leaf-again n (Arrow a b) rest ok ends = absurd (omega (arith, ok.1))
  leaf-again n (Fields r) rest ok ends = absurd (omega (arith, ok.1))
  leaf-again n (Sum r) rest ok ends = absurd (omega (arith, ok.1))
  leaf-again n (Mu b) rest ok ends = absurd (omega (arith, ok.1))
  leaf-again n (All k b) rest ok ends = absurd (omega (arith, ok.1))
  leaf-again n (Ex k b) rest ok ends = absurd (omega (arith, ok.1))
  leaf-again n (Lam k b) rest ok ends = absurd (omega (arith, ok.1))
  leaf-again n (Apply a b) rest ok ends = absurd (omega (arith, ok.1))

  leaf-only : (n : ℕ) (bytes : List ℕ) (x : Ty) (rest : List ℕ) → ty_at v 0 n bytes ≡ Some (x, rest) → (bytes ≡ ty_text n x ++ rest) × TyFits 0 n x
  unfolding ty_at
  leaf-only n bytes x rest e = leaf-takes 0 n bytes x rest e

  -- the reader of types takes just the texts of spelled types that are not too deep for it
  pub ty-reads : (d n : ℕ) → Reads (ty_at v d n) (ty_text n) (λ t. TySpelled v n t × (deep t ≤ d))
  ty-reads zero n = record { takes = leaf-only n; again = leaf-again n }
  ty-reads (suc d) n = record { takes = ty-takes d n (ty-reads d); again = ty-again d n (ty-reads d) }
