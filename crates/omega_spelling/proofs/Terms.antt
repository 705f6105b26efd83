-- Terms are read as they are written.
-- Main results: term-reads.
use Rattle.std.proofs.Common.{◌≡◌, ℕ, zero, suc, ◌+◌, ◌-◌, ◌^◌, ◌<◌, ◌≤◌, Bool as Truth, true, false, cond, List, [], ◌∷◌, ◌++◌, length, Option, Some, None, refl, sym, ap, ◌∙◌, subst, append_assoc, arith, inl, inr}
use Rattle.std.specs.Prelude.{◌⊎◌, codes, decimal, flat_map, nat_lt, ◌==◌, ℤ, pos, negsuc}
use Rattle.std.specs.Fmt.{signed_decimal}
use Rattle.std.specs.Char.{is_ascii_digit}
use Rattle.std.proofs.lemmas.List.{length-append}
use Rattle.std.proofs.lemmas.Fmt.{digits_decimal, decimal_nonempty}
use Rattle.omega_kinds.specs.Text.{◌then◌}
use Rattle.omega_kinds.specs.declared.label.Label.{Label}
use Rattle.omega_types.specs.Ty.{Ty}
use Rattle.omega_terms.specs.KindText.{kind_text, label_text}
use Rattle.omega_terms.specs.TypeText.{ty_text}
use Rattle.omega_terms.specs.TermText.{byte_text, term_text, term_row_text, op_front}
use Rattle.omega_spelling.specs.Spelled.{LabelSpelled}
use Rattle.omega_terms.specs.declared.version.Version.{Version}
use Rattle.omega_terms.specs.declared.version.Version.TheVariants.{First, Second}
use Rattle.omega_terms.specs.declared.op.Op.{Op}
use Rattle.omega_terms.specs.declared.op.Op.TheVariants.{Add, Sub, Mul, Div, Rem, Less, Equal}
use Rattle.omega_terms.specs.Term.{Term, TermRow, Var, Int, Bool, Text, Lam, Call, TyLam, Inst, Fields, Get, Pack, Unpack, If, Arith, Fix, Inj, Case, Roll, Unroll, End, More}
use Rattle.omega_spelling.specs.Reading.{Reader, strip, one, two, number_at, label_at, kind_at, ty_at, follows, field_at, fields_at}
use Rattle.omega_spelling.specs.TermReading.{signed_at, chars_at, three, term_var_at, int_at, text_at, term_leaf_at, term_record_at, op_at, arith_at, case_at, second_term_node_at, later_term_node_at, term_node_at, term_at, TermSpelled, TermRowSpelled, term_deep, term_deep_row, SignedFits, all_spelled}
use Rattle.omega_spelling.proofs.Steps.{bind_ok, step, constant, some_is, if_ok, strip-is, Ends, Reads, one-again, one-takes, two-again, two-takes}
use Rattle.omega_spelling.proofs.Numbers.{own, number-reads, test-below}
use Rattle.omega_spelling.proofs.Labels.{label-reads}
use Rattle.omega_spelling.proofs.Types.{below-test, none-some, built-is, built, field-is, closed-is, KindFits, kind-reads, TyFits, ty-reads}
use Rattle.omega_spelling.proofs.Quoted.{no-front, signed-reads, chars-again, chars-takes}

-- ---- three parts

-- three parts in parentheses, regrouped as a reader takes them
pub three-is : (p a b c rest : List ℕ) → (p then a then codes " " then b then codes " " then c then codes ")") ++ rest ≡ p ++ (a ++ (32 ∷ (b ++ (32 ∷ (c ++ (41 ∷ rest))))))
unfolding ◌then◌
three-is p a b c rest = simp append_assoc

three-again : {A B C D : Type 0} (mk : A → B → C → D) (f : Reader A) (g : Reader B) (h : Reader C) (ta : A → List ℕ) (tb : B → List ℕ) (tc : C → List ℕ) (Pa : A → Type 0) (Pb : B → Type 0) (Pc : C → Type 0)
    → Reads f ta Pa → Reads g tb Pb → Reads h tc Pc → (x : A) (y : B) (z : C) (rest : List ℕ) → Pa x → Pb y → Pc z
    → three mk f g h (ta x ++ (32 ∷ (tb y ++ (32 ∷ (tc z ++ (41 ∷ rest)))))) ≡ Some (mk x y z, rest)
unfolding three strip
three-again mk f g h ta tb tc Pa Pb Pc rf rg rh x y z rest p q r =
    rw (rf.again x (32 ∷ (tb y ++ (32 ∷ (tc z ++ (41 ∷ rest))))) p refl) (two-again (mk x) g h tb tc Pb Pc rg rh y z rest q r)

three-takes : {A B C D : Type 0} (mk : A → B → C → D) (f : Reader A) (g : Reader B) (h : Reader C) (ta : A → List ℕ) (tb : B → List ℕ) (tc : C → List ℕ) (Pa : A → Type 0) (Pb : B → Type 0) (Pc : C → Type 0)
    → Reads f ta Pa → Reads g tb Pb → Reads h tc Pc → (bytes : List ℕ) (w : D) (rest : List ℕ) → three mk f g h bytes ≡ Some (w, rest)
    → (x : A) × (y : B) × (z : C) × (w ≡ mk x y z) × (bytes ≡ ta x ++ (32 ∷ (tb y ++ (32 ∷ (tc z ++ (41 ∷ rest)))))) × Pa x × Pb y × Pc z
unfolding three
three-takes mk f g h ta tb tc Pa Pb Pc rf rg rh bytes w rest e =
    let b1 = bind_ok (f bytes) _ (w, rest) e in
    let b2 = bind_ok (strip (32 ∷ []) b1.0.1) _ (w, rest) b1.2 in
    let t = two-takes (mk b1.0.0) g h tb tc Pb Pc rg rh b2.0 w rest b2.2 in
    let fx = rf.takes bytes b1.0.0 b1.0.1 b1.1 in
    let s1 = strip-is (32 ∷ []) b1.0.1 b2.0 b2.1 in
    let middle : b1.0.1 ≡ 32 ∷ (tb t.0 ++ (32 ∷ (tc t.1 ++ (41 ∷ rest)))) = s1 ∙ ap (λ (v : List ℕ). 32 ∷ v) t.3 in
    (b1.0.0, t.0, t.1, t.2, fx.0 ∙ ap (λ (v : List ℕ). ta b1.0.0 ++ v) middle, fx.1, t.4, t.5)

-- ---- two parts and branches

-- a case with its branches, regrouped as a reader takes it
pub case-is : (p a b c rest : List ℕ) → (p then a then codes " " then b then c then codes ")") ++ rest ≡ p ++ (a ++ (32 ∷ (b ++ (c ++ (41 ∷ rest)))))
unfolding ◌then◌
case-is p a b c rest = simp append_assoc

-- a name or number ends before branches
row-ends : (n m : ℕ) (r : TermRow) (rest : List ℕ) → Ends (term_row_text n m r ++ (41 ∷ rest))
unfolding ◌then◌
row-ends n m End rest = refl
row-ends n m (More l t r) rest = refl

-- ---- leaves and fields

-- quoted bytes, regrouped as a reader takes them
pub quoted-is : (bytes rest : List ℕ) → (codes "\"" then flat_map byte_text bytes then codes "\"") ++ rest ≡ 34 ∷ (flat_map byte_text bytes ++ (34 ∷ rest))
unfolding ◌then◌
quoted-is bytes rest = simp append_assoc

term-var-again : (m i : ℕ) (rest : List ℕ) → i < m → m - (i + 1) < 2 ^ 64 → Ends rest → term_var_at m (decimal (m - (i + 1)) ++ rest) ≡ Some (Var i, rest)
unfolding term_var_at
term-var-again m i rest lt small ends =
    let back : m - (m - (i + 1) + 1) ≡ i = omega arith in
    rw (number-reads.again (m - (i + 1)) rest small ends, below-test (m - (i + 1)) m (omega arith)) (ap (λ (j : ℕ). Some (Var j, rest)) back)

int-front : (z : ℤ) (c : ℕ) (cs rest : List ℕ) → is_ascii_digit c ≡ false → (45 == c) ≡ false → SignedFits z → strip (c ∷ cs) (signed_decimal z ++ rest) ≡ None
unfolding strip
int-front (pos n) c cs rest x y lt = no-front c cs (decimal n) rest x (decimal_nonempty n (omega arith)) (digits_decimal own n (omega arith))
int-front (negsuc n) c cs rest x y lt = rw y refl

int-again : (m : ℕ) (z : ℤ) (rest : List ℕ) → SignedFits z → Ends rest → term_leaf_at m (signed_decimal z ++ rest) ≡ Some (Int z, rest)
unfolding term_leaf_at int_at
int-again m z rest ok ends =
    rw (int-front z 120 [] rest refl refl ok, int-front z 116 (114 ∷ 117 ∷ 101 ∷ []) rest refl refl ok, int-front z 102 (97 ∷ 108 ∷ 115 ∷ 101 ∷ []) rest refl refl ok, int-front z 34 [] rest refl refl ok, signed-reads.again z rest ok ends) refl

text-again : (xs rest : List ℕ) → all_spelled xs ≡ true → text_at (flat_map byte_text xs ++ (34 ∷ rest)) ≡ Some (Text xs, rest)
unfolding text_at
text-again xs rest ok = rw (chars-again xs rest ok) refl

abbrev count : TermRow → ℕ
count End = 0
count (More l t r) = count r + 1

count-length : (n m : ℕ) (r : TermRow) (rest : List ℕ) → count r < length (term_row_text n m r ++ (41 ∷ rest))
count-length n m End rest = omega arith
count-length n m (More l t r) rest =
    let one = ap (λ (w : List ℕ). length w) (field-is (codes " (") (label_text l) (term_text n m t) (term_row_text n m r) (41 ∷ rest)) in
    omega (arith, one, count-length n m r rest, length-append (label_text l) (32 ∷ (term_text n m t ++ (41 ∷ (term_row_text n m r ++ (41 ∷ rest))))), length-append (term_text n m t) (41 ∷ (term_row_text n m r ++ (41 ∷ rest))))

-- ---- operators, and terms that the first version does not have

-- an operator without the parenthesis before it
abbrev op_words : Op → List ℕ
op_words Add = codes "+ "
op_words Sub = codes "- "
op_words Mul = codes "* "
op_words Div = codes "/ "
op_words Rem = codes "% "
op_words Less = codes "< "
op_words Equal = codes "== "

op-front : (op : Op) → op_front op ≡ 40 ∷ op_words op
op-front Add = refl
op-front Sub = refl
op-front Mul = refl
op-front Div = refl
op-front Rem = refl
op-front Less = refl
op-front Equal = refl

abbrev AnyOp : Op → Type 0
AnyOp op = Unit {0}

arith-has : (f : Reader Term) (op : Op) (bytes : List ℕ) → arith_at f (op_words op ++ bytes) ≡ two (Arith op) f f bytes
unfolding arith_at op_at strip
arith-has f Add bytes = refl
arith-has f Sub bytes = refl
arith-has f Mul bytes = refl
arith-has f Div bytes = refl
arith-has f Rem bytes = refl
arith-has f Less bytes = refl
arith-has f Equal bytes = refl

-- no form of the second version begins with an operator
second-arith : (f : ℕ → Reader Ty) (e : ℕ → ℕ → Reader Term) (n m : ℕ) (op : Op) (bytes : List ℕ) → second_term_node_at f e n m (op_words op ++ bytes) ≡ arith_at (e n m) (op_words op ++ bytes)
unfolding second_term_node_at strip
second-arith f e n m Add bytes = refl
second-arith f e n m Sub bytes = refl
second-arith f e n m Mul bytes = refl
second-arith f e n m Div bytes = refl
second-arith f e n m Rem bytes = refl
second-arith f e n m Less bytes = refl
second-arith f e n m Equal bytes = refl

-- an operator stands in each version
later-arith : (v : Version) (f : ℕ → Reader Ty) (e : ℕ → ℕ → Reader Term) (n m : ℕ) (op : Op) (bytes : List ℕ) → later_term_node_at v f e n m (op_words op ++ bytes) ≡ two (Arith op) (e n m) (e n m) bytes
later-arith First f e n m op bytes = arith-has (e n m) op bytes
later-arith Second f e n m op bytes = second-arith f e n m op bytes ∙ arith-has (e n m) op bytes

later-is : (v : Version) (f : ℕ → Reader Ty) (e : ℕ → ℕ → Reader Term) (n m : ℕ) (bytes : List ℕ) (y : Term × List ℕ) → later_term_node_at v f e n m bytes ≡ Some y
    → (arith_at (e n m) bytes ≡ Some y) ⊎ ((v ≡ Second) × (second_term_node_at f e n m bytes ≡ Some y))
later-is First f e n m bytes y is = inl is
later-is Second f e n m bytes y is = inr (refl, is)

later-has : (v : Version) (f : ℕ → Reader Ty) (e : ℕ → ℕ → Reader Term) (n m : ℕ) (bytes : List ℕ) → v ≡ Second → later_term_node_at v f e n m bytes ≡ second_term_node_at f e n m bytes
later-has First f e n m bytes late = absurd cc
later-has Second f e n m bytes late = refl

-- ---- terms of a version

module _ (v : Version) where
  abbrev pub TermFits : ℕ → ℕ → ℕ → Term → Type 0
  TermFits d n m t = TermSpelled v n m t × (term_deep t ≤ d)

  term-var-takes : (d n m : ℕ) (bytes r : List ℕ) (x : Term) (rest : List ℕ) → bytes ≡ codes "x" ++ r → term_var_at m r ≡ Some (x, rest) → (bytes ≡ term_text n m x ++ rest) × TermFits d n m x
  unfolding term_var_at ◌then◌
  term-var-takes d n m bytes r x rest parts e =
      let b = bind_ok (number_at r) (λ z. cond (nat_lt z.0 m) (Some (Var (m - (z.0 + 1)), z.1)) None) (x, rest) e in
      let k = b.0.0 in
      let t = if_ok (nat_lt k m) (Var (m - (k + 1)), b.0.1) (x, rest) b.2 in
      let below : k < m = test-below k m t.0 in
      let level : m - (m - (k + 1) + 1) ≡ k = omega arith in
      let u = number-reads.takes r k b.0.1 b.1 in
      let same : Var (m - (k + 1)) ≡ x = ap (λ (z : Term × List ℕ). z.0) t.1 in
      let left : b.0.1 ≡ rest = ap (λ (z : Term × List ℕ). z.1) t.1 in
      let text : r ≡ decimal (m - (m - (k + 1) + 1)) ++ rest = rw level (u.0 ∙ ap (λ (w : List ℕ). decimal k ++ w) left) in
      subst (λ (z : Term). (bytes ≡ term_text n m z ++ rest) × TermFits d n m z) same (parts ∙ ap (λ (w : List ℕ). 120 ∷ w) text, ((omega arith, rw level u.1), omega arith))

  int-takes : (d n m : ℕ) (bytes : List ℕ) (x : Term) (rest : List ℕ) → int_at bytes ≡ Some (x, rest) → (bytes ≡ term_text n m x ++ rest) × TermFits d n m x
  unfolding int_at
  int-takes d n m bytes x rest e =
      let b = bind_ok (signed_at bytes) (λ z. Some (Int z.0, z.1)) (x, rest) e in
      let q = some_is (Int b.0.0, b.0.1) (x, rest) b.2 in
      let r = signed-reads.takes bytes b.0.0 b.0.1 b.1 in
      let left : b.0.1 ≡ rest = ap (λ (z : Term × List ℕ). z.1) q in
      subst (λ (z : Term). (bytes ≡ term_text n m z ++ rest) × TermFits d n m z) (ap (λ (z : Term × List ℕ). z.0) q) (r.0 ∙ ap (λ (w : List ℕ). signed_decimal b.0.0 ++ w) left, (r.1, omega arith))

  text-takes : (d n m : ℕ) (bytes r : List ℕ) (x : Term) (rest : List ℕ) → bytes ≡ codes "\"" ++ r → text_at r ≡ Some (x, rest) → (bytes ≡ term_text n m x ++ rest) × TermFits d n m x
  unfolding text_at
  text-takes d n m bytes r x rest parts e =
      let b = bind_ok (chars_at false r) (λ z. Some (Text z.0, z.1)) (x, rest) e in
      let q = some_is (Text b.0.0, b.0.1) (x, rest) b.2 in
      let g = chars-takes r false b.0.0 b.0.1 b.1 in
      let left : b.0.1 ≡ rest = ap (λ (z : Term × List ℕ). z.1) q in
      let text : r ≡ flat_map byte_text b.0.0 ++ (34 ∷ rest) = g.0 ∙ ap (λ (w : List ℕ). flat_map byte_text b.0.0 ++ (34 ∷ w)) left in
      subst (λ (z : Term). (bytes ≡ term_text n m z ++ rest) × TermFits d n m z) (ap (λ (z : Term × List ℕ). z.0) q)
      (parts ∙ ap (λ (w : List ℕ). 34 ∷ w) text ∙ sym (quoted-is b.0.0 rest), (g.1, omega arith))

  term-leaf-takes : (d n m : ℕ) (bytes : List ℕ) (x : Term) (rest : List ℕ) → term_leaf_at m bytes ≡ Some (x, rest) → (bytes ≡ term_text n m x ++ rest) × TermFits d n m x
  unfolding term_leaf_at
  term-leaf-takes d n m bytes x rest e =
      step (codes "x") bytes (term_var_at m) _ (x, rest) e (λ r p is. term-var-takes d n m bytes r x rest p is) (λ e1.
      constant (term_text n m) (TermFits d n m) (Bool true) (tt, omega arith) bytes x rest _ e1 (λ e2.
      constant (term_text n m) (TermFits d n m) (Bool false) (tt, omega arith) bytes x rest _ e2 (λ e3.
      step (codes "\"") bytes text_at (int_at bytes) (x, rest) e3 (λ r p is. text-takes d n m bytes r x rest p is) (λ e4.
      int-takes d n m bytes x rest e4))))

  abbrev TermRowFits : ℕ → ℕ → ℕ → Option Label → TermRow → Type 0
  TermRowFits d n m last r = TermRowSpelled v n m last r × (term_deep_row r ≤ d)

  one-field : (d n m : ℕ) → Reads (term_at v d n m) (term_text n m) (TermFits d n m) → (l : Label) (t : Term) (rest : List ℕ) → LabelSpelled l → TermFits d n m t
      → field_at (term_at v d n m) (label_text l ++ (32 ∷ (term_text n m t ++ (41 ∷ rest)))) ≡ Some ((l, t), rest)
  unfolding field_at
  one-field d n m reads l t rest okl okt =
      two-again (λ (l : Label) (t : Term). (l, t)) label_at (term_at v d n m) label_text (term_text n m) LabelSpelled (TermFits d n m) label-reads reads l t rest okl okt

  fields-again : (d n m : ℕ) → Reads (term_at v d n m) (term_text n m) (TermFits d n m) → (k : ℕ) (last : Option Label) (r : TermRow) (rest : List ℕ) → TermRowFits d n m last r → count r < k
      → fields_at End More (term_at v d n m) k last (term_row_text n m r ++ (41 ∷ rest)) ≡ Some (r, rest)
  unfolding fields_at strip
  fields-again d n m reads zero last r rest ok lt = absurd (omega arith)
  fields-again d n m reads (suc k) last End rest ok lt = refl
  fields-again d n m reads (suc k) last (More l t r) rest ok lt =
      subst (λ (w : List ℕ). fields_at End More (term_at v d n m) (suc k) last w ≡ Some (More l t r, rest)) (sym (field-is (codes " (") (label_text l) (term_text n m t) (term_row_text n m r) (41 ∷ rest)))
      (rw (one-field d n m reads l t (term_row_text n m r ++ (41 ∷ rest)) ok.0.1 (ok.0.2, omega (arith, ok.1)), fields-again d n m reads k (Some l) r rest (ok.0.3, omega (arith, ok.1)) (omega arith), ok.0.0) refl)

  fields-takes : (d n m : ℕ) → Reads (term_at v d n m) (term_text n m) (TermFits d n m) → (k : ℕ) (last : Option Label) (bytes : List ℕ) (r : TermRow) (rest : List ℕ) → fields_at End More (term_at v d n m) k last bytes ≡ Some (r, rest)
      → (bytes ≡ term_row_text n m r ++ (41 ∷ rest)) × TermRowFits d n m last r
  unfolding fields_at field_at
  fields-takes d n m reads zero last bytes r rest e = absurd cc
  fields-takes d n m reads (suc k) last bytes r rest e =
      step (codes " (") bytes _ _ (r, rest) e
      (λ b parts is.
      let x = bind_ok (field_at (term_at v d n m) b) _ (r, rest) is in
      let y = bind_ok (fields_at End More (term_at v d n m) k (Some x.0.0.0) x.0.1) _ (r, rest) x.2 in
      let z = if_ok (follows last x.0.0.0) (More x.0.0.0 x.0.0.1 y.0.0, y.0.1) (r, rest) y.2 in
      let f = two-takes (λ (l : Label) (t : Term). (l, t)) label_at (term_at v d n m) label_text (term_text n m) LabelSpelled (TermFits d n m) label-reads reads b x.0.0 x.0.1 x.1 in
      let g = fields-takes d n m reads k (Some x.0.0.0) x.0.1 y.0.0 y.0.1 y.1 in
      more d n m last bytes b x.0.0.0 x.0.0.1 y.0.0 x.0.1 y.0.1 r rest parts f.0 f.1 f.2 f.3 f.4 f.5 g z.0 z.1)
      (λ e1. step (codes ")") bytes (λ w. Some (End, w)) None (r, rest) e1
      (λ w parts is. let q = some_is (End, w) (r, rest) is in done d n m last bytes w r rest parts q)
      (none-some (r, rest)))
    where
      done : (d n m : ℕ) (last : Option Label) (bytes w : List ℕ) (r : TermRow) (rest : List ℕ) → bytes ≡ codes ")" ++ w → (let z : TermRow × List ℕ = (End, w) in z) ≡ (r, rest) → (bytes ≡ term_row_text n m r ++ (41 ∷ rest)) × TermRowFits d n m last r
      done d n m last bytes w r rest parts q =
          let same : End ≡ r = ap (λ (z : TermRow × List ℕ). z.0) q in
          let left : w ≡ rest = ap (λ (z : TermRow × List ℕ). z.1) q in
          subst (λ (z : TermRow). (bytes ≡ term_row_text n m z ++ (41 ∷ rest)) × TermRowFits d n m last z) same (parts ∙ ap (λ (w : List ℕ). 41 ∷ w) left, (tt, omega arith))

      more : (d n m : ℕ) (last : Option Label) (bytes b : List ℕ) (l : Label) (t : Term) (s : TermRow) (after end : List ℕ) (r : TermRow) (rest : List ℕ) → bytes ≡ codes " (" ++ b
          → (m' : Label) (u : Term) → (let z : Label × Term = (l, t) in z) ≡ (m', u) → b ≡ label_text m' ++ (32 ∷ (term_text n m u ++ (41 ∷ after))) → LabelSpelled m' → TermFits d n m u
          → (after ≡ term_row_text n m s ++ (41 ∷ end)) × TermRowFits d n m (Some l) s → follows last l ≡ true → (let z : TermRow × List ℕ = (More l t s, end) in z) ≡ (r, rest)
          → (bytes ≡ term_row_text n m r ++ (41 ∷ rest)) × TermRowFits d n m last r
      more d n m last bytes b l t s after end r rest parts m' u pair text okm oku g rises q =
          let ml : m' ≡ l = ap (λ (z : Label × Term). z.0) (sym pair) in
          let ut : u ≡ t = ap (λ (z : Label × Term). z.1) (sym pair) in
          let same : More l t s ≡ r = ap (λ (z : TermRow × List ℕ). z.0) q in
          let left : end ≡ rest = ap (λ (z : TermRow × List ℕ). z.1) q in
          let okl : LabelSpelled l = subst (λ (z : Label). LabelSpelled z) ml okm in
          let okt : TermFits d n m t = subst (λ (z : Term). TermFits d n m z) ut oku in
          let tail : after ≡ term_row_text n m s ++ (41 ∷ rest) = g.0 ∙ ap (λ (w : List ℕ). term_row_text n m s ++ (41 ∷ w)) left in
          let text2 : b ≡ label_text l ++ (32 ∷ (term_text n m t ++ (41 ∷ (term_row_text n m s ++ (41 ∷ rest))))) =
          text ∙ ap (λ (z : Label). label_text z ++ (32 ∷ (term_text n m u ++ (41 ∷ after)))) ml ∙ ap (λ (z : Term). label_text l ++ (32 ∷ (term_text n m z ++ (41 ∷ after)))) ut ∙ ap (λ (w : List ℕ). label_text l ++ (32 ∷ (term_text n m t ++ (41 ∷ w)))) tail in
          subst (λ (z : TermRow). (bytes ≡ term_row_text n m z ++ (41 ∷ rest)) × TermRowFits d n m last z) same
          (parts ∙ ap (λ (w : List ℕ). codes " (" ++ w) text2 ∙ sym (field-is (codes " (") (label_text l) (term_text n m t) (term_row_text n m s) (41 ∷ rest)), ((rises, okl, okt.0, g.1.0), omega (arith, okt.1, g.1.1)))

  term-record-again : (d n m : ℕ) → Reads (term_at v d n m) (term_text n m) (TermFits d n m) → (r : TermRow) (rest : List ℕ) → TermRowFits d n m None r → term_record_at (term_at v d n m) (term_row_text n m r ++ (41 ∷ rest)) ≡ Some (Fields r, rest)
  unfolding term_record_at
  term-record-again d n m reads r rest ok =
      rw (fields-again d n m reads (length (term_row_text n m r ++ (41 ∷ rest))) None r rest ok (count-length n m r rest)) refl

  term-record-takes : (d n m : ℕ) → Reads (term_at v d n m) (term_text n m) (TermFits d n m) → (bytes r : List ℕ) (x : Term) (rest : List ℕ) → bytes ≡ codes "(rec" ++ r → term_record_at (term_at v d n m) r ≡ Some (x, rest)
      → (bytes ≡ term_text n m x ++ rest) × TermFits (suc d) n m x
  unfolding term_record_at
  term-record-takes d n m reads bytes r x rest parts e =
      let b = bind_ok (fields_at End More (term_at v d n m) (length r) None r) (λ z. Some (Fields z.0, z.1)) (x, rest) e in
      let q = some_is (Fields b.0.0, b.0.1) (x, rest) b.2 in
      let f = fields-takes d n m reads (length r) None r b.0.0 b.0.1 b.1 in
      let same : Fields b.0.0 ≡ x = ap (λ (z : Term × List ℕ). z.0) q in
      let left : b.0.1 ≡ rest = ap (λ (z : Term × List ℕ). z.1) q in
      let text : r ≡ term_row_text n m b.0.0 ++ (41 ∷ rest) = f.0 ∙ ap (λ (w : List ℕ). term_row_text n m b.0.0 ++ (41 ∷ w)) left in
      subst (λ (z : Term). (bytes ≡ term_text n m z ++ rest) × TermFits (suc d) n m z) same
      (parts ∙ ap (λ (w : List ℕ). codes "(rec" ++ w) text ∙ sym (closed-is (codes "(rec") (term_row_text n m b.0.0) rest), (f.1.0, omega (arith, f.1.1)))

  abbrev AllReads : ℕ → Type 0
  AllReads d = (n m : ℕ) → Reads (term_at v d n m) (term_text n m) (TermFits d n m)

  form2-takes : {A B : Type 0} (mk : A → B → Term) (f : Reader A) (g : Reader B) (ta : A → List ℕ) (tb : B → List ℕ) (Pa : A → Type 0) (Pb : B → Type 0) → Reads f ta Pa → Reads g tb Pb
      → (d n m : ℕ) (front bytes r : List ℕ) (x : Term) (rest : List ℕ)
      → ((a : A) (b : B) → term_text n m (mk a b) ≡ (front then ta a then codes " " then tb b then codes ")"))
      → ((a : A) (b : B) → Pa a → Pb b → TermFits (suc d) n m (mk a b))
      → bytes ≡ front ++ r → two mk f g r ≡ Some (x, rest) → (bytes ≡ term_text n m x ++ rest) × TermFits (suc d) n m x
  form2-takes mk f g ta tb Pa Pb rf rg d n m front bytes r x rest text fits parts e =
      let t = two-takes mk f g ta tb Pa Pb rf rg r x rest e in
      subst (λ (z : Term). (bytes ≡ term_text n m z ++ rest) × TermFits (suc d) n m z) (sym t.2)
      (built front (ta t.0) (tb t.1) rest bytes r parts t.3 ∙ ap (λ (w : List ℕ). w ++ rest) (sym (text t.0 t.1)), fits t.0 t.1 t.4 t.5)

  form3-takes : {A B C : Type 0} (mk : A → B → C → Term) (f : Reader A) (g : Reader B) (h : Reader C) (ta : A → List ℕ) (tb : B → List ℕ) (tc : C → List ℕ) (Pa : A → Type 0) (Pb : B → Type 0) (Pc : C → Type 0)
      → Reads f ta Pa → Reads g tb Pb → Reads h tc Pc → (d n m : ℕ) (front bytes r : List ℕ) (x : Term) (rest : List ℕ)
      → ((a : A) (b : B) (c : C) → term_text n m (mk a b c) ≡ (front then ta a then codes " " then tb b then codes " " then tc c then codes ")"))
      → ((a : A) (b : B) (c : C) → Pa a → Pb b → Pc c → TermFits (suc d) n m (mk a b c))
      → bytes ≡ front ++ r → three mk f g h r ≡ Some (x, rest) → (bytes ≡ term_text n m x ++ rest) × TermFits (suc d) n m x
  form3-takes mk f g h ta tb tc Pa Pb Pc rf rg rh d n m front bytes r x rest text fits parts e =
      let t = three-takes mk f g h ta tb tc Pa Pb Pc rf rg rh r x rest e in
      let whole : bytes ≡ (front then ta t.0 then codes " " then tb t.1 then codes " " then tc t.2 then codes ")") ++ rest =
      parts ∙ ap (λ (w : List ℕ). front ++ w) t.4 ∙ sym (three-is front (ta t.0) (tb t.1) (tc t.2) rest) in
      subst (λ (z : Term). (bytes ≡ term_text n m z ++ rest) × TermFits (suc d) n m z) (sym t.3)
      (whole ∙ ap (λ (w : List ℕ). w ++ rest) (sym (text t.0 t.1 t.2)), fits t.0 t.1 t.2 t.5 t.6 t.7)

  form2-again : {A B : Type 0} (mk : A → B → Term) (f : Reader A) (g : Reader B) (ta : A → List ℕ) (tb : B → List ℕ) (Pa : A → Type 0) (Pb : B → Type 0) → Reads f ta Pa → Reads g tb Pb
      → (read : Reader Term) (front : List ℕ) (rest : List ℕ) (a : A) (b : B)
      → ((bytes : List ℕ) → read (front ++ bytes) ≡ two mk f g bytes) → Pa a → Pb b
      → read ((front then ta a then codes " " then tb b then codes ")") ++ rest) ≡ Some (mk a b, rest)
  form2-again mk f g ta tb Pa Pb rf rg read front rest a b opens p q =
      subst (λ (w : List ℕ). read w ≡ Some (mk a b, rest)) (sym (built-is front (ta a) (tb b) rest))
      (opens (ta a ++ (32 ∷ (tb b ++ (41 ∷ rest)))) ∙ two-again mk f g ta tb Pa Pb rf rg a b rest p q)

  form3-again : {A B C : Type 0} (mk : A → B → C → Term) (f : Reader A) (g : Reader B) (h : Reader C) (ta : A → List ℕ) (tb : B → List ℕ) (tc : C → List ℕ) (Pa : A → Type 0) (Pb : B → Type 0) (Pc : C → Type 0)
      → Reads f ta Pa → Reads g tb Pb → Reads h tc Pc → (read : Reader Term) (front : List ℕ) (rest : List ℕ) (a : A) (b : B) (c : C)
      → ((bytes : List ℕ) → read (front ++ bytes) ≡ three mk f g h bytes) → Pa a → Pb b → Pc c
      → read ((front then ta a then codes " " then tb b then codes " " then tc c then codes ")") ++ rest) ≡ Some (mk a b c, rest)
  form3-again mk f g h ta tb tc Pa Pb Pc rf rg rh read front rest a b c opens p q r =
      subst (λ (w : List ℕ). read w ≡ Some (mk a b c, rest)) (sym (three-is front (ta a) (tb b) (tc c) rest))
      (opens (ta a ++ (32 ∷ (tb b ++ (32 ∷ (tc c ++ (41 ∷ rest)))))) ∙ three-again mk f g h ta tb tc Pa Pb Pc rf rg rh a b c rest p q r)

  op-takes : (bytes : List ℕ) (op : Op) (rest : List ℕ) → op_at bytes ≡ Some (op, rest) → (bytes ≡ op_words op ++ rest) × AnyOp op
  unfolding op_at
  op-takes bytes op rest e =
      constant op_words AnyOp Add tt bytes op rest _ e (λ e1.
      constant op_words AnyOp Sub tt bytes op rest _ e1 (λ e2.
      constant op_words AnyOp Mul tt bytes op rest _ e2 (λ e3.
      constant op_words AnyOp Div tt bytes op rest _ e3 (λ e4.
      constant op_words AnyOp Rem tt bytes op rest _ e4 (λ e5.
      constant op_words AnyOp Less tt bytes op rest _ e5 (λ e6.
      constant op_words AnyOp Equal tt bytes op rest None e6 (none-some (op, rest))))))))

  arith-takes : (d n m : ℕ) → Reads (term_at v d n m) (term_text n m) (TermFits d n m) → (bytes r0 : List ℕ) (x : Term) (rest : List ℕ) → bytes ≡ codes "(" ++ r0 → arith_at (term_at v d n m) r0 ≡ Some (x, rest)
      → (bytes ≡ term_text n m x ++ rest) × TermFits (suc d) n m x
  unfolding arith_at
  arith-takes d n m reads bytes r0 x rest opened e =
      let b = bind_ok (op_at r0) (λ op. two (Arith op.0) (term_at v d n m) (term_at v d n m) op.1) (x, rest) e in
      let parts : bytes ≡ op_front b.0.0 ++ b.0.1 = opened ∙ ap (λ (w : List ℕ). 40 ∷ w) (op-takes r0 b.0.0 b.0.1 b.1).0 ∙ ap (λ (w : List ℕ). w ++ b.0.1) (sym (op-front b.0.0)) in
      form2-takes (Arith b.0.0) (term_at v d n m) (term_at v d n m) (term_text n m) (term_text n m) (TermFits d n m) (TermFits d n m) reads reads d n m (op_front b.0.0) bytes b.0.1 x rest (λ a c. refl) (λ a c u v. ((u.0, v.0), omega (arith, u.1, v.1))) parts b.2

  case-again : (d n m : ℕ) → AllReads d → (x : Term) (t : Ty) (r : TermRow) (rest : List ℕ) → TermFits d n m x → TyFits v d n t → TermRowFits d n (m + 1) None r
      → case_at (term_at v d n m) (ty_at v d n) (term_at v d n (m + 1)) (term_text n m x ++ (32 ∷ (ty_text n t ++ (term_row_text n (m + 1) r ++ (41 ∷ rest))))) ≡ Some (Case x t r, rest)
  unfolding case_at strip
  case-again d n m reads x t r rest okx okt okr =
      let branches = term_row_text n (m + 1) r ++ (41 ∷ rest) in
      rw (
        (reads n m).again x (32 ∷ (ty_text n t ++ branches)) okx refl,
        (ty-reads v d n).again t branches okt (row-ends n (m + 1) r rest),
        fields-again d n (m + 1) (reads n (m + 1)) (length branches) None r rest okr (count-length n (m + 1) r rest),
      ) refl

  case-takes : (d n m : ℕ) → AllReads d → v ≡ Second → (bytes r0 : List ℕ) (x : Term) (rest : List ℕ) → bytes ≡ codes "(case " ++ r0 → case_at (term_at v d n m) (ty_at v d n) (term_at v d n (m + 1)) r0 ≡ Some (x, rest)
      → (bytes ≡ term_text n m x ++ rest) × TermFits (suc d) n m x
  unfolding case_at
  case-takes d n m reads late bytes r0 x rest parts e =
      let b1 = bind_ok (term_at v d n m r0) _ (x, rest) e in
      let b2 = bind_ok (strip (32 ∷ []) b1.0.1) _ (x, rest) b1.2 in
      let b3 = bind_ok (ty_at v d n b2.0) _ (x, rest) b2.2 in
      let b4 = bind_ok (fields_at End More (term_at v d n (m + 1)) (length b3.0.1) None b3.0.1) _ (x, rest) b3.2 in
      let q = some_is (Case b1.0.0 b3.0.0 b4.0.0, b4.0.1) (x, rest) b4.2 in
      let whole = (reads n m).takes r0 b1.0.0 b1.0.1 b1.1 in
      let result = (ty-reads v d n).takes b2.0 b3.0.0 b3.0.1 b3.1 in
      let branches = fields-takes d n (m + 1) (reads n (m + 1)) (length b3.0.1) None b3.0.1 b4.0.0 b4.0.1 b4.1 in
      let left : b4.0.1 ≡ rest = ap (λ (z : Term × List ℕ). z.1) q in
      let third : b3.0.1 ≡ term_row_text n (m + 1) b4.0.0 ++ (41 ∷ rest) = branches.0 ∙ ap (λ (w : List ℕ). term_row_text n (m + 1) b4.0.0 ++ (41 ∷ w)) left in
      let second : b2.0 ≡ ty_text n b3.0.0 ++ (term_row_text n (m + 1) b4.0.0 ++ (41 ∷ rest)) = result.0 ∙ ap (λ (w : List ℕ). ty_text n b3.0.0 ++ w) third in
      let middle : b1.0.1 ≡ 32 ∷ (ty_text n b3.0.0 ++ (term_row_text n (m + 1) b4.0.0 ++ (41 ∷ rest))) = strip-is (32 ∷ []) b1.0.1 b2.0 b2.1 ∙ ap (λ (w : List ℕ). 32 ∷ w) second in
      let text : r0 ≡ term_text n m b1.0.0 ++ (32 ∷ (ty_text n b3.0.0 ++ (term_row_text n (m + 1) b4.0.0 ++ (41 ∷ rest)))) = whole.0 ∙ ap (λ (w : List ℕ). term_text n m b1.0.0 ++ w) middle in
      subst (λ (z : Term). (bytes ≡ term_text n m z ++ rest) × TermFits (suc d) n m z) (ap (λ (z : Term × List ℕ). z.0) q) (
        parts ∙ ap (λ (w : List ℕ). codes "(case " ++ w) text ∙ sym (case-is (codes "(case ") (term_text n m b1.0.0) (ty_text n b3.0.0) (term_row_text n (m + 1) b4.0.0) rest),
        ((late, whole.1.0, result.1.0, branches.1.0), omega (arith, whole.1.1, result.1.1, branches.1.1)),
      )

  unroll-takes : (d n m : ℕ) → AllReads d → v ≡ Second → (bytes r : List ℕ) (x : Term) (rest : List ℕ) → bytes ≡ codes "(unroll " ++ r → one Unroll (term_at v d n m) r ≡ Some (x, rest)
      → (bytes ≡ term_text n m x ++ rest) × TermFits (suc d) n m x
  unroll-takes d n m reads late bytes r x rest parts e =
      let t = one-takes Unroll (term_at v d n m) (term_text n m) (TermFits d n m) (reads n m) r x rest e in
      subst (λ (z : Term). (bytes ≡ term_text n m z ++ rest) × TermFits (suc d) n m z) (sym t.1)
      (parts ∙ ap (λ (w : List ℕ). codes "(unroll " ++ w) t.2 ∙ sym (closed-is (codes "(unroll ") (term_text n m t.0) rest), ((late, t.3.0), omega (arith, t.3.1)))

  second-takes : (d n m : ℕ) → AllReads d → v ≡ Second → (bytes r0 : List ℕ) (x : Term) (rest : List ℕ) → bytes ≡ codes "(" ++ r0 → second_term_node_at (ty_at v d) (term_at v d) n m r0 ≡ Some (x, rest)
      → (bytes ≡ term_text n m x ++ rest) × TermFits (suc d) n m x
  unfolding second_term_node_at
  second-takes d n m reads late bytes r0 x rest opened e =
      step (codes "inj ") r0 _ _ (x, rest) e (λ r p is. form3-takes Inj label_at (term_at v d n m) (ty_at v d n) label_text (term_text n m) (ty_text n) LabelSpelled (TermFits d n m) (TyFits v d n) label-reads (reads n m) (ty-reads v d n) d n m (codes "(inj ") bytes r x rest (λ a b c. refl) (λ a b c u v w. ((late, u, v.0, w.0), omega (arith, v.1, w.1))) (opened ∙ ap (λ (w : List ℕ). 40 ∷ w) p) is) (λ e1.
      step (codes "case ") r0 _ _ (x, rest) e1 (λ r p is. case-takes d n m reads late bytes r x rest (opened ∙ ap (λ (w : List ℕ). 40 ∷ w) p) is) (λ e2.
      step (codes "roll ") r0 _ _ (x, rest) e2 (λ r p is. form2-takes Roll (term_at v d n m) (ty_at v d n) (term_text n m) (ty_text n) (TermFits d n m) (TyFits v d n) (reads n m) (ty-reads v d n) d n m (codes "(roll ") bytes r x rest (λ a b. refl) (λ a b u v. ((late, u.0, v.0), omega (arith, u.1, v.1))) (opened ∙ ap (λ (w : List ℕ). 40 ∷ w) p) is) (λ e3.
      step (codes "unroll ") r0 _ _ (x, rest) e3 (λ r p is. unroll-takes d n m reads late bytes r x rest (opened ∙ ap (λ (w : List ℕ). 40 ∷ w) p) is) (λ e4.
      arith-takes d n m (reads n m) bytes r0 x rest opened e4))))

  later-takes : (d n m : ℕ) → AllReads d → (bytes r0 : List ℕ) (x : Term) (rest : List ℕ) → bytes ≡ codes "(" ++ r0 → later_term_node_at v (ty_at v d) (term_at v d) n m r0 ≡ Some (x, rest)
      → (bytes ≡ term_text n m x ++ rest) × TermFits (suc d) n m x
  later-takes d n m reads bytes r0 x rest opened e =
      elim (later-is v (ty_at v d) (term_at v d) n m r0 (x, rest) e) [
        | inl is ↦ arith-takes d n m (reads n m) bytes r0 x rest opened is
        | inr late ↦ second-takes d n m reads late.0 bytes r0 x rest opened late.1
      ]

  term-node-takes : (d n m : ℕ) → AllReads d → (bytes r0 : List ℕ) (x : Term) (rest : List ℕ) → bytes ≡ codes "(" ++ r0 → term_node_at v (kind_at d) (ty_at v d) (term_at v d) n m r0 ≡ Some (x, rest)
      → (bytes ≡ term_text n m x ++ rest) × TermFits (suc d) n m x
  unfolding term_node_at
  term-node-takes d n m reads bytes r0 x rest opened e0 =
      step (codes "fn ") r0 _ _ (x, rest) e0 (λ r p is. form2-takes Lam (ty_at v d n) (term_at v d n (m + 1)) (ty_text n) (term_text n (m + 1)) (TyFits v d n) (TermFits d n (m + 1)) (ty-reads v d n) (reads n (m + 1)) d n m (codes "(fn ") bytes r x rest (λ a b. refl) (λ a b u v. ((u.0, v.0), omega (arith, u.1, v.1))) (opened ∙ ap (λ (w : List ℕ). 40 ∷ w) p) is) (λ e1.
      step (codes "call ") r0 _ _ (x, rest) e1 (λ r p is. form2-takes Call (term_at v d n m) (term_at v d n m) (term_text n m) (term_text n m) (TermFits d n m) (TermFits d n m) (reads n m) (reads n m) d n m (codes "(call ") bytes r x rest (λ a b. refl) (λ a b u v. ((u.0, v.0), omega (arith, u.1, v.1))) (opened ∙ ap (λ (w : List ℕ). 40 ∷ w) p) is) (λ e2.
      step (codes "tfn ") r0 _ _ (x, rest) e2 (λ r p is. form2-takes TyLam (kind_at d) (term_at v d (n + 1) m) kind_text (term_text (n + 1) m) (KindFits d) (TermFits d (n + 1) m) (kind-reads d) (reads (n + 1) m) d n m (codes "(tfn ") bytes r x rest (λ a b. refl) (λ a b u v. (v.0, omega (arith, u, v.1))) (opened ∙ ap (λ (w : List ℕ). 40 ∷ w) p) is) (λ e3.
      step (codes "inst ") r0 _ _ (x, rest) e3 (λ r p is. form2-takes Inst (term_at v d n m) (ty_at v d n) (term_text n m) (ty_text n) (TermFits d n m) (TyFits v d n) (reads n m) (ty-reads v d n) d n m (codes "(inst ") bytes r x rest (λ a b. refl) (λ a b u v. ((u.0, v.0), omega (arith, u.1, v.1))) (opened ∙ ap (λ (w : List ℕ). 40 ∷ w) p) is) (λ e4.
      step (codes "rec") r0 _ _ (x, rest) e4 (λ r p is. term-record-takes d n m (reads n m) bytes r x rest (opened ∙ ap (λ (w : List ℕ). 40 ∷ w) p) is) (λ e5.
      step (codes "get ") r0 _ _ (x, rest) e5 (λ r p is. form2-takes Get (term_at v d n m) label_at (term_text n m) label_text (TermFits d n m) LabelSpelled (reads n m) label-reads d n m (codes "(get ") bytes r x rest (λ a b. refl) (λ a b u v. ((u.0, v), omega (arith, u.1))) (opened ∙ ap (λ (w : List ℕ). 40 ∷ w) p) is) (λ e6.
      step (codes "pack ") r0 _ _ (x, rest) e6 (λ r p is. form3-takes Pack (ty_at v d n) (term_at v d n m) (ty_at v d n) (ty_text n) (term_text n m) (ty_text n) (TyFits v d n) (TermFits d n m) (TyFits v d n) (ty-reads v d n) (reads n m) (ty-reads v d n) d n m (codes "(pack ") bytes r x rest (λ a b c. refl) (λ a b c u v w. ((u.0, v.0, w.0), omega (arith, u.1, v.1, w.1))) (opened ∙ ap (λ (w : List ℕ). 40 ∷ w) p) is) (λ e7.
      step (codes "open ") r0 _ _ (x, rest) e7 (λ r p is. form2-takes Unpack (term_at v d n m) (term_at v d (n + 1) (m + 1)) (term_text n m) (term_text (n + 1) (m + 1)) (TermFits d n m) (TermFits d (n + 1) (m + 1)) (reads n m) (reads (n + 1) (m + 1)) d n m (codes "(open ") bytes r x rest (λ a b. refl) (λ a b u v. ((u.0, v.0), omega (arith, u.1, v.1))) (opened ∙ ap (λ (w : List ℕ). 40 ∷ w) p) is) (λ e8.
      step (codes "if ") r0 _ _ (x, rest) e8 (λ r p is. form3-takes If (term_at v d n m) (term_at v d n m) (term_at v d n m) (term_text n m) (term_text n m) (term_text n m) (TermFits d n m) (TermFits d n m) (TermFits d n m) (reads n m) (reads n m) (reads n m) d n m (codes "(if ") bytes r x rest (λ a b c. refl) (λ a b c u v w. ((u.0, v.0, w.0), omega (arith, u.1, v.1, w.1))) (opened ∙ ap (λ (w : List ℕ). 40 ∷ w) p) is) (λ e9.
      step (codes "fix ") r0 _ _ (x, rest) e9 (λ r p is. form3-takes Fix (ty_at v d n) (ty_at v d n) (term_at v d n (m + 2)) (ty_text n) (ty_text n) (term_text n (m + 2)) (TyFits v d n) (TyFits v d n) (TermFits d n (m + 2)) (ty-reads v d n) (ty-reads v d n) (reads n (m + 2)) d n m (codes "(fix ") bytes r x rest (λ a b c. refl) (λ a b c u v w. ((u.0, v.0, w.0), omega (arith, u.1, v.1, w.1))) (opened ∙ ap (λ (w : List ℕ). 40 ∷ w) p) is) (λ e10.
      later-takes d n m reads bytes r0 x rest opened e10))))))))))

  term-var-leaf : (n m i : ℕ) (rest : List ℕ) → (i < m) × (m - (i + 1) < 2 ^ 64) → Ends rest → term_leaf_at m (term_text n m (Var i) ++ rest) ≡ Some (Var i, rest)
  unfolding term_leaf_at strip ◌then◌
  term-var-leaf n m i rest ok ends = term-var-again m i rest ok.0 ok.1 ends

  quoted-leaf : (n m : ℕ) (bytes rest : List ℕ) → all_spelled bytes ≡ true → term_leaf_at m (term_text n m (Text bytes) ++ rest) ≡ Some (Text bytes, rest)
  unfolding term_leaf_at strip
  quoted-leaf n m bytes rest ok = subst (λ (w : List ℕ). term_leaf_at m w ≡ Some (Text bytes, rest)) (sym (quoted-is bytes rest)) (text-again bytes rest ok)

  bool-leaf : (n m : ℕ) (b : Truth) (rest : List ℕ) → term_leaf_at m (term_text n m (Bool b) ++ rest) ≡ Some (Bool b, rest)
  unfolding term_leaf_at strip
  bool-leaf n m true rest = refl
  bool-leaf n m false rest = refl

  term-var-start : (d n m i : ℕ) (rest : List ℕ) → TermFits (suc d) n m (Var i) → Ends rest → term_at v (suc d) n m (term_text n m (Var i) ++ rest) ≡ Some (Var i, rest)
  unfolding term_at strip ◌then◌
  term-var-start d n m i rest ok ends = term-var-leaf n m i rest ok.0 ends

  bool-start : (d n m : ℕ) (b : Truth) (rest : List ℕ) → term_at v (suc d) n m (term_text n m (Bool b) ++ rest) ≡ Some (Bool b, rest)
  unfolding term_at term_leaf_at strip
  bool-start d n m true rest = refl
  bool-start d n m false rest = refl

  quoted-start : (d n m : ℕ) (bytes rest : List ℕ) → all_spelled bytes ≡ true → term_at v (suc d) n m (term_text n m (Text bytes) ++ rest) ≡ Some (Text bytes, rest)
  unfolding term_at strip
  quoted-start d n m bytes rest ok =
      subst (λ (w : List ℕ). term_at v (suc d) n m w ≡ Some (Text bytes, rest)) (sym (quoted-is bytes rest)) (subst (λ (w : List ℕ). term_leaf_at m w ≡ Some (Text bytes, rest)) (quoted-is bytes rest) (quoted-leaf n m bytes rest ok))

  term-again : (d n m : ℕ) → AllReads d → (x : Term) (rest : List ℕ) → TermFits (suc d) n m x → Ends rest → term_at v (suc d) n m (term_text n m x ++ rest) ≡ Some (x, rest)
  unfolding term_at term_node_at second_term_node_at strip
  term-again d n m reads (Var i) rest ok ends = term-var-start d n m i rest ok ends
  term-again d n m reads (Int z) rest ok ends = rw (int-front z 40 [] rest refl refl ok.0) (int-again m z rest ok.0 ends)
  term-again d n m reads (Bool true) rest ok ends = bool-start d n m true rest
  term-again d n m reads (Bool false) rest ok ends = bool-start d n m false rest
  term-again d n m reads (Text bytes) rest ok ends = quoted-start d n m bytes rest ok.0
  term-again d n m reads (Fields r) rest ok ends =
      subst (λ (w : List ℕ). term_at v (suc d) n m w ≡ Some (Fields r, rest)) (sym (closed-is (codes "(rec") (term_row_text n m r) rest))
      (term-record-again d n m (reads n m) r rest (ok.0, omega (arith, ok.1)))
  term-again d n m reads (Lam t e) rest ok ends = form2-again Lam (ty_at v d n) (term_at v d n (m + 1)) (ty_text n) (term_text n (m + 1)) (TyFits v d n) (TermFits d n (m + 1)) (ty-reads v d n) (reads n (m + 1)) (term_at v (suc d) n m) (codes "(fn ") rest t e (λ bytes. refl) (ok.0.0, omega (arith, ok.1)) (ok.0.1, omega (arith, ok.1))
  term-again d n m reads (Call f a) rest ok ends = form2-again Call (term_at v d n m) (term_at v d n m) (term_text n m) (term_text n m) (TermFits d n m) (TermFits d n m) (reads n m) (reads n m) (term_at v (suc d) n m) (codes "(call ") rest f a (λ bytes. refl) (ok.0.0, omega (arith, ok.1)) (ok.0.1, omega (arith, ok.1))
  term-again d n m reads (TyLam k e) rest ok ends = form2-again TyLam (kind_at d) (term_at v d (n + 1) m) kind_text (term_text (n + 1) m) (KindFits d) (TermFits d (n + 1) m) (kind-reads d) (reads (n + 1) m) (term_at v (suc d) n m) (codes "(tfn ") rest k e (λ bytes. refl) (omega (arith, ok.1)) (ok.0, omega (arith, ok.1))
  term-again d n m reads (Inst f t) rest ok ends = form2-again Inst (term_at v d n m) (ty_at v d n) (term_text n m) (ty_text n) (TermFits d n m) (TyFits v d n) (reads n m) (ty-reads v d n) (term_at v (suc d) n m) (codes "(inst ") rest f t (λ bytes. refl) (ok.0.0, omega (arith, ok.1)) (ok.0.1, omega (arith, ok.1))
  term-again d n m reads (Get e l) rest ok ends = form2-again Get (term_at v d n m) label_at (term_text n m) label_text (TermFits d n m) LabelSpelled (reads n m) label-reads (term_at v (suc d) n m) (codes "(get ") rest e l (λ bytes. refl) (ok.0.0, omega (arith, ok.1)) ok.0.1
  term-again d n m reads (Pack t e u) rest ok ends = form3-again Pack (ty_at v d n) (term_at v d n m) (ty_at v d n) (ty_text n) (term_text n m) (ty_text n) (TyFits v d n) (TermFits d n m) (TyFits v d n) (ty-reads v d n) (reads n m) (ty-reads v d n) (term_at v (suc d) n m) (codes "(pack ") rest t e u (λ bytes. refl) (ok.0.0, omega (arith, ok.1)) (ok.0.1, omega (arith, ok.1)) (ok.0.2, omega (arith, ok.1))
  term-again d n m reads (Unpack e b) rest ok ends = form2-again Unpack (term_at v d n m) (term_at v d (n + 1) (m + 1)) (term_text n m) (term_text (n + 1) (m + 1)) (TermFits d n m) (TermFits d (n + 1) (m + 1)) (reads n m) (reads (n + 1) (m + 1)) (term_at v (suc d) n m) (codes "(open ") rest e b (λ bytes. refl) (ok.0.0, omega (arith, ok.1)) (ok.0.1, omega (arith, ok.1))
  term-again d n m reads (If a b c) rest ok ends = form3-again If (term_at v d n m) (term_at v d n m) (term_at v d n m) (term_text n m) (term_text n m) (term_text n m) (TermFits d n m) (TermFits d n m) (TermFits d n m) (reads n m) (reads n m) (reads n m) (term_at v (suc d) n m) (codes "(if ") rest a b c (λ bytes. refl) (ok.0.0, omega (arith, ok.1)) (ok.0.1, omega (arith, ok.1)) (ok.0.2, omega (arith, ok.1))
  term-again d n m reads (Fix t u e) rest ok ends = form3-again Fix (ty_at v d n) (ty_at v d n) (term_at v d n (m + 2)) (ty_text n) (ty_text n) (term_text n (m + 2)) (TyFits v d n) (TyFits v d n) (TermFits d n (m + 2)) (ty-reads v d n) (ty-reads v d n) (reads n (m + 2)) (term_at v (suc d) n m) (codes "(fix ") rest t u e (λ bytes. refl) (ok.0.0, omega (arith, ok.1)) (ok.0.1, omega (arith, ok.1)) (ok.0.2, omega (arith, ok.1))
  term-again d n m reads (Inj l e t) rest ok ends = form3-again Inj label_at (term_at v d n m) (ty_at v d n) label_text (term_text n m) (ty_text n) LabelSpelled (TermFits d n m) (TyFits v d n) label-reads (reads n m) (ty-reads v d n) (term_at v (suc d) n m) (codes "(inj ") rest l e t (λ bytes. later-has v (ty_at v d) (term_at v d) n m (codes "inj " ++ bytes) ok.0.0) ok.0.1 (ok.0.2, omega (arith, ok.1)) (ok.0.3, omega (arith, ok.1))
  term-again d n m reads (Case e t r) rest ok ends =
      subst (λ (w : List ℕ). term_at v (suc d) n m w ≡ Some (Case e t r, rest)) (sym (case-is (codes "(case ") (term_text n m e) (ty_text n t) (term_row_text n (m + 1) r) rest))
      (later-has v (ty_at v d) (term_at v d) n m (codes "case " ++ (term_text n m e ++ (32 ∷ (ty_text n t ++ (term_row_text n (m + 1) r ++ (41 ∷ rest)))))) ok.0.0
      ∙ case-again d n m reads e t r rest (ok.0.1, omega (arith, ok.1)) (ok.0.2, omega (arith, ok.1)) (ok.0.3, omega (arith, ok.1)))
  term-again d n m reads (Roll e t) rest ok ends = form2-again Roll (term_at v d n m) (ty_at v d n) (term_text n m) (ty_text n) (TermFits d n m) (TyFits v d n) (reads n m) (ty-reads v d n) (term_at v (suc d) n m) (codes "(roll ") rest e t (λ bytes. later-has v (ty_at v d) (term_at v d) n m (codes "roll " ++ bytes) ok.0.0) (ok.0.1, omega (arith, ok.1)) (ok.0.2, omega (arith, ok.1))
  term-again d n m reads (Unroll e) rest ok ends =
      subst (λ (w : List ℕ). term_at v (suc d) n m w ≡ Some (Unroll e, rest)) (sym (closed-is (codes "(unroll ") (term_text n m e) rest))
      (later-has v (ty_at v d) (term_at v d) n m (codes "unroll " ++ (term_text n m e ++ (41 ∷ rest))) ok.0.0
      ∙ one-again Unroll (term_at v d n m) (term_text n m) (TermFits d n m) (reads n m) e rest (ok.0.1, omega (arith, ok.1)))
  term-again d n m reads (Arith Add a b) rest ok ends = form2-again (Arith Add) (term_at v d n m) (term_at v d n m) (term_text n m) (term_text n m) (TermFits d n m) (TermFits d n m) (reads n m) (reads n m) (term_at v (suc d) n m) (codes "(+ ") rest a b (λ bytes. later-arith v (ty_at v d) (term_at v d) n m Add bytes) (ok.0.0, omega (arith, ok.1)) (ok.0.1, omega (arith, ok.1))
  term-again d n m reads (Arith Sub a b) rest ok ends = form2-again (Arith Sub) (term_at v d n m) (term_at v d n m) (term_text n m) (term_text n m) (TermFits d n m) (TermFits d n m) (reads n m) (reads n m) (term_at v (suc d) n m) (codes "(- ") rest a b (λ bytes. later-arith v (ty_at v d) (term_at v d) n m Sub bytes) (ok.0.0, omega (arith, ok.1)) (ok.0.1, omega (arith, ok.1))
  term-again d n m reads (Arith Mul a b) rest ok ends = form2-again (Arith Mul) (term_at v d n m) (term_at v d n m) (term_text n m) (term_text n m) (TermFits d n m) (TermFits d n m) (reads n m) (reads n m) (term_at v (suc d) n m) (codes "(* ") rest a b (λ bytes. later-arith v (ty_at v d) (term_at v d) n m Mul bytes) (ok.0.0, omega (arith, ok.1)) (ok.0.1, omega (arith, ok.1))
  term-again d n m reads (Arith Div a b) rest ok ends = form2-again (Arith Div) (term_at v d n m) (term_at v d n m) (term_text n m) (term_text n m) (TermFits d n m) (TermFits d n m) (reads n m) (reads n m) (term_at v (suc d) n m) (codes "(/ ") rest a b (λ bytes. later-arith v (ty_at v d) (term_at v d) n m Div bytes) (ok.0.0, omega (arith, ok.1)) (ok.0.1, omega (arith, ok.1))
  term-again d n m reads (Arith Rem a b) rest ok ends = form2-again (Arith Rem) (term_at v d n m) (term_at v d n m) (term_text n m) (term_text n m) (TermFits d n m) (TermFits d n m) (reads n m) (reads n m) (term_at v (suc d) n m) (codes "(% ") rest a b (λ bytes. later-arith v (ty_at v d) (term_at v d) n m Rem bytes) (ok.0.0, omega (arith, ok.1)) (ok.0.1, omega (arith, ok.1))
  term-again d n m reads (Arith Less a b) rest ok ends = form2-again (Arith Less) (term_at v d n m) (term_at v d n m) (term_text n m) (term_text n m) (TermFits d n m) (TermFits d n m) (reads n m) (reads n m) (term_at v (suc d) n m) (codes "(< ") rest a b (λ bytes. later-arith v (ty_at v d) (term_at v d) n m Less bytes) (ok.0.0, omega (arith, ok.1)) (ok.0.1, omega (arith, ok.1))
  term-again d n m reads (Arith Equal a b) rest ok ends = form2-again (Arith Equal) (term_at v d n m) (term_at v d n m) (term_text n m) (term_text n m) (TermFits d n m) (TermFits d n m) (reads n m) (reads n m) (term_at v (suc d) n m) (codes "(== ") rest a b (λ bytes. later-arith v (ty_at v d) (term_at v d) n m Equal bytes) (ok.0.0, omega (arith, ok.1)) (ok.0.1, omega (arith, ok.1))

  term-takes : (d n m : ℕ) → AllReads d → (bytes : List ℕ) (x : Term) (rest : List ℕ) → term_at v (suc d) n m bytes ≡ Some (x, rest) → (bytes ≡ term_text n m x ++ rest) × TermFits (suc d) n m x
  unfolding term_at
  term-takes d n m reads bytes x rest e =
      step (codes "(") bytes (term_node_at v (kind_at d) (ty_at v d) (term_at v d) n m) (term_leaf_at m bytes) (x, rest) e
      (λ r p is. term-node-takes d n m reads bytes r x rest p is)
      (λ e1. term-leaf-takes (suc d) n m bytes x rest e1)

  term-zero-takes : (n m : ℕ) (bytes : List ℕ) (x : Term) (rest : List ℕ) → term_at v 0 n m bytes ≡ Some (x, rest) → (bytes ≡ term_text n m x ++ rest) × TermFits 0 n m x
  unfolding term_at
  term-zero-takes n m bytes x rest e = term-leaf-takes 0 n m bytes x rest e

  term-zero-again : (n m : ℕ) (x : Term) (rest : List ℕ) → TermFits 0 n m x → Ends rest → term_at v 0 n m (term_text n m x ++ rest) ≡ Some (x, rest)
  unfolding term_at
  term-zero-again n m (Var i) rest ok ends = term-var-leaf n m i rest ok.0 ends
  term-zero-again n m (Int z) rest ok ends = int-again m z rest ok.0 ends
  term-zero-again n m (Bool b) rest ok ends = bool-leaf n m b rest
  term-zero-again n m (Text bytes) rest ok ends = quoted-leaf n m bytes rest ok.0
  term-zero-again n m (Fields r) rest ok ends = absurd (omega (arith, ok.1))
  term-zero-again n m (Lam t e) rest ok ends = absurd (omega (arith, ok.1))
  term-zero-again n m (Call f a) rest ok ends = absurd (omega (arith, ok.1))
  term-zero-again n m (TyLam k e) rest ok ends = absurd (omega (arith, ok.1))
  term-zero-again n m (Inst f t) rest ok ends = absurd (omega (arith, ok.1))
  term-zero-again n m (Get e l) rest ok ends = absurd (omega (arith, ok.1))
  term-zero-again n m (Pack t e u) rest ok ends = absurd (omega (arith, ok.1))
  term-zero-again n m (Unpack e b) rest ok ends = absurd (omega (arith, ok.1))
  term-zero-again n m (If a b c) rest ok ends = absurd (omega (arith, ok.1))
  term-zero-again n m (Fix t u e) rest ok ends = absurd (omega (arith, ok.1))
  term-zero-again n m (Inj l e t) rest ok ends = absurd (omega (arith, ok.1))
  term-zero-again n m (Case e t r) rest ok ends = absurd (omega (arith, ok.1))
  term-zero-again n m (Roll e t) rest ok ends = absurd (omega (arith, ok.1))
  term-zero-again n m (Unroll e) rest ok ends = absurd (omega (arith, ok.1))
  term-zero-again n m (Arith op a b) rest ok ends = absurd (omega (arith, ok.1))

  -- the reader of terms takes just the texts of spelled terms that are not too deep for it
  pub term-reads : (d n m : ℕ) → Reads (term_at v d n m) (term_text n m) (λ t. TermSpelled v n m t × (term_deep t ≤ d))
  term-reads zero n m = record { takes = term-zero-takes n m; again = term-zero-again n m }
  term-reads (suc d) n m = record { takes = term-takes d n m (term-reads d); again = term-again d n m (term-reads d) }
