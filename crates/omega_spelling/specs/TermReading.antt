-- Reading terms from bytes, and which terms have a spelling, in each version.
use Rattle.std.specs.Prelude.{◌≡◌, ℕ, zero, suc, ◌+◌, ◌-◌, ◌^◌, ◌<◌, max, List, [], ◌∷◌, length, codes, Bool as Truth, true, false, not, ◌&&◌, ◌||◌, ◌==◌, nat_lt, if◌then◌else◌, Option, Some, None, ℤ, pos, negsuc}
use Rattle.omega_kinds.specs.declared.label.Label.{Label}
use Rattle.omega_kinds.specs.Kind.{Kind}
use Rattle.omega_types.specs.Ty.{Ty}
use Rattle.omega_spelling.specs.Reading.{◌>>=◌, Reader, strip, choose, one, two, number_at, label_at, kind_at, ty_at, follows, fields_at}
use Rattle.omega_spelling.specs.Spelled.{LabelSpelled, TySpelled, kind_deep, deep}
use Rattle.omega_terms.specs.declared.version.Version.{Version}
use Rattle.omega_terms.specs.declared.version.Version.TheVariants.{First, Second}
use Rattle.omega_terms.specs.declared.op.Op.{Op}
use Rattle.omega_terms.specs.declared.op.Op.TheVariants.{Add, Sub, Mul, Div, Rem, Less, Equal}
use Rattle.omega_terms.specs.Term.{Term, TermRow, Var, Int, Bool, Text, Lam, Call, TyLam, Inst, Fields, Get, Pack, Unpack, If, Arith, Fix, Inj, Case, Roll, Unroll, End, More}

-- ---- numbers and texts

unfoldable pub negative_at : Reader ℤ
negative_at bytes = do
  x ← number_at bytes
  if nat_lt 0 x.0 && nat_lt x.0 (2 ^ 63 + 1) then Some (negsuc (x.0 - 1), x.1) else None

unfoldable pub positive_at : Reader ℤ
positive_at bytes = do
  x ← number_at bytes
  if nat_lt x.0 (2 ^ 63) then Some (pos x.0, x.1) else None

unfoldable pub signed_at : Reader ℤ
signed_at bytes = choose (strip (codes "-") bytes) negative_at (positive_at bytes)

abbrev pub SignedFits : ℤ → Type 0
SignedFits (pos n) = n < 2 ^ 63
SignedFits (negsuc n) = n < 2 ^ 63

abbrev pub is_printed : ℕ → Truth
is_printed b = not (nat_lt b 32) && nat_lt b 127

abbrev pub with_byte : ℕ → Option (List ℕ × List ℕ) → Option (List ℕ × List ℕ)
with_byte b read = read >>= λ x. Some (b ∷ x.0, x.1)

-- the bytes of a text, behind its first quote or behind a backslash in it
unfoldable pub chars_at : Truth → Reader (List ℕ)
chars_at escaped [] = None
chars_at false (b ∷ bs) =
    if b == 34 then Some ([], bs) else if b == 92 then chars_at true bs else if is_printed b then with_byte b (chars_at false bs) else None
chars_at true (b ∷ bs) =
    if b == 34 then with_byte 34 (chars_at false bs) else if b == 92 then with_byte 92 (chars_at false bs) else if b == 110 then with_byte 10 (chars_at false bs) else None

abbrev pub all_spelled : List ℕ → Truth
all_spelled [] = true
all_spelled (b ∷ bs) = (b == 10 || is_printed b) && all_spelled bs

-- ---- terms

-- three parts with spaces between them and a parenthesis after them
unfoldable pub three : {A B C D : Type 0} → (A → B → C → D) → Reader A → Reader B → Reader C → Reader D
three mk f g h bytes = do
  x ← f bytes
  s ← strip (codes " ") x.1
  two (mk x.0) g h s

unfoldable pub term_var_at : ℕ → Reader Term
term_var_at m bytes = do
  x ← number_at bytes
  if nat_lt x.0 m then Some (Var (m - (x.0 + 1)), x.1) else None

unfoldable pub int_at : Reader Term
int_at bytes = signed_at bytes >>= λ x. Some (Int x.0, x.1)

unfoldable pub text_at : Reader Term
text_at bytes = chars_at false bytes >>= λ x. Some (Text x.0, x.1)

unfoldable pub term_leaf_at : ℕ → Reader Term
term_leaf_at m bytes =
    choose (strip (codes "x") bytes) (term_var_at m) (
    choose (strip (codes "true") bytes) (λ rest. Some (Bool true, rest)) (
    choose (strip (codes "false") bytes) (λ rest. Some (Bool false, rest)) (
    choose (strip (codes "\"") bytes) text_at (int_at bytes))))

unfoldable pub term_record_at : Reader Term → Reader Term
term_record_at f bytes = fields_at End More f (length bytes) None bytes >>= λ x. Some (Fields x.0, x.1)

-- an operator and the space behind it
unfoldable pub op_at : Reader Op
op_at bytes =
    choose (strip (codes "+ ") bytes) (λ rest. Some (Add, rest)) (
    choose (strip (codes "- ") bytes) (λ rest. Some (Sub, rest)) (
    choose (strip (codes "* ") bytes) (λ rest. Some (Mul, rest)) (
    choose (strip (codes "/ ") bytes) (λ rest. Some (Div, rest)) (
    choose (strip (codes "% ") bytes) (λ rest. Some (Rem, rest)) (
    choose (strip (codes "< ") bytes) (λ rest. Some (Less, rest)) (
    choose (strip (codes "== ") bytes) (λ rest. Some (Equal, rest)) None))))))

unfoldable pub arith_at : Reader Term → Reader Term
arith_at f bytes = op_at bytes >>= λ op. two (Arith op.0) f f op.1

-- a term, a type and the branches up to the parenthesis that closes the form, behind the word that begins it
unfoldable pub case_at : Reader Term → Reader Ty → Reader Term → Reader Term
case_at whole result branch bytes = do
  x ← whole bytes
  s ← strip (codes " ") x.1
  t ← result s
  r ← fields_at End More branch (length t.1) None t.1
  Some (Case x.0 t.0 r.0, r.1)

-- behind the parenthesis that opens a term of the second version only, or an operator
unfoldable pub second_term_node_at : (ℕ → Reader Ty) → (ℕ → ℕ → Reader Term) → ℕ → ℕ → Reader Term
second_term_node_at f e n m bytes =
    choose (strip (codes "inj ") bytes) (three Inj label_at (e n m) (f n)) (
    choose (strip (codes "case ") bytes) (case_at (e n m) (f n) (e n (m + 1))) (
    choose (strip (codes "roll ") bytes) (two Roll (e n m) (f n)) (
    choose (strip (codes "unroll ") bytes) (one Unroll (e n m)) (
    arith_at (e n m) bytes))))

-- behind the parenthesis that opens a term that the first version does not have, or an operator
abbrev pub later_term_node_at : Version → (ℕ → Reader Ty) → (ℕ → ℕ → Reader Term) → ℕ → ℕ → Reader Term
later_term_node_at First f e n m bytes = arith_at (e n m) bytes
later_term_node_at Second f e n m bytes = second_term_node_at f e n m bytes

-- behind the parenthesis that opens a term
unfoldable pub term_node_at : Version → Reader Kind → (ℕ → Reader Ty) → (ℕ → ℕ → Reader Term) → ℕ → ℕ → Reader Term
term_node_at v k f e n m bytes =
    choose (strip (codes "fn ") bytes) (two Lam (f n) (e n (m + 1))) (
    choose (strip (codes "call ") bytes) (two Call (e n m) (e n m)) (
    choose (strip (codes "tfn ") bytes) (two TyLam k (e (n + 1) m)) (
    choose (strip (codes "inst ") bytes) (two Inst (e n m) (f n)) (
    choose (strip (codes "rec") bytes) (term_record_at (e n m)) (
    choose (strip (codes "get ") bytes) (two Get (e n m) label_at) (
    choose (strip (codes "pack ") bytes) (three Pack (f n) (e n m) (f n)) (
    choose (strip (codes "open ") bytes) (two Unpack (e n m) (e (n + 1) (m + 1))) (
    choose (strip (codes "if ") bytes) (three If (e n m) (e n m) (e n m)) (
    choose (strip (codes "fix ") bytes) (three Fix (f n) (f n) (e n (m + 2))) (
    later_term_node_at v f e n m bytes))))))))))

-- a term of a version with n type variables and m term variables in scope
unfoldable pub term_at : Version → ℕ → ℕ → ℕ → Reader Term
term_at v zero n m bytes = term_leaf_at m bytes
term_at v (suc d) n m bytes = choose (strip (codes "(") bytes) (term_node_at v (kind_at d) (ty_at v d) (term_at v d) n m) (term_leaf_at m bytes)

-- ---- what has a spelling

-- The terms of sums and recursive types have a spelling in the second version only. Branches are in strictly rising order, like
-- fields, and one more term variable is in scope in each.
abbrev mutual
  pub TermSpelled : Version → ℕ → ℕ → Term → Type 0
  TermSpelled v n m (Var i) = (i < m) × (m - (i + 1) < 2 ^ 64)
  TermSpelled v n m (Int z) = SignedFits z
  TermSpelled v n m (Bool b) = Unit {0}
  TermSpelled v n m (Text bytes) = all_spelled bytes ≡ true
  TermSpelled v n m (Lam t e) = TySpelled v n t × TermSpelled v n (m + 1) e
  TermSpelled v n m (Call f a) = TermSpelled v n m f × TermSpelled v n m a
  TermSpelled v n m (TyLam k e) = TermSpelled v (n + 1) m e
  TermSpelled v n m (Inst f t) = TermSpelled v n m f × TySpelled v n t
  TermSpelled v n m (Fields r) = TermRowSpelled v n m None r
  TermSpelled v n m (Get e l) = TermSpelled v n m e × LabelSpelled l
  TermSpelled v n m (Pack t e u) = TySpelled v n t × TermSpelled v n m e × TySpelled v n u
  TermSpelled v n m (Unpack e b) = TermSpelled v n m e × TermSpelled v (n + 1) (m + 1) b
  TermSpelled v n m (If a b c) = TermSpelled v n m a × TermSpelled v n m b × TermSpelled v n m c
  TermSpelled v n m (Arith op a b) = TermSpelled v n m a × TermSpelled v n m b
  TermSpelled v n m (Fix t u e) = TySpelled v n t × TySpelled v n u × TermSpelled v n (m + 2) e
  TermSpelled v n m (Inj l e t) = (v ≡ Second) × LabelSpelled l × TermSpelled v n m e × TySpelled v n t
  TermSpelled v n m (Case e t r) = (v ≡ Second) × TermSpelled v n m e × TySpelled v n t × TermRowSpelled v n (m + 1) None r
  TermSpelled v n m (Roll e t) = (v ≡ Second) × TermSpelled v n m e × TySpelled v n t
  TermSpelled v n m (Unroll e) = (v ≡ Second) × TermSpelled v n m e

  pub TermRowSpelled : Version → ℕ → ℕ → Option Label → TermRow → Type 0
  TermRowSpelled v n m last End = Unit {0}
  TermRowSpelled v n m last (More l t r) = (follows last l ≡ true) × LabelSpelled l × TermSpelled v n m t × TermRowSpelled v n m (Some l) r

abbrev mutual
  pub term_deep : Term → ℕ
  term_deep (Var i) = 0
  term_deep (Int z) = 0
  term_deep (Bool b) = 0
  term_deep (Text bytes) = 0
  term_deep (Lam t e) = max (deep t) (term_deep e) + 1
  term_deep (Call f a) = max (term_deep f) (term_deep a) + 1
  term_deep (TyLam k e) = max (kind_deep k) (term_deep e) + 1
  term_deep (Inst f t) = max (term_deep f) (deep t) + 1
  term_deep (Fields r) = term_deep_row r + 1
  term_deep (Get e l) = term_deep e + 1
  term_deep (Pack t e u) = max (deep t) (max (term_deep e) (deep u)) + 1
  term_deep (Unpack e b) = max (term_deep e) (term_deep b) + 1
  term_deep (If a b c) = max (term_deep a) (max (term_deep b) (term_deep c)) + 1
  term_deep (Arith op a b) = max (term_deep a) (term_deep b) + 1
  term_deep (Fix t u e) = max (deep t) (max (deep u) (term_deep e)) + 1
  term_deep (Inj l e t) = max (term_deep e) (deep t) + 1
  term_deep (Case e t r) = max (term_deep e) (max (deep t) (term_deep_row r)) + 1
  term_deep (Roll e t) = max (term_deep e) (deep t) + 1
  term_deep (Unroll e) = term_deep e + 1

  pub term_deep_row : TermRow → ℕ
  term_deep_row End = 0
  term_deep_row (More l t r) = max (term_deep t) (term_deep_row r)
