-- Reading kinds, labels and types from bytes: what is read from the start, and the bytes after it.
use Rattle.std.specs.Prelude.{ℕ, zero, suc, ◌+◌, ◌-◌, ◌*◌, ◌^◌, List, [], ◌∷◌, length, codes, Bool, true, false, not, ◌&&◌, ◌||◌, ◌==◌, nat_lt, if◌then◌else◌, Option, Some, None}
use Rattle.std.specs.Cmp.Lexicographic.{pointwise}
use Rattle.std.specs.Char.{is_ascii_digit, is_ascii_alphabetic}
use Rattle.omega_kinds.specs.declared.label.Label.{Label}
use Rattle.omega_kinds.specs.declared.label.Label.TheVariants.{Val, Typ, Sig, App, Gen, Name}
use Rattle.omega_kinds.specs.LabelOrder.{label_before}
use Rattle.omega_kinds.specs.Kind.{Kind, Star, Arrow as ArrowKind}
use Rattle.omega_types.specs.Ty.{Ty, Row, Var, Int, Bool as BoolTy, Text, Arrow, Fields, Sum, All, Ex, Mu, Lam, Apply, End, More}
use Rattle.omega_terms.specs.declared.version.Version.{Version}
use Rattle.omega_terms.specs.declared.version.Version.TheVariants.{First, Second}

infixl 10 ◌>>=◌
abbrev pub ◌>>=◌ : {A B : Type 0} → Option A → (A → Option B) → Option B
(Some x) >>= f = f x
None >>= f = None

-- what is read from the start, and the bytes after it
abbrev pub Reader : Type 0 → Type 0
Reader A = List ℕ → Option (A × List ℕ)

-- takes just these bytes from the start
unfoldable pub strip : List ℕ → List ℕ → Option (List ℕ)
strip [] bs = Some bs
strip (p ∷ ps) [] = None
strip (p ∷ ps) (b ∷ bs) = if b == p then strip ps bs else None

-- goes on with the one where the bytes were there, and with the other where they were not
abbrev pub choose : {A : Type 0} → Option (List ℕ) → (List ℕ → Option A) → Option A → Option A
choose (Some rest) f o = f rest
choose None f o = o

abbrev pub passes : (ℕ → Bool) → List ℕ → Bool
passes p [] = true
passes p (b ∷ bs) = p b && passes p bs

-- the longest prefix of bytes that pass, and the rest
unfoldable pub run : (ℕ → Bool) → List ℕ → List ℕ × List ℕ
run p [] = ([], [])
run p (b ∷ bs) = if p b then (b ∷ (run p bs).0, (run p bs).1) else ([], b ∷ bs)

-- ---- numbers

abbrev pub value_after : ℕ → List ℕ → ℕ
value_after n [] = n
value_after n (c ∷ cs) = value_after (10 * n + (c - 48)) cs

abbrev pub value_of : List ℕ → ℕ
value_of ds = value_after 0 ds

-- one digit, or more of which the first is no zero
abbrev pub is_plain : List ℕ → Bool
is_plain [] = false
is_plain (d ∷ []) = true
is_plain (d ∷ e ∷ ds) = not (d == 48)

unfoldable pub number_at : Reader ℕ
number_at bytes =
    let r = run is_ascii_digit bytes in
    if is_plain r.0 && nat_lt (value_of r.0) (2 ^ 64) then Some (value_of r.0, r.1) else None

-- ---- labels

abbrev pub begins_name : ℕ → Bool
begins_name b = is_ascii_alphabetic b || b == 95

abbrev pub in_name : ℕ → Bool
in_name b = begins_name b || is_ascii_digit b || b == 39

abbrev pub is_one_of : List (List ℕ) → List ℕ → Bool
is_one_of [] bytes = false
is_one_of (w ∷ ws) bytes = pointwise ◌==◌ w bytes || is_one_of ws bytes

unfoldable pub is_keyword : List ℕ → Bool
is_keyword bytes = is_one_of
    (codes "val" ∷ codes "type" ∷ codes "module" ∷ codes "signature" ∷ codes "include" ∷ codes "struct" ∷ codes "sig" ∷ codes "end" ∷ codes "let" ∷ codes "in"
    ∷ codes "fun" ∷ codes "gen" ∷ codes "fix" ∷ codes "if" ∷ codes "then" ∷ codes "else" ∷ codes "pack" ∷ codes "unpack" ∷ codes "from" ∷ codes "where"
    ∷ codes "true" ∷ codes "false" ∷ codes "Int" ∷ codes "Bool" ∷ codes "Text" ∷ codes "Type" ∷ codes "case" ∷ codes "of" ∷ codes "inj" ∷ codes "data" ∷ codes "roll" ∷ codes "unroll" ∷ [])
    bytes

abbrev pub all_in_name : List ℕ → Bool
all_in_name bytes = passes in_name bytes

-- a name that is no keyword
abbrev pub is_name : List ℕ → Bool
is_name [] = false
is_name (b ∷ bs) = begins_name b && not (is_keyword (b ∷ bs))

-- a percent sign and a digit
unfoldable pub hidden_at : Reader Label
hidden_at [] = None
hidden_at (d ∷ bytes) = if is_ascii_digit d then Some (Name (37 ∷ d ∷ []), bytes) else None

unfoldable pub name_at : Reader Label
name_at bytes =
    let r = run in_name bytes in
    if is_name r.0 then Some (Name r.0, r.1) else None

unfoldable pub label_at : Reader Label
label_at bytes =
    choose (strip (codes ".val") bytes) (λ rest. Some (Val, rest)) (
    choose (strip (codes ".typ") bytes) (λ rest. Some (Typ, rest)) (
    choose (strip (codes ".sig") bytes) (λ rest. Some (Sig, rest)) (
    choose (strip (codes ".app") bytes) (λ rest. Some (App, rest)) (
    choose (strip (codes ".gen") bytes) (λ rest. Some (Gen, rest)) (
    choose (strip (codes "%") bytes) hidden_at (name_at bytes))))))

-- ---- kinds

-- one part and a parenthesis after it
unfoldable pub one : {A B : Type 0} → (A → B) → Reader A → Reader B
one mk f bytes = do
  x ← f bytes
  e ← strip (codes ")") x.1
  Some (mk x.0, e)

-- two parts with a space between them and a parenthesis after them
unfoldable pub two : {A B C : Type 0} → (A → B → C) → Reader A → Reader B → Reader C
two mk f g bytes = do
  x ← f bytes
  s ← strip (codes " ") x.1
  y ← g s
  e ← strip (codes ")") y.1
  Some (mk x.0 y.0, e)

-- a kind with at most so many parentheses open at once
unfoldable pub kind_at : ℕ → Reader Kind
kind_at zero bytes = choose (strip (codes "*") bytes) (λ rest. Some (Star, rest)) None
kind_at (suc d) bytes =
    choose (strip (codes "*") bytes) (λ rest. Some (Star, rest)) (choose (strip (codes "(> ") bytes) (two ArrowKind (kind_at d) (kind_at d)) None)

-- ---- types

unfoldable pub var_at : ℕ → Reader Ty
var_at n bytes = do
  x ← number_at bytes
  if nat_lt x.0 n then Some (Var (n - (x.0 + 1)), x.1) else None

unfoldable pub leaf_at : ℕ → Reader Ty
leaf_at n bytes =
    choose (strip (codes "a") bytes) (var_at n) (
    choose (strip (codes "int") bytes) (λ rest. Some (Int, rest)) (
    choose (strip (codes "bool") bytes) (λ rest. Some (BoolTy, rest)) (
    choose (strip (codes "text") bytes) (λ rest. Some (Text, rest)) None)))

-- whether a label may come after the last one
abbrev pub follows : Option Label → Label → Bool
follows None l = true
follows (Some k) l = label_before k l

-- a label and a part, behind the parenthesis that opens them
unfoldable pub field_at : {T : Type 0} → Reader T → Reader (Label × T)
field_at {T} f bytes = two (λ (l : Label) (t : T). (l, t)) label_at f bytes

-- The fields up to the parenthesis that closes the form, in at most so many turns, behind the last label:
-- end is the row of no fields, and more puts a field in front of a row.
unfoldable pub fields_at : {T R : Type 0} → R → (Label → T → R → R) → Reader T → ℕ → Option Label → Reader R
fields_at end more f zero last bytes = None
fields_at end more f (suc k) last bytes =
    choose (strip (codes " (") bytes) (λ b. do
      x ← field_at f b
      r ← fields_at end more f k (Some x.0.0) x.1
      if follows last x.0.0 then Some (more x.0.0 x.0.1 r.0, r.1) else None)
    (choose (strip (codes ")") bytes) (λ rest. Some (end, rest)) None)

-- a form of fields, as a record
unfoldable pub row_at : (Row → Ty) → Reader Ty → Reader Ty
row_at mk f bytes = fields_at End More f (length bytes) None bytes >>= λ x. Some (mk x.0, x.1)

-- behind the parenthesis that opens a type of the second version only
unfoldable pub second_node_at : (ℕ → Reader Ty) → ℕ → Reader Ty
second_node_at f n bytes =
    choose (strip (codes "sum") bytes) (row_at Sum (f n)) (
    choose (strip (codes "mu ") bytes) (one Mu (f (n + 1))) None)

-- behind the parenthesis that opens a type that the first version does not have
abbrev pub later_node_at : Version → (ℕ → Reader Ty) → ℕ → Reader Ty
later_node_at First f n bytes = None
later_node_at Second f n bytes = second_node_at f n bytes

-- behind the parenthesis that opens a type
unfoldable pub node_at : Version → Reader Kind → (ℕ → Reader Ty) → ℕ → Reader Ty
node_at v k f n bytes =
    choose (strip (codes "-> ") bytes) (two Arrow (f n) (f n)) (
    choose (strip (codes "rec") bytes) (row_at Fields (f n)) (
    choose (strip (codes "all ") bytes) (two All k (f (n + 1))) (
    choose (strip (codes "some ") bytes) (two Ex k (f (n + 1))) (
    choose (strip (codes "lam ") bytes) (two Lam k (f (n + 1))) (
    choose (strip (codes "@ ") bytes) (two Apply (f n) (f n)) (
    later_node_at v f n bytes))))))

-- a type of a version with n type variables in scope, and at most so many parentheses open at once
unfoldable pub ty_at : Version → ℕ → ℕ → Reader Ty
ty_at v zero n bytes = leaf_at n bytes
ty_at v (suc d) n bytes = choose (strip (codes "(") bytes) (node_at v (kind_at d) (ty_at v d) n) (leaf_at n bytes)
