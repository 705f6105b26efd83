-- Which labels and types have a spelling, in each version.
use Rattle.std.specs.Prelude.{◌≡◌, ℕ, ◌+◌, ◌-◌, ◌^◌, ◌<◌, max, List, [], ◌∷◌, Bool, true, false, ◌&&◌, ◌||◌, ◌==◌, Option, Some, None}
use Rattle.std.specs.Char.{is_ascii_digit}
use Rattle.omega_kinds.specs.declared.label.Label.{Label}
use Rattle.omega_kinds.specs.declared.label.Label.TheVariants.{Val, Typ, Sig, App, Gen, Name}
use Rattle.omega_kinds.specs.Kind.{Kind, Star, Arrow as ArrowKind}
use Rattle.omega_types.specs.Ty.{Ty, Row, Var, Int, Bool as BoolTy, Text, Arrow, Fields, Sum, All, Ex, Mu, Lam, Apply, End, More}
use Rattle.omega_terms.specs.declared.version.Version.{Version}
use Rattle.omega_terms.specs.declared.version.Version.TheVariants.{Second}
use Rattle.omega_spelling.specs.Reading.{is_name, all_in_name, follows}

abbrev pub is_hidden : List ℕ → Bool
is_hidden [] = false
is_hidden (p ∷ []) = false
is_hidden (p ∷ d ∷ []) = p == 37 && is_ascii_digit d
is_hidden (p ∷ d ∷ e ∷ rest) = false

abbrev pub LabelSpelled : Label → Type 0
LabelSpelled Val = Unit {0}
LabelSpelled Typ = Unit {0}
LabelSpelled Sig = Unit {0}
LabelSpelled App = Unit {0}
LabelSpelled Gen = Unit {0}
LabelSpelled (Name bytes) = (is_name bytes && all_in_name bytes || is_hidden bytes) ≡ true

-- Variables in scope, numbers of 64 bits, labels that have a spelling, and fields in strictly rising order.
-- Sums and recursive types have a spelling in the second version only.
abbrev mutual
  pub TySpelled : Version → ℕ → Ty → Type 0
  TySpelled v n (Var i) = (i < n) × (n - (i + 1) < 2 ^ 64)
  TySpelled v n Int = Unit {0}
  TySpelled v n BoolTy = Unit {0}
  TySpelled v n Text = Unit {0}
  TySpelled v n (Arrow a b) = TySpelled v n a × TySpelled v n b
  TySpelled v n (Fields r) = RowSpelled v n None r
  TySpelled v n (Sum r) = (v ≡ Second) × RowSpelled v n None r
  TySpelled v n (All k b) = TySpelled v (n + 1) b
  TySpelled v n (Ex k b) = TySpelled v (n + 1) b
  TySpelled v n (Mu b) = (v ≡ Second) × TySpelled v (n + 1) b
  TySpelled v n (Lam k b) = TySpelled v (n + 1) b
  TySpelled v n (Apply f a) = TySpelled v n f × TySpelled v n a

  pub RowSpelled : Version → ℕ → Option Label → Row → Type 0
  RowSpelled v n last End = Unit {0}
  RowSpelled v n last (More l t r) = (follows last l ≡ true) × LabelSpelled l × TySpelled v n t × RowSpelled v n (Some l) r

-- how many forms with parts stand one in the other
abbrev pub kind_deep : Kind → ℕ
kind_deep Star = 0
kind_deep (ArrowKind a b) = max (kind_deep a) (kind_deep b) + 1

abbrev mutual
  pub deep : Ty → ℕ
  deep (Var i) = 0
  deep Int = 0
  deep BoolTy = 0
  deep Text = 0
  deep (Arrow a b) = max (deep a) (deep b) + 1
  deep (Fields r) = deep_row r + 1
  deep (Sum r) = deep_row r + 1
  deep (All k b) = max (kind_deep k) (deep b) + 1
  deep (Ex k b) = max (kind_deep k) (deep b) + 1
  deep (Mu b) = deep b + 1
  deep (Lam k b) = max (kind_deep k) (deep b) + 1
  deep (Apply f a) = max (deep f) (deep a) + 1

  pub deep_row : Row → ℕ
  deep_row End = 0
  deep_row (More l t r) = max (deep t) (deep_row r)
