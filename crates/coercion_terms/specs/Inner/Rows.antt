-- What the coercion terms of functors and of signatures that hide types are, and which types they have.
use Rattle.std.specs.Prelude.{ℕ, List, [], ◌∷◌, ◌≡◌, length}
use Rattle.omega_kinds.specs.Kind.{Kind}
use Rattle.omega_kinds.specs.declared.label.Label.{Label}
use Rattle.omega_kinds.specs.declared.effect.Effect.{Effect}
use Rattle.omega_types.specs.Ty.{Ty, Row}
use Rattle.omega_types.specs.Substitution.{substitute}
use Rattle.omega_types.specs.Kinding.{HasKind}
use Rattle.omega_types.specs.Normality.{Normal}
use Rattle.omega_types.specs.Binders.{extend, raise, all_over, ex_over, puts, OfKinds, NormalForms}
use Rattle.omega_terms.specs.Term.{Term, TermRow}
use Rattle.omega_terms.specs.Typing.{HasType}
use Rattle.omega_terms.specs.Coercions.{result_label, MatchPart, AbsPart}
use Rattle.omega_terms.specs.CoercionRows.{of_field, PartsTyped, at_types}
use Rattle.omega_shorthands.specs.Inner.Packed.{Fills}

-- the term is that of the rule, in each context where the types fill the quantifiers
abbrev pub IsMatchPart : (from : Ty) (ts : List Ty) (f : Term) (to : Ty) → Term → Type 0
IsMatchPart from ts f to e = (ctx : List Kind) → Fills ctx ts to → MatchPart ctx from ts f to e

abbrev pub IsAbsPart : (from : Ty) (count : ℕ) (ts : List Ty) (f : Term) (to : Ty) → Term → Type 0
IsAbsPart from count ts f to e = (ctx ks : List Kind) → length ks ≡ count → Fills ctx ts to → AbsPart ctx from ks ts f to e

-- the types of the terms

abbrev pub HasSameType : (from : Ty) → Term → Type 0
HasSameType from e = (ctx : List Kind) → HasKind ctx from Kind.Star → HasType ctx [] e (Ty.Arrow from from)

abbrev pub HasMetaType : (from to : Ty) → Term → Type 0
HasMetaType from to e = (ctx : List Kind) → HasKind ctx from Kind.Star → HasKind ctx to Kind.Star → HasType ctx [] e (Ty.Arrow from (of_field Label.Sig (Ty.Arrow to to)))

abbrev pub HasFieldsType : (from : Ty) → TermRow → Term → Type 0
HasFieldsType from parts e = (ctx : List Kind) (row other : Row) → from ≡ Ty.Fields row → HasKind ctx from Kind.Star → PartsTyped ctx row parts other → HasType ctx [] e (Ty.Arrow from (Ty.Fields other))

abbrev pub HasFunctorType : (from : Ty) (left right : Effect) (js : List Kind) (param : Ty) (ts : List Ty) (f g : Term) → Term → Type 0
HasFunctorType from left right js param ts f g e =
    (ctx ks : List Kind) (a r result : Ty) → from ≡ all_over ks (Ty.Arrow a (of_field (result_label left) r))
    → HasKind ctx from Kind.Star → HasKind (extend ctx js) param Kind.Star → OfKinds (extend ctx js) ts ks
    → HasType (extend ctx js) [] f (Ty.Arrow param (at_types ks js ts a)) → HasType (extend ctx js) [] g (Ty.Arrow (at_types ks js ts r) result)
    → HasType ctx [] e (Ty.Arrow from (all_over js (Ty.Arrow param (of_field (result_label right) result))))

abbrev pub HasMatchType : (from : Ty) (ts : List Ty) (f : Term) (to : Ty) → Term → Type 0
HasMatchType from ts f to e =
    (ctx ks : List Kind) (t : Ty) → to ≡ ex_over ks t → Normal ctx to Kind.Star → NormalForms ctx ts ks ts
    → HasKind ctx from Kind.Star → HasKind (extend ctx ks) t Kind.Star → HasType ctx [] f (Ty.Arrow from (substitute (puts ts Ty.Var) t))
    → HasType ctx [] e (Ty.Arrow from to)

-- the left side hides ks, at least one; the right side is written outside them
abbrev pub HasAbsType : (from : Ty) (count : ℕ) (ts : List Ty) (f : Term) (to : Ty) → Term → Type 0
HasAbsType from count ts f to e =
    (ctx ks js : List Kind) (k : Kind) (s t : Ty) → length (k ∷ ks) ≡ count → from ≡ ex_over (k ∷ ks) s → to ≡ raise (k ∷ ks) (ex_over js t)
    → Fills (extend ctx (k ∷ ks)) ts to → OfKinds (extend ctx (k ∷ ks)) ts js
    → HasKind (extend ctx (k ∷ ks)) s Kind.Star → HasKind (extend ctx js) t Kind.Star → HasType (extend ctx (k ∷ ks)) [] f (Ty.Arrow s (at_types js (k ∷ ks) ts t))
    → HasType ctx [] e (Ty.Arrow from (ex_over js t))
