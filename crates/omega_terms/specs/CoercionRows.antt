-- The statements that each coercion term is typed where its inner coercions are
-- (Rossberg, Russo, Dreyer, F-ing modules, section 4).
use Rattle.std.specs.Prelude.{List, [], ◌∷◌}
use Rattle.omega_kinds.specs.Kind.{Kind}
use Rattle.omega_kinds.specs.declared.label.Label.{Label}
use Rattle.omega_kinds.specs.declared.effect.Effect.{Effect}
use Rattle.omega_types.specs.Ty.{Ty, Row}
use Rattle.omega_types.specs.Substitution.{rename, substitute}
use Rattle.omega_types.specs.Kinding.{HasKind, Fresh}
use Rattle.omega_types.specs.Binders.{extend, past, lifts, raise, all_over, ex_over, puts, OfKinds}
use Rattle.omega_terms.specs.Term.{Term, TermRow}
use Rattle.omega_terms.specs.Typing.{HasType, HasPart}
use Rattle.omega_terms.specs.Coercions.{result_label, same_part, meta_part, fields_part, functor_part, MatchPart, AbsPart}

-- a record type of one field
abbrev pub of_field : Label → Ty → Ty
of_field l t = Ty.Fields (Row.More l t Row.End)

abbrev pub SamePartTyped : Type 0
SamePartTyped = (ctx : List Kind) (from : Ty) → HasKind ctx from Kind.Star → HasType ctx [] (same_part from) (Ty.Arrow from from)

abbrev pub MetaPartTyped : Type 0
MetaPartTyped = (ctx : List Kind) (from to : Ty) → HasKind ctx from Kind.Star → HasKind ctx to Kind.Star → HasType ctx [] (meta_part from to) (Ty.Arrow from (of_field Label.Sig (Ty.Arrow to to)))

-- each coercion leads from the row's part of its label to the part of the other row
pub data PartsTyped (ctx : List Kind) (row : Row) : TermRow → Row → Type 0 where
  end : PartsTyped ctx row TermRow.End Row.End
  more : {l : Label} {t u : Ty} {f : Term} {parts : TermRow} {other : Row} → HasPart row l t → HasType ctx [] f (Ty.Arrow t u) → Fresh l other → PartsTyped ctx row parts other → PartsTyped ctx row (TermRow.More l f parts) (Row.More l u other)

abbrev pub FieldsPartTyped : Type 0
FieldsPartTyped = (ctx : List Kind) (row other : Row) (parts : TermRow) → HasKind ctx (Ty.Fields row) Kind.Star → PartsTyped ctx row parts other → HasType ctx [] (fields_part (Ty.Fields row) parts) (Ty.Arrow (Ty.Fields row) (Ty.Fields other))

-- under js and then ks a type stands at the types ts for ks
abbrev pub at_types : List Kind → List Kind → List Ty → Ty → Ty
at_types ks js ts t = substitute (puts ts Ty.Var) (rename (lifts ks (past js)) t)

abbrev pub FunctorPartTyped : Type 0
FunctorPartTyped = (ctx ks js : List Kind) (e d : Effect) (a r param result : Ty) (ts : List Ty) (f g : Term)
    → HasKind ctx (all_over ks (Ty.Arrow a (of_field (result_label e) r))) Kind.Star → HasKind (extend ctx js) param Kind.Star → OfKinds (extend ctx js) ts ks
    → HasType (extend ctx js) [] f (Ty.Arrow param (at_types ks js ts a)) → HasType (extend ctx js) [] g (Ty.Arrow (at_types ks js ts r) result)
    → HasType ctx [] (functor_part (all_over ks (Ty.Arrow a (of_field (result_label e) r))) e d js param ts f g) (Ty.Arrow (all_over ks (Ty.Arrow a (of_field (result_label e) r))) (all_over js (Ty.Arrow param (of_field (result_label d) result))))

abbrev pub MatchPartTyped : Type 0
MatchPartTyped = (ctx ks : List Kind) (from t : Ty) (ts : List Ty) (f e : Term) → HasKind ctx from Kind.Star → HasKind (extend ctx ks) t Kind.Star → OfKinds ctx ts ks → HasType ctx [] f (Ty.Arrow from (substitute (puts ts Ty.Var) t)) → MatchPart ctx from ts f (ex_over ks t) e → HasType ctx [] e (Ty.Arrow from (ex_over ks t))

-- the left side hides ks, at least one; under them f, ts and the right side stand
abbrev pub AbsPartTyped : Type 0
AbsPartTyped = (ctx ks js : List Kind) (k : Kind) (s t : Ty) (ts : List Ty) (f e : Term)
    → HasKind (extend ctx (k ∷ ks)) s Kind.Star → HasKind (extend ctx js) t Kind.Star → OfKinds (extend ctx (k ∷ ks)) ts js
    → HasType (extend ctx (k ∷ ks)) [] f (Ty.Arrow s (at_types js (k ∷ ks) ts t))
    → AbsPart (extend ctx (k ∷ ks)) (ex_over (k ∷ ks) s) (k ∷ ks) ts f (raise (k ∷ ks) (ex_over js t)) e
    → HasType ctx [] e (Ty.Arrow (ex_over (k ∷ ks) s) (ex_over js t))
