-- Inversion of conversion, by normal forms.
-- Main results: one_kind, decides, arrow_parts, all_parts, fields_parts.
use Rattle.std.specs.Prelude.{List, ◌∷◌, ◌≡◌}
use Rattle.std.proofs.Math.Path.{sym, ◌∙◌, ap, subst}
use Rattle.omega_kinds.specs.Kind.{Kind}
use Rattle.omega_kinds.specs.declared.label.Label.{Label}
use Rattle.omega_types.specs.Ty.{Ty, Row}
use Rattle.omega_types.specs.Kinding.{HasKind, HasKinds, Fresh}
use Rattle.omega_types.specs.Kinding.HasKind.{k_arrow, k_fields, k_sum, k_all, k_ex, k_mu}
use Rattle.omega_types.specs.Kinding.HasKinds.{k_end, k_more}
use Rattle.omega_types.specs.Conversion.{Conv, Convs}
use Rattle.omega_types.specs.Conversion.Conv.{c_sym, c_trans}
use Rattle.omega_types.specs.Conversion.Convs.{c_end, c_more}
use Rattle.omega_types.specs.Normaliser.{normal, normal_row}
use Rattle.omega_types.specs.Inversion.{OneKind, Decides, ArrowParts, AllParts, ExParts, FieldsParts, SumParts, MuParts}
use Rattle.omega_types.proofs.Sound.{kinded-code}
use Rattle.omega_types.proofs.Preservation.{conv-kinds}
use Rattle.omega_types.proofs.Hereditary.{normal-gives}
use Rattle.omega_types.proofs.Readback.{unique_normal_forms}

-- a type has at most one kind
pub one_kind : OneKind
one_kind ctx t k l h g = ap (λ c. c.0) (sym (kinded-code h).1 ∙ (kinded-code g).1)

-- convertible types have the same normal form
pub same-normal : {ctx : List Kind} {s t : Ty} {k : Kind} → Conv ctx s t k → normal ctx s ≡ normal ctx t
same-normal {ctx} {s} {t} {k} c =
    let h = conv-kinds c in
    let p = normal-gives h.0 in
    let q = normal-gives h.1 in
    unique_normal_forms ctx (normal ctx s) (normal ctx t) k p.0 q.0 (c_trans (c_sym p.1) (c_trans c q.1))

-- types of one kind with the same normal form are convertible
pub normal-same : {ctx : List Kind} {s t : Ty} {k : Kind} → HasKind ctx s k → HasKind ctx t k → normal ctx s ≡ normal ctx t → Conv ctx s t k
normal-same {ctx} {s} {t} {k} h g e = c_trans (normal-gives h).1 (c_sym (subst (λ u. Conv ctx t u k) (sym e) (normal-gives g).1))

-- types of one kind are convertible exactly where their normal forms are the same
pub decides : Decides
decides ctx s t k h g = (same-normal, normal-same h g)

from_of : Ty → Ty
from_of (Ty.Arrow a b) = a
from_of t = t

to_of : Ty → Ty
to_of (Ty.Arrow a b) = b
to_of t = t

body_of : Ty → Ty
body_of (Ty.All k b) = b
body_of (Ty.Ex k b) = b
body_of (Ty.Mu b) = b
body_of t = t

kind_of : Ty → Kind
kind_of (Ty.All k b) = k
kind_of (Ty.Ex k b) = k
kind_of t = Kind.Star

fields_of : Ty → Row
fields_of (Ty.Fields row) = row
fields_of (Ty.Sum row) = row
fields_of t = Row.End

-- both sides of a function type have kind *
pub arrow-kinds : {ctx : List Kind} {a b : Ty} {k : Kind} → HasKind ctx (Ty.Arrow a b) k → HasKind ctx a Kind.Star × HasKind ctx b Kind.Star
arrow-kinds (k_arrow a b) = (a, b)

-- the body of a universally quantified type has kind *
pub all-kinds : {ctx : List Kind} {l : Kind} {b : Ty} {k : Kind} → HasKind ctx (Ty.All l b) k → HasKind (l ∷ ctx) b Kind.Star
all-kinds (k_all b) = b

-- the body of an existentially quantified type has kind *
pub ex-kinds : {ctx : List Kind} {l : Kind} {b : Ty} {k : Kind} → HasKind ctx (Ty.Ex l b) k → HasKind (l ∷ ctx) b Kind.Star
ex-kinds (k_ex b) = b

-- the parts of a record type have kind *, at distinct labels
pub fields-kinds : {ctx : List Kind} {row : Row} {k : Kind} → HasKind ctx (Ty.Fields row) k → HasKinds ctx row
fields-kinds (k_fields row) = row

-- the parts of a sum type have kind *, at distinct labels
pub sum-kinds : {ctx : List Kind} {row : Row} {k : Kind} → HasKind ctx (Ty.Sum row) k → HasKinds ctx row
sum-kinds (k_sum row) = row

-- the body of a recursive type has kind *
pub mu-kinds : {ctx : List Kind} {b : Ty} {k : Kind} → HasKind ctx (Ty.Mu b) k → HasKind (Kind.Star ∷ ctx) b Kind.Star
mu-kinds (k_mu b) = b

-- convertible function types have convertible sides
pub arrow_parts : ArrowParts
unfolding from_of to_of
arrow_parts ctx a b c d e =
    let h = conv-kinds e in
    let p = arrow-kinds h.0 in
    let q = arrow-kinds h.1 in
    let n = same-normal e in
    (normal-same p.0 q.0 (ap from_of n), normal-same p.1 q.1 (ap to_of n))

-- convertible universally quantified types have one kind and convertible bodies
pub all_parts : AllParts
unfolding body_of kind_of
all_parts ctx k l b c e =
    let h = conv-kinds e in
    let p : HasKind (k ∷ ctx) b Kind.Star = all-kinds h.0 in
    let q : HasKind (l ∷ ctx) c Kind.Star = all-kinds h.1 in
    let n = same-normal e in
    let i : k ≡ l = ap kind_of n in
    let m : normal (k ∷ ctx) b ≡ normal (l ∷ ctx) c = ap body_of n in
    (i, normal-same p (subst (λ j. HasKind (j ∷ ctx) c Kind.Star) (sym i) q) (subst (λ j. normal (k ∷ ctx) b ≡ normal (j ∷ ctx) c) (sym i) m))

-- convertible existentially quantified types have one kind and convertible bodies
pub ex_parts : ExParts
unfolding body_of kind_of
ex_parts ctx k l b c e =
    let h = conv-kinds e in
    let p : HasKind (k ∷ ctx) b Kind.Star = ex-kinds h.0 in
    let q : HasKind (l ∷ ctx) c Kind.Star = ex-kinds h.1 in
    let n = same-normal e in
    let i : k ≡ l = ap kind_of n in
    let m : normal (k ∷ ctx) b ≡ normal (l ∷ ctx) c = ap body_of n in
    (i, normal-same p (subst (λ j. HasKind (j ∷ ctx) c Kind.Star) (sym i) q) (subst (λ j. normal (k ∷ ctx) b ≡ normal (j ∷ ctx) c) (sym i) m))

-- convertible recursive types have convertible bodies
pub mu_parts : MuParts
unfolding body_of
mu_parts ctx b c e =
    let h = conv-kinds e in
    normal-same (mu-kinds h.0) (mu-kinds h.1) (ap body_of (same-normal e))

-- rows of one normal form

part_of : Row → Ty
part_of Row.End = Ty.Int
part_of (Row.More l t rest) = t

rest_of : Row → Row
rest_of Row.End = Row.End
rest_of (Row.More l t rest) = rest

label_of : Row → Label
label_of Row.End = Label.Val
label_of (Row.More l t rest) = l

IsEnd : Row → Type 0
IsEnd Row.End = Unit {0}
IsEnd (Row.More l t rest) = ⊥

rows-same : {ctx : List Kind} {row other : Row} → HasKinds ctx row → HasKinds ctx other → normal_row ctx row ≡ normal_row ctx other → Convs ctx row other
unfolding part_of rest_of label_of IsEnd
rows-same k_end k_end e = c_end
rows-same k_end (k_more f t ts) e = absurd (subst IsEnd e tt)
rows-same (k_more f t ts) k_end e = absurd (subst IsEnd (sym e) tt)
rows-same {ctx} (k_more {l = l} {t = s} {rest = rest} f t ts) (k_more {l = m} {t = u} {rest = other} g v vs) e =
    let i : l ≡ m = ap label_of e in
    let j = normal-same t v (ap part_of e) in
    let r = rows-same ts vs (ap rest_of e) in
    subst (λ x. Convs ctx (Row.More l s rest) (Row.More x u other)) i (c_more f (subst (λ x. Fresh x other) (sym i) g) j r)

-- convertible record types have the same labels at convertible parts
pub fields_parts : FieldsParts
unfolding fields_of
fields_parts ctx row other e =
    let h = conv-kinds e in
    rows-same (fields-kinds h.0) (fields-kinds h.1) (ap fields_of (same-normal e))

-- convertible sum types have the same labels at convertible parts
pub sum_parts : SumParts
unfolding fields_of
sum_parts ctx row other e =
    let h = conv-kinds e in
    rows-same (sum-kinds h.0) (sum-kinds h.1) (ap fields_of (same-normal e))
