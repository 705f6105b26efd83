-- The type of a term in normal form, found by recursion on the term. The types of the term variables are normal too.
use Rattle.std.specs.Prelude.{zero, List, ◌∷◌, Option, Some, None, Bool as Truth, true, false, ◌&&◌, if◌then◌else◌, not, slice_get}
use Rattle.std.specs.Option.{option_map}
use Rattle.std.specs.Ordering.{is_eq}
use Rattle.omega_kinds.specs.Kind.{Kind, kind_eq}
use Rattle.omega_kinds.specs.LabelOrder.{label_cmp}
use Rattle.omega_kinds.specs.declared.label.Label.{Label}
use Rattle.omega_types.specs.Ty.{Ty, Row}
use Rattle.omega_types.specs.KindIn.{kind_in}
use Rattle.omega_types.specs.Mentions.{lower}
use Rattle.omega_types.specs.Normaliser.{normal, hsubst}
use Rattle.type_normal.specs.Mentioned.{is_mentioned}
use Rattle.omega_terms.specs.declared.op.Op.{Op}
use Rattle.omega_terms.specs.Term.{Term, TermRow}
use Rattle.omega_terms.specs.Typing.{shift_all, result_type}
use Rattle.omega_node_laws.specs.SameTy.{same_ty}

-- what is made of a type, where there is one
abbrev pub and_then : Option Ty → (Ty → Option Ty) → Option Ty
and_then None f = None
and_then (Some t) f = f t

-- the normal form of a type, where it has the kind
abbrev pub if_kind : Option Kind → Kind → Ty → Option Ty
if_kind None k n = None
if_kind (Some j) k n = if kind_eq j k then Some n else None

abbrev pub normal_at : List Kind → Ty → Kind → Option Ty
normal_at ctx t k = if_kind (kind_in ctx t) k (normal ctx t)

-- the normal form of the body with a type put in for its variable, where the type has the variable's kind
abbrev pub put_normal : Kind → Ty → Option Ty → Option Ty
put_normal k b None = None
put_normal k b (Some n) = Some (hsubst k zero n b)

-- ---- one rule for each form, from the types of the parts

abbrev pub called : Ty → Ty → Option Ty
called (Ty.Arrow t u) a = if same_ty t a then Some u else None
called _ a = None

abbrev pub call_type : Option Ty → Option Ty → Option Ty
call_type None o = None
call_type (Some f) None = None
call_type (Some f) (Some a) = called f a

-- the type of a function's body, from that of the argument which the function is called with at once. An argument of
-- exactly the type that is written there is enough: types that are found are normal
abbrev pub let_type : Option Ty → Ty → (Ty → Option Ty) → Option Ty → Option Ty
let_type from t body None = None
let_type from t body (Some u) = if same_ty t u then body u else call_type (and_then from (λ n. option_map (Ty.Arrow n) (body n))) (Some u)

abbrev pub instantiated : List Kind → Ty → Ty → Option Ty
instantiated ctx (Ty.All k b) t = put_normal k b (normal_at ctx t k)
instantiated ctx _ t = None

abbrev pub inst_type : List Kind → Option Ty → Ty → Option Ty
inst_type ctx None t = None
inst_type ctx (Some s) t = instantiated ctx s t

abbrev pub part_at : Row → Label → Option Ty
part_at Row.End l = None
part_at (Row.More m t r) l = if is_eq (label_cmp m l) then Some t else part_at r l

abbrev pub part_of : Ty → Label → Option Ty
part_of (Ty.Fields r) l = part_at r l
part_of _ l = None

abbrev pub get_type : Option Ty → Label → Option Ty
get_type None l = None
get_type (Some s) l = part_of s l

abbrev pub if_same : Ty → Option Ty → Option Ty → Option Ty
if_same n None o = None
if_same n (Some s) None = None
if_same n (Some s) (Some t) = if same_ty s t then Some n else None

abbrev pub packed : List Kind → Ty → Ty → Option Ty → Option Ty
packed ctx t (Ty.Ex k b) o = if_same (Ty.Ex k b) (put_normal k b (normal_at ctx t k)) o
packed ctx t _ o = None

abbrev pub pack_type : List Kind → Ty → Option Ty → Option Ty → Option Ty
pack_type ctx t None o = None
pack_type ctx t (Some n) o = packed ctx t n o

-- whether a type is the body of a binder of kind * with a normal type put in
abbrev pub is_put : Option Ty → Ty → Option Ty → Truth
is_put None b o = false
is_put (Some n) b None = false
is_put (Some n) b (Some s) = same_ty (hsubst Kind.Star zero n b) s

-- whether a target, as it is written, hides a type of kind * in the type of what is packed
abbrev pub is_target : List Kind → Ty → Ty → Option Ty → Truth
is_target ctx t (Ty.Ex Kind.Star b) o = is_put (normal_at ctx t Kind.Star) b o
is_target ctx t _ o = false

-- the type of a package, from the types that are hidden and written and that of what is packed. A target that hides the type
-- in that type is enough: types that are found are normal, and so it is
abbrev pub target_type : List Kind → Ty → Ty → Option Ty → Option Ty
target_type ctx t u o = if is_target ctx t u o then Some u else normal_at ctx u Kind.Star

-- the type that is raised to this one, where it does not mention the variable
abbrev pub lowered : Option Ty → Option Ty
lowered None = None
lowered (Some s) = if is_mentioned zero s then None else Some (lower 1 s)

abbrev pub of_package : Ty → (Kind → Ty → Option Ty) → Option Ty
of_package (Ty.Ex k b) f = f k b
of_package _ f = None

abbrev pub if_type : Option Ty → Option Ty → Option Ty → Option Ty
if_type None o p = None
if_type (Some s) None p = None
if_type (Some s) (Some t) None = None
if_type (Some s) (Some t) (Some u) = if (same_ty s Ty.Bool && same_ty t u) then Some t else None

abbrev pub op_type : Op → Option Ty → Option Ty → Option Ty
op_type op None o = None
op_type op (Some s) None = None
op_type op (Some s) (Some t) = if (same_ty s Ty.Int && same_ty t Ty.Int) then Some (result_type op) else None

abbrev pub fix_type : Ty → Ty → Option Ty → Option Ty
fix_type n m None = None
fix_type n m (Some s) = if same_ty m s then Some (Ty.Arrow n m) else None

-- the type that an injection names, where it is a sum that has the part's type at the label
abbrev pub injected : Label → Ty → Option Ty → Option Ty
injected l (Ty.Sum r) o = if_same (Ty.Sum r) (part_at r l) o
injected l _ o = None

abbrev pub inj_type : Label → Option Ty → Option Ty → Option Ty
inj_type l None o = None
inj_type l (Some n) o = injected l n o

-- the type that a case names, where what is taken apart is of a sum whose branches pass
abbrev pub if_sum : Ty → Ty → (Row → Truth) → Option Ty
if_sum (Ty.Sum r) n f = if f r then Some n else None
if_sum _ n f = None

abbrev pub case_type : Option Ty → Option Ty → (Row → Ty → Truth) → Option Ty
case_type None o f = None
case_type (Some s) None f = None
case_type (Some s) (Some n) f = if_sum s n (λ r. f r n)

-- whether a type was found, and is this one
abbrev pub is_found : Ty → Option Ty → Truth
is_found n None = false
is_found n (Some s) = same_ty n s

-- the body of a recursive type with that type put in for its variable
abbrev pub unfolded : Ty → Ty
unfolded b = hsubst Kind.Star zero (Ty.Mu b) b

-- the type that a roll names, where it is recursive and the part has the type that it unfolds to
abbrev pub rolled : Ty → Option Ty → Option Ty
rolled (Ty.Mu b) o = if_same (Ty.Mu b) (Some (unfolded b)) o
rolled _ o = None

abbrev pub roll_type : Option Ty → Option Ty → Option Ty
roll_type None o = None
roll_type (Some n) o = rolled n o

abbrev pub unrolled : Ty → Option Ty
unrolled (Ty.Mu b) = Some (unfolded b)
unrolled _ = None

abbrev pub unroll_type : Option Ty → Option Ty
unroll_type None = None
unroll_type (Some s) = unrolled s

abbrev pub more_type : Label → Option Ty → Option Row → Option Row
more_type l None r = None
more_type l (Some t) None = None
more_type l (Some t) (Some r) = Some (Row.More l t r)

-- a label is none of the fields', and all of their labels are different
abbrev pub is_new : Label → TermRow → Truth
is_new l TermRow.End = true
is_new l (TermRow.More m e rest) = not (is_eq (label_cmp l m)) && is_new l rest

abbrev pub labels_differ : TermRow → Truth
labels_differ TermRow.End = true
labels_differ (TermRow.More l e rest) = is_new l rest && labels_differ rest

-- ---- the type of a term

abbrev mutual
  pub synth_in : List Kind → List Ty → Term → Option Ty
  synth_in ctx vars (Term.Var n) = slice_get vars n
  synth_in ctx vars (Term.Int z) = Some Ty.Int
  synth_in ctx vars (Term.Bool b) = Some Ty.Bool
  synth_in ctx vars (Term.Text s) = Some Ty.Text
  synth_in ctx vars (Term.Lam t e) = and_then (normal_at ctx t Kind.Star) (λ n. option_map (Ty.Arrow n) (synth_in ctx (n ∷ vars) e))
  synth_in ctx vars (Term.Call (Term.Lam t e) a) = let_type (normal_at ctx t Kind.Star) t (λ n. synth_in ctx (n ∷ vars) e) (synth_in ctx vars a)
  synth_in ctx vars (Term.Call f a) = call_type (synth_in ctx vars f) (synth_in ctx vars a)
  synth_in ctx vars (Term.TyLam k e) = option_map (Ty.All k) (synth_in (k ∷ ctx) (shift_all vars) e)
  synth_in ctx vars (Term.Inst e t) = inst_type ctx (synth_in ctx vars e) t
  synth_in ctx vars (Term.Fields row) = if labels_differ row then option_map Ty.Fields (synth_row ctx vars row) else None
  synth_in ctx vars (Term.Get e l) = get_type (synth_in ctx vars e) l
  synth_in ctx vars (Term.Pack t e u) = pack_type ctx t (target_type ctx t u (synth_in ctx vars e)) (synth_in ctx vars e)
  synth_in ctx vars (Term.Unpack p e) = and_then (synth_in ctx vars p) (λ s. of_package s (λ k b. lowered (synth_in (k ∷ ctx) (b ∷ shift_all vars) e)))
  synth_in ctx vars (Term.If a b c) = if_type (synth_in ctx vars a) (synth_in ctx vars b) (synth_in ctx vars c)
  synth_in ctx vars (Term.Arith op a b) = op_type op (synth_in ctx vars a) (synth_in ctx vars b)
  synth_in ctx vars (Term.Fix t u e) = and_then (normal_at ctx t Kind.Star) (λ n. and_then (normal_at ctx u Kind.Star) (λ m. fix_type n m (synth_in ctx (n ∷ (Ty.Arrow n m ∷ vars)) e)))
  synth_in ctx vars (Term.Inj l e t) = inj_type l (normal_at ctx t Kind.Star) (synth_in ctx vars e)
  synth_in ctx vars (Term.Case e t row) = case_type (synth_in ctx vars e) (normal_at ctx t Kind.Star) (synth_branches ctx vars row)
  synth_in ctx vars (Term.Roll e t) = roll_type (normal_at ctx t Kind.Star) (synth_in ctx vars e)
  synth_in ctx vars (Term.Unroll e) = unroll_type (synth_in ctx vars e)

  pub synth_row : List Kind → List Ty → TermRow → Option Row
  synth_row ctx vars TermRow.End = Some Row.End
  synth_row ctx vars (TermRow.More l e rest) = more_type l (synth_in ctx vars e) (synth_row ctx vars rest)

  -- whether the branches have the labels of the row, one by one, and each has the type under a variable of its label's
  pub synth_branches : List Kind → List Ty → TermRow → Row → Ty → Truth
  synth_branches ctx vars TermRow.End Row.End n = true
  synth_branches ctx vars TermRow.End (Row.More m u r) n = false
  synth_branches ctx vars (TermRow.More l e rest) Row.End n = false
  synth_branches ctx vars (TermRow.More l e rest) (Row.More m u r) n = is_eq (label_cmp l m) && (is_found n (synth_in ctx (u ∷ vars) e) && synth_branches ctx vars rest r n)
