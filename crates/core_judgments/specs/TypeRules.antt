-- The rules of types, one relation for the conclusion of each, and one for its refusals, over premises that are already
-- elaborated: normal types with their kinds (Rossberg, Russo, Dreyer, F-ing modules, section 4, over a core language that
-- is own). A rule's conditions are tried in order.
use Rattle.std.specs.Prelude.{List, [], ◌∷◌, ◌≢◌}
use Rattle.omega_kinds.specs.Kind.{Kind}
use Rattle.omega_kinds.specs.declared.label.Label.{Label}
use Rattle.omega_kinds.specs.Name.{Name}
use Rattle.omega_types.specs.Ty.{Ty, Row}
use Rattle.omega_types.specs.Normalises.{NormalForm}
use Rattle.sig_definitions.specs.Signatures.RecordOrder.{insert_part, IsNew}
use Rattle.core_judgments.specs.CoreWhy.{CoreWhy, KindDiffer, NotOperator, DuplicateField}

pub data Base : Type 0 where
  Int Bool Text : Base

-- Int, Bool, Text; never refused
pub data BaseGives : Base → Ty → Kind → Type 0 where
  int : BaseGives Base.Int Ty.Int Kind.Star
  bool : BaseGives Base.Bool Ty.Bool Kind.Star
  text : BaseGives Base.Text Ty.Text Kind.Star

-- T -> U: both are types of values
pub data ArrowGives : (from : Ty) (kind : Kind) (to : Ty) (to_kind : Kind) → Ty → Kind → Type 0 where
  arrow : {t u : Ty} → ArrowGives t Kind.Star u Kind.Star (Ty.Arrow t u) Kind.Star

pub data ArrowRefuses : (from : Ty) (kind : Kind) (to : Ty) (to_kind : Kind) → CoreWhy → Type 0 where
  from_kind : {t u : Ty} {k j : Kind}
      → k ≢ Kind.Star
      → ArrowRefuses t k u j (KindDiffer k Kind.Star)
  to_kind : {t u : Ty} {j : Kind}
      → j ≢ Kind.Star
      → ArrowRefuses t Kind.Star u j (KindDiffer j Kind.Star)

-- [X : K] -> T: T, under X, is a type of values
pub data AllGives : (kind : Kind) (body : Ty) (body_kind : Kind) → Ty → Kind → Type 0 where
  all : {k : Kind} {t : Ty} → AllGives k t Kind.Star (Ty.All k t) Kind.Star

pub data AllRefuses : (kind : Kind) (body : Ty) (body_kind : Kind) → CoreWhy → Type 0 where
  body_kind : {k j : Kind} {t : Ty}
      → j ≢ Kind.Star
      → AllRefuses k t j (KindDiffer j Kind.Star)

-- fun (X : K) => T, an operator; never refused
pub data OperatorGives : (kind : Kind) (body : Ty) (body_kind : Kind) → Ty → Kind → Type 0 where
  operator : {k j : Kind} {t : Ty} → OperatorGives k t j (Ty.Lam k t) (Kind.Arrow k j)

-- T U: an operator applied to one argument, in normal form
pub data AppliedGives (ctx : List Kind) : (operator : Ty) (kind : Kind) (arg : Ty) (arg_kind : Kind) → Ty → Kind → Type 0 where
  applied : {t u v : Ty} {k j : Kind}
      → NormalForm ctx (Ty.Apply t u) j v
      → AppliedGives ctx t (Kind.Arrow k j) u k v j

pub data AppliedRefuses : (operator : Ty) (kind : Kind) (arg : Ty) (arg_kind : Kind) → CoreWhy → Type 0 where
  no_operator : {t u : Ty} {l : Kind} → AppliedRefuses t Kind.Star u l NotOperator
  arg_kind : {t u : Ty} {k j l : Kind}
      → l ≢ k
      → AppliedRefuses t (Kind.Arrow k j) u l (KindDiffer l k)

-- a field of a record type, or a label of a sum type with its type
pub data FieldTy : Type 0 where
  field : (name : Name) (ty : Ty) (kind : Kind) → FieldTy

-- {X : T, ..} and case {X : T, ..}: fields of different names, each of a type of values, after fields of the names before;
-- the record type, or the sum type, has them in the order of their labels
pub data RecordTypeGives : (before : List Name) → List FieldTy → Row → Type 0 where
  no_fields : {before : List Name} → RecordTypeGives before [] Row.End
  next_field : {before : List Name} {l : Name} {t : Ty} {rest : List FieldTy} {row : Row}
      → IsNew l before
      → RecordTypeGives (l ∷ before) rest row
      → RecordTypeGives before (field l t Kind.Star ∷ rest) (insert_part (Label.Name l) t row)

-- field by field: first its name, then its kind
pub data RecordTypeRefuses : (before : List Name) → List FieldTy → CoreWhy → Type 0 where
  name_again : {before : List Name} {l : Name} {t : Ty} {k : Kind} {rest : List FieldTy}
      → (IsNew l before → ⊥)
      → RecordTypeRefuses before (field l t k ∷ rest) (DuplicateField l)
  field_kind : {before : List Name} {l : Name} {t : Ty} {k : Kind} {rest : List FieldTy}
      → IsNew l before
      → k ≢ Kind.Star
      → RecordTypeRefuses before (field l t k ∷ rest) (KindDiffer k Kind.Star)
  later_field : {before : List Name} {l : Name} {t : Ty} {rest : List FieldTy} {why : CoreWhy}
      → IsNew l before
      → RecordTypeRefuses (l ∷ before) rest why
      → RecordTypeRefuses before (field l t Kind.Star ∷ rest) why
