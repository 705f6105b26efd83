-- Types whose outermost form is another than a rule needs.
-- Main results: no-sum, not-arrow, not-all, not-record.
use Rattle.std.proofs.Common.{◌≡◌, refl, subst, ◌∙◌}
use Rattle.omega_kinds.specs.declared.kind.Kind.{Kind as KindHandle}
use Rattle.omega_types.specs.Ty.{Ty}
use Rattle.omega_types.specs.Inner.View.{ty_of}
use Rattle.omega_types.specs.declared.tree.Ty.{Ty as TyHandle}
use Rattle.omega_types.specs.declared.tree.TyFields.{TyFields}
use Rattle.omega_types.specs.declared.tree.TyNode.{TyNode}
use Rattle.omega_types.specs.declared.tree.TyNode.TheVariants as node
use Rattle.core_judgments.specs.CoreWhy.{NotArrow, NotAll, NotRecord, IsNoArrow, IsNoAll, IsNoRecord, IsNoSum}
use Rattle.core_judgments.specs.ExpRules.{CallRefuses, InstanceRefuses, GetRefuses}
use Rattle.omega_kinds.specs.Kind.{Kind}
use Rattle.omega_kinds.specs.Name.{Name}

arrow-node : (n : TyNode) → ((a b : TyHandle) → n ≡ node.Arrow a b → ⊥) → IsNoArrow (ty_of n)
arrow-node (node.Var i) h = tt
arrow-node node.Int h = tt
arrow-node node.Bool h = tt
arrow-node node.Text h = tt
arrow-node (node.Arrow a b) h = absurd (h a b refl)
arrow-node (node.Fields f) h = tt
arrow-node (node.Sum f) h = tt
arrow-node (node.All k b) h = tt
arrow-node (node.Ex k b) h = tt
arrow-node (node.Mu b) h = tt
arrow-node (node.Lam k b) h = tt
arrow-node (node.Apply a b) h = tt

no-arrow : (n : TyNode) (s t : Ty) → ty_of n ≡ s → s ≡ t → ((a b : TyHandle) → n ≡ node.Arrow a b → ⊥) → IsNoArrow t
no-arrow n s t p q h = subst IsNoArrow (p ∙ q) (arrow-node n h)

all-node : (n : TyNode) → ((k : KindHandle) (b : TyHandle) → n ≡ node.All k b → ⊥) → IsNoAll (ty_of n)
all-node (node.Var i) h = tt
all-node node.Int h = tt
all-node node.Bool h = tt
all-node node.Text h = tt
all-node (node.Arrow a b) h = tt
all-node (node.Fields f) h = tt
all-node (node.Sum f) h = tt
all-node (node.All k b) h = absurd (h k b refl)
all-node (node.Ex k b) h = tt
all-node (node.Mu b) h = tt
all-node (node.Lam k b) h = tt
all-node (node.Apply a b) h = tt

no-all : (n : TyNode) (s t : Ty) → ty_of n ≡ s → s ≡ t → ((k : KindHandle) (b : TyHandle) → n ≡ node.All k b → ⊥) → IsNoAll t
no-all n s t p q h = subst IsNoAll (p ∙ q) (all-node n h)

record-node : (n : TyNode) → ((f : TyFields) → n ≡ node.Fields f → ⊥) → IsNoRecord (ty_of n)
record-node (node.Var i) h = tt
record-node node.Int h = tt
record-node node.Bool h = tt
record-node node.Text h = tt
record-node (node.Arrow a b) h = tt
record-node (node.Fields f) h = absurd (h f refl)
record-node (node.Sum f) h = tt
record-node (node.All k b) h = tt
record-node (node.Ex k b) h = tt
record-node (node.Mu b) h = tt
record-node (node.Lam k b) h = tt
record-node (node.Apply a b) h = tt

no-record : (n : TyNode) (s t : Ty) → ty_of n ≡ s → s ≡ t → ((f : TyFields) → n ≡ node.Fields f → ⊥) → IsNoRecord t
no-record n s t p q h = subst IsNoRecord (p ∙ q) (record-node n h)

sum-node : (n : TyNode) → ((f : TyFields) → n ≡ node.Sum f → ⊥) → IsNoSum (ty_of n)
sum-node (node.Var i) h = tt
sum-node node.Int h = tt
sum-node node.Bool h = tt
sum-node node.Text h = tt
sum-node (node.Arrow a b) h = tt
sum-node (node.Fields f) h = tt
sum-node (node.Sum f) h = absurd (h f refl)
sum-node (node.All k b) h = tt
sum-node (node.Ex k b) h = tt
sum-node (node.Mu b) h = tt
sum-node (node.Lam k b) h = tt
sum-node (node.Apply a b) h = tt

-- a type whose outermost form is another is no sum type
pub no-sum : (n : TyNode) (s t : Ty) → ty_of n ≡ s → s ≡ t → ((f : TyFields) → n ≡ node.Sum f → ⊥) → IsNoSum t
no-sum n s t p q h = subst IsNoSum (p ∙ q) (sum-node n h)

-- the type is kept

-- the call of what has no function type is refused
pub not-arrow : (n : TyNode) (s t v w : Ty) → ty_of n ≡ s → s ≡ t → ((a b : TyHandle) → n ≡ node.Arrow a b → ⊥) → w ≡ t → CallRefuses t v (NotArrow w)
not-arrow n s t v w p q h e = rw (e) (CallRefuses.no_function (no-arrow n s t p q h))

-- an instance of what has no universally quantified type is refused
pub not-all : (n : TyNode) (s t u w : Ty) (j : Kind) → ty_of n ≡ s → s ≡ t → ((k : KindHandle) (b : TyHandle) → n ≡ node.All k b → ⊥) → w ≡ t → InstanceRefuses t u j (NotAll w)
not-all n s t u w j p q h e = rw (e) (InstanceRefuses.not_polymorphic (no-all n s t p q h))

-- the selection from what has no record type is refused
pub not-record : (n : TyNode) (s t w : Ty) (l : Name) → ty_of n ≡ s → s ≡ t → ((f : TyFields) → n ≡ node.Fields f → ⊥) → w ≡ t → GetRefuses t l (NotRecord w)
not-record n s t w l p q h e = rw (e) (GetRefuses.no_record (no-record n s t p q h))
