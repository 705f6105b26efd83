-- Each example of two package types has the other condition.
-- Main results: flip_in_one_order, order_at_same_paths.
use Rattle.std.specs.Prelude.{List, [], ◌∷◌, ◌≡◌}
use Rattle.std.proofs.Common.{arith}
use Rattle.std.proofs.Math.Path.{refl, sym, subst}
use Rattle.omega_kinds.specs.Kind.{Kind}
use Rattle.omega_kinds.specs.Name.{Name}
use Rattle.omega_types.specs.Ty.{Ty}
use Rattle.omega_types.specs.Kinding
use Rattle.omega_types.specs.Kinding.HasKind.{k_var}
use Rattle.omega_types.specs.Conversion.Conv.{c_refl}
use Rattle.sig_definitions.specs.Signatures.Sig.{Sig, SigRow, HasField, here, there}
use Rattle.sig_definitions.specs.Explicit.SigPath.{SigPath, Item, PartAt}
use Rattle.sig_definitions.specs.Explicit.RootPath.{Rooted}
use Rattle.sig_package_laws.specs.FlipExample.{binary}
use Rattle.sig_package_laws.specs.OrderExample.{two_types, two_stars, functor}
use Rattle.sig_package_laws.specs.Conditions.{RootsIn, Condition, EachAbs, EachSig}
use Rattle.sig_package_laws.specs.PackageTypes.{FlipInOneOrder, OrderAtSamePaths}
use Rattle.sig_package_laws.proofs.OrderProofs.{b-after-a}

-- structures of types

abbrev IsTyp : Sig → Type 0
IsTyp s = (t : Ty) × (k : Kind) × (s ≡ Sig.Typ t k)

typs : {Param Hidden : Condition} {ctx other : List Kind} {fs gs : SigRow} → ((l : Name) (s : Sig) → HasField fs l s → IsTyp s) → ((l : Name) (s : Sig) → HasField gs l s → IsTyp s) → EachSig Param Hidden ctx other (Sig.Str fs) (Sig.Str gs)
typs {Param} {Hidden} {ctx} {other} f g = EachSig.str (λ l s t h i. pair (f l s h) (g l t i))
  where
    pair : {s t : Sig} → IsTyp s → IsTyp t → EachSig Param Hidden ctx other s t
    pair {s} {t} a b = subst (λ s. EachSig Param Hidden ctx other s t) (sym a.2) (subst (λ t. EachSig Param Hidden ctx other (Sig.Typ a.0 a.1) t) (sym b.2) EachSig.typ)

one-typ : {m : Name} {t : Ty} {k : Kind} (l : Name) (s : Sig) → HasField (SigRow.More m (Sig.Typ t k) SigRow.End) l s → IsTyp s
one-typ l s here = (_, _, refl)
one-typ l s (there n h) = elim h [ ]

two-typs : {m n : Name} {t u : Ty} {k j : Kind} (l : Name) (s : Sig) → HasField (SigRow.More m (Sig.Typ t k) (SigRow.More n (Sig.Typ u j) SigRow.End)) l s → IsTyp s
two-typs l s here = (_, _, refl)
two-typs l s (there n here) = (_, _, refl)
two-typs l s (there n (there m h)) = elim h [ ]

-- in the first example the parameters of pure functors, of which there are none, hide their types in one order
pub flip_in_one_order : FlipInOneOrder
flip_in_one_order = EachAbs.ex tt (typs two-typs two-typs)

-- the parameters of the functors

abbrev outer : List Kind
outer = binary ∷ []

abbrev at_a : SigPath
at_a = Item.Part (97 ∷ []) ∷ []

abbrev at_b : SigPath
at_b = Item.Part (98 ∷ []) ∷ []

at-part : {t u v w z : Ty} {k : Kind} {p : SigPath} {bs : List Kind} → RootsIn outer two_stars (two_types v w) at_a → RootsIn outer two_stars (two_types v w) at_b → PartAt (two_types t u) p bs (Sig.Typ z k) → RootsIn outer two_stars (two_types v w) p
at-part x y (PartAt.field here PartAt.end) = x
at-part x y (PartAt.field (there n here) PartAt.end) = y
at-part x y (PartAt.field (there n (there m h)) q) = elim h [ ]

roots : {t u v w : Ty} → RootsIn outer two_stars (two_types v w) at_a → RootsIn outer two_stars (two_types v w) at_b → (p : SigPath) → RootsIn outer two_stars (two_types t u) p → RootsIn outer two_stars (two_types v w) p
roots x y p (i, lt, Rooted.at q c) = at-part x y q

first-a : RootsIn outer two_stars (two_types (Ty.Var 1) (Ty.Var 0)) at_a
first-a = (0, omega arith, Rooted.at (PartAt.field here PartAt.end) (c_refl (k_var (Kinding.there Kinding.here))))

first-b : RootsIn outer two_stars (two_types (Ty.Var 1) (Ty.Var 0)) at_b
first-b = (1, omega arith, Rooted.at (PartAt.field (there b-after-a here) PartAt.end) (c_refl (k_var Kinding.here)))

other-a : RootsIn outer two_stars (two_types (Ty.Var 0) (Ty.Var 1)) at_a
other-a = (1, omega arith, Rooted.at (PartAt.field here PartAt.end) (c_refl (k_var Kinding.here)))

other-b : RootsIn outer two_stars (two_types (Ty.Var 0) (Ty.Var 1)) at_b
other-b = (0, omega arith, Rooted.at (PartAt.field (there b-after-a here) PartAt.end) (c_refl (k_var (Kinding.there Kinding.here))))

-- the functors

same-part : {t u v w z : Ty} {k : Kind} {p : SigPath} {bs : List Kind} → PartAt (functor t u) p bs (Sig.Typ z k) → PartAt (functor v w) p bs (Sig.Typ z k)
same-part (PartAt.result q) = PartAt.result q

functor-roots : {t u v w : Ty} (p : SigPath) → RootsIn [] outer (functor t u) p → RootsIn [] outer (functor v w) p
functor-roots p (i, lt, Rooted.at q c) = (i, lt, Rooted.at (same-part q) c)

-- in the second example all signatures inside are rooted at the same paths
pub order_at_same_paths : OrderAtSamePaths
order_at_same_paths = EachAbs.ex (functor-roots, functor-roots) (EachSig.pure (roots other-a other-b, roots first-a first-b) (typs two-typs two-typs) (typs one-typ one-typ))
