-- What elaboration makes of signatures is well formed, and ordered explicit where it is written.
-- Main results: instance_explicit, generative_explicit, lift_explicit.
use Rattle.std.specs.Prelude.{ℕ, List, [], ◌∷◌}
use Rattle.std.proofs.Common.{arith}
use Rattle.std.proofs.Math.Path.{refl, subst}
use Rattle.omega_kinds.specs.Kind.{Kind}
use Rattle.omega_kinds.specs.declared.effect.Effect.TheVariants.{Impure}
use Rattle.omega_kinds.specs.Name.{Name}
use Rattle.omega_types.specs.Ty.{Ty}
use Rattle.omega_types.specs.Kinding
use Rattle.omega_types.specs.Conversion.Conv.{c_sym}
use Rattle.omega_types.specs.EtaLong.{eta}
use Rattle.omega_types.specs.Normality.Neutral.{n_var}
use Rattle.omega_types.specs.Binders.{extend, own, puts, OfKinds, none, next}
use Rattle.omega_types.proofs.Preservation.{normal-kind}
use Rattle.omega_types.proofs.Hereditary.{eta-normal}
use Rattle.sig_definitions.specs.Signatures.Sig.{Sig, Abs, SigRow, here}
use Rattle.sig_definitions.specs.Signatures.SigSubst.{raise_abs, abs_at}
use Rattle.sig_definitions.specs.Signatures.Alike.{ConvAbs, NormalAbsForm}
use Rattle.sig_definitions.specs.Explicit.SigPath.{SigPath, Item, PartAt, ParamOn}
use Rattle.sig_definitions.specs.Explicit.RootPath.{Rooted, ParamsAvoid, RootPath, root_path, root_of}
use Rattle.sig_laws.proofs.Formed.RootNumbers.{own_falls, by_numbers}
use Rattle.sig_definitions.specs.Lifting.{Lift, lift, lifted_kinds, lifted_types}
use Rattle.sig_definitions.specs.Explicit.WellFormed.{EachRooted, WellFormed, WellFormedRow, WellFormedAbs, ExplicitResults, Explicit, abs, explicit, in_typ, in_str, in_impure, in_end, in_more}
use Rattle.sig_laws.proofs.Algebra.AlikeLaws.{conv_abs-sym, form-conv_abs}
use Rattle.sig_laws.proofs.Algebra.Instances.{some_types, some_types-normal, kinds-length, at-substitutes, at-raise_abs}
use Rattle.sig_laws.proofs.Formed.WellFormedLaws.{explicit-substitute, explicit-conv, well_formed_abs-substitute, well_formed_abs-conv}
use Rattle.sig_explicit_laws.proofs.Liftings.{lifted_explicit, lifted_well_formed}
use Rattle.omega_types.proofs.BinderPuts.{types-kinds}
use Rattle.omega_types.proofs.BinderLaws.{lam_over-kind}
use Rattle.sig_laws.proofs.Formed.Conditions.{explicit-abs}
use Rattle.sig_laws.proofs.Algebra.PathLaws.{one-field}
use Rattle.sig_laws.proofs.Formed.Shows.{Shows, shows, rooted-shows, shows-rooted}

-- a well formed signature of ordered explicit results that hides nothing is ordered explicit
pub plain_explicit : {ctx : List Kind} {s : Sig} → WellFormed ctx s → ExplicitResults ctx s → Explicit ctx (Abs.Ex [] s)
plain_explicit w r = explicit w r (λ i lt. absurd (omega (arith, lt)))

-- the structure of one field with an ordered explicit signature is ordered explicit
pub field_explicit : (ctx ks : List Kind) (l : Name) (s : Sig) → Explicit ctx (Abs.Ex ks s) → Explicit ctx (Abs.Ex ks (Sig.Str (SigRow.More l s SigRow.End)))
field_explicit ctx ks l s (explicit w r e) = explicit
    (WellFormed.str (tt, tt) (WellFormedRow.more w WellFormedRow.end))
    (in_str (in_more r in_end))
    (λ i lt. let b = e i lt in (Item.Part l ∷ b.0, root i b.0 b.1))
  where
    shown : {u : Ty} {p : SigPath} → Shows (extend ctx ks) s u p → Shows (extend ctx ks) (Sig.Str (SigRow.More l s SigRow.End)) u (Item.Part l ∷ p)
    shown (shows x c) = shows (PartAt.field here x) c

    params : (p : SigPath) (v : ℕ) → ParamsAvoid (extend ctx ks) s p v → ParamsAvoid (extend ctx ks) (Sig.Str (SigRow.More l s SigRow.End)) (Item.Part l ∷ p) v
    params p v a ds js q (ParamOn.field h on) = a ds js q (subst (λ z. ParamOn z p ds js q) (one-field h here refl) on)

    root : (i : ℕ) (p : SigPath) → RootPath ctx ks s i p → RootPath ctx ks (Sig.Str (SigRow.More l s SigRow.End)) i (Item.Part l ∷ p)
    root i p (root_path b (root_of x y)) = by_numbers b (shows-rooted refl (shown (rooted-shows x))) (λ j le lt. params p (own ks j) (y (own ks j) (own_falls ks i j le)))

-- a hidden type that is shown
pub opaque_explicit : (ctx : List Kind) (k : Kind) → Explicit ctx (Abs.Ex (k ∷ []) (Sig.Typ (eta k (Ty.Var 0)) k))
opaque_explicit ctx k = explicit (WellFormed.typ (normal-kind (eta-normal k (n_var {ctx = k ∷ ctx} Kinding.here)).0)) in_typ each
  where
    each : EachRooted ctx (k ∷ []) (Sig.Typ (eta k (Ty.Var 0)) k)
    each i lt = (
      [],
      by_numbers lt
          (subst (λ n. Rooted (k ∷ ctx) (Sig.Typ (eta k (Ty.Var 0)) k) n []) (omega arith) (Rooted.at PartAt.end (c_sym (eta-normal k (n_var {ctx = k ∷ ctx} Kinding.here)).1)))
          (λ j le f ds js q on. elim on [ ]),
    )

-- types of the right kinds put in

-- a well formed signature at types of the right kinds is well formed
pub instance_well_formed : {ctx ks : List Kind} {ts : List Ty} {x y : Abs} → OfKinds ctx ts ks → WellFormedAbs (extend ctx ks) x → NormalAbsForm ctx (abs_at ts x) y → WellFormedAbs ctx y
instance_well_formed {ts = ts} k w f = well_formed_abs-conv (well_formed_abs-substitute (puts ts Ty.Var) (at-substitutes k) w) (form-conv_abs f)

-- an ordered explicit signature at types of the right kinds is ordered explicit
pub instance_explicit : {ctx ks : List Kind} {ts : List Ty} {x y : Abs} → OfKinds ctx ts ks → Explicit (extend ctx ks) x → NormalAbsForm ctx (abs_at ts x) y → Explicit ctx y
instance_explicit {ts = ts} k w f = explicit-conv (explicit-substitute (puts ts Ty.Var) (at-substitutes k) w) (form-conv_abs f)

-- the types that a match finds have their kinds
-- a signature that mentions none of the hidden types, seen from outside them
pub outside_explicit : {ctx : List Kind} (ks : List Kind) {x y n : Abs} → Explicit (extend ctx ks) x → ConvAbs (extend ctx ks) (raise_abs ks y) x → NormalAbsForm ctx y n → Explicit ctx n
outside_explicit {ctx} ks {y = y} e c f =
    let k = types-kinds (some_types-normal ctx ks) in
    let r = explicit-conv e (conv_abs-sym c) in
    explicit-conv (subst (Explicit ctx) (at-raise_abs ks (some_types ks) y (kinds-length k)) (explicit-substitute (puts (some_types ks) Ty.Var) (at-substitutes k) r)) (form-conv_abs f)

-- functors

-- a generative functor is ordered explicit if its parameter and its result are
pub generative_explicit : {ctx ks : List Kind} {s : Sig} {x : Abs} → Explicit ctx (Abs.Ex ks s) → Explicit (extend ctx ks) x → Explicit ctx (Abs.Ex [] (Sig.Fun Impure ks s x))
generative_explicit e f = plain_explicit (WellFormed.impure e (explicit-abs f)) (in_impure f)

-- the lifted signature is ordered explicit if its parameter and its result are
pub lift_explicit : {ctx ks : List Kind} {s : Sig} {x y : Abs} → Explicit ctx (Abs.Ex ks s) → Explicit (extend ctx ks) x → Lift ctx ks s x y → Explicit ctx y
lift_explicit {ctx} {ks} {s} {x = Abs.Ex bs r} e f (lift n) = explicit-conv (lifted_explicit ctx ks bs s r e f) (form-conv_abs n)

-- the lifted signature is well formed if its parameter and its result are
pub lift_well_formed : {ctx ks : List Kind} {s : Sig} {x y : Abs} → Explicit ctx (Abs.Ex ks s) → WellFormedAbs (extend ctx ks) x → Lift ctx ks s x y → WellFormedAbs ctx y
lift_well_formed {ctx} {ks} {s} {x = Abs.Ex bs r} e (abs w) (lift n) = well_formed_abs-conv (abs (lifted_well_formed ctx ks bs s r e w)) (form-conv_abs n)

-- the lifted types of types have the lifted kinds
pub lifted_types-kinds : {ctx : List Kind} (ks : List Kind) {ts : List Ty} {bs : List Kind} → OfKinds (extend ctx ks) ts bs → OfKinds ctx (lifted_types ks ts) (lifted_kinds ks bs)
lifted_types-kinds ks none = none
lifted_types-kinds ks (next h k) = next (lam_over-kind ks h) (lifted_types-kinds ks k)
