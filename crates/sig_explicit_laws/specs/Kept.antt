-- Which operations keep signatures ordered explicit.
use Rattle.std.specs.Prelude.{List, [], ◌∷◌, ◌++◌}
use Rattle.omega_kinds.specs.Kind.{Kind}
use Rattle.omega_kinds.specs.declared.effect.Effect.TheVariants.{Impure}
use Rattle.omega_kinds.specs.Name.{Name}
use Rattle.omega_types.specs.Ty.{Ty}
use Rattle.omega_types.specs.Kinding.{HasKind}
use Rattle.omega_types.specs.Binders.{extend, unders, front, raise, OfKinds}
use Rattle.sig_definitions.specs.Signatures.Sig.{Sig, Abs, SigRow, HasField, NoField}
use Rattle.sig_definitions.specs.Signatures.SigSubst.{substitute_sig, raise_abs, raise_sig_row, abs_at}
use Rattle.sig_definitions.specs.Signatures.Alike.{ConvAbs, NormalAbsForm}
use Rattle.sig_definitions.specs.Lifting.{Lift}
use Rattle.sig_definitions.specs.Signatures.FieldOrder.{merge}
use Rattle.sig_definitions.specs.Explicit.WellFormed.{WellFormedAbs, Explicit}

-- declarations of different names, one after the other
abbrev pub SequenceKeeps : Type 0
SequenceKeeps = (ctx ks js : List Kind) (fs gs : SigRow) → ((l : Name) (s : Sig) → HasField fs l s → NoField l gs) → Explicit ctx (Abs.Ex ks (Sig.Str fs)) → Explicit (extend ctx ks) (Abs.Ex js (Sig.Str gs)) → Explicit ctx (Abs.Ex (ks ++ js) (Sig.Str (merge (raise_sig_row js fs) gs)))

-- applicative functors
abbrev pub LiftKeeps : Type 0
LiftKeeps = (ctx ks : List Kind) (s : Sig) (x y : Abs) → Explicit ctx (Abs.Ex ks s) → Explicit (extend ctx ks) x → Lift ctx ks s x y → Explicit ctx y

abbrev pub LiftKeepsWellFormed : Type 0
LiftKeepsWellFormed = (ctx ks : List Kind) (s : Sig) (x y : Abs) → Explicit ctx (Abs.Ex ks s) → WellFormedAbs (extend ctx ks) x → Lift ctx ks s x y → WellFormedAbs ctx y

-- generative functors
abbrev pub GenerativeKeeps : Type 0
GenerativeKeeps = (ctx ks : List Kind) (s : Sig) (x : Abs) → Explicit ctx (Abs.Ex ks s) → Explicit (extend ctx ks) x → Explicit ctx (Abs.Ex [] (Sig.Fun Impure ks s x))

-- a hidden type is fixed
abbrev pub FixingKeeps : Type 0
FixingKeeps = (ctx before after : List Kind) (k : Kind) (s : Sig) (u : Ty) → HasKind ctx u k → Explicit ctx (Abs.Ex (before ++ (k ∷ after)) s) → Explicit ctx (Abs.Ex (before ++ after) (substitute_sig (unders after (front (raise before u) Ty.Var)) s))

-- types of the right kinds are put in
abbrev pub InstanceKeeps : Type 0
InstanceKeeps = (ctx ks : List Kind) (ts : List Ty) (x y : Abs) → OfKinds ctx ts ks → Explicit (extend ctx ks) x → NormalAbsForm ctx (abs_at ts x) y → Explicit ctx y

-- a signature that mentions no hidden type, seen from outside them
abbrev pub OutsideKeeps : Type 0
OutsideKeeps = (ctx ks : List Kind) (x y n : Abs) → Explicit (extend ctx ks) x → ConvAbs (extend ctx ks) (raise_abs ks y) x → NormalAbsForm ctx y n → Explicit ctx n
