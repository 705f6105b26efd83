-- The statements that what premises give exists, and is the only one.
use Rattle.std.specs.Prelude.{List}
use Rattle.omega_kinds.specs.Kind.{Kind}
use Rattle.omega_types.specs.Ty.{Ty}
use Rattle.omega_types.specs.Binders.{extend, puts, OfKinds}
use Rattle.omega_terms.specs.Term.{Term}
use Rattle.omega_terms.specs.Instance.{Instance}
use Rattle.sig_definitions.specs.Signatures.Sig.{Sig, Abs, Module}
use Rattle.sig_definitions.specs.Signatures.Alike.{NormalAbs}
use Rattle.sig_definitions.specs.Lifting.{Lift}
use Rattle.sig_definitions.specs.Packing.{Packed}
use Rattle.sig_definitions.specs.Verdict.{One}
use Rattle.sig_laws.specs.Good.{NormalTerm, KindedModule}

abbrev pub OneLift : Type 0
OneLift = (ctx ks : List Kind) (s : Sig) (y : Abs) → NormalAbs ctx (Abs.Ex ks s) → NormalAbs (extend ctx ks) y → One (Lift ctx ks s y)

abbrev pub OnePacked : Type 0
OnePacked = (ctx : List Kind) (m : Module) → KindedModule ctx m → One (Packed ctx m)

-- a term of normal types, at types of the right kinds for the variables, the types in it in normal form again
abbrev pub OneInstance : Type 0
OneInstance = (ctx ks : List Kind) (ts : List Ty) (e : Term) → NormalTerm (extend ctx ks) e → OfKinds ctx ts ks → One (Instance (extend ctx ks) ctx (puts ts Ty.Var) e)
