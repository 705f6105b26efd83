-- The statements that each rule has exactly one conclusion, or exactly one refusal, for good premises.
use Rattle.std.specs.Prelude.{List}
use Rattle.omega_kinds.specs.Kind.{Kind}
use Rattle.omega_types.specs.Ty.{Ty}
use Rattle.omega_types.specs.Binders.{NormalForms}
use Rattle.omega_terms.specs.Term.{Term}
use Rattle.sig_definitions.specs.Signatures.Sig.{Sig, Abs}
use Rattle.sig_definitions.specs.Verdict.{Verdict, One}
use Rattle.sig_laws.specs.Good.{OkAbs, OkRight}
use Rattle.package_judgments.specs.Package.{PackTypeGives, PackGives, UnpackGives, UnpackRefuses}

abbrev pub OnePackType : Type 0
OnePackType = (ctx : List Kind) (x : Abs) → OkRight ctx x → One (PackTypeGives ctx x)

abbrev pub OnePack : Type 0
OnePack = (ctx ks : List Kind) (s : Sig) (e : Term) (ts : List Ty) (c : Term) → OkAbs ctx (Abs.Ex ks s) → NormalForms ctx ts ks ts → One (λ (o : Ty × Term). PackGives ctx e (Abs.Ex ks s) ts c o.0 o.1)

abbrev pub OneUnpack : Type 0
OneUnpack = (t : Ty) (e : Term) (y : Abs) → Verdict (UnpackGives t e y) (UnpackRefuses t y)
