-- The statements that each rule has exactly one conclusion, or exactly one refusal. The calls of the rules ask for no less.
use Rattle.std.specs.Prelude.{List}
use Rattle.omega_kinds.specs.Kind.{Kind}
use Rattle.omega_kinds.specs.Name.{Name}
use Rattle.omega_types.specs.Ty.{Ty}
use Rattle.omega_types.specs.Normality.{Normal}
use Rattle.sig_definitions.specs.Signatures.Sig.{Sig, Abs, SigRow}
use Rattle.sig_definitions.specs.Signatures.Alike.{NormalAbs}
use Rattle.sig_definitions.specs.Signatures.RecordOrder.{AreNew}
use Rattle.sig_definitions.specs.Verdict.{Verdict, One}
use Rattle.sig_judgments.specs.Refinement.{Refined}
use Rattle.sig_judgments.specs.SigRules.{ValueGives, ValueRefuses, TypeGives, AbstractGives, ModuleGives, SignatureGives, IncludeGives, IncludeRefuses, DistinctRefuses, DeclarationsGive, GenerativeGives, WhereRefuses}

abbrev pub OneValue : Type 0
OneValue = (l : Name) (t : Ty) (k : Kind) → Verdict (ValueGives l t k) (ValueRefuses t k)

abbrev pub OneType : Type 0
OneType = (l : Name) (t : Ty) (k : Kind) → One (TypeGives l t k)

abbrev pub OneAbstract : Type 0
OneAbstract = (l : Name) (k : Kind) → One (AbstractGives l k)

abbrev pub OneModule : Type 0
OneModule = (l : Name) (x : Abs) → One (ModuleGives l x)

abbrev pub OneSignature : Type 0
OneSignature = (l : Name) (x : Abs) → One (SignatureGives l x)

abbrev pub OneInclude : Type 0
OneInclude = (x : Abs) → Verdict (IncludeGives x) (IncludeRefuses x)

abbrev pub OneDistinct : Type 0
OneDistinct = (before : List Name) (fs : SigRow) → Verdict {A = Unit {0}} (λ u. AreNew fs before) (DistinctRefuses before fs)

abbrev pub OneDeclarations : Type 0
OneDeclarations = (ks js : List Kind) (fs gs : SigRow) → One (DeclarationsGive (Abs.Ex ks (Sig.Str fs)) (Abs.Ex js (Sig.Str gs)))

abbrev pub OneGenerative : Type 0
OneGenerative = (x y : Abs) → One (GenerativeGives x y)

abbrev pub OneWhere : Type 0
OneWhere = (ctx : List Kind) (x : Abs) (names : List Name) (u : Ty) (k : Kind) → NormalAbs ctx x → Normal ctx u k → Verdict (Refined ctx x names u k) (WhereRefuses x names u k)
