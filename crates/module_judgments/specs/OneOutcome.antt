-- The statements that each rule has exactly one conclusion, or exactly one refusal, for modules of normal types, which have
-- their kinds, and of different names in each structure. The calls of the rules ask for no less.
use Rattle.std.specs.Prelude.{List, ◌≡◌}
use Rattle.omega_kinds.specs.Kind.{Kind}
use Rattle.omega_kinds.specs.declared.effect.Effect.{Effect}
use Rattle.omega_kinds.specs.declared.effect.Effect.TheVariants.{Pure}
use Rattle.omega_kinds.specs.Name.{Name}
use Rattle.omega_types.specs.Ty.{Ty}
use Rattle.omega_types.specs.Binders.{extend, NormalForms}
use Rattle.omega_terms.specs.Term.{Term, TermRow}
use Rattle.sig_definitions.specs.Signatures.Sig.{Sig, Abs, SigRow, Module, made}
use Rattle.sig_definitions.specs.Signatures.Alike.{NormalSig}
use Rattle.sig_definitions.specs.Signatures.FieldOrder.{in_order}
use Rattle.sig_definitions.specs.Env.{Env}
use Rattle.sig_definitions.specs.Verdict.{Verdict, One}
use Rattle.sig_laws.specs.Good.{KindedModule, Bound}
use Rattle.module_judgments.specs.PathUse.{TypeOfPath, ValueOfPath, SigOfPath}
use Rattle.module_judgments.specs.Projection.{Projected}
use Rattle.module_judgments.specs.Sequence.{Seq, Collected}
use Rattle.module_judgments.specs.ModRules.{NamedGives, NamedRefuses, ProjectRefuses, TypePathRefuses, ValuePathRefuses, SigPathRefuses, GenerativeGives, PartsGive, FunctorRefuses, ApplyGives, IncludeGives, IncludeRefuses, SealGives, ValueGives, TypeGives, SignatureGives}

abbrev pub OneNamed : Type 0
OneNamed = (g : Env) (l : Name) → Verdict (NamedGives g l) (NamedRefuses g l)

abbrev pub OneProjected : Type 0
OneProjected = (ctx : List Kind) (m : Module) (l : Name) → KindedModule ctx m → Verdict (Projected ctx m l) (ProjectRefuses m l)

-- nothing is packed where the module is pure, so that nothing is asked of it
abbrev pub OnePureProjected : Type 0
OnePureProjected = (ctx : List Kind) (x : Abs) (ts : List Ty) (e : Term) (l : Name) → Verdict (Projected ctx (made Pure x ts e) l) (ProjectRefuses (made Pure x ts e) l)

abbrev pub OneTypePath : Type 0
OneTypePath = (ctx : List Kind) (m : Module) → KindedModule ctx m → Verdict (λ (o : Ty × Kind). TypeOfPath ctx m o.0 o.1) (TypePathRefuses ctx m)

abbrev pub OneValuePath : Type 0
OneValuePath = (ctx : List Kind) (m : Module) → KindedModule ctx m → Verdict (λ (o : Ty × Term). ValueOfPath ctx m o.0 o.1) (ValuePathRefuses ctx m)

abbrev pub OneSigPath : Type 0
OneSigPath = (ctx : List Kind) (m : Module) → KindedModule ctx m → Verdict (SigOfPath ctx m) (SigPathRefuses ctx m)

abbrev pub OneGenerative : Type 0
OneGenerative = (ctx ks : List Kind) (s : Sig) (m : Module) → KindedModule (extend ctx ks) m → One (GenerativeGives ctx ks s m)

abbrev pub OneParts : Type 0
OneParts = (s : Sig) → Verdict (λ (o : Effect × Abs × Abs). PartsGive s o.0 o.1 o.2) (FunctorRefuses s)

-- where the functor is one, the types are normal and have the kinds of its parameter's hidden types
abbrev pub OneApply : Type 0
OneApply = (ctx : List Kind) (s : Sig) (d : Term) (ts : List Ty) (c e : Term) → NormalSig ctx s → ((f : Effect) (ks : List Kind) (t : Sig) (y : Abs) → s ≡ Sig.Fun f ks t y → NormalForms ctx ts ks ts) → Verdict (ApplyGives ctx s d ts c e) (FunctorRefuses s)

abbrev pub OneInclude : Type 0
OneInclude = (ctx ks : List Kind) (f : Effect) (s : Sig) (ts : List Ty) (e : Term) (rest : Module) → KindedModule ctx (made f (Abs.Ex ks s) ts e) → KindedModule (extend ctx ks) rest → Verdict (IncludeGives ctx (made f (Abs.Ex ks s) ts e) rest) (IncludeRefuses (made f (Abs.Ex ks s) ts e))

-- bound names, in any order and with repetitions
abbrev pub OneEnd : Type 0
OneEnd = (g : Env) (names : List Name) → Bound g names → One (λ (o : SigRow × TermRow). Collected g (in_order names) o.0 o.1)

-- a binding and the rest of a structure
abbrev pub OneSequence : Type 0
OneSequence = (ctx ks : List Kind) (f : Effect) (s : Sig) (ts : List Ty) (e : Term) (rest : Module) → KindedModule ctx (made f (Abs.Ex ks s) ts e) → KindedModule (extend ctx ks) rest → One (Seq ctx (made f (Abs.Ex ks s) ts e) rest)

abbrev pub OneSeal : Type 0
OneSeal = (e : Term) (y : Abs) (ts : List Ty) (c : Term) → One (SealGives e y ts c)

abbrev pub OneValueModule : Type 0
OneValueModule = (t : Ty) (e : Term) → One (ValueGives t e)

abbrev pub OneTypeModule : Type 0
OneTypeModule = (t : Ty) (k : Kind) → One (TypeGives t k)

abbrev pub OneSignatureModule : Type 0
OneSignatureModule = (x : Abs) → One (SignatureGives x)
