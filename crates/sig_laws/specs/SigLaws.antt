-- The laws of signatures.
use Rattle.std.specs.Prelude.{ℕ, List, ◌≡◌, ◌<◌, ◌↔◌, length}
use Rattle.omega_kinds.specs.Kind.{Kind}
use Rattle.omega_types.specs.Ty.{Ty}
use Rattle.omega_types.specs.Substitution.{substitute}
use Rattle.omega_types.specs.Kinding.{Lookup, HasKind}
use Rattle.omega_types.specs.Conversion.{Conv}
use Rattle.omega_types.specs.Normality.{Normal}
use Rattle.omega_types.specs.Binders.{extend, unders, lam_over, arrow_over, applied}
use Rattle.sig_definitions.specs.Signatures.Sig.{Sig, Abs}
use Rattle.sig_definitions.specs.Signatures.SigSubst.{substitute_sig, substitute_abs}
use Rattle.sig_definitions.specs.Signatures.SigSize.{size}
use Rattle.sig_definitions.specs.Signatures.SigMentions.{MentionsSig}
use Rattle.sig_definitions.specs.Explicit.SigPath.{SigPath, PartAt}
use Rattle.sig_definitions.specs.Explicit.RootPath.{RootPath}
use Rattle.sig_laws.specs.NormalSig.{normal_sig}
use Rattle.sig_definitions.specs.Signatures.Alike.{ConvSig, ConvAbs, NormalSigForm, NormalSig}
use Rattle.sig_definitions.specs.Explicit.WellFormed.{WellFormed, WellFormedAbs, ExplicitResults, Explicit}
use Rattle.sig_definitions.specs.Signatures.Encoding.{enc, enc_abs}

-- each variable of a context is put to a type of its kind
abbrev pub PutsKinds : List Kind → List Kind → (ℕ → Ty) → Type 0
PutsKinds ctx other f = (i : ℕ) (k : Kind) → Lookup ctx i k → HasKind other (f i) k

abbrev pub SubstituteId : Type 0
SubstituteId = (s : Sig) → substitute_sig Ty.Var s ≡ s

abbrev pub SubstituteTwice : Type 0
SubstituteTwice = (f g : ℕ → Ty) (s : Sig) → substitute_sig f (substitute_sig g s) ≡ substitute_sig (λ i. substitute f (g i)) s

abbrev pub SubstituteAgree : Type 0
SubstituteAgree = (f g : ℕ → Ty) (s : Sig) → ((i : ℕ) → MentionsSig i s → f i ≡ g i) → substitute_sig f s ≡ substitute_sig g s

abbrev pub SizeKept : Type 0
SizeKept = (f : ℕ → Ty) (s : Sig) → size (substitute_sig f s) ≡ size s

abbrev pub PartKept : Type 0
PartKept = (f : ℕ → Ty) (s q : Sig) (p : SigPath) (bs : List Kind) → PartAt s p bs q → PartAt (substitute_sig f s) p bs (substitute_sig (unders bs f) q)

abbrev pub RootKept : Type 0
RootKept = (ctx other ks : List Kind) (s : Sig) (number : ℕ) (p : SigPath) (f : ℕ → Ty) → PutsKinds ctx other f → number < length ks → RootPath ctx ks s number p → RootPath other ks (substitute_sig (unders ks f) s) number p

abbrev pub WellFormedKept : Type 0
WellFormedKept = (ctx other : List Kind) (s : Sig) (f : ℕ → Ty) → PutsKinds ctx other f → WellFormed ctx s → WellFormed other (substitute_sig f s)

abbrev pub ResultsKept : Type 0
ResultsKept = (ctx other : List Kind) (s : Sig) (f : ℕ → Ty) → PutsKinds ctx other f → ExplicitResults ctx s → ExplicitResults other (substitute_sig f s)

abbrev pub ExplicitKept : Type 0
ExplicitKept = (ctx other : List Kind) (x : Abs) (f : ℕ → Ty) → PutsKinds ctx other f → Explicit ctx x → Explicit other (substitute_abs f x)

-- conversion keeps well-formedness, and the normal form of a signature is the one that the function gives
abbrev pub WellFormedConv : Type 0
WellFormedConv = (ctx : List Kind) (s t : Sig) → WellFormed ctx s → ConvSig ctx s t → WellFormed ctx t

abbrev pub NormalSigGives : Type 0
NormalSigGives = (ctx : List Kind) (s n : Sig) → WellFormed ctx s → NormalSigForm ctx s n ↔ (n ≡ normal_sig ctx s)

abbrev pub EncNormal : Type 0
EncNormal = (ctx : List Kind) (s : Sig) → WellFormed ctx s → NormalSig ctx s → Normal ctx (enc s) Kind.Star

abbrev pub EncInjective : Type 0
EncInjective = (s t : Sig) → enc s ≡ enc t → s ≡ t

abbrev pub ConvExactly : Type 0
ConvExactly = (ctx : List Kind) (s t : Sig) → WellFormed ctx s → WellFormed ctx t → ConvSig ctx s t ↔ Conv ctx (enc s) (enc t) Kind.Star

-- so for signatures that hide types
abbrev pub ConvAbsExactly : Type 0
ConvAbsExactly = (ctx : List Kind) (x y : Abs) → WellFormedAbs ctx x → WellFormedAbs ctx y → ConvAbs ctx x y ↔ Conv ctx (enc_abs x) (enc_abs y) Kind.Star

-- the one operator whose application to the variables of binders is a type
abbrev pub OperatorFound : Type 0
OperatorFound = (ctx ks : List Kind) (t u : Ty) (k : Kind) → Normal (extend ctx ks) u k → Normal ctx t (arrow_over ks k) → Conv (extend ctx ks) u (applied ks t) k → lam_over ks u ≡ t
