-- Each rule of signatures and declarations has exactly one conclusion or exactly one refusal.
-- Main results: one_include, one_distinct, one_declarations.
use Rattle.std.specs.Prelude.{List, [], ◌∷◌, ◌++◌, ◌≡◌, ◌≢◌, ◌⊎◌}
use Rattle.std.proofs.Common.{inl, inr}
use Rattle.std.proofs.Math.Path.{refl, sym, subst, ap, ◌∙◌}
use Rattle.omega_kinds.specs.Kind.{Kind, Kind-discrete}
use Rattle.omega_kinds.specs.Name.{Name}
use Rattle.omega_types.specs.Ty.{Ty}
use Rattle.omega_types.specs.EtaLong.{eta}
use Rattle.sig_definitions.specs.Signatures.Sig.{Sig, Abs, SigRow}
use Rattle.sig_definitions.specs.Signatures.SigSubst.{raise_sig_row}
use Rattle.sig_definitions.specs.Signatures.FieldOrder.{merge}
use Rattle.omega_kinds.specs.declared.effect.Effect.TheVariants.{Impure}
use Rattle.sig_definitions.specs.Signatures.RecordOrder.{AreNew, FirstOld}
use Rattle.sig_definitions.specs.Verdict.{Verdict, holds, refuses, One, Perhaps, one, none}
use Rattle.sig_laws.proofs.Formed.Forms.{sig-structure, new-or-old, new-not_old}
use Rattle.sig_judgments.specs.SigWhy.{SigWhy, Duplicate, KindDiffer, NotStructure}
use Rattle.sig_judgments.specs.SigRules.{one_part, ValueGives, ValueRefuses, TypeGives, AbstractGives, ModuleGives, SignatureGives, IncludeGives, IncludeRefuses, DistinctRefuses, DeclarationsGive, GenerativeGives}
use Rattle.sig_judgments.specs.OneOutcome.{OneValue, OneType, OneAbstract, OneModule, OneSignature, OneInclude, OneDistinct, OneDeclarations, OneGenerative}

value-only : {l : Name} {t : Ty} {k : Kind} (x : Abs) → ValueGives l t k x → (k ≡ Kind.Star) × (x ≡ Abs.Ex [] (one_part l (Sig.Val t)))
value-only _ ValueGives.value = (refl, refl)

value-refused : {t : Ty} {k : Kind} {why : SigWhy} → ValueRefuses t k why → (k ≢ Kind.Star) × (why ≡ KindDiffer k Kind.Star)
value-refused (ValueRefuses.kind n) = (n, refl)

-- the rule of value declarations has exactly one conclusion or one refusal
pub one_value : OneValue
one_value l t k = go (Kind-discrete k Kind.Star)
  where
    go : Dec (k ≡ Kind.Star) → Verdict (ValueGives l t k) (ValueRefuses t k)
    go (yes e) = subst (λ k. Verdict (ValueGives l t k) (ValueRefuses t k)) (sym e) (holds (Abs.Ex [] (one_part l (Sig.Val t))) ValueGives.value (λ x g. (value-only x g).1) (λ r q. (value-refused q).0 refl))
    go (no n) = refuses (KindDiffer k Kind.Star) (ValueRefuses.kind n) (λ q r. (value-refused r).1) (λ x g. n (value-only x g).0)

type-only : {l : Name} {t : Ty} {k : Kind} (x : Abs) → TypeGives l t k x → x ≡ Abs.Ex [] (one_part l (Sig.Typ t k))
type-only _ TypeGives.type = refl

-- the rule of type declarations has exactly one conclusion
pub one_type : OneType
one_type l t k = (Abs.Ex [] (one_part l (Sig.Typ t k)), TypeGives.type, type-only)

abstract-only : {l : Name} {k : Kind} (x : Abs) → AbstractGives l k x → x ≡ Abs.Ex (k ∷ []) (one_part l (Sig.Typ (eta k (Ty.Var 0)) k))
abstract-only _ AbstractGives.abstract = refl

-- the rule of hidden types has exactly one conclusion
pub one_abstract : OneAbstract
one_abstract l k = (Abs.Ex (k ∷ []) (one_part l (Sig.Typ (eta k (Ty.Var 0)) k)), AbstractGives.abstract, abstract-only)

module-only : {l : Name} {ks : List Kind} {s : Sig} (x : Abs) → ModuleGives l (Abs.Ex ks s) x → x ≡ Abs.Ex ks (one_part l s)
module-only _ ModuleGives.module_ = refl

-- the rule of module declarations has exactly one conclusion
pub one_module : OneModule
one_module l (Abs.Ex ks s) = (Abs.Ex ks (one_part l s), ModuleGives.module_, module-only)

signature-only : {l : Name} {y : Abs} (x : Abs) → SignatureGives l y x → x ≡ Abs.Ex [] (one_part l (Sig.Meta y))
signature-only _ SignatureGives.signature = refl

-- the rule of signature declarations has exactly one conclusion
pub one_signature : OneSignature
one_signature l y = (Abs.Ex [] (one_part l (Sig.Meta y)), SignatureGives.signature, signature-only)

-- included signatures

include-only : {ks : List Kind} {s : Sig} (x : Abs) → IncludeGives (Abs.Ex ks s) x → (fs : SigRow) × (s ≡ Sig.Str fs) × (x ≡ Abs.Ex ks s)
include-only _ (IncludeGives.include {fs = fs}) = (fs, refl, refl)

include-refused : {ks : List Kind} {s : Sig} {why : SigWhy} → IncludeRefuses (Abs.Ex ks s) why → ((fs : SigRow) → s ≢ Sig.Str fs) × (why ≡ NotStructure)
include-refused (IncludeRefuses.no_structure n) = (n, refl)

-- the rule of includes has exactly one conclusion or one refusal
pub one_include : OneInclude
one_include (Abs.Ex ks s) = go (sig-structure s)
  where
    go : Perhaps (λ fs. s ≡ Sig.Str fs) → Verdict (IncludeGives (Abs.Ex ks s)) (IncludeRefuses (Abs.Ex ks s))
    go (one fs e only) = holds (Abs.Ex ks s) (subst (λ s. IncludeGives (Abs.Ex ks s) (Abs.Ex ks s)) (sym e) IncludeGives.include) (λ x g. (include-only x g).2) (λ r q. (include-refused q).0 fs e)
    go (none n) = refuses NotStructure (IncludeRefuses.no_structure n) (λ q r. (include-refused r).1) (λ x g. let v = include-only x g in n v.0 v.1)

-- labels that are new

distinct-refused : {before : List Name} {fs : SigRow} {why : SigWhy} → DistinctRefuses before fs why → (l : Name) × FirstOld fs before l × (why ≡ Duplicate l)
distinct-refused (DistinctRefuses.again {l = l} f) = (l, f, refl)

-- names are distinct from those before, or refused in one way
pub one_distinct : OneDistinct
one_distinct before fs = go (new-or-old fs before)
  where
    go : AreNew fs before ⊎ One (λ l. FirstOld fs before l) → Verdict {A = Unit {0}} (λ u. AreNew fs before) (DistinctRefuses before fs)
    go (inl h) = holds tt h (λ u q. refl) (λ r q. new-not_old h (distinct-refused q).1)
    go (inr o) = refuses (Duplicate o.0) (DistinctRefuses.again o.1) (λ q r. let v = distinct-refused r in v.2 ∙ ap Duplicate (o.2 v.0 v.1)) (λ u h. new-not_old h o.1)

-- declarations and functors

abbrev joined : (ks js : List Kind) (fs gs : SigRow) → Abs
joined ks js fs gs = Abs.Ex (ks ++ js) (Sig.Str (merge (raise_sig_row js fs) gs))

declarations-only : {ks js : List Kind} {fs gs : SigRow} (x : Abs) → DeclarationsGive (Abs.Ex ks (Sig.Str fs)) (Abs.Ex js (Sig.Str gs)) x → x ≡ joined ks js fs gs
declarations-only _ DeclarationsGive.declarations = refl

-- declarations one after the other have exactly one conclusion
pub one_declarations : OneDeclarations
one_declarations ks js fs gs = (joined ks js fs gs, DeclarationsGive.declarations, declarations-only)

generative-only : {ks : List Kind} {s : Sig} {y : Abs} (x : Abs) → GenerativeGives (Abs.Ex ks s) y x → x ≡ Abs.Ex [] (Sig.Fun Impure ks s y)
generative-only _ GenerativeGives.generative = refl

-- generative functor signatures have exactly one conclusion
pub one_generative : OneGenerative
one_generative (Abs.Ex ks s) y = (Abs.Ex [] (Sig.Fun Impure ks s y), GenerativeGives.generative, generative-only)
