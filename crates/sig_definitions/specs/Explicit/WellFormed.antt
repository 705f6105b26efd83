-- Well formed signatures, and those ordered explicit: each hidden type can be found again, one after the other (Rossberg,
-- Russo, Dreyer, F-ing modules, section 5, explicit signatures; that the order counts is own).
use Rattle.std.specs.Prelude.{ℕ, List, [], ◌<◌, length, IsTrue}
use Rattle.omega_kinds.specs.Kind.{Kind}
use Rattle.omega_kinds.specs.declared.effect.Effect.TheVariants.{Pure, Impure}
use Rattle.omega_kinds.specs.Name.{Name}
use Rattle.omega_kinds.specs.LabelOrder.{name_before}
use Rattle.omega_types.specs.Ty.{Ty}
use Rattle.omega_types.specs.Kinding.{HasKind}
use Rattle.omega_types.specs.Binders.{extend}
use Rattle.sig_definitions.specs.Signatures.Sig.{Sig, Abs, SigRow}
use Rattle.sig_definitions.specs.Explicit.SigPath.{SigPath}
use Rattle.sig_definitions.specs.Explicit.RootPath.{RootPath}

-- the name comes before each of the fields
abbrev pub BeforeAll : Name → SigRow → Type 0
BeforeAll l SigRow.End = Unit {0}
BeforeAll l (SigRow.More m s rest) = IsTrue (name_before l m) × BeforeAll l rest

-- the names of the fields rise strictly
abbrev pub Rising : SigRow → Type 0
Rising SigRow.End = Unit {0}
Rising (SigRow.More l s rest) = BeforeAll l rest × Rising rest

-- each hidden variable has a root path
abbrev pub EachRooted : List Kind → List Kind → Sig → Type 0
EachRooted ctx ks s = (number : ℕ) → number < length ks → (p : SigPath) × RootPath ctx ks s number p

mutual
  -- each type has its kind, each functor parameter and each signature part is ordered explicit, and the result of a
  -- pure functor hides nothing
  pub data WellFormed : List Kind → Sig → Type 0 where
    val : {ctx : List Kind} {t : Ty} → HasKind ctx t Kind.Star → WellFormed ctx (Sig.Val t)
    typ : {ctx : List Kind} {t : Ty} {k : Kind} → HasKind ctx t k → WellFormed ctx (Sig.Typ t k)
    meta : {ctx : List Kind} {x : Abs} → Explicit ctx x → WellFormed ctx (Sig.Meta x)
    str : {ctx : List Kind} {fs : SigRow} → Rising fs → WellFormedRow ctx fs → WellFormed ctx (Sig.Str fs)
    pure : {ctx ks : List Kind} {s r : Sig} → Explicit ctx (Abs.Ex ks s) → WellFormed (extend ctx ks) r → WellFormed ctx (Sig.Fun Pure ks s (Abs.Ex [] r))
    impure : {ctx ks : List Kind} {s : Sig} {x : Abs} → Explicit ctx (Abs.Ex ks s) → WellFormedAbs (extend ctx ks) x → WellFormed ctx (Sig.Fun Impure ks s x)

  pub data WellFormedRow : List Kind → SigRow → Type 0 where
    end : {ctx : List Kind} → WellFormedRow ctx SigRow.End
    more : {ctx : List Kind} {l : Name} {s : Sig} {rest : SigRow} → WellFormed ctx s → WellFormedRow ctx rest → WellFormedRow ctx (SigRow.More l s rest)

  pub data WellFormedAbs : List Kind → Abs → Type 0 where
    abs : {ctx ks : List Kind} {s : Sig} → WellFormed (extend ctx ks) s → WellFormedAbs ctx (Abs.Ex ks s)

  -- each result of an impure functor inside, parameters and signature parts left out, is ordered explicit
  pub data ExplicitResults : List Kind → Sig → Type 0 where
    in_val : {ctx : List Kind} {t : Ty} → ExplicitResults ctx (Sig.Val t)
    in_typ : {ctx : List Kind} {t : Ty} {k : Kind} → ExplicitResults ctx (Sig.Typ t k)
    in_meta : {ctx : List Kind} {x : Abs} → ExplicitResults ctx (Sig.Meta x)
    in_str : {ctx : List Kind} {fs : SigRow} → ExplicitResultsRow ctx fs → ExplicitResults ctx (Sig.Str fs)
    in_pure : {ctx ks : List Kind} {s r : Sig} → ExplicitResults (extend ctx ks) r → ExplicitResults ctx (Sig.Fun Pure ks s (Abs.Ex [] r))
    in_impure : {ctx ks : List Kind} {s : Sig} {x : Abs} → Explicit (extend ctx ks) x → ExplicitResults ctx (Sig.Fun Impure ks s x)

  pub data ExplicitResultsRow : List Kind → SigRow → Type 0 where
    in_end : {ctx : List Kind} → ExplicitResultsRow ctx SigRow.End
    in_more : {ctx : List Kind} {l : Name} {s : Sig} {rest : SigRow} → ExplicitResults ctx s → ExplicitResultsRow ctx rest → ExplicitResultsRow ctx (SigRow.More l s rest)

  -- ordered explicit
  pub data Explicit : List Kind → Abs → Type 0 where
    explicit : {ctx ks : List Kind} {s : Sig} → WellFormed (extend ctx ks) s → ExplicitResults (extend ctx ks) s → EachRooted ctx ks s → Explicit ctx (Abs.Ex ks s)
