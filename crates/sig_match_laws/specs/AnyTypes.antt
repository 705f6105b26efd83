-- Subtyping and matching of signatures that hold any types, without coercions: types are compared by conversion, and
-- types are put in as they are (Rossberg, Russo, Dreyer, F-ing modules, section 4).
use Rattle.std.specs.Prelude.{ℕ, map, List, [], ◌∷◌, ◌↔◌, ◌≡◌}
use Rattle.omega_kinds.specs.Kind.{Kind}
use Rattle.omega_kinds.specs.declared.effect.Effect.{Effect}
use Rattle.omega_kinds.specs.declared.effect.Effect.TheVariants.{Pure, Impure}
use Rattle.omega_kinds.specs.Name.{Name}
use Rattle.omega_types.specs.Ty.{Ty}
use Rattle.omega_types.specs.Substitution.{substitute}
use Rattle.omega_types.specs.Conversion.{Conv}
use Rattle.omega_types.specs.Binders.{extend, OfKinds, NormalForms}
use Rattle.omega_terms.specs.Term.{Term}
use Rattle.sig_definitions.specs.Signatures.Sig.{Sig, Abs, SigRow, HasField}
use Rattle.sig_definitions.specs.Signatures.SigSubst.{substitute_sig, substitute_abs, raise_abs, sig_at, abs_at_under}
use Rattle.sig_laws.specs.SigLaws.{PutsKinds}
use Rattle.sig_laws.specs.NormalSig.{normal_sig, normal_abs}
use Rattle.sig_definitions.specs.Explicit.WellFormed.{WellFormed, WellFormedAbs, Explicit}
use Rattle.sig_definitions.specs.Matching.Subtyping.{Sub, SubAbs, Match}
use Rattle.sig_match_laws.specs.MatchClaims.{IsRightSig}
use Rattle.sig_definitions.specs.Matching.MatchRefusal.{MatchRefusal}
use Rattle.sig_match_laws.specs.MatchFunction.{Outcome, MatchOutcome, match_sig, sub_abs}
use Rattle.sig_laws.specs.Good.{OkSig, OkAbs, OkRight}

mutual
  pub data IsSub : List Kind → Sig → Sig → Type 0 where
    val : {ctx : List Kind} {t u : Ty} → Conv ctx t u Kind.Star → IsSub ctx (Sig.Val t) (Sig.Val u)
    typ : {ctx : List Kind} {t u : Ty} {k : Kind} → Conv ctx t u k → IsSub ctx (Sig.Typ t k) (Sig.Typ u k)
    meta : {ctx : List Kind} {x y : Abs} → IsSubAbs ctx x y → IsSubAbs ctx y x → IsSub ctx (Sig.Meta x) (Sig.Meta y)
    str : {ctx : List Kind} {fs gs : SigRow} → AreSubs ctx fs gs → IsSub ctx (Sig.Str fs) (Sig.Str gs)
    fun : {ctx ks js : List Kind} {e d : Effect} {s t : Sig} {x z : Abs} {ts : List Ty}
        → Matches (extend ctx js) t (raise_abs js (Abs.Ex ks s)) ts
        → IsSubResult (extend ctx js) e d (abs_at_under js ts x) z
        → IsSub ctx (Sig.Fun e ks s x) (Sig.Fun d js t z)

  pub data AreSubs : List Kind → SigRow → SigRow → Type 0 where
    end : {ctx : List Kind} {fs : SigRow} → AreSubs ctx fs SigRow.End
    more : {ctx : List Kind} {fs gs : SigRow} {l : Name} {s t : Sig} → HasField fs l s → IsSub ctx s t → AreSubs ctx fs gs → AreSubs ctx fs (SigRow.More l t gs)

  pub data IsSubResult : List Kind → Effect → Effect → Abs → Abs → Type 0 where
    both_pure : {ctx : List Kind} {s t : Sig} → IsSub ctx s t → IsSubResult ctx Pure Pure (Abs.Ex [] s) (Abs.Ex [] t)
    to_impure : {ctx : List Kind} {e : Effect} {x y : Abs} → IsSubAbs ctx x y → IsSubResult ctx e Impure x y

  pub data IsSubAbs : List Kind → Abs → Abs → Type 0 where
    plain : {ctx : List Kind} {s : Sig} {y : Abs} {ts : List Ty} → Matches ctx s y ts → IsSubAbs ctx (Abs.Ex [] s) y
    hidden : {ctx ks : List Kind} {k : Kind} {s : Sig} {y : Abs} {ts : List Ty} → Matches (extend ctx (k ∷ ks)) s (raise_abs (k ∷ ks) y) ts → IsSubAbs ctx (Abs.Ex (k ∷ ks) s) y

  pub data Matches : List Kind → Sig → Abs → List Ty → Type 0 where
    at : {ctx ks : List Kind} {s t : Sig} {ts : List Ty} → OfKinds ctx ts ks → IsSub ctx s (sig_at ts t) → Matches ctx s (Abs.Ex ks t) ts

-- the two ways of matching agree: on normal forms a match exists with just the normal forms of the types that match
abbrev pub MatchesExactly : Type 0
MatchesExactly = (ctx ks : List Kind) (s t : Sig) (ts ns : List Ty) → WellFormed ctx s → Explicit ctx (Abs.Ex ks t) → NormalForms ctx ts ks ns
    → Matches ctx s (Abs.Ex ks t) ts ↔ ((f : Term) × Match ctx (normal_sig ctx s) (Abs.Ex ks (normal_sig (extend ctx ks) t)) ns f)

-- so the function answers with types exactly where some types match, and its types are the normal forms of all that do
abbrev pub MatchSigFinds : Type 0
MatchSigFinds = (ctx ks : List Kind) (s t : Sig) (ts : List Ty) → WellFormed ctx s → Explicit ctx (Abs.Ex ks t) → Matches ctx s (Abs.Ex ks t) ts
    → (ns : List Ty) × (f : Term) × (match_sig ctx (normal_sig ctx s) (Abs.Ex ks (normal_sig (extend ctx ks) t)) ≡ MatchOutcome.matched ns f) × NormalForms ctx ts ks ns

abbrev pub MatchSigMatches : Type 0
MatchSigMatches = (ctx ks : List Kind) (s t : Sig) (ns : List Ty) (f : Term) → WellFormed ctx s → Explicit ctx (Abs.Ex ks t)
    → match_sig ctx (normal_sig ctx s) (Abs.Ex ks (normal_sig (extend ctx ks) t)) ≡ MatchOutcome.matched ns f
    → Matches ctx s (Abs.Ex ks t) ns

-- types may be put in for the variables of the context
abbrev pub MatchesSubstitute : Type 0
MatchesSubstitute = (ctx other : List Kind) (s : Sig) (x : Abs) (ts : List Ty) (f : ℕ → Ty) → PutsKinds ctx other f → Matches ctx s x ts → Matches other (substitute_sig f s) (substitute_abs f x) (map (substitute f) ts)

-- so may they in subtyping of normal signatures, whose normal forms are taken afterwards
abbrev pub SubSubstitute : Type 0
SubSubstitute = (ctx other : List Kind) (s r : Sig) (f : Term) (g : ℕ → Ty) → OkSig ctx s → IsRightSig ctx r → PutsKinds ctx other g → Sub ctx s r f → (h : Term) × Sub other (normal_sig other (substitute_sig g s)) (normal_sig other (substitute_sig g r)) h

abbrev pub SubAbsSubstitute : Type 0
SubAbsSubstitute = (ctx other : List Kind) (x y : Abs) (f : Term) (g : ℕ → Ty) → OkAbs ctx x → OkRight ctx y → PutsKinds ctx other g → SubAbs ctx x y f → (h : Term) × SubAbs other (normal_abs other (substitute_abs g x)) (normal_abs other (substitute_abs g y)) h

-- the function refuses exactly where no types match
abbrev pub MatchSigRefuses : Type 0
MatchSigRefuses = (ctx ks : List Kind) (s t : Sig) → WellFormed ctx s → Explicit ctx (Abs.Ex ks t)
    → ((q : MatchRefusal) × (match_sig ctx (normal_sig ctx s) (Abs.Ex ks (normal_sig (extend ctx ks) t)) ≡ MatchOutcome.refused q)) ↔ ((ts : List Ty) → Matches ctx s (Abs.Ex ks t) ts → ⊥)

-- subtyping of abstract signatures
abbrev pub SubAbsFinds : Type 0
SubAbsFinds = (ctx : List Kind) (x y : Abs) → WellFormedAbs ctx x → Explicit ctx y
    → IsSubAbs ctx x y ↔ ((f : Term) × (sub_abs ctx (normal_abs ctx x) (normal_abs ctx y) ≡ Outcome.coerced f))
