-- Subtyping and matching of signatures with their coercions (Rossberg, Russo, Dreyer, F-ing modules, section 4).
-- All types in them are normal, so convertible types are the same; what is guessed is any type. The rules on signatures of
-- any types, which compare by conversion, are IsSub and Matches of sig_match_laws; that both agree on normal forms is the law
-- any_types there.
use Rattle.std.specs.Prelude.{List, [], ◌∷◌}
use Rattle.omega_kinds.specs.Kind.{Kind}
use Rattle.omega_kinds.specs.declared.label.Label.{Label}
use Rattle.omega_kinds.specs.declared.effect.Effect.{Effect}
use Rattle.omega_kinds.specs.declared.effect.Effect.TheVariants.{Pure, Impure}
use Rattle.omega_kinds.specs.Name.{Name}
use Rattle.omega_types.specs.Ty.{Ty}
use Rattle.omega_types.specs.Binders.{extend, raise, OfKinds, NormalForms}
use Rattle.omega_terms.specs.Term.{Term, TermRow}
use Rattle.omega_terms.specs.Coercions.{same_part, meta_part, fields_part, functor_part, MatchPart, AbsPart}
use Rattle.sig_definitions.specs.Signatures.Sig.{Sig, Abs, SigRow, HasField}
use Rattle.sig_definitions.specs.Signatures.SigSubst.{raise_abs, abs_at_under}
use Rattle.sig_definitions.specs.Signatures.Alike.{NormalAbsForm, IsSigAt}
use Rattle.sig_definitions.specs.Signatures.Encoding.{enc, enc_abs}

mutual
  -- Sub ctx s t f: s is a subtype of t by the coercion f
  pub data Sub : List Kind → Sig → Sig → Term → Type 0 where
    val : {ctx : List Kind} {t : Ty} → Sub ctx (Sig.Val t) (Sig.Val t) (same_part (enc (Sig.Val t)))
    typ : {ctx : List Kind} {t : Ty} {k : Kind} → Sub ctx (Sig.Typ t k) (Sig.Typ t k) (same_part (enc (Sig.Typ t k)))
    -- signatures are compared both ways; the coercion is the identity on the right one
    meta : {ctx : List Kind} {x y : Abs} {f g : Term}
        → SubAbs ctx x y f
        → SubAbs ctx y x g
        → Sub ctx (Sig.Meta x) (Sig.Meta y) (meta_part (enc (Sig.Meta x)) (enc_abs y))
    -- each right label stands on the left too
    str : {ctx : List Kind} {fs gs : SigRow} {parts : TermRow}
        → SubFields ctx fs gs parts
        → Sub ctx (Sig.Str fs) (Sig.Str gs) (fields_part (enc (Sig.Str fs)) parts)
    -- parameters are compared the other way round, by matching; y is the left result at the types of that match
    fun : {ctx ks js : List Kind} {e d : Effect} {s t : Sig} {x y z : Abs} {ts : List Ty} {f g : Term}
        → Match (extend ctx js) t (raise_abs js (Abs.Ex ks s)) ts f
        → NormalAbsForm (extend ctx js) (abs_at_under js ts x) y
        → SubResult (extend ctx js) e d y z g
        → Sub ctx (Sig.Fun e ks s x) (Sig.Fun d js t z) (functor_part (enc (Sig.Fun e ks s x)) e d js (enc t) ts f g)

  -- for each field of the right side the coercion of the left part of its name
  pub data SubFields : List Kind → SigRow → SigRow → TermRow → Type 0 where
    end : {ctx : List Kind} {fs : SigRow} → SubFields ctx fs SigRow.End TermRow.End
    more : {ctx : List Kind} {fs gs : SigRow} {l : Name} {s t : Sig} {f : Term} {parts : TermRow}
        → HasField fs l s
        → Sub ctx s t f
        → SubFields ctx fs gs parts
        → SubFields ctx fs (SigRow.More l t gs) (TermRow.More (Label.Name l) f parts)

  -- Results of functors. A pure functor may stand for an impure one, and not the other way round.
  pub data SubResult : List Kind → Effect → Effect → Abs → Abs → Term → Type 0 where
    both_pure : {ctx : List Kind} {s t : Sig} {g : Term} → Sub ctx s t g → SubResult ctx Pure Pure (Abs.Ex [] s) (Abs.Ex [] t) g
    to_impure : {ctx : List Kind} {e : Effect} {x y : Abs} {g : Term} → SubAbs ctx x y g → SubResult ctx e Impure x y g

  pub data SubAbs : List Kind → Abs → Abs → Term → Type 0 where
    -- a left side that hides nothing
    plain : {ctx : List Kind} {s : Sig} {y : Abs} {ts : List Ty} {f g : Term}
        → Match ctx s y ts f
        → MatchPart ctx (enc s) ts f (enc_abs y) g
        → SubAbs ctx (Abs.Ex [] s) y g
    -- the left side's variables are opened
    hidden : {ctx ks : List Kind} {k : Kind} {s : Sig} {y : Abs} {ts : List Ty} {f g : Term}
        → Match (extend ctx (k ∷ ks)) s (raise_abs (k ∷ ks) y) ts f
        → AbsPart (extend ctx (k ∷ ks)) (enc_abs (Abs.Ex (k ∷ ks) s)) (k ∷ ks) ts f (raise (k ∷ ks) (enc_abs y)) g
        → SubAbs ctx (Abs.Ex (k ∷ ks) s) y g

  -- Match ctx s x ts f: s is a subtype of the body of x at some types of the right kinds, whose normal forms are ts
  pub data Match : List Kind → Sig → Abs → List Ty → Term → Type 0 where
    at : {ctx ks : List Kind} {s t r : Sig} {guess ts : List Ty} {f : Term}
        → OfKinds ctx guess ks
        → NormalForms ctx guess ks ts
        → IsSigAt ctx t guess r
        → Sub ctx s r f
        → Match ctx s (Abs.Ex ks t) ts f
