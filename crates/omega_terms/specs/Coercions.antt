-- The coercion terms of subtyping between signatures, over encoded types
-- (Rossberg, Russo, Dreyer, F-ing modules, section 4). Each is closed but for type variables.
use Rattle.std.specs.Prelude.{zero, List}
use Rattle.omega_kinds.specs.Kind.{Kind}
use Rattle.omega_kinds.specs.declared.label.Label.{Label}
use Rattle.omega_kinds.specs.declared.label.Label.TheVariants.{App, Gen}
use Rattle.omega_kinds.specs.declared.effect.Effect.{Effect}
use Rattle.omega_kinds.specs.declared.effect.Effect.TheVariants.{Pure, Impure}
use Rattle.omega_types.specs.Ty.{Ty}
use Rattle.omega_terms.specs.Term.{Term, TermRow}
use Rattle.omega_terms.specs.Shorthands.{ty_lam_over, insts, Packs, opens}

-- the label round a functor's result
abbrev pub result_label : Effect → Label
result_label Pure = App
result_label Impure = Gen

-- a value part, or a type part
abbrev pub same_part : (from : Ty) → Term
same_part from = Term.Lam from (Term.Var zero)

-- a signature part: its term is the identity on the right side
abbrev pub meta_part : (from to : Ty) → Term
meta_part from to = Term.Lam from (Term.Fields (TermRow.More Label.Sig (Term.Lam to (Term.Var zero)) TermRow.End))

-- each right label's part of the left side, coerced
abbrev pub coerced : TermRow → TermRow
coerced TermRow.End = TermRow.End
coerced (TermRow.More l f rest) = TermRow.More l (Term.Call f (Term.Get (Term.Var zero) l)) (coerced rest)

-- a structure, by the coercion of each right label
abbrev pub fields_part : (from : Ty) → TermRow → Term
fields_part from parts = Term.Lam from (Term.Fields (coerced parts))

-- a functor: the argument is coerced by f, the left functor applied at types, the result coerced by g
abbrev pub functor_part : (from : Ty) → (left right : Effect) → List Kind → (param : Ty) → List Ty → (f g : Term) → Term
functor_part from left right ks param ts f g =
    let result = Term.Get (Term.Call (insts (Term.Var 1) ts) (Term.Call f (Term.Var 0))) (result_label left) in
    Term.Lam from (ty_lam_over ks (Term.Lam param (Term.Fields (TermRow.More (result_label right) (Term.Call g result) TermRow.End))))

-- a left side that hides nothing: coerced by f, and the types of the match packed, of which there may be none
pub data MatchPart (ctx : List Kind) (from : Ty) (ts : List Ty) (f : Term) (to : Ty) : Term → Type 0 where
  made : {e : Term} → Packs ctx ts (Term.Call f (Term.Var zero)) to e → MatchPart ctx from ts f to (Term.Lam from e)

-- a signature that hides types: these are opened first; ts, f and to stand under them, inner being the context there
pub data AbsPart (inner : List Kind) (from : Ty) (ks : List Kind) (ts : List Ty) (f : Term) (to : Ty) : Term → Type 0 where
  made : {e : Term} → Packs inner ts (Term.Call f (Term.Var zero)) to e → AbsPart inner from ks ts f to (Term.Lam from (opens ks (Term.Var zero) from e))
