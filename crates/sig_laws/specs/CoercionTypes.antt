-- The statements that each coercion of subtyping and of matching has the type that its rule says
-- (Rossberg, Russo, Dreyer, F-ing modules, section 4).
use Rattle.std.specs.Prelude.{List, []}
use Rattle.omega_kinds.specs.Kind.{Kind}
use Rattle.omega_types.specs.Ty.{Ty}
use Rattle.omega_types.specs.Binders.{extend, OfKinds}
use Rattle.omega_terms.specs.Term.{Term}
use Rattle.omega_terms.specs.Typing.{HasType}
use Rattle.sig_definitions.specs.Signatures.Sig.{Sig, Abs}
use Rattle.sig_definitions.specs.Signatures.SigSubst.{sig_at}
use Rattle.sig_definitions.specs.Signatures.Alike.{NormalSig, NormalAbs}
use Rattle.sig_definitions.specs.Signatures.Encoding.{enc, enc_abs}
use Rattle.sig_definitions.specs.Explicit.WellFormed.{WellFormed, WellFormedAbs}
use Rattle.sig_definitions.specs.Matching.Subtyping.{Sub, SubAbs, Match}

-- a coercion of subtyping leads from one encoding to the other
abbrev pub SubIsTyped : Type 0
SubIsTyped = (ctx : List Kind) (s t : Sig) (f : Term) → WellFormed ctx s → NormalSig ctx s → WellFormed ctx t → NormalSig ctx t → Sub ctx s t f → HasType ctx [] f (Ty.Arrow (enc s) (enc t))

-- the same where both sides may hide types
abbrev pub SubAbsIsTyped : Type 0
SubAbsIsTyped = (ctx : List Kind) (x y : Abs) (f : Term) → WellFormedAbs ctx x → NormalAbs ctx x → WellFormedAbs ctx y → NormalAbs ctx y → SubAbs ctx x y f → HasType ctx [] f (Ty.Arrow (enc_abs x) (enc_abs y))

-- a coercion of matching leads to the right side's body at the types found, which have the right kinds
abbrev pub MatchIsTyped : Type 0
MatchIsTyped = (ctx ks : List Kind) (s t : Sig) (ts : List Ty) (f : Term) → WellFormed ctx s → NormalSig ctx s → WellFormed (extend ctx ks) t → NormalSig (extend ctx ks) t → Match ctx s (Abs.Ex ks t) ts f → OfKinds ctx ts ks × HasType ctx [] f (Ty.Arrow (enc s) (enc (sig_at ts t)))
