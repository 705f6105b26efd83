-- A signature is below itself, and matches itself at its own variables.
use Rattle.std.specs.Prelude.{List, ◌≡◌}
use Rattle.omega_kinds.specs.Kind.{Kind}
use Rattle.omega_types.specs.Ty.{Ty}
use Rattle.omega_types.specs.Binders.{extend, vars}
use Rattle.omega_terms.specs.Term.{Term}
use Rattle.sig_definitions.specs.Signatures.Sig.{Sig, Abs}
use Rattle.sig_definitions.specs.Signatures.SigSubst.{raise_abs}
use Rattle.sig_definitions.specs.Matching.Subtyping.{Sub, SubAbs, Match}
use Rattle.sig_laws.specs.Good.{OkSig, OkAbs, OkRight}

abbrev pub SelfSub : Type 0
SelfSub = (ctx : List Kind) (s : Sig) → OkSig ctx s → (f : Term) × Sub ctx s s f

abbrev pub SelfSubAbs : Type 0
SelfSubAbs = (ctx : List Kind) (x : Abs) → OkAbs ctx x → (f : Term) × SubAbs ctx x x f

-- the body, under its own variables, against the whole
abbrev pub SelfMatch : Type 0
SelfMatch = (ctx ks : List Kind) (s : Sig) → OkAbs ctx (Abs.Ex ks s) → (f : Term) × Match (extend ctx ks) s (raise_abs ks (Abs.Ex ks s)) (vars ks) f

-- where it is ordered explicit, there are no other types
abbrev pub OneSelfMatch : Type 0
OneSelfMatch = (ctx ks : List Kind) (s : Sig) (ts : List Ty) (f : Term) → OkRight ctx (Abs.Ex ks s) → Match (extend ctx ks) s (raise_abs ks (Abs.Ex ks s)) ts f → ts ≡ vars ks
