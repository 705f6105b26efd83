-- A field of a module (Rossberg, Russo, Dreyer, F-ing modules, sections 4 and 7).
use Rattle.std.specs.Prelude.{zero, List, []}
use Rattle.omega_kinds.specs.Kind.{Kind}
use Rattle.omega_kinds.specs.declared.label.Label.{Label}
use Rattle.omega_kinds.specs.declared.effect.Effect.TheVariants.{Pure, Impure}
use Rattle.omega_kinds.specs.Name.{Name}
use Rattle.omega_types.specs.Ty.{Ty}
use Rattle.omega_types.specs.Binders.{extend, raise, vars}
use Rattle.omega_terms.specs.Term.{Term}
use Rattle.omega_terms.specs.Shorthands.{opens, Packs}
use Rattle.sig_definitions.specs.Signatures.Sig.{Sig, Abs, SigRow, HasField, Module, made}
use Rattle.sig_definitions.specs.Signatures.Encoding.{enc_abs}

-- Projected ctx whole x part: an impure module is opened, and what it hides is packed again with the field
pub data Projected (ctx : List Kind) : Module → Name → Module → Type 0 where
  pure : {ks : List Kind} {fs : SigRow} {l : Name} {s : Sig} {ts : List Ty} {e : Term}
      → HasField fs l s
      → Projected ctx (made Pure (Abs.Ex ks (Sig.Str fs)) ts e) l (made Pure (Abs.Ex ks s) ts (Term.Get e (Label.Name l)))
  impure : {ks : List Kind} {fs : SigRow} {l : Name} {s : Sig} {ts : List Ty} {e d : Term}
      → HasField fs l s
      → Packs (extend ctx ks) (vars ks) (Term.Get (Term.Var zero) (Label.Name l)) (raise ks (enc_abs (Abs.Ex ks s))) d
      → Projected ctx (made Impure (Abs.Ex ks (Sig.Str fs)) ts e) l (made Impure (Abs.Ex ks s) [] (opens ks e (enc_abs (Abs.Ex ks (Sig.Str fs))) d))
