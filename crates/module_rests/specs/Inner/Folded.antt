-- Pure bindings in a row, sequenced by the rule from the last one to the first.
use Rattle.std.specs.Prelude.{List, [], ◌∷◌}
use Rattle.omega_kinds.specs.Kind.{Kind}
use Rattle.omega_kinds.specs.declared.effect.Effect.TheVariants.{Pure}
use Rattle.omega_types.specs.Ty.{Ty}
use Rattle.omega_types.specs.Binders.{extend}
use Rattle.omega_terms.specs.Term.{Term}
use Rattle.sig_definitions.specs.Signatures.Sig.{Sig, Abs, Module, made}
use Rattle.sig_laws.specs.Good.{OkModule}
use Rattle.module_judgments.specs.Sequence.{Seq}

-- Folded ctx steps last whole: each of the modules is bound under those before it, and the last one stands under them all;
-- each is good where it stands
pub data Folded : List Kind → List Module → Module → Module → Type 0 where
  last : {ctx : List Kind} {m : Module} → Folded ctx [] m m
  next : {ctx ks : List Kind} {s : Sig} {ts us vs : List Ty} {e d c : Term} {y z : Abs} {steps : List Module} {m : Module}
      → OkModule ctx (made Pure (Abs.Ex ks s) ts e)
      → OkModule (extend ctx ks) (made Pure y us d)
      → Folded (extend ctx ks) steps m (made Pure y us d)
      → Seq ctx (made Pure (Abs.Ex ks s) ts e) (made Pure y us d) (made Pure z vs c)
      → Folded ctx (made Pure (Abs.Ex ks s) ts e ∷ steps) m (made Pure z vs c)
