-- Types put into what the rule of a sequence makes of a pure binding and a pure rest.
use Rattle.std.specs.Prelude.{ℕ, List, ◌++◌, map}
use Rattle.omega_kinds.specs.Kind.{Kind}
use Rattle.omega_kinds.specs.declared.effect.Effect.TheVariants.{Pure}
use Rattle.omega_types.specs.Ty.{Ty}
use Rattle.omega_types.specs.Substitution.{substitute}
use Rattle.omega_types.specs.Binders.{extend, puts, NormalForms}
use Rattle.omega_terms.specs.Term.{Term}
use Rattle.omega_terms.specs.Shorthands.{let_in}
use Rattle.omega_terms.specs.Instance.{Instance}
use Rattle.sig_definitions.specs.Signatures.Sig.{Sig, Abs, made}
use Rattle.sig_definitions.specs.Signatures.SigSubst.{substitute_sig}
use Rattle.sig_definitions.specs.Signatures.Alike.{NormalSigForm}
use Rattle.sig_definitions.specs.Signatures.Encoding.{enc}
use Rattle.sig_laws.specs.Good.{OkModule}
use Rattle.sig_laws.specs.SigLaws.{PutsKinds}
use Rattle.module_judgments.specs.Sequence.{Seq}

-- types us and a term c in the context mid, with types for its variables put in by f: ns and d in the context ctx
pub record IsPut (mid ctx : List Kind) (f : ℕ → Ty) (ks : List Kind) (us : List Ty) (c : Term) (ns : List Ty) (d : Term) : Type 0 where
  pub types : NormalForms ctx (map (substitute f) us) ks ns
  pub term : Instance mid ctx f c d

-- a binding, the rest, and both together: the binding's types with others put in are put into the rest at once with these
abbrev pub SequencePutIn : Type 0
SequencePutIn = (mid ctx ks js hs : List Kind) (f : ℕ → Ty) (s t r n : Sig) (ts us vs ns more : List Ty) (e d w c i : Term)
    → PutsKinds mid ctx f
    → OkModule mid (made Pure (Abs.Ex ks s) ts e)
    → OkModule (extend mid ks) (made Pure (Abs.Ex js t) us d)
    → Seq mid (made Pure (Abs.Ex ks s) ts e) (made Pure (Abs.Ex js t) us d) (made Pure (Abs.Ex hs r) vs w)
    → IsPut mid ctx f ks ts e ns c
    → NormalSigForm ctx (substitute_sig (puts ns f) s) n
    → IsPut (extend mid ks) ctx (puts ns f) js us d more i
    → IsPut mid ctx f hs vs w (ns ++ more) (let_in (enc n) c i)
