-- One meaning or one refusal of each program, as the code answers it.
-- Main results: meaning, typed, refused.
use Rattle.std.proofs.Common.{◌≡◌, List, [], sym, ap, ◌∙◌}
use Rattle.omega_kinds.specs.Name.{Name}
use Rattle.omega_terms.specs.Term.{Term}
use Rattle.omega_terms.specs.Typing.{HasType}
use Rattle.omega_terms.specs.declared.version.Version.{Version}
use Rattle.sig_definitions.specs.Env.{Env}
use Rattle.sig_definitions.specs.Packing.{Packed}
use Rattle.sig_definitions.specs.Signatures.Sig.{Module}
use Rattle.sig_definitions.specs.Signatures.Encoding.{enc_abs}
use Rattle.sig_definitions.specs.Verdict.{holds, refuses}
use Rattle.sig_laws.specs.Good.{KindedModule}
use Rattle.sig_laws.proofs.Formed.WellFormedShape.{kinded}
use Rattle.fing_syntax.specs.Phrase.{Binds}
use Rattle.refusal_reasons.specs.Refusal.{Refusal}
use Rattle.elab_judgments.specs.Judgments.Meaning.{BindsMean}
use Rattle.elab_judgments.specs.Judgments.Program.{ProgramMeans, ProgramRefused}
use Rattle.elab_judgments.specs.Refusals.Task.{binds}
use Rattle.elab_laws.proofs.Kept.{binds_ok}
use Rattle.elab_laws.proofs.TypedClaims.{whole_is_typed}
use Rattle.elab_exact.specs.Claims.{ProgramExactly}
use Rattle.elab_exact.proofs.Theorems.{each-program}
use Rattle.elab_spelling.specs.Legible.{TyLegible, TermLegible}
use Rattle.elab_spelling.specs.Phrases.{BindsSpelled}
use Rattle.elab_spelling.proofs.Theorems.{encodings_are_legible, programs_mean_legible}
use Rattle.fing_refusals.specs.Inner.Plain.{Says}
use Rattle.fing_refusals.specs.declared.refusal.Refusal.{Refusal as CodeRefusal}
use Rattle.elab_rules.specs.Inner.Answered.{RefusedAs}
use Rattle.elab_rules.proofs.Placing.{says-map}
use Rattle.fing_elab.specs.declared.whole.Elaborated.{Elaborated}
use Rattle.fing_elab.specs.Inner.Exactly.{module_in, Means, IsRefused}

-- from an environment, names and bindings to the empty ones and the program
pub entered : (P : Env → List Name → Binds → Type 0) {g : Env} {ns : List Name} {bs program : Binds} → g ≡ [] → ns ≡ [] → bs ≡ program → P g ns bs → P [] [] program
entered P g n b h = rw (g, n, b) at h

-- the module of a program is good
pub good : (bs : Binds) (m : Module) → BindsMean [] [] bs m → KindedModule [] m
good bs m p = kinded [] m (binds_ok [] [] bs m tt tt p)

-- what the bindings of a program mean, with its packed term, is what the program means
pub meaning : (bs : Binds) (o : Elaborated) → BindsMean [] [] bs (module_in o) → Packed [] (module_in o) o.whole → Means bs o
meaning bs o p q = go (each-program bs)
  where
    derived : ProgramMeans bs (module_in o) o.whole
    derived = ProgramMeans.program p q

    go : ProgramExactly bs → Means bs o
    go (refuses r w only never) = absurd (never (module_in o, o.whole) derived)
    go (holds x w only never) = record {
      derived = derived;
      only = λ m whole h.
          let e : (m, whole) ≡ (module_in o, o.whole) = only (m, whole) h ∙ sym (only (module_in o, o.whole) derived) in
          (ap (λ (y : Module × Term). y.0) e, ap (λ (y : Module × Term). y.1) e);
      unrefused = never;
    }

-- the whole term of a program has the type of its whole signature
pub typed : (bs : Binds) (o : Elaborated) → BindsMean [] [] bs (module_in o) → Packed [] (module_in o) o.whole → HasType [] [] o.whole (enc_abs o.sig)
typed bs o p q = whole_is_typed bs o.effect o.sig o.types o.term o.whole (ProgramMeans.program p q)

-- the encoding of the signature and the whole term have a spelling, apart from the scope of variables, where the program's
-- names, texts and numbers have one
pub legible : (bs : Binds) (o : Elaborated) → BindsMean [] [] bs (module_in o) → Packed [] (module_in o) o.whole → (v : Version) → BindsSpelled v bs
    → TyLegible v (enc_abs o.sig) × TermLegible v o.whole
legible bs o p q v s = let h = programs_mean_legible v bs (module_in o) o.whole s (ProgramMeans.program p q) in (encodings_are_legible v o.sig h.0.0, h.1)

refusal : (bs : Binds) (r : Refusal) → ProgramRefused bs r → IsRefused bs r
refusal bs r h = go (each-program bs)
  where
    go : ProgramExactly bs → IsRefused bs r
    go (holds x w only never) = absurd (never r h)
    go (refuses s w only never) = record { refused = h; only = λ q k. only q k ∙ sym (only r h); meaningless = λ m whole p. never (m, whole) p }

-- a refusal of the bindings of a program is that of the program
pub refused : (bs : Binds) (e : CodeRefusal) → RefusedAs [] (binds [] bs) e → Says e (IsRefused bs)
refused bs e h = says-map e (refusal bs) h.stands
