-- The terms that are emitted for a program's whole term.
-- Main results: typed_simplified, is_simplified.
use Rattle.std.proofs.Common.{◌≡◌, ℕ, true, false, List, [], refl, sym, subst}
use Rattle.omega_terms.specs.Term.{Term}
use Rattle.omega_terms.specs.Typing.{HasType, GoodVars}
use Rattle.omega_types.specs.Ty.{Ty}
use Rattle.sig_definitions.specs.Signatures.Encoding.{enc_abs}
use Rattle.omega_checker.specs.Judgment.{Judgment}
use Rattle.omega_simplify_laws.specs.Simplified.{simplified}
use Rattle.omega_simplify_laws.proofs.Kept.{kept}
use Rattle.fing_syntax.specs.Phrase.{Binds as Program}
use Rattle.fing_elab.specs.Inner.Exactly.{Means}
use Rattle.fing_elab.specs.declared.whole.Elaborated.{Elaborated}
use Rattle.fing_top.specs.Inner.Compiled.{meaning_of, IsCompiled, IsConfirmed}
use Rattle.fing_top.specs.declared.compiling.Compiled.{Compiled}
use Rattle.fing_top.specs.Meaning.{one_program, Spells}

no_vars : GoodVars [] []
no_vars n t at = elim at [ ]

-- a simplified term has the type of the term
pub typed_simplified : {e d : Term} {t : Ty} → e ≡ simplified d → HasType [] [] d t → HasType [] [] e t
typed_simplified {e} {d} {t} same h = subst (λ (x : Term). HasType [] [] x t) (sym same) (kept no_vars h)

-- the whole term of what is compiled is confirmed as it is
pub of_compiled : (bytes : List ℕ) (c : Compiled) → IsCompiled bytes c → IsConfirmed one_program false bytes c.checked
of_compiled bytes c h = record { meaning = meaning_of c h.program h.types h.term; means = h.means; term = refl; ty = h.ty }

-- the simplified whole term of a program is confirmed with the encoding of its signature
pub is_simplified : (bytes : List ℕ) (program : Program) (o : Elaborated) (e : Term) (j : Judgment) → Spells one_program bytes program → Means program o → e ≡ simplified o.whole → (j.term ≡ e) × (j.ty ≡ enc_abs o.sig)
    → IsConfirmed one_program true bytes j
is_simplified bytes program o e j p m s h = record {
  meaning = record { program = program; effect = o.effect; sig = o.sig; types = o.types; term = o.term; whole = o.whole };
  means = record { spelled = p; derived = m.derived };
  term = rw (h.0, s) refl;
  ty = h.1;
}
