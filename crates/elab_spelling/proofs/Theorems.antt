-- The theorems in the form in which contracts cite them.
-- Main results: types_are_spelled, terms_are_spelled, programs_have_text, programs_read_back.
use Rattle.std.specs.Prelude.{[]}
use Rattle.omega_terms.specs.OmegaText.{version_text}
use Rattle.omega_terms.proofs.TypingLaws.{good-none, type-kind}
use Rattle.omega_spelling.proofs.Wholes.{omega-again}
use Rattle.std.proofs.Math.Path.{refl}
use Rattle.sig_definitions.specs.Signatures.Sig.{made}
use Rattle.sig_definitions.specs.Signatures.Encoding.{enc_abs}
use Rattle.elab_judgments.specs.Judgments.Program.{program}
use Rattle.elab_laws.proofs.TypedClaims.{whole_is_typed}
use Rattle.elab_spelling.specs.Claims.{TypesAreSpelled, TermsAreSpelled, ClosedTypesInScope, ClosedTermsInScope, EncodingsAreLegible, MatchesAreLegible}
use Rattle.elab_spelling.specs.Claims.{TypesMeanLegible, ExpsMeanLegible, SigsMeanLegible, ModsMeanLegible, ProgramsMeanLegible, ProgramsHaveText}
use Rattle.elab_spelling.specs.Claims.{ProgramsReadBack}
use Rattle.elab_spelling.proofs.Splitting.{ty-spelled, spelled-ty, term-spelled, spelled-term}
use Rattle.elab_spelling.proofs.Scopes.{closed-type, closed-term}
use Rattle.elab_spelling.proofs.Signatures.{enc_abs-legible}
use Rattle.elab_spelling.proofs.Matching.{match-legible}
use Rattle.elab_spelling.proofs.Rules.{packed-legible}
use Rattle.elab_spelling.proofs.Elaborated.{ty-legible, exp-legible, sig-legible, mod-legible, binds-legible}

-- a type has a spelling exactly if it is legible and its variables are in scope
pub types_are_spelled : TypesAreSpelled
types_are_spelled v n t = (λ h. spelled-ty v n t h, λ h. ty-spelled v n t h.0 h.1)

-- a term has a spelling exactly if it is legible and its variables are in scope
pub terms_are_spelled : TermsAreSpelled
terms_are_spelled v n m e = (λ h. spelled-term v n m e h, λ h. term-spelled v n m e h.0 h.1)

-- a closed type that is not too high has its variables in scope
pub closed_types_in_scope : ClosedTypesInScope
closed_types_in_scope t k h g = closed-type h g

-- a closed typed term that is not too high has its variables in scope
pub closed_terms_in_scope : ClosedTermsInScope
closed_terms_in_scope e t h g = closed-term h g

-- a legible signature has a legible encoding
pub encodings_are_legible : EncodingsAreLegible
encodings_are_legible v x h = enc_abs-legible v x h

-- a match of legible signatures finds legible types and a legible coercion
pub matches_are_legible : MatchesAreLegible
matches_are_legible v ctx s x ts f w r h g m = match-legible v w r m h g

-- a type phrase that is spelled means a legible type
pub types_mean_legible : TypesMeanLegible
types_mean_legible v g a t k w l s m = ty-legible v g w l s m

-- an expression that is spelled means a legible type and a legible term
pub exps_mean_legible : ExpsMeanLegible
exps_mean_legible v g a t e w l s m = exp-legible v g w l s m

-- a signature phrase that is spelled means a legible signature
pub sigs_mean_legible : SigsMeanLegible
sigs_mean_legible v g a x w l s m = sig-legible v g w l s m

-- a module phrase that is spelled means a legible module
pub mods_mean_legible : ModsMeanLegible
mods_mean_legible v g a m w l s d = mod-legible v g w l s d

-- a program that is spelled means a legible module, and its whole term is legible
pub programs_mean_legible : ProgramsMeanLegible
programs_mean_legible v bs m whole s (program b p) = let h = binds-legible v [] tt tt tt tt s b in (h, packed-legible v h p)

-- such a program's whole term and encoded signature, if not too high, have a text
pub programs_have_text : ProgramsHaveText
programs_have_text v bs f x ts e whole s m low shallow =
    let h = programs_mean_legible v bs (made f x ts e) whole s m in
    let typed = whole_is_typed bs f x ts e whole m in
    record {
      type_spelled = ty-spelled v 0 (enc_abs x) (enc_abs-legible v x h.0.0) (closed-type (type-kind (good-none []) typed) low);
      term_spelled = term-spelled v 0 0 whole h.1 (closed-term typed shallow);
      text = refl;
    }

-- reading this text gives them again, where no more than 4,000 parentheses are open
pub programs_read_back : ProgramsReadBack
programs_read_back v bs f x ts e whole s m low shallow deep =
    omega-again (version_text v (enc_abs x) whole) (enc_abs x) whole (v, programs_have_text v bs f x ts e whole s m low shallow) deep
