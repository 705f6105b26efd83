-- The theorems in the form in which contracts cite them.
-- Main results: tokens_are_spelled, phrases_are_spelled, emitted_have_text, emitted_read_back, sources_have_text.
use Rattle.std.specs.Prelude.{[]}
use Rattle.std.proofs.Math.Path.{refl}
use Rattle.omega_types.specs.Ty.{Ty}
use Rattle.omega_terms.specs.declared.version.Version.TheVariants.{Second}
use Rattle.omega_terms.specs.Term.{Term}
use Rattle.omega_terms.specs.Typing.{HasType}
use Rattle.omega_terms.specs.OmegaText.{version_text}
use Rattle.omega_terms.proofs.TypingLaws.{good-none, type-kind}
use Rattle.omega_spelling.proofs.Wholes.{omega-again}
use Rattle.sig_definitions.specs.Signatures.Sig.{made}
use Rattle.sig_definitions.specs.Signatures.Encoding.{enc_abs}
use Rattle.omega_simplify_laws.proofs.Kept.{kept}
use Rattle.elab_laws.proofs.TypedClaims.{whole_is_typed}
use Rattle.elab_spelling.proofs.Scopes.{closed-type, closed-term}
use Rattle.elab_spelling.proofs.Theorems.{types_are_spelled, terms_are_spelled, encodings_are_legible, programs_mean_legible}
use Rattle.parse_spelling.specs.Claims.{TokensAreSpelled, KeywordsAreSpelled, PhrasesAreSpelled, ProgramsAreSpelled, UnitsAreSpelled, Compiles, Emits}
use Rattle.parse_spelling.specs.Claims.{EmittedAreTyped, EmittedInScope, EmittedHaveText, EmittedReadBack, SourcesHaveText}
use Rattle.parse_spelling.proofs.Simplified.{emits-legible}
use Rattle.parse_spelling.proofs.Tokens.{tokens-spelled, keywords-spelled}
use Rattle.parse_spelling.proofs.Trees.{phrase-spelled}

-- the names, numbers and texts of the tokens of bytes have a spelling
pub tokens_are_spelled : TokensAreSpelled
tokens_are_spelled bytes tokens l = tokens-spelled l

-- in the second version the phrases of all keywords have a spelling
pub keywords_are_spelled : KeywordsAreSpelled
keywords_are_spelled tokens = keywords-spelled tokens

-- what phrases of such tokens give has names, numbers and texts that have a spelling
pub phrases_are_spelled : PhrasesAreSpelled
phrases_are_spelled v n tokens x h k p = phrase-spelled v h k p

-- a program of such tokens has names, numbers and texts that have a spelling
pub programs_are_spelled : ProgramsAreSpelled
programs_are_spelled v bytes tokens program l k p = phrase-spelled v (tokens-spelled l) k p

-- units of such tokens have names, numbers and texts that have a spelling
pub units_are_spelled : UnitsAreSpelled
units_are_spelled v bytes tokens units l k p = phrase-spelled v (tokens-spelled l) k p

emits-typed : {whole e : Term} {t : Ty} → Emits whole e → HasType [] [] whole t → HasType [] [] e t
emits-typed Emits.as_it_is h = h
emits-typed Emits.simpler h = kept (good-none []) h

-- what is emitted for a program has the encoding of its signature as its type
pub emitted_are_typed : EmittedAreTyped
emitted_are_typed v x whole e c m = emits-typed m (whole_is_typed c.program c.effect x c.types c.term whole c.derived)

-- what is emitted, if not too high, has its variables in scope, and so has its type
pub emitted_in_scope : EmittedInScope
emitted_in_scope v x whole e c m low shallow =
    let typed = emitted_are_typed v x whole e c m in
    (closed-type (type-kind (good-none []) typed) low, closed-term typed shallow)

-- what is emitted, in scope, has a text in each version in which the program is spelled
pub emitted_have_text : EmittedHaveText
emitted_have_text v x whole e c m t n =
    let h = programs_mean_legible v c.program (made c.effect x c.types c.term) whole c.spelled c.derived in
    record {
      type_spelled = (types_are_spelled v 0 (enc_abs x)).1 (encodings_are_legible v x h.0.0, t);
      term_spelled = (terms_are_spelled v 0 0 e).1 (emits-legible v m h.1, n);
      text = refl;
    }

-- reading this text gives the type and the term again, where no more than 4,000 parentheses are open
pub emitted_read_back : EmittedReadBack
emitted_read_back v x whole e c m t n shallow =
    omega-again (version_text v (enc_abs x) e) (enc_abs x) e (v, emitted_have_text v x whole e c m t n) shallow

-- what is emitted for the program that the bytes of a source spell has a text
pub sources_have_text : SourcesHaveText
sources_have_text bytes tokens program f x ts d whole e l p q m low shallow =
    let s = programs_are_spelled Second bytes tokens program l (keywords-spelled tokens) p in
    let c : Compiles Second x whole = record { program = program; spelled = s; effect = f; types = ts; term = d; derived = q } in
    let scope = emitted_in_scope Second x whole e c m low shallow in
    (Second, emitted_have_text Second x whole e c m scope.0 scope.1)
