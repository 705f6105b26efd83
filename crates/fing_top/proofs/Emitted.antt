-- What `emit` and `link` write is a text of the type and the term that are confirmed, and `verify` finds it well typed.
-- Main results: emitted_is_verified, hands_out.
use Rattle.std.proofs.Common.{◌≡◌, ◌≤◌, ℕ, List, [], ◌∷◌, Bool, true, false, Option, Some, None, arith, refl, sym, ap, subst, ◌∙◌}
use Rattle.std.specs.Prelude.{◌^◌}
use Rattle.omega_types.specs.Ty.{Ty}
use Rattle.omega_types.specs.Height.{height}
use Rattle.omega_terms.specs.Height.{term_height}
use Rattle.omega_checker.specs.Judgment.{Judgment}
use Rattle.omega_terms.specs.declared.version.Version.TheVariants.{Second}
use Rattle.omega_terms.specs.Term.{Term}
use Rattle.omega_terms.specs.OmegaText.{omega_text}
use Rattle.omega_spelling.specs.Omega.{OmegaText, TextIn}
use Rattle.omega_spelling.specs.Refusals.{is_too_deep}
use Rattle.omega_read.proofs.Wholes.{read_again}
use Rattle.sig_definitions.specs.Signatures.Sig.{Abs, made}
use Rattle.sig_definitions.specs.Signatures.Encoding.{enc_abs}
use Rattle.fing_syntax.specs.Phrase.{Binds as Program}
use Rattle.fing_syntax.specs.Units.{UnitTree, UnitAt}
use Rattle.parse_grammar.specs.Meaning.{Value}
use Rattle.elab_spelling.specs.Legible.{TyLegible, TermLegible}
use Rattle.elab_spelling.specs.Phrases.{BindsSpelled}
use Rattle.elab_spelling.proofs.Theorems.{encodings_are_legible, programs_mean_legible}
use Rattle.parse_spelling.specs.Values.{UnitsSpelled, ValueSpelled}
use Rattle.parse_spelling.specs.Claims.{Compiles, Emits}
use Rattle.parse_spelling.proofs.Simplified.{emits-legible}
use Rattle.parse_spelling.proofs.Theorems.{tokens_are_spelled, keywords_are_spelled, phrases_are_spelled, emitted_are_typed, emitted_in_scope, emitted_have_text}
use Rattle.unit_laws.specs.Units.{program_of}
use Rattle.fing_text.specs.Told.{Told}
use Rattle.fing_text.specs.Writes.{Grew}
use Rattle.fing_words.specs.declared.command_line.CommandLine.{CommandLine}
use Rattle.fing_words.specs.declared.command_line.CommandLine.TheVariants as command
use Rattle.fing_words.proofs.OneLine.{one_line}
use Rattle.fing_top.specs.declared.status.Status.{Status}
use Rattle.fing_top.specs.declared.status.Status.TheVariants as status
use Rattle.fing_top.specs.Meaning.{Form, one_program, separate_units, class_of, stands_for, Spells, Meaning, BytesMean}
use Rattle.fing_top.specs.Reply.{Reply, accepted, emitted, omega_reply, TellsTerm, ProgramReplies, VerifyReplies}
use Rattle.fing_top.specs.Emission.{IsVerified, IsEmitted, EmittedIsVerified, IsLow, HandsOutText, WritesText, HandsOut}
use Rattle.fing_top.specs.Answer.{Change, Output, Confirms, IsWritten, IsReplied, Answers}
use Rattle.fing_top.proofs.TextDepth.{not-high}

-- the program of units that are spelled is spelled, the hidden names of their sealings too
units-spelled : (us : List UnitTree) → UnitsSpelled Second us → BindsSpelled Second (program_of us)
units-spelled [] h = tt
units-spelled (UnitAt at x s m ∷ us) h = ((h.0.0, (((refl, h.0.2), ((refl, (refl, h.0.1)), tt)), refl)), units-spelled us h.1)

program-spelled : (form : Form) (tree : Value (class_of form)) → ValueSpelled Second (class_of form) tree → BindsSpelled Second (stands_for form tree)
program-spelled one_program program h = h
program-spelled separate_units units h = units-spelled units h

spells-spelled : {form : Form} {bytes : List ℕ} {program : Program} → Spells form bytes program → BindsSpelled Second program
spells-spelled {form} {bytes} s =
    let h = phrases_are_spelled Second (class_of form) s.tokens s.tree (tokens_are_spelled bytes s.tokens s.lexed) (keywords_are_spelled s.tokens) s.phrase in
    subst (BindsSpelled Second) s.stands (program-spelled form s.tree h)

compiles : {form : Form} {bytes : List ℕ} {m : Meaning} → BytesMean form bytes m → Compiles Second m.sig m.whole
compiles {m = m} b = record {
  program = m.program;
  spelled = spells-spelled b.spelled;
  effect = m.effect;
  types = m.types;
  term = m.term;
  derived = b.derived;
}

emits : (simplify : Bool) (whole : Term) → Emits whole (emitted simplify whole)
emits false whole = Emits.as_it_is
emits true whole = Emits.simpler

module _ {x : Abs} {whole e : Term} (c : Compiles Second x whole) (k : Emits whole e) where
  -- what is emitted is legible
  legible : TyLegible Second (enc_abs x) × TermLegible Second e
  legible =
      let h = programs_mean_legible Second c.program (made c.effect x c.types c.term) whole c.spelled c.derived in
      (encodings_are_legible Second x h.0.0, emits-legible Second k h.1)

  low-text : height (enc_abs x) ≤ 2 ^ 64 → term_height e ≤ 2 ^ 63 → TextIn Second (omega_text (enc_abs x) e) (enc_abs x) e
  low-text low shallow = let scope = emitted_in_scope Second x whole e c k low shallow in emitted_have_text Second x whole e c k scope.0 scope.1

  low-spelled : height (enc_abs x) ≤ 2 ^ 64 → term_height e ≤ 2 ^ 63 → OmegaText (omega_text (enc_abs x) e) (enc_abs x) e
  low-spelled low shallow = (Second, low-text low shallow)

  fits-verified : is_too_deep (omega_text (enc_abs x) e) ≡ false → IsVerified (omega_text (enc_abs x) e) (enc_abs x) e
  fits-verified fits =
      let high = not-high Second (enc_abs x) e legible.0 legible.1 fits in
      let text : TextIn Second (omega_text (enc_abs x) e) (enc_abs x) e = low-text (omega (arith, high.0)) (omega (arith, high.1)) in
      record {
        spelled = (Second, text);
        read = read_again Second (enc_abs x) e text.type_spelled text.term_spelled fits;
        verified = VerifyReplies.well_typed (Second, text) fits (emitted_are_typed Second x whole e c k);
      }

-- what is written for a meaning
meaning-emitted : {form : Form} {bytes : List ℕ} {m : Meaning} (simplify : Bool) → BytesMean form bytes m
    → IsEmitted (omega_text (enc_abs m.sig) (emitted simplify m.whole)) (enc_abs m.sig) (emitted simplify m.whole)
meaning-emitted {m = m} simplify b =
    let c : Compiles Second m.sig m.whole = compiles b in
    let k : Emits m.whole (emitted simplify m.whole) = emits simplify m.whole in
    record { verified = fits-verified c k; spelled = low-spelled c k }

-- the term and the type of a reply, or those given where none are confirmed
abbrev term_in : Term → Option Judgment → Term
term_in e None = e
term_in e (Some j) = j.term

abbrev ty_in : Ty → Option Judgment → Ty
ty_in t None = t
ty_in t (Some j) = j.ty

written-emitted : {form : Form} {bytes text : List ℕ} {t : Ty} {e : Term} {r : Reply} (simplify : Bool) → ProgramReplies form (TellsTerm simplify) bytes r → r ≡ accepted t e text
    → IsEmitted text t e
written-emitted {text = text} {t = t} {e = e} simplify (ProgramReplies.meant {m = m} b told) same =
    let x : Ty = enc_abs m.sig in
    let d : Term = emitted simplify m.whole in
    let whole : omega_reply x d ≡ accepted t e text = sym told ∙ same in
    let of_text : omega_text x d ≡ text = ap (λ (r : Reply). r.text) whole in
    let of_ty : x ≡ t = ap (λ (r : Reply). ty_in x r.confirmed) whole in
    let of_term : d ≡ e = ap (λ (r : Reply). term_in d r.confirmed) whole in
    let here : IsEmitted (omega_text x d) x d = meaning-emitted simplify b in
    subst (λ w. IsEmitted w t e) of_text (subst (λ u. IsEmitted (omega_text x d) u e) of_ty (subst (IsEmitted (omega_text x d) x) of_term here))
written-emitted simplify (ProgramReplies.refuses h) same =
    let p : status.Refused ≡ status.Ok = ap (λ (r : Reply). r.status) same in
    absurd (cc)

-- what `emit` and `link` write is found well typed by `verify`
pub emitted_is_verified : EmittedIsVerified
emitted_is_verified = (λ simplify bytes text t e told. written-emitted simplify told refl, λ bytes text t e told. written-emitted false told refl)

-- ---- what the call hands out

-- a reply that was written whole with status Ok
written-handed : {form : Form} {bytes : List ℕ} {r : Reply} (simplify : Bool) (out : Output) → ProgramReplies form (TellsTerm simplify) bytes r → status.Ok ≡ r.status
    → Grew out.sink.old out.sink.new r.text → Confirms out.confirmed r.confirmed → IsLow out.confirmed.new → HandsOutText out
written-handed simplify out (ProgramReplies.meant {m = m} b told) s w p low =
    let x : Ty = enc_abs m.sig in
    let e : Term = emitted simplify m.whole in
    let j : Judgment = record { term = e; ty = x } in
    let handed : Confirms out.confirmed (Some j) = subst (λ (r : Reply). Confirms out.confirmed r.confirmed) told p in
    let here : IsEmitted (omega_text x e) x e = meaning-emitted simplify b in
    let heights : IsLow (Some j) = subst IsLow handed low in
    let low_type : height x ≤ 8192 = heights.0 in
    let low_term : term_height e ≤ 8192 = heights.1 in
    record {
      judgment = j;
      confirmed = handed;
      text = omega_text x e;
      written = subst (λ (r : Reply). Grew out.sink.old out.sink.new r.text) told w;
      spelled = here.spelled (omega (arith, low_type)) (omega (arith, low_term));
      verified = here.verified;
    }
written-handed simplify out (ProgramReplies.refuses h) s w p low =
    let other : status.Ok ≡ status.Refused = s in
    absurd (cc)

command-handed : (c : CommandLine) (bytes : List ℕ) (out : Output) → WritesText c → IsWritten c bytes out status.Ok → IsLow out.confirmed.new → HandsOutText out
command-handed (command.Emit simplify) bytes out t w low = written-handed simplify out w.replies w.status w.written w.confirmed low
command-handed command.Link bytes out t w low = written-handed false out w.replies w.status w.written w.confirmed low
command-handed command.Check bytes out t w low = absurd t
command-handed (command.Run budget) bytes out t w low = absurd t
command-handed command.Verify bytes out t w low = absurd t
command-handed (command.Gen size) bytes out t w low = absurd t

-- an answer of `emit` or `link` hands out the text of a term that is not too high
pub hands_out : (words : List (List ℕ)) (source : Change Told) (out : Output) (answer : Status) → Answers words source out answer → IsLow out.confirmed.new → HandsOut words out answer
hands_out words source out answer a low c line t same =
    let done : IsReplied words source out status.Ok = subst (Answers words source out) same a in
    let w : IsWritten c done.bytes out status.Ok = subst (λ (b : CommandLine). IsWritten b done.bytes out status.Ok) (one_line words done.command c done.line line) done.answered in
    command-handed c done.bytes out t w low

-- nothing is asked of another answer
pub hands_nothing_out : (words : List (List ℕ)) (out : Output) (answer : Status) → (answer ≡ status.Ok → ⊥) → HandsOut words out answer
hands_nothing_out words out answer other c line t same = absurd (other same)
