-- What is compiled and what is verified is replied, and a source whose bytes are known is answered by its one reply.
-- Main results: completes, is_compiled, outcome_told, emission, well_replied, ill_replied.
use Rattle.std.proofs.Common.{◌≡◌, ◌⊎◌, inl, inr, ℕ, ◌+◌, ◌≤◌, Bool, true, false, List, [], ◌∷◌, ◌++◌, length, Option, Some, None, Ok, Err, Result, arith, refl, sym, ap, subst, ◌∙◌}
use Rattle.std.specs.Prelude.{IfErr, IfOk, MatchOption, MatchResult, codes}
use Rattle.std.specs.Io.KnownBytes.{Consumes, IsAtEnd}
use Rattle.std.proofs.lemmas.List.{append-nil}
use Rattle.fing_text.specs.Told.{Told}
use Rattle.fing_text.specs.Reads.{Lost, TookSome}
use Rattle.fing_text.specs.Writes.{Wrote}
use Rattle.fing_text.proofs.InARow.{lost-none}
use Rattle.omega_types.specs.Ty.{Ty}
use Rattle.omega_terms.specs.Term.{Term}
use Rattle.omega_terms.specs.Typing.{HasType}
use Rattle.sig_definitions.specs.Signatures.Encoding.{enc_abs}
use Rattle.omega_checker.specs.Judgment.{Judgment}
use Rattle.omega_read.specs.declared.whole.ReadRefusal.{ReadRefusal}
use Rattle.omega_read.specs.declared.whole.ReadRefusal.TheVariants as read
use Rattle.omega_read.specs.ReadAs.{RefusedAs, ReadAs}
use Rattle.omega_spelling.specs.Refused.{IsVersion, IsTooDeep, IsWide, IsNotOmega}
use Rattle.fing_lexer.specs.declared.lexer.LexRefusal.{LexRefusal}
use Rattle.fing_lexer.specs.declared.lexer.LexRefusal.TheVariants as lex
use Rattle.fing_lexer.specs.declared.token.Token.{Token}
use Rattle.fing_lexer.specs.Tokens.{TokensOf, RefusalOf, Sliced}
use Rattle.fing_lexer.proofs.Slices.{sliced}
use Rattle.fing_syntax.specs.Phrase.{Binds as Program}
use Rattle.parse_grammar.specs.declared.refusal.ParseRefusal.{ParseRefusal}
use Rattle.parse_grammar.specs.declared.refusal.ParseRefusal.TheVariants as parse
use Rattle.parse_grammar.specs.Inner.Refusal.{Refuses as TokensRefuse}
use Rattle.fing_words.specs.CommandLines.{IsCommandLine}
use Rattle.fing_words.specs.declared.command_line.CommandLine.{CommandLine}
use Rattle.fing_words.specs.declared.command_line.CommandLine.TheVariants as command
use Rattle.fing_words.proofs.OneLine.{one_line}
use Rattle.refusal_reasons.specs.Refusal.{Refusal as PlainRefusal}
use Rattle.fing_refusals.specs.Inner.InScope.{HasLine as RefusalHasLine}
use Rattle.fing_refusals.specs.Line.{line_of as program_line}
use Rattle.fing_refusals.specs.Inner.Plain.{Says, plain_refusal, want_of_memory}
use Rattle.fing_refusals.specs.declared.refusal.Refusal.{Refusal}
use Rattle.elab_judgments.specs.Judgments.Program.{ProgramRefused}
use Rattle.fing_elab.specs.Inner.Exactly.{Means, IsRefused as MeansNothing}
use Rattle.fing_elab.specs.declared.whole.Elaborated.{Elaborated}
use Rattle.fing_top.specs.Inner.Compiled.{meaning_of, IsCompiled, IsConfirmed, IsEmission, IsRefused}
use Rattle.omega_machine.specs.Inner.Outcomes.{fault_of, Tells as Ends}
use Rattle.omega_terms.specs.ValueText.{value_text}
use Rattle.omega_machine.specs.declared.outcome.End.{End}
use Rattle.omega_machine.specs.declared.outcome.End.TheVariants as ending
use Rattle.fing_top.specs.Counts.{bind_count, node_count, counts_line}
use Rattle.fing_top.specs.Inner.Ending.{ending_status, ending_text, counted_text}
use Rattle.fing_top.specs.Meaning.{Form, one_program, separate_units, class_of, Spells, BytesRefusal, BytesRefused}
use Rattle.fing_top.specs.Refusing.{untokened, unparsed, numbered, refusal_line, HasLine}
use Rattle.fing_top.specs.declared.compiling.Compiled.{Compiled}
use Rattle.fing_top.specs.declared.refusing.Refused.{Refused}
use Rattle.fing_top.specs.declared.refusing.Refused.TheVariants.{Program as InProgram}
use Rattle.fing_top.specs.declared.status.Status.{Status}
use Rattle.fing_top.specs.declared.status.Status.TheVariants as status
use Rattle.fing_top.specs.Reply.{Reply, answered, accepted, emitted, omega_reply, refused, reply_of, Telling, TellsTerm, TellsOutcome, TellsCounts, fault_line, Refuses, ProgramReplies, Replies, VerifyReplies}
use Rattle.fing_top.specs.Inner.Verdict.{unread, verdict_line, HasLine as HasVerdict}
use Rattle.fing_top.specs.Answer.{limit, Change, Stands, Output, Confirms, IsWritten, AnswersBytes, IsAnswered, Untouched, Takes, Spares, IsReplied, Answers, IsHanded, Completes}
use Rattle.fing_top.specs.Words.{IsReadingLine}
use Rattle.fing_top.proofs.Replies.{one_reply}

-- ---- what is compiled is replied

-- bytes have no more tokens than bytes
few_sliced : (bytes : List ℕ) (at : ℕ) (ts : List Token) → at ≤ length bytes → Sliced bytes at ts → at + length ts ≤ length bytes
few_sliced bytes at [] h s = omega (arith, h)
few_sliced bytes at (t ∷ ts) h s = omega (arith, s.0, s.1, few_sliced bytes t.span.to ts s.2 s.4)

-- bytes within the limit have few enough tokens
pub few_tokens : (bytes : List ℕ) (ts : List Token) → length bytes ≤ limit → TokensOf bytes ts → length ts ≤ 1048576
few_tokens bytes ts h t = omega (arith, h, few_sliced bytes 0 ts (omega arith) (sliced bytes ts t))

-- a refusal of the tokens is a refusal of the source
pub lexed_refused : (form : Form) (bytes : List ℕ) (r : LexRefusal) → (r ≡ lex.Mem) ⊎ RefusalOf bytes r → IsRefused form bytes (untokened r)
lexed_refused form bytes lex.Mem h l = absurd l
lexed_refused form bytes (lex.BadByte at) (inr q) l = (BytesRefusal.lexical (lex.BadByte at), BytesRefused.no_tokens q, refl)
lexed_refused form bytes (lex.BadText at) (inr q) l = (BytesRefusal.lexical (lex.BadText at), BytesRefused.no_tokens q, refl)
lexed_refused form bytes (lex.Wide at) (inr q) l = (BytesRefusal.lexical (lex.Wide at), BytesRefused.no_tokens q, refl)
lexed_refused form bytes (lex.TooDeep at) (inr q) l = (BytesRefusal.lexical (lex.TooDeep at), BytesRefused.no_tokens q, refl)
lexed_refused form bytes (lex.BadByte at) (inl e) l = absurd (cc)
lexed_refused form bytes (lex.BadText at) (inl e) l = absurd (cc)
lexed_refused form bytes (lex.Wide at) (inl e) l = absurd (cc)
lexed_refused form bytes (lex.TooDeep at) (inl e) l = absurd (cc)

-- a refusal of the grammar is a refusal of the source
pub parsed_refused : (form : Form) (bytes : List ℕ) (ts : List Token) (r : ParseRefusal) → TokensOf bytes ts → TokensRefuse (class_of form) ts r → IsRefused form bytes (unparsed r)
parsed_refused form bytes ts (parse.Syntax at) t h l = (BytesRefusal.syntactic at, BytesRefused.no_phrase t h.0 h.1, refl)
parsed_refused form bytes ts parse.Mem t h l = absurd l

line_refuses : (N : Type 0) (P : PlainRefusal → Type 0) (form : Form) (bytes : List ℕ) (program : Program) (o : Option PlainRefusal) → Spells form bytes program
    → ((r : PlainRefusal) → P r → ProgramRefused program r) → MatchOption o N P → RefusalHasLine o → Refuses form bytes (program_line o)
line_refuses N P form bytes program None p f h l = absurd l
line_refuses N P form bytes program (Some r) p f h l = (BytesRefusal.of_program r, BytesRefused.no_meaning p (f r h), refl)

-- a program that is refused so, as is said in some way
pub meaning_refused : (P : PlainRefusal → Type 0) (form : Form) (bytes : List ℕ) (program : Program) (e : Refusal) → Spells form bytes program
    → ((r : PlainRefusal) → P r → ProgramRefused program r) → Says e P → IsRefused form bytes (InProgram e)
meaning_refused P form bytes program e p f h l = line_refuses (e ≡ want_of_memory) P form bytes program (plain_refusal e) p f h l

-- a refusal of the program's meaning is a refusal of the source
pub program_refused : (bytes : List ℕ) (program : Program) (e : Refusal) → Spells one_program bytes program → Says e (MeansNothing program) → IsRefused one_program bytes (InProgram e)
program_refused bytes program e p h = meaning_refused (MeansNothing program) one_program bytes program e p (λ r q. q.refused) h

-- a program that means something is compiled to its signature and its whole term, as they were confirmed
pub is_compiled : (bytes : List ℕ) (program : Program) (n : ℕ) (o : Elaborated) (j : Judgment) → Spells one_program bytes program → n ≡ bind_count program → Means program o → (j.term ≡ o.whole) × (j.ty ≡ enc_abs o.sig)
    → IsCompiled bytes (record { bindings = n; effect = o.effect; sig = o.sig; checked = j })
is_compiled bytes program n o j p b m h = record {
  program = program;
  types = o.types;
  term = o.term;
  means = record { spelled = p; derived = rw h.0 m.derived };
  bindings = b;
  ty = h.1;
}

-- what is told of what is compiled is replied
pub told : (Tells : Telling) (bytes : List ℕ) (c : Compiled) (s : Status) (text : List ℕ) (h : IsCompiled bytes c)
    → (let m = meaning_of c h.program h.types h.term in Tells m (reply_of m s text)) → ProgramReplies one_program Tells bytes (answered s c.checked.ty c.checked.term text)
told Tells bytes c s text h t = rw h.ty (ProgramReplies.meant h.means t)

-- the end of a compiled term within the budget is the reply of `run`
pub outcome_told : (bytes : List ℕ) (budget : ℕ) (c : Compiled) (end : End) → IsCompiled bytes c → Ends c.checked.term budget end → ProgramReplies one_program (TellsOutcome budget) bytes (answered (ending_status end) c.checked.ty c.checked.term (ending_text budget end))
outcome_told bytes budget c (ending.Value shown steps) h t = rw t.2 (told (TellsOutcome budget) bytes c status.Ok (value_text t.0) h (TellsOutcome.value t.1))
outcome_told bytes budget c (ending.Fault fault steps) h t = told (TellsOutcome budget) bytes c status.Faulted (fault_line (fault_of fault)) h (TellsOutcome.fault t)
outcome_told bytes budget c ending.Spent h t = told (TellsOutcome budget) bytes c status.Spent (numbered (codes "spent ") budget) h (TellsOutcome.spent t)

-- what is counted of what is compiled is replied
pub counts_told : (bytes : List ℕ) (budget : ℕ) (c : Compiled) (end : End) → IsCompiled bytes c → Ends c.checked.term budget end → ProgramReplies one_program (TellsCounts budget) bytes (answered (ending_status end) c.checked.ty c.checked.term (counted_text budget c.bindings (node_count c.checked.term) end))
counts_told bytes budget c (ending.Value shown steps) h t = rw h.bindings (told (TellsCounts budget) bytes c status.Ok (counts_line (bind_count h.program) (node_count c.checked.term) steps) h (TellsCounts.counts t.1))
counts_told bytes budget c (ending.Fault fault steps) h t = told (TellsCounts budget) bytes c status.Faulted (fault_line (fault_of fault)) h (TellsCounts.no_value (TellsOutcome.fault t) (λ e. cc))
counts_told bytes budget c ending.Spent h t = told (TellsCounts budget) bytes c status.Spent (numbered (codes "spent ") budget) h (TellsCounts.no_value (TellsOutcome.spent t) (λ e. cc))

-- ---- what is emitted

-- a term that was confirmed for the bytes is told of them
term_told : (form : Form) (simplify : Bool) (bytes : List ℕ) (j : Judgment) → IsConfirmed form simplify bytes j → ProgramReplies form (TellsTerm simplify) bytes (omega_reply j.ty j.term)
term_told form simplify bytes j h = ProgramReplies.meant h.means (rw (h.term, h.ty) refl)

of_command : (c : CommandLine) (form : Form) (simplify : Bool) (bytes : List ℕ) → ((r : Reply) → ProgramReplies form (TellsTerm simplify) bytes r → Replies c bytes r)
    → (made : Result Judgment Refused) → IfOk made (IsConfirmed form simplify bytes) → IfErr made (IsRefused form bytes) → IsEmission c bytes made
of_command c form simplify bytes f (Ok j) h r = f (omega_reply j.ty j.term) (term_told form simplify bytes j h)
of_command c form simplify bytes f (Err why) h r = λ l. f (refused (refusal_line why)) (ProgramReplies.refuses (r l))

-- a confirmed term, or a refusal, is what `emit` writes
pub emission : (simplify : Bool) (bytes : List ℕ) (made : Result Judgment Refused) → IfOk made (IsConfirmed one_program simplify bytes) → IfErr made (IsRefused one_program bytes)
    → IsEmission (command.Emit simplify) bytes made
emission simplify bytes = of_command (command.Emit simplify) one_program simplify bytes (λ r p. p)

-- a confirmed term, or a refusal, is what `link` writes
pub link_emission : (bytes : List ℕ) (made : Result Judgment Refused) → IfOk made (IsConfirmed separate_units false bytes) → IfErr made (IsRefused separate_units bytes)
    → IsEmission command.Link bytes made
link_emission bytes = of_command command.Link separate_units false bytes (λ r p. p)

-- ---- what is written

-- the statuses of replies
abbrev pub IsOfReply : Status → Type 0
IsOfReply status.Ok = Unit {0}
IsOfReply status.Refused = Unit {0}
IsOfReply status.Faulted = Unit {0}
IsOfReply status.Spent = Unit {0}
IsOfReply _ = ⊥

whole_answer : (c : CommandLine) (bytes : List ℕ) (out : Output) (s : Status) → IsOfReply s → IsWritten c bytes out s → AnswersBytes c bytes out s
whole_answer c bytes out status.Ok i w = w
whole_answer c bytes out status.Refused i w = w
whole_answer c bytes out status.Faulted i w = w
whole_answer c bytes out status.Spent i w = w
whole_answer c bytes out status.Words i w = absurd i
whole_answer c bytes out status.ReadFault i w = absurd i
whole_answer c bytes out status.WriteFault i w = absurd i
whole_answer c bytes out status.NoMemory i w = absurd i
whole_answer c bytes out status.TooLong i w = absurd i

-- a reply that is written, whole or up to a fault, is the answer
pub wrote_reply : {T E : Type 0} (c : CommandLine) (bytes : List ℕ) (s : Status) (text : List ℕ) (j : Option Judgment) (sink : Change Told) (confirmed : Change (Option Judgment)) (wrote : Result T E) (answer : Status)
    → IsOfReply s → Replies c bytes (record { status = s; text = text; confirmed = j }) → Confirms confirmed j
    → Wrote sink.old sink.new text wrote → MatchResult wrote (λ _. answer ≡ s) (λ _. answer ≡ status.WriteFault)
    → AnswersBytes c bytes (record { sink = sink; confirmed = confirmed }) answer
wrote_reply c bytes s text j sink confirmed (Ok u) answer i p q w m =
    let out : Output = record { sink = sink; confirmed = confirmed } in
    subst (AnswersBytes c bytes out) (sym m) (whole_answer c bytes out s i (record {
      reply = record { status = s; text = text; confirmed = j };
      replies = p;
      status = refl;
      written = w;
      confirmed = q;
    }))
wrote_reply c bytes s text j sink confirmed (Err e) answer i p q w m =
    let out : Output = record { sink = sink; confirmed = confirmed } in
    subst (AnswersBytes c bytes out) (sym m) (record {
      reply = record { status = s; text = text; confirmed = j };
      replies = p;
      written = w;
      confirmed = q;
    })

-- the status of each end of a term is one of replies
pub of_ending : (end : End) → IsOfReply (ending_status end)
of_ending (ending.Value shown steps) = tt
of_ending (ending.Fault fault steps) = tt
of_ending ending.Spent = tt

-- ---- what is not read is replied

-- a text that `verify` cannot read is refused with the verdict
pub unread_replied : (bytes : List ℕ) (e : ReadRefusal) → RefusedAs bytes e → HasVerdict (unread e) → VerifyReplies bytes (refused (verdict_line (unread e)))
unread_replied bytes read.NotOmega r l = VerifyReplies.no_text IsNotOmega r
unread_replied bytes read.Version r l = VerifyReplies.no_text IsVersion r
unread_replied bytes read.Wide r l = VerifyReplies.no_text IsWide r
unread_replied bytes read.TooDeep r l = VerifyReplies.no_text IsTooDeep r
unread_replied bytes read.Mem r l = absurd l

-- a text whose term has its type is accepted by `verify`
pub well_replied : (bytes : List ℕ) (t : Ty) (e : Term) (j : Judgment) → ReadAs bytes (Ok (t, e)) → j.term ≡ e → j.ty ≡ t → HasType [] [] e t → VerifyReplies bytes (accepted j.ty j.term (codes "well typed\n"))
well_replied bytes t e j r p q h =
    subst (λ (u : Ty). VerifyReplies bytes (accepted u j.term (codes "well typed\n"))) (sym q) (subst (λ (d : Term). VerifyReplies bytes (accepted t d (codes "well typed\n"))) (sym p) (VerifyReplies.well_typed r.1 r.0 h))

-- a text whose term does not have its type is refused by `verify`
pub ill_replied : (bytes : List ℕ) (t : Ty) (e : Term) → ReadAs bytes (Ok (t, e)) → (HasType [] [] e t → ⊥) → VerifyReplies bytes (refused (codes "refused IllTyped\n"))
ill_replied bytes t e r n = VerifyReplies.ill_typed r.1 r.0 n

-- ---- a source whose bytes are known

whole_read : (a b : Option (List ℕ)) (bytes read : List ℕ) → a ≡ Some bytes → Consumes a b read → IsAtEnd b → read ≡ bytes
whole_read None b bytes read e c z = absurd (cc)
whole_read (Some xs) None bytes read e c z = elim c [ ]
whole_read (Some xs) (Some ys) bytes read e c z =
    sym (append-nil read) ∙ ap (λ (w : List ℕ). read ++ w) (sym z) ∙ sym c ∙ ap (λ (o : Option (List ℕ)). elim o [ None ↦ xs | Some w ↦ w ]) e

-- the bytes that a command takes are those that it is handed
takes_handed : (c : CommandLine) (source : Change Told) (bytes read : List ℕ) → IsHanded c source bytes → Takes c source read → read ≡ bytes
takes_handed (command.Gen size) source bytes read h t = t.0 ∙ sym h
takes_handed command.Check source bytes read h t = whole_read source.old.bytes source.new.bytes bytes read h.0 t.lost.taken t.last
takes_handed (command.Emit simplify) source bytes read h t = whole_read source.old.bytes source.new.bytes bytes read h.0 t.lost.taken t.last
takes_handed (command.Run budget) source bytes read h t = whole_read source.old.bytes source.new.bytes bytes read h.0 t.lost.taken t.last
takes_handed command.Verify source bytes read h t = whole_read source.old.bytes source.new.bytes bytes read h.0 t.lost.taken t.last
takes_handed command.Link source bytes read h t = whole_read source.old.bytes source.new.bytes bytes read h.0 t.lost.taken t.last

-- what is answered to the bytes of a source completes the command
pub completes : (words : List (List ℕ)) (source : Change Told) (out : Output) (a : CommandLine) (read : List ℕ) (answer : Status) → IsCommandLine words a → Takes a source read → AnswersBytes a read out answer → Completes words source out answer
completes words source out a read answer p t e c bytes q handed silent =
    let same = one_line words a c p q in
    by answer (subst (λ (b : CommandLine). AnswersBytes b bytes out answer) same (subst (λ (bs : List ℕ). AnswersBytes a bs out answer) (takes_handed a source bytes read (subst (λ (b : CommandLine). IsHanded b source bytes) (sym same) handed) t) e))
  where
    written : (s : Status) → IsWritten c bytes out s → IsAnswered c bytes out s
    written s w = record {
      reply = w.reply;
      one = record { replies = w.replies; only = λ other o. one_reply c bytes w.reply other w.replies o };
      status = w.status;
      written = w.written;
      confirmed = w.confirmed;
    }

    by : (s : Status) → AnswersBytes c bytes out s → IsAnswered c bytes out s ⊎ (s ≡ status.NoMemory) × Untouched out
    by status.Ok w = inl (written status.Ok w)
    by status.Refused w = inl (written status.Refused w)
    by status.WriteFault w = absurd (silent w.written.rose)
    by status.NoMemory w = inr (refl, w)
    by status.Words w = absurd w
    by status.Faulted w = inl (written status.Faulted w)
    by status.Spent w = inl (written status.Spent w)
    by status.ReadFault w = absurd w
    by status.TooLong w = absurd w

-- `gen` takes no bytes of the source
spares : (c : CommandLine) (source : Change Told) (read : List ℕ) → Takes c source read → Spares c source
spares (command.Gen size) source read t = λ _ _. t.1
spares command.Check source read t = λ _ e. absurd (cc)
spares (command.Emit simplify) source read t = λ _ e. absurd (cc)
spares (command.Run budget) source read t = λ _ e. absurd (cc)
spares command.Verify source read t = λ _ e. absurd (cc)
spares command.Link source read t = λ _ e. absurd (cc)

-- the source stands where the words are no command line of a command that reads it
pub stands : (words : List (List ℕ)) (source : Change Told) (c : CommandLine) → IsCommandLine words c → Spares c source → (IsReadingLine words → ⊥) → Stands source
stands words source (command.Gen size) p s none = s size refl
stands words source command.Check p s none = absurd (none (command.Check, p, tt))
stands words source (command.Emit simplify) p s none = absurd (none (command.Emit simplify, p, tt))
stands words source (command.Run budget) p s none = absurd (none (command.Run budget, p, tt))
stands words source command.Verify p s none = absurd (none (command.Verify, p, tt))
stands words source command.Link p s none = absurd (none (command.Link, p, tt))

-- a source that stands lost no bytes
pub took_none : (source : Change Told) → Stands source → TookSome source.old source.new (limit + 1)
took_none source s = record { bytes = []; lost = subst (λ (t : Told). Lost source.old t []) (sym s) (lost-none source.old); within = omega arith }

took_some : (c : CommandLine) (source : Change Told) (read : List ℕ) → Takes c source read → TookSome source.old source.new (limit + 1)
took_some (command.Gen size) source read t = took_none source t.1
took_some command.Check source read t = record { bytes = read; lost = t.lost; within = omega (arith, t.within) }
took_some (command.Emit simplify) source read t = record { bytes = read; lost = t.lost; within = omega (arith, t.within) }
took_some (command.Run budget) source read t = record { bytes = read; lost = t.lost; within = omega (arith, t.within) }
took_some command.Verify source read t = record { bytes = read; lost = t.lost; within = omega (arith, t.within) }
took_some command.Link source read t = record { bytes = read; lost = t.lost; within = omega (arith, t.within) }

-- what is answered for the bytes that the command takes is the answer to the words
pub answers : (words : List (List ℕ)) (source : Change Told) (out : Output) (c : CommandLine) (read : List ℕ) (answer : Status) → IsCommandLine words c → Takes c source read → AnswersBytes c read out answer → Answers words source out answer
answers words source out c read answer p t a = by answer a
  where
    replied : (s : Status) → AnswersBytes c read out s → IsReplied words source out s
    replied s w = record { command = c; line = p; bytes = read; taken = t; answered = w }

    by : (s : Status) → AnswersBytes c read out s → Answers words source out s
    by status.Ok w = replied status.Ok w
    by status.Refused w = replied status.Refused w
    by status.Words w = absurd w
    by status.Faulted w = replied status.Faulted w
    by status.Spent w = replied status.Spent w
    by status.ReadFault w = absurd w
    by status.WriteFault w = replied status.WriteFault w
    by status.NoMemory w = (w, stands words source c p (spares c source read t), took_some c source read t)
    by status.TooLong w = absurd w

-- words that are no command line are handed no bytes
pub nothing_handed : (words : List (List ℕ)) (source : Change Told) (out : Output) (answer : Status) → ((c : CommandLine) → IsCommandLine words c → ⊥) → Completes words source out answer
nothing_handed words source out answer none c bytes line handed silent = absurd (none c line)
