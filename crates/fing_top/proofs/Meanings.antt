-- In each form each string of bytes has exactly one meaning or exactly one refusal.
-- Main results: mean_or_refused.
use Rattle.std.proofs.Common.{◌≡◌, ◌⊎◌, inl, inr, ℕ, List, [], refl, sym, ap, ap₂, subst, ◌∙◌}
use Rattle.omega_terms.specs.Term.{Term}
use Rattle.fing_lexer.specs.declared.lexer.LexRefusal.{LexRefusal}
use Rattle.fing_lexer.specs.declared.token.Token.{Token}
use Rattle.fing_lexer.specs.Nest.{whole_file}
use Rattle.fing_lexer.specs.Tokens.{TokensOf, RefusalOf, Outcome, Good, Bad, Lexes}
use Rattle.fing_lexer.proofs.Laws.{has_one_outcome}
use Rattle.sig_definitions.specs.Signatures.Sig.{Module, made}
use Rattle.sig_definitions.specs.Verdict.{Verdict, holds, refuses}
use Rattle.fing_syntax.specs.Phrase.{Binds as Program}
use Rattle.parse_grammar.specs.Meaning.{Value}
use Rattle.parse_grammar.specs.Program.{Start, programs, units, Farthest, Refused as NoPhrase}
use Rattle.parse_grammar.specs.Tree.{Phrase}
use Rattle.parse_grammar.proofs.Answer.{one_answer}
use Rattle.parse_grammar.proofs.Laws.{one_tree, one_farthest}
use Rattle.refusal_reasons.specs.Refusal.{Refusal}
use Rattle.elab_judgments.specs.Judgments.Program.{ProgramMeans, ProgramRefused}
use Rattle.elab_exact.specs.Claims.{ProgramExactly}
use Rattle.elab_exact.proofs.Theorems.{each-program}
use Rattle.fing_top.specs.Meaning.{Form, one_program, separate_units, class_of, stands_for, Spells, Meaning, module_of, BytesMean, BytesRefusal, BytesRefused, MeanOrRefused}

-- ---- bytes have one list of tokens or one refusal, and spell one program

tokens_in : List Token → Outcome → List Token
tokens_in ts (Good us) = us
tokens_in ts (Bad r) = ts

refusal_in : LexRefusal → Outcome → LexRefusal
refusal_in r (Good us) = r
refusal_in r (Bad q) = q

one_tokens : (bytes : List ℕ) (ts us : List Token) → TokensOf bytes ts → TokensOf bytes us → ts ≡ us
unfolding tokens_in
one_tokens bytes ts us p q = let one = has_one_outcome bytes in ap (tokens_in ts) (one.only (Good ts) p ∙ sym (one.only (Good us) q))

one_refusal : (bytes : List ℕ) (r s : LexRefusal) → RefusalOf bytes r → RefusalOf bytes s → r ≡ s
unfolding refusal_in
one_refusal bytes r s p q = let one = has_one_outcome bytes in ap (refusal_in r) (one.only (Bad r) p ∙ sym (one.only (Bad s) q))

no_tokens : (bytes : List ℕ) (ts : List Token) (r : LexRefusal) → TokensOf bytes ts → RefusalOf bytes r → ⊥
no_tokens bytes ts r p q = let one = has_one_outcome bytes in let e : Good ts ≡ Bad r = one.only (Good ts) p ∙ sym (one.only (Bad r) q) in cc

-- a text may start from the class of each form
start_of : (form : Form) → Start (class_of form)
start_of one_program = programs
start_of separate_units = units

spells_one : {form : Form} {bytes : List ℕ} {ps qs : Program} → Spells form bytes ps → Spells form bytes qs → ps ≡ qs
spells_one {form} {bytes} {ps} {qs} r s =
    let other = subst (λ (ts : List Token). Phrase (class_of form) ts s.tree) (one_tokens bytes s.tokens r.tokens s.lexed r.lexed) s.phrase in
    sym r.stands ∙ ap (stands_for form) (one_tree {n = class_of form} {u = r.tree} {v = s.tree} r.phrase other) ∙ s.stands

no_phrase : {form : Form} {bytes : List ℕ} {p : Program} {ts : List Token} → Spells form bytes p → TokensOf bytes ts → ((tree : Value (class_of form)) → Phrase (class_of form) ts tree → ⊥) → ⊥
no_phrase {form} {bytes} {p} {ts} s t n = n s.tree (subst (λ (us : List Token). Phrase (class_of form) us s.tree) (one_tokens bytes s.tokens ts s.lexed t) s.phrase)

one_place : (form : Form) {bytes : List ℕ} {ts us : List Token} {a b : ℕ} → TokensOf bytes ts → TokensOf bytes us → Farthest (class_of form) ts a → Farthest (class_of form) us b → a ≡ b
one_place form {bytes} {ts} {us} {a} {b} p q f g = one_farthest {n = class_of form} ts a b f (subst (λ (xs : List Token). Farthest (class_of form) xs b) (one_tokens bytes us ts q p) g)

-- ---- a program has one meaning or one refusal

refusal_of : {ps qs : Program} {r : Refusal} → ps ≡ qs → ProgramRefused qs r → ProgramRefused ps r
refusal_of {ps} {qs} {r} s h = subst (λ (bs : Program). ProgramRefused bs r) (sym s) h

one_derived : {bs : Program} {m n : Module} {d e : Term} → ProgramMeans bs m d → ProgramMeans bs n e → ◌≡◌ {A = Module × Term} (m, d) (n, e)
one_derived {bs} {m} {n} {d} {e} p q = go (each-program bs)
  where
    go : ProgramExactly bs → ◌≡◌ {A = Module × Term} (m, d) (n, e)
    go (holds x w only never) = only (m, d) p ∙ sym (only (n, e) q)
    go (refuses r w only never) = absurd (never (m, d) p)

not_derived : {bs : Program} {m : Module} {d : Term} {r : Refusal} → ProgramMeans bs m d → ProgramRefused bs r → ⊥
not_derived {bs} {m} {d} {r} p q = go (each-program bs)
  where
    go : ProgramExactly bs → ⊥
    go (holds x w only never) = never r q
    go (refuses s w only never) = never (m, d) p

one_program_refusal : {bs : Program} {r s : Refusal} → ProgramRefused bs r → ProgramRefused bs s → r ≡ s
one_program_refusal {bs} {r} {s} p q = go (each-program bs)
  where
    go : ProgramExactly bs → r ≡ s
    go (holds x w only never) = absurd (never r p)
    go (refuses t w only never) = only r p ∙ sym (only s q)

-- ---- bytes have one meaning at most, one refusal at most, and never both

with_program : Program → Module × Term → Meaning
with_program bs (made f x ts e, whole) = record { program = bs; effect = f; sig = x; types = ts; term = e; whole = whole }

-- bytes have at most one meaning in a form
pub one_meant : {form : Form} {bytes : List ℕ} {m n : Meaning} → BytesMean form bytes m → BytesMean form bytes n → m ≡ n
unfolding with_program
one_meant {form} {bytes} {m} {n} p q =
    let same = spells_one p.spelled q.spelled in
    ap₂ with_program same (one_derived p.derived (subst (λ (bs : Program). ProgramMeans bs (module_of n) n.whole) (sym same) q.derived))

-- bytes that have a meaning have no refusal
pub not_both : {form : Form} {bytes : List ℕ} {m : Meaning} {r : BytesRefusal} → BytesMean form bytes m → BytesRefused form bytes r → ⊥
not_both p (BytesRefused.no_meaning q u) = not_derived p.derived (refusal_of (spells_one p.spelled q) u)
not_both p (BytesRefused.no_phrase t f n) = no_phrase p.spelled t n
not_both {form} {bytes} p (BytesRefused.no_tokens {why = why} w) = no_tokens bytes p.spelled.tokens why p.spelled.lexed w

-- bytes have at most one refusal in a form
pub one_refused : {form : Form} {bytes : List ℕ} {r s : BytesRefusal} → BytesRefused form bytes r → BytesRefused form bytes s → r ≡ s
one_refused (BytesRefused.no_meaning p a) (BytesRefused.no_meaning q b) = ap BytesRefusal.of_program (one_program_refusal a (refusal_of (spells_one p q) b))
one_refused (BytesRefused.no_meaning p a) (BytesRefused.no_phrase ts f n) = absurd (no_phrase p ts n)
one_refused {form} {bytes} (BytesRefused.no_meaning p a) (BytesRefused.no_tokens {why = why} w) = absurd (no_tokens bytes p.tokens why p.lexed w)
one_refused (BytesRefused.no_phrase ts f n) (BytesRefused.no_meaning q b) = absurd (no_phrase q ts n)
one_refused {form} (BytesRefused.no_phrase ts f n) (BytesRefused.no_phrase us g m) = ap BytesRefusal.syntactic (one_place form ts us f g)
one_refused {form} {bytes} (BytesRefused.no_phrase {tokens = tokens} ts f n) (BytesRefused.no_tokens {why = why} w) = absurd (no_tokens bytes tokens why ts w)
one_refused {form} {bytes} (BytesRefused.no_tokens {why = why} w) (BytesRefused.no_meaning q b) = absurd (no_tokens bytes q.tokens why q.lexed w)
one_refused {form} {bytes} (BytesRefused.no_tokens {why = why} w) (BytesRefused.no_phrase {tokens = tokens} ts f n) = absurd (no_tokens bytes tokens why ts w)
one_refused {form} {bytes} (BytesRefused.no_tokens {why = why} w) (BytesRefused.no_tokens {why = other} v) = ap BytesRefusal.lexical (one_refusal bytes why other w v)

-- ---- bytes have a meaning or a refusal

abbrev Either : Form → List ℕ → Type 0
Either form bytes = Verdict (BytesMean form bytes) (BytesRefused form bytes)

meant : {form : Form} {bytes : List ℕ} (m : Meaning) → BytesMean form bytes m → Either form bytes
meant m h = holds m h (λ n q. one_meant q h) (λ r q. not_both h q)

refused : {form : Form} {bytes : List ℕ} (r : BytesRefusal) → BytesRefused form bytes r → Either form bytes
refused r h = refuses r h (λ s q. one_refused q h) (λ m q. not_both q h)

of_program : (form : Form) (bytes : List ℕ) (bs : Program) → Spells form bytes bs → ProgramExactly bs → Either form bytes
of_program form bytes bs p (holds (made f x ts e, whole) h only never) = meant (record { program = bs; effect = f; sig = x; types = ts; term = e; whole = whole }) (record { spelled = p; derived = h })
of_program form bytes bs p (refuses r h only never) = refused (BytesRefusal.of_program r) (BytesRefused.no_meaning p h)

of_tokens : (form : Form) (bytes : List ℕ) (ts : List Token) → TokensOf bytes ts → ((p : Value (class_of form)) × Phrase (class_of form) ts p) ⊎ NoPhrase (class_of form) ts → Either form bytes
of_tokens form bytes ts h (inl (tree, phrase)) =
    let bs : Program = stands_for form tree in
    of_program form bytes bs (record { tokens = ts; lexed = h; tree = tree; phrase = phrase; stands = refl }) (each-program bs)
of_tokens form bytes ts h (inr none) = refused (BytesRefusal.syntactic none.at) (BytesRefused.no_phrase h none.farthest none.none)

of_outcome : (form : Form) (bytes : List ℕ) (o : Outcome) → Lexes 0 whole_file bytes o → Either form bytes
of_outcome form bytes (Good ts) h = of_tokens form bytes ts h (one_answer (class_of form) (start_of form) ts)
of_outcome form bytes (Bad why) h = refused (BytesRefusal.lexical why) (BytesRefused.no_tokens h)

-- each string of bytes has one meaning and no refusal, or one refusal and no meaning
pub mean_or_refused : MeanOrRefused
mean_or_refused form bytes = let one = has_one_outcome bytes in of_outcome form bytes one.outcome one.holds
