-- The lines of refused sources.
use Rattle.std.specs.Prelude.{ℕ, ◌+◌, ◌^◌, ◌<◌, List, [], ◌∷◌, codes, decimal, flat_map}
use Rattle.fing_lexer.specs.declared.lexer.LexRefusal.{LexRefusal}
use Rattle.fing_lexer.specs.declared.lexer.LexRefusal.TheVariants as lex
use Rattle.parse_grammar.specs.declared.refusal.ParseRefusal.{ParseRefusal}
use Rattle.parse_grammar.specs.declared.refusal.ParseRefusal.TheVariants as parse
use Rattle.fing_refusals.specs.Inner.InScope.{HasLine as RefusalHasLine}
use Rattle.fing_refusals.specs.Line.{line_of}
use Rattle.fing_refusals.specs.Inner.Plain.{plain_reason, plain_refusal}
use Rattle.sig_scopes.specs.Inner.ReasonScoped.{given_depth}
use Rattle.fing_top.specs.declared.refusing.Refused.{Refused}
use Rattle.fing_top.specs.declared.refusing.Refused.TheVariants.{BadByte, BadText, Wide, TooDeep, Syntax, Program, Mem}

-- a word, a number and the end of the line
abbrev pub numbered : List ℕ → ℕ → List ℕ
numbered word n = flat_map (λ (t : List ℕ). t) (word ∷ decimal n ∷ codes "\n" ∷ [])

-- a source that has no tokens, at the byte offset of the first place that has none
abbrev pub lexical_line : LexRefusal → List ℕ
lexical_line (lex.BadByte at) = numbered (codes "refused BadByte ") at
lexical_line (lex.BadText at) = numbered (codes "refused BadText ") at
lexical_line (lex.Wide at) = numbered (codes "refused Wide ") at
lexical_line (lex.TooDeep at) = numbered (codes "refused TooDeep ") at
lexical_line lex.Mem = []

-- tokens that are no program, or no separate units, of which so many begin one
abbrev pub syntax_line : ℕ → List ℕ
syntax_line at = numbered (codes "refused Syntax ") at

-- the refusals of the first two parts as those of the whole
abbrev pub untokened : LexRefusal → Refused
untokened (lex.BadByte at) = BadByte at
untokened (lex.BadText at) = BadText at
untokened (lex.Wide at) = Wide at
untokened (lex.TooDeep at) = TooDeep at
untokened lex.Mem = Mem

abbrev pub unparsed : ParseRefusal → Refused
unparsed (parse.Syntax at) = Syntax at
unparsed parse.Mem = Mem

-- the line of a refusal; want of memory has none
abbrev pub refusal_line : Refused → List ℕ
refusal_line (BadByte at) = lexical_line (lex.BadByte at)
refusal_line (BadText at) = lexical_line (lex.BadText at)
refusal_line (Wide at) = lexical_line (lex.Wide at)
refusal_line (TooDeep at) = lexical_line (lex.TooDeep at)
refusal_line (Syntax at) = syntax_line at
refusal_line (Program r) = line_of (plain_refusal r)
refusal_line Mem = []

-- all but want of memory; the types of a program's refusal are in scope there
abbrev pub HasLine : Refused → Type 0
HasLine Mem = ⊥
HasLine (Program r) = RefusalHasLine (plain_refusal r)
HasLine _ = Unit {0}

-- the type variables in scope, and the binders that stand one in another in the types of a program's refusal, are below
-- 2^64 together
abbrev pub HasRoom : Refused → Type 0
HasRoom (Program r) = r.types + given_depth (plain_reason r.why) < 2 ^ 64
HasRoom _ = Unit {0}
