-- What the parts of phrases give: names, kinds, tails of declarations.
use Rattle.std.specs.Prelude.{ℕ, ℤ, pos, List, []}
use Rattle.fing_lexer.specs.declared.token.What.{What}
use Rattle.fing_lexer.specs.declared.token.What.TheVariants as what
use Rattle.fing_lexer.specs.declared.token.Token.{Token}
use Rattle.omega_kinds.specs.Kind.{Kind}
use Rattle.fing_syntax.specs.Phrase.{Span, Bytes, SpanName, Spelled, SigEx, TyEx, Exp}
use Rattle.fing_syntax.specs.Place.{}

-- the place of a token
abbrev pub at : Token → Span
at t = Bytes t.span.from t.span.to

-- the bytes of a name or a text
abbrev pub bytes_in : What → List ℕ
bytes_in (what.Word w) = []
bytes_in (what.Mark m) = []
bytes_in (what.Ident bytes) = bytes
bytes_in (what.Int n) = []
bytes_in (what.Text bytes) = bytes

abbrev pub number_in : What → ℤ
number_in (what.Word w) = pos 0
number_in (what.Mark m) = pos 0
number_in (what.Ident bytes) = pos 0
number_in (what.Int n) = n
number_in (what.Text bytes) = pos 0

-- a name where it stands
abbrev pub named : Token → SpanName
named t = Spelled (bytes_in t.what) (at t)

-- a kind and where its last token stands
pub record Kinded : Type 0 where
  pub kind : Kind
  pub last : Span

-- the part of a declaration of a type behind its name
pub data TypeTail : Type 0 where
  Open : TypeTail
  Is : TyEx → TypeTail
  Has : Kinded → TypeTail

pub record Where : Type 0 where
  pub first : SpanName
  pub rest : List SpanName
  pub ty : TyEx

-- a signature behind `:>` or `:`
pub data Ascription : Type 0 where
  Sealed Shown : SigEx → Ascription

-- what follows `fun` in an expression
pub data Abstraction : Type 0 where
  OfValue : SpanName → TyEx → Exp → Abstraction
  OfType : SpanName → Kind → Exp → Abstraction
