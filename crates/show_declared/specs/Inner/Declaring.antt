-- Bindings and declarations among the tokens of a source.
use Rattle.std.specs.Prelude.{◌≡◌, ℕ, List, ◌∷◌, IfSome, drop}
use Rattle.fing_lexer.specs.declared.token.Token.{Token}
use Rattle.fing_lexer.specs.declared.token.What.TheVariants as what
use Rattle.fing_lexer.specs.declared.token.Word.{Word}
use Rattle.fing_lexer.specs.declared.token.Word.TheVariants as word
use Rattle.fing_text.specs.declared.span.Span.{Span}
use Rattle.omega_kinds.specs.Name.{Name}
use Rattle.show_declared.specs.declared.refused.Declarations.{Declarations}

-- the words with which the binding or the declaration of a name begins
pub data IsDeclaring : Word → Type 0 where
  a_value : IsDeclaring word.KwVal
  a_type : IsDeclaring word.KwType
  a_data : IsDeclaring word.KwData
  a_module : IsDeclaring word.KwModule
  a_signature : IsDeclaring word.KwSignature

-- a place begins with such a word, and behind it stands the name
pub record IsDeclared (tokens : List Token) (at : Span) (name : Name) (begins_with : Word) : Type 0 where
  pub place : ℕ
  pub first : Token
  pub spelled : Token
  pub rest : List Token
  pub stands : drop place tokens ≡ first ∷ spelled ∷ rest
  pub begins : first.span.from ≡ at.from
  pub word : first.what ≡ what.Word begins_with
  pub declares : IsDeclaring begins_with
  pub named : spelled.what ≡ what.Ident name

-- each of the declarations is one
pub record AreDeclared (tokens : List Token) (d : Declarations) : Type 0 where
  pub in_signature : IfSome d.in_signature (λ a. IsDeclared tokens a.at a.name.now a.word)
  pub in_module : IfSome d.in_module (λ a. IsDeclared tokens a.at a.name.now a.word)
  pub named : IfSome d.named (λ a. IsDeclared tokens a.at a.name.now a.word)
