-- The tokens of the code, as plain ones.
use Rattle.std.specs.Prelude.{List, ◌∷◌, map, Option, Some, None}
use Rattle.omega_compact.specs.declared.token.Token.{Token as CodeToken}
use Rattle.omega_compact.specs.declared.token.Token.TheVariants as code
use Rattle.omega_compact.specs.Tokens.{Token, Open, Close, Word, Quoted, Unended}

abbrev pub plain : CodeToken → Token
plain code.Open = Open
plain code.Close = Close
plain (code.Word bytes) = Word bytes.now
plain (code.Quoted bytes) = Quoted bytes.now
plain (code.Unended bytes) = Unended bytes.now

abbrev pub plain_tokens : List CodeToken → List Token
plain_tokens ts = map plain ts

abbrev pub plain_left : Option CodeToken → Option Token
plain_left None = None
plain_left (Some t) = Some (plain t)

-- a token before others, where there is one
abbrev pub token_before : Option Token → List Token → List Token
token_before None ts = ts
token_before (Some t) ts = t ∷ ts
