-- What a text with blanks, line ends and comments denotes.
use Rattle.std.specs.Prelude.{◌≡◌, ℕ, List}
use Rattle.omega_types.specs.Ty.{Ty}
use Rattle.omega_terms.specs.Term.{Term}
use Rattle.omega_spelling.specs.Omega.{OmegaText}
use Rattle.omega_compact.specs.Tokens.{tokens_of}

-- The bytes denote a type and a term where their tokens are those of an Omega text of them.
abbrev pub Denotes : List ℕ → Ty → Term → Type 0
Denotes bytes t e = (text : List ℕ) × (tokens_of text ≡ tokens_of bytes) × OmegaText text t e
