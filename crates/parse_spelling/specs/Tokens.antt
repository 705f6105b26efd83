-- Tokens whose names, numbers and texts have a spelling in the text of System Fω, and keywords whose phrases have one in a
-- version of it.
use Rattle.std.specs.Prelude.{◌≡◌, List, [], ◌∷◌, true}
use Rattle.fing_lexer.specs.declared.token.Word.{Word}
use Rattle.fing_lexer.specs.declared.token.Word.TheVariants.{KwCase, KwInj, KwData, KwRoll, KwUnroll}
use Rattle.fing_lexer.specs.declared.token.What.{What}
use Rattle.fing_lexer.specs.declared.token.What.TheVariants as what
use Rattle.fing_lexer.specs.declared.token.Token.{Token}
use Rattle.omega_terms.specs.declared.version.Version.{Version}
use Rattle.omega_terms.specs.declared.version.Version.TheVariants.{Second}
use Rattle.omega_spelling.specs.TermReading.{SignedFits, all_spelled}
use Rattle.elab_spelling.specs.Signatures.{NameSpelled}

abbrev pub WhatSpelled : What → Type 0
WhatSpelled (what.Word w) = Unit {0}
WhatSpelled (what.Mark m) = Unit {0}
WhatSpelled (what.Ident bytes) = NameSpelled bytes
WhatSpelled (what.Int z) = SignedFits z
WhatSpelled (what.Text bytes) = all_spelled bytes ≡ true

abbrev pub TokensSpelled : List Token → Type 0
TokensSpelled [] = Unit {0}
TokensSpelled (t ∷ ts) = WhatSpelled t.what × TokensSpelled ts

-- the phrases of sums and of recursive types have a spelling in the second version only
abbrev pub WordSpelled : Version → Word → Type 0
WordSpelled v KwCase = v ≡ Second
WordSpelled v KwInj = v ≡ Second
WordSpelled v KwData = v ≡ Second
WordSpelled v KwRoll = v ≡ Second
WordSpelled v KwUnroll = v ≡ Second
WordSpelled v w = Unit {0}

abbrev pub KeywordSpelled : Version → What → Type 0
KeywordSpelled v (what.Word w) = WordSpelled v w
KeywordSpelled v (what.Mark m) = Unit {0}
KeywordSpelled v (what.Ident bytes) = Unit {0}
KeywordSpelled v (what.Int z) = Unit {0}
KeywordSpelled v (what.Text bytes) = Unit {0}

abbrev pub KeywordsSpelled : Version → List Token → Type 0
KeywordsSpelled v [] = Unit {0}
KeywordsSpelled v (t ∷ ts) = KeywordSpelled v t.what × KeywordsSpelled v ts
