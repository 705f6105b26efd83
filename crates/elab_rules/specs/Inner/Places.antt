-- Where the refusal of an injection and of a rolled value stands.
use Rattle.fing_syntax.specs.Phrase.{Span}
use Rattle.core_judgments.specs.CoreWhy.{CoreWhy}
use Rattle.core_judgments.specs.DataRules.{DataWhy}

-- at the type that is no sum, at the label that the sum lacks, or else at the value
abbrev pub injection_at : (label value target : Span) → CoreWhy → Span
injection_at l v t (CoreWhy.NotSum u) = t
injection_at l v t (CoreWhy.NoField x) = l
injection_at l v t why = v

-- at the type that is no recursive one, or else at the value
abbrev pub roll_at : (value target : Span) → DataWhy → Span
roll_at v t (DataWhy.NotData u) = t
roll_at v t why = v
