-- Matches that were made.
use Rattle.std.specs.Prelude.{ℕ, List, ◌≡◌, All, Ok}
use Rattle.sig_definitions.specs.Signatures.Encoding.{enc, enc_abs}
use Rattle.sig_definitions.specs.Signatures.Sig.{Sig, Abs}
use Rattle.sig_match.specs.declared.made.Key.{Key}
use Rattle.sig_match.specs.declared.made.Made.{Made}
use Rattle.sig_match.specs.Inner.Outcomes.{EachMatch}

-- the key of the match of these sides
abbrev pub IsKey : ℕ → Sig → Abs → Key → Type 0
IsKey depth s x key = (key.depth ≡ depth) × (key.left ≡ enc s) × (key.right ≡ enc_abs x)

-- what is kept is the match of all sides that have its key
abbrev pub HoldsFor : Made → Type 0
HoldsFor one = (s : Sig) (x : Abs) → IsKey one.key.depth s x one.key → EachMatch one.key.depth s x (Ok one.matched)

abbrev pub AllHold : List Made → Type 0
AllHold made = All HoldsFor made
