-- Signatures whose encodings are the same tree are below each other, so a signature part of them needs no comparison.
use Rattle.std.specs.Prelude.{List, ◌≡◌}
use Rattle.omega_kinds.specs.Kind.{Kind}
use Rattle.omega_terms.specs.Term.{Term}
use Rattle.omega_terms.specs.Coercions.{meta_part}
use Rattle.sig_definitions.specs.Signatures.Sig.{Sig, Abs}
use Rattle.sig_definitions.specs.Signatures.Encoding.{enc, enc_abs}
use Rattle.sig_definitions.specs.Matching.Subtyping.{Sub, SubAbs}
use Rattle.sig_definitions.specs.Matching.MatchRefusal.{MatchRefusal, RefusesSub}
use Rattle.sig_match_laws.specs.MatchFunction.{Outcome, sub_sig}
use Rattle.sig_laws.specs.Good.{OkSig, OkAbs}

abbrev pub BelowEachOther : Type 0
BelowEachOther = (ctx : List Kind) (x y : Abs) → OkAbs ctx x → enc_abs x ≡ enc_abs y → ((f : Term) × SubAbs ctx x y f) × ((g : Term) × SubAbs ctx y x g)

-- a signature part of the same encoding is below, by the coercion that the encodings give
abbrev pub PartGives : Type 0
PartGives = (ctx : List Kind) (x y : Abs) → OkSig ctx (Sig.Meta x) → enc_abs x ≡ enc_abs y → Sub ctx (Sig.Meta x) (Sig.Meta y) (meta_part (enc (Sig.Meta x)) (enc_abs y))

-- whatever the encodings are, there is no other coercion
abbrev pub OnePart : Type 0
OnePart = (ctx : List Kind) (x y : Abs) (f : Term) → Sub ctx (Sig.Meta x) (Sig.Meta y) f → f ≡ meta_part (enc (Sig.Meta x)) (enc_abs y)

-- and a part of the same encoding is not refused
abbrev pub PartNotRefused : Type 0
PartNotRefused = (ctx : List Kind) (x y : Abs) (q : MatchRefusal) → OkSig ctx (Sig.Meta x) → enc_abs x ≡ enc_abs y → RefusesSub ctx (Sig.Meta x) (Sig.Meta y) q → ⊥

-- so the function need not call itself
abbrev pub FunctionSkips : Type 0
FunctionSkips = (ctx : List Kind) (x y : Abs) → OkSig ctx (Sig.Meta x) → enc_abs x ≡ enc_abs y → sub_sig ctx (Sig.Meta x) (Sig.Meta y) ≡ Outcome.coerced (meta_part (enc (Sig.Meta x)) (enc_abs y))
