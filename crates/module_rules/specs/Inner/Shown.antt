-- What stands outside of hidden types, and what a binding and a rest have together.
use Rattle.std.specs.Prelude.{ℕ, ◌<◌, ◌++◌, List, ◌≡◌, length}
use Rattle.omega_kinds.specs.Kind.{Kind}
use Rattle.omega_types.specs.Binders.{extend, raise, vars}
use Rattle.omega_types.specs.Index.{bump, shift}
use Rattle.omega_types.specs.Mentions.{Mentions}
use Rattle.omega_types.specs.Normality.{Normal}
use Rattle.omega_types.specs.Ty.{Ty}
use Rattle.omega_terms.specs.Shorthands.{opens, Packs}
use Rattle.omega_terms.specs.Term.{Term}
use Rattle.sig_definitions.specs.Signatures.Alike.{NormalSig}
use Rattle.sig_definitions.specs.Signatures.Encoding.{enc_abs}
use Rattle.sig_definitions.specs.Signatures.Sig.{Sig, Abs, Module}
use Rattle.sig_definitions.specs.Signatures.SigMentions.{MentionsSig}
use Rattle.sig_definitions.specs.Signatures.SigSubst.{rename_sig}
use Rattle.sig_definitions.specs.Packing.{Packed}
use Rattle.sig_laws.specs.Good.{KindedModule}
use Rattle.semantic_sigs.specs.Inner.View.{kinds_of}
use Rattle.module_judgments.specs.Sequence.{past_opens}
use Rattle.omega_shorthands.specs.Inner.Packed.{Fills}

-- one of so many innermost variables is mentioned
abbrev pub MentionsHidden : ℕ → Ty → Type 0
MentionsHidden count t = (i : ℕ) × (i < count) × Mentions i t

abbrev pub SigMentionsHidden : ℕ → Sig → Type 0
SigMentionsHidden count s = (i : ℕ) × (i < count) × MentionsSig i s

-- n is what stands outside of so many innermost variables
abbrev pub IsOutside : ℕ → Ty → Ty → Type 0
IsOutside count t n = (shift count 0 n ≡ t) × ((inner ctx : List Kind) (k : Kind) → length inner ≡ count → Normal (inner ++ ctx) t k → Normal ctx n k)

abbrev pub SigIsOutside : ℕ → Sig → Sig → Type 0
SigIsOutside count s n = (rename_sig (bump count 0) n ≡ s) × ((inner ctx : List Kind) → length inner ≡ count → NormalSig (inner ++ ctx) s → NormalSig ctx n)

-- d has the binders' own types packed into e, seen below the binders
abbrev pub PackedAgain : List Kind → Abs → Term → Term → Type 0
PackedAgain ks x e d = (ctx : List Kind) → Fills (extend ctx ks) (vars ks) (raise ks (enc_abs x)) → Packs (extend ctx ks) (vars ks) e (raise ks (enc_abs x)) d

-- the term of a binding and a rest of which one is impure: x is the signature of the binding, whole that of both
abbrev pub OpenedTerm : Abs → Module → Module → Abs → Term → Type 0
OpenedTerm x first rest whole e =
    (p : Term) × (q : Term) × (r : Term)
    × ((ctx : List Kind) → KindedModule ctx first → Packed ctx first p)
    × ((ctx : List Kind) → KindedModule ctx rest → Packed ctx rest q)
    × PackedAgain (kinds_of x) whole (past_opens (kinds_of x) q) r
    × (e ≡ opens (kinds_of x) p (enc_abs x) r)
