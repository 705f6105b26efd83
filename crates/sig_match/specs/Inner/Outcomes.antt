-- What matching and subtyping in code come to.
use Rattle.std.specs.Prelude.{ℕ, List, ◌≡◌, Option, Result, Ok, Err, length}
use Rattle.omega_kinds.specs.Kind.{Kind}
use Rattle.omega_kinds.specs.Name.{Name}
use Rattle.omega_kinds.specs.declared.effect.Effect.{Effect}
use Rattle.omega_kinds.specs.declared.effect.Effect.TheVariants.{Pure, Impure}
use Rattle.omega_terms.specs.Term.{Term}
use Rattle.sig_definitions.specs.Signatures.Sig.{Sig, Abs, SigRow, HasField}
use Rattle.sig_definitions.specs.Matching.Subtyping.{Sub, SubAbs, Match}
use Rattle.sig_definitions.specs.Matching.MatchRefusal.{MatchRefusal, RefusesMatch, RefusesSub, RefusesSubAbs, RefusesFields}
use Rattle.sig_match_laws.specs.MatchClaims.{IsRightSig}
use Rattle.semantic_sigs.specs.Inner.View.{body_of}
use Rattle.sig_match.specs.declared.refusal.Matched.{Matched}
use Rattle.sig_match.specs.declared.refusal.MatchRefusal.{MatchRefusal as CodeRefusal}
use Rattle.sig_match.specs.Inner.Refusals.{Holds, plain_refusal}
use Rattle.sig_laws.specs.Good.{OkSig, OkAbs, OkRight}

abbrev pub MatchGives : List Kind → Sig → Abs → Result Matched CodeRefusal → Type 0
MatchGives ctx s x (Ok m) = Match ctx s x m.types m.coercion
MatchGives ctx s x (Err e) = Holds (RefusesMatch ctx s x) (plain_refusal e)

abbrev pub MayMatch : ℕ → Sig → Abs → Type 0
MayMatch depth s x = (ctx : List Kind) × (length ctx ≡ depth) × OkSig ctx s × OkRight ctx x

abbrev pub EachMatch : ℕ → Sig → Abs → Result Matched CodeRefusal → Type 0
EachMatch depth s x o = (ctx : List Kind) → length ctx ≡ depth → OkSig ctx s → OkRight ctx x → MatchGives ctx s x o

abbrev pub SubGives : List Kind → Sig → Sig → Result Term CodeRefusal → Type 0
SubGives ctx s r (Ok f) = Sub ctx s r f
SubGives ctx s r (Err e) = Holds (RefusesSub ctx s r) (plain_refusal e)

abbrev pub MaySub : ℕ → Sig → Sig → Type 0
MaySub depth s r = (ctx : List Kind) × (length ctx ≡ depth) × OkSig ctx s × IsRightSig ctx r

abbrev pub EachSub : ℕ → Sig → Sig → Result Term CodeRefusal → Type 0
EachSub depth s r o = (ctx : List Kind) → length ctx ≡ depth → OkSig ctx s → IsRightSig ctx r → SubGives ctx s r o

abbrev pub SubAbsGives : List Kind → Abs → Abs → Result Term CodeRefusal → Type 0
SubAbsGives ctx x y (Ok f) = SubAbs ctx x y f
SubAbsGives ctx x y (Err e) = Holds (RefusesSubAbs ctx x y) (plain_refusal e)

abbrev pub MaySubAbs : ℕ → Abs → Abs → Type 0
MaySubAbs depth x y = (ctx : List Kind) × (length ctx ≡ depth) × OkAbs ctx x × OkRight ctx y

abbrev pub EachSubAbs : ℕ → Abs → Abs → Result Term CodeRefusal → Type 0
EachSubAbs depth x y o = (ctx : List Kind) → length ctx ≡ depth → OkAbs ctx x → OkRight ctx y → SubAbsGives ctx x y o

-- the left part of a name against a right one
abbrev pub FieldGives : List Kind → SigRow → Name → Sig → Result Term CodeRefusal → Type 0
FieldGives ctx fs l r (Ok f) = (s : Sig) × HasField fs l s × Sub ctx s r f
FieldGives ctx fs l r (Err e) = (gs : SigRow) → Holds (RefusesFields ctx fs (SigRow.More l r gs)) (plain_refusal e)

abbrev pub EachField : ℕ → SigRow → Name → Sig → Result Term CodeRefusal → Type 0
EachField depth fs l r o = (ctx : List Kind) → length ctx ≡ depth → OkSig ctx (Sig.Str fs) → IsRightSig ctx r → FieldGives ctx fs l r o

-- the results of functors, by the effect of the right one
abbrev pub ResultSides : List Kind → Effect → Abs → Abs → Type 0
ResultSides ctx Impure x y = OkAbs ctx x × OkRight ctx y
ResultSides ctx Pure x y = OkSig ctx (body_of x) × IsRightSig ctx (body_of y)

abbrev pub ResultGives : List Kind → Effect → Abs → Abs → Result Term CodeRefusal → Type 0
ResultGives ctx Impure x y o = SubAbsGives ctx x y o
ResultGives ctx Pure x y o = SubGives ctx (body_of x) (body_of y) o

-- a refusal of the results, where there is one, is one that holds
abbrev pub ResultHolds : List Kind → Effect → Abs → Abs → Option MatchRefusal → Type 0
ResultHolds ctx Impure x y o = Holds (RefusesSubAbs ctx x y) o
ResultHolds ctx Pure x y o = Holds (RefusesSub ctx (body_of x) (body_of y)) o

abbrev pub MayResult : ℕ → Effect → Abs → Abs → Type 0
MayResult depth d x y = (ctx : List Kind) × (length ctx ≡ depth) × ResultSides ctx d x y

abbrev pub EachResult : ℕ → Effect → Abs → Abs → Result Term CodeRefusal → Type 0
EachResult depth d x y o = (ctx : List Kind) → length ctx ≡ depth → ResultSides ctx d x y → ResultGives ctx d x y o
