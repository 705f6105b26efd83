-- What looking up in code comes to.
use Rattle.std.specs.Prelude.{ℕ, List, ◌∷◌, ◌≡◌, ◌+◌, ◌<◌, Option, Some, None, Result, Ok, Err, length}
use Rattle.omega_kinds.specs.Kind.{Kind}
use Rattle.omega_types.specs.Ty.{Ty}
use Rattle.omega_types.specs.Binders.{extend, lam_over}
use Rattle.sig_definitions.specs.Signatures.Sig.{Sig, Abs}
use Rattle.sig_definitions.specs.Signatures.SigSize.{size_abs}
use Rattle.sig_definitions.specs.Signatures.SigSubst.{raise_abs}
use Rattle.sig_definitions.specs.Signatures.Alike.{IsSigAt}
use Rattle.sig_definitions.specs.Explicit.SigPath.{SigPath, Item}
use Rattle.sig_definitions.specs.Matching.LookUp.{Found, FoundAt, Looked}
use Rattle.sig_definitions.specs.Matching.MatchRefusal.{MatchRefusal, RefusesMatch}
use Rattle.sig_match_laws.specs.MatchClaims.{IsRightSig}
use Rattle.semantic_sigs.specs.Inner.View.{kinds_of, body_of}
use Rattle.sig_match.specs.declared.refusal.Matched.{Matched}
use Rattle.sig_match.specs.declared.refusal.MatchRefusal.{MatchRefusal as CodeRefusal}
use Rattle.sig_match.specs.Inner.Refusals.{Holds, plain_refusal}
use Rattle.sig_match.specs.Inner.Outcomes.{EachMatch}
use Rattle.sig_match.specs.Inner.Put.{AreNormal, filled, EachPutUnder}
use Rattle.sig_roots.specs.Inner.Roots.{IsRoot}
use Rattle.sig_laws.specs.Good.{OkSig, OkRight}

-- what a left type part has, where the right one has its kind
abbrev pub Ends : Sig → Sig → Option Ty → Type 0
Ends s r None = (t u : Ty) (k : Kind) → s ≡ Sig.Typ t k → r ≡ Sig.Typ u k → ⊥
Ends s r (Some t) = (u : Ty) × (k : Kind) × (s ≡ Sig.Typ t k) × (r ≡ Sig.Typ u k)

-- the type that the left side has at a path of the right side, or that it has none there
abbrev pub Looks : List Kind → Sig → SigPath → Sig → Option Ty → Type 0
Looks ctx s p r None = (t : Ty) → Found ctx s p r t → ⊥
Looks ctx s p r (Some t) = Found ctx s p r t

-- the right side stands under hidden types, and normal types of their kinds may be put in for them
abbrev pub LookSides : List Kind → Sig → List Kind → Sig → List Ty → Type 0
LookSides ctx s ks r ts = OkSig ctx s × IsRightSig (extend ctx ks) r × AreNormal ctx (filled ks ts) ks

abbrev pub MayLook : ℕ → Sig → List Kind → Sig → List Ty → Type 0
MayLook depth s ks r ts = (ctx : List Kind) × (length ctx ≡ depth) × LookSides ctx s ks r ts

abbrev pub EachLook : ℕ → Sig → SigPath → List Kind → Sig → List Ty → Option Ty → Type 0
EachLook depth s p ks r ts o = (ctx : List Kind) → length ctx ≡ depth → LookSides ctx s ks r ts → (n : Sig) → IsSigAt ctx r (filled ks ts) n → Looks ctx s p n o

-- the same through the result of a functor, with no hidden types left
abbrev pub MayLookInto : ℕ → Sig → Sig → Type 0
MayLookInto depth s r = (ctx : List Kind) × (length ctx ≡ depth) × OkSig ctx s × IsRightSig ctx r

abbrev pub EachLookInto : ℕ → Sig → SigPath → Sig → Option Ty → Type 0
EachLookInto depth s p r o = (ctx : List Kind) → length ctx ≡ depth → OkSig ctx s → IsRightSig ctx r → Looks ctx s (Item.Res ∷ p) r o

-- a type that is found, as an operator over the functor's variables
abbrev pub lam_found : List Kind → Option Ty → Option Ty
lam_found js None = None
lam_found js (Some t) = Some (lam_over js t)

-- there is a refusal
abbrev pub Refusing : Option MatchRefusal → Type 0
Refusing None = ⊥
Refusing (Some q) = Unit {0}

-- the left result at the types of the match of the parameters, or that they do not match; the right variables are js
abbrev pub IsTarget : (depth : ℕ) (ks : List Kind) (a : Sig) (x : Abs) (js : List Kind) (b : Sig) → Option Abs → Type 0
IsTarget depth ks a x js b None = (e : CodeRefusal) × Refusing (plain_refusal e) × EachMatch (length js + depth) b (raise_abs js (Abs.Ex ks a)) (Err e)
IsTarget depth ks a x js b (Some y) = (m : Matched) × EachMatch (length js + depth) b (raise_abs js (Abs.Ex ks a)) (Ok m) × EachPutUnder (length js) ks x m.types y × (size_abs y ≡ size_abs x)

-- the match, or that there is a refusal
abbrev pub IfMatched : Result Matched CodeRefusal → Option Matched → Type 0
IfMatched (Ok m) o = o ≡ Some m
IfMatched (Err e) o = Refusing (plain_refusal e) × (o ≡ None)

-- the types of the first hidden variables are found, and they are normal
abbrev pub FirstFound : List Kind → Sig → Abs → List Ty → Type 0
FirstFound ctx s x ts = Looked ctx s (kinds_of x) (body_of x) ts × AreNormal ctx (filled (kinds_of x) ts) (kinds_of x)

-- the next hidden variable, with its least root path
abbrev pub NextSides : List Kind → Sig → Abs → List Ty → Option SigPath → Type 0
NextSides ctx s x ts root = OkSig ctx s × OkRight ctx x × FirstFound ctx s x ts × (length ts < length (kinds_of x)) × IsRoot ctx (kinds_of x) (body_of x) (length ts) root

abbrev pub MayLookNext : ℕ → Sig → Abs → List Ty → Option SigPath → Type 0
MayLookNext depth s x ts root = (ctx : List Kind) × (length ctx ≡ depth) × NextSides ctx s x ts root

abbrev pub NextGives : List Kind → Sig → Abs → List Ty → Result Ty CodeRefusal → Type 0
NextGives ctx s x ts (Ok t) = FoundAt ctx s (kinds_of x) (body_of x) ts t
NextGives ctx s x ts (Err e) = Holds (RefusesMatch ctx s x) (plain_refusal e)

abbrev pub EachLookNext : ℕ → Sig → Abs → List Ty → Option SigPath → Result Ty CodeRefusal → Type 0
EachLookNext depth s x ts root o = (ctx : List Kind) → length ctx ≡ depth → NextSides ctx s x ts root → NextGives ctx s x ts o

-- all hidden variables
abbrev pub AllGives : List Kind → Sig → Abs → Result (List Ty) CodeRefusal → Type 0
AllGives ctx s x (Ok ts) = Looked ctx s (kinds_of x) (body_of x) ts × AreNormal ctx ts (kinds_of x)
AllGives ctx s x (Err e) = Holds (RefusesMatch ctx s x) (plain_refusal e)

abbrev pub EachLookAll : ℕ → Sig → Abs → Result (List Ty) CodeRefusal → Type 0
EachLookAll depth s x o = (ctx : List Kind) → length ctx ≡ depth → OkSig ctx s → OkRight ctx x → AllGives ctx s x o
