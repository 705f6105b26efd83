-- The rules of signatures and declarations, one relation for the conclusion of each, and one for its refusals, over premises
-- that are already elaborated (Rossberg, Russo, Dreyer, F-ing modules, section 4). A rule's conditions are tried in order.
use Rattle.std.specs.Prelude.{List, [], ◌∷◌, ◌++◌, ◌≡◌, ◌≢◌, map}
use Rattle.omega_kinds.specs.Kind.{Kind}
use Rattle.omega_kinds.specs.declared.effect.Effect.TheVariants.{Impure}
use Rattle.omega_kinds.specs.Name.{Name}
use Rattle.omega_types.specs.Ty.{Ty}
use Rattle.omega_types.specs.EtaLong.{eta}
use Rattle.sig_definitions.specs.Signatures.Sig.{Sig, Abs, SigRow}
use Rattle.sig_definitions.specs.Signatures.SigSubst.{raise_sig_row}
use Rattle.sig_definitions.specs.Signatures.FieldOrder.{merge}
use Rattle.sig_definitions.specs.Signatures.RecordOrder.{FirstOld}
use Rattle.sig_definitions.specs.Explicit.SigPath.{Item}
use Rattle.sig_judgments.specs.Refinement.{Leads, LeavesAt, own_part}
use Rattle.sig_judgments.specs.SigWhy.{SigWhy, NotAbstract, NoPart, Duplicate, KindDiffer, NotStructure}

-- a structure of one part
abbrev pub one_part : Name → Sig → Sig
one_part l s = Sig.Str (SigRow.More l s SigRow.End)

-- val X : T
pub data ValueGives : Name → (ty : Ty) (kind : Kind) → Abs → Type 0 where
  value : {l : Name} {t : Ty} → ValueGives l t Kind.Star (Abs.Ex [] (one_part l (Sig.Val t)))

pub data ValueRefuses : (ty : Ty) (kind : Kind) → SigWhy → Type 0 where
  kind : {t : Ty} {k : Kind}
      → k ≢ Kind.Star
      → ValueRefuses t k (KindDiffer k Kind.Star)

-- type X = T; never refused
pub data TypeGives : Name → (ty : Ty) (kind : Kind) → Abs → Type 0 where
  type : {l : Name} {t : Ty} {k : Kind} → TypeGives l t k (Abs.Ex [] (one_part l (Sig.Typ t k)))

-- type X : K, which hides a type; never refused
pub data AbstractGives : Name → Kind → Abs → Type 0 where
  abstract : {l : Name} {k : Kind} → AbstractGives l k (Abs.Ex (k ∷ []) (one_part l (Sig.Typ (eta k (Ty.Var 0)) k)))

-- module X : S; never refused
pub data ModuleGives : Name → Abs → Abs → Type 0 where
  module_ : {l : Name} {ks : List Kind} {s : Sig} → ModuleGives l (Abs.Ex ks s) (Abs.Ex ks (one_part l s))

-- signature X = S; never refused
pub data SignatureGives : Name → Abs → Abs → Type 0 where
  signature : {l : Name} {x : Abs} → SignatureGives l x (Abs.Ex [] (one_part l (Sig.Meta x)))

-- include S
pub data IncludeGives : Abs → Abs → Type 0 where
  include : {ks : List Kind} {fs : SigRow} → IncludeGives (Abs.Ex ks (Sig.Str fs)) (Abs.Ex ks (Sig.Str fs))

pub data IncludeRefuses : Abs → SigWhy → Type 0 where
  no_structure : {ks : List Kind} {s : Sig}
      → ((fs : SigRow) → s ≢ Sig.Str fs)
      → IncludeRefuses (Abs.Ex ks s) NotStructure

-- the labels of a declaration differ from those before it, or the first of them that does not is named
pub data DistinctRefuses : (before : List Name) → SigRow → SigWhy → Type 0 where
  again : {before : List Name} {fs : SigRow} {l : Name}
      → FirstOld fs before l
      → DistinctRefuses before fs (Duplicate l)

-- declarations and those after them, which stand under the hidden types of the first; never refused
pub data DeclarationsGive : Abs → Abs → Abs → Type 0 where
  declarations : {ks js : List Kind} {fs gs : SigRow}
      → DeclarationsGive (Abs.Ex ks (Sig.Str fs)) (Abs.Ex js (Sig.Str gs)) (Abs.Ex (ks ++ js) (Sig.Str (merge (raise_sig_row js fs) gs)))

-- fun (X : S1) -> S2, S2 under the hidden types of S1; never refused
pub data GenerativeGives : Abs → Abs → Abs → Type 0 where
  generative : {ks : List Kind} {s : Sig} {y : Abs} → GenerativeGives (Abs.Ex ks s) y (Abs.Ex [] (Sig.Fun Impure ks s y))

-- S where type path = T: the conclusion is Refined; the path, the part and the kind are tried in this order
pub data WhereRefuses : Abs → List Name → (ty : Ty) (kind : Kind) → SigWhy → Type 0 where
  leaves : {ks : List Kind} {s : Sig} {names : List Name} {l : Name} {u : Ty} {k : Kind}
      → LeavesAt (λ m. m) s names l
      → WhereRefuses (Abs.Ex ks s) names u k (NoPart l)
  not_own : {ks : List Kind} {s q : Sig} {names : List Name} {u : Ty} {k : Kind}
      → Leads s names q
      → ((before : List Kind) (j : Kind) (after : List Kind) → ks ≡ before ++ (j ∷ after) → q ≡ own_part j after → ⊥)
      → WhereRefuses (Abs.Ex ks s) names u k (NotAbstract (map Item.Part names))
  kind : {ks : List Kind} (before after : List Kind) {s : Sig} {names : List Name} {u : Ty} {k j : Kind}
      → ks ≡ before ++ (j ∷ after)
      → Leads s names (own_part j after)
      → k ≢ j
      → WhereRefuses (Abs.Ex ks s) names u k (KindDiffer k j)
