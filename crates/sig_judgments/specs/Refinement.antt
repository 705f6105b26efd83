-- A signature with one of its hidden types fixed (where type).
use Rattle.std.specs.Prelude.{zero, List, [], ◌∷◌, ◌++◌, ◌≡◌, map}
use Rattle.omega_kinds.specs.Kind.{Kind}
use Rattle.omega_kinds.specs.Name.{Name}
use Rattle.omega_types.specs.Ty.{Ty}
use Rattle.omega_types.specs.EtaLong.{eta}
use Rattle.omega_types.specs.Binders.{extend, past, unders, raise, front}
use Rattle.sig_definitions.specs.Signatures.Sig.{Sig, Abs, SigRow, HasField, NoField}
use Rattle.sig_definitions.specs.Signatures.SigSubst.{substitute_sig}
use Rattle.sig_definitions.specs.Signatures.Alike.{NormalSigForm}
use Rattle.sig_definitions.specs.Explicit.SigPath.{Item, PartAt}

-- the names lead through structures to the part
abbrev pub Leads : Sig → List Name → Sig → Type 0
Leads s names part = PartAt s (map Item.Part names) [] part

-- the part is no structure, or has no field of the name
abbrev pub Lacks : Sig → Name → Type 0
Lacks (Sig.Str fs) l = NoField l fs
Lacks s l = Unit {0}

-- the first item of a path, each item having a name, at which the path leaves the structures
pub data LeavesAt {A : Type 0} (name : A → Name) : Sig → List A → A → Type 0 where
  here : {s : Sig} {x : A} {path : List A} → Lacks s (name x) → LeavesAt name s (x ∷ path) x
  there : {fs : SigRow} {t : Sig} {x y : A} {path : List A} → HasField fs (name x) t → LeavesAt name t path y → LeavesAt name (Sig.Str fs) (x ∷ path) y

-- the part that shows a variable of kind k, where the binders after it are these
abbrev pub own_part : Kind → List Kind → Sig
own_part k after = Sig.Typ (eta k (Ty.Var (past after zero))) k

-- Refined ctx x names u k y: at the path x has one of its own variables, of kind k; in y it is gone, u in its place
pub data Refined (ctx : List Kind) : Abs → List Name → Ty → Kind → Abs → Type 0 where
  refined : {ks : List Kind} (before after : List Kind) {k : Kind} {s n : Sig} {names : List Name} {u : Ty}
      → ks ≡ before ++ (k ∷ after)
      → Leads s names (own_part k after)
      → NormalSigForm (extend ctx (before ++ after)) (substitute_sig (unders after (front (raise before u) Ty.Var)) s) n
      → Refined ctx (Abs.Ex ks s) names u k (Abs.Ex (before ++ after) n)
