-- What the changes are: renamings, and the normal form of a substitution.
-- Main results: sig-raised, sig-moved, instantiated.
use Rattle.std.specs.Prelude.{ℕ, zero, suc, ◌+◌, ◌-◌, ◌≡◌, List, [], ◌∷◌, Option}
use Rattle.std.proofs.Math.Path.{refl, sym, ◌∙◌, ap, ap₂, subst}
use Rattle.omega_kinds.specs.Kind.{Kind}
use Rattle.omega_types.specs.Ty.{Ty, lift}
use Rattle.omega_types.specs.Index.{bump, shift}
use Rattle.omega_types.specs.Normalises.{NormalForm, Maps}
use Rattle.omega_types.specs.Binders.{extend, lifts, puts, NormalForms}
use Rattle.sig_definitions.specs.Signatures.Sig.{Sig, Abs, SigRow}
use Rattle.sig_definitions.specs.Signatures.SigSubst.{rename_sig, rename_abs, rename_sig_row, substitute_sig, substitute_abs, substitute_sig_row}
use Rattle.sig_definitions.specs.Signatures.Alike.{AlikeSig, AlikeAbs, AlikeRow, IsAbsAt, IsSigAt, NormalSig, NormalAbs, NormalSigRow}
use Rattle.sig_laws.proofs.Algebra.AlikeLaws.{normal_sig-rename, normal_abs-rename}
use Rattle.type_normal.specs.Inner.Lifted.{lower_from, renumbered}
use Rattle.type_normal.specs.Inner.Moved.{moved}
pub use Rattle.type_normal.proofs.HeadLaws.{renaming, under-renaming, sinks-renaming, head-renamed, ty-renamed, Good, good-under, good-sinks, in-normal, good-puts, good-vars}
use Rattle.semantic_sigs.specs.Inner.View.{kinds_of, body_of}
use Rattle.semantic_sigs.specs.Inner.Changes.{Head, tree, under_head, sunk, sinks, ty_in, sig_in, abs_in, sig_row_in, raising, lowering, putting, moving}

-- renamings

mutual
  sig-renamed : (r : ℕ → ℕ) (s : Sig) → sig_in (renaming r) s ≡ rename_sig r s
  sig-renamed r (Sig.Val t) = ap (λ p. Sig.Val (tree p)) (head-renamed r t)
  sig-renamed r (Sig.Typ t k) = ap (λ p. Sig.Typ (tree p) k) (head-renamed r t)
  sig-renamed r (Sig.Meta x) = ap Sig.Meta (abs-renamed r x)
  sig-renamed r (Sig.Str fs) = ap Sig.Str (sig_row-renamed r fs)
  sig-renamed r (Sig.Fun e ks s x) = ap₂ (Sig.Fun e ks) (ap (λ h. sig_in h s) (sinks-renaming ks r) ∙ sig-renamed (lifts ks r) s) (ap (λ h. abs_in h x) (sinks-renaming ks r) ∙ abs-renamed (lifts ks r) x)

  abs-renamed : (r : ℕ → ℕ) (x : Abs) → abs_in (renaming r) x ≡ rename_abs r x
  abs-renamed r (Abs.Ex ks s) = ap (Abs.Ex ks) (ap (λ h. sig_in h s) (sinks-renaming ks r) ∙ sig-renamed (lifts ks r) s)

  sig_row-renamed : (r : ℕ → ℕ) (fs : SigRow) → sig_row_in (renaming r) fs ≡ rename_sig_row r fs
  sig_row-renamed r SigRow.End = refl
  sig_row-renamed r (SigRow.More l s rest) = ap₂ (SigRow.More l) (sig-renamed r s) (sig_row-renamed r rest)

sunk-raising : (by from : ℕ) → sunk from (raising by) ≡ renaming (bump by from)
sunk-raising by zero = refl
sunk-raising by (suc from) = ap under_head (sunk-raising by from) ∙ under-renaming (bump by from)

-- the changes of a type
pub ty-raised : (by depth : ℕ) (t : Ty) → ty_in (sunk depth (raising by)) t ≡ shift by depth t
ty-raised by depth t = ap (λ h. ty_in h t) (sunk-raising by depth) ∙ ap tree (head-renamed (bump by depth) t)

-- lowering the indexes of a type below binders, as a change of variables
pub ty-lowered : (by depth : ℕ) (t : Ty) → ty_in (sunk depth (lowering by)) t ≡ lower_from by depth t
ty-lowered by depth t = ty-renamed depth (λ i. i - by) t

-- new indexes for the variables of a type below binders, as a change of variables
pub ty-moved : (ps : List (Option ℕ)) (depth : ℕ) (t : Ty) → ty_in (sunk depth (moving ps)) t ≡ renumbered ps depth t
ty-moved ps depth t = ty-renamed depth (moved ps) t

-- the change that raises indexes, in a signature, is the renaming by the shift
pub sig-raised : (by from : ℕ) (s : Sig) → sig_in (sunk from (raising by)) s ≡ rename_sig (bump by from) s
sig-raised by from s = ap (λ h. sig_in h s) (sunk-raising by from) ∙ sig-renamed (bump by from) s

-- the change that raises indexes, in a signature that hides types, is the renaming by the shift
pub abs-raised : (by from : ℕ) (x : Abs) → abs_in (sunk from (raising by)) x ≡ rename_abs (bump by from) x
abs-raised by from x = ap (λ h. abs_in h x) (sunk-raising by from) ∙ abs-renamed (bump by from) x

-- the change that lowers indexes, in a signature, is that renaming
pub sig-lowered : (by : ℕ) (s : Sig) → sig_in (sunk 0 (lowering by)) s ≡ rename_sig (λ i. i - by) s
sig-lowered by s = sig-renamed (λ i. i - by) s

-- the change that gives variables new indexes, in a signature, is that renaming
pub sig-moved : (ps : List (Option ℕ)) (s : Sig) → sig_in (sunk 0 (moving ps)) s ≡ rename_sig (moved ps) s
sig-moved ps s = sig-renamed (moved ps) s

-- the change that gives variables new indexes, in a signature that hides types, is that renaming
pub abs-moved : (ps : List (Option ℕ)) (x : Abs) → abs_in (sunk 0 (moving ps)) x ≡ rename_abs (moved ps) x
abs-moved ps x = abs-renamed (moved ps) x

-- a raised normal signature is normal
pub sig-raised-normal : (by from : ℕ) (given raised : Sig) → raised ≡ rename_sig (bump by from) given → (ctx other : List Kind) → Maps ctx other (bump by from) → NormalSig ctx given → NormalSig other raised
sig-raised-normal by from given raised e ctx other h n = subst (NormalSig other) (sym e) (normal_sig-rename (bump by from) h given n)

-- a raised normal signature that hides types is normal
pub abs-raised-normal : (by from : ℕ) (given raised : Abs) → raised ≡ rename_abs (bump by from) given → (ctx other : List Kind) → Maps ctx other (bump by from) → NormalAbs ctx given → NormalAbs other raised
abs-raised-normal by from given raised e ctx other h n = subst (NormalAbs other) (sym e) (normal_abs-rename (bump by from) h given n)

-- normal types put in for variables

mutual
  sig-in : {ctx other : List Kind} {f : ℕ → Ty} {h : ℕ → Head} → Good ctx other f h → (s : Sig) → NormalSig ctx s → AlikeSig NormalForm other (substitute_sig f s) (sig_in h s)
  sig-in g (Sig.Val t) n = AlikeSig.val (in-normal g n)
  sig-in g (Sig.Typ t k) n = AlikeSig.typ (in-normal g n)
  sig-in g (Sig.Meta x) n = AlikeSig.meta (abs-in g x n)
  sig-in g (Sig.Str fs) n = AlikeSig.str (sig_row-in g fs n)
  sig-in g (Sig.Fun e ks s x) n = AlikeSig.fun (sig-in (good-sinks ks g) s n.0) (abs-in (good-sinks ks g) x n.1)

  abs-in : {ctx other : List Kind} {f : ℕ → Ty} {h : ℕ → Head} → Good ctx other f h → (x : Abs) → NormalAbs ctx x → AlikeAbs NormalForm other (substitute_abs f x) (abs_in h x)
  abs-in g (Abs.Ex ks s) n = AlikeAbs.ex (sig-in (good-sinks ks g) s n)

  sig_row-in : {ctx other : List Kind} {f : ℕ → Ty} {h : ℕ → Head} → Good ctx other f h → (fs : SigRow) → NormalSigRow ctx fs → AlikeRow NormalForm other (substitute_sig_row f fs) (sig_row_in h fs)
  sig_row-in g SigRow.End n = AlikeRow.end
  sig_row-in g (SigRow.More l s rest) n = AlikeRow.more (sig-in g s n.0) (sig_row-in g rest n.1)

-- the body of an abstract signature at normal types of the right kinds
pub sig-put : (ctx ks : List Kind) (ts : List Ty) (s : Sig) → NormalSig (extend ctx ks) s → NormalForms ctx ts ks ts → AlikeSig NormalForm ctx (substitute_sig (puts ts Ty.Var) s) (sig_in (sunk 0 (putting ts)) s)
sig-put ctx ks ts s n ns = sig-in (good-puts ns (good-vars ctx)) s n

-- the change that puts in normal types gives the normal form of the signature at the types
pub instantiated : (x : Abs) (ts : List Ty) (body s : Sig) → body ≡ body_of x → s ≡ sig_in (sunk 0 (putting ts)) body → (ctx : List Kind) → NormalAbs ctx x → NormalForms ctx ts (kinds_of x) ts → IsSigAt ctx (body_of x) ts s
instantiated (Abs.Ex ks b) ts body s eb es ctx n ns =
    subst (λ u. AlikeSig NormalForm ctx (substitute_sig (puts ts Ty.Var) b) u) (sym (es ∙ ap (sig_in (sunk 0 (putting ts))) eb)) (sig-put ctx ks ts b n ns)

-- the change that puts in types, from outside the signature, is the one in its body
pub instantiated-value : (x : Abs) (ts : List Ty) (body s : Sig) → body ≡ body_of x → s ≡ sig_in (sunk 0 (putting ts)) body → s ≡ sig_in (putting ts) (body_of x)
instantiated-value x ts body s eb es = es ∙ ap (sig_in (putting ts)) eb

-- the change that puts in normal types gives the normal form of a signature that hides types at them
pub instantiated-abs : (y : Abs) (ts : List Ty) (x : Abs) → x ≡ abs_in (putting ts) y → (ctx ks : List Kind) → NormalAbs (extend ctx ks) y → NormalForms ctx ts ks ts → IsAbsAt ctx y ts x
instantiated-abs y ts x e ctx ks n ns = subst (AlikeAbs NormalForm ctx (substitute_abs (puts ts Ty.Var) y)) (sym e) (abs-in (good-puts ns (good-vars ctx)) y n)
