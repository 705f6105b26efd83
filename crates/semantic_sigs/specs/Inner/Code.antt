-- The codes of signatures: trees of numbers that give them back.
use Rattle.std.specs.Prelude.{◌≡◌, zero, suc, List, [], ◌∷◌, refl}
use base.Stored.{Gv, gnil, gnum, gcons}
use denote.Struct.Codes.{itself}
use Rattle.std.specs.Coded.{Coded, code_by, coded_list, coded×, coded_ℕ}
use Rattle.omega_kinds.specs.Kind.{Kind}
use Rattle.omega_kinds.specs.Name.{Name}
use Rattle.omega_kinds.specs.declared.effect.Effect.{Effect}
use Rattle.omega_kinds.specs.declared.effect.Effect.TheVariants.{Pure, Impure}
use Rattle.omega_kinds.specs.Inner.Code.{stored_kind, restored_kind, restored-stored_kind, stored_bytes, restored_bytes, restored-stored_bytes}
use Rattle.omega_types.specs.Ty.{Ty}
use Rattle.omega_types.specs.Inner.Code.{stored, restored, restored-stored, ty_code}
use Rattle.sig_definitions.specs.Signatures.Sig.{Sig, Abs, SigRow}

abbrev pub stored_kinds : List Kind → Gv
stored_kinds [] = gnil
stored_kinds (k ∷ ks) = gcons (stored_kind k) (stored_kinds ks)

abbrev pub restored_kinds : Gv → List Kind
restored_kinds gnil = []
restored_kinds (gnum n) = []
restored_kinds (gcons a b) = restored_kind a ∷ restored_kinds b

pub restored-stored_kinds : (ks : List Kind) → restored_kinds (stored_kinds ks) ≡ ks
restored-stored_kinds [] = refl
restored-stored_kinds (k ∷ ks) = λ i. restored-stored_kind k i ∷ restored-stored_kinds ks i

abbrev pub stored_effect : Effect → Gv
stored_effect Pure = gnil
stored_effect Impure = gnum 0

abbrev pub restored_effect : Gv → Effect
restored_effect gnil = Pure
restored_effect (gnum n) = Impure
restored_effect (gcons a b) = Pure

pub restored-stored_effect : (e : Effect) → restored_effect (stored_effect e) ≡ e
restored-stored_effect Pure = refl
restored-stored_effect Impure = refl

abbrev mutual
  pub stored_sig : Sig → Gv
  stored_sig (Sig.Val t) = gcons (gnum 0) (stored t)
  stored_sig (Sig.Typ t k) = gcons (gnum 1) (gcons (stored t) (stored_kind k))
  stored_sig (Sig.Meta x) = gcons (gnum 2) (stored_abs x)
  stored_sig (Sig.Str r) = gcons (gnum 3) (stored_sigs r)
  stored_sig (Sig.Fun e ks s x) = gcons (gnum 4) (gcons (gcons (stored_effect e) (stored_kinds ks)) (gcons (stored_sig s) (stored_abs x)))

  pub stored_abs : Abs → Gv
  stored_abs (Abs.Ex ks s) = gcons (stored_kinds ks) (stored_sig s)

  pub stored_sigs : SigRow → Gv
  stored_sigs SigRow.End = gnil
  stored_sigs (SigRow.More n s r) = gcons (stored_bytes n) (gcons (stored_sig s) (stored_sigs r))

-- each reading takes any tree of numbers: what is no code gives some value
abbrev pub parted : Gv → Gv × Gv
parted gnil = (gnil, gnil)
parted (gnum n) = (gnil, gnil)
parted (gcons a b) = (a, b)

abbrev mutual
  pub restored_sig : Gv → Sig
  restored_sig gnil = Sig.Val Ty.Int
  restored_sig (gnum n) = Sig.Val Ty.Int
  restored_sig (gcons gnil b) = Sig.Val Ty.Int
  restored_sig (gcons (gcons a c) b) = Sig.Val Ty.Int
  restored_sig (gcons (gnum zero) b) = Sig.Val (restored b)
  restored_sig (gcons (gnum (suc zero)) b) = Sig.Typ (restored (parted b).0) (restored_kind (parted b).1)
  restored_sig (gcons (gnum (suc (suc zero))) b) = Sig.Meta (restored_abs b)
  restored_sig (gcons (gnum (suc (suc (suc zero)))) b) = Sig.Str (restored_sigs b)
  restored_sig (gcons (gnum (suc (suc (suc (suc n))))) gnil) = Sig.Val Ty.Int
  restored_sig (gcons (gnum (suc (suc (suc (suc n))))) (gnum m)) = Sig.Val Ty.Int
  restored_sig (gcons (gnum (suc (suc (suc (suc n))))) (gcons a gnil)) = Sig.Val Ty.Int
  restored_sig (gcons (gnum (suc (suc (suc (suc n))))) (gcons a (gnum m))) = Sig.Val Ty.Int
  restored_sig (gcons (gnum (suc (suc (suc (suc n))))) (gcons a (gcons b c))) = Sig.Fun (restored_effect (parted a).0) (restored_kinds (parted a).1) (restored_sig b) (restored_abs c)

  pub restored_abs : Gv → Abs
  restored_abs gnil = Abs.Ex [] (Sig.Val Ty.Int)
  restored_abs (gnum n) = Abs.Ex [] (Sig.Val Ty.Int)
  restored_abs (gcons a b) = Abs.Ex (restored_kinds a) (restored_sig b)

  pub restored_sigs : Gv → SigRow
  restored_sigs gnil = SigRow.End
  restored_sigs (gnum n) = SigRow.End
  restored_sigs (gcons a gnil) = SigRow.End
  restored_sigs (gcons a (gnum n)) = SigRow.End
  restored_sigs (gcons a (gcons b c)) = SigRow.More (restored_bytes a) (restored_sig b) (restored_sigs c)

mutual
  pub restored-stored_sig : (s : Sig) → restored_sig (stored_sig s) ≡ s
  restored-stored_sig (Sig.Val t) = λ i. Sig.Val (restored-stored t i)
  restored-stored_sig (Sig.Typ t k) = λ i. Sig.Typ (restored-stored t i) (restored-stored_kind k i)
  restored-stored_sig (Sig.Meta x) = λ i. Sig.Meta (restored-stored_abs x i)
  restored-stored_sig (Sig.Str r) = λ i. Sig.Str (restored-stored_sigs r i)
  restored-stored_sig (Sig.Fun e ks s x) = λ i. Sig.Fun (restored-stored_effect e i) (restored-stored_kinds ks i) (restored-stored_sig s i) (restored-stored_abs x i)

  pub restored-stored_abs : (x : Abs) → restored_abs (stored_abs x) ≡ x
  restored-stored_abs (Abs.Ex ks s) = λ i. Abs.Ex (restored-stored_kinds ks i) (restored-stored_sig s i)

  pub restored-stored_sigs : (r : SigRow) → restored_sigs (stored_sigs r) ≡ r
  restored-stored_sigs SigRow.End = refl
  restored-stored_sigs (SigRow.More n s r) = λ i. SigRow.More (restored-stored_bytes n i) (restored-stored_sig s i) (restored-stored_sigs r i)

abbrev pub sig_code : Coded Sig
sig_code = code_by Gv itself stored_sig restored_sig restored-stored_sig

abbrev pub abs_code : Coded Abs
abs_code = code_by Gv itself stored_abs restored_abs restored-stored_abs

abbrev pub sig_pairs_code : Coded (List (Name × Sig))
sig_pairs_code = coded_list (coded× (coded_list coded_ℕ) sig_code)

abbrev pub tys_code : Coded (List Ty)
tys_code = coded_list ty_code
