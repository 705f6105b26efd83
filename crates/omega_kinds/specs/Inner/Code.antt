-- Codes of kinds, names and labels: trees of numbers that give them back.
use Rattle.std.specs.Prelude.{◌≡◌, ℕ, zero, suc, List, [], ◌∷◌, refl}
use base.Stored.{Gv, gnil, gnum, gcons}
use denote.Struct.Codes.{itself}
use Rattle.std.specs.Coded.{Coded, code_by, coded_list}
use Rattle.omega_kinds.specs.Kind.{Kind, Star, Arrow}
use Rattle.omega_kinds.specs.declared.label.Label.{Label}
use Rattle.omega_kinds.specs.declared.label.Label.TheVariants.{Val, Typ, Sig, App, Gen}

abbrev pub stored_kind : Kind → Gv
stored_kind Star = gnil
stored_kind (Arrow a b) = gcons (stored_kind a) (stored_kind b)

abbrev pub restored_kind : Gv → Kind
restored_kind gnil = Star
restored_kind (gnum n) = Star
restored_kind (gcons a b) = Arrow (restored_kind a) (restored_kind b)

pub restored-stored_kind : (k : Kind) → restored_kind (stored_kind k) ≡ k
restored-stored_kind Star = refl
restored-stored_kind (Arrow a b) = λ i. Arrow (restored-stored_kind a i) (restored-stored_kind b i)

abbrev pub stored_bytes : List ℕ → Gv
stored_bytes [] = gnil
stored_bytes (x ∷ xs) = gcons (gnum x) (stored_bytes xs)

abbrev pub restored_bytes : Gv → List ℕ
restored_bytes gnil = []
restored_bytes (gnum n) = []
restored_bytes (gcons gnil b) = restored_bytes b
restored_bytes (gcons (gnum n) b) = n ∷ restored_bytes b
restored_bytes (gcons (gcons a c) b) = restored_bytes b

pub restored-stored_bytes : (xs : List ℕ) → restored_bytes (stored_bytes xs) ≡ xs
restored-stored_bytes [] = refl
restored-stored_bytes (x ∷ xs) = λ i. x ∷ restored-stored_bytes xs i

abbrev pub stored_label : Label → Gv
stored_label Val = gnum 0
stored_label Typ = gnum 1
stored_label Sig = gnum 2
stored_label App = gnum 3
stored_label Gen = gnum 4
stored_label (Label.Name bytes) = gcons gnil (stored_bytes bytes)

abbrev pub reserved_label : ℕ → Label
reserved_label zero = Val
reserved_label (suc zero) = Typ
reserved_label (suc (suc zero)) = Sig
reserved_label (suc (suc (suc zero))) = App
reserved_label (suc (suc (suc (suc n)))) = Gen

abbrev pub restored_label : Gv → Label
restored_label gnil = Val
restored_label (gnum n) = reserved_label n
restored_label (gcons a b) = Label.Name (restored_bytes b)

pub restored-stored_label : (l : Label) → restored_label (stored_label l) ≡ l
restored-stored_label Val = refl
restored-stored_label Typ = refl
restored-stored_label Sig = refl
restored-stored_label App = refl
restored-stored_label Gen = refl
restored-stored_label (Label.Name bytes) = λ i. Label.Name (restored-stored_bytes bytes i)

abbrev pub kind_code : Coded Kind
kind_code = code_by Gv itself stored_kind restored_kind restored-stored_kind

abbrev pub kinds_code : Coded (List Kind)
kinds_code = coded_list kind_code

abbrev pub label_code : Coded Label
label_code = code_by Gv itself stored_label restored_label restored-stored_label
