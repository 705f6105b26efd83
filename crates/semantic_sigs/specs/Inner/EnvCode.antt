-- The code of an environment.
use Rattle.std.specs.Prelude.{◌≡◌, zero, suc}
use base.Stored.{Gv, gnil, gnum, gcons}
use denote.Struct.Codes.{itself}
use Rattle.std.specs.Coded.{Coded, code_by, coded_list}
use Rattle.omega_kinds.specs.Inner.Code.{stored_kind, restored_kind, restored-stored_kind, stored_bytes, restored_bytes, restored-stored_bytes}
use Rattle.omega_types.specs.Inner.Code.{stored, restored, restored-stored}
use Rattle.sig_definitions.specs.Env.{Entry, Env}
use Rattle.semantic_sigs.specs.Inner.Code.{stored_sig, restored_sig, restored-stored_sig, parted}

abbrev pub stored_entry : Entry → Gv
stored_entry (Entry.TypeVar k) = gcons (gnum 0) (stored_kind k)
stored_entry (Entry.Named x s) = gcons (gnum 1) (gcons (stored_bytes x) (stored_sig s))
stored_entry (Entry.Value x t) = gcons (gnum 2) (gcons (stored_bytes x) (stored t))
stored_entry (Entry.TypeParam x) = gcons (gnum 3) (stored_bytes x)

abbrev pub restored_entry : Gv → Entry
restored_entry gnil = Entry.TypeParam (restored_bytes gnil)
restored_entry (gnum n) = Entry.TypeParam (restored_bytes gnil)
restored_entry (gcons gnil b) = Entry.TypeParam (restored_bytes gnil)
restored_entry (gcons (gcons a c) b) = Entry.TypeParam (restored_bytes gnil)
restored_entry (gcons (gnum zero) b) = Entry.TypeVar (restored_kind b)
restored_entry (gcons (gnum (suc zero)) b) = Entry.Named (restored_bytes (parted b).0) (restored_sig (parted b).1)
restored_entry (gcons (gnum (suc (suc zero))) b) = Entry.Value (restored_bytes (parted b).0) (restored (parted b).1)
restored_entry (gcons (gnum (suc (suc (suc n)))) b) = Entry.TypeParam (restored_bytes b)

pub restored-stored_entry : (e : Entry) → restored_entry (stored_entry e) ≡ e
restored-stored_entry (Entry.TypeVar k) = λ i. Entry.TypeVar (restored-stored_kind k i)
restored-stored_entry (Entry.Named x s) = λ i. Entry.Named (restored-stored_bytes x i) (restored-stored_sig s i)
restored-stored_entry (Entry.Value x t) = λ i. Entry.Value (restored-stored_bytes x i) (restored-stored t i)
restored-stored_entry (Entry.TypeParam x) = λ i. Entry.TypeParam (restored-stored_bytes x i)

abbrev pub entry_code : Coded Entry
entry_code = code_by Gv itself stored_entry restored_entry restored-stored_entry

abbrev pub env_code : Coded Env
env_code = coded_list entry_code
