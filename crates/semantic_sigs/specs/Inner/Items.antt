-- The steps of a path, as the definitions have them, and the code of a path.
use Rattle.std.specs.Prelude.{◌≡◌, zero, suc, refl}
use base.Stored.{Gv, gnil, gnum, gcons}
use denote.Struct.Codes.{itself}
use Rattle.std.specs.Coded.{Coded, code_by, coded_list}
use Rattle.omega_kinds.specs.Inner.Code.{stored_bytes, restored_bytes, restored-stored_bytes}
use Rattle.sig_definitions.specs.Explicit.SigPath.{Item, SigPath}
use Rattle.semantic_sigs.specs.declared.path.Item.{Item as CodeItem}
use Rattle.semantic_sigs.specs.declared.path.Item.TheVariants as step

abbrev pub item_of : CodeItem → Item
item_of (step.Part name) = Item.Part name
item_of step.Arg = Item.Arg
item_of step.Res = Item.Res
item_of step.Meta = Item.Meta

abbrev pub stored_item : Item → Gv
stored_item (Item.Part name) = gcons gnil (stored_bytes name)
stored_item Item.Arg = gnum 0
stored_item Item.Res = gnum 1
stored_item Item.Meta = gnum 2

abbrev pub restored_item : Gv → Item
restored_item gnil = Item.Arg
restored_item (gnum zero) = Item.Arg
restored_item (gnum (suc zero)) = Item.Res
restored_item (gnum (suc (suc n))) = Item.Meta
restored_item (gcons a b) = Item.Part (restored_bytes b)

pub restored-stored_item : (item : Item) → restored_item (stored_item item) ≡ item
restored-stored_item (Item.Part name) = λ i. Item.Part (restored-stored_bytes name i)
restored-stored_item Item.Arg = refl
restored-stored_item Item.Res = refl
restored-stored_item Item.Meta = refl

abbrev pub item_code : Coded Item
item_code = code_by Gv itself stored_item restored_item restored-stored_item

abbrev pub path_code : Coded SigPath
path_code = coded_list item_code
