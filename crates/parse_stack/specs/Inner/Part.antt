-- What the code's parts stand for. A list that grows has its first item last.
use Rattle.std.specs.Prelude.{List, reverse, map, option_map}
use Rattle.fing_syntax.specs.Inner.Leaves.{spelled}
use Rattle.fing_syntax.specs.Inner.View.{binds, decls, tys, field_tys, ops, args, field_exps, branches}
use Rattle.parse_forms.specs.Inner.Part.{kind_in, tail_in, where_in, ascription_in, abstraction_in}
use Rattle.parse_stack.specs.declared.part.Part.{Part}
use Rattle.parse_stack.specs.declared.part.Part.TheVariants as a_part
use Rattle.parse_stack.specs.declared.stack.Stack.{Stack}
use Rattle.parse_stack.specs.Inner.Item.{Item, TokenItem, UnitsItem, OneUnitItem, BindsItem, BindItem, DeclsItem, DeclItem, TailItem, KindItem, KindArrowItem, ModItem, NamesItem, TyItem, TyArrowItem, TysItem, FieldTysItem, SigItem, PureItem, WheresItem, ModsItem, AscriptionsItem, ExpItem, AbstractionItem, OpsItem, ArgsItem, FieldExpsItem, BranchesItem}

abbrev pub part_in : Part → Item
part_in (a_part.Token t) = TokenItem t.now
part_in (a_part.Units v) = UnitsItem (reverse v.items)
part_in (a_part.OneUnit v) = OneUnitItem v.value
part_in (a_part.Binds v) = BindsItem (binds (reverse v.items))
part_in (a_part.Bind v) = BindItem v
part_in (a_part.Decls v) = DeclsItem (decls (reverse v.items))
part_in (a_part.Decl v) = DeclItem v
part_in (a_part.Tail v) = TailItem (tail_in v)
part_in (a_part.Kind v) = KindItem (kind_in v)
part_in (a_part.KindArrow v) = KindArrowItem (option_map kind_in v)
part_in (a_part.Mod v) = ModItem v
part_in (a_part.Names v) = NamesItem (map spelled (reverse v.items))
part_in (a_part.Ty v) = TyItem v
part_in (a_part.TyArrow v) = TyArrowItem v
part_in (a_part.Tys v) = TysItem (tys (reverse v.items))
part_in (a_part.FieldTys v) = FieldTysItem (field_tys (reverse v.items))
part_in (a_part.Sig v) = SigItem v
part_in (a_part.Pure v) = PureItem v
part_in (a_part.Wheres v) = WheresItem (map where_in (reverse v.items))
part_in (a_part.Mods v) = ModsItem (reverse v.items)
part_in (a_part.Ascriptions v) = AscriptionsItem (map ascription_in (reverse v.items))
part_in (a_part.Exp v) = ExpItem v
part_in (a_part.Abstraction v) = AbstractionItem (abstraction_in v)
part_in (a_part.Ops v) = OpsItem (ops (reverse v.items))
part_in (a_part.Args v) = ArgsItem (args (reverse v.items))
part_in (a_part.FieldExps v) = FieldExpsItem (field_exps (reverse v.items))
part_in (a_part.Branches v) = BranchesItem (branches (reverse v.items))

-- the items of a stack, the top one first
abbrev pub items : List Part → List Item
items ps = map part_in (reverse ps)

abbrev pub held : Stack → List Item
held s = items s.parts.items
