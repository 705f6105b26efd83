-- What stands on the parser's stack: a token, or what a phrase of some class gives.
use Rattle.std.specs.Prelude.{Bool, List, Option, None, Some}
use Rattle.fing_lexer.specs.declared.token.Token.{Token}
use Rattle.fing_syntax.specs.Phrase as tree
use Rattle.fing_syntax.specs.Phrase.{SpanName, Mod, SigEx, TyEx, TyExs, FieldTyExs, Exp, OpExps, FieldExps, Branches}
use Rattle.fing_syntax.specs.Units.{UnitTree}
use Rattle.parse_grammar.specs.Parts.{Kinded, TypeTail, Where, Ascription, Abstraction}
use Rattle.parse_grammar.specs.Grammar.{Class, Units, OneUnit, Binds, Bind, Decls, Decl, TypeOf, K, KArrow, KA, P, Dots, T, TArrow, TC, TArgs, TA, TFields, MoreTFields, S, SArrow, Wheres, SA, M, MArgs, Seals, MA, E, Lam, EBranches, MoreEBranches, Compare, ES, Sums, EM, Products, EP, Args, EA, Gets, EB, EFields, MoreEFields}
use Rattle.parse_grammar.specs.Meaning.{Value}

pub data Item : Type 0 where
  TokenItem : Token → Item
  UnitsItem : List UnitTree → Item
  OneUnitItem : UnitTree → Item
  BindsItem : tree.Binds → Item
  BindItem : tree.Bind → Item
  DeclsItem : tree.Decls → Item
  DeclItem : tree.Decl → Item
  TailItem : TypeTail → Item
  KindItem : Kinded → Item
  KindArrowItem : Option Kinded → Item
  ModItem : Mod → Item
  NamesItem : List SpanName → Item
  TyItem : TyEx → Item
  TyArrowItem : Option TyEx → Item
  TysItem : TyExs → Item
  FieldTysItem : FieldTyExs → Item
  SigItem : SigEx → Item
  PureItem : Bool → Item
  WheresItem : List Where → Item
  ModsItem : List Mod → Item
  AscriptionsItem : List Ascription → Item
  ExpItem : Exp → Item
  AbstractionItem : Abstraction → Item
  OpsItem : OpExps → Item
  ArgsItem : tree.Args → Item
  FieldExpsItem : FieldExps → Item
  BranchesItem : Branches → Item

-- what a phrase gives, as an item
abbrev pub item : (n : Class) → Value n → Item
item Units v = UnitsItem v
item OneUnit v = OneUnitItem v
item Binds v = BindsItem v
item Bind v = BindItem v
item Decls v = DeclsItem v
item Decl v = DeclItem v
item TypeOf v = TailItem v
item K v = KindItem v
item KArrow v = KindArrowItem v
item KA v = KindItem v
item P v = ModItem v
item Dots v = NamesItem v
item T v = TyItem v
item TArrow v = TyArrowItem v
item TC v = TyItem v
item TArgs v = TysItem v
item TA v = TyItem v
item TFields v = FieldTysItem v
item MoreTFields v = FieldTysItem v
item S v = SigItem v
item SArrow v = PureItem v
item Wheres v = WheresItem v
item SA v = SigItem v
item M v = ModItem v
item MArgs v = ModsItem v
item Seals v = AscriptionsItem v
item MA v = ModItem v
item E v = ExpItem v
item Lam v = AbstractionItem v
item EBranches v = BranchesItem v
item MoreEBranches v = BranchesItem v
item Compare v = OpsItem v
item ES v = ExpItem v
item Sums v = OpsItem v
item EM v = ExpItem v
item Products v = OpsItem v
item EP v = ExpItem v
item Args v = ArgsItem v
item EA v = ExpItem v
item Gets v = NamesItem v
item EB v = ExpItem v
item EFields v = FieldExpsItem v
item MoreEFields v = FieldExpsItem v

-- an item as a token, or as what a phrase gives
abbrev pub as_token : Item → Option Token
as_token (TokenItem v) = Some v
as_token _ = None

abbrev pub as_units : Item → Option (List UnitTree)
as_units (UnitsItem v) = Some v
as_units _ = None

abbrev pub as_one_unit : Item → Option UnitTree
as_one_unit (OneUnitItem v) = Some v
as_one_unit _ = None

abbrev pub as_binds : Item → Option tree.Binds
as_binds (BindsItem v) = Some v
as_binds _ = None

abbrev pub as_bind : Item → Option tree.Bind
as_bind (BindItem v) = Some v
as_bind _ = None

abbrev pub as_decls : Item → Option tree.Decls
as_decls (DeclsItem v) = Some v
as_decls _ = None

abbrev pub as_decl : Item → Option tree.Decl
as_decl (DeclItem v) = Some v
as_decl _ = None

abbrev pub as_tail : Item → Option TypeTail
as_tail (TailItem v) = Some v
as_tail _ = None

abbrev pub as_kind : Item → Option Kinded
as_kind (KindItem v) = Some v
as_kind _ = None

abbrev pub as_kind_arrow : Item → Option (Option Kinded)
as_kind_arrow (KindArrowItem v) = Some v
as_kind_arrow _ = None

abbrev pub as_mod : Item → Option Mod
as_mod (ModItem v) = Some v
as_mod _ = None

abbrev pub as_names : Item → Option (List SpanName)
as_names (NamesItem v) = Some v
as_names _ = None

abbrev pub as_ty : Item → Option TyEx
as_ty (TyItem v) = Some v
as_ty _ = None

abbrev pub as_ty_arrow : Item → Option (Option TyEx)
as_ty_arrow (TyArrowItem v) = Some v
as_ty_arrow _ = None

abbrev pub as_tys : Item → Option TyExs
as_tys (TysItem v) = Some v
as_tys _ = None

abbrev pub as_field_tys : Item → Option FieldTyExs
as_field_tys (FieldTysItem v) = Some v
as_field_tys _ = None

abbrev pub as_sig : Item → Option SigEx
as_sig (SigItem v) = Some v
as_sig _ = None

abbrev pub as_pure : Item → Option Bool
as_pure (PureItem v) = Some v
as_pure _ = None

abbrev pub as_wheres : Item → Option (List Where)
as_wheres (WheresItem v) = Some v
as_wheres _ = None

abbrev pub as_mods : Item → Option (List Mod)
as_mods (ModsItem v) = Some v
as_mods _ = None

abbrev pub as_ascriptions : Item → Option (List Ascription)
as_ascriptions (AscriptionsItem v) = Some v
as_ascriptions _ = None

abbrev pub as_exp : Item → Option Exp
as_exp (ExpItem v) = Some v
as_exp _ = None

abbrev pub as_abstraction : Item → Option Abstraction
as_abstraction (AbstractionItem v) = Some v
as_abstraction _ = None

abbrev pub as_ops : Item → Option OpExps
as_ops (OpsItem v) = Some v
as_ops _ = None

abbrev pub as_args : Item → Option tree.Args
as_args (ArgsItem v) = Some v
as_args _ = None

abbrev pub as_field_exps : Item → Option FieldExps
as_field_exps (FieldExpsItem v) = Some v
as_field_exps _ = None

abbrev pub as_branches : Item → Option Branches
as_branches (BranchesItem v) = Some v
as_branches _ = None

abbrev pub as_value : (n : Class) → Item → Option (Value n)
as_value Units i = as_units i
as_value OneUnit i = as_one_unit i
as_value Binds i = as_binds i
as_value Bind i = as_bind i
as_value Decls i = as_decls i
as_value Decl i = as_decl i
as_value TypeOf i = as_tail i
as_value K i = as_kind i
as_value KArrow i = as_kind_arrow i
as_value KA i = as_kind i
as_value P i = as_mod i
as_value Dots i = as_names i
as_value T i = as_ty i
as_value TArrow i = as_ty_arrow i
as_value TC i = as_ty i
as_value TArgs i = as_tys i
as_value TA i = as_ty i
as_value TFields i = as_field_tys i
as_value MoreTFields i = as_field_tys i
as_value S i = as_sig i
as_value SArrow i = as_pure i
as_value Wheres i = as_wheres i
as_value SA i = as_sig i
as_value M i = as_mod i
as_value MArgs i = as_mods i
as_value Seals i = as_ascriptions i
as_value MA i = as_mod i
as_value E i = as_exp i
as_value Lam i = as_abstraction i
as_value EBranches i = as_branches i
as_value MoreEBranches i = as_branches i
as_value Compare i = as_ops i
as_value ES i = as_exp i
as_value Sums i = as_ops i
as_value EM i = as_exp i
as_value Products i = as_ops i
as_value EP i = as_exp i
as_value Args i = as_args i
as_value EA i = as_exp i
as_value Gets i = as_names i
as_value EB i = as_exp i
as_value EFields i = as_field_exps i
as_value MoreEFields i = as_field_exps i
