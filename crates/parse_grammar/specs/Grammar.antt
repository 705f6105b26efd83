-- The grammar: its tokens, its classes of phrases, and its productions. It is own; the phrases are those of Rossberg, Russo,
-- Dreyer, F-ing modules, sections 2 and 6.
use Rattle.std.specs.Prelude.{List, [], ◌∷◌}
use Rattle.fing_lexer.specs.declared.token.Word.{Word}
use Rattle.fing_lexer.specs.declared.token.Mark.{Mark}
use Rattle.fing_lexer.specs.declared.token.What.{What}
use Rattle.fing_lexer.specs.declared.token.What.TheVariants as what
use Rattle.fing_lexer.specs.declared.token.Token.{Token}
use Rattle.fing_lexer.specs.declared.token.Word.TheVariants.{KwVal, KwType, KwModule, KwSignature, KwInclude, KwStruct, KwSig, KwEnd, KwLet, KwIn, KwFun, KwGen, KwFix, KwIf, KwThen, KwElse, KwPack, KwUnpack, KwFrom, KwWhere, KwTrue, KwFalse, KwInt, KwBool, KwText, KwKind, KwCase, KwOf, KwInj, KwData, KwRoll, KwUnroll}
use Rattle.fing_lexer.specs.declared.token.Mark.TheVariants.{LeftParen, RightParen, LeftBrace, RightBrace, LeftBracket, RightBracket, Dot, Comma, Colon, Seal, Equal, DoubleArrow, Arrow, Hash, Plus, Minus, Star, Slash, Percent, Less, EqualEqual}

-- what a token is, without its name, its number or its text
pub data Terminal : Type 0 where
  a_keyword : Word → Terminal
  a_mark : Mark → Terminal
  a_name a_number a_text : Terminal

abbrev pub terminal_of : What → Terminal
terminal_of (what.Word w) = a_keyword w
terminal_of (what.Mark m) = a_mark m
terminal_of (what.Ident bytes) = a_name
terminal_of (what.Int n) = a_number
terminal_of (what.Text bytes) = a_text

abbrev pub kind_of : Token → Terminal
kind_of t = terminal_of t.what

pub data Class : Type 0 where
  Units OneUnit Binds Bind Decls Decl TypeOf K KArrow KA P Dots T TArrow TC TArgs TA TFields MoreTFields S SArrow Wheres SA M MArgs Seals MA E Lam EBranches MoreEBranches Compare ES Sums EM Products EP Args EA Gets EB EFields MoreEFields : Class

-- one token, or one phrase of a class
pub data Symbol : Type 0 where
  token : Terminal → Symbol
  phrase : Class → Symbol

abbrev pub keyword : Word → Symbol
keyword w = token (a_keyword w)

abbrev pub mark : Mark → Symbol
mark m = token (a_mark m)

abbrev pub name : Symbol
name = token a_name

abbrev pub number : Symbol
number = token a_number

abbrev pub text : Symbol
text = token a_text

-- the productions of each class
pub data Rule : Class → Type 0 where
  no_units more_units : Rule Units
  unit_module : Rule OneUnit
  no_binds more_binds : Rule Binds
  bind_val bind_type bind_data bind_module bind_signature bind_include : Rule Bind
  no_decls more_decls : Rule Decls
  decl_val decl_type decl_data decl_module decl_signature decl_include : Rule Decl
  type_of_nothing type_is type_has : Rule TypeOf
  kind_chain : Rule K
  no_kind_arrow kind_arrow : Rule KArrow
  kind_type kind_paren : Rule KA
  path_name path_from : Rule P
  no_dots more_dots : Rule Dots
  ty_lam ty_all ty_chain : Rule T
  no_arrow ty_arrow : Rule TArrow
  ty_args : Rule TC
  no_ty_args more_ty_args : Rule TArgs
  ty_int ty_bool ty_text ty_path ty_fields ty_sum ty_pack ty_paren : Rule TA
  no_ty_fields ty_field : Rule TFields
  last_ty_field next_ty_field : Rule MoreTFields
  sig_fun sig_where : Rule S
  generative applicative : Rule SArrow
  no_wheres more_wheres : Rule Wheres
  sig_path sig_decls sig_paren : Rule SA
  mod_fun mod_gen mod_unpack mod_chain : Rule M
  no_mod_args more_mod_args : Rule MArgs
  no_seals seal ascribe : Rule Seals
  mod_path mod_struct mod_let mod_paren : Rule MA
  exp_fun exp_fix exp_if exp_case exp_compare : Rule E
  lam_value lam_type : Rule Lam
  no_branches case_branch : Rule EBranches
  last_branch next_branch : Rule MoreEBranches
  no_compare less_than equal_to : Rule Compare
  sums : Rule ES
  no_sums add subtract : Rule Sums
  products : Rule EM
  no_products multiply divide remainder : Rule Products
  exp_args : Rule EP
  no_args exp_arg ty_arg : Rule Args
  exp_gets : Rule EA
  no_gets more_gets : Rule Gets
  exp_number exp_text exp_true exp_false exp_path exp_fields exp_inj exp_roll exp_unroll exp_let exp_pack exp_paren : Rule EB
  no_exp_fields exp_field : Rule EFields
  last_exp_field next_exp_field : Rule MoreEFields

-- what stands right of each production
abbrev pub rhs : {n : Class} → Rule n → List Symbol
rhs no_units = []
rhs more_units = phrase OneUnit ∷ phrase Units ∷ []
rhs unit_module = keyword KwModule ∷ name ∷ mark Colon ∷ phrase S ∷ mark Equal ∷ keyword KwStruct ∷ phrase Binds ∷ keyword KwEnd ∷ []
rhs no_binds = []
rhs more_binds = phrase Bind ∷ phrase Binds ∷ []
rhs bind_val = keyword KwVal ∷ name ∷ mark Equal ∷ phrase E ∷ []
rhs bind_type = keyword KwType ∷ name ∷ mark Equal ∷ phrase T ∷ []
rhs bind_data = keyword KwData ∷ name ∷ mark Equal ∷ phrase T ∷ []
rhs bind_module = keyword KwModule ∷ name ∷ mark Equal ∷ phrase M ∷ []
rhs bind_signature = keyword KwSignature ∷ name ∷ mark Equal ∷ phrase S ∷ []
rhs bind_include = keyword KwInclude ∷ phrase M ∷ []
rhs no_decls = []
rhs more_decls = phrase Decl ∷ phrase Decls ∷ []
rhs decl_val = keyword KwVal ∷ name ∷ mark Colon ∷ phrase T ∷ []
rhs decl_type = keyword KwType ∷ name ∷ phrase TypeOf ∷ []
rhs decl_data = keyword KwData ∷ name ∷ mark Equal ∷ phrase T ∷ []
rhs decl_module = keyword KwModule ∷ name ∷ mark Colon ∷ phrase S ∷ []
rhs decl_signature = keyword KwSignature ∷ name ∷ mark Equal ∷ phrase S ∷ []
rhs decl_include = keyword KwInclude ∷ phrase S ∷ []
rhs type_of_nothing = []
rhs type_is = mark Equal ∷ phrase T ∷ []
rhs type_has = mark Colon ∷ phrase K ∷ []
rhs kind_chain = phrase KA ∷ phrase KArrow ∷ []
rhs no_kind_arrow = []
rhs kind_arrow = mark Arrow ∷ phrase K ∷ []
rhs kind_type = keyword KwKind ∷ []
rhs kind_paren = mark LeftParen ∷ phrase K ∷ mark RightParen ∷ []
rhs path_name = name ∷ phrase Dots ∷ []
rhs path_from = keyword KwFrom ∷ mark LeftParen ∷ phrase M ∷ mark RightParen ∷ mark Dot ∷ name ∷ phrase Dots ∷ []
rhs no_dots = []
rhs more_dots = mark Dot ∷ name ∷ phrase Dots ∷ []
rhs ty_lam = keyword KwFun ∷ mark LeftParen ∷ name ∷ mark Colon ∷ phrase K ∷ mark RightParen ∷ mark DoubleArrow ∷ phrase T ∷ []
rhs ty_all = mark LeftBracket ∷ name ∷ mark Colon ∷ phrase K ∷ mark RightBracket ∷ mark Arrow ∷ phrase T ∷ []
rhs ty_chain = phrase TC ∷ phrase TArrow ∷ []
rhs no_arrow = []
rhs ty_arrow = mark Arrow ∷ phrase T ∷ []
rhs ty_args = phrase TA ∷ phrase TArgs ∷ []
rhs no_ty_args = []
rhs more_ty_args = phrase TA ∷ phrase TArgs ∷ []
rhs ty_int = keyword KwInt ∷ []
rhs ty_bool = keyword KwBool ∷ []
rhs ty_text = keyword KwText ∷ []
rhs ty_path = phrase P ∷ []
rhs ty_fields = mark LeftBrace ∷ phrase TFields ∷ mark RightBrace ∷ []
rhs ty_sum = keyword KwCase ∷ mark LeftBrace ∷ phrase TFields ∷ mark RightBrace ∷ []
rhs ty_pack = keyword KwPack ∷ phrase SA ∷ []
rhs ty_paren = mark LeftParen ∷ phrase T ∷ mark RightParen ∷ []
rhs no_ty_fields = []
rhs ty_field = name ∷ mark Colon ∷ phrase T ∷ phrase MoreTFields ∷ []
rhs last_ty_field = []
rhs next_ty_field = mark Comma ∷ name ∷ mark Colon ∷ phrase T ∷ phrase MoreTFields ∷ []
rhs sig_fun = keyword KwFun ∷ mark LeftParen ∷ name ∷ mark Colon ∷ phrase S ∷ mark RightParen ∷ phrase SArrow ∷ phrase S ∷ []
rhs sig_where = phrase SA ∷ phrase Wheres ∷ []
rhs generative = mark Arrow ∷ []
rhs applicative = mark DoubleArrow ∷ []
rhs no_wheres = []
rhs more_wheres = keyword KwWhere ∷ keyword KwType ∷ name ∷ phrase Dots ∷ mark Equal ∷ phrase T ∷ phrase Wheres ∷ []
rhs sig_path = phrase P ∷ []
rhs sig_decls = keyword KwSig ∷ phrase Decls ∷ keyword KwEnd ∷ []
rhs sig_paren = mark LeftParen ∷ phrase S ∷ mark RightParen ∷ []
rhs mod_fun = keyword KwFun ∷ mark LeftParen ∷ name ∷ mark Colon ∷ phrase S ∷ mark RightParen ∷ mark DoubleArrow ∷ phrase M ∷ []
rhs mod_gen = keyword KwGen ∷ mark LeftParen ∷ name ∷ mark Colon ∷ phrase S ∷ mark RightParen ∷ mark DoubleArrow ∷ phrase M ∷ []
rhs mod_unpack = keyword KwUnpack ∷ phrase EA ∷ mark Colon ∷ phrase SA ∷ []
rhs mod_chain = phrase MA ∷ phrase MArgs ∷ phrase Seals ∷ []
rhs no_mod_args = []
rhs more_mod_args = phrase MA ∷ phrase MArgs ∷ []
rhs no_seals = []
rhs seal = mark Seal ∷ phrase S ∷ phrase Seals ∷ []
rhs ascribe = mark Colon ∷ phrase S ∷ phrase Seals ∷ []
rhs mod_path = phrase P ∷ []
rhs mod_struct = keyword KwStruct ∷ phrase Binds ∷ keyword KwEnd ∷ []
rhs mod_let = keyword KwLet ∷ phrase Binds ∷ keyword KwIn ∷ phrase M ∷ keyword KwEnd ∷ []
rhs mod_paren = mark LeftParen ∷ phrase M ∷ mark RightParen ∷ []
rhs exp_fun = keyword KwFun ∷ phrase Lam ∷ []
rhs exp_fix = keyword KwFix ∷ name ∷ mark LeftParen ∷ name ∷ mark Colon ∷ phrase T ∷ mark RightParen ∷ mark Colon ∷ phrase T ∷ mark DoubleArrow ∷ phrase E ∷ []
rhs exp_if = keyword KwIf ∷ phrase E ∷ keyword KwThen ∷ phrase E ∷ keyword KwElse ∷ phrase E ∷ []
rhs exp_case = keyword KwCase ∷ phrase E ∷ mark Colon ∷ phrase T ∷ keyword KwOf ∷ mark LeftBrace ∷ phrase EBranches ∷ mark RightBrace ∷ []
rhs exp_compare = phrase ES ∷ phrase Compare ∷ []
rhs lam_value = mark LeftParen ∷ name ∷ mark Colon ∷ phrase T ∷ mark RightParen ∷ mark DoubleArrow ∷ phrase E ∷ []
rhs lam_type = mark LeftBracket ∷ name ∷ mark Colon ∷ phrase K ∷ mark RightBracket ∷ mark DoubleArrow ∷ phrase E ∷ []
rhs no_branches = []
rhs case_branch = name ∷ mark LeftParen ∷ name ∷ mark RightParen ∷ mark DoubleArrow ∷ phrase E ∷ phrase MoreEBranches ∷ []
rhs last_branch = []
rhs next_branch = mark Comma ∷ name ∷ mark LeftParen ∷ name ∷ mark RightParen ∷ mark DoubleArrow ∷ phrase E ∷ phrase MoreEBranches ∷ []
rhs no_compare = []
rhs less_than = mark Less ∷ phrase ES ∷ []
rhs equal_to = mark EqualEqual ∷ phrase ES ∷ []
rhs sums = phrase EM ∷ phrase Sums ∷ []
rhs no_sums = []
rhs add = mark Plus ∷ phrase EM ∷ phrase Sums ∷ []
rhs subtract = mark Minus ∷ phrase EM ∷ phrase Sums ∷ []
rhs products = phrase EP ∷ phrase Products ∷ []
rhs no_products = []
rhs multiply = mark Star ∷ phrase EP ∷ phrase Products ∷ []
rhs divide = mark Slash ∷ phrase EP ∷ phrase Products ∷ []
rhs remainder = mark Percent ∷ phrase EP ∷ phrase Products ∷ []
rhs exp_args = phrase EA ∷ phrase Args ∷ []
rhs no_args = []
rhs exp_arg = phrase EA ∷ phrase Args ∷ []
rhs ty_arg = mark LeftBracket ∷ phrase T ∷ mark RightBracket ∷ phrase Args ∷ []
rhs exp_gets = phrase EB ∷ phrase Gets ∷ []
rhs no_gets = []
rhs more_gets = mark Hash ∷ name ∷ phrase Gets ∷ []
rhs exp_number = number ∷ []
rhs exp_text = text ∷ []
rhs exp_true = keyword KwTrue ∷ []
rhs exp_false = keyword KwFalse ∷ []
rhs exp_path = phrase P ∷ []
rhs exp_fields = mark LeftBrace ∷ phrase EFields ∷ mark RightBrace ∷ []
rhs exp_inj = keyword KwInj ∷ name ∷ phrase EB ∷ mark Colon ∷ phrase TA ∷ []
rhs exp_roll = keyword KwRoll ∷ phrase EB ∷ mark Colon ∷ phrase TA ∷ []
rhs exp_unroll = keyword KwUnroll ∷ phrase EB ∷ []
rhs exp_let = keyword KwLet ∷ phrase Binds ∷ keyword KwIn ∷ phrase E ∷ keyword KwEnd ∷ []
rhs exp_pack = keyword KwPack ∷ phrase MA ∷ mark Colon ∷ phrase SA ∷ []
rhs exp_paren = mark LeftParen ∷ phrase E ∷ mark RightParen ∷ []
rhs no_exp_fields = []
rhs exp_field = name ∷ mark Equal ∷ phrase E ∷ phrase MoreEFields ∷ []
rhs last_exp_field = []
rhs next_exp_field = mark Comma ∷ name ∷ mark Equal ∷ phrase E ∷ phrase MoreEFields ∷ []
