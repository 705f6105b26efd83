-- a phrase of each class, the least deep one
-- Main results: any_kind.
use Rattle.std.proofs.Common.{refl, List, [], ◌∷◌}
use Rattle.parse_grammar.specs.Grammar.{Terminal, a_keyword, a_mark, a_name, a_number, a_text, Class, Units, OneUnit, Binds, Bind, Decls, Decl, TypeOf, K, KArrow, KA, P, Dots, T, TArrow, TC, TArgs, TA, TFields, MoreTFields, S, SArrow, Wheres, SA, M, MArgs, Seals, MA, E, Lam, EBranches, MoreEBranches, Compare, ES, Sums, EM, Products, EP, Args, EA, Gets, EB, EFields, MoreEFields, phrase, rhs, no_units, unit_module, no_binds, bind_module, no_decls, decl_type, type_of_nothing, kind_chain, no_kind_arrow, kind_type, path_name, no_dots, ty_chain, no_arrow, ty_args, no_ty_args, ty_int, no_ty_fields, last_ty_field, sig_where, generative, no_wheres, sig_decls, mod_chain, no_mod_args, no_seals, mod_struct, exp_compare, lam_value, no_branches, last_branch, no_compare, sums, no_sums, products, no_products, exp_args, no_args, exp_gets, no_gets, exp_number, no_exp_fields, last_exp_field}
use Rattle.fing_lexer.specs.declared.token.Word.TheVariants.{KwType, KwModule, KwStruct, KwSig, KwEnd, KwFrom, KwInt, KwKind}
use Rattle.fing_lexer.specs.declared.token.Mark.TheVariants.{LeftParen, RightParen, RightBrace, Colon, Equal, DoubleArrow, Arrow}
use Rattle.fing_lexer.specs.declared.token.What.{What}
use Rattle.fing_lexer.specs.declared.token.What.TheVariants as what
use Rattle.fing_lexer.specs.declared.token.Token.{Token}
use Rattle.parse_grammar.specs.Grammar.{kind_of}
use Rattle.parse_grammar.specs.Tree.{Trees, end, leaf, node}
use Rattle.std.specs.Prelude.{◌≡◌, pos}

abbrev pub any_what : Terminal → What
any_what (a_keyword w) = what.Word w
any_what (a_mark m) = what.Mark m
any_what a_name = what.Ident []
any_what a_number = what.Int (pos 0)
any_what a_text = what.Text []

-- a token of each terminal
abbrev pub any_token : Terminal → Token
any_token k = record { what = any_what k; span = record { from = 0; to = 0 } }

-- the sample token of a terminal is of its kind
pub any_kind : (k : Terminal) → kind_of (any_token k) ≡ k
any_kind (a_keyword w) = refl
any_kind (a_mark m) = refl
any_kind a_name = refl
any_kind a_number = refl
any_kind a_text = refl

pub parts_of_Units : Trees (rhs no_units)
parts_of_Units = end

pub parts_of_Binds : Trees (rhs no_binds)
parts_of_Binds = end

pub parts_of_Decls : Trees (rhs no_decls)
parts_of_Decls = end

pub parts_of_TypeOf : Trees (rhs type_of_nothing)
parts_of_TypeOf = end

pub parts_of_KArrow : Trees (rhs no_kind_arrow)
parts_of_KArrow = end

pub parts_of_KA : Trees (rhs kind_type)
parts_of_KA = (leaf (any_token (a_keyword KwKind)) refl end)

pub parts_of_Dots : Trees (rhs no_dots)
parts_of_Dots = end

pub parts_of_TArrow : Trees (rhs no_arrow)
parts_of_TArrow = end

pub parts_of_TArgs : Trees (rhs no_ty_args)
parts_of_TArgs = end

pub parts_of_TA : Trees (rhs ty_int)
parts_of_TA = (leaf (any_token (a_keyword KwInt)) refl end)

pub parts_of_TFields : Trees (rhs no_ty_fields)
parts_of_TFields = end

pub parts_of_MoreTFields : Trees (rhs last_ty_field)
parts_of_MoreTFields = end

pub parts_of_SArrow : Trees (rhs generative)
parts_of_SArrow = (leaf (any_token (a_mark Arrow)) refl end)

pub parts_of_Wheres : Trees (rhs no_wheres)
parts_of_Wheres = end

pub parts_of_MArgs : Trees (rhs no_mod_args)
parts_of_MArgs = end

pub parts_of_Seals : Trees (rhs no_seals)
parts_of_Seals = end

pub parts_of_EBranches : Trees (rhs no_branches)
parts_of_EBranches = end

pub parts_of_MoreEBranches : Trees (rhs last_branch)
parts_of_MoreEBranches = end

pub parts_of_Compare : Trees (rhs no_compare)
parts_of_Compare = end

pub parts_of_Sums : Trees (rhs no_sums)
parts_of_Sums = end

pub parts_of_Products : Trees (rhs no_products)
parts_of_Products = end

pub parts_of_Args : Trees (rhs no_args)
parts_of_Args = end

pub parts_of_Gets : Trees (rhs no_gets)
parts_of_Gets = end

pub parts_of_EB : Trees (rhs exp_number)
parts_of_EB = (leaf (any_token a_number) refl end)

pub parts_of_EFields : Trees (rhs no_exp_fields)
parts_of_EFields = end

pub parts_of_MoreEFields : Trees (rhs last_exp_field)
parts_of_MoreEFields = end

pub parts_of_Decl : Trees (rhs decl_type)
parts_of_Decl = (leaf (any_token (a_keyword KwType)) refl (leaf (any_token a_name) refl (node type_of_nothing parts_of_TypeOf end)))

pub parts_of_K : Trees (rhs kind_chain)
parts_of_K = (node kind_type parts_of_KA (node no_kind_arrow parts_of_KArrow end))

pub parts_of_P : Trees (rhs path_name)
parts_of_P = (leaf (any_token a_name) refl (node no_dots parts_of_Dots end))

pub parts_of_TC : Trees (rhs ty_args)
parts_of_TC = (node ty_int parts_of_TA (node no_ty_args parts_of_TArgs end))

pub parts_of_SA : Trees (rhs sig_decls)
parts_of_SA = (leaf (any_token (a_keyword KwSig)) refl (node no_decls parts_of_Decls (leaf (any_token (a_keyword KwEnd)) refl end)))

pub parts_of_MA : Trees (rhs mod_struct)
parts_of_MA = (leaf (any_token (a_keyword KwStruct)) refl (node no_binds parts_of_Binds (leaf (any_token (a_keyword KwEnd)) refl end)))

pub parts_of_EA : Trees (rhs exp_gets)
parts_of_EA = (node exp_number parts_of_EB (node no_gets parts_of_Gets end))

pub parts_of_T : Trees (rhs ty_chain)
parts_of_T = (node ty_args parts_of_TC (node no_arrow parts_of_TArrow end))

pub parts_of_S : Trees (rhs sig_where)
parts_of_S = (node sig_decls parts_of_SA (node no_wheres parts_of_Wheres end))

pub parts_of_M : Trees (rhs mod_chain)
parts_of_M = (node mod_struct parts_of_MA (node no_mod_args parts_of_MArgs (node no_seals parts_of_Seals end)))

pub parts_of_EP : Trees (rhs exp_args)
parts_of_EP = (node exp_gets parts_of_EA (node no_args parts_of_Args end))

pub parts_of_Bind : Trees (rhs bind_module)
parts_of_Bind = (leaf (any_token (a_keyword KwModule)) refl (leaf (any_token a_name) refl (leaf (any_token (a_mark Equal)) refl (node mod_chain parts_of_M end))))

pub parts_of_OneUnit : Trees (rhs unit_module)
parts_of_OneUnit = (leaf (any_token (a_keyword KwModule)) refl (leaf (any_token a_name) refl (leaf (any_token (a_mark Colon)) refl (node sig_where parts_of_S (leaf (any_token (a_mark Equal)) refl (leaf (any_token (a_keyword KwStruct)) refl (node no_binds parts_of_Binds (leaf (any_token (a_keyword KwEnd)) refl end))))))))

pub parts_of_EM : Trees (rhs products)
parts_of_EM = (node exp_args parts_of_EP (node no_products parts_of_Products end))

pub parts_of_ES : Trees (rhs sums)
parts_of_ES = (node products parts_of_EM (node no_sums parts_of_Sums end))

pub parts_of_E : Trees (rhs exp_compare)
parts_of_E = (node sums parts_of_ES (node no_compare parts_of_Compare end))

pub parts_of_Lam : Trees (rhs lam_value)
parts_of_Lam = (leaf (any_token (a_mark LeftParen)) refl (leaf (any_token a_name) refl (leaf (any_token (a_mark Colon)) refl (node ty_chain parts_of_T (leaf (any_token (a_mark RightParen)) refl (leaf (any_token (a_mark DoubleArrow)) refl (node exp_compare parts_of_E end)))))))

-- a phrase of each class, the least deep one
abbrev pub any_phrase : (n : Class) → Trees (phrase n ∷ [])
any_phrase Units = node no_units parts_of_Units end
any_phrase OneUnit = node unit_module parts_of_OneUnit end
any_phrase Binds = node no_binds parts_of_Binds end
any_phrase Bind = node bind_module parts_of_Bind end
any_phrase Decls = node no_decls parts_of_Decls end
any_phrase Decl = node decl_type parts_of_Decl end
any_phrase TypeOf = node type_of_nothing parts_of_TypeOf end
any_phrase K = node kind_chain parts_of_K end
any_phrase KArrow = node no_kind_arrow parts_of_KArrow end
any_phrase KA = node kind_type parts_of_KA end
any_phrase P = node path_name parts_of_P end
any_phrase Dots = node no_dots parts_of_Dots end
any_phrase T = node ty_chain parts_of_T end
any_phrase TArrow = node no_arrow parts_of_TArrow end
any_phrase TC = node ty_args parts_of_TC end
any_phrase TArgs = node no_ty_args parts_of_TArgs end
any_phrase TA = node ty_int parts_of_TA end
any_phrase TFields = node no_ty_fields parts_of_TFields end
any_phrase MoreTFields = node last_ty_field parts_of_MoreTFields end
any_phrase S = node sig_where parts_of_S end
any_phrase SArrow = node generative parts_of_SArrow end
any_phrase Wheres = node no_wheres parts_of_Wheres end
any_phrase SA = node sig_decls parts_of_SA end
any_phrase M = node mod_chain parts_of_M end
any_phrase MArgs = node no_mod_args parts_of_MArgs end
any_phrase Seals = node no_seals parts_of_Seals end
any_phrase MA = node mod_struct parts_of_MA end
any_phrase E = node exp_compare parts_of_E end
any_phrase Lam = node lam_value parts_of_Lam end
any_phrase EBranches = node no_branches parts_of_EBranches end
any_phrase MoreEBranches = node last_branch parts_of_MoreEBranches end
any_phrase Compare = node no_compare parts_of_Compare end
any_phrase ES = node sums parts_of_ES end
any_phrase Sums = node no_sums parts_of_Sums end
any_phrase EM = node products parts_of_EM end
any_phrase Products = node no_products parts_of_Products end
any_phrase EP = node exp_args parts_of_EP end
any_phrase Args = node no_args parts_of_Args end
any_phrase EA = node exp_gets parts_of_EA end
any_phrase Gets = node no_gets parts_of_Gets end
any_phrase EB = node exp_number parts_of_EB end
any_phrase EFields = node no_exp_fields parts_of_EFields end
any_phrase MoreEFields = node last_exp_field parts_of_MoreEFields end

-- tokens that may follow a phrase of the class
abbrev pub behind : Class → List Token
behind Units = []
behind OneUnit = []
behind Binds = []
behind Bind = []
behind Decls = any_token (a_keyword KwEnd) ∷ []
behind Decl = any_token (a_keyword KwEnd) ∷ []
behind TypeOf = any_token (a_keyword KwEnd) ∷ []
behind K = any_token (a_keyword KwEnd) ∷ []
behind KArrow = any_token (a_keyword KwEnd) ∷ []
behind KA = any_token (a_keyword KwEnd) ∷ []
behind P = []
behind Dots = []
behind T = []
behind TArrow = []
behind TC = []
behind TArgs = []
behind TA = []
behind TFields = any_token (a_mark RightBrace) ∷ []
behind MoreTFields = any_token (a_mark RightBrace) ∷ []
behind S = []
behind SArrow = any_token (a_keyword KwFrom) ∷ []
behind Wheres = []
behind SA = []
behind M = []
behind MArgs = []
behind Seals = []
behind MA = []
behind E = []
behind Lam = []
behind EBranches = any_token (a_mark RightBrace) ∷ []
behind MoreEBranches = any_token (a_mark RightBrace) ∷ []
behind Compare = []
behind ES = []
behind Sums = []
behind EM = []
behind Products = []
behind EP = []
behind Args = []
behind EA = []
behind Gets = []
behind EB = []
behind EFields = any_token (a_mark RightBrace) ∷ []
behind MoreEFields = any_token (a_mark RightBrace) ∷ []
