-- What the code's terminals, classes, symbols and productions stand for.
use Rattle.std.specs.Prelude.{ℕ, List, Option, Some, None, option_map}
use Rattle.parse_grammar.specs.Grammar as the
use Rattle.parse_grammar.specs.Tables.{choose, number_of}
use Rattle.parse_grammar.specs.Grammar.{Terminal, a_keyword, a_mark, a_name, a_number, a_text, Symbol, token, phrase, Rule, rhs}
use Rattle.parse_grammar.specs.declared.grammar.Terminal.{Terminal as TerminalIn}
use Rattle.parse_grammar.specs.declared.grammar.Terminal.TheVariants as a_terminal
use Rattle.parse_grammar.specs.declared.grammar.Class.{Class as ClassIn}
use Rattle.parse_grammar.specs.declared.grammar.Class.TheVariants as a_class
use Rattle.parse_grammar.specs.declared.grammar.Symbol.{Symbol as SymbolIn}
use Rattle.parse_grammar.specs.declared.grammar.Symbol.TheVariants as a_symbol
use Rattle.parse_grammar.specs.declared.grammar.Rule.{Rule as RuleIn}
use Rattle.parse_grammar.specs.declared.grammar.Rule.TheVariants as a_rule
use Rattle.parse_grammar.specs.declared.grammar.UnitRule.{UnitRule as UnitRuleIn}
use Rattle.parse_grammar.specs.declared.grammar.UnitRule.TheVariants as a_unitrule
use Rattle.parse_grammar.specs.declared.grammar.BindRule.{BindRule as BindRuleIn}
use Rattle.parse_grammar.specs.declared.grammar.BindRule.TheVariants as a_bindrule
use Rattle.parse_grammar.specs.declared.grammar.DeclRule.{DeclRule as DeclRuleIn}
use Rattle.parse_grammar.specs.declared.grammar.DeclRule.TheVariants as a_declrule
use Rattle.parse_grammar.specs.declared.grammar.KindRule.{KindRule as KindRuleIn}
use Rattle.parse_grammar.specs.declared.grammar.KindRule.TheVariants as a_kindrule
use Rattle.parse_grammar.specs.declared.grammar.PathRule.{PathRule as PathRuleIn}
use Rattle.parse_grammar.specs.declared.grammar.PathRule.TheVariants as a_pathrule
use Rattle.parse_grammar.specs.declared.grammar.TyRule.{TyRule as TyRuleIn}
use Rattle.parse_grammar.specs.declared.grammar.TyRule.TheVariants as a_tyrule
use Rattle.parse_grammar.specs.declared.grammar.SigRule.{SigRule as SigRuleIn}
use Rattle.parse_grammar.specs.declared.grammar.SigRule.TheVariants as a_sigrule
use Rattle.parse_grammar.specs.declared.grammar.ModRule.{ModRule as ModRuleIn}
use Rattle.parse_grammar.specs.declared.grammar.ModRule.TheVariants as a_modrule
use Rattle.parse_grammar.specs.declared.grammar.ExpRule.{ExpRule as ExpRuleIn}
use Rattle.parse_grammar.specs.declared.grammar.ExpRule.TheVariants as a_exprule
use Rattle.parse_grammar.specs.declared.grammar.OpRule.{OpRule as OpRuleIn}
use Rattle.parse_grammar.specs.declared.grammar.OpRule.TheVariants as a_oprule
use Rattle.parse_grammar.specs.declared.grammar.ArgRule.{ArgRule as ArgRuleIn}
use Rattle.parse_grammar.specs.declared.grammar.ArgRule.TheVariants as a_argrule
use Rattle.parse_grammar.specs.declared.grammar.AtomRule.{AtomRule as AtomRuleIn}
use Rattle.parse_grammar.specs.declared.grammar.AtomRule.TheVariants as a_atomrule

abbrev pub terminal_in : TerminalIn → Terminal
terminal_in (a_terminal.Word w) = a_keyword w
terminal_in (a_terminal.Mark m) = a_mark m
terminal_in a_terminal.Name = a_name
terminal_in a_terminal.Number = a_number
terminal_in a_terminal.Text = a_text

-- the number of the next terminal, and 0 at the end
abbrev pub number_next : Option TerminalIn → ℕ
number_next None = 0
number_next (Some t) = number_of (terminal_in t)

abbrev pub class_in : ClassIn → the.Class
class_in a_class.Units = the.Units
class_in a_class.OneUnit = the.OneUnit
class_in a_class.Binds = the.Binds
class_in a_class.Bind = the.Bind
class_in a_class.Decls = the.Decls
class_in a_class.Decl = the.Decl
class_in a_class.TypeOf = the.TypeOf
class_in a_class.Kind = the.K
class_in a_class.KindArrow = the.KArrow
class_in a_class.KindAtom = the.KA
class_in a_class.Path = the.P
class_in a_class.Dots = the.Dots
class_in a_class.Ty = the.T
class_in a_class.TyArrow = the.TArrow
class_in a_class.TyChain = the.TC
class_in a_class.TyArgs = the.TArgs
class_in a_class.TyAtom = the.TA
class_in a_class.TyFields = the.TFields
class_in a_class.MoreTyFields = the.MoreTFields
class_in a_class.Sig = the.S
class_in a_class.SigArrow = the.SArrow
class_in a_class.Wheres = the.Wheres
class_in a_class.SigAtom = the.SA
class_in a_class.Mod = the.M
class_in a_class.ModArgs = the.MArgs
class_in a_class.Seals = the.Seals
class_in a_class.ModAtom = the.MA
class_in a_class.Exp = the.E
class_in a_class.Lam = the.Lam
class_in a_class.Branches = the.EBranches
class_in a_class.MoreBranches = the.MoreEBranches
class_in a_class.Compare = the.Compare
class_in a_class.Sum = the.ES
class_in a_class.Sums = the.Sums
class_in a_class.Product = the.EM
class_in a_class.Products = the.Products
class_in a_class.Application = the.EP
class_in a_class.Args = the.Args
class_in a_class.Selection = the.EA
class_in a_class.Gets = the.Gets
class_in a_class.ExpAtom = the.EB
class_in a_class.ExpFields = the.EFields
class_in a_class.MoreExpFields = the.MoreEFields

abbrev pub symbol_in : SymbolIn → Symbol
symbol_in (a_symbol.Token t) = token (terminal_in t)
symbol_in (a_symbol.Phrase n) = phrase (class_in n)

-- a production of any class
pub data Any : Type 0 where
  any : {n : the.Class} → Rule n → Any

-- what stands right of it
abbrev pub side_of : Any → List Symbol
side_of (any r) = rhs r

abbrev pub unit_rule_in : UnitRuleIn → Any
unit_rule_in a_unitrule.NoUnits = any the.no_units
unit_rule_in a_unitrule.MoreUnits = any the.more_units
unit_rule_in a_unitrule.Module = any the.unit_module

abbrev pub bind_rule_in : BindRuleIn → Any
bind_rule_in a_bindrule.NoBinds = any the.no_binds
bind_rule_in a_bindrule.MoreBinds = any the.more_binds
bind_rule_in a_bindrule.Val = any the.bind_val
bind_rule_in a_bindrule.Type = any the.bind_type
bind_rule_in a_bindrule.Data = any the.bind_data
bind_rule_in a_bindrule.Module = any the.bind_module
bind_rule_in a_bindrule.Signature = any the.bind_signature
bind_rule_in a_bindrule.Include = any the.bind_include

abbrev pub decl_rule_in : DeclRuleIn → Any
decl_rule_in a_declrule.NoDecls = any the.no_decls
decl_rule_in a_declrule.MoreDecls = any the.more_decls
decl_rule_in a_declrule.Val = any the.decl_val
decl_rule_in a_declrule.Type = any the.decl_type
decl_rule_in a_declrule.Data = any the.decl_data
decl_rule_in a_declrule.Module = any the.decl_module
decl_rule_in a_declrule.Signature = any the.decl_signature
decl_rule_in a_declrule.Include = any the.decl_include
decl_rule_in a_declrule.Open = any the.type_of_nothing
decl_rule_in a_declrule.Is = any the.type_is
decl_rule_in a_declrule.Has = any the.type_has

abbrev pub kind_rule_in : KindRuleIn → Any
kind_rule_in a_kindrule.Chain = any the.kind_chain
kind_rule_in a_kindrule.NoArrow = any the.no_kind_arrow
kind_rule_in a_kindrule.Arrow = any the.kind_arrow
kind_rule_in a_kindrule.Type = any the.kind_type
kind_rule_in a_kindrule.Paren = any the.kind_paren

abbrev pub path_rule_in : PathRuleIn → Any
path_rule_in a_pathrule.Name = any the.path_name
path_rule_in a_pathrule.From = any the.path_from
path_rule_in a_pathrule.NoDots = any the.no_dots
path_rule_in a_pathrule.MoreDots = any the.more_dots

abbrev pub ty_rule_in : TyRuleIn → Any
ty_rule_in a_tyrule.Lam = any the.ty_lam
ty_rule_in a_tyrule.All = any the.ty_all
ty_rule_in a_tyrule.Chain = any the.ty_chain
ty_rule_in a_tyrule.NoArrow = any the.no_arrow
ty_rule_in a_tyrule.Arrow = any the.ty_arrow
ty_rule_in a_tyrule.Args = any the.ty_args
ty_rule_in a_tyrule.NoArgs = any the.no_ty_args
ty_rule_in a_tyrule.MoreArgs = any the.more_ty_args
ty_rule_in a_tyrule.Int = any the.ty_int
ty_rule_in a_tyrule.Bool = any the.ty_bool
ty_rule_in a_tyrule.Text = any the.ty_text
ty_rule_in a_tyrule.Path = any the.ty_path
ty_rule_in a_tyrule.Fields = any the.ty_fields
ty_rule_in a_tyrule.Sum = any the.ty_sum
ty_rule_in a_tyrule.Pack = any the.ty_pack
ty_rule_in a_tyrule.Paren = any the.ty_paren
ty_rule_in a_tyrule.NoFields = any the.no_ty_fields
ty_rule_in a_tyrule.Field = any the.ty_field
ty_rule_in a_tyrule.LastField = any the.last_ty_field
ty_rule_in a_tyrule.NextField = any the.next_ty_field

abbrev pub sig_rule_in : SigRuleIn → Any
sig_rule_in a_sigrule.Fun = any the.sig_fun
sig_rule_in a_sigrule.Where = any the.sig_where
sig_rule_in a_sigrule.Generative = any the.generative
sig_rule_in a_sigrule.Applicative = any the.applicative
sig_rule_in a_sigrule.NoWheres = any the.no_wheres
sig_rule_in a_sigrule.MoreWheres = any the.more_wheres
sig_rule_in a_sigrule.Path = any the.sig_path
sig_rule_in a_sigrule.Decls = any the.sig_decls
sig_rule_in a_sigrule.Paren = any the.sig_paren

abbrev pub mod_rule_in : ModRuleIn → Any
mod_rule_in a_modrule.Fun = any the.mod_fun
mod_rule_in a_modrule.Gen = any the.mod_gen
mod_rule_in a_modrule.Unpack = any the.mod_unpack
mod_rule_in a_modrule.Chain = any the.mod_chain
mod_rule_in a_modrule.NoArgs = any the.no_mod_args
mod_rule_in a_modrule.MoreArgs = any the.more_mod_args
mod_rule_in a_modrule.NoSeals = any the.no_seals
mod_rule_in a_modrule.Seal = any the.seal
mod_rule_in a_modrule.Ascribe = any the.ascribe
mod_rule_in a_modrule.Path = any the.mod_path
mod_rule_in a_modrule.Struct = any the.mod_struct
mod_rule_in a_modrule.Let = any the.mod_let
mod_rule_in a_modrule.Paren = any the.mod_paren

abbrev pub exp_rule_in : ExpRuleIn → Any
exp_rule_in a_exprule.Fun = any the.exp_fun
exp_rule_in a_exprule.Fix = any the.exp_fix
exp_rule_in a_exprule.If = any the.exp_if
exp_rule_in a_exprule.Case = any the.exp_case
exp_rule_in a_exprule.Compare = any the.exp_compare
exp_rule_in a_exprule.LamValue = any the.lam_value
exp_rule_in a_exprule.LamType = any the.lam_type
exp_rule_in a_exprule.NoBranches = any the.no_branches
exp_rule_in a_exprule.Branch = any the.case_branch
exp_rule_in a_exprule.LastBranch = any the.last_branch
exp_rule_in a_exprule.NextBranch = any the.next_branch

abbrev pub op_rule_in : OpRuleIn → Any
op_rule_in a_oprule.NoCompare = any the.no_compare
op_rule_in a_oprule.LessThan = any the.less_than
op_rule_in a_oprule.EqualTo = any the.equal_to
op_rule_in a_oprule.Sums = any the.sums
op_rule_in a_oprule.NoSums = any the.no_sums
op_rule_in a_oprule.Add = any the.add
op_rule_in a_oprule.Subtract = any the.subtract
op_rule_in a_oprule.Products = any the.products
op_rule_in a_oprule.NoProducts = any the.no_products
op_rule_in a_oprule.Multiply = any the.multiply
op_rule_in a_oprule.Divide = any the.divide
op_rule_in a_oprule.Remainder = any the.remainder

abbrev pub arg_rule_in : ArgRuleIn → Any
arg_rule_in a_argrule.Args = any the.exp_args
arg_rule_in a_argrule.NoArgs = any the.no_args
arg_rule_in a_argrule.Value = any the.exp_arg
arg_rule_in a_argrule.Type = any the.ty_arg
arg_rule_in a_argrule.Gets = any the.exp_gets
arg_rule_in a_argrule.NoGets = any the.no_gets
arg_rule_in a_argrule.MoreGets = any the.more_gets

abbrev pub atom_rule_in : AtomRuleIn → Any
atom_rule_in a_atomrule.Number = any the.exp_number
atom_rule_in a_atomrule.Text = any the.exp_text
atom_rule_in a_atomrule.True = any the.exp_true
atom_rule_in a_atomrule.False = any the.exp_false
atom_rule_in a_atomrule.Path = any the.exp_path
atom_rule_in a_atomrule.Fields = any the.exp_fields
atom_rule_in a_atomrule.Inj = any the.exp_inj
atom_rule_in a_atomrule.Roll = any the.exp_roll
atom_rule_in a_atomrule.Unroll = any the.exp_unroll
atom_rule_in a_atomrule.Let = any the.exp_let
atom_rule_in a_atomrule.Pack = any the.exp_pack
atom_rule_in a_atomrule.Paren = any the.exp_paren
atom_rule_in a_atomrule.NoFields = any the.no_exp_fields
atom_rule_in a_atomrule.Field = any the.exp_field
atom_rule_in a_atomrule.LastField = any the.last_exp_field
atom_rule_in a_atomrule.NextField = any the.next_exp_field

abbrev pub rule_in : RuleIn → Any
rule_in (a_rule.OneUnit r) = unit_rule_in r
rule_in (a_rule.Bind r) = bind_rule_in r
rule_in (a_rule.Decl r) = decl_rule_in r
rule_in (a_rule.Kind r) = kind_rule_in r
rule_in (a_rule.Path r) = path_rule_in r
rule_in (a_rule.Ty r) = ty_rule_in r
rule_in (a_rule.Sig r) = sig_rule_in r
rule_in (a_rule.Mod r) = mod_rule_in r
rule_in (a_rule.Exp r) = exp_rule_in r
rule_in (a_rule.Op r) = op_rule_in r
rule_in (a_rule.Arg r) = arg_rule_in r
rule_in (a_rule.Atom r) = atom_rule_in r

-- the production that a next token chooses
abbrev pub chosen : ClassIn → ℕ → Option Any
chosen a_class.Units j = option_map any (choose the.Units j)
chosen a_class.OneUnit j = option_map any (choose the.OneUnit j)
chosen a_class.Binds j = option_map any (choose the.Binds j)
chosen a_class.Bind j = option_map any (choose the.Bind j)
chosen a_class.Decls j = option_map any (choose the.Decls j)
chosen a_class.Decl j = option_map any (choose the.Decl j)
chosen a_class.TypeOf j = option_map any (choose the.TypeOf j)
chosen a_class.Kind j = option_map any (choose the.K j)
chosen a_class.KindArrow j = option_map any (choose the.KArrow j)
chosen a_class.KindAtom j = option_map any (choose the.KA j)
chosen a_class.Path j = option_map any (choose the.P j)
chosen a_class.Dots j = option_map any (choose the.Dots j)
chosen a_class.Ty j = option_map any (choose the.T j)
chosen a_class.TyArrow j = option_map any (choose the.TArrow j)
chosen a_class.TyChain j = option_map any (choose the.TC j)
chosen a_class.TyArgs j = option_map any (choose the.TArgs j)
chosen a_class.TyAtom j = option_map any (choose the.TA j)
chosen a_class.TyFields j = option_map any (choose the.TFields j)
chosen a_class.MoreTyFields j = option_map any (choose the.MoreTFields j)
chosen a_class.Sig j = option_map any (choose the.S j)
chosen a_class.SigArrow j = option_map any (choose the.SArrow j)
chosen a_class.Wheres j = option_map any (choose the.Wheres j)
chosen a_class.SigAtom j = option_map any (choose the.SA j)
chosen a_class.Mod j = option_map any (choose the.M j)
chosen a_class.ModArgs j = option_map any (choose the.MArgs j)
chosen a_class.Seals j = option_map any (choose the.Seals j)
chosen a_class.ModAtom j = option_map any (choose the.MA j)
chosen a_class.Exp j = option_map any (choose the.E j)
chosen a_class.Lam j = option_map any (choose the.Lam j)
chosen a_class.Branches j = option_map any (choose the.EBranches j)
chosen a_class.MoreBranches j = option_map any (choose the.MoreEBranches j)
chosen a_class.Compare j = option_map any (choose the.Compare j)
chosen a_class.Sum j = option_map any (choose the.ES j)
chosen a_class.Sums j = option_map any (choose the.Sums j)
chosen a_class.Product j = option_map any (choose the.EM j)
chosen a_class.Products j = option_map any (choose the.Products j)
chosen a_class.Application j = option_map any (choose the.EP j)
chosen a_class.Args j = option_map any (choose the.Args j)
chosen a_class.Selection j = option_map any (choose the.EA j)
chosen a_class.Gets j = option_map any (choose the.Gets j)
chosen a_class.ExpAtom j = option_map any (choose the.EB j)
chosen a_class.ExpFields j = option_map any (choose the.EFields j)
chosen a_class.MoreExpFields j = option_map any (choose the.MoreEFields j)
