-- Each part of a phrase is smaller than the phrase.
use Rattle.std.specs.Prelude.{◌≤◌, ◌+◌, max, List, [], ◌∷◌}
use Rattle.std.proofs.Common.{arith}
use denote.Param.Weighed.{most}
use Rattle.fing_syntax.specs.declared.tree.Bind.TheDeep.{deep-BindWhat, deep-DeclWhat, deep-ExpWhat, deep-ModWhat, deep-SigWhat, deep-TyWhat, deep-Arg, deep-Branch}
use Rattle.fing_syntax.specs.declared.leaf.SpanName.{SpanName as NameAt}
use Rattle.fing_syntax.specs.declared.leaf.Op.{Op as OpIn}
use Rattle.fing_text.specs.declared.span.Span.{Span as SpanAt}
use Rattle.fing_syntax.specs.declared.tree.ModWhat.{ModWhat as ModNode}
use Rattle.fing_syntax.specs.declared.tree.ModWhat.TheVariants as mod_what_in
use Rattle.fing_syntax.specs.declared.tree.BindWhat.{BindWhat as BindNode}
use Rattle.fing_syntax.specs.declared.tree.BindWhat.TheVariants as bind_what_in
use Rattle.fing_syntax.specs.declared.tree.SigWhat.{SigWhat as SigExNode}
use Rattle.fing_syntax.specs.declared.tree.SigWhat.TheVariants as sig_what_in
use Rattle.fing_syntax.specs.declared.tree.DeclWhat.{DeclWhat as DeclNode}
use Rattle.fing_syntax.specs.declared.tree.DeclWhat.TheVariants as decl_what_in
use Rattle.fing_syntax.specs.declared.tree.TyWhat.{TyWhat as TyExNode}
use Rattle.fing_syntax.specs.declared.tree.TyWhat.TheVariants as ty_what_in
use Rattle.fing_syntax.specs.declared.tree.ExpWhat.{ExpWhat as ExpNode}
use Rattle.fing_syntax.specs.declared.tree.ExpWhat.TheVariants as exp_what_in
use Rattle.fing_syntax.specs.declared.tree.Arg.{Arg as ArgNode}
use Rattle.fing_syntax.specs.declared.tree.Arg.TheVariants as arg_in
use Rattle.fing_syntax.specs.declared.tree.Branch.{Branch as BranchNode}
use Rattle.fing_syntax.specs.Phrase.{Bind, Decl, TyEx, Exp}
use Rattle.fing_syntax.specs.Inner.Size.{mod_size, mod_what_size, bind_size, bind_what_size, sig_size, sig_what_size, decl_size, decl_what_size, ty_size, ty_what_size, exp_size, exp_what_size, binds_size, decls_size, tys_size, field_tys_size, ops_size, args_size, field_exps_size, branches_size, arg_size}
use Rattle.fing_syntax.specs.Inner.View.{mod_of, bind_of, sig_of, decl_of, ty_of, exp_of, bind_what_of, mod_what_of, decl_what_of, exp_what_of, sig_what_of, ty_what_of, arg_of, binds, decls, tys, field_tys, ops, args, field_exps, branches}

pub arg_deep : (a : ArgNode) → deep-Arg a ≤ arg_size (arg_of a)
arg_deep (arg_in.Exp a) = omega arith
arg_deep (arg_in.Ty a b) = omega arith

pub binds_most : (xs : List Bind) → most (λ x. bind_size x + 1) xs ≤ binds_size (binds xs)
binds_most [] = omega arith
binds_most (x ∷ xs) = omega (arith, binds_most xs)

pub decls_most : (xs : List Decl) → most (λ x. decl_size x + 1) xs ≤ decls_size (decls xs)
decls_most [] = omega arith
decls_most (x ∷ xs) = omega (arith, decls_most xs)

pub tys_most : (xs : List TyEx) → most (λ x. ty_size x + 1) xs ≤ tys_size (tys xs)
tys_most [] = omega arith
tys_most (x ∷ xs) = omega (arith, tys_most xs)

pub field_tys_most : (xs : List (NameAt × TyEx)) → most (λ x. max 0 (max (ty_size x.1 + 1) 0)) xs ≤ field_tys_size (field_tys xs)
field_tys_most [] = omega arith
field_tys_most (x ∷ xs) = omega (arith, field_tys_most xs)

pub ops_most : (xs : List (OpIn × Exp)) → most (λ x. max 0 (max (exp_size x.1 + 1) 0)) xs ≤ ops_size (ops xs)
ops_most [] = omega arith
ops_most (x ∷ xs) = omega (arith, ops_most xs)

pub args_most : (xs : List ArgNode) → most (λ x. deep-Arg x) xs ≤ args_size (args xs)
args_most [] = omega arith
args_most (x ∷ xs) = omega (arith, args_most xs, arg_deep x)

pub field_exps_most : (xs : List (NameAt × Exp)) → most (λ x. max 0 (max (exp_size x.1 + 1) 0)) xs ≤ field_exps_size (field_exps xs)
field_exps_most [] = omega arith
field_exps_most (x ∷ xs) = omega (arith, field_exps_most xs)

pub branches_most : (xs : List BranchNode) → most (λ x. deep-Branch x) xs ≤ branches_size (branches xs)
branches_most [] = omega arith
branches_most (x ∷ xs) = omega (arith, branches_most xs)

pub mod_what_deep : (w : ModNode) → deep-ModWhat w ≤ mod_what_size (mod_what_of w)
mod_what_deep (mod_what_in.Name a) = omega arith
mod_what_deep (mod_what_in.Struct a) = omega (arith, binds_most a.items)
mod_what_deep (mod_what_in.Project a b) = omega arith
mod_what_deep (mod_what_in.Functor a b c d) = omega arith
mod_what_deep (mod_what_in.Apply a b) = omega arith
mod_what_deep (mod_what_in.Seal a b) = omega arith
mod_what_deep (mod_what_in.Unpack a b) = omega arith

pub mod_falls : (s : SpanAt) (w : ModNode) → max (deep-ModWhat w) 0 ≤ mod_size (mod_of s w)
mod_falls s w = omega (arith, mod_what_deep w)

pub bind_what_deep : (w : BindNode) → deep-BindWhat w ≤ bind_what_size (bind_what_of w)
bind_what_deep (bind_what_in.Val a b) = omega arith
bind_what_deep (bind_what_in.Ty a b) = omega arith
bind_what_deep (bind_what_in.Module a b) = omega arith
bind_what_deep (bind_what_in.Signature a b) = omega arith
bind_what_deep (bind_what_in.Include a) = omega arith

pub bind_falls : (s : SpanAt) (w : BindNode) → max (deep-BindWhat w) 0 ≤ bind_size (bind_of s w)
bind_falls s w = omega (arith, bind_what_deep w)

pub sig_what_deep : (w : SigExNode) → deep-SigWhat w ≤ sig_what_size (sig_what_of w)
sig_what_deep (sig_what_in.Path a) = omega arith
sig_what_deep (sig_what_in.Sig a) = omega (arith, decls_most a.items)
sig_what_deep (sig_what_in.Fun a b c d) = omega arith
sig_what_deep (sig_what_in.Refine a b c d) = omega arith

pub sig_falls : (s : SpanAt) (w : SigExNode) → max (deep-SigWhat w) 0 ≤ sig_size (sig_of s w)
sig_falls s w = omega (arith, sig_what_deep w)

pub decl_what_deep : (w : DeclNode) → deep-DeclWhat w ≤ decl_what_size (decl_what_of w)
decl_what_deep (decl_what_in.Val a b) = omega arith
decl_what_deep (decl_what_in.TyIs a b) = omega arith
decl_what_deep (decl_what_in.TyOf a b) = omega arith
decl_what_deep (decl_what_in.Module a b) = omega arith
decl_what_deep (decl_what_in.Signature a b) = omega arith
decl_what_deep (decl_what_in.Include a) = omega arith

pub decl_falls : (s : SpanAt) (w : DeclNode) → max (deep-DeclWhat w) 0 ≤ decl_size (decl_of s w)
decl_falls s w = omega (arith, decl_what_deep w)

pub ty_what_deep : (w : TyExNode) → deep-TyWhat w ≤ ty_what_size (ty_what_of w)
ty_what_deep (ty_what_in.Path a) = omega arith
ty_what_deep ty_what_in.Int = omega arith
ty_what_deep ty_what_in.Bool = omega arith
ty_what_deep ty_what_in.Text = omega arith
ty_what_deep (ty_what_in.Arrow a b) = omega arith
ty_what_deep (ty_what_in.Apply a b) = omega (arith, tys_most b.items)
ty_what_deep (ty_what_in.Fields a) = omega (arith, field_tys_most a.items)
ty_what_deep (ty_what_in.All a b c) = omega arith
ty_what_deep (ty_what_in.Lam a b c) = omega arith
ty_what_deep (ty_what_in.Pack a) = omega arith
ty_what_deep (ty_what_in.Sum a) = omega (arith, field_tys_most a.items)
ty_what_deep (ty_what_in.Mu a b) = omega arith

pub ty_falls : (s : SpanAt) (w : TyExNode) → max (deep-TyWhat w) 0 ≤ ty_size (ty_of s w)
ty_falls s w = omega (arith, ty_what_deep w)

pub exp_what_deep : (w : ExpNode) → deep-ExpWhat w ≤ exp_what_size (exp_what_of w)
exp_what_deep (exp_what_in.Path a) = omega arith
exp_what_deep (exp_what_in.Int a) = omega arith
exp_what_deep (exp_what_in.Bool a) = omega arith
exp_what_deep (exp_what_in.Text a) = omega arith
exp_what_deep (exp_what_in.Lam a b c) = omega arith
exp_what_deep (exp_what_in.TyLam a b c) = omega arith
exp_what_deep (exp_what_in.Fix a b c d e) = omega arith
exp_what_deep (exp_what_in.If a b c) = omega arith
exp_what_deep (exp_what_in.Ops a b) = omega (arith, ops_most b.items)
exp_what_deep (exp_what_in.Apply a b) = omega (arith, args_most b.items)
exp_what_deep (exp_what_in.Fields a) = omega (arith, field_exps_most a.items)
exp_what_deep (exp_what_in.Get a b) = omega arith
exp_what_deep (exp_what_in.Pack a b) = omega arith
exp_what_deep (exp_what_in.Inj a b c) = omega arith
exp_what_deep (exp_what_in.Case a b c) = omega (arith, branches_most c.items)
exp_what_deep (exp_what_in.Roll a b) = omega arith
exp_what_deep (exp_what_in.Unroll a) = omega arith

pub exp_falls : (s : SpanAt) (w : ExpNode) → max (deep-ExpWhat w) 0 ≤ exp_size (exp_of s w)
exp_falls s w = omega (arith, exp_what_deep w)
