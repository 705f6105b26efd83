-- What nodes are seen as: each child is its plain tree already.
use Rattle.std.specs.Prelude.{List, [], ◌∷◌, map}
use Rattle.omega_kinds.specs.View.{kind_tree}
use Rattle.fing_text.specs.declared.span.Span.{Span as SpanAt}
use Rattle.fing_syntax.specs.declared.leaf.SpanName.{SpanName as NameAt}
use Rattle.fing_syntax.specs.declared.leaf.Op.{Op as OpIn}
use Rattle.fing_syntax.specs.Inner.Leaves.{place, spelled, op_of}
use Rattle.fing_syntax.specs.declared.tree.ModWhat.{ModWhat as ModNode}
use Rattle.fing_syntax.specs.declared.tree.ModWhat.TheVariants as mod_what_in
use Rattle.fing_syntax.specs.declared.tree.BindWhat.{BindWhat as BindNode}
use Rattle.fing_syntax.specs.declared.tree.BindWhat.TheVariants as bind_what_in
use Rattle.fing_syntax.specs.declared.tree.SigWhat.{SigWhat as SigExNode}
use Rattle.fing_syntax.specs.declared.tree.SigWhat.TheVariants as sig_what_in
use Rattle.fing_syntax.specs.declared.tree.DeclWhat.{DeclWhat as DeclNode}
use Rattle.fing_syntax.specs.declared.tree.DeclWhat.TheVariants as decl_what_in
use Rattle.fing_syntax.specs.declared.tree.TyWhat.{TyWhat as TyExNode}
use Rattle.fing_syntax.specs.declared.tree.TyWhat.TheVariants as ty_what_in
use Rattle.fing_syntax.specs.declared.tree.ExpWhat.{ExpWhat as ExpNode}
use Rattle.fing_syntax.specs.declared.tree.ExpWhat.TheVariants as exp_what_in
use Rattle.fing_syntax.specs.declared.tree.Arg.{Arg as ArgNode}
use Rattle.fing_syntax.specs.declared.tree.Arg.TheVariants as arg_in
use Rattle.fing_syntax.specs.declared.tree.Branch.{Branch as BranchNode}
use Rattle.fing_syntax.specs.Phrase.{Mod, ModWhat, Bind, BindWhat, SigEx, SigWhat, Decl, DeclWhat, TyEx, TyWhat, Exp, ExpWhat, Binds, Decls, TyExs, FieldTyExs, OpExps, Args, FieldExps, Arg, Branches, ModAt, ModName, ModStruct, ModProject, ModFunctor, ModApply, ModSeal, ModUnpack, BindAt, BindVal, BindTy, BindModule, BindSignature, BindInclude, SigAt, PathSig, SigDecls, SigFun, SigRefine, DeclAt, DeclVal, DeclTyIs, DeclTyOf, DeclModule, DeclSignature, DeclInclude, TyAt, PathTy, TyInt, TyBool, TyText, TyArrow, TyApply, TyFields, TyAll, TyLam, TyPack, TySum, TyMu, ExpAt, PathExp, ExpInt, ExpBool, ExpText, ExpLam, ExpTyLam, ExpFix, ExpIf, ExpOps, ExpApply, ExpFields, ExpGet, ExpPack, ExpInj, ExpCase, ExpRoll, ExpUnroll, NoBinds, MoreBinds, NoDecls, MoreDecls, NoTys, MoreTys, NoFieldTys, MoreFieldTys, NoOps, MoreOps, NoArgs, MoreArgs, NoFieldExps, MoreFieldExps, NoBranches, MoreBranches, ArgExp, ArgTy}

abbrev pub arg_of : ArgNode → Arg
arg_of (arg_in.Exp a) = ArgExp a
arg_of (arg_in.Ty a b) = ArgTy a (place b)

abbrev pub binds : List Bind → Binds
binds [] = NoBinds
binds (x ∷ xs) = MoreBinds x (binds xs)

abbrev pub decls : List Decl → Decls
decls [] = NoDecls
decls (x ∷ xs) = MoreDecls x (decls xs)

abbrev pub tys : List TyEx → TyExs
tys [] = NoTys
tys (x ∷ xs) = MoreTys x (tys xs)

abbrev pub field_tys : List (NameAt × TyEx) → FieldTyExs
field_tys [] = NoFieldTys
field_tys (x ∷ xs) = MoreFieldTys (spelled x.0) x.1 (field_tys xs)

abbrev pub ops : List (OpIn × Exp) → OpExps
ops [] = NoOps
ops (x ∷ xs) = MoreOps (op_of x.0) x.1 (ops xs)

abbrev pub args : List ArgNode → Args
args [] = NoArgs
args (x ∷ xs) = MoreArgs (arg_of x) (args xs)

abbrev pub field_exps : List (NameAt × Exp) → FieldExps
field_exps [] = NoFieldExps
field_exps (x ∷ xs) = MoreFieldExps (spelled x.0) x.1 (field_exps xs)

abbrev pub branches : List BranchNode → Branches
branches [] = NoBranches
branches (x ∷ xs) = MoreBranches (spelled x.label) (spelled x.name) x.body (branches xs)

abbrev pub mod_what_of : ModNode → ModWhat
mod_what_of (mod_what_in.Name a) = ModName (spelled a)
mod_what_of (mod_what_in.Struct a) = ModStruct (binds a.items)
mod_what_of (mod_what_in.Project a b) = ModProject a.value (spelled b)
mod_what_of (mod_what_in.Functor a b c d) = ModFunctor a (spelled b) c.value d.value
mod_what_of (mod_what_in.Apply a b) = ModApply (spelled a) (spelled b)
mod_what_of (mod_what_in.Seal a b) = ModSeal (spelled a) b.value
mod_what_of (mod_what_in.Unpack a b) = ModUnpack a.value b.value

abbrev pub mod_of : SpanAt → ModNode → Mod
mod_of s w = ModAt (place s) (mod_what_of w)

abbrev pub bind_what_of : BindNode → BindWhat
bind_what_of (bind_what_in.Val a b) = BindVal (spelled a) b
bind_what_of (bind_what_in.Ty a b) = BindTy (spelled a) b
bind_what_of (bind_what_in.Module a b) = BindModule (spelled a) b
bind_what_of (bind_what_in.Signature a b) = BindSignature (spelled a) b
bind_what_of (bind_what_in.Include a) = BindInclude a

abbrev pub bind_of : SpanAt → BindNode → Bind
bind_of s w = BindAt (place s) (bind_what_of w)

abbrev pub sig_what_of : SigExNode → SigWhat
sig_what_of (sig_what_in.Path a) = PathSig a
sig_what_of (sig_what_in.Sig a) = SigDecls (decls a.items)
sig_what_of (sig_what_in.Fun a b c d) = SigFun a (spelled b) c.value d.value
sig_what_of (sig_what_in.Refine a b c d) = SigRefine a.value (spelled b) (map spelled c.items) d

abbrev pub sig_of : SpanAt → SigExNode → SigEx
sig_of s w = SigAt (place s) (sig_what_of w)

abbrev pub decl_what_of : DeclNode → DeclWhat
decl_what_of (decl_what_in.Val a b) = DeclVal (spelled a) b
decl_what_of (decl_what_in.TyIs a b) = DeclTyIs (spelled a) b
decl_what_of (decl_what_in.TyOf a b) = DeclTyOf (spelled a) (kind_tree b)
decl_what_of (decl_what_in.Module a b) = DeclModule (spelled a) b
decl_what_of (decl_what_in.Signature a b) = DeclSignature (spelled a) b
decl_what_of (decl_what_in.Include a) = DeclInclude a

abbrev pub decl_of : SpanAt → DeclNode → Decl
decl_of s w = DeclAt (place s) (decl_what_of w)

abbrev pub ty_what_of : TyExNode → TyWhat
ty_what_of (ty_what_in.Path a) = PathTy a
ty_what_of ty_what_in.Int = TyInt
ty_what_of ty_what_in.Bool = TyBool
ty_what_of ty_what_in.Text = TyText
ty_what_of (ty_what_in.Arrow a b) = TyArrow a.value b.value
ty_what_of (ty_what_in.Apply a b) = TyApply a.value (tys b.items)
ty_what_of (ty_what_in.Fields a) = TyFields (field_tys a.items)
ty_what_of (ty_what_in.All a b c) = TyAll (spelled a) (kind_tree b) c.value
ty_what_of (ty_what_in.Lam a b c) = TyLam (spelled a) (kind_tree b) c.value
ty_what_of (ty_what_in.Pack a) = TyPack a.value
ty_what_of (ty_what_in.Sum a) = TySum (field_tys a.items)
ty_what_of (ty_what_in.Mu a b) = TyMu (spelled a) b.value

abbrev pub ty_of : SpanAt → TyExNode → TyEx
ty_of s w = TyAt (place s) (ty_what_of w)

abbrev pub exp_what_of : ExpNode → ExpWhat
exp_what_of (exp_what_in.Path a) = PathExp a
exp_what_of (exp_what_in.Int a) = ExpInt a
exp_what_of (exp_what_in.Bool a) = ExpBool a
exp_what_of (exp_what_in.Text a) = ExpText a
exp_what_of (exp_what_in.Lam a b c) = ExpLam (spelled a) b c.value
exp_what_of (exp_what_in.TyLam a b c) = ExpTyLam (spelled a) (kind_tree b) c.value
exp_what_of (exp_what_in.Fix a b c d e) = ExpFix (spelled a) (spelled b) c d e.value
exp_what_of (exp_what_in.If a b c) = ExpIf a.value b.value c.value
exp_what_of (exp_what_in.Ops a b) = ExpOps a.value (ops b.items)
exp_what_of (exp_what_in.Apply a b) = ExpApply a.value (args b.items)
exp_what_of (exp_what_in.Fields a) = ExpFields (field_exps a.items)
exp_what_of (exp_what_in.Get a b) = ExpGet a.value (spelled b)
exp_what_of (exp_what_in.Pack a b) = ExpPack (spelled a) b.value
exp_what_of (exp_what_in.Inj a b c) = ExpInj (spelled a) b.value c.value
exp_what_of (exp_what_in.Case a b c) = ExpCase a.value b (branches c.items)
exp_what_of (exp_what_in.Roll a b) = ExpRoll a.value b.value
exp_what_of (exp_what_in.Unroll a) = ExpUnroll a.value

abbrev pub exp_of : SpanAt → ExpNode → Exp
exp_of s w = ExpAt (place s) (exp_what_of w)
