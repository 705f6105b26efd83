-- The trees of derived forms (Rossberg, Russo, Dreyer, F-ing modules, section 2; the hidden names are own) and of chains.
use Rattle.std.specs.Prelude.{ℕ, false, List, [], ◌∷◌, Option, None, Some, codes}
use Rattle.fing_lexer.specs.declared.token.Token.{Token}
use Rattle.omega_kinds.specs.Kind.{Star, Arrow}
use Rattle.fing_syntax.specs.Phrase as tree
use Rattle.fing_syntax.specs.Phrase.{Span, SpanName, Spelled, Mod, SigEx, TyEx, TyExs, Exp, OpExps, ModAt, ModName, ModStruct, ModProject, ModFunctor, ModApply, ModSeal, BindAt, BindVal, BindTy, BindModule, NoBinds, MoreBinds, SigAt, SigRefine, DeclAt, DeclTyIs, DeclTyOf, TyAt, TyArrow, TyApply, TyMu, NoTys, MoreTys, ExpAt, PathExp, ExpLam, ExpTyLam, ExpOps, ExpApply, ExpGet, ExpPack, NoOps, MoreOps, NoArgs, MoreArgs}
use Rattle.fing_syntax.specs.Place.{name_span, mod_span, sig_span, ty_span, exp_span, arg_span, up_to}
use Rattle.parse_grammar.specs.Parts.{at, named, Kinded, TypeTail, Open, Is, Has, Where, Ascription, Sealed, Shown, Abstraction, OfValue, OfType}

-- the same phrase with another span, as between parentheses
abbrev pub mod_at : Span → Mod → Mod
mod_at s (ModAt _ w) = ModAt s w

abbrev pub sig_at : Span → SigEx → SigEx
sig_at s (SigAt _ w) = SigAt s w

abbrev pub ty_at : Span → TyEx → TyEx
ty_at s (TyAt _ w) = TyAt s w

abbrev pub exp_at : Span → Exp → Exp
exp_at s (ExpAt _ w) = ExpAt s w

-- a name that no source can spell
abbrev pub hidden : List ℕ → Span → SpanName
hidden bytes s = Spelled bytes s

-- `from (struct B end).%0`
abbrev pub result_of : Span → tree.Binds → Mod
result_of s b = ModAt s (ModProject (ModAt s (ModStruct b)) (hidden (codes "%0") s))

abbrev pub bind_then : tree.Binds → tree.Bind → tree.Binds
bind_then NoBinds b = MoreBinds b NoBinds
bind_then (MoreBinds a r) b = MoreBinds a (bind_then r b)

abbrev pub hidden_module : Span → List ℕ → Mod → tree.Bind
hidden_module s bytes m = BindAt s (BindModule (hidden bytes s) m)

abbrev pub let_mod : Span → tree.Binds → Mod → Mod
let_mod s b m = result_of s (bind_then b (hidden_module s (codes "%0") m))

-- `val %0 = E`
abbrev pub hidden_val : Span → Exp → tree.Bind
hidden_val s e = BindAt s (BindVal (hidden (codes "%0") s) e)

-- `from (struct B end).%0` as an expression
abbrev pub value_of : Span → tree.Binds → Exp
value_of s b = ExpAt s (PathExp (result_of s b))

abbrev pub let_exp : Span → tree.Binds → Exp → Exp
let_exp s b e = value_of s (bind_then b (hidden_val s e))

-- the application of a hidden name to a hidden name, each with its place
abbrev pub hidden_application : Span → List ℕ × Span → List ℕ × Span → Mod
hidden_application s f x = ModAt s (ModApply (hidden f.0 f.1) (hidden x.0 x.1))

-- `from (struct module %1 = M1 module %2 = M2 module %0 = M end).%0`
abbrev pub of_three : Span → Mod → Mod → Mod → Mod
of_three s m1 m2 m =
    result_of s (MoreBinds (hidden_module s (codes "%1") m1) (MoreBinds (hidden_module s (codes "%2") m2) (MoreBinds (hidden_module s (codes "%0") m) NoBinds)))

-- `M1 M2`
abbrev pub apply_mod : Mod → Mod → Mod
apply_mod f m =
    let s = up_to (mod_span f) (mod_span m) in
    of_three s f m (hidden_application s (codes "%1", mod_span f) (codes "%2", mod_span m))

-- `M :> S`
abbrev pub seal_mod : Mod → SigEx → Mod
seal_mod m g =
    let s = up_to (mod_span m) (sig_span g) in
    result_of s (MoreBinds (hidden_module s (codes "%1") m)
    (MoreBinds (hidden_module s (codes "%0") (ModAt s (ModSeal (hidden (codes "%1") (mod_span m)) g))) NoBinds))

-- `fun (%3 : S) => %3`
abbrev pub identity : Span → SigEx → Mod
identity s g = ModAt s (ModFunctor false (hidden (codes "%3") s) g (ModAt s (ModName (hidden (codes "%3") s))))

-- `M : S`
abbrev pub show_mod : Mod → SigEx → Mod
show_mod m g =
    let s = up_to (mod_span m) (sig_span g) in
    of_three s m (identity s g) (hidden_application s (codes "%2", s) (codes "%1", mod_span m))

-- `pack %1 : S`, for the hidden name of a module that stands at the second place
abbrev pub hidden_pack : Span → Span → SigEx → Exp
hidden_pack s at g = ExpAt s (ExpPack (hidden (codes "%1") at) g)

-- `pack M : S`
abbrev pub pack_exp : Span → Mod → SigEx → Exp
pack_exp s m g = value_of s (MoreBinds (hidden_module s (codes "%1") m) (MoreBinds (hidden_val s (hidden_pack s (mod_span m) g)) NoBinds))

-- the recursive type in which the name stands for the type itself
abbrev pub recursive : Span → SpanName → TyEx → TyEx
recursive s x t = TyAt s (TyMu x t)

-- `data X = T` as a binding
abbrev pub data_bind : Span → SpanName → TyEx → tree.Bind
data_bind s x t = BindAt s (BindTy x (recursive s x t))

-- `data X = T` as a declaration
abbrev pub data_decl : Span → SpanName → TyEx → tree.Decl
data_decl s x t = DeclAt s (DeclTyIs x (recursive s x t))

-- chains group to the left
abbrev pub project_all : Mod → List SpanName → Mod
project_all m [] = m
project_all m (x ∷ xs) = project_all (ModAt (up_to (mod_span m) (name_span x)) (ModProject m x)) xs

abbrev pub get_all : Exp → List SpanName → Exp
get_all e [] = e
get_all e (x ∷ xs) = get_all (ExpAt (up_to (exp_span e) (name_span x)) (ExpGet e x)) xs

abbrev pub apply_all : Mod → List Mod → Mod
apply_all f [] = f
apply_all f (m ∷ ms) = apply_all (apply_mod f m) ms

abbrev pub ascribe : Mod → Ascription → Mod
ascribe m (Sealed g) = seal_mod m g
ascribe m (Shown g) = show_mod m g

abbrev pub ascribe_all : Mod → List Ascription → Mod
ascribe_all m [] = m
ascribe_all m (a ∷ rest) = ascribe_all (ascribe m a) rest

abbrev pub refine : SigEx → Where → SigEx
refine g w = SigAt (up_to (sig_span g) (ty_span w.ty)) (SigRefine g w.first w.rest w.ty)

abbrev pub refine_all : SigEx → List Where → SigEx
refine_all g [] = g
refine_all g (w ∷ ws) = refine_all (refine g w) ws

-- chains of one level are one node, and a chain of one part is that part
abbrev pub last_ty : TyEx → TyExs → Span
last_ty t NoTys = ty_span t
last_ty t (MoreTys u r) = last_ty u r

abbrev pub ty_chain_of : TyEx → TyExs → TyEx
ty_chain_of t NoTys = t
ty_chain_of t (MoreTys u r) = TyAt (up_to (ty_span t) (last_ty u r)) (TyApply t (MoreTys u r))

abbrev pub last_op : Exp → OpExps → Span
last_op e NoOps = exp_span e
last_op e (MoreOps o f r) = last_op f r

abbrev pub ops_of : Exp → OpExps → Exp
ops_of e NoOps = e
ops_of e (MoreOps o f r) = ExpAt (up_to (exp_span e) (last_op f r)) (ExpOps e (MoreOps o f r))

abbrev pub last_arg : tree.Arg → tree.Args → Span
last_arg a NoArgs = arg_span a
last_arg a (MoreArgs b r) = last_arg b r

abbrev pub args_of : Exp → tree.Args → Exp
args_of e NoArgs = e
args_of e (MoreArgs a r) = ExpAt (up_to (exp_span e) (last_arg a r)) (ExpApply e (MoreArgs a r))

abbrev pub arrow_of : TyEx → Option TyEx → TyEx
arrow_of t None = t
arrow_of t (Some u) = TyAt (up_to (ty_span t) (ty_span u)) (TyArrow t u)

abbrev pub kind_arrow_of : Kinded → Option Kinded → Kinded
kind_arrow_of k None = k
kind_arrow_of k (Some j) = record { kind = Arrow k.kind j.kind; last = j.last }

abbrev pub decl_type_of : Token → Token → TypeTail → tree.Decl
decl_type_of w x Open = DeclAt (up_to (at w) (at x)) (DeclTyOf (named x) Star)
decl_type_of w x (Is t) = DeclAt (up_to (at w) (ty_span t)) (DeclTyIs (named x) t)
decl_type_of w x (Has k) = DeclAt (up_to (at w) k.last) (DeclTyOf (named x) k.kind)

abbrev pub abstraction_of : Token → Abstraction → Exp
abstraction_of w (OfValue x t e) = ExpAt (up_to (at w) (exp_span e)) (ExpLam x t e)
abstraction_of w (OfType x k e) = ExpAt (up_to (at w) (exp_span e)) (ExpTyLam x k e)
