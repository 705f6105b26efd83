-- A program with a sum and a case on it, and a program with a recursive type.
use Rattle.std.specs.Prelude.{[], ◌∷◌, pos}
use Rattle.omega_kinds.specs.Kind.{Kind}
use Rattle.omega_kinds.specs.declared.label.Label.{Label}
use Rattle.omega_kinds.specs.declared.effect.Effect.TheVariants.{Pure}
use Rattle.omega_kinds.specs.Name.{Name}
use Rattle.omega_types.specs.Ty.{Ty, Row}
use Rattle.omega_terms.specs.declared.op.Op.{Op as TermOp}
use Rattle.omega_terms.specs.PartTerms.{type_term}
use Rattle.omega_terms.specs.Term.{Term, TermRow}
use Rattle.omega_terms.specs.Typing.{HasType}
use Rattle.sig_definitions.specs.Signatures.Sig.{Sig, Abs, SigRow, made}
use Rattle.sig_definitions.specs.Signatures.Encoding.{enc, enc_abs}
use Rattle.fing_syntax.specs.Phrase.{Span, Bytes, Spelled, ModAt, ModName, Bind, BindAt, BindVal, BindTy, Binds, NoBinds, MoreBinds, TyEx, TyAt, TyInt, PathTy, TyFields, TySum, TyMu, NoFieldTys, MoreFieldTys, Exp, ExpAt, ExpInt, ExpOps, PathExp, ExpFields, ExpInj, ExpCase, ExpRoll, ExpUnroll, NoFieldExps, Op, NoOps, MoreOps, Branches, NoBranches, MoreBranches}
use Rattle.elab_judgments.specs.Judgments.Program.{ProgramMeans}
use Rattle.elab_examples.specs.Rows.{x, t, y, val_term, two_terms}

-- names: o, u, n, none, some
abbrev pub o : Name
o = 111 ∷ []

abbrev pub u : Name
u = 117 ∷ []

abbrev pub n : Name
n = 110 ∷ []

abbrev pub none : Name
none = 110 ∷ 111 ∷ 110 ∷ 101 ∷ []

abbrev pub some : Name
some = 115 ∷ 111 ∷ 109 ∷ 101 ∷ []

-- (sum (none (rec)) (some a))
abbrev pub labels : Ty → Row
labels a = Row.More (Label.Name none) (Ty.Fields Row.End) (Row.More (Label.Name some) a Row.End)

abbrev pub option : Ty → Ty
option a = Ty.Sum (labels a)

-- (rec (.val a))
abbrev pub val_part : Ty → Ty
val_part a = Ty.Fields (Row.More Label.Val a Row.End)

-- (call (fn (rec (.val a)) rest) (rec (.val e)))
abbrev pub bound : (a : Ty) (e rest : Term) → Term
bound a e rest = Term.Call (Term.Lam (val_part a) rest) (val_term e)

-- a name as an expression, and as a type
abbrev pub value_named : Name → Span → Exp
value_named l at = ExpAt at (PathExp (ModAt at (ModName (Spelled l at))))

abbrev pub type_named : Name → Span → TyEx
type_named l at = TyAt at (PathTy (ModAt at (ModName (Spelled l at))))

-- case {none : {}, some : T}, at its places
abbrev pub option_at : (whole first part second : Span) → TyEx → TyEx
option_at whole first part second a =
    TyAt whole (TySum (MoreFieldTys (Spelled none first) (TyAt part (TyFields NoFieldTys)) (MoreFieldTys (Spelled some second) a NoFieldTys)))

-- case {none : {}, some : Int}
abbrev pub int_option : TyEx
int_option = option_at (Bytes 21 49) (Bytes 27 31) (Bytes 34 36) (Bytes 38 42) (TyAt (Bytes 45 48) TyInt)

-- inj some 3 : case {none : {}, some : Int}
abbrev pub three : Exp
three = ExpAt (Bytes 8 49) (ExpInj (Spelled some (Bytes 12 16)) (ExpAt (Bytes 17 18) (ExpInt (pos 3))) int_option)

-- n + 1
abbrev pub one_more : Exp
one_more = ExpAt (Bytes 102 107) (ExpOps (value_named n (Bytes 102 103)) (MoreOps Op.Add (ExpAt (Bytes 106 107) (ExpInt (pos 1))) NoOps))

-- some (n) => n + 1
abbrev pub some_branch : Branches
some_branch = MoreBranches (Spelled some (Bytes 90 94)) (Spelled n (Bytes 96 97)) one_more NoBranches

-- {none (u) => 0, some (n) => n + 1}
abbrev pub both_branches : Branches
both_branches = MoreBranches (Spelled none (Bytes 75 79)) (Spelled u (Bytes 81 82)) (ExpAt (Bytes 87 88) (ExpInt (pos 0))) some_branch

-- case o : Int of {none (u) => 0, some (n) => n + 1}
abbrev pub four : Exp
four = ExpAt (Bytes 58 108) (ExpCase (value_named o (Bytes 63 64)) (TyAt (Bytes 67 70) TyInt) both_branches)

abbrev pub val_o : Bind
val_o = BindAt (Bytes 0 49) (BindVal (Spelled o (Bytes 4 5)) three)

abbrev pub val_y : Bind
val_y = BindAt (Bytes 50 108) (BindVal (Spelled y (Bytes 54 55)) four)

-- val o = inj some 3 : case {none : {}, some : Int}
-- val y = case o : Int of {none (u) => 0, some (n) => n + 1}
abbrev pub cases : Binds
cases = MoreBinds val_o (MoreBinds val_y NoBinds)

-- (inj some 3 (sum (none (rec)) (some int)))
abbrev pub three_term : Term
three_term = Term.Inj (Label.Name some) (Term.Int (pos 3)) (option Ty.Int)

-- (+ (get (rec (.val x0)) .val) 1), x0 being the value of the label
abbrev pub one_more_term : Term
one_more_term = Term.Arith TermOp.Add (Term.Get (val_term (Term.Var 0)) Label.Val) (Term.Int (pos 1))

-- (none 0) (some one_more_term), each under the value of its label
abbrev pub branch_terms : TermRow
branch_terms = TermRow.More (Label.Name none) (Term.Int (pos 0)) (TermRow.More (Label.Name some) one_more_term TermRow.End)

-- (case (get x0 .val) int (none 0) (some one_more_term))
abbrev pub four_term : Term
four_term = Term.Case (Term.Get (Term.Var 0) Label.Val) Ty.Int branch_terms

-- (call (fn O (call (fn V (rec (o x1) (y x0))) (rec (.val four_term)))) (rec (.val three_term)))
abbrev pub cases_term : Term
cases_term = bound (option Ty.Int) three_term (bound Ty.Int four_term (two_terms o (Term.Var 1) y (Term.Var 0)))

-- (str (o (val (sum (none (rec)) (some int)))) (y (val int)))
abbrev pub cases_sig : Abs
cases_sig = Abs.Ex [] (Sig.Str (SigRow.More o (Sig.Val (option Ty.Int)) (SigRow.More y (Sig.Val Ty.Int) SigRow.End)))

-- (rec (o (rec (.val (sum (none (rec)) (some int))))) (y (rec (.val int))))
abbrev pub cases_type : Ty
cases_type = Ty.Fields (Row.More (Label.Name o) (val_part (option Ty.Int)) (Row.More (Label.Name y) (val_part Ty.Int) Row.End))

-- the program means that signature, and a term of that type
abbrev pub CaseProgram : Type 0
CaseProgram = ProgramMeans cases (made Pure cases_sig [] cases_term) cases_term × HasType [] [] cases_term cases_type

-- the recursive type of data t = case {none : {}, some : t}
abbrev pub number : TyEx
number = TyAt (Bytes 0 35) (TyMu (Spelled t (Bytes 5 6)) (option_at (Bytes 9 35) (Bytes 15 19) (Bytes 22 24) (Bytes 26 30) (type_named t (Bytes 33 34))))

-- case {none : {}, some : t}
abbrev pub number_option : TyEx
number_option = option_at (Bytes 64 90) (Bytes 70 74) (Bytes 77 79) (Bytes 81 85) (type_named t (Bytes 88 89))

-- (inj none {} : case {none : {}, some : t})
abbrev pub nothing : Exp
nothing = ExpAt (Bytes 49 91) (ExpInj (Spelled none (Bytes 54 58)) (ExpAt (Bytes 59 61) (ExpFields NoFieldExps)) number_option)

-- roll (inj none {} : case {none : {}, some : t}) : t
abbrev pub zero : Exp
zero = ExpAt (Bytes 44 95) (ExpRoll nothing (type_named t (Bytes 94 95)))

abbrev pub data_t : Bind
data_t = BindAt (Bytes 0 35) (BindTy (Spelled t (Bytes 5 6)) number)

abbrev pub val_x : Bind
val_x = BindAt (Bytes 36 95) (BindVal (Spelled x (Bytes 40 41)) zero)

-- unroll x
abbrev pub unrolled_x : Exp
unrolled_x = ExpAt (Bytes 104 112) (ExpUnroll (value_named x (Bytes 111 112)))

abbrev pub val_unrolled : Bind
val_unrolled = BindAt (Bytes 96 112) (BindVal (Spelled y (Bytes 100 101)) unrolled_x)

-- data t = case {none : {}, some : t}
-- val x = roll (inj none {} : case {none : {}, some : t}) : t
-- val y = unroll x
-- where data binds the type name to the recursive type
abbrev pub numbers : Binds
numbers = MoreBinds data_t (MoreBinds val_x (MoreBinds val_unrolled NoBinds))

-- N: (mu (sum (none (rec)) (some a0)))
abbrev pub N : Ty
N = Ty.Mu (option (Ty.Var 0))

-- (roll (inj none (rec) (sum (none (rec)) (some N))) N)
abbrev pub zero_term : Term
zero_term = Term.Roll (Term.Inj (Label.Name none) (Term.Fields TermRow.End) (option N)) N

-- (unroll (get x0 .val))
abbrev pub unrolled_term : Term
unrolled_term = Term.Unroll (Term.Get (Term.Var 0) Label.Val)

-- (rec (t x2) (x x1) (y x0))
abbrev pub all_three : Term
all_three =
    Term.Fields (TermRow.More (Label.Name t) (Term.Var 2) (TermRow.More (Label.Name x) (Term.Var 1) (TermRow.More (Label.Name y) (Term.Var 0) TermRow.End)))

-- the values bound after the type: to N, and to the sum with N in it
abbrev pub values_term : Term
values_term = bound N zero_term (bound (option N) unrolled_term all_three)

-- (call (fn T values_term) (rec (.typ ..))), T being what the type binding is of
abbrev pub numbers_term : Term
numbers_term = Term.Call (Term.Lam (enc (Sig.Typ N Kind.Star)) values_term) (type_term N Kind.Star)

-- (str (t (type N *)) (x (val N)) (y (val (sum (none (rec)) (some N))))): unrolled, the type is the sum with N in it
abbrev pub numbers_sig : Abs
numbers_sig =
    Abs.Ex [] (Sig.Str (SigRow.More t (Sig.Typ N Kind.Star) (SigRow.More x (Sig.Val N) (SigRow.More y (Sig.Val (option N)) SigRow.End))))

abbrev pub DataProgram : Type 0
DataProgram = ProgramMeans numbers (made Pure numbers_sig [] numbers_term) numbers_term × HasType [] [] numbers_term (enc_abs numbers_sig)
