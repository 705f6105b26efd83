-- Small programs and what they mean, or how they are refused.
use Rattle.std.specs.Prelude.{[], ◌∷◌, pos, true}
use Rattle.omega_kinds.specs.Kind.{Kind}
use Rattle.omega_kinds.specs.declared.label.Label.{Label}
use Rattle.omega_kinds.specs.declared.effect.Effect.TheVariants.{Pure}
use Rattle.omega_kinds.specs.Name.{Name}
use Rattle.omega_types.specs.Ty.{Ty, Row}
use Rattle.omega_terms.specs.declared.op.Op.{Op as TermOp}
use Rattle.omega_terms.specs.Term.{Term, TermRow}
use Rattle.omega_terms.specs.Typing.{HasType}
use Rattle.sig_definitions.specs.Signatures.Sig.{Sig, Abs, SigRow, made}
use Rattle.sig_definitions.specs.Explicit.SigPath.{Item}
use Rattle.fing_syntax.specs.Phrase.{Bytes, Spelled, Mod, ModAt, ModStruct, ModProject, ModName, ModSeal, BindAt, BindVal, BindTy, BindModule, Binds, NoBinds, MoreBinds, SigEx, SigAt, SigDecls, DeclAt, DeclVal, DeclTyOf, NoDecls, MoreDecls, TyAt, TyInt, PathTy, ExpAt, ExpInt, ExpBool, ExpOps, PathExp, Op, NoOps, MoreOps}
use Rattle.sig_definitions.specs.Matching.MatchRefusal.{Why}
use Rattle.refusal_reasons.specs.Refusal.{Refuse, ElabWhy}
use Rattle.elab_judgments.specs.Judgments.Program.{ProgramMeans, ProgramRefused}

-- The empty program, of type (rec).
abbrev pub EmptyProgram : Type 0
EmptyProgram = ProgramMeans NoBinds (made Pure (Abs.Ex [] (Sig.Str SigRow.End)) [] (Term.Fields TermRow.End)) (Term.Fields TermRow.End) × HasType [] [] (Term.Fields TermRow.End) (Ty.Fields Row.End)

-- names: x, t, y, M, and the hidden %0 and %1
abbrev pub x : Name
x = 120 ∷ []

abbrev pub t : Name
t = 116 ∷ []

abbrev pub y : Name
y = 121 ∷ []

abbrev pub M : Name
M = 77 ∷ []

abbrev pub h0 : Name
h0 = 37 ∷ 48 ∷ []

abbrev pub h1 : Name
h1 = 37 ∷ 49 ∷ []

abbrev pub int_part : Ty
int_part = Ty.Fields (Row.More Label.Val Ty.Int Row.End)

abbrev pub one_term : Name → Term → Term
one_term l e = Term.Fields (TermRow.More (Label.Name l) e TermRow.End)

abbrev pub val_term : Term → Term
val_term e = Term.Fields (TermRow.More Label.Val e TermRow.End)

-- val x = 1 + 2
abbrev pub sum : Binds
sum = MoreBinds (BindAt (Bytes 0 13) (BindVal (Spelled x (Bytes 4 5)) (ExpAt (Bytes 8 13) (ExpOps (ExpAt (Bytes 8 9) (ExpInt (pos 1))) (MoreOps Op.Add (ExpAt (Bytes 12 13) (ExpInt (pos 2))) NoOps))))) NoBinds

-- (call (fn (rec (.val int)) (rec (x x0))) (rec (.val (+ 1 2))))
abbrev pub sum_term : Term
sum_term = Term.Call (Term.Lam int_part (one_term x (Term.Var 0))) (val_term (Term.Arith TermOp.Add (Term.Int (pos 1)) (Term.Int (pos 2))))

-- of type (rec (x (rec (.val int))))
abbrev pub SumProgram : Type 0
SumProgram = ProgramMeans sum (made Pure (Abs.Ex [] (Sig.Str (SigRow.More x (Sig.Val Ty.Int) SigRow.End))) [] sum_term) sum_term × HasType [] [] sum_term (Ty.Fields (Row.More (Label.Name x) int_part Row.End))

-- struct type t = Int val x = 5 end
abbrev pub structure : Mod
structure = (ModAt (Bytes 11 44) (ModStruct (MoreBinds (BindAt (Bytes 18 30) (BindTy (Spelled t (Bytes 23 24)) (TyAt (Bytes 27 30) TyInt))) (MoreBinds (BindAt (Bytes 31 40) (BindVal (Spelled x (Bytes 35 36)) (ExpAt (Bytes 39 40) (ExpInt (pos 5))))) NoBinds))))

-- sig type t val x : t end
abbrev pub signature : SigEx
signature = (SigAt (Bytes 48 72) (SigDecls (MoreDecls (DeclAt (Bytes 52 58) (DeclTyOf (Spelled t (Bytes 57 58)) Kind.Star)) (MoreDecls (DeclAt (Bytes 59 68) (DeclVal (Spelled x (Bytes 63 64)) (TyAt (Bytes 67 68) (PathTy (ModAt (Bytes 67 68) (ModName (Spelled t (Bytes 67 68)))))))) NoDecls))))

-- the sealing of one by the other, in its derived form
abbrev pub sealed : Mod
sealed = (ModAt (Bytes 11 72) (ModProject (ModAt (Bytes 11 72) (ModStruct (MoreBinds (BindAt (Bytes 11 72) (BindModule (Spelled h1 (Bytes 11 72)) structure)) (MoreBinds (BindAt (Bytes 11 72) (BindModule (Spelled h0 (Bytes 11 72)) (ModAt (Bytes 11 72) (ModSeal (Spelled h1 (Bytes 11 44)) signature)))) NoBinds)))) (Spelled h0 (Bytes 11 72))))

-- module M = struct type t = Int val x = 5 end :> sig type t val x : t end
abbrev pub sealing : Binds
sealing = MoreBinds (BindAt (Bytes 0 72) (BindModule (Spelled M (Bytes 7 8)) sealed)) NoBinds

-- (rec (.typ (all (> * *) (-> (@ a0 int) (@ a0 int)))))
abbrev pub T : Ty
T = Ty.Fields (Row.More Label.Typ (Ty.All (Kind.Arrow Kind.Star Kind.Star) (Ty.Arrow (Ty.Apply (Ty.Var 0) Ty.Int) (Ty.Apply (Ty.Var 0) Ty.Int))) Row.End)

-- (rec (t T) (x (rec (.val int))))
abbrev pub R : Ty
R = Ty.Fields (Row.More (Label.Name t) T (Row.More (Label.Name x) int_part Row.End))

-- (rec (t (rec (.typ (all (> * *) (-> (@ a1 a0) (@ a1 a0)))))) (x (rec (.val a0)))), a0 being the hidden type
abbrev pub H : Ty
H = Ty.Fields (Row.More (Label.Name t) (Ty.Fields (Row.More Label.Typ (Ty.All (Kind.Arrow Kind.Star Kind.Star) (Ty.Arrow (Ty.Apply (Ty.Var 0) (Ty.Var 1)) (Ty.Apply (Ty.Var 0) (Ty.Var 1)))) Row.End)) (Row.More (Label.Name x) (Ty.Fields (Row.More Label.Val (Ty.Var 0) Row.End)) Row.End))

-- (some * (rec (M H)))
abbrev pub W : Ty
W = Ty.Ex Kind.Star (Ty.Fields (Row.More (Label.Name M) H Row.End))

abbrev pub two_terms : Name → Term → Name → Term → Term
two_terms l e m d = Term.Fields (TermRow.More (Label.Name l) e (TermRow.More (Label.Name m) d TermRow.End))

-- (call (fn T (call (fn V (rec (t x0) (x x1))) (rec (.val 5)))) (rec (.typ (tfn (> * *) (fn (@ a0 int) x0)))))
abbrev pub structure_term : Term
structure_term = Term.Call (Term.Lam T (Term.Call (Term.Lam int_part (two_terms t (Term.Var 1) x (Term.Var 0))) (val_term (Term.Int (pos 5))))) (Term.Fields (TermRow.More Label.Typ (Term.TyLam (Kind.Arrow Kind.Star Kind.Star) (Term.Lam (Ty.Apply (Ty.Var 0) Ty.Int) (Term.Var 0))) TermRow.End))

-- (fn R (rec (t (call (fn T x2) (get x1 t))) (x (call (fn V x2) (get x1 x))))), under one term variable
abbrev pub coercion : Term
coercion = Term.Lam R (two_terms t (Term.Call (Term.Lam T (Term.Var 0)) (Term.Get (Term.Var 0) (Label.Name t))) x (Term.Call (Term.Lam int_part (Term.Var 0)) (Term.Get (Term.Var 0) (Label.Name x))))

-- (get (call (fn R (call (fn R (rec (%0 x1) (%1 x0))) (call coercion x0))) structure_term) %0)
abbrev pub sealed_term : Term
sealed_term = Term.Get (Term.Call (Term.Lam R (Term.Call (Term.Lam R (two_terms h0 (Term.Var 0) h1 (Term.Var 1))) (Term.Call coercion (Term.Var 0)))) structure_term) (Label.Name h0)

-- (call (fn R (rec (M x0))) sealed_term)
abbrev pub sealing_term : Term
sealing_term = Term.Call (Term.Lam R (one_term M (Term.Var 0))) sealed_term

-- (str (t (type a0 *)) (x (val a0)))
abbrev pub hidden_sig : Sig
hidden_sig = Sig.Str (SigRow.More t (Sig.Typ (Ty.Var 0) Kind.Star) (SigRow.More x (Sig.Val (Ty.Var 0)) SigRow.End))

-- pure, (ex (*) (str (M (str (t (type a0 *)) (x (val a0)))))), the witness int, and (pack int sealing_term W), which has the type W
abbrev pub SealingProgram : Type 0
SealingProgram = ProgramMeans sealing (made Pure (Abs.Ex (Kind.Star ∷ []) (Sig.Str (SigRow.More M hidden_sig SigRow.End))) (Ty.Int ∷ []) sealing_term) (Term.Pack Ty.Int sealing_term W) × HasType [] [] (Term.Pack Ty.Int sealing_term W) W

-- the same and then val y = M.x + 1
abbrev pub hidden_sum : Binds
hidden_sum = MoreBinds (BindAt (Bytes 0 72) (BindModule (Spelled M (Bytes 7 8)) sealed)) (MoreBinds (BindAt (Bytes 73 88) (BindVal (Spelled y (Bytes 77 78)) (ExpAt (Bytes 81 88) (ExpOps (ExpAt (Bytes 81 84) (PathExp (ModAt (Bytes 81 84) (ModProject (ModAt (Bytes 81 82) (ModName (Spelled M (Bytes 81 82)))) (Spelled x (Bytes 83 84)))))) (MoreOps Op.Add (ExpAt (Bytes 87 88) (ExpInt (pos 1))) NoOps))))) NoBinds)

-- refused 81-84 Differ a0 int
abbrev pub HiddenSumRefused : Type 0
HiddenSumRefused = ProgramRefused hidden_sum (Refuse (Bytes 81 84) 1 (ElabWhy.Differ (Ty.Var 0) Ty.Int))

-- module M = struct end :> sig type t end
abbrev pub unmatched : Binds
unmatched = MoreBinds (BindAt (Bytes 0 39) (BindModule (Spelled M (Bytes 7 8)) (ModAt (Bytes 11 39) (ModProject (ModAt (Bytes 11 39) (ModStruct (MoreBinds (BindAt (Bytes 11 39) (BindModule (Spelled h1 (Bytes 11 39)) (ModAt (Bytes 11 21) (ModStruct NoBinds)))) (MoreBinds (BindAt (Bytes 11 39) (BindModule (Spelled h0 (Bytes 11 39)) (ModAt (Bytes 11 39) (ModSeal (Spelled h1 (Bytes 11 21)) (SigAt (Bytes 25 39) (SigDecls (MoreDecls (DeclAt (Bytes 29 35) (DeclTyOf (Spelled t (Bytes 34 35)) Kind.Star)) NoDecls))))))) NoBinds)))) (Spelled h0 (Bytes 11 39)))))) NoBinds

-- refused 25-39 NoRoot 0 t
abbrev pub UnmatchedRefused : Type 0
UnmatchedRefused = ProgramRefused unmatched (Refuse (Bytes 25 39) 0 (ElabWhy.NoRoot 0 (Item.Part t ∷ [])))

-- module M = struct end :> sig val x : Int end
abbrev pub missing : Binds
missing = MoreBinds (BindAt (Bytes 0 44) (BindModule (Spelled M (Bytes 7 8)) (ModAt (Bytes 11 44) (ModProject (ModAt (Bytes 11 44) (ModStruct (MoreBinds (BindAt (Bytes 11 44) (BindModule (Spelled h1 (Bytes 11 44)) (ModAt (Bytes 11 21) (ModStruct NoBinds)))) (MoreBinds (BindAt (Bytes 11 44) (BindModule (Spelled h0 (Bytes 11 44)) (ModAt (Bytes 11 44) (ModSeal (Spelled h1 (Bytes 11 21)) (SigAt (Bytes 25 44) (SigDecls (MoreDecls (DeclAt (Bytes 29 40) (DeclVal (Spelled x (Bytes 33 34)) (TyAt (Bytes 37 40) TyInt))) NoDecls))))))) NoBinds)))) (Spelled h0 (Bytes 11 44)))))) NoBinds

-- refused 25-44 Clash x Missing
abbrev pub MissingRefused : Type 0
MissingRefused = ProgramRefused missing (Refuse (Bytes 25 44) 0 (ElabWhy.Clash (Item.Part x ∷ []) Why.Missing))

-- module M = struct val x = true end :> sig val x : Int end
abbrev pub other_type : Binds
other_type = MoreBinds (BindAt (Bytes 0 57) (BindModule (Spelled M (Bytes 7 8)) (ModAt (Bytes 11 57) (ModProject (ModAt (Bytes 11 57) (ModStruct (MoreBinds (BindAt (Bytes 11 57) (BindModule (Spelled h1 (Bytes 11 57)) (ModAt (Bytes 11 34) (ModStruct (MoreBinds (BindAt (Bytes 18 30) (BindVal (Spelled x (Bytes 22 23)) (ExpAt (Bytes 26 30) (ExpBool true)))) NoBinds))))) (MoreBinds (BindAt (Bytes 11 57) (BindModule (Spelled h0 (Bytes 11 57)) (ModAt (Bytes 11 57) (ModSeal (Spelled h1 (Bytes 11 34)) (SigAt (Bytes 38 57) (SigDecls (MoreDecls (DeclAt (Bytes 42 53) (DeclVal (Spelled x (Bytes 46 47)) (TyAt (Bytes 50 53) TyInt))) NoDecls))))))) NoBinds)))) (Spelled h0 (Bytes 11 57)))))) NoBinds

-- refused 38-57 Clash x Types bool int
abbrev pub OtherTypeRefused : Type 0
OtherTypeRefused = ProgramRefused other_type (Refuse (Bytes 38 57) 0 (ElabWhy.Clash (Item.Part x ∷ []) (Why.Types Ty.Bool Ty.Int)))
