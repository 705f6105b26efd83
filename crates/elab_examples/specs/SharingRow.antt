-- One functor that hides a type, applied twice. Generative, its applications have different types, and a value of the one
-- is no argument of the other's type; applicative, they share one type
-- (Rossberg, Russo, Dreyer, F-ing modules, sections 4 and 7).
use Rattle.std.specs.Prelude.{List, [], ◌∷◌, pos, Bool as Truth, true, false}
use Rattle.omega_kinds.specs.Kind.{Kind}
use Rattle.omega_kinds.specs.declared.effect.Effect.TheVariants.{Pure}
use Rattle.omega_kinds.specs.Name.{Name}
use Rattle.omega_types.specs.Ty.{Ty}
use Rattle.omega_terms.specs.Term.{Term}
use Rattle.omega_terms.specs.Typing.{HasType}
use Rattle.sig_definitions.specs.Signatures.Sig.{Sig, Abs, SigRow, made}
use Rattle.sig_definitions.specs.Signatures.Encoding.{enc_abs}
use Rattle.fing_syntax.specs.Phrase.{Bytes, Spelled, Mod, ModAt, ModName, ModStruct, ModProject, ModFunctor, ModApply, ModSeal, Bind, BindAt, BindVal, BindTy, BindModule, Binds, NoBinds, MoreBinds, SigEx, SigAt, SigDecls, DeclAt, DeclVal, DeclTyOf, NoDecls, MoreDecls, TyAt, TyInt, PathTy, Exp, ExpAt, ExpInt, ExpLam, ExpApply, PathExp, ArgExp, NoArgs, MoreArgs}
use Rattle.refusal_reasons.specs.Refusal.{Refuse, ElabWhy}
use Rattle.elab_judgments.specs.Judgments.Program.{ProgramMeans, ProgramRefused}
use Rattle.elab_examples.specs.Rows.{x, t, h0, h1}
use Rattle.elab_examples.specs.PackageRow.{A}
use Rattle.elab_examples.specs.FunctorRow.{F, P, X, h2}

abbrev pub Q : Name
Q = 81 ∷ []

abbrev pub v : Name
v = 118 ∷ []

abbrev pub z : Name
z = 122 ∷ []

-- struct type t = Int val v = 1 end
abbrev pub structure : Mod
structure = ModAt (Bytes 54 87) (ModStruct (MoreBinds (BindAt (Bytes 61 73) (BindTy (Spelled t (Bytes 66 67)) (TyAt (Bytes 70 73) TyInt))) (MoreBinds (BindAt (Bytes 74 83) (BindVal (Spelled v (Bytes 78 79)) (ExpAt (Bytes 82 83) (ExpInt (pos 1))))) NoBinds)))

-- sig type t val v : t end
abbrev pub signature : SigEx
signature = SigAt (Bytes 91 115) (SigDecls (MoreDecls (DeclAt (Bytes 95 101) (DeclTyOf (Spelled t (Bytes 100 101)) Kind.Star)) (MoreDecls (DeclAt (Bytes 102 111) (DeclVal (Spelled v (Bytes 106 107)) (TyAt (Bytes 110 111) (PathTy (ModAt (Bytes 110 111) (ModName (Spelled t (Bytes 110 111)))))))) NoDecls)))

-- structure :> signature, in its derived form
abbrev pub body : Mod
body = ModAt (Bytes 54 115) (ModProject (ModAt (Bytes 54 115) (ModStruct (MoreBinds (BindAt (Bytes 54 115) (BindModule (Spelled h1 (Bytes 54 115)) structure)) (MoreBinds (BindAt (Bytes 54 115) (BindModule (Spelled h0 (Bytes 54 115)) (ModAt (Bytes 54 115) (ModSeal (Spelled h1 (Bytes 54 87)) signature)))) NoBinds)))) (Spelled h0 (Bytes 54 115)))

-- gen (X : sig end) => body, or fun (X : sig end) => body
abbrev pub functor : (generative : Truth) → Mod
functor generative = ModAt (Bytes 33 115) (ModFunctor generative (Spelled X (Bytes 38 39)) (SigAt (Bytes 42 49) (SigDecls NoDecls)) body)

-- F A, twice, in its derived form
abbrev pub first : Mod
first = ModAt (Bytes 127 130) (ModProject (ModAt (Bytes 127 130) (ModStruct (MoreBinds (BindAt (Bytes 127 130) (BindModule (Spelled h1 (Bytes 127 130)) (ModAt (Bytes 127 128) (ModName (Spelled F (Bytes 127 128)))))) (MoreBinds (BindAt (Bytes 127 130) (BindModule (Spelled h2 (Bytes 127 130)) (ModAt (Bytes 129 130) (ModName (Spelled A (Bytes 129 130)))))) (MoreBinds (BindAt (Bytes 127 130) (BindModule (Spelled h0 (Bytes 127 130)) (ModAt (Bytes 127 130) (ModApply (Spelled h1 (Bytes 127 128)) (Spelled h2 (Bytes 129 130)))))) NoBinds))))) (Spelled h0 (Bytes 127 130)))

abbrev pub second : Mod
second = ModAt (Bytes 142 145) (ModProject (ModAt (Bytes 142 145) (ModStruct (MoreBinds (BindAt (Bytes 142 145) (BindModule (Spelled h1 (Bytes 142 145)) (ModAt (Bytes 142 143) (ModName (Spelled F (Bytes 142 143)))))) (MoreBinds (BindAt (Bytes 142 145) (BindModule (Spelled h2 (Bytes 142 145)) (ModAt (Bytes 144 145) (ModName (Spelled A (Bytes 144 145)))))) (MoreBinds (BindAt (Bytes 142 145) (BindModule (Spelled h0 (Bytes 142 145)) (ModAt (Bytes 142 145) (ModApply (Spelled h1 (Bytes 142 143)) (Spelled h2 (Bytes 144 145)))))) NoBinds))))) (Spelled h0 (Bytes 142 145)))

-- (fun (x : P.t) => x) and Q.v
abbrev pub identity : Exp
identity = ExpAt (Bytes 154 174) (ExpLam (Spelled x (Bytes 160 161)) (TyAt (Bytes 164 167) (PathTy (ModAt (Bytes 164 167) (ModProject (ModAt (Bytes 164 165) (ModName (Spelled P (Bytes 164 165)))) (Spelled t (Bytes 166 167)))))) (ExpAt (Bytes 172 173) (PathExp (ModAt (Bytes 172 173) (ModName (Spelled x (Bytes 172 173)))))))

abbrev pub argument : Exp
argument = ExpAt (Bytes 175 178) (PathExp (ModAt (Bytes 175 178) (ModProject (ModAt (Bytes 175 176) (ModName (Spelled Q (Bytes 175 176)))) (Spelled v (Bytes 177 178)))))

-- module A = struct end module F = gen (X : sig end) => body module P = F A module Q = F A val z = (fun (x : P.t) => x) Q.v,
-- where `fun` may stand for `gen`
abbrev pub empty_bind : Bind
empty_bind = BindAt (Bytes 0 21) (BindModule (Spelled A (Bytes 7 8)) (ModAt (Bytes 11 21) (ModStruct NoBinds)))

abbrev pub functor_bind : (generative : Truth) → Bind
functor_bind generative = BindAt (Bytes 22 115) (BindModule (Spelled F (Bytes 29 30)) (functor generative))

abbrev pub first_bind : Bind
first_bind = BindAt (Bytes 116 130) (BindModule (Spelled P (Bytes 123 124)) first)

abbrev pub second_bind : Bind
second_bind = BindAt (Bytes 131 145) (BindModule (Spelled Q (Bytes 138 139)) second)

abbrev pub value_bind : Bind
value_bind = BindAt (Bytes 146 178) (BindVal (Spelled z (Bytes 150 151)) (ExpAt (Bytes 154 178) (ExpApply identity (MoreArgs (ArgExp argument) NoArgs))))

abbrev pub twice : (generative : Truth) → Binds
twice generative = MoreBinds empty_bind (MoreBinds (functor_bind generative) (MoreBinds first_bind (MoreBinds second_bind (MoreBinds value_bind NoBinds))))

-- refused 175-178 Differ a1 a0
abbrev pub GenerativeRefused : Type 0
GenerativeRefused = ProgramRefused (twice true) (Refuse (Bytes 175 178) 2 (ElabWhy.Differ (Ty.Var 0) (Ty.Var 1)))

-- (str)
abbrev pub empty : Sig
empty = Sig.Str SigRow.End

-- (str (t (type T *)) (v (val T)))
abbrev pub pair_of : Ty → Sig
pair_of a = Sig.Str (SigRow.More t (Sig.Typ a Kind.Star) (SigRow.More v (Sig.Val a) SigRow.End))

-- (fun app () (str) (ex () (str (t (type T *)) (v (val T)))))
abbrev pub shared_functor : Ty → Sig
shared_functor a = Sig.Fun Pure [] empty (Abs.Ex [] (pair_of a))

-- (ex (*) (str (A (str)) (F ..) (P (str (t (type a0 *)) (v (val a0)))) (Q (str (t (type a0 *)) (v (val a0)))) (z (val a0))))
abbrev pub shared_sig : Abs
shared_sig = Abs.Ex (Kind.Star ∷ []) (Sig.Str (SigRow.More A empty (SigRow.More F (shared_functor (Ty.Var 0)) (SigRow.More P (pair_of (Ty.Var 0)) (SigRow.More Q (pair_of (Ty.Var 0)) (SigRow.More z (Sig.Val (Ty.Var 0)) SigRow.End))))))

-- pure, with that signature, and a whole term of its encoding
abbrev pub ApplicativeShares : Type 0
ApplicativeShares = (ts : List Ty) × (e whole : Term) × ProgramMeans (twice false) (made Pure shared_sig ts e) whole × HasType [] [] whole (enc_abs shared_sig)
