-- A structure that includes an unpacked module, and signatures with one hidden type fixed.
use Rattle.std.specs.Prelude.{[], ◌∷◌}
use Rattle.omega_kinds.specs.Kind.{Kind}
use Rattle.omega_kinds.specs.declared.effect.Effect.TheVariants.{Impure}
use Rattle.omega_types.specs.Ty.{Ty}
use Rattle.omega_terms.specs.Term.{Term}
use Rattle.omega_terms.specs.Typing.{HasType}
use Rattle.sig_definitions.specs.Signatures.Sig.{Sig, Abs, SigRow, made}
use Rattle.sig_definitions.specs.Signatures.Encoding.{enc, enc_abs}
use Rattle.sig_definitions.specs.Env.{Env, Entry}
use Rattle.fing_syntax.specs.Phrase.{Mod, ModAt, ModStruct, ModProject, ModUnpack, BindAt, BindTy, BindInclude, NoBinds, MoreBinds, TyAt, PathTy, ExpAt, PathExp}
use Rattle.elab_judgments.specs.Judgments.Meaning.{ModMeans}
use Rattle.sig_judgments.specs.Refinement.{Refined}
use Rattle.elab_examples.specs.Rows.{t, x}
use Rattle.elab_examples.specs.PackageRow.{u, p, A, o, n, named, two, t_first, hiding, package_type}

-- struct include unpack p : sig type t type u val x : t end type A = t end
abbrev pub including : Mod
including = ModAt o (ModStruct (MoreBinds (BindAt o (BindInclude (ModAt o (ModUnpack (ExpAt o (PathExp (named p))) t_first)))) (MoreBinds (BindAt o (BindTy (n A) (TyAt o (PathTy (named t))))) NoBinds)))

abbrev pub with_p : Env
with_p = Entry.Named p (Sig.Val package_type) ∷ []

-- (ex (* *) (str (A (type a0 *)) (t (type a0 *)) (u (type a1 *)) (x (val a0))))
abbrev pub including_sig : Abs
including_sig = Abs.Ex two (Sig.Str (SigRow.More A (Sig.Typ (Ty.Var 1) Kind.Star) (SigRow.More t (Sig.Typ (Ty.Var 1) Kind.Star) (SigRow.More u (Sig.Typ (Ty.Var 0) Kind.Star) (SigRow.More x (Sig.Val (Ty.Var 1)) SigRow.End)))))

-- impure, with that signature and a term of its encoding
abbrev pub IncludeMeans : Type 0
IncludeMeans = (e : Term) × ModMeans with_p including (made Impure including_sig [] e) × HasType [] (enc (Sig.Val package_type) ∷ []) e (enc_abs including_sig)

-- sig type t type u val x : t end where type t = Int
abbrev pub FixingT : Type 0
FixingT = Refined [] (Abs.Ex two hiding) (t ∷ []) Ty.Int Kind.Star (Abs.Ex (Kind.Star ∷ []) (Sig.Str (SigRow.More t (Sig.Typ Ty.Int Kind.Star) (SigRow.More u (Sig.Typ (Ty.Var 0) Kind.Star) (SigRow.More x (Sig.Val Ty.Int) SigRow.End)))))

-- the same where type u = a, under a type variable a
abbrev pub FixingU : Type 0
FixingU = Refined (Kind.Star ∷ []) (Abs.Ex two hiding) (u ∷ []) (Ty.Var 0) Kind.Star (Abs.Ex (Kind.Star ∷ []) (Sig.Str (SigRow.More t (Sig.Typ (Ty.Var 0) Kind.Star) (SigRow.More u (Sig.Typ (Ty.Var 1) Kind.Star) (SigRow.More x (Sig.Val (Ty.Var 0)) SigRow.End)))))

-- (unpack p : sig type t type u val x : t end).x, an impure module with two hidden types
abbrev pub x_of_p : Mod
x_of_p = ModAt o (ModProject (ModAt o (ModUnpack (ExpAt o (PathExp (named p))) t_first)) (n x))

abbrev pub ProjectMeans : Type 0
ProjectMeans = (e : Term) × ModMeans with_p x_of_p (made Impure (Abs.Ex two (Sig.Val (Ty.Var 1))) [] e) × HasType [] (enc (Sig.Val package_type) ∷ []) e (enc_abs (Abs.Ex two (Sig.Val (Ty.Var 1))))
