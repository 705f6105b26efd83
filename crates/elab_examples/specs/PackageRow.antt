-- A program with a package: its quantifiers are in their order, whatever the order of declaration.
use Rattle.std.specs.Prelude.{ℕ, List, [], ◌∷◌, pos}
use Rattle.omega_kinds.specs.Kind.{Kind}
use Rattle.omega_kinds.specs.declared.label.Label.{Label}
use Rattle.omega_kinds.specs.declared.effect.Effect.TheVariants.{Impure}
use Rattle.omega_kinds.specs.Name.{Name}
use Rattle.omega_types.specs.Ty.{Ty}
use Rattle.omega_terms.specs.Term.{Term, TermRow}
use Rattle.omega_terms.specs.Typing.{HasType}
use Rattle.omega_terms.specs.Shorthands.{let_in}
use Rattle.omega_terms.specs.PartTerms.{value_term, type_term}
use Rattle.omega_terms.specs.Coercions.{same_part, fields_part}
use Rattle.sig_definitions.specs.Signatures.Sig.{Sig, Abs, SigRow, made}
use Rattle.sig_definitions.specs.Signatures.Encoding.{enc, enc_abs}
use Rattle.fing_syntax.specs.Phrase.{Span, Bytes, SpanName, Spelled, Mod, ModAt, ModStruct, ModProject, ModName, ModUnpack, Bind, BindAt, BindVal, BindTy, BindModule, Binds, NoBinds, MoreBinds, SigEx, SigAt, SigDecls, Decl, DeclAt, DeclVal, DeclTyOf, NoDecls, MoreDecls, TyAt, TyInt, TyBool, PathTy, Exp, ExpAt, ExpInt, PathExp, ExpPack}
use Rattle.elab_judgments.specs.Judgments.Program.{ProgramMeans}
use Rattle.elab_examples.specs.Rows.{t, x, h0, h1}

abbrev pub u : Name
u = 117 ∷ []

abbrev pub p : Name
p = 112 ∷ []

abbrev pub A : Name
A = 65 ∷ []

abbrev pub B : Name
B = 66 ∷ []

-- a place that is of no account in other rows
abbrev pub o : Span
o = Bytes 0 0

abbrev pub n : Name → SpanName
n l = Spelled l o

abbrev pub named : Name → Mod
named l = ModAt o (ModName (n l))

abbrev pub type_decl : Name → Decl
type_decl l = DeclAt o (DeclTyOf (n l) Kind.Star)

-- sig type t type u val x : t end
abbrev pub t_first : SigEx
t_first = SigAt (Bytes 76 107) (SigDecls (MoreDecls (DeclAt (Bytes 80 86) (DeclTyOf (Spelled t (Bytes 85 86)) Kind.Star)) (MoreDecls (DeclAt (Bytes 87 93) (DeclTyOf (Spelled u (Bytes 92 93)) Kind.Star)) (MoreDecls (DeclAt (Bytes 94 103) (DeclVal (Spelled x (Bytes 98 99)) (TyAt (Bytes 102 103) (PathTy (ModAt (Bytes 102 103) (ModName (Spelled t (Bytes 102 103)))))))) NoDecls))))

-- sig type u type t val x : t end
abbrev pub u_first : SigEx
u_first = SigAt (Bytes 130 161) (SigDecls (MoreDecls (DeclAt (Bytes 134 140) (DeclTyOf (Spelled u (Bytes 139 140)) Kind.Star)) (MoreDecls (DeclAt (Bytes 141 147) (DeclTyOf (Spelled t (Bytes 146 147)) Kind.Star)) (MoreDecls (DeclAt (Bytes 148 157) (DeclVal (Spelled x (Bytes 152 153)) (TyAt (Bytes 156 157) (PathTy (ModAt (Bytes 156 157) (ModName (Spelled t (Bytes 156 157)))))))) NoDecls))))

-- struct type t = Int type u = Bool val x = 1 end
abbrev pub given : Mod
given = ModAt (Bytes 11 58) (ModStruct (MoreBinds (BindAt (Bytes 18 30) (BindTy (Spelled t (Bytes 23 24)) (TyAt (Bytes 27 30) TyInt))) (MoreBinds (BindAt (Bytes 31 44) (BindTy (Spelled u (Bytes 36 37)) (TyAt (Bytes 40 44) TyBool))) (MoreBinds (BindAt (Bytes 45 54) (BindVal (Spelled x (Bytes 49 50)) (ExpAt (Bytes 53 54) (ExpInt (pos 1))))) NoBinds))))

-- pack A : sig type t type u val x : t end, in its derived form
abbrev pub package_ : Exp
package_ = ExpAt (Bytes 67 107) (PathExp (ModAt (Bytes 67 107) (ModProject (ModAt (Bytes 67 107) (ModStruct (MoreBinds (BindAt (Bytes 67 107) (BindModule (Spelled h1 (Bytes 67 107)) (ModAt (Bytes 72 73) (ModName (Spelled A (Bytes 72 73)))))) (MoreBinds (BindAt (Bytes 67 107) (BindVal (Spelled h0 (Bytes 67 107)) (ExpAt (Bytes 67 107) (ExpPack (Spelled h1 (Bytes 72 73)) t_first)))) NoBinds)))) (Spelled h0 (Bytes 67 107)))))

-- unpack p : sig type u type t val x : t end
abbrev pub unpacked : Mod
unpacked = ModAt (Bytes 119 161) (ModUnpack (ExpAt (Bytes 126 127) (PathExp (ModAt (Bytes 126 127) (ModName (Spelled p (Bytes 126 127)))))) u_first)

abbrev pub unpacked_bind : Bind
unpacked_bind = BindAt (Bytes 108 161) (BindModule (Spelled B (Bytes 115 116)) unpacked)

-- module A = .. val p = pack A : .. module B = unpack p : ..
abbrev pub packages : Binds
packages = MoreBinds (BindAt (Bytes 0 58) (BindModule (Spelled A (Bytes 7 8)) given)) (MoreBinds (BindAt (Bytes 59 107) (BindVal (Spelled p (Bytes 63 64)) package_)) (MoreBinds unpacked_bind NoBinds))

abbrev pub two : List Kind
two = Kind.Star ∷ Kind.Star ∷ []

-- (str (t (type a0 *)) (u (type a1 *)) (x (val a0)))
abbrev pub hiding : Sig
hiding = Sig.Str (SigRow.More t (Sig.Typ (Ty.Var 1) Kind.Star) (SigRow.More u (Sig.Typ (Ty.Var 0) Kind.Star) (SigRow.More x (Sig.Val (Ty.Var 1)) SigRow.End)))

-- (str (t (type int *)) (u (type bool *)) (x (val int)))
abbrev pub showing : Sig
showing = Sig.Str (SigRow.More t (Sig.Typ Ty.Int Kind.Star) (SigRow.More u (Sig.Typ Ty.Bool Kind.Star) (SigRow.More x (Sig.Val Ty.Int) SigRow.End)))

abbrev pub three_vars : (a b c : ℕ) → Term
three_vars a b c = Term.Fields (TermRow.More (Label.Name t) (Term.Var a) (TermRow.More (Label.Name u) (Term.Var b) (TermRow.More (Label.Name x) (Term.Var c) TermRow.End)))

-- lets for t, u and x, and then the record of them
abbrev pub given_term : Term
given_term = let_in (enc (Sig.Typ Ty.Int Kind.Star)) (type_term Ty.Int Kind.Star) (let_in (enc (Sig.Typ Ty.Bool Kind.Star)) (type_term Ty.Bool Kind.Star) (let_in (enc (Sig.Val Ty.Int)) (value_term (Term.Int (pos 1))) (three_vars 2 1 0)))

-- t, u and x coerced by identities
abbrev pub coercion : Term
coercion = fields_part (enc showing) (TermRow.More (Label.Name t) (same_part (enc (Sig.Typ Ty.Int Kind.Star))) (TermRow.More (Label.Name u) (same_part (enc (Sig.Typ Ty.Bool Kind.Star))) (TermRow.More (Label.Name x) (same_part (enc (Sig.Val Ty.Int))) TermRow.End)))

abbrev pub package_type : Ty
package_type = enc_abs (Abs.Ex two hiding)

-- (pack int (pack bool (call coercion x) ..) ..), x being the innermost term variable
abbrev pub packed_term : Term
packed_term = Term.Pack Ty.Int (Term.Pack Ty.Bool (Term.Call coercion (Term.Var 0)) (enc_abs (Abs.Ex (Kind.Star ∷ []) (Sig.Str (SigRow.More t (Sig.Typ Ty.Int Kind.Star) (SigRow.More u (Sig.Typ (Ty.Var 0) Kind.Star) (SigRow.More x (Sig.Val Ty.Int) SigRow.End))))))) package_type

abbrev pub pair_term : Term
pair_term = Term.Fields (TermRow.More (Label.Name h0) (Term.Var 0) (TermRow.More (Label.Name h1) (Term.Var 1) TermRow.End))

-- the value of %0 of the record of %1 and %0
abbrev pub package_term : Term
package_term = Term.Get (Term.Get (let_in (enc showing) (Term.Var 0) (let_in (enc (Sig.Val package_type)) (value_term packed_term) pair_term)) (Label.Name h0)) Label.Val

-- (ex (* *) (str (A showing) (B hiding) (p (val package_type))))
abbrev pub packages_sig : Abs
packages_sig = Abs.Ex two (Sig.Str (SigRow.More A showing (SigRow.More B hiding (SigRow.More p (Sig.Val package_type) SigRow.End))))

-- the type of the whole structure at types for a0 and a1
abbrev pub whole_type : Ty → Ty → Ty
whole_type a b = enc (Sig.Str (SigRow.More A showing (SigRow.More B (Sig.Str (SigRow.More t (Sig.Typ a Kind.Star) (SigRow.More u (Sig.Typ b Kind.Star) (SigRow.More x (Sig.Val a) SigRow.End)))) (SigRow.More p (Sig.Val package_type) SigRow.End))))

-- the record of A, B and p under the two variables that opening p brings: B is the inner one
abbrev pub record_term : Term
record_term = Term.Fields (TermRow.More (Label.Name A) (Term.Var 3) (TermRow.More (Label.Name B) (Term.Var 0) (TermRow.More (Label.Name p) (Term.Var 2) TermRow.End)))

abbrev pub repacked_term : Term
repacked_term = Term.Pack (Ty.Var 1) (Term.Pack (Ty.Var 0) record_term (Ty.Ex Kind.Star (whole_type (Ty.Var 2) (Ty.Var 0)))) (enc_abs packages_sig)

-- p opened twice, and its types packed again
abbrev pub unpacked_term : Term
unpacked_term = Term.Unpack (Term.Get (Term.Var 0) Label.Val) (Term.Unpack (Term.Var 0) repacked_term)

abbrev pub packages_term : Term
packages_term = let_in (enc showing) given_term (let_in (enc (Sig.Val package_type)) (value_term package_term) unpacked_term)

-- impure, with that signature, and that term, which has the signature's encoding as its type
abbrev pub PackagesProgram : Type 0
PackagesProgram = ProgramMeans packages (made Impure packages_sig [] packages_term) packages_term × HasType [] [] packages_term (enc_abs packages_sig)
