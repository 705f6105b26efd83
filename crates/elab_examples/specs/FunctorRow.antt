-- A program with an applicative functor: its hidden type is lifted over its parameter.
use Rattle.std.specs.Prelude.{[], ◌∷◌, false, true}
use Rattle.omega_kinds.specs.Kind.{Kind}
use Rattle.omega_kinds.specs.declared.label.Label.{Label}
use Rattle.omega_kinds.specs.declared.effect.Effect.TheVariants.{Pure, Impure}
use Rattle.omega_kinds.specs.Name.{Name}
use Rattle.omega_types.specs.Ty.{Ty}
use Rattle.omega_terms.specs.Term.{Term, TermRow}
use Rattle.omega_terms.specs.Typing.{HasType}
use Rattle.omega_terms.specs.Shorthands.{let_in}
use Rattle.omega_terms.specs.PartTerms.{one_field, type_term}
use Rattle.omega_terms.specs.Coercions.{same_part, fields_part}
use Rattle.sig_definitions.specs.Signatures.Sig.{Sig, Abs, SigRow, made}
use Rattle.sig_definitions.specs.Signatures.Encoding.{enc, enc_abs}
use Rattle.fing_syntax.specs.Phrase.{Mod, ModAt, ModStruct, ModProject, ModFunctor, ModApply, ModSeal, BindAt, BindTy, BindModule, Binds, NoBinds, MoreBinds, SigEx, SigAt, SigDecls, NoDecls, MoreDecls, TyAt, TyInt, PathTy}
use Rattle.sig_definitions.specs.Env.{Entry}
use Rattle.elab_judgments.specs.Judgments.Meaning.{ModMeans}
use Rattle.elab_judgments.specs.Judgments.Program.{ProgramMeans}
use Rattle.elab_examples.specs.Rows.{t, h0, h1}
use Rattle.elab_examples.specs.PackageRow.{u, A, o, n, named, type_decl}

abbrev pub F : Name
F = 70 ∷ []

abbrev pub P : Name
P = 80 ∷ []

abbrev pub X : Name
X = 88 ∷ []

abbrev pub h2 : Name
h2 = 37 ∷ 50 ∷ []

-- sig type u end
abbrev pub param : SigEx
param = SigAt o (SigDecls (MoreDecls (type_decl u) NoDecls))

-- sig type t end
abbrev pub target : SigEx
target = SigAt o (SigDecls (MoreDecls (type_decl t) NoDecls))

-- struct type t = X.u end
abbrev pub inner : Mod
inner = ModAt o (ModStruct (MoreBinds (BindAt o (BindTy (n t) (TyAt o (PathTy (ModAt o (ModProject (named X) (n u))))))) NoBinds))

-- struct type t = X.u end :> sig type t end, in its derived form
abbrev pub body : Mod
body = ModAt o (ModProject (ModAt o (ModStruct (MoreBinds (BindAt o (BindModule (n h1) inner)) (MoreBinds (BindAt o (BindModule (n h0) (ModAt o (ModSeal (n h1) target)))) NoBinds)))) (n h0))

-- fun (X : sig type u end) => body
abbrev pub functor : Mod
functor = ModAt o (ModFunctor false (n X) param body)

-- F A, in its derived form
abbrev pub application : Mod
application = ModAt o (ModProject (ModAt o (ModStruct (MoreBinds (BindAt o (BindModule (n h1) (named F))) (MoreBinds (BindAt o (BindModule (n h2) (named A))) (MoreBinds (BindAt o (BindModule (n h0) (ModAt o (ModApply (n h1) (n h2))))) NoBinds))))) (n h0))

-- struct type u = Int end
abbrev pub int_struct : Mod
int_struct = ModAt o (ModStruct (MoreBinds (BindAt o (BindTy (n u) (TyAt o TyInt))) NoBinds))

-- module A = struct type u = Int end module F = fun (X : ..) => .. module P = F A
abbrev pub applicative : Binds
applicative = MoreBinds (BindAt o (BindModule (n A) int_struct)) (MoreBinds (BindAt o (BindModule (n F) functor)) (MoreBinds (BindAt o (BindModule (n P) application)) NoBinds))

-- (str (X (type T *)))
abbrev pub one_type : Name → Ty → Sig
one_type l a = Sig.Str (SigRow.More l (Sig.Typ a Kind.Star) SigRow.End)

-- (fun app (*) (str (u (type a1 *))) (ex () (str (t (type (@ a0 a1) *))))), a0 being the lifted type
abbrev pub functor_sig : Sig
functor_sig = Sig.Fun Pure (Kind.Star ∷ []) (one_type u (Ty.Var 0)) (Abs.Ex [] (one_type t (Ty.Apply (Ty.Var 1) (Ty.Var 0))))

abbrev pub operator : Kind
operator = Kind.Arrow Kind.Star Kind.Star

-- (ex ((> * *)) (str (A (str (u (type int *)))) (F functor_sig) (P (str (t (type (@ a0 int) *))))))
abbrev pub applicative_sig : Abs
applicative_sig = Abs.Ex (operator ∷ []) (Sig.Str (SigRow.More A (one_type u Ty.Int) (SigRow.More F functor_sig (SigRow.More P (one_type t (Ty.Apply (Ty.Var 0) Ty.Int)) SigRow.End))))

abbrev pub one_term : Name → Term → Term
one_term l e = Term.Fields (TermRow.More (Label.Name l) e TermRow.End)

-- the term of a structure of one type
abbrev pub one_type_term : Name → Ty → Term
one_type_term l a = let_in (enc (Sig.Typ a Kind.Star)) (type_term a Kind.Star) (one_term l (Term.Var 0))

-- the coercion of such a structure to itself
abbrev pub coercion : Name → Ty → Term
coercion l a = fields_part (enc (one_type l a)) (TermRow.More (Label.Name l) (same_part (enc (Sig.Typ a Kind.Star))) TermRow.End)

-- the records of the derived forms
abbrev pub pair : Term
pair = Term.Fields (TermRow.More (Label.Name h0) (Term.Var 0) (TermRow.More (Label.Name h1) (Term.Var 1) TermRow.End))

abbrev pub triple : Term
triple = Term.Fields (TermRow.More (Label.Name h0) (Term.Var 0) (TermRow.More (Label.Name h1) (Term.Var 2) (TermRow.More (Label.Name h2) (Term.Var 1) TermRow.End)))

abbrev pub all_three : Term
all_three = Term.Fields (TermRow.More (Label.Name A) (Term.Var 2) (TermRow.More (Label.Name F) (Term.Var 1) (TermRow.More (Label.Name P) (Term.Var 0) TermRow.End)))

-- the sealed body, the functor, and its application
abbrev pub sealing_rest : Term
sealing_rest = let_in (enc (one_type t (Ty.Var 0))) (Term.Call (coercion t (Ty.Var 0)) (Term.Var 0)) pair

abbrev pub body_term : Term
body_term = Term.Get (let_in (enc (one_type t (Ty.Var 0))) (one_type_term t (Ty.Var 0)) sealing_rest) (Label.Name h0)

abbrev pub functor_term : Term
functor_term = Term.TyLam Kind.Star (Term.Lam (enc (one_type u (Ty.Var 0))) (one_field Label.App body_term))

abbrev pub apply_term : Term
apply_term = Term.Get (Term.Call (Term.Inst (Term.Var 1) Ty.Int) (Term.Call (coercion u Ty.Int) (Term.Var 0))) Label.App

-- the functor signature and the result's type before and after the hidden type is put in
abbrev pub application_term : Sig → Ty → Term
application_term f a = Term.Get (let_in (enc f) (Term.Var 0) (let_in (enc (one_type u Ty.Int)) (Term.Var 2) (let_in (enc (one_type t a)) apply_term triple))) (Label.Name h0)

abbrev pub rest_term : Sig → Ty → Term
rest_term f a = let_in (enc (one_type t a)) (application_term f a) all_three

abbrev pub shown_functor : Sig
shown_functor = Sig.Fun Pure (Kind.Star ∷ []) (one_type u (Ty.Var 0)) (Abs.Ex [] (one_type t (Ty.Var 0)))

abbrev pub identity : Ty
identity = Ty.Lam Kind.Star (Ty.Var 0)

abbrev pub applicative_term : Term
applicative_term = let_in (enc (one_type u Ty.Int)) (one_type_term u Ty.Int) (let_in (enc shown_functor) functor_term (rest_term shown_functor Ty.Int))

-- pure, with that signature, the identity for the lifted type, and a whole term of its encoding
abbrev pub FunctorProgram : Type 0
FunctorProgram = (whole : Term) × ProgramMeans applicative (made Pure applicative_sig (identity ∷ []) applicative_term) whole × HasType [] [] whole (enc_abs applicative_sig)

-- gen (X : sig type u end) => body, under A: its hidden type is packed anew at each application
abbrev pub generative_sig : Sig
generative_sig = Sig.Fun Impure (Kind.Star ∷ []) (one_type u (Ty.Var 0)) (Abs.Ex (Kind.Star ∷ []) (one_type t (Ty.Var 0)))

abbrev pub generative_functor : Mod
generative_functor = ModAt o (ModFunctor true (n X) param body)

abbrev pub GenerativeMeans : Type 0
GenerativeMeans = (e : Term) × ModMeans (Entry.Named A (one_type u Ty.Int) ∷ []) generative_functor (made Pure (Abs.Ex [] generative_sig) [] e) × HasType [] (enc (one_type u Ty.Int) ∷ []) e (enc generative_sig)
