-- What is elaborated at one time, and what it means: a phrase, or the rest of a list of phrases with what stands before it.
use Rattle.std.specs.Prelude.{List}
use Rattle.omega_kinds.specs.Kind.{Kind}
use Rattle.omega_kinds.specs.Name.{Name}
use Rattle.omega_types.specs.Ty.{Ty}
use Rattle.omega_terms.specs.Term.{Term}
use Rattle.sig_definitions.specs.Signatures.Sig.{Abs, Module}
use Rattle.sig_definitions.specs.Env.{Env}
use Rattle.fing_syntax.specs.Phrase.{Span, TyEx, TyExs, FieldTyExs, Exp, OpExps, Args, FieldExps, Branches, SigEx, Decl, Decls, Mod, Bind, Binds}
use Rattle.core_judgments.specs.TypeRules.{FieldTy}
use Rattle.core_judgments.specs.ExpRules.{FieldExp}
use Rattle.elab_judgments.specs.Judgments.Meaning.{TyMeans, ArgTysMean, FieldTysMean, ExpMeans, OpsMean, ArgsMean, FieldExpsMean, BranchesMean, SigMeans, DeclMeans, DeclsMean, ModMeans, BindMeans, BindsMean}

pub data Task : Type 0 where
  a_type : TyEx → Task
  -- arguments of an operator of a kind, which stands with those before at a place
  type_args : (before : Span) (operator : Ty) (kind : Kind) (rest : TyExs) → Task
  type_fields : (before : List Name) (rest : FieldTyExs) → Task
  an_exp : Exp → Task
  -- operators after a left operand, which stands at a place
  operands : (before : Span) (left : Ty) (term : Term) (rest : OpExps) → Task
  args : (before : Span) (function : Ty) (term : Term) (rest : Args) → Task
  fields : (before : List Name) (rest : FieldExps) → Task
  -- branches of a case on a sum, whose result has the type that is written
  branches : (whole result : Ty) (before : List Name) (rest : Branches) → Task
  a_sig : SigEx → Task
  a_decl : Decl → Task
  decls : (before : List Name) (rest : Decls) → Task
  a_mod : Mod → Task
  a_bind : Bind → Task
  binds : (before : List Name) (rest : Binds) → Task

-- what a task gives
abbrev pub Result : Task → Type 0
Result (a_type a) = Ty × Kind
Result (type_args at t k rest) = Ty × Kind
Result (type_fields before rest) = List FieldTy
Result (an_exp a) = Ty × Term
Result (operands at t e rest) = Ty × Term
Result (args at t e rest) = Ty × Term
Result (fields before rest) = List FieldExp
Result (branches w t before rest) = List FieldExp
Result (a_sig a) = Abs
Result (a_decl d) = Abs
Result (decls before ds) = Abs
Result (a_mod m) = Module
Result (a_bind b) = Name × Module
Result (binds before bs) = Module

-- the judgment of a task
abbrev pub Means : (g : Env) (a : Task) → Result a → Type 0
Means g (a_type a) o = TyMeans g a o.0 o.1
Means g (type_args at t k rest) o = ArgTysMean g t k rest o.0 o.1
Means g (type_fields before rest) o = FieldTysMean g before rest o
Means g (an_exp a) o = ExpMeans g a o.0 o.1
Means g (operands at t e rest) o = OpsMean g t e rest o.0 o.1
Means g (args at t e rest) o = ArgsMean g t e rest o.0 o.1
Means g (fields before rest) o = FieldExpsMean g before rest o
Means g (branches w t before rest) o = BranchesMean g w t before rest o
Means g (a_sig a) o = SigMeans g a o
Means g (a_decl d) o = DeclMeans g d o
Means g (decls before ds) o = DeclsMean g before ds o
Means g (a_mod m) o = ModMeans g m o
Means g (a_bind b) o = BindMeans g b o.0 o.1
Means g (binds before bs) o = BindsMean g before bs o
