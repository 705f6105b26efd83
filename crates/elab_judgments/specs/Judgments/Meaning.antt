-- Elaboration: what each phrase means in an environment (Rossberg, Russo, Dreyer, F-ing modules, sections 4, 6 and 7).
-- Types in signatures and in terms are normal. Premises stand in the order in which they are tried; the conclusion of a
-- rule over premises that are elaborated is a relation of the rule's own.
use Rattle.std.specs.Prelude.{ℤ, List, [], ◌∷◌, ◌≡◌, Bool, true, false, Some}
use Rattle.omega_kinds.specs.Kind.{Kind}
use Rattle.omega_kinds.specs.declared.effect.Effect.{Effect}
use Rattle.omega_kinds.specs.declared.effect.Effect.TheVariants.{Pure, Impure}
use Rattle.omega_kinds.specs.Name.{Name}
use Rattle.omega_types.specs.Ty.{Ty, Row}
use Rattle.omega_terms.specs.Term.{Term, TermRow}
use Rattle.sig_definitions.specs.Signatures.Sig.{Sig, Abs, SigRow, Module, made}
use Rattle.sig_definitions.specs.Env.{Env, Value, kinds, find, type_vars, with_module, named_fields}
use Rattle.sig_definitions.specs.Matching.Subtyping.{Match}
use Rattle.sig_definitions.specs.Lifting.{Lift}
use Rattle.sig_definitions.specs.QuantifierOrder.{Norm}
use Rattle.sig_definitions.specs.Signatures.FieldOrder.{with_name, with_names}
use Rattle.fing_syntax.specs.Phrase.{Span, SpanName, Mod, ModAt, ModName, ModStruct, ModProject, ModFunctor, ModApply, ModSeal, ModUnpack, Bind, BindAt, BindVal, BindTy, BindModule, BindSignature, BindInclude, Binds, NoBinds, MoreBinds, SigEx, SigAt, PathSig, SigDecls, SigFun, SigRefine, Decl, DeclAt, DeclVal, DeclTyIs, DeclTyOf, DeclModule, DeclSignature, DeclInclude, Decls, NoDecls, MoreDecls, TyEx, TyAt, PathTy, TyInt, TyBool, TyText, TyArrow, TyApply, TyFields, TyAll, TyLam, TyPack, TySum, TyMu, TyExs, NoTys, MoreTys, FieldTyExs, NoFieldTys, MoreFieldTys, Exp, ExpAt, PathExp, ExpInt, ExpBool, ExpText, ExpLam, ExpTyLam, ExpFix, ExpIf, ExpOps, ExpApply, ExpFields, ExpGet, ExpPack, ExpInj, ExpCase, ExpRoll, ExpUnroll, Op, OpExps, NoOps, MoreOps, ArgExp, ArgTy, Args, NoArgs, MoreArgs, FieldExps, NoFieldExps, MoreFieldExps, Branches, NoBranches, MoreBranches}
use Rattle.fing_syntax.specs.Place.{name_of}
use Rattle.sig_definitions.specs.Signatures.RecordOrder.{IsNew, AreNew}
use Rattle.core_judgments.specs.TypeRules.{Base, BaseGives, FieldTy, RecordTypeGives, ArrowGives, AllGives, OperatorGives, AppliedGives}
use Rattle.core_judgments.specs.ExpRules.{Literal, LiteralGives, FieldExp, RecordGives, FunctionGives, TypeFunctionGives, CallGives, InstanceGives, GetGives, IfGives, OperationGives, FixGives, LabelGives, InjectionGives, CaseGives}
use Rattle.core_judgments.specs.DataRules.{MuGives, RollGives, UnrollGives}
use Rattle.sig_judgments.specs.SigRules.{ValueGives, TypeGives, AbstractGives, ModuleGives, SignatureGives, IncludeGives, DeclarationsGive, GenerativeGives as GenerativeSigGives}
use Rattle.module_judgments.specs.ModRules.{NamedGives, GenerativeGives, PartsGive, ApplyGives, IncludeGives as IncludeModule, SealGives, ValueGives as ValueModule, TypeGives as TypeModule, SignatureGives as SignatureModule}
use Rattle.functor_judgments.specs.PureFunctor.{PureFunctorGives}
use Rattle.package_judgments.specs.Package.{PackTypeGives, PackGives, UnpackGives}
use Rattle.module_judgments.specs.PathUse.{TypeOfPath, ValueOfPath, SigOfPath}
use Rattle.module_judgments.specs.Projection.{Projected}
use Rattle.module_judgments.specs.Sequence.{Seq, Collected}
use Rattle.sig_judgments.specs.Refinement.{Refined}
use Rattle.elab_judgments.specs.Operators.{omega_op, names_of, include_name, with_type, functor_effect}

mutual
  -- TyMeans g T t k: the type phrase T means t, of kind k
  pub data TyMeans : Env → TyEx → Ty → Kind → Type 0 where
    ty_path : {g : Env} {at : Span} {m : Mod} {M : Module} {t : Ty} {k : Kind}
        → ModMeans g m M
        → TypeOfPath (kinds g) M t k
        → TyMeans g (TyAt at (PathTy m)) t k
    ty_int : {g : Env} {at : Span} {t : Ty} {k : Kind} → BaseGives Base.Int t k → TyMeans g (TyAt at TyInt) t k
    ty_bool : {g : Env} {at : Span} {t : Ty} {k : Kind} → BaseGives Base.Bool t k → TyMeans g (TyAt at TyBool) t k
    ty_text : {g : Env} {at : Span} {t : Ty} {k : Kind} → BaseGives Base.Text t k → TyMeans g (TyAt at TyText) t k
    ty_arrow : {g : Env} {at : Span} {a b : TyEx} {t u v : Ty} {k j l : Kind}
        → TyMeans g a t k
        → TyMeans g b u j
        → ArrowGives t k u j v l
        → TyMeans g (TyAt at (TyArrow a b)) v l
    ty_apply : {g : Env} {at : Span} {a : TyEx} {rest : TyExs} {t u : Ty} {k j : Kind}
        → TyMeans g a t k
        → ArgTysMean g t k rest u j
        → TyMeans g (TyAt at (TyApply a rest)) u j
    ty_fields : {g : Env} {at : Span} {fields : FieldTyExs} {parts : List FieldTy} {row : Row}
        → FieldTysMean g [] fields parts
        → RecordTypeGives [] parts row
        → TyMeans g (TyAt at (TyFields fields)) (Ty.Fields row) Kind.Star
    ty_all : {g : Env} {at : Span} {a : SpanName} {k j l : Kind} {b : TyEx} {t v : Ty}
        → TyMeans (with_type g k (name_of a)) b t j
        → AllGives k t j v l
        → TyMeans g (TyAt at (TyAll a k b)) v l
    ty_lam : {g : Env} {at : Span} {a : SpanName} {k j l : Kind} {b : TyEx} {t v : Ty}
        → TyMeans (with_type g k (name_of a)) b t j
        → OperatorGives k t j v l
        → TyMeans g (TyAt at (TyLam a k b)) v l
    -- a package type has its quantifiers in their order
    ty_pack : {g : Env} {at : Span} {s : SigEx} {x : Abs} {t : Ty}
        → SigMeans g s x
        → PackTypeGives (kinds g) x t
        → TyMeans g (TyAt at (TyPack s)) t Kind.Star
    ty_sum : {g : Env} {at : Span} {labels : FieldTyExs} {parts : List FieldTy} {row : Row}
        → FieldTysMean g [] labels parts
        → RecordTypeGives [] parts row
        → TyMeans g (TyAt at (TySum labels)) (Ty.Sum row) Kind.Star
    -- the name stands for the recursive type in its body
    ty_mu : {g : Env} {at : Span} {x : SpanName} {b : TyEx} {t v : Ty} {k l : Kind}
        → TyMeans (with_type g Kind.Star (name_of x)) b t k
        → MuGives t k v l
        → TyMeans g (TyAt at (TyMu x b)) v l

  -- an operator of kind k applied to type phrases one after the other
  pub data ArgTysMean : Env → Ty → Kind → TyExs → Ty → Kind → Type 0 where
    no_args : {g : Env} {t : Ty} {k : Kind} → ArgTysMean g t k NoTys t k
    next_arg : {g : Env} {a : TyEx} {rest : TyExs} {t u v w : Ty} {k j i l : Kind}
        → TyMeans g a u j
        → AppliedGives (kinds g) t k u j v i
        → ArgTysMean g v i rest w l
        → ArgTysMean g t k (MoreTys a rest) w l

  -- the fields of a record type, or the labels of a sum, after those of the names before
  pub data FieldTysMean : Env → List Name → FieldTyExs → List FieldTy → Type 0 where
    no_field_tys : {g : Env} {before : List Name} → FieldTysMean g before NoFieldTys []
    next_field_ty : {g : Env} {before : List Name} {x : SpanName} {a : TyEx} {rest : FieldTyExs} {t : Ty} {parts : List FieldTy}
        → IsNew (name_of x) before
        → TyMeans g a t Kind.Star
        → FieldTysMean g (name_of x ∷ before) rest parts
        → FieldTysMean g before (MoreFieldTys x a rest) (FieldTy.field (name_of x) t Kind.Star ∷ parts)

  -- ExpMeans g E t e: the expression E has the type t and means the term e
  pub data ExpMeans : Env → Exp → Ty → Term → Type 0 where
    exp_path : {g : Env} {at : Span} {m : Mod} {M : Module} {t : Ty} {e : Term}
        → ModMeans g m M
        → ValueOfPath (kinds g) M t e
        → ExpMeans g (ExpAt at (PathExp m)) t e
    exp_int : {g : Env} {at : Span} {z : ℤ} {t : Ty} {e : Term} → LiteralGives (Literal.Int z) t e → ExpMeans g (ExpAt at (ExpInt z)) t e
    exp_bool : {g : Env} {at : Span} {b : Bool} {t : Ty} {e : Term} → LiteralGives (Literal.Bool b) t e → ExpMeans g (ExpAt at (ExpBool b)) t e
    exp_text : {g : Env} {at : Span} {bytes : Name} {t : Ty} {e : Term} → LiteralGives (Literal.Text bytes) t e → ExpMeans g (ExpAt at (ExpText bytes)) t e
    exp_lam : {g : Env} {at : Span} {x : SpanName} {a : TyEx} {b : Exp} {t u v : Ty} {k : Kind} {e d : Term}
        → TyMeans g a t k
        → ExpMeans (Value (name_of x) t ∷ g) b u e
        → FunctionGives t k u e v d
        → ExpMeans g (ExpAt at (ExpLam x a b)) v d
    exp_ty_lam : {g : Env} {at : Span} {a : SpanName} {k : Kind} {b : Exp} {t v : Ty} {e d : Term}
        → ExpMeans (with_type g k (name_of a)) b t e
        → TypeFunctionGives k t e v d
        → ExpMeans g (ExpAt at (ExpTyLam a k b)) v d
    exp_fix : {g : Env} {at : Span} {f x : SpanName} {a b : TyEx} {body : Exp} {t u v w : Ty} {k j : Kind} {e d : Term}
        → TyMeans g a t k
        → TyMeans g b u j
        → ExpMeans (Value (name_of x) t ∷ Value (name_of f) (Ty.Arrow t u) ∷ g) body v e
        → FixGives t k u j v e w d
        → ExpMeans g (ExpAt at (ExpFix f x a b body)) w d
    exp_if : {g : Env} {at : Span} {a b c : Exp} {s t u v : Ty} {i j k e : Term}
        → ExpMeans g a s i
        → ExpMeans g b t j
        → ExpMeans g c u k
        → IfGives s i t j u k v e
        → ExpMeans g (ExpAt at (ExpIf a b c)) v e
    exp_ops : {g : Env} {at : Span} {a : Exp} {rest : OpExps} {t u : Ty} {d e : Term}
        → ExpMeans g a t d
        → OpsMean g t d rest u e
        → ExpMeans g (ExpAt at (ExpOps a rest)) u e
    exp_apply : {g : Env} {at : Span} {a : Exp} {rest : Args} {t u : Ty} {d e : Term}
        → ExpMeans g a t d
        → ArgsMean g t d rest u e
        → ExpMeans g (ExpAt at (ExpApply a rest)) u e
    exp_fields : {g : Env} {at : Span} {fields : FieldExps} {parts : List FieldExp} {row : Row} {es : TermRow}
        → FieldExpsMean g [] fields parts
        → RecordGives [] parts row es
        → ExpMeans g (ExpAt at (ExpFields fields)) (Ty.Fields row) (Term.Fields es)
    exp_get : {g : Env} {at : Span} {a : Exp} {x : SpanName} {t u : Ty} {d e : Term}
        → ExpMeans g a t d
        → GetGives t d (name_of x) u e
        → ExpMeans g (ExpAt at (ExpGet a x)) u e
    exp_pack : {g : Env} {at : Span} {x : SpanName} {a : SigEx} {s : Sig} {y z : Abs} {ts : List Ty} {t : Ty} {d e f : Term}
        → find g (name_of x) ≡ Some (s, e)
        → SigMeans g a y
        → Norm (kinds g) y z
        → Match (kinds g) s z ts f
        → PackGives (kinds g) e z ts f t d
        → ExpMeans g (ExpAt at (ExpPack x a)) t d
    exp_inj : {g : Env} {at : Span} {x : SpanName} {a : Exp} {b : TyEx} {t u v : Ty} {k : Kind} {d e : Term}
        → ExpMeans g a t d
        → TyMeans g b u k
        → InjectionGives (name_of x) t d u k v e
        → ExpMeans g (ExpAt at (ExpInj x a b)) v e
    exp_case : {g : Env} {at : Span} {a : Exp} {b : TyEx} {rest : Branches} {parts : List FieldExp} {w t u : Ty} {k : Kind} {d e : Term}
        → ExpMeans g a w d
        → TyMeans g b t k
        → BranchesMean g w t [] rest parts
        → CaseGives w d t k parts u e
        → ExpMeans g (ExpAt at (ExpCase a b rest)) u e
    exp_roll : {g : Env} {at : Span} {a : Exp} {b : TyEx} {t u v : Ty} {k : Kind} {d e : Term}
        → ExpMeans g a t d
        → TyMeans g b u k
        → RollGives (kinds g) t d u k v e
        → ExpMeans g (ExpAt at (ExpRoll a b)) v e
    exp_unroll : {g : Env} {at : Span} {a : Exp} {t v : Ty} {d e : Term}
        → ExpMeans g a t d
        → UnrollGives (kinds g) t d v e
        → ExpMeans g (ExpAt at (ExpUnroll a)) v e

  -- a chain of operators after a first operand
  pub data OpsMean : Env → Ty → Term → OpExps → Ty → Term → Type 0 where
    no_ops : {g : Env} {t : Ty} {e : Term} → OpsMean g t e NoOps t e
    next_op : {g : Env} {o : Op} {b : Exp} {rest : OpExps} {t u v w : Ty} {c d f e : Term}
        → ExpMeans g b u d
        → OperationGives (omega_op o) t c u d v f
        → OpsMean g v f rest w e
        → OpsMean g t c (MoreOps o b rest) w e

  -- a function applied to values and types one after the other
  pub data ArgsMean : Env → Ty → Term → Args → Ty → Term → Type 0 where
    no_arg : {g : Env} {t : Ty} {e : Term} → ArgsMean g t e NoArgs t e
    next_value : {g : Env} {b : Exp} {rest : Args} {t u v w : Ty} {c d f e : Term}
        → ExpMeans g b u d
        → CallGives t c u d v f
        → ArgsMean g v f rest w e
        → ArgsMean g t c (MoreArgs (ArgExp b) rest) w e
    next_type : {g : Env} {at : Span} {a : TyEx} {rest : Args} {k : Kind} {t u v w : Ty} {c f e : Term}
        → TyMeans g a u k
        → InstanceGives (kinds g) t c u k v f
        → ArgsMean g v f rest w e
        → ArgsMean g t c (MoreArgs (ArgTy a at) rest) w e

  -- the fields of a record, after those of the names before
  pub data FieldExpsMean : Env → List Name → FieldExps → List FieldExp → Type 0 where
    no_field_exps : {g : Env} {before : List Name} → FieldExpsMean g before NoFieldExps []
    next_field_exp : {g : Env} {before : List Name} {x : SpanName} {a : Exp} {rest : FieldExps} {t : Ty} {e : Term} {parts : List FieldExp}
        → IsNew (name_of x) before
        → ExpMeans g a t e
        → FieldExpsMean g (name_of x ∷ before) rest parts
        → FieldExpsMean g before (MoreFieldExps x a rest) (FieldExp.field (name_of x) t e ∷ parts)

  -- the branches of a case on the sum w, after those of the names before: each is an expression of type t, under a value
  -- of the type of its label
  pub data BranchesMean : Env → (w t : Ty) → List Name → Branches → List FieldExp → Type 0 where
    no_branches : {g : Env} {w t : Ty} {before : List Name} → BranchesMean g w t before NoBranches []
    next_branch : {g : Env} {w t u : Ty} {before : List Name} {x y : SpanName} {a : Exp} {rest : Branches} {e : Term} {parts : List FieldExp}
        → IsNew (name_of x) before
        → LabelGives w (name_of x) u
        → ExpMeans (Value (name_of y) u ∷ g) a t e
        → BranchesMean g w t (name_of x ∷ before) rest parts
        → BranchesMean g w t before (MoreBranches x y a rest) (FieldExp.field (name_of x) t e ∷ parts)

  -- SigMeans g S x: the signature phrase S means x
  pub data SigMeans : Env → SigEx → Abs → Type 0 where
    sig_path : {g : Env} {at : Span} {m : Mod} {M : Module} {x : Abs}
        → ModMeans g m M
        → SigOfPath (kinds g) M x
        → SigMeans g (SigAt at (PathSig m)) x
    sig_decls : {g : Env} {at : Span} {ds : Decls} {x : Abs}
        → DeclsMean g [] ds x
        → SigMeans g (SigAt at (SigDecls ds)) x
    sig_generative : {g : Env} {at : Span} {x : SpanName} {a b : SigEx} {ks : List Kind} {s : Sig} {y z : Abs}
        → SigMeans g a (Abs.Ex ks s)
        → SigMeans (with_module g ks (name_of x) s) b y
        → GenerativeSigGives (Abs.Ex ks s) y z
        → SigMeans g (SigAt at (SigFun false x a b)) z
    sig_applicative : {g : Env} {at : Span} {x : SpanName} {a b : SigEx} {ks : List Kind} {s : Sig} {y z : Abs}
        → SigMeans g a (Abs.Ex ks s)
        → SigMeans (with_module g ks (name_of x) s) b y
        → Lift (kinds g) ks s y z
        → SigMeans g (SigAt at (SigFun true x a b)) z
    sig_refine : {g : Env} {at : Span} {a : SigEx} {z : SpanName} {path : List SpanName} {b : TyEx} {x y : Abs} {u : Ty} {k : Kind}
        → SigMeans g a x
        → TyMeans g b u k
        → Refined (kinds g) x (names_of (z ∷ path)) u k y
        → SigMeans g (SigAt at (SigRefine a z path b)) y

  -- a declaration means a signature of its own labels
  pub data DeclMeans : Env → Decl → Abs → Type 0 where
    decl_val : {g : Env} {at : Span} {x : SpanName} {a : TyEx} {t : Ty} {k : Kind} {y : Abs}
        → TyMeans g a t k
        → ValueGives (name_of x) t k y
        → DeclMeans g (DeclAt at (DeclVal x a)) y
    decl_is : {g : Env} {at : Span} {x : SpanName} {a : TyEx} {t : Ty} {k : Kind} {y : Abs}
        → TyMeans g a t k
        → TypeGives (name_of x) t k y
        → DeclMeans g (DeclAt at (DeclTyIs x a)) y
    decl_of : {g : Env} {at : Span} {x : SpanName} {k : Kind} {y : Abs}
        → AbstractGives (name_of x) k y
        → DeclMeans g (DeclAt at (DeclTyOf x k)) y
    decl_module : {g : Env} {at : Span} {x : SpanName} {a : SigEx} {y z : Abs}
        → SigMeans g a y
        → ModuleGives (name_of x) y z
        → DeclMeans g (DeclAt at (DeclModule x a)) z
    decl_signature : {g : Env} {at : Span} {x : SpanName} {a : SigEx} {y z : Abs}
        → SigMeans g a y
        → SignatureGives (name_of x) y z
        → DeclMeans g (DeclAt at (DeclSignature x a)) z
    decl_include : {g : Env} {at : Span} {a : SigEx} {y z : Abs}
        → SigMeans g a y
        → IncludeGives y z
        → DeclMeans g (DeclAt at (DeclInclude a)) z

  -- declarations after those of the labels before, each in the scope of those before it
  pub data DeclsMean : Env → List Name → Decls → Abs → Type 0 where
    no_decls : {g : Env} {before : List Name} → DeclsMean g before NoDecls (Abs.Ex [] (Sig.Str SigRow.End))
    next_decl : {g : Env} {before : List Name} {d : Decl} {ds : Decls} {ks : List Kind} {fs : SigRow} {rest whole : Abs}
        → DeclMeans g d (Abs.Ex ks (Sig.Str fs))
        → AreNew fs before
        → DeclsMean (named_fields (type_vars g ks) fs) (with_names fs before) ds rest
        → DeclarationsGive (Abs.Ex ks (Sig.Str fs)) rest whole
        → DeclsMean g before (MoreDecls d ds) whole

  -- ModMeans g M m: the module phrase M means m, which has an effect, a signature, hidden types and a term
  pub data ModMeans : Env → Mod → Module → Type 0 where
    mod_name : {g : Env} {at : Span} {x : SpanName} {M : Module}
        → NamedGives g (name_of x) M
        → ModMeans g (ModAt at (ModName x)) M
    mod_struct : {g : Env} {at : Span} {bs : Binds} {M : Module}
        → BindsMean g [] bs M
        → ModMeans g (ModAt at (ModStruct bs)) M
    mod_project : {g : Env} {at : Span} {m : Mod} {x : SpanName} {M N : Module}
        → ModMeans g m M
        → Projected (kinds g) M (name_of x) N
        → ModMeans g (ModAt at (ModProject m x)) N
    -- an applicative functor: the hidden types of the body are lifted over the parameter
    mod_applicative : {g : Env} {at : Span} {x : SpanName} {a : SigEx} {b : Mod} {ks : List Kind} {s : Sig} {y : Abs} {ts : List Ty} {e : Term} {M : Module}
        → SigMeans g a (Abs.Ex ks s)
        → ModMeans (with_module g ks (name_of x) s) b (made Pure y ts e)
        → PureFunctorGives (kinds g) ks s (made Pure y ts e) M
        → ModMeans g (ModAt at (ModFunctor false x a b)) M
    -- a generative functor, by its keyword or because its body is impure
    mod_generative : {g : Env} {at : Span} {gen : Bool} {x : SpanName} {a : SigEx} {b : Mod} {ks : List Kind} {s : Sig} {f : Effect} {y : Abs} {ts : List Ty} {e : Term} {M : Module}
        → SigMeans g a (Abs.Ex ks s)
        → ModMeans (with_module g ks (name_of x) s) b (made f y ts e)
        → functor_effect gen f ≡ Impure
        → GenerativeGives (kinds g) ks s (made f y ts e) M
        → ModMeans g (ModAt at (ModFunctor gen x a b)) M
    mod_apply : {g : Env} {at : Span} {x z : SpanName} {s t : Sig} {f : Effect} {param result : Abs} {ts : List Ty} {c d e : Term} {M : Module}
        → find g (name_of x) ≡ Some (s, d)
        → PartsGive s f param result
        → find g (name_of z) ≡ Some (t, e)
        → Match (kinds g) t param ts c
        → ApplyGives (kinds g) s d ts c e M
        → ModMeans g (ModAt at (ModApply x z)) M
    mod_seal : {g : Env} {at : Span} {x : SpanName} {a : SigEx} {s : Sig} {y : Abs} {ts : List Ty} {e f : Term} {M : Module}
        → find g (name_of x) ≡ Some (s, e)
        → SigMeans g a y
        → Match (kinds g) s y ts f
        → SealGives e y ts f M
        → ModMeans g (ModAt at (ModSeal x a)) M
    mod_unpack : {g : Env} {at : Span} {b : Exp} {a : SigEx} {x y : Abs} {t : Ty} {e : Term} {M : Module}
        → ExpMeans g b t e
        → SigMeans g a x
        → Norm (kinds g) x y
        → UnpackGives t e y M
        → ModMeans g (ModAt at (ModUnpack b a)) M

  -- a binding that is no include: its name, and the module that it binds
  pub data BindMeans : Env → Bind → Name → Module → Type 0 where
    bind_val : {g : Env} {at : Span} {x : SpanName} {a : Exp} {t : Ty} {e : Term} {M : Module}
        → ExpMeans g a t e
        → ValueModule t e M
        → BindMeans g (BindAt at (BindVal x a)) (name_of x) M
    bind_ty : {g : Env} {at : Span} {x : SpanName} {a : TyEx} {t : Ty} {k : Kind} {M : Module}
        → TyMeans g a t k
        → TypeModule t k M
        → BindMeans g (BindAt at (BindTy x a)) (name_of x) M
    bind_signature : {g : Env} {at : Span} {x : SpanName} {a : SigEx} {y : Abs} {M : Module}
        → SigMeans g a y
        → SignatureModule y M
        → BindMeans g (BindAt at (BindSignature x a)) (name_of x) M
    bind_module : {g : Env} {at : Span} {x : SpanName} {m : Mod} {M : Module}
        → ModMeans g m M
        → BindMeans g (BindAt at (BindModule x m)) (name_of x) M

  -- the rest of a structure, after bindings of the names before
  pub data BindsMean : Env → List Name → Binds → Module → Type 0 where
    no_binds : {g : Env} {before : List Name} {fs : SigRow} {es : TermRow}
        → Collected g before fs es
        → BindsMean g before NoBinds (made Pure (Abs.Ex [] (Sig.Str fs)) [] (Term.Fields es))
    next_bind : {g : Env} {before : List Name} {b : Bind} {bs : Binds} {x : Name} {f : Effect} {ks : List Kind} {s : Sig} {ts : List Ty} {e : Term} {rest whole : Module}
        → BindMeans g b x (made f (Abs.Ex ks s) ts e)
        → BindsMean (with_module g ks x s) (with_name x before) bs rest
        → Seq (kinds g) (made f (Abs.Ex ks s) ts e) rest whole
        → BindsMean g before (MoreBinds b bs) whole
    -- the included module has a hidden name, and its fields are bound by lets
    next_include : {g : Env} {before : List Name} {at : Span} {m : Mod} {bs : Binds} {f : Effect} {ks : List Kind} {fs : SigRow} {ts : List Ty} {e : Term} {rest whole : Module}
        → ModMeans g m (made f (Abs.Ex ks (Sig.Str fs)) ts e)
        → BindsMean (named_fields (with_module g ks include_name (Sig.Str fs)) fs) (with_names fs before) bs rest
        → IncludeModule (kinds g) (made f (Abs.Ex ks (Sig.Str fs)) ts e) rest whole
        → BindsMean g before (MoreBinds (BindAt at (BindInclude m)) bs) whole
