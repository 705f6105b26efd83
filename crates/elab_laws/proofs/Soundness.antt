-- Each derived phrase is good: types are normal of their kinds, expressions have their types, signatures are good, and
-- modules have terms of the types that their signatures say. By one induction on the derivations.
-- Main results: ty-good, exp-good, sig-good, mod-good, binds-good, program-typed.
use Rattle.std.specs.Prelude.{List, [], ◌∷◌}
use Rattle.std.proofs.Math.Path.{refl, sym, ◌∙◌, subst}
use Rattle.omega_kinds.specs.Kind.{Kind}
use Rattle.omega_kinds.specs.declared.label.Label.{Label}
use Rattle.omega_kinds.specs.declared.effect.Effect.{Effect}
use Rattle.omega_kinds.specs.Name.{Name}
use Rattle.omega_types.specs.Ty.{Ty, Row}
use Rattle.omega_types.specs.Kinding.{here}
use Rattle.omega_types.specs.Normality.{Normal, Normals}
use Rattle.omega_types.specs.Normality.Normal.{n_lam, n_int, n_bool, n_text, n_arrow, n_fields, n_sum, n_all, n_mu}
use Rattle.omega_types.specs.Normality.Normals.{n_end}
use Rattle.omega_types.specs.Normality.Neutral.{n_var}
use Rattle.omega_types.specs.Binders.{extend}
use Rattle.omega_types.proofs.Hereditary.{eta-normal}
use Rattle.omega_terms.specs.Term.{Term, TermRow}
use Rattle.omega_terms.specs.Typing.{At, HasType}
use Rattle.omega_terms.proofs.NormalTyping.{Typed, TypedFields, typed-more, typed-normal, typed-sound, normal-sum}
use Rattle.omega_terms.proofs.TypedShorthands.{typed-packs}
use Rattle.sig_definitions.specs.Signatures.Sig.{Sig, Abs, Module, made}
use Rattle.sig_definitions.specs.Signatures.Alike.{NormalSigRow, NormalAbs}
use Rattle.sig_definitions.specs.Signatures.Encoding.{enc_abs}
use Rattle.sig_definitions.specs.Env.{Env, kinds, types, type_vars, with_module}
use Rattle.sig_laws.proofs.Encoded.EncodingTyping.{Good, GoodAbs, good_abs-normal, good-normal}
use Rattle.sig_laws.proofs.Encoded.EnvTyping.{GoodEnv, env-normal, find-good, type_term-typed, kinds-named_fields, good-type_vars, good-with_module, good-named_fields}
use Rattle.sig_laws.proofs.Encoded.CoercionTyping.{match-typed}
use Rattle.sig_laws.proofs.Encoded.LiftTyping.{lift-good}
use Rattle.fing_syntax.specs.Phrase.{Mod, Bind, Binds, SigEx, Decl, Decls, TyEx, TyExs, FieldTyExs, Exp, OpExps, Args, FieldExps, Branches}
use Rattle.fing_syntax.specs.Place.{name_of}
use Rattle.sig_definitions.specs.Signatures.FieldOrder.{with_names}
use Rattle.core_judgments.specs.TypeRules.{BaseGives, FieldTy, RecordTypeGives, ArrowGives, AllGives, OperatorGives, AppliedGives}
use Rattle.core_judgments.specs.ExpRules.{LiteralGives, FieldExp, RecordGives, FunctionGives, TypeFunctionGives, CallGives, InstanceGives, GetGives, IfGives, OperationGives, FixGives, LabelGives, InjectionGives, CaseGives}
use Rattle.core_judgments.specs.DataRules.{MuGives, RollGives, UnrollGives}
use Rattle.sig_judgments.specs.SigRules.{ValueGives, TypeGives, AbstractGives, ModuleGives, SignatureGives, IncludeGives, DeclarationsGive, GenerativeGives as GenerativeSigGives}
use Rattle.module_judgments.specs.ModRules.{NamedGives, GenerativeGives, PartsGive, ApplyGives, IncludeGives as IncludeModule, SealGives, ValueGives as ValueModule, TypeGives as TypeModule, SignatureGives as SignatureModule}
use Rattle.functor_judgments.specs.PureFunctor.{PureFunctorGives}
use Rattle.package_judgments.specs.Package.{PackTypeGives, PackGives, UnpackGives}
use Rattle.elab_judgments.specs.Operators.{include_name}
use Rattle.sig_definitions.specs.Signatures.RecordOrder.{NamesRise}
use Rattle.elab_judgments.specs.Judgments.Meaning.{TyMeans, ArgTysMean, FieldTysMean, ExpMeans, OpsMean, ArgsMean, FieldExpsMean, BranchesMean, SigMeans, DeclMeans, DeclsMean, ModMeans, BindMeans, BindsMean}
use Rattle.elab_judgments.specs.Judgments.Program.{ProgramMeans}
use Rattle.sig_laws.proofs.Formed.NormGood.{norm-good}
use Rattle.elab_laws.proofs.FieldLaws.{FreshAll, fresh_all-end, fresh_all-insert, normals-insert, typed-insert, no_fields-end, rise-with_name, rise-with_names, collected-typed}
use Rattle.elab_laws.proofs.SumTyping.{BranchesTyped, part-normal, case-typed}
use Rattle.elab_laws.proofs.ModuleTyping.{GoodModule, plain-module, packed-typed, module-good, path-type, path-value, project-typed, seq-typed}
use Rattle.elab_laws.proofs.PhraseRules.{good-body, in-module, in-include, path-sig, refined-good, GoodDecls, decls-sig, join-decls, applicative-good, generative-good, apply-good, lets-good}
use Rattle.sig_laws.proofs.Algebra.FormLaws.{kinds-type_vars}

mutual
  -- a type phrase means a normal type of its kind
  pub ty-good : {g : Env} {T : TyEx} {t : Ty} {k : Kind} → GoodEnv g → TyMeans g T t k → Normal (kinds g) t k
  ty-good h (TyMeans.ty_path m p) = path-type p
  ty-good h (TyMeans.ty_int BaseGives.int) = n_int
  ty-good h (TyMeans.ty_bool BaseGives.bool) = n_bool
  ty-good h (TyMeans.ty_text BaseGives.text) = n_text
  ty-good h (TyMeans.ty_arrow a b ArrowGives.arrow) = n_arrow (ty-good h a) (ty-good h b)
  ty-good h (TyMeans.ty_apply a r) = arg_tys-good h (ty-good h a) r
  ty-good h (TyMeans.ty_fields f r) = n_fields (field_tys-good h f r).0
  ty-good h (TyMeans.ty_all b AllGives.all) = n_all (ty-good (tt, (tt, h)) b)
  ty-good h (TyMeans.ty_lam b OperatorGives.operator) = n_lam (ty-good (tt, (tt, h)) b)
  ty-good h (TyMeans.ty_pack s (PackTypeGives.pack_type n)) = good_abs-normal (norm-good n (sig-good h s))
  ty-good h (TyMeans.ty_sum f r) = n_sum (field_tys-good h f r).0
  ty-good h (TyMeans.ty_mu b MuGives.mu) = n_mu (ty-good (tt, (tt, h)) b)

  pub arg_tys-good : {g : Env} {t u : Ty} {k j : Kind} {rest : TyExs} → GoodEnv g → Normal (kinds g) t k → ArgTysMean g t k rest u j → Normal (kinds g) u j
  arg_tys-good h n ArgTysMean.no_args = n
  arg_tys-good h n (ArgTysMean.next_arg a (AppliedGives.applied f) r) = arg_tys-good h f.0 r

  pub field_tys-good : {g : Env} {before : List Name} {fields : FieldTyExs} {parts : List FieldTy} {row : Row} → GoodEnv g → FieldTysMean g before fields parts → RecordTypeGives before parts row → Normals (kinds g) row × FreshAll before row
  field_tys-good h (FieldTysMean.no_field_tys {before = before}) RecordTypeGives.no_fields = (n_end, fresh_all-end before)
  field_tys-good h (FieldTysMean.next_field_ty {before = before} {x = x} {t = t} m a f) (RecordTypeGives.next_field {row = row} n r) =
      let q = field_tys-good h f r in
      (normals-insert (Label.Name (name_of x)) q.1.0 (ty-good h a) q.0, fresh_all-insert before (name_of x) t row n q.1.1)

  -- an expression's term has its type
  pub exp-good : {g : Env} {E : Exp} {t : Ty} {e : Term} → GoodEnv g → ExpMeans g E t e → Typed (kinds g) (types g) e t
  exp-good h (ExpMeans.exp_path m p) = path-value (mod-good h m) p
  exp-good h (ExpMeans.exp_int LiteralGives.int) = Typed.int
  exp-good h (ExpMeans.exp_bool LiteralGives.bool) = Typed.bool
  exp-good h (ExpMeans.exp_text LiteralGives.text) = Typed.text
  exp-good h (ExpMeans.exp_lam a b FunctionGives.function) = let n = ty-good h a in Typed.lam n (exp-good (n, h) b)
  exp-good h (ExpMeans.exp_ty_lam b TypeFunctionGives.type_function) = Typed.ty_lam (exp-good (tt, (tt, h)) b)
  exp-good h (ExpMeans.exp_fix a b e FixGives.fix) = let n = ty-good h a in let m = ty-good h b in Typed.fix n m (exp-good (n, (n_arrow n m, h)) e)
  exp-good h (ExpMeans.exp_if a b c IfGives.if_) = Typed.if_ (exp-good h a) (exp-good h b) (exp-good h c)
  exp-good h (ExpMeans.exp_ops a r) = ops-good h (exp-good h a) r
  exp-good h (ExpMeans.exp_apply a r) = args-good h (exp-good h a) r
  exp-good h (ExpMeans.exp_fields f r) = Typed.fields (field_exps-good h f r).0
  exp-good h (ExpMeans.exp_get a (GetGives.get p)) = Typed.get (exp-good h a) p
  exp-good {g} h (ExpMeans.exp_pack {x = x} {z = Abs.Ex ks t} f a n m (PackGives.pack p)) =
      let q = find-good g (name_of x) h f in
      let i : Good (extend (kinds g) ks) t = good-body (norm-good n (sig-good h a)) in
      let M = match-typed q.0 i m in
      typed-packs M.found (good-normal i) (Typed.call (typed-more (types g) M.typed) q.1) refl p
  exp-good h (ExpMeans.exp_inj a b (InjectionGives.injection p)) = Typed.inj (ty-good h b) p (exp-good h a)
  exp-good {g} h (ExpMeans.exp_case a b f (CaseGives.case_ c o)) =
      let e = exp-good h a in
      let n = normal-sum (typed-normal (env-normal g h) e) in
      case-typed e n (ty-good h b) (branches-good h n f) o
  exp-good h (ExpMeans.exp_roll a b (RollGives.roll n)) = Typed.roll (ty-good h b) n (exp-good h a)
  exp-good h (ExpMeans.exp_unroll a (UnrollGives.unroll n)) = Typed.unroll (exp-good h a) n

  pub ops-good : {g : Env} {t u : Ty} {c e : Term} {rest : OpExps} → GoodEnv g → Typed (kinds g) (types g) c t → OpsMean g t c rest u e → Typed (kinds g) (types g) e u
  ops-good h t OpsMean.no_ops = t
  ops-good h t (OpsMean.next_op b OperationGives.operation r) = ops-good h (Typed.arith t (exp-good h b)) r

  pub args-good : {g : Env} {t u : Ty} {c e : Term} {rest : Args} → GoodEnv g → Typed (kinds g) (types g) c t → ArgsMean g t c rest u e → Typed (kinds g) (types g) e u
  args-good h t ArgsMean.no_arg = t
  args-good h t (ArgsMean.next_value b CallGives.call r) = args-good h (Typed.call t (exp-good h b)) r
  args-good h t (ArgsMean.next_type a (InstanceGives.instance f) r) = args-good h (Typed.inst t (ty-good h a) f) r

  pub field_exps-good : {g : Env} {before : List Name} {fields : FieldExps} {parts : List FieldExp} {row : Row} {es : TermRow} → GoodEnv g → FieldExpsMean g before fields parts → RecordGives before parts row es → TypedFields (kinds g) (types g) es row × FreshAll before row
  field_exps-good h (FieldExpsMean.no_field_exps {before = before}) RecordGives.no_fields = (TypedFields.end, fresh_all-end before)
  field_exps-good h (FieldExpsMean.next_field_exp {before = before} {x = x} {t = t} m a f) (RecordGives.next_field {row = row} n r) =
      let q = field_exps-good h f r in
      (typed-insert (Label.Name (name_of x)) q.1.0 (exp-good h a) q.0, fresh_all-insert before (name_of x) t row n q.1.1)

  pub branches-good : {g : Env} {row : Row} {t : Ty} {before : List Name} {rest : Branches} {parts : List FieldExp}
      → GoodEnv g
      → Normals (kinds g) row
      → BranchesMean g (Ty.Sum row) t before rest parts
      → BranchesTyped (kinds g) (types g) row t parts
  branches-good h n BranchesMean.no_branches = BranchesTyped.no_branches
  branches-good h n (BranchesMean.next_branch m (LabelGives.label p) a f) = BranchesTyped.next_branch p (exp-good (part-normal n p, h) a) (branches-good h n f)

  -- a signature phrase means a good signature
  pub sig-good : {g : Env} {S : SigEx} {x : Abs} → GoodEnv g → SigMeans g S x → GoodAbs (kinds g) x
  sig-good h (SigMeans.sig_path m p) = path-sig (mod-good h m) p
  sig-good h (SigMeans.sig_decls d) = decls-sig (decls-good h d)
  sig-good {g} h (SigMeans.sig_generative {x = x} {ks = ks} {s = s} {y = y} a b GenerativeSigGives.generative) =
      let i = good-body (sig-good h a) in
      let r = sig-good (good-with_module g ks (name_of x) h i) b in
      record { normal = (i.normal, subst (λ c. NormalAbs c y) (kinds-type_vars g ks) r.normal); shape = (i.shape, r.shape, tt) }
  sig-good {g} h (SigMeans.sig_applicative {x = x} {ks = ks} {s = s} {y = Abs.Ex bs t} a b l) =
      let i = good-body (sig-good h a) in
      let r = sig-good (good-with_module g ks (name_of x) h i) b in
      lift-good i (good-body (subst (λ c. GoodAbs c (Abs.Ex bs t)) (kinds-type_vars g ks) r)) l
  sig-good h (SigMeans.sig_refine a b r) = refined-good (sig-good h a) r

  -- a declaration means a good signature
  pub decl-good : {g : Env} {d : Decl} {x : Abs} → GoodEnv g → DeclMeans g d x → GoodAbs (kinds g) x
  decl-good h (DeclMeans.decl_val a ValueGives.value) = record { normal = (ty-good h a, tt); shape = (tt, tt, tt) }
  decl-good h (DeclMeans.decl_is a TypeGives.type) = record { normal = (ty-good h a, tt); shape = (tt, tt, tt) }
  decl-good {g} h (DeclMeans.decl_of {k = k} AbstractGives.abstract) = record { normal = ((eta-normal k (n_var {ctx = k ∷ kinds g} here)).0, tt); shape = (tt, tt, tt) }
  decl-good h (DeclMeans.decl_module a ModuleGives.module_) = let i = sig-good h a in record { normal = (i.normal, tt); shape = (tt, i.shape, tt) }
  decl-good h (DeclMeans.decl_signature a SignatureGives.signature) = let i = sig-good h a in record { normal = (i.normal, tt); shape = (tt, i.shape, tt) }
  decl-good h (DeclMeans.decl_include a IncludeGives.include) = sig-good h a

  pub decls-good : {g : Env} {before : List Name} {ds : Decls} {x : Abs} → GoodEnv g → DeclsMean g before ds x → GoodDecls (kinds g) before x
  decls-good h (DeclsMean.no_decls {before = before}) = GoodDecls.decls (record { normal = tt; shape = tt }) (no_fields-end before)
  decls-good {g} {before} h (DeclsMean.next_decl {ks = ks} {fs = fs} d n r (DeclarationsGive.declarations {js = js} {gs = gs})) =
      let i = decl-good h d in
      let m : NormalSigRow (kinds (type_vars g ks)) fs = subst (λ c. NormalSigRow c fs) (sym (kinds-type_vars g ks)) i.normal in
      let q = decls-good (good-named_fields (type_vars g ks) fs (good-type_vars g ks h) m i.shape) r in
      join-decls i n (subst (λ c. GoodDecls c (with_names fs before) (Abs.Ex js (Sig.Str gs))) (kinds-named_fields (type_vars g ks) fs ∙ kinds-type_vars g ks) q)

  -- a module phrase means a good module
  pub mod-good : {g : Env} {m : Mod} {M : Module} → GoodEnv g → ModMeans g m M → GoodModule (kinds g) (types g) M
  mod-good {g} h (ModMeans.mod_name {x = x} (NamedGives.named f)) = let q = find-good g (name_of x) h f in plain-module q.0 q.1
  mod-good h (ModMeans.mod_struct b) = binds-good h tt b
  mod-good h (ModMeans.mod_project m p) = project-typed (mod-good h m) p
  mod-good {g} h (ModMeans.mod_applicative {x = x} {ks = ks} {s = s} {y = Abs.Ex bs r} a b (PureFunctorGives.pure_functor l)) =
      let i = good-body (sig-good h a) in
      applicative-good i (in-module s g ks (name_of x) (mod-good (good-with_module g ks (name_of x) h i) b)) l
  mod-good {g} h (ModMeans.mod_generative {x = x} {ks = ks} {s = s} {y = Abs.Ex bs r} a b e (GenerativeGives.generative p)) =
      let i = good-body (sig-good h a) in
      generative-good i (in-module s g ks (name_of x) (mod-good (good-with_module g ks (name_of x) h i) b)) p
  mod-good {g} h (ModMeans.mod_apply {x = x} {z = z} a PartsGive.parts b m (ApplyGives.apply n)) =
      let p = find-good g (name_of x) h a in
      let q = find-good g (name_of z) h b in
      apply-good p.0 p.1 q.0 q.1 m n
  mod-good {g} h (ModMeans.mod_seal {x = x} {y = Abs.Ex ks t} f a m SealGives.seal) =
      let q = find-good g (name_of x) h f in
      let i : Good (extend (kinds g) ks) t = good-body (sig-good h a) in
      let M = match-typed q.0 i m in
      GoodModule.pure i M.found (Typed.call (typed-more (types g) M.typed) q.1)
  mod-good {g} h (ModMeans.mod_unpack {y = Abs.Ex ks t} a s n UnpackGives.unpack) = GoodModule.impure (good-body (norm-good n (sig-good h s))) (exp-good h a)

  -- a binding means a good module
  pub bind-good : {g : Env} {b : Bind} {x : Name} {M : Module} → GoodEnv g → BindMeans g b x M → GoodModule (kinds g) (types g) M
  bind-good {g} h (BindMeans.bind_val a ValueModule.value) = let t = exp-good h a in plain-module (record { normal = typed-normal (env-normal g h) t; shape = tt }) (Typed.fields (TypedFields.more t tt TypedFields.end))
  bind-good h (BindMeans.bind_ty a TypeModule.type) = let n = ty-good h a in plain-module (record { normal = n; shape = tt }) (type_term-typed n)
  bind-good h (BindMeans.bind_signature a SignatureModule.signature) = let i = sig-good h a in plain-module (record { normal = i.normal; shape = i.shape }) (Typed.fields (TypedFields.more (Typed.lam (good_abs-normal i) (Typed.var At.here)) tt TypedFields.end))
  bind-good h (BindMeans.bind_module m) = mod-good h m

  -- bindings after names that rise mean a good module
  pub binds-good : {g : Env} {before : List Name} {bs : Binds} {M : Module} → GoodEnv g → NamesRise before → BindsMean g before bs M → GoodModule (kinds g) (types g) M
  binds-good h r (BindsMean.no_binds c) = let s = collected-typed h r c in plain-module (record { normal = s.normal; shape = s.shape }) (Typed.fields s.typed)
  binds-good {g} {before} h r (BindsMean.next_bind {x = x} {ks = ks} {s = s} b c q) =
      let m = bind-good h b in
      let n = binds-good (good-with_module g ks x h (module-good m)) (rise-with_name x before r) c in
      seq-typed (env-normal g h) m (in-module s g ks x n) q
  binds-good {g} {before} h r (BindsMean.next_include {ks = ks} {fs = fs} a c (IncludeModule.include q)) =
      let m = mod-good h a in
      let i = module-good m in
      let w = good-with_module g ks include_name h i in
      let k : NormalSigRow (kinds (type_vars g ks)) fs = subst (λ c. NormalSigRow c fs) (sym (kinds-type_vars g ks)) i.normal in
      let n = binds-good (good-named_fields (with_module g ks include_name (Sig.Str fs)) fs w k i.shape) (rise-with_names fs before r) c in
      seq-typed (env-normal g h) m (lets-good fs i (in-include g ks include_name fs n)) q

-- the whole term of a program has the type of its whole signature
pub program-typed : (bs : Binds) (f : Effect) (x : Abs) (ts : List Ty) (e whole : Term) → ProgramMeans bs (made f x ts e) whole → HasType [] [] whole (enc_abs x)
program-typed bs f (Abs.Ex ks s) ts e whole (ProgramMeans.program b p) = typed-sound (packed-typed (binds-good tt tt b) p)
