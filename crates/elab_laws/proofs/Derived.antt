-- Each derived type has its kind, each written signature is ordered explicit, and each module's signature is well formed.
-- Main results: good-body.
use Rattle.std.specs.Prelude.{List, [], ◌∷◌, ◌++◌, ◌≡◌}
use Rattle.std.proofs.Math.Path.{sym, ◌∙◌, subst}
use Rattle.omega_kinds.specs.Kind.{Kind}
use Rattle.omega_kinds.specs.declared.label.Label.{Label}
use Rattle.omega_kinds.specs.declared.effect.Effect.{Effect}
use Rattle.omega_kinds.specs.declared.effect.Effect.TheVariants.{Pure, Impure}
use Rattle.omega_kinds.specs.Name.{Name}
use Rattle.omega_kinds.specs.LabelOrder.{label_before}
use Rattle.omega_types.specs.Ty.{Ty, Row}
use Rattle.omega_types.specs.Kinding.{HasKind, HasKinds, Fresh}
use Rattle.omega_types.specs.Kinding.HasKind.{k_int, k_bool, k_text, k_arrow, k_fields, k_sum, k_all, k_mu, k_lam}
use Rattle.omega_types.specs.Kinding.HasKinds.{k_end, k_more}
use Rattle.omega_types.specs.Binders.{extend, past, OfKinds}
use Rattle.omega_types.proofs.Preservation.{normal-kind}
use Rattle.omega_terms.specs.Term.{Term, TermRow}
use Rattle.sig_definitions.specs.Signatures.Sig.{Sig, Abs, SigRow, Module, made}
use Rattle.sig_definitions.specs.Signatures.SigSubst.{abs_at, raise_sig_row}
use Rattle.sig_definitions.specs.Signatures.Alike.{NormalAbsForm, ex}
use Rattle.sig_definitions.specs.Env.{Entry, Env, kinds, type_vars, with_module, named_fields, IsGoodEnv}
use Rattle.sig_definitions.specs.Matching.Subtyping.{Match}
use Rattle.sig_definitions.specs.Lifting.{Lift, lift, lifted_types}
use Rattle.omega_types.specs.EtaLong.{eta}
use Rattle.sig_definitions.specs.Signatures.FieldOrder.{merge, with_names}
use Rattle.sig_definitions.specs.Explicit.WellFormed.{Rising, BeforeAll, WellFormed, WellFormedRow, WellFormedAbs, Explicit, abs, explicit, in_val, in_typ, in_meta, in_str, in_end}
use Rattle.sig_laws.proofs.Algebra.BinderLaws.{extend-append}
use Rattle.sig_laws.proofs.Algebra.AlikeLaws.{form-conv_sig}
use Rattle.sig_laws.proofs.Formed.WellFormedLaws.{explicit-conv}
use Rattle.fing_syntax.specs.Phrase.{TyEx, TyExs, FieldTyExs, Exp, OpExps, Args, FieldExps, SigEx, Decl, Decls, Mod, Bind, Binds}
use Rattle.fing_syntax.specs.Place.{name_of}
use Rattle.core_judgments.specs.TypeRules.{BaseGives, FieldTy, RecordTypeGives, ArrowGives, AllGives, OperatorGives, AppliedGives}
use Rattle.core_judgments.specs.ExpRules.{LiteralGives, FieldExp, RecordGives, FunctionGives, TypeFunctionGives, CallGives, InstanceGives, GetGives, IfGives, OperationGives, FixGives, InjectionGives, CaseGives}
use Rattle.core_judgments.specs.DataRules.{MuGives, RollGives, UnrollGives}
use Rattle.sig_judgments.specs.SigRules.{ValueGives, TypeGives, AbstractGives, ModuleGives, SignatureGives, IncludeGives, DeclarationsGive, GenerativeGives as GenerativeSigGives}
use Rattle.module_judgments.specs.ModRules.{NamedGives, GenerativeGives, PartsGive, ApplyGives, IncludeGives as IncludeModule, SealGives, ValueGives as ValueModule, TypeGives as TypeModule, SignatureGives as SignatureModule}
use Rattle.functor_judgments.specs.PureFunctor.{PureFunctorGives}
use Rattle.package_judgments.specs.Package.{PackTypeGives, PackGives, UnpackGives}
use Rattle.elab_judgments.specs.Operators.{omega_op, include_name, with_type}
use Rattle.sig_definitions.specs.Signatures.RecordOrder.{insert_part, IsNew, AreNew, BeforeNames, NamesRise}
use Rattle.module_judgments.specs.PathUse.{Outside, TypeOfPath, ValueOfPath, SigOutside, SigOfPath}
use Rattle.module_judgments.specs.Projection.{Projected}
use Rattle.module_judgments.specs.Sequence.{Seq, Collected}
use Rattle.sig_judgments.specs.Refinement.{Refined}
use Rattle.elab_judgments.specs.Judgments.Meaning.{TyMeans, ArgTysMean, FieldTysMean, ExpMeans, OpsMean, ArgsMean, FieldExpsMean, SigMeans, DeclMeans, DeclsMean, ModMeans, BindMeans, BindsMean}
use Rattle.elab_judgments.specs.Judgments.Program.{ProgramMeans, program}
use Rattle.sig_explicit_laws.proofs.Fields.{Apart as ApartFields, none, next}
use Rattle.sig_explicit_laws.proofs.Sequences.{sequence_explicit}
use Rattle.sig_explicit_laws.proofs.Fixings.{fixed_explicit}
use Rattle.sig_norm_laws.proofs.Norm.NormKeeps.{norm_abs-explicit}
use Rattle.sig_laws.proofs.Formed.Conditions.{match-kinds, row-field, str-fields, meta-explicit}
use Rattle.sig_explicit_laws.proofs.Operations.{plain_explicit, field_explicit, opaque_explicit, instance_well_formed, outside_explicit, generative_explicit, lift_explicit, lift_well_formed, lifted_types-kinds}
use Rattle.elab_laws.proofs.EnvLaws.{good-type_vars, good-module, good-named_fields, find-well_formed}
use Rattle.elab_laws.proofs.FieldLaws.{pick, not-sym, Apart, FreshAll, NoFields, fresh_all-end, fresh_all-insert, no_fields-end, no_fields-joined, with_names-no_fields, rise-with_name, rise-with_names, fresh-insert}
use Rattle.sig_laws.proofs.Encoded.EncLaws.{enc_explicit-kind}
use Rattle.sig_laws.proofs.Encoded.EnvTyping.{kinds-named_fields}
use Rattle.sig_explicit_laws.proofs.Liftings.{body-of}
use Rattle.omega_terms.proofs.TypingLaws.{part-kind, result-kind}
use Rattle.omega_types.proofs.Inverse.{arrow-kinds, fields-kinds}
use Rattle.omega_types.proofs.BinderPuts.{forms-types, types-kinds}
use Rattle.sig_laws.proofs.Algebra.FormLaws.{kinds-type_vars}

-- a module's signature is well formed, and a pure one keeps a type of its kind for each hidden one
pub data GoodModule (ctx : List Kind) : Module → Type 0 where
  pure : {ks : List Kind} {s : Sig} {ts : List Ty} {e : Term} → WellFormed (extend ctx ks) s → OfKinds ctx ts ks → GoodModule ctx (made Pure (Abs.Ex ks s) ts e)
  impure : {ks : List Kind} {s : Sig} {ts : List Ty} {e : Term} → WellFormed (extend ctx ks) s → GoodModule ctx (made Impure (Abs.Ex ks s) ts e)

pub good-sig : {ctx : List Kind} {f : Effect} {ks : List Kind} {s : Sig} {ts : List Ty} {e : Term} → GoodModule ctx (made f (Abs.Ex ks s) ts e) → WellFormed (extend ctx ks) s
good-sig (pure w k) = w
good-sig (impure w) = w

-- records

insert-kinds : {ctx : List Kind} (l : Label) {t : Ty} {row : Row} → Fresh l row → HasKind ctx t Kind.Star → HasKinds ctx row → HasKinds ctx (insert_part l t row)
insert-kinds l f h k_end = k_more tt h k_end
insert-kinds {ctx} l {t} f h (k_more {l = m} {rest = rest} g k ks) = pick (HasKinds ctx) (label_before l m) (λ e. k_more f h (k_more g k ks)) (λ e. k_more (fresh-insert m l t rest (not-sym f.0) g) k (insert-kinds l f.1 h ks))

abbrev GoodRow : List Kind → List Name → Row → Type 0
GoodRow ctx names row = HasKinds ctx row × FreshAll names row

good-field : {ctx : List Kind} (names : List Name) (l : Name) {t : Ty} {row : Row} → IsNew l names → HasKind ctx t Kind.Star → GoodRow ctx (l ∷ names) row → GoodRow ctx names (insert_part (Label.Name l) t row)
good-field names l {t = t} {row = row} n h g = (insert-kinds (Label.Name l) g.1.0 h g.0, fresh_all-insert names l t row n g.1.1)

-- paths

type-path : {ctx : List Kind} {m : Module} {t : Ty} {k : Kind} → TypeOfPath ctx m t k → HasKind ctx t k
type-path (TypeOfPath.type_of (Outside.outside u c n)) = normal-kind n.0

value-path : {ctx : List Kind} {m : Module} {t : Ty} {e : Term} → ValueOfPath ctx m t e → HasKind ctx t Kind.Star
value-path (ValueOfPath.value_at (Outside.outside u c n)) = normal-kind n.0

sig-path : {ctx : List Kind} {m : Module} {x : Abs} → GoodModule ctx m → SigOfPath ctx m x → Explicit ctx x
sig-path g (SigOfPath.sig_of {ks = ks} (SigOutside.outside y c n)) = outside_explicit ks (meta-explicit (good-sig g)) c n

-- modules

good-explicit : {ctx : List Kind} {x : Abs} {e : Term} → Explicit ctx x → GoodModule ctx (made Impure x [] e)
good-explicit (explicit w r h) = impure w

good-projected : {ctx : List Kind} {m n : Module} {l : Name} → GoodModule ctx m → Projected ctx m l n → GoodModule ctx n
good-projected (pure w k) (Projected.pure h) = pure (row-field (str-fields w) h) k
good-projected (impure w) (Projected.impure h p) = impure (row-field (str-fields w) h)

good-sequence : {ctx : List Kind} {f h : Effect} {ks js : List Kind} {s t : Sig} {ts us : List Ty} {e d : Term} {m : Module} → GoodModule ctx (made f (Abs.Ex ks s) ts e) → WellFormed (extend (extend ctx ks) js) t → Seq ctx (made f (Abs.Ex ks s) ts e) (made h (Abs.Ex js t) us d) m → GoodModule ctx m
good-sequence {ctx} {ks = ks} {js = js} {t = t} (pure w k) v (Seq.both_pure n ns i) = pure (subst (λ c. WellFormed c t) (sym (extend-append ks js ctx)) v) (of-append k (types-kinds (forms-types ns)))
  where
    of-append : {ts us : List Ty} {is hs : List Kind} → OfKinds ctx ts is → OfKinds ctx us hs → OfKinds ctx (ts ++ us) (is ++ hs)
    of-append OfKinds.none g = g
    of-append (OfKinds.next a f) g = OfKinds.next a (of-append f g)
good-sequence {ctx} {ks = ks} {js = js} {t = t} g v (Seq.some_impure j p q r) = impure (subst (λ c. WellFormed c t) (sym (extend-append ks js ctx)) v)

good-impure : {ctx : List Kind} {x : Abs} {e : Term} → WellFormedAbs ctx x → GoodModule ctx (made Impure x [] e)
good-impure (abs w) = impure w

good-rest : {ctx : List Kind} {f h : Effect} {ks : List Kind} {s : Sig} {y : Abs} {ts us : List Ty} {e d c : Term} {m : Module} → GoodModule ctx (made f (Abs.Ex ks s) ts e) → GoodModule (extend ctx ks) (made h y us c) → Seq ctx (made f (Abs.Ex ks s) ts e) (made h y us d) m → GoodModule ctx m
good-rest g (pure v k) q = good-sequence g v q
good-rest g (impure v) q = good-sequence g v q

good-sequel : {ctx : List Kind} {f : Effect} {ks : List Kind} {s : Sig} {ts : List Ty} {e : Term} {rest m : Module} → GoodModule ctx (made f (Abs.Ex ks s) ts e) → GoodModule (extend ctx ks) rest → Seq ctx (made f (Abs.Ex ks s) ts e) rest m → GoodModule ctx m
good-sequel g (pure v k) q = good-sequence g v q
good-sequel g (impure v) q = good-sequence g v q

good-instance : {ctx ks : List Kind} {f : Effect} {s : Sig} {y w : Abs} {ts : List Ty} {e : Term} → WellFormed ctx (Sig.Fun f ks s y) → OfKinds ctx ts ks → NormalAbsForm ctx (abs_at ts y) w → GoodModule ctx (made f w [] e)
good-instance (WellFormed.pure p r) k (ex n) = go (instance_well_formed k (abs r) (ex n))
  where
    go : {ctx : List Kind} {s : Sig} {e : Term} → WellFormedAbs ctx (Abs.Ex [] s) → GoodModule ctx (made Pure (Abs.Ex [] s) [] e)
    go (abs w) = pure w OfKinds.none
good-instance (WellFormed.impure p r) k n = good-impure (instance_well_formed k r n)

good-sealed : {ctx : List Kind} {s : Sig} {y : Abs} {ts : List Ty} {f e : Term} → Explicit ctx y → Match ctx s y ts f → GoodModule ctx (made Pure y ts e)
good-sealed {y = Abs.Ex ks t} (explicit w r h) m = pure w (match-kinds m)

good-lifted : {ctx ks : List Kind} {s : Sig} {y z : Abs} {ts : List Ty} {d e : Term} → Explicit ctx (Abs.Ex ks s) → GoodModule (extend ctx ks) (made Pure y ts d) → Lift ctx ks s y z → GoodModule ctx (made Pure z (lifted_types ks ts) e)
good-lifted {ks = ks} h (pure w k) (lift (ex n)) = go (lift_well_formed h (abs w) (lift (ex n))) (lifted_types-kinds ks k)
  where
    go : {ctx is : List Kind} {t : Sig} {us : List Ty} {e : Term} → WellFormedAbs ctx (Abs.Ex is t) → OfKinds ctx us is → GoodModule ctx (made Pure (Abs.Ex is t) us e)
    go (abs w) k = pure w k

-- the signature of a good module is well formed
pub good-body : {ctx : List Kind} {f : Effect} {y : Abs} {ts : List Ty} {e : Term} → GoodModule ctx (made f y ts e) → WellFormedAbs ctx y
good-body (pure w k) = abs w
good-body (impure w) = abs w

good-functor : {ctx ks : List Kind} {f : Effect} {s : Sig} {y : Abs} {ts : List Ty} {d e : Term} → Explicit ctx (Abs.Ex ks s) → GoodModule (extend ctx ks) (made f y ts d) → GoodModule ctx (made Pure (Abs.Ex [] (Sig.Fun Impure ks s y)) [] e)
good-functor h g = pure (WellFormed.impure h (good-body g)) OfKinds.none

refined-explicit : {ctx : List Kind} {x y : Abs} {names : List Name} {u : Ty} {k : Kind} → Explicit ctx x → HasKind ctx u k → Refined ctx x names u k y → Explicit ctx y
refined-explicit {ctx} h g (Refined.refined before after {k = k} {s = s} {u = u} e l n) =
    explicit-conv (fixed_explicit before after k u ctx s g (subst (λ z. Explicit ctx (Abs.Ex z s)) e h)) (ex (form-conv_sig n))

-- what a finished structure collects

collected-all_later : (l : Name) {g : Env} {names : List Name} {fs : SigRow} {es : TermRow} → BeforeNames l names → Collected g names fs es → BeforeAll l fs
collected-all_later l h Collected.none = tt
collected-all_later l h (Collected.next e c) = (h.0, collected-all_later l h.1 c)

collected-rising : {g : Env} {names : List Name} {fs : SigRow} {es : TermRow} → NamesRise names → Collected g names fs es → Rising fs
collected-rising h Collected.none = tt
collected-rising h (Collected.next {l = l} e c) = (collected-all_later l h.0 c, collected-rising h.1 c)

collected-well_formed : {g : Env} {names : List Name} {fs : SigRow} {es : TermRow} → IsGoodEnv g → Collected g names fs es → WellFormedRow (kinds g) fs
collected-well_formed h Collected.none = WellFormedRow.end
collected-well_formed {g} h (Collected.next {l = l} {s = s} {e = e} p c) = WellFormedRow.more (find-well_formed g l h (s, e) p) (collected-well_formed h c)

-- declarations give an ordered explicit signature of names that are new
pub data GoodDecls (ctx : List Kind) (names : List Name) : Abs → Type 0 where
  decls : {ks : List Kind} {fs : SigRow} → Explicit ctx (Abs.Ex ks (Sig.Str fs)) → NoFields names fs → GoodDecls ctx names (Abs.Ex ks (Sig.Str fs))

more-decls : {ctx : List Kind} {names : List Name} {ks js : List Kind} {fs gs : SigRow} → Explicit ctx (Abs.Ex ks (Sig.Str fs)) → AreNew fs names → GoodDecls (extend ctx ks) (with_names fs names) (Abs.Ex js (Sig.Str gs)) → GoodDecls ctx names (Abs.Ex (ks ++ js) (Sig.Str (merge (raise_sig_row js fs) gs)))
more-decls {ctx} {names} {ks} {js} {fs} {gs} h a (decls e n) =
    decls (sequence_explicit ctx ks js fs gs h e (apart fs gs (with_names-no_fields fs names gs n).0)) (no_fields-joined (past js) names fs gs a n)
  where
    apart : (fs gs : SigRow) → Apart fs gs → ApartFields fs gs
    apart SigRow.End gs h = none
    apart (SigRow.More l s fs) gs h = next h.0 (apart fs gs h.1)

decls-explicit : {ctx : List Kind} {names : List Name} {x : Abs} → GoodDecls ctx names x → Explicit ctx x
decls-explicit (decls e n) = e

under-fields : (g : Env) (ks : List Kind) (fs : SigRow) → kinds (named_fields (type_vars g ks) fs) ≡ extend (kinds g) ks
under-fields g ks fs = kinds-named_fields (type_vars g ks) fs ∙ kinds-type_vars g ks

good-declared : (g : Env) (ks : List Kind) (fs : SigRow) → IsGoodEnv g → Explicit (kinds g) (Abs.Ex ks (Sig.Str fs)) → IsGoodEnv (named_fields (type_vars g ks) fs)
good-declared g ks fs h e = good-named_fields (type_vars g ks) fs (good-type_vars g ks h) (subst (λ c. WellFormedRow c fs) (sym (kinds-type_vars g ks)) (str-fields (body-of e)))

good-included : (g : Env) (ks : List Kind) (fs : SigRow) → IsGoodEnv g → WellFormed (extend (kinds g) ks) (Sig.Str fs) → IsGoodEnv (named_fields (with_module g ks include_name (Sig.Str fs)) fs)
good-included g ks fs h w = good-named_fields (with_module g ks include_name (Sig.Str fs)) fs (good-module g ks include_name (Sig.Str fs) h w) (subst (λ c. WellFormedRow c fs) (sym (kinds-type_vars g ks)) (str-fields w))

mutual
  -- the type that a type phrase means has its kind
  pub type_kind : (g : Env) {a : TyEx} {t : Ty} {k : Kind} → IsGoodEnv g → TyMeans g a t k → HasKind (kinds g) t k
  type_kind g h (TyMeans.ty_path m p) = type-path p
  type_kind g h (TyMeans.ty_int BaseGives.int) = k_int
  type_kind g h (TyMeans.ty_bool BaseGives.bool) = k_bool
  type_kind g h (TyMeans.ty_text BaseGives.text) = k_text
  type_kind g h (TyMeans.ty_arrow a b ArrowGives.arrow) = k_arrow (type_kind g h a) (type_kind g h b)
  type_kind g h (TyMeans.ty_apply a r) = args_kind g h r (type_kind g h a)
  type_kind g h (TyMeans.ty_fields f r) = k_fields (field_kinds g h f r).0
  type_kind g h (TyMeans.ty_all {a = a} {k = k} b AllGives.all) = k_all (type_kind (with_type g k (name_of a)) (tt, (tt, h)) b)
  type_kind g h (TyMeans.ty_lam {a = a} {k = k} b OperatorGives.operator) = k_lam (type_kind (with_type g k (name_of a)) (tt, (tt, h)) b)
  type_kind g h (TyMeans.ty_pack s (PackTypeGives.pack_type n)) = enc_explicit-kind (norm_abs-explicit n (sig_explicit g h s))
  type_kind g h (TyMeans.ty_sum f r) = k_sum (field_kinds g h f r).0
  type_kind g h (TyMeans.ty_mu {x = x} b MuGives.mu) = k_mu (type_kind (with_type g Kind.Star (name_of x)) (tt, (tt, h)) b)

  pub args_kind : (g : Env) {a : TyExs} {t u : Ty} {k j : Kind} → IsGoodEnv g → ArgTysMean g t k a u j → HasKind (kinds g) t k → HasKind (kinds g) u j
  args_kind g h ArgTysMean.no_args f = f
  args_kind g h (ArgTysMean.next_arg a (AppliedGives.applied n) r) f = args_kind g h r (normal-kind n.0)

  pub field_kinds : (g : Env) {names : List Name} {a : FieldTyExs} {parts : List FieldTy} {row : Row} → IsGoodEnv g → FieldTysMean g names a parts → RecordTypeGives names parts row → GoodRow (kinds g) names row
  field_kinds g {names} h FieldTysMean.no_field_tys RecordTypeGives.no_fields = (k_end, fresh_all-end names)
  field_kinds g {names} h (FieldTysMean.next_field_ty {x = x} m a f) (RecordTypeGives.next_field n r) = good-field names (name_of x) n (type_kind g h a) (field_kinds g h f r)

  -- the type of an expression has kind *
  pub exp_kind : (g : Env) {a : Exp} {t : Ty} {e : Term} → IsGoodEnv g → ExpMeans g a t e → HasKind (kinds g) t Kind.Star
  exp_kind g h (ExpMeans.exp_path m p) = value-path p
  exp_kind g h (ExpMeans.exp_int LiteralGives.int) = k_int
  exp_kind g h (ExpMeans.exp_bool LiteralGives.bool) = k_bool
  exp_kind g h (ExpMeans.exp_text LiteralGives.text) = k_text
  exp_kind g h (ExpMeans.exp_lam {x = x} {t = t} a b FunctionGives.function) = let k = type_kind g h a in k_arrow k (exp_kind (Entry.Value (name_of x) t ∷ g) (k, h) b)
  exp_kind g h (ExpMeans.exp_ty_lam {a = a} {k = k} b TypeFunctionGives.type_function) = k_all (exp_kind (with_type g k (name_of a)) (tt, (tt, h)) b)
  exp_kind g h (ExpMeans.exp_fix a b e FixGives.fix) = k_arrow (type_kind g h a) (type_kind g h b)
  exp_kind g h (ExpMeans.exp_if a b c IfGives.if_) = exp_kind g h b
  exp_kind g h (ExpMeans.exp_ops a r) = ops_kind g h r (exp_kind g h a)
  exp_kind g h (ExpMeans.exp_apply a r) = arguments_kind g h r (exp_kind g h a)
  exp_kind g h (ExpMeans.exp_fields f r) = k_fields (field_exp_kinds g h f r).0
  exp_kind g h (ExpMeans.exp_get a (GetGives.get p)) = part-kind (fields-kinds (exp_kind g h a)) p
  exp_kind g h (ExpMeans.exp_pack f s n m (PackGives.pack p)) = enc_explicit-kind (norm_abs-explicit n (sig_explicit g h s))
  exp_kind g h (ExpMeans.exp_inj a b (InjectionGives.injection p)) = type_kind g h b
  exp_kind g h (ExpMeans.exp_case a b f (CaseGives.case_ c o)) = type_kind g h b
  exp_kind g h (ExpMeans.exp_roll a b (RollGives.roll n)) = type_kind g h b
  exp_kind g h (ExpMeans.exp_unroll a (UnrollGives.unroll n)) = normal-kind n.0

  pub ops_kind : (g : Env) {a : OpExps} {t u : Ty} {d e : Term} → IsGoodEnv g → OpsMean g t d a u e → HasKind (kinds g) t Kind.Star → HasKind (kinds g) u Kind.Star
  ops_kind g h OpsMean.no_ops f = f
  ops_kind g h (OpsMean.next_op {o = o} b OperationGives.operation r) f = ops_kind g h r (result-kind (omega_op o))

  pub arguments_kind : (g : Env) {a : Args} {t u : Ty} {d e : Term} → IsGoodEnv g → ArgsMean g t d a u e → HasKind (kinds g) t Kind.Star → HasKind (kinds g) u Kind.Star
  arguments_kind g h ArgsMean.no_arg f = f
  arguments_kind g h (ArgsMean.next_value b CallGives.call r) f = arguments_kind g h r (arrow-kinds f).1
  arguments_kind g h (ArgsMean.next_type a (InstanceGives.instance n) r) f = arguments_kind g h r (normal-kind n.0)

  pub field_exp_kinds : (g : Env) {names : List Name} {a : FieldExps} {parts : List FieldExp} {row : Row} {es : TermRow} → IsGoodEnv g → FieldExpsMean g names a parts → RecordGives names parts row es → GoodRow (kinds g) names row
  field_exp_kinds g {names} h FieldExpsMean.no_field_exps RecordGives.no_fields = (k_end, fresh_all-end names)
  field_exp_kinds g {names} h (FieldExpsMean.next_field_exp {x = x} m a f) (RecordGives.next_field n r) = good-field names (name_of x) n (exp_kind g h a) (field_exp_kinds g h f r)

  -- written signatures are ordered explicit
  pub sig_explicit : (g : Env) {a : SigEx} {x : Abs} → IsGoodEnv g → SigMeans g a x → Explicit (kinds g) x
  sig_explicit g h (SigMeans.sig_path m p) = sig-path (module_good g h m) p
  sig_explicit g h (SigMeans.sig_decls d) = decls-explicit (decls_good g h d)
  sig_explicit g h (SigMeans.sig_generative {x = x} {ks = ks} {s = s} {y = y} a b GenerativeSigGives.generative) =
      let e = sig_explicit g h a in
      generative_explicit e (subst (λ c. Explicit c y) (kinds-type_vars g ks) (sig_explicit (with_module g ks (name_of x) s) (good-module g ks (name_of x) s h (body-of e)) b))
  sig_explicit g h (SigMeans.sig_applicative {x = x} {ks = ks} {s = s} {y = y} a b l) =
      let e = sig_explicit g h a in
      lift_explicit e (subst (λ c. Explicit c y) (kinds-type_vars g ks) (sig_explicit (with_module g ks (name_of x) s) (good-module g ks (name_of x) s h (body-of e)) b)) l
  sig_explicit g h (SigMeans.sig_refine a b r) = refined-explicit (sig_explicit g h a) (type_kind g h b) r

  -- a declaration means an ordered explicit signature
  pub decl_explicit : (g : Env) {a : Decl} {x : Abs} → IsGoodEnv g → DeclMeans g a x → Explicit (kinds g) x
  decl_explicit g h (DeclMeans.decl_val {x = x} {t = t} a ValueGives.value) = field_explicit (kinds g) [] (name_of x) (Sig.Val t) (plain_explicit (WellFormed.val (type_kind g h a)) in_val)
  decl_explicit g h (DeclMeans.decl_is {x = x} {t = t} {k = k} a TypeGives.type) = field_explicit (kinds g) [] (name_of x) (Sig.Typ t k) (plain_explicit (WellFormed.typ (type_kind g h a)) in_typ)
  decl_explicit g h (DeclMeans.decl_of {x = x} {k = k} AbstractGives.abstract) = field_explicit (kinds g) (k ∷ []) (name_of x) (Sig.Typ (eta k (Ty.Var 0)) k) (opaque_explicit (kinds g) k)
  decl_explicit g h (DeclMeans.decl_module {x = x} {y = Abs.Ex ks s} a ModuleGives.module_) = field_explicit (kinds g) ks (name_of x) s (sig_explicit g h a)
  decl_explicit g h (DeclMeans.decl_signature {x = x} {y = y} a SignatureGives.signature) = field_explicit (kinds g) [] (name_of x) (Sig.Meta y) (plain_explicit (WellFormed.meta (sig_explicit g h a)) in_meta)
  decl_explicit g h (DeclMeans.decl_include a IncludeGives.include) = sig_explicit g h a

  pub decls_good : (g : Env) {names : List Name} {a : Decls} {x : Abs} → IsGoodEnv g → DeclsMean g names a x → GoodDecls (kinds g) names x
  decls_good g {names} h DeclsMean.no_decls = decls (plain_explicit (WellFormed.str tt WellFormedRow.end) (in_str in_end)) (no_fields-end names)
  decls_good g {names} h (DeclsMean.next_decl {ks = ks} {fs = fs} d n r (DeclarationsGive.declarations {js = js} {gs = gs})) =
      let e = decl_explicit g h d in
      more-decls e n (subst (λ c. GoodDecls c (with_names fs names) (Abs.Ex js (Sig.Str gs))) (under-fields g ks fs) (decls_good (named_fields (type_vars g ks) fs) (good-declared g ks fs h e) r))

  -- a module phrase means a module whose signature is well formed, and which keeps types of the right kinds
  pub module_good : (g : Env) {a : Mod} {m : Module} → IsGoodEnv g → ModMeans g a m → GoodModule (kinds g) m
  module_good g h (ModMeans.mod_name {x = x} (NamedGives.named {s = s} {e = e} p)) = pure (find-well_formed g (name_of x) h (s, e) p) OfKinds.none
  module_good g h (ModMeans.mod_struct b) = binds_good g h tt b
  module_good g h (ModMeans.mod_project m p) = good-projected (module_good g h m) p
  module_good g h (ModMeans.mod_applicative {x = x} {ks = ks} {s = s} {y = y} {ts = ts} {e = d} a b (PureFunctorGives.pure_functor l)) =
      let e = sig_explicit g h a in
      good-lifted e (subst (λ c. GoodModule c (made Pure y ts d)) (kinds-type_vars g ks) (module_good (with_module g ks (name_of x) s) (good-module g ks (name_of x) s h (body-of e)) b)) l
  module_good g h (ModMeans.mod_generative {x = x} {ks = ks} {s = s} {f = f} {y = y} {ts = ts} {e = c} a b q (GenerativeGives.generative p)) =
      let e = sig_explicit g h a in
      good-functor {d = c} e (subst (λ z. GoodModule z (made f y ts c)) (kinds-type_vars g ks) (module_good (with_module g ks (name_of x) s) (good-module g ks (name_of x) s h (body-of e)) b))
  module_good g h (ModMeans.mod_apply {x = x} {d = d} p (PartsGive.parts {f = f} {ks = ks} {s = s} {y = y}) q m (ApplyGives.apply n)) = good-instance (find-well_formed g (name_of x) h (Sig.Fun f ks s y, d) p) (match-kinds m) n
  module_good g h (ModMeans.mod_seal p s m SealGives.seal) = good-sealed (sig_explicit g h s) m
  module_good g h (ModMeans.mod_unpack e s n UnpackGives.unpack) = good-explicit (norm_abs-explicit n (sig_explicit g h s))

  -- a binding means a module of a well formed signature
  pub bind_good : (g : Env) {a : Bind} {x : Name} {m : Module} → IsGoodEnv g → BindMeans g a x m → GoodModule (kinds g) m
  bind_good g h (BindMeans.bind_val e ValueModule.value) = pure (WellFormed.val (exp_kind g h e)) OfKinds.none
  bind_good g h (BindMeans.bind_ty t TypeModule.type) = pure (WellFormed.typ (type_kind g h t)) OfKinds.none
  bind_good g h (BindMeans.bind_signature s SignatureModule.signature) = pure (WellFormed.meta (sig_explicit g h s)) OfKinds.none
  bind_good g h (BindMeans.bind_module m) = module_good g h m

  -- bindings mean a module of a well formed signature
  pub binds_good : (g : Env) {names : List Name} {a : Binds} {m : Module} → IsGoodEnv g → NamesRise names → BindsMean g names a m → GoodModule (kinds g) m
  binds_good g h o (BindsMean.no_binds c) = pure (WellFormed.str (collected-rising o c) (collected-well_formed h c)) OfKinds.none
  binds_good g {names} h o (BindsMean.next_bind {x = x} {ks = ks} {s = s} {rest = rest} b r q) =
      let m = bind_good g h b in
      good-sequel m (subst (λ c. GoodModule c rest) (kinds-type_vars g ks) (binds_good (with_module g ks x s) (good-module g ks x s h (good-sig m)) (rise-with_name x names o) r)) q
  binds_good g {names} h o (BindsMean.next_include {ks = ks} {fs = fs} m r (IncludeModule.include {h = f} {us = us} {d = d} {y = y} q)) =
      let n = module_good g h m in
      good-rest n (subst (λ c. GoodModule c (made f y us d)) (kinds-named_fields (with_module g ks include_name (Sig.Str fs)) fs ∙ kinds-type_vars g ks) (binds_good (named_fields (with_module g ks include_name (Sig.Str fs)) fs) (good-included g ks fs h (good-sig n)) (rise-with_names fs names o) r)) q

-- a program's signature is well formed
pub program_good : {a : Binds} {m : Module} {e : Term} → ProgramMeans a m e → GoodModule [] m
program_good (program b p) = binds_good [] tt tt b
