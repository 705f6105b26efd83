-- Whatever a spelled phrase means is legible. By one induction on the derivations.
-- Main results: ty-legible, exp-legible, sig-legible, mod-legible, binds-legible.
use Rattle.std.specs.Prelude.{◌≡◌, List, ◌∷◌, ◌++◌, Some, None}
use Rattle.std.proofs.Math.Path.{refl, sym, subst}
use Rattle.omega_kinds.specs.Kind.{Kind}
use Rattle.omega_kinds.specs.declared.label.Label.{Label}
use Rattle.omega_kinds.specs.declared.effect.Effect.{Effect}
use Rattle.omega_kinds.specs.declared.effect.Effect.TheVariants.{Pure, Impure}
use Rattle.omega_kinds.specs.Name.{Name}
use Rattle.omega_types.specs.Ty.{Ty, Row}
use Rattle.omega_types.specs.Normality.{Normals}
use Rattle.omega_types.specs.Normality.Normal.{n_arrow}
use Rattle.omega_types.specs.Binders.{extend, past}
use Rattle.omega_terms.specs.declared.version.Version.{Version}
use Rattle.omega_terms.specs.Term.{Term, TermRow}
use Rattle.omega_terms.proofs.NormalTyping.{normal-sum}
use Rattle.sig_definitions.specs.Signatures.Sig.{Sig, Abs, SigRow, Module, made}
use Rattle.sig_definitions.specs.Signatures.SigSubst.{raise_sig_row}
use Rattle.sig_definitions.specs.Signatures.Encoding.{enc_abs}
use Rattle.sig_definitions.specs.Signatures.FieldOrder.{merge, with_names}
use Rattle.sig_definitions.specs.Signatures.RecordOrder.{insert_part, IsNew, AreNew, NamesRise}
use Rattle.sig_definitions.specs.Matching.Subtyping.{Match}
use Rattle.sig_definitions.specs.Env.{Env, Value, kinds, find, type_vars, with_module, named_fields}
use Rattle.sig_laws.specs.Good.{OkSig, OkRow, OkRight, OkEnv, OkModule}
use Rattle.sig_laws.proofs.Algebra.FormLaws.{kinds-type_vars}
use Rattle.sig_laws.proofs.Formed.Conditions.{abs-body, left-functor, structure-row}
use Rattle.sig_premise_laws.proofs.Environments.{body-ok, good-module, good-fields, good-type_fields, find-good}
use Rattle.fing_syntax.specs.Phrase.{TyEx, TyExs, FieldTyExs, Exp, OpExps, Args, FieldExps, Branches, SigEx, Decl, Decls, Mod, Bind}
use Rattle.fing_syntax.specs.Phrase.{Binds}
use Rattle.fing_syntax.specs.Place.{name_of}
use Rattle.core_judgments.specs.TypeRules.{BaseGives, FieldTy, RecordTypeGives, ArrowGives, AllGives, OperatorGives, AppliedGives}
use Rattle.core_judgments.specs.ExpRules.{LiteralGives, FieldExp, RecordGives, FunctionGives, TypeFunctionGives, CallGives, InstanceGives, GetGives, IfGives}
use Rattle.core_judgments.specs.ExpRules.{OperationGives, FixGives, LabelGives, InjectionGives, CaseGives}
use Rattle.core_judgments.specs.DataRules.{MuGives, RollGives, UnrollGives}
use Rattle.sig_judgments.specs.SigRules.{ValueGives, TypeGives, AbstractGives, ModuleGives, SignatureGives, IncludeGives, DeclarationsGive}
use Rattle.sig_judgments.specs.SigRules.{GenerativeGives as GenerativeSigGives}
use Rattle.module_judgments.specs.ModRules.{NamedGives, GenerativeGives, PartsGive, IncludeGives as IncludeModule, SealGives, ValueGives as ValueModule}
use Rattle.module_judgments.specs.ModRules.{TypeGives as TypeModule, SignatureGives as SignatureModule}
use Rattle.functor_judgments.specs.PureFunctor.{PureFunctorGives}
use Rattle.package_judgments.specs.Package.{PackTypeGives, PackGives, UnpackGives}
use Rattle.elab_judgments.specs.Operators.{omega_op, include_name, with_type}
use Rattle.elab_judgments.specs.Judgments.Meaning.{TyMeans, ArgTysMean, FieldTysMean, ExpMeans, OpsMean, ArgsMean, FieldExpsMean, SigMeans, DeclMeans}
use Rattle.elab_judgments.specs.Judgments.Meaning.{BranchesMean, DeclsMean, ModMeans, BindMeans, BindsMean}
use Rattle.elab_laws.proofs.FieldLaws.{FreshAll, fresh_all-end, fresh_all-insert, NoFields, no_fields-end, no_fields-joined, with_names-no_fields, apart-rename}
use Rattle.elab_laws.proofs.FieldLaws.{rise-with_name, rise-with_names}
use Rattle.elab_laws.proofs.SumTyping.{part-normal}
use Rattle.elab_laws.proofs.Kept.{type_ok, exp_ok, sig_ok, decl_ok, mod_ok, bind_ok, norm_ok}
use Rattle.elab_spelling.specs.Legible.{TyLegible, RowLegible, TypesLegible, TermLegible, TermRowLegible}
use Rattle.elab_spelling.specs.Signatures.{NameSpelled, NamesSpelled, AbsLegible, FieldsLegible, ModuleLegible, EnvLegible}
use Rattle.elab_spelling.specs.Phrases.{ModSpelled, BindSpelled, BindsSpelled, SigExSpelled, DeclSpelled, DeclsSpelled, TyExSpelled, TyExsSpelled}
use Rattle.elab_spelling.specs.Phrases.{FieldTyExsSpelled, ExpSpelled, OpExpsSpelled, ArgsSpelled, FieldExpsSpelled, BranchesSpelled}
use Rattle.elab_spelling.proofs.Types.{eta-legible, instantiate-legible}
use Rattle.elab_spelling.proofs.Forms.{form-legible}
use Rattle.elab_spelling.proofs.Terms.{packs-legible, one_field-legible, type_term-legible}
use Rattle.elab_spelling.proofs.Signatures.{rename_fields-legible, norm-legible, enc_abs-legible}
use Rattle.elab_spelling.proofs.Matching.{match-legible}
use Rattle.elab_spelling.proofs.Fields.{FreshTermAll, fresh_term_all-end, fresh_term_all-insert, insert_part-legible, insert_term-legible, part-legible}
use Rattle.elab_spelling.proofs.Fields.{PartsLegible, in_order-legible, merge-legible, with_name-spelled, with_names-spelled, follow-none}
use Rattle.elab_spelling.proofs.Rules.{type_vars-legible, named_fields-legible, found-legible, result_type-legible, type_path-legible, value_path-legible}
use Rattle.elab_spelling.proofs.Rules.{sig_path-legible, lift-legible, lifted_types-legible, refined-legible, packed-legible, projected-legible}
use Rattle.elab_spelling.proofs.Rules.{functor-legible, applied-module-legible, sequence-legible, field_lets-legible, collected-legible}

-- environments for what follows

in-module : (g : Env) (ks : List Kind) (x : Name) (s : Sig) → OkEnv g → OkRight (kinds g) (Abs.Ex ks s) → OkEnv (with_module g ks x s)
in-module g ks x s w r = good-module g ks x s w (body-ok r)

module-body : {ctx ks : List Kind} (f : Effect) {s : Sig} (ts : List Ty) (e : Term) → OkModule ctx (made f (Abs.Ex ks s) ts e) → OkSig (extend ctx ks) s
module-body f ts e h = (abs-body h.0.0, h.0.1)

after-include : (g : Env) (ks : List Kind) (fs : SigRow) → OkEnv g → OkSig (extend (kinds g) ks) (Sig.Str fs)
    → OkEnv (named_fields (with_module g ks include_name (Sig.Str fs)) fs)
after-include g ks fs w r = good-fields (with_module g ks include_name (Sig.Str fs)) fs (good-module g ks include_name (Sig.Str fs) w r)
    (subst (λ ctx. OkRow ctx fs) (sym (kinds-type_vars g ks)) (structure-row r))

param-ok : {ctx ks : List Kind} {f : Effect} {s : Sig} {y : Abs} → OkSig ctx (Sig.Fun f ks s y) → OkRight ctx (Abs.Ex ks s)
param-ok w = ((left-functor w.0).0, w.1.0)

module _ (v : Version) where
  abbrev pub GoodRow : List Name → Row → Type 0
  GoodRow names row = RowLegible v None row × FreshAll names row

  abbrev pub GoodTermRow : List Name → Row → TermRow → Type 0
  GoodTermRow names row es = GoodRow names row × (TermRowLegible v None es × FreshTermAll names es)

  one-field : (names : List Name) (x : Name) (t : Ty) (row : Row) → IsNew x names → NameSpelled x → TyLegible v t → GoodRow (x ∷ names) row
      → GoodRow names (insert_part (Label.Name x) t row)
  one-field names x t row n s h g = (insert_part-legible v None (Label.Name x) t row refl s h g.1.0 g.0, fresh_all-insert names x t row n g.1.1)

  -- a matched module: what is found, and what it is matched against
  found-match : (g : Env) (x : Name) {s : Sig} {y : Abs} {e f : Term} {ts : List Ty} → OkEnv g → EnvLegible v g → find g x ≡ Some (s, e)
      → OkRight (kinds g) y → AbsLegible v y → Match (kinds g) s y ts f → TermLegible v e × (TypesLegible v ts × TermLegible v f)
  found-match g x {s = s} {e = e} w l p r h m = let o = found-legible v g x l p in (o.1, match-legible v (find-good g x w (s, e) p) r m o.0 h)

  -- declarations give a legible signature of fields of names that are new
  pub data GoodDecls (names : List Name) : Abs → Type 0 where
    good_decls : {ks : List Kind} {fs : SigRow} → FieldsLegible v None fs → NoFields names fs → GoodDecls names (Abs.Ex ks (Sig.Str fs))

  good-abs : {names : List Name} {x : Abs} → GoodDecls names x → AbsLegible v x
  good-abs (good_decls h n) = h

  joined-decls : {names : List Name} (ks : List Kind) {js : List Kind} (fs : SigRow) {gs : SigRow} → AreNew fs names → FieldsLegible v None fs
      → GoodDecls (with_names fs names) (Abs.Ex js (Sig.Str gs)) → GoodDecls names (Abs.Ex (ks ++ js) (Sig.Str (merge (raise_sig_row js fs) gs)))
  joined-decls {names} ks {js} fs {gs} a h (good_decls g n) =
      good_decls (merge-legible v None (raise_sig_row js fs) gs (apart-rename (past js) fs gs (with_names-no_fields fs names gs n).0)
      (rename_fields-legible v (past js) None fs h) g) (no_fields-joined (past js) names fs gs a n)

  mutual
    -- a type phrase that is spelled means a legible type
    pub ty-legible : (g : Env) {a : TyEx} {t : Ty} {k : Kind} → OkEnv g → EnvLegible v g → TyExSpelled v a → TyMeans g a t k → TyLegible v t
    ty-legible g w l s (TyMeans.ty_path m p) = type_path-legible v (mod-legible g w l s m) p
    ty-legible g w l s (TyMeans.ty_int BaseGives.int) = tt
    ty-legible g w l s (TyMeans.ty_bool BaseGives.bool) = tt
    ty-legible g w l s (TyMeans.ty_text BaseGives.text) = tt
    ty-legible g w l s (TyMeans.ty_arrow a b ArrowGives.arrow) = (ty-legible g w l s.0 a, ty-legible g w l s.1 b)
    ty-legible g w l s (TyMeans.ty_apply a r) = arg_tys-legible g w l s.1 (ty-legible g w l s.0 a) r
    ty-legible g w l s (TyMeans.ty_fields f r) = (field_tys-legible g w l s f r).0
    ty-legible g w l s (TyMeans.ty_all {a = a} {k = k} b AllGives.all) = ty-legible (with_type g k (name_of a)) (tt, (tt, w)) l s.1 b
    ty-legible g w l s (TyMeans.ty_lam {a = a} {k = k} b OperatorGives.operator) = ty-legible (with_type g k (name_of a)) (tt, (tt, w)) l s.1 b
    ty-legible g w l s (TyMeans.ty_pack a (PackTypeGives.pack_type {y = y} n)) = enc_abs-legible v y (norm-legible v n (sig-legible g w l s a))
    ty-legible g w l s (TyMeans.ty_sum f r) = (s.0, (field_tys-legible g w l s.1 f r).0)
    ty-legible g w l s (TyMeans.ty_mu {x = x} b MuGives.mu) = (s.0, ty-legible (with_type g Kind.Star (name_of x)) (tt, (tt, w)) l s.2 b)

    pub arg_tys-legible : (g : Env) {rest : TyExs} {t u : Ty} {k j : Kind} → OkEnv g → EnvLegible v g → TyExsSpelled v rest → TyLegible v t
        → ArgTysMean g t k rest u j → TyLegible v u
    arg_tys-legible g w l s h ArgTysMean.no_args = h
    arg_tys-legible g w l s h (ArgTysMean.next_arg a (AppliedGives.applied n) r) = arg_tys-legible g w l s.1 (form-legible v n (h, ty-legible g w l s.0 a)) r

    pub field_tys-legible : (g : Env) {names : List Name} {a : FieldTyExs} {parts : List FieldTy} {row : Row} → OkEnv g → EnvLegible v g
        → FieldTyExsSpelled v a → FieldTysMean g names a parts → RecordTypeGives names parts row → GoodRow names row
    field_tys-legible g {names} w l s FieldTysMean.no_field_tys RecordTypeGives.no_fields = (tt, fresh_all-end names)
    field_tys-legible g {names} w l s (FieldTysMean.next_field_ty {x = x} {t = t} m a f) (RecordTypeGives.next_field {row = row} n r) =
        one-field names (name_of x) t row n s.0 (ty-legible g w l s.1 a) (field_tys-legible g w l s.2 f r)

    -- an expression that is spelled means a legible type and a legible term
    pub exp-legible : (g : Env) {a : Exp} {t : Ty} {e : Term} → OkEnv g → EnvLegible v g → ExpSpelled v a → ExpMeans g a t e → TyLegible v t × TermLegible v e
    exp-legible g w l s (ExpMeans.exp_path m p) = value_path-legible v (mod-legible g w l s m) p
    exp-legible g w l s (ExpMeans.exp_int LiteralGives.int) = (tt, s)
    exp-legible g w l s (ExpMeans.exp_bool LiteralGives.bool) = (tt, tt)
    exp-legible g w l s (ExpMeans.exp_text LiteralGives.text) = (tt, s)
    exp-legible g w l s (ExpMeans.exp_lam {x = x} {t = t} a b FunctionGives.function) =
        let h = ty-legible g w l s.1 a in
        let i = exp-legible (Value (name_of x) t ∷ g) (type_ok g _ _ _ w a, w) (h, l) s.2 b in
        ((h, i.0), (h, i.1))
    exp-legible g w l s (ExpMeans.exp_ty_lam {a = a} {k = k} b TypeFunctionGives.type_function) = exp-legible (with_type g k (name_of a)) (tt, (tt, w)) l s.1 b
    exp-legible g w l s (ExpMeans.exp_fix {f = f} {x = x} {t = t} {u = u} a b e FixGives.fix) =
        let h = ty-legible g w l s.1 a in
        let i = ty-legible g w l s.2 b in
        let n = type_ok g _ _ _ w a in
        let m = type_ok g _ _ _ w b in
        let o = exp-legible (Value (name_of x) t ∷ Value (name_of f) (Ty.Arrow t u) ∷ g) (n, (n_arrow n m, w)) (h, ((h, i), l)) s.3 e in
        ((h, i), (h, i, o.1))
    exp-legible g w l s (ExpMeans.exp_if a b c IfGives.if_) =
        let p = exp-legible g w l s.1 b in
        (p.0, ((exp-legible g w l s.0 a).1, p.1, (exp-legible g w l s.2 c).1))
    exp-legible g w l s (ExpMeans.exp_ops a r) = ops-legible g w l s.1 (exp-legible g w l s.0 a) r
    exp-legible g w l s (ExpMeans.exp_apply a r) = args-legible g w l s.1 (exp-legible g w l s.0 a) r
    exp-legible g w l s (ExpMeans.exp_fields f r) = let p = field_exps-legible g w l s f r in (p.0.0, p.1.0)
    exp-legible g w l s (ExpMeans.exp_get a (GetGives.get p)) =
        let h = exp-legible g w l s.0 a in
        let q = part-legible v None h.0 p in
        (q.1, (h.1, q.0))
    exp-legible g w l s (ExpMeans.exp_pack {x = x} {y = y} {z = z} p a n m (PackGives.pack q)) =
        let h = norm-legible v n (sig-legible g w l s.1 a) in
        let o = found-match g (name_of x) w l p (norm_ok (kinds g) y z (sig_ok g _ y w a) n) h m in
        let u = enc_abs-legible v z h in
        (u, packs-legible v q o.1.0 (o.1.1, o.0) u)
    exp-legible g w l s (ExpMeans.exp_inj a b (InjectionGives.injection p)) =
        let h = ty-legible g w l s.3 b in
        (h, (s.0, s.1, (exp-legible g w l s.2 a).1, h))
    exp-legible g w l s (ExpMeans.exp_case a b c (CaseGives.case_ d o)) =
        let h = exp-legible g w l s.1 a in
        let i = ty-legible g w l s.2 b in
        let q = branches-legible g w l s.3 (normal-sum (exp_ok g _ _ _ w a)) h.0.1 c in
        (i, (s.0, h.1, i, in_order-legible v None h.0.1 q o))
    exp-legible g w l s (ExpMeans.exp_roll a b (RollGives.roll u)) =
        let h = ty-legible g w l s.2 b in
        (h, (s.0, (exp-legible g w l s.1 a).1, h))
    exp-legible g w l s (ExpMeans.exp_unroll a (UnrollGives.unroll {b = b} u)) =
        let h = exp-legible g w l s.1 a in
        (form-legible v u (instantiate-legible v b (Ty.Mu b) h.0.1 h.0), (s.0, h.1))

    pub ops-legible : (g : Env) {rest : OpExps} {t u : Ty} {d e : Term} → OkEnv g → EnvLegible v g → OpExpsSpelled v rest → TyLegible v t × TermLegible v d
        → OpsMean g t d rest u e → TyLegible v u × TermLegible v e
    ops-legible g w l s h OpsMean.no_ops = h
    ops-legible g w l s h (OpsMean.next_op {o = o} b OperationGives.operation r) =
        ops-legible g w l s.1 (result_type-legible v (omega_op o), (h.1, (exp-legible g w l s.0 b).1)) r

    pub args-legible : (g : Env) {rest : Args} {t u : Ty} {d e : Term} → OkEnv g → EnvLegible v g → ArgsSpelled v rest → TyLegible v t × TermLegible v d
        → ArgsMean g t d rest u e → TyLegible v u × TermLegible v e
    args-legible g w l s h ArgsMean.no_arg = h
    args-legible g w l s h (ArgsMean.next_value b CallGives.call r) = args-legible g w l s.1 (h.0.1, (h.1, (exp-legible g w l s.0 b).1)) r
    args-legible g w l s h (ArgsMean.next_type a (InstanceGives.instance {u = u} {t = t} n) r) =
        let i = ty-legible g w l s.0 a in
        args-legible g w l s.1 (form-legible v n (instantiate-legible v u t h.0 i), (h.1, i)) r

    pub field_exps-legible : (g : Env) {names : List Name} {a : FieldExps} {parts : List FieldExp} {row : Row} {es : TermRow} → OkEnv g → EnvLegible v g
        → FieldExpsSpelled v a → FieldExpsMean g names a parts → RecordGives names parts row es → GoodTermRow names row es
    field_exps-legible g {names} w l s FieldExpsMean.no_field_exps RecordGives.no_fields = ((tt, fresh_all-end names), (tt, fresh_term_all-end names))
    field_exps-legible g {names} w l s (FieldExpsMean.next_field_exp {x = x} {t = t} {e = e} m a f) (RecordGives.next_field {row = row} {es = es} n r) =
        let h = exp-legible g w l s.1 a in
        let q = field_exps-legible g w l s.2 f r in (
          one-field names (name_of x) t row n s.0 h.0 q.0,
          (insert_term-legible v None (Label.Name (name_of x)) e es refl s.0 h.1 q.1.1.0 q.1.0, fresh_term_all-insert names (name_of x) e es n q.1.1.1),
        )

    pub branches-legible : (g : Env) {names : List Name} {row : Row} {t : Ty} {a : Branches} {parts : List FieldExp} → OkEnv g
        → EnvLegible v g → BranchesSpelled v a → Normals (kinds g) row → RowLegible v None row → BranchesMean g (Ty.Sum row) t names a parts
        → PartsLegible v parts
    branches-legible g w l s n h BranchesMean.no_branches = tt
    branches-legible g w l s n h (BranchesMean.next_branch {u = u} {y = y} m (LabelGives.label p) a r) =
        let i = (part-legible v None h p).1 in (
          (exp-legible (Value (name_of y) u ∷ g) (part-normal n p, w) (i, l) s.2 a).1,
          branches-legible g w l s.3 n h r,
        )

    -- a signature phrase that is spelled means a legible signature
    pub sig-legible : (g : Env) {a : SigEx} {x : Abs} → OkEnv g → EnvLegible v g → SigExSpelled v a → SigMeans g a x → AbsLegible v x
    sig-legible g w l s (SigMeans.sig_path m p) = sig_path-legible v (mod-legible g w l s m) p
    sig-legible g w l s (SigMeans.sig_decls d) = good-abs (decls-legible g w l s d)
    sig-legible g w l s (SigMeans.sig_generative {x = x} {ks = ks} {s = q} a b GenerativeSigGives.generative) =
        let h = sig-legible g w l s.1 a in
        (h, sig-legible (with_module g ks (name_of x) q) (in-module g ks (name_of x) q w (sig_ok g _ _ w a)) (h, type_vars-legible v g ks l) s.2 b)
    sig-legible g w l s (SigMeans.sig_applicative {x = x} {ks = ks} {s = q} a b f) =
        let h = sig-legible g w l s.1 a in
        lift-legible v h (sig-legible (with_module g ks (name_of x) q) (in-module g ks (name_of x) q w (sig_ok g _ _ w a))
        (h, type_vars-legible v g ks l) s.2 b) f
    sig-legible g w l s (SigMeans.sig_refine a b r) = refined-legible v (sig-legible g w l s.0 a) (ty-legible g w l s.2 b) r

    pub decl-legible : (g : Env) {a : Decl} {x : Abs} → OkEnv g → EnvLegible v g → DeclSpelled v a → DeclMeans g a x → AbsLegible v x
    decl-legible g w l s (DeclMeans.decl_val a ValueGives.value) = (refl, s.0, ty-legible g w l s.1 a, tt)
    decl-legible g w l s (DeclMeans.decl_is a TypeGives.type) = (refl, s.0, ty-legible g w l s.1 a, tt)
    decl-legible g w l s (DeclMeans.decl_of {k = k} AbstractGives.abstract) = (refl, s, eta-legible v k (Ty.Var 0) tt, tt)
    decl-legible g w l s (DeclMeans.decl_module a ModuleGives.module_) = (refl, s.0, sig-legible g w l s.1 a, tt)
    decl-legible g w l s (DeclMeans.decl_signature a SignatureGives.signature) = (refl, s.0, sig-legible g w l s.1 a, tt)
    decl-legible g w l s (DeclMeans.decl_include a IncludeGives.include) = sig-legible g w l s a

    pub decls-legible : (g : Env) {names : List Name} {a : Decls} {x : Abs} → OkEnv g → EnvLegible v g → DeclsSpelled v a → DeclsMean g names a x
        → GoodDecls names x
    decls-legible g {names} w l s DeclsMean.no_decls = good_decls tt (no_fields-end names)
    decls-legible g {names} w l s (DeclsMean.next_decl {ks = ks} {fs = fs} d n r DeclarationsGive.declarations) =
        let h = decl-legible g w l s.0 d in
        let inner = good-type_fields g ks fs w (structure-row (body-ok (decl_ok g _ _ w d))) in
        joined-decls ks fs n h (decls-legible (named_fields (type_vars g ks) fs) inner
        (named_fields-legible v None (type_vars g ks) fs (type_vars-legible v g ks l) h) s.1 r)

    -- a module phrase that is spelled means a legible module
    pub mod-legible : (g : Env) {a : Mod} {m : Module} → OkEnv g → EnvLegible v g → ModSpelled v a → ModMeans g a m → ModuleLegible v m
    mod-legible g w l s (ModMeans.mod_name {x = x} (NamedGives.named p)) = let o = found-legible v g (name_of x) l p in (o.0, tt, o.1)
    mod-legible g w l s (ModMeans.mod_struct b) = binds-legible g w l tt tt s b
    mod-legible g w l s (ModMeans.mod_project m p) = projected-legible v (mod-legible g w l s.0 m) p
    mod-legible g w l s (ModMeans.mod_applicative {x = x} {ks = ks} {s = q} a b (PureFunctorGives.pure_functor {ts = ts} {e = e} f)) =
        let h = sig-legible g w l s.1 a in
        let i = mod-legible (with_module g ks (name_of x) q) (in-module g ks (name_of x) q w (sig_ok g _ _ w a)) (h, type_vars-legible v g ks l) s.2 b in
        (lift-legible v h i.0 f, lifted_types-legible v ks ts i.1, functor-legible v ks q Pure e h i.2)
    mod-legible g w l s (ModMeans.mod_generative {x = x} {ks = ks} {s = q} a b o (GenerativeGives.generative {d = d} p)) =
        let h = sig-legible g w l s.1 a in
        let i = mod-legible (with_module g ks (name_of x) q) (in-module g ks (name_of x) q w (sig_ok g _ _ w a)) (h, type_vars-legible v g ks l) s.2 b in
        ((h, i.0), tt, functor-legible v ks q Impure d h (packed-legible v i p))
    mod-legible g w l s (ModMeans.mod_apply {x = x} {z = z} {d = d} p (PartsGive.parts {f = f} {ks = ks} {s = q} {y = y}) r m a) =
        let o = found-legible v g (name_of x) l p in
        let c = found-match g (name_of z) w l r (param-ok (find-good g (name_of x) w (Sig.Fun f ks q y, d) p)) o.0.0 m in
        applied-module-legible v o.0 o.1 c.1.0 c.1.1 c.0 a
    mod-legible g w l s (ModMeans.mod_seal {x = x} p a m SealGives.seal) =
        let h = sig-legible g w l s.1 a in
        let c = found-match g (name_of x) w l p (sig_ok g _ _ w a) h m in
        (h, c.1.0, (c.1.1, c.0))
    mod-legible g w l s (ModMeans.mod_unpack e a n UnpackGives.unpack) = (norm-legible v n (sig-legible g w l s.1 a), tt, (exp-legible g w l s.0 e).1)

    pub bind-legible : (g : Env) {a : Bind} {x : Name} {m : Module} → OkEnv g → EnvLegible v g → BindSpelled v a → BindMeans g a x m
        → NameSpelled x × ModuleLegible v m
    bind-legible g w l s (BindMeans.bind_val {e = e} a ValueModule.value) =
        let h = exp-legible g w l s.1 a in
        (s.0, (h.0, tt, one_field-legible v Label.Val e tt h.1))
    bind-legible g w l s (BindMeans.bind_ty {t = t} {k = k} a TypeModule.type) = let h = ty-legible g w l s.1 a in (s.0, (h, tt, type_term-legible v t k h))
    bind-legible g w l s (BindMeans.bind_signature {y = y} a SignatureModule.signature) =
        let h = sig-legible g w l s.1 a in
        (s.0, (h, tt, one_field-legible v Label.Sig (Term.Lam (enc_abs y) (Term.Var 0)) tt (enc_abs-legible v y h, tt)))
    bind-legible g w l s (BindMeans.bind_module m) = (s.0, mod-legible g w l s.1 m)

    -- bindings that are spelled mean a legible module
    pub binds-legible : (g : Env) {names : List Name} {a : Binds} {m : Module} → OkEnv g → EnvLegible v g → NamesRise names → NamesSpelled names
        → BindsSpelled v a → BindsMean g names a m → ModuleLegible v m
    binds-legible g {names} w l o n s (BindsMean.no_binds c) = let p = collected-legible v None l (follow-none names) o n c in (p.0, tt, p.1)
    binds-legible g {names} w l o n s (BindsMean.next_bind {x = x} {f = f} {ks = ks} {s = q} {ts = ts} {e = e} b r z) =
        let h = bind-legible g w l s.0 b in
        let inner = good-module g ks x q w (module-body f ts e (bind_ok g _ x _ w b)) in
        sequence-legible v h.1 (binds-legible (with_module g ks x q) inner (h.1.0, type_vars-legible v g ks l) (rise-with_name x names o)
        (with_name-spelled x names h.0 n) s.1 r) z
    binds-legible g {names} w l o n s (BindsMean.next_include {f = f} {ks = ks} {fs = fs} {ts = ts} {e = e} m r (IncludeModule.include {d = d} z)) =
        let h = mod-legible g w l s.0 m in
        let inner = after-include g ks fs w (module-body f ts e (mod_ok g _ _ w m)) in
        let legible = named_fields-legible v None (with_module g ks include_name (Sig.Str fs)) fs (h.0, type_vars-legible v g ks l) h.0 in
        let i = binds-legible (named_fields (with_module g ks include_name (Sig.Str fs)) fs) inner legible (rise-with_names fs names o)
        (with_names-spelled v None fs names h.0 n) s.1 r in
        sequence-legible v h (i.0, i.1, field_lets-legible v None 0 fs d h.0 i.2) z
