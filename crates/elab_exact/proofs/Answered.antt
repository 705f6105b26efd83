-- In a good environment each phrase means exactly one thing or is refused in exactly one way.
-- Main results: type-one, exp-one, sig-one, mod-one, binds-one.
use Rattle.std.specs.Prelude.{List, [], ◌∷◌, ◌≡◌, Bool, true, false, Some}
use Rattle.std.proofs.Math.Path.{refl, sym, subst, ap, ◌∙◌}
use Rattle.omega_kinds.specs.Kind.{Kind, Kind-discrete}
use Rattle.omega_kinds.specs.declared.effect.Effect.TheVariants.{Pure, Impure}
use Rattle.omega_kinds.specs.Name.{Name}
use Rattle.omega_types.specs.Ty.{Ty}
use Rattle.omega_types.specs.Kinding.{HasKind}
use Rattle.omega_types.proofs.Inverse.{arrow-kinds}
use Rattle.omega_types.specs.Normality.{Normal}
use Rattle.omega_types.specs.Normality.Normal.{n_arrow}
use Rattle.omega_types.specs.Binders.{extend}
use Rattle.omega_types.proofs.Preservation.{normal-kind}
use Rattle.omega_terms.specs.Term.{Term}
use Rattle.sig_definitions.specs.Signatures.Sig.{Sig, Abs, SigRow, Module, made}
use Rattle.sig_definitions.specs.Matching.Subtyping.{Match}
use Rattle.sig_definitions.specs.Env.{Env, Value, kinds, find, type_vars, with_module, named_fields}
use Rattle.sig_definitions.specs.Signatures.FieldOrder.{with_name, with_names}
use Rattle.sig_definitions.specs.Matching.MatchRefusal.{MatchRefusal, RefusesMatch}
use Rattle.sig_laws.proofs.Formed.Conditions.{abs-body, structure-row}
use Rattle.fing_syntax.specs.Phrase.{Span, SpanName, Mod, ModAt, ModName, ModStruct, ModProject, ModFunctor, ModApply, ModSeal, ModUnpack, Bind, BindAt, BindVal, BindTy, BindModule, BindSignature, BindInclude, Binds, NoBinds, MoreBinds, SigEx, SigAt, PathSig, SigDecls, SigFun, SigRefine, Decl, DeclAt, DeclVal, DeclTyIs, DeclTyOf, DeclModule, DeclSignature, DeclInclude, Decls, NoDecls, MoreDecls, TyEx, TyAt, PathTy, TyInt, TyBool, TyText, TyArrow, TyApply, TyFields, TyAll, TyLam, TyPack, TySum, TyMu, TyExs, NoTys, MoreTys, FieldTyExs, NoFieldTys, MoreFieldTys, Exp, ExpAt, PathExp, ExpInt, ExpBool, ExpText, ExpLam, ExpTyLam, ExpFix, ExpIf, ExpOps, ExpApply, ExpFields, ExpGet, ExpPack, ExpInj, ExpCase, ExpRoll, ExpUnroll, OpExps, NoOps, MoreOps, ArgExp, ArgTy, Args, NoArgs, MoreArgs, FieldExps, NoFieldExps, MoreFieldExps, Branches, NoBranches, MoreBranches}
use Rattle.fing_syntax.specs.Place.{name_of, name_span, ty_span, exp_span, sig_span, up_to}
use Rattle.core_judgments.specs.CoreWhy.{CoreWhy}
use Rattle.core_judgments.specs.OneOutcome.{Never}
use Rattle.core_judgments.specs.TypeRules.{Base, AppliedGives}
use Rattle.core_judgments.specs.ExpRules.{Literal, CallGives, InstanceGives}
use Rattle.core_judgments.proofs.TypeVerdicts.{one_base, one_record_type, one_arrow, one_all, one_operator, one_applied}
use Rattle.core_judgments.proofs.ExpVerdicts.{one_literal, one_record, one_function, one_type_function, one_call, one_instance, one_get, one_if, one_operation, one_fix}
use Rattle.core_judgments.proofs.SumVerdicts.{one_sum, one_label, one_injection, one_case}
use Rattle.core_judgments.proofs.DataVerdicts.{one_mu, one_roll, one_unroll}
use Rattle.sig_judgments.specs.SigRules.{ValueGives, TypeGives, AbstractGives, ModuleGives, SignatureGives, IncludeGives, DeclarationsGive}
use Rattle.sig_judgments.proofs.Verdicts.{one_value, one_type, one_abstract, one_module, one_signature, one_include, one_generative, one_distinct, one_declarations}
use Rattle.module_judgments.proofs.Verdicts.{str-same, one_named, one_projected, one_type_path, one_value_path, one_sig_path, one_parts, one_generative as one_generative_module, found-one as bound-one, applies-one, include-one, included-structure, one_seal, one_value_module, one_type_module, one_signature_module, param-ok}
use Rattle.module_judgments.specs.ModWhy.{ModWhy}
use Rattle.module_judgments.specs.ModRules.{NamedRefuses}
use Rattle.functor_judgments.proofs.Verdicts.{one_pure_functor}
use Rattle.package_judgments.proofs.Verdicts.{one_pack_type, one_pack_matched, one_unpack}
use Rattle.elab_judgments.specs.Operators.{names_of, with_type, include_name, omega_op}
use Rattle.refusal_reasons.specs.Refusal.{Refusal}
use Rattle.elab_judgments.specs.Refusals.Refusal.{refuse, refuse_match, of_mod}
use Rattle.elab_judgments.specs.Judgments.Meaning.{DeclMeans, DeclsMean}
use Rattle.sig_definitions.specs.Verdict.{Verdict, holds, refuses, One, Perhaps, one, none}
use Rattle.elab_judgments.specs.Refusals.Task.{Task, a_type, type_args, type_fields, an_exp, operands, args, fields, branches, a_sig, a_decl, decls, a_mod, a_bind, binds}
use Rattle.elab_judgments.specs.Refusals.Steps.{steps, functor_sig, refined, decls_from, generative, functor_of, functor_body, after_bind, after_include}
use Rattle.elab_exact.specs.Claims.{Exactly}
use Rattle.sig_laws.specs.Good.{OkSig, OkRow, OkRight, OkEnv, OkModule, Names}
use Rattle.elab_laws.proofs.FieldLaws.{rise-with_name, rise-with_names}
use Rattle.elab_laws.proofs.SumTyping.{label-normal}
use Rattle.elab_laws.proofs.Kept.{type_ok, exp_ok, sig_ok, decl_ok, mod_ok, bind_ok, binds_ok, norm_ok}
use Rattle.sig_judgments.proofs.WhereVerdict.{one_where}
use Rattle.elab_exact.proofs.Places.{placed}
use Rattle.elab_exact.proofs.Rules.Generic.{Ready, answer, perhaps-some, dec-test, one-the, stopped}
use Rattle.elab_exact.proofs.Rules.Complete.{means-runs}
use Rattle.elab_exact.proofs.Rules.Correct.{steps-sound}
use Rattle.sig_laws.specs.Decide.{dec_ty}
use Rattle.sig_laws.proofs.Formed.Forms.{kind-arrow, type-arrow, type-all, type-record, new_dec}
use Rattle.sig_premise_laws.proofs.Environments.{body-ok, good-module, good-fields, good-type_fields, find-good, bound-module, bound-bind, bound-fields}
use Rattle.sig_match_laws.proofs.Theorems.{match-verdict}
use Rattle.sig_norm_laws.proofs.NormClaims.{norm-one}
use Rattle.sig_premise_laws.proofs.Determined.{lift-one}
use Rattle.module_judgments.proofs.Determined.{collected-one, seq-one}
use Rattle.sig_laws.proofs.Encoded.EnvTyping.{kinds-named_fields}
use Rattle.sig_laws.proofs.Formed.WellFormedShape.{kinded}
use Rattle.sig_laws.proofs.Algebra.FormLaws.{kinds-type_vars, module-under}

done : (g : Env) (a : Task) → Ready (steps g a) → Exactly g a
done g a t = answer g a (means-runs g a) (steps-sound g a) t

-- refusals that are made of others
pub mapped : {A R S : Type 0} {P : A → Type 0} {Q : R → Type 0} (f : R → S) → Verdict P Q → Verdict P (λ s. (r : R) × Q r × (s ≡ f r))
mapped f (holds x p only never) = holds x p only (λ s q. never q.0 q.1)
mapped f (refuses r q only never) = refuses (f r) (r, q, refl) (λ s u. u.2 ∙ ap f (only u.0 u.1)) never

star-one : {r : Refusal} (k : Kind) → Verdict {A = Unit {0}} (λ u. k ≡ Kind.Star) (λ q. (k ≡ Kind.Star → ⊥) × (q ≡ r))
star-one {r} k = dec-test r (Kind-discrete k Kind.Star)

-- a recursive type
type-mu : (t : Ty) → Perhaps (λ body. t ≡ Ty.Mu body)
type-mu (Ty.Mu b) = one b refl (λ p e. cc)
type-mu (Ty.Var n) = none (λ p e. cc)
type-mu Ty.Int = none (λ p e. cc)
type-mu Ty.Bool = none (λ p e. cc)
type-mu Ty.Text = none (λ p e. cc)
type-mu (Ty.Arrow a b) = none (λ p e. cc)
type-mu (Ty.Fields row) = none (λ p e. cc)
type-mu (Ty.Sum row) = none (λ p e. cc)
type-mu (Ty.All k b) = none (λ p e. cc)
type-mu (Ty.Ex k b) = none (λ p e. cc)
type-mu (Ty.Lam k b) = none (λ p e. cc)
type-mu (Ty.Apply a b) = none (λ p e. cc)

-- the kinds of what rules give
applied-kind : {ctx : List Kind} {t u v : Ty} {k j l : Kind} → AppliedGives ctx t k u j v l → HasKind ctx v l
applied-kind (AppliedGives.applied n) = normal-kind n.0

call-kind : {ctx : List Kind} {t u v : Ty} {d e c : Term} → CallGives t d u e v c → HasKind ctx t Kind.Star → HasKind ctx v Kind.Star
call-kind CallGives.call h = (arrow-kinds h).1

instance-kind : {ctx : List Kind} {t u v : Ty} {k : Kind} {e c : Term} → InstanceGives ctx t e u k v c → HasKind ctx v Kind.Star
instance-kind (InstanceGives.instance n) = normal-kind n.0

-- a rule without refusals
never-refused : {A : Type 0} {P : A → Type 0} → Verdict {R = CoreWhy} P Never → Verdict {R = Refusal} P (λ q. ⊥)
never-refused (holds x p only never) = holds x p only (λ q h. h)
never-refused (refuses r q only never) = absurd q

found-one : (g : Env) (x : SpanName) → Verdict (λ o. find g (name_of x) ≡ Some o) (λ q. (why : ModWhy) × NamedRefuses g (name_of x) why × (q ≡ refuse g (name_span x) (of_mod why)))
found-one g x = mapped _ (bound-one g (name_of x))

-- an environment under the binders of a signature
right-under : (g : Env) (ks : List Kind) {x : Abs} → OkRight (kinds (type_vars g ks)) x → OkRight (extend (kinds g) ks) x
right-under g ks {x} h = subst (λ ctx. OkRight ctx x) (kinds-type_vars g ks) h

-- declarations are structures
abbrev body : Abs → Sig
body (Abs.Ex ks s) = s

decl-structure : {g : Env} {d : Decl} {x : Abs} → DeclMeans g d x → (fs : SigRow) × (body x ≡ Sig.Str fs)
decl-structure (DeclMeans.decl_val p ValueGives.value) = (_, refl)
decl-structure (DeclMeans.decl_is p TypeGives.type) = (_, refl)
decl-structure (DeclMeans.decl_of AbstractGives.abstract) = (_, refl)
decl-structure (DeclMeans.decl_module p ModuleGives.module_) = (_, refl)
decl-structure (DeclMeans.decl_signature p SignatureGives.signature) = (_, refl)
decl-structure (DeclMeans.decl_include p IncludeGives.include) = (_, refl)

decls-structure : {g : Env} {before : List Name} {ds : Decls} {x : Abs} → DeclsMean g before ds x → (fs : SigRow) × (body x ≡ Sig.Str fs)
decls-structure DeclsMean.no_decls = (_, refl)
decls-structure (DeclsMean.next_decl p n q DeclarationsGive.declarations) = (_, refl)

structure-one : {s : Sig} → (fs : SigRow) × (s ≡ Sig.Str fs) → One (λ fs. s ≡ Sig.Str fs)
structure-one p = (p.0, p.1, λ gs e. str-same (sym e ∙ p.1))

sequence-one : {g : Env} {before : List Name} {ds : Decls} (ks : List Kind) (fs : SigRow) (y : Abs) → DeclsMean g before ds y → One (DeclarationsGive (Abs.Ex ks (Sig.Str fs)) y)
sequence-one ks fs (Abs.Ex js t) q = let v = decls-structure q in subst (λ t. One (DeclarationsGive (Abs.Ex ks (Sig.Str fs)) (Abs.Ex js t))) (sym v.1) (one_declarations ks js fs v.0)

decls_from-ready : (g : Env) → OkEnv g → (before : List Name) (d : Decl) (ds : Decls) (x : Abs) → OkRight (kinds g) x → DeclMeans g d x → ((k : Env) → OkEnv k → (names : List Name) → Exactly k (decls names ds)) → Ready (decls_from g before d ds x)
decls_from-ready g h before d ds (Abs.Ex ks s) w p go = (
  one-the (structure-one (decl-structure p)),
  λ fs e. (
    mapped _ (one_distinct before fs),
    λ u n. (
      go (named_fields (type_vars g ks) fs) (good-type_fields g ks fs h (structure-row (subst (λ s. OkSig (extend (kinds g) ks) s) e (body-ok w)))) (with_names fs before),
      λ y q. (one-the (sequence-one ks fs y q), λ z r. tt),
    ),
  ),
)

refined-ready : (g : Env) (z : SpanName) (path : List SpanName) (b : TyEx) (x : Abs) (u : Ty × Kind) → OkRight (kinds g) x → Normal (kinds g) u.0 u.1 → Ready (refined g z path b x u)
refined-ready g z path b (Abs.Ex ks s) u w h = (placed g ks s z path b u (one_where (kinds g) (Abs.Ex ks s) (names_of (z ∷ path)) u.0 u.1 w.1 h), λ y r. tt)

functor_sig-ready : (g : Env) → OkEnv g → (pure : Bool) (x : SpanName) (b : SigEx) (y : Abs) → OkRight (kinds g) y → ((k : Env) → OkEnv k → Exactly k (a_sig b)) → Ready (functor_sig g pure x b y)
functor_sig-ready g h false x b (Abs.Ex ks s) w go = (go (with_module g ks (name_of x) s) (good-module g ks (name_of x) s h (body-ok w)), λ y p. (one-the (one_generative (Abs.Ex ks s) y), λ z r. tt))
functor_sig-ready g h true x b (Abs.Ex ks s) w go =
    let good = good-module g ks (name_of x) s h (body-ok w) in
    (go (with_module g ks (name_of x) s) good, λ y p. (one-the (lift-one (kinds g) ks s y w.1 (right-under g ks (sig_ok (with_module g ks (name_of x) s) b y good p)).1), λ z l. tt))

generative-ready : (g : Env) (ks : List Kind) (s : Sig) (M : Module) → OkModule (extend (kinds g) ks) M → Ready (generative g ks s M)
generative-ready g ks s M w = (one-the (one_generative_module (kinds g) ks s M (kinded (extend (kinds g) ks) M w)), λ N r. tt)

functor_of-ready : (g : Env) (ks : List Kind) (s : Sig) (gen : Bool) (M : Module) → OkRight (kinds g) (Abs.Ex ks s) → OkModule (extend (kinds g) ks) M → Ready (functor_of g ks s gen M)
functor_of-ready g ks s false (made Pure (Abs.Ex js t) ts e) v w = (one-the (one_pure_functor (kinds g) ks s (Abs.Ex js t) ts e v.1 w.0.1), λ N r. tt)
functor_of-ready g ks s false (made Impure (Abs.Ex js t) ts e) v w = generative-ready g ks s (made Impure (Abs.Ex js t) ts e) w
functor_of-ready g ks s true (made f y ts e) v w = generative-ready g ks s (made f y ts e) w

functor_body-ready : (g : Env) → OkEnv g → (gen : Bool) (x : SpanName) (b : Mod) (y : Abs) → OkRight (kinds g) y → ((k : Env) → OkEnv k → Exactly k (a_mod b)) → Ready (functor_body g gen x b y)
functor_body-ready g h gen x b (Abs.Ex ks s) w go =
    let good = good-module g ks (name_of x) s h (body-ok w) in
    (go (with_module g ks (name_of x) s) good, λ M p. functor_of-ready g ks s gen M w (module-under g ks M (mod_ok (with_module g ks (name_of x) s) b M good p)))

after_bind-ready : (g : Env) → OkEnv g → (before : List Name) → Names g before → (bs : Binds) (x : Name) (M : Module) → OkModule (kinds g) M → ((k : Env) → OkEnv k → (names : List Name) → Names k names → Exactly k (binds names bs)) → Ready (after_bind g before bs x M)
after_bind-ready g h before bd bs x (made f (Abs.Ex ks s) ts e) w go =
    let good = good-module g ks x s h (abs-body w.0.0, w.0.1) in (
      go (with_module g ks x s) good (with_name x before) (bound-bind g ks x s before bd.0, rise-with_name x before bd.1),
      λ N q. (one-the (seq-one (kinds g) ks f s ts e N w (module-under g ks N (binds_ok (with_module g ks x s) (with_name x before) bs N good (rise-with_name x before bd.1) q))), λ K j. tt),
    )

after_include-ready : (g : Env) → OkEnv g → (before : List Name) → Names g before → (m : Mod) (bs : Binds) (M : Module) → OkModule (kinds g) M → ((k : Env) → OkEnv k → (names : List Name) → Names k names → Exactly k (binds names bs)) → Ready (after_include g before m bs M)
after_include-ready g h before bd m bs (made f (Abs.Ex ks s) ts e) w go = (
  mapped _ (included-structure ks f s ts e),
  λ fs i.
      let v : OkModule (kinds g) (made f (Abs.Ex ks (Sig.Str fs)) ts e) = subst (λ s. OkModule (kinds g) (made f (Abs.Ex ks s) ts e)) i w in
      let inner = with_module g ks include_name (Sig.Str fs) in
      let sig : OkSig (extend (kinds g) ks) (Sig.Str fs) = (abs-body v.0.0, v.0.1) in
      let row : OkRow (kinds inner) fs = subst (λ ctx. OkRow ctx fs) (sym (kinds-type_vars g ks)) (structure-row sig) in
      let good = good-fields inner fs (good-module g ks include_name (Sig.Str fs) h sig) row in (
        go (named_fields inner fs) good (with_names fs before) (bound-fields inner fs before (bound-module g ks include_name (Sig.Str fs) before bd.0), rise-with_names fs before bd.1),
        λ N q.
            let n : OkModule (kinds inner) N = subst (λ ctx. OkModule ctx N) (kinds-named_fields inner fs) (binds_ok (named_fields inner fs) (with_names fs before) bs N good (rise-with_names fs before bd.1) q) in
            (one-the (include-one (kinds g) ks f fs ts e N v (module-under g ks N n)), λ K j. tt),
      ),
)

matched-one : (g : Env) → OkEnv g → (at : Span) (s : Sig) (y : Abs) → OkSig (kinds g) s → OkRight (kinds g) y → Verdict (λ (o : List Ty × Term). Match (kinds g) s y o.0 o.1) (λ q. (r : MatchRefusal) × RefusesMatch (kinds g) s y r × (q ≡ refuse_match g at r))
matched-one g h at s y w v = mapped (refuse_match g at) (match-verdict (kinds g) s y w v)

mutual
  -- a type phrase has exactly one outcome or exactly one refusal
  pub type-one : (g : Env) → OkEnv g → (a : TyEx) → Exactly g (a_type a)
  type-one g h (TyAt at (PathTy m)) = done g (a_type (TyAt at (PathTy m))) (mod-one g h m, λ M p. (mapped _ (one_type_path (kinds g) M (kinded (kinds g) M (mod_ok g m M h p))), λ o r. tt))
  type-one g h (TyAt at TyInt) = done g (a_type (TyAt at TyInt)) (never-refused (one_base Base.Int), λ o r. tt)
  type-one g h (TyAt at TyBool) = done g (a_type (TyAt at TyBool)) (never-refused (one_base Base.Bool), λ o r. tt)
  type-one g h (TyAt at TyText) = done g (a_type (TyAt at TyText)) (never-refused (one_base Base.Text), λ o r. tt)
  type-one g h (TyAt at (TyArrow a b)) = done g (a_type (TyAt at (TyArrow a b))) (type-one g h a, λ t p. (star-one t.1, λ u e. (type-one g h b, λ v q. (mapped _ (one_arrow t.0 t.1 v.0 v.1), λ o r. tt))))
  type-one g h (TyAt at (TyApply a rest)) = done g (a_type (TyAt at (TyApply a rest))) (type-one g h a, λ t p. (type_args-one g h (ty_span a) t.0 t.1 rest (normal-kind (type_ok g a t.0 t.1 h p)), λ u q. tt))
  type-one g h (TyAt at (TyFields rest)) = done g (a_type (TyAt at (TyFields rest))) (type_fields-one g h [] rest, λ parts p. (mapped _ (one_record_type [] parts), λ row r. tt))
  type-one g h (TyAt at (TyAll x k b)) = done g (a_type (TyAt at (TyAll x k b))) (type-one (with_type g k (name_of x)) (tt, (tt, h)) b, λ t p. (mapped _ (one_all k t.0 t.1), λ o r. tt))
  type-one g h (TyAt at (TyLam x k b)) = done g (a_type (TyAt at (TyLam x k b))) (type-one (with_type g k (name_of x)) (tt, (tt, h)) b, λ t p. (never-refused (one_operator k t.0 t.1), λ o r. tt))
  type-one g h (TyAt at (TyPack a)) = done g (a_type (TyAt at (TyPack a))) (sig-one g h a, λ x p. (one-the (one_pack_type (kinds g) x (sig_ok g a x h p)), λ y n. tt))
  type-one g h (TyAt at (TySum rest)) =
      done g (a_type (TyAt at (TySum rest))) (type_fields-one g h [] rest, λ parts p. (mapped _ (one_record_type [] parts), λ row r. tt))
  type-one g h (TyAt at (TyMu x b)) =
      done g (a_type (TyAt at (TyMu x b)))
      (type-one (with_type g Kind.Star (name_of x)) (tt, (tt, h)) b, λ t p. (mapped _ (one_mu t.0 t.1), λ o r. tt))

  -- type arguments of an operator that has a kind have exactly one outcome or exactly one refusal
  pub type_args-one : (g : Env) → OkEnv g → (at : Span) (t : Ty) (k : Kind) (rest : TyExs) → HasKind (kinds g) t k → Exactly g (type_args at t k rest)
  type_args-one g h at t k NoTys w = done g (type_args at t k NoTys) tt
  type_args-one g h at t k (MoreTys a rest) w =
      done g (type_args at t k (MoreTys a rest)) (
        perhaps-some _ (kind-arrow k),
        λ p e. (
          type-one g h a,
          λ u q. (
            mapped _ (one_applied (kinds g) t k u.0 u.1 w (normal-kind (type_ok g a u.0 u.1 h q))),
            λ v f. (type_args-one g h (up_to at (ty_span a)) v.0 v.1 rest (applied-kind f), λ z r. tt),
          ),
        ),
      )

  -- fields of a record type have exactly one outcome or exactly one refusal
  pub type_fields-one : (g : Env) → OkEnv g → (before : List Name) (rest : FieldTyExs) → Exactly g (type_fields before rest)
  type_fields-one g h before NoFieldTys = done g (type_fields before NoFieldTys) tt
  type_fields-one g h before (MoreFieldTys x a rest) = done g (type_fields before (MoreFieldTys x a rest)) (dec-test _ (new_dec (name_of x) before), λ u n. (type-one g h a, λ t p. (star-one t.1, λ v e. (type_fields-one g h (name_of x ∷ before) rest, λ row q. tt))))

  -- an expression has exactly one outcome or exactly one refusal
  pub exp-one : (g : Env) → OkEnv g → (a : Exp) → Exactly g (an_exp a)
  exp-one g h (ExpAt at (PathExp m)) = done g (an_exp (ExpAt at (PathExp m))) (mod-one g h m, λ M p. (mapped _ (one_value_path (kinds g) M (kinded (kinds g) M (mod_ok g m M h p))), λ o r. tt))
  exp-one g h (ExpAt at (ExpInt z)) = done g (an_exp (ExpAt at (ExpInt z))) (never-refused (one_literal (Literal.Int z)), λ o r. tt)
  exp-one g h (ExpAt at (ExpBool b)) = done g (an_exp (ExpAt at (ExpBool b))) (never-refused (one_literal (Literal.Bool b)), λ o r. tt)
  exp-one g h (ExpAt at (ExpText w)) = done g (an_exp (ExpAt at (ExpText w))) (never-refused (one_literal (Literal.Text w)), λ o r. tt)
  exp-one g h (ExpAt at (ExpLam x a b)) =
      done g (an_exp (ExpAt at (ExpLam x a b)))
      (type-one g h a, λ t p. (star-one t.1, λ u e. (exp-one (Value (name_of x) t.0 ∷ g) (subst (λ k. Normal (kinds g) t.0 k) e (type_ok g a t.0 t.1 h p), h) b, λ v q. (mapped _ (one_function t.0 t.1 v.0 v.1), λ o r. tt))))
  exp-one g h (ExpAt at (ExpTyLam x k b)) = done g (an_exp (ExpAt at (ExpTyLam x k b))) (exp-one (with_type g k (name_of x)) (tt, (tt, h)) b, λ t p. (never-refused (one_type_function k t.0 t.1), λ o r. tt))
  exp-one g h (ExpAt at (ExpFix f x a b c)) =
      done g (an_exp (ExpAt at (ExpFix f x a b c))) (
        type-one g h a,
        λ t p. (
          star-one t.1,
          λ u e. (
            type-one g h b,
            λ v q. (
              star-one v.1,
              λ w i.
                  let m = subst (λ k. Normal (kinds g) t.0 k) e (type_ok g a t.0 t.1 h p) in
                  let n = subst (λ k. Normal (kinds g) v.0 k) i (type_ok g b v.0 v.1 h q) in
                  (exp-one (Value (name_of x) t.0 ∷ Value (name_of f) (Ty.Arrow t.0 v.0) ∷ g) (m, (n_arrow m n, h)) c, λ z r. (mapped _ (one_fix t.0 t.1 v.0 v.1 z.0 z.1), λ o j. tt)),
            ),
          ),
        ),
      )
  exp-one g h (ExpAt at (ExpIf a b c)) = done g (an_exp (ExpAt at (ExpIf a b c))) (exp-one g h a, λ t p. (dec-test _ (dec_ty t.0 Ty.Bool), λ u e. (exp-one g h b, λ v q. (exp-one g h c, λ w r. (mapped _ (one_if t.0 t.1 v.0 v.1 w.0 w.1), λ o j. tt)))))
  exp-one g h (ExpAt at (ExpOps a rest)) = done g (an_exp (ExpAt at (ExpOps a rest))) (exp-one g h a, λ t p. (operands-one g h (exp_span a) t.0 t.1 rest, λ u q. tt))
  exp-one g h (ExpAt at (ExpApply a rest)) = done g (an_exp (ExpAt at (ExpApply a rest))) (exp-one g h a, λ t p. (args-one g h (exp_span a) t.0 t.1 rest (normal-kind (exp_ok g a t.0 t.1 h p)), λ u q. tt))
  exp-one g h (ExpAt at (ExpFields rest)) = done g (an_exp (ExpAt at (ExpFields rest))) (fields-one g h [] rest, λ parts p. (mapped _ (one_record [] parts), λ o r. tt))
  exp-one g h (ExpAt at (ExpGet a x)) = done g (an_exp (ExpAt at (ExpGet a x))) (exp-one g h a, λ t p. (perhaps-some _ (type-record t.0), λ row e. (mapped _ (one_get t.0 t.1 (name_of x)), λ o q. tt)))
  exp-one g h (ExpAt at (ExpPack x a)) =
      done g (an_exp (ExpAt at (ExpPack x a))) (
        found-one g x,
        λ o f. (
          sig-one g h a,
          λ y p. (
            one-the (norm-one (kinds g) y (sig_ok g a y h p)),
            λ z n.
                let w = norm_ok (kinds g) y z (sig_ok g a y h p) n in
                (matched-one g h (sig_span a) o.0 z (find-good g (name_of x) h o f) w, λ m k. (one-the (one_pack_matched (kinds g) o.0 o.1 z m.0 m.1 w k), λ d j. tt)),
          ),
        ),
      )
  exp-one g h (ExpAt at (ExpInj x a b)) =
      done g (an_exp (ExpAt at (ExpInj x a b))) (
        exp-one g h a,
        λ t p. (
          type-one g h b,
          λ u q. (
            star-one u.1,
            λ i e. (
              mapped _ (one_sum u.0),
              λ row s. (mapped _ (one_label u.0 (name_of x)), λ v l. (mapped _ (one_injection (name_of x) t.0 t.1 u.0 u.1), λ o r. tt)),
            ),
          ),
        ),
      )
  exp-one g h (ExpAt at (ExpCase a b rest)) =
      done g (an_exp (ExpAt at (ExpCase a b rest))) (
        exp-one g h a,
        λ t p. (
          mapped _ (one_sum t.0),
          λ row s. (
            type-one g h b,
            λ u q. (
              star-one u.1,
              λ i e. (branches-one g h t.0 u.0 [] rest (exp_ok g a t.0 t.1 h p), λ parts r. (mapped _ (one_case t.0 t.1 u.0 u.1 parts), λ o k. tt)),
            ),
          ),
        ),
      )
  exp-one g h (ExpAt at (ExpRoll a b)) =
      done g (an_exp (ExpAt at (ExpRoll a b))) (
        exp-one g h a,
        λ t p. (
          type-one g h b,
          λ u q. (
            star-one u.1,
            λ i e. (perhaps-some _ (type-mu u.0), λ body s. (mapped _ (one_roll (kinds g) t.0 t.1 u.0 u.1 (normal-kind (type_ok g b u.0 u.1 h q))), λ o r. tt)),
          ),
        ),
      )
  exp-one g h (ExpAt at (ExpUnroll a)) =
      done g (an_exp (ExpAt at (ExpUnroll a)))
      (exp-one g h a, λ t p. (mapped _ (one_unroll (kinds g) t.0 t.1 (normal-kind (exp_ok g a t.0 t.1 h p))), λ o r. tt))

  -- operators with their operands have exactly one outcome or exactly one refusal
  pub operands-one : (g : Env) → OkEnv g → (at : Span) (t : Ty) (e : Term) (rest : OpExps) → Exactly g (operands at t e rest)
  operands-one g h at t e NoOps = done g (operands at t e NoOps) tt
  operands-one g h at t e (MoreOps o b rest) =
      done g (operands at t e (MoreOps o b rest))
      (dec-test _ (dec_ty t Ty.Int), λ u i. (exp-one g h b, λ v p. (mapped _ (one_operation (omega_op o) t e v.0 v.1), λ w j. (operands-one g h (up_to at (exp_span b)) w.0 w.1 rest, λ z q. tt))))

  -- arguments of a function whose type has kind * have exactly one outcome or exactly one refusal
  pub args-one : (g : Env) → OkEnv g → (at : Span) (t : Ty) (e : Term) (rest : Args) → HasKind (kinds g) t Kind.Star → Exactly g (args at t e rest)
  args-one g h at t e NoArgs k = done g (args at t e NoArgs) tt
  args-one g h at t e (MoreArgs (ArgExp b) rest) k =
      done g (args at t e (MoreArgs (ArgExp b) rest)) (
        perhaps-some _ (type-arrow t),
        λ p i. (exp-one g h b, λ u q. (mapped _ (one_call t e u.0 u.1), λ v j. (args-one g h (up_to at (exp_span b)) v.0 v.1 rest (call-kind j k), λ z r. tt))),
      )
  args-one g h at t e (MoreArgs (ArgTy a place) rest) k =
      done g (args at t e (MoreArgs (ArgTy a place) rest)) (
        perhaps-some _ (type-all t),
        λ p i. (
          type-one g h a,
          λ u q. (
            mapped _ (one_instance (kinds g) t e u.0 u.1 k (normal-kind (type_ok g a u.0 u.1 h q))),
            λ v j. (args-one g h (up_to at place) v.0 v.1 rest (instance-kind j), λ z r. tt),
          ),
        ),
      )

  -- fields of a record have exactly one outcome or exactly one refusal
  pub fields-one : (g : Env) → OkEnv g → (before : List Name) (rest : FieldExps) → Exactly g (fields before rest)
  fields-one g h before NoFieldExps = done g (fields before NoFieldExps) tt
  fields-one g h before (MoreFieldExps x a rest) = done g (fields before (MoreFieldExps x a rest)) (dec-test _ (new_dec (name_of x) before), λ u n. (exp-one g h a, λ t p. (fields-one g h (name_of x ∷ before) rest, λ o q. tt)))

  -- branches of a case on a normal type have exactly one outcome or exactly one refusal
  pub branches-one : (g : Env) → OkEnv g
      → (w t : Ty) (before : List Name) (rest : Branches)
      → Normal (kinds g) w Kind.Star
      → Exactly g (branches w t before rest)
  branches-one g h w t before NoBranches n = done g (branches w t before NoBranches) tt
  branches-one g h w t before (MoreBranches x y a rest) n =
      done g (branches w t before (MoreBranches x y a rest)) (
        dec-test _ (new_dec (name_of x) before),
        λ i m. (
          mapped _ (one_label w (name_of x)),
          λ u l. (
            exp-one (Value (name_of y) u ∷ g) (label-normal l n, h) a,
            λ v p. (dec-test _ (dec_ty v.0 t), λ j e. (branches-one g h w t (name_of x ∷ before) rest n, λ parts q. tt)),
          ),
        ),
      )

  -- a signature phrase has exactly one outcome or exactly one refusal
  pub sig-one : (g : Env) → OkEnv g → (a : SigEx) → Exactly g (a_sig a)
  sig-one g h (SigAt at (PathSig m)) = done g (a_sig (SigAt at (PathSig m))) (mod-one g h m, λ M p. (mapped _ (one_sig_path (kinds g) M (kinded (kinds g) M (mod_ok g m M h p))), λ x r. tt))
  sig-one g h (SigAt at (SigDecls ds)) = done g (a_sig (SigAt at (SigDecls ds))) (decls-one g h [] ds, λ x p. tt)
  sig-one g h (SigAt at (SigFun pure x a b)) = done g (a_sig (SigAt at (SigFun pure x a b))) (sig-one g h a, λ y p. functor_sig-ready g h pure x b y (sig_ok g a y h p) (λ k w. sig-one k w b))
  sig-one g h (SigAt at (SigRefine a z path b)) = done g (a_sig (SigAt at (SigRefine a z path b))) (sig-one g h a, λ x p. (type-one g h b, λ u q. refined-ready g z path b x u (sig_ok g a x h p) (type_ok g b u.0 u.1 h q)))

  -- a declaration has exactly one outcome or exactly one refusal
  pub decl-one : (g : Env) → OkEnv g → (d : Decl) → Exactly g (a_decl d)
  decl-one g h (DeclAt at (DeclVal x a)) = done g (a_decl (DeclAt at (DeclVal x a))) (type-one g h a, λ t p. (mapped _ (one_value (name_of x) t.0 t.1), λ y r. tt))
  decl-one g h (DeclAt at (DeclTyIs x a)) = done g (a_decl (DeclAt at (DeclTyIs x a))) (type-one g h a, λ t p. (one-the (one_type (name_of x) t.0 t.1), λ y r. tt))
  decl-one g h (DeclAt at (DeclTyOf x k)) = done g (a_decl (DeclAt at (DeclTyOf x k))) (one-the (one_abstract (name_of x) k), λ y r. tt)
  decl-one g h (DeclAt at (DeclModule x a)) = done g (a_decl (DeclAt at (DeclModule x a))) (sig-one g h a, λ y p. (one-the (one_module (name_of x) y), λ z r. tt))
  decl-one g h (DeclAt at (DeclSignature x a)) = done g (a_decl (DeclAt at (DeclSignature x a))) (sig-one g h a, λ y p. (one-the (one_signature (name_of x) y), λ z r. tt))
  decl-one g h (DeclAt at (DeclInclude a)) = done g (a_decl (DeclAt at (DeclInclude a))) (sig-one g h a, λ y p. (mapped _ (one_include y), λ z r. tt))

  -- declarations after names have exactly one outcome or exactly one refusal
  pub decls-one : (g : Env) → OkEnv g → (before : List Name) (ds : Decls) → Exactly g (decls before ds)
  decls-one g h before NoDecls = done g (decls before NoDecls) tt
  decls-one g h before (MoreDecls d ds) = done g (decls before (MoreDecls d ds)) (decl-one g h d, λ x p. decls_from-ready g h before d ds x (decl_ok g d x h p) p (λ k w names. decls-one k w names ds))

  -- a module phrase has exactly one outcome or exactly one refusal
  pub mod-one : (g : Env) → OkEnv g → (m : Mod) → Exactly g (a_mod m)
  mod-one g h (ModAt at (ModName x)) = done g (a_mod (ModAt at (ModName x))) (mapped _ (one_named g (name_of x)), λ M r. tt)
  mod-one g h (ModAt at (ModStruct bs)) = done g (a_mod (ModAt at (ModStruct bs))) (binds-one g h [] (tt, tt) bs, λ M p. tt)
  mod-one g h (ModAt at (ModProject m x)) = done g (a_mod (ModAt at (ModProject m x))) (mod-one g h m, λ M p. (mapped _ (one_projected (kinds g) M (name_of x) (kinded (kinds g) M (mod_ok g m M h p))), λ N r. tt))
  mod-one g h (ModAt at (ModFunctor gen x a b)) = done g (a_mod (ModAt at (ModFunctor gen x a b))) (sig-one g h a, λ y p. functor_body-ready g h gen x b y (sig_ok g a y h p) (λ k w. mod-one k w b))
  mod-one g h (ModAt at (ModApply x z)) =
      done g (a_mod (ModAt at (ModApply x z))) (
        found-one g x,
        λ o f. (
          mapped _ (one_parts o.0),
          λ p e. (
            found-one g z,
            λ q i.
                let w = find-good g (name_of x) h o f in
                (matched-one g h (name_span z) q.0 p.1 (find-good g (name_of z) h q i) (param-ok e w), λ m k. (one-the (applies-one e k w), λ M r. tt)),
          ),
        ),
      )
  mod-one g h (ModAt at (ModSeal x a)) =
      done g (a_mod (ModAt at (ModSeal x a)))
      (found-one g x, λ o f. (sig-one g h a, λ y p. (matched-one g h (sig_span a) o.0 y (find-good g (name_of x) h o f) (sig_ok g a y h p), λ m k. (one-the (one_seal o.1 y m.0 m.1), λ M r. tt))))
  mod-one g h (ModAt at (ModUnpack b a)) =
      done g (a_mod (ModAt at (ModUnpack b a)))
      (exp-one g h b, λ t p. (sig-one g h a, λ x q. (one-the (norm-one (kinds g) x (sig_ok g a x h q)), λ y n. (mapped _ (one_unpack t.0 t.1 y), λ M r. tt))))

  -- bindings after names that are found and rise have exactly one outcome or exactly one refusal
  pub binds-one : (g : Env) → OkEnv g → (before : List Name) → Names g before → (bs : Binds) → Exactly g (binds before bs)
  binds-one g h before bd NoBinds = done g (binds before NoBinds) (one-the (collected-one g before bd.0), λ o c. tt)
  binds-one g h before bd (MoreBinds (BindAt at (BindInclude m)) bs) =
      done g (binds before (MoreBinds (BindAt at (BindInclude m)) bs))
      (mod-one g h m, λ M p. after_include-ready g h before bd m bs M (mod_ok g m M h p) (λ k w names b. binds-one k w names b bs))
  binds-one g h before bd (MoreBinds (BindAt at b) bs) =
      done g (binds before (MoreBinds (BindAt at b) bs))
      (bind-one g h (BindAt at b), λ o p. after_bind-ready g h before bd bs o.0 o.1 (bind_ok g (BindAt at b) o.0 o.1 h p) (λ k w names c. binds-one k w names c bs))

  -- a binding has exactly one outcome or exactly one refusal
  pub bind-one : (g : Env) → OkEnv g → (b : Bind) → Exactly g (a_bind b)
  bind-one g h (BindAt at (BindVal x a)) = done g (a_bind (BindAt at (BindVal x a))) (exp-one g h a, λ t p. (one-the (one_value_module t.0 t.1), λ M r. tt))
  bind-one g h (BindAt at (BindTy x a)) = done g (a_bind (BindAt at (BindTy x a))) (type-one g h a, λ t p. (one-the (one_type_module t.0 t.1), λ M r. tt))
  bind-one g h (BindAt at (BindSignature x a)) = done g (a_bind (BindAt at (BindSignature x a))) (sig-one g h a, λ t p. (one-the (one_signature_module t), λ M r. tt))
  bind-one g h (BindAt at (BindModule x m)) = done g (a_bind (BindAt at (BindModule x m))) (mod-one g h m, λ t p. tt)
  bind-one g h (BindAt at (BindInclude m)) = done g (a_bind (BindAt at (BindInclude m))) (stopped _, λ b u. absurd b)
