-- What the rule of a phrase gives is what the phrase means.
-- Main results: steps-sound.
use Rattle.std.specs.Prelude.{◌∷◌, List, ◌≡◌, Bool, true, false}
use Rattle.std.proofs.Math.Path.{refl, sym, subst}
use Rattle.omega_kinds.specs.Kind.{Kind}
use Rattle.omega_kinds.specs.declared.effect.Effect.{Effect}
use Rattle.omega_kinds.specs.declared.effect.Effect.TheVariants.{Pure, Impure}
use Rattle.omega_kinds.specs.Name.{Name}
use Rattle.omega_types.specs.Ty.{Ty}
use Rattle.omega_terms.specs.Term.{Term}
use Rattle.sig_definitions.specs.Signatures.Sig.{Sig, Abs, Module, made}
use Rattle.sig_definitions.specs.Env.{Env, Value, with_module}
use Rattle.fing_syntax.specs.Phrase.{Span, SpanName, Mod, ModAt, ModName, ModStruct, ModProject, ModFunctor, ModApply, ModSeal, ModUnpack, Bind, BindAt, BindVal, BindTy, BindModule, BindSignature, BindInclude, Binds, NoBinds, MoreBinds, SigEx, SigAt, PathSig, SigDecls, SigFun, SigRefine, Decl, DeclAt, DeclVal, DeclTyIs, DeclTyOf, DeclModule, DeclSignature, DeclInclude, Decls, NoDecls, MoreDecls, TyEx, TyAt, PathTy, TyInt, TyBool, TyText, TyArrow, TyApply, TyFields, TyAll, TyLam, TyPack, TySum, TyMu, TyExs, NoTys, MoreTys, FieldTyExs, NoFieldTys, MoreFieldTys, Exp, ExpAt, PathExp, ExpInt, ExpBool, ExpText, ExpLam, ExpTyLam, ExpFix, ExpIf, ExpOps, ExpApply, ExpFields, ExpGet, ExpPack, ExpInj, ExpCase, ExpRoll, ExpUnroll, OpExps, NoOps, MoreOps, ArgExp, ArgTy, Args, NoArgs, MoreArgs, FieldExps, NoFieldExps, MoreFieldExps, Branches, NoBranches, MoreBranches}
use Rattle.fing_syntax.specs.Place.{name_of}
use Rattle.core_judgments.specs.TypeRules.{FieldTy}
use Rattle.core_judgments.specs.ExpRules.{FieldExp}
use Rattle.elab_judgments.specs.Operators.{functor_effect}
use Rattle.elab_judgments.specs.Judgments.Meaning.{TyMeans, ArgTysMean, FieldTysMean, ExpMeans, OpsMean, ArgsMean, FieldExpsMean, BranchesMean, SigMeans, DeclMeans, DeclsMean, ModMeans, BindMeans, BindsMean}
use Rattle.elab_judgments.specs.Refusals.Task.{Task, Means, a_type, type_args, type_fields, an_exp, operands, args, fields, branches, a_sig, a_decl, decls, a_mod, a_bind, binds}
use Rattle.elab_judgments.specs.Refusals.Steps.{steps, type_steps, type_args_steps, type_fields_steps, exp_steps, operands_steps, args_steps, fields_steps, branches_steps, functor_sig, refined, sig_steps, decl_steps, decls_from, decls_steps, generative, functor_of, functor_body, mod_steps, bind_steps, after_bind, after_include, binds_steps}
use Rattle.elab_exact.proofs.Rules.Generic.{Sound}

pub at-kind : {g : Env} {a : TyEx} {t : Ty} {k j : Kind} → k ≡ j → TyMeans g a t k → TyMeans g a t j
at-kind {g} {a} {t} e p = subst (λ k. TyMeans g a t k) e p

pub at-sig : {g : Env} {m : Mod} {f : Effect} {ks : List Kind} {s t : Sig} {ts : List Ty} {e : Term} → s ≡ t → ModMeans g m (made f (Abs.Ex ks s) ts e) → ModMeans g m (made f (Abs.Ex ks t) ts e)
at-sig {g} {m} {f} {ks} {ts = ts} {e = e} q p = subst (λ s. ModMeans g m (made f (Abs.Ex ks s) ts e)) q p

type-sound : (g : Env) (a : TyEx) → Sound (type_steps g a) (λ o. TyMeans g a o.0 o.1)
type-sound g (TyAt at (PathTy m)) = λ M p o r. TyMeans.ty_path p r
type-sound g (TyAt at TyInt) = λ o r. TyMeans.ty_int r
type-sound g (TyAt at TyBool) = λ o r. TyMeans.ty_bool r
type-sound g (TyAt at TyText) = λ o r. TyMeans.ty_text r
type-sound g (TyAt at (TyArrow a b)) = λ t p h e u q o r. TyMeans.ty_arrow p q r
type-sound g (TyAt at (TyApply a rest)) = λ t p u q. TyMeans.ty_apply p q
type-sound g (TyAt at (TyFields rest)) = λ parts p row r. TyMeans.ty_fields p r
type-sound g (TyAt at (TyAll x k b)) = λ t p o r. TyMeans.ty_all p r
type-sound g (TyAt at (TyLam x k b)) = λ t p o r. TyMeans.ty_lam p r
type-sound g (TyAt at (TyPack a)) = λ x p y n. TyMeans.ty_pack p n
type-sound g (TyAt at (TySum rest)) = λ parts p row r. TyMeans.ty_sum p r
type-sound g (TyAt at (TyMu x b)) = λ t p o r. TyMeans.ty_mu p r

type_args-sound : (g : Env) (at : Span) (t : Ty) (k : Kind) (rest : TyExs) → Sound (type_args_steps g at t k rest) (λ o. ArgTysMean g t k rest o.0 o.1)
type_args-sound g at t k NoTys = ArgTysMean.no_args
type_args-sound g at t k (MoreTys a rest) = λ p e u q v n w r. ArgTysMean.next_arg q n r

type_fields-sound : (g : Env) (before : List Name) (rest : FieldTyExs) → Sound (type_fields_steps g before rest) (FieldTysMean g before rest)
type_fields-sound g before NoFieldTys = FieldTysMean.no_field_tys
type_fields-sound g before (MoreFieldTys x a rest) = λ h n t p i e parts q. subst (λ k. FieldTysMean g before (MoreFieldTys x a rest) (FieldTy.field (name_of x) t.0 k ∷ parts)) (sym e) (FieldTysMean.next_field_ty n (at-kind e p) q)

exp-sound : (g : Env) (a : Exp) → Sound (exp_steps g a) (λ o. ExpMeans g a o.0 o.1)
exp-sound g (ExpAt at (PathExp m)) = λ M p o r. ExpMeans.exp_path p r
exp-sound g (ExpAt at (ExpInt z)) = λ o r. ExpMeans.exp_int r
exp-sound g (ExpAt at (ExpBool b)) = λ o r. ExpMeans.exp_bool r
exp-sound g (ExpAt at (ExpText w)) = λ o r. ExpMeans.exp_text r
exp-sound g (ExpAt at (ExpLam x a b)) = λ t p h e u q o r. ExpMeans.exp_lam p q r
exp-sound g (ExpAt at (ExpTyLam x k b)) = λ t p o r. ExpMeans.exp_ty_lam p r
exp-sound g (ExpAt at (ExpFix f x a b c)) = λ t p h e u q i f v r o l. ExpMeans.exp_fix p q r l
exp-sound g (ExpAt at (ExpIf a b c)) = λ t p h e u q v r o f. ExpMeans.exp_if p q r f
exp-sound g (ExpAt at (ExpOps a rest)) = λ t p u q. ExpMeans.exp_ops p q
exp-sound g (ExpAt at (ExpApply a rest)) = λ t p u q. ExpMeans.exp_apply p q
exp-sound g (ExpAt at (ExpFields rest)) = λ parts p o r. ExpMeans.exp_fields p r
exp-sound g (ExpAt at (ExpGet a x)) = λ t p row e o h. ExpMeans.exp_get p h
exp-sound g (ExpAt at (ExpPack x a)) = λ o f y p z n m k d j. ExpMeans.exp_pack f p n k j
exp-sound g (ExpAt at (ExpInj x a b)) = λ t p u q h e row s v l o r. ExpMeans.exp_inj p q r
exp-sound g (ExpAt at (ExpCase a b rest)) = λ t p row s u q h e parts r o k. ExpMeans.exp_case p q r k
exp-sound g (ExpAt at (ExpRoll a b)) = λ t p u q h e body s o r. ExpMeans.exp_roll p q r
exp-sound g (ExpAt at (ExpUnroll a)) = λ t p o r. ExpMeans.exp_unroll p r

operands-sound : (g : Env) (at : Span) (t : Ty) (e : Term) (rest : OpExps) → Sound (operands_steps g at t e rest) (λ o. OpsMean g t e rest o.0 o.1)
operands-sound g at t e NoOps = OpsMean.no_ops
operands-sound g at t e (MoreOps o b rest) = λ h i u p r f v q. OpsMean.next_op p f q

args-sound : (g : Env) (at : Span) (t : Ty) (e : Term) (rest : Args) → Sound (args_steps g at t e rest) (λ o. ArgsMean g t e rest o.0 o.1)
args-sound g at t e NoArgs = ArgsMean.no_arg
args-sound g at t e (MoreArgs (ArgExp b) rest) = λ p i u q o f v r. ArgsMean.next_value q f r
args-sound g at t e (MoreArgs (ArgTy a place) rest) = λ p i u q o f w r. ArgsMean.next_type q f r

fields-sound : (g : Env) (before : List Name) (rest : FieldExps) → Sound (fields_steps g before rest) (FieldExpsMean g before rest)
fields-sound g before NoFieldExps = FieldExpsMean.no_field_exps
fields-sound g before (MoreFieldExps x a rest) = λ h n t p parts q. FieldExpsMean.next_field_exp n p q

branches-sound : (g : Env) (w t : Ty) (before : List Name) (rest : Branches) → Sound (branches_steps g w t before rest) (BranchesMean g w t before rest)
branches-sound g w t before NoBranches = BranchesMean.no_branches
branches-sound g w t before (MoreBranches x y a rest) =
    λ h n u l v p i e parts q. subst (λ z. BranchesMean g w t before (MoreBranches x y a rest) (FieldExp.field (name_of x) z v.1 ∷ parts)) (sym e)
    (BranchesMean.next_branch n l (subst (λ z. ExpMeans (Value (name_of y) u ∷ g) a z v.1) e p) q)

functor_sig-sound : (g : Env) (at : Span) (x : SpanName) (a b : SigEx) (pure : Bool) (y : Abs) → SigMeans g a y → Sound (functor_sig g pure x b y) (SigMeans g (SigAt at (SigFun pure x a b)))
functor_sig-sound g at x a b false (Abs.Ex ks s) p = λ y q z r. SigMeans.sig_generative p q r
functor_sig-sound g at x a b true (Abs.Ex ks s) p = λ y q z l. SigMeans.sig_applicative p q l

refined-sound : (g : Env) (at : Span) (a : SigEx) (z : SpanName) (path : List SpanName) (b : TyEx) (x : Abs) → SigMeans g a x → (u : Ty × Kind) → TyMeans g b u.0 u.1 → Sound (refined g z path b x u) (SigMeans g (SigAt at (SigRefine a z path b)))
refined-sound g at a z path b (Abs.Ex ks s) p u q = λ y r. SigMeans.sig_refine p q r

sig-sound : (g : Env) (a : SigEx) → Sound (sig_steps g a) (SigMeans g a)
sig-sound g (SigAt at (PathSig m)) = λ M p x r. SigMeans.sig_path p r
sig-sound g (SigAt at (SigDecls ds)) = λ x p. SigMeans.sig_decls p
sig-sound g (SigAt at (SigFun pure x a b)) = functor_sig-sound g at x a b pure
sig-sound g (SigAt at (SigRefine a z path b)) = refined-sound g at a z path b

decl-sound : (g : Env) (d : Decl) → Sound (decl_steps g d) (DeclMeans g d)
decl-sound g (DeclAt at (DeclVal x a)) = λ t p y r. DeclMeans.decl_val p r
decl-sound g (DeclAt at (DeclTyIs x a)) = λ t p y r. DeclMeans.decl_is p r
decl-sound g (DeclAt at (DeclTyOf x k)) = λ y r. DeclMeans.decl_of r
decl-sound g (DeclAt at (DeclModule x a)) = λ y p z r. DeclMeans.decl_module p r
decl-sound g (DeclAt at (DeclSignature x a)) = λ y p z r. DeclMeans.decl_signature p r
decl-sound g (DeclAt at (DeclInclude a)) = λ y p z r. DeclMeans.decl_include p r

decls_from-sound : (g : Env) (before : List Name) (d : Decl) (ds : Decls) (x : Abs) → DeclMeans g d x → Sound (decls_from g before d ds x) (DeclsMean g before (MoreDecls d ds))
decls_from-sound g before d ds (Abs.Ex ks s) p = λ fs e u n y q z r. DeclsMean.next_decl (subst (λ s. DeclMeans g d (Abs.Ex ks s)) e p) n q r

decls-sound : (g : Env) (before : List Name) (ds : Decls) → Sound (decls_steps g before ds) (DeclsMean g before ds)
decls-sound g before NoDecls = DeclsMean.no_decls
decls-sound g before (MoreDecls d ds) = decls_from-sound g before d ds

generative-sound : {g : Env} {at : Span} {gen : Bool} {x : SpanName} {a : SigEx} {b : Mod} {ks : List Kind} {s : Sig} {f : Effect} {y : Abs} {ts : List Ty} {e : Term} → SigMeans g a (Abs.Ex ks s) → ModMeans (with_module g ks (name_of x) s) b (made f y ts e) → functor_effect gen f ≡ Impure → Sound (generative g ks s (made f y ts e)) (ModMeans g (ModAt at (ModFunctor gen x a b)))
generative-sound p q i = λ N r. ModMeans.mod_generative p q i r

functor_of-sound : (g : Env) (at : Span) (x : SpanName) (a : SigEx) (b : Mod) (ks : List Kind) (s : Sig) → SigMeans g a (Abs.Ex ks s) → (gen : Bool) (M : Module) → ModMeans (with_module g ks (name_of x) s) b M → Sound (functor_of g ks s gen M) (ModMeans g (ModAt at (ModFunctor gen x a b)))
functor_of-sound g at x a b ks s p false (made Pure y ts e) q = λ N r. ModMeans.mod_applicative p q r
functor_of-sound g at x a b ks s p false (made Impure y ts e) q = generative-sound p q refl
functor_of-sound g at x a b ks s p true (made f y ts e) q = generative-sound p q refl

functor_body-sound : (g : Env) (at : Span) (gen : Bool) (x : SpanName) (a : SigEx) (b : Mod) (y : Abs) → SigMeans g a y → Sound (functor_body g gen x b y) (ModMeans g (ModAt at (ModFunctor gen x a b)))
functor_body-sound g at gen x a b (Abs.Ex ks s) p = functor_of-sound g at x a b ks s p gen

mod-sound : (g : Env) (m : Mod) → Sound (mod_steps g m) (ModMeans g m)
mod-sound g (ModAt at (ModName x)) = λ M r. ModMeans.mod_name r
mod-sound g (ModAt at (ModStruct bs)) = λ M p. ModMeans.mod_struct p
mod-sound g (ModAt at (ModProject m x)) = λ M p N r. ModMeans.mod_project p r
mod-sound g (ModAt at (ModFunctor gen x a b)) = functor_body-sound g at gen x a b
mod-sound g (ModAt at (ModApply x z)) = λ o f p e q h m k M r. ModMeans.mod_apply f e h k r
mod-sound g (ModAt at (ModSeal x a)) = λ o f y p m k M r. ModMeans.mod_seal f p k r
mod-sound g (ModAt at (ModUnpack b a)) = λ t p x q y n M r. ModMeans.mod_unpack p q n r

bind-sound : (g : Env) (b : Bind) → Sound (bind_steps g b) (λ o. BindMeans g b o.0 o.1)
bind-sound g (BindAt at (BindVal x a)) = λ t p M r. BindMeans.bind_val p r
bind-sound g (BindAt at (BindTy x a)) = λ t p M r. BindMeans.bind_ty p r
bind-sound g (BindAt at (BindSignature x a)) = λ y p M r. BindMeans.bind_signature p r
bind-sound g (BindAt at (BindModule x m)) = λ M p. BindMeans.bind_module p
bind-sound g (BindAt at (BindInclude m)) = λ b u. absurd b

after_bind-sound : (g : Env) (before : List Name) (b : Bind) (bs : Binds) (x : Name) (M : Module) → BindMeans g b x M → Sound (after_bind g before bs x M) (BindsMean g before (MoreBinds b bs))
after_bind-sound g before b bs x (made f (Abs.Ex ks s) ts e) p = λ M q N j. BindsMean.next_bind p q j

after_include-sound : (g : Env) (before : List Name) (at : Span) (m : Mod) (bs : Binds) (M : Module) → ModMeans g m M → Sound (after_include g before m bs M) (BindsMean g before (MoreBinds (BindAt at (BindInclude m)) bs))
after_include-sound g before at m bs (made f (Abs.Ex ks s) ts e) p = λ fs i M q N r. BindsMean.next_include (at-sig i p) q r

binds-sound : (g : Env) (before : List Name) (bs : Binds) → Sound (binds_steps g before bs) (BindsMean g before bs)
binds-sound g before NoBinds = λ o c. BindsMean.no_binds c
binds-sound g before (MoreBinds (BindAt at (BindInclude m)) bs) = after_include-sound g before at m bs
binds-sound g before (MoreBinds (BindAt at _) bs) = λ o p. after_bind-sound g before _ bs o.0 o.1 p

-- what the steps of a task's rule give is what the task means
pub steps-sound : (g : Env) (a : Task) → Sound (steps g a) (Means g a)
steps-sound g (a_type a) = type-sound g a
steps-sound g (type_args at t k rest) = type_args-sound g at t k rest
steps-sound g (type_fields before rest) = type_fields-sound g before rest
steps-sound g (an_exp a) = exp-sound g a
steps-sound g (operands at t e rest) = operands-sound g at t e rest
steps-sound g (args at t e rest) = args-sound g at t e rest
steps-sound g (fields before rest) = fields-sound g before rest
steps-sound g (branches w t before rest) = branches-sound g w t before rest
steps-sound g (a_sig a) = sig-sound g a
steps-sound g (a_decl d) = decl-sound g d
steps-sound g (decls before ds) = decls-sound g before ds
steps-sound g (a_mod m) = mod-sound g m
steps-sound g (a_bind b) = bind-sound g b
steps-sound g (binds before bs) = binds-sound g before bs
