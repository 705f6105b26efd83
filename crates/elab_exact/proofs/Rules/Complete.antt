-- What a phrase means is given by its rule.
-- Main results: means-runs.
use Rattle.std.specs.Prelude.{List, ◌≡◌, true, false}
use Rattle.std.proofs.Math.Path.{refl}
use Rattle.omega_kinds.specs.Kind.{Kind}
use Rattle.omega_kinds.specs.declared.effect.Effect.TheVariants.{Pure, Impure}
use Rattle.omega_kinds.specs.Name.{Name}
use Rattle.omega_types.specs.Ty.{Ty}
use Rattle.omega_terms.specs.Term.{Term}
use Rattle.sig_definitions.specs.Signatures.Sig.{Abs, Module}
use Rattle.sig_definitions.specs.Env.{Env}
use Rattle.fing_syntax.specs.Phrase.{Span, Mod, Bind, BindAt, BindInclude, Binds, SigEx, Decl, Decls, TyEx, TyExs, FieldTyExs, Exp, OpExps, Args, FieldExps, Branches}
use Rattle.core_judgments.specs.TypeRules.{FieldTy, ArrowGives, AppliedGives}
use Rattle.core_judgments.specs.ExpRules.{FieldExp, FunctionGives, CallGives, InstanceGives, GetGives, IfGives, OperationGives, FixGives, SumGives, LabelGives, InjectionGives, CaseGives}
use Rattle.core_judgments.specs.DataRules.{RollGives}
use Rattle.elab_judgments.specs.Judgments.Meaning.{TyMeans, ArgTysMean, FieldTysMean, ExpMeans, OpsMean, ArgsMean, FieldExpsMean, BranchesMean, SigMeans, DeclMeans, DeclsMean, ModMeans, BindMeans, BindsMean}
use Rattle.elab_judgments.specs.Refusals.Task.{Task, Result, Means, a_type, type_args, type_fields, an_exp, operands, args, fields, branches, a_sig, a_decl, decls, a_mod, a_bind, binds}
use Rattle.elab_judgments.specs.Refusals.Rule.{Runs}
use Rattle.elab_judgments.specs.Refusals.Steps.{steps, type_steps, type_args_steps, type_fields_steps, exp_steps, operands_steps, args_steps, fields_steps, branches_steps, sig_steps, decl_steps, decls_steps, mod_steps, bind_steps, binds_steps}

type-runs : {g : Env} {a : TyEx} {t : Ty} {k : Kind} → TyMeans g a t k → Runs (type_steps g a) (t, k)
type-runs (TyMeans.ty_path p r) = (_, p, (_, r, refl))
type-runs (TyMeans.ty_int r) = (_, r, refl)
type-runs (TyMeans.ty_bool r) = (_, r, refl)
type-runs (TyMeans.ty_text r) = (_, r, refl)
type-runs (TyMeans.ty_arrow p q ArrowGives.arrow) = (_, p, (tt, refl, (_, q, (_, ArrowGives.arrow, refl))))
type-runs (TyMeans.ty_apply p q) = (_, p, (_, q, refl))
type-runs (TyMeans.ty_fields p r) = (_, p, (_, r, refl))
type-runs (TyMeans.ty_all p r) = (_, p, (_, r, refl))
type-runs (TyMeans.ty_lam p r) = (_, p, (_, r, refl))
type-runs (TyMeans.ty_pack p n) = (_, p, (_, n, refl))
type-runs (TyMeans.ty_sum p r) = (_, p, (_, r, refl))
type-runs (TyMeans.ty_mu p r) = (_, p, (_, r, refl))

type_args-runs : {g : Env} {t u : Ty} {k j : Kind} {rest : TyExs} (at : Span) → ArgTysMean g t k rest u j → Runs (type_args_steps g at t k rest) (u, j)
type_args-runs at ArgTysMean.no_args = refl
type_args-runs at (ArgTysMean.next_arg p (AppliedGives.applied n) q) = (_, refl, (_, p, (_, AppliedGives.applied n, (_, q, refl))))

type_fields-runs : {g : Env} {before : List Name} {rest : FieldTyExs} {parts : List FieldTy} → FieldTysMean g before rest parts → Runs (type_fields_steps g before rest) parts
type_fields-runs FieldTysMean.no_field_tys = refl
type_fields-runs (FieldTysMean.next_field_ty n p q) = (tt, n, (_, p, (tt, refl, (_, q, refl))))

exp-runs : {g : Env} {a : Exp} {t : Ty} {e : Term} → ExpMeans g a t e → Runs (exp_steps g a) (t, e)
exp-runs (ExpMeans.exp_path p r) = (_, p, (_, r, refl))
exp-runs (ExpMeans.exp_int r) = (_, r, refl)
exp-runs (ExpMeans.exp_bool r) = (_, r, refl)
exp-runs (ExpMeans.exp_text r) = (_, r, refl)
exp-runs (ExpMeans.exp_lam p q FunctionGives.function) = (_, p, (tt, refl, (_, q, (_, FunctionGives.function, refl))))
exp-runs (ExpMeans.exp_ty_lam p r) = (_, p, (_, r, refl))
exp-runs (ExpMeans.exp_fix p q r FixGives.fix) = (_, p, (tt, refl, (_, q, (tt, refl, (_, r, (_, FixGives.fix, refl))))))
exp-runs (ExpMeans.exp_if p q r IfGives.if_) = (_, p, (tt, refl, (_, q, (_, r, (_, IfGives.if_, refl)))))
exp-runs (ExpMeans.exp_ops p q) = (_, p, (_, q, refl))
exp-runs (ExpMeans.exp_apply p q) = (_, p, (_, q, refl))
exp-runs (ExpMeans.exp_fields p r) = (_, p, (_, r, refl))
exp-runs (ExpMeans.exp_get p (GetGives.get h)) = (_, p, (_, refl, (_, GetGives.get h, refl)))
exp-runs (ExpMeans.exp_pack f p n m k) = (_, f, (_, p, (_, n, (_, m, (_, k, refl)))))
exp-runs (ExpMeans.exp_inj p q (InjectionGives.injection h)) =
    (_, p, (_, q, (tt, refl, (_, SumGives.sum, (_, LabelGives.label h, (_, InjectionGives.injection h, refl))))))
exp-runs (ExpMeans.exp_case p q r (CaseGives.case_ b o)) = (_, p, (_, SumGives.sum, (_, q, (tt, refl, (_, r, (_, CaseGives.case_ b o, refl))))))
exp-runs (ExpMeans.exp_roll p q (RollGives.roll n)) = (_, p, (_, q, (tt, refl, (_, refl, (_, RollGives.roll n, refl)))))
exp-runs (ExpMeans.exp_unroll p r) = (_, p, (_, r, refl))

operands-runs : {g : Env} {t u : Ty} {d e : Term} {rest : OpExps} (at : Span) → OpsMean g t d rest u e → Runs (operands_steps g at t d rest) (u, e)
operands-runs at OpsMean.no_ops = refl
operands-runs at (OpsMean.next_op p OperationGives.operation q) = (tt, refl, (_, p, (_, OperationGives.operation, (_, q, refl))))

args-runs : {g : Env} {t u : Ty} {d e : Term} {rest : Args} (at : Span) → ArgsMean g t d rest u e → Runs (args_steps g at t d rest) (u, e)
args-runs at ArgsMean.no_arg = refl
args-runs at (ArgsMean.next_value p CallGives.call q) = (_, refl, (_, p, (_, CallGives.call, (_, q, refl))))
args-runs at (ArgsMean.next_type p (InstanceGives.instance n) q) = (_, refl, (_, p, (_, InstanceGives.instance n, (_, q, refl))))

fields-runs : {g : Env} {before : List Name} {rest : FieldExps} {parts : List FieldExp} → FieldExpsMean g before rest parts → Runs (fields_steps g before rest) parts
fields-runs FieldExpsMean.no_field_exps = refl
fields-runs (FieldExpsMean.next_field_exp n p q) = (tt, n, (_, p, (_, q, refl)))

branches-runs : {g : Env} {w t : Ty} {before : List Name} {rest : Branches} {parts : List FieldExp}
    → BranchesMean g w t before rest parts
    → Runs (branches_steps g w t before rest) parts
branches-runs BranchesMean.no_branches = refl
branches-runs (BranchesMean.next_branch n l p q) = (tt, n, (_, l, (_, p, (tt, refl, (_, q, refl)))))

sig-runs : {g : Env} {a : SigEx} {x : Abs} → SigMeans g a x → Runs (sig_steps g a) x
sig-runs (SigMeans.sig_path p r) = (_, p, (_, r, refl))
sig-runs (SigMeans.sig_decls p) = (_, p, refl)
sig-runs (SigMeans.sig_generative p q r) = (_, p, (_, q, (_, r, refl)))
sig-runs (SigMeans.sig_applicative p q l) = (_, p, (_, q, (_, l, refl)))
sig-runs (SigMeans.sig_refine {x = Abs.Ex ks s} p q r) = (_, p, (_, q, (_, r, refl)))

decl-runs : {g : Env} {d : Decl} {x : Abs} → DeclMeans g d x → Runs (decl_steps g d) x
decl-runs (DeclMeans.decl_val p r) = (_, p, (_, r, refl))
decl-runs (DeclMeans.decl_is p r) = (_, p, (_, r, refl))
decl-runs (DeclMeans.decl_of r) = (_, r, refl)
decl-runs (DeclMeans.decl_module p r) = (_, p, (_, r, refl))
decl-runs (DeclMeans.decl_signature p r) = (_, p, (_, r, refl))
decl-runs (DeclMeans.decl_include p r) = (_, p, (_, r, refl))

decls-runs : {g : Env} {before : List Name} {ds : Decls} {x : Abs} → DeclsMean g before ds x → Runs (decls_steps g before ds) x
decls-runs DeclsMean.no_decls = refl
decls-runs (DeclsMean.next_decl p n q r) = (_, p, (_, refl, (tt, n, (_, q, (_, r, refl)))))

mod-runs : {g : Env} {m : Mod} {M : Module} → ModMeans g m M → Runs (mod_steps g m) M
mod-runs (ModMeans.mod_name r) = (_, r, refl)
mod-runs (ModMeans.mod_struct p) = (_, p, refl)
mod-runs (ModMeans.mod_project p r) = (_, p, (_, r, refl))
mod-runs (ModMeans.mod_applicative p q l) = (_, p, (_, q, (_, l, refl)))
mod-runs (ModMeans.mod_generative {gen = true} p q e k) = (_, p, (_, q, (_, k, refl)))
mod-runs (ModMeans.mod_generative {gen = false} {f = Impure} p q e k) = (_, p, (_, q, (_, k, refl)))
mod-runs (ModMeans.mod_generative {gen = false} {f = Pure} p q e k) = absurd (pure-not_impure e)
  where
    pure-not_impure : Pure ≡ Impure → ⊥
    pure-not_impure e = cc
mod-runs (ModMeans.mod_apply f i h m r) = (_, f, (_, i, (_, h, (_, m, (_, r, refl)))))
mod-runs (ModMeans.mod_seal f p m r) = (_, f, (_, p, (_, m, (_, r, refl))))
mod-runs (ModMeans.mod_unpack p q n r) = (_, p, (_, q, (_, n, (_, r, refl))))

bind-runs : {g : Env} {b : Bind} {x : Name} {M : Module} → BindMeans g b x M → Runs (bind_steps g b) (x, M)
bind-runs (BindMeans.bind_val p r) = (_, p, (_, r, refl))
bind-runs (BindMeans.bind_ty p r) = (_, p, (_, r, refl))
bind-runs (BindMeans.bind_signature p r) = (_, p, (_, r, refl))
bind-runs (BindMeans.bind_module p) = (_, p, refl)

binds-runs : {g : Env} {before : List Name} {bs : Binds} {M : Module} → BindsMean g before bs M → Runs (binds_steps g before bs) M
binds-runs (BindsMean.no_binds c) = (_, c, refl)
binds-runs (BindsMean.next_bind {b = BindAt at (BindInclude m)} p q s) = elim p [ ]
binds-runs (BindsMean.next_bind {b = BindAt at _} p q s) = (_, p, (_, q, (_, s, refl)))
binds-runs (BindsMean.next_include p q s) = (_, p, (_, refl, (_, q, (_, s, refl))))

-- what a task means is given by the steps of its rule
pub means-runs : (g : Env) (a : Task) (o : Result a) → Means g a o → Runs (steps g a) o
means-runs g (a_type a) o p = type-runs p
means-runs g (type_args at t k rest) o p = type_args-runs at p
means-runs g (type_fields before rest) o p = type_fields-runs p
means-runs g (an_exp a) o p = exp-runs p
means-runs g (operands at t e rest) o p = operands-runs at p
means-runs g (args at t e rest) o p = args-runs at p
means-runs g (fields before rest) o p = fields-runs p
means-runs g (branches w t before rest) o p = branches-runs p
means-runs g (a_sig a) o p = sig-runs p
means-runs g (a_decl d) o p = decl-runs p
means-runs g (decls before ds) o p = decls-runs p
means-runs g (a_mod m) o p = mod-runs p
means-runs g (a_bind b) o p = bind-runs p
means-runs g (binds before bs) o p = binds-runs p
