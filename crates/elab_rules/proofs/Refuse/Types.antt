-- Where a type phrase is refused, what stands before that place being derived.
-- Main results: ty_path-use, ty_arrow-rule, ty_arg-rule, ty_fields-rule, ty_all-rule, ty_sum-rule, ty_mu-rule.
use Rattle.std.proofs.Common.{◌≡◌, inl, inr, List, [], ◌∷◌, refl}
use Rattle.omega_kinds.specs.Kind.{Kind}
use Rattle.omega_kinds.specs.Name.{Name}
use Rattle.omega_types.specs.Ty.{Ty}
use Rattle.sig_definitions.specs.Env.{Env, kinds}
use Rattle.sig_definitions.specs.Signatures.Sig.{Module}
use Rattle.sig_definitions.specs.Signatures.RecordOrder.{IsNew}
use Rattle.fing_syntax.specs.Phrase.{Span, SpanName, Mod, SigEx, TyEx, TyAt, PathTy, TyArrow, TyApply, TyFields, TyAll, TyLam, TyPack, TySum, TyMu, TyExs, MoreTys, FieldTyExs, MoreFieldTys}
use Rattle.fing_syntax.specs.Place.{name_of, name_span, ty_span, up_to}
use Rattle.refusal_reasons.specs.Refusal.{NotOperator, DuplicateField}
use Rattle.core_judgments.specs.TypeRules.{FieldTy, ArrowRefuses, AllRefuses, AppliedGives, AppliedRefuses, RecordTypeRefuses}
use Rattle.core_judgments.specs.DataRules.{MuRefuses}
use Rattle.module_judgments.specs.ModRules.{TypePathRefuses}
use Rattle.elab_judgments.specs.Operators.{with_type}
use Rattle.elab_judgments.specs.Judgments.Meaning.{TyMeans, FieldTysMean, ModMeans}
use Rattle.elab_judgments.specs.Refusals.Refusal.{of_core, of_data, of_mod}
use Rattle.elab_judgments.specs.Refusals.Task.{a_type, type_args, type_fields, a_mod, a_sig}
use Rattle.fing_refusals.specs.declared.refusal.Refusal.{Refusal as CodeRefusal}
use Rattle.elab_rules.specs.Inner.Answered.{RefusedAs, ByRule, ByTest, NoValueType}
use Rattle.elab_rules.proofs.Standing.{within, fails, tested, valued}

-- a path

-- a type that is a path is refused where its module is
pub ty_path-module : {g : Env} {at : Span} {m : Mod} {e : CodeRefusal}
    → RefusedAs g (a_mod m) e
    → RefusedAs g (a_type (TyAt at (PathTy m))) e
ty_path-module h = within (inl (refl, refl)) h

-- a type that is a path is refused where the module is no type
pub ty_path-use : {g : Env} {at : Span} {m : Mod} {M : Module} {e : CodeRefusal}
    → ModMeans g m M
    → ByRule of_mod g at (TypePathRefuses (kinds g) M) e
    → RefusedAs g (a_type (TyAt at (PathTy m))) e
ty_path-use {M = M} p h = fails (λ r q. (M, p, inl q)) h

-- T -> U

-- a function type is refused where its left side is no type of values
pub ty_arrow-from : {g : Env} {at : Span} {a b : TyEx} {e : CodeRefusal}
    → NoValueType g a e
    → RefusedAs g (a_type (TyAt at (TyArrow a b))) e
ty_arrow-from h = valued (inl (refl, refl)) (λ t k r p q. ((t, k), p, inl q)) h

-- a function type is refused where its right side is
pub ty_arrow-to : {g : Env} {at : Span} {a b : TyEx} {t : Ty} {e : CodeRefusal}
    → TyMeans g a t Kind.Star
    → RefusedAs g (a_type b) e
    → RefusedAs g (a_type (TyAt at (TyArrow a b))) e
ty_arrow-to {t = t} p h = within (inr ((t, Kind.Star), p, (tt, refl, inl (refl, refl)))) h

-- a function type is refused by its rule, at the right side
pub ty_arrow-rule : {g : Env} {at : Span} {a b : TyEx} {t u : Ty} {j : Kind} {e : CodeRefusal}
    → TyMeans g a t Kind.Star
    → TyMeans g b u j
    → ByRule of_core g (ty_span b) (ArrowRefuses t Kind.Star u j) e
    → RefusedAs g (a_type (TyAt at (TyArrow a b))) e
ty_arrow-rule {t = t} {u = u} {j = j} p q h = fails (λ r w. ((t, Kind.Star), p, inr (tt, refl, ((u, j), q, inl w)))) h

-- an operator and its arguments

-- an application of types is refused where its operator is
pub ty_apply-operator : {g : Env} {at : Span} {a : TyEx} {rest : TyExs} {e : CodeRefusal}
    → RefusedAs g (a_type a) e
    → RefusedAs g (a_type (TyAt at (TyApply a rest))) e
ty_apply-operator h = within (inl (refl, refl)) h

-- an application of types is refused where its arguments are
pub ty_apply-args : {g : Env} {at : Span} {a : TyEx} {rest : TyExs} {t : Ty} {k : Kind} {e : CodeRefusal}
    → TyMeans g a t k
    → RefusedAs g (type_args (ty_span a) t k rest) e
    → RefusedAs g (a_type (TyAt at (TyApply a rest))) e
ty_apply-args {t = t} {k = k} p h = within (inr ((t, k), p, inl (refl, refl))) h

-- type arguments are refused where what they are given to is no operator
pub ty_arg-no_operator : {g : Env} {at : Span} {a : TyEx} {rest : TyExs} {t : Ty} {k : Kind} {e : CodeRefusal}
    → ByTest g at ((p : Kind × Kind) → k ≡ Kind.Arrow p.0 p.1 → ⊥) NotOperator e
    → RefusedAs g (type_args at t k (MoreTys a rest)) e
ty_arg-no_operator h = tested (λ r q. inl q) h

-- type arguments are refused where the first one is
pub ty_arg-type : {g : Env} {at : Span} {a : TyEx} {rest : TyExs} {t : Ty} {k i l : Kind} {e : CodeRefusal}
    → k ≡ Kind.Arrow i l
    → RefusedAs g (a_type a) e
    → RefusedAs g (type_args at t k (MoreTys a rest)) e
ty_arg-type {i = i} {l = l} o h = within ((i, l), o, inl (refl, refl)) h

-- type arguments are refused by the rule of application, at the first one
pub ty_arg-rule : {g : Env} {at : Span} {a : TyEx} {rest : TyExs} {t u : Ty} {k j i l : Kind} {e : CodeRefusal}
    → k ≡ Kind.Arrow i l
    → TyMeans g a u j
    → ByRule of_core g (ty_span a) (AppliedRefuses t k u j) e
    → RefusedAs g (type_args at t k (MoreTys a rest)) e
ty_arg-rule {u = u} {j = j} {i = i} {l = l} o p h = fails (λ r w. inr ((i, l), o, ((u, j), p, inl w))) h

-- type arguments are refused where those after the first are
pub ty_arg-later : {g : Env} {at : Span} {a : TyEx} {rest : TyExs} {t u v : Ty} {k j i l n : Kind} {e : CodeRefusal}
    → k ≡ Kind.Arrow i l
    → TyMeans g a u j
    → AppliedGives (kinds g) t k u j v n
    → RefusedAs g (type_args (up_to at (ty_span a)) v n rest) e
    → RefusedAs g (type_args at t k (MoreTys a rest)) e
ty_arg-later {u = u} {v = v} {j = j} {i = i} {l = l} {n = n} o p q h = within ((i, l), o, inr ((u, j), p, ((v, n), q, inl (refl, refl)))) h

-- a record type and its fields

-- a record type is refused where its fields are
pub ty_fields-parts : {g : Env} {at : Span} {fields : FieldTyExs} {e : CodeRefusal}
    → RefusedAs g (type_fields [] fields) e
    → RefusedAs g (a_type (TyAt at (TyFields fields))) e
ty_fields-parts h = within (inl (refl, refl)) h

-- a record type is refused by its rule
pub ty_fields-rule : {g : Env} {at : Span} {fields : FieldTyExs} {parts : List FieldTy} {e : CodeRefusal}
    → FieldTysMean g [] fields parts
    → ByRule of_core g at (RecordTypeRefuses [] parts) e
    → RefusedAs g (a_type (TyAt at (TyFields fields))) e
ty_fields-rule {parts = parts} p h = fails (λ r w. (parts, p, inl w)) h

-- fields of a record type are refused where the first one's name is one of those before
pub ty_field-again : {g : Env} {a : TyEx} {fields : FieldTyExs} {x : SpanName} {before : List Name} {e : CodeRefusal}
    → ByTest g (name_span x) (IsNew (name_of x) before → ⊥) (DuplicateField (name_of x)) e
    → RefusedAs g (type_fields before (MoreFieldTys x a fields)) e
ty_field-again h = tested (λ r q. inl q) h

-- fields of a record type are refused where the first one's type is no type of values
pub ty_field-type : {g : Env} {a : TyEx} {fields : FieldTyExs} {x : SpanName} {before : List Name} {e : CodeRefusal}
    → IsNew (name_of x) before
    → NoValueType g a e
    → RefusedAs g (type_fields before (MoreFieldTys x a fields)) e
ty_field-type o h = valued (tt, o, inl (refl, refl)) (λ t k r p q. inr (tt, o, ((t, k), p, inl q))) h

-- fields of a record type are refused where those after the first are
pub ty_field-later : {g : Env} {a : TyEx} {fields : FieldTyExs} {x : SpanName} {before : List Name} {t : Ty} {e : CodeRefusal}
    → IsNew (name_of x) before
    → TyMeans g a t Kind.Star
    → RefusedAs g (type_fields (name_of x ∷ before) fields) e
    → RefusedAs g (type_fields before (MoreFieldTys x a fields)) e
ty_field-later {t = t} o p h = within (tt, o, inr ((t, Kind.Star), p, (tt, refl, inl (refl, refl)))) h

-- types of generic values, and operators

-- a universally quantified type is refused where its body is
pub ty_all-body : {g : Env} {at : Span} {b : TyEx} {x : SpanName} {k : Kind} {e : CodeRefusal}
    → RefusedAs (with_type g k (name_of x)) (a_type b) e
    → RefusedAs g (a_type (TyAt at (TyAll x k b))) e
ty_all-body h = within (inl (refl, refl)) h

-- a universally quantified type is refused by its rule, at the body
pub ty_all-rule : {g : Env} {at : Span} {b : TyEx} {x : SpanName} {t : Ty} {k j : Kind} {e : CodeRefusal}
    → TyMeans (with_type g k (name_of x)) b t j
    → ByRule of_core g (ty_span b) (AllRefuses k t j) e
    → RefusedAs g (a_type (TyAt at (TyAll x k b))) e
ty_all-rule {t = t} {j = j} p h = fails (λ r w. ((t, j), p, inl w)) h

-- a type function is refused where its body is
pub ty_lam-body : {g : Env} {at : Span} {b : TyEx} {x : SpanName} {k : Kind} {e : CodeRefusal}
    → RefusedAs (with_type g k (name_of x)) (a_type b) e
    → RefusedAs g (a_type (TyAt at (TyLam x k b))) e
ty_lam-body h = within (inl (refl, refl)) h

-- a package type

-- a package type is refused where its signature is
pub ty_pack-sig : {g : Env} {at : Span} {s : SigEx} {e : CodeRefusal}
    → RefusedAs g (a_sig s) e
    → RefusedAs g (a_type (TyAt at (TyPack s))) e
ty_pack-sig h = within (inl (refl, refl)) h

-- a sum type, and a recursive one

-- a sum type is refused where its alternatives are
pub ty_sum-parts : {g : Env} {at : Span} {labels : FieldTyExs} {e : CodeRefusal}
    → RefusedAs g (type_fields [] labels) e
    → RefusedAs g (a_type (TyAt at (TySum labels))) e
ty_sum-parts h = within (inl (refl, refl)) h

-- a sum type is refused by its rule, which is that of record types
pub ty_sum-rule : {g : Env} {at : Span} {labels : FieldTyExs} {parts : List FieldTy} {e : CodeRefusal}
    → FieldTysMean g [] labels parts
    → ByRule of_core g at (RecordTypeRefuses [] parts) e
    → RefusedAs g (a_type (TyAt at (TySum labels))) e
ty_sum-rule {parts = parts} p h = fails (λ r w. (parts, p, inl w)) h

-- a recursive type is refused where its body is
pub ty_mu-body : {g : Env} {at : Span} {b : TyEx} {x : SpanName} {e : CodeRefusal}
    → RefusedAs (with_type g Kind.Star (name_of x)) (a_type b) e
    → RefusedAs g (a_type (TyAt at (TyMu x b))) e
ty_mu-body h = within (inl (refl, refl)) h

-- a recursive type is refused by its rule, at the body
pub ty_mu-rule : {g : Env} {at : Span} {b : TyEx} {x : SpanName} {t : Ty} {k : Kind} {e : CodeRefusal}
    → TyMeans (with_type g Kind.Star (name_of x)) b t k
    → ByRule of_data g (ty_span b) (MuRefuses t k) e
    → RefusedAs g (a_type (TyAt at (TyMu x b))) e
ty_mu-rule {t = t} {k = k} p h = fails (λ r w. ((t, k), p, inl w)) h
