-- Where a module or a binding is refused, what stands before that place being derived.
-- Main results: mod_project-rule, mod_apply-match, mod_seal-match, mod_unpack-rule, binds-later, include-later.
use Rattle.std.proofs.Common.{◌≡◌, inl, inr, Bool, List, [], Some, refl}
use Rattle.omega_kinds.specs.Kind.{Kind}
use Rattle.omega_kinds.specs.Name.{Name}
use Rattle.omega_kinds.specs.declared.effect.Effect.{Effect}
use Rattle.omega_types.specs.Ty.{Ty}
use Rattle.omega_terms.specs.Term.{Term}
use Rattle.sig_definitions.specs.Env.{Env, kinds, find, with_module, named_fields}
use Rattle.sig_definitions.specs.Signatures.Sig.{Module, made, Sig, Abs, SigRow}
use Rattle.sig_definitions.specs.Signatures.FieldOrder.{with_name, with_names}
use Rattle.sig_definitions.specs.QuantifierOrder.{Norm}
use Rattle.fing_syntax.specs.Phrase.{Span, SpanName, TyEx, SigEx, Exp, Mod, ModAt, ModName, ModStruct, ModProject, ModFunctor, ModApply, ModSeal, ModUnpack, Bind, BindAt, BindVal, BindTy, BindModule, BindSignature, BindInclude, Binds, MoreBinds}
use Rattle.fing_syntax.specs.Place.{name_of, name_span, mod_span, sig_span, exp_span}
use Rattle.module_judgments.specs.ModRules.{NamedRefuses, ProjectRefuses, PartsGive, FunctorRefuses, IncludeRefuses}
use Rattle.package_judgments.specs.Package.{UnpackRefuses}
use Rattle.elab_judgments.specs.Operators.{include_name}
use Rattle.elab_judgments.specs.Judgments.Meaning.{ExpMeans, SigMeans, ModMeans, BindMeans}
use Rattle.elab_judgments.specs.Refusals.Refusal.{of_mod, of_unpack}
use Rattle.elab_judgments.specs.Refusals.Task.{a_type, an_exp, a_sig, a_mod, a_bind, binds}
use Rattle.fing_refusals.specs.declared.refusal.Refusal.{Refusal as CodeRefusal}
use Rattle.elab_rules.specs.Inner.Answered.{RefusedAs, ByRule, ByMatch}
use Rattle.elab_rules.specs.Inner.Modules.{IsSingle}
use Rattle.elab_rules.proofs.Standing.{within, fails, unmatched}

-- a name, a structure, a projection

-- a module that is a name is refused where the name is
pub mod_name-rule : {g : Env} {at : Span} {x : SpanName} {e : CodeRefusal}
    → ByRule of_mod g (name_span x) (NamedRefuses g (name_of x)) e
    → RefusedAs g (a_mod (ModAt at (ModName x))) e
mod_name-rule h = fails (λ r w. inl w) h

-- a structure is refused where its bindings are
pub mod_struct-list : {g : Env} {at : Span} {bs : Binds} {e : CodeRefusal}
    → RefusedAs g (binds [] bs) e
    → RefusedAs g (a_mod (ModAt at (ModStruct bs))) e
mod_struct-list h = within (inl (refl, refl)) h

-- a projection is refused where its module is
pub mod_project-whole : {g : Env} {at : Span} {m : Mod} {x : SpanName} {e : CodeRefusal}
    → RefusedAs g (a_mod m) e
    → RefusedAs g (a_mod (ModAt at (ModProject m x))) e
mod_project-whole h = within (inl (refl, refl)) h

-- a projection is refused by the rule of projection, at the name
pub mod_project-rule : {g : Env} {at : Span} {m : Mod} {M : Module} {x : SpanName} {e : CodeRefusal}
    → ModMeans g m M
    → ByRule of_mod g (name_span x) (ProjectRefuses M (name_of x)) e
    → RefusedAs g (a_mod (ModAt at (ModProject m x))) e
mod_project-rule {M = M} p h = fails (λ r w. (M, p, inl w)) h

-- functors

-- a functor is refused where its parameter's signature is
pub mod_functor-param : {g : Env} {at : Span} {b : Mod} {gen : Bool} {x : SpanName} {a : SigEx} {e : CodeRefusal}
    → RefusedAs g (a_sig a) e
    → RefusedAs g (a_mod (ModAt at (ModFunctor gen x a b))) e
mod_functor-param h = within (inl (refl, refl)) h

-- a functor is refused where its body is
pub mod_functor-body : {g : Env} {at : Span} {b : Mod} {gen : Bool} {x : SpanName} {a : SigEx} {ks : List Kind} {s : Sig} {e : CodeRefusal}
    → SigMeans g a (Abs.Ex ks s)
    → RefusedAs (with_module g ks (name_of x) s) (a_mod b) e
    → RefusedAs g (a_mod (ModAt at (ModFunctor gen x a b))) e
mod_functor-body {ks = ks} {s = s} p h = within (inr (Abs.Ex ks s, p, inl (refl, refl))) h

-- an application

-- the application of a functor is refused where the functor's name is
pub mod_apply-functor : {g : Env} {at : Span} {x z : SpanName} {e : CodeRefusal}
    → ByRule of_mod g (name_span x) (NamedRefuses g (name_of x)) e
    → RefusedAs g (a_mod (ModAt at (ModApply x z))) e
mod_apply-functor h = fails (λ r w. inl w) h

-- the application of a functor is refused where what is applied is no functor
pub mod_apply-no_functor : {g : Env} {at : Span} {x z : SpanName} {s : Sig} {d : Term} {e : CodeRefusal}
    → find g (name_of x) ≡ Some (s, d)
    → ByRule of_mod g (name_span x) (FunctorRefuses s) e
    → RefusedAs g (a_mod (ModAt at (ModApply x z))) e
mod_apply-no_functor {s = s} {d = d} p h = fails (λ r w. inr ((s, d), p, inl w)) h

-- the application of a functor is refused where the argument's name is
pub mod_apply-arg : {g : Env} {at : Span} {x z : SpanName} {s : Sig} {f : Effect} {param result : Abs} {d : Term} {e : CodeRefusal}
    → find g (name_of x) ≡ Some (s, d)
    → PartsGive s f param result
    → ByRule of_mod g (name_span z) (NamedRefuses g (name_of z)) e
    → RefusedAs g (a_mod (ModAt at (ModApply x z))) e
mod_apply-arg {s = s} {f = f} {param = param} {result = result} {d = d} p q h = fails (λ r w. inr ((s, d), p, inr ((f, param, result), q, inl w))) h

-- the application of a functor is refused where the argument does not match the parameter
pub mod_apply-match : {g : Env} {at : Span} {x z : SpanName} {s t : Sig} {f : Effect} {param result : Abs} {d d1 : Term} {e : CodeRefusal}
    → find g (name_of x) ≡ Some (s, d)
    → PartsGive s f param result
    → find g (name_of z) ≡ Some (t, d1)
    → ByMatch g (name_span z) t param e
    → RefusedAs g (a_mod (ModAt at (ModApply x z))) e
mod_apply-match {s = s} {t = t} {f = f} {param = param} {result = result} {d = d} {d1 = d1} p q l h = unmatched (λ r w. inr ((s, d), p, inr ((f, param, result), q, inr ((t, d1), l, inl w)))) h

-- a module sealed

-- a seal is refused where the name of its module is
pub mod_seal-name : {g : Env} {at : Span} {x : SpanName} {a : SigEx} {e : CodeRefusal}
    → ByRule of_mod g (name_span x) (NamedRefuses g (name_of x)) e
    → RefusedAs g (a_mod (ModAt at (ModSeal x a))) e
mod_seal-name h = fails (λ r w. inl w) h

-- a seal is refused where its signature is
pub mod_seal-sig : {g : Env} {at : Span} {x : SpanName} {a : SigEx} {s : Sig} {d : Term} {e : CodeRefusal}
    → find g (name_of x) ≡ Some (s, d)
    → RefusedAs g (a_sig a) e
    → RefusedAs g (a_mod (ModAt at (ModSeal x a))) e
mod_seal-sig {s = s} {d = d} p h = within ((s, d), p, inl (refl, refl)) h

-- a seal is refused where the module does not match the signature
pub mod_seal-match : {g : Env} {at : Span} {x : SpanName} {a : SigEx} {s : Sig} {y : Abs} {d : Term} {e : CodeRefusal}
    → find g (name_of x) ≡ Some (s, d)
    → SigMeans g a y
    → ByMatch g (sig_span a) s y e
    → RefusedAs g (a_mod (ModAt at (ModSeal x a))) e
mod_seal-match {s = s} {y = y} {d = d} p q h = unmatched (λ r w. inr ((s, d), p, (y, q, inl w))) h

-- a packed module opened

-- an unpacked package is refused where its value is
pub mod_unpack-value : {g : Env} {at : Span} {a : SigEx} {v : Exp} {e : CodeRefusal}
    → RefusedAs g (an_exp v) e
    → RefusedAs g (a_mod (ModAt at (ModUnpack v a))) e
mod_unpack-value h = within (inl (refl, refl)) h

-- an unpacked package is refused where its signature is
pub mod_unpack-sig : {g : Env} {at : Span} {a : SigEx} {v : Exp} {d : Term} {u : Ty} {e : CodeRefusal}
    → ExpMeans g v u d
    → RefusedAs g (a_sig a) e
    → RefusedAs g (a_mod (ModAt at (ModUnpack v a))) e
mod_unpack-sig {d = d} {u = u} p h = within (inr ((u, d), p, inl (refl, refl))) h

-- an unpacked package is refused by its rule, at the value
pub mod_unpack-rule : {g : Env} {at : Span} {a : SigEx} {v : Exp} {y n : Abs} {d : Term} {u : Ty} {e : CodeRefusal}
    → ExpMeans g v u d
    → SigMeans g a y
    → Norm (kinds g) y n
    → ByRule of_unpack g (exp_span v) (UnpackRefuses u n) e
    → RefusedAs g (a_mod (ModAt at (ModUnpack v a))) e
mod_unpack-rule {y = y} {n = n} {d = d} {u = u} p q l h = fails (λ r w. ((u, d), p, (y, q, inr (n, l, inl w)))) h

-- single bindings

-- a value binding is refused where its value is
pub bind_val-value : {g : Env} {at : Span} {x : SpanName} {v : Exp} {e : CodeRefusal}
    → RefusedAs g (an_exp v) e
    → RefusedAs g (a_bind (BindAt at (BindVal x v))) e
bind_val-value h = within (inl (refl, refl)) h

-- a type binding is refused where its type is
pub bind_ty-type : {g : Env} {at : Span} {x : SpanName} {ta : TyEx} {e : CodeRefusal}
    → RefusedAs g (a_type ta) e
    → RefusedAs g (a_bind (BindAt at (BindTy x ta))) e
bind_ty-type h = within (inl (refl, refl)) h

-- a signature binding is refused where its signature is
pub bind_signature-sig : {g : Env} {at : Span} {x : SpanName} {a : SigEx} {e : CodeRefusal}
    → RefusedAs g (a_sig a) e
    → RefusedAs g (a_bind (BindAt at (BindSignature x a))) e
bind_signature-sig h = within (inl (refl, refl)) h

-- a module binding is refused where its module is
pub bind_module-module : {g : Env} {at : Span} {m : Mod} {x : SpanName} {e : CodeRefusal}
    → RefusedAs g (a_mod m) e
    → RefusedAs g (a_bind (BindAt at (BindModule x m))) e
bind_module-module h = within (inl (refl, refl)) h

-- bindings in a row; an include is none of the single ones

-- bindings are refused where the first one is
pub binds-first : {g : Env} {before : List Name} {bs : Binds} {e : CodeRefusal} (b : Bind)
    → IsSingle b
    → RefusedAs g (a_bind b) e
    → RefusedAs g (binds before (MoreBinds b bs)) e
binds-first (BindAt at (BindVal x c)) i h = within (inl (refl, refl)) h
binds-first (BindAt at (BindTy x c)) i h = within (inl (refl, refl)) h
binds-first (BindAt at (BindModule x c)) i h = within (inl (refl, refl)) h
binds-first (BindAt at (BindSignature x c)) i h = within (inl (refl, refl)) h
binds-first (BindAt at (BindInclude m)) i h = absurd i

-- bindings are refused where those after the first are
pub binds-later : {g : Env} {before : List Name} {bs : Binds} {x : Name} {f : Effect} {ks : List Kind} {s : Sig} {ts : List Ty} {d : Term} {e : CodeRefusal} (b : Bind)
    → IsSingle b
    → BindMeans g b x (made f (Abs.Ex ks s) ts d)
    → RefusedAs (with_module g ks x s) (binds (with_name x before) bs) e
    → RefusedAs g (binds before (MoreBinds b bs)) e
binds-later {x = l} {f = f} {ks = ks} {s = s} {ts = ts} {d = d} (BindAt at (BindVal x c)) i p h = within (inr ((l, made f (Abs.Ex ks s) ts d), p, inl (refl, refl))) h
binds-later {x = l} {f = f} {ks = ks} {s = s} {ts = ts} {d = d} (BindAt at (BindTy x c)) i p h = within (inr ((l, made f (Abs.Ex ks s) ts d), p, inl (refl, refl))) h
binds-later {x = l} {f = f} {ks = ks} {s = s} {ts = ts} {d = d} (BindAt at (BindModule x c)) i p h = within (inr ((l, made f (Abs.Ex ks s) ts d), p, inl (refl, refl))) h
binds-later {x = l} {f = f} {ks = ks} {s = s} {ts = ts} {d = d} (BindAt at (BindSignature x c)) i p h = within (inr ((l, made f (Abs.Ex ks s) ts d), p, inl (refl, refl))) h
binds-later (BindAt at (BindInclude m)) i p h = absurd i

-- bindings that begin with an include are refused where its module is
pub include-module : {g : Env} {at : Span} {m : Mod} {bs : Binds} {before : List Name} {e : CodeRefusal}
    → RefusedAs g (a_mod m) e
    → RefusedAs g (binds before (MoreBinds (BindAt at (BindInclude m)) bs)) e
include-module h = within (inl (refl, refl)) h

-- bindings that begin with an include are refused where the module is no structure
pub include-no_structure : {g : Env} {at : Span} {m : Mod} {bs : Binds} {before : List Name} {ks : List Kind} {s : Sig} {f : Effect} {d : Term} {ts : List Ty} {e : CodeRefusal}
    → ModMeans g m (made f (Abs.Ex ks s) ts d)
    → ByRule of_mod g (mod_span m) (IncludeRefuses (made f (Abs.Ex ks s) ts d)) e
    → RefusedAs g (binds before (MoreBinds (BindAt at (BindInclude m)) bs)) e
include-no_structure {ks = ks} {s = s} {f = f} {d = d} {ts = ts} p h = fails (λ r w. (made f (Abs.Ex ks s) ts d, p, inl w)) h

-- bindings that begin with an include are refused where those after the include are
pub include-later : {g : Env} {at : Span} {m : Mod} {bs : Binds} {before : List Name} {ks : List Kind} {f : Effect} {d : Term} {fs : SigRow} {ts : List Ty} {e : CodeRefusal}
    → ModMeans g m (made f (Abs.Ex ks (Sig.Str fs)) ts d)
    → RefusedAs (named_fields (with_module g ks include_name (Sig.Str fs)) fs) (binds (with_names fs before) bs) e
    → RefusedAs g (binds before (MoreBinds (BindAt at (BindInclude m)) bs)) e
include-later {ks = ks} {f = f} {d = d} {fs = fs} {ts = ts} p h = within (inr (made f (Abs.Ex ks (Sig.Str fs)) ts d, p, (fs, refl, inl (refl, refl)))) h
