-- Where a signature or a declaration is refused, what stands before that place being derived.
-- Main results: sig_path-use, decls-again, sig_refine-rule, decl_val-rule, decl_include-rule.
use Rattle.std.proofs.Common.{inl, inr, Bool, true, false, List, [], refl}
use Rattle.omega_kinds.specs.Kind.{Kind}
use Rattle.omega_kinds.specs.Name.{Name}
use Rattle.omega_types.specs.Ty.{Ty}
use Rattle.sig_definitions.specs.Env.{Env, kinds, type_vars, with_module, named_fields}
use Rattle.sig_definitions.specs.Signatures.Sig.{Module, Sig, Abs, SigRow}
use Rattle.sig_definitions.specs.Signatures.RecordOrder.{AreNew}
use Rattle.sig_definitions.specs.Signatures.FieldOrder.{with_names}
use Rattle.fing_syntax.specs.Phrase.{Span, SpanName, Mod, TyEx, SigEx, SigAt, PathSig, SigDecls, SigFun, SigRefine, Decl, DeclAt, DeclVal, DeclTyIs, DeclModule, DeclSignature, DeclInclude, Decls, MoreDecls}
use Rattle.fing_syntax.specs.Place.{name_of, ty_span, sig_span, decl_span}
use Rattle.sig_judgments.specs.SigRules.{ValueRefuses, IncludeRefuses, DistinctRefuses}
use Rattle.module_judgments.specs.ModRules.{SigPathRefuses}
use Rattle.elab_judgments.specs.Judgments.Meaning.{TyMeans, SigMeans, DeclMeans, ModMeans}
use Rattle.elab_judgments.specs.Refusals.Refusal.{of_sig, of_mod}
use Rattle.elab_judgments.specs.Refusals.Task.{a_type, a_sig, a_decl, decls, a_mod}
use Rattle.fing_refusals.specs.declared.refusal.Refusal.{Refusal as CodeRefusal}
use Rattle.elab_rules.specs.Inner.Answered.{RefusedAs, ByRule, ByWhere}
use Rattle.elab_rules.proofs.Standing.{within, fails, refined}

-- a path

-- a signature that is a path is refused where its module is
pub sig_path-module : {g : Env} {at : Span} {m : Mod} {e : CodeRefusal}
    → RefusedAs g (a_mod m) e
    → RefusedAs g (a_sig (SigAt at (PathSig m))) e
sig_path-module h = within (inl (refl, refl)) h

-- a signature that is a path is refused where the module is no signature
pub sig_path-use : {g : Env} {at : Span} {m : Mod} {M : Module} {e : CodeRefusal}
    → ModMeans g m M
    → ByRule of_mod g at (SigPathRefuses (kinds g) M) e
    → RefusedAs g (a_sig (SigAt at (PathSig m))) e
sig_path-use {M = M} p h = fails (λ r q. (M, p, inl q)) h

-- declarations in a row

-- a signature of declarations is refused where these are
pub sig_decls-list : {g : Env} {at : Span} {ds : Decls} {e : CodeRefusal}
    → RefusedAs g (decls [] ds) e
    → RefusedAs g (a_sig (SigAt at (SigDecls ds))) e
sig_decls-list h = within (inl (refl, refl)) h

-- declarations are refused where the first one is
pub decls-first : {g : Env} {d : Decl} {ds : Decls} {before : List Name} {e : CodeRefusal}
    → RefusedAs g (a_decl d) e
    → RefusedAs g (decls before (MoreDecls d ds)) e
decls-first h = within (inl (refl, refl)) h

-- declarations are refused where the first one declares a name again
pub decls-again : {g : Env} {d : Decl} {ds : Decls} {before : List Name} {ks : List Kind} {fs : SigRow} {e : CodeRefusal}
    → DeclMeans g d (Abs.Ex ks (Sig.Str fs))
    → ByRule of_sig g (decl_span d) (DistinctRefuses before fs) e
    → RefusedAs g (decls before (MoreDecls d ds)) e
decls-again {ks = ks} {fs = fs} p h = fails (λ r w. (Abs.Ex ks (Sig.Str fs), p, inr (fs, refl, inl w))) h

-- declarations are refused where those after the first are
pub decls-later : {g : Env} {d : Decl} {ds : Decls} {before : List Name} {ks : List Kind} {fs : SigRow} {e : CodeRefusal}
    → DeclMeans g d (Abs.Ex ks (Sig.Str fs))
    → AreNew fs before
    → RefusedAs (named_fields (type_vars g ks) fs) (decls (with_names fs before) ds) e
    → RefusedAs g (decls before (MoreDecls d ds)) e
decls-later {ks = ks} {fs = fs} p n h = within (inr (Abs.Ex ks (Sig.Str fs), p, (fs, refl, (tt, n, inl (refl, refl))))) h

-- functors

-- a functor signature is refused where its parameter is
pub sig_fun-param : {g : Env} {at : Span} {pure : Bool} {x : SpanName} {a b : SigEx} {e : CodeRefusal}
    → RefusedAs g (a_sig a) e
    → RefusedAs g (a_sig (SigAt at (SigFun pure x a b))) e
sig_fun-param h = within (inl (refl, refl)) h

-- a functor signature is refused where its result is
pub sig_fun-result : {g : Env} {at : Span} {x : SpanName} {a b : SigEx} {ks : List Kind} {s : Sig} {e : CodeRefusal} (pure : Bool)
    → SigMeans g a (Abs.Ex ks s)
    → RefusedAs (with_module g ks (name_of x) s) (a_sig b) e
    → RefusedAs g (a_sig (SigAt at (SigFun pure x a b))) e
sig_fun-result {ks = ks} {s = s} true p h = within (inr (Abs.Ex ks s, p, inl (refl, refl))) h
sig_fun-result {ks = ks} {s = s} false p h = within (inr (Abs.Ex ks s, p, inl (refl, refl))) h

-- a type made equal to another

-- a signature with a fixed type is refused where the signature is
pub sig_refine-sig : {g : Env} {at : Span} {z : SpanName} {path : List SpanName} {a : SigEx} {ta : TyEx} {e : CodeRefusal}
    → RefusedAs g (a_sig a) e
    → RefusedAs g (a_sig (SigAt at (SigRefine a z path ta))) e
sig_refine-sig h = within (inl (refl, refl)) h

-- a signature with a fixed type is refused where the type is
pub sig_refine-type : {g : Env} {at : Span} {z : SpanName} {path : List SpanName} {a : SigEx} {ta : TyEx} {y : Abs} {e : CodeRefusal}
    → SigMeans g a y
    → RefusedAs g (a_type ta) e
    → RefusedAs g (a_sig (SigAt at (SigRefine a z path ta))) e
sig_refine-type {y = y} p h = within (inr (y, p, inl (refl, refl))) h

-- a signature with a fixed type is refused by the rule of fixed types
pub sig_refine-rule : {g : Env} {at : Span} {z : SpanName} {path : List SpanName} {a : SigEx} {ta : TyEx} {ks : List Kind} {s : Sig} {t : Ty} {k : Kind} {e : CodeRefusal}
    → SigMeans g a (Abs.Ex ks s)
    → TyMeans g ta t k
    → ByWhere g ks s z path ta t k e
    → RefusedAs g (a_sig (SigAt at (SigRefine a z path ta))) e
sig_refine-rule {ks = ks} {s = s} {t = t} {k = k} p q h = refined (λ r w. (Abs.Ex ks s, p, ((t, k), q, inl w))) h

-- single declarations

-- the declaration of a value is refused where its type is
pub decl_val-type : {g : Env} {at : Span} {x : SpanName} {ta : TyEx} {e : CodeRefusal}
    → RefusedAs g (a_type ta) e
    → RefusedAs g (a_decl (DeclAt at (DeclVal x ta))) e
decl_val-type h = within (inl (refl, refl)) h

-- the declaration of a value is refused by the rule of values, at the type
pub decl_val-rule : {g : Env} {at : Span} {x : SpanName} {ta : TyEx} {t : Ty} {k : Kind} {e : CodeRefusal}
    → TyMeans g ta t k
    → ByRule of_sig g (ty_span ta) (ValueRefuses t k) e
    → RefusedAs g (a_decl (DeclAt at (DeclVal x ta))) e
decl_val-rule {t = t} {k = k} p h = fails (λ r w. ((t, k), p, inl w)) h

-- the declaration of a type that is given is refused where the type is
pub decl_is-type : {g : Env} {at : Span} {x : SpanName} {ta : TyEx} {e : CodeRefusal}
    → RefusedAs g (a_type ta) e
    → RefusedAs g (a_decl (DeclAt at (DeclTyIs x ta))) e
decl_is-type h = within (inl (refl, refl)) h

-- the declaration of a module is refused where its signature is
pub decl_module-sig : {g : Env} {at : Span} {x : SpanName} {a : SigEx} {e : CodeRefusal}
    → RefusedAs g (a_sig a) e
    → RefusedAs g (a_decl (DeclAt at (DeclModule x a))) e
decl_module-sig h = within (inl (refl, refl)) h

-- the declaration of a signature is refused where the signature is
pub decl_signature-sig : {g : Env} {at : Span} {x : SpanName} {a : SigEx} {e : CodeRefusal}
    → RefusedAs g (a_sig a) e
    → RefusedAs g (a_decl (DeclAt at (DeclSignature x a))) e
decl_signature-sig h = within (inl (refl, refl)) h

-- an include of a signature is refused where the signature is
pub decl_include-sig : {g : Env} {at : Span} {a : SigEx} {e : CodeRefusal}
    → RefusedAs g (a_sig a) e
    → RefusedAs g (a_decl (DeclAt at (DeclInclude a))) e
decl_include-sig h = within (inl (refl, refl)) h

-- an include of a signature is refused by the rule of includes, at the signature
pub decl_include-rule : {g : Env} {at : Span} {a : SigEx} {y : Abs} {e : CodeRefusal}
    → SigMeans g a y
    → ByRule of_sig g (sig_span a) (IncludeRefuses y) e
    → RefusedAs g (a_decl (DeclAt at (DeclInclude a))) e
decl_include-rule {y = y} p h = fails (λ r w. (y, p, inl w)) h
