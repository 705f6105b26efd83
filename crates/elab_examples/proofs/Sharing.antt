-- The derivations for a functor that is applied twice.
-- Main results: generative_refused, applicative_shares.
use Rattle.std.specs.Prelude.{ℕ, List, [], ◌∷◌, ◌≡◌, ◌≢◌, true, false, Some}
use Rattle.std.proofs.Common.{inl, inr}
use Rattle.std.proofs.Math.Path.{refl, ap}
use Rattle.omega_kinds.specs.Kind.{Kind}
use Rattle.omega_kinds.specs.declared.label.Label.{Label}
use Rattle.omega_kinds.specs.declared.effect.Effect.TheVariants.{Pure, Impure}
use Rattle.omega_types.specs.Ty.{Ty}
use Rattle.omega_types.specs.Normality.{Normal}
use Rattle.omega_types.specs.Normality.Normal.{n_int}
use Rattle.omega_types.specs.Binders.{NormalForms, OfKinds}
use Rattle.omega_types.proofs.Preservation.{normal-kind}
use Rattle.omega_types.proofs.BinderPuts.{its-form}
use Rattle.omega_terms.specs.Term.{Term, TermRow}
use Rattle.omega_terms.specs.Coercions.{same_part, fields_part}
use Rattle.sig_definitions.specs.Signatures.Encoding.{enc}
use Rattle.sig_definitions.specs.Explicit.WellFormed.{WellFormed, WellFormedRow}
use Rattle.sig_definitions.specs.Signatures.Sig.{Sig, Abs, HasField, made}
use Rattle.sig_definitions.specs.Signatures.Alike.{AlikeSig, AlikeAbs, AlikeRow}
use Rattle.sig_definitions.specs.Env.{Env, Entry, kinds, find, past_term}
use Rattle.sig_definitions.specs.Lifting.{Lift}
use Rattle.sig_definitions.specs.Matching.Subtyping.{Sub, SubFields, Match}
use Rattle.fing_syntax.specs.Phrase.{Span, Bytes, Spelled, Mod, ModAt, ModName, ModStruct, ModProject, ModApply, BindAt, BindModule, NoBinds, MoreBinds}
use Rattle.core_judgments.specs.ExpRules.{FunctionGives, CallGives, CallRefuses, LiteralGives}
use Rattle.module_judgments.specs.PathUse.{TypeOfPath, ValueOfPath}
use Rattle.module_judgments.specs.Projection.{Projected}
use Rattle.module_judgments.specs.Sequence.{Collected}
use Rattle.sig_judgments.specs.SigRules.{ValueGives, AbstractGives, DeclarationsGive}
use Rattle.module_judgments.specs.ModRules.{SealGives, ValueGives as ValueModule, TypeGives as TypeModule, NamedGives}
use Rattle.core_judgments.specs.TypeRules.{BaseGives}
use Rattle.elab_judgments.specs.Judgments.Meaning.{TyMeans, ExpMeans, ArgsMean, SigMeans, DeclMeans, DeclsMean, ModMeans, BindMeans}
use Rattle.elab_judgments.specs.Judgments.Program.{ProgramMeans}
use Rattle.elab_judgments.specs.Refusals.Refused.{Refused}
use Rattle.sig_laws.specs.Good.{OkEnv}
use Rattle.elab_laws.proofs.TypedClaims.{whole_is_typed}
use Rattle.elab_laws.proofs.Kept.{binds_ok}
use Rattle.sig_premise_laws.proofs.Determined.{packed-one}
use Rattle.elab_examples.specs.Rows.{t, h0, h1}
use Rattle.elab_examples.specs.PackageRow.{A}
use Rattle.elab_examples.specs.FunctorRow.{F, P, X, h2}
use Rattle.elab_examples.specs.SharingRow.{Q, v, z, argument, structure, signature, body, empty_bind, functor_bind, first_bind, second_bind, value_bind, twice, GenerativeRefused, empty, pair_of, shared_functor, shared_sig, ApplicativeShares, identity}
use Rattle.elab_examples.proofs.Parts.{differ, own-path, var0, var1, pair-form}
use Rattle.elab_examples.proofs.Outcomes.{ModShows, BindShows, BindsShow, show-struct, show-module, show-project, show-generative, show-applicative, show-apply, show-end, show-next, ok-after}

-- the body of the functor

structure_shows : (g : Env) → OkEnv g → ModShows g structure Pure (Abs.Ex [] (pair_of Ty.Int))
structure_shows g ok =
    show-struct
    (show-next ok (tt, tt) (_, _, BindMeans.bind_ty (TyMeans.ty_int BaseGives.int) TypeModule.type) λ ok2 names.
    show-next ok2 names (_, _, BindMeans.bind_val (ExpMeans.exp_int LiteralGives.int) ValueModule.value) λ ok3 names3.
    show-end (Collected.next refl (Collected.next refl Collected.none)))

signature_means : (g : Env) → SigMeans g signature (Abs.Ex (Kind.Star ∷ []) (pair_of (Ty.Var 0)))
signature_means g =
    SigMeans.sig_decls
    (DeclsMean.next_decl (DeclMeans.decl_of AbstractGives.abstract) (tt, tt)
    (DeclsMean.next_decl
    (DeclMeans.decl_val (TyMeans.ty_path (ModMeans.mod_name (NamedGives.named refl)) (TypeOfPath.type_of (own-path var0))) ValueGives.value)
    ((differ refl, tt), tt)
    DeclsMean.no_decls DeclarationsGive.declarations) DeclarationsGive.declarations)

abbrev coercion : Ty → Term
coercion a = fields_part (enc (pair_of a)) (TermRow.More (Label.Name t) (same_part (enc (Sig.Typ a Kind.Star))) (TermRow.More (Label.Name v) (same_part (enc (Sig.Val a))) TermRow.End))

matches : {ctx : List Kind} {a : Ty} → Normal ctx a Kind.Star → Match ctx (pair_of a) (Abs.Ex (Kind.Star ∷ []) (pair_of (Ty.Var 0))) (a ∷ []) (coercion a)
matches h =
    Match.at
    (OfKinds.next (normal-kind h) OfKinds.none)
    (NormalForms.next (its-form h) NormalForms.none)
    (pair-form h)
    (Sub.str (SubFields.more HasField.here Sub.typ (SubFields.more (HasField.there (differ refl) HasField.here) Sub.val SubFields.end)))

body_shows : (g : Env) → OkEnv g → ModShows g body Pure (Abs.Ex (Kind.Star ∷ []) (pair_of (Ty.Var 0)))
body_shows g ok =
    show-project ok
    (show-struct
    (show-next ok (tt, tt) (show-module (structure_shows g ok)) λ ok2 names.
    show-next ok2 names (show-module (_, _, ModMeans.mod_seal refl (signature_means (Entry.Named h1 (pair_of Ty.Int) ∷ g)) (matches n_int) SealGives.seal)) λ ok3 names3.
    show-end (Collected.next refl (Collected.next refl Collected.none))))
    HasField.here

empty_matches : {ctx : List Kind} → Match ctx empty (Abs.Ex [] empty) [] (fields_part (enc empty) TermRow.End)
empty_matches = Match.at OfKinds.none NormalForms.none (AlikeSig.str AlikeRow.end) (Sub.str SubFields.end)

-- module A = struct end
empty_shows : BindShows [] empty_bind A Pure (Abs.Ex [] empty)
empty_shows = show-module (show-struct (show-end Collected.none))

abbrev after_empty : Env
after_empty = Entry.Named A empty ∷ []

ok_empty : OkEnv after_empty
ok_empty = ok-after {g = []} tt empty_shows

-- F A, where F and A are in scope; the places are of no account
abbrev application : (at f a : Span) → Mod
application at f a = ModAt at (ModProject (ModAt at (ModStruct (MoreBinds (BindAt at (BindModule (Spelled h1 at) (ModAt f (ModName (Spelled F f))))) (MoreBinds (BindAt at (BindModule (Spelled h2 at) (ModAt a (ModName (Spelled A a))))) (MoreBinds (BindAt at (BindModule (Spelled h0 at) (ModAt at (ModApply (Spelled h1 f) (Spelled h2 a))))) NoBinds))))) (Spelled h0 at))

abbrev hiding : Abs
hiding = Abs.Ex (Kind.Star ∷ []) (pair_of (Ty.Var 0))

generative_application : (g : Env) (at f a : Span) {d e : Term} → OkEnv g → find g F ≡ Some (Sig.Fun Impure [] empty hiding, d) → find g A ≡ Some (empty, e) → ModShows g (application at f a) Impure hiding
generative_application g at f a ok p q =
    show-project ok
    (show-struct
    (show-next ok (tt, tt) (show-module (_, _, ModMeans.mod_name (NamedGives.named p))) λ ok1 names1.
    show-next ok1 names1 (show-module (_, _, ModMeans.mod_name (NamedGives.named (ap past_term q)))) λ ok2 names2.
    show-next ok2 names2 (show-module (show-apply refl refl empty_matches (AlikeAbs.ex (pair-form var0)))) λ ok3 names3.
    show-end (Collected.next refl (Collected.next refl (Collected.next refl Collected.none)))))
    HasField.here

shared_application : (g : Env) (at f a : Span) {d e : Term} → OkEnv g → Normal (kinds g) (Ty.Var 0) Kind.Star → find g F ≡ Some (shared_functor (Ty.Var 0), d) → find g A ≡ Some (empty, e) → ModShows g (application at f a) Pure (Abs.Ex [] (pair_of (Ty.Var 0)))
shared_application g at f a ok n p q =
    show-project ok
    (show-struct
    (show-next ok (tt, tt) (show-module (_, _, ModMeans.mod_name (NamedGives.named p))) λ ok1 names1.
    show-next ok1 names1 (show-module (_, _, ModMeans.mod_name (NamedGives.named (ap past_term q)))) λ ok2 names2.
    show-next ok2 names2 (show-module (show-apply refl refl empty_matches (AlikeAbs.ex (pair-form n)))) λ ok3 names3.
    show-end (Collected.next refl (Collected.next refl (Collected.next refl Collected.none)))))
    HasField.here

-- generative

generative_shows : BindShows after_empty (functor_bind true) F Pure (Abs.Ex [] (Sig.Fun Impure [] empty hiding))
generative_shows =
    let ok : OkEnv (Entry.Named X empty ∷ after_empty) = ((WellFormed.str tt WellFormedRow.end, tt), ok_empty) in
    show-module (show-generative ok (SigMeans.sig_decls DeclsMean.no_decls) (body_shows (Entry.Named X empty ∷ after_empty) ok))

abbrev after_generative : Env
after_generative = Entry.Named F (Sig.Fun Impure [] empty hiding) ∷ after_empty

abbrev after_first : Env
after_first = Entry.Named P (pair_of (Ty.Var 0)) ∷ Entry.TypeVar Kind.Star ∷ after_generative

abbrev after_second : Env
after_second = Entry.Named Q (pair_of (Ty.Var 0)) ∷ Entry.TypeVar Kind.Star ∷ after_first

first_shows : BindShows after_generative first_bind P Impure hiding
first_shows = show-module (generative_application after_generative (Bytes 127 130) (Bytes 127 128) (Bytes 129 130) (ok-after ok_empty generative_shows) refl refl)

ok_first : OkEnv after_first
ok_first = ok-after (ok-after ok_empty generative_shows) first_shows

second_shows : BindShows after_first second_bind Q Impure hiding
second_shows = show-module (generative_application after_first (Bytes 142 145) (Bytes 142 143) (Bytes 144 145) ok_first refl refl)

-- (fun (x : P.t) => x), where P's type has the index i
identity_means : {g : Env} {i : ℕ} {e : Term} → Normal (kinds g) (Ty.Var i) Kind.Star → find g P ≡ Some (pair_of (Ty.Var i), e) → (d : Term) × ExpMeans g identity (Ty.Arrow (Ty.Var i) (Ty.Var i)) d
identity_means h p = (
  _,
  ExpMeans.exp_lam
      (TyMeans.ty_path (ModMeans.mod_project (ModMeans.mod_name (NamedGives.named p)) (Projected.pure HasField.here)) (TypeOfPath.type_of (own-path h)))
      (ExpMeans.exp_path (ModMeans.mod_name (NamedGives.named refl)) (ValueOfPath.value_at (own-path h)))
      FunctionGives.function,
)

-- Q.v, where Q's type has the index i
argument_means : {g : Env} {i : ℕ} {e : Term} → Normal (kinds g) (Ty.Var i) Kind.Star → find g Q ≡ Some (pair_of (Ty.Var i), e) → (d : Term) × ExpMeans g argument (Ty.Var i) d
argument_means h p = (_, ExpMeans.exp_path (ModMeans.mod_project (ModMeans.mod_name (NamedGives.named p)) (Projected.pure (HasField.there (differ refl) HasField.here))) (ValueOfPath.value_at (own-path h)))

zero-not-one : Ty.Var 0 ≢ Ty.Var 1
zero-not-one p = cc

-- the results of two applications of a generative functor have different types, so the program is refused
pub generative_refused : GenerativeRefused
generative_refused =
    Refused.inside (inr ((A, made Pure (Abs.Ex [] empty) empty_shows.0 empty_shows.1), empty_shows.2, inl (refl, refl)))
    (Refused.inside (inr ((F, made Pure (Abs.Ex [] (Sig.Fun Impure [] empty hiding)) generative_shows.0 generative_shows.1), generative_shows.2, inl (refl, refl)))
    (Refused.inside (inr ((P, made Impure hiding first_shows.0 first_shows.1), first_shows.2, inl (refl, refl)))
    (Refused.inside (inr ((Q, made Impure hiding second_shows.0 second_shows.1), second_shows.2, inl (refl, refl)))
    (Refused.inside (inl (refl, refl))
    (Refused.inside (inl (refl, refl))
    (Refused.inside (inr (_, (identity_means {g = after_second} {i = 1} var1 refl).1, inl (refl, refl)))
    (Refused.here (inr (_, refl, (_, (argument_means {g = after_second} {i = 0} var0 refl).1, inl (_, CallRefuses.arg_type zero-not-one, refl)))))))))))

-- applicative

lift-form : Lift [] [] empty hiding (Abs.Ex (Kind.Star ∷ []) (shared_functor (Ty.Var 0)))
lift-form = Lift.lift (AlikeAbs.ex (AlikeSig.fun (AlikeSig.str AlikeRow.end) (AlikeAbs.ex (pair-form var0))))

applicative_shows : BindShows after_empty (functor_bind false) F Pure (Abs.Ex (Kind.Star ∷ []) (shared_functor (Ty.Var 0)))
applicative_shows =
    let ok : OkEnv (Entry.Named X empty ∷ after_empty) = ((WellFormed.str tt WellFormedRow.end, tt), ok_empty) in
    show-module (show-applicative (SigMeans.sig_decls DeclsMean.no_decls) (body_shows (Entry.Named X empty ∷ after_empty) ok) lift-form)

abbrev after_shared : Env
after_shared = Entry.Named F (shared_functor (Ty.Var 0)) ∷ Entry.TypeVar Kind.Star ∷ after_empty

abbrev after_shared_first : Env
after_shared_first = Entry.Named P (pair_of (Ty.Var 0)) ∷ after_shared

abbrev after_shared_second : Env
after_shared_second = Entry.Named Q (pair_of (Ty.Var 0)) ∷ after_shared_first

value_shows : BindShows after_shared_second value_bind z Pure (Abs.Ex [] (Sig.Val (Ty.Var 0)))
value_shows = (_, _, BindMeans.bind_val (ExpMeans.exp_apply (identity_means {i = 0} var0 refl).1 (ArgsMean.next_value (argument_means {i = 0} var0 refl).1 CallGives.call ArgsMean.no_arg)) ValueModule.value)

program_shows : BindsShow [] [] (twice false) Pure shared_sig
program_shows =
    show-next {g = []} tt (tt, tt) empty_shows λ ok1 names1.
    show-next ok1 names1 applicative_shows λ ok2 names2.
    show-next ok2 names2 (show-module (shared_application after_shared (Bytes 127 130) (Bytes 127 128) (Bytes 129 130) ok2 var0 refl refl)) λ ok3 names3.
    show-next ok3 names3 (show-module (shared_application after_shared_first (Bytes 142 145) (Bytes 142 143) (Bytes 144 145) ok3 var0 refl refl)) λ ok4 names4.
    show-next ok4 names4 value_shows λ ok5 names5.
    show-end (Collected.next refl (Collected.next refl (Collected.next refl (Collected.next refl (Collected.next refl Collected.none)))))

-- two applications of an applicative functor to one structure share their type, so the program means a module
pub applicative_shares : ApplicativeShares
applicative_shares =
    let M = made Pure shared_sig program_shows.0 program_shows.1 in
    let whole = packed-one [] M (binds_ok [] [] (twice false) M tt tt program_shows.2) in
    let means = ProgramMeans.program program_shows.2 whole.1 in
    (program_shows.0, program_shows.1, whole.0, means, whole_is_typed (twice false) Pure shared_sig program_shows.0 program_shows.1 whole.0 means)
