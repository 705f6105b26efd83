-- The derivations of refusals: a hidden type where a number is needed, and three matches of a sealing.
-- Main results: hidden_sum_refused, unmatched_refused, missing_refused, other_type_refused.
use Rattle.std.specs.Prelude.{List, [], ◌∷◌, ◌≡◌, ◌≢◌, true, IsTrue}
use Rattle.std.proofs.Math.Path.{refl}
use Rattle.std.proofs.Common.{arith, inl, inr}
use Rattle.std.proofs.lemmas.Bool.{false≢true}
use Rattle.omega_kinds.specs.Kind.{Kind}
use Rattle.omega_kinds.specs.Name.{Name}
use Rattle.omega_kinds.specs.LabelOrder.{name_before}
use Rattle.omega_types.specs.Ty.{Ty}
use Rattle.omega_types.specs.Kinding.{here}
use Rattle.omega_types.specs.Kinding.HasKind.{k_var}
use Rattle.omega_types.specs.Conversion.Conv.{c_refl}
use Rattle.omega_types.specs.Normality.Normal.{n_int}
use Rattle.sig_definitions.specs.Signatures.Sig.{Sig, Abs, SigRow, HasField, made}
use Rattle.sig_definitions.specs.Explicit.SigPath.{SigPath, Item, PartAt, PathBefore, ItemBefore}
use Rattle.sig_definitions.specs.Explicit.RootPath.{Rooted, RootPath, LeastRoot, RootOf}
use Rattle.sig_definitions.specs.Matching.LookUp.{Found, FoundAt, FoundAfter}
use Rattle.sig_definitions.specs.Matching.MatchRefusal.{Why, MatchRefusal, RefusesMatch, RefusesSub, RefusesFields}
use Rattle.sig_definitions.specs.Signatures.Alike.{AlikeSig, AlikeRow}
use Rattle.sig_definitions.specs.Env.{Entry}
use Rattle.fing_syntax.specs.Phrase.{Span, Bytes, Spelled, Mod, ModAt, ModStruct, ModProject, ModSeal, BindAt, BindVal, BindModule, NoBinds, MoreBinds, ExpAt, ExpBool, SigEx}
use Rattle.fing_syntax.specs.Place.{sig_span}
use Rattle.omega_terms.specs.Term.{Term}
use Rattle.elab_judgments.specs.Judgments.Program.{ProgramRefused}
use Rattle.elab_judgments.specs.Refusals.Refusal.{refuse_match}
use Rattle.module_judgments.specs.PathUse.{ValueOfPath}
use Rattle.module_judgments.specs.Projection.{Projected}
use Rattle.module_judgments.specs.Sequence.{Collected}
use Rattle.sig_judgments.specs.SigRules.{ValueGives, AbstractGives, DeclarationsGive}
use Rattle.module_judgments.specs.ModRules.{ValueGives as ValueModule, NamedGives}
use Rattle.core_judgments.specs.TypeRules.{BaseGives}
use Rattle.core_judgments.specs.ExpRules.{LiteralGives}
use Rattle.elab_judgments.specs.Judgments.Meaning.{TyMeans, ExpMeans, SigMeans, DeclMeans, DeclsMean, ModMeans, BindMeans, BindsMean}
use Rattle.elab_judgments.specs.Refusals.Refused.{Refused}
use Rattle.elab_examples.specs.Rows.{HiddenSumRefused, UnmatchedRefused, MissingRefused, OtherTypeRefused, t, x, M, h0, h1}
use Rattle.elab_examples.proofs.Outcomes.{ModShows, show-struct, show-end, show-next}
use Rattle.omega_kinds.specs.declared.effect.Effect.TheVariants.{Pure}
use Rattle.elab_examples.proofs.Sealing.{sealed_means}
use Rattle.elab_examples.proofs.PackageOrder.{no-field-of-end, no-params}
use Rattle.elab_examples.proofs.Parts.{differ, own-path, var0}
use Rattle.omega_types.proofs.BinderPuts.{its-form}

var-not-int : Ty.Var 0 ≢ Ty.Int
var-not-int p = cc

-- adding to a value of a hidden type is refused: the type differs from Int
pub hidden_sum_refused : HiddenSumRefused
hidden_sum_refused =
    Refused.inside (inr (_, BindMeans.bind_module sealed_means, inl (refl, refl)))
    (Refused.inside (inl (refl, refl))
    (Refused.inside (inl (refl, refl))
    (Refused.inside
    (inr (
      _,
      ExpMeans.exp_path
          (ModMeans.mod_project (ModMeans.mod_name (NamedGives.named refl)) (Projected.pure (HasField.there (differ refl) HasField.here)))
          (ValueOfPath.value_at (own-path var0)),
      inl (refl, refl),
    ))
    (Refused.here (inl (var-not-int, refl))))))

-- a sealing, in its derived form, is refused where its match is
seal-refused : {whole at given : Span} {m : Mod} {a : SigEx} {s : Sig} {ts : List Ty} {e : Term} {y : Abs} {q : MatchRefusal} → ModMeans [] m (made Pure (Abs.Ex [] s) ts e) → SigMeans (Entry.Named h1 s ∷ []) a y → RefusesMatch [] s y q
    → ProgramRefused (MoreBinds (BindAt whole (BindModule (Spelled M (Bytes 7 8)) (ModAt at (ModProject (ModAt at (ModStruct (MoreBinds (BindAt at (BindModule (Spelled h1 at) m)) (MoreBinds (BindAt at (BindModule (Spelled h0 at) (ModAt at (ModSeal (Spelled h1 given) a)))) NoBinds)))) (Spelled h0 at))))) NoBinds) (refuse_match (Entry.Named h1 s ∷ []) (sig_span a) q)
seal-refused p d n =
    Refused.inside (inl (refl, refl))
    (Refused.inside (inl (refl, refl))
    (Refused.inside (inl (refl, refl))
    (Refused.inside (inl (refl, refl))
    (Refused.inside (inr (_, BindMeans.bind_module p, inl (refl, refl)))
    (Refused.inside (inl (refl, refl))
    (Refused.inside (inl (refl, refl))
    (Refused.here (inr (_, refl, (_, d, inl (_, n, refl)))))))))))

-- (str (t (type a0 *)))
abbrev wanted : Sig
wanted = Sig.Str (SigRow.More t (Sig.Typ (Ty.Var 0) Kind.Star) SigRow.End)

abbrev nothing : Sig
nothing = Sig.Str SigRow.End

-- nothing is found in an empty structure
not-found : {s r : Sig} {p : SigPath} {u : Ty} → s ≡ nothing → Found [] s p r u → ⊥
not-found e Found.end = cc
not-found e (Found.field HasField.here h f) = cc
not-found e (Found.field (HasField.there d i) h f) = cc
not-found e (Found.result m n f) = cc

before-itself : {l : Name} {s : Sig} → HasField (SigRow.More t (Sig.Typ (Ty.Var 0) Kind.Star) SigRow.End) l s → IsTrue (name_before l t) → ⊥
before-itself HasField.here b = false≢true b
before-itself (HasField.there d h) b = no-field-of-end h

no-root-at-end : RootPath [] (Kind.Star ∷ []) wanted 0 [] → ⊥
no-root-at-end (RootPath.root_path lt (RootOf.root_of (Rooted.at p c) a)) = elim p [ ]

no-root-before : {a : Item} {q : SigPath} → RootPath [] (Kind.Star ∷ []) wanted 0 (a ∷ q) → ItemBefore a (Item.Part t) → ⊥
no-root-before (RootPath.root_path lt (RootOf.root_of (Rooted.at (PartAt.field h p) c) a)) (ItemBefore.by_name b) = before-itself h b

none-before : (q : SigPath) → RootPath [] (Kind.Star ∷ []) wanted 0 q → PathBefore q (Item.Part t ∷ []) → ⊥
none-before _ r PathBefore.begins = no-root-at-end r
none-before _ r (PathBefore.first b) = no-root-before r b
none-before _ r (PathBefore.later b) = elim b [ ]

root : LeastRoot [] (Kind.Star ∷ []) wanted 0 (Item.Part t ∷ [])
root =
    LeastRoot.least
    (RootPath.root_path
    (omega arith)
    (RootOf.root_of
    (Rooted.at (PartAt.field HasField.here PartAt.end) (c_refl (k_var here)))
    (λ j a ds ks q p. absurd (no-params p))))
    none-before

none-found : (u : Ty) → FoundAt [] nothing (Kind.Star ∷ []) wanted [] u → ⊥
none-found u (FoundAt.found_at r n f) = not-found refl f

-- the empty structure against a hidden type t is refused: t has no root in it
pub unmatched_refused : UnmatchedRefused
unmatched_refused =
    seal-refused (ModMeans.mod_struct (BindsMean.no_binds Collected.none))
    (SigMeans.sig_decls (DeclsMean.next_decl (DeclMeans.decl_of AbstractGives.abstract) (tt, tt) DeclsMean.no_decls DeclarationsGive.declarations))
    (RefusesMatch.no_root FoundAfter.none (omega arith) root none-found)

-- a value part that the left side lacks, or has of another type

missing_match : RefusesMatch [] nothing (Abs.Ex [] (Sig.Str (SigRow.More x (Sig.Val Ty.Int) SigRow.End))) (MatchRefusal.Clash 0 (Item.Part x ∷ []) Why.Missing)
missing_match = RefusesMatch.inside FoundAfter.none refl (AlikeSig.str (AlikeRow.more (AlikeSig.val (its-form n_int)) AlikeRow.end)) (RefusesSub.structures (RefusesFields.missing tt))

-- the empty structure against a value x is refused: x is missing
pub missing_refused : MissingRefused
missing_refused =
    seal-refused (ModMeans.mod_struct (BindsMean.no_binds Collected.none))
    (SigMeans.sig_decls (DeclsMean.next_decl (DeclMeans.decl_val (TyMeans.ty_int BaseGives.int) ValueGives.value) (tt, tt) DeclsMean.no_decls DeclarationsGive.declarations))
    missing_match

bool-not-int : Ty.Bool ≢ Ty.Int
bool-not-int p = cc

type_match : RefusesMatch [] (Sig.Str (SigRow.More x (Sig.Val Ty.Bool) SigRow.End)) (Abs.Ex [] (Sig.Str (SigRow.More x (Sig.Val Ty.Int) SigRow.End))) (MatchRefusal.Clash 0 (Item.Part x ∷ []) (Why.Types Ty.Bool Ty.Int))
type_match =
    RefusesMatch.inside FoundAfter.none refl
    (AlikeSig.str (AlikeRow.more (AlikeSig.val (its-form n_int)) AlikeRow.end))
    (RefusesSub.structures (RefusesFields.at_field HasField.here (RefusesSub.values bool-not-int)))

bool_shows : {at : Span} → ModShows [] (ModAt at (ModStruct (MoreBinds (BindAt (Bytes 18 30) (BindVal (Spelled x (Bytes 22 23)) (ExpAt (Bytes 26 30) (ExpBool true)))) NoBinds))) Pure (Abs.Ex [] (Sig.Str (SigRow.More x (Sig.Val Ty.Bool) SigRow.End)))
bool_shows = show-struct (show-next {g = []} tt (tt, tt) (_, _, BindMeans.bind_val (ExpMeans.exp_bool LiteralGives.bool) ValueModule.value) λ ok2 names. show-end (Collected.next refl Collected.none))

-- a truth value x against an integer x is refused: the types clash
pub other_type_refused : OtherTypeRefused
other_type_refused =
    seal-refused bool_shows.2
    (SigMeans.sig_decls (DeclsMean.next_decl (DeclMeans.decl_val (TyMeans.ty_int BaseGives.int) ValueGives.value) (tt, tt) DeclsMean.no_decls DeclarationsGive.declarations))
    type_match
