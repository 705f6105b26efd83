-- The examples.
-- Main results: int_is_found, nothing_is_found.
use Rattle.std.specs.Prelude.{ℕ, zero, List, [], ◌∷◌, ◌≡◌, IsTrue}
use Rattle.std.proofs.Common.{arith}
use Rattle.std.proofs.Math.Path.{refl, sym, subst}
use Rattle.omega_kinds.specs.Kind.{Kind}
use Rattle.omega_kinds.specs.Name.{Name}
use Rattle.omega_kinds.specs.LabelOrder.{name_before}
use Rattle.omega_types.specs.Ty.{Ty}
use Rattle.omega_types.specs.Kinding.{here}
use Rattle.omega_types.specs.Kinding.HasKind.{k_var, k_int}
use Rattle.omega_types.specs.Conversion.Conv.{c_refl}
use Rattle.omega_types.specs.Normality.{n_int, n_neutral, n_var}
use Rattle.omega_types.specs.Binders.{OfKinds, NormalForms}
use Rattle.sig_definitions.specs.Signatures.Sig.{Sig, SigRow, HasField}
use Rattle.sig_definitions.specs.Signatures.Alike.{typ, str, end, more}
use Rattle.sig_definitions.specs.Explicit.SigPath.{SigPath, Item, PathBefore, PartAt, ParamOn, by_name, first, later}
use Rattle.sig_definitions.specs.Explicit.RootPath.{Rooted, RootPath, root_path, LeastRoot, least, root_of}
use Rattle.sig_definitions.specs.Explicit.WellFormed.{WellFormed, WellFormedRow, EachRooted, explicit, in_str, in_more, in_typ, in_end}
use Rattle.sig_definitions.specs.Matching.Subtyping.{Sub, SubFields, Match}
use Rattle.sig_definitions.specs.Matching.LookUp.{Found, FoundAt, found_at, FoundAfter}
use Rattle.sig_definitions.specs.Matching.MatchRefusal.{RefusesMatch}
use Rattle.omega_kinds.proofs.NameLaws.{name-irreflexive}
use Rattle.sig_match_laws.proofs.Theorems.{match_sig_gives}
use Rattle.sig_match_laws.specs.Examples.{name_t, with_int, with_nothing, hides_t, IntIsFound, NothingIsFound}
use Rattle.sig_laws.proofs.Algebra.Paths.{one_least}
use Rattle.sig_laws.specs.Good.{OkSig, OkRight}

-- the one path
abbrev path_t : SigPath
path_t = Item.Part name_t ∷ []

-- the body of the example, a structure of the hidden type
abbrev pub body_t : Sig
body_t = Sig.Str (SigRow.More name_t (Sig.Typ (Ty.Var zero) Kind.Star) SigRow.End)

root_t : (number : ℕ) → number ≡ zero → RootPath [] (Kind.Star ∷ []) body_t number path_t
root_t number e = subst (λ n. RootPath [] (Kind.Star ∷ []) body_t n path_t) (sym e) (root_path (omega arith) (root_of (Rooted.at (PartAt.field HasField.here PartAt.end) (c_refl (k_var here))) (λ j le ds ks q on. absurd (no_param on))))
  where
    no_inner : {ds ks : List Kind} {q : Sig} → ParamOn (Sig.Typ (Ty.Var zero) Kind.Star) [] ds ks q → ⊥
    no_inner on = elim on [ ]

    no_param : {ds ks : List Kind} {q : Sig} → ParamOn body_t path_t ds ks q → ⊥
    no_param (ParamOn.field HasField.here on) = no_inner on
    no_param (ParamOn.field (HasField.there n h) on) = elim h [ ]

-- the hidden type of the example has a root path
pub roots_t : EachRooted [] (Kind.Star ∷ []) body_t
roots_t number lt = (path_t, root_t number (omega (arith, lt)))

good_t : OkRight [] hides_t
good_t = (explicit (WellFormed.str (tt, tt) (WellFormedRow.more (WellFormed.typ (k_var here)) WellFormedRow.end)) (in_str (in_more in_typ in_end)) roots_t, (n_neutral (n_var here), tt))

good_int : OkSig [] with_int
good_int = (WellFormed.str (tt, tt) (WellFormedRow.more (WellFormed.typ k_int) WellFormedRow.end), (n_int, tt))

good_nothing : OkSig [] with_nothing
good_nothing = (WellFormed.str tt WellFormedRow.end, tt)

-- the structure with t as Int matches, and Int is found for the hidden type
pub int_is_found : IntIsFound
int_is_found = (
  _,
  ((match_sig_gives [] with_int hides_t good_int good_t).0 (Ty.Int ∷ []) _).1
      (Match.at (OfKinds.next k_int OfKinds.none) (NormalForms.next (n_int, c_refl k_int) NormalForms.none) (str (more (typ (n_int, c_refl k_int)) end)) (Sub.str (SubFields.more HasField.here Sub.typ SubFields.end))),
)

in_field : {l : Name} {s : Sig} → HasField (SigRow.More name_t (Sig.Typ (Ty.Var zero) Kind.Star) SigRow.End) l s → IsTrue (name_before l name_t) → ⊥
in_field HasField.here h = name-irreflexive name_t h
in_field (HasField.there n g) h = elim g [ ]

by_part : {q : SigPath} {bs : List Kind} {t : Ty} {k : Kind} → PartAt body_t q bs (Sig.Typ t k) → PathBefore q path_t → ⊥
by_part (PartAt.field g a) (first (by_name h)) = in_field g h
by_part (PartAt.field g a) (later b) = elim b [ ]

no_earlier : {i : ℕ} {q : SigPath} → Rooted (Kind.Star ∷ []) body_t i q → PathBefore q path_t → ⊥
no_earlier (Rooted.at a c) b = by_part a b

least_t : LeastRoot [] (Kind.Star ∷ []) body_t 0 path_t
least_t = least (root_t zero refl) earlier
  where
    earlier : (q : SigPath) → RootPath [] (Kind.Star ∷ []) body_t 0 q → PathBefore q path_t → ⊥
    earlier q (root_path lt (root_of r h)) b = no_earlier r b

-- the empty structure is refused: the hidden type has no root in it
pub nothing_is_found : NothingIsFound
nothing_is_found = ((match_sig_gives [] with_nothing hides_t good_nothing good_t).1 _).1 (RefusesMatch.no_root FoundAfter.none (omega arith) least_t (λ t f. none f))
  where
    none : {t : Ty} → FoundAt [] with_nothing (Kind.Star ∷ []) body_t [] t → ⊥
    none {t} (found_at {p = p} {n = n} l k f) = empty (subst (λ z. Found [] with_nothing z n t) (one_least l least_t) f)
      where
        empty : {n : Sig} {t : Ty} → Found [] with_nothing path_t n t → ⊥
        empty (Found.field hs hr f) = elim hs [ ]
