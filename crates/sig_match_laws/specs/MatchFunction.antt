-- Matching and subtyping as functions: what each call of a program comes to, step by step.
use Rattle.std.specs.Prelude.{ℕ, zero, suc, ◌+◌, List, [], ◌∷◌, ◌++◌, ◌≡◌, Option, Some, None, length}
use Rattle.omega_kinds.specs.Kind.{Kind, Kind-discrete}
use Rattle.omega_kinds.specs.declared.label.Label.{Label}
use Rattle.omega_kinds.specs.declared.effect.Effect.{Effect}
use Rattle.omega_kinds.specs.declared.effect.Effect.TheVariants.{Pure, Impure}
use Rattle.omega_kinds.specs.Name.{Name}
use Rattle.omega_types.specs.Ty.{Ty}
use Rattle.omega_types.specs.Normaliser.{hsubst}
use Rattle.omega_types.specs.Binders.{extend, raise, lam_over}
use Rattle.omega_terms.specs.Term.{Term, TermRow}
use Rattle.omega_terms.specs.Shorthands.{opens}
use Rattle.omega_terms.specs.Coercions.{same_part, meta_part, fields_part, functor_part}
use Rattle.sig_definitions.specs.Signatures.Sig.{Sig, Abs, SigRow}
use Rattle.sig_definitions.specs.Signatures.SigSubst.{raise_abs, sig_at, sig_at_under, abs_at_under}
use Rattle.sig_definitions.specs.Signatures.SigSize.{size, size_abs}
use Rattle.sig_laws.specs.NormalSig.{normal_sig, normal_abs}
use Rattle.sig_definitions.specs.Signatures.Encoding.{enc, enc_abs}
use Rattle.sig_definitions.specs.Explicit.SigPath.{SigPath, Item}
use Rattle.sig_definitions.specs.Matching.MatchRefusal.{Form, Missing, Effects, Types, MatchRefusal, NoRoot, within, clash}
use Rattle.omega_kinds.proofs.NameLaws.{dec_name}
use Rattle.sig_laws.specs.Decide.{dec_ty}
use Rattle.sig_match_laws.specs.RootSearch.{least_root}

-- what subtyping comes to, and of the fields of a structure, and matching
pub data Outcome : Type 0 where
  coerced : (f : Term) → Outcome
  refused : (refusal : MatchRefusal) → Outcome

pub data FieldsOutcome : Type 0 where
  parts : (f : TermRow) → FieldsOutcome
  refused : (refusal : MatchRefusal) → FieldsOutcome

pub data MatchOutcome : Type 0 where
  matched : (ts : List Ty) (f : Term) → MatchOutcome
  refused : (refusal : MatchRefusal) → MatchOutcome

-- what looking up all variables comes to
pub data Lookings : Type 0 where
  all_found : (ts : List Ty) → Lookings
  stopped_at : (number : ℕ) (path : SigPath) → Lookings

abbrev pub SubFn : Type 0
SubFn = List Kind → Sig → Sig → Outcome

abbrev pub AbsFn : Type 0
AbsFn = List Kind → Abs → Abs → Outcome

abbrev pub MatchFn : Type 0
MatchFn = List Kind → Sig → Abs → MatchOutcome

-- the three functions for smaller signatures
abbrev pub Fns : Type 0
Fns = SubFn × AbsFn × MatchFn

-- the part of a name
abbrev pub this_or : {l m : Name} → Dec (l ≡ m) → Sig → Option Sig → Option Sig
this_or (yes e) s q = Some s
this_or (no n) s q = q

abbrev pub find_field : Name → SigRow → Option Sig
find_field l SigRow.End = None
find_field l (SigRow.More m s rest) = this_or (dec_name l m) s (find_field l rest)

-- a closed normal type of each kind, for variables whose types make no difference
abbrev pub any_type : Kind → Ty
any_type Kind.Star = Ty.Int
any_type (Kind.Arrow k l) = Ty.Lam k (any_type l)

abbrev pub any_types : List Kind → List Ty
any_types [] = []
any_types (k ∷ ks) = any_type k ∷ any_types ks

-- looking up along a path

abbrev pub look_end : {k j : Kind} → Dec (k ≡ j) → Ty → Option Ty
look_end (yes e) t = Some t
look_end (no n) t = None

abbrev pub look_field : Option Sig → Option Sig → (Sig → Sig → Option Ty) → Option Ty
look_field (Some s) (Some r) f = f s r
look_field (Some s) None f = None
look_field None q f = None

abbrev pub lam_found : List Kind → Option Ty → Option Ty
lam_found ks None = None
lam_found ks (Some t) = Some (lam_over ks t)

abbrev pub look_result : List Kind → MatchOutcome → (List Ty → Option Ty) → Option Ty
look_result js (MatchOutcome.refused q) f = None
look_result js (MatchOutcome.matched ts g) f = lam_found js (f ts)

abbrev pub look : MatchFn → List Kind → Sig → SigPath → Sig → Option Ty
look m ctx (Sig.Typ t k) [] (Sig.Typ u j) = look_end (Kind-discrete k j) t
look m ctx (Sig.Str fs) (Item.Part l ∷ p) (Sig.Str gs) = look_field (find_field l fs) (find_field l gs) (λ s r. look m ctx s p r)
look m ctx (Sig.Fun Pure ks a (Abs.Ex [] s)) (Item.Res ∷ p) (Sig.Fun Pure js b (Abs.Ex [] r)) =
    look_result js (m (extend ctx js) b (raise_abs js (Abs.Ex ks a))) (λ ts. look m (extend ctx js) (normal_sig (extend ctx js) (sig_at_under js ts s)) p r)
look m ctx _ p _ = None

-- all variables in order

abbrev pub go_on : ℕ → SigPath → Option Ty → (Ty → Lookings) → Lookings
go_on number p None f = stopped_at number p
go_on number p (Some t) f = f t

abbrev pub look_along : ℕ → Option SigPath → (SigPath → Option Ty) → (Ty → Lookings) → Lookings
look_along number None look_at f = stopped_at number []
look_along number (Some p) look_at f = go_on number p (look_at p) f

abbrev pub look_all : MatchFn → List Kind → Sig → List Kind → Sig → (before : List Ty) → (left : List Kind) → Lookings
look_all m ctx s ks r before [] = all_found before
look_all m ctx s ks r before (k ∷ more) =
    look_along (length before) (least_root ctx ks r (length before))
    (λ p. look m ctx s p (normal_sig ctx (sig_at (before ++ any_types (k ∷ more)) r)))
    (λ t. look_all m ctx s ks r (before ++ (t ∷ [])) more)

-- matching: all variables are looked up before any part is compared

abbrev pub with_types : List Ty → Outcome → MatchOutcome
with_types ts (Outcome.coerced f) = MatchOutcome.matched ts f
with_types ts (Outcome.refused q) = MatchOutcome.refused q

abbrev pub compare_all : SubFn → List Kind → Sig → Sig → Lookings → MatchOutcome
compare_all sub ctx s r (stopped_at number p) = MatchOutcome.refused (NoRoot number p)
compare_all sub ctx s r (all_found ts) = with_types ts (sub ctx s (normal_sig ctx (sig_at ts r)))

abbrev pub match_step : Fns → MatchFn
match_step F ctx s (Abs.Ex ks r) = compare_all F.0 ctx s r (look_all F.2 ctx s ks r [] ks)

-- packing

abbrev pub pack_up : List Ty → Term → Ty → Term
pack_up [] e u = e
pack_up (t ∷ ts) e (Ty.Ex k body) = Term.Pack t (pack_up ts e (hsubst k zero t body)) (Ty.Ex k body)
pack_up (t ∷ ts) e u = e

-- subtyping of abstract signatures

abbrev pub plain_up : (from to : Ty) → MatchOutcome → Outcome
plain_up from to (MatchOutcome.refused q) = Outcome.refused q
plain_up from to (MatchOutcome.matched ts f) = Outcome.coerced (Term.Lam from (pack_up ts (Term.Call f (Term.Var zero)) to))

abbrev pub hidden_up : (from : Ty) → List Kind → (to : Ty) → MatchOutcome → Outcome
hidden_up from ks to (MatchOutcome.refused q) = Outcome.refused q
hidden_up from ks to (MatchOutcome.matched ts f) = Outcome.coerced (Term.Lam from (opens ks (Term.Var zero) from (pack_up ts (Term.Call f (Term.Var zero)) to)))

abbrev pub abs_step : Fns → AbsFn
abs_step F ctx (Abs.Ex [] s) y = plain_up (enc s) (enc_abs y) (F.2 ctx s y)
abs_step F ctx (Abs.Ex (k ∷ ks) s) y = hidden_up (enc_abs (Abs.Ex (k ∷ ks) s)) (k ∷ ks) (raise (k ∷ ks) (enc_abs y)) (F.2 (extend ctx (k ∷ ks)) s (raise_abs (k ∷ ks) y))

-- subtyping

abbrev pub where_same : {A : Type 0} → Dec A → Term → MatchRefusal → Outcome
where_same (yes a) f q = Outcome.coerced f
where_same (no n) f q = Outcome.refused q

abbrev pub where_both_same : {A B : Type 0} → Dec A → Dec B → Term → MatchRefusal → Outcome
where_both_same (yes a) b f q = where_same b f q
where_both_same (no n) b f q = Outcome.refused q

abbrev pub both_ways : Term → Outcome → Outcome → Outcome
both_ways f (Outcome.refused q) o = Outcome.refused (within Item.Meta q)
both_ways f (Outcome.coerced g) (Outcome.refused q) = Outcome.refused (within Item.Meta q)
both_ways f (Outcome.coerced g) (Outcome.coerced h) = Outcome.coerced f

abbrev pub part_then : Name → Outcome → FieldsOutcome → FieldsOutcome
part_then l (Outcome.refused q) rest = FieldsOutcome.refused (within (Item.Part l) q)
part_then l (Outcome.coerced f) (FieldsOutcome.refused q) = FieldsOutcome.refused q
part_then l (Outcome.coerced f) (FieldsOutcome.parts g) = FieldsOutcome.parts (TermRow.More (Label.Name l) f g)

abbrev pub field_then : SubFn → List Kind → Name → Option Sig → Sig → FieldsOutcome → FieldsOutcome
field_then sub ctx l None t rest = FieldsOutcome.refused (within (Item.Part l) (clash ctx Missing))
field_then sub ctx l (Some s) t rest = part_then l (sub ctx s t) rest

abbrev pub fields_step : SubFn → List Kind → SigRow → SigRow → FieldsOutcome
fields_step sub ctx fs SigRow.End = FieldsOutcome.parts TermRow.End
fields_step sub ctx fs (SigRow.More l t gs) = field_then sub ctx l (find_field l fs) t (fields_step sub ctx fs gs)

abbrev pub fields_up : Ty → FieldsOutcome → Outcome
fields_up from (FieldsOutcome.refused q) = Outcome.refused q
fields_up from (FieldsOutcome.parts f) = Outcome.coerced (fields_part from f)

abbrev pub result_step : Fns → List Kind → Effect → Effect → Abs → Abs → Outcome
result_step F ctx e Impure x y = F.1 ctx x y
result_step F ctx Pure Pure (Abs.Ex [] s) (Abs.Ex [] t) = F.0 ctx s t
result_step F ctx _ _ x y = Outcome.refused (clash ctx Form)

abbrev pub result_up : (Term → Term) → Outcome → Outcome
result_up f (Outcome.refused q) = Outcome.refused (within Item.Res q)
result_up f (Outcome.coerced g) = Outcome.coerced (f g)

abbrev pub param_up : (List Ty → Term → Outcome) → MatchOutcome → Outcome
param_up f (MatchOutcome.refused q) = Outcome.refused (within Item.Arg q)
param_up f (MatchOutcome.matched ts g) = f ts g

-- an impure functor may not stand for a pure one
abbrev pub where_may : Effect → Effect → MatchRefusal → Outcome → Outcome
where_may Impure Pure q o = Outcome.refused q
where_may e d q o = o

abbrev pub sub_step : Fns → SubFn
sub_step F ctx (Sig.Val t) (Sig.Val u) = where_same (dec_ty t u) (same_part (enc (Sig.Val t))) (clash ctx (Types t u))
sub_step F ctx (Sig.Typ t k) (Sig.Typ u j) = where_both_same (dec_ty t u) (Kind-discrete k j) (same_part (enc (Sig.Typ t k))) (clash ctx (Types t u))
sub_step F ctx (Sig.Meta x) (Sig.Meta y) = both_ways (meta_part (enc (Sig.Meta x)) (enc_abs y)) (F.1 ctx x y) (F.1 ctx y x)
sub_step F ctx (Sig.Str fs) (Sig.Str gs) = fields_up (enc (Sig.Str fs)) (fields_step F.0 ctx fs gs)
sub_step F ctx (Sig.Fun e ks s x) (Sig.Fun d js t z) =
    where_may e d (clash ctx Effects)
    (param_up (λ ts f. result_up (λ g. functor_part (enc (Sig.Fun e ks s x)) e d js (enc t) ts f g)
    (result_step F (extend ctx js) e d (normal_abs (extend ctx js) (abs_at_under js ts x)) z))
    (F.2 (extend ctx js) t (raise_abs js (Abs.Ex ks s))))
sub_step F ctx s r = Outcome.refused (clash ctx Form)

-- the functions for signatures up to a size
abbrev pub fns : ℕ → Fns
fns zero = (λ ctx s r. Outcome.refused (clash ctx Form), λ ctx x y. Outcome.refused (clash ctx Form), λ ctx s x. MatchOutcome.refused (clash ctx Form))
fns (suc n) = (sub_step (fns n), abs_step (fns n), match_step (fns n))

-- the functions

abbrev pub sub_sig : List Kind → Sig → Sig → Outcome
sub_sig ctx s r = (fns (suc (size s + size r))).0 ctx s r

abbrev pub sub_abs : List Kind → Abs → Abs → Outcome
sub_abs ctx x y = (fns (suc (size_abs x + size_abs y))).1 ctx x y

abbrev pub match_sig : List Kind → Sig → Abs → MatchOutcome
match_sig ctx s x = (fns (suc (size s + size_abs x))).2 ctx s x
