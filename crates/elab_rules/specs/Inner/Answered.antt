-- What the refusals of the code say: a plain refusal of the definitions, or that memory is wanting and nothing else.
use Rattle.std.specs.Prelude.{◌≡◌, ◌≢◌, ◌⊎◌, List, ◌∷◌, Option, Some}
use Rattle.omega_kinds.specs.Kind.{Kind}
use Rattle.omega_types.specs.Ty.{Ty, Row}
use Rattle.sig_definitions.specs.Env.{Env, kinds}
use Rattle.sig_definitions.specs.Matching.MatchRefusal.{MatchRefusal, RefusesMatch}
use Rattle.sig_definitions.specs.Signatures.Sig.{Sig, Abs}
use Rattle.fing_syntax.specs.Phrase.{Span, SpanName, TyEx}
use Rattle.fing_syntax.specs.Place.{name_of, name_span, ty_span}
use Rattle.refusal_reasons.specs.Refusal.{ElabWhy, KindDiffer, NotData, Refusal}
use Rattle.core_judgments.specs.CoreWhy.{CoreWhy}
use Rattle.core_judgments.specs.DataRules.{DataWhy, RollRefuses}
use Rattle.core_judgments.specs.ExpRules.{InjectionRefuses, LabelGives, LabelRefuses, SumGives, SumRefuses}
use Rattle.sig_judgments.specs.SigRules.{WhereRefuses}
use Rattle.sig_judgments.specs.SigWhy.{SigWhy}
use Rattle.elab_judgments.specs.Operators.{names_of}
use Rattle.elab_judgments.specs.Refusals.Refusal.{of_core, of_data, of_sig, refuse, refuse_match}
use Rattle.elab_judgments.specs.Refusals.Steps.{WhereAt}
use Rattle.elab_judgments.specs.Judgments.Meaning.{TyMeans}
use Rattle.elab_judgments.specs.Refusals.Task.{Task, a_type}
use Rattle.elab_judgments.specs.Refusals.Refused.{Refused}
use Rattle.fing_refusals.specs.Inner.Plain.{Says}
use Rattle.fing_refusals.specs.declared.refusal.Refusal.{Refusal as CodeRefusal}

-- the task is refused so in the environment
pub record RefusedAs (g : Env) (a : Task) (e : CodeRefusal) : Type 0 where
  pub stands : Says e (Refused g a)

-- a reason that may be none is the refusal's, at the place and in the environment
pub record Placed (g : Env) (at : Span) (why : Option ElabWhy) (e : CodeRefusal) : Type 0 where
  pub stands : Says e (λ r. (w : ElabWhy) × (why ≡ Some w) × (r ≡ refuse g at w))

-- a rule is refused so, for a reason of its own, at the place and in the environment
pub record ByRule {W : Type 0} (reason : W → ElabWhy) (g : Env) (at : Span) (Refuses : W → Type 0) (e : CodeRefusal) : Type 0 where
  pub stands : Says e (λ r. (why : W) × Refuses why × (r ≡ refuse g at (reason why)))

-- a condition fails, for one reason
pub record ByTest (g : Env) (at : Span) (fails : Type 0) (why : ElabWhy) (e : CodeRefusal) : Type 0 where
  pub stands : Says e (λ r. fails × (r ≡ refuse g at why))

-- the phrase is refused as a type, or means a type of another kind than `*`
pub record NoValueType (g : Env) (a : TyEx) (e : CodeRefusal) : Type 0 where
  pub stands : Says e (λ r. Refused g (a_type a) r ⊎ ((t : Ty) × (k : Kind) × TyMeans g a t k × ((k ≢ Kind.Star) × (r ≡ refuse g (ty_span a) (KindDiffer k Kind.Star)))))

-- matching is refused so, at the place and in the environment
pub record ByMatch (g : Env) (at : Span) (left : Sig) (right : Abs) (e : CodeRefusal) : Type 0 where
  pub stands : Says e (λ r. (q : MatchRefusal) × RefusesMatch (kinds g) left right q × (r ≡ refuse_match g at q))

-- the rule of a fixed type is refused so, at the place of the reason
pub record ByWhere (g : Env) (ks : List Kind) (s : Sig) (first : SpanName) (path : List SpanName) (b : TyEx) (t : Ty) (k : Kind) (e : CodeRefusal) : Type 0 where
  pub stands : Says e (λ r. (why : SigWhy) × WhereRefuses (Abs.Ex ks s) (names_of (first ∷ path)) t k why × ((at : Span) × WhereAt s first path b why at × (r ≡ refuse g at (of_sig why))))

-- an injection is refused so: its type that is no sum, the label that the sum lacks, or a value of another type
abbrev pub InjectionRefused : Env → SpanName → (value : Span) → Ty → (target : Span) → Ty → Refusal → Type 0
InjectionRefused g x v t p u r =
    ((why : CoreWhy) × SumRefuses u why × (r ≡ refuse g p (of_core why)))
    ⊎ ((row : Row) × SumGives u row × (((why : CoreWhy) × LabelRefuses u (name_of x) why × (r ≡ refuse g (name_span x) (of_core why)))
    ⊎ ((s : Ty) × LabelGives u (name_of x) s × ((why : CoreWhy) × InjectionRefuses (name_of x) t u Kind.Star why × (r ≡ refuse g v (of_core why))))))

-- the rule of injections is refused so, a value of the first type, at its place, and the second type, at its own
pub record ByInjection (g : Env) (x : SpanName) (v : Span) (t : Ty) (p : Span) (u : Ty) (e : CodeRefusal) : Type 0 where
  pub stands : Says e (InjectionRefused g x v t p u)

-- a rolled value is refused so: its type that is no recursive one, or a value of another type than that unfolds to
abbrev pub RollRefused : Env → (value : Span) → Ty → (target : Span) → Ty → Refusal → Type 0
RollRefused g v t p u r =
    (((b : Ty) → u ≡ Ty.Mu b → ⊥) × (r ≡ refuse g p (NotData u)))
    ⊎ ((b : Ty) × (u ≡ Ty.Mu b) × ((why : DataWhy) × RollRefuses (kinds g) t u Kind.Star why × (r ≡ refuse g v (of_data why))))

-- the rule of rolled values is refused so, with types and places as for injections
pub record ByRoll (g : Env) (v : Span) (t : Ty) (p : Span) (u : Ty) (e : CodeRefusal) : Type 0 where
  pub stands : Says e (RollRefused g v t p u)
