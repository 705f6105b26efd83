-- From what refuses a step of a phrase's rule to what refuses the phrase.
-- Main results: within, fails, tested, valued, unmatched.
use Rattle.std.proofs.Common.{◌≡◌, ◌≢◌, ◌⊎◌, inl, inr, List, ◌∷◌}
use Rattle.omega_kinds.specs.Kind.{Kind}
use Rattle.omega_types.specs.Ty.{Ty}
use Rattle.sig_definitions.specs.Env.{Env, kinds}
use Rattle.sig_definitions.specs.Matching.MatchRefusal.{MatchRefusal, RefusesMatch}
use Rattle.sig_definitions.specs.Signatures.Sig.{Sig, Abs}
use Rattle.fing_syntax.specs.Phrase.{Span, SpanName, TyEx}
use Rattle.fing_syntax.specs.Place.{ty_span}
use Rattle.refusal_reasons.specs.Refusal.{Refusal, ElabWhy, KindDiffer}
use Rattle.sig_judgments.specs.SigRules.{WhereRefuses}
use Rattle.sig_judgments.specs.SigWhy.{SigWhy}
use Rattle.elab_judgments.specs.Operators.{names_of}
use Rattle.elab_judgments.specs.Refusals.Refusal.{of_sig, refuse, refuse_match}
use Rattle.elab_judgments.specs.Judgments.Meaning.{TyMeans}
use Rattle.elab_judgments.specs.Refusals.Task.{Task, a_type}
use Rattle.elab_judgments.specs.Refusals.Rule.{Fails, Enters}
use Rattle.elab_judgments.specs.Refusals.Steps.{steps, WhereAt}
use Rattle.elab_judgments.specs.Refusals.Refused.{Refused, here, inside}
use Rattle.fing_refusals.specs.declared.refusal.Refusal.{Refusal as CodeRefusal}
use Rattle.elab_rules.specs.Inner.Answered.{RefusedAs, ByRule, ByTest, ByMatch, ByWhere, NoValueType, ByInjection, InjectionRefused, ByRoll, RollRefused}
use Rattle.elab_rules.proofs.Placing.{says-map}

-- a phrase is refused where a premise of its rule is
pub within : {g h : Env} {a b : Task} {e : CodeRefusal} → Enters (steps g a) h b → RefusedAs h b e → RefusedAs g a e
within {e = e} p h = record { stands = says-map e (λ r q. inside p q) h.stands }

-- a phrase is refused where a rule among its steps is
pub fails : {g h : Env} {at : Span} {a : Task} {W : Type 0} {reason : W → ElabWhy} {Refuses : W → Type 0} {e : CodeRefusal}
    → ((r : Refusal) → (why : W) × Refuses why × (r ≡ refuse h at (reason why)) → Fails (steps g a) r)
    → ByRule reason h at Refuses e
    → RefusedAs g a e
fails {e = e} f h = record { stands = says-map e (λ r q. here (f r q)) h.stands }

-- a phrase is refused where a condition among its steps fails
pub tested : {g h : Env} {at : Span} {a : Task} {F : Type 0} {why : ElabWhy} {e : CodeRefusal}
    → ((r : Refusal) → F × (r ≡ refuse h at why) → Fails (steps g a) r)
    → ByTest h at F why e
    → RefusedAs g a e
tested {e = e} f h = record { stands = says-map e (λ r q. here (f r q)) h.stands }

-- a type is refused, or is none of values
pub valued : {g h : Env} {a : Task} {b : TyEx} {e : CodeRefusal}
    → Enters (steps g a) h (a_type b)
    → ((t : Ty) (k : Kind) (r : Refusal) → TyMeans h b t k → (k ≢ Kind.Star) × (r ≡ refuse h (ty_span b) (KindDiffer k Kind.Star)) → Fails (steps g a) r)
    → NoValueType h b e
    → RefusedAs g a e
valued {g} {h} {a} {b} {e} p f n = record { stands = says-map e go n.stands }
  where
    go : (r : Refusal) → Refused h (a_type b) r ⊎ ((t : Ty) × (k : Kind) × TyMeans h b t k × ((k ≢ Kind.Star) × (r ≡ refuse h (ty_span b) (KindDiffer k Kind.Star)))) → Refused g a r
    go r (inl q) = inside p q
    go r (inr q) = here (f q.0 q.1 r q.2 q.3)

-- a phrase is refused where a match among its steps is
pub unmatched : {g h : Env} {at : Span} {a : Task} {s : Sig} {y : Abs} {e : CodeRefusal}
    → ((r : Refusal) → (q : MatchRefusal) × RefusesMatch (kinds h) s y q × (r ≡ refuse_match h at q) → Fails (steps g a) r)
    → ByMatch h at s y e
    → RefusedAs g a e
unmatched {e = e} f h = record { stands = says-map e (λ r q. here (f r q)) h.stands }

-- the rule of a fixed type is refused
pub refined : {g h : Env} {a : Task} {ks : List Kind} {s : Sig} {z : SpanName} {path : List SpanName} {b : TyEx} {t : Ty} {k : Kind} {e : CodeRefusal}
    → ((r : Refusal) → (why : SigWhy) × WhereRefuses (Abs.Ex ks s) (names_of (z ∷ path)) t k why × ((at : Span) × WhereAt s z path b why at × (r ≡ refuse h at (of_sig why))) → Fails (steps g a) r)
    → ByWhere h ks s z path b t k e
    → RefusedAs g a e
refined {e = e} f h = record { stands = says-map e (λ r q. here (f r q)) h.stands }

-- a phrase is refused where an injection among its steps is
pub injected : {g h : Env} {a : Task} {x : SpanName} {v p : Span} {t u : Ty} {e : CodeRefusal}
    → ((r : Refusal) → InjectionRefused h x v t p u r → Fails (steps g a) r)
    → ByInjection h x v t p u e
    → RefusedAs g a e
injected {e = e} f h = record { stands = says-map e (λ r q. here (f r q)) h.stands }

-- a rolled value is refused
pub rolled : {g h : Env} {a : Task} {v p : Span} {t u : Ty} {e : CodeRefusal}
    → ((r : Refusal) → RollRefused h v t p u r → Fails (steps g a) r)
    → ByRoll h v t p u e
    → RefusedAs g a e
rolled {e = e} f h = record { stands = says-map e (λ r q. here (f r q)) h.stands }
