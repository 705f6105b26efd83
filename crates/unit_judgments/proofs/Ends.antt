-- The end of a structure in a good environment is good, and names in their order stay so.
-- Main results: collected-ok.
use Rattle.std.specs.Prelude.{List, [], ◌∷◌, ◌≡◌, ◌⊎◌, Bool, true, false, cond, Some, IsTrue}
use Rattle.std.proofs.Math.Path.{refl, sym, ap, ◌∙◌}
use Rattle.std.proofs.Math.Logic.{inl, inr}
use Rattle.std.proofs.lemmas.Bool.{false≢true}
use Rattle.omega_kinds.specs.declared.effect.Effect.TheVariants.{Pure}
use Rattle.omega_kinds.specs.declared.label.Label.{Label}
use Rattle.omega_kinds.specs.Name.{Name, same_name}
use Rattle.omega_kinds.specs.LabelOrder.{name_before, spelling}
use Rattle.omega_kinds.proofs.LabelLaws.{transitive, total_order}
use Rattle.omega_kinds.proofs.NameLaws.{same_name-itself}
use Rattle.omega_types.specs.Ty.{Ty}
use Rattle.omega_types.specs.Binders.{NormalForms}
use Rattle.omega_terms.specs.Term.{Term, TermRow}
use Rattle.omega_terms.specs.Instance.{Instance, Instances}
use Rattle.omega_terms.proofs.InstanceLaws.{instance-self}
use Rattle.sig_definitions.specs.Signatures.Sig.{Sig, Abs, SigRow, made}
use Rattle.sig_definitions.specs.Signatures.Alike.{NormalSigRow}
use Rattle.sig_definitions.specs.Signatures.FieldOrder.{with_name}
use Rattle.sig_definitions.specs.Signatures.RecordOrder.{BeforeNames, NamesRise}
use Rattle.sig_definitions.specs.Explicit.WellFormed.{BeforeAll, Rising, WellFormed, WellFormedRow, abs}
use Rattle.sig_definitions.specs.Env.{Entry, Env, kinds, find}
use Rattle.sig_laws.specs.Good.{OkSig, OkEnv, OkModule, NormalTerm}
use Rattle.sig_laws.proofs.Formed.WellFormedShape.{well_formed-good}
use Rattle.sig_laws.proofs.Encoded.EnvTyping.{GoodEnv, find-good as find-typed}
use Rattle.sig_premise_laws.proofs.Environments.{find-good}
use Rattle.module_judgments.specs.Sequence.{Collected}

pick : {A : Type 0} {x y : A} (P : A → Type 0) (b : Bool) → (b ≡ true → P x) → (b ≡ false → P y) → P (cond b x y)
pick P true f g = f refl
pick P false f g = g refl

-- names in their order

before-more : (l m : Name) (names : List Name) → IsTrue (name_before l m) → BeforeNames m names → BeforeNames l names
before-more l m [] h i = tt
before-more l m (n ∷ ns) h i = (transitive (Label.Name l) (Label.Name m) (Label.Name n) h i.0, before-more l m ns h i.1)

before-with : (m l : Name) (names : List Name) → IsTrue (name_before m l) → BeforeNames m names → BeforeNames m (with_name l names)
before-with m l [] h i = (h, tt)
before-with m l (n ∷ ns) h i = pick (BeforeNames m) (same_name l n) (λ e. i) (λ e. pick (BeforeNames m) (name_before l n) (λ d. (h, i)) (λ d. (i.0, before-with m l ns h i.1)))

-- names that rise do so with one more name put in its place
pub rise-with_name : (l : Name) (names : List Name) → NamesRise names → NamesRise (with_name l names)
rise-with_name l [] h = (tt, tt)
rise-with_name l (m ∷ ms) h = pick NamesRise (same_name l m) (λ e. h) (λ e. pick NamesRise (name_before l m) (λ d. ((d, before-more l m ms d h.0), h)) (λ d. (before-with m l ms (later e d (total_order (Label.Name l) (Label.Name m))) h.0, rise-with_name l ms h.1)))
  where
    later : same_name l m ≡ false → name_before l m ≡ false → (Label.Name l ≡ Label.Name m) ⊎ (IsTrue (name_before l m) ⊎ IsTrue (name_before m l)) → IsTrue (name_before m l)
    later e d (inl q) = absurd (false≢true (sym e ∙ (ap (λ x. same_name l (spelling x)) (sym q) ∙ same_name-itself l)))
    later e d (inr (inl q)) = absurd (false≢true (sym d ∙ q))
    later e d (inr (inr q)) = q

-- the end of a structure

typed-env : (g : Env) → OkEnv g → GoodEnv g
typed-env [] h = tt
typed-env (Entry.TypeVar k ∷ g) h = (tt, typed-env g h.1)
typed-env (Entry.Named x s ∷ g) h = (well_formed-good h.0.0 h.0.1, typed-env g h.1)
typed-env (Entry.Value x t ∷ g) h = (h.0, typed-env g h.1)
typed-env (Entry.TypeParam x ∷ Entry.TypeVar k ∷ g) h = (tt, typed-env (Entry.TypeVar k ∷ g) h.1)
typed-env (Entry.TypeParam x ∷ g) h = absurd h.0

found-normal : {s : Sig} {e : Term} (g : Env) (x : Name) → OkEnv g → find g x ≡ Some (s, e) → NormalTerm (kinds g) e
found-normal g x h p = instance-self (find-typed g x (typed-env g h) p).1

all-later : (l : Name) {g : Env} {names : List Name} {fs : SigRow} {es : TermRow} → BeforeNames l names → Collected g names fs es → BeforeAll l fs
all-later l h Collected.none = tt
all-later l h (Collected.next p c) = (h.0, all-later l h.1 c)

pub record Ended (g : Env) (fs : SigRow) (es : TermRow) : Type 0 where
  pub rising : Rising fs
  pub formed : WellFormedRow (kinds g) fs
  pub normal : NormalSigRow (kinds g) fs
  pub terms : Instances (kinds g) (kinds g) Ty.Var es es

ended : {g : Env} {names : List Name} {fs : SigRow} {es : TermRow} → OkEnv g → NamesRise names → Collected g names fs es → Ended g fs es
ended h r Collected.none = record { rising = tt; formed = WellFormedRow.end; normal = tt; terms = Instances.end }
ended {g} h r (Collected.next {l = l} {s = s} {e = e} p c) =
    let w : OkSig (kinds g) s = find-good g l h (s, e) p in
    let q = ended h r.1 c in
    record { rising = (all-later l r.0 c, q.rising); formed = WellFormedRow.more w.0 q.formed; normal = (w.1, q.normal); terms = Instances.more (found-normal g l h p) q.terms }

-- what is collected for rising names in a good environment is a good structure
pub collected-ok : {g : Env} {names : List Name} {fs : SigRow} {es : TermRow} → OkEnv g → NamesRise names → Collected g names fs es → OkModule (kinds g) (made Pure (Abs.Ex [] (Sig.Str fs)) [] (Term.Fields es))
collected-ok h r c = let q = ended h r c in ((abs (WellFormed.str q.rising q.formed), q.normal), NormalForms.none, Instance.fields q.terms)
