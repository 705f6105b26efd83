-- What the calls over gathered bindings come to.
use Rattle.std.specs.Prelude.{List, [], ◌∷◌, ◌++◌, ◌≡◌}
use Rattle.omega_kinds.specs.Kind.{Kind}
use Rattle.omega_kinds.specs.declared.effect.Effect.{Effect}
use Rattle.omega_kinds.specs.declared.effect.Effect.TheVariants.{Pure}
use Rattle.omega_types.specs.Ty.{Ty}
use Rattle.omega_types.specs.Binders.{extend, puts, NormalForms}
use Rattle.omega_terms.specs.Term.{Term}
use Rattle.sig_definitions.specs.Signatures.Sig.{Abs, Module, made}
use Rattle.sig_laws.specs.Good.{OkModule, NormalTerm}
use Rattle.semantic_sigs.specs.Inner.View.{kinds_of}
use Rattle.module_laws.specs.PutIn.{IsPut}
use Rattle.module_rests.specs.Inner.Folded.{Folded}

abbrev pub effect_of : Module → Effect
effect_of (made f x ts e) = f

-- what a module hides
abbrev pub hides : Module → List Kind
hides (made f x ts e) = kinds_of x

-- what modules in a row hide
abbrev pub hidden : List Module → Module → List Kind
hidden [] m = hides m
hidden (first ∷ steps) m = hides first ++ hidden steps m

-- the types of a module and its term c have types ws put in; all are these and then its own
abbrev pub PutsOwn : Abs → List Ty → Term → List Ty → List Ty → Term → Type 0
PutsOwn x us d ws all c = (ctx ks : List Kind) → NormalForms ctx ws ks ws → NormalForms (extend ctx ks) us (kinds_of x) us → NormalTerm (extend ctx ks) d
    → (own : List Ty) × (all ≡ ws ++ own) × IsPut (extend ctx ks) ctx (puts ws Ty.Var) (kinds_of x) us d own c

-- the same of the module to which bindings and a last one come
abbrev pub PutsAll : List Module → Module → List Ty → List Ty → Term → Type 0
PutsAll steps m ws all c = (ctx ks : List Kind) (x : Abs) (us : List Ty) (d : Term) → NormalForms ctx ws ks ws → OkModule (extend ctx ks) (made Pure x us d)
    → Folded (extend ctx ks) steps m (made Pure x us d)
    → (own : List Ty) × (all ≡ ws ++ own) × IsPut (extend ctx ks) ctx (puts ws Ty.Var) (kinds_of x) us d own c
