-- Interfaces pushed one after the other.
-- Main results: kinds-step, kinds-end.
use Rattle.std.proofs.Common.{◌≡◌, ◌≤◌, ◌<◌, ◌+◌, ℕ, suc, List, ◌∷◌, length, drop, map, get_or, refl, sym, ap, ◌∙◌, add-one, drop-cons}
use Rattle.std.proofs.lemmas.List.{drop_all}
use Rattle.omega_kinds.specs.Name.{Name}
use Rattle.omega_kinds.specs.View.{kind_tree}
use Rattle.omega_kinds.specs.declared.kind.Kind.{Kind as KindHandle}
use Rattle.sig_definitions.specs.Signatures.Sig.{Abs}
use Rattle.sig_definitions.specs.Env.{Env, TypeVar, Named, type_vars}
use Rattle.semantic_sigs.specs.Inner.View.{body_of, kinds_of}
use Rattle.unit_judgments.specs.Interfaces.{Interface, with_interface, with_interfaces}

-- the item at an index, before the items after it
pub first-of : {A : Type 0} (n : ℕ) (items : List A) (item : A) → n < length items → item ≡ get_or items n item → drop n items ≡ item ∷ drop (n + 1) items
first-of n items item h is = rw (add-one, drop-cons items n item h) (ap (λ x. x ∷ drop (suc n) items) (sym is))

-- one more kind of a list is pushed as a type variable, and the whole environment stays the one to come
pub kinds-step : (before after : Env) (n : ℕ) (items : List KindHandle) (item shared : KindHandle) (whole : Env)
    → n < length items → item ≡ get_or items n item → kind_tree shared ≡ kind_tree item → after ≡ TypeVar (kind_tree shared) ∷ before
    → type_vars before (map kind_tree (drop n items)) ≡ whole
    → type_vars after (map kind_tree (drop (n + 1) items)) ≡ whole
kinds-step before after n items item shared whole h is s e i =
    rw e (rw s (sym (ap (λ xs. type_vars before (map kind_tree xs)) (first-of n items item h is)) ∙ i))

-- when all kinds of a list are pushed, the environment is the whole one
pub kinds-end : (env : Env) (n : ℕ) (items : List KindHandle) (whole : Env)
    → length items ≤ n
    → type_vars env (map kind_tree (drop n items)) ≡ whole
    → env ≡ whole
kinds-end env n items whole h i = ap (λ xs. type_vars env (map kind_tree xs)) (sym (drop_all n items h)) ∙ i

-- the entries of one interface
pub interface-entries : (g : Env) (x : Name) (a : Abs) → Named x (body_of a) ∷ type_vars g (kinds_of a) ≡ with_interface g x a
interface-entries g x (Abs.Ex ks s) = refl

pub interfaces-step : (before after : Env) (n : ℕ) (items : List Interface) (item : Interface) (whole : Env)
    → n < length items → item ≡ get_or items n item → after ≡ with_interface before item.0 item.1
    → with_interfaces before (drop n items) ≡ whole
    → with_interfaces after (drop (n + 1) items) ≡ whole
interfaces-step before after n items item whole h is e i =
    rw e (sym (ap (λ xs. with_interfaces before xs) (first-of n items item h is)) ∙ i)

pub interfaces-end : (env : Env) (n : ℕ) (items : List Interface) (whole : Env)
    → length items ≤ n
    → with_interfaces env (drop n items) ≡ whole
    → env ≡ whole
interfaces-end env n items whole h i = ap (λ xs. with_interfaces env xs) (sym (drop_all n items h)) ∙ i
