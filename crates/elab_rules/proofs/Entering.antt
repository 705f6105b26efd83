-- Entries pushed one after the other, and taken away again.
-- Main results: left-type_vars, left-module, left-fields.
use Rattle.std.proofs.Common.{◌≡◌, ◌≤◌, ◌<◌, ◌+◌, ℕ, zero, suc, List, [], ◌∷◌, Option, Some, None, MatchOption, length, drop, map, get_or, refl, sym, ap, ◌∙◌, add-one, drop-cons}
use Rattle.std.proofs.lemmas.List.{drop_all}
use Rattle.omega_kinds.specs.Kind.{Kind}
use Rattle.omega_kinds.specs.Name.{Name}
use Rattle.omega_kinds.specs.View.{kind_tree}
use Rattle.omega_kinds.specs.declared.kind.Kind.{Kind as KindHandle}
use Rattle.sig_definitions.specs.Signatures.Sig.{Sig}
use Rattle.sig_definitions.specs.Env.{Env, TypeVar, Named, type_vars, with_module, named_fields}
use Rattle.semantic_sigs.specs.Inner.Entries.{entry_of}
use Rattle.semantic_sigs.specs.Inner.Fields.{sig_row}
use Rattle.semantic_sigs.specs.declared.env.Entry.{Entry as CodeEntry}

tail-drop : {A : Type 0} (n : ℕ) (xs ys : List A) (x : A) → drop n xs ≡ x ∷ ys → drop (suc n) xs ≡ ys
tail-drop zero [] ys x e = absurd cc
tail-drop zero (z ∷ zs) ys x e = cc
tail-drop (suc n) [] ys x e = absurd cc
tail-drop (suc n) (z ∷ zs) ys x e = tail-drop n zs ys x e

empty-drop : {A : Type 0} (n : ℕ) (xs : List A) → drop n xs ≡ [] → drop (suc n) xs ≡ []
empty-drop zero [] e = refl
empty-drop zero (z ∷ zs) e = absurd cc
empty-drop (suc n) [] e = refl
empty-drop (suc n) (z ∷ zs) e = empty-drop n zs e

-- an entry taken away leaves the environment that stands one entry further outside
pub left-one : (n : ℕ) (start before after : Env) (o : Option CodeEntry) → before ≡ drop n start
    → MatchOption o ((before ≡ []) × (after ≡ [])) (λ entry. before ≡ entry_of entry ∷ after)
    → after ≡ drop (n + 1) start
left-one n start before after None e h = rw add-one (h.1 ∙ sym (empty-drop n start (sym e ∙ h.0)))
left-one n start before after (Some entry) e h = rw add-one (sym (tail-drop n start after (entry_of entry) (sym e ∙ h)))

-- one more kind of a list is pushed as a type variable, and the whole environment stays the one to come
pub kinds-step : (before after : Env) (n : ℕ) (items : List KindHandle) (item shared : KindHandle) (whole : Env)
    → n < length items → item ≡ get_or items n item → kind_tree shared ≡ kind_tree item → after ≡ TypeVar (kind_tree shared) ∷ before
    → type_vars before (map kind_tree (drop n items)) ≡ whole
    → type_vars after (map kind_tree (drop (n + 1) items)) ≡ whole
kinds-step before after n items item shared whole h is s e i =
    let d : drop n items ≡ item ∷ drop (n + 1) items = rw (add-one, drop-cons items n item h) (ap (λ x. x ∷ drop (suc n) items) (sym is)) in
    rw e (rw s (sym (ap (λ xs. type_vars before (map kind_tree xs)) d) ∙ i))

-- when all kinds of a list are pushed, the environment is the whole one
pub kinds-end : (env : Env) (n : ℕ) (items : List KindHandle) (whole : Env)
    → length items ≤ n
    → type_vars env (map kind_tree (drop n items)) ≡ whole
    → env ≡ whole
kinds-end env n items whole h i = ap (λ xs. type_vars env (map kind_tree xs)) (sym (drop_all n items h)) ∙ i

-- one more field of a list is pushed as a module, and the whole environment stays the one to come
pub fields-step : (before after : Env) (n : ℕ) (items : List (Name × Sig)) (item : Name × Sig) (name : Name) (sig : Sig) (whole : Env)
    → n < length items → item ≡ get_or items n item → name ≡ item.0 → sig ≡ item.1 → after ≡ Named name sig ∷ before
    → named_fields before (sig_row (drop n items)) ≡ whole
    → named_fields after (sig_row (drop (n + 1) items)) ≡ whole
fields-step before after n items item name sig whole h is a b e i =
    let d : drop n items ≡ item ∷ drop (n + 1) items = rw (add-one, drop-cons items n item h) (ap (λ x. x ∷ drop (suc n) items) (sym is)) in
    rw e (rw (a, b) (sym (ap (λ xs. named_fields before (sig_row xs)) d) ∙ i))

-- when all fields of a list are pushed, the environment is the whole one
pub fields-end : (env : Env) (n : ℕ) (items : List (Name × Sig)) (whole : Env)
    → length items ≤ n
    → named_fields env (sig_row (drop n items)) ≡ whole
    → env ≡ whole
fields-end env n items whole h i = ap (λ xs. named_fields env (sig_row xs)) (sym (drop_all n items h)) ∙ i

-- what was entered is left again

-- the environment before type variables were pushed is left when as many entries are taken away
pub left-type_vars : (g : Env) (ks : List Kind) → drop (length ks) (type_vars g ks) ≡ g
left-type_vars g [] = refl
left-type_vars g (k ∷ ks) = tail-drop (length ks) (type_vars (TypeVar k ∷ g) ks) g (TypeVar k) (left-type_vars (TypeVar k ∷ g) ks)

-- the environment before a module and the types that it hides were pushed is left when as many are taken away
pub left-module : (g : Env) (ks : List Kind) (x : Name) (s : Sig) → drop (length ks + 1) (with_module g ks x s) ≡ g
left-module g ks x s = rw add-one (left-type_vars g ks)

-- the environment before the fields of a structure were pushed is left when as many are taken away
pub left-fields : (g : Env) (fs : List (Name × Sig)) → drop (length fs) (named_fields g (sig_row fs)) ≡ g
left-fields g [] = refl
left-fields g (f ∷ fs) = tail-drop (length fs) (named_fields (Named f.0 f.1 ∷ g) (sig_row fs)) g (Named f.0 f.1) (left-fields (Named f.0 f.1 ∷ g) fs)
