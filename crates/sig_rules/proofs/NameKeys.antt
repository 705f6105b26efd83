-- A name on its way into a set of names, and a name looked for in one.
-- Main results: key-put.
use Rattle.std.proofs.Common.{◌≡◌, ◌↔◌, List, [], ◌∷◌, Bool, true, false, ◌||◌, cond, IsTrue, refl, sym, ap, ◌∙◌, subst}
use Rattle.std.specs.BTreeMap.{is_at}
use Rattle.std.specs.BTreeSet.{insert_key}
use Rattle.std.specs.List.{list_any}
use Rattle.std.specs.Ordering.{is_eq, is_lt, match_ordering, ordering_reverse}
use Rattle.std.specs.declared.cmp.Ordering.{Ordering}
use Rattle.std.specs.declared.cmp.Ordering.TheVariants.{Less, Equal, Greater}
use Rattle.std.proofs.lemmas.Bool.{false≢true, true≢false}
use Rattle.std.proofs.lemmas.Cmp.{nat_list_cmp_total, tied_itself}
use Rattle.std.proofs.lemmas.Map.Lookups.{exact_bytes}
use Rattle.std.proofs.lemmas.Map.Views.{tells_apart}
use Rattle.omega_kinds.specs.Name.{Name, same_name}
use Rattle.omega_kinds.specs.LabelOrder.{name_before, name_cmp}
use Rattle.omega_kinds.proofs.NameLaws.{name-irreflexive, same_name-true, same_name-itself}
use Rattle.sig_definitions.specs.Signatures.FieldOrder.{with_name}
use Rattle.sig_definitions.specs.Signatures.RecordOrder.{IsNew}

differs : (l m : Name) → (l ≡ m → ⊥) → same_name l m ≡ false
differs l m n = go (same_name l m) (same_name-true l m)
  where
    go : (b : Bool) → (b ≡ true → l ≡ m) → b ≡ false
    go true f = absurd (n (f refl))
    go false f = refl

-- where the name differs from the first one
past : (l m : Name) (ms : List Name) → (l ≡ m → ⊥) → with_name l (m ∷ ms) ≡ cond (name_before l m) (l ∷ m ∷ ms) (m ∷ with_name l ms)
past l m ms n = ap (λ c. cond c (m ∷ ms) (cond (name_before l m) (l ∷ m ∷ ms) (m ∷ with_name l ms))) (differs l m n)

-- a name put into a sorted list of names is put into the set
pub key-put : (names : List Name) (l : Name) → insert_key name_cmp names l ≡ with_name l names
key-put [] l = refl
key-put (m ∷ ms) l = go (key-put ms l) (name_cmp l m) refl
  where
    go : insert_key name_cmp ms l ≡ with_name l ms → (o : Ordering) → name_cmp l m ≡ o → insert_key name_cmp (m ∷ ms) l ≡ with_name l (m ∷ ms)
    go rest Less e =
        let b : name_before l m ≡ true = ap is_lt e in
        let n : l ≡ m → ⊥ = λ s. name-irreflexive m (subst (λ x. IsTrue (name_before x m)) s b) in
        ap (λ o. match_ordering o (l ∷ m ∷ ms) (m ∷ ms) (m ∷ insert_key name_cmp ms l)) e ∙ sym (past l m ms n ∙ ap (λ c. cond c (l ∷ m ∷ ms) (m ∷ with_name l ms)) b)
    go rest Equal e =
        let s : same_name l m ≡ true = subst (λ x. same_name l x ≡ true) (exact_bytes l m e) (same_name-itself l) in
        ap (λ o. match_ordering o (l ∷ m ∷ ms) (m ∷ ms) (m ∷ insert_key name_cmp ms l)) e ∙ sym (ap (λ c. cond c (m ∷ ms) (cond (name_before l m) (l ∷ m ∷ ms) (m ∷ with_name l ms))) s)
    go rest Greater e =
        let b : name_before l m ≡ false = ap is_lt e in
        let gt : IsTrue (name_before m l) = ap is_lt (nat_list_cmp_total.antisymm m l ∙ ap ordering_reverse e) in
        let n : l ≡ m → ⊥ = λ s. name-irreflexive m (subst (λ x. IsTrue (name_before m x)) s gt) in
        ap (λ o. match_ordering o (l ∷ m ∷ ms) (m ∷ ms) (m ∷ insert_key name_cmp ms l)) e ∙ (ap (λ ns. m ∷ ns) rest ∙ sym (past l m ms n ∙ ap (λ c. cond c (l ∷ m ∷ ms) (m ∷ with_name l ms)) b))

equal-itself : (l m : Name) → l ≡ m → is_eq (name_cmp l m) ≡ true
equal-itself l m e = subst (λ n. is_eq (name_cmp l n) ≡ true) e (ap is_eq (tied_itself nat_list_cmp_total l))

-- a name is new exactly where it is found at none of the keys
pub key-new : (names : List Name) (l : Name) → (list_any (is_at (name_cmp l)) names ≡ false) ↔ IsNew l names
key-new [] l = (λ _. tt, λ _. refl)
key-new (m ∷ ms) l = go (key-new ms l) (is_eq (name_cmp l m)) refl
  where
    go : (list_any (is_at (name_cmp l)) ms ≡ false) ↔ IsNew l ms → (b : Bool) → is_eq (name_cmp l m) ≡ b → ((b || list_any (is_at (name_cmp l)) ms) ≡ false) ↔ IsNew l (m ∷ ms)
    go rest true e = (λ h. absurd (true≢false h), λ n. absurd (n.0 (tells_apart exact_bytes l m e)))
    go rest false e = (λ h. (λ s. false≢true (sym e ∙ equal-itself l m s), rest.0 h), λ n. rest.1 n.1)
