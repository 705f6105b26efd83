-- The fields of a finished structure, one after the other.
-- Main results: found-next, found-all.
use Rattle.std.specs.Prelude.{ℕ, zero, suc, ◌+◌, ◌<◌, ◌≤◌, List, [], ◌∷◌, ◌++◌, ◌≡◌, length, map, take, Some, None, IsTrue}
use Rattle.std.proofs.Common.{get_or, arith, take-suc, take_all}
use Rattle.std.proofs.Math.Path.{refl, sym, ap, ap₂, ◌∙◌, subst}
use Rattle.std.proofs.lemmas.List.{map-append}
use Rattle.omega_kinds.specs.LabelOrder.{name_before}
use Rattle.omega_kinds.specs.Name.{Name}
use Rattle.omega_kinds.specs.declared.label.Label.{Label}
use Rattle.omega_kinds.specs.declared.effect.Effect.TheVariants.{Pure}
use Rattle.omega_types.specs.Fields.{MayFollow as LabelMayFollow}
use Rattle.omega_terms.specs.Fields.{TermPairs, term_row}
use Rattle.omega_terms.specs.Term.{Term, TermRow}
use Rattle.sig_definitions.specs.Env.{Env, find}
use Rattle.sig_definitions.specs.Signatures.RecordOrder.{BeforeNames, NamesRise}
use Rattle.sig_definitions.specs.Signatures.Sig.{Sig, SigRow, Abs, made}
use Rattle.sig_laws.specs.Good.{Found, Bound}
use Rattle.semantic_sigs.specs.Inner.Fields.{SigPairs, sig_row, MayFollow}
use Rattle.semantic_sigs.specs.Inner.Made.{module_of}
use Rattle.semantic_sigs.specs.declared.made.Module.{Module}
use Rattle.module_judgments.specs.Sequence.{Collected}

-- the names or labels of fields
abbrev pub firsts : {A T : Type 0} → List (A × T) → List A
firsts [] = []
firsts (x ∷ xs) = x.0 ∷ firsts xs

firsts-push : {A T : Type 0} (xs : List (A × T)) (x : A × T) → firsts (xs ++ x ∷ []) ≡ firsts xs ++ x.0 ∷ []
firsts-push [] x = refl
firsts-push (y ∷ xs) x = ap (λ zs. y.0 ∷ zs) (firsts-push xs x)

-- each name of those bound is found in the environment
pub bound-at : (g : Env) (names : List Name) (n : ℕ) (l d : Name) → Bound g names → n < length names → l ≡ get_or names n d → Found g l
bound-at g [] n l d b lt e = absurd (omega (arith, lt))
bound-at g (m ∷ names) zero l d b lt e = subst (Found g) (sym e) b.0
bound-at g (m ∷ names) (suc n) l d b lt e = bound-at g names n l d b.1 (omega (arith, lt)) e

-- a name that is found is not missing
pub never-none : (g : Env) (l : Name) → Found g l → None ≡ find g l → ⊥
never-none g l f e = none-some f.0 (e ∙ f.1)
  where
    none-some : (o : Sig × Term) → None ≡ Some o → ⊥
    none-some o e = cc

before-at : (l : Name) (names : List Name) (n : ℕ) (d : Name) → BeforeNames l names → n < length names → IsTrue (name_before l (get_or names n d))
before-at l [] n d b lt = absurd (omega (arith, lt))
before-at l (m ∷ names) zero d b lt = b.0
before-at l (m ∷ names) (suc n) d b lt = before-at l names n d b.1 (omega (arith, lt))

cons-nil : {A : Type 0} (x : A) (xs : List A) → x ∷ xs ≡ [] → ⊥
cons-nil x xs e = cc

first-same : {A : Type 0} (x y : A) (xs ys : List A) → x ∷ xs ≡ y ∷ ys → x ≡ y
first-same x y xs ys e = cc

rest-same : {A : Type 0} (x y : A) (xs ys : List A) → x ∷ xs ≡ y ∷ ys → xs ≡ ys
rest-same x y xs ys e = cc

-- a name may follow those before it
follows : {T : Type 0} (xs : List (Name × T)) (names : List Name) (n : ℕ) (d : Name) → firsts xs ≡ take n names → n < length names → NamesRise names → MayFollow xs (get_or names n d)
follows [] names n d e lt rise = tt
follows (x ∷ xs) [] n d e lt rise = absurd (omega (arith, lt))
follows (x ∷ xs) (l ∷ names) zero d e lt rise = absurd (cons-nil x.0 (firsts xs) e)
follows (x ∷ []) (l ∷ names) (suc n) d e lt rise = subst (λ m. IsTrue (name_before m (get_or names n d))) (sym (first-same x.0 l [] (take n names) e)) (before-at l names n d rise.0 (omega (arith, lt)))
follows (x ∷ y ∷ xs) (l ∷ names) (suc n) d e lt rise = follows (y ∷ xs) names n d (rest-same x.0 l (firsts (y ∷ xs)) (take n names) e) (omega (arith, lt)) rise.1

-- the next of rising names may follow the fields so far
pub name-follows : {T : Type 0} (xs : List (Name × T)) (names : List Name) (n : ℕ) (l m : Name) → firsts xs ≡ take n names → n < length names → l ≡ get_or names n l → m ≡ l → NamesRise names → MayFollow xs m
name-follows xs names n l m e lt el em rise = subst (MayFollow xs) (sym (em ∙ el)) (follows xs names n l e lt rise)

label_follows : {T : Type 0} (xs : List (Label × T)) (names : List Name) (n : ℕ) (d : Name) → firsts xs ≡ map Label.Name (take n names) → n < length names → NamesRise names → LabelMayFollow xs (Label.Name (get_or names n d))
label_follows [] names n d e lt rise = tt
label_follows (x ∷ xs) [] n d e lt rise = absurd (omega (arith, lt))
label_follows (x ∷ xs) (l ∷ names) zero d e lt rise = absurd (cons-nil x.0 (firsts xs) e)
label_follows (x ∷ []) (l ∷ names) (suc n) d e lt rise = subst (λ m. LabelMayFollow ((m, x.1) ∷ []) (Label.Name (get_or names n d))) (sym (first-same x.0 (Label.Name l) [] (map Label.Name (take n names)) e)) (before-at l names n d rise.0 (omega (arith, lt)))
label_follows (x ∷ y ∷ xs) (l ∷ names) (suc n) d e lt rise = label_follows (y ∷ xs) names n d (rest-same x.0 (Label.Name l) (firsts (y ∷ xs)) (map Label.Name (take n names)) e) (omega (arith, lt)) rise.1

-- the label of the next of rising names may follow the labels so far
pub label-follows : {T : Type 0} (xs : List (Label × T)) (names : List Name) (n : ℕ) (l m : Name) → firsts xs ≡ map Label.Name (take n names) → n < length names → l ≡ get_or names n l → m ≡ l → NamesRise names → LabelMayFollow xs (Label.Name m)
label-follows xs names n l m e lt el em rise = subst (λ k. LabelMayFollow xs (Label.Name k)) (sym (em ∙ el)) (label_follows xs names n l e lt rise)

-- one field more

take-next : {A : Type 0} (xs : List A) (n : ℕ) (d : A) → n < length xs → take (n + 1) xs ≡ take n xs ++ get_or xs n d ∷ []
take-next xs n d lt = let one : n + 1 ≡ suc n = omega arith in ap (λ m. take m xs) one ∙ take-suc xs n d lt

-- with one more field, the names of the fields are one more of the names
pub names-next : {T : Type 0} (xs more : List (Name × T)) (names : List Name) (n : ℕ) (l m : Name) (s : T) → firsts xs ≡ take n names → n < length names → l ≡ get_or names n l → m ≡ l → more ≡ xs ++ (m, s) ∷ [] → firsts more ≡ take (n + 1) names
names-next xs more names n l m s e lt el em ew =
    ap firsts ew ∙ (firsts-push xs (m, s) ∙ (ap₂ (λ us u. us ++ u ∷ []) e (em ∙ el) ∙ sym (take-next names n l lt)))

-- with one more field, the labels of the fields are those of one more of the names
pub labels-next : {T : Type 0} (xs more : List (Label × T)) (names : List Name) (n : ℕ) (l m : Name) (s : T) → firsts xs ≡ map Label.Name (take n names) → n < length names → l ≡ get_or names n l → m ≡ l → more ≡ xs ++ (Label.Name m, s) ∷ [] → firsts more ≡ map Label.Name (take (n + 1) names)
labels-next xs more names n l m s e lt el em ew =
    ap firsts ew ∙ (firsts-push xs (Label.Name m, s) ∙ (ap₂ (λ us u. us ++ Label.Name u ∷ []) e (em ∙ el) ∙ (sym (map-append Label.Name (take n names) (get_or names n l ∷ [])) ∙ ap (map Label.Name) (sym (take-next names n l lt)))))

collected-first : {g : Env} {m k : Name} {names : List Name} {b : Label} {s : Sig} {e : Term} {fs : SigRow} {es : TermRow} → Collected g (m ∷ names) (SigRow.More k s fs) (TermRow.More b e es) → (m ≡ k) × (b ≡ Label.Name m) × (find g m ≡ Some (s, e)) × Collected g names fs es
collected-first (Collected.next h c) = (refl, refl, h, c)

more-found : (g : Env) (names : List Name) (fs : SigPairs) (es : TermPairs) (l : Name) (s : Sig) (e : Term) → Collected g names (sig_row fs) (term_row es) → find g l ≡ Some (s, e) → Collected g (names ++ l ∷ []) (sig_row (fs ++ (l, s) ∷ [])) (term_row (es ++ (Label.Name l, e) ∷ []))
more-found g [] [] [] l s e c f = Collected.next f Collected.none
more-found g [] [] (t ∷ es) l s e c f = elim c [ ]
more-found g [] (x ∷ fs) es l s e c f = elim c [ ]
more-found g (m ∷ names) [] es l s e c f = elim c [ ]
more-found g (m ∷ names) (x ∷ fs) [] l s e c f = elim c [ ]
more-found g (m ∷ names) (x ∷ fs) (t ∷ es) l s e c f =
    let q : (m ≡ x.0) × (t.0 ≡ Label.Name m) × (find g m ≡ Some (x.1, t.1)) × Collected g names (sig_row fs) (term_row es) = collected-first c in
    subst (λ k. Collected g (m ∷ names ++ l ∷ []) (SigRow.More k x.1 (sig_row (fs ++ (l, s) ∷ []))) (TermRow.More t.0 t.1 (term_row (es ++ (Label.Name l, e) ∷ [])))) q.0
    (subst (λ b. Collected g (m ∷ names ++ l ∷ []) (SigRow.More m x.1 (sig_row (fs ++ (l, s) ∷ []))) (TermRow.More b t.1 (term_row (es ++ (Label.Name l, e) ∷ [])))) (sym q.1) (Collected.next q.2 (more-found g names fs es l s e q.3 f)))

-- with what is found for the next name, one more name is collected
pub found-next : (g : Env) (names : List Name) (n : ℕ) (fs more : SigPairs) (es terms : TermPairs) (l m k : Name) (s : Sig) (e : Term) → Collected g (take n names) (sig_row fs) (term_row es) → n < length names → l ≡ get_or names n l → Some (s, e) ≡ find g l → m ≡ l → k ≡ l → more ≡ fs ++ (m, s) ∷ [] → terms ≡ es ++ (Label.Name k, e) ∷ [] → Collected g (take (n + 1) names) (sig_row more) (term_row terms)
found-next g names n fs more es terms l m k s e c lt el f em ek ef ee =
    subst (λ ns. Collected g ns (sig_row more) (term_row terms)) (ap (λ u. take n names ++ u ∷ []) el ∙ sym (take-next names n l lt))
    (subst (λ ps. Collected g (take n names ++ l ∷ []) (sig_row ps) (term_row terms)) (ap (λ u. fs ++ (u, s) ∷ []) (sym em) ∙ sym ef)
    (subst (λ ps. Collected g (take n names ++ l ∷ []) (sig_row (fs ++ (l, s) ∷ [])) (term_row ps)) (ap (λ u. es ++ (Label.Name u, e) ∷ []) (sym ek) ∙ sym ee)
    (more-found g (take n names) fs es l s e c (sym f))))

-- when all names are done, what is collected is the whole structure
pub found-all : (g : Env) (names all : List Name) (n : ℕ) (fs : SigRow) (es : TermRow) → Collected g (take n names) fs es → length names ≤ n → names ≡ all → Collected g all fs es
found-all g names all n fs es c le e = subst (λ ns. Collected g ns fs es) (take_all n names le ∙ e) c

-- a finished structure of these names
abbrev pub Ends : Env → List Name → Module → Type 0
Ends g names m = (fs : SigRow) × (es : TermRow) × Collected g names fs es × (module_of m ≡ made Pure (Abs.Ex [] (Sig.Str fs)) [] (Term.Fields es))
