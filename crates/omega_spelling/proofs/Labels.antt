-- Labels are read as they are written.
-- Main results: label-reads.
use Rattle.std.proofs.Common.{◌≡◌, ℕ, Bool, true, false, List, [], ◌∷◌, ◌++◌, Some, refl, sym, ap, ◌∙◌, subst, arith, inl, inr}
use Rattle.std.specs.Prelude.{◌⊎◌, ◌&&◌, ◌||◌, ◌==◌, not}
use Rattle.std.specs.Char.{is_ascii_digit}
use Rattle.std.proofs.lemmas.Bool.Decides.{nat_tests}
use Rattle.omega_kinds.specs.declared.label.Label.{Label}
use Rattle.omega_kinds.specs.declared.label.Label.TheVariants.{Val, Typ, Sig, App, Gen, Name}
use Rattle.omega_terms.specs.KindText.{label_text}
use Rattle.omega_spelling.specs.Spelled.{LabelSpelled, is_hidden}
use Rattle.omega_spelling.specs.Reading.{strip, run, passes, hidden_at, name_at, label_at, is_name, all_in_name, in_name, begins_name, is_keyword}
use Rattle.omega_spelling.proofs.Steps.{step, constant, if_ok, and_ok, run-is, run-passes, run-again, Ends, Reads}

or-left : (a b : Bool) → a ≡ true → (a || b) ≡ true
or-left true b e = refl
or-left false b e = absurd cc

or-cases : (a b : Bool) → (a || b) ≡ true → (a ≡ true) ⊎ (b ≡ true)
or-cases true b e = inl refl
or-cases false b e = inr e

true-false : (let t : Bool = true in t) ≡ false → ⊥
true-false e = cc

-- a name begins with none of the bytes that begin another label
begins-other : (b c : ℕ) → begins_name c ≡ false → begins_name b ≡ true → (b == c) ≡ false
begins-other b c other e = go (b == c) refl
  where
    go : (t : Bool) → (b == c) ≡ t → t ≡ false
    go true q = let h : b ≡ c = grind (arith, nat_tests) in absurd (true-false (sym e ∙ ap begins_name h ∙ other))
    go false q = refl

spelled-name : (bytes : List ℕ) → is_name bytes ≡ true → passes in_name bytes ≡ true → LabelSpelled (Name bytes)
spelled-name bytes e f = rw (e, f) refl

hidden-takes : (r : List ℕ) (x : Label) (rest : List ℕ) → hidden_at r ≡ Some (x, rest) → (37 ∷ r ≡ label_text x ++ rest) × LabelSpelled x
unfolding hidden_at
hidden-takes [] x rest e = absurd cc
hidden-takes (d ∷ r) x rest e =
    let t = if_ok (is_ascii_digit d) (Name (37 ∷ d ∷ []), r) (x, rest) e in
    let same : Name (37 ∷ d ∷ []) ≡ x = ap (λ (z : Label × List ℕ). z.0) t.1 in
    let left : r ≡ rest = ap (λ (z : Label × List ℕ). z.1) t.1 in
    subst (λ (z : Label). (37 ∷ d ∷ r ≡ label_text z ++ rest) × LabelSpelled z) same (ap (λ (w : List ℕ). 37 ∷ d ∷ w) left, t.0)

name-takes : (bytes : List ℕ) (x : Label) (rest : List ℕ) → name_at bytes ≡ Some (x, rest) → (bytes ≡ label_text x ++ rest) × LabelSpelled x
unfolding name_at
name-takes bytes x rest e =
    let ds = (run in_name bytes).0 in
    let t = if_ok (is_name ds) (Name ds, (run in_name bytes).1) (x, rest) e in
    let same : Name ds ≡ x = ap (λ (z : Label × List ℕ). z.0) t.1 in
    let left : (run in_name bytes).1 ≡ rest = ap (λ (z : Label × List ℕ). z.1) t.1 in
    subst (λ (z : Label). (bytes ≡ label_text z ++ rest) × LabelSpelled z) same (run-is in_name bytes ∙ ap (λ (w : List ℕ). ds ++ w) left, spelled-name ds t.0 (run-passes in_name bytes))

label-takes : (bytes : List ℕ) (x : Label) (rest : List ℕ) → label_at bytes ≡ Some (x, rest) → (bytes ≡ label_text x ++ rest) × LabelSpelled x
unfolding label_at
label-takes bytes x rest e =
    constant label_text LabelSpelled Val tt bytes x rest _ e (λ e1.
    constant label_text LabelSpelled Typ tt bytes x rest _ e1 (λ e2.
    constant label_text LabelSpelled Sig tt bytes x rest _ e2 (λ e3.
    constant label_text LabelSpelled App tt bytes x rest _ e3 (λ e4.
    constant label_text LabelSpelled Gen tt bytes x rest _ e4 (λ e5.
    step (37 ∷ []) bytes hidden_at (name_at bytes) (x, rest) e5
    (λ r parts is. let h = hidden-takes r x rest is in (parts ∙ h.0, h.1))
    (name-takes bytes x rest))))))

name-again : (bytes rest : List ℕ) → is_name bytes ≡ true → all_in_name bytes ≡ true → Ends rest → label_at (bytes ++ rest) ≡ Some (Name bytes, rest)
unfolding label_at name_at strip
name-again [] rest e f ends = absurd cc
name-again (b ∷ bs) rest e f ends =
    let first = (and_ok (begins_name b) (not (is_keyword (b ∷ bs))) e).0 in
    let r : run in_name (b ∷ bs ++ rest) ≡ (b ∷ bs, rest) = run-again in_name (b ∷ bs) rest f ends in
    rw (begins-other b 46 refl first, begins-other b 37 refl first, r, e) refl

hidden-again : (bytes rest : List ℕ) → is_hidden bytes ≡ true → label_at (bytes ++ rest) ≡ Some (Name bytes, rest)
unfolding label_at hidden_at strip
hidden-again [] rest e = absurd cc
hidden-again (p ∷ []) rest e = absurd cc
hidden-again (p ∷ d ∷ []) rest e =
    let t = and_ok (p == 37) (is_ascii_digit d) e in
    let h : 37 ≡ p = same37 p t.0 in
    subst (λ (q : ℕ). label_at (q ∷ d ∷ rest) ≡ Some (Name (q ∷ d ∷ []), rest)) h (rw t.1 refl)
  where
    same37 : (p : ℕ) → (p == 37) ≡ true → 37 ≡ p
    same37 p e = grind (arith, nat_tests)
hidden-again (p ∷ d ∷ x ∷ bs) rest e = absurd cc

label-again : (x : Label) (rest : List ℕ) → LabelSpelled x → Ends rest → label_at (label_text x ++ rest) ≡ Some (x, rest)
unfolding label_at strip
label-again Val rest ok ends = refl
label-again Typ rest ok ends = refl
label-again Sig rest ok ends = refl
label-again App rest ok ends = refl
label-again Gen rest ok ends = refl
label-again (Name bytes) rest ok ends =
    elim (or-cases (is_name bytes && all_in_name bytes) (is_hidden bytes) ok) [
      | inl h ↦ let t = and_ok (is_name bytes) (all_in_name bytes) h in name-again bytes rest t.0 t.1 ends
      | inr h ↦ hidden-again bytes rest h
    ]

-- the reader of labels takes just the texts of spelled labels
pub label-reads : Reads label_at label_text LabelSpelled
label-reads = record { takes = label-takes; again = label-again }
