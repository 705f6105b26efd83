-- A whole Omega text is the text of one type and one term, in one version.
-- Main results: one-text, one-tree.
use Rattle.std.proofs.Common.{◌≡◌, ◌≢◌, ℕ, max, List, [], ◌∷◌, ◌++◌, Some, None, refl, sym, ap, ◌∙◌, subst, arith}
use Rattle.std.specs.Prelude.{codes}
use Rattle.omega_kinds.specs.Text.{◌then◌}
use Rattle.omega_types.specs.Ty.{Ty}
use Rattle.omega_terms.specs.TypeText.{ty_text}
use Rattle.omega_terms.specs.TermText.{term_text}
use Rattle.omega_terms.specs.declared.version.Version.{Version}
use Rattle.omega_terms.specs.declared.version.Version.TheVariants.{First, Second}
use Rattle.omega_terms.specs.OmegaText.{version_line, version_text}
use Rattle.omega_terms.specs.Term.{Term}
use Rattle.omega_spelling.specs.Spelled.{TySpelled, deep}
use Rattle.omega_spelling.specs.Reading.{strip, ty_at}
use Rattle.omega_spelling.specs.TermReading.{TermSpelled, term_deep, term_at}
use Rattle.omega_spelling.specs.Omega.{OmegaText}
use Rattle.omega_spelling.proofs.Steps.{some_is, some-none, strip-again, Ends}
use Rattle.omega_spelling.proofs.Types.{ty-reads}
use Rattle.omega_spelling.proofs.Terms.{term-reads}

-- an Omega text, regrouped as a reader takes it
pub text-is : (v : Version) (t : Ty) (e : Term) → version_text v t e ≡ version_line v ++ (ty_text 0 t ++ (10 ∷ (term_text 0 0 e ++ (10 ∷ []))))
unfolding ◌then◌
text-is v t e = refl

other-line : (v w : Version) (rest : List ℕ) → v ≢ w → strip (version_line v) (version_line w ++ rest) ≡ None
unfolding strip
other-line First First rest differ = absurd (differ refl)
other-line First Second rest differ = refl
other-line Second First rest differ = refl
other-line Second Second rest differ = absurd (differ refl)

-- the first line tells the version
one-line : (v w : Version) (x y : List ℕ) → version_line v ++ x ≡ version_line w ++ y → (v ≡ w) × (x ≡ y)
one-line First First x y e = (refl, some_is x y (sym (strip-again (version_line First) x) ∙ ap (strip (version_line First)) e ∙ strip-again (version_line First) y))
one-line Second Second x y e = (refl, some_is x y (sym (strip-again (version_line Second) x) ∙ ap (strip (version_line Second)) e ∙ strip-again (version_line Second) y))
one-line First Second x y e = absurd (some-none x (sym (strip-again (version_line First) x) ∙ ap (strip (version_line First)) e ∙ other-line First Second y (λ h. cc)))
one-line Second First x y e = absurd (some-none x (sym (strip-again (version_line Second) x) ∙ ap (strip (version_line Second)) e ∙ other-line Second First y (λ h. cc)))

module _ (v : Version) where
  -- what is read from the start of a text, and the bytes after it, are determined
  ty-front : (n : ℕ) (t u : Ty) (r s : List ℕ) → TySpelled v n t → TySpelled v n u → Ends r → Ends s → ty_text n t ++ r ≡ ty_text n u ++ s → (t ≡ u) × (r ≡ s)
  ty-front n t u r s p q x y e =
      let a = (ty-reads v (max (deep t) (deep u)) n).again t r (p, omega arith) x in
      let b = (ty-reads v (max (deep t) (deep u)) n).again u s (q, omega arith) y in
      let c : ty_at v (max (deep t) (deep u)) n (ty_text n t ++ r) ≡ Some (u, s) = subst (λ (w : List ℕ). ty_at v (max (deep t) (deep u)) n w ≡ Some (u, s)) (sym e) b in
      let z = some_is (t, r) (u, s) (sym a ∙ c) in
      (ap (λ (k : Ty × List ℕ). k.0) z, ap (λ (k : Ty × List ℕ). k.1) z)

  term-front : (n m : ℕ) (t u : Term) (r s : List ℕ) → TermSpelled v n m t → TermSpelled v n m u → Ends r → Ends s → term_text n m t ++ r ≡ term_text n m u ++ s → (t ≡ u) × (r ≡ s)
  term-front n m t u r s p q x y e =
      let a = (term-reads v (max (term_deep t) (term_deep u)) n m).again t r (p, omega arith) x in
      let b = (term-reads v (max (term_deep t) (term_deep u)) n m).again u s (q, omega arith) y in
      let c : term_at v (max (term_deep t) (term_deep u)) n m (term_text n m t ++ r) ≡ Some (u, s) = subst (λ (w : List ℕ). term_at v (max (term_deep t) (term_deep u)) n m w ≡ Some (u, s)) (sym e) b in
      let z = some_is (t, r) (u, s) (sym a ∙ c) in
      (ap (λ (k : Term × List ℕ). k.0) z, ap (λ (k : Term × List ℕ). k.1) z)

  -- the two lines behind the first
  one-body : (t u : Ty) (e f : Term) → TySpelled v 0 t → TySpelled v 0 u → TermSpelled v 0 0 e → TermSpelled v 0 0 f
      → ty_text 0 t ++ (10 ∷ (term_text 0 0 e ++ (10 ∷ []))) ≡ ty_text 0 u ++ (10 ∷ (term_text 0 0 f ++ (10 ∷ []))) → (t ≡ u) × (e ≡ f)
  one-body t u e f p q r s body =
      let first = ty-front 0 t u (10 ∷ (term_text 0 0 e ++ (10 ∷ []))) (10 ∷ (term_text 0 0 f ++ (10 ∷ []))) p q refl refl body in
      let second = some_is _ _ (sym (strip-again (codes "\n") (term_text 0 0 e ++ (10 ∷ []))) ∙ ap (strip (codes "\n")) first.1 ∙ strip-again (codes "\n") (term_text 0 0 f ++ (10 ∷ []))) in
      (first.0, (term-front 0 0 e f (10 ∷ []) (10 ∷ []) r s refl refl second).0)

  -- types of one spelling are the same
  pub one-type : (n : ℕ) (t u : Ty) → TySpelled v n t → TySpelled v n u → ty_text n t ≡ ty_text n u → t ≡ u
  one-type n t u p q e = (ty-front n t u [] [] p q tt tt (ap (λ (w : List ℕ). w ++ []) e)).0

-- equal texts are of one version, one type and one term
pub one-text : (v w : Version) (t u : Ty) (e f : Term) → TySpelled v 0 t → TySpelled w 0 u → TermSpelled v 0 0 e → TermSpelled w 0 0 f
    → version_text v t e ≡ version_text w u f → (v ≡ w) × (t ≡ u) × (e ≡ f)
one-text v w t u e f p q r s same =
    let lines = one-line v w (ty_text 0 t ++ (10 ∷ (term_text 0 0 e ++ (10 ∷ [])))) (ty_text 0 u ++ (10 ∷ (term_text 0 0 f ++ (10 ∷ [])))) (sym (text-is v t e) ∙ same ∙ text-is w u f) in
    let back = sym lines.0 in
    let trees = one-body v t u e f p (subst (λ (x : Version). TySpelled x 0 u) back q) r (subst (λ (x : Version). TermSpelled x 0 0 f) back s) lines.1 in
    (lines.0, trees.0, trees.1)

-- bytes are the Omega text of at most one type and one term
pub one-tree : (bytes : List ℕ) (t u : Ty) (e f : Term) → OmegaText bytes t e → OmegaText bytes u f → (t ≡ u) × (e ≡ f)
one-tree bytes t u e f (v, p) (w, q) =
    let same = one-text v w t u e f p.type_spelled q.type_spelled p.term_spelled q.term_spelled (sym p.text ∙ q.text) in
    (same.1, same.2)
