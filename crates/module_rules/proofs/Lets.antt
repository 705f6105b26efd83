-- Lets for the fields of a structure, built from the last one to the first.
-- Main results: lets-first, lets-next.
use Rattle.std.specs.Prelude.{ℕ, zero, suc, ◌-◌, ◌<◌, ◌≤◌, [], ◌∷◌, ◌≡◌, length, drop}
use Rattle.std.proofs.Common.{get_or, arith}
use Rattle.std.proofs.Math.Path.{refl, sym, ap, ap₂, ◌∙◌}
use Rattle.omega_kinds.specs.Name.{Name}
use Rattle.omega_kinds.specs.declared.label.Label.{Label}
use Rattle.omega_types.specs.Ty.{Ty}
use Rattle.omega_terms.specs.Term.{Term}
use Rattle.omega_terms.specs.Shorthands.{let_in}
use Rattle.omega_terms.proofs.Unchanged.{ap₃}
use Rattle.sig_definitions.specs.Signatures.Sig.{Sig}
use Rattle.sig_definitions.specs.Signatures.Encoding.{enc}
use Rattle.semantic_sigs.specs.Inner.Fields.{SigPairs, sig_row}
use Rattle.module_judgments.specs.Sequence.{field_lets}

lets-drop : (fields : SigPairs) (n i : ℕ) (d : Name × Sig) (body : Term) → n < length fields → field_lets i (sig_row (drop n fields)) body ≡ let_in (enc (get_or fields n d).1) (Term.Get (Term.Var i) (Label.Name (get_or fields n d).0)) (field_lets (suc i) (sig_row (drop (suc n) fields)) body)
lets-drop [] n i d body lt = absurd (omega (arith, lt))
lets-drop (x ∷ fields) zero i d body lt = refl
lets-drop (x ∷ fields) (suc n) i d body lt = lets-drop fields n i d body (omega (arith, lt))

past-all : (n : ℕ) (fields : SigPairs) → length fields ≤ n → drop n fields ≡ []
past-all zero [] le = refl
past-all zero (x ∷ fields) le = absurd (omega (arith, le))
past-all (suc n) [] le = refl
past-all (suc n) (x ∷ fields) le = past-all n fields (omega (arith, le))

-- before the first let is built, the body is that of no lets
pub lets-first : (fields : SigPairs) (n : ℕ) (body : Term) → n ≡ length fields → body ≡ field_lets n (sig_row (drop n fields)) body
lets-first fields n body e = ap (λ fs. field_lets n (sig_row fs) body) (sym (past-all n fields (omega (arith, e))))

-- one let more is put around the term, for the field before
pub lets-next : (fields : SigPairs) (left : ℕ) (field : Name × Sig) (name : Name) (ty : Ty) (whole part term more body : Term) → 0 < left → left ≤ length fields → term ≡ field_lets left (sig_row (drop left fields)) body → field ≡ get_or fields (left - 1) field → name ≡ field.0 → whole ≡ Term.Var (left - 1) → part ≡ Term.Get whole (Label.Name name) → ty ≡ enc field.1 → more ≡ let_in ty part term → more ≡ field_lets (left - 1) (sig_row (drop (left - 1) fields)) body
lets-next fields zero field name ty whole part term more body lt le e ef en ew ep et em = absurd (omega (arith, lt))
lets-next fields (suc n) field name ty whole part term more body lt le e ef en ew ep et em =
    let less : suc n - 1 ≡ n = omega arith in
    let same : field ≡ get_or fields n field = ef ∙ ap (λ m. get_or fields m field) less in
    let parts : part ≡ Term.Get (Term.Var n) (Label.Name (get_or fields n field).0) = ep ∙ ap₂ (λ u l. Term.Get u (Label.Name l)) (ew ∙ ap Term.Var less) (en ∙ ap (λ p. p.0) same) in
    let types : ty ≡ enc (get_or fields n field).1 = et ∙ ap (λ p. enc p.1) same in
    em ∙ (ap₃ let_in types parts e ∙ (sym (lets-drop fields n n field body (omega (arith, le))) ∙ ap (λ m. field_lets m (sig_row (drop m fields)) body) (sym less)))
