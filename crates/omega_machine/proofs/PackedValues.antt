-- A value of a record type with any number of `some` round it is a record of values in packages.
-- Main results: packed-value.
use Rattle.std.proofs.Common.{◌≡◌, ◌≢◌, ℕ, [], refl, subst, ◌⊎◌, inl, inr, ℤ, List, Bool as Truth}
use Rattle.omega_kinds.specs.Kind.{Kind}
use Rattle.omega_kinds.specs.declared.label.Label.{Label}
use Rattle.omega_types.specs.Ty.{Ty}
use Rattle.omega_types.specs.Substitution.{substitute, single, under, instantiate}
use Rattle.omega_types.specs.Conversion.{Conv}
use Rattle.omega_types.specs.Conversion.Conv.{c_sym, c_trans}
use Rattle.omega_types.proofs.Inverse.{ex_parts}
use Rattle.omega_terms.specs.Term.{Term}
use Rattle.omega_terms.specs.Typing.{HasType, IsPackedRecord}
use Rattle.omega_terms.specs.Steps.{IsValue, PacksFields}
use Rattle.omega_terms.proofs.TypingLaws.{good-none}
use Rattle.omega_laws.proofs.Common.{Form, form, Canon, put_conv}
use Rattle.omega_laws.proofs.Unique.{Own, invert}
use Rattle.omega_laws.proofs.Progress.{canon}

packed-sub : (s : ℕ → Ty) (t : Ty) → IsPackedRecord t → IsPackedRecord (substitute s t)
packed-sub s (Ty.Fields r) p = tt
packed-sub s (Ty.Ex k b) p = packed-sub (under s) b p
packed-sub s _ p = absurd p

packed-form : (t : Ty) → IsPackedRecord t → (form t ≡ Form.a_record) ⊎ (form t ≡ Form.an_ex)
packed-form (Ty.Fields r) p = inl refl
packed-form (Ty.Ex k b) p = inr refl
packed-form _ p = absurd p

some-form : (t : Ty) → (form t ≡ Form.a_record) ⊎ (form t ≡ Form.an_ex) → form t ≢ Form.no_form
some-form t (inl p) q = cc
some-form t (inr p) q = cc

-- a value of such a form is no other
record-or-pack : (t : Ty) (v : Term) → (form t ≡ Form.a_record) ⊎ (form t ≡ Form.an_ex) → Canon (form t) v → Canon Form.a_record v ⊎ Canon Form.an_ex v
record-or-pack t v (inl p) c = inl (subst (λ f. Canon f v) p c)
record-or-pack t v (inr p) c = inr (subst (λ f. Canon f v) p c)

either : (v : Term) (t : Ty) → HasType [] [] v t → IsPackedRecord t → IsValue v → Canon Form.a_record v ⊎ Canon Form.an_ex v
either v t h p i = let f = packed-form t p in record-or-pack t v f (canon v t h (some-form t f) i)

not-int : {z : ℤ} → Canon Form.a_record (Term.Int z) ⊎ Canon Form.an_ex (Term.Int z) → ⊥
not-int (inl c) = elim c [ ]
not-int (inr c) = elim c [ ]

not-bool : {b : Truth} → Canon Form.a_record (Term.Bool b) ⊎ Canon Form.an_ex (Term.Bool b) → ⊥
not-bool (inl c) = elim c [ ]
not-bool (inr c) = elim c [ ]

not-text : {s : List ℕ} → Canon Form.a_record (Term.Text s) ⊎ Canon Form.an_ex (Term.Text s) → ⊥
not-text (inl c) = elim c [ ]
not-text (inr c) = elim c [ ]

not-lam : {t : Ty} {e : Term} → Canon Form.a_record (Term.Lam t e) ⊎ Canon Form.an_ex (Term.Lam t e) → ⊥
not-lam (inl c) = elim c [ ]
not-lam (inr c) = elim c [ ]

not-ty_lam : {k : Kind} {e : Term} → Canon Form.a_record (Term.TyLam k e) ⊎ Canon Form.an_ex (Term.TyLam k e) → ⊥
not-ty_lam (inl c) = elim c [ ]
not-ty_lam (inr c) = elim c [ ]

not-fix : {t u : Ty} {e : Term} → Canon Form.a_record (Term.Fix t u e) ⊎ Canon Form.an_ex (Term.Fix t u e) → ⊥
not-fix (inl c) = elim c [ ]
not-fix (inr c) = elim c [ ]

not-inj : {l : Label} {e : Term} {t : Ty} → Canon Form.a_record (Term.Inj l e t) ⊎ Canon Form.an_ex (Term.Inj l e t) → ⊥
not-inj (inl c) = elim c [ ]
not-inj (inr c) = elim c [ ]

not-roll : {e : Term} {t : Ty} → Canon Form.a_record (Term.Roll e t) ⊎ Canon Form.an_ex (Term.Roll e t) → ⊥
not-roll (inl c) = elim c [ ]
not-roll (inr c) = elim c [ ]

inner : (a : Ty) (w : Term) (u s : Ty) (k : Kind) (b : Ty) → Own [] [] (Term.Pack a w u) s → Conv [] s (Ty.Ex k b) Kind.Star → HasType [] [] w (instantiate b a)
inner a w u s k b (Own.pack {k = j} {body = c} d m h) e =
    let p = ex_parts _ _ _ _ _ (c_trans (c_sym d) e) in
    HasType.conv h (put_conv m p.1)

pack-case : (a : Ty) (w : Term) (u : Ty) (t : Ty) → HasType [] [] (Term.Pack a w u) t → IsPackedRecord t → ((s : Ty) → HasType [] [] w s → IsPackedRecord s → PacksFields w) → form t ≡ Form.an_ex → PacksFields (Term.Pack a w u)
pack-case a w u (Ty.Ex k b) h p f q =
    let r = invert (good-none []) h in
    PacksFields.pack (f (instantiate b a) (inner a w u r.ty k b r.own r.to) (packed-sub (single a) b p))
pack-case a w u (Ty.Fields r) h p f q = absurd (let n : Form.a_record ≡ Form.an_ex → ⊥ = λ e. cc in n q)
pack-case a w u _ h p f q = absurd p

pack-form : (a : Ty) (w : Term) (u t : Ty) → IsPackedRecord t → Canon (form t) (Term.Pack a w u) → form t ≡ Form.an_ex
pack-form a w u (Ty.Ex k b) p c = refl
pack-form a w u (Ty.Fields r) p c = elim c [ ]
pack-form a w u _ p c = absurd p

-- a value of a record type inside packages is a record of values inside packages
pub packed-value : {v : Term} → IsValue v → (t : Ty) → HasType [] [] v t → IsPackedRecord t → PacksFields v
packed-value IsValue.int t h p = absurd (not-int (either _ t h p IsValue.int))
packed-value IsValue.bool t h p = absurd (not-bool (either _ t h p IsValue.bool))
packed-value IsValue.text t h p = absurd (not-text (either _ t h p IsValue.text))
packed-value IsValue.lam t h p = absurd (not-lam (either _ t h p IsValue.lam))
packed-value IsValue.ty_lam t h p = absurd (not-ty_lam (either _ t h p IsValue.ty_lam))
packed-value IsValue.fix t h p = absurd (not-fix (either _ t h p IsValue.fix))
packed-value (IsValue.inj i) t h p = absurd (not-inj (either _ t h p (IsValue.inj i)))
packed-value (IsValue.roll i) t h p = absurd (not-roll (either _ t h p (IsValue.roll i)))
packed-value (IsValue.fields v) t h p = PacksFields.fields v
packed-value (IsValue.pack {t = a} {u = u} {e = w} i) t h p =
    let f = some-form t (packed-form t p) in
    pack-case a w u t h p (λ s g q. packed-value i s g q) (pack-form a w u t p (canon _ t h f (IsValue.pack i)))
