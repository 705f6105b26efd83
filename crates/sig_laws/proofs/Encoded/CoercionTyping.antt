-- Each coercion of subtyping and of matching has the type that its rule says.
-- Main results: sub-typed, sub_abs-typed, match-typed.
use Rattle.std.specs.Prelude.{ℕ, List, [], ◌∷◌, ◌≡◌}
use Rattle.std.proofs.Math.Path.{refl, sym, ◌∙◌, ap}
use Rattle.omega_kinds.specs.Kind.{Kind}
use Rattle.omega_kinds.specs.declared.effect.Effect.{Effect}
use Rattle.omega_types.specs.Ty.{Ty}
use Rattle.omega_types.specs.Substitution.{rename, substitute}
use Rattle.omega_types.specs.Normality.{Normal}
use Rattle.omega_types.specs.Normality.Normal.{n_arrow}
use Rattle.omega_types.specs.Normaliser.{normal}
use Rattle.omega_types.specs.Binders.{extend, past, lifts, raise, all_over, ex_over, puts, NormalForms}
use Rattle.omega_types.proofs.Algebra.{substitute-rename}
use Rattle.omega_types.proofs.Preservation.{normal-kind, normal-rename, substitute-convertible}
use Rattle.omega_types.proofs.BinderPuts.{past-maps, lifts-maps, rename-all_over, rename-ex_over, puts-lifts, puts-convertible, vars-convertible, form-is, Fits, NormalTypes, forms-types, types-fit}
use Rattle.omega_terms.specs.Term.{Term, TermRow}
use Rattle.omega_terms.specs.Typing.{At, HasPart}
use Rattle.omega_terms.specs.Coercions.{result_label, coerced, MatchPart, AbsPart}
use Rattle.omega_terms.specs.Shorthands.{insts, ty_lam_over}
use Rattle.omega_terms.proofs.NormalTyping.{Typed, TypedFields, cast, recast, typed-more}
use Rattle.omega_terms.proofs.NormalInstance.{form_at, shifts-raise}
use Rattle.omega_terms.proofs.TypedShorthands.{typed-ty_lam_over, typed-insts, typed-packs, typed-opens, opened, at-opened}
use Rattle.sig_definitions.specs.Signatures.Sig.{Sig, Abs, SigRow}
use Rattle.sig_definitions.specs.Signatures.SigSubst.{rename_sig, sig_at, abs_at_under, substitute_abs}
use Rattle.sig_definitions.specs.Signatures.Alike.{NormalSigForm, NormalAbsForm, NormalSigRow}
use Rattle.sig_definitions.specs.Signatures.Encoding.{one_part, enc, enc_abs, enc_row}
use Rattle.sig_definitions.specs.Matching.Subtyping.{Sub, SubFields, SubResult, SubAbs, Match}
use Rattle.sig_laws.proofs.Encoded.EncodingTyping.{ShapeAbs, ShapeRow, shape-substitute, shape-alike, shape_abs-substitute, shape_abs-alike, fresh-row, enc-normal, enc_abs-normal, enc-form, enc_abs-form, Good, GoodAbs, good-rename, good-normal, good_abs-normal, good-field, enc-field, one_part-normal}
use Rattle.omega_types.proofs.Inverse.{same-normal}
use Rattle.sig_laws.proofs.Encoded.EncodingLaws.{enc-rename, enc-substitute, enc_abs-substitute}
use Rattle.sig_laws.proofs.Algebra.AlikeLaws.{form_sig-normal, form_abs-normal}

-- the encoding of a signature at types, in normal form
pub enc-at : {ctx ks : List Kind} {guess ts : List Ty} {t r : Sig} → NormalForms ctx guess ks ts → Good (extend ctx ks) t → NormalSigForm ctx (sig_at guess t) r → enc r ≡ form_at ctx (puts ts Ty.Var) (enc t)
enc-at {ctx} {ks} {guess} {ts} {t} {r} n g f =
    form-is (enc-form f (shape-substitute (puts guess Ty.Var) t g.shape)) ∙
    (ap (normal ctx) (enc-substitute (puts guess Ty.Var) t) ∙
    same-normal (substitute-convertible (puts guess Ty.Var) (puts ts Ty.Var) (puts-convertible n (vars-convertible ctx)) (normal-kind (good-normal g))))

-- the type of a coercion to a signature that hides types: to its body at the types found
abbrev pub match_type : List Kind → Sig → List Ty → Sig → Ty
match_type ctx s ts t = Ty.Arrow (enc s) (form_at ctx (puts ts Ty.Var) (enc t))

pub record Matched (ctx : List Kind) (s : Sig) (ks : List Kind) (t : Sig) (ts : List Ty) (f : Term) : Type 0 where
  pub found : NormalTypes ctx ts ks
  pub typed : Typed ctx [] f (match_type ctx s ts t)

-- what stands under ks, raised past js below ks, at types for ks
raised-at : {ts : List Ty} {ks : List Kind} (js : List Kind) → Fits ts ks → (t : Ty) → substitute (puts ts Ty.Var) (rename (lifts ks (past js)) t) ≡ substitute (puts ts (λ i. Ty.Var (past js i))) t
raised-at {ts} {ks} js f t = substitute-rename (puts ts Ty.Var) (lifts ks (past js)) t ∙ ap (λ s. substitute s t) (puts-lifts f Ty.Var (past js))

functor-typed : {ctx ks : List Kind} {s t : Sig} {x y : Abs} {ts : List Ty} {f g : Term} (js : List Kind) (z : Abs) (e d : Effect)
    → Good ctx (Sig.Fun e ks s x) → Good (extend ctx js) t
    → Matched (extend ctx js) t ks (rename_sig (lifts ks (past js)) s) ts f
    → NormalAbsForm (extend ctx js) (abs_at_under js ts x) y
    → Typed (extend ctx js) [] g (Ty.Arrow (enc_abs y) (enc_abs z))
    → Typed ctx [] (Term.Lam (enc (Sig.Fun e ks s x)) (ty_lam_over js (Term.Lam (enc t) (Term.Fields (TermRow.More (result_label d) (Term.Call g (Term.Get (Term.Call (insts (Term.Var 1) ts) (Term.Call f (Term.Var 0))) (result_label e))) TermRow.End))))) (Ty.Arrow (enc (Sig.Fun e ks s x)) (enc (Sig.Fun d js t z)))
functor-typed {ctx} {ks} {s} {t} {x} {y} {ts} {f} {g} js z e d left right m n typed =
    let inner : List Kind = extend ctx js in
    let r : ℕ → ℕ = lifts ks (past js) in
    let body : Ty = Ty.Arrow (enc s) (one_part (result_label e) (enc_abs x)) in
    let vars : List Ty = enc t ∷ raise js (all_over ks body) ∷ [] in
    let arg : Typed inner vars (Term.Call f (Term.Var 0)) (form_at inner (puts ts Ty.Var) (enc (rename_sig r s))) = Typed.call (typed-more vars m.typed) (Typed.var At.here) in
    let over : Typed inner vars (Term.Var 1) (all_over ks (rename r body)) = cast (rename-all_over (past js) ks body) (Typed.var (At.there At.here)) in
    let body-normal : Normal (extend inner ks) (rename r body) Kind.Star = normal-rename r (lifts-maps ks (past-maps ctx js)) (n_arrow (enc-normal s left.normal.0 left.shape.0) (one_part-normal (result_label e) (enc_abs-normal x left.normal.1 left.shape.1))) in
    let function : Typed inner vars (insts (Term.Var 1) ts) (form_at inner (puts ts Ty.Var) (rename r body)) = typed-insts m.found body-normal over in
    let called : Typed inner vars (Term.Call (insts (Term.Var 1) ts) (Term.Call f (Term.Var 0))) (one_part (result_label e) (form_at inner (puts ts Ty.Var) (rename r (enc_abs x)))) = Typed.call function (cast (ap (form_at inner (puts ts Ty.Var)) (enc-rename r s)) arg) in
    let same : form_at inner (puts ts Ty.Var) (rename r (enc_abs x)) ≡ enc_abs y =
    ap (normal inner) (raised-at js (types-fit m.found) (enc_abs x) ∙ sym (enc_abs-substitute (puts ts (λ i. Ty.Var (past js i))) x)) ∙
    sym (form-is (enc_abs-form n (shape_abs-substitute (puts ts (λ i. Ty.Var (past js i))) x left.shape.1))) in
    let result : Typed inner vars (Term.Get (Term.Call (insts (Term.Var 1) ts) (Term.Call f (Term.Var 0))) (result_label e)) (enc_abs y) = cast same (Typed.get called HasPart.here) in
    Typed.lam (good-normal left) (typed-ty_lam_over js (recast (sym (shifts-raise js (all_over ks body ∷ []))) (Typed.lam (good-normal right) (Typed.fields (TypedFields.more (Typed.call (typed-more vars typed) result) tt TypedFields.end)))))

good_abs-param : {ctx ks : List Kind} {e : Effect} {s : Sig} {x : Abs} → Good ctx (Sig.Fun e ks s x) → Good (extend ctx ks) s
good_abs-param g = record { normal = g.normal.0; shape = g.shape.0 }

good_abs-result : {ctx ks : List Kind} {e : Effect} {s : Sig} {x : Abs} → Good ctx (Sig.Fun e ks s x) → GoodAbs (extend ctx ks) x
good_abs-result g = record { normal = g.normal.1; shape = g.shape.1 }

good-at : {ctx : List Kind} {n : Abs} (x : Abs) (f : ℕ → Ty) → ShapeAbs x → NormalAbsForm ctx (substitute_abs f x) n → GoodAbs ctx n
good-at x f h a = record { normal = form_abs-normal a; shape = shape_abs-alike a (shape_abs-substitute f x h) }

mutual
  -- the coercion of subtyping leads from the left encoding to the right one, by normal typing
  pub sub-typed : {ctx : List Kind} {s t : Sig} {f : Term} → Good ctx s → Good ctx t → Sub ctx s t f → Typed ctx [] f (Ty.Arrow (enc s) (enc t))
  sub-typed g h Sub.val = Typed.lam (good-normal g) (Typed.var At.here)
  sub-typed g h Sub.typ = Typed.lam (good-normal g) (Typed.var At.here)
  sub-typed g h (Sub.meta {y = y} a b) = Typed.lam (good-normal g) (Typed.fields (TypedFields.more (Typed.lam (enc_abs-normal y h.normal h.shape) (Typed.var At.here)) tt TypedFields.end))
  sub-typed g h (Sub.str a) = Typed.lam (good-normal g) (Typed.fields (sub_fields-typed g.normal g.shape h.normal h.shape a))
  sub-typed {ctx} g h (Sub.fun {ks = ks} {js = js} {e = e} {d = d} {s = s} {x = x} {z = z} {ts = ts} m n r) =
      functor-typed js z e d g (good_abs-param h)
      (match-typed (good_abs-param h) (good-rename (lifts ks (past js)) (lifts-maps ks (past-maps ctx js)) (good_abs-param g)) m)
      n
      (sub_result-typed (good-at x (puts ts (λ i. Ty.Var (past js i))) g.shape.1 n) (good_abs-result h) r)

  pub sub_fields-typed : {ctx : List Kind} {fs gs : SigRow} {parts : TermRow} → NormalSigRow ctx fs → ShapeRow fs → NormalSigRow ctx gs → ShapeRow gs → SubFields ctx fs gs parts → TypedFields ctx (Ty.Fields (enc_row fs) ∷ []) (coerced parts) (enc_row gs)
  sub_fields-typed n h m i SubFields.end = TypedFields.end
  sub_fields-typed {fs = fs} n h m i (SubFields.more {gs = gs} {l = l} f a b) =
      TypedFields.more
      (Typed.call (typed-more (Ty.Fields (enc_row fs) ∷ []) (sub-typed (good-field f n h) (record { normal = m.0; shape = i.1 }) a)) (Typed.get (Typed.var At.here) (enc-field f)))
      (fresh-row l gs i.0)
      (sub_fields-typed n h m.1 i.2 b)

  pub sub_result-typed : {ctx : List Kind} {e d : Effect} {x y : Abs} {g : Term} → GoodAbs ctx x → GoodAbs ctx y → SubResult ctx e d x y g → Typed ctx [] g (Ty.Arrow (enc_abs x) (enc_abs y))
  sub_result-typed g h (SubResult.both_pure a) = sub-typed (record { normal = g.normal; shape = g.shape }) (record { normal = h.normal; shape = h.shape }) a
  sub_result-typed g h (SubResult.to_impure a) = sub_abs-typed g h a

  -- the coercion of subtyping between signatures that hide types leads from the left encoding to the right one
  pub sub_abs-typed : {ctx : List Kind} {x y : Abs} {f : Term} → GoodAbs ctx x → GoodAbs ctx y → SubAbs ctx x y f → Typed ctx [] f (Ty.Arrow (enc_abs x) (enc_abs y))
  sub_abs-typed {ctx} {y = Abs.Ex js t} g h (SubAbs.plain {s = s} a (MatchPart.made p)) =
      let left : Good ctx s = record { normal = g.normal; shape = g.shape } in
      let right : Good (extend ctx js) t = record { normal = h.normal; shape = h.shape } in
      let m = match-typed left right a in
      Typed.lam (good-normal left) (typed-packs m.found (good-normal right) (Typed.call (typed-more (enc s ∷ []) m.typed) (Typed.var At.here)) refl p)
  sub_abs-typed {ctx} {y = Abs.Ex js t} g h (SubAbs.hidden {ks = ks} {k = k} {s = s} a (AbsPart.made p)) =
      let left : Good (extend ctx (k ∷ ks)) s = record { normal = g.normal; shape = g.shape } in
      let right : Good (extend ctx js) t = record { normal = h.normal; shape = h.shape } in
      let r : ℕ → ℕ = lifts js (past (k ∷ ks)) in
      let raised : Good (extend (extend ctx (k ∷ ks)) js) (rename_sig r t) = good-rename r (lifts-maps js (past-maps ctx (k ∷ ks))) right in
      let m = match-typed left raised a in
      let from : Ty = enc_abs (Abs.Ex (k ∷ ks) s) in
      let e : raise (k ∷ ks) (ex_over js (enc t)) ≡ ex_over js (enc (rename_sig r t)) = rename-ex_over (past (k ∷ ks)) js (enc t) ∙ ap (ex_over js) (sym (enc-rename r t)) in
      let call = Typed.call (typed-more (opened (k ∷ ks) (enc s) (from ∷ [])) m.typed) (Typed.var (at-opened (enc s) (k ∷ ks) (from ∷ []))) in
      Typed.lam (good_abs-normal g) (typed-opens (k ∷ ks) (good_abs-normal h) (good-normal left) (Typed.var At.here) (cast (sym e) (typed-packs m.found (good-normal raised) call e p)))

  -- the coercion of matching leads to the right side's body at the types found
  pub match-typed : {ctx ks : List Kind} {s t : Sig} {ts : List Ty} {f : Term} → Good ctx s → Good (extend ctx ks) t → Match ctx s (Abs.Ex ks t) ts f → Matched ctx s ks t ts f
  match-typed {s = s} {t = t} g h (Match.at {r = r} {guess = guess} o n a b) =
      let shape = shape-alike a (shape-substitute (puts guess Ty.Var) t h.shape) in
      record { found = forms-types n; typed = cast (ap (Ty.Arrow (enc s)) (enc-at n h a)) (sub-typed g (record { normal = form_sig-normal a; shape = shape }) b) }
