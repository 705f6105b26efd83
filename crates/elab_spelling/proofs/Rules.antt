-- What the rules of elaboration make of legible premises is legible.
-- Main results: found-legible, lift-legible, packed-legible, sequence-legible, collected-legible.
use Rattle.std.specs.Prelude.{◌≡◌, ℕ, zero, suc, List, [], ◌∷◌, ◌++◌, map, Bool, true, false, cond, Option, Some, None}
use Rattle.std.proofs.Math.Path.{subst}
use Rattle.omega_kinds.specs.Kind.{Kind}
use Rattle.omega_kinds.specs.declared.label.Label.{Label}
use Rattle.omega_kinds.specs.declared.effect.Effect.{Effect}
use Rattle.omega_kinds.specs.declared.effect.Effect.TheVariants.{Pure, Impure}
use Rattle.omega_kinds.specs.Name.{Name, same_name}
use Rattle.omega_types.specs.Ty.{Ty}
use Rattle.omega_types.specs.Substitution.{substitute}
use Rattle.omega_types.specs.EtaLong.{eta}
use Rattle.omega_types.specs.Binders.{past, lifts, raise, unders, front, puts, applied}
use Rattle.omega_terms.specs.declared.op.Op.{Op}
use Rattle.omega_terms.specs.declared.version.Version.{Version}
use Rattle.omega_terms.specs.Term.{Term, TermRow}
use Rattle.omega_terms.specs.TermSubst.{same_index}
use Rattle.omega_terms.specs.Typing.{result_type}
use Rattle.omega_terms.specs.Shorthands.{ty_lam_over}
use Rattle.omega_terms.specs.PartTerms.{one_field}
use Rattle.omega_terms.specs.Coercions.{result_label}
use Rattle.sig_definitions.specs.Signatures.Sig.{Sig, Abs, SigRow, Module}
use Rattle.sig_definitions.specs.Signatures.Encoding.{enc, enc_abs}
use Rattle.sig_definitions.specs.Signatures.RecordOrder.{NamesRise}
use Rattle.sig_definitions.specs.Packing.{Packed}
use Rattle.sig_definitions.specs.Lifting.{Lift, lift, lifting, own_vars, lifted_types}
use Rattle.sig_definitions.specs.Env.{Env, TypeVar, Named, Value, TypeParam, past_type, past_term, first_kind, type_param, find, type_vars, named_fields}
use Rattle.sig_judgments.specs.Refinement.{Refined}
use Rattle.module_judgments.specs.PathUse.{Outside, TypeOfPath, value_of, ValueOfPath, SigOutside, SigOfPath}
use Rattle.module_judgments.specs.Projection.{Projected}
use Rattle.module_judgments.specs.Sequence.{Seq, field_lets, Collected}
use Rattle.module_judgments.specs.ModRules.{ApplyGives}
use Rattle.elab_spelling.specs.Legible.{TyLegible, TypesLegible, TermLegible, TermRowLegible}
use Rattle.elab_spelling.specs.Signatures.{NamesSpelled, SigLegible, AbsLegible, FieldsLegible, ModuleLegible, EnvLegible}
use Rattle.elab_spelling.proofs.Types.{rename-legible, substitute-legible, front-legible, puts-legible, unders-legible, eta-legible, vars-legible}
use Rattle.elab_spelling.proofs.Types.{applied-legible, lam_over-legible}
use Rattle.elab_spelling.proofs.Forms.{forms-legible, outside-legible}
use Rattle.elab_spelling.proofs.Terms.{ren_term-legible, instance-legible, ty_lam_over-legible, insts-legible, packs-legible, opens-legible, one_field-legible}
use Rattle.elab_spelling.proofs.Terms.{type_term-legible, result_label-spelled}
use Rattle.elab_spelling.proofs.Signatures.{rename_sig-legible, substitute_sig-legible, sig_at-legible, abs_at-legible, form_sig-legible, form_abs-legible}
use Rattle.elab_spelling.proofs.Signatures.{outside_abs-legible, field-legible, enc-legible, enc_abs-legible}
use Rattle.elab_spelling.proofs.Matching.{append-legible}
use Rattle.elab_spelling.proofs.Fields.{Follow, follow-rise}

module _ (v : Version) where
  -- environments

  -- further type variables keep an environment legible
  pub type_vars-legible : (g : Env) (ks : List Kind) → EnvLegible v g → EnvLegible v (type_vars g ks)
  type_vars-legible g [] h = h
  type_vars-legible g (k ∷ ks) h = type_vars-legible (TypeVar k ∷ g) ks h

  -- a legible environment with the fields of a legible structure is legible
  pub named_fields-legible : (last : Option Label) (g : Env) (fs : SigRow) → EnvLegible v g → FieldsLegible v last fs → EnvLegible v (named_fields g fs)
  named_fields-legible last g SigRow.End h f = h
  named_fields-legible last g (SigRow.More l s rest) h f = named_fields-legible (Some (Label.Name l)) (Named l s ∷ g) rest (f.2, h) f.3

  -- what is found in an environment
  abbrev FoundLegible : Option (Sig × Term) → Type 0
  FoundLegible None = Unit {0}
  FoundLegible (Some o) = SigLegible v o.0 × TermLegible v o.1

  past_type-legible : (o : Option (Sig × Term)) → FoundLegible o → FoundLegible (past_type o)
  past_type-legible None h = tt
  past_type-legible (Some o) h = (rename_sig-legible v suc o.0 h.0, ren_term-legible v suc same_index o.1 h.1)

  past_term-legible : (o : Option (Sig × Term)) → FoundLegible o → FoundLegible (past_term o)
  past_term-legible None h = tt
  past_term-legible (Some o) h = (h.0, ren_term-legible v same_index suc o.1 h.1)

  either-legible : (b : Bool) (o : Sig × Term) (p : Option (Sig × Term)) → SigLegible v o.0 × TermLegible v o.1 → FoundLegible p
      → FoundLegible (cond b (Some o) p)
  either-legible true o p h g = h
  either-legible false o p h g = g

  find-legible : (g : Env) (x : Name) → EnvLegible v g → FoundLegible (find g x)
  find-legible [] x h = tt
  find-legible (TypeVar k ∷ g) x h = past_type-legible (find g x) (find-legible g x h)
  find-legible (Named y s ∷ g) x h = either-legible (same_name x y) (s, Term.Var zero) (past_term (find g x)) (h.0, tt)
      (past_term-legible (find g x) (find-legible g x h.1))
  find-legible (Value y t ∷ g) x h =
      either-legible (same_name x y) (Sig.Val t, one_field Label.Val (Term.Var zero)) (past_term (find g x))
      (h.0, one_field-legible v Label.Val (Term.Var zero) tt tt) (past_term-legible (find g x) (find-legible g x h.1))
  find-legible (TypeParam y ∷ g) x h =
      let k = first_kind g in
      let e = eta-legible v k (Ty.Var zero) tt in
      either-legible (same_name x y) (type_param k) (find g x) (e, type_term-legible v (eta k (Ty.Var zero)) k e) (find-legible g x h)

  -- what is found for a name in a legible environment is legible
  pub found-legible : (g : Env) (x : Name) {s : Sig} {e : Term} → EnvLegible v g → find g x ≡ Some (s, e) → SigLegible v s × TermLegible v e
  found-legible g x h p = subst FoundLegible p (find-legible g x h)

  -- types and values

  -- the result type of an operation is legible
  pub result_type-legible : (o : Op) → TyLegible v (result_type o)
  result_type-legible Op.Add = tt
  result_type-legible Op.Sub = tt
  result_type-legible Op.Mul = tt
  result_type-legible Op.Div = tt
  result_type-legible Op.Rem = tt
  result_type-legible Op.Less = tt
  result_type-legible Op.Equal = tt

  -- the type of a path to a legible module is legible
  pub type_path-legible : {ctx : List Kind} {m : Module} {t : Ty} {k : Kind} → ModuleLegible v m → TypeOfPath ctx m t k → TyLegible v t
  type_path-legible h (TypeOfPath.type_of {ks = ks} (Outside.outside u c n)) = outside-legible v ks c n h.0

  value_of-legible : (f : Effect) (ks : List Kind) (d : Term) (u : Ty) → TermLegible v d → TyLegible v u → TermLegible v (value_of f ks d u)
  value_of-legible Pure ks d u h g = (h, tt)
  value_of-legible Impure ks d u h g = opens-legible v ks d u (Term.Get (Term.Var zero) Label.Val) h g (tt, tt)

  -- the value of a path to a legible module is legible, and so is its type
  pub value_path-legible : {ctx : List Kind} {m : Module} {t : Ty} {e : Term} → ModuleLegible v m → ValueOfPath ctx m t e → TyLegible v t × TermLegible v e
  value_path-legible h (ValueOfPath.value_at {e = f} {ks = ks} {t = t} {d = d} (Outside.outside u c n)) =
      (outside-legible v ks c n h.0, value_of-legible f ks d (enc_abs (Abs.Ex ks (Sig.Val t))) h.2 (enc_abs-legible v (Abs.Ex ks (Sig.Val t)) h.0))

  -- the signature of a path to a legible module is legible
  pub sig_path-legible : {ctx : List Kind} {m : Module} {x : Abs} → ModuleLegible v m → SigOfPath ctx m x → AbsLegible v x
  sig_path-legible h (SigOfPath.sig_of {ks = ks} (SigOutside.outside y c n)) = outside_abs-legible v ks c n h.0

  -- signatures

  applied_all-legible : (ks bs : List Kind) → TypesLegible v (map (applied ks) (own_vars bs))
  applied_all-legible ks [] = tt
  applied_all-legible ks (b ∷ bs) = (applied-legible v ks (Ty.Var (past bs zero)) tt, applied_all-legible ks bs)

  -- the lifted signature of a legible parameter and a legible result is legible
  pub lift-legible : {ctx ks : List Kind} {s : Sig} {x y : Abs} → SigLegible v s → AbsLegible v x → Lift ctx ks s x y → AbsLegible v y
  lift-legible {ks = ks} {s = s} {x = Abs.Ex bs r} h g (lift f) =
      form_abs-legible v f (
        rename_sig-legible v (lifts ks (past bs)) s h,
        substitute_sig-legible v (lifting ks bs) r
            (puts-legible v (map (applied ks) (own_vars bs)) (λ i. Ty.Var (lifts ks (past bs) i)) (applied_all-legible ks bs) (λ i. tt)) g,
      )

  -- the lifted types of legible types are legible
  pub lifted_types-legible : (ks : List Kind) (ts : List Ty) → TypesLegible v ts → TypesLegible v (lifted_types ks ts)
  lifted_types-legible ks [] h = tt
  lifted_types-legible ks (t ∷ ts) h = (lam_over-legible v ks t h.0, lifted_types-legible ks ts h.1)

  -- a legible signature with a hidden type fixed to a legible one is legible
  pub refined-legible : {ctx : List Kind} {x y : Abs} {names : List Name} {u : Ty} {k : Kind} → AbsLegible v x → TyLegible v u → Refined ctx x names u k y
      → AbsLegible v y
  refined-legible h g (Refined.refined before after {s = s} {u = u} e l f) =
      let p = front-legible v (raise before u) Ty.Var (rename-legible v (past before) u g) (λ i. tt) in
      form_sig-legible v f (substitute_sig-legible v (unders after (front (raise before u) Ty.Var)) s
      (unders-legible v after (front (raise before u) Ty.Var) p) h)

  -- modules

  -- the packed term of a legible module is legible
  pub packed-legible : {ctx : List Kind} {m : Module} {d : Term} → ModuleLegible v m → Packed ctx m d → TermLegible v d
  packed-legible h Packed.impure = h.2
  packed-legible h (Packed.pure {x = x} p) = packs-legible v p h.1 h.2 (enc_abs-legible v x h.0)

  -- a projection from a legible module is legible
  pub projected-legible : {ctx : List Kind} {m n : Module} {l : Name} → ModuleLegible v m → Projected ctx m l n → ModuleLegible v n
  projected-legible h (Projected.pure f) = let p = field-legible v None h.0 f in (p.1, h.1, (h.2, p.0))
  projected-legible h (Projected.impure {ks = ks} {fs = fs} {l = l} {s = s} {e = e} {d = d} f q) =
      let p = field-legible v None h.0 f in
      let packed = packs-legible v q (vars-legible v ks) (tt, p.0) (rename-legible v (past ks) (enc_abs (Abs.Ex ks s)) (enc_abs-legible v (Abs.Ex ks s) p.1)) in
      (p.1, tt, opens-legible v ks e (enc_abs (Abs.Ex ks (Sig.Str fs))) d h.2 (enc_abs-legible v (Abs.Ex ks (Sig.Str fs)) h.0) packed)

  -- the term of a functor with a legible parameter and a legible body is legible
  pub functor-legible : (ks : List Kind) (s : Sig) (f : Effect) (e : Term) → SigLegible v s → TermLegible v e
      → TermLegible v (ty_lam_over ks (Term.Lam (enc s) (one_field (result_label f) e)))
  functor-legible ks s f e h g = ty_lam_over-legible v ks (Term.Lam (enc s) (one_field (result_label f) e))
      (enc-legible v s h, one_field-legible v (result_label f) e (result_label-spelled v f) g)

  -- the application of a legible functor to a legible argument is a legible module
  pub applied-module-legible : {ctx ks : List Kind} {f : Effect} {s : Sig} {y : Abs} {ts : List Ty} {c d e : Term} {m : Module}
      → SigLegible v (Sig.Fun f ks s y) → TermLegible v d → TypesLegible v ts → TermLegible v c → TermLegible v e
      → ApplyGives ctx (Sig.Fun f ks s y) d ts c e m → ModuleLegible v m
  applied-module-legible h p q r i (ApplyGives.apply {f = f} {y = y} {ts = ts} {d = d} n) =
      (form_abs-legible v n (abs_at-legible v ts (λ i. i) y q h.1), tt, ((insts-legible v d ts p q, (r, i)), result_label-spelled v f))

  -- a binding and the rest

  substituted-legible : (f : ℕ → Ty) (ts : List Ty) → ((i : ℕ) → TyLegible v (f i)) → TypesLegible v ts → TypesLegible v (map (substitute f) ts)
  substituted-legible f [] a h = tt
  substituted-legible f (t ∷ ts) a h = (substitute-legible v f t a h.0, substituted-legible f ts a h.1)

  -- legible bindings in a row make a legible module
  pub sequence-legible : {ctx : List Kind} {m n whole : Module} → ModuleLegible v m → ModuleLegible v n → Seq ctx m n whole → ModuleLegible v whole
  sequence-legible h g (Seq.both_pure {s = s} {n = n} {ts = ts} {us = us} {ns = ns} f fs i) =
      let a = puts-legible v ts Ty.Var h.1 (λ i. tt) in (
        g.0,
        append-legible v ts ns h.1 (forms-legible v fs (substituted-legible (puts ts Ty.Var) us a g.1)),
        ((enc-legible v n (form_sig-legible v f (sig_at-legible v ts (λ i. i) s h.1 h.0)), instance-legible v a i g.2), h.2),
      )
  sequence-legible h g (Seq.some_impure {ks = ks} {js = js} {s = s} {t = t} {p = p} {q = q} {r = r} j a b c) =
      let both = Abs.Ex (ks ++ js) t in
      let packed = packs-legible v c (vars-legible v ks) (ren_term-legible v same_index _ q (packed-legible g b))
      (rename-legible v (past ks) (enc_abs both) (enc_abs-legible v both g.0)) in
      (g.0, tt, opens-legible v ks p (enc_abs (Abs.Ex ks s)) r (packed-legible h a) (enc_abs-legible v (Abs.Ex ks s) h.0) packed)

  -- a legible term under the fields of a legible structure, bound one by one, is legible
  pub field_lets-legible : (last : Option Label) (i : ℕ) (fs : SigRow) (e : Term) → FieldsLegible v last fs → TermLegible v e
      → TermLegible v (field_lets i fs e)
  field_lets-legible last i SigRow.End e h g = g
  field_lets-legible last i (SigRow.More l s rest) e h g = ((enc-legible v s h.2, field_lets-legible (Some (Label.Name l)) (suc i) rest e h.3 g), (tt, h.1))

  -- what is collected for names in their order in a legible environment is a legible structure
  pub collected-legible : {g : Env} {names : List Name} {fs : SigRow} {es : TermRow} (last : Option Label) → EnvLegible v g → Follow last names
      → NamesRise names → NamesSpelled names → Collected g names fs es → FieldsLegible v last fs × TermRowLegible v last es
  collected-legible last h f r n Collected.none = (tt, tt)
  collected-legible {g} last h f r n (Collected.next {l = l} {names = names} p c) =
      let o = found-legible g l h p in
      let q = collected-legible (Some (Label.Name l)) h (follow-rise l names r.0) r.1 n.1 c in
      ((f, n.0, o.0, q.0), (f, n.0, o.1, q.1))
