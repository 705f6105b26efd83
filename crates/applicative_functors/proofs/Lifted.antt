-- What the code puts together is the lifted signature of the definitions.
-- Main results: is-lifted, functor-made.
use Rattle.std.specs.Prelude.{ℕ, zero, suc, ◌+◌, ◌≤◌, List, [], ◌∷◌, ◌≡◌, length, map, take}
use Rattle.std.proofs.Common.{arith}
use Rattle.std.proofs.Math.Path.{refl, sym, ap, ap₂, subst, subst₂, ◌∙◌, fun_ext}
use Rattle.std.proofs.lemmas.List.{length-map}
use Rattle.omega_kinds.specs.Kind.{Kind}
use Rattle.omega_kinds.specs.View.{kind_tree}
use Rattle.omega_kinds.specs.declared.kind.Kind.{Kind as SharedKind}
use Rattle.omega_kinds.specs.declared.effect.Effect.{Effect}
use Rattle.omega_kinds.specs.declared.effect.Effect.TheVariants.{Pure}
use Rattle.omega_kinds.specs.declared.label.Label.{Label}
use Rattle.omega_types.specs.Ty.{Ty, lift}
use Rattle.omega_types.specs.Index.{bump, shift}
use Rattle.omega_types.specs.Substitution.{rename}
use Rattle.omega_types.specs.Kinding.{here, there}
use Rattle.omega_types.specs.Kinding.HasKind.{k_var}
use Rattle.omega_types.specs.Conversion.Conv.{c_refl}
use Rattle.omega_types.specs.Normalises.{Maps, NormalForm}
use Rattle.omega_types.specs.Binders.{extend, past, lifts, applied, arrow_over, puts, NormalForms}
use Rattle.omega_types.proofs.Algebra.{rename-weaken}
use Rattle.omega_types.proofs.Preservation.{Convertible, conv-rename, normal-rename}
use Rattle.omega_types.proofs.Hereditary.{normal-gives}
use Rattle.omega_types.proofs.BinderLaws.{past-maps, applied-kind}
use Rattle.omega_types.proofs.BinderPuts.{lifts-maps, forms-normal, forms-types, types-forms, types-fit, puts-lifts, puts-convertible, past-plus}
use Rattle.omega_terms.specs.Term.{Term}
use Rattle.omega_terms.specs.Shorthands.{ty_lam_over}
use Rattle.omega_terms.specs.PartTerms.{one_field}
use Rattle.functor_judgments.specs.PureFunctor.{PureFunctorGives}
use Rattle.sig_definitions.specs.Signatures.Encoding.{enc}
use Rattle.sig_definitions.specs.Signatures.Sig.{Sig, Abs, made}
use Rattle.sig_definitions.specs.Signatures.SigSubst.{rename_sig, rename_abs, substitute_sig}
use Rattle.sig_definitions.specs.Signatures.Alike.{NormalSig, NormalAbs, NormalSigForm, IsSigAt, AlikeSig, AlikeAbs}
use Rattle.sig_definitions.specs.Lifting.{lifted_kinds, lifted_types, own_vars, lifting, Lift}
use Rattle.sig_laws.proofs.Algebra.AlikeLaws.{conv-form_sig, form-conv_sig, conv_sig-substitute, normal_sig-form, normal_sig-rename}
use Rattle.sig_laws.proofs.Algebra.SigAlgebra.{substitute-rename_sig}
use Rattle.sig_laws.proofs.LiftLaws.{lifting_maps}
use Rattle.sig_laws.proofs.Encoded.LiftTyping.{lifted-normal}
use Rattle.semantic_sigs.specs.Inner.View.{kinds_of, body_of}
use Rattle.applicative_functors.specs.Inner.LiftedVars.{lifted_var, lifted_vars, Put}

-- a renaming of what is applied

pub rename-applied : (ks : List Kind) (r : ℕ → ℕ) (t : Ty) → rename (lifts ks r) (applied ks t) ≡ applied ks (rename r t)
rename-applied [] r t = refl
rename-applied (k ∷ ks) r t = rename-applied ks (lift r) (Ty.Apply (rename suc t) (Ty.Var zero)) ∙ ap (λ u. applied ks (Ty.Apply u (Ty.Var zero))) (rename-weaken r t)

-- an index raised past some binders, below others

bump-lifts : (by : ℕ) (ks : List Kind) (n : ℕ) → bump by (length ks + n) ≡ lifts ks (bump by n)
bump-lifts by [] n = ap (bump by) (omega arith)
bump-lifts by (k ∷ ks) n = ap (bump by) (omega arith) ∙ bump-lifts by ks (suc n)

pub bump-past : (ks bs : List Kind) → bump (length bs) (length ks) ≡ lifts ks (past bs)
bump-past ks bs = ap (bump (length bs)) (omega arith) ∙ (bump-lifts (length bs) ks zero ∙ ap (lifts ks) (fun_ext (λ i. let e = past-plus bs i in omega (arith, e))))

-- a lifted variable at the parameter's variables

var-form : (ctx ks bs : List Kind) (b : Kind) → NormalForm (extend (extend (arrow_over ks b ∷ ctx) bs) ks) (applied ks (Ty.Var (past bs zero))) b (shift (length bs) (length ks) (lifted_var ks b))
var-form ctx ks bs b =
    let j = arrow_over ks b in
    let f : NormalForm (extend (j ∷ []) ks) (applied ks (Ty.Var zero)) b (lifted_var ks b) = normal-gives (applied-kind ks (k_var here)) in
    let m : Maps (extend (j ∷ []) ks) (extend (extend (j ∷ ctx) bs) ks) (lifts ks (past bs)) = lifts-maps ks only in
    subst (λ r. NormalForm (extend (extend (j ∷ ctx) bs) ks) (applied ks (Ty.Var (past bs zero))) b (rename r (lifted_var ks b))) (sym (bump-past ks bs))
    (subst (λ t. NormalForm (extend (extend (j ∷ ctx) bs) ks) t b (rename (lifts ks (past bs)) (lifted_var ks b))) (rename-applied ks (past bs) (Ty.Var zero))
    (normal-rename (lifts ks (past bs)) m f.0, conv-rename (lifts ks (past bs)) m f.1))
  where
    only : Maps (arrow_over ks b ∷ []) (extend (arrow_over ks b ∷ ctx) bs) (past bs)
    only _ _ here = past-maps bs (arrow_over ks b ∷ ctx) zero (arrow_over ks b) here
    only _ _ (there x) = elim x [ ]

-- the kinds of the variables after one do not depend on its own
pub vars-form : (ctx ks bs : List Kind) (js : List Kind) → js ≡ lifted_kinds ks bs → NormalForms (extend (extend ctx js) ks) (map (applied ks) (own_vars bs)) bs (lifted_vars ks bs)
vars-form ctx ks [] js e = NormalForms.none
vars-form ctx ks (b ∷ bs) js e =
    subst (λ z. NormalForms (extend (extend ctx z) ks) (map (applied ks) (own_vars (b ∷ bs))) (b ∷ bs) (lifted_vars ks (b ∷ bs))) (sym e)
    (NormalForms.next head (vars-form (arrow_over ks b ∷ ctx) ks bs (lifted_kinds ks bs) refl))
  where
    past-lifted : (cs : List Kind) (i : ℕ) → past (lifted_kinds ks cs) i ≡ past cs i
    past-lifted [] i = refl
    past-lifted (c ∷ cs) i = past-lifted cs (suc i)

    same-length : (cs : List Kind) → length (lifted_kinds ks cs) ≡ length cs
    same-length [] = refl
    same-length (c ∷ cs) = ap suc (same-length cs)

    head : NormalForm (extend (extend (arrow_over ks b ∷ ctx) (lifted_kinds ks bs)) ks) (applied ks (Ty.Var (past bs zero))) b (shift (length bs) (length ks) (lifted_var ks b))
    head =
        let f = var-form ctx ks (lifted_kinds ks bs) b in
        subst (λ n. NormalForm (extend (extend (arrow_over ks b ∷ ctx) (lifted_kinds ks bs)) ks) (applied ks (Ty.Var (past bs zero))) b (shift n (length ks) (lifted_var ks b))) (same-length bs)
        (subst (λ i. NormalForm (extend (extend (arrow_over ks b ∷ ctx) (lifted_kinds ks bs)) ks) (applied ks (Ty.Var i)) b (shift (length (lifted_kinds ks bs)) (length ks) (lifted_var ks b))) (past-lifted bs zero) f)

-- the result at these types is the lifted result

result-form : (ctx ks bs : List Kind) (r target : Sig) → NormalSig (extend (extend ctx ks) bs) r
    → IsSigAt (extend (extend ctx (lifted_kinds ks bs)) ks) (rename_sig (lifts bs (lifts ks (past bs))) r) (lifted_vars ks bs) target
    → NormalSigForm (extend (extend ctx (lifted_kinds ks bs)) ks) (substitute_sig (lifting ks bs) r) target
result-form ctx ks bs r target n at =
    let C = extend (extend ctx (lifted_kinds ks bs)) ks in
    let ns = lifted_vars ks bs in
    let outer : ℕ → Ty = λ i. Ty.Var (lifts ks (past bs) i) in
    let f : NormalForms C (map (applied ks) (own_vars bs)) bs ns = vars-form ctx ks bs (lifted_kinds ks bs) refl in
    let e : substitute_sig (puts ns Ty.Var) (rename_sig (lifts bs (lifts ks (past bs))) r) ≡ substitute_sig (puts ns outer) r =
    substitute-rename_sig (puts ns Ty.Var) (lifts bs (lifts ks (past bs))) r ∙ ap (λ g. substitute_sig g r) (puts-lifts (types-fit (forms-types f)) Ty.Var (lifts ks (past bs))) in
    let c : Convertible (extend (extend ctx ks) bs) C (lifting ks bs) (puts ns outer) = puts-convertible f (λ i k x. c_refl (k_var (lifting_maps ctx ks bs i k x))) in
    conv-form_sig (conv_sig-substitute (lifting ks bs) (puts ns outer) c (form-conv_sig (normal_sig-form (extend (extend ctx ks) bs) r n)))
    (subst (λ x. NormalSigForm C x target) e at)

-- the whole

-- the call that puts them in

-- the body raised past the lifted types, with each hidden type put in as a lifted one applied, as the code has it
pub put-given : (body raised : Abs) (ks hidden : List Kind) (outer count : List SharedKind) (types put : List Ty) (s : Sig)
    → map kind_tree outer ≡ ks → map kind_tree count ≡ hidden
    → raised ≡ rename_abs (bump (length count) (length outer)) body → types ≡ lifted_vars ks hidden → put ≡ types
    → Put raised put s → Put (rename_abs (bump (length hidden) (length ks)) body) (lifted_vars ks hidden) s
put-given body raised ks hidden outer count types put s eo ec er et ep h =
    subst (λ z. Put z (lifted_vars ks hidden) s) (er ∙ ap (λ g. rename_abs g body) (lengths count outer ec eo))
    (subst (λ z. Put raised z s) (ep ∙ et) h)
  where
    counted : (items : List SharedKind) (ks : List Kind) → map kind_tree items ≡ ks → length items ≡ length ks
    counted items ks e = sym (length-map items kind_tree) ∙ ap length e

    lengths : (items others : List SharedKind) {ks js : List Kind} → map kind_tree items ≡ ks → map kind_tree others ≡ js → bump (length items) (length others) ≡ bump (length ks) (length js)
    lengths items others {ks} {js} e f = ap₂ bump (counted items ks e) (counted others js f)

whole : (ctx ks bs : List Kind) (param r target : Sig) → NormalSig (extend ctx ks) param → NormalSig (extend (extend ctx ks) bs) r
    → Put (rename_abs (lifts ks (past bs)) (Abs.Ex bs r)) (lifted_vars ks bs) target
    → Lift ctx ks param (Abs.Ex bs r) (Abs.Ex (lifted_kinds ks bs) (Sig.Fun Pure ks (rename_sig (lifts ks (past bs)) param) (Abs.Ex [] target)))
whole ctx ks bs param r target np nb at =
    let C = extend (extend ctx (lifted_kinds ks bs)) ks in
    let m = lifting_maps ctx ks bs in
    let f = vars-form ctx ks bs (lifted_kinds ks bs) refl in
    let n : NormalSig C (rename_sig (lifts ks (past bs)) param) = normal_sig-rename (lifts ks (past bs)) m param np in
    let q : NormalSig (extend C bs) (rename_sig (lifts bs (lifts ks (past bs))) r) = normal_sig-rename (lifts bs (lifts ks (past bs))) (lifts-maps bs m) r nb in
    let put = result-form ctx ks bs r target nb (at C q (forms-normal f)) in
    Lift.lift (AlikeAbs.ex (AlikeSig.fun (normal_sig-form C (rename_sig (lifts ks (past bs)) param) n) (AlikeAbs.ex put)))

-- what the code puts together is the lifted signature of the parameter and the body
pub is-lifted : (ks hidden js : List Kind) (param target functor : Sig) (body y : Abs)
    → hidden ≡ kinds_of body
    → Put (rename_abs (bump (length hidden) (length ks)) body) (lifted_vars ks hidden) target
    → functor ≡ Sig.Fun Pure ks (rename_sig (bump (length hidden) (length ks)) param) (Abs.Ex [] target)
    → js ≡ lifted_kinds ks hidden
    → y ≡ Abs.Ex js functor
    → (ctx : List Kind) → NormalSig (extend ctx ks) param → NormalAbs (extend ctx ks) body → Lift ctx ks param body y
is-lifted ks hidden js param target functor (Abs.Ex bs r) y eh at ef ej ey ctx np nb =
    subst (Lift ctx ks param (Abs.Ex bs r)) (sym made)
    (whole ctx ks bs param r target np nb
    (subst (λ g. Put (rename_abs g (Abs.Ex bs r)) (lifted_vars ks bs) target) (bump-past ks bs)
    (subst (λ z. Put (rename_abs (bump (length z) (length ks)) (Abs.Ex bs r)) (lifted_vars ks z) target) eh at)))
  where
    made : y ≡ Abs.Ex (lifted_kinds ks bs) (Sig.Fun Pure ks (rename_sig (lifts ks (past bs)) param) (Abs.Ex [] target))
    made =
        ey ∙ (ap₂ Abs.Ex ej ef
        ∙ (ap (λ z. Abs.Ex (lifted_kinds ks z) (Sig.Fun Pure ks (rename_sig (bump (length z) (length ks)) param) (Abs.Ex [] target))) eh
        ∙ ap (λ g. Abs.Ex (lifted_kinds ks bs) (Sig.Fun Pure ks (rename_sig g param) (Abs.Ex [] target))) (bump-past ks bs)))

-- the witnesses

pub witnesses-normal : (ks : List Kind) (types ts : List Ty) → ts ≡ lifted_types ks types → (ctx hidden : List Kind) → NormalForms (extend ctx ks) types hidden types → NormalForms ctx ts (lifted_kinds ks hidden) ts
witnesses-normal ks types ts e ctx hidden f = subst (λ z. NormalForms ctx z (lifted_kinds ks hidden) z) (sym e) (types-forms (lifted-normal ks (forms-types f)))

-- the lifted types, when all are made, are normal and have the lifted kinds
pub witnesses-end : (ks : List Kind) (types ts : List Ty) (i : ℕ) → length types ≤ i → ts ≡ lifted_types ks (take i types) → (ctx hidden : List Kind) → NormalForms (extend ctx ks) types hidden types → NormalForms ctx ts (lifted_kinds ks hidden) ts
witnesses-end ks types ts i le e = witnesses-normal ks types ts (e ∙ ap (lifted_types ks) (all types i le))
  where
    all : (xs : List Ty) (i : ℕ) → length xs ≤ i → take i xs ≡ xs
    all [] zero le = refl
    all [] (suc i) le = refl
    all (x ∷ xs) zero le = absurd (omega (arith, le))
    all (x ∷ xs) (suc i) le = ap (λ l. x ∷ l) (all xs i (omega arith))

-- the functor

-- an applicative functor of a pure body is made of the lifted signature, the lifted types and the function
pub functor-made : (eff : Effect) (param y z : Abs) (ks : List Kind) (s source : Sig) (ts us types : List Ty) (e result function term : Term) (from : Ty)
    → ks ≡ kinds_of param → s ≡ body_of param → source ≡ body_of param
    → result ≡ one_field Label.App e → from ≡ enc s → function ≡ Term.Lam from result → term ≡ ty_lam_over ks function
    → us ≡ lifted_types ks types → types ≡ ts
    → ((ctx : List Kind) → NormalSig (extend ctx ks) source → NormalAbs (extend ctx ks) y → Lift ctx ks source y z)
    → (ctx : List Kind) → eff ≡ Pure → NormalAbs ctx param → NormalAbs (extend ctx (kinds_of param)) y
    → PureFunctorGives ctx (kinds_of param) (body_of param) (made eff y ts e) (made Pure z us term)
functor-made eff (Abs.Ex is r) y z ks s source ts us types e result function term from ek es eq er ef en et eu ey lifts ctx ee np nb =
    subst (λ o. PureFunctorGives ctx is r (made o y ts e) (made Pure z us term)) (sym ee)
    (subst₂ (λ u t. PureFunctorGives ctx is r (made Pure y ts e) (made Pure z u t)) (sym witnesses) (sym whole-term) (PureFunctorGives.pure_functor lift-given))
  where
    witnesses : us ≡ lifted_types is ts
    witnesses = eu ∙ ap₂ lifted_types ek ey

    whole-term : term ≡ ty_lam_over is (Term.Lam (enc r) (one_field Label.App e))
    whole-term = et ∙ ap₂ ty_lam_over ek (en ∙ ap₂ Term.Lam (ef ∙ ap enc es) er)

    lift-given : Lift ctx is r y z
    lift-given =
        subst₂ (λ js q. Lift ctx js q y z) ek eq
        (lifts ctx (subst₂ (λ js q. NormalSig (extend ctx js) q) (sym ek) (sym eq) np) (subst (λ js. NormalAbs (extend ctx js) y) (sym ek) nb))
