-- The rules of phrases with content, each as a step from good parts to a good whole.
-- Main results: refined-good, join-decls, generative-good.
use Rattle.std.specs.Prelude.{ℕ, suc, List, [], ◌∷◌, ◌++◌, ◌≡◌}
use Rattle.std.proofs.Math.Path.{sym, ◌∙◌, ap, subst}
use Rattle.omega_kinds.specs.Kind.{Kind}
use Rattle.omega_kinds.specs.declared.label.Label.{Label}
use Rattle.omega_kinds.specs.declared.effect.Effect.{Effect}
use Rattle.omega_kinds.specs.declared.effect.Effect.TheVariants.{Pure, Impure}
use Rattle.omega_kinds.specs.Name.{Name}
use Rattle.omega_types.specs.Ty.{Ty, Row}
use Rattle.omega_types.specs.Binders.{extend, past, unders, raise, front, puts}
use Rattle.omega_types.specs.Normaliser.{normal}
use Rattle.omega_types.specs.Normality.Normal.{n_arrow}
use Rattle.omega_types.proofs.BinderPuts.{past-maps, form-is}
use Rattle.omega_terms.specs.Term.{Term}
use Rattle.omega_terms.specs.Typing.{At, HasPart}
use Rattle.omega_terms.specs.Shorthands.{ty_lam_over, insts}
use Rattle.omega_terms.specs.Coercions.{result_label}
use Rattle.omega_terms.specs.PartTerms.{one_field}
use Rattle.omega_terms.proofs.NormalTyping.{Typed, TypedFields, cast, typed-more}
use Rattle.omega_terms.proofs.NormalInstance.{form_at, shifts}
use Rattle.omega_terms.proofs.TypedShorthands.{typed-let, typed-ty_lam_over, typed-insts}
use Rattle.sig_definitions.specs.Signatures.Sig.{Sig, Abs, SigRow, HasField, Module, made}
use Rattle.sig_definitions.specs.Signatures.SigSubst.{raise_sig_row, abs_at}
use Rattle.sig_definitions.specs.Signatures.Alike.{AlikeAbs, NormalAbsForm, NormalSigRow}
use Rattle.sig_definitions.specs.Signatures.Encoding.{enc, enc_abs}
use Rattle.sig_definitions.specs.Matching.Subtyping.{Match}
use Rattle.sig_definitions.specs.Packing.{Packed}
use Rattle.sig_definitions.specs.Lifting.{Lift, lifted_types}
use Rattle.sig_definitions.specs.Signatures.FieldOrder.{merge, with_names}
use Rattle.sig_definitions.specs.Env.{Env, kinds, types, with_module, type_vars, named_fields}
use Rattle.sig_laws.proofs.Encoded.EncodingTyping.{ShapeRow, Hides, shape-substitute, shape-alike, shape_abs-substitute, shape_abs-alike, shape_abs-unalike, shape_abs-unrename, shape_row-rename, enc-normal, enc_abs-normal, enc_abs-form, Good, GoodAbs, good-normal, enc-field, one_part-normal}
use Rattle.sig_laws.proofs.Encoded.CoercionTyping.{match-typed}
use Rattle.sig_laws.proofs.Encoded.LiftTyping.{lifted-normal, lift-typed}
use Rattle.sig_laws.proofs.Encoded.EnvTyping.{types-type_vars, kinds-named_fields, types-named_fields, field_vars}
use Rattle.sig_definitions.specs.Signatures.RecordOrder.{AreNew}
use Rattle.module_judgments.specs.PathUse.{SigOutside, SigOfPath}
use Rattle.sig_judgments.specs.Refinement.{Refined}
use Rattle.module_judgments.specs.Sequence.{field_lets}
use Rattle.elab_laws.proofs.ModuleTyping.{GoodModule, plain-module, packed-typed, module-good}
use Rattle.elab_laws.proofs.FieldLaws.{normal-merge, shape-merge, apart-rename, NoFields, no_fields-joined, with_names-no_fields}
use Rattle.omega_types.proofs.BinderLaws.{extend-append}
use Rattle.sig_laws.proofs.Encoded.EncodingLaws.{enc_abs-substitute}
use Rattle.sig_laws.proofs.Algebra.AlikeLaws.{form_sig-normal, form_abs-normal, normal_row-rename}
use Rattle.sig_laws.proofs.Algebra.FormLaws.{kinds-type_vars}
use Rattle.sig_laws.proofs.Algebra.PathLaws.{field-not}

-- the body of a good signature that hides types is good
pub good-body : {ctx ks : List Kind} {s : Sig} → GoodAbs ctx (Abs.Ex ks s) → Good (extend ctx ks) s
good-body g = record { normal = g.normal; shape = g.shape }

-- a module under a functor's parameter or after a binding
pub in-module : {M : Module} (s : Sig) (g : Env) (ks : List Kind) (x : Name) → GoodModule (kinds (with_module g ks x s)) (types (with_module g ks x s)) M → GoodModule (extend (kinds g) ks) (enc s ∷ shifts ks (types g)) M
in-module {M} s g ks x m =
    subst (λ c. GoodModule c (enc s ∷ shifts ks (types g)) M) (kinds-type_vars g ks)
    (subst (λ v. GoodModule (kinds (type_vars g ks)) (enc s ∷ v) M) (types-type_vars g ks) m)

-- signatures of paths
-- the signature of a path to a good module is good
pub path-sig : {ctx : List Kind} {vs : List Ty} {M : Module} {x : Abs} → GoodModule ctx vs M → SigOfPath ctx M x → GoodAbs ctx x
path-sig m (SigOfPath.sig_of {ks = ks} (SigOutside.outside y c f)) =
    record { normal = form_abs-normal f; shape = shape_abs-alike f (shape_abs-unrename (past ks) y (shape_abs-unalike c (module-good m).shape)) }

-- a good signature with a type fixed is good
pub refined-good : {ctx : List Kind} {x y : Abs} {names : List Name} {u : Ty} {k : Kind} → GoodAbs ctx x → Refined ctx x names u k y → GoodAbs ctx y
refined-good g (Refined.refined before after {s = s} {u = u} e p f) =
    record { normal = form_sig-normal f; shape = shape-alike f (shape-substitute (unders after (front (raise before u) Ty.Var)) s g.shape) }

-- declarations
pub data GoodDecls (ctx : List Kind) (before : List Name) : Abs → Type 0 where
  decls : {ks : List Kind} {fs : SigRow} → Good (extend ctx ks) (Sig.Str fs) → NoFields before fs → GoodDecls ctx before (Abs.Ex ks (Sig.Str fs))

-- the signature of good declarations is good
pub decls-sig : {ctx : List Kind} {before : List Name} {x : Abs} → GoodDecls ctx before x → GoodAbs ctx x
decls-sig (GoodDecls.decls g n) = record { normal = g.normal; shape = g.shape }

-- a good declaration before good ones, of names that are new, makes good declarations
pub join-decls : {ctx ks js : List Kind} {before : List Name} {fs gs : SigRow} → GoodAbs ctx (Abs.Ex ks (Sig.Str fs)) → AreNew fs before → GoodDecls (extend ctx ks) (with_names fs before) (Abs.Ex js (Sig.Str gs)) → GoodDecls ctx before (Abs.Ex (ks ++ js) (Sig.Str (merge (raise_sig_row js fs) gs)))
join-decls {ctx} {ks} {js} {before} {fs} {gs} g new (GoodDecls.decls h none) =
    let r : ℕ → ℕ = past js in
    let n : NormalSigRow (extend (extend ctx ks) js) (merge (raise_sig_row js fs) gs) = normal-merge (extend (extend ctx ks) js) (raise_sig_row js fs) gs (normal_row-rename r (past-maps (extend ctx ks) js) fs g.normal) h.normal in
    let s : ShapeRow (merge (raise_sig_row js fs) gs) = shape-merge (raise_sig_row js fs) gs (shape_row-rename r fs g.shape) h.shape (apart-rename r fs gs (with_names-no_fields fs before gs none).0) in
    GoodDecls.decls (record { normal = subst (λ c. NormalSigRow c (merge (raise_sig_row js fs) gs)) (sym (extend-append ctx ks js)) n; shape = s })
    (no_fields-joined r before fs gs new none)

-- functors
-- an applicative functor with a good parameter and a good body is a good module
pub applicative-good : {ctx ks bs : List Kind} {vs ts : List Ty} {s r : Sig} {z : Abs} {e : Term} → Good (extend ctx ks) s → GoodModule (extend ctx ks) (enc s ∷ shifts ks vs) (made Pure (Abs.Ex bs r) ts e) → Lift ctx ks s (Abs.Ex bs r) z → GoodModule ctx vs (made Pure z (lifted_types ks ts) (ty_lam_over ks (Term.Lam (enc s) (one_field Label.App e))))
applicative-good {ctx} {ks} {vs = vs} {ts = ts} {s = s} {e = e} g (GoodModule.pure h n d) l =
    let L = lift-typed n g h l in
    subst (λ z. GoodModule ctx vs (made Pure z (lifted_types ks ts) (ty_lam_over ks (Term.Lam (enc s) (one_field Label.App e))))) (sym L.is)
    (GoodModule.pure L.good (lifted-normal ks n) (cast (sym L.given) (typed-ty_lam_over ks (Typed.lam (good-normal g) (Typed.fields (TypedFields.more d tt TypedFields.end))))))

-- a generative functor with a good parameter and a good body is a good module
pub generative-good : {ctx ks bs : List Kind} {vs ts : List Ty} {s r : Sig} {f : Effect} {d e : Term} → Good (extend ctx ks) s → GoodModule (extend ctx ks) (enc s ∷ shifts ks vs) (made f (Abs.Ex bs r) ts e) → Packed (extend ctx ks) (made f (Abs.Ex bs r) ts e) d → GoodModule ctx vs (made Pure (Abs.Ex [] (Sig.Fun Impure ks s (Abs.Ex bs r))) [] (ty_lam_over ks (Term.Lam (enc s) (one_field Label.Gen d))))
generative-good {ks = ks} g m p =
    plain-module (record { normal = (g.normal, (module-good m).normal); shape = (g.shape, (module-good m).shape, tt) })
    (typed-ty_lam_over ks (Typed.lam (good-normal g) (Typed.fields (TypedFields.more (packed-typed m p) tt TypedFields.end))))

-- application
-- the application of a good functor to a good argument that matches is a good module
pub apply-good : {ctx ks : List Kind} {vs ts : List Ty} {f : Effect} {s t : Sig} {y w : Abs} {c d e : Term} → Good ctx (Sig.Fun f ks s y) → Typed ctx vs d (enc (Sig.Fun f ks s y)) → Good ctx t → Typed ctx vs e (enc t) → Match ctx t (Abs.Ex ks s) ts c → NormalAbsForm ctx (abs_at ts y) w → GoodModule ctx vs (made f w [] (Term.Get (Term.Call (insts d ts) (Term.Call c e)) (result_label f)))
apply-good {ctx} {ks} {vs} {ts} {f} {s} {t} {y} {w} {c} {d} {e} g hd i he m n = by_effect f y w g.shape.2 n good typed
  where
    good : GoodAbs ctx w
    good = record { normal = form_abs-normal n; shape = shape_abs-alike n (shape_abs-substitute (puts ts Ty.Var) y g.shape.1) }

    body : Good (extend ctx ks) s
    body = record { normal = g.normal.0; shape = g.shape.0 }

    typed : Typed ctx vs (Term.Get (Term.Call (insts d ts) (Term.Call c e)) (result_label f)) (enc_abs w)
    typed =
        let M = match-typed i body m in
        let function = typed-insts M.found (n_arrow (good-normal body) (one_part-normal (result_label f) (enc_abs-normal y g.normal.1 g.shape.1))) hd in
        let same : form_at ctx (puts ts Ty.Var) (enc_abs y) ≡ enc_abs w = ap (normal ctx) (sym (enc_abs-substitute (puts ts Ty.Var) y)) ∙ sym (form-is (enc_abs-form n (shape_abs-substitute (puts ts Ty.Var) y g.shape.1))) in
        cast same (Typed.get (Typed.call function (Typed.call (typed-more vs M.typed) he)) HasPart.here)

    by_effect : (f : Effect) (y w : Abs) {a : Term} → Hides f y → NormalAbsForm ctx (abs_at ts y) w → GoodAbs ctx w → Typed ctx vs a (enc_abs w) → GoodModule ctx vs (made f w [] a)
    by_effect Impure y (Abs.Ex js r) h a b k = GoodModule.impure (good-body b) k
    by_effect Pure (Abs.Ex [] r) _ h (AlikeAbs.ex a) b k = plain-module (good-body b) k
    by_effect Pure (Abs.Ex (j ∷ js) r) w h a b k = absurd h

-- the lets of an included module

lets-typed : {ctx : List Kind} {vs : List Ty} {row : Row} {d : Term} {T : Ty} (fs : SigRow) (i : ℕ) → NormalSigRow ctx fs → ShapeRow fs → At vs i (Ty.Fields row) → ((l : Name) (s : Sig) → HasField fs l s → HasPart row (Label.Name l) (enc s)) → Typed ctx (field_vars fs vs) d T → Typed ctx vs (field_lets i fs d) T
lets-typed SigRow.End i n h a p t = t
lets-typed (SigRow.More l s rest) i n h a p t =
    typed-let (enc-normal s n.0 h.1) (Typed.get (Typed.var a) (p l s HasField.here))
    (lets-typed rest (suc i) n.1 h.2 (At.there a) (λ m u f. p m u (HasField.there (field-not f h.0) f)) t)

-- a module under the fields of a structure, bound one by one, is good under the structure
pub lets-good : {ctx : List Kind} {vs us : List Ty} {f : Effect} {y : Abs} {d : Term} (fs : SigRow) → Good ctx (Sig.Str fs) → GoodModule ctx (field_vars fs (enc (Sig.Str fs) ∷ vs)) (made f y us d) → GoodModule ctx (enc (Sig.Str fs) ∷ vs) (made f y us (field_lets 0 fs d))
lets-good fs g (GoodModule.pure h n t) = GoodModule.pure h n (lets-typed fs 0 g.normal g.shape At.here (λ l s f. enc-field f) t)
lets-good fs g (GoodModule.impure h t) = GoodModule.impure h (lets-typed fs 0 g.normal g.shape At.here (λ l s f. enc-field f) t)

-- the module after an include is good in the context of the included structure and its fields
pub in-include : {M : Module} (g : Env) (ks : List Kind) (x : Name) (fs : SigRow) → GoodModule (kinds (named_fields (with_module g ks x (Sig.Str fs)) fs)) (types (named_fields (with_module g ks x (Sig.Str fs)) fs)) M → GoodModule (extend (kinds g) ks) (field_vars fs (enc (Sig.Str fs) ∷ shifts ks (types g))) M
in-include {M} g ks x fs m =
    let h = with_module g ks x (Sig.Str fs) in
    subst (λ c. GoodModule c (field_vars fs (enc (Sig.Str fs) ∷ shifts ks (types g))) M) (kinds-named_fields h fs ∙ kinds-type_vars g ks)
    (subst (λ v. GoodModule (kinds (named_fields h fs)) v M) (types-named_fields h fs ∙ ap (λ v. field_vars fs (enc (Sig.Str fs) ∷ v)) (types-type_vars g ks)) m)
