-- A signature with one of its hidden types fixed exists, and there is only one.
-- Main results: refined-one.
use Rattle.std.specs.Prelude.{List, ◌∷◌, ◌++◌, ◌≡◌}
use Rattle.std.proofs.Math.Path.{sym, subst}
use Rattle.omega_kinds.specs.Kind.{Kind}
use Rattle.omega_types.specs.Ty.{Ty}
use Rattle.omega_types.specs.Kinding.{HasKind, here, there}
use Rattle.omega_types.specs.Kinding.HasKind.{k_var}
use Rattle.omega_types.specs.Binders.{extend, past, unders, raise, front}
use Rattle.omega_types.proofs.Preservation.{Substitutes, kind-rename}
use Rattle.sig_premise_laws.proofs.Determined.{put_sig-one}
use Rattle.sig_definitions.specs.Signatures.Sig.{Sig}
use Rattle.sig_definitions.specs.Signatures.SigSubst.{substitute_sig}
use Rattle.sig_definitions.specs.Signatures.Alike.{NormalSig, NormalSigForm}
use Rattle.sig_laws.proofs.Algebra.BinderLaws.{extend-append}
use Rattle.sig_definitions.specs.Verdict.{One}
use Rattle.omega_types.proofs.BinderLaws.{past-maps}
use Rattle.omega_types.proofs.BinderPuts.{unders-substitutes}

-- where type
front-substitutes : (ctx before : List Kind) (k : Kind) (u : Ty) → HasKind ctx u k → Substitutes (k ∷ extend ctx before) (extend ctx before) (front (raise before u) Ty.Var)
front-substitutes ctx before k u h _ _ here = kind-rename (past before) (past-maps before ctx) h
front-substitutes ctx before k u h _ _ (there x) = k_var x

refining : (ctx before after : List Kind) (k : Kind) (u : Ty) → HasKind ctx u k → Substitutes (extend ctx (before ++ (k ∷ after))) (extend ctx (before ++ after)) (unders after (front (raise before u) Ty.Var))
refining ctx before after k u h =
    let s = unders after (front (raise before u) Ty.Var) in
    subst (λ c. Substitutes c (extend ctx (before ++ after)) s) (sym (extend-append before (k ∷ after) ctx))
    (subst (λ c. Substitutes (extend (k ∷ extend ctx before) after) c s) (sym (extend-append before after ctx))
    (unders-substitutes after (front-substitutes ctx before k u h)))

-- a normal signature with a type put in for one of its hidden types has exactly one normal form
pub refined-one : (ctx before after ks : List Kind) (k : Kind) (u : Ty) (s : Sig) → ks ≡ before ++ (k ∷ after) → HasKind ctx u k → NormalSig (extend ctx ks) s → One (λ n. NormalSigForm (extend ctx (before ++ after)) (substitute_sig (unders after (front (raise before u) Ty.Var)) s) n)
refined-one ctx before after ks k u s e h n = put_sig-one s (refining ctx before after k u h) (subst (λ ls. NormalSig (extend ctx ls) s) e n)
