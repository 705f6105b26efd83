-- Lists of types put in for binders' variables, and normal forms of what comes out.
-- Main results: at-substitutes, under-at-substitutes, at-raise_sig, at-raise_abs.
use Rattle.omega_types.proofs.BinderPuts.{NormalTypes, vars-substitutes, puts-substitutes, puts-convertible, vars-convertible}
use Rattle.omega_types.proofs.BinderPuts.NormalTypes.{none, next}
use Rattle.std.specs.Prelude.{ℕ, suc, List, [], ◌∷◌, ◌≡◌, length}
use Rattle.std.proofs.Common.{arith}
use Rattle.std.proofs.Math.Path.{refl, ◌∙◌, ap, fun_ext}
use Rattle.omega_kinds.specs.Kind.{Kind}
use Rattle.omega_types.specs.Ty.{Ty}
use Rattle.omega_types.specs.Kinding.HasKind.{k_var}
use Rattle.omega_types.specs.Normaliser.{normal}
use Rattle.omega_types.specs.Binders.{extend, past, puts, OfKinds, NormalForms}
use Rattle.omega_types.proofs.Preservation.{Substitutes}
use Rattle.omega_types.proofs.Hereditary.{normal-gives}
use Rattle.sig_definitions.specs.Signatures.Sig.{Sig, Abs}
use Rattle.sig_definitions.specs.Signatures.SigSubst.{substitute_sig, substitute_abs, raise_sig, raise_abs, sig_at, abs_at}
use Rattle.sig_definitions.specs.Signatures.Alike.{ConvSig, NormalSigForm}
use Rattle.sig_laws.proofs.Algebra.BinderLaws.{puts-past, past-length}
use Rattle.sig_laws.proofs.Algebra.SigAlgebra.{substitute-rename_sig, substitute-rename_abs, substitute_sig-id, substitute_abs-id}
use Rattle.sig_laws.proofs.Algebra.AlikeLaws.{conv_sig-sym, conv-form_sig, conv_sig-substitute}
use Rattle.sig_laws.proofs.Algebra.EtaLaws.{some_type, some_type-normal}
use Rattle.omega_types.proofs.BinderLaws.{past-maps}

-- lists of normal types

-- each list of types has normal forms
pub normals_of : {ctx : List Kind} {ts : List Ty} {ks : List Kind} → OfKinds ctx ts ks → (ns : List Ty) × NormalForms ctx ts ks ns
normals_of OfKinds.none = ([], NormalForms.none)
normals_of {ctx} (OfKinds.next {t = t} h hs) = let q = normals_of hs in (normal ctx t ∷ q.0, NormalForms.next (normal-gives h) q.1)

-- types of any kinds
pub some_types : List Kind → List Ty
some_types [] = []
some_types (k ∷ ks) = some_type k ∷ some_types ks

-- closed types chosen for a list of kinds are normal
pub some_types-normal : (ctx ks : List Kind) → NormalTypes ctx (some_types ks) ks
unfolding some_types
some_types-normal ctx [] = none
some_types-normal ctx (k ∷ ks) = next (some_type-normal ctx k) (some_types-normal ctx ks)

-- types of given kinds are as many as the kinds
pub kinds-length : {ctx : List Kind} {ts : List Ty} {ks : List Kind} → OfKinds ctx ts ks → length ts ≡ length ks
kinds-length OfKinds.none = refl
kinds-length (OfKinds.next h hs) = ap suc (kinds-length hs)

-- putting them in

-- raising past binders puts each variable to one of its kind
pub past-substitutes : (ks ctx : List Kind) → Substitutes ctx (extend ctx ks) (λ i. Ty.Var (past ks i))
past-substitutes ks ctx i k x = k_var (past-maps ks ctx i k x)

-- types put in for the binders' variables are a substitution from under the binders to outside
pub at-substitutes : {ctx : List Kind} {ts : List Ty} {ks : List Kind} → OfKinds ctx ts ks → Substitutes (extend ctx ks) ctx (puts ts Ty.Var)
at-substitutes {ctx} h = puts-substitutes h (vars-substitutes ctx)

-- types that stand under further binders, put in for the binders' variables, are a substitution to under these
pub under-at-substitutes : {ts : List Ty} {ks : List Kind} (ctx js : List Kind) → OfKinds (extend ctx js) ts ks → Substitutes (extend ctx ks) (extend ctx js) (puts ts (λ i. Ty.Var (past js i)))
under-at-substitutes ctx js h = puts-substitutes h (past-substitutes js ctx)

-- the normal forms of types do as well as these
pub guess-form : {ctx : List Kind} {guess ts : List Ty} {ks : List Kind} {t r : Sig} → NormalForms ctx guess ks ts → ConvSig (extend ctx ks) t t → NormalSigForm ctx (sig_at guess t) r → NormalSigForm ctx (sig_at ts t) r
guess-form {ctx} {guess} {ts} g c f = conv-form_sig (conv_sig-sym (conv_sig-substitute (puts guess Ty.Var) (puts ts Ty.Var) (puts-convertible g (vars-convertible ctx)) c)) f

-- what is raised past the binders is not touched

pub puts-raise_sig : (ks : List Kind) (ts : List Ty) (f : ℕ → Ty) (s : Sig) → length ts ≡ length ks → substitute_sig (puts ts f) (raise_sig ks s) ≡ substitute_sig f s
puts-raise_sig ks ts f s e = substitute-rename_sig (puts ts f) (past ks) s ∙ ap (λ g. substitute_sig g s) (fun_ext (λ i. puts-past ts f i (past ks i) (let g = past-length ks i in omega arith)))

pub puts-raise_abs : (ks : List Kind) (ts : List Ty) (f : ℕ → Ty) (x : Abs) → length ts ≡ length ks → substitute_abs (puts ts f) (raise_abs ks x) ≡ substitute_abs f x
puts-raise_abs ks ts f x e = substitute-rename_abs (puts ts f) (past ks) x ∙ ap (λ g. substitute_abs g x) (fun_ext (λ i. puts-past ts f i (past ks i) (let g = past-length ks i in omega arith)))

-- a signature raised past binders, at types for their variables, is the signature itself
pub at-raise_sig : (ks : List Kind) (ts : List Ty) (s : Sig) → length ts ≡ length ks → sig_at ts (raise_sig ks s) ≡ s
at-raise_sig ks ts s e = puts-raise_sig ks ts Ty.Var s e ∙ substitute_sig-id s

-- a signature that hides types raised past binders, at types for their variables, is the signature itself
pub at-raise_abs : (ks : List Kind) (ts : List Ty) (x : Abs) → length ts ≡ length ks → abs_at ts (raise_abs ks x) ≡ x
at-raise_abs ks ts x e = puts-raise_abs ks ts Ty.Var x e ∙ substitute_abs-id x
