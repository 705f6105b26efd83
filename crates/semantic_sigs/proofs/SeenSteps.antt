-- What a name stands for, seen past more variables.
-- Main results: find-named, find-other.
use Rattle.std.specs.Prelude.{ℕ, zero, suc, ◌+◌, ◌-◌, ◌<◌, ◌≤◌, ◌≡◌, ◌==◌, [], ◌∷◌, ◌++◌, ◌↔◌, Bool, true, false, cond, Option, Some, None}
use Rattle.std.proofs.Common.{arith}
use Rattle.std.proofs.lemmas.Bool.{false≢true}
use Rattle.std.proofs.Math.Path.{refl, sym, ◌∙◌, ap, ap₂, fun_ext}
use Rattle.omega_kinds.specs.Kind.{Kind}
use Rattle.omega_kinds.specs.declared.label.Label.{Label}
use Rattle.omega_kinds.specs.Name.{Name, same_name}
use Rattle.omega_types.specs.Ty.{Ty, lift}
use Rattle.omega_types.specs.EtaLong.{eta}
use Rattle.omega_types.specs.Index.{bump, shift}
use Rattle.omega_types.specs.Substitution.{rename}
use Rattle.omega_types.proofs.Algebra.{rename-weaken}
use Rattle.omega_terms.specs.Term.{Term}
use Rattle.omega_terms.specs.TermSubst.{ren_term, same_index}
use Rattle.omega_terms.specs.PartTerms.{one_field, type_term}
use Rattle.omega_terms.specs.Inner.Bound.{type_bound, term_bound}
use Rattle.omega_terms.proofs.OneIndex.{ren_term-same}
use Rattle.sig_definitions.specs.Signatures.Sig.{Sig}
use Rattle.sig_definitions.specs.Signatures.SigSubst.{rename_sig}
use Rattle.sig_definitions.specs.Env.{Entry, Env, find, past_type, past_term, type_param, first_kind}
use Rattle.sig_laws.proofs.Algebra.SigAlgebra.{rename-rename_sig, rename_sig-id}
use Rattle.semantic_sigs.specs.declared.env.Entry.TheVariants as entry
use Rattle.semantic_sigs.specs.Inner.Entries.{is_named, type_vars, term_vars, here, seen}
use Rattle.omega_terms.proofs.TermAlgebra.{ren-ren_term}

-- what is found, past one variable more

more-types : (t : ℕ) → (λ i. bump t 0 (suc i)) ≡ bump (t + 1) 0
more-types t = fun_ext go
  where
    go : (i : ℕ) → t + suc i ≡ t + 1 + i
    go i = omega arith

seen-type : (t n : ℕ) (o : Option (Sig × Term)) → seen t n (past_type o) ≡ seen (t + 1) n o
seen-type t n None = refl
seen-type t n (Some r) =
    ap₂ (λ s e. Some (s, e)) (rename-rename_sig (bump t 0) suc r.0 ∙ ap (λ f. rename_sig f r.0) (more-types t)) (ren-ren_term (bump t 0) suc (bump n 0) same_index r.1 ∙ ap (λ f. ren_term f (bump n 0) r.1) (more-types t))

seen-term : (t n : ℕ) (o : Option (Sig × Term)) → seen t n (past_term o) ≡ seen t (n + 1) o
seen-term t n None = refl
seen-term t n (Some r) =
    ap (λ e. Some (rename_sig (bump t 0) r.0, e)) (ren-ren_term (bump t 0) same_index (bump n 0) suc r.1 ∙ ap (λ f. ren_term (bump t 0) f r.1) (more-types n))

no-bump : bump 0 0 ≡ (λ i. i)
no-bump = fun_ext go
  where
    go : (i : ℕ) → 0 + i ≡ i
    go i = omega arith

bump-none : (m : ℕ) → bump 0 m ≡ bump 0 0
bump-none zero = refl
bump-none (suc m) = ap lift (bump-none m) ∙ fun_ext go
  where
    go : (i : ℕ) → lift (bump 0 0) i ≡ 0 + i
    go zero = refl
    go (suc i) = omega arith

-- nothing is past the end
pub seen-none : (o : Option (Sig × Term)) → seen 0 0 o ≡ o
seen-none None = refl
seen-none (Some r) = ap₂ (λ s e. Some (s, e)) (ap (λ f. rename_sig f r.0) no-bump ∙ rename_sig-id r.0) (ren-none r.1)
  where
    ren-none : (e : Term) → ren_term (bump 0 0) (bump 0 0) e ≡ e
    ren-none e = sym (ap₂ (λ q r. ren_term q r e) (bump-none (type_bound e)) (bump-none (term_bound e))) ∙ ren_term-same 0 0 (type_bound e) (term_bound e) e (omega arith) (omega arith)

-- the choice at a test that holds is the first
pub found-if : {A : Type 0} (b : Bool) (x y : A) → b ≡ true → cond b x y ≡ x
found-if true x y e = refl
found-if false x y e = cc

-- the choice at a test that fails is the second
pub past-if : {A : Type 0} (b : Bool) (x y : A) → b ≡ false → cond b x y ≡ y
past-if true x y e = cc
past-if false x y e = refl

-- a name that is that of the first entry stands for it
pub find-named : (e : Entry) (g : Env) (x : Name) → is_named x e ≡ true → find (e ∷ g) x ≡ here e g
find-named (Entry.TypeVar k) g x h = cc
find-named (Entry.Named y s) g x h = found-if (same_name x y) (Some (s, Term.Var zero)) (past_term (find g x)) h
find-named (Entry.Value y t) g x h = found-if (same_name x y) _ (past_term (find g x)) h
find-named (Entry.TypeParam y) g x h = found-if (same_name x y) (Some (type_param (first_kind g))) (find g x) h

-- what is seen past no further variables is the same
pub same-counts : (t n : ℕ) (o : Option (Sig × Term)) → seen t n o ≡ seen (t + 0) (n + 0) o
same-counts t n o = ap₂ (λ i j. seen i j o) (plus t) (plus n)
  where
    plus : (n : ℕ) → n ≡ n + 0
    plus n = omega arith

-- a name that is not that of the first entry is looked for outside, past the entry's variables
pub find-other : (t n : ℕ) (e : Entry) (g : Env) (x : Name) → is_named x e ≡ false → seen t n (find (e ∷ g) x) ≡ seen (t + type_vars e) (n + term_vars e) (find g x)
find-other t n (Entry.TypeVar k) g x h = seen-type t n (find g x) ∙ ap (λ j. seen (t + 1) j (find g x)) (omega arith)
find-other t n (Entry.Named y s) g x h = ap (seen t n) (past-if (same_name x y) (Some (s, Term.Var zero)) (past_term (find g x)) h) ∙ (seen-term t n (find g x) ∙ ap (λ i. seen i (n + 1) (find g x)) (omega arith))
find-other t n (Entry.Value y u) g x h = ap (seen t n) (past-if (same_name x y) _ (past_term (find g x)) h) ∙ (seen-term t n (find g x) ∙ ap (λ i. seen i (n + 1) (find g x)) (omega arith))
find-other t n (Entry.TypeParam y) g x h = ap (seen t n) (past-if (same_name x y) (Some (type_param (first_kind g))) (find g x) h) ∙ same-counts t n (find g x)

-- a type parameter seen past further variables is the raised variable
pub seen-param : (t n : ℕ) (k : Kind) → seen t n (Some (type_param k)) ≡ Some (Sig.Typ (shift t 0 (eta k (Ty.Var zero))) k, type_term (shift t 0 (eta k (Ty.Var zero))) k)
seen-param t n k = ap (λ u. Some (Sig.Typ (shift t 0 (eta k (Ty.Var zero))) k, u)) (type_term-renamed (bump t 0) (bump n 0) (eta k (Ty.Var zero)) k)
  where
    type_term-renamed : (q r : ℕ → ℕ) (a : Ty) (k : Kind) → ren_term q r (type_term a k) ≡ type_term (rename q a) k
    type_term-renamed q r a k = ap (λ u. one_field Label.Typ (Term.TyLam (Kind.Arrow k Kind.Star) (Term.Lam (Ty.Apply (Ty.Var zero) u) (Term.Var zero)))) (rename-weaken q a)
