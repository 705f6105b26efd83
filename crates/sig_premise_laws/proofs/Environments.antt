-- Environments: what extends a good one is good, what is found in one is well formed, and names stay found.
-- Main results: good-module, good-fields, find-good, bound-bind.
use Rattle.std.specs.Prelude.{zero, suc, List, [], ◌∷◌, ◌≡◌, Bool, true, false, cond, Option, Some, None}
use Rattle.std.proofs.Math.Path.{refl, sym, subst, ap}
use Rattle.omega_kinds.specs.Kind.{Kind}
use Rattle.omega_kinds.specs.Name.{Name, same_name}
use Rattle.omega_kinds.specs.LabelOrder.{name_before}
use Rattle.omega_types.specs.Kinding.{here}
use Rattle.omega_types.specs.Normality.Neutral.{n_var}
use Rattle.omega_types.specs.Binders.{extend}
use Rattle.omega_types.proofs.Preservation.{normal-kind, maps-suc}
use Rattle.omega_types.proofs.Hereditary.{eta-normal}
use Rattle.omega_terms.specs.Term.{Term}
use Rattle.omega_terms.specs.TermSubst.{ren_term, same_index}
use Rattle.sig_definitions.specs.Signatures.Sig.{Sig, Abs, SigRow}
use Rattle.sig_definitions.specs.Signatures.SigSubst.{rename_sig}
use Rattle.sig_definitions.specs.Env.{Env, TypeVar, Named, Value, TypeParam, kinds, find, past_type, past_term, type_param, type_vars, with_module, named_fields}
use Rattle.sig_laws.specs.Good.{OkSig, OkRow, OkRight, OkEnv, Found, Bound}
use Rattle.sig_definitions.specs.Signatures.FieldOrder.{with_name, with_names}
use Rattle.sig_definitions.specs.Explicit.WellFormed.{WellFormed}
use Rattle.sig_laws.proofs.Formed.WellFormedLaws.{well_formed-rename}
use Rattle.sig_laws.proofs.Algebra.AlikeLaws.{normal_sig-rename}
use Rattle.sig_laws.proofs.Formed.Conditions.{explicit-right, row-first}
use Rattle.omega_kinds.proofs.NameLaws.{same_name-itself}
use Rattle.sig_laws.proofs.Algebra.FormLaws.{kinds-type_vars}

pub good-type_vars : (g : Env) (ks : List Kind) → OkEnv g → OkEnv (type_vars g ks)
good-type_vars g [] h = h
good-type_vars g (k ∷ ks) h = good-type_vars (TypeVar k ∷ g) ks (tt, h)

-- the body of a right side, as what a name stands for
pub body-ok : {ctx ks : List Kind} {s : Sig} → OkRight ctx (Abs.Ex ks s) → OkSig (extend ctx ks) s
body-ok h = ((explicit-right h.0).0, h.1)

-- a good environment with a module of a good signature is good
pub good-module : (g : Env) (ks : List Kind) (x : Name) (s : Sig) → OkEnv g → OkSig (extend (kinds g) ks) s → OkEnv (with_module g ks x s)
good-module g ks x s h w = (subst (λ ctx. OkSig ctx s) (sym (kinds-type_vars g ks)) w, good-type_vars g ks h)

-- a good environment with the fields of a good structure is good
pub good-fields : (g : Env) (fs : SigRow) → OkEnv g → OkRow (kinds g) fs → OkEnv (named_fields g fs)
good-fields g SigRow.End h w = h
good-fields g (SigRow.More l s rest) h w = let q = row-first w.0 in good-fields (Named l s ∷ g) rest ((q.0, w.1.0), h) (q.1, w.1.1)

-- a good environment with hidden types and then the fields of a good structure under them is good
pub good-type_fields : (g : Env) (ks : List Kind) (fs : SigRow) → OkEnv g → OkRow (extend (kinds g) ks) fs → OkEnv (named_fields (type_vars g ks) fs)
good-type_fields g ks fs h w = good-fields (type_vars g ks) fs (good-type_vars g ks h) (subst (λ ctx. OkRow ctx fs) (sym (kinds-type_vars g ks)) w)

-- what is found

-- what holds of each signature that a look-up may give
abbrev pub Gives : (Sig → Type 0) → Option (Sig × Term) → Type 0
Gives P r = (o : Sig × Term) → r ≡ Some o → P o.0

-- options that are equal have equal values
pub some-same : {A : Type 0} {a b : A} → Path (Option A) (Some a) (Some b) → a ≡ b
some-same e = cc

gives-some : (P : Sig → Type 0) (a : Sig × Term) → P a.0 → Gives P (Some a)
gives-some P a w = λ o e. subst (λ (o : Sig × Term). P o.0) (some-same e) w

-- what holds of a signature that is found, and after weakening, holds past one more type variable
pub gives-past_type : (P Q : Sig → Type 0) → ((s : Sig) → P s → Q (rename_sig suc s)) → (r : Option (Sig × Term)) → Gives P r → Gives Q (past_type r)
gives-past_type P Q h None f = λ o e. cc
gives-past_type P Q h (Some p) f = gives-some Q (rename_sig suc p.0, ren_term suc same_index p.1) (h p.0 (f p refl))

-- what holds of a signature that is found holds past one more term variable
pub gives-past_term : (P : Sig → Type 0) (r : Option (Sig × Term)) → Gives P r → Gives P (past_term r)
gives-past_term P None f = λ o e. cc
gives-past_term P (Some p) f = gives-some P (p.0, ren_term same_index suc p.1) (f p refl)

-- what holds of either signature holds of the one that a test chooses
pub gives-either : (P : Sig → Type 0) (b : Bool) (a : Sig × Term) (r : Option (Sig × Term)) → P a.0 → Gives P r → Gives P (cond b (Some a) r)
gives-either P true a r w f = gives-some P a w
gives-either P false a r w f = f

-- what is found for a name in a good environment is a good signature
pub find-good : (g : Env) (x : Name) → OkEnv g → Gives (OkSig (kinds g)) (find g x)
find-good [] x h = λ o e. cc
find-good (TypeVar k ∷ g) x h = gives-past_type (OkSig (kinds g)) (OkSig (k ∷ kinds g)) (λ s w. (well_formed-rename suc (maps-suc k (kinds g)) w.0, normal_sig-rename suc (maps-suc k (kinds g)) s w.1)) (find g x) (find-good g x h.1)
find-good (Named y s ∷ g) x h = gives-either (OkSig (kinds g)) (same_name x y) (s, Term.Var zero) (past_term (find g x)) h.0 (gives-past_term (OkSig (kinds g)) (find g x) (find-good g x h.1))
find-good (Value y t ∷ g) x h = gives-either (OkSig (kinds g)) (same_name x y) _ (past_term (find g x)) (WellFormed.val (normal-kind h.0), h.0) (gives-past_term (OkSig (kinds g)) (find g x) (find-good g x h.1))
find-good (TypeParam y ∷ (TypeVar k ∷ g)) x h = gives-either (OkSig (k ∷ kinds g)) (same_name x y) (type_param k) (find (TypeVar k ∷ g) x) (WellFormed.typ (normal-kind (eta-normal k (n_var here)).0), (eta-normal k (n_var here)).0) (find-good (TypeVar k ∷ g) x h.1)
find-good (TypeParam y ∷ g) x h = absurd h.0

-- names that are found

found-type : (g : Env) (k : Kind) (l : Name) → Found g l → Found (TypeVar k ∷ g) l
found-type g k l f = ((rename_sig suc f.0.0, ren_term suc same_index f.0.1), ap past_type f.1)

some-cond : {A : Type 0} (b : Bool) (p q : A) (r : Option A) → r ≡ Some q → (o : A) × (cond b (Some p) r ≡ Some o)
some-cond true p q r e = (p, refl)
some-cond false p q r e = (q, e)

found-named : (g : Env) (y : Name) (s : Sig) (l : Name) → Found g l → Found (Named y s ∷ g) l
found-named g y s l f = some-cond (same_name l y) (s, Term.Var zero) (f.0.0, ren_term same_index suc f.0.1) (past_term (find g l)) (ap past_term f.1)

found-own : (g : Env) (y : Name) (s : Sig) → Found (Named y s ∷ g) y
found-own g y s = ((s, Term.Var zero), ap (λ b. cond b (Some (s, Term.Var zero)) (past_term (find g y))) (same_name-itself y))

found-type_vars : (g : Env) (ks : List Kind) (l : Name) → Found g l → Found (type_vars g ks) l
found-type_vars g [] l f = f
found-type_vars g (k ∷ ks) l f = found-type_vars (TypeVar k ∷ g) ks l (found-type g k l f)

bound-map : (g h : Env) (ls : List Name) → ((l : Name) → Found g l → Found h l) → Bound g ls → Bound h ls
bound-map g h [] f b = tt
bound-map g h (l ∷ ls) f b = (f l b.0, bound-map g h ls f b.1)

bound-cond : (g : Env) (b : Bool) (xs ys : List Name) → Bound g xs → Bound g ys → Bound g (cond b xs ys)
bound-cond g true xs ys p q = p
bound-cond g false xs ys p q = q

-- names that are found are so with one more that is
pub bound-with : (g : Env) (x : Name) (ls : List Name) → Found g x → Bound g ls → Bound g (with_name x ls)
bound-with g x [] f b = (f, tt)
bound-with g x (m ∷ ms) f b = bound-cond g (same_name x m) (m ∷ ms) _ b (bound-cond g (name_before x m) (x ∷ m ∷ ms) _ (f, b) (b.0, bound-with g x ms f b.1))

-- names that are found are found past one more module
pub bound-module : (g : Env) (ks : List Kind) (x : Name) (s : Sig) (ls : List Name) → Bound g ls → Bound (with_module g ks x s) ls
bound-module g ks x s ls b = bound-map g (with_module g ks x s) ls (λ l f. found-named (type_vars g ks) x s l (found-type_vars g ks l f)) b

-- names that are found are so, with that of a bound module, past this module
pub bound-bind : (g : Env) (ks : List Kind) (x : Name) (s : Sig) (ls : List Name) → Bound g ls → Bound (with_module g ks x s) (with_name x ls)
bound-bind g ks x s ls b = bound-with (with_module g ks x s) x ls (found-own (type_vars g ks) x s) (bound-module g ks x s ls b)

-- names that are found are so, with those of fields, past these fields
pub bound-fields : (g : Env) (fs : SigRow) (ls : List Name) → Bound g ls → Bound (named_fields g fs) (with_names fs ls)
bound-fields g SigRow.End ls b = b
bound-fields g (SigRow.More l s rest) ls b = bound-fields (Named l s ∷ g) rest (with_name l ls) (bound-with (Named l s ∷ g) l ls (found-own g l s) (bound-map g (Named l s ∷ g) ls (λ m f. found-named g l s m f) b))
