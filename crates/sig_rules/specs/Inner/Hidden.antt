-- Parts of structures and hidden types, as the calls in between find them and put them in.
use Rattle.std.specs.Prelude.{ℕ, ◌+◌, ◌≡◌, List, ◌∷◌, ◌++◌, take, drop, get_or}
use Rattle.omega_kinds.specs.Kind.{Kind}
use Rattle.omega_kinds.specs.Name.{Name}
use Rattle.omega_types.specs.Binders.{extend, front, past, puts, raise, unders, vars}
use Rattle.omega_types.specs.Normality.{Normal}
use Rattle.omega_types.specs.Ty.{Ty}
use Rattle.sig_definitions.specs.Signatures.Alike.{NormalAbs, NormalSig, NormalSigForm}
use Rattle.sig_definitions.specs.Signatures.Sig.{Abs, HasField, Sig, SigRow}
use Rattle.sig_definitions.specs.Signatures.SigSubst.{substitute_sig}
use Rattle.semantic_sigs.specs.Inner.View.{body_of, kinds_of}
use Rattle.sig_judgments.specs.Refinement.{own_part}

-- the signature is a structure that has the part under the name
abbrev pub IsAt : Sig → Name → Sig → Type 0
IsAt s l t = (fs : SigRow) × (s ≡ Sig.Str fs) × HasField fs l t

-- the kinds of hidden types before a place, at it and after it
abbrev pub kind_at : List Kind → ℕ → Kind
kind_at ks place = get_or ks place Kind.Star

abbrev pub before : List Kind → ℕ → List Kind
before ks place = take place ks

abbrev pub after : List Kind → ℕ → List Kind
after ks place = drop (place + 1) ks

-- the part shows the hidden type at the place
abbrev pub IsOwn : List Kind → ℕ → Sig → Type 0
IsOwn ks place q = q ≡ own_part (kind_at ks place) (after ks place)

-- the part shows none of the hidden types
abbrev pub NotOwn : List Kind → Sig → Type 0
NotOwn ks q = (bs : List Kind) (j : Kind) (cs : List Kind) → ks ≡ bs ++ (j ∷ cs) → q ≡ own_part j cs → ⊥

-- n is s, which stands under the hidden types, with a type from outside put in for the one at the place
abbrev pub PutAt : List Kind → List Kind → ℕ → Ty → Sig → Sig → Type 0
PutAt ctx ks place u s n = NormalSigForm (extend ctx (before ks place ++ after ks place)) (substitute_sig (unders (after ks place) (front (raise (before ks place) u) Ty.Var)) s) n

-- the hidden type at the place is a type from outside, and is hidden no longer
abbrev pub Fixed : Abs → ℕ → Ty → Abs → Type 0
Fixed x place u y = (ctx : List Kind) → NormalAbs ctx x → Normal ctx u (kind_at (kinds_of x) place)
    → (n : Sig) × (y ≡ Abs.Ex (before (kinds_of x) place ++ after (kinds_of x) place) n) × PutAt ctx (kinds_of x) place u (body_of x) n

-- n is s, which stands under hidden types of these kinds, with t put in for the first of them; t stands under the others
abbrev pub PutFirst : List Kind → Sig → Ty → Sig → Type 0
PutFirst ks s t n = (ctx js : List Kind) (k : Kind) → ks ≡ k ∷ js → NormalSig (extend (k ∷ ctx) js) s → Normal (extend ctx js) t k
    → NormalSigForm (extend ctx js) (substitute_sig (puts (vars js) (front t (λ i. Ty.Var (past js i)))) s) n
