-- Environments whose entries are well formed.
-- Main results: good-type_vars, good-module, good-named_fields.
use Rattle.std.specs.Prelude.{zero, suc, List, [], ◌∷◌}
use Rattle.std.proofs.Math.Path.{sym, subst}
use Rattle.omega_kinds.specs.Kind.{Kind}
use Rattle.omega_kinds.specs.Name.{Name, same_name}
use Rattle.omega_types.specs.Kinding
use Rattle.omega_types.specs.Normality.Neutral.{n_var}
use Rattle.omega_types.specs.Binders.{extend}
use Rattle.omega_types.proofs.Preservation.{maps-suc, normal-kind}
use Rattle.omega_types.proofs.Hereditary.{eta-normal}
use Rattle.omega_terms.specs.Term.{Term}
use Rattle.sig_definitions.specs.Signatures.Sig.{Sig, SigRow}
use Rattle.sig_definitions.specs.Env.{Entry, Env, kinds, past_term, type_param, find, type_vars, with_module, named_fields, IsGoodEnv}
use Rattle.sig_definitions.specs.Explicit.WellFormed.{WellFormed, WellFormedRow}
use Rattle.sig_laws.proofs.Formed.WellFormedLaws.{well_formed-rename}
use Rattle.sig_laws.proofs.Algebra.FormLaws.{kinds-type_vars}
use Rattle.sig_premise_laws.proofs.Environments.{Gives, gives-past_type, gives-past_term, gives-either}

-- further type variables keep an environment well formed
pub good-type_vars : (g : Env) (ks : List Kind) → IsGoodEnv g → IsGoodEnv (type_vars g ks)
good-type_vars g [] h = h
good-type_vars g (k ∷ ks) h = good-type_vars (Entry.TypeVar k ∷ g) ks (tt, h)

-- a well formed environment with a module of a well formed signature is well formed
pub good-module : (g : Env) (ks : List Kind) (x : Name) (s : Sig) → IsGoodEnv g → WellFormed (extend (kinds g) ks) s → IsGoodEnv (with_module g ks x s)
good-module g ks x s h w = (subst (λ c. WellFormed c s) (sym (kinds-type_vars g ks)) w, good-type_vars g ks h)

-- a well formed environment with the fields of a well formed structure is well formed
pub good-named_fields : (g : Env) (fs : SigRow) → IsGoodEnv g → WellFormedRow (kinds g) fs → IsGoodEnv (named_fields g fs)
good-named_fields g SigRow.End h w = h
good-named_fields g (SigRow.More l s rest) h (WellFormedRow.more w ws) = good-named_fields (Entry.Named l s ∷ g) rest (w, h) ws

-- what is found in a good environment is well formed
pub find-well_formed : (g : Env) (x : Name) → IsGoodEnv g → Gives (WellFormed (kinds g)) (find g x)
find-well_formed [] x h = λ o e. cc
find-well_formed (Entry.TypeVar k ∷ g) x h = gives-past_type (WellFormed (kinds g)) (WellFormed (k ∷ kinds g)) (λ s w. well_formed-rename suc (maps-suc k (kinds g)) w) (find g x) (find-well_formed g x h.1)
find-well_formed (Entry.Named y s ∷ g) x h = gives-either (WellFormed (kinds g)) (same_name x y) (s, Term.Var zero) (past_term (find g x)) h.0 (gives-past_term (WellFormed (kinds g)) (find g x) (find-well_formed g x h.1))
find-well_formed (Entry.Value y t ∷ g) x h = gives-either (WellFormed (kinds g)) (same_name x y) _ (past_term (find g x)) (WellFormed.val h.0) (gives-past_term (WellFormed (kinds g)) (find g x) (find-well_formed g x h.1))
find-well_formed (Entry.TypeParam y ∷ (Entry.TypeVar k ∷ g)) x h = gives-either (WellFormed (k ∷ kinds g)) (same_name x y) (type_param k) (find (Entry.TypeVar k ∷ g) x) (WellFormed.typ (normal-kind (eta-normal k (n_var Kinding.here)).0)) (find-well_formed (Entry.TypeVar k ∷ g) x h.1)
find-well_formed (Entry.TypeParam y ∷ g) x h = absurd h.0
