-- Packing as a function gives the packed term.
-- Main results: pack_up-packs.
use Rattle.std.specs.Prelude.{zero, List, ◌∷◌}
use Rattle.std.proofs.Math.Path.{sym, subst}
use Rattle.omega_kinds.specs.Kind.{Kind}
use Rattle.omega_types.specs.Ty.{Ty}
use Rattle.omega_types.specs.Index.{i_here}
use Rattle.omega_types.specs.Normality.{Normal}
use Rattle.omega_types.specs.Normaliser.{hsubst}
use Rattle.omega_types.specs.Normalises.{NormalForm}
use Rattle.omega_types.specs.Binders.{ex_over}
use Rattle.omega_types.proofs.Single.{substitute_at-zero}
use Rattle.omega_types.proofs.Hereditary.{hsubst-gives}
use Rattle.omega_terms.specs.Term.{Term}
use Rattle.omega_terms.specs.Shorthands.{Packs}
use Rattle.omega_types.proofs.BinderPuts.{NormalTypes, ex_over-hsubst}
use Rattle.omega_types.proofs.BinderPuts.NormalTypes.{none, next}
use Rattle.sig_match_laws.specs.MatchFunction.{pack_up}
use Rattle.omega_terms.proofs.NormalTyping.{normal-ex}

-- the function that packs normal types of the right kinds gives the packed term
pub pack_up-packs : {ctx : List Kind} {ts : List Ty} {ks : List Kind} (e : Term) (b : Ty) → NormalTypes ctx ts ks → Normal ctx (ex_over ks b) Kind.Star → Packs ctx ts e (ex_over ks b) (pack_up ts e (ex_over ks b))
pack_up-packs e b none n = Packs.none
pack_up-packs {ctx} e b (next {t = t} {ts = ts} {k = k} {ks = ks} m ms) n =
    let q = ex_over-hsubst k zero t ks b in
    let f = hsubst-gives ctx (k ∷ ctx) zero t (ex_over ks b) k Kind.Star i_here m (normal-ex n) in
    let r = subst (λ u. Packs ctx ts e u (pack_up ts e u)) (sym q.1) (pack_up-packs e q.0 ms (subst (λ u. Normal ctx u Kind.Star) q.1 f.0)) in
    Packs.next (subst (λ u. NormalForm ctx u Kind.Star (hsubst k zero t (ex_over ks b))) (substitute_at-zero t (ex_over ks b)) f) r
