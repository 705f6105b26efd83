-- Normal forms of legible types are legible, and what they stand for outside of binders.
-- Main results: form-legible, outside-legible.
use Rattle.std.specs.Prelude.{List}
use Rattle.std.proofs.Math.Path.{sym, subst}
use Rattle.omega_kinds.specs.Kind.{Kind}
use Rattle.omega_types.specs.Ty.{Ty}
use Rattle.omega_types.specs.Conversion.{Conv}
use Rattle.omega_types.specs.Conversion.Conv.{c_sym, c_trans}
use Rattle.omega_types.specs.Normalises.{NormalForm}
use Rattle.omega_types.specs.Binders.{extend, past, raise, NormalForms}
use Rattle.omega_types.proofs.Preservation.{normal-rename, conv-rename}
use Rattle.omega_types.proofs.BinderPuts.{form-is, past-maps}
use Rattle.omega_terms.specs.declared.version.Version.{Version}
use Rattle.elab_spelling.specs.Legible.{TyLegible, TypesLegible}
use Rattle.elab_spelling.proofs.Types.{normal-legible, legible-renamed}

module _ (v : Version) where
  -- the normal form of a legible type is legible
  pub form-legible : {ctx : List Kind} {t n : Ty} {k : Kind} → NormalForm ctx t k n → TyLegible v t → TyLegible v n
  form-legible {ctx} {t} f h = subst (TyLegible v) (sym (form-is f)) (normal-legible v ctx t h)

  -- the normal forms of a list of legible types are legible
  pub forms-legible : {ctx ks : List Kind} {ts ns : List Ty} → NormalForms ctx ts ks ns → TypesLegible v ts → TypesLegible v ns
  forms-legible NormalForms.none h = tt
  forms-legible (NormalForms.next f fs) h = (form-legible f h.0, forms-legible fs h.1)

  -- a type from outside that is convertible to a legible one
  pub outside-legible : {ctx : List Kind} (ks : List Kind) {t u n : Ty} {k : Kind} → Conv (extend ctx ks) (raise ks u) t k → NormalForm ctx u k n
      → TyLegible v t → TyLegible v n
  outside-legible {ctx} ks {n = n} c f h =
      legible-renamed v (past ks) n (form-legible (
        normal-rename (past ks) (past-maps ctx ks) f.0,
        c_trans (c_sym c)
            (conv-rename (past ks) (past-maps ctx ks) f.1),
      ) h)
