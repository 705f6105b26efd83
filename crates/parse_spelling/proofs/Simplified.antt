-- Simplified terms stay legible.
-- Main results: emits-legible.
use Rattle.std.specs.Prelude.{Bool, true, false, cond, Option, Some, None}
use Rattle.omega_kinds.specs.declared.label.Label.{Label}
use Rattle.omega_terms.specs.declared.version.Version.{Version}
use Rattle.omega_terms.specs.Term.{Term, TermRow}
use Rattle.omega_simplify_laws.specs.Simplified.{is_flat, simplified, simplified_row}
use Rattle.elab_spelling.specs.Legible.{TermLegible, TermRowLegible}
use Rattle.parse_spelling.specs.Claims.{Emits}

module _ (v : Version) where
  either-legible : (b : Bool) (e d : Term) → TermLegible v e → TermLegible v d → TermLegible v (cond b e d)
  either-legible true e d h g = h
  either-legible false e d h g = g

  mutual
    simplified-legible : (e : Term) → TermLegible v e → TermLegible v (simplified e)
    simplified-legible (Term.Var i) h = tt
    simplified-legible (Term.Int z) h = h
    simplified-legible (Term.Bool b) h = tt
    simplified-legible (Term.Text s) h = h
    simplified-legible (Term.Lam t e) h = (h.0, simplified-legible e h.1)
    simplified-legible (Term.Call f a) h =
        let p = simplified-legible f h.0 in
        let q = simplified-legible a h.1 in
        either-legible (is_flat (simplified f)) (simplified a) (Term.Call (simplified f) (simplified a)) q (p, q)
    simplified-legible (Term.TyLam k e) h = simplified-legible e h
    simplified-legible (Term.Inst e t) h = (simplified-legible e h.0, h.1)
    simplified-legible (Term.Fields row) h = simplified_row-legible None row h
    simplified-legible (Term.Get e l) h = (simplified-legible e h.0, h.1)
    simplified-legible (Term.Pack t e u) h = (h.0, simplified-legible e h.1, h.2)
    simplified-legible (Term.Unpack p e) h = (simplified-legible p h.0, simplified-legible e h.1)
    simplified-legible (Term.If a b c) h = (simplified-legible a h.0, simplified-legible b h.1, simplified-legible c h.2)
    simplified-legible (Term.Arith o a b) h = (simplified-legible a h.0, simplified-legible b h.1)
    simplified-legible (Term.Fix t u e) h = (h.0, h.1, simplified-legible e h.2)
    simplified-legible (Term.Inj l e t) h = (h.0, h.1, simplified-legible e h.2, h.3)
    simplified-legible (Term.Case e t row) h = (h.0, simplified-legible e h.1, h.2, simplified_row-legible None row h.3)
    simplified-legible (Term.Roll e t) h = (h.0, simplified-legible e h.1, h.2)
    simplified-legible (Term.Unroll e) h = (h.0, simplified-legible e h.1)

    simplified_row-legible : (last : Option Label) (row : TermRow) → TermRowLegible v last row → TermRowLegible v last (simplified_row row)
    simplified_row-legible last TermRow.End h = tt
    simplified_row-legible last (TermRow.More l e rest) h = (h.0, h.1, simplified-legible e h.2, simplified_row-legible (Some l) rest h.3)

  -- what is emitted for a legible term is legible
  pub emits-legible : {whole e : Term} → Emits whole e → TermLegible v whole → TermLegible v e
  emits-legible Emits.as_it_is h = h
  emits-legible {whole} Emits.simpler h = simplified-legible whole h
