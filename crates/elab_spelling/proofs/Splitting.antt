-- A spelling is a legible tree with its variables in scope.
-- Main results: ty-spelled, spelled-ty, term-spelled, spelled-term.
use Rattle.std.specs.Prelude.{ℕ, ◌+◌, Option, Some, None}
use Rattle.omega_kinds.specs.declared.label.Label.{Label}
use Rattle.omega_types.specs.Ty.{Ty, Row}
use Rattle.omega_terms.specs.declared.version.Version.{Version}
use Rattle.omega_terms.specs.Term.{Term, TermRow}
use Rattle.omega_terms.specs.InScope.{TyInScope, RowInScope, TermInScope, TermRowInScope}
use Rattle.omega_spelling.specs.Spelled.{TySpelled, RowSpelled}
use Rattle.omega_spelling.specs.TermReading.{TermSpelled, TermRowSpelled}
use Rattle.elab_spelling.specs.Legible.{TyLegible, RowLegible, TermLegible, TermRowLegible}

module _ (v : Version) where
  mutual
    -- a legible type with its variables in scope has a spelling
    pub ty-spelled : (n : ℕ) (t : Ty) → TyLegible v t → TyInScope n t → TySpelled v n t
    ty-spelled n (Ty.Var i) h g = g
    ty-spelled n Ty.Int h g = tt
    ty-spelled n Ty.Bool h g = tt
    ty-spelled n Ty.Text h g = tt
    ty-spelled n (Ty.Arrow a b) h g = (ty-spelled n a h.0 g.0, ty-spelled n b h.1 g.1)
    ty-spelled n (Ty.Fields row) h g = row-spelled n None row h g
    ty-spelled n (Ty.Sum row) h g = (h.0, row-spelled n None row h.1 g)
    ty-spelled n (Ty.All k b) h g = ty-spelled (n + 1) b h g
    ty-spelled n (Ty.Ex k b) h g = ty-spelled (n + 1) b h g
    ty-spelled n (Ty.Mu b) h g = (h.0, ty-spelled (n + 1) b h.1 g)
    ty-spelled n (Ty.Lam k b) h g = ty-spelled (n + 1) b h g
    ty-spelled n (Ty.Apply f a) h g = (ty-spelled n f h.0 g.0, ty-spelled n a h.1 g.1)

    row-spelled : (n : ℕ) (last : Option Label) (row : Row) → RowLegible v last row → RowInScope n row → RowSpelled v n last row
    row-spelled n last Row.End h g = tt
    row-spelled n last (Row.More l t rest) h g = (h.0, h.1, ty-spelled n t h.2 g.0, row-spelled n (Some l) rest h.3 g.1)

  mutual
    -- a type that has a spelling is legible and has its variables in scope
    pub spelled-ty : (n : ℕ) (t : Ty) → TySpelled v n t → TyLegible v t × TyInScope n t
    spelled-ty n (Ty.Var i) h = (tt, h)
    spelled-ty n Ty.Int h = (tt, tt)
    spelled-ty n Ty.Bool h = (tt, tt)
    spelled-ty n Ty.Text h = (tt, tt)
    spelled-ty n (Ty.Arrow a b) h = let p = spelled-ty n a h.0 in let q = spelled-ty n b h.1 in ((p.0, q.0), (p.1, q.1))
    spelled-ty n (Ty.Fields row) h = spelled-row n None row h
    spelled-ty n (Ty.Sum row) h = let p = spelled-row n None row h.1 in ((h.0, p.0), p.1)
    spelled-ty n (Ty.All k b) h = spelled-ty (n + 1) b h
    spelled-ty n (Ty.Ex k b) h = spelled-ty (n + 1) b h
    spelled-ty n (Ty.Mu b) h = let p = spelled-ty (n + 1) b h.1 in ((h.0, p.0), p.1)
    spelled-ty n (Ty.Lam k b) h = spelled-ty (n + 1) b h
    spelled-ty n (Ty.Apply f a) h = let p = spelled-ty n f h.0 in let q = spelled-ty n a h.1 in ((p.0, q.0), (p.1, q.1))

    spelled-row : (n : ℕ) (last : Option Label) (row : Row) → RowSpelled v n last row → RowLegible v last row × RowInScope n row
    spelled-row n last Row.End h = (tt, tt)
    spelled-row n last (Row.More l t rest) h = let p = spelled-ty n t h.2 in let q = spelled-row n (Some l) rest h.3 in ((h.0, h.1, p.0, q.0), (p.1, q.1))

  mutual
    -- a legible term with its variables in scope has a spelling
    pub term-spelled : (n m : ℕ) (e : Term) → TermLegible v e → TermInScope n m e → TermSpelled v n m e
    term-spelled n m (Term.Var i) h g = g
    term-spelled n m (Term.Int z) h g = h
    term-spelled n m (Term.Bool b) h g = tt
    term-spelled n m (Term.Text s) h g = h
    term-spelled n m (Term.Lam t e) h g = (ty-spelled n t h.0 g.0, term-spelled n (m + 1) e h.1 g.1)
    term-spelled n m (Term.Call f a) h g = (term-spelled n m f h.0 g.0, term-spelled n m a h.1 g.1)
    term-spelled n m (Term.TyLam k e) h g = term-spelled (n + 1) m e h g
    term-spelled n m (Term.Inst e t) h g = (term-spelled n m e h.0 g.0, ty-spelled n t h.1 g.1)
    term-spelled n m (Term.Fields row) h g = term_row-spelled n m None row h g
    term-spelled n m (Term.Get e l) h g = (term-spelled n m e h.0 g, h.1)
    term-spelled n m (Term.Pack t e u) h g = (ty-spelled n t h.0 g.0, term-spelled n m e h.1 g.1, ty-spelled n u h.2 g.2)
    term-spelled n m (Term.Unpack p e) h g = (term-spelled n m p h.0 g.0, term-spelled (n + 1) (m + 1) e h.1 g.1)
    term-spelled n m (Term.If a b c) h g = (term-spelled n m a h.0 g.0, term-spelled n m b h.1 g.1, term-spelled n m c h.2 g.2)
    term-spelled n m (Term.Arith o a b) h g = (term-spelled n m a h.0 g.0, term-spelled n m b h.1 g.1)
    term-spelled n m (Term.Fix t u e) h g = (ty-spelled n t h.0 g.0, ty-spelled n u h.1 g.1, term-spelled n (m + 2) e h.2 g.2)
    term-spelled n m (Term.Inj l e t) h g = (h.0, h.1, term-spelled n m e h.2 g.0, ty-spelled n t h.3 g.1)
    term-spelled n m (Term.Case e t row) h g = (h.0, term-spelled n m e h.1 g.0, ty-spelled n t h.2 g.1, term_row-spelled n (m + 1) None row h.3 g.2)
    term-spelled n m (Term.Roll e t) h g = (h.0, term-spelled n m e h.1 g.0, ty-spelled n t h.2 g.1)
    term-spelled n m (Term.Unroll e) h g = (h.0, term-spelled n m e h.1 g)

    term_row-spelled : (n m : ℕ) (last : Option Label) (row : TermRow) → TermRowLegible v last row → TermRowInScope n m row → TermRowSpelled v n m last row
    term_row-spelled n m last TermRow.End h g = tt
    term_row-spelled n m last (TermRow.More l e rest) h g = (h.0, h.1, term-spelled n m e h.2 g.0, term_row-spelled n m (Some l) rest h.3 g.1)

  mutual
    -- a term that has a spelling is legible and has its variables in scope
    pub spelled-term : (n m : ℕ) (e : Term) → TermSpelled v n m e → TermLegible v e × TermInScope n m e
    spelled-term n m (Term.Var i) h = (tt, h)
    spelled-term n m (Term.Int z) h = (h, tt)
    spelled-term n m (Term.Bool b) h = (tt, tt)
    spelled-term n m (Term.Text s) h = (h, tt)
    spelled-term n m (Term.Lam t e) h = let p = spelled-ty n t h.0 in let q = spelled-term n (m + 1) e h.1 in ((p.0, q.0), (p.1, q.1))
    spelled-term n m (Term.Call f a) h = let p = spelled-term n m f h.0 in let q = spelled-term n m a h.1 in ((p.0, q.0), (p.1, q.1))
    spelled-term n m (Term.TyLam k e) h = spelled-term (n + 1) m e h
    spelled-term n m (Term.Inst e t) h = let p = spelled-term n m e h.0 in let q = spelled-ty n t h.1 in ((p.0, q.0), (p.1, q.1))
    spelled-term n m (Term.Fields row) h = spelled-term_row n m None row h
    spelled-term n m (Term.Get e l) h = let p = spelled-term n m e h.0 in ((p.0, h.1), p.1)
    spelled-term n m (Term.Pack t e u) h =
        let p = spelled-ty n t h.0 in
        let q = spelled-term n m e h.1 in
        let r = spelled-ty n u h.2 in
        ((p.0, q.0, r.0), (p.1, q.1, r.1))
    spelled-term n m (Term.Unpack p e) h = let a = spelled-term n m p h.0 in let q = spelled-term (n + 1) (m + 1) e h.1 in ((a.0, q.0), (a.1, q.1))
    spelled-term n m (Term.If a b c) h =
        let p = spelled-term n m a h.0 in
        let q = spelled-term n m b h.1 in
        let r = spelled-term n m c h.2 in
        ((p.0, q.0, r.0), (p.1, q.1, r.1))
    spelled-term n m (Term.Arith o a b) h = let p = spelled-term n m a h.0 in let q = spelled-term n m b h.1 in ((p.0, q.0), (p.1, q.1))
    spelled-term n m (Term.Fix t u e) h =
        let p = spelled-ty n t h.0 in
        let q = spelled-ty n u h.1 in
        let r = spelled-term n (m + 2) e h.2 in
        ((p.0, q.0, r.0), (p.1, q.1, r.1))
    spelled-term n m (Term.Inj l e t) h = let p = spelled-term n m e h.2 in let q = spelled-ty n t h.3 in ((h.0, h.1, p.0, q.0), (p.1, q.1))
    spelled-term n m (Term.Case e t row) h =
        let p = spelled-term n m e h.1 in
        let q = spelled-ty n t h.2 in
        let r = spelled-term_row n (m + 1) None row h.3 in
        ((h.0, p.0, q.0, r.0), (p.1, q.1, r.1))
    spelled-term n m (Term.Roll e t) h = let p = spelled-term n m e h.1 in let q = spelled-ty n t h.2 in ((h.0, p.0, q.0), (p.1, q.1))
    spelled-term n m (Term.Unroll e) h = let p = spelled-term n m e h.1 in ((h.0, p.0), p.1)

    spelled-term_row : (n m : ℕ) (last : Option Label) (row : TermRow) → TermRowSpelled v n m last row → TermRowLegible v last row × TermRowInScope n m row
    spelled-term_row n m last TermRow.End h = (tt, tt)
    spelled-term_row n m last (TermRow.More l e rest) h =
        let p = spelled-term n m e h.2 in
        let q = spelled-term_row n m (Some l) rest h.3 in
        ((h.0, h.1, p.0, q.0), (p.1, q.1))
