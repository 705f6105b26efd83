-- What has a spelling in the first version has one in the second.
-- Main results: ty-later, term-later.
use Rattle.std.proofs.Common.{ℕ, ◌+◌, Option, Some, None, refl}
use Rattle.omega_kinds.specs.declared.label.Label.{Label}
use Rattle.omega_types.specs.Ty.{Ty, Row}
use Rattle.omega_terms.specs.declared.version.Version.TheVariants.{First, Second}
use Rattle.omega_terms.specs.Term.{Term, TermRow}
use Rattle.omega_spelling.specs.Spelled.{TySpelled, RowSpelled}
use Rattle.omega_spelling.specs.TermReading.{TermSpelled, TermRowSpelled}

mutual
  -- a type that is spelled in the first version is so in the second
  pub ty-later : (n : ℕ) (t : Ty) → TySpelled First n t → TySpelled Second n t
  ty-later n (Ty.Var i) s = s
  ty-later n Ty.Int s = tt
  ty-later n Ty.Bool s = tt
  ty-later n Ty.Text s = tt
  ty-later n (Ty.Arrow a b) s = (ty-later n a s.0, ty-later n b s.1)
  ty-later n (Ty.Fields r) s = row-later n None r s
  ty-later n (Ty.Sum r) s = (refl, row-later n None r s.1)
  ty-later n (Ty.All k b) s = ty-later (n + 1) b s
  ty-later n (Ty.Ex k b) s = ty-later (n + 1) b s
  ty-later n (Ty.Mu b) s = (refl, ty-later (n + 1) b s.1)
  ty-later n (Ty.Lam k b) s = ty-later (n + 1) b s
  ty-later n (Ty.Apply f a) s = (ty-later n f s.0, ty-later n a s.1)

  row-later : (n : ℕ) (last : Option Label) (r : Row) → RowSpelled First n last r → RowSpelled Second n last r
  row-later n last Row.End s = tt
  row-later n last (Row.More l t r) s = (s.0, s.1, ty-later n t s.2, row-later n (Some l) r s.3)

mutual
  -- a term that is spelled in the first version is so in the second
  pub term-later : (n m : ℕ) (e : Term) → TermSpelled First n m e → TermSpelled Second n m e
  term-later n m (Term.Var i) s = s
  term-later n m (Term.Int z) s = s
  term-later n m (Term.Bool b) s = tt
  term-later n m (Term.Text bytes) s = s
  term-later n m (Term.Lam t e) s = (ty-later n t s.0, term-later n (m + 1) e s.1)
  term-later n m (Term.Call f a) s = (term-later n m f s.0, term-later n m a s.1)
  term-later n m (Term.TyLam k e) s = term-later (n + 1) m e s
  term-later n m (Term.Inst e t) s = (term-later n m e s.0, ty-later n t s.1)
  term-later n m (Term.Fields r) s = term-row-later n m None r s
  term-later n m (Term.Get e l) s = (term-later n m e s.0, s.1)
  term-later n m (Term.Pack t e u) s = (ty-later n t s.0, term-later n m e s.1, ty-later n u s.2)
  term-later n m (Term.Unpack p e) s = (term-later n m p s.0, term-later (n + 1) (m + 1) e s.1)
  term-later n m (Term.If a b c) s = (term-later n m a s.0, term-later n m b s.1, term-later n m c s.2)
  term-later n m (Term.Arith op a b) s = (term-later n m a s.0, term-later n m b s.1)
  term-later n m (Term.Fix t u e) s = (ty-later n t s.0, ty-later n u s.1, term-later n (m + 2) e s.2)
  term-later n m (Term.Inj l e t) s = (refl, s.1, term-later n m e s.2, ty-later n t s.3)
  term-later n m (Term.Case e t r) s = (refl, term-later n m e s.1, ty-later n t s.2, term-row-later n (m + 1) None r s.3)
  term-later n m (Term.Roll e t) s = (refl, term-later n m e s.1, ty-later n t s.2)
  term-later n m (Term.Unroll e) s = (refl, term-later n m e s.1)

  term-row-later : (n m : ℕ) (last : Option Label) (r : TermRow) → TermRowSpelled First n m last r → TermRowSpelled Second n m last r
  term-row-later n m last TermRow.End s = tt
  term-row-later n m last (TermRow.More l e r) s = (s.0, s.1, term-later n m e s.2, term-row-later n m (Some l) r s.3)
