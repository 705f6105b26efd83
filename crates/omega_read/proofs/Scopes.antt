-- What has a spelling has its variables in scope.
-- Main results: read_scope.
use Rattle.std.proofs.Common.{ℕ, List, Option, Some, None}
use Rattle.std.specs.Prelude.{Result, Ok, Err, IfOk}
use Rattle.omega_kinds.specs.declared.label.Label.{Label}
use Rattle.omega_types.specs.Ty.{Ty, Row}
use Rattle.omega_terms.specs.declared.version.Version.{Version}
use Rattle.omega_terms.specs.Term.{Term, TermRow}
use Rattle.omega_terms.specs.InScope.{TyInScope, RowInScope, TermInScope, TermRowInScope}
use Rattle.omega_spelling.specs.Spelled.{TySpelled, RowSpelled}
use Rattle.omega_spelling.specs.TermReading.{TermSpelled, TermRowSpelled}
use Rattle.omega_read.specs.declared.whole.ReadRefusal.{ReadRefusal}
use Rattle.omega_read.specs.ReadAs.{ReadAs}

mutual
  pub ty_scope : (v : Version) (n : ℕ) (t : Ty) → TySpelled v n t → TyInScope n t
  ty_scope v n (Ty.Var i) s = s
  ty_scope v n Ty.Int s = tt
  ty_scope v n Ty.Bool s = tt
  ty_scope v n Ty.Text s = tt
  ty_scope v n (Ty.Arrow a b) s = (ty_scope v n a s.0, ty_scope v n b s.1)
  ty_scope v n (Ty.Fields r) s = row_scope v n None r s
  ty_scope v n (Ty.Sum r) s = row_scope v n None r s.1
  ty_scope v n (Ty.Mu b) s = ty_scope v _ b s.1
  ty_scope v n (Ty.All k b) s = ty_scope v _ b s
  ty_scope v n (Ty.Ex k b) s = ty_scope v _ b s
  ty_scope v n (Ty.Lam k b) s = ty_scope v _ b s
  ty_scope v n (Ty.Apply f a) s = (ty_scope v n f s.0, ty_scope v n a s.1)

  row_scope : (v : Version) (n : ℕ) (last : Option Label) (r : Row) → RowSpelled v n last r → RowInScope n r
  row_scope v n last Row.End s = tt
  row_scope v n last (Row.More l t r) s = (ty_scope v n t s.2, row_scope v n (Some l) r s.3)

mutual
  pub term_scope : (v : Version) (n m : ℕ) (e : Term) → TermSpelled v n m e → TermInScope n m e
  term_scope v n m (Term.Var i) s = s
  term_scope v n m (Term.Int z) s = tt
  term_scope v n m (Term.Bool b) s = tt
  term_scope v n m (Term.Text bytes) s = tt
  term_scope v n m (Term.Lam t e) s = (ty_scope v n t s.0, term_scope v n _ e s.1)
  term_scope v n m (Term.Call f a) s = (term_scope v n m f s.0, term_scope v n m a s.1)
  term_scope v n m (Term.TyLam k e) s = term_scope v _ m e s
  term_scope v n m (Term.Inst e t) s = (term_scope v n m e s.0, ty_scope v n t s.1)
  term_scope v n m (Term.Fields r) s = term_row_scope v n m None r s
  term_scope v n m (Term.Get e l) s = term_scope v n m e s.0
  term_scope v n m (Term.Pack t e u) s = (ty_scope v n t s.0, term_scope v n m e s.1, ty_scope v n u s.2)
  term_scope v n m (Term.Unpack p e) s = (term_scope v n m p s.0, term_scope v _ _ e s.1)
  term_scope v n m (Term.If a b c) s = (term_scope v n m a s.0, term_scope v n m b s.1, term_scope v n m c s.2)
  term_scope v n m (Term.Arith op a b) s = (term_scope v n m a s.0, term_scope v n m b s.1)
  term_scope v n m (Term.Fix t u e) s = (ty_scope v n t s.0, ty_scope v n u s.1, term_scope v n _ e s.2)
  term_scope v n m (Term.Inj l e t) s = (term_scope v n m e s.2, ty_scope v n t s.3)
  term_scope v n m (Term.Case e t r) s = (term_scope v n m e s.1, ty_scope v n t s.2, term_row_scope v n _ None r s.3)
  term_scope v n m (Term.Roll e t) s = (term_scope v n m e s.1, ty_scope v n t s.2)
  term_scope v n m (Term.Unroll e) s = term_scope v n m e s.1

  term_row_scope : (v : Version) (n m : ℕ) (last : Option Label) (r : TermRow) → TermRowSpelled v n m last r → TermRowInScope n m r
  term_row_scope v n m last TermRow.End s = tt
  term_row_scope v n m last (TermRow.More l e r) s = (term_scope v n m e s.2, term_row_scope v n m (Some l) r s.3)

-- what is read is closed
pub read_scope : (bytes : List ℕ) (r : Result (Ty × Term) ReadRefusal) → ReadAs bytes r → IfOk r (λ x. TyInScope 0 x.0 × TermInScope 0 0 x.1)
read_scope bytes (Ok x) s = (ty_scope s.1.0 0 x.0 s.1.1.type_spelled, term_scope s.1.0 0 0 x.1 s.1.1.term_spelled)
read_scope bytes (Err e) s = tt
