-- What the tests tell.
-- Main results: ty-tells, ty-told, term-tells, term-told.
use Rattle.std.proofs.Common.{◌≡◌, ℕ, ◌+◌, ◌^◌, ◌<◌, ◌&&◌, Bool as Truth, true, nat_lt, IsTrue, refl, sym, ◌∙◌, arith}
use Rattle.std.proofs.lemmas.Bool.{and_from, and_parts}
use Rattle.std.proofs.lemmas.Bool.Decides.{nat_tests}
use Rattle.omega_types.specs.Ty.{Ty, Row}
use Rattle.omega_terms.specs.Term.{Term, TermRow}
use Rattle.omega_terms.specs.InScope.{IndexInScope, TyInScope, RowInScope, TermInScope, TermRowInScope}
use Rattle.omega_scopes.specs.Inner.Scoped.{fits, ty_scoped, row_scoped, term_scoped, term_row_scoped}
use Rattle.omega_scopes.specs.Inner.Depth.{ty_depth, row_depth, type_depth, row_type_depth, term_depth, row_term_depth}

-- a test on numbers, and tests one after the other

-- a number that passes the test is below the other
pub below : (n m : ℕ) → nat_lt n m ≡ true → n < m
below n m e = grind (arith, nat_tests)

pub test : (n m : ℕ) → n < m → nat_lt n m ≡ true
test n m lt = grind (arith, nat_tests)

-- if both of two tests hold, what each tells holds
pub two : {P Q : Type 0} (a b : Truth) → (a ≡ true → P) → (b ≡ true → Q) → (a && b) ≡ true → P × Q
two a b f g e = let p = and_parts a b e in (f p.0, g p.1)

pub three : {P Q R : Type 0} (a b d : Truth) → (a ≡ true → P) → (b ≡ true → Q) → (d ≡ true → R) → (a && (b && d)) ≡ true → P × Q × R
three a b d f g h e =
    let p = and_parts a (b && d) e in
    let q = and_parts b d p.1 in
    (f p.0, g q.0, h q.1)

pub under : {P : Type 0} (n : ℕ) (b : Truth) → (n < 2 ^ 64 → b ≡ true → P) → (fits n && b) ≡ true → P
under n b f e = let p = and_parts (fits n) b e in f (below n (2 ^ 64) p.0) p.1

-- a number that fits 64 bits passes the test with another one that holds
pub under_true : (n : ℕ) (b : Truth) → n < 2 ^ 64 → b ≡ true → (fits n && b) ≡ true
under_true n b lt e = and_from (fits n) b (test n (2 ^ 64) lt) e

index-in : (n i : ℕ) → n < 2 ^ 64 → nat_lt i n ≡ true → IndexInScope n i
index-in n i wide e = let lt = below i n e in (lt, omega arith)

-- types

mutual
  -- a type that passes the test has its variables in scope
  pub ty-sound : (n : ℕ) (t : Ty) → n < 2 ^ 64 → ty_scoped n t ≡ true → TyInScope n t
  ty-sound n (Ty.Var i) w e = index-in n i w e
  ty-sound n Ty.Int w e = tt
  ty-sound n Ty.Bool w e = tt
  ty-sound n Ty.Text w e = tt
  ty-sound n (Ty.Arrow a b) w e = two (ty_scoped n a) (ty_scoped n b) (ty-sound n a w) (ty-sound n b w) e
  ty-sound n (Ty.Fields row) w e = row-sound n row w e
  ty-sound n (Ty.Sum row) w e = row-sound n row w e
  ty-sound n (Ty.All k b) w e = under (n + 1) (ty_scoped (n + 1) b) (ty-sound (n + 1) b) e
  ty-sound n (Ty.Ex k b) w e = under (n + 1) (ty_scoped (n + 1) b) (ty-sound (n + 1) b) e
  ty-sound n (Ty.Mu b) w e = under (n + 1) (ty_scoped (n + 1) b) (ty-sound (n + 1) b) e
  ty-sound n (Ty.Lam k b) w e = under (n + 1) (ty_scoped (n + 1) b) (ty-sound (n + 1) b) e
  ty-sound n (Ty.Apply f a) w e = two (ty_scoped n f) (ty_scoped n a) (ty-sound n f w) (ty-sound n a w) e

  row-sound : (n : ℕ) (row : Row) → n < 2 ^ 64 → row_scoped n row ≡ true → RowInScope n row
  row-sound n Row.End w e = tt
  row-sound n (Row.More l t rest) w e = two (ty_scoped n t) (row_scoped n rest) (ty-sound n t w) (row-sound n rest w) e

mutual
  -- a type with its variables in scope, if its levels fit 64 bits, passes the test
  pub ty-complete : (n : ℕ) (t : Ty) → TyInScope n t → n + ty_depth t < 2 ^ 64 → ty_scoped n t ≡ true
  ty-complete n (Ty.Var i) s h = test i n s.0
  ty-complete n Ty.Int s h = refl
  ty-complete n Ty.Bool s h = refl
  ty-complete n Ty.Text s h = refl
  ty-complete n (Ty.Arrow a b) s h = and_from (ty_scoped n a) (ty_scoped n b) (ty-complete n a s.0 (omega arith)) (ty-complete n b s.1 (omega arith))
  ty-complete n (Ty.Fields row) s h = row-complete n row s h
  ty-complete n (Ty.Sum row) s h = row-complete n row s h
  ty-complete n (Ty.All k b) s h = under_true (n + 1) (ty_scoped (n + 1) b) (omega arith) (ty-complete (n + 1) b s (omega arith))
  ty-complete n (Ty.Ex k b) s h = under_true (n + 1) (ty_scoped (n + 1) b) (omega arith) (ty-complete (n + 1) b s (omega arith))
  ty-complete n (Ty.Mu b) s h = under_true (n + 1) (ty_scoped (n + 1) b) (omega arith) (ty-complete (n + 1) b s (omega arith))
  ty-complete n (Ty.Lam k b) s h = under_true (n + 1) (ty_scoped (n + 1) b) (omega arith) (ty-complete (n + 1) b s (omega arith))
  ty-complete n (Ty.Apply f a) s h = and_from (ty_scoped n f) (ty_scoped n a) (ty-complete n f s.0 (omega arith)) (ty-complete n a s.1 (omega arith))

  row-complete : (n : ℕ) (row : Row) → RowInScope n row → n + row_depth row < 2 ^ 64 → row_scoped n row ≡ true
  row-complete n Row.End s h = refl
  row-complete n (Row.More l t rest) s h = and_from (ty_scoped n t) (row_scoped n rest) (ty-complete n t s.0 (omega arith)) (row-complete n rest s.1 (omega arith))

-- a type that passes the test has its variables in scope
pub ty-tells : (n : ℕ) (t : Ty) (r : Truth) → n < 2 ^ 64 → r ≡ ty_scoped n t → IsTrue r → TyInScope n t
ty-tells n t r w is told = ty-sound n t w (sym is ∙ told)

-- a type with its variables in scope, if its levels fit 64 bits, passes the test
pub ty-told : (n : ℕ) (t : Ty) (r : Truth) → r ≡ ty_scoped n t → TyInScope n t → n + ty_depth t < 2 ^ 64 → IsTrue r
ty-told n t r is s h = is ∙ ty-complete n t s h

-- terms

mutual
  pub term-sound : (n m : ℕ) (e : Term) → n < 2 ^ 64 → m < 2 ^ 64 → term_scoped n m e ≡ true → TermInScope n m e
  term-sound n m (Term.Var i) w v h = index-in m i v h
  term-sound n m (Term.Int z) w v h = tt
  term-sound n m (Term.Bool b) w v h = tt
  term-sound n m (Term.Text s) w v h = tt
  term-sound n m (Term.Lam t e) w v h = two (ty_scoped n t) _ (ty-sound n t w) (under (m + 1) (term_scoped n (m + 1) e) (term-sound n (m + 1) e w)) h
  term-sound n m (Term.Call f a) w v h = two (term_scoped n m f) (term_scoped n m a) (term-sound n m f w v) (term-sound n m a w v) h
  term-sound n m (Term.TyLam k e) w v h = under (n + 1) (term_scoped (n + 1) m e) (λ x. term-sound (n + 1) m e x v) h
  term-sound n m (Term.Inst e t) w v h = two (term_scoped n m e) (ty_scoped n t) (term-sound n m e w v) (ty-sound n t w) h
  term-sound n m (Term.Fields row) w v h = term_row-sound n m row w v h
  term-sound n m (Term.Get e l) w v h = term-sound n m e w v h
  term-sound n m (Term.Pack t e u) w v h =
      three (ty_scoped n t) (term_scoped n m e) (ty_scoped n u) (ty-sound n t w) (term-sound n m e w v) (ty-sound n u w) h
  term-sound n m (Term.Unpack p e) w v h =
      two (term_scoped n m p) _ (term-sound n m p w v) (under (n + 1) (fits (m + 1) && term_scoped (n + 1) (m + 1) e) (λ x. under (m + 1) (term_scoped (n + 1) (m + 1) e) (term-sound (n + 1) (m + 1) e x))) h
  term-sound n m (Term.If a b c) w v h =
      three (term_scoped n m a) (term_scoped n m b) (term_scoped n m c) (term-sound n m a w v) (term-sound n m b w v) (term-sound n m c w v) h
  term-sound n m (Term.Arith op a b) w v h = two (term_scoped n m a) (term_scoped n m b) (term-sound n m a w v) (term-sound n m b w v) h
  term-sound n m (Term.Fix t u e) w v h =
      three (ty_scoped n t) (ty_scoped n u) _ (ty-sound n t w) (ty-sound n u w) (under (m + 2) (term_scoped n (m + 2) e) (term-sound n (m + 2) e w)) h
  term-sound n m (Term.Inj l e t) w v h = two (term_scoped n m e) (ty_scoped n t) (term-sound n m e w v) (ty-sound n t w) h
  term-sound n m (Term.Case e t row) w v h =
      three (term_scoped n m e) (ty_scoped n t) _ (term-sound n m e w v) (ty-sound n t w) (under (m + 1) (term_row_scoped n (m + 1) row) (term_row-sound n (m + 1) row w)) h
  term-sound n m (Term.Roll e t) w v h = two (term_scoped n m e) (ty_scoped n t) (term-sound n m e w v) (ty-sound n t w) h
  term-sound n m (Term.Unroll e) w v h = term-sound n m e w v h

  term_row-sound : (n m : ℕ) (row : TermRow) → n < 2 ^ 64 → m < 2 ^ 64 → term_row_scoped n m row ≡ true → TermRowInScope n m row
  term_row-sound n m TermRow.End w v h = tt
  term_row-sound n m (TermRow.More l e rest) w v h =
      two (term_scoped n m e) (term_row_scoped n m rest) (term-sound n m e w v) (term_row-sound n m rest w v) h

mutual
  pub term-complete : (n m : ℕ) (e : Term) → TermInScope n m e → n + type_depth e < 2 ^ 64 → m + term_depth e < 2 ^ 64 → term_scoped n m e ≡ true
  term-complete n m (Term.Var i) s g h = test i m s.0
  term-complete n m (Term.Int z) s g h = refl
  term-complete n m (Term.Bool b) s g h = refl
  term-complete n m (Term.Text b) s g h = refl
  term-complete n m (Term.Lam t e) s g h =
      and_from (ty_scoped n t) _ (ty-complete n t s.0 (omega arith)) (under_true (m + 1) (term_scoped n (m + 1) e) (omega arith) (term-complete n (m + 1) e s.1 (omega arith) (omega arith)))
  term-complete n m (Term.Call f a) s g h =
      and_from (term_scoped n m f) (term_scoped n m a) (term-complete n m f s.0 (omega arith) (omega arith)) (term-complete n m a s.1 (omega arith) (omega arith))
  term-complete n m (Term.TyLam k e) s g h =
      under_true (n + 1) (term_scoped (n + 1) m e) (omega arith) (term-complete (n + 1) m e s (omega arith) h)
  term-complete n m (Term.Inst e t) s g h =
      and_from (term_scoped n m e) (ty_scoped n t) (term-complete n m e s.0 (omega arith) h) (ty-complete n t s.1 (omega arith))
  term-complete n m (Term.Fields row) s g h = term_row-complete n m row s g h
  term-complete n m (Term.Get e l) s g h = term-complete n m e s g h
  term-complete n m (Term.Pack t e u) s g h =
      let rest = and_from (term_scoped n m e) (ty_scoped n u) (term-complete n m e s.1 (omega arith) h) (ty-complete n u s.2 (omega arith)) in
      and_from (ty_scoped n t) _ (ty-complete n t s.0 (omega arith)) rest
  term-complete n m (Term.Unpack p e) s g h =
      let body = under_true (m + 1) (term_scoped (n + 1) (m + 1) e) (omega arith) (term-complete (n + 1) (m + 1) e s.1 (omega arith) (omega arith)) in
      let rest = under_true (n + 1) (fits (m + 1) && term_scoped (n + 1) (m + 1) e) (omega arith) body in
      and_from (term_scoped n m p) _ (term-complete n m p s.0 (omega arith) (omega arith)) rest
  term-complete n m (Term.If a b c) s g h =
      let rest = and_from (term_scoped n m b) (term_scoped n m c) (term-complete n m b s.1 (omega arith) (omega arith)) (term-complete n m c s.2 (omega arith) (omega arith)) in
      and_from (term_scoped n m a) _ (term-complete n m a s.0 (omega arith) (omega arith)) rest
  term-complete n m (Term.Arith op a b) s g h =
      and_from (term_scoped n m a) (term_scoped n m b) (term-complete n m a s.0 (omega arith) (omega arith)) (term-complete n m b s.1 (omega arith) (omega arith))
  term-complete n m (Term.Fix t u e) s g h =
      let body = under_true (m + 2) (term_scoped n (m + 2) e) (omega arith) (term-complete n (m + 2) e s.2 (omega arith) (omega arith)) in
      let rest = and_from (ty_scoped n u) (fits (m + 2) && term_scoped n (m + 2) e) (ty-complete n u s.1 (omega arith)) body in
      and_from (ty_scoped n t) _ (ty-complete n t s.0 (omega arith)) rest
  term-complete n m (Term.Inj l e t) s g h =
      and_from (term_scoped n m e) (ty_scoped n t) (term-complete n m e s.0 (omega arith) h) (ty-complete n t s.1 (omega arith))
  term-complete n m (Term.Case e t row) s g h =
      let branches = under_true (m + 1) (term_row_scoped n (m + 1) row) (omega arith) (term_row-complete n (m + 1) row s.2 (omega arith) (omega arith)) in
      let rest = and_from (ty_scoped n t) _ (ty-complete n t s.1 (omega arith)) branches in
      and_from (term_scoped n m e) _ (term-complete n m e s.0 (omega arith) (omega arith)) rest
  term-complete n m (Term.Roll e t) s g h =
      and_from (term_scoped n m e) (ty_scoped n t) (term-complete n m e s.0 (omega arith) h) (ty-complete n t s.1 (omega arith))
  term-complete n m (Term.Unroll e) s g h = term-complete n m e s g h

  term_row-complete : (n m : ℕ) (row : TermRow) → TermRowInScope n m row → n + row_type_depth row < 2 ^ 64 → m + row_term_depth row < 2 ^ 64 → term_row_scoped n m row ≡ true
  term_row-complete n m TermRow.End s g h = refl
  term_row-complete n m (TermRow.More l e rest) s g h =
      and_from (term_scoped n m e) (term_row_scoped n m rest) (term-complete n m e s.0 (omega arith) (omega arith)) (term_row-complete n m rest s.1 (omega arith) (omega arith))

-- a term that passes the test has its variables in scope
pub term-tells : (n m : ℕ) (e : Term) (r : Truth) → n < 2 ^ 64 → m < 2 ^ 64 → r ≡ term_scoped n m e → IsTrue r → TermInScope n m e
term-tells n m e r w v is told = term-sound n m e w v (sym is ∙ told)

-- a term with its variables in scope, if its levels fit 64 bits, passes the test
pub term-told : (n m : ℕ) (e : Term) (r : Truth) → r ≡ term_scoped n m e → TermInScope n m e → n + type_depth e < 2 ^ 64 → m + term_depth e < 2 ^ 64 → IsTrue r
term-told n m e r is s g h = is ∙ term-complete n m e s g h
