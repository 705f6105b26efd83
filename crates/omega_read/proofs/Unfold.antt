-- Types and terms by their depth, in one equation.
use Rattle.std.proofs.Common.{◌≡◌, ℕ, zero, suc, ◌-◌, nat_lt, cond, List, refl, arith}
use Rattle.std.specs.Prelude.{codes}
use Rattle.omega_terms.specs.declared.version.Version.{Version}
use Rattle.omega_spelling.specs.Reading.{strip, choose, kind_at, leaf_at, node_at, ty_at}
use Rattle.omega_spelling.specs.TermReading.{term_leaf_at, term_node_at, term_at}
use Rattle.omega_read.proofs.Fronts.{below_zero}

pub ty_unfold : (v : Version) (d n : ℕ) (bytes : List ℕ) → ty_at v d n bytes ≡ cond (nat_lt 0 d) (choose (strip (codes "(") bytes) (node_at v (kind_at (d - 1)) (ty_at v (d - 1)) n) (leaf_at n bytes)) (leaf_at n bytes)
unfolding ty_at
ty_unfold v zero n bytes = refl
ty_unfold v (suc d) n bytes = let e : suc d - 1 ≡ d = omega arith in rw (e, below_zero d) refl

pub term_unfold : (v : Version) (d n m : ℕ) (bytes : List ℕ) → term_at v d n m bytes ≡ cond (nat_lt 0 d) (choose (strip (codes "(") bytes) (term_node_at v (kind_at (d - 1)) (ty_at v (d - 1)) (term_at v (d - 1)) n m) (term_leaf_at m bytes)) (term_leaf_at m bytes)
unfolding term_at
term_unfold v zero n m bytes = refl
term_unfold v (suc d) n m bytes = let e : suc d - 1 ≡ d = omega arith in rw (e, below_zero d) refl
