-- What a list holds a longer one holds too.
-- Main results: number-more.
use Rattle.std.specs.Prelude.{ℕ, List, ◌∷◌, Option, Some, None}
use Rattle.omega_kinds.specs.Kind.{Kind}
use Rattle.omega_types.specs.Ty.{Ty, Row}
use Rattle.omega_terms.specs.Term.{Term, TermRow}
use Rattle.omega_terms.specs.Typing.{shift_all}
use Rattle.type_store.specs.Numbers.{NumberOf}
use Rattle.type_store.specs.Trees.{Begins}
use Rattle.type_store.proofs.TreeLaws.{holds-more}
use Rattle.omega_node_laws.specs.Held.{Has, Held, HeldFields, HeldBranches}

-- the number of a type is its number in a longer list
pub number-more : (ts us : List Ty) (o : Option ℕ) (t : Option Ty) → Begins ts us → NumberOf ts o t → NumberOf us o t
number-more ts us None None b h = tt
number-more ts us None (Some t) b h = h
number-more ts us (Some n) None b h = h
number-more ts us (Some n) (Some t) b h = holds-more ts us n t b h

module _ (ts us : List Ty) (b : Begins ts us) where
  pub has-more : (o : Option Ty) → Has ts o → Has us o
  has-more o h = record { number = h.number; is_number = number-more ts us (Some h.number) o b h.is_number }

  mutual
    -- what a list holds of the nodes of a term, a longer one holds too
    pub held-more : (ctx : List Kind) (vars : List Ty) (e : Term) → Held ts ctx vars e → Held us ctx vars e
    held-more ctx vars (Term.Var n) h = has-more _ h
    held-more ctx vars (Term.Int z) h = has-more _ h
    held-more ctx vars (Term.Bool x) h = has-more _ h
    held-more ctx vars (Term.Text s) h = has-more _ h
    held-more ctx vars (Term.Lam t e) h = (has-more _ h.0, (h.1.0, h.1.1, held-more ctx (h.1.0 ∷ vars) e h.1.2))
    held-more ctx vars (Term.Call (Term.Lam t e) a) h =
        (has-more _ h.0, (held-more ctx vars a h.1.0, (h.1.1.0, h.1.1.1, has-more _ h.1.1.2, held-more ctx (h.1.1.0 ∷ vars) e h.1.1.3)))
    held-more ctx vars (Term.Call f a) h = (has-more _ h.0, (held-more ctx vars a h.1.0, held-more ctx vars f h.1.1))
    held-more ctx vars (Term.TyLam k e) h = (has-more _ h.0, held-more (k ∷ ctx) (shift_all vars) e h.1)
    held-more ctx vars (Term.Inst e t) h = (has-more _ h.0, held-more ctx vars e h.1)
    held-more ctx vars (Term.Fields row) h = (has-more _ h.0, fields-more ctx vars row h.1)
    held-more ctx vars (Term.Get e l) h = (has-more _ h.0, held-more ctx vars e h.1)
    held-more ctx vars (Term.Pack t e u) h = (has-more _ h.0, held-more ctx vars e h.1)
    held-more ctx vars (Term.Unpack p e) h =
        (has-more _ h.0, (held-more ctx vars p h.1.0, (h.1.1.0, h.1.1.1, h.1.1.2, held-more (h.1.1.0 ∷ ctx) (h.1.1.1 ∷ shift_all vars) e h.1.1.3)))
    held-more ctx vars (Term.If x y z) h = (has-more _ h.0, (held-more ctx vars x h.1.0, held-more ctx vars y h.1.1, held-more ctx vars z h.1.2))
    held-more ctx vars (Term.Arith op x y) h = (has-more _ h.0, (held-more ctx vars x h.1.0, held-more ctx vars y h.1.1))
    held-more ctx vars (Term.Fix t u e) h =
        (has-more _ h.0, (h.1.0, h.1.1, h.1.2, h.1.3, held-more ctx (h.1.0 ∷ (Ty.Arrow h.1.0 h.1.1 ∷ vars)) e h.1.4))
    held-more ctx vars (Term.Inj l e t) h = (has-more _ h.0, held-more ctx vars e h.1)
    held-more ctx vars (Term.Case e t row) h =
        (has-more _ h.0, (held-more ctx vars e h.1.0, (h.1.1.0, h.1.1.1, branches-more ctx vars row h.1.1.0 h.1.1.2)))
    held-more ctx vars (Term.Roll e t) h = (has-more _ h.0, held-more ctx vars e h.1)
    held-more ctx vars (Term.Unroll e) h = (has-more _ h.0, held-more ctx vars e h.1)

    -- what a list holds of the nodes of a record's fields, a longer one holds too
    pub fields-more : (ctx : List Kind) (vars : List Ty) (row : TermRow) → HeldFields ts ctx vars row → HeldFields us ctx vars row
    fields-more ctx vars TermRow.End h = tt
    fields-more ctx vars (TermRow.More l e rest) h = (held-more ctx vars e h.0, fields-more ctx vars rest h.1)

    pub branches-more : (ctx : List Kind) (vars : List Ty) (row : TermRow) (r : Row) → HeldBranches ts ctx vars row r → HeldBranches us ctx vars row r
    branches-more ctx vars TermRow.End r h = tt
    branches-more ctx vars (TermRow.More l e rest) Row.End h = tt
    branches-more ctx vars (TermRow.More l e rest) (Row.More m u r) h = (held-more ctx (u ∷ vars) e h.0, branches-more ctx vars rest r h.1)
