-- What cases on sums give is typed: the branches, in the order of the sum's labels, have the type of the case, each under a
-- value of the type of its label.
-- Main results: case-typed.
use Rattle.std.specs.Prelude.{List, [], ◌∷◌, ◌≡◌, ◌≢◌}
use Rattle.std.proofs.Math.Path.{sym, ◌∙◌, ap}
use Rattle.omega_kinds.specs.Kind.{Kind}
use Rattle.omega_kinds.specs.declared.label.Label.{Label}
use Rattle.omega_kinds.specs.Name.{Name}
use Rattle.omega_types.specs.Ty.{Ty, Row}
use Rattle.omega_types.specs.Kinding.{Fresh}
use Rattle.omega_types.specs.Normality.{Normal, Normals}
use Rattle.omega_types.specs.Normality.Normals.{n_end, n_more}
use Rattle.omega_terms.specs.Term.{Term, TermRow}
use Rattle.omega_terms.specs.Typing.{HasPart}
use Rattle.omega_terms.proofs.NormalTyping.{Typed, TypedBranches, recast, normal-sum}
use Rattle.sig_definitions.specs.Verdict.{Perhaps, one, none}
use Rattle.sig_laws.proofs.Formed.Forms.{part-at}
use Rattle.core_judgments.specs.ExpRules.{FieldExp, LabelGives, HasBranch, InOrder}

-- labels and their types

part-same : {row : Row} {l : Label} {t u : Ty} → HasPart row l t → HasPart row l u → t ≡ u
part-same {row} {l} {t} {u} p q = go (part-at row l)
  where
    go : Perhaps (λ x. HasPart row l x) → t ≡ u
    go (one x h only) = only t p ∙ sym (only u q)
    go (none never) = absurd (never t p)

fresh-part : {l m : Label} {u : Ty} {row : Row} → Fresh l row → HasPart row m u → m ≢ l
fresh-part f HasPart.here e = f.0 (sym e)
fresh-part f (HasPart.there d p) e = fresh-part f.1 p e

-- the part of a label in a normal row is normal
pub part-normal : {ctx : List Kind} {row : Row} {l : Label} {t : Ty} → Normals ctx row → HasPart row l t → Normal ctx t Kind.Star
part-normal n_end p = elim p [ ]
part-normal (n_more f n more) HasPart.here = n
part-normal (n_more f n more) (HasPart.there d p) = part-normal more p

-- the type of the value that a branch takes
pub label-normal : {ctx : List Kind} {w u : Ty} {l : Name} → LabelGives w l u → Normal ctx w Kind.Star → Normal ctx u Kind.Star
label-normal (LabelGives.label p) n = part-normal (normal-sum n) p

-- branches of a case on a sum: each has the type of the case, under a value of the type of its label
pub data BranchesTyped (ctx : List Kind) (vars : List Ty) (row : Row) (t : Ty) : List FieldExp → Type 0 where
  no_branches : BranchesTyped ctx vars row t []
  next_branch : {l : Name} {u : Ty} {e : Term} {rest : List FieldExp}
      → HasPart row (Label.Name l) u
      → Typed ctx (u ∷ vars) e t
      → BranchesTyped ctx vars row t rest
      → BranchesTyped ctx vars row t (FieldExp.field l t e ∷ rest)

-- the branch for a label of the sum
branch-typed : {ctx : List Kind} {vars : List Ty} {row : Row} {t u : Ty} {branches : List FieldExp} {l : Label} {e : Term}
    → BranchesTyped ctx vars row t branches
    → HasPart row l u
    → HasBranch branches l e
    → Typed ctx (u ∷ vars) e t
branch-typed BranchesTyped.no_branches q b = elim b [ ]
branch-typed {vars = vars} (BranchesTyped.next_branch p h more) q HasBranch.here = recast (ap (λ x. x ∷ vars) (part-same p q)) h
branch-typed (BranchesTyped.next_branch p h more) q (HasBranch.there n b) = branch-typed more q b

-- the branches for the labels of a sum, in its order
in-order : {ctx : List Kind} {vars : List Ty} {t : Ty} {branches : List FieldExp} {row : Row} {es : TermRow}
    → Normals ctx row
    → ((l : Label) (u : Ty) (e : Term) → HasPart row l u → HasBranch branches l e → Typed ctx (u ∷ vars) e t)
    → InOrder branches row es
    → TypedBranches ctx vars es row t
in-order n f InOrder.no_labels = TypedBranches.none
in-order (n_more d n more) f (InOrder.next_label {l = l} {t = u} {e = e} b o) =
    TypedBranches.branch (f l u e HasPart.here b) (in-order more (λ m x c p g. f m x c (HasPart.there (fresh-part d p) p) g) o)

-- a case on a sum is typed if its branches are, in the order of the sum's labels
pub case-typed : {ctx : List Kind} {vars : List Ty} {row : Row} {t : Ty} {e : Term} {branches : List FieldExp} {es : TermRow}
    → Typed ctx vars e (Ty.Sum row)
    → Normals ctx row
    → Normal ctx t Kind.Star
    → BranchesTyped ctx vars row t branches
    → InOrder branches row es
    → Typed ctx vars (Term.Case e t es) t
case-typed h n m b o = Typed.case h m (in-order n (λ l u d p g. branch-typed b p g) o)
