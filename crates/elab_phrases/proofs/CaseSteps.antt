-- Branches of a case one after the other: those that are done, and those that are left.
-- Main results: case-means, case-parts, case-rule.
use Rattle.std.proofs.Common.{◌≡◌, List, [], ◌∷◌, ◌++◌, sym, ap, ◌∙◌, subst}
use Rattle.std.proofs.lemmas.List.{append-nil}
use Rattle.omega_kinds.specs.Kind.{Kind}
use Rattle.omega_kinds.specs.Name.{Name}
use Rattle.omega_types.specs.Normality.{Normal}
use Rattle.omega_types.specs.Ty.{Ty, Row}
use Rattle.omega_terms.specs.Term.{Term}
use Rattle.sig_definitions.specs.Env.{Env, Value, kinds}
use Rattle.sig_definitions.specs.Signatures.RecordOrder.{IsNew}
use Rattle.sig_laws.specs.Good.{OkEnv}
use Rattle.semantic_sigs.specs.declared.made.Typed.{Typed}
use Rattle.fing_syntax.specs.Phrase.{Span, SpanName, TyEx, Exp, ExpAt, ExpCase, Branches, NoBranches, MoreBranches}
use Rattle.fing_syntax.specs.Place.{name_of}
use Rattle.core_rules.specs.Inner.Records.{exp_fields}
use Rattle.core_judgments.specs.ExpRules.{FieldExp, LabelGives, SumGives, CaseGives, CaseRefuses}
use Rattle.elab_judgments.specs.Judgments.Meaning.{TyMeans, ExpMeans, BranchesMean}
use Rattle.elab_judgments.specs.Refusals.Refusal.{of_core}
use Rattle.elab_judgments.specs.Refusals.Task.{an_exp, branches as task}
use Rattle.elab_laws.proofs.SumTyping.{label-normal}
use Rattle.fing_refusals.specs.declared.refusal.Refusal.{Refusal as CodeRefusal}
use Rattle.elab_rules.specs.Inner.Answered.{RefusedAs, ByRule}
use Rattle.elab_rules.specs.Inner.Fields.{names_before}
use Rattle.elab_rules.proofs.Refuse.Sums.{exp_case-branches, exp_case-rule, branch-later}
use Rattle.elab_phrases.proofs.FieldSteps.{exps-more, names-more}

-- under the value that a branch takes
pub branch-env : (g : Env) (y : Name) {w u : Ty} {l : Name} → OkEnv g → Normal (kinds g) w Kind.Star → LabelGives w l u → OkEnv (Value y u ∷ g)
branch-env g y o n l = (label-normal l n, o)

-- the branches that are left of a case, and what those that are done grow to
abbrev pub BranchesLeft : Env → (w t : Ty) → List (Name × Typed) → Branches → List (Name × Typed) → Type 0
BranchesLeft g w t done rest all = (parts : List FieldExp) × BranchesMean g w t (names_before done) rest parts × (exp_fields all ≡ exp_fields done ++ parts)

-- where no branches are left, those that are done are all
pub branches-none : (g : Env) (w t : Ty) (done : List (Name × Typed)) → BranchesLeft g w t done NoBranches done
branches-none g w t done = ([], BranchesMean.no_branches, sym (append-nil (exp_fields done)))

-- one more branch is done, and those that are left grow to the same branches
pub branches-next : {g : Env} {w t u : Ty} {x y : SpanName} {a : Exp} {rest : Branches} (done more all : List (Name × Typed)) (part : Typed)
    → IsNew (name_of x) (names_before done)
    → LabelGives w (name_of x) u
    → ExpMeans (Value (name_of y) u ∷ g) a part.ty part.term
    → part.ty ≡ t
    → more ≡ done ++ ((name_of x, part) ∷ [])
    → BranchesLeft g w t more rest all
    → BranchesLeft g w t done (MoreBranches x y a rest) all
branches-next {g} {w} {t} {u} {x} {y} {a} {rest} done more all part n l m s e left =
    let f : BranchesMean g w t (name_of x ∷ names_before done) rest left.0 = subst (λ ls. BranchesMean g w t ls rest left.0) (ap names_before e ∙ names-more done (name_of x, part)) left.1 in
    let b : ExpMeans (Value (name_of y) u ∷ g) a t part.term = subst (λ v. ExpMeans (Value (name_of y) u ∷ g) a v part.term) s m in
    let q : exp_fields more ++ left.0 ≡ exp_fields done ++ (FieldExp.field (name_of x) t part.term ∷ left.0) =
    rw e (exps-more done (name_of x, part) left.0 ∙ ap (λ v. exp_fields done ++ (FieldExp.field (name_of x) v part.term ∷ left.0)) s) in
    (FieldExp.field (name_of x) t part.term ∷ left.0, BranchesMean.next_branch n l b f, left.2 ∙ q)

-- where the branches after the next one are refused, those that are left are
pub branches-later : {g : Env} {w t u : Ty} {x y : SpanName} {a : Exp} {rest : Branches} {e : CodeRefusal} (done more : List (Name × Typed)) (part : Typed)
    → IsNew (name_of x) (names_before done)
    → LabelGives w (name_of x) u
    → ExpMeans (Value (name_of y) u ∷ g) a part.ty part.term
    → part.ty ≡ t
    → more ≡ done ++ ((name_of x, part) ∷ [])
    → RefusedAs g (task w t (names_before more) rest) e
    → RefusedAs g (task w t (names_before done) (MoreBranches x y a rest)) e
branches-later {g} {w} {t} {x = x} {rest = rest} {e = e} done more part n l m s q r =
    branch-later n l m s (subst (λ ls. RefusedAs g (task w t ls rest) e) (ap names_before q ∙ names-more done (name_of x, part)) r)

-- a case whose branches are all done means what its rule gives
pub case-means : {g : Env} {at : Span} {a : Exp} {b : TyEx} {rest : Branches} {w t v : Ty} {d c : Term} (start all : List (Name × Typed))
    → ExpMeans g a w d
    → TyMeans g b t Kind.Star
    → start ≡ []
    → BranchesLeft g w t start rest all
    → CaseGives w d t Kind.Star (exp_fields all) v c
    → ExpMeans g (ExpAt at (ExpCase a b rest)) v c
case-means {g} {rest = rest} {w = w} {t = t} {v = v} {d = d} {c = c} start all p q s left r =
    let m : BranchesMean g w t [] rest left.0 = subst (λ x. BranchesMean g w t (names_before x) rest left.0) s left.1 in
    let i : exp_fields all ≡ left.0 = left.2 ∙ ap (λ x. exp_fields x ++ left.0) s in
    ExpMeans.exp_case p q m (subst (λ fs. CaseGives w d t Kind.Star fs v c) i r)

-- a case is refused as its branches, from the first one on
pub case-parts : {g : Env} {at : Span} {a : Exp} {b : TyEx} {rest : Branches} {w t : Ty} {row : Row} {d : Term} {e : CodeRefusal} (start : List (Name × Typed))
    → ExpMeans g a w d
    → SumGives w row
    → TyMeans g b t Kind.Star
    → start ≡ []
    → RefusedAs g (task w t (names_before start) rest) e
    → RefusedAs g (an_exp (ExpAt at (ExpCase a b rest))) e
case-parts {g} {rest = rest} {w = w} {t = t} {e = e} start p o q s r = exp_case-branches p o q (subst (λ x. RefusedAs g (task w t (names_before x) rest) e) s r)

-- a case whose branches are all done is refused by its rule
pub case-rule : {g : Env} {at : Span} {a : Exp} {b : TyEx} {rest : Branches} {w t : Ty} {row : Row} {d : Term} {e : CodeRefusal} (start all : List (Name × Typed))
    → ExpMeans g a w d
    → SumGives w row
    → TyMeans g b t Kind.Star
    → start ≡ []
    → BranchesLeft g w t start rest all
    → ByRule of_core g at (CaseRefuses w t Kind.Star (exp_fields all)) e
    → RefusedAs g (an_exp (ExpAt at (ExpCase a b rest))) e
case-rule {g} {at} {rest = rest} {w = w} {t = t} {e = e} start all p o q s left r =
    let m : BranchesMean g w t [] rest left.0 = subst (λ x. BranchesMean g w t (names_before x) rest left.0) s left.1 in
    exp_case-rule p o q m (subst (λ fs. ByRule of_core g at (CaseRefuses w t Kind.Star fs) e) (left.2 ∙ ap (λ x. exp_fields x ++ left.0) s) r)
