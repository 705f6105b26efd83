-- A sealed structure: its term, the simplified term, and what both come to.
use Rattle.std.specs.Prelude.{[], ◌∷◌, ◌≡◌, codes, pos}
use Rattle.omega_kinds.specs.Kind.{Kind}
use Rattle.omega_kinds.specs.declared.label.Label.{Label}
use Rattle.omega_types.specs.Ty.{Ty, Row}
use Rattle.omega_terms.specs.Term.{Term, TermRow}
use Rattle.omega_terms.specs.Steps.{End, Ends}
use Rattle.omega_terms.specs.ValueText.{value_text}
use Rattle.omega_simplify_laws.specs.Simplified.{simplified}

-- names: t, x, M, and the hidden %0 and %1
abbrev pub t : Label
t = Label.Name (116 ∷ [])

abbrev pub x : Label
x = Label.Name (120 ∷ [])

abbrev pub M : Label
M = Label.Name (77 ∷ [])

abbrev pub h0 : Label
h0 = Label.Name (37 ∷ 48 ∷ [])

abbrev pub h1 : Label
h1 = Label.Name (37 ∷ 49 ∷ [])

abbrev pub one_part : Label → Ty → Ty
one_part l a = Ty.Fields (Row.More l a Row.End)

abbrev pub two_parts : Label → Ty → Label → Ty → Ty
two_parts l a m b = Ty.Fields (Row.More l a (Row.More m b Row.End))

abbrev pub one_field : Label → Term → Term
one_field l a = Term.Fields (TermRow.More l a TermRow.End)

abbrev pub two_fields : Label → Term → Label → Term → Term
two_fields l a m b = Term.Fields (TermRow.More l a (TermRow.More m b TermRow.End))

-- (rec (.typ (all (> * *) (-> (@ a0 n) (@ a0 n))))), where n is the index of the type under the binder
abbrev pub type_part : Ty → Ty
type_part n = one_part Label.Typ (Ty.All (Kind.Arrow Kind.Star Kind.Star) (Ty.Arrow (Ty.Apply (Ty.Var 0) n) (Ty.Apply (Ty.Var 0) n)))

abbrev pub T : Ty
T = type_part Ty.Int

abbrev pub V : Ty
V = one_part Label.Val Ty.Int

abbrev pub R : Ty
R = two_parts t T x V

-- (some * (rec (M (rec (t (rec (.typ (all (> * *) (-> (@ a1 a0) (@ a1 a0)))))) (x (rec (.val a0)))))))
abbrev pub W : Ty
W = Ty.Ex Kind.Star (one_part M (two_parts t (type_part (Ty.Var 1)) x (one_part Label.Val (Ty.Var 0))))

-- (rec (.typ (tfn (> * *) (fn (@ a0 int) x0))))
abbrev pub the_type : Term
the_type = one_field Label.Typ (Term.TyLam (Kind.Arrow Kind.Star Kind.Star) (Term.Lam (Ty.Apply (Ty.Var 0) Ty.Int) (Term.Var 0)))

-- (rec (.val 5))
abbrev pub the_five : Term
the_five = one_field Label.Val (Term.Int (pos 5))

-- (fn R (rec (t (call (fn T x2) (get x1 t))) (x (call (fn V x2) (get x1 x)))))
abbrev pub coercion : Term
coercion =
    let first = Term.Call (Term.Lam T (Term.Var 0)) (Term.Get (Term.Var 0) t) in
    let second = Term.Call (Term.Lam V (Term.Var 0)) (Term.Get (Term.Var 0) x) in
    Term.Lam R (two_fields t first x second)

-- (call (fn T (call (fn V (rec (t x0) (x x1))) (rec (.val 5)))) (rec (.typ (tfn (> * *) (fn (@ a0 int) x0)))))
abbrev pub structure : Term
structure = Term.Call (Term.Lam T (Term.Call (Term.Lam V (two_fields t (Term.Var 1) x (Term.Var 0))) the_five)) the_type

-- module M = struct type t = Int val x = 5 end :> sig type t val x : t end, whose structure is sealed by e
abbrev pub sealed_by : Term → Term
sealed_by e =
    let hidden = Term.Lam R (Term.Call (Term.Lam R (two_fields h0 (Term.Var 0) h1 (Term.Var 1))) e) in
    Term.Pack Ty.Int (Term.Call (Term.Lam R (one_field M (Term.Var 0))) (Term.Get (Term.Call hidden structure) h0)) W

abbrev pub sealed : Term
sealed = sealed_by (Term.Call coercion (Term.Var 0))

abbrev pub value : Term
value = Term.Pack Ty.Int (one_field M (two_fields t the_type x the_five)) W

-- the coercion goes, and with it five of eleven steps
pub record SealedRow : Type 0 where
  pub goes : simplified sealed ≡ sealed_by (Term.Var 0)
  pub long : Ends sealed 11 (End.the_value value)
  pub short : Ends (simplified sealed) 6 (End.the_value value)
  pub text : value_text value ≡ codes "M = {t = type, x = 5}\n"
