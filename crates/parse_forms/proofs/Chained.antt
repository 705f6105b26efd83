-- Chains whose items are kept with the first one last.
-- Main results: ty_applied, op_chained, arg_chained.
use Rattle.std.proofs.Common.{◌≡◌, List, [], ◌∷◌, ◌++◌, refl, sym, ◌∙◌, ap, subst}
use Rattle.std.specs.Prelude.{None, Some, reverse, Result, Ok, Err, IfErr}
use Rattle.std.specs.List.{slice_get}
use Rattle.std.proofs.lemmas.List.{reverse-append}
use Rattle.fing_syntax.specs.Phrase as tree
use Rattle.fing_syntax.specs.Phrase.{Bind, Exp, ExpAt, ExpOps, ExpApply, TyEx, TyAt, TyApply}
use Rattle.fing_syntax.specs.Place.{ty_span, exp_span, arg_span, up_to}
use Rattle.fing_syntax.specs.Inner.View.{arg_of, binds, tys, ops, args}
use Rattle.fing_syntax.specs.declared.leaf.Op.{Op}
use Rattle.fing_syntax.specs.declared.tree.Arg.{Arg}
use Rattle.parse_grammar.specs.Forms.{bind_then, last_ty, ty_chain_of, last_op, ops_of, last_arg, args_of}

pub reverse_push : {A : Type 0} (xs : List A) (x : A) → reverse (xs ++ x ∷ []) ≡ x ∷ reverse xs
reverse_push xs x = reverse-append xs (x ∷ [])

pub bind_last : (xs : List Bind) (b : Bind) → binds (xs ++ b ∷ []) ≡ bind_then (binds xs) b
bind_last [] b = refl
bind_last (x ∷ xs) b = ap (λ z. tree.MoreBinds x z) (bind_last xs b)

record Front {A : Type 0} (xs : List A) (x : A) : Type 0 where
  rest : List A
  is : xs ≡ x ∷ rest

front : {A : Type 0} (xs : List A) (x : A) → Some x ≡ slice_get xs 0 → Front xs x
front [] x e = absurd (cc)
front (y ∷ ys) x e = let q : y ≡ x = cc in record { rest = ys; is = ap (λ z. z ∷ ys) q }

nothing : {A : Type 0} (xs : List A) → None ≡ slice_get xs 0 → xs ≡ []
nothing [] e = refl
nothing (x ∷ xs) e = absurd (cc)

-- types
last_type : (t : TyEx) (zs : List TyEx) (x : TyEx) → last_ty t (tys (zs ++ x ∷ [])) ≡ ty_span x
last_type t [] x = refl
last_type t (z ∷ zs) x = last_type z zs x

applied : (t : TyEx) (zs : List TyEx) (x : TyEx) → ty_chain_of t (tys (zs ++ x ∷ [])) ≡ TyAt (up_to (ty_span t) (ty_span x)) (TyApply t (tys (zs ++ x ∷ [])))
applied t [] x = refl
applied t (z ∷ zs) x = ap (λ s. TyAt (up_to (ty_span t) s) (TyApply t (tys (z ∷ (zs ++ x ∷ []))))) (last_type z zs x)

pub ty_alone : (t : TyEx) (xs : List TyEx) → None ≡ slice_get xs 0 → ty_chain_of t (tys (reverse xs)) ≡ t
ty_alone t xs e = ap (λ z. ty_chain_of t (tys (reverse z))) (nothing xs e)

-- a type with arguments, kept last first, is the application up to the last one
pub ty_applied : (t : TyEx) (xs : List TyEx) (x : TyEx) → Some x ≡ slice_get xs 0 → ty_chain_of t (tys (reverse xs)) ≡ TyAt (up_to (ty_span t) (ty_span x)) (TyApply t (tys (reverse xs)))
ty_applied t xs x e =
    let f : Front xs x = front xs x e in
    let r : reverse xs ≡ reverse f.rest ++ x ∷ [] = ap reverse f.is ∙ reverse-append (x ∷ []) f.rest in
    subst (λ z. ty_chain_of t (tys z) ≡ TyAt (up_to (ty_span t) (ty_span x)) (TyApply t (tys z))) (sym r) (applied t (reverse f.rest) x)

-- operators
last_operand : (e : Exp) (zs : List (Op × Exp)) (x : Op × Exp) → last_op e (ops (zs ++ x ∷ [])) ≡ exp_span x.1
last_operand e [] x = refl
last_operand e (z ∷ zs) x = last_operand z.1 zs x

chained : (e : Exp) (zs : List (Op × Exp)) (x : Op × Exp) → ops_of e (ops (zs ++ x ∷ [])) ≡ ExpAt (up_to (exp_span e) (exp_span x.1)) (ExpOps e (ops (zs ++ x ∷ [])))
chained e [] x = refl
chained e (z ∷ zs) x = ap (λ s. ExpAt (up_to (exp_span e) s) (ExpOps e (ops (z ∷ (zs ++ x ∷ []))))) (last_operand z.1 zs x)

pub op_alone : (e : Exp) (xs : List (Op × Exp)) → None ≡ slice_get xs 0 → ops_of e (ops (reverse xs)) ≡ e
op_alone e xs h = ap (λ z. ops_of e (ops (reverse z))) (nothing xs h)

-- an expression with operands, kept last first, is the operation up to the last one
pub op_chained : (e : Exp) (xs : List (Op × Exp)) (x : Op × Exp) → Some x ≡ slice_get xs 0 → ops_of e (ops (reverse xs)) ≡ ExpAt (up_to (exp_span e) (exp_span x.1)) (ExpOps e (ops (reverse xs)))
op_chained e xs x h =
    let f : Front xs x = front xs x h in
    let r : reverse xs ≡ reverse f.rest ++ x ∷ [] = ap reverse f.is ∙ reverse-append (x ∷ []) f.rest in
    subst (λ z. ops_of e (ops z) ≡ ExpAt (up_to (exp_span e) (exp_span x.1)) (ExpOps e (ops z))) (sym r) (chained e (reverse f.rest) x)

-- arguments
last_argument : (a : Arg) (zs : List Arg) (x : Arg) → last_arg (arg_of a) (args (zs ++ x ∷ [])) ≡ arg_span (arg_of x)
last_argument a [] x = refl
last_argument a (z ∷ zs) x = last_argument z zs x

passed : (e : Exp) (zs : List Arg) (x : Arg) → args_of e (args (zs ++ x ∷ [])) ≡ ExpAt (up_to (exp_span e) (arg_span (arg_of x))) (ExpApply e (args (zs ++ x ∷ [])))
passed e [] x = refl
passed e (z ∷ zs) x = ap (λ s. ExpAt (up_to (exp_span e) s) (ExpApply e (args (z ∷ (zs ++ x ∷ []))))) (last_argument z zs x)

pub arg_alone : (e : Exp) (xs : List Arg) → None ≡ slice_get xs 0 → args_of e (args (reverse xs)) ≡ e
arg_alone e xs h = ap (λ z. args_of e (args (reverse z))) (nothing xs h)

-- an expression with arguments, kept last first, is the application up to the last one
pub arg_chained : (e : Exp) (xs : List Arg) (x : Arg) → Some x ≡ slice_get xs 0 → args_of e (args (reverse xs)) ≡ ExpAt (up_to (exp_span e) (arg_span (arg_of x))) (ExpApply e (args (reverse xs)))
arg_chained e xs x h =
    let f : Front xs x = front xs x h in
    let r : reverse xs ≡ reverse f.rest ++ x ∷ [] = ap reverse f.is ∙ reverse-append (x ∷ []) f.rest in
    subst (λ z. args_of e (args z) ≡ ExpAt (up_to (exp_span e) (arg_span (arg_of x))) (ExpApply e (args z))) (sym r) (passed e (reverse f.rest) x)

-- what holds of each error holds of an answer
pub if_err : {T E : Type 0} {P : E → Type 0} (r : Result T E) → ((e : E) → P e) → IfErr r P
if_err (Ok x) h = tt
if_err (Err e) h = h e
