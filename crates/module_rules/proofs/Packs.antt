-- The types that a module keeps fill the quantifiers of its encoding, and so do the variables of binders below these.
-- Main results: fills_own, fills_raised.
use Rattle.std.specs.Prelude.{ℕ, ◌+◌, List, [], ◌++◌, ◌≡◌, length}
use Rattle.std.proofs.Common.{arith}
use Rattle.std.proofs.Math.Path.{refl, sym, subst, ap, fun_ext}
use Rattle.omega_kinds.specs.Kind.{Kind}
use Rattle.omega_types.specs.Ty.{Ty}
use Rattle.omega_types.specs.Normality.{Normal}
use Rattle.omega_types.specs.Substitution.{rename}
use Rattle.omega_types.specs.Index.{bump, shift}
use Rattle.omega_types.specs.Binders.{extend, past, lifts, raise, vars, ex_over, NormalForms}
use Rattle.omega_types.proofs.BinderLaws.{past-maps}
use Rattle.omega_types.proofs.BinderPuts.{rename-ex_over, ex_over-append, vars-kinds, past-plus}
use Rattle.omega_types.proofs.Preservation.{normal-rename}
use Rattle.sig_definitions.specs.Signatures.Sig.{Sig, Abs}
use Rattle.sig_definitions.specs.Signatures.Alike.{NormalAbs}
use Rattle.sig_definitions.specs.Signatures.Encoding.{enc, enc_abs}
use Rattle.sig_laws.specs.Good.{DistinctAbs}
use Rattle.sig_laws.proofs.Encoded.EncodingTyping.{distinct_abs-normal}
use Rattle.omega_terms.specs.Term.{Term}
use Rattle.omega_terms.specs.Shorthands.{Packs}
use Rattle.omega_shorthands.specs.Inner.Packed.{Fills}
use Rattle.module_rules.specs.Inner.Shown.{PackedAgain}

-- the types that a module keeps fill the quantifiers of its encoding
pub fills_own : (ctx ks : List Kind) (s : Sig) (ts : List Ty) → DistinctAbs (Abs.Ex ks s) → NormalAbs ctx (Abs.Ex ks s) → NormalForms ctx ts ks ts → Fills ctx ts (enc_abs (Abs.Ex ks s))
fills_own ctx ks s ts d n ns = (ks, enc s, refl, distinct_abs-normal (Abs.Ex ks s) d n, ns)

-- the binders' own variables fill the quantifiers of a type over them, seen below the binders
pub fills_raised : (ctx ks : List Kind) (v : Ty) → Normal ctx (ex_over ks v) Kind.Star → Fills (extend ctx ks) (vars ks) (raise ks (ex_over ks v))
fills_raised ctx ks v n = (ks, rename (lifts ks (past ks)) v, rename-ex_over (past ks) ks v, normal-rename (past ks) (past-maps ks ctx) n, vars-kinds ctx ks)

-- the types of a binding, under which those of the rest come
pub fills_both : (ctx ks js : List Kind) (t : Sig) → DistinctAbs (Abs.Ex (ks ++ js) t) → NormalAbs ctx (Abs.Ex (ks ++ js) t) → Fills (extend ctx ks) (vars ks) (raise ks (enc_abs (Abs.Ex (ks ++ js) t)))
fills_both ctx ks js t d n =
    let e = ex_over-append ks js (enc t) in
    subst (λ u. Fills (extend ctx ks) (vars ks) (raise ks u)) (sym e) (fills_raised ctx ks (ex_over js (enc t)) (subst (λ u. Normal ctx u Kind.Star) e (distinct_abs-normal (Abs.Ex (ks ++ js) t) d n)))

-- a shift past binders, by their number
pub bump-past : (ks : List Kind) (count : ℕ) → length ks ≡ count → bump count 0 ≡ past ks
bump-past ks count e = fun_ext at
  where
    at : (i : ℕ) → count + i ≡ past ks i
    at i = let p : past ks i ≡ i + length ks = past-plus ks i in omega (arith, p, e)

-- a shift by the number of binders raises a type past them
pub shift-raise : (ks : List Kind) (count : ℕ) (t : Ty) → length ks ≡ count → shift count 0 t ≡ raise ks t
shift-raise ks count t e = ap (λ r. rename r t) (bump-past ks count e)

-- no binders

-- where no types are hidden, none are packed again
pub packs-nothing : (ks : List Kind) (x : Abs) (e d : Term) → ks ≡ [] → d ≡ e → PackedAgain ks x e d
packs-nothing ks x e d ek ed = subst (λ js. PackedAgain js x e d) (sym ek) (subst (PackedAgain [] x e) (sym ed) (λ ctx f. Packs.none))
