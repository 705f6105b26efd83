-- A binding followed by the rest of a structure (Rossberg, Russo, Dreyer, F-ing modules, sections 4 and 7).
use Rattle.std.specs.Prelude.{ℕ, suc, List, [], ◌∷◌, ◌++◌, ◌≡◌, map, Some}
use Rattle.omega_kinds.specs.Kind.{Kind}
use Rattle.omega_kinds.specs.declared.label.Label.{Label}
use Rattle.omega_kinds.specs.declared.effect.Effect.{Effect}
use Rattle.omega_kinds.specs.declared.effect.Effect.TheVariants.{Pure, Impure}
use Rattle.omega_kinds.specs.Name.{Name}
use Rattle.omega_types.specs.Ty.{Ty, lift}
use Rattle.omega_types.specs.Substitution.{substitute}
use Rattle.omega_types.specs.Binders.{extend, raise, vars, puts, NormalForms}
use Rattle.omega_terms.specs.Term.{Term, TermRow}
use Rattle.omega_terms.specs.TermSubst.{ren_term, same_index}
use Rattle.omega_terms.specs.Shorthands.{let_in, opens, past_opened, Packs}
use Rattle.omega_terms.specs.Instance.{Instance}
use Rattle.sig_definitions.specs.Signatures.Sig.{Sig, Abs, SigRow, Module, made}
use Rattle.sig_definitions.specs.Signatures.Alike.{IsSigAt}
use Rattle.sig_definitions.specs.Signatures.Encoding.{enc, enc_abs}
use Rattle.sig_definitions.specs.Env.{Env, find}
use Rattle.sig_definitions.specs.Packing.{Packed}

-- where one of two is impure, so are both together
abbrev pub joined : Effect → Effect → Effect
joined Pure e = e
joined Impure e = Impure

-- the rest's term under the opens: n opened types bring n term variables where a binding has one, so each index from 1 on
-- rises by n - 1, and none does where n is 0
abbrev pub past_opens : List Kind → Term → Term
past_opens ks e = ren_term same_index (lift (past_opened ks)) e

-- Seq ctx first rest whole: the rest stands under the first one's hidden types and its term variable
pub data Seq (ctx : List Kind) : (first rest whole : Module) → Type 0 where
  -- the hidden types of the first are put into the rest
  both_pure : {ks js : List Kind} {s t n : Sig} {ts us ns : List Ty} {e d c : Term}
      → IsSigAt ctx s ts n
      → NormalForms ctx (map (substitute (puts ts Ty.Var)) us) js ns
      → Instance (extend ctx ks) ctx (puts ts Ty.Var) d c
      → Seq ctx (made Pure (Abs.Ex ks s) ts e) (made Pure (Abs.Ex js t) us d) (made Pure (Abs.Ex (ks ++ js) t) (ts ++ ns) (let_in (enc n) e c))
  -- opens(packed(first); X. packs(the first one's types; packed(rest); what both hide)): the first one is packed and opened
  -- again, the rest is packed, and the first one's types with it
  some_impure : {f h : Effect} {ks js : List Kind} {s t : Sig} {ts us : List Ty} {e d p q r : Term}
      → joined f h ≡ Impure
      → Packed ctx (made f (Abs.Ex ks s) ts e) p
      → Packed (extend ctx ks) (made h (Abs.Ex js t) us d) q
      → Packs (extend ctx ks) (vars ks) (past_opens ks q) (raise ks (enc_abs (Abs.Ex (ks ++ js) t))) r
      → Seq ctx (made f (Abs.Ex ks s) ts e) (made h (Abs.Ex js t) us d) (made Impure (Abs.Ex (ks ++ js) t) [] (opens ks p (enc_abs (Abs.Ex ks s)) r))

-- lets for the fields of an included module, whose term variable has the index i before them
abbrev pub field_lets : ℕ → SigRow → Term → Term
field_lets i SigRow.End e = e
field_lets i (SigRow.More l s rest) e = let_in (enc s) (Term.Get (Term.Var i) (Label.Name l)) (field_lets (suc i) rest e)

-- the fields of a finished structure: each name with what is found for it
pub data Collected (g : Env) : List Name → SigRow → TermRow → Type 0 where
  none : Collected g [] SigRow.End TermRow.End
  next : {l : Name} {names : List Name} {s : Sig} {e : Term} {fs : SigRow} {es : TermRow}
      → find g l ≡ Some (s, e)
      → Collected g names fs es
      → Collected g (l ∷ names) (SigRow.More l s fs) (TermRow.More (Label.Name l) e es)
