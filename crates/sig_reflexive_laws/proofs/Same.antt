-- A well formed signature of normal types is below itself.
-- Main results: self_sub, self_sub_abs, self_match, one_self_match, meta-itself.
use Rattle.std.specs.Prelude.{zero, List, [], ◌∷◌, ◌≡◌}
use Rattle.std.proofs.Math.Path.{sym, ◌∙◌, ap, subst}
use Rattle.omega_kinds.specs.Kind.{Kind}
use Rattle.omega_kinds.specs.declared.label.Label.{Label}
use Rattle.omega_kinds.specs.declared.effect.Effect.TheVariants.{Pure, Impure}
use Rattle.omega_kinds.specs.Name.{Name}
use Rattle.omega_types.specs.Ty.{Ty}
use Rattle.omega_types.specs.Binders.{extend, past, lifts, vars, puts, raise, ex_over, OfKinds, NormalForms}
use Rattle.omega_types.specs.Substitution.{rename}
use Rattle.omega_types.specs.Normality.{Normal}
use Rattle.omega_types.proofs.Preservation.{normal-rename}
use Rattle.omega_types.proofs.BinderPuts.{Fits, kinds-fit, forms-kinds, forms-types, vars-kinds, vars-stand, puts-lifts, past-maps, rename-ex_over}
use Rattle.omega_terms.specs.Term.{Term, TermRow}
use Rattle.omega_terms.specs.Shorthands.{Packs}
use Rattle.omega_terms.specs.Coercions.{MatchPart, AbsPart, same_part, meta_part, fields_part, functor_part}
use Rattle.sig_definitions.specs.Signatures.Sig.{Sig, Abs, SigRow, HasField, here, there}
use Rattle.sig_definitions.specs.Signatures.SigSubst.{rename_sig, substitute_sig, raise_abs, sig_at, sig_at_under, abs_at_under}
use Rattle.sig_definitions.specs.Signatures.Alike.{ConvSig, ConvAbs, NormalSigForm, NormalAbsForm, NormalSig, NormalAbs, NormalSigRow}
use Rattle.sig_definitions.specs.Signatures.Encoding.{enc, enc_abs}
use Rattle.sig_definitions.specs.Explicit.WellFormed.{Rising, WellFormed, WellFormedRow, WellFormedAbs, Explicit}
use Rattle.sig_definitions.specs.Matching.Subtyping.{Sub, SubFields, SubResult, SubAbs, Match}
use Rattle.sig_laws.proofs.Algebra.SigAlgebra.{substitute-rename_sig, substitute_sig-id, substitute_abs-id}
use Rattle.sig_laws.proofs.Algebra.AlikeLaws.{normal_sig-form, normal_abs-form, form-conv_sig, form-conv_abs, conv-form_sig, conv-form_abs, conv_sig-substitute, conv_abs-substitute}
use Rattle.sig_laws.proofs.Formed.WellFormedShape.{after-differs}
use Rattle.sig_laws.proofs.Formed.Conditions.{explicit-right, param-raised}
use Rattle.sig_match_laws.specs.MatchFunction.{pack_up}
use Rattle.sig_laws.proofs.Encoded.EncodingLaws.{enc_well_formed-normal}
use Rattle.sig_match_laws.proofs.Function.PackUp.{pack_up-packs}
use Rattle.sig_match_laws.proofs.OneMatch.Unique.{match-unique}
use Rattle.sig_reflexive_laws.specs.Itself.{SelfSub, SelfSubAbs, SelfMatch, OneSelfMatch}

-- the variables of binders put in for themselves leave what is normal

pub own-form : (ctx ks : List Kind) (s : Sig) → NormalSig (extend ctx ks) s → NormalSigForm (extend ctx ks) (sig_at_under ks (vars ks) s) s
own-form ctx ks s n =
    let f = normal_sig-form (extend ctx ks) s n in
    let c = conv_sig-substitute (puts (vars ks) (λ i. Ty.Var (past ks i))) Ty.Var (vars-stand ctx ks) (form-conv_sig f) in
    conv-form_sig (subst (ConvSig (extend ctx ks) (sig_at_under ks (vars ks) s)) (substitute_sig-id s) c) f

pub own-form_abs : (ctx ks : List Kind) (x : Abs) → NormalAbs (extend ctx ks) x → NormalAbsForm (extend ctx ks) (abs_at_under ks (vars ks) x) x
own-form_abs ctx ks x n =
    let f = normal_abs-form (extend ctx ks) x n in
    let c = conv_abs-substitute (puts (vars ks) (λ i. Ty.Var (past ks i))) Ty.Var (vars-stand ctx ks) (form-conv_abs f) in
    conv-form_abs (subst (ConvAbs (extend ctx ks) (abs_at_under ks (vars ks) x)) (substitute_abs-id x) c) f

vars-fit : (ks : List Kind) → Fits (vars ks) ks
vars-fit ks = kinds-fit (forms-kinds (vars-kinds [] ks))

own-at : (ks : List Kind) (s : Sig) → sig_at (vars ks) (rename_sig (lifts ks (past ks)) s) ≡ sig_at_under ks (vars ks) s
own-at ks s = substitute-rename_sig (puts (vars ks) Ty.Var) (lifts ks (past ks)) s ∙ ap (λ f. substitute_sig f s) (puts-lifts (vars-fit ks) Ty.Var (past ks))

-- a body below itself matches the whole, at its own variables
pub own-match : {f : Term} (ctx ks : List Kind) (s : Sig) → NormalSig (extend ctx ks) s → Sub (extend ctx ks) s s f → Match (extend ctx ks) s (raise_abs ks (Abs.Ex ks s)) (vars ks) f
own-match ctx ks s n d =
    let v = vars-kinds ctx ks in
    Match.at {guess = vars ks} (forms-kinds v) v (subst (λ x. NormalSigForm (extend ctx ks) x s) (sym (own-at ks s)) (own-form ctx ks s n)) d

-- a type over quantifiers, under as many binders, with these packed again
packs-own : (ctx ks : List Kind) (b : Ty) (e : Term) → Normal ctx (ex_over ks b) Kind.Star → Packs (extend ctx ks) (vars ks) e (raise ks (ex_over ks b)) (pack_up (vars ks) e (ex_over ks (rename (lifts ks (past ks)) b)))
packs-own ctx ks b e n =
    let r = rename-ex_over (past ks) ks b in
    let m = subst (λ u. Normal (extend ctx ks) u Kind.Star) r (normal-rename (past ks) (past-maps ctx ks) n) in
    subst (λ u. Packs (extend ctx ks) (vars ks) e u (pack_up (vars ks) e (ex_over ks (rename (lifts ks (past ks)) b)))) (sym r) (pack_up-packs e (rename (lifts ks (past ks)) b) (forms-types (vars-kinds ctx ks)) m)

repacked : (ctx ks : List Kind) (s : Sig) (e : Term) → WellFormedAbs ctx (Abs.Ex ks s) → NormalSig (extend ctx ks) s → Packs (extend ctx ks) (vars ks) e (raise ks (enc_abs (Abs.Ex ks s))) (pack_up (vars ks) e (ex_over ks (rename (lifts ks (past ks)) (enc s))))
repacked ctx ks s e w n = packs-own ctx ks (enc s) e (enc_well_formed-normal w n)

-- so what hides types is below itself
pub abs-itself : {f : Term} (ctx ks : List Kind) (s : Sig) → WellFormedAbs ctx (Abs.Ex ks s) → NormalSig (extend ctx ks) s → Sub (extend ctx ks) s s f → (g : Term) × SubAbs ctx (Abs.Ex ks s) (Abs.Ex ks s) g
abs-itself {f} ctx [] s w n d =
    let r : NormalSigForm ctx (sig_at [] s) s = subst (λ x. NormalSigForm ctx x s) (sym (substitute_sig-id s)) (normal_sig-form ctx s n) in
    (Term.Lam (enc s) (Term.Call f (Term.Var zero)), SubAbs.plain (Match.at {guess = []} OfKinds.none NormalForms.none r d) (MatchPart.made Packs.none))
abs-itself {f} ctx (k ∷ ks) s w n d = (_, SubAbs.hidden (own-match ctx (k ∷ ks) s n d) (AbsPart.made (repacked ctx (k ∷ ks) s (Term.Call f (Term.Var zero)) w n)))

mutual
  pub sub-itself : {ctx : List Kind} {s : Sig} → WellFormed ctx s → NormalSig ctx s → (f : Term) × Sub ctx s s f
  sub-itself (WellFormed.val {t = t} h) n = (same_part (enc (Sig.Val t)), Sub.val)
  sub-itself (WellFormed.typ {t = t} {k = k} h) n = (same_part (enc (Sig.Typ t k)), Sub.typ)
  sub-itself (WellFormed.meta {x = x} w) n = let a = explicit-itself w n in (meta_part (enc (Sig.Meta x)) (enc_abs x), Sub.meta a.1 a.1)
  sub-itself (WellFormed.str {fs = fs} r w) n = let p = row-itself (λ l s h. h) r w n in (fields_part (enc (Sig.Str fs)) p.0, Sub.str p.1)
  sub-itself (WellFormed.pure {ctx = ctx} {ks = ks} {s = s} {r = r} x w) n =
      let d = param-itself x n.0 in
      let g = sub-itself w n.1 in
      (functor_part (enc (Sig.Fun Pure ks s (Abs.Ex [] r))) Pure Pure ks (enc s) (vars ks) d.0 g.0, Sub.fun (own-match ctx ks s n.0 d.1) (own-form_abs ctx ks (Abs.Ex [] r) n.1) (SubResult.both_pure g.1))
  sub-itself (WellFormed.impure {ctx = ctx} {ks = ks} {s = s} {x = z} x w) n =
      let d = param-itself x n.0 in
      let g = hidden-itself w n.1 in
      (functor_part (enc (Sig.Fun Impure ks s z)) Impure Impure ks (enc s) (vars ks) d.0 g.0, Sub.fun (own-match ctx ks s n.0 d.1) (own-form_abs ctx ks z n.1) (SubResult.to_impure g.1))

  pub row-itself : {ctx : List Kind} {fs gs : SigRow} → ((l : Name) (s : Sig) → HasField gs l s → HasField fs l s) → Rising gs → WellFormedRow ctx gs → NormalSigRow ctx gs → (parts : TermRow) × SubFields ctx fs gs parts
  row-itself h r WellFormedRow.end n = (TermRow.End, SubFields.end)
  row-itself h r (WellFormedRow.more {l = m} {s = t} {rest = rest} w ws) n =
      let d = sub-itself w n.0 in
      let p = row-itself (λ l s g. h l s (there (after-differs m l r.0 g) g)) r.1 ws n.1 in
      (TermRow.More (Label.Name m) d.0 p.0, SubFields.more (h m t here) d.1 p.1)

  -- so is one that hides types
  pub hidden-itself : {ctx : List Kind} {x : Abs} → WellFormedAbs ctx x → NormalAbs ctx x → (f : Term) × SubAbs ctx x x f
  hidden-itself (WellFormedAbs.abs {ctx = ctx} {ks = ks} {s = s} w) n = abs-itself ctx ks s (WellFormedAbs.abs w) n (sub-itself w n).1

  pub explicit-itself : {ctx : List Kind} {x : Abs} → Explicit ctx x → NormalAbs ctx x → (f : Term) × SubAbs ctx x x f
  explicit-itself (Explicit.explicit {ctx = ctx} {ks = ks} {s = s} w e r) n = abs-itself ctx ks s (WellFormedAbs.abs w) n (sub-itself w n).1

  pub param-itself : {ctx ks : List Kind} {s : Sig} → Explicit ctx (Abs.Ex ks s) → NormalSig (extend ctx ks) s → (f : Term) × Sub (extend ctx ks) s s f
  param-itself (Explicit.explicit w e r) n = sub-itself w n

-- a well formed signature is below itself
pub self_sub : SelfSub
self_sub ctx s h = sub-itself h.0 h.1

-- so is one that hides types
pub self_sub_abs : SelfSubAbs
self_sub_abs ctx x h = hidden-itself h.0 h.1

-- its body matches it, at the variables that it binds
pub self_match : SelfMatch
self_match ctx ks s h = go h.0 h.1
  where
    go : {ctx ks : List Kind} {s : Sig} → WellFormedAbs ctx (Abs.Ex ks s) → NormalSig (extend ctx ks) s → (f : Term) × Match (extend ctx ks) s (raise_abs ks (Abs.Ex ks s)) (vars ks) f
    go {ctx} {ks} {s} (WellFormedAbs.abs w) n = let d = sub-itself w n in (d.0, own-match ctx ks s n d.1)

-- and, where it can be the right side of a match, at no other types
pub one_self_match : OneSelfMatch
one_self_match ctx ks s ts f h m =
    let w = explicit-right h.0 in
    let d = sub-itself w.0 h.1 in
    (match-unique m w.0 (param-raised ks h.0) (vars ks) d.0 (own-match ctx ks s h.1 d.1)).0

-- a signature part, by the coercion that its encoding gives
pub meta-itself : {ctx : List Kind} {x : Abs} → WellFormed ctx (Sig.Meta x) → NormalAbs ctx x → Sub ctx (Sig.Meta x) (Sig.Meta x) (meta_part (enc (Sig.Meta x)) (enc_abs x))
meta-itself (WellFormed.meta w) n = let a = explicit-itself w n in Sub.meta a.1 a.1
