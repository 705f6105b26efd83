-- The tests of the functions by the facts that a program finds out, and what looking up depends on.
-- Main results: later_types, look_gives.
use Rattle.std.specs.Prelude.{suc, ◌+◌, List, [], ◌≡◌, Option, Some, None}
use Rattle.std.proofs.Common.{arith}
use Rattle.std.proofs.Math.Path.{refl, sym, ◌∙◌, ap, subst, fun_ext}
use Rattle.omega_kinds.specs.Kind.{Kind}
use Rattle.omega_kinds.specs.declared.effect.Effect.TheVariants.{Pure}
use Rattle.omega_kinds.specs.Name.{Name}
use Rattle.omega_types.specs.Ty.{Ty}
use Rattle.omega_types.specs.Binders.{extend}
use Rattle.sig_definitions.specs.Signatures.Sig.{Sig, Abs, SigRow, HasField}
use Rattle.sig_definitions.specs.Signatures.SigSubst.{raise_abs, sig_at_under}
use Rattle.sig_definitions.specs.Signatures.SigSize.{size}
use Rattle.sig_laws.specs.NormalSig.{normal_sig}
use Rattle.sig_definitions.specs.Explicit.SigPath.{SigPath}
use Rattle.sig_definitions.specs.Matching.LookUp.{Found}
use Rattle.sig_match_laws.specs.MatchFunction.{MatchFn, find_field, look_field, look_result, look, match_sig}
use Rattle.sig_match_laws.specs.MatchClaims.{LookGives, LaterTypesDoNotMatter, IsRightSig}
use Rattle.sig_match_laws.proofs.OneMatch.Agree.{Agree, root-agreed}
use Rattle.sig_match_laws.proofs.LookUp.LookUpLaws.{found-unique}
use Rattle.sig_match_laws.proofs.Function.LookSound.{FieldOk, has, lacks, find_field-ok, LookOk, look_found, look_none, look-ok, at-form}
use Rattle.sig_match_laws.proofs.Function.FunctionSound.{match_sig-ok}
use Rattle.sig_laws.proofs.Algebra.PathLaws.{one-field, no-field}
use Rattle.sig_laws.specs.Good.{OkSig}
use Rattle.sig_laws.proofs.Formed.RootNumbers.{root-of}

pub field-has : {fs : SigRow} {l : Name} {s : Sig} → HasField fs l s → find_field l fs ≡ Some s
field-has {fs} {l} {s} h = go (find_field-ok l fs)
  where
    go : {o : Option Sig} → FieldOk fs l o → o ≡ Some s
    go (has g) = ap Some (one-field g h refl)
    go (lacks n) = absurd (no-field _ n h)

-- looking up reads on the right only what stands on the path

field-by : (o : Option Sig) (r q : Sig) (f : Sig → Sig → Option Ty) → ((s : Sig) → f s r ≡ f s q) → look_field o (Some r) f ≡ look_field o (Some q) f
field-by None r q f h = refl
field-by (Some s) r q f h = h s

pub look-agree : {r q : Sig} {p : SigPath} {bs : List Kind} {a b : Ty} {k : Kind} → Agree r q p bs a b k → (m : MatchFn) (ctx : List Kind) (s : Sig) → look m ctx s p r ≡ look m ctx s p q
look-agree Agree.end m ctx (Sig.Typ t k) = refl
look-agree Agree.end m ctx (Sig.Fun Pure ks a (Abs.Ex [] b)) = refl
look-agree Agree.end m ctx s = refl
look-agree (Agree.field {l = l} {r = r} {q = q} {p = p} g h a) m ctx (Sig.Str fs) =
    ap (λ o. look_field (find_field l fs) o (λ s r. look m ctx s p r)) (field-has g) ∙
    (field-by (find_field l fs) r q (λ s r. look m ctx s p r) (λ s. look-agree a m ctx s) ∙
    sym (ap (λ o. look_field (find_field l fs) o (λ s r. look m ctx s p r)) (field-has h)))
look-agree (Agree.field g h a) m ctx (Sig.Fun Pure ks c (Abs.Ex [] b)) = refl
look-agree (Agree.field g h a) m ctx s = refl
look-agree (Agree.result {ks = js} {s = b} a) m ctx (Sig.Fun Pure ks c (Abs.Ex [] s)) =
    ap (look_result js (m (extend ctx js) b (raise_abs js (Abs.Ex ks c)))) (fun_ext (λ ts. look-agree a m (extend ctx js) (normal_sig (extend ctx js) (sig_at_under js ts s))))
look-agree (Agree.result a) m ctx s = refl

-- what is put in for a hidden type and for those after it makes no difference along its root path
pub later_types : LaterTypesDoNotMatter
later_types m ctx ks s r p before rest others v lt l h g =
    let z = root-agreed before rest others refl refl h g lt (root-of l) (at-form v h) (at-form v g) in
    look-agree z.5.2 m ctx s

-- looking up as a function

look-is : {ctx : List Kind} {s r : Sig} {p : SigPath} {o : Option Ty} {t : Ty} → OkSig ctx s → IsRightSig ctx r → LookOk ctx s p r o → Found ctx s p r t → o ≡ Some t
look-is {t = t} w v (look_found f) g = ap Some (found-unique f w v t g)
look-is {t = t} w v (look_none n) g = absurd (n t g)

look-nothing : {ctx : List Kind} {s r : Sig} {p : SigPath} {o : Option Ty} → LookOk ctx s p r o → ((t : Ty) → Found ctx s p r t → ⊥) → o ≡ None
look-nothing (look_found {t = t} f) n = absurd (n t f)
look-nothing (look_none m) n = refl

abbrev LookMeans : List Kind → Sig → SigPath → Sig → Option Ty → Type 0
LookMeans ctx s p r None = (t : Ty) → Found ctx s p r t → ⊥
LookMeans ctx s p r (Some t) = Found ctx s p r t

look-means : (ctx : List Kind) (s : Sig) (p : SigPath) (r : Sig) {o : Option Ty} → LookOk ctx s p r o → LookMeans ctx s p r o
look-means ctx s p r (look_found f) = f
look-means ctx s p r (look_none n) = n

-- the function that looks up gives exactly what is found along a path
pub look_gives : LookGives
look_gives ctx s p r w v =
    let ok = look-ok match_sig (suc (size s + size r)) (λ ctx s x lt w v. match_sig-ok ctx s x w v) ctx s p r (omega arith) w v in (
      (λ t. (λ e. subst (LookMeans ctx s p r) e (look-means ctx s p r ok), λ f. look-is w v ok f)),
      (λ e. subst (LookMeans ctx s p r) e (look-means ctx s p r ok), λ n. look-nothing ok n),
    )
