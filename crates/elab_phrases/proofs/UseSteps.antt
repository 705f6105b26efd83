-- Modules and signatures that are used as types and values: good where they are used, packed.
-- Main results: found-in, pack-means, pack-unmatched.
use Rattle.std.proofs.Common.{◌≡◌, List, Some, sym, subst}
use Rattle.omega_kinds.specs.Kind.{Kind}
use Rattle.omega_kinds.specs.Name.{Name}
use Rattle.omega_types.specs.Binders.{NormalForms}
use Rattle.omega_types.specs.Ty.{Ty}
use Rattle.omega_terms.specs.Term.{Term}
use Rattle.sig_definitions.specs.Env.{Env, find, kinds}
use Rattle.sig_definitions.specs.Matching.Subtyping.{Match}
use Rattle.sig_definitions.specs.QuantifierOrder.{Norm}
use Rattle.sig_definitions.specs.Signatures.Sig.{Sig, Abs}
use Rattle.sig_laws.specs.Good.{OkEnv, OkRight, OkAbs, OkSig}
use Rattle.sig_match_laws.proofs.LookUp.Good.{explicit-left}
use Rattle.sig_premise_laws.proofs.Environments.{find-good}
use Rattle.semantic_sigs.specs.Inner.View.{kinds_of}
use Rattle.package_judgments.specs.Package.{PackGives}
use Rattle.fing_syntax.specs.Phrase.{Span, SpanName, SigEx, ExpAt, ExpPack}
use Rattle.fing_syntax.specs.Place.{name_of, sig_span}
use Rattle.elab_judgments.specs.Judgments.Meaning.{SigMeans, ExpMeans}
use Rattle.elab_judgments.specs.Refusals.Task.{an_exp}
use Rattle.elab_laws.proofs.Kept.{sig_ok}
use Rattle.fing_refusals.specs.declared.refusal.Refusal.{Refusal as CodeRefusal}
use Rattle.elab_rules.specs.Inner.Answered.{RefusedAs, ByMatch}
use Rattle.elab_rules.proofs.Refuse.Expressions.{exp_pack-match}
use Rattle.elab_rules.proofs.Ruled.{match-forms}

-- the signature that is found for a name is good
pub found-in : {g h : Env} {left s : Sig} {d : Term} (x : Name) → h ≡ g → OkEnv g → find g x ≡ Some (s, d) → left ≡ s → OkSig (kinds h) left
found-in {g} {left = left} {s = s} {d = d} x q o f e = subst (λ y. OkSig (kinds y) left) (sym q) (subst (OkSig (kinds g)) (sym e) (find-good g x o (s, d) f))

-- a package means what its rule gives, of the match of its module with the norm of its signature
pub pack-means : {g h : Env} {at : Span} {x : SpanName} {a : SigEx} {left s : Sig} {y z : Abs} {d c e : Term} {ts us : List Ty} {t : Ty}
    → OkEnv g → h ≡ g
    → find g (name_of x) ≡ Some (s, d)
    → SigMeans g a y
    → ((ctx : List Kind) → OkRight ctx y → Norm ctx y z)
    → ((ctx : List Kind) → OkRight ctx y → OkRight ctx z)
    → left ≡ s
    → Match (kinds h) left z ts c
    → us ≡ ts
    → ((ctx : List Kind) → OkAbs ctx z → NormalForms ctx us (kinds_of z) us → PackGives ctx d z us c t e)
    → ExpMeans g (ExpAt at (ExpPack x a)) t e
pack-means {g} {a = a} {left = left} {y = y} {z = z} {d = d} {c = c} {e = e} {ts = ts} {t = t} o q f m norm good l match r gives =
    let w = sig_ok g a y o m in
    let p : Match (kinds g) _ z ts c = subst (λ s. Match (kinds g) s z ts c) l (subst (λ x. Match (kinds x) left z ts c) q match) in
    let n = subst (λ us. NormalForms (kinds g) us (kinds_of z) us) (sym r) (match-forms p) in
    let v : PackGives (kinds g) d z ts c t e = subst (λ us. PackGives (kinds g) d z us c t e) r (gives (kinds g) (explicit-left (good (kinds g) w)) n) in
    ExpMeans.exp_pack f m (norm (kinds g) w) p v

-- a package is refused where its module does not match the norm of its signature
pub pack-unmatched : {g h : Env} {at p : Span} {x : SpanName} {a : SigEx} {left s : Sig} {y z : Abs} {d : Term} {e : CodeRefusal}
    → OkEnv g → h ≡ g
    → find g (name_of x) ≡ Some (s, d)
    → SigMeans g a y
    → ((ctx : List Kind) → OkRight ctx y → Norm ctx y z)
    → left ≡ s
    → p ≡ sig_span a
    → ByMatch h p left z e
    → RefusedAs g (an_exp (ExpAt at (ExpPack x a))) e
pack-unmatched {g} {p = p} {a = a} {left = left} {y = y} {z = z} {e = e} o q f m norm l place r =
    let b : ByMatch g p left z e = subst (λ x. ByMatch x p left z e) q r in
    let k : ByMatch g (sig_span a) left z e = subst (λ p. ByMatch g p left z e) place b in
    exp_pack-match f m (norm (kinds g) (sig_ok g a y o m)) (subst (λ s. ByMatch g (sig_span a) s z e) l k)
