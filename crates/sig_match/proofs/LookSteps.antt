-- Looking up, step by step.
-- Main results: part-looks, matched-looks, result-sides.
use Rattle.std.proofs.Common.{◌≡◌, List, [], ◌∷◌, Option, Some, None, refl, sym, subst}
use Rattle.omega_kinds.specs.Kind.{Kind}
use Rattle.omega_kinds.specs.Name.{Name}
use Rattle.omega_kinds.specs.declared.effect.Effect.{Effect}
use Rattle.omega_kinds.specs.declared.effect.Effect.TheVariants.{Pure}
use Rattle.omega_types.specs.Ty.{Ty}
use Rattle.omega_types.specs.Binders.{extend, puts, NormalForms}
use Rattle.omega_types.proofs.BinderPuts.{forms-kinds}
use Rattle.omega_terms.specs.Term.{Term}
use Rattle.sig_definitions.specs.Signatures.Sig.{Sig, Abs, SigRow, HasField, NoField, here, there}
use Rattle.sig_definitions.specs.Signatures.SigSubst.{raise_abs, sig_at_under, abs_at_under}
use Rattle.sig_definitions.specs.Signatures.Alike.{AlikeSig, AlikeAbs, AlikeRow, Between, NormalSig, NormalSigForm, NormalAbsForm, IsSigAt}
use Rattle.sig_definitions.specs.Explicit.SigPath.{SigPath, Item}
use Rattle.sig_definitions.specs.Explicit.WellFormed.{WellFormed}
use Rattle.semantic_sigs.specs.Inner.View.{body_of}
use Rattle.sig_definitions.specs.Matching.Subtyping.{Match}
use Rattle.sig_definitions.specs.Matching.LookUp.{Found}
use Rattle.sig_definitions.specs.Matching.MatchRefusal.{MatchRefusal, RefusesMatch}
use Rattle.sig_laws.proofs.Algebra.AlikeLaws.{form_sig-unique, form_sig-normal, form-conv_sig, normal_sig-form}
use Rattle.sig_laws.proofs.Algebra.Instances.{at-substitutes}
use Rattle.sig_laws.proofs.Algebra.PathLaws.{field-substitute, field-alike, field-back, one-field, no-field}
use Rattle.sig_laws.proofs.Algebra.SigAlgebra.{substitute_sig-id}
use Rattle.sig_laws.proofs.Formed.Conditions.{match-kinds}
use Rattle.sig_laws.proofs.Formed.WellFormedLaws.{well_formed-conv, well_formed-substitute, explicit_results-conv, explicit_results-substitute}
use Rattle.sig_match_laws.specs.MatchClaims.{IsRightSig}
use Rattle.sig_match_laws.proofs.OneMatch.Unique.{match-unique}
use Rattle.sig_match_laws.proofs.LookUp.Good.{good-param, good-left_result, good-right_param, good-right_result, good-pure, good-body, good-left_field, good-right_field}
use Rattle.sig_match_laws.proofs.LookUp.LookUpLaws.{found-view}
use Rattle.sig_match_laws.proofs.LookUp.Refused.{match-excluded}
use Rattle.sig_match.specs.Inner.Put.{AreNormal}
use Rattle.sig_match.specs.Inner.Looking.{Ends, Looks, LookSides, lam_found}
use Rattle.std.proofs.Math.Path.{refl}
use Rattle.sig_laws.specs.Good.{OkSig}

-- at the end of the path

typ-back : {ctx : List Kind} {u : Ty} {k : Kind} (r : Sig) (ts : List Ty) → IsSigAt ctx r ts (Sig.Typ u k) → (v : Ty) × (r ≡ Sig.Typ v k)
typ-back (Sig.Val t) ts a = elim a [ ]
typ-back (Sig.Typ t j) ts (AlikeSig.typ n) = (t, refl)
typ-back (Sig.Meta x) ts a = elim a [ ]
typ-back (Sig.Str fs) ts a = elim a [ ]
typ-back (Sig.Fun e ks s x) ts a = elim a [ ]

end-found : {ctx : List Kind} {t : Ty} (u : Ty) {k : Kind} (n : Sig) (ts : List Ty) → IsSigAt ctx (Sig.Typ u k) ts n → Found ctx (Sig.Typ t k) [] n t
end-found u _ ts (AlikeSig.typ n) = Found.end

end-lost : {ctx : List Kind} {t : Ty} (s r n : Sig) (ts : List Ty) → ((t u : Ty) (k : Kind) → s ≡ Sig.Typ t k → r ≡ Sig.Typ u k → ⊥) → IsSigAt ctx r ts n → Found ctx s [] n t → ⊥
end-lost _ r _ ts h a (Found.end {t = t} {k = k}) = let v = typ-back r ts a in h t v.0 k refl v.1

-- looking up ends at an empty path with the type of the left part, where both kinds agree
pub end-looks : (ctx : List Kind) (s r n : Sig) (ts : List Ty) (o : Option Ty) → Ends s r o → IsSigAt ctx r ts n → Looks ctx s [] n o
end-looks ctx s r n ts None h a = λ t f. end-lost s r n ts h a f
end-looks ctx s r n ts (Some t) h a = subst (λ z. Found ctx z [] n t) (sym h.2) (end-found h.0 n ts (subst (λ z. IsSigAt ctx z ts n) h.3 a))

-- into a field

row-back : {R : Between} {ctx : List Kind} {fs gs : SigRow} {l : Name} {t : Sig} → AlikeRow R ctx fs gs → HasField gs l t → (s : Sig) × HasField fs l s
row-back AlikeRow.end h = elim h [ ]
row-back (AlikeRow.more {s = s} a r) here = (s, here)
row-back (AlikeRow.more a r) (there n h) = let b = row-back r h in (b.0, there n b.1)

str-back : {ctx : List Kind} {ns : SigRow} {l : Name} {q : Sig} (r : Sig) (ts : List Ty) → IsSigAt ctx r ts (Sig.Str ns) → HasField ns l q → (gs : SigRow) × (s : Sig) × (r ≡ Sig.Str gs) × HasField gs l s
str-back (Sig.Val t) ts a h = elim a [ ]
str-back (Sig.Typ t k) ts a h = elim a [ ]
str-back (Sig.Meta x) ts a h = elim a [ ]
str-back (Sig.Str gs) ts (AlikeSig.str a) h = let b = row-back a h in let c = field-back (puts ts Ty.Var) gs b.1 in (gs, c.0, refl, c.1)
str-back (Sig.Fun e ks s x) ts a h = elim a [ ]

-- nothing is found along a name that the left side lacks
pub left-lacks : {ctx : List Kind} {l : Name} {p : SigPath} {n : Sig} {t : Ty} (s : Sig) → ((fs : SigRow) → s ≡ Sig.Str fs → NoField l fs) → Found ctx s (Item.Part l ∷ p) n t → ⊥
left-lacks _ h (Found.field {fs = fs} hs hr f) = no-field _ (h fs refl) hs

-- nothing is found along a name that the right side lacks
pub right-lacks : {ctx : List Kind} {l : Name} {p : SigPath} {s : Sig} {t : Ty} (r n : Sig) (ts : List Ty) → ((gs : SigRow) → r ≡ Sig.Str gs → NoField l gs) → IsSigAt ctx r ts n → Found ctx s (Item.Part l ∷ p) n t → ⊥
right-lacks r _ ts h a (Found.field hs hr f) = let b = str-back r ts a hr in no-field _ (h b.0 b.2) b.3

-- looking up may go on into the parts of one name
pub part-sides : {ctx ks : List Kind} {fs gs : SigRow} {l : Name} {s r : Sig} (ts : List Ty) → HasField fs l s → HasField gs l r → LookSides ctx (Sig.Str fs) ks (Sig.Str gs) ts → LookSides ctx s ks r ts
part-sides ts h g v = (good-left_field v.0 h, good-right_field v.1 g, v.2)

part-found : (ctx : List Kind) (p : SigPath) {fs ns : SigRow} {l : Name} {s q : Sig} (o : Option Ty) → HasField fs l s → HasField ns l q → Looks ctx s p q o → Looks ctx (Sig.Str fs) (Item.Part l ∷ p) (Sig.Str ns) o
part-found ctx p {q = q} None h g k = λ t f. let z = found-view f in k t (subst (λ x. Found ctx x p q t) (one-field z.2 h refl) (subst (λ y. Found ctx z.0 p y t) (one-field z.3 g refl) z.4))
part-found ctx p (Some t) h g k = Found.field h g k

-- what is found in the parts of one name is found in the structures, along that name
pub part-looks : (ctx : List Kind) (fs gs : SigRow) (l : Name) (s r : Sig) (p : SigPath) (n : Sig) (ts : List Ty) (o : Option Ty) → HasField fs l s → HasField gs l r → IsSigAt ctx (Sig.Str gs) ts n → ((q : Sig) → IsSigAt ctx r ts q → Looks ctx s p q o) → Looks ctx (Sig.Str fs) (Item.Part l ∷ p) n o
part-looks ctx fs gs l s r p _ ts o h g (AlikeSig.str a) k = let b = field-alike a (field-substitute (puts ts Ty.Var) g) in part-found ctx p o h b.1 (k b.0 b.2)

-- into a result

-- a right side with normal types put in may stand on the right
pub put-right : {ctx ks : List Kind} {r n : Sig} {ts : List Ty} → IsRightSig (extend ctx ks) r → AreNormal ctx ts ks → IsSigAt ctx r ts n → IsRightSig ctx n
put-right {ts = ts} v a f =
    let c = form-conv_sig f in
    let k = at-substitutes (forms-kinds a) in
    ((well_formed-conv (well_formed-substitute (puts ts Ty.Var) k v.0.0) c, explicit_results-conv (explicit_results-substitute (puts ts Ty.Var) k v.0.1) c), form_sig-normal f)

-- what is looked up does not depend on which normal form of the right side is taken
pub res-looks : (ctx : List Kind) (s r n m : Sig) (p : SigPath) (ts : List Ty) (o : Option Ty) → IsSigAt ctx r ts n → IsSigAt ctx r ts m → Looks ctx s p n o → Looks ctx s p m o
res-looks ctx s r n m p ts o a b k = subst (λ z. Looks ctx s p z o) (form_sig-unique a b) k

-- nothing is found along a path through a functor's parameter
pub other-arg : {ctx : List Kind} {s n : Sig} {p : SigPath} {t : Ty} → Found ctx s (Item.Arg ∷ p) n t → ⊥
other-arg f = elim f [ ]

-- nothing is found along a path through a signature part
pub other-meta : {ctx : List Kind} {s n : Sig} {p : SigPath} {t : Ty} → Found ctx s (Item.Meta ∷ p) n t → ⊥
other-meta f = elim f [ ]

-- nothing is found along a result where the left side is no functor
pub no-left_functor : {ctx : List Kind} {r : Sig} {p : SigPath} {t : Ty} (s : Sig) → ((e : Effect) (ks : List Kind) (a : Sig) (x : Abs) → s ≡ Sig.Fun e ks a x → ⊥) → Found ctx s (Item.Res ∷ p) r t → ⊥
no-left_functor _ h (Found.result {ks = ks} {a = a} {s = s} m n f) = h Pure ks a (Abs.Ex [] s) refl

-- nothing is found along a result where the right side is no functor
pub no-right_functor : {ctx : List Kind} {s : Sig} {p : SigPath} {t : Ty} (r : Sig) → ((e : Effect) (ks : List Kind) (a : Sig) (x : Abs) → r ≡ Sig.Fun e ks a x → ⊥) → Found ctx s (Item.Res ∷ p) r t → ⊥
no-right_functor _ h (Found.result {js = js} {b = b} {r = r} m n f) = h Pure js b (Abs.Ex [] r) refl

-- nothing is found along a result unless both functors are pure
pub not-pure : {ctx ks js : List Kind} {e d : Effect} {a b : Sig} {x z : Abs} {p : SigPath} {t : Ty} → (((e ≡ Pure) × (d ≡ Pure)) → ⊥) → Found ctx (Sig.Fun e ks a x) (Item.Res ∷ p) (Sig.Fun d js b z) t → ⊥
not-pure h (Found.result m n f) = h (refl, refl)

-- the result of a functor that is refused, and one whose parameter matches

-- nothing is found along a result where the parameters do not match
pub refused-looks : {ctx ks js : List Kind} {a b : Sig} {x z : Abs} {p : SigPath} {q : MatchRefusal} {t : Ty} → OkSig ctx (Sig.Fun Pure ks a x) → IsRightSig ctx (Sig.Fun Pure js b z) → RefusesMatch (extend ctx js) b (raise_abs js (Abs.Ex ks a)) q → Found ctx (Sig.Fun Pure ks a x) (Item.Res ∷ p) (Sig.Fun Pure js b z) t → ⊥
refused-looks {js = js} w v q (Found.result {ts = ts} {f = f} m n g) = match-excluded q (good-right_param v) (good-param js w) ts f m

result-looks : {ctx ks js : List Kind} {a s b r y : Sig} (p : SigPath) {ts : List Ty} {g : Term} (o : Option Ty)
    → OkSig ctx (Sig.Fun Pure ks a (Abs.Ex [] s)) → IsRightSig ctx (Sig.Fun Pure js b (Abs.Ex [] r))
    → Match (extend ctx js) b (raise_abs js (Abs.Ex ks a)) ts g → NormalSigForm (extend ctx js) (sig_at_under js ts s) y
    → Looks (extend ctx js) y p r o → Looks ctx (Sig.Fun Pure ks a (Abs.Ex [] s)) (Item.Res ∷ p) (Sig.Fun Pure js b (Abs.Ex [] r)) (lam_found js o)
result-looks p (Some t) w v m n k = Found.result m n k
result-looks {ctx} {js = js} {s = s} {r = r} p None w v m n k = λ t f.
    let z = found-view f in
    let u = match-unique m (good-right_param v).0 (good-param js w).0 z.0 z.1 z.4 in
    k z.3 (subst (λ y. Found (extend ctx js) y p r z.3) (form_sig-unique (subst (λ us. NormalSigForm (extend ctx js) (sig_at_under js us s) z.2) (sym u.0) z.5) n) z.6)

-- what is found in the results, the left one at the types of the match, is found in the functors
pub matched-looks : {ctx ks js : List Kind} {a b : Sig} {x z y : Abs} (p : SigPath) {ts : List Ty} {g : Term} (o : Option Ty)
    → OkSig ctx (Sig.Fun Pure ks a x) → IsRightSig ctx (Sig.Fun Pure js b z)
    → Match (extend ctx js) b (raise_abs js (Abs.Ex ks a)) ts g → NormalAbsForm (extend ctx js) (abs_at_under js ts x) y
    → Looks (extend ctx js) (body_of y) p (body_of z) o → Looks ctx (Sig.Fun Pure ks a x) (Item.Res ∷ p) (Sig.Fun Pure js b z) (lam_found js o)
matched-looks {ctx} {ks} {js} {a} {b} {x} {z} {y} p {ts} {g} o w v m n k = go w.0 w v.0.0 v n k
  where
    go : {x z y : Abs} → WellFormed ctx (Sig.Fun Pure ks a x) → OkSig ctx (Sig.Fun Pure ks a x) → WellFormed ctx (Sig.Fun Pure js b z) → IsRightSig ctx (Sig.Fun Pure js b z) → NormalAbsForm (extend ctx js) (abs_at_under js ts x) y → Looks (extend ctx js) (body_of y) p (body_of z) o → Looks ctx (Sig.Fun Pure ks a x) (Item.Res ∷ p) (Sig.Fun Pure js b z) (lam_found js o)
    go (WellFormed.pure e u) w (WellFormed.pure d q) v (AlikeAbs.ex n) k = result-looks p o w v m n k

-- what is looked up in a result

-- the left result at the types of the match and the right result may be looked into
pub result-sides : {ctx ks js : List Kind} {a b : Sig} {x z y : Abs} {ts : List Ty} {g : Term}
    → OkSig ctx (Sig.Fun Pure ks a x) → IsRightSig ctx (Sig.Fun Pure js b z)
    → Match (extend ctx js) b (raise_abs js (Abs.Ex ks a)) ts g → NormalAbsForm (extend ctx js) (abs_at_under js ts x) y
    → LookSides (extend ctx js) (body_of y) [] (body_of z) []
result-sides {ctx} {ks} {js} {a} {b} {x} {z} {y} {ts} w v m n = go w.0 w v.0.0 v n
  where
    go : {x z y : Abs} → WellFormed ctx (Sig.Fun Pure ks a x) → OkSig ctx (Sig.Fun Pure ks a x) → WellFormed ctx (Sig.Fun Pure js b z) → IsRightSig ctx (Sig.Fun Pure js b z) → NormalAbsForm (extend ctx js) (abs_at_under js ts x) y → LookSides (extend ctx js) (body_of y) [] (body_of z) []
    go (WellFormed.pure e u) w (WellFormed.pure d q) v (AlikeAbs.ex n) = (good-body (good-left_result ctx js w (match-kinds m) (AlikeAbs.ex n)), good-pure (good-right_result v), NormalForms.none)

-- a normal signature that hides nothing is itself at no types
pub nothing-put : (ctx : List Kind) (r : Sig) → NormalSig ctx r → IsSigAt ctx r [] r
nothing-put ctx r n = subst (λ z. NormalSigForm ctx z r) (sym (substitute_sig-id r)) (normal_sig-form ctx r n)
