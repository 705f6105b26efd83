-- The functions that look up find what there is to find.
-- Main results: look-ok, look_all-ok.
use Rattle.std.specs.Prelude.{ℕ, ◌+◌, ◌<◌, List, [], ◌∷◌, ◌++◌, ◌≡◌, Option, Some, None, length}
use Rattle.std.proofs.Common.{arith}
use Rattle.std.proofs.Math.Path.{refl, sym, ◌∙◌, ap, subst, subst₂}
use Rattle.std.proofs.lemmas.List.{length-append, append-nil}
use Rattle.omega_kinds.specs.Kind.{Kind, Kind-discrete}
use Rattle.omega_kinds.specs.declared.effect.Effect.TheVariants.{Pure}
use Rattle.omega_kinds.specs.Name.{Name}
use Rattle.omega_types.specs.Ty.{Ty}
use Rattle.omega_types.specs.Normality.{Normal, n_lam, n_int}
use Rattle.omega_types.specs.Binders.{extend, past, puts, OfKinds}
use Rattle.omega_terms.specs.Term.{Term}
use Rattle.sig_definitions.specs.Signatures.Sig.{Sig, Abs, SigRow, HasField, NoField, here, there}
use Rattle.sig_definitions.specs.Signatures.SigSubst.{raise_abs, sig_at, sig_at_under}
use Rattle.sig_definitions.specs.Signatures.SigSize.{size, size_abs}
use Rattle.sig_laws.specs.NormalSig.{normal_sig}
use Rattle.sig_definitions.specs.Signatures.Alike.{NormalSigForm, ex}
use Rattle.sig_definitions.specs.Explicit.SigPath.{SigPath, Item}
use Rattle.sig_definitions.specs.Explicit.RootPath.{LeastRoot}
use Rattle.sig_definitions.specs.Matching.Subtyping.{Match}
use Rattle.sig_laws.proofs.Algebra.AlikeLaws.{form_sig-same, conv_sig-gives, conv_sig-substitute, substitutes-convertible}
use Rattle.omega_types.proofs.BinderPuts.{NormalTypes, types-append, types-kinds, fits-length, types-fit}
use Rattle.omega_types.proofs.BinderPuts.NormalTypes.{none, next}
use Rattle.sig_laws.proofs.Algebra.Instances.{at-substitutes, under-at-substitutes}
use Rattle.sig_laws.proofs.Algebra.SizeLaws.{size-substitute, size_abs-rename, size-alike, field-size}
use Rattle.sig_laws.proofs.Formed.WellFormedLaws.{well_formed-kinds, explicit-body}
use Rattle.sig_definitions.specs.Matching.LookUp.{Found, PutFirst, FoundAt, found_at, FoundAfter}
use Rattle.sig_definitions.specs.Matching.MatchRefusal.{MatchRefusal, RefusesMatch}
use Rattle.omega_kinds.proofs.NameLaws.{dec_name}
use Rattle.sig_match_laws.specs.MatchFunction.{MatchOutcome, Lookings, all_found, stopped_at, MatchFn, this_or, find_field, any_type, any_types, look_end, look_field, lam_found, look_result, look, go_on, look_along, look_all}
use Rattle.sig_match_laws.proofs.OneMatch.Agree.{root-agreed}
use Rattle.sig_laws.proofs.Formed.Conditions.{explicit-right, explicit-roots, left-functor, abs-body, match-kinds}
use Rattle.sig_match_laws.proofs.OneMatch.Unique.{append-one, match-unique}
use Rattle.sig_match_laws.proofs.LookUp.Roots.{least_root-exists}
use Rattle.sig_match_laws.proofs.LookUp.Good.{good-param, good-left_result, good-right_param, good-right_result, good-pure, good-body, good-at, good-left_field, good-right_field}
use Rattle.sig_match_laws.proofs.LookUp.LookUpLaws.{found-view, found-agree}
use Rattle.sig_match_laws.proofs.LookUp.FoundKinds.{found_at-normal}
use Rattle.sig_match_laws.proofs.LookUp.Refused.{match-excluded}
use Rattle.sig_laws.proofs.Algebra.PathLaws.{one-field, no-field}
use Rattle.sig_laws.proofs.Algebra.Paths.{one_least}
use Rattle.sig_laws.specs.Good.{OkSig, OkRight}
use Rattle.sig_match_laws.specs.MatchClaims.{IsRightSig}
use Rattle.sig_laws.proofs.Formed.RootNumbers.{root-of}

-- fields

-- what is found for a name in fields: the field, or that there is none
pub data FieldOk (fs : SigRow) (l : Name) : Option Sig → Type 0 where
  has : {s : Sig} → HasField fs l s → FieldOk fs l (Some s)
  lacks : NoField l fs → FieldOk fs l None

-- the search for a field finds the field of the name, or that there is none
pub find_field-ok : (l : Name) (fs : SigRow) → FieldOk fs l (find_field l fs)
find_field-ok l SigRow.End = lacks tt
find_field-ok l (SigRow.More m s rest) = go (dec_name l m) (find_field-ok l rest)
  where
    at_name : {m : Name} → l ≡ m → HasField (SigRow.More m s rest) l s
    at_name {m} e = subst (λ x. HasField (SigRow.More x s rest) l s) e here

    go : (d : Dec (l ≡ m)) {o : Option Sig} → FieldOk rest l o → FieldOk (SigRow.More m s rest) l (this_or d s o)
    go (yes e) q = has (at_name e)
    go (no n) (has h) = has (there n h)
    go (no n) (lacks h) = lacks (n, h)

-- a match function that is right for small signatures

-- an outcome of matching that is derived: types and a coercion, or a refusal
pub data MatchOk (ctx : List Kind) (s : Sig) (x : Abs) : MatchOutcome → Type 0 where
  match_ok : {ts : List Ty} {f : Term} → Match ctx s x ts f → MatchOk ctx s x (MatchOutcome.matched ts f)
  refusal_ok : {q : MatchRefusal} → RefusesMatch ctx s x q → MatchOk ctx s x (MatchOutcome.refused q)

-- the function gives derived outcomes of matching for signatures up to a size
abbrev pub MatchSound : MatchFn → ℕ → Type 0
MatchSound m n = (ctx : List Kind) (s : Sig) (x : Abs) → size s + size_abs x < n → OkSig ctx s → OkRight ctx x → MatchOk ctx s x (m ctx s x)

-- looking up along a path

-- what is looked up along a path: a type that is found there, or that there is none
pub data LookOk (ctx : List Kind) (s : Sig) (p : SigPath) (r : Sig) : Option Ty → Type 0 where
  look_found : {t : Ty} → Found ctx s p r t → LookOk ctx s p r (Some t)
  look_none : ((t : Ty) → Found ctx s p r t → ⊥) → LookOk ctx s p r None

look_end-ok : {ctx : List Kind} {t u : Ty} {k j : Kind} (d : Dec (k ≡ j)) → LookOk ctx (Sig.Typ t k) [] (Sig.Typ u j) (look_end d t)
look_end-ok {ctx} {t} {u} {k} {j} (yes e) = look_found (subst (λ i. Found ctx (Sig.Typ t k) [] (Sig.Typ u i) t) e Found.end)
look_end-ok {ctx} {t} {u} {k} {j} (no n) = look_none (λ w d. n (found-view d).0)

look_field-ok : {ctx : List Kind} {fs gs : SigRow} {l : Name} {p : SigPath} {a b : Option Sig} (f : Sig → Sig → Option Ty) → FieldOk fs l a → FieldOk gs l b
    → ((s r : Sig) → HasField fs l s → HasField gs l r → LookOk ctx s p r (f s r))
    → LookOk ctx (Sig.Str fs) (Item.Part l ∷ p) (Sig.Str gs) (look_field a b f)
look_field-ok {ctx} {fs} {gs} {l} {p} f (has {s = s} h) (has {s = r} g) k = go (k s r h g)
  where
    go : {o : Option Ty} → LookOk ctx s p r o → LookOk ctx (Sig.Str fs) (Item.Part l ∷ p) (Sig.Str gs) o
    go (look_found d) = look_found (Found.field h g d)
    go (look_none n) = look_none (λ t d. let q = found-view d in n t (subst₂ (λ x y. Found ctx x p y t) (one-field q.2 h refl) (one-field q.3 g refl) q.4))
look_field-ok f (has h) (lacks n) k = look_none (λ t d. no-field _ n (found-view d).3)
look_field-ok f (lacks n) q k = look_none (λ t d. no-field _ n (found-view d).2)

pub result-form : {ctx ks : List Kind} (js : List Kind) {a s b : Sig} {ts : List Ty} {g : Term} → OkSig ctx (Sig.Fun Pure ks a (Abs.Ex [] s)) → Match (extend ctx js) b (raise_abs js (Abs.Ex ks a)) ts g → NormalSigForm (extend ctx js) (sig_at_under js ts s) (normal_sig (extend ctx js) (sig_at_under js ts s))
result-form {ctx} {ks} js {a} {s} {b} {ts} w m =
    let f = puts ts (λ i. Ty.Var (past js i)) in
    conv_sig-gives (conv_sig-substitute f f (substitutes-convertible (under-at-substitutes ctx js (match-kinds m))) (well_formed-kinds (abs-body (left-functor w.0).1)))

look_result-ok : {ctx ks js : List Kind} {a s b r : Sig} {p : SigPath} {o : MatchOutcome} (f : List Ty → Option Ty)
    → OkSig ctx (Sig.Fun Pure ks a (Abs.Ex [] s)) → IsRightSig ctx (Sig.Fun Pure js b (Abs.Ex [] r))
    → MatchOk (extend ctx js) b (raise_abs js (Abs.Ex ks a)) o
    → ((ts : List Ty) (g : Term) → Match (extend ctx js) b (raise_abs js (Abs.Ex ks a)) ts g → LookOk (extend ctx js) (normal_sig (extend ctx js) (sig_at_under js ts s)) p r (f ts))
    → LookOk ctx (Sig.Fun Pure ks a (Abs.Ex [] s)) (Item.Res ∷ p) (Sig.Fun Pure js b (Abs.Ex [] r)) (look_result js o f)
look_result-ok {ctx} {ks} {js} {a} {s} {b} {r} {p} f w v (refusal_ok q) k =
    look_none (λ t d. let z = found-view d in match-excluded q (good-right_param v) (good-param js w) z.0 z.1 z.4)
look_result-ok {ctx} {ks} {js} {a} {s} {b} {r} {p} f w v (match_ok {ts = ts} {f = g} m) k = go (k ts g m)
  where
    form : NormalSigForm (extend ctx js) (sig_at_under js ts s) (normal_sig (extend ctx js) (sig_at_under js ts s))
    form = result-form js w m

    go : {o : Option Ty} → LookOk (extend ctx js) (normal_sig (extend ctx js) (sig_at_under js ts s)) p r o → LookOk ctx (Sig.Fun Pure ks a (Abs.Ex [] s)) (Item.Res ∷ p) (Sig.Fun Pure js b (Abs.Ex [] r)) (lam_found js o)
    go (look_found d) = look_found (Found.result m form d)
    go (look_none n) = look_none never
      where
        never : (t : Ty) → Found ctx (Sig.Fun Pure ks a (Abs.Ex [] s)) (Item.Res ∷ p) (Sig.Fun Pure js b (Abs.Ex [] r)) t → ⊥
        never t d =
            let z = found-view d in
            let u = match-unique m (good-right_param v).0 (good-param js w).0 z.0 z.1 z.4 in
            let e = form_sig-same (subst (λ us. NormalSigForm (extend ctx js) (sig_at_under js us s) z.2) (sym u.0) z.5) in
            n z.3 (subst (λ y. Found (extend ctx js) y p r z.3) e z.6)

-- looking up along a path finds what the left side has there, or that it has nothing
pub look-ok : (m : MatchFn) (n : ℕ) → MatchSound m n → (ctx : List Kind) (s : Sig) (p : SigPath) (r : Sig) → size s + size r < n → OkSig ctx s → IsRightSig ctx r → LookOk ctx s p r (look m ctx s p r)
look-ok m n h ctx (Sig.Typ t k) [] (Sig.Typ u j) lt w v = look_end-ok (Kind-discrete k j)
look-ok m n h ctx (Sig.Str fs) (Item.Part l ∷ p) (Sig.Str gs) lt w v =
    look_field-ok (λ s r. look m ctx s p r) (find_field-ok l fs) (find_field-ok l gs)
    (λ s r hs hr. let a = field-size hs in let b = field-size hr in look-ok m n h ctx s p r (omega arith) (good-left_field w hs) (good-right_field v hr))
look-ok m n h ctx (Sig.Fun Pure ks a (Abs.Ex [] s)) (Item.Res ∷ p) (Sig.Fun Pure js b (Abs.Ex [] r)) lt w v =
    look_result-ok (λ ts. look m (extend ctx js) (normal_sig (extend ctx js) (sig_at_under js ts s)) p r) w v
    (let e = size_abs-rename (past js) (Abs.Ex ks a) in h (extend ctx js) b (raise_abs js (Abs.Ex ks a)) (omega (arith, lt, e)) (good-right_param v) (good-param js w))
    (λ ts g d.
    let f = result-form js w d in
    let e = sym (size-alike f) ∙ size-substitute (puts ts (λ i. Ty.Var (past js i))) s in
    look-ok m n h (extend ctx js) (normal_sig (extend ctx js) (sig_at_under js ts s)) p r (omega (arith, lt, e)) (good-body (good-left_result ctx js w (match-kinds d) (ex f))) (good-pure (good-right_result v)))
look-ok m n h ctx s p r lt w v = look_none (λ t d. found-view d)

-- looking up all variables

any_type-normal : (ctx : List Kind) (k : Kind) → Normal ctx (any_type k) k
any_type-normal ctx Kind.Star = n_int
any_type-normal ctx (Kind.Arrow k l) = n_lam (any_type-normal (k ∷ ctx) l)

any_types-normal : (ctx ks : List Kind) → NormalTypes ctx (any_types ks) ks
any_types-normal ctx [] = none
any_types-normal ctx (k ∷ ks) = next (any_type-normal ctx k) (any_types-normal ctx ks)

-- the normal form of a right side at types of its kinds is the one that the function gives
pub at-form : {ctx ks : List Kind} {r : Sig} {ts : List Ty} → OkRight ctx (Abs.Ex ks r) → OfKinds ctx ts ks → NormalSigForm ctx (sig_at ts r) (normal_sig ctx (sig_at ts r))
at-form {ctx} {ks} {r} {ts} v h = let f = puts ts Ty.Var in conv_sig-gives (conv_sig-substitute f f (substitutes-convertible (at-substitutes h)) (explicit-body v.0))

-- what is looked up for the hidden types in order: all of them, or the first that has no root on the left
pub data LookingsOk (ctx : List Kind) (s : Sig) (ks : List Kind) (r : Sig) (before : List Ty) : Lookings → Type 0 where
  found_ok : {ts rest : List Ty} → ts ≡ before ++ rest → FoundAfter ctx s ks r before rest → NormalTypes ctx ts ks → LookingsOk ctx s ks r before (all_found ts)
  stop_ok : {ts rest : List Ty} {number : ℕ} {p : SigPath} → ts ≡ before ++ rest → FoundAfter ctx s ks r before rest → number ≡ length ts → length ts < length ks → LeastRoot ctx ks r (length ts) p → ((t : Ty) → FoundAt ctx s ks r ts t → ⊥) → LookingsOk ctx s ks r before (stopped_at number p)

-- one more in front
lookings-more : {ctx : List Kind} {s : Sig} {ks : List Kind} {r : Sig} {before : List Ty} {t : Ty} {o : Lookings} → FoundAt ctx s ks r before t → LookingsOk ctx s ks r (before ++ (t ∷ [])) o → LookingsOk ctx s ks r before o
lookings-more {before = before} {t = t} f (found_ok {rest = rest} e g n) = found_ok (e ∙ sym (append-one before rest t)) (FoundAfter.next f g) n
lookings-more {before = before} {t = t} f (stop_ok {rest = rest} e g l lt root stop) = stop_ok (e ∙ sym (append-one before rest t)) (FoundAfter.next f g) l lt root stop

go_on-ok : {ctx : List Kind} {s : Sig} {ks : List Kind} {r : Sig} {before : List Ty} {p : SigPath} {n : Sig} {o : Option Ty} (rest : List Ty) (f : Ty → Lookings)
    → OkSig ctx s → OkRight ctx (Abs.Ex ks r) → length before < length ks
    → LeastRoot ctx ks r (length before) p → OfKinds ctx (before ++ rest) ks → NormalSigForm ctx (sig_at (before ++ rest) r) n
    → LookOk ctx s p n o
    → ((t : Ty) → FoundAt ctx s ks r before t → LookingsOk ctx s ks r (before ++ (t ∷ [])) (f t))
    → LookingsOk ctx s ks r before (go_on (length before) p o f)
go_on-ok rest f w v lt root h nf (look_found {t = t} d) k = let g = found_at root (PutFirst.put rest h nf) d in lookings-more g (k t g)
go_on-ok {ctx} {s} {ks} {r} {before} {p} {n} rest f w v lt root h nf (look_none never) k = stop_ok (sym (append-nil before)) FoundAfter.none refl lt root stop
  where
    stop : (t : Ty) → FoundAt ctx s ks r before t → ⊥
    stop t (found_at {p = q} {n = m} k2 (PutFirst.put others g nq) d) =
        let z = root-agreed before others rest refl refl g h lt (root-of root) nq nf in
        never t (found-agree z.5.2 (subst (λ x. Found ctx s x m t) (one_least k2 root) d))

-- looking up the hidden types in order finds all of them, or the first one that has no root on the left
pub look_all-ok : (m : MatchFn) (n : ℕ) → MatchSound m n → (ctx : List Kind) (s : Sig) (ks : List Kind) (r : Sig) (before : List Ty) (first left : List Kind)
    → size s + size r < n → OkSig ctx s → OkRight ctx (Abs.Ex ks r) → ks ≡ first ++ left → NormalTypes ctx before first
    → LookingsOk ctx s ks r before (look_all m ctx s ks r before left)
look_all-ok m n h ctx s ks r before first [] lt w v e b = found_ok (sym (append-nil before)) FoundAfter.none (subst (NormalTypes ctx before) (sym (e ∙ append-nil first)) b)
look_all-ok m n h ctx s ks r before first (k ∷ more) lt w v e b =
    let x = types-kinds (subst (NormalTypes ctx (before ++ any_types (k ∷ more))) (sym e) (types-append b (any_types-normal ctx (k ∷ more)))) in
    let nf = at-form v x in
    let below = small (fits-length (types-fit b)) in
    let root = least_root-exists (explicit-right v.0).0 v.1 below (explicit-roots v.0 (length before) below) in
    let sz = sym (size-alike nf) ∙ size-substitute (puts (before ++ any_types (k ∷ more)) Ty.Var) r in
    subst (λ o. LookingsOk ctx s ks r before (look_along (length before) o (λ p. look m ctx s p (normal_sig ctx (sig_at (before ++ any_types (k ∷ more)) r))) (λ t. look_all m ctx s ks r (before ++ (t ∷ [])) more))) (sym root.1)
    (go_on-ok (any_types (k ∷ more)) (λ t. look_all m ctx s ks r (before ++ (t ∷ [])) more) w v below root.2 x nf
    (look-ok m n h ctx s root.0 (normal_sig ctx (sig_at (before ++ any_types (k ∷ more)) r)) (omega (arith, lt, sz)) w (good-at v x nf))
    (λ t g. look_all-ok m n h ctx s ks r (before ++ (t ∷ [])) (first ++ (k ∷ [])) more lt w v (e ∙ append-one first more k)
    (types-append b (next (found_at-normal before first k more w v e (fits-length (types-fit b)) g) none))))
  where
    small : length before ≡ length first → length before < length ks
    small l = let a = ap length e ∙ length-append first (k ∷ more) in omega (arith, l, a)
