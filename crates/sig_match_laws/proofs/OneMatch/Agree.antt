-- Two right sides that agree along a path, and what a root path fixes.
-- Main results: root-agreed.
use Rattle.std.specs.Prelude.{ℕ, suc, ◌+◌, ◌-◌, ◌≤◌, ◌<◌, List, [], ◌∷◌, ◌++◌, ◌≡◌, length}
use Rattle.std.proofs.Common.{arith}
use Rattle.std.proofs.Math.Decide.{dec_lt}
use Rattle.std.proofs.Math.Path.{sym, ◌∙◌, ap, subst, subst₂}
use Rattle.std.proofs.lemmas.List.{length-append}
use Rattle.omega_kinds.specs.Kind.{Kind}
use Rattle.omega_kinds.specs.declared.effect.Effect.TheVariants.{Pure}
use Rattle.omega_kinds.specs.Name.{Name}
use Rattle.omega_types.specs.Ty.{Ty}
use Rattle.omega_types.specs.Substitution.{substitute}
use Rattle.omega_types.specs.Conversion.{Conv}
use Rattle.omega_types.specs.Conversion.Conv.{c_sym, c_trans}
use Rattle.omega_types.specs.Normality.{Normal}
use Rattle.omega_types.specs.Normalises.{NormalForm}
use Rattle.omega_types.specs.Binders.{extend, past, unders, own, applied, lam_over, puts, OfKinds}
use Rattle.omega_types.proofs.Preservation.{conv-kinds, conv-substitute, normal-kind}
use Rattle.sig_definitions.specs.Signatures.Sig.{Sig, Abs, SigRow, HasField}
use Rattle.sig_definitions.specs.Signatures.SigSubst.{substitute_sig, sig_at}
use Rattle.sig_definitions.specs.Signatures.Alike.{typ, str, fun, ex, NormalSigForm}
use Rattle.sig_definitions.specs.Signatures.SigMentions.{MentionsSig, Avoids, by_normal_form}
use Rattle.sig_definitions.specs.Explicit.SigPath.{SigPath, Item, PartAt, ParamOn}
use Rattle.sig_definitions.specs.Explicit.RootPath.{ParamsAvoid, Rooted, RootPath, root_path, root_of}
use Rattle.sig_laws.proofs.Algebra.BinderLaws.{extend-append, unders-append, puts-own, puts-before}
use Rattle.sig_laws.proofs.Algebra.AlikeLaws.{conv_sig-sym, form-conv_sig, conv-form_sig, form_sig-unique, conv_sig-substitute, substitutes-convertible}
use Rattle.sig_laws.proofs.Algebra.SigMention.{unders-agree, substitute_sig-agree}
use Rattle.sig_laws.proofs.Algebra.EtaLaws.{operator_found, operator_kind}
use Rattle.sig_laws.proofs.Algebra.PathLaws.{field-substitute, field-alike}
use Rattle.omega_types.proofs.BinderPuts.{NormalTypes, types-kinds, unders-substitutes}
use Rattle.omega_types.proofs.BinderPuts.NormalTypes.{next}
use Rattle.sig_laws.proofs.Algebra.Instances.{kinds-length, at-substitutes}
use Rattle.sig_laws.proofs.Formed.RootNumbers.{own_falls}
use Rattle.omega_types.proofs.BinderLaws.{applied-substitute}

-- Agree r q p bs t u k: along p the two have the same parameters, and at its end the types t and u of kind k
pub data Agree : Sig → Sig → SigPath → List Kind → Ty → Ty → Kind → Type 0 where
  end : {t u : Ty} {k : Kind} → Agree (Sig.Typ t k) (Sig.Typ u k) [] [] t u k
  field : {fs gs : SigRow} {l : Name} {r q : Sig} {p : SigPath} {bs : List Kind} {t u : Ty} {k : Kind}
      → HasField fs l r
      → HasField gs l q
      → Agree r q p bs t u k
      → Agree (Sig.Str fs) (Sig.Str gs) (Item.Part l ∷ p) bs t u k
  result : {ks bs : List Kind} {s r q : Sig} {p : SigPath} {t u : Ty} {k : Kind}
      → Agree r q p bs t u k
      → Agree (Sig.Fun Pure ks s (Abs.Ex [] r)) (Sig.Fun Pure ks s (Abs.Ex [] q)) (Item.Res ∷ p) (ks ++ bs) t u k

-- substitutions that do the same to each parameter on a path
abbrev pub SameParams : List Kind → (f g : ℕ → Ty) → Sig → SigPath → Type 0
SameParams ctx f g s p = (ds js : List Kind) (b n m : Sig) → ParamOn s p ds js b
    → NormalSigForm (extend (extend ctx ds) js) (substitute_sig (unders js (unders ds f)) b) n
    → NormalSigForm (extend (extend ctx ds) js) (substitute_sig (unders js (unders ds g)) b) m
    → n ≡ m

-- what they make of the path
abbrev pub Agreed : List Kind → (f g : ℕ → Ty) → Sig → Sig → SigPath → List Kind → Ty → Kind → Type 0
Agreed ctx f g r q p bs u k = (a b : Ty) × Agree r q p bs a b k × NormalForm (extend ctx bs) (substitute (unders bs f) u) k a × NormalForm (extend ctx bs) (substitute (unders bs g) u) k b

pub agreed : {s : Sig} {p : SigPath} {bs : List Kind} {u : Ty} {k : Kind} {r q : Sig} (ctx : List Kind) (f g : ℕ → Ty)
    → PartAt s p bs (Sig.Typ u k) → SameParams ctx f g s p
    → NormalSigForm ctx (substitute_sig f s) r → NormalSigForm ctx (substitute_sig g s) q
    → Agreed ctx f g r q p bs u k
agreed ctx f g PartAt.end same (typ {u = a} n) (typ {u = b} m) = (a, b, Agree.end, n, m)
agreed ctx f g (PartAt.field h a) same (str n) (str m) =
    let w = field-alike n (field-substitute f h) in
    let v = field-alike m (field-substitute g h) in
    let z = agreed ctx f g a (λ ds js b n m on. same ds js b n m (ParamOn.field h on)) w.2 v.2 in
    (z.0, z.1, Agree.field w.1 v.1 z.2, z.3, z.4)
agreed ctx f g (PartAt.result {ks = ks} {bs = bs} {s = s} {r = c} {q = Sig.Typ u k} {p = p} a) same (fun {t = n0} n (ex {t = n1} r)) (fun {t = m0} m (ex {t = m1} q)) =
    let e : n0 ≡ m0 = same [] ks s n0 m0 ParamOn.here n m in
    let z = agreed (extend ctx ks) (unders ks f) (unders ks g) a
    (λ ds js b n m on x y. same (ks ++ ds) js b n m (ParamOn.result on)
    (subst₂ (λ h o. NormalSigForm (extend h js) (substitute_sig (unders js o) b) n) (sym (extend-append ks ds ctx)) (sym (unders-append ks ds f)) x)
    (subst₂ (λ h o. NormalSigForm (extend h js) (substitute_sig (unders js o) b) m) (sym (extend-append ks ds ctx)) (sym (unders-append ks ds g)) y))
    r q in (
      z.0,
      z.1,
      subst (λ x. Agree (Sig.Fun Pure ks n0 (Abs.Ex [] n1)) (Sig.Fun Pure ks x (Abs.Ex [] m1)) (Item.Res ∷ p) (ks ++ bs) z.0 z.1 k) e (Agree.result z.2),
      subst₂ (λ h o. NormalForm h (substitute o u) k z.0) (sym (extend-append ks bs ctx)) (sym (unders-append ks bs f)) z.3,
      subst₂ (λ h o. NormalForm h (substitute o u) k z.1) (sym (extend-append ks bs ctx)) (sym (unders-append ks bs g)) z.4,
    )

-- types that are the same for the variables before one give the same parameters on its root path

pub same_params : {ctx ks : List Kind} {s : Sig} {p : SigPath} {ts us : List Ty} (before rest others : List Ty)
    → ts ≡ before ++ rest → us ≡ before ++ others
    → OfKinds ctx ts ks → OfKinds ctx us ks
    → length before < length ks
    → ((j : ℕ) → length before ≤ j → j < length ks → ParamsAvoid (extend ctx ks) s p (own ks j))
    → SameParams ctx (puts ts Ty.Var) (puts us Ty.Var) s p
same_params {ctx} {ks} {s} {p} {ts} {us} before rest others e g hs hu lt avoid ds js b n m on x y = with_first (avoid (length before) (omega arith) lt ds js b on)
  where
    len1 : length before + length rest ≡ length ks
    len1 = sym (length-append before rest) ∙ (ap length (sym e) ∙ kinds-length hs)

    len2 : length before + length others ≡ length ks
    len2 = sym (length-append before others) ∙ (ap length (sym g) ∙ kinds-length hu)

    outside : (i : ℕ) → (i < length rest → ⊥) → puts ts Ty.Var i ≡ puts us Ty.Var i
    outside i h =
        let a = len1 in
        let c = len2 in
        ap (λ z. puts z Ty.Var i) e ∙ (puts-before before rest others Ty.Var (i - length rest) i i (omega (arith, h)) (omega (arith, h, a, c)) ∙ ap (λ z. puts z Ty.Var i) (sym g))

    with_first : Avoids (extend (extend (extend ctx ks) ds) js) b (past js (past ds (own ks (length before)))) → n ≡ m
    with_first (by_normal_form {n = z} f absent) =
        let sf = unders-substitutes js (unders-substitutes ds (at-substitutes hs)) in
        let sg = unders-substitutes js (unders-substitutes ds (at-substitutes hu)) in
        form_sig-unique
        (subst (λ w. NormalSigForm (extend (extend ctx ds) js) w n) agree (conv-form_sig (conv_sig-sym (conv_sig-substitute (unders js (unders ds (puts ts Ty.Var))) (unders js (unders ds (puts ts Ty.Var))) (substitutes-convertible sf) (form-conv_sig f))) x))
        (conv-form_sig (conv_sig-sym (conv_sig-substitute (unders js (unders ds (puts us Ty.Var))) (unders js (unders ds (puts us Ty.Var))) (substitutes-convertible sg) (form-conv_sig f))) y)
      where
        mentioned : (i : ℕ) → MentionsSig (past js (past ds i)) z → puts ts Ty.Var i ≡ puts us Ty.Var i
        mentioned i h = go (dec_lt i (length rest))
          where
            never : {v : ℕ} → v ≡ i → Avoids (extend (extend (extend ctx ks) ds) js) b (past js (past ds v)) → ⊥
            never {v} q (by_normal_form {n = w} c hidden) = hidden (subst₂ (λ o x. MentionsSig (past js (past ds o)) x) (sym q) (form_sig-unique f c) h)

            go : Dec (i < length rest) → puts ts Ty.Var i ≡ puts us Ty.Var i
            go (yes q) =
                let l = len1 in
                let j = length ks - suc i in
                let lo : length before ≤ j = omega (arith, l, q) in
                let hi : j < length ks = omega (arith, l, q) in
                let at_i : own ks j ≡ i = omega (arith, l, q) in
                absurd (never at_i (avoid j lo hi ds js b on))
            go (no q) = outside i q

        agree : substitute_sig (unders js (unders ds (puts ts Ty.Var))) z ≡ substitute_sig (unders js (unders ds (puts us Ty.Var))) z
        agree = substitute_sig-agree (unders js (unders ds (puts ts Ty.Var))) (unders js (unders ds (puts us Ty.Var))) z
            (unders-agree js (λ i. MentionsSig i z) (unders ds (puts ts Ty.Var)) (unders ds (puts us Ty.Var))
            (unders-agree ds (λ i. MentionsSig (past js i) z) (puts ts Ty.Var) (puts us Ty.Var) mentioned))

-- the type for the variable that is rooted at the path

pub normal_types-middle : {ctx : List Kind} {ts : List Ty} {ks : List Kind} (before rest : List Ty) (t : Ty) → ts ≡ before ++ (t ∷ rest) → NormalTypes ctx ts ks → (k : Kind) × Normal ctx t k
normal_types-middle {ctx} {ts} {ks} before rest t e n = go before (subst (λ z. NormalTypes ctx z ks) e n)
  where
    go : {ctx ks : List Kind} (before : List Ty) → NormalTypes ctx (before ++ (t ∷ rest)) ks → (k : Kind) × Normal ctx t k
    go [] (next {k = k} n ns) = (k, n)
    go (b ∷ before) (next n ns) = go before ns

-- the type that is put in for the variable of its number
pub put-own : {ctx ks : List Kind} {tys : List Ty} {t : Ty} (before rest : List Ty) → tys ≡ before ++ (t ∷ rest) → OfKinds ctx tys ks → puts tys Ty.Var (own ks (length before)) ≡ t
put-own {ks = ks} {t = t} before rest e h =
    let l : length ks ≡ length before + suc (length rest) = sym (kinds-length h) ∙ (ap length e ∙ length-append before (t ∷ rest)) in
    ap (λ z. puts z Ty.Var (own ks (length before))) e ∙ puts-own before rest t Ty.Var (own ks (length before)) (omega arith)

-- a part that is the variable itself, applied to the variables of the path, shows the type that was put in
pub type_shown : {ctx ks : List Kind} {tys : List Ty} {t a u : Ty} {k : Kind} (bs : List Kind) (before rest : List Ty)
    → tys ≡ before ++ (t ∷ rest) → NormalTypes ctx tys ks
    → Conv (extend (extend ctx ks) bs) u (applied bs (Ty.Var (own ks (length before)))) k
    → NormalForm (extend ctx bs) (substitute (unders bs (puts tys Ty.Var)) u) k a
    → lam_over bs a ≡ t
type_shown {ctx} {ks} {tys} {t} {a} {u} {k} bs before rest e n c f =
    let m = normal_types-middle before rest t e n in
    let d = conv-substitute (unders bs (puts tys Ty.Var)) (unders-substitutes bs (at-substitutes (types-kinds n))) c in
    let d2 = subst (λ w. Conv (extend ctx bs) (substitute (unders bs (puts tys Ty.Var)) u) w k) (applied-substitute bs (puts tys Ty.Var) (Ty.Var (own ks (length before))) ∙ ap (applied bs) (put-own before rest e (types-kinds n))) d in
    let d3 = c_trans (c_sym f.1) d2 in
    operator_found bs f.0 (subst (λ j. Normal ctx t j) (operator_kind bs t (normal-kind m.1) (conv-kinds d3).1) m.1) d3

-- right sides with the same types before a variable agree along its root path

-- a right side at types that are the same up to a hidden type has the same parameters on the root path of that type
pub root-agreed : {ctx ks : List Kind} {s r q : Sig} {p : SigPath} {ts us : List Ty} (before rest others : List Ty)
    → ts ≡ before ++ rest → us ≡ before ++ others
    → OfKinds ctx ts ks → OfKinds ctx us ks
    → length before < length ks
    → RootPath ctx ks s (length before) p
    → NormalSigForm ctx (sig_at ts s) r → NormalSigForm ctx (sig_at us s) q
    → (bs : List Kind) × (u : Ty) × (k : Kind) × Conv (extend (extend ctx ks) bs) u (applied bs (Ty.Var (own ks (length before)))) k × PartAt s p bs (Sig.Typ u k) × Agreed ctx (puts ts Ty.Var) (puts us Ty.Var) r q p bs u k
root-agreed {ctx} {ks} {s} {r} {q} {p} {ts} {us} before rest others e g n m lt (root_path b (root_of (Rooted.at {bs = bs} {t = u} {k = k} a c) avoid)) nr nq =
    (bs, u, k, c, a, agreed ctx (puts ts Ty.Var) (puts us Ty.Var) a (same_params before rest others e g n m lt (λ j le e. avoid (own ks j) (own_falls ks (length before) j le))) nr nq)
