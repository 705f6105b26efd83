-- Paths into signatures for where type: a path leads to one part or leaves structures at one name, and a part shows
-- at most one of the own variables.
-- Main results: leads, shows.
use Rattle.std.specs.Prelude.{ℕ, zero, suc, pred, ◌<◌, List, [], ◌∷◌, ◌++◌, ◌≡◌, length, map}
use Rattle.std.proofs.Common.{arith, length-append}
use Rattle.std.proofs.Math.Path.{refl, sym, subst, ap, ◌∙◌}
use Rattle.omega_kinds.specs.Kind.{Kind}
use Rattle.omega_kinds.specs.declared.effect.Effect.{Effect}
use Rattle.omega_kinds.specs.Name.{Name}
use Rattle.omega_types.specs.Ty.{Ty}
use Rattle.omega_types.specs.Substitution.{rename}
use Rattle.omega_types.specs.EtaLong.{eta}
use Rattle.sig_definitions.specs.Signatures.Sig.{Sig, Abs, SigRow, HasField, NoField}
use Rattle.sig_definitions.specs.Explicit.SigPath.{Item, PartAt}
use Rattle.sig_laws.proofs.Algebra.BinderLaws.{past-length}
use Rattle.sig_judgments.specs.Refinement.{Leads, LeavesAt, here, there, own_part}
use Rattle.sig_definitions.specs.Verdict.{Verdict, holds, refuses, Perhaps, one, none}
use Rattle.sig_laws.proofs.Formed.Forms.{field-at, sig_dec}
use Rattle.sig_laws.proofs.Algebra.PathLaws.{no-field as not-field}

no-field : (fs : SigRow) (l : Name) → ((t : Sig) → HasField fs l t → ⊥) → NoField l fs
no-field SigRow.End l n = tt
no-field (SigRow.More m s rest) l n = (differ, no-field rest l (λ t h. n t (HasField.there differ h)))
  where
    differ : l ≡ m → ⊥
    differ e = n s (subst (λ l. HasField (SigRow.More m s rest) l s) (sym e) HasField.here)

-- where a path leads

leads-end : {s q : Sig} → PartAt s [] [] q → q ≡ s
leads-end PartAt.end = refl

leads-field : {fs : SigRow} {l : Name} {p : List Item} {q : Sig} → PartAt (Sig.Str fs) (Item.Part l ∷ p) [] q → (t : Sig) × HasField fs l t × PartAt t p [] q
leads-field (PartAt.field {s = s} h p) = (s, h, p)

past-functor : {s q : Sig} {p : List Item} {bs : List Kind} → PartAt s p bs q → (e : Effect) (ks : List Kind) (t : Sig) (z : Abs) → s ≡ Sig.Fun e ks t z → (l : Name) (r : List Item) → p ≡ Item.Part l ∷ r → ⊥
past-functor PartAt.end e ks t z i l r j = cc
past-functor (PartAt.field h p) e ks t z i l r j = cc
past-functor (PartAt.result p) e ks t z i l r j = cc

-- paths whose items have names
module _ {A : Type 0} (name : A → Name) where
  lack-end : {s : Sig} {y : A} → LeavesAt name s [] y → ⊥
  lack-end h = elim h [ ]

  -- a path leaves what is no structure at once
  at-first : {s : Sig} {x y : A} {path : List A} → ((fs : SigRow) → s ≡ Sig.Str fs → ⊥) → LeavesAt name s (x ∷ path) y → y ≡ x
  at-first n (here l) = refl
  at-first n (there {fs = fs} h l) = absurd (n fs refl)

  abbrev LeadsOrLacks : Sig → List A → Type 0
  LeadsOrLacks s path = Verdict (λ q. Leads s (map name path) q) (λ x. LeavesAt name s path x)

  leads-more : (fs : SigRow) (x : A) (path : List A) → Perhaps (λ t. HasField fs (name x) t) → ((t : Sig) → LeadsOrLacks t path) → LeadsOrLacks (Sig.Str fs) (x ∷ path)
  leads-more fs x path (none never) r = refuses x (here (no-field fs (name x) never)) same (λ q p. let w = leads-field p in never w.0 w.1)
    where
      same : (y : A) → LeavesAt name (Sig.Str fs) (x ∷ path) y → y ≡ x
      same y (here n) = refl
      same y (there {t = t} h l) = absurd (never t h)
  leads-more fs x path (one t h only) r = go (r t)
    where
      below : (q : Sig) → Leads (Sig.Str fs) (map name (x ∷ path)) q → Leads t (map name path) q
      below q p = let w = leads-field p in subst (λ s. Leads s (map name path) q) (only w.0 w.1) w.2

      lack_below : (y : A) → LeavesAt name (Sig.Str fs) (x ∷ path) y → LeavesAt name t path y
      lack_below y (here n) = absurd (not-field _ n h)
      lack_below y (there {t = s} g l) = subst (λ s. LeavesAt name s path y) (only s g) l

      go : LeadsOrLacks t path → LeadsOrLacks (Sig.Str fs) (x ∷ path)
      go (holds q p q_only never) = holds q (PartAt.field h p) (λ r p. q_only r (below r p)) (λ y l. never y (lack_below y l))
      go (refuses y l y_only never) = refuses y (there h l) (λ z m. y_only z (lack_below z m)) (λ q p. never q (below q p))

  -- a path of names leads to a part of a signature, or leaves the structures at a name
  pub leads : (s : Sig) (path : List A) → LeadsOrLacks s path
  leads s [] = holds s PartAt.end (λ q p. leads-end p) (λ x h. lack-end h)
  leads (Sig.Str fs) (x ∷ path) = leads-more fs x path (field-at fs (name x)) (λ t. leads t path)
  leads (Sig.Fun e ks s z) (x ∷ path) = refuses x (here tt) (λ y l. at-first (λ fs i. cc) l) (λ q p. past-functor p e ks s z refl (name x) (map Item.Part (map name path)) refl)
  leads s (x ∷ path) = refuses x (here tt) (λ y l. at-first (λ fs e. cc) l) (λ q p. elim p [ ])

-- the variable that a part shows: the head of an eta-long variable

abbrev head : Ty → ℕ
head (Ty.Var i) = i
head (Ty.Apply f a) = head f
head (Ty.Lam k b) = pred (head b)
head t = zero

data Spine : Ty → Type 0 where
  variable : {i : ℕ} → Spine (Ty.Var i)
  applied : {f a : Ty} → Spine f → Spine (Ty.Apply f a)

spine-raised : {t : Ty} → Spine t → Spine (rename suc t)
spine-raised variable = variable
spine-raised (applied s) = applied (spine-raised s)

head-raised : {t : Ty} → Spine t → head (rename suc t) ≡ suc (head t)
head-raised variable = refl
head-raised (applied s) = head-raised s

head-eta : (k : Kind) {t : Ty} → Spine t → head (eta k t) ≡ head t
head-eta Kind.Star s = refl
head-eta (Kind.Arrow k l) s = ap pred (head-eta l (applied (spine-raised s)) ∙ head-raised s)

typ-same : {t u : Ty} {k j : Kind} → Sig.Typ t k ≡ Sig.Typ u j → t ≡ u
typ-same e = cc

own-length : (k j : Kind) (ks js : List Kind) → own_part k ks ≡ own_part j js → length ks ≡ length js
own-length k j ks js e =
    let a = sym (head-eta k variable) ∙ (ap head (typ-same e) ∙ head-eta j variable) in
    let b = past-length ks zero in
    let c = past-length js zero in
    omega arith

-- a part shows the hidden type between those before it and those after it
abbrev pub Shows : List Kind → Sig → List Kind × Kind × List Kind → Type 0
Shows ks q o = (ks ≡ o.0 ++ (o.1 ∷ o.2)) × (q ≡ own_part o.1 o.2)

shows-none : (q : Sig) (bs : List Kind) (k : Kind) (cs : List Kind) → Shows [] q (bs, k, cs) → ⊥
shows-none q [] k cs s = let e = s.0 in cc
shows-none q (b ∷ bs) k cs s = let e = s.0 in cc

three-same : {A B C : Type 0} {a : A} {b : B} {c : C} (o : A × B × C) → o.0 ≡ a → o.1 ≡ b → o.2 ≡ c → o ≡ (a, b, c)
three-same o x y z = λ i. (x i, y i, z i)

tail-length : (bs : List Kind) (j : Kind) (cs ks : List Kind) → ks ≡ bs ++ (j ∷ cs) → length cs < length ks
tail-length bs j cs ks e = let a = ap length e ∙ length-append bs (j ∷ cs) in omega arith

-- the first binder is the one that is shown
shows-first : (k : Kind) (ks : List Kind) (q : Sig) → q ≡ own_part k ks → (bs : List Kind) (j : Kind) (cs : List Kind) → Shows (k ∷ ks) q (bs, j, cs) → (bs ≡ []) × (j ≡ k) × (cs ≡ ks)
shows-first k ks q e [] j cs s = let d = s.0 in (refl, (cc), (cc))
shows-first k ks q e (b ∷ bs) j cs s =
    let d = s.0 in
    let rest : ks ≡ bs ++ (j ∷ cs) = cc in
    let a = tail-length bs j cs ks rest in
    let b = own-length k j ks cs (sym e ∙ s.1) in
    absurd (omega arith)

-- or it is a later one
shows-later : (k : Kind) (ks : List Kind) (q : Sig) → (q ≡ own_part k ks → ⊥) → (bs : List Kind) (j : Kind) (cs : List Kind) → Shows (k ∷ ks) q (bs, j, cs) → (ds : List Kind) × (bs ≡ k ∷ ds) × Shows ks q (ds, j, cs)
shows-later k ks q n [] j cs s =
    let d = s.0 in
    let a : j ≡ k = cc in
    let b : cs ≡ ks = cc in
    absurd (n (s.1 ∙ (λ i. own_part (a i) (b i))))
shows-later k ks q n (b ∷ bs) j cs s = let d = s.0 in (bs, (cc), ((cc), s.1))

-- a part shows at most one of the hidden types
pub shows : (ks : List Kind) (q : Sig) → Perhaps (λ o. Shows ks q o)
shows [] q = none (λ o s. shows-none q o.0 o.1 o.2 s)
shows (k ∷ ks) q = go (sig_dec q (own_part k ks)) (shows ks q)
  where
    go : Dec (q ≡ own_part k ks) → Perhaps (λ o. Shows ks q o) → Perhaps (λ o. Shows (k ∷ ks) q o)
    go (yes e) p = one ([], k, ks) (refl, e) (λ o s. let w = shows-first k ks q e o.0 o.1 o.2 s in three-same o w.0 w.1 w.2)
    go (no n) (one o s only) = one (k ∷ o.0, o.1, o.2) (ap (◌∷◌ k) s.0, s.1) same
      where
        same : (u : List Kind × Kind × List Kind) → Shows (k ∷ ks) q u → u ≡ (k ∷ o.0, o.1, o.2)
        same u t =
            let w = shows-later k ks q n u.0 u.1 u.2 t in
            let e = only (w.0, u.1, u.2) w.2 in
            three-same u (w.1 ∙ ap (λ v. k ∷ v.0) e) (ap (λ v. v.1) e) (ap (λ v. v.2) e)
    go (no n) (none never) = none (λ u t. let w = shows-later k ks q n u.0 u.1 u.2 t in never (w.0, u.1, u.2) w.2)
