-- The search finds the least root path.
-- Main results: least_root-exists, least_root-gives.
use Rattle.std.specs.Prelude.{ℕ, ◌≤◌, ◌<◌, List, [], ◌∷◌, ◌++◌, ◌≡◌, ◌⊎◌, Option, Some, None, length}
use Rattle.std.proofs.Math.Logic.{inl, inr}
use Rattle.std.proofs.Math.Path.{refl, sym, ◌∙◌, ap, subst, subst₂}
use Rattle.omega_kinds.specs.Kind.{Kind, Kind-discrete}
use Rattle.omega_kinds.specs.declared.effect.Effect.TheVariants.{Pure, Impure}
use Rattle.omega_kinds.specs.Name.{Name}
use Rattle.omega_types.specs.Ty.{Ty}
use Rattle.omega_types.specs.Kinding.{Lookup, HasKind, here, there}
use Rattle.omega_types.specs.Kinding.HasKind.{k_var}
use Rattle.omega_types.specs.Conversion.{Conv}
use Rattle.omega_types.specs.Conversion.Conv.{c_sym}
use Rattle.omega_types.specs.Normality.{Normal}
use Rattle.omega_types.specs.Normaliser.{normal, kind_at}
use Rattle.omega_types.specs.Binders.{extend, past, own, applied, arrow_over}
use Rattle.omega_types.proofs.Preservation.{conv-kinds}
use Rattle.omega_types.proofs.Hereditary.{normal-gives, lookup-kind_at}
use Rattle.omega_types.proofs.Inverse.{one_kind, same-normal}
use Rattle.omega_types.proofs.LawProofs.{normal_of_normal}
use Rattle.sig_definitions.specs.Signatures.Sig.{Sig, Abs, SigRow, HasField, here, there}
use Rattle.sig_definitions.specs.Signatures.Alike.{NormalSig, NormalSigRow}
use Rattle.sig_definitions.specs.Signatures.SigMentions.{MentionsSig, Avoids, by_normal_form}
use Rattle.sig_definitions.specs.Explicit.SigPath.{SigPath, Item, PathBefore, PartAt, ParamOn, first, later}
use Rattle.sig_definitions.specs.Explicit.RootPath.{Rooted, ParamsAvoid, RootPath, root_path, LeastRoot, least, root_of}
use Rattle.sig_definitions.specs.Explicit.WellFormed.{BeforeAll, Rising, WellFormed, WellFormedRow}
use Rattle.sig_laws.proofs.Algebra.BinderLaws.{extend-append, past-append, applied-append}
use Rattle.sig_laws.proofs.Algebra.AlikeLaws.{normal_sig-form, avoided}
use Rattle.sig_laws.proofs.Algebra.EtaLaws.{applied-kinded}
use Rattle.sig_laws.specs.Decide.{dec_ty, NoneUpTo, dec_none, dec_mentions_sig}
use Rattle.sig_match_laws.specs.RootSearch.{kind_left, after, or_else, where_both, find_root, find_root_row, least_root}
use Rattle.omega_kinds.proofs.NameLaws.{name-irreflexive, name-transitive}
use Rattle.omega_types.proofs.BinderLaws.{applied-kind}
use Rattle.sig_laws.proofs.Algebra.PathLaws.{one-field}
use Rattle.sig_laws.proofs.Algebra.Paths.{before-cases, one_least}
use Rattle.sig_laws.proofs.Algebra.Names.{NameBefore}
use Rattle.sig_laws.proofs.Formed.WellFormedLaws.{before_all-field}
use Rattle.sig_laws.proofs.Formed.WellFormedShape.{after-differs}
use Rattle.sig_laws.proofs.Formed.NormGood.{own-lookup}
use Rattle.sig_laws.proofs.Formed.RootNumbers.{root-of}

-- a root path, read from the outside: o is the variable applied to the variables of the functors so far
pub data RootIn : (c : List Kind) (o : Ty) (v : ℕ) (w : ℕ → ℕ) → Sig → SigPath → Type 0 where
  end : {c : List Kind} {o : Ty} {v : ℕ} {w : ℕ → ℕ} {t : Ty} {k : Kind} → Conv c t o k → RootIn c o v w (Sig.Typ t k) []
  field : {c : List Kind} {o : Ty} {v : ℕ} {w : ℕ → ℕ} {fs : SigRow} {l : Name} {s : Sig} {p : SigPath}
      → HasField fs l s → RootIn c o v w s p → RootIn c o v w (Sig.Str fs) (Item.Part l ∷ p)
  result : {c : List Kind} {o : Ty} {v : ℕ} {w : ℕ → ℕ} {ks : List Kind} {s r : Sig} {p : SigPath}
      → ((x : ℕ) → x ≤ v → Avoids (extend c ks) s (past ks (w x)))
      → RootIn (extend c ks) (applied ks o) v (λ x. past ks (w x)) r p
      → RootIn c o v w (Sig.Fun Pure ks s (Abs.Ex [] r)) (Item.Res ∷ p)

abbrev AvoidsAll : List Kind → ℕ → (ℕ → ℕ) → Sig → SigPath → Type 0
AvoidsAll c v w s p = (ds js : List Kind) (q : Sig) → ParamOn s p ds js q → (x : ℕ) → x ≤ v → Avoids (extend (extend c ds) js) q (past js (past ds (w x)))

to-root_in : {s : Sig} {p : SigPath} {bs : List Kind} {t : Ty} {k : Kind} (c : List Kind) (o : Ty) (v : ℕ) (w : ℕ → ℕ) → PartAt s p bs (Sig.Typ t k) → Conv (extend c bs) t (applied bs o) k → AvoidsAll c v w s p → RootIn c o v w s p
to-root_in c o v w PartAt.end e h = RootIn.end e
to-root_in c o v w (PartAt.field f a) e h = RootIn.field f (to-root_in c o v w a e (λ ds js q on. h ds js q (ParamOn.field f on)))
to-root_in c o v w (PartAt.result {ks = ks} {bs = bs} {s = s} {q = Sig.Typ t k} a) e h = RootIn.result
    (h [] ks s ParamOn.here)
    (to-root_in (extend c ks) (applied ks o) v (λ x. past ks (w x)) a
    (subst₂ (λ d u. Conv d t u k) (extend-append ks bs c) (applied-append ks bs o) e)
    (λ ds js q on x le. subst₂ (λ d i. Avoids (extend d js) q (past js i)) (extend-append ks ds c) (past-append ks ds (w x)) (h (ks ++ ds) js q (ParamOn.result on) x le)))

-- and back
from-avoids : {c : List Kind} {o : Ty} {v : ℕ} {w : ℕ → ℕ} {s q : Sig} {p : SigPath} {ds js : List Kind} → RootIn c o v w s p → ParamOn s p ds js q → (x : ℕ) → x ≤ v → Avoids (extend (extend c ds) js) q (past js (past ds (w x)))
from-avoids (RootIn.end e) h x le = elim h [ ]
from-avoids {q = q} {ds = ds} {js = js} (RootIn.field {p = p} f r) (ParamOn.field g on) x le = from-avoids r (subst (λ z. ParamOn z p ds js q) (one-field g f refl) on) x le
from-avoids (RootIn.result h r) ParamOn.here x le = h x le
from-avoids {c = c} {w = w} {q = q} (RootIn.result {ks = ks} h r) (ParamOn.result {ds = ds} {js = js} on) x le =
    subst₂ (λ d i. Avoids (extend d js) q (past js i)) (sym (extend-append ks ds c)) (sym (past-append ks ds (w x))) (from-avoids r on x le)

from-root_in : {c : List Kind} {o : Ty} {v : ℕ} {w : ℕ → ℕ} {s : Sig} {p : SigPath} → RootIn c o v w s p → (bs : List Kind) × (t : Ty) × (k : Kind) × PartAt s p bs (Sig.Typ t k) × Conv (extend c bs) t (applied bs o) k
from-root_in (RootIn.end {t = t} {k = k} e) = ([], t, k, PartAt.end, e)
from-root_in (RootIn.field f r) = let q = from-root_in r in (q.0, q.1, q.2, PartAt.field f q.3, q.4)
from-root_in {c} {o} (RootIn.result {ks = ks} h r) =
    let q = from-root_in r in
    (ks ++ q.0, q.1, q.2, PartAt.result q.3, subst₂ (λ d u. Conv d q.1 u q.2) (sym (extend-append ks q.0 c)) (sym (applied-append ks q.0 o)) q.4)

-- the variable has its kind
root_in-kind : {c : List Kind} {o : Ty} {v : ℕ} {w : ℕ → ℕ} {s : Sig} {p : SigPath} → RootIn c o v w s p → (j : Kind) × HasKind c o j
root_in-kind (RootIn.end {k = k} e) = (k, (conv-kinds e).1)
root_in-kind (RootIn.field f r) = root_in-kind r
root_in-kind {o = o} (RootIn.result {ks = ks} h r) = let q = root_in-kind r in (arrow_over ks q.0, applied-kinded ks o q.1)

-- the two forms of a root path

pub root-in : {ctx ks : List Kind} {s : Sig} {number : ℕ} {p : SigPath} → number < length ks → RootPath ctx ks s number p → RootIn (extend ctx ks) (Ty.Var (own ks number)) (own ks number) (λ x. x) s p
root-in {ctx} {ks} {s} {number} {p} lt (root_path b (root_of (Rooted.at a c) h)) = to-root_in (extend ctx ks) (Ty.Var (own ks number)) (own ks number) (λ x. x) a c avoid
  where
    avoid : AvoidsAll (extend ctx ks) (own ks number) (λ x. x) s p
    avoid ds js q on x le = h x le ds js q on

pub root-out : {ctx ks : List Kind} {s : Sig} {number : ℕ} {p : SigPath} → number < length ks → RootIn (extend ctx ks) (Ty.Var (own ks number)) (own ks number) (λ x. x) s p → RootPath ctx ks s number p
root-out {ctx} {ks} {s} {number} {p} b r = let q = from-root_in r in root_path b (root_of (Rooted.at q.3 q.4) avoid)
  where
    avoid : (j : ℕ) → j ≤ own ks number → ParamsAvoid (extend ctx ks) s p j
    avoid j le ds js q on = from-avoids r on j le

-- the search

pub data Searched (P : SigPath → Type 0) : Option SigPath → Type 0 where
  found : {p : SigPath} → P p → ((q : SigPath) → P q → PathBefore q p → ⊥) → Searched P (Some p)
  absent : ((q : SigPath) → P q → ⊥) → Searched P None

-- what is found in the fields
abbrev InRow : List Kind → Ty → ℕ → (ℕ → ℕ) → SigRow → SigPath → Type 0
InRow c o v w fs p = RootIn c o v w (Sig.Str fs) p

searched-end : {c : List Kind} {o : Ty} {v : ℕ} {w : ℕ → ℕ} {t : Ty} {k j : Kind} → HasKind c o j → Normal c t k → (a : Dec (k ≡ j)) (b : Dec (t ≡ normal c o)) → Searched (RootIn c o v w (Sig.Typ t k)) (where_both a b (Some []))
searched-end {c} {o} {v} {w} {t} {k} {j} h n (yes e) (yes g) = found (RootIn.end conv) none_before
  where
    conv : Conv c t o k
    conv = subst₂ (λ u i. Conv c u o i) (sym g) (sym e) (c_sym (normal-gives h).1)

    none_before : (q : SigPath) → RootIn c o v w (Sig.Typ t k) q → PathBefore q [] → ⊥
    none_before q r b = elim b [ ]
searched-end {c} {o} {v} {w} {t} {k} {j} h n (yes e) (no g) = absent never
  where
    never : (q : SigPath) → RootIn c o v w (Sig.Typ t k) q → ⊥
    never _ (RootIn.end m) = g (sym (normal_of_normal c t k n) ∙ same-normal m)
searched-end {c} {o} {v} {w} {t} {k} {j} h n (no e) b = absent never
  where
    never : (q : SigPath) → RootIn c o v w (Sig.Typ t k) q → ⊥
    never _ (RootIn.end m) = e (one_kind c o k j (conv-kinds m).1 h)

-- after an argument for each binder, the kind of an operator over them is the kind of its body
pub kind_left-over : (ks : List Kind) (k : Kind) → kind_left ks (arrow_over ks k) ≡ k
kind_left-over [] k = refl
kind_left-over (j ∷ ks) k = kind_left-over ks k

searched-result : {c ks : List Kind} {o : Ty} {v : ℕ} {w : ℕ → ℕ} {s r : Sig} {j : Kind} {found_inside : Option SigPath} → HasKind c o j → NormalSig (extend c ks) s
    → (a : Dec (j ≡ arrow_over ks (kind_left ks j))) (b : Dec (NoneUpTo v (λ x. MentionsSig (past ks (w x)) s)))
    → ((j ≡ arrow_over ks (kind_left ks j)) → Searched (RootIn (extend c ks) (applied ks o) v (λ x. past ks (w x)) r) found_inside)
    → Searched (RootIn c o v w (Sig.Fun Pure ks s (Abs.Ex [] r))) (where_both a b (after Item.Res found_inside))
searched-result {c} {ks} {o} {v} {w} {s} {r} {j} h n (yes e) (yes g) inside = go (inside e)
  where
    go : {o' : Option SigPath} → Searched (RootIn (extend c ks) (applied ks o) v (λ x. past ks (w x)) r) o' → Searched (RootIn c o v w (Sig.Fun Pure ks s (Abs.Ex [] r))) (after Item.Res o')
    go (absent f) = absent (λ q m. out f q m)
      where
        out : ((q : SigPath) → RootIn (extend c ks) (applied ks o) v (λ x. past ks (w x)) r q → ⊥) → (q : SigPath) → RootIn c o v w (Sig.Fun Pure ks s (Abs.Ex [] r)) q → ⊥
        out f _ (RootIn.result {p = p} a m) = f p m
    go (found {p = p} m f) = found (RootIn.result (λ x le. by_normal_form (normal_sig-form (extend c ks) s n) (g x le)) m) (λ q z b. before q z b)
      where
        before : (q : SigPath) → RootIn c o v w (Sig.Fun Pure ks s (Abs.Ex [] r)) q → PathBefore q (Item.Res ∷ p) → ⊥
        before _ (RootIn.result {p = q} a m) (first i) = elim i [ ]
        before _ (RootIn.result {p = q} a m) (later b) = f q m b
searched-result {c} {ks} {o} {v} {w} {s} {r} {j} h n (yes e) (no g) inside = absent never
  where
    never : (q : SigPath) → RootIn c o v w (Sig.Fun Pure ks s (Abs.Ex [] r)) q → ⊥
    never _ (RootIn.result a m) = g (λ x le. avoided n (a x le))
searched-result {c} {ks} {o} {v} {w} {s} {r} {j} h n (no e) b inside = absent never
  where
    never : (q : SigPath) → RootIn c o v w (Sig.Fun Pure ks s (Abs.Ex [] r)) q → ⊥
    never _ (RootIn.result a m) =
        let q = root_in-kind m in
        let d : j ≡ arrow_over ks q.0 = one_kind c o j (arrow_over ks q.0) h (applied-kinded ks o q.1) in
        e (d ∙ ap (arrow_over ks) (sym (ap (kind_left ks) d ∙ kind_left-over ks q.0)))

searched-row : {c : List Kind} {o : Ty} {v : ℕ} {w : ℕ → ℕ} {l : Name} {s : Sig} {rest : SigRow} {one others : Option SigPath}
    → BeforeAll l rest
    → Searched (RootIn c o v w s) one
    → Searched (InRow c o v w rest) others
    → Searched (InRow c o v w (SigRow.More l s rest)) (or_else (after (Item.Part l) one) others)
searched-row {c} {o} {v} {w} {l} {s} {rest} b (found {p = p} m f) q = found (RootIn.field here m) before
  where
    before : (q : SigPath) → InRow c o v w (SigRow.More l s rest) q → PathBefore q (Item.Part l ∷ p) → ⊥
    before _ (RootIn.field {p = q} here z) h = go (before-cases h)
      where
        go : NameBefore l l ⊎ ((l ≡ l) × PathBefore q p) → ⊥
        go (inl i) = name-irreflexive l i
        go (inr e) = f q z e.1
    before _ (RootIn.field {l = k} {p = q} (there n g) z) h = go (before-cases h)
      where
        go : NameBefore k l ⊎ ((k ≡ l) × PathBefore q p) → ⊥
        go (inl i) = name-irreflexive l (name-transitive l k l (before_all-field l k b g) i)
        go (inr e) = n e.0
searched-row {c} {o} {v} {w} {l} {s} {rest} b (absent f) (found {p = p} m g) = found (into m) before
  where
    into : {p : SigPath} → InRow c o v w rest p → InRow c o v w (SigRow.More l s rest) p
    into (RootIn.field {l = k} h z) = RootIn.field (there (after-differs l k b h) h) z

    before : (q : SigPath) → InRow c o v w (SigRow.More l s rest) q → PathBefore q p → ⊥
    before _ (RootIn.field {p = q} here z) h = f q z
    before _ (RootIn.field {l = k} {p = q} (there n d) z) h = g (Item.Part k ∷ q) (RootIn.field d z) h
searched-row {c} {o} {v} {w} {l} {s} {rest} b (absent f) (absent g) = absent never
  where
    never : (q : SigPath) → InRow c o v w (SigRow.More l s rest) q → ⊥
    never _ (RootIn.field {p = q} here z) = f q z
    never _ (RootIn.field {l = k} {p = q} (there n d) z) = g (Item.Part k ∷ q) (RootIn.field d z)

mutual
  pub searched : (c : List Kind) (o : Ty) (j : Kind) (v : ℕ) (w : ℕ → ℕ) (s : Sig) → WellFormed c s → NormalSig c s → HasKind c o j → Searched (RootIn c o v w s) (find_root c o j v w s)
  searched c o j v w (Sig.Val t) h n k = absent (λ q r. elim r [ ])
  searched c o j v w (Sig.Typ t i) h n k = searched-end k n (Kind-discrete i j) (dec_ty t (normal c o))
  searched c o j v w (Sig.Meta x) h n k = absent (λ q r. elim r [ ])
  searched c o j v w (Sig.Str fs) (WellFormed.str r h) n k = searched_row c o j v w fs r h n k
  searched c o j v w (Sig.Fun Pure ks s (Abs.Ex [] r)) (WellFormed.pure x h) n k =
      searched-result k n.0 (Kind-discrete j (arrow_over ks (kind_left ks j))) (dec_none v (λ x. MentionsSig (past ks (w x)) s) (λ x. dec_mentions_sig (past ks (w x)) s))
      (λ e. searched (extend c ks) (applied ks o) (kind_left ks j) v (λ x. past ks (w x)) r h n.1 (applied-kind ks (subst (λ i. HasKind c o i) e k)))
  searched c o j v w (Sig.Fun Pure ks s (Abs.Ex (i ∷ is) r)) h n k = absent (λ q r. elim r [ ])
  searched c o j v w (Sig.Fun Impure ks s x) h n k = absent (λ q r. elim r [ ])

  pub searched_row : (c : List Kind) (o : Ty) (j : Kind) (v : ℕ) (w : ℕ → ℕ) (fs : SigRow) → Rising fs → WellFormedRow c fs → NormalSigRow c fs → HasKind c o j → Searched (InRow c o v w fs) (find_root_row c o j v w fs)
  searched_row c o j v w SigRow.End b h n k = absent none
    where
      none : (q : SigPath) → InRow c o v w SigRow.End q → ⊥
      none _ (RootIn.field f r) = elim f [ ]
  searched_row c o j v w (SigRow.More l s rest) b (WellFormedRow.more h hs) n k = searched-row b.0 (searched c o j v w s h n.0 k) (searched_row c o j v w rest b.1 hs n.1 k)

-- a hidden variable has its kind

-- the variable of a hidden type has the kind that the context gives it
pub own-kind : (ks ctx : List Kind) (number : ℕ) → number < length ks → HasKind (extend ctx ks) (Ty.Var (own ks number)) (kind_at (extend ctx ks) (own ks number))
own-kind ks ctx number lt = let x = own-lookup ctx ks number lt in k_var (subst (Lookup (extend ctx ks) (own ks number)) (lookup-kind_at x) x)

-- the least root path is the one that the search gives

-- where a hidden type has a root path, the search finds one, and it is the least
pub least_root-exists : {ctx ks : List Kind} {s : Sig} {number : ℕ} → WellFormed (extend ctx ks) s → NormalSig (extend ctx ks) s → number < length ks → (p : SigPath) × RootPath ctx ks s number p → (p : SigPath) × (least_root ctx ks s number ≡ Some p) × LeastRoot ctx ks s number p
least_root-exists {ctx} {ks} {s} {number} h n lt root = go (searched (extend ctx ks) (Ty.Var (own ks number)) (kind_at (extend ctx ks) (own ks number)) (own ks number) (λ x. x) s h n (own-kind ks ctx number lt))
  where
    go : {o : Option SigPath} → Searched (RootIn (extend ctx ks) (Ty.Var (own ks number)) (own ks number) (λ x. x) s) o → (p : SigPath) × (o ≡ Some p) × LeastRoot ctx ks s number p
    go (found {p = p} r f) = (p, refl, least (root-out lt r) (λ q z b. f q (root-in lt z) b))
    go (absent f) = absurd (f root.0 (root-in lt root.1))

abbrev LeastIn : List Kind → List Kind → Sig → ℕ → Option SigPath → Type 0
LeastIn ctx ks s number None = Unit {0}
LeastIn ctx ks s number (Some q) = LeastRoot ctx ks s number q

least-in : (ctx ks : List Kind) (s : Sig) {number : ℕ} {o : Option SigPath} (lt : number < length ks) → Searched (RootIn (extend ctx ks) (Ty.Var (own ks number)) (own ks number) (λ x. x) s) o → LeastIn ctx ks s number o
least-in ctx ks s lt (found r f) = least (root-out lt r) (λ q z b. f q (root-in lt z) b)
least-in ctx ks s lt (absent f) = tt

-- the search finds a path exactly if it is the least root path
pub least_root-gives : {ctx ks : List Kind} {s : Sig} {number : ℕ} → WellFormed (extend ctx ks) s → NormalSig (extend ctx ks) s → number < length ks → (p : SigPath) → (least_root ctx ks s number ≡ Some p → LeastRoot ctx ks s number p) × (LeastRoot ctx ks s number p → least_root ctx ks s number ≡ Some p)
least_root-gives {ctx} {ks} {s} {number} h n lt p = (λ e. to (searched (extend ctx ks) (Ty.Var (own ks number)) (kind_at (extend ctx ks) (own ks number)) (own ks number) (λ x. x) s h n (own-kind ks ctx number lt)) e, from)
  where
    to : {o : Option SigPath} → Searched (RootIn (extend ctx ks) (Ty.Var (own ks number)) (own ks number) (λ x. x) s) o → o ≡ Some p → LeastRoot ctx ks s number p
    to z e = subst (LeastIn ctx ks s number) e (least-in ctx ks s lt z)

    from : LeastRoot ctx ks s number p → least_root ctx ks s number ≡ Some p
    from l = let q = least_root-exists h n lt (p, root-of l) in q.1 ∙ ap Some (one_least q.2 l)
