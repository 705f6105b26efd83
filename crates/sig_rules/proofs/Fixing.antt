-- One of the hidden types is shown by a part, and is fixed.
-- Main results: fixed-found, refined-by, leaves-refuses, not_own-refuses, kind-refuses.
use Rattle.std.proofs.Common.{◌≡◌, ◌≢◌, ℕ, zero, suc, ◌+◌, ◌-◌, ◌<◌, ◌≤◌, List, [], ◌∷◌, ◌++◌, length, get_or, take, drop, map, Option, Some, None, MatchOption, refl, sym, ap, ap₂, ◌∙◌, subst, subst₂, arith, below_more, drop-cons, length-append, length-drop, take-append-drop}
use Rattle.omega_kinds.specs.Kind.{Kind}
use Rattle.omega_kinds.specs.Name.{Name}
use Rattle.omega_kinds.specs.View.{kind_tree}
use Rattle.omega_kinds.specs.declared.kind.Kind.{Kind as SharedKind}
use Rattle.omega_types.specs.Binders.{extend, front, past, raise, unders}
use Rattle.omega_types.specs.EtaLong.{eta}
use Rattle.omega_types.specs.Index.{shift}
use Rattle.omega_types.specs.Normality.{Normal}
use Rattle.omega_types.specs.Ty.{Ty}
use Rattle.omega_types.proofs.BinderPuts.{past-maps}
use Rattle.omega_types.proofs.Preservation.{normal-rename}
use Rattle.sig_definitions.specs.Explicit.SigPath.{Item, SigPath}
use Rattle.sig_definitions.specs.Signatures.Alike.{NormalAbs, NormalSig, NormalSigForm}
use Rattle.sig_definitions.specs.Signatures.Sig.{Abs, Sig}
use Rattle.sig_definitions.specs.Signatures.SigSubst.{substitute_sig}
use Rattle.sig_laws.proofs.Algebra.BinderLaws.{extend-append, past-length}
use Rattle.semantic_sigs.specs.Inner.View.{body_of, kinds_of, sig_of}
use Rattle.semantic_sigs.specs.declared.tree.SigNode.{SigNode}
use Rattle.semantic_sigs.specs.declared.tree.SigNode.TheVariants as node
use Rattle.sig_judgments.specs.Refinement.{Leads, LeavesAt, Refined, own_part}
use Rattle.sig_judgments.specs.SigRules.{WhereRefuses}
use Rattle.sig_judgments.specs.SigWhy.{KindDiffer, NoPart, NotAbstract}
use Rattle.sig_rules.specs.Inner.Hidden.{Fixed, IsOwn, NotOwn, PutFirst, after, before, kind_at}
use Rattle.sig_rules.proofs.Putting.{put-under, raise-both}
use Rattle.semantic_sigs.proofs.MentionSteps.{length-trees}

-- hidden types before a place, at it and after it

from-place : (ks : List Kind) (p : ℕ) → p < length ks → drop p ks ≡ kind_at ks p ∷ after ks p
from-place ks p lt =
    let n : suc p ≡ p + 1 = omega arith in
    drop-cons ks p Kind.Star lt ∙ ap (λ m. kind_at ks p ∷ drop m ks) n

pub split-at : (ks : List Kind) (p : ℕ) → p < length ks → ks ≡ before ks p ++ (kind_at ks p ∷ after ks p)
split-at ks p lt = sym (take-append-drop p ks) ∙ ap (λ ls. take p ks ++ ls) (from-place ks p lt)

others : (ks : List Kind) (p : ℕ) → p < length ks → length (before ks p) + length (after ks p) ≡ length ks - 1
others ks p lt = let e = ap length (split-at ks p lt) ∙ length-append (before ks p) (kind_at ks p ∷ after ks p) in omega arith

after-length : (ks : List Kind) (p : ℕ) → length (after ks p) ≡ length ks - (p + 1)
after-length ks p = length-drop (p + 1) ks

-- the kind at a place of the code's list is the one at the place
pub kind_at-shared : (ks : List SharedKind) (p : ℕ) (k : SharedKind) → p < length ks → k ≡ get_or ks p k → kind_tree k ≡ kind_at (map kind_tree ks) p
kind_at-shared [] p k lt e = absurd (omega arith)
kind_at-shared (j ∷ ks) zero k lt e = ap kind_tree e
kind_at-shared (j ∷ ks) (suc p) k lt e = kind_at-shared ks p k (omega arith) e

-- the part that shows a hidden type

abbrev pub shown_at : Kind → ℕ → Sig
shown_at k index = Sig.Typ (eta k (Ty.Var index)) k

own-is : (ks : List Kind) (p : ℕ) → p < length ks → own_part (kind_at ks p) (after ks p) ≡ shown_at (kind_at ks p) (length ks - 1 - p)
own-is ks p lt =
    let a = past-length (after ks p) 0 in
    let b = after-length ks p in
    let e : past (after ks p) 0 ≡ length ks - 1 - p = omega arith in
    ap (shown_at (kind_at ks p)) e

pub is-own : (ks : List Kind) (p : ℕ) (q : Sig) (k : Kind) → p < length ks → k ≡ kind_at ks p → q ≡ shown_at k (length ks - 1 - p) → IsOwn ks p q
is-own ks p q k lt ek e = e ∙ (ap (λ j. shown_at j (length ks - 1 - p)) ek ∙ sym (own-is ks p lt))

pub own-shows : (ks : List Kind) (p : ℕ) (q : Sig) (k : Kind) → p < length ks → k ≡ kind_at ks p → IsOwn ks p q → q ≡ shown_at k (length ks - 1 - p)
own-shows ks p q k lt ek o = o ∙ (own-is ks p lt ∙ ap (λ j. shown_at j (length ks - 1 - p)) (sym ek))

at-end : (bs cs : List Kind) (j : Kind) → (kind_at (bs ++ (j ∷ cs)) (length bs) ≡ j) × (after (bs ++ (j ∷ cs)) (length bs) ≡ cs)
at-end [] cs j = (refl, refl)
at-end (b ∷ bs) cs j =
    let h = at-end bs cs j in
    let e : length (b ∷ bs) + 1 ≡ suc (length bs + 1) = omega arith in
    (h.0, ap (λ n. drop n (b ∷ (bs ++ (j ∷ cs)))) e ∙ h.1)

pub none-own : (ks : List Kind) (q : Sig) → ((p : ℕ) → p < length ks → IsOwn ks p q → ⊥) → NotOwn ks q
none-own ks q n bs j cs e o =
    let h = at-end bs cs j in
    let k : kind_at ks (length bs) ≡ j = ap (λ ls. kind_at ls (length bs)) e ∙ h.0 in
    let a : after ks (length bs) ≡ cs = ap (λ ls. after ls (length bs)) e ∙ h.1 in
    let l = ap length e ∙ length-append bs (j ∷ cs) in
    n (length bs) (omega arith) (o ∙ ap₂ own_part (sym k) (sym a))

-- the same, by what the code knows

-- a place in the code's list of kinds is one in the list of their trees
pub mapped : (kinds : List SharedKind) (p : ℕ) → p < length kinds → p < length (map kind_tree kinds)
mapped kinds p lt = let l = length-trees kinds in omega arith

-- of an option that is none, the case of none holds
pub when-none : {A : Type 0} (o : Option A) (P : Type 0) (Q : A → Type 0) → o ≡ None → MatchOption o P Q → P
when-none o P Q e h = subst (λ r. MatchOption r P Q) e h

-- of an option that is a value, the case of the value holds
pub when-some : {A : Type 0} (o : Option A) (a : A) (P : Type 0) (Q : A → Type 0) → o ≡ Some a → MatchOption o P Q → Q a
when-some o a P Q e h = subst (λ r. MatchOption r P Q) e h

-- a part whose node is a type is this type
pub shown-is : (n : SigNode) (q : Sig) (t : Ty) (k : SharedKind) → n ≡ node.Typ t k → sig_of n ≡ q → q ≡ Sig.Typ t (kind_tree k)
shown-is n q t k en eq = sym eq ∙ ap sig_of en

-- a part that is the variable at a place shows the hidden type there
pub own-found : (kinds : List SharedKind) (p : ℕ) (own : SharedKind) (q : Sig) → p < length kinds → own ≡ get_or kinds p own → q ≡ shown_at (kind_tree own) (length kinds - 1 - p) → (p < length kinds) × IsOwn (map kind_tree kinds) p q
own-found kinds p own q lt eo e =
    let l = length-trees kinds in
    let lt' : p < length (map kind_tree kinds) = omega arith in
    (lt, is-own (map kind_tree kinds) p q (kind_tree own) lt' (kind_at-shared kinds p own lt eo) (e ∙ ap (λ m. shown_at (kind_tree own) (m - 1 - p)) (sym l)))

-- a part that is not the variable at a place shows none of the hidden types up to it
pub own-passed : (kinds : List SharedKind) (p : ℕ) (own : SharedKind) (q : Sig) → p < length kinds → own ≡ get_or kinds p own → (q ≡ shown_at (kind_tree own) (length kinds - 1 - p) → ⊥) → ((r : ℕ) → r < p → IsOwn (map kind_tree kinds) r q → ⊥) → (r : ℕ) → r < p + 1 → IsOwn (map kind_tree kinds) r q → ⊥
own-passed kinds p own q lt eo n before =
    let l = length-trees kinds in
    let lt' : p < length (map kind_tree kinds) = omega arith in
    below_more (λ r. IsOwn (map kind_tree kinds) r q → ⊥) p before (λ o. n (own-shows (map kind_tree kinds) p q (kind_tree own) lt' (kind_at-shared kinds p own lt eo) o ∙ ap (λ m. shown_at (kind_tree own) (m - 1 - p)) l))

-- a part that shows none of the hidden types at all places shows none
pub none-found : (kinds : List SharedKind) (q : Sig) (p : ℕ) → length kinds ≤ p → ((r : ℕ) → r < p → IsOwn (map kind_tree kinds) r q → ⊥) → NotOwn (map kind_tree kinds) q
none-found kinds q p le h =
    let l = length-trees kinds in
    none-own (map kind_tree kinds) q (λ r lt. h r (omega (arith, lt)))

-- it is fixed

pub fixed-by : (x : Abs) (p : ℕ) (u : Ty) (n : Sig) (y : Abs) → p < length (kinds_of x)
    → PutFirst (drop p (kinds_of x)) (body_of x) (shift (length (kinds_of x) - 1) 0 u) n
    → y ≡ Abs.Ex (before (kinds_of x) p ++ after (kinds_of x) p) n
    → Fixed x p u y
fixed-by (Abs.Ex ks s) p u n y lt f e ctx nx hu =
    let bs = before ks p in
    let js = after ks p in
    let k = kind_at ks p in
    let inner = extend ctx bs in
    let t = raise bs u in
    let ht : Normal inner t k = normal-rename (past bs) (past-maps ctx bs) hu in
    let hr : Normal (extend inner js) (raise js t) k = normal-rename (past js) (past-maps inner js) ht in
    let ns : NormalSig (extend (k ∷ inner) js) s = subst (λ c. NormalSig c s) (ap (extend ctx) (split-at ks p lt) ∙ extend-append bs (k ∷ js) ctx) nx in
    let te : shift (length ks - 1) 0 u ≡ raise js t = ap (λ m. shift m 0 u) (sym (others ks p lt)) ∙ sym (raise-both bs js u) in
    let g = subst (λ w. PutFirst (drop p ks) s w n) te f in
    let form = g inner js k (from-place ks p lt) ns hr in
    (n, e, subst (λ c. NormalSigForm c (substitute_sig (unders js (front t Ty.Var)) s) n) (sym (extend-append bs js ctx)) (put-under inner js k t s n ht ns form))

map-drop : (p : ℕ) (kinds : List SharedKind) → map kind_tree (drop p kinds) ≡ drop p (map kind_tree kinds)
map-drop zero kinds = refl
map-drop (suc p) [] = refl
map-drop (suc p) (k ∷ kinds) = map-drop p kinds

map-take : (p : ℕ) (kinds : List SharedKind) → map kind_tree (take p kinds) ≡ take p (map kind_tree kinds)
map-take zero kinds = refl
map-take (suc p) [] = refl
map-take (suc p) (k ∷ kinds) = ap (◌∷◌ (kind_tree k)) (map-take p kinds)

-- the signature with the hidden type at a place fixed hides the others
pub fixed-found : (x : Abs) (s : Sig) (ks : List Kind) (kinds front from later : List SharedKind) (p : ℕ) (u : Ty) (n : Sig) (left : List Kind) (y : Abs) → p < length (kinds_of x)
    → map kind_tree kinds ≡ ks → ks ≡ kinds_of x → s ≡ body_of x → front ≡ take p kinds → from ≡ drop p kinds → later ≡ drop (p + 1) kinds
    → PutFirst (map kind_tree from) s (shift (length kinds - 1) 0 u) n
    → left ≡ map kind_tree front ++ map kind_tree later → y ≡ Abs.Ex left n → Fixed x p u y
fixed-found x s ks kinds front from later p u n left y lt ek ex es ef ed el f e ey =
    let whole : map kind_tree kinds ≡ kinds_of x = ek ∙ ex in
    let len : length kinds ≡ length (kinds_of x) = sym (length-trees kinds) ∙ ap length whole in
    let d : map kind_tree from ≡ drop p (kinds_of x) = ap (map kind_tree) ed ∙ (map-drop p kinds ∙ ap (drop p) whole) in
    let a : map kind_tree later ≡ after (kinds_of x) p = ap (map kind_tree) el ∙ (map-drop (p + 1) kinds ∙ ap (drop (p + 1)) whole) in
    let b : map kind_tree front ≡ before (kinds_of x) p = ap (map kind_tree) ef ∙ (map-take p kinds ∙ ap (take p) whole) in
    let g : PutFirst (drop p (kinds_of x)) s (shift (length kinds - 1) 0 u) n = subst (λ ls. PutFirst ls s (shift (length kinds - 1) 0 u) n) d f in
    let h : PutFirst (drop p (kinds_of x)) (body_of x) (shift (length (kinds_of x) - 1) 0 u) n = subst₂ (λ t m. PutFirst (drop p (kinds_of x)) t (shift (m - 1) 0 u) n) es len g in
    fixed-by x p u n y lt h (ey ∙ ap (λ ls. Abs.Ex ls n) (e ∙ ap₂ ◌++◌ b a))

-- where type: what is given, and what is refused, by what the code finds

given-by : (ctx : List Kind) (x : Abs) (p : ℕ) (q : Sig) (names : List Name) (u : Ty) (k : Kind) (y : Abs) → p < length (kinds_of x) → Leads (body_of x) names q → IsOwn (kinds_of x) p q → k ≡ kind_at (kinds_of x) p → Fixed x p u y → NormalAbs ctx x → Normal ctx u k → Refined ctx x names u k y
given-by ctx (Abs.Ex ks s) p q names u k y lt l o ek f nx hu =
    let v = f ctx nx (subst (Normal ctx u) ek hu) in
    subst₂ (λ j z. Refined ctx (Abs.Ex ks s) names u j z) (sym ek) (sym v.1) (Refined.refined (before ks p) (after ks p) (split-at ks p lt) (subst (Leads s names) o l) v.2)

-- a path to a part that shows a hidden type fixes it with a type of its kind
pub refined-by : (ctx : List Kind) (x : Abs) (s : Sig) (ks : List Kind) (p : ℕ) (q : Sig) (names : List Name) (u : Ty) (k j : Kind) (y : Abs) → s ≡ body_of x → ks ≡ kinds_of x → p < length ks → Leads s names q → IsOwn ks p q → j ≡ kind_at ks p → k ≡ j → Fixed x p u y → NormalAbs ctx x → Normal ctx u k → Refined ctx x names u k y
refined-by ctx x s ks p q names u k j y es eks lt l o ej ek f nx hu =
    given-by ctx x p q names u k y (subst (λ ls. p < length ls) eks lt) (subst (λ t. Leads t names q) es l) (subst (λ ls. IsOwn ls p q) eks o) (ek ∙ (ej ∙ ap (λ ls. kind_at ls p) eks)) f nx hu

leaves : (x : Abs) (names : List Name) (u : Ty) (k : Kind) (l : Name) → LeavesAt (λ m. m) (body_of x) names l → WhereRefuses x names u k (NoPart l)
leaves (Abs.Ex ks s) names u k l h = WhereRefuses.leaves h

-- a path that leaves the structures is refused, at the name
pub leaves-refuses : (x : Abs) (s : Sig) (names : List Name) (u : Ty) (k : Kind) (l m : Name) → s ≡ body_of x → LeavesAt (λ n. n) s names l → m ≡ l → WhereRefuses x names u k (NoPart m)
leaves-refuses x s names u k l m es h e = subst (λ n. WhereRefuses x names u k (NoPart n)) (sym e) (leaves x names u k l (subst (λ t. LeavesAt (λ n. n) t names l) es h))

not_own : (x : Abs) (q : Sig) (names : List Name) (u : Ty) (k : Kind) → Leads (body_of x) names q → NotOwn (kinds_of x) q → WhereRefuses x names u k (NotAbstract (map Item.Part names))
not_own (Abs.Ex ks s) q names u k l n = WhereRefuses.not_own l n

-- a path to a part that shows no hidden type is refused
pub not_own-refuses : (x : Abs) (s : Sig) (ks : List Kind) (q : Sig) (names : List Name) (u : Ty) (k : Kind) (path : SigPath) → s ≡ body_of x → ks ≡ kinds_of x → Leads s names q → NotOwn ks q → path ≡ map Item.Part names → WhereRefuses x names u k (NotAbstract path)
not_own-refuses x s ks q names u k path es eks l n e =
    subst (λ p. WhereRefuses x names u k (NotAbstract p)) (sym e) (not_own x q names u k (subst (λ t. Leads t names q) es l) (subst (λ ls. NotOwn ls q) eks n))

other-kind : (x : Abs) (p : ℕ) (q : Sig) (names : List Name) (u : Ty) (k : Kind) → p < length (kinds_of x) → Leads (body_of x) names q → IsOwn (kinds_of x) p q → k ≢ kind_at (kinds_of x) p → WhereRefuses x names u k (KindDiffer k (kind_at (kinds_of x) p))
other-kind (Abs.Ex ks s) p q names u k lt l o n = WhereRefuses.kind (before ks p) (after ks p) (split-at ks p lt) (subst (Leads s names) o l) n

-- a hidden type fixed with a type of another kind is refused
pub kind-refuses : (x : Abs) (s : Sig) (ks : List Kind) (p : ℕ) (q : Sig) (names : List Name) (u : Ty) (k j k' j' : Kind) → s ≡ body_of x → ks ≡ kinds_of x → p < length ks → Leads s names q → IsOwn ks p q → j ≡ kind_at ks p → (k ≡ j → ⊥) → k' ≡ k → j' ≡ j → WhereRefuses x names u k (KindDiffer k' j')
kind-refuses x s ks p q names u k j k' j' es eks lt l o ej n ek' ej' =
    let e : j ≡ kind_at (kinds_of x) p = ej ∙ ap (λ ls. kind_at ls p) eks in
    subst₂ (λ a b. WhereRefuses x names u k (KindDiffer a b)) (sym ek') (sym (ej' ∙ e)) (other-kind x p q names u k (subst (λ ls. p < length ls) eks lt) (subst (λ t. Leads t names q) es l) (subst (λ ls. IsOwn ls p q) eks o) (λ d. n (d ∙ sym e)))
