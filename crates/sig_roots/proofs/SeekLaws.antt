-- What the walk finds for a hidden type is what the search for it finds.
-- Main results: seek-root, spread-past.
use Rattle.std.specs.Prelude.{ℕ, zero, ◌+◌, ◌<◌, ◌≡◌, List, [], ◌∷◌, length, Option, Some, None, nat_eq, true, false, Bool as Truth}
use Rattle.std.proofs.Common.{arith}
use Rattle.std.proofs.lemmas.Bool.Decides.{nat_tests}
use Rattle.std.proofs.Math.Path.{refl, sym, ap, ap₂, ◌∙◌, subst}
use Rattle.omega_kinds.specs.Kind.{Kind, Kind-discrete}
use Rattle.omega_kinds.specs.declared.effect.Effect.TheVariants.{Pure, Impure}
use Rattle.omega_types.specs.Ty.{Ty}
use Rattle.omega_types.specs.Kinding.{HasKind}
use Rattle.omega_types.specs.Normality.{Normal}
use Rattle.omega_types.specs.Normaliser.{normal, kind_at}
use Rattle.omega_types.specs.Binders.{extend, past, own, applied, arrow_over}
use Rattle.omega_types.proofs.Preservation.{conv-kinds, normal-kind}
use Rattle.omega_types.proofs.Inverse.{one_kind}
use Rattle.omega_types.proofs.BinderLaws.{applied-kind, spread, spread-applied}
use Rattle.sig_definitions.specs.Signatures.Sig.{Sig, Abs, SigRow}
use Rattle.sig_definitions.specs.Signatures.Alike.{NormalSig, NormalSigRow}
use Rattle.sig_definitions.specs.Signatures.SigMentions.{MentionsSig}
use Rattle.sig_definitions.specs.Explicit.SigPath.{SigPath, Item}
use Rattle.sig_definitions.specs.Explicit.WellFormed.{WellFormed, WellFormedRow}
use Rattle.sig_laws.specs.Decide.{dec_ty, NoneUpTo, dec_none, dec_mentions_sig}
use Rattle.sig_laws.proofs.Algebra.EtaLaws.{applied-kinded}
use Rattle.sig_match_laws.specs.RootSearch.{kind_left, after, or_else, where_both, find_root, find_root_row, least_root}
use Rattle.sig_match_laws.proofs.LookUp.Roots.{own-kind, least_root-exists, least_root-gives, kind_left-over}
use Rattle.sig_roots.specs.Inner.Rooted.{rooted}
use Rattle.semantic_sigs.specs.Inner.Least.{least_sig}
use Rattle.sig_roots.specs.Inner.Seek.{is_open, unless_barred, ends, seek, seek_row}
use Rattle.sig_roots.specs.Inner.Roots.{IsRoot}
use Rattle.sig_roots.proofs.RootedLaws.{rooted-conv, rooted-is, rooted-found}
use Rattle.semantic_sigs.proofs.LeastLaws.{IsLeast, past-from, least-sig, least-past_sig}
use Rattle.sig_roots.proofs.BarLaws.{open-none, none-open}

none-if : (o : Option SigPath) → ((p : SigPath) → o ≡ Some p → ⊥) → o ≡ None
none-if None h = refl
none-if (Some p) h = absurd (h p refl)

-- a type that is found

ends-found : (found : Option ℕ) (own : ℕ) (p : SigPath) → ends found own ≡ Some p → found ≡ Some own
ends-found None own p e = absurd (cc)
ends-found (Some i) own p e = go (nat_eq i own) refl
  where
    go : (b : Truth) → nat_eq i own ≡ b → Some i ≡ Some own
    go true f = ap Some (grind (arith, nat_tests))
    go false f = absurd (let g : ends (Some i) own ≡ None = rw f refl in cc)

ends-here : (found : Option ℕ) (own : ℕ) → found ≡ Some own → ends found own ≡ Some []
ends-here None own e = absurd (cc)
ends-here (Some i) own e = grind (arith, nat_tests)

ends-not : (found : Option ℕ) (own : ℕ) → (found ≡ Some own → ⊥) → ends found own ≡ None
ends-not found own h = none-if (ends found own) (λ p e. h (ends-found found own p e))

-- an item before a path

after-found : (a : Item) (o : Option SigPath) (p : SigPath) → after a o ≡ Some p → (q : SigPath) × (o ≡ Some q)
after-found a None p e = absurd (cc)
after-found a (Some q) p e = (q, refl)

either-found : (a b : Option SigPath) (p : SigPath) (A : Type 0) → or_else a b ≡ Some p → ((q : SigPath) → a ≡ Some q → A) → ((q : SigPath) → b ≡ Some q → A) → A
either-found None b p A e f g = g p e
either-found (Some q) b p A e f g = f q refl

barred-found : (bar : Option ℕ) (own : ℕ) (o : Option SigPath) (p : SigPath) → unless_barred bar own o ≡ Some p → o ≡ Some p
barred-found bar own o p e = go (is_open own bar) refl
  where
    go : (b : Truth) → is_open own bar ≡ b → o ≡ Some p
    go true f = let g : unless_barred bar own o ≡ o = rw f refl in sym g ∙ e
    go false f = absurd (let g : unless_barred bar own o ≡ None = rw f refl in cc)

pub barred-none : (bar : Option ℕ) (own : ℕ) → unless_barred bar own None ≡ None
barred-none bar own = go (is_open own bar) refl
  where
    go : (b : Truth) → is_open own bar ≡ b → unless_barred bar own None ≡ None
    go true f = rw f refl
    go false f = rw f refl

-- below a functor's variables

-- a variable applied to those of more binders, in one row, is its application to those of the first, applied further
pub spread-past : (ks : List Kind) (own depth : ℕ) → spread (length ks + depth + own) zero (length ks + depth) ≡ applied ks (spread (depth + own) zero depth)
spread-past ks own depth = ap (λ i. spread i zero (length ks + depth)) (omega arith) ∙ sym (spread-applied ks (depth + own) depth)

-- a variable with a root path has a kind

mutual
  seek-kind : {c : List Kind} (own depth : ℕ) (s : Sig) (p : SigPath) → WellFormed c s → NormalSig c s → seek own depth s ≡ Some p → (k : Kind) × HasKind c (spread (depth + own) zero depth) k
  seek-kind own depth (Sig.Val t) p h n e = absurd (cc)
  seek-kind own depth (Sig.Typ t k) p h n e = (k, (conv-kinds (rooted-conv depth own t (ends-found (rooted depth t) own p e) (normal-kind n))).1)
  seek-kind own depth (Sig.Meta x) p h n e = absurd (cc)
  seek-kind own depth (Sig.Str fs) p (WellFormed.str r h) n e = seek_row-kind own depth fs p h n e
  seek-kind {c} own depth (Sig.Fun Pure ks s (Abs.Ex [] r)) p (WellFormed.pure x h) n e =
      let f = after-found Item.Res (seek own (length ks + depth) r) p (barred-found (least_sig (length ks + depth) s) own (after Item.Res (seek own (length ks + depth) r)) p e) in
      let q = seek-kind own (length ks + depth) r f.0 h n.1 f.1 in
      (arrow_over ks q.0, applied-kinded ks (spread (depth + own) zero depth) (subst (λ (o : Ty). HasKind (extend c ks) o q.0) (spread-past ks own depth) q.1))
  seek-kind own depth (Sig.Fun Pure ks s (Abs.Ex (i ∷ is) r)) p h n e = elim h [ ]
  seek-kind own depth (Sig.Fun Impure ks s x) p h n e = absurd (cc)

  seek_row-kind : {c : List Kind} (own depth : ℕ) (fs : SigRow) (p : SigPath) → WellFormedRow c fs → NormalSigRow c fs → seek_row own depth fs ≡ Some p → (k : Kind) × HasKind c (spread (depth + own) zero depth) k
  seek_row-kind own depth SigRow.End p h n e = absurd (cc)
  seek_row-kind {c} own depth (SigRow.More l s rest) p (WellFormedRow.more h hs) n e =
      either-found (after (Item.Part l) (seek own depth s)) (seek_row own depth rest) p ((k : Kind) × HasKind c (spread (depth + own) zero depth) k) e
      (λ q f. let g = after-found (Item.Part l) (seek own depth s) q f in seek-kind own depth s g.0 h n.0 g.1)
      (λ q f. seek_row-kind own depth rest q hs n.1 f)

-- the walk and the search

typ-same : {c : List Kind} {k j : Kind} (own depth : ℕ) (t : Ty) → Normal c t k → HasKind c (spread (depth + own) zero depth) j → (a : Dec (k ≡ j)) (b : Dec (t ≡ normal c (spread (depth + own) zero depth))) → ends (rooted depth t) own ≡ where_both a b (Some [])
typ-same own depth t n h (yes e) (yes g) = ends-here (rooted depth t) own (rooted-found depth own t h g)
typ-same own depth t n h (yes e) (no g) = ends-not (rooted depth t) own (λ f. g (rooted-is depth own t n f))
typ-same {c} {k} {j} own depth t n h (no e) b =
    ends-not (rooted depth t) own (λ f. e (one_kind c (spread (depth + own) zero depth) k j (conv-kinds (rooted-conv depth own t f (normal-kind n))).1 h))

fun-same : {A : Type 0} {P : ℕ → Type 0} (own : ℕ) (bar : Option ℕ) (o q : Option SigPath) (a : Dec A) (b : Dec (NoneUpTo own P)) → IsLeast P bar → (A → o ≡ q) → ((A → ⊥) → o ≡ None) → unless_barred bar own o ≡ where_both a b q
fun-same {A} {P} own bar o q (yes a) (yes b) h f g = let t = none-open P own bar h b in (let w : unless_barred bar own o ≡ o = rw t refl in w) ∙ f a
fun-same {A} {P} own bar o q (yes a) (no b) h f g = go (is_open own bar) refl
  where
    go : (t : Truth) → is_open own bar ≡ t → unless_barred bar own o ≡ None
    go true e = absurd (b (open-none P own bar h e))
    go false e = rw e refl
fun-same {A} {P} own bar o q (no a) b h f g = ap (unless_barred bar own) (g a) ∙ barred-none bar own

mutual
  pub seek-search : {c : List Kind} {j : Kind} (own depth : ℕ) (s : Sig) → WellFormed c s → NormalSig c s → HasKind c (spread (depth + own) zero depth) j → seek own depth s ≡ find_root c (spread (depth + own) zero depth) j own (λ x. depth + x) s
  seek-search own depth (Sig.Val t) h n k = refl
  seek-search {c} {j} own depth (Sig.Typ t i) h n k = typ-same own depth t n k (Kind-discrete i j) (dec_ty t (normal c (spread (depth + own) zero depth)))
  seek-search own depth (Sig.Meta x) h n k = refl
  seek-search own depth (Sig.Str fs) (WellFormed.str r h) n k = seek_row-search own depth fs h n k
  seek-search {c} {j} own depth (Sig.Fun Pure ks s (Abs.Ex [] r)) (WellFormed.pure x h) n k =
      fun-same own (least_sig (length ks + depth) s) (after Item.Res (seek own (length ks + depth) r)) _
      (Kind-discrete j (arrow_over ks (kind_left ks j)))
      (dec_none own (λ x. MentionsSig (past ks (depth + x)) s) (λ x. dec_mentions_sig (past ks (depth + x)) s))
      (least-past_sig depth ks s (least-sig (length ks + depth) s))
      (λ e. ap (after Item.Res) (seek-search own (length ks + depth) r h n.1 (inner e) ∙ shapes))
      (λ f. ap (after Item.Res) (none-if (seek own (length ks + depth) r) (λ p e. f (kinds (seek-kind own (length ks + depth) r p h n.1 e)))))
    where
      inner : j ≡ arrow_over ks (kind_left ks j) → HasKind (extend c ks) (spread (length ks + depth + own) zero (length ks + depth)) (kind_left ks j)
      inner e = subst (λ (o : Ty). HasKind (extend c ks) o (kind_left ks j)) (sym (spread-past ks own depth)) (applied-kind ks (subst (λ i. HasKind c (spread (depth + own) zero depth) i) e k))

      indexes : ◌≡◌ {A = ℕ → ℕ} (λ x. length ks + depth + x) (λ x. past ks (depth + x))
      indexes = λ i x. past-from ks depth x i

      shapes : find_root (extend c ks) (spread (length ks + depth + own) zero (length ks + depth)) (kind_left ks j) own (λ x. length ks + depth + x) r ≡ find_root (extend c ks) (applied ks (spread (depth + own) zero depth)) (kind_left ks j) own (λ x. past ks (depth + x)) r
      shapes = ap₂ (λ o w. find_root (extend c ks) o (kind_left ks j) own w r) (spread-past ks own depth) indexes

      kinds : (i : Kind) × HasKind (extend c ks) (spread (length ks + depth + own) zero (length ks + depth)) i → j ≡ arrow_over ks (kind_left ks j)
      kinds q =
          let g = applied-kinded ks (spread (depth + own) zero depth) (subst (λ (o : Ty). HasKind (extend c ks) o q.0) (spread-past ks own depth) q.1) in
          let d : j ≡ arrow_over ks q.0 = one_kind c (spread (depth + own) zero depth) j (arrow_over ks q.0) k g in
          d ∙ ap (arrow_over ks) (sym (ap (kind_left ks) d ∙ kind_left-over ks q.0))
  seek-search own depth (Sig.Fun Pure ks s (Abs.Ex (i ∷ is) r)) h n k = elim h [ ]
  seek-search own depth (Sig.Fun Impure ks s x) h n k = refl

  pub seek_row-search : {c : List Kind} {j : Kind} (own depth : ℕ) (fs : SigRow) → WellFormedRow c fs → NormalSigRow c fs → HasKind c (spread (depth + own) zero depth) j → seek_row own depth fs ≡ find_root_row c (spread (depth + own) zero depth) j own (λ x. depth + x) fs
  seek_row-search own depth SigRow.End h n k = refl
  seek_row-search own depth (SigRow.More l s rest) (WellFormedRow.more h hs) n k =
      ap₂ (λ a b. or_else (after (Item.Part l) a) b) (seek-search own depth s h n.0 k) (seek_row-search own depth rest hs n.1 k)

pub seek-least : (ctx ks : List Kind) (s : Sig) (number : ℕ) → WellFormed (extend ctx ks) s → NormalSig (extend ctx ks) s → number < length ks → seek (own ks number) zero s ≡ least_root ctx ks s number
seek-least ctx ks s number h n lt =
    let v = own ks number in
    let c = extend ctx ks in
    let first : v ≡ zero + v = omega arith in
    let j = kind_at c v in
    seek-search v zero s h n (subst (λ (i : ℕ). HasKind c (Ty.Var i) j) first (own-kind ks ctx number lt))
    ∙ ap₂ (λ i w. find_root c (Ty.Var i) j v w s) (sym first) (λ i x. plus x i)
  where
    plus : (x : ℕ) → zero + x ≡ x
    plus x = omega arith

-- what the walk seeks for a hidden type is its least root path, or that it has none
pub seek-root : (ctx ks : List Kind) (s : Sig) (number : ℕ) → WellFormed (extend ctx ks) s → NormalSig (extend ctx ks) s → number < length ks → IsRoot ctx ks s number (seek (own ks number) zero s)
seek-root ctx ks s number h n lt = go (seek (own ks number) zero s) (sym (seek-least ctx ks s number h n lt))
  where
    go : (o : Option SigPath) → least_root ctx ks s number ≡ o → IsRoot ctx ks s number o
    go (Some p) e = (least_root-gives h n lt p).0 e
    go None e = λ p r. absurd (let q = least_root-exists h n lt (p, r) in let f = q.1 in cc)
