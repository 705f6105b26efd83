-- Fields of two structures together.
-- Main results: merge-rising, merge-left, merge-right, merge-well_formed.
use Rattle.std.specs.Prelude.{List, ◌≡◌, ◌≢◌, Bool, true, false, cond, IsTrue}
use Rattle.std.proofs.Math.Path.{refl}
use Rattle.omega_kinds.specs.Kind.{Kind}
use Rattle.omega_kinds.specs.Name.{Name}
use Rattle.omega_kinds.specs.LabelOrder.{name_before}
use Rattle.sig_definitions.specs.Signatures.Sig.{Sig, SigRow, HasField, here, there, NoField}
use Rattle.sig_definitions.specs.Signatures.FieldOrder.{insert_field, merge}
use Rattle.sig_definitions.specs.Explicit.WellFormed.{BeforeAll, Rising, WellFormedRow, ExplicitResultsRow, WellFormed, ExplicitResults, in_end, in_more}
use Rattle.omega_kinds.proofs.NameLaws.{name-transitive}
use Rattle.sig_laws.proofs.Algebra.Names.{Compared, before, after, same, NameBefore, compare-names}
use Rattle.sig_explicit_laws.proofs.Moves.{FieldsIn}
use Rattle.sig_laws.proofs.Formed.WellFormedShape.{before-no_field}
use Rattle.sig_laws.proofs.Algebra.PathLaws.{field-not}

-- no field of one is one of the other
pub data Apart : SigRow → SigRow → Type 0 where
  none : {gs : SigRow} → Apart SigRow.End gs
  next : {l : Name} {s : Sig} {fs gs : SigRow} → NoField l gs → Apart fs gs → Apart (SigRow.More l s fs) gs

-- a name before another one that is before all fields is before all fields
pub before_all-before : (l m : Name) (fs : SigRow) → IsTrue (name_before l m) → BeforeAll m fs → BeforeAll l fs
before_all-before l m SigRow.End h g = tt
before_all-before l m (SigRow.More n s rest) h g = (name-transitive l m n h g.0, before_all-before l m rest h g.1)

-- a name that is neither before another nor that one comes after it
later : (l m : Name) → l ≢ m → name_before l m ≡ false → IsTrue (name_before m l)
later l m h e = go (compare-names l m)
  where
    go : Compared NameBefore l m → IsTrue (name_before m l)
    go (before b) = absurd (cc (e, b))
    go (after b) = b
    go (same f) = absurd (h f)

-- a property of both orders
insert-cases : (P : SigRow → Type 0) (l m : Name) (s t : Sig) (rest : SigRow)
    → (IsTrue (name_before l m) → P (SigRow.More l s (SigRow.More m t rest)))
    → (name_before l m ≡ false → P (SigRow.More m t (insert_field l s rest)))
    → P (insert_field l s (SigRow.More m t rest))
insert-cases P l m s t rest f g = go (name_before l m) f g
  where
    go : (b : Bool) → (b ≡ true → P (SigRow.More l s (SigRow.More m t rest))) → (b ≡ false → P (SigRow.More m t (insert_field l s rest))) → P (cond b (SigRow.More l s (SigRow.More m t rest)) (SigRow.More m t (insert_field l s rest)))
    go true f g = f refl
    go false f g = g refl

insert-before_all : (n l : Name) (s : Sig) (fs : SigRow) → IsTrue (name_before n l) → BeforeAll n fs → BeforeAll n (insert_field l s fs)
insert-before_all n l s SigRow.End h b = (h, tt)
insert-before_all n l s (SigRow.More m t rest) h b = insert-cases (BeforeAll n) l m s t rest (λ e. (h, b)) (λ e. (b.0, insert-before_all n l s rest h b.1))

pub insert-rising : (l : Name) (s : Sig) (fs : SigRow) → NoField l fs → Rising fs → Rising (insert_field l s fs)
insert-rising l s SigRow.End n r = (tt, tt)
insert-rising l s (SigRow.More m t rest) n r =
    insert-cases Rising l m s t rest
    (λ e. ((e, before_all-before l m rest e r.0), r))
    (λ e. (insert-before_all m l s rest (later l m n.0 e) r.0, insert-rising l s rest n.1 r.1))

-- a name without a field has none when a field of another name is put in
pub insert-none : (n l : Name) (s : Sig) (fs : SigRow) → n ≢ l → NoField n fs → NoField n (insert_field l s fs)
insert-none n l s SigRow.End h b = (h, tt)
insert-none n l s (SigRow.More m t rest) h b = insert-cases (NoField n) l m s t rest (λ e. (h, b)) (λ e. (b.0, insert-none n l s rest h b.1))

-- a name without a field in two structures has none in both together
pub merge-none : (n : Name) (fs gs : SigRow) → NoField n fs → NoField n gs → NoField n (merge fs gs)
merge-none n SigRow.End gs h g = g
merge-none n (SigRow.More l s fs) gs h g = insert-none n l s (merge fs gs) h.0 (merge-none n fs gs h.1 g)

-- the fields of two structures that are apart, in order each, are in order together
pub merge-rising : (fs gs : SigRow) → Apart fs gs → Rising fs → Rising gs → Rising (merge fs gs)
merge-rising SigRow.End gs a r q = q
merge-rising (SigRow.More l s fs) gs (next n a) r q = insert-rising l s (merge fs gs) (merge-none l fs gs (before-no_field l fs r.0) n) (merge-rising fs gs a r.1 q)

insert-here : (l : Name) (s : Sig) (fs : SigRow) → NoField l fs → HasField (insert_field l s fs) l s
insert-here l s SigRow.End n = here
insert-here l s (SigRow.More m t rest) n = insert-cases (λ row. HasField row l s) l m s t rest (λ e. here) (λ e. there n.0 (insert-here l s rest n.1))

insert-other : (l : Name) (s : Sig) (fs : SigRow) {n : Name} {q : Sig} → n ≢ l → HasField fs n q → HasField (insert_field l s fs) n q
insert-other l s SigRow.End d h = elim h [ ]
insert-other l s (SigRow.More m t rest) {n} {q} d here = insert-cases (λ row. HasField row n q) l m s t rest (λ e. there d here) (λ e. here)
insert-other l s (SigRow.More m t rest) {n} {q} d (there f h) = insert-cases (λ row. HasField row n q) l m s t rest (λ e. there d (there f h)) (λ e. there f (insert-other l s rest d h))

-- the fields of the left structure are among those of both
pub merge-left : (fs gs : SigRow) → Apart fs gs → Rising fs → FieldsIn fs (merge fs gs)
merge-left SigRow.End gs a r l s h = elim h [ ]
merge-left (SigRow.More m t fs) gs (next n a) r l s here = insert-here m t (merge fs gs) (merge-none m fs gs (before-no_field m fs r.0) n)
merge-left (SigRow.More m t fs) gs (next n a) r l s (there d h) = insert-other m t (merge fs gs) d (merge-left fs gs a r.1 l s h)

-- the fields of the right structure are among those of both
pub merge-right : (fs gs : SigRow) → Apart fs gs → FieldsIn gs (merge fs gs)
merge-right SigRow.End gs a l s h = h
merge-right (SigRow.More m t fs) gs (next n a) l s h = insert-other m t (merge fs gs) (field-not h n) (merge-right fs gs a l s h)

insert-well_formed : {ctx : List Kind} (l : Name) {s : Sig} {fs : SigRow} → WellFormed ctx s → WellFormedRow ctx fs → WellFormedRow ctx (insert_field l s fs)
insert-well_formed l w WellFormedRow.end = WellFormedRow.more w WellFormedRow.end
insert-well_formed {ctx} l {s} w (WellFormedRow.more {l = m} {s = t} {rest = rest} v vs) = insert-cases (WellFormedRow ctx) l m s t rest (λ e. WellFormedRow.more w (WellFormedRow.more v vs)) (λ e. WellFormedRow.more v (insert-well_formed l w vs))

-- the fields of two structures, well formed each, are well formed together
pub merge-well_formed : {ctx : List Kind} {fs gs : SigRow} → WellFormedRow ctx fs → WellFormedRow ctx gs → WellFormedRow ctx (merge fs gs)
merge-well_formed WellFormedRow.end v = v
merge-well_formed (WellFormedRow.more {l = l} w ws) v = insert-well_formed l w (merge-well_formed ws v)

insert-results : {ctx : List Kind} (l : Name) {s : Sig} {fs : SigRow} → ExplicitResults ctx s → ExplicitResultsRow ctx fs → ExplicitResultsRow ctx (insert_field l s fs)
insert-results l w in_end = in_more w in_end
insert-results {ctx} l {s} w (in_more {l = m} {s = t} {rest = rest} v vs) = insert-cases (ExplicitResultsRow ctx) l m s t rest (λ e. in_more w (in_more v vs)) (λ e. in_more v (insert-results l w vs))

-- fields of ordered explicit functor results are so together
pub merge-results : {ctx : List Kind} {fs gs : SigRow} → ExplicitResultsRow ctx fs → ExplicitResultsRow ctx gs → ExplicitResultsRow ctx (merge fs gs)
merge-results in_end v = v
merge-results (in_more {l = l} w ws) v = insert-results l w (merge-results ws v)
