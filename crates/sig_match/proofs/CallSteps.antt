-- What each call of matching comes to, from what it calls.
-- Main results: match-in, look-into, target-looks, functor-ok, parts-same, abs-ok.
use Rattle.std.proofs.Common.{◌≡◌, ℕ, suc, ◌+◌, ◌<◌, ◌≤◌, List, [], ◌∷◌, ◌++◌, length, get_or, take, drop, slice_get, Option, Some, None, Result, Ok, Err, refl, sym, ap, ap₂, ◌∙◌, subst, arith}
use Rattle.std.proofs.lemmas.Option.{slice_get-get_or}
use mathlib.Core.Logic.{inl, inr}
use Rattle.omega_kinds.specs.Kind.{Kind}
use Rattle.omega_kinds.specs.Name.{Name}
use Rattle.omega_kinds.specs.declared.label.Label.{Label}
use Rattle.omega_kinds.specs.declared.effect.Effect.{Effect}
use Rattle.omega_kinds.specs.declared.effect.Effect.TheVariants.{Pure, Impure}
use Rattle.omega_types.specs.Ty.{Ty}
use Rattle.omega_types.specs.Binders.{extend, past}
use Rattle.omega_types.proofs.BinderPuts.{types-forms}
use Rattle.omega_terms.specs.Coercions.{functor_part, meta_part, fields_part}
use Rattle.omega_terms.specs.Fields.{term_row, TermPairs}
use Rattle.omega_terms.specs.Term.{Term}
use Rattle.sig_definitions.specs.Explicit.SigPath.{SigPath, Item}
use Rattle.sig_definitions.specs.Explicit.WellFormed.{WellFormedAbs}
use Rattle.sig_definitions.specs.Matching.LookUp.{Found}
use Rattle.sig_definitions.specs.Matching.MatchRefusal.{MatchRefusal, NoRoot, Clash, Form, Missing, Effects, clash, within, RefusesMatch, RefusesSub, RefusesSubAbs, RefusesFields}
use Rattle.sig_definitions.specs.Matching.Subtyping.{Sub, Match}
use Rattle.sig_definitions.specs.Signatures.Alike.{NormalAbs, NormalAbsForm, IsSigAt}
use Rattle.sig_definitions.specs.Signatures.Encoding.{enc, enc_abs}
use Rattle.sig_definitions.specs.Signatures.Sig.{Sig, Abs, SigRow, HasField, NoField}
use Rattle.sig_definitions.specs.Signatures.SigSize.{size, size_abs}
use Rattle.sig_definitions.specs.Signatures.SigSubst.{raise_abs, abs_at_under}
use Rattle.sig_laws.proofs.Algebra.SizeLaws.{size_abs-rename, field-size}
use Rattle.sig_laws.proofs.Formed.Conditions.{explicit-abs}
use Rattle.sig_match_laws.specs.MatchClaims.{IsRightSig}
use Rattle.sig_match_laws.proofs.LookUp.Good.{good-left_field, good-meta}
use Rattle.sig_match_laws.proofs.OneMatch.Views.{match-view}
use Rattle.sig_reflexive_laws.proofs.Encodings.{part_gives}
use Rattle.sig_transitive_laws.proofs.Claims.{part_of_one_norm}
use Rattle.sig_cut_laws.specs.Cut.{CutTo}
use Rattle.sig_cut_laws.proofs.Cuts.{cut_before, cut_left, cut_right, found_in_cut}
use Rattle.sig_laws.proofs.Formed.WellFormedLaws.{explicit-body}
use Rattle.semantic_sigs.specs.Inner.Fields.{SigPairs, sig_row}
use Rattle.semantic_sigs.specs.Inner.View.{kinds_of, body_of}
use Rattle.sig_match.specs.declared.refusal.Matched.{Matched}
use Rattle.sig_match.specs.declared.refusal.MatchRefusal.{MatchRefusal as CodeRefusal}
use Rattle.sig_match.specs.Inner.Alike.{AreAlike}
use Rattle.sig_match.specs.Inner.Coerced.{IsAbsCoercion}
use Rattle.sig_match.specs.Inner.Put.{AreNormal, filled, MayPut, EachPut, MayPutUnder, EachPutUnder}
use Rattle.sig_match.specs.Inner.Refusals.{Gives, Holds, inside, plain_refusal}
use Rattle.sig_roots.specs.Inner.Roots.{AreRoots}
use Rattle.sig_match.specs.Inner.Looking.{Ends, Looks, LookSides, Refusing, lam_found, MayLook, EachLook, MayLookInto, EachLookInto, FirstFound, NextSides, MayLookNext, EachLookNext, EachLookAll, IfMatched, IsTarget}
use Rattle.sig_match.specs.Inner.Outcomes.{MayMatch, EachMatch, SubGives, MaySub, EachSub, MaySubAbs, EachSubAbs, ResultGives, ResultHolds, MayResult, EachResult, EachField}
use Rattle.sig_match.proofs.Given.{holds-given, holds-map, holds-within}
use Rattle.sig_match.proofs.LookSteps.{end-looks, part-sides, part-looks, left-lacks, right-lacks, put-right, res-looks, other-arg, other-meta, no-left_functor, no-right_functor, not-pure, refused-looks, matched-looks, result-sides, nothing-put}
use Rattle.sig_match.proofs.NextSteps.{next-sides, next-some, next-none, first-none, first-more, first-all}
use Rattle.sig_match.proofs.SubSteps.{clashed, Parts, parts-next, item-right, field-refused, field-later, fields-same, meta-there, meta-back, meta-same, param-sides, result_sides, effects-clash, param-no, outer-no, functor-same, abs-under, abs-same, abs-no, match-put, match-at, match-right, match-ok, match-no}
use Rattle.sig_laws.specs.Good.{OkSig, OkRight}

-- matching

-- the types that were looked up may be put in for the right side's hidden types
pub match-may_put : (depth : ℕ) (s : Sig) (x : Abs) (ts : List Ty) → MayMatch depth s x → EachLookAll depth s x (Ok ts) → MayPut (kinds_of x) (body_of x) ts
match-may_put depth s x ts m a = match-put depth s x m.3 (a m.0 m.1 m.2 m.3).1

-- the left side may be compared with the right side's body at the types that were looked up
pub match-may_sub : (depth : ℕ) (s : Sig) (x : Abs) (ts : List Ty) (n : Sig) → MayMatch depth s x → EachLookAll depth s x (Ok ts) → EachPut (kinds_of x) (body_of x) ts n → MaySub depth s n
match-may_sub depth s x ts n m a p = let g = a m.0 m.1 m.2 m.3 in (m.0, m.1, m.2, match-right m.0 x ts n m.3 g.1 (match-at m.0 x ts n m.3 g.1 p))

-- a match is the types that were looked up, with the coercion to the body at them
pub match-in : (depth : ℕ) (s : Sig) (x : Abs) (ts : List Ty) (n : Sig) (f : Term) → EachLookAll depth s x (Ok ts) → EachPut (kinds_of x) (body_of x) ts n → EachSub depth s n (Ok f) → EachMatch depth s x (Ok (record { types = ts; coercion = f }))
match-in depth s x ts n f a p b = λ ctx l w v.
    let g = a ctx l w v in
    let e = match-at ctx x ts n v g.1 p in
    match-ok ctx s x ts n f g.1 e (b ctx l w (match-right ctx x ts n v g.1 e))

-- matching is refused as the comparison with the body at the types that were looked up
pub match-in_no : (depth : ℕ) (s : Sig) (x : Abs) (ts : List Ty) (n : Sig) (e : CodeRefusal) → EachLookAll depth s x (Ok ts) → EachPut (kinds_of x) (body_of x) ts n → EachSub depth s n (Err e) → EachMatch depth s x (Err e)
match-in_no depth s x ts n e a p b = λ ctx l w v.
    let g = a ctx l w v in
    let q = match-at ctx x ts n v g.1 p in
    match-no ctx s x ts n (plain_refusal e) g.0 g.1 q (b ctx l w (match-right ctx x ts n v g.1 q))

-- all hidden variables

-- the first hidden types are found in each context of this depth
abbrev pub EachFirst : ℕ → Sig → Abs → List Ty → Type 0
EachFirst depth s x ts = (ctx : List Kind) → length ctx ≡ depth → OkSig ctx s → OkRight ctx x → FirstFound ctx s x ts

-- the root paths of the hidden types, in each context
abbrev pub EachRoots : Abs → List (Option SigPath) → Type 0
EachRoots x roots = (ctx : List Kind) → WellFormedAbs ctx x → NormalAbs ctx x → AreRoots ctx x roots

next-here : (ctx : List Kind) (s : Sig) (x : Abs) (ts : List Ty) (roots : List (Option SigPath)) (root : Option SigPath) (i : ℕ) → OkSig ctx s → OkRight ctx x → FirstFound ctx s x ts → EachRoots x roots → length roots ≡ length (kinds_of x) → i < length roots → root ≡ get_or roots i root → length ts ≡ i → NextSides ctx s x ts root
next-here ctx s (Abs.Ex ks r) ts roots root i w v g h n lt e l =
    let at : slice_get roots (length ts) ≡ Some root = ap (slice_get roots) l ∙ (slice_get-get_or roots i root lt ∙ ap Some (sym e)) in
    (w, v, g, omega (arith, n, lt, l), h ctx (explicit-abs v.0) v.1 (length ts) root at)

-- the next hidden type may be looked up after the first ones
pub next-may : (depth : ℕ) (s : Sig) (x : Abs) (ts : List Ty) (roots : List (Option SigPath)) (root : Option SigPath) (i : ℕ) → MayMatch depth s x → EachRoots x roots → length roots ≡ length (kinds_of x) → i < length roots → root ≡ get_or roots i root → length ts ≡ i → EachFirst depth s x ts → MayLookNext depth s x ts root
next-may depth s x ts roots root i m h n lt e l f = (m.0, m.1, next-here m.0 s x ts roots root i m.2 m.3 (f m.0 m.1 m.2 m.3) h n lt e l)

-- looking up all hidden types is refused as looking up the next one
pub next-refused : (depth : ℕ) (s : Sig) (x : Abs) (ts : List Ty) (roots : List (Option SigPath)) (root : Option SigPath) (i : ℕ) (q : CodeRefusal) → EachRoots x roots → length roots ≡ length (kinds_of x) → i < length roots → root ≡ get_or roots i root → length ts ≡ i → EachFirst depth s x ts → EachLookNext depth s x ts root (Err q) → EachLookAll depth s x (Err q)
next-refused depth s x ts roots root i q h n lt e l f k = λ ctx c w v. k ctx c (next-here ctx s x ts roots root i w v (f ctx c w v) h n lt e l)

-- with the next hidden type found, those found so far are one more
pub next-first : (depth : ℕ) (s : Sig) (x : Abs) (ts us : List Ty) (roots : List (Option SigPath)) (root : Option SigPath) (i : ℕ) (t : Ty) → EachRoots x roots → length roots ≡ length (kinds_of x) → i < length roots → root ≡ get_or roots i root → length ts ≡ i → us ≡ ts ++ (t ∷ []) → EachFirst depth s x ts → EachLookNext depth s x ts root (Ok t) → EachFirst depth s x us
next-first depth s x ts us roots root i t h n lt e l eu f k = λ ctx c w v.
    let g = next-here ctx s x ts roots root i w v (f ctx c w v) h n lt e l in
    subst (FirstFound ctx s x) (sym eu) (first-more ctx s x ts t w v g.3 (f ctx c w v) (k ctx c g))

-- when as many hidden types are found as there are, all are
pub all-first : (depth : ℕ) (s : Sig) (x : Abs) (ts : List Ty) (roots : List (Option SigPath)) (i : ℕ) → length roots ≡ length (kinds_of x) → length roots ≤ i → i ≤ length roots → length ts ≡ i → EachFirst depth s x ts → EachLookAll depth s x (Ok ts)
all-first depth s x ts roots i n ge le l f = λ ctx c w v. first-all ctx s x ts (omega (arith, n, ge, le, l)) (f ctx c w v)

-- a list with one more type is longer by one
pub length-more : (ts us : List Ty) (t : Ty) (i : ℕ) → us ≡ ts ++ (t ∷ []) → length ts ≡ i → length us ≡ i + 1
length-more ts us t i e l = ap length e ∙ (grown ts ∙ ap (λ n. n + 1) l)
  where
    grown : (ts : List Ty) → length (ts ++ (t ∷ [])) ≡ length ts + 1
    grown [] = refl
    grown (u ∷ ts) = let g = grown ts in omega (arith, g)

-- before the first hidden type is looked up, none is found
pub none-first : (depth : ℕ) (s : Sig) (x : Abs) → EachFirst depth s x []
none-first depth s x = λ ctx c w v. first-none ctx s x

-- the next hidden variable

pub next-look : (depth : ℕ) (s : Sig) (x : Abs) (ts : List Ty) (p : SigPath) → MayLookNext depth s x ts (Some p) → MayLook depth s (kinds_of x) (body_of x) ts
next-look depth s x ts p m = (m.0, m.1, next-sides x (Some p) m.2)

pub next-has : (depth : ℕ) (s : Sig) (x : Abs) (ts : List Ty) (p q : SigPath) (t : Ty) → q ≡ p → EachLook depth s q (kinds_of x) (body_of x) ts (Some t) → EachLookNext depth s x ts (Some p) (Ok t)
next-has depth s x ts p q t e k = λ ctx c v. next-some ctx s x ts p t v (λ n a. subst (λ z. Looks ctx s z n (Some t)) e (k ctx c (next-sides x (Some p) v) n a))

pub next-lacks : (depth : ℕ) (s : Sig) (x : Abs) (ts : List Ty) (p q : SigPath) (index : ℕ) (e : CodeRefusal) → q ≡ p → index ≡ length ts → Gives (Some (NoRoot index p)) (plain_refusal e) → EachLook depth s q (kinds_of x) (body_of x) ts None → EachLookNext depth s x ts (Some p) (Err e)
next-lacks depth s x ts p q index e eq ei g k = λ ctx c v.
    holds-given (RefusesMatch ctx s x) (Some (NoRoot index p)) (plain_refusal e) g
    (subst (λ i. RefusesMatch ctx s x (NoRoot i p)) (sym ei) (next-none ctx s x ts p v (λ n a. subst (λ z. Looks ctx s z n None) eq (k ctx c (next-sides x (Some p) v) n a))))

-- as the code has the root and the sides

look-same : (depth : ℕ) (s r q : Sig) (p : SigPath) (ks js : List Kind) (ts : List Ty) (o : Option Ty) → ks ≡ js → r ≡ q → EachLook depth s p ks r ts o → EachLook depth s p js q ts o
look-same depth s r q p ks js ts o ek er k = subst (λ z. EachLook depth s p z q ts o) ek (subst (λ z. EachLook depth s p ks z ts o) er k)

-- a hidden type that has a root path may be looked up along it
pub root-may_look : (depth : ℕ) (s r : Sig) (x : Abs) (ts : List Ty) (root : Option SigPath) (p : SigPath) (ks : List Kind) → root ≡ Some p → ks ≡ kinds_of x → r ≡ body_of x → MayLookNext depth s x ts root → MayLook depth s ks r ts
root-may_look depth s r x ts root p ks e ek er m =
    subst (λ z. MayLook depth s z r ts) (sym ek) (subst (λ z. MayLook depth s (kinds_of x) z ts) (sym er) (next-look depth s x ts p (subst (MayLookNext depth s x ts) e m)))

-- the next hidden type is what is found along its root path
pub root-has : (depth : ℕ) (s r : Sig) (x : Abs) (ts : List Ty) (root : Option SigPath) (p q : SigPath) (ks : List Kind) (t : Ty) → root ≡ Some p → ks ≡ kinds_of x → r ≡ body_of x → q ≡ p → EachLook depth s q ks r ts (Some t) → EachLookNext depth s x ts root (Ok t)
root-has depth s r x ts root p q ks t e ek er eq k =
    subst (λ z. EachLookNext depth s x ts z (Ok t)) (sym e) (next-has depth s x ts p q t eq (look-same depth s r (body_of x) q ks (kinds_of x) ts (Some t) ek er k))

-- where nothing is found along the root path, looking up is refused: the hidden type has no root on the left
pub root-lacks : (depth : ℕ) (s r : Sig) (x : Abs) (ts : List Ty) (root : Option SigPath) (p q : SigPath) (ks : List Kind) (index : ℕ) (g : CodeRefusal) → root ≡ Some p → ks ≡ kinds_of x → r ≡ body_of x → q ≡ p → index ≡ length ts → Gives (Some (NoRoot index p)) (plain_refusal g) → EachLook depth s q ks r ts None → EachLookNext depth s x ts root (Err g)
root-lacks depth s r x ts root p q ks index g e ek er eq ei gi k =
    subst (λ z. EachLookNext depth s x ts z (Err g)) (sym e) (next-lacks depth s x ts p q index g eq ei gi (look-same depth s r (body_of x) q ks (kinds_of x) ts None ek er k))

-- a list of less than one item is empty
pub none-below : {A : Type 0} (xs : List A) → length xs < 1 → xs ≡ []
none-below [] lt = refl
none-below (x ∷ xs) lt = absurd (omega (arith, lt))

-- a part of a structure is smaller than the structure
pub part-size : (s u : Sig) (l : Name) → (fs : SigRow) × (s ≡ Sig.Str fs) × HasField fs l u → size u < size s
part-size s u l h = subst (λ z. size u < size z) (sym h.1) (let g = field-size h.2 in omega (arith, g))

-- along a path

-- looking up ends at an empty path with the type of the left part, where both kinds agree
pub look-end : (depth : ℕ) (s r : Sig) (ks : List Kind) (ts : List Ty) (o : Option Ty) → Ends s r o → EachLook depth s [] ks r ts o
look-end depth s r ks ts o h = λ ctx c v n a. end-looks ctx s r n (filled ks ts) o h a

-- looking up may go on into the parts of one name
pub look-may_part : (depth : ℕ) (s r u v : Sig) (l : Name) (ks : List Kind) (ts : List Ty) → MayLook depth s ks r ts → (fs : SigRow) × (s ≡ Sig.Str fs) × HasField fs l u → (gs : SigRow) × (r ≡ Sig.Str gs) × HasField gs l v → MayLook depth u ks v ts
look-may_part depth s r u v l ks ts m h g =
    (m.0, m.1, part-sides ts h.2 g.2 (subst (λ z. LookSides m.0 z ks (Sig.Str g.0) ts) h.1 (subst (λ z. LookSides m.0 s ks z ts) g.1 m.2)))

-- what is found in the parts of one name is found in the structures, along that name
pub look-part : (depth : ℕ) (s r u v : Sig) (l : Name) (p : SigPath) (ks : List Kind) (ts : List Ty) (o : Option Ty) → (fs : SigRow) × (s ≡ Sig.Str fs) × HasField fs l u → (gs : SigRow) × (r ≡ Sig.Str gs) × HasField gs l v → EachLook depth u p ks v ts o → EachLook depth s (Item.Part l ∷ p) ks r ts o
look-part depth s r u v l p ks ts o h g k = λ ctx c w n a.
    subst (λ z. Looks ctx z (Item.Part l ∷ p) n o) (sym h.1)
    (part-looks ctx h.0 g.0 l u v p n (filled ks ts) o h.2 g.2 (subst (λ z. IsSigAt ctx z (filled ks ts) n) g.1 a)
    (λ q b. k ctx c (part-sides ts h.2 g.2 (subst (λ z. LookSides ctx z ks (Sig.Str g.0) ts) h.1 (subst (λ z. LookSides ctx s ks z ts) g.1 w))) q b))

-- nothing is found along a name that the left side lacks
pub look-no_left : (depth : ℕ) (s r : Sig) (l : Name) (p : SigPath) (ks : List Kind) (ts : List Ty) → ((fs : SigRow) → s ≡ Sig.Str fs → NoField l fs) → EachLook depth s (Item.Part l ∷ p) ks r ts None
look-no_left depth s r l p ks ts h = λ ctx c w n a t f. left-lacks s h f

-- nothing is found along a name that the right side lacks
pub look-no_right : (depth : ℕ) (s r : Sig) (l : Name) (p : SigPath) (ks : List Kind) (ts : List Ty) → ((fs : SigRow) → r ≡ Sig.Str fs → NoField l fs) → EachLook depth s (Item.Part l ∷ p) ks r ts None
look-no_right depth s r l p ks ts h = λ ctx c w n a t f. right-lacks r n (filled ks ts) h a f

-- nothing is found along a path through a functor's parameter
pub look-arg : (depth : ℕ) (s r : Sig) (p : SigPath) (ks : List Kind) (ts : List Ty) → EachLook depth s (Item.Arg ∷ p) ks r ts None
look-arg depth s r p ks ts = λ ctx c w n a t f. other-arg f

-- nothing is found along a path through a signature part
pub look-meta : (depth : ℕ) (s r : Sig) (p : SigPath) (ks : List Kind) (ts : List Ty) → EachLook depth s (Item.Meta ∷ p) ks r ts None
look-meta depth s r p ks ts = λ ctx c w n a t f. other-meta f

-- the types found so far, and any types for the others, may be put into the right side
pub look-may_put : (depth : ℕ) (s r : Sig) (ks : List Kind) (ts : List Ty) → MayLook depth s ks r ts → MayPut ks r (filled ks ts)
look-may_put depth s r ks ts m = (m.0, m.2.1.1, m.2.2)

-- looking up may go on into functors' results with these types put in
pub look-may_into : (depth : ℕ) (s r n : Sig) (ks : List Kind) (ts : List Ty) → MayLook depth s ks r ts → EachPut ks r (filled ks ts) n → MayLookInto depth s n
look-may_into depth s r n ks ts m p = (m.0, m.1, m.2.0, put-right m.2.1 m.2.2 (p m.0 m.2.1.1 m.2.2))

-- what is found in the result of the functor at these types is found along the result
pub look-into : (depth : ℕ) (s r n : Sig) (p : SigPath) (ks : List Kind) (ts : List Ty) (o : Option Ty) → EachPut ks r (filled ks ts) n → EachLookInto depth s p n o → EachLook depth s (Item.Res ∷ p) ks r ts o
look-into depth s r n p ks ts o g k = λ ctx c w m a.
    let b = g ctx w.1.1 w.2 in
    res-looks ctx s r n m (Item.Res ∷ p) (filled ks ts) o b a (k ctx c w.0 (put-right w.1 w.2 b))

-- looking up may go on with what the path meets of both sides
pub cut-may_look : (depth : ℕ) (s r c d : Sig) (p : SigPath) (ks : List Kind) (ts : List Ty) → CutTo p s c → CutTo p r d → MayLook depth s ks r ts → MayLook depth c ks d ts
cut-may_look depth s r c d p ks ts k g m = (m.0, m.1, (cut_left m.0 p s c k m.2.0, cut_right (extend m.0 ks) p r d g m.2.1, m.2.2))

cut-looks : (ctx : List Kind) (s r c d : Sig) (p : SigPath) (o : Option Ty) → OkSig ctx s → CutTo p s c → CutTo p r d → Looks ctx c p d o → Looks ctx s p r o
cut-looks ctx s r c d p None w k g f = λ t h. f t ((found_in_cut ctx p s c r d t w k g).0 h)
cut-looks ctx s r c d p (Some t) w k g f = (found_in_cut ctx p s c r d t w k g).1 f

-- what is found there is what is found along the path in both sides
pub cut-each_look : (depth : ℕ) (s r c d : Sig) (p : SigPath) (ks : List Kind) (ts : List Ty) (o : Option Ty) → CutTo p s c → CutTo p r d → EachLook depth c p ks d ts o → EachLook depth s p ks r ts o
cut-each_look depth s r c d p ks ts o k g f = λ ctx l w n a.
    let q = cut_before ctx p r d n (filled ks ts) g a in
    cut-looks ctx s n c q.0 p o w.0 k q.1 (f ctx l (cut_left ctx p s c k w.0, cut_right (extend ctx ks) p r d g w.1, w.2) q.0 q.2)

-- through a functor

-- nothing is found along a result where the left side is no functor
pub into-no_left : (depth : ℕ) (s r : Sig) (p : SigPath) → ((e : Effect) (ks : List Kind) (a : Sig) (x : Abs) → s ≡ Sig.Fun e ks a x → ⊥) → EachLookInto depth s p r None
into-no_left depth s r p h = λ ctx c w v t f. no-left_functor s h f

-- nothing is found along a result where the right side is no functor
pub into-no_right : (depth : ℕ) (s r : Sig) (p : SigPath) → ((e : Effect) (ks : List Kind) (a : Sig) (x : Abs) → r ≡ Sig.Fun e ks a x → ⊥) → EachLookInto depth s p r None
into-no_right depth s r p h = λ ctx c w v t f. no-right_functor r h f

-- nothing is found along a result unless both functors are pure
pub into-impure : (depth : ℕ) (s r : Sig) (p : SigPath) (e d : Effect) (ks js : List Kind) (a b : Sig) (x z : Abs) → s ≡ Sig.Fun e ks a x → r ≡ Sig.Fun d js b z → (((e ≡ Pure) × (d ≡ Pure)) → ⊥) → EachLookInto depth s p r None
into-impure depth s r p e d ks js a b x z es er h = λ ctx c w v t f. not-pure h (subst (λ y. Found ctx y (Item.Res ∷ p) (Sig.Fun d js b z) t) es (subst (λ y. Found ctx s (Item.Res ∷ p) y t) er f))

extend-length : (ctx js : List Kind) (depth by under : ℕ) → length ctx ≡ depth → by ≡ length js → under ≡ by + depth → length (extend ctx js) ≡ under
extend-length ctx js depth by under c eb eu = longer ctx js ∙ (ap₂ ◌+◌ (sym eb) c ∙ sym eu)
  where
    longer : (ctx js : List Kind) → length (extend ctx js) ≡ length js + length ctx
    longer ctx [] = omega arith
    longer ctx (j ∷ js) = longer (j ∷ ctx) js ∙ omega arith

pub functor-may_match : (depth by under : ℕ) (e d : Effect) (ks js : List Kind) (a b : Sig) (x z : Abs) → by ≡ length js → under ≡ by + depth → MaySub depth (Sig.Fun e ks a x) (Sig.Fun d js b z) → MayMatch under b (raise_abs js (Abs.Ex ks a))
functor-may_match depth by under e d ks js a b x z eb eu m = let q = param-sides m.2 m.3 in (extend m.0 js, extend-length m.0 js depth by under m.1 eb eu, q.0, q.1)

match-normal : {ctx : List Kind} {s : Sig} (x : Abs) {ts : List Ty} {f : Term} → OkRight ctx x → Match ctx s x ts f → AreNormal ctx ts (kinds_of x)
match-normal (Abs.Ex ks r) v m = types-forms (match-view (explicit-body v.0) m).1

-- the types of the match of the parameters may be put into the left result
pub functor-may_put : (depth by under : ℕ) (e d : Effect) (ks js : List Kind) (a b : Sig) (x z : Abs) (m : Matched) → by ≡ length js → under ≡ by + depth → MaySub depth (Sig.Fun e ks a x) (Sig.Fun d js b z) → EachMatch under b (raise_abs js (Abs.Ex ks a)) (Ok m) → MayPutUnder by ks x m.types
functor-may_put depth by under e d ks js a b x z m eb eu k h =
    let q = param-sides k.2 k.3 in
    (k.0, js, sym eb, k.2.1.1, match-normal (raise_abs js (Abs.Ex ks a)) q.1 (h (extend k.0 js) (extend-length k.0 js depth by under k.1 eb eu) q.0 q.1))

put-here : {ctx ks : List Kind} (js : List Kind) {by : ℕ} {e : Effect} {a b : Sig} {x y : Abs} {ts : List Ty} {f : Term} → by ≡ length js → OkSig ctx (Sig.Fun e ks a x) → OkRight (extend ctx js) (raise_abs js (Abs.Ex ks a)) → Match (extend ctx js) b (raise_abs js (Abs.Ex ks a)) ts f → EachPutUnder by ks x ts y → NormalAbsForm (extend ctx js) (abs_at_under js ts x) y
put-here {ctx} {ks} js {a = a} eb w u m p = p ctx js (sym eb) w.1.1 (match-normal (raise_abs js (Abs.Ex ks a)) u m)

refusing : (P : MatchRefusal → Type 0) (o : Option MatchRefusal) → Refusing o → Holds P o → (q : MatchRefusal) × P q
refusing P None r h = absurd r
refusing P (Some q) r h = (q, h)

pub into-refused : (depth by under : ℕ) (s r : Sig) (p : SigPath) (ks js : List Kind) (a b : Sig) (x z : Abs) (e : CodeRefusal) → Refusing (plain_refusal e) → s ≡ Sig.Fun Pure ks a x → r ≡ Sig.Fun Pure js b z → by ≡ length js → under ≡ by + depth → EachMatch under b (raise_abs js (Abs.Ex ks a)) (Err e) → EachLookInto depth s p r None
into-refused depth by under s r p ks js a b x z e re es er eb eu h = λ ctx c w v t f.
    let w' = subst (OkSig ctx) es w in
    let v' = subst (IsRightSig ctx) er v in
    let g = param-sides w' v' in
    let k = refusing (RefusesMatch (extend ctx js) b (raise_abs js (Abs.Ex ks a))) (plain_refusal e) re (h (extend ctx js) (extend-length ctx js depth by under c eb eu) g.0 g.1) in
    refused-looks w' v' k.1 (subst (λ y. Found ctx y (Item.Res ∷ p) (Sig.Fun Pure js b z) t) es (subst (λ y. Found ctx s (Item.Res ∷ p) y t) er f))

pub into-may_look : (depth by under : ℕ) (ks js : List Kind) (a b : Sig) (x z y : Abs) (m : Matched) → by ≡ length js → under ≡ by + depth → MaySub depth (Sig.Fun Pure ks a x) (Sig.Fun Pure js b z) → EachMatch under b (raise_abs js (Abs.Ex ks a)) (Ok m) → EachPutUnder by ks x m.types y → MayLook under (body_of y) [] (body_of z) []
into-may_look depth by under ks js a b x z y m eb eu k h p =
    let q = param-sides k.2 k.3 in
    let l = extend-length k.0 js depth by under k.1 eb eu in
    let f = h (extend k.0 js) l q.0 q.1 in
    (extend k.0 js, l, result-sides k.2 k.3 f (put-here js eb k.2 q.1 f p))

pub into-looks : (depth by under : ℕ) (s r : Sig) (p : SigPath) (ks js : List Kind) (a b : Sig) (x z y : Abs) (m : Matched) (o : Option Ty) → s ≡ Sig.Fun Pure ks a x → r ≡ Sig.Fun Pure js b z → by ≡ length js → under ≡ by + depth → EachMatch under b (raise_abs js (Abs.Ex ks a)) (Ok m) → EachPutUnder by ks x m.types y → EachLook under (body_of y) p [] (body_of z) [] o → EachLookInto depth s p r (lam_found js o)
into-looks depth by under s r p ks js a b x z y m o es er eb eu h g k = λ ctx c w v.
    let w' = subst (OkSig ctx) es w in
    let v' = subst (IsRightSig ctx) er v in
    let q = param-sides w' v' in
    let l = extend-length ctx js depth by under c eb eu in
    let f = h (extend ctx js) l q.0 q.1 in
    let n = put-here js eb w' q.1 f g in
    let sides = result-sides w' v' f n in
    subst (λ u. Looks ctx u (Item.Res ∷ p) r (lam_found js o)) (sym es) (subst (λ u. Looks ctx (Sig.Fun Pure ks a x) (Item.Res ∷ p) u (lam_found js o)) (sym er)
    (matched-looks p o w' v' f n (k (extend ctx js) l sides (body_of z) (nothing-put (extend ctx js) (body_of z) sides.1.1))))

pub may-functors : (depth : ℕ) (s r : Sig) (e d : Effect) (ks js : List Kind) (a b : Sig) (x z : Abs) → s ≡ Sig.Fun e ks a x → r ≡ Sig.Fun d js b z → MayLookInto depth s r → MaySub depth (Sig.Fun e ks a x) (Sig.Fun d js b z)
may-functors depth s r e d ks js a b x z es er m = (m.0, m.1, subst (OkSig m.0) es m.2, subst (IsRightSig m.0) er m.3)

-- the left result

-- param is the left parameter under by further variables
abbrev pub IsParam : ℕ → List Kind → Sig → Abs → Type 0
IsParam by ks a param = (js : List Kind) → length js ≡ by → param ≡ raise_abs js (Abs.Ex ks a)

param-is : (by under : ℕ) (ks js : List Kind) (a b : Sig) (param : Abs) (o : Result Matched CodeRefusal) → by ≡ length js → IsParam by ks a param → EachMatch under b param o → EachMatch under b (raise_abs js (Abs.Ex ks a)) o
param-is by under ks js a b param o eb ep k = subst (λ z. EachMatch under b z o) (ep js (sym eb)) k

depth-is : (depth by under : ℕ) (js : List Kind) → by ≡ length js → under ≡ by + depth → under ≡ length js + depth
depth-is depth by under js eb eu = eu ∙ ap (λ n. n + depth) eb

-- the right parameter may be matched against the left one, raised
pub param-may_match : (depth by under : ℕ) (e d : Effect) (ks js : List Kind) (a b : Sig) (x z param : Abs) → by ≡ length js → under ≡ by + depth → IsParam by ks a param → MaySub depth (Sig.Fun e ks a x) (Sig.Fun d js b z) → MayMatch under b param
param-may_match depth by under e d ks js a b x z param eb eu ep m = subst (MayMatch under b) (sym (ep js (sym eb))) (functor-may_match depth by under e d ks js a b x z eb eu m)

-- the types of that match may be put into the left result
pub param-may_put : (depth by under : ℕ) (e d : Effect) (ks js : List Kind) (a b : Sig) (x z param : Abs) (m : Matched) → by ≡ length js → under ≡ by + depth → IsParam by ks a param → MaySub depth (Sig.Fun e ks a x) (Sig.Fun d js b z) → EachMatch under b param (Ok m) → MayPutUnder by ks x m.types
param-may_put depth by under e d ks js a b x z param m eb eu ep k h = functor-may_put depth by under e d ks js a b x z m eb eu k (param-is by under ks js a b param (Ok m) eb ep h)

-- the left parameter, raised as a signature that hides its types, is larger by one
pub param-size : (by : ℕ) (ks js : List Kind) (a : Sig) (param : Abs) → by ≡ length js → IsParam by ks a param → size_abs param ≡ suc (size a)
param-size by ks js a param eb ep = ap size_abs (ep js (sym eb)) ∙ size_abs-rename (past js) (Abs.Ex ks a)

-- a match that was made is an answer of matching
pub if-matched : (under : ℕ) (b : Sig) (param : Abs) (o : Result Matched CodeRefusal) (m : Matched) → IfMatched o (Some m) → EachMatch under b param o → EachMatch under b param (Ok m)
if-matched under b param (Ok n) m h k = subst (λ z. EachMatch under b param (Ok z)) (let e : Some m ≡ Some n = h in cc) k
if-matched under b param (Err e) m h k = absurd (let f : Some m ≡ None = h.1 in cc)

-- where the parameters match, the target is the left result at the types of the match
pub target-made : (depth by under : ℕ) (ks js : List Kind) (a b : Sig) (x y param : Abs) (m : Matched) → by ≡ length js → under ≡ by + depth → IsParam by ks a param → EachMatch under b param (Ok m) → EachPutUnder by ks x m.types y → size_abs y ≡ size_abs x → IsTarget depth ks a x js b (Some y)
target-made depth by under ks js a b x y param m eb eu ep k p s =
    (m, subst (λ n. EachMatch n b (raise_abs js (Abs.Ex ks a)) (Ok m)) (depth-is depth by under js eb eu) (param-is by under ks js a b param (Ok m) eb ep k), subst (λ n. EachPutUnder n ks x m.types y) eb p, s)

-- where they do not match, there is no target
pub target-refused : (depth by under : ℕ) (ks js : List Kind) (a b : Sig) (x param : Abs) (o : Result Matched CodeRefusal) → by ≡ length js → under ≡ by + depth → IsParam by ks a param → IfMatched o None → EachMatch under b param o → IsTarget depth ks a x js b None
target-refused depth by under ks js a b x param (Ok m) eb eu ep h k = absurd (let f : None ≡ Some m = h in cc)
target-refused depth by under ks js a b x param (Err e) eb eu ep h k =
    (e, h.0, subst (λ n. EachMatch n b (raise_abs js (Abs.Ex ks a)) (Err e)) (depth-is depth by under js eb eu) (param-is by under ks js a b param (Err e) eb ep k))

-- nothing is found along a result that has no target
pub target-none : (depth : ℕ) (p : SigPath) (ks js : List Kind) (a b : Sig) (x z : Abs) → IsTarget depth ks a x js b None → EachLookInto depth (Sig.Fun Pure ks a x) p (Sig.Fun Pure js b z) None
target-none depth p ks js a b x z t = into-refused depth (length js) (length js + depth) (Sig.Fun Pure ks a x) (Sig.Fun Pure js b z) p ks js a b x z t.0 t.1 refl refl refl refl t.2

target-match : (depth under : ℕ) (ks js : List Kind) (a b : Sig) (x y : Abs) → under ≡ length js + depth → (t : IsTarget depth ks a x js b (Some y)) → EachMatch under b (raise_abs js (Abs.Ex ks a)) (Ok t.0)
target-match depth under ks js a b x y eu t = subst (λ n. EachMatch n b (raise_abs js (Abs.Ex ks a)) (Ok t.0)) (sym eu) t.1

-- looking up may go on from the target to the right result
pub target-may_look : (depth under : ℕ) (ks js es : List Kind) (a b from to : Sig) (x z y : Abs) (ts : List Ty) → under ≡ length js + depth → from ≡ body_of y → to ≡ body_of z → es ≡ [] → ts ≡ [] → MaySub depth (Sig.Fun Pure ks a x) (Sig.Fun Pure js b z) → IsTarget depth ks a x js b (Some y) → MayLook under from es to ts
target-may_look depth under ks js es a b from to x z y ts eu ef et ee es' k t =
    subst (λ s. MayLook under s es to ts) (sym ef) (subst (λ s. MayLook under (body_of y) es s ts) (sym et) (subst (λ s. MayLook under (body_of y) s (body_of z) ts) (sym ee) (subst (λ s. MayLook under (body_of y) [] (body_of z) s) (sym es')
    (into-may_look depth (length js) under ks js a b x z y t.0 refl eu k (target-match depth under ks js a b x y eu t) t.2))))

-- what is found in the target is found along the result, as an operator over the right parameter's types
pub target-looks : (depth under : ℕ) (p : SigPath) (ks js es : List Kind) (a b from to : Sig) (x z y : Abs) (ts : List Ty) (o : Option Ty) → under ≡ length js + depth → from ≡ body_of y → to ≡ body_of z → es ≡ [] → ts ≡ [] → IsTarget depth ks a x js b (Some y) → EachLook under from p es to ts o → EachLookInto depth (Sig.Fun Pure ks a x) p (Sig.Fun Pure js b z) (lam_found js o)
target-looks depth under p ks js es a b from to x z y ts o eu ef et ee es' t k =
    into-looks depth (length js) under (Sig.Fun Pure ks a x) (Sig.Fun Pure js b z) p ks js a b x z y t.0 o refl refl refl eu (target-match depth under ks js a b x y eu t) t.2
    (subst (λ s. EachLook under (body_of y) p [] (body_of z) s o) es' (subst (λ s. EachLook under (body_of y) p s (body_of z) ts o) ee (subst (λ s. EachLook under (body_of y) p es s ts o) et (subst (λ s. EachLook under s p es to ts o) ef k))))

-- sides that are pure functors may be compared as such
pub pure-sides : (depth : ℕ) (s r : Sig) (e d : Effect) (ks js : List Kind) (a b : Sig) (x z : Abs) → s ≡ Sig.Fun e ks a x → r ≡ Sig.Fun d js b z → (e ≡ Pure) × (d ≡ Pure) → MayLookInto depth s r → MaySub depth (Sig.Fun Pure ks a x) (Sig.Fun Pure js b z)
pure-sides depth s r e d ks js a b x z es er h m =
    subst (λ f. MaySub depth (Sig.Fun f ks a x) (Sig.Fun Pure js b z)) h.0 (subst (λ f. MaySub depth (Sig.Fun e ks a x) (Sig.Fun f js b z)) h.1 (may-functors depth s r e d ks js a b x z es er m))

-- what is found in pure functors is found in the sides that are these functors
pub pure-looks : (depth : ℕ) (s r : Sig) (p : SigPath) (e d : Effect) (ks js : List Kind) (a b : Sig) (x z : Abs) (o : Option Ty) → s ≡ Sig.Fun e ks a x → r ≡ Sig.Fun d js b z → (e ≡ Pure) × (d ≡ Pure) → EachLookInto depth (Sig.Fun Pure ks a x) p (Sig.Fun Pure js b z) o → EachLookInto depth s p r o
pure-looks depth s r p e d ks js a b x z o es er h k =
    subst (λ f. EachLookInto depth f p r o) (sym (es ∙ ap (λ f. Sig.Fun f ks a x) h.0)) (subst (λ f. EachLookInto depth (Sig.Fun Pure ks a x) p f o) (sym (er ∙ ap (λ f. Sig.Fun f js b z) h.1)) k)

-- functors in subtyping

-- the match of the parameters, which are param and b
pub inner-is : (depth by under : ℕ) (ks js : List Kind) (a b : Sig) (param : Abs) (m : Matched) → by ≡ length js → under ≡ by + depth → IsParam by ks a param → EachMatch under b param (Ok m) → EachMatch (length js + depth) b (raise_abs js (Abs.Ex ks a)) (Ok m)
inner-is depth by under ks js a b param m eb eu ep k = subst (λ n. EachMatch n b (raise_abs js (Abs.Ex ks a)) (Ok m)) (depth-is depth by under js eb eu) (param-is by under ks js a b param (Ok m) eb ep k)

-- the match of the parameters, as the code counts the variables around it
pub inner-at : (depth by under : ℕ) (ks js : List Kind) (a b : Sig) (m : Matched) → by ≡ length js → under ≡ by + depth → EachMatch (length js + depth) b (raise_abs js (Abs.Ex ks a)) (Ok m) → EachMatch under b (raise_abs js (Abs.Ex ks a)) (Ok m)
inner-at depth by under ks js a b m eb eu k = subst (λ n. EachMatch n b (raise_abs js (Abs.Ex ks a)) (Ok m)) (sym (depth-is depth by under js eb eu)) k

-- an impure functor for a pure one is refused as a clash of effects
pub functor-effects : (depth : ℕ) (e d : Effect) (ks js : List Kind) (a b : Sig) (x z : Abs) → (e ≡ Impure) × (d ≡ Pure) → (ctx : List Kind) → RefusesSub ctx (Sig.Fun e ks a x) (Sig.Fun d js b z) (clash ctx Effects)
functor-effects depth e d ks js a b x z h ctx = effects-clash ctx ks js e d a b x z h

pub functor-arg : (depth by under : ℕ) (e d : Effect) (ks js : List Kind) (a b : Sig) (x z : Abs) (q g : CodeRefusal) → ((e ≡ Impure) × (d ≡ Pure) → ⊥) → by ≡ length js → under ≡ by + depth → EachMatch under b (raise_abs js (Abs.Ex ks a)) (Err q) → Gives (inside Item.Arg (plain_refusal q)) (plain_refusal g) → EachSub depth (Sig.Fun e ks a x) (Sig.Fun d js b z) (Err g)
functor-arg depth by under e d ks js a b x z q g h eb eu k gi = λ ctx c w v.
    let s = param-sides w v in
    param-no ctx ks js e d a b x z (plain_refusal q) (plain_refusal g) h gi (k (extend ctx js) (extend-length ctx js depth by under c eb eu) s.0 s.1)

-- a functor is refused, inside of its parameter, as the match of the parameters
pub arg-refused : (depth by under : ℕ) (e d : Effect) (ks js : List Kind) (a b : Sig) (x z param : Abs) (q g : CodeRefusal) → ((e ≡ Impure) × (d ≡ Pure) → ⊥) → by ≡ length js → under ≡ by + depth → IsParam by ks a param → EachMatch under b param (Err q) → Gives (inside Item.Arg (plain_refusal q)) (plain_refusal g) → EachSub depth (Sig.Fun e ks a x) (Sig.Fun d js b z) (Err g)
arg-refused depth by under e d ks js a b x z param q g h eb eu ep k gi = functor-arg depth by under e d ks js a b x z q g h eb eu (param-is by under ks js a b param (Err q) eb ep k) gi

-- the result at the types of the match may be compared with the right result
pub functor-may_result : (depth by under : ℕ) (e d : Effect) (ks js : List Kind) (a b : Sig) (x z y : Abs) (m : Matched) → ((e ≡ Impure) × (d ≡ Pure) → ⊥) → by ≡ length js → under ≡ by + depth → MaySub depth (Sig.Fun e ks a x) (Sig.Fun d js b z) → EachMatch under b (raise_abs js (Abs.Ex ks a)) (Ok m) → EachPutUnder by ks x m.types y → MayResult under d y z
functor-may_result depth by under e d ks js a b x z y m h eb eu k f p =
    let q = param-sides k.2 k.3 in
    let l = extend-length k.0 js depth by under k.1 eb eu in
    let g = f (extend k.0 js) l q.0 q.1 in
    (extend k.0 js, l, result_sides e d h k.2 k.3 g (put-here js eb k.2 q.1 g p))

-- a functor is refused, inside of its result, as the comparison of the results
pub functor-res : (depth by under : ℕ) (e d : Effect) (ks js : List Kind) (a b : Sig) (x z y : Abs) (m : Matched) (q g : CodeRefusal) → ((e ≡ Impure) × (d ≡ Pure) → ⊥) → by ≡ length js → under ≡ by + depth → EachMatch under b (raise_abs js (Abs.Ex ks a)) (Ok m) → EachPutUnder by ks x m.types y → EachResult under d y z (Err q) → Gives (inside Item.Res (plain_refusal q)) (plain_refusal g) → EachSub depth (Sig.Fun e ks a x) (Sig.Fun d js b z) (Err g)
functor-res depth by under e d ks js a b x z y m q g h eb eu f p k gi = λ ctx c w v.
    let s = param-sides w v in
    let l = extend-length ctx js depth by under c eb eu in
    let u = f (extend ctx js) l s.0 s.1 in
    let n = put-here js eb w s.1 u p in
    outer-no ctx ks js e d a b x y z m.types m.coercion (plain_refusal q) (plain_refusal g) h w v u n gi (result-holds (extend ctx js) y z d (k (extend ctx js) l (result_sides e d h w v u n)))
  where
    result-holds : (ctx : List Kind) (y z : Abs) (d : Effect) → ResultGives ctx d y z (Err q) → ResultHolds ctx d y z (plain_refusal q)
    result-holds ctx y z Impure k = k
    result-holds ctx y z Pure k = k

-- functors are in order by the match of the parameters and the coercion of the results
pub functor-ok : (depth by under : ℕ) (e d : Effect) (ks js : List Kind) (a b : Sig) (x z y : Abs) (m : Matched) (g : Term) (from : Ty) (o : Term) → ((e ≡ Impure) × (d ≡ Pure) → ⊥) → by ≡ length js → under ≡ by + depth → from ≡ enc (Sig.Fun e ks a x) → EachMatch under b (raise_abs js (Abs.Ex ks a)) (Ok m) → EachPutUnder by ks x m.types y → EachResult under d y z (Ok g) → o ≡ functor_part from e d js (enc b) m.types m.coercion g → EachSub depth (Sig.Fun e ks a x) (Sig.Fun d js b z) (Ok o)
functor-ok depth by under e d ks js a b x z y m g from o h eb eu ef f p k eo = λ ctx c w v.
    let s = param-sides w v in
    let l = extend-length ctx js depth by under c eb eu in
    let u = f (extend ctx js) l s.0 s.1 in
    let n = put-here js eb w s.1 u p in
    functor-same ctx ks js e d a b x y z m.types m.coercion g from o h w v u n (k (extend ctx js) l (result_sides e d h w v u n)) ef eo

-- by the form of the left side

-- an answer of subtyping is one for equal sides
pub each-sub : (depth : ℕ) (s r a b : Sig) (o : Result Term CodeRefusal) → s ≡ a → r ≡ b → EachSub depth a b o → EachSub depth s r o
each-sub depth s r a b o e f k = subst (λ z. EachSub depth z r o) (sym e) (subst (λ z. EachSub depth a z o) (sym f) k)

-- sides that are equal to comparable ones may be compared
pub may-sub : (depth : ℕ) (s r a b : Sig) → s ≡ a → r ≡ b → MaySub depth s r → MaySub depth a b
may-sub depth s r a b e f m = subst (λ z. MaySub depth z b) e (subst (λ z. MaySub depth s z) f m)

-- an answer of subtyping, given for a left side of one form
pub each-plain : (depth : ℕ) (s a r : Sig) (o : Result Term CodeRefusal) → s ≡ a → ((ctx : List Kind) → length ctx ≡ depth → SubGives ctx a r o) → EachSub depth s r o
each-plain depth s a r o e k = λ ctx c w v. subst (λ z. SubGives ctx z r o) (sym e) (k ctx c)

-- sides of different forms are refused as a clash of forms
pub each-form : (depth : ℕ) (s a r : Sig) (e : CodeRefusal) → s ≡ a → plain_refusal e ≡ Some (Clash depth [] Form) → ((ctx : List Kind) → RefusesSub ctx a r (clash ctx Form)) → EachSub depth s r (Err e)
each-form depth s a r e es ee k = λ ctx c w v. subst (λ z. SubGives ctx z r (Err e)) (sym es) (clashed (RefusesSub ctx a r) ctx depth Form (plain_refusal e) c ee (k ctx))

-- the results of functors

-- the results of pure functors may be compared by their bodies
pub result-may_pure : (depth : ℕ) (d : Effect) (x y : Abs) (s r : Sig) → d ≡ Pure → s ≡ body_of x → r ≡ body_of y → MayResult depth d x y → MaySub depth s r
result-may_pure depth Pure x y s r e es er m = subst (λ z. MaySub depth z r) (sym es) (subst (λ z. MaySub depth (body_of x) z) (sym er) (m.0, m.1, m.2.0, m.2.1))
result-may_pure depth Impure x y s r e es er m = absurd (let f : Impure ≡ Pure = e in cc)

-- the results of pure functors are compared by their bodies
pub result-pure : (depth : ℕ) (d : Effect) (x y : Abs) (s r : Sig) (o : Result Term CodeRefusal) → d ≡ Pure → s ≡ body_of x → r ≡ body_of y → EachSub depth s r o → EachResult depth d x y o
result-pure depth Pure x y s r o e es er k = λ ctx l v. subst (λ z. EachSub depth z (body_of y) o) es (subst (λ z. EachSub depth s z o) er k) ctx l v.0 v.1
result-pure depth Impure x y s r o e es er k = absurd (let f : Impure ≡ Pure = e in cc)

-- the results of impure functors may be compared with the types that they hide
pub result-may_impure : (depth : ℕ) (d : Effect) (x y : Abs) → d ≡ Impure → MayResult depth d x y → MaySubAbs depth x y
result-may_impure depth Impure x y e m = (m.0, m.1, m.2.0, m.2.1)
result-may_impure depth Pure x y e m = absurd (let f : Pure ≡ Impure = e in cc)

-- the results of impure functors are compared with the types that they hide
pub result-impure : (depth : ℕ) (d : Effect) (x y : Abs) (o : Result Term CodeRefusal) → d ≡ Impure → EachSubAbs depth x y o → EachResult depth d x y o
result-impure depth Impure x y o e k = λ ctx l v. k ctx l v.0 v.1
result-impure depth Pure x y o e k = absurd (let f : Pure ≡ Impure = e in cc)

-- signature parts

-- signature parts may be compared from left to right
pub meta-first : (depth : ℕ) (x y : Abs) → MaySub depth (Sig.Meta x) (Sig.Meta y) → MaySubAbs depth x y
meta-first depth x y m = let q = meta-there m.2 m.3 in (m.0, m.1, q.0, q.1)

-- signature parts may be compared from right to left
pub meta-second : (depth : ℕ) (x y : Abs) → MaySub depth (Sig.Meta x) (Sig.Meta y) → MaySubAbs depth y x
meta-second depth x y m = let q = meta-back m.2 m.3 in (m.0, m.1, q.0, q.1)

-- signature parts are refused as the comparison from left to right
pub meta-refused : (depth : ℕ) (x y : Abs) (q g : CodeRefusal) → EachSubAbs depth x y (Err q) → Gives (inside Item.Meta (plain_refusal q)) (plain_refusal g) → EachSub depth (Sig.Meta x) (Sig.Meta y) (Err g)
meta-refused depth x y q g k gi = λ ctx c w v.
    let s = meta-there w v in
    holds-within (RefusesSubAbs ctx x y) (RefusesSub ctx (Sig.Meta x) (Sig.Meta y)) Item.Meta (plain_refusal q) (plain_refusal g) gi (λ p r. RefusesSub.meta_first r) (k ctx c s.0 s.1)

-- signature parts in order from left to right are refused as the comparison from right to left
pub meta-refused_back : (depth : ℕ) (x y : Abs) (f : Term) (q g : CodeRefusal) → EachSubAbs depth x y (Ok f) → EachSubAbs depth y x (Err q) → Gives (inside Item.Meta (plain_refusal q)) (plain_refusal g) → EachSub depth (Sig.Meta x) (Sig.Meta y) (Err g)
meta-refused_back depth x y f q g h k gi = λ ctx c w v.
    let s = meta-there w v in
    let b = meta-back w v in
    holds-within (RefusesSubAbs ctx y x) (RefusesSub ctx (Sig.Meta x) (Sig.Meta y)) Item.Meta (plain_refusal q) (plain_refusal g) gi (λ p r. RefusesSub.meta_second (h ctx c s.0 s.1) r) (k ctx c b.0 b.1)

-- signature parts are in order if both comparisons are
pub meta-ok : (depth : ℕ) (x y : Abs) (f g e : Term) (from to : Ty) → from ≡ enc (Sig.Meta x) → to ≡ enc_abs y → EachSubAbs depth x y (Ok f) → EachSubAbs depth y x (Ok g) → e ≡ meta_part from to → EachSub depth (Sig.Meta x) (Sig.Meta y) (Ok e)
meta-ok depth x y f g e from to ef et h k ee = λ ctx c w v.
    let s = meta-there w v in
    let b = meta-back w v in
    meta-same ctx x y f g e from to ef et (h ctx c s.0 s.1) (k ctx c b.0 b.1) ee

-- and signature parts of one encoding need no comparison
meta-equal : (depth : ℕ) (x y : Abs) (e : Term) (from to : Ty) → enc_abs x ≡ enc_abs y → from ≡ enc (Sig.Meta x) → to ≡ enc_abs y → e ≡ meta_part from to →
    EachSub depth (Sig.Meta x) (Sig.Meta y) (Ok e)
meta-equal depth x y e from to s ef et ee = λ ctx c w v.
    subst (Sub ctx (Sig.Meta x) (Sig.Meta y)) (sym (ee ∙ ap₂ meta_part ef et)) (part_gives ctx x y w s)

-- signature parts that have one encoding, or one norm, are below each other by the coercion that the encodings give
pub meta-alike : (depth : ℕ) (x y : Abs) (e : Term) (from to : Ty) → AreAlike x y → from ≡ enc (Sig.Meta x) → to ≡ enc_abs y → e ≡ meta_part from to →
    EachSub depth (Sig.Meta x) (Sig.Meta y) (Ok e)
meta-alike depth x y e from to (inl s) ef et ee = meta-equal depth x y e from to s ef et ee
meta-alike depth x y e from to (inr o) ef et ee = λ ctx c w v.
    let q = meta-there w v in
    let p = good-meta w in
    subst (Sub ctx (Sig.Meta x) (Sig.Meta y)) (sym (ee ∙ ap₂ meta_part ef et)) (part_of_one_norm ctx x y o.0 p q.1 (o.1 ctx p) (o.2 ctx q.1))

-- fields

-- a field of the left structure may be compared with the right one of its name
pub field-left : (depth : ℕ) (fs : SigRow) (l : Name) (s r : Sig) → HasField fs l s → MaySub depth (Sig.Str fs) r → MaySub depth s r
field-left depth fs l s r h m = (m.0, m.1, good-left_field m.2 h, m.3)

-- a right field is in order by the coercion of the left field of its name
pub field-ok : (depth : ℕ) (fs : SigRow) (l : Name) (s r : Sig) (f : Term) → HasField fs l s → EachSub depth s r (Ok f) → EachField depth fs l r (Ok f)
field-ok depth fs l s r f h k = λ ctx c w v. (s, h, k ctx c (good-left_field w h) v)

-- a right field is refused, inside of its name, as the comparison with the left one
pub field-no : (depth : ℕ) (fs : SigRow) (l : Name) (s r : Sig) (q g : CodeRefusal) → HasField fs l s → EachSub depth s r (Err q) → Gives (inside (Item.Part l) (plain_refusal q)) (plain_refusal g) → EachField depth fs l r (Err g)
field-no depth fs l s r q g h k gi = λ ctx c w v gs.
    holds-within (RefusesSub ctx s r) (RefusesFields ctx fs (SigRow.More l r gs)) (Item.Part l) (plain_refusal q) (plain_refusal g) gi (λ p d. RefusesFields.at_field h d) (k ctx c (good-left_field w h) v)

-- a right field is refused as missing where the left structure lacks its name
pub field-missing : (depth : ℕ) (fs : SigRow) (l : Name) (r : Sig) (q g : CodeRefusal) → NoField l fs → plain_refusal q ≡ Some (Clash depth [] Missing) → Gives (inside (Item.Part l) (plain_refusal q)) (plain_refusal g) → EachField depth fs l r (Err g)
field-missing depth fs l r q g n eq gi = λ ctx c w v gs.
    holds-given (RefusesFields ctx fs (SigRow.More l r gs)) (Some (within (Item.Part l) (clash ctx Missing))) (plain_refusal g)
    (subst (λ o. Gives o (plain_refusal g)) (ap (inside (Item.Part l)) eq ∙ ap (λ d. Some (within (Item.Part l) (Clash d [] Missing))) (sym c)) gi) (RefusesFields.missing n)

-- the coercions of the first right fields, in each context of this depth
abbrev pub EachParts : ℕ → SigPairs → SigRow → ℕ → TermPairs → Type 0
EachParts depth xs fs i parts = (ctx : List Kind) → length ctx ≡ depth → OkSig ctx (Sig.Str fs) → IsRightSig ctx (Sig.Str (sig_row xs)) → Parts ctx fs (take i xs) parts × ((q : MatchRefusal) → RefusesFields ctx fs (sig_row (drop i xs)) q → RefusesFields ctx fs (sig_row xs) q)

-- before the first field is compared, there are no coercions
pub parts-none : (depth : ℕ) (xs : SigPairs) (fs : SigRow) → EachParts depth xs fs 0 []
parts-none depth [] fs = λ ctx c w v. (Parts.none, λ q r. r)
parts-none depth (x ∷ xs) fs = λ ctx c w v. (Parts.none, λ q r. r)

-- the left structure may be compared with each field on the right
pub item-may_sub : (depth : ℕ) (fs : SigRow) (xs : SigPairs) (i : ℕ) (x : Name × Sig) → i < length xs → x ≡ get_or xs i x → MaySub depth (Sig.Str fs) (Sig.Str (sig_row xs)) → MaySub depth (Sig.Str fs) x.1
item-may_sub depth fs xs i x lt e m = (m.0, m.1, m.2, item-right xs i x lt e m.3)

-- with one more field in order, there is one more coercion
pub each-parts : (depth : ℕ) (fs : SigRow) (xs : SigPairs) (ps done : TermPairs) (i : ℕ) (x : Name × Sig) (l : Name) (f : Term) → i < length xs → x ≡ get_or xs i x → l ≡ x.0 → done ≡ ps ++ ((Label.Name l, f) ∷ []) → EachField depth fs x.0 x.1 (Ok f) → EachParts depth xs fs i ps → EachParts depth xs fs (i + 1) done
each-parts depth fs xs ps done i x l f lt e el ed k h = λ ctx c w v.
    let z = k ctx c w (item-right xs i x lt e v) in
    let p = h ctx c w v in
    (parts-next ctx fs xs ps done i x l f lt e el ed z p.0, λ q r. p.1 q (field-later ctx fs xs i x f q lt e z r))

-- structures are refused as the first right field that is
pub parts-refused : (depth : ℕ) (fs : SigRow) (xs : SigPairs) (ps : TermPairs) (i : ℕ) (x : Name × Sig) (q : CodeRefusal) → i < length xs → x ≡ get_or xs i x → EachField depth fs x.0 x.1 (Err q) → EachParts depth xs fs i ps → EachSub depth (Sig.Str fs) (Sig.Str (sig_row xs)) (Err q)
parts-refused depth fs xs ps i x q lt e k h = λ ctx c w v.
    let z = k ctx c w (item-right xs i x lt e v) in
    holds-map (RefusesFields ctx fs (sig_row xs)) (RefusesSub ctx (Sig.Str fs) (Sig.Str (sig_row xs))) (plain_refusal q) (λ p r. RefusesSub.structures r)
    (holds-map (RefusesFields ctx fs (sig_row (drop i xs))) (RefusesFields ctx fs (sig_row xs)) (plain_refusal q) ((h ctx c w v).1) (field-refused ctx fs xs i x (plain_refusal q) lt e z))

-- structures are in order if all right fields are
pub parts-same : (depth : ℕ) (fs : SigRow) (xs : SigPairs) (ps : TermPairs) (i : ℕ) (from : Ty) (e : Term) → length xs ≤ i → from ≡ enc (Sig.Str fs) → e ≡ fields_part from (term_row ps) → EachParts depth xs fs i ps → EachSub depth (Sig.Str fs) (Sig.Str (sig_row xs)) (Ok e)
parts-same depth fs xs ps i from e le ef ee h = λ ctx c w v. fields-same ctx fs xs ps i from e le ef ee (h ctx c w v).0

-- signatures that may hide types

-- the bodies of signatures that hide types may be matched under the left types
pub abs-may : (depth by under : ℕ) (x y raised : Abs) → by ≡ length (kinds_of x) → under ≡ by + depth → raised ≡ raise_abs (kinds_of x) y → MaySubAbs depth x y → MayMatch under (body_of x) raised
abs-may depth by under x y raised eb eu er m =
    let q = abs-under x y m.2 m.3 in
    (extend m.0 (kinds_of x), extend-length m.0 (kinds_of x) depth by under m.1 eb eu, q.0, subst (OkRight (extend m.0 (kinds_of x))) (sym er) q.1)

-- signatures that hide types are refused as the match under the left types
pub abs-refused : (depth by under : ℕ) (x y raised : Abs) (q : CodeRefusal) → by ≡ length (kinds_of x) → under ≡ by + depth → raised ≡ raise_abs (kinds_of x) y → EachMatch under (body_of x) raised (Err q) → EachSubAbs depth x y (Err q)
abs-refused depth by under x y raised q eb eu er k = λ ctx c w v.
    let s = abs-under x y w v in
    abs-no ctx x y (plain_refusal q) (subst (λ z. EachMatch under (body_of x) z (Err q)) er k (extend ctx (kinds_of x)) (extend-length ctx (kinds_of x) depth by under c eb eu) s.0 s.1)

-- signatures that hide types are in order by the match under the left types, which opens these and packs the right ones
pub abs-ok : (depth by under : ℕ) (x y raised : Abs) (m : Matched) (o : Term) → by ≡ length (kinds_of x) → under ≡ by + depth → raised ≡ raise_abs (kinds_of x) y → EachMatch under (body_of x) raised (Ok m) → IsAbsCoercion x m.types m.coercion (enc_abs raised) o → EachSubAbs depth x y (Ok o)
abs-ok depth by under x y raised m o eb eu er k i = λ ctx c w v.
    let s = abs-under x y w v in
    abs-same ctx x y m.types m.coercion o v s.1
    (subst (λ z. EachMatch under (body_of x) z (Ok m)) er k (extend ctx (kinds_of x)) (extend-length ctx (kinds_of x) depth by under c eb eu) s.0 s.1)
    (subst (λ z. IsAbsCoercion x m.types m.coercion (enc_abs z) o) er i)
