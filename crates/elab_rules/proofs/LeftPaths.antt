-- Where a path leaves the structures of a signature, and the place of the refusal of a fixed type.
-- Main results: by-where, left-next.
use Rattle.std.proofs.Common.{◌≡◌, ◌<◌, ◌≤◌, length, get_or, map, List, [], ◌∷◌, Option, Some, None, IfSome, refl, sym, ap, ◌∙◌, subst, subst₂}
use Rattle.std.specs.Option.{option_map}
use Rattle.omega_kinds.specs.Kind.{Kind}
use Rattle.omega_kinds.specs.Name.{Name}
use Rattle.omega_types.specs.Ty.{Ty}
use Rattle.sig_definitions.specs.Env.{Env}
use Rattle.sig_definitions.specs.Signatures.Sig.{Sig, Abs, SigRow, HasField}
use Rattle.semantic_sigs.specs.Inner.View.{body_of, kinds_of}
use Rattle.fing_syntax.specs.Phrase.{Span, SpanName, TyEx}
use Rattle.fing_syntax.specs.Place.{name_of, name_span, ty_span}
use Rattle.fing_syntax.specs.Inner.Leaves.{place, spelled}
use Rattle.fing_syntax.specs.declared.leaf.SpanName.{SpanName as NameAt}
use Rattle.refusal_reasons.specs.Refusal.{ElabWhy}
use Rattle.sig_judgments.specs.Refinement.{Lacks, LeavesAt}
use Rattle.sig_judgments.specs.SigRules.{WhereRefuses}
use Rattle.sig_judgments.specs.SigWhy.{SigWhy}
use Rattle.sig_rules.specs.Inner.Hidden.{IsAt}
use Rattle.elab_judgments.specs.Operators.{names_of}
use Rattle.elab_judgments.specs.Refusals.Refusal.{of_sig, refuse}
use Rattle.elab_judgments.specs.Refusals.Steps.{WhereAt}
use Rattle.fing_refusals.specs.declared.refusal.Refusal.{Refusal as CodeRefusal}
use Rattle.sig_laws.proofs.Algebra.PathLaws.{no-field, one-field}
use Rattle.elab_rules.specs.Inner.Answered.{Placed, ByWhere}
use Rattle.elab_rules.specs.Inner.Leaving.{LeftAt, StandsAt}
use Rattle.elab_rules.proofs.Placing.{says-map}
use Rattle.elab_rules.proofs.Slices.{empty, first-rest, rest-of}

lacks-none : {s t : Sig} {l : Name} → IsAt s l t → Lacks s l → ⊥
lacks-none {l = l} p n = no-field p.0 (subst (λ u. Lacks u l) p.1 n) p.2

same-part : {fs : SigRow} {s t : Sig} {l : Name} → HasField fs l s → IsAt (Sig.Str fs) l t → HasField fs l t × (s ≡ t)
same-part {fs} {t = t} {l = l} h p =
    let e : p.0 ≡ fs = str-same (sym p.1) in
    let g : HasField fs l t = subst (λ gs. HasField gs l t) e p.2 in
    (g, one-field h g refl)
  where
    str-same : {fs gs : SigRow} → Sig.Str fs ≡ Sig.Str gs → fs ≡ gs
    str-same e = cc

-- the name of the path at which it leaves
abbrev Leaving : Sig → List SpanName → Name → Span → Type 0
Leaving s path l at = (x : SpanName) × LeavesAt name_of s path x × (name_of x ≡ l) × (at ≡ name_span x)

lacking : {s : Sig} {l : Name} (z : SpanName) (path : List SpanName) → Lacks s (name_of z) → LeavesAt (λ m. m) s (names_of (z ∷ path)) l → Leaving s (z ∷ path) l (name_span z)
lacking z path n (LeavesAt.here m) = (z, LeavesAt.here n, refl, refl)
lacking z path n (LeavesAt.there f h) = absurd (no-field _ n f)

further : {s t : Sig} {l : Name} {at : Span} (z y : SpanName) (path : List SpanName) → IsAt s (name_of z) t → LeftAt t (y ∷ path) at → LeavesAt (λ m. m) s (names_of (z ∷ y ∷ path)) l → Leaving s (z ∷ y ∷ path) l at
further z y path p left (LeavesAt.here m) = absurd (lacks-none p m)
further {l = l} z y path p left (LeavesAt.there f h) =
    let q = same-part f p in
    let v = left l (subst (λ u. LeavesAt (λ m. m) u (names_of (y ∷ path)) l) q.1 h) in
    (v.0, LeavesAt.there q.0 v.1, v.2, v.3)

never : {s t : Sig} {l : Name} {at : Span} (z : SpanName) → IsAt s (name_of z) t → LeavesAt (λ m. m) s (names_of (z ∷ [])) l → Leaving s (z ∷ []) l at
never z p (LeavesAt.here m) = absurd (lacks-none p m)
never z p (LeavesAt.there f h) = elim h [ ]

-- a path leaves a signature that lacks its first name at this name
pub left-here : (s : Sig) (z : SpanName) (path : List SpanName) → Lacks s (name_of z) → LeftAt s (z ∷ path) (name_span z)
left-here s z path n = λ l h. lacking z path n h

pub left-further : (s t : Sig) (z y : SpanName) (path : List SpanName) (at : Span) → IsAt s (name_of z) t → LeftAt t (y ∷ path) at → LeftAt s (z ∷ y ∷ path) at
left-further s t z y path at p left = λ l h. further z y path p left h

pub left-never : (s t : Sig) (z : SpanName) (at : Span) → IsAt s (name_of z) t → LeftAt s (z ∷ []) at
left-never s t z at p = λ l h. never z p h

-- the same, by what the code knows

abbrev Left : Sig → NameAt → List NameAt → Span → Type 0
Left s z rest at = LeftAt s (spelled z ∷ map spelled rest) at

-- a path of one name that is in the signature leaves it nowhere
pub left-last : (s t : Sig) (z : NameAt) (rest : List NameAt) → length rest < 1 → IsAt s z.name t → LeftAt s (spelled z ∷ map spelled rest) (place z.span)
left-last s t z rest h p = subst (λ (r : List NameAt). Left s z r (place z.span)) (sym (empty rest h)) (left-never s t (spelled z) (place z.span) p)

-- where a path leaves the part of its first name, it leaves the whole signature
pub left-next : (s t : Sig) (z y : NameAt) (rest : List NameAt) (at : Span) → 1 ≤ length rest → y ≡ get_or rest 0 y → IsAt s z.name t → LeftAt t (spelled y ∷ map spelled (rest-of rest)) at → LeftAt s (spelled z ∷ map spelled rest) at
left-next s t z y rest at h e p left = subst (λ (r : List NameAt). Left s z r at) (sym (first-rest rest y h e)) (left-further s t (spelled z) (spelled y) (map spelled (rest-of rest)) at p left)

-- the place of the refusal of a fixed type

stands : {ks : List Kind} {s : Sig} {z : SpanName} {path : List SpanName} {b : TyEx} {t : Ty} {k : Kind} {why : SigWhy} {at of : Span} → WhereRefuses (Abs.Ex ks s) (names_of (z ∷ path)) t k why → of ≡ ty_span b → StandsAt s z path of why at → WhereAt s z path b why at
stands {s = s} {z} {path} {b} (WhereRefuses.leaves {l = l} h) e w = let v = w l h in subst₂ (λ m p. WhereAt s z path b (SigWhy.NoPart m) p) v.2 (sym v.3) (WhereAt.at_name v.1)
stands {s = s} {z} {path} {b} {why = why} (WhereRefuses.not_own h n) e w = subst (λ p. WhereAt s z path b why p) (sym w) WhereAt.at_path
stands {s = s} {z} {path} {b} {why = why} (WhereRefuses.kind before after d h n) e w = subst (λ p. WhereAt s z path b why p) (sym (w ∙ e)) WhereAt.at_type

by-place : (o : Option SigWhy) (g : Env) (x : Abs) (z : SpanName) (path : List SpanName) (b : TyEx) (t : Ty) (k : Kind) (at of : Span) (e : CodeRefusal)
    → IfSome o (WhereRefuses x (names_of (z ∷ path)) t k)
    → of ≡ ty_span b
    → IfSome o (λ w. StandsAt (body_of x) z path of w at)
    → Placed g at (option_map of_sig o) e
    → ByWhere g (kinds_of x) (body_of x) z path b t k e
by-place None g x z path b t k at of e w f s p = record { stands = says-map e (λ r q. absurd (never-some q.1)) p.stands }
  where
    never-some : {w : ElabWhy} → ◌≡◌ {A = Option ElabWhy} None (Some w) → ⊥
    never-some e = cc
by-place (Some why) g (Abs.Ex ks s) z path b t k at of e w f st p = record { stands = says-map e (λ r q. (why, w, (at, stands w f st, q.2 ∙ ap (refuse g at) (some-is q.1)))) p.stands }
  where
    some-is : {v w : ElabWhy} → Some v ≡ Some w → w ≡ v
    some-is e = cc

-- the reason of a fixed type, at its place, is a refusal of the rule of fixed types
pub by-where : (o : Option SigWhy) (g : Env) (x : Abs) (s : Sig) (z : SpanName) (path : List SpanName) (b : TyEx) (t : Ty) (k : Kind) (at of : Span) (e : CodeRefusal)
    → s ≡ body_of x
    → of ≡ ty_span b
    → IfSome o (WhereRefuses x (names_of (z ∷ path)) t k)
    → IfSome o (λ w. StandsAt s z path of w at)
    → Placed g at (option_map of_sig o) e
    → ByWhere g (kinds_of x) (body_of x) z path b t k e
by-where o g x s z path b t k at of e es f w st p = by-place o g x z path b t k at of e w f (subst (λ u. IfSome o (λ w. StandsAt u z path of w at)) es st) p
