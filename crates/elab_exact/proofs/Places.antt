-- Where the refusal of a fixed type stands: at exactly one place.
-- Main results: placed.
use Rattle.std.specs.Prelude.{List, [], ◌∷◌, ◌≡◌}
use Rattle.std.proofs.Math.Path.{refl, sym, subst, ap, ◌∙◌}
use Rattle.omega_kinds.specs.Kind.{Kind}
use Rattle.omega_kinds.specs.Name.{Name}
use Rattle.omega_types.specs.Ty.{Ty}
use Rattle.sig_definitions.specs.Signatures.Sig.{Sig, Abs}
use Rattle.sig_definitions.specs.Env.{Env, kinds}
use Rattle.sig_definitions.specs.Verdict.{Verdict, holds, refuses, One}
use Rattle.fing_syntax.specs.Phrase.{Span, SpanName, TyEx}
use Rattle.fing_syntax.specs.Place.{name_of, name_span, ty_span, path_span}
use Rattle.refusal_reasons.specs.Refusal.{Refusal}
use Rattle.sig_judgments.specs.SigWhy.{SigWhy}
use Rattle.sig_judgments.specs.SigRules.{WhereRefuses}
use Rattle.sig_judgments.specs.Refinement.{Refined, Leads, LeavesAt}
use Rattle.sig_judgments.proofs.Paths.{leads}
use Rattle.elab_judgments.specs.Operators.{names_of}
use Rattle.elab_judgments.specs.Refusals.Refusal.{refuse, of_sig}
use Rattle.elab_judgments.specs.Refusals.Steps.{WhereAt}

-- the path of names leaves where the path of places does
Leaving : Sig → List SpanName → Name → Type 0
Leaving s path l = (x : SpanName) × LeavesAt name_of s path x × (name_of x ≡ l)

leaving : {s : Sig} {l : Name} (path : List SpanName) → LeavesAt (λ m. m) s (names_of path) l → Leaving s path l
unfolding Leaving
leaving [] h = elim h [ ]
leaving (y ∷ path) (LeavesAt.here n) = (y, LeavesAt.here n, refl)
leaving (y ∷ path) (LeavesAt.there f h) = let v = leaving path h in (v.0, LeavesAt.there f v.1, v.2)

leaves-one : {s : Sig} {path : List SpanName} {x y : SpanName} → Verdict (λ q. Leads s (names_of path) q) (λ x. LeavesAt name_of s path x) → LeavesAt name_of s path x → LeavesAt name_of s path y → y ≡ x
leaves-one {x = x} (holds q l only never) h i = absurd (never x h)
leaves-one {x = x} {y = y} (refuses z l only never) h i = only y i ∙ sym (only x h)

abbrev Place : Sig → SpanName → List SpanName → TyEx → SigWhy → Span → Type 0
Place s z path b (SigWhy.NoPart l) at = (x : SpanName) × LeavesAt name_of s (z ∷ path) x × (name_of x ≡ l) × (at ≡ name_span x)
Place s z path b (SigWhy.NotAbstract p) at = at ≡ path_span z path
Place s z path b (SigWhy.KindDiffer k j) at = at ≡ ty_span b
Place s z path b why at = ⊥

place : {s : Sig} {z : SpanName} {path : List SpanName} {b : TyEx} {why : SigWhy} {at : Span} → WhereAt s z path b why at → Place s z path b why at
place (WhereAt.at_name {x = x} h) = (x, h, refl, refl)
place WhereAt.at_path = refl
place WhereAt.at_type = refl

one-place : {ks : List Kind} {s : Sig} (z : SpanName) (path : List SpanName) (b : TyEx) {u : Ty} {k : Kind} {why : SigWhy} → WhereRefuses (Abs.Ex ks s) (names_of (z ∷ path)) u k why → One (WhereAt s z path b why)
unfolding Leaving
one-place {s = s} z path b (WhereRefuses.leaves {l = l} h) = subst (λ l. One (WhereAt s z path b (SigWhy.NoPart l))) v.2 (name_span v.0, WhereAt.at_name v.1, λ at w. let p = place w in p.3 ∙ ap name_span (leaves-one (leads name_of s (z ∷ path)) v.1 p.1))
  where
    v : Leaving s (z ∷ path) l
    v = leaving (z ∷ path) h
one-place z path b (WhereRefuses.not_own h n) = (path_span z path, WhereAt.at_path, λ at w. place w)
one-place z path b (WhereRefuses.kind before after e h n) = (ty_span b, WhereAt.at_type, λ at w. place w)

-- a conclusion or a refusal of a fixed type, at its place
pub placed : (g : Env) (ks : List Kind) (s : Sig) (z : SpanName) (path : List SpanName) (b : TyEx) (u : Ty × Kind)
    → Verdict (Refined (kinds g) (Abs.Ex ks s) (names_of (z ∷ path)) u.0 u.1) (WhereRefuses (Abs.Ex ks s) (names_of (z ∷ path)) u.0 u.1)
    → Verdict (Refined (kinds g) (Abs.Ex ks s) (names_of (z ∷ path)) u.0 u.1) (λ (q : Refusal). (why : SigWhy) × WhereRefuses (Abs.Ex ks s) (names_of (z ∷ path)) u.0 u.1 why × ((at : Span) × WhereAt s z path b why at × (q ≡ refuse g at (of_sig why))))
placed g ks s z path b u (holds y p only never) = holds y p only (λ q r. never r.0 r.1)
placed g ks s z path b u (refuses why r only never) =
    let w = one-place z path b r in
    refuses (refuse g w.0 (of_sig why)) (why, r, (w.0, w.1, refl)) (λ q t. t.2.2 ∙ (λ i. refuse g (same-place w t.0 (only t.0 t.1) t.2.0 t.2.1 i) (of_sig (only t.0 t.1 i)))) never
  where
    same-place : (w : One (WhereAt s z path b why)) (other : SigWhy) → other ≡ why → (at : Span) → WhereAt s z path b other at → at ≡ w.0
    same-place w other e at h = w.2 at (subst (λ o. WhereAt s z path b o at) e h)
