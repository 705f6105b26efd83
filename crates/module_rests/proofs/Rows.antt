-- Rows of bindings: what they come to, and one more of them.
-- Main results: row-shape, bind-more, bind-closed, join-some.
use Rattle.std.specs.Prelude.{ℕ, zero, suc, List, [], ◌∷◌, ◌++◌, ◌≡◌, ◌<◌, ◌==◌, true, false, length, map, reverse}
use Rattle.std.proofs.Common.{arith}
use Rattle.std.proofs.Math.Path.{refl, sym, ap, subst, ◌∙◌}
use Rattle.std.proofs.lemmas.List.{length-map, reverse-append}
use Rattle.omega_kinds.specs.Kind.{Kind}
use Rattle.omega_kinds.specs.declared.effect.Effect.{Effect}
use Rattle.omega_kinds.specs.declared.effect.Effect.TheVariants.{Pure, Impure}
use Rattle.omega_types.specs.Ty.{Ty}
use Rattle.omega_types.specs.Binders.{extend}
use Rattle.omega_terms.specs.Term.{Term}
use Rattle.sig_definitions.specs.Signatures.Sig.{Sig, Abs, Module, made}
use Rattle.sig_laws.specs.Good.{KindedModule, OkModule}
use Rattle.sig_laws.proofs.Formed.WellFormedShape.{kinded}
use Rattle.semantic_sigs.specs.declared.made.Module.{Module as CodeModule}
use Rattle.semantic_sigs.specs.Inner.Made.{module_of}
use Rattle.semantic_sigs.specs.Inner.View.{body_of, kinds_of}
use Rattle.module_judgments.specs.Sequence.{Seq}
use Rattle.module_laws.proofs.Put.{pure-seq, seq-view}
use Rattle.module_rests.specs.declared.rests.Rest.{Rest}
use Rattle.module_rests.specs.Inner.Folded.{Folded}
use Rattle.module_rests.specs.Inner.Rests.{Comes}
use Rattle.module_rests.specs.Inner.Gathering.{effect_of, hides, hidden}

-- the view of a row

abbrev pub FoldedView : List Kind → List Module → Module → Module → Type 0
FoldedView ctx [] m w = w ≡ m
FoldedView ctx (first ∷ steps) m w = (ks : List Kind) × (s : Sig) × (ts : List Ty) × (e : Term) × (y : Abs) × (us : List Ty) × (d : Term) × (z : Abs) × (vs : List Ty) × (c : Term)
    × (first ≡ made Pure (Abs.Ex ks s) ts e) × (w ≡ made Pure z vs c)
    × OkModule ctx (made Pure (Abs.Ex ks s) ts e) × OkModule (extend ctx ks) (made Pure y us d)
    × Folded (extend ctx ks) steps m (made Pure y us d) × Seq ctx (made Pure (Abs.Ex ks s) ts e) (made Pure y us d) (made Pure z vs c)

-- a row of no bindings comes to its last module, and each other row to a sequence of its first binding and the row after it
pub folded-view : {ctx : List Kind} {steps : List Module} {m w : Module} → Folded ctx steps m w → FoldedView ctx steps m w
folded-view Folded.last = refl
folded-view (Folded.next {ks = ks} {s = s} {ts = ts} {us = us} {vs = vs} {e = e} {d = d} {c = c} {y = y} {z = z} a b f q) = (ks, s, ts, e, y, us, d, z, vs, c, refl, refl, a, b, f, q)

-- with a pure last module the whole is pure
pub whole-pure : {ctx : List Kind} {steps : List Module} {m w : Module} → Folded ctx steps m w → effect_of m ≡ Pure → effect_of w ≡ Pure
whole-pure Folded.last e = e
whole-pure (Folded.next a b f q) e = refl

-- a row of one or more is pure
pub row-pure : {ctx : List Kind} (steps : List Module) {m w : Module} → 0 < length steps → Folded ctx steps m w → effect_of w ≡ Pure
row-pure [] lt f = absurd (omega (arith, lt))
row-pure (first ∷ steps) lt (Folded.next a b f q) = refl

-- what a row hides and shows

-- what a module shows
abbrev pub shown : Module → Sig
shown (made f x ts e) = body_of x

-- a row hides what its modules hide one after the other, and shows what the last one shows
pub row-shape : {ctx : List Kind} (steps : List Module) {m w : Module} → Folded ctx steps m w → (hides w ≡ hidden steps m) × (shown w ≡ shown m)
row-shape [] Folded.last = (refl, refl)
row-shape (first ∷ steps) (Folded.next {ks = ks} {y = Abs.Ex js t} a b f q) =
    let v = seq-view q in
    let r = row-shape steps f in
    (ap hides v.6 ∙ ap (λ hs. ks ++ hs) r.0, ap shown v.6 ∙ r.1)

-- one more binding before a row

not-pure : Impure ≡ Pure → ⊥
not-pure e = cc

one-more : (f : Effect) (x : Abs) (ts : List Ty) (e : Term) (steps : List Module) (m w : Module) (ctx : List Kind) → f ≡ Pure → effect_of w ≡ Pure
    → OkModule ctx (made f x ts e) → OkModule (extend ctx (kinds_of x)) w → Folded (extend ctx (kinds_of x)) steps m w
    → (v : Module) × Seq ctx (made f x ts e) w v × Folded ctx (made f x ts e ∷ steps) m v
one-more Impure x ts e steps m w ctx ef ew a b f = absurd (not-pure ef)
one-more Pure x ts e steps m (made Impure y us d) ctx ef ew a b f = absurd (not-pure ew)
one-more Pure (Abs.Ex ks s) ts e steps m (made Pure y us d) ctx ef ew a b f =
    let o = pure-seq ctx ks s ts e y us d a b in
    (made Pure o.0 o.1 o.2, o.3, Folded.next a b f o.3)

-- the same, at the end of the code's list, which has the last binding first
pub bind-more : (steps more : List CodeModule) (first last : CodeModule) → more ≡ steps ++ first ∷ [] → first.effect ≡ Pure → last.effect ≡ Pure
    → (ctx : List Kind) (w : Module) → OkModule ctx (module_of first) → OkModule (extend ctx (kinds_of first.sig)) w
    → Folded (extend ctx (kinds_of first.sig)) (map module_of (reverse steps)) (module_of last) w
    → (v : Module) × Seq ctx (module_of first) w v × Folded ctx (map module_of (reverse more)) (module_of last) v
bind-more steps more first last em ef el ctx w a b f =
    let o = one-more first.effect first.sig first.types first.term (map module_of (reverse steps)) (module_of last) w ctx ef (whole-pure f el) a b f in
    let row : reverse more ≡ first ∷ reverse steps = ap reverse em ∙ reverse-append steps (first ∷ []) in
    (o.0, o.1, subst (λ xs. Folded ctx (map module_of xs) (module_of last) o.0) (sym row) o.2)

-- a row that is joined before a binding
pub bind-closed : (first whole bound : CodeModule) (before after : Rest)
    → ((ctx : List Kind) (m : Module) → OkModule ctx m → Comes ctx before m → module_of whole ≡ m)
    → ((ctx : List Kind) → KindedModule ctx (module_of first) → KindedModule (extend ctx (kinds_of first.sig)) (module_of whole) → Seq ctx (module_of first) (module_of whole) (module_of bound))
    → ((ctx : List Kind) → Comes ctx after (module_of bound))
    → (ctx : List Kind) (w : Module) → OkModule ctx (module_of first) → OkModule (extend ctx (kinds_of first.sig)) w → Comes (extend ctx (kinds_of first.sig)) before w
    → (v : Module) × Seq ctx (module_of first) w v × Comes ctx after v
bind-closed first whole bound before after join seq comes ctx w a b row =
    let inner = extend ctx (kinds_of first.sig) in
    let e : module_of whole ≡ w = join inner w b row in
    let q = seq ctx (kinded ctx (module_of first) a) (subst (KindedModule inner) (sym e) (kinded inner w b)) in
    (module_of bound, subst (λ r. Seq ctx (module_of first) r (module_of bound)) e q, comes ctx)

-- the code's rest, joined

-- a row of no bindings comes to its last module
pub none-comes : (none : List CodeModule) (last : CodeModule) → none ≡ [] → (ctx : List Kind) → Folded ctx (map module_of (reverse none)) (module_of last) (module_of last)
none-comes none last e ctx = subst (λ xs. Folded ctx (map module_of (reverse xs)) (module_of last) (module_of last)) (sym e) Folded.last

some-in : (n : ℕ) → false ≡ (n == 0) → 0 < n
some-in zero e = absurd (differ e)
  where
    differ : false ≡ true → ⊥
    differ h = cc
some-in (suc n) e = omega arith

-- a module that is each pure module to which a row of one or more bindings comes is each module to which that row comes
pub join-some : (steps turned : List CodeModule) (last : CodeModule) (w : Module) (n : ℕ) → false ≡ (n == 0) → length turned ≡ n → turned ≡ reverse steps
    → ((ctx : List Kind) (m : Module) → effect_of m ≡ Pure → OkModule ctx m → Folded ctx (map module_of turned) (module_of last) m → w ≡ m)
    → (ctx : List Kind) (m : Module) → OkModule ctx m → Folded ctx (map module_of (reverse steps)) (module_of last) m → w ≡ m
join-some steps turned last w n e size et h ctx m ok row =
    let inner = subst (λ xs. Folded ctx (map module_of xs) (module_of last) m) (sym et) row in
    let some : 0 < length (map module_of turned) = omega (arith, some-in n e, size, length-map turned module_of) in
    h ctx m (row-pure (map module_of turned) some inner) ok inner
