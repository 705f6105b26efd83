-- What the path of a look-up meets, as the code makes it.
-- Main results: all-cut, part-cut, result-cut.
use Rattle.std.proofs.Common.{◌≡◌, List, [], ◌∷◌, ◌++◌, sym, ap, ap₂, ◌∙◌, subst}
use Rattle.omega_kinds.specs.Kind.{Kind}
use Rattle.omega_kinds.specs.Name.{Name}
use Rattle.omega_kinds.specs.declared.effect.Effect.{Effect}
use Rattle.omega_kinds.specs.declared.effect.Effect.TheVariants.{Pure}
use Rattle.sig_definitions.specs.Signatures.Sig.{Sig, Abs, SigRow, HasField}
use Rattle.sig_definitions.specs.Explicit.SigPath.{SigPath, Item}
use Rattle.semantic_sigs.specs.Inner.Fields.{SigPairs, sig_row}
use Rattle.semantic_sigs.specs.Inner.View.{kinds_of, body_of}
use Rattle.sig_cut_laws.specs.Cut.{CutTo, whole, field, result}

-- a signature is as good as what a path meets of it
pub all-cut : (p : SigPath) (s c : Sig) → c ≡ s → CutTo p s c
all-cut p s c e = subst (CutTo p s) (sym e) whole

-- a path into a field meets the structure with this field alone, of which it meets what the rest of it does
pub part-cut : (p : SigPath) (l : Name) (s u c d : Sig) → (fs : SigRow) × (s ≡ Sig.Str fs) × HasField fs l u → CutTo p u c → d ≡ Sig.Str (SigRow.More l c SigRow.End) → CutTo (Item.Part l ∷ p) s d
part-cut p l s u c d h k e = subst (λ z. CutTo (Item.Part l ∷ p) z d) (sym h.1) (subst (CutTo (Item.Part l ∷ p) (Sig.Str h.0)) (sym e) (field h.2 k))

target-cut : (p : SigPath) (ks : List Kind) (a c : Sig) (x : Abs) → kinds_of x ≡ [] → CutTo p (body_of x) c → CutTo (Item.Res ∷ p) (Sig.Fun Pure ks a x) (Sig.Fun Pure ks a (Abs.Ex [] c))
target-cut p ks a c (Abs.Ex js r) e k = subst (λ z. CutTo (Item.Res ∷ p) (Sig.Fun Pure ks a (Abs.Ex z r)) (Sig.Fun Pure ks a (Abs.Ex [] c))) (sym e) (result k)

-- a path into the result of a pure functor meets its parameter, and of its result what the rest of the path does
pub result-cut : (p : SigPath) (e : Effect) (ks : List Kind) (a s b c d : Sig) (x : Abs) → s ≡ Sig.Fun e ks a x → e ≡ Pure → kinds_of x ≡ [] → b ≡ body_of x → CutTo p b c → d ≡ Sig.Fun e ks a (Abs.Ex [] c) → CutTo (Item.Res ∷ p) s d
result-cut p e ks a s b c d x es ee ek eb k ed =
    subst (λ z. CutTo (Item.Res ∷ p) z d) (sym es) (subst (CutTo (Item.Res ∷ p) (Sig.Fun e ks a x)) (sym ed)
    (subst (λ z. CutTo (Item.Res ∷ p) (Sig.Fun z ks a x) (Sig.Fun z ks a (Abs.Ex [] c))) (sym ee) (target-cut p ks a c x ek (subst (λ z. CutTo p z c) eb k))))

-- the structure of one field, as it is pushed
pub one-part : (fs gs : SigPairs) (n l : Name) (c : Sig) → fs ≡ [] → n ≡ l → gs ≡ fs ++ ((n, c) ∷ []) → Sig.Str (sig_row gs) ≡ Sig.Str (SigRow.More l c SigRow.End)
one-part fs gs n l c ef en eg = ap (λ z. Sig.Str (sig_row z)) eg ∙ (ap (λ z. Sig.Str (sig_row (z ++ ((n, c) ∷ [])))) ef ∙ ap (λ z. Sig.Str (SigRow.More z c SigRow.End)) en)

-- the functor with another result, as it is made of shared parts
pub same-functor : (a b c d : Sig) (e : Effect) (ks js none : List Kind) (x : Abs) → d ≡ Sig.Fun e js b x → js ≡ ks → b ≡ a → x ≡ Abs.Ex none c → none ≡ [] → d ≡ Sig.Fun e ks a (Abs.Ex [] c)
same-functor a b c d e ks js none x ed ej eb ex en = ed ∙ (ap₂ (λ k s. Sig.Fun e k s x) ej eb ∙ ap (Sig.Fun e ks a) (ex ∙ ap (λ k. Abs.Ex k c) en))
