-- Fields encoded one after the other.
-- Main results: row-encoded, quantified-next.
use Rattle.std.proofs.Common.{◌≡◌, ℕ, zero, suc, ◌-◌, ◌<◌, ◌≤◌, List, [], ◌∷◌, length, get_or, take, map, refl, sym, ap, ap₂, ◌∙◌, arith}
use Rattle.omega_kinds.specs.View.{kind_tree}
use Rattle.omega_kinds.specs.declared.kind.Kind.{Kind as SharedKind}
use Rattle.semantic_sigs.specs.declared.encoding.Quantifier.{Quantifier}
use Rattle.semantic_sigs.specs.declared.encoding.Quantifier.TheVariants as quantifier
use Rattle.semantic_sigs.specs.Inner.Quantified.{quantified, quantified_once}
use Rattle.omega_kinds.specs.Name.{Name}
use Rattle.omega_kinds.specs.declared.label.Label.{Label}
use Rattle.omega_types.specs.Ty.{Ty, Row}
use Rattle.omega_types.specs.Fields.{Pairs, row, MayFollow}
use Rattle.sig_definitions.specs.Signatures.Sig.{Sig}
use Rattle.sig_definitions.specs.Signatures.Encoding.{enc, enc_row}
use Rattle.semantic_sigs.specs.Inner.Fields.{SigPairs, sig_row, Rises}

-- the fields' labels with their encodings
abbrev pub encoded_pairs : SigPairs → Pairs
encoded_pairs = map (λ x. (Label.Name x.0, enc x.1))

-- the fields of a structure, encoded one by one, are the encoded row
pub row-encoded : (xs : SigPairs) → row (encoded_pairs xs) ≡ enc_row (sig_row xs)
row-encoded [] = refl
row-encoded (x ∷ xs) = ap (Row.More (Label.Name x.0) (enc x.1)) (row-encoded xs)

pub label_follows-at : (xs : SigPairs) (i : ℕ) (d : Name × Sig) → i < length xs → Rises xs → MayFollow (encoded_pairs (take i xs)) (Label.Name (get_or xs i d).0)
label_follows-at [] i d p r = absurd (omega arith)
label_follows-at (x ∷ xs) zero d p r = tt
label_follows-at (x ∷ []) (suc i) d p r = absurd (omega arith)
label_follows-at (x ∷ y ∷ xs) (suc zero) d p r = r.0
label_follows-at (x ∷ y ∷ xs) (suc (suc i)) d p r = label_follows-at (y ∷ xs) (suc i) d (omega arith) r.1

pub ruleset encode_steps = (row-encoded, label_follows-at)

-- one quantifier more, from the last kind to the first
pub quantified-take : (q : Quantifier) (kinds : List SharedKind) (n : ℕ) (d : SharedKind) (t : Ty) → n < length kinds → quantified q (map kind_tree (take (suc n) kinds)) t ≡ quantified q (map kind_tree (take n kinds)) (quantified_once q (kind_tree (get_or kinds n d)) t)
quantified-take q [] n d t lt = absurd (omega (arith, lt))
quantified-take quantifier.All (k ∷ kinds) zero d t lt = refl
quantified-take quantifier.Some (k ∷ kinds) zero d t lt = refl
quantified-take quantifier.All (k ∷ kinds) (suc n) d t lt = ap (Ty.All (kind_tree k)) (quantified-take quantifier.All kinds n d t (omega arith))
quantified-take quantifier.Some (k ∷ kinds) (suc n) d t lt = ap (Ty.Ex (kind_tree k)) (quantified-take quantifier.Some kinds n d t (omega arith))

-- one more quantifier is put in front, and the whole type stays the one to come
pub quantified-next : (q : Quantifier) (kinds : List SharedKind) (left : ℕ) (kind shared : SharedKind) (ty next whole : Ty) → 0 < left → left ≤ length kinds → quantified q (map kind_tree (take left kinds)) ty ≡ whole → kind ≡ get_or kinds (left - 1) kind → kind_tree shared ≡ kind_tree kind → next ≡ quantified_once q (kind_tree shared) ty → quantified q (map kind_tree (take (left - 1) kinds)) next ≡ whole
quantified-next q kinds zero kind shared ty next whole lt le e ek es en = absurd (omega (arith, lt))
quantified-next q kinds (suc n) kind shared ty next whole lt le e ek es en =
    ap₂ (λ m u. quantified q (map kind_tree (take m kinds)) u) (less n) (en ∙ ap (λ k. quantified_once q k ty) (es ∙ (ap kind_tree ek ∙ ap (λ m. kind_tree (get_or kinds m kind)) (less n)))) ∙ (sym (quantified-take q kinds n kind ty (omega arith)) ∙ e)
  where
    less : (n : ℕ) → suc n - 1 ≡ n
    less n = omega arith
