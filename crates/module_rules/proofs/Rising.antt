-- Names each of which is before the next one, and names put in order, the last one first.
-- Main results: rise-next, rise-not, rise-done.
use Rattle.std.proofs.Common.{◌≡◌, ◌↔◌, ℕ, ◌+◌, ◌<◌, ◌≤◌, List, [], ◌∷◌, ◌++◌, Bool, true, false, IsTrue, length, get_or, drop, refl, sym, subst, ap, ◌∙◌, drop_of_length-le}
use Rattle.std.proofs.lemmas.Bool.{false≢true}
use Rattle.omega_kinds.specs.LabelOrder.{name_before}
use Rattle.omega_kinds.specs.Name.{Name}
use Rattle.sig_definitions.specs.Signatures.FieldOrder.{with_name, in_order}
use Rattle.sig_definitions.specs.Signatures.RecordOrder.{NamesRise}
use Rattle.sig_premise_laws.proofs.NameOrder.{before-more}
use Rattle.semantic_sigs.proofs.PartSteps.{left-more}

-- all names rise if and only if those do that are left, after the last one that was seen
abbrev pub RiseLeft : (all : List Name) (last : Name) (left : List Name) → Type 0
RiseLeft all last left = NamesRise all ↔ NamesRise (last ∷ left)

-- names rise if they do from the next one on, which comes after the last one
pub rise-next : (all : List Name) (last name : Name) (rest : List Name) (i : ℕ) → i < length rest → name ≡ get_or rest i name → name_before last name ≡ true
    → RiseLeft all last (drop i rest) → RiseLeft all name (drop (i + 1) rest)
rise-next all last name rest i lt e h r =
    let left = left-more rest i name lt e in (
      λ a. (subst (λ ns. NamesRise (last ∷ ns)) left (r.0 a)).1,
      λ b. r.1 (subst (λ ns. NamesRise (last ∷ ns)) (sym left) ((h, before-more last name (drop (i + 1) rest) h b.0), b)),
    )

-- names do not rise where the next one does not come after the last one
pub rise-not : (all : List Name) (last name : Name) (rest : List Name) (i : ℕ) → i < length rest → name ≡ get_or rest i name → name_before last name ≡ false
    → RiseLeft all last (drop i rest) → IsTrue false ↔ NamesRise all
rise-not all last name rest i lt e h r =
    let left = left-more rest i name lt e in
    (λ q. absurd (false≢true q), λ a. absurd (false≢true (sym h ∙ (subst (λ ns. NamesRise (last ∷ ns)) left (r.0 a)).0.0)))

-- names rise when all are seen and each came after the one before
pub rise-done : (all : List Name) (last : Name) (rest : List Name) (i : ℕ) → length rest ≤ i → RiseLeft all last (drop i rest) → IsTrue true ↔ NamesRise all
rise-done all last rest i le r = (λ q. r.1 (subst (λ ns. NamesRise (last ∷ ns)) (sym (drop_of_length-le rest le)) (tt, tt)), λ a. refl)

-- these names put into a set, the last one first
abbrev pub put_all : List Name → List Name → List Name
put_all [] set = set
put_all (l ∷ ls) set = with_name l (put_all ls set)

pub put_all-last : (ls : List Name) (l : Name) (set : List Name) → put_all (ls ++ l ∷ []) set ≡ put_all ls (with_name l set)
put_all-last [] l set = refl
put_all-last (m ∷ ms) l set = ap (with_name m) (put_all-last ms l set)

pub put_all-none : (ls : List Name) → put_all ls [] ≡ in_order ls
put_all-none [] = refl
put_all-none (l ∷ ls) = ap (with_name l) (put_all-none ls)

pub ruleset put_steps = (put_all-last, put_all-none)
