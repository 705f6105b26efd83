-- Fields put in their order keep their spelling.
-- Main results: fresh_term_all-insert, with_name-spelled.
use Rattle.std.specs.Prelude.{◌≡◌, ◌≢◌, ◌⊎◌, List, [], ◌∷◌, true, false, Option, Some, None}
use Rattle.std.proofs.Math.Path.{refl, sym, ◌∙◌, subst}
use Rattle.std.proofs.Math.Logic.{inl, inr}
use Rattle.std.proofs.lemmas.Bool.{false≢true}
use Rattle.omega_kinds.specs.declared.label.Label.{Label}
use Rattle.omega_kinds.specs.Name.{Name, same_name}
use Rattle.omega_kinds.specs.LabelOrder.{LabelBefore, label_before, name_before}
use Rattle.omega_kinds.proofs.LabelLaws.{irreflexive, transitive, total_order}
use Rattle.omega_types.specs.Ty.{Ty, Row}
use Rattle.omega_types.specs.Kinding.{Fresh}
use Rattle.omega_terms.specs.declared.version.Version.{Version}
use Rattle.omega_terms.specs.Term.{Term, TermRow}
use Rattle.omega_terms.specs.Typing.{HasPart}
use Rattle.omega_spelling.specs.Reading.{follows}
use Rattle.omega_spelling.specs.Spelled.{LabelSpelled}
use Rattle.sig_definitions.specs.Signatures.Sig.{Sig, SigRow, NoField}
use Rattle.sig_definitions.specs.Signatures.FieldOrder.{insert_field, merge, with_name, with_names}
use Rattle.sig_definitions.specs.Signatures.RecordOrder.{insert_part, insert_term, IsNew, BeforeNames}
use Rattle.sig_laws.proofs.Encoded.EncodingTyping.{name-differs}
use Rattle.sig_explicit_laws.proofs.Fields.{merge-none}
use Rattle.core_judgments.specs.ExpRules.{FieldExp, field, HasBranch, InOrder}
use Rattle.elab_laws.proofs.FieldLaws.{pick, not-sym, Apart}
use Rattle.elab_spelling.specs.Legible.{TyLegible, RowLegible, TermLegible, TermRowLegible}
use Rattle.elab_spelling.specs.Signatures.{NameSpelled, NamesSpelled, SigLegible, FieldsLegible}

-- of two labels one comes first
later : (l m : Label) → l ≢ m → label_before l m ≡ false → label_before m l ≡ true
later l m d e = go (total_order l m)
  where
    go : (l ≡ m) ⊎ (LabelBefore l m ⊎ LabelBefore m l) → label_before m l ≡ true
    go (inl q) = absurd (d q)
    go (inr (inl q)) = absurd (false≢true (sym e ∙ q))
    go (inr (inr q)) = q

before-differs : (l m : Label) → LabelBefore l m → l ≢ m
before-differs l m b e = irreflexive l (subst (LabelBefore l) (sym e) b)

-- labels of record terms

abbrev pub FreshTerm : Label → TermRow → Type 0
FreshTerm l TermRow.End = Unit {0}
FreshTerm l (TermRow.More m e rest) = (l ≢ m) × FreshTerm l rest

fresh_term-insert : (m l : Label) (e : Term) (row : TermRow) → m ≢ l → FreshTerm m row → FreshTerm m (insert_term l e row)
fresh_term-insert m l e TermRow.End d f = (d, tt)
fresh_term-insert m l e (TermRow.More n u rest) d f = pick (FreshTerm m) (label_before l n) (λ q. (d, f)) (λ q. (f.0, fresh_term-insert m l e rest d f.1))

-- none of the names is a label of the row of terms
abbrev pub FreshTermAll : List Name → TermRow → Type 0
FreshTermAll [] row = Unit {0}
FreshTermAll (l ∷ ls) row = FreshTerm (Label.Name l) row × FreshTermAll ls row

-- names are fresh for the empty row of terms
pub fresh_term_all-end : (names : List Name) → FreshTermAll names TermRow.End
fresh_term_all-end [] = tt
fresh_term_all-end (l ∷ ls) = (tt, fresh_term_all-end ls)

-- names stay fresh when a field of a new name is inserted
pub fresh_term_all-insert : (names : List Name) (x : Name) (e : Term) (row : TermRow) → IsNew x names → FreshTermAll names row
    → FreshTermAll names (insert_term (Label.Name x) e row)
fresh_term_all-insert [] x e row n f = tt
fresh_term_all-insert (l ∷ ls) x e row n f = (
  fresh_term-insert (Label.Name l) (Label.Name x) e row
      (name-differs (not-sym n.0)) f.0,
  fresh_term_all-insert ls x e row n.1 f.1,
)

-- sets of names

-- names that have a spelling do so with one more that has one, put in its place
pub with_name-spelled : (l : Name) (names : List Name) → NameSpelled l → NamesSpelled names → NamesSpelled (with_name l names)
with_name-spelled l [] h g = (h, tt)
with_name-spelled l (m ∷ ms) h g = pick NamesSpelled (same_name l m) (λ e. g)
    (λ e. pick NamesSpelled (name_before l m) (λ d. (h, g)) (λ d. (g.0, with_name-spelled l ms h g.1)))

module _ (v : Version) where
  -- record types and record terms

  -- a legible row with a legible part of a fresh label inserted is legible
  pub insert_part-legible : (last : Option Label) (l : Label) (t : Ty) (row : Row) → follows last l ≡ true → LabelSpelled l → TyLegible v t → Fresh l row
      → RowLegible v last row → RowLegible v last (insert_part l t row)
  insert_part-legible last l t Row.End f s h n g = (f, s, h, tt)
  insert_part-legible last l t (Row.More m u rest) f s h n g =
      pick (RowLegible v last) (label_before l m) (λ e. (f, s, h, (e, g.1, g.2, g.3)))
      (λ e. (g.0, g.1, g.2, insert_part-legible (Some m) l t rest (later l m n.0 e) s h n.1 g.3))

  -- a legible row of terms with a legible field of a fresh label inserted is legible
  pub insert_term-legible : (last : Option Label) (l : Label) (e : Term) (row : TermRow) → follows last l ≡ true → LabelSpelled l → TermLegible v e
      → FreshTerm l row → TermRowLegible v last row → TermRowLegible v last (insert_term l e row)
  insert_term-legible last l e TermRow.End f s h n g = (f, s, h, tt)
  insert_term-legible last l e (TermRow.More m u rest) f s h n g =
      pick (TermRowLegible v last) (label_before l m) (λ q. (f, s, h, (q, g.1, g.2, g.3)))
      (λ q. (g.0, g.1, g.2, insert_term-legible (Some m) l e rest (later l m n.0 q) s h n.1 g.3))

  -- each part of a legible row is legible, and its label is spelled
  pub part-legible : {row : Row} {l : Label} {t : Ty} (last : Option Label) → RowLegible v last row → HasPart row l t → LabelSpelled l × TyLegible v t
  part-legible last h HasPart.here = (h.1, h.2)
  part-legible last h (HasPart.there {m = m} n p) = part-legible (Some m) h.3 p

  -- branches of a case

  -- the terms of fields are legible
  abbrev pub PartsLegible : List FieldExp → Type 0
  PartsLegible [] = Unit {0}
  PartsLegible (field l t e ∷ rest) = TermLegible v e × PartsLegible rest

  branch-legible : {branches : List FieldExp} {l : Label} {e : Term} → PartsLegible branches → HasBranch branches l e → TermLegible v e
  branch-legible h HasBranch.here = h.0
  branch-legible h (HasBranch.there d b) = branch-legible h.1 b

  -- the legible terms of branches are legible in the order of the sum's labels
  pub in_order-legible : {branches : List FieldExp} {row : Row} {es : TermRow} (last : Option Label) → RowLegible v last row → PartsLegible branches
      → InOrder branches row es → TermRowLegible v last es
  in_order-legible last h g InOrder.no_labels = tt
  in_order-legible last h g (InOrder.next_label {l = l} b o) = (h.0, h.1, branch-legible g b, in_order-legible (Some l) h.3 g o)

  -- structures

  insert_field-legible : (last : Option Label) (l : Name) (s : Sig) (fs : SigRow) → follows last (Label.Name l) ≡ true → NameSpelled l → SigLegible v s
      → NoField l fs → FieldsLegible v last fs → FieldsLegible v last (insert_field l s fs)
  insert_field-legible last l s SigRow.End f a h n g = (f, a, h, tt)
  insert_field-legible last l s (SigRow.More m t rest) f a h n g =
      pick (FieldsLegible v last) (name_before l m) (λ e. (f, a, h, (e, g.1, g.2, g.3)))
      (λ e. (g.0, g.1, g.2, insert_field-legible (Some (Label.Name m)) l s rest (later (Label.Name l) (Label.Name m) (name-differs n.0) e) a h n.1 g.3))

  none-later : (l m : Name) (fs : SigRow) → LabelBefore (Label.Name l) (Label.Name m) → FieldsLegible v (Some (Label.Name m)) fs → NoField l fs
  none-later l m SigRow.End b h = tt
  none-later l m (SigRow.More n s rest) b h =
      let c = transitive (Label.Name l) (Label.Name m) (Label.Name n) b h.0 in
      ((λ e. before-differs (Label.Name l) (Label.Name n) c (λ i. Label.Name (e i))), none-later l n rest c h.3)

  none-again : (l : Name) (fs : SigRow) → FieldsLegible v (Some (Label.Name l)) fs → NoField l fs
  none-again l SigRow.End h = tt
  none-again l (SigRow.More m s rest) h = ((λ e. before-differs (Label.Name l) (Label.Name m) h.0 (λ i. Label.Name (e i))), none-later l m rest h.0 h.3)

  -- the fields of two legible structures that are apart are legible together
  pub merge-legible : (last : Option Label) (fs gs : SigRow) → Apart fs gs → FieldsLegible v last fs → FieldsLegible v None gs
      → FieldsLegible v None (merge fs gs)
  merge-legible last SigRow.End gs a h g = g
  merge-legible last (SigRow.More l s fs) gs a h g =
      insert_field-legible None l s (merge fs gs) refl h.1 h.2 (merge-none l fs gs (none-again l fs h.3) a.0)
      (merge-legible (Some (Label.Name l)) fs gs a.1 h.3 g)

  -- names that have a spelling do so with the names of legible fields put in their places
  pub with_names-spelled : (last : Option Label) (fs : SigRow) (names : List Name) → FieldsLegible v last fs → NamesSpelled names
      → NamesSpelled (with_names fs names)
  with_names-spelled last SigRow.End names h g = g
  with_names-spelled last (SigRow.More l s fs) names h g = with_names-spelled (Some (Label.Name l)) fs (with_name l names) h.3 (with_name-spelled l names h.1 g)

-- the first of the names comes after the last label
abbrev pub Follow : Option Label → List Name → Type 0
Follow last [] = Unit {0}
Follow last (l ∷ ls) = follows last (Label.Name l) ≡ true

-- a name that comes before names in order may be followed by them
pub follow-rise : (l : Name) (names : List Name) → BeforeNames l names → Follow (Some (Label.Name l)) names
follow-rise l [] h = tt
follow-rise l (m ∷ ms) h = h.0

-- any names may stand where there is no last label
pub follow-none : (names : List Name) → Follow None names
follow-none [] = tt
follow-none (l ∷ ls) = refl
