-- Parts of modules at the places of their names.
-- Main results: part-given, no-structure, no-part.
use Rattle.std.specs.Prelude.{ℕ, ◌≡◌, List, []}
use Rattle.std.proofs.Math.Path.{refl, sym, ap, subst, ◌∙◌}
use Rattle.omega_kinds.specs.Kind.{Kind}
use Rattle.omega_kinds.specs.Name.{Name}
use Rattle.omega_kinds.specs.declared.label.Label.{Label}
use Rattle.omega_types.specs.Index.{bump}
use Rattle.omega_terms.specs.Term.{Term}
use Rattle.sig_definitions.specs.Signatures.Sig.{Abs, HasField, NoField, Sig, SigRow}
use Rattle.sig_definitions.specs.Signatures.SigSubst.{rename_sig, rename_sig_row}
use Rattle.sig_laws.proofs.Algebra.PathLaws.{no-field}
use Rattle.sig_laws.proofs.Encoded.EncodingTyping.{no_field-rename}
use Rattle.semantic_sigs.specs.Inner.Standing.{standing_module}
use Rattle.semantic_sigs.specs.declared.standing.Standing.{Standing}
use Rattle.module_judgments.specs.ModRules.{ProjectRefuses}
use Rattle.module_judgments.specs.ModWhy.{NoPart, NotStructure}
use Rattle.module_judgments.specs.Projection.{Projected}

field-rename : {fs : SigRow} {l : Name} {s : Sig} (r : ℕ → ℕ) → HasField fs l s → HasField (rename_sig_row r fs) l (rename_sig r s)
field-rename r HasField.here = HasField.here
field-rename r (HasField.there d h) = HasField.there d (field-rename r h)

str-rename : (r : ℕ → ℕ) (s : Sig) → ((fs : SigRow) → s ≡ Sig.Str fs → ⊥) → (fs : SigRow) → rename_sig r s ≡ Sig.Str fs → ⊥
str-rename r (Sig.Val t) n fs e = cc
str-rename r (Sig.Typ t k) n fs e = cc
str-rename r (Sig.Meta x) n fs e = cc
str-rename r (Sig.Str gs) n fs e = n gs refl
str-rename r (Sig.Fun f ks s x) n fs e = cc

-- the field of a standing structure is its projection
pub part-given : (whole part : Standing) (fs : SigRow) (l : Name) → whole.sig.now ≡ Sig.Str fs → HasField fs l part.sig.now → part.types ≡ whole.types → part.term ≡ Term.Get whole.term (Label.Name l)
    → (ctx : List Kind) → Projected ctx (standing_module whole) l (standing_module part)
part-given whole part fs l is has et ee ctx = rw (is, et, ee) (Projected.pure (field-rename (bump whole.types 0) has))

-- a projection from a standing module that is no structure is refused
pub no-structure : (whole : Standing) (l : Name) → ((fs : SigRow) → whole.sig.now ≡ Sig.Str fs → ⊥) → ProjectRefuses (standing_module whole) l NotStructure
no-structure whole l n = ProjectRefuses.no_structure (str-rename (bump whole.types 0) whole.sig.now n)

-- a projection of a name that the standing structure lacks is refused as no part
pub no-part : (whole : Standing) (fs : SigRow) (l m : Name) → whole.sig.now ≡ Sig.Str fs → NoField l fs → m ≡ l → ProjectRefuses (standing_module whole) l (NoPart m)
no-part whole fs l m is none em = rw (is, em) (ProjectRefuses.no_part (λ s h. no-field (rename_sig_row (bump whole.types 0) fs) (no_field-rename (bump whole.types 0) l fs none) h))
