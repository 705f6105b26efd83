-- A signature that is included is a structure, or is refused.
-- Main results: included, not-included, old-refuses.
use Rattle.std.proofs.Common.{◌≡◌, List, refl, sym, ap, ◌∙◌, subst, subst₂}
use Rattle.omega_kinds.specs.Name.{Name}
use Rattle.semantic_sigs.specs.Inner.Fields.{SigPairs, sig_row}
use Rattle.semantic_sigs.specs.Inner.View.{body_of, sig_of}
use Rattle.semantic_sigs.specs.declared.tree.SigNode.{SigNode}
use Rattle.semantic_sigs.specs.declared.tree.SigNode.TheVariants as node
use Rattle.sig_definitions.specs.Signatures.RecordOrder.{FirstOld}
use Rattle.sig_definitions.specs.Signatures.Sig.{Abs, Sig, SigRow}
use Rattle.sig_judgments.specs.SigRules.{DistinctRefuses, IncludeGives, IncludeRefuses}
use Rattle.sig_judgments.specs.SigWhy.{Duplicate, NotStructure}
use Rattle.sig_rules.specs.Inner.Plain.{fields_in}

-- a node of another form makes no structure
no-structure : (n : SigNode) → ((f : SigPairs) → n ≡ node.Str f → ⊥) → (fs : SigRow) → sig_of n ≡ Sig.Str fs → ⊥
no-structure (node.Val t) h fs e = cc
no-structure (node.Typ t k) h fs e = cc
no-structure (node.Meta x) h fs e = cc
no-structure (node.Str f) h fs e = h f refl
no-structure (node.Fun e ks s x) h fs p = cc

included-by : (x y : Abs) (fs : SigRow) → Sig.Str fs ≡ body_of x → y ≡ x → IncludeGives x y
included-by (Abs.Ex ks t) y fs e ey = subst₂ IncludeGives (λ i. Abs.Ex ks (e i)) (sym (ey ∙ (λ i. Abs.Ex ks (sym e i)))) IncludeGives.include

is-structure : (n : SigNode) (f : SigPairs) (s : Sig) → n ≡ node.Str f → sig_of n ≡ s → Sig.Str (sig_row f) ≡ s
is-structure n f s en es = sym (ap sig_of en) ∙ es

-- an included structure is given as it is
pub included : (x y : Abs) (s : Sig) (n : SigNode) (f : SigPairs) → n ≡ node.Str f → sig_of n ≡ s → s ≡ body_of x → y ≡ x → IncludeGives x y
included x y s n f en es eb ey = included-by x y (sig_row f) (is-structure n f s en es ∙ eb) ey

-- an included signature that is no structure is refused
pub not-included : (x : Abs) (s : Sig) (n : SigNode) → sig_of n ≡ s → s ≡ body_of x → ((f : SigPairs) → n ≡ node.Str f → ⊥) → IncludeRefuses x NotStructure
not-included (Abs.Ex ks t) s n e es h = IncludeRefuses.no_structure (λ fs d. no-structure n h fs (e ∙ (es ∙ d)))

-- the fields of what is declared

fields-are : (x : Abs) (fs : SigRow) → Sig.Str fs ≡ body_of x → fs ≡ fields_in x
fields-are (Abs.Ex ks t) fs e = subst (λ u. fs ≡ fields_in (Abs.Ex ks u)) e refl

-- a declared name that is one of those before is refused
pub old-refuses : (x : Abs) (s : Sig) (n : SigNode) (f items : SigPairs) (before : List Name) (l m : Name) → n ≡ node.Str f → sig_of n ≡ s → s ≡ body_of x → items ≡ f → FirstOld (sig_row items) before l → m ≡ l → DistinctRefuses before (fields_in x) (Duplicate m)
old-refuses x s n f items before l m en es eb ei o em =
    subst₂ (λ fs d. DistinctRefuses before fs (Duplicate d)) (ap sig_row ei ∙ fields-are x (sig_row f) (is-structure n f s en es ∙ eb)) (sym em) (DistinctRefuses.again o)
