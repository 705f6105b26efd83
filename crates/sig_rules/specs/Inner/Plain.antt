-- What the code's refusals are seen as: plain ones, and nothing when memory is out.
use Rattle.std.specs.Prelude.{Option, Some, None}
use Rattle.omega_kinds.specs.View.{kind_tree}
use Rattle.sig_definitions.specs.Signatures.Sig.{Sig, Abs, SigRow, NoField}
use Rattle.sig_judgments.specs.SigWhy.{SigWhy}
use Rattle.sig_rules.specs.declared.refusal.SigRefusal.{SigRefusal}
use Rattle.sig_rules.specs.declared.refusal.SigRefusal.TheVariants as refusal

abbrev pub plain_why : SigRefusal → Option SigWhy
plain_why (refusal.NotAbstract path) = Some (SigWhy.NotAbstract path)
plain_why (refusal.NoPart name) = Some (SigWhy.NoPart name)
plain_why (refusal.Duplicate name) = Some (SigWhy.Duplicate name)
plain_why (refusal.KindDiffer k j) = Some (SigWhy.KindDiffer (kind_tree k) (kind_tree j))
plain_why refusal.NotStructure = Some SigWhy.NotStructure
plain_why refusal.Mem = None

-- what the code answers when memory is out
abbrev pub want_of_memory : SigRefusal
want_of_memory = refusal.Mem

-- the fields of a structure, and none of another signature
abbrev pub fields_in : Abs → SigRow
fields_in (Abs.Ex ks (Sig.Str fs)) = fs
fields_in (Abs.Ex ks s) = SigRow.End

-- no name of these fields is one of those
abbrev pub AreApart : (these those : SigRow) → Type 0
AreApart SigRow.End gs = Unit {0}
AreApart (SigRow.More l s fs) gs = NoField l gs × AreApart fs gs
