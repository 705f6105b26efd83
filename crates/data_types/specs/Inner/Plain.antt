-- What the code's refusals are seen as: plain ones, and nothing when memory is out; and what a recursive type unfolds to.
use Rattle.std.specs.Prelude.{Option, Some, None, zero}
use Rattle.omega_kinds.specs.Kind.{Kind}
use Rattle.omega_kinds.specs.View.{kind_tree}
use Rattle.omega_types.specs.Normaliser.{hsubst}
use Rattle.omega_types.specs.Ty.{Ty}
use Rattle.core_judgments.specs.DataRules.{DataWhy}
use Rattle.data_types.specs.declared.refusal.DataRefusal.{DataRefusal}
use Rattle.data_types.specs.declared.refusal.DataRefusal.TheVariants as refusal

abbrev pub plain_why : DataRefusal → Option DataWhy
plain_why (refusal.NotData t) = Some (DataWhy.NotData t)
plain_why (refusal.Differ t u) = Some (DataWhy.Differ t u)
plain_why (refusal.KindDiffer k j) = Some (DataWhy.KindDiffer (kind_tree k) (kind_tree j))
plain_why refusal.Mem = None

-- what the code answers when memory is out
abbrev pub want_of_memory : DataRefusal
want_of_memory = refusal.Mem

-- a normal body with its recursive type for the variable
abbrev pub unfolded : Ty → Ty
unfolded b = hsubst Kind.Star zero (Ty.Mu b) b
