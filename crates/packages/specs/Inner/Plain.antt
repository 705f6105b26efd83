-- What the code's refusals are seen as: plain ones, and nothing when memory is out.
use Rattle.std.specs.Prelude.{Option, Some, None}
use Rattle.package_judgments.specs.Package.{UnpackWhy}
use Rattle.packages.specs.declared.refusal.UnpackRefusal.{UnpackRefusal}
use Rattle.packages.specs.declared.refusal.UnpackRefusal.TheVariants as refusal

abbrev pub plain_why : UnpackRefusal → Option UnpackWhy
plain_why (refusal.Differ t u) = Some (UnpackWhy.Differ t u)
plain_why refusal.Mem = None

-- what the code answers when memory is out
abbrev pub want_of_memory : UnpackRefusal
want_of_memory = refusal.Mem
