use Rattle.std.proofs.Common.{refl, lit<}
use Rattle.std.proofs.lemmas.Fmt.{decimal_digit}
use Rattle.omega_kinds.specs.Text.{◌then◌}
use Rattle.omega_write.proofs.example.spelled_example.Goals as goal

pub returns-clause-whole : goal.returns-clause-whole
unfolding ◌then◌
returns-clause-whole c = rw (decimal_digit 0 (lit< tt), decimal_digit 1 (lit< tt), decimal_digit 2 (lit< tt)) refl

pub returns-clause-list : goal.returns-clause-list
unfolding ◌then◌
returns-clause-list c = rw (decimal_digit 0 (lit< tt)) refl
