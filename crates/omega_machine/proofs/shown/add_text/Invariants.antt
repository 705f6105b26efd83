use Rattle.std.proofs.Common.{◌≡◌, ◌++◌, codes, flat_map, take}
use Rattle.omega_terms.specs.TermText.{byte_text}
use Rattle.omega_machine.proofs.shown.add_text.Given as goal

abbrev pub invariant-loop-byte : goal.invariant-loop-byte
invariant-loop-byte l = l.out.items ≡ (l.fn.out.items ++ codes "\"") ++ flat_map byte_text (take l.byte-index l.bytes)
