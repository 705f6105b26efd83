use Rattle.omega_machine.proofs.Moved.{pack-value, inject-value, roll-value}
use Rattle.omega_machine.proofs.refocus.resume.Goals as goal

pub returns-in_ok-make-in-Packed : goal.returns-in_ok-make-in-Packed
returns-in_ok-make-in-Packed c = pack-value _ _ c.args.value _ c.args.frame c.in-Packed.is c.requires.value c.in_ok-make-in-Packed.ensures

pub returns-in_ok-make-in-Injected : goal.returns-in_ok-make-in-Injected
returns-in_ok-make-in-Injected c = inject-value _ _ c.args.value _ c.args.frame c.in-Injected.is c.requires.value c.in_ok-make-in-Injected.ensures

pub returns-in_ok-make-in-Rolled : goal.returns-in_ok-make-in-Rolled
returns-in_ok-make-in-Rolled c = roll-value _ c.args.value _ c.args.frame c.in-Rolled.is c.requires.value c.in_ok-make-in-Rolled.ensures
