use Rattle.std.proofs.Common.{refl}
use Rattle.omega_machine.specs.Inner.Contexts.{fill_ready}
use Rattle.omega_machine.proofs.Plugs.{plug-typed}
use Rattle.omega_machine.proofs.Stepped.{steps, faults}
use Rattle.omega_machine.proofs.stepping.step.Goals as goal

pub reduce-requires-clause-typed : goal.reduce-requires-clause-typed
reduce-requires-clause-typed c = plug-typed c.args.frames.items (fill_ready c.args.form c.args.value) c.requires.frames c.requires.typed

pub returns-in-To : goal.returns-in-To
returns-in-To c =
    steps c.args.frames.items c.args.form c.in_ok-share.field-0 c.args.value c.in_ok-share-2.field-0 _ _ c.in_ok-focus.field-0 c.in-To.focus c.requires.frames c.requires.sound c.requires.value c.requires.typed c.rule_of.ensures refl c.in_ok-share.ensures refl c.in_ok-share-2.ensures refl refl c.in-To.is c.in_ok-focus.ensures

pub returns : goal.returns
returns c =
    faults c.args.frames.items c.args.form c.in_ok-share.field-0 c.args.value c.in_ok-share-2.field-0 _ c.args.frames.items c.in_ok-focus.field-0 c.in-Fault.fault c.requires.frames c.requires.sound c.requires.value c.rule_of.ensures refl c.in_ok-share.ensures refl c.in_ok-share-2.ensures refl c.in-Fault.is c.in_ok-focus.ensures
