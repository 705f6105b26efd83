use Rattle.elab_judgments.specs.Judgments.Meaning.BindMeans.{bind_module, bind_signature, bind_ty, bind_val}
use Rattle.elab_phrases.proofs.Included.{means-bind}
use Rattle.show_derivation.proofs.scope.Scope.binding.Goals as goal

pub returns-in_ok-own-in-Val-clause-given : goal.returns-in_ok-own-in-Val-clause-given
returns-in_ok-own-in-Val-clause-given c = means-bind c.phrase.view_is c.in-Val.is c.in_ok-own-in-Val.ensures (bind_val c.in_ok-found-in-Val.ensures.given c.in_ok-made-in-Val.ensures)

pub returns-in_ok-own-in-Ty-clause-given : goal.returns-in_ok-own-in-Ty-clause-given
returns-in_ok-own-in-Ty-clause-given c = means-bind c.phrase.view_is c.in-Ty.is c.in_ok-own-in-Ty.ensures (bind_ty c.in_ok-found-in-Ty.ensures.given c.in_ok-made-in-Ty.ensures)

pub returns-in_ok-own-in-Module-clause-given : goal.returns-in_ok-own-in-Module-clause-given
returns-in_ok-own-in-Module-clause-given c = means-bind c.phrase.view_is c.in-Module.is c.in_ok-own-in-Module.ensures (bind_module c.in_ok-made-in-Module.ensures.given)

pub returns-in_ok-own-in-Signature-clause-given : goal.returns-in_ok-own-in-Signature-clause-given
returns-in_ok-own-in-Signature-clause-given c = means-bind c.phrase.view_is c.in-Signature.is c.in_ok-own-in-Signature.ensures (bind_signature c.in_ok-found-in-Signature.ensures.given c.in_ok-made-in-Signature.ensures)
