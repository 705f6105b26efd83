-- What the rest of a structure means, with its pure bindings gathered.
use Rattle.std.specs.Prelude.{List}
use Rattle.omega_kinds.specs.Name.{Name}
use Rattle.sig_definitions.specs.Env.{Env, kinds}
use Rattle.sig_definitions.specs.Signatures.Sig.{Module}
use Rattle.fing_syntax.specs.Phrase.{Binds}
use Rattle.elab_judgments.specs.Judgments.Meaning.{BindsMean}
use Rattle.module_rests.specs.Inner.Rests.{Comes}
use Rattle.module_rests.specs.declared.rests.Rest.{Rest}

-- it comes to a module that the bindings mean
abbrev pub RestMeans : Env → List Name → Binds → Rest → Type 0
RestMeans g before bs r = (m : Module) × BindsMean g before bs m × Comes (kinds g) r m
