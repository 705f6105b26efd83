-- What the code's modules are seen as.
use Rattle.semantic_sigs.specs.declared.made.Module.{Module as CodeModule}
use Rattle.sig_definitions.specs.Signatures.Sig.{Module, made}

abbrev pub module_of : CodeModule → Module
module_of m = made m.effect m.sig m.types m.term
