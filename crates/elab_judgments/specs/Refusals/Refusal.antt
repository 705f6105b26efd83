-- Refusals in an environment, and forms of types and signatures that they speak of.
use Rattle.std.specs.Prelude.{length}
use Rattle.sig_definitions.specs.Env.{Env, kinds}
use Rattle.sig_definitions.specs.Matching.MatchRefusal.{MatchRefusal}
use Rattle.fing_syntax.specs.Phrase.{Span}
use Rattle.core_judgments.specs.CoreWhy.{CoreWhy}
use Rattle.core_judgments.specs.DataRules.{DataWhy}
use Rattle.sig_judgments.specs.SigWhy.{SigWhy}
use Rattle.module_judgments.specs.ModWhy.{ModWhy}
use Rattle.package_judgments.specs.Package.{UnpackWhy}
use Rattle.refusal_reasons.specs.Refusal.{Refusal, Refuse, ElabWhy}

-- a refusal in this environment
abbrev pub refuse : Env → Span → ElabWhy → Refusal
refuse g at why = Refuse at (length (kinds g)) why

-- a refusal of matching in this environment; a clash has its own number of variables
abbrev pub refuse_match : Env → Span → MatchRefusal → Refusal
refuse_match g at (MatchRefusal.NoRoot n p) = refuse g at (ElabWhy.NoRoot n p)
refuse_match g at (MatchRefusal.Clash variables p why) = Refuse at variables (ElabWhy.Clash p why)

-- why a rule of types or expressions is refused
abbrev pub of_core : CoreWhy → ElabWhy
of_core (CoreWhy.NotArrow t) = ElabWhy.NotArrow t
of_core (CoreWhy.NotAll t) = ElabWhy.NotAll t
of_core (CoreWhy.NotRecord t) = ElabWhy.NotRecord t
of_core (CoreWhy.NotSum t) = ElabWhy.NotSum t
of_core (CoreWhy.NoField l) = ElabWhy.NoField l
of_core (CoreWhy.NoBranch l) = ElabWhy.NoBranch l
of_core (CoreWhy.Differ t u) = ElabWhy.Differ t u
of_core (CoreWhy.KindDiffer k j) = ElabWhy.KindDiffer k j
of_core CoreWhy.NotOperator = ElabWhy.NotOperator
of_core (CoreWhy.DuplicateField l) = ElabWhy.DuplicateField l

-- why a rule of recursive types is refused
abbrev pub of_data : DataWhy → ElabWhy
of_data (DataWhy.NotData t) = ElabWhy.NotData t
of_data (DataWhy.Differ t u) = ElabWhy.Differ t u
of_data (DataWhy.KindDiffer k j) = ElabWhy.KindDiffer k j

-- why a rule of signatures or declarations is refused
abbrev pub of_sig : SigWhy → ElabWhy
of_sig (SigWhy.NotAbstract p) = ElabWhy.NotAbstract p
of_sig (SigWhy.NoPart l) = ElabWhy.NoPart l
of_sig (SigWhy.Duplicate l) = ElabWhy.Duplicate l
of_sig (SigWhy.KindDiffer k j) = ElabWhy.KindDiffer k j
of_sig SigWhy.NotStructure = ElabWhy.NotStructure

-- why a rule of modules is refused
abbrev pub of_mod : ModWhy → ElabWhy
of_mod (ModWhy.Unbound l) = ElabWhy.Unbound l
of_mod (ModWhy.NoPart l) = ElabWhy.NoPart l
of_mod ModWhy.NotStructure = ElabWhy.NotStructure
of_mod ModWhy.NotFunctor = ElabWhy.NotFunctor
of_mod ModWhy.WrongPath = ElabWhy.WrongPath
of_mod ModWhy.Escapes = ElabWhy.Escapes

-- why unpacking is refused
abbrev pub of_unpack : UnpackWhy → ElabWhy
of_unpack (UnpackWhy.Differ t u) = ElabWhy.Differ t u
