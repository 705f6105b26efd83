-- The derivations of the small programs.
-- Main results: empty_program, sum_program.
use Rattle.std.specs.Prelude.{[]}
use Rattle.std.proofs.Math.Path.{refl}
use Rattle.omega_kinds.specs.declared.effect.Effect.TheVariants.{Pure}
use Rattle.omega_types.specs.Kinding.HasKind.{k_int}
use Rattle.omega_types.specs.Normality.Normal.{n_int}
use Rattle.omega_types.specs.Conversion.Conv.{c_refl}
use Rattle.omega_types.specs.Binders.{NormalForms}
use Rattle.omega_terms.specs.Shorthands.{Packs}
use Rattle.omega_terms.specs.Term.{Term, TermRow}
use Rattle.omega_terms.specs.Instance.{Instance, Instances}
use Rattle.sig_definitions.specs.Signatures.Sig.{Sig, Abs, SigRow, made}
use Rattle.sig_definitions.specs.Signatures.Alike.{AlikeSig}
use Rattle.sig_definitions.specs.Packing.{Packed}
use Rattle.core_judgments.specs.ExpRules.{OperationGives, LiteralGives}
use Rattle.module_judgments.specs.Sequence.{Seq, Collected}
use Rattle.module_judgments.specs.ModRules.{ValueGives as ValueModule}
use Rattle.elab_judgments.specs.Judgments.Meaning.{ExpMeans, OpsMean, BindMeans, BindsMean}
use Rattle.elab_judgments.specs.Judgments.Program.{ProgramMeans}
use Rattle.elab_laws.proofs.TypedClaims.{whole_is_typed}
use Rattle.fing_syntax.specs.Phrase.{NoBinds}
use Rattle.omega_types.specs.Ty.{Ty}
use Rattle.elab_examples.specs.Rows.{EmptyProgram, SumProgram, sum, sum_term, x}

empty_means : ProgramMeans NoBinds (made Pure (Abs.Ex [] (Sig.Str SigRow.End)) [] (Term.Fields TermRow.End)) (Term.Fields TermRow.End)
empty_means = ProgramMeans.program (BindsMean.no_binds Collected.none) (Packed.pure Packs.none)

-- the empty program means the empty structure
pub empty_program : EmptyProgram
empty_program = (empty_means, whole_is_typed NoBinds Pure (Abs.Ex [] (Sig.Str SigRow.End)) [] _ _ empty_means)

sum_means : ProgramMeans sum (made Pure (Abs.Ex [] (Sig.Str (SigRow.More x (Sig.Val Ty.Int) SigRow.End))) [] sum_term) sum_term
sum_means =
    ProgramMeans.program
    (BindsMean.next_bind
    (BindMeans.bind_val (ExpMeans.exp_ops (ExpMeans.exp_int LiteralGives.int) (OpsMean.next_op (ExpMeans.exp_int LiteralGives.int) OperationGives.operation OpsMean.no_ops)) ValueModule.value)
    (BindsMean.no_binds (Collected.next refl Collected.none))
    (Seq.both_pure (AlikeSig.val (n_int, c_refl k_int)) NormalForms.none (Instance.fields (Instances.more Instance.var Instances.end))))
    (Packed.pure Packs.none)

-- the program `val x = 1 + 2` means what is stated of it
pub sum_program : SumProgram
sum_program = (sum_means, whole_is_typed sum Pure (Abs.Ex [] (Sig.Str (SigRow.More x (Sig.Val Ty.Int) SigRow.End))) [] _ _ sum_means)
