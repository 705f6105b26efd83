use Rattle.elab_examples.proofs.rows.Goals as goal
use Rattle.elab_examples.proofs.SmallRows.{empty_program, sum_program}
use Rattle.elab_examples.proofs.Sealing.{sealing_program}
use Rattle.elab_examples.proofs.Packages.{packages_program}
use Rattle.elab_examples.proofs.FunctorRest.{functor_program}
use Rattle.elab_examples.proofs.CoercionTest.{functor_coercion}
use Rattle.elab_examples.proofs.Including.{include_means, fixing_t, fixing_u, project_means}
use Rattle.elab_examples.proofs.Functors.{generative_means}
use Rattle.elab_examples.proofs.FromOutside.{outside_project, outside_seq}
use Rattle.elab_examples.proofs.Refusals.{hidden_sum_refused, unmatched_refused, missing_refused, other_type_refused}
use Rattle.elab_examples.proofs.Sharing.{generative_refused, applicative_shares}
use Rattle.elab_examples.proofs.Sums.{case_program, data_program}

pub returns-clause-empty : goal.returns-clause-empty
returns-clause-empty c = empty_program

pub returns-clause-sum : goal.returns-clause-sum
returns-clause-sum c = sum_program

pub returns-clause-sealing : goal.returns-clause-sealing
returns-clause-sealing c = sealing_program

pub returns-clause-packages : goal.returns-clause-packages
returns-clause-packages c = packages_program

pub returns-clause-functor : goal.returns-clause-functor
returns-clause-functor c = functor_program

pub returns-clause-coercion : goal.returns-clause-coercion
returns-clause-coercion c = functor_coercion

pub returns-clause-including : goal.returns-clause-including
returns-clause-including c = include_means

pub returns-clause-fixing_t : goal.returns-clause-fixing_t
returns-clause-fixing_t c = fixing_t

pub returns-clause-fixing_u : goal.returns-clause-fixing_u
returns-clause-fixing_u c = fixing_u

pub returns-clause-projecting : goal.returns-clause-projecting
returns-clause-projecting c = project_means

pub returns-clause-generative : goal.returns-clause-generative
returns-clause-generative c = generative_means

pub returns-clause-outside_project : goal.returns-clause-outside_project
returns-clause-outside_project c = outside_project

pub returns-clause-outside_seq : goal.returns-clause-outside_seq
returns-clause-outside_seq c = outside_seq

pub returns-clause-hidden_sum : goal.returns-clause-hidden_sum
returns-clause-hidden_sum c = hidden_sum_refused

pub returns-clause-unmatched : goal.returns-clause-unmatched
returns-clause-unmatched c = unmatched_refused

pub returns-clause-missing : goal.returns-clause-missing
returns-clause-missing c = missing_refused

pub returns-clause-other_type : goal.returns-clause-other_type
returns-clause-other_type c = other_type_refused

pub returns-clause-twice_generative : goal.returns-clause-twice_generative
returns-clause-twice_generative c = generative_refused

pub returns-clause-twice_applicative : goal.returns-clause-twice_applicative
returns-clause-twice_applicative c = applicative_shares

pub returns-clause-case_of : goal.returns-clause-case_of
returns-clause-case_of c = case_program

pub returns-clause-data : goal.returns-clause-data
returns-clause-data c = data_program
