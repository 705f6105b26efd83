use Rattle.sig_match_laws.proofs.any_types.Goals as goal
use Rattle.sig_match_laws.proofs.AnyTypes.AnyTypes.{matches_exactly, match_sig_finds, match_sig_matches}
use Rattle.sig_match_laws.proofs.AnyTypes.AnyTypesSubst.{matches_substitute}
use Rattle.sig_match_laws.proofs.AnyTypes.Decides.{match_sig_refuses, sub_abs_finds}

pub returns-clause-exactly : goal.returns-clause-exactly
returns-clause-exactly c = matches_exactly

pub returns-clause-finds : goal.returns-clause-finds
returns-clause-finds c = match_sig_finds

pub returns-clause-matches : goal.returns-clause-matches
returns-clause-matches c = match_sig_matches

pub returns-clause-substitute : goal.returns-clause-substitute
returns-clause-substitute c = matches_substitute

pub returns-clause-refuses : goal.returns-clause-refuses
returns-clause-refuses c = match_sig_refuses

pub returns-clause-abs : goal.returns-clause-abs
returns-clause-abs c = sub_abs_finds
