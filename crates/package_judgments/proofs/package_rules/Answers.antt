use Rattle.package_judgments.proofs.package_rules.Goals as goal
use Rattle.package_judgments.proofs.Verdicts.{one_pack_type, one_pack, one_unpack}

pub returns-clause-pack_type : goal.returns-clause-pack_type
returns-clause-pack_type c = one_pack_type

pub returns-clause-pack : goal.returns-clause-pack
returns-clause-pack c = one_pack

pub returns-clause-unpack : goal.returns-clause-unpack
returns-clause-unpack c = one_unpack
