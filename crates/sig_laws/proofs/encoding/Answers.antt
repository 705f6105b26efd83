use Rattle.sig_laws.proofs.encoding.Goals as goal
use Rattle.sig_laws.proofs.Encoded.EncLaws.{enc-kind, enc_abs-kind}
use Rattle.sig_laws.proofs.Encoded.EncodingLaws.{enc-substitute, enc_abs-substitute, enc-rename, enc_abs-rename}

pub returns-clause-substitute : goal.returns-clause-substitute
returns-clause-substitute c = enc-substitute

pub returns-clause-abs_substitute : goal.returns-clause-abs_substitute
returns-clause-abs_substitute c = enc_abs-substitute

pub returns-clause-rename : goal.returns-clause-rename
returns-clause-rename c = enc-rename

pub returns-clause-abs_rename : goal.returns-clause-abs_rename
returns-clause-abs_rename c = enc_abs-rename

pub returns-clause-kind : goal.returns-clause-kind
returns-clause-kind c = λ ctx a h. enc-kind h

pub returns-clause-abs_kind : goal.returns-clause-abs_kind
returns-clause-abs_kind c = λ ctx x h. enc_abs-kind h
