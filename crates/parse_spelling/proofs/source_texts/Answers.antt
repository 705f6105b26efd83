use Rattle.parse_spelling.proofs.Theorems.{emitted_are_typed, emitted_in_scope, emitted_have_text, emitted_read_back, sources_have_text}
use Rattle.parse_spelling.proofs.source_texts.Goals as goal

pub returns-clause-typed : goal.returns-clause-typed
returns-clause-typed c = emitted_are_typed

pub returns-clause-scope : goal.returns-clause-scope
returns-clause-scope c = emitted_in_scope

pub returns-clause-spelled : goal.returns-clause-spelled
returns-clause-spelled c = emitted_have_text

pub returns-clause-read_back : goal.returns-clause-read_back
returns-clause-read_back c = emitted_read_back

pub returns-clause-sources : goal.returns-clause-sources
returns-clause-sources c = sources_have_text
