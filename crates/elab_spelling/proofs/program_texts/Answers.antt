use Rattle.elab_spelling.proofs.program_texts.Goals as goal
use Rattle.elab_spelling.proofs.Theorems.{programs_have_text, programs_read_back}

pub returns-clause-spelled : goal.returns-clause-spelled
returns-clause-spelled c = programs_have_text

pub returns-clause-read_back : goal.returns-clause-read_back
returns-clause-read_back c = programs_read_back
