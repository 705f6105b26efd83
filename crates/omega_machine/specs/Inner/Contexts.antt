-- Evaluation contexts: frames, and the closed term that stands where a term is put into their hole (Felleisen and Hieb, "The
-- revised report on the syntactic theories of sequential control and state", 1992).
use Rattle.std.specs.Prelude.{◌+◌, List, [], ◌∷◌, ◌++◌, length, drop}
use Rattle.omega_types.specs.Ty.{Ty}
use Rattle.omega_terms.specs.Term.{Term, TermRow}
use Rattle.omega_terms.specs.Fields.{TermPairs, term_row}
use Rattle.omega_machine.specs.declared.frames.Waiting.{Waiting}
use Rattle.omega_machine.specs.declared.frames.Waiting.TheVariants as waiting
use Rattle.omega_machine.specs.declared.frames.Ready.{Ready}
use Rattle.omega_machine.specs.declared.frames.Ready.TheVariants as ready
use Rattle.omega_machine.specs.declared.frames.Frame.{Frame}
use Rattle.omega_machine.specs.declared.frames.Frame.TheVariants as frame
use Rattle.omega_machine.specs.declared.frames.Focus.{Focus}
use Rattle.omega_machine.specs.declared.frames.Focus.TheVariants as focus

-- the fields of a record, as a list
abbrev pub row_pairs : TermRow → TermPairs
row_pairs TermRow.End = []
row_pairs (TermRow.More l e rest) = (l, e) ∷ row_pairs rest

abbrev pub fields_of : Term → TermPairs
fields_of (Term.Fields row) = row_pairs row
fields_of _ = []

-- the fields after those that are done
abbrev pub left : (whole : Term) (done : TermPairs) → TermPairs
left whole done = drop (length done) (fields_of whole)

-- the fields after the next one
abbrev pub rest : (whole : Term) (done : TermPairs) → TermPairs
rest whole done = drop (length done + 1) (fields_of whole)

-- the record with some of its first fields done
abbrev pub with_done : (whole : Term) (done : TermPairs) → Term
with_done whole done = Term.Fields (term_row (done ++ left whole done))

-- the fields with the term in the first one
abbrev pub with_first : Term → TermPairs → TermPairs
with_first e [] = []
with_first e (x ∷ xs) = (x.0, e) ∷ xs

-- the type that a case names, and its branches
abbrev pub result_of : Term → Ty
result_of (Term.Case e t row) = t
result_of _ = Ty.Int

abbrev pub branches_of : Term → TermRow
branches_of (Term.Case e t row) = row
branches_of _ = TermRow.End

-- the case with the term in the place of what it is of
abbrev pub case_of : (whole : Term) → Term → Term
case_of whole e = Term.Case e (result_of whole) (branches_of whole)

abbrev pub fill_waiting : Waiting → Term → Term
fill_waiting (waiting.Function a) e = Term.Call e a
fill_waiting (waiting.Left op b) e = Term.Arith op e b
fill_waiting (waiting.Packed t u) e = Term.Pack t e u
fill_waiting (waiting.Field whole done) e = Term.Fields (term_row (done ++ with_first e (left whole done)))
fill_waiting (waiting.Injected l t) e = Term.Inj l e t
fill_waiting (waiting.Rolled t) e = Term.Roll e t

abbrev pub fill_ready : Ready → Term → Term
fill_ready (ready.Argument f) e = Term.Call f e
fill_ready (ready.Instance t) e = Term.Inst e t
fill_ready (ready.Part l) e = Term.Get e l
fill_ready (ready.Opened b) e = Term.Unpack e b
fill_ready (ready.Test b c) e = Term.If e b c
fill_ready (ready.Right op a) e = Term.Arith op a e
fill_ready (ready.Cased whole) e = case_of whole e
fill_ready ready.Unrolled e = Term.Unroll e

-- the frame with the term in its hole
abbrev pub fill : Frame → Term → Term
fill (frame.Waiting f) e = fill_waiting f e
fill (frame.Ready f) e = fill_ready f e

-- the frames, the outermost first, with the term in the hole of the innermost
abbrev pub plug : List Frame → Term → Term
plug [] e = e
plug (f ∷ fs) e = fill f (plug fs e)

abbrev pub term_in : Focus → Term
term_in (focus.Term e) = e
term_in (focus.Value v) = v
