-- What a draft holds once a command has been answered is what the call returns.
-- Main results: same_room, replied.
use Rattle.std.proofs.Common.{◌≡◌, ℕ, ◌<◌, ◌≤◌, List, [], ◌∷◌, ◌++◌, length, drop, get_or, Option, refl, sym, ap, subst, ◌∙◌}
use Rattle.std.specs.Option.{unwrap_or}
use Rattle.std.specs.Io.KnownBytes.{Appends}
use Rattle.omega_checker.specs.Judgment.{Judgment}
use Rattle.fing_gen.specs.Source.{source_text}
use Rattle.fing_words.specs.CommandLines.{IsCommandLine}
use Rattle.fing_words.specs.declared.command_line.CommandLine.{CommandLine}
use Rattle.fing_words.specs.declared.command_line.CommandLine.TheVariants as command
use Rattle.fing_top.specs.Answer.{limit, Change, change, Output, output, Untouched, AnswersBytes, IsWritten, IsBroken}
use Rattle.fing_top.specs.Reply.{Reply, Replies, IsOnlyReply}
use Rattle.fing_top.specs.declared.status.Status.{Status}
use Rattle.fing_top.specs.declared.status.Status.TheVariants as status
use Rattle.fing_top.proofs.Replies.{one_reply}
use Rattle.fing_c.specs.Inner.Drafted.{Drafted, draft_told}
use Rattle.fing_c.specs.Inner.Returns.{IsWhole, IsCut, Replied, IsGiven, IsReplied, Returns}

-- a draft with nothing written
abbrev pub empty : ℕ → Drafted
empty room = record { written = []; room = room; faults = 0 }

same_room_and_text : (room new : ℕ) (written text : List ℕ) → new ∷ written ≡ room ∷ text → (new ≡ room) × (written ≡ text)
same_room_and_text room new written text e = (ap (λ l. get_or l 0 0) e, ap (drop 1) e)

-- what was appended to an empty draft is all that is written, and the room is the same
grown : (room : ℕ) (old new : Drafted) (text : List ℕ) → old ≡ empty room → Appends (draft_told old).bytes (draft_told new).bytes text → (new.room ≡ room) × (new.written ≡ text)
grown room old new text e a = same_room_and_text room new.room new.written text (subst (λ (d : Drafted). Appends (draft_told d).bytes (draft_told new).bytes text) e a)

-- an answer to all the bytes that a command answers for, over a draft that was empty
module _ (c : CommandLine) (bytes : List ℕ) (room : ℕ) (old new : Drafted) (confirmed : Change (Option Judgment)) (is_empty : old ≡ empty room) where
  abbrev out : Output
  out = output (change (draft_told old) (draft_told new)) confirmed

  untouched : Untouched out → (new.room ≡ room) × (new.written ≡ [])
  untouched u = same_room_and_text room new.room new.written [] (ap (λ t. unwrap_or t.bytes []) u.0 ∙ ap (λ (d : Drafted). d.room ∷ d.written) is_empty)

  one : (reply : Reply) → Replies c bytes reply → IsOnlyReply c bytes reply
  one reply r = record { replies = r; only = λ other o. one_reply c bytes reply other r o }

  whole : (a : Status) → IsWritten c bytes out a → IsWhole c bytes new.written a
  whole a w = record { reply = w.reply; one = one w.reply w.replies; status = w.status; text = (grown room old new w.reply.text is_empty w.written.taken).1 }

  cut : IsBroken c bytes out → length new.written ≡ new.room → IsCut c bytes room new.written
  cut w full =
      let same = grown room old new w.written.front is_empty w.written.taken in
      record {
        reply = w.reply;
        one = one w.reply w.replies;
        rest = w.written.rest;
        parts = w.written.parts ∙ ap (λ (l : List ℕ). l ++ w.written.rest) (sym same.1);
        left = w.written.left;
        full = full ∙ same.0;
      }

  -- what is answered leaves the room of the buffer as it was
  pub same_room : (a : Status) → AnswersBytes c bytes out a → new.room ≡ room
  same_room status.Ok w = (grown room old new w.reply.text is_empty w.written.taken).0
  same_room status.Refused w = (grown room old new w.reply.text is_empty w.written.taken).0
  same_room status.Faulted w = (grown room old new w.reply.text is_empty w.written.taken).0
  same_room status.Spent w = (grown room old new w.reply.text is_empty w.written.taken).0
  same_room status.WriteFault w = (grown room old new w.written.front is_empty w.written.taken).0
  same_room status.NoMemory w = (untouched w).0
  same_room status.Words w = absurd w
  same_room status.ReadFault w = absurd w
  same_room status.TooLong w = absurd w

  -- what is answered for all bytes is the reply that is written into the room
  pub replied : (a : Status) → AnswersBytes c bytes out a → (a ≡ status.WriteFault → length new.written ≡ new.room) → Replied c bytes room new.written a
  replied status.Ok w full = whole status.Ok w
  replied status.Refused w full = whole status.Refused w
  replied status.Faulted w full = whole status.Faulted w
  replied status.Spent w full = whole status.Spent w
  replied status.WriteFault w full = cut w (full refl)
  replied status.NoMemory w full = (untouched w).1
  replied status.Words w full = absurd w
  replied status.ReadFault w full = absurd w
  replied status.TooLong w full = absurd w

-- what is answered for the bytes of a command is returned for the words that are the command line
module _ (words : List (List ℕ)) (source : List ℕ) (room : ℕ) (written : List ℕ) where
  returned : (c : CommandLine) (bytes : List ℕ) (answer : Status) → IsCommandLine words c → IsGiven c source bytes → Replied c bytes room written answer → Returns words source room written answer
  returned c bytes answer line given r = by answer r
    where
      of_reply : (a : Status) → Replied c bytes room written a → IsReplied words source room written a
      of_reply a q = record { command = c; line = line; bytes = bytes; given = given; replied = q }

      by : (a : Status) → Replied c bytes room written a → Returns words source room written a
      by status.Ok q = of_reply status.Ok q
      by status.Refused q = of_reply status.Refused q
      by status.Faulted q = of_reply status.Faulted q
      by status.Spent q = of_reply status.Spent q
      by status.WriteFault q = of_reply status.WriteFault q
      by status.NoMemory q = q
      by status.Words q = absurd q
      by status.ReadFault q = absurd q
      by status.TooLong q = absurd q

  pub returned_generated : (size : ℕ) (answer : Status) → Replied (command.Gen size) (source_text size) room written answer → IsCommandLine words (command.Gen size) → Returns words source room written answer
  returned_generated size answer r line = returned (command.Gen size) (source_text size) answer line refl r

  pub returned_source : (c : CommandLine) (answer : Status) → ((size : ℕ) → c ≡ command.Gen size → ⊥) → length source ≤ limit → Replied c source room written answer → IsCommandLine words c → Returns words source room written answer
  returned_source (command.Gen size) answer reads within r line = absurd (reads size refl)
  returned_source command.Check answer reads within r line = returned command.Check source answer line (refl, within) r
  returned_source (command.Emit simplify) answer reads within r line = returned (command.Emit simplify) source answer line (refl, within) r
  returned_source (command.Run budget) answer reads within r line = returned (command.Run budget) source answer line (refl, within) r
  returned_source command.Verify answer reads within r line = returned command.Verify source answer line (refl, within) r
  returned_source command.Link answer reads within r line = returned command.Link source answer line (refl, within) r

  pub too_long : (c : CommandLine) → ((size : ℕ) → c ≡ command.Gen size → ⊥) → limit < length source → written ≡ [] → IsCommandLine words c → Returns words source room written status.TooLong
  too_long (command.Gen size) reads over none line = absurd (reads size refl)
  too_long command.Check reads over none line = ((command.Check, line, tt), over, none)
  too_long (command.Emit simplify) reads over none line = ((command.Emit simplify, line, tt), over, none)
  too_long (command.Run budget) reads over none line = ((command.Run budget, line, tt), over, none)
  too_long command.Verify reads over none line = ((command.Verify, line, tt), over, none)
  too_long command.Link reads over none line = ((command.Link, line, tt), over, none)
