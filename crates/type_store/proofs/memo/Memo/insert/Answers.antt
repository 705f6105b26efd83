use Rattle.std.proofs.Common.{refl, sym, subst}
use Rattle.type_store.specs.Inner.Memo.{IsNoted, Key}
use Rattle.type_store.specs.declared.memo.Memo.{Memo}
use Rattle.type_store.proofs.MemoSteps.{noted-first, noted-rest, noted-then}
use Rattle.type_store.proofs.memo.Memo.insert.Goals as goal
use Rattle.type_store.proofs.memo.Memo.insert.Goals.{else-place-eq0-via-then-place-eq0+in_ok-note_first+else-branch, else-place-eq0-via-else-place-eq0}

pub returns : goal.returns
returns c =
    let old : Memo = c.args.self.now in
    let mid : Memo = c.else-place-eq0.self in
    let new : Memo = record { firsts = c.else-place-eq0.self.firsts; rest = c.insert.new.self } in
    let key : Key = (c.args.number, c.args.place, c.args.with) in
    let rest : IsNoted mid new key c.args.value = noted-rest mid new key c.args.value (λ i. refl) c.in_ok-insert.ensures.updates.0 in
    elim c.else-place-eq0.branch [
      | else-place-eq0-via-then-place-eq0+in_ok-note_first+else-branch w ↦
          let first : Memo = record { firsts = w.note_first.new.firsts; rest = old.rest } in
          noted-then old mid new key c.args.value
          (subst (λ m. IsNoted old m key c.args.value) (sym w.self-is)
          (noted-first old first key c.args.value refl w.if-place-eq0.true w.note_first.ensures)) rest
      | else-place-eq0-via-else-place-eq0 w ↦ subst (λ m. IsNoted m new key c.args.value) w.self-is rest
    ]
