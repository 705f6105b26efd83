-- The loop that looks for the next redex.
-- Main results: from-term, from-frame, ready-found, down-stands, up-stands.
use Rattle.std.proofs.Common.{◌≡◌, ℕ, ◌+◌, ◌*◌, ◌<◌, List, [], ◌∷◌, ◌++◌, length, refl, sym, ap, ◌∙◌, subst, arith}
use Rattle.omega_terms.specs.Term.{Term}
use Rattle.omega_terms.specs.Inner.Size.{term_size}
use Rattle.omega_terms.specs.Steps.{IsValue}
use Rattle.omega_machine.specs.declared.frames.Waiting.{Waiting}
use Rattle.omega_machine.specs.declared.frames.Ready.{Ready}
use Rattle.omega_machine.specs.declared.frames.Frame.{Frame}
use Rattle.omega_machine.specs.declared.frames.Frame.TheVariants as frame
use Rattle.omega_machine.specs.declared.frames.Focus.{Focus}
use Rattle.omega_machine.specs.declared.frames.Focus.TheVariants as focus
use Rattle.omega_machine.specs.declared.refocus.Move.{Move}
use Rattle.omega_machine.specs.declared.refocus.Move.TheVariants as move
use Rattle.omega_machine.specs.Inner.Contexts.{fill, fill_waiting, fill_ready, plug, term_in}
use Rattle.omega_machine.specs.Inner.Moves.{IsTyped, IsSound, IsSoundWaiting, IsSoundReady, AreSound, IsSoundFocus, IsSoundMove, waiting_work, frame_work, focus_work, move_work, work, moved, Moves}
use Rattle.omega_machine.proofs.Plugs.{plug-more, sound-more, sound-less, work-more, plug-typed}

-- the focus stands in sound frames, and the whole is the term
pub record Stands (whole : Term) (fs : List Frame) (x : Focus) : Type 0 where
  pub same : plug fs (term_in x) ≡ whole
  pub frames : AreSound fs
  pub in_hole : IsSoundFocus x

-- a move goes on with the whole, and leaves less work
pub record Onward (whole : Term) (most : ℕ) (fs : List Frame) (m : Move) : Type 0 where
  pub same : plug fs (moved m) ≡ whole
  pub frames : AreSound fs
  pub sound : IsSoundMove m
  pub less : work fs + move_work m < most

-- the work that is left in frames and in the focus
abbrev pub left_work : List Frame → Focus → ℕ
left_work fs x = work fs + focus_work x

-- a term in focus is typed if the whole is
pub typed-term : (whole : Term) (fs : List Frame) (x : Focus) (e : Term) → IsTyped whole → Stands whole fs x → x ≡ focus.Term e → IsTyped e
typed-term whole fs x e t s p = plug-typed fs e s.frames (subst IsTyped (sym s.same ∙ ap (λ y. plug fs (term_in y)) p) t)

-- the move from a term in focus keeps the whole and leaves less work
pub from-term : (whole : Term) (fs gs : List Frame) (x : Focus) (e : Term) (m : Move) → Stands whole fs x → x ≡ focus.Term e → gs ≡ fs → Moves e (3 * term_size e) m → Onward whole (left_work fs x) gs m
from-term whole fs gs x e m s p q h =
    subst (λ ks. Onward whole (left_work fs x) ks m) (sym q) (record {
      same = ap (plug fs) h.same ∙ (ap (λ y. plug fs (term_in y)) (sym p) ∙ s.same);
      frames = s.frames;
      sound = h.sound;
      less = omega (arith, h.less, ap focus_work p);
    })

-- a value in focus is a value
pub value-in : (whole : Term) (fs : List Frame) (x : Focus) (v : Term) → Stands whole fs x → x ≡ focus.Value v → IsValue v
value-in whole fs x v s p = subst IsSoundFocus p s.in_hole

-- the frames without the innermost, and it
pub record Popped (whole : Term) (gs : List Frame) (f : Frame) (v : Term) (most : ℕ) : Type 0 where
  pub same : plug gs (fill f v) ≡ whole
  pub frames : AreSound gs
  pub frame : IsSound f
  pub work_is : most ≡ work gs + frame_work f

-- the innermost frame, taken off for the value in focus, keeps the whole
pub popped : (whole : Term) (fs gs : List Frame) (x : Focus) (v : Term) (f : Frame) → Stands whole fs x → x ≡ focus.Value v → fs ≡ gs ++ f ∷ [] → Popped whole gs f v (left_work fs x)
popped whole fs gs x v f s p q =
    let sound = sound-less gs f (subst AreSound q s.frames) in
    record {
      same = sym (plug-more gs f v) ∙ (ap (λ ks. plug ks v) (sym q) ∙ (ap (λ y. plug fs (term_in y)) (sym p) ∙ s.same));
      frames = sound.0;
      frame = sound.1;
      work_is = omega (arith, ap work q, ap focus_work p, work-more gs f);
    }

-- a frame that was taken off, if it waits, waits soundly
pub waiting-sound : (whole : Term) (gs : List Frame) (f : Frame) (w : Waiting) (v : Term) (most : ℕ) → Popped whole gs f v most → f ≡ frame.Waiting w → IsSoundWaiting w
waiting-sound whole gs f w v most h p = subst IsSound p h.frame

-- the move from a waiting frame keeps the whole and leaves less work
pub from-frame : (whole : Term) (gs ks : List Frame) (f : Frame) (w : Waiting) (v : Term) (most : ℕ) (m : Move) → Popped whole gs f v most → f ≡ frame.Waiting w → ks ≡ gs → Moves (fill_waiting w v) (waiting_work w) m → Onward whole most ks m
from-frame whole gs ks f w v most m h p q n =
    subst (λ k. Onward whole most k m) (sym q) (record {
      same = ap (plug gs) n.same ∙ (ap (λ g. plug gs (fill g v)) (sym p) ∙ h.same);
      frames = h.frames;
      sound = n.sound;
      less = omega (arith, n.less, h.work_is, ap frame_work p);
    })

-- a frame that is ready, with the value in focus, is a redex in the frames around it
pub ready-found : (whole : Term) (gs : List Frame) (f : Frame) (r : Ready) (v : Term) (most : ℕ) → Popped whole gs f v most → f ≡ frame.Ready r → IsValue v → (plug gs (fill_ready r v) ≡ whole) × AreSound gs × IsSoundReady r × IsValue v
ready-found whole gs f r v most h p w = (ap (λ g. plug gs (fill g v)) (sym p) ∙ h.same, h.frames, subst IsSound p h.frame, w)

-- frames of which there are none are the empty list
pub no-frames : (fs : List Frame) → length fs ≡ 0 → fs ≡ []
no-frames [] h = refl
no-frames (f ∷ fs) h = absurd (omega arith)

-- a value in focus in no frames is the whole
pub value-found : (whole : Term) (fs gs : List Frame) (x : Focus) (v : Term) → Stands whole fs x → x ≡ focus.Value v → fs ≡ gs ++ [] → gs ≡ [] → (v ≡ whole) × IsValue v
value-found whole fs gs x v s p q r =
    (ap (λ ks. plug ks v) (sym (q ∙ ap (λ ks. ks ++ []) r)) ∙ (ap (λ y. plug fs (term_in y)) (sym p) ∙ s.same), value-in whole fs x v s p)

-- ---- what the move becomes

-- after a move down, the part is in focus in one more frame
pub down-stands : (whole : Term) (most : ℕ) (gs ks : List Frame) (m : Move) (f : Frame) (e : Term) → Onward whole most gs m → m ≡ move.Down f e → ks ≡ gs ++ f ∷ [] → Stands whole ks (focus.Term e)
down-stands whole most gs ks m f e h p q =
    subst (λ k. Stands whole k (focus.Term e)) (sym q) (record {
      same = plug-more gs f e ∙ (ap (λ n. plug gs (moved n)) (sym p) ∙ h.same);
      frames = sound-more gs f h.frames (subst IsSoundMove p h.sound);
      in_hole = tt;
    })

-- a move down leaves less work
pub down-less : (whole : Term) (most : ℕ) (gs ks : List Frame) (m : Move) (f : Frame) (e : Term) → Onward whole most gs m → m ≡ move.Down f e → ks ≡ gs ++ f ∷ [] → left_work ks (focus.Term e) < most
down-less whole most gs ks m f e h p q = omega (arith, h.less, ap move_work p, ap work q, work-more gs f)

-- after a move up, the value is in focus in the same frames
pub up-stands : (whole : Term) (most : ℕ) (gs : List Frame) (m : Move) (v : Term) → Onward whole most gs m → m ≡ move.Up v → Stands whole gs (focus.Value v)
up-stands whole most gs m v h p = record { same = ap (λ n. plug gs (moved n)) (sym p) ∙ h.same; frames = h.frames; in_hole = subst IsSoundMove p h.sound }

-- a move up leaves less work
pub up-less : (whole : Term) (most : ℕ) (gs : List Frame) (m : Move) (v : Term) → Onward whole most gs m → m ≡ move.Up v → left_work gs (focus.Value v) < most
up-less whole most gs m v h p = omega (arith, h.less, ap move_work p)
