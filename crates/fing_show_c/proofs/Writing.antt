-- As much of a text as was copied to a page is its whole, or a beginning that fills the room.
-- Main results: whole, cut.
use Rattle.std.proofs.Common.{◌≡◌, ℕ, ◌<◌, ◌≤◌, List, ◌++◌, length, take, drop, arith, sym, ap, ◌∙◌}
use Rattle.std.proofs.lemmas.List.{length-drop, length-take-le, take-append-drop, take_all}
use Rattle.fing_show.specs.declared.showing.Verdict.{Verdict}
use Rattle.fing_show_c.specs.Inner.Returns.{IsWritten, page_status}
use Rattle.fing_show_c.specs.declared.answering.Status.TheVariants as status

module _ (v : Verdict) (text written : List ℕ) (count room : ℕ) (same : written ≡ take count text) where
  -- a text that fits the room is written whole
  pub whole : length text ≤ count → IsWritten v text room written (page_status v)
  whole all = IsWritten.whole (same ∙ take_all count text all)

  -- a text that does not fit the room is cut at its end
  pub cut : count < length text → count ≡ room → IsWritten v text room written status.Cut
  cut short full =
      let parts = sym (take-append-drop count text) ∙ ap (λ (l : List ℕ). l ++ drop count text) (sym same) in
      IsWritten.cut (drop count text) parts (omega (arith, short, length-drop count text)) (ap length same ∙ length-take-le count text (omega (arith, short)) ∙ full)
