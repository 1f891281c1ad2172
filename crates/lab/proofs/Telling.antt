-- what a story tells, event by event
use Rattle.std.proofs.Common.{◌≡◌, ◌∙◌, ℕ, ◌+◌, ◌<◌, List, [], ◌∷◌, ◌++◌, length, take, get_or, ap, sym, arith}
use Rattle.std.proofs.Common.{add-zero, append_assoc, length-append}
use Rattle.std.proofs.lemmas.List.{append-nil, take_more}
use Rattle.el_base.specs.declared.events.Event.{Event}
use Rattle.el_model.proofs.Laws.Folds.{length-entries_from}
use Rattle.el_model.specs.Next.{entries_from, next, state_after}
use Rattle.el_model.specs.State.{ModelState}
use Rattle.lab.specs.Told.{told_from}
use Rattle.machine.proofs.Laws.Continued.{state_of_continued}
use Rattle.machine.specs.Story.{Story, continued, state_of}

module _ {X : Type 0} (tells : ModelState → ℕ → Event → List X) where
  -- one event more, at the place behind the others
  pub told_from-push : (state : ModelState) (place here : ℕ) (events : List Event) (event : Event) →
      here ≡ place + length events → told_from tells state place (events ++ event ∷ [])
      ≡ told_from tells state place events ++ tells (state_after state events) here event
  told_from-push state place here [] event at =
      append-nil (tells state place event) ∙ ap (λ p. tells state p event) (sym (at ∙ add-zero place))
  told_from-push state place here (first ∷ events) event at =
      let after = (next state first).state in
      let behind : here ≡ (place + 1) + length events = omega arith in
      ap (λ told. tells state place first ++ told) (told_from-push after (place + 1) here events event behind)
      ∙ sym (append_assoc (tells state place first) (told_from tells after (place + 1) events)
      (tells (state_after after events) here event))

  -- one event more of a list
  pub told_more : (before now : Story) (events : List Event) (k : ℕ) (event : Event) (told later : List X) →
      now ≡ continued before (take k events) → k < length events → event ≡ get_or events k event →
      told ≡ told_from tells (state_of before) (length before.entries) (take k events) →
      later ≡ told ++ tells (state_of now) (length now.entries) event →
      later ≡ told_from tells (state_of before) (length before.entries) (take (k + 1) events)
  told_more before now events k event told later reached below here is more =
      let from = state_of before in
      let done = take k events in
      let at : length now.entries ≡ length before.entries + length done =
      ap (λ (story : Story). length story.entries) reached
      ∙ length-append before.entries (entries_from from done)
      ∙ ap (λ n. length before.entries + n) (length-entries_from from done) in
      let state : state_of now ≡ state_after from done = ap state_of reached ∙ state_of_continued before done in
      more
      ∙ ap (λ s. told ++ tells s (length now.entries) event) state
      ∙ ap (λ t. t ++ tells (state_after from done) (length now.entries) event) is
      ∙ sym (told_from-push from (length before.entries) (length now.entries) done event at)
      ∙ ap (told_from tells from (length before.entries))
      (ap (λ e. done ++ e ∷ []) here ∙ sym (take_more events k event below))
