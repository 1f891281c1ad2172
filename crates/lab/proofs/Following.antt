-- following a story, event by event
use Rattle.std.proofs.Common.{◌≡◌, ◌∙◌, ◌⊎◌, ◌==◌, true, false, cond, ℕ, ◌+◌, ◌<◌, List, [], ◌∷◌, ◌++◌, length, take}
use Rattle.std.proofs.Common.{get_or, ap, sym, subst, length-append}
use Rattle.std.specs.Prelude.{IsSome, slice_index}
use Rattle.std.proofs.lemmas.List.{take_more}
use Rattle.el_base.specs.Winners.{winner_over}
use Rattle.el_base.specs.declared.events.Event.{Event}
use Rattle.el_base.specs.declared.outcomes.Outcome.{Outcome}
use Rattle.el_model.proofs.Laws.Folds.{length-entries_from}
use Rattle.el_model.specs.Next.{entries_from, next, state_after}
use Rattle.el_model.specs.State.{ModelState, is_live}
use Rattle.lab.proofs.Growing.{tries_from-push}
use Rattle.lab.proofs.Living.{still_live}
use Rattle.lab.proofs.Noting.{map_same}
use Rattle.lab.specs.Tries.{AreLive, Moment, begun_in, ended_by, first_end, lost_end, moment_of, noted, own_end, ran_in}
use Rattle.lab.specs.Tries.{tries_from}
use Rattle.lab.specs.declared.tries.Ended.TheVariants.{Live}
use Rattle.lab.specs.declared.tries.Try.{Try}
use Rattle.machine.proofs.Laws.Continued.{state_of_continued}
use Rattle.machine.specs.Promises.{EndsAreNamed, EndsIt, change}
use Rattle.machine.specs.Story.{Story, continued, state_of}

-- one event more of a list
pub tries_more : (before now : Story) (events : List Event) (k : ℕ) (event : Event) (tries later : List Try) →
    now ≡ continued before (take k events) → k < length events → event ≡ get_or events k event →
    tries ≡ tries_from (state_of before) (length before.entries) (take k events) →
    later ≡ noted (moment_of (state_of now) (length now.entries) event) tries →
    later ≡ tries_from (state_of before) (length before.entries) (take (k + 1) events)
tries_more before now events k event tries later reached below here is more =
    let from = state_of before in
    let done = take k events in
    let at : length now.entries ≡ length before.entries + length done =
    ap (λ (story : Story). length story.entries) reached
    ∙ length-append before.entries (entries_from from done)
    ∙ ap (λ n. length before.entries + n) (length-entries_from from done) in
    let state : state_of now ≡ state_after from done = ap state_of reached ∙ state_of_continued before done in
    more
    ∙ ap (λ s. noted (moment_of s (length now.entries) event) tries) state
    ∙ ap (noted (moment_of (state_after from done) (length now.entries) event)) is
    ∙ sym (tries_from-push from (length before.entries) (length now.entries) done event at)
    ∙ ap (tries_from from (length before.entries))
    (ap (λ e. done ++ e ∷ []) here ∙ sym (take_more events k event below))

-- the live sections of the list are those of the state after an event
pub step_keeps : (before after : Story) (event : Event) (outcome : Outcome) (place : ℕ) (tries later : List Try) →
    after ≡ continued before (event ∷ []) → outcome ≡ (next (state_of before) event).outcome →
    EndsAreNamed (change before event outcome after) → AreLive (state_of before) tries →
    later ≡ noted (moment_of (state_of before) place event) tries → AreLive (state_of after) later
step_keeps before after event outcome place tries later goes told named live is =
    let new : state_of after ≡ (next (state_of before) event).state =
    ap state_of goes ∙ state_of_continued before (event ∷ []) in
    let ends : (h : ℕ) → is_live (state_of before) h ≡ true → is_live (next (state_of before) event).state h ≡ false →
    EndsIt event (next (state_of before) event).outcome h
    ⊎ IsSome (winner_over (next (state_of before) event).outcome h) =
    λ h lived dead. subst (λ o. EndsIt event o h ⊎ IsSome (winner_over o h)) told
    (named h lived (ap (λ s. is_live s h) new ∙ dead)) in
    subst (λ state. AreLive state later) (sym new)
    (subst (AreLive (next (state_of before) event).state) (sym is)
    (still_live (state_of before) place event tries ends live))

-- what had run before an event need be known of the harts that there are
pub noted_same : (place : ℕ) (first second : ℕ → ℕ) (event : Event) (outcome : Outcome) (after : ModelState)
    (tries : List Try) → ((h : ℕ) → h < 8 → first h ≡ second h) →
    noted (record { place = place; ran = first; event = event; outcome = outcome; after = after }) tries
    ≡ noted (record { place = place; ran = second; event = event; outcome = outcome; after = after }) tries
noted_same place first second event outcome after tries agree =
    let of : (ℕ → ℕ) → Moment =
    λ ran. record { place = place; ran = ran; event = event; outcome = outcome; after = after } in
    ap (λ list. list ++ begun_in (of first) Live)
    (map_same (ended_by (of first)) (ended_by (of second))
    (λ try.
    ap (λ ran. record try {
      ended = first_end try.ended (first_end
          (cond (event.hart.number == try.hart.number) (own_end place ran outcome) Live)
          (lost_end place ran after (winner_over outcome try.hart.number)));
    }) (agree try.hart.number try.hart.small)) tries)

-- the event that a machine has made, noted with what had run before
pub noted_moment : (before after : Story) (event : Event) (outcome : Outcome) (place : ℕ) (ran : List ℕ)
    (tries later : List Try) → after ≡ continued before (event ∷ []) →
    outcome ≡ (next (state_of before) event).outcome →
    ((h : ℕ) → h < 8 → slice_index ran h ≡ ran_in (state_of before) h) → place ≡ length before.entries →
    later
    ≡ noted (record { place = place; ran = slice_index ran; event = event; outcome = outcome; after = state_of after })
    tries → later ≡ noted (moment_of (state_of before) (length before.entries) event) tries
noted_moment before after event outcome place ran tries later goes told counts at is =
    let new : state_of after ≡ (next (state_of before) event).state =
    ap state_of goes ∙ state_of_continued before (event ∷ []) in
    is
    ∙ noted_same place (slice_index ran) (ran_in (state_of before)) event outcome (state_of after) tries counts
    ∙ ap
    (λ s.
    noted (record {
      place = place;
      ran = ran_in (state_of before);
      event = event;
      outcome = outcome;
      after = s;
    }) tries) new
    ∙ ap (λ o. noted (record {
      place = place;
      ran = ran_in (state_of before);
      event = event;
      outcome = o;
      after =
          (next (state_of before) event).state;
    }) tries) told
    ∙ ap (λ p. noted (moment_of (state_of before) p event) tries) at
