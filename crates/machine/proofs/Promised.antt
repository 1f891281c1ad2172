-- what one event keeps of live sections, by the laws of the machine's definition
use Rattle.std.proofs.Common.{◌≡◌, ◌∙◌, ◌⊎◌, ℕ, [], ◌∷◌, ap, inl, inr, refl, subst, sym}
use Rattle.std.specs.Prelude.{IsSome}
use Rattle.chronicle.specs.Chronicle.{events}
use Rattle.el_base.specs.declared.events.Event.{Event}
use Rattle.el_base.specs.declared.outcomes.Outcome.{Outcome}
use Rattle.el_base.specs.Winners.{winner_over}
use Rattle.el_model.specs.Next.{next}
use Rattle.engine.specs.Parts.{Parts}
use Rattle.machine.proofs.Laws.Continued.{state_of_continued}
use Rattle.machine.specs.Promises.{Change, EndsAreNamed, EndsIt, KeepsPromises, OthersAreUntouched}
use Rattle.machine.specs.Promises.{ReleasesTakeEffect, change}
use Rattle.machine.specs.Stands.{IsGiven, MachineStands}
use Rattle.machine.specs.Story.{Story, continued, state_of}
use Rattle.progress_laws.proofs.Laws.LineOfLeast.{line_of_least_stamp_moves_on}
use Rattle.progress_laws.proofs.Laws.Beating.{losers_lose_to_earlier}
use Rattle.progress_laws.proofs.Laws.Clocks.{stamps_are_kept}
use Rattle.progress_laws.proofs.Laws.Promises.{least_stamp_never_loses}
use Rattle.engine.proofs.Laws.Releasing.{releases_commit}
use Rattle.engine.proofs.Laws.Losing.{what_ends_a_section}
use Rattle.engine.proofs.Laws.Survivors.{survivors_keep_what_they_show}
use Rattle.engine.specs.Losing.{EndsItself, IsBeaten}

-- an event made where a story has come to, as the definition makes it
abbrev made : Story → Event → Change
made story event =
    let state = state_of story in
    record { old = state; event = event; outcome = (next state event).outcome; new = (next state event).state }

ends : (story : Story) (room : ℕ) (event : Event) → IsGiven story room → EndsAreNamed (made story event)
ends story room event given h live over =
    by (what_ends_a_section story.program story.config (events story.entries) event h given.one_hart_each
    given.in_range live over)
  where
    outcome : Outcome
    outcome = (next (state_of story) event).outcome

    by : EndsItself (state_of story) event h ⊎ IsBeaten (state_of story) event h →
        EndsIt event outcome h ⊎ IsSome (winner_over outcome h)
    by (inl itself) = inl (record { own = itself.own; step = itself.step; how = itself.how })
    by (inr beaten) = inr (subst IsSome (sym beaten.names) refl)

release : (story : Story) (event : Event) → ReleasesTakeEffect story.config.long (made story event)
release story event section step live free short comes =
    let done =
    releases_commit story.program story.config (events story.entries) event section step live free short comes in
    record { outcome = done.outcome; committed = done.committed }

others : (story : Story) (room : ℕ) (event : Event) → IsGiven story room → OthersAreUntouched (made story event)
others story room event given h section other live goes_on =
    let survives =
    survivors_keep_what_they_show story.program story.config (events story.entries) event h section given.bytes
    other live goes_on in
    record { same = survives.keeps.same; shows = survives.shows }

-- each event keeps these promises
keeps : (story : Story) (room : ℕ) (event : Event) → IsGiven story room → KeepsPromises story.config (made story event)
keeps story room event given = record {
  ends = ends story room event given;
  losers =
      λ removal h winner. losers_lose_to_earlier story.program story.config (events story.entries) event
      h winner removal;
  least =
      λ removal h stamp. least_stamp_never_loses story.program story.config (events story.entries) event
      h stamp removal;
  line =
      λ removal h line. line_of_least_stamp_moves_on story.program story.config (events story.entries) h line removal;
  stamps = λ h stamp kept. stamps_are_kept (state_of story) h (event ∷ []) stamp (kept, tt);
  release = release story event;
  others = others story room event given;
}

-- and so does the machine that makes it
pub kept_by : (story now later : Story) (parts : Parts) (room : ℕ) (event : Event) (outcome : Outcome) →
    MachineStands story parts room → story ≡ now →
    later ≡ continued now (event ∷ []) → outcome ≡ (next (state_of now) event).outcome →
    KeepsPromises now.config (change now event outcome later)
kept_by story now later parts room event outcome stands same more told =
    subst (λ o. KeepsPromises now.config (change now event o later)) (sym told)
    (subst
    (λ new. KeepsPromises now.config
    (record { old = state_of now; event = event; outcome = (next (state_of now) event).outcome; new = new }))
    (sym (ap state_of more ∙ state_of_continued now (event ∷ [])))
    (keeps now room event (subst (λ s. IsGiven s room) same stands.given)))
