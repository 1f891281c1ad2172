-- the sections of a story, each from the event that began it to the first that ended it
use Rattle.std.specs.Prelude.{ℕ, ◌≡◌, ◌≢◌, ◌+◌, ◌==◌, true, List, [], ◌∷◌, ◌++◌, map, length, Option, None, Some}
use Rattle.std.specs.Prelude.{option_map, All, nat_lt, if◌then◌else◌}
use Rattle.bus_order.specs.Order.{Request}
use Rattle.chronicle.specs.Chronicle.{events}
use Rattle.el_base.specs.HartId.{hart_id}
use Rattle.el_base.specs.LineAddr.{line_addr}
use Rattle.el_base.specs.Winners.{winner_over}
use Rattle.el_base.specs.declared.events.Event.{Event}
use Rattle.el_base.specs.declared.hart_id.HartId.{HartId}
use Rattle.el_base.specs.declared.outcomes.Outcome.{Outcome}
use Rattle.el_base.specs.declared.outcomes.Outcome.TheVariants as outcomes
use Rattle.el_model.specs.Next.{next}
use Rattle.el_model.specs.State.{ModelState, Section, begin, is_live, ordered_of, raised_of, section_of}
use Rattle.lab.specs.declared.tries.Ended.{Ended}
use Rattle.lab.specs.declared.tries.Ended.TheVariants.{Live, Committed, LostTo, RolledBack}
use Rattle.lab.specs.declared.tries.Try.{Try}
use Rattle.machine.specs.Story.{Story}
use Rattle.rv_flat.specs.FlatState.{view_of}

-- the earlier of two ends, the second of which comes later: what has ended stays as it ended
abbrev pub first_end : Ended → Ended → Ended
first_end Live later = later
first_end (Committed at count) later = Committed at count
first_end (LostTo at ran winner line) later = LostTo at ran winner line
first_end (RolledBack at ran cause) later = RolledBack at ran cause

-- the line of a request that a hart has raised, or else of the one that it has in the order
abbrev pub line_asked : Option Request → Option Request → Option ℕ
line_asked (Some raised) ordered = Some raised.line
line_asked None (Some ordered) = Some ordered.line
line_asked None None = None

-- the line that a hart waits for; past the last hart, none
abbrev pub line_waited_for : ModelState → ℕ → Option ℕ
line_waited_for state h =
    if nat_lt h (length state.harts) then line_asked (raised_of state h) (ordered_of state h) else None

-- how many instructions a hart's live section has run
abbrev pub count_of : Option Section → ℕ
count_of None = 0
count_of (Some section) = section.count

abbrev pub ran_in : ModelState → ℕ → ℕ
ran_in state h = count_of (section_of state h)

-- how an event at a place ends the section of its own hart, which has run so many instructions
abbrev pub own_end : ℕ → ℕ → Outcome → Ended
own_end place ran (outcomes.Committed count) = Committed place count
own_end place ran (outcomes.RolledBack cause) = RolledBack place ran cause
own_end place ran _ = Live

-- how it ends one that has a winner: the line is the one that the winner waits for after the event
abbrev pub lost_end : ℕ → ℕ → ModelState → Option ℕ → Ended
lost_end place ran after None = Live
lost_end place ran after (Some winner) =
    LostTo place ran (hart_id winner) (option_map line_addr (line_waited_for after winner))

-- an event at a place: how many instructions each live section had run before it, its outcome, and the state after it
pub record Moment : Type 0 where
  pub place : ℕ
  pub ran : ℕ → ℕ
  pub event : Event
  pub outcome : Outcome
  pub after : ModelState

abbrev pub moment_of : ModelState → ℕ → Event → Moment
moment_of state place event = record {
  place = place;
  ran = ran_in state;
  event = event;
  outcome = (next state event).outcome;
  after = (next state event).state;
}

-- how it ends the section of a hart: by that hart's own commit or rollback, or as a loss; else it does not
abbrev pub end_in : Moment → ℕ → Ended
end_in moment h =
    first_end (if moment.event.hart.number == h then own_end moment.place (moment.ran h) moment.outcome else Live)
    (lost_end moment.place (moment.ran h) moment.after (winner_over moment.outcome h))

-- how the live section of a hart ends in these events, the first of them at a place
abbrev pub end_from : ModelState → ℕ → ℕ → List Event → Ended
end_from state place h [] = Live
end_from state place h (event ∷ events) =
    first_end (end_in (moment_of state place event) h) (end_from (next state event).state (place + 1) h events)

-- the section that is live of a hart: its committed view stands at the acquire
abbrev pub of_section : ModelState → ℕ → HartId → Option Section → Ended → List Try
of_section after place hart None ended = []
of_section after place hart (Some section) ended =
    record {
      hart = hart;
      acquire = record { pc = (view_of after.committed hart.number).pc; word = section.word };
      old = section.old;
      new = section.new;
      first = place;
      ended = ended;
    } ∷ []

-- what a moment begins: a section, where its outcome says so
abbrev pub begun_as : Outcome → List Try → List Try
begun_as outcomes.Began begun = begun
begun_as _ begun = []

abbrev pub begun_in : Moment → Ended → List Try
begun_in moment ended =
    begun_as moment.outcome
    (of_section moment.after moment.place moment.event.hart (section_of moment.after moment.event.hart.number) ended)

-- the sections that these events begin, the first of them at a place, each with its end among them
abbrev pub tries_from : ModelState → ℕ → List Event → List Try
tries_from state place [] = []
tries_from state place (event ∷ events) =
    begun_in (moment_of state place event)
    (end_from (next state event).state (place + 1) event.hart.number events)
    ++ tries_from (next state event).state (place + 1) events

-- the sections of a story
unfoldable pub tries_of : Story → List Try
tries_of story = tries_from (begin story.program story.config) 0 (events story.entries)

-- a section after a moment, and all of them, with the one that it begins
abbrev pub ended_by : Moment → Try → Try
ended_by moment try = record try { ended = first_end try.ended (end_in moment try.hart.number) }

abbrev pub noted : Moment → List Try → List Try
noted moment tries = map (ended_by moment) tries ++ begun_in moment Live

-- the sections after those of one hart came to an end
abbrev pub ended_for : ℕ → Ended → Try → Try
ended_for h ended try = if h == try.hart.number then record try { ended = first_end try.ended ended } else try

-- no section of a hart is live
abbrev pub HasNone : ℕ → List Try → Type 0
HasNone h tries = All (λ try. try.hart.number ≡ h → try.ended ≢ Live) tries

-- each section that is live in the list is one of the state
abbrev pub AreLive : ModelState → List Try → Type 0
AreLive state tries = All (λ try. try.ended ≡ Live → is_live state try.hart.number ≡ true) tries

-- the sections of harts that lost came to an end: each with its winner
abbrev pub lost_by : ℕ → (ℕ → ℕ) → ModelState → (ℕ → Option ℕ) → Try → Try
lost_by place ran after winner try =
    record try { ended = first_end try.ended (lost_end place (ran try.hart.number) after (winner try.hart.number)) }
