-- what the definitions come to
use Rattle.std.specs.Prelude.{◌≡◌, ◌≢◌, ◌<◌, ◌↔◌, ℕ, false, List, length}
use Rattle.chronicle.specs.Serial.{serial, taking_effect}
use Rattle.el_base.specs.declared.config.Config.{Config}
use Rattle.el_base.specs.declared.config.Mode.TheVariants.{Plain}
use Rattle.el_base.specs.declared.events.Event.{Event}
use Rattle.el_base.specs.declared.events.Kind.TheVariants as kinds
use Rattle.el_base.specs.declared.outcomes.Outcome.{Outcome}
use Rattle.el_base.specs.declared.outcomes.Outcome.TheVariants as outcomes
use Rattle.rv_flat.specs.Program.{Program}
use Rattle.el_model.specs.BusEvent.{IsBusEvent}
use Rattle.el_model.specs.Causes.{ComesWhere}
use Rattle.el_model.specs.Deed.{IsDeed}
use Rattle.el_base.specs.Winners.{winner_over}
use Rattle.el_model.specs.Losses.{HartsAreNumbered, restored, standing_of}
use Rattle.el_model.specs.Next.{after, entries_from, next}
use Rattle.el_model.specs.Quiet.{AllPlain, AllSilent, has_stamps}
use Rattle.el_model.specs.State.{ModelState, begin, hart_of}
use Rattle.rv_flat.specs.FlatState.{start}
use Rattle.rv_flat.specs.Run.{run}

-- whatever the events, the committed state is that of one run of the program on plain shared memory, in
-- the serial order of their history
abbrev pub CommitsInSerialOrder : Type 0
CommitsInSerialOrder =
    (program : Program) (config : Config) (events : List Event) →
    (after program config events).committed
    ≡ run (start program) (serial (entries_from (begin program config) events))

-- what is committed after an event is what the instructions that take effect in it leave of what was committed
abbrev pub EventsTakeEffect : Type 0
EventsTakeEffect =
    (state : ModelState) (event : Event) →
    (next state event).state.committed ≡ run state.committed
    (taking_effect event.hart.number (next state event).outcome)

-- where there was nothing to do, nothing has changed
abbrev pub IdleChangesNothing : Type 0
IdleChangesNothing =
    (state : ModelState) (event : Event) → (next state event).outcome ≡ outcomes.Idle → (next state event).state ≡ state

-- each outcome comes exactly where its rule says
abbrev pub OutcomesComeByTheirRules : Type 0
OutcomesComeByTheirRules =
    (state : ModelState) (event : Event) (outcome : Outcome) →
    ((next state event).outcome ≡ outcome) ↔ ComesWhere state event outcome

-- where an event of the bus names no winner for a hart, its section, tries and flag are as they were, and where it
-- names one they are those after a loss
abbrev pub LosersAreRestored : Type 0
LosersAreRestored =
    (state : ModelState) (event : Event) (g : ℕ) → HartsAreNumbered state → event.kind ≢ kinds.Step →
    g < length state.harts → standing_of (hart_of (next state event).state g)
    ≡ restored state.config.mode (winner_over (next state event).outcome g) (standing_of (hart_of state g))

-- a step is one deed of its hart, where the rule of the deed says so, and changes nothing else
abbrev pub StepsAreDeeds : Type 0
StepsAreDeeds =
    (state : ModelState) (event : Event) → event.kind ≡ kinds.Step → IsDeed state event.hart.number (next state event)

-- an event of the bus is a start and what becomes of each hart from there, one change after
-- another, and changes nothing else
abbrev pub BusEventsAreToldOnce : Type 0
BusEventsAreToldOnce =
    (state : ModelState) (event : Event) → event.kind ≢ kinds.Step →
    IsBusEvent state event.hart.number (next state event)

-- in a mode without stamps, from the start on, no hart has a message, an origin that it was told of,
-- a hart before it, or an attempt
abbrev pub StamplessStaysSilent : Type 0
StamplessStaysSilent =
    (program : Program) (config : Config) (events : List Event) → has_stamps config.mode ≡ false →
    AllSilent (after program config events)

-- in the plain mode, from the start on, no hart has a section, a bit, or a watch either
abbrev pub PlainStaysPlain : Type 0
PlainStaysPlain =
    (program : Program) (config : Config) (events : List Event) → config.mode ≡ Plain →
    AllPlain (after program config events)
