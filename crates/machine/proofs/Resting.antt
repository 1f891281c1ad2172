-- events that leave all as it is: the machine stands after them, in the state that it was in
use Rattle.std.proofs.Common.{◌≡◌, ◌∙◌, ℕ, zero, suc, ◌≤◌, ◌<◌, true, false, List, [], ◌∷◌, ◌++◌, Some, ap, refl, subst}
use Rattle.std.proofs.Common.{sym, take}
use Rattle.std.proofs.lemmas.Bool.{false_from_ne_true}
use Rattle.el_base.specs.declared.events.Event.{Event}
use Rattle.el_base.specs.declared.hart_id.HartId.{HartId}
use Rattle.el_base.specs.declared.outcomes.Outcome.{Outcome}
use Rattle.el_base.specs.declared.outcomes.Outcome.TheVariants.{Idle}
use Rattle.el_model.specs.Next.{is_over, next, state_after}
use Rattle.el_model.specs.State.{ModelState, Turn}
use Rattle.engine.proofs.Laws.NothingFound.{quiet_each}
use Rattle.engine.proofs.Laws.Waiting.{nothing_leaves, waits_as, waits_throughout}
use Rattle.engine.specs.Parts.{IsInState, Parts}
use Rattle.engine.specs.Resting.{Leaves, finds_nothing, is_quiet, waiting_of}
use Rattle.machine.proofs.GoesOn.{stands_on}
use Rattle.machine.proofs.Laws.Continued.{continued_more, state_of_continued}
use Rattle.machine.specs.Resting.{bus_events, turn_events}
use Rattle.progress_laws.proofs.Laws.Over.{over_stopped}
use Rattle.machine.specs.Stands.{MachineStands}
use Rattle.machine.specs.Story.{Story, continued, left_of, state_of}

-- a machine stands after an event that leaves all as it is
pub stands_left : (story : Story) (parts : Parts) (room : ℕ) (event : Event) (outcome : Outcome) →
    MachineStands story parts room → event.hart.number < story.config.harts → 1 ≤ left_of story →
    Leaves (state_of story) event outcome →
    MachineStands (record story { entries = story.entries ++ record { event = event; outcome = outcome } ∷ [] }) parts
    room
stands_left story parts room event outcome stands below left leaves =
    stands_on story parts parts room event outcome stands below left stands.ready
    (subst (λ (turn : Turn). IsInState parts turn.state) (sym leaves.turn) stands.is_in)
    (ap (λ (turn : Turn). turn.outcome) (sym leaves.turn))
    (leaves.lines parts.bus.copies.lines)

pub told_left : (story : Story) (event : Event) (outcome : Outcome) → Leaves (state_of story) event outcome →
    record story { entries = story.entries ++ record { event = event; outcome = outcome } ∷ [] }
    ≡ continued story (event ∷ [])
told_left story event outcome leaves =
    ap (λ (o : Outcome). record story { entries = story.entries ++ record { event = event; outcome = o } ∷ [] })
    (ap (λ (turn : Turn). turn.outcome) (sym leaves.turn))

-- a state that each of some events leaves as it is
abbrev IsLeftByEach : ModelState → List Event → Type 0
IsLeftByEach state [] = Unit {0}
IsLeftByEach state (event ∷ events) = ((next state event).state ≡ state) × IsLeftByEach state events

left_by : (state : ModelState) (event : Event) (outcome : Outcome) → Leaves state event outcome →
    (next state event).state ≡ state
left_by state event outcome leaves = ap (λ (turn : Turn). turn.state) leaves.turn

-- so do the first ones of them
after_all : (state : ModelState) (events : List Event) (made : ℕ) → IsLeftByEach state events →
    state_after state (take made events) ≡ state
after_all state events zero all = refl
after_all state [] (suc made) all = refl
after_all state (event ∷ events) (suc made) all =
    ap (λ s. state_after s (take made events)) all.0 ∙ after_all state events made all.1

pub same_after : (story : Story) (event : Event) (outcome : Outcome) → Leaves (state_of story) event outcome →
    state_of (continued story (event ∷ [])) ≡ state_of story
same_after story event outcome leaves =
    state_of_continued story (event ∷ [])
    ∙ after_all (state_of story) (event ∷ []) 1 (left_by (state_of story) event outcome leaves, tt)

pub throughout : (story : Story) (hart : HartId) → is_quiet (state_of story) hart.number ≡ true → (made : ℕ) →
    state_of (continued story (take made (bus_events hart))) ≡ state_of story
throughout story hart quiet made =
    let each = quiet_each (state_of story) hart.number quiet in
    let left : (event : Event) → finds_nothing (state_of story) event ≡ true →
    (next (state_of story) event).state ≡ state_of story =
    λ event nothing. left_by (state_of story) event Idle (nothing_leaves (state_of story) event nothing) in
    state_of_continued story (take made (bus_events hart))
    ∙ after_all (state_of story) (bus_events hart) made (left _ each.0, (left _ each.1, (left _ each.2, tt)))

-- all events of a turn in which a hart waits
pub throughout_turn : (story : Story) (hart : HartId) (blocked : Outcome) →
    waiting_of (state_of story) hart.number ≡ Some blocked → (made : ℕ) →
    state_of (continued story (take made (turn_events hart))) ≡ state_of story
throughout_turn story hart blocked waits made =
    let each = waits_throughout (state_of story) hart blocked waits in
    state_of_continued story (take made (turn_events hart))
    ∙ after_all (state_of story) (turn_events hart) made
    (left_by _ _ _ each.step, (left_by _ _ _ each.order, (left_by _ _ _ each.serve, (left_by _ _ _ each.deliver, tt))))

-- what leaves a state leaves one that is the same
pub left_still : (before now : ModelState) (event : Event) (outcome : Outcome) → now ≡ before →
    Leaves before event outcome → Leaves now event outcome
left_still before now event outcome same leaves = subst (λ state. Leaves state event outcome) (sym same) leaves

-- where a hart waits, not every hart has stopped
pub runs_then : (state : ModelState) (h : ℕ) (blocked : Outcome) → waiting_of state h ≡ Some blocked →
    is_over state ≡ false
runs_then state h blocked waits =
    false_from_ne_true (is_over state) (λ over. over_stopped state h over (waits_as state h blocked waits).running)

-- one after another, they are the events of the bus in a turn
pub three_made : (story first second third : Story) (a b c : Event) → first ≡ continued story (a ∷ []) →
    second ≡ continued first (b ∷ []) → third ≡ continued second (c ∷ []) → third ≡ continued story (a ∷ b ∷ c ∷ [])
three_made story first second third a b c one two three =
    continued_more story second third (a ∷ b ∷ []) c (continued_more story first second (a ∷ []) b one two) three

pub four_made : (story first second third fourth : Story) (a b c d : Event) → first ≡ continued story (a ∷ []) →
    second ≡ continued first (b ∷ []) → third ≡ continued second (c ∷ []) → fourth ≡ continued third (d ∷ []) →
    fourth ≡ continued story (a ∷ b ∷ c ∷ d ∷ [])
four_made story first second third fourth a b c d one two three four =
    continued_more story third fourth (a ∷ b ∷ c ∷ []) d (three_made story first second third a b c one two three) four
