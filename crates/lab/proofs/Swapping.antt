-- the swap that an event runs
use Rattle.std.proofs.Common.{◌≡◌, ◌∙◌, ◌++◌, ℕ, Bool, length, List, Option, Some, None, refl, ap, subst, sym}
use Rattle.std.specs.Option.{option_map}
use Rattle.chronicle.specs.Chronicle.{events}
use Rattle.el_base.specs.declared.events.Event.{Event}
use Rattle.el_base.specs.declared.events.Kind.TheVariants as kinds
use Rattle.el_base.specs.declared.hart_id.HartId.{HartId}
use Rattle.el_base.specs.declared.outcomes.Outcome.{Outcome}
use Rattle.el_base.specs.declared.outcomes.Outcome.TheVariants as outcomes
use Rattle.el_base.specs.declared.config.Config.{Config}
use Rattle.el_model.proofs.Laws.Coming.{by_their_rules}
use Rattle.el_model.proofs.Laws.FromStart.{kept_after, next_config}
use Rattle.el_model.specs.Next.{next, shown_of, view_in, view_outside}
use Rattle.el_model.specs.State.{ModelState, armed_of, begin, hart_of, section_of}
use Rattle.el_model.specs.Upcoming as model
use Rattle.machine.proofs.Laws.Places.{keeps_place}
use Rattle.machine.proofs.Laws.Swaps.{swap_action}
use Rattle.machine.specs.OwnState.{HasOwn, OwnState}
use Rattle.lab.specs.Swaps.{as_plain, first_no, if_ran, next_plain, swaps_in, why_not}
use Rattle.lab.specs.declared.swaps.NotElided.{NotElided}
use Rattle.lab.specs.declared.swaps.PlainSwap.{PlainSwap}
use Rattle.machine.specs.Story.{IsOneRun, Story, committed, state_of}
use Rattle.pair_table.specs.Predictor.{confidence_of}
use Rattle.rv_alu.specs.Footprint.{IsInPlace, IsPiece}
use Rattle.rv_alu.specs.Loaded.{loaded}
use Rattle.rv_alu.specs.declared.action.Action.{Action}
use Rattle.rv_alu.specs.declared.span.Span.{Span}
use Rattle.rv_flat.specs.FlatState.{FlatState, start, view_of}
use Rattle.rv_flat.specs.Memory.{byte_in}
use Rattle.rv_flat.specs.Step.{action_of}
use Rattle.step_rules.proofs.Laws.NextAction.{next_swap}
use Rattle.step_rules.specs.Actions.{IsNext, swap_over}
use Rattle.step_rules.specs.declared.upcoming.Exchange.{Exchange}

-- what is told counts only where an instruction ran
pub if_ran-same : (outcome : Outcome) (a b : Option PlainSwap) → (outcome ≡ outcomes.Ran → a ≡ b) →
    if_ran outcome a ≡ if_ran outcome b
if_ran-same outcomes.Ran a b same = ap (if_ran outcomes.Ran) (same refl)
if_ran-same _ a b same = refl

-- an instruction that ran outside is one of a step of a hart with neither a live nor an armed section
pub ran_outside : (state : ModelState) (event : Event) → (next state event).outcome ≡ outcomes.Ran →
    (event.kind ≡ kinds.Step) × (section_of state event.hart.number ≡ None) × (armed_of state event.hart.number ≡ None)
ran_outside state event ran =
    let goes = ((by_their_rules state event outcomes.Ran).0 ran).1 in
    (goes.goes.step, goes.outside, goes.unarmed)

-- such a hart sees its committed view
pub shown_is : (state : ModelState) (h : ℕ) → section_of state h ≡ None → armed_of state h ≡ None →
    shown_of state h ≡ view_of state.committed h
shown_is state h none unarmed = ap (view_in state h) none ∙ ap (view_outside state h) unarmed

-- memory lies where the program's does
pub base_is : (story : Story) → (state_of story).committed.base ≡ story.program.base
unfolding start
base_is story = (keeps_place story.program story.config (events story.entries)).base

-- and comes next to what that view comes to
pub next_is : (state : ModelState) (h : ℕ) (action : Action) → action ≡ action_of state.committed (shown_of state h) →
    section_of state h ≡ None → armed_of state h ≡ None → IsNext action state.committed h
next_is state h action is none unarmed = is ∙ ap (action_of state.committed) (shown_is state h none unarmed)

-- a swap's word is in memory
pub place_is : (state : ModelState) (h : ℕ) (action : Action) (exchange : Exchange) (span : Span) (room : ℕ) →
    IsNext action state.committed h → Some (swap_over (byte_in state.committed.base state.committed.bytes) exchange)
    ≡ model.next_swap state.committed h → IsInPlace span room action → IsPiece span exchange.word 4
place_is state h action exchange span room next found in_place =
    let byte = byte_in state.committed.base state.committed.bytes in
    let of = swap_action byte action (swap_over byte exchange) (next_swap action state.committed h next ∙ sym found) in
    subst (IsInPlace span room) of.is in_place

-- a swap, told
pub plain_is : (story : Story) (place : ℕ) (hart : HartId) (exchange : Exchange) (old pc : ℕ) (why : NotElided) →
    IsOneRun story →
    Some (swap_over (byte_in (state_of story).committed.base (state_of story).committed.bytes) exchange)
    ≡ model.next_swap (state_of story).committed hart.number →
    old ≡ loaded (byte_in story.program.base (committed story).bytes) exchange.word 4 →
    pc ≡ (view_of (state_of story).committed hart.number).pc → why ≡ why_not (state_of story) hart.number →
    Some (record {
      place = place;
      hart = hart;
      acquire = record { pc = pc; word = exchange.word };
      old = old;
      new = exchange.new;
      why = why;
    }) ≡ next_plain (state_of story) place hart
plain_is story place hart exchange old pc why one_run found read at not =
    let state = state_of story in
    let byte = byte_in state.committed.base state.committed.bytes in
    let word : old ≡ loaded byte exchange.word 4 =
    read
    ∙ ap (λ b. loaded (byte_in b (committed story).bytes) exchange.word 4) (sym (base_is story))
    ∙ ap (λ (f : FlatState). loaded (byte_in state.committed.base f.bytes) exchange.word 4) (sym one_run.committed) in
    ap (λ p. told p old why) at
    ∙ ap (λ o. told (view_of state.committed hart.number).pc o why) word
    ∙ ap (told (view_of state.committed hart.number).pc (loaded byte exchange.word 4)) not
    ∙ ap (option_map (as_plain state place hart)) found
  where
    told : ℕ → ℕ → NotElided → Option PlainSwap
    told p o w = Some (record {
      place = place;
      hart = hart;
      acquire = record { pc = p; word = exchange.word };
      old = o;
      new = exchange.new;
      why = w;
    })

-- the swap that an event runs, by what was next before it
pub swap_told : (before : Story) (event : Event) (outcome : Outcome) (swap : Option PlainSwap)
    (old later : List PlainSwap) → outcome ≡ (next (state_of before) event).outcome →
    (event.kind ≡ kinds.Step → section_of (state_of before) event.hart.number ≡ None →
    armed_of (state_of before) event.hart.number ≡ None →
    swap ≡ next_plain (state_of before) (length before.entries) event.hart) → later ≡ old ++ if_ran outcome swap →
    later ≡ old ++ swaps_in (state_of before) (length before.entries) event
swap_told before event outcome swap old later told was is =
    is
    ∙ ap (λ o. old ++ if_ran o swap) told
    ∙ ap (λ l. old ++ l)
    (if_ran-same (next (state_of before) event).outcome swap
    (next_plain (state_of before) (length before.entries) event.hart)
    (λ ran. let outside = ran_outside (state_of before) event ran in was outside.0 outside.1 outside.2))

-- the configuration stays
pub config_is : (story : Story) → (state_of story).config ≡ story.config
unfolding begin
config_is story =
    kept_after (λ state. state.config ≡ story.config) (λ state event is. next_config state event ∙ is)
    (begin story.program story.config) (events story.entries) refl

-- why a hart's next swap is not elided, by what the machine shows of it
pub why_told : (story : Story) (h : ℕ) (config : Config) (own : OwnState) (fallback : Bool) (confidence pc : ℕ) →
    config ≡ story.config → HasOwn own (hart_of (state_of story) h) → fallback ≡ own.fallback →
    confidence ≡ confidence_of own.predictor pc → pc ≡ (view_of (state_of story).committed h).pc →
    first_no config.mode fallback confidence ≡ why_not (state_of story) h
why_told story h config own fallback confidence pc configured has falls trusted at =
    let hart = hart_of (state_of story) h in
    ap (λ (k : Config). first_no k.mode fallback confidence) (configured ∙ sym (config_is story))
    ∙ ap (λ f. first_no (state_of story).config.mode f confidence) (falls ∙ has.fallback)
    ∙ ap (first_no (state_of story).config.mode hart.fallback)
    (trusted ∙ ap (λ p. confidence_of p pc) has.predictor ∙ ap (confidence_of hart.predictor) at)
