-- a round robin, one event after another
use Rattle.std.proofs.Common.{◌≡◌, ℕ, suc, ◌+◌, ◌-◌, ◌*◌, ◌/◌, ◌%◌, ◌<◌, ◌≤◌, ◌⊎◌, [], ◌∷◌, ◌++◌, take}
use Rattle.std.proofs.Common.{false, refl, ◌∙◌, ap, sym, subst, arith, length-append, inl, inr}
use Rattle.std.specs.Prelude.{IsTrue}
use Rattle.drive.specs.Drivers.{GoesRound, MakesRoundRobin}
use Rattle.el_base.specs.Kinds.{kind_number}
use Rattle.el_base.specs.declared.events.Event.{Event}
use Rattle.el_base.specs.declared.events.Kind.TheVariants as kinds
use Rattle.el_base.specs.declared.hart_id.HartId.{HartId}
use Rattle.el_base.proofs.Laws.ListLaws.{slice_get_push}
use Rattle.drive.specs.RoundRobin.{IsEventAt}
use Rattle.drive.specs.Turns.{IsAtItsEnd}
use Rattle.el_model.specs.Next.{is_over, state_after}
use Rattle.machine.proofs.Laws.Continued.{continued_more, continued_twice, left_of_continued, nothing_more}
use Rattle.machine.proofs.Laws.Continued.{state_of_continued}
use Rattle.machine.proofs.Laws.Continued.{going_more}
use Rattle.machine.specs.Resting.{bus_events, turn_events}
use Rattle.machine.specs.Story.{Story, continued, left_of, state_of}

pub none_made : (story : Story) → GoesRound story story 0
none_made story = record {
  made = [];
  story = sym (nothing_more story);
  count = refl;
  steps = omega arith;
  turns = λ i event found. cc;
  going = λ i within. absurd (omega arith);
}

-- the state that a round has reached
reached : (before now : Story) (place : ℕ) (round : GoesRound before now place) →
    state_of now ≡ state_after (state_of before) round.made
reached before now place round = ap state_of round.story ∙ state_of_continued before round.made

-- the steps that are left then
left_round : (before now : Story) (place : ℕ) → GoesRound before now place → left_of now ≡ left_of before - place
left_round before now place round =
    ap left_of round.story ∙ left_of_continued before round.made ∙ ap (λ n. left_of before - n) round.count

pub one_made : (before now later : Story) (place : ℕ) (event : Event) → GoesRound before now place →
    is_over (state_of now) ≡ false → 1 ≤ left_of now → IsEventAt before.config.harts place event →
    later ≡ continued now (event ∷ []) → GoesRound before later (place + 1)
one_made before now later place event round runs left turn more = record {
  made = round.made ++ event ∷ [];
  story = continued_more before now later round.made event round.story more;
  count = omega (arith, length-append round.made (event ∷ []), round.count);
  steps = let behind = left_round before now place round in omega (arith, round.steps, left, behind);
  turns = λ i other found.
      elim (slice_get_push round.made event i other found) [
        | inl before_it ↦ round.turns i other before_it
        | inr last ↦
            let At : ℕ → Type 0 = λ n. IsEventAt before.config.harts n other in
            subst At (sym (last.0 ∙ round.count))
            (subst (λ (e : Event). IsEventAt before.config.harts place e) last.1 turn)
      ];
  going = going_more before now round.made event round.story runs round.going;
}

all_made : (before now : Story) (place : ℕ) → GoesRound before now place →
    (place ≡ left_of before) ⊎ IsTrue (is_over (state_of now)) → MakesRoundRobin before now
all_made before now place round ended = record {
  made = round.made;
  round_robin = record {
    turns = round.turns;
    steps = omega (arith, round.count, round.steps);
    going = round.going;
    ended = elim ended [
      | inl full ↦ inl (round.count ∙ full)
      | inr over ↦ inr (sym (ap is_over (reached before now place round)) ∙ over)
    ];
  };
  story = round.story;
}

-- a round robin ends where every hart has stopped, or no step is left
pub at_its_end : (before now later : Story) (place : ℕ) → GoesRound before now place → IsAtItsEnd now → later ≡ now →
    MakesRoundRobin before later
at_its_end before now later place round ended same =
    let behind = left_round before now place round in
    subst (MakesRoundRobin before) (sym same)
    (all_made before now place round (elim ended [
      | inl over ↦ inr over
      | inr none ↦ inl (omega (arith, round.steps, none, behind))
    ]))

-- a turn that goes on by its next event
event_at : (harts turns made : ℕ) (event : Event) → made < 4 → kind_number event.kind ≡ made →
    event.hart.number ≡ turns % harts → IsEventAt harts (4 * turns + made) event
event_at harts turns made event within kind hart = record {
  kind = omega (arith, within, kind);
  hart = hart ∙ ap (λ n. n % harts) (let whole : turns ≡ (4 * turns + made) / 4 = omega (arith, within) in whole);
}

pub next_of_turn : (before now later : Story) (turns made place : ℕ) (event : Event) →
    GoesRound before now (4 * turns + made) → made < 4 → place ≡ 4 * turns + made + 1 → kind_number event.kind ≡ made →
    event.hart.number ≡ turns % before.config.harts → is_over (state_of now) ≡ false → 1 ≤ left_of now →
    later ≡ continued now (event ∷ []) → GoesRound before later place
next_of_turn before now later turns made place event round within next kind own runs left more =
    let turn = event_at before.config.harts turns made event within kind own in
    subst (GoesRound before later) (sym next)
    (one_made before now later (4 * turns + made) event round runs left turn more)

pub first_of_turn : (before now later : Story) (turns : ℕ) (event : Event) → GoesRound before now (4 * turns) →
    kind_number event.kind ≡ 0 → event.hart.number ≡ turns % before.config.harts → is_over (state_of now) ≡ false →
    1 ≤ left_of now → later ≡ continued now (event ∷ []) → GoesRound before later (4 * turns + 1)
first_of_turn before now later turns event round kind own runs left more =
    let from : 4 * turns ≡ 4 * turns + 0 = omega arith in
    next_of_turn before now later turns 0 (4 * turns + 1) event (subst (GoesRound before now) from round)
    (omega arith) (omega arith) kind own runs left more

-- the events of the bus in a turn, made at once
pub three_made : (before now later : Story) (turns : ℕ) (hart : HartId) → GoesRound before now (4 * turns + 1) →
    is_over (state_of now) ≡ false → 3 ≤ left_of now → hart.number ≡ turns % before.config.harts →
    later ≡ continued now (bus_events hart) →
    ((made : ℕ) → state_of (continued now (take made (bus_events hart))) ≡ state_of now) →
    GoesRound before later (4 * turns + 4)
three_made before now later turns hart round runs left own more same =
    let order : Event = record { kind = kinds.Order; hart = hart } in
    let serve : Event = record { kind = kinds.Serve; hart = hart } in
    let deliver : Event = record { kind = kinds.Deliver; hart = hart } in
    let first : Story = continued now (order ∷ []) in
    let second : Story = continued now (order ∷ serve ∷ []) in
    let first_left = left_of_continued now (order ∷ []) in
    let second_left = left_of_continued now (order ∷ serve ∷ []) in
    let ordered : GoesRound before first (4 * turns + 2) =
    next_of_turn before now first turns 1 (4 * turns + 2) order round (omega arith) (omega arith) refl own runs
    (omega (arith, left)) refl in
    let served : GoesRound before second (4 * turns + 3) =
    next_of_turn before first second turns 2 (4 * turns + 3) serve ordered (omega arith) (omega arith) refl own
    (ap is_over (same 1) ∙ runs) (omega (arith, left, first_left))
    (sym (continued_twice now (order ∷ []) (serve ∷ []))) in
    next_of_turn before second later turns 3 (4 * turns + 4) deliver served (omega arith) (omega arith) refl own
    (ap is_over (same 2) ∙ runs) (omega (arith, left, second_left))
    (more ∙ sym (continued_twice now (order ∷ serve ∷ []) (deliver ∷ [])))

-- all events of a turn, made at once
pub turn_made : (before now later : Story) (turns : ℕ) (hart : HartId) → GoesRound before now (4 * turns) →
    is_over (state_of now) ≡ false → 4 ≤ left_of now → hart.number ≡ turns % before.config.harts →
    later ≡ continued now (turn_events hart) →
    ((made : ℕ) → state_of (continued now (take made (turn_events hart))) ≡ state_of now) →
    GoesRound before later (4 * turns + 4)
turn_made before now later turns hart round runs left own more same =
    let step : Event = record { kind = kinds.Step; hart = hart } in
    let first : Story = continued now (step ∷ []) in
    let first_left = left_of_continued now (step ∷ []) in
    let stepped = first_of_turn before now first turns step round refl own runs (omega (arith, left)) refl in
    three_made before first later turns hart stepped (ap is_over (same 1) ∙ runs) (omega (arith, left, first_left)) own
    (more ∙ sym (continued_twice now (step ∷ []) (bus_events hart)))
    (λ made. ap state_of (continued_twice now (step ∷ []) (take made (bus_events hart)))
    ∙ same (suc made) ∙ sym (same 1))
