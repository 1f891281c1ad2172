-- Counting an event.
use Rattle.std.proofs.Common.{◌≡◌, ℕ, ◌+◌, ◌*◌, ◌^◌, ◌<◌, ◌≤◌, ◌==◌, Bool, true, false, ◌&&◌}
use Rattle.std.proofs.Common.{IsTrue, List, [], ◌∷◌, ◌++◌, length, set, cond, refl, ap, sym, subst, ◌∙◌, append-nil}
use Rattle.std.proofs.Common.{arith}
use Rattle.std.specs.Prelude.{nat_le, nat_lt}
use Rattle.std.specs.List.{flat_map, list_all}
use Rattle.std.proofs.lemmas.Bool.Decides.{nat_tests}
use Rattle.std.proofs.lemmas.Grind.{flat_map-append, get_or-set_at}
use Rattle.std.proofs.lemmas.List.{get_or-replicate, get_or-set_other, length-append}
use Rattle.chronicle.proofs.Laws.Tallies.{no_tally, none_small, plus_small, tally_of-push}
use Rattle.chronicle.specs.Chronicle.{Chronicle, spare_of}
use Rattle.chronicle.specs.Serial.{most_effects, serial, taking_effect}
use Rattle.chronicle.specs.Tally.{has_lost, nothing, numbers, of_entry, of_outcome, plus, tally_of, IsTallyOf}
use Rattle.chronicle.specs.declared.counts.Counts.{Counts}
use Rattle.chronicle.specs.declared.tally.Tally.{Tally}
use Rattle.chronicle.proofs.Laws.Tallies.{plus_nothing}
use Rattle.el_base.specs.declared.entries.Entry.{Entry}
use Rattle.el_base.specs.declared.outcomes.Cause.TheVariants.{Room, Lines, Long, Call, Mixed}
use Rattle.el_base.specs.declared.outcomes.Outcome.{Outcome}
use Rattle.el_base.specs.declared.outcomes.Outcome.TheVariants.{Idle, Stalled, Missed, Ran, Began, Buffered}
use Rattle.el_base.specs.declared.outcomes.Outcome.TheVariants.{Committed, RolledBack, Ordered, Served, Blocked}
use Rattle.el_base.specs.declared.outcomes.Outcome.TheVariants.{Delivered, Armed, LetGo}
use Rattle.el_base.proofs.Laws.Tests.{apart_by_test, number_of_test}
use Rattle.chronicle.specs.Counting.{HasRoom, IsCounted, KeepsCounts, tally_at, with_loss}

-- no outcome counts as a conflict of its own hart
no_conflict : (outcome : Outcome) → (of_outcome outcome).conflict ≡ 0
no_conflict Idle = refl
no_conflict Stalled = refl
no_conflict (Missed _ _) = refl
no_conflict Ran = refl
no_conflict Began = refl
no_conflict Buffered = refl
no_conflict (Committed _) = refl
no_conflict (RolledBack Room) = refl
no_conflict (RolledBack Lines) = refl
no_conflict (RolledBack Long) = refl
no_conflict (RolledBack Call) = refl
no_conflict (RolledBack Mixed) = refl
no_conflict (Ordered _ _) = refl
no_conflict (Served _ _) = refl
no_conflict (Blocked _ _) = refl
no_conflict (Delivered _) = refl
no_conflict Armed = refl
no_conflict (LetGo _) = refl

-- what an event counts for in a tally: as its hart's own, and as a loss
counted_by : (tally own : Tally) (lost : Bool) → own.conflict ≡ 0 →
    with_loss (plus tally own) lost ≡ plus tally (record own { conflict = cond lost 1 0 })
unfolding plus
counted_by tally own true none = grind (arith, none)
counted_by tally own false none = grind (arith, none)

pub entry_counted : (tally : Tally) (hart : ℕ) (entry : Entry) (own : Bool) → (entry.event.hart.number == hart) ≡ own →
    with_loss (cond own (plus tally (of_outcome entry.outcome)) tally) (has_lost hart entry.outcome)
    ≡ plus tally (of_entry hart entry)
unfolding of_entry
entry_counted tally hart entry true e =
    counted_by tally (of_outcome entry.outcome) (has_lost hart entry.outcome) (no_conflict entry.outcome)
    ∙ ap
    (λ own. plus tally
    (record (cond own (of_outcome entry.outcome) nothing) {
      conflict =
          cond (has_lost hart entry.outcome) 1 0;
    })) (sym e)
entry_counted tally hart entry false e =
    ap (λ t. with_loss t (has_lost hart entry.outcome)) (sym (plus_nothing tally))
    ∙ counted_by tally nothing (has_lost hart entry.outcome) refl
    ∙ ap
    (λ own. plus tally
    (record (cond own (of_outcome entry.outcome) nothing) {
      conflict =
          cond (has_lost hart entry.outcome) 1 0;
    })) (sym e)

-- the tally of a hart after the own event of one of them
own_counted : (tallies : List Tally) (number hart : ℕ) (own : Tally) (outcome : Outcome) → number < length tallies →
    own ≡ plus (tally_at tallies number) (of_outcome outcome) → (b : Bool) → (number == hart) ≡ b →
    tally_at (set tallies number own) hart ≡ cond b (plus (tally_at tallies hart) (of_outcome outcome))
    (tally_at tallies hart)
own_counted tallies number hart own outcome there counted true e =
    let same = number_of_test number hart e in
    get_or-set_at tallies number hart own nothing (sym same) there
    ∙ counted
    ∙ ap (λ n. plus (tally_at tallies n) (of_outcome outcome)) same
own_counted tallies number hart own outcome there counted false e =
    get_or-set_other tallies number hart own nothing (λ same. apart_by_test number hart e (sym same))

pub own_then_losses : (tallies now : List Tally) (entry : Entry) (own : Tally) →
    entry.event.hart.number < length tallies → own ≡ plus (tally_at tallies entry.event.hart.number)
    (of_outcome entry.outcome) → ((hart : ℕ) → hart < 8 → tally_at now hart
    ≡ with_loss (tally_at (set tallies entry.event.hart.number own) hart) (has_lost hart entry.outcome)) →
    (hart : ℕ) → hart < 8 → tally_at now hart ≡ plus (tally_at tallies hart) (of_entry hart entry)
own_then_losses tallies now entry own there counted losses hart small =
    losses hart small
    ∙ ap (λ t. with_loss t (has_lost hart entry.outcome))
    (own_counted tallies entry.event.hart.number hart own entry.outcome there counted
    (entry.event.hart.number == hart) refl)
    ∙ entry_counted (tally_at tallies hart) hart entry (entry.event.hart.number == hart) refl

-- where one more event can be counted, one more conflict can
room_for_conflict : (tally : Tally) → HasRoom tally → tally.conflict + 1 < 2 ^ 64
unfolding HasRoom
room_for_conflict tally room = grind (arith, nat_tests)

conflict_stays : (tally : Tally) (outcome : Outcome) → (plus tally (of_outcome outcome)).conflict ≡ tally.conflict
unfolding plus
conflict_stays tally outcome = ap (λ n. tally.conflict + n) (no_conflict outcome) ∙ (omega arith)

either_conflict : (tally : Tally) (outcome : Outcome) (b : Bool) →
    (cond b (plus tally (of_outcome outcome)) tally).conflict ≡ tally.conflict
either_conflict tally outcome true = conflict_stays tally outcome
either_conflict tally outcome false = refl

pub room_for_losses : (tallies : List Tally) (number : ℕ) (own : Tally) (outcome : Outcome) → number < length tallies →
    own ≡ plus (tally_at tallies number) (of_outcome outcome) →
    ((hart : ℕ) → hart < 8 → HasRoom (tally_at tallies hart)) →
    (hart : ℕ) → hart < 8 → (tally_at (set tallies number own) hart).conflict + 1 < 2 ^ 64
room_for_losses tallies number own outcome there counted room hart small =
    let same : (tally_at (set tallies number own) hart).conflict ≡ (tally_at tallies hart).conflict =
    ap (λ (t : Tally). t.conflict) (own_counted tallies number hart own outcome there counted (number == hart) refl)
    ∙ either_conflict (tally_at tallies hart) outcome (number == hart) in
    rw same (room_for_conflict (tally_at tallies hart) (room hart small))

with_conflict_small : (tally : Tally) (conflict : ℕ) → conflict ≤ 1 → IsTallyOf 1 tally →
    IsTallyOf 1 (record tally { conflict = conflict })
unfolding IsTallyOf
with_conflict_small tally conflict one small = grind (arith, nat_tests)

nothing_small : IsTallyOf 1 nothing
unfolding IsTallyOf
nothing_small = refl

either_small : (tally : Tally) (b : Bool) → IsTallyOf 1 tally → IsTallyOf 1 (cond b tally nothing)
either_small tally true small = small
either_small tally false small = nothing_small

one_at_most : (b : Bool) → cond b 1 0 ≤ 1
one_at_most b = grind (arith, nat_tests)

-- an event counts for no more than one instruction's worth where its outcome does
pub entry_small : (entry : Entry) → IsTallyOf 1 (of_outcome entry.outcome) → (hart : ℕ) →
    IsTallyOf 1 (of_entry hart entry)
unfolding of_entry
entry_small entry small hart =
    with_conflict_small (cond (entry.event.hart.number == hart) (of_outcome entry.outcome) nothing)
    (cond (has_lost hart entry.outcome) 1 0) (one_at_most (has_lost hart entry.outcome))
    (either_small (of_outcome entry.outcome) (entry.event.hart.number == hart) small)

-- an idle event counts for nothing, whichever hart it is of
idle_nothing : (hart : ℕ) (entry : Entry) → entry.outcome ≡ Idle → of_entry hart entry ≡ nothing
unfolding of_entry
idle_nothing hart entry idle =
    let own = entry.event.hart.number == hart in
    ap (λ o. record (cond own (of_outcome o) nothing) { conflict = cond (has_lost hart o) 1 0 }) idle
    ∙ either_nothing own
  where
    either_nothing : (own : Bool) → record (cond own nothing nothing) { conflict = 0 } ≡ nothing
    either_nothing true = refl
    either_nothing false = refl

pub idle_counted : (tally : Tally) (hart : ℕ) (entry : Entry) → entry.outcome ≡ Idle →
    tally ≡ plus tally (of_entry hart entry)
idle_counted tally hart entry idle = sym (ap (plus tally) (idle_nothing hart entry idle) ∙ plus_nothing tally)

pub idle_small : (entry : Entry) → entry.outcome ≡ Idle → (hart : ℕ) → IsTallyOf 1 (of_entry hart entry)
idle_small entry idle hart = subst (IsTallyOf 1) (sym (idle_nothing hart entry idle)) nothing_small

one_has_room : (n : ℕ) → n + 1 < 2 ^ 32 → (x : ℕ) (others room : Bool) →
    IsTrue (nat_le x (n * most_effects) && others) → (IsTrue others → IsTrue room) →
    IsTrue (nat_lt (x + most_effects) (2 ^ 64) && room)
one_has_room n few x others room small rest = grind (arith, nat_tests)

small_has_room : (n : ℕ) → n + 1 < 2 ^ 32 → (xs : List ℕ) → IsTrue (list_all (λ x. nat_le x (n * most_effects)) xs) →
    IsTrue (list_all (λ x. nat_lt (x + most_effects) (2 ^ 64)) xs)
small_has_room n few [] small = refl
small_has_room n few (x ∷ xs) small = one_has_room n few x _ _ small (small_has_room n few xs)

-- the tally of less than 2 ^ 32 events can take one event more
pub tally_has_room : (n : ℕ) (tally : Tally) → n + 1 < 2 ^ 32 → IsTallyOf n tally → HasRoom tally
unfolding IsTallyOf HasRoom
tally_has_room n tally few small = small_has_room n few (numbers tally) small

-- eight tallies that are the same
pub first_tallies : (tally : Tally) (hart : ℕ) → hart < 8 →
    tally_at (tally ∷ tally ∷ tally ∷ tally ∷ tally ∷ tally ∷ tally ∷ tally ∷ []) hart ≡ tally
first_tallies tally hart small = get_or-replicate 8 hart tally nothing small

-- one entry more adds the instructions that took effect in it
pub serial_more : (entries : List Entry) (entry : Entry) →
    length (serial (entries ++ entry ∷ []))
    ≡ length (serial entries) + length (taking_effect entry.event.hart.number entry.outcome)
serial_more entries entry =
    let effects : Entry → List ℕ = λ e. taking_effect e.event.hart.number e.outcome in
    ap length (flat_map-append effects entries (entry ∷ []))
    ∙ length-append (serial entries) (flat_map effects (entry ∷ []))
    ∙ ap (λ n. length (serial entries) + n) (ap length (append-nil (effects entry)))

-- the counts of no entries
pub none_counted : (tally : Tally) (counts : Counts) → tally ≡ nothing →
    counts
    ≡ record { tallies = tally ∷ tally ∷ tally ∷ tally ∷ tally ∷ tally ∷ tally ∷ tally ∷ []; steps = 0 } →
    IsCounted [] counts
none_counted tally counts none is =
    subst (IsCounted []) (sym is)
    (record {
      tallies = λ hart small. first_tallies tally hart small ∙ none ∙ no_tally hart;
      steps = refl;
      few = omega arith;
      small = λ hart. subst (λ t. IsTallyOf 0 t) (no_tally hart) none_small;
    })

-- the counts of some entries and one more
pub one_counted : (entries : List Entry) (entry : Entry) (old new : Counts) → IsCounted entries old →
    ((hart : ℕ) → hart < 8 → tally_at new.tallies hart ≡ plus (tally_at old.tallies hart) (of_entry hart entry)) →
    ((hart : ℕ) → IsTallyOf 1 (of_entry hart entry)) →
    new.steps ≡ old.steps + length (taking_effect entry.event.hart.number entry.outcome) →
    length (taking_effect entry.event.hart.number entry.outcome) ≤ most_effects →
    IsCounted (entries ++ entry ∷ []) new
one_counted entries entry old new counted tallies small steps few =
    let more : (hart : ℕ) → tally_of hart (entries ++ entry ∷ []) ≡ plus (tally_of hart entries) (of_entry hart entry) =
    λ hart. tally_of-push hart entries entry in
    let count : length (entries ++ entry ∷ []) ≡ length entries + 1 = length-append entries (entry ∷ []) in
    record {
      tallies = λ hart below.
          tallies hart below ∙ ap (λ t. plus t (of_entry hart entry)) (counted.tallies hart below) ∙ sym (more hart);
      steps = steps ∙ ap (λ n. n + length (taking_effect entry.event.hart.number entry.outcome)) counted.steps
          ∙ sym (serial_more entries entry);
      few = let before = counted.few in omega (arith, count, before, steps, few);
      small = λ hart.
          subst (λ t. IsTallyOf (length (entries ++ entry ∷ [])) t) (sym (more hart))
          (subst (λ n. IsTallyOf n (plus (tally_of hart entries) (of_entry hart entry))) (sym count)
          (plus_small (length entries) (tally_of hart entries) (of_entry hart entry)
          (counted.small hart) (small hart)));
    }

-- counts of entries of a history that has a place left can take one more
pub room_for_one : (history : Chronicle) (counts : Counts) → KeepsCounts history counts → 1 ≤ spare_of history →
    (hart : ℕ) → hart < 8 → HasRoom (tally_at counts.tallies hart)
room_for_one history counts keeps left hart below =
    let few = keeps.few_places in
    subst HasRoom (sym (keeps.counted.tallies hart below))
    (tally_has_room (length history.entries) (tally_of hart history.entries) (omega (arith, few, left))
    (keeps.counted.small hart))

-- a history with an entry more keeps its counts
pub keeps_more : (old new : Chronicle) (before after : Counts) (entry : Entry) → KeepsCounts old before →
    1 ≤ spare_of old → new ≡ record old { entries = old.entries ++ entry ∷ [] } →
    ((hart : ℕ) → hart < 8 → tally_at after.tallies hart ≡ plus (tally_at before.tallies hart) (of_entry hart entry)) →
    ((hart : ℕ) → IsTallyOf 1 (of_entry hart entry)) →
    after.steps ≡ before.steps + length (taking_effect entry.event.hart.number entry.outcome) →
    length (taking_effect entry.event.hart.number entry.outcome) ≤ most_effects → KeepsCounts new after
keeps_more old new before after entry keeps left more tallies small steps few =
    subst (λ history. KeepsCounts history after) (sym more)
    (record {
      within = let within = keeps.within in omega (arith, within, left, length-append old.entries (entry ∷ []));
      few_places = keeps.few_places;
      counted = one_counted old.entries entry before after keeps.counted tallies small steps few;
    })
