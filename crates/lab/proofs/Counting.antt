-- the sections of a run counted, one event after another
use Rattle.std.proofs.Common.{◌≡◌, ◌∙◌, ◌+◌, ◌*◌, ◌≤◌, append_assoc, eq-eqb, ◌==◌, ◌&&◌, ℕ, Bool, true, false, cond}
use Rattle.std.proofs.Common.{List, [], ◌∷◌, ◌++◌, Option}
use Rattle.std.proofs.Common.{None, Some, is_some, length, map, refl, ap, sym, subst, arith}
use Rattle.std.specs.Prelude.{sum_by}
use Rattle.std.proofs.lemmas.Bool.Decides.{nat_tests}
use Rattle.std.proofs.lemmas.List.{append-nil}
use Rattle.std.proofs.lemmas.List.Sums.{sum_by-append, sum_by-cons, sum_by_push}
use Rattle.chronicle.specs.Tally.{has_lost, nothing, of_entry, of_outcome, tally_of, total}
use Rattle.chronicle.specs.declared.tally.Tally.{Tally}
use Rattle.el_base.specs.Config.{IsInRange}
use Rattle.el_base.specs.Winners.{winner_over}
use Rattle.el_base.specs.declared.config.Config.{Config}
use Rattle.el_base.specs.declared.entries.Entry.{Entry}
use Rattle.el_base.specs.declared.events.Event.{Event}
use Rattle.el_base.specs.declared.hart_id.HartId.{HartId}
use Rattle.el_base.specs.declared.outcomes.Cause.TheVariants.{Room, Lines, Long, Call, Mixed}
use Rattle.el_base.specs.declared.outcomes.Outcome.{Outcome}
use Rattle.el_base.specs.declared.outcomes.Outcome.TheVariants as outcomes
use Rattle.elf_image.specs.Program.{Program}
use Rattle.el_model.proofs.Laws.Folds.{entries_from-append, state_after-append}
use Rattle.el_model.proofs.Laws.FromStart.{first_outside}
use Rattle.el_model.specs.Next.{after, entries_from, next}
use Rattle.el_model.specs.State.{ModelState, Section, begin, is_live, section_of}
use Rattle.lab.proofs.Balance.{Balanced, balanced, one}
use Rattle.lab.proofs.Growing.{tries_from-push}
use Rattle.lab.specs.Counts.{SectionsAreThoseOfTheReport, of_end, of_section, total_of}
use Rattle.lab.specs.Tries as model
use Rattle.lab.specs.Tries.{Moment, begun_as, begun_in, end_in, ended_by, first_end, lost_end, moment_of, noted}
use Rattle.lab.specs.Tries.{own_end, tries_from}
use Rattle.lab.specs.declared.tries.Ended.{Ended}
use Rattle.lab.specs.declared.tries.Ended.TheVariants.{Live, Committed, LostTo, RolledBack}
use Rattle.lab.specs.declared.tries.Try.{Try}
use Rattle.rv_flat.specs.FlatState.{view_of}
use Rattle.section_laws.specs.Sections.{is_began, is_committed, is_rolled_back}

abbrev is_live_end : Ended → Bool
is_live_end Live = true
is_live_end (Committed at count) = false
is_live_end (LostTo at ran winner line) = false
is_live_end (RolledBack at ran cause) = false

-- how many sections of a hart are live
abbrev lives : ℕ → Try → ℕ
lives h try = one ((try.hart.number == h) && is_live_end try.ended)

abbrev live_count : ℕ → List Try → ℕ
live_count h tries = sum_by (lives h) tries

-- a tally without what sections do not tell of ends
abbrev of_ends : Tally → Tally
of_ends tally = record tally { ran = 0; began = 0; missed = 0; stalled = 0; blocked = 0 }

-- how a moment ends a section, by parts
abbrev end_by : Bool → ℕ → ℕ → Outcome → ModelState → Option ℕ → Ended
end_by own place ran outcome after winner =
    first_end (cond own (own_end place ran outcome) Live) (lost_end place ran after winner)

loss_counts : (own : Bool) (place ran : ℕ) (after : ModelState) (winner : Option ℕ) →
    of_end (first_end (cond own Live Live) (lost_end place ran after winner))
    ≡ record nothing { conflict = one (is_some winner) }
loss_counts true place ran after None = refl
loss_counts true place ran after (Some winner) = refl
loss_counts false place ran after None = refl
loss_counts false place ran after (Some winner) = refl

-- an event counts for what it ends, where it begins none
end_counts : (own : Bool) (place ran : ℕ) (outcome : Outcome) (after : ModelState) (h : ℕ) →
    of_end (end_by own place ran outcome after (winner_over outcome h))
    ≡ of_ends (record (cond own (of_outcome outcome) nothing) { conflict = one (has_lost h outcome) })
end_counts true place ran outcomes.Idle after h = refl
end_counts true place ran outcomes.Stalled after h = refl
end_counts true place ran (outcomes.Missed line need) after h = refl
end_counts true place ran outcomes.Ran after h = refl
end_counts true place ran outcomes.Began after h = refl
end_counts true place ran outcomes.Buffered after h = refl
end_counts true place ran (outcomes.Committed count) after h = refl
end_counts true place ran (outcomes.RolledBack Room) after h = refl
end_counts true place ran (outcomes.RolledBack Lines) after h = refl
end_counts true place ran (outcomes.RolledBack Long) after h = refl
end_counts true place ran (outcomes.RolledBack Call) after h = refl
end_counts true place ran (outcomes.RolledBack Mixed) after h = refl
end_counts true place ran (outcomes.Blocked why by) after h = refl
end_counts true place ran outcomes.Armed after h = refl
end_counts true place ran (outcomes.LetGo count) after h = refl
end_counts true place ran (outcomes.Ordered losers freed) after h =
    loss_counts true place ran after (winner_over (outcomes.Ordered losers freed) h)
end_counts true place ran (outcomes.Served losers freed) after h =
    loss_counts true place ran after (winner_over (outcomes.Served losers freed) h)
end_counts true place ran (outcomes.Delivered losers) after h =
    loss_counts true place ran after (winner_over (outcomes.Delivered losers) h)
end_counts false place ran (outcomes.Ordered losers freed) after h =
    loss_counts false place ran after (winner_over (outcomes.Ordered losers freed) h)
end_counts false place ran (outcomes.Served losers freed) after h =
    loss_counts false place ran after (winner_over (outcomes.Served losers freed) h)
end_counts false place ran (outcomes.Delivered losers) after h =
    loss_counts false place ran after (winner_over (outcomes.Delivered losers) h)
end_counts false place ran _ after h = refl

-- whether it leaves a section live
loss_lives : (own : Bool) (place ran : ℕ) (after : ModelState) (winner : Option ℕ) →
    one (is_live_end (first_end (cond own Live Live) (lost_end place ran after winner)))
    + (0 + 0 + one (is_some winner)) ≡ 1
loss_lives true place ran after None = refl
loss_lives true place ran after (Some winner) = refl
loss_lives false place ran after None = refl
loss_lives false place ran after (Some winner) = refl

end_lives : (own : Bool) (place ran : ℕ) (outcome : Outcome) (after : ModelState) (h : ℕ) →
    one (is_live_end (end_by own place ran outcome after (winner_over outcome h)))
    + (one (own && is_committed outcome) + one (own && is_rolled_back outcome) + one (is_some (winner_over outcome h)))
    ≡ 1
end_lives true place ran (outcomes.Ordered losers freed) after h =
    loss_lives true place ran after (winner_over (outcomes.Ordered losers freed) h)
end_lives true place ran (outcomes.Served losers freed) after h =
    loss_lives true place ran after (winner_over (outcomes.Served losers freed) h)
end_lives true place ran (outcomes.Delivered losers) after h =
    loss_lives true place ran after (winner_over (outcomes.Delivered losers) h)
end_lives false place ran (outcomes.Ordered losers freed) after h =
    loss_lives false place ran after (winner_over (outcomes.Ordered losers freed) h)
end_lives false place ran (outcomes.Served losers freed) after h =
    loss_lives false place ran after (winner_over (outcomes.Served losers freed) h)
end_lives false place ran (outcomes.Delivered losers) after h =
    loss_lives false place ran after (winner_over (outcomes.Delivered losers) h)
end_lives true place ran _ after h = refl
end_lives false place ran _ after h = refl

began_lives : (own : Bool) (place ran : ℕ) (outcome : Outcome) (after : ModelState) (h : ℕ) →
    one (own && is_began outcome) ≤ one (is_live_end (end_by own place ran outcome after (winner_over outcome h)))
began_lives true place ran outcomes.Began after h = omega arith
began_lives true place ran _ after h = omega arith
began_lives false place ran outcome after h = omega arith

-- a hart without a live section ends none
quiet : (own : Bool) (outcome : Outcome) (h : ℕ) (now : Bool) → Balanced own outcome h false now →
    one (own && is_committed outcome) + one (own && is_rolled_back outcome) + one (is_some (winner_over outcome h)) ≡ 0
quiet true outcomes.Began h now balance = refl
quiet true _ h now balance = omega (arith, balance)
quiet false outcome h now balance = omega (arith, balance)

live_is : (ended : Ended) → one (is_live_end ended) ≡ 1 → ended ≡ Live
live_is Live is = refl
live_is (Committed at count) is = absurd cc
live_is (LostTo at ran winner line) is = absurd cc
live_is (RolledBack at ran cause) is = absurd cc

-- one number of a tally, of those that the ends of sections tell
module _ (number : Tally → ℕ) (told : (tally : Tally) → number tally ≡ number (of_ends tally))
    (none : number nothing ≡ 0) (h : ℕ) where
  end_value : (ended : Ended) → number (record (of_end ended) { began = 1 }) ≡ number (of_end ended)
  end_value ended = told (record (of_end ended) { began = 1 }) ∙ sym (told (of_end ended))

  ended_value : (was more : Ended) →
      number (record (of_end (first_end was more)) { began = 1 })
      ≡ number (record (of_end was) { began = 1 }) + one (is_live_end was) * number (of_end more)
  ended_value Live more = omega (arith, end_value more, end_value Live, none)
  ended_value (Committed at count) more = omega arith
  ended_value (LostTo at ran winner line) more = omega arith
  ended_value (RolledBack at ran cause) more = omega arith

  one_value : (moment : Moment) (try : Try) →
      number (of_section h (ended_by moment try)) ≡ number (of_section h try) + lives h
      try * number (of_end (end_in moment h))
  one_value moment try = by (try.hart.number == h) refl
    where
      by : (own : Bool) → (try.hart.number == h) ≡ own →
          number (cond own (record (of_end (first_end try.ended (end_in moment try.hart.number))) { began = 1 })
          nothing)
          ≡ number (cond own (record (of_end try.ended) { began = 1 }) nothing)
          + one (own && is_live_end try.ended) * number (of_end (end_in moment h))
      by true e =
          let same : try.hart.number ≡ h = grind (arith, nat_tests) in
          ap (λ k. number (record (of_end (first_end try.ended (end_in moment k))) { began = 1 })) same
          ∙ ended_value try.ended (end_in moment h)
      by false e = omega arith

  ended_sum : (moment : Moment) (tries : List Try) →
      total_of number h (map (ended_by moment) tries)
      ≡ total_of number h tries + live_count h tries * number (of_end (end_in moment h))
  ended_sum moment [] = omega arith
  ended_sum moment (try ∷ tries) =
      omega (
        arith,
        one_value moment try,
        ended_sum moment tries,
        sum_by-cons (λ t. number (of_section h t)) (ended_by moment try) (map (ended_by moment) tries),
        sum_by-cons (λ t. number (of_section h t)) try tries,
        ap (λ n. n * number (of_end (end_in moment h))) (sum_by-cons (lives h) try tries),
      )

  live_value : (try : Try) → try.ended ≡ Live → number (of_section h try) ≡ 0
  live_value try live = by (try.hart.number == h)
    where
      by : (own : Bool) → number (cond own (record (of_end try.ended) { began = 1 }) nothing) ≡ 0
      by true = end_value try.ended ∙ ap (λ e. number (of_end e)) live ∙ none
      by false = none

  begun_sum : (outcome : Outcome) (after : ModelState) (place : ℕ) (hart : HartId) (section : Option Section) →
      total_of number h (begun_as outcome (model.of_section after place hart section Live)) ≡ 0
  begun_sum outcomes.Began after place hart None = refl
  begun_sum outcomes.Began after place hart (Some section) =
      omega (
        arith,
        live_value (record {
          hart = hart;
          acquire = record { pc = (view_of after.committed hart.number).pc; word = section.word };
          old = section.old;
          new = section.new;
          first = place;
          ended = Live;
        }) refl,
      )
  begun_sum _ after place hart section = refl

  noted_sum : (moment : Moment) (tries : List Try) →
      total_of number h (noted moment tries) ≡ total_of number h tries + live_count h
      tries * number (of_end (end_in moment h))
  noted_sum moment tries =
      let apart =
      sum_by-append (λ try. number (of_section h try)) (map (ended_by moment) tries) (begun_in moment Live) in
      let begun = begun_sum moment.outcome moment.after moment.place moment.event.hart
      (section_of moment.after moment.event.hart.number) in
      omega (arith, apart, begun, ended_sum moment tries)

  -- what an event ends is what it counts for
  entry_value : (state : ModelState) (place : ℕ) (event : Event) (was now : Bool) →
      Balanced (event.hart.number == h) (next state event).outcome h was now →
      one was * number (of_end (end_in (moment_of state place event) h))
      ≡ number (of_entry h (record { event = event; outcome = (next state event).outcome }))
  unfolding of_entry
  entry_value state place event was now balance =
      by was balance
      ∙ ap number
      (end_counts (event.hart.number == h) place (model.ran_in state h) (next state event).outcome
      (next state event).state h)
      ∙ sym (told (of_entry h (record { event = event; outcome = (next state event).outcome })))
    where
      ended : Ended
      ended = end_in (moment_of state place event) h

      by : (was : Bool) → Balanced (event.hart.number == h) (next state event).outcome h was now →
          one was * number (of_end (end_in (moment_of state place event) h))
          ≡ number (of_end (end_in (moment_of state place event) h))
      by true balance = omega arith
      by false balance =
          let ends = quiet (event.hart.number == h) (next state event).outcome h now balance in
          let live =
          end_lives (event.hart.number == h) place (model.ran_in state h) (next state event).outcome
          (next state event).state h in
          let is : end_in (moment_of state place event) h ≡ Live = live_is _ (omega (arith, ends, live)) in
          let zero_ = ap (λ e. number (of_end e)) is ∙ none in
          omega (arith, zero_)

-- live sections, one event after another
module _ (h : ℕ) where
  one_lives : (moment : Moment) (try : Try) →
      lives h (ended_by moment try) ≡ lives h try * one (is_live_end (end_in moment h))
  one_lives moment try = by (try.hart.number == h) refl
    where
      ends : (was more : Ended) →
          one (is_live_end (first_end was more)) ≡ one (is_live_end was) * one (is_live_end more)
      ends Live more = omega arith
      ends (Committed at count) more = omega arith
      ends (LostTo at ran winner line) more = omega arith
      ends (RolledBack at ran cause) more = omega arith

      by : (own : Bool) → (try.hart.number == h) ≡ own →
          one (own && is_live_end (first_end try.ended (end_in moment try.hart.number)))
          ≡ one (own && is_live_end try.ended) * one (is_live_end (end_in moment h))
      by true e =
          let same : try.hart.number ≡ h = grind (arith, nat_tests) in
          ap (λ k. one (is_live_end (first_end try.ended (end_in moment k)))) same ∙ ends try.ended (end_in moment h)
      by false e = omega arith

  ended_count : (moment : Moment) (tries : List Try) →
      live_count h (map (ended_by moment) tries) ≡ live_count h tries * one (is_live_end (end_in moment h))
  ended_count moment [] = omega arith
  ended_count moment (try ∷ tries) =
      omega (
        arith,
        one_lives moment try,
        ended_count moment tries,
        sum_by-cons (lives h) (ended_by moment try) (map (ended_by moment) tries),
        ap (λ n. n * one (is_live_end (end_in moment h))) (sum_by-cons (lives h) try tries),
      )

  none_own : (own : Bool) → 0 ≡ one (own && false)
  none_own true = refl
  none_own false = refl

  begun_count : (outcome : Outcome) (after : ModelState) (place : ℕ) (hart : HartId) (section : Option Section) →
      (outcome ≡ outcomes.Began → is_some section ≡ true) →
      live_count h (begun_as outcome (model.of_section after place hart section Live))
      ≡ one ((hart.number == h) && is_began outcome)
  begun_count outcomes.Began after place hart None some = absurd (is_there (some refl))
    where
      is_there : false ≡ true → ⊥
      is_there e = cc
  begun_count outcomes.Began after place hart (Some section) some = omega arith
  begun_count _ after place hart section some = none_own (hart.number == h)

  noted_count : (state : ModelState) (place : ℕ) (event : Event) (tries : List Try) (was now : Bool) →
      Balanced (event.hart.number == h) (next state event).outcome h was now →
      ((next state event).outcome ≡ outcomes.Began → is_live (next state event).state event.hart.number ≡ true) →
      live_count h tries ≡ one was → live_count h (noted (moment_of state place event) tries) ≡ one now
  noted_count state place event tries was now balance begins count =
      let moment = moment_of state place event in
      let apart = sum_by-append (lives h) (map (ended_by moment) tries) (begun_in moment Live) in
      let begun = begun_count (next state event).outcome (next state event).state place event.hart
      (section_of (next state event).state event.hart.number) begins in
      let ended = ended_count moment tries ∙ ap (λ n. n * one (is_live_end (end_in moment h))) count in
      let all = by was balance in
      omega (arith, apart, begun, ended, all)
    where
      by : (was : Bool) → Balanced (event.hart.number == h) (next state event).outcome h was now →
          one was * one (is_live_end (end_in (moment_of state place event) h))
          + one ((event.hart.number == h) && is_began (next state event).outcome) ≡ one now
      by true balance =
          let live =
          end_lives (event.hart.number == h) place (model.ran_in state h) (next state event).outcome
          (next state event).state h in
          omega (arith, live, balance)
      by false balance =
          let ends = quiet (event.hart.number == h) (next state event).outcome h now balance in
          omega (arith, ends, balance)

  -- sections that began
  began_value : (moment : Moment) (try : Try) → (of_section h (ended_by moment try)).began ≡ (of_section h try).began
  began_value moment try = by (try.hart.number == h)
    where
      by : (own : Bool) →
          (cond own (record (of_end (first_end try.ended (end_in moment try.hart.number))) { began = 1 }) nothing).began
          ≡ (cond own (record (of_end try.ended) { began = 1 }) nothing).began
      by true = refl
      by false = refl

  began_sum : (moment : Moment) (tries : List Try) →
      total_of (λ tally. tally.began) h (map (ended_by moment) tries) ≡ total_of (λ tally. tally.began) h tries
  began_sum moment [] = refl
  began_sum moment (try ∷ tries) =
      omega (
        arith,
        began_value moment try,
        began_sum moment tries,
        sum_by-cons (λ t. (of_section h t).began) (ended_by moment try) (map (ended_by moment) tries),
        sum_by-cons (λ t. (of_section h t).began) try tries,
      )

  began_of : (own : Bool) (tally : Tally) → (cond own (record tally { began = 1 }) nothing).began ≡ one (own && true)
  began_of true tally = refl
  began_of false tally = refl

  begun_began : (outcome : Outcome) (after : ModelState) (place : ℕ) (hart : HartId) (section : Option Section) →
      (outcome ≡ outcomes.Began → is_some section ≡ true) →
      total_of (λ tally. tally.began) h (begun_as outcome (model.of_section after place hart section Live))
      ≡ one ((hart.number == h) && is_began outcome)
  begun_began outcomes.Began after place hart None some = absurd (is_there (some refl))
    where
      is_there : false ≡ true → ⊥
      is_there e = cc
  begun_began outcomes.Began after place hart (Some section) some = omega (arith, began_of (hart.number == h) nothing)
  begun_began _ after place hart section some = none_own (hart.number == h)

  entry_began : (own : Bool) (outcome : Outcome) →
      one (own && is_began outcome) ≡ (cond own (of_outcome outcome) nothing).began
  entry_began true (outcomes.RolledBack Room) = refl
  entry_began true (outcomes.RolledBack Lines) = refl
  entry_began true (outcomes.RolledBack Long) = refl
  entry_began true (outcomes.RolledBack Call) = refl
  entry_began true (outcomes.RolledBack Mixed) = refl
  entry_began true _ = refl
  entry_began false outcome = refl

  noted_began : (state : ModelState) (place : ℕ) (event : Event) (tries : List Try) →
      ((next state event).outcome ≡ outcomes.Began → is_live (next state event).state event.hart.number ≡ true) →
      total_of (λ tally. tally.began) h (noted (moment_of state place event) tries)
      ≡ total_of (λ tally. tally.began) h
      tries + (of_entry h (record { event = event; outcome = (next state event).outcome })).began
  unfolding of_entry
  noted_began state place event tries begins =
      let moment = moment_of state place event in
      let apart =
      sum_by-append (λ try. (of_section h try).began) (map (ended_by moment) tries) (begun_in moment Live) in
      let begun = begun_began (next state event).outcome (next state event).state place event.hart
      (section_of (next state event).state event.hart.number) begins in
      omega (
        arith,
        apart,
        begun,
        began_sum moment tries,
        entry_began (event.hart.number == h) (next state event).outcome,
      )

-- what the sections of some events tell
record Told (program : Program) (config : Config) (h : ℕ) (events : List Event) : Type 0 where
  live : live_count h (tries_from (begin program config) 0 events) ≡ one (is_live (after program config events) h)
  began :
      total_of (λ tally. tally.began) h (tries_from (begin program config) 0 events)
      ≡ total (λ tally. tally.began) h (entries_from (begin program config) events)
  ends :
      (number : Tally → ℕ) → ((tally : Tally) → number tally ≡ number (of_ends tally)) → number nothing ≡ 0 →
      total_of number h (tries_from (begin program config) 0 events) ≡ total number h
      (entries_from (begin program config) events)

module _ (program : Program) (config : Config) (same : program.harts ≡ config.harts)
    (range : IsInRange config) (h : ℕ) where
  begins_live : (events : List Event) (event : Event) → (next (after program config events) event).outcome
      ≡ outcomes.Began → is_live (next (after program config events) event).state event.hart.number ≡ true
  begins_live events event began =
      let state = after program config events in
      let balance = balanced program config events event event.hart.number same range in
      by (is_live state event.hart.number) (is_live (next state event).state event.hart.number) refl
      (subst (λ outcome. Balanced (event.hart.number == event.hart.number) outcome event.hart.number
      (is_live state event.hart.number)
      (is_live (next state event).state event.hart.number)) began balance)
    where
      by : (was now : Bool) → is_live (next (after program config events) event).state event.hart.number ≡ now →
          Balanced (event.hart.number == event.hart.number) outcomes.Began event.hart.number was now →
          is_live (next (after program config events) event).state event.hart.number ≡ true
      by was true is balance = is
      by was false is balance =
          absurd (none (event.hart.number == event.hart.number) was
          (eq-eqb event.hart.number event.hart.number refl) balance)
        where
          none : (own was : Bool) → own ≡ true → Balanced own outcomes.Began event.hart.number was false → ⊥
          none true was own balance = omega (arith, balance)
          none false was own balance = cc

  one_more : (events : List Event) (event : Event) → Told program config h events →
      Told program config h (events ++ event ∷ [])
  one_more events event told =
      let from = begin program config in
      let state = after program config events in
      let entry : Entry = record { event = event; outcome = (next state event).outcome } in
      let balance = balanced program config events event h same range in
      let begins = begins_live events event in
      let grown : tries_from from 0 (events ++ event ∷ []) ≡ noted (moment_of state (length events) event)
      (tries_from from 0 events) =
      tries_from-push from 0 (length events) events event (omega arith) in
      let entries : entries_from from (events ++ event ∷ []) ≡ entries_from from events ++ entry ∷ [] =
      entries_from-append from events (event ∷ []) in
      record {
        live =
            ap (live_count h) grown
            ∙ noted_count h state (length events) event (tries_from from 0 events) (is_live state h)
            (is_live (next state event).state h) balance begins told.live
            ∙ ap (λ s. one (is_live s h)) (sym (state_after-append from events (event ∷ [])));
        began =
            ap (total_of (λ tally. tally.began) h) grown
            ∙ noted_began h state (length events) event (tries_from from 0 events) begins
            ∙ ap (λ n. n + (of_entry h entry).began) told.began
            ∙ sym (ap (total (λ tally. tally.began) h) entries ∙ sum_by_push (λ e. (of_entry h e).began)
            (entries_from from events) entry);
        ends = λ number is none.
            ap (total_of number h) grown
            ∙ noted_sum number is none h (moment_of state (length events) event) (tries_from from 0 events)
            ∙ ap (λ n. total_of number h (tries_from from 0 events) + n
            * number (of_end (end_in (moment_of state (length events) event) h))) told.live
            ∙ ap (λ n. total_of number h (tries_from from 0 events) + n)
            (entry_value number is none h state (length events) event (is_live state h)
            (is_live (next state event).state h) balance)
            ∙ ap (λ n. n + number (of_entry h entry)) (told.ends number is none)
            ∙ sym (ap (total number h) entries ∙ sum_by_push (λ e. number (of_entry h e))
            (entries_from from events) entry);
      }

  all_told : (earlier later : List Event) → Told program config h earlier → Told program config h (earlier ++ later)
  all_told earlier [] told = subst (Told program config h) (sym (append-nil earlier)) told
  all_told earlier (event ∷ later) told =
      subst (Told program config h) (append_assoc earlier (event ∷ []) later)
      (all_told (earlier ++ event ∷ []) later (one_more earlier event told))

  none_told : Told program config h []
  none_told = record {
    live = sym (ap one (first_outside program config h));
    began = refl;
    ends = λ number is none. refl;
  }

pub sections_are_told : SectionsAreThoseOfTheReport
unfolding tally_of
sections_are_told program config events h same range =
    let told = all_told program config same range h [] events (none_told program config same range h) in
    record {
      began = told.began;
      committed = told.ends (λ tally. tally.committed) (λ tally. refl) refl;
      instr = told.ends (λ tally. tally.instr) (λ tally. refl) refl;
      conflict = told.ends (λ tally. tally.conflict) (λ tally. refl) refl;
      room = told.ends (λ tally. tally.room) (λ tally. refl) refl;
      lines = told.ends (λ tally. tally.lines) (λ tally. refl) refl;
      long = told.ends (λ tally. tally.long) (λ tally. refl) refl;
      call = told.ends (λ tally. tally.call) (λ tally. refl) refl;
      mixed = told.ends (λ tally. tally.mixed) (λ tally. refl) refl;
    }
