-- the sections that are live in the list are those of the state
use Rattle.std.proofs.Common.{◌≡◌, ◌≢◌, ℕ, ◌∙◌, ◌==◌, ◌⊎◌, inl, inr, true, false, Bool, cond, List, [], Option, Some}
use Rattle.std.proofs.Common.{None, map, refl, ap}
use Rattle.std.specs.Prelude.{IsSome, is_some}
use Rattle.std.proofs.lemmas.List.Elements.{All-append, All-map, All-nil, All-cons, All-weaker}
use Rattle.el_base.specs.Winners.{winner_over}
use Rattle.el_base.specs.declared.events.Event.{Event}
use Rattle.el_base.specs.declared.hart_id.HartId.{HartId}
use Rattle.el_base.specs.declared.outcomes.Outcome.{Outcome}
use Rattle.el_base.specs.declared.outcomes.Outcome.TheVariants as outcomes
use Rattle.el_base.proofs.Laws.Tests.{same_test}
use Rattle.el_model.proofs.Laws.Coming.{by_their_rules}
use Rattle.el_model.specs.Armed.{Elides}
use Rattle.el_model.specs.Causes.{GoesArmed, GoesOutside}
use Rattle.el_model.specs.Next.{next}
use Rattle.el_model.specs.Plain.{Begins}
use Rattle.el_model.specs.State.{Armed, ModelState, Section, is_live, section_of}
use Rattle.el_model.specs.Upcoming.{Swap}
use Rattle.lab.specs.Tries.{AreLive, HasNone, Moment, begun_as, end_in, ended_by, first_end, lost_end, moment_of, noted}
use Rattle.lab.specs.Tries.{of_section, own_end, ran_in}
use Rattle.lab.specs.declared.tries.Ended.{Ended}
use Rattle.lab.specs.declared.tries.Ended.TheVariants.{Live, Committed, LostTo, RolledBack}
use Rattle.lab.specs.declared.tries.Try.{Try}
use Rattle.machine.specs.Promises.{EndsIt}
use Rattle.section_laws.specs.Sections.{is_committed, is_rolled_back}

-- what is live after two ends has not ended in either
live_first : (a b : Ended) → first_end a b ≡ Live → a ≡ Live
live_first Live b live = refl
live_first (Committed at count) b live = live
live_first (LostTo at ran winner line) b live = live
live_first (RolledBack at ran cause) b live = live

live_later : (a b : Ended) → first_end a b ≡ Live → b ≡ Live
live_later Live b live = live
live_later (Committed at count) b live = absurd cc
live_later (LostTo at ran winner line) b live = absurd cc
live_later (RolledBack at ran cause) b live = absurd cc

-- what an outcome leaves live of its own hart's section is no commit and no rollback, and what it
-- leaves of a loser's none at all
no_commit : (place ran : ℕ) (outcome : Outcome) → own_end place ran outcome ≡ Live → is_committed outcome ≡ false
no_commit place ran (outcomes.Committed count) live = absurd cc
no_commit place ran _ live = refl

no_rollback : (place ran : ℕ) (outcome : Outcome) → own_end place ran outcome ≡ Live → is_rolled_back outcome ≡ false
no_rollback place ran (outcomes.RolledBack cause) live = absurd cc
no_rollback place ran _ live = refl

no_winner : (place ran : ℕ) (after : ModelState) (winner : Option ℕ) → lost_end place ran after winner ≡ Live →
    IsSome winner → ⊥
no_winner place ran after None live some = cc
no_winner place ran after (Some winner) live some = cc

own_part : (own : Bool) (ended : Ended) → own ≡ true → cond own ended Live ≡ Live → ended ≡ Live
own_part true ended is live = live
own_part false ended is live = absurd cc

-- one event: what ends a section is told by its outcome
module _ (state : ModelState) (place : ℕ) (event : Event) where
  moment : Moment
  moment = moment_of state place event

  abbrev EndsAreTold : Type 0
  EndsAreTold =
      (h : ℕ) → is_live state h ≡ true → is_live (next state event).state h ≡ false →
      EndsIt event (next state event).outcome h ⊎ IsSome (winner_over (next state event).outcome h)

  not_ended : (h : ℕ) → end_in (moment_of state place event) h ≡ Live →
      EndsIt event (next state event).outcome h ⊎ IsSome (winner_over (next state event).outcome h) → ⊥
  not_ended h live (inl it) =
      let own : own_end place (ran_in state h) (next state event).outcome ≡ Live =
      own_part (event.hart.number == h) _ (same_test event.hart.number h it.own) (live_first _ _ live) in
      elim it.how [
        | inl is ↦ absurd_of (no_commit place (ran_in state h) (next state event).outcome own) is
        | inr is ↦ absurd_of (no_rollback place (ran_in state h) (next state event).outcome own) is
      ]
    where
      absurd_of : {b : Bool} → b ≡ false → b ≡ true → ⊥
      absurd_of dead alive = cc
  not_ended h live (inr some) =
      no_winner place (ran_in state h) (next state event).state (winner_over (next state event).outcome h)
      (live_later _ _ live) some

  by_live : (h : ℕ) (b : Bool) → is_live (next state event).state h ≡ b →
      (b ≡ false → ⊥) → is_live (next state event).state h ≡ true
  by_live h true is not = is
  by_live h false is not = absurd (not refl)

  stays_live : EndsAreTold → (try : Try) → (try.ended ≡ Live → is_live state try.hart.number ≡ true) →
      (ended_by (moment_of state place event) try).ended ≡ Live →
      is_live (next state event).state try.hart.number ≡ true
  stays_live told try was live =
      let h = try.hart.number in
      by_live h (is_live (next state event).state h) refl
      (λ dead. not_ended h (live_later try.ended _ live) (told h (was (live_first try.ended _ live)) dead))

  one_live : (hart : HartId) (section : Option Section) → section_of (next state event).state hart.number ≡ section →
      AreLive (next state event).state (of_section (next state event).state place hart section Live)
  one_live hart None is = All-nil (λ try. try.ended ≡ Live → is_live (next state event).state try.hart.number ≡ true)
  one_live hart (Some section) is =
      All-cons (λ try. try.ended ≡ Live → is_live (next state event).state try.hart.number ≡ true) _ []
      (λ live. ap is_some is)
      (All-nil (λ try. try.ended ≡ Live → is_live (next state event).state try.hart.number ≡ true))

  begun_live : (outcome : Outcome) (tries : List Try) → AreLive (next state event).state tries →
      AreLive (next state event).state (begun_as outcome tries)
  begun_live outcomes.Began tries live = live
  begun_live _ tries live = All-nil (λ try. try.ended ≡ Live → is_live (next state event).state try.hart.number ≡ true)

  -- the sections that are live after it
  pub still_live : (tries : List Try) → EndsAreTold → AreLive state tries →
      AreLive (next state event).state (noted (moment_of state place event) tries)
  still_live tries told live =
      let Lives : Try → Type 0 = λ try. try.ended ≡ Live → is_live (next state event).state try.hart.number ≡ true in
      let Lived : Try → Type 0 = λ try. try.ended ≡ Live → is_live state try.hart.number ≡ true in
      All-append Lives (map (ended_by (moment_of state place event)) tries) _
      (All-map Lives (ended_by (moment_of state place event)) tries
      (All-weaker Lived (λ try. Lives (ended_by (moment_of state place event) try)) (stays_live told) tries live))
      (begun_live (next state event).outcome _
      (one_live event.hart (section_of (next state event).state event.hart.number) refl))

  -- where it begins a section, its hart had none
  pub none_before : (tries : List Try) → (next state event).outcome ≡ outcomes.Began → AreLive state tries →
      HasNone event.hart.number tries
  none_before tries began live =
      let begins = (by_their_rules state event outcomes.Began).0 began in
      let outside = outside_of begins.0 begins.1.by_rule in
      let Lived : Try → Type 0 = λ try. try.ended ≡ Live → is_live state try.hart.number ≡ true in
      All-weaker Lived (λ try. try.hart.number ≡ event.hart.number → try.ended ≢ Live)
      (λ try was own ended. dead (was ended) (ap (is_live state) own ∙ ap is_some outside)) tries live
    where
      outside_of : (swap : Swap) →
          GoesOutside state event (Begins swap) ⊎ ((armed : Armed) × GoesArmed state event armed (Elides swap)) →
          section_of state event.hart.number ≡ None
      outside_of swap (inl goes) = goes.outside
      outside_of swap (inr (armed, goes)) = goes.outside

      dead : {b : Bool} → b ≡ true → b ≡ false → ⊥
      dead alive over = cc
