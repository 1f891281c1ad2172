-- what never arises from the start on, by induction over the events
use Rattle.std.proofs.Common.{◌≡◌, ◌∙◌, false, List, [], ◌∷◌, refl, ap, ℕ, is_some}
use Rattle.el_base.specs.declared.config.Config.{Config}
use Rattle.el_base.specs.declared.config.Mode.TheVariants.{Plain}
use Rattle.el_base.specs.declared.events.Event.{Event}
use Rattle.rv_flat.specs.Program.{Program}
use Rattle.el_model.specs.Laws.{PlainStaysPlain, StepsAreDeeds, StamplessStaysSilent}
use Rattle.el_model.specs.Next.{after, next, state_after}
use Rattle.el_model.specs.Quiet.{IsPlain, IsSilent, has_stamps}
use Rattle.el_model.specs.State.{ModelState, begin, is_live, new_hart}
use Rattle.el_model.proofs.Laws.AllHarts.{All, all_first}
use Rattle.el_model.proofs.Laws.BusEvents.{by_event}
use Rattle.el_model.proofs.Laws.Deeds.{step_deed}
use Rattle.el_model.proofs.Laws.Silent.{new_is_silent, next_silent}
use Rattle.el_model.proofs.PlainMode.{new_is_plain, next_plain}

pub steps_are_deeds : StepsAreDeeds
unfolding next
steps_are_deeds state event step = rw step (step_deed state event.hart.number)

-- no event changes the configuration
pub next_config : (state : ModelState) (event : Event) → (next state event).state.config ≡ state.config
next_config state event =
    by_event (λ turn. turn.state.config ≡ state.config) state event
    (λ step. ap (λ turn. turn.state.config) (step_deed state event.hart.number).turn_is) (λ turn done. done.config)

-- a fact that each event keeps holds after all of them
pub kept_after : (P : ModelState → Type 0) →
    ((state : ModelState) (event : Event) → P state → P (next state event).state) →
    (state : ModelState) (events : List Event) → P state → P (state_after state events)
kept_after P keeps state [] now = now
kept_after P keeps state (event ∷ events) now =
    kept_after P keeps (next state event).state events (keeps state event now)

record Stampless (state : ModelState) : Type 0 where
  mode : has_stamps state.config.mode ≡ false
  silent : All IsSilent state

next_stampless : (state : ModelState) (event : Event) → Stampless state → Stampless (next state event).state
next_stampless state event now = record {
  mode = ap (λ config. has_stamps config.mode) (next_config state event) ∙ now.mode;
  silent = next_silent state event now.mode now.silent;
}

first_silent : (program : Program) (config : Config) → All IsSilent (begin program config)
unfolding begin
first_silent program config h =
    all_first IsSilent program.harts (new_hart config.sets) (new_hart 0) (new_is_silent config.sets) (new_is_silent 0) h

pub begin_config : (program : Program) (config : Config) → (begin program config).config ≡ config
unfolding begin
begin_config program config = refl

-- and no events do
pub after_config : (program : Program) (config : Config) (events : List Event) →
    (after program config events).config ≡ config
after_config program config events =
    kept_after (λ state. state.config ≡ config) (λ state event now. next_config state event ∙ now)
    (begin program config) events (begin_config program config)

pub stampless_silent : StamplessStaysSilent
stampless_silent program config events mode =
    (kept_after Stampless next_stampless (begin program config) events
    (record {
      mode = ap (λ c. has_stamps c.mode) (begin_config program config) ∙ mode;
      silent = first_silent program config;
    })).silent

record InPlain (state : ModelState) : Type 0 where
  mode : state.config.mode ≡ Plain
  plain : All IsPlain state

next_in_plain : (state : ModelState) (event : Event) → InPlain state → InPlain (next state event).state
next_in_plain state event now = record {
  mode = ap (λ config. config.mode) (next_config state event) ∙ now.mode;
  plain = next_plain state event now.mode now.plain;
}

first_plain : (program : Program) (config : Config) → All IsPlain (begin program config)
unfolding begin
first_plain program config h =
    all_first IsPlain program.harts (new_hart config.sets) (new_hart 0) (new_is_plain config.sets) (new_is_plain 0) h

pub plain_plain : PlainStaysPlain
plain_plain program config events mode =
    (kept_after InPlain next_in_plain (begin program config) events
    (record {
      mode = ap (λ c. c.mode) (begin_config program config) ∙ mode;
      plain = first_plain program config;
    })).plain

-- at the start no hart has a live section
pub first_outside : (program : Program) (config : Config) (h : ℕ) → is_live (begin program config) h ≡ false
unfolding begin
first_outside program config h =
    all_first (λ hart. is_some hart.section ≡ false) program.harts (new_hart config.sets) (new_hart 0) refl refl h
