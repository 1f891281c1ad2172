-- what holds of the states that programs reach, by the laws of the definition
use Rattle.std.proofs.Common.{◌≡◌, ◌≢◌, ◌∙◌, ℕ, ◌<◌, [], ◌∷◌, ◌++◌, true, length, Some, is_some, ap, sym, subst, arith}
use Rattle.std.proofs.lemmas.List.{length-append}
use Rattle.el_base.specs.LetGo.{freed_of_outcome}
use Rattle.el_base.specs.declared.events.Event.{Event}
use Rattle.el_model.proofs.Laws.Folds.{state_after-append}
use Rattle.el_model.proofs.Laws.FromStart.{begin_config, kept_after, next_config}
use Rattle.el_base.specs.Winners.{winner_over}
use Rattle.el_model.specs.Losses.{HartsAreNumbered}
use Rattle.el_base.specs.declared.events.Kind.TheVariants as kinds
use Rattle.el_model.specs.Next.{after, next}
use Rattle.el_model.specs.State.{Armed, ModelState, Section, armed_of, begin, cache_of, is_live, section_of}
use Rattle.engine.specs.Reached.{IsReached}
use Rattle.run_laws.proofs.Laws.Reachable.{armed_sections_run_covered, other_harts_change_nothing_covered}
use Rattle.run_laws.specs.PrivateRun.{IsArmedRun, IsChangeBeside}
use Rattle.section_laws.proofs.Laws.ArmedCounts.{armed_sections_are_short}
use Rattle.section_laws.proofs.Laws.Numbered.{requests_are_numbered}
use Rattle.section_laws.specs.EachHart.{IsShortArmed}
use Rattle.step_laws.proofs.Laws.Frames.{steps_keep_others}
use Rattle.step_laws.proofs.Laws.LettingGo.{bus_events_let_harts_go}
use Rattle.step_laws.proofs.Laws.Losing.{only_live_sections_lose}
use Rattle.step_laws.proofs.Laws.Survivors.{survivors_keep_what_they_show}
use Rattle.step_laws.specs.Losing.{LosesItsSection}
use Rattle.step_laws.specs.LettingGo.{LetsHartsGo}
use Rattle.step_laws.specs.Survivors.{IsNoStepOf, Survives}

-- no event changes the configuration
pub config_of : (state : ModelState) (reached : IsReached state) → state.config ≡ reached.config
config_of state reached =
    ap (λ s. s.config) reached.state_is
    ∙ kept_after (λ s. s.config ≡ reached.config) (λ s event is. next_config s event ∙ is)
    (begin reached.program reached.config) reached.events
    (begin_config reached.program reached.config)

-- where a step is left, one event more is reached
pub next_reached : (state : ModelState) (event : Event) (reached : IsReached state) →
    length reached.events < reached.config.steps → IsReached (next state event).state
next_reached state event reached left = record {
  program = reached.program;
  config = reached.config;
  events = reached.events ++ event ∷ [];
  is_program = reached.is_program;
  bytes = reached.bytes;
  in_range = reached.in_range;
  one_hart_each = reached.one_hart_each;
  within = omega (arith, left, length-append reached.events (event ∷ []));
  state_is =
      ap (λ s. (next s event).state) reached.state_is
      ∙ sym (state_after-append (begin reached.program reached.config) reached.events (event ∷ []));
}

-- each request is of a hart that a machine may have
pub numbered : (state : ModelState) → IsReached state → HartsAreNumbered state
numbered state reached =
    subst HartsAreNumbered (sym reached.state_is)
    (requests_are_numbered reached.program reached.config reached.events reached.one_hart_each reached.in_range)

-- a hart that an event names among its losers loses its live section
pub loses : (state : ModelState) (event : Event) (g winner : ℕ) → IsReached state →
    winner_over (next state event).outcome g ≡ Some winner → LosesItsSection state event g winner
loses state event g winner reached =
    subst (λ s. winner_over (next s event).outcome g ≡ Some winner → LosesItsSection s event g winner)
    (sym reached.state_is)
    (only_live_sections_lose reached.program reached.config reached.events event g winner reached.one_hart_each
    reached.in_range)

-- the private run of an armed section
pub runs_armed : (state : ModelState) (g : ℕ) (armed : Armed) → IsReached state → armed_of state g ≡ Some armed →
    IsArmedRun state.committed g (cache_of state g) armed
runs_armed state g armed reached is =
    subst (λ s. armed_of s g ≡ Some armed → IsArmedRun s.committed g (cache_of s g) armed) (sym reached.state_is)
    (armed_sections_run_covered reached.program reached.config reached.events g armed reached.bytes) is

-- which has few instructions
pub small_armed : (state : ModelState) (g : ℕ) (armed : Armed) → IsReached state → armed_of state g ≡ Some armed →
    IsShortArmed state.config.long armed
small_armed state g armed reached is =
    subst (λ config. IsShortArmed config.long armed) (sym (config_of state reached))
    (armed_sections_are_short reached.program reached.config reached.events reached.in_range g armed
    (subst (λ s. armed_of s g ≡ Some armed) reached.state_is is))

-- a step of another hart leaves each armed section, and changes what is committed beside its hart alone
pub other_step_beside : (state : ModelState) (event : Event) (g : ℕ) → IsReached state → event.hart.number ≢ g →
    event.kind ≡ kinds.Step → IsChangeBeside g (cache_of state g) state.committed (next state event).state.committed
other_step_beside state event g reached other step =
    subst (λ s. IsChangeBeside g (cache_of s g) s.committed (next s event).state.committed) (sym reached.state_is)
    (other_harts_change_nothing_covered reached.program reached.config reached.events event g reached.bytes other
    (λ armed. ap (λ hart. is_some hart.armed)
    ((steps_keep_others (after reached.program reached.config reached.events) event step).others g
    (λ same. other (sym same))) ∙ armed))

-- an event of the bus leaves armed harts, but those that it lets go
pub lets_go : (state : ModelState) (event : Event) → IsReached state → event.kind ≢ kinds.Step →
    LetsHartsGo state (next state event).state (freed_of_outcome (next state event).outcome)
lets_go state event reached bus =
    subst (λ s. LetsHartsGo s (next s event).state (freed_of_outcome (next s event).outcome)) (sym reached.state_is)
    (bus_events_let_harts_go reached.program reached.config reached.events event reached.bytes reached.one_hart_each
    reached.in_range bus)

-- a section that is live after an event that is no step of its hart survives it
pub survives_event : (state : ModelState) (event : Event) (g : ℕ) (section : Section) → IsReached state →
    IsNoStepOf g event → section_of state g ≡ Some section → is_live (next state event).state g ≡ true →
    Survives state (next state event).state g section
survives_event state event g section reached other =
    subst (λ s. section_of s g ≡ Some section → is_live (next s event).state g ≡ true →
    Survives s (next s event).state g section)
    (sym reached.state_is)
    (survivors_keep_what_they_show reached.program reached.config reached.events event g section reached.bytes other)
