-- a hart stands after its step as its deed says
use Rattle.std.proofs.Common.{◌≡◌, ◌∙◌, ℕ, List, refl, ap, sym, subst, inl, inr, ◌⊎◌}
use Rattle.el_base.specs.declared.config.Config.{Config}
use Rattle.el_base.specs.declared.events.Event.{Event}
use Rattle.el_base.specs.declared.events.Kind.TheVariants as kinds
use Rattle.el_base.specs.declared.outcomes.Need.{Need}
use Rattle.elf_image.specs.Program.{Program}
use Rattle.el_model.specs.BusEvent.{IsOfBus}
use Rattle.el_model.specs.Deed.{Arms, Begins, Buffers, Commits, Continues, Deed, DoesWhere, Elides, LetsGo, Misses}
use Rattle.el_model.specs.Deed.{MissesInside, MissesOutside, Rests}
use Rattle.el_model.specs.Deed.{RollsBack, Runs, Waits, done, hart_after, outcome_of}
use Rattle.el_model.specs.Next.{after, next}
use Rattle.el_model.specs.State.{ModelState, begin, hart_of}
use Rattle.el_model.proofs.Laws.BusEvents.{by_event}
use Rattle.el_model.proofs.Laws.FromStart.{kept_after, steps_are_deeds}
use Rattle.el_model.proofs.Laws.Harts.{hart_of-with_hart_same, with_hart_kept}
use Rattle.el_model.proofs.Laws.Deeds.{is_rolled}
use Rattle.rv_alu.specs.declared.view.HartStatus.TheVariants.{Running}
use Rattle.rv_flat.specs.FlatState.{status_of}
use Rattle.rv_flat.specs.Run.{alone}
use Rattle.section_laws.proofs.Laws.Lengths.{AsMany, first_as_many, next_as_many, runs_exists}
use Rattle.step_laws.specs.OwnSteps.{Does, OwnCommits, OwnDeeds, OwnOutcomes, OwnRollbacks, TellsOf}

misses_running : (state : ModelState) (h line : ℕ) (need : Need) →
    MissesOutside state h line need ⊎ MissesInside state h line need → status_of state.committed h ≡ Running
misses_running state h line need (inl misses) = misses.outside.running
misses_running state h line need (inr misses) = misses.room.wants.goes.goes_on.is_short.inside.running

-- so it stands after a deed as the deed says
deed_stands : (state : ModelState) (h : ℕ) (deed : Deed) → AsMany state → DoesWhere state h deed →
    hart_of (done state h deed).state h ≡ hart_after state h deed (hart_of state h)
deed_stands state h Rests many does = with_hart_kept (λ hart. hart) state h (hart_of state h) refl h
deed_stands state h Waits many does = with_hart_kept (λ hart. hart) state h (hart_of state h) refl h
deed_stands state h (Misses line need) many does =
    hart_of-with_hart_same state h _ (runs_exists state h many (misses_running state h line need does))
deed_stands state h (Runs touch) many does =
    hart_of-with_hart_same state h _ (runs_exists state h many does.outside.running)
deed_stands state h (Begins swap) many does =
    hart_of-with_hart_same state h _ (runs_exists state h many does.outside.running)
deed_stands state h (Buffers section touch) many does =
    hart_of-with_hart_same state h _ (runs_exists state h many does.goes.goes_on.is_short.inside.running)
deed_stands state h (Commits section) many does =
    hart_of-with_hart_same state h _ (runs_exists state h many does.goes_on.is_short.inside.running)
deed_stands state h (RollsBack section cause) many does =
    hart_of-with_hart_same state h _ (runs_exists state h many (is_rolled state h section cause does).running)
deed_stands state h (Arms word) many does =
    hart_of-with_hart_same state h _ (runs_exists state h many does.outside.running)
deed_stands state h (Elides armed swap) many does =
    hart_of-with_hart_same state h _ (runs_exists state h many does.is_armed.running)
deed_stands state h (Continues armed) many does =
    hart_of-with_hart_same state h _ (runs_exists state h many does.is_armed.running)
deed_stands state h (LetsGo armed) many does =
    hart_of-with_hart_same state h _ (runs_exists state h many does.is_armed.running)

does_deed : (state : ModelState) (event : Event) → event.kind ≡ kinds.Step → AsMany state →
    (deed : Deed) × Does state event deed
does_deed state event is many =
    let h = event.hart.number in
    let step = steps_are_deeds state event is in
    let stands : Does state event step.deed = record {
      where_it = step.where_it;
      outcome = ap (λ turn. turn.outcome) step.turn_is;
      committed = ap (λ turn. turn.state.committed) step.turn_is;
      hart = ap (λ turn. hart_of turn.state h) step.turn_is ∙ deed_stands state h step.deed many step.where_it;
    } in
    (step.deed, stands)

always_as_many : (program : Program) (config : Config) (events : List Event) → AsMany (after program config events)
always_as_many program config events =
    kept_after AsMany next_as_many (begin program config) events (first_as_many program config)

pub own_deeds : OwnDeeds
own_deeds program config events event is =
    does_deed (after program config events) event is (always_as_many program config events)

tells_of : (state : ModelState) (event : Event) (deed : Deed) → Does state event deed →
    TellsOf state event (outcome_of deed)
tells_of state event Rests does = does
tells_of state event Waits does = does
tells_of state event (Misses line need) does = (line, refl, does)
tells_of state event (Runs touch) does = (touch, does)
tells_of state event (Begins swap) does = inl (swap, does)
tells_of state event (Buffers section touch) does = inl (section, touch, does)
tells_of state event (Commits section) does = (section, refl, does)
tells_of state event (RollsBack section cause) does = (section, does)
tells_of state event (Arms word) does = (word, does)
tells_of state event (Elides armed swap) does = inr (armed, swap, does)
tells_of state event (Continues armed) does = inr (armed, does)
tells_of state event (LetsGo armed) does = (armed, refl, does)

pub own_outcomes : OwnOutcomes
own_outcomes program config events event is =
    let state = after program config events in
    let (deed, does) = own_deeds program config events event is in
    subst (TellsOf state event) (sym does.outcome) (tells_of state event deed does)

-- an outcome that is none of the bus comes of a step
is_step : (state : ModelState) (event : Event) → (IsOfBus (next state event).outcome → ⊥) → event.kind ≡ kinds.Step
is_step state event =
    by_event (λ turn. (IsOfBus turn.outcome → ⊥) →
    event.kind ≡ kinds.Step) state event (λ step other. step) (λ turn done other. absurd (other done.of_bus))

-- a commit, and a rollback
pub own_commits : OwnCommits
own_commits program config events event count outcome =
    let state = after program config events in
    let h = event.hart.number in
    let step = is_step state event (λ bus. subst IsOfBus outcome bus) in
    let (section, count_is, does) =
    subst (TellsOf state event) outcome (own_outcomes program config events event step) in
    record {
      step = step;
      section = section;
      live = does.where_it.goes_on.is_short.inside.live;
      may = does.where_it;
      count_is = count_is;
      committed = does.committed ∙ ap (alone state.committed h) (sym count_is);
      cache = ap (λ hart. hart.cache) does.hart;
      hart = does.hart;
    }

pub own_rollbacks : OwnRollbacks
own_rollbacks program config events event cause outcome =
    let state = after program config events in
    let step = is_step state event (λ bus. subst IsOfBus outcome bus) in
    let (section, does) = subst (TellsOf state event) outcome (own_outcomes program config events event step) in
    record {
      step = step;
      section = section;
      live = (is_rolled state event.hart.number section cause does.where_it).live;
      must = does.where_it;
      committed = does.committed;
      cache = ap (λ hart. hart.cache) does.hart;
      hart = does.hart;
    }
