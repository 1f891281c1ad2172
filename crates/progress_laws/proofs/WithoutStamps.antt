-- in the modes without stamps no section retains a line, so no state is stuck
use Rattle.std.proofs.Common.{◌≡◌, ◌∙◌, ◌↔◌, ℕ, ◌≤◌, false, true, List, [], None, length, refl, ap, inl, inr, ◌⊎◌}
use Rattle.el_base.specs.declared.config.Config.{Config}
use Rattle.el_base.specs.declared.events.Event.{Event}
use Rattle.elf_image.specs.Program.{Program}
use Rattle.el_model.specs.Next.{after, is_over, next}
use Rattle.el_model.specs.Quiet.{IsSilent, has_stamps}
use Rattle.el_model.specs.State.{ModelState, begin}
use Rattle.el_model.proofs.Laws.AllHarts.{All}
use Rattle.el_model.proofs.Laws.BusEvents.{by_event}
use Rattle.el_model.proofs.Laws.FromStart.{begin_config, kept_after, next_config, stampless_silent}
use Rattle.el_model.proofs.Laws.Silent.{next_silent}
use Rattle.progress_laws.proofs.Faced.{NoneRetains, bus_unretained}
use Rattle.progress_laws.proofs.AllWait.{OnlyWaits, gets_on_or_waits}
use Rattle.progress_laws.proofs.Laws.GettingOn.{GetsOn, Orderly, always_orderly, line_gets_on}
use Rattle.progress_laws.proofs.NewBits.{step_unretained}
use Rattle.progress_laws.proofs.Laws.Over.{not_stuck}
use Rattle.progress_laws.specs.Laws.{NoSectionRetainsWithoutStamps}
use Rattle.progress_laws.specs.Ready.{ready_event}
use Rattle.rv_alu.specs.declared.view.HartStatus.TheVariants.{Running}
use Rattle.rv_flat.specs.FlatState.{status_of}
use Rattle.el_model.proofs.Laws.EachHart.{Each}
use Rattle.section_laws.proofs.Laws.ArmedBits as bits
use Rattle.section_laws.proofs.Laws.EachKept.{first_each, next_keeps}
use Rattle.section_laws.proofs.Laws.Numbered.{Once, first_once, next_once}

-- what holds in these modes
record Stampless (state : ModelState) : Type 0 where
  mode : has_stamps state.config.mode ≡ false
  silent : All IsSilent state
  once : Once state
  outside : Each (λ h hart. bits.Holds hart) state
  unretained : NoneRetains state

next_unretained : (state : ModelState) (event : Event) → Stampless state → NoneRetains (next state event).state
next_unretained state event now =
    by_event (λ turn. NoneRetains turn.state) state event
    (λ step. step_unretained state event.hart.number now.outside now.unretained)
    (λ turn done. bus_unretained done now.mode now.once.once now.unretained)

next_stampless : (state : ModelState) (event : Event) → Stampless state → Stampless (next state event).state
next_stampless state event now = record {
  mode = ap (λ config. has_stamps config.mode) (next_config state event) ∙ now.mode;
  silent = next_silent state event now.mode now.silent;
  once = next_once state event now.once;
  outside = next_keeps bits.kept state event now.outside;
  unretained = next_unretained state event now;
}

first_unretained : (program : Program) (config : Config) → NoneRetains (begin program config)
unfolding begin
first_unretained program config h line = refl

always_stampless : (program : Program) (config : Config) (events : List Event) → has_stamps config.mode ≡ false →
    Stampless (after program config events)
always_stampless program config events mode =
    kept_after Stampless next_stampless (begin program config) events
    (record {
      mode = ap (λ c. has_stamps c.mode) (begin_config program config) ∙ mode;
      silent = stampless_silent program config [] mode;
      once = first_once program config;
      outside = first_each bits.kept program config;
      unretained = first_unretained program config;
    })

pub no_section_retains : NoSectionRetainsWithoutStamps
no_section_retains program config events mode = (always_stampless program config events mode).unretained

-- so a hart that runs is enough to get on
hart_gets_on : (state : ModelState) → Orderly state → NoneRetains state → (h : ℕ) →
    status_of state.committed h ≡ Running → GetsOn state
hart_gets_on state orderly none h running = by (gets_on_or_waits state orderly)
  where
    by : GetsOn state ⊎ ((k : ℕ) → OnlyWaits state k) → GetsOn state
    by (inl on) = on
    by (inr waits) =
        let found = (waits h).waits running in
        line_gets_on state h found.0 orderly found.1 (λ g. none g found.0.line)

-- and where all have stopped no message is left
pub stampless_not_stuck : (program : Program) (config : Config) (events : List Event) → has_stamps config.mode ≡ false →
    length (after program config events).harts ≤ 8 →
    (ready_event (after program config events) ≡ None) ↔ (is_over (after program config events) ≡ true)
stampless_not_stuck program config events mode few =
    let state = after program config events in
    let now = always_stampless program config events mode in
    not_stuck state (always_orderly program config events) few
    (hart_gets_on state (always_orderly program config events) now.unretained) (λ over h. (now.silent h).mail)
