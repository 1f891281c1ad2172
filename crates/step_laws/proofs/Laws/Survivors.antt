-- what an event that is no step of a section's own hart leaves of the section, where it is live after it
use Rattle.std.proofs.Common.{◌≡◌, ◌∙◌, ◌⊎◌, ℕ, true, List, None, Some, is_some, refl, ap, sym, subst, inl, inr}
use Rattle.residency.specs.Residency.{Way}
use Rattle.el_base.specs.declared.config.Config.{Config}
use Rattle.el_base.specs.declared.events.Event.{Event}
use Rattle.el_base.specs.declared.outcomes.Need.TheVariants.{Read, Write}
use Rattle.elf_image.specs.Program.{Program}
use Rattle.el_model.specs.Next.{after, next}
use Rattle.el_model.specs.BusEvent.{IsBusEvent, freed_in}
use Rattle.el_base.specs.Freed.{count_in}
use Rattle.el_base.proofs.Laws.Cases.{not_both}
use Rattle.el_model.specs.State.{ModelState, Section, Turn, armed_of, cache_of, hart_of, is_live, section_of}
use Rattle.el_model.proofs.Laws.BusEvents.{by_event}
use Rattle.rv_flat.specs.Memory.{AreBytes}
use Rattle.run_laws.proofs.Laws.Bits.{KeepsBits, run_kept}
use Rattle.run_laws.proofs.Laws.Kept.{IsKept, other_step_kept, turn_kept}
use Rattle.run_laws.proofs.Laws.EventsBeside.{AllArmed}
use Rattle.run_laws.proofs.Laws.LettingGo.{IsGone, bus_beside, spared_or_gone}
use Rattle.run_laws.proofs.Laws.Reachable.{armed_sections_run_covered, live_sections_run_covered}
use Rattle.run_laws.proofs.Laws.Reachable.{other_harts_change_nothing_covered}
use Rattle.run_laws.proofs.Laws.Survival.{survives}
use Rattle.run_laws.specs.PrivateRun.{IsChangeBeside}
use Rattle.section_laws.proofs.Laws.Numbered.{one_ordered_request_each}
use Rattle.section_laws.proofs.Laws.OnceEach.{no_set_has_a_line_twice}
use Rattle.section_laws.proofs.Laws.Waiting.{always_settled, live_unarmed, rested_in}
use Rattle.step_laws.specs.Survivors.{HasItsBits, IsNoStepOf, KeepsSection, SurvivorsKeepBits}
use Rattle.step_laws.specs.Survivors.{SurvivorsKeepWhatTheyShow}

kept_section : (state new : ModelState) (g : ℕ) (section : Section) → IsKept state g (hart_of new g) →
    section_of state g ≡ Some section → is_live new g ≡ true → KeepsSection state new g section
kept_section state new g section (inl ended) was live = not_both live (ap is_some ended)
kept_section state new g section (inr (same, keeps)) was live = record {
  same = same ∙ was;
  bits = record { read = λ line. keeps line Read; written = λ line. keeps line Write };
}

pub survivors_keep_bits : SurvivorsKeepBits
survivors_keep_bits program config events event g section other was =
    let state = after program config events in
    let one = one_ordered_request_each program config events in
    let once = no_set_has_a_line_twice program config events in
    let rested = rested_in state (always_settled program config events) in
    by_event (λ turn. is_live turn.state g ≡ true → KeepsSection state turn.state g section) state event
    (λ step live. kept_section state _ g section
    (other_step_kept state event.hart.number g (λ same. other step (sym same))) was live)
    (λ turn done live. kept_section state turn.state g section (turn_kept done rested one once g) was live)

-- what is committed changes beside the hart alone: a hart with a live section is not armed, and so not let go
bus_change : {state : ModelState} {by : ℕ} {turn : Turn} → (done : IsBusEvent state by turn) → AllArmed state →
    (g : ℕ) → armed_of state g ≡ None →
    IsChangeBeside g (cache_of state g) state.committed turn.state.committed
bus_change {state} {by} {turn} done armed_runs g unarmed = by_let_go (spared_or_gone done g)
  where
    by_let_go : (count_in (freed_in state by done.start) g ≡ 0) ⊎ IsGone state turn.state g →
        IsChangeBeside g (cache_of state g) state.committed turn.state.committed
    by_let_go (inl spared) = bus_beside done armed_runs g spared
    by_let_go (inr gone) = not_both gone.was (ap is_some unarmed)

change_by : (program : Program) (config : Config) (events : List Event) (event : Event) (g : ℕ) (section : Section) →
    AreBytes program.bytes → IsNoStepOf g event → section_of (after program config events) g ≡ Some section →
    IsChangeBeside g (cache_of (after program config events) g) (after program config events).committed
    (next (after program config events) event).state.committed
change_by program config events event g section bytes other was =
    let state = after program config events in
    let unarmed = live_unarmed state g section (rested_in state (always_settled program config events)) was in
    by_event
    (λ turn. turn.state.committed ≡ (next state event).state.committed →
    IsChangeBeside g (cache_of state g) state.committed (next state event).state.committed)
    state event
    (λ step same.
    other_harts_change_nothing_covered program config events event g bytes (other step)
    (λ armed. not_both armed (ap is_some unarmed)))
    (λ turn done same.
    subst (IsChangeBeside g (cache_of state g) state.committed) same
    (bus_change done (λ h armed is. armed_sections_run_covered program config events h armed bytes is) g unarmed))
    refl

each_bit : (old new : List (List Way)) → HasItsBits old new → KeepsBits old new
each_bit old new bits line Read bit = bits.read line bit
each_bit old new bits line Write bit = bits.written line bit

pub survivors_keep_what_they_show : SurvivorsKeepWhatTheyShow
survivors_keep_what_they_show program config events event g section bytes other was live =
    let state = after program config events in
    let new = (next state event).state in
    let keeps = survivors_keep_bits program config events event g section other was live in
    let run = live_sections_run_covered program config events g section bytes was in
    let change = change_by program config events event g section bytes other was in
    let (covered, shows) = survives g (cache_of state g) section state.committed new.committed run change in
    record {
      keeps = keeps;
      covered = run;
      covered_after =
          run_kept new.committed g (cache_of state g) (cache_of new g) section (each_bit _ _ keeps.bits) covered;
      change = change;
      shows = shows;
    }
