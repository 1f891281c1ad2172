-- in every state that can be reached live and armed sections run covered, and other harts change nothing that they show
use Rattle.std.proofs.Common.{◌≡◌, ◌≢◌, ◌∙◌, ◌+◌, ◌⊎◌, ℕ, true, List, None, is_some, replicate, refl, ap, sym}
use Rattle.std.proofs.Common.{subst, inl, inr}
use Rattle.el_base.specs.Freed.{count_in, order_of}
use Rattle.el_base.specs.declared.config.Config.{Config}
use Rattle.el_base.specs.declared.events.Event.{Event}
use Rattle.el_base.specs.declared.events.Kind.{Kind}
use Rattle.el_base.proofs.Laws.Cases.{none_some, not_both}
use Rattle.elf_image.specs.Program.{Program}
use Rattle.el_model.specs.BusEvent.{IsBusEvent, freed_in}
use Rattle.el_model.specs.Deed.{Arms, Begins, Buffers, Commits, Continues, Deed, Elides, LetsGo, Misses, Rests}
use Rattle.el_model.specs.Deed.{RollsBack, Runs, Waits, committed_after}
use Rattle.el_model.specs.Next.{after, kind_turn, next}
use Rattle.el_model.specs.State.{ModelState, Turn, armed_of, begin, cache_of}
use Rattle.section_laws.proofs.Laws.NewHarts.{each_new}
use Rattle.el_model.proofs.Laws.BusEvents.{by_kind}
use Rattle.el_model.proofs.Laws.Deeds.{step_deed}
use Rattle.rv_flat.proofs.Laws.RunsAfter.{keeps_bytes, run_bytes}
use Rattle.rv_flat.specs.FlatState.{start}
use Rattle.rv_flat.specs.Memory.{AreBytes}
use Rattle.section_laws.proofs.Laws.Coherence.{copies_are_coherent, written_lines_are_elsewhere_in_no_cache}
use Rattle.section_laws.proofs.Laws.LetGone.{always_guarded, next_guarded}
use Rattle.section_laws.proofs.Laws.Numbered.{one_ordered_request_each}
use Rattle.section_laws.proofs.Laws.OnceEach.{no_set_has_a_line_twice}
use Rattle.run_laws.proofs.Laws.EventsBeside.{AllArmed, AllCovered, Sound, deed_beside}
use Rattle.run_laws.proofs.Laws.Kept.{kind_armed, kind_covered}
use Rattle.run_laws.proofs.Laws.LettingGo.{IsGone, bus_beside, let_go_beside, let_go_memory, spared_or_gone}
use Rattle.run_laws.proofs.Laws.Reached.{kept_along}
use Rattle.run_laws.specs.Laws.{ArmedSectionsRunCovered, LettingGoChangesNothingBeside, LettingGoLeavesMemory}
use Rattle.run_laws.specs.Laws.{LiveSectionsRunCovered}
use Rattle.run_laws.specs.Laws.{OtherHartsChangeNothingCovered}
use Rattle.run_laws.specs.PrivateRun.{IsChangeBeside}

deed_bytes : (state : ModelState) (h : ℕ) (deed : Deed) → AreBytes state.committed.bytes →
    AreBytes (committed_after state h deed).bytes
deed_bytes state h Rests bytes = bytes
deed_bytes state h Waits bytes = bytes
deed_bytes state h (Misses line need) bytes = bytes
deed_bytes state h (Runs touch) bytes = keeps_bytes state.committed h bytes
deed_bytes state h (Begins swap) bytes = bytes
deed_bytes state h (Buffers section touch) bytes = bytes
deed_bytes state h (Commits section) bytes = run_bytes state.committed (replicate (section.count + 1) h) bytes
deed_bytes state h (RollsBack section cause) bytes = bytes
deed_bytes state h (Arms word) bytes = bytes
deed_bytes state h (Elides armed swap) bytes = bytes
deed_bytes state h (Continues armed) bytes = bytes
deed_bytes state h (LetsGo armed) bytes = run_bytes state.committed (replicate armed.count h) bytes

kind_bytes : (state : ModelState) (h : ℕ) (kind : Kind) → AreBytes state.committed.bytes →
    AreBytes (kind_turn state h kind).state.committed.bytes
kind_bytes state h kind bytes =
    by_kind (λ turn. AreBytes turn.state.committed.bytes) state h kind
    (λ is. let step = step_deed state h in rw step.turn_is (deed_bytes state h step.deed bytes))
    (λ turn done.
    subst (λ flat. AreBytes flat.bytes) (sym done.committed)
    (run_bytes state.committed (order_of (freed_in state h done.start)) bytes))

-- what every event keeps
record Holds (state : ModelState) : Type 0 where
  bytes : AreBytes state.committed.bytes
  covered : AllCovered state
  armed_runs : AllArmed state

sound_of : (program : Program) (config : Config) (events : List Event) → Holds (after program config events) →
    Sound (after program config events)
sound_of program config events now = record {
  coherent = copies_are_coherent program config events;
  written = written_lines_are_elsewhere_in_no_cache program config events;
  bytes = now.bytes;
}

next_holds : (program : Program) (config : Config) (events : List Event) (event : Event) →
    Holds (after program config events) → Holds (next (after program config events) event).state
unfolding next
next_holds program config events event now =
    let state = after program config events in
    let guarded = always_guarded program config events in
    let sound = sound_of program config events now in
    record {
      bytes = kind_bytes state event.hart.number event.kind now.bytes;
      covered =
          kind_covered state event.hart.number event.kind sound guarded.holds.once.rested
          (one_ordered_request_each program config events)
          (no_set_has_a_line_twice program config events) now.covered now.armed_runs;
      armed_runs =
          kind_armed state event.hart.number event.kind sound now.covered now.armed_runs
          (next_guarded state event guarded).reads;
    }

first_bytes : (program : Program) (config : Config) → AreBytes program.bytes →
    AreBytes (begin program config).committed.bytes
unfolding begin start
first_bytes program config bytes = bytes

always_holds : (program : Program) (config : Config) → AreBytes program.bytes → (events : List Event) →
    Holds (after program config events)
always_holds program config bytes =
    kept_along Holds program config (next_holds program config)
    (record {
      bytes = first_bytes program config bytes;
      covered = λ h section is.
          none_some (sym (each_new (λ hart. hart.section ≡ None) program config (λ sets. refl) h) ∙ is);
      armed_runs = λ h armed is.
          none_some (sym (each_new (λ hart. hart.armed ≡ None) program config (λ sets. refl) h) ∙ is);
    })

pub live_sections_run_covered : LiveSectionsRunCovered
live_sections_run_covered program config events h section bytes live =
    (always_holds program config bytes events).covered h section live

pub armed_sections_run_covered : ArmedSectionsRunCovered
armed_sections_run_covered program config events h armed bytes is =
    (always_holds program config bytes events).armed_runs h armed is

pub letting_go_changes_nothing_beside : LettingGoChangesNothingBeside
letting_go_changes_nothing_beside program config events head h bytes unfreed =
    let_go_beside (after program config events) head h (always_holds program config bytes events).armed_runs unfreed

pub letting_go_leaves_memory : LettingGoLeavesMemory
letting_go_leaves_memory program config events head bytes =
    let_go_memory (after program config events) head (always_holds program config bytes events).armed_runs

-- an event of another hart that lets this one not go
spared_beside : {state : ModelState} {by : ℕ} {turn : Turn} → (done : IsBusEvent state by turn) → AllArmed state →
    (g : ℕ) → (is_some (armed_of state g) ≡ true → is_some (armed_of turn.state g) ≡ true) →
    (count_in (freed_in state by done.start) g ≡ 0) ⊎ IsGone state turn.state g →
    IsChangeBeside g (cache_of state g) state.committed turn.state.committed
spared_beside done armed_runs g stays (inl spared) = bus_beside done armed_runs g spared
spared_beside done armed_runs g stays (inr gone) = not_both (stays gone.was) (ap is_some gone.unarmed)

kind_beside : (state : ModelState) (h g : ℕ) (kind : Kind) → g ≢ h → Sound state → AllCovered state → AllArmed state →
    (is_some (armed_of state g) ≡ true → is_some (armed_of (kind_turn state h kind).state g) ≡ true) →
    IsChangeBeside g (cache_of state g) state.committed (kind_turn state h kind).state.committed
kind_beside state h g kind apart sound covered armed_runs =
    by_kind
    (λ turn. (is_some (armed_of state g) ≡ true → is_some (armed_of turn.state g) ≡ true) →
    IsChangeBeside g (cache_of state g) state.committed turn.state.committed) state h kind
    (λ is stays.
    let step = step_deed state h in
    subst (λ turn. IsChangeBeside g (cache_of state g) state.committed turn.state.committed) (sym step.turn_is)
    (deed_beside state h g step.deed apart step.where_it sound covered armed_runs))
    (λ turn done stays. spared_beside done armed_runs g stays (spared_or_gone done g))

pub other_harts_change_nothing_covered : OtherHartsChangeNothingCovered
unfolding next
other_harts_change_nothing_covered program config events event h bytes apart =
    let now = always_holds program config bytes events in
    kind_beside (after program config events) event.hart.number h event.kind (λ same. apart (sym same))
    (sound_of program config events now)
    now.covered now.armed_runs
