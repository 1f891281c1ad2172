-- there are as many harts in the machine as in what is committed
use Rattle.std.proofs.Common.{◌≡◌, ◌∙◌, ℕ, ◌+◌, length, replicate, refl, ap, sym, ◌<◌, arith}
use Rattle.std.specs.List.{range_with_len}
use Rattle.std.proofs.Math.ListN.{length-set}
use Rattle.std.proofs.lemmas.List.{length-map, length-replicate}
use Rattle.std.proofs.lemmas.List.FromFn.{length-range_with_len}
use Rattle.el_base.specs.declared.config.Config.{Config}
use Rattle.el_base.specs.declared.events.Event.{Event}
use Rattle.el_base.specs.Freed.{order_of}
use Rattle.elf_image.specs.Program.{Program}
use Rattle.el_model.specs.BusEvent.{IsBusEvent, freed_in}
use Rattle.el_model.specs.Deed.{Arms, Begins, Buffers, Commits, Continues, Deed, Elides, LetsGo, Misses, Rests}
use Rattle.el_model.specs.Deed.{RollsBack, Runs, Waits, committed_after}
use Rattle.el_model.specs.Next.{next, step_turn}
use Rattle.el_model.specs.State.{ModelState, Turn, begin, new_hart}
use Rattle.el_model.proofs.Laws.BusEvents.{by_event}
use Rattle.el_model.proofs.Laws.Deeds.{step_deed}
use Rattle.rv_flat.specs.FlatState.{first_view, start, status_of}
use Rattle.rv_flat.proofs.Laws.StepLaws.{harts-run, keeps_shape}
use Rattle.rv_flat.proofs.Laws.RunsAfter.{runs-exists}
use Rattle.rv_alu.specs.declared.view.HartStatus.TheVariants.{Running}

abbrev pub AsMany : ModelState → Type 0
AsMany state = length state.harts ≡ length state.committed.harts

committed_count : (state : ModelState) (h : ℕ) (deed : Deed) →
    length (committed_after state h deed).harts ≡ length state.committed.harts
committed_count state h Rests = refl
committed_count state h Waits = refl
committed_count state h (Misses line need) = refl
committed_count state h (Runs touch) = (keeps_shape state.committed h).harts
committed_count state h (Begins swap) = refl
committed_count state h (Buffers section touch) = refl
committed_count state h (Commits section) = harts-run state.committed (replicate (section.count + 1) h)
committed_count state h (RollsBack section cause) = refl
committed_count state h (Arms word) = refl
committed_count state h (Elides armed swap) = refl
committed_count state h (Continues armed) = refl
committed_count state h (LetsGo armed) = harts-run state.committed (replicate armed.count h)

bus_as_many : {state : ModelState} {by : ℕ} {turn : Turn} → IsBusEvent state by turn → AsMany state → AsMany turn.state
bus_as_many {state} {by} done same =
    done.count ∙ same
    ∙ sym (ap (λ flat. length flat.harts) done.committed
    ∙ harts-run state.committed (order_of (freed_in state by done.start)))

step_as_many : (state : ModelState) (h : ℕ) → AsMany state → AsMany (step_turn state h).state
step_as_many state h same =
    let step = step_deed state h in
    rw step.turn_is (length-set state.harts h _ ∙ same ∙ sym (committed_count state h step.deed))

pub next_as_many : (state : ModelState) (event : Event) → AsMany state → AsMany (next state event).state
next_as_many state event same =
    by_event (λ turn. AsMany turn.state) state event (λ step. step_as_many state event.hart.number same)
    (λ turn done. bus_as_many done same)

pub first_as_many : (program : Program) (config : Config) → AsMany (begin program config)
unfolding begin start
first_as_many program config =
    length-replicate program.harts (new_hart config.sets)
    ∙ sym (length-map (range_with_len 0 program.harts) (first_view program) ∙ length-range_with_len 0 program.harts)

-- a hart that runs is one of the machine's
pub runs_exists : (state : ModelState) (h : ℕ) → AsMany state → status_of state.committed h ≡ Running →
    h < length state.harts
runs_exists state h many running = let some = runs-exists state.committed h running in omega (arith, many, some)
