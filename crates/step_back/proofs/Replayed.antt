-- a run up to a place is the run of the events up to there
use Rattle.std.proofs.Common.{◌≡◌, ℕ, zero, suc, List, [], ◌∷◌, take, refl, ap, sym, ◌∙◌}
use Rattle.chronicle.specs.Serial.{serial}
use Rattle.el_base.specs.declared.config.Config.{Config}
use Rattle.el_base.specs.declared.entries.Entry.{Entry}
use Rattle.el_base.specs.declared.events.Event.{Event}
use Rattle.el_model.proofs.Laws.Folds.{serial_run}
use Rattle.el_model.specs.Next.{after, entries_from, next}
use Rattle.el_model.specs.State.{ModelState, begin}
use Rattle.elf_image.specs.Program.{Program}
use Rattle.rv_flat.specs.FlatState.{start}
use Rattle.rv_flat.specs.Run.{run}
use Rattle.step_back.specs.Standing.{state_at}

take-entries : (state : ModelState) (events : List Event) (place : ℕ) →
    take place (entries_from state events) ≡ entries_from state (take place events)
take-entries state events zero = refl
take-entries state [] (suc place) = refl
take-entries state (event ∷ events) (suc place) =
    let entry : Entry = record { event = event; outcome = (next state event).outcome } in
    ap (λ entries. entry ∷ entries) (take-entries (next state event).state events place)

pub replayed : (program : Program) (config : Config) (events : List Event) (place : ℕ) →
    state_at program (entries_from (begin program config) events) place
    ≡ (after program config (take place events)).committed
unfolding begin
replayed program config events place =
    ap (λ entries. run (start program) (serial entries)) (take-entries (begin program config) events place)
    ∙ sym (serial_run (begin program config) (take place events))
