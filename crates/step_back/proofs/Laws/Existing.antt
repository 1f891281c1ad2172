-- the harts whose instructions take effect exist
use Rattle.std.proofs.Common.{◌≡◌, ◌<◌, ℕ, suc, List, [], ◌∷◌, sym, subst, arith}
use Rattle.std.specs.Prelude.{All}
use Rattle.std.proofs.lemmas.List.Elements.{All-append, All-cons, All-nil, All-replicate}
use Rattle.chronicle.specs.Chronicle.{events}
use Rattle.chronicle.specs.Serial.{serial, taking_effect}
use Rattle.el_base.specs.Config.{IsInRange}
use Rattle.el_base.specs.Recordable.{IsRecordable}
use Rattle.el_base.specs.declared.config.Config.{Config}
use Rattle.el_base.specs.declared.entries.Entry.{Entry}
use Rattle.el_base.specs.declared.events.Event.{Event}
use Rattle.el_base.specs.declared.outcomes.Outcome.{Outcome}
use Rattle.el_base.specs.declared.outcomes.Outcome.TheVariants.{Ran, Committed, Ordered, Served, LetGo}
use Rattle.el_model.proofs.Laws.Folds.{events-entries_from, outcomes-entries_from}
use Rattle.el_model.specs.Next.{entries_from}
use Rattle.el_model.specs.State.{begin}
use Rattle.elf_image.specs.Program.{Program}
use Rattle.machine.proofs.Laws.Recording.{outcomes_can_be_recorded}
use Rattle.step_back.proofs.Freed.{order_exists}
use Rattle.trace_file.specs.Spelling.{outcomes}

effect_exists : (harts long h : ℕ) (outcome : Outcome) → h < harts → IsRecordable harts long outcome →
    All (λ hart. hart < harts) (taking_effect h outcome)
effect_exists harts long h Ran exists can = All-cons (λ hart. hart < harts) h [] exists (All-nil (λ hart. hart < harts))
effect_exists harts long h (Committed count) exists can = All-replicate (λ hart. hart < harts) count h exists
effect_exists harts long h (LetGo count) exists can = All-replicate (λ hart. hart < harts) count h exists
effect_exists harts long h (Ordered losers freed) exists can = order_exists freed harts can.1
effect_exists harts long h (Served losers freed) exists can = order_exists freed harts can.1
effect_exists harts long h _ exists can = All-nil (λ hart. hart < harts)

-- where the harts of the events exist, and those that the outcomes name, so do those whose instructions take effect
pub serial_exists : (harts long : ℕ) (entries : List Entry) →
    All (λ event. event.hart.number < harts) (events entries) → All (IsRecordable harts long) (outcomes entries) →
    All (λ hart. hart < harts) (serial entries)
serial_exists harts long [] exist can = All-nil (λ hart. hart < harts)
serial_exists harts long (entry ∷ entries) exist can =
    All-append (λ hart. hart < harts) (taking_effect entry.event.hart.number entry.outcome) (serial entries)
    (effect_exists harts long entry.event.hart.number entry.outcome (exist 0 entry.event (omega arith))
    (can 0 entry.outcome (omega arith)))
    (serial_exists harts long entries (λ k d within. exist (suc k) d (omega arith))
    (λ k d within. can (suc k) d (omega arith)))

-- so they do in a run of a program
pub run_exists : (program : Program) (config : Config) (made : List Event) → program.harts ≡ config.harts →
    IsInRange config → All (λ event. event.hart.number < config.harts) made →
    All (λ hart. hart < program.harts) (serial (entries_from (begin program config) made))
run_exists program config made same range exist =
    let entries : List Entry = entries_from (begin program config) made in
    let Made : List Event → Type 0 = All (λ event. event.hart.number < config.harts) in
    let Recorded : List Outcome → Type 0 = All (IsRecordable config.harts config.long) in
    subst (λ harts. All (λ hart. hart < harts) (serial entries)) (sym same)
    (serial_exists config.harts config.long entries
    (subst Made (sym (events-entries_from (begin program config) made)) exist)
    (subst Recorded (sym (outcomes-entries_from (begin program config) made))
    (outcomes_can_be_recorded program config made same range)))
