-- What a run has reached can be certified.
use Rattle.std.proofs.Common.{◌≡◌, ◌∙◌, ◌≤◌, ◌<◌, ◌+◌, ℕ, List, [], ◌∷◌, length, map, refl, ap, sym, subst, arith}
use Rattle.std.specs.Prelude.{All}
use Rattle.std.proofs.lemmas.List.{length-map}
use Rattle.chronicle.specs.Chronicle.{Chronicle, events}
use Rattle.chronicle.specs.Serial.{serial}
use Rattle.el_base.proofs.Laws.Ranges.{at_most, ranges}
use Rattle.el_base.specs.Config.{IsInRange}
use Rattle.el_base.specs.Recordable.{IsRecordable}
use Rattle.el_base.specs.declared.entries.Entry.{Entry}
use Rattle.el_base.specs.declared.events.Event.{Event}
use Rattle.el_model.proofs.Laws.Folds.{events-entries_from, outcomes-entries_from}
use Rattle.el_model.specs.Next.{entries_from}
use Rattle.el_model.specs.State.{begin}
use Rattle.elf_image.specs.Program.{Program}
use Rattle.drive.specs.Story.{IsOneRun, Story, committed, history_of, memory_of}
use Rattle.run_check.proofs.Laws.ReachedStates.{reached_is_state}
use Rattle.run_check.specs.Certified.{IsHistoryOf, IsStateOf}
use Rattle.rv_flat.specs.FlatState.{span_of}
use Rattle.section_laws.proofs.Laws.SerialLength.{serial_order_is_no_longer}
use Rattle.step_back.proofs.Laws.Existing.{serial_exists}
use Rattle.trace_file.specs.Spelling.{outcomes}

-- entries are told apart by their events and outcomes
same_entries : (some others : List Entry) → map (λ entry. entry.event) some ≡ map (λ entry. entry.event) others →
    map (λ entry. entry.outcome) some ≡ map (λ entry. entry.outcome) others → some ≡ others
same_entries [] [] made came = refl
same_entries [] (other ∷ others) made came = grind (arith, made)
same_entries (one ∷ some) [] made came = grind (arith, made)
same_entries (one ∷ some) (other ∷ others) made came =
    let rest : some ≡ others = same_entries some others (grind (arith, made)) (grind (arith, came)) in
    grind (arith, made, came, rest)

-- a story of one run has the entries that the definition makes of its events
as_made : (story : Story) → IsOneRun story →
    story.entries ≡ entries_from (begin story.program story.config) (events story.entries)
as_made story run =
    let first = begin story.program story.config in
    same_entries story.entries (entries_from first (events story.entries))
    (sym (events-entries_from first (events story.entries)))
    (run.outcomes ∙ sym (outcomes-entries_from first (events story.entries)))

-- its serial order fits a certificate
pub history_fits : (story : Story) → IsOneRun story → length story.entries ≤ story.config.steps →
    IsInRange story.config → story.program.harts ≡ story.config.harts →
    All (λ event. event.hart.number < story.config.harts) (events story.entries) →
    All (IsRecordable story.config.harts story.config.long) (outcomes story.entries) →
    IsHistoryOf story.program story.entries
history_fits story run within in_range same exist can =
    let made : List Event = events story.entries in
    let steps : story.config.steps ≤ 16777216 =
    at_most 1 16777216 story.config.steps (ranges story.config in_range).steps in
    let no_longer : length (serial (entries_from (begin story.program story.config) made)) ≤ length made =
    serial_order_is_no_longer story.program story.config made in
    let serial_few : length (serial story.entries) ≤ length made =
    subst (λ (entries : List Entry). length (serial entries) ≤ length made) (sym (as_made story run)) no_longer in
    let same_length : length made ≡ length story.entries = length-map story.entries (λ entry. entry.event) in
    record {
      harts =
          subst (λ (harts : ℕ). All (λ hart. hart < harts) (serial story.entries)) (sym same)
          (serial_exists story.config.harts story.config.long story.entries exist can);
      few = omega (arith, serial_few, same_length, within, steps);
    }

-- what was reached lies where the program's memory does, and has a view of each hart
reached : (story : Story) → IsStateOf story.program (committed story)
reached story = reached_is_state story.program (committed story) (serial story.entries) refl

pub reached_base : (story : Story) → (committed story).base ≡ story.program.base
reached_base story = (reached story).base

pub reached_span : (story : Story) → span_of (committed story) ≡ memory_of story.program
reached_span story =
    let state = reached story in
    ap (λ (base : ℕ). record { base = base; end = base + length (committed story).bytes }) state.base
    ∙ ap (λ (size : ℕ). record { base = story.program.base; end = story.program.base + size }) state.size

pub reached_harts : (story : Story) (hart : ℕ) → story.program.harts ≡ story.config.harts →
    hart < length (committed story).harts → hart < story.config.harts
reached_harts story hart same below =
    let each = (reached story).one_view_each in
    omega (arith, each, same, below)

-- the same of a copy of the program
pub copy_reached : (image : Program) (story : Story) → image ≡ story.program → IsStateOf image (committed story)
copy_reached image story same =
    subst (λ (program : Program). IsStateOf program (committed story)) (sym same) (reached story)

pub copy_fits : (image : Program) (story : Story) (history : Chronicle) → image ≡ story.program →
    history ≡ history_of story → IsOneRun story → length story.entries ≤ story.config.steps → IsInRange story.config →
    story.program.harts ≡ story.config.harts →
    All (λ event. event.hart.number < story.config.harts) (events story.entries) →
    All (IsRecordable story.config.harts story.config.long) (outcomes story.entries) →
    IsHistoryOf image history.entries
copy_fits image story history same is run within in_range one_each exist can =
    subst (λ (kept : Chronicle). IsHistoryOf image kept.entries) (sym is)
    (subst (λ (program : Program). IsHistoryOf program story.entries) (sym same)
    (history_fits story run within in_range one_each exist can))
