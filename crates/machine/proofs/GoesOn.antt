-- a machine stands after each event, and what follows from that
use Rattle.std.proofs.Common.{◌≡◌, ◌∙◌, ℕ, ◌+◌, ◌≤◌, ◌<◌, List, [], ◌∷◌, ◌++◌, length, ap, arith, length-append, refl}
use Rattle.std.proofs.Common.{subst, sym}
use Rattle.std.proofs.lemmas.List.Elements.{All-push}
use Rattle.std.proofs.lemmas.List.{length-map, map-append}
use Rattle.std.specs.Prelude.{All, map}
use Rattle.chronicle.specs.Chronicle.{Chronicle, events}
use Rattle.chronicle.specs.Serial.{serial}
use Rattle.el_base.specs.Config.{IsInRange}
use Rattle.el_base.specs.Recordable.{IsRecordable}
use Rattle.el_base.specs.declared.config.Config.{Config}
use Rattle.el_base.specs.declared.entries.Entry.{Entry}
use Rattle.el_base.specs.declared.events.Event.{Event}
use Rattle.el_base.specs.declared.outcomes.Outcome.{Outcome}
use Rattle.el_model.proofs.Laws.Folds.{entries_from-append, outcomes-entries_from, serial_run}
use Rattle.el_model.specs.Next.{entries_from, next}
use Rattle.el_model.specs.State.{ModelState, begin}
use Rattle.elf_image.specs.Program.{IsProgram, Program}
use Rattle.engine.proofs.Laws.Places.{keeps_place}
use Rattle.engine.specs.MainMemory.{lines_from}
use Rattle.engine.specs.Parts.{IsInState, Parts}
use Rattle.engine.specs.Reached as engine
use Rattle.engine.specs.Reached.{IsReached}
use Rattle.machine.proofs.Laws.Continued.{state_of_continued}
use Rattle.machine.proofs.MainLines.{first_lines, more_lines}
use Rattle.machine.proofs.Laws.Recording.{outcomes_can_be_recorded}
use Rattle.machine.specs.MainMemory.{main_lines}
use Rattle.machine.specs.Stands.{IsGiven, MachineStands}
use Rattle.machine.specs.Story.{IsOneRun, Story, committed, continued, left_of, memory_of, state_of}
use Rattle.rv_flat.specs.FlatState.{FlatState, span_of, start}
use Rattle.rv_flat.specs.Laws.{KeepsShape}
use Rattle.rv_flat.specs.Memory.{AreBytes}
use Rattle.rv_flat.specs.Run.{run}
use Rattle.rv_flat.proofs.Laws.StepLaws.{start_harts}
use Rattle.engine.specs.Shows.{IsReady}

-- a machine stands before its first event
pub first : (program : Program) (config : Config) (parts : Parts) (entries : List Entry) (room : ℕ) →
    IsProgram program → AreBytes program.bytes → IsInRange config → program.harts ≡ config.harts →
    engine.Begins parts program config →
    ◌≡◌ {A = Chronicle} (record { entries = entries; places = room }) (record { entries = []; places = config.steps }) →
    MachineStands (record { program = program; config = config; entries = entries }) parts room
first program config parts entries room valid bytes in_range one_each begins empty =
    rw (ap (λ history. history.entries) empty, ap (λ history. history.places) empty)
    (record {
      given = record {
        program = valid;
        bytes = bytes;
        in_range = in_range;
        one_hart_each = one_each;
        places = refl;
        within = omega arith;
        harts_exist = λ k d none. absurd (omega arith);
      };
      ready = begins.ready;
      is_in = begins.is_in;
      memory = begins.memory ∙ sym (first_lines program config);
      entries = refl;
    })

-- the state of a machine is one that a program reaches
pub reached : (story : Story) (room : ℕ) → IsGiven story room → IsReached (state_of story)
reached story room given = record {
  program = story.program;
  config = story.config;
  events = events story.entries;
  is_program = given.program;
  bytes = given.bytes;
  in_range = given.in_range;
  one_hart_each = given.one_hart_each;
  within = let within = given.within in omega (arith, within, length-map story.entries (λ entry. entry.event));
  state_is = refl;
}

-- so its parts stand
pub parts_stand : (story : Story) (parts : Parts) (room : ℕ) → MachineStands story parts room →
    engine.EngineStands parts
parts_stand story parts room stands =
    record {
      ready = stands.ready;
      state = state_of story;
      reached = reached story room stands.given;
      is_in = stands.is_in;
    }

-- the events of a story that goes on by one more
events_more : (story : Story) (event : Event) →
    events (continued story (event ∷ [])).entries ≡ events story.entries ++ event ∷ []
events_more story event = map-append _ story.entries (entries_from (state_of story) (event ∷ []))

given_more : (story : Story) (room : ℕ) (event : Event) → IsGiven story room → event.hart.number < story.config.harts →
    1 ≤ left_of story → IsGiven (continued story (event ∷ [])) room
given_more story room event given below left = record {
  program = given.program;
  bytes = given.bytes;
  in_range = given.in_range;
  one_hart_each = given.one_hart_each;
  places = given.places;
  within = omega (arith, length-append story.entries (entries_from (state_of story) (event ∷ [])));
  harts_exist =
      rw (events_more story event)
      (All-push (λ e. e.hart.number < story.config.harts) (events story.entries) event given.harts_exist below);
}

-- a machine stands after one event more, where a step is left
pub stands_on : (story : Story) (old new : Parts) (room : ℕ) (event : Event) (outcome : Outcome) →
    MachineStands story old room → event.hart.number < story.config.harts → 1 ≤ left_of story → IsReady new.bus →
    IsInState new (next (state_of story) event).state → outcome ≡ (next (state_of story) event).outcome →
    new.bus.copies.lines ≡ lines_from (state_of story) event old.bus.copies.lines →
    MachineStands (record story { entries = story.entries ++ record { event = event; outcome = outcome } ∷ [] }) new
    room
stands_on story old new room event outcome stands below left ready goes told writes =
    let Told : Outcome → Type 0 =
    λ o. MachineStands (record story { entries = story.entries ++ record { event = event; outcome = o } ∷ [] }) new
    room in
    subst Told (sym told)
    (record {
      given = given_more story room event stands.given below left;
      ready = ready;
      is_in = subst (IsInState new) (sym (state_of_continued story (event ∷ []))) goes;
      memory =
          writes
          ∙ ap (lines_from (state_of story) event) stands.memory
          ∙ sym (more_lines story (continued story (event ∷ [])) event refl refl (events_more story event));
      entries =
          ap (λ entries. entries ++ entries_from (state_of story) (event ∷ [])) stands.entries
          ∙ sym (entries_from-append (begin story.program story.config) (events story.entries) (event ∷ []))
          ∙ sym (ap (λ made. entries_from (begin story.program story.config) made) (events_more story event));
    })

-- so it does where the parts go on from each state that a program reaches
pub stands_more : (story : Story) (old new : Parts) (room : ℕ) (event : Event) (outcome : Outcome) →
    MachineStands story old room → event.hart.number < story.config.harts → 1 ≤ left_of story → IsReady new.bus →
    ((state : ModelState) → IsReached state → IsInState old state → IsInState new (next state event).state) →
    ((state : ModelState) → IsReached state → IsInState old state → outcome ≡ (next state event).outcome) →
    ((state : ModelState) → IsReached state → IsInState old state →
    new.bus.copies.lines ≡ lines_from state event old.bus.copies.lines) →
    MachineStands (record story { entries = story.entries ++ record { event = event; outcome = outcome } ∷ [] }) new
    room
stands_more story old new room event outcome stands below left ready goes told writes =
    let here = reached story room stands.given in
    stands_on story old new room event outcome stands below left ready (goes (state_of story) here stands.is_in)
    (told (state_of story) here stands.is_in) (writes (state_of story) here stands.is_in)

-- so the story goes on by the event
pub told_more : (story : Story) (old : Parts) (room : ℕ) (event : Event) (outcome : Outcome) →
    MachineStands story old room →
    ((state : ModelState) → IsReached state → IsInState old state → outcome ≡ (next state event).outcome) →
    record story { entries = story.entries ++ record { event = event; outcome = outcome } ∷ [] }
    ≡ continued story (event ∷ [])
told_more story old room event outcome stands told =
    ap (λ o. record story { entries = story.entries ++ record { event = event; outcome = o } ∷ [] })
    (told (state_of story) (reached story room stands.given) stands.is_in)

begun : (story : Story) → (state_of story).committed ≡ run (begin story.program story.config).committed
    (serial story.entries) → (state_of story).committed ≡ committed story
unfolding begin
begun story is = is

-- what the program did is one run of it on plain shared memory
is_one_run : (story : Story) (parts : Parts) (room : ℕ) → MachineStands story parts room → IsOneRun story
is_one_run story parts room stands =
    let first = begin story.program story.config in
    record {
      outcomes =
          ap (λ entries. map (λ entry. entry.outcome) entries) stands.entries
          ∙ outcomes-entries_from first (events story.entries);
      committed =
          begun story
          (serial_run first (events story.entries) ∙ ap (λ entries. run first.committed (serial entries))
          (sym stands.entries));
    }

-- the same of the story that a machine is seen as
pub one_run : (story now : Story) (parts : Parts) (room : ℕ) → MachineStands story parts room →
    story ≡ now → IsOneRun now
one_run story now parts room stands same = subst IsOneRun same (is_one_run story parts room stands)

-- and each outcome can be recorded
pub recordable : (story now : Story) (parts : Parts) (room : ℕ) → MachineStands story parts room → story ≡ now →
    All (IsRecordable now.config.harts now.config.long) (map (λ entry. entry.outcome) now.entries)
recordable story now parts room stands same =
    let given = subst (λ s. IsGiven s room) same stands.given in
    rw (one_run story now parts room stands same).outcomes
    (outcomes_can_be_recorded now.program now.config (events now.entries) given.one_hart_each given.in_range)

pub now_lines : (story now : Story) (parts : Parts) (room : ℕ) → MachineStands story parts room → story ≡ now →
    parts.bus.copies.lines ≡ main_lines now
now_lines story now parts room stands same = stands.memory ∙ ap main_lines same

pub reached_committed : (story now : Story) (parts : Parts) (room : ℕ) → MachineStands story parts room → story ≡ now →
    (state_of now).committed ≡ committed now
reached_committed story now parts room stands same = (one_run story now parts room stands same).committed

pub now_in : (story now : Story) (parts : Parts) (room : ℕ) → MachineStands story parts room → story ≡ now →
    IsInState parts (state_of now)
now_in story now parts room stands same = subst (λ s. IsInState parts (state_of s)) same stands.is_in

pub now_reached : (story now : Story) (parts : Parts) (room : ℕ) → MachineStands story parts room → story ≡ now →
    IsReached (state_of now)
now_reached story now parts room stands same =
    subst (λ s. IsReached (state_of s)) same (reached story room stands.given)

-- memory lies where the program's does, and there are as many harts as configured
place_kept : (story : Story) (parts : Parts) (room : ℕ) → MachineStands story parts room →
    KeepsShape (start story.program) (state_of story).committed
place_kept story parts room stands = keeps_place story.program story.config (events story.entries)

spans : (program : Program) (state : FlatState) → state.base ≡ (start program).base →
    length state.bytes ≡ length (start program).bytes → span_of state ≡ memory_of program
unfolding start
spans program state base size =
    ap (λ b. record { base = b; end = b + length state.bytes }) base
    ∙ ap (λ n. record { base = program.base; end = program.base + n }) size

pub same_span : (story now : Story) (parts : Parts) (room : ℕ) → MachineStands story parts room → story ≡ now →
    parts.span ≡ memory_of now.program
same_span story now parts room stands same =
    let kept = place_kept story parts room stands in
    stands.is_in.span ∙ spans story.program (state_of story).committed kept.base kept.length_of_bytes
    ∙ ap (λ s. memory_of s.program) same

pub same_base : (story now : Story) (parts : Parts) (room : ℕ) → MachineStands story parts room → story ≡ now →
    (state_of now).committed.base ≡ now.program.base
same_base story now parts room stands same =
    ap (λ span. span.base)
    (sym (now_in story now parts room stands same).span ∙ same_span story now parts room stands same)

pub as_many : (story now : Story) (parts : Parts) (room : ℕ) → MachineStands story parts room → story ≡ now →
    length parts.harts ≡ now.config.harts
as_many story now parts room stands same =
    stands.is_in.view_each ∙ (place_kept story parts room stands).harts ∙ start_harts story.program
    ∙ stands.given.one_hart_each
    ∙ ap (λ s. s.config.harts) same

pub hart_there : (story now : Story) (parts : Parts) (room h : ℕ) → MachineStands story parts room → story ≡ now →
    h < now.config.harts → h < length parts.harts
hart_there story now parts room h stands same below =
    subst (λ n. h < n) (sym (as_many story now parts room stands same)) below
