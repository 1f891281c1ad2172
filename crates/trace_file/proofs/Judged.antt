-- A file without a fault is the spelling of what is read of it.
use Rattle.std.proofs.Common.{◌≡◌, ◌≢◌, ℕ, ◌+◌, ◌≤◌, ◌<◌, Bool, true, false, not, ◌==◌, ltb, List, [], ◌∷◌, ◌++◌}
use Rattle.std.proofs.Common.{length, map, get_or, take, drop}
use Rattle.std.proofs.Common.{Option, Some, None, IsTrue, refl, sym, ap, ◌∙◌, arith}
use Rattle.std.specs.Prelude.{All}
use Rattle.std.specs.Option.{option_map}
use Rattle.std.proofs.lemmas.Bool.{leb-true, ltb-false, not-false}
use Rattle.std.proofs.lemmas.Bool.Decides.{nat_tests}
use Rattle.std.proofs.lemmas.List.{length-drop, length-map}
use Rattle.std.proofs.lemmas.List.Elements.{All-cons, All-head, All-tail}
use Rattle.chronicle.specs.Chronicle.{events}
use Rattle.el_base.specs.Config.{allows}
use Rattle.el_base.specs.declared.config.ConfigFault.TheVariants.{Harts, Sets, Ways, Lines, Long, Steps}
use Rattle.el_base.specs.declared.hart_id.TheConstants.{MAX_HARTS}
use Rattle.el_base.specs.Firsts.{first_of, some_if}
use Rattle.el_base.proofs.Laws.Ranges.{Ranges, in_range, at_most}
use Rattle.el_base.proofs.Laws.Options.{cond_none, or_none}
use Rattle.el_base.specs.declared.config.Config.{Config}
use Rattle.el_base.specs.declared.events.Event.{Event}
use Rattle.el_base.specs.declared.outcomes.Outcome.{Outcome}
use Rattle.file_numbers.specs.Numbers.{IsBytes, number_at}
use Rattle.file_numbers.proofs.Laws.Numbers.{bytes_behind}
use Rattle.trace_file.specs.declared.fault.FaultKind.TheVariants.{Event as event_kind, Tail, Version}
use Rattle.trace_file.specs.Spelling.{head, spelling, event_byte, outcomes, IsTrace}
use Rattle.trace_file.specs.FaultKinds.{fault_of}
use Rattle.trace_file.specs.Fields.{is_event}
use Rattle.trace_file.specs.Faults.{byte_fault, magic_fault, version_fault, settings_fault, number_fault, head_fault}
use Rattle.trace_file.specs.Faults.{config_at, is_mode, is_few}
use Rattle.trace_file.specs.Faults.{is_version, event_fault, end_fault, events_fault, entries_fault, body_fault}
use Rattle.trace_file.specs.Faults.{trace_fault}
use Rattle.trace_file.specs.Reading.{entries_at, event_in, events_at, recorded_at}
use Rattle.trace_file.proofs.EventBytes.{none_fails, all_taken}
use Rattle.trace_file.proofs.EntryLaws.{entries_spelled, event_spelled}
use Rattle.file_numbers.proofs.Laws.Fields.{field_none}
use Rattle.trace_file.proofs.Heads.{byte_passed, number_passed, head_spelled}

-- ---- the configuration

settings_within : (file : List ℕ) → settings_fault file ≡ None → Ranges (config_at file)
unfolding settings_fault config_at
settings_within file none =
    let numbers = number_fault file 14 (allows Steps) ∷ [] in
    let long = number_fault file 10 (allows Long) ∷ numbers in
    let lines = byte_fault file 9 (allows Lines) ∷ long in
    let ways = byte_fault file 8 (allows Ways) ∷ lines in
    let sets = byte_fault file 7 (allows Sets) ∷ ways in
    let mode = byte_fault file 6 is_mode ∷ sets in
    let e0 = or_none (byte_fault file 5 (allows Harts)) (first_of mode) none in
    let e1 = or_none (byte_fault file 6 is_mode) (first_of sets) e0.1 in
    let e2 = or_none (byte_fault file 7 (allows Sets)) (first_of ways) e1.1 in
    let e3 = or_none (byte_fault file 8 (allows Ways)) (first_of lines) e2.1 in
    let e4 = or_none (byte_fault file 9 (allows Lines)) (first_of long) e3.1 in
    let e5 = or_none (number_fault file 10 (allows Long)) (first_of numbers) e4.1 in
    let e6 = or_none (number_fault file 14 (allows Steps)) None e5.1 in
    record {
      harts = byte_passed file 5 (allows Harts) e0.0;
      sets = byte_passed file 7 (allows Sets) e2.0;
      ways = byte_passed file 8 (allows Ways) e3.0;
      lines = byte_passed file 9 (allows Lines) e4.0;
      long = (number_passed file 10 (allows Long) e5.0).1;
      steps = (number_passed file 14 (allows Steps) e6.0).1;
    }

-- ---- the head

one_or_two : (version : ℕ) → is_version version ≡ true → version ≢ 1 → version ≡ 2
one_or_two version known other = grind (arith, nat_tests)

harts_few : (file : List ℕ) → Ranges (config_at file) → get_or file 5 0 ≤ 8
unfolding config_at
harts_few file r = at_most 1 MAX_HARTS (get_or file 5 0) r.harts

-- what a head without a fault says
record Known (file : List ℕ) : Type 0 where
  version : is_version (get_or file 4 0) ≡ true
  spelled : file ≡ head (get_or file 4 0) (config_at file) (number_at file 18) ++ drop 22 file
  ranges : Ranges (config_at file)
  few : number_at file 18 ≤ number_at file 14
  harts : get_or file 5 0 ≤ 8

head_known : (file : List ℕ) → IsBytes file → head_fault file ≡ None → Known file
unfolding head_fault version_fault
head_known file fits none =
    let counted = number_fault file 18 (is_few (number_at file 14)) ∷ [] in
    let h0 = or_none (magic_fault file) (first_of (version_fault file ∷ settings_fault file ∷ counted)) none in
    let h1 = or_none (version_fault file) (first_of (settings_fault file ∷ counted)) h0.1 in
    let h2 = or_none (settings_fault file) (first_of counted) h1.1 in
    let h3 = or_none (number_fault file 18 (is_few (number_at file 14))) None h2.1 in
    let number = number_passed file 18 (is_few (number_at file 14)) h3.0 in
    let known = is_version (get_or file 4 0) in
    let version = field_none _ file 5 (some_if (not known) (fault_of Version 4)) h1.0 in
    let r = settings_within file h2.0 in
    record {
      version = not-false known (cond_none (not known) (fault_of Version 4) None version.1).0;
      spelled = head_spelled file fits number.0 h0.0 h2.0;
      ranges = r;
      few = leb-true (number_at file 18) (number_at file 14) number.1;
      harts = harts_few file r;
    }

-- ---- events without outcomes

events_spelled : (harts : ℕ) → harts ≤ 8 → (bytes : List ℕ) → All (λ byte. IsTrue (is_event harts byte)) bytes →
    (map event_byte (map event_in bytes) ≡ bytes) × All (λ (event : Event). event.hart.number < harts)
    (map event_in bytes)
events_spelled harts few [] known = (refl, λ k d within. absurd (omega arith))
events_spelled harts few (byte ∷ bytes) known =
    let first = event_spelled harts byte few (All-head (λ b. IsTrue (is_event harts b)) byte bytes known) in
    let later = events_spelled harts few bytes (All-tail (λ b. IsTrue (is_event harts b)) byte bytes known) in (
      ap (λ (b : ℕ). b ∷ map event_byte (map event_in bytes)) first.0 ∙ ap (λ (l : List ℕ). byte ∷ l) later.0,
      All-cons (λ (event : Event). event.hart.number < harts) (event_in byte) (map event_in bytes) first.1 later.1,
    )

no_place : (place : Option ℕ) → option_map (λ i. fault_of event_kind (22 + i)) place ≡ None → place ≡ None
no_place None none = refl
no_place (Some i) none = absurd cc

-- where the events have no fault, the bytes behind the head are so many events
bare_known : (file : List ℕ) (harts count : ℕ) → events_fault harts count file ≡ None →
    (length (drop 22 file) ≡ count) × All (λ byte. IsTrue (is_event harts byte)) (drop 22 file)
unfolding events_fault event_fault end_fault
bare_known file harts count none =
    let e1 = or_none (event_fault harts count file) (first_of (end_fault count file ∷ [])) none in
    let e2 = or_none (end_fault count file) None e1.1 in
    let over = ltb (22 + count) (length file) in
    let end = field_none _ file (22 + count) (some_if over (fault_of Tail (22 + count))) e2.0 in
    let most : length file ≤ 22 + count =
    ltb-false (22 + count) (length file) (cond_none over (fault_of Tail (22 + count)) None end.1).0
    in
    let many : length (drop 22 file) ≡ count = omega (arith, end.0, most, length-drop 22 file) in
    let bytes-are : take count (drop 22 file) ≡ drop 22 file = all_taken count (drop 22 file) many in
    let known = none_fails (is_event harts) (take count (drop 22 file)) (no_place _ e1.0) in
    let whole = rw bytes-are at known in
    (many, whole)

-- ---- the whole file

abbrev pub Whole : List ℕ → List Event → Option (List Outcome) → Type 0
Whole file es os = IsTrace (config_at file) es os × (file ≡ spelling (config_at file) es os)

steps_of : (file : List ℕ) → (config_at file).steps ≡ number_at file 14
unfolding config_at
steps_of file = refl

harts_of : (file : List ℕ) → (config_at file).harts ≡ get_or file 5 0
unfolding config_at
harts_of file = refl

-- without outcomes
bare_whole : (file : List ℕ) → Known file → get_or file 4 0 ≡ 1 →
    events_fault (get_or file 5 0) (number_at file 18) file ≡ None → Whole file (map event_in (drop 22 file)) None
unfolding config_at
bare_whole file known version none =
    let count = number_at file 18 in
    let bare = bare_known file (get_or file 5 0) count none in
    let es = map event_in (drop 22 file) in
    let spelled = events_spelled (get_or file 5 0) known.harts (drop 22 file) bare.1 in
    let many : length es ≡ count = length-map (drop 22 file) event_in ∙ bare.0 in (
      record {
        in_range = in_range (config_at file) known.ranges;
        few = rw many known.few;
        harts = spelled.1;
        told = tt;
      },
      known.spelled
          ∙ ap (λ (v : ℕ). head v (config_at file) count ++ drop 22 file) version
          ∙ ap (λ (n : ℕ). head 1 (config_at file) n ++ drop 22 file) (sym many)
          ∙ ap (λ (l : List ℕ). head 1 (config_at file) (length es) ++ l) (sym spelled.0),
    )

-- with outcomes
recorded_whole : (file : List ℕ) → IsBytes file → Known file → get_or file 4 0 ≡ 2 →
    entries_fault (get_or file 5 0) (number_at file 18) 22 (drop 22 file) ≡ None →
    Whole file (events (entries_at file)) (Some (outcomes (entries_at file)))
unfolding config_at
recorded_whole file fits known version none =
    let count = number_at file 18 in
    let read = entries_spelled (get_or file 5 0) count 22 (drop 22 file) known.harts (bytes_behind 22 file fits) none in
    let es = events (entries_at file) in
    let os = outcomes (entries_at file) in (
      record {
        in_range = in_range (config_at file) known.ranges;
        few = rw read.many known.few;
        harts = read.below;
        told = (read.as_many ∙ sym read.many, read.recordable);
      },
      known.spelled
          ∙ ap (λ (v : ℕ). head v (config_at file) count ++ drop 22 file) version
          ∙ ap (λ (n : ℕ). head 2 (config_at file) n ++ drop 22 file) (sym read.many)
          ∙ ap (λ (l : List ℕ). head 2 (config_at file) (length es) ++ l) (sym read.spelled),
    )

by_version : (bare : Bool) (file : List ℕ) → IsBytes file → Known file → (get_or file 4 0 == 1) ≡ bare →
    body_fault file ≡ None → Whole file (events_at file) (recorded_at file)
unfolding body_fault events_at recorded_at
by_version true file fits known bare none =
    let version : get_or file 4 0 ≡ 1 = grind (arith, nat_tests) in
    let none' : events_fault (get_or file 5 0) (number_at file 18) file ≡ None = rw bare at none in
    rw bare (bare_whole file known version none')
by_version false file fits known bare none =
    let other : get_or file 4 0 ≢ 1 = grind (arith, nat_tests) in
    let none' : entries_fault (get_or file 5 0) (number_at file 18) 22 (drop 22 file) ≡ None = rw bare at none in
    rw bare (recorded_whole file fits known (one_or_two (get_or file 4 0) known.version other) none')

pub faultless : (file : List ℕ) → IsBytes file → trace_fault file ≡ None →
    Whole file (events_at file) (recorded_at file)
unfolding trace_fault
faultless file fits none =
    let e0 = or_none (head_fault file) (first_of (body_fault file ∷ [])) none in
    let e1 = or_none (body_fault file) None e0.1 in
    by_version (get_or file 4 0 == 1) file fits (head_known file fits e0.0) refl e1.0

-- the same of what was read as a file says it
pub is_whole : (file : List ℕ) (c : Config) (es : List Event) (os : Option (List Outcome)) → IsBytes file →
    trace_fault file ≡ None → c ≡ config_at file → es ≡ events_at file → os ≡ recorded_at file →
    IsTrace c es os × (file ≡ spelling c es os)
is_whole file c es os fits none config events recorded =
    rw (config, events, recorded) (faultless file fits none)
