-- A trace that is spelled has no fault, and is read again.
use Rattle.std.proofs.Common.{◌≡◌, ℕ, ◌+◌, ◌^◌, ◌≤◌, ◌<◌, Bool, true, false, not, ltb, List, [], ◌∷◌, ◌++◌, length, map}
use Rattle.std.proofs.Common.{get_or, take, Option, Some}
use Rattle.std.proofs.Common.{None, IsTrue, refl, sym, ap, ◌∙◌, inl, inr, arith}
use Rattle.std.specs.Prelude.{All}
use Rattle.std.specs.List.{position, position_or_len}
use Rattle.std.proofs.lemmas.Bool.{cases_lt, le-leb, le-ltb, not-true}
use Rattle.std.proofs.lemmas.List.{length-map, take_all}
use Rattle.std.proofs.lemmas.List.Sums.{passes_at_first}
use Rattle.std.proofs.lemmas.List.Elements.{All-map}
use Rattle.byteorder.specs.Endian.{little_bytes}
use Rattle.byteorder.specs.Numbers.{little_number-reads_back}
use Rattle.chronicle.specs.Chronicle.{events}
use Rattle.el_base.specs.Config.{allows}
use Rattle.el_base.specs.declared.config.ConfigFault.TheVariants.{Harts, Sets, Ways, Lines, Long, Steps}
use Rattle.el_base.specs.declared.config.TheConstants.{MAX_STEPS}
use Rattle.el_base.specs.declared.hart_id.TheConstants.{MAX_HARTS}
use Rattle.el_base.proofs.Laws.Ranges.{Ranges, ranges, at_most}
use Rattle.el_base.proofs.Laws.Cases.{not_both}
use Rattle.el_base.proofs.Laws.Options.{both_none}
use Rattle.el_base.specs.declared.events.Event.{Event}
use Rattle.el_base.specs.declared.config.Config.{Config}
use Rattle.el_base.specs.declared.config.Mode.{Mode}
use Rattle.el_base.specs.declared.config.Mode.TheVariants.{Plain, Sle, Tlr}
use Rattle.el_base.specs.declared.outcomes.Outcome.{Outcome}
use Rattle.trace_file.specs.declared.fault.FaultKind.TheVariants.{Config as config_kind, Version}
use Rattle.el_base.specs.Modes.{mode_number}
use Rattle.trace_file.specs.Spelling.{head, spelling, event_byte, outcomes, recorded_bytes, version_of, IsTrace}
use Rattle.trace_file.specs.FaultKinds.{fault_of}
use Rattle.trace_file.specs.Fields.{is_event}
use Rattle.file_numbers.proofs.Laws.Fields.{field_passes, passes_if}
use Rattle.file_numbers.specs.Numbers.{number_at}
use Rattle.trace_file.specs.Codes.{mode_at}
use Rattle.trace_file.specs.Faults.{byte_fault, magic_fault, version_fault, settings_fault, number_fault}
use Rattle.trace_file.specs.Faults.{head_fault, is_mode, is_few}
use Rattle.trace_file.specs.Faults.{is_version, event_fault, end_fault, events_fault, entries_fault, body_fault}
use Rattle.trace_file.specs.Faults.{trace_fault, config_at}
use Rattle.trace_file.specs.Reading.{entries_in, event_in, events_at, recorded_at}
use Rattle.trace_file.proofs.EntryLaws.{entries_again, event_back, event_passes}

-- ---- fields without a fault

byte_passes : (file : List ℕ) (place : ℕ) (test : ℕ → Bool) → place + 1 ≤ length file →
    test (get_or file place 0) ≡ true → byte_fault file place test ≡ None
unfolding byte_fault
byte_passes file place test whole passed =
    field_passes _ file (place + 1) _ whole
    (passes_if (not (test (get_or file place 0))) (fault_of config_kind place) (ap not passed))

number_passes : (file : List ℕ) (place : ℕ) (test : ℕ → Bool) → place + 4 ≤ length file →
    test (number_at file place) ≡ true → number_fault file place test ≡ None
unfolding number_fault
number_passes file place test whole passed =
    field_passes _ file (place + 4) _ whole
    (passes_if (not (test (number_at file place))) (fault_of config_kind place) (ap not passed))

-- ---- what stands in a head, whatever follows it

abbrev headed : ℕ → Config → ℕ → List ℕ → List ℕ
headed version c count tail = head version c count ++ tail

long_is : (version count : ℕ) (c : Config) (tail : List ℕ) → c.long < 2 ^ 32 →
    number_at (headed version c count tail) 10 ≡ c.long
long_is version count c tail small =
    little_number-reads_back 4 c.long (little_bytes 4 c.steps ++ (little_bytes 4 count ++ tail)) small

steps_is : (version count : ℕ) (c : Config) (tail : List ℕ) → c.steps < 2 ^ 32 →
    number_at (headed version c count tail) 14 ≡ c.steps
steps_is version count c tail small = little_number-reads_back 4 c.steps (little_bytes 4 count ++ tail) small

count_is : (version count : ℕ) (c : Config) (tail : List ℕ) → count < 2 ^ 32 →
    number_at (headed version c count tail) 18 ≡ count
count_is version count c tail small = little_number-reads_back 4 count tail small

mode_passes : (mode : Mode) → is_mode (mode_number mode) ≡ true
mode_passes Plain = refl
mode_passes Sle = refl
mode_passes Tlr = refl

settings_pass : (version count : ℕ) (c : Config) (tail : List ℕ) → Ranges c →
    settings_fault (headed version c count tail) ≡ None
unfolding settings_fault
settings_pass version count c tail r =
    let file = headed version c count tail in
    let small = at_most 2 65536 c.long r.long in
    let few = at_most 1 MAX_STEPS c.steps r.steps in
    let long-in : allows Long (number_at file 10) ≡ true = rw (long_is version count c tail (omega arith)) r.long in
    let steps-in : allows Steps (number_at file 14) ≡ true = rw (steps_is version count c tail (omega arith)) r.steps in
    both_none (byte_fault file 5 (allows Harts)) _ (byte_passes file 5 (allows Harts) (omega arith) r.harts)
    (both_none (byte_fault file 6 is_mode) _ (byte_passes file 6 is_mode (omega arith) (mode_passes c.mode))
    (both_none (byte_fault file 7 (allows Sets)) _ (byte_passes file 7 (allows Sets) (omega arith) r.sets)
    (both_none (byte_fault file 8 (allows Ways)) _ (byte_passes file 8 (allows Ways) (omega arith) r.ways)
    (both_none (byte_fault file 9 (allows Lines)) _ (byte_passes file 9 (allows Lines) (omega arith) r.lines)
    (both_none (number_fault file 10 (allows Long)) _ (number_passes file 10 (allows Long) (omega arith) long-in)
    (both_none (number_fault file 14 (allows Steps)) None
    (number_passes file 14 (allows Steps) (omega arith) steps-in) refl))))))

head_passes : (version count : ℕ) (c : Config) (tail : List ℕ) → is_version version ≡ true → Ranges c →
    count ≤ c.steps → head_fault (headed version c count tail) ≡ None
unfolding head_fault magic_fault version_fault
head_passes version count c tail known r few =
    let file = headed version c count tail in
    let most = at_most 1 MAX_STEPS c.steps r.steps in
    let count-in : is_few (number_at file 14) (number_at file 18) ≡ true =
    rw (steps_is version count c tail (omega arith), count_is version count c tail (omega arith))
    (le-leb count c.steps few)
    in
    both_none (magic_fault file) _ (field_passes _ file 4 _ (omega arith) refl)
    (both_none (version_fault file) _
    (field_passes _ file 5 _ (omega arith) (passes_if (not (is_version version)) (fault_of Version 4) (ap not known)))
    (both_none (settings_fault file) _ (settings_pass version count c tail r)
    (both_none (number_fault file 18 (is_few (number_at file 14))) None
    (number_passes file 18 (is_few (number_at file 14)) (omega arith) count-in) refl)))

-- ---- events without outcomes

none_other : (test : ℕ → Bool) (xs : List ℕ) → All (λ x. IsTrue (test x)) xs → position (λ x. not (test x)) xs ≡ None
none_other test xs each =
    let p : ℕ → Bool = λ x. not (test x) in
    elim (cases_lt (position_or_len p xs) (length xs)) [
      | inl found ↦
          let bad : not (test (get_or xs (position_or_len p xs) 0)) ≡ true = passes_at_first p xs 0 found in
          let good : test (get_or xs (position_or_len p xs) 0) ≡ true = each (position_or_len p xs) 0 found in
          not_both good (not-true _ bad)
      | inr past ↦ rw (le-ltb (position_or_len p xs) (length xs) past) refl
    ]

events_pass : (c : Config) (es : List Event) → All (λ (event : Event). event.hart.number < c.harts) es →
    event_fault c.harts (length es) (spelling c es None) ≡ None
unfolding event_fault
events_pass c es each =
    let bytes = map event_byte es in
    let all : take (length es) bytes ≡ bytes = take_all (length es) bytes (omega (arith, length-map es event_byte)) in
    let known : All (λ byte. IsTrue (is_event c.harts byte)) bytes =
    All-map (λ byte. IsTrue (is_event c.harts byte)) event_byte es
    (λ k d within. event_passes c.harts (get_or es k d) (each k d within))
    in
    rw (all, none_other (is_event c.harts) bytes known) refl

end_passes : (c : Config) (es : List Event) → end_fault (length es) (spelling c es None) ≡ None
unfolding end_fault
end_passes c es =
    let file = spelling c es None in
    let long : length file ≡ 22 + length es = omega (arith, length-map es event_byte) in
    let over : ltb (22 + length es) (length file) ≡ false = le-ltb (22 + length es) (length file) (omega arith) in
    field_passes _ file (22 + length es) _ (omega arith) (rw over refl)

events_back : (es : List Event) → map event_in (map event_byte es) ≡ es
events_back [] = refl
events_back (e ∷ es) =
    ap (λ (x : Event). x ∷ map event_in (map event_byte es)) (event_back e)
    ∙ ap (λ (l : List Event). e ∷ l) (events_back es)

-- ---- the body

few_harts : (c : Config) → Ranges c → c.harts ≤ 8
few_harts c r = at_most 1 MAX_HARTS c.harts r.harts

count_small : (c : Config) (es : List Event) → Ranges c → length es ≤ c.steps → length es < 2 ^ 32
count_small c es r few = let most = at_most 1 MAX_STEPS c.steps r.steps in omega arith

body_passes : (c : Config) (es : List Event) (os : Option (List Outcome)) → Ranges c → IsTrace c es os →
    body_fault (spelling c es os) ≡ None
unfolding body_fault events_fault
body_passes c es None r is =
    let file = spelling c es None in
    let count = count_is 1 (length es) c (map event_byte es) (count_small c es r is.few) in
    both_none (event_fault c.harts (number_at file 18) file) _
    (ap (λ (n : ℕ). event_fault c.harts n file) count ∙ events_pass c es is.harts)
    (both_none (end_fault (number_at file 18) file) None
    (ap (λ (n : ℕ). end_fault n file) count ∙ end_passes c es) refl)
body_passes c es (Some os) r is =
    let count = count_is 2 (length es) c (recorded_bytes es os) (count_small c es r is.few) in
    let again = entries_again c.harts 22 es os (few_harts c r) is.told.0 is.harts is.told.1 in
    ap (λ (n : ℕ). entries_fault c.harts n 22 (recorded_bytes es os)) count ∙ again.faultless

version_known : (os : Option (List Outcome)) → is_version (version_of os) ≡ true
version_known None = refl
version_known (Some os) = refl

pub no_fault : (c : Config) (es : List Event) (os : Option (List Outcome)) → IsTrace c es os →
    trace_fault (spelling c es os) ≡ None
unfolding trace_fault
no_fault c es os is =
    let r = ranges c is.in_range in
    both_none (head_fault (spelling c es os)) _
    (head_passes (version_of os) (length es) c _ (version_known os) r is.few)
    (both_none (body_fault (spelling c es os)) None (body_passes c es os r is) refl)

-- ---- what is read again

mode_back : (mode : Mode) → mode_at (mode_number mode) ≡ mode
mode_back Plain = refl
mode_back Sle = refl
mode_back Tlr = refl

abbrev config_of : ℕ → Mode → ℕ → ℕ → ℕ → ℕ → ℕ → Config
config_of harts mode sets ways lines long steps = record {
  harts = harts;
  mode = mode;
  sets = sets;
  ways = ways;
  lines = lines;
  long = long;
  steps = steps;
}

config_back : (version count : ℕ) (c : Config) (tail : List ℕ) → Ranges c → config_at (headed version c count tail) ≡ c
unfolding config_at
config_back version count c tail r =
    let small = at_most 2 65536 c.long r.long in
    let few = at_most 1 MAX_STEPS c.steps r.steps in
    let file = headed version c count tail in
    ap (λ (x : Mode). config_of c.harts x c.sets c.ways c.lines (number_at file 10) (number_at file 14))
    (mode_back c.mode)
    ∙ ap (λ (x : ℕ). config_of c.harts c.mode c.sets c.ways c.lines x (number_at file 14))
    (long_is version count c tail (omega arith))
    ∙ ap (λ (x : ℕ). config_of c.harts c.mode c.sets c.ways c.lines c.long x)
    (steps_is version count c tail (omega arith))

-- what is read of a file
pub record Reads (file : List ℕ) (c : Config) (es : List Event) (os : Option (List Outcome)) : Type 0 where
  pub config : config_at file ≡ c
  pub events : events_at file ≡ es
  pub recorded : recorded_at file ≡ os

spelled_again : (c : Config) (es : List Event) (os : Option (List Outcome)) → IsTrace c es os →
    Reads (spelling c es os) c es os
unfolding events_at recorded_at
spelled_again c es None is =
    let r = ranges c is.in_range in
    record { config = config_back 1 (length es) c (map event_byte es) r; events = events_back es; recorded = refl }
spelled_again c es (Some os) is =
    let r = ranges c is.in_range in
    let bytes = recorded_bytes es os in
    let count = count_is 2 (length es) c bytes (count_small c es r is.few) in
    let again = entries_again c.harts 22 es os (few_harts c r) is.told.0 is.harts is.told.1 in
    record {
      config = config_back 2 (length es) c bytes r;
      events = ap (λ (n : ℕ). events (entries_in c.harts n bytes)) count ∙ again.again_events;
      recorded = ap (λ (n : ℕ). Some (outcomes (entries_in c.harts n bytes))) count ∙ ap Some again.again_outcomes;
    }

pub read_again : (file : List ℕ) (c : Config) (es : List Event) (os : Option (List Outcome)) → IsTrace c es os →
    file ≡ spelling c es os → Reads file c es os
read_again file c es os is file-is =
    let again = spelled_again c es os is in
    record {
      config = ap config_at file-is ∙ again.config;
      events = ap events_at file-is ∙ again.events;
      recorded = ap recorded_at file-is ∙ again.recorded;
    }

pub one_spelling : (c d : Config) (es fs : List Event) (os ps : Option (List Outcome)) → IsTrace c es os →
    IsTrace d fs ps → spelling c es os ≡ spelling d fs ps → (c ≡ d) × (es ≡ fs) × (os ≡ ps)
one_spelling c d es fs os ps is is' same =
    let first = spelled_again c es os is in
    let second = read_again (spelling c es os) d fs ps is' same in
    (sym first.config ∙ second.config, sym first.events ∙ second.events, sym first.recorded ∙ second.recorded)

pub faultless_again : (file : List ℕ) (c : Config) (es : List Event) (os : Option (List Outcome)) → IsTrace c es os →
    file ≡ spelling c es os → trace_fault file ≡ None
faultless_again file c es os is file-is = ap trace_fault file-is ∙ no_fault c es os is
