-- Entries and the bytes that spell them.
use Rattle.std.proofs.Common.{◌≡◌, ℕ, zero, suc, ◌+◌, ◌*◌, ◌/◌, ◌%◌, ◌≤◌, ◌<◌, Bool, true, ltb, List, [], ◌∷◌, ◌++◌}
use Rattle.std.proofs.Common.{length, get_or, drop, None, refl}
use Rattle.std.proofs.Common.{sym, ap, ◌∙◌, arith, ◌^◌}
use Rattle.std.specs.Prelude.{All}
use Rattle.std.proofs.lemmas.Bool.{leb-true, ltb-false}
use Rattle.std.proofs.lemmas.Bool.Decides.{nat_tests}
use Rattle.std.proofs.lemmas.List.{drop-drop, get_or-drop, length-drop, nil_from_length}
use Rattle.std.proofs.lemmas.List.Elements.{All-cons, All-head, All-tail}
use Rattle.std.proofs.Math.Seq.{drop-cons}
use Rattle.byteorder.specs.Endian.{little_bytes}
use Rattle.chronicle.specs.Chronicle.{events}
use Rattle.el_base.specs.Config.{within}
use Rattle.el_base.specs.HartId.{hart_id}
use Rattle.el_base.specs.Kinds.{kind_number}
use Rattle.el_base.specs.Recordable.{IsRecordable, most_let_go}
use Rattle.el_base.specs.declared.entries.Entry.{Entry}
use Rattle.el_base.specs.declared.events.Event.{Event}
use Rattle.el_base.specs.declared.events.Kind.{Kind}
use Rattle.el_base.specs.declared.events.Kind.TheVariants.{Step, Order, Serve, Deliver}
use Rattle.el_base.specs.declared.hart_id.HartId.{HartId}
use Rattle.el_base.specs.declared.outcomes.Need.TheVariants.{Read, Write}
use Rattle.el_base.specs.declared.outcomes.Outcome.{Outcome}
use Rattle.el_base.specs.declared.outcomes.Outcome.TheVariants.{Idle, Stalled, Missed, Ran, Began, Buffered, Committed}
use Rattle.el_base.specs.declared.outcomes.Outcome.TheVariants.{RolledBack, Ordered, Served}
use Rattle.el_base.specs.declared.outcomes.Outcome.TheVariants.{Blocked, Delivered, Armed, LetGo}
use Rattle.el_base.specs.declared.outcomes.Cause.{Cause}
use Rattle.el_base.specs.declared.outcomes.Cause.TheVariants.{Room, Lines, Long, Call, Mixed}
use Rattle.el_base.proofs.Laws.HartIds.{hart_id-number, hart_id-of_hart}
use Rattle.el_base.proofs.Laws.Options.{both_none, cond_none, or_none}
use Rattle.file_numbers.specs.Numbers.{IsBytes}
use Rattle.file_numbers.proofs.Laws.Numbers.{bytes_behind}
use Rattle.trace_file.specs.FaultKinds.{fault_of}
use Rattle.trace_file.specs.declared.fault.FaultKind.TheVariants.{Tail}
use Rattle.trace_file.specs.Faults.{entries_fault, entry_fault, field_fault, fields_fault}
use Rattle.trace_file.specs.Fields.{Field, byte_field, entry_width, event_field, fields_of, freed_field, is_blocking}
use Rattle.trace_file.specs.Fields.{is_cause, is_code, is_event}
use Rattle.trace_file.specs.Fields.{is_line, losers_field, number_field, widths}
use Rattle.trace_file.specs.Codes.{cause_code, kind_at, why_code}
use Rattle.trace_file.specs.Outcomes.{blocking_byte, freed_bytes, losers_bytes}
use Rattle.trace_file.specs.Outcomes.{most_committed}
use Rattle.trace_file.specs.Outcomes.{outcome_spelling}
use Rattle.trace_file.specs.Reading.{entries_in, entry_in, event_in, outcome_in}
use Rattle.trace_file.specs.Spelling.{entry_bytes, event_byte, outcomes, recorded_bytes}
use Rattle.trace_file.proofs.EventBytes.{kind_again, kind_back}
use Rattle.trace_file.proofs.FieldRows.{Fill, field_passes, filled, first_known, joined}
use Rattle.trace_file.proofs.Nibbles.{freed_pass, losers_pass}
use Rattle.trace_file.proofs.Laws.OutcomeLaws.{number_again, outcome_back, outcome_spelled, why_small}

-- ---- events

event_parts : (harts byte : ℕ) → is_event harts byte ≡ true → (byte / 16 ≤ 3) × (byte % 16 < harts)
event_parts harts byte known = grind (arith, nat_tests)

-- the event of a byte spells it, and is of a hart below the number of harts
pub event_spelled : (harts byte : ℕ) → harts ≤ 8 → is_event harts byte ≡ true →
    (event_byte (event_in byte) ≡ byte) × ((event_in byte).hart.number < harts)
event_spelled harts byte few known =
    let e = event_parts harts byte known in
    let kind = kind_again (byte / 16) e.0 in
    let hart = hart_id-number (byte % 16) (omega (arith, e.1, few)) in
    (omega (arith, kind, hart), omega (arith, hart, e.1))

kind_small : (kind : Kind) → kind_number kind ≤ 3
kind_small Step = omega arith
kind_small Order = omega arith
kind_small Serve = omega arith
kind_small Deliver = omega arith

halves_pass : (k h harts : ℕ) → k ≤ 3 → h < 8 → h < harts → is_event harts (16 * k + h) ≡ true
halves_pass k h harts small low within =
    let high : (16 * k + h) / 16 ≡ k = omega arith in
    let rest : (16 * k + h) % 16 ≡ h = omega arith in
    rw (high, rest) (grind (arith, nat_tests))

-- the byte of an event of a hart below the number of harts passes
pub event_passes : (harts : ℕ) (event : Event) → event.hart.number < harts → is_event harts (event_byte event) ≡ true
event_passes harts event below =
    halves_pass (kind_number event.kind) event.hart.number harts (kind_small event.kind) event.hart.small below

abbrev made : Kind → HartId → Event
made kind hart = record { kind = kind; hart = hart }

-- an event is that of its byte
pub event_back : (event : Event) → event_in (event_byte event) ≡ event
event_back event =
    let low = event.hart.small in
    let high : event_byte event / 16 ≡ kind_number event.kind = omega (arith, low) in
    let part : event_byte event % 16 ≡ event.hart.number = omega (arith, low) in
    ap (λ (n : ℕ). made (kind_at n) (hart_id (event_byte event % 16))) high
    ∙ ap (λ (k : Kind). made k (hart_id (event_byte event % 16))) (kind_back event.kind)
    ∙ ap (λ (n : ℕ). made event.kind (hart_id n)) part
    ∙ ap (λ (h : HartId). made event.kind h) (hart_id-of_hart event.hart)

-- ---- an entry that is read

-- an entry without a fault spells the bytes in front
pub record IsRead (harts : ℕ) (bytes : List ℕ) : Type 0 where
  pub spelled : entry_bytes (entry_in bytes).event (entry_in bytes).outcome
      ++ drop (entry_width harts bytes) bytes ≡ bytes
  pub hart : (entry_in bytes).event.hart.number < harts
  pub outcome : IsRecordable harts most_committed (entry_in bytes).outcome

pub entry_spelled : (harts place : ℕ) (bytes : List ℕ) → harts ≤ 8 → IsBytes bytes →
    entry_fault harts place bytes ≡ None → IsRead harts bytes
unfolding entry_fault entry_width entry_in
entry_spelled harts place bytes few fits none =
    let code = get_or bytes 1 0 in
    let fields = fields_of harts code in
    let e0 = first_known place bytes (event_field harts) (byte_field is_code ∷ fields) none in
    let e1 = first_known (place + 1) (drop 1 bytes) (byte_field is_code) fields e0.2 in
    let second : get_or (drop 1 bytes) 0 0 ≡ code = get_or-drop 1 bytes 0 0 in
    let known : is_code code ≡ true = ap is_code (sym second) ∙ e1.1 in
    let behind : drop 1 (drop 1 bytes) ≡ drop 2 bytes = drop-drop 1 1 bytes in
    let later : fields_fault (place + 1 + 1) (drop 2 bytes) fields ≡ None =
    ap (λ (l : List ℕ). fields_fault (place + 1 + 1) l fields) (sym behind) ∙ e1.2
    in
    let event = event_spelled harts (get_or bytes 0 0) few e0.1 in
    let outcome = outcome_spelled harts code (place + 1 + 1) (drop 2 bytes) (leb-true code 14 known) few
    (bytes_behind 2 bytes fits) later
    in
    let cut : drop (widths fields) (drop 2 bytes) ≡ drop (1 + (1 + widths fields)) bytes =
    drop-drop (widths fields) 2 bytes ∙ ap (λ (n : ℕ). drop n bytes) (omega arith)
    in
    let two : 2 ≤ length bytes = omega (arith, e0.0, e1.0, length-drop 1 bytes) in
    record {
      spelled =
          ap
          (λ (x : ℕ). x
          ∷ (outcome_spelling (outcome_in code (drop 2 bytes)) ++ drop (1 + (1 + widths fields)) bytes)) event.0
          ∙ ap (λ (l : List ℕ). get_or bytes 0 0 ∷ (outcome_spelling (outcome_in code (drop 2 bytes)) ++ l)) (sym cut)
          ∙ ap (λ (l : List ℕ). get_or bytes 0 0 ∷ l) outcome.0
          ∙ ap (λ (l : List ℕ). get_or bytes 0 0 ∷ l) (sym (drop-cons bytes 1 0 (omega (arith, two))))
          ∙ sym (drop-cons bytes 0 0 (omega (arith, two)));
      hart = event.1;
      outcome = outcome.1;
    }

-- an entry whose outcome has no fields is its event and its code
pub bare_passes : (harts place : ℕ) (bytes : List ℕ) → 2 ≤ length bytes → is_event harts (get_or bytes 0 0) ≡ true →
    get_or bytes 1 0 ≤ 14 → fields_of harts (get_or bytes 1 0) ≡ [] → entry_fault harts place bytes ≡ None
unfolding entry_fault
bare_passes harts place bytes whole event code none =
    let second : get_or (drop 1 bytes) 0 0 ≡ get_or bytes 1 0 = get_or-drop 1 bytes 0 0 in
    let known : is_code (get_or (drop 1 bytes) 0 0) ≡ true = rw second (grind (arith, nat_tests)) in
    let long : 1 ≤ length (drop 1 bytes) = omega (arith, whole, length-drop 1 bytes) in
    rw none (
    both_none (field_fault place bytes (event_field harts)) _
    (field_passes place bytes (event_field harts) (omega (arith, whole)) event)
    (both_none (field_fault (place + 1) (drop 1 bytes) (byte_field is_code)) None
    (field_passes (place + 1) (drop 1 bytes) (byte_field is_code) long known) refl))

pub bare_width : (harts : ℕ) (bytes : List ℕ) → fields_of harts (get_or bytes 1 0) ≡ [] → entry_width harts bytes ≡ 2
unfolding entry_width
bare_width harts bytes none = rw none refl

-- ---- an entry that is spelled

-- fields of an outcome that are filled, behind an event and a code
opened : (harts place code : ℕ) (event : Event) (fields : List Field) (parts : List (List ℕ)) (rest : List ℕ) →
    event.hart.number < harts → is_code code ≡ true → Fill fields parts rest →
    (fields_fault place (event_byte event ∷ code ∷ joined parts rest)
    (event_field harts ∷ byte_field is_code ∷ fields) ≡ None)
    × (drop (widths (event_field harts ∷ byte_field is_code ∷ fields))
    (event_byte event ∷ code ∷ joined parts rest) ≡ rest)
opened harts place code event fields parts rest below known fill =
    filled place (event_field harts ∷ byte_field is_code ∷ fields) ((event_byte event ∷ []) ∷ (code ∷ []) ∷ parts) rest
    (refl, event_passes harts event below, (refl, known, fill))

number_fills : (test : ℕ → Bool) (n : ℕ) (rest : List ℕ) → n < 2 ^ 32 → test n ≡ true →
    Fill (number_field test ∷ []) (little_bytes 4 n ∷ []) rest
number_fills test n rest small passes = (refl, ap test (number_again n rest small) ∙ passes, tt)

line_passes : (n : ℕ) → n < 2 ^ 26 → is_line n ≡ true
line_passes n small = grind (arith, nat_tests)

within_passes : (n high : ℕ) → 1 ≤ n → n ≤ high → within 1 high n ≡ true
within_passes n high some few = grind (arith, nat_tests)

cause_passes : (cause : Cause) → is_cause (cause_code cause) ≡ true
cause_passes Room = refl
cause_passes Lines = refl
cause_passes Long = refl
cause_passes Call = refl
cause_passes Mixed = refl

blocking_passes : (w h harts : ℕ) → w ≤ 2 → h < 8 → h < harts → is_blocking harts (16 * w + h) ≡ true
blocking_passes w h harts small low within =
    let high : (16 * w + h) / 16 ≡ w = omega arith in
    let rest : (16 * w + h) % 16 ≡ h = omega arith in
    rw (high, rest) (grind (arith, nat_tests))

pub entry_again : (harts place : ℕ) (event : Event) (outcome : Outcome) (rest : List ℕ) → harts ≤ 8 →
    event.hart.number < harts → IsRecordable harts most_committed outcome →
    (entry_fault harts place (entry_bytes event outcome ++ rest) ≡ None)
    × (drop (entry_width harts (entry_bytes event outcome ++ rest)) (entry_bytes event outcome ++ rest) ≡ rest)
unfolding entry_fault entry_width
entry_again harts place event Idle rest few below known = opened harts place 0 event [] [] rest below refl tt
entry_again harts place event Stalled rest few below known = opened harts place 1 event [] [] rest below refl tt
entry_again harts place event (Missed line Read) rest few below known =
    let low = line.small in
    opened harts place 2 event (number_field is_line ∷ []) (little_bytes 4 line.number ∷ []) rest below refl
    (number_fills is_line line.number rest (omega (arith, low)) (line_passes line.number low))
entry_again harts place event (Missed line Write) rest few below known =
    let low = line.small in
    opened harts place 3 event (number_field is_line ∷ []) (little_bytes 4 line.number ∷ []) rest below refl
    (number_fills is_line line.number rest (omega (arith, low)) (line_passes line.number low))
entry_again harts place event Ran rest few below known = opened harts place 4 event [] [] rest below refl tt
entry_again harts place event Began rest few below known = opened harts place 5 event [] [] rest below refl tt
entry_again harts place event Buffered rest few below known = opened harts place 6 event [] [] rest below refl tt
entry_again harts place event (Committed count) rest few below known =
    opened harts place 7 event (number_field (within 1 most_committed) ∷ []) (little_bytes 4 count ∷ []) rest below refl
    (number_fills (within 1 most_committed) count rest (omega (arith, known.1))
    (within_passes count most_committed known.0 known.1))
entry_again harts place event (RolledBack cause) rest few below known =
    opened harts place 8 event (byte_field is_cause ∷ []) ((cause_code cause ∷ []) ∷ []) rest below refl
    (refl, cause_passes cause, tt)
entry_again harts place event (Ordered losers freed) rest few below known =
    opened harts place 9 event (losers_field harts ∷ freed_field harts ∷ [])
    (losers_bytes losers ∷ freed_bytes freed ∷ []) rest
    below refl (
      refl,
      losers_pass harts losers (freed_bytes freed ++ rest) few known.0,
      (refl, freed_pass harts freed rest known.1, tt),
    )
entry_again harts place event (Served losers freed) rest few below known =
    opened harts place 10 event (losers_field harts ∷ freed_field harts ∷ [])
    (losers_bytes losers ∷ freed_bytes freed ∷ []) rest
    below refl (
      refl,
      losers_pass harts losers (freed_bytes freed ++ rest) few known.0,
      (refl, freed_pass harts freed rest known.1, tt),
    )
entry_again harts place event (Blocked why by) rest few below known =
    opened harts place 11 event (byte_field (is_blocking harts) ∷ []) ((blocking_byte why by ∷ []) ∷ []) rest below refl
    (refl, blocking_passes (why_code why) by.number harts (why_small why) by.small known, tt)
entry_again harts place event (Delivered losers) rest few below known =
    opened harts place 12 event (losers_field harts ∷ []) (losers_bytes losers ∷ []) rest below refl
    (refl, losers_pass harts losers rest few known, tt)
entry_again harts place event Armed rest few below known = opened harts place 13 event [] [] rest below refl tt
entry_again harts place event (LetGo count) rest few below known =
    let most = known.1 in
    let same : count % 256 ≡ count = omega (arith, most) in
    opened harts place 14 event (byte_field (within 1 most_let_go) ∷ []) (little_bytes 1 count ∷ []) rest below refl
    (refl, ap (within 1 most_let_go) same ∙ within_passes count most_let_go known.0 known.1, tt)

abbrev paired : Event → Outcome → Entry
paired event outcome = record { event = event; outcome = outcome }

pub entry_back : (harts : ℕ) (event : Event) (outcome : Outcome) (rest : List ℕ) →
    IsRecordable harts most_committed outcome →
    entry_in (entry_bytes event outcome ++ rest) ≡ paired event outcome
unfolding entry_in
entry_back harts event outcome rest known =
    let bytes = outcome_spelling outcome ++ rest in
    ap (λ (e : Event). paired e (outcome_in (get_or bytes 0 0) (drop 1 bytes))) (event_back event)
    ∙ ap (λ (o : Outcome). paired event o) (outcome_back harts outcome rest known)

-- ---- entries one behind the other

-- entries that were read without a fault
pub record AreRead (harts count : ℕ) (bytes : List ℕ) (entries : List Entry) : Type 0 where
  pub spelled : recorded_bytes (events entries) (outcomes entries) ≡ bytes
  pub many : length (events entries) ≡ count
  pub as_many : length (outcomes entries) ≡ count
  pub below : All (λ event. event.hart.number < harts) (events entries)
  pub recordable : All (IsRecordable harts most_committed) (outcomes entries)

pub entries_spelled : (harts count place : ℕ) (bytes : List ℕ) → harts ≤ 8 → IsBytes bytes →
    entries_fault harts count place bytes ≡ None → AreRead harts count bytes (entries_in harts count bytes)
entries_spelled harts zero place bytes few fits none =
    let past : length bytes ≤ 0 =
    ltb-false 0 (length bytes) (cond_none (ltb 0 (length bytes)) (fault_of Tail place) None none).0 in
    record {
      spelled = sym (nil_from_length bytes (omega (arith, past)));
      many = refl;
      as_many = refl;
      below = λ k d within. absurd (omega arith);
      recordable = λ k d within. absurd (omega arith);
    }
entries_spelled harts (suc count) place bytes few fits none =
    let width = entry_width harts bytes in
    let entry = entry_in bytes in
    let e =
    or_none (entry_fault harts place bytes) (entries_fault harts count (place + width) (drop width bytes)) none in
    let first = entry_spelled harts place bytes few fits e.0 in
    let later =
    entries_spelled harts count (place + width) (drop width bytes) few (bytes_behind width bytes fits) e.1 in
    let entries = entries_in harts count (drop width bytes) in
    record {
      spelled = ap (λ (l : List ℕ). entry_bytes entry.event entry.outcome ++ l) later.spelled ∙ first.spelled;
      many = ap suc later.many;
      as_many = ap suc later.as_many;
      below =
          All-cons (λ (event : Event). event.hart.number < harts) entry.event (events entries) first.hart later.below;
      recordable =
          All-cons (IsRecordable harts most_committed) entry.outcome (outcomes entries) first.outcome later.recordable;
    }

-- entries that were spelled
pub record AreAgain (harts place : ℕ) (es : List Event) (os : List Outcome) : Type 0 where
  pub faultless : entries_fault harts (length es) place (recorded_bytes es os) ≡ None
  pub again_events : events (entries_in harts (length es) (recorded_bytes es os)) ≡ es
  pub again_outcomes : outcomes (entries_in harts (length es) (recorded_bytes es os)) ≡ os

pub entries_again : (harts place : ℕ) (es : List Event) (os : List Outcome) → harts ≤ 8 → length os ≡ length es →
    All (λ (event : Event). event.hart.number < harts) es → All (IsRecordable harts most_committed) os →
    AreAgain harts place es os
entries_again harts place [] [] few many below known =
    record { faultless = refl; again_events = refl; again_outcomes = refl }
entries_again harts place [] (o ∷ os) few many below known = absurd (omega (arith, many))
entries_again harts place (e ∷ es) [] few many below known = absurd (omega (arith, many))
entries_again harts place (e ∷ es) (o ∷ os) few many below known =
    let rest = recorded_bytes es os in
    let bytes = entry_bytes e o ++ rest in
    let width = entry_width harts bytes in
    let first-below : e.hart.number < harts = All-head (λ (event : Event). event.hart.number < harts) e es below in
    let first-known : IsRecordable harts most_committed o = All-head (IsRecordable harts most_committed) o os known in
    let first = entry_again harts place e o rest few first-below first-known in
    let back = entry_back harts e o rest first-known in
    let later = entries_again harts (place + width) es os few (omega (arith, many))
    (All-tail (λ (event : Event). event.hart.number < harts) e es below)
    (All-tail (IsRecordable harts most_committed) o os known)
    in
    record {
      faultless =
          both_none (entry_fault harts place bytes) (entries_fault harts (length es) (place + width) (drop width bytes))
          first.0
          (ap (λ (l : List ℕ). entries_fault harts (length es) (place + width) l) first.1 ∙ later.faultless);
      again_events = ap (λ (x : Entry). x.event ∷ events (entries_in harts (length es) (drop width bytes))) back
          ∙ ap (λ (l : List ℕ). e ∷ events (entries_in harts (length es) l)) first.1
          ∙ ap (λ (l : List Event). e ∷ l) later.again_events;
      again_outcomes = ap (λ (x : Entry). x.outcome ∷ outcomes (entries_in harts (length es) (drop width bytes))) back
          ∙ ap (λ (l : List ℕ). o ∷ outcomes (entries_in harts (length es) l)) first.1
          ∙ ap (λ (l : List Outcome). o ∷ l) later.again_outcomes;
    }
