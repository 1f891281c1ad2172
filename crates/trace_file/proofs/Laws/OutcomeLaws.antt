-- Outcomes and the bytes that spell them.
use Rattle.std.proofs.Common.{◌≡◌, ℕ, zero, suc, ◌+◌, ◌/◌, ◌%◌, ◌≤◌, ◌<◌, ◌^◌, true, List, [], ◌∷◌, ◌++◌, length}
use Rattle.std.proofs.Common.{get_or, drop, None, refl, sym, ap}
use Rattle.std.proofs.Common.{◌∙◌, append_assoc, arith, IsTrue}
use Rattle.std.proofs.lemmas.Bool.{leb-true}
use Rattle.std.proofs.lemmas.Bool.Decides.{nat_tests}
use Rattle.std.proofs.lemmas.List.{drop-drop, take-append-drop}
use Rattle.std.proofs.Math.Seq.{drop-cons}
use Rattle.byteorder.specs.Endian.{little_bytes, little_number}
use Rattle.byteorder.specs.Numbers.{little_number-reads_back}
use Rattle.el_base.specs.Config.{within}
use Rattle.el_base.specs.HartId.{hart_id}
use Rattle.el_base.specs.LineAddr.{line_addr}
use Rattle.el_base.specs.Recordable.{IsRecordable, most_let_go}
use Rattle.el_base.specs.declared.freed.Freed.{Freed}
use Rattle.el_base.specs.declared.hart_id.HartId.{HartId}
use Rattle.el_base.specs.declared.losers.Losers.{Losers}
use Rattle.el_base.specs.declared.outcomes.Cause.{Cause}
use Rattle.el_base.specs.declared.outcomes.Cause.TheVariants.{Room, Lines, Long, Call, Mixed}
use Rattle.el_base.specs.declared.outcomes.Need.TheVariants.{Read, Write}
use Rattle.el_base.specs.declared.outcomes.Outcome.{Outcome}
use Rattle.el_base.specs.declared.outcomes.Outcome.TheVariants.{Idle, Stalled, Missed, Ran, Began, Buffered, Committed}
use Rattle.el_base.specs.declared.outcomes.Outcome.TheVariants.{RolledBack, Ordered, Served}
use Rattle.el_base.specs.declared.outcomes.Outcome.TheVariants.{Blocked, Delivered, Armed, LetGo}
use Rattle.el_base.specs.declared.outcomes.Why.{Why}
use Rattle.el_base.specs.declared.outcomes.Why.TheVariants.{Behind, Retained, Locked}
use Rattle.el_base.proofs.Laws.HartIds.{hart_id-number, hart_id-of_hart}
use Rattle.el_base.proofs.Laws.Lines.{line_addr-number, line_addr-of_line}
use Rattle.el_base.proofs.Laws.ListLaws.{four_in_front}
use Rattle.file_numbers.specs.Numbers.{IsBytes}
use Rattle.file_numbers.proofs.Laws.Numbers.{bytes_behind, four_bytes}
use Rattle.trace_file.specs.Codes.{cause_at, cause_code, why_at, why_code}
use Rattle.trace_file.specs.Faults.{fields_fault}
use Rattle.trace_file.specs.Fields.{byte_field, fields_of, freed_field, is_blocking, is_cause, is_line, losers_field}
use Rattle.trace_file.specs.Fields.{number_field, widths}
use Rattle.trace_file.specs.Outcomes.{blocking_byte, freed_bytes, losers_bytes}
use Rattle.trace_file.specs.Outcomes.{most_committed}
use Rattle.trace_file.specs.Outcomes.{outcome_spelling}
use Rattle.trace_file.specs.Reading.{freed_in, losers_in, outcome_in}
use Rattle.trace_file.proofs.FieldRows.{first_known}
use Rattle.trace_file.proofs.Nibbles.{counts_small, freed_again, freed_below, freed_spelled, losers_again, losers_below}
use Rattle.trace_file.proofs.Nibbles.{losers_spelled, nibbles_small}

-- ---- codes

cause_again : (n : ℕ) → n ≤ 4 → cause_code (cause_at n) ≡ n
unfolding cause_at
cause_again zero small = refl
cause_again (suc zero) small = refl
cause_again (suc (suc zero)) small = refl
cause_again (suc (suc (suc zero))) small = refl
cause_again (suc (suc (suc (suc zero)))) small = refl
cause_again (suc (suc (suc (suc (suc n))))) small = absurd (omega arith)

cause_back : (cause : Cause) → cause_at (cause_code cause) ≡ cause
unfolding cause_at
cause_back Room = refl
cause_back Lines = refl
cause_back Long = refl
cause_back Call = refl
cause_back Mixed = refl

why_again : (n : ℕ) → n ≤ 2 → why_code (why_at n) ≡ n
unfolding why_at
why_again zero small = refl
why_again (suc zero) small = refl
why_again (suc (suc zero)) small = refl
why_again (suc (suc (suc n))) small = absurd (omega arith)

why_back : (why : Why) → why_at (why_code why) ≡ why
unfolding why_at
why_back Behind = refl
why_back Retained = refl
why_back Locked = refl

pub why_small : (why : Why) → why_code why ≤ 2
why_small Behind = omega arith
why_small Retained = omega arith
why_small Locked = omega arith

at_most : (n high : ℕ) → IsTrue (within 1 high n) → (1 ≤ n) × (n ≤ high)
at_most n high passes = grind (arith, nat_tests)

line_small : (n : ℕ) → is_line n ≡ true → n < 2 ^ 26
line_small n passes = grind (arith, nat_tests)

blocking_parts : (harts byte : ℕ) → is_blocking harts byte ≡ true → (byte / 16 ≤ 2) × (byte % 16 < harts)
blocking_parts harts byte passes = grind (arith, nat_tests)

-- ---- what is read spells itself

one_byte : (bytes : List ℕ) (byte : ℕ) → 1 ≤ length bytes → byte ≡ get_or bytes 0 0 → byte ∷ drop 1 bytes ≡ bytes
one_byte bytes byte long is = ap (λ (x : ℕ). x ∷ drop 1 bytes) is ∙ sym (drop-cons bytes 0 0 (omega arith))

four_cells : (cells bytes : List ℕ) → 4 ≤ length bytes →
    cells ≡ get_or bytes 0 0 ∷ get_or bytes 1 0 ∷ get_or bytes 2 0 ∷ get_or bytes 3 0 ∷ [] →
    cells ++ drop 4 bytes ≡ bytes
four_cells cells bytes long are = ap (λ (l : List ℕ). l ++ drop 4 bytes) are ∙ sym (four_in_front bytes long)

both_parts : (lost freed bytes : List ℕ) → lost ++ drop 4 bytes ≡ bytes →
    freed ++ drop 4 (drop 4 bytes) ≡ drop 4 bytes → (lost ++ freed) ++ drop 8 bytes ≡ bytes
both_parts lost freed bytes first second =
    append_assoc lost freed (drop 8 bytes)
    ∙ ap (λ (l : List ℕ). lost ++ (freed ++ l)) (sym (drop-drop 4 4 bytes))
    ∙ ap (λ (l : List ℕ). lost ++ l) second
    ∙ first

abbrev Spells : ℕ → List ℕ → Outcome → List ℕ → Type 0
Spells code bytes outcome rest = outcome_spelling outcome ++ rest ≡ code ∷ bytes

number_spelled : (code n : ℕ) (bytes : List ℕ) → IsBytes bytes → 4 ≤ length bytes → n ≡ little_number 4 bytes →
    code ∷ (little_bytes 4 n ++ drop 4 bytes) ≡ code ∷ bytes
number_spelled code n bytes fits long is =
    ap (λ (l : List ℕ). code ∷ (l ++ drop 4 bytes)) (ap (little_bytes 4) is ∙ sym (four_bytes bytes fits long))
    ∙ ap (λ (l : List ℕ). code ∷ l) (take-append-drop 4 bytes)

-- losers and freed harts, as an order or a serve has them
both_spelled : (harts place : ℕ) (bytes : List ℕ) → harts ≤ 8 → IsBytes bytes →
    fields_fault place bytes (losers_field harts ∷ freed_field harts ∷ []) ≡ None →
    ((losers_bytes (losers_in bytes) ++ freed_bytes (freed_in (drop 4 bytes))) ++ drop 8 bytes ≡ bytes)
    × IsRecordable harts most_committed (Ordered (losers_in bytes) (freed_in (drop 4 bytes)))
both_spelled harts place bytes few fits none =
    let e0 = first_known place bytes (losers_field harts) (freed_field harts ∷ []) none in
    let e1 = first_known (place + 4) (drop 4 bytes) (freed_field harts) [] e0.2 in
    let later = bytes_behind 4 bytes fits in (
      both_parts (losers_bytes (losers_in bytes)) (freed_bytes (freed_in (drop 4 bytes))) bytes
          (four_cells _ bytes e0.0 (losers_spelled bytes fits (nibbles_small harts bytes few e0.1)))
          (four_cells _ (drop 4 bytes) e1.0
          (freed_spelled (drop 4 bytes) later (counts_small harts (drop 4 bytes) e1.1))),
      (losers_below harts bytes e0.1, freed_below harts (drop 4 bytes) e1.1),
    )

pub outcome_spelled : (harts code place : ℕ) (bytes : List ℕ) → code ≤ 14 → harts ≤ 8 → IsBytes bytes →
    fields_fault place bytes (fields_of harts code) ≡ None →
    Spells code bytes (outcome_in code bytes) (drop (widths (fields_of harts code)) bytes)
    × IsRecordable harts most_committed (outcome_in code bytes)
unfolding outcome_in
outcome_spelled harts zero place bytes known few fits none = (refl, tt)
outcome_spelled harts (suc zero) place bytes known few fits none = (refl, tt)
outcome_spelled harts (suc (suc zero)) place bytes known few fits none =
    let e = first_known place bytes (number_field is_line) [] none in (
      number_spelled 2 (line_addr (little_number 4 bytes)).number bytes fits e.0
          (line_addr-number (little_number 4 bytes) (line_small _ e.1)),
      tt,
    )
outcome_spelled harts (suc (suc (suc zero))) place bytes known few fits none =
    let e = first_known place bytes (number_field is_line) [] none in (
      number_spelled 3 (line_addr (little_number 4 bytes)).number bytes fits e.0
          (line_addr-number (little_number 4 bytes) (line_small _ e.1)),
      tt,
    )
outcome_spelled harts (suc (suc (suc (suc zero)))) place bytes known few fits none = (refl, tt)
outcome_spelled harts (suc (suc (suc (suc (suc zero))))) place bytes known few fits none = (refl, tt)
outcome_spelled harts (suc (suc (suc (suc (suc (suc zero)))))) place bytes known few fits none = (refl, tt)
outcome_spelled harts (suc (suc (suc (suc (suc (suc (suc zero))))))) place bytes known few fits none =
    let e = first_known place bytes (number_field (within 1 most_committed)) [] none in
    (number_spelled 7 (little_number 4 bytes) bytes fits e.0 refl, at_most (little_number 4 bytes) most_committed e.1)
outcome_spelled harts (suc (suc (suc (suc (suc (suc (suc (suc zero)))))))) place bytes known few fits none =
    let e = first_known place bytes (byte_field is_cause) [] none in
    let again = cause_again (get_or bytes 0 0) (leb-true (get_or bytes 0 0) 4 e.1) in
    (ap (λ (l : List ℕ). 8 ∷ l) (one_byte bytes (cause_code (cause_at (get_or bytes 0 0))) e.0 again), tt)
outcome_spelled harts (suc (suc (suc (suc (suc (suc (suc (suc (suc zero))))))))) place bytes known few fits none =
    let e = both_spelled harts place bytes few fits none in (ap (λ (l : List ℕ). 9 ∷ l) e.0, e.1)
outcome_spelled harts (suc (suc (suc (suc (suc (suc (suc (suc (suc (suc zero)))))))))) place bytes known few fits none =
    let e = both_spelled harts place bytes few fits none in (ap (λ (l : List ℕ). 10 ∷ l) e.0, e.1)
outcome_spelled harts (suc (suc (suc (suc (suc (suc (suc (suc (suc (suc (suc zero))))))))))) place bytes
    known few fits none =
    let e = first_known place bytes (byte_field (is_blocking harts)) [] none in
    let byte = get_or bytes 0 0 in
    let parts = blocking_parts harts byte e.1 in
    let why = why_again (byte / 16) parts.0 in
    let by = hart_id-number (byte % 16) (omega (arith, parts.1, few)) in
    let again : blocking_byte (why_at (byte / 16)) (hart_id (byte % 16)) ≡ byte = omega (arith, why, by) in
    let below : (hart_id (byte % 16)).number < harts = omega (arith, by, parts.1) in (
      ap (λ (l : List ℕ). 11 ∷ l) (one_byte bytes (blocking_byte (why_at (byte / 16)) (hart_id (byte % 16))) e.0 again),
      below,
    )
outcome_spelled harts (suc (suc (suc (suc (suc (suc (suc (suc (suc (suc (suc (suc zero)))))))))))) place bytes
    known few fits none =
    let e = first_known place bytes (losers_field harts) [] none in
    let lost = losers_spelled bytes fits (nibbles_small harts bytes few e.1) in
    (ap (λ (l : List ℕ). 12 ∷ l) (four_cells _ bytes e.0 lost), losers_below harts bytes e.1)
outcome_spelled harts (suc (suc (suc (suc (suc (suc (suc (suc (suc (suc (suc (suc (suc zero))))))))))))) place bytes
    known few fits none =
    (refl, tt)
outcome_spelled harts (suc (suc (suc (suc (suc (suc (suc (suc (suc (suc (suc (suc (suc (suc zero)))))))))))))) place
    bytes known few fits none =
    let e = first_known place bytes (byte_field (within 1 most_let_go)) [] none in
    let byte = get_or bytes 0 0 in
    let small = fits 0 in
    let same : byte % 256 ≡ byte = omega (arith, small) in
    (ap (λ (l : List ℕ). 14 ∷ l) (one_byte bytes (byte % 256) e.0 same), at_most byte most_let_go e.1)
outcome_spelled harts (suc (suc (suc (suc (suc (suc (suc (suc (suc (suc (suc (suc (suc (suc (suc n))))))))))))))) place
    bytes known few fits none =
    absurd (omega arith)

-- ---- what is spelled is read again

pub number_again : (n : ℕ) (rest : List ℕ) → n < 2 ^ 32 → little_number 4 (little_bytes 4 n ++ rest) ≡ n
number_again n rest small = little_number-reads_back 4 n rest small

pub outcome_back : (harts : ℕ) (outcome : Outcome) (rest : List ℕ) → IsRecordable harts most_committed outcome →
    outcome_in (get_or (outcome_spelling outcome ++ rest) 0 0) (drop 1 (outcome_spelling outcome ++ rest)) ≡ outcome
unfolding outcome_in
outcome_back harts Idle rest known = refl
outcome_back harts Stalled rest known = refl
outcome_back harts (Missed line Read) rest known =
    let low = line.small in
    ap (λ (n : ℕ). Missed (line_addr n) Read) (number_again line.number rest (omega (arith, low)))
    ∙ ap (λ (l : _). Missed l Read) (line_addr-of_line line)
outcome_back harts (Missed line Write) rest known =
    let low = line.small in
    ap (λ (n : ℕ). Missed (line_addr n) Write) (number_again line.number rest (omega (arith, low)))
    ∙ ap (λ (l : _). Missed l Write) (line_addr-of_line line)
outcome_back harts Ran rest known = refl
outcome_back harts Began rest known = refl
outcome_back harts Buffered rest known = refl
outcome_back harts (Committed count) rest known = ap Committed (number_again count rest (omega (arith, known.1)))
outcome_back harts (RolledBack cause) rest known = ap RolledBack (cause_back cause)
outcome_back harts (Ordered losers freed) rest known =
    ap (λ (x : Losers). Ordered x (freed_in (freed_bytes freed ++ rest)))
    (losers_again losers (freed_bytes freed ++ rest))
    ∙ ap (λ (x : Freed). Ordered losers x) (freed_again freed rest)
outcome_back harts (Served losers freed) rest known =
    ap (λ (x : Losers). Served x (freed_in (freed_bytes freed ++ rest)))
    (losers_again losers (freed_bytes freed ++ rest))
    ∙ ap (λ (x : Freed). Served losers x) (freed_again freed rest)
outcome_back harts (Blocked why by) rest known =
    let low = by.small in
    let few = why_small why in
    let high : blocking_byte why by / 16 ≡ why_code why = omega (arith, low, few) in
    let part : blocking_byte why by % 16 ≡ by.number = omega (arith, low, few) in
    ap (λ (n : ℕ). Blocked (why_at n) (hart_id (blocking_byte why by % 16))) high
    ∙ ap (λ (w : Why). Blocked w (hart_id (blocking_byte why by % 16))) (why_back why)
    ∙ ap (λ (n : ℕ). Blocked why (hart_id n)) part
    ∙ ap (λ (h : HartId). Blocked why h) (hart_id-of_hart by)
outcome_back harts (Delivered losers) rest known = ap Delivered (losers_again losers rest)
outcome_back harts Armed rest known = refl
outcome_back harts (LetGo count) rest known =
    let most = known.1 in
    let same : count % 256 ≡ count = omega (arith, most) in
    ap LetGo same
