-- A certificate that is spelled has no fault, and its fields say what was spelled.
use Rattle.std.proofs.Common.{◌≡◌, ℕ, zero, suc, ◌+◌, ◌-◌, ◌*◌, ◌≤◌, ◌<◌, false, not, List, [], ◌∷◌, ◌++◌, length, map}
use Rattle.std.proofs.Common.{get_or, take, drop, Option, Some, None, refl, sym, ap, subst, ◌∙◌, append_assoc, arith}
use Rattle.std.specs.List.{flat_map, range_with_len}
use Rattle.std.proofs.lemmas.Bool.Decides.{nat_tests}
use Rattle.std.proofs.lemmas.List.{append-nil, drop-drop, drop_at, get_or-drop, length-append, length-drop, take_at}
use Rattle.std.proofs.lemmas.List.FromFn.{fill_by_all}
use Rattle.byteorder.specs.Endian.{little_bytes}
use Rattle.byteorder.specs.Numbers.{little_number-reads_back}
use Rattle.el_base.specs.Config.{within}
use Rattle.el_base.specs.HartId.{hart_id}
use Rattle.el_base.specs.LineAddr.{line_addr}
use Rattle.el_base.specs.declared.hart_id.TheConstants.{MAX_HARTS}
use Rattle.el_base.proofs.Laws.Options.{both_none}
use Rattle.file_numbers.specs.Numbers.{number_at}
use Rattle.rv_alu.specs.declared.view.HartStatus.{HartStatus}
use Rattle.rv_alu.specs.declared.view.HartStatus.TheVariants.{Running, Exited, Trapped}
use Rattle.rv_alu.specs.declared.view.HartView.{HartView}
use Rattle.rv_flat.specs.FlatState.{no_hart, output_limit}
use Rattle.run_check.specs.declared.content.Patch.{Patch}
use Rattle.run_check.specs.declared.content.Stretch.{Stretch}
use Rattle.run_check.specs.declared.fault.FaultKind.TheVariants as kinds
use Rattle.run_check.specs.Content.{Content}
use Rattle.run_check.specs.Faults.{certificate_fault, content_of, count_at, hart_at, harts_of, head_fault, line_at}
use Rattle.run_check.specs.Faults.{line_count, line_fault, line_place, lines_place, output_length}
use Rattle.run_check.specs.Faults.{output_place, patch_at, register_at, registers_at, reserved_at, status_at}
use Rattle.run_check.specs.Faults.{stretch_at, stretch_count, stretch_fault, stretch_place, view_at, view_fault}
use Rattle.run_check.specs.Faults.{view_place, view_wrong}
use Rattle.run_check.specs.Rules.{count_wrong, most_lines, most_steps, reservation_wrong, status_wrong, steps_before}
use Rattle.run_check.specs.Spelling.{count_in, hart_in, line_in, lines_bytes, output_bytes, patch_bytes, patch_in}
use Rattle.run_check.specs.Spelling.{reserved_bytes, spelling, status_bytes, stretch_bytes, view_bytes, IsCertificate}
use Rattle.run_check.specs.Spelling.{IsReserved, IsStatus, IsView}
use Rattle.file_numbers.proofs.Laws.Fields.{field_passes}
use Rattle.run_check.proofs.FieldFaults.{line_count_passes, line_passes, output_passes}
use Rattle.run_check.proofs.FieldFaults.{right_passes, stretch_passes, tail_passes, view_passes}
use Rattle.run_check.proofs.FirstBelow.{each_none}
use Rattle.run_check.proofs.Items.{patch_is, stretch_is}
use Rattle.run_check.proofs.Pieces.{behind_all, item_behind, register_behind}
use Rattle.run_check.proofs.RulesSame.{line_below, same_count_rule, same_hart_rule, same_line_rule}

-- ---- what stands at a place

-- these bytes stand at a place of the file, and others may follow
pub record BytesAt (file : List ℕ) (place : ℕ) (bytes : List ℕ) : Type 0 where
  pub rest : List ℕ
  pub is : drop place file ≡ bytes ++ rest

byte_of : {file : List ℕ} {place byte : ℕ} {more : List ℕ} → BytesAt file place (byte ∷ more) →
    get_or file place 0 ≡ byte
byte_of {file} {place} {byte} {more} s =
    let here : place + 0 ≡ place = omega arith in
    ap (λ (n : ℕ). get_or file n 0) (sym here) ∙ sym (get_or-drop place file 0 0)
    ∙ ap (λ (l : List ℕ). get_or l 0 0) s.is

number_of : {file : List ℕ} {place n : ℕ} {more : List ℕ} → BytesAt file place (little_bytes 4 n ++ more) →
    n < 4294967296 → number_at file place ≡ n
number_of {file} {place} {n} {more} s small =
    ap (λ (l : List ℕ). number_at l 0) (s.is ∙ append_assoc (little_bytes 4 n) more s.rest)
    ∙ little_number-reads_back 4 n (more ++ s.rest) small

-- what stands behind a part of so many bytes
behind : {file : List ℕ} {place : ℕ} (first more : List ℕ) (len end : ℕ) → BytesAt file place (first ++ more) →
    length first ≡ len → place + len ≡ end → BytesAt file end more
behind {file} {place} first more len end s long is = record {
  rest = s.rest;
  is =
      ap (λ (n : ℕ). drop n file) (sym is)
      ∙ sym (drop-drop len place file)
      ∙ ap (drop len) (s.is ∙ append_assoc first more s.rest)
      ∙ drop_at first (more ++ s.rest) len long;
}

-- some bytes that stand at a place are inside of the file
inside : {file : List ℕ} {place : ℕ} {bytes : List ℕ} → BytesAt file place bytes → 1 ≤ length bytes →
    place + length bytes ≤ length file
inside {file} {place} {bytes} s some =
    let long : length file - place ≡ length bytes + length s.rest =
    sym (length-drop place file) ∙ ap length s.is ∙ length-append bytes s.rest
    in
    omega arith

four : (n : ℕ) → length (little_bytes 4 n) ≡ 4
four n = refl

-- ---- the parts of a spelling

abbrev lines_part : Content → List ℕ
lines_part c = lines_bytes c.lines

abbrev output_part : Content → List ℕ
output_part c = output_bytes c.output ++ lines_part c

abbrev views_part : Content → List ℕ
views_part c = flat_map view_bytes c.views ++ output_part c

abbrev stretches_part : Content → List ℕ
stretches_part c = flat_map stretch_bytes c.stretches ++ views_part c

count_right : (count : ℕ → ℕ) (k : ℕ) → count_wrong count k ≡ false →
    (1 ≤ count k) × (steps_before count k + count k ≤ most_steps)
count_right count k right = grind (arith, nat_tests)

each_has_one : (count : ℕ → ℕ) (n : ℕ) → ((k : ℕ) → k < n → count_wrong count k ≡ false) →
    (n ≤ steps_before count n) × (steps_before count n ≤ most_steps)
each_has_one count zero each = (omega arith, omega arith)
each_has_one count (suc n) each =
    let before = each_has_one count n (λ k within. each k (omega arith)) in
    let last = count_right count n (each n (omega arith)) in
    (omega (arith, before.0, last.0), last.1)

-- the counts of a certificate fit four bytes
pub record Small (c : Content) : Type 0 where
  pub stretches : length c.stretches ≤ most_steps
  pub output : length c.output ≤ output_limit
  pub lines : length c.lines ≤ most_lines

pub small_of : (c : Content) → IsCertificate c → Small c
small_of c is =
    let e = each_has_one (count_in c.stretches) (length c.stretches) is.counts in
    record { stretches = omega (arith, e.0, e.1); output = is.output; lines = is.few_lines }

-- where things stand in a spelling
pub record SpelledPlaces (c : Content) (file : List ℕ) : Type 0 where
  pub harts : harts_of file ≡ c.harts
  pub count : stretch_count file ≡ length c.stretches
  pub stretches : drop 10 file ≡ stretches_part c
  pub long : 10 ≤ length file
  pub views : drop (view_place file 0) file ≡ views_part c
  pub output : drop (output_place file) file ≡ output_part c
  pub output_is : output_length file ≡ length c.output
  pub lines : drop (lines_place file) file ≡ lines_part c
  pub lines_are : line_count file ≡ length c.lines

stretch_size : (c : Content) → (i : ℕ) → i < length c.stretches →
    length (stretch_bytes (get_or c.stretches i (record { hart = hart_id 0; count = 0 }))) ≡ 5
stretch_size c i within = refl

status_size : (status : HartStatus) → length (status_bytes status) ≡ 5
status_size Running = refl
status_size (Exited code) = refl
status_size (Trapped cause pc) = refl

reserved_size : (reserved : Option ℕ) → length (reserved_bytes reserved) ≡ 5
reserved_size None = refl
reserved_size (Some word) = refl

words_size : (words : List ℕ) → length (flat_map (little_bytes 4) words) ≡ 4 * length words
words_size [] = refl
words_size (word ∷ words) =
    omega (arith, length-append (little_bytes 4 word) (flat_map (little_bytes 4) words), words_size words)

view_size : (view : HartView) → IsView view → length (view_bytes view) ≡ 138
view_size view is =
    let ends = reserved_bytes view.reserved ++ status_bytes view.status in
    let words = flat_map (little_bytes 4) (drop 1 view.regs) in
    omega (
      arith,
      length-append (little_bytes 4 view.pc) (words ++ ends),
      length-append words ends,
      length-append (reserved_bytes view.reserved) (status_bytes view.status),
      words_size (drop 1 view.regs),
      length-drop 1 view.regs,
      is.registers,
      reserved_size view.reserved,
      status_size view.status,
    )

patch_size : (c : Content) → IsCertificate c → (i : ℕ) → i < length c.lines →
    length (patch_bytes (patch_in c.lines i)) ≡ 68
patch_size c is i within =
    omega (
      arith,
      length-append (little_bytes 4 (patch_in c.lines i).line.number) (patch_in c.lines i).bytes,
      is.line_bytes i within,
    )

parts : (c : Content) → IsCertificate c → SpelledPlaces c (spelling c)
parts c is =
    let file = spelling c in
    let small = small_of c is in
    let few = small.stretches in
    let written = small.output in
    let changed = small.lines in
    let s-count : BytesAt file 6 (little_bytes 4 (length c.stretches) ++ stretches_part c) =
    record { rest = []; is = sym (append-nil _) } in
    let count : stretch_count file ≡ length c.stretches = number_of s-count (omega arith) in
    let v-place : 10 + 5 * length c.stretches ≡ view_place file 0 = omega (arith, count) in
    let views : drop (view_place file 0) file ≡ views_part c =
    ap (λ (n : ℕ). drop n file) (sym v-place)
    ∙ sym (drop-drop (5 * length c.stretches) 10 file)
    ∙ behind_all stretch_bytes 5 c.stretches (views_part c) (record { hart = hart_id 0; count = 0 }) (stretch_size c)
    in
    let o-place : view_place file 0 + 138 * length c.views ≡ output_place file = omega (arith, is.one_view_each) in
    let output : drop (output_place file) file ≡ output_part c =
    ap (λ (n : ℕ). drop n file) (sym o-place)
    ∙ sym (drop-drop (138 * length c.views) (view_place file 0) file)
    ∙ ap (drop (138 * length c.views)) views
    ∙ behind_all view_bytes 138 c.views (output_part c) no_hart
    (λ i within. view_size (get_or c.views i no_hart) (is.views i within))
    in
    let s-output : BytesAt file (output_place file) (little_bytes 4 (length c.output) ++ (c.output ++ lines_part c)) =
    record {
      rest = [];
      is =
          output ∙ append_assoc (little_bytes 4 (length c.output)) c.output (lines_part c) ∙ sym (append-nil _);
    }
    in
    let output-is : output_length file ≡ length c.output = number_of s-output (omega arith) in
    let o-long : length (output_bytes c.output) ≡ 4 + length c.output =
    length-append (little_bytes 4 (length c.output)) c.output in
    let l-place : output_place file + (4 + length c.output) ≡ lines_place file = omega (arith, output-is) in
    let lines : drop (lines_place file) file ≡ lines_part c =
    ap (λ (n : ℕ). drop n file) (sym l-place)
    ∙ sym (drop-drop (4 + length c.output) (output_place file) file)
    ∙ ap (drop (4 + length c.output)) output
    ∙ drop_at (output_bytes c.output) (lines_part c) (4 + length c.output) o-long
    in
    let s-lines : BytesAt file (lines_place file) (little_bytes 4 (length c.lines) ++ flat_map patch_bytes c.lines) =
    record { rest = []; is = lines ∙ sym (append-nil _) }
    in
    record {
      harts = refl;
      count = count;
      stretches = refl;
      long = omega arith;
      views = views;
      output = output;
      output_is = output-is;
      lines = lines;
      lines_are = number_of s-lines (omega arith);
    }

-- ---- each item is read as what it is

stretch_stands : (c : Content) (k : ℕ) → k < length c.stretches →
    BytesAt (spelling c) (stretch_place k) (stretch_bytes
    (get_or c.stretches k (record { hart = hart_id 0; count = 0 })))
stretch_stands c k within = record {
  rest = flat_map stretch_bytes (drop (suc k) c.stretches) ++ views_part c;
  is =
      sym (drop-drop (5 * k) 10 (spelling c))
      ∙ item_behind stretch_bytes 5 c.stretches (views_part c) k (record { hart = hart_id 0; count = 0 })
      (stretch_size c) within;
}

view_stands : (c : Content) → IsCertificate c → SpelledPlaces c (spelling c) → (k : ℕ) → k < length c.views →
    BytesAt (spelling c) (view_place (spelling c) k) (view_bytes (get_or c.views k no_hart))
view_stands c is p k within = record {
  rest = flat_map view_bytes (drop (suc k) c.views) ++ output_part c;
  is =
      (let there : view_place (spelling c) 0 + 138 * k ≡ view_place (spelling c) k =
      omega arith in ap (λ (n : ℕ). drop n (spelling c)) (sym there))
      ∙ sym (drop-drop (138 * k) (view_place (spelling c) 0) (spelling c))
      ∙ ap (drop (138 * k)) p.views
      ∙ item_behind view_bytes 138 c.views (output_part c) k no_hart
      (λ i low. view_size (get_or c.views i no_hart) (is.views i low)) within;
}

line_stands : (c : Content) → IsCertificate c → SpelledPlaces c (spelling c) → (k : ℕ) → k < length c.lines →
    BytesAt (spelling c) (line_place (lines_place (spelling c)) k) (patch_bytes (patch_in c.lines k))
line_stands c is p k within =
    let file = spelling c in
    let place = lines_place file in
    let behind-count : drop (place + 4) file ≡ flat_map patch_bytes c.lines =
    sym (drop-drop 4 place file) ∙ ap (drop 4) p.lines
    in
    record {
      rest = flat_map patch_bytes (drop (suc k) c.lines) ++ [];
      is =
          sym (drop-drop (68 * k) (place + 4) file)
          ∙ ap (drop (68 * k)) (behind-count ∙ sym (append-nil _))
          ∙ item_behind patch_bytes 68 c.lines [] k (record { line = line_addr 0; bytes = [] })
          (patch_size c is) within;
    }

hart_is : (c : Content) (k : ℕ) → k < length c.stretches → hart_at (spelling c) k ≡ hart_in c.stretches k
hart_is c k within = byte_of (stretch_stands c k within)

count_is : (c : Content) → IsCertificate c → (k : ℕ) → k < length c.stretches →
    count_at (spelling c) k ≡ count_in c.stretches k
count_is c is k within =
    let s = stretch_stands c k within in
    let count = count_in c.stretches k in
    let few = (count_right (count_in c.stretches) k (is.counts k within)).1 in
    let here : BytesAt (spelling c) (stretch_place k + 1) (little_bytes 4 count ++ []) =
    behind (hart_in c.stretches k ∷ []) (little_bytes 4 count ++ []) 1 (stretch_place k + 1)
    (record {
      rest = s.rest;
      is =
          s.is ∙ ap (λ (l : List ℕ). (hart_in c.stretches k ∷ l) ++ s.rest) (sym (append-nil (little_bytes 4 count)));
    })
    refl refl
    in
    number_of here (omega arith)

line_is : (c : Content) → IsCertificate c → SpelledPlaces c (spelling c) → (k : ℕ) → k < length c.lines →
    line_at (spelling c) (lines_place (spelling c)) k ≡ line_in c.lines k
line_is c is p k within =
    let low = line_below (line_in c.lines) k (is.lines k within) in
    number_of (line_stands c is p k within) (omega arith)

line_bytes_are : (c : Content) → IsCertificate c → SpelledPlaces c (spelling c) → (k : ℕ) → k < length c.lines →
    take 64 (drop (line_place (lines_place (spelling c)) k + 4) (spelling c)) ≡ (patch_in c.lines k).bytes
line_bytes_are c is p k within =
    let place = line_place (lines_place (spelling c)) k in
    let patch = patch_in c.lines k in
    let s =
    behind (little_bytes 4 patch.line.number) patch.bytes 4 (place + 4) (line_stands c is p k within) refl refl in
    ap (take 64) s.is ∙ take_at patch.bytes s.rest 64 (is.line_bytes k within)

-- ---- a view

-- the parts of a view that stands at a place
record ViewStands (file : List ℕ) (place : ℕ) (view : HartView) : Type 0 where
  pc : BytesAt file place (little_bytes 4 view.pc ++ [])
  words : BytesAt file (place + 4) (flat_map (little_bytes 4) (drop 1 view.regs))
  reserved : BytesAt file (place + 128) (reserved_bytes view.reserved)
  status : BytesAt file (place + 133) (status_bytes view.status)

front : {file : List ℕ} {place : ℕ} (first more : List ℕ) → BytesAt file place (first ++ more) →
    BytesAt file place first
front first more s = record { rest = more ++ s.rest; is = s.is ∙ append_assoc first more s.rest }

view_parts : (file : List ℕ) (place : ℕ) (view : HartView) → IsView view → BytesAt file place (view_bytes view) →
    ViewStands file place view
view_parts file place view is s =
    let words = flat_map (little_bytes 4) (drop 1 view.regs) in
    let ends = reserved_bytes view.reserved ++ status_bytes view.status in
    let many : length words ≡ 124 =
    omega (arith, words_size (drop 1 view.regs), length-drop 1 view.regs, is.registers) in
    let s1 = behind (little_bytes 4 view.pc) (words ++ ends) 4 (place + 4) s refl refl in
    let s2 = behind words ends 124 (place + 128) s1 many (omega arith) in
    let s3 =
    behind (reserved_bytes view.reserved) (status_bytes view.status) 5 (place + 133) s2
    (reserved_size view.reserved) (omega arith) in
    let pc = front (little_bytes 4 view.pc) (words ++ ends) s in
    record {
      pc =
          record {
            rest = pc.rest;
            is =
                pc.is ∙ ap (λ (l : List ℕ). l ++ pc.rest) (sym (append-nil (little_bytes 4 view.pc)));
          };
      words = front words ends s1;
      reserved = front (reserved_bytes view.reserved) (status_bytes view.status) s2;
      status = s3;
    }

word_is : (file : List ℕ) (place : ℕ) (words : List ℕ) (k : ℕ) → BytesAt file place (flat_map (little_bytes 4) words) →
    k < length words → get_or words k 0 < 4294967296 → number_at file (place + 4 * k) ≡ get_or words k 0
word_is file place words k s within small =
    let here : BytesAt file (place + 4 * k) (little_bytes 4 (get_or words k 0)
    ++ (flat_map (little_bytes 4) (drop (suc k) words) ++ s.rest)) = record {
      rest = [];
      is =
          sym (drop-drop (4 * k) place file)
          ∙ ap (drop (4 * k)) s.is
          ∙ item_behind (little_bytes 4) 4 words s.rest k 0 (λ i low. refl) within
          ∙ sym (append-nil _);
    } in
    number_of here small

register_is : (file : List ℕ) (place : ℕ) (view : HartView) → IsView view → ViewStands file place view →
    (register : ℕ) → register < 32 → get_or view.regs register 0 ≡ register_at file place register
register_is file place view is s zero low = is.zero_is_0
register_is file place view is s (suc k) low =
    let shifted : get_or (drop 1 view.regs) k 0 ≡ get_or view.regs (suc k) 0 =
    get_or-drop 1 view.regs k 0 ∙ (let e : 1 + k ≡ suc k = omega arith in ap (λ (n : ℕ). get_or view.regs n 0) e)
    in
    let small : get_or (drop 1 view.regs) k 0 < 4294967296 = rw shifted (is.words (suc k)) in
    let read =
    word_is file (place + 4) (drop 1 view.regs) k s.words
    (omega (arith, length-drop 1 view.regs, is.registers)) small in
    let there : place + 4 + 4 * k ≡ place + 4 * suc k = omega arith in
    sym shifted ∙ sym read ∙ ap (number_at file) there ∙ sym (register_behind file place k)

-- a flag and a word
record FlagAndWord (file : List ℕ) (place next first number : ℕ) : Type 0 where
  flag : get_or file place 0 ≡ first
  word : number_at file next ≡ number

flag_and_word : (file : List ℕ) (place next flag word : ℕ) → place + 1 ≡ next →
    BytesAt file place (flag ∷ little_bytes 4 word) → word < 4294967296 → FlagAndWord file place next flag word
flag_and_word file place next flag word is s small = record {
  flag = byte_of s;
  word =
      number_of
      (behind (flag ∷ []) (little_bytes 4 word ++ []) 1 next
      (record {
        rest = s.rest;
        is =
            s.is ∙ ap (λ (l : List ℕ). (flag ∷ l) ++ s.rest) (sym (append-nil (little_bytes 4 word)));
      })
      refl is)
      small;
}

reserved_is : (file : List ℕ) (place next : ℕ) (reserved : Option ℕ) → place + 1 ≡ next → IsReserved reserved →
    BytesAt file place (reserved_bytes reserved) → (reserved_at (get_or file place 0) (number_at file next) ≡ reserved)
    × (reservation_wrong (get_or file place 0) (number_at file next) ≡ false)
reserved_is file place next None there is s =
    let e = flag_and_word file place next 0 0 there s (omega arith) in
    rw (e.flag, e.word) (refl, refl)
reserved_is file place next (Some word) there is s =
    let e = flag_and_word file place next 1 word there s is in
    rw (e.flag, e.word) (refl, refl)

status_is : (file : List ℕ) (place next pc : ℕ) (status : HartStatus) → place + 1 ≡ next → IsStatus pc status →
    BytesAt file place (status_bytes status) → (status_at (get_or file place 0) (number_at file next) pc ≡ status)
    × (status_wrong (get_or file place 0) (number_at file next) ≡ false)
status_is file place next pc Running there is s =
    let e = flag_and_word file place next 0 0 there s (omega arith) in
    rw (e.flag, e.word) (refl, refl)
status_is file place next pc (Exited code) there is s =
    let e = flag_and_word file place next 1 code there s is in
    rw (e.flag, e.word) (refl, refl)
status_is file place next pc (Trapped cause at) there is s =
    let small : cause < 256 = is.0 in
    let e = flag_and_word file place next 2 cause there s (omega arith) in
    let right : status_wrong 2 cause ≡ false = grind (arith, nat_tests) in
    rw (e.flag, e.word) (ap (Trapped cause) (sym is.1), right)

abbrev view_of_parts : ℕ → List ℕ → Option ℕ → HartStatus → HartView
view_of_parts pc regs reserved status = record { pc = pc; regs = regs; reserved = reserved; status = status }

view_is : (file : List ℕ) (place : ℕ) (view : HartView) → IsView view → BytesAt file place (view_bytes view) →
    (view_at file place ≡ view) × (view_wrong file place ≡ false)
unfolding view_at
view_is file place view is s =
    let p = view_parts file place view is s in
    let pc : number_at file place ≡ view.pc = number_of p.pc is.pc in
    let regs : registers_at file place ≡ view.regs =
    sym (fill_by_all (register_at file place) view.regs 32 0 is.registers (register_is file place view is p))
    in
    let next : place + 128 + 1 ≡ place + 129 = omega arith in
    let next' : place + 133 + 1 ≡ place + 134 = omega arith in
    let reserved = reserved_is file (place + 128) (place + 129) view.reserved next is.reserved p.reserved in
    let status = status_is file (place + 133) (place + 134) view.pc view.status next' is.status p.status in
    let status-is : status_at (get_or file (place + 133) 0) (number_at file (place + 134)) (number_at file place)
    ≡ view.status =
    ap (status_at (get_or file (place + 133) 0) (number_at file (place + 134))) pc ∙ status.0
    in
    let r = reserved_at (get_or file (place + 128) 0) (number_at file (place + 129)) in
    let t = status_at (get_or file (place + 133) 0) (number_at file (place + 134)) (number_at file place) in (
      ap (λ x. view_of_parts x (registers_at file place) r t) pc
          ∙ ap (λ x. view_of_parts view.pc x r t) regs
          ∙ ap (λ x. view_of_parts view.pc view.regs x t) reserved.0
          ∙ ap (λ x. view_of_parts view.pc view.regs view.reserved x) status-is,
      rw (reserved.1, status.1) refl,
    )

-- ---- no fault

not_out : (n : ℕ) → 1 ≤ n → n ≤ 8 → not (within 1 MAX_HARTS n) ≡ false
not_out n some few = grind (arith, nat_tests)

head_passes : (c : Content) → IsCertificate c → SpelledPlaces c (spelling c) → head_fault (spelling c) ≡ None
unfolding head_fault
head_passes c is p =
    let file = spelling c in
    let long = p.long in
    both_none _ _ (field_passes _ file 4 _ (omega arith) refl)
    (both_none _ _ (field_passes _ file 5 _ (omega arith) refl)
    (both_none _ _ (right_passes file 6 (not (within 1 MAX_HARTS (harts_of file))) kinds.Harts 5 (omega arith)
    (not_out c.harts is.some_hart is.few_harts))
    (both_none _ None (field_passes _ file 10 None (omega arith) refl) refl)))

stretch_passes_in : (c : Content) → IsCertificate c → (k : ℕ) → k < length c.stretches →
    stretch_fault (spelling c) c.harts k ≡ None
stretch_passes_in c is k within =
    let file = spelling c in
    stretch_passes file c.harts k (record {
      hart =
          same_hart_rule c.harts (hart_at file) (hart_in c.stretches) k (hart_is c k within)
          (hart_is c (k - 1) (omega arith))
          ∙ is.harts k within;
      count =
          same_count_rule (count_at file) (count_in c.stretches) k (λ j low. count_is c is j (omega arith))
          ∙ is.counts k within;
      whole = inside (stretch_stands c k within) (omega arith);
    })

view_passes_in : (c : Content) → IsCertificate c → SpelledPlaces c (spelling c) → (k : ℕ) → k < c.harts →
    view_fault (spelling c) (view_place (spelling c) 0) k ≡ None
view_passes_in c is p k within =
    let file = spelling c in
    let low : k < length c.views = omega (arith, is.one_view_each) in
    let view = get_or c.views k no_hart in
    let there : view_place file k ≡ view_place file 0 + 138 * k = omega arith in
    let stands = view_stands c is p k low in
    let size = view_size view (is.views k low) in
    let whole : view_place file k + 138 ≤ length file = omega (arith, inside stands (omega (arith, size)), size) in
    let right = (view_is file (view_place file k) view (is.views k low) stands).1 in
    view_passes file (view_place file 0) k (omega arith) (subst (λ n. view_wrong file n ≡ false) there right)

line_passes_in : (c : Content) → IsCertificate c → SpelledPlaces c (spelling c) → (k : ℕ) → k < length c.lines →
    line_fault (spelling c) (lines_place (spelling c)) k ≡ None
line_passes_in c is p k within =
    let file = spelling c in
    let size = patch_size c is k within in
    let stands = line_stands c is p k within in
    line_passes file (lines_place file) k (record {
      number =
          same_line_rule (line_at file (lines_place file)) (line_in c.lines) k (line_is c is p k within)
          (line_is c is p (k - 1) (omega arith))
          ∙ is.lines k within;
      whole = omega (arith, inside stands (omega (arith, size)), size);
    })

ends : (c : Content) → IsCertificate c → SpelledPlaces c (spelling c) →
    length (spelling c) ≤ line_place (lines_place (spelling c)) (length c.lines)
ends c is p =
    let file = spelling c in
    let place = lines_place file in
    let over : drop (place + 4 + 68 * length c.lines) file ≡ [] =
    sym (drop-drop (68 * length c.lines) (place + 4) file)
    ∙ ap (drop (68 * length c.lines)) (sym (drop-drop 4 place file) ∙ ap (drop 4) p.lines ∙ sym (append-nil _))
    ∙ behind_all patch_bytes 68 c.lines [] (record { line = line_addr 0; bytes = [] }) (patch_size c is)
    in
    omega (arith, length-drop (place + 4 + 68 * length c.lines) file, ap length over)

no_fault : (c : Content) → IsCertificate c → SpelledPlaces c (spelling c) → certificate_fault (spelling c) ≡ None
unfolding certificate_fault
no_fault c is p =
    let file = spelling c in
    let few = is.output in
    let o-is = p.output_is in
    let o-stands : BytesAt file (output_place file) (output_part c) =
    record { rest = []; is = p.output ∙ sym (append-nil _) } in
    let o-front = front (output_bytes c.output) (lines_part c) o-stands in
    let o-whole : output_place file + 4 + length c.output ≤ length file =
    omega (
      arith,
      inside o-front (omega (arith, length-append (little_bytes 4 (length c.output)) c.output)),
      length-append (little_bytes 4 (length c.output)) c.output,
    )
    in
    let l-stands : BytesAt file (lines_place file) (little_bytes 4 (length c.lines) ++ flat_map patch_bytes c.lines) =
    record { rest = []; is = p.lines ∙ sym (append-nil _) } in
    let l-whole =
    inside (front (little_bytes 4 (length c.lines)) (flat_map patch_bytes c.lines) l-stands) (omega arith) in
    let l-few : number_at file (lines_place file) ≤ most_lines = rw p.lines_are is.few_lines in
    both_none _ _ (head_passes c is p)
    (both_none _ _ (rw p.count (each_none (length c.stretches) (stretch_fault file c.harts)
    (λ k low. stretch_passes_in c is k low)))
    (both_none _ _ (each_none c.harts (view_fault file (view_place file 0)) (λ k low. view_passes_in c is p k low))
    (both_none _ _ (output_passes file (output_place file) (length c.output) p.output_is is.output o-whole)
    (both_none _ _ (line_count_passes file (lines_place file) l-few l-whole)
    (both_none _ _ (rw p.lines_are (each_none (length c.lines) (line_fault file (lines_place file))
    (λ k low. line_passes_in c is p k low)))
    (both_none _ None (tail_passes file _ (rw p.lines_are (ends c is p))) refl))))))

-- ---- what was spelled is read

abbrev content_from : ℕ → List Stretch → List HartView → List ℕ → List Patch → Content
content_from harts stretches views output lines =
    record { harts = harts; stretches = stretches; views = views; output = output; lines = lines }

read_is : (c : Content) → IsCertificate c → SpelledPlaces c (spelling c) → content_of (spelling c) ≡ c
unfolding content_of
read_is c is p =
    let file = spelling c in
    let stretches : map (stretch_at file) (range_with_len 0 (stretch_count file)) ≡ c.stretches =
    ap (λ n. map (stretch_at file) (range_with_len 0 n)) p.count
    ∙ sym (fill_by_all (stretch_at file) c.stretches (length c.stretches) (record { hart = hart_id 0; count = 0 }) refl
    (λ k low.
    let s = get_or c.stretches k (record { hart = hart_id 0; count = 0 }) in
    stretch_is s.hart (hart_at file k) s.count (count_at file k) (sym (hart_is c k low)) (sym (count_is c is k low))))
    in
    let views : map (λ hart. view_at file (view_place file hart)) (range_with_len 0 c.harts) ≡ c.views =
    sym (fill_by_all (λ hart. view_at file (view_place file hart)) c.views c.harts no_hart is.one_view_each
    (λ k low.
    let inside : k < length c.views = omega (arith, is.one_view_each) in
    sym (view_is file (view_place file k) (get_or c.views k no_hart) (is.views k inside)
    (view_stands c is p k inside)).0))
    in
    let output : take (output_length file) (drop (output_place file + 4) file) ≡ c.output =
    ap (λ n. take n (drop (output_place file + 4) file)) p.output_is
    ∙ ap (take (length c.output)) (sym (drop-drop 4 (output_place file) file) ∙ ap (drop 4) p.output)
    ∙ take_at c.output (lines_part c) (length c.output) refl
    in
    let lines : map (patch_at file (lines_place file)) (range_with_len 0 (line_count file)) ≡ c.lines =
    ap (λ n. map (patch_at file (lines_place file)) (range_with_len 0 n)) p.lines_are
    ∙ sym (fill_by_all (patch_at file (lines_place file)) c.lines (length c.lines)
    (record { line = line_addr 0; bytes = [] }) refl
    (λ k low.
    let patch = patch_in c.lines k in
    patch_is patch.line (line_at file (lines_place file) k) patch.bytes _ (sym (line_is c is p k low))
    (sym (line_bytes_are c is p k low))))
    in
    let v = map (λ hart. view_at file (view_place file hart)) (range_with_len 0 c.harts) in
    let o = take (output_length file) (drop (output_place file + 4) file) in
    let l = map (patch_at file (lines_place file)) (range_with_len 0 (line_count file)) in
    ap (λ x. content_from c.harts x v o l) stretches
    ∙ ap (λ x. content_from c.harts c.stretches x o l) views
    ∙ ap (λ x. content_from c.harts c.stretches c.views x l) output
    ∙ ap (λ x. content_from c.harts c.stretches c.views c.output x) lines

pub spelled : (c : Content) → IsCertificate c → (certificate_fault (spelling c) ≡ None) × (content_of (spelling c) ≡ c)
spelled c is = let p = parts c is in (no_fault c is p, read_is c is p)

pub one_spelling : (c d : Content) → IsCertificate c → IsCertificate d → spelling c ≡ spelling d → c ≡ d
one_spelling c d is is' same = sym (spelled c is).1 ∙ ap content_of same ∙ (spelled d is').1
