-- A file without a fault is the spelling of the certificate that its fields say.
use Rattle.std.proofs.Common.{◌≡◌, ℕ, zero, suc, ◌+◌, ◌-◌, ◌*◌, ◌≤◌, ◌<◌, Bool, true, false, cond, List, [], ◌∷◌, ◌++◌}
use Rattle.std.proofs.Common.{length, map, get_or, take, drop, Some, None, refl, sym, ap, ◌∙◌, arith, inl, inr}
use Rattle.std.specs.List.{flat_map, range_with_len}
use Rattle.std.specs.Prelude.{◌==◌}
use Rattle.std.proofs.lemmas.Bool.{cases_lt, or_parts}
use Rattle.std.proofs.lemmas.Bool.Decides.{nat_tests}
use Rattle.std.proofs.lemmas.List.{append-nil, drop_all, get_or_past, length-take-le, length-drop}
use Rattle.std.proofs.lemmas.List.FromFn.{fill_by_all, get_or-map-range_with_len, length-map-range_with_len}
use Rattle.byteorder.specs.Endian.{little_bytes}
use Rattle.el_base.proofs.Laws.HartIds.{hart_id-number}
use Rattle.el_base.proofs.Laws.Lines.{line_addr-number}
use Rattle.el_base.proofs.Laws.Options.{or_none}
use Rattle.el_base.specs.Firsts.{first_of}
use Rattle.file_numbers.specs.Numbers.{IsBytes, number_at}
use Rattle.file_numbers.proofs.Laws.Numbers.{number_piece, number_small}
use Rattle.rv_flat.specs.FlatState.{no_hart, output_limit}
use Rattle.run_check.specs.declared.content.Patch.{Patch}
use Rattle.run_check.specs.declared.content.Stretch.{Stretch}
use Rattle.run_check.specs.Faults.{certificate_fault, content_of, count_at, first_below, hart_at, harts_of, head_fault}
use Rattle.run_check.specs.Faults.{line_at, line_count, line_count_fault, line_fault, line_place, lines_at, lines_place}
use Rattle.run_check.specs.Faults.{output_fault, output_at, output_length, output_place, patch_at}
use Rattle.run_check.specs.Faults.{register_at, registers_at, reserved_at, status_at, stretch_at, stretch_count}
use Rattle.run_check.specs.Faults.{stretch_fault, stretch_place, stretches_at, tail_fault, view_at, view_fault}
use Rattle.run_check.specs.Faults.{view_place, view_wrong, views_at}
use Rattle.run_check.specs.Rules.{most_lines, reservation_wrong, status_wrong, line_limit}
use Rattle.run_check.specs.Spelling.{count_in, hart_in, head_bytes, line_in, lines_bytes, output_bytes, patch_bytes}
use Rattle.run_check.specs.Spelling.{patch_in, reserved_bytes, spelling, status_bytes, stretch_bytes, view_bytes}
use Rattle.run_check.specs.Spelling.{IsCertificate, IsReserved, IsStatus, IsView}
use Rattle.run_check.proofs.FieldFaults.{HeadRight, LineRight, StretchRight, head_right, line_count_right, line_right}
use Rattle.run_check.proofs.FieldFaults.{output_right, stretch_right, tail_right, view_right}
use Rattle.run_check.proofs.FirstBelow.{none_each}
use Rattle.run_check.proofs.Pieces.{byte_piece, items_piece, piece_sum, split_at}
use Rattle.run_check.proofs.Pieces.{register_behind}
use Rattle.run_check.proofs.RulesSame.{hart_below, line_below, same_count_rule, same_hart_rule, same_line_rule}

-- what is known of a file without a fault
pub record Faultless (file : List ℕ) : Type 0 where
  pub head : HeadRight file
  pub stretches : (k : ℕ) → k < stretch_count file → StretchRight file (harts_of file) k
  pub stretches_whole : view_place file 0 ≤ length file
  pub views : (k : ℕ) → k < harts_of file → (view_place file k + 138 ≤ length file)
      × (view_wrong file (view_place file k) ≡ false)
  pub output_few : output_length file ≤ output_limit
  pub output_whole : lines_place file ≤ length file
  pub few_lines : line_count file ≤ most_lines
  pub count_whole : lines_place file + 4 ≤ length file
  pub lines : (k : ℕ) → k < line_count file → LineRight file (lines_place file) k
  pub end : length file ≤ line_place (lines_place file) (line_count file)

stretches_end : (file : List ℕ) (harts count : ℕ) → 10 ≤ length file →
    ((k : ℕ) → k < count → StretchRight file harts k) → stretch_place count ≤ length file
stretches_end file harts zero long each = omega arith
stretches_end file harts (suc count) long each = let last = (each count (omega arith)).whole in omega arith

pub faultless_of : (file : List ℕ) → certificate_fault file ≡ None → Faultless file
unfolding certificate_fault
faultless_of file none =
    let tail = tail_fault file (line_place (lines_place file) (line_count file)) ∷ [] in
    let lines = first_below (line_count file) (line_fault file (lines_place file)) ∷ tail in
    let counted = line_count_fault file (lines_place file) ∷ lines in
    let output = output_fault file (output_place file) ∷ counted in
    let views = first_below (harts_of file) (view_fault file (view_place file 0)) ∷ output in
    let stretches = first_below (stretch_count file) (stretch_fault file (harts_of file)) ∷ views in
    let e0 = or_none (head_fault file) (first_of stretches) none in
    let e1 = or_none (first_below (stretch_count file) (stretch_fault file (harts_of file))) (first_of views) e0.1 in
    let e2 = or_none (first_below (harts_of file) (view_fault file (view_place file 0))) (first_of output) e1.1 in
    let e3 = or_none (output_fault file (output_place file)) (first_of counted) e2.1 in
    let e4 = or_none (line_count_fault file (lines_place file)) (first_of lines) e3.1 in
    let e5 = or_none (first_below (line_count file) (line_fault file (lines_place file))) (first_of tail) e4.1 in
    let e6 = or_none (tail_fault file (line_place (lines_place file) (line_count file))) None e5.1 in
    let head = head_right file e0.0 in
    let each : (k : ℕ) → k < stretch_count file → StretchRight file (harts_of file) k =
    λ k within. stretch_right file (harts_of file) k
    (none_each (stretch_count file) (stretch_fault file (harts_of file)) e1.0 k within)
    in
    let whole = stretches_end file (harts_of file) (stretch_count file) head.whole each in
    let out = output_right file (output_place file) e3.0 in
    let count = line_count_right file (lines_place file) e4.0 in
    record {
      head = head;
      stretches = each;
      stretches_whole = omega (arith, whole);
      views =
          λ k within.
          view_right file (view_place file 0) k (view_place file k) (omega arith)
          (none_each (harts_of file) (view_fault file (view_place file 0)) e2.0 k within);
      output_few = out.0;
      output_whole = out.1;
      few_lines = count.0;
      count_whole = count.1;
      lines =
          λ k within.
          line_right file (lines_place file) k
          (none_each (line_count file) (line_fault file (lines_place file)) e5.0 k within);
      end = tail_right file (line_place (lines_place file) (line_count file)) e6.0;
    }

-- ---- each item is spelled

stretch_piece : (file : List ℕ) (harts k : ℕ) → IsBytes file → harts ≤ 8 → StretchRight file harts k →
    take 5 (drop (stretch_place k) file) ≡ stretch_bytes (stretch_at file k)
stretch_piece file harts k fits few r =
    let place = stretch_place k in
    let whole = r.whole in
    let low : hart_at file k < 8 = omega (arith, hart_below harts (hart_at file) k r.hart) in
    piece_sum place 1 4 file
    ∙ ap (λ (l : List ℕ). l ++ take 4 (drop (place + 1) file)) (byte_piece file place (omega arith))
    ∙ ap (λ (l : List ℕ). hart_at file k ∷ l) (number_piece file (place + 1) fits (omega arith))
    ∙ ap (λ (n : ℕ). n ∷ little_bytes 4 (count_at file k)) (sym (hart_id-number (hart_at file k) low))

patch_piece : (file : List ℕ) (lines k : ℕ) → IsBytes file → LineRight file lines k →
    take 68 (drop (line_place lines k) file) ≡ patch_bytes (patch_at file lines k)
patch_piece file lines k fits r =
    let place = line_place lines k in
    let whole = r.whole in
    let low = line_below (line_at file lines) k r.number in
    piece_sum place 4 64 file
    ∙ ap (λ (l : List ℕ). l ++ take 64 (drop (place + 4) file)) (number_piece file place fits (omega arith))
    ∙ ap (λ (n : ℕ). little_bytes 4 n ++ take 64 (drop (place + 4) file))
    (sym (line_addr-number (line_at file lines k) low))

reserved_spelled : (flag word : ℕ) → reservation_wrong flag word ≡ false →
    flag ∷ little_bytes 4 word ≡ reserved_bytes (reserved_at flag word)
reserved_spelled zero word right = let none : word ≡ 0 = grind (arith, nat_tests) in rw none refl
reserved_spelled (suc zero) word right = refl
reserved_spelled (suc (suc flag)) word right = absurd (grind (arith, nat_tests))

status_spelled : (status number pc : ℕ) → status_wrong status number ≡ false →
    status ∷ little_bytes 4 number ≡ status_bytes (status_at status number pc)
status_spelled zero number pc right = let none : number ≡ 0 = grind (arith, nat_tests) in rw none refl
status_spelled (suc zero) number pc right = refl
status_spelled (suc (suc zero)) number pc right = refl
status_spelled (suc (suc (suc status))) number pc right = absurd (grind (arith, nat_tests))

-- x1 to x31 are the 31 numbers behind the pc
registers_behind : (file : List ℕ) (place : ℕ) →
    drop 1 (registers_at file place) ≡ map (λ k. number_at file (place + 4 + 4 * k)) (range_with_len 0 31)
registers_behind file place =
    fill_by_all (λ k. number_at file (place + 4 + 4 * k)) (drop 1 (registers_at file place)) 31 0
    (length-map-range_with_len (register_at file place) 1 31)
    (λ k within.
    let there : place + 4 * suc k ≡ place + 4 + 4 * k = omega arith in
    get_or-map-range_with_len (register_at file place) 1 31 k (suc k) 0 within (omega arith)
    ∙ register_behind file place k
    ∙ ap (number_at file) there)

view_piece : (file : List ℕ) (place : ℕ) → IsBytes file → place + 138 ≤ length file → view_wrong file place ≡ false →
    take 138 (drop place file) ≡ view_bytes (view_at file place)
unfolding view_at
view_piece file place fits long right =
    let wrongs = or_parts (reservation_wrong (get_or file (place + 128) 0) (number_at file (place + 129))) _ right in
    let reserved : take 5 (drop (place + 128) file)
    ≡ reserved_bytes (reserved_at (get_or file (place + 128) 0) (number_at file (place + 129))) =
    piece_sum (place + 128) 1 4 file
    ∙ ap (λ (l : List ℕ). l ++ take 4 (drop (place + 128 + 1) file)) (byte_piece file (place + 128) (omega arith))
    ∙ ap (λ (n : ℕ). get_or file (place + 128) 0 ∷ take 4 (drop n file)) (omega arith)
    ∙ ap (λ (l : List ℕ). get_or file (place + 128) 0 ∷ l) (number_piece file (place + 129) fits (omega arith))
    ∙ reserved_spelled (get_or file (place + 128) 0) (number_at file (place + 129)) wrongs.0
    in
    let status : take 5 (drop (place + 133) file) ≡
    status_bytes (status_at (get_or file (place + 133) 0) (number_at file (place + 134)) (number_at file place)) =
    piece_sum (place + 133) 1 4 file
    ∙ ap (λ (l : List ℕ). l ++ take 4 (drop (place + 133 + 1) file)) (byte_piece file (place + 133) (omega arith))
    ∙ ap (λ (n : ℕ). get_or file (place + 133) 0 ∷ take 4 (drop n file)) (omega arith)
    ∙ ap (λ (l : List ℕ). get_or file (place + 133) 0 ∷ l) (number_piece file (place + 134) fits (omega arith))
    ∙ status_spelled (get_or file (place + 133) 0) (number_at file (place + 134)) (number_at file place) wrongs.1
    in
    let words : take 124 (drop (place + 4) file) ≡ flat_map (little_bytes 4) (drop 1 (registers_at file place)) =
    items_piece (little_bytes 4) (λ k. number_at file (place + 4 + 4 * k)) (place + 4) 4 file 31
    (λ k within. number_piece file (place + 4 + 4 * k) fits (omega arith))
    ∙ ap (flat_map (little_bytes 4)) (sym (registers_behind file place))
    in
    let ends : take 10 (drop (place + 128) file) ≡
    take 5 (drop (place + 128) file) ++ take 5 (drop (place + 133) file) =
    piece_sum (place + 128) 5 5 file ∙ ap (λ (n : ℕ). take 5 (drop (place + 128) file) ++ take 5 (drop n file))
    (omega arith)
    in
    let behind : take 134 (drop (place + 4) file)
    ≡ take 124 (drop (place + 4) file) ++ take 10 (drop (place + 128) file) =
    piece_sum (place + 4) 124 10 file ∙ ap (λ (n : ℕ). take 124 (drop (place + 4) file) ++ take 10 (drop n file))
    (omega arith)
    in
    piece_sum place 4 134 file
    ∙ ap (λ (l : List ℕ). take 4 (drop place file) ++ l)
    (behind ∙ ap (λ (l : List ℕ). take 124 (drop (place + 4) file) ++ l) ends)
    ∙ rw (number_piece file place fits (omega arith), words, reserved, status) refl

-- ---- the whole file is spelled

letters_spelled : (file : List ℕ) → IsBytes file → HeadRight file →
    file ≡ head_bytes (harts_of file) (stretch_count file) ++ drop 10 file
letters_spelled file fits r =
    let long = r.whole in
    let byte : (k : ℕ) → k < 10 → take 1 (drop k file) ≡ get_or file k 0 ∷ [] =
    λ k within. byte_piece file k (omega arith) in
    split_at 0 6 file
    ∙ ap (λ (l : List ℕ). l ++ drop 6 file)
    (piece_sum 0 1 5 file ∙ ap (λ (l : List ℕ). take 1 file ++ l)
    (piece_sum 1 1 4 file ∙ ap (λ (l : List ℕ). take 1 (drop 1 file) ++ l)
    (piece_sum 2 1 3 file ∙ ap (λ (l : List ℕ). take 1 (drop 2 file) ++ l)
    (piece_sum 3 1 2 file ∙ ap (λ (l : List ℕ). take 1 (drop 3 file) ++ l) (piece_sum 4 1 1 file)))))
    ∙ ap (λ (l : List ℕ).
    (take 1 file ++ (take 1 (drop 1 file) ++ (take 1 (drop 2 file)
    ++ (take 1 (drop 3 file) ++ (take 1 (drop 4 file) ++ take 1 (drop 5 file)))))) ++ l)
    (split_at 6 4 file ∙ ap (λ (l : List ℕ). l ++ drop 10 file) (number_piece file 6 fits (omega arith)))
    ∙ rw (
      byte 0 (omega arith),
      byte 1 (omega arith),
      byte 2 (omega arith),
      byte 3 (omega arith),
      byte 4 (omega arith),
      byte 5 (omega arith),
      r.first,
      r.second,
      r.third,
      r.fourth,
      r.version,
    ) refl

stretches_spelled : (file : List ℕ) → IsBytes file → Faultless file →
    drop 10 file ≡ flat_map stretch_bytes (stretches_at file) ++ drop (view_place file 0) file
stretches_spelled file fits f =
    split_at 10 (5 * stretch_count file) file
    ∙ ap (λ (l : List ℕ). l ++ drop (10 + 5 * stretch_count file) file)
    (items_piece stretch_bytes (stretch_at file) 10 5 file (stretch_count file)
    (λ k within. stretch_piece file (harts_of file) k fits f.head.few_harts (f.stretches k within)))
    ∙ ap (λ (n : ℕ). flat_map stretch_bytes (stretches_at file) ++ drop n file) (omega arith)

views_spelled : (file : List ℕ) → IsBytes file → Faultless file →
    drop (view_place file 0) file ≡ flat_map view_bytes (views_at file) ++ drop (output_place file) file
views_spelled file fits f =
    let place = view_place file 0 in
    split_at place (138 * harts_of file) file
    ∙ ap (λ (l : List ℕ). l ++ drop (place + 138 * harts_of file) file)
    (items_piece view_bytes (λ hart. view_at file (view_place file hart)) place 138 file (harts_of file)
    (λ k within.
    let there : place + 138 * k ≡ view_place file k = omega arith in
    let r = f.views k within in
    ap (λ (n : ℕ). take 138 (drop n file)) there ∙ view_piece file (view_place file k) fits r.0 r.1))
    ∙ ap (λ (n : ℕ). flat_map view_bytes (views_at file) ++ drop n file) (omega arith)

output_spelled : (file : List ℕ) → IsBytes file → Faultless file →
    drop (output_place file) file ≡ output_bytes (output_at file) ++ drop (lines_place file) file
output_spelled file fits f =
    let place = output_place file in
    let whole = f.output_whole in
    let many : length (output_at file) ≡ output_length file =
    length-take-le (output_length file) (drop (place + 4) file) (omega (arith, length-drop (place + 4) file))
    in
    split_at place (4 + output_length file) file
    ∙ ap (λ (l : List ℕ). l ++ drop (place + (4 + output_length file)) file)
    (piece_sum place 4 (output_length file) file
    ∙ ap (λ (l : List ℕ). l ++ output_at file) (number_piece file place fits (omega arith))
    ∙ ap (λ (n : ℕ). little_bytes 4 n ++ output_at file) (sym many))
    ∙ ap (λ (n : ℕ). output_bytes (output_at file) ++ drop n file) (omega arith)

lines_spelled : (file : List ℕ) → IsBytes file → Faultless file →
    drop (lines_place file) file ≡ lines_bytes (lines_at file)
lines_spelled file fits f =
    let place = lines_place file in
    let whole = f.count_whole in
    let end = f.end in
    let many : length (lines_at file) ≡ line_count file =
    length-map-range_with_len (patch_at file place) 0 (line_count file) in
    let items : take (68 * line_count file) (drop (place + 4) file) ≡ flat_map patch_bytes (lines_at file) =
    items_piece patch_bytes (patch_at file place) (place + 4) 68 file (line_count file)
    (λ k within. patch_piece file place k fits (f.lines k within))
    in
    let rest : drop (place + 4) file ≡ flat_map patch_bytes (lines_at file) =
    split_at (place + 4) (68 * line_count file) file
    ∙ ap (λ (l : List ℕ). take (68 * line_count file) (drop (place + 4) file) ++ l)
    (drop_all (place + 4 + 68 * line_count file) file (omega arith))
    ∙ append-nil _
    ∙ items
    in
    split_at place 4 file
    ∙ ap (λ (l : List ℕ). take 4 (drop place file) ++ l) rest
    ∙ ap (λ (l : List ℕ). l ++ flat_map patch_bytes (lines_at file)) (number_piece file place fits whole)
    ∙ ap (λ (n : ℕ). little_bytes 4 n ++ flat_map patch_bytes (lines_at file)) (sym many)

whole_spelled : (file : List ℕ) → IsBytes file → Faultless file → file ≡ spelling (content_of file)
unfolding content_of
whole_spelled file fits f =
    let many : length (stretches_at file) ≡ stretch_count file =
    length-map-range_with_len (stretch_at file) 0 (stretch_count file) in
    let lines = lines_spelled file fits f in
    let output = output_spelled file fits f ∙ ap (λ (l : List ℕ). output_bytes (output_at file) ++ l) lines in
    let views = views_spelled file fits f ∙ ap (λ (l : List ℕ). flat_map view_bytes (views_at file) ++ l) output in
    let stretches =
    stretches_spelled file fits f ∙ ap (λ (l : List ℕ). flat_map stretch_bytes (stretches_at file) ++ l) views in
    letters_spelled file fits f.head
    ∙ ap (λ (l : List ℕ). head_bytes (harts_of file) (stretch_count file) ++ l) stretches
    ∙ ap (λ (n : ℕ).
    head_bytes (harts_of file) n ++ (flat_map stretch_bytes (stretches_at file)
    ++ (flat_map view_bytes (views_at file) ++ (output_bytes (output_at file) ++ lines_bytes (lines_at file)))))
    (sym many)

-- ---- what is spelled keeps the rules

reserved_where : (free : Bool) (word : ℕ) → word < 4294967296 → IsReserved (cond free None (Some word))
reserved_where true word small = tt
reserved_where false word small = small

reserved_is : (flag word : ℕ) → word < 4294967296 → IsReserved (reserved_at flag word)
reserved_is flag word small = reserved_where (flag == 0) word small

status_is : (status number pc : ℕ) → status_wrong status number ≡ false → number < 4294967296 →
    IsStatus pc (status_at status number pc)
status_is zero number pc right small = tt
status_is (suc zero) number pc right small = small
status_is (suc (suc zero)) number pc right small = (grind (arith, nat_tests), refl)
status_is (suc (suc (suc status))) number pc right small = absurd (grind (arith, nat_tests))

register_small : (file : List ℕ) (place register : ℕ) → IsBytes file → register_at file place register < 4294967296
register_small file place zero fits = omega arith
register_small file place (suc k) fits = rw (register_behind file place k) (number_small file (place + 4 * suc k) fits)

registers_small : (file : List ℕ) (place register : ℕ) → IsBytes file →
    get_or (registers_at file place) register 0 < 4294967296
registers_small file place register fits =
    elim (cases_lt register 32) [
      | inl within ↦
          rw (get_or-map-range_with_len (register_at file place) 0 32 register register 0 within (omega arith))
          (register_small file place register fits)
      | inr past ↦
          rw (get_or_past (registers_at file place) register 0
          (omega (arith, length-map-range_with_len (register_at file place) 0 32)))
          (omega arith)
    ]

view_is : (file : List ℕ) (place : ℕ) → IsBytes file → view_wrong file place ≡ false → IsView (view_at file place)
unfolding view_at
view_is file place fits right =
    let wrongs = or_parts (reservation_wrong (get_or file (place + 128) 0) (number_at file (place + 129))) _ right in
    record {
      pc = number_small file place fits;
      registers = length-map-range_with_len (register_at file place) 0 32;
      zero_is_0 = refl;
      words = λ register. registers_small file place register fits;
      reserved =
          reserved_is (get_or file (place + 128) 0) (number_at file (place + 129))
          (number_small file (place + 129) fits);
      status =
          status_is (get_or file (place + 133) 0) (number_at file (place + 134)) (number_at file place) wrongs.1
          (number_small file (place + 134) fits);
    }

hart_in_file : (file : List ℕ) (k : ℕ) → k < stretch_count file → hart_at file k < 8 →
    hart_in (stretches_at file) k ≡ hart_at file k
hart_in_file file k within low =
    ap (λ (s : Stretch). s.hart.number) (get_or-map-range_with_len (stretch_at file) 0 (stretch_count file) k k _ within
    (omega arith))
    ∙ hart_id-number (hart_at file k) low

count_in_file : (file : List ℕ) (k : ℕ) → k < stretch_count file → count_in (stretches_at file) k ≡ count_at file k
count_in_file file k within =
    ap (λ (s : Stretch). s.count) (get_or-map-range_with_len (stretch_at file) 0 (stretch_count file) k k _ within
    (omega arith))

patch_in_file : (file : List ℕ) (k : ℕ) → k < line_count file →
    patch_in (lines_at file) k ≡ patch_at file (lines_place file) k
patch_in_file file k within =
    get_or-map-range_with_len (patch_at file (lines_place file)) 0 (line_count file) k k _ within (omega arith)

line_in_file : (file : List ℕ) (k : ℕ) → k < line_count file → line_at file (lines_place file) k < line_limit →
    line_in (lines_at file) k ≡ line_at file (lines_place file) k
line_in_file file k within low =
    ap (λ (p : Patch). p.line.number) (patch_in_file file k within)
    ∙ line_addr-number (line_at file (lines_place file) k) low

rules_kept : (file : List ℕ) → IsBytes file → Faultless file → IsCertificate (content_of file)
unfolding content_of
rules_kept file fits f =
    let few = f.head.few_harts in
    let n : length (stretches_at file) ≡ stretch_count file =
    length-map-range_with_len (stretch_at file) 0 (stretch_count file) in
    let v : length (views_at file) ≡ harts_of file = length-map-range_with_len _ 0 (harts_of file) in
    let m : length (lines_at file) ≡ line_count file =
    length-map-range_with_len (patch_at file (lines_place file)) 0 (line_count file) in
    let hart-low : (k : ℕ) → k < stretch_count file → hart_at file k < 8 =
    λ k within. omega (arith, hart_below (harts_of file) (hart_at file) k (f.stretches k within).hart)
    in
    let hart-is : (k : ℕ) → k < stretch_count file → hart_in (stretches_at file) k ≡ hart_at file k =
    λ k within. hart_in_file file k within (hart-low k within)
    in
    let line-is : (k : ℕ) → k < line_count file → line_in (lines_at file) k ≡ line_at file (lines_place file) k =
    λ k within. line_in_file file k within (line_below (line_at file (lines_place file)) k (f.lines k within).number)
    in
    record {
      some_hart = f.head.some_hart;
      few_harts = few;
      harts =
          λ k within.
          same_hart_rule (harts_of file) (hart_in (stretches_at file)) (hart_at file) k (hart-is k (omega arith))
          (hart-is (k - 1) (omega arith))
          ∙ (f.stretches k (omega arith)).hart;
      counts =
          λ k within.
          same_count_rule (count_in (stretches_at file)) (count_at file) k (λ j low. count_in_file file j (omega arith))
          ∙ (f.stretches k (omega arith)).count;
      one_view_each = v;
      views =
          λ k within.
          let inside : k < harts_of file = omega arith in
          let is =
          get_or-map-range_with_len (λ hart. view_at file (view_place file hart)) 0
          (harts_of file) k k no_hart inside (omega arith) in
          rw is (view_is file (view_place file k) fits (f.views k inside).1);
      output =
          let short = length-take-le (output_length file) (drop (output_place file + 4) file)
          (let whole = f.output_whole in omega (arith, length-drop (output_place file + 4) file)) in
          let few = f.output_few in
          omega arith;
      few_lines = let few = f.few_lines in omega arith;
      lines =
          λ k within.
          same_line_rule (line_in (lines_at file)) (line_at file (lines_place file)) k (line-is k (omega arith))
          (line-is (k - 1) (omega arith))
          ∙ (f.lines k (omega arith)).number;
      line_bytes =
          λ k within.
          let inside : k < line_count file = omega arith in
          let whole = (f.lines k inside).whole in
          let place = line_place (lines_place file) k + 4 in
          ap (λ (p : Patch). length p.bytes) (patch_in_file file k inside)
          ∙ length-take-le 64 (drop place file) (omega (arith, length-drop place file));
    }

pub faultless : (file : List ℕ) → IsBytes file → certificate_fault file ≡ None →
    IsCertificate (content_of file) × (file ≡ spelling (content_of file))
faultless file fits none = let f = faultless_of file none in (rules_kept file fits f, whole_spelled file fits f)
