-- A file without a fault is a program.
use Rattle.std.proofs.Common.{◌≡◌, ◌≤◌, ℕ, ◌+◌, ◌-◌, ◌*◌, ◌/◌, ◌%◌, true, List, [], ◌∷◌, length, map, inl, inr, refl}
use Rattle.std.proofs.Common.{◌∙◌, ap, arith, eqb-true, IsSome}
use Rattle.std.specs.Prelude.{Option, Some, None, All, find, filter, option_map, ◌==◌}
use Rattle.std.specs.List.{list_any}
use Rattle.std.proofs.Math.Nat.{mul-mod_left}
use Rattle.std.proofs.lemmas.Bool.{and_parts, cases_Bool}
use Rattle.std.proofs.lemmas.List.{length-map}
use Rattle.std.proofs.lemmas.List.Edits.{length-between}
use Rattle.std.proofs.lemmas.List.Elements.{All-head, All-tail}
use Rattle.std.proofs.lemmas.List.FromFn.{length-map-range_with_len}
use Rattle.std.proofs.lemmas.List.Sums.{length-filter, count_by-le-length}
use Rattle.elf_image.specs.declared.program_header.ProgramHeader.{ProgramHeader}
use Rattle.elf_image.specs.Header.{file_header, program_header, headers_at, program_headers}
use Rattle.elf_image.specs.Layout as layout
use Rattle.elf_image.specs.Layout.{is_segment, is_executable, has_instruction, segments_of, lowest, highest}
use Rattle.elf_image.specs.Layout.{memory_base, memory_end, layout_of}
use Rattle.elf_image.specs.Faults.{fault}
use Rattle.elf_image.specs.Limits.{header_limit, stack_size}
use Rattle.elf_image.specs.Loaded.{IsInside, code_segment, loaded_byte, loaded_bytes, program_of}
use Rattle.elf_image.specs.Program.{IsProgram, code_word, has_word, segment_word}
use Rattle.elf_image.proofs.Accepted.{any_header, faultless, few_headers, in_memory, fits, spans, loadable}
use Rattle.elf_image.proofs.CodeLength.{memory_length, code_within}

-- The code

code_segment_length : (base : ℕ) (bytes : List ℕ) (segment : ProgramHeader) → IsInside base (length bytes) segment
    → length (code_segment base bytes segment).bytes ≡ segment.p_memsz
code_segment_length base bytes segment inside =
    let above = inside.above in
    let below = inside.below in
    length-between bytes (segment.p_vaddr - base) (segment.p_vaddr - base + segment.p_memsz) (omega arith) ∙ omega arith

same_word : (base : ℕ) (bytes : List ℕ) (pc : ℕ) (segment : ProgramHeader) → IsInside base (length bytes) segment
    → has_word pc (code_segment base bytes segment) ≡ layout.has_word pc segment
same_word base bytes pc segment inside = rw (code_segment_length base bytes segment inside) refl

some_map : {A B : Type 0} (f : A → B) (o : Option A) → IsSome o → IsSome (option_map f o)
some_map f None h = h
some_map f (Some x) h = h

found : (base : ℕ) (bytes : List ℕ) (pc : ℕ) (segments : List ProgramHeader) →
    All (IsInside base (length bytes)) segments
    → list_any (has_instruction pc) segments ≡ true
    → IsSome (find (has_word pc) (map (code_segment base bytes) (filter is_executable segments)))
found base bytes pc [] inside has = has
found base bytes pc (x ∷ segments) inside has =
    let word = same_word base bytes pc x (All-head (IsInside base (length bytes)) x segments inside) in
    let tail = All-tail (IsInside base (length bytes)) x segments inside in
    elim (cases_Bool (is_executable x)) [
      | inl runs ↦ rw runs (elim (cases_Bool (layout.has_word pc x)) [
        | inl here ↦ rw (word, here) refl
        | inr there ↦ rw (word, there) (found base bytes pc segments tail (rw (runs, there) at has))
      ])
      | inr idle ↦ rw idle (found base bytes pc segments tail (rw idle at has))
    ]

-- Numbers

lines_between : (low high harts : ℕ) → (high * 64 + stack_size * harts - low * 64) % 64 ≡ 0
lines_between low high harts =
    let whole : high * 64 + stack_size * harts - low * 64 ≡ (high + 1024 * harts - low) * 64 = omega arith in
    rw whole (mul-mod_left (high + 1024 * harts - low) 64)

base_on_line : (segments : List ProgramHeader) → memory_base segments % 64 ≡ 0
unfolding memory_base
base_on_line segments = mul-mod_left (lowest segments / 64) 64

size_on_line : (segments : List ProgramHeader) (harts : ℕ) → (memory_end segments harts - memory_base segments) % 64 ≡ 0
unfolding memory_base memory_end
size_on_line segments harts = lines_between (lowest segments / 64) ((highest segments + 63) / 64) harts

few_segments : (file : List ℕ) → (file_header file).e_phnum ≤ header_limit → length (segments_of file) ≤ header_limit
unfolding segments_of program_headers headers_at
few_segments file few =
    let headers = program_headers file in
    let len =
    length-map-range_with_len (λ index. program_header file ((file_header file).e_phoff + 32 * index)) 0
    (file_header file).e_phnum in
    let kept = length-filter is_segment headers in
    let bound = count_by-le-length is_segment headers in
    omega arith

size_of_loaded : (file : List ℕ) (harts : ℕ) →
    length (loaded_bytes file harts) ≡ memory_end (segments_of file) harts - memory_base (segments_of file)
unfolding loaded_bytes
size_of_loaded file harts =
    let segments = segments_of file in
    length-map-range_with_len (loaded_byte file segments) (memory_base segments)
    (memory_end segments harts - memory_base segments)

pub is_program : (file : List ℕ) (harts : ℕ) → fault file harts ≡ None → 1 ≤ harts → harts ≤ 8 →
    IsProgram (program_of file harts)
unfolding program_of code_word
is_program file harts e some few =
    let segments = segments_of file in
    let base = memory_base segments in
    let bytes = loaded_bytes file harts in
    let entry = (file_header file).e_entry in
    let parts = faultless file harts e in
    let memory = in_memory segments (layout_of segments harts) entry parts.memory in
    let size = size_of_loaded file harts in
    let ordered = (loadable file harts e).ordered in
    let low = memory.low in
    let narrow = memory.narrow in
    let place = spans segments harts 0 any_header memory.some in
    let above = place.above in
    let below = place.below in
    let starts = and_parts (entry % 4 == 0) (list_any (has_instruction entry) segments) memory.starts in
    let inside : All (IsInside base (length bytes)) segments =
    λ k d within. rw size ((fits file harts parts.headers k d within).inside)
    in
    let code = filter is_executable segments in
    let code_len = length-map code (code_segment base bytes) in
    let kept = length-filter is_executable segments in
    let bound = count_by-le-length is_executable segments in
    let headers = few_segments file (few_headers (file_header file) (length file) parts.header) in
    let all = memory_length base (length bytes) segments memory.apart inside in
    let within = code_within base bytes segments in
    record {
      some_hart = some;
      few_harts = few;
      base_on_line = base_on_line segments;
      length_on_line = ap (λ n. n % 64) size ∙ size_on_line segments harts;
      stacks_fit = omega arith;
      not_wide = omega arith;
      not_high = omega arith;
      entry_aligned = eqb-true (entry % 4) 0 starts.0;
      entry_in_code =
          some_map (segment_word entry) (find (has_word entry) (map (code_segment base bytes) code))
          (found base bytes entry segments inside starts.1);
      few_segments = omega arith;
      code_not_large = omega arith;
    }
