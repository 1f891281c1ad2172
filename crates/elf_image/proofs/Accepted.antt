-- What a file without a fault is known to have.
use Rattle.std.proofs.Common.{◌≡◌, ◌≤◌, ◌<◌, ℕ, ◌+◌, ◌*◌, ◌^◌, min, max, Bool, true, false, ◌&&◌, not, nat_lt, List, []}
use Rattle.std.proofs.Common.{◌∷◌, length, map, refl}
use Rattle.std.proofs.Common.{arith, ltb-true, ltb-false}
use Rattle.std.specs.Prelude.{Option, Some, None, All, fold, option_map}
use Rattle.std.specs.Option.{option_or}
use Rattle.std.proofs.lemmas.Bool.{not-false}
use Rattle.std.proofs.lemmas.Bool.Decides.{nat_tests}
use Rattle.std.proofs.lemmas.List.Elements.{All-nil, All-cons, All-filter, filter_passes}
use Rattle.el_base.specs.Firsts.{first_of, some_if}
use Rattle.el_base.specs.declared.file_fault.FileFault.{FileFault}
use Rattle.elf_image.specs.declared.fault.FaultKind.{FaultKind}
use Rattle.elf_image.specs.declared.fault.FaultKind.TheVariants.{Table, Overlap, TooWide, TooHigh, Entry, Empty}
use Rattle.elf_image.specs.declared.header.FileHeader.{FileHeader}
use Rattle.elf_image.specs.declared.layout.Layout.{Layout}
use Rattle.elf_image.specs.declared.program_header.ProgramHeader.{ProgramHeader}
use Rattle.elf_image.specs.Header.{file_header, program_headers}
use Rattle.elf_image.specs.Limits.{end_limit, header_limit, memory_limit, stack_size}
use Rattle.elf_image.specs.Layout.{is_segment, segment_end, segments_of, first_overlap, memory_base, memory_end}
use Rattle.elf_image.specs.Layout.{layout_of, size_of}
use Rattle.elf_image.specs.FaultKinds.{fault_of}
use Rattle.elf_image.specs.Faults.{fault, ident_fault, header_fault, headers_fault, memory_fault, differs}
use Rattle.elf_image.specs.Faults.{header_version_fault, file_kind_fault}
use Rattle.elf_image.specs.Faults.{machine_fault, flags_fault, table_fault, dynamic_fault, load_fault, segments_fault}
use Rattle.elf_image.specs.Faults.{overlap_fault, too_wide_fault}
use Rattle.elf_image.specs.Faults.{too_high_fault, entry_fault, empty_fault, has_segment, is_entry}
use Rattle.elf_image.specs.Loaded.{Fits, IsLoadable}

-- Parts of what is none

pub none_first : (a b : Option FileFault) → option_or a b ≡ None → a ≡ None
none_first None b e = refl
none_first (Some x) b e = cc

pub none_second : (a b : Option FileFault) → option_or a b ≡ None → b ≡ None
none_second None b e = e
none_second (Some x) b e = cc

pub not_fault : (condition : Bool) (kind : FaultKind) (place : ℕ) → some_if condition (fault_of kind place) ≡ None →
    condition ≡ false
not_fault true kind place e = cc
not_fault false kind place e = refl

none_before : {X : Type 0} (f : X → FileFault) (o : Option X) → option_map f o ≡ None → o ≡ None
none_before f None e = refl
none_before f (Some x) e = cc

all_none : {X : Type 0} (f : X → Option FileFault) (xs : List X) → first_of (map f xs) ≡ None → All (λ x. f x ≡ None) xs
all_none f [] e = All-nil (λ x. f x ≡ None)
all_none f (x ∷ xs) e = All-cons (λ x. f x ≡ None) x xs (none_first (f x) _ e) (all_none f xs (none_second (f x) _ e))

-- a default for a place past the end of a list
pub any_header : ProgramHeader
any_header = record { place = 0; p_type = 0; p_offset = 0; p_vaddr = 0; p_filesz = 0; p_memsz = 0; p_flags = 0 }

-- The four parts of the fault
pub record Faultless (file : List ℕ) (harts : ℕ) : Type 0 where
  pub ident : ident_fault file ≡ None
  pub header : header_fault (file_header file) (length file) ≡ None
  pub headers : headers_fault (program_headers file) (length file) ≡ None
  pub memory : memory_fault (segments_of file) (layout_of (segments_of file) harts) (file_header file).e_entry ≡ None

pub faultless : (file : List ℕ) (harts : ℕ) → fault file harts ≡ None → Faultless file harts
unfolding fault
faultless file harts e =
    let header = file_header file in
    let segments = segments_of file in
    let e1 = none_second (ident_fault file) _ e in
    let e2 = none_second (header_fault header (length file)) _ e1 in
    let e3 = none_second (headers_fault (program_headers file) (length file)) _ e2 in
    record {
      ident = none_first (ident_fault file) _ e;
      header = none_first (header_fault header (length file)) _ e1;
      headers = none_first (headers_fault (program_headers file) (length file)) _ e2;
      memory = none_first (memory_fault segments (layout_of segments harts) header.e_entry) _ e3;
    }

-- The header

pub few_headers : (header : FileHeader) (file_len : ℕ) → header_fault header file_len ≡ None →
    header.e_phnum ≤ header_limit
unfolding header_fault
few_headers header file_len e =
    let kind = none_second (header_version_fault header) _ e in
    let machine = none_second (file_kind_fault header) _ kind in
    let flags = none_second (machine_fault header) _ machine in
    let table = none_first (table_fault header file_len) None (none_second (flags_fault header) _ flags) in
    let rest = none_second (some_if (differs header.e_ehsize 52) (fault_of Table 40)) _ table in
    let many = nat_lt header_limit header.e_phnum in
    ltb-false header_limit header.e_phnum
    (not_fault many Table 44 (none_first (some_if many (fault_of Table 44)) _ rest))

-- The segments in the file

-- of a segment
pub record InFile (file_len : ℕ) (segment : ProgramHeader) : Type 0 where
  pub filled : segment.p_filesz ≤ segment.p_memsz
  pub in_file : 1 ≤ segment.p_filesz → segment.p_offset + segment.p_filesz ≤ file_len

in_file : (file_len : ℕ) (segment : ProgramHeader) → load_fault file_len segment ≡ None → is_segment segment ≡ true →
    InFile file_len segment
in_file file_len segment e is = record { filled = grind (arith, nat_tests); in_file = λ some. grind (arith, nat_tests) }

pub all_in_file : (file : List ℕ) → headers_fault (program_headers file) (length file) ≡ None →
    All (InFile (length file)) (segments_of file)
unfolding headers_fault segments_of
all_in_file file e =
    let headers = program_headers file in
    let none =
    all_none (load_fault (length file)) headers
    (none_first (segments_fault headers (length file)) None (none_second (dynamic_fault headers) _ e)) in
    let kept = All-filter is_segment (λ header. load_fault (length file) header ≡ None) headers none in
    let passed = filter_passes is_segment headers in
    λ k d below. in_file (length file) _ (kept k d below) (passed k d below)

-- The segments in memory

lowest_below : (segments : List ProgramHeader) (start : ℕ) →
    fold (λ low segment. min low segment.p_vaddr) start segments ≤ start
lowest_below [] start = omega arith
lowest_below (x ∷ segments) start = let rest = lowest_below segments (min start x.p_vaddr) in omega arith

above_lowest : (segments : List ProgramHeader) (start : ℕ)
    → All (λ segment. fold (λ low other. min low other.p_vaddr) start segments ≤ segment.p_vaddr) segments
above_lowest [] start = All-nil (λ segment. start ≤ segment.p_vaddr)
above_lowest (x ∷ segments) start =
    let low = lowest_below segments (min start x.p_vaddr) in
    All-cons (λ segment. fold (λ low other. min low other.p_vaddr) (min start x.p_vaddr) segments ≤ segment.p_vaddr) x
    segments
    (omega arith)
    (above_lowest segments (min start x.p_vaddr))

highest_above : (segments : List ProgramHeader) (start : ℕ) →
    start ≤ fold (λ high segment. max high (segment_end segment)) start segments
highest_above [] start = omega arith
highest_above (x ∷ segments) start = let rest = highest_above segments (max start (segment_end x)) in omega arith

below_highest : (segments : List ProgramHeader) (start : ℕ)
    → All (λ segment. segment_end segment ≤ fold (λ high other. max high (segment_end other)) start segments) segments
below_highest [] start = All-nil (λ segment. segment_end segment ≤ start)
below_highest (x ∷ segments) start =
    let high = highest_above segments (max start (segment_end x)) in
    All-cons (λ segment. segment_end segment ≤ fold (λ high other. max high (segment_end other))
    (max start (segment_end x)) segments) x segments
    (omega arith)
    (below_highest segments (max start (segment_end x)))

-- memory spans the segments and the stacks behind them
pub record Spans (harts base end : ℕ) (segment : ProgramHeader) : Type 0 where
  pub above : base ≤ segment.p_vaddr
  pub below : segment_end segment + stack_size * harts ≤ end

pub spans : (segments : List ProgramHeader) (harts : ℕ) →
    All (Spans harts (memory_base segments) (memory_end segments harts)) segments
unfolding memory_base memory_end
spans segments harts k d within =
    let low = above_lowest segments (2 ^ 32) k d within in
    let high = below_highest segments 0 k d within in
    record { above = omega arith; below = omega arith }

-- The checks on memory
pub record InMemory (segments : List ProgramHeader) (layout : Layout) (entry : ℕ) : Type 0 where
  pub some : 0 < length segments
  pub apart : first_overlap segments ≡ None
  pub narrow : size_of layout ≤ memory_limit
  pub low : layout.end ≤ end_limit
  pub starts : is_entry segments entry ≡ true

unless_both : (a b : Bool) → a ≡ true → (a && b) ≡ false → b ≡ false
unless_both a b here none = grind (arith, nat_tests)

pub in_memory : (segments : List ProgramHeader) (layout : Layout) (entry : ℕ)
    → memory_fault segments layout entry ≡ None → InMemory segments layout entry
unfolding memory_fault
in_memory segments layout entry e =
    let some = has_segment segments in
    let wide = nat_lt memory_limit (size_of layout) in
    let high = nat_lt end_limit layout.end in
    let out = not (is_entry segments entry) in
    let e1 = none_second (overlap_fault segments) _ e in
    let e2 = none_second (too_wide_fault segments layout) _ e1 in
    let e3 = none_second (too_high_fault segments layout) _ e2 in
    let e4 = none_second (entry_fault segments entry) _ e3 in
    let here : some ≡ true = not-false _ (not_fault (not some) Empty 44 (none_first (empty_fault segments) None e4)) in
    let not_wide = not_fault (some && wide) TooWide 28 (none_first (too_wide_fault segments layout) _ e1) in
    let not_high = not_fault (some && high) TooHigh 28 (none_first (too_high_fault segments layout) _ e2) in
    let not_out = not_fault (some && out) Entry 24 (none_first (entry_fault segments entry) _ e3) in
    record {
      some = ltb-true 0 (length segments) here;
      apart =
          none_before (λ segment. fault_of Overlap segment.place) (first_overlap segments)
          (none_first (overlap_fault segments) _ e);
      narrow = ltb-false memory_limit (size_of layout) (unless_both some wide here not_wide);
      low = ltb-false end_limit layout.end (unless_both some high here not_high);
      starts = not-false _ (unless_both some out here not_out);
    }

-- Loading

-- what is in the file lies in memory
abbrev pub AllFit : List ℕ → Layout → Type 0
AllFit file layout = All (Fits (length file) layout.base (size_of layout)) (segments_of file)

pub fits : (file : List ℕ) (harts : ℕ) → headers_fault (program_headers file) (length file) ≡ None
    → AllFit file (layout_of (segments_of file) harts)
fits file harts e k d within =
    let part = all_in_file file e k d within in
    let place = spans (segments_of file) harts k d within in
    let above = place.above in
    let below = place.below in
    record { inside = record { above = above; below = omega arith }; filled = part.filled; in_file = part.in_file }

pub loadable : (file : List ℕ) (harts : ℕ) → fault file harts ≡ None
    → IsLoadable (length file) (segments_of file) (layout_of (segments_of file) harts)
loadable file harts e =
    let segments = segments_of file in
    let layout = layout_of segments harts in
    let parts = faultless file harts e in
    let memory = in_memory segments layout (file_header file).e_entry parts.memory in
    let place = spans segments harts 0 any_header memory.some in
    let above = place.above in
    let below = place.below in
    record {
      fits = fits file harts parts.headers;
      apart = memory.apart;
      ordered = omega arith;
      low = memory.low;
    }
