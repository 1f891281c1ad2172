-- The faults of a certificate: the file is read from left to right, each field is judged as soon as it is
-- whole, and the first fault is the answer.
use Rattle.std.specs.Prelude.{ℕ, zero, suc, ◌+◌, ◌*◌, Bool, not, ◌==◌, ◌||◌, nat_lt, if◌then◌else◌, List, [], ◌∷◌}
use Rattle.std.specs.Prelude.{length, take, drop, slice_index, map, Option, Some, None}
use Rattle.std.specs.List.{range_with_len}
use Rattle.std.specs.Option.{option_or}
use Rattle.el_base.specs.Config.{within}
use Rattle.el_base.specs.Firsts.{first_of, some_if}
use Rattle.el_base.specs.HartId.{hart_id}
use Rattle.el_base.specs.LineAddr.{line_addr}
use Rattle.el_base.specs.declared.file_fault.FileFault.{FileFault}
use Rattle.el_base.specs.declared.hart_id.TheConstants.{MAX_HARTS}
use Rattle.file_numbers.specs.Fields.{short_or, wrong_byte}
use Rattle.file_numbers.specs.Numbers.{number_at}
use Rattle.rv_alu.specs.declared.view.HartStatus.{HartStatus}
use Rattle.rv_alu.specs.declared.view.HartStatus.TheVariants.{Running, Exited, Trapped}
use Rattle.rv_alu.specs.declared.view.HartView.{HartView}
use Rattle.rv_flat.specs.FlatState.{output_limit}
use Rattle.run_check.specs.Content.{Content}
use Rattle.run_check.specs.FaultKinds.{fault_of}
use Rattle.run_check.specs.Rules.{count_wrong, hart_wrong, line_wrong, most_lines, reservation_wrong, status_wrong}
use Rattle.run_check.specs.declared.content.Patch.{Patch}
use Rattle.run_check.specs.declared.content.Stretch.{Stretch}
use Rattle.run_check.specs.declared.fault.FaultKind.{FaultKind}
use Rattle.run_check.specs.declared.fault.FaultKind.TheVariants as kinds

-- a field that ends at this place: the file ends in it, or it has this fault, if it has one
abbrev pub field : List ℕ → ℕ → Option FileFault → Option FileFault
field = short_or (fault_of kinds.Short)

-- the first fault of the first items, each of which may have one
abbrev pub first_below : ℕ → (ℕ → Option FileFault) → Option FileFault
first_below zero fault = None
first_below (suc count) fault = option_or (first_below count fault) (fault count)

-- ---- where things stand, and what they are

abbrev pub harts_of : List ℕ → ℕ
harts_of file = slice_index file 5

abbrev pub stretch_count : List ℕ → ℕ
stretch_count file = number_at file 6

-- a stretch has five bytes: its hart, then its count
abbrev pub stretch_place : ℕ → ℕ
stretch_place index = 10 + 5 * index

abbrev pub hart_at : List ℕ → ℕ → ℕ
hart_at file index = slice_index file (stretch_place index)

abbrev pub count_at : List ℕ → ℕ → ℕ
count_at file index = number_at file (stretch_place index + 1)

-- a view has 138 bytes
abbrev pub view_place : List ℕ → ℕ → ℕ
view_place file hart = stretch_place (stretch_count file) + 138 * hart

abbrev pub output_place : List ℕ → ℕ
output_place file = view_place file (harts_of file)

abbrev pub output_length : List ℕ → ℕ
output_length file = number_at file (output_place file)

abbrev pub lines_place : List ℕ → ℕ
lines_place file = output_place file + 4 + output_length file

abbrev pub line_count : List ℕ → ℕ
line_count file = number_at file (lines_place file)

-- a line has 68 bytes: its address divided by 64, then its bytes. Lines begin four bytes behind this place
abbrev pub line_place : ℕ → ℕ → ℕ
line_place place index = place + 4 + 68 * index

abbrev pub line_at : List ℕ → ℕ → ℕ → ℕ
line_at file place index = number_at file (line_place place index)

-- ---- the faults

-- the byte at a place is not the one that is wanted there
abbrev pub wrong : List ℕ → ℕ → ℕ → FaultKind → Option FileFault
wrong file place wanted kind = wrong_byte (fault_of kind) file place wanted

-- the four magic bytes
abbrev pub magic_fault : List ℕ → Option FileFault
magic_fault file =
    first_of
    (wrong file 0 0x45 kinds.Magic
    ∷ wrong file 1 0x4c kinds.Magic
    ∷ wrong file 2 0x43 kinds.Magic
    ∷ wrong file 3 0x54 kinds.Magic
    ∷ [])

-- these, the version, the number of harts, and the number of stretches, which may be any
unfoldable pub head_fault : List ℕ → Option FileFault
head_fault file =
    first_of
    (field file 4 (magic_fault file)
    ∷ field file 5 (wrong file 4 1 kinds.Version)
    ∷ field file 6 (some_if (not (within 1 MAX_HARTS (harts_of file))) (fault_of kinds.Harts 5))
    ∷ field file 10 None
    ∷ [])

-- a stretch: its hart, then its count; either shows its fault at the first byte of the stretch
unfoldable pub stretch_fault : List ℕ → ℕ → ℕ → Option FileFault
stretch_fault file harts index =
    let place = stretch_place index in
    option_or
    (field file (place + 1) (some_if (hart_wrong harts (hart_at file) index) (fault_of kinds.Stretch place)))
    (field file (place + 5) (some_if (count_wrong (count_at file) index) (fault_of kinds.Stretch place)))

-- the number that says which word is reserved, and the number of the status
abbrev pub view_wrong : List ℕ → ℕ → Bool
view_wrong file place =
    reservation_wrong (slice_index file (place + 128)) (number_at file (place + 129))
    || status_wrong (slice_index file (place + 133)) (number_at file (place + 134))

-- the view of a hart, where the first view stands at this place
unfoldable pub view_fault : List ℕ → ℕ → ℕ → Option FileFault
view_fault file views hart =
    let place = views + 138 * hart in
    field file (place + 138) (some_if (view_wrong file place) (fault_of kinds.View place))

-- the output: its length, then so many bytes
unfoldable pub output_fault : List ℕ → ℕ → Option FileFault
output_fault file place =
    option_or
    (field file (place + 4) (some_if (nat_lt output_limit (number_at file place)) (fault_of kinds.Output place)))
    (field file (place + 4 + number_at file place) None)

-- the number of lines
unfoldable pub line_count_fault : List ℕ → ℕ → Option FileFault
line_count_fault file place =
    field file (place + 4) (some_if (nat_lt most_lines (number_at file place)) (fault_of kinds.Lines place))

-- a line: its number, then its bytes, which may be any
unfoldable pub line_fault : List ℕ → ℕ → ℕ → Option FileFault
line_fault file lines index =
    let place = line_place lines index in
    option_or
    (field file (place + 4) (some_if (line_wrong (line_at file lines) index) (fault_of kinds.Lines place)))
    (field file (place + 68) None)

-- bytes follow the last field, which ends here
unfoldable pub tail_fault : List ℕ → ℕ → Option FileFault
tail_fault file end = some_if (nat_lt end (length file)) (fault_of kinds.Tail end)

-- the first fault of a file, if it has one
unfoldable pub certificate_fault : List ℕ → Option FileFault
certificate_fault file =
    first_of
    (head_fault file
    ∷ first_below (stretch_count file) (stretch_fault file (harts_of file))
    ∷ first_below (harts_of file) (view_fault file (view_place file 0))
    ∷ output_fault file (output_place file)
    ∷ line_count_fault file (lines_place file)
    ∷ first_below (line_count file) (line_fault file (lines_place file))
    ∷ tail_fault file (line_place (lines_place file) (line_count file))
    ∷ [])

-- ---- what the fields say

abbrev pub stretch_at : List ℕ → ℕ → Stretch
stretch_at file index = record { hart = hart_id (hart_at file index); count = count_at file index }

-- x0 is 0 and not in the file: x1 follows the pc
abbrev pub register_at : List ℕ → ℕ → ℕ → ℕ
register_at file place register = if register == 0 then 0 else number_at file (place + 4 * register)

abbrev pub registers_at : List ℕ → ℕ → List ℕ
registers_at file place = map (register_at file place) (range_with_len 0 32)

abbrev pub reserved_at : ℕ → ℕ → Option ℕ
reserved_at flag word = if flag == 0 then None else Some word

-- a trapped hart's own pc is the trap's
abbrev pub status_at : ℕ → ℕ → ℕ → HartStatus
status_at status number pc = if status == 0 then Running else if status == 1 then Exited number else Trapped number pc

unfoldable pub view_at : List ℕ → ℕ → HartView
view_at file place = record {
  pc = number_at file place;
  regs = registers_at file place;
  reserved = reserved_at (slice_index file (place + 128)) (number_at file (place + 129));
  status = status_at (slice_index file (place + 133)) (number_at file (place + 134)) (number_at file place);
}

abbrev pub patch_at : List ℕ → ℕ → ℕ → Patch
patch_at file lines index =
    record { line = line_addr (line_at file lines index); bytes = take 64 (drop (line_place lines index + 4) file) }

abbrev pub stretches_at : List ℕ → List Stretch
stretches_at file = map (stretch_at file) (range_with_len 0 (stretch_count file))

abbrev pub views_at : List ℕ → List HartView
views_at file = map (λ hart. view_at file (view_place file hart)) (range_with_len 0 (harts_of file))

abbrev pub output_at : List ℕ → List ℕ
output_at file = take (output_length file) (drop (output_place file + 4) file)

abbrev pub lines_at : List ℕ → List Patch
lines_at file = map (patch_at file (lines_place file)) (range_with_len 0 (line_count file))

unfoldable pub content_of : List ℕ → Content
content_of file = record {
  harts = harts_of file;
  stretches = stretches_at file;
  views = views_at file;
  output = output_at file;
  lines = lines_at file;
}
