-- The limits of an image. They are this project's profile.
use Rattle.std.specs.Prelude.{ℕ}
use Rattle.el_base.specs.declared.line.TheConstants.{LINE_BYTES}

-- the most bytes of an image file
abbrev pub file_limit : ℕ
file_limit = 33554432

-- the most program headers
abbrev pub header_limit : ℕ
header_limit = 64

-- the bytes of a line, on which memory begins and ends
abbrev pub line_size : ℕ
line_size = LINE_BYTES

-- the bytes of each hart's stack, at the end of memory
abbrev pub stack_size : ℕ
stack_size = 65536

-- the most bytes of memory, stacks among them
abbrev pub memory_limit : ℕ
memory_limit = 16777216

-- the greatest address at which memory may end
abbrev pub end_limit : ℕ
end_limit = 0xffff0000

-- the bytes of a page, on which the segments of a written image begin
abbrev pub page_size : ℕ
page_size = 4096

-- the most bytes of the segments of a written image together
abbrev pub built_limit : ℕ
built_limit = 8388608

-- the last segment of a written image ends below this address
abbrev pub built_end_limit : ℕ
built_end_limit = 0xf0000000
