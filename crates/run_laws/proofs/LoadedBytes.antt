-- the memory of a program that a file loads is bytes, where the file is
use Rattle.std.proofs.Common.{◌≡◌, ◌≤◌, ◌<◌, ◌+◌, ℕ, List, Option, None, Some, length, map, arith, refl, Bool, true}
use Rattle.std.proofs.Common.{false}
use Rattle.std.specs.List.{range_with_len}
use Rattle.std.specs.Prelude.{nat_lt, slice_index}
use Rattle.std.specs.Option.{option_map_or}
use Rattle.std.proofs.Math.ListN.{get_or-eq_default}
use Rattle.std.proofs.lemmas.Bool.{ltb-false, ltb-true}
use Rattle.std.proofs.lemmas.List.FromFn.{get_or-map-range_with_len, length-map-range_with_len}
use Rattle.elf_image.specs.Loaded.{file_byte, loaded_byte, loaded_bytes, program_of}
use Rattle.elf_image.specs.declared.program_header.ProgramHeader.{ProgramHeader}
use Rattle.rv_flat.specs.Memory.{AreBytes}
use Rattle.run_laws.specs.Laws.{LoadedProgramsAreBytes}

found_small : (file : List ℕ) (address : ℕ) (found : Option ProgramHeader) → AreBytes file →
    option_map_or (file_byte file address) found 0 < 256
found_small file address None bytes = omega arith
found_small file address (Some segment) bytes = bytes _

made_small : (f : ℕ → ℕ) (from count place : ℕ) → ((n : ℕ) → f n < 256) →
    slice_index (map f (range_with_len from count)) place < 256
made_small f from count place small = by (nat_lt place count) refl
  where
    by : (within : Bool) → nat_lt place count ≡ within → slice_index (map f (range_with_len from count)) place < 256
    by true is =
        rw (get_or-map-range_with_len f from count place (from + place) 0 (ltb-true place count is) refl)
        (small (from + place))
    by false is =
        let past = ltb-false place count is in
        let end : length (map f (range_with_len from count)) ≤ place =
        omega (arith, past, length-map-range_with_len f from count) in
        rw (get_or-eq_default (map f (range_with_len from count)) 0 end) (omega arith)

pub loaded_programs_are_bytes : LoadedProgramsAreBytes
unfolding program_of loaded_bytes loaded_byte
loaded_programs_are_bytes file harts bytes place = made_small _ _ _ place (λ address. found_small file address _ bytes)
