-- bytes of a line, put one after another
use Rattle.std.proofs.Common.{◌≡◌, ℕ, ◌+◌, ◌%◌, ◌<◌, List, length, arith}
use Rattle.std.specs.Prelude.{slice_set}
use Rattle.std.proofs.lemmas.Bool.Decides.{nat_tests}
use Rattle.std.proofs.lemmas.Grind.{common_steps}
use Rattle.el_base.specs.Line.{line_number}
use Rattle.el_base.specs.declared.line.TheConstants.{LINE_BYTES}
use Rattle.core_step.specs.Port.{byte_in_line, byte_of, stored}

-- nothing is stored yet
pub none_stored : (byte : ℕ → ℕ) (from value address : ℕ) → byte address ≡ stored byte from 0 value address
none_stored byte from value address = grind (arith, nat_tests)

-- one byte more
pub one_more_stored : (line : ℕ) (before now : List ℕ) (from n next value address : ℕ) → length now ≡ LINE_BYTES →
    line_number from ≡ line → from % LINE_BYTES + n < LINE_BYTES → next ≡ n + 1 →
    byte_in_line line now address ≡ stored (byte_in_line line before) from n value address →
    byte_in_line line (slice_set now (from % LINE_BYTES + n) (byte_of value n)) address
    ≡ stored (byte_in_line line before) from next value address
one_more_stored line before now from n next value address size there inside more so_far =
    grind (arith, common_steps, nat_tests)
