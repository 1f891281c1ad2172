-- the number so far, and what the rest makes of it
use Rattle.std.proofs.Common.{◌≡◌, ◌<◌, ◌^◌, drop}
use Rattle.command_line.specs.Numbers.{digits_number}
use Rattle.command_line.proofs.numbers.number_of_digits.Given as goal

abbrev pub invariant-loop-digit : goal.invariant-loop-digit
invariant-loop-digit l =
    record {
      whole : digits_number l.number (drop l.digit-index l.digits) ≡ digits_number 0 l.digits;
      small : l.number < 10 ^ l.digit-index;
    }
