use Rattle.std.proofs.Common.{◌≡◌, ◌≤◌, length, map, take, vec_capacity}
use Rattle.trace_file.specs.Reading.{event_in}
use Rattle.trace_file.proofs.reading.events_of.Given as goal

abbrev pub invariant-loop-byte : goal.invariant-loop-byte
invariant-loop-byte l = record {
  read : l.list.items ≡ map event_in (take l.byte-index l.bytes);
  room : length l.bytes ≤ vec_capacity l.list;
}
