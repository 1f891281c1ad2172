use Rattle.std.proofs.Common.{◌≡◌, ◌≤◌, ◌+◌, ◌*◌, ◌-◌, ◌++◌, None, length, vec_capacity}
use Rattle.chronicle.specs.Chronicle.{events}
use Rattle.trace_file.specs.Faults.{entries_fault}
use Rattle.trace_file.specs.Reading.{entries_in}
use Rattle.trace_file.specs.Spelling.{outcomes}
use Rattle.trace_file.proofs.entries.entries_of.Given as goal

abbrev pub invariant-loop : goal.invariant-loop
invariant-loop l = record {
  faultless : entries_fault l.harts (l.count - l.counter) l.place l.rest ≡ None;
  near : l.place ≤ 22 + 10 * l.counter;
  events : l.made.items ++ events (entries_in l.harts (l.count - l.counter) l.rest)
      ≡ events (entries_in l.harts l.count l.bytes);
  outcomes : l.recorded.items ++ outcomes (entries_in l.harts (l.count - l.counter) l.rest)
      ≡ outcomes (entries_in l.harts l.count l.bytes);
  many : length l.made.items ≡ l.counter;
  as_many : length l.recorded.items ≡ l.counter;
  room : l.count ≤ vec_capacity l.made;
  as_much_room : l.count ≤ vec_capacity l.recorded;
}
