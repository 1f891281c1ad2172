use Rattle.std.proofs.Common.{◌≡◌, length, take}
use Rattle.chronicle.specs.Chronicle.{events}
use Rattle.trace_file.specs.Spelling.{outcomes}
use Rattle.file_vectors.proofs.traces.history_of.Given as goal

abbrev pub invariant-loop-place : goal.invariant-loop-place
invariant-loop-place l = record {
  made : events l.history.entries ≡ take l.place l.made;
  recorded : outcomes l.history.entries ≡ take l.place l.recorded;
  pushed : length l.history.entries ≡ l.place;
  places : l.history.places ≡ length l.made;
}
