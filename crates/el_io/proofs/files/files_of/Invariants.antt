use Rattle.std.proofs.Common.{◌≡◌, ◌≤◌, ℕ, List, length, drop}
use Rattle.el_io.specs.Files.{file_of, file_given}
use Rattle.el_io.proofs.files.files_of.Given as goal

abbrev pub invariant-loop-place : goal.invariant-loop-place
invariant-loop-place l =
    (l.place ≤ length l.names)
    × ((name : List ℕ) → file_of l.files name ≡ file_given (drop l.place l.names) (drop l.place l.contents) name)

abbrev pub decreases-loop-place : goal.decreases-loop-place
decreases-loop-place l = l.place
