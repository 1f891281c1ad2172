use Rattle.std.proofs.Common.{◌≡◌, ℕ, ◌<◌, length, slice_index_or}
use Rattle.residency.specs.Cache.{letter_of}
use Rattle.el_model.specs.State.{cache_of}
use Rattle.lab.proofs.showing.letters_of.Given as goal
use Rattle.machine.specs.Story.{state_of}
use Rattle.moesi.specs.declared.letter.Letter.TheVariants.{I}

abbrev pub invariant-loop-number : goal.invariant-loop-number
invariant-loop-number l =
    (length l.letters ≡ 8)
    × ((h : ℕ) → h < l.number → h < length (state_of l.machine).harts →
    slice_index_or l.letters h I ≡ letter_of (cache_of (state_of l.machine) h) l.line.number)
