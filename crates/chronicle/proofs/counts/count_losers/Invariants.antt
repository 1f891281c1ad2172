use Rattle.std.proofs.Common.{◌≡◌, length}
use Rattle.std.specs.Prelude.{is_some}
use Rattle.el_base.specs.Losers.{beaten_by}
use Rattle.chronicle.proofs.Losing.{CountedBelow}
use Rattle.chronicle.proofs.counts.count_losers.Given as goal

abbrev pub invariant-loop-number : goal.invariant-loop-number
invariant-loop-number l = record {
  length : length l.tallies ≡ 8;
  counted : CountedBelow (λ hart. is_some (beaten_by l.losers hart)) l.initial.tallies l.tallies l.number;
}
