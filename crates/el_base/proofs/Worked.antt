-- Harts, lines and losers that are made of numbers, computed at worked values.
use Rattle.std.proofs.Common.{◌≡◌, ℕ, ◌==◌, if◌then◌else◌, Option, Some, None, refl}
use Rattle.el_base.specs.Freed.{count_in, freed_of, no_one_freed}
use Rattle.el_base.specs.HartId.{hart_id}
use Rattle.el_base.specs.Line.{line_number}
use Rattle.el_base.specs.LineAddr.{line_addr}
use Rattle.el_base.specs.Losers.{beaten_by, losers_of}

-- hart 2 lost to hart 5, and hart 7 to a hart that no machine has
abbrev lost_to : ℕ → Option ℕ
lost_to h = if h == 2 then Some 5 else if h == 7 then Some 9 else None

loser : beaten_by (losers_of lost_to) 2 ≡ Some 5
loser = refl

no_loser : beaten_by (losers_of lost_to) 3 ≡ None
no_loser = refl

lost_to_no_hart : beaten_by (losers_of lost_to) 7 ≡ None
lost_to_no_hart = refl

-- maps that agree on harts 0 to 7 make one value
one_value : losers_of lost_to
    ≡ losers_of (λ h. if h == 7 then Some 9 else if h == 2 then Some 5 else if h == 8 then Some 0 else None)
one_value = refl

-- hart 1 was freed with 15 instructions, and hart 6 with 2
abbrev kept_back : ℕ → ℕ
kept_back h = if h == 1 then 15 else if h == 6 then 2 else 0

freed : count_in (freed_of kept_back) 1 ≡ 15
freed = refl

freed_with_two : count_in (freed_of kept_back) 6 ≡ 2
freed_with_two = refl

not_freed : count_in (freed_of kept_back) 0 ≡ 0
not_freed = refl

no_hart_freed : count_in no_one_freed 6 ≡ 0
no_hart_freed = refl

hart : (hart_id 7).number ≡ 7
hart = refl

no_hart : (hart_id 8).number ≡ 0
no_hart = refl

line : (line_addr (line_number 0xffffffff)).number ≡ 0x3ffffff
line = refl

no_line : (line_addr 0x4000000).number ≡ 0
no_line = refl
