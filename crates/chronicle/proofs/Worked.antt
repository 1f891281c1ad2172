-- The definitions at two worked histories. In the first hart 1 runs an instruction and commits sections of three and
-- two, and a section of hart 0 loses to it.
use Rattle.std.proofs.Common.{◌≡◌, ◌==◌, if◌then◌else◌, List, [], ◌∷◌, Some, None, refl}
use Rattle.el_base.specs.Freed.{freed_of, no_one_freed, order_of}
use Rattle.el_base.specs.HartId.{hart_id}
use Rattle.el_base.specs.Losers.{losers_of}
use Rattle.el_base.specs.declared.events.Kind.{Kind}
use Rattle.el_base.specs.declared.events.Kind.TheVariants.{Order, Serve, Step}
use Rattle.el_base.specs.declared.entries.Entry.{Entry}
use Rattle.el_base.specs.declared.outcomes.Outcome.{Outcome}
use Rattle.el_base.specs.declared.outcomes.Outcome.TheVariants.{Armed, Committed, Idle, LetGo, Ordered, Ran, Served}
use Rattle.chronicle.specs.Serial.{serial}
use Rattle.chronicle.specs.Tally.{nothing, of_entry, tally_of}

abbrev of_hart_1 : Kind → Outcome → Entry
of_hart_1 kind outcome = record { event = record { kind = kind; hart = hart_id 1 }; outcome = outcome }

abbrev entries : List Entry
entries =
    of_hart_1 Step Ran
    ∷ of_hart_1 Serve (Served (losers_of (λ h. if h == 0 then Some 1 else None)) no_one_freed)
    ∷ of_hart_1 Step Idle
    ∷ of_hart_1 Step (Committed 3)
    ∷ of_hart_1 Step (Committed 2)
    ∷ []

-- hart 1 is ordered, and harts 0 and 3 are let go by it with two and one instructions; then it lets go one of its own
abbrev with_freed : List Entry
with_freed =
    of_hart_1 Order (Ordered (losers_of (λ h. None)) (freed_of (λ h. if h == 0 then 2 else if h == 3 then 1 else 0)))
    ∷ of_hart_1 Step Armed
    ∷ of_hart_1 Step (LetGo 1)
    ∷ []

worked_serial : serial entries ≡ 1 ∷ 1 ∷ 1 ∷ 1 ∷ 1 ∷ 1 ∷ []
unfolding order_of
worked_serial = refl

freed_in_order : serial with_freed ≡ 0 ∷ 0 ∷ 3 ∷ 1 ∷ []
unfolding order_of
freed_in_order = refl

winner : tally_of 1 entries ≡ record nothing { ran = 1; committed = 2; instr = 5 }
unfolding tally_of of_entry
winner = refl

loser : tally_of 0 entries ≡ record nothing { conflict = 1 }
unfolding tally_of of_entry
loser = refl

bystander : tally_of 2 entries ≡ nothing
unfolding tally_of of_entry
bystander = refl
