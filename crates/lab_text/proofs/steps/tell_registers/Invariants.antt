use Rattle.std.proofs.Common.{◌≡◌, ◌≤◌, ◌+◌, ◌++◌}
use Rattle.std.specs.List.{flat_map, range_with_len}
use Rattle.arrayvec.specs.ArrayVec.{array_vec_len}
use Rattle.lab_text.proofs.steps.tell_registers.Given as goal
use Rattle.lab_text.specs.Items.{register_item}
use Rattle.rv_alu.specs.Regs.{get}

abbrev pub invariant-loop-number : goal.invariant-loop-number
invariant-loop-number l =
    (l.list.items ≡ l.initial.list.items
    ++ flat_map (λ n. register_item n (get l.before.regs n) (get l.after.regs n)) (range_with_len 0 l.number))
    × (array_vec_len l.list ≤ array_vec_len l.initial.list + l.number)
