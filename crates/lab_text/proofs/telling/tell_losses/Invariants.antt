use Rattle.std.proofs.Common.{◌≡◌, ◌≤◌, ◌+◌, ◌++◌}
use Rattle.std.specs.List.{flat_map, range_with_len}
use Rattle.arrayvec.specs.ArrayVec.{array_vec_len}
use Rattle.el_base.specs.Losers.{beaten_by}
use Rattle.lab_text.proofs.telling.tell_losses.Given as goal
use Rattle.lab_text.specs.Items.{loss_item}

abbrev pub invariant-loop-number : goal.invariant-loop-number
invariant-loop-number l =
    (l.list.items ≡ l.initial.list.items ++ flat_map (λ h. loss_item h (beaten_by l.losers h))
    (range_with_len 0 l.number))
    × (array_vec_len l.list ≤ array_vec_len l.initial.list + l.number)
