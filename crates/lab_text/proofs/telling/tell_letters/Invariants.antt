use Rattle.std.proofs.Common.{◌≡◌, ◌≤◌, ◌+◌, ◌++◌}
use Rattle.std.specs.List.{flat_map, range_with_len}
use Rattle.std.specs.Prelude.{slice_index_or}
use Rattle.arrayvec.specs.ArrayVec.{array_vec_len}
use Rattle.lab_text.proofs.telling.tell_letters.Given as goal
use Rattle.lab_text.specs.Items.{letter_item}
use Rattle.moesi.specs.declared.letter.Letter.TheVariants.{I}

abbrev pub invariant-loop-number : goal.invariant-loop-number
invariant-loop-number l =
    (l.list.items ≡ l.initial.list.items
    ++ flat_map (λ h. letter_item h (slice_index_or l.before h I) (slice_index_or l.after h I))
    (range_with_len 0 l.number))
    × (array_vec_len l.list ≤ array_vec_len l.initial.list + l.number)
