-- what is put so far, and then the rest, is all that is put
use Rattle.std.proofs.Common.{◌≡◌, ◌-◌}
use Rattle.rv_flat.specs.Memory.{put_bytes}
use Rattle.cached_step.proofs.line_bytes.put_at.Given as goal

abbrev pub invariant-loop-at : goal.invariant-loop-at
invariant-loop-at l =
    put_bytes l.bytes l.at (l.at-end - l.at) l.rest ≡ put_bytes l.initial.bytes l.place l.len l.value
