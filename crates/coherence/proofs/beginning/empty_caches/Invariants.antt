-- an empty cache for each hart so far
use Rattle.std.proofs.Common.{◌≡◌, map}
use Rattle.std.specs.List.{range_with_len}
use Rattle.cache_sets.specs.Slotted.{empty_slotted}
use Rattle.coherence.proofs.beginning.empty_caches.Given as goal

abbrev pub invariant-loop-hart : goal.invariant-loop-hart
invariant-loop-hart l =
    l.caches.items ≡ map (λ h. empty_slotted l.config.ways l.config.sets h) (range_with_len 0 l.hart)
