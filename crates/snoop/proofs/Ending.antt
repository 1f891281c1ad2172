-- a bus of which one section has ended is ready
use Rattle.std.proofs.Common.{ℕ, refl}
use Rattle.snoop.proofs.Lent.{ClearsOne, clears_one, lies_in_yet, one_room, one_unmarked, one_well_formed}
use Rattle.snoop.proofs.Ready.{ready_after}
use Rattle.snoop.specs.Changing.{IsClearedAt}
use Rattle.snoop.specs.Shows.{Holding, IsReady, BusState}

pub ready_ended : (bus : BusState) (copies : Holding) (h : ℕ) → IsReady bus → IsClearedAt h bus.copies copies →
    IsReady (record bus { copies = copies })
ready_ended bus copies h ready ended = ready_after bus (record bus { copies = copies }) ready (record {
  mode = refl;
  agent_each = refl;
  cache_each = cleared.stays.caches;
  well_formed = one_well_formed cleared ready.well_formed;
  inside = λ line has. lies_in_yet line cleared.stays has;
  once = ready.once;
  raised = λ g asked is. record { is = is; room = one_room cleared g asked.line };
  ordered = λ g asked is. record { is = is; room = one_room cleared g asked.line };
  few_armed = ready.few_armed;
  unmarked = one_unmarked cleared;
})
  where
    cleared : ClearsOne h bus.copies copies
    cleared = clears_one h bus.copies copies ended
