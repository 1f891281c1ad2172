-- Laws of what one owner's calls leave to the others, for who keeps slots of a pool.
use Rattle.std.proofs.Common.{◌≡◌, ◌≢◌, ℕ, ◌<◌, ◌≤◌, nat_lt, true, List, length, slice_index, refl, ap, sym, ◌∙◌, inl}
use Rattle.std.proofs.Common.{inr, arith}
use Rattle.std.proofs.lemmas.Bool.{cases_eq, cases_lt}
use Rattle.std.proofs.lemmas.Bool.Decides.{nat_tests}
use Rattle.std.proofs.lemmas.List.{get_or_past}
use Rattle.line_pool.specs.declared.slot.Slot.{Slot}
use Rattle.line_pool.specs.Calls.{IsGiven, IsTaken, IsWritten}
use Rattle.line_pool.specs.Keeping.{Keeps, times_among}
use Rattle.line_pool.specs.Others.{LeavesOthers}
use Rattle.line_pool.specs.Pooled.{Pooled, bytes_of, has_slot, owner_of, quota_of, quotas_of}
use Rattle.line_pool.proofs.Laws.{has-out, kept-out, kept-owner, owners_apart}

-- a call that does nothing, and one after another
pub leaves-same : (owner : ℕ) (pool : Pooled) → LeavesOthers owner pool pool
leaves-same owner pool =
    record { outs = λ s apart. refl; counts = λ o apart. refl; bytes = λ s apart has. refl; quotas = refl }

pub same_has : (old new : Pooled) (slot : Slot) → quotas_of new ≡ quotas_of old → has_slot new slot ≡ has_slot old slot
same_has old new slot same = ap (λ quotas. nat_lt slot.place (slice_index quotas slot.owner)) same

pub leaves-then : (owner : ℕ) (old between new : Pooled) → LeavesOthers owner old between →
    LeavesOthers owner between new
    → LeavesOthers owner old new
leaves-then owner old between new first second = record {
  outs = λ s apart. second.outs s apart ∙ first.outs s apart;
  counts = λ o apart. second.counts o apart ∙ first.counts o apart;
  bytes = λ s apart has. second.bytes s apart (same_has old between s first.quotas ∙ has) ∙ first.bytes s apart has;
  quotas = second.quotas ∙ first.quotas;
}

-- what each call of a pool leaves
pub leaves-taken : (owner : ℕ) (old new : Pooled) (slot : Slot) → IsTaken old new owner slot →
    LeavesOthers owner old new
leaves-taken owner old new slot taken = record {
  outs = λ s apart. taken.others s (owners_apart slot s (λ same. apart (same ∙ taken.owned)));
  counts = taken.other_counts;
  bytes = λ s apart has. taken.bytes s;
  quotas = taken.quotas;
}

pub leaves-given : (old new : Pooled) (slot : Slot) → IsGiven old new slot → LeavesOthers (owner_of slot) old new
leaves-given old new slot given = record {
  outs = λ s apart. given.others s (owners_apart slot s apart);
  counts = given.other_counts;
  bytes = λ s apart has. given.bytes s;
  quotas = given.quotas;
}

pub leaves-written : (old new : Pooled) (slot : Slot) (bytes : List ℕ) → IsWritten old new slot bytes →
    LeavesOthers (owner_of slot) old new
leaves-written old new slot bytes written = record {
  outs = λ s apart. written.outs s;
  counts = λ o apart. written.counts o;
  bytes = λ s apart has. written.others s has (owners_apart slot s apart);
  quotas = written.quotas;
}

-- what they leave to a keeper of another owner: all that it keeps, and the bytes of each slot of it
pub keeps-left : (owner other : ℕ) (old new : Pooled) (slots : List Slot) → LeavesOthers owner old new → other ≢ owner
    → Keeps old other slots → Keeps new other slots
keeps-left owner other old new slots leaves apart keeps = record {
  own = keeps.own;
  out = λ s. elim (cases_eq s.owner other) [
    | inl mine ↦ grind (arith, nat_tests, keeps.out s, leaves.outs s (λ same. apart (sym mine ∙ same)))
    | inr differs ↦ omega (arith, keeps.own s differs)
  ];
  all = keeps.all ∙ sym (leaves.counts other apart);
}

pub bytes-left : (owner other : ℕ) (old new : Pooled) (slots : List Slot) (slot : Slot) →
    LeavesOthers owner old new → other ≢ owner
    → Keeps old other slots → 1 ≤ times_among slots slot → bytes_of new slot ≡ bytes_of old slot
bytes-left owner other old new slots slot leaves apart keeps among =
    leaves.bytes slot (λ same. apart (sym (kept-owner old other slots slot keeps among) ∙ same))
    (has-out old slot (kept-out old other slots slot keeps among))

pub quota-left : (owner other : ℕ) (old new : Pooled) → LeavesOthers owner old new →
    quota_of new other ≡ quota_of old other
quota-left owner other old new leaves = ap (λ quotas. slice_index quotas other) leaves.quotas

-- an owner with a quota is one of the pool's, and has no more out than it
pub owner-there : (pool : Pooled) (owner : ℕ) → 0 < quota_of pool owner → owner < length (quotas_of pool)
owner-there pool owner some = elim (cases_lt owner (length (quotas_of pool))) [
  | inl within ↦ within
  | inr past ↦ absurd (omega (arith, some, get_or_past (quotas_of pool) owner 0 past))
]
