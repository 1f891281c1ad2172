-- an action of a section that ran over its port
use Rattle.std.proofs.Common.{◌≡◌, ℕ, ◌+◌, ◌<◌, ◌≤◌, Bool, if◌then◌else◌, List, Option, None, Some, refl, ap, sym}
use Rattle.std.proofs.Common.{subst, ◌∙◌, arith}
use Rattle.std.specs.Option.{unwrap_or}
use Rattle.std.proofs.lemmas.Bool.Decides.{nat_tests}
use Rattle.residency.specs.Cache.{marked, touched, write_bits_of}
use Rattle.cache_sets.specs.Cached.{Cached, cached_byte}
use Rattle.cache_sets.specs.Calls.{IsTouched}
use Rattle.cache_sets.specs.Slotted as caches
use Rattle.line_pool.specs.Others.{LeavesOthers}
use Rattle.line_pool.specs.Pooled.{Pooled}
use Rattle.line_pool.proofs.Laws.OtherLaws.{leaves-same}
use Rattle.residency.specs.Residency.{Way}
use Rattle.core_step.specs.Port.{stored}
use Rattle.core_step.specs.Run.{ended_by, ended_of, lacking, store_when, view_when}
use Rattle.core_step.specs.declared.ended.Ended.{Ended}
use Rattle.core_step.proofs.Laws.Bytes.{stored_inside, stored_outside}
use Rattle.el_base.specs.declared.outcomes.Need.{Need}
use Rattle.el_model.specs.Upcoming.{Touch, touch_of}
use Rattle.section_view.specs.PrivateRun.{HasItsBit}
use Rattle.rv_alu.specs.Execution.{Execution, Goes, Stops, Store, store_in, view_after}
use Rattle.rv_alu.specs.declared.footprint.Access.{Access}
use Rattle.rv_alu.specs.declared.footprint.Access.TheVariants as accesses
use Rattle.rv_alu.specs.declared.view.HartView.{HartView}
use Rattle.section_ctl.proofs.Room.{room_for_written}
use Rattle.section_ctl.specs.Calls.{IsCoveredIn}
use Rattle.section_ctl.specs.Lent.{LendsBoth, MayPut}
use Rattle.section_ctl.specs.Shown.{IsTouchedLine, permits_one, port_byte}
use Rattle.section_view.proofs.Laws.ShownBytes.{Inside, Outside, in_word}
use Rattle.section_view.specs.KeptRun.{HoldsMarked, held_over, section_byte}
use Rattle.section_view.specs.Laws.{HoldsAfter}
use Rattle.write_hold.specs.Calls.{IsHold}
use Rattle.write_hold.specs.Held.{Entry, Held, held}
use Rattle.write_hold.specs.Slotted as holds

-- what a port shows is what the section shows, since no byte of the lock word is held
byte_shown : (entries : List Entry) (word new : ℕ) (cache : Cached) →
    ((address : ℕ) → word ≤ address → address < word + 4 → held entries address ≡ None) →
    (address : ℕ) → port_byte entries word new cache address ≡ section_byte entries word new (cached_byte cache) address
byte_shown entries word new cache free address = elim (in_word word address) [
  | Inside low high ↦
      ap (λ byte. unwrap_or byte (stored (cached_byte cache) word 4 new address)) (free address low high)
      ∙ stored_inside (cached_byte cache) word 4 new address low high
      ∙ sym (stored_inside (held_over entries (cached_byte cache)) word 4 new address low high)
  | Outside beside ↦
      ap (unwrap_or (held entries address)) (stored_outside (cached_byte cache) word 4 new address beside)
      ∙ sym (stored_outside (held_over entries (cached_byte cache)) word 4 new address beside)
]

pub bytes_shown : (entries : List Entry) (word new : ℕ) (cache : Cached) →
    ((address : ℕ) → word ≤ address → address < word + 4 → held entries address ≡ None) →
    port_byte entries word new cache ≡ section_byte entries word new (cached_byte cache)
bytes_shown entries word new cache free = λ k address. byte_shown entries word new cache free address k

-- a line that is touched, with its bit, is permitted
pub permitted : (access : Access) (line : ℕ) (cache : List (List Way)) (hold : Held) → IsTouchedLine access line →
    HasItsBit cache (touch_of access) → IsHold hold → HoldsMarked cache hold.entries →
    write_bits_of cache ≤ hold.limit → lacking (permits_one line cache hold) access ≡ None
permitted (accesses.Read address len) line cache hold is bit sound marked few = grind (arith, nat_tests, is, bit)
permitted (accesses.Write address len) line cache hold is bit sound marked few =
    grind (arith, nat_tests, is, bit, room_for_written cache hold line sound marked few)
permitted accesses.Nothing line cache hold is bit sound marked few = refl
permitted (accesses.Trap cause) line cache hold is bit sound marked few = refl
permitted (accesses.Exit code) line cache hold is bit sound marked few = refl

-- nothing was lacking
module _ (result : Ended) (permits : ℕ → Need → Bool) (access : Access) (execution : Execution)
    (is : result ≡ ended_of (lacking permits access) execution) (nothing : lacking permits access ≡ None) where
  ended : result ≡ ended_by execution
  ended = is ∙ ap (λ l. ended_of l execution) nothing

  pub view_ran : (view : HartView) → view_when result execution view ≡ view_after execution view
  view_ran view = ap (λ e. view_when e execution view) ended ∙ by execution
    where
      by : (e : Execution) → view_when (ended_by e) e view ≡ view_after e view
      by (Stops status) = refl
      by (Goes new store append) = refl

  pub store_ran : store_when result execution ≡ store_in execution
  store_ran = ap (λ e. store_when e execution) ended ∙ by execution
    where
      by : (e : Execution) → store_when (ended_by e) e ≡ store_in e
      by (Stops status) = refl
      by (Goes new store append) = refl

-- what an action leaves of the hold, and of the pool that lends it
pub record RanInPool (cache : caches.Slotted) (old new : Pooled) (before after : holds.Slotted)
    (store : Option Store) : Type 0 where
  pub held : HoldsAfter store (holds.lent old before) (holds.lent new after)
  pub limit : after.limit ≡ before.limit
  pub lent : LendsBoth new cache after
  pub owner : after.owner ≡ before.owner
  pub others : LeavesOthers before.owner old new

module _ (cache : caches.Slotted) (old new : Pooled) (before after : holds.Slotted) where
  ran_by : (store : Option Store) → MayPut cache old new before after store → LendsBoth old cache before →
      RanInPool cache old new before after store
  ran_by None same owes =
      subst (λ pool. RanInPool cache old pool before after None) (sym same.0)
      (subst (λ hold. RanInPool cache old old before hold None) (sym same.1) (record {
        held = refl;
        limit = refl;
        lent = owes;
        owner = refl;
        others = leaves-same before.owner old;
      }))
  ran_by (Some store) put owes =
      record { held = put.put; limit = put.put.put.limit; lent = put.lent; owner = put.owner; others = put.others }

  pub ran_in_pool : (result : Ended) (permits : ℕ → Need → Bool) (access : Access) (execution : Execution) →
      result ≡ ended_of (lacking permits access) execution → lacking permits access ≡ None →
      MayPut cache old new before after (store_when result execution) → LendsBoth old cache before →
      RanInPool cache old new before after (store_in execution)
  ran_in_pool result permits access execution is nothing put owes =
      ran_by (store_in execution)
      (subst (MayPut cache old new before after) (store_ran result permits access execution is nothing) put) owes

-- a line that has its bit was touched
pub covered_touch : (old new : Cached) (touch : Touch) → HasItsBit old.residency (Some touch) →
    IsTouched old new touch.line → IsCoveredIn old new (Some touch)
covered_touch old new touch bit touches = record {
  ways = touches.ways;
  residency = touches.residency
      ∙ sym (ap (λ b. touched (if b then old.residency else marked old.residency touch.line touch.need) touch.line)
      bit);
  copies = touches.copies;
}
