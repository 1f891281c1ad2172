-- a pool that has changed for some owners lends all others as before
use Rattle.std.proofs.Common.{◌≡◌, ◌≢◌, ◌∙◌, ℕ, ◌<◌, List, [], map, Option, Some, None, length, slice_index, ap, sym}
use Rattle.std.proofs.Common.{subst, arith}
use Rattle.std.specs.Prelude.{slice_index_or, slice_set}
use Rattle.std.proofs.lemmas.List.{ext_get_or, get_or_read, set-set}
use Rattle.cache_sets.specs.Cached.{copy_in}
use Rattle.cache_sets.specs.Calls.{IsCleared}
use Rattle.cache_sets.specs.Slotted as caches
use Rattle.cached_step.specs.Memory.{TellsMemory}
use Rattle.coherence.proofs.Laws.GivenBackLaws.{tells_same_copies}
use Rattle.coherence.proofs.Laws.Offered.{bytes-owner, is_lent-owner, keeps-owner, leaves_owner-same, lent-owner}
use Rattle.coherence.proofs.Laws.Offered.{lent_at, length-lent}
use Rattle.coherence.specs.Caches.{no_cache}
use Rattle.coherence.specs.GivenBack.{copies_with}
use Rattle.coherence.specs.Lent.{IsLentTo, LeavesOwner, lent_all, slotted_at}
use Rattle.coherence.specs.Served.{TellsOf}
use Rattle.el_model.specs.State.{ModelState, Section, cache_of, section_of}
use Rattle.engine.specs.Lent.{KeepsCopies}
use Rattle.engine.specs.Parts.{IsInState, IsOfHart, KeepsSectionOf, Parts, hold_owner, own_at}
use Rattle.engine.specs.Private.{with_own}
use Rattle.hart_state.specs.Own.{OwnState, new_own}
use Rattle.line_pool.specs.Pooled.{Pooled}
use Rattle.line_pool.proofs.Laws.{no_pool}
use Rattle.residency.specs.Cache.{cleared}
use Rattle.rv_flat.specs.FlatState.{no_hart}
use Rattle.section_ctl.specs.Lent.{LeavesBeside}
use Rattle.section_ctl.specs.State.{SectionState}
use Rattle.section_view.specs.KeptRun.{HoldsMarked, KeepsRun}
use Rattle.snoop.proofs.Laws.Returning.{told_returned}
use Rattle.snoop.specs.Returned.{returned}
use Rattle.snoop.specs.Shows.{BusState, Tells, TellsIn, lent_copies}
use Rattle.write_hold.proofs.Laws.{lent-alike}
use Rattle.write_hold.specs.Held.{Held}
use Rattle.write_hold.specs.Slotted.{IsLent, Slotted, lent, lent_entry, slots_of}

-- what holds nothing holds nothing in any pool
pub holds_none : (pool : Pooled) (hold : Slotted) → hold.entries ≡ [] → (lent pool hold).entries ≡ []
holds_none pool hold none = ap (map (lent_entry pool)) none

-- what is left of an owner's slots is left of a hold
pub hold_stays : (old new : Pooled) (hold : Slotted) → LeavesOwner hold.owner old new → IsLent old hold →
    lent new hold ≡ lent old hold
hold_stays old new hold leaves owes =
    lent-alike old new hold (λ slot among. bytes-owner hold.owner old new (slots_of hold) slot leaves owes.keeps among)

pub hold_lent : (old new : Pooled) (hold : Slotted) → LeavesOwner hold.owner old new → IsLent old hold → IsLent new hold
hold_lent old new hold leaves owes = record {
  there = subst (λ quotas. hold.owner < length quotas) (sym leaves.quotas) owes.there;
  quota = ap (λ quotas. slice_index quotas hold.owner) leaves.quotas ∙ owes.quota;
  keeps = keeps-owner hold.owner old new (slots_of hold) leaves owes.keeps;
}

-- and of what a hart keeps
section_left : (old new : Pooled) (state : ModelState) (h : ℕ) (live : Option Section) (kept : SectionState) →
    lent new kept.hold ≡ lent old kept.hold → KeepsSectionOf old state h live kept →
    KeepsSectionOf new state h live kept
section_left old new state h None kept same keeps = tt
section_left old new state h (Some section) kept same keeps = record {
  run =
      subst (λ (held : Held). KeepsRun state.committed h section kept.marks.present held.entries) (sym same) keeps.run;
  marked = subst (λ (held : Held). HoldsMarked (cache_of state h) held.entries) (sym same) keeps.marked;
}

pub own_left : (old new : Pooled) (state : ModelState) (h : ℕ) (own : OwnState) → LeavesOwner (hold_owner h) old new →
    IsOfHart old state h own → IsOfHart new state h own
own_left old new state h own leaves is =
    let mine = subst (λ owner. LeavesOwner owner old new) (sym is.owner) leaves in
    record {
      part = is.part;
      view = is.view;
      section =
          section_left old new state h (section_of state h) own.section
          (hold_stays old new own.section.hold mine is.lent) is.section;
      armed = is.armed;
      stands = is.stands;
      limit = is.limit;
      owner = is.owner;
      lent = hold_lent old new own.section.hold mine is.lent;
    }

-- what one hart's calls leave to another
pub hold_beside : (h g : ℕ) (old new : Pooled) → LeavesBeside h (hold_owner h) old new → h < 8 → g ≢ h →
    LeavesOwner (hold_owner g) old new
hold_beside h g old new leaves few other =
    leaves (hold_owner g) (λ same. absurd (omega (arith, same, few))) (λ same. other (omega (arith, same)))

pub cache_beside : (h g : ℕ) (old new : Pooled) → LeavesBeside h (hold_owner h) old new → g < 8 → g ≢ h →
    LeavesOwner g old new
cache_beside h g old new leaves few other = leaves g other (λ same. absurd (omega (arith, same, few)))

pub beside_same : (h : ℕ) (pool : Pooled) → LeavesBeside h (hold_owner h) pool pool
beside_same h pool owner apart other = leaves_owner-same owner pool

-- a hart's cache is given back to such a pool: what it and main memory tell with the other caches is told
pub told_back : (old new : Pooled) (bus : BusState) (h : ℕ) (cache : caches.Slotted) (bytes told : ℕ → List ℕ) →
    Tells old bus bytes → h < length bus.copies.caches → cache.owner ≡ (slotted_at bus.copies.caches h).owner →
    caches.IsLent new cache → LeavesBeside h (hold_owner h) old new →
    TellsOf (copies_with (lent_copies old bus.copies) h (caches.lent new cache)) told →
    Tells new (returned bus h cache) told
told_back old new bus h cache bytes told tells inside owner kept leaves back =
    told_returned old new bus h cache bytes told tells inside owner kept
    (λ g other within. cache_beside h g old new leaves (omega (arith, within, tells.lent.few)) other) back

-- the caches are left where no owner of them has changed
module _ (old new : Pooled) (all : List caches.Slotted) (owed : IsLentTo old all)
    (leaves : (g : ℕ) → g < 8 → LeavesOwner g old new) where
  left_at : (g : ℕ) → g < length all → LeavesOwner (slotted_at all g).owner old new
  left_at g within =
      subst (λ owner. LeavesOwner owner old new) (sym (owed.owned g within))
      (leaves g (omega (arith, within, owed.few)))

  caches_left : lent_all new all ≡ lent_all old all
  caches_left =
      ext_get_or no_cache (lent_all new all) (lent_all old all) (length-lent new all ∙ sym (length-lent old all))
      (λ g within.
      let inside : g < length all = omega (arith, within, length-lent new all) in
      lent_at new all g ∙ lent-owner old new (slotted_at all g) (left_at g inside) (owed.each g inside)
      ∙ sym (lent_at old all g))

  lent_left : IsLentTo new all
  lent_left = record {
    few = owed.few;
    owned = owed.owned;
    each = λ g within. is_lent-owner old new (slotted_at all g) (left_at g within) (owed.each g within);
  }

pub told_left : (old new : Pooled) (bus : BusState) (bytes : ℕ → List ℕ) → ((g : ℕ) → g < 8 → LeavesOwner g old new) →
    Tells old bus bytes → Tells new bus bytes
told_left old new bus bytes leaves tells = record {
  lent = lent_left old new bus.copies.caches tells.lent leaves;
  told =
      subst (λ list. TellsOf (record (lent_copies old bus.copies) { caches = list }) bytes)
      (sym (caches_left old new bus.copies.caches tells.lent leaves)) tells.told;
}

-- what is read at an index is what the hart of that number keeps, in the list as it was
pub own_read : (harts old : List OwnState) (i h : ℕ) (own : OwnState) → harts ≡ old → i ≡ h → h < length old →
    own ≡ slice_index_or harts i own → own ≡ own_at old h
own_read harts old i h own same at exists read =
    get_or_read harts i own (omega (arith, at, ap length same, exists)) read (new_own no_hart 0 0)
    ∙ ap (own_at harts) at ∙ ap (λ list. own_at list h) same

-- a pool, a cache and what one hart keeps were put into the parts
pub put_own : (old : Parts) (h i : ℕ) (pool : Pooled) (cache : caches.Slotted) (own now : OwnState) → i ≡ h →
    own ≡ now → record old { pool = pool; bus = returned old.bus h cache; harts = slice_set old.harts i own }
    ≡ with_own old h pool cache now
put_own old h i pool cache own now at is =
    ap (λ n. record old { pool = pool; bus = returned old.bus h cache; harts = slice_set old.harts n own }) at
    ∙ ap (with_own old h pool cache) is

-- a cache is given back to such a pool, and no copy in it has changed
pub told_moved : (old new : Pooled) (bus : BusState) (h : ℕ) (cache : caches.Slotted) (bytes : ℕ → List ℕ) →
    Tells old bus bytes → h < length bus.copies.caches → cache.owner ≡ (slotted_at bus.copies.caches h).owner →
    caches.IsLent new cache → LeavesBeside h (hold_owner h) old new →
    ((line : ℕ) → copy_in (caches.lent new cache) line ≡ copy_in (caches.lent old (slotted_at bus.copies.caches h))
    line) → Tells new (returned bus h cache) bytes
told_moved old new bus h cache bytes tells inside owner kept leaves same =
    told_back old new bus h cache bytes bytes tells inside owner kept leaves
    (tells_same_copies (lent_copies old bus.copies) h (caches.lent new cache) bytes tells.told
    (λ line. same line ∙ ap (λ c. copy_in c line) (sym (lent_at old bus.copies.caches h))))

-- a cache is given back of which no copy has changed
pub told_same : (pool : Pooled) (bus : BusState) (h : ℕ) (cache : caches.Slotted) (bytes : ℕ → List ℕ) →
    Tells pool bus bytes → h < length bus.copies.caches → KeepsCopies (slotted_at bus.copies.caches h) cache →
    Tells pool (returned bus h cache) bytes
told_same pool bus h cache bytes tells inside keeps =
    told_moved pool pool bus h cache bytes tells inside keeps.owner (keeps.lent pool (tells.lent.each h inside))
    (beside_same h pool)
    (keeps.copies pool)

-- the copies are as they were
pub told_copies : (pool : Pooled) (old new : BusState) (bytes : ℕ → List ℕ) → new.copies ≡ old.copies →
    Tells pool old bytes → Tells pool new bytes
told_copies pool old new bytes same tells = subst (λ copies. TellsIn pool copies bytes) (sym same) tells

-- caches and main memory tell the bytes of memory, and the pool lends a hart's cache
pub tells_memory : (parts : Parts) (state : ModelState) → IsInState parts state →
    TellsMemory (lent_copies parts.pool parts.bus.copies) state.committed
tells_memory parts state is = record {
  placed = is.shows.memory;
  bytes = is.told.told;
}

-- a cache that has no bits any more, and no copy of which has changed
pub record IsClearedThere (old new : caches.Slotted) : Type 0 where
  pub ways : new.ways ≡ old.ways
  pub residency : new.residency ≡ cleared old.residency
  pub keeps : KeepsCopies old new

pub cleared_there : (old new : caches.Slotted) →
    ((pool : Pooled) → IsCleared (caches.lent pool old) (caches.lent pool new)) →
    ((pool : Pooled) → caches.IsLent pool old → caches.IsLent pool new) → new.owner ≡ old.owner → IsClearedThere old new
cleared_there old new clears lends owner = record {
  ways = (clears no_pool).ways;
  residency = (clears no_pool).residency;
  keeps = record { owner = owner; lent = lends; copies = λ pool line. (clears pool).copies line };
}

-- a cache was given back twice
pub given_twice : (old : Parts) (h : ℕ) (mid : caches.Slotted) (pool : Pooled) (cache : caches.Slotted)
    (own : OwnState) → with_own (record old { bus = returned old.bus h mid }) h pool cache own
    ≡ with_own old h pool cache own
given_twice old h mid pool cache own =
    ap (λ list. record (with_own old h pool cache own) {
      bus = record old.bus { copies = record old.bus.copies { caches = list } };
    }) (set-set old.bus.copies.caches h mid cache)
