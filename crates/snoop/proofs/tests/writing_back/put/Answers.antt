-- the bus is ready again after the store, and tells what was stored
use Rattle.std.proofs.Common.{◌≡◌, ◌≢◌, ◌∙◌, ◌<◌, ℕ, ap, false, length, option_map, subst, sym, true}
use Rattle.residency.specs.Cache.{has_marks, is_resident, letter_of}
use Rattle.residency.specs.WellFormed.{IsWellFormed}
use Rattle.cache_sets.specs.Cached.{copy_with_letter}
use Rattle.cache_sets.specs.Calls.{IsTouched}
use Rattle.cache_sets.specs.Slotted.{Slotted, lent, slot_of}
use Rattle.coherence.specs.Caches.{cache_at}
use Rattle.coherence.specs.GivenBack.{IsStoredIn, bytes_with}
use Rattle.coherence.specs.Lent.{LeavesOwner, slotted_at}
use Rattle.coherence.proofs.Laws.Fetched.{copy_resident}
use Rattle.coherence.proofs.Laws.GivenBackLaws.{tells_stored, writable_there}
use Rattle.coherence.proofs.Laws.LoanSteps.{stored_by_calls}
use Rattle.coherence.proofs.Laws.Offered.{leaves_owner, lent_at}
use Rattle.coherence.proofs.Laws.Owners.{copy_is}
use Rattle.line_pool.specs.Pooled.{Pooled}
use Rattle.line_pool.specs.Pooled as pools
use Rattle.moesi.specs.Letters.{may_write}
use Rattle.moesi.specs.declared.letter.Letter.TheVariants.{M}
use Rattle.snoop.proofs.Laws.Returning.{ready_returned, told_returned, unasked_returned, unmarked_by_calls}
use Rattle.snoop.proofs.Laws.Returning.{well_formed_by_calls}
use Rattle.snoop.proofs.tests.writing_back.put.Goals as goal
use Rattle.snoop.specs.Shows.{bus_state, lent_copies}

touched_there : (pool : Pooled) (own touched : Slotted) (line : ℕ) → may_write (letter_of own.residency line) ≡ true →
    IsTouched (lent pool own) (lent pool touched) line → is_resident touched.residency line ≡ true
touched_there pool own touched line may touch =
    copy_resident (lent pool touched) line _
    (touch.copies line ∙ copy_is (lent pool own) line (writable_there (lent pool own) line may))

own_may : (was own : Slotted) (line : ℕ) → own ≡ was → may_write (letter_of was.residency line) ≡ true →
    may_write (letter_of own.residency line) ≡ true
own_may was own line is may =
    subst (λ (cache : Slotted). may_write (letter_of cache.residency line) ≡ true) (sym is) may

pub set_letter-requires-clause-resident : goal.set_letter-requires-clause-resident
set_letter-requires-clause-resident c =
    let pool = c.args.rig.now.pool in
    touched_there pool c.sets_mut-cache.result.now c.touch.new.self c.args.line.number
    (own_may _ c.sets_mut-cache.result.now c.args.line.number c.sets_mut-cache.ensures.value c.requires.may)
    (c.touch.ensures.touched pool)

pub bytes_mut-requires-clause-resident : goal.bytes_mut-requires-clause-resident
bytes_mut-requires-clause-resident c =
    let pool = c.args.rig.now.pool in
    let line = c.args.line.number in
    copy_resident (lent pool c.set_letter.new.self) line _
    ((c.set_letter.ensures.lettered pool).here
    ∙ ap (option_map (copy_with_letter M))
    (copy_is (lent pool c.touch.new.self) line
    (touched_there pool c.sets_mut-cache.result.now c.touch.new.self line
    (own_may _ c.sets_mut-cache.result.now line c.sets_mut-cache.ensures.value c.requires.may)
    (c.touch.ensures.touched pool))))

pub invariant_of-rig : goal.invariant_of-rig
invariant_of-rig c =
    let pool = c.args.rig.now.pool in
    let bus = bus_state c.args.rig.now.bus in
    let h = c.args.hart.number in
    let own = c.sets_mut-cache.result.now in
    let modified = c.set_letter.new.self in
    let formed : IsWellFormed own.ways own.residency =
    subst (λ (cache : Slotted). IsWellFormed cache.ways cache.residency) (sym c.sets_mut-cache.ensures.value)
    (c.args.rig.now.ready.well_formed h c.requires.hart_exists) in record {
      ready =
          ready_returned bus h modified c.requires.hart_exists c.args.rig.now.ready
          (unasked_returned bus h modified c.requires.no_request
          (well_formed_by_calls (lent pool own) (lent pool c.touch.new.self) (lent pool modified)
          c.args.line.number formed
          (c.touch.ensures.touched pool) (c.set_letter.ensures.lettered pool))
          (λ plain.
          unmarked_by_calls (lent pool own) (lent pool c.touch.new.self) (lent pool modified) c.args.line.number
          (subst (λ (cache : Slotted). has_marks cache.residency ≡ false) (sym c.sets_mut-cache.ensures.value)
          (c.args.rig.now.ready.unmarked plain h))
          (c.touch.ensures.touched pool) (c.set_letter.ensures.lettered pool)));
    }

pub returns : goal.returns
returns c =
    let pool = c.args.rig.now.pool in
    let bus = bus_state c.args.rig.now.bus in
    let h = c.args.hart.number in
    let line = c.args.line.number in
    let own = c.sets_mut-cache.result.now in
    let modified = c.set_letter.new.self in
    let put = c.write.new.bytes in
    let after : Pooled = pools.with_bytes pool (slot_of modified line) put in
    let written = c.bytes_mut.ensures.written put in
    let told = c.requires.told in
    let copies = lent_copies pool bus.copies in
    let value : own ≡ slotted_at bus.copies.caches h = c.sets_mut-cache.ensures.value in
    let is : lent pool own ≡ cache_at copies.caches h = ap (lent pool) value ∙ sym (lent_at pool bus.copies.caches h) in
    let owner : modified.owner ≡ (slotted_at bus.copies.caches h).owner =
    c.set_letter.ensures.owner ∙ c.touch.ensures.owner ∙ ap (λ (cache : Slotted). cache.owner) value in
    let leaves : (g : ℕ) → g ≢ h → g < length bus.copies.caches → LeavesOwner g pool after =
    λ g apart within. leaves_owner modified.owner g pool after written.others
    (λ same. apart (same ∙ owner ∙ told.tells.lent.owned h c.requires.hart_exists)) in
    let stores : IsStoredIn (cache_at copies.caches h) (lent after modified) line put =
    subst (λ cache. IsStoredIn cache (lent after modified) line put) is
    (stored_by_calls (lent pool own) (lent pool c.touch.new.self) (lent pool modified) (lent after modified) line put
    (own_may _ own line value c.requires.may) (c.touch.ensures.touched pool) (c.set_letter.ensures.lettered pool)
    written.written) in record {
      bytes = bytes_with told.bytes line put;
      tells =
          told_returned pool after bus h modified told.bytes (bytes_with told.bytes line put) told.tells
          c.requires.hart_exists owner
          written.kept leaves (tells_stored copies h line (lent after modified) told.bytes put told.tells.told stores);
    }
