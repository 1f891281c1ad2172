use Rattle.std.proofs.Common.{◌≡◌, ◌∙◌, ℕ, List, ap, length, option_map, subst, sym, true}
use Rattle.std.specs.Prelude.{slice_set}
use Rattle.residency.specs.Cache.{is_resident, letter_of}
use Rattle.cache_sets.specs.Cached.{Cached, bytes_of, copy_with_letter}
use Rattle.cache_sets.specs.Calls.{IsTouched}
use Rattle.cache_sets.specs.Slotted.{Slotted, lent, slot_of}
use Rattle.coherence.specs.Caches.{cache_at}
use Rattle.coherence.specs.GivenBack.{IsStoredIn, bytes_with}
use Rattle.coherence.specs.Lent.{slotted_at}
use Rattle.coherence.specs.Served.{TellsOf, shown_copies}
use Rattle.coherence.proofs.Laws.Fetched.{copy_resident}
use Rattle.coherence.proofs.Laws.GivenBackLaws.{copy_tells, tells_stored, writable_there}
use Rattle.coherence.proofs.Laws.LoanSteps.{bytes_by_calls, stored_by_calls}
use Rattle.coherence.proofs.Laws.Offered.{caches_set, lent_at, lent_set}
use Rattle.coherence.proofs.Laws.Owners.{copy_is}
use Rattle.cache_vectors.proofs.hierarchies.put.Goals as goal
use Rattle.line_pool.specs.Others.{LeavesOthers}
use Rattle.line_pool.specs.Pooled.{Pooled}
use Rattle.line_pool.specs.Pooled as pools
use Rattle.moesi.specs.Letters.{may_write}
use Rattle.moesi.specs.declared.letter.Letter.TheVariants.{M}

may_still : (caches : List Slotted) (h line : ℕ) (own : Slotted) → own ≡ slotted_at caches h
    → may_write (letter_of (slotted_at caches h).residency line) ≡ true →
    may_write (letter_of own.residency line) ≡ true
may_still caches h line own is may =
    subst (λ (cache : Slotted). may_write (letter_of cache.residency line) ≡ true) (sym is) may

touched_there : (pool : Pooled) (own touched : Slotted) (line : ℕ) → may_write (letter_of own.residency line) ≡ true
    → IsTouched (lent pool own) (lent pool touched) line → is_resident touched.residency line ≡ true
touched_there pool own touched line may touch =
    copy_resident (lent pool touched) line _
    (touch.copies line ∙ copy_is (lent pool own) line (writable_there (lent pool own) line may))

pub set_letter-requires-clause-resident : goal.set_letter-requires-clause-resident
set_letter-requires-clause-resident c =
    let memory = c.args.memory.now in
    let own = c.cache_mut-cache.result.now in
    touched_there memory.pool own c.touch.new.self c.args.line.number
    (may_still memory.hierarchy.caches.items c.args.hart.number c.args.line.number own
    c.cache_mut-cache.ensures.value c.requires.may)
    (c.touch.ensures.touched memory.pool)

pub bytes_mut-requires-clause-resident : goal.bytes_mut-requires-clause-resident
bytes_mut-requires-clause-resident c =
    let memory = c.args.memory.now in
    let line = c.args.line.number in
    let own = c.cache_mut-cache.result.now in
    copy_resident (lent memory.pool c.set_letter.new.self) line _
    ((c.set_letter.ensures.lettered memory.pool).here
    ∙ ap (option_map (copy_with_letter M))
    (copy_is (lent memory.pool c.touch.new.self) line
    (touched_there memory.pool own c.touch.new.self line
    (may_still memory.hierarchy.caches.items c.args.hart.number line own c.cache_mut-cache.ensures.value c.requires.may)
    (c.touch.ensures.touched memory.pool))))

pub invariant_of-memory : goal.invariant_of-memory
invariant_of-memory c =
    let memory = c.args.memory.now in
    let before = c.cache_mut-cache.result.now in
    let modified = c.set_letter.new.self in
    let after : Pooled = pools.with_bytes memory.pool (slot_of modified c.args.line.number) c.write.new.bytes in
    let written = c.bytes_mut.ensures.written c.write.new.bytes in
    let same : modified.owner ≡ before.owner = c.set_letter.ensures.owner ∙ c.touch.ensures.owner in
    record {
      lent =
          lent_set memory.pool after memory.hierarchy.caches.items c.args.hart.number before modified memory.lent
          c.requires.hart_exists
          c.cache_mut-cache.ensures.value (subst (λ owner. LeavesOthers owner memory.pool after) same written.others)
          same written.kept;
    }

pub returns-clause-tells : goal.returns-clause-tells
returns-clause-tells c bytes tells =
    let memory = c.args.memory.now in
    let pool = memory.pool in
    let caches = memory.hierarchy.caches.items in
    let old = shown_copies pool memory.hierarchy in
    let h = c.args.hart.number in
    let line = c.args.line.number in
    let own = c.cache_mut-cache.result.now in
    let modified = c.set_letter.new.self in
    let put = c.write.new.bytes in
    let now : Pooled = pools.with_bytes pool (slot_of modified line) put in
    let written = c.bytes_mut.ensures.written put in
    let after : Cached = lent now modified in
    let is : lent pool own ≡ cache_at old.caches h =
    ap (lent pool) c.cache_mut-cache.ensures.value ∙ sym (lent_at pool caches h) in
    let may : may_write (letter_of own.residency line) ≡ true =
    may_still caches h line own c.cache_mut-cache.ensures.value c.requires.may in
    let touch = c.touch.ensures.touched pool in
    let letter = c.set_letter.ensures.lettered pool in
    let stores : IsStoredIn (cache_at old.caches h) after line put =
    subst (λ cache. IsStoredIn cache after line put) is
    (stored_by_calls (lent pool own) (lent pool c.touch.new.self) (lent pool modified) after line put may touch letter
    written.written) in
    let may_there : may_write (letter_of (cache_at old.caches h).residency line) ≡ true =
    subst (λ (cached : Cached). may_write (letter_of cached.residency line) ≡ true) is may in
    let read : c.bytes_mut.result.now ≡ bytes line =
    c.bytes_mut.ensures.value
    ∙ bytes_by_calls (lent pool own) (lent pool c.touch.new.self) (lent pool modified) line may touch letter
    ∙ ap (λ cached. bytes_of cached line) is
    ∙ copy_tells old h line bytes tells (writable_there (cache_at old.caches h) line may_there) in
    let same : modified.owner ≡ own.owner = c.set_letter.ensures.owner ∙ c.touch.ensures.owner in
    let back =
    caches_set pool now caches h own modified memory.lent c.requires.hart_exists c.cache_mut-cache.ensures.value
    (subst (λ owner. LeavesOthers owner pool now) same written.others) in
    subst (λ all. TellsOf (record old { caches = all })
    (bytes_with bytes line (slice_set (bytes line) c.args.at c.args.byte))) (sym back)
    (subst (λ new. TellsOf (record old { caches = slice_set old.caches h after }) (bytes_with bytes line new))
    (c.write.ensures.written ∙ ap (λ b. slice_set b c.args.at c.args.byte) read)
    (tells_stored old h line after bytes put tells stores))

pub returns-clause-long : goal.returns-clause-long
returns-clause-long c =
    let pool = c.args.memory.now.pool in
    let line = c.args.line.number in
    let own = c.cache_mut-cache.result.now in
    let may : may_write (letter_of own.residency line) ≡ true =
    may_still c.args.memory.now.hierarchy.caches.items c.args.hart.number line own c.cache_mut-cache.ensures.value
    c.requires.may in
    ap length
    (sym
    (c.bytes_mut.ensures.value
    ∙ bytes_by_calls (lent pool own) (lent pool c.touch.new.self) (lent pool c.set_letter.new.self) line may
    (c.touch.ensures.touched pool)
    (c.set_letter.ensures.lettered pool)
    ∙ ap (λ cache. bytes_of (lent pool cache) line) c.cache_mut-cache.ensures.value))
    ∙ c.write.ensures.long
