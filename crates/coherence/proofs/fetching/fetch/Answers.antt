use Rattle.std.proofs.Common.{◌≡◌, ◌∙◌, ◌<◌, ap, length, subst, sym}
use Rattle.std.specs.Prelude.{slice_set}
use Rattle.residency.specs.Cache.{is_resident}
use Rattle.cache_sets.specs.Calls.{IsFilledWith}
use Rattle.cache_sets.specs.Cached.{Cached}
use Rattle.cache_sets.specs.Slotted.{IsLent, lent}
use Rattle.coherence.specs.Caches.{behind_of, cache_at, copies_of, others_have}
use Rattle.coherence.specs.Lent.{IsLentTo, lent_all, slotted_at}
use Rattle.coherence.specs.Line.{IsFound}
use Rattle.coherence.proofs.FetchLaws.{Fetch}
use Rattle.coherence.proofs.Laws.Fetched.{fetched_by_parts, gone_in_memory, indexed}
use Rattle.coherence.proofs.GivingUp.{still_there}
use Rattle.coherence.proofs.Laws.Offered.{caches_set, holds_set, leaves_holds-then, length-lent, lent_at, lent_set}
use Rattle.coherence.proofs.fetching.fetch.Goals as goal
use Rattle.moesi.specs.Letters.{filled_of}

pub returns-clause-fetched : goal.returns-clause-fetched
returns-clause-fetched c =
    let first = c.args.pool.now in
    let between = c.others_give_up.new.pool in
    let after = c.fill-evicted.new.pool in
    let caches = c.others_give_up.new.caches.items in
    let old = lent_all first c.args.caches.now.items in
    let mid = lent_all between caches in
    let h = c.args.hart.number in
    let line = c.args.line.number in
    let before = c.index_mut-cache.result.now in
    let own = c.fill-evicted.new.self in
    let cache = lent after own in
    let gave = c.others_give_up.ensures.gave in
    let owed = c.others_give_up.ensures.lent in
    let exists : h < length old =
    subst (λ n. h < n) (sym (length-lent first c.args.caches.now.items)) c.requires.hart_exists in
    let inside : h < length caches =
    still_there c.args.need h line first between c.args.caches.now.items caches gave c.requires.hart_exists in
    let was : before ≡ slotted_at caches h =
    indexed caches c.from.result h before c.index_mut-cache.ensures.value c.from.ensures inside in
    let letter : c.filled.result ≡ filled_of c.args.need (others_have old h line) =
    c.filled.ensures ∙ ap (filled_of c.args.need) (c.others_have-shared.ensures first
    ∙ ap (λ all. others_have (lent_all first all) h line) c.as_slice.ensures.value) in
    let found : IsFound (copies_of old line) (behind_of c.args.first c.args.lines.now.items line)
    c.current-bytes.result =
    rw (c.as_slice-3.ensures.value, c.as_slice-2.ensures.value) at c.current-bytes.ensures in
    let parts : Fetch c.args.need h line old mid cache c.current-bytes.result c.fill-evicted.result = record {
      inside = exists;
      absent = ap (λ cached. is_resident cached.residency line) (lent_at first c.args.caches.now.items h)
          ∙ c.requires.absent;
      gave = gave;
      filled =
          subst (λ l. IsFilledWith (cache_at mid h) cache line l c.current-bytes.result c.fill-evicted.result) letter
          (subst (λ cached. IsFilledWith cached cache line c.filled.result c.current-bytes.result c.fill-evicted.result)
          (ap (lent between) was ∙ sym (lent_at between caches h)) c.fill-evicted.ensures.filled);
    } in
    fetched_by_parts c.args.need h line c.args.first c.args.lines.now.items c.write_back.new.lines.items old mid
    (lent_all after (slice_set caches c.from.result own)) cache c.current-bytes.result c.fill-evicted.result parts found
    c.requires.in_memory
    c.write_back.ensures
    (ap (λ n. lent_all after (slice_set caches n own)) c.from.ensures
    ∙ caches_set between after caches h before own owed inside was c.fill-evicted.ensures.others)

pub fill-evicted-requires-clause-lent : goal.fill-evicted-requires-clause-lent
fill-evicted-requires-clause-lent c =
    let caches = c.others_give_up.new.caches.items in
    let between = c.others_give_up.new.pool in
    let h = c.args.hart.number in
    let inside : h < length caches =
    still_there c.args.need h c.args.line.number c.args.pool.now between c.args.caches.now.items caches
    c.others_give_up.ensures.gave
    c.requires.hart_exists in
    subst (IsLent between)
    (sym (indexed caches c.from.result h c.index_mut-cache.result.now c.index_mut-cache.ensures.value
    c.from.ensures inside))
    (c.others_give_up.ensures.lent.each h inside)

pub write_back-requires : goal.write_back-requires
write_back-requires c =
    let first = c.args.pool.now in
    let between = c.others_give_up.new.pool in
    let caches = c.others_give_up.new.caches.items in
    let before = c.index_mut-cache.result.now in
    let h = c.args.hart.number in
    let line = c.args.line.number in
    let inside : h < length caches =
    still_there c.args.need h line first between c.args.caches.now.items caches c.others_give_up.ensures.gave
    c.requires.hart_exists in
    gone_in_memory c.args.need h line c.args.first (length c.args.lines.now.items)
    (lent_all first c.args.caches.now.items)
    (lent_all between caches) (lent between before)
    (lent c.fill-evicted.new.pool c.fill-evicted.new.self) c.filled.result
    c.current-bytes.result c.fill-evicted.result c.others_give_up.ensures.gave
    (ap (lent between) (indexed caches c.from.result h before c.index_mut-cache.ensures.value c.from.ensures inside)
    ∙ sym (lent_at between caches h))
    c.fill-evicted.ensures.filled
    (λ g l resident.
    c.requires.inside g l
    (ap (λ (cached : Cached). is_resident cached.residency l) (sym (lent_at first c.args.caches.now.items g))
    ∙ resident))

pub returns-clause-lent : goal.returns-clause-lent
returns-clause-lent c =
    let caches = c.others_give_up.new.caches.items in
    let between = c.others_give_up.new.pool in
    let after = c.fill-evicted.new.pool in
    let before = c.index_mut-cache.result.now in
    let own = c.fill-evicted.new.self in
    let h = c.args.hart.number in
    let inside : h < length caches =
    still_there c.args.need h c.args.line.number c.args.pool.now between c.args.caches.now.items caches
    c.others_give_up.ensures.gave
    c.requires.hart_exists in
    subst (λ n. IsLentTo after (slice_set caches n own)) (sym c.from.ensures)
    (lent_set between after caches h before own c.others_give_up.ensures.lent inside
    (indexed caches c.from.result h before c.index_mut-cache.ensures.value c.from.ensures inside)
    c.fill-evicted.ensures.others
    c.fill-evicted.ensures.owner c.fill-evicted.ensures.lent)

pub returns-clause-holds : goal.returns-clause-holds
returns-clause-holds c =
    let caches = c.others_give_up.new.caches.items in
    let between = c.others_give_up.new.pool in
    let after = c.fill-evicted.new.pool in
    let before = c.index_mut-cache.result.now in
    let h = c.args.hart.number in
    let inside : h < length caches =
    still_there c.args.need h c.args.line.number c.args.pool.now between c.args.caches.now.items caches
    c.others_give_up.ensures.gave
    c.requires.hart_exists in
    leaves_holds-then c.args.pool.now between after c.others_give_up.ensures.holds
    (holds_set between after caches h before c.fill-evicted.new.self c.others_give_up.ensures.lent inside
    (indexed caches c.from.result h before c.index_mut-cache.ensures.value c.from.ensures inside)
    c.fill-evicted.ensures.others)
