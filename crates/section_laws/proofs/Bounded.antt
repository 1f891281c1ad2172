-- the caches of a machine have the configuration's shape, room for the lines that are waited for, and no
-- more written lines than configured
use Rattle.std.proofs.Common.{◌≡◌, ◌∙◌, ℕ, zero, suc, ◌+◌, ◌≤◌, ◌<◌, Bool, true, false, not, List, Option, None, Some}
use Rattle.std.proofs.Common.{map, refl, sym, inl, inr, ◌⊎◌}
use Rattle.std.proofs.Common.{arith, if◌then◌else◌}
use Rattle.std.proofs.lemmas.List.{length-map, length-replicate}
use Rattle.bus_order.specs.Order.{Request}
use Rattle.residency.specs.Cache.{cleared, committed, empty_cache, lettered, marked, room_of, touched, write_bit}
use Rattle.residency.specs.Cache.{write_bits_of}
use Rattle.residency.specs.Residency.{Way, without_bits}
use Rattle.residency.proofs.Laws.CacheLemmas.{length-with_set}
use Rattle.residency.proofs.Laws.MarkLemmas.{write_bits_of-cleared, write_bits_of-committed, write_bits_of-lettered}
use Rattle.residency.proofs.Laws.MarkLemmas.{write_bits_of-marked_read}
use Rattle.residency.proofs.Laws.MarkLemmas.{write_bits_of-touched}
use Rattle.residency.proofs.Laws.WellFormedLemmas.{well_formed-cleared, well_formed-committed, well_formed-empty_cache}
use Rattle.residency.proofs.Laws.WellFormedLemmas.{well_formed-lettered}
use Rattle.residency.proofs.Laws.WellFormedLemmas.{well_formed-marked, well_formed-touched}
use Rattle.residency.proofs.Laws.Rooms.{room_cleared}
use Rattle.el_base.specs.declared.config.Config.{Config}
use Rattle.el_base.specs.declared.outcomes.Need.{Need}
use Rattle.el_base.specs.declared.outcomes.Need.TheVariants.{Read, Write}
use Rattle.el_model.specs.InSection.{covered, is_covered}
use Rattle.el_model.specs.Plain.{after_access, after_touch}
use Rattle.el_model.specs.Serve.{others_cache}
use Rattle.el_model.specs.Upcoming.{Touch}
use Rattle.el_model.proofs.Laws.Tests.{by_test}
use Rattle.moesi.specs.declared.letter.Letter.TheVariants.{M}
use Rattle.section_laws.specs.Bounds.{IsShaped}
use Rattle.section_laws.proofs.Laws.ServedCaches.{WritesNoMore, marked_writes, others_room, others_sets}
use Rattle.section_laws.proofs.Laws.ServedCaches.{others_well_formed, others_writes, own_after}
use Rattle.section_laws.proofs.Laws.ServedCaches.{own_after_sets, own_after_well_formed, own_after_write_bit}
use Rattle.section_laws.proofs.Laws.ServedCaches.{own_after_writes}

-- a cache of the configuration's shape, with no more written lines than configured
pub record IsConfigured (config : Config) (cache : List (List Way)) : Type 0 where
  pub shaped : IsShaped config cache
  pub written : write_bits_of cache ≤ config.lines

-- what a waiting request finds there
pub record HasPlace (config : Config) (cache : List (List Way)) (request : Request) : Type 0 where
  pub room : room_of config.ways cache request.line ≡ true
  pub spare : request.need ≡ Write → write_bit cache request.line ≡ false → write_bits_of cache < config.lines

-- the ranges that matter here
pub record HasSome (config : Config) : Type 0 where
  pub sets : 1 ≤ config.sets
  pub ways : 1 ≤ config.ways
  pub lines : 1 ≤ config.lines

-- a cache with no more written lines
fewer_written : (config : Config) (old new : List (List Way)) → IsShaped config new → WritesNoMore old new →
    IsConfigured config old → IsConfigured config new
fewer_written config old new shaped fewer now = record {
  shaped = shaped;
  written = let less = fewer.no_more in let was = now.written in omega (arith, less, was);
}

same_written : (config : Config) (old new : List (List Way)) → IsShaped config new →
    write_bits_of new ≡ write_bits_of old → IsConfigured config old → IsConfigured config new
same_written config old new shaped same now =
    record { shaped = shaped; written = let was = now.written in omega (arith, same, was) }

place_kept : (config : Config) (old new : List (List Way)) (request : Request) →
    room_of config.ways new request.line ≡ true → WritesNoMore old new → IsConfigured config old →
    HasPlace config old request → HasPlace config new request
place_kept config old new request room fewer now place = record {
  room = room;
  spare = λ write is. by write (fewer.unwritten request.line is);
}
  where
    by : request.need ≡ Write → (write_bit old request.line ≡ false) ⊎ (write_bits_of new < write_bits_of old) →
        write_bits_of new < config.lines
    by write (inl was) = let less = fewer.no_more in let spare = place.spare write was in omega (arith, less, spare)
    by write (inr less) = let was = now.written in omega (arith, less, was)

-- a cache without bits
shaped_cleared : (config : Config) (cache : List (List Way)) → IsShaped config cache → IsShaped config (cleared cache)
shaped_cleared config cache shaped = record {
  sets = length-map cache (map without_bits) ∙ shaped.sets;
  well_formed = well_formed-cleared config.ways cache shaped.well_formed;
}

pub configured_cleared : (config : Config) (cache : List (List Way)) → IsConfigured config cache →
    IsConfigured config (cleared cache)
configured_cleared config cache now = record {
  shaped = shaped_cleared config cache now.shaped;
  written = let none = write_bits_of-cleared cache in omega (arith, none);
}

pub place_cleared : (config : Config) (cache : List (List Way)) (request : Request) → HasSome config →
    HasPlace config (cleared cache) request
place_cleared config cache request some = record {
  room = room_cleared config.ways cache request.line some.ways;
  spare = λ write is. let lines = some.lines in let none = write_bits_of-cleared cache in omega (arith, lines, none);
}

pub configured_committed : (config : Config) (cache : List (List Way)) → IsConfigured config cache →
    IsConfigured config (committed cache)
configured_committed config cache now = record {
  shaped = record {
    sets = length-map cache _ ∙ now.shaped.sets;
    well_formed = well_formed-committed config.ways cache now.shaped.well_formed;
  };
  written = let none = write_bits_of-committed cache in omega (arith, none);
}

-- another hart's cache as a request is served
shaped_others : (config : Config) (had : Bool) (need : Need) (cache : List (List Way)) (line : ℕ) →
    IsShaped config cache → IsShaped config (others_cache had need cache line)
shaped_others config had need cache line shaped = record {
  sets = others_sets had need cache line ∙ shaped.sets;
  well_formed = others_well_formed config.ways had need cache line shaped.well_formed;
}

pub configured_others : (config : Config) (had : Bool) (need : Need) (cache : List (List Way)) (line : ℕ) →
    IsConfigured config cache → IsConfigured config (others_cache had need cache line)
configured_others config had need cache line now =
    fewer_written config cache (others_cache had need cache line) (shaped_others config had need cache line now.shaped)
    (others_writes config.ways had need cache line now.shaped.well_formed) now

pub place_others : (config : Config) (had : Bool) (need : Need) (cache : List (List Way)) (line : ℕ)
    (request : Request) → IsConfigured config cache → HasPlace config cache request →
    HasPlace config (others_cache had need cache line) request
place_others config had need cache line request now place =
    place_kept config cache (others_cache had need cache line) request
    (others_room config.ways had need cache line request.line now.shaped.well_formed place.room)
    (others_writes config.ways had need cache line now.shaped.well_formed) now place

-- a line that was touched, or changed its letter, or got a bit
pub configured_touched : (config : Config) (cache : List (List Way)) (line : ℕ) → IsConfigured config cache →
    IsConfigured config (touched cache line)
configured_touched config cache line now =
    same_written config cache (touched cache line)
    (record {
      sets = length-with_set cache line _ ∙ now.shaped.sets;
      well_formed = well_formed-touched config.ways cache line now.shaped.well_formed;
    })
    (write_bits_of-touched config.ways cache line now.shaped.well_formed) now

configured_modified : (config : Config) (cache : List (List Way)) (line : ℕ) → IsConfigured config cache →
    IsConfigured config (lettered cache line M)
configured_modified config cache line now =
    same_written config cache (lettered cache line M)
    (record {
      sets = length-with_set cache line _ ∙ now.shaped.sets;
      well_formed = well_formed-lettered config.ways cache line M (λ is. absurd (cc)) now.shaped.well_formed;
    })
    (write_bits_of-lettered config.ways cache line M now.shaped.well_formed) now

shaped_marked : (config : Config) (cache : List (List Way)) (line : ℕ) (need : Need) → IsShaped config cache →
    IsShaped config (marked cache line need)
shaped_marked config cache line need shaped = record {
  sets = length-with_set cache line _ ∙ shaped.sets;
  well_formed = well_formed-marked config.ways cache line need shaped.well_formed;
}

pub configured_marked : (config : Config) (cache : List (List Way)) (line : ℕ) (need : Need) →
    IsConfigured config cache → (need ≡ Write → write_bit cache line ≡ false → write_bits_of cache < config.lines) →
    IsConfigured config (marked cache line need)
configured_marked config cache line Read now spare =
    same_written config cache (marked cache line Read) (shaped_marked config cache line Read now.shaped)
    (write_bits_of-marked_read config.ways cache line now.shaped.well_formed) now
configured_marked config cache line Write now spare = record {
  shaped = shaped_marked config cache line Write now.shaped;
  written = by (write_bit cache line) refl (marked_writes config.ways cache line now.shaped.well_formed);
}
  where
    by : (written : Bool) → write_bit cache line ≡ written →
        write_bits_of (marked cache line Write) ≤ write_bits_of cache + (if not written then 1 else 0) →
        write_bits_of (marked cache line Write) ≤ config.lines
    by true is most = let was = now.written in omega (arith, most, was)
    by false is most = let few = spare refl is in omega (arith, most, few)

-- the cache of the served hart, and with the bit of its request
pub configured_own : (config : Config) (others : Bool) (cache : List (List Way)) (request : Request) →
    IsConfigured config cache → HasPlace config cache request →
    IsConfigured config (own_after config.ways others request.need cache request.line)
configured_own config others cache request now place =
    same_written config cache (own_after config.ways others request.need cache request.line)
    (record {
      sets = own_after_sets config.ways others request.need cache request.line ∙ now.shaped.sets;
      well_formed =
          own_after_well_formed config.ways others request.need cache request.line now.shaped.well_formed place.room;
    })
    (own_after_writes config.ways others request.need cache request.line now.shaped.well_formed place.room) now

pub configured_claimed : (config : Config) (others : Bool) (cache : List (List Way)) (request : Request) →
    IsConfigured config cache → HasPlace config cache request →
    IsConfigured config
    (marked (own_after config.ways others request.need cache request.line) request.line request.need)
configured_claimed config others cache request now place =
    let own = own_after config.ways others request.need cache request.line in
    configured_marked config own request.line request.need (configured_own config others cache request now place)
    (λ write is.
    let spare =
    place.spare write
    (sym (own_after_write_bit config.ways others request.need cache request.line now.shaped.well_formed) ∙ is) in
    let same = own_after_writes config.ways others request.need cache request.line now.shaped.well_formed place.room in
    omega (arith, spare, same))

-- what an instruction does outside of a section, and inside of one
configured_access : (config : Config) (cache : List (List Way)) (line : ℕ) (need : Need) → IsConfigured config cache →
    IsConfigured config (after_access cache line need)
configured_access config cache line Read now = configured_touched config cache line now
configured_access config cache line Write now =
    configured_modified config (touched cache line) line (configured_touched config cache line now)

pub configured_touch : (config : Config) (cache : List (List Way)) (touch : Option Touch) → IsConfigured config cache →
    IsConfigured config (after_touch cache touch)
configured_touch config cache None now = now
configured_touch config cache (Some touch) now = configured_access config cache touch.line touch.need now

-- one more line may be written, where a section writes one that it has not written
abbrev pub MayCover : Config → List (List Way) → Option Touch → Type 0
MayCover config cache None = Unit {0}
MayCover config cache (Some touch) =
    is_covered cache touch.line touch.need ≡ false → touch.need ≡ Write → write_bits_of cache < config.lines

pub configured_covered : (config : Config) (cache : List (List Way)) (touch : Option Touch) →
    MayCover config cache touch → IsConfigured config cache → IsConfigured config (covered cache touch)
configured_covered config cache None may now = now
configured_covered config cache (Some touch) may now =
    configured_touched config _ touch.line
    (by_test (IsConfigured config) (is_covered cache touch.line touch.need) cache
    (marked cache touch.line touch.need) (λ has. now)
    (λ new. configured_marked config cache touch.line touch.need now (λ write is. may new write)))

-- a cache without lines
pub configured_empty : (config : Config) → HasSome config → IsConfigured config (empty_cache config.sets)
configured_empty config some = record {
  shaped = record {
    sets = length-replicate config.sets _;
    well_formed = well_formed-empty_cache config.ways config.sets some.sets;
  };
  written = let none = empty_written config.sets in omega (arith, none);
}
  where
    empty_written : (sets : ℕ) → write_bits_of (empty_cache sets) ≡ 0
    empty_written zero = refl
    empty_written (suc sets) = empty_written sets
