-- what is seen of the caches through any pool, and what stays as one of them has no bits any more
use Rattle.std.proofs.Common.{◌≡◌, ◌≢◌, ◌∙◌, ◌<◌, ◌≤◌, ℕ, zero, suc, Bool, true, false, List, [], ◌∷◌, length, refl, ap}
use Rattle.std.proofs.Common.{sym, subst, inl, inr, arith}
use Rattle.std.proofs.lemmas.Bool.{cases_eq}
use Rattle.residency.specs.Cache.{cleared, has_marks, room_of}
use Rattle.residency.specs.WellFormed.{IsWellFormed}
use Rattle.residency.proofs.Laws.Unmarked.{unmarked-cleared}
use Rattle.residency.proofs.Laws.WellFormedLemmas.{well_formed-cleared}
use Rattle.cache_sets.specs.Cached.{Cached}
use Rattle.cache_sets.specs.Slotted.{Slotted}
use Rattle.coherence.specs.Caches.{cache_at}
use Rattle.coherence.specs.Lent.{lent_all, no_slotted, slotted_at}
use Rattle.coherence.specs.Served.{StaysCoherent, has_room}
use Rattle.coherence.proofs.Laws.RoomLaws.{room_after_clear}
use Rattle.coherence.proofs.Laws.Offered.{length-lent, lent_at}
use Rattle.line_pool.specs.Pooled.{Pooled}
pub use Rattle.line_pool.proofs.Laws.{no_pool}
use Rattle.snoop.specs.Changing.{ClearedIf, IsClearedAt, StaysLent}
use Rattle.snoop.specs.Shows.{Holding, IsUnmarked, LiesIn, has_room_in, lent_copies}

pub ways_at : (pool : Pooled) (caches : List Slotted) (h : ℕ) →
    (cache_at (lent_all pool caches) h).ways ≡ (slotted_at caches h).ways
ways_at pool caches h = ap (λ (cache : Cached). cache.ways) (lent_at pool caches h)

pub residency_at : (pool : Pooled) (caches : List Slotted) (h : ℕ) →
    (cache_at (lent_all pool caches) h).residency ≡ (slotted_at caches h).residency
residency_at pool caches h = ap (λ (cache : Cached). cache.residency) (lent_at pool caches h)

pub room_at : (pool : Pooled) (holding : Holding) (h line : ℕ) →
    has_room (lent_copies pool holding) h line ≡ has_room_in holding h line
room_at pool holding h line =
    ap (λ (cache : Cached). room_of cache.ways cache.residency line) (lent_at pool holding.caches h)

-- a cache past the last one
pub beyond : (caches : List Slotted) (h : ℕ) → length caches ≤ h → slotted_at caches h ≡ no_slotted
beyond [] h past = refl
beyond (cache ∷ caches) zero past = absurd (omega arith)
beyond (cache ∷ caches) (suc h) past = beyond caches h (omega arith)

-- what stays of copies that are the same, and of one change after another
pub stays_same : (old new : Holding) → new ≡ old → StaysLent old new
stays_same old new same = rw same (record { first = refl; lines = refl; caches = refl; told = λ pool bytes told. told })

pub stays_twice : (old mid new : Holding) → StaysLent old mid → StaysLent mid new → StaysLent old new
stays_twice old mid new first second = record {
  first = second.first ∙ first.first;
  lines = second.lines ∙ first.lines;
  caches = second.caches ∙ first.caches;
  told = λ pool bytes told. second.told pool bytes (first.told pool bytes told);
}

-- how many caches there are, as two pools tell it
pub count_by_pools : (before after : Pooled) (old new : Holding) →
    StaysCoherent (lent_copies before old) (lent_copies after new) → length new.caches ≡ length old.caches
count_by_pools before after old new stays =
    sym (length-lent after new.caches) ∙ stays.caches ∙ length-lent before old.caches

-- one of the caches has no bits any more
pub record ClearsOne (h : ℕ) (old new : Holding) : Type 0 where
  pub own : ClearedIf true (slotted_at old.caches h) (slotted_at new.caches h)
  pub others : (g : ℕ) → g ≢ h → ClearedIf false (slotted_at old.caches g) (slotted_at new.caches g)
  pub lines : new.lines ≡ old.lines
  pub stays : StaysLent old new

pub clears_one : (h : ℕ) (old new : Holding) → IsClearedAt h old new → ClearsOne h old new
clears_one h old new clears =
    let changed = clears.changed no_pool in record {
      own = record {
        ways = sym (ways_at no_pool new.caches h) ∙ changed.own.ways ∙ ways_at no_pool old.caches h;
        residency =
            sym (residency_at no_pool new.caches h) ∙ changed.own.residency
            ∙ ap cleared (residency_at no_pool old.caches h);
      };
      others = λ g apart. record {
        ways = sym (ways_at no_pool new.caches g) ∙ ap (λ (cache : Cached). cache.ways) (changed.others g apart)
            ∙ ways_at no_pool old.caches g;
        residency =
            sym (residency_at no_pool new.caches g) ∙ ap (λ (cache : Cached). cache.residency) (changed.others g apart)
            ∙ residency_at no_pool old.caches g;
      };
      lines = changed.lines;
      stays = record {
        first = changed.stays.first;
        lines = changed.stays.lines;
        caches = count_by_pools no_pool no_pool old new changed.stays;
        told = λ pool bytes told. record {
          lent = clears.lent pool told.lent;
          told = (clears.changed pool).stays.coherent bytes told.told;
        };
      };
    }

-- a line of memory lies there still
pub lies_in_yet : {old new : Holding} (line : ℕ) → StaysLent old new → LiesIn old line → LiesIn new line
lies_in_yet line stays has = record {
  from = let e = stays.first in rw e has.from;
  below = let e = stays.first in let f = stays.lines in rw (e, f) has.below;
}

-- a cache whose bits are gone is well formed as before, has as much room, and gets no bit
pub cleared_well_formed : (clears : Bool) (old new : Slotted) → ClearedIf clears old new →
    IsWellFormed old.ways old.residency → IsWellFormed new.ways new.residency
cleared_well_formed true old new cleared formed =
    rw (cleared.ways, cleared.residency) (well_formed-cleared old.ways old.residency formed)
cleared_well_formed false old new kept formed = rw (kept.ways, kept.residency) formed

pub cleared_room : (clears : Bool) (old new : Slotted) (line : ℕ) → ClearedIf clears old new →
    room_of old.ways old.residency line ≡ true → room_of new.ways new.residency line ≡ true
cleared_room true old new line cleared room =
    rw (cleared.ways, cleared.residency) (room_after_clear old.ways old.residency line room)
cleared_room false old new line kept room = rw (kept.ways, kept.residency) room

pub cleared_unmarked : (clears : Bool) (old new : Slotted) → ClearedIf clears old new →
    has_marks old.residency ≡ false → has_marks new.residency ≡ false
cleared_unmarked true old new cleared none = rw cleared.residency (unmarked-cleared old.residency)
cleared_unmarked false old new kept none = rw kept.residency none

pub one_well_formed : {h : ℕ} {old new : Holding} → ClearsOne h old new →
    ((g : ℕ) → g < length old.caches →
    IsWellFormed (slotted_at old.caches g).ways (slotted_at old.caches g).residency) → (g : ℕ) →
    g < length new.caches → IsWellFormed (slotted_at new.caches g).ways (slotted_at new.caches g).residency
one_well_formed {h} {old} {new} clears formed g below =
    let was = formed g (omega (arith, below, clears.stays.caches)) in
    elim (cases_eq g h) [
      | inl same ↦
          cleared_well_formed true (slotted_at old.caches g) (slotted_at new.caches g)
          (subst (λ k. ClearedIf true (slotted_at old.caches k) (slotted_at new.caches k)) (sym same) clears.own) was
      | inr other ↦ cleared_well_formed false (slotted_at old.caches g) (slotted_at new.caches g)
          (clears.others g other) was
    ]

pub one_room : {h : ℕ} {old new : Holding} → ClearsOne h old new → (g line : ℕ) → has_room_in old g line ≡ true →
    has_room_in new g line ≡ true
one_room {h} {old} {new} clears g line had = elim (cases_eq g h) [
  | inl same ↦
      cleared_room true (slotted_at old.caches g) (slotted_at new.caches g) line
      (subst (λ k. ClearedIf true (slotted_at old.caches k) (slotted_at new.caches k)) (sym same) clears.own) had
  | inr other ↦ cleared_room false (slotted_at old.caches g) (slotted_at new.caches g) line (clears.others g other) had
]

pub one_unmarked : {h : ℕ} {old new : Holding} → ClearsOne h old new → (g : ℕ) → IsUnmarked old g → IsUnmarked new g
one_unmarked {h} {old} {new} clears g none = elim (cases_eq g h) [
  | inl same ↦
      cleared_unmarked true (slotted_at old.caches g) (slotted_at new.caches g)
      (subst (λ k. ClearedIf true (slotted_at old.caches k) (slotted_at new.caches k)) (sym same) clears.own) none
  | inr other ↦ cleared_unmarked false (slotted_at old.caches g) (slotted_at new.caches g) (clears.others g other) none
]
