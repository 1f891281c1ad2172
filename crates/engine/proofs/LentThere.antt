-- the pool lends a hart that acts its cache and its stores
use Rattle.std.proofs.Common.{ℕ, ◌<◌, length, subst, arith}
use Rattle.cache_sets.specs.Slotted.{Slotted}
use Rattle.el_model.specs.State.{ModelState}
use Rattle.engine.specs.Acting.{MayAct, sets_in}
use Rattle.engine.specs.Parts.{Parts, hold_owner}
use Rattle.engine.specs.Private.{IsLentStill, IsLentThere, kept_of}
use Rattle.line_pool.specs.Pooled.{Pooled}
use Rattle.section_ctl.specs.Lent.{LeavesBeside}
use Rattle.write_hold.specs.Slotted as holds

-- the hart's cache is there, and there are few harts
pub inside_caches : (parts : Parts) (h : ℕ) (from : ModelState) → MayAct parts h from →
    h < length parts.bus.copies.caches
inside_caches parts h from may = omega (arith, may.exists, may.is_in.one_each, may.is_in.shows.cache_each)

pub few_harts : (parts : Parts) (h : ℕ) (from : ModelState) → MayAct parts h from → h < 8
few_harts parts h from may = omega (arith, inside_caches parts h from may, may.is_in.told.lent.few)

-- the pool lends it, and the hart's stores
pub lent_there : (parts : Parts) (h : ℕ) (from : ModelState) → MayAct parts h from → IsLentThere parts h
lent_there parts h from may =
    let inside = inside_caches parts h from may in
    let was = may.is_in.harts h may.exists in
    let own = may.is_in.told.lent.owned h inside in
    record {
      hart_exists = may.exists;
      cache_exists = inside;
      both = record {
        cache_lent = may.is_in.told.lent.each h inside;
        hold_lent = was.lent;
        apart = λ same. absurd (omega (arith, same, own, was.owner));
      };
    }

-- what a call leaves beside the hart's cache and its stores
pub still_beside : (parts : Parts) (h : ℕ) (from : ModelState) (pool : Pooled) (cache : Slotted)
    (after : holds.Slotted) → MayAct parts h from → IsLentStill parts.pool pool (sets_in parts h) cache
    (kept_of parts h).hold after → LeavesBeside h (hold_owner h) parts.pool pool
still_beside parts h from pool cache after may still =
    subst (λ owner. LeavesBeside owner (hold_owner h) parts.pool pool)
    (may.is_in.told.lent.owned h (inside_caches parts h from may))
    (subst (λ owner. LeavesBeside (sets_in parts h).owner owner parts.pool pool)
    (may.is_in.harts h may.exists).owner still.beside)
