-- the line is there still, and the cache is the same but for the bit and the order of its lines
use Rattle.std.proofs.Common.{◌∙◌, ap, refl, subst}
use Rattle.cache_sets.specs.Slotted.{Slotted}
use Rattle.coherence.proofs.Laws.RoomLaws.{resident_after_mark}
use Rattle.residency.specs.Cache.{is_resident, touched}
use Rattle.el_base.specs.declared.outcomes.Need.TheVariants.{Read}
use Rattle.line_pool.proofs.Laws.{no_pool}
use Rattle.engine.proofs.engine.Engine.mark_read.Goals as goal
use Rattle.engine.specs.Beginning.{IsReadMarked}

pub touch-requires : goal.touch-requires
touch-requires c =
    let line = c.args.line.number in
    ap (λ cache. is_resident cache line) (c.set_bit.ensures.marked no_pool).residency
    ∙ resident_after_mark c.sets_mut-sets.result.now.residency line line Read
    ∙ ap (λ (cache : Slotted). is_resident cache.residency line) c.sets_mut-sets.ensures.value ∙ c.requires.resident

pub returns : goal.returns
returns c =
    let line = c.args.line.number in
    let bit = c.set_bit.ensures in
    let most = c.touch.ensures in
    record {
      cache = c.touch.new.self;
      marked =
          subst (λ (cache : Slotted). IsReadMarked cache c.touch.new.self line) c.sets_mut-sets.ensures.value
          (record {
            ways = (most.touched no_pool).ways ∙ (bit.marked no_pool).ways;
            residency =
                (most.touched no_pool).residency ∙ ap (λ cache. touched cache line) (bit.marked no_pool).residency;
            keeps = record {
              owner = most.owner ∙ bit.owner;
              lent = λ pool owed. most.lent pool (bit.lent pool owed);
              copies = λ pool l. (most.touched pool).copies l ∙ (bit.marked pool).copies l;
            };
          });
      new_is = refl;
    }
