-- the line gets the bit where it has it not
use Rattle.std.proofs.Common.{◌∙◌, if◌then◌else◌, ap, sym}
use Rattle.residency.specs.Cache.{marked}
use Rattle.line_pool.proofs.Laws.{no_pool}
use Rattle.engine.proofs.buffering.cover_line.Goals as goal

pub returns-then-not-is_covered : goal.returns-then-not-is_covered
returns-then-not-is_covered c =
    let bit = c.set_bit.ensures in
    record {
      ways = (bit.marked no_pool).ways;
      residency =
          (bit.marked no_pool).residency
          ∙ sym
          (ap (λ b. if b then c.args.sets.now.residency else marked c.args.sets.now.residency c.args.touch.line.number
          c.args.touch.need)
          (sym c.is_covered.ensures ∙ c.if-not-is_covered.true));
      keeps = record {
        owner = bit.owner;
        lent = bit.lent;
        copies = λ pool line. (bit.marked pool).copies line;
      };
    }
