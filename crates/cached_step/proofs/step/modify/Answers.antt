-- the line is touched, and then modified
use Rattle.std.proofs.Common.{◌∙◌, ap, option_map}
use Rattle.residency.specs.Cache.{lettered}
use Rattle.cache_sets.specs.Cached.{copy_with_letter}
use Rattle.cache_sets.specs.Slotted.{lent}
use Rattle.cached_step.proofs.Runs.{stays_resident}
use Rattle.cached_step.proofs.step.modify.Goals as goal
use Rattle.line_pool.proofs.Laws.{no_pool}
use Rattle.moesi.specs.declared.letter.Letter.TheVariants.{M}

pub set_letter-requires-clause-resident : goal.set_letter-requires-clause-resident
set_letter-requires-clause-resident c =
    stays_resident (lent no_pool c.args.sets.now) (lent no_pool c.touch.new.self) c.args.line.number
    ((c.touch.ensures.touched no_pool).copies c.args.line.number) c.requires

pub returns-clause-modified : goal.returns-clause-modified
returns-clause-modified c pool =
    let line = c.args.line.number in
    let touch = c.touch.ensures.touched pool in
    let letter = c.set_letter.ensures.lettered pool in
    record {
      ways = letter.ways ∙ touch.ways;
      residency = letter.residency ∙ ap (λ residency. lettered residency line M) touch.residency;
      here = letter.here ∙ ap (option_map (copy_with_letter M)) (touch.copies line);
      others = λ l other. letter.others l other ∙ touch.copies l;
    }
