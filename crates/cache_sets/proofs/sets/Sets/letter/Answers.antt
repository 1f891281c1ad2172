use Rattle.std.proofs.Common.{None, Some, ap, sym}
use Rattle.moesi.specs.declared.letter.Letter.TheVariants.{I}
use Rattle.residency.specs.Cache.{letter_in}
use Rattle.line_pool.proofs.Laws.{no_pool}
use Rattle.cache_sets.specs.Slotted.{lent}
use Rattle.cache_sets.proofs.AbsentLetters.{absent_letter}
use Rattle.cache_sets.proofs.Readings.{cached-always, way-found}
use Rattle.cache_sets.proofs.sets.Sets.letter.Goals as goal

pub returns-in-Some : goal.returns-in-Some
returns-in-Some c =
    let is =
    sym
    (ap letter_in
    (way-found c.self.invariant c.self.view_is c.as_slice.ensures.value c.args.line.number (Some c.in-Some.way)
    c.in-Some.ensures)) in
    record {
      exact = is;
      absent_exactly = absent_letter (lent no_pool c.args.self.now) c.args.line.number c.in-Some.way.letter
          (cached-always c.self.invariant c.self.view_is no_pool) is;
    }

pub returns-in-None : goal.returns-in-None
returns-in-None c =
    let is =
    sym
    (ap letter_in
    (way-found c.self.invariant c.self.view_is c.as_slice.ensures.value c.args.line.number None
    c.in-None.ensures)) in
    record {
      exact = is;
      absent_exactly =
          absent_letter (lent no_pool c.args.self.now) c.args.line.number I
          (cached-always c.self.invariant c.self.view_is no_pool) is;
    }
