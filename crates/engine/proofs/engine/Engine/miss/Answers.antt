-- the parts are those after the request was raised
use Rattle.std.proofs.Common.{ap, subst, sym}
use Rattle.el_base.proofs.Laws.Lines.{line_addr-of_line}
use Rattle.el_base.specs.declared.outcomes.Outcome.TheVariants.{Missed}
use Rattle.el_model.specs.Plain.{missed}
use Rattle.engine.proofs.Misses.{after_missed}
use Rattle.engine.proofs.engine.Engine.miss.Goals as goal
use Rattle.engine.specs.Parts.{IsInState, parts}

pub returns : goal.returns
returns c =
    let h = c.args.hart.number in
    let line = c.args.line in
    record {
      ready = c.ask.ensures.leaves.ready;
      state = λ from may.
          subst (λ new. IsInState new (missed from h line.number c.args.need).state) (sym c.ask.ensures.rest_stays)
          (after_missed (parts c.args.self.now) (parts c.ask.new.self).bus from h line.number c.args.need may
          c.ask.ensures.leaves.copies_stay c.ask.ensures.leaves.shows);
      outcome = λ from may. ap (λ l. Missed l c.args.need) (sym (line_addr-of_line line));
      memory_stays = ap (λ copies. copies.lines) c.ask.ensures.leaves.copies_stay;
    }
