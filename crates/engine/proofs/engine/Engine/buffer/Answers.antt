-- an instruction of a section is buffered: the parts are in the state after it
use Rattle.std.proofs.Common.{ap, sym}
use Rattle.std.specs.Option.{option_map}
use Rattle.engine.proofs.Buffered.{buffered_in, buffered_ready}
use Rattle.engine.proofs.Buffers.{buffers_turn}
use Rattle.engine.proofs.engine.Engine.buffer.Goals as goal
use Rattle.engine.specs.Parts.{parts}
use Rattle.step_rules.specs.Actions.{numbered_touch}

pub returns : goal.returns
returns c section =
    let old = parts c.args.self.now in
    let new = parts c.buffer_in_cache.new.self in
    let touch = option_map numbered_touch c.args.touch in
    let some = c.requires.follows in
    let done = c.buffer_in_cache.ensures in
    record {
      ready =
          buffered_ready old new c.args.hart some.from some.section touch c.args.action some.follows c.requires.action
          done;
      state = λ from follows.
          buffered_in old new c.args.hart from section touch c.args.action follows c.requires.action done;
      outcome = λ from follows.
          ap (λ turn. turn.outcome) (sym (buffers_turn from c.args.hart.number section touch follows.rule_is));
      memory_stays = ap (λ p. p.bus.copies.lines) done.new_is;
    }
