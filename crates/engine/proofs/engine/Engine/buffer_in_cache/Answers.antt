-- what is touched has its bit, and the action may run over it
use Rattle.std.proofs.Common.{subst, sym}
use Rattle.std.specs.Option.{option_map}
use Rattle.el_model.specs.InSection.{Buffers}
use Rattle.engine.proofs.Buffered.{has_buffered, may_run_inside, touched_there}
use Rattle.engine.proofs.Buffers.{is_there}
use Rattle.engine.proofs.InsideRules.{says}
use Rattle.engine.proofs.KeptLive.{keeps_live}
use Rattle.engine.proofs.engine.Engine.buffer_in_cache.Goals as goal
use Rattle.engine.specs.Acting.{sets_in}
use Rattle.engine.specs.Parts.{parts}
use Rattle.engine.specs.Private.{MayRunPrivately, RanPrivately}
use Rattle.step_rules.specs.Actions.{numbered_touch}

pub cover-requires-clause-there : goal.cover-requires-clause-there
cover-requires-clause-there c =
    let old = parts c.args.self.now in
    let h = c.args.hart.number in
    let from = c.requires.follows.from in
    let section = c.requires.follows.section in
    let follows = c.requires.follows.follows in
    let touch = option_map numbered_touch c.args.touch in
    touched_there (sets_in old h) _ touch (keeps_live old h from section follows.inside).cache
    (is_there from h section touch (says old h from section (Buffers touch) follows))

pub run_privately-requires : goal.run_privately-requires
run_privately-requires c =
    record {
      may =
          subst (λ p. MayRunPrivately p c.args.hart.number c.args.action) (sym c.cover.ensures.new_is)
          (may_run_inside (parts c.args.self.now) c.args.hart c.requires.follows.from c.requires.follows.section
          (option_map numbered_touch c.args.touch) c.args.action c.requires.follows.follows c.requires.action
          c.cover.ensures.cache
          c.cover.ensures.bit);
    }

pub returns : goal.returns
returns c =
    let new = parts c.run_privately.new.self in
    has_buffered (parts c.args.self.now) c.args.hart c.requires.follows.from c.requires.follows.section
    (option_map numbered_touch c.args.touch) c.args.action c.requires.follows.follows c.requires.action
    c.cover.ensures.cache c.cover.ensures.bit new
    (subst (λ p. RanPrivately p new c.args.hart.number c.args.action) c.cover.ensures.new_is c.run_privately.ensures)
