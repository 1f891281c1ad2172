-- an action that ran over the port
use Rattle.std.proofs.Common.{◌≡◌, ◌∙◌, ap, None, subst}
use Rattle.cache_sets.specs.Slotted as caches
use Rattle.core_step.specs.Run.{lacking}
use Rattle.rv_alu.specs.Execution.{perform, store_in, view_after}
use Rattle.rv_alu.specs.Footprint.{footprint}
use Rattle.section_ctl.proofs.Runs.{RanInPool, bytes_shown, permitted, ran_in_pool, view_ran}
use Rattle.section_ctl.specs.Shown.{action_over, permits_one}
use Rattle.section_view.specs.Laws.{HoldsAfter}
use Rattle.write_hold.specs.Slotted as holds
use Rattle.section_ctl.proofs.run.run_over.Goals as goal

pub returns : goal.returns
returns c =
    let pool = c.args.pool.now in
    let hold = holds.lent pool c.args.hold.now in
    let cache = caches.lent pool c.args.sets.now in
    let view = c.args.view.now in
    let action = c.args.action in
    let permits = permits_one c.touched_line.result.number c.args.sets.now.residency hold in
    let shown = bytes_shown hold.entries c.args.live.word c.args.live.new cache c.requires.free in
    let execution = action_over pool c.args.hold.now c.args.sets.now c.args.live view action in
    let nothing : lacking permits (footprint action) ≡ None =
    permitted (footprint action) c.touched_line.result.number c.args.sets.now.residency hold c.touched_line.ensures
    c.requires.bit (c.len.ensures.sound pool) c.requires.marked c.requires.few in
    let ran : RanInPool c.args.sets.now pool c.run_in_line.new.pool c.args.hold.now c.run_in_line.new.hold
    (store_in execution) =
    ran_in_pool c.args.sets.now pool c.run_in_line.new.pool c.args.hold.now c.run_in_line.new.hold c.run_in_line.result
    permits (footprint action)
    execution c.run_in_line.ensures.ended nothing c.run_in_line.ensures.put c.requires.lent in
    record {
      view = c.run_in_line.ensures.view
          ∙ view_ran c.run_in_line.result permits (footprint action) execution c.run_in_line.ensures.ended nothing view
          ∙ ap (λ byte. view_after (perform action view byte) view) shown;
      hold =
          subst (λ byte. HoldsAfter (store_in (perform action view byte)) hold
          (holds.lent c.run_in_line.new.pool c.run_in_line.new.hold)) shown
          ran.held;
      limit = ran.limit;
      lent = ran.lent;
      owner = ran.owner;
      others = ran.others;
    }
