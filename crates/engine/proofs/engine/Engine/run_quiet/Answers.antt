-- the hart's view alone is another one
use Rattle.std.proofs.Common.{◌≡◌, ◌∙◌, ap, refl, sym}
use Rattle.std.specs.Prelude.{option_map, slice_set}
use Rattle.cache_sets.specs.Cached.{cached_byte}
use Rattle.engine.proofs.Framed.{own_read}
use Rattle.engine.proofs.QuietRuns.{view_alone, quiet_turn}
use Rattle.engine.proofs.engine.Engine.run_quiet.Goals as goal
use Rattle.engine.specs.Acting.{cache_in}
use Rattle.engine.specs.Outside.{execution_in}
use Rattle.engine.specs.Parts.{own_at, parts, present_at}
use Rattle.hart_state.specs.Lending.{with_view}
use Rattle.rv_alu.specs.Execution.{perform, view_after}
use Rattle.rv_alu.specs.Loaded.{loaded}

pub returns : goal.returns
returns c =
    let now = parts c.args.self.now in
    let h = c.args.hart.number in
    let byte = cached_byte (cache_in now h) in
    let same =
    own_read _ now.harts _ h _ refl c.from.ensures c.requires.some.acts.may.exists c.index_mut.ensures.value in
    let present : c.view_mut.result.now ≡ present_at now.harts h =
    c.view_mut.ensures.value ∙ ap (λ own. own.section.marks.present) same in
    let reads = (view_alone c.args.action c.requires.quiet).reads in
    let view : c.perform.new.view ≡ view_after (execution_in now h c.args.action) (present_at now.harts h) =
    c.perform.ensures.view byte (sym (ap (option_map (λ load. loaded byte load.address load.len)) reads))
    ∙ ap (λ v. view_after (perform c.args.action v byte) v) present in
    let own = c.index_mut.result.now in
    quiet_turn now _ c.args.hart c.args.action c.requires.action c.requires.quiet c.requires.unwatched
    (ap (λ i. record now { harts = slice_set now.harts i (with_view own c.perform.new.view) }) c.from.ensures
    ∙ ap (λ o. record now { harts = slice_set now.harts h (with_view o c.perform.new.view) }) same
    ∙ ap (λ v. record now { harts = slice_set now.harts h (with_view (own_at now.harts h) v) }) view)
    c.requires.some c.requires.no_request
