-- what is committed in a state that can be reached is what a run of its program comes to
use Rattle.std.proofs.Common.{◌∙◌, ℕ, List, refl, sym, subst}
use Rattle.std.proofs.lemmas.List.FromFn.{length-map-range_with_len}
use Rattle.el_base.specs.declared.config.Config.{Config}
use Rattle.el_model.proofs.Laws.Folds.{serial_run}
use Rattle.el_model.specs.Next.{entries_from}
use Rattle.chronicle.specs.Serial.{serial}
use Rattle.el_model.specs.State.{begin}
use Rattle.elf_image.specs.Program.{Program}
use Rattle.rv_flat.proofs.Laws.RunsAfter.{run_bytes}
use Rattle.rv_flat.specs.FlatState.{FlatState, first_view, start}
use Rattle.rv_flat.specs.Run.{run}
use Rattle.rv_flat.proofs.Laws.Shapes.{keeps_run}
use Rattle.section_view.specs.Laws.{CommittedIsOfItsProgram, IsOfProgram}

first_is : (program : Program) (config : Config) → IsOfProgram program (begin program config).committed
unfolding begin start
first_is program config = record {
  base = refl;
  code = refl;
  size = refl;
  harts = length-map-range_with_len (first_view program) 0 program.harts;
  bytes = λ are. are;
}

run_is : (program : Program) (state : FlatState) (harts : List ℕ) → IsOfProgram program state →
    IsOfProgram program (run state harts)
run_is program state harts is =
    let shape = keeps_run state harts in
    record {
      base = shape.base ∙ is.base;
      code = shape.code ∙ is.code;
      size = shape.length_of_bytes ∙ is.size;
      harts = shape.harts ∙ is.harts;
      bytes = λ are. run_bytes state harts (is.bytes are);
    }

pub committed_is : CommittedIsOfItsProgram
committed_is program config events =
    subst (IsOfProgram program) (sym (serial_run (begin program config) events))
    (run_is program (begin program config).committed (serial (entries_from (begin program config) events))
    (first_is program config))
