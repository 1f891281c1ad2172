-- What a certificate says.
use Rattle.std.specs.Prelude.{ℕ, List, replicate}
use Rattle.std.specs.List.{flat_map}
use Rattle.rv_alu.specs.declared.view.HartView.{HartView}
use Rattle.run_check.specs.declared.content.Patch.{Patch}
use Rattle.run_check.specs.declared.content.Stretch.{Stretch}

-- the number of harts, the serial order in stretches, each hart's view behind it, the output, and the lines of
-- memory that differ from the image
pub record Content : Type 0 where
  pub harts : ℕ
  pub stretches : List Stretch
  pub views : List HartView
  pub output : List ℕ
  pub lines : List Patch

-- a stretch as its steps, and stretches as the serial order that they stand for
abbrev pub steps_in : Stretch → List ℕ
steps_in stretch = replicate stretch.count stretch.hart.number

abbrev pub written_out : List Stretch → List ℕ
written_out stretches = flat_map steps_in stretches
