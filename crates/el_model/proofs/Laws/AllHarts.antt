-- what holds of every hart
use Rattle.std.proofs.Common.{ℕ, zero, suc, replicate}
use Rattle.std.specs.Prelude.{slice_index_or}
use Rattle.el_model.specs.State.{Hart, ModelState, hart_of}

abbrev pub All : (Hart → Type 0) → ModelState → Type 0
All P state = (h : ℕ) → P (hart_of state h)

pub all_first : (P : Hart → Type 0) (count : ℕ) (hart none : Hart) → P hart → P none →
    (h : ℕ) → P (slice_index_or (replicate count hart) h none)
all_first P zero hart none new absent h = absent
all_first P (suc count) hart none new absent zero = new
all_first P (suc count) hart none new absent (suc h) = all_first P count hart none new absent h
