-- Which calls of a device fail.
use Rattle.std.specs.Prelude.{ℕ, List, Contains}
use Rattle.el_io.specs.Counts.{one_more}

-- the numbers of the calls that fail, counted from 1, and the count of the calls that were made
pub record Plan : Type 0 where
  pub failing : List ℕ
  pub calls : ℕ

-- the next call is to fail
abbrev pub NextFails : Plan → Type 0
NextFails plan = Contains plan.failing (one_more plan.calls)

-- the plan after one more call
abbrev pub after_call : Plan → Plan
after_call plan = record { failing = plan.failing; calls = one_more plan.calls }
