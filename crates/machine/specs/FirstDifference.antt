-- outcomes that were recorded, beside those that come
use Rattle.std.specs.Prelude.{ℕ, ◌≡◌, ◌≢◌, ◌<◌, List, slice_get}
use Rattle.el_base.specs.declared.outcomes.Outcome.{Outcome}

-- at this place the outcome that comes is not the recorded one, and before it each one is
pub record IsFirstDifference (recorded found : List Outcome) (place : ℕ) : Type 0 where
  pub here : slice_get recorded place ≢ slice_get found place
  pub before : (earlier : ℕ) → earlier < place → slice_get recorded earlier ≡ slice_get found earlier
