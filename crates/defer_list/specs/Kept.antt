-- what the code keeps of a set
use Rattle.std.specs.Prelude.{ℕ, ◌≡◌, ◌<◌, Bool, false, List, get_or, length}
use Rattle.defer_list.specs.HartSet.{IsOnceEach, has, numbers}
use Rattle.defer_list.specs.declared.told.Origin.{Origin}

pub record IsKept (origins : List Origin) (holds : List Bool) : Type 0 where
  -- no origin is listed twice
  pub once : IsOnceEach (numbers origins)
  -- of each hart that can be is kept whether it is listed
  pub count : length holds ≡ 8
  pub each : (hart : ℕ) → hart < 8 → get_or holds hart false ≡ has (numbers origins) hart
