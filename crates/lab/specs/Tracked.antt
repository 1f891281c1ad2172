-- which sections of a list are live
use Rattle.std.specs.Prelude.{ℕ, ◌≡◌, ◌<◌, ◌≤◌, List, length, Option, None, Some, slice_index_or}
use Rattle.el_base.specs.HartId.{hart_id}
use Rattle.el_base.specs.declared.config.TheConstants.{MAX_STEPS}
use Rattle.el_base.specs.declared.outcomes.Cause.TheVariants.{Long}
use Rattle.lab.specs.declared.tries.Ended.TheVariants.{Live, RolledBack}
use Rattle.lab.specs.declared.tries.Try.{Try}

-- a section at a place; past the last one, one that has ended
abbrev pub no_try : Try
no_try = record {
  hart = hart_id 0;
  acquire = record { pc = 0; word = 0 };
  old = 0;
  new = 0;
  first = 0;
  ended = RolledBack 0 0 Long;
}

abbrev pub try_at : List Try → ℕ → Try
try_at tries place = slice_index_or tries place no_try

-- the place of a hart's live section
abbrev pub live_at : List (Option ℕ) → ℕ → Option ℕ
live_at live h = slice_index_or live h None

-- a hart's live section, where one is noted, is there and live; and each live section is noted
pub record Tracks (tries : List Try) (live : List (Option ℕ)) : Type 0 where
  pub eight : length live ≡ 8
  pub few : length tries ≤ MAX_STEPS
  pub there : (h place : ℕ) → live_at live h ≡ Some place → place < length tries
  pub own : (h place : ℕ) → live_at live h ≡ Some place → (try_at tries place).hart.number ≡ h
  pub lives : (h place : ℕ) → live_at live h ≡ Some place → (try_at tries place).ended ≡ Live
  pub all : (place : ℕ) → place < length tries → (try_at tries place).ended ≡ Live →
      live_at live (try_at tries place).hart.number ≡ Some place
