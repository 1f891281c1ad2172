-- the configuration that a run's options ask for
use Rattle.std.specs.Prelude.{ℕ, ◌^◌, nat_lt, if◌then◌else◌, unwrap_or}
use Rattle.el_base.specs.Config.{usual}
use Rattle.el_base.specs.declared.config.Config.{Config}
use Rattle.command_line.specs.Words.{RunJob}

-- what was not given is as usual
abbrev pub config_of : RunJob → Config
config_of job = record {
  harts = unwrap_or job.harts usual.harts;
  mode = unwrap_or job.mode usual.mode;
  sets = unwrap_or job.sets usual.sets;
  ways = unwrap_or job.ways usual.ways;
  lines = unwrap_or job.lines usual.lines;
  long = unwrap_or job.long usual.long;
  steps = unwrap_or job.steps usual.steps;
}

-- a number as a byte, and 0 where it is none
abbrev pub byte_or_none : ℕ → ℕ
byte_or_none number = if nat_lt number (2 ^ 8) then number else 0
