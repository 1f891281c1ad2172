-- The rules that each item of a certificate keeps. A rule on items reads them by their index.
use Rattle.std.specs.Prelude.{ℕ, zero, suc, ◌+◌, ◌-◌, ◌^◌, Bool, ◌==◌, ◌&&◌, ◌||◌, nat_lt, nat_le}
use Rattle.el_base.specs.declared.config.TheConstants.{MAX_STEPS}

-- the most steps of all stretches together
abbrev pub most_steps : ℕ
most_steps = MAX_STEPS

-- the most lines
abbrev pub most_lines : ℕ
most_lines = 262144

-- the numbers of lines are below this one
abbrev pub line_limit : ℕ
line_limit = 2 ^ 26

-- a stretch is of no hart below the harts, or of the hart of the one before
abbrev pub hart_wrong : ℕ → (ℕ → ℕ) → ℕ → Bool
hart_wrong harts hart index = nat_le harts (hart index) || (nat_lt 0 index && hart index == hart (index - 1))

-- the steps of the stretches before this one
abbrev pub steps_before : (ℕ → ℕ) → ℕ → ℕ
steps_before count zero = 0
steps_before count (suc index) = steps_before count index + count index

-- a stretch has no step, or with those before it too many
abbrev pub count_wrong : (ℕ → ℕ) → ℕ → Bool
count_wrong count index = count index == 0 || nat_lt most_steps (steps_before count index + count index)

-- a line has no line's number, or does not come after the one before
abbrev pub line_wrong : (ℕ → ℕ) → ℕ → Bool
line_wrong line index = nat_le line_limit (line index) || (nat_lt 0 index && nat_le (line index) (line (index - 1)))

-- a view's reservation: a byte that is 1 where a word is reserved and else 0, and the word or 0
abbrev pub reservation_wrong : ℕ → ℕ → Bool
reservation_wrong flag word = nat_lt 1 flag || (flag == 0 && nat_lt 0 word)

-- a view's status: 0 running, 1 exited, 2 trapped, and 0, the code or the cause
abbrev pub status_wrong : ℕ → ℕ → Bool
status_wrong status number = nat_lt 2 status || (status == 0 && nat_lt 0 number) || (status == 2 && nat_lt 255 number)
