-- Who lost to whom in an event, by its outcome.
use Rattle.std.specs.Prelude.{ℕ, Option, None}
use Rattle.el_base.specs.Losers.{beaten_by}
use Rattle.el_base.specs.declared.outcomes.Outcome.{Outcome}
use Rattle.el_base.specs.declared.outcomes.Outcome.TheVariants.{Ordered, Served, Delivered}

-- the hart that a hart lost to in this outcome
abbrev pub winner_over : Outcome → ℕ → Option ℕ
winner_over (Ordered losers freed) h = beaten_by losers h
winner_over (Served losers freed) h = beaten_by losers h
winner_over (Delivered losers) h = beaten_by losers h
winner_over _ h = None
