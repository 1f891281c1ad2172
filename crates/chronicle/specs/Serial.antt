-- The serial order: the one order of plain steps that a history stands for.
use Rattle.std.specs.Prelude.{ℕ, List, [], ◌∷◌, replicate}
use Rattle.std.specs.List.{flat_map}
use Rattle.el_base.specs.Freed.{order_of}
use Rattle.el_base.specs.declared.entries.Entry.{Entry}
use Rattle.el_base.specs.declared.outcomes.Outcome.{Outcome}
use Rattle.el_base.specs.declared.outcomes.Outcome.TheVariants.{Ran, Committed, LetGo, Ordered, Served}

-- the harts whose instructions took effect in an event of this hart, one by one: its own, or those of the harts
-- that the event let go, in ascending order
abbrev pub taking_effect : ℕ → Outcome → List ℕ
taking_effect h Ran = h ∷ []
taking_effect h (Committed count) = replicate count h
taking_effect h (LetGo count) = replicate count h
taking_effect h (Ordered losers freed) = order_of freed
taking_effect h (Served losers freed) = order_of freed
taking_effect h _ = []

-- the most instructions that can take effect in one event
abbrev pub most_effects : ℕ
most_effects = 4294967295

-- the harts whose instructions took effect, one by one: a section stands whole at its commit
abbrev pub serial : List Entry → List ℕ
serial entries = flat_map (λ entry. taking_effect entry.event.hart.number entry.outcome) entries
