-- the table of the letters: what each permits, and what becomes of it as another hart's request is served
use Rattle.std.specs.Prelude.{Bool, true, false, if◌then◌else◌}
use Rattle.el_base.specs.declared.outcomes.Need.{Need}
use Rattle.el_base.specs.declared.outcomes.Need.TheVariants.{Read, Write}
use Rattle.moesi.specs.declared.letter.Letter.{Letter}
use Rattle.moesi.specs.declared.letter.Letter.TheVariants.{M, O, E, S, I}

-- whether a copy with this letter may be read
abbrev pub may_read : Letter → Bool
may_read M = true
may_read O = true
may_read E = true
may_read S = true
may_read I = false

-- whether it may be written
abbrev pub may_write : Letter → Bool
may_write M = true
may_write O = false
may_write E = true
may_write S = false
may_write I = false

-- whether a copy with this letter permits what a hart needs of it
abbrev pub may_of : Letter → Need → Bool
may_of letter Read = may_read letter
may_of letter Write = may_write letter

-- what a copy becomes as another hart's read is served
abbrev pub on_read_of : Letter → Letter
on_read_of M = O
on_read_of O = O
on_read_of E = S
on_read_of S = S
on_read_of I = I

-- what a copy becomes as another hart's write is served: it goes
abbrev pub on_write_of : Letter → Letter
on_write_of letter = I

-- what a copy becomes as another hart's request is served
abbrev pub on_served : Need → Letter → Letter
on_served Read letter = on_read_of letter
on_served Write letter = on_write_of letter

-- the letter with which a line is filled, by the need that it is filled for and whether others have copies
abbrev pub filled_of : Need → Bool → Letter
filled_of Write others = M
filled_of Read others = if others then S else E

-- whether main memory may be behind a copy with this letter, so that a victim is written back
abbrev pub is_dirty : Letter → Bool
is_dirty M = true
is_dirty O = true
is_dirty E = false
is_dirty S = false
is_dirty I = false
