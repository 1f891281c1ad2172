-- What a call puts to a sink.
use Rattle.std.specs.Prelude.{◌≡◌, ℕ, ◌≤◌, List, Option, Result, Ok, Err}
use Rattle.el_io.specs.Counts.{one_more}
use Rattle.el_io.specs.Sink.{TookAll, TookPart}
use Rattle.el_io.specs.declared.sink.Failed.{Failed}

-- what a sink took, where it tells that, and its count of faults
pub record SinkState : Type 0 where
  pub taken : Option (List ℕ)
  pub faults : ℕ

-- all of the bytes were put
pub record PutAll (before now : SinkState) (bytes : List ℕ) : Type 0 where
  pub taken : TookAll before.taken now.taken bytes
  pub faults : now.faults ≡ before.faults

-- some of the bytes were put, from the first on, and not all, since one fault came
pub record PutPart (before now : SinkState) (bytes : List ℕ) : Type 0 where
  pub taken : TookPart before.taken now.taken bytes
  pub faults : now.faults ≡ one_more before.faults
  pub never_falls : before.faults ≤ now.faults

-- a call puts these bytes: all of them, or, where it failed, a part
abbrev pub Puts : Result (Unit {0}) Failed → SinkState → SinkState → List ℕ → Type 0
Puts (Ok _) before now bytes = PutAll before now bytes
Puts (Err _) before now bytes = PutPart before now bytes
