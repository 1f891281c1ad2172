-- A trace is at most 22 bytes and ten more an event.
use Rattle.std.proofs.Common.{◌≤◌, ◌+◌, ◌*◌, List, [], ◌∷◌, length, Option, None, Some, arith}
use Rattle.std.proofs.lemmas.List.{length-append, length-map}
use Rattle.el_base.specs.declared.config.Config.{Config}
use Rattle.el_base.specs.declared.events.Event.{Event}
use Rattle.el_base.specs.declared.outcomes.Outcome.{Outcome}
use Rattle.el_base.specs.declared.outcomes.Outcome.TheVariants.{Idle, Stalled, Missed, Ran, Began, Buffered, Committed}
use Rattle.el_base.specs.declared.outcomes.Outcome.TheVariants.{RolledBack, Ordered, Served}
use Rattle.el_base.specs.declared.outcomes.Outcome.TheVariants.{Blocked, Delivered, Armed, LetGo}
use Rattle.trace_file.specs.Outcomes.{outcome_spelling}
use Rattle.trace_file.specs.Spelling.{body, event_byte, recorded_bytes, spelling}

nine_at_most : (outcome : Outcome) → length (outcome_spelling outcome) ≤ 9
nine_at_most Idle = omega arith
nine_at_most Stalled = omega arith
nine_at_most (Missed line need) = omega arith
nine_at_most Ran = omega arith
nine_at_most Began = omega arith
nine_at_most Buffered = omega arith
nine_at_most (Committed count) = omega arith
nine_at_most (RolledBack cause) = omega arith
nine_at_most (Ordered losers freed) = omega arith
nine_at_most (Served losers freed) = omega arith
nine_at_most (Blocked why by) = omega arith
nine_at_most (Delivered losers) = omega arith
nine_at_most Armed = omega arith
nine_at_most (LetGo count) = omega arith

length-recorded : (made : List Event) (found : List Outcome) → length (recorded_bytes made found) ≤ 10 * length made
length-recorded [] found = omega arith
length-recorded (event ∷ made) [] = omega arith
length-recorded (event ∷ made) (outcome ∷ found) =
    let rest = length-recorded made found in
    let one = nine_at_most outcome in
    let both = length-append (outcome_spelling outcome) (recorded_bytes made found) in
    omega (arith, rest, one, both)

length-body : (made : List Event) (recorded : Option (List Outcome)) → length (body made recorded) ≤ 10 * length made
length-body made None = let one_each = length-map made event_byte in omega (arith, one_each)
length-body made (Some found) = length-recorded made found

pub length-spelling : (config : Config) (made : List Event) (recorded : Option (List Outcome)) →
    length (spelling config made recorded) ≤ 22 + 10 * length made
length-spelling config made recorded = let behind = length-body made recorded in omega (arith, behind)
