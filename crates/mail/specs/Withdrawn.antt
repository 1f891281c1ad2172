-- the messages that are withdrawn from a mailbox at once
use Rattle.std.specs.Prelude.{Bool, true, false, not, List, [], ◌∷◌, ◌++◌, filter, ◌==◌, if◌then◌else◌}
use Rattle.mail.specs.Mailbox.{Message, Marker, Probe, numbered}
use Rattle.mail.specs.declared.mail.Withdrawn as withdrawals
use Rattle.mail.specs.declared.mail.Withdrawn.TheVariants as declared
use Rattle.mail.specs.declared.message.Message as messages

-- whether a message is one of them
abbrev pub withdraws : withdrawals.Withdrawn → Message → Bool
withdraws declared.Markers (Marker sender) = true
withdraws declared.Markers (Probe origin) = false
withdraws (declared.ProbeOf origin) (Marker sender) = false
withdraws (declared.ProbeOf origin) (Probe other) = other == origin.number

-- the messages that stay
abbrev pub remaining : withdrawals.Withdrawn → List messages.Message → List messages.Message
remaining withdrawn items = filter (λ message. not (withdraws withdrawn (numbered message))) items

-- the messages after the oldest one went behind all others, or out where it is withdrawn
abbrev pub turned : withdrawals.Withdrawn → List messages.Message → List messages.Message
turned withdrawn [] = []
turned withdrawn (first ∷ others) = if withdraws withdrawn (numbered first) then others else others ++ first ∷ []
