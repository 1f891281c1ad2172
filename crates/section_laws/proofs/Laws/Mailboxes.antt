-- a message behind the oldest one is in the mailbox
use Rattle.std.proofs.Common.{◌≡◌, Bool, true, false, cond, List, ◌∷◌, refl}
use Rattle.mail.specs.Mailbox.{Message, has_message, same_message}

pub later_there : (first : Message) (others : List Message) (message : Message) → has_message others message ≡ true →
    has_message (first ∷ others) message ≡ true
later_there first others message is = by (same_message first message)
  where
    by : (same : Bool) → cond same true (has_message others message) ≡ true
    by true = refl
    by false = is
