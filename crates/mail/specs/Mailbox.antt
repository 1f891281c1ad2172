-- a mailbox: a list of messages, oldest first, none of them twice
use Rattle.std.specs.Prelude.{ℕ, ◌≤◌, Bool, true, false, count_by, List, [], ◌∷◌, ◌++◌, ◌==◌, Option, None, Some}
use Rattle.std.specs.Prelude.{if◌then◌else◌}
use Rattle.mail.specs.declared.message.Message as messages
use Rattle.mail.specs.declared.message.Message.TheVariants as declared

-- a marker names the hart that is before the receiver, a probe the hart whose request waits behind it
pub data Message : Type 0 where
  Marker : ℕ → Message
  Probe : ℕ → Message

-- a message as numbers
abbrev pub numbered : messages.Message → Message
numbered (declared.Marker sender) = Marker sender.number
numbered (declared.Probe origin) = Probe origin.number

-- whether two messages are the same
abbrev pub same_message : Message → Message → Bool
same_message (Marker a) (Marker b) = a == b
same_message (Probe a) (Probe b) = a == b
same_message (Marker a) (Probe b) = false
same_message (Probe a) (Marker b) = false

-- whether a message is in the box
abbrev pub has_message : List Message → Message → Bool
has_message [] message = false
has_message (first ∷ others) message = if same_message first message then true else has_message others message

-- the box after a message was posted: one that is in it already is not posted twice
abbrev pub posted : List Message → Message → List Message
posted box message = if has_message box message then box else box ++ message ∷ []

-- the box without the probe of an origin
abbrev pub without_probe : List Message → ℕ → List Message
without_probe [] origin = []
without_probe (Marker sender ∷ others) origin = Marker sender ∷ without_probe others origin
without_probe (Probe other ∷ others) origin =
    if other == origin then without_probe others origin else Probe other ∷ without_probe others origin

-- the box without its markers
abbrev pub without_markers : List Message → List Message
without_markers [] = []
without_markers (Marker sender ∷ others) = without_markers others
without_markers (Probe origin ∷ others) = Probe origin ∷ without_markers others

-- the oldest message
abbrev pub oldest : List Message → Option Message
oldest [] = None
oldest (first ∷ others) = Some first

-- the box without its oldest message
abbrev pub without_oldest : List Message → List Message
without_oldest [] = []
without_oldest (first ∷ others) = others

-- no message is in the box twice
abbrev pub IsOnceEach : List Message → Type 0
IsOnceEach box = (message : Message) → count_by (λ other. same_message other message) box ≤ 1
