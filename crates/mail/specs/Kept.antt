-- what the code keeps of a mailbox
use Rattle.std.specs.Prelude.{◌≡◌, map}
use Rattle.circular_buffer.specs.Buffer.{Buffer}
use Rattle.mail.specs.Mailbox.{numbered, IsOnceEach}
use Rattle.mail.specs.declared.message.Message as messages

-- 16 places, and no message in two of them
pub record IsBox (ring : Buffer messages.Message) : Type 0 where
  pub places : ring.capacity ≡ 16
  pub once : IsOnceEach (map numbered ring.items)
