-- whom the messages and the sets of a hart name, and how many they are
use Rattle.std.specs.Prelude.{ℕ, ◌≡◌, ◌≢◌, ◌<◌, true, List, [], ◌∷◌, length}
use Rattle.defer_list.specs.HartSet as sets
use Rattle.el_base.specs.declared.config.Config.{Config}
use Rattle.el_base.specs.declared.events.Event.{Event}
use Rattle.elf_image.specs.Program.{Program}
use Rattle.el_model.specs.Next.{after}
use Rattle.el_model.specs.State.{hart_of}
use Rattle.mail.specs.Mailbox.{IsOnceEach, Marker, Message, Probe, has_message}

-- another hart than this one, of a machine of so many
pub record IsOther (count h other : ℕ) : Type 0 where
  pub exists : other < count
  pub apart : other ≢ h

-- the hart that a message names
abbrev pub named : Message → ℕ
named (Marker sender) = sender
named (Probe origin) = origin

-- a hart's mailbox has no message twice, and each names another hart
pub record IsMailbox (count h : ℕ) (box : List Message) : Type 0 where
  pub once : IsOnceEach box
  pub others : (message : Message) → has_message box message ≡ true → IsOther count h (named message)

-- a hart's set lists no hart twice, and each is another one
pub record IsSetOfOthers (count h : ℕ) (harts : List ℕ) : Type 0 where
  pub once : sets.IsOnceEach harts
  pub others : (other : ℕ) → sets.has harts other ≡ true → IsOther count h other

-- so do a hart's mailbox, the origins that it was told of and the harts that are before it
pub record NamesOthersOnce (count h : ℕ) (mail : List Message) (told upstream : List ℕ) : Type 0 where
  pub mail_is : IsMailbox count h mail
  pub told_is : IsSetOfOthers count h told
  pub upstream_is : IsSetOfOthers count h upstream

abbrev pub MessagesNameOthersOnce : Type 0
MessagesNameOthersOnce =
    (program : Program) (config : Config) (events : List Event) (h : ℕ) →
    NamesOthersOnce program.harts h (hart_of (after program config events) h).mail
    (hart_of (after program config events) h).told
    (hart_of (after program config events) h).upstream

-- the senders of the markers in a mailbox, and the origins of the probes
abbrev pub senders : List Message → List ℕ
senders [] = []
senders (Marker sender ∷ box) = sender ∷ senders box
senders (Probe origin ∷ box) = senders box

abbrev pub origins : List Message → List ℕ
origins [] = []
origins (Marker sender ∷ box) = origins box
origins (Probe origin ∷ box) = origin ∷ origins box

-- fewer markers, probes, origins and harts before than there are harts
pub record AreFewerThan (count : ℕ) (mail : List Message) (told upstream : List ℕ) : Type 0 where
  pub markers : length (senders mail) < count
  pub probes : length (origins mail) < count
  pub told_few : length told < count
  pub upstream_few : length upstream < count

abbrev pub MessagesAreFewerThanHarts : Type 0
MessagesAreFewerThanHarts =
    (program : Program) (config : Config) (events : List Event) (h : ℕ) → h < program.harts →
    AreFewerThan program.harts (hart_of (after program config events) h).mail
    (hart_of (after program config events) h).told
    (hart_of (after program config events) h).upstream
