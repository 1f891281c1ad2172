-- the state of the machine: what its harts have committed, what each hart has beside it, and the order of requests
use Rattle.std.specs.Prelude.{ℕ, suc, Bool, false, ◌||◌, List, [], ◌∷◌, replicate, Option, None, Some, is_some, ◌==◌}
use Rattle.std.specs.Prelude.{slice_index_or, slice_set, if◌then◌else◌}
use Rattle.bus_order.specs.Order.{Request, first_of, request_of}
use Rattle.residency.specs.Cache.{empty_cache}
use Rattle.residency.specs.Residency.{Way}
use Rattle.el_base.specs.declared.config.Config.{Config}
use Rattle.el_base.specs.declared.outcomes.Outcome.{Outcome}
use Rattle.el_base.specs.declared.outcomes.Outcome.TheVariants.{Idle}
use Rattle.rv_flat.specs.Program.{Program}
use Rattle.mail.specs.Mailbox.{Message, posted}
use Rattle.pair_table.specs.Predictor.{Predictor, unseen}
use Rattle.rv_flat.specs.FlatState.{FlatState, start}
use Rattle.stamp.specs.Stamps.{Stamp}

-- a live section: how many instructions it has run, its acquire included; its lock word, with the value that the
-- acquire found there and the one that it would have stored
pub record Section : Type 0 where
  pub count : ℕ
  pub word : ℕ
  pub old : ℕ
  pub new : ℕ

-- an armed section: how many instructions it has run, from its LR on, and the word that the LR
-- reserved. It has stored nothing
pub record Armed : Type 0 where
  pub count : ℕ
  pub word : ℕ

-- what a hart has beside its committed view
pub record Hart : Type 0 where
  pub section : Option Section  -- its live section
  pub armed : Option Armed  -- its armed section
  pub last_lr : Option ℕ  -- the pc of the last LR that it ran outside of a section, or that was let go
  pub cache : List (List Way)  -- its cache
  pub raised : Option Request  -- its request that is not ordered yet
  pub held_line : Option ℕ  -- the line that it holds until its next step
  pub mail : List Message  -- its mailbox, oldest first
  pub told : List ℕ  -- the origins that it was told of
  pub upstream : List ℕ  -- the harts that are before it
  pub fallback : Bool  -- its next candidate acquire is not elided
  pub tries : ℕ  -- how many sections in a row it has lost, in lock elision
  pub clock : ℕ
  pub seen : ℕ  -- the greatest clock of others that counts for its own
  pub attempt : Option Stamp  -- the stamp of its open attempt
  pub predictor : Predictor

-- the machine's state; the only bytes in it are the committed ones
pub record ModelState : Type 0 where
  pub config : Config
  pub committed : FlatState
  pub harts : List Hart
  pub order : List Request

-- the state after an event, and what came of it
pub record Turn : Type 0 where
  pub state : ModelState
  pub outcome : Outcome

-- a hart before its first event, with a cache of so many sets
abbrev pub new_hart : ℕ → Hart
new_hart sets = record {
  section = None;
  armed = None;
  last_lr = None;
  cache = empty_cache sets;
  raised = None;
  held_line = None;
  mail = [];
  told = [];
  upstream = [];
  fallback = false;
  tries = 0;
  clock = 0;
  seen = 0;
  attempt = None;
  predictor = unseen;
}

-- a program before its first event
unfoldable pub begin : Program → Config → ModelState
begin program config = record {
  config = config;
  committed = start program;
  harts = replicate program.harts (new_hart config.sets);
  order = [];
}

-- a hart; past the last one, a hart that has nothing
abbrev pub hart_of : ModelState → ℕ → Hart
hart_of state h = slice_index_or state.harts h (new_hart 0)

abbrev pub section_of : ModelState → ℕ → Option Section
section_of state h = (hart_of state h).section

abbrev pub armed_of : ModelState → ℕ → Option Armed
armed_of state h = (hart_of state h).armed

abbrev pub is_live : ModelState → ℕ → Bool
is_live state h = is_some (section_of state h)

abbrev pub cache_of : ModelState → ℕ → List (List Way)
cache_of state h = (hart_of state h).cache

abbrev pub raised_of : ModelState → ℕ → Option Request
raised_of state h = (hart_of state h).raised

abbrev pub ordered_of : ModelState → ℕ → Option Request
ordered_of state h = request_of state.order h

-- whether a hart waits for a request of its own
abbrev pub has_request : ModelState → ℕ → Bool
has_request state h = is_some (raised_of state h) || is_some (ordered_of state h)

-- the first request of a line
abbrev pub head_of : ModelState → ℕ → Option Request
head_of state line = first_of state.order line

-- a hart's ordered request where it is one for this line
abbrev pub for_line : ℕ → Option Request → Option Request
for_line line None = None
for_line line (Some request) = if request.line == line then Some request else None

abbrev pub ordered_on : ModelState → ℕ → ℕ → Option Request
ordered_on state h line = for_line line (ordered_of state h)

-- whether a hart holds a line
abbrev pub is_held : Option ℕ → ℕ → Bool
is_held None line = false
is_held (Some held) line = held == line

-- the numbers of the harts, ascending
abbrev pub count_up : ℕ → List Hart → List ℕ
count_up from [] = []
count_up from (hart ∷ harts) = from ∷ count_up (suc from) harts

abbrev pub numbers_of : ModelState → List ℕ
numbers_of state = count_up 0 state.harts

-- the state after each hart has become what this says of its number
abbrev pub each_from : ℕ → (ℕ → Hart → Hart) → List Hart → List Hart
each_from h becomes [] = []
each_from h becomes (hart ∷ harts) = becomes h hart ∷ each_from (suc h) becomes harts

abbrev pub each_hart : ModelState → (ℕ → Hart → Hart) → ModelState
each_hart state becomes = record state { harts = each_from 0 becomes state.harts }

-- the state after one hart has become another
abbrev pub with_hart : ModelState → ℕ → Hart → ModelState
with_hart state h hart = record state { harts = slice_set state.harts h hart }

-- a hart that is posted these messages, one after another
abbrev pub post_all : Hart → List Message → Hart
post_all hart [] = hart
post_all hart (message ∷ messages) = post_all (record hart { mail = posted hart.mail message }) messages

-- there was nothing to do
abbrev pub idle : ModelState → Turn
idle state = record { state = state; outcome = Idle }
