-- which events have to do with an address
use Rattle.std.specs.Prelude.{ℕ, Bool, false, ◌==◌, ◌||◌, Option, None, Some}
use Rattle.bus_order.specs.declared.request.Request.{Request}
use Rattle.el_base.specs.Line.{line_number}
use Rattle.el_base.specs.declared.outcomes.Outcome.{Outcome}
use Rattle.el_base.specs.declared.outcomes.Outcome.TheVariants as outcomes
use Rattle.lab.specs.declared.showing.Shown.{Shown}
use Rattle.lab.specs.declared.showing.Sight.{Sight}
use Rattle.lab.specs.declared.showing.What.{What}
use Rattle.lab.specs.declared.showing.What.TheVariants.{Step, Order, Serve, Deliver}
use Rattle.rv_alu.specs.Footprint.{footprint}
use Rattle.rv_alu.specs.declared.footprint.Access.{Access}
use Rattle.rv_alu.specs.declared.footprint.Access.TheVariants.{Read, Write}
use Rattle.section_ctl.specs.declared.armed.Armed.{Armed}
use Rattle.section_ctl.specs.declared.live.Live.{Live}

-- whether an access, which lies in one line, is to this line
abbrev pub access_on : ℕ → Access → Bool
access_on line (Read address len) = line_number address == line
access_on line (Write address len) = line_number address == line
access_on line _ = false

-- whether a section's lock word lies on this line
abbrev pub section_on : ℕ → Option Live → Bool
section_on line None = false
section_on line (Some live) = line_number live.word == line

-- the same of the word of an armed section
abbrev pub armed_on : ℕ → Option Armed → Bool
armed_on line None = false
armed_on line (Some armed) = line_number armed.word == line

-- whether a section on this line begins, ends or is let go by a step of its own hart
abbrev pub bounds_section_on : ℕ → Outcome → Sight → Sight → Bool
bounds_section_on line outcomes.Began before after = section_on line after.section
bounds_section_on line (outcomes.Committed count) before after = section_on line before.section
bounds_section_on line (outcomes.RolledBack cause) before after = section_on line before.section
bounds_section_on line (outcomes.LetGo count) before after = armed_on line before.armed
bounds_section_on line _ before after = false

abbrev pub request_on : ℕ → Option Request → Bool
request_on line None = false
request_on line (Some request) = request.line.number == line

-- of a step: its instruction stands at the address, or its access or the section that it begins, ends or lets go is on
-- the line; of an order, a serve and a probe: the request is for the line
abbrev pub what_about : ℕ → Outcome → What → Bool
what_about address outcome (Step before action after) =
    before.view.pc == address
    || access_on (line_number address) (footprint action)
    || bounds_section_on (line_number address) outcome before after
what_about address outcome (Order request at) = request_on (line_number address) request
what_about address outcome (Serve request before after) = request_on (line_number address) request
what_about address outcome (Deliver message about) = request_on (line_number address) about

-- whether an event has to do with an address or its line
unfoldable pub is_about : Shown → ℕ → Bool
is_about shown address = what_about address shown.outcome shown.what
