-- every event keeps it that messages and sets name other harts of the machine, each once
use Rattle.std.proofs.Common.{◌≡◌, ◌≢◌, ◌∙◌, ℕ, ◌+◌, ◌==◌, Bool, true, false, List, [], ◌∷◌, Option, None, Some}
use Rattle.std.proofs.Common.{is_some, length}
use Rattle.std.proofs.Common.{refl, ap, sym, subst, arith, if◌then◌else◌}
use Rattle.std.proofs.lemmas.List.{length-replicate}
use Rattle.bus_order.specs.Order.{Request, request_of}
use Rattle.bus_order.proofs.Laws.Queues.{request_of_first_of, request_of_tail_of}
use Rattle.el_base.specs.declared.config.Config.{Config}
use Rattle.el_base.specs.declared.config.Mode.{Mode}
use Rattle.el_base.specs.declared.config.Mode.TheVariants.{Plain, Sle, Tlr}
use Rattle.el_base.specs.declared.events.Event.{Event}
use Rattle.el_base.proofs.Laws.Cases.{none_some, some_none}
use Rattle.elf_image.specs.Program.{Program}
use Rattle.el_model.specs.BusEvent.{Becomes, IsAbsent, IsAnswered, IsBehind, IsDeferred, IsForwarded, IsLetGo, IsPassed}
use Rattle.el_model.specs.BusEvent.{IsPosted, IsSent, IsToldOn, LosesIt}
use Rattle.el_model.specs.BusEvent.{Nothing, Places, Sees, Serves, Start, Starts, StartsWhere, Takes, having_taken}
use Rattle.el_model.specs.BusEvent.{started}
use Rattle.el_model.specs.Deed.{Arms, Begins, Buffers, Commits, Continues, Deed, Elides, LetsGo, Misses, Rests}
use Rattle.el_model.specs.Deed.{RollsBack, Runs, Waits, hart_after}
use Rattle.el_model.specs.Next.{after, next}
use Rattle.el_model.specs.Plain.{after_candidate, candidate_of}
use Rattle.el_model.specs.RollBack.{beaten, most_tries, out_of_section}
use Rattle.el_model.specs.Serve.{bystander, served_hart, with_claim}
use Rattle.el_model.specs.State.{Hart, ModelState, begin, hart_of, new_hart, ordered_of, raised_of}
use Rattle.el_model.specs.Upcoming.{Swap}
use Rattle.section_laws.proofs.Laws.NewHarts.{each_new}
use Rattle.el_model.proofs.Laws.BusEvents.{by_event, with_mail}
use Rattle.el_model.proofs.Laws.EachHart.{Each}
use Rattle.el_model.proofs.Laws.FromStart.{kept_after}
use Rattle.el_model.proofs.Laws.Tests.{by_hart}
use Rattle.mail.specs.Mailbox.{Marker, Message, Probe}
use Rattle.section_laws.specs.Messages.{IsMailbox, IsOther, IsSetOfOthers, MessagesAreFewerThanHarts}
use Rattle.section_laws.specs.Messages.{MessagesNameOthersOnce, NamesOthersOnce, named}
use Rattle.section_laws.proofs.Boxes.{fewer_others, mailbox_of_served, mailbox_posted, mailbox_taken}
use Rattle.section_laws.proofs.Boxes.{mailbox_without_probe, no_mail}
use Rattle.section_laws.proofs.Boxes.{no_others, oldest_other, origins_are_others, others_excluded, others_included}
use Rattle.section_laws.proofs.Boxes.{senders_are_others}
use Rattle.section_laws.proofs.Laws.Moves.{step_keeps}
use Rattle.section_laws.proofs.Laws.Numbered.{Once, first_once, next_count, next_once, order_keeps, raised_exists}
use Rattle.section_laws.proofs.Laws.OrderedHarts.{AreBelow, below_kept}
use Rattle.section_laws.proofs.Laws.Waiting.{free_of_order}
use Rattle.stamp.specs.Stamps.{Stamp}

abbrev Holds : ℕ → ℕ → Hart → Type 0
Holds count h hart = NamesOthersOnce count h hart.mail hart.told hart.upstream

-- a hart that is posted a message
mail_holds : (count h : ℕ) (hart : Hart) (mail : List Message) → IsMailbox count h mail → Holds count h hart →
    Holds count h (record hart { mail = mail })
mail_holds count h hart mail is now = record { mail_is = is; told_is = now.told_is; upstream_is = now.upstream_is }

-- a section that is lost
try_holds : (count h : ℕ) (hart : Hart) (last : Bool) → Holds count h hart →
    Holds count h (if last then record hart { tries = 0; fallback = true } else record hart { tries = hart.tries + 1 })
try_holds count h hart true now = now
try_holds count h hart false now = now

beaten_holds : (count : ℕ) (mode : Mode) (winner : Option Stamp) (h : ℕ) (hart : Hart) → Holds count h hart →
    Holds count h (beaten mode winner hart)
beaten_holds count Tlr winner h hart now = now
beaten_holds count Sle winner h hart now = try_holds count h (out_of_section hart) (hart.tries + 1 == most_tries) now
beaten_holds count Plain winner h hart now = try_holds count h (out_of_section hart) (hart.tries + 1 == most_tries) now

-- what holds of every state that can be reached
record Mailed (count : ℕ) (state : ModelState) : Type 0 where
  many : length state.harts ≡ count
  once : Once state
  below : AreBelow count state.order
  each : Each (Holds count) state

-- a request of a hart that has none in order, and one that is there
apart_from : (order : List Request) (h : ℕ) (request : Request) → request_of order request.hart ≡ Some request →
    request_of order h ≡ None → request.hart ≢ h
apart_from order h request is free same = some_none (sym is ∙ ap (request_of order) same ∙ free)

not_ordered : (count : ℕ) (state : ModelState) (by : ℕ) (request : Request) → Mailed count state →
    raised_of state by ≡ Some request →
    ordered_of state request.hart ≡ None
not_ordered count state by request now raised =
    free_of_order state request.hart request now.once.sound
    (ap (raised_of state) ((now.once.sound by).own request raised) ∙ raised)

taken_other : (count : ℕ) (state : ModelState) (by : ℕ) (message : Message) (others : List Message) →
    Mailed count state →
    (hart_of state by).mail ≡ message ∷ others → IsOther count by (named message)
taken_other count state by message others now is =
    oldest_other count by message others (subst (IsMailbox count by) is (now.each by).mail_is)

-- who sends a message is another hart than the one to which it is posted, and so is an origin: the former head of a
-- line, or the last one before a request that is ordered, has a request in order already
posted_other : (count : ℕ) (state : ModelState) (by : ℕ) {start : Start} {h : ℕ} {message : Message} →
    Mailed count state →
    StartsWhere state by start → IsPosted state by start h message → IsOther count h (named message)
posted_other count state by now may (IsBehind request last mode is) =
    let there = request_of_tail_of state.order request.line last now.once.once is in
    record {
      exists = now.below last.hart last there;
      apart = apart_from state.order request.hart last there (not_ordered count state by request now may.raised);
    }
posted_other count state by now may (IsPassed request former mode is) =
    let many = now.many in
    let there = request_of_first_of state.order request.line former now.once.once is in
    let exists = raised_exists state by request now.once.sound may.raised in
    record {
      exists = omega (arith, many, exists);
      apart =
          λ same. apart_from state.order request.hart former there
          (not_ordered count state by request now may.raised) (sym same);
    }
posted_other count state by now where_it (IsDeferred start head h defers below) =
    let many = now.many in record { exists = omega (arith, many, below); apart = defers.apart }
posted_other count state by now mail (IsAnswered sender others) =
    let many = now.many in
    let exists = with_mail state by (Marker sender) others mail in
    let other = taken_other count state by (Marker sender) others now mail in
    record { exists = omega (arith, many, exists); apart = λ same. other.apart (sym same) }
posted_other count state by now mail (IsToldOn sender others origin tells) =
    let many = now.many in
    let below = tells.exists in record { exists = omega (arith, many, below); apart = tells.apart }
posted_other count state by now mail (IsForwarded origin others h forwards) =
    record {
      exists = (taken_other count state by (Probe origin) others now mail).exists;
      apart = λ same. forwards.apart (sym same);
    }

-- a request is served
claim_holds : (count h : ℕ) (live : Bool) (request : Request) (hart : Hart) → Holds count h hart →
    Holds count h (with_claim live request hart)
claim_holds count h true request hart now = now
claim_holds count h false request hart now = now

served_holds : (count : ℕ) (state : ModelState) (request : Request) (h : ℕ) (hart : Hart) → Holds count h hart →
    Holds count h (served_hart state request hart)
served_holds count state request h hart now =
    claim_holds count h (is_some hart.section) request _
    (record {
      mail_is = mailbox_of_served count h hart.mail request.hart now.mail_is;
      told_is = others_excluded count h hart.told request.hart now.told_is;
      upstream_is = no_others count h;
    })

-- a message is taken
taken_holds : (count : ℕ) (h : ℕ) (message : Message) (others : List Message) (hart : Hart) →
    hart.mail ≡ message ∷ others → Holds count h hart →
    Holds count h (having_taken message others hart)
taken_holds count h (Marker sender) others hart is now =
    let box = subst (IsMailbox count h) is now.mail_is in
    record {
      mail_is = mailbox_taken count h (Marker sender) others box;
      told_is = now.told_is;
      upstream_is =
          others_included count h hart.upstream sender (oldest_other count h (Marker sender) others box)
          now.upstream_is;
    }
taken_holds count h (Probe origin) others hart is now =
    let box = subst (IsMailbox count h) is now.mail_is in
    record {
      mail_is = mailbox_taken count h (Probe origin) others box;
      told_is = others_included count h hart.told origin (oldest_other count h (Probe origin) others box) now.told_is;
      upstream_is = now.upstream_is;
    }

started_holds : (count : ℕ) (state : ModelState) (by : ℕ) (start : Start) (h : ℕ) → StartsWhere state by start →
    Each (Holds count) state →
    Holds count h (started state by start h (hart_of state h))
started_holds count state by Nothing h where_it each = each h
started_holds count state by (Places request place) h where_it each =
    by_hart (Holds count h) h request.hart (record (hart_of state h) { raised = None }) (hart_of state h)
    (λ own. each h) (λ other. each h)
started_holds count state by (Serves request) h where_it each =
    by_hart (Holds count h) h request.hart (served_hart state request (hart_of state h))
    (bystander state request (hart_of state h))
    (λ own. served_holds count state request h (hart_of state h) (each h))
    (λ other. record {
      mail_is = mailbox_without_probe count h (hart_of state h).mail request.hart (each h).mail_is;
      told_is = others_excluded count h (hart_of state h).told request.hart (each h).told_is;
      upstream_is = (each h).upstream_is;
    })
started_holds count state by (Takes message others) h is each =
    by_hart (Holds count h) h by (having_taken message others (hart_of state h)) (hart_of state h)
    (λ own. taken_holds count h message others (hart_of state h) (ap (λ k. (hart_of state k).mail) own ∙ is) (each h))
    (λ other. each h)

becomes_holds : (count : ℕ) (state : ModelState) (by : ℕ) (start : Start) (h : ℕ) {lost : Option ℕ} {hart : Hart} →
    Mailed count state →
    StartsWhere state by start → Becomes state by start h lost hart → Holds count h hart
becomes_holds count state by start h now where_it (IsAbsent past) = now.each h
becomes_holds count state by start h now where_it (Starts below) =
    started_holds count state by start h where_it now.each
becomes_holds count state by start h now where_it (IsSent message lost hart sent before) =
    let held = becomes_holds count state by start h now where_it before in
    mail_holds count h hart _
    (mailbox_posted count h hart.mail message (posted_other count state by now where_it sent) held.mail_is) held
becomes_holds count state by start h now where_it (IsLetGo head hart frees before) =
    becomes_holds count state by start h now where_it before
becomes_holds count state by start h now where_it (Sees head lost hart defers before) =
    becomes_holds count state by start h now where_it before
becomes_holds count state by start h now where_it (LosesIt winner stamp hart loses before) =
    beaten_holds count state.config.mode stamp h hart (becomes_holds count state by start h now where_it before)

-- a step
candidate_holds : (count h : ℕ) (pc : Option ℕ) (had_watch : Bool) (candidate : Option Swap) (hart : Hart) →
    Holds count h hart → Holds count h (after_candidate pc had_watch candidate hart)
candidate_holds count h pc had_watch None hart now = now
candidate_holds count h pc had_watch (Some swap) hart now = now

deed_holds : (count : ℕ) (state : ModelState) (h : ℕ) (deed : Deed) (hart : Hart) → Holds count h hart →
    Holds count h (hart_after state h deed hart)
deed_holds count state h Rests hart now = now
deed_holds count state h Waits hart now = now
deed_holds count state h (Misses line need) hart now = now
deed_holds count state h (Runs touch) hart now = candidate_holds count h _ _ (candidate_of state h) _ now
deed_holds count state h (Begins swap) hart now = now
deed_holds count state h (Buffers section touch) hart now = now
deed_holds count state h (Commits section) hart now = now
deed_holds count state h (RollsBack section cause) hart now = now
deed_holds count state h (Arms word) hart now = now
deed_holds count state h (Elides armed swap) hart now = now
deed_holds count state h (Continues armed) hart now = now
deed_holds count state h (LetsGo armed) hart now = now

-- each event
next_holds : (count : ℕ) (state : ModelState) (event : Event) → Mailed count state →
    Each (Holds count) (next state event).state
next_holds count state event now =
    let by = event.hart.number in
    by_event (λ turn. Each (Holds count) turn.state) state event
    (λ step. step_keeps (Holds count) state by
    (λ deed does. deed_holds count state by deed (hart_of state by) (now.each by)) now.each)
    (λ turn done h. becomes_holds count state by done.start h now done.where_it (done.becomes h))

next_mailed : (count : ℕ) (state : ModelState) (event : Event) → Mailed count state →
    Mailed count (next state event).state
next_mailed count state event now =
    let many = now.many in
    record {
      many = next_count state event ∙ many;
      once = next_once state event now.once;
      below = subst (λ n. AreBelow n (next state event).state.order) many
          (order_keeps state event (below_kept (length state.harts)) now.once.sound
          (subst (λ n. AreBelow n state.order) (sym many) now.below));
      each = next_holds count state event now;
    }

record HasNoMessages (hart : Hart) : Type 0 where
  mail : hart.mail ≡ []
  told : hart.told ≡ []
  upstream : hart.upstream ≡ []

first_mailed : (program : Program) (config : Config) → Mailed program.harts (begin program config)
unfolding begin
first_mailed program config = record {
  many = length-replicate program.harts (new_hart config.sets);
  once = first_once program config;
  below = λ h request is. none_some is;
  each = λ h.
      at_first h
      (each_new HasNoMessages program config (λ sets. record { mail = refl; told = refl; upstream = refl }) h);
}
  where
    at_first : (h : ℕ) → HasNoMessages (hart_of (begin program config) h) →
        Holds program.harts h (hart_of (begin program config) h)
    at_first h none = record {
      mail_is = subst (IsMailbox program.harts h) (sym none.mail) (no_mail program.harts h);
      told_is = subst (IsSetOfOthers program.harts h) (sym none.told) (no_others program.harts h);
      upstream_is = subst (IsSetOfOthers program.harts h) (sym none.upstream) (no_others program.harts h);
    }

-- the laws
pub messages_name_others_once : MessagesNameOthersOnce
messages_name_others_once program config events h =
    (kept_after (Mailed program.harts) (next_mailed program.harts) (begin program config) events
    (first_mailed program config)).each h

pub messages_are_fewer_than_harts : MessagesAreFewerThanHarts
messages_are_fewer_than_harts program config events h exists =
    let hart = hart_of (after program config events) h in
    let now = messages_name_others_once program config events h in
    record {
      markers = fewer_others program.harts h _ exists (senders_are_others program.harts h hart.mail now.mail_is);
      probes = fewer_others program.harts h _ exists (origins_are_others program.harts h hart.mail now.mail_is);
      told_few = fewer_others program.harts h hart.told exists now.told_is;
      upstream_few = fewer_others program.harts h hart.upstream exists now.upstream_is;
    }
