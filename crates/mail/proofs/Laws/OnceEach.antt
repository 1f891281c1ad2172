-- No message is in a mailbox twice, so that 16 places are enough.
use Rattle.std.proofs.Common.{◌≡◌, ℕ, ◌+◌, ◌-◌, ◌<◌, ◌≤◌, ◌==◌, nat_lt, Bool, true, false, cond, List, [], ◌∷◌, ◌++◌}
use Rattle.std.proofs.Common.{length, map, refl, ap, sym, ◌∙◌, arith}
use Rattle.std.specs.List.{count_by, filter}
use Rattle.std.proofs.lemmas.Bool.Decides.{nat_tests}
use Rattle.std.proofs.lemmas.List.Sums.{sum_by-cons, sum_by_push}
use Rattle.el_base.proofs.Laws.ListLaws.{length_by_codes}
use Rattle.mail.specs.Mailbox.{Message, Marker, Probe, numbered, same_message, has_message, posted, without_oldest}
use Rattle.mail.specs.Mailbox.{IsOnceEach}
use Rattle.mail.specs.declared.message.Message as messages
use Rattle.mail.specs.declared.message.Message.TheVariants as declared

-- how often a message is in the box
abbrev pub count_of : List Message → Message → ℕ
count_of box message = count_by (λ other. same_message other message) box

pub count_of_cons : (first : Message) (box : List Message) (message : Message)
    → count_of (first ∷ box) message ≡ cond (same_message first message) 1 0 + count_of box message
count_of_cons first box message = sum_by-cons (λ other. cond (same_message other message) 1 0) first box

-- two messages that test as the same are one
pub same_is_one : (a b : Message) → same_message a b ≡ true → a ≡ b
same_is_one (Marker a) (Marker b) same = let one : a ≡ b = grind (arith, nat_tests) in ap Marker one
same_is_one (Probe a) (Probe b) same = let one : a ≡ b = grind (arith, nat_tests) in ap Probe one
same_is_one (Marker a) (Probe b) same = absurd cc
same_is_one (Probe a) (Marker b) same = absurd cc

pub same_as_itself : (a : Message) → same_message a a ≡ true
same_as_itself (Marker a) = grind (arith, nat_tests)
same_as_itself (Probe a) = grind (arith, nat_tests)

-- a message that is not in the box is counted as none
pub count_of_absent : (box : List Message) (message : Message) → has_message box message ≡ false →
    count_of box message ≡ 0
count_of_absent [] message none = refl
count_of_absent (first ∷ box) message none =
    rw count_of_cons (step (same_message first message) none (count_of_absent box message))
  where
    step : (same : Bool) → cond same true (has_message box message) ≡ false
        → (has_message box message ≡ false → count_of box message ≡ 0) → cond same 1 0 + count_of box message ≡ 0
    step true none rest = absurd cc
    step false none rest = omega (arith, rest none)

-- one message more
pub once_each_behind : (box : List Message) (new : Message) → IsOnceEach box → has_message box new ≡ false
    → IsOnceEach (box ++ new ∷ [])
once_each_behind box new once none message =
    rw (sum_by_push (λ other. cond (same_message other message) 1 0) box new)
    (step (same_message new message) refl)
  where
    step : (same : Bool) → same_message new message ≡ same → count_of box message + cond same 1 0 ≤ 1
    step true is =
        let absent : count_of box message ≡ 0 =
        ap (count_of box) (sym (same_is_one new message is)) ∙ count_of_absent box new none in
        omega (arith, absent)
    step false is = omega (arith, once message)

pub once_each_posted : (box : List Message) (new : Message) → IsOnceEach box → IsOnceEach (posted box new)
once_each_posted box new once = step (has_message box new) refl
  where
    step : (there : Bool) → has_message box new ≡ there → IsOnceEach (cond there box (box ++ new ∷ []))
    step true is = once
    step false is = once_each_behind box new once is

-- and fewer messages
pub count_of_filter : (keeps : Message → Bool) (box : List Message) (message : Message)
    → count_of (filter keeps box) message ≤ count_of box message
count_of_filter keeps [] message = omega arith
count_of_filter keeps (first ∷ box) message =
    step (keeps first) (count_of_filter keeps box message)
  where
    step : (kept : Bool) → count_of (filter keeps box) message ≤ count_of box message
        → count_of (cond kept (first ∷ filter keeps box) (filter keeps box)) message ≤ count_of (first ∷ box) message
    step true rest =
        omega (arith, rest, count_of_cons first box message, count_of_cons first (filter keeps box) message)
    step false rest = omega (arith, rest, count_of_cons first box message)

pub once_each_filter : (keeps : Message → Bool) (box : List Message) → IsOnceEach box → IsOnceEach (filter keeps box)
once_each_filter keeps box once message = omega (arith, count_of_filter keeps box message, once message)

pub once_each_without_oldest : (box : List Message) → IsOnceEach box → IsOnceEach (without_oldest box)
once_each_without_oldest [] once message = once message
once_each_without_oldest (first ∷ box) once message = omega (arith, count_of_cons first box message, once message)

pub once_each_none : IsOnceEach []
once_each_none message = omega arith

-- a code below 16 for each message of a hart
abbrev code_of : Message → ℕ
code_of (Marker sender) = sender
code_of (Probe origin) = 8 + origin

abbrev with_code : ℕ → Message
with_code code = cond (nat_lt code 8) (Marker code) (Probe (code - 8))

code_is_small : (message : messages.Message) → code_of (numbered message) < 16
code_is_small (declared.Marker sender) = omega (arith, sender.small)
code_is_small (declared.Probe origin) = omega (arith, origin.small)

code_counts : (message : messages.Message) (code : ℕ)
    → cond (code_of (numbered message) == code) 1 0 ≤ cond (same_message (numbered message) (with_code code)) 1 0
code_counts (declared.Marker sender) code = of_marker (nat_lt code 8) refl
  where
    of_marker : (low : Bool) → nat_lt code 8 ≡ low
        → cond (sender.number == code) 1 0
        ≤ cond (same_message (Marker sender.number) (cond low (Marker code) (Probe (code - 8)))) 1 0
    of_marker true is = omega arith
    of_marker false is = grind (arith, nat_tests, sender.small)
code_counts (declared.Probe origin) code = of_probe (nat_lt code 8) refl
  where
    of_probe : (low : Bool) → nat_lt code 8 ≡ low
        → cond (8 + origin.number == code) 1 0
        ≤ cond (same_message (Probe origin.number) (cond low (Marker code) (Probe (code - 8)))) 1 0
    of_probe true is = grind (arith, nat_tests)
    of_probe false is = grind (arith, nat_tests)

code_count : (items : List messages.Message) (code : ℕ)
    → count_by (λ message. code_of (numbered message) == code) items ≤ count_of (map numbered items) (with_code code)
code_count [] code = omega arith
code_count (first ∷ items) code =
    omega (
      arith,
      sum_by-cons (λ message. cond (code_of (numbered message) == code) 1 0) first items,
      count_of_cons (numbered first) (map numbered items) (with_code code),
      code_counts first code,
      code_count items code,
    )

pub places_for_each : (items : List messages.Message) → IsOnceEach (map numbered items) → length items ≤ 16
places_for_each items once =
    length_by_codes (λ message. code_of (numbered message)) 16 items code_is_small
    (λ code. omega (arith, code_count items code, once (with_code code)))

pub place_for_one : (items : List messages.Message) (new : messages.Message) → IsOnceEach (map numbered items)
    → has_message (map numbered items) (numbered new) ≡ false → length items < 16
place_for_one items new once none =
    let all : length (new ∷ items) ≤ 16 = places_for_each (new ∷ items) one_more in
    omega (arith, all)
  where
    one_more : IsOnceEach (numbered new ∷ map numbered items)
    one_more message =
        omega (
          arith,
          count_of_cons (numbered new) (map numbered items) message,
          sum_by_push (λ other. cond (same_message other message) 1 0) (map numbered items) (numbered new),
          once_each_behind (map numbered items) (numbered new) once none message,
        )

-- the first message of a box is in it
pub first_there : (first : Message) (box : List Message) → has_message (first ∷ box) first ≡ true
first_there first box = ap (λ test. cond test true (has_message box first)) (same_as_itself first)
