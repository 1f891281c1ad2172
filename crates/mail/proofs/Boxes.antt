-- What each call of the ring of messages does to the mailbox.
use Rattle.std.proofs.Common.{◌≡◌, ℕ, zero, suc, ◌+◌, ◌-◌, ◌<◌, ◌||◌, not, Bool, true, false, cond, List, []}
use Rattle.std.proofs.Common.{◌∷◌, ◌++◌, length, map, drop, slice_get, refl, ap, sym, subst, ◌∙◌, arith}
use Rattle.std.specs.List.{list_any}
use Rattle.std.specs.Option.{option_map}
use Rattle.std.proofs.lemmas.List.{length-append}
use Rattle.circular_buffer.specs.Buffer.{Buffer, buffer, keep_last}
use Rattle.el_base.proofs.Laws.ListLaws.{append_of_map}
use Rattle.mail.specs.Mailbox.{Message, numbered, same_message, has_message, posted, oldest, without_oldest, IsOnceEach}
use Rattle.mail.specs.Kept.{IsBox}
use Rattle.mail.specs.Withdrawn.{withdraws, remaining}
use Rattle.mail.specs.declared.mail.Withdrawn as withdrawals
use Rattle.mail.specs.declared.message.Message as messages
use Rattle.mail.proofs.Laws.OnceEach.{once_each_behind, once_each_filter, once_each_without_oldest, place_for_one}
use Rattle.mail.proofs.Withdrawals.{remaining_numbered}

pub has_any : (items : List messages.Message) (message : messages.Message)
    → has_message (map numbered items) (numbered message)
    ≡ list_any (λ other. same_message (numbered other) (numbered message)) items
has_any [] message = refl
has_any (first ∷ items) message = step (same_message (numbered first) (numbered message)) (has_any items message)
  where
    step : (same : Bool) → has_message (map numbered items) (numbered message)
        ≡ list_any (λ other. same_message (numbered other) (numbered message)) items
        → cond same true (has_message (map numbered items) (numbered message))
        ≡ (same || list_any (λ other. same_message (numbered other) (numbered message)) items)
    step true rest = refl
    step false rest = rest

-- one message more
module _ (box new : Buffer messages.Message) (message : messages.Message) where
  nothing_lost : IsBox box → has_message (map numbered box.items) (numbered message) ≡ false
      → keep_last box.capacity (box.items ++ message ∷ []) ≡ box.items ++ message ∷ []
  nothing_lost is none =
      let place : length box.items < 16 = place_for_one box.items message is.once none in
      let size : length (box.items ++ message ∷ []) ≡ length box.items + 1 = length-append box.items (message ∷ []) in
      let all_in : length (box.items ++ message ∷ []) - box.capacity ≡ 0 = omega (arith, size, place, is.places) in
      ap (λ n. drop n (box.items ++ message ∷ [])) all_in

  pushed_items : new ≡ buffer (keep_last box.capacity (box.items ++ message ∷ [])) box.capacity
      → IsBox box → has_message (map numbered box.items) (numbered message) ≡ false →
      new.items ≡ box.items ++ message ∷ []
  pushed_items pushed is none = ap (λ b. b.items) pushed ∙ nothing_lost is none

  pushed_box : new ≡ buffer (keep_last box.capacity (box.items ++ message ∷ [])) box.capacity
      → IsBox box → has_message (map numbered box.items) (numbered message) ≡ false → IsBox new
  pushed_box pushed is none =
      let as_numbers =
      ap (map numbered) (pushed_items pushed is none) ∙ sym (append_of_map numbered box.items (message ∷ [])) in
      let P : List Message → Type 0 = λ l. IsOnceEach l in
      record {
        places = ap (λ b. b.capacity) pushed ∙ is.places;
        once = subst P (sym as_numbers) (once_each_behind (map numbered box.items) (numbered message) is.once none);
      }

  -- where none of the messages was the same
  pub pushed_unless : (there : Bool) → new ≡ buffer (keep_last box.capacity (box.items ++ message ∷ [])) box.capacity
      → IsBox box → there ≡ list_any (λ other. same_message (numbered other) (numbered message)) box.items →
      not there ≡ true → IsBox new
  pushed_unless true pushed is asked none = absurd cc
  pushed_unless false pushed is asked none = pushed_box pushed is (has_any box.items message ∙ sym asked)

  pub post_new : new ≡ buffer (keep_last box.capacity (box.items ++ message ∷ [])) box.capacity
      → IsBox box → has_message (map numbered box.items) (numbered message) ≡ false
      → map numbered new.items ≡ posted (map numbered box.items) (numbered message)
  post_new pushed is none =
      ap (map numbered) (pushed_items pushed is none) ∙ sym (append_of_map numbered box.items (message ∷ []))
      ∙ sym (ap (λ there. cond there (map numbered box.items) (map numbered box.items ++ numbered message ∷ [])) none)

pub known : (items : List messages.Message) (message : messages.Message) →
    has_message (map numbered items) (numbered message) ≡ true
    → map numbered items ≡ posted (map numbered items) (numbered message)
known items message there =
    sym (ap (λ there. cond there (map numbered items) (map numbered items ++ numbered message ∷ [])) there)

-- the oldest message gone
pub oldest_of_items : (items : List messages.Message) →
    option_map numbered (slice_get items 0) ≡ oldest (map numbered items)
oldest_of_items [] = refl
oldest_of_items (first ∷ items) = refl

-- a message at any place
pub message_of_items : (items : List messages.Message) (place : ℕ) →
    option_map numbered (slice_get items place) ≡ slice_get (map numbered items) place
message_of_items [] place = refl
message_of_items (first ∷ items) zero = refl
message_of_items (first ∷ items) (suc place) = message_of_items items place

pub others_of_items : (items : List messages.Message) →
    map numbered (drop 1 items) ≡ without_oldest (map numbered items)
others_of_items [] = refl
others_of_items (first ∷ items) = refl

pub popped_box : (box new : Buffer messages.Message) → new ≡ buffer (drop 1 box.items) box.capacity →
    IsBox box → IsBox new
popped_box box new popped is =
    let P : List Message → Type 0 = λ l. IsOnceEach l in
    record {
      places = ap (λ b. b.capacity) popped ∙ is.places;
      once =
          subst P (sym (ap (λ b. map numbered b.items) popped ∙ others_of_items box.items))
          (once_each_without_oldest (map numbered box.items) is.once);
    }

-- some messages withdrawn
pub withdrawn_box : (withdrawn : withdrawals.Withdrawn) (box new : Buffer messages.Message)
    → new ≡ buffer (remaining withdrawn box.items) box.capacity → IsBox box → IsBox new
withdrawn_box withdrawn box new left is =
    let P : List Message → Type 0 = λ l. IsOnceEach l in
    let keeps : Message → Bool = λ message. not (withdraws withdrawn message) in
    record {
      places = ap (λ b. b.capacity) left ∙ is.places;
      once = subst P (remaining_numbered withdrawn box.items ∙ sym (ap (λ b. map numbered b.items) left))
          (once_each_filter keeps (map numbered box.items) is.once);
    }
