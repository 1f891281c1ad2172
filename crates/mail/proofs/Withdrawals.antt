-- What is left of a mailbox after a withdrawal.
use Rattle.std.proofs.Common.{◌≡◌, ℕ, zero, suc, ◌<◌, ◌≤◌, ◌==◌, not, Bool, true, false, cond}
use Rattle.std.proofs.Common.{List, [], ◌∷◌, ◌++◌, length, map, take, drop, refl, ap, sym, ◌∙◌, arith}
use Rattle.std.specs.List.{filter}
use Rattle.std.proofs.lemmas.List.{length-append}
use Rattle.el_base.specs.declared.hart_id.HartId.{HartId}
use Rattle.el_base.proofs.Laws.ListLaws.{filter_of_map}
use Rattle.mail.specs.Mailbox.{Message, Marker, Probe, numbered, without_probe, without_markers}
use Rattle.mail.specs.Withdrawn.{withdraws, remaining, turned}
use Rattle.mail.specs.declared.mail.Withdrawn as withdrawals
use Rattle.mail.specs.declared.mail.Withdrawn.TheVariants as declared
use Rattle.mail.specs.declared.message.Message as messages

-- the definition's words as filters
pub without_probe_filter : (box : List Message) (origin : HartId)
    → without_probe box origin.number ≡ filter (λ message. not (withdraws (declared.ProbeOf origin) message)) box
without_probe_filter [] origin = refl
without_probe_filter (Marker sender ∷ box) origin = ap (λ l. Marker sender ∷ l) (without_probe_filter box origin)
without_probe_filter (Probe other ∷ box) origin = step (other == origin.number) (without_probe_filter box origin)
  where
    kept : List Message
    kept = filter (λ message. not (withdraws (declared.ProbeOf origin) message)) box

    step : (own : Bool) → without_probe box origin.number ≡ kept
        → cond own (without_probe box origin.number) (Probe other ∷ without_probe box origin.number)
        ≡ cond (not own) (Probe other ∷ kept) kept
    step true rest = rest
    step false rest = ap (λ l. Probe other ∷ l) rest

pub without_markers_filter : (box : List Message)
    → without_markers box ≡ filter (λ message. not (withdraws declared.Markers message)) box
without_markers_filter [] = refl
without_markers_filter (Marker sender ∷ box) = without_markers_filter box
without_markers_filter (Probe origin ∷ box) = ap (λ l. Probe origin ∷ l) (without_markers_filter box)

-- what is left, as numbers
pub probe_remaining : (items : List messages.Message) (origin : HartId)
    → map numbered (remaining (declared.ProbeOf origin) items) ≡ without_probe (map numbered items) origin.number
probe_remaining items origin =
    sym
    (without_probe_filter (map numbered items) origin
    ∙ filter_of_map numbered (λ message. not (withdraws (declared.ProbeOf origin) message)) items)

pub markers_remaining : (items : List messages.Message)
    → map numbered (remaining declared.Markers items) ≡ without_markers (map numbered items)
markers_remaining items =
    sym
    (without_markers_filter (map numbered items)
    ∙ filter_of_map numbered (λ message. not (withdraws declared.Markers message)) items)

pub remaining_numbered : (withdrawn : withdrawals.Withdrawn) (items : List messages.Message)
    → filter (λ message. not (withdraws withdrawn message)) (map numbered items)
    ≡ map numbered (remaining withdrawn items)
remaining_numbered withdrawn items = filter_of_map numbered (λ message. not (withdraws withdrawn message)) items

-- one turn more
append_nothing : {X : Type 0} (xs : List X) → xs ++ [] ≡ xs
append_nothing [] = refl
append_nothing (x ∷ xs) = ap (λ l. x ∷ l) (append_nothing xs)

append_assoc : {X : Type 0} (xs ys zs : List X) → (xs ++ ys) ++ zs ≡ xs ++ (ys ++ zs)
append_assoc [] ys zs = refl
append_assoc (x ∷ xs) ys zs = ap (λ l. x ∷ l) (append_assoc xs ys zs)

module _ (withdrawn : withdrawals.Withdrawn) where
  turned_first : (first : messages.Message) (others kept : List messages.Message)
      → turned withdrawn (first ∷ others ++ kept) ≡ others ++ (kept ++ remaining withdrawn (first ∷ []))
  turned_first first others kept = step (withdraws withdrawn (numbered first))
    where
      step : (gone : Bool)
          → cond gone (others ++ kept) ((others ++ kept) ++ first ∷ [])
          ≡ others ++ (kept ++ cond (not gone) (first ∷ []) [])
      step true = ap (λ l. others ++ l) (sym (append_nothing kept))
      step false = append_assoc others kept (first ∷ [])

  turned_at : (items kept : List messages.Message) (place : ℕ) → place < length items
      → turned withdrawn (drop place items ++ kept) ≡ drop (suc place) items
      ++ (kept ++ remaining withdrawn (take 1 (drop place items)))
  turned_at [] kept place within = absurd (omega arith)
  turned_at (first ∷ items) kept zero within = turned_first first items kept
  turned_at (first ∷ items) kept (suc place) within = turned_at items kept place (omega arith)

  remaining_more : (items : List messages.Message) (place : ℕ)
      → remaining withdrawn (take place items) ++ remaining withdrawn (take 1 (drop place items))
      ≡ remaining withdrawn (take (suc place) items)
  remaining_more [] zero = refl
  remaining_more [] (suc place) = refl
  remaining_more (first ∷ items) zero = refl
  remaining_more (first ∷ items) (suc place) =
      step (withdraws withdrawn (numbered first)) (remaining_more items place)
    where
      before : List messages.Message
      before = remaining withdrawn (take place items)

      here : List messages.Message
      here = remaining withdrawn (take 1 (drop place items))

      step : (gone : Bool) → before ++ here ≡ remaining withdrawn (take (suc place) items)
          → cond (not gone) (first ∷ before) before ++ here
          ≡ cond (not gone) (first ∷ remaining withdrawn (take (suc place) items))
          (remaining withdrawn (take (suc place) items))
      step true rest = rest
      step false rest = ap (λ l. first ∷ l) rest

  pub turned_more : (items : List messages.Message) (place : ℕ) → place < length items
      → turned withdrawn (drop place items ++ remaining withdrawn (take place items))
      ≡ drop (suc place) items ++ remaining withdrawn (take (suc place) items)
  turned_more items place within =
      turned_at items (remaining withdrawn (take place items)) place within
      ∙ ap (λ l. drop (suc place) items ++ l) (remaining_more items place)

  pub length_of_turned : (items : List messages.Message) → length (turned withdrawn items) ≤ length items
  length_of_turned [] = omega arith
  length_of_turned (first ∷ items) = step (withdraws withdrawn (numbered first))
    where
      step : (gone : Bool) → length (cond gone items (items ++ first ∷ [])) ≤ suc (length items)
      step true = omega arith
      step false = omega (arith, length-append items (first ∷ []))
