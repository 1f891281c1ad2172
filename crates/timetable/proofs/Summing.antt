-- The sums of a table, one entry after another.
use Rattle.std.proofs.Common.{◌≡◌, ℕ, ◌+◌, Bool, true, false, cond, List, [], ◌∷◌, ◌++◌, take, refl, ap, ◌∙◌, arith}
use Rattle.std.specs.Prelude.{count_by, not, reverse, slice_get, take_while, Option, Some}
use Rattle.std.specs.Option.{option_and_then}
use Rattle.std.proofs.lemmas.List.{reverse-append, take_more}
use Rattle.std.proofs.lemmas.List.FromFn.{sum_by-map-range_with_len_more}
use Rattle.std.proofs.lemmas.List.Sums.{sum_by-cons, take_while-cons}
use Rattle.std.proofs.lemmas.Option.{get_or_from_slice_get, slice_get_within}
use Rattle.el_base.specs.Winners.{winner_over}
use Rattle.el_base.specs.declared.entries.Entry.{Entry}
use Rattle.timetable.specs.Table.{lost_at, lost_below}
use Rattle.timetable.specs.Unsettled.{adds, settles, unsettled}

-- the first entries and the next
pub taken_more : (entries : List Entry) (place : ℕ) (entry : Entry) → slice_get entries place ≡ Some entry →
    take (place + 1) entries ≡ take place entries ++ entry ∷ []
taken_more entries place entry here =
    take_more entries place entry (slice_get_within entries place entry here)
    ∙ ap (λ (e : Entry). take place entries ++ e ∷ []) (get_or_from_slice_get entries place entry entry here)

since_last : (h : ℕ) (entry : Entry) (before : List Entry) (b : Bool) → settles h entry ≡ b →
    count_by (adds h) (cond (not b) (entry ∷ take_while (λ entry. not (settles h entry)) before) [])
    ≡ cond b 0 (cond (adds h entry) (count_by (adds h) (take_while (λ entry. not (settles h entry)) before) + 1)
    (count_by (adds h) (take_while (λ entry. not (settles h entry)) before)))
since_last h entry before true e = refl
since_last h entry before false e =
    sum_by-cons (λ x. cond (adds h x) 1 0) entry (take_while (λ entry. not (settles h entry)) before)
    ∙ one (adds h entry) _
  where
    one : (b : Bool) (n : ℕ) → cond b 1 0 + n ≡ cond b (n + 1) n
    one true n = omega arith
    one false n = omega arith

-- one entry more settles all, adds one, or changes nothing
pub unsettled_push : (h : ℕ) (entries : List Entry) (entry : Entry) →
    unsettled h (entries ++ entry ∷ [])
    ≡ cond (settles h entry) 0 (cond (adds h entry) (unsettled h entries + 1) (unsettled h entries))
unfolding unsettled
unsettled_push h entries entry =
    ap (λ l. count_by (adds h) (take_while (λ entry. not (settles h entry)) l)) (reverse-append entries (entry ∷ []))
    ∙ ap (λ l. count_by (adds h) l) (take_while-cons (λ entry. not (settles h entry)) entry (reverse entries))
    ∙ since_last h entry (reverse entries) (settles h entry) refl

-- one place more adds what is lost there
pub lost_below_more : (wins : Option ℕ → Bool) (h : ℕ) (entries : List Entry) (place : ℕ) (entry : Entry) →
    slice_get entries place ≡ Some entry →
    lost_below wins h entries (place + 1)
    ≡ lost_below wins h entries place + cond (wins (winner_over entry.outcome h)) (unsettled h (take place entries)) 0
lost_below_more wins h entries place entry here =
    sum_by-map-range_with_len_more (λ x. x) (lost_at wins h entries) 0 place place (omega arith)
    ∙ ap (λ (w : Option ℕ). lost_below wins h entries place + cond (wins w) (unsettled h (take place entries)) 0)
    (ap (option_and_then (λ entry. winner_over entry.outcome h)) here)
