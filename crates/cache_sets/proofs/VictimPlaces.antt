-- Looking for a victim from the least recent line on.
use Rattle.std.proofs.Common.{◌≡◌, ℕ, zero, suc, ◌+◌, ◌≤◌, ◌<◌, true, false, cond, List, [], ◌∷◌, length, map, get_or}
use Rattle.std.proofs.Common.{Option, None, Some, is_some, ap}
use Rattle.std.proofs.Common.{refl, sym, inl, inr, ◌∙◌, arith}
use Rattle.std.specs.Option.{option_or}
use Rattle.std.proofs.lemmas.Bool.{cases_eq}
use Rattle.std.proofs.lemmas.List.{get_or_read}
use Rattle.cache_sets.specs.declared.line.Line as code
use Rattle.cache_sets.specs.Kept.{IsVictimPlace, shown_line}
use Rattle.residency.specs.Residency.{has_unmarked, is_marked, victim_in}
use Rattle.residency.proofs.Laws.ResidencyLemmas.{victim_in-some}

-- lines of which each has a bit have no victim
pub no_victim_among : (lines : List code.Line) →
    ((k : ℕ) → k < length lines → (d : code.Line) → is_marked (shown_line (get_or lines k d)) ≡ true) →
    victim_in (map shown_line lines) ≡ None
no_victim_among [] marked = refl
no_victim_among (first ∷ lines) marked =
    ap (λ later. option_or later (cond (is_marked (shown_line first)) None (Some (shown_line first))))
    (no_victim_among lines (λ k within. marked (suc k) (omega arith)))
    ∙ ap (λ b. cond b None (Some (shown_line first))) (marked 0 (omega arith) first)

-- the last line without bits is the victim
pub victim_at : (lines : List code.Line) (i : ℕ) → i < length lines →
    ((d : code.Line) → is_marked (shown_line (get_or lines i d)) ≡ false) →
    ((k : ℕ) → i + 1 ≤ k → k < length lines → (d : code.Line) → is_marked (shown_line (get_or lines k d)) ≡ true) →
    (d : code.Line) → victim_in (map shown_line lines) ≡ Some (shown_line (get_or lines i d))
victim_at [] i within unmarked marked d = absurd (omega arith)
victim_at (first ∷ lines) zero within unmarked marked d =
    ap (λ later. option_or later (cond (is_marked (shown_line first)) None (Some (shown_line first))))
    (no_victim_among lines (λ k within. marked (suc k) (omega arith) (omega arith)))
    ∙ ap (λ b. cond b None (Some (shown_line first))) (unmarked first)
victim_at (first ∷ lines) (suc i) within unmarked marked d =
    ap (λ later. option_or later (cond (is_marked (shown_line first)) None (Some (shown_line first))))
    (victim_at lines i (omega arith) unmarked (λ k after within. marked (suc k) (omega arith) (omega arith)) d)

-- a search from the least recent line on: each line from a place on has a bit
abbrev pub MarkedFrom : List code.Line → ℕ → Type 0
MarkedFrom lines place = (k : ℕ) → place ≤ k → k < length lines → (d : code.Line) →
    is_marked (shown_line (get_or lines k d)) ≡ true

pub marked_more : (lines : List code.Line) (place : ℕ) (line : code.Line) → place < length lines →
    line ≡ get_or lines place line
    → is_marked (shown_line line) ≡ true → MarkedFrom lines (place + 1) → MarkedFrom lines place
marked_more lines place line within read own others k past inside d = elim (cases_eq k place) [
  | inl same ↦
      ap (λ n. is_marked (shown_line (get_or lines n d))) same
      ∙ ap (λ l. is_marked (shown_line l)) (sym (get_or_read lines place line within read d)) ∙ own
  | inr other ↦ others k (omega (arith, past, other)) inside d
]

pub victim_found : (lines : List code.Line) (place : ℕ) (line : code.Line) → place < length lines →
    line ≡ get_or lines place line
    → is_marked (shown_line line) ≡ false → MarkedFrom lines (place + 1) → IsVictimPlace lines (Some place)
victim_found lines place line within read own others = (
  within,
  victim_at lines place within
      (λ d. ap (λ l. is_marked (shown_line l)) (sym (get_or_read lines place line within read d)) ∙ own) others,
)

pub victim_missing : (lines : List code.Line) → MarkedFrom lines 0 → IsVictimPlace lines None
victim_missing lines marked = no_victim_among lines (λ k within. marked k (omega arith) within)

-- a set has a line without bits exactly where it has a victim
pub some_victim : (lines : List code.Line) (place : Option ℕ) → IsVictimPlace lines place →
    is_some place ≡ has_unmarked (map shown_line lines)
some_victim lines None none = ap is_some (sym none) ∙ victim_in-some (map shown_line lines)
some_victim [] (Some place) at = absurd (omega (arith, at.0))
some_victim (first ∷ lines) (Some place) at =
    ap is_some (sym (at.1 first)) ∙ victim_in-some (map shown_line (first ∷ lines))
