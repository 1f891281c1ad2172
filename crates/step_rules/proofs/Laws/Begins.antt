-- the rule of a swap that may be elided
use Rattle.std.proofs.Common.{◌≡◌, ◌∙◌, ◌≤◌, ℕ, ◌%◌, Bool, true, Option, None, Some, refl, ap, sym}
use Rattle.std.proofs.Common.{subst}
use Rattle.std.specs.Prelude.{not, slice_index, if◌then◌else◌}
use Rattle.residency.specs.Cache.{is_resident, letter_of}
use Rattle.cache_sets.specs.Cached.{bytes_of}
use Rattle.cache_sets.specs.Slotted.{lent}
pub use Rattle.coherence.proofs.Laws.GivenBackLaws.{readable_there}
use Rattle.coherence.proofs.Laws.GivenBackLaws.{copy_tells}
use Rattle.coherence.proofs.Laws.Offered.{lent_at}
use Rattle.coherence.specs.Beginning.{line_of}
use Rattle.coherence.specs.Lent.{slotted_at}
use Rattle.el_base.specs.Line.{line_number}
use Rattle.el_base.specs.declared.line.TheConstants.{LINE_BYTES}
use Rattle.el_base.specs.declared.outcomes.Need.TheVariants as needs
use Rattle.el_model.specs.Conflicts.{is_wanted_to_write}
use Rattle.el_model.specs.Plain.{PlainRule, swap_rule, touch_rule}
use Rattle.el_model.specs.State.{ModelState, cache_of}
use Rattle.el_model.specs.Upcoming.{Swap, Touch, changes_word, next_touch}
use Rattle.line_pool.specs.Pooled.{Pooled}
use Rattle.moesi.specs.Letters.{may_read}
use Rattle.rv_alu.specs.Loaded.{loaded}
use Rattle.rv_flat.specs.Memory.{byte_in}
use Rattle.snoop.specs.Shows.{BusState, Shows, Tells, lent_copies}
use Rattle.step_rules.proofs.CommittedWords.{committed_word}
use Rattle.step_rules.specs.Actions.{swap_over}
use Rattle.step_rules.specs.Rules.{IsOnLine, beginning_rule, touching_rule}
use Rattle.step_rules.specs.declared.upcoming.Exchange as exchanges

pub touching_same : (state : ModelState) (h : ℕ) (touch : Option Touch) →
    touching_rule (cache_of state h) touch ≡ touch_rule state h touch
touching_same state h None = refl
touching_same state h (Some touch) = refl

-- the rule is the definition's where the cache has the line
begins_by : (state : ModelState) (h : ℕ) (swap : Swap) →
    may_read (letter_of (cache_of state h) (line_number swap.word)) ≡ true →
    beginning_rule (cache_of state h) (is_wanted_to_write state h (line_number swap.word)) swap
    (next_touch state.committed h)
    ≡ swap_rule state h (Some swap)
begins_by state h swap may =
    ap
    (λ rule. if not (changes_word swap) then rule
    else if is_wanted_to_write state h (line_number swap.word) then PlainRule.Misses (line_number swap.word) needs.Read
    else PlainRule.Begins swap)
    (touching_same state h (next_touch state.committed h))
    ∙ sym (rw may refl)

-- a swap as the cache tells it
abbrev pub told : exchanges.Exchange → ℕ → Swap
told exchange old = record { word = exchange.word; old = old; new = exchange.new }

-- the word that a cached line tells is the committed one
pub word_told : (pool : Pooled) (bus : BusState) (state : ModelState) (h address : ℕ) →
    Tells pool bus (line_of state.committed) → IsOnLine state.committed → state.committed.base ≤ address →
    address % 4 ≡ 0 → is_resident (slotted_at bus.copies.caches h).residency (line_number address) ≡ true →
    loaded (slice_index (bytes_of (lent pool (slotted_at bus.copies.caches h)) (line_number address)))
    (address % LINE_BYTES) 4
    ≡ loaded (byte_in state.committed.base state.committed.bytes) address 4
word_told pool bus state h address tells on_line from aligned resident =
    let line = line_number address in
    let here = lent_at pool bus.copies.caches h in
    ap (λ cache. loaded (slice_index (bytes_of cache line)) (address % LINE_BYTES) 4) (sym here)
    ∙ ap (λ bytes. loaded (slice_index bytes) (address % LINE_BYTES) 4)
    (copy_tells (lent_copies pool bus.copies) h line (line_of state.committed) tells.told
    (subst (λ cache. is_resident cache.residency line ≡ true) (sym here) resident))
    ∙ committed_word state.committed address on_line from aligned

pub begins_shown : (pool : Pooled) (bus : BusState) (state : ModelState) (h : ℕ) (exchange : exchanges.Exchange)
    (wanted : Bool) (old : ℕ)
    (touch : Option Touch) → Shows bus state → Tells pool bus (line_of state.committed) → IsOnLine state.committed →
    state.committed.base ≤ exchange.word → exchange.word % 4 ≡ 0 → touch ≡ next_touch state.committed h →
    may_read (letter_of (slotted_at bus.copies.caches h).residency (line_number exchange.word)) ≡ true →
    old ≡ loaded (slice_index (bytes_of (lent pool (slotted_at bus.copies.caches h)) (line_number exchange.word)))
    (exchange.word % LINE_BYTES) 4 → wanted ≡ is_wanted_to_write state h (line_number exchange.word) →
    beginning_rule (slotted_at bus.copies.caches h).residency wanted (told exchange old) touch
    ≡ swap_rule state h (Some (swap_over (byte_in state.committed.base state.committed.bytes) exchange))
begins_shown pool bus state h exchange wanted old touch shows tells on_line from aligned touches may read asked =
    let there = readable_there (slotted_at bus.copies.caches h).residency (line_number exchange.word) may in
    ap (λ cache. beginning_rule cache wanted (told exchange old) touch) (shows.caches h)
    ∙ ap (λ word. beginning_rule (cache_of state h) wanted (told exchange word) touch)
    (read ∙ word_told pool bus state h exchange.word tells on_line from aligned there)
    ∙ ap (λ waits. beginning_rule (cache_of state h) waits
    (swap_over (byte_in state.committed.base state.committed.bytes) exchange) touch) asked
    ∙ ap
    (λ t. beginning_rule (cache_of state h) (is_wanted_to_write state h (line_number exchange.word))
    (swap_over (byte_in state.committed.base state.committed.bytes) exchange) t)
    touches
    ∙ begins_by state h (swap_over (byte_in state.committed.base state.committed.bytes) exchange)
    (ap (λ cache. may_read (letter_of cache (line_number exchange.word))) (sym (shows.caches h)) ∙ may)
