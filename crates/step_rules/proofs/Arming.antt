-- the rule of an LR at which its hart may arm, and the value that it finds
use Rattle.std.proofs.Common.{◌≡◌, ◌∙◌, ◌≤◌, ◌%◌, ℕ, Bool, true, false, ◌&&◌, not, List, Option, None, Some, refl, ap}
use Rattle.std.proofs.Common.{sym, if◌then◌else◌}
use Rattle.std.specs.Prelude.{slice_index}
use Rattle.residency.specs.Cache.{letter_of}
use Rattle.cache_sets.specs.Cached.{Cached, bytes_of}
use Rattle.cache_sets.specs.Slotted.{lent}
use Rattle.residency.specs.Residency.{Way}
use Rattle.coherence.specs.Beginning.{line_of}
use Rattle.coherence.specs.Lent.{slotted_at}
use Rattle.el_base.specs.Line.{line_number}
use Rattle.el_base.specs.declared.line.TheConstants.{LINE_BYTES}
use Rattle.el_model.specs.Conflicts.{is_wanted_to_write}
use Rattle.el_model.specs.Plain.{PlainRule, reserve_rule}
use Rattle.el_model.specs.State.{ModelState, cache_of}
use Rattle.el_model.specs.Upcoming.{Touch, next_touch}
use Rattle.line_pool.specs.Pooled.{Pooled}
use Rattle.moesi.specs.Letters.{may_of, may_read}
use Rattle.rv_alu.specs.Loaded.{loaded}
use Rattle.rv_flat.specs.FlatState.{FlatState}
use Rattle.rv_flat.specs.Memory.{byte_in}
use Rattle.snoop.specs.Shows.{BusState, Shows, Tells}
use Rattle.step_rules.proofs.Laws.Begins.{readable_there, touching_same, word_told}
use Rattle.step_rules.specs.Rules.{FindsOld, IfArms, IsOnLine, NeverArms, TellsOld, arming_rule, definition_plain}
use Rattle.step_rules.specs.Rules.{touching_rule}
use Rattle.step_rules.specs.declared.plain.PlainRule as plain_rules
use Rattle.step_rules.specs.declared.plain.PlainRule.TheVariants.{Arms, Begins, Misses, Runs}

-- a rule that never arms finds no value
if_never : (P : ℕ → ℕ → Type 0) (rule : plain_rules.PlainRule) → NeverArms rule → IfArms rule P
if_never P (Runs touch) never = tt
if_never P (Misses line need) never = tt
if_never P (Begins swap) never = tt
if_never P (Arms word old) never = absurd never

pub never_finds : (sets : Cached) (rule : plain_rules.PlainRule) → NeverArms rule → FindsOld rule sets
never_finds sets rule never = if_never _ rule never

pub never_tells : (flat : FlatState) (rule : plain_rules.PlainRule) → NeverArms rule → TellsOld rule flat
never_tells flat rule never = if_never _ rule never

-- a hart arms at the word of its LR, on a line that it may read
record ArmsAt (cache : List (List Way)) (word found : ℕ) : Type 0 where
  same : found ≡ word
  readable : may_read (letter_of cache (line_number word)) ≡ true

never_touching : {X : Type 0} (cache : List (List Way)) (touch : Option Touch) (found : ℕ) →
    PlainRule.Arms found ≡ touching_rule cache touch → X
never_touching cache None found is = absurd (cc)
never_touching cache (Some touch) found is = by (may_of (letter_of cache touch.line) touch.need) is
  where
    by : {X : Type 0} (may : Bool) →
        PlainRule.Arms found ≡ (if may then PlainRule.Runs (Some touch) else PlainRule.Misses touch.line touch.need) → X
    by true wrong = absurd (cc)
    by false wrong = absurd (cc)

arms_at : (cache : List (List Way)) (wanted : Bool) (word : ℕ) (touch : Option Touch) (found : ℕ) →
    PlainRule.Arms found ≡ arming_rule cache wanted word touch → ArmsAt cache word found
arms_at cache wanted word touch found is = by (may_read (letter_of cache (line_number word))) (not wanted) refl is
  where
    by : (may open_line : Bool) → may_read (letter_of cache (line_number word)) ≡ may →
        PlainRule.Arms found ≡ (if may && open_line then PlainRule.Arms word else touching_rule cache touch) →
        ArmsAt cache word found
    by true true may arms = record { same = cc; readable = may }
    by true false may arms = never_touching cache touch found arms
    by false open_line may arms = never_touching cache touch found arms

-- the value that its cache has there is the committed one
pub tells : (pool : Pooled) (bus : BusState) (state : ModelState) (h word : ℕ) (wanted : Bool) (touch : Option Touch)
    (rule : plain_rules.PlainRule) → Tells pool bus (line_of state.committed) → IsOnLine state.committed →
    state.committed.base ≤ word → word % 4 ≡ 0 →
    definition_plain rule ≡ arming_rule (slotted_at bus.copies.caches h).residency wanted word touch →
    FindsOld rule (lent pool (slotted_at bus.copies.caches h)) → TellsOld rule state.committed
tells pool bus state h word wanted touch (Runs ran) told on_line from aligned is found = tt
tells pool bus state h word wanted touch (Misses line need) told on_line from aligned is found = tt
tells pool bus state h word wanted touch (Begins swap) told on_line from aligned is found = tt
tells pool bus state h word wanted touch (Arms at old) told on_line from aligned is found =
    let cache = (slotted_at bus.copies.caches h).residency in
    let arms = arms_at cache wanted word touch at is in
    let there = readable_there cache (line_number word) arms.readable in
    found
    ∙ ap (λ w. loaded (slice_index (bytes_of (lent pool (slotted_at bus.copies.caches h)) (line_number w)))
    (w % LINE_BYTES) 4) arms.same
    ∙ word_told pool bus state h word told on_line from aligned there
    ∙ ap (λ w. loaded (byte_in state.committed.base state.committed.bytes) w 4) (sym arms.same)

-- the rule is the definition's
pub arms_shown : (bus : BusState) (state : ModelState) (h word : ℕ) (wanted : Bool) (touch : Option Touch) →
    Shows bus state → touch ≡ next_touch state.committed h → wanted ≡ is_wanted_to_write state h (line_number word) →
    arming_rule (slotted_at bus.copies.caches h).residency wanted word touch ≡ reserve_rule state h (Some word)
arms_shown bus state h word wanted touch shows touches asked =
    ap (λ cache. arming_rule cache wanted word touch) (shows.caches h)
    ∙ ap (λ waits. arming_rule (cache_of state h) waits word touch) asked
    ∙ ap (arming_rule (cache_of state h) (is_wanted_to_write state h (line_number word)) word) touches
    ∙ ap
    (λ rule. if may_read (letter_of (cache_of state h) (line_number word))
    && not (is_wanted_to_write state h (line_number word))
    then PlainRule.Arms word else rule)
    (touching_same state h (next_touch state.committed h))
