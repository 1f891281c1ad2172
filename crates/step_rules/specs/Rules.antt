-- the rules as the code has them, and what they rest on
use Rattle.std.specs.Prelude.{ℕ, suc, ◌≡◌, ◌%◌, Bool, false, List, Option, None, Some, not, option_map, ◌==◌, ◌&&◌}
use Rattle.std.specs.Prelude.{◌||◌, if◌then◌else◌}
use Rattle.std.specs.Prelude.{nat_lt, slice_index}
use Rattle.residency.specs.Cache.{letter_of, room_of, write_bits_of}
use Rattle.cache_sets.specs.Cached.{Cached, bytes_of}
use Rattle.residency.specs.Residency.{Way}
use Rattle.el_base.specs.Line.{line_number}
use Rattle.el_base.specs.declared.line.TheConstants.{LINE_BYTES}
use Rattle.el_base.specs.declared.outcomes.Cause.TheVariants.{Room, Lines}
use Rattle.el_base.specs.declared.outcomes.Need.{Need}
use Rattle.el_base.specs.declared.outcomes.Need.TheVariants as needs
use Rattle.el_model.specs.Armed.{ArmedRule, most_armed}
use Rattle.el_model.specs.InSection.{SectionRule}
use Rattle.el_model.specs.Plain.{PlainRule, may_elide, reserve_rule, swap_rule}
use Rattle.el_model.specs.State.{Armed, ModelState, Section, hart_of}
use Rattle.el_model.specs.Upcoming.{Swap, Touch, changes_word, next_reserved}
use Rattle.moesi.specs.Letters.{may_of, may_read}
use Rattle.rv_alu.specs.Loaded.{loaded}
use Rattle.rv_flat.specs.FlatState.{FlatState, view_of}
use Rattle.rv_flat.specs.Memory.{byte_in}
use Rattle.step_rules.specs.Actions.{numbered_swap, numbered_touch}
use Rattle.step_rules.specs.declared.armed.ArmedRule as armed_rules
use Rattle.step_rules.specs.declared.armed.ArmedRule.TheVariants as armed_variants
use Rattle.step_rules.specs.declared.in_section.Progress.{Progress}
use Rattle.step_rules.specs.declared.in_section.SectionRule as section_rules
use Rattle.step_rules.specs.declared.in_section.SectionRule.TheVariants as section_variants
use Rattle.step_rules.specs.declared.plain.PlainRule as plain_rules
use Rattle.step_rules.specs.declared.plain.PlainRule.TheVariants as plain_variants

-- the rules as the definition has them
abbrev pub definition_plain : plain_rules.PlainRule → PlainRule
definition_plain (plain_variants.Runs touch) = PlainRule.Runs (option_map numbered_touch touch)
definition_plain (plain_variants.Misses line need) = PlainRule.Misses line.number need
definition_plain (plain_variants.Begins swap) = PlainRule.Begins (numbered_swap swap)
definition_plain (plain_variants.Arms word old) = PlainRule.Arms word

abbrev pub definition_armed : armed_rules.ArmedRule → ArmedRule
definition_armed (armed_variants.Elides swap) = ArmedRule.Elides (numbered_swap swap)
definition_armed armed_variants.Continues = ArmedRule.Continues
definition_armed armed_variants.LetsGo = ArmedRule.LetsGo

abbrev pub definition_in_section : section_rules.SectionRule → SectionRule
definition_in_section (section_variants.RollsBack cause) = SectionRule.RollsBack cause
definition_in_section section_variants.Commits = SectionRule.Commits
definition_in_section (section_variants.Buffers touch) = SectionRule.Buffers (option_map numbered_touch touch)
definition_in_section (section_variants.Misses line need) = SectionRule.Misses line.number need

-- a live section that has come so far, whatever its acquire would have stored
abbrev pub section_of : Progress → ℕ → Section
section_of progress new = record { count = progress.count; word = progress.word; old = progress.old; new = new }

-- an armed one; and the value that is kept of it is that of its word, as what it shows has it
abbrev pub armed_of : Progress → Armed
armed_of progress = record { count = progress.count; word = progress.word }

abbrev pub HasOld : Progress → FlatState → Type 0
HasOld progress shown = progress.old ≡ loaded (byte_in shown.base shown.bytes) progress.word 4

-- memory begins with a line
abbrev pub IsOnLine : FlatState → Type 0
IsOnLine flat = flat.base % LINE_BYTES ≡ 0

-- whether a hart may elide a swap that comes next, or arm at an LR
abbrev pub MayElide : ModelState → ℕ → Bool → Type 0
MayElide state h may = may ≡ may_elide state.config.mode (hart_of state h) (view_of state.committed h).pc

-- an instruction outside of a section runs where the letter of its line permits it
abbrev pub touching_rule : List (List Way) → Option Touch → PlainRule
touching_rule cache None = PlainRule.Runs None
touching_rule cache (Some touch) =
    if may_of (letter_of cache touch.line) touch.need then PlainRule.Runs (Some touch)
    else PlainRule.Misses touch.line touch.need

-- a swap that may be elided, whose line the cache has: one that changes its word begins a section, unless
-- another hart waits to write there
abbrev pub beginning_rule : List (List Way) → Bool → Swap → Option Touch → PlainRule
beginning_rule cache wanted swap touch =
    if not (changes_word swap) then touching_rule cache touch
    else if wanted then PlainRule.Misses (line_number swap.word) needs.Read
    else PlainRule.Begins swap

-- an LR at which its hart may arm
abbrev pub arming_rule : List (List Way) → Bool → ℕ → Option Touch → PlainRule
arming_rule cache wanted word touch =
    if may_read (letter_of cache (line_number word)) && not wanted then PlainRule.Arms word
    else touching_rule cache touch

-- any action where acquires may be elided
abbrev pub acquiring_rule : ModelState → ℕ → Option Swap → PlainRule
acquiring_rule state h None = reserve_rule state h (next_reserved state.committed h)
acquiring_rule state h (Some swap) = swap_rule state h (Some swap)

-- the value that an LR finds, where its hart arms at it: as a cache has the word, and as it is committed
abbrev pub IfArms : plain_rules.PlainRule → (ℕ → ℕ → Type 0) → Type 0
IfArms (plain_variants.Arms word old) P = P word old
IfArms _ P = Unit {0}

abbrev pub FindsOld : plain_rules.PlainRule → Cached → Type 0
FindsOld rule sets =
    IfArms rule (λ word old. old ≡ loaded (slice_index (bytes_of sets (line_number word))) (word % LINE_BYTES) 4)

abbrev pub TellsOld : plain_rules.PlainRule → FlatState → Type 0
TellsOld rule flat = IfArms rule (λ word old. old ≡ loaded (byte_in flat.base flat.bytes) word 4)

-- no hart arms
abbrev pub NeverArms : plain_rules.PlainRule → Type 0
NeverArms rule = IfArms rule (λ word old. ⊥)

-- an SC that succeeds, by whether another hart waits to write the line of the armed section's word
abbrev pub completing_rule : Swap → ℕ → Bool → ArmedRule
completing_rule swap word wanted =
    if (swap.word == word) && changes_word swap && not wanted then ArmedRule.Elides swap else ArmedRule.LetsGo

-- any other action of an armed section that has run so many instructions
abbrev pub growing : Bool → ℕ → ℕ → ArmedRule
growing quiet count long =
    if quiet && (nat_lt count most_armed && nat_lt (suc count) long) then ArmedRule.Continues else ArmedRule.LetsGo

-- whether a section that writes one more line would write more than it may
abbrev pub is_full : List (List Way) → ℕ → Need → Bool
is_full cache lines needs.Read = false
is_full cache lines needs.Write = write_bits_of cache == lines

-- a line without the bit that a section wants, by whether another hart waits for it
abbrev pub marking_rule : ℕ → ℕ → List (List Way) → Bool → Touch → SectionRule
marking_rule ways lines cache wanted touch =
    if is_full cache lines touch.need then SectionRule.RollsBack Lines
    else if not (room_of ways cache touch.line) then SectionRule.RollsBack Room
    else if not (may_of (letter_of cache touch.line) touch.need) || wanted then SectionRule.Misses touch.line touch.need
    else SectionRule.Buffers (Some touch)
