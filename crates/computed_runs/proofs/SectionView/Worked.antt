-- One hart elides a lock, stores a byte, and comes to its release: its view and a hold of that byte keep its run, and
-- it takes effect. What the laws do not say is refuted on the same run.
use Rattle.std.proofs.Common.{◌≡◌, ◌≤◌, ◌<◌, ◌+◌, ◌-◌, ◌*◌, ◌/◌, ◌%◌, ◌^◌, ◌∙◌, ◌&&◌, ◌==◌, ℕ, zero, suc, Bool, true}
use Rattle.std.proofs.Common.{false, List, [], ◌∷◌, Option, None, Some, nat_le, nat_lt}
use Rattle.std.proofs.Common.{arith, refl, ap, sym, inl, inr, ◌⊎◌, if◌then◌else◌, replicate, option_and_then, subst}
use Rattle.std.specs.Prelude.{slice_index}
use Rattle.std.proofs.lemmas.Bool.{cases_eq}
use Rattle.std.proofs.lemmas.Bool.Decides.{nat_tests}
use Rattle.std.proofs.lemmas.Grind.{common_steps}
use Rattle.residency.specs.Residency.{Way}
use Rattle.el_base.specs.Line.{line_number}
use Rattle.el_base.specs.declared.config.Mode.TheVariants.{Sle}
use Rattle.el_base.proofs.Laws.Tests.{other_test}
use Rattle.computed_runs.proofs.Computing.{computing}
use Rattle.computed_runs.proofs.Given.{patched, section, way}
use Rattle.computed_runs.proofs.Rows.Given.{machine_of, settings, store_byte, store_word, swap, usual}
use Rattle.el_model.specs.Upcoming.{Swap, is_release, next_swap}
use Rattle.moesi.specs.declared.letter.Letter.TheVariants.{M, S}
use Rattle.rv_alu.specs.Execution.{store_in}
use Rattle.rv_alu.specs.declared.action.Action.TheVariants as actions
use Rattle.rv_alu.specs.declared.view.HartStatus.TheVariants.{Running}
use Rattle.rv_alu.specs.declared.view.HartView.{HartView}
use Rattle.rv_flat.specs.FlatState.{FlatState, status_of, view_of}
use Rattle.rv_flat.specs.Memory.{AreBytes, byte_in}
use Rattle.rv_flat.specs.Run.{alone}
use Rattle.rv_flat.specs.Step.{action_of}
use Rattle.rv_word.specs.Field.{rd_of}
use Rattle.rv_word.specs.declared.insn.AmoOp.TheVariants as amos
use Rattle.run_laws.specs.PrivateRun.{IsCoveredRun, IsCoveredStep}
use Rattle.section_view.proofs.Laws.Beginning.{begins}
use Rattle.section_view.proofs.Laws.Committing.{commits}
use Rattle.section_view.proofs.Laws.GoingOn.{goes_on}
use Rattle.section_view.specs.KeptRun.{KeepsRun, section_execution}
use Rattle.section_view.specs.Laws.{HoldsAfter}
use Rattle.section_view.specs.Release.{HasEffect}
use Rattle.write_hold.proofs.Laws.LookUps.{laid_above, laid_below}
use Rattle.write_hold.proofs.Laws.Masks.{mask_of_places}
use Rattle.write_hold.specs.Calls.{IsPut}
use Rattle.write_hold.specs.Held.{Entry, Held, held, laid, stored_at}

-- it swaps 1 into the lock word, stores 5 in the first byte of the next line, and stores 0 in the lock word
abbrev committed : FlatState
committed =
    (machine_of (settings 1 Sle 16 4 16 2000) 192 (
    record { words = swap 7 5 10 ∷ store_byte 6 11 ∷ store_word 0 10 ∷ []; registers = usual } ∷ [])).committed

abbrev lock : Swap
lock = record { word = 65536; old = 0; new = 1 }

-- both lines are in its cache, the lock's with the read bit and the other with the write bit
abbrev cache : List (List Way)
cache = (way 1024 S true false ∷ way 1025 M false true ∷ []) ∷ []

-- after the acquire it has run on by one instruction, and has the old value in register 7
abbrev first : HartView
first = record { pc = 131076; regs = patched (replicate 32 0) usual; reserved = None; status = Running }

acquire : next_swap committed 0 ≡ Some lock
unfolding computing
acquire = refl

acts : action_of committed (view_of committed 0) ≡ actions.Amo amos.Swap (rd_of (swap 7 5 10)) 65536 1
unfolding computing
acts = refl

running : (n : ℕ) → n ≤ 2 → status_of (alone committed 0 n) 0 ≡ Running
unfolding computing
running zero within = refl
running (suc zero) within = refl
running (suc (suc zero)) within = refl
running (suc (suc (suc n))) within = absurd (omega arith)

begun : KeepsRun committed 0 (section 1 65536 0 1) first []
unfolding computing
begun = begins committed 0 lock amos.Swap (rd_of (swap 7 5 10)) 65536 1 (running 0 (omega arith)) acquire acts

covered_once : IsCoveredRun committed 0 cache (section 1 65536 0 1)
covered_once = record {
  before = 0;
  some = omega arith;
  acquire = acquire;
  read = refl;
  running = λ n within. running n (omega arith);
  inside = λ n from less. absurd (omega arith);
}

covered_step : IsCoveredStep (alone committed 0 1) 0 65536 cache
unfolding computing
covered_step = record { goes_on = refl; unmixed = refl; bit = refl }

-- the hold after its store: one line, with one byte
abbrev mask : ℕ
mask = (2 ^ 64 - 1) / 2 ^ (64 - 1) * 2 ^ 0 % 2 ^ 64

abbrev stored_line : Entry
stored_line = record { line = 1025; mask = mask; bytes = 5 ∷ replicate 63 0 }

abbrev empty : Held
empty = record { limit = 16; entries = [] }

abbrev one_line : Held
one_line = record { limit = 16; entries = stored_line ∷ [] }

abbrev found_line : Bool → Option Entry
found_line test = if test then Some stored_line else None

not_stored : (place : ℕ) → 1 ≤ place → stored_at stored_line place ≡ None
not_stored place some =
    let outside : (nat_le 0 place && nat_lt place (0 + 1)) ≡ false = grind (arith, nat_tests) in
    ap (λ test. if test then Some (slice_index stored_line.bytes place) else None)
    (mask_of_places 0 1 (omega arith) place ∙ outside)

put_address : (address : ℕ) → held (stored_line ∷ []) address ≡ laid 65600 (5 ∷ []) address (held [] address)
put_address address = by (cases_eq address 65600)
  where
    other_place : (address ≡ 65600 → ⊥) → (test : Bool) → (1025 == line_number address) ≡ test →
        option_and_then (λ entry. stored_at entry (address % 64)) (found_line test) ≡ None
    other_place other false is = refl
    other_place other true is = not_stored (address % 64) (grind (arith, nat_tests))

    laid_nothing : (address ≡ 65600 → ⊥) → (address < 65600) ⊎ (65601 ≤ address) →
        laid 65600 (5 ∷ []) address None ≡ None
    laid_nothing other (inl below) = laid_below 65600 (5 ∷ []) address None below
    laid_nothing other (inr above) = laid_above 65600 (5 ∷ []) address None above

    side : (address ≡ 65600 → ⊥) → (below : Bool) → nat_lt address 65600 ≡ below → (address < 65600) ⊎ (65601 ≤ address)
    side other true is = inl (grind (arith, nat_tests))
    side other false is = inr (grind (arith, nat_tests))

    by : (address ≡ 65600) ⊎ (address ≡ 65600 → ⊥) →
        held (stored_line ∷ []) address ≡ laid 65600 (5 ∷ []) address (held [] address)
    by (inl same) = rw same refl
    by (inr other) =
        ap (λ test. option_and_then (λ entry. stored_at entry (address % 64)) (found_line test)) refl
        ∙ other_place other (1025 == line_number address) refl
        ∙ sym (laid_nothing other (side other (nat_lt address 65600) refl))

put : IsPut empty one_line 1025 0 (5 ∷ [])
put = record {
  limit = refl;
  put = put_address;
  there = refl;
  others = λ line other. ap found_line (other_test 1025 line (λ same. other (sym same)));
  count = refl;
}

-- the store goes into the hold
abbrev under : ℕ → ℕ
under = byte_in committed.base committed.bytes

low_byte : (place : ℕ) → place < 1 → slice_index (5 ∷ []) place ≡ 5 / 256 ^ place % 256
low_byte zero less = refl
low_byte (suc place) less = absurd (omega arith)

stored : HoldsAfter (store_in (section_execution committed (section 1 65536 0 1) first [] under)) empty one_line
unfolding computing
stored = record { bytes = 5 ∷ []; low = record { count = refl; each = low_byte }; put = put }

abbrev second : HartView
second = record first { pc = 131080 }

kept : KeepsRun committed 0 (section 2 65536 0 1) second (stored_line ∷ [])
unfolding computing
kept =
    (goes_on committed 0 cache cache (section 1 65536 0 1) first empty one_line under covered_once begun
    (λ address there outside. refl)
    covered_step stored).keeps

-- and at its release it takes effect, over any bytes
covered_twice : IsCoveredRun committed 0 cache (section 2 65536 0 1)
covered_twice = record {
  before = 0;
  some = omega arith;
  acquire = acquire;
  read = refl;
  running = running;
  inside = λ n from less. let one : 1 ≡ n = omega arith in
      subst (λ n. IsCoveredStep (alone committed 0 n) 0 65536 cache) one covered_step;
}

release : is_release (alone committed 0 2) 0 65536 0 ≡ true
unfolding computing
release = refl

pub all_zero : (len place : ℕ) → slice_index (replicate len 0) place < 256
all_zero len place = grind (arith, common_steps)

zeros : AreBytes committed.bytes
zeros place = all_zero 192 place

abbrev third : HartView
third = record first { pc = 131084 }

effect : HasEffect committed (alone committed 0 3) 0 65536 third (stored_line ∷ [])
unfolding computing
effect =
    commits committed 0 cache (section 2 65536 0 1) second (stored_line ∷ []) (λ address. 7) zeros
    covered_twice kept release

-- so the stored byte is committed then, and the lock word is free
stored_is_committed : slice_index (alone committed 0 3).bytes 64 ≡ 5
stored_is_committed = effect.bytes 64

lock_is_free : slice_index (alone committed 0 3).bytes 0 ≡ 0
lock_is_free = effect.bytes 0

pub differ : {X : Type 0} (a b : ℕ) → b < a → a ≡ b → X
differ a b less same = absurd (omega (arith, less, same))

-- wrong: the section's run is kept without its store
kept_without_its_store : KeepsRun committed 0 (section 2 65536 0 1) second [] → ⊥
unfolding computing
kept_without_its_store keeps = differ 5 0 (omega arith) (keeps.unheld_byte 64 refl (λ low high. absurd (omega arith)))

-- wrong: a run of one instruction more is kept by the same view
kept_a_step_longer : KeepsRun committed 0 (section 3 65536 0 1) second (stored_line ∷ []) → ⊥
unfolding computing
kept_a_step_longer keeps = differ 131084 131080 (omega arith) (sym (ap (λ view. view.pc) keeps.view))

-- wrong: the lock word may be held
abbrev lock_line : Entry
lock_line = record { line = 1024; mask = mask; bytes = 1 ∷ replicate 63 0 }

lock_word_held : (count : ℕ) (view : HartView) → KeepsRun committed 0 (section count 65536 0 1) view (lock_line ∷ []) →
    ⊥
lock_word_held count view keeps = none_some (keeps.free 65536 (omega arith) (omega arith))
  where
    none_some : {byte : ℕ} → Some byte ≡ None → ⊥
    none_some wrong = absurd (cc)
