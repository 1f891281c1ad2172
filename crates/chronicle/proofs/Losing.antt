-- Counting the losers of an event, one hart after another.
use Rattle.std.proofs.Common.{◌≡◌, ◌≢◌, ℕ, ◌+◌, ◌<◌, ◌==◌, nat_lt, Bool, true, false, ◌&&◌, List, length, set, refl, ap}
use Rattle.std.proofs.Common.{sym, ◌∙◌, arith}
use Rattle.std.proofs.lemmas.Bool.Decides.{nat_tests}
use Rattle.std.proofs.lemmas.Grind.{get_or-set_at}
use Rattle.std.proofs.lemmas.List.{get_or-set_other}
use Rattle.chronicle.specs.Tally.{nothing}
use Rattle.chronicle.specs.declared.tally.Tally.{Tally}
use Rattle.chronicle.specs.Counting.{tally_at, with_loss}
use Rattle.el_base.proofs.Laws.Tests.{apart_by_test, number_of_test}

-- the losers among the first harts are counted, and no other
abbrev pub CountedBelow : (ℕ → Bool) → List Tally → List Tally → ℕ → Type 0
CountedBelow lost before now number =
    (hart : ℕ) → hart < 8 → tally_at now hart ≡ with_loss (tally_at before hart) (nat_lt hart number && lost hart)

not_below : (hart number : ℕ) (lost : Bool) → hart ≡ number → (nat_lt hart number && lost) ≡ false
not_below hart number lost same = grind (arith, nat_tests)

now_below : (hart number : ℕ) (lost : Bool) → hart ≡ number → (nat_lt hart (number + 1) && lost) ≡ lost
now_below hart number lost same = grind (arith, nat_tests)

still_below : (hart number : ℕ) (lost : Bool) → hart ≢ number →
    (nat_lt hart number && lost) ≡ (nat_lt hart (number + 1) && lost)
still_below hart number lost other = ap (λ test. test && lost) (grind (arith, nat_tests))

none_below : (hart : ℕ) (lost : Bool) → (nat_lt hart 0 && lost) ≡ false
none_below hart lost = grind (arith, nat_tests)

pub none_counted : (lost : ℕ → Bool) (before : List Tally) → CountedBelow lost before before 0
none_counted lost before hart small = sym (ap (with_loss (tally_at before hart)) (none_below hart (lost hart)))

pub loser_passed : (lost : ℕ → Bool) (before now : List Tally) (number : ℕ) → CountedBelow lost before now number →
    lost number ≡ false → CountedBelow lost before now (number + 1)
loser_passed lost before now number counted here hart small =
    counted hart small ∙ ap (with_loss (tally_at before hart)) (by (hart == number) refl)
  where
    by : (b : Bool) → (hart == number) ≡ b → (nat_lt hart number && lost hart) ≡ (nat_lt hart (number + 1) && lost hart)
    by true e =
        let same = number_of_test hart number e in
        not_below hart number (lost hart) same ∙ sym (now_below hart number (lost hart) same ∙ ap lost same ∙ here)
    by false e = still_below hart number (lost hart) (apart_by_test hart number e)

pub loser_counted : (lost : ℕ → Bool) (before now : List Tally) (number : ℕ) → CountedBelow lost before now number →
    number < length now → number < 8 → lost number ≡ true →
    CountedBelow lost before
    (set now number (record (tally_at now number) { conflict = (tally_at now number).conflict + 1 })) (number + 1)
loser_counted lost before now number counted there within here hart small = by (hart == number) refl
  where
    more : Tally → Tally
    more tally = record tally { conflict = tally.conflict + 1 }

    by : (b : Bool) → (hart == number) ≡ b →
        tally_at (set now number (record (tally_at now number) { conflict = (tally_at now number).conflict + 1 })) hart
        ≡ with_loss (tally_at before hart) (nat_lt hart (number + 1) && lost hart)
    by true e =
        let same = number_of_test hart number e in
        let old = counted hart small ∙ ap (with_loss (tally_at before hart)) (not_below hart number (lost hart) same) in
        get_or-set_at now number hart (more (tally_at now number)) nothing same there
        ∙ ap (λ n. more (tally_at now n)) (sym same)
        ∙ ap more old
        ∙ sym (ap (with_loss (tally_at before hart)) (now_below hart number (lost hart) same ∙ ap lost same ∙ here))
    by false e =
        let other = apart_by_test hart number e in
        get_or-set_other now number hart (more (tally_at now number)) nothing other
        ∙ counted hart small
        ∙ ap (with_loss (tally_at before hart)) (still_below hart number (lost hart) other)

all_below : (hart : ℕ) (lost : Bool) → hart < 8 → (nat_lt hart 8 && lost) ≡ lost
all_below hart lost small = grind (arith, nat_tests)

-- the number of conflicts has room for one more where it was not counted yet
pub room_left : (lost : ℕ → Bool) (before now : List Tally) (number : ℕ) → CountedBelow lost before now number →
    number < 8 → (tally_at now number) ≡ (tally_at before number)
room_left lost before now number counted within =
    counted number within ∙ ap (with_loss (tally_at before number)) (not_below number number (lost number) refl)

pub all_counted : (lost : ℕ → Bool) (before now : List Tally) (number : ℕ) → number ≡ 8 →
    CountedBelow lost before now number → (hart : ℕ) → hart < 8 →
    tally_at now hart ≡ with_loss (tally_at before hart) (lost hart)
all_counted lost before now number whole counted hart small =
    counted hart small ∙ ap (with_loss (tally_at before hart))
    (ap (λ n. nat_lt hart n && lost hart) whole ∙ all_below hart (lost hart) small)
