-- the views of other harts after a hart's own steps: they have lost their reservations of
-- words on the lines that it wrote
use Rattle.std.proofs.Common.{◌≡◌, ◌≢◌, ◌<◌, ◌∙◌, ◌||◌, ◌==◌, ℕ, zero, suc, Bool, true, false, Option, None, Some}
use Rattle.std.proofs.Common.{arith, refl, ap, sym, if◌then◌else◌}
use Rattle.std.proofs.lemmas.Bool.{or_left, or_right}
use Rattle.el_base.specs.Line.{line_number}
use Rattle.el_base.proofs.Laws.Tests.{number_of_test, own_test}
use Rattle.rv_alu.specs.declared.footprint.Access.{Access}
use Rattle.rv_alu.specs.declared.footprint.Access.TheVariants.{Nothing, Read, Write, Trap, Exit}
use Rattle.rv_alu.specs.declared.view.HartView.{HartView}
use Rattle.rv_flat.proofs.Laws.StepLaws.{keeps_others}
use Rattle.rv_flat.specs.FlatState.{FlatState, view_of}
use Rattle.rv_flat.specs.Laws.{footprint_of, seen_after, written_line}
use Rattle.rv_flat.specs.Run.{alone}
use Rattle.rv_flat.specs.Step.{flat}
use Rattle.section_view.proofs.Laws.Beginning.{or_cases}
use Rattle.section_view.specs.KeptRun.{WroteLine}
use Rattle.section_view.specs.Release.{reserved_beside, view_unreserved_on}

-- whether a line is the one that was written
abbrev is_line : Option ℕ → ℕ → Bool
is_line None line = false
is_line (Some written) line = line == written

-- whether one of the first steps wrote a line
abbrev pub has_written : FlatState → ℕ → ℕ → ℕ → Bool
has_written state h zero line = false
has_written state h (suc n) line =
    is_line (written_line (footprint_of state h)) line || has_written (flat state h) h n line

line_was : (written : Option ℕ) (line : ℕ) → is_line written line ≡ true → written ≡ Some line
line_was None line is = absurd (cc)
line_was (Some written) line is = ap Some (sym (number_of_test line written is))

is_line_was : (written : Option ℕ) (line : ℕ) → written ≡ Some line → is_line written line ≡ true
is_line_was written line is = ap (λ written. is_line written line) is ∙ own_test line

later : (state : FlatState) (h n line : ℕ) → WroteLine (flat state h) h n line → WroteLine state h (suc n) line
later state h n line wrote = let before =
    wrote.before in record { step = suc wrote.step; before = omega arith; writes = wrote.writes }

pub written_was : (state : FlatState) (h n line : ℕ) → has_written state h n line ≡ true → WroteLine state h n line
written_was state h zero line is = absurd (cc)
written_was state h (suc n) line is =
    or_cases (is_line (written_line (footprint_of state h)) line) (has_written (flat state h) h n line) is
    (λ first.
    record { step = 0; before = omega arith; writes = line_was (written_line (footprint_of state h)) line first })
    (λ rest. later state h n line (written_was (flat state h) h n line rest))

pub was_written_at : (state : FlatState) (h n step line : ℕ) → step < n →
    written_line (footprint_of (alone state h step) h) ≡ Some line → has_written state h n line ≡ true
was_written_at state h zero step line less is = absurd (omega arith)
was_written_at state h (suc n) zero line less is =
    or_left (is_line (written_line (footprint_of state h)) line) (has_written (flat state h) h n line)
    (is_line_was (written_line (footprint_of state h)) line is)
was_written_at state h (suc n) (suc step) line less is =
    or_right (is_line (written_line (footprint_of state h)) line) (has_written (flat state h) h n line)
    (was_written_at (flat state h) h n step line (omega arith) is)

-- two tests that are true together are the same
same_test : (a b : Bool) → (a ≡ true → b ≡ true) → (b ≡ true → a ≡ true) → a ≡ b
same_test true true to from = refl
same_test true false to from = sym (to refl)
same_test false true to from = from refl
same_test false false to from = refl

pub same_lines : (state : FlatState) (h n line : ℕ) (test : Bool) → (WroteLine state h n line → test ≡ true) →
    (test ≡ true → WroteLine state h n line) →
    has_written state h n line ≡ test
same_lines state h n line test to from =
    same_test (has_written state h n line) test (λ is. to (written_was state h n line is))
    (λ is. let wrote = from is in was_written_at state h n wrote.step line wrote.before wrote.writes)

-- a reservation of a word on one of some lines, or on one more
pub reserved_same : (left right : ℕ → Bool) → ((line : ℕ) → left line ≡ right line) → (reserved : Option ℕ) →
    reserved_beside left reserved ≡ reserved_beside right reserved
reserved_same left right same None = refl
reserved_same left right same (Some word) = ap (λ test. if test then None else Some word) (same (line_number word))

pub unreserved_same : (left right : ℕ → Bool) → ((line : ℕ) → left line ≡ right line) → (view : HartView) →
    view_unreserved_on left view ≡ view_unreserved_on right view
unreserved_same left right same view =
    ap (λ reserved. record view { reserved = reserved }) (reserved_same left right same view.reserved)

none_reserved : (reserved : Option ℕ) → reserved_beside (λ line. false) reserved ≡ reserved
none_reserved None = refl
none_reserved (Some word) = refl

none_unreserved : (view : HartView) → view ≡ view_unreserved_on (λ line. false) view
none_unreserved view = ap (λ reserved. record view { reserved = reserved }) (sym (none_reserved view.reserved))

first_off : (written : ℕ) (rest : ℕ → Bool) (word : ℕ) (test : Bool) → (line_number word == written) ≡ test →
    reserved_beside rest (if test then None else Some word)
    ≡ (if test || rest (line_number word) then None else Some word)
first_off written rest word true is = refl
first_off written rest word false is = refl

off_by : (access : Access) (rest : ℕ → Bool) (reserved : Option ℕ) (view : HartView) → view.reserved ≡ reserved →
    reserved_beside rest (seen_after access view).reserved
    ≡ reserved_beside (λ line. is_line (written_line access) line || rest line) reserved
off_by (Write from len) rest None view is = rw is refl
off_by (Write from len) rest (Some word) view is =
    rw is (first_off (line_number from) rest word (line_number word == line_number from) refl)
off_by (Read from len) rest reserved view is =
    ap (reserved_beside rest) is ∙ reserved_same rest (λ line. false || rest line) (λ line. refl) reserved
off_by Nothing rest reserved view is =
    ap (reserved_beside rest) is ∙ reserved_same rest (λ line. false || rest line) (λ line. refl) reserved
off_by (Trap cause) rest reserved view is =
    ap (reserved_beside rest) is ∙ reserved_same rest (λ line. false || rest line) (λ line. refl) reserved
off_by (Exit code) rest reserved view is =
    ap (reserved_beside rest) is ∙ reserved_same rest (λ line. false || rest line) (λ line. refl) reserved

but_reserved : (access : Access) (view : HartView) (reserved : Option ℕ) →
    record (seen_after access view) { reserved = reserved } ≡ record view { reserved = reserved }
but_reserved (Write from len) view reserved = refl
but_reserved (Read from len) view reserved = refl
but_reserved Nothing view reserved = refl
but_reserved (Trap cause) view reserved = refl
but_reserved (Exit code) view reserved = refl

-- each other hart's view after so many steps
pub others_after : (state : FlatState) (h g n : ℕ) → g ≢ h →
    view_of (alone state h n) g ≡ view_unreserved_on (has_written state h n) (view_of state g)
others_after state h g zero apart = none_unreserved (view_of state g)
others_after state h g (suc n) apart =
    let access = footprint_of state h in
    let rest = has_written (flat state h) h n in
    let view = view_of state g in
    others_after (flat state h) h g n apart ∙ ap (view_unreserved_on rest) (keeps_others state h g apart)
    ∙ but_reserved access view (reserved_beside rest (seen_after access view).reserved)
    ∙ ap (λ reserved. record view { reserved = reserved }) (off_by access rest view.reserved view refl)
