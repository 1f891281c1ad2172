-- Walking over the entries of a file.
use Rattle.std.proofs.Common.{◌≡◌, ℕ, suc, ◌+◌, ◌-◌, ◌≤◌, ◌<◌, ltb, List, [], ◌∷◌, ◌++◌, length, map, drop, Option}
use Rattle.std.proofs.Common.{Some, None, refl, sym, ap, ◌∙◌}
use Rattle.std.proofs.Common.{append_assoc, arith}
use Rattle.std.specs.Option.{option_or}
use Rattle.std.proofs.lemmas.List.{append-nil}
use Rattle.el_base.specs.Firsts.{some_if}
use Rattle.el_base.specs.declared.entries.Entry.{Entry}
use Rattle.el_base.specs.declared.file_fault.FileFault.{FileFault}
use Rattle.el_base.proofs.Laws.Options.{or_none}
use Rattle.trace_file.specs.FaultKinds.{fault_of}
use Rattle.trace_file.specs.declared.fault.FaultKind.TheVariants.{Tail}
use Rattle.trace_file.specs.Faults.{entries_fault, entry_fault}
use Rattle.trace_file.specs.Fields.{entry_width}
use Rattle.trace_file.specs.Reading.{entries_in, entry_in}

passed_over : (a b : Option FileFault) → a ≡ None → option_or a b ≡ b
passed_over None b none = refl
passed_over (Some fault) b none = absurd cc

found : (a b : Option FileFault) (fault : FileFault) → a ≡ Some fault → option_or a b ≡ Some fault
found None b fault is = absurd cc
found (Some first) b fault is = is

-- an entry without a fault is passed over
pub passed : (harts left less place width : ℕ) (bytes : List ℕ) → left ≡ suc less → width ≡ entry_width harts bytes →
    entry_fault harts place bytes ≡ None →
    entries_fault harts left place bytes ≡ entries_fault harts less (place + width) (drop width bytes)
passed harts left less place width bytes more is none =
    ap (λ (n : ℕ). entries_fault harts n place bytes) more
    ∙ passed_over (entry_fault harts place bytes) _ none
    ∙ ap (λ (w : ℕ). entries_fault harts less (place + w) (drop w bytes)) (sym is)

-- the fault of an entry is that of the entries from it on
pub fault_here : (harts left less place : ℕ) (bytes : List ℕ) (fault : FileFault) → left ≡ suc less →
    entry_fault harts place bytes ≡ Some fault → entries_fault harts left place bytes ≡ Some fault
fault_here harts left less place bytes fault more is =
    ap (λ (n : ℕ). entries_fault harts n place bytes) more ∙ found (entry_fault harts place bytes) _ fault is

-- where the entries have no fault, the first of them has none
pub first_passes : (harts left less place : ℕ) (bytes : List ℕ) → left ≡ suc less →
    entries_fault harts left place bytes ≡ None → entry_fault harts place bytes ≡ None
first_passes harts left less place bytes more none =
    (or_none (entry_fault harts place bytes) _
    (sym (ap (λ (n : ℕ). entries_fault harts n place bytes) more) ∙ none)).0

-- the first of the entries
pub read_more : (harts left less width : ℕ) (bytes : List ℕ) (entry : Entry) → left ≡ suc less →
    width ≡ entry_width harts bytes → entry ≡ entry_in bytes →
    entries_in harts left bytes ≡ entry ∷ entries_in harts less (drop width bytes)
read_more harts left less width bytes entry more is entry-is =
    ap (λ (n : ℕ). entries_in harts n bytes) more
    ∙ ap (λ (w : ℕ). entry_in bytes ∷ entries_in harts less (drop w bytes)) (sym is)
    ∙ ap (λ (e : Entry). e ∷ entries_in harts less (drop width bytes)) (sym entry-is)

-- what was gathered, with the first of those to come
pub gathered : {A : Type 0} (take_of : Entry → A) (before after : List A) (whole : List A) (entry : Entry)
    (entries rest : List Entry) → before ++ map take_of entries ≡ whole → entries ≡ entry ∷ rest →
    after ≡ before ++ take_of entry ∷ [] → after ++ map take_of rest ≡ whole
gathered {A = A} take_of before after whole entry entries rest so-far is pushed =
    ap (λ (l : List A). l ++ map take_of rest) pushed
    ∙ append_assoc before (take_of entry ∷ []) (map take_of rest)
    ∙ ap (λ (l : List Entry). before ++ map take_of l) (sym is)
    ∙ so-far

-- ---- at a place of the walk, with so many entries behind

less_one : (count k : ℕ) → k < count → count - k ≡ suc (count - (k + 1))
less_one count k inside = omega arith

pub goes_on : (harts count k place width : ℕ) (bytes : List ℕ) (whole : Option FileFault) → k < count →
    entries_fault harts (count - k) place bytes ≡ whole → width ≡ entry_width harts bytes →
    entry_fault harts place bytes ≡ None →
    entries_fault harts (count - (k + 1)) (place + width) (drop width bytes) ≡ whole
goes_on harts count k place width bytes whole inside so-far is none =
    sym (passed harts (count - k) (count - (k + 1)) place width bytes (less_one count k inside) is none) ∙ so-far

pub stops : (harts count k place : ℕ) (bytes : List ℕ) (whole : Option FileFault) (fault : FileFault) → k < count →
    entries_fault harts (count - k) place bytes ≡ whole → entry_fault harts place bytes ≡ Some fault →
    whole ≡ Some fault
stops harts count k place bytes whole fault inside so-far is =
    sym so-far ∙ fault_here harts (count - k) (count - (k + 1)) place bytes fault (less_one count k inside) is

pub ends : (harts count k place : ℕ) (bytes : List ℕ) (whole : Option FileFault) → count ≤ k →
    entries_fault harts (count - k) place bytes ≡ whole → some_if (ltb 0 (length bytes)) (fault_of Tail place) ≡ whole
ends harts count k place bytes whole past so-far =
    let none : count - k ≡ 0 = omega arith in
    ap (λ (n : ℕ). entries_fault harts n place bytes) (sym none) ∙ so-far

pub starts : (harts count k place : ℕ) (bytes : List ℕ) → k < count →
    entries_fault harts (count - k) place bytes ≡ None → entry_fault harts place bytes ≡ None
starts harts count k place bytes inside none =
    first_passes harts (count - k) (count - (k + 1)) place bytes (less_one count k inside) none

pub gathers : {A : Type 0} (take_of : Entry → A) (harts count k width : ℕ) (bytes : List ℕ) (entry : Entry)
    (before after whole : List A) → k < count → width ≡ entry_width harts bytes → entry ≡ entry_in bytes →
    before ++ map take_of (entries_in harts (count - k) bytes) ≡ whole → after ≡ before ++ take_of entry ∷ [] →
    after ++ map take_of (entries_in harts (count - (k + 1)) (drop width bytes)) ≡ whole
gathers take_of harts count k width bytes entry before after whole inside is entry-is so-far pushed =
    gathered take_of before after whole entry (entries_in harts (count - k) bytes)
    (entries_in harts (count - (k + 1)) (drop width bytes)) so-far
    (read_more harts (count - k) (count - (k + 1)) width bytes entry (less_one count k inside) is entry-is) pushed

pub all_gathered : {A : Type 0} (take_of : Entry → A) (harts count k : ℕ) (bytes : List ℕ) (before whole : List A) →
    count ≤ k → before ++ map take_of (entries_in harts (count - k) bytes) ≡ whole → before ≡ whole
all_gathered {A = A} take_of harts count k bytes before whole past so-far =
    let none : count - k ≡ 0 = omega arith in
    sym (append-nil before)
    ∙ ap (λ (n : ℕ). before ++ map take_of (entries_in harts n bytes)) (sym none)
    ∙ so-far
