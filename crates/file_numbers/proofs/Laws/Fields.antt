-- Fields with and without a fault.
use Rattle.std.proofs.Common.{◌≡◌, ℕ, ◌≤◌, Bool, true, false, not, ◌==◌, ltb, List, length, get_or, Option, None, refl}
use Rattle.std.proofs.lemmas.Bool.{le-ltb, ltb-false}
use Rattle.el_base.specs.Firsts.{some_if}
use Rattle.el_base.specs.declared.file_fault.FileFault.{FileFault}
use Rattle.el_base.proofs.Laws.Options.{cond_none}
use Rattle.el_base.proofs.Laws.Tests.{same_unless_other}
use Rattle.file_numbers.specs.Fields.{short_or, wrong_byte}

-- a field without a fault is whole
pub field_none : (short : ℕ → FileFault) (file : List ℕ) (end : ℕ) (fault : Option FileFault) →
    short_or short file end fault ≡ None → (end ≤ length file) × (fault ≡ None)
unfolding short_or
field_none short file end fault none =
    let e = cond_none (ltb (length file) end) (short (length file)) fault none in
    (ltb-false (length file) end e.0, e.1)

-- a whole field has its own faults alone
pub field_passes : (short : ℕ → FileFault) (file : List ℕ) (end : ℕ) (fault : Option FileFault) → end ≤ length file →
    fault ≡ None → short_or short file end fault ≡ None
unfolding short_or
field_passes short file end fault whole none = rw (le-ltb (length file) end whole) none

-- a byte that is not wrong is the one that is wanted
pub wrong_none : (fault : ℕ → FileFault) (file : List ℕ) (place wanted : ℕ) →
    wrong_byte fault file place wanted ≡ None → get_or file place 0 ≡ wanted
wrong_none fault file place wanted none =
    same_unless_other (get_or file place 0) wanted
    (cond_none (not (get_or file place 0 == wanted)) (fault place) None none).0

-- what is not wrong has no fault
pub passes_if : (wrong : Bool) (fault : FileFault) → wrong ≡ false → some_if wrong fault ≡ None
passes_if true fault e = absurd cc
passes_if false fault e = refl
