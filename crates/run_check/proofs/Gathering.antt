-- The lines of memory.
use Rattle.rv_flat.specs.Memory.{byte_in}
use Rattle.std.specs.Prelude.{IfSome}
use Rattle.std.proofs.Common.{◌≡◌, ℕ, ◌+◌, ◌-◌, ◌*◌, ◌/◌, ◌%◌, ◌≤◌, ◌<◌, Bool, true, false, not, cond, List, [], ◌∷◌}
use Rattle.std.proofs.Common.{◌++◌, Option, Some, None, set, below_more, get_or-set_other, get_or-set_same, length}
use Rattle.std.proofs.Common.{get_or, take, drop, sym, ap, ◌∙◌, arith, add-one}
use Rattle.std.proofs.lemmas.List.{append-nil, ext_get_or, get_or-drop, get_or-take, length-drop, length-take-le}
use Rattle.std.specs.Str.{bytes_eq}
use Rattle.el_base.specs.Line.{line_number}
use Rattle.el_base.specs.declared.line.LineAddr.{LineAddr}
use Rattle.run_check.proofs.Items.{patch_is}
use Rattle.run_check.proofs.Items.{patch_of as a_patch}
use Rattle.elf_image.specs.Program.{Program}
use Rattle.run_check.specs.Certified.{changed, changed_below, line_of_memory, patch_of}
use Rattle.run_check.specs.declared.content.Patch.{Patch}

pub line_is : (memory line : List ℕ) (index : ℕ) → length line ≡ 64 → 64 * index + 64 ≤ length memory →
    ((k : ℕ) → k < 64 → get_or line k 0 ≡ get_or memory (64 * index + k) 0) → line ≡ line_of_memory memory index
line_is memory line index long inside each =
    ext_get_or 0 line (take 64 (drop (64 * index) memory))
    (long ∙ sym (length-take-le 64 (drop (64 * index) memory) (omega (arith, length-drop (64 * index) memory))))
    (λ k within.
    let low : k < 64 = omega arith in
    each k low ∙ sym (get_or-drop (64 * index) memory k 0) ∙ sym (get_or-take 64 (drop (64 * index) memory) k 0 low))

pub line_pushed : (program : Program) (memory : List ℕ) (index : ℕ) (before after : List Patch) (patch : Patch) →
    before ≡ changed_below program memory index → changed program memory index ≡ true →
    patch ≡ patch_of program memory index → after ≡ before ++ patch ∷ [] →
    after ≡ changed_below program memory (index + 1)
line_pushed program memory index before after patch is differs same pushed =
    pushed
    ∙ ap (λ (l : List Patch). l ++ patch ∷ []) is
    ∙ ap (λ p. changed_below program memory index ++ p ∷ []) same
    ∙ ap (λ b. changed_below program memory index ++ cond b (patch_of program memory index ∷ []) []) (sym differs)
    ∙ ap (changed_below program memory) (sym (add-one index))

pub line_passed : (program : Program) (memory : List ℕ) (index : ℕ) (before : List Patch) →
    before ≡ changed_below program memory index → changed program memory index ≡ false →
    before ≡ changed_below program memory (index + 1)
line_passed program memory index before is same =
    is
    ∙ sym (append-nil (changed_below program memory index))
    ∙ ap (λ b. changed_below program memory index ++ cond b (patch_of program memory index ∷ []) []) (sym same)
    ∙ ap (changed_below program memory) (sym (add-one index))

-- what one call for a byte gave
pub byte_got : (memory : List ℕ) (base base' from place index value : ℕ) (got : Option ℕ) → got ≡ Some value →
    IfSome got (λ byte. byte ≡ byte_in base' memory (from + place)) → base ≡ base' → from ≡ base + 64 * index →
    value ≡ get_or memory (64 * index + place) 0
byte_got memory base base' from place index value (Some byte) is exact same start =
    let back : from + place - base' ≡ 64 * index + place = omega (arith, same, start) in
    let value-is : byte ≡ value = cc in
    sym value-is ∙ exact ∙ ap (λ n. get_or memory n 0) back
byte_got memory base base' from place index value None is exact same start = absurd cc

pub byte_set : (line : List ℕ) (memory : List ℕ) (index place value : ℕ) → length line ≡ 64 → place < 64 →
    ((k : ℕ) → k < place → get_or line k 0 ≡ get_or memory (64 * index + k) 0) →
    value ≡ get_or memory (64 * index + place) 0 → (k : ℕ) → k < place + 1 →
    get_or (set line place value) k 0 ≡ get_or memory (64 * index + k) 0
byte_set line memory index place value long low before is =
    below_more _ _
    (λ k h. get_or-set_other line place k value 0 (omega arith) ∙ before k h)
    (get_or-set_same line place value 0 (omega arith) ∙ is)

-- what a comparison of two lines says
pub changed_is : (program : Program) (memory line wanted : List ℕ) (index : ℕ) (same : Bool) →
    line ≡ line_of_memory memory index → wanted ≡ line_of_memory program.bytes index → same ≡ bytes_eq line wanted →
    changed program memory index ≡ not same
changed_is program memory line wanted index same is image compared =
    ap (λ l. not (bytes_eq l (line_of_memory program.bytes index))) (sym is)
    ∙ ap (λ l. not (bytes_eq line l)) (sym image)
    ∙ ap not (sym compared)

pub image_line : (image bytes : List ℕ) (index len : ℕ) → len ≡ 64 → bytes ≡ image →
    take len (drop (64 * index) bytes) ≡ line_of_memory image index
image_line image bytes index len is same =
    ap (λ n. take n (drop (64 * index) bytes)) is ∙ ap (λ b. take 64 (drop (64 * index) b)) same

pub patch_gathered : (program : Program) (memory line : List ℕ) (base index : ℕ) (address : LineAddr) →
    program.base % 64 ≡ 0 → base ≡ program.base → address.number ≡ line_number (base + 64 * index) →
    line ≡ line_of_memory memory index → a_patch address line ≡ patch_of program memory index
patch_gathered program memory line base index address aligned same number is =
    patch_is address (program.base / 64 + index) line (line_of_memory memory index) (omega (arith, number, same)) is
