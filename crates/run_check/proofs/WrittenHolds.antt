-- The certificate of a history and of the state that a run of its serial order reaches holds.
use Rattle.std.proofs.Common.{◌≡◌, ◌≢◌, ℕ, zero, suc, ◌+◌, ◌-◌, ◌*◌, ◌/◌, ◌%◌, ◌≤◌, ◌<◌, Bool, true, false, cond}
use Rattle.std.proofs.Common.{◌==◌, List, [], ◌∷◌, ◌++◌, length, get_or, drop, Option, Some, None, refl, sym, ap, subst}
use Rattle.std.proofs.Common.{◌∙◌, arith, inl, inr}
use Rattle.std.specs.Str.{bytes_eq}
use Rattle.std.proofs.lemmas.Slice.Eq.{bytes_eq-Decides}
use Rattle.std.proofs.lemmas.Bool.{cases_lt, not-false}
use Rattle.std.proofs.lemmas.Bool.Decides.{nat_tests}
use Rattle.std.proofs.lemmas.List.{append-nil, get_or-drop, get_or-take}
use Rattle.std.specs.Prelude.{All}
use Rattle.chronicle.specs.Serial.{serial}
use Rattle.el_base.proofs.Laws.Lines.{line_addr-number}
use Rattle.el_base.specs.declared.entries.Entry.{Entry}
use Rattle.elf_image.specs.Program.{IsProgram, Program}
use Rattle.rv_flat.specs.FlatState.{FlatState, start}
use Rattle.rv_flat.specs.Memory.{byte_in}
use Rattle.rv_flat.specs.Run.{run}
use Rattle.run_check.specs.Certified.{certificate_of, changed, changed_below, changed_lines, line_of_memory, patch_of}
use Rattle.run_check.specs.Check.{byte_from, patch_of_line, reached, Agrees, CertificateHolds, LineHolds}
use Rattle.run_check.specs.Content.{written_out}
use Rattle.run_check.specs.declared.content.Patch.{Patch}
use Rattle.run_check.specs.declared.verdict.Difference.{Difference}
use Rattle.run_check.specs.declared.verdict.Difference.TheVariants.{View, Output, Memory}
use Rattle.run_check.proofs.CertificateRules.{below_from_all, stretches_written, weaker}

-- ---- a line among those that differ

front_found : (there : Bool) (x patch : Patch) (rest more : Option Patch) → (rest ≡ Some patch → more ≡ Some patch) →
    cond there (Some x) rest ≡ Some patch → cond there (Some x) more ≡ Some patch
front_found true x patch rest more step found = found
front_found false x patch rest more step found = step found

front_none : (there : Bool) (x : Patch) (rest more last : Option Patch) → (rest ≡ None → more ≡ last) →
    cond there (Some x) rest ≡ None → cond there (Some x) more ≡ last
front_none true x rest more last step none = absurd cc
front_none false x rest more last step none = step none

found_in : (xs ys : List Patch) (line : ℕ) (patch : Patch) → patch_of_line xs line ≡ Some patch →
    patch_of_line (xs ++ ys) line ≡ Some patch
found_in [] ys line patch found = absurd cc
found_in (x ∷ xs) ys line patch found =
    front_found (x.line.number == line) x patch (patch_of_line xs line) (patch_of_line (xs ++ ys) line)
    (found_in xs ys line patch) found

none_in : (xs ys : List Patch) (line : ℕ) → patch_of_line xs line ≡ None →
    patch_of_line (xs ++ ys) line ≡ patch_of_line ys line
none_in [] ys line none = refl
none_in (x ∷ xs) ys line none =
    front_none (x.line.number == line) x (patch_of_line xs line) (patch_of_line (xs ++ ys) line) (patch_of_line ys line)
    (none_in xs ys line) none

one_there : (patch : Patch) (line : ℕ) → patch.line.number ≡ line → patch_of_line (patch ∷ []) line ≡ Some patch
one_there patch line is = let e : (patch.line.number == line) ≡ true = grind (arith, nat_tests) in rw e refl

one_other : (patch : Patch) (line : ℕ) → patch.line.number ≢ line → patch_of_line (patch ∷ []) line ≡ None
one_other patch line other = let e : (patch.line.number == line) ≡ false = grind (arith, nat_tests) in rw e refl

-- the line at an index below the end, and no other
record Found (program : Program) (memory : List ℕ) (end : ℕ) : Type 0 where
  here : (index : ℕ) → index < end → changed program memory index ≡ true →
      patch_of_line (changed_below program memory end) (program.base / 64 + index)
      ≡ Some (patch_of program memory index)
  same : (index : ℕ) → index < end → changed program memory index ≡ false →
      patch_of_line (changed_below program memory end) (program.base / 64 + index) ≡ None
  below : (line : ℕ) → line < program.base / 64 → patch_of_line (changed_below program memory end) line ≡ None
  behind : (line : ℕ) → program.base / 64 + end ≤ line → patch_of_line (changed_below program memory end) line ≡ None

-- another line at the end changes nothing of this one
kept : (xs : List Patch) (patch : Patch) (line : ℕ) → patch.line.number ≢ line →
    patch_of_line (xs ++ patch ∷ []) line ≡ patch_of_line xs line
kept [] patch line other = one_other patch line other
kept (x ∷ xs) patch line other = ap (cond (x.line.number == line) (Some x)) (kept xs patch line other)

one_more : (program : Program) (memory : List ℕ) (end : ℕ) (differs : Bool) → changed program memory end ≡ differs →
    program.base / 64 + end < 67108864 → Found program memory end →
    let xs = changed_below program memory end ++ cond differs (patch_of program memory end ∷ []) [] in
    ((index : ℕ) → index < suc end → changed program memory index ≡ true →
    patch_of_line xs (program.base / 64 + index) ≡ Some (patch_of program memory index))
    × ((index : ℕ) → index < suc end → changed program memory index ≡ false →
    patch_of_line xs (program.base / 64 + index) ≡ None)
    × ((line : ℕ) → line < program.base / 64 → patch_of_line xs line ≡ None)
    × ((line : ℕ) → program.base / 64 + suc end ≤ line → patch_of_line xs line ≡ None)
one_more program memory end true is small f =
    let xs = changed_below program memory end in
    let y = patch_of program memory end in
    let number : y.line.number ≡ program.base / 64 + end = line_addr-number (program.base / 64 + end) small in (
      λ index low differs.
          elim (cases_lt index end) [
            | inl before ↦
                found_in xs (y ∷ []) (program.base / 64 + index) (patch_of program memory index)
                (f.here index before differs)
            | inr past ↦
                let this : end ≡ index = omega arith in
                subst (λ n. patch_of_line (xs ++ y ∷ []) (program.base / 64 + n) ≡ Some (patch_of program memory n))
                this
                (none_in xs (y ∷ []) (program.base / 64 + end) (f.behind (program.base / 64 + end) (omega arith))
                ∙ one_there y (program.base / 64 + end) number)
          ],
      λ index low same.
          elim (cases_lt index end) [
            | inl before ↦
                kept xs y (program.base / 64 + index) (λ e. absurd (omega (arith, number, e)))
                ∙ f.same index before same
            | inr past ↦
                let this : end ≡ index = omega arith in
                let e : changed program memory end ≡ false =
                subst (λ n. changed program memory n ≡ false) (sym this) same in
                absurd (let bad : true ≡ false = sym is ∙ e in cc)
          ],
      λ line low. kept xs y line (λ e. absurd (omega (arith, number, e))) ∙ f.below line low,
      λ line high. kept xs y line (λ e. absurd (omega (arith, number, e))) ∙ f.behind line (omega arith),
    )
one_more program memory end false is small f =
    let xs = changed_below program memory end in
    rw append-nil (
      λ index low differs.
          elim (cases_lt index end) [
            | inl before ↦ f.here index before differs
            | inr past ↦
                let this : end ≡ index = omega arith in
                let e : changed program memory end ≡ true =
                subst (λ n. changed program memory n ≡ true) (sym this) differs in
                absurd (let bad : false ≡ true = sym is ∙ e in cc)
          ],
      λ index low same.
          elim (cases_lt index end) [
            | inl before ↦ f.same index before same
            | inr past ↦
                let this : end ≡ index = omega arith in
                f.behind (program.base / 64 + index) (omega arith)
          ],
      f.below,
      λ line high. f.behind line (omega arith),
    )

found_below : (program : Program) (memory : List ℕ) (end : ℕ) → program.base / 64 + end ≤ 67108864 →
    Found program memory end
found_below program memory zero small = record {
  here = λ index low. absurd (omega arith);
  same = λ index low. absurd (omega arith);
  below = λ line low. refl;
  behind = λ line high. refl;
}
found_below program memory (suc end) small =
    let rest = found_below program memory end (omega arith) in
    let more = one_more program memory end (changed program memory end) refl (omega arith) rest in
    record { here = more.0; same = more.1; below = more.2; behind = more.3 }

-- ---- memory

bytes_same : (xs ys : List ℕ) → bytes_eq xs ys ≡ true → xs ≡ ys
bytes_same xs ys is = (bytes_eq-Decides xs ys).0 is

-- two lines that compare as equal have the same bytes
same_line : (program : Program) (memory : List ℕ) (index : ℕ) → changed program memory index ≡ false →
    line_of_memory memory index ≡ line_of_memory program.bytes index
same_line program memory index is =
    bytes_same (line_of_memory memory index) (line_of_memory program.bytes index)
    (not-false (bytes_eq (line_of_memory memory index) (line_of_memory program.bytes index)) is)

byte_of_line : (memory : List ℕ) (index at : ℕ) → at < 64 →
    get_or (line_of_memory memory index) at 0 ≡ get_or memory (64 * index + at) 0
byte_of_line memory index at low =
    get_or-take 64 (drop (64 * index) memory) at 0 low ∙ get_or-drop (64 * index) memory at 0

said_where : (program : Program) (memory : List ℕ) (index address : ℕ) (differs : Bool) (found : Option Patch) →
    changed program memory index ≡ differs → (differs ≡ true → found ≡ Some (patch_of program memory index)) →
    (differs ≡ false → found ≡ None) → address - program.base ≡ 64 * index + address % 64 →
    byte_in program.base memory address ≡ byte_from found (address % 64) (byte_in program.base program.bytes address)
said_where program memory index address true found is some none place =
    let low : address % 64 < 64 = omega arith in
    ap (λ n. get_or memory n 0) place
    ∙ sym (byte_of_line memory index (address % 64) low)
    ∙ ap (λ f. byte_from f (address % 64) (byte_in program.base program.bytes address)) (sym (some refl))
said_where program memory index address false found is some none place =
    let low : address % 64 < 64 = omega arith in
    ap (λ n. get_or memory n 0) place
    ∙ sym (byte_of_line memory index (address % 64) low)
    ∙ ap (λ l. get_or l (address % 64) 0) (same_line program memory index is)
    ∙ byte_of_line program.bytes index (address % 64) low
    ∙ ap (λ n. get_or program.bytes n 0) (sym place)
    ∙ ap (λ f. byte_from f (address % 64) (byte_in program.base program.bytes address)) (sym (none refl))

memory_holds : (program : Program) (memory : List ℕ) → IsProgram program → (line : ℕ) →
    LineHolds program (changed_lines program memory) memory line
memory_holds program memory valid line =
    let high = valid.not_high in
    let wide = valid.not_wide in
    let aligned = valid.base_on_line in
    let whole = valid.length_on_line in
    let end = length program.bytes / 64 in
    let f = found_below program memory end (omega arith) in
    let lines = changed_lines program memory in
    record {
      bytes =
          λ address on inside.
          let from = inside.0 in
          let until = inside.1 in
          let index = line - program.base / 64 in
          let line-is : program.base / 64 + index ≡ line = omega (arith, on) in
          let low : index < end = omega (arith, on) in
          ap (λ n. n) (said_where program memory index address (changed program memory index)
          (patch_of_line lines line) refl
          (λ differs. subst (λ n. patch_of_line lines n ≡ Some (patch_of program memory index)) line-is
          (f.here index low differs))
          (λ same. subst (λ n. patch_of_line lines n ≡ None) line-is (f.same index low same))
          (omega (arith, on)))
          ∙ ap (λ n. byte_from (patch_of_line lines n) (address % 64) (byte_in program.base program.bytes address))
          (sym on);
      inside =
          λ patch some.
          elim (cases_lt line (program.base / 64)) [
            | inl before ↦ absurd (let bad : None ≡ Some patch = sym (f.below line before) ∙ some in cc)
            | inr past ↦
                elim (cases_lt line (program.base / 64 + end)) [
                  | inl within ↦ (omega arith, omega arith)
                  | inr behind ↦ absurd (let bad : None ≡ Some patch = sym (f.behind line behind) ∙ some in cc)
                ]
          ];
    }

-- ---- the certificate

agree : (program : Program) (entries : List Entry) (state : FlatState) → IsProgram program →
    (kind : Difference) (place : ℕ) → Agrees kind program (certificate_of program entries state) state place
unfolding certificate_of
agree program entries state valid View place = refl
agree program entries state valid Output place = refl
agree program entries state valid Memory place = memory_holds program state.bytes valid place

stretches_are : (program : Program) (entries : List Entry) (state : FlatState) → IsProgram program →
    All (λ hart. hart < program.harts) (serial entries) →
    written_out (certificate_of program entries state).stretches ≡ serial entries
unfolding certificate_of
stretches_are program entries state valid harts =
    stretches_written (serial entries) (weaker program.harts 8 (serial entries) valid.few_harts
    (below_from_all program.harts (serial entries) harts))

pub written_holds : (program : Program) (entries : List Entry) (state : FlatState) → IsProgram program →
    All (λ hart. hart < program.harts) (serial entries) → state ≡ run (start program) (serial entries) →
    CertificateHolds program (certificate_of program entries state)
written_holds program entries state valid harts ran kind place =
    let content = certificate_of program entries state in
    let same : state ≡ reached program content =
    ran ∙ ap (run (start program)) (sym (stretches_are program entries state valid harts))
    in
    subst (λ s. Agrees kind program content s place) same (agree program entries state valid kind place)
