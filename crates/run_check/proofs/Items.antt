-- The items that are read of a file.
use Rattle.std.proofs.Common.{◌≡◌, ℕ, ◌<◌, ◌^◌, List, sym, ap, subst, ◌∙◌}
use Rattle.el_base.proofs.Laws.HartIds.{same_hart, hart_id-number}
use Rattle.el_base.proofs.Laws.Lines.{same_line, line_addr-number}
use Rattle.el_base.specs.HartId.{hart_id}
use Rattle.el_base.specs.LineAddr.{line_addr}
use Rattle.el_base.specs.declared.hart_id.HartId.{HartId}
use Rattle.el_base.specs.declared.line.LineAddr.{LineAddr}
use Rattle.run_check.specs.declared.content.Patch.{Patch}
use Rattle.run_check.specs.declared.content.Stretch.{Stretch}

abbrev pub stretch_of : HartId → ℕ → Stretch
stretch_of hart count = record { hart = hart; count = count }

abbrev pub patch_of : LineAddr → List ℕ → Patch
patch_of line bytes = record { line = line; bytes = bytes }

pub stretch_is : (hart : HartId) (number count wanted : ℕ) → hart.number ≡ number → count ≡ wanted →
    stretch_of hart count ≡ stretch_of (hart_id number) wanted
stretch_is hart number count wanted same counts =
    let low : number < 8 = subst (λ n. n < 8) same hart.small in
    let hart-is : hart ≡ hart_id number = same_hart hart (hart_id number) (same ∙ sym (hart_id-number number low)) in
    ap (λ (h : HartId). stretch_of h count) hart-is ∙ ap (stretch_of (hart_id number)) counts

pub patch_is : (line : LineAddr) (number : ℕ) (bytes wanted : List ℕ) → line.number ≡ number → bytes ≡ wanted →
    patch_of line bytes ≡ patch_of (line_addr number) wanted
patch_is line number bytes wanted same is =
    let low : number < 2 ^ 26 = subst (λ n. n < 2 ^ 26) same line.small in
    let line-is : line ≡ line_addr number =
    same_line line (line_addr number) (same ∙ sym (line_addr-number number low)) in
    ap (λ (l : LineAddr). patch_of l bytes) line-is ∙ ap (patch_of (line_addr number)) is
