-- lines that an access wants and is refused
use Rattle.std.proofs.Common.{◌≡◌, ℕ, ◌<◌, ◌^◌, ◌∙◌, Bool, false, Some, ap, sym}
use Rattle.el_base.specs.Line.{line_number}
use Rattle.el_base.specs.LineAddr.{line_addr}
use Rattle.el_base.specs.declared.line.LineAddr.{LineAddr}
use Rattle.el_base.specs.declared.outcomes.Need.{Need}
use Rattle.el_base.proofs.Laws.Lines.{line_addr-number, line_number-below, same_line}
use Rattle.core_step.specs.Run.{refused}

-- the line of an address is the one of its number
wanted_line : (address : ℕ) (line : LineAddr) → address < 2 ^ 32 → line.number ≡ line_number address →
    line ≡ line_addr (line_number address)
wanted_line address line small is =
    same_line line (line_addr (line_number address))
    (is ∙ sym (line_addr-number (line_number address) (line_number-below address small)))

-- a line that is not permitted is refused
pub refused_line : (permits : ℕ → Need → Bool) (address : ℕ) (line : LineAddr) (need : Need) → address < 2 ^ 32 →
    line.number ≡ line_number address → permits line.number need ≡ false →
    Some (record { line = line; need = need }) ≡ refused permits (line_number address) need
refused_line permits address line need small is denied =
    let there : permits (line_number address) need ≡ false = ap (λ n. permits n need) (sym is) ∙ denied in
    rw there (ap (λ (line : LineAddr). Some (record { line = line; need = need })) (wanted_line address line small is))
