-- the committed word at an address, in the bytes of its line
use Rattle.std.proofs.Common.{◌≡◌, ◌∙◌, ◌≤◌, ◌<◌, ℕ, ◌+◌, ◌-◌, ◌*◌, ◌/◌, ◌%◌, arith, ap}
use Rattle.std.proofs.lemmas.List.{get_or-drop, get_or-take}
use Rattle.std.specs.Prelude.{drop, slice_index}
use Rattle.coherence.specs.Beginning.{line_of}
use Rattle.el_base.specs.Line.{line_number}
use Rattle.el_base.specs.declared.line.TheConstants.{LINE_BYTES}
use Rattle.rv_alu.specs.Loaded.{loaded}
use Rattle.rv_alu.proofs.Laws.Executions.{loaded_from}
use Rattle.rv_flat.specs.FlatState.{FlatState}
use Rattle.rv_flat.specs.Memory.{byte_in}
use Rattle.step_rules.specs.Rules.{IsOnLine}

-- a byte of an aligned word is at its place of the word's line
line_byte : (flat : FlatState) (address k : ℕ) → IsOnLine flat → flat.base ≤ address → address % 4 ≡ 0 → k < 4 →
    slice_index (line_of flat (line_number address)) (address % LINE_BYTES + k)
    ≡ byte_in flat.base flat.bytes (address + k)
line_byte flat address k on_line from aligned small =
    let start = (line_number address - flat.base / LINE_BYTES) * 64 in
    get_or-take 64 (drop start flat.bytes) (address % LINE_BYTES + k) 0 (omega arith)
    ∙ get_or-drop start flat.bytes (address % LINE_BYTES + k) 0
    ∙ ap (slice_index flat.bytes) (omega arith)

-- the word in the bytes of its line is the one in memory
pub committed_word : (flat : FlatState) (address : ℕ) → IsOnLine flat → flat.base ≤ address → address % 4 ≡ 0 →
    loaded (slice_index (line_of flat (line_number address))) (address % LINE_BYTES) 4
    ≡ loaded (byte_in flat.base flat.bytes) address 4
committed_word flat address on_line from aligned =
    loaded_from (slice_index (line_of flat (line_number address))) (byte_in flat.base flat.bytes)
    (address % LINE_BYTES) address 4
    (λ k small. line_byte flat address k on_line from aligned small)
