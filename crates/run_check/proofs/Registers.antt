-- Registers as bytes.
use Rattle.std.proofs.Common.{◌≡◌, ℕ, ◌+◌, ◌-◌, ◌≤◌, ◌<◌, List, ◌++◌, length, get_or, take, drop, sym, ap, ◌∙◌, arith}
use Rattle.std.specs.List.{flat_map}
use Rattle.std.proofs.lemmas.List.{flat_map_more, get_or-drop, length-drop, take_more}
use Rattle.byteorder.specs.Endian.{little_bytes}

pub register_more : (regs old before after : List ℕ) (number value : ℕ) → 1 ≤ number → number < length regs →
    value ≡ get_or regs number 0 → before ≡ old ++ flat_map (little_bytes 4) (take (number - 1) (drop 1 regs)) →
    after ≡ before ++ little_bytes 4 value → after
    ≡ old ++ flat_map (little_bytes 4) (take (number + 1 - 1) (drop 1 regs))
register_more regs old before after number value some within is so-far pushed =
    let k = number - 1 in
    let words = drop 1 regs in
    let low : k < length words = omega (arith, length-drop 1 regs) in
    let place : 1 + k ≡ number = omega arith in
    let next : k + 1 ≡ number + 1 - 1 = omega arith in
    let word : get_or words k 0 ≡ value = get_or-drop 1 regs k 0 ∙ ap (λ n. get_or regs n 0) place ∙ sym is in
    pushed
    ∙ ap (λ (l : List ℕ). l ++ little_bytes 4 value) so-far
    ∙ ap (λ n. (old ++ flat_map (little_bytes 4) (take k words)) ++ little_bytes 4 n) (sym word)
    ∙ flat_map_more (little_bytes 4) old (take k words) (get_or words k 0)
    ∙ ap (λ l. old ++ flat_map (little_bytes 4) l) (sym (take_more words k 0 low))
    ∙ ap (λ n. old ++ flat_map (little_bytes 4) (take n words)) next
