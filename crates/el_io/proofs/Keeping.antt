-- What a sink with room for some bytes keeps of those that are put to it.
use Rattle.std.proofs.Common.{◌≡◌, ℕ, ◌+◌, ◌-◌, ◌≤◌, min, nat_lt, List, ◌++◌, length, take, arith, ap, sym, ◌∙◌}
use Rattle.std.proofs.Math.Seq.{take-append-add}
use Rattle.std.proofs.lemmas.List.{take_min}
use Rattle.std.proofs.lemmas.Bool.Decides.{nat_tests}

-- the bytes that fit behind those that are kept
pub keep_fitting : (room : ℕ) (kept bytes : List ℕ) → length kept ≤ room →
    kept ++ take (min (room - length kept) (length bytes)) bytes ≡ take room (kept ++ bytes)
keep_fitting room kept bytes within =
    let all : length kept + (room - length kept) ≡ room = omega arith in
    ap (λ (more : List ℕ). kept ++ more) (take_min (room - length kept) bytes)
    ∙ sym (take-append-add kept bytes (room - length kept))
    ∙ ap (λ n. take n (kept ++ bytes)) all

-- bytes pass the room exactly where they pass what is left of it
pub pass_left : (room kept more : ℕ) → kept ≤ room → nat_lt (room - kept) more ≡ nat_lt room (kept + more)
pass_left room kept more within = grind (arith, nat_tests)
