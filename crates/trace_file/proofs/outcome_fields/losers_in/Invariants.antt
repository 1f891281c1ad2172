use Rattle.std.proofs.Common.{◌≡◌, ℕ, ◌<◌, ◌≤◌, None}
use Rattle.el_base.specs.Losers.{beaten_by, decoded_winner}
use Rattle.el_base.specs.NibblePairs.{nibble_in}
use Rattle.trace_file.proofs.outcome_fields.losers_in.Given as goal

-- below and from the place on apart: one choice for both is a long search
abbrev pub invariant-loop-hart : goal.invariant-loop-hart
invariant-loop-hart l = record {
  read : (h : ℕ) → h < l.hart → beaten_by l.losers h ≡ decoded_winner (nibble_in l.bytes h);
  none : (h : ℕ) → l.hart ≤ h → beaten_by l.losers h ≡ None;
}
