-- Putting a piece for each of the first harts.
use Rattle.std.proofs.Common.{ℕ, ◌≡◌, ◌+◌, ◌<◌, ◌≤◌, List, length, get_or, take, take_all, ap, subst, arith}
use Rattle.std.proofs.lemmas.List.FromFn.{get_or-range_with_len, length-range_with_len}
use Rattle.std.specs.List.{flat_map, range_with_len}
use Rattle.report.proofs.Putting.{one_failed, one_more_put}
use Rattle.report.specs.Puts.{PutAll, PutPart, SinkState}

module _ (piece : ℕ → List ℕ) where
  piece_at : (harts number : ℕ) → number < harts → piece number ≡ piece (get_or (range_with_len 0 harts) number 0)
  piece_at harts number within = ap piece (omega (arith, get_or-range_with_len 0 harts number 0 within))

  in_range : (harts number : ℕ) → number < harts → number < length (range_with_len 0 harts)
  in_range harts number within = rw (length-range_with_len 0 harts) within

  pub each_more : (before between now : SinkState) (harts number : ℕ) → number < harts →
      PutAll before between (flat_map piece (take number (range_with_len 0 harts))) →
      PutAll between now (piece number) →
      PutAll before now (flat_map piece (take (number + 1) (range_with_len 0 harts)))
  each_more before between now harts number within a b =
      one_more_put piece before between now (range_with_len 0 harts) number 0 (in_range harts number within) a
      (subst (λ bytes. PutAll between now bytes) (piece_at harts number within) b)

  pub each_failed : (before between now : SinkState) (harts number : ℕ) → number < harts →
      PutAll before between (flat_map piece (take number (range_with_len 0 harts))) →
      PutPart between now (piece number) → PutPart before now (flat_map piece (range_with_len 0 harts))
  each_failed before between now harts number within a b =
      one_failed piece before between now (range_with_len 0 harts) number 0 (in_range harts number within) a
      (subst (λ bytes. PutPart between now bytes) (piece_at harts number within) b)

  pub each_done : (before now : SinkState) (harts number : ℕ) → harts ≤ number →
      PutAll before now (flat_map piece (take number (range_with_len 0 harts))) →
      PutAll before now (flat_map piece (range_with_len 0 harts))
  each_done before now harts number whole a =
      let all : length (range_with_len 0 harts) ≤ number = rw (length-range_with_len 0 harts) whole in
      subst (λ bytes. PutAll before now bytes) (ap (flat_map piece) (take_all number (range_with_len 0 harts) all)) a
