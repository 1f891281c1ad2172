-- A line leaves, and its slot is given back: the cache and its pool after it.
use Rattle.std.proofs.Common.{◌≡◌, ℕ, ◌+◌, ◌*◌, List, ◌∷◌, map, Some, ap, sym, subst, ◌∙◌, arith}
use Rattle.std.specs.Option.{option_map_or}
use Rattle.std.specs.Prelude.{slice_index}
use Rattle.std.proofs.lemmas.List.{length-map}
use Rattle.std.proofs.lemmas.List.Sums.{sum_by-cons}
use Rattle.line_pool.specs.declared.slot.Slot.{Slot}
use Rattle.line_pool.specs.Calls.{IsGiven}
use Rattle.line_pool.specs.Others.{LeavesOthers}
use Rattle.line_pool.specs.Pooled.{Pooled}
use Rattle.line_pool.proofs.Laws.{keeps-given, keeps-permuted}
use Rattle.line_pool.proofs.Laws.OtherLaws.{leaves-given}
use Rattle.cache_sets.specs.declared.line.Line as code
use Rattle.cache_sets.specs.Calls.{IsWithout}
use Rattle.cache_sets.specs.Kept.{IsSound, line_at, shown_cache, shown_line, total}
use Rattle.cache_sets.specs.Slotted.{IsLent, lent, slots_of}
use Rattle.cache_sets.proofs.Changes.{is_without, lines_without, once, some}
use Rattle.residency.proofs.Laws.KeyedLemmas.{length-sum_by}
use Rattle.cache_sets.proofs.Laws.{lent-alike}
use Rattle.cache_sets.proofs.Shown.{length-with}
use Rattle.cache_sets.proofs.Slots.{one_at, owner-at, slot-sum}
use Rattle.cache_sets.proofs.Totals.{total-without}

module _ (ways marks writes owner : ℕ) (cache : List (List code.Line)) (line : ℕ)
    (sound : IsSound ways cache marks writes) (old new : Pooled)
    (owes : IsLent old (shown_cache ways owner cache)) (l : code.Line) (there : line_at cache line ≡ Some l)
    (given : IsGiven old new l.slot)
  where
    abbrev rest : List (List code.Line)
    rest = lines_without ways marks writes cache line sound

    -- a sum over the slots that stay
    less : (g : Slot → ℕ) → total (λ x. g x.slot) rest + g l.slot ≡ total (λ x. g x.slot) cache
    less g =
        omega (
          arith,
          total-without (λ x. g x.slot) cache line (some ways marks writes cache line sound)
              (once ways marks writes cache line sound),
          ap (λ x. option_map_or (λ (y : code.Line). g y.slot) x 0) there,
        )

    pub leaves-dropped : LeavesOthers owner old new
    leaves-dropped =
        subst (λ o. LeavesOthers o old new)
        (owner-at old ways owner cache (some ways marks writes cache line sound) line l there owes)
        (leaves-given old new l.slot given)

    pub lent-dropped : IsLent new (shown_cache ways owner rest)
    lent-dropped = record {
      quota =
          ap (λ quotas. slice_index quotas owner) leaves-dropped.quotas ∙ owes.quota
          ∙ ap (λ n. n * ways)
          (length-map cache (map shown_line) ∙ sym (length-with cache line _)
          ∙ sym (length-map rest (map shown_line)));
      keeps =
          let slots = slots_of (shown_cache ways owner rest) in
          keeps-given old new owner slots l.slot
          (keeps-permuted old owner (slots_of (shown_cache ways owner cache)) (l.slot ∷ slots) owes.keeps
          (omega (
            arith,
            length-sum_by slots,
            length-sum_by (slots_of (shown_cache ways owner cache)),
            slot-sum (λ s. 1) rest,
            slot-sum (λ s. 1) cache,
            less (λ s. 1),
          ))
          (λ s. omega (
            arith,
            sum_by-cons (one_at s) l.slot slots,
            slot-sum (one_at s) rest,
            slot-sum (one_at s) cache,
            less (one_at s),
          )))
          given;
    }

    pub is_dropped : IsWithout (lent old (shown_cache ways owner cache)) (lent new (shown_cache ways owner rest)) line
    is_dropped =
        subst (λ c. IsWithout (lent old (shown_cache ways owner cache)) c line)
        (sym (lent-alike old new (shown_cache ways owner rest) (λ s among. given.bytes s)))
        (is_without ways marks writes cache line sound owner old)
