use Rattle.std.proofs.Common.{◌≡◌, ◌∙◌, ◌*◌, ◌/◌, ◌%◌, ℕ, ap, arith, length, map, subst, sym}
use Rattle.std.specs.List.{range_with_len}
use Rattle.std.proofs.lemmas.List.FromFn.{length-map-range_with_len}
use Rattle.coherence.specs.Beginning.{line_in, lines_at_first}
use Rattle.coherence.specs.Lent.{IsLentTo, lent_all}
use Rattle.coherence.proofs.AtFirst.{first_coherent}
use Rattle.coherence.proofs.Laws.Offered.{caches-first, few_harts, lent-first}
use Rattle.coherence.proofs.hierarchy.Hierarchy.make.Goals as goal
use Rattle.el_base.proofs.Laws.Ranges.{ranges}

pub returns-clause-caches : goal.returns-clause-caches
returns-clause-caches c pool =
    let config = c.args.config.now in
    ap (lent_all pool) c.in_ok-empty_caches.ensures ∙ caches-first pool config.harts config.ways config.sets

pub returns-clause-lent : goal.returns-clause-lent
returns-clause-lent c pool offers =
    let config = c.args.config.now in
    subst (IsLentTo pool) (sym c.in_ok-empty_caches.ensures)
    (lent-first pool config.harts config.ways config.sets
    (few_harts config.harts (ranges config c.requires.in_range).harts) offers)

pub returns-clause-memory : goal.returns-clause-memory
returns-clause-memory c pool =
    first_coherent c.args.image.now (c.base.result / 64) _ _ _ _ c.in_ok-lines_of.field-0.items
    (lent_all pool c.in_ok-empty_caches.field-0.items)
    (ap (λ n. n / 64) c.base.ensures.exact) (rw c.bytes-2.ensures.exact at c.in_ok-lines_of.ensures)
    (returns-clause-caches c pool)

pub returns-clause-lines : goal.returns-clause-lines
unfolding lines_at_first
returns-clause-lines c pool =
    rw c.bytes-2.ensures.exact at c.in_ok-lines_of.ensures
    ∙ ap (λ bytes. map (line_in c.args.image.now.bytes) (range_with_len 0 (length bytes / 64))) c.bytes.ensures.exact

whole_lines : (n : ℕ) → n % 64 ≡ 0 → n / 64 * 64 ≡ n
whole_lines n on_line = omega (arith, on_line)

pub returns-clause-first : goal.returns-clause-first
returns-clause-first c pool =
    let program = c.args.image.now in
    let bytes = c.bytes.result.now in
    let count = length bytes / 64 in
    let lines : length c.in_ok-lines_of.field-0.items ≡ count =
    ap length c.in_ok-lines_of.ensures ∙ length-map-range_with_len (line_in c.bytes-2.result.now) 0 count in (
      ap (λ n. n / 64 * 64) c.base.ensures.exact ∙ whole_lines program.base c.base.ensures.valid.base_on_line,
      ap (λ n. n * 64) (lines ∙ ap (λ b. length b / 64) c.bytes.ensures.exact)
          ∙ whole_lines (length program.bytes) c.base.ensures.valid.length_on_line,
    )
