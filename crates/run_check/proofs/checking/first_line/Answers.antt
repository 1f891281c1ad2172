use Rattle.std.proofs.Common.{◌+◌, ◌*◌, ◌/◌, sym, ap, ◌∙◌, arith}
use Rattle.rv_flat.specs.Memory.{byte_in}
use Rattle.run_check.proofs.Walk.{ascends_of, at_item, before_memory, begin_walk, behind_memory, first_least}
use Rattle.run_check.proofs.Walk.{last_line_ends, on_or_above, other_line, stops_before, stops_behind, walk_ends}
use Rattle.run_check.proofs.Walk.{walk_on}
use Rattle.run_check.proofs.checking.first_line.Goals as goal
use Rattle.run_check.proofs.checking.first_line.Goals.{in-Some+else-patch-first, in_default}

pub returns-then-patch-first-clause-first : goal.returns-then-patch-first-clause-first
returns-then-patch-first-clause-first c =
    let item = c.in-Some.ensures.item in
    before_memory c.args.image.now c.args.flat.now.bytes (c.base-first.result / 64)
    (ascends_of c.args.lines.now c.requires.ascends)
    (at_item c.args.lines.now 0 c.in-Some.patch.now item.3.0 (item.3.1 c.in-Some.patch.now))
    (omega (arith, c.base-first.ensures.exact, c.base-first.ensures.valid.base_on_line)) c.if-patch-first.true

pub loop-patch-init : goal.loop-patch-init
loop-patch-init c =
    let lines = c.args.lines.now in
    let first = c.base-first.result / 64 in
    begin_walk c.args.image.now lines c.args.flat.now.bytes first (ascends_of lines c.requires.ascends)
    (omega (arith, c.base-first.ensures.exact, c.base-first.ensures.valid.base_on_line))
    (elim c.match-first.branch [
      | in-Some+else-patch-first w ↦
          first_least lines first w.in-Some.patch.now (w.in-Some.ensures.item.3.1 _) w.if-patch-first.false
      | in_default w ↦ let none = w.in_default.ensures.item.3 in λ some. absurd (omega arith)
    ])

pub returns-in-Some-first_unlike-clause-first : goal.returns-in-Some-first_unlike-clause-first
returns-in-Some-first_unlike-clause-first c =
    let least = c.min-between.ensures in
    let ends =
    last_line_ends c.args.image.now _ _ c.base-first.ensures.valid c.base-first.ensures.exact c.bytes.ensures.exact in
    let e = c.in-Some-first_unlike.ensures.first in
    stops_before c.args.image.now c.args.flat.now.bytes c.loop-patch.next c.min-between.result
    c.in-Some-first_unlike.address c.loop-patch.invariant (ascends_of c.args.lines.now c.requires.ascends)
    (at_item _ _ _ c.loop-patch-test.true c.patch-item.is) (omega (arith, least)) (omega (arith, least, ends))
    e.0 e.1 e.2 e.3

pub returns-then-end-line-clause-first : goal.returns-then-end-line-clause-first
returns-then-end-line-clause-first c =
    behind_memory c.args.image.now c.args.flat.now.bytes c.loop-patch.next _ _ c.loop-patch.invariant
    (ascends_of c.args.lines.now c.requires.ascends) (at_item _ _ _ c.loop-patch-test.true c.patch-item.is)
    (last_line_ends c.args.image.now _ _ c.base-first.ensures.valid c.base-first.ensures.exact c.bytes.ensures.exact)
    c.min-between.ensures c.in_default-first_unlike.ensures.none c.if-end-line.true

pub first_other-requires-clause-from_base : goal.first_other-requires-clause-from_base
first_other-requires-clause-from_base c =
    let from = on_or_above c.loop-patch.invariant (at_item _ _ _ c.loop-patch-test.true c.patch-item.is) in
    omega (arith, c.requires.base, from)

pub returns-in-Some-first_other-clause-first : goal.returns-in-Some-first_other-clause-first
returns-in-Some-first_other-clause-first c =
    let memory = c.args.flat.now.bytes in
    let index = c.in-Some-first_other._index in
    let address = 64 * c.patch-item.result.line.number + index in
    let e = c.in-Some-first_other.ensures.found in
    other_line c.args.image.now memory c.loop-patch.next _ _ index c.loop-patch.invariant
    (ascends_of c.args.lines.now c.requires.ascends) (at_item _ _ _ c.loop-patch-test.true c.patch-item.is)
    (last_line_ends c.args.image.now _ _ c.base-first.ensures.valid c.base-first.ensures.exact c.bytes.ensures.exact)
    c.min-between.ensures c.in_default-first_unlike.ensures.none c.if-end-line.false e.0
    (λ same. e.1 (ap (λ base. byte_in base memory address) c.requires.base ∙ same))

pub loop-patch-preserved : goal.loop-patch-preserved
loop-patch-preserved c =
    let memory = c.args.flat.now.bytes in
    let line = c.patch-item.result.line.number in
    walk_on c.args.image.now memory c.loop-patch.next _ _ c.loop-patch.invariant
    (ascends_of c.args.lines.now c.requires.ascends) (at_item _ _ _ c.loop-patch-test.true c.patch-item.is)
    (last_line_ends c.args.image.now _ _ c.base-first.ensures.valid c.base-first.ensures.exact c.bytes.ensures.exact)
    c.min-between.ensures c.in_default-first_unlike.ensures.none c.if-end-line.false
    (λ index low. ap (λ base. byte_in base memory (64 * line + index)) (sym c.requires.base)
    ∙ c.in_default-first_other.ensures.none index low)

pub returns-in_err-address-clause-none : goal.returns-in_err-address-clause-none
returns-in_err-address-clause-none c =
    rw c.from_residual.ensures
    (walk_ends c.args.image.now c.args.lines.now c.args.flat.now.bytes c.loop-patch.patch-index c.loop-patch.next _
    c.loop-patch.invariant c.loop-patch-test.false
    (last_line_ends c.args.image.now _ _ c.base-first.ensures.valid c.base-first.ensures.exact c.bytes.ensures.exact)
    c.in_err-address.ensures.none)

pub returns-clause-first : goal.returns-clause-first
returns-clause-first c =
    let e = c.in_ok-address.ensures.first in
    stops_behind c.args.image.now c.args.lines.now c.args.flat.now.bytes c.loop-patch.patch-index c.loop-patch.next _
    c.in_ok-address.address c.loop-patch.invariant c.loop-patch-test.false
    (last_line_ends c.args.image.now _ _ c.base-first.ensures.valid c.base-first.ensures.exact c.bytes.ensures.exact)
    e.0 e.1 e.2 e.3
