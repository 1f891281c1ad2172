-- the word that an exchange finds is told by its line, which the cache has
use Rattle.std.proofs.Common.{◌≡◌, ◌∙◌, ◌%◌, ℕ, Option, Some, ap, sym, subst, true}
use Rattle.std.specs.Prelude.{slice_index}
use Rattle.residency.specs.Cache.{is_resident}
use Rattle.cache_sets.specs.Cached.{bytes_of}
use Rattle.cache_sets.specs.Slotted.{IsLent, Slotted, lent}
use Rattle.core_step.proofs.Laws.Runs.{aligned}
use Rattle.core_step.specs.Run.{IsAligned}
use Rattle.el_base.specs.Line.{line_number}
use Rattle.el_base.specs.declared.line.TheConstants.{LINE_BYTES}
use Rattle.el_model.specs.Upcoming.{Swap}
use Rattle.engine.proofs.StandsOutside.{action_is, in_memory, lends, on_line}
use Rattle.engine.proofs.Laws.Swaps.{exchange_writes, exchanged_from, written_there}
use Rattle.engine.proofs.engine.Engine.next_exchange.Goals as goal
use Rattle.engine.specs.Acting.{cache_in}
use Rattle.engine.specs.Parts.{parts}
use Rattle.rv_alu.specs.Loaded.{loaded}
use Rattle.rv_flat.specs.FlatState.{room_of, span_of}
use Rattle.rv_flat.specs.Memory.{byte_in}
use Rattle.step_rules.proofs.Laws.Begins.{word_told}
use Rattle.step_rules.proofs.Laws.NextAction.{next_exchange as exchange_next}
use Rattle.step_rules.specs.Actions.{swap_over}

pub bytes-requires : goal.bytes-requires
bytes-requires c =
    let now = parts c.args.self.now in
    let h = c.args.hart.number in
    let from = c.requires.some.from in
    let next = c.requires.action ∙ action_is now h from c.requires.some.acts in
    let byte = byte_in from.committed.base from.committed.bytes in
    let swap = swap_over byte c.in-Some.exchange in
    record {
      lent = subst (IsLent now.pool) (sym c.sets.ensures.exact) (lends now h from c.requires.some.acts);
      resident =
          subst (λ line. is_resident c.sets.result.now.residency line ≡ true) (sym c.line_of.ensures)
          (subst (λ (cache : Slotted). is_resident cache.residency (line_number c.in-Some.exchange.word) ≡ true)
          (sym c.sets.ensures.exact)
          (written_there (cache_in now h) c.args.action swap.word
          (exchange_writes byte c.args.action swap
          (exchange_next c.args.action from.committed h next ∙ sym (c.in-Some.ensures.next from.committed h next)))
          c.requires.permitted));
    }

pub word_in-requires : goal.word_in-requires
word_in-requires c = c.in-Some.ensures.aligned (subst IsAligned (sym c.requires.action) (aligned _ _ _ _))

pub returns-in-None : goal.returns-in-None
returns-in-None c from acts =
    c.in-None.ensures.next from.committed c.args.hart.number
    (c.requires.action ∙ action_is (parts c.args.self.now) c.args.hart.number from acts)

-- an exchange that has found this
with_old : ℕ → ℕ → ℕ → Option Swap
with_old word new old = Some (record { word = word; old = old; new = new })

pub returns-in-Some : goal.returns-in-Some
unfolding with_old
returns-in-Some c from acts =
    let now = parts c.args.self.now in
    let h = c.args.hart.number in
    let word = c.in-Some.exchange.word in
    let next = c.requires.action ∙ action_is now h from acts in
    let byte = byte_in from.committed.base from.committed.bytes in
    let swap = swap_over byte c.in-Some.exchange in
    let found = c.in-Some.ensures.next from.committed h next in
    let there = written_there (cache_in now h) c.args.action swap.word
    (exchange_writes byte c.args.action swap (exchange_next c.args.action from.committed h next ∙ sym found))
    c.requires.permitted in
    ap (with_old word c.in-Some.exchange.new)
    (c.word_in.ensures
    ∙ ap (λ bytes. loaded (slice_index bytes) (word % LINE_BYTES) 4) c.bytes.ensures
    ∙ ap (λ line. loaded (slice_index (bytes_of (lent now.pool c.sets.result.now) line)) (word % LINE_BYTES) 4)
    c.line_of.ensures
    ∙ ap (λ cache. loaded (slice_index (bytes_of (lent now.pool cache) (line_number word))) (word % LINE_BYTES) 4)
    c.sets.ensures.exact
    ∙ word_told now.pool now.bus from h word acts.may.is_in.told (on_line now h from acts)
    (exchanged_from (span_of from.committed) (room_of from.committed) byte c.args.action swap
    (in_memory now h from acts c.args.action c.requires.in_place)
    (exchange_next c.args.action from.committed h next ∙ sym found))
    (c.in-Some.ensures.aligned (subst IsAligned (sym c.requires.action) (aligned _ _ _ _))) there)
    ∙ found
