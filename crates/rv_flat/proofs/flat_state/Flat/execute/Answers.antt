-- what the parts did, one after another, is what the definition applies
use Rattle.std.proofs.Common.{◌≡◌, ℕ, ◌∙◌}
use Rattle.std.proofs.lemmas.List.{get_or_default}
use Rattle.rv_alu.specs.Execution.{number_of}
use Rattle.rv_flat.specs.FlatState.{FlatState, no_hart, view_of}
use Rattle.rv_flat.specs.Memory.{byte_in}
use Rattle.rv_flat.proofs.Applied.{applied_in_turn}
use Rattle.rv_flat.proofs.flat_state.Flat.execute.Goals as goal

pub store-requires : goal.store-requires
store-requires c =
    let in_place = rw (← c.self.view_is) at c.next_action-action.ensures.in_place in
    rw c.append.ensures (c.perform-transfers.ensures.store_in_place _ _ in_place)

pub returns : goal.returns
returns c =
    let state : FlatState = record {
      harts = c.self.inside.harts.items;
      base = c.self.inside.base;
      bytes = c.self.inside.bytes.items;
      code = c.self.inside.code;
      output = c.self.inside.output;
    } in
    let byte : ℕ → ℕ = byte_in state.base state.bytes in
    let there = rw (← c.self.view_is) at c.requires in
    let old : c.index_mut.result.now ≡ view_of state c.args.place =
    c.index_mut.ensures.value ∙ get_or_default state.harts c.args.place c.index_mut.result.now no_hart there in
    let action = rw (← c.self.view_is) at c.next_action-action.ensures.value in
    let number : c.loaded-number.result ≡ number_of c.next_action-action.result byte =
    rw (← c.loads.ensures.value) (rw (← c.self.view_is) at c.loaded-number.ensures) in
    rw (c.store.ensures, c.append.ensures, ← c.self.view_is)
    (applied_in_turn state c.args.place c.next_action-action.result c.perform-transfers.new.view
    c.perform-transfers.result.store c.perform-transfers.result.append action
    (rw (← old) (
      c.perform-transfers.ensures.view byte number,
      c.perform-transfers.ensures.store byte number,
      c.perform-transfers.ensures.append byte number,
    )))
