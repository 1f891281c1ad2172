-- what was put back is the state before the step
use Rattle.std.proofs.Common.{◌≡◌, ◌<◌, ◌∙◌, ℕ, ap, arith, length, refl, List}
use Rattle.std.specs.Prelude.{slice_index_or, slice_set}
use Rattle.std.specs.Vec.{with_item}
use Rattle.std.proofs.lemmas.List.{get_or_default, length-set, length-take, with_items_is}
use Rattle.rv_alu.specs.declared.view.HartView.{HartView}
use Rattle.rv_flat.specs.Change.{reserved_in}
use Rattle.rv_flat.specs.FlatState.{FlatState, no_hart, view_of}
use Rattle.rv_flat.proofs.Undoing.{CanUndo, can_undo, changed-view, undone}
use Rattle.rv_flat.proofs.flat_state.Flat.undo.Goals as goal

pub index_mut-requires : goal.index_mut-requires
index_mut-requires c =
    let can = rw (← c.self.view_is) at (can_undo c.requires.0 c.args.change.now c.args.self.now c.requires.1) in
    omega (arith, c.from.ensures, can.exists)

pub old_bytes-requires : goal.old_bytes-requires
old_bytes-requires c = (can_undo c.requires.0 c.args.change.now c.args.self.now c.requires.1).short

pub put_back-requires : goal.put_back-requires
put_back-requires c =
    let can = rw (← c.self.view_is) at (can_undo c.requires.0 c.args.change.now c.args.self.now c.requires.1) in
    omega (
      arith,
      c.saturating_sub-place.ensures,
      ap length c.old_bytes.ensures,
      length-take c.args.change.now.len c.args.change.now.bytes,
      ap length c.deref_mut-2.ensures.value,
      can.inside,
    )

pub returns : goal.returns
returns c = λ before left.
    let hart : ℕ = c.args.change.now.hart.number in
    let old : FlatState = record {
      harts = c.self.inside.harts.items;
      base = c.self.inside.base;
      bytes = c.self.inside.bytes.items;
      code = c.self.inside.code;
      output = c.self.inside.output;
    } in
    let new : FlatState =
    record old {
      harts = c.put_back_reservations.new.harts;
      bytes = c.put_back.new.bytes;
      output = c.truncate.new.self;
    } in
    let left = rw (← c.self.view_is) at left in
    let can : CanUndo c.args.change.now old = can_undo before c.args.change.now old left in
    let there : c.from.result < length old.harts = omega (arith, c.from.ensures, can.exists) in
    let own : c.index_mut.result.now ≡ view_of old hart =
    c.index_mut.ensures.value ∙ get_or_default old.harts c.from.result c.index_mut.result.now no_hart there
    ∙ ap (view_of old) c.from.ensures in
    let changed : c.deref_mut.result.now ≡ slice_set old.harts hart
    (changed-view c.args.change.now (view_of old hart)) =
    c.deref_mut.ensures.value ∙ ap (λ k. slice_set old.harts k c.put_back_view.new.view) c.from.ensures
    ∙ ap (slice_set old.harts hart) (c.put_back_view.ensures ∙ ap (changed-view c.args.change.now) own) in
    let count : length c.deref_mut.result.now ≡ length old.harts = ap length changed ∙ length-set old.harts hart _ in
    let harts_fit : length c.put_back_reservations.new.harts ≡ c.self.inside.harts.len =
    c.put_back_reservations.auto.harts ∙ c.deref_mut.ensures.len in
    let bytes_fit : length c.put_back.new.bytes ≡ c.self.inside.bytes.len =
    c.put_back.auto.bytes ∙ c.deref_mut-2.ensures.len in
    rw (
      with_items_is (with_item c.self.inside.harts c.from.result c.put_back_view.new.view)
          c.put_back_reservations.new.harts harts_fit,
      with_items_is c.self.inside.bytes c.put_back.new.bytes bytes_fit,
    )
    (undone before c.args.change.now old new left
    (record {
      count = c.put_back_reservations.auto.harts ∙ count;
      harts = λ other exists.
          let Back : List HartView → HartView =
          λ harts. record (slice_index_or harts other no_hart) { reserved = reserved_in c.args.change.now other } in
          c.put_back_reservations.ensures other (omega (arith, exists, count)) ∙ ap Back changed;
      bytes =
          rw (← c.saturating_sub-place.ensures, ← c.old_bytes.ensures, ← c.deref_mut-2.ensures.value)
          c.put_back.ensures;
      output = c.truncate.ensures;
      base = refl;
      code = refl;
    }))
