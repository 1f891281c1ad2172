use Rattle.std.proofs.Common.{◌≡◌, ℕ, ◌+◌, ◌-◌, ◌<◌, List, [], ◌++◌, length, ap, refl, sym, ◌∙◌, arith}
use Rattle.std.proofs.lemmas.List.{append-nil, length_push}
use Rattle.chronicle.specs.Chronicle.{events}
use Rattle.el_base.specs.declared.entries.Entry.{Entry}
use Rattle.trace_file.specs.Faults.{entries_fault}
use Rattle.trace_file.specs.Fields.{entry_width}
use Rattle.trace_file.specs.Reading.{entries_in, entry_in}
use Rattle.trace_file.specs.Spelling.{outcomes}
use Rattle.trace_file.proofs.Walk.{gathers, goes_on}
use Rattle.trace_file.proofs.entries.entries_of.Goals as goal

pub loop-preserved : goal.loop-preserved
loop-preserved c =
    let harts = c.args.harts in
    let count = c.args.count in
    let k = c.loop.counter in
    let rest = c.loop.rest.now in
    let inside : k < count = omega (arith, c.loop-test.true) in
    let width-named = c.in-Ok.width-is in
    let entry-is : c.in-Ok.entry ≡ entry_in rest = c.in-Ok.entry-is ∙ c.in-Ok.ensures.value in
    let width-is : c.in-Ok.width ≡ entry_width harts rest = width-named ∙ c.in-Ok.ensures.width.0 in
    let behind = c.behind-rest.ensures in
    let made = c.push_reserved.ensures.items in
    let told = c.push_reserved-in-loop.ensures.items in
    record {
      faultless = ap (λ (l : List ℕ). entries_fault harts (count - (k + 1)) (c.loop.place + c.in-Ok.width) l) behind
          ∙ goes_on harts count k c.loop.place c.in-Ok.width rest _ inside c.loop.invariant.faultless width-is
          c.in-Ok.ensures.accepted;
      near = omega (arith, c.loop.invariant.near, c.in-Ok.ensures.width.1, width-named);
      events =
          ap (λ (l : List ℕ). c.push_reserved.new.self.items ++ events (entries_in harts (count - (k + 1)) l)) behind
          ∙ gathers (λ (entry : Entry). entry.event) harts count k c.in-Ok.width rest c.in-Ok.entry
          c.loop.made.items _ _ inside
          width-is entry-is c.loop.invariant.events made;
      outcomes =
          ap (λ (l : List ℕ). c.push_reserved-in-loop.new.self.items ++ outcomes (entries_in harts (count - (k + 1)) l))
          behind
          ∙ gathers (λ (entry : Entry). entry.outcome) harts count k c.in-Ok.width rest c.in-Ok.entry
          c.loop.recorded.items _ _ inside
          width-is entry-is c.loop.invariant.outcomes told;
      many = omega (arith, ap length made, length_push c.loop.made.items c.in-Ok.entry.event, c.loop.invariant.many);
      as_many =
          omega (
            arith,
            ap length told,
            length_push c.loop.recorded.items c.in-Ok.entry.outcome,
            c.loop.invariant.as_many,
          );
      room = omega (arith, c.push_reserved.ensures.capacity, c.loop.invariant.room);
      as_much_room = omega (arith, c.push_reserved-in-loop.ensures.capacity, c.loop.invariant.as_much_room);
    }

-- with nothing left to be read, all is read
nothing_left : {A : Type 0} (made : List A) (more : ℕ → List A) (left : ℕ) → more 0 ≡ [] → 0 ≡ left →
    made ≡ made ++ more left
nothing_left made more left none done =
    sym (append-nil made) ∙ ap (λ list. made ++ list) (sym none) ∙ ap (λ (n : ℕ). made ++ more n) done

pub returns-clause-events : goal.returns-clause-events
returns-clause-events c =
    nothing_left c.loop.made.items (λ (n : ℕ). events (entries_in c.args.harts n c.loop.rest.now))
    (c.args.count - c.loop.counter) refl
    (omega (arith, c.loop-test.false))
    ∙ c.loop.invariant.events

pub returns-clause-outcomes : goal.returns-clause-outcomes
returns-clause-outcomes c =
    nothing_left c.loop.recorded.items (λ (n : ℕ). outcomes (entries_in c.args.harts n c.loop.rest.now))
    (c.args.count - c.loop.counter)
    refl (omega (arith, c.loop-test.false))
    ∙ c.loop.invariant.outcomes
