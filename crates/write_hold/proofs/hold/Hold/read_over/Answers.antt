use Rattle.std.proofs.Common.{◌<◌, slice_index, Some, None, ap, subst, sym, ◌∙◌}
use Rattle.el_base.proofs.Laws.ListLaws.{find_by_no_position}
use Rattle.line_lanes.proofs.Laws.{word_nested}
use Rattle.rv_alu.specs.Loaded.{loaded}
use Rattle.write_hold.specs.Held.{seen_at}
use Rattle.write_hold.specs.Slotted.{IsLent, lent}
use Rattle.write_hold.proofs.Finds.{found_at_position}
use Rattle.write_hold.proofs.Shown.{seen_as}
use Rattle.write_hold.proofs.Slots.{entry-out}
use Rattle.write_hold.proofs.Steps.{is_of, place_told}
use Rattle.write_hold.proofs.hold.Hold.read_over.Goals as goal

pub word_over-requires-clause-out : goal.word_over-requires-clause-out
word_over-requires-clause-out c =
    let i = c.self.inside in
    let line = c.args.line.number in
    let at =
    place_told i.entries.items _ line (Some c.in-Some.place) c.place_of.result c.deref.ensures.value
    c.place_of.ensures c.in-Some.is in
    entry-out c.args.pool.now i.limit i.owner i.entries.items
    (subst (IsLent c.args.pool.now) (sym c.self.view_is) c.requires.lent) line
    c.index.result.now (found_at_position (is_of line) i.entries.items c.in-Some.place c.index.result.now at
    c.index.ensures)

-- the bytes that are read are those of the hold
pub returns-in-Some : goal.returns-in-Some
returns-in-Some c =
    let entries = c.self.inside.entries.items in
    let line = c.args.line.number in
    let pool = c.args.pool.now in
    let at =
    place_told entries _ line (Some c.in-Some.place) c.place_of.result c.deref.ensures.value
    c.place_of.ensures c.in-Some.is in
    let seen =
    seen_as pool entries line (Some c.index.result.now) c.args.under.now
    (found_at_position (is_of line) entries c.in-Some.place c.index.result.now at c.index.ensures)
    ∙ ap (λ hold. seen_at (lent pool hold).entries line c.args.under.now) c.self.view_is in
    record {
      value = c.word_over.ensures.value ∙ ap (λ byte. loaded byte c.args.offset 4) seen;
      bytes = λ place from before. subst (λ byte. byte place < 256) seen (c.word_over.ensures.bytes place from before);
    }

pub returns-in-None : goal.returns-in-None
returns-in-None c =
    let entries = c.self.inside.entries.items in
    let line = c.args.line.number in
    let pool = c.args.pool.now in
    let at = place_told entries _ line None c.place_of.result c.deref.ensures.value c.place_of.ensures c.in-None.is in
    let seen =
    seen_as pool entries line None c.args.under.now (find_by_no_position (is_of line) entries at)
    ∙ ap (λ hold. seen_at (lent pool hold).entries line c.args.under.now) c.self.view_is in
    record {
      value =
          c.word_at.ensures.word ∙ word_nested (slice_index c.args.under.now) c.args.offset
          ∙ ap (λ byte. loaded byte c.args.offset 4) seen;
      bytes = λ place from before. subst (λ byte. byte place < 256) seen (c.word_at.ensures.bytes place from before);
    }
