-- a swap that may be elided, over a line that may be read
use Rattle.std.proofs.Common.{◌≡◌, ◌∙◌, ◌%◌, ap, sym, true}
use Rattle.std.specs.Prelude.{slice_index}
use Rattle.std.specs.Option.{option_map}
use Rattle.residency.specs.Cache.{letter_of}
use Rattle.cache_sets.specs.Cached.{bytes_of}
use Rattle.cache_sets.specs.Slotted.{lent}
use Rattle.coherence.specs.Lent.{slotted_at}
use Rattle.el_base.specs.Line.{line_number}
use Rattle.el_base.specs.declared.line.TheConstants.{LINE_BYTES}
use Rattle.el_model.specs.Conflicts.{is_wanted_to_write}
use Rattle.moesi.specs.Letters.{may_read}
use Rattle.rv_alu.specs.Loaded.{loaded}
use Rattle.snoop.specs.Shows.{bus_state}
use Rattle.step_rules.proofs.Laws.Begins.{begins_shown, told}
use Rattle.step_rules.proofs.plain.swap_rule.Goals as goal
use Rattle.step_rules.specs.Actions.{numbered_touch}
use Rattle.step_rules.specs.Rules.{beginning_rule}

pub returns-clause-rule : goal.returns-clause-rule
returns-clause-rule c = λ state shows told_lines on_line from touches.
    let bus = bus_state c.args.bus.now in
    let cache = slotted_at bus.copies.caches c.args.hart.number in
    let copies = lent c.args.pool.now cache in
    let word = c.args.exchange.word in
    let may : may_read (letter_of cache.residency (line_number word)) ≡ true =
    ap (λ line. may_read (letter_of cache.residency line)) (sym c.line_of-line.ensures)
    ∙ ap (λ now. may_read (letter_of now.residency c.line_of-line.result.number)) (sym c.sets-sets.ensures.exact)
    ∙ ap may_read (sym c.letter.ensures.exact)
    ∙ sym c.may.ensures
    ∙ c.if-not-may.false in
    let read : c.word_in.result ≡ loaded (slice_index (bytes_of copies (line_number word))) (word % LINE_BYTES) 4 =
    c.word_in.ensures
    ∙ ap (λ bytes. loaded (slice_index bytes) (word % LINE_BYTES) 4)
    (c.bytes.ensures ∙ ap (λ now. bytes_of (lent c.args.pool.now now) c.line_of-line.result.number)
    c.sets-sets.ensures.exact
    ∙ ap (bytes_of copies) c.line_of-line.ensures) in
    c.begin_rule.ensures.rule
    ∙ ap
    (λ now. beginning_rule now.residency c.is_wanted.result (told c.args.exchange c.word_in.result)
    (option_map numbered_touch c.args.touch))
    c.sets-sets.ensures.exact
    ∙ begins_shown c.args.pool.now bus state c.args.hart.number c.args.exchange c.is_wanted.result c.word_in.result
    (option_map numbered_touch c.args.touch) shows told_lines on_line from c.requires.aligned touches may read
    (c.is_wanted.ensures state shows ∙ ap (λ line. is_wanted_to_write state c.args.hart.number line)
    c.line_of-line.ensures)
