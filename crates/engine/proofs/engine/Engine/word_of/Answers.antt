-- the word is told by its line, which the cache has
use Rattle.std.proofs.Common.{◌≡◌, ◌∙◌, ◌%◌, ap, subst, sym, true}
use Rattle.std.specs.Prelude.{slice_index}
use Rattle.residency.specs.Cache.{is_resident}
use Rattle.cache_sets.specs.Cached.{bytes_of}
use Rattle.cache_sets.specs.Slotted.{IsLent, Slotted, lent}
use Rattle.el_base.specs.Line.{line_number}
use Rattle.el_base.specs.declared.line.TheConstants.{LINE_BYTES}
use Rattle.engine.proofs.KeptPrivate.{keeps_private, on_line, word_from, word_line_there}
use Rattle.engine.proofs.LentThere.{inside_caches, lent_there}
use Rattle.engine.proofs.engine.Engine.word_of.Goals as goal
use Rattle.engine.specs.Parts.{parts}
use Rattle.rv_alu.specs.Loaded.{loaded}
use Rattle.section_ctl.specs.State.{armed_of}
use Rattle.step_rules.proofs.Laws.Begins.{word_told}

pub sets-requires : goal.sets-requires
sets-requires c = inside_caches (parts c.args.self.now) c.args.hart.number c.requires.from c.requires.acts.may

pub bytes-requires : goal.bytes-requires
bytes-requires c =
    let now = parts c.args.self.now in
    let h = c.args.hart.number in
    record {
      lent =
          subst (IsLent now.pool) (sym c.sets.ensures.exact)
          (lent_there now h c.requires.from c.requires.acts.may).both.cache_lent;
      resident =
          subst (λ line. is_resident c.sets.result.now.residency line ≡ true) (sym c.line_of.ensures)
          (subst (λ (cache : Slotted). is_resident cache.residency (line_number c.args.armed.word) ≡ true)
          (sym c.sets.ensures.exact)
          (word_line_there now h c.requires.from (armed_of c.args.armed) c.requires.acts));
    }

pub word_in-requires : goal.word_in-requires
word_in-requires c =
    (keeps_private (parts c.args.self.now) c.args.hart.number c.requires.from (armed_of c.args.armed)
    c.requires.acts).stands.aligned

pub returns : goal.returns
returns c from acts =
    let now = parts c.args.self.now in
    let h = c.args.hart.number in
    let armed = armed_of c.args.armed in
    c.word_in.ensures
    ∙ ap (λ bytes. loaded (slice_index bytes) (armed.word % LINE_BYTES) 4) c.bytes.ensures
    ∙ ap (λ line. loaded (slice_index (bytes_of (lent now.pool c.sets.result.now) line)) (armed.word % LINE_BYTES) 4)
    c.line_of.ensures
    ∙ ap (λ cache. loaded (slice_index (bytes_of (lent now.pool cache) (line_number armed.word)))
    (armed.word % LINE_BYTES) 4) c.sets.ensures.exact
    ∙ word_told now.pool now.bus from h armed.word acts.may.is_in.told (on_line now h from armed acts)
    (word_from now h from armed acts)
    (keeps_private now h from armed acts).stands.aligned (word_line_there now h from armed acts)
