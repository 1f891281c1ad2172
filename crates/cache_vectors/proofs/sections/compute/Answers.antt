-- an instruction of a test, which touches no memory
use Rattle.std.specs.Prelude.{option_map}
use Rattle.std.proofs.Common.{◌≡◌, ◌∙◌, ℕ, ℤ, Some, ap, refl, subst, sym}
use Rattle.cache_sets.specs.Cached.{Cached}
use Rattle.cache_sets.specs.Slotted as caches
use Rattle.el_model.specs.State.{Section}
use Rattle.line_pool.specs.Pooled.{Pooled}
use Rattle.rv_alu.specs.Action.{action_at, action_of, insn_action_of}
use Rattle.rv_alu.specs.declared.span.Span.{Span}
use Rattle.rv_word.specs.Decoding.{decoded}
use Rattle.rv_word.specs.declared.insn.Alu.{Alu}
use Rattle.rv_word.specs.declared.insn.Insn.TheVariants as insns
use Rattle.rv_word.specs.declared.reg.Reg.{Reg}
use Rattle.section_ctl.proofs.Laws.Shows.{at_some, of_some}
use Rattle.section_ctl.specs.Calls.{HasRun, MayBuffer, run_of}
use Rattle.section_ctl.specs.State.{SectionState, section_of}
use Rattle.cache_vectors.proofs.sections.compute.Goals as goal

computes : (pool : Pooled) (state : SectionState) (section : Section) (cache : Cached) (code : ℕ) (span : Span)
    (op : Alu) (rd rs1 : Reg) (imm : ℤ) → decoded code ≡ Some (insns.OpImm op rd rs1 imm) →
    MayBuffer pool state section cache (action_at (Some code) state.marks.present span 0)
unfolding action_of
computes pool state section cache code span op rd rs1 imm is =
    subst (λ insn. MayBuffer pool state section cache (insn_action_of insn state.marks.present span 0)) (sym is)
    (record { goes_on = refl; aligned = tt; unmixed = refl; bit = tt })

pub spec_insn-requires-clause-buffered : goal.spec_insn-requires-clause-buffered
spec_insn-requires-clause-buffered c =
    let hart = c.args.hart.now in
    let cache = caches.lent hart.pool hart.sets in
    at_some hart.section.live _
    (λ section. MayBuffer hart.pool hart.section section cache
    (action_at (Some c.args.code) hart.section.marks.present _ 0))
    (sym c.live.ensures.exact ∙ ap (option_map section_of) c.in-Some.is)
    (computes hart.pool hart.section _ cache c.args.code _ _ _ _ _
    (sym c.decode.ensures.exact ∙ c.in-Some-OpImm.is ∙ ap Some c.in-Some-OpImm.field-0-is))

pub invariant_of-hart : goal.invariant_of-hart
invariant_of-hart c =
    let hart = c.args.hart.now in
    let cache = caches.lent hart.pool hart.sets in
    let new = c.spec_insn.new.self in
    let live = sym c.live.ensures.exact ∙ ap (option_map section_of) c.in-Some.is in
    record {
      lent = c.spec_insn.ensures.lent;
      marked = c.spec_insn.ensures.marked;
      limit =
          (of_some hart.section.live (section_of c.in-Some.live)
          (λ section. HasRun hart.pool c.spec_insn.new.pool hart.section new section
          (run_of hart.pool hart.section section cache (action_at (Some c.args.code) hart.section.marks.present _ 0)))
          live
          (c.spec_insn.ensures.ran 0)).limit ∙ hart.limit;
    }
