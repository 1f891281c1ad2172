-- the rule of a hart's step outside of a section shows in how its action ends over its cache
use Rattle.std.proofs.Common.{◌≡◌, ◌∙◌, ℕ, Bool, true, false, List, Option, None, Some, refl, sym, subst}
use Rattle.std.specs.Prelude.{if◌then◌else◌}
use Rattle.residency.specs.Cache.{letter_of}
use Rattle.cache_sets.specs.Cached.{Cached}
use Rattle.residency.specs.Residency.{Way}
use Rattle.core_step.specs.Run.{ended_by, ended_of, lacking}
use Rattle.core_step.specs.declared.ended.Ended.{Ended}
use Rattle.core_step.specs.declared.ended.Ended.TheVariants as ends
use Rattle.el_base.specs.Line.{line_number}
use Rattle.el_base.specs.LineAddr.{line_addr}
use Rattle.el_base.specs.declared.line.LineAddr.{LineAddr}
use Rattle.el_base.specs.declared.outcomes.Need.{Need}
use Rattle.el_base.specs.declared.outcomes.Need.TheVariants as needs
use Rattle.el_model.specs.Plain.{Misses, Runs, touch_rule}
use Rattle.el_model.specs.State.{ModelState, cache_of}
use Rattle.el_model.specs.Upcoming.{Touch, next_touch, touch_of}
use Rattle.elf_image.specs.Program.{code_word}
use Rattle.moesi.specs.Letters.{may_of}
use Rattle.rv_alu.specs.Action.{action_at, insn_action_of}
use Rattle.rv_alu.specs.Execution.{Execution, Goes, Stops, insn_touched, touched}
use Rattle.rv_alu.specs.Footprint.{footprint}
use Rattle.rv_alu.specs.declared.footprint.Access.{Access}
use Rattle.rv_alu.specs.declared.footprint.Access.TheVariants as accesses
use Rattle.rv_alu.specs.declared.span.Span.{Span}
use Rattle.rv_alu.specs.declared.view.HartView.{HartView}
use Rattle.rv_flat.specs.FlatState.{FlatState, room_of, span_of, view_of}
use Rattle.rv_flat.specs.Step.{action_of}
use Rattle.rv_word.specs.Decoding.{decoded}
use Rattle.rv_word.specs.declared.insn.Insn.{Insn}
use Rattle.cached_step.specs.CacheRun.{permitted}
use Rattle.cached_step.specs.Laws.{ShowsRule}

-- what the next instruction touches is what its action does
touch_insn : (insn : Option Insn) (view : HartView) (span : Span) (room : ℕ) →
    touch_of (insn_touched insn view span room) ≡ touch_of (footprint (insn_action_of insn view span room))
touch_insn None view span room = refl
touch_insn (Some insn) view span room = refl

touch_word : (word : Option ℕ) (view : HartView) (span : Span) (room : ℕ) →
    touch_of (touched word view span room) ≡ touch_of (footprint (action_at word view span room))
touch_word None view span room = refl
touch_word (Some word) view span room = touch_insn (decoded word) view span room

pub next_touch-action : (flat : FlatState) (h : ℕ) →
    next_touch flat h ≡ touch_of (footprint (action_of flat (view_of flat h)))
next_touch-action flat h =
    touch_word (code_word flat.code (view_of flat h).pc) (view_of flat h) (span_of flat) (room_of flat)

-- an execution needs nothing
no_need : (execution : Execution) (line : LineAddr) (need : Need) → ended_by execution ≡ ends.Needs line need → ⊥
no_need (Stops status) line need is = cc
no_need (Goes view store append) line need is = cc

ran : (execution : Execution) (ended : Ended) (touch : Option Touch) → ended ≡ ended_by execution →
    ShowsRule ended (Runs touch)
ran execution ended touch is = λ line need needed. no_need execution line need (sym is ∙ needed)

tested : (b : Bool) (line : ℕ) (need : Need) (touch : Option Touch) (execution : Execution) (ended : Ended) →
    ended ≡ ended_of (if b then None else Some (record { line = line_addr line; need = need })) execution →
    ShowsRule ended (if b then Runs touch else Misses line need)
tested true line need touch execution ended is = ran execution ended touch is
tested false line need touch execution ended is = is

touched_rule : (state : ModelState) (h : ℕ) (cache : Cached) (line : ℕ) (need : Need) (execution : Execution)
    (ended : Ended) → cache.residency ≡ cache_of state h →
    ended ≡ ended_of (if permitted cache line need then None else Some (record { line = line_addr line; need = need }))
    execution → ShowsRule ended (touch_rule state h (Some (record { line = line; need = need })))
touched_rule state h cache line need execution ended same is =
    subst
    (λ (residency : List (List Way)).
    ShowsRule ended (if may_of (letter_of residency line) need then Runs (Some (record { line = line; need = need }))
    else Misses line need))
    same (tested (permitted cache line need) line need (Some (record { line = line; need = need })) execution ended is)

access_rule : (state : ModelState) (h : ℕ) (cache : Cached) (access : Access) (execution : Execution) (ended : Ended) →
    cache.residency ≡ cache_of state h → ended ≡ ended_of (lacking (permitted cache) access) execution →
    ShowsRule ended (touch_rule state h (touch_of access))
access_rule state h cache (accesses.Read address len) execution ended same is =
    touched_rule state h cache (line_number address) needs.Read execution ended same is
access_rule state h cache (accesses.Write address len) execution ended same is =
    touched_rule state h cache (line_number address) needs.Write execution ended same is
access_rule state h cache _ execution ended same is = ran execution ended None is

pub shows_rule : (state : ModelState) (h : ℕ) (cache : Cached) (execution : Execution) (ended : Ended) →
    cache.residency ≡ cache_of state h →
    ended ≡ ended_of (lacking (permitted cache) (footprint (action_of state.committed (view_of state.committed h))))
    execution → ShowsRule ended (touch_rule state h (next_touch state.committed h))
shows_rule state h cache execution ended same is =
    subst (λ touch. ShowsRule ended (touch_rule state h touch)) (sym (next_touch-action state.committed h))
    (access_rule state h cache (footprint (action_of state.committed (view_of state.committed h)))
    execution ended same is)
