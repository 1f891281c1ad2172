-- what a hart keeps is the definition's after each deed, where it was before
use Rattle.std.proofs.Common.{ℕ, suc, ◌≡◌, ◌∙◌, ◌+◌, Bool, true, false, Option, None, Some, arith, refl, ap, sym, subst}
use Rattle.std.specs.Prelude.{◌==◌, is_some, option_map, if◌then◌else◌}
use Rattle.el_base.specs.declared.config.Mode.{Mode}
use Rattle.el_base.specs.declared.config.Mode.TheVariants.{Plain, Sle, Tlr}
use Rattle.el_base.specs.declared.outcomes.Cause.{Cause}
use Rattle.el_base.specs.declared.outcomes.Need.{Need}
use Rattle.el_model.proofs.Laws.Losing.{beaten_stands, lost_section}
use Rattle.el_model.specs.Armed.{continued_hart, let_go_hart}
use Rattle.el_model.specs.InSection.{buffered_hart, committed_hart}
use Rattle.el_model.specs.Losses.{Standing, lost_in, restored, standing_of}
use Rattle.el_model.specs.Plain.{after_candidate, after_touch, armed_count, arming_hart, began_hart, candidate_of}
use Rattle.el_model.specs.Plain.{last_reserve, may_elide}
use Rattle.el_model.specs.Plain.{missed_hart, ran_hart, watched, watching_from}
use Rattle.el_model.specs.RollBack.{beaten, blamed, most_tries, out_of_section, rolled_back}
use Rattle.el_model.specs.State.{Armed, Hart, ModelState, Section, hart_of, new_hart}
use Rattle.el_model.specs.Upcoming.{Swap, Touch, is_store_conditional}
use Rattle.hart_state.specs.Deeds.{armed_own, began_own, buffered_own, candidate_own, committed_own, elided_own}
use Rattle.hart_state.specs.Deeds.{let_go_own, lost_own}
use Rattle.hart_state.specs.Deeds.{own_acquire_pc, own_may_elide, ran_own, restored_own, rolled_back_own, standing_own}
use Rattle.hart_state.specs.Deeds.{unreserved_own}
use Rattle.hart_state.specs.Lending.{with_view}
use Rattle.hart_state.specs.Own.{HasOwn, OwnState, committed_pc, new_own}
use Rattle.pair_table.specs.Predictor.{settled, unwatched}
use Rattle.pair_table.specs.declared.verdict.Verdict.TheVariants.{Up}
use Rattle.rv_alu.specs.declared.view.HartView.{HartView}
use Rattle.rv_flat.specs.FlatState.{view_of}
use Rattle.rv_flat.specs.Laws.{next_insn}
use Rattle.section_ctl.specs.State.{Reserved, SectionState}
use Rattle.section_ctl.specs.ArmedLaws.{elided}
use Rattle.stamp.specs.Stamps.{Stamp}

-- a hart before its first event
pub new_is : (view : HartView) (lines owner sets : ℕ) → HasOwn (new_own view lines owner) (new_hart sets)
new_is view lines owner sets =
    record { section = refl; armed = refl; last_lr = refl; predictor = refl; fallback = refl; tries = refl }

-- it elides where the definition's hart does
pub may_elide_is : (mode : Mode) (own : OwnState) (hart : Hart) → HasOwn own hart →
    own_may_elide mode own ≡ may_elide mode hart (committed_pc own)
may_elide_is mode own hart has = rw has.fallback (rw has.predictor refl)

-- what is written to its view, and a reservation that ends, are no part of the definition's hart
pub written_is : (own : OwnState) (hart : Hart) (view : HartView) → HasOwn own hart → HasOwn (with_view own view) hart
written_is own hart view has =
    record {
      section = has.section;
      armed = has.armed;
      last_lr = has.last_lr;
      predictor = has.predictor;
      fallback = has.fallback;
      tries = has.tries;
    }

pub unreserved_is : (own : OwnState) (hart : Hart) (line : ℕ) → HasOwn own hart → HasOwn (unreserved_own line own) hart
unreserved_is own hart line has =
    record {
      section = has.section;
      armed = has.armed;
      last_lr = has.last_lr;
      predictor = has.predictor;
      fallback = has.fallback;
      tries = has.tries;
    }

-- nor is a request that it raises
pub missed_is : (own : OwnState) (hart : Hart) (h line : ℕ) (need : Need) → HasOwn own hart →
    HasOwn own (missed_hart h line need hart)
missed_is own hart h line need has =
    record {
      section = has.section;
      armed = has.armed;
      last_lr = has.last_lr;
      predictor = has.predictor;
      fallback = has.fallback;
      tries = has.tries;
    }

candidate_is : (pc : Option ℕ) (had : Bool) (swap : Option Swap) (own : OwnState) (hart : Hart) → HasOwn own hart →
    HasOwn (candidate_own pc had swap own) (after_candidate pc had swap hart)
candidate_is pc had None own hart has = has
candidate_is pc had (Some swap) own hart has = record {
  section = has.section;
  armed = has.armed;
  last_lr = has.last_lr;
  predictor = ap (λ p. if had then p else watching_from p pc swap) has.predictor;
  fallback = refl;
  tries = has.tries;
}

-- an instruction that has run outside of a section, of the hart as it stands in the state
pub ran_is : (state : ModelState) (h : ℕ) (touch : Option Touch) (own : OwnState) (hart : Hart) → HasOwn own hart →
    hart.last_lr ≡ (hart_of state h).last_lr → HasOwn (ran_own state h own) (ran_hart state h touch hart)
ran_is state h touch own hart has same =
    subst (λ pc. HasOwn (ran_own state h own) (after_candidate pc (is_some hart.predictor.watch) swap seen_hart))
    (ap (λ last. if is_store_conditional (next_insn state.committed h) then last
    else Some (view_of state.committed h).pc)
    (has.last_lr ∙ same))
    (subst (λ had. HasOwn (ran_own state h own) (after_candidate (own_acquire_pc state h own) had swap seen_hart))
    (ap (λ p. is_some p.watch) has.predictor)
    (candidate_is (own_acquire_pc state h own) (is_some own.predictor.watch) swap seen_own seen_hart seen))
  where
    swap : Option Swap
    swap = candidate_of state h

    seen_own : OwnState
    seen_own = record own {
      last_lr = last_reserve state h own.last_lr;
      predictor = watched state h own.predictor own.predictor.watch;
    }

    seen_hart : Hart
    seen_hart = record hart {
      last_lr = last_reserve state h hart.last_lr;
      held_line = None;
      cache = after_touch hart.cache touch;
      predictor = watched state h hart.predictor hart.predictor.watch;
    }

    seen : HasOwn seen_own seen_hart
    seen = record {
      section = has.section;
      armed = has.armed;
      last_lr = ap (last_reserve state h) has.last_lr;
      predictor = ap (λ p. watched state h p p.watch) has.predictor;
      fallback = has.fallback;
      tries = has.tries;
    }

-- a section that has begun at a swap, where none was armed
pub began_is : (mode : Mode) (h : ℕ) (swap : Swap) (rd : ℕ) (own : OwnState) (hart : Hart) → HasOwn own hart →
    hart.armed ≡ None → HasOwn (began_own swap.word swap.old swap.new rd own) (began_hart mode h swap hart)
began_is mode h swap rd own hart has unarmed = record {
  section =
      ap (λ armed. Some (record { count = suc (armed_count armed); word = swap.word; old = swap.old; new = swap.new }))
      (sym unarmed);
  armed = refl;
  last_lr = has.last_lr;
  predictor = ap unwatched has.predictor;
  fallback = has.fallback;
  tries = has.tries;
}

-- a section that has armed, where none was live
pub arming_is : (word old rd : ℕ) (own : OwnState) (hart : Hart) → HasOwn own hart → hart.section ≡ None →
    HasOwn (armed_own word old rd own) (arming_hart word hart)
arming_is word old rd own hart has none = record {
  section = sym none;
  armed = refl;
  last_lr = has.last_lr;
  predictor = has.predictor;
  fallback = has.fallback;
  tries = has.tries;
}

-- an armed section that has become a live one, at an SC of its word that finds the value that is kept
one_more : (n : ℕ) → n + 1 ≡ suc n
one_more n = omega arith

elided_section : (reserved : Reserved) (armed : Option Armed) (swap : Swap) → armed ≡ Some reserved.armed →
    swap.word ≡ reserved.armed.word → swap.old ≡ reserved.old → Some (elided reserved.armed reserved.old swap.new)
    ≡ Some (record { count = suc (armed_count armed); word = swap.word; old = swap.old; new = swap.new })
elided_section reserved armed swap is word old =
    (λ k. Some (record {
      count = (one_more reserved.armed.count ∙ ap (λ a. suc (armed_count a)) (sym is)) k;
      word = sym word k;
      old = sym old k;
      new = swap.new;
    }))

pub elided_is : (mode : Mode) (h : ℕ) (swap : Swap) (rd : ℕ) (reserved : Reserved) (own : OwnState) (hart : Hart) →
    HasOwn own hart → own.section.armed ≡ Some reserved → swap.word ≡ reserved.armed.word → swap.old ≡ reserved.old →
    HasOwn (elided_own reserved swap.new rd own) (began_hart mode h swap hart)
elided_is mode h swap rd reserved own hart has is word old = record {
  section =
      elided_section reserved hart.armed swap (sym has.armed ∙ ap (option_map (λ kept. kept.armed)) is) word old;
  armed = refl;
  last_lr = has.last_lr;
  predictor = ap unwatched has.predictor;
  fallback = has.fallback;
  tries = has.tries;
}

-- an armed section that was let go, at the committed pc, where none was live
pub let_go_is : (own : OwnState) (hart : Hart) → HasOwn own hart → hart.section ≡ None →
    HasOwn (let_go_own own) (let_go_hart (committed_pc own) hart)
let_go_is own hart has none =
    record {
      section = sym none;
      armed = refl;
      last_lr = refl;
      predictor = has.predictor;
      fallback = has.fallback;
      tries = has.tries;
    }

-- an action that has run in a live section
pub buffered_is : (section : Section) (touch : Option Touch) (now : SectionState) (own : OwnState) (hart : Hart) →
    HasOwn own hart → now.live ≡ Some (record section { count = section.count + 1 }) → now.armed ≡ None →
    hart.armed ≡ None → HasOwn (buffered_own now own) (buffered_hart section touch hart)
buffered_is section touch now own hart has live none unarmed = record {
  section = live;
  armed = ap (option_map (λ kept. kept.armed)) none ∙ sym unarmed;
  last_lr = has.last_lr;
  predictor = has.predictor;
  fallback = has.fallback;
  tries = has.tries;
}

-- and in an armed one
pub continued_is : (reserved : Reserved) (now : SectionState) (own : OwnState) (hart : Hart) → HasOwn own hart →
    now.armed ≡ Some (record reserved { armed = record reserved.armed { count = reserved.armed.count + 1 } }) →
    now.live ≡ None → hart.section ≡ None → HasOwn (buffered_own now own) (continued_hart reserved.armed hart)
continued_is reserved now own hart has armed none dead = record {
  section = none ∙ sym dead;
  armed =
      ap (option_map (λ kept. kept.armed)) armed
      ∙ ap (λ count. Some (record reserved.armed { count = count })) (one_more reserved.armed.count);
  last_lr = has.last_lr;
  predictor = has.predictor;
  fallback = has.fallback;
  tries = has.tries;
}

-- a section that has committed
pub committed_is : (now : SectionState) (own : OwnState) (hart : Hart) → HasOwn own hart → now.live ≡ None →
    now.armed ≡ None → HasOwn (committed_own now own) (committed_hart (committed_pc own) hart)
committed_is now own hart has idle unarmed = record {
  section = idle;
  armed = ap (option_map (λ kept. kept.armed)) unarmed;
  last_lr = has.last_lr;
  predictor = ap (λ p. settled p (committed_pc own) Up) has.predictor;
  fallback = has.fallback;
  tries = refl;
}

-- a section that its hart has rolled back, which gave up what it held
pub rolled_back_is : (cause : Cause) (own : OwnState) (hart : Hart) → HasOwn own hart →
    HasOwn (rolled_back_own cause own) (rolled_back cause (committed_pc own) (record hart { held_line = None }))
rolled_back_is cause own hart has =
    record {
      section = refl;
      armed = refl;
      last_lr = has.last_lr;
      predictor = ap (blamed cause (committed_pc own)) has.predictor;
      fallback = refl;
      tries = refl;
    }

standing_is : (own : OwnState) (hart : Hart) → HasOwn own hart → standing_own own ≡ standing_of hart
standing_is own hart has = rw has.section (rw has.fallback (rw has.tries refl))

-- what a loss leaves, by whether it was the last that may be lost
abbrev either_left : Bool → ℕ → Bool → Standing
either_left last tries fallback =
    if last then record { section = None; tries = 0; fallback = true }
    else record { section = None; tries = tries; fallback = fallback }

-- what a hart has learnt, its armed section and its last LR stay: so they do by a loss, but for the section
pub record IsUntaught (hart after : Hart) : Type 0 where
  pub predictor : after.predictor ≡ hart.predictor
  pub armed : after.armed ≡ hart.armed
  pub last_lr : after.last_lr ≡ hart.last_lr

nothing_learnt : (hart : Hart) (last : Bool) →
    IsUntaught hart
    (if last then record hart { tries = 0; fallback = true } else record hart { tries = hart.tries + 1 })
nothing_learnt hart true = record { predictor = refl; armed = refl; last_lr = refl }
nothing_learnt hart false = record { predictor = refl; armed = refl; last_lr = refl }

trust_stays : (mode : Mode) (winner : Option Stamp) (hart : Hart) →
    IsUntaught (out_of_section hart) (beaten mode winner hart)
trust_stays Tlr winner hart = record { predictor = refl; armed = refl; last_lr = refl }
trust_stays Sle winner hart = nothing_learnt (out_of_section hart) (hart.tries + 1 == most_tries)
trust_stays Plain winner hart = nothing_learnt (out_of_section hart) (hart.tries + 1 == most_tries)

-- a section that was lost, to a hart of which an event says what is left
pub lost_is : (mode : Mode) (own : OwnState) (hart after : Hart) → HasOwn own hart →
    standing_of after ≡ lost_in mode (standing_of hart) → after.predictor ≡ hart.predictor → after.armed ≡ None →
    after.last_lr ≡ hart.last_lr → HasOwn (lost_own mode own) after
lost_is mode own hart after has standing predictor unarmed last = record {
  section = sym (lost_section mode (standing_own own)) ∙ ap (λ s. s.section) left;
  armed = sym unarmed;
  last_lr = has.last_lr ∙ sym last;
  predictor = has.predictor ∙ sym predictor;
  fallback = ap (λ s. s.fallback) left;
  tries = ap (λ s. s.tries) left;
}
  where
    left : lost_in mode (standing_own own) ≡ standing_of after
    left = ap (lost_in mode) (standing_is own hart has) ∙ sym standing

-- and to a hart that a conflict has beaten
pub beaten_is : (mode : Mode) (winner : Option Stamp) (own : OwnState) (hart : Hart) → HasOwn own hart →
    HasOwn (lost_own mode own) (beaten mode winner hart)
beaten_is mode winner own hart has =
    let same = trust_stays mode winner hart in
    lost_is mode own hart (beaten mode winner hart) has (beaten_stands mode winner hart) same.predictor
    same.armed same.last_lr

-- a hart that an event leaves as it stood
pub stays_is : (own : OwnState) (hart after : Hart) → HasOwn own hart → standing_of after ≡ standing_of hart →
    IsUntaught hart after
    → HasOwn own after
stays_is own hart after has standing same = record {
  section = has.section ∙ sym (ap (λ s. s.section) standing);
  armed = has.armed ∙ sym same.armed;
  last_lr = has.last_lr ∙ sym same.last_lr;
  predictor = has.predictor ∙ sym same.predictor;
  fallback = has.fallback ∙ sym (ap (λ s. s.fallback) standing);
  tries = has.tries ∙ sym (ap (λ s. s.tries) standing);
}

-- a hart with no armed section that may have lost
pub restored_is : (mode : Mode) (winner : Option ℕ) (own : OwnState) (hart after : Hart) → HasOwn own hart →
    standing_of after ≡ restored mode winner (standing_of hart) → IsUntaught hart after → hart.armed ≡ None →
    HasOwn (restored_own mode winner own) after
restored_is mode None own hart after has standing same unarmed = stays_is own hart after has standing same
restored_is mode (Some winner) own hart after has standing same unarmed =
    lost_is mode own hart after has standing same.predictor (same.armed ∙ unarmed) same.last_lr
