-- One hart arms at an LR, writes over its register, and comes to its SC: its view and the value that the LR found keep
-- its run, and the live section that it becomes begins with them. What the laws do not say is refuted on the same run.
use Rattle.std.proofs.Common.{◌≡◌, ◌≤◌, ◌<◌, ◌+◌, ◌*◌, ℕ, zero, suc, true, false, List, [], ◌∷◌, None, Some, arith}
use Rattle.std.proofs.Common.{refl, replicate, subst, sym, ap}
use Rattle.residency.specs.Residency.{Way}
use Rattle.computed_runs.proofs.Computing.{computing}
use Rattle.computed_runs.proofs.Given.{patched, section, way}
use Rattle.computed_runs.proofs.SectionView.Worked.{differ}
use Rattle.computed_runs.proofs.Rows.Given.{load_reserved, machine_of, settings, store_conditional, store_word, usual}
use Rattle.el_base.specs.declared.config.Mode.TheVariants.{Sle}
use Rattle.el_model.specs.Armed.{is_quiet}
use Rattle.el_model.specs.State.{Armed}
use Rattle.el_model.specs.Upcoming.{Swap, next_conditional, next_reserved}
use Rattle.moesi.specs.declared.letter.Letter.TheVariants.{S}
use Rattle.rv_alu.specs.declared.action.Action.TheVariants as actions
use Rattle.rv_alu.specs.declared.view.HartStatus.TheVariants.{Running}
use Rattle.rv_alu.specs.declared.view.HartView.{HartView}
use Rattle.rv_flat.specs.FlatState.{FlatState, status_of, view_of}
use Rattle.rv_flat.specs.Run.{alone}
use Rattle.rv_flat.specs.Step.{action_of}
use Rattle.rv_word.specs.Field.{rd_of}
use Rattle.run_laws.specs.PrivateRun.{IsArmedRun}
use Rattle.section_view.proofs.Laws.Arming.{armed_elides, armed_goes, arms}
use Rattle.section_view.specs.ArmedLaws.{IsElided}
use Rattle.section_view.specs.KeptRun.{KeepsArmed, KeepsRun}

-- a number below 2048 is put into a register
abbrev put : ℕ → ℕ → ℕ
put rd number = 19 + 128 * rd + 1048576 * number

-- it reserves the lock word, puts 9 into the LR's register, and stores 1 where the word is still reserved
abbrev committed : FlatState
committed =
    (machine_of (settings 1 Sle 16 4 16 2000) 128 (
    record {
      words = load_reserved 7 10 ∷ put 7 9 ∷ store_conditional 8 5 10 ∷ store_word 0 10 ∷ [];
      registers = usual;
    } ∷ [])).committed

abbrev lock : Swap
lock = record { word = 65536; old = 0; new = 1 }

abbrev armed : ℕ → Armed
armed count = record { count = count; word = 65536 }

-- the lock's line is in its cache with the read bit
abbrev cache : List (List Way)
cache = (way 1024 S true false ∷ []) ∷ []

-- after the LR it has the lock's value in register 7, and after the next instruction 9
abbrev first : HartView
first = record { pc = 131076; regs = patched (replicate 32 0) usual; reserved = Some 65536; status = Running }

abbrev second : HartView
second = record first { pc = 131080; regs = patched (replicate 32 0) ((7, 9) ∷ usual) }

acts : action_of committed (view_of committed 0) ≡ actions.LoadReserved (rd_of (load_reserved 7 10)) 65536
unfolding computing
acts = refl

running : (n : ℕ) → n ≤ 2 → status_of (alone committed 0 n) 0 ≡ Running
unfolding computing
running zero within = refl
running (suc zero) within = refl
running (suc (suc zero)) within = refl
running (suc (suc (suc n))) within = absurd (omega arith)

reserve : next_reserved committed 0 ≡ Some 65536
unfolding computing
reserve = refl

quiet : is_quiet (alone committed 0 1) 0 ≡ true
unfolding computing
quiet = refl

begun : KeepsArmed committed 0 (armed 1) 0 first
unfolding computing
begun = arms committed 0 65536 0 (rd_of (load_reserved 7 10)) (running 0 (omega arith)) acts refl

armed_once : IsArmedRun committed 0 cache (armed 1)
armed_once = record {
  some = omega arith;
  reserve = reserve;
  read = refl;
  running = λ n within. running n (omega arith);
  quiet = λ n some less. absurd (omega arith);
}

-- the same view and value keep its run over the next instruction, whatever lies in memory
gone_on : KeepsArmed committed 0 (armed 2) 0 second
unfolding computing
gone_on = armed_goes committed 0 cache (armed 1) 0 first (λ address. 7) armed_once begun quiet

armed_twice : IsArmedRun committed 0 cache (armed 2)
armed_twice = record {
  some = omega arith;
  reserve = reserve;
  read = refl;
  running = running;
  quiet =
      λ n some less. let one : 1 ≡ n = omega arith in subst (λ n. is_quiet (alone committed 0 n) 0 ≡ true) one quiet;
}

completes : next_conditional (alone committed 0 2) 0 ≡ Some lock
unfolding computing
completes = refl

stores : action_of committed second ≡ actions.StoreConditional (rd_of (store_conditional 8 5 10)) 65536 1
unfolding computing
stores = refl

-- at its SC it becomes a live section of three instructions, with the value that the LR found
abbrev third : HartView
third = record second { pc = 131084; reserved = None }

elided : IsElided committed 0 (armed 2) 0 lock third
unfolding computing
elided =
    armed_elides committed 0 cache (armed 2) 0 second lock (rd_of (store_conditional 8 5 10)) 65536 1 armed_twice
    gone_on completes refl stores

lives_on : KeepsRun committed 0 (section 3 65536 0 1) third []
lives_on = elided.keeps

-- wrong: the value is the one in the LR's register
kept_in_its_register : KeepsArmed committed 0 (armed 2) 9 second → ⊥
unfolding computing
kept_in_its_register keeps = differ 9 0 (omega arith) keeps.found

-- wrong: a run of one instruction more is kept by the same view
kept_a_step_longer : KeepsArmed committed 0 (armed 3) 0 second → ⊥
unfolding computing
kept_a_step_longer keeps = differ 131084 131080 (omega arith) (sym (ap (λ view. view.pc) keeps.view))
