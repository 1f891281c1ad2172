-- everything that a run is computed by: a proof that unfolds this name unfolds all of it
use Rattle.el_base.specs.Freed.{order_of}
use Rattle.elf_image.specs.Program.{code_word}
use Rattle.el_model.specs.Armed.{armed_turn, by_armed_rule, let_go}
use Rattle.el_model.specs.Deliver.{deliver_turn, delivered}
use Rattle.el_model.specs.Face.{face_losers, faced}
use Rattle.el_model.specs.InSection.{by_section_rule, section_turn}
use Rattle.el_model.specs.Next.{is_over, next, step_turn}
use Rattle.el_model.specs.Order.{order_turn, placed}
use Rattle.el_model.specs.Plain.{by_plain_rule, plain_turn}
use Rattle.el_model.specs.Serve.{serve_turn, served}
use Rattle.el_model.specs.State.{begin}
use Rattle.rv_alu.specs.Action.{action_of}
use Rattle.rv_alu.specs.Execution.{executed}
use Rattle.rv_flat.specs.FlatState.{first_view, start}
use Rattle.rv_flat.specs.Step.{flat}
use Rattle.rv_word.specs.Arithmetic.{op_at, op_imm_at}
use Rattle.rv_word.specs.Atomic.{amo_at}
use Rattle.rv_word.specs.Comparison.{test_at}
use Rattle.rv_word.specs.Decoding.{decoded}
use Rattle.rv_word.specs.Field.{reg_field}
use Rattle.rv_word.specs.Load.{load_width_at}
use Rattle.rv_word.specs.Store.{store_width_at}

unfoldable pub computing : Type 0
unfolding action_of amo_at armed_turn begin by_armed_rule by_plain_rule by_section_rule code_word decoded deliver_turn
    delivered executed face_losers faced first_view flat is_over let_go load_width_at next op_at op_imm_at order_of
    order_turn placed plain_turn reg_field section_turn serve_turn served start step_turn store_width_at test_at
computing = Unit {0}
