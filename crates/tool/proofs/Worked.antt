-- The lines of refusals and of a written image, computed.
use Rattle.std.proofs.Common.{◌≡◌, ◌++◌, [], ◌∷◌, true, false, None, refl}
use Rattle.std.specs.Prelude.{codes, replicate}
use Rattle.std.specs.Fmt.{digits}
use Rattle.el_base.specs.declared.config.ConfigFault.TheVariants.{Harts, Steps}
use Rattle.rv_alu.specs.declared.view.HartStatus.{HartStatus}
use Rattle.rv_alu.specs.declared.view.HartStatus.TheVariants.{Running, Exited, Trapped}
use Rattle.rv_alu.specs.declared.view.HartView.{HartView}
use Rattle.tool.specs.declared.refusal.Refusal.TheVariants.{Usage, Config, TooBig, Image, Trace}
use Rattle.tool.specs.Messages.{line_of, newline, wrote_line}
use Rattle.tool.specs.Ending.{all_succeeded}

usage : line_of Usage ≡ codes "usage: elide run IMAGE [options], elide replay IMAGE TRACE, elide gen KIND NUMBER FILE"
    ++ newline
unfolding line_of
usage = refl

nine_harts : line_of (Config Harts) ≡ codes "config fault 1 Harts" ++ newline
unfolding line_of digits
nine_harts = refl

no_steps : line_of (Config Steps) ≡ codes "config fault 6 Steps" ++ newline
unfolding line_of digits
no_steps = refl

image_over_its_limit : line_of (TooBig 33554432) ≡ codes "file too big: limit 33554432" ++ newline
unfolding line_of digits
image_over_its_limit = refl

empty_image : line_of (Image (record { number = 1; place = 0 })) ≡ codes "image fault 1 Short at byte 0" ++ newline
unfolding line_of digits
empty_image = refl

image_of_another_abi : line_of (Image (record { number = 8; place = 36 }))
    ≡ codes "image fault 8 Flags at byte 36" ++ newline
unfolding line_of digits
image_of_another_abi = refl

image_too_wide : line_of (Image (record { number = 13; place = 28 }))
    ≡ codes "image fault 13 TooWide at byte 28" ++ newline
unfolding line_of digits
image_too_wide = refl

image_without_a_segment : line_of (Image (record { number = 16; place = 44 }))
    ≡ codes "image fault 16 Empty at byte 44" ++ newline
unfolding line_of digits
image_without_a_segment = refl

trace_of_no_harts : line_of (Trace (record { number = 4; place = 5 }))
    ≡ codes "trace fault 4 Config at byte 5" ++ newline
unfolding line_of digits
trace_of_no_harts = refl

trace_with_a_byte_more : line_of (Trace (record { number = 6; place = 55 }))
    ≡ codes "trace fault 6 Tail at byte 55" ++ newline
unfolding line_of digits
trace_with_a_byte_more = refl

image_of_9496_bytes : wrote_line 9496 ≡ codes "wrote 9496 bytes" ++ newline
unfolding digits
image_of_9496_bytes = refl

hart_that : HartStatus → HartView
hart_that status = record { pc = 0x10000; regs = replicate 32 0; reserved = None; status = status }

all_exit_with_0 : all_succeeded (hart_that (Exited 0) ∷ hart_that (Exited 0) ∷ []) ≡ true
unfolding hart_that
all_exit_with_0 = refl

one_exits_with_1 : all_succeeded (hart_that (Exited 0) ∷ hart_that (Exited 1) ∷ []) ≡ false
unfolding hart_that
one_exits_with_1 = refl

one_traps : all_succeeded (hart_that (Trapped 4 0x10054) ∷ hart_that (Exited 0) ∷ []) ≡ false
unfolding hart_that
one_traps = refl

one_runs : all_succeeded (hart_that Running ∷ hart_that (Exited 0) ∷ []) ≡ false
unfolding hart_that
one_runs = refl
