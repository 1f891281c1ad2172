-- one hart more
use Rattle.std.proofs.Common.{◌≡◌, ◌++◌, ◌∙◌, List, ℕ, append_assoc, ap, arith, length, length-append, replicate, sym}
use Rattle.el_base.proofs.Laws.FreedOrder.{order_below-more}
use Rattle.el_base.specs.Freed.{count_in, order_below, order_of}
use Rattle.step_back.proofs.Freed.{LetsGo, lets_go}
use Rattle.step_back.specs.Track.{Track}
use Rattle.step_back.proofs.trail.Trail.let_go.Goals as goal

pub steps-requires-clause-exists : goal.steps-requires-clause-exists
steps-requires-clause-exists c = λ some.
    let number : ℕ = c.loop-number.number in
    let hart : c.at-hart.result.number ≡ number = c.at-hart.ensures ∙ c.into.ensures in
    let count : c.into-in-loop-number.result ≡ count_in c.args.freed number =
    c.into-in-loop-number.ensures ∙ c.count_of.ensures.exact ∙ ap (count_in c.args.freed) hart in
    let go : LetsGo c.args.freed number c.args.self.now.program.harts =
    lets_go c.args.freed number c.args.self.now.program.harts c.loop-number-test.true c.requires.exist in
    let harts : c.loop-number.self.program.harts ≡ c.args.self.now.program.harts =
    ap (λ track. track.program.harts) c.loop-number.invariant in
    omega (arith, go.exists (omega (arith, some, count)), hart, harts)

pub steps-requires-clause-room : goal.steps-requires-clause-room
steps-requires-clause-room c =
    let number : ℕ = c.loop-number.number in
    let hart : c.at-hart.result.number ≡ number = c.at-hart.ensures ∙ c.into.ensures in
    let count : c.into-in-loop-number.result ≡ count_in c.args.freed number =
    c.into-in-loop-number.ensures ∙ c.count_of.ensures.exact ∙ ap (count_in c.args.freed) hart in
    let go : LetsGo c.args.freed number c.args.self.now.program.harts =
    lets_go c.args.freed number c.args.self.now.program.harts c.loop-number-test.true c.requires.exist in
    let harts : length c.loop-number.self.harts ≡ length (c.args.self.now.harts ++ order_below number c.args.freed) =
    ap (λ track. length track.harts) c.loop-number.invariant in
    let room : c.loop-number.self.room ≡ c.args.self.now.room = ap (λ track. track.room) c.loop-number.invariant in
    omega (
      arith,
      go.short,
      count,
      harts,
      room,
      c.requires.room,
      length-append c.args.self.now.harts (order_below number c.args.freed),
    )

pub loop-number-preserved : goal.loop-number-preserved
loop-number-preserved c =
    let number : ℕ = c.loop-number.number in
    let before : List ℕ = c.args.self.now.harts ++ order_below number c.args.freed in
    let hart : c.at-hart.result.number ≡ number = c.at-hart.ensures ∙ c.into.ensures in
    let count : c.into-in-loop-number.result ≡ count_in c.args.freed number =
    c.into-in-loop-number.ensures ∙ c.count_of.ensures.exact ∙ ap (count_in c.args.freed) hart in
    let With : List ℕ → Track = λ harts. record c.args.self.now { harts = harts } in
    let More : Track → Track =
    λ track. record track { harts = track.harts ++ replicate c.into-in-loop-number.result c.at-hart.result.number } in
    c.steps.ensures ∙ ap More c.loop-number.invariant
    ∙ ap (λ n. With (before ++ replicate n c.at-hart.result.number)) count
    ∙ ap (λ h. With (before ++ replicate (count_in c.args.freed number) h)) hart
    ∙ ap With
    (append_assoc c.args.self.now.harts (order_below number c.args.freed)
    (replicate (count_in c.args.freed number) number))
    ∙ ap (λ order. With (c.args.self.now.harts ++ order)) (sym (order_below-more number c.args.freed))

pub returns : goal.returns
unfolding order_of
returns c =
    let all : c.loop-number.number ≡ 8 = omega arith in
    let With : ℕ → Track =
    λ n. record c.args.self.now { harts = c.args.self.now.harts ++ order_below n c.args.freed } in
    c.loop-number.invariant ∙ ap With all
