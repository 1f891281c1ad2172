-- a hart whose section, where one is live, was live before and has no bit more on a line meets no more requests there
use Rattle.std.proofs.Common.{◌≡◌, ◌≢◌, ℕ, false, Option, None, Some, is_some, refl, ap, sym, subst}
use Rattle.std.proofs.lemmas.Bool.{false_from_ne_true}
use Rattle.bus_order.specs.Order.{Request}
use Rattle.residency.specs.Cache.{way_of}
use Rattle.el_model.specs.Conflicts.{conflicts, conflicts_with}
use Rattle.el_model.specs.Serve.{bystander, served_hart, with_claim}
use Rattle.el_model.specs.State.{Hart, ModelState, Section}
use Rattle.section_laws.proofs.Laws.Bits.{Fewer, NoBitMore, fewer_conflicts, fewer_ended}
use Rattle.section_laws.proofs.Laws.Bits.{no_more_cleared, no_more_marked, no_more_others, no_more_own, no_more_touched}
use Rattle.section_laws.proofs.Laws.Bits.{no_more_twice}
use Rattle.section_laws.proofs.Laws.Moves.{Moves, moves_by_ends}
use Rattle.el_base.proofs.Laws.Cases.{clash}

-- the moves of an event of the bus
pub fewer_moves : (line : ℕ) (start : ℕ → Hart) → Moves (λ h hart. Fewer line (start h) hart)
fewer_moves line start =
    moves_by_ends (λ h hart other now. record { live = now.live; bits = now.bits })
    (λ h hart now. fewer_ended line (start h) _ refl)
    (λ h pc hart now. record {
      live = now.live;
      bits = λ live. no_more_twice _ (way_of hart.cache line) _ (now.bits live) (no_more_cleared hart.cache line);
    })

-- a head that it met not, it meets not after
pub fewer_unmet : (head : Option Request) (h line : ℕ) (old new : Hart) →
    ((r : Request) → head ≡ Some r → r.line ≡ line) → Fewer line old new → conflicts_with head h old ≡ false →
    conflicts_with head h new ≡ false
fewer_unmet None h line old new own fewer unmet = refl
fewer_unmet (Some head) h line old new own fewer unmet =
    false_from_ne_true (conflicts head h new)
    (λ met. clash unmet (fewer_conflicts head h old new (subst (λ l. Fewer l old new) (sym (own head refl)) fewer) met))

-- a request is served: on another line
claim_fewer : (live : Option Section) (request : Request) (old new : Hart) (line : ℕ) → new.section ≡ live →
    old.section ≡ live → line ≢ request.line → NoBitMore old.cache new.cache line →
    Fewer line old (with_claim (is_some live) request new)
claim_fewer None request old new line is was other no_more = fewer_ended line old _ is
claim_fewer (Some section) request old new line is was other no_more = record {
  live = λ lives. ap is_some was;
  bits = λ lives.
      no_more_twice (way_of old.cache line) (way_of new.cache line) _ no_more
      (no_more_marked new.cache request.line line request.need other);
}

pub served_fewer : (state : ModelState) (request : Request) (hart : Hart) (line : ℕ) → line ≢ request.line →
    Fewer line hart (served_hart state request hart)
served_fewer state request hart line other =
    claim_fewer hart.section request hart _ line refl refl other
    (no_more_twice (way_of hart.cache line) _ _
    (no_more_own state.config.ways _ request.need hart.cache request.line line)
    (no_more_touched _ request.line line))

pub bystander_fewer : (state : ModelState) (request : Request) (hart : Hart) (line : ℕ) →
    Fewer line hart (bystander state request hart)
bystander_fewer state request hart line = record {
  live = λ lives. lives;
  bits = λ lives. no_more_others _ request.need hart.cache request.line line;
}
