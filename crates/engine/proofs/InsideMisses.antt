-- a hart with a live section that misses a line
use Rattle.std.proofs.Common.{◌≡◌, ◌∙◌, ℕ, refl, ap, subst, arith}
use Rattle.residency.specs.Cache.{room_of}
use Rattle.cached_step.proofs.Laws.Told.{touched_there}
use Rattle.el_base.specs.declared.outcomes.Need.{Need}
use Rattle.el_model.specs.Deed.{HasRoom}
use Rattle.el_model.specs.InSection.{Misses, by_section_rule, section_rule, section_turn, shown_in}
use Rattle.el_model.specs.Plain.{missed}
use Rattle.el_model.specs.State.{ModelState, Section}
use Rattle.engine.proofs.Framed.{tells_memory}
use Rattle.engine.proofs.LentThere.{inside_caches}
use Rattle.engine.proofs.InsideRules.{says}
use Rattle.engine.proofs.KeptLive.{keeps_live, next_inside}
use Rattle.engine.specs.Acting.{cache_in, freed, next_action}
use Rattle.engine.specs.Inside.{FollowsRule}
use Rattle.engine.specs.Missing.{MayMiss}
use Rattle.engine.specs.Parts.{Parts, room_in}
use Rattle.rv_alu.specs.Footprint.{IsInPlace}
use Rattle.rv_alu.specs.declared.action.Action.{Action}
use Rattle.snoop.specs.Asking.{HasNoRequest}
use Rattle.snoop.specs.Shows.{lent_copies}
use Rattle.step_rules.proofs.Laws.NextAction as next

by_rule : (from : ModelState) (h : ℕ) (section : Section) (line : ℕ) (need : Need) →
    by_section_rule from h section (Misses line need) ≡ missed from h line need
unfolding by_section_rule
by_rule from h section line need = refl

pub misses_turn : (from : ModelState) (h : ℕ) (section : Section) (line : ℕ) (need : Need) →
    section_rule from h section ≡ Misses line need → section_turn from h section ≡ missed from h line need
unfolding section_turn
misses_turn from h section line need is = ap (by_section_rule from h section) is ∙ by_rule from h section line need

pub may_miss : (parts : Parts) (h : ℕ) (from : ModelState) (section : Section) (line : ℕ) (need : Need)
    (action : Action) → FollowsRule parts h from section (Misses line need) → HasNoRequest parts.bus h →
    action ≡ next_action parts h → IsInPlace parts.span (room_in parts) action → MayMiss parts h line
may_miss parts h from section line need action follows free is place =
    let may = follows.inside.may in
    let shows = may.is_in.shows in
    let room : HasRoom from h section (record { line = line; need = need }) =
    says parts h from section (Misses line need) follows in
    let kept = keeps_live parts h from section follows.inside in
    let inside = inside_caches parts h from may in
    record {
      from = from;
      may = may;
      free = free;
      in_memory =
          touched_there (lent_copies parts.pool parts.bus.copies) from.committed (room_in parts) action
          (record { line = line; need = need })
          (tells_memory parts (freed from h) may.is_in).placed
          (subst (λ span. IsInPlace span (room_in parts) action) may.is_in.span place)
          (next.next_touch action (shown_in from h section) h
          (next_inside parts h from section action follows.inside is) ∙ room.wants.touches);
      room =
          ap (λ ways. room_of ways (cache_in parts h).residency line)
          (shows.ways h (omega (arith, inside, shows.cache_each)))
          ∙ ap (λ cache. room_of from.config.ways cache line) kept.cache
          ∙ room.room;
    }
