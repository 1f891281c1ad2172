-- what a change of the bus alone leaves of the parts
use Rattle.std.proofs.Common.{◌≡◌, ◌∙◌, ℕ, Option, Some, None, length, ap, sym, subst}
use Rattle.coherence.specs.Beginning.{line_of}
use Rattle.el_model.proofs.Laws.Keeps.{Keeps}
use Rattle.el_model.specs.State.{Hart, ModelState, Section, cache_of, hart_of, section_of}
use Rattle.engine.specs.Parts.{IsInState, IsOfHart, KeepsReserved, KeepsSection, KeepsSectionOf, Parts, own_at}
use Rattle.hart_state.specs.Own.{OwnState}
use Rattle.line_pool.specs.Pooled.{Pooled}
use Rattle.rv_flat.specs.FlatState.{span_of, view_of}
use Rattle.section_ctl.specs.State.{SectionState, hold_in}
use Rattle.section_view.specs.KeptRun.{HoldsMarked, KeepsRun}
use Rattle.snoop.specs.Shows.{BusState, Shows, Tells, TellsIn}

-- a hart is as it was but for what the bus keeps of it
pub record IsSameHart (old new : Hart) : Type 0 where
  pub section : new.section ≡ old.section
  pub armed : new.armed ≡ old.armed
  pub last_lr : new.last_lr ≡ old.last_lr
  pub cache : new.cache ≡ old.cache
  pub predictor : new.predictor ≡ old.predictor
  pub fallback : new.fallback ≡ old.fallback
  pub tries : new.tries ≡ old.tries

keeps_section : (pool : Pooled) (state new : ModelState) (h : ℕ) (section : Section) (kept : SectionState) →
    new.committed ≡ state.committed → cache_of new h ≡ cache_of state h → KeepsSection pool state h section kept →
    KeepsSection pool new h section kept
keeps_section pool state new h section kept committed cache keeps = record {
  run =
      subst (λ flat. KeepsRun flat h section kept.marks.present (hold_in pool kept).entries) (sym committed) keeps.run;
  marked = subst (λ c. HoldsMarked c (hold_in pool kept).entries) (sym cache) keeps.marked;
}

keeps_section_of : (pool : Pooled) (state new : ModelState) (h : ℕ) (live : Option Section) (kept : SectionState) →
    new.committed ≡ state.committed → cache_of new h ≡ cache_of state h → KeepsSectionOf pool state h live kept →
    KeepsSectionOf pool new h live kept
keeps_section_of pool state new h None kept committed cache keeps = tt
keeps_section_of pool state new h (Some section) kept committed cache keeps =
    keeps_section pool state new h section kept committed cache keeps

-- what a hart keeps is still its own
pub same_own : (pool : Pooled) (state new : ModelState) (h : ℕ) (own : OwnState) → Keeps state new →
    IsSameHart (hart_of state h) (hart_of new h) → IsOfHart pool state h own → IsOfHart pool new h own
same_own pool state new h own keeps same is = record {
  part = record {
    section = is.part.section ∙ sym same.section;
    armed = is.part.armed ∙ sym same.armed;
    last_lr = is.part.last_lr ∙ sym same.last_lr;
    predictor = is.part.predictor ∙ sym same.predictor;
    fallback = is.part.fallback ∙ sym same.fallback;
    tries = is.part.tries ∙ sym same.tries;
  };
  view = is.view ∙ ap (λ flat. view_of flat h) (sym keeps.committed);
  section =
      subst (λ live. KeepsSectionOf pool new h live own.section) (sym same.section)
      (keeps_section_of pool state new h (section_of state h) own.section keeps.committed same.cache is.section);
  armed =
      subst (λ flat. KeepsReserved flat h own.section.armed own.section.marks.present) (sym keeps.committed) is.armed;
  stands = is.stands;
  limit = is.limit ∙ ap (λ config. config.lines) (sym keeps.config);
  owner = is.owner;
  lent = is.lent;
}

-- the bus has changed, and shows a state in which nothing else has
pub with_bus : (old : Parts) (bus : BusState) (state new : ModelState) → IsInState old state → Keeps state new →
    ((h : ℕ) → IsSameHart (hart_of state h) (hart_of new h)) → bus.copies ≡ old.bus.copies → Shows bus new →
    IsInState (record old { bus = bus }) new
with_bus old bus state new is keeps same copies shows = record {
  config = is.config ∙ sym keeps.config;
  span = is.span ∙ ap span_of (sym keeps.committed);
  shows = shows;
  told =
      subst (λ holding. TellsIn old.pool holding (line_of new.committed)) (sym copies)
      (subst (λ flat. Tells old.pool old.bus (line_of flat)) (sym keeps.committed) is.told);
  one_each = is.one_each ∙ sym keeps.count;
  view_each = is.view_each ∙ ap (λ flat. length flat.harts) (sym keeps.committed);
  harts = λ h below. same_own old.pool state new h (own_at old.harts h) keeps (same h) (is.harts h below);
  code = is.code ∙ ap (λ flat. flat.code) (sym keeps.committed);
  output = is.output ∙ ap (λ flat. flat.output) (sym keeps.committed);
}
