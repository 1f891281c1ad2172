-- the quotas of all owners, one after another
use Rattle.std.proofs.Common.{◌≡◌, ◌∙◌, ℕ, ◌+◌, ◌-◌, ◌*◌, ◌≤◌, ◌<◌, nat_lt, if◌then◌else◌, true, false, List, []}
use Rattle.std.proofs.Common.{length, slice_index, zero-add, inl}
use Rattle.std.proofs.Common.{inr, ap, sym, arith}
use Rattle.std.specs.Prelude.{slice_set}
use Rattle.std.proofs.lemmas.Bool.{cases_eq}
use Rattle.std.proofs.lemmas.Bool.Decides.{nat_tests}
use Rattle.std.proofs.lemmas.List.{ext_get_or, get_or-set_other, get_or-set_same, length-set}
use Rattle.std.proofs.lemmas.List.FromFn.{get_or-map-range_with_len, length-map-range_with_len}
use Rattle.coherence.proofs.Laws.Offered.{offers-made}
use Rattle.coherence.specs.Lent.{Offers}
use Rattle.el_base.proofs.Laws.Ranges.{harts_in_range}
use Rattle.el_base.specs.Config.{IsInRange}
use Rattle.el_base.specs.declared.config.Config.{Config}
use Rattle.engine.specs.Lent.{first_quotas, quota_for}
use Rattle.engine.specs.Parts.{hold_owner}
use Rattle.line_pool.specs.Calls.{IsMade}
use Rattle.line_pool.specs.Pooled.{Pooled}
use Rattle.write_hold.proofs.Laws.{is_lent-made}
use Rattle.write_hold.specs.Slotted.{IsLent}

-- so is each below a number
pub record AreQuotas (config : Config) (below : ℕ) (quotas : List ℕ) : Type 0 where
  pub count : length quotas ≡ 16
  pub each : (owner : ℕ) → owner < below → slice_index quotas owner ≡ quota_for config owner

pub more_quotas : (config : Config) (below i quota : ℕ) (quotas : List ℕ) → AreQuotas config below quotas → below < 16 →
    i ≡ below → quota ≡ quota_for config below → AreQuotas config (below + 1) (slice_set quotas i quota)
more_quotas config below i quota quotas are more at is = record {
  count = length-set quotas i quota ∙ are.count;
  each = λ owner within. elim (cases_eq owner i) [
    | inl same ↦
        ap (slice_index (slice_set quotas i quota)) same
        ∙ get_or-set_same quotas i quota 0 (omega (arith, more, at, are.count)) ∙ is
        ∙ ap (quota_for config) (sym (same ∙ at))
    | inr other ↦
        get_or-set_other quotas i owner quota 0 other ∙ are.each owner (omega (arith, within, other, at))
  ];
}

pub all_quotas : (config : Config) (quotas : List ℕ) → AreQuotas config 16 quotas → quotas ≡ first_quotas config
all_quotas config quotas are =
    let count = length-map-range_with_len (quota_for config) 0 16 in
    ext_get_or 0 quotas (first_quotas config) (are.count ∙ sym count)
    (λ owner within.
    let inside : owner < 16 = omega (arith, within, are.count) in
    are.each owner inside
    ∙ sym (get_or-map-range_with_len (quota_for config) 0 16 owner owner 0 inside (zero-add owner)))

-- the quota of a hart's cache, and that of its stores
quota_at : (config : Config) (owner : ℕ) → owner < 16 → slice_index (first_quotas config) owner ≡ quota_for config owner
quota_at config owner within = get_or-map-range_with_len (quota_for config) 0 16 owner owner 0 within (zero-add owner)

cache_quota : (config : Config) (h : ℕ) → h < config.harts → config.harts ≤ 8 →
    slice_index (first_quotas config) h ≡ config.sets * config.ways
cache_quota config h inside few =
    let at = quota_at config h (omega (arith, inside, few)) in
    let below : nat_lt h 8 ≡ true = grind (arith, nat_tests) in
    let there : nat_lt h config.harts ≡ true = grind (arith, nat_tests) in
    at
    ∙ ap (λ b. if b then (if nat_lt h config.harts then config.sets * config.ways else 0)
    else (if nat_lt (h - 8) config.harts then config.lines else 0)) below
    ∙ ap (λ b. if b then config.sets * config.ways else 0) there

hold_quota : (config : Config) (h : ℕ) → h < config.harts → config.harts ≤ 8 →
    slice_index (first_quotas config) (hold_owner h) ≡ config.lines
hold_quota config h inside few =
    let at = quota_at config (hold_owner h) (omega (arith, inside, few)) in
    let above : nat_lt (hold_owner h) 8 ≡ false = grind (arith, nat_tests) in
    let there : nat_lt (hold_owner h - 8) config.harts ≡ true = grind (arith, nat_tests) in
    at
    ∙ ap (λ b. if b then (if nat_lt (hold_owner h) config.harts then config.sets * config.ways else 0)
    else (if nat_lt (hold_owner h - 8) config.harts then config.lines else 0)) above
    ∙ ap (λ b. if b then config.lines else 0) there

-- so a pool that was made with them offers the caches theirs, and lends the holds
pub offers_first : (config : Config) (pool : Pooled) → IsInRange config → IsMade (first_quotas config) pool →
    Offers pool config.harts (config.sets * config.ways)
offers_first config pool in_range made =
    offers-made pool (first_quotas config) config.harts (config.sets * config.ways) made
    (λ h inside. cache_quota config h inside (harts_in_range config in_range))

pub lent_first : (config : Config) (pool : Pooled) (h : ℕ) → IsInRange config → IsMade (first_quotas config) pool →
    h < config.harts → IsLent pool (record { limit = config.lines; owner = hold_owner h; entries = [] })
lent_first config pool h in_range made inside =
    let few = harts_in_range config in_range in
    is_lent-made pool (first_quotas config) config.lines (hold_owner h) made
    (omega (arith, inside, few, length-map-range_with_len (quota_for config) 0 16)) (hold_quota config h inside few)
