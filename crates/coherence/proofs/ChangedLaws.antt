-- one cache changed, and no copy of any line: its order or bits alone
use Rattle.std.proofs.Common.{◌≡◌, ◌<◌, ℕ, List, length, refl}
use Rattle.std.proofs.lemmas.List.{get_or-set_same, length-set}
use Rattle.cache_sets.specs.Cached.{Cached, copy_in}
use Rattle.coherence.specs.Caches.{cache_at, no_cache}
use Rattle.coherence.specs.Changed.{IsChangedAt, IsReplacedAt}
use Rattle.coherence.proofs.FetchLaws.{other_new}
use Rattle.coherence.proofs.KeptLaws.{coherent_same_copies}

pub changed_at : (Becomes : Cached → Cached → Type 0) (h first : ℕ) (lines : List (List ℕ)) (old new : List Cached) →
    h < length old → (replaced : IsReplacedAt Becomes h old new) →
    ((l : ℕ) → copy_in replaced.cache l ≡ copy_in (cache_at old h) l) →
    IsChangedAt Becomes h (record { first = first; lines = lines; caches = old })
    (record { first = first; lines = lines; caches = new })
changed_at Becomes h first lines old new inside replaced copies =
    rw replaced.new_is
    (record {
      own = rw (get_or-set_same old h replaced.cache no_cache inside) replaced.becomes;
      others = λ g other. other_new h g old replaced.cache other;
      lines = refl;
      stays = record {
        first = refl;
        lines = refl;
        caches = length-set old h replaced.cache;
        coherent = λ told coherent. coherent_same_copies h first lines told old replaced.cache copies coherent;
      };
    })
