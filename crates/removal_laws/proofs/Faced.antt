-- what holds of all lines but one, whose new head is met, holds of all lines after that
use Rattle.std.proofs.Common.{◌≡◌, ◌≢◌, ◌∙◌, ℕ, true, Some, is_some, refl, ap, sym, inl, inr, ◌⊎◌, subst}
use Rattle.std.proofs.lemmas.Bool.{cases_eq}
use Rattle.bus_order.specs.Order.{Request, first_of, request_of}
use Rattle.residency.specs.Cache.{has_bit}
use Rattle.el_base.specs.declared.config.Mode.TheVariants.{Tlr}
use Rattle.el_model.specs.Armed.{freed_hart, is_freed, let_go, let_go_hart}
use Rattle.el_model.specs.Conflicts.{retains}
use Rattle.el_model.specs.Face.{faced, met}
use Rattle.el_model.specs.State.{ModelState, cache_of, hart_of, head_of, is_live, ordered_of}
use Rattle.el_model.proofs.Laws.EachHart.{each_after}
use Rattle.el_model.proofs.Laws.Keeps.{frame_let_go, keeps_faced}
use Rattle.el_model.proofs.Laws.Tests.{by_test}
use Rattle.removal_laws.specs.Facts.{Everywhere, MayRetain, Messages, Retaining}
use Rattle.removal_laws.proofs.Laws.Facing.{face_may, face_posts}
use Rattle.removal_laws.proofs.Grounds.{Standing}
use Rattle.removal_laws.proofs.Kept.{AllPosted, messages_moved, moved_by_post, retaining_posted}
use Rattle.removal_laws.proofs.Posting.{Posted, let_go_posts, unchanged}
use Rattle.removal_laws.proofs.Requests.{AllBelow}
use Rattle.rv_flat.specs.FlatState.{view_of}
use Rattle.section_laws.proofs.Laws.Bits.{Fewer, fewer_twice}

-- the other lines
abbrev pub Other : ℕ → ℕ → Type 0
Other line other = other ≢ line

-- the head that is faced, with what is known before
pub record Facing (state : ModelState) (head : Request) : Type 0 where
  pub mode : state.config.mode ≡ Tlr
  pub below : AllBelow state
  pub first : head_of state head.line ≡ Some head
  pub ordered : ordered_of state head.hart ≡ Some head
  pub messages : Messages Everywhere state
  pub retaining : Retaining (Other head.line) state

pub all_faced : (state : ModelState) (head : Request) → Facing state head → AllPosted state (faced state head)
unfolding faced
all_faced state head facing = record {
  order = refl;
  count = (keeps_faced state head).count;
  each_posted = face_posts state head facing.mode (ap is_some facing.ordered);
}

-- a section with a bit on the line of its request is the head there too
abbrev pub FirstOn : ModelState → ModelState → ℕ → Type 0
FirstOn state new line =
    (h : ℕ) (request : Request) → request.line ≡ line → ordered_of state h ≡ Some request → is_live new h ≡ true →
    has_bit (cache_of new h) request.line ≡ true → head_of state request.line ≡ Some request

pub faced_stands : (state : ModelState) (head : Request) → Facing state head →
    FirstOn state (faced state head) head.line → Standing (faced state head)
faced_stands state head facing first_on =
    let posts = all_faced state head facing in
    let others = retaining_posted (Other head.line) state (faced state head) posts facing.retaining in
    record {
      messages =
          messages_moved Everywhere state (faced state head) (moved_by_post state (faced state head) posts)
          facing.messages;
      retaining = record {
        may = λ g line on is. may_by others g line is (cases_eq line head.line);
        raised = others.raised;
        ordered = others.ordered;
        first =
            λ h request on is live bit. first_by posts others h request is live bit (cases_eq request.line head.line);
      };
    }
  where
    may_by : Retaining (Other head.line) (faced state head) → (g line : ℕ) → retains (faced state head) g line ≡ true →
        (line ≡ head.line) ⊎ (line ≡ head.line → ⊥) → MayRetain (faced state head) g line
    may_by others g line is (inl same) =
        subst (MayRetain (faced state head) g) (sym same)
        (face_may state head g facing.mode facing.first facing.below (facing.below head.hart head facing.ordered)
        (subst (λ l. retains (faced state head) g l ≡ true) same is))
    may_by others g line is (inr apart) = others.may g line apart is

    first_by : AllPosted state (faced state head) → Retaining (Other head.line) (faced state head) →
        (h : ℕ) (request : Request) → ordered_of (faced state head) h ≡ Some request →
        is_live (faced state head) h ≡ true → has_bit (cache_of (faced state head) h) request.line ≡ true →
        (request.line ≡ head.line) ⊎ (request.line ≡ head.line → ⊥) →
        head_of (faced state head) request.line ≡ Some request
    first_by posts others h request is live bit (inl same) =
        ap (λ o. first_of o request.line) posts.order
        ∙ first_on h request same (subst (λ o. request_of o h ≡ Some request) posts.order is) live bit
    first_by posts others h request is live bit (inr apart) = others.first h request apart is live bit

-- as a head is met, the armed sections in its way are let go first; they retain nothing, and post nothing
pub all_let_go : (state : ModelState) (head : Request) → AllPosted state (let_go state head)
unfolding let_go
all_let_go state head = record {
  order = refl;
  count = (frame_let_go state head).count;
  each_posted =
      each_after (λ g hart. Posted state g (hart_of state g) hart) state (freed_hart state head)
      (λ g now.
      let hart = hart_of state g in
      let pc = (view_of state.committed g).pc in
      by_test (Posted state g hart) (is_freed head g hart) (let_go_hart pc hart) hart
      (λ freed. let_go_posts state g pc hart) (λ stays. now))
      (λ g. unchanged state g (hart_of state g));
}

freed_facing : (state : ModelState) (head : Request) → Facing state head → Facing (let_go state head) head
freed_facing state head facing =
    let posts = all_let_go state head in
    record {
      mode = ap (λ config. config.mode) (frame_let_go state head).config ∙ facing.mode;
      below =
          λ h found is. rw posts.count (facing.below h found (subst (λ o. request_of o h ≡ Some found) posts.order is));
      first = subst (λ o. first_of o head.line ≡ Some head) (sym posts.order) facing.first;
      ordered = subst (λ o. request_of o head.hart ≡ Some head) (sym posts.order) facing.ordered;
      messages =
          messages_moved Everywhere state (let_go state head) (moved_by_post state (let_go state head) posts)
          facing.messages;
      retaining = retaining_posted (Other head.line) state (let_go state head) posts facing.retaining;
    }

-- no section has a bit more
pub met_fewer : (state : ModelState) (head : Request) → Facing state head → (g line : ℕ) →
    Fewer line (hart_of state g) (hart_of (met state head) g)
met_fewer state head facing g line =
    fewer_twice line (hart_of state g) (hart_of (let_go state head) g) (hart_of (met state head) g)
    (((all_let_go state head).each_posted g).fewer line)
    (((all_faced (let_go state head) head (freed_facing state head facing)).each_posted g).fewer line)

pub met_stands : (state : ModelState) (head : Request) → Facing state head → FirstOn state (met state head) head.line →
    Standing (met state head)
met_stands state head facing first_on =
    let posts = all_let_go state head in
    faced_stands (let_go state head) head (freed_facing state head facing)
    (λ h request line is live bit.
    ap (λ o. first_of o request.line) posts.order
    ∙ first_on h request line (subst (λ o. request_of o h ≡ Some request) posts.order is) live bit)
