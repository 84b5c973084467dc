-- What is released, and what is held with one term more.
use Rattle.std.proofs.Common.{◌≡◌, ℕ, ◌+◌, ◌<◌, ◌≤◌, Bool, true, false, ◌&&◌, max, length, Option, Some, None, slice_get, refl, sym, ◌∙◌, ap, arith, if◌then◌else◌}
use Rattle.std.specs.List.{range_with_len, count_by}
use Rattle.std.proofs.lemmas.Bool.{true≢false, and_from}
use Rattle.std.specs.Cmp.{first_so, second_so}
use Rattle.pl_pipeline.specs.Term as spec
use Rattle.pl_pipeline.specs.Term.{IsGraph}
use Rattle.pl_pipeline.specs.Graph.{columns_at}
use Rattle.pl_spec.specs.Limits.{saturated}
use Rattle.pl_planner.specs.Plans.{is_used, last_user, slot_of}
use Rattle.pl_planner.proofs.Counting.{count_more}
use Rattle.pl_planner.specs.Slotting.{one}
use Rattle.pl_workspace.specs.Slots.{Slots, Free, Live, IsLive, live_count, slot_at, with_slot}
use Rattle.pl_workspace.proofs.Tables.{within}
use Rattle.pl_exec.specs.Slotted.{AreLive, AreApart, ends_at, left}
use Rattle.pl_exec.specs.Tasks.{Task, IsArray, graph_in, held_in, kept_in}
use Rattle.pl_exec.specs.ChunkInputs.{IsTask}
use Rattle.pl_exec.proofs.Living.{one_less, live_below, left_same, left_was, left_is, left_else, left_kept}
use Rattle.pl_exec.proofs.Mentions.{own_kept}
use Rattle.pl_exec.proofs.NewColumns.{columns_few}
use Rattle.pl_exec.proofs.Trips.{release_peak}

module _ (t : Task) (k u : ℕ) (w : Slots) (low : u < k + 1) (live : AreLive (slot_of t.plan) (IsArray t) (left (is_used t.plan) (last_user t.plan) k u) (k + 1) w)
    (apart : AreApart (slot_of t.plan) (left (is_used t.plan) (last_user t.plan) k 0) (k + 1)) (counted : live_count w.slots ≤ w.peak) (b : Bool) (is : b ≡ (is_used t.plan u && ends_at (last_user t.plan u) k)) where
  pub not_released : b ≡ false → AreLive (slot_of t.plan) (IsArray t) (left (is_used t.plan) (last_user t.plan) k (u + 1)) (k + 1) w
  not_released off = live_below (slot_of t.plan) (IsArray t) (left (is_used t.plan) (last_user t.plan) k u) (left (is_used t.plan) (last_user t.plan) k (u + 1)) (k + 1) w
      (λ j h. left_same (is_used t.plan) (last_user t.plan) k u (λ x y. true≢false (sym (and_from _ _ x y) ∙ sym is ∙ off)) j) live

  pub still_live : b ≡ true → (s : ℕ) → s ≡ slot_of t.plan u → IsLive (slot_at w s)
  still_live on s slot =
      let so = sym is ∙ on in
      let h = live.held u low (left_was (is_used t.plan) (last_user t.plan) k u (first_so (is_used t.plan u) (ends_at (last_user t.plan u) k) so) (second_so (is_used t.plan u) (ends_at (last_user t.plan u) k) so)) in
      (h.cells, ap (slot_at w) slot ∙ h.is)

  module _ (on : b ≡ true) (s : ℕ) (slot : s ≡ slot_of t.plan u) (v : Slots) (gone : v ≡ with_slot w s Free) where
    used : is_used t.plan u ≡ true
    used = first_so (is_used t.plan u) (ends_at (last_user t.plan u) k) (sym is ∙ on)

    ending : ends_at (last_user t.plan u) k ≡ true
    ending = second_so (is_used t.plan u) (ends_at (last_user t.plan u) k) (sym is ∙ on)

    was : left (is_used t.plan) (last_user t.plan) k u u ≡ true
    was = left_was (is_used t.plan) (last_user t.plan) k u used ending

    inside : slot_of t.plan u < length w.slots
    inside = let h = live.held u low was in within w.slots (slot_of t.plan u) (Live h.cells) h.is (λ p. cc)

    gone_there : v ≡ with_slot w (slot_of t.plan u) Free
    gone_there = gone ∙ ap (λ x. with_slot w x Free) slot

    pub released : AreLive (slot_of t.plan) (IsArray t) (left (is_used t.plan) (last_user t.plan) k (u + 1)) (k + 1) v
    released = one_less (slot_of t.plan) (IsArray t) (left (is_used t.plan) (last_user t.plan) k u) (left (is_used t.plan) (last_user t.plan) k (u + 1)) u (k + 1) w v live low was
        (left_is (is_used t.plan) (last_user t.plan) k u used ending) (left_else (is_used t.plan) (last_user t.plan) k u)
        (λ i j a c l m e. apart i j a c (left_kept (is_used t.plan) (last_user t.plan) k u i l) (left_kept (is_used t.plan) (last_user t.plan) k u j m) e) inside gone_there

    pub peak_same : (v.peak ≡ w.peak) × (live_count v.slots ≤ v.peak)
    peak_same = let h = live.held u low was in release_peak w v (slot_of t.plan u) h.cells h.is inside gone_there counted

-- ---- a term more

pub held_is : (t : Task) (is : IsTask t) (k live : ℕ) → is_used t.plan k ≡ true → live ≡ count_by (kept_in t k) (range_with_len 0 k) → live + 1 + columns_at (graph_in t) k ≡ held_in t k
held_is t is k live used e =
    let own : one (kept_in t k k) ≡ 1 = ap one (own_kept t is k used) in
    let m : count_by (kept_in t k) (range_with_len 0 (k + 1)) ≡ count_by (kept_in t k) (range_with_len 0 k) + one (kept_in t k k) = count_more (kept_in t k) k in
    let r : live + 1 + columns_at (graph_in t) k ≡ count_by (kept_in t k) (range_with_len 0 (k + 1)) + columns_at (graph_in t) k = omega arith in
    r ∙ ap (λ b. if b then count_by (kept_in t k) (range_with_len 0 (k + 1)) + columns_at (graph_in t) k else 0) (sym used)

pub few_columns : (g : spec.Graph) → IsGraph g → (k : ℕ) → columns_at g k ≤ 3
few_columns g ok k = here (slice_get g k) refl
  where
    here : (o : Option spec.Node) → slice_get g k ≡ o → columns_at g k ≤ 3
    here None e = rw e (omega arith)
    here (Some n) e = columns_few g k n e (ok.few k n e)

pub cut_more : (a s f x y z : ℕ) → a ≡ saturated s → f ≡ saturated x → y ≡ s + x → z ≡ saturated (a + f) → z ≡ saturated y
cut_more a s f x y z e g h i = omega (arith, e, g, h, i)

pub most_three : (p f h w v : ℕ) → w ≡ max p f → v ≡ max w h → v ≡ max p (max f h)
most_three p f h w v e g = omega (arith, e, g)
