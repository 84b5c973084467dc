-- Outputs are released one after the other.
use Rattle.std.proofs.Common.{◌≡◌, ◌≢◌, ℕ, ◌+◌, ◌<◌, ◌≤◌, Bool, true, false, ℤ, List, length, refl, sym, ap, subst, ◌∙◌, arith, inl, inr, get_or-set_other, get_or-set_same, length-set}
use Rattle.std.proofs.lemmas.Bool.{cases_eq, cases_lt, true≢false}
use Rattle.std.proofs.lemmas.Bool.Decides.{nat_tests}
use Rattle.std.proofs.lemmas.Option.{unwrap_or-slice_get, slice_get_past}
use Rattle.std.specs.Prelude.{nat_le, Option, Some, None, unwrap_or}
use Rattle.pl_pipeline.specs.Graph.{contains}
use Rattle.pl_pipeline.specs.Table.{Pipeline}
use Rattle.pl_terms.specs.Checked.{IsChecked}
use Rattle.pl_terms.specs.Uses.{outputs}
use Rattle.pl_planner.specs.Plans.{Planned, IsPlanOf, IsLive, AreLastUsers, is_live, is_read_by, is_used, last_user, slot_of}
use Rattle.pl_planner.proofs.Pipelines.{output-used}
use Rattle.pl_workspace.specs.Slots.{Slots, Free, Begun, Live, slot_at, with_slot}
use Rattle.pl_workspace.specs.Slots as slots
use Rattle.pl_runner.proofs.Terms.{used-within}
use Rattle.pl_runner.specs.Releases.{HoldOnly}

pub not-output : (days : List ℤ) (p : Pipeline) (plan : Planned) → IsChecked p → IsPlanOf days p plan → (t : ℕ) → is_used plan t ≡ false → false ≡ contains (outputs p) t
not-output days p plan ok is t u = here (contains (outputs p) t) refl
  where
    here : (b : Bool) → contains (outputs p) t ≡ b → false ≡ b
    here false e = refl
    here true e = absurd (true≢false (sym (output-used days p plan ok is t e) ∙ u))

-- one that is no output is passed
pub passed : (p : Pipeline) (plan : Planned) (n : ℕ) (w : Slots) → HoldOnly p plan n w → contains (outputs p) n ≡ false → HoldOnly p plan (n + 1) w
passed p plan n w h other =
    record {
      live = λ t l o. h.live t (omega arith) o;
      free = λ s l none. h.free s l (λ t m o e. elim (cases_eq t n) [
        | inl f ↦ true≢false (sym o ∙ ap (contains (outputs p)) f ∙ other)
        | inr f ↦ none t (omega arith) o e
      ]);
    }

pub slots-long : (w : Slots) (s : ℕ) → length (with_slot w s Free).slots ≡ length w.slots
slots-long w s = length-set w.slots s Free

-- a live slot is there
pub live-inside : (w : Slots) (s : ℕ) → slots.IsLive (slot_at w s) → s < length w.slots
live-inside w s live = elim (cases_lt s (length w.slots)) [
  | inl l ↦ l
  | inr l ↦ absurd (let past : slot_at w s ≡ Begun = sym (unwrap_or-slice_get w.slots s Begun) ∙ ap (λ (o : Option slots.Slot). unwrap_or o Begun) (slice_get_past w.slots s l) in let bad : Begun ≡ Live live.0 = sym past ∙ live.1 in cc)
]

-- all outputs are released
pub all-released : (days : List ℤ) (p : Pipeline) (plan : Planned) (n : ℕ) (w : Slots) → IsChecked p → IsPlanOf days p plan → length p.graph ≤ n → HoldOnly p plan n w → (s : ℕ) → s < length w.slots → slot_at w s ≡ Free
all-released days p plan n w ok is done h s l =
    h.free s l (λ t m o e. (let u = used-within days p plan is t (output-used days p plan ok is t o) in absurd (omega arith)))

module _ (days : List ℤ) (p : Pipeline) (plan : Planned) (ok : IsChecked p) (is : IsPlanOf days p plan) where
  -- an output has no last user
  kept : (k t : ℕ) → contains (outputs p) t ≡ true → is_read_by (last_user plan t) k ≡ true
  kept k t o = here (last_user plan t) refl (is.last t (output-used days p plan ok is t o))
    where
      here : (l : Option ℕ) → last_user plan t ≡ l → AreLastUsers p.graph (outputs p) t l → is_read_by l k ≡ true
      here None e a = refl
      here (Some l) e a = absurd (true≢false (sym o ∙ a.0))

  live-at : (k t : ℕ) → is_used plan k ≡ true → contains (outputs p) t ≡ true → t ≤ k → IsLive p k t
  live-at k t u o l =
      let used = output-used days p plan ok is t o in
      let below : nat_le t k ≡ true = grind (arith, nat_tests) in
      let all : is_live plan k t ≡ true = rw (used, below) (kept k t o) in
      sym (is.live k t (used-within days p plan is k u)) ∙ all

  -- outputs have slots of their own
  apart : (t u : ℕ) → contains (outputs p) t ≡ true → contains (outputs p) u ≡ true → slot_of plan t ≡ slot_of plan u → t ≡ u
  apart t u a b e = elim (cases_lt t u) [
    | inl l ↦ is.slots.apart u t u (output-used days p plan ok is u b) (live-at u t (output-used days p plan ok is u b) a (omega arith)) (live-at u u (output-used days p plan ok is u b) b (omega arith)) e
    | inr l ↦ is.slots.apart t t u (output-used days p plan ok is t a) (live-at t t (output-used days p plan ok is t a) a (omega arith)) (live-at t u (output-used days p plan ok is t a) b (omega arith)) e
  ]

  pub released : (n : ℕ) (w : Slots) → HoldOnly p plan n w → contains (outputs p) n ≡ true → slot_of plan n < length w.slots → HoldOnly p plan (n + 1) (with_slot w (slot_of plan n) Free)
  released n w h own inside =
      record {
        live = λ t l o. (let ne : slot_of plan t ≢ slot_of plan n = (λ e. let same = apart t n o own e in absurd (omega arith)) in
            subst slots.IsLive (sym (get_or-set_other w.slots (slot_of plan n) (slot_of plan t) Free Begun ne)) (h.live t (omega arith) o));
        free = λ s l none. elim (cases_eq s (slot_of plan n)) [
          | inl f ↦ ap (slot_at (with_slot w (slot_of plan n) Free)) f ∙ get_or-set_same w.slots (slot_of plan n) Free Begun inside
          | inr f ↦ get_or-set_other w.slots (slot_of plan n) s Free Begun f
              ∙ h.free s (omega (arith, slots-long w (slot_of plan n))) (λ t m o e. elim (cases_eq t n) [
                | inl g ↦ f (sym e ∙ ap (slot_of plan) g)
                | inr g ↦ none t (omega arith) o e
              ])
        ];
      }
