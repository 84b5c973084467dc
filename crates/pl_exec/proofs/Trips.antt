-- A slot that is begun, finished and released, and what is in use then.
use Rattle.std.proofs.Common.{◌≡◌, ◌≢◌, ℕ, ◌+◌, ◌<◌, ◌≤◌, max, List, length, get_or, set, sym, ◌∙◌, ap, arith, ℤ, get_or-set_same, get_or-set_other, length-set}
use Rattle.std.proofs.lemmas.List.{set-set, set-get_or}
use Rattle.pl_workspace.specs.Slots.{Slots, Slot, Free, Begun, Live, slot_at, with_slot, live_count, in_use}
use Rattle.pl_workspace.proofs.Tables.{counted}
use Rattle.pl_exec.specs.Slotted.{IsHeld}

-- one slot changed
module _ (w v : Slots) (k : ℕ) (s t : Slot) (is : v ≡ with_slot w k s) (was : slot_at w k ≡ t) (within : k < length w.slots) where
  pub now_used : live_count v.slots + in_use t ≡ live_count w.slots + in_use s
  now_used = ap (λ (x : Slots). live_count x.slots + in_use t) is ∙ counted w.slots k s t was within

  pub now_peak : v.peak ≡ max w.peak (live_count v.slots)
  now_peak = ap (λ (x : Slots). x.peak) is ∙ ap (λ (x : Slots). max w.peak (live_count x.slots)) (sym is)

pub there : (w v : Slots) (k : ℕ) (s : Slot) → v ≡ with_slot w k s → k < length w.slots → slot_at v k ≡ s
there w v k s e h = ap (λ (x : Slots). slot_at x k) e ∙ get_or-set_same w.slots k s Begun h

pub elsewhere : (w v : Slots) (k j : ℕ) (s : Slot) → v ≡ with_slot w k s → j ≢ k → slot_at v j ≡ slot_at w j
elsewhere w v k j s e ne = ap (λ (x : Slots). slot_at x j) e ∙ get_or-set_other w.slots k j s Begun ne

pub long : (w v : Slots) (k : ℕ) (s : Slot) → v ≡ with_slot w k s → length v.slots ≡ length w.slots
long w v k s e = ap (λ (x : Slots). length x.slots) e ∙ length-set w.slots k s

-- a slot that is free stays so when another is begun
pub still_free : (w v : Slots) (k j : ℕ) → v ≡ with_slot w k Begun → slot_at w j ≡ Free → j ≢ k → slot_at v j ≡ Free
still_free w v k j e free ne = elsewhere w v k j Begun e ne ∙ free

-- a slot that is live is not one that is free, so it stays when that is begun
pub still_held : {fact : List ℤ → Type 0} (w v : Slots) (s k : ℕ) → IsHeld fact w s → slot_at w k ≡ Free → v ≡ with_slot w k Begun → IsHeld fact v s
still_held w v s k h free e = record {
  cells = h.cells;
  is = elsewhere w v k s Begun e (λ i. let c : Live h.cells ≡ Free = sym h.is ∙ ap (slot_at w) i ∙ free in cc) ∙ h.is;
  holds = h.holds;
}

-- while the slot was begun, others came and went: more were in use by so many at the most
module _ (w w1 w2 w3 : Slots) (k more : ℕ) (cells : List ℤ) (free : slot_at w k ≡ Free) (within : k < length w.slots)
    (begun : w1 ≡ with_slot w k Begun) (same : w2.slots ≡ w1.slots) (peak : w2.peak ≡ max w1.peak (live_count w1.slots + more))
    (finished : w3 ≡ with_slot w2 k (Live cells)) where
  first_count : live_count w1.slots ≡ live_count w.slots + 1
  first_count = let u = now_used w w1 k Begun Free begun free within in omega arith

  pub in_second : k < length w2.slots
  in_second = let a : length w2.slots ≡ length w1.slots = ap (λ l. length l) same in let b = long w w1 k Begun begun in omega arith

  pub at_second : slot_at w2 k ≡ Begun
  at_second = ap (λ l. get_or l k Begun) same ∙ there w w1 k Begun begun within

  pub stay_count : live_count w3.slots ≡ live_count w.slots + 1
  stay_count =
      let u = now_used w2 w3 k (Live cells) Begun finished at_second in_second in
      let v : live_count w2.slots ≡ live_count w1.slots = ap live_count same in
      let f = first_count in omega arith

  pub stay_peak : w3.peak ≡ max w.peak (live_count w.slots + 1 + more)
  stay_peak =
      let a = now_peak w w1 k Begun Free begun free within in
      let b = now_peak w2 w3 k (Live cells) Begun finished at_second in_second in
      let f = first_count in
      let t = stay_count in
      omega arith

  -- and when it is released, all is as before but for the peak
  module _ (w4 : Slots) (released : w4 ≡ with_slot w3 k Free) where
    pub trip_slots : w4.slots ≡ w.slots
    trip_slots =
        ap (λ (t : Slots). t.slots) released
        ∙ ap (λ (t : Slots). set t.slots k Free) finished
        ∙ set-set w2.slots k (Live cells) Free
        ∙ ap (λ l. set l k Free) same
        ∙ ap (λ (t : Slots). set t.slots k Free) begun
        ∙ set-set w.slots k Begun Free
        ∙ ap (λ s. set w.slots k s) (sym free)
        ∙ set-get_or w.slots k Begun

    pub trip_peak : w4.peak ≡ max w.peak (live_count w.slots + 1 + more)
    trip_peak =
        let p3 = stay_peak in
        let s4 : live_count w4.slots ≡ live_count w.slots = ap live_count trip_slots in
        let p4 : w4.peak ≡ max w3.peak (live_count w4.slots) = ap (λ (x : Slots). x.peak) released ∙ ap (λ (x : Slots). max w3.peak (live_count x.slots)) (sym released) in
        omega arith

pub release_peak : (w v : Slots) (k : ℕ) (cells : List ℤ) → slot_at w k ≡ Live cells → k < length w.slots → v ≡ with_slot w k Free → live_count w.slots ≤ w.peak → (v.peak ≡ w.peak) × (live_count v.slots ≤ v.peak)
release_peak w v k cells at h e l =
    let u = now_used w v k Free (Live cells) e at h in
    let p = now_peak w v k Free (Live cells) e at h in
    (omega arith, omega arith)
