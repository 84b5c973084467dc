-- Windows of facts, session by session.
use Rattle.std.proofs.Common.{◌≡◌, ℕ, zero, suc, ◌+◌, ◌-◌, ◌<◌, ◌≤◌, Bool, true, false, ◌&&◌, ◌||◌, if◌then◌else◌, ℤ, pos, negsuc, ◌<ℤ◌, ◌∷◌, map, Some, refl, sym, ◌∙◌, ap, arith, inl, inr}
use Rattle.std.specs.List.{range_with_len}
use Rattle.std.specs.Ordering.{int_eq}
use Rattle.std.proofs.Math.Path.{fun_ext}
use Rattle.std.proofs.lemmas.Bool.{cases_lt}
use Rattle.std.proofs.lemmas.Int.{ints}
use Rattle.pl_spec.specs.declared.Column.{Column}
use Rattle.pl_spec.specs.Window.{before, downward, seen_cell}
use Rattle.pl_pipeline.specs.Term.{Graph, Input, term_at}
use Rattle.pl_pipeline.specs.Term.Input.{BarColumn, TermInput}
use Rattle.pl_pipeline.specs.Value.{Own, From, is_steady}
use Rattle.pl_spec.proofs.Windows.{before-pos, downward-sessions}
use Rattle.pl_terms.specs.declared.node.Input as code
use Rattle.pl_terms.specs.declared.node.Input.TheVariants as inputs
use Rattle.pl_terms.specs.Nodes.{input_of}
use Rattle.pl_terms.specs.Checked.{Parts, pipeline_of}
use Rattle.pl_values.specs.Views.{seen_of}
use Rattle.pl_world.specs.declared.world.World.{World}
use Rattle.pl_world.specs.Worlds.{world_of}
use Rattle.pl_world.specs.Views.{seen_in, window_seen_in}
use Rattle.pl_world.proofs.Windowing.{cells-all}
use Rattle.pl_derivation.specs.Facts.{Fact, number_in, value_fact, window_facts}
use Rattle.pl_derivation.specs.Facts.Fact.{Seen}
use Rattle.pl_derivation.proofs.Codes.{told_number}
use Rattle.pl_explain.specs.declared.fact_numbers.FactNumbers.{FactNumbers}
use Rattle.pl_explain.specs.Looking.{look}
use Rattle.pl_explain.specs.Reading.{end_of, fact_at, told_by, is_steady_input}
use Rattle.pl_explain.specs.Given.{has, has_all}

-- ---- by the number of the session

-- the sessions up to one
up-run : {X : Type 0} (f : ℤ → X) (s size : ℕ) → size ≤ s + 1 → map (λ n. f (before (pos s) n)) (downward size) ≡ map (λ b. f (pos b)) (range_with_len (s + 1 - size) size)
up-run f s zero h = refl
up-run f s (suc size) h =
    let first : before (pos s) size ≡ pos (s + 1 - suc size) = before-pos s size (omega (arith, h)) ∙ ap pos (let k : s - size ≡ s + 1 - suc size = omega (arith, h) in k) in
    let next : s + 1 - size ≡ (s + 1 - suc size) + 1 = omega (arith, h) in
    ap (λ z. f z ∷ map (λ n. f (before (pos s) n)) (downward size)) first
    ∙ ap (λ l. f (pos (s + 1 - suc size)) ∷ l) (up-run f s size (omega (arith, h)))
    ∙ ap (λ k. f (pos (s + 1 - suc size)) ∷ map (λ b. f (pos b)) (range_with_len k size)) next

pub window-run : (g : Graph) (i : Input) (a s v size : ℕ) → size ≤ end_of i s
    → window_facts g (From (pos v)) size a (pos s) (Some i) ≡ map (λ b. fact_at (is_steady_input g i) i a (pos b) (pos v)) (range_with_len (end_of i s - size) size)
window-run g (BarColumn c) a s v size h = downward-sessions (λ b. Seen c a b (pos v)) s size h
window-run g (TermInput u) a s v size h = up-run (λ b. told_by (is_steady (term_at g u)) u a b (pos v)) s size h

-- the numbers of these facts are the window
pub window-numbers : (w : World) (c : Parts) (i : code.Input) (a s v size : ℕ) → size ≤ end_of (input_of i) s
    → map (λ b. number_in (world_of w) (pipeline_of c) (fact_at (is_steady_input (pipeline_of c).graph (input_of i)) (input_of i) a (pos b) (pos v))) (range_with_len (end_of (input_of i) s - size) size)
    ≡ window_seen_in w c size (Some i) (Some v) a s
unfolding seen_of
window-numbers w c (inputs.Column k) a s v size h = sym (downward-sessions (λ b. seen_cell (world_of w) a k b (pos v)) s size h)
window-numbers w c (inputs.Term u) a s v size h =
    let all : s + 1 - (s + 1 - size) ≡ size = omega (arith, h) in
    let cell = λ (b : ℕ). seen_in w c u.0 (Some v) a b in
    ap (λ f. map f (range_with_len (s + 1 - size) size)) (fun_ext (λ b. told_number (world_of w) (pipeline_of c) (From (pos v)) u.0 a (pos b)))
    ∙ ap (λ n. map cell (range_with_len (s + 1 - size) n)) (sym all)
    ∙ cells-all cell size s (s + 1) (map cell (range_with_len (s + 1 - size) (s + 1 - (s + 1 - size)))) h refl refl

pub end-near : (i : Input) (s : ℕ) → end_of i s ≤ s + 1
end-near (BarColumn c) s = omega arith
end-near (TermInput u) s = omega arith

module _ (stated : FactNumbers) where
  -- ---- nothing is stated of what is below session 0

  low-bar : (c : Column) (a : ℕ) (s d : ℤ) → s <ℤ pos 0 → has stated (Seen c a s d) ≡ false
  unfolding look
  low-bar c a (pos s) d h = absurd (omega (arith, ints, h))
  low-bar c a (negsuc s) d h = refl

  low-term : (steady : Bool) (t a : ℕ) (d v : ℤ) → d <ℤ pos 0 → has stated (told_by steady t a d v) ≡ false
  unfolding look
  low-term steady t a (pos d) v h = absurd (omega (arith, ints, h))
  low-term steady t a (negsuc d) v h = here (steady || int_eq (negsuc d) v)
    where
      here : (b : Bool) → has stated (value_fact t a (negsuc d) (if b then Own else From v)) ≡ false
      here true = refl
      here false = refl

  bars-early : (g : Graph) (c : Column) (a s v size : ℕ) → s < size → has_all stated (window_facts g (From (pos v)) size a (pos s) (Some (BarColumn c))) ≡ false
  bars-early g c a s v zero h = absurd (omega (arith, h))
  bars-early g c a s v (suc size) h =
      let low : before (pos s) (suc size) <ℤ pos 0 = omega (arith, ints, h) in
      rw (low-bar c a (before (pos s) (suc size)) (pos v) low) refl

  terms-early : (g : Graph) (u a s v size : ℕ) → s + 1 < size → has_all stated (window_facts g (From (pos v)) size a (pos s) (Some (TermInput u))) ≡ false
  terms-early g u a s v zero h = absurd (omega (arith, h))
  terms-early g u a s v (suc size) h =
      let low : before (pos s) size <ℤ pos 0 = omega (arith, ints, h) in
      rw (low-term (is_steady (term_at g u)) u a (before (pos s) size) (pos v) low) refl

  pub window-early : (g : Graph) (i : Input) (a s v size : ℕ) → end_of i s < size → has_all stated (window_facts g (From (pos v)) size a (pos s) (Some i)) ≡ false
  window-early g (BarColumn c) a s v size h = bars-early g c a s v size h
  window-early g (TermInput u) a s v size h = terms-early g u a s v size h

  -- ---- facts in a row

  module _ (f : ℕ → Fact) where
    pub run-stated : (first n : ℕ) → ((k : ℕ) → first ≤ k → k < first + n → has stated (f k) ≡ true) → has_all stated (map f (range_with_len first n)) ≡ true
    run-stated first zero h = refl
    run-stated first (suc n) h =
        rw (h first (omega arith) (omega arith)) (run-stated (first + 1) n (λ k l m. h k (omega (arith, l)) (omega (arith, m))))

    pub run-lacks : (first n k : ℕ) → first ≤ k → k < first + n → has stated (f k) ≡ false → has_all stated (map f (range_with_len first n)) ≡ false
    run-lacks first zero k l m e = absurd (omega (arith, l, m))
    run-lacks first (suc n) k l m e = elim (cases_lt first k) [
      | inl before ↦ later (has stated (f first)) (run-lacks (first + 1) n k (omega (arith, before)) (omega (arith, m)) e)
      | inr here ↦ (let same : first ≡ k = omega (arith, l, here) in let own : has stated (f first) ≡ false = ap (λ i. has stated (f i)) same ∙ e in rw own refl)
    ]
      where
        later : (b : Bool) → has_all stated (map f (range_with_len (first + 1) n)) ≡ false → (b && has_all stated (map f (range_with_len (first + 1) n))) ≡ false
        later true h = h
        later false h = refl

    -- one more
    pub run-more : (first at : ℕ) → ((k : ℕ) → first ≤ k → k < at → has stated (f k) ≡ true) → has stated (f at) ≡ true → (k : ℕ) → first ≤ k → k < at + 1 → has stated (f k) ≡ true
    run-more first at h e k l m = elim (cases_lt k at) [
      | inl before ↦ h k l before
      | inr past ↦ (let same : at ≡ k = omega (arith, past, m) in ap (λ i. has stated (f i)) (sym same) ∙ e)
    ]
