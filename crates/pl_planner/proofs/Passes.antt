-- The pass from the last term to the first over the pipelines of the language.
use Rattle.std.proofs.Common.{◌≡◌, ℕ, zero, suc, ◌+◌, ◌*◌, ◌-◌, ◌<◌, ◌≤◌, Bool, true, false, ℤ, pos, ◌-ℤ◌, ◌<ℤ◌, AllPairs, List, length, Some, refl, sym, ◌∙◌, ap, inl, inr, arith, slice_get, replicate}
use Rattle.std.specs.List.{list_any}
use Rattle.std.proofs.lemmas.Bool.{cases_eq, true≢false}
use Rattle.std.proofs.lemmas.Int.{ints}
use Rattle.std.proofs.lemmas.Option.{slice_get_within}
use Rattle.pl_spec.specs.Limits.{most_terms, most_window}
use Rattle.pl_pipeline.specs.Term.{Node, Graph, MentionsBelow}
use Rattle.pl_pipeline.specs.Kind.{Kind}
use Rattle.pl_planner.specs.declared.uses.Use.{Use}
use Rattle.pl_pipeline.specs.Lows.{Needs}
use Rattle.pl_planner.specs.Extra.{asks, back_from}
use Rattle.pl_planner.specs.Columns.{is_bar, bars_back}
use Rattle.pl_planner.specs.Uses.{unused, use_at, all_asked, all_marked, AreUses, HaveExtras}
use Rattle.pl_planner.proofs.Pipelines.{IsPipeline}
use Rattle.pl_planner.proofs.Asking.{lower-more}
use Rattle.pl_planner.proofs.Gathers.{AreGathered, begun, step, gathered, extras, needs-near, back-few}

back-short : (days : List ℤ) (s : ℕ) (k : Kind) (n : ℕ) → n ≤ s + most_window * most_terms → back_from days s k n ≤ s + most_window * most_terms
back-short days s k n h = omega (arith, back-few days s k n)

pub bars-few : {g : Graph} {outs : List ℕ} → IsPipeline g outs → (t : ℕ) (n : Node) → slice_get g t ≡ Some n → bars_back n ≤ most_window
bars-few ok t n e = here (list_any is_bar n.inputs) refl
  where
    here : (b : Bool) → list_any is_bar n.inputs ≡ b → bars_back n ≤ most_window
    here true f = rw f (ok.windows t n e).1
    here false f = rw f (omega arith)

module _ {days : List ℤ} (rise : AllPairs (λ a b. a <ℤ b) days) (s : ℕ) {g : Graph} {outs : List ℕ} (ok : IsPipeline g outs) where
  pub pass_begun : (us : List Use) (n : ℕ) → n ≡ length g → us ≡ all_marked (replicate (length g) unused) n outs → AreGathered days s g outs n us
  pass_begun us n e f = rw (f, e) (begun days s g outs ok.outputs_in)

  -- no term is computed so many sessions early
  few-back : length g ≤ most_terms → (t n : ℕ) → Needs days g outs (pos s) t (pos s -ℤ pos n) → n ≤ s + most_window * most_terms
  few-back few t n needs = omega (arith, ints, few, (needs-near days s g outs ok.graph ok.outputs_in (λ j n e. (ok.windows j n e).1) t (pos s -ℤ pos n) needs).0)

  pub pass_room : length g ≤ most_terms → (us : List Use) (j k : ℕ) (kind : Kind) → AreGathered days s g outs j us → (use_at us k).used ≡ true → back_from days s kind (use_at us k).extra ≤ s + most_window * most_terms
  pass_room few us j k kind h u = back-short days s kind (use_at us k).extra (few-back few k (use_at us k).extra (h.sound k u).0)

  pub pass_step : (us vs : List Use) (k : ℕ) (n : Node) → AreGathered days s g outs k us → 0 < k → slice_get g (k - 1) ≡ Some n → (use_at us (k - 1)).used ≡ true
      → vs ≡ all_asked us (k - 1) (asks days s n (use_at us (k - 1)).extra) → AreGathered days s g outs (k - 1) vs
  pass_step us vs zero n h l e u f = absurd (omega arith)
  pass_step us vs (suc k) n h l e u f =
      let less : suc k - 1 ≡ k = omega arith in
      let at = rw less at e in
      let used = rw less at u in
      let is = rw less at f in
      rw (less, is) (step days rise s g outs ok.graph us k n h at used)

  -- a term that isn't used asks for nothing
  pub pass_skip : (us : List Use) (k : ℕ) → AreGathered days s g outs k us → (use_at us (k - 1)).used ≡ false → AreGathered days s g outs (k - 1) us
  pass_skip us k h unused = record {
    size = h.size;
    sound = h.sound;
    outs = h.outs;
    given = λ u n t r l used e reads. elim (cases_eq u (k - 1)) [
      | inl p ↦ absurd (true≢false (sym used ∙ ap (λ i. (use_at us i).used) p ∙ unused))
      | inr p ↦ h.given u n t r (omega arith) used e reads
    ];
  }

  pub pass_ended : (us : List Use) → AreGathered days s g outs 0 us → AreUses g outs us × HaveExtras days s g outs us
  pass_ended us h = (gathered days rise s g outs ok.graph us h, extras days rise s g outs ok.graph us h)

  pub pass_lower : (us : List Use) (j k : ℕ) (n : Node) → AreGathered days s g outs j us → slice_get g k ≡ Some n → MentionsBelow n (length us)
  pass_lower us j k n h e = lower-more n k (length us) (ok.graph.lower k n e) (omega (arith, slice_get_within g k n e, h.size))

  pub extra-few : length g ≤ most_terms → (us : List Use) → AreUses g outs us → HaveExtras days s g outs us → (t : ℕ) (kind : Kind) → (use_at us t).used ≡ true
      → back_from days s kind (use_at us t).extra ≤ s + most_window * most_terms
  extra-few few us are have t kind u = back-short days s kind (use_at us t).extra (few-back few t (use_at us t).extra (have t ((are.used t).0 u)).needed)
