use Rattle.std.proofs.Common.{rules, ◌≡◌, ◌+◌, ◌-◌, ◌<◌, ◌≤◌, ◌∙◌, ap, refl, sym, arith, ℕ, List, ℤ, length, length-set, to_z, of_z, w64, FitsSigned}
use Rattle.std.proofs.lemmas.Int.{to_z-of_z}
use Rattle.pl_terms.specs.Kinds.{kind_of}
use Rattle.pl_factors.specs.Kinds.{formula_of}
use Rattle.pl_factors.specs.Kept.{Kept, kept_of}
use Rattle.pl_factors.specs.Lanes.{formula_at, window_at}
use Rattle.pl_factors.specs.Spans.{TakesSpans, TakesWindows}
use Rattle.pl_factors.proofs.Following.{after_hold, all_given, before_hold, holds_of, none_given, one_given, same_of, spans_at}
use Rattle.pl_factors.proofs.lanes.fill_slid.Goals as goal

pub value-requires-clause-windows : goal.value-requires-clause-windows
value-requires-clause-windows c =
    holds_of (TakesWindows (kind_of c.args.kind.now)) _ _ _ _ _ _ c.window_at-first.ensures c.window_at-second.ensures c.window_at-third.ensures (c.requires.lanes.windows 0 c.requires.windows)

pub loop-k-init : goal.loop-k-init
loop-k-init c =
    let r : FitsSigned w64 c.value.result = search rules in
    rw (to_z-of_z w64 _ r) (record {
      stands = c.start-running.ensures ∙ same_of (kept_of (kind_of c.args.kind.now)) _ _ _ _ _ _ c.window_at-first.ensures c.window_at-second.ensures c.window_at-third.ensures;
      values = one_given (formula_at (kind_of c.args.kind.now) c.args.size c.args.a.now c.args.b.now c.args.c.now) 0 c.args.out.now c.value.result (none_given _ c.args.out.now) c.requires.windows
          (c.value.ensures.value ∙ same_of (formula_of (kind_of c.args.kind.now)) _ _ _ _ _ _ c.window_at-first.ensures c.window_at-second.ensures c.window_at-third.ensures) c.value.ensures.cell;
    })

-- the place has windows, and is not the first
place : (c : goal.After-running-in-loop-k-1) → (1 ≤ c.loop-k.k) × (c.loop-k.k < length c.args.out.now)
place c =
    let size = length-set c.args.out.now 0 (to_z w64 (of_z w64 c.value.result)) in
    (omega (arith, c.loop-k.auto.k), omega (arith, size, c.loop-k-test.true, c.loop-k.auto.out))

pub next_value-requires-clause-spans : goal.next_value-requires-clause-spans
next_value-requires-clause-spans c =
    let at = place c in
    holds_of (TakesSpans (kind_of c.args.kind.now)) _ _ _ _ _ _ c.window_at-a_span.ensures c.window_at-b_span.ensures c.window_at-c_span.ensures
    (spans_at (kind_of c.args.kind.now) c.args.size (length c.args.out.now) c.args.a.now c.args.b.now c.args.c.now c.requires.lanes c.requires.some c.requires.first c.requires.range (c.loop-k.k - 1)
    (omega (arith, at.0, at.1)))

pub next_value-requires-clause-windows : goal.next_value-requires-clause-windows
next_value-requires-clause-windows c =
    let at = place c in
    after_hold (kind_of c.args.kind.now) c.args.size (length c.args.out.now) c.args.a.now c.args.b.now c.args.c.now c.requires.lanes c.loop-k.k at.0 at.1 _ _ _
    c.window_at-a_span.ensures c.window_at-b_span.ensures c.window_at-c_span.ensures (TakesWindows (kind_of c.args.kind.now)) (c.requires.lanes.windows c.loop-k.k at.1)

pub next_value-requires-clause-stands : goal.next_value-requires-clause-stands
next_value-requires-clause-stands c =
    let at = place c in
    let kept = kept_of (kind_of c.args.kind.now) in
    let old : ℕ → List ℤ → List ℤ = window_at c.args.size in
    c.loop-k.invariant.stands
    ∙ sym (before_hold (kind_of c.args.kind.now) c.args.size (length c.args.out.now) c.args.a.now c.args.b.now c.args.c.now c.requires.lanes c.loop-k.k at.0 at.1 _ _ _
    c.window_at-a_span.ensures c.window_at-b_span.ensures c.window_at-c_span.ensures
    (λ x y z. kept x y z ≡ kept (old (c.loop-k.k - 1) c.args.a.now) (old (c.loop-k.k - 1) c.args.b.now) (old (c.loop-k.k - 1) c.args.c.now)) refl)

pub loop-k-preserved : goal.loop-k-preserved
loop-k-preserved c =
    let r : FitsSigned w64 c.next_value.result = search rules in
    let kind = kind_of c.args.kind.now in
    let size = length-set c.args.out.now 0 (to_z w64 (of_z w64 c.value.result)) in
    let inside : c.loop-k.k < length c.args.out.now = omega (arith, size, c.loop-k-test.true, c.loop-k.auto.out) in
    let later : c.loop-k.k ≡ c.loop-k.k + 1 - 1 = omega arith in
    let new = after_hold kind c.args.size (length c.args.out.now) c.args.a.now c.args.b.now c.args.c.now c.requires.lanes c.loop-k.k (omega (arith, c.loop-k.auto.k)) inside _ _ _
    c.window_at-a_span.ensures c.window_at-b_span.ensures c.window_at-c_span.ensures in
    let kept : ℕ → Kept = λ j. kept_of kind (window_at c.args.size j c.args.a.now) (window_at c.args.size j c.args.b.now) (window_at c.args.size j c.args.c.now) in
    let value : ℕ → ℤ = formula_at kind c.args.size c.args.a.now c.args.b.now c.args.c.now in
    rw (to_z-of_z w64 _ r) (record {
      stands = c.next_value.ensures.stands ∙ new (λ x y z. kept_of kind x y z ≡ kept c.loop-k.k) refl ∙ ap kept later;
      values = one_given value c.loop-k.k c.loop-k.out c.next_value.result c.loop-k.invariant.values (omega (arith, size, inside, c.loop-k.auto.out))
          (c.next_value.ensures.value ∙ new (λ x y z. formula_of kind x y z ≡ value c.loop-k.k) refl) c.next_value.ensures.cell;
    })

pub start-running-requires : goal.start-running-requires
start-running-requires c =
    holds_of (TakesWindows (kind_of c.args.kind.now)) _ _ _ _ _ _ c.window_at-first.ensures c.window_at-second.ensures c.window_at-third.ensures (c.requires.lanes.windows 0 c.requires.windows)

pub window_at-a_span-requires : goal.window_at-a_span-requires
window_at-a_span-requires c =
    let size = length-set c.args.out.now 0 (to_z w64 (of_z w64 c.value.result)) in
    λ some. omega (arith, size, c.loop-k-test.true, c.loop-k.auto.k, c.loop-k.auto.out, c.requires.lanes.first_long some)

pub window_at-b_span-requires : goal.window_at-b_span-requires
window_at-b_span-requires c =
    let size = length-set c.args.out.now 0 (to_z w64 (of_z w64 c.value.result)) in
    λ some. omega (arith, size, c.loop-k-test.true, c.loop-k.auto.k, c.loop-k.auto.out, c.requires.lanes.second_long some)

pub window_at-c_span-requires : goal.window_at-c_span-requires
window_at-c_span-requires c =
    let size = length-set c.args.out.now 0 (to_z w64 (of_z w64 c.value.result)) in
    λ some. omega (arith, size, c.loop-k-test.true, c.loop-k.auto.k, c.loop-k.auto.out, c.requires.lanes.third_long some)

pub returns : goal.returns
returns c =
    let size = length-set c.args.out.now 0 (to_z w64 (of_z w64 c.value.result)) in
    all_given (formula_at (kind_of c.args.kind.now) c.args.size c.args.a.now c.args.b.now c.args.c.now) (length c.args.out.now) c.loop-k.k c.loop-k.out (omega (arith, size, c.loop-k-test.false, c.loop-k.auto.out)) c.loop-k.invariant.values
