use Rattle.std.proofs.Common.{◌≡◌, ◌+◌, ◌≤◌, length, refl, subst, inl, of_z, w64, arith}
use Rattle.std.specs.List.{All}
use Rattle.pl_spec.specs.Rounding.{IsCell}
use Rattle.pl_lanes.specs.Flags.{IsFlag, flag, choice, joins}
use Rattle.pl_lanes.specs.Heights.{height}
use Rattle.pl_lanes.specs.Kernels.{AreTaken}
use Rattle.pl_lanes.specs.declared.kernels.Kernel.{Kernel}
use Rattle.pl_lanes.proofs.Bits.{at-cell, cell-fits, chunk-map, read-has}
use Rattle.pl_lanes.proofs.FlagLemmas.{choice-is, flag-is, joined-flags}
use Rattle.pl_lanes.proofs.WrittenLemmas.{chosen-lanes, pair-lanes}
use Rattle.pl_lanes.proofs.kernels.lanes.Goals as goal
use Rattle.pl_lanes.proofs.kernels.lanes.Goals.{in-Compares, in-Joins, in-Chooses}

pub returns : goal.returns
returns c =
    let a = c.args.a.now in
    let b = c.args.b.now in
    let at = c.args.at in
    elim c.match-kernel.branch [
      | in-Compares w ↦
          let taken : All IsCell a × All IsCell b = subst (λ (k : Kernel). AreTaken k (length a) a b) w.in-Compares.is c.requires.taken in
          rw (w.in-Compares.is, w.result-is, w.flags.ensures, w.heights.ensures, w.heights-in-Compares.ensures, chunk-map height at 8 a, chunk-map height at 8 b)
          (pair-lanes height (flag w.in-Compares.op) _ a b at c.requires.left c.requires.right (λ k. flag-is w.in-Compares.op _ _ (at-cell a k taken.0) (at-cell b k taken.1)))
      | in-Joins w ↦
          let taken : All IsFlag a × All IsFlag b = subst (λ (k : Kernel). AreTaken k (length a) a b) w.in-Joins.is c.requires.taken in
          rw (w.in-Joins.is, w.result-is, w.lanes_joined.ensures, w.eight.ensures, w.eight-in-Joins.ensures)
          (pair-lanes (of_z w64) (joins w.in-Joins.both) _ a b at c.requires.left c.requires.right
          (λ k. joined-flags w.in-Joins.both _ _ (read-has IsFlag a k (inl refl) taken.0) (read-has IsFlag b k (inl refl) taken.1)))
      | in-Chooses w ↦
          let f = w.in-Chooses.f.now in
          let taken : All IsFlag f × (length f ≡ length a) × All IsCell a × All IsCell b = subst (λ (k : Kernel). AreTaken k (length a) a b) w.in-Chooses.is c.requires.taken in
          let room : at + 8 ≤ length f = omega (arith, taken.1, c.requires.left) in
          let chosen = rw (w.eight-in-Chooses.ensures, w.eight-in-Chooses-2.ensures, w.eight-in-Chooses-3.ensures) at w.lanes_select.ensures in
          rw w.in-Chooses.is (chosen-lanes (of_z w64) choice _ f a b at c.match-kernel.result room c.requires.left c.requires.right c.match-kernel.auto.result.0 (λ j h. rw w.result-is (chosen j h))
          (λ k. choice-is _ _ _ (read-has IsFlag f k (inl refl) taken.0) (cell-fits _ (at-cell a k taken.2)) (cell-fits _ (at-cell b k taken.3))))
    ]
