-- Rings that are full of one cell.
use Rattle.std.proofs.Common.{◌≡◌, ℕ, ℤ, List, [], All, replicate, length, ap, sym, refl, subst, ◌∙◌, arith}
use Rattle.std.proofs.lemmas.List.{get_or-replicate, length-replicate}
use Rattle.circular_buffer.specs.Buffer.{buffer}
use Rattle.pl_spec.specs.Rounding.{IsCell}
use Rattle.pl_daily.specs.Changes.{Ring, AreRings, IsRing, ring_at}

pub all_one : (n : ℕ) (x : ℤ) → IsCell x → All IsCell (replicate n x)
all_one n x cell k d h =
    let long : length (replicate n x) ≡ n = length-replicate n x in
    subst IsCell (sym (get_or-replicate n k x d (omega (arith, h, long)))) cell

pub rings_full : (assets capacity : ℕ) (x : ℤ) (rings : List Ring) → rings ≡ replicate assets (buffer (replicate capacity x) capacity) → IsCell x → AreRings assets capacity rings
rings_full assets capacity x rings is cell =
    let ring : Ring = buffer (replicate capacity x) capacity in
    record {
      count = ap length is ∙ length-replicate assets ring;
      each = λ i h.
          subst (IsRing capacity) (sym (ap (λ l. ring_at l i) is ∙ get_or-replicate assets i ring (buffer [] 0) h))
          (record { room = refl; full = length-replicate capacity x; cells = all_one capacity x cell });
    }
