-- A text that is put in front of a part of a line.
use Rattle.std.proofs.Common.{◌≡◌, ℕ, ◌+◌, ◌≤◌, List, ◌++◌, length, take, drop, ap, sym, ◌∙◌, arith, length-take-le, length-drop, take-add, take-take, take_at, drop_at}
use Rattle.std.proofs.lemmas.Slice.{take-put_mid}
use borrow.Rule.Slice.PartMut.{put_mid, same_len_mid}
use Rattle.pl_table.specs.Places.{IsPlaced}

-- of what was put the first n bytes count
placed-less : {a b s : List ℕ} {i j : ℕ} (n : ℕ) → i ≤ length a → n ≤ length s → IsPlaced a b i s j → IsPlaced a b i (take n s) (i + n)
placed-less {a} {b} {s} {i} {j} n within few p =
    let front = length-take-le i a within in
    record {
      bytes = sym (take-take (i + n) j b (omega (arith, p.moved))) ∙ ap (take (i + n)) p.bytes ∙ take-add i n (take i a ++ s)
          ∙ (λ k. take_at (take i a) s i front k ++ take n (drop_at (take i a) s i front k));
      moved = omega (arith, length-take-le n s few);
      long = p.long;
    }

-- of a part that was written the first n bytes count
pub placed-part : (a s : List ℕ) (i k n : ℕ) → i + k ≤ length a → length s ≡ k → n ≤ k → IsPlaced a (put_mid i k a s) i (take n s) (i + n)
placed-part a s i k n fits all few =
    placed-less n (omega arith) (omega arith) (record {
      bytes = take-put_mid i k a s (i + k) (omega arith) (omega arith);
      moved = omega arith;
      long = same_len_mid i k a s (omega (arith, length-take-le k (drop i a) (omega (arith, length-drop i a))));
    })
