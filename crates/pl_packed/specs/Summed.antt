-- Sums that are kept while words are read.
use Rattle.std.specs.Prelude.{◌≡◌, ℕ, ◌^◌, ◌%◌, List, ◌++◌, sum}
use Rattle.pl_packed.specs.Packed.{weighed, eight_bytes}
use Rattle.pl_packed.specs.declared.sums.Sums.{Sums}

pub record AreSums (sums : Sums) (words : List ℕ) : Type 0 where
  pub plain : sums.plain ≡ sum words % 2 ^ 64
  pub weighed : sums.weighed ≡ weighed words % 2 ^ 64

abbrev pub bytes_of : Sums → List ℕ
bytes_of sums = eight_bytes sums.plain ++ eight_bytes sums.weighed
