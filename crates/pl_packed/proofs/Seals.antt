-- The end of packed bars, in its three parts.
use Rattle.std.proofs.Common.{◌≡◌, ℕ, List, ◌++◌, length, take, drop, sym, ap, ◌∙◌, arith, length-append}
use Rattle.std.proofs.Math.Seq.{take-append_seam, drop-append_seam}
use Rattle.std.proofs.lemmas.List.{take-append-drop}
use Rattle.sha2.specs.Sha256.{sha256}
use Rattle.pl_packed.specs.Packed.{eight_bytes, seal}
use Rattle.pl_packed.specs.Summed.{bytes_of}
use Rattle.pl_packed.specs.declared.sums.Sums.{Sums}
use Rattle.pl_packed.proofs.WordBytes.{length-eight}

take-is : (n : ℕ) (a b : List ℕ) → length a ≡ n → take n (a ++ b) ≡ a
take-is n a b h = ap (λ k. take k (a ++ b)) (sym h) ∙ take-append_seam a b

drop-is : (n : ℕ) (a b : List ℕ) → length a ≡ n → drop n (a ++ b) ≡ b
drop-is n a b h = ap (λ k. drop k (a ++ b)) (sym h) ∙ drop-append_seam a b

module _ (bytes head : List ℕ) (sums : Sums) where
  abbrev plain : List ℕ
  plain = eight_bytes sums.plain

  abbrev weighed : List ℕ
  weighed = eight_bytes sums.weighed

  abbrev digest : List ℕ
  digest = sha256 (head ++ bytes_of sums)

  two : length (plain ++ weighed) ≡ 16
  two = omega (arith, length-append plain weighed, length-eight sums.plain, length-eight sums.weighed)

  pub plain-of : bytes ≡ seal head (bytes_of sums) → take 8 (take 16 bytes) ≡ plain
  plain-of e = ap (λ s. take 8 s) (ap (λ s. take 16 s) e ∙ take-is 16 (plain ++ weighed) digest two) ∙ take-is 8 plain weighed (length-eight sums.plain)

  pub weighed-of : bytes ≡ seal head (bytes_of sums) → drop 8 (take 16 bytes) ≡ weighed
  weighed-of e = ap (λ s. drop 8 s) (ap (λ s. take 16 s) e ∙ take-is 16 (plain ++ weighed) digest two) ∙ drop-is 8 plain weighed (length-eight sums.plain)

  pub digest-of : bytes ≡ seal head (bytes_of sums) → drop 16 bytes ≡ digest
  digest-of e = ap (λ s. drop 16 s) e ∙ drop-is 16 (plain ++ weighed) digest two

  pub whole-of : take 8 (take 16 bytes) ≡ plain → drop 8 (take 16 bytes) ≡ weighed → drop 16 bytes ≡ digest → bytes ≡ seal head (bytes_of sums)
  whole-of p w d =
      sym (take-append-drop 16 bytes) ∙ ap (λ s. take 16 bytes ++ s) d
      ∙ ap (λ s. s ++ digest) (sym (take-append-drop 8 (take 16 bytes)) ∙ ap (λ s. take 8 (take 16 bytes) ++ s) w ∙ ap (λ s. s ++ weighed) p)
