-- The sums of words, with one more.
use Rattle.std.proofs.Common.{◌≡◌, ℕ, suc, ◌+◌, ◌*◌, ◌^◌, ◌%◌, List, [], ◌∷◌, ◌++◌, length, get_or, sum, subst, append_assoc, refl, sym, ap, ◌∙◌, arith, length-append}
use Rattle.std.proofs.Math.Nat.{add-mod-mod, mod-add-mod}
use Rattle.std.specs.List.{sum_by}
use Rattle.std.proofs.lemmas.List.Sums.{fold-append, sum_by_from}
use Rattle.pl_packed.specs.Packed.{weighed}
use Rattle.pl_packed.specs.Summed.{AreSums}
use Rattle.pl_packed.specs.declared.sums.Sums.{Sums}

pub sum-more : (words : List ℕ) (word : ℕ) → sum (words ++ word ∷ []) ≡ sum words + word
sum-more words word = fold-append ◌+◌ 0 words (word ∷ [])

sum-cons : (word : ℕ) (words : List ℕ) → sum (word ∷ words) ≡ word + sum words
sum-cons word words =
    let first : sum (word ∷ words) ≡ (0 + word) + sum_by (λ x. x) words = sum_by_from (λ x. x) (0 + word) words in
    let all : sum words ≡ 0 + sum_by (λ x. x) words = sum_by_from (λ x. x) 0 words in
    omega (arith, first, all)

pub weighed-more : (words : List ℕ) (word : ℕ) → weighed (words ++ word ∷ []) ≡ weighed words + (sum words + word)
weighed-more [] word = omega arith
weighed-more (w ∷ words) word =
    let long : length (words ++ word ∷ []) ≡ length words + 1 = length-append words (word ∷ []) in
    step (length words) (length (words ++ word ∷ [])) w (weighed words) (sum words) word (weighed (words ++ word ∷ [])) long (weighed-more words word)
    ∙ ap (λ n. (suc (length words) * w + weighed words) + (n + word)) (sym (sum-cons w words))
  where
    step : (n m w a s word b : ℕ) → m ≡ n + 1 → b ≡ a + (s + word) → suc m * w + b ≡ (suc n * w + a) + ((w + s) + word)
    step n m w a s word b e h = rw e (grind (arith, h))

-- of 64 bits each
pub sums-more : (sums : Sums) (words : List ℕ) (word : ℕ) (plain weight : ℕ) → AreSums sums words → plain ≡ (sums.plain + word) % 2 ^ 64
    → weight ≡ (sums.weighed + plain) % 2 ^ 64 → AreSums (record { plain = plain; weighed = weight }) (words ++ word ∷ [])
sums-more sums words word plain weight h p w = record {
  plain = first;
  weighed = w ∙ ap (λ n. (n + plain) % 2 ^ 64) h.weighed ∙ mod-add-mod (weighed words) (2 ^ 64) plain
      ∙ ap (λ n. (weighed words + n) % 2 ^ 64) first ∙ add-mod-mod (weighed words) (sum (words ++ word ∷ [])) (2 ^ 64)
      ∙ ap (λ n. (weighed words + n) % 2 ^ 64) (sum-more words word) ∙ ap (λ n. n % 2 ^ 64) (sym (weighed-more words word));
}
  where
    first : plain ≡ sum (words ++ word ∷ []) % 2 ^ 64
    first = p ∙ ap (λ n. (n + word) % 2 ^ 64) h.plain ∙ mod-add-mod (sum words) (2 ^ 64) word ∙ ap (λ n. n % 2 ^ 64) (sym (sum-more words word))

-- six words more
pub six-more : (sums : Sums) (words six : List ℕ) → length six ≡ 6
    → AreSums sums ((((((words ++ get_or six 0 0 ∷ []) ++ get_or six 1 0 ∷ []) ++ get_or six 2 0 ∷ []) ++ get_or six 3 0 ∷ []) ++ get_or six 4 0 ∷ []) ++ get_or six 5 0 ∷ [])
    → AreSums sums (words ++ six)
six-more sums words (a ∷ b ∷ c ∷ d ∷ e ∷ f ∷ []) l h = subst (AreSums sums) (simp append_assoc refl) h
six-more sums words [] l h = absurd (omega (arith, l))
six-more sums words (a ∷ []) l h = absurd (omega (arith, l))
six-more sums words (a ∷ b ∷ []) l h = absurd (omega (arith, l))
six-more sums words (a ∷ b ∷ c ∷ []) l h = absurd (omega (arith, l))
six-more sums words (a ∷ b ∷ c ∷ d ∷ []) l h = absurd (omega (arith, l))
six-more sums words (a ∷ b ∷ c ∷ d ∷ e ∷ []) l h = absurd (omega (arith, l))
six-more sums words (a ∷ b ∷ c ∷ d ∷ e ∷ f ∷ g ∷ more) l h = absurd (omega (arith, l))
