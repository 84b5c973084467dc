-- Numbers as bytes, and back.
use Rattle.std.proofs.Common.{◌≡◌, ℕ, suc, ◌+◌, ◌^◌, ◌<◌, ◌≤◌, inl, inr, List, get_or, [], ◌∷◌, ◌++◌, length, take, drop, All, refl, sym, ap, ◌∙◌, arith}
use Rattle.std.specs.Int.{w32, w64, from_le_bytes}
use Rattle.std.proofs.lemmas.Bool.{cases_lt}
use Rattle.std.proofs.lemmas.List.{append-nil, at_drop_more, get_or-take, get_or-drop, length-take, length-drop}
use Rattle.std.proofs.Math.ListN.{get_or-eq_default}
use Rattle.std.proofs.lemmas.List.Elements.{All-head, All-tail}
use Rattle.std.proofs.lemmas.Nat.{from_le_bytes-to_le_bytes_4, from_le_bytes-to_le_bytes_8, le_bytes_4, le_bytes_8}
use Rattle.pl_packed.specs.Packed.{four_bytes, eight_bytes, words_bytes}
use Rattle.pl_packed.proofs.Bytes.{front-same, back-same, next-more}

pub length-four : (n : ℕ) → length (four_bytes n) ≡ 4
unfolding four_bytes
length-four n = refl

pub length-eight : (n : ℕ) → length (eight_bytes n) ≡ 8
unfolding eight_bytes
length-eight n = refl

pub four-same : (a b : ℕ) → a < 2 ^ 32 → b < 2 ^ 32 → four_bytes a ≡ four_bytes b → a ≡ b
unfolding four_bytes
four-same a b p q e = sym (from_le_bytes-to_le_bytes_4 a p) ∙ ap (λ s. from_le_bytes w32 s) e ∙ from_le_bytes-to_le_bytes_4 b q

pub eight-same : (a b : ℕ) → a < 2 ^ 64 → b < 2 ^ 64 → eight_bytes a ≡ eight_bytes b → a ≡ b
unfolding eight_bytes
eight-same a b p q e = sym (from_le_bytes-to_le_bytes_8 a p) ∙ ap (λ s. from_le_bytes w64 s) e ∙ from_le_bytes-to_le_bytes_8 b q

-- as many words with the same bytes are the same
pub words-same : (a b : List ℕ) → length a ≡ length b → All (λ w. w < 2 ^ 64) a → All (λ w. w < 2 ^ 64) b → words_bytes a ≡ words_bytes b → a ≡ b
words-same [] [] l p q e = refl
words-same [] (y ∷ ys) l p q e = absurd (omega (arith, l))
words-same (x ∷ xs) [] l p q e = absurd (omega (arith, l))
words-same (x ∷ xs) (y ∷ ys) l p q e =
    let long : length (eight_bytes x) ≡ length (eight_bytes y) = length-eight x ∙ sym (length-eight y) in
    let small = λ (w : ℕ). w < 2 ^ 64 in
    let first = eight-same x y (All-head small x xs p) (All-head small y ys q) (front-same (eight_bytes x) (eight_bytes y) (words_bytes xs) (words_bytes ys) long e) in
    let rest = words-same xs ys (omega (arith, l)) (All-tail small x xs p) (All-tail small y ys q) (back-same (eight_bytes x) (eight_bytes y) (words_bytes xs) (words_bytes ys) long e) in
    ap (λ w. w ∷ xs) first ∙ ap (λ ws. y ∷ ws) rest

-- six words whose bytes stand there one after the other
pub six-there : (bytes : List ℕ) (at a b c d e f : ℕ) → eight_bytes a ≡ take 8 (drop at bytes) → eight_bytes b ≡ take 8 (drop (at + 8) bytes)
    → eight_bytes c ≡ take 8 (drop (at + 16) bytes) → eight_bytes d ≡ take 8 (drop (at + 24) bytes) → eight_bytes e ≡ take 8 (drop (at + 32) bytes)
    → eight_bytes f ≡ take 8 (drop (at + 40) bytes) → words_bytes (a ∷ b ∷ c ∷ d ∷ e ∷ f ∷ []) ≡ take 48 (drop at bytes)
six-there bytes at a b c d e f ea eb ec ed ee ef =
    let six : take 8 (drop (at + 40) bytes) ≡ eight_bytes f ++ [] = sym (append-nil (eight_bytes f) ∙ ef) in
    let five = chain (at + 32) (at + 40) 8 8 (eight_bytes e) (eight_bytes f ++ []) (omega arith) (sym ee) six in
    let four = chain (at + 24) (at + 32) 8 16 (eight_bytes d) _ (omega arith) (sym ed) five in
    let three = chain (at + 16) (at + 24) 8 24 (eight_bytes c) _ (omega arith) (sym ec) four in
    let two = chain (at + 8) (at + 16) 8 32 (eight_bytes b) _ (omega arith) (sym eb) three in
    sym (chain at (at + 8) 8 40 (eight_bytes a) _ refl (sym ea) two)
  where
    chain : (p q n m : ℕ) (x y : List ℕ) → p + n ≡ q → take n (drop p bytes) ≡ x → take m (drop q bytes) ≡ y → take (n + m) (drop p bytes) ≡ x ++ y
    chain p q n m x y h ex ey =
        next-more p n m bytes ∙ ap (λ s. s ++ take m (drop (p + n) bytes)) ex ∙ ap (λ s. x ++ s) (ap (λ k. take m (drop k bytes)) h ∙ ey)

-- ---- bytes that are read one by one

-- the byte at a place, and those after it
one-more : (bytes : List ℕ) (p q n : ℕ) (ys : List ℕ) → p + 1 ≡ q → p < length bytes → take n (drop q bytes) ≡ ys → take (suc n) (drop p bytes) ≡ get_or bytes p 0 ∷ ys
one-more bytes p q n ys e h t =
    at_drop_more (λ s. take (suc n) s) bytes p 0 h ∙ ap (λ s. get_or bytes p 0 ∷ s) (ap (λ k. take n (drop k bytes)) e ∙ t)

pub four-read : (bytes : List ℕ) (at : ℕ) → at + 4 ≤ length bytes
    → take 4 (drop at bytes) ≡ get_or bytes at 0 ∷ get_or bytes (at + 1) 0 ∷ get_or bytes (at + 2) 0 ∷ get_or bytes (at + 3) 0 ∷ []
four-read bytes at h =
    one-more bytes at (at + 1) 3 _ refl (omega arith) (one-more bytes (at + 1) (at + 2) 2 _ (omega arith) (omega arith)
    (one-more bytes (at + 2) (at + 3) 1 _ (omega arith) (omega arith) (one-more bytes (at + 3) (at + 4) 0 [] (omega arith) (omega arith) refl)))

pub eight-read : (bytes : List ℕ) (at : ℕ) → at + 8 ≤ length bytes
    → take 8 (drop at bytes) ≡ get_or bytes at 0 ∷ get_or bytes (at + 1) 0 ∷ get_or bytes (at + 2) 0 ∷ get_or bytes (at + 3) 0
    ∷ get_or bytes (at + 4) 0 ∷ get_or bytes (at + 5) 0 ∷ get_or bytes (at + 6) 0 ∷ get_or bytes (at + 7) 0 ∷ []
eight-read bytes at h =
    one-more bytes at (at + 1) 7 _ refl (omega arith) (one-more bytes (at + 1) (at + 2) 6 _ (omega arith) (omega arith)
    (one-more bytes (at + 2) (at + 3) 5 _ (omega arith) (omega arith) (one-more bytes (at + 3) (at + 4) 4 _ (omega arith) (omega arith)
    (one-more bytes (at + 4) (at + 5) 3 _ (omega arith) (omega arith) (one-more bytes (at + 5) (at + 6) 2 _ (omega arith) (omega arith)
    (one-more bytes (at + 6) (at + 7) 1 _ (omega arith) (omega arith) (one-more bytes (at + 7) (at + 8) 0 [] (omega arith) (omega arith) refl)))))))

part-fits : (bytes : List ℕ) (at n : ℕ) → ((k : ℕ) → get_or bytes k 0 < 2 ^ 8) → (i : ℕ) → get_or (take n (drop at bytes)) i 0 < 2 ^ 8
part-fits bytes at n h i = elim (cases_lt i n) [
  | inl l ↦ rw (get_or-take n (drop at bytes) i 0 l, get_or-drop at bytes i 0) (h (at + i))
  | inr ge ↦ rw (get_or-eq_default (take n (drop at bytes)) 0 {n = i} (omega (arith, length-take n (drop at bytes)))) (omega arith)
]

pub four-at : (bytes : List ℕ) (at number : ℕ) → at + 4 ≤ length bytes → ((k : ℕ) → get_or bytes k 0 < 2 ^ 8)
    → number ≡ from_le_bytes w32 (get_or bytes at 0 ∷ get_or bytes (at + 1) 0 ∷ get_or bytes (at + 2) 0 ∷ get_or bytes (at + 3) 0 ∷ [])
    → four_bytes number ≡ take 4 (drop at bytes)
unfolding four_bytes
four-at bytes at number h fits e =
    le_bytes_4 (take 4 (drop at bytes)) number (omega (arith, length-take 4 (drop at bytes), length-drop at bytes)) (part-fits bytes at 4 fits)
    (e ∙ ap (λ s. from_le_bytes w32 s) (sym (four-read bytes at h)))

pub eight-at : (bytes : List ℕ) (at number : ℕ) → at + 8 ≤ length bytes → ((k : ℕ) → get_or bytes k 0 < 2 ^ 8)
    → number ≡ from_le_bytes w64 (get_or bytes at 0 ∷ get_or bytes (at + 1) 0 ∷ get_or bytes (at + 2) 0 ∷ get_or bytes (at + 3) 0
    ∷ get_or bytes (at + 4) 0 ∷ get_or bytes (at + 5) 0 ∷ get_or bytes (at + 6) 0 ∷ get_or bytes (at + 7) 0 ∷ [])
    → eight_bytes number ≡ take 8 (drop at bytes)
unfolding eight_bytes
eight-at bytes at number h fits e =
    le_bytes_8 (take 8 (drop at bytes)) number (omega (arith, length-take 8 (drop at bytes), length-drop at bytes)) (part-fits bytes at 8 fits)
    (e ∙ ap (λ s. from_le_bytes w64 s) (sym (eight-read bytes at h)))
