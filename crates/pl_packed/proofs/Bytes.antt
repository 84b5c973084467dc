-- Lists of bytes that are put one behind the other, and taken apart.
use Rattle.std.proofs.Common.{◌≡◌, ℕ, ◌+◌, List, ◌++◌, length, take, drop, sym, ap, ◌∙◌, take-add}
use Rattle.std.proofs.Math.Seq.{take-append_seam, drop-append_seam}
use Rattle.std.proofs.lemmas.List.{drop-drop}

-- fronts of one length are the same, and so is what follows them
pub front-same : (a b x y : List ℕ) → length a ≡ length b → a ++ x ≡ b ++ y → a ≡ b
front-same a b x y l e = sym (take-append_seam a x) ∙ ap (λ s. take (length a) s) e ∙ ap (λ n. take n (b ++ y)) l ∙ take-append_seam b y

pub back-same : (a b x y : List ℕ) → length a ≡ length b → a ++ x ≡ b ++ y → x ≡ y
back-same a b x y l e = sym (drop-append_seam a x) ∙ ap (λ s. drop (length a) s) e ∙ ap (λ n. drop n (b ++ y)) l ∙ drop-append_seam b y

-- the next n bytes and m after them
pub next-more : (at n m : ℕ) (bytes : List ℕ) → take (n + m) (drop at bytes) ≡ take n (drop at bytes) ++ take m (drop (at + n) bytes)
next-more at n m bytes = take-add n m (drop at bytes) ∙ ap (λ s. take n (drop at bytes) ++ take m s) (drop-drop n at bytes)
