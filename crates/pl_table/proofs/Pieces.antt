-- Pieces one after the other.
use Rattle.std.proofs.Common.{◌≡◌, ℕ, List, [], ◌++◌, refl, append_assoc, append-nil}

pub pieces-are : (a r b s c t d u e v h w f last : List ℕ) → h ++ w ≡ last
    → a ++ (r ++ (b ++ (s ++ (c ++ (t ++ (d ++ (u ++ (e ++ (v ++ (h ++ (w ++ (f ++ []))))))))))))
    ≡ ((((((((((a ++ r) ++ b) ++ s) ++ c) ++ t) ++ d) ++ u) ++ e) ++ v) ++ last) ++ f
pieces-are a r b s c t d u e v h w f last same = rw (← same) (simp (append_assoc, append-nil) refl)

pub numbers-are : (a r b s c t d u f : List ℕ)
    → a ++ (r ++ (b ++ (s ++ (c ++ (t ++ (d ++ (u ++ (f ++ [])))))))) ≡ (((((((a ++ r) ++ b) ++ s) ++ c) ++ t) ++ d) ++ u) ++ f
numbers-are a r b s c t d u f = simp (append_assoc, append-nil) refl
