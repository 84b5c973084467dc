-- A text somewhere in a label, from a place on.
use Rattle.std.proofs.Common.{◌≡◌, ℕ, ◌+◌, ◌-◌, ◌<◌, ◌≤◌, Bool, true, false, ◌||◌, List, length, take, drop, nat_eq, sym, ap, ◌∙◌, suc, arith}
use Rattle.std.proofs.lemmas.List.{take_all, length-drop}
use Rattle.std.specs.List.{list_any, starts_with, range_with_len}
use Rattle.pl_pipeline.specs.Pointwise.{has_substring}

abbrev stands_at : List ℕ → List ℕ → ℕ → Bool
stands_at text t n = starts_with nat_eq (drop n t) text

-- the label from a place on, as a slice of it
abbrev behind : List ℕ → ℕ → List ℕ
behind t at = take (length t - at) (drop at t)

pub behind-is : (t : List ℕ) (at : ℕ) → behind t at ≡ drop at t
behind-is t at = take_all (length t - at) (drop at t) (omega (arith, length-drop at t))

unfoldable pub stands_from : List ℕ → List ℕ → ℕ → Bool
stands_from text t at = list_any (stands_at text t) (range_with_len at (length t + 1 - at))

pub stands-first : (text t : List ℕ) → has_substring text t ≡ stands_from text t 0
unfolding has_substring stands_from
stands-first text t =
    let all : length t + 1 ≡ length t + 1 - 0 = omega arith in
    ap (λ n. list_any (stands_at text t) (range_with_len 0 n)) all

-- a place that is left, and those behind it
one-more : (text t : List ℕ) (at : ℕ) → at ≤ length t → stands_from text t at ≡ stands_at text t at || stands_from text t (at + 1)
unfolding stands_from
one-more text t at h =
    let one : length t + 1 - at ≡ suc (length t + 1 - (at + 1)) = omega arith in
    ap (λ n. list_any (stands_at text t) (range_with_len at n)) one

pub stands-here : (text t : List ℕ) (at : ℕ) → at ≤ length t → starts_with nat_eq (behind t at) text ≡ true → stands_from text t at ≡ true
stands-here text t at h e = one-more text t at h ∙ ap (λ b. b || stands_from text t (at + 1)) (ap (λ s. starts_with nat_eq s text) (sym (behind-is t at)) ∙ e)

pub stands-later : (text t : List ℕ) (at : ℕ) → at ≤ length t → starts_with nat_eq (behind t at) text ≡ false → stands_from text t at ≡ stands_from text t (at + 1)
stands-later text t at h e = one-more text t at h ∙ ap (λ b. b || stands_from text t (at + 1)) (ap (λ s. starts_with nat_eq s text) (sym (behind-is t at)) ∙ e)

pub stands-nowhere : (text t : List ℕ) (at : ℕ) → length t < at → stands_from text t at ≡ false
unfolding stands_from
stands-nowhere text t at h =
    let none : length t + 1 - at ≡ 0 = omega arith in
    ap (λ n. list_any (stands_at text t) (range_with_len at n)) none
