-- Where the columns begin and end.
use Rattle.std.proofs.Common.{◌≡◌, ℕ, ◌+◌, List, [], ◌∷◌, ◌++◌, length, subst, sym, arith, inl, inr, length-append}
use Rattle.std.proofs.lemmas.Bool.{cases_lt}
use Rattle.std.proofs.lemmas.List.{get_or_append_left, get_or_push}
use Rattle.pl_adjust.specs.Columns.{AreStarts, IsStart}

pub one_start_more : (cols starts : List ℕ) (n col : ℕ) → length starts ≡ col → AreStarts cols starts → IsStart cols col n → AreStarts cols (starts ++ n ∷ [])
one_start_more cols starts n col long so_far start k h =
    let longer : length (starts ++ n ∷ []) ≡ length starts + 1 = length-append starts (n ∷ []) in
    elim (cases_lt k col) [
      | inl p ↦ subst (IsStart cols k) (sym (get_or_append_left starts (n ∷ []) 0 k (omega arith))) (so_far k (omega arith))
      | inr p ↦ (let same : col ≡ k = omega arith in subst (IsStart cols k) (sym (get_or_push starts n 0 k (omega arith))) (subst (λ c. IsStart cols c n) same start))
    ]
