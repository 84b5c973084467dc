-- A list of bytes that grows by the bytes of one element after the other.
use Rattle.std.proofs.Common.{◌≡◌, ℕ, List, ◌++◌, sym, ap, ◌∙◌, append_assoc}

pub push-more : (old new piece left before whole : List ℕ) → new ≡ old ++ piece → before ≡ piece ++ left → old ++ before ≡ whole → new ++ left ≡ whole
push-more old new piece left before whole is next was =
    ap (λ s. s ++ left) is ∙ append_assoc old piece left ∙ ap (λ s. old ++ s) (sym next) ∙ was
