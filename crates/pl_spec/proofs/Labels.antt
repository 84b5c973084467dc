-- Labels of worlds with the same label rows.
use Rattle.std.proofs.Common.{◌≡◌, ℕ, ℤ, List, ◌∙◌, ap, filter, option_and_then}
use Rattle.pl_spec.specs.World.{World, day_of, label_at, is_label_of, last_started, nonempty}

-- worlds of the same label rows have the same labels on a session whose day is the same
pub labels-of_days : (w v : World) → w.labels ≡ v.labels → (name : List ℕ) (a : ℕ) (s : ℤ) → day_of w s ≡ day_of v s → label_at w name a s ≡ label_at v name a s
labels-of_days w v rows name a s days =
    ap (λ ls. option_and_then (λ day. option_and_then (λ r. nonempty r.text) (last_started (filter (is_label_of name a day) ls))) (day_of w s)) rows
    ∙ ap (λ o. option_and_then (λ day. option_and_then (λ r. nonempty r.text) (last_started (filter (is_label_of name a day) v.labels))) o) days
