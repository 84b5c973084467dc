-- The cell of a row for all assets.
use Rattle.std.proofs.Common.{◌≡◌, ℕ, ◌<◌, ℤ, List, map, length, get_or, sym, ap, ◌∙◌}
use Rattle.std.proofs.lemmas.List.{get_or-map, length-map}
use Rattle.pl_spec.specs.declared.AssetRow.{AssetRow}
use Rattle.pl_spec.specs.Parts.{sid_at}
use Rattle.pl_spec.proofs.Columns.{no_asset, sid-there}

pub row-cell : (f : ℕ → ℤ) (assets : List AssetRow) (row : List ℤ) (i : ℕ) (d : ℤ) → row ≡ map (λ b. f b.sid) assets → i < length assets → get_or row i d ≡ f (sid_at assets i)
row-cell f assets row i d e h = ap (λ r. get_or r i d) e ∙ get_or-map (λ (b : AssetRow). f b.sid) assets i no_asset d h ∙ ap f (sym (sid-there assets i h))

pub row-long : (f : ℕ → ℤ) (assets : List AssetRow) (row : List ℤ) → row ≡ map (λ b. f b.sid) assets → length row ≡ length assets
row-long f assets row e = ap (λ (r : List ℤ). length r) e ∙ length-map assets (λ (b : AssetRow). f b.sid)
