-- Used terms stand in the graph, and the sid of a column is known.
use Rattle.std.proofs.Common.{◌≡◌, ℕ, ◌≤◌, false, List, length, get_or, Option, Some, None, sym, ◌∙◌, arith, ◌==◌, inl, inr, IfSome, IfNone}
use Rattle.std.specs.List.{list_any, position}
use Rattle.std.proofs.lemmas.Bool.{eqb-true, cases_Bool}
use Rattle.std.proofs.lemmas.List.Folds.{list_any_at}
use Rattle.pl_spec.specs.declared.AssetRow.{AssetRow}
use Rattle.pl_pipeline.specs.Table.{Pipeline}
use Rattle.pl_terms.specs.Uses.{is_used}
use Rattle.pl_terms.proofs.Graphs.{used-within}
use Rattle.pl_world.specs.declared.world.World.{World}
use Rattle.pl_world.specs.Worlds.{world_of}
use Rattle.pl_derivation.specs.Right.{has_sid}
use Rattle.pl_spec.proofs.Columns.{no_asset, sid-there}
use Rattle.pl_derivation.proofs.Finding.{place_found, is_place}
use Rattle.pl_explain.specs.Judging.{IsPlace}

pub past-unused : (p : Pipeline) (t : ℕ) → length p.graph ≤ t → is_used p t ≡ false
past-unused p t l = elim (cases_Bool (is_used p t)) [
  | inl h ↦ (let w = used-within p t h in absurd (omega (arith, l, w)))
  | inr h ↦ h
]

pub nowhere-unknown : (assets : List AssetRow) (sid : ℕ) → position (λ a. a.sid == sid) assets ≡ None → list_any (λ (a : AssetRow). a.sid == sid) assets ≡ false
nowhere-unknown assets sid e = elim (cases_Bool (list_any (λ (a : AssetRow). a.sid == sid) assets)) [
  | inl h ↦ absurd (let bad = sym e ∙ is_place (λ (a : AssetRow). a.sid == sid) assets h in cc)
  | inr h ↦ h
]

-- the column that a search for a sid finds
pub found-place : (w : World) (sid : ℕ) (o : Option ℕ) → o ≡ position (λ a. a.sid == sid) w.assets.now → IfSome o (IsPlace w sid)
found-place w sid None e = tt
found-place w sid (Some i) e =
    let found = place_found (λ (a : AssetRow). a.sid == sid) w.assets.now i no_asset (sym e) in
    record {
      within = found.0;
      sid_is = sid-there w.assets.now i found.0 ∙ eqb-true (get_or w.assets.now i no_asset).sid sid found.1;
      known = list_any_at (λ (a : AssetRow). a.sid == sid) w.assets.now i no_asset found.0 found.1;
    }

pub found-nowhere : (w : World) (sid : ℕ) (o : Option ℕ) → o ≡ position (λ a. a.sid == sid) w.assets.now → IfNone o (has_sid (world_of w) sid ≡ false)
found-nowhere w sid None e = nowhere-unknown w.assets.now sid (sym e)
found-nowhere w sid (Some i) e = tt
