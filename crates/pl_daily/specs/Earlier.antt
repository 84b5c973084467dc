-- Earlier cells of a term, as they are seen on the day.
use Rattle.std.specs.Prelude.{◌≡◌, ℕ, ◌<◌, ◌≤◌, ◌-◌, Bool, true, ℤ, pos, List, length, map, get_or, Option, Some, None, slice_get, if◌then◌else◌, nat_lt}
use Rattle.pl_pipeline.specs.Table.{Pipeline}
use Rattle.pl_pipeline.specs.Value.{From}
use Rattle.pl_spec.specs.Cells.{is_true}
use Rattle.pl_spec.specs.Window.{downward}
use Rattle.pl_spec.specs.World.{World, exists}
use Rattle.pl_cross.specs.Arrays.{sid_in}
use Rattle.pl_values.specs.Arrays.{cell_of, chosen, empty_cell, is_kept}
use Rattle.pl_values.specs.Views.{seen_of, operand_seen}
use Rattle.pl_daily.specs.declared.term_day.TermDay.{TermDay}
use Rattle.pl_daily.specs.Rows.{capacity_of, lives_at}
use Rattle.pl_daily.specs.TermDays.{Moment, IsTermDay, HoldsRings, HoldsWindows, assets_at, cell_on, earlier_cell, node_at, pipeline_at, sids_at}

-- the one that is so many before the last
abbrev pub nth_back : {X : Type 0} → ℕ → List X → Option X
nth_back n xs = if nat_lt n (length xs) then slice_get xs (length xs - n - 1) else None

-- What the term reads for the session that is so many before the day, of which there are so many before it, is
-- held: where there is such a session, the windows that end there; the mask's cell; and the session's day.
pub record IsHeldBack (t : TermDay) (v : Moment) (fed after : ℕ) : Type 0 where
  pub session : v.session ≡ fed
  pub windows : after ≤ fed → HoldsWindows t v after
  pub mask : (u : ℕ) → (node_at t).mask ≡ Some u → HoldsRings t v u × (after < capacity_of (slice_get t.terms.now u))
  pub day : after < length t.bars.now.calendar.items
  pub lives : (i : ℕ) (day : ℤ) → after ≤ fed → i < assets_at t → nth_back after t.bars.now.calendar.items ≡ Some day
      → exists v.world (sid_in (sids_at t) i) (pos (v.session - after)) ≡ lives_at t.assets.now day i

-- so it is for the day and the sessions before it, so many in all
abbrev pub IsReadBack : TermDay → Moment → ℕ → ℕ → Type 0
IsReadBack t v fed size = (after : ℕ) → after < size → IsHeldBack t v fed after

-- the asset passes the mask
abbrev pub passes_on : World → Pipeline → List ℕ → Option ℕ → ℕ → ℕ → Bool
passes_on w p sids None i s = true
passes_on w p sids (Some m) i s = is_true (cell_of w p sids m i s)

-- whether it passes the term's, and lives, on the session that is so many before the day
abbrev pub passes_back : TermDay → Moment → ℕ → ℕ → Bool
passes_back t v i after = passes_on v.world (pipeline_at t) (sids_at t) (node_at t).mask i (v.session - after)

abbrev pub lives_back : TermDay → Moment → ℕ → ℕ → Bool
lives_back t v i after = exists v.world (sid_in (sids_at t) i) (pos (v.session - after))

abbrev pub keeps_back : TermDay → Moment → ℕ → ℕ → Bool
keeps_back t v i after = is_kept v.world (pipeline_at t) (sids_at t) (node_at t).mask i (v.session - after)

-- x is what the operand in a place is seen as there
abbrev pub IsSeenOperand : TermDay → Moment → ℕ → ℕ → ℕ → ℤ → Type 0
IsSeenOperand t v place i after x =
    x ≡ operand_seen v.world (pipeline_at t) (sids_at t) (slice_get (node_at t).inputs place) (From (pos v.session)) i (v.session - after)

-- and the term is seen as x there where the asset is kept
abbrev pub IsSeenGiven : TermDay → Moment → ℕ → ℕ → ℤ → Type 0
IsSeenGiven t v i after x =
    seen_of v.world (pipeline_at t) (sids_at t) t.term.0 (From (pos v.session)) i (v.session - after)
    ≡ chosen (keeps_back t v i after) x (empty_cell (pipeline_at t) t.term.0)

-- In every world of which the day is a session, and in which the term reads what is held, the cells become what
-- the term is seen as on the sessions up to the day, where the newest was the term's own.
abbrev pub IsRenewed : TermDay → ℕ → ℕ → List ℤ → List ℤ → Type 0
IsRenewed t fed i old new =
    (v : Moment) → IsTermDay t v → IsReadBack t v fed (length old)
    → (0 < length old → get_or old (length old - 1) (pos 0) ≡ cell_on v.world (pipeline_at t) (sids_at t) t.term.0 i (pos v.session))
    → new ≡ map (earlier_cell t v t.term.0 i) (downward (length old))
