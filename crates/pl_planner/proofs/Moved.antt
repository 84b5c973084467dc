-- Sessions that are read by the calendar stay in it, or before it.
use Rattle.std.proofs.Common.{◌≡◌, ℤ, pos, negsuc, ◌<ℤ◌, ◌≤ℤ◌, List, Option, Some, None, option_map, unwrap_or, refl, arith, slice_get}
use Rattle.std.proofs.lemmas.Int.{ints}
use Rattle.pl_spec.specs.declared.Frequency.{Frequency}
use Rattle.pl_spec.specs.Periods.{first_session, period_start}
use Rattle.pl_pipeline.specs.Kind.{Kind}
use Rattle.pl_pipeline.specs.Kind.Kind.{Downsample}
use Rattle.pl_pipeline.specs.Graph.{reads_at}

start-in : (f : Frequency) (days : List ℤ) (d : ℤ) → pos 0 ≤ℤ d → pos 0 ≤ℤ period_start f days d
unfolding period_start
start-in f days (negsuc d) h = absurd (omega (arith, ints))
start-in f days (pos d) h = here (slice_get days d)
  where
    here : (o : Option ℤ) → pos 0 ≤ℤ unwrap_or (option_map (λ day. pos (first_session f days day)) o) (pos d)
    here None = omega (arith, ints)
    here (Some day) = omega (arith, ints)

start-before : (f : Frequency) (days : List ℤ) (d : ℤ) → d <ℤ pos 0 → period_start f days d ≡ d
unfolding period_start
start-before f days (negsuc d) h = refl
start-before f days (pos d) h = absurd (omega (arith, ints))

-- what holds of a session, and of the first one of its period, holds of the one that is read
still : (P : ℤ → Type 0) (days : List ℤ) (k : Kind) (d : ℤ) → P d → ((f : Frequency) → P (period_start f days d)) → P (reads_at days k d)
still P days (Downsample f) d h s = s f
still P days k d h s = h

pub late-still : (days : List ℤ) (k : Kind) (d : ℤ) → pos 0 ≤ℤ d → pos 0 ≤ℤ reads_at days k d
late-still days k d h = still (λ s. pos 0 ≤ℤ s) days k d h (λ f. start-in f days d h)

pub early-still : (days : List ℤ) (k : Kind) (d : ℤ) → d <ℤ pos 0 → reads_at days k d ≡ d
early-still days k d h = still (λ s. s ≡ d) days k d refl (λ f. start-before f days d h)
