-- Windows over values that move with the bars.
use Rattle.std.specs.Prelude.{◌≡◌, pos, refl, [], ◌∷◌}
use Rattle.pl_spec.specs.declared.Column.TheVariants.{Close}
use Rattle.pl_pipeline.specs.declared.WindowKind.TheVariants as kind
use Rattle.pl_pipeline.specs.Value.Value.{Number}
use Rattle.pl_laws.proofs.Worked.Worlds.{opened, units, split, window, at_close, latest, by_session}

-- on 2024-01-04, from the split on, of 50 and 51, and then of 51 and 51: not of 100 and 51
mean_of_latest_is_of_halved_closes :
    by_session split (window kind.SimpleMovingAverage 2 (latest Close ∷ [])) (2 ∷ 3 ∷ []) ≡ Number (pos 50500000) ∷ Number (units 51) ∷ []
unfolding opened
mean_of_latest_is_of_halved_closes = refl

-- on 2024-01-05 of the mean of 50 and 51 and that of 51 and 51
mean_of_means :
    by_session split (window kind.SimpleMovingAverage 2 (at_close kind.SimpleMovingAverage 2 ∷ [])) (3 ∷ []) ≡ Number (pos 50750000) ∷ []
unfolding opened
mean_of_means = refl

-- changes keep the values of their own sessions: 2 % from 100 to 102, and none from 51 to 51
mean_of_changes :
    by_session split (window kind.WindowSum 2 (at_close kind.Returns 2 ∷ [])) (3 ∷ []) ≡ Number (pos 20000) ∷ []
unfolding opened
mean_of_changes = refl
