-- A divided range.
use Rattle.std.proofs.Common.{◌≡◌, ℕ, zero, suc, ◌+◌, ◌-◌, ◌<◌, ◌==◌, Bool, true, false, if◌then◌else◌, pos, List, [], ◌∷◌, ◌++◌, map, refl, sym, ap, ◌∙◌, arith, append_assoc}
use Rattle.std.proofs.lemmas.Bool.Decides.{nat_tests}
use Rattle.pl_spec.specs.declared.Column.{Column}
use Rattle.pl_spec.specs.Window.{bar_window}
use Rattle.pl_spec.specs.World.{World, living_sids}
use Rattle.pl_windows.specs.Windows.{is_anew, is_whole, rows_on, session_rows, window_row, window_rows}
use Rattle.pl_windows.specs.Laws.{RangesDivide, whole_row}
use Rattle.pl_windows.proofs.SessionLines.{rows-add}

map-same : {X Y : Type 0} (f g : X → Y) (xs : List X) → ((x : X) → f x ≡ g x) → map f xs ≡ map g xs
map-same f g [] same = refl
map-same f g (x ∷ xs) same = ap (λ y. y ∷ map f xs) (same x) ∙ ap (λ l. g x ∷ l) (map-same f g xs same)

-- on the first session of a range all windows are whole
first-whole : (w : World) (d a : ℕ) → is_whole w d a d ≡ true
unfolding is_whole
first-whole w d a = let same : (d == d) ≡ true = grind (arith, nat_tests) in rw same refl

first-rows : (w : World) (c : Column) (size d : ℕ) → session_rows w c size d d ≡ map (whole_row w c size d) (living_sids w (pos d))
first-rows w c size d =
    map-same (window_row w c size d d) (whole_row w c size d) (living_sids w (pos d))
    (λ a. ap (λ (b : Bool). record { session = d; sid = a; cells = bar_window w c (if b then size else 1) a (pos d) }) (first-whole w d a))

-- on a later one it counts only what is new
later-whole : (w : World) (from d a : ℕ) → from < d → is_whole w from a d ≡ is_anew w a (pos d)
unfolding is_whole
later-whole w from d a late = let apart : (d == from) ≡ false = grind (arith, nat_tests) in rw apart refl

later-rows : (w : World) (c : Column) (size from other d : ℕ) → from < d → other < d → session_rows w c size from d ≡ session_rows w c size other d
later-rows w c size from other d late too =
    map-same (window_row w c size from d) (window_row w c size other d) (living_sids w (pos d))
    (λ a. ap (λ (b : Bool). record { session = d; sid = a; cells = bar_window w c (if b then size else 1) a (pos d) }) (later-whole w from d a late ∙ sym (later-whole w other d a too)))

rows-later : (w : World) (c : Column) (size from other d n : ℕ) → from < d → other < d → rows_on w c size from d n ≡ rows_on w c size other d n
rows-later w c size from other d zero late too = refl
rows-later w c size from other d (suc n) late too =
    ap (λ l. l ++ rows_on w c size from (d + 1) n) (later-rows w c size from other d late too)
    ∙ ap (λ l. session_rows w c size other d ++ l) (rows-later w c size from other (d + 1) n (omega arith) (omega arith))

rows-first : (w : World) (c : Column) (size from d n k : ℕ) → k ≡ suc n → rows_on w c size from d k ≡ session_rows w c size from d ++ rows_on w c size from (suc d) n
rows-first w c size from d n k e =
    let next : d + 1 ≡ suc d = omega arith in
    ap (rows_on w c size from d) e ∙ ap (λ s. session_rows w c size from d ++ rows_on w c size from s n) next

pub divided : RangesDivide
divided w c size from mid to h l =
    let count : suc to - from ≡ (suc mid - from) + (suc to - suc mid) = omega arith in
    let place : from + (suc mid - from) ≡ suc mid = omega arith in
    let rest : suc to - suc mid ≡ suc (to - suc mid) = omega arith in
    record {
      whole =
          ap (rows_on w c size from from) count
          ∙ rows-add w c size from from (suc mid - from) (suc to - suc mid)
          ∙ ap (λ s. window_rows w c size from mid ++ rows_on w c size from s (suc to - suc mid)) place
          ∙ ap (λ l. window_rows w c size from mid ++ l) (rows-first w c size from (suc mid) (to - suc mid) (suc to - suc mid) rest)
          ∙ sym (append_assoc (window_rows w c size from mid) (session_rows w c size from (suc mid)) (rows_on w c size from (suc (suc mid)) (to - suc mid)));
      part =
          rows-first w c size (suc mid) (suc mid) (to - suc mid) (suc to - suc mid) rest
          ∙ ap (λ l. l ++ rows_on w c size (suc mid) (suc (suc mid)) (to - suc mid)) (first-rows w c size (suc mid))
          ∙ ap (λ l. map (whole_row w c size (suc mid)) (living_sids w (pos (suc mid))) ++ l) (rows-later w c size (suc mid) from (suc (suc mid)) (to - suc mid) (omega arith) (omega arith));
    }
