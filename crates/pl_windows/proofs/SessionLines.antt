-- The lines of a session, asset by asset, and of a range, session by session.
use Rattle.std.proofs.Common.{◌≡◌, ℕ, suc, ◌+◌, ◌-◌, ◌<◌, ◌≤◌, Bool, true, false, if◌then◌else◌, pos, List, [], ◌∷◌, ◌++◌, length, map, drop, get_or, drop-cons, refl, sym, ◌∙◌, ap, subst, arith}
use Rattle.std.specs.Prelude.{filter, flat_map}
use Rattle.std.specs.List.{range_with_len}
use Rattle.std.proofs.lemmas.List.{append-nil, drop_all}
use Rattle.std.proofs.lemmas.List.FromFn.{get_or-map-range_with_len, length-map-range_with_len}
use Rattle.std.proofs.lemmas.Grind.{flat_map-append}
use Rattle.pl_spec.specs.declared.Column.{Column}
use Rattle.pl_spec.specs.Parts.{sid_at}
use Rattle.pl_spec.specs.World.{World, exists, living_sids}
use Rattle.pl_spec.proofs.Columns.{sids-all}
use Rattle.pl_spec.proofs.Ranges.{range-split}
use Rattle.pl_world.proofs.Sections.{all_there}
use Rattle.pl_windows.specs.declared.asked.Asked.{Asked}
use Rattle.pl_windows.specs.Windows.{WindowRow, header, lines, rows_on, row_line, session_rows, window_row, windows_text}
use Rattle.pl_windows.specs.Ranges.{IsAsked, asked_line, asked_lines, asked_text, asked_world, line_there}

-- the sids of all columns
abbrev pub asked_sids : Asked → List ℕ
asked_sids a = map (sid_at a.world.assets.now) (range_with_len 0 (length a.world.assets.now))

-- the lines of those of some sids that exist
abbrev pub lines_of : Asked → ℕ → List ℕ → List ℕ
lines_of a s sids =
    lines (asked_world a) (map (window_row (asked_world a) a.column a.window a.from s) (filter (λ x. exists (asked_world a) x (pos s)) sids))

pub sids-long : (a : Asked) → length (asked_sids a) ≡ length a.world.assets.now
sids-long a = length-map-range_with_len (sid_at a.world.assets.now) 0 (length a.world.assets.now)

pub sid-is : (a : Asked) (i : ℕ) → i < length a.world.assets.now → get_or (asked_sids a) i 0 ≡ sid_at a.world.assets.now i
sid-is a i h = get_or-map-range_with_len (sid_at a.world.assets.now) 0 (length a.world.assets.now) i i 0 h (omega arith)

drop-from : (xs : List ℕ) (i : ℕ) → i < length xs → drop i xs ≡ get_or xs i 0 ∷ drop (i + 1) xs
drop-from xs i h = let e : suc i ≡ i + 1 = omega arith in drop-cons xs i 0 h ∙ ap (λ (n : ℕ). get_or xs i 0 ∷ drop n xs) e

module _ (a : Asked) (s i : ℕ) (inside : i < length a.world.assets.now) where
  abbrev sids : List ℕ
  sids = asked_sids a

  within : i < length sids
  within = let l = sids-long a in omega (arith, l, inside)

  by-test : (b : Bool) → exists (asked_world a) (sid_at a.world.assets.now i) (pos s) ≡ b
      → lines_of a s (drop i sids) ≡ lines (asked_world a) (map (window_row (asked_world a) a.column a.window a.from s)
      (if b then sid_at a.world.assets.now i ∷ filter (λ x. exists (asked_world a) x (pos s)) (drop (i + 1) sids) else filter (λ x. exists (asked_world a) x (pos s)) (drop (i + 1) sids)))
  by-test b t =
      ap (lines_of a s) (drop-from sids i within)
      ∙ ap (λ x. lines_of a s (x ∷ drop (i + 1) sids)) (sid-is a i inside)
      ∙ ap (λ (c : Bool). lines (asked_world a) (map (window_row (asked_world a) a.column a.window a.from s)
      (if c then sid_at a.world.assets.now i ∷ filter (λ x. exists (asked_world a) x (pos s)) (drop (i + 1) sids) else filter (λ x. exists (asked_world a) x (pos s)) (drop (i + 1) sids)))) t

  -- those of the columns from i on: that of column i, where there is one, and then those of the further columns
  pub lines-next : lines_of a s (drop i sids) ≡ line_there a s (sid_at a.world.assets.now i) ++ lines_of a s (drop (i + 1) sids)
  lines-next = by-test (exists (asked_world a) (sid_at a.world.assets.now i) (pos s)) refl ∙ apart (exists (asked_world a) (sid_at a.world.assets.now i) (pos s))
    where
      apart : (b : Bool) → lines (asked_world a) (map (window_row (asked_world a) a.column a.window a.from s)
          (if b then sid_at a.world.assets.now i ∷ filter (λ x. exists (asked_world a) x (pos s)) (drop (i + 1) sids) else filter (λ x. exists (asked_world a) x (pos s)) (drop (i + 1) sids)))
          ≡ (if b then asked_line a s (sid_at a.world.assets.now i) else []) ++ lines_of a s (drop (i + 1) sids)
      apart true = refl
      apart false = refl

pub lines-end : (a : Asked) (s i : ℕ) → length a.world.assets.now ≤ i → lines_of a s (drop i (asked_sids a)) ≡ []
lines-end a s i h = let l = sids-long a in ap (lines_of a s) (drop_all i (asked_sids a) (omega (arith, l, h)))

-- all of them are those of the session
pub lines-all : (a : Asked) → IsAsked a → (s : ℕ) → lines_of a s (asked_sids a) ≡ asked_lines a s 1
lines-all a made s =
    let there : living_sids (asked_world a) (pos s) ≡ filter (λ x. exists (asked_world a) x (pos s)) (asked_sids a)
    = subst (λ (l : List ℕ). living_sids (asked_world a) (pos s) ≡ filter (λ x. exists (asked_world a) x (pos s)) l) (sids-all a.world.assets.now) (all_there (asked_world a) s made.parts.parts.sids_ascend) in
    let rows = session_rows (asked_world a) a.column a.window a.from s in
    ap (λ (l : List ℕ). lines (asked_world a) (map (window_row (asked_world a) a.column a.window a.from s) l)) (sym there)
    ∙ ap (lines (asked_world a)) (sym (append-nil rows))

-- ---- sessions

lines-append : (w : World) (xs ys : List WindowRow) → lines w (xs ++ ys) ≡ lines w xs ++ lines w ys
lines-append w xs ys = flat_map-append (row_line w) xs ys

-- the rows of m sessions and of n more
pub rows-add : (w : World) (c : Column) (size from d m n : ℕ) → rows_on w c size from d (m + n) ≡ rows_on w c size from d m ++ rows_on w c size from (d + m) n
rows-add w c size from d m n =
    ap (flat_map (session_rows w c size from)) (range-split d m n)
    ∙ flat_map-append (session_rows w c size from) (range_with_len d m) (range_with_len (d + m) n)

pub lines-add : (a : Asked) (d m n : ℕ) → asked_lines a d (m + n) ≡ asked_lines a d m ++ asked_lines a (d + m) n
lines-add a d m n =
    ap (lines (asked_world a)) (rows-add (asked_world a) a.column a.window a.from d m n)
    ∙ lines-append (asked_world a) (rows_on (asked_world a) a.column a.window a.from d m) (rows_on (asked_world a) a.column a.window a.from (d + m) n)

-- the lines of the sessions from s on: those of s, and then those of later ones
pub lines-next-session : (a : Asked) (s last : ℕ) → s ≤ last → asked_lines a s (last + 1 - s) ≡ asked_lines a s 1 ++ asked_lines a (s + 1) (last + 1 - (s + 1))
lines-next-session a s last h = let e : last + 1 - s ≡ 1 + (last + 1 - (s + 1)) = omega (arith, h) in ap (asked_lines a s) e ∙ lines-add a s 1 (last + 1 - (s + 1))

-- those of a chunk, and then those behind it
pub lines-next-chunk : (a : Asked) (s last to : ℕ) → s ≤ last → last ≤ to → asked_lines a s (to + 1 - s) ≡ asked_lines a s (last + 1 - s) ++ asked_lines a (last + 1) (to + 1 - (last + 1))
lines-next-chunk a s last to h l =
    let e : to + 1 - s ≡ (last + 1 - s) + (to + 1 - (last + 1)) = omega (arith, h, l) in
    let place : s + (last + 1 - s) ≡ last + 1 = omega (arith, h) in
    ap (asked_lines a s) e ∙ lines-add a s (last + 1 - s) (to + 1 - (last + 1)) ∙ ap (λ k. asked_lines a s (last + 1 - s) ++ asked_lines a k (to + 1 - (last + 1))) place

pub lines-no-session : (a : Asked) (s last : ℕ) → last < s → asked_lines a s (last + 1 - s) ≡ []
lines-no-session a s last h = let e : last + 1 - s ≡ 0 = omega (arith, h) in ap (asked_lines a s) e

-- the text: the header, and the lines of all sessions
pub text-is : (a : Asked) → asked_text a ≡ header ++ asked_lines a a.from (a.to + 1 - a.from)
unfolding windows_text
text-is a =
    let e : suc a.to - a.from ≡ a.to + 1 - a.from = omega arith in
    ap (λ n. header ++ asked_lines a a.from n) e
