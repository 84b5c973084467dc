-- The rows of a session, place by place.
use Rattle.std.proofs.Common.{◌≡◌, ℕ, suc, ◌+◌, ◌-◌, ◌*◌, ◌<◌, ◌≤◌, Bool, true, false, if◌then◌else◌, pos, List, [], ◌∷◌, ◌++◌, length, map, drop, get_or, drop-cons, sym, ◌∙◌, ap, arith}
use Rattle.std.specs.Prelude.{filter}
use Rattle.std.proofs.lemmas.List.{drop_all}
use Rattle.std.proofs.lemmas.Grind.{flat_map-append}
use Rattle.pl_spec.specs.declared.Format.{Format}
use Rattle.pl_spec.specs.World.{World, exists}
use Rattle.pl_pipeline.specs.Table.{Pipeline, Row, is_kept, table_row, session_rows}
use Rattle.pl_pipeline.specs.Text.{header, row_line, text}
use Rattle.pl_spec.proofs.Lists.{filter-twice}
use Rattle.pl_values.specs.Arrays.{HasAll}
use Rattle.pl_table.specs.Outcomes.{lines, rows_of_sessions}
use Rattle.pl_table.specs.Rows.{has_row}

-- the rows of some sids
abbrev pub rows_of : World → Pipeline → ℕ → List ℕ → List Row
rows_of w p s sids = map (table_row w p (pos s)) (filter (has_row w p s) sids)

pub rows_of_session : (w : World) (p : Pipeline) (sids : List ℕ) (s : ℕ) → HasAll w sids s → rows_of w p s sids ≡ session_rows w p (pos s)
rows_of_session w p sids s all =
    sym (ap (λ (l : List ℕ). map (table_row w p (pos s)) (filter (is_kept w p p.screen (pos s)) l)) all
    ∙ ap (map (table_row w p (pos s))) (filter-twice (is_kept w p p.screen (pos s)) (λ b. exists w b (pos s)) sids))

drop-from : (xs : List ℕ) (i : ℕ) → i < length xs → drop i xs ≡ get_or xs i 0 ∷ drop (i + 1) xs
drop-from xs i h = let e : suc i ≡ i + 1 = omega arith in drop-cons xs i 0 h ∙ ap (λ (n : ℕ). get_or xs i 0 ∷ drop n xs) e

-- the rows of the places from i on: one for place i, or none, and then those of the further places
pub rows_with : (w : World) (p : Pipeline) (s : ℕ) (sids : List ℕ) (i : ℕ) → i < length sids → has_row w p s (get_or sids i 0) ≡ true
    → rows_of w p s (drop i sids) ≡ table_row w p (pos s) (get_or sids i 0) ∷ rows_of w p s (drop (i + 1) sids)
rows_with w p s sids i h t =
    ap (rows_of w p s) (drop-from sids i h)
    ∙ ap (λ (b : Bool). map (table_row w p (pos s)) (if b then get_or sids i 0 ∷ filter (has_row w p s) (drop (i + 1) sids) else filter (has_row w p s) (drop (i + 1) sids))) t

pub rows_without : (w : World) (p : Pipeline) (s : ℕ) (sids : List ℕ) (i : ℕ) → i < length sids → has_row w p s (get_or sids i 0) ≡ false
    → rows_of w p s (drop i sids) ≡ rows_of w p s (drop (i + 1) sids)
rows_without w p s sids i h t =
    ap (rows_of w p s) (drop-from sids i h)
    ∙ ap (λ (b : Bool). map (table_row w p (pos s)) (if b then get_or sids i 0 ∷ filter (has_row w p s) (drop (i + 1) sids) else filter (has_row w p s) (drop (i + 1) sids))) t

pub rows_end : (w : World) (p : Pipeline) (s : ℕ) (sids : List ℕ) (i : ℕ) → length sids ≤ i → rows_of w p s (drop i sids) ≡ []
rows_end w p s sids i h = ap (rows_of w p s) (drop_all i sids h)

-- the lines of rows
pub lines-append : (w : World) (p : Pipeline) (format : Format) (a b : List Row) → lines w p format (a ++ b) ≡ lines w p format a ++ lines w p format b
lines-append w p format a b = flat_map-append (row_line w p format) a b

-- the text of a table is its header and its lines
pub text-is : (w : World) (p : Pipeline) (format : Format) (rows : List Row) (head : List ℕ) → head ≡ header p format → text w p format rows ≡ head ++ lines w p format rows
unfolding text
text-is w p format rows head is = ap (λ (h : List ℕ). h ++ lines w p format rows) (sym is)

-- ---- sessions

-- the rows of the sessions from s on: those of s, and then those of later ones
pub sessions-next : (w : World) (p : Pipeline) (s to : ℕ) → s ≤ to → rows_of_sessions w p s (to + 1 - s) ≡ session_rows w p (pos s) ++ rows_of_sessions w p (s + 1) (to + 1 - (s + 1))
sessions-next w p s to h = let e : to + 1 - s ≡ suc (to + 1 - (s + 1)) = omega arith in ap (rows_of_sessions w p s) e

pub sessions-end : (w : World) (p : Pipeline) (s to : ℕ) → to < s → rows_of_sessions w p s (to + 1 - s) ≡ []
sessions-end w p s to h = let e : to + 1 - s ≡ 0 = omega arith in ap (rows_of_sessions w p s) e

pub times-more : (n m : ℕ) → (n + 1) * m ≡ n * m + m
times-more n m = omega arith
