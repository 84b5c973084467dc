-- The words at the places of a request, read one by one.
use Rattle.std.proofs.Common.{◌≡◌, ◌∙◌, ◌<◌, ◌≤◌, sym, refl, ap, arith, ℕ, Bool, true, false, true≢false, cond, unwrap_or, Result, Ok, Err, MatchResult, is_some, None, List, [], map, length, Option, Some, option_map, slice_index_or, Bor}
use Rattle.std.specs.Result.{result_ok}
use Rattle.std.proofs.lemmas.List.{get_or-map}
use Rattle.pl_words.specs.declared.commands.OptionName.TheVariants.{Labels, Numbers, Results, Adjustments, Revisions}
use Rattle.pl_words.specs.Parts.{Word, one_value}
use Rattle.pl_spec.specs.Decimals.{sid_in}
use Rattle.pl_spec.specs.declared.Column.{Column}
use Rattle.pl_spec.specs.Names.{is_name}
use Rattle.pl_words.specs.Request.Request.{Plan, Bench, Explain, Windows}
use Rattle.pl_words.specs.Request.{Values, Dated, Options, WorldNames, bar_column_in, bars_world_in, dated, name, chunk_by, plan_in, bench_in, column_in, explain_in, table_in, window_in, windows_in, world_in}

abbrev words : List (Bor Word) → List Word
words vs = map (λ v. v.now) vs

word_at : (vs : List (Bor Word)) (i : ℕ) (d : Bor Word) → i < length vs → name (words vs) i ≡ (slice_index_or vs i d).now
word_at vs i d less = get_or-map (λ (v : Bor Word). v.now) vs i d [] less

pub table_read : (vs : List (Bor Word)) (values : Values) (options : Options) (d4 d5 d0 : Bor Word) (from to : Dated) (world : WorldNames)
    → length vs ≡ 6 → dated (slice_index_or vs 4 d4).now ≡ Some from → dated (slice_index_or vs 5 d5).now ≡ Some to → world_in (words vs) values ≡ Some world
    → table_in (words vs) values options ≡ Some (record { pipeline = (slice_index_or vs 0 d0).now; world = world; from = from; to = to; options = options })
table_read vs values options d4 d5 d0 from to world six from_is to_is world_is =
    rw (ap dated (word_at vs 4 d4 (omega arith)) ∙ from_is, ap dated (word_at vs 5 d5 (omega arith)) ∙ to_is, world_is, word_at vs 0 d0 (omega arith)) refl

pub value_read : {E : Type 0} → (r : Result (Option (Bor Word)) E) (got : Option (Bor Word)) (value : Option (Option Word))
    → MatchResult r (λ v. value ≡ Some (option_map (λ s. s.now) v)) (λ e. value ≡ None) → Some got ≡ result_ok r → value ≡ Some (option_map (λ s. s.now) got)
value_read (Ok v) got value is same = is ∙ ap (λ (o : Option (Option (Bor Word))). option_map (λ v. option_map (λ s. s.now) v) o) (sym same)
value_read (Err e) got value is same = absurd (true≢false (ap is_some same))

pub world_read : (vs : List (Bor Word)) (values : Values) (d1 d2 d3 : Bor Word) (labels numbers results adjustments revisions : Option Word) → 4 ≤ length vs
    → one_value (values Labels) ≡ Some labels → one_value (values Numbers) ≡ Some numbers → one_value (values Results) ≡ Some results → one_value (values Adjustments) ≡ Some adjustments → one_value (values Revisions) ≡ Some revisions
    → world_in (words vs) values ≡ Some (record {
      sessions = (slice_index_or vs 1 d1).now;
      assets = (slice_index_or vs 2 d2).now;
      bars = (slice_index_or vs 3 d3).now;
      labels = labels;
      numbers = numbers;
      results = results;
      adjustments = adjustments;
      revisions = revisions;
    })
world_read vs values d1 d2 d3 labels numbers results adjustments revisions four l n s a r =
    rw (l, n, s, a, r, word_at vs 1 d1 (omega arith), word_at vs 2 d2 (omega arith), word_at vs 3 d3 (omega arith)) refl

pub bars_world_read : (vs : List (Bor Word)) (values : Values) (d0 d1 d2 : Bor Word) (adjustments revisions : Option Word) → 3 ≤ length vs
    → one_value (values Adjustments) ≡ Some adjustments → one_value (values Revisions) ≡ Some revisions
    → bars_world_in (words vs) values ≡ Some (record {
      sessions = (slice_index_or vs 0 d0).now;
      assets = (slice_index_or vs 1 d1).now;
      bars = (slice_index_or vs 2 d2).now;
      labels = None;
      numbers = None;
      results = None;
      adjustments = adjustments;
      revisions = revisions;
    })
bars_world_read vs values d0 d1 d2 adjustments revisions three a r =
    rw (a, r, word_at vs 0 d0 (omega arith), word_at vs 1 d1 (omega arith), word_at vs 2 d2 (omega arith)) refl

pub windows_read : (vs : List (Bor Word)) (values : Values) (d3 d4 d5 d6 : Bor Word) (bar : Column) (from to : Dated) (window : ℕ) (world : WorldNames)
    → length vs ≡ 7 → bar_column_in (slice_index_or vs 3 d3).now ≡ Some bar → dated (slice_index_or vs 4 d4).now ≡ Some from → dated (slice_index_or vs 5 d5).now ≡ Some to
    → window_in (slice_index_or vs 6 d6).now ≡ Some window → bars_world_in (words vs) values ≡ Some world
    → option_map Windows (windows_in (words vs) values) ≡ Some (Windows (record { world = world; column = bar; from = from; to = to; window = window }))
windows_read vs values d3 d4 d5 d6 bar from to window world seven bar_is from_is to_is window_is world_is =
    rw (
      ap bar_column_in (word_at vs 3 d3 (omega arith)) ∙ bar_is,
      ap dated (word_at vs 4 d4 (omega arith)) ∙ from_is,
      ap dated (word_at vs 5 d5 (omega arith)) ∙ to_is,
      ap window_in (word_at vs 6 d6 (omega arith)) ∙ window_is,
      world_is,
    ) refl

column_same : (text column : Word) → column_in text ≡ Some column → text ≡ column
column_same text column is = go (is_name text) is
  where
    go : (b : Bool) → cond b (Some text) None ≡ Some column → text ≡ column
    go true e = ap (λ (o : Option Word). unwrap_or o text) e
    go false e = absurd (true≢false (sym (ap is_some e)))

pub cell_read : (vs : List (Bor Word)) (values : Values) (d4 d5 d6 d0 : Bor Word) (sid : ℕ) (date : Dated) (column : Word) (world : WorldNames)
    → length vs ≡ 7 → sid_in (slice_index_or vs 4 d4).now ≡ Some sid → dated (slice_index_or vs 5 d5).now ≡ Some date → column_in (slice_index_or vs 6 d6).now ≡ Some column
    → world_in (words vs) values ≡ Some world
    → option_map Explain (explain_in (words vs) values) ≡ Some (Explain (record { pipeline = (slice_index_or vs 0 d0).now; world = world; sid = sid; date = date; column = column }))
cell_read vs values d4 d5 d6 d0 sid date column world seven sid_is date_is column_is world_is =
    rw (
      ap sid_in (word_at vs 4 d4 (omega arith)) ∙ sid_is,
      ap dated (word_at vs 5 d5 (omega arith)) ∙ date_is,
      ap column_in (word_at vs 6 d6 (omega arith)) ∙ column_is,
      world_is,
      word_at vs 0 d0 (omega arith),
      word_at vs 6 d6 (omega arith) ∙ column_same _ _ column_is,
    ) refl

pub plan_read : (vs : List (Bor Word)) (d2 d3 d0 d1 : Bor Word) (from to : Dated)
    → length vs ≡ 4 → dated (slice_index_or vs 2 d2).now ≡ Some from → dated (slice_index_or vs 3 d3).now ≡ Some to
    → option_map Plan (plan_in (words vs)) ≡ Some (Plan (record { pipeline = (slice_index_or vs 0 d0).now; sessions = (slice_index_or vs 1 d1).now; from = from; to = to }))
plan_read vs d2 d3 d0 d1 from to four from_is to_is =
    rw (ap dated (word_at vs 2 d2 (omega arith)) ∙ from_is, ap dated (word_at vs 3 d3 (omega arith)) ∙ to_is, word_at vs 0 d0 (omega arith), word_at vs 1 d1 (omega arith)) refl

pub bench_read : (vs : List (Bor Word)) (values : Values) (d0 : Bor Word) (number chunk : ℕ)
    → length vs ≡ 1 → sid_in (slice_index_or vs 0 d0).now ≡ Some number → chunk_by values ≡ Some chunk
    → option_map Bench (bench_in (words vs) values) ≡ Some (Bench (record { number = number; chunk = chunk }))
bench_read vs values d0 number chunk one number_is chunk_is =
    rw (ap sid_in (word_at vs 0 d0 (omega arith)) ∙ number_is, chunk_is) refl
