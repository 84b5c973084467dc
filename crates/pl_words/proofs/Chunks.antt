-- What words ask for has a chunk and a window of an allowed length.
use Rattle.std.proofs.Common.{◌≡◌, ◌≤◌, ℕ, Bool, true, false, ◌&&◌, ◌==◌, nat_le, cond, List, [], ◌∷◌, length, Option, Some, None, IfSome, option_map, option_and_then, refl, arith}
use Rattle.std.specs.List.{list_all}
use Rattle.std.proofs.lemmas.Bool.{and_parts}
use Rattle.std.proofs.lemmas.Bool.Decides.{nat_tests}
use Rattle.pl_spec.specs.Limits.{most_chunk, most_window}
use Rattle.pl_spec.specs.Decimals.{sid_in}
use Rattle.pl_words.specs.declared.commands.OptionName.TheVariants as option
use Rattle.pl_words.specs.declared.commands.CommandName.{CommandName}
use Rattle.pl_words.specs.declared.commands.CommandName.TheVariants as command
use Rattle.pl_words.specs.Commands.{command_named, places_of, options_of}
use Rattle.pl_words.specs.Parts.{Word, parts, names_of, values_of, is_text, one_value}
use Rattle.pl_words.specs.Request.{Options, RunRequest, BenchRequest, WindowsRequest, Request, Run, Plan, Bench, Explain, Verify, Daily, Cut, Windows, Values, name, dated, chunk_or, chunk_by, format_by, stats_by, as_of_by, options_by, world_in, table_in, run_in, plan_in, bench_in, explain_in, verify_in, daily_in, cut_in, bar_column_in, bars_world_in, window_in, windows_in, request_in, counted, asked, request, IsChunk, IsWindow, HasChunk}

then : {X Y : Type 0} (P : Y → Type 0) (f : X → Option Y) (o : Option X) → ((x : X) → IfSome (f x) P) → IfSome (option_and_then f o) P
then P f None h = tt
then P f (Some x) h = h x

mapped : {X Y : Type 0} (P : Y → Type 0) (f : X → Y) (o : Option X) → IfSome o (λ x. P (f x)) → IfSome (option_map f o) P
mapped P f None h = tt
mapped P f (Some x) h = h

number : (most n : ℕ) → IfSome (cond (nat_le 1 n && nat_le n most) (Some n) None) (λ n. (1 ≤ n) × (n ≤ most))
number most n = here (nat_le 1 n && nat_le n most) refl
  where
    here : (b : Bool) → (nat_le 1 n && nat_le n most) ≡ b → IfSome (cond b (Some n) None) (λ n. (1 ≤ n) × (n ≤ most))
    here false e = tt
    here true e =
        let r = and_parts (nat_le 1 n) (nat_le n most) e in
        let low = r.0 in
        let high = r.1 in
        (grind (arith, nat_tests), grind (arith, nat_tests))

value : (o : Option Word) → IfSome (chunk_or o) IsChunk
value None = (omega arith, omega arith)
value (Some text) = then IsChunk (λ n. cond (nat_le 1 n && nat_le n most_chunk) (Some n) None) (sid_in text) (number most_chunk)

of-chunk : (values : Values) → IfSome (chunk_by values) IsChunk
of-chunk values = then IsChunk chunk_or (one_value (values option.Chunk)) value

with-chunk : {X Y : Type 0} {Q : X → Type 0} (P : Y → Type 0) (f : X → Option Y) (o : Option X) → IfSome o Q → ((x : X) → Q x → IfSome (f x) P) → IfSome (option_and_then f o) P
with-chunk P f None q h = tt
with-chunk P f (Some x) q h = h x q

any-of : {X Y : Type 0} (P : Y → Type 0) (f : X → Y) (o : Option X) → ((x : X) → P (f x)) → IfSome (option_map f o) P
any-of P f None h = tt
any-of P f (Some x) h = h x

options : (values : Values) → IfSome (options_by values) (λ o. IsChunk o.chunk)
options values =
    with-chunk (λ (o : Options). IsChunk o.chunk) (λ chunk. option_and_then (λ format. option_and_then (λ stats. option_map (λ as_of. record { chunk = chunk; format = format; stats = stats; as_of = as_of }) (as_of_by values)) (stats_by values)) (format_by values)) (chunk_by values)
    (of-chunk values) (λ n h. then (λ (o : Options). IsChunk o.chunk) _ (format_by values) (λ format. then (λ (o : Options). IsChunk o.chunk) _ (stats_by values) (λ stats. any-of (λ (o : Options). IsChunk o.chunk) _ (as_of_by values) (λ as_of. h))))

a-table : (names : List Word) (values : Values) (o : Options) → IsChunk o.chunk → IfSome (table_in names values o) (λ q. IsChunk q.options.chunk)
a-table names values o h =
    then (λ (q : RunRequest). IsChunk q.options.chunk) _ (dated (name names 4)) (λ from.
    then (λ (q : RunRequest). IsChunk q.options.chunk) _ (dated (name names 5)) (λ to.
    any-of (λ (q : RunRequest). IsChunk q.options.chunk) _ (world_in names values) (λ world. h)))

a-run : (names : List Word) (values : Values) → IfSome (run_in names values) (λ q. IsChunk q.options.chunk)
a-run names values =
    with-chunk (λ (q : RunRequest). IsChunk q.options.chunk) (table_in names values) (options_by values) (options values) (a-table names values)

a-bench : (names : List Word) (values : Values) → IfSome (bench_in names values) (λ q. IsChunk q.chunk)
a-bench names values =
    then (λ (q : BenchRequest). IsChunk q.chunk) _ (sid_in (name names 0)) (λ number.
    mapped (λ (q : BenchRequest). IsChunk q.chunk) _ (chunk_by values) (of-chunk values))

window : (text : Word) → IfSome (window_in text) IsWindow
window text = then IsWindow (λ n. cond (nat_le 1 n && nat_le n most_window) (Some n) None) (sid_in text) (number most_window)

some-windows : (names : List Word) (values : Values) → IfSome (windows_in names values) (λ q. IsWindow q.window)
some-windows names values =
    then (λ (q : WindowsRequest). IsWindow q.window) _ (bar_column_in (name names 3)) (λ column.
    then (λ (q : WindowsRequest). IsWindow q.window) _ (dated (name names 4)) (λ from.
    then (λ (q : WindowsRequest). IsWindow q.window) _ (dated (name names 5)) (λ to.
    with-chunk (λ (q : WindowsRequest). IsWindow q.window) _ (window_in (name names 6)) (window (name names 6)) (λ n h.
    any-of (λ (q : WindowsRequest). IsWindow q.window) _ (bars_world_in names values) (λ world. h)))))

any : {X : Type 0} (f : X → Request) (o : Option X) → ((x : X) → HasChunk (f x)) → IfSome (option_map f o) HasChunk
any f None h = tt
any f (Some x) h = h x

of-command : (c : CommandName) (names : List Word) (values : Values) → IfSome (request_in c names values) HasChunk
of-command command.Run names values = mapped HasChunk Run (run_in names values) (a-run names values)
of-command command.Check names values = tt
of-command command.Fmt names values = tt
of-command command.Plan names values = any Plan (plan_in names) (λ q. tt)
of-command command.Bench names values = mapped HasChunk Bench (bench_in names values) (a-bench names values)
of-command command.Payouts names values = tt
of-command command.Explain names values = any Explain (explain_in names values) (λ q. tt)
of-command command.Verify names values = any Verify (verify_in names values) (λ q. tt)
of-command command.Daily names values = any Daily (daily_in names values) (λ q. tt)
of-command command.Cut names values = any Cut (cut_in names values) (λ q. tt)
of-command command.Windows names values = mapped HasChunk Windows (windows_in names values) (some-windows names values)

in-number : (c : CommandName) (names : List Word) (values : Values) → IfSome (counted c names values) HasChunk
unfolding counted
in-number c names values = here (length names == places_of c)
  where
    here : (b : Bool) → IfSome (cond b (request_in c names values) None) HasChunk
    here false = tt
    here true = of-command c names values

in-texts : (c : CommandName) (words : List Word) → IfSome (asked c words) HasChunk
in-texts c words = here (list_all is_text words)
  where
    here : (b : Bool) → IfSome (cond b (option_and_then (λ ps. counted c (names_of ps) (λ option. values_of option ps)) (parts (options_of c) None words)) None) HasChunk
    here false = tt
    here true = then HasChunk _ (parts (options_of c) None words) (λ ps. in-number c (names_of ps) (λ option. values_of option ps))

pub chunks-fit : (words : List Word) → IfSome (request words) HasChunk
unfolding request
chunks-fit [] = tt
chunks-fit (first ∷ words) = then HasChunk (λ c. asked c words) (command_named first) (λ c. in-texts c words)
