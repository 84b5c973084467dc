-- From the parts to the request.
use Rattle.std.proofs.Common.{◌≡◌, ◌∙◌, true, false, cond, refl, sym, ap, ap₂, List, [], map, length, Option, Some, None, Bor, ◌==◌}
use Rattle.std.specs.Prelude.{option_and_then}
use Rattle.std.specs.List.{list_all}
use Rattle.std.proofs.lemmas.List.{length-map}
use Rattle.clap.specs.Words.{Row, found_of, rows_of}
use Rattle.clap.specs.declared.parser.matches.ArgMatches.{ArgMatches}
use Rattle.pl_words.specs.declared.commands.OptionName.{OptionName}
use Rattle.pl_words.specs.declared.commands.CommandName.{CommandName}
use Rattle.pl_words.specs.declared.commands.CommandName.TheVariants.{Run}
use Rattle.pl_words.specs.Commands.{places_of, options_of}
use Rattle.pl_words.specs.Parts.{Word, Part, parts, text_of, names_of, values_of, is_text}
use Rattle.pl_words.specs.Apps.{names_id, values_at, rows_from, IsAnswered}
use Rattle.pl_words.specs.Request.{Values, asked, counted, request_in}
use Rattle.pl_words.proofs.Values.{names_are, values_are}

pub none_counted : (c : CommandName) (names : List Word) (values : Values) → names ≡ [] → counted c names values ≡ None
unfolding counted
none_counted c names values none = ap (λ ns. counted c ns values) none ∙ by c
  where
    by : (c : CommandName) → counted c [] values ≡ None
    by Run = refl
    by c = refl

pub counted_as : (c : CommandName) (vs : List (Bor Word)) (names : List Word) (values : Values) → map (λ v. v.now) vs ≡ names
    → counted c names values ≡ cond (length vs == places_of c) (request_in c (map (λ v. v.now) vs) values) None
unfolding counted
counted_as c vs names values same =
    ap (λ ns. counted c ns values) (sym same) ∙ ap (λ n. cond (n == places_of c) (request_in c (map (λ v. v.now) vs) values) None) (length-map vs (λ (v : Bor Word). v.now))

pub asked_none : (c : CommandName) (ws : List Word) → list_all is_text ws ≡ true → IsAnswered (parts (options_of c) None ws) None → asked c ws ≡ None
asked_none c ws texts answered = rw texts (go (parts (options_of c) None ws) answered)
  where
    go : (o : Option (List Part)) → IsAnswered o None → option_and_then (λ ps. counted c (names_of ps) (λ option. values_of option ps)) o ≡ None
    go None h = refl
    go (Some ps) h = absurd h

pub asked_some : (c : CommandName) (ws : List Word) (m : ArgMatches) → list_all is_text ws ≡ true → IsAnswered (parts (options_of c) None ws) (Some m)
    → asked c ws ≡ counted c (values_at names_id (rows_of (found_of m))) (λ o. values_at (text_of o) (rows_of (found_of m)))
asked_some c ws m texts answered = rw texts (go (parts (options_of c) None ws) answered)
  where
    go : (o : Option (List Part)) → IsAnswered o (Some m)
        → option_and_then (λ ps. counted c (names_of ps) (λ option. values_of option ps)) o ≡ counted c (values_at names_id (rows_of (found_of m))) (λ o. values_at (text_of o) (rows_of (found_of m)))
    go None h = absurd h
    go (Some ps) h =
        let by_rows : (λ (o : OptionName). values_at (text_of o) (rows_from [] ps)) ≡ (λ o. values_of o ps) = λ i o. values_are o ps i in
        sym (ap (λ (rs : List Row). counted c (values_at names_id rs) (λ o. values_at (text_of o) rs)) h ∙ ap₂ (λ ns vs. counted c ns vs) (names_are ps) by_rows)

pub counted_yes : (c : CommandName) (vs : List (Bor Word)) (names : List Word) (values : Values) → map (λ v. v.now) vs ≡ names → (length vs == places_of c) ≡ true
    → counted c names values ≡ request_in c (map (λ v. v.now) vs) values
counted_yes c vs names values same many = counted_as c vs names values same ∙ ap (λ b. cond b (request_in c (map (λ v. v.now) vs) values) None) many

pub counted_no : (c : CommandName) (vs : List (Bor Word)) (names : List Word) (values : Values) → map (λ v. v.now) vs ≡ names → (length vs == places_of c) ≡ false → counted c names values ≡ None
counted_no c vs names values same many = counted_as c vs names values same ∙ ap (λ b. cond b (request_in c (map (λ v. v.now) vs) values) None) many
