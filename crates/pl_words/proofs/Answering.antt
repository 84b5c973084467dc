-- From clap's answer to the parts.
use Rattle.std.proofs.Common.{◌≡◌, ◌∙◌, ◌+◌, ◌<◌, ◌≤◌, inl, inr, ℕ, zero, suc, true, false, refl, sym, ap, subst, arith, List, [], ◌∷◌, ◌++◌, map, length, take, Option, Some, None, Result, Ok, Err, IfOk, slice_index_or}
use Rattle.std.proofs.lemmas.List.{get_or_default, take_all}
use Rattle.clap.specs.Words.{AddsArg, App, HasKind, HasMatchesOf, IsAmong, Kinds, Rule, app_of, fault_of, found_of, is_simple, is_simple_and_free, kind_of, matches_of, rows_of, rule_of, with_rule}
use Rattle.clap.specs.declared.builder.arg.Arg.{Arg}
use Rattle.clap.specs.declared.builder.command.Command.{Command}
use Rattle.clap.specs.declared.error.Error.{Error}
use Rattle.clap.specs.declared.error.kind.ErrorKind.TheVariants.{OutOfMemory}
use Rattle.clap.specs.declared.parser.matches.ArgMatches.{ArgMatches}
use Rattle.clap.proofs.OnLiterals.{clap_on_literals}
use Rattle.pl_words.specs.declared.commands.OptionName.{OptionName}
use Rattle.pl_words.specs.declared.commands.CommandName.{CommandName}
use Rattle.pl_words.specs.declared.commands.CommandName.TheVariants.{Run}
use Rattle.pl_words.specs.Commands.{options_of}
use Rattle.pl_words.specs.Parts.{Word, Part, parts, has_short}
use Rattle.pl_words.specs.Apps.{app_for, app_with, names_rule, option_rule, IsAnswered}
use Rattle.pl_words.proofs.Walking.{refused, taken, short_refused}

-- ---- the command that is built

take_more : (xs : List OptionName) (i : ℕ) (x : OptionName) → i < length xs → x ≡ slice_index_or xs i x → map option_rule (take i xs) ++ option_rule x ∷ [] ≡ map option_rule (take (suc i) xs)
take_more [] i x lt at = absurd (omega arith)
take_more (y ∷ xs) zero x lt at = ap (λ z. option_rule z ∷ []) at
take_more (y ∷ xs) (suc i) x lt at = ap (λ rs. option_rule y ∷ rs) (take_more xs i x (omega arith) at)

app_more : (xs : List OptionName) (i : ℕ) (x : OptionName) (a b : App) → i < length xs → x ≡ slice_index_or xs i x → a ≡ app_with (names_rule ∷ map option_rule (take i xs))
    → b ≡ with_rule a (option_rule x) → b ≡ app_with (names_rule ∷ map option_rule (take (i + 1) xs))
app_more xs i x a b lt at is more =
    let next : i + 1 ≡ suc i = omega arith in
    more ∙ ap (λ (c : App). with_rule c (option_rule x)) is ∙ ap (λ rs. app_with (names_rule ∷ rs)) (take_more xs i x lt at) ∙ ap (λ n. app_with (names_rule ∷ map option_rule (take n xs))) (sym next)

pub app_next : (xs : List OptionName) (i : ℕ) (d : OptionName) (a b : App) → i < length xs → a ≡ app_with (names_rule ∷ map option_rule (take i xs))
    → b ≡ with_rule a (option_rule (slice_index_or xs i d)) → b ≡ app_with (names_rule ∷ map option_rule (take (i + 1) xs))
app_next xs i d a b lt is more = app_more xs i (slice_index_or xs i d) a b lt (get_or_default xs i d (slice_index_or xs i d) lt) is more

pub adds_rule : (a b : Command) (x : Arg) (r : Rule) → AddsArg a x b → x.global ≡ false → rule_of x ≡ r → app_of b ≡ with_rule (app_of a) r
adds_rule a b x r more local is = more.shape local ∙ ap (λ (q : Rule). with_rule (app_of a) q) is

pub app_end : (xs : List OptionName) (i : ℕ) (a : App) → length xs ≤ i → a ≡ app_with (names_rule ∷ map option_rule (take i xs)) → a ≡ app_for xs
unfolding app_for
app_end xs i a h is = is ∙ ap (λ ys. app_with (names_rule ∷ map option_rule ys)) (take_all i xs h)

-- ---- clap's clauses at it

pub free : (c : CommandName) → is_simple_and_free (app_for (options_of c)) ≡ true
unfolding clap_on_literals app_for
free Run = refl
free c = refl

pub simple : (c : CommandName) → is_simple (app_for (options_of c)) ≡ true
unfolding clap_on_literals app_for
simple Run = refl
simple c = refl

pub matches_as : {E : Type 0} (a b : App) (words : List Word) (r : Result ArgMatches E) → a ≡ b → is_simple b ≡ true → IfOk r (HasMatchesOf a words) → IfOk r (λ m. rows_of (found_of m) ≡ matches_of b words)
matches_as a b words (Ok m) e s h = subst (λ (x : App). rows_of (found_of m) ≡ matches_of x words) e (h (ap is_simple e ∙ s)).0
matches_as a b words (Err x) e s h = tt

-- ---- the answer

pub answered_short : (options : List OptionName) (ws : List Word) → has_short ws ≡ true → IsAnswered (parts options None ws) None
answered_short options ws e = subst (λ o. IsAnswered o None) (sym (short_refused options ws e).0) tt

pub answered_ok : (options : List OptionName) (ws : List Word) (m : ArgMatches) → has_short ws ≡ false → fault_of (app_for options) ws ≡ [] → rows_of (found_of m) ≡ matches_of (app_for options) ws
    → IsAnswered (parts options None ws) (Some m)
answered_ok options ws m e silent is = go (parts options None ws) refl
  where
    go : (o : Option (List Part)) → parts options None ws ≡ o → IsAnswered o (Some m)
    go None none = refused options ws e none silent
    go (Some ps) some = is ∙ (taken options ws ps e some).1

among_none : (k : Kinds) (x : _) → k ≡ [] → IsAmong x k → ⊥
among_none [] x e h = h
among_none (y ∷ ys) x e h = subst (IsAmong x) e h

pub answered_err : (options : List OptionName) (ws : List Word) (error : Error) → has_short ws ≡ false → HasKind (fault_of (app_for options) ws) error → (kind_of error ≡ OutOfMemory → ⊥)
    → IsAnswered (parts options None ws) None
answered_err options ws error e kinds other = go (parts options None ws) refl
  where
    go : (o : Option (List Part)) → parts options None ws ≡ o → IsAnswered o None
    go None none = tt
    go (Some ps) some = elim kinds [
      | inl memory ↦ other memory
      | inr among ↦ among_none (fault_of (app_for options) ws) (kind_of error) (taken options ws ps e some).0 among
    ]
