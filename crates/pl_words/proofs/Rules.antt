-- What building makes of the arguments, and how they are found.
use Rattle.std.proofs.Common.{◌≡◌, ◌∙◌, ℕ, Bool, true, false, cond, ◌||◌, refl, ap, ap₂, List, [], ◌∷◌, map, Some, codes, option_map}
use Rattle.std.specs.Prelude.{bytes_eq, if◌then◌else◌}
use Rattle.clap.specs.Words.{Rule, Shape, built, new_rule}
use Rattle.clap.specs.Walk.{arg_by_id, arg_by_long, Text}
use Rattle.clap.specs.Simple.{filled, filled_from, with_index}
use Rattle.clap.specs.declared.builder.action.ArgAction.TheVariants.{Append}
use Rattle.clap.specs.declared.builder.range.ValueRange.{ValueRange}
use Rattle.clap.specs.declared.builder.value_parser.ValueParser.TheVariants as vp
use Rattle.pl_words.specs.declared.commands.OptionName.{OptionName}
use Rattle.pl_words.specs.declared.commands.OptionName.TheVariants.{Labels}
use Rattle.pl_words.specs.Parts.{text_of, has_value, option_named}
use Rattle.pl_words.specs.Apps.{names_id, option_rule, rules_for, app_for, bare_app, no_values}

abbrev pub one_value : ValueRange
one_value = record { start_inclusive = 1; end_inclusive = 1 }

abbrev pub built_names : Rule
built_names = record (new_rule names_id) { action = Some Append; range = Some one_value; parser = Some vp.String; index = Some 1 }

abbrev pub built_option : OptionName → Rule
built_option option = record (new_rule (text_of option)) {
  long = Some (text_of option);
  action = Some Append;
  range = Some (if has_value option then one_value else no_values);
  missing = if has_value option then [] else codes "yes" ∷ [];
  parser = Some vp.String;
}

abbrev pub built_rules : List OptionName → List Rule
built_rules options = built_names ∷ map built_option options

option_is : (i : ℕ) (option : OptionName) → with_index i (filled (option_rule option)) ≡ built_option option
option_is i Labels = refl
option_is i o = refl

options_are : (i : ℕ) (options : List OptionName) → filled_from i (map option_rule options) ≡ map built_option options
options_are i [] = refl
options_are i (o ∷ options) = ap₂ (λ r rs. r ∷ rs) (option_is i o) (options_are i options)

pub rules_are : (options : List OptionName) → filled_from 1 (rules_for options) ≡ built_rules options
rules_are options = ap (λ rs. built_names ∷ rs) (options_are 2 options)

abbrev pub built_shape : List OptionName → Shape
built_shape options = record bare_app.top { rules = built_rules options; is_built = true; disable_help_subcommand = true }

pub built_is : (options : List OptionName) → built (app_for options) ≡ record { top = built_shape options; subs = [] }
unfolding app_for
built_is options = ap (λ rs. record { top = record bare_app.top { rules = rs; is_built = true; disable_help_subcommand = true }; subs = [] }) (rules_are options)

-- ---- look-ups

pub find_long : (options : List OptionName) (name : Text) → arg_by_long (built_rules options) name ≡ option_map built_option (option_named options name)
find_long [] name = refl
find_long (o ∷ options) name = go (bytes_eq (text_of o) name) (find_long options name)
  where
    go : (b : Bool) → arg_by_long (built_rules options) name ≡ option_map built_option (option_named options name)
        → cond (b || false) (Some (built_option o)) (arg_by_long (map built_option options) name) ≡ option_map built_option (cond b (Some o) (option_named options name))
    go true e = refl
    go false e = e

pub find_id : (options : List OptionName) (o p : OptionName) → option_named options (text_of o) ≡ Some p → arg_by_id (built_rules options) (text_of o) ≡ Some (built_option p)
find_id options o p found = apart o ∙ among options ∙ ap (option_map built_option) found
  where
    apart : (o : OptionName) → arg_by_id (built_rules options) (text_of o) ≡ arg_by_id (map built_option options) (text_of o)
    apart Labels = refl
    apart p = refl

    among : (os : List OptionName) → arg_by_id (map built_option os) (text_of o) ≡ option_map built_option (option_named os (text_of o))
    among [] = refl
    among (q ∷ os) = go (bytes_eq (text_of q) (text_of o)) (among os)
      where
        go : (b : Bool) → arg_by_id (map built_option os) (text_of o) ≡ option_map built_option (option_named os (text_of o))
            → cond b (Some (built_option q)) (arg_by_id (map built_option os) (text_of o)) ≡ option_map built_option (cond b (Some q) (option_named os (text_of o)))
        go true e = refl
        go false e = e
