use Rattle.std.proofs.Common.{◌≡◌, true, List, [], ◌∷◌, ◌++◌, refl, sym, ap, subst, ◌∙◌}
use Rattle.pl_terms.specs.Nodes.{interned}
use Rattle.pl_check.specs.declared.operation.Operation.TheVariants.{Age}
use Rattle.pl_check.specs.declared.operation.Parameter.TheVariants.{Name}
use Rattle.pl_check.specs.declared.value.Bound as code
use Rattle.pl_check.specs.declared.value.Value as code_value
use Rattle.pl_check.specs.Made.{terms_of}
use Rattle.pl_check.specs.Operations.{parameters}
use Rattle.pl_check.specs.Parameters.{number_of}
use Rattle.pl_check.specs.Rules.{each}
use Rattle.pl_check.specs.Seen.{value_of, bounds_of, all_written}
use Rattle.pl_check.specs.Standing.{AreInGraph, has, is_few}
use Rattle.pl_check.specs.Typed.{called}
use Rattle.pl_check.specs.Values.{Bound, bound}
use Rattle.pl_check.proofs.Aged.{age-is-factor}
use Rattle.pl_check.proofs.ages.called_age.Goals as goal

-- the name alone is given
abbrev given : code_value.Value → List Bound
given name = bound Name (value_of name) ∷ []

one-bound : (name : code_value.Value) (items none : List code.Bound) → items ≡ none ++ record { parameter = Name; value = name } ∷ [] → none ≡ [] → bounds_of items ≡ given name
unfolding bounds_of
one-bound name items none e empty = ap bounds_of (e ∙ ap (λ l. l ++ record { parameter = Name; value = name } ∷ []) empty)

pub called_behind-requires : goal.called_behind-requires
unfolding parameters number_of
called_behind-requires c =
    let same = sym (one-bound c.args.name c.push.new.self.items c.new-bound.result.items c.in-Ok.ensures.items c.new-bound.ensures.items) in
    record {
      arguments = record {
        own = subst (λ (bs : List Bound). each (λ p v. has Age p) bs ≡ true) same refl;
        few = subst (λ (bs : List Bound). is_few Age bs ≡ true) same refl;
        stand = subst (AreInGraph (terms_of c.args.terms.now).graph) same (c.requires.name, tt);
        written = c.requires.written;
        sound = c.requires.sound;
      };
    }

pub kept_factor-requires : goal.kept_factor-requires
kept_factor-requires c =
    let s = terms_of c.args.terms.now in
    let t = terms_of c.called_behind.new.terms in
    let x = value_of c.in-Ok-called_behind.age in
    let same = one-bound c.args.name c.push.new.self.items c.new-bound.result.items c.in-Ok.ensures.items c.new-bound.ensures.items in
    age-is-factor c.args.place (given c.args.name) (all_written c.args.written.now) s t x
    (ap (λ bs. called interned c.args.place Age bs (all_written c.args.written.now) s) (sym same) ∙ c.in-Ok-called_behind.ensures)
