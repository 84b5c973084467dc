use Rattle.std.proofs.Common.{◌≡◌, sym, subst, List, true}
use Rattle.pl_check.specs.Seen.{value_of}
use Rattle.pl_check.specs.Made.{terms_of}
use Rattle.pl_check.specs.Values.{Bound}
use Rattle.pl_check.specs.Rules.{each}
use Rattle.pl_check.specs.Standing.{AreInGraph, has, is_few}
use Rattle.pl_check.proofs.Listed.{few-object}
use Rattle.pl_check.proofs.Walk.{object-own, object-stands}
use Rattle.pl_check.proofs.methods.called_on.Goals as goal

pub called_behind-requires : goal.called_behind-requires
called_behind-requires c = record {
  arguments = record {
    own = subst (λ (bs : List Bound). each (λ p v. has c.args.operation p) bs ≡ true) (sym c.in-Ok.ensures) (object-own c.args.operation (value_of c.args.object));
    few = subst (λ (bs : List Bound). is_few c.args.operation bs ≡ true) (sym c.in-Ok.ensures) (few-object c.args.operation (value_of c.args.object));
    stand = subst (AreInGraph (terms_of c.args.terms.now).graph) (sym c.in-Ok.ensures) (object-stands c.args.operation (value_of c.args.object) (terms_of c.args.terms.now).graph c.requires.stands);
    written = c.requires.written;
    sound = c.requires.sound;
  };
}
