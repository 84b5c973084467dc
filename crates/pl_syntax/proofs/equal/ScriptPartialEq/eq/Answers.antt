use Rattle.std.specs.Str.{bytes_eq}
use Rattle.std.specs.Bool.{one_answer}
use Rattle.pl_syntax.specs.Scripts.{printed_text}
use Rattle.pl_syntax.proofs.SameText.{text_decides}
use Rattle.pl_syntax.proofs.equal.ScriptPartialEq.eq.Goals as goal

pub returns-clause-text : goal.returns-clause-text
returns-clause-text c =
    let a = c.args.self.now in
    let b = c.args.other.now in
    one_answer c.same_scripts.result (bytes_eq (printed_text a) (printed_text b)) c.same_scripts.ensures (text_decides a b)
