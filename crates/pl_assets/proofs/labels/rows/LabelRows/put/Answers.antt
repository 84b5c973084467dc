use Rattle.std.proofs.Common.{◌<◌, ◌^◌, ◌∙◌, ◌++◌, ◌∷◌, [], ap, arith, rules, w32}
use Rattle.std.proofs.lemmas.Int.{to_z-of_z}
use Rattle.pl_assets.specs.LabelPlaces.{shown_rows}
use Rattle.pl_assets.proofs.FirstSeen.{place_count}
use Rattle.pl_assets.proofs.LabelRowsMade.{rows_more, numbered_more, few_names, front_kept}
use Rattle.pl_assets.proofs.labels.rows.LabelRows.put.Goals as goal

pub overflow_cast-number : goal.overflow_cast-number
overflow_cast-number c =
    let small : c.in_ok-number.field-0 < 2 ^ 32 = omega (arith, c.in_ok-number.ensures.number, place_count c.args.self.now.names c.args.name.now, few_names c.args.self.now c.requires.numbered, c.requires.few) in
    search rules

pub returns-in_err-push-clause-front : goal.returns-in_err-push-clause-front
returns-in_err-push-clause-front c =
    front_kept _ c.args.self.now record { names = c.insert.new.self; texts = c.code_of.new.texts; places = c.push.new.self } c.args.name.now c.args.text.now
    c.in_ok-number.ensures.texts c.in_ok-code.ensures.texts c.in_err-push.ensures.items

pub returns-clause-numbered : goal.returns-clause-numbered
returns-clause-numbered c =
    numbered_more c.args.self.now record { names = c.insert.new.self; texts = c.code_of.new.texts; places = c.push.new.self } c.args.name.now c.args.text.now _
    c.requires.numbered c.in_ok-number.ensures.texts c.in_ok-code.ensures.texts c.in_ok-push.ensures.items record {
      number = c.in_ok-number.ensures.number;
      code = rw c.in_ok-code.ensures.texts at c.in_ok-code.ensures.code;
      known = rw c.in_ok-code.ensures.texts at c.in_ok-code.ensures.known;
      col = search rules;
      day = search rules;
    } c.in_ok-code.ensures.few

pub returns-clause-row : goal.returns-clause-row
returns-clause-row c =
    rows_more c.args.self.now record { names = c.insert.new.self; texts = c.code_of.new.texts; places = c.push.new.self } c.args.name.now c.args.text.now _
    c.requires.numbered c.in_ok-number.ensures.texts c.in_ok-code.ensures.texts c.in_ok-push.ensures.items record {
      number = c.in_ok-number.ensures.number;
      code = rw c.in_ok-code.ensures.texts at c.in_ok-code.ensures.code;
      known = rw c.in_ok-code.ensures.texts at c.in_ok-code.ensures.known;
      col = search rules;
      day = search rules;
    }
    ∙ ap (λ day. shown_rows c.args.self.now ++ record { name = c.args.name.now; col = c.args.col; start = day; text = c.args.text.now } ∷ []) (to_z-of_z w32 c.args.start c.ranges.start)
