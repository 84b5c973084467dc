use Rattle.std.proofs.Common.{rules, ◌≡◌, length, vec_len}
use Rattle.pl_planner.proofs.Tables.{place-within, extra-within, extra-few, is-low_at}
use Rattle.pl_planner.proofs.plans.Plan.low_at.Goals as goal

pub index-requires : goal.index-requires
index-requires c =
    let n : c.len.result ≡ length c.self.inside.uses.items = search (rules, c.len.ensures) in
    let m : vec_len c.self.inside.extras ≡ length c.self.inside.extras.items = search rules in
    place-within _ c.args.self.now c.self.view_is c.self.invariant c.args.t.0 c.args.session (c.requires.used, (c.requires.from, c.requires.to)) c.len.result (vec_len c.self.inside.extras) n m

pub overflow_sub-result : goal.overflow_sub-result
overflow_sub-result c =
    let n : c.len.result ≡ length c.self.inside.uses.items = search (rules, c.len.ensures) in
    extra-within _ c.args.self.now c.self.view_is c.self.invariant c.args.t.0 c.args.session (c.requires.used, (c.requires.from, c.requires.to)) c.len.result c.index.result.now n c.index.ensures

pub returns-clause-value : goal.returns-clause-value
returns-clause-value c =
    let n : c.len.result ≡ length c.self.inside.uses.items = search (rules, c.len.ensures) in
    is-low_at _ c.args.self.now c.self.view_is c.self.invariant c.args.t.0 c.args.session (c.requires.used, (c.requires.from, c.requires.to)) c.len.result c.index.result.now n c.index.ensures

pub returns-clause-few : goal.returns-clause-few
returns-clause-few c =
    let n : c.len.result ≡ length c.self.inside.uses.items = search (rules, c.len.ensures) in
    extra-few _ c.args.self.now c.self.view_is c.self.invariant c.args.t.0 c.args.session (c.requires.used, (c.requires.from, c.requires.to)) c.len.result c.index.result.now n c.index.ensures
